use Rattle.std.proofs.Common.{◌≡◌, ℕ, ◌+◌, ◌-◌, ◌*◌, ◌/◌, ◌^◌, ◌<◌, ◌≤◌, List, set, ℤ, pos, ◌+ℤ◌, ◌-ℤ◌, nat_abs, ◌∙◌, arith, w64, to_z}
use Rattle.judgement.specs.Integers.{below_zero}
use Rattle.judgement.specs.Meaning.{variable_of}
use Rattle.judgement.specs.Literals.{count, code}
use Rattle.judgement.specs.Sheet.{variables}
use Rattle.judgement.specs.Linear.{remainder, entry_clause, addend}
use Rattle.judgement.specs.Facts.{Among, LiteralList}
use Rattle.judgement.specs.Demands.{IsBytes}
use Rattle.checker.specs.Prices.{price_at}
use Rattle.checker.specs.Weighing.{Entered, Weighing, full_of, moved, shift, negative_weight, kept_of}
use Rattle.checker.proofs.Bits.{held, again_right, add_size, shift_bound}
use Rattle.checker.proofs.Cited.{list_within, rising_few}
use Rattle.checker.proofs.Meeting.{met_state, met_told, old_size}
use Rattle.checker.proofs.Adding.{rem_to, rem_to_size}
use Rattle.checker.proofs.Entries.{same_list, clause_next, weight_next, price_full, full_small, next_variable, added_start, added_more, added_all, remainder_small, gain_small}
use Rattle.checker.proofs.linear.Scratch.add_entry.Goals as goal

-- ---- what is known of an entry: the clause C that entry j + 1 of E cites in S, and its weight y
module _ {S P E C : List ℕ} {pairs d j : ℕ} (y : ℕ) (bytes-s : IsBytes S) (bytes-e : IsBytes E) (entered : Entered S P E pairs d j)
    (clause-is : C ≡ entry_clause S E (j + 1)) (y-small : y < 2 ^ 16) where
  list : LiteralList (variables S) C
  list = same_list (variables S) clause-is entered.list

  form : LiteralList 1024 C
  form = list_within (variables S) 1024 entered.n list

  few-literals : count C ≤ 1024
  few-literals = rising_few _ 1024 _ form.variables

  -- the remainders as i literals have moved them
  abbrev rem : ℕ → ℕ → ℤ
  rem i = rem_to (remainder S E j) C y i

  rem-small : (i v : ℕ) → i ≤ count C → nat_abs (rem i v) ≤ 2 ^ 52
  rem-small i v l =
      let few = entered.few in
      let less = rising_few _ 1024 _ form.variables in
      let r = remainder_small S E bytes-s bytes-e j v (omega (arith, few)) in
      let small = rem_to_size (remainder S E j) C y i v y-small in
      omega (arith, r, small, less, l)

  -- what is known where literal i + 1, with code x, is met
  module _ {i x : ℕ} (less : i < count C) (x-is : x ≡ code C (i + 1)) where
    inside : Among (variables S) (variable_of x)
    inside = next_variable (variables S) C i list less x-is

    -- what the machine computes for d times the cost
    price-is : d * price_at P (2 * (x / 2) + 1) ≡ full_of S E (variable_of x)
    price-is = price_full S P E d (variable_of x) entered.divides entered.priced inside

    full-fits : d * price_at P (2 * (x / 2) + 1) ≤ 2 ^ 48
    full-fits = rw price-is (full_small S E (variable_of x) bytes-s bytes-e)

    module _ {marks : List ℕ} {rest : List ℤ} {t : ℕ} {D : List ℕ} (w : Weighing (variables S) D (full_of S E) (rem i) t marks rest) where
      abbrev old : ℤ
      old = kept_of marks rest t (d * price_at P (2 * (x / 2) + 1)) (x / 2)

      kept_small : nat_abs old < 2 ^ 60
      kept_small =
          rw price-is
          (old_size (variables S) D (full_of S E) (rem i) t marks rest x y entered.n inside w
          (rem-small i (variable_of x) (omega (arith, less)))
          (full_small S E (variable_of x) bytes-s bytes-e))

      met : Weighing (variables S) D (full_of S E) (moved (rem i) (variable_of x) (shift x y)) t
          (set marks (x / 2 - 1) t) (set rest (x / 2 - 1) (old +ℤ shift x y))
      met = rw price-is (met_state (variables S) D (full_of S E) (rem i) t marks rest x y entered.n inside w)

      told : {r : ℤ} → r ≡ below_zero (old +ℤ shift x y) -ℤ below_zero old -ℤ pos (negative_weight x y)
          → r ≡ addend D (variable_of x) (rem i (variable_of x) +ℤ shift x y) -ℤ addend D (variable_of x) (rem i (variable_of x)) -ℤ pos (negative_weight x y)
      told e =
          e ∙ rw (
            price-is,
            met_told (variables S) D (full_of S E) (rem i) t marks rest x y entered.n inside w
                (rem-small i (variable_of x) (omega (arith, less)))
                (full_small S E (variable_of x) bytes-s bytes-e)
                (shift x y) (shift_bound x y y-small),
          )

      -- what a literal adds is small
      gain-bounded : {r : ℤ} → r ≡ below_zero (old +ℤ shift x y) -ℤ below_zero old -ℤ pos (negative_weight x y) → nat_abs r ≤ 131072
      gain-bounded {r} e = gain_small D (variable_of x) (rem i (variable_of x)) r x y y-small (told e)

-- ---- the needs

pub loop-i-init : goal.loop-i-init
loop-i-init c =
    let y = c.u16_at-y in
    let e = held c.natural-sum.result c.natural-sum.type_inv ∙ c.natural-sum.ensures in
    let self = c.args.self.now in
    (rw e (omega (arith, y.ensures.1)), λ D w. added_start D c.args.priced.now.sheet.now c.args.tail.now c.args.j c.args.t c.clause-clause.result.now y.result self.marks self.rest _ e w)

pub overflow_mul-full-in-loop-i : goal.overflow_mul-full-in-loop-i
overflow_mul-full-in-loop-i c =
    let p = c.args.priced.now in
    let bytes : IsBytes c.args.tail.now = λ i. (c.type_inv.tail i).fits in
    let clause-is = clause_next p.sheet.now c.args.tail.now c.args.j c.clause-clause.ensures c.u32_at.ensures.0 in
    let y = c.u16_at-y in
    let full = full-fits y.result p.bytes bytes c.requires.0 clause-is y.ensures.1 (omega arith) c.code_in_form-c.ensures.0 in
    omega (arith, full)

pub meet-gain-requires : goal.meet-gain-requires
meet-gain-requires c =
    let p = c.args.priced.now in
    let bytes : IsBytes c.args.tail.now = λ i. (c.type_inv.tail i).fits in
    let clause-is = clause_next p.sheet.now c.args.tail.now c.args.j c.clause-clause.ensures c.u32_at.ensures.0 in
    let y = c.u16_at-y in
    let w = (c.loop-i.invariant.1 c.requires.2.0 c.requires.2.1).state in (
      w.stale,
      c.requires.1,
      c.code_in_form-c.ensures.1,
      full-fits y.result p.bytes bytes c.requires.0 clause-is y.ensures.1 (omega arith) c.code_in_form-c.ensures.0,
      y.ensures.1,
      kept_small y.result p.bytes bytes c.requires.0 clause-is y.ensures.1 (omega arith) c.code_in_form-c.ensures.0 w,
    )

pub plus-sum-requires : goal.plus-sum-requires
plus-sum-requires c =
    let p = c.args.priced.now in
    let bytes : IsBytes c.args.tail.now = λ i. (c.type_inv.tail i).fits in
    let clause-is = clause_next p.sheet.now c.args.tail.now c.args.j c.clause-clause.ensures c.u32_at.ensures.0 in
    let y = c.u16_at-y in
    let w = (c.loop-i.invariant.1 c.requires.2.0 c.requires.2.1).state in
    let g = gain-bounded y.result p.bytes bytes c.requires.0 clause-is y.ensures.1 (omega arith) c.code_in_form-c.ensures.0 w c.meet-gain.ensures.told in
    let few = few-literals y.result p.bytes bytes c.requires.0 clause-is y.ensures.1 in
    (omega (arith, c.loop-i.invariant.0, few), rw (held c.meet-gain.result c.meet-gain.type_inv) (omega (arith, g)))

pub loop-i-preserved : goal.loop-i-preserved
loop-i-preserved c =
    let p = c.args.priced.now in
    let bytes : IsBytes c.args.tail.now = λ i. (c.type_inv.tail i).fits in
    let clause-is = clause_next p.sheet.now c.args.tail.now c.args.j c.clause-clause.ensures c.u32_at.ensures.0 in
    let y = c.u16_at-y in
    let l = c.loop-i in
    let x-is = c.code_in_form-c.ensures.0 in
    let less : l.i < count c.clause-clause.result.now = omega arith in
    let w = (l.invariant.1 c.requires.2.0 c.requires.2.1).state in
    let g = gain-bounded y.result p.bytes bytes c.requires.0 clause-is y.ensures.1 less x-is w c.meet-gain.ensures.told in
    let gain = c.meet-gain in
    let sum = to_z w64 l.sum-bits in
    let sum_is = held c.plus-sum.result c.plus-sum.type_inv ∙ c.plus-sum.ensures ∙ again_right sum gain.result gain.type_inv in
    let s = add_size sum gain.result in (
      rw sum_is (omega (arith, g, l.invariant.0, s)),
      λ D w.
          let so = l.invariant.1 D w in
          added_more D p.sheet.now c.args.tail.now c.args.j c.args.t c.clause-clause.result.now y.result l.self.marks gain.new.self.marks l.self.rest gain.new.self.rest sum _ gain.result l.i c.code_in_form-c.result so
          (list y.result p.bytes bytes c.requires.0 clause-is y.ensures.1) less x-is
          (rw (gain.ensures.marked, gain.ensures.kept) (met y.result p.bytes bytes c.requires.0 clause-is y.ensures.1 less x-is so.state))
          (told y.result p.bytes bytes c.requires.0 clause-is y.ensures.1 less x-is so.state gain.ensures.told)
          sum_is,
    )

pub returns-clause-size : goal.returns-clause-size
returns-clause-size c =
    let p = c.args.priced.now in
    let bytes : IsBytes c.args.tail.now = λ i. (c.type_inv.tail i).fits in
    let clause-is = clause_next p.sheet.now c.args.tail.now c.args.j c.clause-clause.ensures c.u32_at.ensures.0 in
    let y = c.u16_at-y in
    let few = few-literals y.result p.bytes bytes c.requires.0 clause-is y.ensures.1 in
    omega (arith, few, c.loop-i.invariant.0)

pub returns-clause-adds : goal.returns-clause-adds
returns-clause-adds c =
    let p = c.args.priced.now in
    let bytes : IsBytes c.args.tail.now = λ i. (c.type_inv.tail i).fits in
    let clause-is = clause_next p.sheet.now c.args.tail.now c.args.j c.clause-clause.ensures c.u32_at.ensures.0 in
    let y = c.u16_at-y in
    let l = c.loop-i in
    λ D w.
    added_all D p.sheet.now c.args.tail.now c.args.j c.args.t c.clause-clause.result.now y.result l.self.marks l.self.rest (to_z w64 l.sum-bits) l.i
    (form y.result p.bytes bytes c.requires.0 clause-is y.ensures.1) clause-is (weight_next c.args.tail.now c.args.j y.ensures.0) (omega arith) (l.invariant.1 D w)
