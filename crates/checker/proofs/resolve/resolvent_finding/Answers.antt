-- `checker::resolve::resolvent_finding` meets its contract. The parts and the pivot that are read are those of the three
-- bodies; pivot, literals and bounds are tried in the definition's order.
-- Assumes nothing.
use Rattle.std.proofs.Common.{◌∙◌, arith}
use Rattle.checker.proofs.Marking.{stale_later}
use Rattle.checker.proofs.Resolution.{pivot_beyond, resolve_fault, bounds_left}
use Rattle.checker.proofs.resolve.resolvent_finding.Goals as goal

pub returns-then-p-gt1024 : goal.returns-then-p-gt1024
returns-then-p-gt1024 c =
    let a = c.args in
    record { finding = (rw c.at.ensures (pivot_beyond a.x.bytes.now a.y.bytes.now a.b.bytes.now a.k c.pivot-p.ensures.0 c.requires.0.of_x.list (omega arith))); stale = (stale_later (omega arith) c.requires.2) }

pub resolve-requires : goal.resolve-requires
resolve-requires c =
    let h = c.requires in (
      h.2,
      omega arith,
      omega arith,
      omega arith,
    )

pub returns-then-not-resolve : goal.returns-then-not-resolve
returns-then-not-resolve c =
    let a = c.args in record {
      finding = (c.resolve_fault.ensures
          ∙ resolve_fault a.x.bytes.now a.y.bytes.now a.b.bytes.now a.k c.list_of-a.ensures c.list_of-c.ensures
          c.list_of-d.ensures c.pivot-p.ensures.0 c.resolve.ensures.resolves c.if-not-resolve.true);
      stale = (c.resolve.ensures.stale);
    }

pub returns : goal.returns
returns c =
    let a = c.args in record {
      finding = (rw
          (bounds_left a.x.bytes.now a.y.bytes.now a.b.bytes.now a.k c.list_of-a.ensures c.list_of-c.ensures
          c.list_of-d.ensures c.pivot-p.ensures.0 c.resolve.ensures.resolves c.if-not-resolve.false)
          c.bound_finding.ensures);
      stale = (c.resolve.ensures.stale);
    }
