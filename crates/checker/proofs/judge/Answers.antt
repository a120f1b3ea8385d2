-- `checker::judge` meets its contract: the answer is the judgement's, and what is proved of the judgement holds of it. That a
-- file's entries are bytes is known of a slice.
-- Assumes nothing.
use Rattle.std.proofs.Common.{◌≡◌, ℕ, List, ap, ◌∙◌}
use Rattle.judgement.specs.declared.Answer.{Answer}
use Rattle.judgement.specs.Judgement.{answer_of, judgement}
use Rattle.judgement.specs.Demands.{IsBytes, Shape, ExactlyWhen, WhichFault, WhichClose, WhichIndependent, WhichResolution, WhichLinear, StillPasses, Sound, SoundWithin}
use Rattle.judgement.specs.Longer.{OldReasons}
use Rattle.judgement.proofs.Facts.Accepted.{exactly_when}
use Rattle.judgement.proofs.Facts.Strict.{still_passes}
use Rattle.judgement.proofs.Order.Shape.{shape}
use Rattle.judgement.proofs.Order.WhichFault.{which_fault}
use Rattle.judgement.proofs.Order.WhichClose.{which_close}
use Rattle.judgement.proofs.Order.WhichIndependent.{which_independent}
use Rattle.judgement.proofs.Order.WhichResolution.{which_resolution}
use Rattle.judgement.proofs.Order.WhichLinear.{which_linear}
use Rattle.judgement.proofs.Promised.{sound, sound_within, complete}
use Rattle.judgement.proofs.Longer.Answers.{old_reasons}
use Rattle.checker.proofs.judge.Goals as goal

module _ (s r : List ℕ) (a : Answer) (a-is : a ≡ judgement s r) where
  shape-answer : Shape s r a
  shape-answer = rw a-is (shape s r)

  exactly-answer : ExactlyWhen s r a
  exactly-answer = rw a-is (exactly_when s r)

  fault-answer : WhichFault s r a
  fault-answer = rw a-is (which_fault s r)

  close-answer : WhichClose s r a
  close-answer = rw a-is (which_close s r)

  independent-answer : WhichIndependent s r a
  independent-answer = rw a-is (which_independent s r)

  resolution-answer : WhichResolution s r a
  resolution-answer = rw a-is (which_resolution s r)

  linear-answer : WhichLinear s r a
  linear-answer = rw a-is (which_linear s r)

  still-answer : StillPasses s r a
  still-answer = rw a-is (still_passes s r)

  sound-answer : IsBytes s → Sound s r a
  sound-answer bytes = rw a-is (sound s r bytes)

  within-answer : SoundWithin s r a
  within-answer = rw a-is (sound_within s r)

  longer-answer : OldReasons s r a
  longer-answer = rw a-is (old_reasons s r)

pub returns : goal.returns
unfolding judgement
returns c =
    let is = c.answer_of.ensures ∙ ap (answer_of _ _) c.finding_of.ensures in
    let bytes : IsBytes c.args.sheet.now = λ i. (c.type_inv.sheet i).fits in record { answer = (is); shape = (shape-answer _ _ _ is); exactly = (exactly-answer _ _ _ is); fault = (fault-answer _ _ _ is); close = (close-answer _ _ _ is); independent = (independent-answer _ _ _ is); resolution = (resolution-answer _ _ _ is); linear = (linear-answer _ _ _ is); still = (still-answer _ _ _ is); sound = (sound-answer _ _ _ is bytes); within = (within-answer _ _ _ is); complete = (complete _ bytes); longer = (longer-answer _ _ _ is) }
