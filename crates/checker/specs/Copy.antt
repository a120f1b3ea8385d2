-- Kind 1: what is looked at first.
-- Assumes nothing.
use Rattle.std.specs.Prelude.{ℕ, Bool, ◌&&◌, List}
use Rattle.judgement.specs.Finding.{is_fine}
use Rattle.judgement.specs.declared.Kind.TheVariants.{Copy}
use Rattle.judgement.specs.Step.{form_fine, cites_fine}
use Rattle.judgement.specs.Kinds.{copy_finding}

-- refusal 12 does not apply: the literals are those of the clause that b cites, and the bound is "none"
unfoldable pub is_copied : List ℕ → List ℕ → Bool
is_copied s b = is_fine (copy_finding s b 0)

-- a step of kind 1 with the body b passes: none of refusals 8, 9 and 12 applies. Which step it is does not matter
unfoldable pub copies : List ℕ → List ℕ → Bool
copies s b = form_fine Copy s b && cites_fine Copy s 0 b && is_copied s b
