-- What the tests before the quick test say of a call, and that the verdict that it then has is its answer. Assumes nothing.
use mathlib.Core.Path.{sym, ◌∙◌, ap, subst}
use mathlib.Core.List.{List}
use Prim.Native.Nat.{ℕ, ◌≤◌}
use native.Mathlib.Omega.{arith}
use lib.ListN.{length}
use Rattle.model.specs.Limits.{max_horizon}
use Rattle.model.specs.Verdict.{quick}
use Rattle.format.specs.Judgement.{sheet_in}
use Rattle.format.proofs.RoundTrip.{accepted_well_formed}
use Rattle.std.specs.Prelude.{Option, Ok}
use Rattle.sums.specs.declared.Excess.{Excess}
use Rattle.query.specs.Answer.{Terms, given}
use Rattle.query.specs.Query.{quick_terms, QuickAnswer}
use Rattle.query.proofs.Answers.{quick_answer_lem}
use Rattle.query.proofs.Meeting.{met_given}
use Rattle.quick.specs.Quick.{QuickTested}
use Rattle.judge.specs.declared.Judged.{Judged}
use Rattle.quick.specs.Sums.{Found}
use Rattle.quick.specs.Asking.{Sound}
use Rattle.quick.proofs.Pieces.{found_all}

-- What a sound call has: memory enough, and no length past the row of sums.

pub sound_horizon : {t : Terms} {bytes : List ℕ} {a : Judged} → Sound t bytes a → a.horizon ≤ max_horizon
sound_horizon {bytes = bytes} sound = omega (arith, sound.horizon_is, (accepted_well_formed bytes (sheet_in bytes) sound.met.accepted).horizon_most)

module _ (bytes w w' : List ℕ) where
  -- what is found up to the horizon is the verdict
  pub quick_is : (a : Judged) (r : Option Excess) → Sound (quick_terms (length w)) bytes a → Found (sheet_in bytes) a.horizon r w w' → QuickTested bytes w w' (Ok r)
  quick_is a r sound found =
      let is = found_all (sheet_in bytes) a.horizon r w w' sound.horizon_is found in
      record {
        answer = subst (QuickAnswer bytes (length w)) (met_given (quick_terms (length w)) bytes sound.met quick ∙ sym (ap given is)) (quick_answer_lem bytes (length w));
        memory = found.stays;
      }
