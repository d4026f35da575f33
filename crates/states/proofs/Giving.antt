-- What a call learns where its terms are met, and that the figure that it then has is its answer. Assumes nothing.
use mathlib.Core.Path.{◌≡◌, sym, ◌∙◌, ap, subst}
use mathlib.Core.Bool.{and-eq-true_iff}
use mathlib.Core.List.{List}
use Prim.Native.Nat.{ℕ, ◌≤◌, ◌<◌}
use native.Mathlib.Omega.{arith}
use lib.ListN.{length, take, drop, length-append, length-drop}
use Rattle.std.specs.Prelude.{◌++◌}
use lib.Seq.{length-take-le, drop-append-add, drop-drop}
use borrow.Author.Tests.{ltb-true, leb-true}
use Rattle.model.specs.Sheet.{module_at}
use Rattle.model.specs.Limits.{max_horizon, work_numbers}
use Rattle.model.specs.Run.{at, mode_at}
use Rattle.model.specs.Demand.{value, module_demand}
use Rattle.format.specs.Judgement.{sheet_in, Accepted}
use Rattle.format.proofs.RoundTrip.{accepted_well_formed}
use Rattle.memory.specs.Map.{layer_numbers}
use Rattle.query.specs.Answer.{Meets, given}
use Rattle.query.specs.Query.{state_terms, module_terms, StateAnswer, ModuleAnswer}
use Rattle.query.specs.Memory.{Stays}
use Rattle.query.proofs.Answers.{state_answer_lem, module_answer_lem}
use Rattle.query.proofs.Meeting.{met_given}

-- no length past the layers
short_horizon : (bytes : List ℕ) → Accepted bytes → (sheet_in bytes).horizon ≤ max_horizon
short_horizon bytes accepted = (accepted_well_formed bytes (sheet_in bytes) accepted).horizon_most

-- The state demand.
module _ (bytes : List ℕ) (k m d L work : ℕ) where
  pub record InState : Type 0 where
    pub accepted : Accepted bytes
    pub number : k < length (sheet_in bytes).modules
    pub mode : m < length (module_at (sheet_in bytes) k).modes
    pub time : d < (mode_at (module_at (sheet_in bytes) k) m).period
    pub short : L ≤ max_horizon
    pub room : work_numbers ≤ work

  pub in_state : Meets (state_terms k m d L work) bytes → InState
  in_state met =
      let r = simp and-eq-true_iff at met.in_range in
      let l : L ≤ (sheet_in bytes).horizon = leb-true L (sheet_in bytes).horizon r.1 in
      record {
        accepted = met.accepted;
        number = ltb-true _ _ r.0.0.0;
        mode = ltb-true _ _ r.0.0.1;
        time = ltb-true _ _ r.0.1;
        short = omega (arith, short_horizon bytes met.accepted);
        room = leb-true _ _ met.enough;
      }

  pub state_is : {v : ℕ} → Meets (state_terms k m d L work) bytes → v ≡ value (module_at (sheet_in bytes) k) 0 L (at m d) → StateAnswer bytes k m d L work (given v)
  state_is {v} met e = subst (StateAnswer bytes k m d L work) (met_given (state_terms k m d L work) bytes met _ ∙ ap given (sym e)) (state_answer_lem bytes k m d L work)

-- The module demand.
module _ (bytes : List ℕ) (k L work : ℕ) where
  pub record InModule : Type 0 where
    pub accepted : Accepted bytes
    pub number : k < length (sheet_in bytes).modules
    pub short : L ≤ max_horizon
    pub room : work_numbers ≤ work

  pub in_module : Meets (module_terms k L work) bytes → InModule
  in_module met =
      let r = simp and-eq-true_iff at met.in_range in
      let l : L ≤ (sheet_in bytes).horizon = leb-true L (sheet_in bytes).horizon r.1 in
      record { accepted = met.accepted; number = ltb-true _ _ r.0; short = omega (arith, short_horizon bytes met.accepted); room = leb-true _ _ met.enough }

  pub module_is : {v : ℕ} → Meets (module_terms k L work) bytes → v ≡ module_demand (module_at (sheet_in bytes) k) L → ModuleAnswer bytes k L work (given v)
  module_is {v} met e = subst (ModuleAnswer bytes k L work) (met_given (module_terms k L work) bytes met _ ∙ ap given (sym e)) (module_answer_lem bytes k L work)

-- The lent memory with another layer in its first part.
pub stays_layer : (w ys : List ℕ) → work_numbers ≤ length w → length ys ≡ length (take layer_numbers w) → Stays work_numbers w (ys ++ drop layer_numbers w)
stays_layer w ys room e =
    let l : length ys ≡ layer_numbers = e ∙ length-take-le layer_numbers w (omega arith) in
    record {
      len = omega (arith, length-append ys (drop layer_numbers w), length-drop layer_numbers w);
      above = rw l at (drop-append-add ys (drop layer_numbers w) layer_numbers) ∙ drop-drop layer_numbers layer_numbers w;
    }
