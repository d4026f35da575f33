-- Numbers of which only the kept modes are left tell the module in which every other mode is idle. Assumes nothing.
use mathlib.Core.Path.{◌≡◌, refl, sym, ◌∙◌}
use mathlib.Core.Bool.{Bool, true, false, cond, ◌&&◌, false≢true}
use mathlib.Core.List.Memᴰ
use mathlib.Core.List.{List, []}
use Prim.Native.Nat.{ℕ, ◌+◌, ◌*◌, ◌/◌, ◌<◌}
use native.Mathlib.Omega.{arith}
use lib.ListN.{get_or}
use Rattle.model.specs.Sheet.{Module}
use Rattle.model.specs.WellFormed.{ModuleRule}
use Rattle.model.specs.Run.{idle, mode_at}
use Rattle.model.specs.Emptied.{emptied}
use Rattle.model.proofs.Runs.{switch_rule}
use Rattle.model.proofs.Emptied.{emptied_at, emptied_length}
use Rattle.layers.specs.declared.Shape.{Shape}
use Rattle.layers.specs.Step.{look, lists, tasks_of}
use Rattle.layers.specs.Layer.{ModeTold, Told}
use Rattle.emptying.specs.Kept.{kept_tasks, Between}

-- s and numbers become s' and out
module _ (s s' : Shape) (numbers out : List ℕ) (kept : List Bool) (modes : s'.modes ≡ s.modes) (every : s'.every ≡ s.every)
    (periods : (k : ℕ) → k < 8 → look s'.periods k ≡ cond (get_or kept k false) (look s.periods k) 1)
    (listed : (i : ℕ) → i < 64 → get_or s'.listed i false ≡ (get_or kept (i / 8) false && get_or s.listed i false))
    (tasks : (k : ℕ) → k < s.modes → Between s'.starts out k (kept_tasks s numbers kept k)) where
  -- what stands at 8 * k + t
  lists_at : (k t : ℕ) → k < 8 → t < 8 → lists s' k t ≡ (get_or kept k false && lists s k t)
  lists_at k t h l = let mode : (8 * k + t) / 8 ≡ k = omega arith in rw mode at (listed (8 * k + t) (omega arith))

  module _ (m : Module) (rule : ModuleRule m) (told : Told m s numbers) where
    abbrev left : Module
    left = emptied (λ k. get_or kept k false) m

    few : (k : ℕ) → k < s.modes → k < 8
    few k h = omega (arith, told.modes, rule.most)

    -- what a mode becomes, where it is kept and where not
    mode_left : (k : ℕ) (b : Bool) → get_or kept k false ≡ b → mode_at left k ≡ cond b (mode_at m k) idle
    mode_left k b q = rw q at (emptied_at (λ j. get_or kept j false) m k)

    period_left : (k : ℕ) → k < s.modes → (b : Bool) → get_or kept k false ≡ b → look s'.periods k ≡ cond b (look s.periods k) 1
    period_left k h b q = rw q at (periods k (few k h))

    tasks_left : (k : ℕ) → k < s.modes → (b : Bool) → get_or kept k false ≡ b → tasks_of s' out k ≡ cond b (tasks_of s numbers k) []
    unfolding kept_tasks
    tasks_left k h b q = rw q at (tasks k h).tasks

    lists_left : (k t : ℕ) → k < s.modes → t < s.modes → (b : Bool) → get_or kept k false ≡ b → lists s' k t ≡ (b && lists s k t)
    lists_left k t h l b q = rw q at (lists_at k t (few k h) (few t l))

    mode_told : (k : ℕ) → k < s.modes → (b : Bool) → get_or kept k false ≡ b → ModeTold left s' out k
    mode_told k h true q =
        let mode = mode_left k true q in
        let was : ModeTold m s numbers k = told.each k h in
        record {
          period = rw mode (period_left k h true q ∙ was.period);
          up = (tasks k h).up;
          within = (tasks k h).within;
          tasks = rw mode (tasks_left k h true q ∙ was.tasks);
          listed = rw mode (λ w i.
              let there : w.target < s.modes = omega (arith, told.modes, (switch_rule m rule k w i).there) in
              (lists_left k w.target h there true q ∙ (was.listed w i).0, rw every (was.listed w i).1));
          only = rw (mode, every) (λ t l e. was.only t (omega (arith, modes)) (sym (lists_left k t h (omega (arith, modes)) true q) ∙ e));
        }
    mode_told k h false q =
        let mode = mode_left k false q in
        record {
          period = rw mode (period_left k h false q);
          up = (tasks k h).up;
          within = (tasks k h).within;
          tasks = rw mode (tasks_left k h false q);
          listed = rw mode (λ w i. absurd (Memᴰ.not-nil i));
          only = λ t l e. absurd (false≢true (sym (lists_left k t h (omega (arith, modes)) false q) ∙ e));
        }

    pub told_emptied : Told left s' out
    told_emptied = record { modes = modes ∙ told.modes ∙ sym (emptied_length (λ k. get_or kept k false) m); each = λ k h. mode_told k (omega (arith, modes)) (get_or kept k false) refl }
