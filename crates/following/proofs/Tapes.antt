-- The tape by ticks: the mode of the state, and the tape from the state where it goes on, which has what is left of the value; a tape is as
-- long as its interval's end, and its numbers are those of modes. Assumes nothing.
use mathlib.Core.Path.{◌≡◌, refl, sym, ◌∙◌, ap}
use mathlib.Core.List.{◌∷◌}
use Prim.Native.Nat.{ℕ, zero, suc, pred, ◌-◌, ◌<◌}
use native.Mathlib.Nat.{sub-suc}
use native.Mathlib.Omega.{arith}
use lib.ListN.{length}
use Rattle.model.specs.Lists.{All}
use Rattle.model.specs.Sheet.{Module, modes_in}
use Rattle.model.specs.WellFormed.{ModuleRule}
use Rattle.model.specs.Run.{State, Listed}
use Rattle.model.specs.Demand.{nexts, value}
use Rattle.model.specs.Tape.{chosen, tape}
use Rattle.following.specs.Follow.{leaves, onward}
use Rattle.following.proofs.Choice.{chosen_listed, chosen_top, choice}
use Rattle.following.proofs.Ticks.{step_top}

pub tape_next : (m : Module) (a b : ℕ) (s : State) → tape m a (suc b) s ≡ s.mode ∷ tape m (pred a) b (chosen (value m (pred a) b) s (nexts m s))
unfolding tape
tape_next m a b s = refl

pub tape_tick : (m : Module) (s : State) (a b t : ℕ) → t < b
    → tape m (a - t) (b - t) s ≡ s.mode ∷ tape m (a - suc t) (b - suc t) (chosen (value m (a - suc t) (b - suc t)) s (nexts m s))
tape_tick m s a b t l = let e : b - t ≡ suc (b - suc t) = omega arith in rw (e, sub-suc a t) (tape_next m (a - t) (b - suc t) s)

pub tape_length : (m : Module) (a b : ℕ) (s : State) → length (tape m a b s) ≡ b
unfolding tape
tape_length m a zero s = refl
tape_length m a (suc b) s = ap suc (tape_length m (pred a) b _)

module _ (m : Module) (ok : ModuleRule m) where
  pub tape_below : (a b : ℕ) (s : State) → Listed m s → All (λ k. k < modes_in m) (tape m a b s)
  unfolding tape
  tape_below a zero s h = tt
  tape_below a (suc b) s h = (h.mode, tape_below (pred a) b _ (chosen_listed m ok s h (value m (pred a) b)))

  -- At tick t, in a state s of the value v: where the tape goes on is a state of a listed mode, of the value that v leaves.
  module _ (s : State) (in-mode : Listed m s) (a b t v : ℕ) (inside : t < b) (is_value : v ≡ value m (a - t) (b - t) s) where
    onward_chosen : chosen (value m (a - suc t) (b - suc t)) s (nexts m s) ≡ onward m a b t s v
    onward_chosen = choice m ok s in-mode (value m (a - suc t) (b - suc t)) (leaves m a b t s v) (step_top m ok s a b t v inside is_value)

    pub tape_onward : tape m (a - t) (b - t) s ≡ s.mode ∷ tape m (a - suc t) (b - suc t) (onward m a b t s v)
    tape_onward = tape_tick m s a b t inside ∙ ap (λ (u : State). s.mode ∷ tape m (a - suc t) (b - suc t) u) onward_chosen

    pub onward_listed : Listed m (onward m a b t s v)
    onward_listed = rw onward_chosen at (chosen_listed m ok s in-mode (value m (a - suc t) (b - suc t)))

    pub onward_value : leaves m a b t s v ≡ value m (a - suc t) (b - suc t) (onward m a b t s v)
    onward_value = step_top m ok s a b t v inside is_value ∙ sym (rw onward_chosen at (chosen_top m ok s in-mode (value m (a - suc t) (b - suc t))))
