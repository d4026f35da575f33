-- A tape is written tick by tick: the bytes so far, and the tape from the state that is reached, are the tape. Assumes nothing.
use mathlib.Core.Path.{◌≡◌, sym, ◌∙◌, ap}
use mathlib.Core.List.{List, ◌∷◌, ◌++◌, append_assoc, append-nil}
use Prim.Native.Nat.{ℕ, ◌+◌, ◌-◌, ◌≤◌, ◌<◌}
use native.Mathlib.Numerals.{add-one}
use native.Mathlib.Omega.{arith}
use lib.ListN.{length, take, set, length-set}
use lib.Seq.{take-suc-set, get_or-set_other}
use Rattle.model.specs.Lists.{max_of}
use Rattle.model.specs.Sheet.{Module}
use Rattle.model.specs.WellFormed.{ModuleRule}
use Rattle.model.specs.Run.{State as Moment, first, Listed, Next, gain}
use Rattle.model.specs.Demand.{nexts, value}
use Rattle.model.specs.Tape.{chosen, tape}
use Rattle.layers.specs.declared.Shape.{Shape}
use Rattle.layers.specs.Step.{look}
use Rattle.layers.specs.Layer.{Told, Tells, Each}
use Rattle.following.specs.Follow.{counted}
use Rattle.following.proofs.Choice.{chosen_next, chosen_listed, chosen_top}
use Rattle.following.proofs.Ticks.{value_step, step_top}
use Rattle.following.proofs.Tapes.{tape_tick}
use Rattle.tapes.specs.declared.State.{State}
use Rattle.tapes.specs.States.{the, Within}
use Rattle.tapes.specs.Taped.{Taped}
use Rattle.tapes.proofs.Answers.{within_listed}

-- at tick t, in the state x of the value v, from the bytes w on
pub record Following (s : Shape) (numbers : List ℕ) (a b : ℕ) (w w' : List ℕ) (x : State) (v t : ℕ) : Type 0 where
  pub len : length w' ≡ length w
  pub within : Within s x
  pub is_value : Each s numbers (λ m. v ≡ value m (a - t) (b - t) (the x))
  pub so_far : Each s numbers (λ m. take t w' ++ tape m (a - t) (b - t) (the x) ≡ tape m a b first)
  pub above : (i : ℕ) → b ≤ i → look w' i ≡ look w i

-- one byte more
so_far_more : (w : List ℕ) (t k : ℕ) (rest rest' whole : List ℕ) → t < length w → take t w ++ rest ≡ whole → rest ≡ k ∷ rest' → take (t + 1) (set w t k) ++ rest' ≡ whole
so_far_more w t k rest rest' whole l e next = rw (add-one t, take-suc-set w t k l, append_assoc) (rw next at e)

module _ (s : Shape) (numbers : List ℕ) (a b : ℕ) (tells : Tells s numbers) where
  pub following_end : (w w' : List ℕ) (x : State) (v t : ℕ) → t ≡ b → Following s numbers a b w w' x v t → Taped s numbers a b w w'
  unfolding tape
  following_end w w' x v t e h = record { len = h.len; written = written; above = h.above }
    where
      written : Each s numbers (λ m. take b w' ≡ tape m a b first)
      written m ok told =
          let over : b - b ≡ 0 = omega arith in
          sym (append-nil (take b w')) ∙ rw over at (rw e at (h.so_far m ok told))

-- at tick t, before the end, where the state gains g
pub record Gained (s : Shape) (numbers : List ℕ) (a b : ℕ) (w w' : List ℕ) (x : State) (v t g : ℕ) : Type 0 where
  pub now : Following s numbers a b w w' x v t
  pub inside : t < b
  pub gains : Each s numbers (λ m. g ≡ gain m (the x) 0 (counted a b t))

module _ (s : Shape) (numbers : List ℕ) (a b : ℕ) (tells : Tells s numbers) (w w' : List ℕ) (x : State) (v t g : ℕ) (h : Gained s numbers a b w w' x v t g) where
  is_listed : (m : Module) → ModuleRule m → Told m s numbers → Listed m (the x)
  is_listed m ok told = within_listed m ok s numbers told x h.now.within

  pub gain_below : g ≤ v
  gain_below =
      let m : Module = tells.owner in
      omega (arith, h.gains m tells.rule tells.told, h.now.is_value m tells.rule tells.told, value_step m tells.rule (the x) a b t h.inside)

  -- what the gain leaves is the largest value of a next state
  pub top_is : Each s numbers (λ m. v - g ≡ max_of (value m (a - (t + 1)) (b - (t + 1))) (nexts m (the x)))
  top_is m ok told = rw (h.gains m ok told, add-one t) (step_top m ok (the x) a b t v h.inside (h.now.is_value m ok told))

  module _ (to : ℕ) (is-mode : Each s numbers (λ m. to ≡ (chosen (value m (a - (t + 1)) (b - (t + 1))) (the x) (nexts m (the x))).mode)) where
    pub mode_below : to < s.modes
    mode_below =
        let m : Module = tells.owner in
        let told = tells.told in
        omega (arith, is-mode m tells.rule told, told.modes, (chosen_listed m tells.rule (the x) (is_listed m tells.rule told) (value m (a - (t + 1)) (b - (t + 1)))).mode)

    module _ (y : State) (goes : (m : Module) (n : List ℕ) → ModuleRule m → Told m s n → (u : Moment) → Next m (the x) u → u.mode ≡ to → the y ≡ u) where
      is_chosen : Each s numbers (λ m. the y ≡ chosen (value m (a - (t + 1)) (b - (t + 1))) (the x) (nexts m (the x)))
      is_chosen m ok told = goes m numbers ok told _ (chosen_next m ok (the x) (is_listed m ok told) (value m (a - (t + 1)) (b - (t + 1)))) (sym (is-mode m ok told))

      still_within : Within s y
      still_within =
          let m : Module = tells.owner in
          let told = tells.told in
          let l : Listed m (the y) = rw (is_chosen m tells.rule told) (chosen_listed m tells.rule (the x) (is_listed m tells.rule told) (value m (a - (t + 1)) (b - (t + 1)))) in
          let mode : y.mode < s.modes = omega (arith, l.mode, told.modes) in
          record { mode = mode; time = omega (arith, l.time, (told.each y.mode mode).period) }

      pub following_more : b ≤ length w → Following s numbers a b w (set w' t x.mode) y (v - g) (t + 1)
      following_more room = record {
        len = length-set w' t x.mode ∙ h.now.len;
        within = still_within;
        is_value = λ m ok told. top_is m ok told ∙ sym (chosen_top m ok (the x) (is_listed m ok told) _) ∙ ap (value m (a - (t + 1)) (b - (t + 1))) (sym (is_chosen m ok told));
        so_far = λ m ok told.
            so_far_more w' t x.mode _ _ _ (omega (arith, h.now.len, h.inside)) (h.now.so_far m ok told)
            (rw (is_chosen m ok told, add-one t) (tape_tick m (the x) a b t h.inside));
        above = λ i k. get_or-set_other w' t i x.mode 0 (omega (arith, h.inside)) ∙ h.now.above i k;
      }
