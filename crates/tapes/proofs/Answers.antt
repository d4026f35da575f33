-- A step to a mode answers the one next state in that mode, or that there is none; and so it tells whether the mode opens. Assumes nothing.
use mathlib.Core.Path.{◌≡◌, refl, sym, ◌∙◌, ap}
use mathlib.Core.Bool.{Bool, true, false, ◌&&◌, true≢false, and-eq-true_iff}
use mathlib.Core.List.{List}
use Prim.Native.Nat.{ℕ, ◌+◌, ◌%◌, ◌<◌}
use native.Mathlib.Omega.{arith}
use lib.Dec.{eqb}
use borrow.Author.Tests.{eq-eqb, ne_eqb, eqb-true}
use Rattle.std.specs.Bool.{then_some}
use Rattle.std.specs.Prelude.{Option, Some, None, MatchOption, unwrap_or}
use Rattle.model.specs.Sheet.{Module}
use Rattle.model.specs.WellFormed.{ModuleRule}
use Rattle.model.specs.Run.{State as Moment, at, mode_at, Listed, Next, on, again, switched}
use Rattle.model.proofs.Runs.{next_apart}
use Rattle.layers.specs.declared.Shape.{Shape}
use Rattle.layers.specs.Step.{period, lists, every}
use Rattle.layers.specs.Layer.{Told}
use Rattle.following.specs.Follow.{opens, Follows, in_stay, at_head}
use Rattle.following.proofs.Opens.{opens_next, next_cases}
use Rattle.tapes.specs.declared.State.{State}
use Rattle.tapes.specs.States.{the, Within, Answers}

module _ (m : Module) (ok : ModuleRule m) (s : Shape) (numbers : List ℕ) (told : Told m s numbers) (x : State) (within : Within s x) where
  same_period : period s x.mode ≡ (mode_at m x.mode).period
  same_period = (told.each x.mode within.mode).period

  pub within_listed : Listed m (the x)
  within_listed = record { mode = omega (arith, told.modes, within.mode); time = omega (arith, same_period, within.time) }

  -- What a step answers.

  module _ (to : ℕ) where
    pub goes_to : to < s.modes → lists s x.mode to ≡ true → (x.time + 1) % every s x.mode to ≡ 0 → Answers m x to (Some (record { mode = to; time = 0 }))
    goes_to l e o =
        let w = (told.each x.mode within.mode).only to l e in
        (switched w.0 w.1 (rw w.3 o) (ap (λ (k : ℕ). at k 0) (sym w.2)), refl)

    -- no other mode is entered but by a switch that is listed and open
    pub goes_nowhere : (to ≡ x.mode → ⊥) → lists s x.mode to && eqb ((x.time + 1) % every s x.mode to) 0 ≡ false → Answers m x to None
    goes_nowhere other shut t (on l e) q = other (sym q ∙ ap (λ (u : Moment). u.mode) e)
    goes_nowhere other shut t (again l e) q = other (sym q ∙ ap (λ (u : Moment). u.mode) e)
    goes_nowhere other shut t (switched w i o e) q =
        let target : w.target ≡ to = sym (ap (λ (u : Moment). u.mode) e) ∙ q in
        let p = (told.each x.mode within.mode).listed w i in
        true≢false (sym (rw (sym target) (rw (p.0, p.1, eq-eqb ((x.time + 1) % w.period) 0 o))) ∙ shut)

    pub goes_over : (b : Bool) → b ≡ (lists s x.mode to && eqb ((x.time + 1) % every s x.mode to) 0) → (to ≡ x.mode → ⊥) → to < s.modes
        → Answers m x to (then_some b (record { mode = to; time = 0 }))
    goes_over true e other l = let both = (and-eq-true_iff _ _).0 (sym e) in goes_to l both.0 (eqb-true _ _ both.1)
    goes_over false e other l = goes_nowhere other (sym e)

  -- What the answer tells.

  module _ (j : ℕ) where
    pub opens_not : Answers m x j None → opens m (the x) j ≡ false
    opens_not none = pick (opens m (the x) j) refl
      where
        pick : (c : Bool) → opens m (the x) j ≡ c → c ≡ false
        pick true e = absurd (none (at j 0) (opens_next m (the x) j e) refl)
        pick false e = refl

    -- the state that is answered is the first of its mode exactly where the mode opens
    pub opens_first : (n : State) → Answers m x j (Some n) → opens m (the x) j ≡ eqb n.time 0
    opens_first n (next, e) = pick (opens m (the x) j) refl (next_cases m (the x) (the n) next)
      where
        pick : (c : Bool) → opens m (the x) j ≡ c → Follows m (the x) (the n) → c ≡ eqb n.time 0
        pick true o f =
            let same : the n ≡ at j 0 = next_apart m ok (the x) (the n) (at j 0) next (opens_next m (the x) j o) e in
            sym (eq-eqb n.time 0 (ap (λ (u : Moment). u.time) same))
        pick false o (in_stay l q) = let z : n.time ≡ x.time + 1 = ap (λ (u : Moment). u.time) q in sym (ne_eqb n.time 0 (omega arith))
        pick false o (at_head k h q) =
            let same : k ≡ j = sym (ap (λ (u : Moment). u.mode) q) ∙ e in
            absurd (true≢false (sym (rw same at h) ∙ o))

    pub opens_asked : (r : Option State) (b : Bool) → Answers m x j r → MatchOption r (b ≡ false) (λ n. b ≡ eqb n.time 0) → b ≡ opens m (the x) j
    opens_asked (Some n) b answers e = e ∙ sym (opens_first n answers)
    opens_asked None b answers e = e ∙ sym (opens_not answers)

    -- of the next states one is in the mode, so it is answered
    pub answered : (r : Option State) (t : Moment) → Answers m x j r → Next m (the x) t → t.mode ≡ j → the (unwrap_or r x) ≡ t
    answered (Some n) t (next, e) h q = next_apart m ok (the x) (the n) t next h (e ∙ sym q)
    answered None t none h q = absurd (none t h q)
