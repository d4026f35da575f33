-- From one layer of a module to the next, by the numbers that tell the module; the first layer; and the largest number of a layer, which is the
-- largest demand from any state of a listed mode. Assumes nothing.
use mathlib.Core.Path.{◌≡◌, refl, sym, ap, ◌∙◌, subst}
use mathlib.Core.Bool.{true}
use mathlib.Core.List.{List, Memᴰ}
use Prim.Native.Nat.{ℕ, zero, suc, ◌+◌, ◌%◌, ◌^◌, ◌≤◌, ◌<◌, max}
use native.Mathlib.Nat.{zero-add, add-zero, add-suc, mod-lt}
use native.Mathlib.Numerals.{add-one}
use native.Mathlib.Omega.{arith}
use lib.Dec.{eqb}
use lib.ListN.{length}
use Rattle.model.specs.Lists.{max_below, All}
use Rattle.model.specs.Sheet.{Switch, Module}
use Rattle.model.specs.WellFormed.{TaskRule, SwitchRule, ModeRule, ModuleRule}
use Rattle.model.specs.Run.{State, at, mode_at, Listed}
use Rattle.model.specs.Demand.{value, listed_demand}
use Rattle.model.proofs.Lists.{all_mem, max_below_same}
use Rattle.model.proofs.Runs.{mode_rule, best_next, next_listed}
use Rattle.layers.specs.declared.Shape.{Shape}
use Rattle.model.proofs.Bounds.{value_bound}
use Rattle.layers.specs.Step.{sum_below, look, total, period, lists, every, tasks_of, offered, step_at, Stepped, Cleared, ModeReady, Ready}
use Rattle.layers.specs.Layer.{place, states_of, Holds, Layer, next, earlier, ModeTold, Told, Steppable, SteppedBy}
use Rattle.layers.proofs.Sums.{sum_same, sum_before}
use Rattle.layers.proofs.Turns.{next_inside, turn_next, turn_back, turn_open, turn_largest}
use Rattle.layers.proofs.Bounds.{gain_le}
use Rattle.layers.proofs.Nexts.{nexts_split, offered_is, gained_is, tasks_ready}

-- Places.

-- the place is behind the periods that are told
pub place_told : (m : Module) (s : Shape) (numbers : List ℕ) → Told m s numbers → (k : ℕ) → k ≤ s.modes → (d : ℕ) → place m k d ≡ total s.periods k + d
unfolding place
place_told m s numbers told k h d = ap (λ (x : ℕ). x + d) (sym (sum_same (look s.periods) (λ j. (mode_at m j).period) k (λ j l. (told.each j (omega arith)).period)))

pub states_told : (m : Module) (s : Shape) (numbers : List ℕ) → Told m s numbers → states_of m ≡ total s.periods s.modes
states_told m s numbers told = ap (λ (n : ℕ). place m n 0) (sym told.modes) ∙ place_told m s numbers told s.modes (omega arith) 0 ∙ omega arith

-- a listed state's place is among the states
pub place_inside : (m : Module) (k d : ℕ) → k < length m.modes → d < (mode_at m k).period → place m k d < states_of m
unfolding place
place_inside m k d h i = omega (arith, sum_before (λ j. (mode_at m j).period) k (length m.modes) h)

-- what a layer holds, at the place that the numbers give
pub held_told : (m : Module) (s : Shape) (numbers : List ℕ) → Told m s numbers → (n : ℕ) (f : State → ℕ) (w : List ℕ) → Holds m n f w
    → (k d : ℕ) → k < s.modes → d < period s k → look w (total s.periods k + (d + n) % period s k) ≡ f (at k d)
held_told m s numbers told n f w layer k d h i =
    let p : period s k ≡ (mode_at m k).period = (told.each k h).period in
    ap (look w) (sym (place_told m s numbers told k (omega arith) ((d + n) % period s k)) ∙ ap (λ (x : ℕ). place m k ((d + n) % x)) p) ∙ layer.holds k d (omega (arith, told.modes)) (omega arith)

pub value_told : (m : Module) (s : Shape) (numbers : List ℕ) → Told m s numbers → (L : ℕ) (w : List ℕ) → Layer m L w
    → (k d : ℕ) → k < s.modes → d < period s k → look w (total s.periods k + (d + L) % period s k) ≡ value m 0 L (at k d)
value_told m s numbers told L w = held_told m s numbers told L (value m 0 L) w

-- One step.

module _ (m : Module) (ok : ModuleRule m) (s : Shape) (numbers : List ℕ) (told : Told m s numbers) where
  told_rule : (k : ℕ) → k < s.modes → ModeRule (length m.modes) k (mode_at m k)
  told_rule k h = mode_rule m ok k (omega (arith, told.modes))

  switch_rule : (k : ℕ) → k < s.modes → (w : Switch) → Memᴰ w (mode_at m k).switches → SwitchRule (length m.modes) k (mode_at m k) w
  switch_rule k h w = all_mem (SwitchRule (length m.modes) k (mode_at m k)) w (mode_at m k).switches (told_rule k h).switches

  -- the step may be taken
  pub told_ready : Ready s numbers
  told_ready = record { few = omega (arith, told.modes, ok.most); each = λ k h. mode k h (told.each k h) }
    where
      mode : (k : ℕ) → k < s.modes → ModeTold m s numbers k → ModeReady s numbers k
      mode k h t = record {
        positive = omega (arith, t.period, (told_rule k h).least);
        up = t.up;
        within = t.within;
        switches = λ j l e. let r = t.only j l e in omega (arith, r.3, (switch_rule k h r.0 r.1).positive);
        tasks = rw t.tasks (tasks_ready (mode_at m k).period (mode_at m k).tasks (told_rule k h).tasks);
      }

  module _ (n : ℕ) (f : State → ℕ) (w : List ℕ) (layer : Holds m n f w) where
    pub told_room : total s.periods s.modes ≤ length w
    told_room = omega (arith, states_told m s numbers told, layer.room)

    module _ (heads : List ℕ) (are : (k : ℕ) → k < s.modes → look heads k ≡ look w (total s.periods k + n % period s k)) where
      heads_are : (k : ℕ) → k < s.modes → look heads k ≡ f (at k 0)
      heads_are k h = are k h ∙ rw (zero-add n) at (held_told m s numbers told n f w layer k 0 h (told_ready.each k h).positive)

      -- the step gives the numbers of one tick earlier
      step_earlier : (l k d : ℕ) → k < s.modes → d < period s k → step_at s numbers heads l n w k ((d + (n + 1)) % period s k) ≡ earlier m l f (at k d)
      step_earlier l k d h i =
          let p : period s k ≡ (mode_at m k).period = (told.each k h).period in
          let x : ℕ = (d + (n + 1)) % period s k in
          let v : ℕ = look w (total s.periods k + x) in
          let stays : v ≡ f (at k (next (mode_at m k).period d)) =
          ap (λ (y : ℕ). look w (total s.periods k + y)) (sym (turn_next (period s k) d i n))
          ∙ held_told m s numbers told n f w layer k (next (period s k) d) h (next_inside (period s k) d i)
          ∙ ap (λ (y : ℕ). f (at k (next y d))) p in
          let offers = offered_is m s numbers heads f k (told.each k h) (λ y j. subst (λ (c : ℕ). y.target < c) (sym told.modes) (switch_rule k h y j).there) heads_are n d x (opens k d h) v in
          let rules : All (TaskRule (period s k)) (mode_at m k).tasks = rw p (told_rule k h).tasks in
          let gains = gained_is m (tasks_of s numbers k) k (period s k) (told.each k h).tasks rules l n d (offered s.listed s.every k heads n s.modes x v) in
          let split = nexts_split m f k d (omega arith) in
          omega (arith, gains, offers, stays, split)
        where
          opens : (k d : ℕ) → k < s.modes → (t : ℕ) → t < s.modes → lists s k t ≡ true
              → eqb ((d + (n + 1)) % period s k % every s k t) (n % every s k t) ≡ eqb ((d + 1) % every s k t) 0
          opens k d h t j e =
              let r = (told.each k h).only t j e in
              let rule = switch_rule k h r.0 r.1 in
              let divides : period s k % every s k t ≡ 0 = rw ((told.each k h).period, ← r.3) rule.divides in
              turn_open (period s k) (every s k t) (omega (arith, r.3, rule.positive)) divides d n

      pub holds_step : (l : ℕ) (w' : List ℕ) → Stepped s numbers heads l n s.modes w w' → Holds m (n + 1) (earlier m l f) w'
      holds_step l w' new = record {
        room = omega (arith, new.len, layer.room);
        holds = λ k d h i. held k d (omega (arith, told.modes)) i;
      }
        where
          held : (k d : ℕ) → k < s.modes → d < (mode_at m k).period → look w' (place m k ((d + (n + 1)) % (mode_at m k).period)) ≡ earlier m l f (at k d)
          held k d h i =
              let p : (mode_at m k).period ≡ period s k = sym (told.each k h).period in
              let j : d < period s k = omega arith in
              ap (λ (y : ℕ). look w' (place m k ((d + (n + 1)) % y))) p ∙ ap (look w') (place_told m s numbers told k (omega arith) ((d + (n + 1)) % period s k))
              ∙ new.each k ((d + (n + 1)) % period s k) h (mod-lt (d + (n + 1)) (omega arith)) ∙ step_earlier l k d h j

  -- No number is too large.

  -- what w holds of a state after n steps
  pub found : ℕ → List ℕ → State → ℕ
  found n w x = look w (place m x.mode ((x.time + n) % (mode_at m x.mode).period))

  pub found_holds : (n : ℕ) (w : List ℕ) → total s.periods s.modes ≤ length w → Holds m n (found n w) w
  unfolding found
  found_holds n w room = record { room = omega (arith, states_told m s numbers told); holds = λ k d h i. refl }

  module _ (n : ℕ) (w : List ℕ) (room : total s.periods s.modes ≤ length w)
      (low : (k x : ℕ) → k < s.modes → x < period s k → look w (total s.periods k + x) + 16384 < 2 ^ 32) where
    found_low : (x : State) → Listed m x → found n w x + 16384 < 2 ^ 32
    found_low x h =
        let l : x.mode < s.modes = omega (arith, told.modes, h.mode) in
        let inside : x.time < period s x.mode = omega (arith, (told.each x.mode l).period, h.time) in
        rw (sym (held_told m s numbers told n (found n w) w (found_holds n w room) x.mode x.time l inside))
        (low x.mode ((x.time + n) % period s x.mode) l (mod-lt (x.time + n) (omega arith)))

    found_fits : (heads : List ℕ) → ((k : ℕ) → k < s.modes → look heads k ≡ look w (total s.periods k + n % period s k))
        → (l k x : ℕ) → k < s.modes → x < period s k → step_at s numbers heads l n w k x < 2 ^ 32
    found_fits heads are l k x h i =
        let t = turn_back (period s k) (n + 1) x i in
        let d : ℕ = t.0 in
        let inside : d < (mode_at m k).period = omega (arith, (told.each k h).period, t.1) in
        let best = best_next m (found n w) (at k d) inside in
        let listed : Listed m best.0 = next_listed m ok (at k d) best.0 (record { mode = omega (arith, told.modes); time = inside }) best.1 in
        rw (sym t.2)
        (omega (arith, step_earlier n (found n w) w (found_holds n w room) heads are l k d h t.1, gain_le m ok (at k d) 0 l, best.2, found_low best.0 listed))

  -- The largest demand in L ticks.

  module _ (L : ℕ) (w : List ℕ) (layer : Layer m L w) where
    pub layer_low : L < 2000 → (k x : ℕ) → k < s.modes → x < period s k → look w (total s.periods k + x) + 16384 < 2 ^ 32
    layer_low l k x h i =
        let t = turn_back (period s k) L x i in
        let inside : t.0 < (mode_at m k).period = omega (arith, (told.each k h).period, t.1) in
        rw (sym t.2) (omega (arith, value_told m s numbers told L w layer k t.0 h t.1, value_bound m ok 0 L (at k t.0) inside))

    pub layer_step : (w' : List ℕ) → SteppedBy s numbers (L + 1) L w w' → Layer m (L + 1) w'
    unfolding value
    layer_step w' new = rw (add-one L) (rw (add-one L) at (new.holds m ok told (value m 0 L) layer))

pub step_fits : (s : Shape) (numbers w : List ℕ) → Steppable s numbers w → (n : ℕ) (heads : List ℕ)
    → ((k : ℕ) → k < s.modes → look heads k ≡ look w (total s.periods k + n % period s k))
    → (l k x : ℕ) → k < s.modes → x < period s k → step_at s numbers heads l n w k x < 2 ^ 32
step_fits s numbers w can n = found_fits can.owner can.rule s numbers can.told n w can.room can.low

-- The first layer.

pub layer_start : (m : Module) (s : Shape) (numbers : List ℕ) → Told m s numbers → (w w' : List ℕ) → total s.periods s.modes ≤ length w
    → Cleared (total s.periods s.modes) w w' → Layer m 0 w'
unfolding value
layer_start m s numbers told w w' h c = record {
  room = omega (arith, c.len, states_told m s numbers told);
  holds = λ k d i j.
      let inside : (d + 0) % (mode_at m k).period < (mode_at m k).period = mod-lt (d + 0) (omega arith) in
      c.zeros (place m k ((d + 0) % (mode_at m k).period)) (omega (arith, place_inside m k ((d + 0) % (mode_at m k).period) i inside, states_told m s numbers told));
}

-- The largest number.

max_below_add : (f : ℕ → ℕ) (a b : ℕ) → max_below f (a + b) ≡ max (max_below f a) (max_below (λ d. f (a + d)) b)
max_below_add f a zero = rw (add-zero a) (omega arith)
max_below_add f a (suc b) = rw (add-suc a b) (omega (arith, max_below_add f a b))

-- over parts that are laid end to end
max_below_parts : (f p : ℕ → ℕ) (n : ℕ) → max_below f (sum_below p n) ≡ max_below (λ k. max_below (λ d. f (sum_below p k + d)) (p k)) n
max_below_parts f p zero = refl
max_below_parts f p (suc n) = omega (arith, max_below_add f (sum_below p n) (p n), max_below_parts f p n)

pub layer_largest : (m : Module) (s : Shape) (numbers : List ℕ) → Told m s numbers → (L : ℕ) (w : List ℕ) → Layer m L w
    → max_below (look w) (total s.periods s.modes) ≡ listed_demand m L
unfolding listed_demand place
layer_largest m s numbers told L w layer =
    ap (max_below (look w)) (sym (states_told m s numbers told) ∙ add-zero (sum_below (λ j. (mode_at m j).period) (length m.modes)))
    ∙ max_below_parts (look w) (λ j. (mode_at m j).period) (length m.modes)
    ∙ max_below_same _ _ (length m.modes) (λ k h. turn_largest _ _ (mode_at m k).period L (λ d i. layer.holds k d h i))
