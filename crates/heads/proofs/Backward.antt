-- From the end of the interval back: the layer and the heads of a tick, from those of the tick after it. Assumes nothing.
use mathlib.Core.Path.{◌≡◌, refl, sym, ◌∙◌, ap, subst}
use mathlib.Core.List.{List}
use Prim.Native.Nat.{ℕ, ◌+◌, ◌-◌, ◌%◌, ◌^◌, ◌≤◌, ◌<◌}
use native.Mathlib.Nat.{zero-add, sub_self, mod-lt, mod-eq_of_lt}
use native.Mathlib.Numerals.{add-one}
use native.Mathlib.Decide.{dec_lt}
use native.Mathlib.Omega.{arith}
use lib.ListN.{length}
use Rattle.model.specs.Sheet.{Module}
use Rattle.model.specs.WellFormed.{ModuleRule}
use Rattle.model.specs.Run.{State as Moment, at, mode_at}
use Rattle.model.specs.Demand.{value}
use Rattle.model.proofs.Bounds.{value_fits}
use Rattle.model.proofs.Runs.{period_positive}
use Rattle.memory.specs.Map.{layer_numbers}
use Rattle.layers.specs.declared.Shape.{Shape}
use Rattle.layers.specs.Step.{look, total, period, Cleared}
use Rattle.layers.specs.Layer.{place, Holds, earlier, Told, Tells, Each, Steppable, SteppedBy}
use Rattle.layers.proofs.Bounds.{states_bound}
use Rattle.layers.proofs.Turns.{turn_back}
use Rattle.layers.proofs.Layers.{states_told, place_inside, held_told, told_ready, layer_start}
use Rattle.following.specs.Follow.{counted}
use Rattle.following.proofs.Ticks.{value_over, value_step}
use Rattle.heads.specs.Heads.{pair_at, HeadsAt, Packed, Noted, BackTo, Kept}
use Rattle.heads.proofs.Pairs.{packed_head, head_same}

-- What a layer holds.

holds_same : (m : Module) (n : ℕ) (f g : Moment → ℕ) (w : List ℕ) → ((k d : ℕ) → f (at k d) ≡ g (at k d)) → Holds m n f w → Holds m n g w
holds_same m n f g w same h = record { room = h.room; holds = λ k d l i. h.holds k d l i ∙ same k d }

holds_kept : (m : Module) → ModuleRule m → (n : ℕ) (f : Moment → ℕ) (w w' : List ℕ) → length w' ≡ length w → ((x : ℕ) → x < layer_numbers → look w' x ≡ look w x) → Holds m n f w → Holds m n f w'
holds_kept m ok n f w w' len same h = record {
  room = omega (arith, h.room);
  holds = λ k d l i.
      let p : ℕ = (mode_at m k).period in
      same (place m k ((d + n) % p)) (omega (arith, place_inside m k ((d + n) % p) l (mod-lt (d + n) (omega arith)), states_bound m ok)) ∙ h.holds k d l i;
}

pub states_few : (s : Shape) (numbers : List ℕ) → Tells s numbers → total s.periods s.modes ≤ layer_numbers
states_few s numbers t = omega (arith, states_told t.owner s numbers t.told, states_bound t.owner t.rule)

-- The heads of the layer.

pub noted : (s : Shape) (t n : ℕ) (tops w w' : List ℕ) → s.modes ≤ 8 → ((k : ℕ) → k < s.modes → look tops k ≡ look w (total s.periods k + n % period s k)) → Packed t 4 tops w w' → Noted s t n w w'
noted s t n tops w w' few are new = record { len = new.len; heads = heads; below = new.below; above = new.above }
  where
    heads : (m : Module) (numbers : List ℕ) (f : Moment → ℕ) → ModuleRule m → Told m s numbers → Holds m n f w
        → ((j : ℕ) → j < length m.modes → f (at j 0) < 65536) → HeadsAt m f t w'
    heads m numbers f ok told holds low j h =
        let l : j < s.modes = omega (arith, told.modes) in
        let held : look tops j ≡ f (at j 0) = are j l ∙ rw (zero-add n) at (held_told m s numbers told n f w holds j 0 l ((told_ready m ok s numbers told).each j l).positive) in
        packed_head t tops w w' new j (omega arith) ∙ ap (λ (x : ℕ). x % 65536) held ∙ mod-eq_of_lt (low j h)

module _ (s : Shape) (numbers : List ℕ) (a b : ℕ) (tells : Tells s numbers) (short : b ≤ 2000) where
  first_fits : (m : Module) → ModuleRule m → (t j : ℕ) → value m (a - t) (b - t) (at j 0) < 65536
  first_fits m ok t j = value_fits m ok (a - t) (b - t) (at j 0) (period_positive m ok j) (omega arith)

  -- At the end.

  module _ (w w' w'' : List ℕ) (room : total s.periods s.modes ≤ length w) (cleared : Cleared (total s.periods s.modes) w w') (new : Noted s b 0 w' w'') where
    end_layer : Each s numbers (λ m. Holds m 0 (value m (a - b) (b - b)) w')
    end_layer m ok told =
        holds_same m 0 (value m 0 0) (value m (a - b) (b - b)) w' (λ k d. value_over m (at k d) 0 0 0 (omega arith) ∙ sym (value_over m (at k d) (a - b) b b (omega arith)))
        (layer_start m s numbers told w w' room cleared)

    pub back_end : BackTo s numbers a b b w''
    back_end = record {
      layer = λ m ok told. subst (λ (n : ℕ). Holds m n (value m (a - b) (b - b)) w'') (sym (sub_self b)) (holds_kept m ok 0 _ w' w'' new.len (λ x l. new.below x (omega arith)) (end_layer m ok told));
      heads = λ m ok told u low high.
          let same : u ≡ b = omega arith in
          rw same (new.heads m numbers (value m (a - b) (b - b)) ok told (end_layer m ok told) (λ j l. first_fits m ok b j));
    }

    pub kept_end : Kept w w''
    kept_end = record {
      len = new.len ∙ cleared.len;
      above = λ x l. new.above x (omega arith) ∙ cleared.above x (omega (arith, states_few s numbers tells));
    }

  -- One tick back.

  module _ (t : ℕ) (inside : t < b) (w : List ℕ) (back : BackTo s numbers a b (t + 1) w) where
    pub steppable : total s.periods s.modes ≤ length w → Steppable s numbers w
    steppable room = record { owner = tells.owner; rule = tells.rule; told = tells.told; room = room; low = low }
      where
        low : (k x : ℕ) → k < s.modes → x < period s k → look w (total s.periods k + x) + 16384 < 2 ^ 32
        low k x h i =
            let turned = turn_back (period s k) (b - (t + 1)) x i in
            let d : ℕ = turned.0 in
            let j : d < period s k = turned.1 in
            let m : Module = tells.owner in
            let f : Moment → ℕ = value m (a - (t + 1)) (b - (t + 1)) in
            let q = (tells.told.each k h).period in
            rw (sym turned.2)
            (omega (arith, held_told m s numbers tells.told (b - (t + 1)) f w (back.layer m tells.rule tells.told) k d h j, value_fits m tells.rule (a - (t + 1)) (b - (t + 1)) (at k d) (omega arith) (omega arith)))

    module _ (l : ℕ) (is : l ≡ counted a b t) (w' w'' : List ℕ) (n : ℕ) (steps : n ≡ b - (t + 1)) (stepped : SteppedBy s numbers l n w w') (new : Noted s t (b - t) w' w'') where
      back_layer : Each s numbers (λ m. Holds m (b - t) (value m (a - t) (b - t)) w')
      back_layer m ok told =
          let f : Moment → ℕ = value m (a - (t + 1)) (b - (t + 1)) in
          let more : n + 1 ≡ b - t = omega arith in
          holds_same m (b - t) (earlier m l f) (value m (a - t) (b - t)) w'
          (λ k d. rw (is, add-one t) (sym (value_step m ok (at k d) a b t inside)))
          (subst (λ (c : ℕ). Holds m c (earlier m l f) w') more (stepped.holds m ok told f (subst (λ (c : ℕ). Holds m c f w) (sym steps) (back.layer m ok told))))

      pub back_more : BackTo s numbers a b t w''
      back_more = record {
        layer = λ m ok told. holds_kept m ok (b - t) _ w' w'' new.len (λ x i. new.below x (omega arith)) (back_layer m ok told);
        heads = λ m ok told u low high. pick m ok told u low high (dec_lt t u);
      }
        where
          kept : (u i : ℕ) → t < u → look w'' (pair_at u i) ≡ look w (pair_at u i)
          kept u i h = new.above (pair_at u i) (omega arith) ∙ stepped.above (pair_at u i) (omega (arith, states_few s numbers tells))

          pick : (m : Module) → ModuleRule m → Told m s numbers → (u : ℕ) → t ≤ u → u ≤ b → Dec (t < u) → HeadsAt m (value m (a - u) (b - u)) u w''
          pick m ok told u low high (yes h) = λ j i. head_same w w'' u (λ n k. kept u n h) j (omega (arith, ok.most)) ∙ back.heads m ok told u (omega arith) high j i
          pick m ok told u low high (no h) =
              let same : u ≡ t = omega arith in
              rw same (new.heads m numbers (value m (a - t) (b - t)) ok told (back_layer m ok told) (λ j i. first_fits m ok t j))

      pub kept_back : Kept w w''
      kept_back = record {
        len = new.len ∙ stepped.len;
        above = λ x i. new.above x (omega arith) ∙ stepped.above x (omega (arith, states_few s numbers tells));
      }

pub kept_none : (w : List ℕ) → Kept w w
kept_none w = record { len = refl; above = λ x l. refl }

pub kept_more : (w w' w'' : List ℕ) → Kept w w' → Kept w' w'' → Kept w w''
kept_more w w' w'' h k = record { len = k.len ∙ h.len; above = λ x l. k.above x l ∙ h.above x l }
