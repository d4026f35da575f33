-- The layer of a module step by step, what bounds it, and the row of sums as the demands of a module are added. Assumes nothing.
use mathlib.Core.Path.{◌≡◌, refl, sym, ap, ◌∙◌, subst}
use mathlib.Core.List.{List, ◌++◌}
use Prim.Native.Nat.{ℕ, ◌+◌, ◌*◌, ◌^◌, ◌≤◌, ◌<◌}
use native.Mathlib.Decide.{dec_le}
use native.Mathlib.Omega.{arith}
use lib.ListN.{length, take, set, length-set}
use lib.Seq.{length-take-le, take_at, drop_at, drop-set-lt, get_or-set_same, get_or-set_other}
use borrow.Rule.Slice.PartMut.{put_mid, post_of, mid_len, same_len_mid}
use Rattle.model.specs.Limits.{work_numbers}
use Rattle.model.specs.Lists.{max_below}
use Rattle.model.specs.Sheet.{Module}
use Rattle.model.specs.WellFormed.{ModuleRule}
use Rattle.model.specs.Demand.{listed_demand}
use Rattle.model.proofs.Bounds.{listed_bound}
use Rattle.layers.specs.declared.Shape.{Shape}
use Rattle.layers.specs.Step.{look, total, period, Cleared}
use Rattle.layers.specs.Layer.{Layer, Told, Tells, IsLayer, Advanced}
use Rattle.layers.proofs.Sums.{sum_before}
use Rattle.layers.proofs.Bounds.{states_bound}
use Rattle.layers.proofs.Parts.{cleared_at, back_below, back_above}
use Rattle.layers.proofs.Layers.{states_told, layer_start, layer_largest}
use Rattle.memory.specs.Map.{layer_numbers, layer_from, marks_from, layer_part}
use Rattle.sums.specs.Sums.{Layered, RunTo, Demands, Added, Beside, Summed}

-- The layer's part, lent and back with ys in it.

abbrev back : List ℕ → List ℕ → List ℕ
back w ys = put_mid layer_from layer_numbers w ys

pub part_size : (w : List ℕ) → work_numbers ≤ length w → length (layer_part w) ≡ layer_numbers
part_size w room = mid_len layer_from marks_from w (omega arith)

module _ (w ys : List ℕ) (room : work_numbers ≤ length w) where
  -- the sums stand before it
  back_row : (x : ℕ) → x ≤ 2000 → look (back w ys) x ≡ look w x
  back_row x h = back_below w layer_from layer_numbers (omega arith) ys x (omega arith)

  module _ (e : length ys ≡ length (layer_part w)) where
    back_length : length (back w ys) ≡ length w
    back_length = same_len_mid layer_from layer_numbers w ys e

    back_past : (x : ℕ) → marks_from ≤ x → look (back w ys) x ≡ look w x
    back_past = back_above w layer_from layer_numbers (omega arith) ys (e ∙ part_size w room)

    back_part : layer_part (back w ys) ≡ ys
    back_part =
        let before : length (take layer_from w) ≡ layer_from = length-take-le layer_from w (omega arith) in
        ap (take layer_numbers) (drop_at (take layer_from w) (ys ++ post_of layer_from layer_numbers w) layer_from before) ∙ take_at ys (post_of layer_from layer_numbers w) layer_numbers (e ∙ part_size w room)

module _ (s : Shape) (numbers : List ℕ) where
  -- A module that is told has at most 8 modes and 8,192 states.

  pub told_states : Tells s numbers → total s.periods s.modes ≤ layer_numbers
  told_states t = omega (arith, states_told t.owner s numbers t.told, states_bound t.owner t.rule)

  pub told_place : Tells s numbers → (k d : ℕ) → k < s.modes → d < period s k → total s.periods k + d < layer_numbers
  told_place t k d h i = omega (arith, sum_before (look s.periods) k s.modes h, told_states t)

  -- The layers one after another.

  pub is_layer : (L : ℕ) (w : List ℕ) → Tells s numbers → Layered s numbers L w → IsLayer s numbers L w
  is_layer L w t layer = record { owner = t.owner; rule = t.rule; told = t.told; layer = layer t.owner t.rule t.told }

  pub run_start : (w w' : List ℕ) (n : ℕ) → n ≡ total s.periods s.modes → n ≤ length w → Cleared n w w' → RunTo s numbers 0 w' w'
  run_start w w' n e h c = record { len = refl; layer = λ m ok told. layer_start m s numbers told w w' (omega arith) (cleared_at n _ e c); above = λ x i. refl }

  pub layered_more : (L : ℕ) (w w' : List ℕ) → Advanced s numbers L w w' → Layered s numbers L w → Layered s numbers (L + 1) w'
  layered_more L w w' a layer m ok told = a.layer m ok told (layer m ok told)

  pub layer_demand : (L n v : ℕ) (w : List ℕ) → n ≡ total s.periods s.modes → v ≡ max_below (look w) n → Layered s numbers L w → Demands s numbers L v
  layer_demand L n v w e same layer m ok told = same ∙ ap (max_below (look w)) e ∙ layer_largest m s numbers told L w (layer m ok told)

  demands_bound : Tells s numbers → (L v : ℕ) → Demands s numbers L v → v ≤ 16 * L
  demands_bound t L v h = omega (arith, h t.owner t.rule t.told, listed_bound t.owner t.rule L)

  -- The row of sums.

  -- the first layer, in its part
  pub part_start : (n : ℕ) (w ys : List ℕ) → Tells s numbers → work_numbers ≤ length w → n ≡ total s.periods s.modes → Cleared n (layer_part w) ys → Layered s numbers 0 (layer_part (back w ys))
  part_start n w ys t room e c m ok told =
      let fits : n ≤ length (layer_part w) = omega (arith, told_states t, part_size w room) in
      subst (Layer m 0) (sym (back_part w ys room c.len)) ((run_start (layer_part w) ys n e fits c).layer m ok told)

  -- no sum is too large
  pub sum_fits : (L d : ℕ) (w ys : List ℕ) → Tells s numbers → L < 2000 → work_numbers ≤ length w → look w (L + 1) ≤ 7 * 32000 → Demands s numbers (L + 1) d → look (back w ys) (L + 1) + d < 2 ^ 32
  sum_fits L d w ys t h room low demand = omega (arith, back_row w ys room (L + 1) (omega arith), demands_bound t (L + 1) d demand)

  pub added : (L d : ℕ) (w ys : List ℕ) → L < 2000 → work_numbers ≤ length w → length ys ≡ length (layer_part w) → Layered s numbers (L + 1) ys → Demands s numbers (L + 1) d
      → Added s numbers L w (set (back w ys) (L + 1) (look (back w ys) (L + 1) + d))
  added L d w ys h room e layer demand = record {
    len = length-set (back w ys) (L + 1) v ∙ back_length w ys room e;
    layer = λ m ok told. subst (Layer m (L + 1)) (sym (ap (take layer_numbers) (drop-set-lt layer_from (back w ys) (L + 1) v (omega arith)) ∙ back_part w ys room e)) (layer m ok told);
    sum = λ m ok told. get_or-set_same (back w ys) (L + 1) v 0 (omega (arith, back_length w ys room e)) ∙ omega (arith, back_row w ys room (L + 1) (omega arith), demand m ok told);
    others = λ x l n. get_or-set_other (back w ys) (L + 1) x v 0 n ∙ back_row w ys room x l;
    above = λ x l. get_or-set_other (back w ys) (L + 1) x v 0 (omega arith) ∙ back_past w ys room e x l;
  }
    where
      v : ℕ
      v = look (back w ys) (L + 1) + d

  pub summed_start : (w : List ℕ) → Summed s numbers 0 w w
  summed_start w = record {
    sums = λ m ok told L h l. absurd (omega arith);
    beside = record { len = refl; first = refl; later = λ x h l. refl; above = λ x h. refl };
  }

  pub summed_more : (n : ℕ) (w w' w'' : List ℕ) → n < 2000 → Summed s numbers n w w' → Added s numbers n w' w'' → Summed s numbers (n + 1) w w''
  summed_more n w w' w'' room done new = record {
    sums = λ m ok told L h l. pick m ok told L h l (dec_le L n);
    beside = record {
      len = new.len ∙ old.len;
      first = new.others 0 (omega arith) (λ e. omega arith) ∙ old.first;
      later = λ x h l. new.others x l (λ e. omega arith) ∙ old.later x (omega arith) l;
      above = λ x h. new.above x h ∙ old.above x h;
    };
  }
    where
      old : Beside n w w'
      old = done.beside

      pick : (m : Module) → ModuleRule m → Told m s numbers → (L : ℕ) → 1 ≤ L → L ≤ n + 1 → Dec (L ≤ n) → look w'' L ≡ look w L + listed_demand m L
      pick m ok told L h l (yes a) = new.others L (omega arith) (λ e. omega arith) ∙ done.sums m ok told L h a
      pick m ok told L h l (no a) =
          let last : L ≡ n + 1 = omega arith in
          rw last (omega (arith, new.sum m ok told, old.later (n + 1) (omega arith) (omega arith)))

  -- from the numbers before the layer's part was cleared
  pub summed_end : (n H : ℕ) (w ys w' : List ℕ) → n ≡ H → H ≤ 2000 → work_numbers ≤ length w → length ys ≡ length (layer_part w) → Summed s numbers n (back w ys) w' → Summed s numbers H w w'
  summed_end n H w ys w' same h room e done = record {
    sums = λ m ok told L i l. omega (arith, done.sums m ok told L i (omega arith), back_row w ys room L (omega arith));
    beside = record {
      len = done.beside.len ∙ back_length w ys room e;
      first = done.beside.first ∙ back_row w ys room 0 (omega arith);
      later = λ x i l. done.beside.later x (omega arith) l ∙ back_row w ys room x l;
      above = λ x i. done.beside.above x i ∙ back_past w ys room e x i;
    };
  }
