-- Each result, and the memory that is left, is the only one that meets its contract. (For `clear_sums` that is `cleared_unique` of layers.) Assumes nothing.
use mathlib.Core.Path.{◌≡◌, sym, ◌∙◌}
use mathlib.Core.List.{List}
use Prim.Native.Nat.{ℕ, ◌+◌, ◌≤◌, ◌<◌}
use native.Mathlib.Decide.{dec_le}
use native.Mathlib.Omega.{arith}
use Rattle.model.specs.Run.{at}
use Rattle.model.specs.Demand.{value, listed_demand}
use Rattle.model.specs.Verdict.{Quick}
use Rattle.layers.specs.declared.Shape.{Shape}
use Rattle.layers.specs.Step.{look}
use Rattle.layers.specs.Layer.{Tells, Each}
use Rattle.layers.proofs.Unique.{each_unique, holds_unique}
use Rattle.std.specs.Prelude.{Option, Some, None}
use Rattle.sums.specs.declared.Excess.{Excess}
use Rattle.sums.specs.Sums.{RunTo, Demands, Beside, Summed, quick_of}

module _ {s : Shape} {numbers : List ℕ} (t : Tells s numbers) where
  -- run_to
  pub run_unique : {L : ℕ} {w u v : List ℕ} → RunTo s numbers L w u → RunTo s numbers L w v → u ≡ v
  run_unique {L} {w} {u} {v} g h =
      holds_unique t.told w u v g.len h.len g.above h.above (g.layer t.owner t.rule t.told) (h.layer t.owner t.rule t.told)

  -- demand_at
  pub value_unique : (l k d r r' : ℕ) → Each s numbers (λ m. r ≡ value m 0 l (at k d)) → Each s numbers (λ m. r' ≡ value m 0 l (at k d)) → r ≡ r'
  value_unique l k d = each_unique t (λ m. value m 0 l (at k d))

  -- largest_demand
  pub demands_unique : (l r r' : ℕ) → Demands s numbers l r → Demands s numbers l r' → r ≡ r'
  demands_unique l = each_unique t (λ m. listed_demand m l)

  -- add_demands: the numbers agree but for the layer's part
  pub summed_unique : {n : ℕ} {w u v : List ℕ} → Summed s numbers n w u → Summed s numbers n w v → Beside 0 u v
  summed_unique {n} {w} {u} {v} g h = record {
    len = h.beside.len ∙ sym g.beside.len;
    first = h.beside.first ∙ sym g.beside.first;
    later = λ x low high. pick x low high (dec_le x n);
    above = λ x l. h.beside.above x l ∙ sym (g.beside.above x l);
  }
    where
      pick : (x : ℕ) → 0 < x → x ≤ 2000 → Dec (x ≤ n) → look v x ≡ look u x
      pick x low high (yes a) =
          each_unique t (λ m. look w x + listed_demand m x) (look v x) (look u x) (λ m ok told. h.sums m ok told x low a) (λ m ok told. g.sums m ok told x low a)
      pick x low high (no a) = h.beside.later x (omega arith) high ∙ sym (g.beside.later x (omega arith) high)

-- first_over
pub over_unique : (q : Quick) (r r' : Option Excess) → quick_of r ≡ q → quick_of r' ≡ q → r ≡ r'
over_unique q None None e e' = cc
over_unique q None (Some x) e e' = cc
over_unique q (Some x) None e e' = cc
over_unique q (Some x) (Some y) e e' =
    let same : quick_of (Some x) ≡ quick_of (Some y) = e ∙ sym e' in
    let same_length : x.length ≡ y.length = cc in
    let same_demand : x.demand ≡ y.demand = cc in
    λ i. Some (record { length = same_length i; demand = same_demand i })
