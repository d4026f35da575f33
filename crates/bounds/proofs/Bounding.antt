-- A bound for n ticks, with all offers of the layer for n + 1 ticks, is one for n + 1; and what a module has come to with one tick more. Assumes nothing.
use mathlib.Core.Path.{◌≡◌, sym, subst}
use mathlib.Core.Logic.{⊎_elim}
use mathlib.Core.List.{List}
use Prim.Native.Nat.{ℕ, suc, pred, ◌+◌, ◌-◌, ◌*◌, ◌≤◌, ◌<◌}
use native.Mathlib.Nat.{sub-zero}
use native.Mathlib.Decide.{dec_le}
use native.Mathlib.Omega.{arith}
use lib.ListN.{length}
use borrow.Rule.Slice.PartMut.{put_mid}
use Rattle.model.specs.Limits.{work_numbers}
use Rattle.model.specs.Sheet.{Module}
use Rattle.model.specs.WellFormed.{ModuleRule}
use Rattle.model.specs.Run.{first}
use Rattle.model.specs.Demand.{value}
use Rattle.model.proofs.Bounds.{value_bound}
use Rattle.model.proofs.Reaching.{reach_listed}
use Rattle.layers.specs.declared.Shape.{Shape}
use Rattle.layers.specs.Layer.{Layer, Told, Each, Advanced}
use Rattle.memory.specs.Map.{layer_numbers, mark_numbers, layer_from, marks_from, layer_part, marks_part}
use Rattle.entries.proofs.Figures.{figure_end, figure_step}
use Rattle.marks.specs.Marks.{Marks}
use Rattle.figures.specs.Offers.{Below, ShapeOffer}
use Rattle.figures.proofs.Tiles.{offer_reached, reached_offer}
use Rattle.tiles.specs.Tiles.{Within, Begun}
use Rattle.tiles.proofs.Parts.{part_behind}
use Rattle.tiles.proofs.Steps.{begun_layer, advancing, next_layer, next_marks}
use Rattle.bounds.specs.Tops.{Topped}
use Rattle.bounds.specs.Bounds.{Bound, Progress, Progressed}
use Rattle.bounds.proofs.Tops.{top_keeps, top_offered, top_only}

-- One tick more.

module _ (m : Module) (ok : ModuleRule m) (s : Shape) (numbers : List ℕ) (told : Told m s numbers) (n : ℕ) (layer : List ℕ) (holds : Layer m (n + 1) layer)
    (horizon : ℕ) (bits : List ℕ) (marks : Marks m horizon bits) (lo width : ℕ) (most : lo + width ≤ horizon + 1) (g r : ℕ)
    (t : Topped (Below (ShapeOffer s numbers layer bits lo (n + 1)) s.modes) width g r) where
  bound_more : Bound m lo width n g → Bound m lo width (n + 1) r
  bound_more old i h = pick (dec_le (n + 1) (lo + i))
    where
      pick : Dec (n + 1 ≤ lo + i) → value m (lo + i - (n + 1)) (lo + i) first ≤ r
      pick (yes low) =
          let last : lo + i ≤ horizon = omega arith in
          let whole : lo + i - (lo + i - (n + 1)) ≡ n + 1 = omega arith in
          let before : lo + i - n ≡ suc (lo + i - (n + 1)) = omega arith in
          figure_step m ok (lo + i - (n + 1)) (lo + i) (omega arith) r (omega (arith, rw before at (old i h), top_keeps t))
          (rw whole (λ x reach rel. top_offered t i (value m 0 (n + 1) x) h (reached_offer m ok s numbers told (n + 1) layer holds horizon bits marks lo i low last x reach rel)))
      pick (no high) = let same : lo + i - n ≡ lo + i - (n + 1) = omega arith in omega (arith, rw same at (old i h), top_keeps t)

  low_more : g ≤ 16 * n → r ≤ 16 * (n + 1)
  low_more low = ⊎_elim (λ same. omega arith) of_state (top_only t)
    where
      of_state : (i : ℕ) × (i < width) × Below (ShapeOffer s numbers layer bits lo (n + 1)) s.modes i r → r ≤ 16 * (n + 1)
      of_state p =
          let i : ℕ = p.0 in
          let last : lo + i ≤ horizon = omega (arith, p.1) in
          let y = offer_reached m ok s numbers told (n + 1) layer holds horizon bits marks lo p.2.0 i r p.2.1 last p.2.2 in
          omega (arith, y.3, value_bound m ok 0 (n + 1) y.1 (reach_listed m ok (lo + i - (n + 1)) y.1 y.2).time)

-- What a module has come to: with no tick, with one tick more, and where only numbers before the layer have changed.

pub progress_start : (s : Shape) (numbers : List ℕ) (lo width last : ℕ) (w w' : List ℕ) → work_numbers ≤ length w → last ≡ pred (lo + width) → Begun s last w w' → Each s numbers (λ m. Progress m lo width 0 w' 0)
progress_start s numbers lo width last w w' room e start m ok told = record {
  layer = begun_layer numbers room start m ok told;
  marks = rw (sym e) (start.marks.marks m numbers ok told);
  bound = λ i h. rw sub-zero (omega (arith, figure_end m ok (lo + i)));
  low = omega arith;
}

module _ (s : Shape) (numbers : List ℕ) (n : ℕ) (w ys : List ℕ) (room : work_numbers ≤ length w) (advanced : Advanced s numbers n (layer_part w) ys) where
  abbrev w' : List ℕ
  w' = put_mid layer_from layer_numbers w ys

  pub progressed : (lo width g r : ℕ) → Each s numbers (λ m. Progress m lo width n w g)
      → Topped (Below (ShapeOffer s numbers (layer_part w') (marks_part w') lo (n + 1)) s.modes) width g r → Progressed s numbers lo width (n + 1) r w w'
  progressed lo width g r before t = record { within = advancing s numbers n w ys room advanced; each = each }
    where
      each : Each s numbers (λ m. Progress m lo width (n + 1) w' r)
      each m ok told =
          let layer = next_layer s numbers n w ys room advanced (λ m ok told. (before m ok told).layer) m ok told in
          let marks = next_marks s numbers n w ys room advanced m (pred (lo + width)) (before m ok told).marks in
          let most : lo + width ≤ pred (lo + width) + 1 = omega arith in
          record {
            layer = layer;
            marks = marks;
            bound = bound_more m ok s numbers told n (layer_part w') layer (pred (lo + width)) (marks_part w') marks lo width most g r t (before m ok told).bound;
            low = low_more m ok s numbers told n (layer_part w') layer (pred (lo + width)) (marks_part w') marks lo width most g r t (before m ok told).low;
          }

pub progress_kept : {m : Module} {lo width n a e best : ℕ} {w w' : List ℕ} → e ≤ 2001 → Within a e w w' → Progress m lo width n w best → Progress m lo width n w' best
progress_kept {m} {lo} {width} {n} {a} {e} {best} {w} {w'} h rest before = record {
  layer = subst (Layer m n) (sym (part_behind rest layer_from layer_numbers (omega arith))) before.layer;
  marks = subst (Marks m (pred (lo + width))) (sym (part_behind rest marks_from mark_numbers (omega arith))) before.marks;
  bound = before.bound;
  low = before.low;
}
