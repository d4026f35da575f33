-- The figures for no tick are 0; those for l - 1 ticks, with all offers of the layer for l ticks, are those for l; and none is above 32,000. Assumes nothing.
use mathlib.Core.Path.{◌≡◌, refl, sym, ◌∙◌, ap}
use mathlib.Core.Logic.{⊎_elim}
use mathlib.Core.List.{List, [], ◌∷◌, Memᴰ}
use Prim.Native.Nat.{ℕ, suc, ◌+◌, ◌-◌, ◌*◌, ◌/◌, ◌%◌, ◌≤◌, ◌<◌}
use native.Mathlib.Nat.{le_antisymm, sub-zero, mod-lt}
use native.Mathlib.Decide.{dec_le}
use native.Mathlib.Omega.{arith}
use lib.ListN.{length, drop, length-take, length-drop}
use lib.Seq.{get_or-take, get_or-drop}
use borrow.Author.Tests.{eqb-true}
use Rattle.model.specs.Sheet.{Task, Module}
use Rattle.model.specs.WellFormed.{ModuleRule}
use Rattle.model.specs.Flat.{task_numbers}
use Rattle.model.specs.Run.{State, at, first, mode_at, Reach}
use Rattle.model.specs.Demand.{value}
use Rattle.model.proofs.Bounds.{value_bound}
use Rattle.model.proofs.Runs.{period_positive}
use Rattle.model.proofs.Reaching.{reach_listed}
use Rattle.layers.specs.declared.Shape.{Shape}
use Rattle.layers.specs.Step.{look, total, period, tasks_of, Cleared}
use Rattle.layers.specs.Layer.{Layer, Told}
use Rattle.layers.proofs.Layers.{told_room, value_told}
use Rattle.layers.proofs.Sums.{sum_before}
use Rattle.layers.proofs.Nexts.{behind, behind_first}
use Rattle.entries.specs.Entry.{Releasing}
use Rattle.entries.proofs.Reaches.{entry_reach, reach_entry}
use Rattle.entries.proofs.Figures.{figure_largest, figure_end, figure_later, figure_step}
use Rattle.marks.specs.Marks.{Marks}
use Rattle.figures.specs.Figures.{Figures}
use Rattle.figures.specs.Offers.{Raised, Below, ShapeOffer, part_of}

-- the task is one of those that the numbers tell
abbrev TaskAt : List ℕ → Task → Type 0
TaskAt tasks k = (j : ℕ) × (j < length tasks / 4) × (look tasks (4 * j) ≡ k.offset) × (look tasks (4 * j + 2) ≡ k.LET) × (look tasks (4 * j + 3) ≡ k.period)

task_at_lem : (k : Task) (ks : List Task) → Memᴰ k ks → TaskAt (task_numbers ks) k
task_at_lem k [] i = elim i [ ]
task_at_lem k (x ∷ ks) (Memᴰ.head e) = rw e (0, omega arith, refl, refl, refl)
task_at_lem k (x ∷ ks) (Memᴰ.tail i) =
    let r = task_at_lem k ks i in
    let j : ℕ = r.0 in
    let h : j < length (task_numbers ks) / 4 = r.1 in
    (suc j, omega arith, behind_first x ks j ∙ r.2, behind x ks j 2 (4 * suc j + 2) refl ∙ r.3, behind x ks j 3 (4 * suc j + 3) refl ∙ r.4)

-- What is offered are the values of the states that are reached, among them those of all states that release something due in time.
module _ (m : Module) (ok : ModuleRule m) (s : Shape) (numbers : List ℕ) (told : Told m s numbers) (l : ℕ) (layer : List ℕ) (holds : Layer m l layer)
    (horizon : ℕ) (bits : List ℕ) (marks : Marks m horizon bits) (lo : ℕ) where
  part_length : (k : ℕ) → k < s.modes → length (part_of s layer k) ≡ period s k
  part_length k h =
      simp (length-take, length-drop)
      (omega (arith, told_room m ok s numbers told l (value m 0 l) layer holds, sum_before (look s.periods) k s.modes h))

  part_value : (k d : ℕ) → k < s.modes → d < period s k → look (part_of s layer k) ((d + l) % length (part_of s layer k)) ≡ value m 0 l (at k d)
  part_value k d h i =
      let x : ℕ = (d + l) % period s k in
      ap (λ (n : ℕ). look (part_of s layer k) ((d + l) % n)) (part_length k h)
      ∙ get_or-take (period s k) (drop (total s.periods k) layer) x 0 (mod-lt (d + l) (omega arith)) ∙ get_or-drop (total s.periods k) layer x 0
      ∙ value_told m s numbers told l layer holds k d h i

  task_told : (k : ℕ) → k < s.modes → (x : Task) → Memᴰ x (mode_at m k).tasks → TaskAt (tasks_of s numbers k) x
  task_told k h x i = rw (told.each k h).tasks (task_at_lem x (mode_at m k).tasks i)

  pub offer_reached : (k i v : ℕ) → k < s.modes → lo + i ≤ horizon → ShapeOffer s numbers layer bits lo l k i v
      → (l ≤ lo + i) × (t : State) × Reach m (lo + i - l) t × (v ≡ value m 0 l t)
  offer_reached k i v h top p =
      let o = p.2.offer in
      let d : ℕ = p.2.time in
      let e : ℕ = o.tick in
      let ends : e + (d + l) ≡ lo + i = o.offer.ends in
      let inside : d < period s k = omega (arith, part_length k h, o.inside) in
      let a : e + d ≡ lo + i - l = omega arith in
      let entry = marks.sound k e (omega (arith, told.modes)) (omega arith) o.offer.marked in
      (omega arith, at k d, rw a at (entry_reach m ok k e d entry (omega (arith, (told.each k h).period))), o.offer.value ∙ part_value k d h inside)

  pub reached_offer : (i : ℕ) → l ≤ lo + i → lo + i ≤ horizon → (t : State) → Reach m (lo + i - l) t → Releasing m t l
      → Below (ShapeOffer s numbers layer bits lo l) s.modes i (value m 0 l t)
  reached_offer i low top t reach rel =
      let k : ℕ = t.mode in
      let d : ℕ = t.time in
      let h : k < s.modes = omega (arith, told.modes, (reach_listed m ok (lo + i - l) t reach).mode) in
      let y = reach_entry m ok k (lo + i - l) d reach in
      let inside : d < period s k = omega (arith, (told.each k h).period, y.1) in
      let r = task_told k h rel.task rel.listed in
      let below : d ≤ lo + i - l = y.0 in (
        k,
        h,
        (
          r.0,
          r.1,
          record {
            due = omega (arith, r.3, rel.due);
            time = d;
            offer = record {
              inside = omega (arith, part_length k h);
              released = rw (r.4, r.2) (eqb-true _ _ rel.released);
              tick = lo + i - l - d;
              offer = record { marked = marks.complete k (lo + i - l - d) (omega arith) y.2; ends = omega arith; value = sym (part_value k d h inside) };
            };
          },
        ),
      )

  -- One length more: no start is left out and none is added.
  pub figures_step : 1 ≤ l → (fig fig' : List ℕ) → lo + length fig ≤ horizon + 1 → Raised (Below (ShapeOffer s numbers layer bits lo l) s.modes) fig fig'
      → Figures m (l - 1) lo fig → Figures m l lo fig'
  figures_step one fig fig' top r old i j = pick (dec_le l (lo + i))
    where
      h : i < length fig
      h = omega (arith, r.len)

      most : lo + i ≤ horizon
      most = omega (arith, h)

      reached : (p : Below (ShapeOffer s numbers layer bits lo l) s.modes i (look fig' i)) → (l ≤ lo + i) × (t : State) × Reach m (lo + i - l) t × (look fig' i ≡ value m 0 l t)
      reached p = offer_reached p.0 i (look fig' i) p.1 most p.2

      pick : Dec (l ≤ lo + i) → look fig' i ≡ value m (lo + i - l) (lo + i) first
      pick (yes low) = le_antisymm upper lower
        where
          whole : lo + i - (lo + i - l) ≡ l
          whole = omega arith

          before : look fig i ≡ value m (suc (lo + i - l)) (lo + i) first
          before = let e : lo + i - (l - 1) ≡ suc (lo + i - l) = omega arith in rw e at (old i h)

          upper : look fig' i ≤ value m (lo + i - l) (lo + i) first
          upper = ⊎_elim
              (λ same. omega (arith, before, figure_later m ok (lo + i - l) (lo + i) (omega arith)))
              (λ p. let y = reached p in (figure_largest m ok (lo + i - l) (lo + i) (omega arith)).1 (look fig' i) (y.1, y.2, rw whole y.3))
              (r.only i h)

          lower : value m (lo + i - l) (lo + i) first ≤ look fig' i
          lower =
              figure_step m ok (lo + i - l) (lo + i) (omega arith) (look fig' i) (omega (arith, before, r.keeps i h))
              (rw whole (λ t reach rel. r.offered i (value m 0 l t) h (reached_offer i low most t reach rel)))
      pick (no high) = ⊎_elim
          (λ same. let e : lo + i - (l - 1) ≡ lo + i - l = omega arith in same ∙ rw e at (old i h))
          (λ p. absurd (high (reached p).0))
          (r.only i h)

-- No tick, and a bound.

module _ (m : Module) (ok : ModuleRule m) (lo : ℕ) where
  pub figures_start : (fig fig' : List ℕ) → Cleared (length fig) fig fig' → Figures m 0 lo fig'
  figures_start fig fig' c i h = c.zeros i (omega (arith, c.len)) ∙ rw sub-zero (sym (figure_end m ok (lo + i)))

  pub figures_bound : (L : ℕ) (fig : List ℕ) → Figures m L lo fig → lo + length fig ≤ 2001 → (i : ℕ) → i < length fig → look fig i ≤ 32000
  figures_bound L fig f h i l = omega (arith, f i l, value_bound m ok (lo + i - L) (lo + i) first (period_positive m ok 0))
