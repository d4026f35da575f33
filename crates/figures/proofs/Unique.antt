-- Each result is the only one that meets its contract. Assumes nothing.
use mathlib.Core.Path.{◌≡◌, refl, sym, ◌∙◌}
use mathlib.Core.Bool.{Bool, true, false}
use mathlib.Core.Logic.{⊎_elim}
use mathlib.Core.List.{List}
use Prim.Native.Nat.{ℕ, ◌≤◌, ◌<◌}
use native.Mathlib.Nat.{le_antisymm}
use native.Mathlib.Omega.{arith}
use lib.ListN.{length}
use lib.Seq.{ext_get_or}
use Rattle.layers.specs.declared.Shape.{Shape}
use Rattle.layers.specs.Step.{look}
use Rattle.layers.proofs.Unique.{memory_unique}
use Rattle.figures.specs.Figures.{Growable, Grown, Figures, Added}
use Rattle.figures.specs.Offers.{AnyMark, Ends, Took}
use Rattle.figures.proofs.Offered.{not_both}

-- any_mark
pub any_mark_unique : {bits : List ℕ} {k a b : ℕ} (r r' : Bool) → AnyMark bits k a b r → AnyMark bits k a b r' → r ≡ r'
any_mark_unique true true h h' = refl
any_mark_unique true false h h' = let (t, low, high, on) = h.some refl in absurd (not_both on (h'.none refl t low high))
any_mark_unique false true h h' = let (t, low, high, on) = h'.some refl in absurd (not_both on (h.none refl t low high))
any_mark_unique false false h h' = refl

-- ModuleLayer::offer
pub took_unique : (ends : Ends) (P : ℕ → ℕ → Type 0) {w u v : List ℕ} → Took ends P w u → Took ends P w v → u ≡ v
took_unique ends P {w} {u} {v} h h' = ext_get_or 0 u v (h.len ∙ sym h'.len) (λ j i. le_antisymm (most h h' j (omega (arith, i, h.len))) (most h' h j (omega (arith, i, h.len))))
  where
    most : {a b : List ℕ} → Took ends P w a → Took ends P w b → (j : ℕ) → j < length w → look a j ≤ look b j
    most a b j i = ⊎_elim (λ same. omega (arith, same, b.keeps j i)) (λ p. b.offered j _ i p) (a.only j i)

-- raise_figures
pub grown_unique : {s : Shape} {numbers layer bits : List ℕ} {lo l : ℕ} {fig u v : List ℕ} → Growable s numbers layer bits lo l fig
    → Grown s numbers layer bits lo l fig u → Grown s numbers layer bits lo l fig v → u ≡ v
grown_unique {s} {numbers} {layer} {bits} {lo} {l} {fig} {u} {v} g h h' = ext_get_or 0 u v (h.len ∙ sym h'.len) (λ i j. figures h i j ∙ sym (figures h' i (omega (arith, h.len, h'.len))))
  where
    figures : {w : List ℕ} → Grown s numbers layer bits lo l fig w → Figures g.owner l lo w
    figures k = k.figures g.owner g.horizon g.rule g.told g.holds g.marks g.ends g.figures

-- add_figures
pub added_unique : {n : ℕ} {fig cells u v : List ℕ} → Added n fig cells u → Added n fig cells v → u ≡ v
added_unique {n} {fig} {cells} {u} {v} h h' = memory_unique n cells u v h.len h'.len h.above h'.above (λ i a. h.each i a ∙ sym (h'.each i a))
