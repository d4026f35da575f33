-- The largest of a number and of what is offered to the ends of a range: what a row of one number says, and what it takes of one offer. Assumes nothing.
use mathlib.Core.Path.{◌≡◌, refl, sym, subst}
use mathlib.Core.Logic.{◌⊎◌}
use mathlib.Core.Bool.{Bool, true}
use mathlib.Core.List.{List, [], ◌∷◌}
use Prim.Native.Nat.{ℕ, ◌+◌, ◌-◌, ◌≤◌, ◌<◌}
use native.Mathlib.Omega.{arith}
use lib.ListN.{length, set}
use Rattle.layers.specs.Step.{look}
use Rattle.figures.specs.Offers.{Took, TicksOffer, AnyMark}
use Rattle.figures.proofs.Raises.{raised_as, raised_one}
use Rattle.bounds.specs.Tops.{range_ends, Topped}

-- What a row of one number says.

module _ {P : ℕ → ℕ → Type 0} {width g r : ℕ} (t : Topped P width g r) where
  pub top_keeps : g ≤ r
  top_keeps = t.keeps 0 (omega arith)

  pub top_offered : (i v : ℕ) → i < width → P i v → v ≤ r
  top_offered i v h p = t.offered 0 v (omega arith) (i, h, p)

  pub top_only : (r ≡ g) ⊎ ((i : ℕ) × (i < width) × P i r)
  top_only = t.only 0 (omega arith)

-- v alone is offered, and is larger
top_larger : (lo width : ℕ) (P : ℕ → ℕ → Type 0) (w : List ℕ) (v : ℕ) → 0 < length w → look w 0 < v → ((i x : ℕ) → i < width → P i x → x ≡ v) → ((i : ℕ) × (i < width) × P i v)
    → Took (range_ends lo width) P w (set w 0 v)
top_larger lo width P w v one more alone some =
    raised_as _ _ _ _
    (λ j x h p. (some.0, some.1, sym p.0, subst (P some.0) (sym p.1) some.2))
    (λ j x h p. (sym p.2, alone p.0 x p.1 p.3))
    (raised_one w 0 v v one (omega arith))

-- v alone is offered where a tick is marked, and one is
module _ (bits : List ℕ) (k lo width far v : ℕ) (w : List ℕ) (a b : ℕ) (low : a ≡ lo - far) (high : b ≡ lo + width - far) (r : Bool) (any : AnyMark bits k a b r) where
  abbrev Ticks : ℕ → ℕ → Type 0
  Ticks = TicksOffer bits k lo far v

  pub tick_some : 0 < length w → look w 0 < v → r ≡ true → Took (range_ends lo width) Ticks w (set w 0 v)
  tick_some one h z =
      let y = any.some z in
      let e : ℕ = y.0 in
      let from : a ≤ e = y.1 in
      let to : e < b = y.2 in
      top_larger lo width Ticks w v one h (λ i x l p. p.1.value) (e + far - lo, omega arith, (e, record { marked = y.3; ends = omega arith; value = refl }))

-- the row of one number, after what it took
pub topped : (lo width : ℕ) (P : ℕ → ℕ → Type 0) (g : ℕ) (w : List ℕ) → Took (range_ends lo width) P (g ∷ []) w → Topped P width g (look w 0)
topped lo width P g [] t = let bad = t.len in absurd (omega arith)
topped lo width P g (r ∷ x ∷ w) t = let bad = t.len in absurd (omega arith)
topped lo width P g (r ∷ []) t = raised_as _ _ _ _ (λ j v h p. (p.0, p.1, p.3)) (λ j v h p. (p.0, p.1, omega arith, p.2)) t
