-- The rule of a switch's kind and its test say the same: over instances and multiples, and over the rests of the multiples by their numbers. Assumes nothing.
use mathlib.Core.Path.{◌≡◌, refl, sym, ◌∙◌}
use mathlib.Core.Bool.{Bool, true, false, not, and-eq-true_iff, false≢true}
use Prim.Native.Nat.{ℕ, suc, ◌-◌, ◌*◌, ◌/◌, ◌≤◌, ◌<◌}
use native.Mathlib.Nat.{le-div_iff_mul-le, mul-mod_left, div-add-mod', suc-mul, le_of_dvd, dvd_of_mod-eq-zero}
use native.Mathlib.Omega.{arith}
use lib.Dec.{leb}
use borrow.Author.Tests.{le-leb, ltb-true, lt-ltb, eqb-true, eq-eqb, not-true}
use Rattle.model.specs.Lists.{any_below}
use Rattle.model.specs.Sheet.{Task, Kind, SW, SX}
use Rattle.model.specs.WellFormed.{TaskRule, Splits, Multiple, KindRule}
use Rattle.model.proofs.Division.{div_mono}
use Rattle.model.proofs.Lists.{any_below_some, some_any_below}
use Rattle.model.proofs.Splitting.{split_rest, rest_split}
use Rattle.format.specs.Rules.{splits, kind_ruled}

-- The positive multiples of p up to the mode period, by their numbers.
module _ (period p : ℕ) (least : 1 ≤ p) where
  pub multiple_at : (j : ℕ) → j < period / p → Multiple period p (suc j * p)
  multiple_at j l = record { positive = omega (arith, suc-mul j p); most = (le-div_iff_mul-le least).0 (omega arith); whole = mul-mod_left (suc j) p }

  number_of : (x : ℕ) → Multiple period p x → (j : ℕ) × (j < period / p) × (suc j * p ≡ x)
  number_of x m =
      let whole : x / p * p ≡ x = omega (arith, div-add-mod' x p, m.whole) in
      let some : 1 ≤ x / p = (le-div_iff_mul-le least).1 (omega (arith, le_of_dvd m.positive (dvd_of_mod-eq-zero p m.whole))) in
      let most : x / p ≤ period / p = div_mono p x period least m.most in
      let next : suc (x / p - 1) ≡ x / p = omega arith in
      (x / p - 1, omega arith, rw next whole)

module _ (period p : ℕ) (k : Task) (rule : TaskRule period k) (least : 1 ≤ p) where
  splits_true : (x : ℕ) → Splits period k x → splits k x ≡ true
  splits_true x s = let r = split_rest k rule x s in rw (lt-ltb _ _ r.0, lt-ltb _ _ r.1)

  true_splits : (x : ℕ) → x ≤ period → splits k x ≡ true → Splits period k x
  true_splits x l e = let r = (and-eq-true_iff _ _).0 e in rest_split k rule x l (ltb-true _ _ r.0) (ltb-true _ _ r.1)

  pub ruled_kind : (kind : Kind) → kind_ruled kind period p k ≡ true → KindRule kind period p k
  unfolding kind_ruled
  ruled_kind SW e = eqb-true _ _ ((and-eq-true_iff (leb 1 k.period) _).0 e).1
  ruled_kind SX e = λ x m s.
      let none : any_below (λ j. splits k (suc j * p)) (period / p) ≡ false = not-true _ ((and-eq-true_iff (leb 1 k.period) _).0 e).1 in
      let n = number_of period p least x m in
      let some = some_any_below (λ j. splits k (suc j * p)) (period / p) n.0 n.1 (rw n.2 (splits_true x s)) in
      false≢true (sym none ∙ some)

  pub kind_ruled_lem : (kind : Kind) → KindRule kind period p k → kind_ruled kind period p k ≡ true
  unfolding kind_ruled
  kind_ruled_lem SW h = rw (le-leb 1 k.period (omega arith), eq-eqb _ _ h)
  kind_ruled_lem SX h = rw (le-leb 1 k.period (omega arith)) (pick (any_below (λ j. splits k (suc j * p)) (period / p)) refl)
    where
      pick : (b : Bool) → any_below (λ j. splits k (suc j * p)) (period / p) ≡ b → not b ≡ true
      pick false e = refl
      pick true e =
          let n = any_below_some _ (period / p) e in
          let m : Multiple period p (suc n.0 * p) = multiple_at period p least n.0 n.1 in
          absurd (h _ m (true_splits _ m.most n.2))
