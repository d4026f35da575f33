-- The ends can be searched in pieces: the first over of some ends and the ends behind them is that of the first piece, or else that of the
-- second. So the verdict up to an end is the verdict of that horizon. Assumes nothing.
use mathlib.Core.Path.{◌≡◌, refl, sym, ◌∙◌, ap}
use Prim.Native.Nat.{ℕ, zero, suc, ◌+◌}
use native.Mathlib.Nat.{add-zero, zero-add, suc-add, add-suc}
use Rattle.model.specs.Sheet.{Sheet}
use Rattle.model.specs.Verdict.{Exact, or_else, exact_at, exact_from, exact_sum, exact}

or_else_assoc : (x y z : Exact) → or_else (or_else x y) z ≡ or_else x (or_else y z)
or_else_assoc Exact.clear y z = refl
or_else_assoc (Exact.over a b v) y z = refl

pub exact_pieces : (f : ℕ → ℕ → ℕ) (n p b : ℕ) → exact_from f (n + p) b ≡ or_else (exact_from f n b) (exact_from f p (b + n))
exact_pieces f zero p b = rw (zero-add, add-zero)
exact_pieces f (suc n) p b =
    rw (suc-add, add-suc)
    (ap (or_else (exact_at f b b)) (rw suc-add at (exact_pieces f n p (suc b))) ∙ sym (or_else_assoc (exact_at f b b) (exact_from f n (suc b)) (exact_from f p (suc (b + n)))))

pub exact_horizon : (s : Sheet) (h p : ℕ) → s.horizon ≡ h + p → exact s ≡ or_else (exact (record { horizon = h; modules = s.modules })) (exact_from (exact_sum s) p (1 + h))
unfolding exact exact_sum
exact_horizon s h p e = ap (λ (n : ℕ). exact_from (exact_sum s) n 1) e ∙ exact_pieces (exact_sum s) h p 1
