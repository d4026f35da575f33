-- Query ranges and lent memory in document 01's words: of each call, which arguments are in range (else 9), and how much memory is enough (else 10).
-- Assumes nothing.
use mathlib.Core.Path.{◌≡◌, refl}
use mathlib.Core.Logic.{◌↔◌}
use mathlib.Core.Bool.{true, and-eq-true_iff}
use Prim.Native.Nat.{ℕ, ◌*◌, ◌≤◌, ◌<◌}
use lib.ListN.{length}
use borrow.Author.Tests.{ltb-true, leb-true, lt-ltb, le-leb}
use Rattle.model.specs.Sheet.{Sheet, module_at}
use Rattle.model.specs.Run.{mode_at}
use Rattle.query.specs.Answer.{Terms}
use Rattle.query.specs.Query.{mode_terms, state_terms, module_terms, quick_terms, exact_terms}

-- for this sheet the terms mean: the arguments are in range exactly where `range` holds, and the lent memory is enough exactly where `memory` does
abbrev pub Mean : Terms → Sheet → Type 0 → Type 0 → Type 0
Mean t s range memory = ((t.in_range s ≡ true) ↔ range) × ((t.enough s ≡ true) ↔ memory)

-- where nothing is asked
abbrev pub Nothing : Type 0
Nothing = Unit {0}

module _ (s : Sheet) where
  -- 0 ≤ a ≤ b ≤ mode period; no memory is lent
  pub mode_terms_lem : (k m a b : ℕ)
      → Mean (mode_terms k m a b) s ((k < length s.modules) × (m < length (module_at s k).modes) × (a ≤ b) × (b ≤ (mode_at (module_at s k) m).period)) Nothing
  mode_terms_lem k m a b = (
    (
      λ h. let r = simp and-eq-true_iff at h in (ltb-true _ _ r.0.0.0, ltb-true _ _ r.0.0.1, leb-true _ _ r.0.1, leb-true _ _ r.1),
      λ r. rw (lt-ltb k _ r.0, lt-ltb m _ r.1, le-leb a b r.2, le-leb b _ r.3),
    ),
    (λ _. tt, λ _. refl),
  )

  -- a mode time from 0 to the period less 1, a length from 0 to the horizon; 16,384 numbers of working memory
  pub state_terms_lem : (k m d L work : ℕ)
      → Mean (state_terms k m d L work) s ((k < length s.modules) × (m < length (module_at s k).modes) × (d < (mode_at (module_at s k) m).period) × (L ≤ s.horizon)) (16384 ≤ work)
  state_terms_lem k m d L work = (
    (
      λ h. let r = simp and-eq-true_iff at h in (ltb-true _ _ r.0.0.0, ltb-true _ _ r.0.0.1, ltb-true _ _ r.0.1, leb-true _ _ r.1),
      λ r. rw (lt-ltb k _ r.0, lt-ltb m _ r.1, lt-ltb d _ r.2, le-leb L _ r.3),
    ),
    (leb-true 16384 work, le-leb 16384 work),
  )

  pub module_terms_lem : (k L work : ℕ) → Mean (module_terms k L work) s ((k < length s.modules) × (L ≤ s.horizon)) (16384 ≤ work)
  module_terms_lem k L work = (
    (λ h. let r = simp and-eq-true_iff at h in (ltb-true _ _ r.0, leb-true _ _ r.1), λ r. rw (lt-ltb k _ r.0, le-leb L _ r.1)),
    (leb-true 16384 work, le-leb 16384 work),
  )

  pub quick_terms_lem : (work : ℕ) → Mean (quick_terms work) s Nothing (16384 ≤ work)
  quick_terms_lem work = ((λ _. tt, λ _. refl), (leb-true 16384 work, le-leb 16384 work))

  -- the tape memory is at least modules times horizon bytes
  pub exact_terms_lem : (work tape : ℕ) → Mean (exact_terms work tape) s Nothing ((16384 ≤ work) × (length s.modules * s.horizon ≤ tape))
  exact_terms_lem work tape = (
    (λ _. tt, λ _. refl),
    (λ h. let r = simp and-eq-true_iff at h in (leb-true _ _ r.0, leb-true _ _ r.1), λ r. rw (le-leb 16384 work r.0, le-leb _ tape r.1)),
  )
