-- The number of every answer that a call can give is read as that answer; so no two of them share a number. Of a judgement the counts and the
-- horizon are read, and of an exact answer all but its tapes, which lie in the tape memory. Assumes nothing.
use mathlib.Core.Path.{◌≡◌, refl, sym, ◌∙◌, ap, subst}
use mathlib.Core.Bool.{false}
use mathlib.Core.List.{List}
use Prim.Native.Nat.{ℕ, ◌+◌, ◌*◌, ◌/◌, ◌%◌, ◌<◌}
use native.Mathlib.Nat.{zero-add, mod-eq_of_lt, div-eq_of_lt, add-mul-mod_self_left, add-mul-div_left, mul-mod_right, mul-div_right}
use native.Mathlib.Omega.{arith}
use lib.Dec.{eqb}
use lib.ListN.{length}
use borrow.Author.Tests.{ne_eqb}
use Rattle.model.specs.Sheet.{Sheet, Counts, counts}
use Rattle.model.specs.WellFormed.{WellFormed}
use Rattle.model.specs.Verdict.{Quick, Exact, QuickIs, ExactIs}
use Rattle.format.specs.Judgement.{Judgement, judgement}
use Rattle.format.proofs.RoundTrip.{accepted_well_formed}
use Rattle.query.specs.Answer.{Answer, refused, given, Terms, Answered}
use Rattle.query.specs.Query.{Witnessed, WitnessedIs, quick_terms, exact_terms, QuickAnswer, ExactAnswer}
use Rattle.judge.specs.Told.{told_accepted, tells_of}
use Rattle.exact.specs.Exact.{answer_of, modules_in, ExactTested}
use Rattle.report.specs.Report as report
use Rattle.report.specs.Report.{report_terms, Lines, Reported}
use Rattle.checker.specs.Numbers.{refused_number, accepted_number, judged_number, figure_number, quick_number, verdict_number, exact_number, exact_of}
use Rattle.checker.specs.Calls.{Numbered}
use Rattle.checker.specs.Reading.{kind, above, read_judged, read_figure, read_quick, read_exact, verdict_of}
use Rattle.checker.proofs.Bounds.{CanRefuse, judged_refused, Possible, possible, modes_most}

-- A figure below b, and what stands above it.
module _ (b k x : ℕ) (small : k < b) where
  lowest : (k + b * x) % b ≡ k
  lowest = add-mul-mod_self_left k b x ∙ mod-eq_of_lt small

  higher : (k + b * x) / b ≡ x
  higher = add-mul-div_left k x (omega arith) ∙ rw (div-eq_of_lt small) (zero-add x)

-- The kinds: answered, over, refused.

module _ (x : ℕ) where
  kind_answered : kind (256 * x) ≡ 0
  kind_answered = mul-mod_right 256 x

  above_answered : above (256 * x) ≡ x
  above_answered = mul-div_right x (omega arith)

  kind_over : kind (255 + 256 * x) ≡ 255
  kind_over = lowest 256 255 x (omega arith)

  above_over : above (255 + 256 * x) ≡ x
  above_over = higher 256 255 x (omega arith)

module _ (n p : ℕ) (c : CanRefuse n p) where
  kind_refused : kind (refused_number n p) ≡ n
  kind_refused = lowest 256 n p (omega arith)

  above_refused : above (refused_number n p) ≡ p
  above_refused = higher 256 n p (omega arith)

  not_answered : eqb n 0 ≡ false
  not_answered = ne_eqb n 0 (omega arith)

  not_over : eqb n 255 ≡ false
  not_over = ne_eqb n 255 (omega arith)

-- The judge.

accepted_read : (c : Counts) (h : ℕ) → c.modules < 256 → c.modes < 256 → c.tasks < 65536 → c.switches < 256 → read_judged (accepted_number c h) ≡ told_accepted c h
unfolding read_judged
accepted_read c h m o t w = simp (kind_answered, above_answered, lowest, higher)

pub judge_read : (bytes : List ℕ) → read_judged (judged_number (judgement bytes)) ≡ tells_of (judgement bytes)
unfolding read_judged
judge_read bytes = pick (judgement bytes) refl
  where
    pick : (j : Judgement) → judgement bytes ≡ j → read_judged (judged_number j) ≡ tells_of j
    pick (Judgement.refused n p) e =
        let c = judged_refused bytes n p e in
        rw (kind_refused n p c, above_refused n p c, not_answered n p c)
    pick (Judgement.accepted s) e =
        let ok = accepted_well_formed bytes s e in
        accepted_read (counts s) s.horizon (omega arith) (omega (arith, modes_most s ok)) (omega arith) (omega arith)

-- A demand, whichever is asked for.

pub figure_read : (t : Terms) (R : Sheet → ℕ → Type 0) (bytes : List ℕ) (a : Answer ℕ) → Answered t R bytes a → read_figure (figure_number a) ≡ a
unfolding read_figure
figure_read t R bytes a h = pick a (possible t R bytes a h)
  where
    pick : (a : Answer ℕ) → Possible R a → read_figure (figure_number a) ≡ a
    pick (refused n p) c = rw (kind_refused n p c, above_refused n p c, not_answered n p c)
    pick (given v) c = rw (kind_answered, above_answered)

-- The quick test.

pub quick_read : (bytes : List ℕ) (work : ℕ) (a : Answer Quick) → QuickAnswer bytes work a → read_quick (quick_number a) ≡ a
unfolding read_quick
quick_read bytes work a h = pick a (possible (quick_terms work) QuickIs bytes a h)
  where
    pick : (a : Answer Quick) → Possible QuickIs a → read_quick (quick_number a) ≡ a
    pick (refused n p) c = rw (kind_refused n p c, above_refused n p c, not_answered n p c, not_over n p c)
    pick (given Quick.clear) c = refl
    pick (given (Quick.over L v)) c =
        let length : L < 65536 = omega (arith, c.2.1, c.1.horizon_most) in
        simp (kind_over, above_over, lowest, higher)

-- The exact test.

pub exact_read : (bytes : List ℕ) (work tape : ℕ) (a : Answer Witnessed) → ExactAnswer bytes work tape a → read_exact (exact_number a) ≡ verdict_of a
unfolding read_exact
exact_read bytes work tape a h = pick a (possible (exact_terms work tape) WitnessedIs bytes a h)
  where
    verdict : (s : Sheet) → WellFormed s → (v : Exact) → ExactIs s v → read_exact (verdict_number v) ≡ given v
    verdict s ok Exact.clear h = refl
    verdict s ok (Exact.over a b v) h =
        let end : b < 65536 = omega (arith, h.1, ok.horizon_most) in
        let start : a < 65536 = omega (arith, h.0) in
        simp (kind_over, above_over, lowest, higher)

    pick : (a : Answer Witnessed) → Possible WitnessedIs a → read_exact (exact_number a) ≡ verdict_of a
    pick (refused n p) c = rw (kind_refused n p c, above_refused n p c, not_answered n p c, not_over n p c)
    pick (given w) c = verdict c.0 c.1 w.verdict c.2.0

-- what is read of the call's number is the verdict of its answer
pub exact_number_read : {bytes w w' t t' : List ℕ} {r : ℕ} (g : Numbered (exact_of bytes t') (ExactTested bytes w w' t t') r) → read_exact r ≡ verdict_of (answer_of (modules_in bytes) t' g.answer)
exact_number_read {bytes} {w} {w'} {t} {t'} g = ap read_exact g.number ∙ exact_read bytes (length w) (length t) (answer_of (modules_in bytes) t' g.answer) g.is.answer

-- The report.

pub report_number_read : {bytes w w' t t' o o' : List ℕ} {r : ℕ} (g : Numbered (λ x. figure_number (report.answer_of x)) (Reported bytes w w' t t' o o') r) → read_figure r ≡ report.answer_of g.answer
report_number_read {bytes} {w} {w'} {t} {t'} {o} {o'} g = ap read_figure g.number ∙ figure_read (report_terms (length w) (length t) (length o)) (λ s n. Lines s o' n) bytes (report.answer_of g.answer) g.is.answer

-- Any call: what is read of its number is its answer.
pub numbered_read : {A : Type 0} {number_of : A → ℕ} {R : A → Type 0} {r : ℕ} (read : ℕ → A) → ((a : A) → R a → read (number_of a) ≡ a) → Numbered number_of R r → R (read r)
numbered_read {R = R} read known g = subst R (sym (ap read g.number ∙ known g.answer g.is)) g.is
