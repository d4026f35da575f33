-- Two results of a call that meet its contract are equal, and what they leave of the lent memory agrees but for what the answer uses. Assumes nothing.
use mathlib.Core.Path.{◌≡◌, sym, ◌∙◌, ap, subst}
use mathlib.Core.List.{List}
use Prim.Native.Nat.{ℕ}
use lib.ListN.{length}
use Rattle.query.specs.Answer.{Answer}
use Rattle.query.specs.Query.{ModeAnswer, StateAnswer, ModuleAnswer, QuickAnswer}
use Rattle.query.specs.Memory.{Stays, work_used}
use Rattle.query.proofs.Answers.{mode_answer_unique, state_answer_unique, module_answer_unique, quick_answer_unique}
use Rattle.query.proofs.Meeting.{stays_agree}
use Rattle.exact.specs.Exact.{answer_of, modules_in, ExactTested}
use Rattle.exact.proofs.Unique.{exact_unique}
use Rattle.report.specs.Report.{Reported}
use Rattle.report.specs.Report as report
use Rattle.report.proofs.Unique.{report_unique}
use Rattle.checker.specs.Numbers.{figure_number, quick_number, exact_of}
use Rattle.checker.specs.Calls.{Numbered, Worked}

-- Any call.

pub numbered_unique : {A : Type 0} {number_of : A → ℕ} {R S : A → Type 0} {r q : ℕ} → ((x y : A) → R x → S y → x ≡ y) → Numbered number_of R r → Numbered number_of S q → r ≡ q
numbered_unique {number_of = number_of} only g h = g.number ∙ ap number_of (only g.answer h.answer g.is h.is) ∙ sym h.number

-- two numbers agree, and of the memory that each call leaves all but what the answer uses
pub record Agree {A : Type 0} (a : Answer A) (r q : ℕ) (u v : List ℕ) : Type 0 where
  pub number : r ≡ q
  pub memory : Stays (work_used a) u v

module _ {A : Type 0} {number_of : Answer A → ℕ} (R : ℕ → Answer A → Type 0) {w u v : List ℕ} {r q : ℕ} (only : (x y : Answer A) → R (length w) x → R (length w) y → x ≡ y) where
  worked_unique : (g : Numbered number_of (Worked R w u) r) → Numbered number_of (Worked R w v) q → Agree g.answer r q u v
  worked_unique g h =
      let same : g.answer ≡ h.answer = only g.answer h.answer g.is.answer h.is.answer in
      record {
        number = numbered_unique (λ x y i j. only x y i.answer j.answer) g h;
        memory = stays_agree g.is.memory (subst (λ (x : Answer A). Stays (work_used x) w v) (sym same) h.is.memory);
      }

-- The calls.

pub mode_unique : (bytes : List ℕ) (k m a b : ℕ) {r q : ℕ} → Numbered figure_number (ModeAnswer bytes k m a b) r → Numbered figure_number (ModeAnswer bytes k m a b) q → r ≡ q
mode_unique bytes k m a b = numbered_unique (mode_answer_unique bytes k m a b)

module _ (bytes : List ℕ) {w u v : List ℕ} {r q : ℕ} where
  pub state_unique : (k m d L : ℕ) (g : Numbered figure_number (Worked (StateAnswer bytes k m d L) w u) r) → Numbered figure_number (Worked (StateAnswer bytes k m d L) w v) q → Agree g.answer r q u v
  state_unique k m d L = worked_unique (StateAnswer bytes k m d L) (state_answer_unique bytes k m d L (length w))

  pub module_unique : (k L : ℕ) (g : Numbered figure_number (Worked (ModuleAnswer bytes k L) w u) r) → Numbered figure_number (Worked (ModuleAnswer bytes k L) w v) q → Agree g.answer r q u v
  module_unique k L = worked_unique (ModuleAnswer bytes k L) (module_answer_unique bytes k L (length w))

  pub quick_unique : (g : Numbered quick_number (Worked (QuickAnswer bytes) w u) r) → Numbered quick_number (Worked (QuickAnswer bytes) w v) q → Agree g.answer r q u v
  quick_unique = worked_unique (QuickAnswer bytes) (quick_answer_unique bytes (length w))

-- The exact test: the whole tape memory agrees too.

module _ (bytes : List ℕ) {w u v t p q : List ℕ} {r s : ℕ} where
  pub exact_number_unique : (g : Numbered (exact_of bytes p) (ExactTested bytes w u t p) r) → Numbered (exact_of bytes q) (ExactTested bytes w v t q) s → Agree (answer_of (modules_in bytes) p g.answer) r s u v × (p ≡ q)
  exact_number_unique g h =
      let same = exact_unique g.is h.is in
      (record { number = g.number ∙ rw (same.answer, same.tape) (sym h.number); memory = same.memory }, same.tape)

-- The report: the whole tape memory and the whole output memory agree too.

module _ (bytes : List ℕ) {w u v t p q o x y : List ℕ} {r s : ℕ} where
  pub report_number_unique : (g : Numbered (λ a. figure_number (report.answer_of a)) (Reported bytes w u t p o x) r) → Numbered (λ a. figure_number (report.answer_of a)) (Reported bytes w v t q o y) s → Agree (report.answer_of g.answer) r s u v × (p ≡ q) × (x ≡ y)
  report_number_unique g h =
      let same = report_unique g.is h.is in
      (record { number = g.number ∙ rw same.answer (sym h.number); memory = same.memory }, same.tape, same.out)
