-- The answer of a call: refused with number and place, or given. A sheet's fault goes before 9, and 9 before 10 (document 01, 'Refusal numbers').
-- Assumes nothing.
use Rattle.std.specs.Prelude.{◌≡◌, Bool, true, false, cond, List, ℕ}
use Rattle.model.specs.Sheet.{Sheet}
use Rattle.format.specs.Judgement.{Judgement, judgement, sheet_in, Accepted}

pub data Answer (A : Type 0) : Type 0 where
  refused : ℕ → ℕ → Answer A
  given : A → Answer A

-- what a call asks of an accepted sheet: its arguments are in range (else 9), the lent memory is large enough (else 10)
pub record Terms : Type 0 where
  pub in_range : Sheet → Bool
  pub enough : Sheet → Bool

-- What the answer is, where R states the figure.

abbrev pub GivenBy : {A : Type 0} → Bool → Bool → (A → Type 0) → Answer A → Type 0
GivenBy {A} true true R r = (v : A) × (r ≡ given v) × R v
GivenBy true false R r = r ≡ refused 10 0
GivenBy false e R r = r ≡ refused 9 0

abbrev pub AnsweredBy : {A : Type 0} → Terms → (Sheet → A → Type 0) → Judgement → Answer A → Type 0
AnsweredBy t R (Judgement.refused n p) r = r ≡ refused n p
AnsweredBy t R (Judgement.accepted s) r = GivenBy (t.in_range s) (t.enough s) (R s) r

abbrev pub Answered : {A : Type 0} → Terms → (Sheet → A → Type 0) → List ℕ → Answer A → Type 0
Answered t R bytes r = AnsweredBy t R (judgement bytes) r

-- What computes it, where f computes the figure.

abbrev pub answer_of : {A : Type 0} → Terms → (Sheet → A) → Judgement → Answer A
answer_of t f (Judgement.refused n p) = refused n p
answer_of t f (Judgement.accepted s) = cond (t.in_range s) (cond (t.enough s) (given (f s)) (refused 10 0)) (refused 9 0)

unfoldable pub answer : {A : Type 0} → Terms → (Sheet → A) → List ℕ → Answer A
answer t f bytes = answer_of t f (judgement bytes)

-- What the tests before an answer find: the sheet is accepted, the arguments are in range, and the lent memory is large enough.
pub record Meets (t : Terms) (bytes : List ℕ) : Type 0 where
  pub accepted : Accepted bytes
  pub in_range : t.in_range (sheet_in bytes) ≡ true
  pub enough : t.enough (sheet_in bytes) ≡ true

-- whichever figure of the kind A is asked for, the call is refused with this number and place
abbrev pub RefusedWith : Type 0 → Terms → List ℕ → ℕ → ℕ → Type 0
RefusedWith A t bytes number place = (f : Sheet → A) → answer t f bytes ≡ refused number place
