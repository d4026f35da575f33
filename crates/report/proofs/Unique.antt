-- Two calls with the same sheet and the same lent memory that meet the contract agree: in the answer, in the whole output memory, in the whole tape
-- memory, and in all of the working memory that the answer does not use. Assumes nothing.
use mathlib.Core.Path.{◌≡◌, refl, sym, ap, ◌∙◌, subst}
use mathlib.Core.Bool.{Bool, true, false}
use mathlib.Core.List.{List}
use Prim.Native.Nat.{ℕ}
use native.Mathlib.Omega.{arith}
use lib.ListN.{length, take, drop, take-append-drop}
use Rattle.model.specs.Sheet.{Sheet}
use Rattle.format.specs.Judgement.{Judgement, judgement, sheet_in}
use Rattle.lines.specs.Lines.{sheet_lines}
use Rattle.query.specs.Answer.{Answer, refused, given, Terms, GivenBy, AnsweredBy, Answered}
use Rattle.query.specs.Memory.{Stays, work_used}
use Rattle.query.proofs.Answers.{answer_unique}
use Rattle.query.proofs.Meeting.{stays_agree}
use Rattle.exact.proofs.Unique.{exact_unique}
use Rattle.std.specs.Prelude.{Result, Ok, Err}
use Rattle.judge.specs.declared.Refusal.{Refusal}
use Rattle.judge.specs.Told.{number_of}
use Rattle.judge.proofs.JudgedLaws.{refusal_same}
use Rattle.report.specs.Report.{report_terms, answer_of, Lines, out_used, TapeLeft, Reported}

pub answer_injective : (r q : Result ℕ Refusal) → answer_of r ≡ answer_of q → r ≡ q
answer_injective (Err a) (Err b) e =
    let number : number_of a.fault ≡ number_of b.fault = cc in
    let place : a.place ≡ b.place = cc in
    ap Err (refusal_same a b number place)
answer_injective (Err a) (Ok k) e = cc
answer_injective (Ok k) (Err b) e = cc
answer_injective (Ok k) (Ok l) e = cc

pub apart : {A C : Type 0} {v : A} {number place : ℕ} → given v ≡ refused number place → C
apart e = let z : ◌≡◌ {A = ℕ} 0 1 = cc in absurd (omega arith)

module _ {A : Type 0} (t : Terms) (R : Sheet → A → Type 0) (bytes : List ℕ) where
  -- an answer keeps what follows of its figure
  answered_so : (S : Sheet → A → Type 0) → ((s : Sheet) (v : A) → R s v → S s v) → (r : Answer A) → Answered t R bytes r → Answered t S bytes r
  answered_so S so r = judged (judgement bytes)
    where
      tests : (i e : Bool) (s : Sheet) → GivenBy i e (R s) r → GivenBy i e (S s) r
      tests true true s g = (g.0, g.1, so s g.0 g.2)
      tests true false s g = g
      tests false true s g = g
      tests false false s g = g

      judged : (j : Judgement) → AnsweredBy t R j r → AnsweredBy t S j r
      judged (Judgement.refused n p) g = g
      judged (Judgement.accepted s) g = tests (t.in_range s) (t.enough s) s g

  -- a figure that is given is one of the sheet
  given_holds : (v : A) → Answered t R bytes (given v) → R (sheet_in bytes) v
  given_holds v = judged (judgement bytes) refl
    where
      tests : (i e : Bool) (s : Sheet) → GivenBy i e (R s) (given v) → R s v
      tests true true s g = let same : v ≡ g.0 = cc g.1 in rw same g.2
      tests true false s g = apart g
      tests false true s g = apart g
      tests false false s g = apart g

      judged : (j : Judgement) → judgement bytes ≡ j → AnsweredBy t R j (given v) → R (sheet_in bytes) v
      judged (Judgement.refused n p) e g = apart g
      judged (Judgement.accepted s) e g = rw e (tests (t.in_range s) (t.enough s) s g)

pub record Agree (r q : Result ℕ Refusal) (u v p p' o o' : List ℕ) : Type 0 where
  pub answer : r ≡ q
  pub memory : Stays (work_used (answer_of r)) u v
  pub tape : p ≡ p'
  pub out : o ≡ o'

pub report_unique : {bytes w u v t p p' o x y : List ℕ} {r q : Result ℕ Refusal} → Reported bytes w u t p o x r → Reported bytes w v t p' o y q → Agree r q u v p p' x y
report_unique {bytes} {w} {u} {v} {t} {p} {p'} {o} {x} {y} {r} {q} g h = record {
  answer = same;
  memory = stays_agree g.memory (subst (λ (a : Result ℕ Refusal). Stays (work_used (answer_of a)) w v) (sym same) h.memory);
  tape = tape_same r g.tape (subst (TapeLeft bytes w v t p') (sym same) h.tape);
  out = out_same r g.answer (subst (λ (a : Result ℕ Refusal). Answered terms (Out y) bytes (answer_of a)) (sym same) h.answer) g.out (subst (λ (a : Result ℕ Refusal). Stays (out_used (answer_of a)) o y) (sym same) h.out);
}
  where
    terms : Terms
    terms = report_terms (length w) (length t) (length o)

    Out : List ℕ → Sheet → ℕ → Type 0
    Out o' s n = Lines s o' n

    counted : (o' : List ℕ) (a : Answer ℕ) → Answered terms (Out o') bytes a → Answered terms (λ s n. n ≡ length (sheet_lines s)) bytes a
    counted o' = answered_so terms (Out o') bytes (λ s n. n ≡ length (sheet_lines s)) (λ s n l. l.count)

    same : r ≡ q
    same = answer_injective r q (answer_unique terms (λ s n. n ≡ length (sheet_lines s)) (λ s ok n m e f. e ∙ sym f) bytes (answer_of r) (answer_of q) (counted x (answer_of r) g.answer) (counted y (answer_of q) h.answer))

    tape_same : (a : Result ℕ Refusal) → TapeLeft bytes w u t p a → TapeLeft bytes w v t p' a → p ≡ p'
    tape_same (Err n) a b = a.above ∙ sym b.above
    tape_same (Ok k) a b = (exact_unique a.1 b.1).tape

    out_same : (a : Result ℕ Refusal) → Answered terms (Out x) bytes (answer_of a) → Answered terms (Out y) bytes (answer_of a) → Stays (out_used (answer_of a)) o x → Stays (out_used (answer_of a)) o y → x ≡ y
    out_same (Err n) a b c d = c.above ∙ sym d.above
    out_same (Ok k) a b c d =
        let lines : take k x ≡ take k y = (given_holds terms (Out x) bytes k a).lines ∙ sym (given_holds terms (Out y) bytes k b).lines in
        let rest : drop k x ≡ drop k y = c.above ∙ sym d.above in
        sym (take-append-drop k x) ∙ rw (lines, rest) (take-append-drop k y)
