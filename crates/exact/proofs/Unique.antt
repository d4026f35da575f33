-- Two calls with the same sheet and the same lent memory that meet the contract agree: in the answer, in the whole tape memory, and in all of the
-- working memory that the answer does not use. Assumes nothing.
use mathlib.Core.Path.{◌≡◌, refl, sym, ap, subst, ◌∙◌}
use mathlib.Core.List.{List, []}
use Prim.Native.Nat.{ℕ}
use native.Mathlib.Omega.{arith}
use lib.ListN.{length, drop}
use Rattle.model.specs.Verdict as Verdict
use Rattle.query.specs.Answer.{Answer, refused, given}
use Rattle.query.specs.Query.{Witnessed}
use Rattle.query.specs.Memory.{Stays, work_used, tapes_in, tape_used}
use Rattle.query.proofs.Answers.{exact_answer_unique}
use Rattle.query.proofs.Meeting.{stays_agree}
use Rattle.witness.proofs.Unique.{tapes_same}
use Rattle.std.specs.Prelude.{Option, Some, None, Result, Ok, Err}
use Rattle.judge.specs.declared.Refusal.{Refusal}
use Rattle.judge.specs.Told.{number_of}
use Rattle.judge.proofs.JudgedLaws.{refusal_same}
use Rattle.cells.specs.declared.Interval.{Interval}
use Rattle.cells.specs.Cells.{found_of}
use Rattle.cells.proofs.Unique.{found_injective}
use Rattle.exact.specs.Exact.{answer_of, modules_in, ExactTested}

apart : {C : Type 0} {v : Witnessed} {number place : ℕ} → refused number place ≡ given v → C
apart e = let z : ◌≡◌ {A = ℕ} 0 1 = cc in absurd (omega arith)

-- the verdict of an answer that is given, and its tapes
abbrev verdict_in : Answer Witnessed → Verdict.Exact
verdict_in (refused number place) = Verdict.Exact.clear
verdict_in (given w) = w.verdict

abbrev tapes_of : Answer Witnessed → List (List ℕ)
tapes_of (refused number place) = []
tapes_of (given w) = w.tapes

clear_apart : {C : Type 0} {a b v : ℕ} → Verdict.Exact.clear ≡ Verdict.Exact.over a b v → C
clear_apart e = let z : ◌≡◌ {A = ℕ} 0 1 = cc in absurd (omega arith)

-- the verdict that is given is what is found
given_found : (n : ℕ) (memory : List ℕ) (r : Option Interval) → verdict_in (answer_of n memory (Ok r)) ≡ found_of r
given_found n memory None = refl
given_found n memory (Some x) = refl

answer_injective : (n : ℕ) (p q : List ℕ) (r s : Result (Option Interval) Refusal) → answer_of n p r ≡ answer_of n q s → r ≡ s
answer_injective n p q (Err a) (Err b) e =
    let number : number_of a.fault ≡ number_of b.fault = cc in
    let place : a.place ≡ b.place = cc in
    ap Err (refusal_same a b number place)
answer_injective n p q (Err a) (Ok None) e = apart e
answer_injective n p q (Err a) (Ok (Some y)) e = apart e
answer_injective n p q (Ok None) (Err b) e = apart (sym e)
answer_injective n p q (Ok (Some x)) (Err b) e = apart (sym e)
answer_injective n p q (Ok r) (Ok s) e = ap Ok (found_injective r s (sym (given_found n p r) ∙ ap verdict_in e ∙ given_found n q s))

pub record Agree (r s : Result (Option Interval) Refusal) (n : ℕ) (u v p q : List ℕ) : Type 0 where
  pub answer : r ≡ s
  pub memory : Stays (work_used (answer_of n p r)) u v
  pub tape : p ≡ q

pub exact_unique : {bytes w u v t p q : List ℕ} {r s : Result (Option Interval) Refusal} → ExactTested bytes w u t p r → ExactTested bytes w v t q s → Agree r s (modules_in bytes) u v p q
exact_unique {bytes} {w} {u} {v} {t} {p} {q} {r} {s} g h = record {
  answer = answer_injective n p q r s same;
  memory = stays_agree g.memory (subst (λ (x : Answer Witnessed). Stays (work_used x) w v) (sym same) h.memory);
  tape = tape_same r s same (stays_agree g.tape (subst (λ (x : Answer Witnessed). Stays (tape_used n x) t q) (sym same) h.tape)).above;
}
  where
    n : ℕ
    n = modules_in bytes

    same : answer_of n p r ≡ answer_of n q s
    same = exact_answer_unique bytes (length w) (length t) (answer_of n p r) (answer_of n q s) g.answer h.answer

    tape_same : (r s : Result (Option Interval) Refusal) → answer_of n p r ≡ answer_of n q s → drop (tape_used n (answer_of n p r)) q ≡ drop (tape_used n (answer_of n p r)) p → p ≡ q
    tape_same (Err a) s e rest = sym rest
    tape_same (Ok None) s e rest = sym rest
    tape_same (Ok (Some x)) (Err b) e rest = apart (sym e)
    tape_same (Ok (Some x)) (Ok None) e rest = clear_apart (sym (ap verdict_in e))
    tape_same (Ok (Some x)) (Ok (Some y)) e rest =
        let verdicts : Verdict.Exact.over x.start x.end x.demand ≡ Verdict.Exact.over y.start y.end y.demand = ap verdict_in e in
        let end : x.end ≡ y.end = cc in
        let tapes : tapes_in n x.end p ≡ tapes_in n y.end q = ap tapes_of e in
        tapes_same n x.end p q (rw (sym end) at tapes) (sym rest)
