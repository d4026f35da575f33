-- Two calls with the same sheet and the same lent memory that meet the contract agree: in the answer, and in all of the memory that the answer does not use. Assumes nothing.
use mathlib.Core.Path.{◌≡◌, refl, sym, ap, subst}
use mathlib.Core.Bool.{Bool, true, false}
use mathlib.Core.List.{List}
use mathlib.Core.Logic.{inl, inr}
use Prim.Native.Nat.{ℕ}
use lib.ListN.{length}
use Rattle.query.specs.Memory.{Stays, work_used}
use Rattle.query.proofs.Answers.{quick_answer_unique}
use Rattle.query.proofs.Meeting.{stays_agree}
use Rattle.std.specs.Prelude.{Option, Result, Ok, Err}
use Rattle.judge.specs.declared.Judged.{Judged}
use Rattle.judge.specs.declared.Refusal.{Refusal}
use Rattle.judge.specs.Told.{number_of}
use Rattle.judge.proofs.JudgedLaws.{judged_unique, refusal_same}
use Rattle.sums.specs.declared.Excess.{Excess}
use Rattle.sums.specs.Sums.{quick_of}
use Rattle.sums.proofs.Unique.{over_unique}
use Rattle.quick.specs.Asking.{AskedBy}
use Rattle.quick.specs.Quick.{answer_of, QuickTested}

answer_injective : (r q : Result (Option Excess) Refusal) → answer_of r ≡ answer_of q → r ≡ q
answer_injective (Err a) (Err b) e =
    let number : number_of a.fault ≡ number_of b.fault = cc in
    let place : a.place ≡ b.place = cc in
    ap Err (refusal_same a b number place)
answer_injective (Err a) (Ok y) e = cc
answer_injective (Ok x) (Err b) e = cc
answer_injective (Ok x) (Ok y) e =
    let found : quick_of x ≡ quick_of y = cc in
    ap Ok (over_unique (quick_of y) x y found refl)

-- two answers agree, and of the memory that each leaves all but what the call uses
pub record Agree (r q : Result (Option Excess) Refusal) (u v : List ℕ) : Type 0 where
  pub answer : r ≡ q
  pub memory : Stays (work_used (answer_of r)) u v

pub quick_unique : {bytes w u v : List ℕ} {r q : Result (Option Excess) Refusal} → QuickTested bytes w u r → QuickTested bytes w v q → Agree r q u v
quick_unique {bytes} {w} {u} {v} {r} {q} g h =
    let same : r ≡ q = answer_injective r q (quick_answer_unique bytes (length w) _ _ g.answer h.answer) in
    record { answer = same; memory = stays_agree g.memory (subst (λ (x : Result (Option Excess) Refusal). Stays (work_used (answer_of x)) w v) (sym same) h.memory) }

-- Where P says of the same counts and horizon not both that the memory is enough and that it is not, at most one answer meets the contract of `asked`.
module _ (P : Judged → Bool → Type 0) (one : (a : Judged) → P a true → P a false → ⊥) (bytes : List ℕ) where
  apart : {A : Type 0} (a b : Judged) → ◌≡◌ {A = Result Judged Refusal} (Ok a) (Ok b) → P a true → P b false → A
  apart a b e room short = let same : a ≡ b = cc in absurd (one b (rw (← same) room) short)

  pub asked_unique : (r q : Result Judged Refusal) → AskedBy P bytes r → AskedBy P bytes q → r ≡ q
  asked_unique (Ok a) (Ok b) (says, _) (tells, _) = judged_unique bytes (Ok a) (Ok b) says tells
  asked_unique (Ok a) (Err q) (says, _) (inl tells) = judged_unique bytes (Ok a) (Err q) says tells
  asked_unique (Ok a) (Err q) (says, room) (inr (b, tells, short, _)) = apart a b (judged_unique bytes (Ok a) (Ok b) says tells) room short
  asked_unique (Err r) (Ok b) (inl says) (tells, _) = judged_unique bytes (Err r) (Ok b) says tells
  asked_unique (Err r) (Ok b) (inr (a, says, short, _)) (tells, room) = apart b a (judged_unique bytes (Ok b) (Ok a) tells says) room short
  asked_unique (Err r) (Err q) (inl says) (inl tells) = judged_unique bytes (Err r) (Err q) says tells
  asked_unique (Err r) (Err q) (inl says) (inr (b, tells, _, _)) = let z : Err r ≡ Ok b = judged_unique bytes (Err r) (Ok b) says tells in cc
  asked_unique (Err r) (Err q) (inr (a, says, _, _)) (inl tells) = let z : Ok a ≡ Err q = judged_unique bytes (Ok a) (Err q) says tells in cc
  asked_unique (Err r) (Err q) (inr (_, _, _, is)) (inr (_, _, _, same)) = rw (is, same) refl
