-- At most one answer meets the contract of `mode_demand`. Assumes nothing.
use mathlib.Core.Path.{◌≡◌}
use mathlib.Core.List.{List}
use Prim.Native.Nat.{ℕ}
use Rattle.std.specs.Prelude.{Result, Ok, Err}
use Rattle.query.specs.Query.{ModeAnswer}
use Rattle.query.proofs.Answers.{mode_answer_unique}
use Rattle.judge.specs.declared.Refusal.{Refusal}
use Rattle.judge.specs.Told.{number_of}
use Rattle.judge.proofs.JudgedLaws.{number_injective}
use Rattle.demand.specs.Demanded.{answer_of}

-- what an answer says is said by no other one
pub answer_of_injective : (r q : Result ℕ Refusal) → answer_of r ≡ answer_of q → r ≡ q
answer_of_injective (Err a) (Err b) e =
    let number : number_of a.fault ≡ number_of b.fault = cc in
    let place : a.place ≡ b.place = cc in
    λ i. Err (record { fault = number_injective a.fault b.fault number i; place = place i })
answer_of_injective (Err a) (Ok v) e = cc
answer_of_injective (Ok v) (Err b) e = cc
answer_of_injective (Ok v) (Ok w) e = cc

pub demand_unique : (bs : List ℕ) (k m a b : ℕ) (r q : Result ℕ Refusal) → ModeAnswer bs k m a b (answer_of r) → ModeAnswer bs k m a b (answer_of q) → r ≡ q
demand_unique bs k m a b r q h g = answer_of_injective r q (mode_answer_unique bs k m a b (answer_of r) (answer_of q) h g)
