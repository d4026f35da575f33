-- Two calls with the same arguments and the same lent memory that meet the contract agree: in the answer, and in all of the memory that the answer does not use. Assumes nothing.
use mathlib.Core.Path.{◌≡◌, sym, subst}
use mathlib.Core.List.{List}
use Prim.Native.Nat.{ℕ}
use Rattle.std.specs.Prelude.{Result}
use lib.ListN.{length}
use Rattle.query.specs.Memory.{Stays, work_used}
use Rattle.query.proofs.Answers.{state_answer_unique, module_answer_unique}
use Rattle.query.proofs.Meeting.{stays_agree}
use Rattle.demand.specs.Demanded.{answer_of}
use Rattle.demand.proofs.Unique.{answer_of_injective}
use Rattle.judge.specs.declared.Refusal.{Refusal}
use Rattle.states.specs.States.{StateDemanded, ModuleDemanded}

-- two answers agree, and of the memory that each leaves all but what the call uses
pub record Agree (r q : Result ℕ Refusal) (u v : List ℕ) : Type 0 where
  pub answer : r ≡ q
  pub memory : Stays (work_used (answer_of r)) u v

module _ {w u v : List ℕ} {r q : Result ℕ Refusal} where
  agree : r ≡ q → Stays (work_used (answer_of r)) w u → Stays (work_used (answer_of q)) w v → Agree r q u v
  agree same g h = record { answer = same; memory = stays_agree g (subst (λ (x : Result ℕ Refusal). Stays (work_used (answer_of x)) w v) (sym same) h) }

  pub state_unique : {bytes : List ℕ} {k m d L : ℕ} → StateDemanded bytes k m d L w u r → StateDemanded bytes k m d L w v q → Agree r q u v
  state_unique {bytes} {k} {m} {d} {L} g h = agree (answer_of_injective r q (state_answer_unique bytes k m d L (length w) _ _ g.answer h.answer)) g.memory h.memory

  pub module_unique : {bytes : List ℕ} {k L : ℕ} → ModuleDemanded bytes k L w u r → ModuleDemanded bytes k L w v q → Agree r q u v
  module_unique {bytes} {k} {L} g h = agree (answer_of_injective r q (module_answer_unique bytes k L (length w) _ _ g.answer h.answer)) g.memory h.memory
