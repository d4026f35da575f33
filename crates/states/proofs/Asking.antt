-- The tests of an accepted sheet say of a call what its terms say: the arguments go before the lent memory. Assumes nothing.
use mathlib.Core.Path.{◌≡◌, refl}
use mathlib.Core.Bool.{Bool, true, false}
use mathlib.Core.List.{List}
use Prim.Native.Nat.{ℕ}
use Rattle.std.specs.Prelude.{Result}
use Rattle.format.specs.Judgement.{sheet_in, Accepted}
use Rattle.query.specs.Answer.{Terms}
use Rattle.query.proofs.Meeting.{range_refused, memory_refused}
use Rattle.judge.specs.declared.Refusal.{Refusal}
use Rattle.states.specs.Asking.{Asks, asked}

pub asks_tested : (t : Terms) (bytes : List ℕ) → Accepted bytes → {i : Bool} → i ≡ t.in_range (sheet_in bytes) → {r : Result (Unit {0}) Refusal} → r ≡ asked i (t.enough (sheet_in bytes)) → Asks t bytes r
asks_tested t bytes accepted q {r} e = rw (e, q) (pick (t.in_range (sheet_in bytes)) (t.enough (sheet_in bytes)) refl refl)
  where
    pick : (i e : Bool) → t.in_range (sheet_in bytes) ≡ i → t.enough (sheet_in bytes) ≡ e → Asks t bytes (asked i e)
    pick true true p q = record { accepted = accepted; in_range = p; enough = q }
    pick true false p q = memory_refused t bytes accepted p q
    pick false e p q = range_refused t bytes accepted p
