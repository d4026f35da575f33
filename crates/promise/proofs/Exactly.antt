-- The promises are no weaker than the answers: that of clear holds of no other sheet than one whose exact verdict is clear, and that of over rules out that
-- work could be ordered so that all ends on time. Assumes nothing.
use mathlib.Core.Logic.{◌⊎◌, inl, inr, ◌↔◌}
use mathlib.Core.List.{List}
use Prim.Native.Nat.{ℕ, ◌≤◌}
use native.Mathlib.Omega.{arith}
use Rattle.model.specs.Sheet.{Sheet}
use Rattle.model.specs.WellFormed.{WellFormed}
use Rattle.model.specs.Verdict.{Exact, ExactIs}
use Rattle.model.specs.Tape.{tapes}
use Rattle.model.proofs.Tapes.{tapes_are}
use Rattle.edf.specs.Work.{Runs, AreRuns, Instance, IsInstance, full_cost, Slot, Order, OnTime}
use Rattle.edf.proofs.Described.{full_work}
use Rattle.edf.proofs.Meaning.{clear_on_time, order_exists, over_late, over_shown, clear_or_over}
use Rattle.promise.specs.Promise.{ClearPromise, OverPromise}

-- an earliest-deadline-first order of the runs that an over shows, at full cost, would end all on time
over_not_clear : (s : Sheet) → WellFormed s → (a b v : ℕ) → ExactIs s (Exact.over a b v) → ClearPromise s → ⊥
over_not_clear s ok a b v is promise =
    let are = tapes_are s ok a b in
    let r = over_shown s a b (tapes s a b) are in
    let o = order_exists s r.0 full_cost in
    over_late s ok a b v is (tapes s a b) are r.0 r.1 r.2 o.0 o.1.order
    (λ x i due. promise r.0 r.1 full_cost (full_work s r.0) o.0 o.1 x i (omega (arith, is.1)))

pub clear_exactly : (s : Sheet) → WellFormed s → ClearPromise s ↔ ExactIs s Exact.clear
clear_exactly s ok = (λ promise. pick promise (clear_or_over s ok), clear_on_time s ok)
  where
    pick : ClearPromise s → ExactIs s Exact.clear ⊎ ((a : ℕ) × (b : ℕ) × (v : ℕ) × ExactIs s (Exact.over a b v)) → ExactIs s Exact.clear
    pick promise (inl is) = is
    pick promise (inr (a, b, v, is)) = absurd (over_not_clear s ok a b v is promise)

-- not for all runs is there an order of work that ends, at full cost, each instance that is due by b on time
pub over_excludes : (s : Sheet) (b : ℕ) (tapes : List (List ℕ)) → OverPromise s b tapes
    → ((ρs : Runs) → AreRuns s ρs → (σ : ℕ → Slot) × Order s ρs full_cost σ × ((x : Instance) → IsInstance s ρs x → x.due ≤ b → OnTime full_cost σ x)) → ⊥
over_excludes s b tapes promise can =
    let (ρs, runs, shown) = promise.shown in
    let (σ, order, on-time) = can ρs runs in
    promise.late ρs runs shown σ order on-time
