-- What the verdicts of the exact test mean for work on one processor: the statements. Assumes nothing.
use mathlib.Core.Logic.{◌⊎◌}
use mathlib.Core.List.{List}
use Prim.Native.Nat.{ℕ, ◌≤◌}
use Rattle.model.specs.Sheet.{Sheet}
use Rattle.model.specs.WellFormed.{WellFormed}
use Rattle.model.specs.Verdict.{Exact, ExactIs}
use Rattle.model.specs.Tape.{AreTapes}
use Rattle.edf.specs.Work.{Runs, AreRuns, Instance, IsInstance, Work, AreWorks, full_cost, Slot, Order, EarliestDeadlineFirst, OnTime}
use Rattle.edf.specs.Shown.{Shown}
use Rattle.edf.proofs.Building.{order_built}
use Rattle.edf.proofs.Verdicts.{shown_runs, clear_excludes, ends_on_time, ends_late, one_holds, nothing_between}

-- Clear: whatever switches are made, and however little of its cost each instance takes, every order that is earliest deadline first, with any choice among
-- equal due ticks, ends each instance that is due by the horizon on time. Instances that are due past the horizon compete too.
pub clear_on_time : (s : Sheet) → WellFormed s → ExactIs s Exact.clear
    → (ρs : Runs) → AreRuns s ρs → (w : Work) → AreWorks s ρs w → (σ : ℕ → Slot) → EarliestDeadlineFirst s ρs w σ
    → (x : Instance) → IsInstance s ρs x → x.due ≤ s.horizon → OnTime w σ x
clear_on_time = ends_on_time

-- That is not said of nothing: for all runs and works there is such an order.
pub order_exists : (s : Sheet) (ρs : Runs) (w : Work) → (σ : ℕ → Slot) × EarliestDeadlineFirst s ρs w σ
order_exists = order_built

-- Over: with any runs that the tapes show, at full cost, no order of work whatever ends each instance that is due by b on time.
pub over_late : (s : Sheet) → WellFormed s → (a b v : ℕ) → ExactIs s (Exact.over a b v) → (ts : List (List ℕ)) → AreTapes s a b ts
    → (ρs : Runs) → AreRuns s ρs → Shown ρs b ts → (σ : ℕ → Slot) → Order s ρs full_cost σ
    → ((x : Instance) → IsInstance s ρs x → x.due ≤ b → OnTime full_cost σ x) → ⊥
over_late = ends_late

-- And runs that show the tapes exist, whatever the interval.
pub over_shown : (s : Sheet) (a b : ℕ) (ts : List (List ℕ)) → AreTapes s a b ts → (ρs : Runs) × AreRuns s ρs × Shown ρs b ts
over_shown = shown_runs

-- Nothing lies between: if for all runs some order of work ends, at full cost, each instance that is due by the horizon on time, the verdict is clear.
pub no_gap : (s : Sheet) → WellFormed s
    → ((ρs : Runs) → AreRuns s ρs → (σ : ℕ → Slot) × Order s ρs full_cost σ × ((x : Instance) → IsInstance s ρs x → x.due ≤ s.horizon → OnTime full_cost σ x))
    → ExactIs s Exact.clear
no_gap = nothing_between

-- One of the two verdicts holds ..
pub clear_or_over : (s : Sheet) → WellFormed s → ExactIs s Exact.clear ⊎ ((a : ℕ) × (b : ℕ) × (v : ℕ) × ExactIs s (Exact.over a b v))
clear_or_over = one_holds

-- .. and not both.
pub not_both : (s : Sheet) → ExactIs s Exact.clear → (a b v : ℕ) → ExactIs s (Exact.over a b v) → ⊥
not_both = clear_excludes
