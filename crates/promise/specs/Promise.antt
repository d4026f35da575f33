-- What an answer of the exact test promises for work on one processor (demand 3). Assumes nothing.
use Rattle.std.specs.Prelude.{List, ℕ, ◌≤◌}
use Rattle.model.specs.Sheet.{Sheet}
use Rattle.edf.specs.Work.{Runs, AreRuns, Instance, IsInstance, Work, AreWorks, full_cost, Slot, Order, EarliestDeadlineFirst, OnTime}
use Rattle.edf.specs.Shown.{Shown}

-- Clear. Whatever switches are made (ρs), and if each instance takes no more than its cost (w), every earliest-deadline-first order (σ) ends every
-- instance that is due by the horizon on time.
abbrev pub ClearPromise : Sheet → Type 0
ClearPromise s =
    (ρs : Runs) → AreRuns s ρs → (w : Work) → AreWorks s ρs w → (σ : ℕ → Slot) → EarliestDeadlineFirst s ρs w σ
    → (x : Instance) → IsInstance s ρs x → x.due ≤ s.horizon → OnTime w σ x

-- Over. Runs that the tapes show exist; and with any of them, at full cost, no order of work ends every instance that is due by the end b on time.
pub record OverPromise (s : Sheet) (b : ℕ) (tapes : List (List ℕ)) : Type 0 where
  pub shown : (ρs : Runs) × AreRuns s ρs × Shown ρs b tapes
  pub late : (ρs : Runs) → AreRuns s ρs → Shown ρs b tapes → (σ : ℕ → Slot) → Order s ρs full_cost σ
      → ((x : Instance) → IsInstance s ρs x → x.due ≤ b → OnTime full_cost σ x) → ⊥
