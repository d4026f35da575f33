-- The exact test's verdicts and the work on one processor, put together: the demand of the runs is the cost of the listed instances. Assumes nothing.
use mathlib.Core.Path.{refl}
use mathlib.Core.Logic.{◌⊎◌, inl, inr}
use mathlib.Core.List.{List, [], ◌∷◌}
use Prim.Native.Nat.{ℕ, zero, suc, ◌-◌, ◌≤◌, ◌<◌}
use native.Mathlib.Nat.{le_trans}
use native.Mathlib.Omega.{arith}
use Rattle.model.specs.Lists.{sum_of}
use Rattle.model.specs.Sheet.{Module, Sheet}
use Rattle.model.specs.WellFormed.{WellFormed}
use Rattle.model.specs.Run.{first}
use Rattle.model.specs.Verdict.{Exact, ExactIs, exact_sum, exact}
use Rattle.model.specs.Tape.{AreTapes, tapes}
use Rattle.model.proofs.Verdicts.{exact_sum_lem, exact_is}
use Rattle.model.proofs.Tapes.{tapes_are}
use Rattle.edf.specs.Work.{Runs, AreRuns, Instance, IsInstance, Work, AreWorks, full_cost, Slot, Order, EarliestDeadlineFirst, OnTime}
use Rattle.edf.specs.Shown.{Shown}
use Rattle.edf.proofs.Listing.{inside, inside_demand}
use Rattle.edf.proofs.Demands.{RunsOf, TapesOf, demands_most, demands_shown}
use Rattle.edf.proofs.Late.{too_much}
use Rattle.edf.proofs.Clear.{all_in_time}

-- of each tape the run that has it; past the tapes any states
tape_runs : (a b : ℕ) (ms : List Module) (ts : List (List ℕ)) → TapesOf a b ms ts → Runs
tape_runs a b [] [] h k = λ t. first
tape_runs a b [] (tape ∷ ts) h k = absurd h
tape_runs a b (m ∷ ms) [] h k = absurd h
tape_runs a b (m ∷ ms) (tape ∷ ts) h zero = h.0.run
tape_runs a b (m ∷ ms) (tape ∷ ts) h (suc k) = tape_runs a b ms ts h.1 k

module _ (a b : ℕ) where
  runs_are : (ms : List Module) (ts : List (List ℕ)) (h : TapesOf a b ms ts) → RunsOf (tape_runs a b ms ts h) ms
  unfolding tape_runs
  runs_are [] ts h k m n = absurd n
  runs_are (o ∷ ms) [] h k m n = absurd h
  runs_are (o ∷ ms) (tape ∷ ts) h zero m n = rw n h.0.is_run
  runs_are (o ∷ ms) (tape ∷ ts) h (suc k) m n = runs_are ms ts h.1 k m n

  runs_show : (ms : List Module) (ts : List (List ℕ)) (h : TapesOf a b ms ts) → Shown (tape_runs a b ms ts h) b ts
  unfolding tape_runs
  runs_show ms [] h k t n = absurd n
  runs_show [] (tape ∷ ts) h k t n = absurd h
  runs_show (o ∷ ms) (tape ∷ ts) h zero t n = rw n h.0.written
  runs_show (o ∷ ms) (tape ∷ ts) h (suc k) t n = runs_show ms ts h.1 k t n

pub shown_runs : (s : Sheet) (a b : ℕ) (ts : List (List ℕ)) → AreTapes s a b ts → (ρs : Runs) × AreRuns s ρs × Shown ρs b ts
shown_runs s a b ts h = (tape_runs a b s.modules ts h, runs_are a b s.modules ts h, runs_show a b s.modules ts h)

pub clear_excludes : (s : Sheet) → ExactIs s Exact.clear → (a b v : ℕ) → ExactIs s (Exact.over a b v) → ⊥
clear_excludes s clear a b v over = omega (arith, clear a b v over.0 over.1 over.2)

module _ (s : Sheet) (ok : WellFormed s) where
  pub ends_on_time : ExactIs s Exact.clear → (ρs : Runs) → AreRuns s ρs → (w : Work) → AreWorks s ρs w → (σ : ℕ → Slot) → EarliestDeadlineFirst s ρs w σ
      → (x : Instance) → IsInstance s ρs x → x.due ≤ s.horizon → OnTime w σ x
  ends_on_time clear ρs runs w works σ edf x is l = all_in_time s ok ρs w σ edf x.due works fits x is refl
    where
      fits : (a : ℕ) → a < x.due → sum_of full_cost (inside s ρs a x.due) ≤ x.due - a
      fits a k =
          let sum = exact_sum_lem s ok a x.due in
          omega (arith, inside_demand s ρs a x.due, demands_most a x.due s.modules (exact_sum s a x.due) sum ρs runs, clear a x.due (exact_sum s a x.due) k l sum)

  pub ends_late : (a b v : ℕ) → ExactIs s (Exact.over a b v) → (ts : List (List ℕ)) → AreTapes s a b ts → (ρs : Runs) → AreRuns s ρs → Shown ρs b ts
      → (σ : ℕ → Slot) → Order s ρs full_cost σ → ((x : Instance) → IsInstance s ρs x → x.due ≤ b → OnTime full_cost σ x) → ⊥
  ends_late a b v over ts are ρs runs shown σ order on-time =
      too_much s ρs a b σ order over.0
      (omega (arith, over.3, inside_demand s ρs a b, demands_shown a b (omega (arith, over.0)) s.modules ok.modules v over.2 ts are ρs runs shown)) on-time

  pub one_holds : ExactIs s Exact.clear ⊎ ((a : ℕ) × (b : ℕ) × (v : ℕ) × ExactIs s (Exact.over a b v))
  one_holds = pick (exact s) (exact_is s ok)
    where
      pick : (q : Exact) → ExactIs s q → ExactIs s Exact.clear ⊎ ((a : ℕ) × (b : ℕ) × (v : ℕ) × ExactIs s (Exact.over a b v))
      pick Exact.clear h = inl h
      pick (Exact.over a b v) h = inr (a, b, v, h)

  pub nothing_between : ((ρs : Runs) → AreRuns s ρs
      → (σ : ℕ → Slot) × Order s ρs full_cost σ × ((x : Instance) → IsInstance s ρs x → x.due ≤ s.horizon → OnTime full_cost σ x))
      → ExactIs s Exact.clear
  nothing_between can = pick one_holds
    where
      pick : ExactIs s Exact.clear ⊎ ((a : ℕ) × (b : ℕ) × (v : ℕ) × ExactIs s (Exact.over a b v)) → ExactIs s Exact.clear
      pick (inl h) = h
      pick (inr (a, b, v, over)) =
          let (ρs, runs, shown) = shown_runs s a b (tapes s a b) (tapes_are s ok a b) in
          let (σ, order, on-time) = can ρs runs in
          absurd (ends_late a b v over (tapes s a b) (tapes_are s ok a b) ρs runs shown σ order (λ x is l. on-time x is (le_trans l over.1)))
