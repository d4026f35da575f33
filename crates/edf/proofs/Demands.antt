-- The demands of runs from tick 0 add up to no more than the exact test's sum; those of the runs that the tapes show add up to it. Assumes nothing.
use mathlib.Core.Path.{◌≡◌, refl, sym, ◌∙◌, ap}
use mathlib.Core.List.{List, [], ◌∷◌}
use Prim.Native.Nat.{ℕ, zero, suc, ◌-◌, ◌≤◌, ◌<◌, zero-le}
use native.Mathlib.Nat.{le_of_suc-le-suc}
use native.Mathlib.Omega.{arith}
use lib.ListN.{get_or}
use Rattle.model.specs.Lists.{All, Nth, Pairwise, SumIs}
use Rattle.model.specs.Sheet.{Module}
use Rattle.model.specs.WellFormed.{ModuleRule}
use Rattle.model.specs.Run.{State, first, Run, later, IsRun, gain, demand}
use Rattle.model.specs.Demand.{IntervalDemand}
use Rattle.model.specs.Tape.{tape_of, IsTape}
use Rattle.model.proofs.Lists.{largest_unique, ticks_same}
use Rattle.model.proofs.Runs.{next_apart}
use Rattle.edf.specs.Work.{Runs}
use Rattle.edf.specs.Shown.{Shown}
use Rattle.edf.proofs.Joined.{sum_over}

-- the sum of the modules' demands in a to b
abbrev pub demands : ℕ → ℕ → Runs → List Module → ℕ
demands a b ρs ms = sum_over (λ k m. demand m (ρs k) a b) ms

-- each of the modules' runs begins at tick 0 in mode 0, time 0
abbrev pub RunsOf : Runs → List Module → Type 0
RunsOf ρs ms = (k : ℕ) (m : Module) → Nth ms k m → IsRun m first (ρs k)

-- the exact test's sum over these modules is v
abbrev pub SumsTo : ℕ → ℕ → List Module → ℕ → Type 0
SumsTo a b ms v = SumIs (λ (m : Module) (w : ℕ). IntervalDemand m a b w) ms v

abbrev pub TapesOf : ℕ → ℕ → List Module → List (List ℕ) → Type 0
TapesOf a b ms ts = Pairwise (λ (m : Module) (tape : List ℕ). IsTape m first a b tape) ms ts

pub demands_most : (a b : ℕ) (ms : List Module) (v : ℕ) → SumsTo a b ms v → (ρs : Runs) → RunsOf ρs ms → demands a b ρs ms ≤ v
demands_most a b [] v r ρs runs = zero-le
demands_most a b (m ∷ ms) v r ρs runs =
    omega (arith, r.4, r.2.1 (demand m (ρs 0) a b) (ρs 0, runs 0 m refl, refl), demands_most a b ms r.1 r.3 (λ k. ρs (suc k)) (λ k. runs (suc k)))

-- A tape fixes the states of its run.

pub tape_at : (ρ : Run) (b t : ℕ) → t < b → get_or (tape_of ρ b) t 0 ≡ (ρ t).mode
tape_at ρ zero t l = absurd (omega arith)
tape_at ρ (suc b) zero l = refl
tape_at ρ (suc b) (suc t) l = tape_at (later ρ) b t (le_of_suc-le-suc l)

tape_modes : (b t : ℕ) (ρ ρ' : Run) → tape_of ρ b ≡ tape_of ρ' b → t < b → (ρ t).mode ≡ (ρ' t).mode
tape_modes b t ρ ρ' e l = sym (tape_at ρ b t l) ∙ ap (λ (tape : List ℕ). get_or tape t 0) e ∙ tape_at ρ' b t l

module _ (m : Module) (ok : ModuleRule m) (s : State) (ρ ρ' : Run) (is : IsRun m s ρ) (is' : IsRun m s ρ') where
  same_states : (t : ℕ) → ((u : ℕ) → u ≤ t → (ρ u).mode ≡ (ρ' u).mode) → ρ t ≡ ρ' t
  same_states zero e = is.starts ∙ sym is'.starts
  same_states (suc t) e =
      let q : ρ t ≡ ρ' t = same_states t (λ u l. e u (omega arith)) in
      next_apart m ok (ρ t) (ρ (suc t)) (ρ' (suc t)) (is.steps t) (rw q (is'.steps t)) (e (suc t) (omega arith))

  same_demand : (a b : ℕ) → a ≤ b → tape_of ρ b ≡ tape_of ρ' b → demand m ρ a b ≡ demand m ρ' a b
  unfolding demand
  same_demand a b l e =
      ticks_same (λ t. gain m (ρ t) t b) (λ t. gain m (ρ' t) t b) a (b - a)
      (λ t k. ap (λ (c : State). gain m c t b) (same_states t (λ u j. tape_modes b u ρ ρ' e (omega arith))))

pub demands_shown : (a b : ℕ) → a ≤ b → (ms : List Module) → All ModuleRule ms → (v : ℕ) → SumsTo a b ms v
    → (ts : List (List ℕ)) → TapesOf a b ms ts
    → (ρs : Runs) → RunsOf ρs ms → Shown ρs b ts → v ≡ demands a b ρs ms
demands_shown a b l [] ok v r [] tapes ρs runs shown = r
demands_shown a b l [] ok v r (t ∷ ts) tapes ρs runs shown = absurd tapes
demands_shown a b l (m ∷ ms) ok v r [] tapes ρs runs shown = absurd tapes
demands_shown a b l (m ∷ ms) ok v r (t ∷ ts) tapes ρs runs shown =
    omega (arith, r.4, here, demands_shown a b l ms ok.1 r.1 r.3 ts tapes.1 (λ k. ρs (suc k)) (λ k. runs (suc k)) (λ k. shown (suc k)))
  where
    tape : IsTape m first a b t
    tape = tapes.0

    here : r.0 ≡ demand m (ρs 0) a b
    here =
        largest_unique _ r.0 (demand m tape.run a b) r.2 tape.reaches
        ∙ same_demand m ok.0 first tape.run (ρs 0) tape.is_run (runs 0 m refl) a b l (tape.written ∙ sym (shown 0 t refl))
