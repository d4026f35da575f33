-- What an answer can be, whatever the bytes are: a refusal's number is from 1 to 10, and its place is in the longest sheet or at its end; what is given
-- belongs to a well_formed sheet. And what bounds the modes of such a sheet and the demand of a verdict. Assumes nothing.
use mathlib.Core.Path.{◌≡◌, refl, sym, subst}
use mathlib.Core.Bool.{Bool, true, false}
use mathlib.Core.List.{List}
use Prim.Native.Nat.{ℕ, ◌*◌, ◌^◌, ◌≤◌, ◌<◌}
use native.Mathlib.Nat.{le_refl}
use native.Mathlib.Omega.{arith}
use lib.ListN.{length}
use lib.Seq.{take-length}
use Rattle.model.specs.Lists.{sum_of}
use Rattle.model.specs.Sheet.{Module, Sheet, absent, modes_in, counts}
use Rattle.model.specs.Limits.{max_bytes}
use Rattle.model.specs.WellFormed.{ModuleRule, WellFormed}
use Rattle.model.specs.Run.{first}
use Rattle.model.specs.Demand.{module_demand, value}
use Rattle.model.specs.Verdict.{Quick, Exact, QuickIs, ExactIs, quick_sum, exact_sum}
use Rattle.model.proofs.Lists.{all_at}
use Rattle.model.proofs.Runs.{period_positive}
use Rattle.model.proofs.Bounds.{value_bound}
use Rattle.model.proofs.Verdicts.{quick_sum_only, exact_sum_only}
use Rattle.format.specs.Judgement.{Judgement, judgement}
use Rattle.format.proofs.Judging.{refused_number_lem}
use Rattle.format.proofs.RoundTrip.{accepted_well_formed, refused_place}
use Rattle.query.specs.Answer.{Answer, refused, given, Terms, GivenBy, AnsweredBy, Answered}
use Rattle.query.specs.Query.{WitnessedIs, exact_terms, ExactAnswer}
use Rattle.model.proofs.Summing.{sum_most}
use Rattle.model.proofs.Emptied.{module_bound}
use Rattle.std.specs.Prelude.{Option, Some, None, Result, Ok, Err}
use Rattle.judge.specs.declared.Refusal.{Refusal}
use Rattle.cells.specs.declared.Interval.{Interval}
use Rattle.exact.specs.Exact.{answer_of}
use Rattle.checker.specs.Calls.{Placed, Fits}

-- Refusals.

-- what a refusal's number and place can be
pub record CanRefuse (number place : ℕ) : Type 0 where
  pub least : 1 ≤ number
  pub most : number ≤ 10
  pub placed : place ≤ max_bytes

pub judged_refused : (bs : List ℕ) (n p : ℕ) → judgement bs ≡ Judgement.refused n p → CanRefuse n p
judged_refused bs n p e = omega (arith, refused_number_lem bs n p e, refused_place bs n p e)

-- Any call.

-- a refusal, or what R states of some well_formed sheet
abbrev pub Possible : {A : Type 0} → (Sheet → A → Type 0) → Answer A → Type 0
Possible R (refused number place) = CanRefuse number place
Possible R (given v) = (s : Sheet) × WellFormed s × R s v

module _ {A : Type 0} (t : Terms) (R : Sheet → A → Type 0) (bytes : List ℕ) (a : Answer A) where
  pub possible : Answered t R bytes a → Possible R a
  possible = judged (judgement bytes) refl
    where
      tests : (s : Sheet) → WellFormed s → (i e : Bool) → GivenBy i e (R s) a → Possible R a
      tests s w true true h = subst (Possible R) (sym h.1) (s, w, h.2)
      tests s w true false h = subst (Possible R) (sym h) (omega arith)
      tests s w false e h = subst (Possible R) (sym h) (omega arith)

      judged : (j : Judgement) → judgement bytes ≡ j → AnsweredBy t R j a → Possible R a
      judged (Judgement.refused n p) e h = subst (Possible R) (sym h) (judged_refused bytes n p e)
      judged (Judgement.accepted s) e h = tests s (accepted_well_formed bytes s e) (t.in_range s) (t.enough s) h

  pub placed : Answered t R bytes a → Placed a
  placed h = pick a (possible h)
    where
      pick : (a : Answer A) → Possible R a → Placed a
      pick (refused number place) c = c.placed
      pick (given v) c = tt

-- Sums over the modules.

module _ (s : Sheet) (ok : WellFormed s) where
  -- a sum of what is at most c for each module
  sum_bound : (f : Module → ℕ) (c : ℕ) → ((m : Module) → ModuleRule m → f m ≤ c) → sum_of f s.modules ≤ c * length s.modules
  sum_bound f c each =
      rw take-length at (sum_most f absent c s.modules (λ k i. each _ (all_at ModuleRule absent s.modules ok.modules k i)) (length s.modules) (le_refl _))

  pub modes_most : (counts s).modes ≤ 64
  modes_most = omega (arith, sum_bound modes_in 8 (λ m r. r.most), ok.modules_most)

  pub quick_demand : (L v : ℕ) → QuickIs s (Quick.over L v) → v < 2 ^ 32
  unfolding quick_sum
  quick_demand L v h =
      let most = sum_bound (λ m. module_demand m L) 32000 (λ m r. omega (arith, module_bound m r L, h.1, ok.horizon_most)) in
      omega (arith, quick_sum_only s ok L v h.2, most, ok.modules_most)

  -- the demand fits the 24 bits above start and end
  pub exact_demand : (a b v : ℕ) → ExactIs s (Exact.over a b v) → v < 2 ^ 24
  unfolding exact_sum
  exact_demand a b v h =
      let most = sum_bound (λ m. value m a b first) 32000 (λ m r. omega (arith, value_bound m r a b first (period_positive m r 0), h.1, ok.horizon_most)) in
      omega (arith, exact_sum_only s ok a b v h.2, most, ok.modules_most)

-- The exact test.

pub exact_fits : (bytes : List ℕ) (work tape n : ℕ) (memory : List ℕ) (x : Result (Option Interval) Refusal) → ExactAnswer bytes work tape (answer_of n memory x) → Fits x
exact_fits bytes work tape n memory x h = pick x (possible (exact_terms work tape) WitnessedIs bytes (answer_of n memory x) h)
  where
    pick : (x : Result (Option Interval) Refusal) → Possible WitnessedIs (answer_of n memory x) → Fits x
    pick (Err r) c = c.placed
    pick (Ok None) c = tt
    pick (Ok (Some x)) c = exact_demand c.0 c.1 x.start x.end x.demand c.2.0
