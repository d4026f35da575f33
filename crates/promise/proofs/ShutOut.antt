-- Three versions of the exact test that these promises shut out, each by sheet A: one that says clear to everything, one that writes no tape, and
-- one that examines only the intervals from tick 0. Assumes nothing.
use mathlib.Core.Path.{◌≡◌, refl, ap, subst}
use mathlib.Core.Bool.{Bool, true, ◌&&◌, and-eq-true_iff}
use mathlib.Core.List.{List, [], ◌∷◌}
use Prim.Native.Nat.{ℕ, zero, suc, ◌*◌, ◌≤◌, ◌<◌}
use native.Mathlib.Omega.{arith}
use native.Mathlib.Decide.{dec_lt}
use native.Mathlib.Nat.{zero-mul}
use lib.Dec.{leb}
use lib.ListN.{get_or, take, drop}
use borrow.Author.Tests.{leb-true}
use Rattle.model.specs.Lists.{Nth}
use Rattle.model.specs.Sheet.{Sheet, module_at}
use Rattle.model.specs.WellFormed.{WellFormed}
use Rattle.model.specs.Run.{State, gain_of, gain}
use Rattle.model.specs.Demand.{nexts, value}
use Rattle.model.specs.Verdict.{Exact, ExactSum, ExactIs, exact_sum, exact}
use Rattle.model.proofs.Verdicts.{exact_is, exact_sum_only}
use Rattle.format.specs.Record.{mark_coded}
use Rattle.format.specs.Rules.{ordered, counted, task_ruled, kind_ruled, switch_ruled, ruled}
use Rattle.format.specs.Judgement.{gather, tested, judge_from, judgement, sheet_in, Accepted}
use Rattle.format.proofs.RoundTrip.{accepted_well_formed}
use Rattle.query.specs.Memory.{tapes_in}
use Rattle.cases.specs.Sheets.{sheet_a}
use Rattle.edf.proofs.Meaning.{not_both}
use Rattle.promise.specs.Promise.{ClearPromise, OverPromise}
use Rattle.promise.proofs.Exactly.{clear_exactly}

-- Sheet A, by computation: it is accepted, and over from 4 to 7 with 4; no interval from tick 0 is over.

abbrev A : Sheet
A = sheet_in (sheet_a 8)

accepted_a : Accepted (sheet_a 8)
unfolding sheet_a mark_coded ordered counted task_ruled kind_ruled switch_ruled ruled gather tested judge_from judgement
accepted_a = refl

well_formed_a : WellFormed A
well_formed_a = accepted_well_formed (sheet_a 8) A accepted_a

horizon_a : A.horizon ≡ 8
unfolding sheet_a mark_coded ordered counted task_ruled kind_ruled switch_ruled ruled gather tested judge_from judgement
horizon_a = refl

exact_a : exact A ≡ Exact.over 4 7 4
unfolding sheet_a mark_coded ordered counted task_ruled kind_ruled switch_ruled ruled gather tested judge_from judgement gain_of gain nexts value exact_sum exact
exact_a = refl

abbrev all_to : (ℕ → Bool) → ℕ → Bool
all_to p zero = p zero
all_to p (suc n) = all_to p n && p (suc n)

at_most : (p : ℕ → Bool) (n b : ℕ) → b ≤ n → all_to p n ≡ true → p b ≡ true
at_most p zero b h e = let z : b ≡ 0 = omega arith in rw z e
at_most p (suc n) b h e =
    let both : (all_to p n ≡ true) × (p (suc n) ≡ true) = simp and-eq-true_iff at e in
    pick both.1 (dec_lt b (suc n)) (λ l. at_most p n b l both.0)
  where
    pick : p (suc n) ≡ true → Dec (b < suc n) → (b ≤ n → p b ≡ true) → p b ≡ true
    pick last (yes l) below = below (omega arith)
    pick last (no g) below = let z : b ≡ suc n = omega arith in rw z last

from_0_computed : all_to (λ n. leb (exact_sum A 0 n) n) 8 ≡ true
unfolding sheet_a mark_coded ordered counted task_ruled kind_ruled switch_ruled ruled gather tested judge_from judgement gain_of gain nexts value exact_sum
from_0_computed = refl

from_0_a : (b : ℕ) → b ≤ 8 → exact_sum A 0 b ≤ b
from_0_a b h = leb-true (exact_sum A 0 b) b (at_most (λ n. leb (exact_sum A 0 n) n) 8 b h from_0_computed)

not_clear_a : ClearPromise A → ⊥
not_clear_a promise = not_both A ((clear_exactly A well_formed_a).0 promise) 4 7 4 (subst (ExactIs A) exact_a (exact_is A well_formed_a))

-- The three versions.

-- Clear to everything.
pub clear_to_everything : ((bytes : List ℕ) → Accepted bytes → ClearPromise (sheet_in bytes)) → ⊥
clear_to_everything clear = not_clear_a (clear (sheet_a 8) accepted_a)

first_module : Nth A.modules 0 (module_at A 0)
unfolding sheet_a mark_coded ordered counted task_ruled kind_ruled switch_ruled ruled gather tested judge_from judgement
first_module = refl

-- No tape written: the tapes are then whatever the memory came with.
pub no_tape : (b : ℕ) → 1 ≤ b → ((memory : List ℕ) → OverPromise (sheet_in (sheet_a 8)) b (tapes_in 2 b memory)) → ⊥
no_tape zero l promise = absurd (omega arith)
no_tape (suc b) l promise =
    let r = (promise (9 ∷ [])).shown in
    let run = r.1 0 (module_at A 0) first_module in
    let written : (r.0 0 0).mode ≡ 9 = ap (λ (xs : List ℕ). get_or xs 0 0) (rw (zero-mul) at (r.2 0 (take (suc b) (drop (0 * suc b) (9 ∷ []))) refl)) in
    omega (arith, ap (λ (x : State). x.mode) run.starts)

-- Only the intervals from tick 0 examined: clear where none of them is over.
pub first_tick_only : ((bytes : List ℕ) → Accepted bytes → ((b v : ℕ) → b ≤ (sheet_in bytes).horizon → ExactSum (sheet_in bytes) 0 b v → v ≤ b) → ClearPromise (sheet_in bytes)) → ⊥
first_tick_only clear =
    not_clear_a (clear (sheet_a 8) accepted_a (λ b v h is. omega (arith, exact_sum_only A well_formed_a 0 b v is, from_0_a b (rw horizon_a at h))))
