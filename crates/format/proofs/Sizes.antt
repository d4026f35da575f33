-- The limits of the bytes: sound records have at most 3,624 bytes and fields of 16 bits, and one sheet has all 3,624. Assumes nothing.
use mathlib.Core.Path.{◌≡◌, refl, ap}
use mathlib.Core.Bool.{Bool, true, false, and-eq-true_iff, false≢true}
use mathlib.Core.List.{List, [], ◌∷◌}
use Prim.Native.Nat.{ℕ, zero, suc, ◌+◌, ◌*◌, ◌%◌, ◌≤◌, ◌<◌}
use native.Mathlib.Nat.{le_of_dvd, dvd_of_mod-eq-zero}
use native.Mathlib.Omega.{arith}
use lib.Dec.{eqb}
use lib.ListN.{length, replicate}
use borrow.Author.Tests.{ltb-true, leb-true, eqb-true}
use Rattle.model.specs.Lists.{when, All, AllFrom}
use Rattle.model.specs.Sheet.{SW, SX, Mode, Module, Sheet}
use Rattle.model.specs.Limits.{max_modules, max_modes, max_mode_period, max_mode_tasks, max_tasks, max_switches, max_bytes}
use Rattle.model.specs.WellFormed.{ModeRule, ModuleRule, WellFormed}
use Rattle.format.specs.Record.{Record, hz, ml, md, tk, sw, en, fields_of}
use Rattle.format.specs.Encoding.{mode_records, module_records, records_before_end, records, record_bytes, encode}
use Rattle.format.specs.Rules.{of_md, of_tk, of_switch, taken, modules_read, stated, seen, mode_period, tasks_read, ended, ordered, counted, task_ruled, switch_ruled, ruled, Sound, AllSound}
use Rattle.format.specs.Refusal.{bytes_in}

-- The bytes follow from the counts of the records, and each module takes at most the modes that its ML states.
pub record Small (rs : List Record) : Type 0 where
  pub bytes : bytes_in rs ≤ 4 + 4 * modules_read rs + 4 * length (taken of_md rs) + 10 * length (taken of_tk rs) + 6 * length (taken of_switch rs) + when (ended rs) 4
  pub modes : length (taken of_md rs) + stated rs ≤ 8 * modules_read rs + seen rs
  pub opened : seen rs ≤ stated rs
  pub states : stated rs ≤ max_modes
  pub modules : modules_read rs ≤ max_modules
  pub mode_tasks_lem : length (tasks_read rs) ≤ max_mode_tasks
  pub tasks : length (taken of_tk rs) ≤ max_tasks
  pub switches : length (taken of_switch rs) ≤ max_switches

small_next : (r : Record) (rs : List Record) → when (ended rs) 4 ≡ 0 → Sound rs r → Small rs → Small (r ∷ rs)
unfolding ordered counted ruled
small_next (hz h) [] e s q = omega arith
small_next (hz h) (r ∷ rs) e s q = absurd (false≢true s.order)
small_next (ml n) rs e s q = omega (arith, ltb-true, leb-true, eqb-true, simp and-eq-true_iff at s.order, s.count, simp and-eq-true_iff at s.value)
small_next (md p) rs e s q = omega (arith, ltb-true, s.order)
small_next (tk k) rs e s q = omega (arith, ltb-true, simp and-eq-true_iff at s.count)
small_next (sw w) rs e s q = omega (arith, ltb-true, s.count)
small_next (en n) rs e s q = omega arith

pub small : (rs : List Record) → AllSound rs → Small rs
small [] a = omega arith
small (r ∷ rs) a = small_next r rs (ap (λ (c : Bool). when c 4) a.1) a.2 (small rs a.0)

-- HZ and EN once, 8 modules of 8 modes, 256 tasks and 128 switches: 3,624 bytes at most.
pub sound_size : (rs : List Record) → AllSound rs → bytes_in rs ≤ max_bytes
sound_size rs a =
    let q : Small rs = small rs a in
    let end : when (ended rs) 4 ≤ 4 = at_most (ended rs) in
    omega arith
  where
    at_most : (c : Bool) → when c 4 ≤ 4
    at_most true = omega arith
    at_most false = omega arith

-- a divisor of a number from 1 on is at most that number
divisor_most : (p n : ℕ) → eqb (n % p) 0 ≡ true → 1 ≤ n → p ≤ n
divisor_most p n d h = le_of_dvd h (dvd_of_mod-eq-zero p (eqb-true _ _ d))

-- the period of an open mode is within its limits
abbrev Period : List Record → Type 0
Period rs = (0 < seen rs → 1 ≤ mode_period rs) × (mode_period rs ≤ max_mode_period)

period : (rs : List Record) → AllSound rs → Period rs
unfolding ruled
period [] a = (λ h. absurd (omega arith), omega arith)
period (hz h ∷ rs) a = period rs a.0
period (ml n ∷ rs) a = (λ h. absurd (omega arith), (period rs a.0).1)
period (md p ∷ rs) a = let v = simp and-eq-true_iff at a.2.value in (λ h. leb-true _ _ v.0, leb-true _ _ v.1)
period (tk k ∷ rs) a = period rs a.0
period (sw w ∷ rs) a = period rs a.0
period (en n ∷ rs) a = period rs a.0

-- each record has bytes
pub length_bytes : (rs : List Record) → length rs ≤ bytes_in rs
length_bytes [] = omega arith
length_bytes (r ∷ rs) = let h : length rs ≤ bytes_in rs = length_bytes rs in omega arith

fits : (r : Record) (rs : List Record) → AllSound rs → Sound rs r → All (λ v. v < 65536) (fields_of r)
unfolding ordered ruled task_ruled switch_ruled
fits (hz h) rs a s = omega (arith, leb-true, simp and-eq-true_iff at s.value)
fits (ml n) rs a s = omega (arith, leb-true, simp and-eq-true_iff at s.value)
fits (md p) rs a s = omega (arith, leb-true, simp and-eq-true_iff at s.value)
fits (tk k) rs a s =
    let v = simp and-eq-true_iff at s.value in
    let open-mode : 0 < seen rs = omega (arith, ltb-true, simp and-eq-true_iff at s.order) in
    let p : k.period ≤ mode_period rs = divisor_most k.period (mode_period rs) v.1.1 ((period rs a).0 open-mode) in
    omega (arith, leb-true, v, (period rs a).1)
fits (sw w) rs a s =
    let v = simp and-eq-true_iff at s.value in
    let p : w.period ≤ mode_period rs = divisor_most w.period (mode_period rs) v.0.1.1 ((period rs a).0 (ltb-true _ _ s.order)) in
    omega (arith, ltb-true, v, (period rs a).1, (small rs a).states)
fits (en n) rs a s = omega (arith, eqb-true n (length rs) s.value, length_bytes rs, sound_size rs a)

-- Each field is a number of 16 bits.
pub fields_fit : (rs : List Record) → AllSound rs → All (λ (r : Record). All (λ v. v < 65536) (fields_of r)) rs
fields_fit [] a = tt
fields_fit (r ∷ rs) a = (fits r rs a.0 a.2, fields_fit rs a.0)

-- A sheet that has all of it: 8 modules of 8 modes, 256 tasks and 128 switches.

-- a mode of four tasks, with a switch to each of two modes
abbrev mode : ℕ → ℕ → Mode
mode a b =
    record {
      period = 1;
      tasks = replicate 4 (record { offset = 0; cost = 1; LET = 1; period = 1 });
      switches = record { kind = SW; target = a; period = 1 } ∷ record { kind = SX; target = b; period = 1 } ∷ [];
    }

-- the first two modes name each other and the third, all others the first two
abbrev eight : Module
eight = record { modes = mode 1 2 ∷ mode 0 2 ∷ replicate 6 (mode 0 1) }

abbrev pub longest : Sheet
longest = record { horizon = 1; modules = replicate 8 eight }

-- two targets that the mode with the number i may name
record Targets (i a b : ℕ) : Type 0 where
  first : a < 8
  second : b < 8
  first_other : a ≡ i → ⊥
  second_other : b ≡ i → ⊥
  apart : a ≡ b → ⊥

mode_right : (i a b : ℕ) → Targets i a b → ModeRule 8 i (mode a b)
mode_right i a b t = record { least = omega arith; most = omega arith; count = omega arith; tasks = omega arith; switches = omega arith; once = omega arith }

others_right : (n i : ℕ) → 2 ≤ i → AllFrom (ModeRule 8) i (replicate n (mode 0 1))
others_right zero i h = tt
others_right (suc n) i h = (mode_right i 0 1 (omega arith), others_right n (suc i) (omega arith))

eight_right : ModuleRule eight
eight_right =
    record {
      least = omega arith;
      most = omega arith;
      modes = (mode_right 0 1 2 (omega arith), (mode_right 1 0 2 (omega arith), others_right 6 2 (omega arith)));
    }

all_replicate : {A : Type 0} (P : A → Type 0) (n : ℕ) (x : A) → P x → All P (replicate n x)
all_replicate P zero x h = tt
all_replicate P (suc n) x h = (h, all_replicate P n x h)

-- The longest sheet is well_formed and has all the bytes.
pub longest_well_formed : WellFormed longest
longest_well_formed =
    record { horizon_least = omega arith; horizon_most = omega arith; modules_least = omega arith; modules_most = omega arith; modules = all_replicate ModuleRule 8 eight eight_right; tasks_most = omega arith; switches_most = omega arith }

pub longest_length : length (encode longest) ≡ max_bytes
unfolding encode records records_before_end module_records mode_records record_bytes
longest_length = refl
