-- From a module's place to its modes and to the next module. Assumes nothing.
use mathlib.Core.Path.{◌≡◌, sym, ◌∙◌}
use mathlib.Core.List.{List}
use Prim.Native.Nat.{ℕ, ◌+◌, ◌≤◌, ◌<◌}
use native.Mathlib.Numerals.{add-one}
use native.Mathlib.Omega.{arith}
use lib.ListN.{length}
use Rattle.model.specs.Sheet.{Sheet, module_at}
use Rattle.model.specs.Run.{mode_at}
use Rattle.format.specs.Record.{ml, field_at}
use Rattle.format.specs.Judgement.{sheet_in, Accepted}
use Rattle.format.specs.Refusal.{AreBytes}
use Rattle.format.specs.Place.{mode_bytes, module_place, mode_place}
use Rattle.place.specs.There.{ModuleThere, ModesThere, ModeThere, SomeModule, SomeModes, SomeMode}
use Rattle.place.proofs.Standing.{module_record, module_within}
use Rattle.place.proofs.Steps.{first_module, first_mode, next_mode, next_module}

module _ (bs : List ℕ) (accepted : Accepted bs) (bytes : AreBytes bs) where
  -- a module's field is the number of its modes
  pub modes_there : (p k : ℕ) → ModuleThere (sheet_in bs) k p → field_at bs (p + 2) ≡ length (module_at (sheet_in bs) k).modes
  modes_there p k h =
      let there : ml (field_at bs (module_place (sheet_in bs) k + 2)) ≡ ml (length (module_at (sheet_in bs) k).modes) = module_record bs accepted bytes k h.number in
      rw h.place (cc)

  pub module_there_within : (k p : ℕ) → k < length (sheet_in bs).modules → p ≡ module_place (sheet_in bs) k → p + 4 ≤ length bs
  module_there_within k p h e = omega (arith, module_within bs accepted bytes k (omega arith))

-- behind the mode at p stands the next
pub mode_after : (s : Sheet) (p k j r : ℕ) → ModeThere s k j p → r ≡ p + mode_bytes (mode_at (module_at s k) j) → r ≡ mode_place s k (j + 1)
mode_after s p k j r h e = rw (add-one j) (omega (arith, next_mode s k j h.mode))

-- of the j modes of the module at p that are to be passed the first i are passed: q is behind them
pub record Modes (s : Sheet) (p j q i : ℕ) : Type 0 where
  pub place : (k : ℕ) → ModesThere s k p j → q ≡ mode_place s k i

pub modes_none : (s : Sheet) (p j : ℕ) → Modes s p j (p + 4) 0
modes_none s p j = record { place = λ k h. omega (arith, first_mode s k) }

module _ {s : Sheet} {p j q i : ℕ} (passed : Modes s p j q i) (l : i < j) where
  -- a mode stands behind them
  pub mode_next : (k : ℕ) → ModesThere s k p j → ModeThere s k i q
  mode_next k h = record { number = h.number; mode = omega arith; place = passed.place k h }

  pub modes_some : SomeModes s p j → SomeMode s q
  modes_some some = record { k = some.k; j = i; there = mode_next some.k some.there }

  pub modes_more : (r : ℕ) → ((k j : ℕ) → ModeThere s k j q → r ≡ mode_place s k (j + 1)) → Modes s p j r (i + 1)
  modes_more r after = record { place = λ k h. after k i (mode_next k h) }

-- a module that stands at p has its own number of modes
pub all_modes : (s : Sheet) (k p n : ℕ) → ModuleThere s k p → n ≡ length (module_at s k).modes → ModesThere s k p n
all_modes s k p n h e = record { number = h.number; place = h.place; most = omega arith }

-- behind all modes of the module at p stands the next module
pub module_after : (s : Sheet) (p n r k : ℕ) → ModuleThere s k p → n ≡ length (module_at s k).modes → r ≡ mode_place s k n → r ≡ module_place s (k + 1)
module_after s p n r k h e f = f ∙ rw (e, add-one k) (sym (next_module s k h.number))

-- i modules are passed: p is behind them
pub record Modules (s : Sheet) (p i : ℕ) : Type 0 where
  pub place : p ≡ module_place s i

pub modules_none : (s : Sheet) → Modules s 4 0
modules_none s = record { place = sym (first_module s) }

module _ {s : Sheet} {p i : ℕ} (passed : Modules s p i) (l : i < length s.modules) where
  -- a module stands behind them
  module_next : ModuleThere s i p
  module_next = record { number = l; place = passed.place }

  pub modules_some : SomeModule s p
  modules_some = record { k = i; there = module_next }

  pub modules_more : (r : ℕ) → ((k : ℕ) → ModuleThere s k p → r ≡ module_place s (k + 1)) → Modules s r (i + 1)
  modules_more r after = record { place = after i module_next }
