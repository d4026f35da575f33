-- What stands at a place of a sheet value's bytes: a module, or a mode. Assumes nothing.
use Rattle.std.specs.Prelude.{◌≡◌, ℕ, ◌≤◌, ◌<◌, length}
use Rattle.model.specs.Sheet.{Sheet, module_at}
use Rattle.format.specs.Place.{module_place, mode_place}

-- the module k stands at p
pub record ModuleThere (s : Sheet) (k p : ℕ) : Type 0 where
  pub number : k < length s.modules
  pub place : p ≡ module_place s k

-- the module k stands at p and has j modes or more
pub record ModesThere (s : Sheet) (k p j : ℕ) : Type 0 where
  pub number : k < length s.modules
  pub place : p ≡ module_place s k
  pub most : j ≤ length (module_at s k).modes

-- the mode j of the module k stands at p
pub record ModeThere (s : Sheet) (k j p : ℕ) : Type 0 where
  pub number : k < length s.modules
  pub mode : j < length (module_at s k).modes
  pub place : p ≡ mode_place s k j

-- some module stands at p
pub record SomeModule (s : Sheet) (p : ℕ) : Type 0 where
  pub k : ℕ
  pub there : ModuleThere s k p

-- some module that has j modes or more stands at p
pub record SomeModes (s : Sheet) (p j : ℕ) : Type 0 where
  pub k : ℕ
  pub there : ModesThere s k p j

-- some mode stands at p
pub record SomeMode (s : Sheet) (p : ℕ) : Type 0 where
  pub k : ℕ
  pub j : ℕ
  pub there : ModeThere s k j p
