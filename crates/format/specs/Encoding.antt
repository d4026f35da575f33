-- A sheet value's records and bytes, in the order of document 01, 'The sheet'. Assumes nothing.
use Rattle.std.specs.Prelude.{List, [], ◌∷◌, ◌++◌, map, ℕ, ◌/◌, ◌%◌, length}
use Rattle.model.specs.Sheet.{Mode, Module, Sheet}
use Rattle.format.specs.Record.{Record, hz, ml, md, tk, sw, en, mark_of, fields_of, code}

-- the lists that f gives, one after the other
abbrev pub joined : {A B : Type 0} → (A → List B) → List A → List B
joined f [] = []
joined f (x ∷ xs) = f x ++ joined f xs

-- A mode is MD, then its TK records, then its SW and SX records.
unfoldable pub mode_records : Mode → List Record
mode_records o = md o.period ∷ (map tk o.tasks ++ map sw o.switches)

-- A module is ML and then exactly the stated number of modes.
unfoldable pub module_records : Module → List Record
module_records m = ml (length m.modes) ∷ joined mode_records m.modes

-- One HZ; the modules; EN, which has the number of records before it.
unfoldable pub records_before_end : Sheet → List Record
records_before_end s = hz s.horizon ∷ joined module_records s.modules

unfoldable pub records : Sheet → List Record
records s = records_before_end s ++ en (length (records_before_end s)) ∷ []

-- 16 bits, low byte first
abbrev pub field_bytes : ℕ → List ℕ
field_bytes v = v % 256 ∷ v / 256 ∷ []

unfoldable pub record_bytes : Record → List ℕ
record_bytes r = code (mark_of r) / 256 ∷ code (mark_of r) % 256 ∷ joined field_bytes (fields_of r)

unfoldable pub encode : Sheet → List ℕ
encode s = joined record_bytes (records s)
