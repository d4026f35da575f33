-- Records: marks, fields and where they stand in the bytes (document 01, 'The sheet'; document 02, k). Assumes nothing.
use Rattle.std.specs.Prelude.{cond, List, [], ◌∷◌, ℕ, ◌+◌, ◌*◌, eqb, get_or}
use Rattle.std.proofs.Math.Option.{Option, none, some}
use Rattle.model.specs.Sheet.{Task, Kind, SW, SX, Switch}

pub data Mark : Type 0 where
  HZ ML MD TK EN : Mark
  -- SW or SX
  switch : Kind → Mark

-- A record is a mark and its fields; a task is its fields in order, and so is a switch after its kind, which its mark says.
pub data Record : Type 0 where
  hz : ℕ → Record
  ml : ℕ → Record
  md : ℕ → Record
  tk : Task → Record
  sw : Switch → Record
  en : ℕ → Record

abbrev pub mark_of : Record → Mark
mark_of (hz h) = HZ
mark_of (ml n) = ML
mark_of (md p) = MD
mark_of (tk k) = TK
mark_of (sw w) = switch w.kind
mark_of (en n) = EN

-- The table of marks and fields.
-- horizon; number of modes; mode period; offset, cost, LET, period; target mode, switch period; number of records before
abbrev pub fields_of : Record → List ℕ
fields_of (hz h) = h ∷ []
fields_of (ml n) = n ∷ []
fields_of (md p) = p ∷ []
fields_of (tk k) = k.offset ∷ k.cost ∷ k.LET ∷ k.period ∷ []
fields_of (sw w) = w.target ∷ w.period ∷ []
fields_of (en n) = n ∷ []

-- how many fields a mark has
abbrev pub fields : Mark → ℕ
fields HZ = 1
fields ML = 1
fields MD = 1
fields TK = 4
fields (switch k) = 2
fields EN = 1

-- how many bytes: two of the mark, two of each field
abbrev pub size : Mark → ℕ
size m = 2 + 2 * fields m

-- a mark's two bytes, in ASCII, as one number: the first times 256 and the second
abbrev pub code : Mark → ℕ
code HZ = 0x485A
code ML = 0x4D4C
code MD = 0x4D44
code TK = 0x544B
code (switch SW) = 0x5357
code (switch SX) = 0x5358
code EN = 0x454E

-- What stands in the bytes at a place.

-- a field: 16 bits, low byte first
abbrev pub field_at : List ℕ → ℕ → ℕ
field_at bs i = get_or bs i 0 + 256 * get_or bs (i + 1) 0

-- the mark that has this code, if it is in the list
unfoldable pub mark_coded : ℕ → Option Mark
mark_coded c =
    cond (eqb c (code HZ)) (some HZ)
    (cond (eqb c (code ML)) (some ML)
    (cond (eqb c (code MD)) (some MD)
    (cond (eqb c (code TK)) (some TK)
    (cond (eqb c (code (switch SW))) (some (switch SW))
    (cond (eqb c (code (switch SX))) (some (switch SX))
    (cond (eqb c (code EN)) (some EN) none))))))

abbrev pub mark_at : List ℕ → ℕ → Option Mark
mark_at bs p = mark_coded (get_or bs p 0 * 256 + get_or bs (p + 1) 0)

-- the task of the TK at the place p
abbrev pub task_at : List ℕ → ℕ → Task
task_at bs p = record { offset = field_at bs (p + 2); cost = field_at bs (p + 4); LET = field_at bs (p + 6); period = field_at bs (p + 8) }

-- the record of this mark at the place p
abbrev pub record_at : Mark → List ℕ → ℕ → Record
record_at HZ bs p = hz (field_at bs (p + 2))
record_at ML bs p = ml (field_at bs (p + 2))
record_at MD bs p = md (field_at bs (p + 2))
record_at TK bs p = tk (task_at bs p)
record_at (switch k) bs p = sw (record { kind = k; target = field_at bs (p + 2); period = field_at bs (p + 4) })
record_at EN bs p = en (field_at bs (p + 2))
