-- The judgement of a byte list: refused with number and place, or accepted with the sheet value (its counts are `counts` of that value).
-- Records are judged from the front; the first bad one decides. Assumes nothing.
use Rattle.std.specs.Prelude.{◌≡◌, Bool, true, false, cond, List, [], ◌∷◌, ℕ, zero, suc, ◌+◌, leb, ltb, length}
use Rattle.std.proofs.Math.Option.{Option, none, some}
use Rattle.model.specs.Sheet.{Task, Switch, Mode, Module, Sheet}
use Rattle.format.specs.Record.{Mark, Record, hz, ml, md, tk, sw, en, mark_of, size, mark_at, record_at}
use Rattle.format.specs.Rules.{ended, ordered, counted, ruled, field_number}

pub data Judgement : Type 0 where
  refused : ℕ → ℕ → Judgement
  accepted : Sheet → Judgement

-- The value of the records, gathered from the last one to the first: the tasks and switches of a mode until its MD, the modes of a module until its ML, the modules until HZ.
unfoldable pub gather : List Record → List Task → List Switch → List Mode → List Module → Sheet
gather [] ks ws os ms = record { horizon = 0; modules = ms }
gather (hz h ∷ rs) ks ws os ms = record { horizon = h; modules = ms }
gather (ml n ∷ rs) ks ws os ms = gather rs [] [] [] (record { modes = os } ∷ ms)
gather (md p ∷ rs) ks ws os ms = gather rs [] [] (record { period = p; tasks = ks; switches = ws } ∷ os) ms
gather (tk k ∷ rs) ks ws os ms = gather rs (k ∷ ks) ws os ms
gather (sw w ∷ rs) ks ws os ms = gather rs ks (w ∷ ws) os ms
gather (en n ∷ rs) ks ws os ms = gather rs ks ws os ms

abbrev pub gathered : List Record → Sheet
gathered rs = gather rs [] [] [] []

-- One record: its first failing test's number, or the record.
pub data Tested : Type 0 where
  fault : ℕ → Tested
  sound : Record → Tested

-- a test of the list: goes on where it passes
abbrev pub or_fault : Bool → ℕ → Tested → Tested
or_fault true n next = next
or_fault false n next = fault n

-- fields cut short (1), order (3), counts (4), values (5, 6, 7), once the mark is known; else mark (2)
abbrev pub tested_mark : Option Mark → List ℕ → ℕ → List Record → Tested
tested_mark none bs p rs = fault 2
tested_mark (some m) bs p rs =
    let r = record_at m bs p in
    or_fault (leb (p + size m) (length bs)) 1
    (or_fault (ordered m rs) 3
    (or_fault (counted m rs) 4
    (or_fault (ruled r rs) (field_number m)
    (sound r))))

-- the record at p: fewer than two bytes left (1), then the rest
unfoldable pub tested : List ℕ → ℕ → List Record → Tested
tested bs p rs = or_fault (leb (p + 2) (length bs)) 1 (tested_mark (mark_at bs p) bs p rs)

-- bytes after EN (8), or accepted
abbrev pub closed : List ℕ → ℕ → List Record → Judgement
closed bs p rs = cond (ltb p (length bs)) (refused 8 p) (accepted (gathered rs))

abbrev pub decided : Tested → ℕ → (Record → Judgement) → Judgement
decided (fault n) p next = refused n p
decided (sound r) p next = next r

-- from the place p on, the records before it read; at most n records more
unfoldable pub judge_from : ℕ → List ℕ → ℕ → List Record → Judgement
judge_from zero bs p rs = refused 1 p
judge_from (suc n) bs p rs =
    elim (ended rs) [ true ↦ closed bs p rs | false ↦ decided (tested bs p rs) p (λ r. judge_from n bs (p + size (mark_of r)) (r ∷ rs)) ]

-- a record takes more than one byte, so that this bound is never met
unfoldable pub judgement : List ℕ → Judgement
judgement bs = judge_from (suc (length bs)) bs 0 []

-- the value of an accepted sheet
abbrev pub value_of : Judgement → Sheet
value_of (refused n p) = record { horizon = 0; modules = [] }
value_of (accepted s) = s

abbrev pub sheet_in : List ℕ → Sheet
sheet_in bs = value_of (judgement bs)

abbrev pub Accepted : List ℕ → Type 0
Accepted bs = judgement bs ≡ accepted (sheet_in bs)
