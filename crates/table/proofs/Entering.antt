-- The period that is read at the place of a mode. Assumes nothing.
use mathlib.Core.Path.{◌≡◌, sym, ◌∙◌, ap}
use mathlib.Core.List.{List}
use Prim.Native.Nat.{ℕ, ◌+◌}
use lib.ListN.{get_or}
use Rattle.model.specs.Sheet.{Mode, Module, module_at}
use Rattle.model.specs.Run.{idle}
use Rattle.format.specs.Record.{fields_of, field_at}
use Rattle.format.specs.Judgement.{sheet_in, Accepted}
use Rattle.format.specs.Refusal.{AreBytes}
use Rattle.place.specs.There.{ModeThere}
use Rattle.std.proofs.lemmas.List.{get_or-map}
use Rattle.place.proofs.Standing.{mode_record}
use Rattle.table.specs.Rows.{period_at}

pub period_there : (bs : List ℕ) → Accepted bs → AreBytes bs → (k j q : ℕ) → ModeThere (sheet_in bs) k j q → field_at bs (q + 2) ≡ period_at (module_at (sheet_in bs) k) j
period_there bs accepted bytes k j q h =
    let m : Module = module_at (sheet_in bs) k in
    rw h.place (ap (λ r. get_or (fields_of r) 0 0) (mode_record bs accepted bytes k h.number j h.mode))
    ∙ sym (get_or-map (λ (o : Mode). o.period) m.modes j idle 0 h.mode)
