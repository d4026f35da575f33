-- A refusal has its own number; of an accepted sheet the modules, the modes and the switches fit a byte each. Assumes nothing.
use native.Mathlib.Omega.{arith}
use mathlib.Core.Path.{sym, ◌∙◌, ap}
use Rattle.format.proofs.RoundTrip.{accepted_well_formed}
use Rattle.judge.specs.Told.{told}
use Rattle.judge.proofs.JudgedLaws.{accepted_told, refused_told}
use Rattle.checker.proofs.Bounds.{judged_refused, modes_most}
use Rattle.checker.proofs.tyvasuri_judge.Goals as goal

pub map_or_else-requires-clause-default_callable : goal.map_or_else-requires-clause-default_callable
map_or_else-requires-clause-default_callable c refusal is =
    (judged_refused _ _ _ (refused_told refusal _ (sym (ap told is) ∙ c.judge.ensures))).placed

pub map_or_else-requires-clause-f_callable : goal.map_or_else-requires-clause-f_callable
map_or_else-requires-clause-f_callable c judged is =
    let a = accepted_told judged _ (sym (ap told is) ∙ c.judge.ensures) in
    let ok = accepted_well_formed _ _ a.is_accepted in
    omega (arith, modes_most _ ok)
