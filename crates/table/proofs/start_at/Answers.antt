-- The numbers of a mode begin behind those of the modes before it, and past the modes where all end. Assumes nothing.
use mathlib.Core.Path.{◌∙◌}
use native.Mathlib.Omega.{arith}
use Rattle.model.specs.Sheet.{module_at}
use Rattle.format.specs.Judgement.{sheet_in}
use Rattle.table.proofs.Starting.{these_modes, within_modes, start_small}
use Rattle.table.proofs.Numbering.{start_min}
use Rattle.table.proofs.start_at.Goals as goal

pub overflow_cast-result : goal.overflow_cast-result
overflow_cast-result c = omega (arith, start_small _ c.args.sheet.now.accepted c.numbers_before.ensures (within_modes c.requires c.modes_at.ensures (omega (arith, c.min.ensures))))

pub returns : goal.returns
returns c = λ k h. c.numbers_before.ensures k (these_modes c.modes_at.ensures (omega (arith, c.min.ensures)) k h) ∙ rw (c.min.ensures, c.modes_at.ensures k h) (start_min (module_at (sheet_in c.args.sheet.now.bytes.now) k) c.args.j)
