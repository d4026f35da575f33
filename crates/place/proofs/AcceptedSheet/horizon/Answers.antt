-- HZ is the first record. Assumes nothing.
use mathlib.Core.Path.{◌∙◌}
use native.Mathlib.Omega.{arith}
use Rattle.place.proofs.Standing.{horizon_there, horizon_within}
use Rattle.place.proofs.AcceptedSheet.horizon.Goals as goal

pub field-requires : goal.field-requires
field-requires c = omega (arith, horizon_within c.args.self.now.bytes.now c.args.self.now.accepted c.args.self.now.are_bytes)

pub returns : goal.returns
returns c = c.field.ensures ∙ horizon_there c.args.self.now.bytes.now c.args.self.now.accepted c.args.self.now.are_bytes
