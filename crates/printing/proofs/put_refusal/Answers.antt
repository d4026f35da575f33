-- The line of a refusal is short. Assumes nothing.
use native.Mathlib.Omega.{arith}
use Rattle.printing.proofs.Lines.{refused_room}
use Rattle.printing.proofs.put_refusal.Goals as goal

pub refused_line-requires : goal.refused_line-requires
refused_line-requires c = refused_room (omega arith) (omega arith) (omega arith)
