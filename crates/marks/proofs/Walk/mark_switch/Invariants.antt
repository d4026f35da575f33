use mathlib.Core.Path.{◌≡◌}
use Prim.Native.Nat.{◌+◌, ◌≤◌}
use Rattle.marks.specs.Marking.{Marking}
use Rattle.marks.proofs.Markings.{Sofar}
use Rattle.marks.proofs.Walk.mark_switch.Given as goal

abbrev pub invariant-loop-i : goal.invariant-loop-i
invariant-loop-i l = (l.i ≤ l.n + 1) × Marking (λ k x. (k ≡ l.j) × Sofar l.step l.t l.i x) l.initial.bits l.bits
