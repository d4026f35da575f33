use mathlib.Core.Path.{◌≡◌}
use Prim.Native.Nat.{◌<◌}
use Rattle.tapes.specs.Forks.{EachOf}
use Rattle.tapes.proofs.Values.{stay_value}
use Rattle.tapes.proofs.Heads.value_at.Given as goal

abbrev pub invariant-loop-i : goal.invariant-loop-i
invariant-loop-i l = (l.v < 65536) × EachOf l.self (λ m. l.v ≡ stay_value m l.self.a l.self.b l.t l.s.mode l.s.time l.i)
