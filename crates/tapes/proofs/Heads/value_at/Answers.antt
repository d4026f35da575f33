-- `value_at` walks along a stay from its end back: v is the value i ticks on, where the stay goes on to there. Assumes nothing.
use mathlib.Core.Path.{◌≡◌, sym}
use Prim.Native.Nat.{ℕ, ◌-◌}
use native.Mathlib.Omega.{arith}
use Rattle.tapes.specs.Forks.{EachOf}
use Rattle.tapes.proofs.Values.{stay_value, stay_over, stay_fits, stay_back}
use Rattle.tapes.proofs.Heads.value_at.Goals.{After-turn-v}
use Rattle.tapes.proofs.Heads.value_at.Goals as goal

-- the walk is one tick further back
turned : (c : After-turn-v) → let a = c.args in
    EachOf a.self.now (λ m. c.turn-v.result ≡ stay_value m a.self.now.a a.self.now.b a.t a.s.mode a.s.time (c.loop-i.i - 1))
turned c m ok told =
    let p = c.requires in
    let a = c.args in
    let i = c.loop-i.i in
    let j : ℕ = i - 1 in
    let q = (told.each _ p.1.mode).period in
    stay_back m ok a.self.now.a a.self.now.b a.t a.s.mode a.s.time i j _ _ _ (omega arith) c.counted_at-l.ensures (c.loop-i.invariant.1 m ok told)
    (c.turn-v.ensures m ok told) (omega arith) (omega (arith, told.modes)) (omega arith)

pub loop-i-init : goal.loop-i-init
loop-i-init c = let p = c.requires in
    let a = c.args in (
      omega arith,
      λ m ok told.
          let q = (told.each _ p.1.mode).period in
          sym (stay_over m ok a.self.now.a a.self.now.b a.t a.s.mode a.s.time _ (omega arith) (omega arith)),
    )

pub loop-i-preserved : goal.loop-i-preserved
loop-i-preserved c = let o = c.requires.0 in
    let a = c.args in
    let fits = stay_fits o.owner o.rule a.self.now.a a.self.now.b a.t a.s.mode a.s.time (c.loop-i.i - 1) (omega arith) in
    (omega (arith, turned (goal.at.loop-i-preserved c).After-turn-v o.owner o.rule o.told), turned (goal.at.loop-i-preserved c).After-turn-v)
