-- `judge` tells the judgement of its bytes. The loop's invariant: what has been read stands for sound records at the front of the bytes. The measure is what is left of them. Assumes nothing.
use mathlib.Core.Path.{sym, ap}
use Prim.Native.Nat.{◌≤◌, ◌<◌}
use native.Mathlib.Omega.{arith}
use lib.ListN.{length}
use Rattle.std.proofs.lemmas.Result.{err_from_is_err_and}
use Rattle.judge.specs.Told.{tells_of}
use Rattle.judge.proofs.CameTo.{CameTo, begins, within, goes_on, is_refused, is_followed, is_accepted}
use Rattle.judge.proofs.judge.Goals.{In_ok-step}
use Rattle.judge.proofs.judge.Goals as goal

-- a turn of the loop leads on
leads_on : (c : In_ok-step) → CameTo c.args.sheet.now c.step.new.self × (c.loop-read.read.at < c.step.new.self.at) × (c.step.new.self.at ≤ length c.args.sheet.now)
leads_on c = goes_on _ _ c.loop-read.invariant c.loop-read-test.true _ c.in_ok-step.ensures

pub loop-read-init : goal.loop-read-init
loop-read-init c = begins _ _ (c.new-read.ensures _)

pub step-requires : goal.step-requires
step-requires c = within _ _ c.loop-read.invariant c.loop-read-test.true

pub returns-in_err-step : goal.returns-in_err-step
returns-in_err-step c =
    let p = err_from_is_err_and c.from_residual.result c.from_residual.ensures.1 in
    rw (p.1, p.2) (sym (ap tells_of (is_refused _ _ c.loop-read.invariant c.loop-read-test.true _ _ c.in_err-step.ensures)))

pub loop-read-smaller : goal.loop-read-smaller
loop-read-smaller c = omega (arith, (leads_on c).1, (leads_on c).2)

pub loop-read-preserved : goal.loop-read-preserved
loop-read-preserved c = (leads_on c).0

pub returns-then-read-sheet : goal.returns-then-read-sheet
returns-then-read-sheet c = rw c.at.ensures (sym (ap tells_of (is_followed _ _ c.loop-read.invariant c.loop-read-test.false c.if-read-sheet.true)))

pub returns : goal.returns
returns c = is_accepted _ _ c.loop-read.invariant c.loop-read-test.false c.if-read-sheet.false
