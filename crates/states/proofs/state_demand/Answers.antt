-- A call that is refused leaves the lent memory as it came. For any other the number at the state's place in the layer is the state demand; only the layer's part of the lent memory is written. Assumes nothing.
use mathlib.Core.Path.{sym}
use Prim.Native.Nat.{ℕ}
use native.Mathlib.Omega.{arith}
use lib.ListN.{length}
use lib.Seq.{length-take-le}
use Rattle.std.proofs.lemmas.Result.{err_from_is_err_and}
use Rattle.model.specs.Sheet.{Sheet, module_at}
use Rattle.model.specs.Run.{at}
use Rattle.model.specs.Demand.{StateDemand}
use Rattle.memory.specs.Map.{layer_numbers}
use Rattle.query.specs.Query.{state_terms}
use Rattle.query.proofs.Meeting.{refused_answered, stays_untouched}
use Rattle.modules.proofs.Telling.{rule, tells}
use Rattle.states.proofs.Giving.{in_state, state_is, stays_layer}
use Rattle.states.proofs.state_demand.Goals as goal

pub returns-in_err-state_asked : goal.returns-in_err-state_asked
returns-in_err-state_asked c = let a = c.args in
    let p = err_from_is_err_and c.from_residual.result c.from_residual.ensures.1 in
    rw (p.1, p.2) (record {
      answer =
          refused_answered (state_terms a.«module» a.mode a.time a.length (length a.work.now)) (λ (s : Sheet) (v : ℕ). StateDemand (module_at s a.«module») (at a.mode a.time) a.length v)
          a.sheet.now c.in_err-state_asked.ensures (λ s. 0);
      memory = stays_untouched _ a.work.now;
    })

pub slice_bounds-layer-end-2 : goal.slice_bounds-layer-end-2
slice_bounds-layer-end-2 c = let i = in_state _ _ _ _ _ _ c.in_ok-state_asked.ensures in
    sym (length-take-le layer_numbers c.args.work.now (omega (arith, i.room)))

pub demand_at-requires : goal.demand_at-requires
demand_at-requires c = let i = in_state _ _ _ _ _ _ c.in_ok-state_asked.ensures in
    let bs = c.args.sheet.now in
    let told = c.engine_of-engine.ensures in
    (omega (arith, i.short), omega (arith, i.room, length-take-le layer_numbers c.args.work.now (omega (arith, i.room))), omega (arith, i.mode, told.modes), omega (arith, i.time, (told.each c.args.mode (omega (arith, i.mode, told.modes))).period), tells bs i.accepted c.args.«module» i.number told)

pub returns : goal.returns
returns c = let i = in_state _ _ _ _ _ _ c.in_ok-state_asked.ensures in
    let bs = c.args.sheet.now in
    let w = c.args.work.now in
    record {
      answer = state_is bs c.args.«module» c.args.mode c.args.time c.args.length (length w) c.in_ok-state_asked.ensures (c.demand_at.ensures _ (rule bs i.accepted c.args.«module» i.number) c.engine_of-engine.ensures);
      memory = stays_layer w c.demand_at.new.layer i.room c.demand_at.auto.layer;
    }
