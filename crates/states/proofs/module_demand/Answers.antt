-- A call that is refused leaves the lent memory as it came. For any other the largest number of the layer of the reached modes is the module demand; only the layer's part of the lent memory is written. Assumes nothing.
use mathlib.Core.Path.{sym, ◌∙◌}
use Prim.Native.Nat.{ℕ}
use native.Mathlib.Omega.{arith}
use lib.ListN.{length}
use lib.Seq.{length-take-le}
use Rattle.std.proofs.lemmas.Result.{err_from_is_err_and}
use Rattle.model.specs.Sheet.{Sheet, module_at}
use Rattle.model.specs.Demand.{ModuleDemand}
use Rattle.model.proofs.Emptied.{reached_part_lem}
use Rattle.memory.specs.Map.{layer_numbers}
use Rattle.query.specs.Query.{module_terms}
use Rattle.query.proofs.Meeting.{refused_answered, stays_untouched}
use Rattle.modules.proofs.Telling.{reached_rule, reached_tells}
use Rattle.states.proofs.Giving.{in_module, module_is, stays_layer}
use Rattle.states.proofs.module_demand.Goals as goal

pub returns-in_err-module_asked : goal.returns-in_err-module_asked
returns-in_err-module_asked c = let a = c.args in
    let p = err_from_is_err_and c.from_residual.result c.from_residual.ensures.1 in
    rw (p.1, p.2) (record {
      answer =
          refused_answered (module_terms a.«module» a.length (length a.work.now)) (λ (s : Sheet) (v : ℕ). ModuleDemand (module_at s a.«module») a.length v)
          a.sheet.now c.in_err-module_asked.ensures (λ s. 0);
      memory = stays_untouched _ a.work.now;
    })

pub slice_bounds-layer-end-2 : goal.slice_bounds-layer-end-2
slice_bounds-layer-end-2 c = let i = in_module _ _ _ _ c.in_ok-module_asked.ensures in
    sym (length-take-le layer_numbers c.args.work.now (omega (arith, i.room)))

pub largest_demand-requires : goal.largest_demand-requires
largest_demand-requires c = let i = in_module _ _ _ _ c.in_ok-module_asked.ensures in
    (omega (arith, i.short), omega (arith, i.room, length-take-le layer_numbers c.args.work.now (omega (arith, i.room))), reached_tells c.args.sheet.now i.accepted c.args.«module» i.number c.reached_engine_of-engine.ensures)

pub returns : goal.returns
returns c = let i = in_module _ _ _ _ c.in_ok-module_asked.ensures in
    let bs = c.args.sheet.now in
    let w = c.args.work.now in
    record {
      answer = module_is bs c.args.«module» c.args.length (length w) c.in_ok-module_asked.ensures (c.largest_demand.ensures _ (reached_rule bs i.accepted c.args.«module» i.number) c.reached_engine_of-engine.ensures ∙ reached_part_lem _ c.args.length);
      memory = stays_layer w c.largest_demand.new.layer i.room c.largest_demand.auto.layer;
    }
