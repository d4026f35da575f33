-- `add_next` adds the demand to its sum, which is no part of the layer, and does not wrap. Assumes nothing.
use Rattle.sums.proofs.Sums.{sum_fits, added}
use Rattle.sums.proofs.add_next.Goals as goal

pub overflow_add-work-2 : goal.overflow_add-work-2
overflow_add-work-2 c = let p = c.requires in
    let new = c.next_demand-more in
    record { fits = sum_fits _ _ _ _ c.args.work.now new.new.layer p.3 p.0 p.1 p.2 new.ensures.2 }

pub returns : goal.returns
returns c = let new = c.next_demand-more in
    added _ _ _ _ c.args.work.now new.new.layer c.requires.0 c.requires.1 new.ensures.0 new.ensures.1 new.ensures.2
