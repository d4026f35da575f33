-- `search_ranges` passes the ranges in which no interval is over. Assumes nothing.
use native.Mathlib.Omega.{arith}
use Rattle.format.proofs.RoundTrip.{accepted_well_formed}
use Rattle.format.specs.Judgement.{sheet_in}
use Rattle.search.proofs.Searching.{behind_all, behind_over, behind_clear, searched_after, searched_all}
use Rattle.search.proofs.search_ranges.Goals as goal

pub overflow_add-horizon : goal.overflow_add-horizon
overflow_add-horizon c = omega (arith, c.horizon-horizon.ensures, (accepted_well_formed _ _ c.args.table.now.sheet.accepted).horizon_most)

pub invariant_of-narrow : goal.invariant_of-narrow
invariant_of-narrow c = let j = c.loop-lo.invariant in
    let most = (accepted_well_formed _ _ c.args.table.now.sheet.accepted).horizon_most in
    record {
      begins = j.0.some;
      some = omega (arith, c.min-width.ensures, j.1);
      few = omega (arith, c.min-width.ensures, c.horizon-horizon.ensures, most);
    }

pub returns-in-Some : goal.returns-in-Some
returns-in-Some c = let s = sheet_in c.args.table.now.sheet.bytes.now in
    let new = c.narrow-range.ensures.narrowed in
    let piece = searched_after new.bounded.kept (rw (c.narrow-range.ensures.lo, c.in-Some.is) at c.search_range.ensures) in
    searched_all s c.horizon-horizon.ensures (behind_over c.loop-lo.invariant.0 c.narrow-range.result.width (omega (arith, c.min-width.ensures, new.most)) piece)

pub loop-lo-preserved : goal.loop-lo-preserved
loop-lo-preserved c = let new = c.narrow-range.ensures.narrowed in
    let piece = searched_after new.bounded.kept (rw (c.narrow-range.ensures.lo, c.in_default.is) at c.search_range.ensures) in
    (behind_clear c.loop-lo.invariant.0 c.narrow-range.result.width (omega (arith, c.min-width.ensures, new.most)) piece, omega (arith, c.narrow-range.result.some))

pub returns : goal.returns
returns c = searched_all (sheet_in c.args.table.now.sheet.bytes.now) c.horizon-horizon.ensures (behind_all c.loop-lo.invariant.0 (omega arith))
