-- `search` bounds the whole; the lengths that this leaves in question are searched in one range, or in several. Assumes nothing.
use native.Mathlib.Omega.{arith}
use Rattle.format.proofs.RoundTrip.{accepted_well_formed}
use Rattle.format.specs.Judgement.{sheet_in}
use Rattle.search.proofs.Searching.{searched_after, searched_all}
use Rattle.search.proofs.Bounding.{beyond_longest}
use Rattle.search.proofs.search.Goals as goal

pub invariant_of-whole : goal.invariant_of-whole
invariant_of-whole c = let ok = accepted_well_formed _ _ c.args.table.now.sheet.accepted in
    record {
      begins = omega arith;
      some = omega (arith, c.horizon-horizon.ensures, ok.horizon_least);
      few = omega (arith, c.horizon-horizon.ensures, ok.horizon_most);
    }

pub returns-then-horizon-tiled : goal.returns-then-horizon-tiled
returns-then-horizon-tiled c = searched_all (sheet_in c.args.table.now.sheet.bytes.now) c.horizon-horizon.ensures (searched_after c.bound_range.ensures.kept c.search_range.ensures)

pub search_ranges-requires : goal.search_ranges-requires
search_ranges-requires c = let bounded = c.bound_range.ensures in
    let beyond = beyond_longest (sheet_in c.args.table.now.sheet.bytes.now) c.horizon-horizon.result c.horizon-horizon.ensures c.longest-stop.result _ bounded.passed c.longest-stop.ensures in
    (omega (arith, c.requires, bounded.kept.len), omega (arith, c.if-horizon-tiled.false, c.tiled.ensures), beyond)
