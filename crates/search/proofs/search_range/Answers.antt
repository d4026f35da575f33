-- `search_range` passes the tiles in which no interval is over. Assumes nothing.
use native.Mathlib.Omega.{arith}
use Rattle.model.specs.Limits.{work_numbers}
use Rattle.format.specs.Judgement.{sheet_in}
use Rattle.tiles.proofs.Parts.{within_none}
use Rattle.memory.specs.Map.{layer_from}
use Rattle.search.proofs.Searching.{range_clear, passed_part, behind_over, behind_clear}
use Rattle.search.proofs.Keeping.{passed_kept}
use Rattle.search.proofs.search_range.Goals as goal

pub returns-then-longest-eq0 : goal.returns-then-longest-eq0
returns-then-longest-eq0 c = let s = sheet_in c.args.table.now.sheet.bytes.now in
    record {
      kept = within_none layer_from work_numbers _;
      found = range_clear s _ _ _ _ (omega (arith, c.last-last.ensures)) c.requires.1 (rw c.if-longest-eq0.true at c.longest.ensures);
    }

pub search_tile-requires : goal.search_tile-requires
search_tile-requires c = let j = c.loop-from in
    let s = sheet_in c.args.table.now.sheet.bytes.now in
    let wide = c.width_at-width in
    let passed = passed_kept j.invariant.kept s c.args.range.now.lo c.args.range.now.width c.args.range.now.few c.requires.1 in
    (wide.ensures.0, passed_part s c.args.range.now.lo c.args.range.now.width j.from wide.result j.work j.invariant.some (omega (arith, wide.ensures.2, c.last-last.ensures)) passed)

pub returns-in-Some : goal.returns-in-Some
returns-in-Some c = behind_over c.loop-from.invariant c.width_at-width.result (omega (arith, c.width_at-width.ensures.2, c.last-last.ensures)) (rw c.in-Some.is at c.search_tile.ensures)

pub loop-from-preserved : goal.loop-from-preserved
loop-from-preserved c = let width = c.width_at-width in
    behind_clear c.loop-from.invariant width.result (omega (arith, width.ensures.2, c.last-last.ensures))
    (rw c.in_default.is at c.search_tile.ensures)
