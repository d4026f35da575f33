-- What is found in the cells of all modules is the first interval of the tile that is over. Assumes nothing.
use Rattle.model.specs.Verdict.{exact_sum}
use Rattle.format.specs.Judgement.{sheet_in}
use Rattle.search.proofs.Searching.{holding}
use Rattle.search.proofs.Keeping.{tile_kept, passed_kept}
use Rattle.search.proofs.search_tile.Goals as goal

pub first_in_tile-requires : goal.first_in_tile-requires
first_in_tile-requires c = tile_kept c.fill_tile.ensures.kept c.requires.0

pub returns : goal.returns
returns c = let s = sheet_in c.args.table.now.sheet.bytes.now in
    let filled = c.fill_tile.ensures in
    record {
      kept = filled.kept;
      found = c.first_in_tile.ensures (exact_sum s) (holding s _ _ _ _ c.args.table.now.modules_are (passed_kept filled.kept s _ _ c.requires.0.ends c.requires.1) filled.cells);
    }
