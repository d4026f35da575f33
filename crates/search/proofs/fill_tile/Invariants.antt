use Rattle.format.specs.Judgement.{sheet_in}
use Rattle.search.specs.Search.{Filled}
use Rattle.search.proofs.fill_tile.Given as goal

abbrev pub invariant-loop-k : goal.invariant-loop-k
invariant-loop-k l = Filled (sheet_in l.table.sheet.bytes.now) l.k l.tile.lo l.tile.width l.initial.work l.work
