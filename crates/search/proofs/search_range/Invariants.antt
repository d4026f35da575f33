use Prim.Native.Nat.{◌+◌, ◌-◌}
use Rattle.model.specs.Verdict.{exact_sum}
use Rattle.format.specs.Judgement.{sheet_in}
use Rattle.memory.specs.Map.{layer_from}
use Rattle.search.proofs.Searching.{Behind}
use Rattle.search.proofs.search_range.Given as goal

abbrev pub invariant-loop-from : goal.invariant-loop-from
invariant-loop-from l = Behind (exact_sum (sheet_in l.table.sheet.bytes.now)) layer_from l.range.lo l.range.width l.from l.initial.work l.work

abbrev pub decreases-loop-from : goal.decreases-loop-from
decreases-loop-from l = l.range.lo + l.range.width - l.from
