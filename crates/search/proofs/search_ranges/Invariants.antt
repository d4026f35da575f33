use Prim.Native.Nat.{◌+◌, ◌-◌, ◌≤◌}
use Rattle.model.specs.Verdict.{exact_sum}
use Rattle.format.specs.Judgement.{sheet_in}
use Rattle.search.proofs.Searching.{Behind}
use Rattle.search.proofs.search_ranges.Given as goal

abbrev pub invariant-loop-lo : goal.invariant-loop-lo
invariant-loop-lo l = (Behind (exact_sum (sheet_in l.table.sheet.bytes.now)) 0 1 l.horizon l.lo l.initial.work l.work) × (1 ≤ l.most)

abbrev pub decreases-loop-lo : goal.decreases-loop-lo
decreases-loop-lo l = l.horizon + 1 - l.lo
