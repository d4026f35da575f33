-- A report on a well_formed sheet is no longer than the output memory that is asked for. Assumes nothing.
use mathlib.Core.Path.{◌≡◌}
use mathlib.Core.List.{List, [], ◌∷◌, map}
use Prim.Native.Nat.{ℕ, suc, ◌+◌, ◌*◌, ◌≤◌}
use native.Mathlib.Nat.{mul-le-mul}
use native.Mathlib.Omega.{arith}
use lib.ListN.{length, length-append}
use Rattle.model.specs.Sheet.{Module, Sheet, counts}
use Rattle.model.specs.WellFormed.{WellFormed}
use Rattle.model.specs.Run.{first}
use Rattle.model.specs.Tape.{tape, tapes}
use Rattle.model.specs.Verdict.{Quick, Exact, QuickIs, ExactIs, quick, exact}
use Rattle.model.proofs.Verdicts.{quick_is, exact_is}
use Rattle.query.specs.Answer.{Answer, refused, given, Answered}
use Rattle.lines.specs.Lines.{quick_line, exact_line, run_line, run_lines, witness_lines, sheet_lines}
use Rattle.following.proofs.Tapes.{tape_length}
use Rattle.writing.proofs.Lengths.{quick_clear_length, exact_clear_length, run_length}
use Rattle.report.specs.Report.{out_bytes, report_terms, Lines}
use Rattle.report.proofs.Room.{sheet_room, quick_room, exact_room}
use Rattle.checker.specs.Calls.{Held}
use Rattle.checker.proofs.Bounds.{Possible, possible, modes_most, quick_demand, exact_demand}

-- the lines of at most ten runs of b ticks each
runs_most : (f : Module → List ℕ) (b : ℕ) → ((m : Module) → length (f m) ≡ b) → (j : ℕ) (ms : List Module) → j + length ms ≤ 10 → length (run_lines j (map f ms)) ≤ length ms * (7 + b)
unfolding run_lines
runs_most f b each j [] h = omega arith
runs_most f b each j (m ∷ ms) h =
    omega (arith, length-append (run_line j (f m)) (run_lines (suc j) (map f ms)), run_length 1 j (f m) (omega arith) (omega arith), each m, runs_most f b each (suc j) ms (omega arith))

module _ (s : Sheet) (ok : WellFormed s) where
  quick_most : (q : Quick) → QuickIs s q → length (quick_line q) ≤ 35
  quick_most Quick.clear h = omega (arith, quick_clear_length)
  quick_most (Quick.over L v) h = quick_room L v (omega (arith, h.1, ok.horizon_most)) (omega (arith, quick_demand s ok L v h))

  exact_most : (e : Exact) → ExactIs s e → length (exact_line e) + length (witness_lines s e) ≤ 41 + 8 * 2007
  unfolding tapes
  exact_most Exact.clear h = omega (arith, exact_clear_length)
  exact_most (Exact.over a b v) h =
      let all : length s.modules * (7 + b) ≤ 8 * 2007 = mul-le-mul {n₂ = 8} {m₂ = 2007} ok.modules_most (omega (arith, h.1, ok.horizon_most)) in
      let runs = runs_most (λ m. tape m a b first) b (λ m. tape_length m a b first) 0 s.modules (omega (arith, ok.modules_most)) in
      omega (arith, exact_room a b v (omega (arith, h.0, h.1, ok.horizon_most)) (omega (arith, h.1, ok.horizon_most)) (omega (arith, exact_demand s ok a b v h)), runs, all)

  lines_most : length (sheet_lines s) ≤ out_bytes
  unfolding sheet_lines
  lines_most =
      let head = (sheet_room (counts s).modules (counts s).modes (counts s).tasks (counts s).switches s.horizon (omega arith) (omega (arith, modes_most s ok)) (omega arith) (omega arith) (omega arith)) in
      simp length-append (omega (arith, head, quick_most (quick s) (quick_is s ok), exact_most (exact s) (exact_is s ok)))

pub report_held : (bytes : List ℕ) (work tape out : ℕ) (o : List ℕ) (a : Answer ℕ) → Answered (report_terms work tape out) (λ s n. Lines s o n) bytes a → Held a
report_held bytes work tape out o a h = pick a (possible (report_terms work tape out) (λ s n. Lines s o n) bytes a h)
  where
    pick : (a : Answer ℕ) → Possible (λ s n. Lines s o n) a → Held a
    pick (refused number place) c = c.placed
    pick (given n) c = rw c.2.count (lines_most c.0 c.1)
