-- What is printed of a well_formed sheet is what the answers mean, whichever way they are computed: the counts, the quick test's answer, the exact test's, and
-- only when that is over each module's tape in its interval. Assumes nothing.
use mathlib.Core.Path.{◌≡◌}
use mathlib.Core.List.{List, ◌++◌, append-nil}
use Prim.Native.Nat.{ℕ}
use Rattle.model.specs.Sheet.{Sheet}
use Rattle.model.specs.WellFormed.{WellFormed}
use Rattle.model.specs.Verdict.{Quick, Exact, QuickIs, ExactIs, quick, exact}
use Rattle.model.specs.Tape.{AreTapes, tapes}
use Rattle.model.proofs.Verdicts.{quick_is, quick_unique, exact_is, exact_unique}
use Rattle.model.proofs.Tapes.{tapes_are, tapes_unique}
use Rattle.lines.specs.Lines.{sheet_line, quick_line, exact_line, run_lines, sheet_lines}

module _ (s : Sheet) (ok : WellFormed s) (q : Quick) (quick_answer_lem : QuickIs s q) where
  quick_same : quick s ≡ q
  quick_same = quick_unique s ok (quick s) q (quick_is s ok) quick_answer_lem

  exact_same : (e : Exact) → ExactIs s e → exact s ≡ e
  exact_same e = exact_unique s ok (exact s) e (exact_is s ok)

  pub clear_lines : ExactIs s Exact.clear → sheet_lines s ≡ sheet_line s ++ quick_line q ++ exact_line Exact.clear
  unfolding sheet_lines
  clear_lines is = rw (quick_same, exact_same Exact.clear is, append-nil)

  pub over_lines : (a b v : ℕ) → ExactIs s (Exact.over a b v) → (ts : List (List ℕ)) → AreTapes s a b ts
      → sheet_lines s ≡ sheet_line s ++ quick_line q ++ exact_line (Exact.over a b v) ++ run_lines 0 ts
  unfolding sheet_lines
  over_lines a b v is ts are = rw (quick_same, exact_same (Exact.over a b v) is, tapes_unique s a b (tapes s a b) ts (tapes_are s ok a b) are)
