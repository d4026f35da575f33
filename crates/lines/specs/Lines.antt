-- The lines that the program prints, as bytes (document 01, 'Program and examples'). Each line ends with a newline, the last too. Assumes nothing.
use Rattle.std.specs.Prelude.{List, [], ◌∷◌, ◌++◌, map, ℕ, suc}
use Prim.Native.Char.{code}
use Prim.Native.String.{String}
use Rattle.model.specs.Sheet.{Sheet, counts}
use Rattle.model.specs.Verdict.{Quick, Exact, clear, over, quick, exact}
use Rattle.model.specs.Tape.{tapes}
use Rattle.format.specs.Judgement.{Judgement, refused, accepted, judgement}
use Rattle.lines.specs.Decimal.{digit, decimal}

abbrev pub ascii : String → List ℕ
ascii String.[] = []
ascii (String.◌∷◌ c s) = code c ∷ ascii s

unfoldable pub refused_line : ℕ → ℕ → List ℕ
refused_line n p = ascii "refused " ++ decimal n ++ ascii " at " ++ decimal p ++ ascii "\n"

unfoldable pub sheet_line_of : ℕ → ℕ → ℕ → ℕ → ℕ → List ℕ
sheet_line_of modules modes tasks switches horizon =
    ascii "sheet modules " ++ decimal modules
    ++ ascii " modes " ++ decimal modes
    ++ ascii " tasks " ++ decimal tasks
    ++ ascii " switches " ++ decimal switches
    ++ ascii " horizon " ++ decimal horizon ++ ascii "\n"

abbrev pub sheet_line : Sheet → List ℕ
sheet_line s = sheet_line_of (counts s).modules (counts s).modes (counts s).tasks (counts s).switches s.horizon

unfoldable pub quick_line : Quick → List ℕ
quick_line clear = ascii "quick clear\n"
quick_line (over L v) = ascii "quick over " ++ decimal L ++ ascii " demand " ++ decimal v ++ ascii "\n"

unfoldable pub exact_line : Exact → List ℕ
exact_line clear = ascii "exact clear\n"
exact_line (over a b v) = ascii "exact over " ++ decimal a ++ ascii " " ++ decimal b ++ ascii " demand " ++ decimal v ++ ascii "\n"

-- a module's number and tape, one digit a tick
unfoldable pub run_line : ℕ → List ℕ → List ℕ
run_line k tape = ascii "run " ++ decimal k ++ ascii " " ++ map digit tape ++ ascii "\n"

-- the modules' lines, where the first has the number k
unfoldable pub run_lines : ℕ → List (List ℕ) → List ℕ
run_lines k [] = []
run_lines k (tape ∷ ts) = run_line k tape ++ run_lines (suc k) ts

-- only when the exact test says over
abbrev pub witness_lines : Sheet → Exact → List ℕ
witness_lines s clear = []
witness_lines s (over a b v) = run_lines 0 (tapes s a b)

unfoldable pub sheet_lines : Sheet → List ℕ
sheet_lines s = sheet_line s ++ quick_line (quick s) ++ exact_line (exact s) ++ witness_lines s (exact s)

abbrev pub lines_of : Judgement → List ℕ
lines_of (refused n p) = refused_line n p
lines_of (accepted s) = sheet_lines s

unfoldable pub lines : List ℕ → List ℕ
lines bytes = lines_of (judgement bytes)
