-- The proved cases A to H, the worked sheet of slip 3 and those of requests b and k, in one table: what the definitions give, and what documents 01 and
-- 02 say. Assumes nothing.
use Rattle.std.specs.Prelude.{List, [], ◌∷◌, ℕ, length}
use Rattle.model.specs.Limits.{work_numbers}
use Rattle.model.specs.Lists.{sum_of}
use Rattle.model.specs.Sheet.{SW, SX}
use Rattle.model.specs.Demand.{listed_demand}
use Rattle.model.specs.Verdict.{Quick, over, quick_from}
use Rattle.format.specs.Encoding.{encode}
use Rattle.query.specs.Answer.{Answer, given}
use Rattle.query.specs.Query.{mode_answer, state_answer, module_answer}
use Rattle.lines.specs.Lines.{ascii, lines}
use Rattle.cases.specs.Sheets.{sheet_a, sheet_d, sheet_e, sheet_f, sheet_g, sheet_h, suspended, factory, leaving, releasing, twice, crowded}

pub data Outcome : Type 0 where
  bytes : ℕ → Outcome
  prints : List ℕ → Outcome
  demands : Answer ℕ → Outcome
  decides : Quick → Outcome

pub record Case : Type 0 where
  pub gives : Outcome
  pub says : Outcome

abbrev pub row : Outcome → Outcome → Case
row g s = record { gives = g; says = s }

unfoldable pub table : List Case
table =
    -- A, and its 64 bytes
    row (bytes (length (sheet_a 8))) (bytes 64)
    ∷ row (prints (lines (sheet_a 8)))
    (prints (ascii "sheet modules 2 modes 3 tasks 3 switches 1 horizon 8\nquick over 3 demand 4\nexact over 4 7 demand 4\nrun 0 0000000\nrun 1 0000111\n"))
    -- B
    ∷ row (prints (lines (sheet_a 6))) (prints (ascii "sheet modules 2 modes 3 tasks 3 switches 1 horizon 6\nquick over 3 demand 4\nexact clear\n"))
    -- C
    ∷ row (demands (state_answer (sheet_a 8) 1 0 1 5 work_numbers)) (demands (given 0))
    ∷ row (demands (state_answer (sheet_a 8) 1 0 1 6 work_numbers)) (demands (given 2))
    -- D
    ∷ row (demands (mode_answer (encode sheet_d) 0 0 0 1)) (demands (given 0))
    ∷ row (demands (mode_answer (encode sheet_d) 0 0 0 2)) (demands (given 1))
    ∷ row (demands (mode_answer (encode sheet_d) 0 0 1 2)) (demands (given 1))
    ∷ row (demands (mode_answer (encode sheet_d) 0 0 2 8)) (demands (given 0))
    -- E
    ∷ row (demands (mode_answer (encode sheet_e) 0 0 1 4)) (demands (given 0))
    ∷ row (demands (mode_answer (encode sheet_e) 0 0 1 8)) (demands (given 1))
    ∷ row (demands (mode_answer (encode sheet_e) 0 0 0 8)) (demands (given 2))
    -- F
    ∷ row (prints (lines (encode sheet_f))) (prints (ascii "sheet modules 2 modes 3 tasks 3 switches 2 horizon 16\nquick over 8 demand 10\nexact clear\n"))
    -- G
    ∷ row (prints (lines (encode sheet_g)))
    (prints (ascii "sheet modules 2 modes 3 tasks 3 switches 2 horizon 8\nquick over 8 demand 13\nexact over 0 8 demand 10\nrun 0 00001111\nrun 1 00000000\n"))
    -- H: 16 bytes, both clear; its EN number made 4; one byte added; empty input
    ∷ row (bytes (length (sheet_h 3 []))) (bytes 16)
    ∷ row (prints (lines (sheet_h 3 []))) (prints (ascii "sheet modules 1 modes 1 tasks 0 switches 0 horizon 1\nquick clear\nexact clear\n"))
    ∷ row (prints (lines (sheet_h 4 []))) (prints (ascii "refused 7 at 12\n"))
    ∷ row (prints (lines (sheet_h 3 (0 ∷ [])))) (prints (ascii "refused 8 at 16\n"))
    ∷ row (prints (lines [])) (prints (ascii "refused 1 at 0\n"))
    -- slip 3
    ∷ row (prints (lines (encode suspended)))
    (prints (ascii "sheet modules 2 modes 3 tasks 2 switches 2 horizon 8\nquick over 4 demand 5\nexact over 4 8 demand 5\nrun 0 00000000\nrun 1 00001111\n"))
    -- request b: the quick test over all listed modes was over; the reached ones are clear, and the factory mode's state demand is still answered
    ∷ row (decides (quick_from (λ L. sum_of (λ m. listed_demand m L) factory.modules) factory.horizon 1)) (decides (over 4 6))
    ∷ row (prints (lines (encode factory))) (prints (ascii "sheet modules 2 modes 4 tasks 4 switches 3 horizon 8\nquick clear\nexact clear\n"))
    ∷ row (demands (module_answer (encode factory) 0 4 work_numbers)) (demands (given 2))
    ∷ row (demands (state_answer (encode factory) 0 2 0 4 work_numbers)) (demands (given 4))
    -- request k: SW may not leave there, and SX may; SX may not where the instance from 0 to 4 is split; a run that leaves by SX inside the mode period
    ∷ row (prints (lines (encode (leaving SW 4 2)))) (prints (ascii "refused 6 at 22\n"))
    ∷ row (prints (lines (encode (leaving SX 4 2)))) (prints (ascii "sheet modules 2 modes 3 tasks 3 switches 2 horizon 12\nquick clear\nexact clear\n"))
    ∷ row (prints (lines (encode (leaving SX 2 2)))) (prints (ascii "refused 6 at 22\n"))
    ∷ row (prints (lines (encode (leaving SX 4 3))))
    (prints (ascii "sheet modules 2 modes 3 tasks 3 switches 2 horizon 12\nquick over 6 demand 7\nexact over 0 6 demand 7\nrun 0 000011\nrun 1 000000\n"))
    -- what would be released where the mode is left is not; a target is named once by both kinds; both count among the 128
    ∷ row (demands (state_answer (encode releasing) 0 0 1 2 work_numbers)) (demands (given 1))
    ∷ row (prints (lines (encode (twice SW SX)))) (prints (ascii "refused 6 at 18\n"))
    ∷ row (prints (lines (encode (twice SX SW)))) (prints (ascii "refused 6 at 18\n"))
    ∷ row (prints (lines (encode crowded))) (prints (ascii "refused 4 at 1060\n"))
    ∷ []
