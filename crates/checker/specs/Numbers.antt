-- The numbers of 64 bits that hold the answers at the C boundary: in the lowest byte the kind, 0 answered, 255 over, else the refusal number of
-- document 01; above it the place or the figures. Assumes nothing.
use Rattle.std.specs.Prelude.{List, ℕ, ◌+◌, ◌*◌, Option, Result}
use Rattle.model.specs.Sheet.{Counts, counts}
use Rattle.model.specs.Verdict.{Quick, Exact}
use Rattle.format.specs.Judgement.{Judgement}
use Rattle.query.specs.Answer.{Answer, refused, given}
use Rattle.query.specs.Query.{Witnessed}
use Rattle.judge.specs.declared.Judged.{Judged}
use Rattle.judge.specs.declared.Refusal.{Refusal}
use Rattle.cells.specs.declared.Interval.{Interval}
use Rattle.exact.specs.Exact.{answer_of, modules_in}

abbrev pub refused_number : ℕ → ℕ → ℕ
refused_number number place = number + 256 * place

abbrev pub counts_of : Judged → Counts
counts_of a = record { modules = a.modules; modes = a.modes; tasks = a.tasks; switches = a.switches }

-- modules, modes, tasks, switches and the horizon, in 8, 8, 16, 8 and 16 bits
abbrev pub accepted_number : Counts → ℕ → ℕ
accepted_number c horizon = 256 * (c.modules + 256 * (c.modes + 256 * (c.tasks + 65536 * (c.switches + 256 * horizon))))

abbrev pub judged_number : Judgement → ℕ
judged_number (Judgement.refused number place) = refused_number number place
judged_number (Judgement.accepted s) = accepted_number (counts s) s.horizon

-- a demand, or how many bytes are written
abbrev pub figure_number : Answer ℕ → ℕ
figure_number (refused number place) = refused_number number place
figure_number (given v) = 256 * v

-- over: the length in 16 bits, and the demand
abbrev pub quick_number : Answer Quick → ℕ
quick_number (refused number place) = refused_number number place
quick_number (given Quick.clear) = 0
quick_number (given (Quick.over L v)) = 255 + 256 * (L + 65536 * v)

-- over: start and end in 16 bits each, and the demand; the tapes lie in the tape memory
abbrev pub verdict_number : Exact → ℕ
verdict_number Exact.clear = 0
verdict_number (Exact.over a b v) = 255 + 256 * (a + 65536 * (b + 65536 * v))

abbrev pub exact_number : Answer Witnessed → ℕ
exact_number (refused number place) = refused_number number place
exact_number (given w) = verdict_number w.verdict

-- the number of what the exact test says of the bytes, where it leaves the tape memory so
abbrev pub exact_of : List ℕ → List ℕ → Result (Option Interval) Refusal → ℕ
exact_of bytes memory x = exact_number (answer_of (modules_in bytes) memory x)
