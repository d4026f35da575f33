-- Two calls with the same bytes and the same lent memory that meet the contract agree: in the answer, in the whole output memory, in the whole tape
-- memory, and in the working memory past its first 16,384 numbers. Assumes nothing.
use mathlib.Core.Path.{◌≡◌, sym, ◌∙◌, subst}
use mathlib.Core.List.{List}
use Prim.Native.Nat.{ℕ}
use Rattle.model.specs.Limits.{work_numbers}
use Rattle.query.specs.Answer.{Answer, refused, given}
use Rattle.query.specs.Memory.{Stays, work_used}
use Rattle.query.proofs.Meeting.{stays_untouched}
use Rattle.lines.specs.Lines.{lines}
use Rattle.writing.proofs.Writing.{put_unique}
use Rattle.std.specs.Prelude.{Result}
use Rattle.judge.specs.declared.Refusal.{Refusal}
use Rattle.report.specs.Report.{answer_of}
use Rattle.report.proofs.Unique.{answer_injective, Agree as Reports, report_unique}
use Rattle.printing.specs.Printed.{OutLeft, Printed}

pub record Agree (r q : Result ℕ Refusal) (u v p p' o o' : List ℕ) : Type 0 where
  pub answer : r ≡ q
  pub memory : Stays work_numbers u v
  pub tape : p ≡ p'
  pub out : o ≡ o'

pub printed_unique : {bytes w u v t p p' o x y : List ℕ} {r q : Result ℕ Refusal} → Printed bytes w u t p o x r → Printed bytes w v t p' o y q → Agree r q u v p p' x y
printed_unique {bytes} {w} {u} {v} {t} {p} {p'} {o} {x} {y} {r} {q} g h = record {
  answer = same;
  memory = used (answer_of g.report) reports.memory;
  tape = reports.tape;
  out = left (answer_of r) g.out (subst (λ (a : Result ℕ Refusal). OutLeft (lines bytes) o y (answer_of a)) (sym same) h.out);
}
  where
    same : r ≡ q
    same = answer_injective r q (g.answer ∙ sym h.answer)

    reports : Reports g.report h.report u v p p' g.between h.between
    reports = report_unique g.reported h.reported

    used : (a : Answer ℕ) → Stays (work_used a) u v → Stays work_numbers u v
    used (refused number place) s = rw s.above (stays_untouched work_numbers u)
    used (given n) s = s

    left : (a : Answer ℕ) → OutLeft (lines bytes) o x a → OutLeft (lines bytes) o y a → x ≡ y
    left (refused number place) a b = a ∙ sym b
    left (given n) a b = (put_unique a b).1
