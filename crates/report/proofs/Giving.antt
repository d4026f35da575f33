-- What the tests before a report say of a call, and that the lines or the refusal that it then has are its answer. Assumes nothing.
use mathlib.Core.Path.{◌≡◌, refl, ◌∙◌, ap}
use mathlib.Core.Bool.{true, and-eq-true_iff}
use mathlib.Core.List.{List, [], ◌++◌, append-nil}
use Prim.Native.Nat.{ℕ, ◌*◌}
use native.Mathlib.Omega.{arith}
use lib.Dec.{leb}
use lib.ListN.{length}
use Rattle.model.specs.Sheet.{Sheet, counts}
use Rattle.model.specs.Limits.{work_numbers}
use Rattle.model.specs.Verdict as Verdict
use Rattle.model.proofs.Tapes.{tapes_are}
use Rattle.format.specs.Judgement.{sheet_in}
use Rattle.format.proofs.RoundTrip.{accepted_well_formed}
use Rattle.query.specs.Answer.{Answer, refused, given, Meets}
use Rattle.query.specs.Query.{Witnessed, quick_terms, exact_terms, tapes_for, witnessed}
use Rattle.query.specs.Memory.{Stays}
use Rattle.query.proofs.Answers.{quick_answer_lem, quick_answer_unique, exact_answer_lem, exact_answer_unique}
use Rattle.query.proofs.Meeting.{met_given, met_answered, stays_more}
use Rattle.lines.specs.Lines.{sheet_line, quick_line, exact_line, run_lines, witness_lines, sheet_lines}
use Rattle.writing.specs.Writing.{Put}
use Rattle.writing.proofs.Writing.{put_more, put_two}
use Rattle.std.specs.Prelude.{Option, Some, None, Result, Ok}
use Rattle.judge.specs.declared.Judged.{Judged}
use Rattle.judge.specs.declared.Refusal.{Refusal}
use Rattle.sums.specs.declared.Excess.{Excess}
use Rattle.cells.specs.declared.Interval.{Interval}
use Rattle.quick.specs.Asking.{Sound}
use Rattle.quick.specs.Quick as quick
use Rattle.quick.specs.Quick.{QuickTested}
use Rattle.exact.specs.Exact as exact
use Rattle.exact.specs.Exact.{modules_in, ExactTested}
use Rattle.exact.proofs.Giving.{over_within}
use Rattle.report.specs.Report.{out_bytes, report_terms, Lines, Reported}
use Rattle.report.specs.Parts.{head_of, said, witnessed_lines, Printable, ExactWritten}
use Rattle.report.proofs.Runs.{tapes_digits}

-- What a call has whose terms are met.
module _ (bytes : List ℕ) (work tape out : ℕ) (met : Meets (report_terms work tape out) bytes) where
  both : ((leb work_numbers work ≡ true) × (leb (length (sheet_in bytes).modules * (sheet_in bytes).horizon) tape ≡ true)) × (leb out_bytes out ≡ true)
  both = simp and-eq-true_iff at met.enough

  pub exact_met : Meets (exact_terms work tape) bytes
  exact_met = record { accepted = met.accepted; in_range = refl; enough = rw (both.0.0, both.0.1) }

-- What the tests answer where their terms are met.

pub quick_said : {bytes w w' : List ℕ} {q : Result (Option Excess) Refusal} → Meets (quick_terms (length w)) bytes → QuickTested bytes w w' q → quick.answer_of q ≡ given (Verdict.quick (sheet_in bytes))
quick_said {bytes} {w} {w'} {q} met g =
    quick_answer_unique bytes (length w) (quick.answer_of q) _ g.answer (quick_answer_lem bytes (length w)) ∙ met_given (quick_terms (length w)) bytes met Verdict.quick

exact_said : {bytes w w' t t' : List ℕ} {x : Result (Option Interval) Refusal} → Meets (exact_terms (length w) (length t)) bytes → ExactTested bytes w w' t t' x → exact.answer_of (modules_in bytes) t' x ≡ given (witnessed (sheet_in bytes))
exact_said {bytes} {w} {w'} {t} {t'} {x} met g =
    exact_answer_unique bytes (length w) (length t) (exact.answer_of (modules_in bytes) t' x) _ g.answer (exact_answer_lem bytes (length w) (length t)) ∙ met_given (exact_terms (length w) (length t)) bytes met witnessed

-- the lines of a witnessed verdict
witnessed_lines_lem : (s : Sheet) → witnessed_lines (witnessed s) ≡ exact_line (Verdict.exact s) ++ witness_lines s (Verdict.exact s)
unfolding run_lines
witnessed_lines_lem s = ap (λ (l : List ℕ). exact_line (Verdict.exact s) ++ l) (runs (Verdict.exact s))
  where
    runs : (v : Verdict.Exact) → run_lines 0 (tapes_for s v) ≡ witness_lines s v
    runs Verdict.Exact.clear = refl
    runs (Verdict.Exact.over a b v) = refl

-- the verdict and the tapes of an answer that is given
abbrev held_by : Witnessed → Answer Witnessed → Witnessed
held_by d (refused number place) = d
held_by d (given w) = w

printable : (bytes : List ℕ) (work : ℕ) (memory : List ℕ) (x : Option Interval) → Meets (exact_terms work (length memory)) bytes → exact.answer_of (modules_in bytes) memory (Ok x) ≡ given (witnessed (sheet_in bytes)) → Printable (modules_in bytes) memory x
printable bytes work memory None met e = tt
printable bytes work memory (Some x) met e =
    let s = sheet_in bytes in
    let ok = accepted_well_formed bytes s met.accepted in
    let told : Judged = record { modules = modules_in bytes; modes = (counts s).modes; tasks = (counts s).tasks; switches = (counts s).switches; horizon = s.horizon } in
    let held = ap (held_by (witnessed s)) e in
    let verdict : Verdict.Exact.over x.start x.end x.demand ≡ Verdict.exact s = ap (λ (w : Witnessed). w.verdict) held in
    let tapes = ap (λ (w : Witnessed). w.tapes) held in
    let room = over_within bytes work (length memory) {a = told} (record { met = met; modules_are = refl; modes_are = refl; tasks_are = refl; switches_are = refl; horizon_is = refl }) verdict in
    record {
      short = room.0;
      within = room.1;
      digits = rw (tapes, ← verdict) (tapes_digits x.start x.end s.modules _ ok.modules (tapes_are s ok x.start x.end));
    }

-- The exact test where its terms are met: its tapes can be printed, and its lines are those of the sheet.
module _ {bytes w w' t t' : List ℕ} {x : Option Interval} where
  pub tested_printable : Meets (exact_terms (length w) (length t)) bytes → ExactTested bytes w w' t t' (Ok x) → Printable (modules_in bytes) t' x
  tested_printable met g = printable bytes (length w) t' x (rw g.tape.len met) (exact_said met g)

  pub tested_lines : {n : ℕ} → n ≡ modules_in bytes → Meets (exact_terms (length w) (length t)) bytes → ExactTested bytes w w' t t' (Ok x)
      → said witnessed_lines (exact.answer_of n t' (Ok x)) ≡ exact_line (Verdict.exact (sheet_in bytes)) ++ witness_lines (sheet_in bytes) (Verdict.exact (sheet_in bytes))
  tested_lines e met g = ap (λ (k : ℕ). said witnessed_lines (exact.answer_of k t' (Ok x))) e ∙ ap (said witnessed_lines) (exact_said met g) ∙ witnessed_lines_lem (sheet_in bytes)

pub clear_lines : witnessed_lines (record { verdict = Verdict.Exact.clear; tapes = [] }) ≡ exact_line Verdict.Exact.clear
unfolding run_lines
clear_lines = append-nil (exact_line Verdict.Exact.clear)

-- The parts of a report.
module _ {bytes w u w' t t' o o1 o2 o' : List ℕ} {a : Judged} {head next count : ℕ}
    (sound : Sound (report_terms (length w) (length t) (length o)) bytes a) (first : Put 0 head (head_of a) o o1)
    (second : Put head next (quick_line (Verdict.quick (sheet_in bytes))) o1 o2) (left : Stays work_numbers w u) (last : ExactWritten bytes next count u w' t t' o2 o') where
  line_is : head_of a ≡ sheet_line (sheet_in bytes)
  line_is = rw (sound.modules_are, sound.modes_are, sound.tasks_are, sound.switches_are, sound.horizon_is)

  all_put : Put 0 count (sheet_lines (sheet_in bytes)) o o'
  unfolding sheet_lines
  all_put =
      let s = sheet_in bytes in
      put_two (exact_line (Verdict.exact s)) (witness_lines s (Verdict.exact s)) (put_more (rw line_is at first) second) last.put

  is_exact : exact.answer_of (modules_in bytes) t' last.verdict ≡ given (witnessed (sheet_in bytes))
  is_exact = exact_said (rw left.len (exact_met bytes (length w) (length t) (length o) sound.met)) last.tested

  kept : Stays work_numbers w w'
  kept = stays_more left (rw is_exact at last.tested.memory)

  pub written : Reported bytes w w' t t' o o' (Ok count)
  written = record {
    answer = met_answered (report_terms (length w) (length t) (length o)) (λ (s : Sheet) (n : ℕ). Lines s o' n) bytes sound.met count (record { count = omega (arith, all_put.ends); lines = all_put.before });
    memory = kept;
    tape = (last.verdict, record { answer = rw left.len at last.tested.answer; memory = rw is_exact kept; tape = last.tested.tape });
    out = record { len = all_put.len; above = all_put.after };
  }
