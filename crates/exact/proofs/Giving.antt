-- What the tests before the exact test say of a call, and that the verdict and the tapes that it then has are its answer. Assumes nothing.
use mathlib.Core.Path.{◌≡◌, sym, ◌∙◌, ap, subst}
use mathlib.Core.Bool.{true, and-eq-true_iff}
use mathlib.Core.List.{List}
use Prim.Native.Nat.{ℕ, ◌*◌, ◌≤◌}
use native.Mathlib.Nat.{mul-le-mul_left}
use native.Mathlib.Omega.{arith}
use lib.Dec.{leb}
use lib.ListN.{length}
use borrow.Author.Tests.{leb-true}
use Rattle.model.specs.Limits.{max_horizon, work_numbers}
use Rattle.model.specs.Verdict as Verdict
use Rattle.model.proofs.Verdicts.{exact_is}
use Rattle.format.specs.Judgement.{sheet_in}
use Rattle.format.proofs.RoundTrip.{accepted_well_formed}
use Rattle.query.specs.Answer.{given}
use Rattle.query.specs.Query.{Witnessed, exact_terms, witnessed, ExactAnswer}
use Rattle.query.specs.Memory.{Stays}
use Rattle.query.proofs.Answers.{exact_answer_lem}
use Rattle.query.proofs.Meeting.{met_given, stays_untouched}
use Rattle.quick.specs.Asking.{Sound}
use Rattle.witness.specs.Witness.{WitnessWritten}
use Rattle.std.specs.Prelude.{Some, None, Ok}
use Rattle.judge.specs.declared.Judged.{Judged}
use Rattle.cells.specs.declared.Interval.{Interval}
use Rattle.cells.specs.Cells.{found_of}
use Rattle.exact.specs.Exact.{ExactTested}

-- What a sound call has.
module _ (bytes : List ℕ) (work tape : ℕ) {a : Judged} (met : Sound (exact_terms work tape) bytes a) where
  both : (leb work_numbers work ≡ true) × (leb (length (sheet_in bytes).modules * (sheet_in bytes).horizon) tape ≡ true)
  both = simp and-eq-true_iff at met.met.enough

  pub work_room : work_numbers ≤ work
  work_room = leb-true _ _ both.0

  -- the tapes of an interval that is over fit
  pub over_within : {from to v : ℕ} → Verdict.Exact.over from to v ≡ Verdict.exact (sheet_in bytes) → (to ≤ max_horizon) × (a.modules * to ≤ tape)
  over_within {from} {to} {v} e =
      let s = sheet_in bytes in
      let ok = accepted_well_formed bytes s met.met.accepted in
      let is : Verdict.ExactIs s (Verdict.Exact.over from to v) = rw (← e) at (exact_is s ok) in
      let room : a.modules * s.horizon ≤ tape = rw met.modules_are (leb-true _ _ both.1) in
      (omega (arith, is.1, ok.horizon_most), omega (arith, mul-le-mul_left a.modules is.1))

module _ (bytes w w' t : List ℕ) {a : Judged} (met : Sound (exact_terms (length w) (length t)) bytes a) (left : Stays work_numbers w w') where
  answered : (v : Witnessed) → v ≡ witnessed (sheet_in bytes) → ExactAnswer bytes (length w) (length t) (given v)
  answered v e = subst (ExactAnswer bytes (length w) (length t)) (met_given (exact_terms (length w) (length t)) bytes met.met witnessed ∙ ap given (sym e)) (exact_answer_lem bytes (length w) (length t))

  pub clear_is : Verdict.Exact.clear ≡ Verdict.exact (sheet_in bytes) → ExactTested bytes w w' t t (Ok None)
  clear_is e = record { answer = answered _ (rw (sym e)); memory = left; tape = stays_untouched 0 t }

  pub over_is : {t' : List ℕ} (x : Interval) → found_of (Some x) ≡ Verdict.exact (sheet_in bytes) → WitnessWritten (sheet_in bytes) x.start x.end t t' → ExactTested bytes w w' t t' (Ok (Some x))
  over_is x e done = record {
    answer = answered _ (rw (← e, done.tapes));
    memory = left;
    tape = done.stays;
  }
