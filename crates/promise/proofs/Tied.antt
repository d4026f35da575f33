-- From the contract of `exact_test` alone: the steps. Assumes nothing.
use mathlib.Core.Path.{◌≡◌, refl}
use mathlib.Core.Bool.{Bool, true, false}
use mathlib.Core.List.{List}
use Prim.Native.Nat.{ℕ}
use native.Mathlib.Omega.{arith}
use lib.ListN.{length}
use Rattle.model.specs.Sheet.{Sheet}
use Rattle.format.specs.Judgement.{Judgement, judgement, sheet_in, Accepted}
use Rattle.format.proofs.RoundTrip.{accepted_well_formed}
use Rattle.query.specs.Answer.{refused, given, Terms, GivenBy, AnsweredBy, Answered}
use Rattle.query.specs.Query.{Witnessed, WitnessedIs, exact_terms}
use Rattle.query.specs.Memory.{tapes_in}
use Rattle.exact.specs.Exact.{modules_in, ExactTested}
use Rattle.std.specs.Prelude.{Some, None, Ok}
use Rattle.cells.specs.declared.Interval.{Interval}
use Rattle.edf.proofs.Meaning.{clear_on_time, over_late, over_shown}
use Rattle.promise.specs.Promise.{ClearPromise, OverPromise}

not_refused : {A C : Type 0} {v : A} {n p : ℕ} → given v ≡ refused n p → C
not_refused e = let z : ◌≡◌ {A = ℕ} 0 1 = cc in absurd (omega arith)

-- An answer that is given is given of an accepted sheet, whose figure it states.
given_is : {A : Type 0} (t : Terms) (R : Sheet → A → Type 0) (bytes : List ℕ) (v : A) → Answered t R bytes (given v) → Accepted bytes × R (sheet_in bytes) v
given_is {A} t R bytes v h = judged (judgement bytes) refl h
  where
    tests : (s : Sheet) → judgement bytes ≡ Judgement.accepted s → (i e : Bool) → GivenBy i e (R s) (given v) → Accepted bytes × R (sheet_in bytes) v
    tests s q true true g = (rw q, rw q (rw (let same : g.0 ≡ v = cc in same) at g.2))
    tests s q true false g = not_refused g
    tests s q false e g = not_refused g

    judged : (j : Judgement) → judgement bytes ≡ j → AnsweredBy t R j (given v) → Accepted bytes × R (sheet_in bytes) v
    judged (Judgement.refused n p) q g = not_refused g
    judged (Judgement.accepted s) q g = tests s q (t.in_range s) (t.enough s) g

module _ (bytes w w' t t' : List ℕ) where
  answered : (v : Witnessed) → Answered (exact_terms (length w) (length t)) WitnessedIs bytes (given v) → Accepted bytes × WitnessedIs (sheet_in bytes) v
  answered v = given_is (exact_terms (length w) (length t)) WitnessedIs bytes v

  pub clear_tied : ExactTested bytes w w' t t' (Ok None) → Accepted bytes × ClearPromise (sheet_in bytes)
  clear_tied tested =
      let h = answered _ tested.answer in
      (h.0, clear_on_time (sheet_in bytes) (accepted_well_formed bytes (sheet_in bytes) h.0) h.1.0)

  pub over_tied : (x : Interval) → ExactTested bytes w w' t t' (Ok (Some x)) → Accepted bytes × OverPromise (sheet_in bytes) x.end (tapes_in (modules_in bytes) x.end t')
  over_tied x tested =
      let h = answered _ tested.answer in
      let s = sheet_in bytes in
      let ts = tapes_in (modules_in bytes) x.end t' in (
        h.0,
        record {
          shown = over_shown s x.start x.end ts h.1.1;
          late = over_late s (accepted_well_formed bytes s h.0) x.start x.end x.demand h.1.0 ts h.1.1;
        },
      )
