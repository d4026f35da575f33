-- A report that is written is what is printed; where a report is refused for the sheet's fault, the line of that refusal is, if there is room for any
-- lines, and too little memory is refused. A refusal's line is short. Assumes nothing.
use mathlib.Core.Path.{◌≡◌, refl, sym, ap, ◌∙◌}
use mathlib.Core.Bool.{Bool, true, false}
use mathlib.Core.List.{List}
use Prim.Native.Nat.{ℕ, ◌+◌, ◌*◌, ◌^◌, ◌≤◌, ◌<◌}
use native.Mathlib.Nat.{mul-le-mul}
use native.Mathlib.Decide.{dec_lt}
use native.Mathlib.Omega.{arith}
use lib.ListN.{length, take, length-take}
use borrow.Author.Tests.{eq-eqb, ne_eqb, lt-ltb, le-ltb, le-leb, lt-leb}
use Rattle.model.specs.Limits.{max_modules, max_horizon, work_numbers}
use Rattle.format.specs.Judgement.{Judgement, judgement}
use Rattle.format.proofs.Judging.{refused_number_lem}
use Rattle.format.proofs.RoundTrip.{accepted_well_formed}
use Rattle.query.specs.Answer.{refused, given, Terms, GivenBy, AnsweredBy}
use Rattle.lines.specs.Lines.{refused_line, lines_of, lines}
use Rattle.writing.specs.Writing.{Put}
use Rattle.writing.proofs.Lengths.{refused_length}
use Rattle.std.specs.Prelude.{Result, Ok, Err}
use Rattle.judge.specs.declared.Refusal.{Refusal}
use Rattle.judge.specs.Told.{number_of}
use Rattle.report.specs.Report.{out_bytes, report_terms, answer_of, Lines, Reported}
use Rattle.report.proofs.Unique.{apart}
use Rattle.printing.specs.Printed.{lines_answer, OutLeft, Printed, Counted}
use Rattle.printing.specs.Refusing.{Refusing}

-- The line of a refusal.

pub refused_room : {n p k : ℕ} → n < 256 → p < 18446744073709551616 → out_bytes ≤ k → 0 + length (refused_line n p) ≤ k
refused_room {n} {p} h i room =
    let few : n < 10 ^ 3 = omega arith in
    let many : p < 10 ^ 20 = omega arith in
    omega (arith, refused_length 3 20 (omega arith) (omega arith) n p few many)

-- What is counted.

-- bytes that are written from the beginning on are counted by the place behind them
put_counted : {n : ℕ} {xs o o' : List ℕ} → Put 0 n xs o o' → (n ≤ length o') × (n ≡ length (take n o'))
put_counted {n} {o' = o'} p =
    let whole : n ≡ length (take n o') = omega (arith, p.ends, ap length p.before) in
    (omega (arith, whole, length-take n o'), whole)

pub printed_counted : {bytes w w' t t' o o' : List ℕ} {r : Result ℕ Refusal} → Printed bytes w w' t t' o o' r → Counted o' r
printed_counted {bytes} {o = o} {o' = o'} {r = r} printed = pick r printed.out
  where
    pick : (r : Result ℕ Refusal) → OutLeft (lines bytes) o o' (answer_of r) → Counted o' r
    pick (Err n) left = tt
    pick (Ok n) put = put_counted put

-- What is printed.

module _ (bytes w w' t t' o : List ℕ) where
  abbrev terms : Terms
  terms = report_terms (length w) (length t) (length o)

  abbrev Shown : Judgement → List ℕ → Result ℕ Refusal → Type 0
  Shown j o' r = (answer_of r ≡ lines_answer (length w) (length t) (length o) j) × OutLeft (lines_of j) o o' (answer_of r)

  -- a report that is written
  module _ {o' : List ℕ} {n : ℕ} (r : Reported bytes w w' t t' o o' (Ok n)) where
    written_shown : (j : Judgement) → AnsweredBy terms (λ s k. Lines s o' k) j (given n) → Shown j o' (Ok n)
    written_shown (Judgement.refused m q) g = apart g
    written_shown (Judgement.accepted s) g = tests (terms.enough s) refl g
      where
        tests : (e : Bool) → terms.enough s ≡ e → GivenBy true e (λ k. Lines s o' k) (given n) → Shown (Judgement.accepted s) o' (Ok n)
        tests true h g =
            let same : n ≡ g.0 = cc g.1 in
            let l : Lines s o' n = rw same g.2 in
            (rw h (ap given l.count), record { ends = omega (arith, l.count); len = r.out.len; before = l.lines; after = r.out.above })
        tests false h g = apart g

    pub written_printed : Printed bytes w w' t t' o o' (Ok n)
    unfolding lines
    written_printed = let shown = written_shown (judgement bytes) r.answer in record { answer = shown.0; out = shown.1; report = _; between = _; reported = r }

  -- a report that is refused, with what is done then
  module _ {u o' : List ℕ} {f : Refusal} (q : Result ℕ Refusal) (r : Reported bytes w w' t t' o u (Err f)) (done : Refusing (number_of f.fault) f.place u o' q) where
    abbrev n : ℕ
    n = number_of f.fault

    abbrev p : ℕ
    p = f.place

    stayed : u ≡ o
    stayed = r.out.above

    refused_shown : (j : Judgement) → judgement bytes ≡ j → AnsweredBy terms (λ s k. Lines s u k) j (refused n p) → Shown j o' q
    refused_shown (Judgement.refused m k) e g = (pick (dec_lt (length o) out_bytes), rw (number, place, stayed) at done.out)
      where
        number : n ≡ m
        number = cc

        place : p ≡ k
        place = cc

        fault : n ≡ 10 → ⊥
        fault z = omega (arith, refused_number_lem bytes m k e, number)

        pick : Dec (length o < out_bytes) → answer_of q ≡ lines_answer (length w) (length t) (length o) (Judgement.refused m k)
        pick (yes l) = rw (lt-leb out_bytes (length o) l, ← number, ← place) (rw (ne_eqb n 10 fault, stayed, lt-ltb (length o) out_bytes l) at done.answer)
        pick (no l) =
            let room : out_bytes ≤ length o = omega arith in
            rw (le-leb out_bytes (length o) room, ← number, ← place) (rw (ne_eqb n 10 fault, stayed, le-ltb (length o) out_bytes room) at done.answer)
    refused_shown (Judgement.accepted s) e g = tests (terms.enough s) refl g
      where
        tests : (e : Bool) → terms.enough s ≡ e → GivenBy true e (λ k. Lines s u k) (refused n p) → Shown (Judgement.accepted s) o' q
        tests true h g = apart (sym g.1)
        tests false h g =
            let ten : n ≡ 10 = cc in
            let says : answer_of q ≡ refused n p = rw (eq-eqb n 10 ten) at done.answer in
            let left : o' ≡ u = rw says at done.out in
            (rw h (says ∙ g), rw says (left ∙ stayed))

    pub refused_printed : Printed bytes w w' t t' o o' q
    unfolding lines
    refused_printed = let shown = refused_shown (judgement bytes) refl r.answer in record { answer = shown.0; out = shown.1; report = _; between = _; reported = r }

-- Where the memory is enough for every sheet, something is printed for any bytes.
pub enough_printed : {bytes w w' t t' o o' : List ℕ} {r : Result ℕ Refusal} → work_numbers ≤ length w → max_modules * max_horizon ≤ length t → out_bytes ≤ length o
    → Printed bytes w w' t t' o o' r → answer_of r ≡ given (length (lines bytes))
unfolding lines
enough_printed {bytes} {w} {t = t} {o = o} work tape out printed = printed.answer ∙ judged (judgement bytes) refl
  where
    judged : (j : Judgement) → judgement bytes ≡ j → lines_answer (length w) (length t) (length o) j ≡ given (length (lines_of j))
    judged (Judgement.refused number place) e = rw (le-leb out_bytes (length o) out)
    judged (Judgement.accepted s) e =
        let ok = accepted_well_formed bytes s e in
        let most : length s.modules * s.horizon ≤ max_modules * max_horizon = mul-le-mul {n₂ = max_modules} {m₂ = max_horizon} ok.modules_most ok.horizon_most in
        rw (le-leb work_numbers (length w) work, le-leb (length s.modules * s.horizon) (length t) (omega arith), le-leb out_bytes (length o) out)
