-- The number is that of the report: the output memory can hold the lines, so their count fits 32 bits, and a refusal's place is in the longest sheet or at its end. Assumes nothing.
use mathlib.Core.Path.{◌≡◌, subst}
use Prim.Native.Nat.{ℕ}
use native.Mathlib.Omega.{arith}
use Rattle.std.specs.Prelude.{Result, Ok, Err, MatchResult, IsOkAnd}
use Rattle.judge.specs.declared.Refusal.{Refusal}
use Rattle.demand.specs.Demanded.{answer_of as demanded}
use Rattle.report.specs.Report.{answer_of}
use Rattle.checker.specs.Calls.{Placed, Held}
use Rattle.checker.proofs.Room.{report_held}
use Rattle.checker.proofs.tyvasuri_report.Goals as goal

pub map-requires : goal.map-requires
map-requires c count is fits callable =
    let held : Held (answer_of (Ok count)) = subst (λ r. Held (answer_of r)) is (report_held _ _ _ _ _ _ c.write_report.ensures.answer) in
    omega (arith, held)

-- a refusal is the same where what is given is made another figure
kept : (P : ℕ → ℕ → Type 0) (r q : Result ℕ Refusal) → Held (answer_of r) → MatchResult r (λ x. IsOkAnd q (P x)) (λ e. q ≡ Err e) → Placed (demanded q)
kept P (Err e) q held is = rw is held
kept P (Ok x) (Ok v) held is = tt
kept P (Ok x) (Err e) held is = absurd is

pub figure_number-requires : goal.figure_number-requires
figure_number-requires c = kept _ _ _ (report_held _ _ _ _ _ _ c.write_report.ensures.answer) c.map.ensures.cases
