-- How a number at the C boundary is read. Assumes nothing.
use Rattle.std.specs.Prelude.{cond, ℕ, ◌/◌, ◌%◌, eqb}
use Rattle.model.specs.Sheet.{Counts}
use Rattle.model.specs.Verdict.{Quick, Exact}
use Rattle.query.specs.Answer.{Answer, refused, given}
use Rattle.query.specs.Query.{Witnessed}
use Rattle.judge.specs.Told.{Told, told_refused, told_accepted}

-- the lowest byte, and what stands above it
abbrev pub kind : ℕ → ℕ
kind r = r % 256

abbrev pub above : ℕ → ℕ
above r = r / 256

-- the counts and the horizon of an accepted sheet
unfoldable pub read_judged : ℕ → Told
read_judged r =
    let modules = above r in
    let modes = modules / 256 in
    let tasks = modes / 256 in
    let switches = tasks / 65536 in
    let holds : Counts = record { modules = modules % 256; modes = modes % 256; tasks = tasks % 65536; switches = switches % 256 } in
    cond (eqb (kind r) 0) (told_accepted holds (switches / 256)) (told_refused (kind r) (above r))

unfoldable pub read_figure : ℕ → Answer ℕ
read_figure r = cond (eqb (kind r) 0) (given (above r)) (refused (kind r) (above r))

-- what the kind picks: clear, over or refused
abbrev pub by_kind : {A : Type 0} → A → A → ℕ → Answer A
by_kind clear over r = cond (eqb (kind r) 0) (given clear) (cond (eqb (kind r) 255) (given over) (refused (kind r) (above r)))

unfoldable pub read_quick : ℕ → Answer Quick
read_quick r = by_kind Quick.clear (Quick.over (above r % 65536) (above r / 65536)) r

unfoldable pub read_exact : ℕ → Answer Exact
read_exact r = by_kind Exact.clear (Exact.over (above r % 65536) (above r / 65536 % 65536) (above r / 65536 / 65536)) r

-- an exact answer without its tapes, which lie in the tape memory
abbrev pub verdict_of : Answer Witnessed → Answer Exact
verdict_of (refused number place) = refused number place
verdict_of (given w) = given w.verdict
