-- The exact test's terms are met, so that what it says is the exact verdict, and its tapes can be printed. Assumes nothing.
use native.Mathlib.Omega.{arith}
use Rattle.format.proofs.RoundTrip.{accepted_well_formed}
use Rattle.report.proofs.Giving.{tested_printable, tested_lines}
use Rattle.report.proofs.exact_part.Goals as goal

pub exact_lines-requires-clause-modules_bound : goal.exact_lines-requires-clause-modules_bound
exact_lines-requires-clause-modules_bound c = let ok = accepted_well_formed _ _ c.requires.meets.accepted in
    let tested = rw c.unwrap-over.ensures at c.exact_test.ensures in
    (omega (arith, c.requires.modules_value, ok.modules_most), rw c.requires.modules_value (tested_printable c.requires.meets tested))

pub returns : goal.returns
returns c = let tested = rw c.unwrap-over.ensures at c.exact_test.ensures in
    record { verdict = _; tested = tested; put = rw (tested_lines c.requires.modules_value c.requires.meets tested) at c.exact_lines.ensures }
