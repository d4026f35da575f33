-- `is_any_marked` answers no only where it has looked at each mode. Assumes nothing.
use Rattle.std.proofs.Common.{◌≡◌, refl, false, true, rules, tests, arith}
use Rattle.std.proofs.lemmas.Iterator.{cases_from_any, YieldsList-from_range}
use Rattle.std.proofs.lemmas.List.FromFn.{length-range_with_len, get_or-range_with_len}
use native.Mathlib.Nat.{zero-add}
use Rattle.marks.specs.Marks.{marked}
use Rattle.marks.proofs.Walk.is_any_marked.Goals as goal

pub returns : goal.returns
returns c = λ e k h.
    let bits = c.args.bits.now in
    let found = cases_from_any _ _ c.any.result (λ j. marked bits j c.args.t ≡ true) (λ j. marked bits j c.args.t ≡ false) c.any.ensures.ran
    (YieldsList-from_range 0 c.args.self.now.shape.modes c.args.self.now.shape.modes refl (omega arith)) (λ x q k. search (rules, tests)) (λ x q k. search (rules, tests)) in
    let none = rw e at found in
    rw (get_or-range_with_len 0 c.args.self.now.shape.modes k 0 h, zero-add) at (none k 0 (omega arith) (omega (arith, length-range_with_len 0 c.args.self.now.shape.modes)))
