-- The answer for a mode: refused where b is past the mode period, else given the amount. Assumes nothing.
use mathlib.Core.Path.{◌≡◌, refl, subst}
use mathlib.Core.Bool.{true, false, and-false}
use mathlib.Core.List.{List}
use Prim.Native.Nat.{ℕ, ◌+◌, ◌≤◌, ◌<◌}
use native.Mathlib.Omega.{arith}
use lib.ListN.{length}
use borrow.Author.Tests.{lt-ltb, le-leb, lt-leb}
use Rattle.model.specs.Sheet.{Sheet, module_at}
use Rattle.model.specs.Run.{mode_at}
use Rattle.model.specs.Demand.{mode_demand}
use Rattle.format.specs.Record.{md, field_at}
use Rattle.format.specs.Judgement.{accepted, judgement, sheet_in, Accepted}
use Rattle.format.specs.Refusal.{AreBytes}
use Rattle.query.specs.Answer.{Answer, answer}
use Rattle.query.specs.Query.{mode_terms, ModeAnswer}
use Rattle.query.proofs.Answers.{mode_answer_lem}
use Rattle.place.specs.There.{ModeThere, SomeMode}
use Rattle.place.proofs.Standing.{mode_record}
use Rattle.demand.specs.Counted.{Times}
use Rattle.demand.proofs.Tasks.{mode_there_rule}

-- The field of MD at p is the mode period.
pub period_there : (bs : List ℕ) → Accepted bs → AreBytes bs → (k j p : ℕ) → ModeThere (sheet_in bs) k j p → field_at bs (p + 2) ≡ (mode_at (module_at (sheet_in bs) k) j).period
period_there bs acc bytes k j p h =
    let there : md (field_at bs (p + 2)) ≡ md (mode_at (module_at (sheet_in bs) k) j).period = rw h.place (mode_record bs acc bytes k h.number j h.mode) in
    cc

-- What is at most the period of the mode at p is a mode time.
pub times_there : (bs : List ℕ) → Accepted bs → (p a b : ℕ) → SomeMode (sheet_in bs) p → a ≤ b
    → ((k j : ℕ) → ModeThere (sheet_in bs) k j p → b ≤ (mode_at (module_at (sheet_in bs) k) j).period) → Times a b
times_there bs acc p a b some l u =
    record { order = l; most = omega (arith, u some.k some.j some.there, (mode_there_rule bs acc some.k some.j p some.there).most) }

-- The answer for the mode m of the module k.
module _ (bs : List ℕ) (k m a b : ℕ) (s : Sheet) (e : judgement bs ≡ accepted s) where
  pub past_period : (mode_at (module_at s k) m).period < b → ModeAnswer bs k m a b (Answer.refused 9 0)
  past_period h =
      let out : (mode_terms k m a b).in_range s ≡ false = simp (lt-leb _ _ h, and-false) in
      rw (e, out) refl

  -- all in range
  pub answer_given : k < length s.modules → m < length (module_at s k).modes → a ≤ b → b ≤ (mode_at (module_at s k) m).period
      → ModeAnswer bs k m a b (Answer.given (mode_demand (mode_at (module_at s k) m) a b))
  unfolding answer
  answer_given hk hm ho hp = subst (ModeAnswer bs k m a b) (rw (e, inside)) (mode_answer_lem bs k m a b)
    where
      inside : (mode_terms k m a b).in_range s ≡ true
      inside = rw (lt-ltb _ _ hk, lt-ltb _ _ hm, le-leb _ _ ho, le-leb _ _ hp)
