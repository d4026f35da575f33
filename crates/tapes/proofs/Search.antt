-- The heads of the modes that open, and what a search for the lowest mode finds that opens and has the top. Assumes nothing.
use mathlib.Core.Path.{◌≡◌, sym}
use mathlib.Core.Bool.{Bool, true, false, ◌&&◌}
use Prim.Native.Nat.{ℕ, ◌≤◌, ◌<◌}
use native.Mathlib.Omega.{arith}
use lib.ListN.{length}
use Rattle.std.specs.Prelude.{Option, Some, None, MatchOption, IfSome, unwrap_or}
use Rattle.std.specs.Bool.{then_some}
use Rattle.model.specs.Lists.{when}
use lib.Dec.{eqb}
use Rattle.following.proofs.Lowest.{lowest_only}
use Rattle.following.specs.Follow.{attains, head}
use Rattle.tapes.specs.declared.Fork.{Fork}
use Rattle.tapes.specs.States.{the}
use Rattle.tapes.specs.Forks.{AtFork, modes_of, ahead, Attains}

-- a head that is there, or else 0
pub unwrapped : (v : ℕ) (o : Bool) (r : Option ℕ) → r ≡ then_some o v → unwrap_or r 0 ≡ when o v
unwrapped v true r e = rw e
unwrapped v false r e = rw e

pub small_head : (r : Option ℕ) → IfSome r (λ h. h < 65536) → unwrap_or r 0 < 65536
small_head (Some h) l = l
small_head None l = omega arith

-- a head that is there and the top
pub head_is : (v top : ℕ) (o b : Bool) (r : Option ℕ) → r ≡ then_some o v → MatchOption r (b ≡ false) (λ h. b ≡ eqb h top) → b ≡ (o && eqb v top)
head_is v top true b r q e = rw q at e
head_is v top false b r q e = rw q at e

module _ (x : Fork) (top : ℕ) where
  pub lowest_found : (r : Option ℕ)
      → MatchOption r ((k : ℕ) → 0 ≤ k → k < modes_of x → Attains x top false k) (λ j. (0 ≤ j) × (j < modes_of x) × Attains x top true j × ((k : ℕ) → 0 ≤ k → k < j → Attains x top false k))
      → IfSome r (λ j. j < modes_of x) × AtFork x (λ m. unwrap_or r (modes_of x) ≡ head m (ahead x m) (the x.s) top)
  unfolding head
  lowest_found (Some j) found = (
    found.1,
    λ m ok told.
        sym (lowest_only (attains m (ahead x m) (the x.s) top) (length m.modes) j (omega (arith, told.modes, found.1))
        (λ l. sym (found.2.each m ok told)) (λ i l. sym ((found.3 i (omega arith) l).each m ok told))),
  )
  lowest_found None none = (
    tt,
    λ m ok told.
        sym (lowest_only (attains m (ahead x m) (the x.s) top) (length m.modes) (modes_of x) (omega (arith, told.modes))
        (λ l. absurd (omega (arith, told.modes))) (λ i l. sym ((none i (omega arith) l).each m ok told))),
  )
