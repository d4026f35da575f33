-- Walking the modes of a module with the count of their tasks' numbers. Assumes nothing.
use mathlib.Core.Path.{◌≡◌, refl}
use mathlib.Core.List.{List}
use Prim.Native.Nat.{ℕ, ◌+◌, ◌*◌, ◌≤◌, ◌<◌}
use native.Mathlib.Numerals.{add-one}
use native.Mathlib.Omega.{arith}
use lib.ListN.{length}
use Rattle.model.specs.Sheet.{Sheet, module_at}
use Rattle.model.specs.Run.{mode_at}
use Rattle.format.specs.Judgement.{sheet_in, Accepted}
use Rattle.format.specs.Place.{mode_place}
use Rattle.place.specs.There.{ModuleThere, ModesThere, ModeThere, SomeModule, SomeModes, SomeMode}
use Rattle.place.proofs.Walking.{Modes, mode_next, modes_some, modes_more}
use Rattle.table.specs.Numbers.{start_of}
use Rattle.table.proofs.Numbering.{start_step, modes_few, tasks_few, start_most}

-- of the module at p, of which j modes are to be passed, i are passed: q is behind them, and their tasks make n numbers
pub record Counted (bs : List ℕ) (p j q n i : ℕ) : Type 0 where
  pub accepted : Accepted bs
  pub some : SomeModes (sheet_in bs) p j
  pub modes : Modes (sheet_in bs) p j q i
  pub number : (k : ℕ) → ModesThere (sheet_in bs) k p j → n ≡ start_of (module_at (sheet_in bs) k) i

pub none_of : {s : Sheet} {p j : ℕ} → SomeModes s p j → SomeModes s p 0
none_of some = record { k = some.k; there = record { number = some.there.number; place = some.there.place; most = omega arith } }

-- none are passed
pub modes_from : {s : Sheet} {p j q : ℕ} → ((k : ℕ) → ModesThere s k p 0 → q ≡ mode_place s k 0) → Modes s p j q 0
modes_from e = record { place = λ k h. e k (record { number = h.number; place = h.place; most = omega arith }) }

pub counted_none : {bs : List ℕ} {p j q : ℕ} → Accepted bs → SomeModes (sheet_in bs) p j → ((k : ℕ) → ModesThere (sheet_in bs) k p 0 → q ≡ mode_place (sheet_in bs) k 0) → Counted bs p j q 0 0
counted_none a some e =
    record {
      accepted = a;
      some = some;
      modes = modes_from e;
      number = λ k h. refl;
    }

module _ {bs : List ℕ} {p j q n i : ℕ} (c : Counted bs p j q n i) where
  -- at most 8 modes of at most 64 numbers
  pub counted_few : i ≤ j → (j ≤ 8) × (n ≤ 64 * i)
  counted_few few =
      let k : ℕ = c.some.k in
      let there : ModesThere (sheet_in bs) k p j = c.some.there in
      let h : length (module_at (sheet_in bs) k).modes ≤ 8 = modes_few bs c.accepted k there.number in
      (omega arith, omega (arith, c.number k there, start_most bs c.accepted k there.number i (omega arith)))

  module _ (l : i < j) where
    pub counted_some : SomeMode (sheet_in bs) q
    counted_some = modes_some c.modes l c.some

    module _ (t : ℕ) (tasks : (k j : ℕ) → ModeThere (sheet_in bs) k j q → t ≡ length (mode_at (module_at (sheet_in bs) k) j).tasks) where
      pub counted_tasks : t ≤ 16
      counted_tasks =
          let k : ℕ = c.some.k in
          let next : ModeThere (sheet_in bs) k i q = mode_next c.modes l k c.some.there in
          omega (arith, tasks k i next, tasks_few bs c.accepted k next.number i next.mode)

      pub counted_more : (r : ℕ) → ((k j : ℕ) → ModeThere (sheet_in bs) k j q → r ≡ mode_place (sheet_in bs) k (j + 1)) → Counted bs p j r (n + 4 * t) (i + 1)
      counted_more r after = record { accepted = c.accepted; some = c.some; modes = modes_more c.modes l r after; number = step }
        where
          step : (k : ℕ) → ModesThere (sheet_in bs) k p j → n + 4 * t ≡ start_of (module_at (sheet_in bs) k) (i + 1)
          step k h =
              let next : ModeThere (sheet_in bs) k i q = mode_next c.modes l k h in
              rw (add-one i) (omega (arith, c.number k h, tasks k i next, start_step (module_at (sheet_in bs) k) i next.mode))

-- The numbers before the mode j of the module at p.

-- where n is the number of its modes, a j up to n is within them
pub these_modes : {s : Sheet} {p n j : ℕ} → ((k : ℕ) → ModuleThere s k p → n ≡ length (module_at s k).modes) → j ≤ n → (k : ℕ) → ModuleThere s k p → ModesThere s k p j
these_modes e l k h = record { number = h.number; place = h.place; most = omega (arith, e k h) }

pub within_modes : {s : Sheet} {p n j : ℕ} → SomeModule s p → ((k : ℕ) → ModuleThere s k p → n ≡ length (module_at s k).modes) → j ≤ n → SomeModes s p j
within_modes some e l = record { k = some.k; there = these_modes e l some.k some.there }

module _ (bs : List ℕ) {p j r : ℕ} (accepted : Accepted bs) (e : (k : ℕ) → ModesThere (sheet_in bs) k p j → r ≡ start_of (module_at (sheet_in bs) k) j) where
  pub start_small : SomeModes (sheet_in bs) p j → r ≤ 512
  start_small some =
      let k : ℕ = some.k in
      let there : ModesThere (sheet_in bs) k p j = some.there in
      omega (arith, e k there, modes_few bs accepted k there.number, start_most bs accepted k there.number j there.most)
