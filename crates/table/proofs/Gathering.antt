-- Writing the numbers of the tasks of a module, mode by mode, into a row of 512. Assumes nothing.
use mathlib.Core.Path.{◌≡◌, refl, ◌∙◌}
use mathlib.Core.List.{List}
use Prim.Native.Nat.{ℕ, ◌+◌, ◌≤◌, ◌<◌}
use native.Mathlib.Numerals.{add-one}
use native.Mathlib.Omega.{arith}
use lib.ListN.{length, get_or, take, replicate}
use lib.Seq.{take-length, length-take-le, get_or-take}
use Rattle.model.specs.Sheet.{Module, module_at}
use Rattle.model.specs.Run.{mode_at}
use Rattle.format.specs.Judgement.{sheet_in, Accepted}
use Rattle.format.specs.Place.{mode_place}
use Rattle.place.specs.There.{ModuleThere, ModesThere, ModeThere, SomeModule}
use Rattle.place.proofs.Walking.{Modes, mode_next, modes_more}
use Rattle.table.specs.Rows.{Row}
use Rattle.model.specs.Flat.{task_numbers}
use Rattle.table.specs.Numbers.{mode_numbers, start_of, number_at, Written}
use Rattle.table.proofs.Numbering.{numbers_step, modes_few, start_most}
use Rattle.table.proofs.Filling.{row_written, row_blank}
use Rattle.table.proofs.Starting.{modes_from, these_modes}

-- of the n modes of the module at p the first i are passed, q is behind them, and their numbers stand in the row
pub record Gathered (bs : List ℕ) (p n : ℕ) (row : List ℕ) (q i : ℕ) : Type 0 where
  pub modes : Modes (sheet_in bs) p n q i
  pub each : (k : ℕ) → ModesThere (sheet_in bs) k p n → Row 0 512 (λ x. get_or (mode_numbers (take i (module_at (sheet_in bs) k).modes)) x 0) row

pub gathered_none : {bs : List ℕ} {p n q : ℕ} → ((k : ℕ) → ModesThere (sheet_in bs) k p 0 → q ≡ mode_place (sheet_in bs) k 0) → Gathered bs p n (replicate 512 0) q 0
gathered_none e = record { modes = modes_from e; each = λ k h. row_blank 0 512 (λ x. 0) (λ x. refl) }

module _ {bs : List ℕ} {p n : ℕ} {row : List ℕ} {q i : ℕ} (g : Gathered bs p n row q i) where
  pub gathered_more : (l : i < n) (r : ℕ) → ((k j : ℕ) → ModeThere (sheet_in bs) k j q → r ≡ mode_place (sheet_in bs) k (j + 1))
      → (start : ℕ) → ((k : ℕ) → ModuleThere (sheet_in bs) k p → start ≡ start_of (module_at (sheet_in bs) k) i)
      → (after : List ℕ) → ((k j : ℕ) → ModeThere (sheet_in bs) k j q → Written start (task_numbers (mode_at (module_at (sheet_in bs) k) j).tasks) row after)
      → Gathered bs p n after r (i + 1)
  gathered_more l r behind start here after written = record { modes = modes_more g.modes l r behind; each = next }
    where
      next : (k : ℕ) → ModesThere (sheet_in bs) k p n → Row 0 512 (λ x. get_or (mode_numbers (take (i + 1) (module_at (sheet_in bs) k).modes)) x 0) after
      next k h =
          let m : Module = module_at (sheet_in bs) k in
          let there : ModeThere (sheet_in bs) k i q = mode_next g.modes l k h in
          rw (add-one i, numbers_step m i there.mode)
          (row_written 512 (mode_numbers (take i m.modes)) (task_numbers (mode_at m i).tasks) row after (g.each k h) (rw (here k (record { number = h.number; place = h.place })) at (written k i there)))

  pub gathered_all : ((k : ℕ) → ModuleThere (sheet_in bs) k p → n ≡ length (module_at (sheet_in bs) k).modes) → i ≡ n → (k : ℕ) → ModuleThere (sheet_in bs) k p → Row 0 512 (number_at (module_at (sheet_in bs) k)) row
  gathered_all all l k h =
      let m : Module = module_at (sheet_in bs) k in
      let e : i ≡ length m.modes = l ∙ all k h in
      rw (e, take-length m.modes) at (g.each k (these_modes all (omega arith) k h))

-- The starts of the n modes of the module at p are the first n of its starts.
module _ (bs : List ℕ) {p n : ℕ} {starts : List ℕ} (accepted : Accepted bs) (some : SomeModule (sheet_in bs) p)
    (count : (k : ℕ) → ModuleThere (sheet_in bs) k p → n ≡ length (module_at (sheet_in bs) k).modes)
    (row : (k : ℕ) → ModuleThere (sheet_in bs) k p → Row 0 9 (start_of (module_at (sheet_in bs) k)) starts) where
  pub modes_most : n ≤ 8
  modes_most = omega (arith, count some.k some.there, modes_few bs accepted some.k some.there.number)

  taken : length (take n starts) ≡ n
  taken = length-take-le n starts (omega (arith, modes_most, (row some.k some.there).size))

  pub starts_count : (k : ℕ) → ModuleThere (sheet_in bs) k p → length (take n starts) ≡ length (module_at (sheet_in bs) k).modes
  starts_count k h = taken ∙ count k h

  module _ (i : ℕ) (l : i < length (take n starts)) where
    pub start_here : (k : ℕ) → ModuleThere (sheet_in bs) k p → get_or (take n starts) i 0 ≡ start_of (module_at (sheet_in bs) k) i
    start_here k h = get_or-take n starts i 0 (omega (arith, taken)) ∙ (row k h).each i (omega (arith, taken, modes_most))

    pub start_room : get_or (take n starts) i 0 + 64 ≤ 512
    start_room =
        let here : i ≤ length (module_at (sheet_in bs) some.k).modes = omega (arith, starts_count some.k some.there) in
        omega (arith, taken, modes_most, start_here some.k some.there, start_most bs accepted some.k some.there.number i here)
