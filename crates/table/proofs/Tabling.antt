-- One row after the other, a row for each module, until EN. Assumes nothing.
use mathlib.Core.Path.{◌≡◌, refl, sym, ◌∙◌, ap}
use mathlib.Core.Bool.{false}
use mathlib.Core.List.{List, [], ◌∷◌}
use Prim.Native.Nat.{ℕ, zero, suc, ◌+◌, ◌≤◌, ◌<◌}
use native.Mathlib.Decide.{ℕ_discrete}
use native.Mathlib.Numerals.{add-one}
use native.Mathlib.Omega.{arith}
use lib.ListN.{length, get_or, set, take, replicate, length-set, length-replicate, get_or-replicate}
use lib.Seq.{get_or-set_same, get_or-set_other, get_or-take, take-length, take-nil}
use Rattle.model.specs.Sheet.{Module, absent, module_at}
use Rattle.format.specs.Judgement.{sheet_in, Accepted}
use Rattle.format.specs.Refusal.{AreBytes}
use Rattle.format.specs.Place.{module_place}
use Rattle.format.proofs.RoundTrip.{accepted_well_formed}
use Rattle.place.specs.There.{ModuleThere, SomeModule}
use Rattle.place.proofs.Standing.{module_within, module_first, end_first}
use Rattle.place.proofs.Steps.{first_module}
use Rattle.table.specs.Rows.{RowOf, no_row, RowsOf}
use Rattle.table.specs.declared.ModuleRow.{ModuleRow}
use Rattle.table.proofs.Filling.{row_blank}

-- one more of a list, where it is not asked for
take_other : {A : Type 0} (d : A) (xs : List A) (k x : ℕ) → (x ≡ k → ⊥) → get_or (take (suc k) xs) x d ≡ get_or (take k xs) x d
take_other d [] k x q = rw (take-nil k)
take_other d (y ∷ ys) zero zero q = absurd (q refl)
take_other d (y ∷ ys) zero (suc x) q = refl
take_other d (y ∷ ys) (suc k) zero q = refl
take_other d (y ∷ ys) (suc k) (suc x) q = take_other d ys k x (λ e. q (ap suc e))

-- the rows of no module
abbrev blank : ModuleRow
blank = record { periods = replicate 8 0; every = replicate 64 0; listed = replicate 64 false }

-- k modules are passed, p is behind them, and their rows stand in the table; the others are blank
pub record Tabled (bs : List ℕ) (rows : List ModuleRow) (p k : ℕ) : Type 0 where
  pub accepted : Accepted bs
  pub bytes : AreBytes bs
  pub few : k ≤ length (sheet_in bs).modules
  pub eight : length (sheet_in bs).modules ≤ 8
  pub place : p ≡ module_place (sheet_in bs) k
  pub within : p < length bs
  pub size : length rows ≡ 8
  pub each : (x : ℕ) → x < 8 → RowOf (get_or (take k (sheet_in bs).modules) x absent) (get_or rows x no_row)

pub tabled_none : (bs : List ℕ) → Accepted bs → AreBytes bs → Tabled bs (replicate 8 blank) 4 0
tabled_none bs accepted bytes =
    record {
      accepted = accepted;
      bytes = bytes;
      few = omega arith;
      eight = (accepted_well_formed bs (sheet_in bs) accepted).modules_most;
      place = sym (first_module (sheet_in bs));
      within = omega (arith, first_module (sheet_in bs), module_within bs accepted bytes 0 (omega arith));
      size = length-replicate 8 blank;
      each = λ x l. rw (get_or-replicate 8 x blank no_row l) (record { periods = row_blank 0 8 _ (λ i. refl); every = row_blank 0 64 _ (λ i. refl); listed = row_blank false 64 _ (λ i. refl) });
    }

module _ {bs : List ℕ} {rows : List ModuleRow} {p k : ℕ} (t : Tabled bs rows p k) where
  -- a module stands at p where the byte there is M
  module _ (e : get_or bs p 0 ≡ 77) where
    pub tabled_there : ModuleThere (sheet_in bs) k p
    tabled_there = pick (ℕ_discrete k (length (sheet_in bs).modules))
      where
        pick : Dec (k ≡ length (sheet_in bs).modules) → ModuleThere (sheet_in bs) k p
        pick (yes q) = let last : get_or bs p 0 ≡ 69 = rw (t.place, q) (end_first bs t.accepted t.bytes) in absurd (omega arith)
        pick (no q) = let few : k ≤ length (sheet_in bs).modules = t.few in record { number = omega arith; place = t.place }

    pub tabled_some : SomeModule (sheet_in bs) p
    tabled_some = record { k = k; there = tabled_there }

    pub tabled_more : (row : ModuleRow) → ((k : ℕ) → ModuleThere (sheet_in bs) k p → RowOf (module_at (sheet_in bs) k) row)
        → (r : ℕ) → ((k : ℕ) → ModuleThere (sheet_in bs) k p → r ≡ module_place (sheet_in bs) (k + 1)) → Tabled bs (set rows k row) r (k + 1)
    tabled_more row this r behind =
        record {
          accepted = t.accepted;
          bytes = t.bytes;
          few = omega (arith, there.number);
          eight = t.eight;
          place = behind k there;
          within = omega (arith, there.number, behind k there, module_within bs t.accepted t.bytes (k + 1) (omega (arith, there.number)));
          size = length-set rows k row ∙ t.size;
          each = λ x l. at x l (ℕ_discrete x k);
        }
      where
        there : ModuleThere (sheet_in bs) k p
        there = tabled_there

        ms : List Module
        ms = (sheet_in bs).modules

        at : (x : ℕ) → x < 8 → Dec (x ≡ k) → RowOf (get_or (take (k + 1) ms) x absent) (get_or (set rows k row) x no_row)
        at x l (yes q) =
            let inside : k < length rows = omega (arith, t.size) in
            rw (q, get_or-take (k + 1) ms k absent (omega arith), get_or-set_same rows k row no_row inside) (this k there)
        at x l (no q) = rw (add-one k, take_other absent ms k x q, get_or-set_other rows k x row no_row q) (t.each x l)

  pub tabled_passed : k ≡ length (sheet_in bs).modules → RowsOf (sheet_in bs) rows
  tabled_passed e =
      let ms : List Module = (sheet_in bs).modules in
      record { size = t.size; each = λ x l. rw (take-length ms) at (rw (e) at (t.each x l)) }

  -- at EN, and where the table is full
  pub tabled_all : (get_or bs p 0 ≡ 77 → ⊥) → RowsOf (sheet_in bs) rows
  tabled_all q = tabled_passed (pick (ℕ_discrete k (length (sheet_in bs).modules)))
    where
      pick : Dec (k ≡ length (sheet_in bs).modules) → k ≡ length (sheet_in bs).modules
      pick (yes e) = e
      pick (no e) = let few : k ≤ length (sheet_in bs).modules = t.few in absurd (q (rw t.place (module_first bs t.accepted t.bytes k (omega arith))))

  pub tabled_full : 8 ≤ k → RowsOf (sheet_in bs) rows
  tabled_full l = tabled_passed (omega (arith, t.few, t.eight))
