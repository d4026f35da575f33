-- Looking for a switch of the mode at a place. Assumes nothing.
use mathlib.Core.Path.{◌≡◌, refl, sym, ◌∙◌, ap}
use mathlib.Core.Bool.{Bool, true, false, cond, ◌||◌}
use mathlib.Core.List.{List, [], ◌∷◌}
use Prim.Native.Nat.compare
use Prim.Native.Nat.{ℕ, zero, suc, ◌+◌, ◌*◌, ◌≤◌, ◌<◌}
use native.Mathlib.Nat.{le_of_suc-le-suc}
use native.Mathlib.Omega.{arith}
use lib.Dec.{eqb, ltb}
use Rattle.std.proofs.lemmas.Bool.{true≢false}
use lib.ListN.{length, get_or}
use borrow.Author.Tests.{eq-eqb, ne_eqb, lt-ltb}
use Rattle.model.specs.Sheet.{SW, Switch, module_at, named}
use Rattle.model.specs.Run.{mode_at}
use Rattle.format.specs.Record.{fields_of, field_at}
use Rattle.format.specs.Judgement.{sheet_in, Accepted}
use Rattle.format.specs.Refusal.{AreBytes}
use Rattle.format.specs.Place.{mode_place}
use Rattle.place.specs.There.{ModeThere}
use Rattle.place.proofs.Standing.{switch_record}
use Rattle.std.specs.Option.{MatchOption, is_some}
use Rattle.std.specs.declared.option.Option.{Option}
use Rattle.std.specs.declared.option.Option.TheVariants.{Some, None}
use Rattle.table.specs.Rows.{period_to, index_to}
use Rattle.table.specs.Found.{FirstTo}

-- The first switch that names t.

-- a switch for numbers that none has
abbrev pub none : Switch
none = record { kind = SW; target = 0; period = 0 }

pub named_index : (t : ℕ) (ws : List Switch) → named t ws ≡ ltb (index_to t ws) (length ws)
named_index t [] = refl
named_index t (w ∷ ws) = pick (eqb t w.target) (named_index t ws)
  where
    pick : (b : Bool) → named t ws ≡ ltb (index_to t ws) (length ws) → b || named t ws ≡ ltb (cond b 0 (suc (index_to t ws))) (suc (length ws))
    pick true later = sym (lt-ltb 0 (suc (length ws)) (omega arith))
    pick false later = simp compare.suc-suc later

pub period_index : (t : ℕ) (ws : List Switch) → period_to t ws ≡ (get_or ws (index_to t ws) none).period
period_index t [] = refl
period_index t (w ∷ ws) = pick (eqb t w.target) (period_index t ws)
  where
    pick : (b : Bool) → period_to t ws ≡ (get_or ws (index_to t ws) none).period → cond b w.period (period_to t ws) ≡ (get_or (w ∷ ws) (cond b 0 (suc (index_to t ws))) none).period
    pick true later = refl
    pick false later = later

named_none : (t : ℕ) (ws : List Switch) → ((i : ℕ) → i < length ws → (get_or ws i none).target ≡ t → ⊥) → named t ws ≡ false
named_none t [] others = refl
named_none t (w ∷ ws) others =
    let other : eqb t w.target ≡ false = ne_eqb _ _ (λ e. others 0 (omega arith) (sym e)) in
    rw other (named_none t ws (λ i l. others (suc i) (omega arith)))

index_first : (t : ℕ) (ws : List Switch) (i : ℕ) → i < length ws → (get_or ws i none).target ≡ t → ((x : ℕ) → x < i → (get_or ws x none).target ≡ t → ⊥) → i ≡ index_to t ws
index_first t [] i l same others = absurd (omega arith)
index_first t (w ∷ ws) zero l same others = let here : eqb t w.target ≡ true = eq-eqb _ _ (sym same) in rw here refl
index_first t (w ∷ ws) (suc i) l same others =
    let other : eqb t w.target ≡ false = ne_eqb _ _ (λ e. others 0 (omega arith) (sym e)) in
    rw other (ap suc (index_first t ws i (le_of_suc-le-suc l) same (λ x h. others (suc x) (omega arith))))

-- The fields of the switch i of the mode at p, whose switches begin at q.
module _ (bs : List ℕ) (accepted : Accepted bs) (bytes : AreBytes bs) (p q : ℕ) (k j : ℕ) (there : ModeThere (sheet_in bs) k j p)
    (behind : q ≡ p + 4 + 10 * length (mode_at (module_at (sheet_in bs) k) j).tasks) (i : ℕ) (l : i < length (mode_at (module_at (sheet_in bs) k) j).switches) where
  at_place : (f : ℕ) → field_at bs (q + 6 * i + f) ≡ field_at bs (mode_place (sheet_in bs) k j + 4 + 10 * length (mode_at (module_at (sheet_in bs) k) j).tasks + 6 * i + f)
  at_place f = rw (behind, there.place)

  pub switch_target : field_at bs (q + 6 * i + 2) ≡ (get_or (mode_at (module_at (sheet_in bs) k) j).switches i none).target
  switch_target = at_place 2 ∙ ap (λ r. get_or (fields_of r) 0 0) (switch_record bs accepted bytes k there.number j there.mode i none l)

  pub switch_period : field_at bs (q + 6 * i + 4) ≡ (get_or (mode_at (module_at (sheet_in bs) k) j).switches i none).period
  switch_period = at_place 4 ∙ ap (λ r. get_or (fields_of r) 1 0) (switch_record bs accepted bytes k there.number j there.mode i none l)

-- What a search over the numbers of the n switches gives, which asks each for its target.
pub first_found : (bs : List ℕ) → Accepted bs → AreBytes bs → (p q n t k j : ℕ) → ModeThere (sheet_in bs) k j p → q ≡ p + 4 + 10 * length (mode_at (module_at (sheet_in bs) k) j).tasks
    → n ≡ length (mode_at (module_at (sheet_in bs) k) j).switches → (r : Option ℕ)
    → MatchOption r ((i : ℕ) → 0 ≤ i → i < n → field_at bs (q + 6 * i + 2) ≡ t → ⊥)
    (λ i. (0 ≤ i) × (i < n) × (field_at bs (q + 6 * i + 2) ≡ t) × ((x : ℕ) → 0 ≤ x → x < i → field_at bs (q + 6 * x + 2) ≡ t → ⊥))
    → FirstTo t (mode_at (module_at (sheet_in bs) k) j).switches r
first_found bs accepted bytes p q n t k j there behind count None others =
    named_none t _ (λ i l e. others i (omega arith) (omega (arith, count)) (switch_target bs accepted bytes p q k j there behind i l ∙ e))
first_found bs accepted bytes p q n t k j there behind count (Some i) found =
    let l : i < length (mode_at (module_at (sheet_in bs) k) j).switches = omega (arith, count, found.1) in (
      l,
      index_first t _ i l (sym (switch_target bs accepted bytes p q k j there behind i l) ∙ found.2)
          (λ x h e. found.3 x (omega arith) h (switch_target bs accepted bytes p q k j there behind x (omega arith) ∙ e)),
    )

-- whether one is found
pub found_named : (t : ℕ) (ws : List Switch) (r : Option ℕ) → FirstTo t ws r → is_some r ≡ named t ws
found_named t ws None e = sym e
found_named t ws (Some i) (l, e) = sym (named_index t ws ∙ lt-ltb (index_to t ws) (length ws) (omega arith))

-- The period that is read, or 0.

pub period_none : (t : ℕ) (ws : List Switch) → named t ws ≡ false → 0 ≡ period_to t ws
period_none t [] e = refl
period_none t (w ∷ ws) e = pick (eqb t w.target) (period_none t ws) e
  where
    pick : (b : Bool) → (named t ws ≡ false → 0 ≡ period_to t ws) → b || named t ws ≡ false → 0 ≡ cond b w.period (period_to t ws)
    pick true later h = absurd (true≢false h)
    pick false later h = later h

pub period_read : (bs : List ℕ) → Accepted bs → AreBytes bs → (p q k j : ℕ) → ModeThere (sheet_in bs) k j p → q ≡ p + 4 + 10 * length (mode_at (module_at (sheet_in bs) k) j).tasks
    → (t i : ℕ) → i ≡ index_to t (mode_at (module_at (sheet_in bs) k) j).switches → i < length (mode_at (module_at (sheet_in bs) k) j).switches
    → field_at bs (q + 6 * i + 4) ≡ period_to t (mode_at (module_at (sheet_in bs) k) j).switches
period_read bs accepted bytes p q k j h behind t i e l =
    let ws : List Switch = (mode_at (module_at (sheet_in bs) k) j).switches in
    switch_period bs accepted bytes p q k j h behind i l ∙ rw (e) (sym (period_index t ws))
