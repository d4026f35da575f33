-- The row of each round names the modes that are reached in so many rounds, of whichever module the shape tells. Assumes nothing.
use mathlib.Core.Path.{◌≡◌, refl, sym, ◌∙◌, ap₂}
use mathlib.Core.Bool.{Bool, true, false, ◌&&◌, ◌||◌}
use mathlib.Core.List.{List}
use Prim.Native.Nat.{ℕ, ◌+◌, ◌*◌, ◌≤◌, ◌<◌}
use native.Mathlib.Decide.{dec_lt}
use native.Mathlib.Numerals.{add-one}
use native.Mathlib.Omega.{arith}
use borrow.Author.Tests.{ne_eqb}
use lib.Dec.{eqb}
use lib.ListN.{length, get_or, set, replicate}
use Rattle.model.specs.Limits.{max_modes}
use Rattle.model.specs.Sheet.{Module, named}
use Rattle.model.specs.Run.{mode_at}
use Rattle.model.specs.Demand.{reached_in, reached}
use Rattle.model.proofs.Rounds.{named_switch, switch_named}
use Rattle.layers.specs.declared.Shape.{Shape}
use Rattle.layers.specs.Step.{lists}
use Rattle.layers.specs.Layer.{Told}
use Rattle.reach.specs.Names.{listed_by, in_round, Names, NamesReached}
use Rattle.reach.proofs.Rows.{any_same, names_none, names_more}

-- What the shape lists is what the module's modes list.

-- two tests of which each is true where the other is
same_test : (a b : Bool) → (a ≡ true → b ≡ true) → (b ≡ true → a ≡ true) → a ≡ b
same_test true b f g = sym (f refl)
same_test false true f g = g refl
same_test false false f g = refl

-- at 8 * k + t: whether the mode k of the module lists the mode t
pub record Lists (m : Module) (modes : ℕ) (listed : List Bool) : Type 0 where
  pub all : modes ≡ length m.modes
  pub each : (k t : ℕ) → k < modes → t < modes → get_or listed (8 * k + t) false ≡ named t (mode_at m k).switches

told_lists : {m : Module} {s : Shape} {numbers : List ℕ} → Told m s numbers → Lists m s.modes s.listed
told_lists {m} {s} told = record { all = told.modes; each = λ k t l h. same_test _ _ (there k t l h) (back k t l) }
  where
    there : (k t : ℕ) → k < s.modes → t < s.modes → lists s k t ≡ true → named t (mode_at m k).switches ≡ true
    there k t l h e = let (w, i, target, p) = (told.each k l).only t h e in rw target at (switch_named w (mode_at m k).switches i)

    back : (k t : ℕ) → k < s.modes → named t (mode_at m k).switches ≡ true → lists s k t ≡ true
    back k t l e = let (w, i, target) = named_switch t (mode_at m k).switches e in rw target at ((told.each k l).listed w i).0

-- The rounds.

-- the row after n rounds, of whichever module's modes list so
pub record After (modes : ℕ) (listed : List Bool) (n : ℕ) (row : List Bool) : Type 0 where
  pub few : n ≤ modes
  pub names : (m : Module) → Lists m modes listed → Names modes (reached_in m n) row

-- before the first round: mode 0
pub after_none : {modes : ℕ} {listed : List Bool} → 1 ≤ modes → After modes listed 0 (set (replicate max_modes false) 0 true)
unfolding reached_in
after_none {modes} l = record { few = omega arith; names = λ m same. record { size = start.size; each = λ k i. pick k (dec_lt k 1); past = λ k i. start.past k (omega arith) } }
  where
    start : Names 1 (λ k. eqb k 0) (set (replicate max_modes false) 0 true)
    start = names_more (names_none _) (omega arith) true refl

    pick : (k : ℕ) → Dec (k < 1) → get_or (set (replicate max_modes false) 0 true) k false ≡ eqb k 0
    pick k (yes i) = start.each k i
    pick k (no i) = start.past k (omega arith) ∙ sym (ne_eqb k 0 (λ e. omega arith))

pub after_more : {modes : ℕ} {listed : List Bool} {n : ℕ} {row r : List Bool} → After modes listed n row → n < modes → Names modes (in_round listed modes row) r → After modes listed (n + 1) r
unfolding reached_in listed_by
after_more {modes} {listed} {n} {row} {r} a l h = record { few = omega arith; names = λ m same. record { size = h.size; each = step m same; past = h.past } }
  where
    step : (m : Module) → Lists m modes listed → (k : ℕ) → k < modes → get_or r k false ≡ reached_in m (n + 1) k
    step m same k i =
        let was = (a.names m same).each in
        rw (add-one n, sym same.all) (h.each k i ∙ ap₂ ◌||◌ (was k i) (any_same _ _ modes (λ j b. ap₂ ◌&&◌ (was j b) (same.each j k b i))))

-- as many rounds as there are modes
pub after_all : {s : Shape} {n : ℕ} {row : List Bool} → After s.modes s.listed n row → s.modes ≤ n → NamesReached s row
unfolding reached
after_all {s} {n} {row} a l numbers m rule told =
    let all : length m.modes ≡ n = omega (arith, told.modes) in
    let r = a.names m (told_lists told) in
    record { size = r.size; each = λ k i. rw all (r.each k i); past = r.past }
