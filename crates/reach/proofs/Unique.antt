-- Each row is the only one that meets its contract. (What `is_reached` ensures is an equation: nothing is left to show.) Assumes nothing.
use mathlib.Core.Path.{◌≡◌, sym, ◌∙◌}
use mathlib.Core.Bool.{Bool, false}
use mathlib.Core.List.{List}
use Prim.Native.Nat.{ℕ, ◌<◌}
use native.Mathlib.Decide.{dec_lt}
use native.Mathlib.Omega.{arith}
use lib.ListN.{get_or}
use lib.Seq.{ext_get_or}
use Rattle.layers.specs.declared.Shape.{Shape}
use Rattle.layers.specs.Layer.{Tells}
use Rattle.reach.specs.Names.{Names, NamesReached}

-- round
pub names_unique : {n : ℕ} {f : ℕ → Bool} {r r' : List Bool} → Names n f r → Names n f r' → r ≡ r'
names_unique {n} {f} {r} {r'} h h' = ext_get_or false r r' (h.size ∙ sym h'.size) (λ k l. pick k (dec_lt k n))
  where
    pick : (k : ℕ) → Dec (k < n) → get_or r k false ≡ get_or r' k false
    pick k (yes l) = h.each k l ∙ sym (h'.each k l)
    pick k (no l) = h.past k (omega arith) ∙ sym (h'.past k (omega arith))

-- reached_modes
pub reached_unique : {s : Shape} {numbers : List ℕ} → Tells s numbers → (r r' : List Bool) → NamesReached s r → NamesReached s r' → r ≡ r'
reached_unique {s} {numbers} t r r' h h' = names_unique (h numbers t.owner t.rule t.told) (h' numbers t.owner t.rule t.told)
