-- Of the pieces of one size of a list of bytes, the first ones that begin with a letter. Assumes nothing.
use mathlib.Core.Path.{◌≡◌, sym, ◌∙◌}
use mathlib.Core.List.{List}
use Prim.Native.Nat.{ℕ, ◌+◌, ◌*◌, ◌-◌, ◌<◌}
use native.Mathlib.Nat.{add-zero}
use native.Mathlib.Omega.{arith}
use lib.ListN.{length, get_or}
use denote.Ref.{Bor}
use Rattle.std.specs.List.{IsSubsliceAt}
use Rattle.std.specs.Option.{IfSome, MatchOption, option_map}
use Rattle.std.specs.declared.option.Option.{Option}
use Rattle.std.specs.declared.option.Option.TheVariants.{Some, None}
use Rattle.std.specs.Slice.Iter.{chunk_count}
use Rattle.std.proofs.Common.{rules}
use Rattle.std.proofs.Math.Nat.{lt-div-mul-add, mul-le-mul_left}

-- the piece of the number k
abbrev pub Piece : ℕ → List ℕ → ℕ → Bor (List ℕ) → Type 0
Piece n xs k x = (0 < length x.now) × (k * n < length xs) × IsSubsliceAt n xs (k * n) x.now

module _ (n letter k : ℕ) (xs : List ℕ) (size : 0 < n) where
  first_of : (x : Bor (List ℕ)) → Piece n xs k x → get_or x.now 0 0 ≡ get_or xs (k * n) 0
  first_of x s = rw (add-zero (k * n)) at (s.2.2 0 0 size)

  pub piece_here : (o : Option (Bor (List ℕ))) (w : Bor (List ℕ)) → option_map (λ y. y) o ≡ Some w → IfSome o (Piece n xs k) → IfSome o (λ x. get_or x.now 0 0 ≡ letter)
      → (k * n < length xs) × (get_or xs (k * n) 0 ≡ letter)
  piece_here None w e s t = absurd (search rules)
  piece_here (Some x) w e s t = (s.1, sym (first_of x s) ∙ t)

  -- k pieces are all
  pieces_end : k ≡ chunk_count (length xs) n → k * n < length xs → ⊥
  pieces_end e l = grind (arith, lt-div-mul-add {a = length xs + n - 1} size, mul-le-mul_left)

  pub piece_ends : (o : Option (Bor (List ℕ))) {Last : Type 0} {Next : Bor (List ℕ) → Type 0} → MatchOption o Last Next → (Last → k ≡ chunk_count (length xs) n) → ((x : Bor (List ℕ)) → Next x → get_or x.now 0 0 ≡ letter → ⊥)
      → IfSome o (Piece n xs k) → k * n < length xs → get_or xs (k * n) 0 ≡ letter → ⊥
  piece_ends None m all other s l h = pieces_end (all m) l
  piece_ends (Some x) m all other s l h = other x m (first_of x s ∙ h)
