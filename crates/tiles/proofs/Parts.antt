-- A part of the working memory that is lent and comes back: what it then holds, and that nothing outside it has changed. Assumes nothing.
use mathlib.Core.Path.{◌≡◌, refl, sym, ap, ◌∙◌}
use mathlib.Core.List.{List, ◌++◌}
use Prim.Native.Nat.{ℕ, ◌+◌, ◌-◌, ◌≤◌, ◌<◌}
use native.Mathlib.Omega.{arith}
use lib.ListN.{length, take, drop, length-take, length-drop}
use lib.Seq.{length-take-le, take_at, drop_at, get_or-take, get_or-drop, ext_get_or}
use borrow.Rule.Slice.PartMut.{put_mid, post_of, same_len_mid}
use Rattle.layers.specs.Step.{look}
use Rattle.layers.proofs.Parts.{part_length, back_below, back_above}
use Rattle.tiles.specs.Tiles.{Within}

-- the part of p numbers from a on
abbrev part : ℕ → ℕ → List ℕ → List ℕ
part a p w = take p (drop a w)

-- however long the memory is
pub part_look : (a p : ℕ) (w : List ℕ) (d : ℕ) → d < p → look (part a p w) d ≡ look w (a + d)
part_look a p w d h = get_or-take p (drop a w) d 0 h ∙ get_or-drop a w d 0

module _ {a e : ℕ} {w w' : List ℕ} (rest : Within a e w w') where
  part_same : (b p : ℕ) → ((d : ℕ) → d < p → look w' (b + d) ≡ look w (b + d)) → part b p w' ≡ part b p w
  part_same b p same =
      ext_get_or 0 (part b p w') (part b p w) (simp (length-take, length-drop) (omega arith))
      (λ d h. let l : d < p = omega (arith, length-take p (drop b w')) in part_look b p w' d l ∙ same d l ∙ sym (part_look b p w d l))

  -- a part before what has changed, and one behind it
  pub part_before : (b p : ℕ) → b + p ≤ a → part b p w' ≡ part b p w
  part_before b p h = part_same b p (λ d l. rest.below (b + d) (omega arith))

  pub part_behind : (b p : ℕ) → e ≤ b → part b p w' ≡ part b p w
  part_behind b p h = part_same b p (λ d l. rest.above (b + d) (omega arith))

  pub within_wider : (b f : ℕ) → b ≤ a → e ≤ f → Within b f w w'
  within_wider b f h l = record { len = rest.len; below = λ x i. rest.below x (omega arith); above = λ x i. rest.above x (omega arith) }

  pub within_then : {w'' : List ℕ} → Within a e w' w'' → Within a e w w''
  within_then on = record { len = on.len ∙ rest.len; below = λ x i. on.below x i ∙ rest.below x i; above = λ x i. on.above x i ∙ rest.above x i }

pub within_none : (a e : ℕ) (w : List ℕ) → Within a e w w
within_none a e w = record { len = refl; below = λ x h. refl; above = λ x h. refl }

-- the part is back with ys in it
module _ (a p : ℕ) (w ys : List ℕ) (fits : a + p ≤ length w) (size : length ys ≡ p) where
  pub put_within : Within a (a + p) w (put_mid a (a + p - a) w ys)
  put_within = record { len = same_len_mid a (a + p - a) w ys (size ∙ sym (part_length w a p fits)); below = back_below w a p fits ys; above = back_above w a p fits ys size }

  pub put_part : part a p (put_mid a (a + p - a) w ys) ≡ ys
  put_part =
      ap (take p) (drop_at (take a w) (ys ++ post_of a (a + p - a) w) a (length-take-le a w (omega arith)))
      ∙ take_at ys (post_of a (a + p - a) w) p size
