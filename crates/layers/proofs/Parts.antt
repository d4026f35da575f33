-- The part of one mode in the layer: what stands where in the part, and in the layer once the part is back; and the parts one after another. Assumes nothing.
use mathlib.Core.Path.{◌≡◌, refl, sym, ap, ◌∙◌, subst}
use mathlib.Core.List.{List, ◌++◌}
use Prim.Native.Nat.{ℕ, ◌+◌, ◌-◌, ◌≤◌, ◌<◌}
use native.Mathlib.Decide.{dec_lt}
use native.Mathlib.Omega.{arith}
use lib.ListN.{length, take, drop, set, get_or-append}
use lib.Seq.{get_or-take, get_or-drop, get_or-append-add, length-take-le, get_or-set_same, get_or-set_other}
use borrow.Rule.Slice.PartMut.{put_mid, mid_of, post_of, mid_len, same_len_mid, drop_put}
use Rattle.layers.specs.declared.Shape.{Shape}
use Rattle.layers.specs.Step.{look, total, period, tasks_of, Moved, stepped, step_at, Stepped, Cleared}
use Rattle.layers.proofs.Sums.{sum_more, sum_before}

-- the part from a on, of p numbers
module _ (w : List ℕ) (a p : ℕ) (fits : a + p ≤ length w) where
  pub part_length : length (mid_of a (a + p - a) w) ≡ p
  part_length = mid_len a (a + p) w fits ∙ omega arith

  pub part_look : (d : ℕ) → d < p → look (mid_of a (a + p - a) w) d ≡ look w (a + d)
  part_look d h = get_or-take (a + p - a) (drop a w) d 0 (omega arith) ∙ get_or-drop a w d 0

  pub back_below : (ys : List ℕ) (x : ℕ) → x < a → look (put_mid a (a + p - a) w ys) x ≡ look w x
  back_below ys x h =
      let l : length (take a w) ≡ a = length-take-le a w (omega arith) in
      get_or-append (take a w) (ys ++ post_of a (a + p - a) w) 0 x (omega arith) ∙ get_or-take a w x 0 h

  pub back_here : (ys : List ℕ) → length ys ≡ p → (d : ℕ) → d < p → look (put_mid a (a + p - a) w ys) (a + d) ≡ look ys d
  back_here ys e d h =
      let l : length (take a w) ≡ a = length-take-le a w (omega arith) in
      ap (λ (n : ℕ). look (put_mid a (a + p - a) w ys) (n + d)) (sym l) ∙ get_or-append-add (take a w) (ys ++ post_of a (a + p - a) w) d 0
      ∙ get_or-append ys (post_of a (a + p - a) w) 0 d (omega arith)

  pub back_above : (ys : List ℕ) → length ys ≡ p → (x : ℕ) → a + p ≤ x → look (put_mid a (a + p - a) w ys) x ≡ look w x
  back_above ys e x h =
      let y : ℕ = x - (a + p) in
      let q : a + p + y ≡ x = omega arith in
      ap (look (put_mid a (a + p - a) w ys)) (sym q) ∙ sym (get_or-drop (a + p) (put_mid a (a + p - a) w ys) y 0)
      ∙ ap (λ (l : List ℕ). look l y) (drop_put a (a + p) w ys (omega arith) fits (omega arith)) ∙ get_or-drop (a + p) w y 0 ∙ ap (look w) q

module _ (s : Shape) (numbers heads : List ℕ) (l n : ℕ) where
  -- what the step of one mode makes of its part
  abbrev Step : ℕ → ℕ → ℕ → ℕ
  Step k = stepped s.modes s.listed s.every k (tasks_of s numbers k) heads l n

  -- the part of the mode k is one step further, and nothing else has changed
  pub record Replaced (k : ℕ) (w w' : List ℕ) : Type 0 where
    pub len : length w' ≡ length w
    pub here : (x : ℕ) → x < period s k → look w' (total s.periods k + x) ≡ step_at s numbers heads l n w k x
    pub below : (x : ℕ) → x < total s.periods k → look w' x ≡ look w x
    pub above : (x : ℕ) → total s.periods k + period s k ≤ x → look w' x ≡ look w x

  -- a part that is renewed, and is back, has taken the place of the part before
  pub replaced : (k : ℕ) (w ys : List ℕ) (a : ℕ) → a ≡ total s.periods k → a + period s k ≤ length w
      → Moved (Step k) (mid_of a (a + period s k - a) w) ys → Replaced k w (put_mid a (a + period s k - a) w ys)
  replaced k w ys a e fits r = record {
    len = same_len_mid a (a + p - a) w ys r.len;
    here = λ x h. rw (sym e) (back_here w a p fits ys (r.len ∙ size) x h ∙ r.each x (omega (arith, size)) ∙ ap (Step k x) (part_look w a p fits x h));
    below = λ x h. back_below w a p fits ys x (omega arith);
    above = λ x h. back_above w a p fits ys (r.len ∙ size) x (omega arith);
  }
    where
      p : ℕ
      p = period s k

      size : length (mid_of a (a + period s k - a) w) ≡ period s k
      size = part_length w a (period s k) fits

  -- The parts one after another.

  pub stepped_start : (w : List ℕ) → Stepped s numbers heads l n 0 w w
  stepped_start w = record { len = refl; each = λ k x h. absurd (omega arith); above = λ x h. refl }

  -- the step of the next part sees it as it was
  pub step_same : (k : ℕ) (w w' : List ℕ) → Stepped s numbers heads l n k w w' → (x : ℕ) → step_at s numbers heads l n w' k x ≡ step_at s numbers heads l n w k x
  step_same k w w' done x = ap (Step k x) (done.above (total s.periods k + x) (omega arith))

  pub stepped_more : (k : ℕ) (w w' w'' : List ℕ) → Stepped s numbers heads l n k w w' → Replaced k w' w'' → Stepped s numbers heads l n (k + 1) w w''
  stepped_more k w w' w'' done new = record {
    len = new.len ∙ done.len;
    each = λ j x h i. pick j x h i (dec_lt j k);
    above = λ x h. new.above x (omega (arith, sum_more (look s.periods) k)) ∙ done.above x (omega (arith, sum_more (look s.periods) k));
  }
    where
      pick : (j x : ℕ) → j < k + 1 → x < period s j → Dec (j < k) → look w'' (total s.periods j + x) ≡ step_at s numbers heads l n w j x
      pick j x h i (yes a) = new.below (total s.periods j + x) (omega (arith, sum_before (look s.periods) j k a)) ∙ done.each j x a i
      pick j x h i (no a) = let same : j ≡ k = omega arith in last j same x i
        where
          last : (j : ℕ) → j ≡ k → (x : ℕ) → x < period s j → look w'' (total s.periods j + x) ≡ step_at s numbers heads l n w j x
          last j e = rw e (λ x i. new.here x i ∙ step_same k w w' done x)

-- a list that is filled from the front, one number more
pub filled : (f : ℕ → ℕ) (xs : List ℕ) (n v : ℕ) → n < length xs → v ≡ f n → ((k : ℕ) → k < n → look xs k ≡ f k) → (k : ℕ) → k < n + 1 → look (set xs n v) k ≡ f k
filled f xs n v h e all k l = pick (dec_lt k n)
  where
    pick : Dec (k < n) → look (set xs n v) k ≡ f k
    pick (yes a) = get_or-set_other xs n k v 0 (omega arith) ∙ all k a
    pick (no a) = let same : k ≡ n = omega arith in rw same (get_or-set_same xs n v 0 h ∙ e)

-- The first numbers become 0.

pub cleared_at : (k n : ℕ) {w w' : List ℕ} → k ≡ n → Cleared k w w' → Cleared n w w'
cleared_at k n {w} {w'} e h = subst (λ (x : ℕ). Cleared x w w') e h
