-- Counting the tasks and the switches of the mode at a place by the first bytes of their records. Assumes nothing.
use mathlib.Core.Path.{◌≡◌, sym, ◌∙◌, ap}
use mathlib.Core.List.{List}
use Prim.Native.Nat.{ℕ, ◌+◌, ◌-◌, ◌*◌, ◌≤◌, ◌<◌}
use native.Mathlib.Decide.{dec_lt}
use native.Mathlib.Omega.{arith}
use lib.ListN.{length, get_or, take, drop, length-drop}
use lib.Seq.{take_all, get_or-drop}
use Rattle.std.proofs.Math.Nat.{mul-lt-mul_of_pos_left, mul_comm}
use mir.Syntax.{w8}
use mir.Val.{Fits}
use Rattle.model.specs.Sheet.{module_at}
use Rattle.model.specs.Run.{mode_at}
use Rattle.format.specs.Judgement.{sheet_in, Accepted}
use Rattle.format.specs.Refusal.{AreBytes}
use Rattle.format.specs.Place.{mode_bytes}
use Rattle.place.specs.There.{ModeThere, SomeMode}
use Rattle.place.proofs.Standing.{task_first, tasks_end, switch_first, switches_end, mode_within}

-- the elements of a byte slice are bytes
pub are_bytes : (bs : List ℕ) → ((i : ℕ) → Fits w8 (get_or bs i 0)) → AreBytes bs
are_bytes bs h i = (h i).fits

-- what stands from a place on, as a part of a slice
abbrev tail : ℕ → List ℕ → List ℕ
tail from bs = take (length bs - from) (drop from bs)

-- From a place on n records of one size begin with the letter, and the next does not. Where m are known to, n is m.
module _ (bs : List ℕ) (from size letter n m : ℕ) (positive : 0 < size)
    (here : (i : ℕ) → i < n → (i * size < length (tail from bs)) × (get_or (tail from bs) (i * size) 0 ≡ letter))
    (ends : n * size < length (tail from bs) → get_or (tail from bs) (n * size) 0 ≡ letter → ⊥)
    (within : from + size * m < length bs) (known : (i : ℕ) → i < m → get_or bs (from + size * i) 0 ≡ letter) (end : get_or bs (from + size * m) 0 ≡ letter → ⊥) where
  is_drop : tail from bs ≡ drop from bs
  is_drop = take_all (length bs - from) (drop from bs) (omega (arith, length-drop from bs))

  at_place : (i : ℕ) → get_or (tail from bs) (i * size) 0 ≡ get_or bs (from + size * i) 0
  at_place i = rw is_drop (get_or-drop from bs (i * size) 0 ∙ ap (λ x. get_or bs (from + x) 0) (mul_comm i size))

  pub counted : n ≡ m
  counted = pick (dec_lt n m) (dec_lt m n)
    where
      pick : Dec (n < m) → Dec (m < n) → n ≡ m
      pick (yes a) b = let room : n * size < length (tail from bs) = omega (arith, ap length is_drop, length-drop from bs, mul_comm n size, mul-lt-mul_of_pos_left a positive) in absurd (ends room (at_place n ∙ known n a))
      pick (no a) (yes b) = absurd (end (sym (at_place m) ∙ (here m b).1))
      pick (no a) (no b) = omega arith

module _ (bs : List ℕ) (accepted : Accepted bs) (bytes : AreBytes bs) (p : ℕ) (some : SomeMode (sheet_in bs) p) where
  -- the mode at p and a record behind it are within the bytes
  pub some_within : p + mode_bytes (mode_at (module_at (sheet_in bs) some.k) some.j) + 4 ≤ length bs
  some_within = rw some.there.place (mode_within bs accepted bytes some.k some.there.number some.j some.there.mode)

  -- the records from the place of the tasks on that begin with T are the tasks
  pub tasks_counted : (n : ℕ) → ((i : ℕ) → i < n → (i * 10 < length (tail (p + 4) bs)) × (get_or (tail (p + 4) bs) (i * 10) 0 ≡ 84)) → (n * 10 < length (tail (p + 4) bs) → get_or (tail (p + 4) bs) (n * 10) 0 ≡ 84 → ⊥)
      → (k j : ℕ) → ModeThere (sheet_in bs) k j p → n ≡ length (mode_at (module_at (sheet_in bs) k) j).tasks
  tasks_counted n here ends k j h =
      counted bs (p + 4) 10 84 n _ (omega arith) here ends
      (omega (arith, h.place, mode_within bs accepted bytes k h.number j h.mode))
      (λ i l. rw h.place (task_first bs accepted bytes k h.number j h.mode i l))
      (λ e. let e' = rw h.place at e in omega (arith, e', tasks_end bs accepted bytes k h.number j h.mode))

  -- the records from q on, where the switches begin, that begin with S are the switches
  pub switches_counted : (q : ℕ) → ((k j : ℕ) → ModeThere (sheet_in bs) k j p → q ≡ p + 4 + 10 * length (mode_at (module_at (sheet_in bs) k) j).tasks)
      → (n : ℕ) → ((i : ℕ) → i < n → (i * 6 < length (tail q bs)) × (get_or (tail q bs) (i * 6) 0 ≡ 83)) → (n * 6 < length (tail q bs) → get_or (tail q bs) (n * 6) 0 ≡ 83 → ⊥)
      → (k j : ℕ) → ModeThere (sheet_in bs) k j p → n ≡ length (mode_at (module_at (sheet_in bs) k) j).switches
  switches_counted q behind n here ends k j h =
      counted bs q 6 83 n _ (omega arith) here ends
      (omega (arith, behind k j h, h.place, mode_within bs accepted bytes k h.number j h.mode))
      (λ i l. rw (behind k j h, h.place) (switch_first bs accepted bytes k h.number j h.mode i l))
      (λ e. let e' = rw (behind k j h, h.place) at e in omega (arith, e', switches_end bs accepted bytes k h.number j h.mode))

  -- the n switches, which begin at q, are within the bytes
  pub switches_within : (q n : ℕ) → ((k j : ℕ) → ModeThere (sheet_in bs) k j p → q ≡ p + 4 + 10 * length (mode_at (module_at (sheet_in bs) k) j).tasks)
      → ((k j : ℕ) → ModeThere (sheet_in bs) k j p → n ≡ length (mode_at (module_at (sheet_in bs) k) j).switches) → q + 6 * n ≤ length bs
  switches_within q n behind count = omega (arith, behind some.k some.j some.there, count some.k some.j some.there, some_within)
