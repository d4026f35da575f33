-- What the walks offer: over the ticks that are marked, over the mode times at which a task is released, and over what offers one after another. Assumes nothing.
use mathlib.Core.Path.{◌≡◌, refl, sym, ◌∙◌}
use mathlib.Core.Bool.{Bool, true, false}
use mathlib.Core.List.{List}
use Prim.Native.Nat.{ℕ, ◌+◌, ◌-◌, ◌%◌, ◌≤◌, ◌<◌, max}
use native.Mathlib.Nat.{mod-eq_of_lt}
use native.Mathlib.Decide.{dec_lt}
use native.Mathlib.Omega.{arith}
use lib.ListN.{length, set}
use Rattle.layers.specs.Step.{look}
use Rattle.layers.proofs.Walks.{skips}
use Rattle.marks.specs.Marks.{marked}
use Rattle.figures.specs.Offers.{Ends, tile_ends, Took, Below, TickOffer, TicksOffer, TimeOffer, TimesOffer, Quiet}
use Rattle.figures.proofs.Raises.{raised_as, raised_one, took_none, took_as, took_more, took_next, took_skip}

pub not_both : {b : Bool} → b ≡ true → b ≡ false → ⊥
not_both p q = let z : ◌≡◌ {A = ℕ} 0 1 = cc in omega arith

-- The ticks at which mode k is marked.

module _ (bits : List ℕ) (k lo width far n : ℕ) (w : List ℕ) where
  abbrev Tick : ℕ → ℕ → ℕ → Type 0
  Tick = TickOffer bits k lo far n

  abbrev tile : Ends
  tile = tile_ends lo width

  pub ticks_more : (e r at x : ℕ) (w' : List ℕ) → width ≤ length w → e + far < lo + width → Quiet bits k e r → r ≡ 0 → lo + at ≡ e + far → x ≡ max (look w' at) n
      → Took tile (Below Tick e) w w' → Took tile (Below Tick (e + 1)) w (set w' at x)
  ticks_more e r at x w' room high quiet z here q done = took_next tile Tick w e w' (set w' at x) done one
    where
      one : Took tile (Tick e) w' (set w' at x)
      one = raised_as _ _ _ _
          (λ i v h p. (i, omega (arith, p.0), refl, record { marked = quiet.some z; ends = omega (arith, p.0); value = p.1 }))
          (λ i v h p. (omega (arith, p.2, p.3.ends), p.3.value))
          (raised_one w' at n x (omega (arith, done.len)) q)

  pub ticks_skip : (e r : ℕ) (w' : List ℕ) → Quiet bits k e r → Took tile (Below Tick e) w w' → Took tile (Below Tick (e + r)) w w'
  ticks_skip e r w' quiet = took_skip tile Tick w e r w' (λ x i v low high h p. no x low high p.marked)
    where
      no : (x : ℕ) → e ≤ x → x < e + r → marked bits k x ≡ true → ⊥
      no x low high y = not_both y (let same : e + (x - e) ≡ x = omega arith in rw same at (quiet.none (x - e) (omega arith)))

-- The mode times of one remainder.

module _ (ends : Ends) (part bits : List ℕ) (k lo l offset every : ℕ) (w : List ℕ) where
  abbrev Time : ℕ → ℕ → ℕ → Type 0
  Time = TimeOffer part bits k lo l offset every

  pub times_start : offset < every → Took ends (Below Time offset) w w
  times_start h = took_none ends (Below Time offset) w (λ i v j p. no p.0 p.1 p.2.released)
    where
      no : (x : ℕ) → x < offset → x % every ≡ offset → ⊥
      no x j e = let less : x < every = omega arith in omega (arith, mod-eq_of_lt less)

  pub times_more : (d x : ℕ) (w' w'' : List ℕ) → d < length part → d % every ≡ offset → x ≡ (d + l) % length part → 0 < every → Took ends (Below Time d) w w'
      → Took ends (TicksOffer bits k lo (d + l) (look part x)) w' w'' → Took ends (Below Time (d + every)) w w''
  times_more d x w' w'' h e at pos done new =
      took_more ends Time w d every w' w'' pos (λ y i v low high j p. skips every d y low high (p.released ∙ sym e)) done one
    where
      one : Took ends (Time d) w' w''
      one = took_as ends _ (Time d) w' w'' (λ i v j p. record { inside = h; released = e; tick = p.0; offer = rw at at p.1 }) (λ i v j p. (p.tick, rw at p.offer)) new

  pub times_end : (d : ℕ) (w' : List ℕ) → length part ≤ d → Took ends (Below Time d) w w' → Took ends (TimesOffer part bits k lo l offset every) w w'
  times_end d w' h = took_as ends (Below Time d) _ w w' (λ i v j p. (p.0, p.2)) (λ i v j p. (p.0, omega (arith, p.1.inside), p.1))

-- no tick from a on and before t is marked
abbrev pub Unmarked : List ℕ → ℕ → ℕ → ℕ → Type 0
Unmarked bits k a t = (x : ℕ) → a ≤ x → x < t → marked bits k x ≡ false

pub unmarked_more : (bits : List ℕ) (k a t r : ℕ) → Quiet bits k t r → Unmarked bits k a t → Unmarked bits k a (t + r)
unmarked_more bits k a t r quiet before x low h = pick (dec_lt x t)
  where
    pick : Dec (x < t) → marked bits k x ≡ false
    pick (yes y) = before x low y
    pick (no y) = let same : t + (x - t) ≡ x = omega arith in rw same at (quiet.none (x - t) (omega arith))
