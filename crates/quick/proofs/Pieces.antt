-- The first length whose sum exceeds it, found among the first n lengths, is the first of all; and what is found of the sums that stand in the
-- row is found of the sheet's. Assumes nothing.
use mathlib.Core.Path.{◌≡◌, refl, sym, ap, ◌∙◌}
use mathlib.Core.Bool.{Bool, true, false}
use mathlib.Core.List.{List}
use Prim.Native.Nat.{ℕ, zero, suc, ◌+◌, ◌≤◌, ◌<◌}
use native.Mathlib.Omega.{arith}
use lib.Dec.{ltb}
use Rattle.model.specs.Sheet.{Sheet}
use Rattle.model.specs.Limits.{work_numbers}
use Rattle.model.specs.Verdict.{Quick, quick_pick, quick_from, quick_sum, quick}
use Rattle.query.specs.Memory.{Stays}
use Rattle.query.proofs.Meeting.{stays_more, stays_by}
use Rattle.layers.specs.Step.{look}
use Rattle.std.specs.Prelude.{Option, Some}
use Rattle.sums.specs.declared.Excess.{Excess}
use Rattle.sums.specs.Sums.{quick_of}
use Rattle.quick.specs.Sums.{SumsOf, Found}

-- the search looks at the n lengths from L on alone
quick_from_same : (f g : ℕ → ℕ) (n L : ℕ) → ((K : ℕ) → L ≤ K → K < L + n → f K ≡ g K) → quick_from f n L ≡ quick_from g n L
quick_from_same f g zero L e = refl
quick_from_same f g (suc n) L e = rw (e L (omega arith) (omega arith), quick_from_same f g n (suc L) (λ K h l. e K (omega arith) (omega arith)))

pub sums_found : (s : Sheet) (n : ℕ) (r : Option Excess) (w w' : List ℕ) → SumsOf s n w w' → quick_of r ≡ quick_from (look w') n 1 → Found s n r w w'
sums_found s n r w w' sums e = record {
  stays = stays_by work_numbers w w' sums.len sums.above;
  first = e ∙ quick_from_same (look w') (quick_sum s) n 1 (λ K h l. sums.sums K h (omega arith));
}

-- more lengths behind those do not change what is found
early : (f : ℕ → ℕ) (n N L K v : ℕ) → n ≤ N → quick_from f n L ≡ Quick.over K v → quick_from f N L ≡ Quick.over K v
early f zero N L K v h e = absurd (apart e)
  where
    told : Quick → ℕ
    told Quick.clear = 0
    told (Quick.over l x) = 1

    apart : Quick.clear ≡ Quick.over K v → ⊥
    apart e = let z : ◌≡◌ {A = ℕ} 0 1 = ap told e in omega arith
early f (suc n) zero L K v h e = absurd (omega arith)
early f (suc n) (suc N) L K v h e = pick (ltb L (f L)) (early f n N (suc L) K v (omega arith)) e
  where
    pick : (b : Bool) → (quick_from f n (suc L) ≡ Quick.over K v → quick_from f N (suc L) ≡ Quick.over K v)
        → quick_pick b L (f L) (quick_from f n (suc L)) ≡ Quick.over K v → quick_pick b L (f L) (quick_from f N (suc L)) ≡ Quick.over K v
    pick true later e = e
    pick false later e = later e

module _ (s : Sheet) where
  pub found_early : (n N : ℕ) (x : Excess) (w w' : List ℕ) → n ≤ N → Found s n (Some x) w w' → Found s N (Some x) w w'
  found_early n N x w w' h found = record { stays = found.stays; first = sym (early (quick_sum s) n N 1 x.length x.demand h (sym found.first)) }

  pub found_all : (n : ℕ) (r : Option Excess) (w w' : List ℕ) → n ≡ s.horizon → Found s n r w w' → quick_of r ≡ quick s
  unfolding quick
  found_all n r w w' e found = rw e at found.first

  -- from the memory before a search that found nothing
  pub found_behind : (n : ℕ) (r : Option Excess) (w w' w'' : List ℕ) → Stays work_numbers w w' → Found s n r w' w'' → Found s n r w w''
  found_behind n r w w' w'' before found = record { stays = stays_more before found.stays; first = found.first }
