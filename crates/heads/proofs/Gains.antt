-- What a state of a module gains, from the tasks that the numbers tell. Assumes nothing.
use mathlib.Core.Path.{◌≡◌, refl, ◌∙◌, ap}
use mathlib.Core.List.{List, map}
use Prim.Native.Nat.{ℕ, zero, suc, ◌+◌, ◌*◌, ◌/◌, ◌%◌, ◌≤◌, ◌<◌}
use native.Mathlib.Omega.{arith}
use lib.Dec.{leb, eqb}
use mathlib.Core.Bool.{Bool, true, false, ◌&&◌}
use lib.ListN.{length}
use Rattle.std.specs.List.{sum, range_with_len}
use Rattle.std.proofs.lemmas.List.FromFn.{sum_by-map-range_with_len_more}
use Rattle.model.specs.Lists.{when}
use Rattle.model.specs.Sheet.{Module}
use Rattle.model.specs.Run.{at, gain}
use Rattle.layers.specs.declared.Shape.{Shape}
use Rattle.layers.specs.Step.{look, sum_below, tasks_of, due}
use Rattle.layers.specs.Layer.{Told}
use Rattle.layers.proofs.Nexts.{gains_are}

pub gain_told : (m : Module) (s : Shape) (numbers : List ℕ) → Told m s numbers → (k : ℕ) → k < s.modes → (l d : ℕ)
    → sum_below (due (tasks_of s numbers k) l d) (length (tasks_of s numbers k) / 4) ≡ gain m (at k d) 0 l
gain_told m s numbers told k h l d = gains_are m (tasks_of s numbers k) k (told.each k h).tasks l d

-- The sum that is taken number by number.

pub sum_range : (f : ℕ → ℕ) (n : ℕ) → sum (map f (range_with_len 0 n)) ≡ sum_below f n
sum_range f zero = refl
sum_range f (suc n) =
    let e : suc n ≡ n + 1 = omega arith in
    ap (λ (x : ℕ). sum (map f (range_with_len 0 x))) e ∙ sum_by-map-range_with_len_more (λ x. x) f 0 n n (omega arith) ∙ ap (λ (x : ℕ). x + f n) (sum_range f n)

sum_few : (f : ℕ → ℕ) (top n : ℕ) → ((i : ℕ) → f i ≤ top) → sum_below f n ≤ top * n
sum_few f top zero few = omega arith
sum_few f top (suc n) few = omega (arith, few n, sum_few f top n few)

when_le : (b : Bool) (n : ℕ) → when b n ≤ n
when_le true n = omega arith
when_le false n = omega arith

-- where each number has 16 bits
pub gains_few : (tasks : List ℕ) (l d n : ℕ) → ((x : ℕ) → look tasks x < 65536) → sum_below (due tasks l d) n ≤ 65535 * n
unfolding due
gains_few tasks l d n small = sum_few (due tasks l d) 65535 n few
  where
    few : (i : ℕ) → due tasks l d i ≤ 65535
    few i = omega (arith, when_le (leb (look tasks (4 * i + 2)) l && eqb (d % look tasks (4 * i + 3)) (look tasks (4 * i))) (look tasks (4 * i + 1)), small (4 * i + 1))
