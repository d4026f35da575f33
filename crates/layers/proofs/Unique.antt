-- Each result, and each layer that is left, is the only one that meets its contract. (Where a contract is an equation, nothing is left to show.) Assumes nothing.
use mathlib.Core.Path.{◌≡◌, sym, ◌∙◌}
use mathlib.Core.List.{List}
use Prim.Native.Nat.{ℕ, zero, suc, ◌+◌, ◌-◌, ◌%◌, ◌≤◌, ◌<◌}
use native.Mathlib.Decide.{dec_lt}
use native.Mathlib.Omega.{arith}
use lib.ListN.{length}
use lib.Seq.{ext_get_or}
use Rattle.model.specs.Sheet.{Module}
use Rattle.model.specs.Run.{State}
use Rattle.layers.specs.declared.Shape.{Shape}
use Rattle.layers.specs.Step.{sum_below, look, total, period, Cleared}
use Rattle.layers.specs.Layer.{Holds, Told, Tells, Each, IsLayer, Advanced, Steppable, SteppedBy}
use Rattle.layers.proofs.Turns.{turn_back}
use Rattle.layers.proofs.Layers.{held_told, found_holds}

-- memory that came as w, and of which all but the first n numbers stay, is the same where these are
pub memory_unique : (n : ℕ) (w u v : List ℕ) → length u ≡ length w → length v ≡ length w → ((x : ℕ) → n ≤ x → look u x ≡ look w x) → ((x : ℕ) → n ≤ x → look v x ≡ look w x)
    → ((x : ℕ) → x < n → look u x ≡ look v x) → u ≡ v
memory_unique n w u v len len' above above' same = ext_get_or 0 u v (len ∙ sym len') (λ x h. pick x (dec_lt x n))
  where
    pick : (x : ℕ) → Dec (x < n) → look u x ≡ look v x
    pick x (yes l) = same x l
    pick x (no l) = above x (omega arith) ∙ sym (above' x (omega arith))

-- clear
pub cleared_unique : {n : ℕ} {w u v : List ℕ} → Cleared n w u → Cleared n w v → u ≡ v
cleared_unique {n} {w} {u} {v} g h = memory_unique n w u v g.len h.len g.above h.above (λ x l. g.zeros x l ∙ sym (h.zeros x l))

-- heads: the results agree at the module's modes
pub heads_unique : (s : Shape) (n : ℕ) (w r r' : List ℕ) → ((k : ℕ) → k < s.modes → look r k ≡ look w (total s.periods k + n % period s k))
    → ((k : ℕ) → k < s.modes → look r' k ≡ look w (total s.periods k + n % period s k)) → (k : ℕ) → k < s.modes → look r k ≡ look r' k
heads_unique s n w r r' e e' k h = e k h ∙ sym (e' k h)

-- what is said to be f of each module that the numbers tell, where they tell one
pub each_unique : {A : Type 0} {s : Shape} {numbers : List ℕ} → Tells s numbers → (f : Module → A) (r r' : A) → Each s numbers (λ m. r ≡ f m) → Each s numbers (λ m. r' ≡ f m) → r ≡ r'
each_unique t f r r' e e' = e t.owner t.rule t.told ∙ sym (e' t.owner t.rule t.told)

-- Layers.

-- what holds throughout parts that are laid end to end holds below their sum
all_parts : (P : ℕ → Type 0) (p : ℕ → ℕ) (n : ℕ) → ((k y : ℕ) → k < n → y < p k → P (sum_below p k + y)) → (x : ℕ) → x < sum_below p n → P x
all_parts P p zero each x l = absurd (omega arith)
all_parts P p (suc n) each x l = pick (dec_lt x (sum_below p n)) (all_parts P p n (λ k y h. each k y (omega arith)) x)
  where
    pick : Dec (x < sum_below p n) → (x < sum_below p n → P x) → P x
    pick (yes a) below = below a
    pick (no a) below = let e : sum_below p n + (x - sum_below p n) ≡ x = omega arith in rw e at (each n (x - sum_below p n) (omega arith) (omega arith))

-- memory that came as w and holds f of the module's states, and of which all past these stays
pub holds_unique : {m : Module} {s : Shape} {numbers : List ℕ} → Told m s numbers → {n : ℕ} {f : State → ℕ} (w u v : List ℕ) → length u ≡ length w → length v ≡ length w
    → ((x : ℕ) → total s.periods s.modes ≤ x → look u x ≡ look w x) → ((x : ℕ) → total s.periods s.modes ≤ x → look v x ≡ look w x) → Holds m n f u → Holds m n f v → u ≡ v
holds_unique {m} {s} {numbers} told {n} {f} w u v len len' above above' g h =
    memory_unique (total s.periods s.modes) w u v len len' above above' (all_parts (λ x. look u x ≡ look v x) (look s.periods) s.modes same)
  where
    same : (k y : ℕ) → k < s.modes → y < period s k → look u (total s.periods k + y) ≡ look v (total s.periods k + y)
    same k y l i =
        let t = turn_back (period s k) n y i in
        rw (sym t.2) (held_told m s numbers told n f u g k t.0 l t.1 ∙ sym (held_told m s numbers told n f v h k t.0 l t.1))

-- advance_by: of the states w holds what stands there
pub stepped_by_unique : {s : Shape} {numbers : List ℕ} {l n : ℕ} {w u v : List ℕ} → Steppable s numbers w → SteppedBy s numbers l n w u → SteppedBy s numbers l n w v → u ≡ v
stepped_by_unique {s} {numbers} {l} {n} {w} {u} {v} can g h =
    let held = found_holds can.owner can.rule s numbers can.told n w can.room in
    holds_unique can.told w u v g.len h.len g.above h.above (g.holds can.owner can.rule can.told _ held) (h.holds can.owner can.rule can.told _ held)

-- advance
pub advanced_unique : {s : Shape} {numbers : List ℕ} {L : ℕ} {w u v : List ℕ} → IsLayer s numbers L w → Advanced s numbers L w u → Advanced s numbers L w v → u ≡ v
advanced_unique {s} {numbers} {L} {w} {u} {v} is g h =
    holds_unique is.told w u v g.len h.len g.above h.above (g.layer is.owner is.rule is.told is.layer) (h.layer is.owner is.rule is.told is.layer)
