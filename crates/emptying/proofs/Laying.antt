-- The numbers of the kept modes, laid end to end: each mode's stand from its start to the next. Assumes nothing.
use mathlib.Core.Path.{◌≡◌, refl, sym, ◌∙◌, ap}
use mathlib.Core.Bool.{Bool, true, false, cond}
use mathlib.Core.List.{List, [], ◌++◌}
use Prim.Native.Nat.{ℕ, ◌+◌, ◌-◌, ◌*◌, ◌≤◌, ◌<◌}
use native.Mathlib.Nat.{le_refl, sub_self}
use native.Mathlib.Omega.{arith}
use lib.ListN.{length, get_or, take, drop, set, replicate, length-set, length-take}
use lib.Seq.{get_or-set_same, get_or-set_other, length-take-le, take-length, take-take, take-add, take_at, drop_at, paste, length-paste, take-paste, slice}
use borrow.Author.Count.{below_more}
use borrow.Rule.Slice.PartMut.{mid_len}
use Rattle.model.specs.Sheet.{Module}
use Rattle.model.specs.Run.{mode_at}
use Rattle.model.proofs.Runs.{mode_rule}
use Rattle.model.proofs.Flat.{length_task_numbers}
use Rattle.layers.specs.declared.Shape.{Shape}
use Rattle.layers.specs.Step.{look, tasks_of}
use Rattle.layers.specs.Layer.{ModeTold, Tells}
use Rattle.emptying.specs.Kept.{kept_tasks, Between}

-- What is read of one mode.

-- a mode's part has at most 64 numbers
part_short : {s : Shape} {numbers : List ℕ} → Tells s numbers → (k : ℕ) → k < s.modes → look s.starts (k + 1) ≤ look s.starts k + 64
part_short {s} {numbers} t k h =
    let m : Module = t.owner in
    let told : ModeTold m s numbers k = t.told.each k h in
    let long : length (tasks_of s numbers k) ≡ look s.starts (k + 1) - look s.starts k = mid_len (look s.starts k) (look s.starts (k + 1)) numbers told.within in
    omega (arith, long, ap length told.tasks, length_task_numbers (mode_at m k).tasks, (mode_rule m t.rule k (omega (arith, t.told.modes))).count)

-- where reading ends: before the first number where the mode is not kept
abbrev end_of : Shape → ℕ → Bool → ℕ
end_of s k b = cond b (look s.starts (k + 1)) (look s.starts k)

-- the numbers from the start of the mode k to the place to are those that are kept of it
pub record Read (s : Shape) (numbers : List ℕ) (kept : List Bool) (k to : ℕ) : Type 0 where
  pub up : look s.starts k ≤ to
  pub within : to ≤ length numbers
  pub short : length (take (to - look s.starts k) (drop (look s.starts k) numbers)) ≤ 64
  pub part : take (to - look s.starts k) (drop (look s.starts k) numbers) ≡ kept_tasks s numbers kept k

pub read : {s : Shape} {numbers : List ℕ} → Tells s numbers → (kept : List Bool) (k : ℕ) → k < s.modes → (to : ℕ) → to ≡ end_of s k (get_or kept k false) → Read s numbers kept k to
unfolding kept_tasks
read {s} {numbers} t kept k h to e = record {
  up = omega (arith, e, (ends (get_or kept k false)).0);
  within = omega (arith, e, (ends (get_or kept k false)).1, told.within);
  short = omega (arith, e, (ends (get_or kept k false)).1, part_short t k h, length-take (to - a) (drop a numbers));
  part = rw e (whole (get_or kept k false));
}
  where
    a : ℕ
    a = look s.starts k

    told : ModeTold t.owner s numbers k
    told = t.told.each k h

    ends : (b : Bool) → (look s.starts k ≤ end_of s k b) × (end_of s k b ≤ look s.starts (k + 1))
    ends true = (told.up, omega arith)
    ends false = (omega arith, told.up)

    whole : (b : Bool) → take (end_of s k b - look s.starts k) (drop (look s.starts k) numbers) ≡ cond b (tasks_of s numbers k) []
    whole true = refl
    whole false = rw (sub_self (look s.starts k))

-- What is written of one mode, behind the modes before it.

-- a part, with what lies behind it cut off first
part_slice : (a e : ℕ) (l : List ℕ) → a ≤ e → a ≤ length l → take (e - a) (drop a l) ≡ slice a e l
part_slice a e l up h =
    let n : ℕ = e - a in
    let q : a + n ≡ e = omega arith in
    sym (ap (λ (x : ℕ). slice a x l) (sym q) ∙ ap (drop a) (take-add a n l) ∙ drop_at (take a l) (take n (drop a l)) a (length-take-le a l h))

-- the numbers ns are put into out from the place at on
module _ (out ns : List ℕ) (at : ℕ) (fits : at + length ns ≤ length out) where
  abbrev after : List ℕ
  after = paste out at ns (length ns)

  after_length : length after ≡ length out
  after_length = length-paste out at ns (length ns) fits (le_refl (length ns))

  after_front : take (at + length ns) after ≡ take at out ++ take (length ns) ns
  after_front = take-paste out at ns (length ns) (omega arith) (le_refl (length ns))

  at_long : length (take at out) ≡ at
  at_long = length-take-le at out (omega arith)

  -- a part that ends there or before is as it was
  before_same : (a e : ℕ) → a ≤ e → e ≤ at → take (e - a) (drop a after) ≡ take (e - a) (drop a out)
  before_same a e up h =
      let same : take at after ≡ take at out = sym (take-take at (at + length ns) after (omega arith)) ∙ ap (take at) after_front ∙ take_at (take at out) (take (length ns) ns) at at_long in
      let front : take e after ≡ take e out = sym (take-take e at after h) ∙ ap (take e) same ∙ take-take e at out h in
      part_slice a e after up (omega (arith, after_length)) ∙ ap (drop a) front ∙ sym (part_slice a e out up (omega arith))

  -- from there on stand the numbers
  put_there : take (at + length ns - at) (drop at after) ≡ ns
  put_there =
      part_slice at (at + length ns) after (omega arith) (omega (arith, after_length)) ∙ ap (drop at) after_front ∙ drop_at (take at out) (take (length ns) ns) at at_long ∙ take-length ns

-- The modes one after another.

-- the kept numbers of the modes below j are laid, and end at the place at
pub record Laid (s : Shape) (numbers : List ℕ) (kept : List Bool) (starts out : List ℕ) (at j : ℕ) : Type 0 where
  pub modes : s.modes ≤ 8
  pub size : length starts ≡ 9
  pub long : length out ≡ 512
  pub most : at ≤ 64 * j
  pub end : look starts j ≡ at
  pub each : (k : ℕ) → k < j → (look starts (k + 1) ≤ at) × Between starts out k (kept_tasks s numbers kept k)

pub laid_none : {s : Shape} {numbers : List ℕ} {kept : List Bool} {out : List ℕ} → Tells s numbers → length out ≡ 512 → Laid s numbers kept (replicate 9 0) out 0 0
laid_none t long = record { modes = omega (arith, t.told.modes, t.rule.most); size = refl; long = long; most = omega arith; end = refl; each = λ k h. absurd (omega arith) }

pub laid_more : {s : Shape} {numbers : List ℕ} {kept : List Bool} {starts out : List ℕ} {at j : ℕ} → Laid s numbers kept starts out at j → j < s.modes
    → (ns : List ℕ) → ns ≡ kept_tasks s numbers kept j → length ns ≤ 64 → (r : ℕ) → r ≡ at + length ns → (out' : List ℕ) → out' ≡ paste out at ns (length ns)
    → Laid s numbers kept (set starts (j + 1) r) out' r (j + 1)
laid_more {s} {numbers} {kept} {starts} {out} {at} {j} l h ns same short r e out' q = record {
  modes = l.modes;
  size = length-set starts (j + 1) r ∙ l.size;
  long = ap length q ∙ after_length out ns at fits ∙ l.long;
  most = omega (arith, l.most);
  end = now;
  each = below_more (λ k. (look (set starts (j + 1) r) (k + 1) ≤ r) × Between (set starts (j + 1) r) out' k (kept_tasks s numbers kept k)) j before here;
}
  where
    fits : at + length ns ≤ length out
    fits = omega (arith, l.modes, l.most, l.long)

    now : look (set starts (j + 1) r) (j + 1) ≡ r
    now = get_or-set_same starts (j + 1) r 0 (omega (arith, l.modes, l.size))

    old : (k : ℕ) → k < j + 1 → look (set starts (j + 1) r) k ≡ look starts k
    old k i = get_or-set_other starts (j + 1) k r 0 (omega arith)

    here : (look (set starts (j + 1) r) (j + 1) ≤ r) × Between (set starts (j + 1) r) out' j (kept_tasks s numbers kept j)
    here =
        let start : look (set starts (j + 1) r) j ≡ at = old j (omega arith) ∙ l.end in
        let there : take (r - at) (drop at out') ≡ kept_tasks s numbers kept j = rw (e, q) (put_there out ns at fits ∙ same) in
        (omega (arith, now), record { up = omega (arith, now); within = omega (arith, now, ap length q, after_length out ns at fits); tasks = rw (now, start) there })

    before : (k : ℕ) → k < j → (look (set starts (j + 1) r) (k + 1) ≤ r) × Between (set starts (j + 1) r) out' k (kept_tasks s numbers kept k)
    before k i =
        let was : Between starts out k (kept_tasks s numbers kept k) = (l.each k i).1 in
        let end : look starts (k + 1) ≤ at = (l.each k i).0 in
        let there = before_same out ns at fits (look starts k) (look starts (k + 1)) was.up end ∙ was.tasks in
        let start : look (set starts (j + 1) r) k ≡ look starts k = old k (omega arith) in
        let next : look (set starts (j + 1) r) (k + 1) ≡ look starts (k + 1) = old (k + 1) (omega arith) in
        (omega arith, record { up = omega (arith, was.up); within = omega (arith, was.within, ap length q, after_length out ns at fits); tasks = rw (start, next, q) there })

pub laid_all : {s : Shape} {numbers : List ℕ} {kept : List Bool} {starts out : List ℕ} {at j : ℕ} → Laid s numbers kept starts out at j → s.modes ≤ j → (k : ℕ) → k < s.modes
    → Between starts out k (kept_tasks s numbers kept k)
laid_all l h k i = (l.each k (omega arith)).1
