-- The walk over the ticks: from the first mark to the marks of all entries, of whichever module the numbers tell. Assumes nothing.
use mathlib.Core.Path.{◌≡◌, refl, sym, ap, ◌∙◌, subst}
use mathlib.Core.Bool.{true}
use mathlib.Core.List.{List}
use mathlib.Core.Logic.{⊎_elim}
use Prim.Native.Nat.{ℕ, zero, suc, ◌+◌, ◌*◌, ◌/◌, ◌%◌, ◌^◌, ◌≤◌, ◌<◌}
use native.Mathlib.Decide.{dec_lt}
use native.Mathlib.Nat.{zero-div}
use native.Mathlib.Omega.{arith}
use lib.ListN.{length, get_or}
use borrow.Author.Tests.{eqb-true}
use Rattle.model.specs.Sheet.{Module}
use Rattle.model.specs.WellFormed.{ModuleRule}
use Rattle.model.specs.Run.{mode_at}
use Rattle.model.proofs.Runs.{switch_rule}
use Rattle.memory.specs.Map.{mark_row_numbers, mark_row_ticks, mark_numbers}
use Rattle.entries.specs.Entry.{Entry, begins, Leads}
use Rattle.entries.proofs.Reaches.{entry_listed}
use Rattle.entries.proofs.Strides.{entry_led, entry_first, entry_earlier}
use Rattle.layers.specs.declared.Shape.{Shape}
use Rattle.layers.specs.Step.{Cleared}
use Rattle.layers.specs.Layer.{Told}
use Rattle.layers.proofs.Layers.{told_ready}
use Rattle.marks.specs.Marks.{marked}
use Rattle.marks.specs.Marking.{Marking, Follows, again, switched, Tick, Walkable, Walked, Inside, Followed, Kept, Entered}
use Rattle.marks.proofs.Markings.{follows_later, walked_kept, tick_later, tick_same}

-- the numbers that tell a module can be walked
pub told_walkable : (m : Module) (s : Shape) (numbers : List ℕ) {h : ℕ} → h ≤ 2000 → ModuleRule m → Told m s numbers → Walkable s h
told_walkable m s numbers most rule told =
    let r = told_ready m rule s numbers told in
    record { most = most; few = r.few; positive = λ k h. (r.each k h).positive; switches = λ k j h i l. (r.each k h).switches j i l }

-- The numbers behind the rows, step after step.

pub kept_more : {P : ℕ → ℕ → Type 0} {w w' w'' : List ℕ} → Kept w w' → Marking P w' w'' → Kept w w''
kept_more K A = record { len = A.len ∙ K.len; above = λ x h. A.above x h ∙ K.above x h }

-- Where no number is set nothing is marked.

blank : (w w' : List ℕ) → Cleared mark_numbers w w' → (k t : ℕ) → k < 8 → t < mark_row_ticks → marked w' k t ≡ true → ⊥
blank w w' c k t hk ht o =
    let z : get_or w' (mark_row_numbers * k + t / 32) 0 ≡ 0 = c.zeros (mark_row_numbers * k + t / 32) (omega arith) in
    let q : 0 / 2 ^ (t % 32) % 2 ≡ 1 = ap (λ (v : ℕ). v / 2 ^ (t % 32) % 2) (sym z) ∙ eqb-true _ _ o in
    omega (arith, zero-div (2 ^ (t % 32)))

pub followed_start : (s : Shape) (h : ℕ) (w w' w'' : List ℕ) → 1 ≤ s.modes → h ≤ 2000 → mark_numbers ≤ length w → Cleared mark_numbers w w' → Marking (λ j x. (j ≡ 0) × (x ≡ 0)) w' w'' → Followed s h 0 w''
followed_start s h w w' w'' some most room c A = record {
  walked = record { room = record { within = omega arith; numbers = omega (arith, A.len, c.len) }; closed = λ k e j x i l. absurd (omega arith) };
  first = A.new 0 0 (omega arith) (omega arith) (refl, refl);
  inside = λ k t i l o. let (a, b) = alone k t i l o in (omega arith, omega arith);
  sound = λ m numbers rule told k t i l o. let (a, b) = alone k t (omega (arith, rule.most)) (omega arith) o in begins a b;
}
  where
    alone : (k t : ℕ) → k < 8 → t < mark_row_ticks → marked w'' k t ≡ true → (k ≡ 0) × (t ≡ 0)
    alone k t i l o = ⊎_elim (λ z. absurd (blank w w' c k t i l z)) (λ z. z) (A.only k t i l o)

-- By the numbers a mode leads to what it leads to in the module that they tell.

module _ (m : Module) (s : Shape) (numbers : List ℕ) (rule : ModuleRule m) (told : Told m s numbers) (h k t j x : ℕ) (in_module : k < s.modes) where
  follows_leads : Follows s h k t j x → Leads m k t j x
  follows_leads (again a b c) = Leads.again a (omega (arith, (told.each k in_module).period))
  follows_leads (switched o) =
      let (w, member, target, same) = (told.each k in_module).only j o.target o.listed in
      let r = o.stride in
      Leads.switched r.count w member target r.some
      (subst (λ (q : ℕ). r.count * q ≤ (mode_at m k).period) (sym same) (omega (arith, r.fits, (told.each k in_module).period)))
      (subst (λ (q : ℕ). x ≡ t + r.count * q) (sym same) r.reached)

  leads_follows : x ≤ h → Leads m k t j x → Follows s h k t j x
  leads_follows l (Leads.again a b) = again a (omega (arith, (told.each k in_module).period)) l
  leads_follows l (Leads.switched i w member target some fits reached) = let (listed, same) = (told.each k in_module).listed w member in switched (rw (sym target) (record {
    target = omega (arith, told.modes, (switch_rule m rule k w member).there);
    listed = listed;
    within = l;
    stride = record { count = i; some = some; fits = rw same (omega (arith, (told.each k in_module).period)); reached = rw same reached };
  }))

-- The marks that a tick leads to bring the walk to the next.

module _ (s : Shape) (h n : ℕ) (ok : Walkable s h) {w w' : List ℕ} (i : n < h) (A : Marking (Tick s h n s.modes w) w w') where
  walked_more : Walked s h n w → Walked s h (n + 1) w'
  walked_more W = record { room = record { within = omega arith; numbers = K.room.numbers }; closed = closed }
    where
      K : Walked s h n w'
      K = walked_kept _ ok (λ j x a. omega (arith, tick_later s h n ok s.modes w (omega arith) j x a)) A W

      closed : (k e j x : ℕ) → k < s.modes → e < n + 1 → marked w' k e ≡ true → Follows s h k e j x → marked w' j x ≡ true
      closed k e j x l b o f = pick (dec_lt e n)
        where
          pick : Dec (e < n) → marked w' j x ≡ true
          pick (yes a) = K.closed k e j x l a o f
          pick (no a) =
              let same : e ≡ n = omega arith in
              let (there, later, within) = follows_later s h k e j x ok l f in
              let on : marked w k n ≡ true = tick_same s h n ok (omega (arith, ok.most)) s.modes (omega arith) A k (omega (arith, ok.few)) (rw same at o) in
              A.new j x (omega (arith, ok.few)) (omega (arith, ok.most)) (record { mode = k; there = l; on = on; follows = rw same at f })

  pub followed_more : Followed s h n w → Followed s h (n + 1) w'
  followed_more F = record { walked = walked_more F.walked; first = A.old 0 0 (omega arith) (omega arith) F.first; inside = inside; sound = sound }
    where
      inside : Inside s h w'
      inside k x i l o = ⊎_elim (F.inside k x i l) (λ z. let (there, later, within) = follows_later s h z.mode n k x ok z.there z.follows in (there, within)) (A.only k x i l o)

      sound : (m : Module) (numbers : List ℕ) → ModuleRule m → Told m s numbers → (k x : ℕ) → k < length m.modes → x ≤ h → marked w' k x ≡ true → Entry m k x
      sound m numbers rule told k x l b o =
          ⊎_elim
          (λ z. F.sound m numbers rule told k x l b z)
          (λ z. entry_led m z.mode n k x (F.sound m numbers rule told z.mode n (omega (arith, told.modes, z.there)) (omega arith) z.on) (follows_leads m s numbers rule told h z.mode n k x z.there z.follows))
          (A.only k x (omega (arith, rule.most)) (omega (arith, ok.most)) o)

-- At the horizon all entries are marked: each comes from one before it.

module _ (s : Shape) (h : ℕ) (w : List ℕ) (F : Followed s h h w) (m : Module) (numbers : List ℕ) (rule : ModuleRule m) (told : Told m s numbers) where
  entry_marked : (k t : ℕ) → t ≤ h → Entry m k t → ((j e : ℕ) → e < t → Entry m j e → marked w j e ≡ true) → marked w k t ≡ true
  entry_marked k zero l x earlier = rw (entry_first m rule k x) F.first
  entry_marked k (suc t) l x earlier =
      let (j, e, b, y, leads) = entry_earlier m rule k (suc t) x (omega arith) in
      let there : j < s.modes = omega (arith, told.modes, entry_listed m rule j e y) in
      F.walked.closed j e k (suc t) there (omega arith) (earlier j e b y) (leads_follows m s numbers rule told h j e k (suc t) there l leads)

  entries_marked : (n k t : ℕ) → t < n → t ≤ h → Entry m k t → marked w k t ≡ true
  entries_marked zero k t i l x = absurd (omega arith)
  entries_marked (suc n) k t i l x = entry_marked k t l x (λ j e b y. entries_marked n j e (omega arith) (omega arith) y)

pub entered : (s : Shape) (h : ℕ) {P : ℕ → ℕ → Type 0} {w w' w'' end : List ℕ} → Cleared mark_numbers w w' → Marking P w' w'' → Kept w'' end → Followed s h h end → Entered s h w end
entered s h {end = end} c A K F = record {
  len = K.len ∙ A.len ∙ c.len;
  above = λ x l. K.above x l ∙ A.above x l ∙ c.above x l;
  marks = λ m numbers rule told. record { sound = F.sound m numbers rule told; complete = λ k t l. entries_marked s h end F m numbers rule told (suc t) k t (omega arith) l };
  inside = F.inside;
}
