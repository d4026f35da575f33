-- Writing the numbers of the tasks of the mode at a place, one after the other. Assumes nothing.
use mathlib.Core.Path.{◌≡◌, sym, ◌∙◌}
use mathlib.Core.List.{List}
use Prim.Native.Nat.{ℕ, ◌+◌, ◌*◌, ◌/◌, ◌%◌, ◌≤◌, ◌<◌}
use native.Mathlib.Omega.{arith}
use lib.ListN.{length, set, take}
use lib.Seq.{take-length}
use Rattle.model.specs.Sheet.{Task, module_at}
use Rattle.model.specs.Run.{mode_at}
use Rattle.format.specs.Record.{field_at}
use Rattle.format.specs.Judgement.{sheet_in, Accepted}
use Rattle.format.specs.Refusal.{AreBytes}
use Rattle.place.specs.There.{ModeThere, SomeMode}
use Rattle.place.proofs.Counting.{some_within}
use Rattle.model.specs.Flat.{task_numbers}
use Rattle.model.proofs.Flat.{length_task_numbers}
use Rattle.table.specs.Numbers.{Written}
use Rattle.table.proofs.Numbering.{tasks_few, number_there}
use Rattle.table.proofs.Filling.{written_none, written_more}

abbrev tasks_of : List ℕ → ℕ → ℕ → List Task
tasks_of bs k j = (mode_at (module_at (sheet_in bs) k) j).tasks

-- of the n numbers of the mode at p the first i stand from the place at on
pub record Put (bs : List ℕ) (p at n : ℕ) (before after : List ℕ) (i : ℕ) : Type 0 where
  pub small : n ≤ 64
  pub fours : n % 4 ≡ 0
  pub within : p + 4 + 10 * (n / 4) ≤ length bs
  pub all : (k j : ℕ) → ModeThere (sheet_in bs) k j p → n ≡ 4 * length (tasks_of bs k j)
  pub each : (k j : ℕ) → ModeThere (sheet_in bs) k j p → Written at (take i (task_numbers (tasks_of bs k j))) before after

pub tasks_small : (bs : List ℕ) → Accepted bs → (p t : ℕ) → SomeMode (sheet_in bs) p → ((k j : ℕ) → ModeThere (sheet_in bs) k j p → t ≡ length (tasks_of bs k j)) → t ≤ 16
tasks_small bs accepted p t some e =
    let there : ModeThere (sheet_in bs) some.k some.j p = some.there in
    omega (arith, e some.k some.j there, tasks_few bs accepted some.k there.number some.j there.mode)

pub put_none : (bs : List ℕ) → Accepted bs → AreBytes bs → (p at t : ℕ) (before : List ℕ) → SomeMode (sheet_in bs) p → ((k j : ℕ) → ModeThere (sheet_in bs) k j p → t ≡ length (tasks_of bs k j)) → Put bs p at (4 * t) before before 0
put_none bs accepted bytes p at t before some e =
    record {
      small = omega (arith, tasks_small bs accepted p t some e);
      fours = omega arith;
      within = omega (arith, e some.k some.j some.there, some_within bs accepted bytes p some);
      all = λ k j h. omega (arith, e k j h);
      each = λ k j h. written_none at (task_numbers (tasks_of bs k j)) before;
    }

module _ {bs : List ℕ} {p at n : ℕ} {before after : List ℕ} {i : ℕ} (w : Put bs p at n before after i) where
  pub put_more : Accepted bs → AreBytes bs → at + 64 ≤ length before → i < n → (v : ℕ) → v ≡ field_at bs (p + 6 + 10 * (i / 4) + 2 * (i % 4)) → Put bs p at n before (set after (at + i) v) (i + 1)
  put_more accepted bytes room l v e = record { small = w.small; fours = w.fours; within = w.within; all = w.all; each = next }
    where
      next : (k j : ℕ) → ModeThere (sheet_in bs) k j p → Written at (take (i + 1) (task_numbers (tasks_of bs k j))) before (set after (at + i) v)
      next k j h =
          let ks : List Task = tasks_of bs k j in
          let inside : i < 4 * length ks = omega (arith, w.all k j h) in
          let long : n ≡ length (task_numbers ks) = w.all k j h ∙ sym (length_task_numbers ks) in
          let some-room : at + length (task_numbers ks) ≤ length before = omega (arith, w.small) in
          written_more at i (task_numbers ks) before after (w.each k j h) (omega arith) some-room v (e ∙ number_there bs accepted bytes k j p h i inside)

  pub put_all : i ≡ n → (k j : ℕ) → ModeThere (sheet_in bs) k j p → Written at (task_numbers (tasks_of bs k j)) before after
  put_all l k j h =
      let ks : List Task = tasks_of bs k j in
      let e : i ≡ length (task_numbers ks) = omega (arith, w.all k j h, length_task_numbers ks) in
      rw (e, take-length (task_numbers ks)) at (w.each k j h)
