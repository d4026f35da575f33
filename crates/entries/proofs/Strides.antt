-- A switch of a mode that has an entry stays open in strides of its period for ever; and at tick 0 only mode 0 has an entry, at a later tick
-- each entry comes from an earlier one that leads to it. Assumes nothing.
use mathlib.Core.Path.{◌≡◌, refl}
use mathlib.Core.List.{Memᴰ}
use Prim.Native.Nat.{ℕ, zero, suc, ◌+◌, ◌-◌, ◌*◌, ◌/◌, ◌≤◌, ◌<◌}
use native.Mathlib.Nat.{add-mul, one-le-mul, lt_of_mul-lt-mul_right, div-add-mod'}
use native.Mathlib.Decide.{dec_le}
use native.Mathlib.Omega.{arith}
use lib.ListN.{length}
use Rattle.model.specs.Sheet.{Switch, Module}
use Rattle.model.specs.WellFormed.{ModuleRule}
use Rattle.model.specs.Run.{mode_at}
use Rattle.model.proofs.Runs.{switch_rule, period_positive}
use Rattle.entries.specs.Entry.{Entry, begins, Leads}
use Rattle.entries.proofs.Reaches.{positive_factor, entry_listed}

pub entry_led : (m : Module) (j e k t : ℕ) → Entry m j e → Leads m j e k t → Entry m k t
entry_led m j e k t x (Leads.again p q) = rw p (Entry.again e x q)
entry_led m j e k t x (Leads.switched i w l p one fits q) = Entry.switched j e i w x l p one fits q

module _ (m : Module) (ok : ModuleRule m) where
  -- A stride that does not end inside the stay is one after the restart, with as many strides less as the mode period has; for at most n strides.
  strides : (n j k e i : ℕ) (w : Switch) → i ≤ n → Entry m j e → Memᴰ w (mode_at m j).switches → w.target ≡ k → 1 ≤ i → Entry m k (e + i * w.period)
  strides zero j k e i w h x l p one = absurd (omega arith)
  strides (suc n) j k e i w h x l p one = pick (dec_le (i * w.period) (mode_at m j).period) (λ fewer some. strides n j k (e + (mode_at m j).period) (i - c) w fewer (Entry.again e x refl) l p some)
    where
      c : ℕ
      c = (mode_at m j).period / w.period

      whole : c * w.period ≡ (mode_at m j).period
      whole = omega (arith, div-add-mod' (mode_at m j).period w.period, (switch_rule m ok j w l).divides)

      pick : Dec (i * w.period ≤ (mode_at m j).period) → (i - c ≤ n → 1 ≤ i - c → Entry m k (e + (mode_at m j).period + (i - c) * w.period)) → Entry m k (e + i * w.period)
      pick (yes fits) below = Entry.switched j e i w x l p one fits refl
      pick (no far) below =
          let some : 1 ≤ c = positive_factor c w.period (omega (arith, whole, period_positive m ok j)) in
          let more : c < i = lt_of_mul-lt-mul_right w.period (omega (arith, whole)) in
          let split : c + (i - c) ≡ i = omega arith in
          let q : e + i * w.period ≡ e + (mode_at m j).period + (i - c) * w.period = omega (arith, whole, rw split at (add-mul c (i - c) w.period)) in
          rw q (below (omega arith) (omega arith))

  pub entry_stride : (j k e : ℕ) (w : Switch) → Entry m j e → Memᴰ w (mode_at m j).switches → w.target ≡ k → (i : ℕ) → 1 ≤ i → Entry m k (e + i * w.period)
  entry_stride j k e w x l p i = strides i j k e i w (omega arith) x l p

  -- Entries, tick by tick.

  pub leads_later : (j e k t : ℕ) → j < length m.modes → Leads m j e k t → e < t
  leads_later j e k t h (Leads.again p q) = omega (arith, period_positive m ok j)
  leads_later j e k t h (Leads.switched i w l p one fits q) = omega (arith, one-le-mul one (switch_rule m ok j w l).positive)

  pub entry_first : (k : ℕ) → Entry m k 0 → k ≡ 0
  entry_first k (begins p q) = p
  entry_first k (Entry.again e x q) = absurd (omega (arith, period_positive m ok k))
  entry_first k (Entry.switched j e i w x l p one fits q) = absurd (omega (arith, leads_later j e k 0 (entry_listed m ok j e x) (Leads.switched i w l p one fits q)))

  pub entry_earlier : (k t : ℕ) → Entry m k t → 1 ≤ t → (j : ℕ) × (e : ℕ) × (e < t) × Entry m j e × Leads m j e k t
  entry_earlier k t x h = from x
    where
      led : (j e : ℕ) → Entry m j e → Leads m j e k t → (j : ℕ) × (e : ℕ) × (e < t) × Entry m j e × Leads m j e k t
      led j e x s = (j, e, leads_later j e k t (entry_listed m ok j e x) s, x, s)

      from : Entry m k t → (j : ℕ) × (e : ℕ) × (e < t) × Entry m j e × Leads m j e k t
      from (begins p q) = absurd (omega arith)
      from (Entry.again e x q) = led k e x (Leads.again refl q)
      from (Entry.switched j e i w x l p one fits q) = led j e x (Leads.switched i w l p one fits q)
