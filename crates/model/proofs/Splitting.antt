-- Which ticks of a mode period split an instance: over instances and over rests the same, and no mode is left or begun again at one. Assumes nothing.
use mathlib.Core.Path.{◌≡◌, sym, ◌∙◌, ap}
use mathlib.Core.List.{Memᴰ}
use Prim.Native.Nat.{ℕ, ◌+◌, ◌-◌, ◌*◌, ◌/◌, ◌%◌, ◌≤◌, ◌<◌}
use native.Mathlib.Nat.{mod-lt, mod-le, mod-eq_of_lt, mod-add-mod, mod-add-div, add-mul-mod_self_left, zero-mod}
use native.Mathlib.Decide.{dec_lt}
use native.Mathlib.Omega.{arith}
use Rattle.model.specs.Sheet.{Task, Kind, SW, SX, Switch, Module}
use Rattle.model.specs.WellFormed.{TaskRule, Splits, Multiple, KindRule, ModuleRule}
use Rattle.model.specs.Run.{mode_at}
use Rattle.model.proofs.Division.{rest_of}
use Rattle.model.proofs.Lists.{all_mem}
use Rattle.model.proofs.Runs.{rule_at, task_rule, switch_rule}

-- a multiple of a multiple is one
multiple_of : (x p q : ℕ) → x % p ≡ 0 → p % q ≡ 0 → x % q ≡ 0
multiple_of x p q e divides = sym (rest_of x p q divides) ∙ ap (λ (y : ℕ). y % q) e ∙ zero-mod q

-- the rest that x leaves, divided by the task period, is not strictly between offset and offset + LET
abbrev pub Unsplit : Task → ℕ → Type 0
Unsplit k x = k.offset < x % k.period → k.offset + k.LET ≤ x % k.period

module _ {period : ℕ} (k : Task) (rule : TaskRule period k) where
  -- n ticks after a release, before the task's period is over, the rest is n greater
  pub rest_after : (r n : ℕ) → r % k.period ≡ k.offset → n < k.LET → (r + n) % k.period ≡ k.offset + n
  rest_after r n e l = sym (mod-add-mod r k.period n) ∙ ap (λ (y : ℕ). (y + n) % k.period) e ∙ mod-eq_of_lt (omega (arith, rule.within))

  -- A tick that splits an instance leaves a rest strictly between offset and offset + LET ..
  pub split_rest : (x : ℕ) → Splits period k x → (k.offset < x % k.period) × (x % k.period < k.offset + k.LET)
  split_rest x s =
      let n : ℕ = x - s.release in
      let same : s.release + n ≡ x = omega (arith, s.after) in
      let rest : x % k.period ≡ k.offset + n = rw same at (rest_after s.release n s.released (omega (arith, s.after, s.before))) in
      omega (arith, rest, s.after, s.before)

  -- .. and one up to the mode period that leaves such a rest splits an instance.
  pub rest_split : (x : ℕ) → x ≤ period → k.offset < x % k.period → x % k.period < k.offset + k.LET → Splits period k x
  rest_split x most after before =
      let r : ℕ = k.offset + k.period * (x / k.period) in
      let whole : x % k.period + k.period * (x / k.period) ≡ x = mod-add-div x k.period in
      record {
        release = r;
        in_period = omega (arith, whole);
        released = add-mul-mod_self_left k.offset k.period (x / k.period) ∙ mod-eq_of_lt (omega (arith, rule.within));
        after = omega (arith, whole);
        before = omega (arith, whole);
      }

  -- No multiple of a switch period leaves such a rest, be the switch of one kind or the other.
  unsplit : (kind : Kind) (p : ℕ) → 1 ≤ period → period % p ≡ 0 → KindRule kind period p k → (x : ℕ) → x % p ≡ 0 → Unsplit k x
  unsplit SW p least divides h x e l = absurd (omega (arith, multiple_of x p k.period e h))
  unsplit SX p least divides h x e l = pick (dec_lt (x % k.period) (k.offset + k.LET))
    where
      -- the same tick of the mode period
      y : ℕ
      y = x % period

      same : y % k.period ≡ x % k.period
      same = rest_of x period k.period rule.divides

      multiple : Multiple period p y
      multiple = record { positive = omega (arith, same, mod-le y k.period); most = omega (arith, mod-lt x least); whole = rest_of x period p divides ∙ e }

      pick : Dec (x % k.period < k.offset + k.LET) → k.offset + k.LET ≤ x % k.period
      pick (no u) = omega arith
      pick (yes u) = absurd (h y multiple (rest_split y (omega (arith, mod-lt x least)) (rw same l) (rw same u)))

-- Where a mode begins again or is left no instance of it is split.
module _ (m : Module) (ok : ModuleRule m) (j : ℕ) (k : Task) (in-mode : Memᴰ k (mode_at m j).tasks) where
  pub end_unsplit : Unsplit k (mode_at m j).period
  end_unsplit l = absurd (omega (arith, (task_rule m ok j k in-mode).divides))

  pub switch_unsplit : (w : Switch) → Memᴰ w (mode_at m j).switches → (x : ℕ) → x % w.period ≡ 0 → Unsplit k x
  switch_unsplit w i =
      let r = switch_rule m ok j w i in
      unsplit k (task_rule m ok j k in-mode) w.kind w.period (rule_at m ok j).least r.divides (all_mem _ k (mode_at m j).tasks r.tasks in-mode)
