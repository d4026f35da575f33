-- The rows and the numbers that are made from an accepted sheet tell its module to the engine; and so do those that are left of it where each mode
-- that is not reached is made idle. Assumes nothing.
use mathlib.Core.Path.{◌≡◌, refl, sym, ◌∙◌, subst}
use mathlib.Core.Bool.{Bool, false}
use mathlib.Core.List.{List, [], ◌∷◌, map, Memᴰ}
use Prim.Native.Nat.{ℕ, zero, suc, ◌+◌, ◌-◌, ◌*◌, ◌<◌}
use native.Mathlib.Nat.{le_of_suc-le-suc}
use native.Mathlib.Omega.{arith}
use lib.ListN.{length, get_or}
use Rattle.model.specs.Sheet.{Switch, Mode, Module, module_at, named}
use Rattle.model.specs.WellFormed.{ModuleRule}
use Rattle.model.specs.Run.{idle, mode_at}
use Rattle.model.specs.Demand.{reached}
use Rattle.model.specs.Emptied.{emptied, reached_part}
use Rattle.model.proofs.Lists.{all_at}
use Rattle.model.proofs.Runs.{mode_rule, switch_rule}
use Rattle.model.proofs.Rounds.{named_switch, switch_named}
use Rattle.model.proofs.Emptied.{emptied_same, emptied_rule}
use Rattle.format.specs.Judgement.{sheet_in, Accepted}
use Rattle.format.proofs.RoundTrip.{accepted_well_formed}
use Rattle.table.specs.Rows.{Row, period_at, period_to, switch_period_at, switch_listed_at}
use Rattle.table.specs.Numbers.{TasksOf}
use Rattle.table.specs.declared.Tasks.{Tasks}
use Rattle.table.proofs.Reading.{tasks_end, tasks_within, mode_tasks_lem, switch_period_at_lem, switch_listed_at_lem, switch_period}
use Rattle.layers.specs.Step.{lists, every as every_of}
use Rattle.layers.specs.Layer.{ModeTold, Told, Tells, Each}
use Rattle.layers.specs.declared.Shape.{Shape}
use Rattle.reach.specs.Names.{NamesReached}

period_of : (os : List Mode) (j : ℕ) → j < length os → get_or (map (λ (o : Mode). o.period) os) j 0 ≡ (get_or os j idle).period
period_of [] j h = absurd (omega arith)
period_of (o ∷ os) zero h = refl
period_of (o ∷ os) (suc j) h = period_of os j (le_of_suc-le-suc h)

module _ (bs : List ℕ) (accepted : Accepted bs) (k : ℕ) (number : k < length (sheet_in bs).modules) where
  abbrev told_module : Module
  told_module = module_at (sheet_in bs) k

  pub rule : ModuleRule told_module
  rule = all_at ModuleRule _ (sheet_in bs).modules (accepted_well_formed bs (sheet_in bs) accepted).modules k number

  pub tells : {s : Shape} {numbers : List ℕ} → Told told_module s numbers → Tells s numbers
  tells told = record { owner = told_module; rule = rule; told = told }

  -- The module in which each mode that is not reached is idle.

  pub told_reached : {s s' : Shape} {numbers out : List ℕ} {kept : List Bool} → Told told_module s numbers → NamesReached s kept
      → Each s numbers (λ m. Told (emptied (λ j. get_or kept j false) m) s' out) → Told (reached_part told_module) s' out
  told_reached {s} {s'} {numbers} {out} {kept} told row left =
      subst (λ (m : Module). Told m s' out)
      (emptied_same (λ j. get_or kept j false) (reached told_module) told_module (λ j h. (row numbers told_module rule told).each j (omega (arith, told.modes))))
      (left told_module rule told)

  pub reached_rule : ModuleRule (reached_part told_module)
  reached_rule = emptied_rule (reached told_module) told_module rule

  pub reached_tells : {s : Shape} {numbers : List ℕ} → Told (reached_part told_module) s numbers → Tells s numbers
  reached_tells told = record { owner = reached_part told_module; rule = reached_rule; told = told }

  -- The module itself.

  module _ (s : Shape) (r : Tasks) (modes : s.modes ≡ length told_module.modes) (starts : s.starts ≡ r.starts) (tasks : TasksOf told_module r)
      (periods : Row 0 8 (period_at told_module) s.periods) (every : Row 0 64 (switch_period_at told_module) s.every) (listed : Row false 64 (switch_listed_at told_module) s.listed) where
    few : (j : ℕ) → j < length told_module.modes → j < 8
    few j h = omega (arith, rule.most)

    -- what stands at 8 * j + t
    lists_at : (j t : ℕ) → j < length told_module.modes → t < 8 → lists s j t ≡ named t (mode_at told_module j).switches
    lists_at j t h l = listed.each (8 * j + t) (omega (arith, few j h)) ∙ switch_listed_at_lem told_module j t l

    every_at : (j t : ℕ) → j < length told_module.modes → t < 8 → every_of s j t ≡ period_to t (mode_at told_module j).switches
    every_at j t h l = every.each (8 * j + t) (omega (arith, few j h)) ∙ switch_period_at_lem told_module j t l

    period_at_lem : (j : ℕ) → j < length told_module.modes → (w : Switch) → Memᴰ w (mode_at told_module j).switches → period_to w.target (mode_at told_module j).switches ≡ w.period
    period_at_lem j h w = switch_period w (mode_at told_module j).switches (mode_rule told_module rule j h).once

    mode_told : (j : ℕ) → j < length told_module.modes → ModeTold told_module s r.numbers j
    mode_told j h =
        let end = tasks_end bs accepted k number r tasks j h in
        let long : get_or r.starts (j + 1) 0 - get_or r.starts j 0 ≡ 4 * length (mode_at told_module j).tasks = omega arith in
        record {
          period = periods.each j (few j h) ∙ period_of told_module.modes j h;
          up = rw starts (omega arith);
          within = rw starts (tasks_within bs accepted k number r tasks j h);
          tasks = rw (starts, long) (mode_tasks_lem bs accepted k number r tasks j h);
          listed = λ w i.
              let l : w.target < 8 = omega (arith, (switch_rule told_module rule j w i).there, rule.most) in
              (lists_at j w.target h l ∙ switch_named w (mode_at told_module j).switches i, every_at j w.target h l ∙ period_at_lem j h w i);
          only = λ t b e.
              let l : t < 8 = omega (arith, rule.most) in
              let w = named_switch t (mode_at told_module j).switches (sym (lists_at j t h l) ∙ e) in
              (w.0, w.1, w.2, sym (every_at j t h l ∙ rw w.2 at (period_at_lem j h w.0 w.1)));
        }

    pub told_by_rows : Told told_module s r.numbers
    told_by_rows = record { modes = modes; each = λ j h. mode_told j (omega arith) }
