-- `release` adds what one task gains. Assumes nothing.
use Rattle.layers.proofs.Walks.{changed_moved, moved_none, due_on, due_off, due_late}
use native.Mathlib.Omega.{arith}
use native.Mathlib.Nat.{mod-lt}
use Prim.Native.Nat.{ℕ, ◌+◌, ◌*◌, ◌^◌, ◌<◌}
use mathlib.Core.Path.{◌≡◌, sym, ap, ◌∙◌}
use Rattle.std.proofs.Common.{rules, tests}
use Rattle.layers.specs.Step.{look}
use Rattle.layers.proofs.release.Goals as goal

pub overflow_cast-window : goal.overflow_cast-window
overflow_cast-window c = omega (arith, c.type_inv.tasks (4 * c.args.i + 2))

pub overflow_cast-start : goal.overflow_cast-start
overflow_cast-start c = omega (arith, c.type_inv.tasks (4 * c.args.i))

pub overflow_add-start-then-window-l : goal.overflow_add-start-then-window-l
overflow_add-start-then-window-l c = omega (arith, c.type_inv.tasks (4 * c.args.i))

pub overflow_cast-start-then-window-l : goal.overflow_cast-start-then-window-l
overflow_cast-start-then-window-l c = omega (arith, c.type_inv.tasks (4 * c.args.i + 3))

pub change-requires : goal.change-requires
change-requires c = let a = c.args in
    let ts = a.tasks.now in record {
      start_lt_every = mod-lt _ (omega arith);
      by_index = λ x h e. let low : look a.part.now x + look ts (4 * a.i + 1) < 2 ^ 32 = omega (arith, due_on ts a.l a.n a.i x (omega arith) e, c.requires.by_index x h) in search rules;
    }

pub returns-then-window-l : goal.returns-then-window-l
returns-then-window-l c = let ts = c.args.tasks.now in
    changed_moved _ c.change.ensures (λ x v y e p. let sum : y ≡ v + look ts (4 * c.args.i + 1) = search (rules, tests) in sum ∙ ap (λ (g : ℕ). v + g) (sym (due_on ts _ _ _ x (omega arith) e))) (due_off _ _ _ _ (omega arith))

pub returns-else-window-l : goal.returns-else-window-l
returns-else-window-l c = moved_none _ _ (due_late _ _ _ _ (omega arith))
