-- `renew` offers the heads and adds the gains. Assumes nothing.
use mathlib.Core.Path.{refl, sym, subst}
use Prim.Native.Nat.{ℕ, ◌/◌, ◌<◌, ◌^◌}
use native.Mathlib.Omega.{arith}
use lib.ListN.{length}
use Rattle.layers.specs.Step.{gained}
use Rattle.layers.proofs.Walks.{moved_value, moved_more}
use Rattle.layers.proofs.renew.Goals as goal

pub releases-requires : goal.releases-requires
releases-requires c = let a = c.args in
    let m = c.switches.ensures in record { n_bound = (c.requires.n_bound.0, c.requires.n_bound.1); by_index = λ x h. subst (λ (v : ℕ). gained a.tasks.now a.l a.n (length a.tasks.now / 4) x v < 2 ^ 32) (sym (moved_value m x h)) (c.requires.by_index x (omega (arith, m.len))) }

pub returns : goal.returns
returns c = moved_more _ _ _ _ _ _ (λ x v. refl) c.switches.ensures c.releases.ensures
