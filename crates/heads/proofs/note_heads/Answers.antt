-- `note_heads` writes the heads of the layer. Assumes nothing.
use native.Mathlib.Omega.{arith}
use Rattle.layers.proofs.Layers.{told_ready}
use Rattle.heads.proofs.Backward.{states_few, noted}
use Rattle.heads.proofs.note_heads.Goals as goal

pub heads-tops-requires : goal.heads-tops-requires
heads-tops-requires c = let p = c.requires in
    let t = p.0.1 in
    let ready = told_ready t.owner t.rule _ _ t.told in
    (ready.few, omega (arith, states_few _ _ t), λ k h. (ready.each k h).positive)

pub returns : goal.returns
returns c = let t = c.requires.0.1 in
    noted _ _ _ _ _ _ (told_ready t.owner t.rule _ _ t.told).few c.heads-tops.ensures c.pack.ensures
