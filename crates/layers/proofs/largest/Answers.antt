-- `largest` is the largest that the iterator finds among the first numbers. Assumes nothing.
use Rattle.std.proofs.Common.{◌∙◌, ap, take, unwrap_or}
use Rattle.std.proofs.lemmas.List.{map-id}
use Rattle.std.proofs.lemmas.List.Folds.{max_of_map}
use Rattle.std.proofs.lemmas.Iterator.{YieldsList-from_slice}
use Rattle.std.proofs.lemmas.Iterator.Consumers.{reduce_from_yields_List, YieldsList-from_copied}
use Rattle.layers.proofs.Sums.{max_front}
use Rattle.layers.proofs.largest.Goals as goal

pub returns : goal.returns
returns c =
    let first = take c.args.count c.args.layer.now in
    c.unwrap_or.ensures ∙ ap (λ o. unwrap_or o 0) (reduce_from_yields_List _ c.copied.result _ c.max.ensures.ran (YieldsList-from_copied (YieldsList-from_slice first cc)))
    ∙ (rw (map-id first) at (max_of_map (λ x. x) first)) ∙ max_front c.args.layer.now c.args.count c.requires
