-- `offers` is the largest offer: so far of the modes below j. Assumes nothing.
use mathlib.Core.Path.{◌≡◌, ◌∙◌, ap}
use native.Mathlib.Omega.{arith}
use native.Mathlib.Numerals.{add-one}
use lib.ListN.{length}
use Rattle.model.specs.Lists.{max_below}
use Rattle.tapes.specs.Forks.{offer_of}
use Rattle.tapes.proofs.Search.{small_head, unwrapped}
use Rattle.tapes.proofs.Fork.offers.Goals as goal

pub loop-j-preserved : goal.loop-j-preserved
loop-j-preserved c = let j = c.loop-j.j in
    let one = c.head.ensures in
    let so_far = c.loop-j.invariant in
    let joined = c.max-top.ensures in
    let offer = c.unwrap_or.ensures in (
      omega (arith, small_head c.head.result one.0),
      λ m ok told.
          let e : c.unwrap_or.result ≡ offer_of c.args.self.now m j = offer ∙ unwrapped _ _ c.head.result (one.1 m ok told) in
          rw (add-one j) (omega (arith, e, so_far.1 m ok told)),
    )

pub returns : goal.returns
returns c = let so_far = c.loop-j.invariant in (
  so_far.0,
  λ m ok told.
      let e : c.loop-j.j ≡ length m.modes = omega (arith, told.modes) in
      so_far.1 m ok told ∙ ap (max_below (offer_of c.args.self.now m)) e,
)
