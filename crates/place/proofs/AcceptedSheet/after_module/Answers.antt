-- Behind all modes of the module stands what follows it. Assumes nothing.
use Rattle.format.specs.Judgement.{sheet_in}
use Rattle.place.proofs.Walking.{all_modes, module_after}
use Rattle.place.proofs.AcceptedSheet.after_module.Goals as goal

pub returns : goal.returns
returns c = λ k h. module_after (sheet_in c.args.self.now.bytes.now) c.args.p _ _ k h (c.modes_at.ensures k h) (c.mode_from.ensures k (all_modes _ _ _ _ h (c.modes_at.ensures k h)))
