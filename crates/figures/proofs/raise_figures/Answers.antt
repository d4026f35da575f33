-- With all offers of the module the figures are those for one tick more. Assumes nothing.
use mathlib.Core.Path.{refl}
use Rattle.figures.proofs.Raises.{took_tile}
use Rattle.figures.proofs.Tiles.{figures_step}
use Rattle.figures.proofs.raise_figures.Goals as goal

pub returns : goal.returns
returns c = let done = took_tile c.args.lo _ _ _ _ refl c.offer.ensures in
    record {
      len = done.len;
      figures = λ m horizon ok told holds marks top old. figures_step m ok _ _ told _ _ holds horizon _ marks _ c.requires.0 _ _ top done old;
    }
