use Rattle.figures.specs.Figures.{Added}
use Rattle.figures.proofs.add_figures.Given as goal

abbrev pub invariant-loop-i : goal.invariant-loop-i
invariant-loop-i l = Added l.i l.fig l.initial.cells l.cells
