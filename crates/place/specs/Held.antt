-- The sheet that accepted bytes hold. Assumes nothing.
use Rattle.model.specs.Sheet.{Sheet}
use Rattle.format.specs.Judgement.{sheet_in}
use Rattle.place.specs.declared.AcceptedSheet.{AcceptedSheet}

abbrev pub sheet_of : AcceptedSheet → Sheet
sheet_of s = sheet_in s.bytes.now
