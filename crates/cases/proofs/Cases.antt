-- Every row of the table holds, by computation. Assumes nothing.
use mathlib.Core.Path.{◌≡◌, refl}
use mathlib.Core.List.{map}
use Rattle.model.specs.Run.{gain_of, gain}
use Rattle.model.specs.Demand.{instances, mode_demand, nexts, value, reached_in, reached, listed_demand, module_demand}
use Rattle.model.specs.Verdict.{quick_sum, exact_sum, quick, exact}
use Rattle.model.specs.Tape.{tape, tapes}
use Rattle.format.specs.Record.{mark_coded}
use Rattle.format.specs.Encoding.{mode_records, module_records, records_before_end, records, record_bytes, encode}
use Rattle.format.specs.Rules.{ordered, counted, task_ruled, kind_ruled, switch_ruled, ruled}
use Rattle.format.specs.Judgement.{gather, tested, judge_from, judgement}
use Rattle.query.specs.Answer.{answer}
use Rattle.lines.specs.Decimal.{decimal_from}
use Rattle.lines.specs.Lines.{refused_line, sheet_line_of, quick_line, exact_line, run_line, run_lines, sheet_lines, lines}
use Rattle.cases.specs.Sheets.{sheet_a, sheet_h, lone, sheet_d, sheet_e, pair, sheet_f, sheet_g, suspended, factory, leaving, releasing, twice, eight, crowded}
use Rattle.cases.specs.Table.{Case, table}

pub cases : map (λ (c : Case). c.gives) table ≡ map (λ (c : Case). c.says) table
unfolding table sheet_a sheet_h lone sheet_d sheet_e pair sheet_f sheet_g suspended factory leaving releasing twice eight crowded mark_coded mode_records module_records records_before_end records record_bytes encode ordered counted task_ruled kind_ruled switch_ruled ruled gather tested judge_from judgement answer decimal_from refused_line sheet_line_of quick_line exact_line run_line run_lines sheet_lines lines gain_of gain instances mode_demand nexts value reached_in reached listed_demand module_demand quick_sum exact_sum quick exact tape tapes
cases = refl
