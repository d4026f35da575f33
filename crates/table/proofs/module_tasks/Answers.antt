-- The starts and the numbers are those of the module that stands at its place. Assumes nothing.
use Rattle.std.proofs.Common.{rules}
use Rattle.model.specs.Sheet.{module_at}
use Rattle.format.specs.Judgement.{sheet_in}
use Rattle.table.specs.Numbers.{start_of}
use Rattle.table.proofs.Filling.{row_made}
use Rattle.place.specs.There.{ModuleThere}
use Rattle.table.proofs.module_tasks.Goals as goal

pub task_numbers-numbers-requires-clause-starts : goal.task_numbers-numbers-requires-clause-starts
task_numbers-numbers-requires-clause-starts c = λ k h. row_made _ _ 0 (start_of (module_at (sheet_in c.args.sheet.now.bytes.now) k)) c.from_fn-starts.result (λ i y q call. (search rules, search rules)) _ c.from_fn-starts.ensures.items

pub returns : goal.returns
returns c = let there : ModuleThere (sheet_in c.args.sheet.now.bytes.now) c.args.k c.module_place-p.result = record { number = c.requires; place = c.module_place-p.ensures } in
    record {
      starts = row_made _ _ 0 (start_of (module_at (sheet_in c.args.sheet.now.bytes.now) c.args.k)) c.from_fn-starts.result (λ i y q call. (search rules, search rules)) _ c.from_fn-starts.ensures.items;
      numbers = c.task_numbers-numbers.ensures c.args.k there;
    }
