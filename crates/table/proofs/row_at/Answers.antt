-- The three rows are those of the module that stands at the place. Assumes nothing.
use Rattle.std.proofs.Common.{rules}
use Rattle.model.specs.Sheet.{module_at}
use Rattle.format.specs.Judgement.{sheet_in}
use Rattle.table.specs.Rows.{period_at, switch_period_at, switch_listed_at}
use Rattle.table.proofs.Filling.{row_made}
use Rattle.table.proofs.row_at.Goals as goal

pub returns : goal.returns
returns c = λ k there. let m = module_at (sheet_in c.args.sheet.now.bytes.now) k in record {
  periods = row_made _ _ _ (period_at m) c.from_fn.result (λ i y q call. (search rules, search rules)) _ c.from_fn.ensures.items;
  every = row_made _ _ _ (switch_period_at m) c.from_fn-2.result (λ i y q call. (search rules, search rules)) _ c.from_fn-2.ensures.items;
  listed = row_made _ _ _ (switch_listed_at m) c.from_fn-3.result (λ i y q call. (search rules, search rules)) _ c.from_fn-3.ensures.items;
}
