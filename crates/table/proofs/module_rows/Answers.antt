-- The rows of the modules that are passed stand in the table, until EN. Assumes nothing.
use mathlib.Core.List.{List}
use mathlib.Core.Path.{sym, ◌∙◌}
use Prim.Native.Nat.{ℕ}
use Rattle.std.proofs.lemmas.List.{set-get_or}
use Rattle.table.specs.Rows.{no_row}
use Rattle.table.proofs.Tabling.{tabled_none, tabled_some, tabled_more, tabled_all, tabled_full}
use Rattle.table.proofs.module_rows.Goals as goal

pub loop-row-init : goal.loop-row-init
loop-row-init c = let bs : List ℕ = c.args.sheet.now.bytes.now in
    tabled_none bs c.args.sheet.now.accepted c.args.sheet.now.are_bytes

pub byte-requires : goal.byte-requires
byte-requires c = c.loop-row.invariant.within

pub row_at-requires : goal.row_at-requires
row_at-requires c = tabled_some c.loop-row.invariant (sym c.byte.ensures ∙ c.if-byte-ne77.false)

pub after_module-p-requires : goal.after_module-p-requires
after_module-p-requires c = tabled_some c.loop-row.invariant (sym c.byte.ensures ∙ c.if-byte-ne77.false)

pub loop-row-preserved : goal.loop-row-preserved
loop-row-preserved c = tabled_more c.loop-row.invariant (sym c.byte.ensures ∙ c.if-byte-ne77.false) _ c.row_at.ensures _ c.after_module-p.ensures

pub returns-after-loop-row : goal.returns-after-loop-row
returns-after-loop-row c = tabled_full c.loop-row.invariant c.loop-row-test.false

pub returns-then-byte-ne77 : goal.returns-then-byte-ne77
returns-then-byte-ne77 c = rw (set-get_or c.loop-row.row-items c.loop-row.row-index no_row) (tabled_all c.loop-row.invariant (λ e. c.if-byte-ne77.true (c.byte.ensures ∙ e)))
