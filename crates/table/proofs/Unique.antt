-- Each result is the only one that meets its contract. Assumes nothing.
use mathlib.Core.Path.{◌≡◌, sym, ◌∙◌, ap₂}
use mathlib.Core.Bool.{false}
use mathlib.Core.List.{List}
use Prim.Native.Nat.{ℕ, ◌<◌}
use native.Mathlib.Omega.{arith}
use lib.Seq.{ext_get_or}
use Rattle.model.specs.Sheet.{Module, Sheet, module_at}
use Rattle.table.specs.Rows.{Row, RowOf, no_row, RowsOf}
use Rattle.table.specs.declared.ModuleRow.{ModuleRow}
use Rattle.table.specs.Numbers.{TasksOf}
use Rattle.table.specs.declared.Tasks.{Tasks}

row_unique : {A : Type 0} (d : A) (n : ℕ) (f : ℕ → A) (r r' : List A) → Row d n f r → Row d n f r' → r ≡ r'
row_unique d n f r r' h h' = ext_get_or d r r' (h.size ∙ sym h'.size) (λ i l. h.each i (omega (arith, h.size)) ∙ sym (h'.each i (omega (arith, h.size))))

-- module_row
pub module_row_unique : (m : Module) (r r' : ModuleRow) → RowOf m r → RowOf m r' → r ≡ r'
module_row_unique m r r' h h' =
    let periods : r.periods ≡ r'.periods = row_unique 0 8 _ _ _ h.periods h'.periods in
    let every : r.every ≡ r'.every = row_unique 0 64 _ _ _ h.every h'.every in
    let listed : r.listed ≡ r'.listed = row_unique false 64 _ _ _ h.listed h'.listed in
    λ i. record { periods = periods i; every = every i; listed = listed i }

-- module_rows
pub rows_unique : (s : Sheet) (r r' : List ModuleRow) → RowsOf s r → RowsOf s r' → r ≡ r'
rows_unique s r r' h h' =
    ext_get_or no_row r r' (h.size ∙ sym h'.size)
    (λ k l. let small : k < 8 = omega (arith, h.size) in module_row_unique (module_at s k) _ _ (h.each k small) (h'.each k small))

-- module_tasks
pub tasks_unique : (m : Module) (r r' : Tasks) → TasksOf m r → TasksOf m r' → r ≡ r'
tasks_unique m r r' h h' =
    ap₂ (λ (a b : List ℕ). record { starts = a; numbers = b })
    (row_unique 0 9 _ r.starts r'.starts h.starts h'.starts)
    (row_unique 0 512 _ r.numbers r'.numbers h.numbers h'.numbers)
