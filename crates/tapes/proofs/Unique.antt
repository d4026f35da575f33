-- What a step answers, and the tape that is written, are the only ones that meet their contracts. Assumes nothing.
use mathlib.Core.Path.{◌≡◌, refl, sym, ap, ◌∙◌}
use mathlib.Core.List.{List}
use Prim.Native.Nat.{ℕ, ◌<◌}
use lib.ListN.{take}
use lib.Seq.{get_or-take}
use Rattle.std.specs.Prelude.{Option, Some, None}
use Rattle.model.specs.Sheet.{Module}
use Rattle.model.specs.WellFormed.{ModuleRule}
use Rattle.model.specs.Run.{first}
use Rattle.model.specs.Tape.{tape}
use Rattle.model.proofs.Runs.{next_apart}
use Rattle.layers.specs.declared.Shape.{Shape}
use Rattle.layers.specs.Step.{look}
use Rattle.layers.specs.Layer.{Told, Tells}
use Rattle.layers.proofs.Unique.{memory_unique, each_unique}
use Rattle.tapes.specs.declared.State.{State}
use Rattle.tapes.specs.States.{the, Answers}
use Rattle.tapes.specs.Taped.{Taped}

answers_unique : (m : Module) → ModuleRule m → (x : State) (to : ℕ) (r r' : Option State) → Answers m x to r → Answers m x to r' → r ≡ r'
answers_unique m ok x to (Some t) (Some u) (next, e) (next', e') =
    let same : the t ≡ the u = next_apart m ok (the x) (the t) (the u) next next' (e ∙ sym e') in
    λ i. Some (record { mode = (same i).mode; time = (same i).time })
answers_unique m ok x to (Some t) None (next, e) none = absurd (none (the t) next e)
answers_unique m ok x to None (Some u) none (next, e) = absurd (none (the u) next e)
answers_unique m ok x to None None none none' = refl

-- State::step
pub step_unique : {s : Shape} {numbers : List ℕ} → Tells s numbers → (x : State) (to : ℕ) (r r' : Option State)
    → ((m : Module) (numbers : List ℕ) → ModuleRule m → Told m s numbers → Answers m x to r) → ((m : Module) (numbers : List ℕ) → ModuleRule m → Told m s numbers → Answers m x to r') → r ≡ r'
step_unique {s} {numbers} t x to r r' g h = answers_unique t.owner t.rule x to r r' (g t.owner numbers t.rule t.told) (h t.owner numbers t.rule t.told)

-- write_tape: all of the tape memory (for the working memory that is `kept_unique` of heads)
pub taped_unique : {s : Shape} {numbers : List ℕ} {a b : ℕ} {w u v : List ℕ} → Tells s numbers → Taped s numbers a b w u → Taped s numbers a b w v → u ≡ v
taped_unique {s} {numbers} {a} {b} {w} {u} {v} t g h = memory_unique b w u v g.len h.len g.above h.above same
  where
    written : take b u ≡ take b v
    written = each_unique t (λ m. tape m a b first) (take b u) (take b v) g.written h.written

    same : (x : ℕ) → x < b → look u x ≡ look v x
    same x l = sym (get_or-take b u x 0 l) ∙ ap (λ (p : List ℕ). look p x) written ∙ get_or-take b v x 0 l
