-- What a module has come to: its marks and its layer with no tick; the figures for no tick; and with one tick more, by the next layer. Assumes nothing.
use mathlib.Core.Path.{◌≡◌, refl, sym, ◌∙◌, subst}
use mathlib.Core.List.{List}
use Prim.Native.Nat.{ℕ, pred, ◌+◌, ◌-◌, ◌≤◌, ◌<◌}
use native.Mathlib.Omega.{arith}
use lib.ListN.{length, replicate, length-replicate, get_or-replicate}
use borrow.Rule.Slice.PartMut.{put_mid, mid_of, mid_len}
use Rattle.model.specs.Limits.{work_numbers}
use Rattle.model.specs.Sheet.{Module}
use Rattle.layers.specs.declared.Shape.{Shape}
use Rattle.layers.specs.Step.{look, total, Cleared}
use Rattle.layers.specs.Layer.{Layer, Tells, Each, Advanced}
use Rattle.layers.proofs.Layers.{layer_start}
use Rattle.layers.proofs.Parts.{part_length}
use Rattle.memory.specs.Map.{layer_numbers, mark_numbers, layer_from, marks_from, cells_from, layer_part, marks_part}
use Rattle.sums.specs.Sums.{Layered}
use Rattle.sums.proofs.Sums.{part_size, told_states, layered_more}
use Rattle.marks.specs.Marks.{Marks}
use Rattle.marks.specs.Marking.{Entered}
use Rattle.figures.specs.Figures.{Growable, Grown}
use Rattle.figures.proofs.Tiles.{figures_start}
use Rattle.tiles.specs.Tiles.{Within, Progress, Begun, Progressed}
use Rattle.tiles.proofs.Parts.{part_look, part_before, part_behind, within_wider, within_then, put_within, put_part}

-- The marks are made, then the layer is cleared.

pub begun : (s : Shape) (last n : ℕ) (w ys zs : List ℕ) → work_numbers ≤ length w → n ≡ total s.periods s.modes
    → Entered s last (marks_part w) ys → Cleared n (layer_part (put_mid marks_from mark_numbers w ys)) zs → Begun s last w (put_mid layer_from layer_numbers (put_mid marks_from mark_numbers w ys) zs)
begun s last n w ys zs room e entered cleared = record {
  within = within_then (within_wider marking layer_from cells_from (omega arith) (omega arith)) (within_wider clearing layer_from cells_from (omega arith) (omega arith));
  layer = rw (← e, put_part layer_from layer_numbers marked zs (omega (arith, room')) (cleared.len ∙ part_size marked room'), ← part_before marking layer_from layer_numbers (omega arith)) cleared;
  marks = subst (Entered s last (marks_part w)) (sym (part_behind clearing marks_from mark_numbers (omega arith) ∙ put_part marks_from mark_numbers w ys (omega arith) size)) entered;
}
  where
    marked : List ℕ
    marked = put_mid marks_from mark_numbers w ys

    size : length ys ≡ mark_numbers
    size = entered.len ∙ part_length w marks_from mark_numbers (omega arith)

    marking : Within marks_from cells_from w marked
    marking = put_within marks_from mark_numbers w ys (omega arith) size

    room' : work_numbers ≤ length marked
    room' = omega (arith, marking.len)

    clearing : Within layer_from marks_from marked (put_mid layer_from layer_numbers marked zs)
    clearing = put_within layer_from layer_numbers marked zs (omega (arith, room')) (cleared.len ∙ part_size marked room')

-- the numbers of the states are those for no tick
pub begun_layer : {s : Shape} {last : ℕ} {w w' : List ℕ} (numbers : List ℕ) → work_numbers ≤ length w → Begun s last w w' → Layered s numbers 0 (layer_part w')
begun_layer {s} {last} {w} {w'} numbers room start m ok told =
    layer_start m s numbers told (layer_part w) (layer_part w') (omega (arith, part_size w room, told_states s numbers (record { owner = m; rule = ok; told = told }))) start.layer

-- The figures for no tick: the first of 512 zeros.

abbrev none : ℕ → List ℕ
none width = mid_of 0 (width - 0) (replicate 512 0)

module _ (width : ℕ) (few : width ≤ 512) where
  pub none_length : length (none width) ≡ width
  none_length = mid_len 0 width (replicate 512 0) (omega (arith, length-replicate {A = ℕ} 512 0)) ∙ omega arith

  none_look : (i : ℕ) → i < length (none width) → look (none width) i ≡ 0
  none_look i h = part_look 0 (width - 0) (replicate 512 0) i (omega (arith, none_length)) ∙ get_or-replicate 512 (0 + i) 0 0 (omega (arith, none_length))

  pub progress_start : (s : Shape) (numbers : List ℕ) (lo last : ℕ) (w w' : List ℕ) → work_numbers ≤ length w → last ≡ pred (lo + width) → Begun s last w w' → Each s numbers (λ m. Progress m lo 0 w' (none width))
  progress_start s numbers lo last w w' room e start m ok told = record {
    layer = begun_layer numbers room start m ok told;
    marks = rw (none_length, sym e) (start.marks.marks m numbers ok told);
    figures = figures_start m ok lo (none width) (none width) (record { len = refl; zeros = none_look; above = λ x h. refl });
  }

-- The layer's part has advanced.

module _ (s : Shape) (numbers : List ℕ) (l : ℕ) (w ys : List ℕ) (room : work_numbers ≤ length w) (advanced : Advanced s numbers l (layer_part w) ys) where
  size : length ys ≡ layer_numbers
  size = advanced.len ∙ part_size w room

  abbrev w' : List ℕ
  w' = put_mid layer_from layer_numbers w ys

  pub advancing : Within layer_from marks_from w w'
  advancing = put_within layer_from layer_numbers w ys (omega arith) size

  pub next_layer : Layered s numbers l (layer_part w) → Layered s numbers (l + 1) (layer_part w')
  next_layer layer m ok told = subst (Layer m (l + 1)) (sym (put_part layer_from layer_numbers w ys (omega arith) size)) (layered_more s numbers l (layer_part w) ys advanced layer m ok told)

  pub next_marks : (m : Module) (last : ℕ) → Marks m last (marks_part w) → Marks m last (marks_part w')
  next_marks m last = subst (Marks m last) (sym (part_behind advancing marks_from mark_numbers (omega arith)))

  module _ (lo : ℕ) (fig : List ℕ) (before : Each s numbers (λ m. Progress m lo l w fig)) where
    -- the module that is told has what its figures for one tick more need
    abbrev pub growable : Tells s numbers → Growable s numbers (layer_part w') (marks_part w') lo (l + 1) fig
    growable t =
        let back : l + 1 - 1 ≡ l = omega arith in
        let old = before t.owner t.rule t.told in
        record {
          owner = t.owner;
          rule = t.rule;
          told = t.told;
          holds = next_layer (λ m ok told. (before m ok told).layer) t.owner t.rule t.told;
          horizon = pred (lo + length fig);
          marks = next_marks t.owner (pred (lo + length fig)) old.marks;
          ends = omega arith;
          figures = rw back old.figures;
        }

    pub progressed : (fig' : List ℕ) → Grown s numbers (layer_part w') (marks_part w') lo (l + 1) fig fig' → Progressed s numbers lo (l + 1) w w' fig fig'
    progressed fig' grown = record { within = advancing; size = grown.len; each = each }
      where
        each : Each s numbers (λ m. Progress m lo (l + 1) w' fig')
        each m ok told =
            let g = growable (record { owner = m; rule = ok; told = told }) in
            record { layer = g.holds; marks = rw grown.len g.marks; figures = grown.figures m g.horizon ok told g.holds g.marks g.ends g.figures }

-- Where only cells have changed, a module has come to the same.

pub progress_kept : {m : Module} {lo n a e : ℕ} {w w' fig : List ℕ} → cells_from ≤ a → Within a e w w' → Progress m lo n w fig → Progress m lo n w' fig
progress_kept {m} {lo} {n} {a} {e} {w} {w'} {fig} h rest before = record {
  layer = subst (Layer m n) (sym (part_before rest layer_from layer_numbers (omega arith))) before.layer;
  marks = subst (Marks m (pred (lo + length fig))) (sym (part_before rest marks_from mark_numbers (omega arith))) before.marks;
  figures = before.figures;
}
