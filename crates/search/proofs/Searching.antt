-- The cells of all modules hold the exact sums; and the ends of a range, searched from piece to piece. Assumes nothing.
use mathlib.Core.Path.{◌≡◌, refl, sym, ap, ◌∙◌}
use mathlib.Core.List.{List}
use Prim.Native.Nat.{ℕ, zero, suc, ◌+◌, ◌-◌, ◌≤◌, ◌<◌}
use native.Mathlib.Omega.{arith}
use lib.ListN.{length, take}
use lib.Seq.{take-length}
use borrow.Author.Tests.{le-ltb}
use Rattle.model.specs.Lists.{sum_of}
use Rattle.model.specs.Sheet.{Sheet}
use Rattle.model.specs.Limits.{work_numbers}
use Rattle.model.specs.Run.{first}
use Rattle.model.specs.Demand.{value}
use Rattle.model.specs.Verdict.{Exact, or_else, exact_at, exact_from, exact_sum, exact}
use Rattle.entries.proofs.Pieces.{exact_pieces}
use Rattle.std.specs.Prelude.{Option, Some, None}
use Rattle.cells.specs.declared.Interval.{Interval}
use Rattle.cells.specs.Cells.{Longest, Holding}
use Rattle.tiles.specs.Tiles.{Within}
use Rattle.tiles.proofs.Parts.{within_none, within_wider, within_then}
use Rattle.search.specs.Search.{Passed, CellsOf, Searched}

-- a length that is not in question is over for no interval
pub holding : (s : Sheet) (k lo width : ℕ) (w : List ℕ) → k ≡ length s.modules → Passed s lo width w → CellsOf s k lo width w → Holding (exact_sum s) w lo width
unfolding exact_sum
holding s k lo width w all passed cells = record {
  cells = λ L i j h l q. cells L i h (omega arith) q j ∙ ap (sum_of (λ m. value m (lo + i - L) (lo + i) first)) (ap (λ (n : ℕ). take n s.modules) all ∙ take-length s.modules);
  others = passed;
}

module _ (f : ℕ → ℕ → ℕ) where
  at_clear : (b n : ℕ) → ((a : ℕ) → a < n → f a b ≤ b - a) → exact_at f b n ≡ Exact.clear
  at_clear b zero low = refl
  at_clear b (suc a) low = rw (le-ltb (b - a) (f a b) (low a (omega arith))) (at_clear b a (λ c h. low c (omega arith)))

  from_clear : (n b : ℕ) → ((a d : ℕ) → b ≤ d → d < b + n → a < d → f a d ≤ d - a) → exact_from f n b ≡ Exact.clear
  from_clear zero b low = refl
  from_clear (suc n) b low =
      rw (at_clear b b (λ a h. low a b (omega arith) (omega arith) h)) (from_clear n (suc b) (λ a d h l k. low a d (omega arith) (omega arith) k))

  -- what is found at the ends from b on and before the end e
  abbrev pub later : ℕ → ℕ → Exact
  later e b = exact_from f (e - b) b

  later_none : (e b : ℕ) → e ≤ b → later e b ≡ Exact.clear
  later_none e b h = let none : e - b ≡ 0 = omega arith in rw none

  later_cut : (e b n : ℕ) → b + n ≤ e → later e b ≡ or_else (exact_from f n b) (later e (b + n))
  later_cut e b n h = let whole : e - b ≡ n + (e - (b + n)) = omega arith in rw whole (exact_pieces f n (e - (b + n)) b)

-- no length of the range is in question
pub range_clear : (s : Sheet) (lo range n : ℕ) (w : List ℕ) → n + 1 ≡ lo + range → Passed s lo range w → Longest w n 0 → Exact.clear ≡ exact_from (exact_sum s) range lo
range_clear s lo range n w ends passed none = sym (from_clear (exact_sum s) range lo low)
  where
    low : (a d : ℕ) → lo ≤ d → d < lo + range → a < d → exact_sum s a d ≤ d - a
    low a d h l k =
        let end : lo + (d - lo) ≡ d = omega arith in
        let start : d - (d - a) ≡ a = omega arith in
        rw (end, start) at (passed (d - a) (d - lo) (omega arith) (omega arith) (omega arith) (none.longer (d - a) (omega arith) (omega arith)))

-- a part of a range
pub passed_part : (s : Sheet) (lo range b n : ℕ) (w : List ℕ) → lo ≤ b → b + n ≤ lo + range → Passed s lo range w → Passed s b n w
passed_part s lo range b n w h l passed L i j k m q =
    let end : lo + (b - lo + i) ≡ b + i = omega arith in
    rw end at (passed L (b - lo + i) (omega arith) k (omega arith) q)

-- of the n ends from lo on those before b are behind, none of them with an interval that is over
pub record Behind (f : ℕ → ℕ → ℕ) (from lo n b : ℕ) (w w' : List ℕ) : Type 0 where
  pub kept : Within from work_numbers w w'
  pub some : lo ≤ b
  pub rest : exact_from f n lo ≡ later f (lo + n) b

pub behind_none : (f : ℕ → ℕ → ℕ) (from lo n : ℕ) (w : List ℕ) → Behind f from lo n lo w w
behind_none f from lo n w = record { kept = within_none from work_numbers w; some = omega arith; rest = let all : lo + n - lo ≡ n = omega arith in rw all }

module _ {f : ℕ → ℕ → ℕ} {from lo n b : ℕ} {w w' : List ℕ} (p : Behind f from lo n b w w') where
  pub behind_all : lo + n ≤ b → Searched from (exact_from f n lo) None w w'
  behind_all h = record { kept = p.kept; found = sym (p.rest ∙ later_none f (lo + n) b h) }

  -- the k ends of a piece
  module _ (k : ℕ) (h : b + k ≤ lo + n) {w'' : List ℕ} where
    pub behind_over : {x : Interval} → Searched from (exact_from f k b) (Some x) w' w'' → Searched from (exact_from f n lo) (Some x) w w''
    behind_over piece = record { kept = within_then p.kept piece.kept; found = sym (p.rest ∙ rw (later_cut f (lo + n) b k h, ← piece.found)) }

    pub behind_clear : Searched from (exact_from f k b) None w' w'' → Behind f from lo n (b + k) w w''
    behind_clear piece = record { kept = within_then p.kept piece.kept; some = omega arith; rest = p.rest ∙ rw (later_cut f (lo + n) b k h, ← piece.found) }

-- What lies past the working memory stays where bounds were made before the search.
pub searched_after : {from : ℕ} {e : Exact} {r : Option Interval} {w w' w'' : List ℕ} → Within 0 work_numbers w w' → Searched from e r w' w'' → Searched 0 e r w w''
searched_after kept found = record { kept = within_then kept (within_wider found.kept 0 work_numbers (omega arith) (omega arith)); found = found.found }

-- The ends from 1 to the horizon are all.
exact_from_lem : (s : Sheet) → exact_from (exact_sum s) s.horizon 1 ≡ exact s
unfolding exact
exact_from_lem s = refl

pub searched_all : (s : Sheet) {from n : ℕ} {r : Option Interval} {w w' : List ℕ} → n ≡ s.horizon → Searched from (exact_from (exact_sum s) n 1) r w w' → Searched from (exact s) r w w'
searched_all s e all = record { kept = all.kept; found = all.found ∙ ap (λ (n : ℕ). exact_from (exact_sum s) n 1) e ∙ exact_from_lem s }
