-- Each read puts its bytes behind those that came before. Assumes nothing.
use Rattle.std.proofs.Common.{◌≡◌, ℕ, ◌+◌, ◌-◌, ◌≤◌, List, ◌++◌, arith, length, take, slice_range, sym, ap, ◌∙◌, subst, rules, le_refl, drop_at, length-take-le}
use Rattle.std.proofs.lemmas.Slice.{take-put_mid_below}
use Rattle.std.specs.Io.KnownBytes.{Consumes}
use Rattle.std.proofs.KnownBytes.{Consumes-trans}
use borrow.Rule.Slice.PartMut.{put_mid, post_of}
use lib.Seq.{take-add, take-append-le}
use Rattle.sheet.proofs.read_full.Goals as goal

-- the bytes from a on, of which n are read over a room that keeps those before
behind : (a n : ℕ) (room read : List ℕ) → a ≤ length room → n ≤ length read → take a room ++ take n read ≡ take (a + n) (put_mid a (length room - a) room read)
behind a n room read within fits =
    let all = put_mid a (length room - a) room read in
    ap (λ (l : List ℕ). l ++ take n read) (sym (take-put_mid_below _ _ _ _ _ (le_refl a) within))
    ∙ ap (λ (l : List ℕ). take a all ++ l) (sym (
    ap (take n) (drop_at (take a room) (read ++ post_of a (length room - a) room) a (length-take-le a room within)) ∙ take-append-le n read (post_of a (length room - a) room) fits
    ))
    ∙ sym (take-add a n all)

pub loop-n-preserved : goal.loop-n-preserved
loop-n-preserved g c = record {
  within = search rules;
  bytes =
      subst (Consumes _ _) (behind c.loop-n.n c.in_ok-more.more c.loop-n.room c.read.new.buf c.loop-n.invariant.within c.in_ok-more.ensures.bound.0)
      (Consumes-trans _ _ _ _ _ c.loop-n.invariant.bytes c.in_ok-more.ensures.bytes.0);
}
