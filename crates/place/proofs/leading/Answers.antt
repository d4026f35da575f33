-- The pieces that are taken begin with the letter, and the next does not. Assumes nothing.
use Rattle.std.proofs.Common.{rules, arith, ◌≡◌, ◌<◌, length, get_or}
use Rattle.std.proofs.lemmas.Option.{IfSome_then}
use Rattle.std.specs.Option.{IfSome}
use Rattle.std.specs.Slice.Iter.{chunk_count}
use mathlib.Core.Path.{sym, ◌∙◌}
use mathlib.Core.Bool.{true}
use borrow.Author.Tests.{tests}
use Rattle.place.proofs.Pieces.{Piece, piece_here, piece_ends}
use Rattle.place.proofs.leading.Goals as goal

pub returns-clause-here : goal.returns-clause-here
returns-clause-here c = λ i l. let h = c.count.ensures.runs in
    let t = c.take_while.ensures.runs h.0 h.0.seen h.1 in
    let taken : i < h.0.len = omega (arith, h.3) in
    let piece : IfSome (t.0.at i) (Piece c.args.size c.args.records.now i) = rw (t.1, c.chunks.ensures.size, c.chunks.ensures.rest) at ((c.chunks.ensures.runs t.0 t.0.seen (rw (t.1, c.chunks.ensures.size) c.requires)).2 i) in
    piece_here _ _ i _ c.requires (h.0.at i) _ (h.0.reads i c.args.records taken) (rw (t.2.1 i taken) at piece) (IfSome_then _ {Q = λ x. get_or x.now 0 0 ≡ c.args.letter} ((t.2.2 (λ a r f q. search rules)).0 i) (λ x q. search (rules, tests)))

pub returns-clause-ends : goal.returns-clause-ends
returns-clause-ends c = λ l e. let h = c.count.ensures.runs in
    let t = c.take_while.ensures.runs h.0 h.0.seen h.1 in
    let pieces = c.chunks.ensures.runs t.0 t.0.seen (rw (t.1, c.chunks.ensures.size) c.requires) in
    let piece : IfSome (t.0.at h.0.len) (Piece c.args.size c.args.records.now h.0.len) = rw (t.1, c.chunks.ensures.size, c.chunks.ensures.rest) at (pieces.2 h.0.len) in
    let all : t.0.whole ≡ true → t.0.len ≡ chunk_count (length c.args.records.now) c.args.size = rw (t.1, c.chunks.ensures.size, c.chunks.ensures.rest) at pieces.1 in
    piece_ends _ c.args.letter h.0.len _ c.requires (t.0.at h.0.len) ((t.2.2 (λ a r f q. search rules)).1 h.2) (λ s. sym s.1 ∙ all s.0) (λ x q. search (rules, tests)) piece (rw h.3 at l) (rw h.3 at e)
