-- The tape memory that is left is the only one that meets the contract: tapes and the bytes past them make up all of it. Assumes nothing.
use mathlib.Core.Path.{◌≡◌, sym, ◌∙◌}
use mathlib.Core.List.{List}
use Prim.Native.Nat.{ℕ, zero, suc, ◌+◌, ◌*◌}
use native.Mathlib.Nat.{add-zero, zero-add, zero-mul}
use native.Mathlib.Omega.{arith}
use lib.ListN.{length, take, drop, take-append-drop}
use lib.Seq.{drop-drop}
use Rattle.model.specs.Sheet.{Sheet}
use Rattle.query.specs.Memory.{tapes_from, tapes_in}
use Rattle.witness.specs.Witness.{WitnessWritten}

-- from the tape of the module k on
same_from : (b k n : ℕ) (u v : List ℕ) → tapes_from k n b u ≡ tapes_from k n b v → drop ((k + n) * b) u ≡ drop ((k + n) * b) v → drop (k * b) u ≡ drop (k * b) v
same_from b k zero u v e rest = rw add-zero at rest
same_from b k (suc n) u v e rest =
    let head : take b (drop (k * b) u) ≡ take b (drop (k * b) v) = cc in
    let tail : tapes_from (suc k) n b u ≡ tapes_from (suc k) n b v = cc in
    let sum : k + suc n ≡ suc k + n = omega arith in
    let next : k * b + b ≡ suc k * b = omega arith in
    let behind : drop b (drop (k * b) u) ≡ drop b (drop (k * b) v) = drop-drop b (k * b) u ∙ rw next (same_from b (suc k) n u v tail (rw sum at rest)) ∙ sym (drop-drop b (k * b) v) in
    sym (take-append-drop b (drop (k * b) u)) ∙ rw (head, behind) (take-append-drop b (drop (k * b) v))

-- all of it
pub tapes_same : (n b : ℕ) (u v : List ℕ) → tapes_in n b u ≡ tapes_in n b v → drop (n * b) u ≡ drop (n * b) v → u ≡ v
tapes_same n b u v e rest = rw zero-mul at (same_from b 0 n u v e (rw (sym (zero-add n)) at rest))

-- write_tapes: all of the tape memory (for the working memory that is `stays_agree` of query)
pub witness_unique : {s : Sheet} {a b : ℕ} {t u v : List ℕ} → WitnessWritten s a b t u → WitnessWritten s a b t v → u ≡ v
witness_unique {s} {a} {b} {t} {u} {v} g h = tapes_same (length s.modules) b u v (g.tapes ∙ sym h.tapes) (g.stays.above ∙ sym h.stays.above)
