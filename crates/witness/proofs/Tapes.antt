-- Tapes one after another in the tape memory: one of them written where it begins, the first n of them, and all. Assumes nothing.
use mathlib.Core.Path.{◌≡◌, refl, sym, ◌∙◌, ap}
use mathlib.Core.List.{List, [], ◌∷◌, ◌++◌, map, append-nil}
use Prim.Native.Nat.{ℕ, suc, ◌+◌, ◌-◌, ◌*◌, ◌≤◌, ◌<◌}
use native.Mathlib.Nat.{mul-le-mul_right}
use native.Mathlib.Decide.{dec_lt}
use native.Mathlib.Omega.{arith}
use lib.ListN.{length, get_or, take, drop, length-drop}
use lib.Seq.{length-take-le, take_all, drop-length, drop_at, take-take, drop-drop, take-add}
use borrow.Rule.Slice.PartMut.{put_mid, mid_of, post_of, Post-is, same_len_mid, take_put}
use Rattle.model.specs.Sheet.{Module, Sheet, module_at}
use Rattle.model.specs.WellFormed.{ModuleRule}
use Rattle.model.specs.Run.{first}
use Rattle.model.specs.Tape.{tape, tapes}
use Rattle.query.specs.Memory.{Stays, tapes_from}
use Rattle.query.proofs.Meeting.{stays_untouched, stays_more, stays_by}
use Rattle.layers.specs.declared.Shape.{Shape}
use Rattle.layers.specs.Layer.{Told}
use Rattle.tapes.specs.Taped.{Taped}
use Rattle.witness.specs.Witness.{WitnessWritten, WrittenAt}

-- where n numbers may differ, i more may
stays_past : (i : ℕ) {n : ℕ} {w w' : List ℕ} → Stays n w w' → Stays (n + i) w w'
stays_past i {n} {w} {w'} s = record { len = s.len; above = sym (drop-drop i n w') ∙ ap (drop i) s.above ∙ drop-drop i n w }

-- The memory t is lent from byte i onward, and ys is what comes back.
module _ (i : ℕ) (t ys : List ℕ) (fits : i ≤ length t) where
  abbrev lent : List ℕ
  lent = mid_of i (length t - i) t

  abbrev left : List ℕ
  left = put_mid i (length t - i) t ys

  lent_is : lent ≡ drop i t
  lent_is = take_all (length t - i) (drop i t) (omega (arith, length-drop i t))

  left_is : drop i left ≡ ys
  left_is =
      drop_at (take i t) (ys ++ post_of i (length t - i) t) i (length-take-le i t fits)
      ∙ ap (λ (l : List ℕ). ys ++ l) (Post-is i (length t) t fits ∙ drop-length t) ∙ append-nil ys

  pub written_at : {s : Shape} {numbers : List ℕ} (m : Module) (a b : ℕ) → ModuleRule m → Told m s numbers → Taped s numbers a b lent ys → WrittenAt i m a b t left
  written_at m a b rule told new = record {
    before = take_put i (length t - i) t ys fits;
    written = ap (take b) left_is ∙ new.written m rule told;
    after = record {
      len = same_len_mid i (length t - i) t ys new.len;
      above = sym (drop-drop b i left) ∙ ap (drop b) left_is ∙ (stays_by b lent ys new.len new.above).above ∙ ap (drop b) lent_is ∙ drop-drop b i t;
    };
  }

-- b bytes from byte i on are a part of the first n
part_of : (i b n : ℕ) (t : List ℕ) → i ≤ length t → i + b ≤ n → take b (drop i t) ≡ drop i (take (i + b) (take n t))
part_of i b n t fits h =
    sym (drop_at (take i t) (take b (drop i t)) i (length-take-le i t fits)) ∙ ap (drop i) (sym (take-add i b t) ∙ sym (take-take (i + b) n t h))

-- in memory that came as t stand the tapes of the first n modules
pub record WrittenTo (s : Sheet) (a b n : ℕ) (t t' : List ℕ) : Type 0 where
  pub each : (k : ℕ) → k < n → take b (drop (k * b) t') ≡ tape (module_at s k) a b first
  pub stays : Stays (n * b) t t'

pub written_none : (s : Sheet) (a b : ℕ) (t : List ℕ) → WrittenTo s a b 0 t t
written_none s a b t = record { each = λ k h. absurd (omega arith); stays = stays_untouched (0 * b) t }

pub written_more : {s : Sheet} {a b n : ℕ} {t t' t'' : List ℕ} → n * b ≤ length t → WrittenTo s a b n t t' → WrittenAt (n * b) (module_at s n) a b t' t'' → WrittenTo s a b (n + 1) t t''
written_more {s} {a} {b} {n} {t} {t'} {t''} fits old new = record {
  each = λ k h. pick k h (dec_lt k n);
  stays = let next : (n + 1) * b ≡ n * b + b = omega arith in rw next (stays_more (stays_past b old.stays) new.after);
}
  where
    pick : (k : ℕ) → k < n + 1 → Dec (k < n) → take b (drop (k * b) t'') ≡ tape (module_at s k) a b first
    pick k h (yes l) =
        let inside : k * b + b ≤ n * b = omega (arith, mul-le-mul_right b l) in
        part_of (k * b) b (n * b) t'' (omega (arith, new.after.len, old.stays.len)) inside
        ∙ ap (λ (u : List ℕ). drop (k * b) (take (k * b + b) u)) new.before
        ∙ sym (part_of (k * b) b (n * b) t' (omega (arith, old.stays.len)) inside)
        ∙ old.each k l
    pick k h (no l) = let last : k ≡ n = omega arith in rw last new.written

-- the tapes of the modules ms, of which the first has the number k
tapes_from_lem : (a b k : ℕ) (t : List ℕ) (ms : List Module) → ((j i : ℕ) → k + j ≡ i → j < length ms → take b (drop (i * b) t) ≡ tape (get_or ms j (record { modes = [] })) a b first)
    → tapes_from k (length ms) b t ≡ map (λ (m : Module). tape m a b first) ms
tapes_from_lem a b k t [] each = refl
tapes_from_lem a b k t (m ∷ ms) each = rw (each 0 k (omega arith) (omega arith), tapes_from_lem a b (suc k) t ms (λ j i e h. each (suc j) i (omega arith) (omega arith)))

pub witness_written : {s : Sheet} {a b n : ℕ} {t t' : List ℕ} → n ≡ length s.modules → WrittenTo s a b n t t' → WitnessWritten s a b t t'
unfolding tapes
witness_written {s} {a} {b} {n} {t} {t'} all done = record {
  tapes = tapes_from_lem a b 0 t' s.modules (λ j i e h. let same : i ≡ j = omega arith in rw same (done.each j (omega arith)));
  stays = rw (sym all) done.stays;
}
