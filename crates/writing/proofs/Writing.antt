-- Bytes written one after another, and the digits that the library writes of a number. Assumes nothing.
use mathlib.Core.Path.{◌≡◌, refl, sym, ap, ◌∙◌}
use mathlib.Core.List.{List, [], ◌∷◌, ◌++◌, map, append_assoc, append-nil}
use Prim.Native.Nat.{ℕ, ◌+◌, ◌-◌, ◌*◌, ◌/◌, ◌%◌, ◌^◌, ◌≤◌, ◌<◌}
use native.Mathlib.Numerals.{add-one}
use native.Mathlib.Omega.{arith}
use lib.ListN.{length, take, drop, get_or, length-append, length-drop, length-map, get_or-map, take-append-drop}
use lib.Seq.{length-take-le, take-suc, drop-drop}
use borrow.Rule.Slice.PartMut.{put_mid}
use Rattle.std.specs.Fmt.{decimal as printed}
use Rattle.std.proofs.lemmas.Fmt.{decimal_by_steps}
use Rattle.std.proofs.lemmas.Slice.{take-put_mid, drop-put_mid}
use Rattle.model.specs.Lists.{All}
use Rattle.lines.specs.Decimal.{IsDigit, value_from, NoLeadingZero, IsDecimal, digit, decimal}
use Rattle.lines.proofs.Decimals.{decimal_only}
use Rattle.writing.specs.declared.Line.{Line}
use Rattle.writing.specs.Writing.{Put}
use Rattle.writing.specs.Line.{Wrote}

-- What is asked of a writer leaves one answer.
pub put_unique : {at next next' : ℕ} {xs o o' o'' : List ℕ} → Put at next xs o o' → Put at next' xs o o'' → (next ≡ next') × (o' ≡ o'')
put_unique {at} {next} {next'} {xs} {o} {o'} {o''} p q = (same, sym (take-append-drop next o') ∙ rw (p.before, p.after, same, ← q.before, ← q.after) (take-append-drop next' o''))
  where
    same : next ≡ next'
    same = omega (arith, p.ends, q.ends)

-- One after another.

pub put_none : (at : ℕ) (o : List ℕ) → Put at at [] o o
put_none at o = record { ends = omega arith; len = refl; before = sym (append-nil (take at o)); after = refl }

-- a part of the memory is written over
pub put_part : (at e : ℕ) (xs ys o : List ℕ) → e ≡ at + length xs → e ≤ length o → ys ≡ xs → Put at e xs o (put_mid at (e - at) o ys)
put_part at e xs ys o ends room same =
    let inside : at ≤ length o = omega arith in
    let size : length ys ≡ e - at = omega (arith, ap length same) in
    record {
      ends = ends;
      len = simp (length-append, length-drop) (omega (arith, size, length-take-le at o inside));
      before = rw (← same) (take-put_mid at (e - at) o ys e (omega (arith, size)) inside);
      after = drop-put_mid at (e - at) o ys e (omega arith) inside size;
    }

pub put_more : {at next end : ℕ} {xs ys o o' o'' : List ℕ} → Put at next xs o o' → Put next end ys o' o'' → Put at end (xs ++ ys) o o''
put_more {at} {next} {end} {xs} {ys} {o} {o'} {o''} p q = record {
  ends = omega (arith, p.ends, q.ends, length-append xs ys);
  len = q.len ∙ p.len;
  before = q.before ∙ ap (λ (l : List ℕ). l ++ ys) p.before ∙ append_assoc (take at o) xs ys;
  after = q.after ∙ rest;
}
  where
    rest : drop end o' ≡ drop end o
    rest = rw (q.ends, ← drop-drop (length ys) next o', p.after, drop-drop (length ys) next o)

-- two parts written next join one by one
pub put_two : {at next end : ℕ} {xs o o' o'' : List ℕ} (ys zs : List ℕ) → Put at next xs o o' → Put next end (ys ++ zs) o' o'' → Put at end (xs ++ ys ++ zs) o o''
put_two {xs = xs} ys zs p q = rw (append_assoc xs ys zs) (put_more p q)

-- a line is written on
pub wrote_more : {r s t : Line} {xs ys : List ℕ} → Wrote r s xs → Wrote s t ys → Wrote r t (xs ++ ys)
wrote_more p q = record { put = put_more p.put q.put; same = q.same ∙ p.same }

-- a line is done: it has the bytes ys, and o' is what is left of the memory
pub wrote_line : {s t : Line} {xs ys o' : List ℕ} → Wrote s t xs → xs ≡ ys → o' ≡ t.out.now → Put s.at t.at ys s.out.now o'
wrote_line p whole same = rw (same, ← whole) p.put

-- Mode by mode: the digits of the tape's modes up to i are written.
pub wrote_mode : (tape : List ℕ) (i : ℕ) {r s t : Line} → i < length tape → Wrote r s (take i (map digit tape)) → Wrote s t (digit (get_or tape i 0) ∷ []) → Wrote r t (take (i + 1) (map digit tape))
wrote_mode tape i h p q =
    let inside : i < length (map digit tape) = omega (arith, length-map tape digit) in
    rw (add-one i, take-suc (map digit tape) i (digit 0) inside, get_or-map digit tape i 0) (wrote_more p q)

-- The library's digits of a number are its decimal digits.

one_digit : (n : ℕ) → n < 10 → IsDecimal n (digit n ∷ [])
one_digit n h = record { digits = (omega arith, tt); value = omega arith; leading = tt }

all_behind : (P : ℕ → Type 0) (xs : List ℕ) (c : ℕ) → All P xs → P c → All P (xs ++ (c ∷ []))
all_behind P [] c h g = (g, tt)
all_behind P (x ∷ xs) c h g = (h.0, all_behind P xs c h.1 g)

value_behind : (v : ℕ) (xs : List ℕ) (c : ℕ) → value_from v (xs ++ (c ∷ [])) ≡ 10 * value_from v xs + (c - 48)
value_behind v [] c = refl
value_behind v (x ∷ xs) c = value_behind (10 * v + (x - 48)) xs c

leading_behind : (xs : List ℕ) (c : ℕ) → 1 ≤ value_from 0 xs → NoLeadingZero xs → NoLeadingZero (xs ++ (c ∷ []))
leading_behind [] c h g = tt
leading_behind (x ∷ []) c h g = λ e. omega arith
leading_behind (x ∷ (y ∷ xs)) c h g = g

digit_behind : (n : ℕ) (ds : List ℕ) → 10 ≤ n → IsDecimal (n / 10) ds → IsDecimal n (ds ++ (digit (n % 10) ∷ []))
digit_behind n ds h d =
    let last : ℕ = digit (n % 10) in
    record {
      digits = all_behind IsDigit ds last d.digits (omega arith);
      value = value_behind 0 ds last ∙ omega (arith, d.value);
      leading = leading_behind ds last (omega (arith, d.value)) d.leading;
    }

pub decimal_printed : (n : ℕ) → n < 2 ^ 64 → printed n ≡ decimal n
decimal_printed n h = sym (decimal_only n (printed n) (decimal_by_steps IsDecimal one_digit digit_behind n h))
