-- Bytes and records: the records read at the front of the bytes are those bytes, and records that pass their tests are read back from their own bytes, whatever comes after. Assumes nothing.
use mathlib.Core.Path.{◌≡◌, refl, ◌∙◌, ap, subst, sym}
use mathlib.Core.Bool.{Bool, true, false, cond}
use mathlib.Core.Option.{Option, none, some}
use mathlib.Core.List.{List, [], ◌∷◌, ◌++◌, append-nil, append_assoc, reverse, reverse-cons}
use Prim.Native.Nat.{ℕ, zero, suc, ◌+◌, ◌*◌, ◌/◌, ◌%◌, ◌≤◌, ◌<◌}
use native.Mathlib.Nat.{add_comm, add_assoc}
use native.Mathlib.Numerals.{add-one, add-two}
use native.Mathlib.Omega.{arith}
use lib.Dec.{eqb}
use lib.ListN.{length, get_or, take, drop, length-append}
use lib.Seq.{drop-cons, take-add, get_or-append-add, get_or-append_seam}
use borrow.Author.Tests.{eqb-true}
use Rattle.model.specs.Lists.{All}
use Rattle.model.specs.Sheet.{SW, SX}
use Rattle.format.specs.Record.{Mark, HZ, ML, MD, TK, switch, EN, Record, hz, ml, md, tk, sw, en, mark_of, fields_of, fields, size, code, field_at, mark_coded, mark_at, record_at}
use Rattle.format.specs.Rules.{AllSound}
use Rattle.format.specs.Encoding.{joined, field_bytes, record_bytes}
use Rattle.format.specs.Refusal.{AreBytes, bytes_in, Whole, Front}
use Rattle.format.proofs.Judging.{mark_of_record_at}

-- Lists, one after the other.

pub joined_append : {A B : Type 0} (f : A → List B) (xs ys : List A) → joined f (xs ++ ys) ≡ joined f xs ++ joined f ys
joined_append f [] ys = refl
joined_append f (x ∷ xs) ys = rw (joined_append f xs ys, append_assoc (f x) (joined f xs) (joined f ys))

pub joined_reverse_cons : {A B : Type 0} (f : A → List B) (x : A) (xs : List A) → joined f (reverse (x ∷ xs)) ≡ joined f (reverse xs) ++ f x
joined_reverse_cons f x xs = rw (reverse-cons x xs, joined_append f (reverse xs) (x ∷ []), append-nil (f x))

-- The number of bytes.

pub length_record_bytes : (r : Record) → length (record_bytes r) ≡ size (mark_of r)
unfolding record_bytes
length_record_bytes (hz h) = refl
length_record_bytes (ml n) = refl
length_record_bytes (md p) = refl
length_record_bytes (tk k) = refl
length_record_bytes (sw w) = refl
length_record_bytes (en n) = refl

pub length_joined : (rs : List Record) → length (joined record_bytes (reverse rs)) ≡ bytes_in rs
length_joined [] = refl
length_joined (r ∷ rs) = rw joined_reverse_cons (length-append (joined record_bytes (reverse rs)) (record_bytes r) ∙ omega (arith, length_joined rs, length_record_bytes r))

-- The bytes of records are bytes.

bytes_cons : (b : ℕ) (bs : List ℕ) → b < 256 → AreBytes bs → AreBytes (b ∷ bs)
bytes_cons b bs l h zero = l
bytes_cons b bs l h (suc i) = h i

bytes_append : (bs cs : List ℕ) → AreBytes bs → AreBytes cs → AreBytes (bs ++ cs)
bytes_append [] cs g h = h
bytes_append (b ∷ bs) cs g h = bytes_cons b (bs ++ cs) (g 0) (bytes_append bs cs (λ i. g (suc i)) h)

bytes_fields : (vs : List ℕ) → All (λ v. v < 65536) vs → AreBytes (joined field_bytes vs)
bytes_fields [] h = λ i. omega arith
bytes_fields (v ∷ vs) h =
    let l : v < 65536 = h.0 in
    bytes_cons (v % 256) (v / 256 ∷ joined field_bytes vs) (omega arith) (bytes_cons (v / 256) (joined field_bytes vs) (omega arith) (bytes_fields vs h.1))

code_fits : (m : Mark) → code m < 65536
code_fits HZ = omega arith
code_fits ML = omega arith
code_fits MD = omega arith
code_fits TK = omega arith
code_fits (switch SW) = omega arith
code_fits (switch SX) = omega arith
code_fits EN = omega arith

bytes_record : (r : Record) → All (λ v. v < 65536) (fields_of r) → AreBytes (record_bytes r)
unfolding record_bytes
bytes_record r h =
    let c : ℕ = code (mark_of r) in
    let vs : List ℕ = joined field_bytes (fields_of r) in
    bytes_cons (c / 256) (c % 256 ∷ vs) (omega (arith, code_fits (mark_of r))) (bytes_cons (c % 256) vs (omega arith) (bytes_fields (fields_of r) h))

pub bytes_joined : (rs : List Record) → All (λ (r : Record). All (λ v. v < 65536) (fields_of r)) rs → AreBytes (joined record_bytes (reverse rs))
bytes_joined [] h = λ i. omega arith
bytes_joined (r ∷ rs) h = rw joined_reverse_cons (bytes_append (joined record_bytes (reverse rs)) (record_bytes r) (bytes_joined rs h.1) (bytes_record r h.0))

-- From the bytes to the records.

take_two : (bs : List ℕ) (i n : ℕ) → i + 2 ≤ length bs → take (suc (suc n)) (drop i bs) ≡ get_or bs i 0 ∷ get_or bs (i + 1) 0 ∷ take n (drop (i + 2) bs)
take_two bs i n l = rw (drop-cons bs i 0 (omega arith), drop-cons bs (suc i) 0 (omega arith), ← (add-two i), ← (add-one i))

-- k fields, one after the other, from the place i on
abbrev fields_at : List ℕ → ℕ → ℕ → List ℕ
fields_at bs i zero = []
fields_at bs i (suc k) = field_at bs i ∷ fields_at bs (i + 2) k

fields_of_record_at : (m : Mark) (bs : List ℕ) (p : ℕ) → fields_of (record_at m bs p) ≡ fields_at bs (p + 2) (fields m)
fields_of_record_at HZ bs p = refl
fields_of_record_at ML bs p = refl
fields_of_record_at MD bs p = refl
fields_of_record_at TK bs p = simp add_assoc
fields_of_record_at (switch k) bs p = simp add_assoc
fields_of_record_at EN bs p = refl

-- a test of the list of marks: the code is this mark's, or a later one's
coded_here : (c : ℕ) (k m : Mark) (later : Option Mark) → (later ≡ some m → c ≡ code m) → cond (eqb c (code k)) (some k) later ≡ some m → c ≡ code m
coded_here c k m later next e = pick (eqb c (code k)) refl e
  where
    pick : (b : Bool) → eqb c (code k) ≡ b → cond b (some k) later ≡ some m → c ≡ code m
    pick true t e = let same : k ≡ m = cc in eqb-true c (code k) t ∙ ap code same
    pick false t e = next e

coded : (c : ℕ) (m : Mark) → mark_coded c ≡ some m → c ≡ code m
unfolding mark_coded
coded c m =
    coded_here c HZ m _ (coded_here c ML m _ (coded_here c MD m _ (coded_here c TK m _ (coded_here c (switch SW) m _ (coded_here c (switch SX) m _ (coded_here c EN m none (λ e. cc)))))))

-- the two bytes of a known mark
mark_bytes : (bs : List ℕ) → AreBytes bs → (p : ℕ) (m : Mark) → mark_at bs p ≡ some m → (get_or bs p 0 ≡ code m / 256) × (get_or bs (p + 1) 0 ≡ code m % 256)
mark_bytes bs h p m e = omega (arith, h p, h (p + 1), coded (get_or bs p 0 * 256 + get_or bs (p + 1) 0) m e)

-- the two bytes of a field
field_bytes_lem : (bs : List ℕ) → AreBytes bs → (i : ℕ) → (field_at bs i % 256 ≡ get_or bs i 0) × (field_at bs i / 256 ≡ get_or bs (i + 1) 0)
field_bytes_lem bs h i = omega (arith, h i, h (i + 1))

take_fields : (bs : List ℕ) → AreBytes bs → (i k : ℕ) → i + 2 * k ≤ length bs → take (2 * k) (drop i bs) ≡ joined field_bytes (fields_at bs i k)
take_fields bs h i zero l = refl
take_fields bs h i (suc k) l =
    let double : 2 * suc k ≡ suc (suc (2 * k)) = omega arith in
    rw (double, take_two bs i (2 * k) (omega arith), (field_bytes_lem bs h i).0, (field_bytes_lem bs h i).1, take_fields bs h (i + 2) k (omega arith))

take_record : (bs : List ℕ) → AreBytes bs → (p : ℕ) (m : Mark) → Whole bs p m → take (size m) (drop p bs) ≡ record_bytes (record_at m bs p)
unfolding record_bytes
take_record bs h p m w =
    let fits : p + size m ≤ length bs = w.fits in
    let marks : size m ≡ suc (suc (2 * fields m)) = omega arith in
    let two : (get_or bs p 0 ≡ code m / 256) × (get_or bs (p + 1) 0 ≡ code m % 256) = mark_bytes bs h p m w.mark in
    rw (marks, take_two bs p (2 * fields m) (omega arith), two.0, two.1, take_fields bs h (p + 2) (fields m) (omega arith), mark_of_record_at m bs p, fields_of_record_at m bs p)

-- The records at the front are the bytes there.
pub front_bytes : (bs : List ℕ) → AreBytes bs → (rs : List Record) → Front bs rs → take (bytes_in rs) bs ≡ joined record_bytes (reverse rs)
front_bytes bs h [] f = refl
front_bytes bs h (r ∷ rs) f =
    rw (add_comm (size (mark_of r)) (bytes_in rs), take-add (bytes_in rs) (size (mark_of r)) bs, front_bytes bs h rs f.0, take_record bs h (bytes_in rs) (mark_of r) f.2, f.3, joined_reverse_cons record_bytes r rs)

-- From the records to the bytes.

coded_mark : (m : Mark) → mark_coded (code m / 256 * 256 + code m % 256) ≡ some m
unfolding mark_coded
coded_mark HZ = refl
coded_mark ML = refl
coded_mark MD = refl
coded_mark TK = refl
coded_mark (switch SW) = refl
coded_mark (switch SX) = refl
coded_mark EN = refl

-- a field's two bytes say its value
field_value : (v : ℕ) → v % 256 + 256 * (v / 256) ≡ v
field_value v = omega arith

pub record_at_first : (r : Record) (more : List ℕ) → record_at (mark_of r) (record_bytes r ++ more) 0 ≡ r
unfolding record_bytes
record_at_first (hz h) more = rw (field_value h)
record_at_first (ml n) more = rw (field_value n)
record_at_first (md p) more = rw (field_value p)
record_at_first (tk k) more = rw (field_value k.offset, field_value k.cost, field_value k.LET, field_value k.period)
record_at_first (sw w) more = rw (field_value w.target, field_value w.period)
record_at_first (en n) more = rw (field_value n)

field_at_append : (bs cs : List ℕ) (i : ℕ) → field_at (bs ++ cs) (length bs + i) ≡ field_at cs i
field_at_append bs cs i = rw (get_or-append-add bs cs i 0, add_assoc (length bs) i 1, get_or-append-add bs cs (i + 1) 0)

record_at_append : (m : Mark) (bs cs : List ℕ) → record_at m (bs ++ cs) (length bs) ≡ record_at m cs 0
record_at_append HZ bs cs = rw (field_at_append bs cs 2)
record_at_append ML bs cs = rw (field_at_append bs cs 2)
record_at_append MD bs cs = rw (field_at_append bs cs 2)
record_at_append TK bs cs = rw (field_at_append bs cs 2, field_at_append bs cs 4, field_at_append bs cs 6, field_at_append bs cs 8)
record_at_append (switch k) bs cs = rw (field_at_append bs cs 2, field_at_append bs cs 4)
record_at_append EN bs cs = rw (field_at_append bs cs 2)

-- the bytes of a record, after any bytes and before any, are a whole record
whole_after : (bs : List ℕ) (r : Record) (more : List ℕ) → Whole (bs ++ (record_bytes r ++ more)) (length bs) (mark_of r)
unfolding record_bytes
whole_after bs r more =
    record {
      mark = rw (get_or-append_seam, get_or-append-add bs (record_bytes r ++ more) 1 0, coded_mark (mark_of r));
      fits = omega (arith, length-append bs (record_bytes r ++ more), length-append (record_bytes r) more, length_record_bytes r);
    }

-- Records that pass their tests are at the front of their own bytes.
pub front_of : (rs : List Record) → AllSound rs → (more : List ℕ) → Front (joined record_bytes (reverse rs) ++ more) rs
front_of [] s more = tt
front_of (r ∷ rs) s more =
    let bs : List ℕ = joined record_bytes (reverse rs) in
    let e : joined record_bytes (reverse (r ∷ rs)) ++ more ≡ bs ++ (record_bytes r ++ more) =
    rw (joined_reverse_cons record_bytes r rs, append_assoc bs (record_bytes r) more)
    in
    subst (λ (all : List ℕ). Front all (r ∷ rs)) (sym e) (
      front_of rs s.0 (record_bytes r ++ more),
      s.1,
      rw (length_joined rs) at (whole_after bs r more),
      rw (length_joined rs) at (record_at_append (mark_of r) bs (record_bytes r ++ more) ∙ record_at_first r more),
      s.2,
    )
