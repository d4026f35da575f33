-- The judgement of a byte list and the relations of refusal and acceptance say the same: each answer is what its relation states, no other answer is, and no bytes have two. Assumes nothing.
use mathlib.Core.Path.{◌≡◌, refl, sym, ◌∙◌, ap, subst}
use mathlib.Core.Bool.{Bool, true, false}
use mathlib.Core.Option.{Option, none, some}
use mathlib.Core.List.{List, [], ◌∷◌}
use Prim.Native.Nat.{ℕ, zero, suc, ◌+◌, ◌≤◌, ◌<◌}
use native.Mathlib.Nat.{add_comm}
use native.Mathlib.Omega.{arith}
use lib.Dec.{leb, ltb}
use lib.ListN.{length}
use borrow.Author.Tests.{ltb-true, ltb-false, leb-true, leb-false, lt-ltb, le-ltb, le-leb, lt-leb}
use Rattle.model.specs.Sheet.{Sheet}
use Rattle.format.specs.Record.{Mark, HZ, ML, MD, TK, switch, EN, Record, mark_of, size, mark_at, record_at}
use Rattle.format.specs.Rules.{ended, ordered, counted, ruled, field_number}
use Rattle.format.specs.Judgement.{Judgement, refused, accepted, Tested, fault, sound, or_fault, tested_mark, tested, closed, decided, judge_from, judgement}
use Rattle.format.specs.Refusal.{bytes_in, Whole, Front, Refusal, no_mark, unknown_mark, cut_short, out_of_order, past_count, bad_field, bytes_after, Acceptance}

-- The test of one record.

pub mark_of_record_at : (m : Mark) (bs : List ℕ) (p : ℕ) → mark_of (record_at m bs p) ≡ m
mark_of_record_at HZ bs p = refl
mark_of_record_at ML bs p = refl
mark_of_record_at MD bs p = refl
mark_of_record_at TK bs p = refl
mark_of_record_at (switch k) bs p = refl
mark_of_record_at EN bs p = refl

pub tested_short : (bs : List ℕ) (p : ℕ) (rs : List Record) → length bs < p + 2 → tested bs p rs ≡ fault 1
unfolding tested
tested_short bs p rs l = rw (lt-leb (p + 2) (length bs) l)

pub tested_marked : (bs : List ℕ) (p : ℕ) (rs : List Record) → p + 2 ≤ length bs → tested bs p rs ≡ tested_mark (mark_at bs p) bs p rs
unfolding tested
tested_marked bs p rs l = rw (le-leb (p + 2) (length bs) l)

pub tested_cut : (bs : List ℕ) (p : ℕ) (rs : List Record) (m : Mark) → p + 2 ≤ length bs → mark_at bs p ≡ some m → length bs < p + size m → tested bs p rs ≡ fault 1
tested_cut bs p rs m l e c = tested_marked bs p rs l ∙ rw (e, lt-leb (p + size m) (length bs) c)

-- a whole record is left to its order, counts and values
pub tested_whole : (bs : List ℕ) (p : ℕ) (rs : List Record) (m : Mark) → Whole bs p m
    → tested bs p rs ≡ or_fault (ordered m rs) 3 (or_fault (counted m rs) 4 (or_fault (ruled (record_at m bs p) rs) (field_number m) (sound (record_at m bs p))))
tested_whole bs p rs m w =
    let fits : p + size m ≤ length bs = w.fits in
    tested_marked bs p rs (omega arith) ∙ rw (w.mark, le-leb (p + size m) (length bs) fits)

-- the answer of the test says: refused here, or one sound record more
abbrev pub Next : List ℕ → List Record → Tested → Type 0
Next bs rs (fault n) = Refusal bs n (bytes_in rs)
Next bs rs (sound r) = Front bs (r ∷ rs)

sound_next : (bs : List ℕ) (rs : List Record) (m : Mark) → Front bs rs → ended rs ≡ false → Whole bs (bytes_in rs) m
    → ordered m rs ≡ true → counted m rs ≡ true → ruled (record_at m bs (bytes_in rs)) rs ≡ true → Front bs (record_at m bs (bytes_in rs) ∷ rs)
sound_next bs rs m f g w o c v = (f, g, rw same w, ap (λ (k : Mark). record_at k bs (bytes_in rs)) same, record { order = rw same o; count = rw same c; value = v })
  where
    same : mark_of (record_at m bs (bytes_in rs)) ≡ m
    same = mark_of_record_at m bs (bytes_in rs)

pub tested_next : (bs : List ℕ) (rs : List Record) → Front bs rs → ended rs ≡ false → Next bs rs (tested bs (bytes_in rs) rs)
tested_next bs rs f g = two (leb (p + 2) (length bs)) refl
  where
    p : ℕ
    p = bytes_in rs

    by : (t : Tested) → tested bs p rs ≡ t → Next bs rs t → Next bs rs (tested bs p rs)
    by t e n = subst (Next bs rs) (sym e) n

    values : (m : Mark) → Whole bs p m → ordered m rs ≡ true → counted m rs ≡ true → (b : Bool) → ruled (record_at m bs p) rs ≡ b → Next bs rs (tested bs p rs)
    values m w o c false v = by (fault (field_number m)) (tested_whole bs p rs m w ∙ rw (o, c, v)) (bad_field rs f refl g m w o c v refl)
    values m w o c true v = by (sound (record_at m bs p)) (tested_whole bs p rs m w ∙ rw (o, c, v)) (sound_next bs rs m f g w o c v)

    counts : (m : Mark) → Whole bs p m → ordered m rs ≡ true → (b : Bool) → counted m rs ≡ b → Next bs rs (tested bs p rs)
    counts m w o false c = by (fault 4) (tested_whole bs p rs m w ∙ rw (o, c)) (past_count rs f refl g m w o c refl)
    counts m w o true c = values m w o c (ruled (record_at m bs p) rs) refl

    orders : (m : Mark) → Whole bs p m → (b : Bool) → ordered m rs ≡ b → Next bs rs (tested bs p rs)
    orders m w false o = by (fault 3) (tested_whole bs p rs m w ∙ rw o) (out_of_order rs f refl g m w o refl)
    orders m w true o = counts m w o (counted m rs) refl

    fields : p + 2 ≤ length bs → (m : Mark) → mark_at bs p ≡ some m → (b : Bool) → leb (p + size m) (length bs) ≡ b → Next bs rs (tested bs p rs)
    fields l m e false c = by (fault 1) (tested_cut bs p rs m l e (leb-false _ _ c)) (cut_short rs f refl g l m e (leb-false _ _ c) refl)
    fields l m e true c = orders m (record { mark = e; fits = leb-true _ _ c }) (ordered m rs) refl

    marks : p + 2 ≤ length bs → (o : Option Mark) → mark_at bs p ≡ o → Next bs rs (tested bs p rs)
    marks l none e = by (fault 2) (tested_marked bs p rs l ∙ rw e) (unknown_mark rs f refl g l e refl)
    marks l (some m) e = fields l m e (leb (p + size m) (length bs)) refl

    two : (b : Bool) → leb (p + 2) (length bs) ≡ b → Next bs rs (tested bs p rs)
    two false c = by (fault 1) (tested_short bs p rs (leb-false _ _ c)) (no_mark rs f refl g (leb-false _ _ c) refl)
    two true c = marks (leb-true _ _ c) (mark_at bs p) refl

-- One record more.

judge_ended : (n : ℕ) (bs : List ℕ) (p : ℕ) (rs : List Record) → ended rs ≡ true → judge_from (suc n) bs p rs ≡ closed bs p rs
unfolding judge_from
judge_ended n bs p rs e = rw (e, judge_from)

judge_going : (n : ℕ) (bs : List ℕ) (p : ℕ) (rs : List Record) → ended rs ≡ false
    → judge_from (suc n) bs p rs ≡ decided (tested bs p rs) p (λ r. judge_from n bs (p + size (mark_of r)) (r ∷ rs))
unfolding judge_from
judge_going n bs p rs e = rw (e, judge_from)

-- a sound record brings the judgement on by its bytes
judge_sound : (n : ℕ) (bs : List ℕ) (rs : List Record) (r : Record) → ended rs ≡ false → tested bs (bytes_in rs) rs ≡ sound r
    → judge_from (suc n) bs (bytes_in rs) rs ≡ judge_from n bs (bytes_in (r ∷ rs)) (r ∷ rs)
judge_sound n bs rs r g t = judge_going n bs (bytes_in rs) rs g ∙ rw t (ap (λ (q : ℕ). judge_from n bs q (r ∷ rs)) (add_comm _ _))

judge_fault : (n : ℕ) (bs : List ℕ) (p : ℕ) (rs : List Record) (k : ℕ) → ended rs ≡ false → tested bs p rs ≡ fault k → judge_from (suc n) bs p rs ≡ refused k p
judge_fault n bs p rs k g t = judge_going n bs p rs g ∙ rw t

-- From the judgement to the relations.

-- what an answer states
abbrev Stated : List ℕ → Judgement → Type 0
Stated bs (refused n p) = Refusal bs n p
Stated bs (accepted s) = Acceptance bs s

-- sound records do not reach past the bytes
pub front_fits : (bs : List ℕ) (rs : List Record) → Front bs rs → bytes_in rs ≤ length bs
front_fits bs [] f = omega arith
front_fits bs (r ∷ rs) f = let fits : bytes_in rs + size (mark_of r) ≤ length bs = f.2.fits in omega arith

closed_stated : (bs : List ℕ) (rs : List Record) → Front bs rs → ended rs ≡ true → Stated bs (closed bs (bytes_in rs) rs)
closed_stated bs rs f e = pick (ltb (bytes_in rs) (length bs)) refl
  where
    pick : (b : Bool) → ltb (bytes_in rs) (length bs) ≡ b → Stated bs (closed bs (bytes_in rs) rs)
    pick true c = rw c (bytes_after rs f refl e (ltb-true _ _ c) refl)
    pick false c = rw c (record { read = rs; front = f; closes = e; all = omega (arith, front_fits bs rs f, ltb-false (bytes_in rs) (length bs) c); value = refl })

judged_one : (n : ℕ) (bs : List ℕ) (rs : List Record) → Front bs rs
    → ((r : Record) → Front bs (r ∷ rs) → Stated bs (judge_from n bs (bytes_in (r ∷ rs)) (r ∷ rs))) → Stated bs (judge_from (suc n) bs (bytes_in rs) rs)
judged_one n bs rs f next = pick (ended rs) refl
  where
    Here : Type 0
    Here = Stated bs (judge_from (suc n) bs (bytes_in rs) rs)

    test : ended rs ≡ false → (t : Tested) → tested bs (bytes_in rs) rs ≡ t → Next bs rs t → Here
    test g (fault k) t r = subst (Stated bs) (sym (judge_fault n bs (bytes_in rs) rs k g t)) r
    test g (sound r) t h = subst (Stated bs) (sym (judge_sound n bs rs r g t)) (next r h)

    pick : (b : Bool) → ended rs ≡ b → Here
    pick true e = subst (Stated bs) (sym (judge_ended n bs (bytes_in rs) rs e)) (closed_stated bs rs f e)
    pick false g = test g (tested bs (bytes_in rs) rs) refl (tested_next bs rs f g)

-- n records more are enough where at most n bytes are left
judged : (n : ℕ) (bs : List ℕ) (rs : List Record) → Front bs rs → length bs ≤ n + bytes_in rs → Stated bs (judge_from (suc n) bs (bytes_in rs) rs)
judged zero bs rs f l = judged_one zero bs rs f (λ r h. absurd (omega (arith, front_fits bs (r ∷ rs) h)))
judged (suc n) bs rs f l = judged_one (suc n) bs rs f (λ r h. judged n bs (r ∷ rs) h (omega arith))

judgement_stated : (bs : List ℕ) → Stated bs (judgement bs)
unfolding judgement
judgement_stated bs = judged (length bs) bs [] tt (omega arith)

pub judgement_refusal : (bs : List ℕ) (n p : ℕ) → judgement bs ≡ refused n p → Refusal bs n p
judgement_refusal bs n p e = subst (Stated bs) e (judgement_stated bs)

pub judgement_acceptance : (bs : List ℕ) (s : Sheet) → judgement bs ≡ accepted s → Acceptance bs s
judgement_acceptance bs s e = subst (Stated bs) e (judgement_stated bs)

-- From the relations to the judgement.

front_tested : (bs : List ℕ) (rs : List Record) (r : Record) → Front bs (r ∷ rs) → tested bs (bytes_in rs) rs ≡ sound r
front_tested bs rs r f = tested_whole bs (bytes_in rs) rs (mark_of r) f.2 ∙ rw (f.3, f.4.order, f.4.count, f.4.value)

-- the judgement comes to the place after sound records, and may then read at least as many records as bytes are left
record CameTo (bs : List ℕ) (rs : List Record) : Type 0 where
  more : ℕ
  enough : length bs ≤ more + bytes_in rs
  same : judgement bs ≡ judge_from (suc more) bs (bytes_in rs) rs

front_came : (bs : List ℕ) (rs : List Record) → Front bs rs → CameTo bs rs
unfolding judgement
front_came bs [] f = record { more = length bs; enough = omega arith; same = refl }
front_came bs (r ∷ rs) f = go (front_came bs rs f.0)
  where
    step : (n : ℕ) → length bs ≤ n + bytes_in rs → judgement bs ≡ judge_from (suc n) bs (bytes_in rs) rs → CameTo bs (r ∷ rs)
    step zero l e = absurd (omega (arith, front_fits bs (r ∷ rs) f))
    step (suc n) l e = record { more = n; enough = omega arith; same = e ∙ judge_sound (suc n) bs rs r f.1 (front_tested bs rs r f) }

    go : CameTo bs rs → CameTo bs (r ∷ rs)
    go h = step h.more h.enough h.same

pub refused_there : (bs : List ℕ) (n p : ℕ) (rs : List Record) → Front bs rs → p ≡ bytes_in rs → ended rs ≡ false → tested bs p rs ≡ fault n → judgement bs ≡ refused n p
refused_there bs n p rs f e g t =
    let h : CameTo bs rs = front_came bs rs f in
    h.same ∙ ap (λ (q : ℕ). judge_from (suc h.more) bs q rs) (sym e) ∙ judge_fault h.more bs p rs n g t

pub closed_there : (bs : List ℕ) (rs : List Record) → Front bs rs → ended rs ≡ true → judgement bs ≡ closed bs (bytes_in rs) rs
closed_there bs rs f e = let h : CameTo bs rs = front_came bs rs f in h.same ∙ judge_ended h.more bs (bytes_in rs) rs e

pub refusal_judgement : (bs : List ℕ) (n p : ℕ) → Refusal bs n p → judgement bs ≡ refused n p
refusal_judgement bs n p (no_mark rs f e g l k) = refused_there bs n p rs f e g (tested_short bs p rs l ∙ ap fault (sym k))
refusal_judgement bs n p (unknown_mark rs f e g l u k) = refused_there bs n p rs f e g (tested_marked bs p rs l ∙ rw (u, k))
refusal_judgement bs n p (cut_short rs f e g l m u c k) = refused_there bs n p rs f e g (tested_cut bs p rs m l u c ∙ ap fault (sym k))
refusal_judgement bs n p (out_of_order rs f e g m w o k) = refused_there bs n p rs f e g (tested_whole bs p rs m w ∙ rw (o, k))
refusal_judgement bs n p (past_count rs f e g m w o c k) = refused_there bs n p rs f e g (tested_whole bs p rs m w ∙ rw (o, c, k))
refusal_judgement bs n p (bad_field rs f e g m w o c v k) = refused_there bs n p rs f e g (tested_whole bs p rs m w ∙ rw (o, c, v, k))
refusal_judgement bs n p (bytes_after rs f e g l k) = closed_there bs rs f g ∙ rw (← e, lt-ltb p (length bs) l, k)

pub acceptance_judgement : (bs : List ℕ) (s : Sheet) → Acceptance bs s → judgement bs ≡ accepted s
acceptance_judgement bs s a = closed_there bs a.read a.front a.closes ∙ rw (le-ltb (bytes_in a.read) (length bs) (omega (arith, a.all)), a.value)

-- The answers exclude one another.

pub refusal_unique : (bs : List ℕ) (n p m q : ℕ) → Refusal bs n p → Refusal bs m q → (n ≡ m) × (p ≡ q)
refusal_unique bs n p m q a b =
    let e : judgement bs ≡ refused n p = refusal_judgement bs n p a in
    let h : judgement bs ≡ refused m q = refusal_judgement bs m q b in
    (cc, cc)

-- no bytes are both refused and accepted
pub never_both : (bs : List ℕ) (n p : ℕ) (s : Sheet) → Refusal bs n p → Acceptance bs s → ⊥
never_both bs n p s r a =
    let e : judgement bs ≡ refused n p = refusal_judgement bs n p r in
    let h : judgement bs ≡ accepted s = acceptance_judgement bs s a in
    let z : ◌≡◌ {A = ℕ} 0 1 = cc in
    omega arith

-- Each fault of a sheet has one of the numbers 1 to 8.

field_number_lem : (m : Mark) → (5 ≤ field_number m) × (field_number m ≤ 7)
field_number_lem HZ = omega arith
field_number_lem ML = omega arith
field_number_lem MD = omega arith
field_number_lem TK = omega arith
field_number_lem (switch k) = omega arith
field_number_lem EN = omega arith

refusal_number : (bs : List ℕ) (n p : ℕ) → Refusal bs n p → (1 ≤ n) × (n ≤ 8)
refusal_number bs n p (no_mark rs f e g l k) = omega arith
refusal_number bs n p (unknown_mark rs f e g l u k) = omega arith
refusal_number bs n p (cut_short rs f e g l m u c k) = omega arith
refusal_number bs n p (out_of_order rs f e g m w o k) = omega arith
refusal_number bs n p (past_count rs f e g m w o c k) = omega arith
refusal_number bs n p (bad_field rs f e g m w o c v k) = omega (arith, field_number_lem m)
refusal_number bs n p (bytes_after rs f e g l k) = omega arith

pub refused_number_lem : (bs : List ℕ) (n p : ℕ) → judgement bs ≡ refused n p → (1 ≤ n) × (n ≤ 8)
refused_number_lem bs n p e = refusal_number bs n p (judgement_refusal bs n p e)
