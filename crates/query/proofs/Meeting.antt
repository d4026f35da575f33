-- A call is given its figure exactly where its terms are met, and one that is refused is answered so; a sheet's fault goes before 9, and 9 before 10. And laws of
-- memory of which only the first numbers may differ. Assumes nothing.
use mathlib.Core.Path.{◌≡◌, refl, sym, ◌∙◌, ap}
use mathlib.Core.Bool.{Bool, true, false, cond}
use mathlib.Core.List.{List}
use Prim.Native.Nat.{ℕ, ◌+◌, ◌≤◌}
use native.Mathlib.Omega.{arith}
use lib.ListN.{length, get_or, drop, length-drop}
use lib.Seq.{get_or-drop, ext_get_or}
use Rattle.model.specs.Sheet.{Sheet}
use Rattle.format.specs.Judgement.{Judgement, judgement, sheet_in, Accepted}
use Rattle.query.specs.Answer.{refused, given, Terms, GivenBy, AnsweredBy, Answered, answer_of, answer, Meets, RefusedWith}
use Rattle.query.specs.Memory.{Stays}

module _ {A : Type 0} (t : Terms) (bytes : List ℕ) where
  pub met_given : Meets t bytes → (f : Sheet → A) → answer t f bytes ≡ given (f (sheet_in bytes))
  unfolding answer
  met_given met f = ap (answer_of t f) met.accepted ∙ rw (met.in_range, met.enough)

  -- and one that is given a figure has met them
  pub given_met : (f : Sheet → A) (v : A) → answer t f bytes ≡ given v → Meets t bytes
  unfolding answer
  given_met f v says = judged (judgement bytes) refl says
    where
      apart : {n p : ℕ} → refused n p ≡ given v → Meets t bytes
      apart q = let z : ◌≡◌ {A = ℕ} 0 1 = cc in absurd (omega arith)

      tests : (s : Sheet) → judgement bytes ≡ Judgement.accepted s → (i e : Bool) → t.in_range s ≡ i → t.enough s ≡ e
          → cond i (cond e (given (f s)) (refused 10 0)) (refused 9 0) ≡ given v → Meets t bytes
      tests s j true true g h q = record { accepted = rw j; in_range = rw j g; enough = rw j h }
      tests s j true false g h q = apart q
      tests s j false true g h q = apart q
      tests s j false false g h q = apart q

      judged : (j : Judgement) → judgement bytes ≡ j → answer_of t f j ≡ given v → Meets t bytes
      judged (Judgement.refused n p) e q = apart q
      judged (Judgement.accepted s) e q = tests s e (t.in_range s) (t.enough s) refl refl q

  pub fault_refused : {number place : ℕ} → judgement bytes ≡ Judgement.refused number place → RefusedWith A t bytes number place
  unfolding answer
  fault_refused e f = ap (answer_of t f) e

  pub range_refused : Accepted bytes → t.in_range (sheet_in bytes) ≡ false → RefusedWith A t bytes 9 0
  unfolding answer
  range_refused accepted out f = ap (answer_of t f) accepted ∙ rw out

  pub memory_refused : Accepted bytes → t.in_range (sheet_in bytes) ≡ true → t.enough (sheet_in bytes) ≡ false → RefusedWith A t bytes 10 0
  unfolding answer
  memory_refused accepted in_range short f = ap (answer_of t f) accepted ∙ rw (in_range, short)

-- What a call is answered whose terms are met, or which is refused.
module _ {A : Type 0} (t : Terms) (R : Sheet → A → Type 0) (bytes : List ℕ) where
  pub met_answered : Meets t bytes → (v : A) → R (sheet_in bytes) v → Answered t R bytes (given v)
  met_answered met v h = rw (met.accepted, met.in_range, met.enough) (v, refl, h)

  pub refused_answered : {n p : ℕ} → RefusedWith A t bytes n p → (Sheet → A) → Answered t R bytes (refused n p)
  unfolding answer
  refused_answered {n} {p} says f = judged (judgement bytes) (says f)
    where
      tests : (i e : Bool) (s : Sheet) → cond i (cond e (given (f s)) (refused 10 0)) (refused 9 0) ≡ refused n p → GivenBy i e (R s) (refused n p)
      tests true true s q = let z : ◌≡◌ {A = ℕ} 0 1 = cc in absurd (omega arith)
      tests true false s q = sym q
      tests false true s q = sym q
      tests false false s q = sym q

      judged : (j : Judgement) → answer_of t f j ≡ refused n p → AnsweredBy t R j (refused n p)
      judged (Judgement.refused m o) q = sym q
      judged (Judgement.accepted s) q = tests (t.in_range s) (t.enough s) s q

-- Memory that stays.

pub stays_untouched : (n : ℕ) (w : List ℕ) → Stays n w w
stays_untouched n w = record { len = refl; above = refl }

pub stays_agree : {n : ℕ} {w u v : List ℕ} → Stays n w u → Stays n w v → Stays n u v
stays_agree g h = record { len = h.len ∙ sym g.len; above = h.above ∙ sym g.above }

pub stays_more : {n : ℕ} {w w' w'' : List ℕ} → Stays n w w' → Stays n w' w'' → Stays n w w''
stays_more old new = record { len = new.len ∙ old.len; above = new.above ∙ old.above }

-- number by number
pub stays_by : (n : ℕ) (w w' : List ℕ) → length w' ≡ length w → ((x : ℕ) → n ≤ x → get_or w' x 0 ≡ get_or w x 0) → Stays n w w'
stays_by n w w' len same =
    let long : length (drop n w') ≡ length (drop n w) = omega (arith, length-drop n w', length-drop n w) in
    record { len = len; above = ext_get_or 0 (drop n w') (drop n w) long (λ x l. get_or-drop n w' x 0 ∙ same (n + x) (omega arith) ∙ sym (get_or-drop n w x 0)) }
