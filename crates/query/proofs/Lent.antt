-- What a call leaves of lent memory, byte by byte, and where tapes lie in it, in document 01's words. Assumes nothing.
use mathlib.Core.Path.{◌≡◌, refl, sym, ◌∙◌, ap}
use mathlib.Core.Logic.{◌↔◌}
use mathlib.Core.List.{List, []}
use Prim.Native.Nat.{ℕ, zero, suc, ◌+◌, ◌-◌, ◌*◌, ◌≤◌, ◌<◌}
use native.Mathlib.Nat.{add-zero, zero-add, mul-le-mul_right, le_of_suc-le-suc}
use native.Mathlib.Omega.{arith}
use lib.ListN.{length, get_or, take, drop, length-drop}
use lib.Seq.{length-take-le, get_or-take, get_or-drop}
use Rattle.model.specs.Verdict.{clear, over}
use Rattle.query.specs.Answer.{refused, given}
use Rattle.query.specs.Memory.{Stays, work_used, tapes_from, tapes_in, tape_used}
use Rattle.query.proofs.Meeting.{stays_untouched, stays_by}

-- as long as it was, and each number from the number n on is what it was
abbrev pub SameFrom : ℕ → List ℕ → List ℕ → Type 0
SameFrom n w w' = (length w' ≡ length w) × ((x : ℕ) → n ≤ x → get_or w' x 0 ≡ get_or w x 0)

pub stays_same : (n : ℕ) (w w' : List ℕ) → Stays n w w' ↔ SameFrom n w w'
stays_same n w w' = (λ h. (h.len, same h), λ h. stays_by n w w' h.0 h.1)
  where
    same : Stays n w w' → (x : ℕ) → n ≤ x → get_or w' x 0 ≡ get_or w x 0
    same h x l =
        let behind : n + (x - n) ≡ x = omega arith in
        rw behind at (sym (get_or-drop n w' (x - n) 0) ∙ ap (λ (l : List ℕ). get_or l (x - n) 0) h.above ∙ get_or-drop n w (x - n) 0)

nothing_used : (w w' : List ℕ) → Stays 0 w w' ↔ (w' ≡ w)
nothing_used w w' = (λ h. h.above, λ e. rw e (stays_untouched 0 w))

module _ (w w' : List ℕ) where
  -- a refusal changes no number of the working memory
  pub refused_work : (A : Type 0) (number place : ℕ) → Stays (work_used {A = A} (refused number place)) w w' ↔ (w' ≡ w)
  refused_work A number place = nothing_used w w'

  -- and an answer none past the 16,384th
  pub given_work : {A : Type 0} (v : A) → Stays (work_used (given v)) w w' ↔ SameFrom 16384 w w'
  given_work v = stays_same 16384 w w'

-- n modules
module _ (n : ℕ) (t t' : List ℕ) where
  -- nor does a refusal change a byte of the tape memory
  pub refused_tape : (number place : ℕ) → Stays (tape_used n (refused number place)) t t' ↔ (t' ≡ t)
  refused_tape number place = nothing_used t t'

  -- on clear all stay
  pub clear_tape : (ts : List (List ℕ)) → Stays (tape_used n (given (record { verdict = clear; tapes = ts }))) t t' ↔ (t' ≡ t)
  clear_tape ts = nothing_used t t'

  -- on over the other bytes stay: those past the tapes
  pub over_tape : (a b v : ℕ) (ts : List (List ℕ)) → Stays (tape_used n (given (record { verdict = over a b v; tapes = ts }))) t t' ↔ SameFrom (n * b) t t'
  over_tape a b v ts = stays_same (n * b) t t'

-- The tapes.

module _ (b : ℕ) (memory : List ℕ) where
  from_count : (j n : ℕ) → length (tapes_from j n b memory) ≡ n
  from_count j zero = refl
  from_count j (suc n) = ap suc (from_count (suc j) n)

  from_at : (j n k : ℕ) → k < n → get_or (tapes_from j n b memory) k [] ≡ take b (drop ((j + k) * b) memory)
  from_at j zero k l = absurd (omega arith)
  from_at j (suc n) zero l = rw (add-zero j)
  from_at j (suc n) (suc k) l =
      let sum : j + suc k ≡ suc j + k = omega arith in
      rw sum (from_at (suc j) n k (le_of_suc-le-suc l))

  -- as many as there are modules
  pub tapes_count : (n : ℕ) → length (tapes_in n b memory) ≡ n
  tapes_count n = from_count 0 n

  -- one byte for each of the b ticks, and module k's tape begins at byte k × b
  pub tape_bytes : (n k : ℕ) → k < n → n * b ≤ length memory
      → (length (get_or (tapes_in n b memory) k []) ≡ b) × ((t : ℕ) → t < b → get_or (get_or (tapes_in n b memory) k []) t 0 ≡ get_or memory (k * b + t) 0)
  tape_bytes n k l long = (
    rw here (length-take-le b (drop (k * b) memory) (omega (arith, length-drop (k * b) memory, mul-le-mul_right b l))),
    λ t m. rw here (get_or-take b (drop (k * b) memory) t 0 m ∙ get_or-drop (k * b) memory t 0),
  )
    where
      here : get_or (tapes_in n b memory) k [] ≡ take b (drop (k * b) memory)
      here = from_at 0 n k l ∙ rw (zero-add k)
