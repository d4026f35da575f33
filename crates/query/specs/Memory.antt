-- What a call leaves of the memory that is lent to it, and how tapes lie there (document 01, 'Refusal numbers' and 'Runs'). Assumes nothing.
use Rattle.std.specs.Prelude.{◌≡◌, List, [], ◌∷◌, ℕ, zero, suc, ◌*◌, length, take, drop}
use Rattle.model.specs.Limits.{work_numbers}
use Rattle.model.specs.Verdict.{Exact, clear, over}
use Rattle.query.specs.Answer.{Answer, refused, given}
use Rattle.query.specs.Query.{Witnessed}

-- of memory that came as w and is left as w' only the first n numbers may differ
pub record Stays (n : ℕ) (w w' : List ℕ) : Type 0 where
  pub len : length w' ≡ length w
  pub above : drop n w' ≡ drop n w

-- how much of the working memory a call uses: a refused one nothing
abbrev pub work_used : {A : Type 0} → Answer A → ℕ
work_used (refused number place) = 0
work_used (given v) = work_numbers

-- the tapes of n modules, of b bytes each: in the tape memory module k's tape begins at byte k × b
abbrev pub tapes_from : ℕ → ℕ → ℕ → List ℕ → List (List ℕ)
tapes_from k zero b memory = []
tapes_from k (suc n) b memory = take b (drop (k * b) memory) ∷ tapes_from (suc k) n b memory

abbrev pub tapes_in : ℕ → ℕ → List ℕ → List (List ℕ)
tapes_in n b memory = tapes_from 0 n b memory

-- how much of the tape memory a call of a sheet of n modules uses: nothing unless it is over, and then so many tapes of b bytes
abbrev pub verdict_used : ℕ → Exact → ℕ
verdict_used n clear = 0
verdict_used n (over a b v) = n * b

abbrev pub tape_used : ℕ → Answer Witnessed → ℕ
tape_used n (refused number place) = 0
tape_used n (given w) = verdict_used n w.verdict
