-- Refusal and acceptance as relations, line by line as document 01, 'Refusal numbers', has them. Assumes nothing.
use Rattle.std.specs.Prelude.{◌≡◌, true, false, List, [], ◌∷◌, ℕ, ◌+◌, ◌≤◌, ◌<◌, length, get_or}
use Rattle.std.proofs.Math.Option.{none, some}
use Rattle.model.specs.Lists.{sum_of}
use Rattle.model.specs.Sheet.{Sheet}
use Rattle.format.specs.Record.{Mark, Record, mark_of, size, mark_at, record_at}
use Rattle.format.specs.Rules.{ended, ordered, counted, ruled, field_number, Sound}
use Rattle.format.specs.Judgement.{gathered}

-- each element of the list is a byte
abbrev pub AreBytes : List ℕ → Type 0
AreBytes bs = (i : ℕ) → get_or bs i 0 < 256

-- where the records end
abbrev pub bytes_in : List Record → ℕ
bytes_in rs = sum_of (λ (r : Record). size (mark_of r)) rs

-- a record of this mark stands whole at the place p
pub record Whole (bs : List ℕ) (p : ℕ) (m : Mark) : Type 0 where
  pub mark : mark_at bs p ≡ some m
  pub fits : p + size m ≤ length bs

-- the records rs, the last one first, are those at the front of the bytes, and all are sound
abbrev pub Front : List ℕ → List Record → Type 0
Front bs [] = Unit {0}
Front bs (r ∷ rs) = Front bs rs × (ended rs ≡ false) × Whole bs (bytes_in rs) (mark_of r) × (record_at (mark_of r) bs (bytes_in rs) ≡ r) × Sound rs r

-- The bytes are refused with the number n at the place p: the records before p are sound, and this is the first failing test there.
pub data Refusal (bs : List ℕ) (n p : ℕ) : Type 0 where
  no_mark : (rs : List Record) → Front bs rs → p ≡ bytes_in rs → ended rs ≡ false → length bs < p + 2 → n ≡ 1 → Refusal bs n p
  unknown_mark : (rs : List Record) → Front bs rs → p ≡ bytes_in rs → ended rs ≡ false → p + 2 ≤ length bs → mark_at bs p ≡ none → n ≡ 2 → Refusal bs n p
  cut_short : (rs : List Record) → Front bs rs → p ≡ bytes_in rs → ended rs ≡ false → p + 2 ≤ length bs → (m : Mark) → mark_at bs p ≡ some m → length bs < p + size m → n ≡ 1 → Refusal bs n p
  out_of_order : (rs : List Record) → Front bs rs → p ≡ bytes_in rs → ended rs ≡ false → (m : Mark) → Whole bs p m → ordered m rs ≡ false → n ≡ 3 → Refusal bs n p
  past_count : (rs : List Record) → Front bs rs → p ≡ bytes_in rs → ended rs ≡ false → (m : Mark) → Whole bs p m → ordered m rs ≡ true → counted m rs ≡ false → n ≡ 4 → Refusal bs n p
  bad_field : (rs : List Record) → Front bs rs → p ≡ bytes_in rs → ended rs ≡ false → (m : Mark) → Whole bs p m → ordered m rs ≡ true → counted m rs ≡ true → ruled (record_at m bs p) rs ≡ false → n ≡ field_number m → Refusal bs n p
  bytes_after : (rs : List Record) → Front bs rs → p ≡ bytes_in rs → ended rs ≡ true → p < length bs → n ≡ 8 → Refusal bs n p

-- The bytes are accepted: they are sound records, the last of them EN, and nothing more; the sheet is their value.
pub record Acceptance (bs : List ℕ) (s : Sheet) : Type 0 where
  pub read : List Record
  pub front : Front bs read
  pub closes : ended read ≡ true
  pub all : bytes_in read ≡ length bs
  pub value : gathered read ≡ s
