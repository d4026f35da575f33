-- The judgement accepts a byte list exactly when it is the encoding of a well_formed sheet value, and then gives that value; what it accepts has at most
-- 3,624 bytes, and no place that it names is past them. Assumes nothing.
use mathlib.Core.Path.{◌≡◌, sym, ◌∙◌, ap, subst}
use mathlib.Core.Bool.{true, false≢true}
use mathlib.Core.List.{List, [], ◌∷◌, reverse, reverse-reverse, reverse_aux-append, append-nil}
use Prim.Native.Nat.{ℕ, ◌≤◌}
use native.Mathlib.Omega.{arith}
use lib.ListN.{length, take}
use lib.Seq.{take-length}
use Rattle.model.specs.Sheet.{Sheet, counts}
use Rattle.model.specs.Limits.{max_bytes}
use Rattle.model.specs.WellFormed.{WellFormed}
use Rattle.format.specs.Record.{Record, hz, ml, md, tk, sw, en}
use Rattle.format.specs.Encoding.{joined, records, record_bytes, encode}
use Rattle.format.specs.Rules.{ended, AllSound}
use Rattle.format.specs.Judgement.{refused, accepted, gathered, judgement}
use Rattle.format.specs.Refusal.{AreBytes, bytes_in, Front, Refusal, no_mark, unknown_mark, cut_short, out_of_order, past_count, bad_field, bytes_after, Acceptance}
use Rattle.format.proofs.Sizes.{sound_size, fields_fit, longest, longest_well_formed, longest_length}
use Rattle.format.proofs.Gathering.{counts_read, gathered_records, gathered_well_formed, gathered_counts}
use Rattle.format.proofs.Listing.{records_gathered, records_sound}
use Rattle.format.proofs.Judging.{judgement_refusal, judgement_acceptance, acceptance_judgement}
use Rattle.format.proofs.Bytes.{length_joined, bytes_joined, front_bytes, front_of}

pub front_sound : (bs : List ℕ) (rs : List Record) → Front bs rs → AllSound rs
front_sound bs [] f = tt
front_sound bs (r ∷ rs) f = (front_sound bs rs f.0, f.1, f.4)

-- what is shown of the value of records that have come to their end
pub record Listed (rs : List Record) : Type 0 where
  pub well_formed : WellFormed (gathered rs)
  pub in_order : records (gathered rs) ≡ reverse rs
  pub all_counted : counts (gathered rs) ≡ counts_read rs

pub ended_listed : (rs : List Record) → ended rs ≡ true → AllSound rs → Listed rs
ended_listed [] e a = absurd (false≢true e)
ended_listed (hz h ∷ rs) e a = absurd (false≢true e)
ended_listed (ml n ∷ rs) e a = absurd (false≢true e)
ended_listed (md p ∷ rs) e a = absurd (false≢true e)
ended_listed (tk k ∷ rs) e a = absurd (false≢true e)
ended_listed (sw w ∷ rs) e a = absurd (false≢true e)
ended_listed (en n ∷ rs) e a = record { well_formed = gathered_well_formed rs n a; in_order = gathered_records rs n a; all_counted = gathered_counts rs n a }

module _ (bs : List ℕ) (s : Sheet) (e : judgement bs ≡ accepted s) where
  read : Acceptance bs s
  read = judgement_acceptance bs s e

  listed : Listed read.read
  listed = ended_listed read.read read.closes (front_sound bs read.read read.front)

  -- What is accepted is a well_formed value ..
  pub accepted_well_formed : WellFormed s
  accepted_well_formed = subst WellFormed read.value listed.well_formed

  -- .. of which the bytes are the encoding.
  pub accepted_encoded : AreBytes bs → encode s ≡ bs
  unfolding encode
  accepted_encoded h =
      ap encode (sym read.value)
      ∙ ap (joined record_bytes) listed.in_order
      ∙ sym (front_bytes bs h read.read read.front)
      ∙ ap (λ (n : ℕ). take n bs) read.all
      ∙ take-length bs

  pub accepted_size : length bs ≤ max_bytes
  accepted_size = omega (arith, sound_size read.read (front_sound bs read.read read.front), read.all)

module _ (s : Sheet) (h : WellFormed s) where
  -- the records of the value, the last one first
  last_first : List Record
  last_first = reverse (records s)

  encoded : encode s ≡ joined record_bytes (reverse last_first)
  unfolding encode last_first
  encoded = ap (joined record_bytes) (sym (reverse-reverse (records s)))

  ends : ended last_first ≡ true
  unfolding last_first records
  ends = rw reverse_aux-append

  front : Front (encode s) last_first
  unfolding last_first
  front =
      let a : AllSound last_first = records_sound s h in
      subst (λ (bs : List ℕ). Front bs last_first) (append-nil _ ∙ sym encoded) (front_of last_first a [])

  -- The encoding of a well_formed value is a list of bytes ..
  pub encoded_bytes : AreBytes (encode s)
  unfolding last_first
  encoded_bytes = subst AreBytes (sym encoded) (bytes_joined last_first (fields_fit last_first (records_sound s h)))

  -- .. that is accepted with that value.
  pub encoded_accepted : judgement (encode s) ≡ accepted s
  unfolding last_first
  encoded_accepted =
      acceptance_judgement (encode s) s
      (record { read = last_first; front = front; closes = ends; all = sym (ap length encoded ∙ length_joined last_first); value = records_gathered s })

-- The records before a refusal's place are sound.
refusal_front : (bs : List ℕ) (n p : ℕ) → Refusal bs n p → (rs : List Record) × Front bs rs × (p ≡ bytes_in rs)
refusal_front bs n p (no_mark rs f e g l k) = (rs, f, e)
refusal_front bs n p (unknown_mark rs f e g l u k) = (rs, f, e)
refusal_front bs n p (cut_short rs f e g l m u c k) = (rs, f, e)
refusal_front bs n p (out_of_order rs f e g m w o k) = (rs, f, e)
refusal_front bs n p (past_count rs f e g m w o c k) = (rs, f, e)
refusal_front bs n p (bad_field rs f e g m w o c v k) = (rs, f, e)
refusal_front bs n p (bytes_after rs f e g l k) = (rs, f, e)

pub refused_place : (bs : List ℕ) (n p : ℕ) → judgement bs ≡ refused n p → p ≤ max_bytes
refused_place bs n p e =
    let r = refusal_front bs n p (judgement_refusal bs n p e) in
    omega (arith, r.2, sound_size r.0 (front_sound bs r.0 r.1))

-- One byte list of 3,624 bytes is accepted.
pub longest_accepted : (bs : List ℕ) × (length bs ≡ max_bytes) × (judgement bs ≡ accepted longest)
longest_accepted = (encode longest, longest_length, encoded_accepted longest longest_well_formed)
