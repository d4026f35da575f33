-- What an answer tells is told by no other one, so that at most one answer meets the contract of `judge`; and what a caller learns of the bytes from an answer of each kind. Assumes nothing.
use mathlib.Core.Path.{◌≡◌, refl, sym, ◌∙◌, ap}
use mathlib.Core.Bool.{false}
use mathlib.Core.List.{List, [], ◌∷◌}
use lib.ListN.{get_or}
use Prim.Native.Nat.{ℕ}
use native.Mathlib.Omega.{arith}
use lib.Seq.{ext_get_or}
use borrow.Author.Tests.{not-true}
use Rattle.model.specs.Sheet.{Counts, counts}
use Rattle.format.specs.Judgement.{Judgement, refused, accepted, judgement, sheet_in, Accepted as IsAccepted}
use Rattle.std.specs.Prelude.{Result, Ok, Err}
use Rattle.judge.specs.declared.Fault.{Fault}
use Rattle.judge.specs.declared.Fault.TheVariants.{CutShort, UnknownMark, OutOfOrder, PastCount, BadField, BadSwitch, BadEnd, BytesAfter, OutOfRange, MemoryTooSmall}
use Rattle.judge.specs.declared.Judged.{Judged}
use Rattle.judge.specs.declared.Refusal.{Refusal}
use Rattle.judge.specs.declared.Sheet.{Sheet}
use Rattle.judge.specs.Reading.{Reads}
use Rattle.judge.specs.Told.{number_of, told_accepted, told, tells_of}

-- the numbers of two accepted answers that tell the same
module _ {c d : Counts} {h k : ℕ} (e : told_accepted c h ≡ told_accepted d k) where
  same_counts : c ≡ d
  same_counts = cc

  same_horizon : h ≡ k
  same_horizon = cc

-- a fault has a number of its own
fault_of : ℕ → Fault
fault_of n = get_or (MemoryTooSmall ∷ CutShort ∷ UnknownMark ∷ OutOfOrder ∷ PastCount ∷ BadField ∷ BadSwitch ∷ BadEnd ∷ BytesAfter ∷ OutOfRange ∷ []) n MemoryTooSmall

numbered : (f : Fault) → fault_of (number_of f) ≡ f
unfolding fault_of
numbered CutShort = refl
numbered UnknownMark = refl
numbered OutOfOrder = refl
numbered PastCount = refl
numbered BadField = refl
numbered BadSwitch = refl
numbered BadEnd = refl
numbered BytesAfter = refl
numbered OutOfRange = refl
numbered MemoryTooSmall = refl

pub number_injective : (f g : Fault) → number_of f ≡ number_of g → f ≡ g
number_injective f g e = sym (numbered f) ∙ ap fault_of e ∙ numbered g

-- .. and a refusal is told by the number of its fault and its place
pub refusal_same : (a b : Refusal) → number_of a.fault ≡ number_of b.fault → a.place ≡ b.place → a ≡ b
refusal_same a b number place = λ i. record { fault = number_injective a.fault b.fault number i; place = place i }

told_injective : (r q : Result Judged Refusal) → told r ≡ told q → r ≡ q
told_injective (Err a) (Err b) e =
    let number : number_of a.fault ≡ number_of b.fault = cc in
    let place : a.place ≡ b.place = cc in
    ap Err (refusal_same a b number place)
told_injective (Err a) (Ok b) e = cc
told_injective (Ok a) (Err b) e = cc
told_injective (Ok a) (Ok b) e =
    let same = same_counts e in
    λ i. Ok (record { modules = (same i).modules; modes = (same i).modes; tasks = (same i).tasks; switches = (same i).switches; horizon = same_horizon e i })

-- At most one answer meets the contract.
pub judged_unique : (bs : List ℕ) (r q : Result Judged Refusal) → told r ≡ tells_of (judgement bs) → told q ≡ tells_of (judgement bs) → r ≡ q
judged_unique bs r q e f = told_injective r q (e ∙ sym f)

-- At most one state stands for no record.
pub new_unique : (r q : Sheet) → ((bs : List ℕ) → Reads bs r []) → ((bs : List ℕ) → Reads bs q []) → r ≡ q
new_unique r q f g =
    let h : Reads [] r [] = f [] in
    let k : Reads [] q [] = g [] in
    let from : r.from ≡ q.from = omega (arith, h.tasks_passed, h.at, k.tasks_passed, k.at) in
    let named : r.named ≡ q.named = ext_get_or false r.named q.named (h.named_room ∙ sym k.named_room) (λ t l. h.named t ∙ sym (k.named t)) in
    λ i. record {
      at = (h.at ∙ sym k.at) i;
      records = (h.records ∙ sym k.records) i;
      horizon = (h.horizon ∙ sym k.horizon) i;
      modules = (h.modules ∙ sym k.modules) i;
      modes = (h.modes ∙ sym k.modes) i;
      tasks = (h.tasks ∙ sym k.tasks) i;
      switches = (h.switches ∙ sym k.switches) i;
      stated = (h.stated ∙ sym k.stated) i;
      seen = (h.seen ∙ sym k.seen) i;
      period = (h.period ∙ sym k.period) i;
      from = from i;
      held = (h.held ∙ sym k.held) i;
      switching = (not-true r.switching h.switching ∙ sym (not-true q.switching k.switching)) i;
      ended = (h.ended ∙ sym k.ended) i;
      named = named i;
    }

-- The bytes are accepted, with these counts and this horizon.
pub record AcceptedWith (bs : List ℕ) (a : Judged) : Type 0 where
  pub is_accepted : IsAccepted bs
  pub modules_are : a.modules ≡ (counts (sheet_in bs)).modules
  pub modes_are : a.modes ≡ (counts (sheet_in bs)).modes
  pub tasks_are : a.tasks ≡ (counts (sheet_in bs)).tasks
  pub switches_are : a.switches ≡ (counts (sheet_in bs)).switches
  pub horizon_is : a.horizon ≡ (sheet_in bs).horizon

-- What an accepted answer says of the bytes.
pub accepted_told : (a : Judged) (bs : List ℕ) → told (Ok a) ≡ tells_of (judgement bs) → AcceptedWith bs a
accepted_told a bs e = pick (judgement bs) refl e
  where
    pick : (j : Judgement) → judgement bs ≡ j → told (Ok a) ≡ tells_of j → AcceptedWith bs a
    pick (refused n p) q t =
        let z : ◌≡◌ {A = ℕ} 0 1 = cc in
        absurd (omega arith)
    pick (accepted s) q t =
        record {
          is_accepted = rw q;
          modules_are = rw q (ap (λ (x : Counts). x.modules) (same_counts t));
          modes_are = rw q (ap (λ (x : Counts). x.modes) (same_counts t));
          tasks_are = rw q (ap (λ (x : Counts). x.tasks) (same_counts t));
          switches_are = rw q (ap (λ (x : Counts). x.switches) (same_counts t));
          horizon_is = rw q (same_horizon t);
        }

-- What a refused answer says of the bytes.
pub refused_told : (r : Refusal) (bs : List ℕ) → told (Err r) ≡ tells_of (judgement bs) → judgement bs ≡ refused (number_of r.fault) r.place
refused_told r bs e = pick (judgement bs) refl e
  where
    pick : (j : Judgement) → judgement bs ≡ j → told (Err r) ≡ tells_of j → judgement bs ≡ refused (number_of r.fault) r.place
    pick (refused n p) q t =
        let same_number : number_of r.fault ≡ n = cc in
        let same_place : r.place ≡ p = cc in
        rw (same_number, same_place) q
    pick (accepted s) q t =
        let z : ◌≡◌ {A = ℕ} 0 1 = cc in
        absurd (omega arith)
