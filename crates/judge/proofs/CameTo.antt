-- A state that stands for sound records at the front of the bytes: its numbers are within their limits, a step leads to another one or to the refusal, and the end of the records to the refusal of what follows or to the counts. Assumes nothing.
use mathlib.Core.Path.{◌≡◌, refl, sym, ◌∙◌, ap, subst}
use mathlib.Core.Bool.{true, false}
use mathlib.Core.List.{List, [], ◌∷◌}
use Prim.Native.Nat.{ℕ, ◌≤◌, ◌<◌}
use native.Mathlib.Omega.{arith}
use lib.ListN.{length}
use borrow.Author.Tests.{lt-ltb, le-ltb}
use Rattle.model.specs.Sheet.{Task, Switch, Mode, Module}
use Rattle.format.specs.Record.{Record, hz, ml, md, tk, sw, en}
use Rattle.format.specs.Rules.{ended}
use Rattle.format.specs.Judgement.{refused, accepted, gather, gathered, Tested, fault, sound, tested, judgement}
use Rattle.format.specs.Refusal.{bytes_in, Front}
use Rattle.format.proofs.Sizes.{Small, small, sound_size, length_bytes}
use Rattle.format.proofs.Judging.{Next, tested_next, front_fits, refused_there, closed_there}
use Rattle.format.proofs.RoundTrip.{front_sound, ended_listed}
use Rattle.std.specs.Prelude.{Result, Ok, Err}
use Rattle.judge.specs.declared.Refusal.{Refusal}
use Rattle.judge.specs.declared.Sheet.{Sheet}
use Rattle.judge.specs.Told.{number_of, told_accepted, tells_of}
use Rattle.judge.specs.Reading.{horizon_read, Reads, Within, Turned, Steps}

pub record CameTo (bs : List ℕ) (st : Sheet) : Type 0 where
  pub read : List Record
  pub front : Front bs read
  pub state : Reads bs st read

-- before the first record
pub begins : (bs : List ℕ) (st : Sheet) → Reads bs st [] → CameTo bs st
begins bs st h = record { read = []; front = tt; state = h }

module _ (bs : List ℕ) (st : Sheet) (r : CameTo bs st) where
  pub within : st.ended ≡ false → Within bs st
  within g =
      let s = front_sound bs r.read r.front in
      let h : Reads bs st r.read = r.state in
      let q : Small r.read = small r.read s in
      let inside : bytes_in r.read ≤ length bs = front_fits bs r.read r.front in
      let size = sound_size r.read s in
      let many = length_bytes r.read in
      record {
        inside = omega arith;
        bytes = omega (arith, size);
        records = omega (arith, many);
        modules = omega arith;
        modes = omega arith;
        tasks = omega arith;
        switches = omega arith;
        stated = omega arith;
        seen = omega arith;
        held = omega arith;
        tasks_passed = h.tasks_passed;
        going = g;
      }

  open_end : st.ended ≡ false → ended r.read ≡ false
  open_end g = sym r.state.ended ∙ g

  -- one step on
  module _ (g : st.ended ≡ false) where
    by_test : (n : Sheet) (t : Result (Unit {0}) Refusal) → Steps bs st n t → (x : Tested) → tested bs st.at r.read ≡ x → Turned bs st n t r.read x
    by_test n t s x e = subst (Turned bs st n t r.read) e (s r.read r.state)

    next_test : (x : Tested) → tested bs st.at r.read ≡ x → Next bs r.read x
    next_test x e =
        subst (Next bs r.read) (ap (λ p. tested bs p r.read) (sym r.state.at) ∙ e) (tested_next bs r.read r.front (open_end g))

    -- a sound record leads on, within the bytes
    pub goes_on : (n : Sheet) → Steps bs st n (Ok tt) → CameTo bs n × (st.at < n.at) × (n.at ≤ length bs)
    unfolding Turned
    goes_on n s = pick (tested bs st.at r.read) refl
      where
        pick : (x : Tested) → tested bs st.at r.read ≡ x → CameTo bs n × (st.at < n.at) × (n.at ≤ length bs)
        pick (fault k) q = absurd (by_test n (Ok tt) s (fault k) q)
        pick (sound x) q =
            let f : Front bs (x ∷ r.read) = next_test (sound x) q in
            let h : Reads bs n (x ∷ r.read) = by_test n (Ok tt) s (sound x) q in
            (record { read = x ∷ r.read; front = f; state = h }, omega (arith, r.state.at), omega (arith, front_fits bs (x ∷ r.read) f))

    -- a fault is the refusal
    pub is_refused : (n : Sheet) (f : Refusal) → Steps bs st n (Err f) → judgement bs ≡ refused (number_of f.fault) f.place
    unfolding Turned
    is_refused n f s = pick (tested bs st.at r.read) refl
      where
        pick : (x : Tested) → tested bs st.at r.read ≡ x → judgement bs ≡ refused (number_of f.fault) f.place
        pick (fault m) q =
            let h : (number_of f.fault ≡ m) × (f.place ≡ st.at) = by_test n (Err f) s (fault m) q in
            refused_there bs (number_of f.fault) f.place r.read r.front (h.1 ∙ r.state.at) (open_end g) (rw (h.1, h.0) q)
        pick (sound x) q = absurd (by_test n (Err f) s (sound x) q)

  -- EN is read
  module _ (e : st.ended ≡ true) where
    closes : ended r.read ≡ true
    closes = sym r.state.ended ∙ e

    -- bytes after it
    pub is_followed : st.at < length bs → judgement bs ≡ refused 8 st.at
    is_followed l =
        closed_there bs r.read r.front closes ∙ rw (← r.state.at, lt-ltb st.at (length bs) l)

    pub is_whole : length bs ≤ st.at → judgement bs ≡ accepted (gathered r.read)
    is_whole l = closed_there bs r.read r.front closes ∙ rw (← r.state.at, le-ltb st.at (length bs) l)

-- the horizon is that of HZ, whatever is pending
gathered_horizon : (rs : List Record) (ks : List Task) (ws : List Switch) (os : List Mode) (ms : List Module) → (gather rs ks ws os ms).horizon ≡ horizon_read rs
unfolding gather
gathered_horizon [] ks ws os ms = refl
gathered_horizon (hz h ∷ rs) ks ws os ms = refl
gathered_horizon (ml n ∷ rs) ks ws os ms = gathered_horizon rs _ _ _ _
gathered_horizon (md p ∷ rs) ks ws os ms = gathered_horizon rs _ _ _ _
gathered_horizon (tk k ∷ rs) ks ws os ms = gathered_horizon rs _ _ _ _
gathered_horizon (sw w ∷ rs) ks ws os ms = gathered_horizon rs _ _ _ _
gathered_horizon (en n ∷ rs) ks ws os ms = gathered_horizon rs _ _ _ _

-- The state at the end has the counts and the horizon of the sheet.
pub is_accepted : (bs : List ℕ) (st : Sheet) → CameTo bs st → st.ended ≡ true → length bs ≤ st.at
    → told_accepted (record { modules = st.modules; modes = st.modes; tasks = st.tasks; switches = st.switches }) st.horizon ≡ tells_of (judgement bs)
is_accepted bs st r e l =
    let h : Reads bs st r.read = r.state in
    let c = (ended_listed r.read (closes bs st r e) (front_sound bs r.read r.front)).all_counted in
    let z = gathered_horizon r.read [] [] [] [] in
    rw (is_whole bs st r e l, c, z, ← h.modules, ← h.modes, ← h.tasks, ← h.switches, ← h.horizon)
