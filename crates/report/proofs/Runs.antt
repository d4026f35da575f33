-- The lines of the runs, one by one as the tapes lie in the tape memory; and each mode of a tape is printed as one digit. Assumes nothing.
use mathlib.Core.Path.{◌≡◌, ap}
use mathlib.Core.List.{List, [], ◌∷◌, ◌++◌, append-nil, append_assoc}
use Prim.Native.Nat.{ℕ, zero, suc, ◌+◌, ◌*◌, ◌≤◌, ◌<◌}
use native.Mathlib.Nat.{add-zero, zero-add, mul-le-mul}
use native.Mathlib.Numerals.{add-one}
use native.Mathlib.Omega.{arith}
use lib.ListN.{length, take, drop, length-append, length-take}
use Rattle.model.specs.Lists.{All, Pairwise}
use Rattle.model.specs.Sheet.{Module}
use Rattle.model.specs.WellFormed.{ModuleRule}
use Rattle.model.specs.Run.{State, first, Listed, Run, later, IsRun}
use Rattle.model.specs.Tape.{tape_of, IsTape}
use Rattle.model.proofs.Runs.{later_run, second_next, first_listed, next_listed}
use Rattle.query.specs.Memory.{tapes_from, tapes_in}
use Rattle.lines.specs.Lines.{run_line, run_lines}
use Rattle.writing.specs.Writing.{Put, OneDigitEach}
use Rattle.writing.proofs.Writing.{put_none, put_more}
use Rattle.writing.proofs.Lengths.{run_length}

-- The tapes of b bytes in a memory.
module _ (b : ℕ) (memory : List ℕ) where
  abbrev tape_at : ℕ → List ℕ
  tape_at k = take b (drop (k * b) memory)

  runs_more : (j k : ℕ) → run_lines j (tapes_from j (suc k) b memory) ≡ run_lines j (tapes_from j k b memory) ++ run_line (j + k) (tape_at (j + k))
  unfolding run_lines
  runs_more j zero = rw (add-zero j) (append-nil (run_line j (tape_at j)))
  runs_more j (suc k) =
      let sum : j + suc k ≡ suc j + k = omega arith in
      rw (sum, append_assoc (run_line j (tape_at j)) (run_lines (suc j) (tapes_from (suc j) k b memory)) (run_line (suc j + k) (tape_at (suc j + k)))) (ap (λ (l : List ℕ). run_line j (tape_at j) ++ l) (runs_more (suc j) k))

  runs_length : (j n : ℕ) → j + n ≤ 10 → length (run_lines j (tapes_from j n b memory)) ≤ n * (7 + b)
  unfolding run_lines
  runs_length j zero h = omega arith
  runs_length j (suc n) h =
      let tape : length (tape_at j) ≤ b = simp length-take (omega arith) in
      omega (arith, length-append (run_line j (tape_at j)) (run_lines (suc j) (tapes_from (suc j) n b memory)), run_length 1 j (tape_at j) (omega arith) (omega arith), tape, runs_length (suc j) n (omega arith))

  pub tape_at_lem : (P : List ℕ → Type 0) (j n : ℕ) → All P (tapes_from j n b memory) → (k : ℕ) → k < n → P (tape_at (j + k))
  tape_at_lem P j zero h k l = absurd (omega arith)
  tape_at_lem P j (suc n) h zero l = rw (add-zero j) h.0
  tape_at_lem P j (suc n) h (suc k) l =
      let sum : j + suc k ≡ suc j + k = omega arith in
      rw sum (tape_at_lem P (suc j) n h.1 k (omega arith))

  pub runs_none : (at : ℕ) (o : List ℕ) → Put at at (run_lines 0 (tapes_in 0 b memory)) o o
  unfolding run_lines
  runs_none at o = put_none at o

  -- the lines of the first k runs are written
  module _ (k : ℕ) {at next : ℕ} {o o' : List ℕ} (p : Put at next (run_lines 0 (tapes_in k b memory)) o o') where
    pub run_room : (n : ℕ) → k < n → n ≤ 8 → b ≤ 2000 → at ≤ 149 → 16384 ≤ length o → next + length (run_line k (tape_at k)) ≤ length o'
    run_room n more few short low room =
        let tape : length (tape_at k) ≤ b = simp length-take (omega arith) in
        let all : (k + 1) * (7 + b) ≤ 8 * 2007 = mul-le-mul {n₂ = 8} {m₂ = 2007} (omega arith) (omega arith) in
        omega (arith, p.ends, p.len, runs_length 0 k (omega arith), run_length 1 k (tape_at k) (omega arith) (omega arith), tape, all)

    pub run_more : {end : ℕ} {o'' : List ℕ} → Put next end (run_line k (tape_at k)) o' o'' → Put at end (run_lines 0 (tapes_in (k + 1) b memory)) o o''
    run_more q =
        let one : run_lines 0 (tapes_from 0 (suc k) b memory) ≡ run_lines 0 (tapes_from 0 k b memory) ++ run_line k (tape_at k) = rw zero-add at (runs_more 0 k) in
        rw (add-one k, one) (put_more p q)

-- The modes of a run that starts in a listed state are listed.
run_digits : (m : Module) → ModuleRule m → (b : ℕ) (s : State) (ρ : Run) → Listed m s → IsRun m s ρ → OneDigitEach (tape_of ρ b)
run_digits m ok zero s ρ h r = tt
run_digits m ok (suc b) s ρ h r =
    let here : Listed m (ρ 0) = rw r.starts h in
    (omega (arith, here.mode, ok.most), run_digits m ok b (ρ 1) (later ρ) (next_listed m ok s (ρ 1) h (second_next m s ρ r)) (later_run m s ρ r))

pub tapes_digits : (a b : ℕ) (ms : List Module) (ts : List (List ℕ)) → All ModuleRule ms → Pairwise (λ (m : Module) (tape : List ℕ). IsTape m first a b tape) ms ts → All OneDigitEach ts
tapes_digits a b [] [] ok p = tt
tapes_digits a b [] (t ∷ ts) ok p = absurd p
tapes_digits a b (m ∷ ms) [] ok p = absurd p
tapes_digits a b (m ∷ ms) (t ∷ ts) ok p = (rw p.0.written at (run_digits m ok.0 b first p.0.run (first_listed m ok.0) p.0.is_run), tapes_digits a b ms ts ok.1 p.1)
