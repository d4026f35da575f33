-- The tests of one record, told by the state that stands for the records before it, and what the state knows of the open mode. Assumes nothing.
use mathlib.Core.Path.{◌≡◌, refl, sym, ◌∙◌, ap}
use mathlib.Core.Bool.{Bool, true, false, not, ◌||◌, and-true, and-false, and_comm, and-eq-true_iff, false≢true}
use mathlib.Core.Option.{none, some}
use mathlib.Core.List.{List, [], ◌∷◌, map}
use Prim.Native.Nat.{ℕ, zero, suc, ◌+◌, ◌*◌, ◌≤◌, ◌<◌}
use Rattle.std.specs.Prelude.{Result, Ok, Err}
use Rattle.std.specs.List.{list_all, range_with_len}
use Rattle.std.proofs.lemmas.List.Folds.{list_all-append, list_all-map}
use native.Mathlib.Numerals.{add-one}
use native.Mathlib.Omega.{arith}
use lib.Dec.{leb, ltb, eqb}
use lib.ListN.{length, get_or, set, replicate, length-set}
use lib.Seq.{get_or-set_same, get_or-set_other}
use borrow.Author.Tests.{leb-true, eqb-true, eqb-false, ne_eqb, ltb-true, lt-ltb}
use Rattle.model.specs.Sheet.{Task, Switch, named}
use Rattle.model.specs.Limits.{max_modes}
use Rattle.format.specs.Record.{Mark, HZ, ML, MD, TK, switch, EN, Record, hz, ml, md, tk, sw, en, mark_of, size, task_at, mark_at, record_at}
use Rattle.format.specs.Rules.{seen, tasks_read, switches_read, is_empty, ordered, counted, divides, each, switch_ruled, ruled, field_number}
use Rattle.format.specs.Judgement.{tested}
use Rattle.format.specs.Refusal.{Whole}
use Rattle.format.proofs.Judging.{tested_short, tested_marked, tested_cut, tested_whole}
use Rattle.judge.specs.declared.Sheet.{Sheet}
use Rattle.judge.specs.declared.Fault.{Fault}
use Rattle.judge.specs.declared.Fault.TheVariants.{CutShort, UnknownMark, OutOfOrder, PastCount}
use Rattle.judge.specs.declared.Refusal.{Refusal}
use Rattle.judge.specs.Told.{number_of, refusal}
use Rattle.judge.proofs.Ranges.{number_more}
use Rattle.judge.specs.Reading.{order_kept, tasks_at, switch_kept, TaskNext, Reads, Room, row, Turned, judged}

-- Order.

none_read : (rs : List Record) → eqb (length rs) 0 ≡ is_empty rs
none_read [] = refl
none_read (r ∷ rs) = ne_eqb (suc (length rs)) 0 (λ (e : suc (length rs) ≡ 0). omega arith)

some_read : (rs : List Record) → ltb 0 (length rs) ≡ not (is_empty rs)
some_read [] = refl
some_read (r ∷ rs) = lt-ltb 0 (suc (length rs)) (omega arith)

order_same : (bs : List ℕ) (st : Sheet) (rs : List Record) → Reads bs st rs → (m : Mark) → order_kept m st ≡ ordered m rs
unfolding ordered
order_same bs st rs h HZ = cc (none_read rs)
order_same bs st rs h ML = cc (some_read rs)
order_same bs st rs h MD = cc
order_same bs st rs h TK = cc
order_same bs st rs h (switch k) = cc
order_same bs st rs h EN = cc

-- The switch rules.

pub switch_same : (bs : List ℕ) (st : Sheet) (rs : List Record) → Reads bs st rs → (w : Switch) → switch_kept bs st w ≡ switch_ruled rs w
unfolding switch_kept switch_ruled
switch_same bs st rs h w = rw (h.stated, h.seen, h.named w.target, h.period, h.tasks_there)

-- a divisor is at least 1
pub divisor_least : (p n : ℕ) → divides p n ≡ true → 1 ≤ p
divisor_least p n e = leb-true _ _ ((and-eq-true_iff (leb 1 p) _).0 e).0

-- a switch that keeps the rules names a mode of the module
pub target_in : (bs : List ℕ) (st : Sheet) (w : Switch) → switch_kept bs st w ≡ true → w.target < st.stated
unfolding switch_kept
target_in bs st w e = omega (arith, ltb-true, simp and-eq-true_iff at e)

-- The tests of one record, in their order.

module _ (bs : List ℕ) (st n : Sheet) (f : Refusal) (rs : List Record) where
  pub no_bytes : length bs < st.at + 2 → f ≡ refusal CutShort st.at → Turned bs st n (Err f) rs (tested bs st.at rs)
  unfolding Turned
  no_bytes l e = rw (tested_short bs st.at rs l, e) (refl, refl)

  pub no_mark : st.at + 2 ≤ length bs → mark_at bs st.at ≡ none → f ≡ refusal UnknownMark st.at → Turned bs st n (Err f) rs (tested bs st.at rs)
  unfolding Turned
  no_mark l u e = rw (tested_marked bs st.at rs l, u, e) (refl, refl)

  pub cut_short : (m : Mark) → st.at + 2 ≤ length bs → mark_at bs st.at ≡ some m → length bs < st.at + size m → f ≡ refusal CutShort st.at
      → Turned bs st n (Err f) rs (tested bs st.at rs)
  unfolding Turned
  cut_short m l u c e = rw (tested_cut bs st.at rs m l u c, e) (refl, refl)

module _ (bs : List ℕ) (st n : Sheet) (t : Result (Unit {0}) Refusal) (rs : List Record) (m : Mark) (w : Whole bs st.at m) (h : Reads bs st rs) where
  pub out_of_order : t ≡ Err (refusal OutOfOrder st.at) → order_kept m st ≡ false → Turned bs st n t rs (tested bs st.at rs)
  unfolding Turned
  out_of_order k o = rw (tested_whole bs st.at rs m w, ← order_same bs st rs h m, o, k) (refl, refl)

  pub in_order : order_kept m st ≡ true → Turned bs st n t rs (judged m (record_at m bs st.at) rs) → Turned bs st n t rs (tested bs st.at rs)
  unfolding judged
  in_order o j = rw (tested_whole bs st.at rs m w, ← order_same bs st rs h m, o) j

module _ (bs : List ℕ) (st n : Sheet) (f : Refusal) (rs : List Record) (m : Mark) (r : Record) where
  pub over_count : counted m rs ≡ false → f ≡ refusal PastCount st.at → Turned bs st n (Err f) rs (judged m r rs)
  unfolding Turned judged
  over_count u e = rw (u, e) (refl, refl)

  pub out_of_rule : counted m rs ≡ true → ruled r rs ≡ false → (k : Fault) → number_of k ≡ field_number m → f ≡ refusal k st.at → Turned bs st n (Err f) rs (judged m r rs)
  unfolding Turned judged
  out_of_rule u v k q e = rw (u, v, e) (q, refl)

-- The tasks of the open mode.

-- a task that was read is the one at its place
pub task_is : (bs : List ℕ) (p : ℕ) (k : Task) → tk k ≡ record_at TK bs p → task_at bs p ≡ k
task_is bs p k e = cc

-- one task more, at the place behind them
tasks_more : (bs : List ℕ) (st : Sheet) (rs : List Record) → Reads bs st rs → st.at ≡ st.from + 10 * st.held
    → tasks_at bs st.from (st.held + 1) ≡ task_at bs st.at ∷ tasks_read rs
tasks_more bs st rs h e = rw (add-one st.held, ← e, h.tasks_there)

-- a test of the n tasks from the place p on, by their numbers
pub each_task : (q : Task → Bool) (bs : List ℕ) (p n : ℕ) → list_all (λ i. q (task_at bs (p + 10 * i))) (range_with_len 0 n) ≡ each q (tasks_at bs p n)
each_task q bs p n = sym (list_all-map q (λ i. task_at bs (p + 10 * i)) (range_with_len 0 n)) ∙ all n
  where
    all : (n : ℕ) → list_all q (map (λ i. task_at bs (p + 10 * i)) (range_with_len 0 n)) ≡ each q (tasks_at bs p n)
    all zero = refl
    all (suc n) =
        ap (list_all q) (number_more (λ i. task_at bs (p + 10 * i)) 0 n n (omega arith))
        ∙ list_all-append q (map (λ i. task_at bs (p + 10 * i)) (range_with_len 0 n)) (task_at bs (p + 10 * n) ∷ [])
        ∙ rw (all n, and-true (q (task_at bs (p + 10 * n)))) (and_comm (each q (tasks_at bs p n)) (q (task_at bs (p + 10 * n))))

-- The targets that are named in the open mode.

pub none_named : (n t : ℕ) → get_or (replicate n false) t false ≡ false
none_named zero t = refl
none_named (suc n) zero = refl
none_named (suc n) (suc t) = none_named n t

-- one switch more
targets_more : (bs : List ℕ) (st : Sheet) (rs : List Record) → Reads bs st rs → (w : Switch) → w.target < max_modes
    → (t : ℕ) → get_or (set st.named w.target true) t false ≡ (eqb t w.target || named t (switches_read rs))
targets_more bs st rs h w l t = pick (eqb t w.target) refl
  where
    pick : (b : Bool) → eqb t w.target ≡ b → get_or (set st.named w.target true) t false ≡ (b || named t (switches_read rs))
    pick true e = rw (eqb-true t w.target e) (get_or-set_same st.named w.target true false (omega (arith, h.named_room)))
    pick false e = get_or-set_other st.named w.target t true false (eqb-false t w.target e) ∙ h.named t

-- One record more.

-- what each record makes of the state
abbrev after : Record → Sheet → Sheet
--                     bytes horizon modules modes tasks switches stated seen period from held switching ended named
after (hz h) st = row st 4 h st.modules st.modes st.tasks st.switches st.stated st.seen st.period st.from st.held st.switching st.ended st.named
after (ml n) st = row st 4 st.horizon (st.modules + 1) st.modes st.tasks st.switches n 0 st.period st.from st.held st.switching st.ended st.named
after (md p) st = row st 4 st.horizon st.modules (st.modes + 1) st.tasks st.switches st.stated (st.seen + 1) p (st.at + 4) 0 false st.ended (replicate max_modes false)
after (tk k) st = row st 10 st.horizon st.modules st.modes (st.tasks + 1) st.switches st.stated st.seen st.period st.from (st.held + 1) st.switching st.ended st.named
after (sw w) st = row st 6 st.horizon st.modules st.modes st.tasks (st.switches + 1) st.stated st.seen st.period st.from st.held true st.ended (set st.named w.target true)
after (en n) st = row st 4 st.horizon st.modules st.modes st.tasks st.switches st.stated st.seen st.period st.from st.held st.switching true st.named

no_task : (st : Sheet) (rs : List Record) → ordered TK rs ≡ false → TaskNext st rs
no_task st rs n g o = absurd (false≢true (sym n ∙ o))

pub no_task_yet : (st : Sheet) → TaskNext st []
unfolding ordered
no_task_yet st = no_task st [] refl

-- what is left to know of a record: that the task is the one at the state's place, and that the target is a mode
abbrev Fits : Record → List ℕ → Sheet → Type 0
Fits (hz h) bs st = Unit {0}
Fits (ml n) bs st = Unit {0}
Fits (md p) bs st = Unit {0}
Fits (tk k) bs st = tk k ≡ record_at TK bs st.at
Fits (sw w) bs st = w.target < max_modes
Fits (en n) bs st = Unit {0}

-- The state that a record in order makes of one stands for the records with this one.
reads_next : (bs : List ℕ) (st : Sheet) (rs : List Record) → Reads bs st rs → st.ended ≡ false → (r : Record) → ordered (mark_of r) rs ≡ true → Fits r bs st → Reads bs (after r st) (r ∷ rs)
unfolding ordered
reads_next bs st [] h g (hz x) o f = search (arith, no_task (after (hz x) st) (hz x ∷ []) refl)
reads_next bs st (r ∷ rs) h g (hz x) o f = absurd (false≢true o)
reads_next bs st rs h g (ml n) o f = search (arith, no_task (after (ml n) st) (ml n ∷ rs) refl)
reads_next bs st rs h g (md p) o f = search (arith, none_named)
reads_next bs st rs h g (tk k) o f =
    let here : st.at ≡ st.from + 10 * st.held = h.task_next (sym h.ended ∙ g) o in
    let next : TaskNext (after (tk k) st) (tk k ∷ rs) = λ g' o'. omega arith in
    search (arith, tasks_more bs st rs h here ∙ ap (λ (x : Task). x ∷ tasks_read rs) (task_is bs st.at k f), next)
reads_next bs st rs h g (sw w) o f = search (arith, targets_more bs st rs h w f, length-set, no_task (after (sw w) st) (sw w ∷ rs) (and-false (ltb 0 (seen rs))))
reads_next bs st rs h g (en n) o f =
    let next : TaskNext (after (en n) st) (en n ∷ rs) = λ g' o'. absurd (false≢true (sym g')) in
    search (arith, next)

pub all_right : (bs : List ℕ) (st : Sheet) (n : Sheet) (rs : List Record) (m : Mark) (r : Record) → mark_of r ≡ m → Room m bs st → counted m rs ≡ true → ruled r rs ≡ true
    → Reads bs st rs → Fits r bs st → n ≡ after r st → Turned bs st n (Ok tt) rs (judged m r rs)
unfolding Turned judged
all_right bs st n rs m r is w u v h f e =
    let order : ordered (mark_of r) rs ≡ true = rw is (sym (order_same bs st rs h m) ∙ w.order) in
    rw (u, v) (rw e (reads_next bs st rs h w.within.going r order f))
