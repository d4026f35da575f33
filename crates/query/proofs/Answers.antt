-- What computes a call's answer meets the answer's statement, for every byte list and all arguments, and no other answer does. Assumes nothing.
use mathlib.Core.Path.{◌≡◌, refl, sym, ◌∙◌}
use mathlib.Core.Bool.{Bool, true, false, cond, and-eq-true_iff}
use mathlib.Core.List.{List}
use Prim.Native.Nat.{ℕ}
use borrow.Author.Tests.{ltb-true, leb-true}
use Rattle.model.specs.Sheet.{Sheet, module_at}
use Rattle.model.specs.WellFormed.{ModuleRule, WellFormed}
use Rattle.model.specs.Run.{at, mode_at}
use Rattle.model.specs.Demand.{ModeDemand, StateDemand, ModuleDemand, mode_demand, value, module_demand}
use Rattle.model.specs.Verdict.{Quick, Exact, clear, over, QuickIs, quick, exact}
use Rattle.model.proofs.Lists.{all_at}
use Rattle.model.proofs.Demands.{state_demand, module_demand_lem, state_demand_unique, module_demand_unique}
use Rattle.model.proofs.ModeDemands.{mode_demand_lem, mode_demand_unique}
use Rattle.model.proofs.Verdicts.{quick_is, quick_unique, exact_is, exact_unique}
use Rattle.model.proofs.Tapes.{tapes_are, tapes_unique}
use Rattle.format.specs.Judgement.{Judgement, judgement}
use Rattle.format.proofs.RoundTrip.{accepted_well_formed}
use Rattle.query.specs.Answer.{Answer, refused, given, Terms, GivenBy, AnsweredBy, Answered, answer_of, answer}
use Rattle.query.specs.Query.{is_module, mode_terms, state_terms, module_terms, quick_terms, exact_terms, ModeAnswer, StateAnswer, ModuleAnswer, QuickAnswer, ExactAnswer, Witnessed, TapesOf, WitnessedIs, mode_answer, state_answer, module_answer, quick_answer, tapes_for, witnessed, exact_answer}

-- Any call: on a well_formed sheet and in range, f is a figure that R states, and R states one figure.
module _ {A : Type 0} (t : Terms) (R : Sheet → A → Type 0) where
  pub answer_is : (f : Sheet → A) → ((s : Sheet) → WellFormed s → t.in_range s ≡ true → R s (f s)) → (bytes : List ℕ) → Answered t R bytes (answer t f bytes)
  unfolding answer
  answer_is f holds bytes = judged (judgement bytes) refl
    where
      tests : (s : Sheet) → WellFormed s → (i e : Bool) → t.in_range s ≡ i → GivenBy i e (R s) (cond i (cond e (given (f s)) (refused 10 0)) (refused 9 0))
      tests s w true true h = (f s, refl, holds s w h)
      tests s w true false h = refl
      tests s w false true h = refl
      tests s w false false h = refl

      judged : (j : Judgement) → judgement bytes ≡ j → AnsweredBy t R j (answer_of t f j)
      judged (Judgement.refused n p) e = refl
      judged (Judgement.accepted s) e = tests s (accepted_well_formed bytes s e) (t.in_range s) (t.enough s) refl

  pub answer_unique : ((s : Sheet) → WellFormed s → (v w : A) → R s v → R s w → v ≡ w) → (bytes : List ℕ) (p q : Answer A) → Answered t R bytes p → Answered t R bytes q → p ≡ q
  answer_unique only bytes p q = judged (judgement bytes) refl
    where
      tests : (s : Sheet) → WellFormed s → (i e : Bool) → GivenBy i e (R s) p → GivenBy i e (R s) q → p ≡ q
      tests s w true true g h = let same : g.0 ≡ h.0 = only s w g.0 h.0 g.2 h.2 in cc (g.1, h.1)
      tests s w true false g h = g ∙ sym h
      tests s w false true g h = g ∙ sym h
      tests s w false false g h = g ∙ sym h

      judged : (j : Judgement) → judgement bytes ≡ j → AnsweredBy t R j p → AnsweredBy t R j q → p ≡ q
      judged (Judgement.refused n p) e g h = g ∙ sym h
      judged (Judgement.accepted s) e g h = tests s (accepted_well_formed bytes s e) (t.in_range s) (t.enough s) g h

-- a number in range names a module that keeps the rules
module_rule : (s : Sheet) (k : ℕ) → WellFormed s → is_module s k ≡ true → ModuleRule (module_at s k)
module_rule s k w h = all_at ModuleRule _ s.modules w.modules k (ltb-true _ _ h)

-- The calls.

pub mode_answer_lem : (bytes : List ℕ) (k m a b : ℕ) → ModeAnswer bytes k m a b (mode_answer bytes k m a b)
mode_answer_lem bytes k m a b = answer_is (mode_terms k m a b) (λ s v. ModeDemand (module_at s k) m a b v) _ holds bytes
  where
    holds : (s : Sheet) → WellFormed s → (mode_terms k m a b).in_range s ≡ true → ModeDemand (module_at s k) m a b (mode_demand (mode_at (module_at s k) m) a b)
    holds s w h =
        let r = simp and-eq-true_iff at h in
        mode_demand_lem (module_at s k) (module_rule s k w r.0.0.0) m a b (ltb-true _ _ r.0.0.1) (leb-true _ _ r.0.1) (leb-true _ _ r.1)

pub mode_answer_unique : (bytes : List ℕ) (k m a b : ℕ) (p q : Answer ℕ) → ModeAnswer bytes k m a b p → ModeAnswer bytes k m a b q → p ≡ q
mode_answer_unique bytes k m a b = answer_unique (mode_terms k m a b) _ (λ s w u v. mode_demand_unique (module_at s k) m a b u v) bytes

pub state_answer_lem : (bytes : List ℕ) (k m d L work : ℕ) → StateAnswer bytes k m d L work (state_answer bytes k m d L work)
state_answer_lem bytes k m d L work = answer_is (state_terms k m d L work) (λ s v. StateDemand (module_at s k) (at m d) L v) _ holds bytes
  where
    holds : (s : Sheet) → WellFormed s → (state_terms k m d L work).in_range s ≡ true → StateDemand (module_at s k) (at m d) L (value (module_at s k) 0 L (at m d))
    holds s w h =
        let r = simp and-eq-true_iff at h in
        state_demand (module_at s k) (module_rule s k w r.0.0.0) (at m d) (ltb-true _ _ r.0.1) L

pub state_answer_unique : (bytes : List ℕ) (k m d L work : ℕ) (p q : Answer ℕ) → StateAnswer bytes k m d L work p → StateAnswer bytes k m d L work q → p ≡ q
state_answer_unique bytes k m d L work = answer_unique (state_terms k m d L work) _ (λ s w u v. state_demand_unique (module_at s k) (at m d) L u v) bytes

pub module_answer_lem : (bytes : List ℕ) (k L work : ℕ) → ModuleAnswer bytes k L work (module_answer bytes k L work)
module_answer_lem bytes k L work = answer_is (module_terms k L work) (λ s v. ModuleDemand (module_at s k) L v) _ holds bytes
  where
    holds : (s : Sheet) → WellFormed s → (module_terms k L work).in_range s ≡ true → ModuleDemand (module_at s k) L (module_demand (module_at s k) L)
    holds s w h =
        let r = simp and-eq-true_iff at h in
        module_demand_lem (module_at s k) (module_rule s k w r.0) L

pub module_answer_unique : (bytes : List ℕ) (k L work : ℕ) (p q : Answer ℕ) → ModuleAnswer bytes k L work p → ModuleAnswer bytes k L work q → p ≡ q
module_answer_unique bytes k L work = answer_unique (module_terms k L work) _ (λ s w u v. module_demand_unique (module_at s k) L u v) bytes

pub quick_answer_lem : (bytes : List ℕ) (work : ℕ) → QuickAnswer bytes work (quick_answer bytes work)
quick_answer_lem bytes work = answer_is (quick_terms work) QuickIs quick (λ s w h. quick_is s w) bytes

pub quick_answer_unique : (bytes : List ℕ) (work : ℕ) (p q : Answer Quick) → QuickAnswer bytes work p → QuickAnswer bytes work q → p ≡ q
quick_answer_unique bytes work = answer_unique (quick_terms work) QuickIs quick_unique bytes

-- the tapes of a verdict
tapes_for_lem : (s : Sheet) → WellFormed s → (v : Exact) → TapesOf s v (tapes_for s v)
tapes_for_lem s w clear = refl
tapes_for_lem s w (over a b v) = tapes_are s w a b

tapes_only : (s : Sheet) (v : Exact) (ts us : List (List ℕ)) → TapesOf s v ts → TapesOf s v us → ts ≡ us
tapes_only s clear ts us p q = p ∙ sym q
tapes_only s (over a b v) ts us p q = tapes_unique s a b ts us p q

witnessed_unique : (s : Sheet) → WellFormed s → (p q : Witnessed) → WitnessedIs s p → WitnessedIs s q → p ≡ q
witnessed_unique s w p q g h =
    let same : p.verdict ≡ q.verdict = exact_unique s w p.verdict q.verdict g.0 h.0 in
    let tapes : p.tapes ≡ q.tapes = tapes_only s q.verdict p.tapes q.tapes (rw same at g.1) h.1 in
    λ i. record { verdict = same i; tapes = tapes i }

pub exact_answer_lem : (bytes : List ℕ) (work tape : ℕ) → ExactAnswer bytes work tape (exact_answer bytes work tape)
exact_answer_lem bytes work tape = answer_is (exact_terms work tape) WitnessedIs witnessed (λ s w h. (exact_is s w, tapes_for_lem s w (exact s))) bytes

pub exact_answer_unique : (bytes : List ℕ) (work tape : ℕ) (p q : Answer Witnessed) → ExactAnswer bytes work tape p → ExactAnswer bytes work tape q → p ≡ q
exact_answer_unique bytes work tape = answer_unique (exact_terms work tape) WitnessedIs witnessed_unique bytes
