-- The witness: one tape for each module (document 01, 'Runs'). What a tape is, and what computes it. Assumes nothing.
use Rattle.std.specs.Prelude.{◌≡◌, ◌⊎◌, Bool, true, false, List, [], ◌∷◌, map, ℕ, zero, suc, pred, ◌<◌, ltb, leb}
use Rattle.model.specs.Lists.{Pairwise}
use Rattle.model.specs.Sheet.{Module, Sheet}
use Rattle.model.specs.Run.{State, first, Run, later, IsRun, demand}
use Rattle.model.specs.Demand.{Largest, nexts, value}

-- What a tape is.

-- for each tick 0 to b - 1 the mode's number
abbrev pub tape_of : Run → ℕ → List ℕ
tape_of ρ zero = []
tape_of ρ (suc b) = (ρ 0).mode ∷ tape_of (later ρ) b

-- the first list is the second or comes before it in dictionary order
abbrev pub NotAfter : List ℕ → List ℕ → Type 0
NotAfter [] ys = Unit {0}
NotAfter (x ∷ xs) [] = ⊥
NotAfter (x ∷ xs) (y ∷ ys) = (x < y) ⊎ ((x ≡ y) × NotAfter xs ys)

-- Among the runs from s that reach the largest demand in a to b, a first one in dictionary order has the tape.
pub record IsTape (m : Module) (s : State) (a b : ℕ) (tape : List ℕ) : Type 0 where
  pub run : Run
  pub is_run : IsRun m s run
  pub reaches : Largest m s (λ ρ. demand m ρ a b) (demand m run a b)
  pub written : tape_of run b ≡ tape
  pub least : (ρ : Run) → IsRun m s ρ → demand m ρ a b ≡ demand m run a b → NotAfter tape (tape_of ρ b)

abbrev pub AreTapes : Sheet → ℕ → ℕ → List (List ℕ) → Type 0
AreTapes s a b tapes = Pairwise (λ (m : Module) (tape : List ℕ). IsTape m first a b tape) s.modules tapes

-- What computes it.

-- x where its value is greater, y where that is; of two alike the smaller mode
abbrev pub among : Bool → Bool → Bool → State → State → State
among true q r x y = x
among false true r x y = y
among false false true x y = x
among false false false x y = y

abbrev pub better : (State → ℕ) → State → State → State
better f x y = among (ltb (f y) (f x)) (ltb (f x) (f y)) (leb x.mode y.mode) x y

-- the best of x and the states of the list
abbrev pub choose : (State → ℕ) → State → List State → State
choose f x [] = x
choose f x (y ∷ l) =
    let c = choose f y l in
    better f x c

-- the best state of the list, or d where it is empty
abbrev pub chosen : (State → ℕ) → State → List State → State
chosen f d [] = d
chosen f d (x ∷ l) = choose f x l

-- from s on, always to the next state of the greatest value, and of those to the lowest mode
unfoldable pub tape : Module → ℕ → ℕ → State → List ℕ
tape m a zero s = []
tape m a (suc b) s = s.mode ∷ tape m (pred a) b (chosen (value m (pred a) b) s (nexts m s))

unfoldable pub tapes : Sheet → ℕ → ℕ → List (List ℕ)
tapes s a b = map (λ (m : Module). tape m a b first) s.modules
