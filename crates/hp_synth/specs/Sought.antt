-- What a solver works on, as functions of valuations.
use Rattle.std.specs.Prelude.{ℕ, zero, suc, ◌-◌, ◌^◌, ◌<◌, ◌≡◌, not, IsFalse, List, [], ◌∷◌, ◌++◌, map}
use Rattle.hp_diagram.specs.declared.reference.Ref.{Ref}
use Rattle.hp_diagram.specs.Diagrams.{Diagrams, Means}
use Rattle.hp_boolx.specs.Game.{Game, forced, valid_choice, valid_early}
use Rattle.hp_boolx.specs.Machine.{bit}
use Rattle.hp_boolx.specs.Search.{count_of}
use Rattle.hp_boolx.specs.Solved.{IsWin, IsLose, ranks_of}
use Rattle.hp_synth.specs.declared.search.Progress.{Progress}
use Rattle.hp_synth.specs.declared.search.Progress.TheVariants.{Stopped, Reached, Next}
use Rattle.hp_synth.specs.Kept.{AllMean}
use Rattle.hp_synth.specs.Valued.{Fun, all, over, total, OfState, OfEarly, OfChoice}

-- the next values of n registers, from one on
abbrev pub next_from : Game → ℕ → ℕ → List Fun
next_from g k zero = []
next_from g k (suc n) = (λ v. bit (g.next (all g v)) k) ∷ next_from g (suc k) n

-- what is valid, the hypothesis, the duty, the valid choices, the valid early values, and the next value of each register
abbrev pub base : Game → List Fun
base g = (λ v. g.valid (all g v)) ∷ (λ v. g.hyp (all g v)) ∷ (λ v. g.duty (all g v)) ∷ OfChoice g (valid_choice g) ∷ OfEarly g (valid_early g) ∷ next_from g 0 g.registers

-- these, in a table where variables stand at places
abbrev pub base_at : (ℕ → ℕ) → Game → List Fun
base_at place g = map (over place) (base g)

-- the sets of the first n rounds there
abbrev pub rounds : (ℕ → ℕ) → Game → ℕ → List Fun
rounds place g n = map (λ X. over place (OfState g X)) (ranks_of g n)

-- Before a round: the references are these and the sets of the rounds so far, the last of them is at hand, and the initial state is in none.
pub record Stands (place : ℕ → ℕ) (g : Game) (t : Diagrams) (roots : List Ref) (x : Ref) (n : ℕ) : Type 0 where
  pub vars : t.vars ≡ total g
  pub all_mean : AllMean t (base_at place g ++ rounds place g n) roots
  pub current : Means t (over place (OfState g (forced g n))) x
  pub out : IsFalse (forced g n g.init)

-- Behind it: the set stopped and nothing is forced; or the initial state came into it; or there is one round more, and fewer states are left.
abbrev pub Went : (ℕ → ℕ) → Game → Ref → ℕ → Diagrams → List Ref → Progress → Type 0
Went place g x n t roots Stopped = Means t (over place (OfState g (forced g n))) x × IsWin g (λ r. not (forced g n r)) × AllMean t (base_at place g ++ rounds place g n) roots
Went place g x n t roots Reached = AllMean t (base_at place g ++ rounds place g (suc n)) roots × IsLose g (ranks_of g (suc n))
Went place g x n t roots (Next y) = Stands place g t roots y (suc n) × (2 ^ g.registers - count_of g.registers (forced g (suc n)) < 2 ^ g.registers - count_of g.registers (forced g n))
