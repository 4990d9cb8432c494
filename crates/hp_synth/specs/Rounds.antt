-- The diagrams that a round of a solver works on.
use Rattle.std.specs.Prelude.{◌≡◌, ℕ, List, Option, slice_index_or, not, ◌&&◌, ◌||◌}
use Rattle.hp_diagram.specs.declared.reference.Ref.{Ref}
use Rattle.hp_diagram.specs.Diagrams.{Diagrams, function, Has, Means, zero_ref}
use Rattle.hp_quant.specs.Replacements.{replaced}
use Rattle.hp_synth.specs.declared.rounds.Sets.{Sets}
use Rattle.hp_boolx.specs.declared.machine.Counts.{Counts}
use Rattle.hp_boolx.specs.Search.{Bits, Set, some_of, every_of}
use Rattle.hp_boolx.specs.Game.{Game, valid_choice, valid_early}
use Rattle.hp_synth.specs.Valued.{Valued, Fun, all, through, over, states, earlies, controls, lates, OfEarly, OfChoice}

pub record HasSets (t : Diagrams) (s : Sets) : Type 0 where
  pub valid : Has t s.valid
  pub hyp : Has t s.hyp
  pub duty : Has t s.duty
  pub choices : Has t s.choices
  pub earlies : Has t s.earlies

-- what these are of the references of a solver
abbrev pub sets_in : List Ref → Sets
sets_in roots = record { valid = slice_index_or roots 0 zero_ref; hyp = slice_index_or roots 1 zero_ref; duty = slice_index_or roots 2 zero_ref; choices = slice_index_or roots 3 zero_ref; earlies = slice_index_or roots 4 zero_ref }

-- valid, and the hypothesis holds, and the duty fails or the next state is in the set
abbrev pub bad_of : Diagrams → Sets → List (Option Ref) → Ref → Fun
bad_of t s by x v = function t s.valid v && (function t s.hyp v && (not (function t s.duty v) || function t x (replaced t by v)))

-- after valid early values no valid choice, or valid, and the hypothesis holds, and the duty fails
abbrev pub at_once_of : Diagrams → Sets → Fun
at_once_of t s v =
    function t s.earlies v && (not (function t s.choices v) || (function t s.valid v && (function t s.hyp v && not (function t s.duty v))))

-- valid, and the hypothesis holds, and the next state is in the set
abbrev pub later_of : Diagrams → Sets → List (Option Ref) → Ref → Fun
later_of t s by x v = (function t s.valid v && function t s.hyp v) && function t x (replaced t by v)

abbrev pub IsCounts : Game → Counts → Type 0
IsCounts g c = (g.registers ≡ c.registers) × (g.early ≡ c.early) × (g.control ≡ c.control) × (g.late ≡ c.late)

-- the diagrams are those of the game, where variables stand at places: its gates, the valid choices, the valid early values, and the next value at each register
pub record AreSets (place : ℕ → ℕ) (t : Diagrams) (s : Sets) (by : List (Option Ref)) (g : Game) : Type 0 where
  pub valid : Means t (over place (λ v. g.valid (all g v))) s.valid
  pub hyp : Means t (over place (λ v. g.hyp (all g v))) s.hyp
  pub duty : Means t (over place (λ v. g.duty (all g v))) s.duty
  pub choices : Means t (over place (OfChoice g (valid_choice g))) s.choices
  pub earlies : Means t (over place (OfEarly g (valid_early g))) s.earlies
  pub next : (v : Valued) → states g (through place (replaced t by v)) ≡ g.next (all g (through place v))

-- a function of the values of all variables, by their kinds
abbrev pub of_all : (g : Game) → (Bits → Bits → Bits → Set) → Fun
of_all g F v = F (states g v) (earlies g v) (controls g v) (lates g v)

-- some early values are such that for all controls there are late ones
abbrev pub alternating : Game → (Bits → Bits → Bits → Set) → Set
alternating g F r = some_of g.early (λ u. every_of g.control (λ c. some_of g.late (F r u c)))
