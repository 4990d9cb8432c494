-- The names that equations define: which variables a control equation gives a value to, as its parts tell it.
-- Source: Colaço, Pagano and Pouzet, A conservative extension of synchronous data-flow with state machines (EMSOFT 2005): a block defines for the blocks around it what it defines and does not declare.
use Rattle.std.specs.Prelude.{ℕ, Bool, false, ◌||◌, if◌then◌else◌, List, [], ◌∷◌, ◌++◌, map}
use Rattle.std.specs.Str.{bytes_eq}
use Rattle.hp_tree.specs.Blocks.{Decl, Block, block, Eqns, no_eqn, more_eqns, Eqn, define, switch, reset, automaton, Arms, no_arm, more_arms, States, no_state, more_states}
use Rattle.hp_tree.specs.Meaning.{declares}

-- whether a name is among others
abbrev pub listed : List (List ℕ) → List ℕ → Bool
listed [] x = false
listed (y ∷ ys) x = bytes_eq y x || listed ys x

-- those of some names that are not declared
abbrev pub undeclared : List Decl → List (List ℕ) → List (List ℕ)
undeclared ds [] = []
undeclared ds (x ∷ xs) = if declares ds x then undeclared ds xs else x ∷ undeclared ds xs

-- the names that equations define, in the order of the text, one as often as it is defined; of a block those that it does not declare
abbrev mutual
  pub names_in : Eqns → List (List ℕ)
  names_in no_eqn = []
  names_in (more_eqns e es) = names_of e ++ names_in es

  pub names_of : Eqn → List (List ℕ)
  names_of (define at ys e) = map (λ y. y.0) ys
  names_of (switch at e arms) = names_of_arms arms
  names_of (reset at b e) = outer_names b
  names_of (automaton at ss) = names_of_states ss

  pub names_of_arms : Arms → List (List ℕ)
  names_of_arms no_arm = []
  names_of_arms (more_arms c b at arms) = outer_names b ++ names_of_arms arms

  pub names_of_states : States → List (List ℕ)
  names_of_states no_state = []
  names_of_states (more_states f b until unless at ss) = outer_names b ++ names_of_states ss

  pub outer_names : Block → List (List ℕ)
  outer_names (block ds es) = undeclared ds (names_in es)

-- the names that an equation defines, unless it is a basic one
abbrev pub controlled : Eqn → List (List ℕ)
controlled (define at ys e) = []
controlled (switch at e arms) = names_of (switch at e arms)
controlled (reset at b e) = names_of (reset at b e)
controlled (automaton at ss) = names_of (automaton at ss)

-- the names that the control equations among these define
abbrev pub controls_in : Eqns → List (List ℕ)
controls_in no_eqn = []
controls_in (more_eqns e es) = controlled e ++ controls_in es
