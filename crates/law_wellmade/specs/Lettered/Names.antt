-- How the names of a node are spelled.
use Rattle.std.specs.Prelude.{ℕ, ⊤, IsTrue, List, [], ◌∷◌, Option, None, Some}
use Rattle.hp_base.specs.declared.span.Span.{Span}
use Rattle.hp_tree.specs.Blocks.{Decl, Block, block, Eqns, no_eqn, more_eqns, Eqn, define, switch, reset, automaton, Arms, no_arm, more_arms, States, no_state, more_states}
use Rattle.hp_tree.specs.Programs.{Contract, Node}
use Rattle.hp_obc.specs.Form.{is_name}
use Rattle.law_judged.specs.Replaced.Fitting.{IsPlain}

-- ---- something is true of each name that is declared, or stands on a left side, here or inside

abbrev pub DeclsSpelled : (List ℕ → Type 0) → List Decl → Type 0
DeclsSpelled P [] = ⊤
DeclsSpelled P (d ∷ ds) = P d.name × DeclsSpelled P ds

abbrev pub LeftsSpelled : (List ℕ → Type 0) → List (List ℕ × Span) → Type 0
LeftsSpelled P [] = ⊤
LeftsSpelled P (y ∷ ys) = P y.0 × LeftsSpelled P ys

abbrev mutual
  pub BlockSpelled : (List ℕ → Type 0) → Block → Type 0
  BlockSpelled P (block ds es) = DeclsSpelled P ds × EqnsSpelled P es

  pub EqnsSpelled : (List ℕ → Type 0) → Eqns → Type 0
  EqnsSpelled P no_eqn = ⊤
  EqnsSpelled P (more_eqns e es) = EqnSpelled P e × EqnsSpelled P es

  pub EqnSpelled : (List ℕ → Type 0) → Eqn → Type 0
  EqnSpelled P (define s ys e) = LeftsSpelled P ys
  EqnSpelled P (switch s e arms) = ArmsSpelled P arms
  EqnSpelled P (reset s b e) = BlockSpelled P b
  EqnSpelled P (automaton s ss) = StatesSpelled P ss

  pub ArmsSpelled : (List ℕ → Type 0) → Arms → Type 0
  ArmsSpelled P no_arm = ⊤
  ArmsSpelled P (more_arms c b s arms) = BlockSpelled P b × ArmsSpelled P arms

  pub StatesSpelled : (List ℕ → Type 0) → States → Type 0
  StatesSpelled P no_state = ⊤
  StatesSpelled P (more_states f b until unless s ss) = BlockSpelled P b × StatesSpelled P ss

-- of the controllable variables, and in the block of a contract
abbrev pub ContractSpelled : (List ℕ → Type 0) → Option Contract → Type 0
ContractSpelled P None = ⊤
ContractSpelled P (Some c) = DeclsSpelled P c.controls × BlockSpelled P c.body

-- of the name of a node, and of each in it
abbrev pub NodeSpelled : (List ℕ → Type 0) → Node → Type 0
NodeSpelled P n = P n.name × (DeclsSpelled P n.inputs × (DeclsSpelled P n.outputs × (ContractSpelled P n.contract × BlockSpelled P n.body)))

-- ---- names of machine texts

-- A name may be the name of a machine, and of a variable of one: a small letter, then letters, digits, `_` and `$`, 270 bytes at most.
abbrev pub IsName : List ℕ → Type 0
IsName x = IsTrue (is_name x)

-- A name of a text is one without the sign, and of at most 255 bytes.
abbrev pub IsSourceName : List ℕ → Type 0
IsSourceName x = IsName x × IsPlain x
