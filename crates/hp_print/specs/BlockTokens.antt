-- The tokens of declarations, equations and blocks.
use Rattle.std.specs.Prelude.{ℕ, List, [], ◌∷◌, ◌++◌, map, length, ◌==◌, Option, None, Some, if◌then◌else◌}
use Rattle.hp_base.specs.declared.span.Span.{Span}
use Rattle.hp_base.specs.declared.ty.Ty.{Ty}
use Rattle.hp_base.specs.declared.ty.Const.{Const}
use Rattle.hp_lexer.specs.Written.{Written}
use Rattle.hp_lexer.specs.declared.token.Keyword.{Keyword}
use Rattle.hp_lexer.specs.declared.token.Keyword.TheVariants as key
use Rattle.hp_lexer.specs.declared.token.Sign.TheVariants as mark
use Rattle.hp_print.specs.Tokens.{word, sign, small, capital, type_token, cons_token, constant_tokens, joined_by, ended_by}
use Rattle.hp_print.specs.ExpressionTokens.{in_parentheses, of_constructor_tokens, expression_tokens}
use Rattle.hp_tree.specs.declared.block.Trans.{Trans}
use Rattle.hp_tree.specs.declared.decl.Cons.{Cons}
use Rattle.hp_tree.specs.Blocks.{Decl, Block, Eqns, Eqn, Arms, States, block, no_eqn, more_eqns, define, switch, reset, automaton, no_arm, more_arms, no_state, more_states}

-- ---- declarations

abbrev pub path_tokens : List (Cons × List ℕ) → List Written
path_tokens [] = []
path_tokens (step ∷ path) = word key.On ∷ (of_constructor_tokens step.0 step.1 ++ path_tokens path)

abbrev pub clock_tokens : Option (List (Cons × List ℕ)) → List Written
clock_tokens None = []
clock_tokens (Some path) = path_tokens path

abbrev pub typed_tokens : List ℕ → Ty → List Written
typed_tokens x ty = small x ∷ (sign mark.Colon ∷ (type_token ty ∷ []))

-- a declaration with a first value is `last`, and has no clock
abbrev pub declared_tokens : Option Const → Decl → List Written
declared_tokens None d = typed_tokens d.name d.ty ++ clock_tokens d.clock
declared_tokens (Some first) d = word key.Last ∷ (typed_tokens d.name d.ty ++ (sign mark.Equal ∷ constant_tokens first))

abbrev pub declaration_tokens : Decl → List Written
declaration_tokens d = declared_tokens d.last d

-- the declarations of inputs, outputs or controllable variables, in parentheses
abbrev pub parameters_tokens : List Decl → List Written
parameters_tokens ds = in_parentheses (joined_by (sign mark.Semicolon) (map declaration_tokens ds))

-- `var` and declarations, or nothing
abbrev pub variables_tokens : List Decl → List Written
variables_tokens [] = []
variables_tokens (d ∷ ds) = word key.Var ∷ ended_by (sign mark.Semicolon) (map declaration_tokens (d ∷ ds))

-- the same with `in` behind them
abbrev pub inner_variables_tokens : List Decl → List Written
inner_variables_tokens [] = []
inner_variables_tokens (d ∷ ds) = variables_tokens (d ∷ ds) ++ (word key.In ∷ [])

-- ---- equations

abbrev pub left_name : List ℕ × Span → List Written
left_name name = small name.0 ∷ []

-- one name stands by itself, and any other number in parentheses
abbrev pub left_tokens : List (List ℕ × Span) → List Written
left_tokens names =
    let listed = joined_by (sign mark.Comma) (map left_name names) in
    if length names == 1 then listed else in_parentheses listed

abbrev pub transition_tokens : Trans → List Written
transition_tokens t = expression_tokens t.cond ++ (word (if t.restart then key.Then else key.Continue) ∷ (capital t.target ∷ []))

-- transitions behind their word, or nothing
abbrev pub transitions_tokens : Keyword → List Trans → List Written
transitions_tokens k [] = []
transitions_tokens k (t ∷ ts) = word k ∷ joined_by (sign mark.Bar) (map transition_tokens (t ∷ ts))

abbrev mutual
  -- a block behind `do`
  pub body_tokens : Block → List Written
  body_tokens (block ds es) = variables_tokens ds ++ (word key.Do ∷ equations_tokens es)

  -- a block of a `reset`
  pub inner_tokens : Block → List Written
  inner_tokens (block ds es) = inner_variables_tokens ds ++ equations_tokens es

  pub equations_tokens : Eqns → List Written
  equations_tokens no_eqn = []
  equations_tokens (more_eqns e es) = equation_tokens e ++ (sign mark.Semicolon ∷ equations_tokens es)

  pub equation_tokens : Eqn → List Written
  equation_tokens (define s xs e) = left_tokens xs ++ (sign mark.Equal ∷ expression_tokens e)
  equation_tokens (switch s e arms) = word key.Switch ∷ (expression_tokens e ++ (arms_tokens arms ++ (word key.End ∷ [])))
  equation_tokens (reset s b e) = word key.Reset ∷ (inner_tokens b ++ (word key.Every ∷ expression_tokens e))
  equation_tokens (automaton s qs) = word key.Automaton ∷ (states_tokens qs ++ (word key.End ∷ []))

  pub arms_tokens : Arms → List Written
  arms_tokens no_arm = []
  arms_tokens (more_arms c b s arms) = sign mark.Bar ∷ (cons_token c ∷ (body_tokens b ++ arms_tokens arms))

  -- `until` stands before `unless`
  pub states_tokens : States → List Written
  states_tokens no_state = []
  states_tokens (more_states x b until unless s qs) =
      word key.State ∷ (capital x ∷ (body_tokens b ++ (transitions_tokens key.Until until ++ (transitions_tokens key.Unless unless ++ states_tokens qs))))
