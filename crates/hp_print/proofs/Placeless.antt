-- The tokens of a program do not depend on its places.
use Rattle.std.proofs.Common.{◌≡◌, ℕ, if◌then◌else◌, ◌==◌, List, [], ◌∷◌, ◌++◌, map, length, Option, None, Some, option_map, refl, ap}
use Rattle.std.proofs.lemmas.List.{length-map}
use Rattle.hp_base.specs.declared.span.Span.{Span}
use Rattle.hp_base.specs.declared.ty.Const.{Const}
use Rattle.hp_lexer.specs.Written.{Written}
use Rattle.hp_lexer.specs.declared.token.Keyword.{Keyword}
use Rattle.hp_lexer.specs.declared.token.Keyword.TheVariants as key
use Rattle.hp_lexer.specs.declared.token.Sign.TheVariants as mark
use Rattle.hp_tree.specs.declared.block.Trans.{Trans}
use Rattle.hp_tree.specs.declared.program.Item.{Item}
use Rattle.hp_tree.specs.declared.program.Item.TheVariants.{TypeItem, NodeItem}
use Rattle.hp_tree.specs.Expressions.{Expr, Exprs, Parts, constant, variable, last_of, one, two, choose, pre, fby, arrow, when_is, merge, call, no_expr, more_exprs, no_part, more_parts}
use Rattle.hp_tree.specs.Blocks.{Decl, Block, Eqns, Eqn, Arms, States, block, no_eqn, more_eqns, define, switch, reset, automaton, no_arm, more_arms, no_state, more_states}
use Rattle.hp_tree.specs.Programs.{Contract}
use Rattle.hp_print.specs.Levels.{is_looser, level_of, level_before, level_behind}
use Rattle.hp_print.specs.declared.level.Level.{Level}
use Rattle.hp_print.specs.declared.level.Level.TheVariants.{Sample, Delay, Implication, Unary}
use Rattle.hp_print.specs.Places.{bare, bare_all, bare_parts, bare_decl, bare_name, bare_transition, bare_block, bare_eqns, bare_eqn, bare_arms, bare_states, bare_contract, bare_item, bare_program}
use Rattle.hp_print.specs.Tokens.{word, sign, small, capital, cons_token, joined_by, ended_by}
use Rattle.hp_print.specs.ExpressionTokens.{in_parentheses, of_constructor_tokens, prefix_token, operator_token, inlined_tokens, expression_tokens, operand_tokens, arguments_tokens, more_arguments_tokens, parts_tokens}
use Rattle.hp_print.specs.BlockTokens.{declared_tokens, declaration_tokens, parameters_tokens, variables_tokens, inner_variables_tokens, left_name, left_tokens, transition_tokens, transitions_tokens, body_tokens, inner_tokens, equations_tokens, equation_tokens, arms_tokens, states_tokens}
use Rattle.hp_print.specs.ProgramTokens.{whole_block_tokens, is_empty_block, contract_block_tokens, clause_tokens, controls_tokens, contract_tokens, node_contract_tokens, item_tokens, program_tokens}

-- ---- expressions

level-bare : (e : Expr) → level_of (bare e) ≡ level_of e
level-bare (constant s c) = refl
level-bare (variable s x) = refl
level-bare (last_of s x) = refl
level-bare (one s op a) = refl
level-bare (two s op a b) = refl
level-bare (choose s a b c) = refl
level-bare (pre s a) = refl
level-bare (fby s a b) = refl
level-bare (arrow s a b) = refl
level-bare (when_is s a c x) = refl
level-bare (merge s x ps) = refl
level-bare (call s f inlined es) = refl

operand-bare : (l : Level) (e : Expr) → expression_tokens (bare e) ≡ expression_tokens e → operand_tokens l (bare e) ≡ operand_tokens l e
operand-bare l e h = λ i. if is_looser (level-bare e i) l then in_parentheses (h i) else h i

mutual
  pub expression-bare : (e : Expr) → expression_tokens (bare e) ≡ expression_tokens e
  expression-bare (constant s c) = refl
  expression-bare (variable s x) = refl
  expression-bare (last_of s x) = refl
  expression-bare (one s op a) = λ i. prefix_token op ∷ operand-bare Unary a (expression-bare a) i
  expression-bare (two s op a b) =
      λ i. operand-bare (level_before op) a (expression-bare a) i ++ (operator_token op ∷ operand-bare (level_behind op) b (expression-bare b) i)
  expression-bare (choose s a b c) =
      λ i. word key.If ∷ (expression-bare a i ++ (word key.Then ∷ (expression-bare b i ++ (word key.Else ∷ expression-bare c i))))
  expression-bare (pre s a) = λ i. word key.Pre ∷ operand-bare Unary a (expression-bare a) i
  expression-bare (fby s a b) = λ i. operand-bare Implication a (expression-bare a) i ++ (word key.Fby ∷ operand-bare Delay b (expression-bare b) i)
  expression-bare (arrow s a b) = λ i. operand-bare Sample a (expression-bare a) i ++ (sign mark.Arrow ∷ expression-bare b i)
  expression-bare (when_is s a c x) = λ i. operand-bare Sample a (expression-bare a) i ++ (word key.When ∷ of_constructor_tokens c x)
  expression-bare (merge s x ps) = λ i. word key.Merge ∷ (small x ∷ parts-bare ps i)
  expression-bare (call s f inlined es) = λ i. inlined_tokens inlined ++ (small f ∷ (sign mark.Open ∷ (arguments-bare es i ++ (sign mark.Close ∷ []))))

  parts-bare : (ps : Parts) → parts_tokens (bare_parts ps) ≡ parts_tokens ps
  parts-bare no_part = refl
  parts-bare (more_parts c e ps) = λ i. sign mark.Open ∷ (cons_token c ∷ (sign mark.Arrow ∷ (expression-bare e i ++ (sign mark.Close ∷ parts-bare ps i))))

  arguments-bare : (es : Exprs) → arguments_tokens (bare_all es) ≡ arguments_tokens es
  arguments-bare no_expr = refl
  arguments-bare (more_exprs e es) = λ i. expression-bare e i ++ more-arguments-bare es i

  more-arguments-bare : (es : Exprs) → more_arguments_tokens (bare_all es) ≡ more_arguments_tokens es
  more-arguments-bare no_expr = refl
  more-arguments-bare (more_exprs e es) = λ i. sign mark.Comma ∷ (expression-bare e i ++ more-arguments-bare es i)

-- ---- lists of phrases

module _ {A : Type 0} (f : A → List Written) (g : A → A) (same : (x : A) → f (g x) ≡ f x) where
  phrases-bare : (xs : List A) → map f (map g xs) ≡ map f xs
  phrases-bare [] = refl
  phrases-bare (x ∷ xs) = λ i. same x i ∷ phrases-bare xs i

declared-bare : (last : Option Const) (d : Decl) → declared_tokens last (bare_decl d) ≡ declared_tokens last d
declared-bare None d = refl
declared-bare (Some c) d = refl

declarations-bare : (ds : List Decl) → map declaration_tokens (map bare_decl ds) ≡ map declaration_tokens ds
declarations-bare = phrases-bare declaration_tokens bare_decl (λ d. declared-bare d.last d)

parameters-bare : (ds : List Decl) → parameters_tokens (map bare_decl ds) ≡ parameters_tokens ds
parameters-bare ds = ap (λ z. in_parentheses (joined_by (sign mark.Semicolon) z)) (declarations-bare ds)

variables-bare : (ds : List Decl) → variables_tokens (map bare_decl ds) ≡ variables_tokens ds
variables-bare [] = refl
variables-bare (d ∷ ds) = ap (λ z. word key.Var ∷ ended_by (sign mark.Semicolon) z) (declarations-bare (d ∷ ds))

inner-variables-bare : (ds : List Decl) → inner_variables_tokens (map bare_decl ds) ≡ inner_variables_tokens ds
inner-variables-bare [] = refl
inner-variables-bare (d ∷ ds) = ap (λ z. z ++ (word key.In ∷ [])) (variables-bare (d ∷ ds))

left-bare : (xs : List (List ℕ × Span)) → left_tokens (map bare_name xs) ≡ left_tokens xs
left-bare xs =
    let n : length (map bare_name xs) ≡ length xs = length-map xs bare_name in
    let names = phrases-bare left_name bare_name (λ x. refl) xs in
    λ i. if n i == 1 then joined_by (sign mark.Comma) (names i) else in_parentheses (joined_by (sign mark.Comma) (names i))

transition-bare : (t : Trans) → transition_tokens (bare_transition t) ≡ transition_tokens t
transition-bare t = ap (λ z. z ++ (word (if t.restart then key.Then else key.Continue) ∷ (capital t.target ∷ []))) (expression-bare t.cond)

transitions-bare : (k : Keyword) (ts : List Trans) → transitions_tokens k (map bare_transition ts) ≡ transitions_tokens k ts
transitions-bare k [] = refl
transitions-bare k (t ∷ ts) = ap (λ z. word k ∷ joined_by (sign mark.Bar) z) (phrases-bare transition_tokens bare_transition transition-bare (t ∷ ts))

-- ---- blocks

mutual
  body-bare : (b : Block) → body_tokens (bare_block b) ≡ body_tokens b
  body-bare (block ds es) = λ i. variables-bare ds i ++ (word key.Do ∷ equations-bare es i)

  inner-bare : (b : Block) → inner_tokens (bare_block b) ≡ inner_tokens b
  inner-bare (block ds es) = λ i. inner-variables-bare ds i ++ equations-bare es i

  equations-bare : (es : Eqns) → equations_tokens (bare_eqns es) ≡ equations_tokens es
  equations-bare no_eqn = refl
  equations-bare (more_eqns e es) = λ i. equation-bare e i ++ (sign mark.Semicolon ∷ equations-bare es i)

  equation-bare : (e : Eqn) → equation_tokens (bare_eqn e) ≡ equation_tokens e
  equation-bare (define s xs e) = λ i. left-bare xs i ++ (sign mark.Equal ∷ expression-bare e i)
  equation-bare (switch s e arms) = λ i. word key.Switch ∷ (expression-bare e i ++ (arms-bare arms i ++ (word key.End ∷ [])))
  equation-bare (reset s b e) = λ i. word key.Reset ∷ (inner-bare b i ++ (word key.Every ∷ expression-bare e i))
  equation-bare (automaton s qs) = λ i. word key.Automaton ∷ (states-bare qs i ++ (word key.End ∷ []))

  arms-bare : (arms : Arms) → arms_tokens (bare_arms arms) ≡ arms_tokens arms
  arms-bare no_arm = refl
  arms-bare (more_arms c b s arms) = λ i. sign mark.Bar ∷ (cons_token c ∷ (body-bare b i ++ arms-bare arms i))

  states-bare : (qs : States) → states_tokens (bare_states qs) ≡ states_tokens qs
  states-bare no_state = refl
  states-bare (more_states x b until unless s qs) =
      λ i. word key.State ∷ (capital x ∷ (body-bare b i ++ (transitions-bare key.Until until i ++ (transitions-bare key.Unless unless i ++ states-bare qs i))))

whole-block-bare : (b : Block) → whole_block_tokens (bare_block b) ≡ whole_block_tokens b
whole-block-bare (block ds es) = λ i. variables-bare ds i ++ (word key.Let ∷ (equations-bare es i ++ (word key.Tel ∷ [])))

empty-bare : (b : Block) → is_empty_block (bare_block b) ≡ is_empty_block b
empty-bare (block [] no_eqn) = refl
empty-bare (block [] (more_eqns e es)) = refl
empty-bare (block (d ∷ ds) es) = refl

contract-block-bare : (b : Block) → contract_block_tokens (bare_block b) ≡ contract_block_tokens b
contract-block-bare b = λ i. if empty-bare b i then [] else whole-block-bare b i

-- ---- programs

clause-bare : (k : Keyword) (e : Option Expr) → clause_tokens k (option_map bare e) ≡ clause_tokens k e
clause-bare k None = refl
clause-bare k (Some e) = ap (λ z. word k ∷ z) (expression-bare e)

controls-bare : (cs : List Decl) → controls_tokens (map bare_decl cs) ≡ controls_tokens cs
controls-bare [] = refl
controls-bare (c ∷ cs) = ap (λ z. word key.With ∷ z) (parameters-bare (c ∷ cs))

contract-bare : (c : Contract) → contract_tokens (bare_contract c) ≡ contract_tokens c
contract-bare c =
    λ i. word key.Contract ∷ (contract-block-bare c.body i ++ (clause-bare key.Assume c.assume i ++ (clause-bare key.Enforce c.enforce i ++ controls-bare c.controls i)))

node-contract-bare : (c : Option Contract) → node_contract_tokens (option_map bare_contract c) ≡ node_contract_tokens c
node-contract-bare None = refl
node-contract-bare (Some c) = contract-bare c

item-bare : (item : Item) → item_tokens (bare_item item) ≡ item_tokens item
item-bare (TypeItem t) = refl
item-bare (NodeItem n) =
    λ i. word key.Node ∷ (small n.name ∷ (parameters-bare n.inputs i ++ (word key.Returns ∷ (parameters-bare n.outputs i ++ (node-contract-bare n.contract i ++ whole-block-bare n.body i)))))

pub program-bare : (items : List Item) → program_tokens (bare_program items) ≡ program_tokens items
program-bare [] = refl
program-bare (item ∷ items) = λ i. item-bare item i ++ program-bare items i
