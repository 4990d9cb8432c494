-- A text has no room for a million inlined calls: each of them has two tokens of its own at least, and each token has a byte.
use Rattle.std.proofs.Common.{◌≡◌, ℕ, zero, suc, ◌+◌, ◌*◌, ◌<◌, ◌≤◌, ◌||◌, List, [], ◌∷◌, map, length, Option, None, Some, refl, ap, arith}
use Rattle.std.proofs.lemmas.List.{length-append, length-map}
use Rattle.hp_base.specs.declared.span.Span.{Span}
use Rattle.hp_lexer.specs.Lexing.{Piece, Reads}
use Rattle.hp_lexer.specs.declared.token.Token.{Token}
use Rattle.hp_lexer.specs.declared.token.TokenKind.{TokenKind}
use Rattle.hp_lexer.specs.declared.token.TokenKind.TheVariants as kind
use Rattle.hp_lexer.specs.declared.token.Keyword.{Keyword}
use Rattle.hp_lexer.specs.declared.token.Keyword.TheVariants as key
use Rattle.hp_lexer.specs.declared.token.Sign.TheVariants as mark
use Rattle.hp_lexer.proofs.Words.{head}
use Rattle.hp_tree.specs.declared.decl.Cons.{Cons}
use Rattle.hp_tree.specs.declared.decl.Cons.TheVariants.{True, False}
use Rattle.hp_tree.specs.declared.program.Item.{Item}
use Rattle.hp_tree.specs.declared.program.Item.TheVariants.{TypeItem, NodeItem}
use Rattle.hp_tree.specs.Expressions.{Expr, exprs_of, parts_of}
use Rattle.hp_tree.specs.Blocks.{Block, Eqn, Arm, State, eqns_of, arms_of, states_of}
use Rattle.hp_tree.specs.Programs.{Contract}
use Rattle.hp_parser.specs.Lexemes.{Lexeme, lexeme, lexemes}
use Rattle.hp_parser.specs.Notation.{Measured}
use Rattle.hp_parser.specs.Relation.{Phrase, relation}
use Rattle.hp_parser.specs.Grammar as grammar
use Rattle.hp_parser.specs.Grammar.{Levels, Part, prefixed, of_name, of_call}
use Rattle.hp_parser.specs.BlockGrammar as grammar_of
use Rattle.hp_parser.specs.BlockGrammar.{block_of}
use Rattle.hp_parser.specs.ProgramGrammar as grammar_for
use Rattle.hp_parser.specs.ProgramGrammar.{Clauses, block_or_none, types_in}
use Rattle.hp_parser.specs.Programs.{name as lowest_name, expressions, blocks, expression_of, IsProgram}
use Rattle.hp_parser.specs.Tokens.{keyword, sign_of, small, capital, constructor, only_whole, prefix, is_product, is_sum, is_comparison, is_conjunction, is_disjunction, is_implication, is_delay, is_arrow, begins_sample, begins_item}
use Rattle.hp_parser.specs.declared.mode.Mode.{Mode}
use Rattle.hp_parser.specs.declared.mode.Mode.TheVariants.{Whole}
use Rattle.law_judged.specs.Named.Scoped.{EachNode}
use Rattle.law_judged.specs.Replaced.Inlined.{in_expr, in_exprs, in_parts, in_block, in_eqns, in_eqn, in_arms, in_states, in_condition, in_contract, in_node}
use Rattle.law_judged.specs.Plain.Laws.{FewCallsLaw}
use Rattle.law_judged.proofs.PlainLemmas.Weighed.{Weighed, weighed_token, weighed_nothing, weighed_say, weighed_give, weighed_either, weighed_separated, weighed_many, weighed_convert, weighed_both, weighed_behind, weighed_before, weighed_optional, weighed_suffix, weighed_suffixes, total, if_any}

-- ---- expressions: an inlined call weighs two

abbrev calls : Measured → ℕ
calls m = 2 * in_expr m.expr

abbrev part_calls : Part → ℕ
part_calls p = calls p.value

arguments_same : (ms : List Measured) → 2 * in_exprs (exprs_of (map (λ (m : Measured). m.expr) ms)) ≡ total calls ms
arguments_same [] = refl
arguments_same (m ∷ ms) = omega (arith, arguments_same ms)

parts_same : (ps : List Part) → 2 * in_parts (parts_of (map (λ (p : Part). (p.cons, p.value.expr)) ps)) ≡ total part_calls ps
parts_same [] = refl
parts_same (p ∷ ps) = omega (arith, parts_same ps)

prefixed_same : (k : TokenKind) (e : Expr) (s : Span) → in_expr (prefixed k e s) ≡ in_expr e
prefixed_same (kind.Keyword key.Not) e s = refl
prefixed_same (kind.Keyword key.Pre) e s = refl
prefixed_same k e s = refl

record LevelsWeighed (L : Levels Phrase) : Type 0 where
  expression : Weighed L.expression calls
  delayed : Weighed L.delayed calls
  implication : Weighed L.implication calls
  conjunction : Weighed L.conjunction calls
  comparison : Weighed L.comparison calls
  sum : Weighed L.sum calls
  product : Weighed L.product calls
  unary : Weighed L.unary calls

module _ (mode : Mode) (depth : Option ℕ) (lower : Levels Phrase) (below : LevelsWeighed lower) where
  arguments_weighed : Weighed (grammar.arguments relation mode depth lower) (λ r. total calls r.0)
  arguments_weighed =
      weighed_behind (sign_of mark.Open) (weighed_say (λ r. total calls r.0) (λ r. omega arith)
      (weighed_both
      (weighed_either _ _
      (weighed_convert _ (total calls) (λ r. omega arith)
      (weighed_both below.expression (weighed_many _ _ _ None (weighed_behind (sign_of mark.Comma) below.expression))))
      (weighed_give (total calls) [] refl))
      (weighed_token (sign_of mark.Close))))

  named_weighed : Weighed (grammar.named relation mode depth lower) calls
  named_weighed =
      weighed_convert _ calls (λ r. by r.0 r.1) (weighed_both (weighed_token small) (weighed_optional (only_whole mode (sign_of mark.Open)) arguments_weighed))
    where
      by : (t : Lexeme) (o : Option (List Measured × Lexeme)) → calls (of_name t o) ≤ 1 + if_any (λ r. total calls r.0) o
      by t None = omega arith
      by t (Some r) = omega (arith, arguments_same r.0)

  inlined_weighed : Weighed (grammar.inlined_call relation mode depth lower) calls
  inlined_weighed =
      weighed_convert _ calls (λ r. omega (arith, arguments_same r.1.1.0))
      (weighed_both (weighed_token (keyword key.Inlined)) (weighed_both (weighed_token small) arguments_weighed))

  parentheses_weighed : Weighed (grammar.parentheses relation mode depth lower) calls
  parentheses_weighed =
      weighed_convert _ calls (λ r. omega arith)
      (weighed_both (weighed_token (sign_of mark.Open)) (weighed_both below.expression (weighed_token (sign_of mark.Close))))

  part_weighed : Weighed (grammar.part relation mode depth lower) part_calls
  part_weighed =
      weighed_convert _ part_calls (λ r. omega arith)
      (weighed_behind (sign_of mark.Open) (weighed_both (weighed_token constructor)
      (weighed_behind (sign_of mark.Arrow) (weighed_both below.expression (weighed_token (sign_of mark.Close))))))

  merged_weighed : Weighed (grammar.merged relation mode depth lower) calls
  merged_weighed =
      weighed_convert _ calls (λ r. omega (arith, parts_same (r.1.1.0 ∷ r.1.1.1)))
      (weighed_both (weighed_token (keyword key.Merge)) (weighed_both (weighed_token small)
      (weighed_both part_weighed (weighed_many _ _ _ None part_weighed))))

  atom_weighed : Weighed (grammar.atom relation mode depth lower) calls
  atom_weighed =
      weighed_either _ _ named_weighed
      (weighed_either _ _ (weighed_convert _ calls (λ r. omega arith) (weighed_nothing _))
      (weighed_either _ _ parentheses_weighed
      (weighed_either _ _ (weighed_convert _ calls (λ r. omega arith) (weighed_nothing _))
      (weighed_either _ _ merged_weighed
      (weighed_either _ _ inlined_weighed
      (weighed_convert _ calls (λ r. omega arith) (weighed_nothing _)))))))

  unary_weighed : Weighed (grammar.unary relation mode depth lower) calls
  unary_weighed =
      weighed_either _ _
      (weighed_convert _ calls (λ r. omega (arith, prefixed_same r.0.kind r.1.expr (grammar.up_to r.0.span r.1.end)))
      (weighed_both (weighed_token (prefix mode)) below.unary))
      atom_weighed

  product_weighed : Weighed (grammar.product relation mode depth lower) calls
  product_weighed = weighed_suffixes is_product grammar.of_operator depth (λ m r. omega arith) unary_weighed (weighed_both (weighed_token is_product) below.unary)

  sum_weighed : Weighed (grammar.sum relation mode depth lower) calls
  sum_weighed = weighed_suffixes is_sum grammar.of_operator depth (λ m r. omega arith) product_weighed (weighed_both (weighed_token is_sum) below.product)

  comparison_weighed : Weighed (grammar.comparison relation mode depth lower) calls
  comparison_weighed = weighed_suffix is_comparison grammar.of_operator depth (λ m r. omega arith) sum_weighed (weighed_both (weighed_token is_comparison) below.sum)

  conjunction_weighed : Weighed (grammar.conjunction relation mode depth lower) calls
  conjunction_weighed =
      weighed_suffixes is_conjunction grammar.of_operator depth (λ m r. omega arith) comparison_weighed (weighed_both (weighed_token is_conjunction) below.comparison)

  disjunction_weighed : Weighed (grammar.disjunction relation mode depth lower) calls
  disjunction_weighed =
      weighed_suffixes is_disjunction grammar.of_operator depth (λ m r. omega arith) conjunction_weighed (weighed_both (weighed_token is_disjunction) below.conjunction)

  implication_weighed : Weighed (grammar.implication relation mode depth lower) calls
  implication_weighed =
      weighed_suffix is_implication grammar.of_operator depth (λ m r. omega arith) disjunction_weighed (weighed_both (weighed_token is_implication) below.implication)

  delayed_weighed : Weighed (grammar.delayed relation mode depth lower) calls
  delayed_weighed = weighed_suffix (is_delay mode) grammar.of_delay depth (λ m r. omega arith) implication_weighed (weighed_both (weighed_token (keyword key.Fby)) below.delayed)

  sampled_weighed : Weighed (grammar.sampled relation mode depth lower) calls
  sampled_weighed = weighed_suffixes (begins_sample mode) grammar.of_sample depth (λ m s. omega arith) delayed_weighed (weighed_nothing _)

  arrowed_weighed : Weighed (grammar.arrowed relation mode depth lower) calls
  arrowed_weighed = weighed_suffix (is_arrow mode) grammar.of_arrow depth (λ m r. omega arith) sampled_weighed (weighed_both (weighed_token (sign_of mark.Arrow)) below.expression)

  conditional_weighed : Weighed (grammar.conditional relation mode depth lower) calls
  conditional_weighed =
      weighed_convert _ calls (λ r. omega arith)
      (weighed_both (weighed_token (keyword key.If)) (weighed_both below.expression
      (weighed_both (weighed_behind (keyword key.Then) below.expression) (weighed_behind (keyword key.Else) below.expression))))

  next_weighed : LevelsWeighed (grammar.levels relation mode depth lower)
  next_weighed = record {
    expression = weighed_either _ _ conditional_weighed arrowed_weighed;
    delayed = delayed_weighed;
    implication = implication_weighed;
    conjunction = conjunction_weighed;
    comparison = comparison_weighed;
    sum = sum_weighed;
    product = product_weighed;
    unary = unary_weighed;
  }

-- a name, the lowest expression
name_weighed : Weighed (lowest_name relation) calls
name_weighed = weighed_convert _ calls (λ r. omega arith) (weighed_token small)

levels_weighed : (mode : Mode) (n : ℕ) → LevelsWeighed (expressions relation Some mode n)
levels_weighed mode zero = record {
  expression = name_weighed;
  delayed = name_weighed;
  implication = name_weighed;
  conjunction = name_weighed;
  comparison = name_weighed;
  sum = name_weighed;
  product = name_weighed;
  unary = name_weighed;
}
levels_weighed mode (suc n) = next_weighed mode (Some (suc n)) (expressions relation Some mode n) (levels_weighed mode n)

-- ---- equations and blocks

abbrev block_calls : Block → ℕ
block_calls b = 2 * in_block b

abbrev eqn_calls : Eqn → ℕ
eqn_calls e = 2 * in_eqn e

abbrev arm_calls : Arm → ℕ
arm_calls a = block_calls a.body

abbrev state_calls : State → ℕ
state_calls q = block_calls q.body

eqns_same : (xs : List Eqn) → 2 * in_eqns (eqns_of xs) ≡ total eqn_calls xs
eqns_same [] = refl
eqns_same (e ∷ xs) = omega (arith, eqns_same xs)

arms_same : (xs : List Arm) → 2 * in_arms (arms_of xs) ≡ total arm_calls xs
arms_same [] = refl
arms_same (a ∷ xs) = omega (arith, arms_same xs)

states_same : (xs : List State) → 2 * in_states (states_of xs) ≡ total state_calls xs
states_same [] = refl
states_same (q ∷ xs) = omega (arith, states_same xs)

-- ---- contracts and programs

abbrev condition_calls : Option Expr → ℕ
condition_calls o = 2 * in_condition o

abbrev clauses_calls : Clauses → ℕ
clauses_calls c = condition_calls c.assume + condition_calls c.enforce

abbrev contract_calls : Contract → ℕ
contract_calls c = block_calls c.body + (condition_calls c.assume + condition_calls c.enforce)

abbrev item_calls : Item → ℕ
item_calls (TypeItem t) = 0
item_calls (NodeItem n) = 2 * in_node n

-- what holds of every phrase of an expression holds of the phrases that are made of them
module _ (X : Mode → Phrase Measured) (found : (mode : Mode) → Weighed (X mode) calls) where
  definition_weighed : Weighed (grammar_of.definition relation X) eqn_calls
  definition_weighed = weighed_convert _ eqn_calls (λ r. omega arith) (weighed_both (weighed_nothing _) (weighed_behind (sign_of mark.Equal) (found Whole)))

  module _ (nest : Option ℕ) (lower : Phrase (List Eqn)) (below : Weighed lower (total eqn_calls)) where
    body_weighed : Weighed (grammar_of.body relation X nest lower) block_calls
    body_weighed = weighed_convert _ block_calls (λ r. omega (arith, eqns_same r.1)) (weighed_both (weighed_nothing _) (weighed_behind (keyword key.Do) below))

    inner_weighed : Weighed (grammar_of.inner relation X nest lower) block_calls
    inner_weighed = weighed_convert _ block_calls (λ r. omega (arith, eqns_same r.1)) (weighed_both (weighed_nothing _) below)

    arm_weighed : Weighed (grammar_of.arm relation X nest lower) arm_calls
    arm_weighed = weighed_convert _ arm_calls (λ r. omega arith) (weighed_behind (sign_of mark.Bar) (weighed_both (weighed_token constructor) body_weighed))

    switched_weighed : Weighed (grammar_of.switched relation X nest lower) eqn_calls
    switched_weighed =
        weighed_convert _ eqn_calls (λ r. omega (arith, arms_same r.1.1.1))
        (weighed_both (weighed_token (keyword key.Switch)) (weighed_both (found Whole)
        (weighed_before (keyword key.End) (weighed_both arm_weighed (weighed_many _ _ _ None arm_weighed)))))

    arm_behind_weighed : (c : Cons) (word : Keyword) → Weighed (grammar_of.arm_behind relation X nest lower c (keyword word)) arm_calls
    arm_behind_weighed c word = weighed_convert _ arm_calls (λ r. omega arith) (weighed_both (weighed_token (keyword word)) inner_weighed)

    branched_weighed : Weighed (grammar_of.branched relation X nest lower) eqn_calls
    branched_weighed =
        weighed_convert _ eqn_calls (λ r. omega arith)
        (weighed_both (weighed_token (keyword key.If)) (weighed_both (found Whole)
        (weighed_before (keyword key.End) (weighed_both (arm_behind_weighed True key.Then) (arm_behind_weighed False key.Else)))))

    restarted_weighed : Weighed (grammar_of.restarted relation X nest lower) eqn_calls
    restarted_weighed =
        weighed_convert _ eqn_calls (λ r. omega arith)
        (weighed_both (weighed_token (keyword key.Reset)) (weighed_both inner_weighed (weighed_behind (keyword key.Every) (found Whole))))

    state_weighed : Weighed (grammar_of.state relation X nest lower) state_calls
    state_weighed =
        weighed_convert _ state_calls (λ r. omega arith)
        (weighed_behind (keyword key.State) (weighed_both (weighed_token capital) (weighed_both body_weighed (weighed_nothing _))))

    moded_weighed : Weighed (grammar_of.moded relation X nest lower) eqn_calls
    moded_weighed =
        weighed_convert _ eqn_calls (λ r. omega (arith, states_same r.1.1))
        (weighed_both (weighed_token (keyword key.Automaton))
        (weighed_before (keyword key.End) (weighed_both state_weighed (weighed_many _ _ _ None state_weighed))))

    equation_weighed : Weighed (grammar_of.equation relation X nest lower) eqn_calls
    equation_weighed =
        weighed_either _ _ (weighed_either _ _ switched_weighed (weighed_either _ _ branched_weighed (weighed_either _ _ restarted_weighed moded_weighed))) definition_weighed

    equations_weighed : Weighed (grammar_of.equations relation X nest lower) (total eqn_calls)
    equations_weighed = weighed_either _ _ (weighed_separated _ _ equation_weighed) (weighed_give (total eqn_calls) [] refl)

  blocks_weighed : (n : ℕ) → Weighed (blocks relation Some X n) (total eqn_calls)
  blocks_weighed zero = weighed_give (total eqn_calls) [] refl
  blocks_weighed (suc n) = equations_weighed (Some (suc n)) (blocks relation Some X n) (blocks_weighed n)

  module _ (types inputs outputs more : Option ℕ) (lower : Phrase (List Eqn)) (below : Weighed lower (total eqn_calls)) where
    whole_block_weighed : Weighed (grammar_for.whole_block relation types inputs outputs more X lower) block_calls
    whole_block_weighed =
        weighed_convert _ block_calls (λ r. omega (arith, eqns_same r.1))
        (weighed_both (weighed_nothing _) (weighed_behind (keyword key.Let) (weighed_before (keyword key.Tel) below)))

    clause_weighed : (word : Keyword) → Weighed (grammar_for.clause relation types inputs outputs more X lower (keyword word)) (λ e. 2 * in_expr e)
    clause_weighed word = weighed_convert _ (λ e. 2 * in_expr e) (λ m. omega arith) (weighed_behind (keyword word) (found Whole))

    condition_weighed : (word : Keyword) → Weighed (grammar.optional relation (keyword word) (grammar_for.clause relation types inputs outputs more X lower (keyword word))) condition_calls
    condition_weighed word = weighed_either _ _ (weighed_convert Some condition_calls (λ e. omega arith) (clause_weighed word)) (weighed_give condition_calls None refl)

    clauses_weighed : Weighed (grammar_for.clauses relation types inputs outputs more X lower) clauses_calls
    clauses_weighed =
        weighed_either _ _
        (weighed_convert _ clauses_calls (λ r. omega arith)
        (weighed_both (clause_weighed key.Assume) (weighed_both (condition_weighed key.Enforce) (weighed_nothing _))))
        (weighed_either _ _
        (weighed_convert _ clauses_calls (λ r. omega arith) (weighed_both (clause_weighed key.Enforce) (weighed_nothing _)))
        (weighed_convert _ clauses_calls (λ r. omega arith) (weighed_nothing _)))

    optional_block_weighed : Weighed (grammar.optional relation (λ k. keyword key.Var k || keyword key.Let k) (grammar_for.whole_block relation types inputs outputs more X lower)) (λ o. block_calls (block_or_none o))
    optional_block_weighed =
        weighed_either _ _ (weighed_convert Some (λ o. block_calls (block_or_none o)) (λ b. omega arith) whole_block_weighed) (weighed_give (λ o. block_calls (block_or_none o)) None refl)

    contract_weighed : Weighed (grammar_for.contract relation types inputs outputs more X lower) contract_calls
    contract_weighed =
        weighed_convert _ contract_calls (λ r. omega arith)
        (weighed_both (weighed_token (keyword key.Contract)) (weighed_both optional_block_weighed clauses_weighed))

    node_weighed : Weighed (grammar_for.node relation types inputs outputs more X lower) item_calls
    node_weighed =
        weighed_convert _ item_calls (λ r. by r.1.1.1.0 (in_block r.1.1.1.1))
        (weighed_behind (keyword key.Node) (weighed_both (weighed_token small) (weighed_both (weighed_nothing _)
        (weighed_both (weighed_nothing _)
        (weighed_both (weighed_optional (keyword key.Contract) contract_weighed) whole_block_weighed)))))
      where
        by : (o : Option Contract) (n : ℕ) → 2 * (in_contract o + n) ≤ 1 + (0 + (0 + (if_any contract_calls o + 2 * n)))
        by None n = omega arith
        by (Some c) n = omega arith

    program_weighed : Weighed (grammar_for.program relation types inputs outputs more X lower) (total item_calls)
    program_weighed =
        weighed_many begins_item (keyword key.Type) types_in types
        (weighed_either _ _ (weighed_convert _ item_calls (λ r. omega arith) (weighed_nothing _)) node_weighed)

expressions_weighed : (mode : Mode) → Weighed (expression_of relation Some 200 mode) calls
expressions_weighed mode = (levels_weighed mode 200).expression

-- the inlined calls of all nodes of a program, and its tokens
calls_of_program : (us : List Lexeme) (program : List Item) → IsProgram us program → total item_calls program ≤ length us
calls_of_program us program p =
    (program_weighed (expression_of relation Some 200) expressions_weighed (Some 1000) (Some 64) (Some 64) (Some 63) _
    (blocks_weighed (expression_of relation Some 200) expressions_weighed 64)).all us program p

-- ---- tokens and bytes

piece_length : {front w rest : List ℕ} {next : List Token} → Piece front w rest next → length next ≤ length w
piece_length (Piece.blank_piece b h) = omega arith
piece_length (Piece.comment_piece c) = omega arith
piece_length {w = w} (Piece.token_piece kind t l) =
    let d = head kind w t.spelled in
    let some : length w ≡ suc (length d.behind) = ap length d.w_is in
    omega (arith, some)

-- each token has a byte of its own
tokens_length : {front rest : List ℕ} {tokens : List Token} → Reads front tokens rest → length tokens ≤ length front
tokens_length (Reads.nothing) = omega arith
tokens_length (Reads.more {front = f} {w = w} {tokens = ts} {next = next} r p) =
    omega (arith, tokens_length r, piece_length p, length-append f w, length-append ts next)

-- ---- the nodes of a text

each_few : (program : List Item) → total item_calls program < 2000000 → EachNode (λ n. in_node n < 1000000) program
each_few [] h = tt
each_few (TypeItem t ∷ items) h = each_few items (omega (arith, h))
each_few (NodeItem n ∷ items) h = (omega (arith, h), each_few items (omega (arith, h)))

-- No node of a text has a million inlined calls.
pub few_calls : FewCallsLaw
few_calls text tokens program a p =
    let same : length (lexemes text tokens) ≡ length tokens = length-map tokens (lexeme text) in
    each_few program (omega (arith, calls_of_program (lexemes text tokens) program p, same, tokens_length a.read, a.size))
