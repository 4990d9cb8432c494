-- How many states and transitions there are in a text: each has two tokens of its own at least, and each token has a byte.
use Rattle.std.proofs.Common.{◌≡◌, ℕ, zero, suc, ◌+◌, ◌*◌, ◌<◌, ◌≤◌, ◌||◌, List, [], ◌∷◌, length, Option, None, Some, refl, ap, arith}
use Rattle.std.proofs.lemmas.List.{length-append, length-map}
use Rattle.hp_lexer.specs.Lexing.{Piece, Reads, AreTokensOf}
use Rattle.hp_lexer.specs.declared.token.Token.{Token}
use Rattle.hp_lexer.specs.declared.token.Keyword.{Keyword}
use Rattle.hp_lexer.specs.declared.token.Keyword.TheVariants as key
use Rattle.hp_lexer.specs.declared.token.Sign.TheVariants as mark
use Rattle.hp_lexer.proofs.Words.{head}
use Rattle.hp_tree.specs.declared.block.Trans.{Trans}
use Rattle.hp_tree.specs.declared.decl.Cons.{Cons}
use Rattle.hp_tree.specs.declared.decl.Cons.TheVariants.{True, False}
use Rattle.hp_tree.specs.declared.program.Item.{Item}
use Rattle.hp_tree.specs.declared.program.Item.TheVariants.{TypeItem, NodeItem}
use Rattle.hp_tree.specs.Blocks.{Block, block, Eqns, no_eqn, more_eqns, Eqn, define, switch, reset, automaton, Arms, no_arm, more_arms, States, no_state, more_states, Arm, State, eqns_of, arms_of, states_of}
use Rattle.hp_tree.specs.Programs.{Contract}
use Rattle.hp_parser.specs.Lexemes.{Lexeme, Kinds, lexeme, lexemes}
use Rattle.hp_parser.specs.Notation.{Measured}
use Rattle.hp_parser.specs.Relation.{Phrase, relation}
use Rattle.hp_parser.specs.Grammar as grammar
use Rattle.hp_parser.specs.BlockGrammar as grammar_of
use Rattle.hp_parser.specs.BlockGrammar.{Transitions, all_or_none}
use Rattle.hp_parser.specs.ProgramGrammar as grammar_for
use Rattle.hp_parser.specs.ProgramGrammar.{block_or_none, types_in}
use Rattle.hp_parser.specs.Programs.{blocks, expression_of, IsProgram}
use Rattle.hp_parser.specs.Tokens.{keyword, sign_of, small, capital, constructor, begins_item}
use Rattle.hp_parser.specs.declared.mode.Mode.{Mode}
use Rattle.law_judged.proofs.PlainLemmas.Weighed.{Weighed, weighed_token, weighed_nothing, weighed_give, weighed_either, weighed_separated, weighed_many, weighed_convert, weighed_both, weighed_behind, weighed_before, weighed_optional, total, if_any}

-- ---- states and transitions

abbrev mutual
  pub in_block : Block → ℕ
  in_block (block ds es) = in_eqns es

  pub in_eqns : Eqns → ℕ
  in_eqns no_eqn = 0
  in_eqns (more_eqns e es) = in_eqn e + in_eqns es

  pub in_eqn : Eqn → ℕ
  in_eqn (define s ys e) = 0
  in_eqn (switch s e arms) = in_arms arms
  in_eqn (reset s b e) = in_block b
  in_eqn (automaton s ss) = in_states ss

  pub in_arms : Arms → ℕ
  in_arms no_arm = 0
  in_arms (more_arms c b s arms) = in_block b + in_arms arms

  pub in_states : States → ℕ
  in_states no_state = 0
  in_states (more_states f b until unless s ss) = suc (length until + length unless) + (in_block b + in_states ss)

abbrev pub in_contract : Option Contract → ℕ
in_contract None = 0
in_contract (Some c) = in_block c.body

-- ---- transitions weigh two

-- a phrase behind a token, which weighs one
weighed_led : {A : Type 0} {P : Phrase A} {m : A → ℕ} (kinds : Kinds) → Weighed P m → Weighed (grammar.behind relation kinds P) (λ a. suc (m a))
weighed_led {A} {P} {m} kinds e = weighed_convert _ (λ a. suc (m a)) (λ r. omega arith) (weighed_both (weighed_token kinds) e)

abbrev pair : {A : Type 0} → A → ℕ
pair a = 2

abbrev row : List Trans → ℕ
row ts = 2 * length ts

row_same : (ts : List Trans) → row ts ≡ total pair ts
row_same [] = refl
row_same (t ∷ ts) = omega (arith, row_same ts)

abbrev both_rows : Transitions → ℕ
both_rows t = row t.until + row t.unless

row_or_none : (o : Option (List Trans)) → row (all_or_none o) ≡ if_any row o
row_or_none None = refl
row_or_none (Some ts) = refl

-- ---- blocks

abbrev block_weight : Block → ℕ
block_weight b = 2 * in_block b

abbrev eqn_weight : Eqn → ℕ
eqn_weight e = 2 * in_eqn e

abbrev arm_weight : Arm → ℕ
arm_weight a = block_weight a.body

abbrev state_weight : State → ℕ
state_weight q = 2 * (suc (length q.until + length q.unless) + in_block q.body)

eqns_same : (xs : List Eqn) → 2 * in_eqns (eqns_of xs) ≡ total eqn_weight xs
eqns_same [] = refl
eqns_same (e ∷ xs) = omega (arith, eqns_same xs)

arms_same : (xs : List Arm) → 2 * in_arms (arms_of xs) ≡ total arm_weight xs
arms_same [] = refl
arms_same (a ∷ xs) = omega (arith, arms_same xs)

states_same : (xs : List State) → 2 * in_states (states_of xs) ≡ total state_weight xs
states_same [] = refl
states_same (q ∷ xs) = omega (arith, states_same xs)

abbrev contract_weight : Contract → ℕ
contract_weight c = block_weight c.body

abbrev item_weight : Item → ℕ
item_weight (TypeItem t) = 0
item_weight (NodeItem n) = 2 * (in_contract n.contract + in_block n.body)

-- whatever the phrases of expressions are
module _ (X : Mode → Phrase Measured) where
  transition_weighed : Weighed (grammar_of.transition relation X) pair
  transition_weighed = weighed_convert _ pair (λ r. omega arith) (weighed_both (weighed_nothing _) (weighed_both (weighed_token _) (weighed_token capital)))

  transitions_weighed : Weighed (grammar_of.transitions relation X) row
  transitions_weighed =
      weighed_convert _ row (λ r. omega (arith, row_same r.1))
      (weighed_both (weighed_either _ _ (weighed_behind (sign_of mark.Bar) transition_weighed) transition_weighed) (weighed_many _ _ _ None (weighed_behind (sign_of mark.Bar) transition_weighed)))

  all_transitions_weighed : Weighed (grammar_of.all_transitions relation X) both_rows
  all_transitions_weighed =
      weighed_either _ _
      (weighed_convert _ both_rows (λ r. omega (arith, row_or_none r.1))
      (weighed_both (weighed_behind (keyword key.Until) transitions_weighed) (weighed_optional (keyword key.Unless) (weighed_behind (keyword key.Unless) transitions_weighed))))
      (weighed_either _ _
      (weighed_convert _ both_rows (λ r. omega (arith, row_or_none r.1))
      (weighed_both (weighed_behind (keyword key.Unless) transitions_weighed) (weighed_optional (keyword key.Until) (weighed_behind (keyword key.Until) transitions_weighed))))
      (weighed_give both_rows _ refl))

  definition_weighed : Weighed (grammar_of.definition relation X) eqn_weight
  definition_weighed = weighed_convert _ eqn_weight (λ r. omega arith) (weighed_nothing _)

  module _ (nest : Option ℕ) (lower : Phrase (List Eqn)) (below : Weighed lower (total eqn_weight)) where
    body_weighed : Weighed (grammar_of.body relation X nest lower) block_weight
    body_weighed = weighed_convert _ block_weight (λ r. omega (arith, eqns_same r.1)) (weighed_both (weighed_nothing _) (weighed_behind (keyword key.Do) below))

    inner_weighed : Weighed (grammar_of.inner relation X nest lower) block_weight
    inner_weighed = weighed_convert _ block_weight (λ r. omega (arith, eqns_same r.1)) (weighed_both (weighed_nothing _) below)

    arm_weighed : Weighed (grammar_of.arm relation X nest lower) arm_weight
    arm_weighed = weighed_convert _ arm_weight (λ r. omega arith) (weighed_behind (sign_of mark.Bar) (weighed_both (weighed_token constructor) body_weighed))

    switched_weighed : Weighed (grammar_of.switched relation X nest lower) eqn_weight
    switched_weighed =
        weighed_convert _ eqn_weight (λ r. omega (arith, arms_same r.1.1.1))
        (weighed_both (weighed_token (keyword key.Switch)) (weighed_both (weighed_nothing _)
        (weighed_before (keyword key.End) (weighed_both arm_weighed (weighed_many _ _ _ None arm_weighed)))))

    arm_behind_weighed : (c : Cons) (word : Keyword) → Weighed (grammar_of.arm_behind relation X nest lower c (keyword word)) arm_weight
    arm_behind_weighed c word = weighed_convert _ arm_weight (λ r. omega arith) (weighed_both (weighed_token (keyword word)) inner_weighed)

    branched_weighed : Weighed (grammar_of.branched relation X nest lower) eqn_weight
    branched_weighed =
        weighed_convert _ eqn_weight (λ r. omega arith)
        (weighed_both (weighed_token (keyword key.If)) (weighed_both (weighed_nothing _)
        (weighed_before (keyword key.End) (weighed_both (arm_behind_weighed True key.Then) (arm_behind_weighed False key.Else)))))

    restarted_weighed : Weighed (grammar_of.restarted relation X nest lower) eqn_weight
    restarted_weighed =
        weighed_convert _ eqn_weight (λ r. omega arith)
        (weighed_both (weighed_token (keyword key.Reset)) (weighed_both inner_weighed (weighed_nothing _)))

    state_weighed : Weighed (grammar_of.state relation X nest lower) state_weight
    state_weighed =
        weighed_convert _ state_weight (λ r. omega arith)
        (weighed_led (keyword key.State) (weighed_both (weighed_token capital) (weighed_both body_weighed all_transitions_weighed)))

    moded_weighed : Weighed (grammar_of.moded relation X nest lower) eqn_weight
    moded_weighed =
        weighed_convert _ eqn_weight (λ r. omega (arith, states_same r.1.1))
        (weighed_both (weighed_token (keyword key.Automaton))
        (weighed_before (keyword key.End) (weighed_both state_weighed (weighed_many _ _ _ None state_weighed))))

    equation_weighed : Weighed (grammar_of.equation relation X nest lower) eqn_weight
    equation_weighed =
        weighed_either _ _ (weighed_either _ _ switched_weighed (weighed_either _ _ branched_weighed (weighed_either _ _ restarted_weighed moded_weighed))) definition_weighed

    equations_weighed : Weighed (grammar_of.equations relation X nest lower) (total eqn_weight)
    equations_weighed = weighed_either _ _ (weighed_separated _ _ equation_weighed) (weighed_give (total eqn_weight) [] refl)

  blocks_weighed : (n : ℕ) → Weighed (blocks relation Some X n) (total eqn_weight)
  blocks_weighed zero = weighed_give (total eqn_weight) [] refl
  blocks_weighed (suc n) = equations_weighed (Some (suc n)) (blocks relation Some X n) (blocks_weighed n)

  module _ (types inputs outputs more : Option ℕ) (lower : Phrase (List Eqn)) (below : Weighed lower (total eqn_weight)) where
    whole_block_weighed : Weighed (grammar_for.whole_block relation types inputs outputs more X lower) block_weight
    whole_block_weighed =
        weighed_convert _ block_weight (λ r. omega (arith, eqns_same r.1))
        (weighed_both (weighed_nothing _) (weighed_behind (keyword key.Let) (weighed_before (keyword key.Tel) below)))

    optional_block_weighed : Weighed (grammar.optional relation (λ k. keyword key.Var k || keyword key.Let k) (grammar_for.whole_block relation types inputs outputs more X lower)) (λ o. block_weight (block_or_none o))
    optional_block_weighed =
        weighed_either _ _ (weighed_convert Some (λ o. block_weight (block_or_none o)) (λ b. omega arith) whole_block_weighed) (weighed_give (λ o. block_weight (block_or_none o)) None refl)

    contract_weighed : Weighed (grammar_for.contract relation types inputs outputs more X lower) contract_weight
    contract_weighed =
        weighed_convert _ contract_weight (λ r. omega arith)
        (weighed_both (weighed_token (keyword key.Contract)) (weighed_both optional_block_weighed (weighed_nothing _)))

    node_weighed : Weighed (grammar_for.node relation types inputs outputs more X lower) item_weight
    node_weighed =
        weighed_convert _ item_weight (λ r. by r.1.1.1.0 (in_block r.1.1.1.1))
        (weighed_behind (keyword key.Node) (weighed_both (weighed_token small) (weighed_both (weighed_nothing _)
        (weighed_both (weighed_nothing _)
        (weighed_both (weighed_optional (keyword key.Contract) contract_weighed) whole_block_weighed)))))
      where
        by : (o : Option Contract) (n : ℕ) → 2 * (in_contract o + n) ≤ 1 + (0 + (0 + (if_any contract_weight o + 2 * n)))
        by None n = omega arith
        by (Some c) n = omega arith

    program_weighed : Weighed (grammar_for.program relation types inputs outputs more X lower) (total item_weight)
    program_weighed =
        weighed_many begins_item (keyword key.Type) types_in types
        (weighed_either _ _ (weighed_convert _ item_weight (λ r. omega arith) (weighed_nothing _)) node_weighed)

-- the states and transitions of all nodes of a program, and its tokens
weight_of_program : (us : List Lexeme) (program : List Item) → IsProgram us program → total item_weight program ≤ length us
weight_of_program us program p =
    (program_weighed (expression_of relation Some 200) (Some 1000) (Some 64) (Some 64) (Some 63) _ (blocks_weighed (expression_of relation Some 200) 64)).all us program p

-- ---- tokens and bytes

piece_length : {front w rest : List ℕ} {next : List Token} → Piece front w rest next → length next ≤ length w
piece_length (Piece.blank_piece b h) = omega arith
piece_length (Piece.comment_piece c) = omega arith
piece_length {w = w} (Piece.token_piece kind t l) =
    let d = head kind w t.spelled in
    let some : length w ≡ suc (length d.behind) = ap length d.w_is in
    omega (arith, some)

-- each token has a byte of its own
tokens_length : {front rest : List ℕ} {tokens : List Token} → Reads front tokens rest → length tokens ≤ length front
tokens_length (Reads.nothing) = omega arith
tokens_length (Reads.more {front = f} {w = w} {tokens = ts} {next = next} r p) =
    omega (arith, tokens_length r, piece_length p, length-append f w, length-append ts next)

-- ---- the nodes of a text

-- the states and transitions of each node are fewer than this
abbrev pub few : ℕ
few = 600000

abbrev pub AllFew : List Item → Type 0
AllFew [] = Unit {0}
AllFew (TypeItem t ∷ items) = AllFew items
AllFew (NodeItem n ∷ items) = (in_contract n.contract + in_block n.body < few) × AllFew items

each_few : (program : List Item) → total item_weight program < 1200000 → AllFew program
each_few [] h = tt
each_few (TypeItem t ∷ items) h = each_few items (omega (arith, h))
each_few (NodeItem n ∷ items) h = (omega (arith, h), each_few items (omega (arith, h)))

pub all_few : (text : List ℕ) (tokens : List Token) (program : List Item) → AreTokensOf text tokens → IsProgram (lexemes text tokens) program → AllFew program
all_few text tokens program a p =
    let same : length (lexemes text tokens) ≡ length tokens = length-map tokens (lexeme text) in
    each_few program (omega (arith, weight_of_program (lexemes text tokens) program p, same, tokens_length a.read, a.size))
