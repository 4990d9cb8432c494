-- The names of a program whose tokens may be written are names of a text.
use Rattle.std.proofs.Common.{◌≡◌, ℕ, Bool, true, false, nat_eq, if◌then◌else◌, List, [], ◌∷◌, ◌++◌, length, map, refl, ap, ◌∙◌, subst, arith}
use Rattle.std.proofs.lemmas.Bool.{and_parts}
use Rattle.std.proofs.lemmas.Bool.Decides.{nat_tests}
use Rattle.std.specs.Prelude.{◌==◌, Option, None, Some}
use Rattle.std.specs.List.{list_all}
use Rattle.hp_base.specs.declared.span.Span.{Span}
use Rattle.hp_base.specs.declared.ty.Const.{Const}
use Rattle.hp_base.specs.Bytes.{is_small, is_word_byte}
use Rattle.hp_lexer.specs.Spelling.{IsWord}
use Rattle.hp_lexer.specs.Written.{Written, IsWritable}
use Rattle.hp_lexer.specs.declared.token.Keyword.TheVariants as key
use Rattle.hp_lexer.specs.declared.token.Sign.TheVariants as mark
use Rattle.hp_tree.specs.declared.program.Item.{Item}
use Rattle.hp_tree.specs.declared.program.Item.TheVariants.{TypeItem, NodeItem}
use Rattle.hp_tree.specs.Blocks.{Decl, Block, block, Eqns, no_eqn, more_eqns, Eqn, define, switch, reset, automaton, Arms, no_arm, more_arms, States, no_state, more_states}
use Rattle.hp_tree.specs.Programs.{Contract, Node}
use Rattle.hp_print.specs.Tokens.{word, sign, small, led_by, joined_by, ended_by}
use Rattle.hp_print.specs.ExpressionTokens.{in_parentheses, expression_tokens}
use Rattle.hp_print.specs.BlockTokens.{declared_tokens, declaration_tokens, parameters_tokens, variables_tokens, inner_variables_tokens, left_name, left_tokens, transitions_tokens, body_tokens, inner_tokens, equations_tokens, equation_tokens, arms_tokens, states_tokens}
use Rattle.hp_print.specs.ProgramTokens.{whole_block_tokens, contract_block_tokens, clause_tokens, controls_tokens, node_contract_tokens, node_tokens, item_tokens, program_tokens}
use Rattle.hp_print.proofs.Writable.{Writable}
use Rattle.law_judged.specs.Named.Scoped.{EachNode}
use Rattle.hp_expand.specs.NewNames.{is_new}
use Rattle.law_wellmade.proofs.SpelledLemmas.Letters.{small_named}
use Rattle.law_wellmade.specs.Lettered.Names.{DeclsSpelled, LeftsSpelled, BlockSpelled, EqnsSpelled, EqnSpelled, ArmsSpelled, StatesSpelled, ContractSpelled, NodeSpelled, IsSourceName}

-- ---- words hold no sign

no_sign : (b : ℕ) (is_one : ℕ → Bool) → is_one 36 ≡ false → is_one b ≡ true → nat_eq b 36 ≡ false
no_sign b is_one none h = by (nat_eq b 36) refl
  where
    is_sign : nat_eq b 36 ≡ true → b ≡ 36
    is_sign e = grind (arith, nat_tests)

    by : (d : Bool) → nat_eq b 36 ≡ d → d ≡ false
    by true e = let k : is_one 36 ≡ true = subst (λ z. is_one z ≡ true) (is_sign e) h in absurd (cc (none, k))
    by false e = refl

word_plain : (w : List ℕ) → list_all is_word_byte w ≡ true → is_new w ≡ false
word_plain [] h = refl
word_plain (b ∷ w) h =
    let p = and_parts (is_word_byte b) (list_all is_word_byte w) h in
    ap (λ d. if d then true else is_new w) (no_sign b is_word_byte refl p.0) ∙ word_plain w p.1

pub small_plain : (x : List ℕ) → IsWord is_small x → is_new x ≡ false
small_plain [] h = absurd h
small_plain (b ∷ w) h = ap (λ d. if d then true else is_new w) (no_sign b is_small refl h.0) ∙ word_plain w h.1

source : (x : List ℕ) → IsWritable (small x) → IsSourceName x
source x w = (small_named x w, (small_plain x w.spelled.0, w.limited))

-- ---- lists of tokens

first : (a b : List Written) → Writable (a ++ b) → Writable a
first [] b h = tt
first (w ∷ a) b h = (h.0, first a b h.1)

rest : (a b : List Written) → Writable (a ++ b) → Writable b
rest [] b h = h
rest (w ∷ a) b h = rest a b h.1

-- what is so of each word that may be written, is so of the names of a program that may be
module _ (P : List ℕ → Type 0) (source : (x : List ℕ) → IsWritable (small x) → P x) where
  -- ---- declarations and left sides

  declared_source : (last : Option Const) (d : Decl) → Writable (declared_tokens last d) → P d.name
  declared_source None d h = source d.name h.0
  declared_source (Some c) d h = source d.name h.1.0

  declaration_source : (d : Decl) → Writable (declaration_tokens d) → P d.name
  declaration_source d h = declared_source d.last d h

  ended_source : (w : Written) (ds : List Decl) → Writable (ended_by w (map declaration_tokens ds)) → DeclsSpelled P ds
  ended_source w [] h = tt
  ended_source w (d ∷ ds) h =
      let later = w ∷ ended_by w (map declaration_tokens ds) in
      (declaration_source d (first (declaration_tokens d) later h), ended_source w ds (rest (declaration_tokens d) later h).1)

  led_source : (w : Written) (ds : List Decl) → Writable (led_by w (map declaration_tokens ds)) → DeclsSpelled P ds
  led_source w [] h = tt
  led_source w (d ∷ ds) h =
      let later = led_by w (map declaration_tokens ds) in
      (declaration_source d (first (declaration_tokens d) later h.1), led_source w ds (rest (declaration_tokens d) later h.1))

  joined_source : (w : Written) (ds : List Decl) → Writable (joined_by w (map declaration_tokens ds)) → DeclsSpelled P ds
  joined_source w [] h = tt
  joined_source w (d ∷ ds) h =
      let later = led_by w (map declaration_tokens ds) in
      (declaration_source d (first (declaration_tokens d) later h), led_source w ds (rest (declaration_tokens d) later h))

  parameters_source : (ds : List Decl) → Writable (parameters_tokens ds) → DeclsSpelled P ds
  parameters_source ds h =
      let listed = joined_by (sign mark.Semicolon) (map declaration_tokens ds) in
      joined_source (sign mark.Semicolon) ds (first listed (sign mark.Close ∷ []) h.1)

  variables_source : (ds : List Decl) → Writable (variables_tokens ds) → DeclsSpelled P ds
  variables_source [] h = tt
  variables_source (d ∷ ds) h = ended_source (sign mark.Semicolon) (d ∷ ds) h.1

  inner_variables_source : (ds : List Decl) → Writable (inner_variables_tokens ds) → DeclsSpelled P ds
  inner_variables_source [] h = tt
  inner_variables_source (d ∷ ds) h = variables_source (d ∷ ds) (first (variables_tokens (d ∷ ds)) (word key.In ∷ []) h)

  led_lefts : (w : Written) (xs : List (List ℕ × Span)) → Writable (led_by w (map left_name xs)) → LeftsSpelled P xs
  led_lefts w [] h = tt
  led_lefts w (x ∷ xs) h = (source x.0 h.1.0, led_lefts w xs h.1.1)

  joined_lefts : (w : Written) (xs : List (List ℕ × Span)) → Writable (joined_by w (map left_name xs)) → LeftsSpelled P xs
  joined_lefts w [] h = tt
  joined_lefts w (x ∷ xs) h = (source x.0 h.0, led_lefts w xs h.1)

  lefts_source : (xs : List (List ℕ × Span)) → Writable (left_tokens xs) → LeftsSpelled P xs
  lefts_source xs h = joined_lefts (sign mark.Comma) xs (by (length xs == 1) h)
    where
      listed : List Written
      listed = joined_by (sign mark.Comma) (map left_name xs)

      by : (b : Bool) → Writable (if b then listed else in_parentheses listed) → Writable listed
      by true k = k
      by false k = first listed (sign mark.Close ∷ []) k.1

  -- ---- blocks

  mutual
    body_source : (b : Block) → Writable (body_tokens b) → BlockSpelled P b
    body_source (block ds es) h =
        let later = word key.Do ∷ equations_tokens es in
        (variables_source ds (first (variables_tokens ds) later h), equations_source es (rest (variables_tokens ds) later h).1)

    inner_source : (b : Block) → Writable (inner_tokens b) → BlockSpelled P b
    inner_source (block ds es) h =
        (inner_variables_source ds (first (inner_variables_tokens ds) (equations_tokens es) h), equations_source es (rest (inner_variables_tokens ds) (equations_tokens es) h))

    equations_source : (es : Eqns) → Writable (equations_tokens es) → EqnsSpelled P es
    equations_source no_eqn h = tt
    equations_source (more_eqns e es) h =
        let later = sign mark.Semicolon ∷ equations_tokens es in
        (equation_source e (first (equation_tokens e) later h), equations_source es (rest (equation_tokens e) later h).1)

    equation_source : (e : Eqn) → Writable (equation_tokens e) → EqnSpelled P e
    equation_source (define s xs e) h = lefts_source xs (first (left_tokens xs) (sign mark.Equal ∷ expression_tokens e) h)
    equation_source (switch s e arms) h =
        let later = arms_tokens arms ++ (word key.End ∷ []) in
        arms_source arms (first (arms_tokens arms) (word key.End ∷ []) (rest (expression_tokens e) later h.1))
    equation_source (reset s b e) h = inner_source b (first (inner_tokens b) (word key.Every ∷ expression_tokens e) h.1)
    equation_source (automaton s qs) h = states_source qs (first (states_tokens qs) (word key.End ∷ []) h.1)

    arms_source : (arms : Arms) → Writable (arms_tokens arms) → ArmsSpelled P arms
    arms_source no_arm h = tt
    arms_source (more_arms c b s arms) h =
        (body_source b (first (body_tokens b) (arms_tokens arms) h.1.1), arms_source arms (rest (body_tokens b) (arms_tokens arms) h.1.1))

    states_source : (qs : States) → Writable (states_tokens qs) → StatesSpelled P qs
    states_source no_state h = tt
    states_source (more_states x b until unless s qs) h =
        let weak = transitions_tokens key.Until until in
        let strong = transitions_tokens key.Unless unless in
        let later = weak ++ (strong ++ states_tokens qs) in (
          body_source b (first (body_tokens b) later h.1.1),
          states_source qs (rest strong (states_tokens qs) (rest weak (strong ++ states_tokens qs) (rest (body_tokens b) later h.1.1))),
        )

  whole_source : (b : Block) → Writable (whole_block_tokens b) → BlockSpelled P b
  whole_source (block ds es) h =
      let later = word key.Let ∷ (equations_tokens es ++ (word key.Tel ∷ [])) in
      (variables_source ds (first (variables_tokens ds) later h), equations_source es (first (equations_tokens es) (word key.Tel ∷ []) (rest (variables_tokens ds) later h).1))

  observer_source : (b : Block) → Writable (contract_block_tokens b) → BlockSpelled P b
  observer_source (block [] no_eqn) h = (tt, tt)
  observer_source (block [] (more_eqns e es)) h = whole_source (block [] (more_eqns e es)) h
  observer_source (block (d ∷ ds) es) h = whole_source (block (d ∷ ds) es) h

  -- ---- nodes

  controls_source : (ds : List Decl) → Writable (controls_tokens ds) → DeclsSpelled P ds
  controls_source [] h = tt
  controls_source (d ∷ ds) h = parameters_source (d ∷ ds) h.1

  contract_source : (c : Option Contract) → Writable (node_contract_tokens c) → ContractSpelled P c
  contract_source None h = tt
  contract_source (Some c) h =
      let block_words = contract_block_tokens c.body in
      let assume = clause_tokens key.Assume c.assume in
      let enforce = clause_tokens key.Enforce c.enforce in
      let controls = controls_tokens c.controls in (
        controls_source c.controls (rest enforce controls (rest assume (enforce ++ controls) (rest block_words (assume ++ (enforce ++ controls)) h.1))),
        observer_source c.body (first block_words (assume ++ (enforce ++ controls)) h.1),
      )

  node_source : (n : Node) → Writable (node_tokens n) → NodeSpelled P n
  node_source n h =
      let ins = parameters_tokens n.inputs in
      let outs = parameters_tokens n.outputs in
      let contract = node_contract_tokens n.contract in
      let body = whole_block_tokens n.body in
      let behind_ins = rest ins (word key.Returns ∷ (outs ++ (contract ++ body))) h.1.1 in
      let behind_outs = rest outs (contract ++ body) behind_ins.1 in (
        source n.name h.1.0,
        (
          parameters_source n.inputs (first ins (word key.Returns ∷ (outs ++ (contract ++ body))) h.1.1),
          (
            parameters_source n.outputs (first outs (contract ++ body) behind_ins.1),
            (contract_source n.contract (first contract body behind_outs), whole_source n.body (rest contract body behind_outs)),
          ),
        ),
      )

  pub program_spelled : (items : List Item) → Writable (program_tokens items) → EachNode (NodeSpelled P) items
  program_spelled [] h = tt
  program_spelled (TypeItem t ∷ items) h = program_spelled items (rest (item_tokens (TypeItem t)) (program_tokens items) h)
  program_spelled (NodeItem n ∷ items) h =
      (node_source n (first (item_tokens (NodeItem n)) (program_tokens items) h), program_spelled items (rest (item_tokens (NodeItem n)) (program_tokens items) h))

pub program_source : (items : List Item) → Writable (program_tokens items) → EachNode (NodeSpelled IsSourceName) items
program_source items h = program_spelled IsSourceName source items h

-- ---- what is true of names of a text is true of the names of its program

module _ (P Q : List ℕ → Type 0) (so : (x : List ℕ) → P x → Q x) where
  decls_so : (ds : List Decl) → DeclsSpelled P ds → DeclsSpelled Q ds
  decls_so [] h = tt
  decls_so (d ∷ ds) h = (so d.name h.0, decls_so ds h.1)

  lefts_so : (ys : List (List ℕ × Span)) → LeftsSpelled P ys → LeftsSpelled Q ys
  lefts_so [] h = tt
  lefts_so (y ∷ ys) h = (so y.0 h.0, lefts_so ys h.1)

  mutual
    block_so : (b : Block) → BlockSpelled P b → BlockSpelled Q b
    block_so (block ds es) h = (decls_so ds h.0, eqns_so es h.1)

    eqns_so : (es : Eqns) → EqnsSpelled P es → EqnsSpelled Q es
    eqns_so no_eqn h = tt
    eqns_so (more_eqns e es) h = (eqn_so e h.0, eqns_so es h.1)

    eqn_so : (e : Eqn) → EqnSpelled P e → EqnSpelled Q e
    eqn_so (define s ys e) h = lefts_so ys h
    eqn_so (switch s e arms) h = arms_so arms h
    eqn_so (reset s b e) h = block_so b h
    eqn_so (automaton s ss) h = states_so ss h

    arms_so : (arms : Arms) → ArmsSpelled P arms → ArmsSpelled Q arms
    arms_so no_arm h = tt
    arms_so (more_arms c b s arms) h = (block_so b h.0, arms_so arms h.1)

    states_so : (ss : States) → StatesSpelled P ss → StatesSpelled Q ss
    states_so no_state h = tt
    states_so (more_states f b until unless s ss) h = (block_so b h.0, states_so ss h.1)

  contract_so : (o : Option Contract) → ContractSpelled P o → ContractSpelled Q o
  contract_so None h = tt
  contract_so (Some c) h = (decls_so c.controls h.0, block_so c.body h.1)

  pub program_so : (items : List Item) → EachNode (NodeSpelled P) items → EachNode (NodeSpelled Q) items
  program_so [] h = tt
  program_so (TypeItem t ∷ items) h = program_so items h
  program_so (NodeItem n ∷ items) h =
      ((so n.name h.0.0, (decls_so n.inputs h.0.1.0, (decls_so n.outputs h.0.1.1.0, (contract_so n.contract h.0.1.1.1.0, block_so n.body h.0.1.1.1.1)))), program_so items h.1)
