-- The tokens of a program are read as the program, but for places.
use Rattle.std.proofs.Common.{◌≡◌, ℕ, zero, suc, ◌<◌, Bool, true, false, ◌||◌, List, [], ◌∷◌, ◌++◌, map, length, Option, None, Some, option_map, refl, sym, ap, subst, ◌∙◌, arith}
use Rattle.hp_base.specs.declared.limit.What.{What}
use Rattle.hp_base.specs.declared.limit.What.TheVariants.{Depth, Inputs, Outputs, Constructors, Types}
use Rattle.hp_lexer.specs.Written.{Written}
use Rattle.hp_lexer.specs.declared.token.Keyword.{Keyword}
use Rattle.hp_lexer.specs.declared.token.Keyword.TheVariants as key
use Rattle.hp_lexer.specs.declared.token.Sign.TheVariants as mark
use Rattle.hp_lexer.specs.declared.token.TokenKind.TheVariants as kind
use Rattle.hp_tree.specs.Expressions.{Expr}
use Rattle.hp_tree.specs.Blocks.{Decl, Block, Eqn, block, no_eqn, more_eqns}
use Rattle.hp_tree.specs.Programs.{TypeDecl, Contract, Node}
use Rattle.hp_tree.specs.declared.program.Item.{Item}
use Rattle.hp_tree.specs.declared.program.Item.TheVariants.{TypeItem, NodeItem}
use Rattle.hp_parser.specs.Lexemes.{Lexeme, Kinds}
use Rattle.hp_parser.specs.Limits.{has_one, less}
use Rattle.hp_parser.specs.Notation.{Measured}
use Rattle.hp_parser.specs.Relation.{Phrase, One, relation}
use Rattle.hp_parser.specs.Grammar as grammar
use Rattle.hp_parser.specs.BlockGrammar.{all_or_none}
use Rattle.hp_parser.specs.ProgramGrammar as grammar_for
use Rattle.hp_parser.specs.ProgramGrammar.{Clauses, types_in, block_or_none}
use Rattle.hp_parser.specs.Programs.{expression_of, blocks, programs}
use Rattle.hp_parser.specs.Tokens.{keyword, sign_of, small as is_small_name, capital as is_capital_name, begins_item}
use Rattle.hp_parser.specs.declared.mode.Mode.{Mode}
use Rattle.hp_parser.specs.declared.mode.Mode.TheVariants.{Whole}
use Rattle.hp_print.specs.Places.{nowhere, bare, bare_decl, bare_block, bare_contract, bare_item, bare_program}
use Rattle.hp_print.specs.Tokens.{word, sign, led_by}
use Rattle.hp_print.specs.ExpressionTokens.{expression_tokens}
use Rattle.hp_print.specs.BlockTokens.{declared_tokens, declaration_tokens, parameters_tokens, variables_tokens}
use Rattle.hp_print.specs.ProgramTokens.{constructor_tokens, type_tokens, whole_block_tokens, contract_block_tokens, clause_tokens, controls_tokens, contract_tokens, node_contract_tokens, node_tokens, item_tokens, program_tokens}
use Rattle.hp_print.proofs.Can.{Can, leads, can_token, can_say, can_give, can_first, can_second, can_convert, can_both, can_no_more, can_one_more}
use Rattle.hp_print.proofs.Readable.{GoodIn, GoodParameter, GoodParameterParts, Each, Path, GoodBlock, nest_block, GoodCondition, SomeClause, GoodContract, GoodOptional, Enough, GoodNode, GoodConstructors, GoodItem, count_types, GoodProgram}
use Rattle.hp_print.proofs.ReadExpressions.{can_behind, can_before, can_small, leads-append, expression-read}
use Rattle.hp_print.proofs.ReadDeclarations.{AreDecls, can_variables, can_declarations, enough-one, enough-less}
use Rattle.hp_print.proofs.ReadBlocks.{can_capital, equations-read}
use Rattle.hp_base.specs.declared.ty.Const.{Const}

-- ---- types

abbrev AreNames : List (List ℕ) → List Lexeme → Type 0
AreNames xs ts = map (λ (t : Lexeme). t.bytes) ts ≡ xs

can_more_constructors : (xs : List (List ℕ)) (left : Option ℕ) → Enough left (length xs)
    → Can (relation.many_within Constructors (sign_of mark.Bar) (sign_of mark.Bar) (λ t. 1) left (grammar.behind relation (sign_of mark.Bar) (One is_capital_name))) (led_by (sign mark.Bar) (map constructor_tokens xs)) (AreNames xs)
can_more_constructors [] left n = can_say (AreNames []) (λ ts e. ap (map (λ (t : Lexeme). t.bytes)) e) (can_no_more _ _ _ _ left)
can_more_constructors (x ∷ xs) left n =
    can_one_more _ _ _ _ (AreNames (x ∷ xs)) left refl (λ h. enough-one left (length xs) n) (λ t ts h g. λ i. h i ∷ g i)
    (can_behind (sign_of mark.Bar) (sign mark.Bar) refl (can_capital x)) (λ t h. can_more_constructors xs (less left 1) (enough-less left (length xs) n))

abbrev IsItem : Item → Item → Type 0
IsItem a b = bare_item b ≡ bare_item a

-- what is the same but for places is a type or a node alike
same-types : (a b : Item) → IsItem a b → types_in b ≡ types_in a
same-types a b e = sym (bare-types b) ∙ ap types_in e ∙ bare-types a
  where
    bare-types : (x : Item) → types_in (bare_item x) ≡ types_in x
    bare-types (TypeItem t) = refl
    bare-types (NodeItem n) = refl

module _ (types inputs outputs more : Option ℕ) where
  can_type_declaration : (t : TypeDecl) (x : List ℕ) (xs : List (List ℕ)) → Enough more (length xs)
      → Can (grammar_for.type_declaration relation types inputs outputs more) (type_tokens (record { name = t.name; cons = x ∷ xs; span = t.span })) (IsItem (TypeItem (record { name = t.name; cons = x ∷ xs; span = t.span })))
  can_type_declaration t x xs n =
      can_convert _ (IsItem (TypeItem (record { name = t.name; cons = x ∷ xs; span = t.span }))) (λ r h. λ i. TypeItem (record { name = h.0 i; cons = h.1 i; span = nowhere }))
      (can_behind (keyword key.Type) (word key.Type) refl (can_both (can_small t.name) (can_behind (sign_of mark.Equal) (sign mark.Equal) refl
      (can_convert _ (AreNames (x ∷ xs)) (λ r h. λ i. h.0 i ∷ h.1 i) (can_both (can_capital x) (can_more_constructors xs more n))))))

  type-item : (t : TypeDecl) (cons : List (List ℕ)) → GoodConstructors more cons
      → Can (grammar_for.type_declaration relation types inputs outputs more) (type_tokens (record { name = t.name; cons = cons; span = t.span })) (IsItem (TypeItem (record { name = t.name; cons = cons; span = t.span })))
  type-item t [] g = absurd g
  type-item t (x ∷ xs) g = can_type_declaration t x xs g

  -- ---- parameters

  parameter-begins : (begins : Kinds) (d : Decl) (last : Option Const) (clock : Option Path) → GoodParameterParts (begins (kind.Keyword key.Last)) last clock
      → leads (λ k. is_small_name k || begins k) (declared_tokens last d) ≡ true
  parameter-begins begins d None clock g = refl
  parameter-begins begins d (Some c) clock g = may-be (begins (kind.Keyword key.Last)) g
    where
      may-be : (may : Bool) → GoodParameterParts may (Some c) clock → may ≡ true
      may-be true h = refl
      may-be false h = absurd (none clock h)
        where
          none : (p : Option Path) → GoodParameterParts false (Some c) p → ⊥
          none None k = k
          none (Some p) k = k

  can_parameters : (what : What) (left : Option ℕ) (begins : Kinds) (ds : List Decl) → Each (GoodParameter (begins (kind.Keyword key.Last))) ds → Enough left (length ds)
      → Can (grammar_for.parameters relation types inputs outputs more what left begins) (parameters_tokens ds) (AreDecls ds)
  can_parameters what left begins [] g n =
      can_behind (sign_of mark.Open) (sign mark.Open) refl (can_before (sign_of mark.Close) (sign mark.Close) refl
      (can_second Depth true _ _ _ (can_say (AreDecls []) (λ xs e. ap (map bare_decl) e) (can_give []))))
  can_parameters what left begins (d ∷ ds) g n =
      can_behind (sign_of mark.Open) (sign mark.Open) refl (can_before (sign_of mark.Close) (sign mark.Close) refl
      (can_first Depth true (λ k. is_small_name k || begins k) _ _ refl (leads-append _ (declaration_tokens d) _ (parameter-begins begins d d.last d.clock g.0))
      (can_declarations begins what d ds left g n)))

  -- ---- with the expressions and the equations that are read

  module _ (d nested : ℕ) (X : Mode → Phrase Measured) (reads : (mode : Mode) (e : Expr) → GoodIn d mode e → Can (X mode) (expression_tokens e) (λ m. bare m.expr ≡ bare e)) where
    abbrev lower : Phrase (List Eqn)
    lower = blocks relation Some X nested

    abbrev IsBlock : Block → Block → Type 0
    IsBlock b c = bare_block c ≡ bare_block b

    can_whole_block : (b : Block) → GoodBlock d b → nest_block b < nested → Can (grammar_for.whole_block relation types inputs outputs more X lower) (whole_block_tokens b) (IsBlock b)
    can_whole_block (block ds es) g l =
        can_convert _ (IsBlock (block ds es)) (λ r h. λ i. block (h.0 i) (h.1 i))
        (can_both (can_variables ds g.0) (can_behind (keyword key.Let) (word key.Let) refl (can_before (keyword key.Tel) (word key.Tel) refl (equations-read d X reads es nested g.1 l))))

    abbrev IsOptionalBlock : Block → Option Block → Type 0
    IsOptionalBlock b o = bare_block (block_or_none o) ≡ bare_block b

    abbrev block_kinds : Kinds
    block_kinds k = keyword key.Var k || keyword key.Let k

    abbrev optional_block : Phrase (Option Block)
    optional_block = grammar.optional relation block_kinds (grammar_for.whole_block relation types inputs outputs more X lower)

    block-begins : (ds : List Decl) (rest : List Written) → leads block_kinds (variables_tokens ds ++ (word key.Let ∷ rest)) ≡ true
    block-begins [] rest = refl
    block-begins (x ∷ ds) rest = refl

    some-block : (b : Block) → GoodBlock d b → nest_block b < nested → Can optional_block (whole_block_tokens b) (IsOptionalBlock b)
    some-block (block ds es) g l =
        can_first Depth true block_kinds _ _ refl (block-begins ds _) (can_convert Some (IsOptionalBlock (block ds es)) (λ c h. h) (can_whole_block (block ds es) g l))

    can_contract_block : (b : Block) → GoodBlock d b → nest_block b < nested → Can optional_block (contract_block_tokens b) (IsOptionalBlock b)
    can_contract_block (block [] no_eqn) g l =
        can_second Depth true _ _ _ (can_say (IsOptionalBlock (block [] no_eqn)) (λ o e. ap (λ z. bare_block (block_or_none z)) e) (can_give None))
    can_contract_block (block [] (more_eqns e es)) g l = some-block (block [] (more_eqns e es)) g l
    can_contract_block (block (x ∷ ds) es) g l = some-block (block (x ∷ ds) es) g l

    -- ---- clauses

    can_clause : (k : Keyword) (e : Expr) → keyword k (word k).kind ≡ true → GoodIn d Whole e → Can (grammar_for.clause relation types inputs outputs more X lower (keyword k)) (clause_tokens k (Some e)) (λ x. bare x ≡ bare e)
    can_clause k e h g = can_convert _ (λ x. bare x ≡ bare e) (λ m h. h) (can_behind (keyword k) (word k) h (reads Whole e g))

    can_condition : (k : Keyword) (e : Option Expr) → keyword k (word k).kind ≡ true → GoodCondition d e
        → Can (grammar.optional relation (keyword k) (grammar_for.clause relation types inputs outputs more X lower (keyword k))) (clause_tokens k e) (λ x. option_map bare x ≡ option_map bare e)
    can_condition k None h g = can_second Depth true _ _ _ (can_say _ (λ o e. ap (option_map bare) e) (can_give None))
    can_condition k (Some e) h g = can_first Depth true (keyword k) _ _ refl h (can_convert Some (λ x. option_map bare x ≡ Some (bare e)) (λ x e. ap Some e) (can_clause k e h g))

    abbrev controls_phrase : Phrase (List Decl)
    controls_phrase = grammar_for.controls relation types inputs outputs more X lower

    some-controls : (c : Decl) (cs : List Decl) → Each (GoodParameter false) (c ∷ cs) → Can controls_phrase (controls_tokens (c ∷ cs)) (AreDecls (c ∷ cs))
    some-controls c cs g =
        can_behind (keyword key.With) (word key.With) refl (can_behind (sign_of mark.Open) (sign mark.Open) refl (can_before (sign_of mark.Close) (sign mark.Close) refl
        (can_declarations (grammar_for.none relation types inputs outputs more) Inputs c cs None g tt)))

    can_controls : (cs : List Decl) → Each (GoodParameter false) cs → Can (grammar.optional relation (keyword key.With) controls_phrase) (controls_tokens cs) (λ o. AreDecls cs (all_or_none o))
    can_controls [] g = can_second Depth true _ _ _ (can_say _ (λ o e. ap (λ z. map bare_decl (all_or_none z)) e) (can_give None))
    can_controls (c ∷ cs) g = can_first Depth true (keyword key.With) _ _ refl refl (can_convert Some (λ o. AreDecls (c ∷ cs) (all_or_none o)) (λ x h. h) (some-controls c cs g))

    abbrev AreClauses : Option Expr → Option Expr → List Decl → Clauses → Type 0
    AreClauses assume enforce cs r = (option_map bare r.assume ≡ option_map bare assume) × (option_map bare r.enforce ≡ option_map bare enforce) × AreDecls cs r.controls

    can_clauses : (assume enforce : Option Expr) (cs : List Decl) → GoodCondition d assume → GoodCondition d enforce → Each (GoodParameter false) cs → SomeClause assume enforce cs
        → Can (grammar_for.clauses relation types inputs outputs more X lower) (clause_tokens key.Assume assume ++ (clause_tokens key.Enforce enforce ++ controls_tokens cs)) (AreClauses assume enforce cs)
    can_clauses None None [] g h k some = absurd some
    can_clauses None None (c ∷ cs) g h k some =
        can_second Depth true _ _ _ (can_second Depth true _ _ _ (can_convert _ (AreClauses None None (c ∷ cs)) (λ x e. (refl, refl, e)) (some-controls c cs k)))
    can_clauses None (Some e) cs g h k some =
        can_second Depth true _ _ _ (can_first Depth true (keyword key.Enforce) _ _ refl refl
        (can_convert _ (AreClauses None (Some e) cs) (λ r q. (refl, ap Some q.0, q.1)) (can_both (can_clause key.Enforce e refl h) (can_controls cs k))))
    can_clauses (Some a) enforce cs g h k some =
        can_first Depth true (keyword key.Assume) _ _ refl refl
        (can_convert _ (AreClauses (Some a) enforce cs) (λ r q. (ap Some q.0, q.1.0, q.1.1)) (can_both (can_clause key.Assume a refl g) (can_both (can_condition key.Enforce enforce refl h) (can_controls cs k))))

    abbrev IsContract : Contract → Contract → Type 0
    IsContract c x = bare_contract x ≡ bare_contract c

    can_contract : (c : Contract) → GoodContract d nested c → Can (grammar_for.contract relation types inputs outputs more X lower) (contract_tokens c) (IsContract c)
    can_contract c g =
        can_convert _ (IsContract c) (λ r h. λ i. record { body = h.1.0 i; assume = h.1.1.0 i; enforce = h.1.1.1 i; controls = h.1.1.2 i; span = nowhere })
        (can_both (can_token (keyword key.Contract) (word key.Contract) refl)
        (can_both (can_contract_block c.body g.0.0 g.0.1) (can_clauses c.assume c.enforce c.controls g.1 g.2 g.3 g.4)))

    can_node_contract : (c : Option Contract) → GoodOptional d nested c
        → Can (grammar.optional relation (keyword key.Contract) (grammar_for.contract relation types inputs outputs more X lower)) (node_contract_tokens c) (λ o. option_map bare_contract o ≡ option_map bare_contract c)
    can_node_contract None g = can_second Depth true _ _ _ (can_say _ (λ o e. ap (option_map bare_contract) e) (can_give None))
    can_node_contract (Some c) g =
        can_first Depth true (keyword key.Contract) _ _ refl refl (can_convert Some (λ o. option_map bare_contract o ≡ Some (bare_contract c)) (λ x e. ap Some e) (can_contract c g))

    -- ---- nodes

    can_node : (n : Node) → GoodNode d nested inputs outputs n → Can (grammar_for.node relation types inputs outputs more X lower) (node_tokens n) (IsItem (NodeItem n))
    can_node n g =
        can_convert _ (IsItem (NodeItem n))
        (λ r h. λ i. NodeItem (record { name = h.0 i; span = nowhere; inputs = h.1.0 i; outputs = h.1.1.0 i; contract = h.1.1.1.0 i; body = h.1.1.1.1 i }))
        (can_behind (keyword key.Node) (word key.Node) refl (can_both (can_small n.name)
        (can_both (can_parameters Inputs inputs (grammar_for.none relation types inputs outputs more) n.inputs g.0.0 g.0.1)
        (can_both (can_behind (keyword key.Returns) (word key.Returns) refl (can_parameters Outputs outputs (keyword key.Last) n.outputs g.1.0 g.1.1))
        (can_both (can_node_contract n.contract g.2) (can_whole_block n.body g.3 g.4))))))

    abbrev item_phrase : Phrase Item
    item_phrase = grammar.either relation (keyword key.Type) (grammar_for.type_declaration relation types inputs outputs more) (grammar_for.node relation types inputs outputs more X lower)

    can_item : (item : Item) → GoodItem d nested inputs outputs more item → Can item_phrase (item_tokens item) (λ x. IsItem item x × (types_in x ≡ types_in item))
    can_item (TypeItem t) g = can_say _ (λ x e. (e, same-types (TypeItem t) x e)) (can_first Depth true (keyword key.Type) _ _ refl refl (type-item t t.cons g))
    can_item (NodeItem n) g = can_say _ (λ x e. (e, same-types (NodeItem n) x e)) (can_second Depth true _ _ _ (can_node n g))

    enough-first : (left : Option ℕ) (item : Item) (items : List Item) → Enough left (count_types (item ∷ items)) → Enough (less left (types_in item)) (count_types items)
    enough-first None item items n = tt
    enough-first (Some k) (TypeItem t) items n = omega (arith, n)
    enough-first (Some k) (NodeItem m) items n = omega (arith, n)

    item-leads : (item : Item) → leads begins_item (item_tokens item) ≡ true
    item-leads (TypeItem t) = refl
    item-leads (NodeItem n) = refl

    item-room : (left : Option ℕ) (item : Item) (items : List Item) → Enough left (count_types (item ∷ items)) → leads (keyword key.Type) (item_tokens item) ≡ true → has_one left ≡ true
    item-room left (TypeItem t) items n h = enough-one left (count_types items) n
    item-room left (NodeItem m) items n h = absurd cc

    abbrev ArePrograms : List Item → List Item → Type 0
    ArePrograms items xs = bare_program xs ≡ bare_program items

    can_items : (items : List Item) (left : Option ℕ) → Each (GoodItem d nested inputs outputs more) items → Enough left (count_types items)
        → Can (relation.many_within Types begins_item (keyword key.Type) types_in left item_phrase) (program_tokens items) (ArePrograms items)
    can_items [] left g n = can_say (ArePrograms []) (λ xs e. ap bare_program e) (can_no_more _ _ _ _ left)
    can_items (item ∷ items) left g n =
        can_one_more _ _ _ _ (ArePrograms (item ∷ items)) left (item-leads item) (item-room left item items n) (λ x xs h k. λ i. h.0 i ∷ k i)
        (can_item item g.0)
        (λ x h. can_items items (less left (types_in x)) g.1 (subst (λ z. Enough (less left z) (count_types items)) (sym h.1) (enough-first left item items n)))

-- expressions of so many levels
expression-reads : (d : ℕ) (mode : Mode) (e : Expr) → GoodIn d mode e → Can (expression_of relation Some d mode) (expression_tokens e) (λ m. bare m.expr ≡ bare e)
expression-reads zero mode e g = absurd (omega (arith, g.1))
expression-reads (suc n) mode e g = can_say _ (λ m h. h.0) (expression-read mode e n g.0 g.1)

pub program-read : (d nested : ℕ) (types inputs outputs more : Option ℕ) (items : List Item) → GoodProgram d nested types inputs outputs more items
    → Can (programs relation Some Some types inputs outputs more d nested) (program_tokens items) (λ xs. bare_program xs ≡ bare_program items)
program-read d nested types inputs outputs more items g =
    can_items types inputs outputs more d nested (expression_of relation Some d) (expression-reads d) items types g.0 g.1
