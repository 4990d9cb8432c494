-- What is known of programs that are read.
use Rattle.std.proofs.Common.{◌≡◌, ℕ, suc, ◌+◌, ◌<◌, ◌≤◌, Bool, true, false, ◌||◌, ◌⊎◌, if◌then◌else◌, List, [], ◌∷◌, map, length, Option, None, Some, refl, sym, ap, subst, arith, inl, inr}
use Rattle.hp_base.specs.declared.limit.What.{What}
use Rattle.hp_base.specs.declared.limit.What.TheVariants.{Depth, Inputs, Outputs}
use Rattle.hp_lexer.specs.Written.{IsWritable}
use Rattle.hp_lexer.specs.declared.token.Keyword.{Keyword}
use Rattle.hp_lexer.specs.declared.token.Keyword.TheVariants as key
use Rattle.hp_lexer.specs.declared.token.Sign.TheVariants as mark
use Rattle.hp_tree.specs.Expressions.{Expr}
use Rattle.hp_tree.specs.Blocks.{Decl, Block, Eqn, block}
use Rattle.hp_tree.specs.Programs.{Contract}
use Rattle.hp_tree.specs.declared.program.Item.{Item}
use Rattle.hp_tree.specs.declared.program.Item.TheVariants.{TypeItem, NodeItem}
use Rattle.hp_parser.specs.Lexemes.{Lexeme, Kinds, is_ahead}
use Rattle.hp_parser.specs.Limits.{has_one, less}
use Rattle.hp_parser.specs.Notation.{Measured}
use Rattle.hp_parser.specs.Relation.{Phrase, One, Many, relation}
use Rattle.hp_parser.specs.Grammar as grammar
use Rattle.hp_parser.specs.BlockGrammar.{all_or_none}
use Rattle.hp_parser.specs.ProgramGrammar as grammar_for
use Rattle.hp_parser.specs.ProgramGrammar.{Clauses, types_in, block_or_none}
use Rattle.hp_parser.specs.Programs.{expression_of, blocks, programs}
use Rattle.hp_parser.specs.Tokens.{keyword, sign_of, small as is_small_name, capital as is_capital_name, begins_item}
use Rattle.hp_parser.specs.declared.mode.Mode.{Mode}
use Rattle.hp_parser.specs.declared.mode.Mode.TheVariants.{Whole}
use Rattle.hp_print.specs.declared.level.Level.TheVariants.{Conditional}
use Rattle.hp_print.specs.Tokens.{sign, capital}
use Rattle.hp_print.specs.ExpressionTokens.{expression_tokens}
use Rattle.hp_print.specs.BlockTokens.{parameters_tokens, variables_tokens, equations_tokens}
use Rattle.hp_print.specs.ProgramTokens.{constructor_tokens, whole_block_tokens, is_empty_block, contract_block_tokens, clause_tokens, controls_tokens, contract_tokens, node_contract_tokens, item_tokens, program_tokens}
use Rattle.hp_print.proofs.Every.{Spelled, spelled-split, Every, every_token, every_say, every_and, every_give, every_either, every_convert, every_both}
use Rattle.hp_print.proofs.Heights.{height}
use Rattle.hp_print.proofs.FoundExpressions.{levels-fine, tall-least}
use Rattle.hp_print.proofs.FoundDeclarations.{each-say, joined-writable, every_behind, every_before, Words, variables-found, declarations-found, some-declared, variables-writable, parameters-writable, enough-next}
use Rattle.hp_print.proofs.FoundBlocks.{BlockWords, FineBlock, block-fine, blocks-found}
use Rattle.hp_print.proofs.Readable.{GoodIn, GoodParameter, Each, nest_block, GoodCondition, SomeClause, GoodContract, GoodOptional, Enough, GoodConstructors, GoodItem, count_types, GoodProgram}
use Rattle.hp_print.proofs.Writable.{Writable, writable-append, word-writable, sign-writable, small-writable, capital-writable}

-- ---- constructors

abbrev IsFineCapital : Lexeme → Type 0
IsFineCapital t = IsWritable (capital t.bytes)

-- constructors that each take one of a number
constructors-found : (left : Option ℕ) (us : List Lexeme) (ts : List Lexeme) → Spelled us
    → Many (sign_of mark.Bar) (sign_of mark.Bar) (λ (t : Lexeme). 1) (λ count. grammar.behind relation (sign_of mark.Bar) (One is_capital_name)) left us ts → Each IsFineCapital ts × Enough left (length ts)
constructors-found None us ts h (Many.no_more) = (tt, tt)
constructors-found (Some n) us ts h (Many.no_more) = (tt, omega arith)
constructors-found left us ts h (Many.one_more {u = u} {v = v} {a = a} {others = others} p k l q) =
    let s = spelled-split u v h in
    let one = (every_behind (sign_of mark.Bar) (every_token is_capital_name)).all u a s.0 p in
    let more = constructors-found (less left 1) v others s.1 q in
    ((capital-writable a one, more.0), enough-next left (length others) (l k) more.1)

length-bytes : (ts : List Lexeme) → length (map (λ (t : Lexeme). t.bytes) ts) ≡ length ts
length-bytes [] = refl
length-bytes (t ∷ ts) = ap suc (length-bytes ts)

capitals-writable : (ts : List Lexeme) → Each IsFineCapital ts → Each (λ x. Writable (constructor_tokens x)) (map (λ (t : Lexeme). t.bytes) ts)
capitals-writable [] h = tt
capitals-writable (t ∷ ts) h = ((h.0, tt), capitals-writable ts h.1)

module _ (d nested : ℕ) (some : 1 ≤ nested) (types inputs outputs more : Option ℕ) (one_input : Enough inputs 1) (one_output : Enough outputs 1) where
  abbrev FineItem : Item → Type 0
  FineItem item = GoodItem d nested inputs outputs more item × Writable (item_tokens item)

  type-found : Every (grammar_for.type_declaration relation types inputs outputs more) (λ item. FineItem item × (types_in item ≡ 1))
  type-found =
      every_convert _ (λ item. FineItem item × (types_in item ≡ 1))
      (λ r h.
      let names = h.1 in (
        (
          names.0,
          (
            word-writable key.Type,
            (
              small-writable r.0 h.0,
              (
                sign-writable mark.Equal,
                joined-writable (sign mark.Bar) constructor_tokens (sign-writable mark.Bar) (map (λ (t : Lexeme). t.bytes) r.1) (capitals-writable r.1 names.1),
              ),
            ),
          ),
        ),
        refl,
      ))
      (every_behind (keyword key.Type) (every_both (every_token is_small_name) (every_behind (sign_of mark.Equal)
      (every_convert _ (λ ts. GoodConstructors more (map (λ (t : Lexeme). t.bytes) ts) × Each IsFineCapital ts)
      (λ r h. (subst (Enough more) (sym (length-bytes r.1)) h.1.1, (capital-writable r.0 h.0, h.1.0)))
      (every_both (every_token is_capital_name) (record { all = λ us ts h p. constructors-found more us ts h p }))))))

  -- ---- parameters

  abbrev Parameters : Bool → Option ℕ → List Decl → Type 0
  Parameters may left ds = Each (λ x. GoodParameter may x × Words x) ds × Enough left (length ds)

  none-here : (us : List Lexeme) → is_ahead (grammar_for.none relation types inputs outputs more) us ≡ true → false ≡ true
  none-here [] h = h
  none-here (t ∷ us) h = h

  enough-none : (left : Option ℕ) → Enough left 0
  enough-none None = tt
  enough-none (Some n) = omega arith

  parameters-found : (may : Bool) (begins : Kinds) (may-be : (us : List Lexeme) → is_ahead begins us ≡ true → may ≡ true) (what : What) (left : Option ℕ) → Enough left 1
      → Every (grammar_for.parameters relation types inputs outputs more what left begins) (Parameters may left)
  parameters-found may begins may-be what left n =
      every_behind (sign_of mark.Open) (every_before (sign_of mark.Close)
      (every_either Depth true _ (declarations-found may begins may-be what left n)
      (every_say (Parameters may left) (λ ds e. subst (Parameters may left) (sym e) (tt, enough-none left)) (every_give []))))

  words-of : (may : Bool) (left : Option ℕ) (ds : List Decl) → Parameters may left ds → Writable (parameters_tokens ds)
  words-of may left ds h = parameters-writable ds (each-say (λ x k. k.1) ds h.0)

  good-of : (may : Bool) (left : Option ℕ) (ds : List Decl) → Parameters may left ds → Each (GoodParameter may) ds
  good-of may left ds h = each-say (λ x k. k.0) ds h.0

  -- ---- with the expressions and equations that are read

  module _ (X : Mode → Phrase Measured) (found : (mode : Mode) → Every (X mode) (λ m. GoodIn d mode m.expr × Writable (expression_tokens m.expr))) where
    abbrev lower : Phrase (List Eqn)
    lower = blocks relation Some X nested

    abbrev IsFineBlock : Block → Type 0
    IsFineBlock b = FineBlock d X found nested b

    whole-writable : (b : Block) → BlockWords d X found b → Writable (whole_block_tokens b)
    whole-writable (block ds es) h =
        writable-append (variables_tokens ds) _ (variables-writable ds h.0) (word-writable key.Let, writable-append (equations_tokens es) _ h.1 (word-writable key.Tel, tt))

    whole-block-found : Every (grammar_for.whole_block relation types inputs outputs more X lower) IsFineBlock
    whole-block-found =
        every_convert _ IsFineBlock (λ r h. block-fine d X found nested r.0 r.1 h.0 h.1)
        (every_both variables-found (every_behind (keyword key.Let) (every_before (keyword key.Tel) (blocks-found d X found nested))))

    abbrev OptionalBlock : Option Block → Type 0
    OptionalBlock o = IsFineBlock (block_or_none o)

    optional-block-found : Every (grammar.optional relation (λ k. keyword key.Var k || keyword key.Let k) (grammar_for.whole_block relation types inputs outputs more X lower)) OptionalBlock
    optional-block-found =
        every_either Depth true _ (every_convert Some OptionalBlock (λ b h. h) whole-block-found)
        (every_say OptionalBlock (λ o e. subst OptionalBlock (sym e) (record { good = (tt, tt); low = omega arith; words = (tt, tt) })) (every_give None))

    contract-block-writable : (b : Block) → BlockWords d X found b → Writable (contract_block_tokens b)
    contract-block-writable b h = by (is_empty_block b)
      where
        by : (e : Bool) → Writable (if e then [] else whole_block_tokens b)
        by true = tt
        by false = whole-writable b h

    -- ---- clauses

    abbrev FineCondition : Keyword → Option Expr → Type 0
    FineCondition k e = GoodCondition d e × Writable (clause_tokens k e)

    clause-found : (k : Keyword) → Every (grammar_for.clause relation types inputs outputs more X lower (keyword k)) (λ e. FineCondition k (Some e))
    clause-found k = every_convert _ (λ e. FineCondition k (Some e)) (λ m h. (h.0, (word-writable k, h.1))) (every_behind (keyword k) (found Whole))

    condition-found : (k : Keyword) → Every (grammar.optional relation (keyword k) (grammar_for.clause relation types inputs outputs more X lower (keyword k))) (FineCondition k)
    condition-found k =
        every_either Depth true (keyword k) (every_convert Some (FineCondition k) (λ e h. h) (clause-found k))
        (every_say (FineCondition k) (λ o e. subst (FineCondition k) (sym e) (tt, tt)) (every_give None))

    abbrev FineControls : List Decl → Type 0
    FineControls cs = Each (GoodParameter false) cs × Writable (controls_tokens cs)

    controls-writable : (cs : List Decl) → Writable (parameters_tokens cs) → Writable (controls_tokens cs)
    controls-writable [] h = tt
    controls-writable (c ∷ cs) h = (word-writable key.With, h)

    controls-found : Every (grammar_for.controls relation types inputs outputs more X lower) (λ cs. FineControls cs × (1 ≤ length cs))
    controls-found =
        every_behind (keyword key.With) (every_behind (sign_of mark.Open) (every_before (sign_of mark.Close)
        (every_say (λ cs. FineControls cs × (1 ≤ length cs)) (λ cs h. ((good-of false None cs h.0, controls-writable cs (words-of false None cs h.0)), h.1))
        (every_and (declarations-found false (grammar_for.none relation types inputs outputs more) none-here Inputs None tt) (some-declared Inputs None (grammar_for.none relation types inputs outputs more))))))

    abbrev OptionalControls : Option (List Decl) → Type 0
    OptionalControls o = FineControls (all_or_none o)

    optional-controls-found : Every (grammar.optional relation (keyword key.With) (grammar_for.controls relation types inputs outputs more X lower)) OptionalControls
    optional-controls-found =
        every_either Depth true (keyword key.With) (every_convert Some OptionalControls (λ cs h. h.0) controls-found)
        (every_say OptionalControls (λ o e. subst OptionalControls (sym e) (tt, tt)) (every_give None))

    some-controls : (cs : List Decl) → 1 ≤ length cs → SomeClause None None cs
    some-controls [] h = absurd (omega (arith, h))
    some-controls (c ∷ cs) h = tt

    abbrev FineClauses : Clauses → Type 0
    FineClauses r =
        FineCondition key.Assume r.assume × FineCondition key.Enforce r.enforce × FineControls r.controls × SomeClause r.assume r.enforce r.controls

    clauses-found : Every (grammar_for.clauses relation types inputs outputs more X lower) FineClauses
    clauses-found =
        every_either Depth true (keyword key.Assume)
        (every_convert _ FineClauses (λ r h. (h.0, h.1.0, h.1.1, tt))
        (every_both (clause-found key.Assume) (every_both (condition-found key.Enforce) optional-controls-found)))
        (every_either Depth true (keyword key.Enforce)
        (every_convert _ FineClauses (λ r h. ((tt, tt), h.0, h.1, tt)) (every_both (clause-found key.Enforce) optional-controls-found))
        (every_convert _ FineClauses (λ cs h. ((tt, tt), (tt, tt), h.0, some-controls cs h.1)) controls-found))

    -- ---- contracts and nodes

    abbrev FineContract : Contract → Type 0
    FineContract c = GoodContract d nested c × Writable (contract_tokens c)

    nest-low : (b : Block) → IsFineBlock b → nest_block b < nested
    nest-low b f = omega (arith, some, f.low)

    contract-found : Every (grammar_for.contract relation types inputs outputs more X lower) FineContract
    contract-found =
        every_convert _ FineContract
        (λ r h.
        let b = block_or_none r.1.0 in
        let f = h.1.0 in
        let c = h.1.1 in
        let k = r.1.1 in (
          ((f.good, nest-low b f), c.0.0, c.1.0, c.2.0, c.3),
          (
            word-writable key.Contract,
            writable-append (contract_block_tokens b) _ (contract-block-writable b f.words)
                (writable-append (clause_tokens key.Assume k.assume) _ c.0.1 (writable-append (clause_tokens key.Enforce k.enforce) _ c.1.1 c.2.1)),
          ),
        ))
        (every_both (every_token (keyword key.Contract)) (every_both optional-block-found clauses-found))

    abbrev OptionalContract : Option Contract → Type 0
    OptionalContract o = GoodOptional d nested o × Writable (node_contract_tokens o)

    optional-contract-found : Every (grammar.optional relation (keyword key.Contract) (grammar_for.contract relation types inputs outputs more X lower)) OptionalContract
    optional-contract-found =
        every_either Depth true (keyword key.Contract) (every_convert Some OptionalContract (λ c h. h) contract-found)
        (every_say OptionalContract (λ o e. subst OptionalContract (sym e) (tt, tt)) (every_give None))

    node-found : Every (grammar_for.node relation types inputs outputs more X lower) (λ item. FineItem item × (types_in item ≡ 0))
    node-found =
        every_convert _ (λ item. FineItem item × (types_in item ≡ 0))
        (λ r h.
        let ins = r.1.0 in
        let outs = r.1.1.0 in
        let body = r.1.1.1.1 in
        let fi = h.1.0 in
        let fo = h.1.1.0 in
        let fc = h.1.1.1.0 in
        let fb = h.1.1.1.1 in (
          (
            ((good-of false inputs ins fi, fi.1), (good-of true outputs outs fo, fo.1), fc.0, fb.good, nest-low body fb),
            (
              word-writable key.Node,
              (
                small-writable r.0 h.0,
                writable-append (parameters_tokens ins) _ (words-of false inputs ins fi) (
                  word-writable key.Returns,
                  writable-append (parameters_tokens outs) _ (words-of true outputs outs fo)
                      (writable-append (node_contract_tokens r.1.1.1.0) _ fc.1 (whole-writable body fb.words)),
                ),
              ),
            ),
          ),
          refl,
        ))
        (every_behind (keyword key.Node) (every_both (every_token is_small_name)
        (every_both (parameters-found false (grammar_for.none relation types inputs outputs more) none-here Inputs inputs one_input)
        (every_both (every_behind (keyword key.Returns) (parameters-found true (keyword key.Last) (λ us e. refl) Outputs outputs one_output))
        (every_both optional-contract-found whole-block-found)))))

    abbrev item_phrase : Phrase Item
    item_phrase = grammar.either relation (keyword key.Type) (grammar_for.type_declaration relation types inputs outputs more) (grammar_for.node relation types inputs outputs more X lower)

    -- an item, and whether its first token says that it is a type
    item-found : (us : List Lexeme) (item : Item) → Spelled us → item_phrase us item → FineItem item × ((types_in item ≡ 0) ⊎ ((types_in item ≡ 1) × (is_ahead (keyword key.Type) us ≡ true)))
    item-found us item h (inl p) = let f = type-found.all us item h p.2 in (f.0, inr (f.1, p.1))
    item-found us item h (inr p) = let f = node-found.all us item h p in (f.0, inl f.1)

    count-next : (item : Item) (items : List Item) → count_types (item ∷ items) ≡ types_in item + count_types items
    count-next (TypeItem t) items = omega arith
    count-next (NodeItem n) items = omega arith

    enough-item : (left : Option ℕ) (item : Item) (items : List Item) (us : List Lexeme) → (types_in item ≡ 0) ⊎ ((types_in item ≡ 1) × (is_ahead (keyword key.Type) us ≡ true)) → (is_ahead (keyword key.Type) us ≡ true → has_one left ≡ true)
        → Enough (less left (types_in item)) (count_types items) → Enough left (count_types (item ∷ items))
    enough-item left item items us (inl z) k e = by left e
      where
        by : (l : Option ℕ) → Enough (less l (types_in item)) (count_types items) → Enough l (count_types (item ∷ items))
        by None x = tt
        by (Some n) x = omega (arith, count-next item items, z, x)
    enough-item left item items us (inr z) k e =
        let less-one : Enough (less left 1) (count_types items) = subst (λ n. Enough (less left n) (count_types items)) z.0 e in
        let n : count_types (item ∷ items) ≡ suc (count_types items) = omega (arith, count-next item items, z.0) in
        subst (Enough left) (sym n) (enough-next left (count_types items) (k z.1) less-one)

    items-found : (left : Option ℕ) (us : List Lexeme) (items : List Item) → Spelled us → Many begins_item (keyword key.Type) types_in (λ count. item_phrase) left us items
        → Each FineItem items × Enough left (count_types items)
    items-found None us items h (Many.no_more) = (tt, tt)
    items-found (Some n) us items h (Many.no_more) = (tt, omega arith)
    items-found left us items h (Many.one_more {u = u} {v = v} {a = a} {others = others} p k l q) =
        let s = spelled-split u v h in
        let f = item-found u a s.0 p in
        let r = items-found (less left (types_in a)) v others s.1 q in
        ((f.0, r.0), enough-item left a others u f.1 l r.1)

items-writable : (d nested : ℕ) (inputs outputs more : Option ℕ) (items : List Item) → Each (λ item. GoodItem d nested inputs outputs more item × Writable (item_tokens item)) items → Writable (program_tokens items)
items-writable d nested inputs outputs more [] h = tt
items-writable d nested inputs outputs more (item ∷ items) h = writable-append (item_tokens item) _ h.0.1 (items-writable d nested inputs outputs more items h.1)

-- expressions of so many levels
expression-found : (k : ℕ) (mode : Mode) → Every (expression_of relation Some (suc k) mode) (λ m. GoodIn (suc k) mode m.expr × Writable (expression_tokens m.expr))
expression-found k mode =
    every_say _ (λ m f. ((f.good, omega (arith, tall-least Conditional m.expr (height m.expr), f.high, f.low)), f.words)) (levels-fine mode (suc k)).expression

-- a program that is read may be read again, and its tokens may be written
pub program-found : (k n : ℕ) (types inputs outputs more : Option ℕ) → Enough inputs 1 → Enough outputs 1 → (us : List Lexeme) (items : List Item) → Spelled us
    → programs relation Some Some types inputs outputs more (suc k) (suc n) us items → GoodProgram (suc k) (suc n) types inputs outputs more items × Writable (program_tokens items)
program-found k n types inputs outputs more i o us items h p =
    let f = items-found (suc k) (suc n) (omega arith) types inputs outputs more i o (expression_of relation Some (suc k)) (expression-found k) types us items h p in
    ((each-say (λ x e. e.0) items f.0, f.1), items-writable (suc k) (suc n) inputs outputs more items f.0)
