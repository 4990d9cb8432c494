-- The tokens of declarations are read as the declarations, but for places.
use Rattle.std.proofs.Common.{◌≡◌, ℕ, suc, ◌≤◌, pos, negsuc, neg_ℤ, Bool, true, false, List, [], ◌∷◌, ◌++◌, map, length, Option, None, Some, refl, sym, ap, subst, ◌∙◌, arith}
use Rattle.std.proofs.lemmas.Bool.Decides.{nat_tests}
use Rattle.std.proofs.lemmas.List.{append-nil, map-append}
use Rattle.hp_base.specs.declared.limit.What.{What}
use Rattle.hp_base.specs.declared.limit.What.TheVariants.{Depth}
use Rattle.hp_base.specs.declared.span.Span.{Span}
use Rattle.hp_base.specs.declared.ty.Ty.{Ty}
use Rattle.hp_base.specs.declared.ty.Ty.TheVariants as ty
use Rattle.hp_base.specs.declared.ty.Const.{Const}
use Rattle.hp_base.specs.declared.ty.Const.TheVariants as constant_kind
use Rattle.hp_lexer.specs.Spelling.{value_of}
use Rattle.hp_lexer.specs.Written.{Written}
use Rattle.hp_lexer.specs.declared.token.Keyword.TheVariants as key
use Rattle.hp_lexer.specs.declared.token.Sign.TheVariants as mark
use Rattle.hp_lexer.specs.declared.token.TokenKind.TheVariants as kind
use Rattle.hp_tree.specs.declared.decl.Cons.{Cons}
use Rattle.hp_tree.specs.declared.decl.Cons.TheVariants as cons
use Rattle.hp_tree.specs.Blocks.{Decl}
use Rattle.hp_parser.specs.Lexemes.{Lexeme, Kinds}
use Rattle.hp_parser.specs.Limits.{has_one, less}
use Rattle.hp_parser.specs.Notation.{Entry, alone, together}
use Rattle.hp_parser.specs.Relation.{Phrase, One, Behind, behind, Names, names, names_in, OneEntry, one_alone, some_together, Entries, entries, Many, relation}
use Rattle.hp_parser.specs.Grammar as grammar
use Rattle.hp_parser.specs.BlockGrammar as grammar_of
use Rattle.hp_parser.specs.BlockGrammar.{declared, clock_of, flat, entry_declarations, all_or_none}
use Rattle.hp_parser.specs.Tokens.{keyword, sign_of, small as is_small_name, number as is_number, constructor as is_constructor, type_name, type_of, type_spelled, constant_of, positive, negative, begins_declaration}
use Rattle.hp_print.specs.Places.{bare_decl}
use Rattle.hp_print.specs.Tokens.{word, sign, small, number, type_token, cons_token, constant_tokens, led_by, joined_by, ended_by}
use Rattle.hp_print.specs.ExpressionTokens.{of_constructor_tokens}
use Rattle.hp_print.specs.BlockTokens.{path_tokens, typed_tokens, declared_tokens, declaration_tokens, variables_tokens, inner_variables_tokens}
use Rattle.hp_print.proofs.Can.{Can, Spell, split, leads, ahead-leads, IsLike, can_token, can_say, can_give, can_first, can_second, can_convert, can_both, can_no_more, can_one_more, can_ended, can_separated}
use Rattle.hp_print.proofs.Numbers.{decimal-spelled, integer-natural}
use Rattle.hp_print.proofs.Readable.{GoodConstant, Path, GoodParts, GoodLocal, GoodParameterParts, GoodParameter, Each, Enough}
use Rattle.hp_print.proofs.ReadExpressions.{can_behind, can_before, can_words, can_constructor, can_small, cons-kind, leads-append}

-- ---- types and constants

type-kind : (t : Ty) → type_name (type_token t).kind ≡ true
type-kind ty.Bool = refl
type-kind ty.Int = refl
type-kind (ty.Enum x) = refl

type-spelled : (t : Ty) → type_spelled (type_token t).kind (type_token t).bytes ≡ t
type-spelled ty.Bool = refl
type-spelled ty.Int = refl
type-spelled (ty.Enum x) = refl

pub can_type : (t : Ty) → Can (grammar_of.type relation) (type_token t ∷ []) (λ u. u ≡ t)
can_type t = can_convert type_of (λ u. u ≡ t) (λ l h. (λ i. type_spelled (h.0 i) (h.1 i)) ∙ type-spelled t) (can_token type_name (type_token t) (type-kind t))

can_typed : (t : Ty) → Can (grammar_of.typed relation) (sign mark.Colon ∷ (type_token t ∷ [])) (λ u. u ≡ t)
can_typed t = can_behind (sign_of mark.Colon) (sign mark.Colon) refl (can_type t)

abbrev constant_phrase : Phrase Const
constant_phrase = grammar_of.constant relation

cons-constant : (c : Const) (d : Cons) → constant_of d ≡ c → Can constant_phrase (cons_token d ∷ []) (λ x. x ≡ c)
cons-constant c d e = can_first Depth true is_constructor _ _ refl (cons-kind d) (can_convert _ (λ x. x ≡ c) (λ t h. ap constant_of h ∙ e) (can_constructor d))

number-read : (k : ℕ) (t : Lexeme) → k ≤ 2147483647 → IsLike (number k) t → value_of t.bytes ≡ k
number-read k t l h = ap value_of h.1 ∙ (decimal-spelled k l).1

pub can_constant : (c : Const) → GoodConstant c → Can constant_phrase (constant_tokens c) (λ x. x ≡ c)
can_constant (constant_kind.B true) g = cons-constant (constant_kind.B true) cons.True refl
can_constant (constant_kind.B false) g = cons-constant (constant_kind.B false) cons.False refl
can_constant (constant_kind.E x) g = cons-constant (constant_kind.E x) (cons.Named x) refl
can_constant (constant_kind.I (pos k)) g =
    can_words (sym (integer-natural k)) (can_second Depth true _ _ _ (can_second Depth true _ _ _
    (can_convert positive (λ x. x ≡ constant_kind.I (pos k)) (λ t h. ap (λ n. constant_kind.I (pos n)) (number-read k t g h)) (can_token is_number (number k) refl))))
can_constant (constant_kind.I (negsuc k)) g =
    can_second Depth true _ _ _ (can_first Depth true (sign_of mark.Minus) _ _ refl refl
    (can_convert negative (λ x. x ≡ constant_kind.I (negsuc k)) (λ t h. ap (λ n. constant_kind.I (neg_ℤ (pos n))) (number-read (suc k) t g h))
    (can_behind (sign_of mark.Minus) (sign mark.Minus) refl (can_token is_number (number (suc k)) refl))))

-- ---- one declaration

-- what is read is this declaration, but for its place
abbrev IsDecl : Decl → Decl → Type 0
IsDecl d x = bare_decl x ≡ bare_decl d

module _ (d : Decl) where
  abbrev last_tokens : Const → List Written
  last_tokens c = word key.Last ∷ (typed_tokens d.name d.ty ++ (sign mark.Equal ∷ constant_tokens c))

  abbrev with_last : Const → Decl
  with_last c = record { name = d.name; ty = d.ty; last = Some c; clock = None; span = d.span }

  abbrev with_clock : Option Path → Decl
  with_clock clock = record { name = d.name; ty = d.ty; last = None; clock = clock; span = d.span }

  can_last : (c : Const) → GoodConstant c → Can (grammar_of.last_declaration relation) (last_tokens c) (IsDecl (with_last c))
  can_last c g =
      can_convert _ (IsDecl (with_last c)) (λ r h. λ i. bare_decl (record { name = h.0 i; ty = h.1.0 i; last = Some (h.1.1 i); clock = None; span = d.span }))
      (can_behind (keyword key.Last) (word key.Last) refl (can_both (can_small d.name) (can_both (can_typed d.ty) (can_behind (sign_of mark.Equal) (sign mark.Equal) refl (can_constant c g)))))

-- ---- clocks

abbrev IsStep : Cons × List ℕ → Cons × List ℕ → Type 0
IsStep s x = (x.0 ≡ s.0) × (x.1 ≡ s.1)

can_step : (s : Cons × List ℕ) → Can (grammar_of.step relation) (word key.On ∷ of_constructor_tokens s.0 s.1) (IsStep s)
can_step s =
    can_convert _ (IsStep s) (λ r h. h)
    (can_behind (keyword key.On) (word key.On) refl (can_both (can_constructor s.0)
    (can_behind (sign_of mark.Open) (sign mark.Open) refl (can_before (sign_of mark.Close) (sign mark.Close) refl (can_small s.1)))))

can_path : (path : Path) → Can (grammar.many relation (keyword key.On) (grammar_of.step relation)) (path_tokens path) (λ xs. xs ≡ path)
can_path [] = can_no_more _ _ _ _ None
can_path (s ∷ path) =
    can_one_more _ _ _ _ (λ xs. xs ≡ s ∷ path) None refl (λ h. refl) (λ x xs h g. λ i. (h.0 i, h.1 i) ∷ g i) (can_step s) (λ x h. can_path path)

-- ---- local declarations

-- what is read are these declarations, but for places
abbrev pub AreDecls : List Decl → List Decl → Type 0
AreDecls ds xs = map bare_decl xs ≡ map bare_decl ds

-- one name, with none behind it
can_one_name : (x : List ℕ) → Can (grammar_of.names relation) (small x ∷ []) (λ ts. map (λ (t : Lexeme). t.bytes) ts ≡ x ∷ [])
can_one_name x =
    can_convert _ (λ ts. map (λ (t : Lexeme). t.bytes) ts ≡ x ∷ []) (λ r h. (λ i. h.0 i ∷ map (λ (t : Lexeme). t.bytes) (h.1 i)))
    (can_both (can_small x) (can_no_more _ _ _ _ None))

declared-are : (x : List ℕ) (t : Ty) (clock : Option Path) (at : Span) (ts : List Lexeme) → map (λ (l : Lexeme). l.bytes) ts ≡ x ∷ []
    → AreDecls (record { name = x; ty = t; last = None; clock = clock; span = at } ∷ []) (map (declared t clock) ts)
declared-are x t clock at [] h = absurd cc
declared-are x t clock at (l ∷ []) h =
    let named : l.bytes ≡ x = cc in
    λ i. bare_decl (record { name = named i; ty = t; last = None; clock = clock; span = at }) ∷ []
declared-are x t clock at (l ∷ m ∷ ts) h = absurd cc

module _ (d : Decl) where
  can_clocked : (path : Path) → Can (grammar_of.local relation) (typed_tokens d.name d.ty ++ path_tokens path) (AreDecls (with_clock d (clock_of path) ∷ []))
  can_clocked path =
      can_second Depth true _ _ _
      (can_convert _ (AreDecls (with_clock d (clock_of path) ∷ []))
      (λ r h. (λ i. map bare_decl (map (declared (h.0.1 i) (clock_of (h.1 i))) r.0.0)) ∙ declared-are d.name d.ty (clock_of path) d.span r.0.0 h.0.0)
      (can_both (can_both (can_one_name d.name) (can_typed d.ty)) (can_path path)))

  local-by : (last : Option Const) (clock : Option Path) → GoodParts last clock
      → Can (grammar_of.local relation) (declared_tokens last (record { name = d.name; ty = d.ty; last = last; clock = clock; span = d.span }))
      (AreDecls (record { name = d.name; ty = d.ty; last = last; clock = clock; span = d.span } ∷ []))
  local-by None None g = can_words (append-nil (typed_tokens d.name d.ty)) (can_clocked [])
  local-by None (Some []) g = absurd g
  local-by None (Some (s ∷ path)) g = can_clocked (s ∷ path)
  local-by (Some c) None g =
      can_first Depth true (keyword key.Last) _ _ refl refl (can_convert _ (AreDecls (with_last d c ∷ [])) (λ x h. λ i. h i ∷ []) (can_last d c g))
  local-by (Some c) (Some path) g = absurd g

  can_local : GoodLocal d → Can (grammar_of.local relation) (declaration_tokens d) (AreDecls (d ∷ []))
  can_local g = local-by d.last d.clock g

  declared-begins : (last : Option Const) → leads begins_declaration (declared_tokens last d) ≡ true
  declared-begins None = refl
  declared-begins (Some c) = refl

  pub declaration-begins : leads begins_declaration (declaration_tokens d) ≡ true
  declaration-begins = declared-begins d.last

abbrev locals_tokens : List Decl → List Written
locals_tokens ds = ended_by (sign mark.Semicolon) (map declaration_tokens ds)

-- at least one declaration, and a semicolon behind each
can_some_locals : (d : Decl) (ds : List Decl) → GoodLocal d → Each GoodLocal ds
    → Can (relation.separated (sign_of mark.Semicolon) begins_declaration (grammar_of.local relation)) (locals_tokens (d ∷ ds)) (λ xss. AreDecls (d ∷ ds) (flat xss))
can_some_locals d [] g gs =
    can_ended _ _ _ (λ xss. AreDecls (d ∷ []) (flat xss)) (sign mark.Semicolon) refl (λ x h. ap (map bare_decl) (append-nil x) ∙ h) (can_local d g)
can_some_locals d (e ∷ ds) g gs =
    can_separated _ _ _ (λ xss. AreDecls (d ∷ e ∷ ds) (flat xss)) (sign mark.Semicolon) refl (leads-append _ (declaration_tokens e) _ (declaration-begins e))
    (λ x xs h k. map-append bare_decl x (flat xs) ∙ λ i. h i ++ k i) (can_local d g) (can_some_locals e ds gs.0 gs.1)

can_locals : (d : Decl) (ds : List Decl) → GoodLocal d → Each GoodLocal ds → Can (grammar_of.locals relation) (locals_tokens (d ∷ ds)) (AreDecls (d ∷ ds))
can_locals d ds g gs = can_convert flat (AreDecls (d ∷ ds)) (λ x h. h) (can_some_locals d ds g gs)

abbrev AreVariables : List Decl → Option (List Decl) → Type 0
AreVariables ds o = AreDecls ds (all_or_none o)

no-variables : (o : Option (List Decl)) → o ≡ None → AreVariables [] o
no-variables o e = ap (λ z. map bare_decl (all_or_none z)) e

pub can_variables : (ds : List Decl) → Each GoodLocal ds → Can (grammar_of.variables relation) (variables_tokens ds) (AreVariables ds)
can_variables [] g = can_second Depth true _ _ _ (can_say (AreVariables []) no-variables (can_give None))
can_variables (d ∷ ds) g =
    can_first Depth true (keyword key.Var) _ _ refl refl
    (can_convert Some (AreVariables (d ∷ ds)) (λ x h. h) (can_behind (keyword key.Var) (word key.Var) refl (can_locals d ds g.0 g.1)))

pub can_inner_variables : (ds : List Decl) → Each GoodLocal ds
    → Can (grammar.optional relation (keyword key.Var) (grammar.before relation (grammar.behind relation (keyword key.Var) (grammar_of.locals relation)) (keyword key.In))) (inner_variables_tokens ds) (AreVariables ds)
can_inner_variables [] g = can_second Depth true _ _ _ (can_say (AreVariables []) no-variables (can_give None))
can_inner_variables (d ∷ ds) g =
    can_first Depth true (keyword key.Var) _ _ refl refl
    (can_convert Some (AreVariables (d ∷ ds)) (λ x h. h)
    (can_before (keyword key.In) (word key.In) refl (can_behind (keyword key.Var) (word key.Var) refl (can_locals d ds g.0 g.1))))

-- ---- parameters

pub enough-one : (left : Option ℕ) (n : ℕ) → Enough left (suc n) → has_one left ≡ true
enough-one None n h = refl
enough-one (Some k) n h = grind (arith, nat_tests)

pub enough-less : (left : Option ℕ) (n : ℕ) → Enough left (suc n) → Enough (less left 1) n
enough-less None n h = tt
enough-less (Some k) n h = omega (arith, h)

-- a token in front of a phrase, where phrases stand one behind another
pub can_led : {A : Type 0} {P : Phrase A} {ws : List Written} {E : A → Type 0} (kinds : Kinds) (w : Written) → kinds w.kind ≡ true → Can P ws E → Can (Behind kinds P) (w ∷ ws) E
can_led {A} {P} {ws} {E} kinds w k c = record { at = λ us h. led us h }
  where
    led : (us : List Lexeme) → Spell us (w ∷ ws) → (a : A) × Behind kinds P us a × E a
    led [] h = absurd h
    led (t ∷ us) h = let x = c.at us h.2 in (x.0, behind t (ap kinds h.0 ∙ k) x.1, x.2)

module _ (begins : Kinds) where
  abbrev entry_phrase : Option ℕ → Phrase (Entry Decl Lexeme Ty)
  entry_phrase left = OneEntry begins (grammar_of.last_declaration relation) (One is_small_name) (grammar_of.typed relation) left

  abbrev IsEntry : Decl → Entry Decl Lexeme Ty → Type 0
  IsEntry d e = (names_in e ≡ 1) × AreDecls (d ∷ []) (entry_declarations e)

  module _ (left : Option ℕ) where
    one-name : (x : List ℕ) (us : List Lexeme) → Spell us (small x ∷ []) → (ts : List Lexeme) × Names (One is_small_name) left us ts × (length ts ≡ 1) × (map (λ (t : Lexeme). t.bytes) ts ≡ x ∷ [])
    one-name x us h =
        let c = (can_small x).at us h in
        let whole : Names (One is_small_name) left (us ++ []) (c.0 ∷ []) = names c.1 Many.no_more in
        (c.0 ∷ [], subst (λ z. Names (One is_small_name) left z (c.0 ∷ [])) (append-nil us) whole, refl, λ i. c.2 i ∷ [])

    together-at : (d : Decl) (us : List Lexeme) → Spell us (typed_tokens d.name d.ty) → (e : Entry Decl Lexeme Ty) × entry_phrase left us e × IsEntry (with_clock d None) e
    together-at d us h =
        let s = split (small d.name ∷ []) (sign mark.Colon ∷ (type_token d.ty ∷ [])) us h in
        let x = one-name d.name s.front s.first in
        let y = (can_typed d.ty).at s.behind s.second in
        let whole : entry_phrase left (s.front ++ s.behind) (together x.0 y.0) = some_together x.1 y.1 in (
          together x.0 y.0,
          subst (λ z. entry_phrase left z (together x.0 y.0)) (sym s.split_is) whole,
          (x.2, (λ i. map bare_decl (map (declared (y.2 i) None) x.0)) ∙ declared-are d.name d.ty None d.span x.0 x.3),
        )

    entry-by : (d : Decl) (last : Option Const) (clock : Option Path) → GoodParameterParts (begins (kind.Keyword key.Last)) last clock
        → Can (entry_phrase left) (declared_tokens last (record { name = d.name; ty = d.ty; last = last; clock = clock; span = d.span }))
        (IsEntry (record { name = d.name; ty = d.ty; last = last; clock = clock; span = d.span }))
    entry-by d None None g = can_words (append-nil (typed_tokens d.name d.ty)) (record { at = λ us h. together-at d us h })
    entry-by d last (Some path) g = absurd (no-clock (begins (kind.Keyword key.Last)) last path g)
      where
        no-clock : (may : Bool) (l : Option Const) (p : Path) → GoodParameterParts may l (Some p) → ⊥
        no-clock may None p h = h
        no-clock true (Some c) p h = h
        no-clock false (Some c) p h = h
    entry-by d (Some c) None g = may-be (begins (kind.Keyword key.Last)) refl g
      where
        may-be : (may : Bool) → begins (kind.Keyword key.Last) ≡ may → GoodParameterParts may (Some c) None
            → Can (entry_phrase left) (last_tokens d c) (IsEntry (with_last d c))
        may-be true e k = record {
          at = λ us h. let x = (can_last d c k).at us h in (alone x.0, one_alone x.1 (ahead-leads begins (last_tokens d c) us h ∙ e), (refl, λ i. x.2 i ∷ []));
        }
        may-be false e k = absurd k

    can_entry : (d : Decl) → GoodParameter (begins (kind.Keyword key.Last)) d → Can (entry_phrase left) (declaration_tokens d) (IsEntry d)
    can_entry d g = entry-by d d.last d.clock g

  abbrev AreEntries : List Decl → List (Entry Decl Lexeme Ty) → Type 0
  AreEntries ds es = AreDecls ds (flat (map entry_declarations es))

  abbrev more_entries : Option ℕ → Phrase (List (Entry Decl Lexeme Ty))
  more_entries left = Many (sign_of mark.Semicolon) (sign_of mark.Semicolon) names_in (λ count. Behind (sign_of mark.Semicolon) (entry_phrase count)) left

  entries-join : (d : Decl) (ds : List Decl) (e : Entry Decl Lexeme Ty) (es : List (Entry Decl Lexeme Ty)) → IsEntry d e → AreEntries ds es → AreEntries (d ∷ ds) (e ∷ es)
  entries-join d ds e es h k = map-append bare_decl (entry_declarations e) (flat (map entry_declarations es)) ∙ λ i. h.1 i ++ k i

  can_more_entries : (ds : List Decl) (left : Option ℕ) → Each (GoodParameter (begins (kind.Keyword key.Last))) ds → Enough left (length ds)
      → Can (more_entries left) (led_by (sign mark.Semicolon) (map declaration_tokens ds)) (AreEntries ds)
  can_more_entries [] left g n = can_say (AreEntries []) (λ xs e. ap (λ z. map bare_decl (flat (map entry_declarations z))) e) (can_no_more _ _ _ _ left)
  can_more_entries (d ∷ ds) left g n =
      can_one_more _ _ _ _ (AreEntries (d ∷ ds)) left refl (λ h. enough-one left (length ds) n) (entries-join d ds)
      (can_led (sign_of mark.Semicolon) (sign mark.Semicolon) refl (can_entry left d g.0))
      (λ e h. can_more_entries ds (less left (names_in e)) g.1 (subst (λ z. Enough (less left z) (length ds)) (sym h.0) (enough-less left (length ds) n)))

  can_entries : (d : Decl) (ds : List Decl) (left : Option ℕ) → Each (GoodParameter (begins (kind.Keyword key.Last))) (d ∷ ds) → Enough left (suc (length ds))
      → Can (Entries begins (grammar_of.last_declaration relation) (One is_small_name) (grammar_of.typed relation) left) (joined_by (sign mark.Semicolon) (map declaration_tokens (d ∷ ds))) (AreEntries (d ∷ ds))
  can_entries d ds left g n = record { at = λ us h. whole us h }
    where
      whole : (us : List Lexeme) → Spell us (declaration_tokens d ++ led_by (sign mark.Semicolon) (map declaration_tokens ds))
          → (es : List (Entry Decl Lexeme Ty)) × Entries begins (grammar_of.last_declaration relation) (One is_small_name) (grammar_of.typed relation) left us es × AreEntries (d ∷ ds) es
      whole us h =
          let s = split (declaration_tokens d) (led_by (sign mark.Semicolon) (map declaration_tokens ds)) us h in
          let x = (can_entry left d g.0).at s.front s.first in
          let more = can_more_entries ds (less left (names_in x.0)) g.1 (subst (λ z. Enough (less left z) (length ds)) (sym x.2.0) (enough-less left (length ds) n)) in
          let y = more.at s.behind s.second in
          let all : Entries begins (grammar_of.last_declaration relation) (One is_small_name) (grammar_of.typed relation) left (s.front ++ s.behind) (x.0 ∷ y.0) = entries x.1 y.1 in (
            x.0 ∷ y.0,
            subst (λ z. Entries begins (grammar_of.last_declaration relation) (One is_small_name) (grammar_of.typed relation) left z (x.0 ∷ y.0)) (sym s.split_is) all,
            entries-join d ds x.0 y.0 x.2 y.2,
          )

  pub can_declarations : (what : What) (d : Decl) (ds : List Decl) (left : Option ℕ) → Each (GoodParameter (begins (kind.Keyword key.Last))) (d ∷ ds) → Enough left (suc (length ds))
      → Can (grammar_of.declarations relation what left begins) (joined_by (sign mark.Semicolon) (map declaration_tokens (d ∷ ds))) (AreDecls (d ∷ ds))
  can_declarations what d ds left g n = can_convert _ (AreDecls (d ∷ ds)) (λ es h. h) (can_entries d ds left g n)
