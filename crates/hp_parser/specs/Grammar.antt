-- The grammar of expressions, from the tightest level to the loosest.
use Rattle.std.specs.Prelude.{ℕ, suc, max, Bool, true, false, List, [], ◌∷◌, map, Option, None, Some}
use Rattle.hp_base.specs.declared.limit.What.TheVariants.{Depth as DepthLimit}
use Rattle.hp_base.specs.declared.span.Span.{Span}
use Rattle.hp_lexer.specs.declared.token.TokenKind.{TokenKind}
use Rattle.hp_lexer.specs.declared.token.TokenKind.TheVariants as kind
use Rattle.hp_lexer.specs.declared.token.Keyword.TheVariants as word
use Rattle.hp_lexer.specs.declared.token.Sign.TheVariants as sign
use Rattle.hp_tree.specs.declared.decl.Cons.{Cons}
use Rattle.hp_tree.specs.declared.decl.Cons.TheVariants.{True, False}
use Rattle.hp_tree.specs.declared.expr.Op1.TheVariants.{Not, Neg}
use Rattle.hp_tree.specs.Expressions.{Expr, exprs_of, parts_of, constant, variable, last_of, one, two, choose, pre, fby, arrow, when_is, merge, call}
use Rattle.hp_parser.specs.Lexemes.{Lexeme, Kinds}
use Rattle.hp_parser.specs.Notation.{Notation, Measured}
use Rattle.hp_parser.specs.declared.mode.Mode.{Mode}
use Rattle.hp_parser.specs.Tokens.{only_whole, keyword, sign_of, small, number, constructor, prefix, begins_expression, begins_sample, is_product, is_sum, is_comparison, is_conjunction, is_disjunction, is_implication, is_delay, is_arrow, operator_of, constructor_of, constant_of, positive}

-- ---- what phrases stand for

-- from the first token to an end
abbrev pub up_to : Span → ℕ → Span
up_to first end = record { line = first.line; col = first.col; end = end }

abbrev pub measured : Span → ℕ → ℕ → (Span → Expr) → Measured
measured first end height expr = record { expr = expr (up_to first end); height = height; first = first; end = end }

-- two operands with an operator between them
abbrev pub joined : (Span → Expr → Expr → Expr) → Measured → Measured → Measured
joined expr a b = measured a.first b.end (suc (max a.height b.height)) (λ s. expr s a.expr b.expr)

abbrev pub of_operator : Measured → Lexeme × Measured → Measured
of_operator a r = joined (λ s. two s (operator_of r.0.kind)) a r.1

abbrev pub of_delay : Measured → Lexeme × Measured → Measured
of_delay a r = joined fby a r.1

abbrev pub of_arrow : Measured → Lexeme × Measured → Measured
of_arrow a r = joined arrow a r.1

-- what stands behind an operand in `when`
pub record Sample : Type 0 where
  pub cons : Cons
  pub name : List ℕ
  pub end : ℕ

abbrev pub of_sample : Measured → Sample → Measured
of_sample a s = measured a.first s.end (suc a.height) (λ p. when_is p a.expr s.cons s.name)

abbrev pub prefixed : TokenKind → Expr → Span → Expr
prefixed (kind.Keyword word.Not) e s = one s Not e
prefixed (kind.Keyword word.Pre) e s = pre s e
prefixed k e s = one s Neg e

abbrev pub of_prefix : Lexeme → Measured → Measured
of_prefix t a = measured t.span a.end (suc a.height) (prefixed t.kind a.expr)

abbrev pub of_token : Lexeme → (Span → Expr) → Measured
of_token t expr = measured t.span t.span.end 0 expr

-- parentheses add a level, and the expression keeps its place
abbrev pub in_parentheses : Lexeme → Measured → Lexeme → Measured
in_parentheses left a right = record { expr = a.expr; height = suc a.height; first = left.span; end = right.span.end }

-- the levels of the deepest part
abbrev pub deepest : List Measured → ℕ
deepest [] = 0
deepest (m ∷ ms) = max (suc m.height) (deepest ms)

abbrev pub of_call : Span → Bool → Lexeme → List Measured → Lexeme → Measured
of_call first inlined name args close =
    measured first close.span.end (deepest args) (λ s. call s name.bytes inlined (exprs_of (map (λ (m : Measured). m.expr) args)))

-- a name, or a call of the node of that name
abbrev pub of_name : Lexeme → Option (List Measured × Lexeme) → Measured
of_name name None = of_token name (λ s. variable s name.bytes)
of_name name (Some called) = of_call name.span false name called.0 called.1

-- a part of a `merge`, with the end of its parenthesis
pub record Part : Type 0 where
  pub cons : Cons
  pub value : Measured
  pub end : ℕ

abbrev pub last_end : Part → List Part → ℕ
last_end p [] = p.end
last_end p (q ∷ parts) = last_end q parts

abbrev pub of_merge : Lexeme → Lexeme → Part → List Part → Measured
of_merge first name part parts =
    measured first.span (last_end part parts) (deepest (map (λ (p : Part). p.value) (part ∷ parts)))
    (λ s. merge s name.bytes (parts_of (map (λ (p : Part). (p.cons, p.value.expr)) (part ∷ parts))))

abbrev pub of_condition : Lexeme → Measured → Measured → Measured → Measured
of_condition first a b c = measured first.span c.end (suc (max a.height (max b.height c.height))) (λ s. choose s a.expr b.expr c.expr)

-- ---- the levels

-- the phrases of expressions that have fewer levels by one
pub record Levels {ℓ} (F : Type 0 → Type ℓ) : Type ℓ where
  pub expression : F Measured
  pub delayed : F Measured
  pub implication : F Measured
  pub conjunction : F Measured
  pub comparison : F Measured
  pub sum : F Measured
  pub product : F Measured
  pub unary : F Measured

module _ {ℓ} {F : Type 0 → Type ℓ} (N : Notation F) where
  -- a token, and a phrase behind it
  abbrev pub behind : {A : Type 0} → Kinds → F A → F A
  behind kinds phrase = N.convert (λ r. r.1) (N.both (N.token kinds) phrase)

  -- a phrase, and a token behind it
  abbrev pub before : {A : Type 0} → F A → Kinds → F A
  before phrase kinds = N.convert (λ r. r.0) (N.both phrase (N.token kinds))

  -- one phrase, which begins with a token of these kinds, or another
  abbrev pub either : {A : Type 0} → Kinds → F A → F A → F A
  either begins first second = N.either_within DepthLimit N.always begins first second

  -- any number of phrases that begin with tokens of these kinds
  abbrev pub many : {A : Type 0} → Kinds → F A → F (List A)
  many begins phrase = N.many_within DepthLimit begins (λ k. false) (λ a. 0) N.unlimited phrase

  -- a phrase or nothing
  abbrev pub optional : {A : Type 0} → Kinds → F A → F (Option A)
  optional begins phrase = either begins (N.convert Some phrase) (N.give None)

  module _ (mode : Mode) (depth : N.Depth) (lower : Levels F) where
    abbrev pub parentheses : F Measured
    parentheses =
        N.convert (λ r. in_parentheses r.0 r.1.0 r.1.1) (N.both (N.token (sign_of sign.Open)) (N.both lower.expression (N.token (sign_of sign.Close))))

    -- the arguments of a call, with the parenthesis that ends them
    abbrev pub arguments : F (List Measured × Lexeme)
    arguments = behind (sign_of sign.Open) (N.both
        (N.either_within DepthLimit (N.deeper depth) (begins_expression mode)
        (N.convert (λ r. r.0 ∷ r.1) (N.both lower.expression (many (sign_of sign.Comma) (behind (sign_of sign.Comma) lower.expression))))
        (N.give []))
        (N.token (sign_of sign.Close)))

    abbrev pub named : F Measured
    named = N.convert (λ r. of_name r.0 r.1) (N.both (N.token small) (optional (only_whole mode (sign_of sign.Open)) arguments))

    abbrev pub inlined_call : F Measured
    inlined_call =
        N.convert (λ r. of_call r.0.span true r.1.0 r.1.1.0 r.1.1.1) (N.both (N.token (keyword word.Inlined)) (N.both (N.token small) arguments))

    abbrev pub last_value : F Measured
    last_value = N.convert (λ r. measured r.0.span r.1.span.end 0 (λ s. last_of s r.1.bytes)) (N.both (N.token (keyword word.Last)) (N.token small))

    -- `( c -> e )`
    abbrev pub part : F Part
    part = N.convert (λ r. record { cons = constructor_of r.0; value = r.1.0; end = r.1.1.span.end })
        (behind (sign_of sign.Open) (N.both (N.token constructor)
        (behind (sign_of sign.Arrow) (N.both lower.expression (N.token (sign_of sign.Close))))))

    abbrev pub merged : F Measured
    merged = N.convert (λ r. of_merge r.0 r.1.0 r.1.1.0 r.1.1.1)
        (N.both (N.token (keyword word.Merge)) (N.both (N.token small) (N.both part (many (sign_of sign.Open) part))))

    abbrev pub number_value : F Measured
    number_value = N.convert (λ t. of_token t (λ s. constant s (positive t))) (N.token number)

    abbrev pub constructor_value : F Measured
    constructor_value = N.convert (λ t. of_token t (λ s. constant s (constant_of (constructor_of t)))) (N.token constructor)

    abbrev pub atom : F Measured
    atom =
        either small named
        (either number number_value
        (N.either_within DepthLimit (N.deeper depth) (sign_of sign.Open) parentheses
        (either (keyword word.Last) last_value
        (N.either_within DepthLimit (N.deeper depth) (only_whole mode (keyword word.Merge)) merged
        (either (only_whole mode (keyword word.Inlined)) inlined_call
        constructor_value)))))

    abbrev pub unary : F Measured
    unary = N.either_within DepthLimit (N.deeper depth) (prefix mode)
        (N.convert (λ r. of_prefix r.0 r.1) (N.both (N.token (prefix mode)) lower.unary))
        atom

    abbrev pub product : F Measured
    product = N.suffixes is_product of_operator depth unary (N.both (N.token is_product) lower.unary)

    abbrev pub sum : F Measured
    sum = N.suffixes is_sum of_operator depth product (N.both (N.token is_sum) lower.product)

    abbrev pub comparison : F Measured
    comparison = N.suffix is_comparison of_operator depth sum (N.both (N.token is_comparison) lower.sum)

    abbrev pub conjunction : F Measured
    conjunction = N.suffixes is_conjunction of_operator depth comparison (N.both (N.token is_conjunction) lower.comparison)

    abbrev pub disjunction : F Measured
    disjunction = N.suffixes is_disjunction of_operator depth conjunction (N.both (N.token is_disjunction) lower.conjunction)

    abbrev pub implication : F Measured
    implication = N.suffix is_implication of_operator depth disjunction (N.both (N.token is_implication) lower.implication)

    abbrev pub delayed : F Measured
    delayed = N.suffix (is_delay mode) of_delay depth implication (N.both (N.token (keyword word.Fby)) lower.delayed)

    -- `c ( x )`
    abbrev pub of_constructor : F Sample
    of_constructor = N.convert (λ r. record { cons = constructor_of r.0; name = r.1.0.bytes; end = r.1.1.span.end })
        (N.both (N.token constructor) (behind (sign_of sign.Open) (N.both (N.token small) (N.token (sign_of sign.Close)))))

    abbrev pub sample : F Sample
    sample = either (keyword word.When)
        (behind (keyword word.When) (either constructor
        of_constructor
        (N.convert (λ t. record { cons = True; name = t.bytes; end = t.span.end }) (N.token small))))
        (N.convert (λ t. record { cons = False; name = t.bytes; end = t.span.end }) (behind (keyword word.Whenot) (N.token small)))

    abbrev pub sampled : F Measured
    sampled = N.suffixes (begins_sample mode) of_sample depth delayed sample

    abbrev pub arrowed : F Measured
    arrowed = N.suffix (is_arrow mode) of_arrow depth sampled (N.both (N.token (sign_of sign.Arrow)) lower.expression)

    abbrev pub conditional : F Measured
    conditional = N.convert (λ r. of_condition r.0 r.1.0 r.1.1.0 r.1.1.1)
        (N.both (N.token (keyword word.If)) (N.both lower.expression
        (N.both (behind (keyword word.Then) lower.expression) (behind (keyword word.Else) lower.expression))))

    abbrev pub expression : F Measured
    expression = N.either_within DepthLimit (N.deeper depth) (keyword word.If) conditional arrowed

    -- all levels
    abbrev pub levels : Levels F
    levels = record {
      expression = expression;
      delayed = delayed;
      implication = implication;
      conjunction = conjunction;
      comparison = comparison;
      sum = sum;
      product = product;
      unary = unary;
    }
