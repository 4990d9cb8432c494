-- What is known of an expression that is read: it may be read, its parts need no more levels than it has, and its tokens may be written.
use Rattle.std.proofs.Common.{◌≡◌, ℕ, zero, suc, ◌-◌, ◌≤◌, Bool, true, false, if◌then◌else◌, nat_lt, List, [], ◌∷◌, map, Option, None, Some, refl, sym, ap, subst, ◌∙◌, arith}
use Rattle.std.proofs.lemmas.Bool.Decides.{nat_tests}
use Rattle.hp_base.specs.declared.limit.What.TheVariants.{Depth}
use Rattle.hp_base.specs.declared.span.Span.{Span}
use Rattle.hp_lexer.specs.Written.{IsWritable}
use Rattle.hp_lexer.specs.declared.token.TokenKind.{TokenKind}
use Rattle.hp_lexer.specs.declared.token.TokenKind.TheVariants as kind
use Rattle.hp_lexer.specs.declared.token.Keyword.TheVariants as key
use Rattle.hp_lexer.specs.declared.token.Sign.TheVariants as mark
use Rattle.hp_tree.specs.declared.decl.Cons.{Cons}
use Rattle.hp_tree.specs.declared.decl.Cons.TheVariants as cons
use Rattle.hp_tree.specs.declared.expr.Op2.{Op2}
use Rattle.hp_tree.specs.declared.expr.Op2.TheVariants.{And, Or, Xor, Imp, Eq, Ne, Lt, Le, Gt, Ge, Add, Sub, Mul, Div, Rem}
use Rattle.hp_tree.specs.Expressions.{Expr, Exprs, variable, no_expr, more_exprs, exprs_of, parts_of}
use Rattle.hp_parser.specs.Lexemes.{Lexeme, Kinds, is_ahead}
use Rattle.hp_parser.specs.Limits.{has_two, has_above}
use Rattle.hp_parser.specs.Notation.{Measured}
use Rattle.hp_parser.specs.Relation.{Phrase, One, relation}
use Rattle.hp_parser.specs.Grammar as grammar
use Rattle.hp_parser.specs.Grammar.{Levels, Sample as SampleRead, Part as PartRead, deepest, of_operator, prefixed}
use Rattle.hp_parser.specs.Programs.{expressions}
use Rattle.hp_parser.specs.Tokens.{keyword, sign_of, small as is_small_name, number as is_number, constructor as is_constructor, only_whole, prefix, begins_expression, begins_sample, operator_of, constructor_of, constant_of, is_product, is_sum, is_comparison, is_conjunction, is_disjunction, is_implication, is_delay, is_arrow}
use Rattle.hp_parser.specs.declared.mode.Mode.{Mode}
use Rattle.hp_parser.specs.declared.mode.Mode.TheVariants.{Whole, Plain}
use Rattle.hp_print.specs.Levels.{rank, is_looser, level_of, level_of_operator, level_before, level_behind}
use Rattle.hp_print.specs.declared.level.Level.{Level}
use Rattle.hp_print.specs.declared.level.Level.TheVariants.{Conditional, Arrow, Sample, Delay, Implication, Disjunction, Conjunction, Comparison, Sum, Product, Unary, Atom}
use Rattle.hp_print.specs.Tokens.{sign, small, cons_token, constant_tokens}
use Rattle.hp_print.specs.ExpressionTokens.{in_parentheses, operator_token, inlined_tokens, expression_tokens, operand_tokens, arguments_tokens, more_arguments_tokens, parts_tokens}
use Rattle.hp_print.proofs.Every.{IsSpelled, Every, every_token, every_say, every_give, every_either, every_when, every_many, every_convert, every_both, every_suffix, every_suffixes}
use Rattle.hp_print.proofs.Heights.{tall, height, all_height, parts_height, IsPlainConstant, InWhole, Good, GoodAll, GoodParts}
use Rattle.hp_print.proofs.Numbers.{integer-natural}
use Rattle.hp_print.proofs.Readable.{Each}
use Rattle.hp_print.proofs.Writable.{Writable, writable-append, word-writable, sign-writable, small-writable, number-writable, number-within, cons-writable}

-- an expression that was read where one of a level was wanted and n levels were left
pub record Fine (mode : Mode) (l : Level) (n : ℕ) (m : Measured) : Type 0 where
  pub good : Good mode m.expr
  pub high : tall l m.expr (height m.expr) ≤ m.height
  pub low : m.height ≤ n - 1
  pub words : Writable (expression_tokens m.expr)

-- ---- levels

tall-mono : (a b : Level) (e : Expr) (h : ℕ) → rank a ≤ rank b → tall a e h ≤ tall b e h
tall-mono a b e h le = by (is_looser (level_of e) a) (is_looser (level_of e) b) refl refl
  where
    by : (p q : Bool) → nat_lt (rank (level_of e)) (rank a) ≡ p → nat_lt (rank (level_of e)) (rank b) ≡ q → (if p then suc h else h) ≤ (if q then suc h else h)
    by true true s t = omega arith
    by true false s t = absurd (grind (arith, nat_tests))
    by false true s t = omega arith
    by false false s t = omega arith

tall-own : (l : Level) (e : Expr) (h : ℕ) → level_of e ≡ l → tall l e h ≡ h
tall-own l e h p = ap (λ b. if b then suc h else h) (ap (λ k. is_looser k l) p ∙ not-itself (rank l))
  where
    not-itself : (r : ℕ) → nat_lt r r ≡ false
    not-itself r = grind (arith, nat_tests)

pub tall-least : (l : Level) (e : Expr) (h : ℕ) → h ≤ tall l e h
tall-least l e h = by (is_looser (level_of e) l)
  where
    by : (b : Bool) → h ≤ (if b then suc h else h)
    by true = omega arith
    by false = omega arith

tall-most : (l : Level) (e : Expr) (h : ℕ) → tall l e h ≤ suc h
tall-most l e h = by (is_looser (level_of e) l)
  where
    by : (b : Bool) → (if b then suc h else h) ≤ suc h
    by true = omega arith
    by false = omega arith

fine-looser : (mode : Mode) (a b : Level) (n : ℕ) → rank a ≤ rank b → (m : Measured) → Fine mode b n m → Fine mode a n m
fine-looser mode a b n le m f =
    record { good = f.good; high = omega (arith, tall-mono a b m.expr (height m.expr) le, f.high); low = f.low; words = f.words }

-- what is read at its own level
fine-own : (mode : Mode) (l : Level) (n : ℕ) (m : Measured) → level_of m.expr ≡ l → Good mode m.expr → height m.expr ≤ m.height → m.height ≤ n - 1 → Writable (expression_tokens m.expr) → Fine mode l n m
fine-own mode l n m e g h low w = record { good = g; high = subst (λ z. z ≤ m.height) (sym (tall-own l m.expr (height m.expr) e)) h; low = low; words = w }

operand-writable : (l : Level) (e : Expr) → Writable (expression_tokens e) → Writable (operand_tokens l e)
operand-writable l e w = by (is_looser (level_of e) l)
  where
    by : (b : Bool) → Writable (if b then in_parentheses (expression_tokens e) else expression_tokens e)
    by true = (sign-writable mark.Open, writable-append (expression_tokens e) (sign mark.Close ∷ []) w (sign-writable mark.Close, tt))
    by false = w

-- ---- operators

operator-writable : (op : Op2) → IsWritable (operator_token op)
operator-writable And = sign-writable mark.And
operator-writable Or = word-writable key.Or
operator-writable Xor = word-writable key.Xor
operator-writable Imp = sign-writable mark.Implies
operator-writable Eq = sign-writable mark.Equal
operator-writable Ne = sign-writable mark.Unequal
operator-writable Lt = sign-writable mark.Less
operator-writable Le = sign-writable mark.AtMost
operator-writable Gt = sign-writable mark.Greater
operator-writable Ge = sign-writable mark.AtLeast
operator-writable Add = sign-writable mark.Plus
operator-writable Sub = sign-writable mark.Minus
operator-writable Mul = sign-writable mark.Star
operator-writable Div = sign-writable mark.Slash
operator-writable Rem = sign-writable mark.Percent

-- an operator of a level, with the levels of its operands
abbrev IsOf : Level → Level → Level → Op2 → Type 0
IsOf own before behind op = (level_of_operator op ≡ own) × (level_before op ≡ before) × (level_behind op ≡ behind)

product-of : (k : TokenKind) → is_product k ≡ true → IsOf Product Product Unary (operator_of k)
product-of (kind.Sign mark.Star) h = (refl, refl, refl)
product-of (kind.Sign mark.Slash) h = (refl, refl, refl)
product-of (kind.Sign mark.Percent) h = (refl, refl, refl)
product-of k h = absurd cc

sum-of : (k : TokenKind) → is_sum k ≡ true → IsOf Sum Sum Product (operator_of k)
sum-of (kind.Sign mark.Plus) h = (refl, refl, refl)
sum-of (kind.Sign mark.Minus) h = (refl, refl, refl)
sum-of k h = absurd cc

comparison-of : (k : TokenKind) → is_comparison k ≡ true → IsOf Comparison Sum Sum (operator_of k)
comparison-of (kind.Sign mark.Equal) h = (refl, refl, refl)
comparison-of (kind.Sign mark.Unequal) h = (refl, refl, refl)
comparison-of (kind.Sign mark.Less) h = (refl, refl, refl)
comparison-of (kind.Sign mark.AtMost) h = (refl, refl, refl)
comparison-of (kind.Sign mark.Greater) h = (refl, refl, refl)
comparison-of (kind.Sign mark.AtLeast) h = (refl, refl, refl)
comparison-of k h = absurd cc

conjunction-of : (k : TokenKind) → is_conjunction k ≡ true → IsOf Conjunction Conjunction Comparison (operator_of k)
conjunction-of (kind.Sign mark.And) h = (refl, refl, refl)
conjunction-of (kind.Sign mark.AndAnd) h = (refl, refl, refl)
conjunction-of k h = absurd cc

disjunction-of : (k : TokenKind) → is_disjunction k ≡ true → IsOf Disjunction Disjunction Conjunction (operator_of k)
disjunction-of (kind.Keyword key.Or) h = (refl, refl, refl)
disjunction-of (kind.Keyword key.Xor) h = (refl, refl, refl)
disjunction-of (kind.Sign mark.BarBar) h = (refl, refl, refl)
disjunction-of k h = absurd cc

implication-of : (k : TokenKind) → is_implication k ≡ true → IsOf Implication Disjunction Implication (operator_of k)
implication-of (kind.Sign mark.Implies) h = (refl, refl, refl)
implication-of k h = absurd cc

-- what is known of a height with a level above it
has-above-is : (n h : ℕ) → has_above (Some (suc n)) h ≡ true → suc (suc h) ≤ suc n
has-above-is n h e = grind (arith, nat_tests)

has-two-is : (n : ℕ) → has_two (Some (suc n)) ≡ true → 1 ≤ n
has-two-is n e = grind (arith, nat_tests)

joined-fine : (mode : Mode) (n : ℕ) (own before behind : Level) (m : Measured) (r : Lexeme × Measured) → IsOf own before behind (operator_of r.0.kind)
    → has_above (Some (suc n)) m.height ≡ true → Fine mode before (suc n) m → Fine mode behind n r.1 → Fine mode own (suc n) (of_operator m r)
joined-fine mode n own before behind m r o above f g =
    let op = operator_of r.0.kind in
    let a = m.expr in
    let b = r.1.expr in
    let left : tall (level_before op) a (height a) ≤ m.height = subst (λ l. tall l a (height a) ≤ m.height) (sym o.1) f.high in
    let right : tall (level_behind op) b (height b) ≤ r.1.height = subst (λ l. tall l b (height b) ≤ r.1.height) (sym o.2) g.high in
    let room = has-above-is n m.height above in
    fine-own mode own (suc n) (of_operator m r) o.0 (f.good, g.good) (omega (arith, left, right)) (omega (arith, room, g.low))
    (writable-append (operand_tokens (level_before op) a) _ (operand-writable (level_before op) a f.words) (operator-writable op, operand-writable (level_behind op) b g.words))

-- ---- atoms

abbrev pub IsName : Lexeme → Type 0
IsName t = IsSpelled t × (is_small_name t.kind ≡ true)

whole-ahead : (mode : Mode) (kinds : Kinds) (us : List Lexeme) → is_ahead (only_whole mode kinds) us ≡ true → InWhole mode
whole-ahead Whole kinds us h = tt
whole-ahead Plain kinds [] h = absurd cc
whole-ahead Plain kinds (t ∷ us) h = absurd cc

pub constant-writable : (c : Cons) → IsWritable (cons_token c) → Writable (constant_tokens (constant_of c))
constant-writable cons.False w = (w, tt)
constant-writable cons.True w = (w, tt)
constant-writable (cons.Named x) w = (w, tt)

constant-plain : (c : Cons) → IsPlainConstant (constant_of c)
constant-plain cons.False = tt
constant-plain cons.True = tt
constant-plain (cons.Named x) = tt

module _ (mode : Mode) where
  variable-fine : (l : Level) (n : ℕ) (t : Lexeme) → IsName t → Fine mode l n (grammar.of_token t (λ s. variable s t.bytes))
  variable-fine l n t h = record { good = tt; high = atom-high (rank l) (rank-small l); low = omega arith; words = (small-writable t h, tt) }
    where
      rank-small : (k : Level) → rank k ≤ 11
      rank-small k = grind (arith, nat_tests)

      atom-high : (r : ℕ) → r ≤ 11 → (if nat_lt 11 r then 1 else 0) ≤ 0
      atom-high r le = by (nat_lt 11 r) refl
        where
          by : (b : Bool) → nat_lt 11 r ≡ b → (if b then 1 else 0) ≤ 0
          by true e = absurd (grind (arith, nat_tests))
          by false e = omega arith

  name-fine : (l : Level) → Every (relation.convert (λ (t : Lexeme). grammar.of_token t (λ s. variable s t.bytes)) (One is_small_name)) (Fine mode l 0)
  name-fine l = every_convert _ (Fine mode l 0) (λ t h. variable-fine l 0 t h) (every_token is_small_name)

-- ---- lists of expressions

-- arguments that are read where n levels are left
pub record FineAll (mode : Mode) (n : ℕ) (ms : List Measured) : Type 0 where
  pub good : GoodAll mode (exprs_of (map (λ (m : Measured). m.expr) ms))
  pub high : all_height (exprs_of (map (λ (m : Measured). m.expr) ms)) ≤ deepest ms
  pub low : deepest ms ≤ n
  pub words : Writable (more_arguments_tokens (exprs_of (map (λ (m : Measured). m.expr) ms)))

-- parts of a merge
pub record FineParts (mode : Mode) (n : ℕ) (ps : List PartRead) : Type 0 where
  pub good : GoodParts mode (parts_of (map (λ (p : PartRead). (p.cons, p.value.expr)) ps))
  pub high : parts_height (parts_of (map (λ (p : PartRead). (p.cons, p.value.expr)) ps)) ≤ deepest (map (λ (p : PartRead). p.value) ps)
  pub low : deepest (map (λ (p : PartRead). p.value) ps) ≤ n
  pub words : Writable (parts_tokens (parts_of (map (λ (p : PartRead). (p.cons, p.value.expr)) ps)))

module _ (mode : Mode) (n : ℕ) where
  abbrev FinePart : PartRead → Type 0
  FinePart p = IsWritable (cons_token p.cons) × Fine mode Conditional n p.value

  all-fine : (ms : List Measured) → 1 ≤ n → Each (Fine mode Conditional n) ms → FineAll mode n ms
  all-fine [] l h = record { good = tt; high = omega arith; low = omega arith; words = tt }
  all-fine (m ∷ ms) l h =
      let f = h.0 in
      let r = all-fine ms l h.1 in
      let le = tall-least Conditional m.expr (height m.expr) in
      record {
        good = (f.good, r.good);
        high = omega (arith, le, f.high, r.high);
        low = omega (arith, l, f.low, r.low);
        words = (sign-writable mark.Comma, writable-append (expression_tokens m.expr) _ f.words r.words);
      }

  parts-fine : (ps : List PartRead) → 1 ≤ n → Each FinePart ps → FineParts mode n ps
  parts-fine [] l h = record { good = tt; high = omega arith; low = omega arith; words = tt }
  parts-fine (p ∷ ps) l h =
      let f = h.0.1 in
      let r = parts-fine ps l h.1 in
      let le = tall-least Conditional p.value.expr (height p.value.expr) in
      record {
        good = (f.good, r.good);
        high = omega (arith, le, f.high, r.high);
        low = omega (arith, l, f.low, r.low);
        words = (sign-writable mark.Open, (h.0.0, (sign-writable mark.Arrow, writable-append (expression_tokens p.value.expr) _ f.words (sign-writable mark.Close, r.words))));
      }

arguments-writable : (es : Exprs) → Writable (more_arguments_tokens es) → Writable (arguments_tokens es)
arguments-writable no_expr w = tt
arguments-writable (more_exprs e es) w = w.1

inlined-writable : (inlined : Bool) → Writable (inlined_tokens inlined)
inlined-writable true = (word-writable key.Inlined, tt)
inlined-writable false = tt

call-fine : (mode : Mode) (n : ℕ) (first : Span) (inlined : Bool) (t : Lexeme) (ms : List Measured) (close : Lexeme) → IsName t → InWhole mode → FineAll mode n ms
    → Fine mode Atom (suc n) (grammar.of_call first inlined t ms close)
call-fine mode n first inlined t ms close h w f =
    let es = exprs_of (map (λ (m : Measured). m.expr) ms) in
    fine-own mode Atom (suc n) _ refl (w, f.good) f.high (omega (arith, f.low))
    (writable-append (inlined_tokens inlined) _ (inlined-writable inlined)
    (small-writable t h, (sign-writable mark.Open, writable-append (arguments_tokens es) _ (arguments-writable es f.words) (sign-writable mark.Close, tt))))

abbrev Called : Mode → ℕ → Option (List Measured × Lexeme) → Type 0
Called mode n None = Unit {0}
Called mode n (Some c) = InWhole mode × FineAll mode n c.0

named-fine : (mode : Mode) (n : ℕ) (t : Lexeme) (o : Option (List Measured × Lexeme)) → IsName t → Called mode n o → Fine mode Atom (suc n) (grammar.of_name t o)
named-fine mode n t None h c = variable-fine mode Atom (suc n) t h
named-fine mode n t (Some called) h c = call-fine mode n t.span false t called.0 called.1 h c.0 c.1

-- ---- the levels where there is one level more

-- all that is known where n levels are left
pub record LevelsFine (mode : Mode) (n : ℕ) (L : Levels Phrase) : Type 0 where
  pub expression : Every L.expression (Fine mode Conditional n)
  pub delayed : Every L.delayed (Fine mode Delay n)
  pub implication : Every L.implication (Fine mode Implication n)
  pub conjunction : Every L.conjunction (Fine mode Conjunction n)
  pub comparison : Every L.comparison (Fine mode Comparison n)
  pub sum : Every L.sum (Fine mode Sum n)
  pub product : Every L.product (Fine mode Product n)
  pub unary : Every L.unary (Fine mode Unary n)

module _ (mode : Mode) (n : ℕ) (lower : Levels Phrase) (below : LevelsFine mode n lower) where
  abbrev depth : Option ℕ
  depth = Some (suc n)

  arguments-found : Every (grammar.arguments relation mode depth lower) (λ c. FineAll mode n c.0)
  arguments-found =
      every_convert _ (λ c. FineAll mode n c.0) (λ r h. h.1.0)
      (every_both (every_token (sign_of mark.Open)) (every_both
      (every_when (1 ≤ n) Depth _ (begins_expression mode) (λ us r a. has-two-is n r)
      (λ l. every_convert _ (FineAll mode n) (λ r h. all-fine mode n (r.0 ∷ r.1) l h)
      (every_both below.expression (every_many _ _ _ None (λ count. every_convert _ (Fine mode Conditional n) (λ r h. h.1) (every_both (every_token (sign_of mark.Comma)) below.expression)))))
      (every_say (FineAll mode n) (λ ms e. subst (FineAll mode n) (sym e) (record { good = tt; high = omega arith; low = omega arith; words = tt })) (every_give [])))
      (every_token (sign_of mark.Close))))

  named-found : Every (grammar.named relation mode depth lower) (Fine mode Atom (suc n))
  named-found =
      every_convert _ (Fine mode Atom (suc n)) (λ r h. named-fine mode n r.0 r.1 h.0 h.1)
      (every_both (every_token is_small_name)
      (every_when (InWhole mode) Depth true _ (λ us r a. whole-ahead mode (sign_of mark.Open) us a)
      (λ w. every_convert Some (Called mode n) (λ c h. (w, h)) arguments-found)
      (every_say (Called mode n) (λ o e. subst (Called mode n) (sym e) tt) (every_give None))))

  number-found : Every (grammar.number_value relation mode depth lower) (Fine mode Atom (suc n))
  number-found =
      every_convert _ (Fine mode Atom (suc n))
      (λ t h.
      let l = number-within t h in
      fine-own mode Atom (suc n) _ refl l (omega arith) (omega arith) (subst Writable (sym (integer-natural _)) (number-writable _ l, tt)))
      (every_token is_number)

  parentheses-found : (1 ≤ n) → Every (grammar.parentheses relation mode depth lower) (Fine mode Atom (suc n))
  parentheses-found l =
      every_convert _ (Fine mode Atom (suc n))
      (λ r h.
      let f = h.1.0 in
      let m = r.1.0 in
      record {
        good = f.good;
        high = omega (arith, tall-most Atom m.expr (height m.expr), tall-least Conditional m.expr (height m.expr), f.high);
        low = omega (arith, l, f.low);
        words = f.words;
      })
      (every_both (every_token (sign_of mark.Open)) (every_both below.expression (every_token (sign_of mark.Close))))

  last-found : Every (grammar.last_value relation mode depth lower) (Fine mode Atom (suc n))
  last-found =
      every_convert _ (Fine mode Atom (suc n)) (λ r h. fine-own mode Atom (suc n) _ refl tt (omega arith) (omega arith) (word-writable key.Last, (small-writable r.1 h.1, tt)))
      (every_both (every_token (keyword key.Last)) (every_token is_small_name))

  part-found : Every (grammar.part relation mode depth lower) (FinePart mode n)
  part-found =
      every_convert _ (FinePart mode n) (λ r h. (cons-writable r.0 h.0, h.1.0))
      (every_convert _ _ (λ r h. h.1)
      (every_both (every_token (sign_of mark.Open)) (every_both (every_token is_constructor)
      (every_convert _ _ (λ r h. h.1) (every_both (every_token (sign_of mark.Arrow)) (every_both below.expression (every_token (sign_of mark.Close))))))))

  merged-found : (1 ≤ n) × InWhole mode → Every (grammar.merged relation mode depth lower) (Fine mode Atom (suc n))
  merged-found w =
      every_convert _ (Fine mode Atom (suc n))
      (λ r h.
      let f = parts-fine mode n (r.1.1.0 ∷ r.1.1.1) w.0 h.1.1 in
      fine-own mode Atom (suc n) _ refl (w.1, tt, f.good) f.high (omega (arith, f.low)) (word-writable key.Merge, (small-writable r.1.0 h.1.0, f.words)))
      (every_both (every_token (keyword key.Merge)) (every_both (every_token is_small_name) (every_both part-found (every_many _ _ _ None (λ count. part-found)))))

  inlined-found : InWhole mode → Every (grammar.inlined_call relation mode depth lower) (Fine mode Atom (suc n))
  inlined-found w =
      every_convert _ (Fine mode Atom (suc n)) (λ r h. call-fine mode n r.0.span true r.1.0 r.1.1.0 r.1.1.1 h.1.0 w h.1.1)
      (every_both (every_token (keyword key.Inlined)) (every_both (every_token is_small_name) arguments-found))

  constructor-found : Every (grammar.constructor_value relation mode depth lower) (Fine mode Atom (suc n))
  constructor-found =
      every_convert _ (Fine mode Atom (suc n))
      (λ t h. fine-own mode Atom (suc n) _ refl (constant-plain (constructor_of t)) (omega arith) (omega arith) (constant-writable (constructor_of t) (cons-writable t h)))
      (every_token is_constructor)

  atom-found : Every (grammar.atom relation mode depth lower) (Fine mode Atom (suc n))
  atom-found =
      every_either Depth true is_small_name named-found (every_either Depth true is_number number-found
      (every_when (1 ≤ n) Depth _ _ (λ us r a. has-two-is n r) parentheses-found
      (every_either Depth true (keyword key.Last) last-found
      (every_when ((1 ≤ n) × InWhole mode) Depth _ _ (λ us r a. (has-two-is n r, whole-ahead mode (keyword key.Merge) us a)) merged-found
      (every_when (InWhole mode) Depth true _ (λ us r a. whole-ahead mode (keyword key.Inlined) us a) inlined-found constructor-found)))))

  -- ---- operators

  sample-fine : (m : Measured) (s : SampleRead) → InWhole mode → has_above depth m.height ≡ true → Fine mode Sample (suc n) m → IsWritable (cons_token s.cons) × IsWritable (small s.name)
      → Fine mode Sample (suc n) (grammar.of_sample m s)
  sample-fine m s w above f h =
      fine-own mode Sample (suc n) _ refl (w, f.good) (omega (arith, f.high)) (omega (arith, has-above-is n m.height above))
      (writable-append (operand_tokens Sample m.expr) _ (operand-writable Sample m.expr f.words)
      (word-writable key.When, (h.0, (sign-writable mark.Open, (h.1, (sign-writable mark.Close, tt))))))

  stream-fine : (w : InWhole mode) (m : Measured) (r : Lexeme × Measured) → has_above depth m.height ≡ true → Fine mode Implication (suc n) m → Fine mode Delay n r.1 → Fine mode Delay (suc n) (grammar.of_delay m r)
  stream-fine w m r above f g =
      fine-own mode Delay (suc n) _ refl (w, f.good, g.good) (omega (arith, f.high, g.high)) (omega (arith, has-above-is n m.height above, g.low))
      (writable-append (operand_tokens Implication m.expr) _ (operand-writable Implication m.expr f.words) (word-writable key.Fby, operand-writable Delay r.1.expr g.words))

  arrow-fine : (w : InWhole mode) (m : Measured) (r : Lexeme × Measured) → has_above depth m.height ≡ true → Fine mode Sample (suc n) m → Fine mode Conditional n r.1 → Fine mode Arrow (suc n) (grammar.of_arrow m r)
  arrow-fine w m r above f g =
      fine-own mode Arrow (suc n) _ refl (w, f.good, g.good) (omega (arith, f.high, g.high, tall-least Conditional r.1.expr (height r.1.expr))) (omega (arith, has-above-is n m.height above, g.low))
      (writable-append (operand_tokens Sample m.expr) _ (operand-writable Sample m.expr f.words) (sign-writable mark.Arrow, g.words))

  -- ---- the levels in turn

  prefix-fine : (k : TokenKind) (t : Lexeme) (m : Measured) → prefix mode k ≡ true → 1 ≤ n → Fine mode Unary n m → (s : Span) → Fine mode Unary (suc n) (record { expr = prefixed k m.expr s; height = suc m.height; first = t.span; end = m.end })
  prefix-fine (kind.Keyword key.Not) t m h l f s =
      fine-own mode Unary (suc n) _ refl f.good (omega (arith, f.high)) (omega (arith, l, f.low)) (word-writable key.Not, operand-writable Unary m.expr f.words)
  prefix-fine (kind.Keyword key.Pre) t m h l f s =
      fine-own mode Unary (suc n) _ refl (whole-pre mode h, f.good) (omega (arith, f.high)) (omega (arith, l, f.low)) (word-writable key.Pre, operand-writable Unary m.expr f.words)
    where
      whole-pre : (o : Mode) → prefix o (kind.Keyword key.Pre) ≡ true → InWhole o
      whole-pre Whole e = tt
      whole-pre Plain e = absurd cc
  prefix-fine k t m h l f s =
      fine-own mode Unary (suc n) _ refl f.good (omega (arith, f.high)) (omega (arith, l, f.low)) (sign-writable mark.Minus, operand-writable Unary m.expr f.words)

  unary-found : Every (grammar.unary relation mode depth lower) (Fine mode Unary (suc n))
  unary-found =
      every_when (1 ≤ n) Depth _ (prefix mode) (λ us r a. has-two-is n r)
      (λ l. every_convert _ (Fine mode Unary (suc n)) (λ r h. prefix-fine r.0.kind r.0 r.1 h.0.1 l h.1 _) (every_both (every_token (prefix mode)) below.unary))
      (every_say (Fine mode Unary (suc n)) (fine-looser mode Unary Atom (suc n) (omega arith)) atom-found)

  product-found : Every (grammar.product relation mode depth lower) (Fine mode Product (suc n))
  product-found =
      every_suffixes is_product of_operator depth (fine-looser mode Product Unary (suc n) (omega arith))
      (λ m r v above a f g. joined-fine mode n Product Product Unary m r (product-of r.0.kind g.0.1) above f g.1) unary-found (every_both (every_token is_product) below.unary)

  sum-found : Every (grammar.sum relation mode depth lower) (Fine mode Sum (suc n))
  sum-found =
      every_suffixes is_sum of_operator depth (fine-looser mode Sum Product (suc n) (omega arith))
      (λ m r v above a f g. joined-fine mode n Sum Sum Product m r (sum-of r.0.kind g.0.1) above f g.1) product-found (every_both (every_token is_sum) below.product)

  comparison-found : Every (grammar.comparison relation mode depth lower) (Fine mode Comparison (suc n))
  comparison-found =
      every_suffix is_comparison of_operator depth (fine-looser mode Comparison Sum (suc n) (omega arith))
      (λ m r v above a f g. joined-fine mode n Comparison Sum Sum m r (comparison-of r.0.kind g.0.1) above f g.1) sum-found (every_both (every_token is_comparison) below.sum)

  conjunction-found : Every (grammar.conjunction relation mode depth lower) (Fine mode Conjunction (suc n))
  conjunction-found =
      every_suffixes is_conjunction of_operator depth (fine-looser mode Conjunction Comparison (suc n) (omega arith))
      (λ m r v above a f g. joined-fine mode n Conjunction Conjunction Comparison m r (conjunction-of r.0.kind g.0.1) above f g.1) comparison-found (every_both (every_token is_conjunction) below.comparison)

  disjunction-found : Every (grammar.disjunction relation mode depth lower) (Fine mode Disjunction (suc n))
  disjunction-found =
      every_suffixes is_disjunction of_operator depth (fine-looser mode Disjunction Conjunction (suc n) (omega arith))
      (λ m r v above a f g. joined-fine mode n Disjunction Disjunction Conjunction m r (disjunction-of r.0.kind g.0.1) above f g.1) conjunction-found (every_both (every_token is_disjunction) below.conjunction)

  implication-found : Every (grammar.implication relation mode depth lower) (Fine mode Implication (suc n))
  implication-found =
      every_suffix is_implication of_operator depth (fine-looser mode Implication Disjunction (suc n) (omega arith))
      (λ m r v above a f g. joined-fine mode n Implication Disjunction Implication m r (implication-of r.0.kind g.0.1) above f g.1) disjunction-found (every_both (every_token is_implication) below.implication)

  delayed-found : Every (grammar.delayed relation mode depth lower) (Fine mode Delay (suc n))
  delayed-found =
      every_suffix (is_delay mode) grammar.of_delay depth (fine-looser mode Delay Implication (suc n) (omega arith))
      (λ m r v above a f g. stream-fine (whole-ahead mode (keyword key.Fby) v a) m r above f g.1) implication-found (every_both (every_token (keyword key.Fby)) below.delayed)

  abbrev FineSample : SampleRead → Type 0
  FineSample s = IsWritable (cons_token s.cons) × IsWritable (small s.name)

  sample-found : Every (grammar.sample relation mode depth lower) FineSample
  sample-found =
      every_either Depth true (keyword key.When)
      (every_convert _ FineSample (λ r h. h.1) (every_both (every_token (keyword key.When))
      (every_either Depth true is_constructor
      (every_convert _ FineSample (λ r h. (cons-writable r.0 h.0, h.1))
      (every_both (every_token is_constructor)
      (every_convert _ (λ r. IsWritable (small r.0.bytes)) (λ r h. small-writable r.1.0 h.1.0) (every_both (every_token (sign_of mark.Open)) (every_both (every_token is_small_name) (every_token (sign_of mark.Close)))))))
      (every_convert _ FineSample (λ t h. (word-writable key.True, small-writable t h)) (every_token is_small_name)))))
      (every_convert _ FineSample (λ t h. (word-writable key.False, small-writable t h))
      (every_convert _ IsName (λ r h. h.1) (every_both (every_token (keyword key.Whenot)) (every_token is_small_name))))

  sampled-found : Every (grammar.sampled relation mode depth lower) (Fine mode Sample (suc n))
  sampled-found =
      every_suffixes (begins_sample mode) grammar.of_sample depth (fine-looser mode Sample Delay (suc n) (omega arith))
      (λ m s v above a f g. sample-fine m s (whole-ahead mode _ v a) above f g) delayed-found sample-found

  arrowed-found : Every (grammar.arrowed relation mode depth lower) (Fine mode Arrow (suc n))
  arrowed-found =
      every_suffix (is_arrow mode) grammar.of_arrow depth (fine-looser mode Arrow Sample (suc n) (omega arith))
      (λ m r v above a f g. arrow-fine (whole-ahead mode (sign_of mark.Arrow) v a) m r above f g.1) sampled-found (every_both (every_token (sign_of mark.Arrow)) below.expression)

  conditional-found : (1 ≤ n) → Every (grammar.conditional relation mode depth lower) (Fine mode Conditional (suc n))
  conditional-found l =
      every_convert _ (Fine mode Conditional (suc n))
      (λ r h.
      let a = r.1.0.expr in
      let b = r.1.1.0.expr in
      let c = r.1.1.1.expr in
      fine-own mode Conditional (suc n) _ refl (h.1.0.good, h.1.1.0.good, h.1.1.1.good)
      (omega (arith, h.1.0.high, h.1.1.0.high, h.1.1.1.high, tall-least Conditional a (height a), tall-least Conditional b (height b), tall-least Conditional c (height c)))
      (omega (arith, l, h.1.0.low, h.1.1.0.low, h.1.1.1.low)) (
        word-writable key.If,
        writable-append (expression_tokens a) _ h.1.0.words
            (word-writable key.Then, writable-append (expression_tokens b) _ h.1.1.0.words (word-writable key.Else, h.1.1.1.words)),
      ))
      (every_both (every_token (keyword key.If)) (every_both below.expression
      (every_both (every_convert _ (Fine mode Conditional n) (λ r h. h.1) (every_both (every_token (keyword key.Then)) below.expression))
      (every_convert _ (Fine mode Conditional n) (λ r h. h.1) (every_both (every_token (keyword key.Else)) below.expression)))))

  expression-found : Every (grammar.expression relation mode depth lower) (Fine mode Conditional (suc n))
  expression-found =
      every_when (1 ≤ n) Depth _ (keyword key.If) (λ us r a. has-two-is n r) conditional-found
      (every_say (Fine mode Conditional (suc n)) (fine-looser mode Conditional Arrow (suc n) (omega arith)) arrowed-found)

  next-fine : LevelsFine mode (suc n) (grammar.levels relation mode depth lower)
  next-fine = record {
    expression = expression-found;
    delayed = delayed-found;
    implication = implication-found;
    conjunction = conjunction-found;
    comparison = comparison-found;
    sum = sum-found;
    product = product-found;
    unary = unary-found;
  }

pub levels-fine : (mode : Mode) (n : ℕ) → LevelsFine mode n (expressions relation Some mode n)
levels-fine mode zero = record {
  expression = name-fine mode Conditional;
  delayed = name-fine mode Delay;
  implication = name-fine mode Implication;
  conjunction = name-fine mode Conjunction;
  comparison = name-fine mode Comparison;
  sum = name-fine mode Sum;
  product = name-fine mode Product;
  unary = name-fine mode Unary;
}
levels-fine mode (suc n) = next-fine mode n (expressions relation Some mode n) (levels-fine mode n)
