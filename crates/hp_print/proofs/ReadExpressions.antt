-- The tokens of an expression are read as the expression, but for places.
use Rattle.std.proofs.Common.{◌≡◌, ℕ, zero, suc, max, ◌<◌, ◌≤◌, pos, negsuc, Bool, true, false, if◌then◌else◌, List, [], ◌∷◌, ◌++◌, map, Option, None, Some, refl, sym, ap, subst, ◌∙◌, arith}
use Rattle.std.proofs.lemmas.List.{append_assoc}
use Rattle.std.proofs.lemmas.Bool.Decides.{nat_tests}
use Rattle.hp_base.specs.declared.limit.What.TheVariants.{Depth}
use Rattle.hp_base.specs.declared.ty.Const.{Const}
use Rattle.hp_base.specs.declared.ty.Const.TheVariants as constant_kind
use Rattle.hp_base.specs.declared.span.Span.{Span}
use Rattle.hp_lexer.specs.Spelling.{value_of}
use Rattle.hp_lexer.specs.Written.{Written}
use Rattle.hp_lexer.specs.declared.token.Keyword.TheVariants as key
use Rattle.hp_lexer.specs.declared.token.Sign.TheVariants as mark
use Rattle.hp_tree.specs.declared.decl.Cons.{Cons}
use Rattle.hp_tree.specs.declared.decl.Cons.TheVariants as cons
use Rattle.hp_tree.specs.declared.expr.Op1.{Op1}
use Rattle.hp_tree.specs.declared.expr.Op1.TheVariants.{Not, Neg}
use Rattle.hp_tree.specs.declared.expr.Op2.{Op2}
use Rattle.hp_tree.specs.declared.expr.Op2.TheVariants.{And, Or, Xor, Imp, Eq, Ne, Lt, Le, Gt, Ge, Add, Sub, Mul, Div, Rem}
use Rattle.hp_tree.specs.Expressions.{Expr, Exprs, Parts, constant, variable, last_of, one, two, choose, pre, fby, arrow, when_is, merge, call, no_expr, more_exprs, no_part, more_parts, exprs_of, parts_of}
use Rattle.hp_parser.specs.Lexemes.{Lexeme, Kinds}
use Rattle.hp_parser.specs.Limits.{has_two, has_above}
use Rattle.hp_parser.specs.Notation.{Measured}
use Rattle.hp_parser.specs.Relation.{Phrase, Both, One, Suffixes, Suffix, relation}
use Rattle.hp_parser.specs.Grammar as grammar
use Rattle.hp_parser.specs.Grammar.{Sample as SampleRead, Part as PartRead, deepest, of_operator}
use Rattle.hp_parser.specs.Programs.{expressions}
use Rattle.hp_parser.specs.Tokens.{keyword, sign_of, small as is_small_name, number as is_number, constructor as is_constructor, only_whole, prefix, begins_expression, operator_of, constructor_of, constructor_spelled, constant_of, is_product, is_sum, is_comparison, is_conjunction, is_disjunction, is_implication}
use Rattle.hp_parser.specs.declared.mode.Mode.{Mode}
use Rattle.hp_parser.specs.declared.mode.Mode.TheVariants.{Whole, Plain}
use Rattle.hp_print.specs.Levels.{is_looser, level_of, level_before, level_behind}
use Rattle.hp_print.specs.declared.level.Level.{Level}
use Rattle.hp_print.specs.declared.level.Level.TheVariants.{Conditional, Arrow, Sample, Delay, Implication, Disjunction, Conjunction, Comparison, Sum, Product, Unary, Atom}
use Rattle.hp_print.specs.Places.{nowhere, bare, bare_all, bare_parts}
use Rattle.hp_print.specs.Tokens.{word, sign, small, number, cons_token, constant_tokens}
use Rattle.hp_print.specs.ExpressionTokens.{in_parentheses, of_constructor_tokens, prefix_token, operator_token, inlined_tokens, expression_tokens, operand_tokens, arguments_tokens, more_arguments_tokens, parts_tokens}
use Rattle.hp_print.proofs.Can.{Can, leads, IsLike, can_token, can_say, can_in, can_give, can_first, can_second, can_convert, can_both, can_suffixes, can_suffix, can_no_more, can_one_more}
use Rattle.hp_print.proofs.Climb.{phrase_at, climb}
use Rattle.hp_print.proofs.Heights.{tall, height, all_height, parts_height, IsNatural, IsPlainConstant, InWhole, Good, GoodAll, GoodParts}
use Rattle.hp_print.proofs.Numbers.{decimal-spelled, integer-natural}

-- what is read is this expression, but for places, with so many levels above the lowest
abbrev pub Is : Expr → ℕ → Measured → Type 0
Is e h m = (bare m.expr ≡ bare e) × (m.height ≡ h)

abbrev pub CanAt : Mode → ℕ → Level → List Written → Expr → ℕ → Type 0
CanAt mode n l ws e h = Can (phrase_at mode n l) ws (Is e h)

-- an expression at its own level, and one where a level is wanted
abbrev pub Own : Mode → Expr → Type 0
Own mode e = (n : ℕ) → height e < suc n → CanAt mode n (level_of e) (expression_tokens e) e (height e)

abbrev pub Ready : Mode → Level → Expr → Type 0
Ready mode wanted e = (n : ℕ) → tall wanted e (height e) < suc n → CanAt mode n wanted (operand_tokens wanted e) e (tall wanted e (height e))

abbrev pub Free : Mode → Expr → Type 0
Free mode e = (n : ℕ) → height e < suc n → CanAt mode n Conditional (expression_tokens e) e (height e)

two-room : (k : ℕ) → has_two (Some (suc (suc k))) ≡ true
two-room k = grind (arith, nat_tests)

room-above : (k h : ℕ) (m : Measured) → h ≤ k → m.height ≡ h → has_above (Some (suc (suc k))) m.height ≡ true
room-above k h m l e = ap (λ n. has_above (Some (suc (suc k))) n) e ∙ grind (arith, nat_tests)

loosest : (l : Level) → is_looser l Conditional ≡ false
loosest l = grind (arith, nat_tests)

tightest : (l : Level) → is_looser Atom l ≡ false
tightest Conditional = refl
tightest Arrow = refl
tightest Sample = refl
tightest Delay = refl
tightest Implication = refl
tightest Disjunction = refl
tightest Conjunction = refl
tightest Comparison = refl
tightest Sum = refl
tightest Product = refl
tightest Unary = refl
tightest Atom = refl

-- ---- operands

module _ (mode : Mode) (e : Expr) (own : Own mode e) where
  pub free : Free mode e
  free n l = can_in (phrase_at mode n Conditional) (climb mode n (level_of e) Conditional (loosest (level_of e))) (own n l)

  enclosed : (k : ℕ) → suc (height e) < suc (suc k) → CanAt mode (suc k) Atom (in_parentheses (expression_tokens e)) e (suc (height e))
  enclosed k l =
      can_second Depth true _ _ _ (can_second Depth true _ _ _ (can_first Depth _ _ _ _ (two-room k) refl
      (can_convert (λ r. grammar.in_parentheses r.0 r.1.0 r.1.1) (Is e (suc (height e))) (λ r h. (h.1.0.0, ap suc h.1.0.1))
      (can_both (can_token (sign_of mark.Open) (sign mark.Open) refl) (can_both (free k (omega (arith, l))) (can_token (sign_of mark.Close) (sign mark.Close) refl))))))

  by-test : (b : Bool) (wanted : Level) (n : ℕ) → is_looser (level_of e) wanted ≡ b → (if b then suc (height e) else height e) < suc n
      → CanAt mode n wanted (if b then in_parentheses (expression_tokens e) else expression_tokens e) e (if b then suc (height e) else height e)
  by-test true wanted zero t l = absurd (omega (arith, l))
  by-test true wanted (suc k) t l = can_in (phrase_at mode (suc k) wanted) (climb mode (suc k) Atom wanted (tightest wanted)) (enclosed k l)
  by-test false wanted n t l = can_in (phrase_at mode n wanted) (climb mode n (level_of e) wanted t) (own n l)

  pub operand : (wanted : Level) → Ready mode wanted e
  operand wanted n l = by-test (is_looser (level_of e) wanted) wanted n refl l

-- ---- tokens

-- a token in front of a phrase
pub can_behind : {A : Type 0} {P : Phrase A} {ws : List Written} {E : A → Type 0} (kinds : Kinds) (w : Written) → kinds w.kind ≡ true → Can P ws E → Can (grammar.behind relation kinds P) (w ∷ ws) E
can_behind {E = E} kinds w k c = can_convert (λ r. r.1) E (λ r h. h.1) (can_both (can_token kinds w k) c)

-- and one behind it
pub can_before : {A : Type 0} {P : Phrase A} {ws : List Written} {E : A → Type 0} (kinds : Kinds) (w : Written) → kinds w.kind ≡ true → Can P ws E → Can (grammar.before relation P kinds) (ws ++ (w ∷ [])) E
can_before {E = E} kinds w k c = can_convert (λ r. r.0) E (λ r h. h.0) (can_both c (can_token kinds w k))

-- the same tokens, written in another way
pub can_words : {A : Type 0} {P : Phrase A} {ws vs : List Written} {E : A → Type 0} → ws ≡ vs → Can P ws E → Can P vs E
can_words {P = P} {E = E} e c = subst (λ z. Can P z E) e c

pub cons-kind : (c : Cons) → is_constructor (cons_token c).kind ≡ true
cons-kind cons.False = refl
cons-kind cons.True = refl
cons-kind (cons.Named x) = refl

cons-spelled : (c : Cons) → constructor_spelled (cons_token c).kind (cons_token c).bytes ≡ c
cons-spelled cons.False = refl
cons-spelled cons.True = refl
cons-spelled (cons.Named x) = refl

pub cons-read : (c : Cons) (t : Lexeme) → IsLike (cons_token c) t → constructor_of t ≡ c
cons-read c t h = (λ i. constructor_spelled (h.0 i) (h.1 i)) ∙ cons-spelled c

pub can_constructor : (c : Cons) → Can (One is_constructor) (cons_token c ∷ []) (λ t. constructor_of t ≡ c)
can_constructor c = can_say (λ t. constructor_of t ≡ c) (cons-read c) (can_token is_constructor (cons_token c) (cons-kind c))

pub can_small : (x : List ℕ) → Can (One is_small_name) (small x ∷ []) (λ t. t.bytes ≡ x)
can_small x = can_say (λ t. t.bytes ≡ x) (λ t h. h.1) (can_token is_small_name (small x) refl)

-- ---- atoms

module _ (mode : Mode) (n : ℕ) where
  cons-atom : (s : Span) (c : Const) (d : Cons) → constant_of d ≡ c → CanAt mode n Atom (cons_token d ∷ []) (constant s c) 0
  cons-atom s c d e =
      can_second Depth true _ _ _ (can_second Depth true _ _ _ (can_second Depth _ _ _ _ (can_second Depth true _ _ _ (can_second Depth _ _ _ _ (can_second Depth true _ _ _
      (can_convert _ (Is (constant s c) 0) (λ t h. (ap (λ b. constant nowhere (constant_of b)) h ∙ ap (constant nowhere) e, refl)) (can_constructor d)))))))

  number-atom : (s : Span) (k : ℕ) → IsNatural (pos k) → CanAt mode n Atom (number k ∷ []) (constant s (constant_kind.I (pos k))) 0
  number-atom s k g =
      can_second Depth true _ _ _ (can_first Depth true is_number _ _ refl refl
      (can_convert _ (Is (constant s (constant_kind.I (pos k))) 0)
      (λ t h. (ap (λ m. constant nowhere (constant_kind.I (pos m))) (ap value_of h.1 ∙ (decimal-spelled k g).1), refl))
      (can_token is_number (number k) refl)))

  pub constant-at : (s : Span) (c : Const) → IsPlainConstant c → CanAt mode n Atom (constant_tokens c) (constant s c) 0
  constant-at s (constant_kind.B true) g = cons-atom s (constant_kind.B true) cons.True refl
  constant-at s (constant_kind.B false) g = cons-atom s (constant_kind.B false) cons.False refl
  constant-at s (constant_kind.I (pos k)) g = can_words (sym (integer-natural k)) (number-atom s k g)
  constant-at s (constant_kind.I (negsuc k)) g = absurd g
  constant-at s (constant_kind.E x) g = cons-atom s (constant_kind.E x) (cons.Named x) refl

  named-is : (s : Span) (x : List ℕ) (t : Lexeme) (called : Option (List Measured × Lexeme)) → t.bytes ≡ x → called ≡ None → Is (variable s x) 0 (grammar.of_name t called)
  named-is s x t None h e = (ap (variable nowhere) h, refl)
  named-is s x t (Some c) h e = absurd cc

  pub variable-at : (s : Span) (x : List ℕ) → CanAt mode n Atom (small x ∷ []) (variable s x) 0
  variable-at s x =
      can_first Depth true is_small_name _ _ refl refl
      (can_convert (λ r. grammar.of_name r.0 r.1) (Is (variable s x) 0) (λ r h. named-is s x r.0 r.1 h.0 h.1)
      (can_both (can_small x) (can_second Depth true _ _ _ (can_give None))))

  pub last-at : (s : Span) (x : List ℕ) → CanAt mode n Atom (word key.Last ∷ (small x ∷ [])) (last_of s x) 0
  last-at s x =
      can_second Depth true _ _ _ (can_second Depth true _ _ _ (can_second Depth _ _ _ _ (can_first Depth true (keyword key.Last) _ _ refl refl
      (can_convert _ (Is (last_of s x) 0) (λ r h. (ap (last_of nowhere) h.1, refl)) (can_both (can_token (keyword key.Last) (word key.Last) refl) (can_small x))))))

-- ---- operators

operator-read : (op : Op2) → operator_of (operator_token op).kind ≡ op
operator-read And = refl
operator-read Or = refl
operator-read Xor = refl
operator-read Imp = refl
operator-read Eq = refl
operator-read Ne = refl
operator-read Lt = refl
operator-read Le = refl
operator-read Gt = refl
operator-read Ge = refl
operator-read Add = refl
operator-read Sub = refl
operator-read Mul = refl
operator-read Div = refl
operator-read Rem = refl

module _ (k : ℕ) (s : Span) (op : Op2) (a b : Expr) (ha hb : ℕ) (la lb : List Written) (is_op : Kinds) (l : is_op (operator_token op).kind ≡ true) (low : ha ≤ k) where
  abbrev Joined : Measured → Type 0
  Joined = Is (two s op a b) (suc (max ha hb))

  joined-is : (m : Measured) (r : Lexeme × Measured) → Is a ha m → IsLike (operator_token op) r.0 × Is b hb r.1 → Joined (of_operator m r)
  joined-is m r h g = (λ i. two nowhere (op-is i) (h.0 i) (g.1.0 i), λ i. suc (max (h.1 i) (g.1.1 i)))
    where
      op-is : operator_of r.0.kind ≡ op
      op-is = ap operator_of g.0.0 ∙ operator-read op

  joined-many : {first right : Phrase Measured} → Can (Suffixes is_op of_operator (Some (suc (suc k))) first (Both (One is_op) right)) la (Is a ha) → Can right lb (Is b hb)
      → Can (Suffixes is_op of_operator (Some (suc (suc k))) first (Both (One is_op) right)) (la ++ (operator_token op ∷ lb)) Joined
  joined-many p q = can_suffixes _ _ _ _ _ Joined l (λ m h. room-above k ha m low h.1) joined-is p (can_both (can_token is_op (operator_token op) l) q)

  joined-once : {first right : Phrase Measured} → Can first la (Is a ha) → Can right lb (Is b hb)
      → Can (Suffix is_op of_operator (Some (suc (suc k))) first (Both (One is_op) right)) (la ++ (operator_token op ∷ lb)) Joined
  joined-once p q = can_suffix _ _ _ _ _ Joined l (λ m h. room-above k ha m low h.1) joined-is p (can_both (can_token is_op (operator_token op) l) q)

module _ (mode : Mode) (k : ℕ) (s : Span) (a b : Expr) (ha hb : ℕ) (la lb : List Written) (low : ha ≤ k) where
  by-operator : (op : Op2) → CanAt mode (suc k) (level_before op) la a ha → CanAt mode k (level_behind op) lb b hb
      → CanAt mode (suc k) (level_of (two s op a b)) (la ++ (operator_token op ∷ lb)) (two s op a b) (suc (max ha hb))
  by-operator And p q = joined-many k s And a b ha hb la lb is_conjunction refl low p q
  by-operator Or p q = joined-many k s Or a b ha hb la lb is_disjunction refl low p q
  by-operator Xor p q = joined-many k s Xor a b ha hb la lb is_disjunction refl low p q
  by-operator Imp p q = joined-once k s Imp a b ha hb la lb is_implication refl low p q
  by-operator Eq p q = joined-once k s Eq a b ha hb la lb is_comparison refl low p q
  by-operator Ne p q = joined-once k s Ne a b ha hb la lb is_comparison refl low p q
  by-operator Lt p q = joined-once k s Lt a b ha hb la lb is_comparison refl low p q
  by-operator Le p q = joined-once k s Le a b ha hb la lb is_comparison refl low p q
  by-operator Gt p q = joined-once k s Gt a b ha hb la lb is_comparison refl low p q
  by-operator Ge p q = joined-once k s Ge a b ha hb la lb is_comparison refl low p q
  by-operator Add p q = joined-many k s Add a b ha hb la lb is_sum refl low p q
  by-operator Sub p q = joined-many k s Sub a b ha hb la lb is_sum refl low p q
  by-operator Mul p q = joined-many k s Mul a b ha hb la lb is_product refl low p q
  by-operator Div p q = joined-many k s Div a b ha hb la lb is_product refl low p q
  by-operator Rem p q = joined-many k s Rem a b ha hb la lb is_product refl low p q

module _ (mode : Mode) (s : Span) where
  two-at : (op : Op2) (a b : Expr) → Ready mode (level_before op) a → Ready mode (level_behind op) b → Own mode (two s op a b)
  two-at op a b p q zero l = absurd (omega (arith, l))
  two-at op a b p q (suc k) l =
      let ha = tall (level_before op) a (height a) in
      let hb = tall (level_behind op) b (height b) in
      by-operator mode k s a b ha hb (operand_tokens (level_before op) a) (operand_tokens (level_behind op) b) (omega (arith, l)) op (p (suc k) (omega (arith, l))) (q k (omega (arith, l)))

  -- an operator in front
  prefix-at : (w : Written) (a e : Expr) (n : ℕ) → prefix mode w.kind ≡ true → ((t : Lexeme) (m : Measured) (at : Span) → IsLike w t → bare m.expr ≡ bare a → bare (grammar.prefixed t.kind m.expr at) ≡ bare e)
      → Ready mode Unary a → suc (tall Unary a (height a)) < suc n → CanAt mode n Unary (w ∷ operand_tokens Unary a) e (suc (tall Unary a (height a)))
  prefix-at w a e zero h is p l = absurd (omega (arith, l))
  prefix-at w a e (suc k) h is p l =
      can_first Depth _ (prefix mode) _ _ (two-room k) h
      (can_convert (λ r. grammar.of_prefix r.0 r.1) (Is e (suc (tall Unary a (height a)))) (λ r g. (is r.0 r.1 (grammar.up_to r.0.span r.1.end) g.0 g.1.0, ap suc g.1.1))
      (can_both (can_token (prefix mode) w h) (p k (omega (arith, l)))))

  one-at : (op : Op1) (a : Expr) → Ready mode Unary a → Own mode (one s op a)
  one-at Not a p n l = prefix-at (word key.Not) a (one s Not a) n refl (λ t m at h e. (λ i. bare (grammar.prefixed (h.0 i) m.expr at)) ∙ ap (one nowhere Not) e) p l
  one-at Neg a p n l = prefix-at (sign mark.Minus) a (one s Neg a) n refl (λ t m at h e. (λ i. bare (grammar.prefixed (h.0 i) m.expr at)) ∙ ap (one nowhere Neg) e) p l

  if-at : (a b c : Expr) → Free mode a → Free mode b → Free mode c → Own mode (choose s a b c)
  if-at a b c p q r zero l = absurd (omega (arith, l))
  if-at a b c p q r (suc k) l =
      can_first Depth _ (keyword key.If) _ _ (two-room k) refl
      (can_convert _ (Is (choose s a b c) (suc (max (height a) (max (height b) (height c)))))
      (λ m h. (λ i. choose nowhere (h.1.0.0 i) (h.1.1.0.0 i) (h.1.1.1.0 i), λ i. suc (max (h.1.0.1 i) (max (h.1.1.0.1 i) (h.1.1.1.1 i)))))
      (can_both (can_token (keyword key.If) (word key.If) refl) (can_both (p k (omega (arith, l)))
      (can_both (can_behind (keyword key.Then) (word key.Then) refl (q k (omega (arith, l)))) (can_behind (keyword key.Else) (word key.Else) refl (r k (omega (arith, l))))))))

-- ---- operators on streams

module _ (s : Span) where
  pre-at : (mode : Mode) (a : Expr) → InWhole mode → Ready mode Unary a → Own mode (pre s a)
  pre-at Whole a w p n l = prefix-at Whole s (word key.Pre) a (pre s a) n refl (λ t m at h e. (λ i. bare (grammar.prefixed (h.0 i) m.expr at)) ∙ ap (pre nowhere) e) p l
  pre-at Plain a w p n l = absurd w

  fby-at : (mode : Mode) (a b : Expr) → InWhole mode → Ready mode Implication a → Ready mode Delay b → Own mode (fby s a b)
  fby-at Plain a b w p q n l = absurd w
  fby-at Whole a b w p q zero l = absurd (omega (arith, l))
  fby-at Whole a b w p q (suc k) l =
      let ha = tall Implication a (height a) in
      let hb = tall Delay b (height b) in
      can_suffix _ _ _ _ _ (Is (fby s a b) (suc (max ha hb))) refl (λ m h. room-above k ha m (omega (arith, l)) h.1)
      (λ m r h g. (λ i. fby nowhere (h.0 i) (g.1.0 i), λ i. suc (max (h.1 i) (g.1.1 i))))
      (p (suc k) (omega (arith, l))) (can_both (can_token (keyword key.Fby) (word key.Fby) refl) (q k (omega (arith, l))))

  arrow-at : (mode : Mode) (a b : Expr) → InWhole mode → Ready mode Sample a → Free mode b → Own mode (arrow s a b)
  arrow-at Plain a b w p q n l = absurd w
  arrow-at Whole a b w p q zero l = absurd (omega (arith, l))
  arrow-at Whole a b w p q (suc k) l =
      let ha = tall Sample a (height a) in
      can_suffix _ _ _ _ _ (Is (arrow s a b) (suc (max ha (height b)))) refl (λ m h. room-above k ha m (omega (arith, l)) h.1)
      (λ m r h g. (λ i. arrow nowhere (h.0 i) (g.1.0 i), λ i. suc (max (h.1 i) (g.1.1 i))))
      (p (suc k) (omega (arith, l))) (can_both (can_token (sign_of mark.Arrow) (sign mark.Arrow) refl) (q k (omega (arith, l))))

  -- what is sampled, and when
  abbrev IsSample : Cons → List ℕ → SampleRead → Type 0
  IsSample c x r = (r.cons ≡ c) × (r.name ≡ x)

  of-constructor-at : (mode : Mode) (n : ℕ) (c : Cons) (x : List ℕ) → Can (grammar.of_constructor relation mode (Some (suc n)) (expressions relation Some mode n)) (of_constructor_tokens c x) (IsSample c x)
  of-constructor-at mode n c x =
      can_convert _ (IsSample c x) (λ r h. (h.0, h.1.0))
      (can_both (can_constructor c) (can_behind (sign_of mark.Open) (sign mark.Open) refl (can_both (can_small x) (can_token (sign_of mark.Close) (sign mark.Close) refl))))

  when-at : (mode : Mode) (a : Expr) (c : Cons) (x : List ℕ) → InWhole mode → Ready mode Sample a → Own mode (when_is s a c x)
  when-at Plain a c x w p n l = absurd w
  when-at Whole a c x w p zero l = absurd (omega (arith, l))
  when-at Whole a c x w p (suc k) l =
      let ha = tall Sample a (height a) in
      can_suffixes _ _ _ _ _ (Is (when_is s a c x) (suc ha)) refl (λ m h. room-above k ha m (omega (arith, l)) h.1)
      (λ m r h g. (λ i. when_is nowhere (h.0 i) (g.0 i) (g.1 i), λ i. suc (h.1 i)))
      (p (suc k) (omega (arith, l)))
      (can_first Depth true (keyword key.When) _ _ refl refl
      (can_behind (keyword key.When) (word key.When) refl (can_first Depth true is_constructor _ _ refl (cons-kind c) (of-constructor-at Whole (suc k) c x))))

-- ---- what begins an expression

pub leads-append : (kinds : Kinds) (a b : List Written) → leads kinds a ≡ true → leads kinds (a ++ b) ≡ true
leads-append kinds [] b h = absurd cc
leads-append kinds (w ∷ a) b h = h

module _ (mode : Mode) where
  abbrev begins : Kinds
  begins = begins_expression mode

  enclosed-begins : (b : Bool) (ws : List Written) → leads begins ws ≡ true → leads begins (if b then in_parentheses ws else ws) ≡ true
  enclosed-begins true ws h = opens mode
    where
      opens : (m : Mode) → begins_expression m (sign mark.Open).kind ≡ true
      opens Whole = refl
      opens Plain = refl
  enclosed-begins false ws h = h

  operand-begins : (wanted : Level) (e : Expr) → leads begins (expression_tokens e) ≡ true → leads begins (operand_tokens wanted e) ≡ true
  operand-begins wanted e h = enclosed-begins (is_looser (level_of e) wanted) (expression_tokens e) h

small-begins : (mode : Mode) → begins_expression mode (small []).kind ≡ true
small-begins Whole = refl
small-begins Plain = refl

cons-begins : (mode : Mode) (c : Cons) → begins_expression mode (cons_token c).kind ≡ true
cons-begins Whole cons.False = refl
cons-begins Whole cons.True = refl
cons-begins Whole (cons.Named x) = refl
cons-begins Plain cons.False = refl
cons-begins Plain cons.True = refl
cons-begins Plain (cons.Named x) = refl

number-begins : (mode : Mode) → begins_expression mode (number 0).kind ≡ true
number-begins Whole = refl
number-begins Plain = refl

constant-begins : (mode : Mode) (c : Const) → IsPlainConstant c → leads (begins_expression mode) (constant_tokens c) ≡ true
constant-begins mode (constant_kind.B true) g = cons-begins mode cons.True
constant-begins mode (constant_kind.B false) g = cons-begins mode cons.False
constant-begins mode (constant_kind.I (pos k)) g = ap (leads (begins_expression mode)) (integer-natural k) ∙ number-begins mode
constant-begins mode (constant_kind.I (negsuc k)) g = absurd g
constant-begins mode (constant_kind.E x) g = cons-begins mode (cons.Named x)

prefix-begins : (mode : Mode) (op : Op1) → begins_expression mode (prefix_token op).kind ≡ true
prefix-begins Whole Not = refl
prefix-begins Whole Neg = refl
prefix-begins Plain Not = refl
prefix-begins Plain Neg = refl

word-begins : (mode : Mode) → (begins_expression mode (word key.Last).kind ≡ true) × (begins_expression mode (word key.If).kind ≡ true)
word-begins Whole = (refl, refl)
word-begins Plain = (refl, refl)

whole-begins : (mode : Mode) → InWhole mode → (begins_expression mode (word key.Pre).kind ≡ true) × (begins_expression mode (word key.Merge).kind ≡ true) × (begins_expression mode (word key.Inlined).kind ≡ true)
whole-begins Whole w = (refl, refl, refl)
whole-begins Plain w = absurd w

call-begins : (mode : Mode) (f : List ℕ) (inlined : Bool) (more : List Written) → InWhole mode → leads (begins_expression mode) (inlined_tokens inlined ++ (small f ∷ more)) ≡ true
call-begins mode f true more w = (whole-begins mode w).2
call-begins mode f false more w = small-begins mode

pub expression-begins : (mode : Mode) (e : Expr) → Good mode e → leads (begins_expression mode) (expression_tokens e) ≡ true
expression-begins mode (constant s c) g = constant-begins mode c g
expression-begins mode (variable s x) g = small-begins mode
expression-begins mode (last_of s x) g = (word-begins mode).0
expression-begins mode (one s op a) g = prefix-begins mode op
expression-begins mode (two s op a b) g = leads-append _ (operand_tokens (level_before op) a) _ (operand-begins mode (level_before op) a (expression-begins mode a g.0))
expression-begins mode (choose s a b c) g = (word-begins mode).1
expression-begins mode (pre s a) g = (whole-begins mode g.0).0
expression-begins mode (fby s a b) g = leads-append _ (operand_tokens Implication a) _ (operand-begins mode Implication a (expression-begins mode a g.1))
expression-begins mode (arrow s a b) g = leads-append _ (operand_tokens Sample a) _ (operand-begins mode Sample a (expression-begins mode a g.1))
expression-begins mode (when_is s a c x) g = leads-append _ (operand_tokens Sample a) _ (operand-begins mode Sample a (expression-begins mode a g.1))
expression-begins mode (merge s x ps) g = (whole-begins mode g.0).1
expression-begins mode (call s f inlined es) g = call-begins mode f inlined _ g.0

-- ---- calls

abbrev IsAll : Exprs → List Measured → Type 0
IsAll es ms = (bare_all (exprs_of (map (λ (m : Measured). m.expr) ms)) ≡ bare_all es) × (deepest ms ≡ all_height es)

abbrev more_phrase : Mode → ℕ → Phrase (List Measured)
more_phrase mode k = grammar.many relation (sign_of mark.Comma) (grammar.behind relation (sign_of mark.Comma) (phrase_at mode k Conditional))

abbrev OwnAll : Mode → Exprs → Type 0
OwnAll mode es = (k : ℕ) → all_height es < suc (suc k) → Can (more_phrase mode k) (more_arguments_tokens es) (IsAll es)

none-all : (ms : List Measured) → ms ≡ [] → IsAll no_expr ms
none-all [] e = (refl, refl)
none-all (m ∷ ms) e = absurd cc

no-more : (mode : Mode) → OwnAll mode no_expr
no-more mode k l = can_say (IsAll no_expr) none-all (can_no_more _ _ _ _ None)

one-more : (mode : Mode) (e : Expr) (es : Exprs) → Free mode e → OwnAll mode es → OwnAll mode (more_exprs e es)
one-more mode e es p q k l =
    can_one_more _ _ _ _ (IsAll (more_exprs e es)) None refl (λ h. refl) (λ m ms h g. (λ i. more_exprs (h.0 i) (g.0 i), λ i. max (suc (h.1 i)) (g.1 i)))
    (can_behind (sign_of mark.Comma) (sign mark.Comma) refl (p k (omega (arith, l)))) (λ m h. q k (omega (arith, l)))

abbrev Arguments : Exprs → List Measured × Lexeme → Type 0
Arguments es called = IsAll es called.0

abbrev arguments_phrase : Mode → ℕ → Phrase (List Measured × Lexeme)
arguments_phrase mode n = grammar.arguments relation mode (Some (suc n)) (expressions relation Some mode n)

abbrev arguments_in : Exprs → List Written
arguments_in es = sign mark.Open ∷ (arguments_tokens es ++ (sign mark.Close ∷ []))

module _ (mode : Mode) where
  no-arguments : (n : ℕ) → Can (arguments_phrase mode n) (arguments_in no_expr) (Arguments no_expr)
  no-arguments n =
      can_behind (sign_of mark.Open) (sign mark.Open) refl
      (can_say (Arguments no_expr) (λ c h. h.0) (can_both (can_second Depth _ _ _ _ (can_say (IsAll no_expr) none-all (can_give []))) (can_token (sign_of mark.Close) (sign mark.Close) refl)))

  some-arguments : (e : Expr) (es : Exprs) (n : ℕ) → Good mode e → Free mode e → OwnAll mode es → all_height (more_exprs e es) < suc n → Can (arguments_phrase mode n) (arguments_in (more_exprs e es)) (Arguments (more_exprs e es))
  some-arguments e es zero g p q l = absurd (omega (arith, l))
  some-arguments e es (suc k) g p q l =
      can_behind (sign_of mark.Open) (sign mark.Open) refl
      (can_say (Arguments (more_exprs e es)) (λ c h. h.0)
      (can_both (can_first Depth _ (begins_expression mode) _ _ (two-room k) (leads-append _ (expression_tokens e) (more_arguments_tokens es) (expression-begins mode e g))
      (can_convert _ (IsAll (more_exprs e es)) (λ r h. (λ i. more_exprs (h.0.0 i) (h.1.0 i), λ i. max (suc (h.0.1 i)) (h.1.1 i)))
      (can_both (p k (omega (arith, l))) (q k (omega (arith, l))))))
      (can_token (sign_of mark.Close) (sign mark.Close) refl)))

module _ (s : Span) (f : List ℕ) (es : Exprs) where
  named-call : (t : Lexeme) (o : Option (List Measured × Lexeme)) (called : List Measured × Lexeme) → t.bytes ≡ f → o ≡ Some called → Arguments es called
      → Is (call s f false es) (all_height es) (grammar.of_name t o)
  named-call t o called h e a =
      subst (λ z. Is (call s f false es) (all_height es) (grammar.of_name t z)) (sym e) (λ i. call nowhere (h i) false (a.0 i), a.1)

  -- the name of a node behind which its arguments may stand
  call-at : (mode : Mode) (inlined : Bool) (n : ℕ) → InWhole mode → Can (arguments_phrase mode n) (arguments_in es) (Arguments es)
      → CanAt mode n Atom (inlined_tokens inlined ++ (small f ∷ arguments_in es)) (call s f inlined es) (all_height es)
  call-at Plain inlined n w p = absurd w
  call-at Whole false n w p =
      can_first Depth true is_small_name _ _ refl refl
      (can_convert (λ r. grammar.of_name r.0 r.1) (Is (call s f false es) (all_height es)) (λ r h. named-call r.0 r.1 h.1.0 h.0 h.1.1.0 h.1.1.1)
      (can_both (can_small f) (can_first Depth true (only_whole Whole (sign_of mark.Open)) _ _ refl refl
      (can_convert Some (λ o. (called : List Measured × Lexeme) × ((o ≡ Some called) × Arguments es called)) (λ c h. (c, (refl, h))) p))))
  call-at Whole true n w p =
      can_second Depth true _ _ _ (can_second Depth true _ _ _ (can_second Depth _ _ _ _ (can_second Depth true _ _ _ (can_second Depth _ _ _ _
      (can_first Depth true (only_whole Whole (keyword key.Inlined)) _ _ refl refl
      (can_convert _ (Is (call s f true es) (all_height es)) (λ r h. (λ i. call nowhere (h.1.0 i) true (h.1.1.0 i), h.1.1.1))
      (can_both (can_token (keyword key.Inlined) (word key.Inlined) refl) (can_both (can_small f) p))))))))

-- ---- merges

abbrev IsPart : Cons → Expr → PartRead → Type 0
IsPart c e p = (p.cons ≡ c) × Is e (height e) p.value

abbrev IsParts : Parts → List PartRead → Type 0
IsParts ps parts = (bare_parts (parts_of (map (λ (p : PartRead). (p.cons, p.value.expr)) parts)) ≡ bare_parts ps) × (deepest (map (λ (p : PartRead). p.value) parts) ≡ parts_height ps)

abbrev part_phrase : Mode → ℕ → Phrase PartRead
part_phrase mode k = grammar.part relation mode (Some (suc (suc k))) (expressions relation Some mode (suc k))

abbrev parts_phrase : Mode → ℕ → Phrase (List PartRead)
parts_phrase mode k = grammar.many relation (sign_of mark.Open) (part_phrase mode k)

abbrev OwnParts : Mode → Parts → Type 0
OwnParts mode ps = (k : ℕ) → parts_height ps < suc (suc k) → Can (parts_phrase mode k) (parts_tokens ps) (IsParts ps)

abbrev one_part : Cons → Expr → List Written
one_part c e = sign mark.Open ∷ (cons_token c ∷ (sign mark.Arrow ∷ (expression_tokens e ++ (sign mark.Close ∷ []))))

no-part : (parts : List PartRead) → parts ≡ [] → IsParts no_part parts
no-part [] e = (refl, refl)
no-part (p ∷ parts) e = absurd cc

part-tokens : (c : Cons) (e : Expr) (ps : Parts) → one_part c e ++ parts_tokens ps ≡ parts_tokens (more_parts c e ps)
part-tokens c e ps = ap (λ z. sign mark.Open ∷ (cons_token c ∷ (sign mark.Arrow ∷ z))) (append_assoc (expression_tokens e) (sign mark.Close ∷ []) (parts_tokens ps))

module _ (mode : Mode) where
  part-at : (c : Cons) (e : Expr) (k : ℕ) → Free mode e → height e < suc k → Can (part_phrase mode k) (one_part c e) (IsPart c e)
  part-at c e k p l =
      can_convert _ (IsPart c e) (λ r h. (h.0, h.1.0))
      (can_behind (sign_of mark.Open) (sign mark.Open) refl (can_both (can_constructor c)
      (can_behind (sign_of mark.Arrow) (sign mark.Arrow) refl (can_both (p k l) (can_token (sign_of mark.Close) (sign mark.Close) refl)))))

  no-parts : OwnParts mode no_part
  no-parts k l = can_say (IsParts no_part) no-part (can_no_more _ _ _ _ None)

  one-more-part : (c : Cons) (e : Expr) (ps : Parts) → Free mode e → OwnParts mode ps → OwnParts mode (more_parts c e ps)
  one-more-part c e ps p q k l =
      can_words (part-tokens c e ps)
      (can_one_more _ _ _ _ (IsParts (more_parts c e ps)) None refl (λ h. refl) (λ x xs h g. (λ i. more_parts (h.0 i) (h.1.0 i) (g.0 i), λ i. max (suc (h.1.1 i)) (g.1 i)))
      (part-at c e k p (omega (arith, l))) (λ x h. q k (omega (arith, l))))

merge-at : (mode : Mode) (s : Span) (x : List ℕ) (c : Cons) (e : Expr) (ps : Parts) → InWhole mode → Free mode e → OwnParts mode ps → Own mode (merge s x (more_parts c e ps))
merge-at Plain s x c e ps w p q n l = absurd w
merge-at Whole s x c e ps w p q zero l = absurd (omega (arith, l))
merge-at Whole s x c e ps w p q (suc k) l =
    can_second Depth true _ _ _ (can_second Depth true _ _ _ (can_second Depth _ _ _ _ (can_second Depth true _ _ _
    (can_first Depth _ (only_whole Whole (keyword key.Merge)) _ _ (two-room k) refl
    (can_convert _ (Is (merge s x (more_parts c e ps)) (parts_height (more_parts c e ps)))
    (λ r h. (λ i. merge nowhere (h.1.0 i) (more_parts (h.1.1.0.0 i) (h.1.1.0.1.0 i) (h.1.1.1.0 i)), λ i. max (suc (h.1.1.0.1.1 i)) (h.1.1.1.1 i)))
    (can_both (can_token (keyword key.Merge) (word key.Merge) refl) (can_both (can_small x)
    (can_words (part-tokens c e ps) (can_both (part-at Whole c e k p (omega (arith, l))) (q k (omega (arith, l))))))))))))

-- ---- each expression

mutual
  pub expression-own : (mode : Mode) (e : Expr) → Good mode e → Own mode e
  expression-own mode (constant s c) g = λ n l. constant-at mode n s c g
  expression-own mode (variable s x) g = λ n l. variable-at mode n s x
  expression-own mode (last_of s x) g = λ n l. last-at mode n s x
  expression-own mode (one s op a) g = one-at mode s op a (operand mode a (expression-own mode a g) Unary)
  expression-own mode (two s op a b) g =
      two-at mode s op a b (operand mode a (expression-own mode a g.0) (level_before op)) (operand mode b (expression-own mode b g.1) (level_behind op))
  expression-own mode (choose s a b c) g = if-at mode s a b c (free mode a (expression-own mode a g.0)) (free mode b (expression-own mode b g.1)) (free mode c (expression-own mode c g.2))
  expression-own mode (pre s a) g = pre-at s mode a g.0 (operand mode a (expression-own mode a g.1) Unary)
  expression-own mode (fby s a b) g = fby-at s mode a b g.0 (operand mode a (expression-own mode a g.1) Implication) (operand mode b (expression-own mode b g.2) Delay)
  expression-own mode (arrow s a b) g = arrow-at s mode a b g.0 (operand mode a (expression-own mode a g.1) Sample) (free mode b (expression-own mode b g.2))
  expression-own mode (when_is s a c x) g = when-at s mode a c x g.0 (operand mode a (expression-own mode a g.1) Sample)
  expression-own mode (merge s x no_part) g = absurd g.1
  expression-own mode (merge s x (more_parts c e ps)) g = merge-at mode s x c e ps g.0 (free mode e (expression-own mode e g.2.0)) (parts-own mode ps g.2.1)
  expression-own mode (call s f inlined no_expr) g = λ n l. call-at s f no_expr mode inlined n g.0 (no-arguments mode n)
  expression-own mode (call s f inlined (more_exprs e es)) g =
      λ n l. call-at s f (more_exprs e es) mode inlined n g.0 (some-arguments mode e es n g.1.0 (free mode e (expression-own mode e g.1.0)) (all-own mode es g.1.1) l)

  all-own : (mode : Mode) (es : Exprs) → GoodAll mode es → OwnAll mode es
  all-own mode no_expr g = no-more mode
  all-own mode (more_exprs e es) g = one-more mode e es (free mode e (expression-own mode e g.0)) (all-own mode es g.1)

  parts-own : (mode : Mode) (ps : Parts) → GoodParts mode ps → OwnParts mode ps
  parts-own mode no_part g = no-parts mode
  parts-own mode (more_parts c e ps) g = one-more-part mode c e ps (free mode e (expression-own mode e g.0)) (parts-own mode ps g.1)

-- an expression that has at most so many levels
pub expression-read : (mode : Mode) (e : Expr) (n : ℕ) → Good mode e → height e < suc n → CanAt mode n Conditional (expression_tokens e) e (height e)
expression-read mode e n g l = free mode e (expression-own mode e g) n l
