-- The tokens of equations and blocks are read as the equations, but for places.
use Rattle.std.proofs.Common.{◌≡◌, ℕ, zero, suc, ◌<◌, ◌==◌, Bool, true, false, ◌||◌, if◌then◌else◌, List, [], ◌∷◌, ◌++◌, map, length, Option, None, Some, refl, sym, ap, ◌∙◌, arith}
use Rattle.std.proofs.lemmas.Bool.Decides.{nat_tests}
use Rattle.std.proofs.lemmas.List.{append_assoc, append-nil}
use Rattle.hp_base.specs.declared.limit.What.TheVariants.{Depth, Nest}
use Rattle.hp_base.specs.declared.span.Span.{Span}
use Rattle.hp_lexer.specs.Written.{Written}
use Rattle.hp_lexer.specs.declared.token.Keyword.{Keyword}
use Rattle.hp_lexer.specs.declared.token.Keyword.TheVariants as key
use Rattle.hp_lexer.specs.declared.token.Sign.TheVariants as mark
use Rattle.hp_tree.specs.declared.block.Trans.{Trans}
use Rattle.hp_tree.specs.declared.decl.Cons.{Cons}
use Rattle.hp_tree.specs.Expressions.{Expr}
use Rattle.hp_tree.specs.Blocks.{Decl, Block, Eqns, Eqn, Arms, States, Arm, State, block, no_eqn, more_eqns, define, switch, reset, automaton, no_arm, more_arms, no_state, more_states, eqns_of, arms_of, states_of}
use Rattle.hp_parser.specs.Lexemes.{Lexeme, Kinds}
use Rattle.hp_parser.specs.Limits.{has_two}
use Rattle.hp_parser.specs.Notation.{Measured}
use Rattle.hp_parser.specs.Relation.{Phrase, One, relation}
use Rattle.hp_parser.specs.Grammar as grammar
use Rattle.hp_parser.specs.BlockGrammar as grammar_of
use Rattle.hp_parser.specs.BlockGrammar.{Left, Transitions, all_or_none, block_of}
use Rattle.hp_parser.specs.Programs.{blocks}
use Rattle.hp_parser.specs.Tokens.{keyword, sign_of, small as is_small_name, capital as is_capital_name, begins_equation, begins_control}
use Rattle.hp_parser.specs.declared.mode.Mode.{Mode}
use Rattle.hp_parser.specs.declared.mode.Mode.TheVariants.{Whole, Plain}
use Rattle.hp_print.specs.Places.{nowhere, bare, bare_name, bare_transition, bare_block, bare_eqns, bare_eqn, bare_arms, bare_states}
use Rattle.hp_print.specs.Tokens.{word, sign, small, capital, cons_token, led_by, joined_by}
use Rattle.hp_print.specs.ExpressionTokens.{in_parentheses, expression_tokens}
use Rattle.hp_print.specs.BlockTokens.{left_name, left_tokens, transition_tokens, transitions_tokens, body_tokens, inner_tokens, equations_tokens, equation_tokens, arms_tokens, states_tokens}
use Rattle.hp_print.proofs.Can.{Can, leads, can_token, can_say, can_give, can_first, can_second, can_convert, can_both, can_no_more, can_one_more, can_ended, can_separated}
use Rattle.hp_print.proofs.Readable.{GoodIn, GoodLocal, Each, GoodTransition, GoodBlock, GoodEqns, GoodEqn, GoodArms, GoodStates, nest_block, nest_eqns, nest_eqn, nest_arms, nest_states}
use Rattle.hp_print.proofs.ReadExpressions.{can_behind, can_before, can_words, can_constructor, can_small, leads-append}
use Rattle.hp_print.proofs.ReadDeclarations.{can_variables, can_inner_variables}

pub can_capital : (x : List ℕ) → Can (One is_capital_name) (capital x ∷ []) (λ t. t.bytes ≡ x)
can_capital x = can_say (λ t. t.bytes ≡ x) (λ t h. h.1) (can_token is_capital_name (capital x) refl)

-- ---- names on the left

abbrev IsLeft : List (List ℕ × Span) → Left → Type 0
IsLeft xs l = map bare_name l.names ≡ map bare_name xs

abbrev AreNamed : List (List ℕ × Span) → List Lexeme → Type 0
AreNamed xs ts = map bare_name (map grammar_of.placed ts) ≡ map bare_name xs

can_more_names : (xs : List (List ℕ × Span)) → Can (grammar.many relation (sign_of mark.Comma) (grammar.behind relation (sign_of mark.Comma) (One is_small_name))) (led_by (sign mark.Comma) (map left_name xs)) (AreNamed xs)
can_more_names [] = can_say (AreNamed []) (λ ts e. ap (λ z. map bare_name (map grammar_of.placed z)) e) (can_no_more _ _ _ _ None)
can_more_names (x ∷ xs) =
    can_one_more _ _ _ _ (AreNamed (x ∷ xs)) None refl (λ h. refl) (λ t ts h g. λ i. (h i, nowhere) ∷ g i)
    (can_behind (sign_of mark.Comma) (sign mark.Comma) refl (can_small x.0)) (λ t h. can_more_names xs)

abbrev listed_phrase : Phrase (List (List ℕ × Span))
listed_phrase =
    grammar.either relation is_small_name
    (relation.convert (λ r. grammar_of.placed r.0 ∷ map grammar_of.placed r.1) (relation.both (relation.token is_small_name) (grammar.many relation (sign_of mark.Comma) (grammar.behind relation (sign_of mark.Comma) (relation.token is_small_name)))))
    (relation.give [])

can_listed : (xs : List (List ℕ × Span)) → Can listed_phrase (joined_by (sign mark.Comma) (map left_name xs)) (λ ys. map bare_name ys ≡ map bare_name xs)
can_listed [] = can_second Depth true _ _ _ (can_say _ (λ ys e. ap (map bare_name) e) (can_give []))
can_listed (x ∷ xs) =
    can_first Depth true is_small_name _ _ refl refl
    (can_convert _ (λ ys. map bare_name ys ≡ map bare_name (x ∷ xs)) (λ r h. λ i. (h.0 i, nowhere) ∷ h.1 i) (can_both (can_small x.0) (can_more_names xs)))

can_enclosed_names : (X : Mode → Phrase Measured) (xs : List (List ℕ × Span)) → Can (grammar_of.left relation X) (in_parentheses (joined_by (sign mark.Comma) (map left_name xs))) (IsLeft xs)
can_enclosed_names X xs =
    can_second Depth true _ _ _
    (can_convert _ (IsLeft xs) (λ r h. h.1)
    (can_both (can_token (sign_of mark.Open) (sign mark.Open) refl) (can_before (sign_of mark.Close) (sign mark.Close) refl (can_listed xs))))

many-names : (n : ℕ) → (suc (suc n) == 1) ≡ false
many-names n = grind (arith, nat_tests)

can_left : (X : Mode → Phrase Measured) (xs : List (List ℕ × Span)) → Can (grammar_of.left relation X) (left_tokens xs) (IsLeft xs)
can_left X [] = can_enclosed_names X []
can_left X (x ∷ []) =
    can_first Depth true is_small_name _ _ refl refl (can_convert _ (IsLeft (x ∷ [])) (λ t h. λ i. (h i, nowhere) ∷ []) (can_small x.0))
can_left X (x ∷ y ∷ xs) =
    let listed = joined_by (sign mark.Comma) (map left_name (x ∷ y ∷ xs)) in
    can_words (sym (ap (λ b. if b then listed else in_parentheses listed) (many-names (length xs)))) (can_enclosed_names X (x ∷ y ∷ xs))

left-begins : (b : Bool) (x : List ℕ) (more : List Written) → leads begins_equation (if b then small x ∷ more else in_parentheses (small x ∷ more)) ≡ true
left-begins true x more = refl
left-begins false x more = refl

left-begin : (xs : List (List ℕ × Span)) → leads begins_equation (left_tokens xs) ≡ true
left-begin [] = refl
left-begin (x ∷ xs) = left-begins (length (x ∷ xs) == 1) x.0 (led_by (sign mark.Comma) (map left_name xs))

-- ---- with the expressions that are read

module _ (d : ℕ) (X : Mode → Phrase Measured) (reads : (mode : Mode) (e : Expr) → GoodIn d mode e → Can (X mode) (expression_tokens e) (λ m. bare m.expr ≡ bare e)) where
  abbrev IsTransition : Trans → Trans → Type 0
  IsTransition t u = bare_transition u ≡ bare_transition t

  abbrev target_kinds : Kinds
  target_kinds k = keyword key.Then k || keyword key.Continue k

  restart-word : (b : Bool) → target_kinds (word (if b then key.Then else key.Continue)).kind ≡ true
  restart-word true = refl
  restart-word false = refl

  restart-read : (b : Bool) → keyword key.Then (word (if b then key.Then else key.Continue)).kind ≡ b
  restart-read true = refl
  restart-read false = refl

  can_transition : (t : Trans) → GoodTransition d t → Can (grammar_of.transition relation X) (transition_tokens t) (IsTransition t)
  can_transition t g =
      can_convert _ (IsTransition t)
      (λ r h.
      let again : keyword key.Then r.1.0.kind ≡ t.restart = ap (keyword key.Then) h.1.0.0 ∙ restart-read t.restart in
      λ i. record { cond = h.0 i; restart = again i; target = h.1.1 i; span = nowhere })
      (can_both (reads Plain t.cond g) (can_both (can_token target_kinds (word (if t.restart then key.Then else key.Continue)) (restart-word t.restart)) (can_capital t.target)))

  abbrev AreTransitions : List Trans → List Trans → Type 0
  AreTransitions ts us = map bare_transition us ≡ map bare_transition ts

  can_more_transitions : (ts : List Trans) → Each (GoodTransition d) ts
      → Can (grammar.many relation (sign_of mark.Bar) (grammar.behind relation (sign_of mark.Bar) (grammar_of.transition relation X))) (led_by (sign mark.Bar) (map transition_tokens ts)) (AreTransitions ts)
  can_more_transitions [] g = can_say (AreTransitions []) (λ us e. ap (map bare_transition) e) (can_no_more _ _ _ _ None)
  can_more_transitions (t ∷ ts) g =
      can_one_more _ _ _ _ (AreTransitions (t ∷ ts)) None refl (λ h. refl) (λ u us h k. λ i. h i ∷ k i)
      (can_behind (sign_of mark.Bar) (sign mark.Bar) refl (can_transition t g.0)) (λ u h. can_more_transitions ts g.1)

  can_transitions : (k : Keyword) (t : Trans) (ts : List Trans) → keyword k (word k).kind ≡ true → Each (GoodTransition d) (t ∷ ts)
      → Can (grammar.behind relation (keyword k) (grammar_of.transitions relation X)) (transitions_tokens k (t ∷ ts)) (AreTransitions (t ∷ ts))
  can_transitions k t ts e g =
      can_behind (keyword k) (word k) e
      (can_convert _ (AreTransitions (t ∷ ts)) (λ r h. λ i. h.0 i ∷ h.1 i)
      (can_both (can_second Depth true _ _ _ (can_transition t g.0)) (can_more_transitions ts g.1)))

  abbrev AreOptional : List Trans → Option (List Trans) → Type 0
  AreOptional ts o = AreTransitions ts (all_or_none o)

  can_optional : (k : Keyword) (ts : List Trans) → keyword k (word k).kind ≡ true → Each (GoodTransition d) ts
      → Can (grammar.optional relation (keyword k) (grammar.behind relation (keyword k) (grammar_of.transitions relation X))) (transitions_tokens k ts) (AreOptional ts)
  can_optional k [] e g = can_second Depth true _ _ _ (can_say (AreOptional []) (λ o h. ap (λ z. map bare_transition (all_or_none z)) h) (can_give None))
  can_optional k (t ∷ ts) e g = can_first Depth true (keyword k) _ _ refl e (can_convert Some (AreOptional (t ∷ ts)) (λ x h. h) (can_transitions k t ts e g))

  abbrev AllTransitions : List Trans → List Trans → Transitions → Type 0
  AllTransitions until unless r = AreTransitions until r.until × AreTransitions unless r.unless

  can_all_transitions : (until unless : List Trans) → Each (GoodTransition d) until → Each (GoodTransition d) unless
      → Can (grammar_of.all_transitions relation X) (transitions_tokens key.Until until ++ transitions_tokens key.Unless unless) (AllTransitions until unless)
  can_all_transitions [] [] g h =
      can_second Depth true _ _ _ (can_second Depth true _ _ _
      (can_say (AllTransitions [] []) (λ r e. (ap (λ (z : Transitions). map bare_transition z.until) e, ap (λ (z : Transitions). map bare_transition z.unless) e)) (can_give _)))
  can_all_transitions [] (u ∷ unless) g h =
      can_second Depth true _ _ _ (can_first Depth true (keyword key.Unless) _ _ refl refl
      (can_words (append-nil (transitions_tokens key.Unless (u ∷ unless)))
      (can_convert _ (AllTransitions [] (u ∷ unless)) (λ r e. (e.1, e.0)) (can_both (can_transitions key.Unless u unless refl h) (can_optional key.Until [] refl tt)))))
  can_all_transitions (t ∷ until) unless g h =
      can_first Depth true (keyword key.Until) _ _ refl refl
      (can_convert _ (AllTransitions (t ∷ until) unless) (λ r e. (e.0, e.1)) (can_both (can_transitions key.Until t until refl g) (can_optional key.Unless unless refl h)))

  -- ---- equations

  abbrev lower : ℕ → Phrase (List Eqn)
  lower n = blocks relation Some X n

  abbrev AreEqns : Eqns → List Eqn → Type 0
  AreEqns es xs = bare_eqns (eqns_of xs) ≡ bare_eqns es

  abbrev IsBlock : Block → Block → Type 0
  IsBlock b c = bare_block c ≡ bare_block b

  abbrev IsEqn : Eqn → Eqn → Type 0
  IsEqn e x = bare_eqn x ≡ bare_eqn e

  abbrev EqnsOk : Eqns → Type 0
  EqnsOk es = (n : ℕ) → nest_eqns es < n → Can (lower n) (equations_tokens es) (AreEqns es)

  abbrev EqnOk : Eqn → Type 0
  EqnOk e = (n : ℕ) → nest_eqn e < suc n → Can (grammar_of.equation relation X (Some (suc n)) (lower n)) (equation_tokens e) (IsEqn e)

  abbrev BodyOk : Block → Type 0
  BodyOk b = (n : ℕ) (nest : Option ℕ) → nest_block b < n → Can (grammar_of.body relation X nest (lower n)) (body_tokens b) (IsBlock b)

  abbrev InnerOk : Block → Type 0
  InnerOk b = (n : ℕ) (nest : Option ℕ) → nest_block b < n → Can (grammar_of.inner relation X nest (lower n)) (inner_tokens b) (IsBlock b)

  body-at : (ds : List Decl) (es : Eqns) → Each GoodLocal ds → EqnsOk es → BodyOk (block ds es)
  body-at ds es g p n nest l =
      can_convert _ (IsBlock (block ds es)) (λ r h. λ i. block (h.0 i) (h.1 i)) (can_both (can_variables ds g) (can_behind (keyword key.Do) (word key.Do) refl (p n l)))

  inner-at : (ds : List Decl) (es : Eqns) → Each GoodLocal ds → EqnsOk es → InnerOk (block ds es)
  inner-at ds es g p n nest l = can_convert _ (IsBlock (block ds es)) (λ r h. λ i. block (h.0 i) (h.1 i)) (can_both (can_inner_variables ds g) (p n l))

  define-at : (s : Span) (xs : List (List ℕ × Span)) (e : Expr) → GoodIn d Whole e → EqnOk (define s xs e)
  define-at s xs e g n l =
      can_second Nest _ _ _ _
      (can_convert _ (IsEqn (define s xs e)) (λ r h. λ i. define nowhere (h.0 i) (h.1 i)) (can_both (can_left X xs) (can_behind (sign_of mark.Equal) (sign mark.Equal) refl (reads Whole e g))))

  nest-room : (k : ℕ) → has_two (Some (suc (suc k))) ≡ true
  nest-room k = grind (arith, nat_tests)

  -- ---- arms

  abbrev AreArms : Arms → List Arm → Type 0
  AreArms arms xs = bare_arms (arms_of xs) ≡ bare_arms arms

  abbrev IsArm : Cons → Block → Arm → Type 0
  IsArm c b a = (a.cons ≡ c) × IsBlock b a.body

  module _ (k : ℕ) where
    abbrev here : Option ℕ
    here = Some (suc (suc k))

    arm-at : (c : Cons) (b : Block) → BodyOk b → nest_block b < suc k → Can (grammar_of.arm relation X here (lower (suc k))) (sign mark.Bar ∷ (cons_token c ∷ body_tokens b)) (IsArm c b)
    arm-at c b p l = can_convert _ (IsArm c b) (λ r h. h) (can_behind (sign_of mark.Bar) (sign mark.Bar) refl (can_both (can_constructor c) (p (suc k) here l)))

    abbrev more_arms_phrase : Phrase (List Arm)
    more_arms_phrase = grammar.many relation (sign_of mark.Bar) (grammar_of.arm relation X here (lower (suc k)))

    abbrev IsState : List ℕ → Block → List Trans → List Trans → State → Type 0
    IsState x b until unless q = (q.name ≡ x) × IsBlock b q.body × AreTransitions until q.until × AreTransitions unless q.unless

    abbrev AreStates : States → List State → Type 0
    AreStates qs xs = bare_states (states_of xs) ≡ bare_states qs

    abbrev state_tokens : List ℕ → Block → List Trans → List Trans → List Written
    state_tokens x b until unless = word key.State ∷ (capital x ∷ (body_tokens b ++ (transitions_tokens key.Until until ++ transitions_tokens key.Unless unless)))

    state-at : (x : List ℕ) (b : Block) (until unless : List Trans) → BodyOk b → Each (GoodTransition d) until → Each (GoodTransition d) unless → nest_block b < suc k
        → Can (grammar_of.state relation X here (lower (suc k))) (state_tokens x b until unless) (IsState x b until unless)
    state-at x b until unless p g h l =
        can_convert _ (IsState x b until unless) (λ r e. (e.0, e.1.0, e.1.1.0, e.1.1.1))
        (can_behind (keyword key.State) (word key.State) refl (can_both (can_capital x) (can_both (p (suc k) here l) (can_all_transitions until unless g h))))

    abbrev more_states_phrase : Phrase (List State)
    more_states_phrase = grammar.many relation (keyword key.State) (grammar_of.state relation X here (lower (suc k)))

  state-tokens : (k : ℕ) (x : List ℕ) (b : Block) (until unless : List Trans) (s : Span) (qs : States) → state_tokens k x b until unless ++ states_tokens qs ≡ states_tokens (more_states x b until unless s qs)
  state-tokens k x b until unless s qs =
      let weak = transitions_tokens key.Until until in
      let strong = transitions_tokens key.Unless unless in
      ap (λ z. word key.State ∷ (capital x ∷ z))
      (append_assoc (body_tokens b) (weak ++ strong) (states_tokens qs) ∙ ap (λ z. body_tokens b ++ z) (append_assoc weak strong (states_tokens qs)))

  abbrev ArmsOk : Arms → Type 0
  ArmsOk arms = (k : ℕ) → nest_arms arms < suc k → Can (more_arms_phrase k) (arms_tokens arms) (AreArms arms)

  abbrev StatesOk : States → Type 0
  StatesOk qs = (k : ℕ) → nest_states qs < suc k → Can (more_states_phrase k) (states_tokens qs) (AreStates k qs)

  no-arms : ArmsOk no_arm
  no-arms k l = can_say (AreArms no_arm) (λ xs e. ap (λ z. bare_arms (arms_of z)) e) (can_no_more _ _ _ _ None)

  one-more-arm : (c : Cons) (b : Block) (s : Span) (arms : Arms) → BodyOk b → ArmsOk arms → ArmsOk (more_arms c b s arms)
  one-more-arm c b s arms p q k l =
      can_one_more _ _ _ _ (AreArms (more_arms c b s arms)) None refl (λ h. refl) (λ x xs h g. λ i. more_arms (h.0 i) (h.1 i) nowhere (g i))
      (arm-at k c b p (omega (arith, l))) (λ x h. q k (omega (arith, l)))

  no-states : StatesOk no_state
  no-states k l = can_say (AreStates k no_state) (λ xs e. ap (λ z. bare_states (states_of z)) e) (can_no_more _ _ _ _ None)

  one-more-state : (x : List ℕ) (b : Block) (until unless : List Trans) (s : Span) (qs : States) → BodyOk b → Each (GoodTransition d) until → Each (GoodTransition d) unless → StatesOk qs → StatesOk (more_states x b until unless s qs)
  one-more-state x b until unless s qs p g h q k l =
      can_words (state-tokens k x b until unless s qs)
      (can_one_more _ _ _ _ (AreStates k (more_states x b until unless s qs)) None refl (λ e. refl)
      (λ y ys e f. λ i. more_states (e.0 i) (e.1 i) (e.2 i) (e.3 i) nowhere (f i))
      (state-at k x b until unless p g h (omega (arith, l))) (λ y e. q k (omega (arith, l))))

  -- ---- equations with blocks

  switch-at : (s : Span) (e : Expr) (c : Cons) (b : Block) (t : Span) (arms : Arms) → GoodIn d Whole e → BodyOk b → ArmsOk arms → EqnOk (switch s e (more_arms c b t arms))
  switch-at s e c b t arms g p q zero l = absurd (omega (arith, l))
  switch-at s e c b t arms g p q (suc k) l =
      can_first Nest _ begins_control _ _ (nest-room k) refl (can_first Depth true (keyword key.Switch) _ _ refl refl
      (can_convert _ (IsEqn (switch s e (more_arms c b t arms))) (λ r h. λ i. switch nowhere (h.1.0 i) (more_arms (h.1.1.0.0 i) (h.1.1.0.1 i) nowhere (h.1.1.1 i)))
      (can_both (can_token (keyword key.Switch) (word key.Switch) refl) (can_both (reads Whole e g)
      (can_before (keyword key.End) (word key.End) refl (can_both (arm-at k c b p (omega (arith, l))) (q k (omega (arith, l)))))))))

  reset-at : (s : Span) (b : Block) (e : Expr) → InnerOk b → GoodIn d Whole e → EqnOk (reset s b e)
  reset-at s b e p g zero l = absurd (omega (arith, l))
  reset-at s b e p g (suc k) l =
      can_first Nest _ begins_control _ _ (nest-room k) refl (can_second Depth true _ _ _ (can_second Depth true _ _ _ (can_first Depth true (keyword key.Reset) _ _ refl refl
      (can_convert _ (IsEqn (reset s b e)) (λ r h. λ i. reset nowhere (h.1.0 i) (h.1.1 i))
      (can_both (can_token (keyword key.Reset) (word key.Reset) refl) (can_both (p (suc k) (here k) (omega (arith, l))) (can_behind (keyword key.Every) (word key.Every) refl (reads Whole e g))))))))

  automaton-at : (s : Span) (x : List ℕ) (b : Block) (until unless : List Trans) (t : Span) (qs : States) → BodyOk b → Each (GoodTransition d) until → Each (GoodTransition d) unless → StatesOk qs
      → EqnOk (automaton s (more_states x b until unless t qs))
  automaton-at s x b until unless t qs p g h q zero l = absurd (omega (arith, l))
  automaton-at s x b until unless t qs p g h q (suc k) l =
      can_first Nest _ begins_control _ _ (nest-room k) refl (can_second Depth true _ _ _ (can_second Depth true _ _ _ (can_second Depth true _ _ _
      (can_convert _ (IsEqn (automaton s (more_states x b until unless t qs)))
      (λ r e. λ i. automaton nowhere (more_states (e.1.0.0 i) (e.1.0.1 i) (e.1.0.2 i) (e.1.0.3 i) nowhere (e.1.1 i)))
      (can_both (can_token (keyword key.Automaton) (word key.Automaton) refl)
      (can_before (keyword key.End) (word key.End) refl
      (can_words (state-tokens k x b until unless t qs) (can_both (state-at k x b until unless p g h (omega (arith, l))) (q k (omega (arith, l)))))))))))

  -- ---- lists of equations

  equation-begins : (e : Eqn) → leads begins_equation (equation_tokens e) ≡ true
  equation-begins (define s xs e) = leads-append _ (left_tokens xs) _ (left-begin xs)
  equation-begins (switch s e arms) = refl
  equation-begins (reset s b e) = refl
  equation-begins (automaton s qs) = refl

  abbrev SomeEqns : ℕ → Eqns → Type 0
  SomeEqns n no_eqn = Unit {0}
  SomeEqns n (more_eqns e es) =
      Can (relation.separated (sign_of mark.Semicolon) begins_equation (grammar_of.equation relation X (Some (suc n)) (lower n))) (equations_tokens (more_eqns e es)) (AreEqns (more_eqns e es))

  next-eqn : (n : ℕ) (e : Eqn) (es : Eqns) → EqnOk e → SomeEqns n es → nest_eqn e < suc n → SomeEqns n (more_eqns e es)
  next-eqn n e no_eqn p q l = can_ended _ _ _ (AreEqns (more_eqns e no_eqn)) (sign mark.Semicolon) refl (λ x h. λ i. more_eqns (h i) no_eqn) (p n l)
  next-eqn n e (more_eqns f es) p q l =
      can_separated _ _ _ (AreEqns (more_eqns e (more_eqns f es))) (sign mark.Semicolon) refl (leads-append _ (equation_tokens f) _ (equation-begins f)) (λ x xs h g. λ i. more_eqns (h i) (g i)) (p n l) q

  eqns-at : (es : Eqns) → ((n : ℕ) → nest_eqns es < suc n → SomeEqns n es) → EqnsOk es
  eqns-at es p zero l = absurd (omega (arith, l))
  eqns-at no_eqn p (suc n) l = can_second Depth true _ _ _ (can_say (AreEqns no_eqn) (λ xs e. ap (λ z. bare_eqns (eqns_of z)) e) (can_give []))
  eqns-at (more_eqns e es) p (suc n) l = can_first Depth true begins_equation _ _ refl (leads-append _ (equation_tokens e) _ (equation-begins e)) (p n l)

  mutual
    some-eqns : (es : Eqns) → GoodEqns d es → (n : ℕ) → nest_eqns es < suc n → SomeEqns n es
    some-eqns no_eqn g n l = tt
    some-eqns (more_eqns e es) g n l = next-eqn n e es (eqn-ok e g.0) (some-eqns es g.1 n (omega (arith, l))) (omega (arith, l))

    eqn-ok : (e : Eqn) → GoodEqn d e → EqnOk e
    eqn-ok (define s xs e) g = define-at s xs e g
    eqn-ok (switch s e no_arm) g = absurd g.1
    eqn-ok (switch s e (more_arms c b t arms)) g = switch-at s e c b t arms g.0 (body-ok b g.2.0) (arms-ok arms g.2.1)
    eqn-ok (reset s b e) g = reset-at s b e (inner-ok b g.0) g.1
    eqn-ok (automaton s no_state) g = absurd g.0
    eqn-ok (automaton s (more_states x b until unless t qs)) g = automaton-at s x b until unless t qs (body-ok b g.1.0) g.1.1 g.1.2 (states-ok qs g.1.3)

    body-ok : (b : Block) → GoodBlock d b → BodyOk b
    body-ok (block ds es) g = body-at ds es g.0 (eqns-at es (some-eqns es g.1))

    inner-ok : (b : Block) → GoodBlock d b → InnerOk b
    inner-ok (block ds es) g = inner-at ds es g.0 (eqns-at es (some-eqns es g.1))

    arms-ok : (arms : Arms) → GoodArms d arms → ArmsOk arms
    arms-ok no_arm g = no-arms
    arms-ok (more_arms c b s arms) g = one-more-arm c b s arms (body-ok b g.0) (arms-ok arms g.1)

    states-ok : (qs : States) → GoodStates d qs → StatesOk qs
    states-ok no_state g = no-states
    states-ok (more_states x b until unless s qs) g = one-more-state x b until unless s qs (body-ok b g.0) g.1 g.2 (states-ok qs g.3)

  pub equations-read : (es : Eqns) (n : ℕ) → GoodEqns d es → nest_eqns es < n → Can (lower n) (equations_tokens es) (AreEqns es)
  equations-read es n g l = eqns-at es (some-eqns es g) n l
