-- What is known of equations and blocks that are read.
use Rattle.std.proofs.Common.{◌≡◌, ℕ, zero, suc, ◌-◌, ◌≤◌, ◌==◌, Bool, true, false, if◌then◌else◌, List, [], ◌∷◌, map, length, Option, None, Some, sym, subst, arith}
use Rattle.std.proofs.lemmas.Bool.Decides.{nat_tests}
use Rattle.hp_base.specs.declared.limit.What.TheVariants.{Depth, Nest}
use Rattle.hp_base.specs.declared.span.Span.{Span}
use Rattle.hp_lexer.specs.Written.{IsWritable}
use Rattle.hp_lexer.specs.declared.token.Keyword.{Keyword}
use Rattle.hp_lexer.specs.declared.token.Keyword.TheVariants as key
use Rattle.hp_lexer.specs.declared.token.Sign.TheVariants as mark
use Rattle.hp_tree.specs.declared.block.Trans.{Trans}
use Rattle.hp_tree.specs.declared.decl.Cons.{Cons}
use Rattle.hp_tree.specs.declared.decl.Cons.TheVariants.{True, False}
use Rattle.hp_tree.specs.Blocks.{Decl, Block, Eqn, Arm, State, block, switch, eqns_of, arms_of, states_of}
use Rattle.hp_parser.specs.Lexemes.{Lexeme, Kinds}
use Rattle.hp_parser.specs.Limits.{has_two}
use Rattle.hp_parser.specs.Notation.{Measured}
use Rattle.hp_parser.specs.Relation.{Phrase, relation}
use Rattle.hp_parser.specs.Grammar as grammar
use Rattle.hp_parser.specs.BlockGrammar as grammar_of
use Rattle.hp_parser.specs.BlockGrammar.{Left, Transitions, all_or_none, block_of, placed}
use Rattle.hp_parser.specs.Programs.{blocks}
use Rattle.hp_parser.specs.Tokens.{keyword, sign_of, small as is_small_name, capital as is_capital_name, constructor as is_constructor, begins_equation, begins_control}
use Rattle.hp_parser.specs.declared.mode.Mode.{Mode}
use Rattle.hp_parser.specs.declared.mode.Mode.TheVariants.{Whole, Plain}
use Rattle.hp_print.specs.Tokens.{word, sign, small, capital, cons_token, joined_by}
use Rattle.hp_print.specs.ExpressionTokens.{in_parentheses, expression_tokens}
use Rattle.hp_print.specs.BlockTokens.{variables_tokens, inner_variables_tokens, left_name, left_tokens, transition_tokens, transitions_tokens, body_tokens, inner_tokens, equations_tokens, equation_tokens, arms_tokens, states_tokens}
use Rattle.hp_print.proofs.Every.{Every, every_token, every_say, every_give, every_either, every_when, every_many, every_convert, every_both, every_separated}
use Rattle.hp_print.proofs.FoundExpressions.{IsName}
use Rattle.hp_print.proofs.FoundDeclarations.{each-say, joined-writable, enclosed-writable, every_behind, every_before, Words, FineVariables, variables-found, inner-variables-found, variables-writable, inner-variables-writable}
use Rattle.hp_print.proofs.Readable.{GoodIn, Each, GoodTransition, GoodBlock, GoodEqns, GoodEqn, GoodArms, GoodStates, nest_block, nest_eqns, nest_eqn, nest_arms, nest_states}
use Rattle.hp_print.proofs.Writable.{Writable, writable-append, word-writable, sign-writable, small-writable, capital-writable, cons-writable}

-- ---- names on the left

abbrev IsFineName : List ℕ × Span → Type 0
IsFineName x = IsWritable (small x.0)

placed-fine : (ts : List Lexeme) → Each IsName ts → Each IsFineName (map placed ts)
placed-fine [] h = tt
placed-fine (t ∷ ts) h = (small-writable t h.0, placed-fine ts h.1)

abbrev FineLeft : Left → Type 0
FineLeft l = Each IsFineName l.names

left-writable : (xs : List (List ℕ × Span)) → Each IsFineName xs → Writable (left_tokens xs)
left-writable xs h = by (length xs == 1)
  where
    listed : Writable (joined_by (sign mark.Comma) (map left_name xs))
    listed = joined-writable (sign mark.Comma) left_name (sign-writable mark.Comma) xs (each-say (λ x k. (k, tt)) xs h)

    by : (b : Bool) → Writable (if b then joined_by (sign mark.Comma) (map left_name xs) else in_parentheses (joined_by (sign mark.Comma) (map left_name xs)))
    by true = listed
    by false = enclosed-writable _ listed

left-found : (X : Mode → Phrase Measured) → Every (grammar_of.left relation X) FineLeft
left-found X =
    every_either Depth true is_small_name
    (every_convert _ FineLeft (λ t h. (small-writable t h, tt)) (every_token is_small_name))
    (every_convert _ FineLeft (λ r h. h.1)
    (every_both (every_token (sign_of mark.Open)) (every_before (sign_of mark.Close)
    (every_either Depth true is_small_name
    (every_convert _ (Each IsFineName) (λ r h. (small-writable r.0 h.0, placed-fine r.1 h.1))
    (every_both (every_token is_small_name) (every_many _ _ _ None (λ count. every_behind (sign_of mark.Comma) (every_token is_small_name)))))
    (every_say (Each IsFineName) (λ xs e. subst (Each IsFineName) (sym e) tt) (every_give []))))))

module _ (d : ℕ) (X : Mode → Phrase Measured) (found : (mode : Mode) → Every (X mode) (λ m. GoodIn d mode m.expr × Writable (expression_tokens m.expr))) where
  -- ---- transitions

  abbrev FineTransition : Trans → Type 0
  FineTransition t = GoodTransition d t × Writable (transition_tokens t)

  restart-writable : (b : Bool) → IsWritable (word (if b then key.Then else key.Continue))
  restart-writable true = word-writable key.Then
  restart-writable false = word-writable key.Continue

  transition-found : Every (grammar_of.transition relation X) FineTransition
  transition-found =
      every_convert _ FineTransition
      (λ r h. (h.0.0, writable-append (expression_tokens r.0.expr) _ h.0.1 (restart-writable (keyword key.Then r.1.0.kind), (capital-writable r.1.1 h.1.1, tt))))
      (every_both (found Plain) (every_both (every_token _) (every_token is_capital_name)))

  transitions-found : Every (grammar_of.transitions relation X) (Each FineTransition)
  transitions-found =
      every_convert _ (Each FineTransition) (λ r h. (h.0, h.1))
      (every_both (every_either Depth true (sign_of mark.Bar) (every_behind (sign_of mark.Bar) transition-found) transition-found)
      (every_many _ _ _ None (λ count. every_behind (sign_of mark.Bar) transition-found)))

  transitions-writable : (k : Keyword) (ts : List Trans) → Each FineTransition ts → Writable (transitions_tokens k ts)
  transitions-writable k [] h = tt
  transitions-writable k (t ∷ ts) h =
      (word-writable k, joined-writable (sign mark.Bar) transition_tokens (sign-writable mark.Bar) (t ∷ ts) (each-say (λ x f. f.1) (t ∷ ts) h))

  abbrev FineOptional : Option (List Trans) → Type 0
  FineOptional o = Each FineTransition (all_or_none o)

  optional-found : (k : Keyword) → Every (grammar.optional relation (keyword k) (grammar.behind relation (keyword k) (grammar_of.transitions relation X))) FineOptional
  optional-found k =
      every_either Depth true (keyword k) (every_convert Some FineOptional (λ ts h. h) (every_behind (keyword k) transitions-found))
      (every_say FineOptional (λ o e. subst FineOptional (sym e) tt) (every_give None))

  abbrev FineTransitions : Transitions → Type 0
  FineTransitions r = Each FineTransition r.until × Each FineTransition r.unless

  all-transitions-found : Every (grammar_of.all_transitions relation X) FineTransitions
  all-transitions-found =
      every_either Depth true (keyword key.Until)
      (every_convert _ FineTransitions (λ r h. (h.0, h.1)) (every_both (every_behind (keyword key.Until) transitions-found) (optional-found key.Unless)))
      (every_either Depth true (keyword key.Unless)
      (every_convert _ FineTransitions (λ r h. (h.1, h.0)) (every_both (every_behind (keyword key.Unless) transitions-found) (optional-found key.Until)))
      (every_say FineTransitions (λ r e. subst FineTransitions (sym e) (tt, tt)) (every_give _)))

  -- ---- blocks, where n levels are left

  -- the tokens of a block, wherever it stands
  abbrev pub BlockWords : Block → Type 0
  BlockWords (block ds es) = Each Words ds × Writable (equations_tokens es)

  pub record FineBlock (n : ℕ) (b : Block) : Type 0 where
    pub good : GoodBlock d b
    pub low : nest_block b ≤ n - 1
    pub words : BlockWords b

  pub record FineEqns (n : ℕ) (xs : List Eqn) : Type 0 where
    pub good : GoodEqns d (eqns_of xs)
    pub low : nest_eqns (eqns_of xs) ≤ n - 1
    pub words : Writable (equations_tokens (eqns_of xs))

  record FineEqn (n : ℕ) (e : Eqn) : Type 0 where
    good : GoodEqn d e
    low : nest_eqn e ≤ n - 1
    words : Writable (equation_tokens e)

  pub block-fine : (n : ℕ) (locals : Option (List Decl)) (xs : List Eqn) → FineVariables locals → FineEqns n xs → FineBlock n (block_of locals xs)
  block-fine n locals xs h f = record {
    good = (each-say (λ x k. k.0) (all_or_none locals) h, f.good);
    low = f.low;
    words = (each-say (λ x k. k.1) (all_or_none locals) h, f.words);
  }

  body-writable : (b : Block) → BlockWords b → Writable (body_tokens b)
  body-writable (block ds es) h = writable-append (variables_tokens ds) _ (variables-writable ds h.0) (word-writable key.Do, h.1)

  inner-writable : (b : Block) → BlockWords b → Writable (inner_tokens b)
  inner-writable (block ds es) h = writable-append (inner_variables_tokens ds) _ (inner-variables-writable ds h.0) h.1

  eqns-fine : (n : ℕ) (xs : List Eqn) → Each (FineEqn n) xs → FineEqns n xs
  eqns-fine n [] h = record { good = tt; low = omega arith; words = tt }
  eqns-fine n (e ∷ xs) h =
      let f = h.0 in
      let r = eqns-fine n xs h.1 in
      record { good = (f.good, r.good); low = omega (arith, f.low, r.low); words = writable-append (equation_tokens e) _ f.words (sign-writable mark.Semicolon, r.words) }

  -- ---- equations, where there is one level more than in their blocks

  module _ (n : ℕ) (lower : Phrase (List Eqn)) (below : Every lower (FineEqns n)) where
    abbrev nest : Option ℕ
    nest = Some (suc n)

    body-found : Every (grammar_of.body relation X nest lower) (FineBlock n)
    body-found = every_convert _ (FineBlock n) (λ r h. block-fine n r.0 r.1 h.0 h.1) (every_both variables-found (every_behind (keyword key.Do) below))

    inner-found : Every (grammar_of.inner relation X nest lower) (FineBlock n)
    inner-found = every_convert _ (FineBlock n) (λ r h. block-fine n r.0 r.1 h.0 h.1) (every_both inner-variables-found below)

    definition-found : Every (grammar_of.definition relation X) (FineEqn (suc n))
    definition-found =
        every_convert _ (FineEqn (suc n))
        (λ r h. record { good = h.1.0; low = omega arith; words = writable-append (left_tokens r.0.names) _ (left-writable r.0.names h.0) (sign-writable mark.Equal, h.1.1) })
        (every_both (left-found X) (every_behind (sign_of mark.Equal) (found Whole)))

    abbrev FineArm : Arm → Type 0
    FineArm a = IsWritable (cons_token a.cons) × FineBlock n a.body

    record FineArms (xs : List Arm) : Type 0 where
      good : GoodArms d (arms_of xs)
      low : nest_arms (arms_of xs) ≤ n - 1
      words : Writable (arms_tokens (arms_of xs))

    arms-fine : (xs : List Arm) → Each FineArm xs → FineArms xs
    arms-fine [] h = record { good = tt; low = omega arith; words = tt }
    arms-fine (a ∷ xs) h =
        let f = h.0.1 in
        let r = arms-fine xs h.1 in
        record {
          good = (f.good, r.good);
          low = omega (arith, f.low, r.low);
          words = (sign-writable mark.Bar, (h.0.0, writable-append (body_tokens a.body) _ (body-writable a.body f.words) r.words));
        }

    arm-found : Every (grammar_of.arm relation X nest lower) FineArm
    arm-found = every_convert _ FineArm (λ r h. (cons-writable r.0 h.0, h.1)) (every_behind (sign_of mark.Bar) (every_both (every_token is_constructor) body-found))

    -- a `switch` of some arms
    switch-fine : (s : Span) (m : Measured) (a : Arm) (xs : List Arm) → 1 ≤ n → GoodIn d Whole m.expr × Writable (expression_tokens m.expr) → Each FineArm (a ∷ xs) → FineEqn (suc n) (switch s m.expr (arms_of (a ∷ xs)))
    switch-fine s m a xs l h k =
        let f = arms-fine (a ∷ xs) k in
        record {
          good = (h.0, tt, f.good);
          low = omega (arith, l, f.low);
          words = (word-writable key.Switch, writable-append (expression_tokens m.expr) _ h.1 (writable-append (arms_tokens (arms_of (a ∷ xs))) _ f.words (word-writable key.End, tt)));
        }

    switched-found : 1 ≤ n → Every (grammar_of.switched relation X nest lower) (FineEqn (suc n))
    switched-found l =
        every_convert _ (FineEqn (suc n)) (λ r h. switch-fine r.0.span r.1.0 r.1.1.0 r.1.1.1 l h.1.0 h.1.1)
        (every_both (every_token (keyword key.Switch)) (every_both (found Whole)
        (every_before (keyword key.End) (every_both arm-found (every_many _ _ _ None (λ count. arm-found))))))

    arm-behind-found : (c : Cons) (kinds : Kinds) → IsWritable (cons_token c) → Every (grammar_of.arm_behind relation X nest lower c kinds) FineArm
    arm-behind-found c kinds w = every_convert _ FineArm (λ r h. (w, h.1)) (every_both (every_token kinds) inner-found)

    branched-found : 1 ≤ n → Every (grammar_of.branched relation X nest lower) (FineEqn (suc n))
    branched-found l =
        every_convert _ (FineEqn (suc n)) (λ r h. switch-fine r.0.span r.1.0 r.1.1.0 (r.1.1.1 ∷ []) l h.1.0 (h.1.1.0, (h.1.1.1, tt)))
        (every_both (every_token (keyword key.If)) (every_both (found Whole)
        (every_before (keyword key.End) (every_both (arm-behind-found True (keyword key.Then) (word-writable key.True)) (arm-behind-found False (keyword key.Else) (word-writable key.False))))))

    restarted-found : 1 ≤ n → Every (grammar_of.restarted relation X nest lower) (FineEqn (suc n))
    restarted-found l =
        every_convert _ (FineEqn (suc n))
        (λ r h.
        let f = h.1.0 in
        record {
          good = (f.good, h.1.1.0);
          low = omega (arith, l, f.low);
          words = (word-writable key.Reset, writable-append (inner_tokens r.1.0) _ (inner-writable r.1.0 f.words) (word-writable key.Every, h.1.1.1));
        })
        (every_both (every_token (keyword key.Reset)) (every_both inner-found (every_behind (keyword key.Every) (found Whole))))

    abbrev FineState : State → Type 0
    FineState q = IsWritable (capital q.name) × FineBlock n q.body × Each FineTransition q.until × Each FineTransition q.unless

    record FineStates (xs : List State) : Type 0 where
      good : GoodStates d (states_of xs)
      low : nest_states (states_of xs) ≤ n - 1
      words : Writable (states_tokens (states_of xs))

    states-fine : (xs : List State) → Each FineState xs → FineStates xs
    states-fine [] h = record { good = tt; low = omega arith; words = tt }
    states-fine (q ∷ xs) h =
        let f = h.0.1 in
        let r = states-fine xs h.1 in
        record {
          good = (f.good, each-say (λ t k. k.0) q.until h.0.2, each-say (λ t k. k.0) q.unless h.0.3, r.good);
          low = omega (arith, f.low, r.low);
          words = (
            word-writable key.State,
            (
              h.0.0,
              writable-append (body_tokens q.body) _ (body-writable q.body f.words)
                  (writable-append (transitions_tokens key.Until q.until) _ (transitions-writable key.Until q.until h.0.2)
                  (writable-append (transitions_tokens key.Unless q.unless) _ (transitions-writable key.Unless q.unless h.0.3) r.words)),
            ),
          );
        }

    state-found : Every (grammar_of.state relation X nest lower) FineState
    state-found =
        every_convert _ FineState (λ r h. (capital-writable r.0 h.0, h.1.0, h.1.1.0, h.1.1.1))
        (every_behind (keyword key.State) (every_both (every_token is_capital_name) (every_both body-found all-transitions-found)))

    moded-found : 1 ≤ n → Every (grammar_of.moded relation X nest lower) (FineEqn (suc n))
    moded-found l =
        every_convert _ (FineEqn (suc n))
        (λ r h.
        let f = states-fine (r.1.0 ∷ r.1.1) (h.1.0, h.1.1) in
        record {
          good = (tt, f.good);
          low = omega (arith, l, f.low);
          words = (word-writable key.Automaton, writable-append (states_tokens (states_of (r.1.0 ∷ r.1.1))) _ f.words (word-writable key.End, tt));
        })
        (every_both (every_token (keyword key.Automaton)) (every_before (keyword key.End) (every_both state-found (every_many _ _ _ None (λ count. state-found)))))

    control-found : 1 ≤ n → Every (grammar_of.control relation X nest lower) (FineEqn (suc n))
    control-found l =
        every_either Depth true (keyword key.Switch) (switched-found l) (every_either Depth true (keyword key.If) (branched-found l) (every_either Depth true (keyword key.Reset) (restarted-found l) (moded-found l)))

    two-is : has_two (Some (suc n)) ≡ true → 1 ≤ n
    two-is e = grind (arith, nat_tests)

    equation-found : Every (grammar_of.equation relation X nest lower) (FineEqn (suc n))
    equation-found = every_when (1 ≤ n) Nest _ begins_control (λ us r a. two-is r) control-found definition-found

    equations-found : Every (grammar_of.equations relation X nest lower) (FineEqns (suc n))
    equations-found =
        every_either Depth true begins_equation (every_say (FineEqns (suc n)) (eqns-fine (suc n)) (every_separated (sign_of mark.Semicolon) begins_equation equation-found))
        (every_say (FineEqns (suc n)) (λ xs e. subst (FineEqns (suc n)) (sym e) (record { good = tt; low = omega arith; words = tt })) (every_give []))

  pub blocks-found : (n : ℕ) → Every (blocks relation Some X n) (FineEqns n)
  blocks-found zero = every_say (FineEqns zero) (λ xs e. subst (FineEqns zero) (sym e) (record { good = tt; low = omega arith; words = tt })) (every_give [])
  blocks-found (suc n) = equations-found n (blocks relation Some X n) (blocks-found n)
