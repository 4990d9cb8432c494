-- Equations and blocks, round by round.
use Rattle.std.proofs.Common.{◌≡◌, ℕ, suc, zero, ◌-◌, ◌<◌, ◌≤◌, Bool, true, false, List, [], ◌∷◌, ◌++◌, length, map, Option, None, Some, if◌then◌else◌, nat_le, refl, sym, ap, subst, ◌∙◌, arith}
use Rattle.std.proofs.lemmas.List.{map-append}
use Rattle.std.proofs.lemmas.Bool.{le-leb}
use Rattle.hp_base.specs.declared.limit.What.TheVariants.{Depth, Nest}
use Rattle.hp_base.specs.declared.span.Span.{Span}
use Rattle.hp_lexer.specs.declared.token.Keyword.{Keyword}
use Rattle.hp_lexer.specs.declared.token.Keyword.TheVariants as word
use Rattle.hp_lexer.specs.declared.token.Sign.TheVariants as sign
use Rattle.hp_tree.specs.declared.decl.Cons.{Cons}
use Rattle.hp_tree.specs.declared.decl.Cons.TheVariants.{True, False}
use Rattle.hp_tree.specs.declared.block.Eqn.{Eqn as FoundEqn}
use Rattle.hp_tree.specs.declared.block.Arm.{Arm as FoundArm}
use Rattle.hp_tree.specs.declared.block.State.{State as FoundState}
use Rattle.hp_tree.specs.BlockView.{eqn_seen, arm_seen, state_seen}
use Rattle.hp_tree.specs.Blocks.{Decl, Block, Eqn, Arm, State, switch, reset, automaton, arms_of, states_of}
use Rattle.hp_parser.specs.declared.fault.Fault.{Fault}
use Rattle.hp_parser.specs.declared.fault.Fault.TheVariants.{Limit}
use Rattle.hp_parser.specs.declared.mode.Mode.TheVariants.{Whole}
use Rattle.hp_parser.specs.Lexemes.{Lexeme, Kinds, is_ahead}
use Rattle.hp_parser.specs.Limits.{has_two}
use Rattle.hp_parser.specs.Nesting.{expression_read, nested, equation_read, control_read, switched_read, arm_read, arms_read, branched_read, arm_behind_read, restarted_read, moded_read, state_read, states_read, body_read, inner_read}
use Rattle.hp_parser.specs.Notation.{Measured}
use Rattle.hp_parser.specs.Outcomes.{Outcome, done, refused, ◌>>=◌}
use Rattle.hp_parser.specs.Programs.{blocks}
use Rattle.hp_parser.specs.BlockGrammar.{locals, variables, all_transitions, Transitions, definition, block_of, body, inner, arm, arm_behind, switched, branched, restarted, state, moded, control, equation, equations}
use Rattle.hp_parser.specs.Grammar.{behind, before, either, many, optional}
use Rattle.hp_parser.specs.Tokens.{keyword, sign_of, capital, constructor, constructor_of, begins_equation, begins_control}
use Rattle.hp_parser.specs.Reading.{Reader, reading, read_token, read_convert, read_both, read_either, read_separated, Listed, with_next}
use Rattle.hp_parser.proofs.Rounds.{Falls, Strict, token_strict, strict_falls, convert_falls, convert_strict, done_falls, many_from, many_ends, many_steps, many_pushed, one_and_more}
use Rattle.hp_parser.proofs.FallLaws.{token_falls, both_falls, either_falls, behind_strict, behind_falls, before_falls, optional_falls, many_falls, separated_falls, add_from, add_ends, add_closes, add_refused, add_more}
use Rattle.hp_parser.proofs.DeclarationRounds.{locals_falls}
use Rattle.hp_parser.proofs.TransitionRounds.{expression_falls, all_transitions_falls, definition_falls}

-- ---- what falls

abbrev var_locals : Reader (List Decl)
var_locals = behind reading (keyword word.Var) (locals reading)

var_falls : Falls var_locals
var_falls = behind_falls (keyword word.Var) (locals reading) locals_falls

pub variables_falls : Falls (variables reading)
variables_falls = optional_falls (keyword word.Var) var_locals var_falls

abbrev whole : Reader Measured
whole = expression_read Whole

module _ (nest : Option ℕ) (lower : Reader (List Eqn)) (falls : Falls lower) where
  body_falls : Falls (body reading expression_read nest lower)
  body_falls = convert_falls (λ (r : Option (List Decl) × List Eqn). block_of r.0 r.1) (read_both (variables reading) (behind reading (keyword word.Do) lower))
      (both_falls (variables reading) (behind reading (keyword word.Do) lower) variables_falls (behind_falls (keyword word.Do) lower falls))

  abbrev inner_locals : Reader (Option (List Decl))
  inner_locals = optional reading (keyword word.Var) (before reading var_locals (keyword word.In))

  inner_falls : Falls (inner reading expression_read nest lower)
  inner_falls = convert_falls (λ (r : Option (List Decl) × List Eqn). block_of r.0 r.1) (read_both inner_locals lower)
      (both_falls inner_locals lower (optional_falls (keyword word.Var) (before reading var_locals (keyword word.In)) (before_falls var_locals (keyword word.In) var_falls)) falls)

  abbrev an_arm : Reader Arm
  an_arm = arm reading expression_read nest lower

  abbrev cons_body : Reader (Lexeme × Block)
  cons_body = read_both (read_token constructor) (body reading expression_read nest lower)

  arm_falls : Falls an_arm
  arm_falls = convert_falls (λ (r : Lexeme × Block). record { cons = constructor_of r.0; body = r.1; span = r.0.span }) (behind reading (sign_of sign.Bar) cons_body)
      (behind_falls (sign_of sign.Bar) cons_body (both_falls (read_token constructor) (body reading expression_read nest lower) (token_falls constructor) body_falls))

  abbrev some_arms : Reader (Arm × List Arm)
  some_arms = read_both an_arm (many reading (sign_of sign.Bar) an_arm)

  abbrev switch_rest : Reader (Measured × (Arm × List Arm))
  switch_rest = read_both whole (before reading some_arms (keyword word.End))

  switched_falls : Falls (switched reading expression_read nest lower)
  switched_falls = convert_falls (λ (r : Lexeme × (Measured × (Arm × List Arm))). switch r.0.span r.1.0.expr (arms_of (r.1.1.0 ∷ r.1.1.1))) (read_both (read_token (keyword word.Switch)) switch_rest)
      (both_falls (read_token (keyword word.Switch)) switch_rest (token_falls (keyword word.Switch))
      (both_falls whole (before reading some_arms (keyword word.End)) (expression_falls Whole)
      (before_falls some_arms (keyword word.End) (both_falls an_arm (many reading (sign_of sign.Bar) an_arm) arm_falls (many_falls (sign_of sign.Bar) an_arm arm_falls)))))

  abbrev one_arm : Cons → Keyword → Reader Arm
  one_arm cons w = arm_behind reading expression_read nest lower cons (keyword w)

  one_arm_falls : (cons : Cons) (w : Keyword) → Falls (one_arm cons w)
  one_arm_falls cons w = convert_falls (λ (r : Lexeme × Block). record { cons = cons; body = r.1; span = r.0.span }) (read_both (read_token (keyword w)) (inner reading expression_read nest lower))
      (both_falls (read_token (keyword w)) (inner reading expression_read nest lower) (token_falls (keyword w)) inner_falls)

  abbrev two_arms : Reader (Arm × Arm)
  two_arms = read_both (one_arm True word.Then) (one_arm False word.Else)

  abbrev branch_rest : Reader (Measured × (Arm × Arm))
  branch_rest = read_both whole (before reading two_arms (keyword word.End))

  branched_falls : Falls (branched reading expression_read nest lower)
  branched_falls = convert_falls (λ (r : Lexeme × (Measured × (Arm × Arm))). switch r.0.span r.1.0.expr (arms_of (r.1.1.0 ∷ r.1.1.1 ∷ []))) (read_both (read_token (keyword word.If)) branch_rest)
      (both_falls (read_token (keyword word.If)) branch_rest (token_falls (keyword word.If))
      (both_falls whole (before reading two_arms (keyword word.End)) (expression_falls Whole)
      (before_falls two_arms (keyword word.End) (both_falls (one_arm True word.Then) (one_arm False word.Else) (one_arm_falls True word.Then) (one_arm_falls False word.Else)))))

  abbrev reset_rest : Reader (Block × Measured)
  reset_rest = read_both (inner reading expression_read nest lower) (behind reading (keyword word.Every) whole)

  restarted_falls : Falls (restarted reading expression_read nest lower)
  restarted_falls = convert_falls (λ (r : Lexeme × (Block × Measured)). reset r.0.span r.1.0 r.1.1.expr) (read_both (read_token (keyword word.Reset)) reset_rest)
      (both_falls (read_token (keyword word.Reset)) reset_rest (token_falls (keyword word.Reset))
      (both_falls (inner reading expression_read nest lower) (behind reading (keyword word.Every) whole) inner_falls (behind_falls (keyword word.Every) whole (expression_falls Whole))))

  abbrev a_state : Reader State
  a_state = state reading expression_read nest lower

  abbrev state_end : Reader (Block × Transitions)
  state_end = read_both (body reading expression_read nest lower) (all_transitions reading expression_read)

  abbrev state_rest : Reader (Lexeme × (Block × Transitions))
  state_rest = read_both (read_token capital) state_end

  state_falls : Falls a_state
  state_falls = convert_falls (λ (r : Lexeme × (Block × Transitions)). record { name = r.0.bytes; body = r.1.0; until = r.1.1.until; unless = r.1.1.unless; span = r.0.span }) (behind reading (keyword word.State) state_rest)
      (behind_falls (keyword word.State) state_rest (both_falls (read_token capital) state_end (token_falls capital)
      (both_falls (body reading expression_read nest lower) (all_transitions reading expression_read) body_falls all_transitions_falls)))

  abbrev some_states : Reader (State × List State)
  some_states = read_both a_state (many reading (keyword word.State) a_state)

  moded_falls : Falls (moded reading expression_read nest lower)
  moded_falls = convert_falls (λ (r : Lexeme × (State × List State)). automaton r.0.span (states_of (r.1.0 ∷ r.1.1))) (read_both (read_token (keyword word.Automaton)) (before reading some_states (keyword word.End)))
      (both_falls (read_token (keyword word.Automaton)) (before reading some_states (keyword word.End)) (token_falls (keyword word.Automaton))
      (before_falls some_states (keyword word.End) (both_falls a_state (many reading (keyword word.State) a_state) state_falls (many_falls (keyword word.State) a_state state_falls))))

  abbrev a_control : Reader Eqn
  a_control = control reading expression_read nest lower

  control_falls : Falls a_control
  control_falls = either_falls Depth true (keyword word.Switch) (switched reading expression_read nest lower)
      (either reading (keyword word.If) (branched reading expression_read nest lower) (either reading (keyword word.Reset) (restarted reading expression_read nest lower) (moded reading expression_read nest lower)))
      switched_falls
      (either_falls Depth true (keyword word.If) (branched reading expression_read nest lower) (either reading (keyword word.Reset) (restarted reading expression_read nest lower) (moded reading expression_read nest lower))
      branched_falls
      (either_falls Depth true (keyword word.Reset) (restarted reading expression_read nest lower) (moded reading expression_read nest lower) restarted_falls moded_falls))

  pub an_equation_falls : Falls (equation reading expression_read nest lower)
  an_equation_falls = either_falls Nest (has_two nest) begins_control a_control (definition reading expression_read) control_falls definition_falls

  pub some_equations_fall : Falls (equations reading expression_read nest lower)
  some_equations_fall = either_falls Depth true begins_equation (read_separated (sign_of sign.Semicolon) begins_equation (equation reading expression_read nest lower)) (done [])
      (separated_falls (sign_of sign.Semicolon) begins_equation (equation reading expression_read nest lower) an_equation_falls) (done_falls [])

blocks_fall : (n : ℕ) → Falls (blocks reading Some expression_read n)
blocks_fall zero = done_falls []
blocks_fall (suc n) = some_equations_fall (Some (suc n)) (blocks reading Some expression_read n) (blocks_fall n)

pub nested_falls : (n : ℕ) → Falls (nested n)
unfolding nested
nested_falls n = blocks_fall n

pub equation_falls : (n : ℕ) → Falls (equation_read n)
equation_falls n = an_equation_falls (Some n) (nested (n - 1)) (nested_falls (n - 1))

-- ---- equations at a nest

nested_is : (n : ℕ) (ts : List Lexeme) → 1 ≤ n → nested n ts ≡ equations reading expression_read (Some n) (nested (n - 1)) ts
unfolding nested
nested_is zero ts h = absurd (omega (arith, h))
nested_is (suc n) ts h = let e : suc n - 1 ≡ n = omega arith in rw e refl

pub equations_none : (n : ℕ) (ts : List Lexeme) → 1 ≤ n → is_ahead begins_equation ts ≡ false → nested n ts ≡ done [] ts
equations_none n ts h k =
    nested_is n ts h
    ∙ ap (λ d. if d then read_separated (sign_of sign.Semicolon) begins_equation (equation_read n) ts else done [] ts) k

abbrev pub equations_from : ℕ → List Eqn → Reader (List Eqn)
equations_from n = add_from (sign_of sign.Semicolon) begins_equation (equation_read n) (equation_falls n) with_next (λ items e. items ++ (e ∷ [])) (λ items. refl) (λ items e. refl)

pub equations_begin : (n : ℕ) (ts : List Lexeme) → 1 ≤ n → is_ahead begins_equation ts ≡ true → nested n ts ≡ (equation_read n ts >>= λ r. equations_from n (r.0 ∷ []) r.1)
equations_begin n ts h k =
    nested_is n ts h
    ∙ ap (λ d. if d then read_separated (sign_of sign.Semicolon) begins_equation (equation_read n) ts else done [] ts) k

pub equations_end : (n : ℕ) (items : List Eqn) (ts : List Lexeme) → is_ahead (sign_of sign.Semicolon) ts ≡ false → equations_from n items ts ≡ done items ts
equations_end n = add_ends (sign_of sign.Semicolon) begins_equation (equation_read n) (equation_falls n) with_next (λ items e. items ++ (e ∷ [])) (λ items. refl) (λ items e. refl)

pub equations_close : (n : ℕ) (items : List Eqn) (ts : List Lexeme) (t : Lexeme) (middle : List Lexeme) → read_token (sign_of sign.Semicolon) ts ≡ done t middle → is_ahead begins_equation middle ≡ false → equations_from n items ts ≡ done items middle
equations_close n = add_closes (sign_of sign.Semicolon) begins_equation (equation_read n) (equation_falls n) with_next (λ items e. items ++ (e ∷ [])) (λ items. refl) (λ items e. refl)

pub equations_refused : (n : ℕ) (items : List Eqn) (ts : List Lexeme) (t : Lexeme) (middle : List Lexeme) (fault : Fault) (rest : List Lexeme) → read_token (sign_of sign.Semicolon) ts ≡ done t middle → is_ahead begins_equation middle ≡ true →
    equation_read n middle ≡ refused fault rest → equations_from n items ts ≡ refused fault rest
equations_refused n = add_refused (sign_of sign.Semicolon) begins_equation (equation_read n) (equation_falls n) with_next (λ items e. items ++ (e ∷ [])) (λ items. refl) (λ items e. refl)

pub equations_more : (n : ℕ) (xs : List FoundEqn) (x : FoundEqn) (ts : List Lexeme) (t : Lexeme) (middle rest : List Lexeme) → read_token (sign_of sign.Semicolon) ts ≡ done t middle → is_ahead begins_equation middle ≡ true →
    equation_read n middle ≡ done (eqn_seen x) rest → equations_from n (map eqn_seen (xs ++ (x ∷ []))) rest ≡ equations_from n (map eqn_seen xs) ts
equations_more n xs x ts t middle rest e h k =
    ap (λ z. equations_from n z rest) (map-append eqn_seen xs (x ∷ []))
    ∙ add_more (sign_of sign.Semicolon) begins_equation (equation_read n) (equation_falls n) with_next (λ items e. items ++ (e ∷ [])) (λ items. refl) (λ items e. refl) (map eqn_seen xs) ts t middle (eqn_seen x) rest e h k

pub equations_shrink : (n : ℕ) (ts : List Lexeme) (t : Lexeme) (middle : List Lexeme) (e : Eqn) (rest : List Lexeme) → read_token (sign_of sign.Semicolon) ts ≡ done t middle → equation_read n middle ≡ done e rest → length rest < length ts
equations_shrink n ts t middle e rest h k = omega (arith, token_strict (sign_of sign.Semicolon) ts t middle h, equation_falls n middle e rest k)

-- ---- one equation

pub equation_plain : (n : ℕ) (ts : List Lexeme) → is_ahead begins_control ts ≡ false → equation_read n ts ≡ definition reading expression_read ts
equation_plain n ts h = ap (λ d. if d then (if has_two (Some n) then control_read n ts else refused (Limit Nest) ts) else definition reading expression_read ts) h

has_room : (n : ℕ) → 2 ≤ n → has_two (Some n) ≡ true
has_room n h = le-leb 2 n h

no_room : (n : ℕ) → n < 2 → has_two (Some n) ≡ false
no_room zero h = refl
no_room (suc zero) h = refl
no_room (suc (suc n)) h = absurd (omega (arith, h))

pub equation_refused : (n : ℕ) (ts : List Lexeme) → n < 2 → is_ahead begins_control ts ≡ true → equation_read n ts ≡ refused (Limit Nest) ts
equation_refused n ts h k =
    ap (λ d. if d then (if has_two (Some n) then control_read n ts else refused (Limit Nest) ts) else definition reading expression_read ts) k
    ∙ ap (λ d. if d then control_read n ts else refused (Limit Nest) ts) (no_room n h)

pub equation_control : (n : ℕ) (ts : List Lexeme) → 2 ≤ n → is_ahead begins_control ts ≡ true → equation_read n ts ≡ control_read n ts
equation_control n ts h k =
    ap (λ d. if d then (if has_two (Some n) then control_read n ts else refused (Limit Nest) ts) else definition reading expression_read ts) k
    ∙ ap (λ d. if d then control_read n ts else refused (Limit Nest) ts) (has_room n h)

-- ---- arms and states

pub arm_strict : (n : ℕ) → Strict (arm_read n)
arm_strict n = convert_strict (λ (r : Lexeme × Block). record { cons = constructor_of r.0; body = r.1; span = r.0.span }) (behind reading (sign_of sign.Bar) (read_both (read_token constructor) (body_read n)))
    (behind_strict (sign_of sign.Bar) (read_both (read_token constructor) (body_read n))
    (both_falls (read_token constructor) (body_read n) (token_falls constructor) (body_falls (Some n) (nested (n - 1)) (nested_falls (n - 1)))))

abbrev pub arms_from : ℕ → List Arm → Reader (List Arm)
arms_from n = many_from (sign_of sign.Bar) (arm_read n)

pub arms_begin : (n : ℕ) (ts : List Lexeme) → arms_read n ts ≡ (arm_read n ts >>= λ r. arms_from n (r.0 ∷ []) r.1)
arms_begin n ts = one_and_more (sign_of sign.Bar) (arm_read n) (arm_strict n) (arm_read n) ts

pub arms_end : (n : ℕ) (items : List Arm) (ts : List Lexeme) → is_ahead (sign_of sign.Bar) ts ≡ false → arms_from n items ts ≡ done items ts
arms_end n = many_ends (sign_of sign.Bar) (arm_read n) (arm_strict n)

pub arms_refused : (n : ℕ) (items : List Arm) (ts : List Lexeme) (fault : Fault) (rest : List Lexeme) → is_ahead (sign_of sign.Bar) ts ≡ true → arm_read n ts ≡ refused fault rest → arms_from n items ts ≡ refused fault rest
arms_refused n items ts fault rest h e = many_steps (sign_of sign.Bar) (arm_read n) (arm_strict n) items ts h ∙ ap (λ o. o >>= λ r. arms_from n (items ++ (r.0 ∷ [])) r.1) e

pub arms_pushed : (n : ℕ) (xs : List FoundArm) (x : FoundArm) (ts rest : List Lexeme) → is_ahead (sign_of sign.Bar) ts ≡ true → arm_read n ts ≡ done (arm_seen x) rest → arms_from n (map arm_seen (xs ++ (x ∷ []))) rest ≡ arms_from n (map arm_seen xs) ts
arms_pushed n xs x ts rest h e = many_pushed (sign_of sign.Bar) (arm_read n) (arm_strict n) arm_seen xs x ts rest h e

pub state_strict : (n : ℕ) → Strict (state_read n)
state_strict n = convert_strict (λ (r : Lexeme × (Block × Transitions)). record { name = r.0.bytes; body = r.1.0; until = r.1.1.until; unless = r.1.1.unless; span = r.0.span })
    (behind reading (keyword word.State) (read_both (read_token capital) (read_both (body_read n) (all_transitions reading expression_read))))
    (behind_strict (keyword word.State) (read_both (read_token capital) (read_both (body_read n) (all_transitions reading expression_read)))
    (both_falls (read_token capital) (read_both (body_read n) (all_transitions reading expression_read)) (token_falls capital)
    (both_falls (body_read n) (all_transitions reading expression_read) (body_falls (Some n) (nested (n - 1)) (nested_falls (n - 1))) all_transitions_falls)))

abbrev pub states_from : ℕ → List State → Reader (List State)
states_from n = many_from (keyword word.State) (state_read n)

pub states_begin : (n : ℕ) (ts : List Lexeme) → states_read n ts ≡ (state_read n ts >>= λ r. states_from n (r.0 ∷ []) r.1)
states_begin n ts = one_and_more (keyword word.State) (state_read n) (state_strict n) (state_read n) ts

pub states_end : (n : ℕ) (items : List State) (ts : List Lexeme) → is_ahead (keyword word.State) ts ≡ false → states_from n items ts ≡ done items ts
states_end n = many_ends (keyword word.State) (state_read n) (state_strict n)

pub states_refused : (n : ℕ) (items : List State) (ts : List Lexeme) (fault : Fault) (rest : List Lexeme) → is_ahead (keyword word.State) ts ≡ true → state_read n ts ≡ refused fault rest → states_from n items ts ≡ refused fault rest
states_refused n items ts fault rest h e = many_steps (keyword word.State) (state_read n) (state_strict n) items ts h ∙ ap (λ o. o >>= λ r. states_from n (items ++ (r.0 ∷ [])) r.1) e

pub states_pushed : (n : ℕ) (xs : List FoundState) (x : FoundState) (ts rest : List Lexeme) → is_ahead (keyword word.State) ts ≡ true → state_read n ts ≡ done (state_seen x) rest → states_from n (map state_seen (xs ++ (x ∷ []))) rest ≡ states_from n (map state_seen xs) ts
states_pushed n xs x ts rest h e = many_pushed (keyword word.State) (state_read n) (state_strict n) state_seen xs x ts rest h e

-- ---- a `switch` and an automaton, part by part

abbrev arm_list : Arm × List Arm → List Arm
arm_list p = p.0 ∷ p.1

abbrev with_end : {A : Type 0} → A → Outcome Lexeme → Outcome (A × Lexeme)
with_end a o = o >>= λ b. done (a, b.0) b.1

abbrev without_end : {A : Type 0} → Outcome (A × Lexeme) → Outcome A
without_end o = o >>= λ r. done r.0.0 r.1

abbrev with_cond : Measured → Outcome (Arm × List Arm) → Outcome (Measured × (Arm × List Arm))
with_cond e o = o >>= λ b. done (e, b.0) b.1

abbrev with_word : {A : Type 0} → Lexeme → Outcome A → Outcome (Lexeme × A)
with_word k o = o >>= λ b. done (k, b.0) b.1

abbrev to_switch : Outcome (Lexeme × (Measured × (Arm × List Arm))) → Outcome Eqn
to_switch o = o >>= λ r. done (switch r.0.0.span r.0.1.0.expr (arms_of (arm_list r.0.1.1))) r.1

abbrev end_read : Reader Lexeme
end_read = read_token (keyword word.End)

switch_ended : (k : Lexeme) (e : Measured) (p : Arm × List Arm) (o : Outcome Lexeme) →
    to_switch (with_word k (with_cond e (without_end (with_end p o)))) ≡ (o >>= λ z. done (switch k.span e.expr (arms_of (arm_list p))) z.1)
switch_ended k e p (done z rest) = refl
switch_ended k e p (refused fault rest) = refl

switch_armed : (k : Lexeme) (e : Measured) (o : Outcome (Arm × List Arm)) →
    to_switch (with_word k (with_cond e (without_end (o >>= λ r. with_end r.0 (end_read r.1)))))
    ≡ ((o >>= λ r. done (arm_list r.0) r.1) >>= λ a. end_read a.1 >>= λ z. done (switch k.span e.expr (arms_of a.0)) z.1)
switch_armed k e (done p rest) = switch_ended k e p (end_read rest)
switch_armed k e (refused fault rest) = refl

module _ (n : ℕ) where
  abbrev the_arms : Reader (Arm × List Arm)
  the_arms = read_both (arm_read n) (many reading (sign_of sign.Bar) (arm_read n))

  switch_over : (k : Lexeme) (o : Outcome Measured) →
      to_switch (with_word k (o >>= λ e. with_cond e.0 (without_end (the_arms e.1 >>= λ r. with_end r.0 (end_read r.1)))))
      ≡ (o >>= λ e. arms_read n e.1 >>= λ a. end_read a.1 >>= λ z. done (switch k.span e.0.expr (arms_of a.0)) z.1)
  switch_over k (done e rest) = switch_armed k e (the_arms rest)
  switch_over k (refused fault rest) = refl

  switch_begun : (o : Outcome Lexeme) →
      to_switch (o >>= λ k. with_word k.0 (whole k.1 >>= λ e. with_cond e.0 (without_end (the_arms e.1 >>= λ r. with_end r.0 (end_read r.1)))))
      ≡ (o >>= λ k. whole k.1 >>= λ e. arms_read n e.1 >>= λ a. end_read a.1 >>= λ z. done (switch k.0.span e.0.expr (arms_of a.0)) z.1)
  switch_begun (done k rest) = switch_over k (whole rest)
  switch_begun (refused fault rest) = refl

  pub switched_parts : (ts : List Lexeme) → switched_read n ts ≡
      (read_token (keyword word.Switch) ts >>= λ k. expression_read Whole k.1 >>= λ e. arms_read n e.1 >>= λ a. read_token (keyword word.End) a.1 >>= λ z. done (switch k.0.span e.0.expr (arms_of a.0)) z.1)
  switched_parts ts = switch_begun (read_token (keyword word.Switch) ts)

abbrev state_list : State × List State → List State
state_list p = p.0 ∷ p.1

abbrev to_automaton : Outcome (Lexeme × (State × List State)) → Outcome Eqn
to_automaton o = o >>= λ r. done (automaton r.0.0.span (states_of (state_list r.0.1))) r.1

moded_ended : (k : Lexeme) (p : State × List State) (o : Outcome Lexeme) → to_automaton (with_word k (without_end (with_end p o))) ≡ (o >>= λ z. done (automaton k.span (states_of (state_list p))) z.1)
moded_ended k p (done z rest) = refl
moded_ended k p (refused fault rest) = refl

moded_stated : (k : Lexeme) (o : Outcome (State × List State)) →
    to_automaton (with_word k (without_end (o >>= λ r. with_end r.0 (end_read r.1))))
    ≡ ((o >>= λ r. done (state_list r.0) r.1) >>= λ a. end_read a.1 >>= λ z. done (automaton k.span (states_of a.0)) z.1)
moded_stated k (done p rest) = moded_ended k p (end_read rest)
moded_stated k (refused fault rest) = refl

module _ (n : ℕ) where
  abbrev the_states : Reader (State × List State)
  the_states = read_both (state_read n) (many reading (keyword word.State) (state_read n))

  moded_begun : (o : Outcome Lexeme) →
      to_automaton (o >>= λ k. with_word k.0 (without_end (the_states k.1 >>= λ r. with_end r.0 (end_read r.1))))
      ≡ (o >>= λ k. states_read n k.1 >>= λ a. end_read a.1 >>= λ z. done (automaton k.0.span (states_of a.0)) z.1)
  moded_begun (done k rest) = moded_stated k (the_states rest)
  moded_begun (refused fault rest) = refl

  pub moded_parts : (ts : List Lexeme) → moded_read n ts ≡
      (read_token (keyword word.Automaton) ts >>= λ k. states_read n k.1 >>= λ a. read_token (keyword word.End) a.1 >>= λ z. done (automaton k.0.span (states_of a.0)) z.1)
  moded_parts ts = moded_begun (read_token (keyword word.Automaton) ts)
