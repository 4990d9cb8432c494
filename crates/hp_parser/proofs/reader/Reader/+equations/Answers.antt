use Rattle.std.proofs.Common.{◌≡◌, true, List, [], ◌∷◌, ◌++◌, map, sym, ap, ◌∙◌}
use Rattle.hp_lexer.specs.declared.token.Keyword.TheVariants.{State}
use Rattle.hp_lexer.specs.declared.token.Sign.TheVariants.{Bar}
use Rattle.hp_tree.specs.BlockView.{eqn_seen, arm_seen, state_seen}
use Rattle.hp_parser.specs.Lexemes.{is_ahead}
use Rattle.hp_parser.specs.Outcomes.{◌>>=◌}
use Rattle.hp_parser.specs.Seen.{word_seen}
use Rattle.hp_parser.specs.Tokens.{begins_equation, keyword, sign_of}
use Rattle.hp_parser.proofs.EquationRounds.{equations_from, equations_more, equations_shrink, arm_strict, arms_from, arms_begin, arms_pushed, state_strict, states_from, states_begin, states_pushed}
use Rattle.hp_parser.proofs.reader.Reader.+equations.Goals as goal

pub arms-loop-arms-init : goal.arms-loop-arms-init
arms-loop-arms-init t c =
    let none : c.new-arms.result.items ≡ [] = c.new-arms.ensures.items in
    let one : c.push.new.self.items ≡ c.new-arms.result.items ++ (c.in_ok-arm.field-0 ∷ []) = c.in_ok-push.ensures.items in
    ap (λ z. arms_from c.args.nest (map arm_seen z) c.arm.new.self) (one ∙ ap (λ z. z ++ (c.in_ok-arm.field-0 ∷ [])) none)
    ∙ sym (arms_begin c.args.nest c.args.self.now ∙ ap (λ o. o >>= λ r. arms_from c.args.nest (r.0 ∷ []) r.1) c.in_ok-arm.ensures)

pub arms-loop-arms-smaller : goal.arms-loop-arms-smaller
arms-loop-arms-smaller t c = arm_strict c.args.nest c.loop-arms.self (arm_seen c.in_ok-arm-2.field-0) c.arm-in-loop-arms.new.self c.in_ok-arm-2.ensures

pub arms-loop-arms-preserved : goal.arms-loop-arms-preserved
arms-loop-arms-preserved t c =
    let ahead : is_ahead (sign_of Bar) c.loop-arms.self ≡ true = cc in
    let more : c.push-in-loop-arms.new.self.items ≡ c.loop-arms.arms.items ++ (c.in_ok-arm-2.field-0 ∷ []) = c.in_ok-push-2.ensures.items in
    ap (λ z. arms_from c.args.nest (map arm_seen z) c.arm-in-loop-arms.new.self) more
    ∙ arms_pushed c.args.nest c.loop-arms.arms.items c.in_ok-arm-2.field-0 c.loop-arms.self c.arm-in-loop-arms.new.self ahead c.in_ok-arm-2.ensures
    ∙ c.loop-arms.invariant

pub equations-loop-self-smaller : goal.equations-loop-self-smaller
equations-loop-self-smaller t c =
    equations_shrink c.args.nest c.loop-self.self (word_seen c.in_ok-sign.field-0) c.sign.new.self (eqn_seen c.in_ok-equation-2.field-0) c.equation-in-loop-self.new.self c.in_ok-sign.ensures c.in_ok-equation-2.ensures

pub equations-loop-self-preserved : goal.equations-loop-self-preserved
equations-loop-self-preserved t c =
    let ahead : is_ahead begins_equation c.sign.new.self ≡ true = cc in
    let more : c.push-in-loop-self.new.self.items ≡ c.loop-self.equations.items ++ (c.in_ok-equation-2.field-0 ∷ []) = c.in_ok-push-2.ensures.items in
    ap (λ z. equations_from c.args.nest (map eqn_seen z) c.equation-in-loop-self.new.self) more
    ∙ equations_more c.args.nest c.loop-self.equations.items c.in_ok-equation-2.field-0 c.loop-self.self (word_seen c.in_ok-sign.field-0) c.sign.new.self c.equation-in-loop-self.new.self c.in_ok-sign.ensures ahead c.in_ok-equation-2.ensures
    ∙ c.loop-self.invariant

pub states-loop-states-init : goal.states-loop-states-init
states-loop-states-init t c =
    let none : c.new-states.result.items ≡ [] = c.new-states.ensures.items in
    let one : c.push.new.self.items ≡ c.new-states.result.items ++ (c.in_ok-state.field-0 ∷ []) = c.in_ok-push.ensures.items in
    ap (λ z. states_from c.args.nest (map state_seen z) c.state.new.self) (one ∙ ap (λ z. z ++ (c.in_ok-state.field-0 ∷ [])) none)
    ∙ sym (states_begin c.args.nest c.args.self.now ∙ ap (λ o. o >>= λ r. states_from c.args.nest (r.0 ∷ []) r.1) c.in_ok-state.ensures)

pub states-loop-states-smaller : goal.states-loop-states-smaller
states-loop-states-smaller t c = state_strict c.args.nest c.loop-states.self (state_seen c.in_ok-state-2.field-0) c.state-in-loop-states.new.self c.in_ok-state-2.ensures

pub states-loop-states-preserved : goal.states-loop-states-preserved
states-loop-states-preserved t c =
    let ahead : is_ahead (keyword State) c.loop-states.self ≡ true = cc in
    let more : c.push-in-loop-states.new.self.items ≡ c.loop-states.states.items ++ (c.in_ok-state-2.field-0 ∷ []) = c.in_ok-push-2.ensures.items in
    ap (λ z. states_from c.args.nest (map state_seen z) c.state-in-loop-states.new.self) more
    ∙ states_pushed c.args.nest c.loop-states.states.items c.in_ok-state-2.field-0 c.loop-states.self c.state-in-loop-states.new.self ahead c.in_ok-state-2.ensures
    ∙ c.loop-states.invariant
