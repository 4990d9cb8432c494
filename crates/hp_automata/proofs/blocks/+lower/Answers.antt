use Rattle.std.proofs.Common.{◌≡◌, ◌+◌, [], ◌∷◌, length, take, drop, map, sym, ap, ◌∙◌, arith}
use Rattle.std.proofs.lemmas.List.{take_all}
use Rattle.hp_tree.specs.Blocks.{eqns_of, arms_of, states_of}
use Rattle.hp_tree.specs.BlockView.{eqn_seen, arm_seen, state_seen}
use Rattle.hp_automata.specs.declared.new_names.Word.TheVariants.{Weak}
use Rattle.hp_automata.specs.Renaming.{renamed_decls}
use Rattle.hp_automata.specs.Lowering.{inner, idle, state_eqns, weak_eqns, transition_locals, frame_eqns, all_kept, lowered_eqn, lowered_eqns, lowered_states, lowered_body}
use Rattle.hp_automata.specs.Inside.{locals_of, lowered_arm, body_inside}
use Rattle.hp_automata.specs.Lists.{names_seen, with_more}
use Rattle.hp_automata.specs.Held.{frame_seen, said}
use Rattle.hp_automata.proofs.ListLaws.{more-on}
use Rattle.hp_automata.proofs.BlockLaws.{declared-left, body-entered, arms-mapped, eqns-from, states-from, inside-made, body-made, frame-made}
use Rattle.hp_automata.proofs.blocks.+lower.Goals as goal

pub add_lowered-loop-eqn-preserved : goal.add_lowered-loop-eqn-preserved
add_lowered-loop-eqn-preserved t c =
    let first = c.args.around.now in
    let known = c.loop-eqn.invariant in
    let step = c.in_ok-other.ensures in
    let enums = c.args.enums.now in
    let to = said first.layers.items in
    let d = length first.layers.items in
    let es = c.args.eqns.now in
    let i = c.loop-eqn.eqn-index in
    let e = c.eqn-item.result in
    let before = map eqn_seen c.loop-eqn.into.items in
    let own = lowered_eqn enums to first.types d (eqn_seen e) in
    let rest = lowered_eqns enums to first.types d (eqns_of (map eqn_seen (drop (i + 1) es))) in
    let from = lowered_eqns enums to first.types d (eqns_of (map eqn_seen (drop i es))) in
    let all = with_more (map eqn_seen c.args.into.now.items) (lowered_eqns enums to first.types d (eqns_of (map eqn_seen es))) in
    let same : eqn_seen c.in_ok-other.other ≡ own = step.eqn ∙ (λ j. lowered_eqn enums (said (known.layers j)) (known.types j) (length (known.layers j)) (eqn_seen e)) in
    record {
      eqns = more-on before (map eqn_seen c.push_eqn.new.eqns.items) (own ∷ []) rest from all (c.in_ok-push_eqn.ensures ∙ ap (λ x. with_more before (x ∷ [])) same)
          (eqns-from enums to first.types d es i e c.loop-eqn-test.true c.eqn-item.is) known.eqns;
      types = step.types ∙ known.types;
      layers = step.layers ∙ known.layers;
    }

pub add_states-loop-i-preserved : goal.add_states-loop-i-preserved
add_states-loop-i-preserved t c =
    let first = c.args.around.now in
    let known = c.loop-i.invariant in
    let step = c.in_ok-add_state.ensures in
    let enums = c.args.enums.now in
    let to = said first.layers.items in
    let f = frame_seen c.args.frame.now in
    let qs = c.args.states.now in
    let i = c.loop-i.i in
    let q = c.index-states-i.result in
    let before = map eqn_seen c.loop-i.into.items in
    let own = state_eqns to f i q.unless.items (lowered_body enums to first.types f i q.body q.until.items) (idle enums first.types f i) in
    let rest = lowered_states enums to first.types f (i + 1) (states_of (map state_seen (drop (i + 1) qs))) in
    let from = lowered_states enums to first.types f i (states_of (map state_seen (drop i qs))) in
    let all = with_more (map eqn_seen c.args.into.now.items) (lowered_states enums to first.types f 0 (states_of (map state_seen qs))) in
    let same : map eqn_seen c.add_state.new.into.items ≡ with_more before own =
    step.eqns
    ∙ (λ j. with_more before (state_eqns (said (known.layers j)) f i q.unless.items (lowered_body enums (said (known.layers j)) (known.types j) f i q.body q.until.items) (idle enums (known.types j) f i))) in
    record {
      eqns = more-on before (map eqn_seen c.add_state.new.into.items) own rest from all same (states-from enums to first.types f qs i q c.loop-i-test.true c.index-states-i.is) known.eqns;
      types = step.types ∙ known.types;
      layers = step.layers ∙ known.layers;
    }

pub lower_block-returns-clause-types : goal.lower_block-returns-clause-types
lower_block-returns-clause-types t c =
    let types = c.in_ok-other.ensures.types ∙ c.in_ok-enter.ensures.types in
    c.shrink.ensures ∙ (λ j. take (c.len-mark.ensures j) (types j)) ∙ declared-left c.args.around.now.types c.args.block.now

pub lower_body-returns-clause-types : goal.lower_body-returns-clause-types
lower_body-returns-clause-types t c =
    let types = c.in_ok-body.ensures.types ∙ c.in_ok-enter.ensures.types in
    c.shrink.ensures ∙ (λ j. take (c.len-mark.ensures j) (types j)) ∙ declared-left c.args.around.now.types c.args.state.now.body

pub lower_body-returns-clause-block : goal.lower_body-returns-clause-block
lower_body-returns-clause-block t c =
    let first = c.args.around.now in
    let enums = c.args.enums.now in
    let f = frame_seen c.args.frame.now in
    let k = c.args.number in
    let b = c.args.state.now.body in
    let until = c.args.state.now.until.items in
    let entered = c.in_ok-enter.ensures in
    let pushed = c.in_ok-push_layer.ensures in
    let names : said c.push_layer.new.layers.items ≡ inner (said first.layers.items) f k = pushed.said ∙ ap (λ ls. inner (said ls) f k) entered.layers in
    let depth : length c.push_layer.new.layers.items ≡ f.depth + 1 = pushed.depth ∙ ap (λ ls. length ls + 1) entered.layers ∙ ap (λ n. n + 1) (sym c.requires) in
    c.in_ok-body.ensures.block
    ∙ (λ j. body_inside enums (names j) (entered.types j) (depth j) f k b (c.deref.ensures.value j))
    ∙ body-entered enums (said first.layers.items) first.types f k b until

pub lower_each-returns-clause-arms : goal.lower_each-returns-clause-arms
lower_each-returns-clause-arms t c =
    let first = c.args.around.now in
    let enums = c.args.enums.now in
    let to = said first.layers.items in
    let d = length first.layers.items in
    let names = names_seen c.args.names.now in
    let arms = c.args.arms.now in
    ap arms_of (c.loop-arm.invariant.arms ∙ ap (λ more. map (λ a. lowered_arm enums to first.types d names (arm_seen a)) more) (take_all c.loop-arm.arm-index arms (omega arith)))
    ∙ sym (arms-mapped enums to first.types d names arms)

pub lower_frame-returns-clause-block : goal.lower_frame-returns-clause-block
lower_frame-returns-clause-block t c =
    let first = c.args.around.now in
    let enums = c.args.enums.now in
    let to = said first.layers.items in
    let f = frame_seen c.args.frame.now in
    let ss = states_of (map state_seen c.args.states.now) in
    let rest = lowered_states enums to first.types f 0 ss in
    frame-made enums to first.types f ss c.in_ok-locals.locals.items (map eqn_seen c.add_states.new.into.items) c.in_ok-locals.ensures
    (c.in_ok-add_states.ensures.eqns
    ∙ ap (λ made. with_more made rest) (c.in_ok-add_frame_eqns.ensures ∙ ap (λ es. with_more (map eqn_seen es) (frame_eqns enums to first.types f)) c.new-eqns.ensures.items))

pub lower_in_state-returns-clause-block : goal.lower_in_state-returns-clause-block
lower_in_state-returns-clause-block t c =
    let first = c.args.around.now in
    let enums = c.args.enums.now in
    let to = said first.layers.items in
    let d = length first.layers.items in
    let f = frame_seen c.args.frame.now in
    let k = c.args.number in
    let b = c.args.block.now in
    let until = c.args.until.now in
    let ds = c.block.inside.locals.items in
    let es = c.block.inside.eqns.items in
    let made = lowered_eqns enums to first.types d (eqns_of (map eqn_seen es)) in
    let left = all_kept to f.at f.names b in
    let outer = c.deref-4.ensures.value ∙ c.in_ok-add_lowered.ensures.layers in
    body-made enums to first.types d f k until ds c.in_ok-locals.locals.items es b (map eqn_seen c.add_kept.new.into.items) (sym c.block.view_is)
    (c.in_ok-locals.ensures ∙ ap (λ ls. with_more (renamed_decls (said ls) (locals_of b)) (transition_locals f Weak k 0 until)) c.deref.ensures.value)
    (c.in_ok-add_kept.ensures
    ∙ (λ j. with_more (map eqn_seen c.add_lowered.new.into.items) (all_kept (said (outer j)) f.at (names_seen (c.deref-5.ensures.value j)) b))
    ∙ ap (λ more. with_more more left)
    (c.in_ok-add_lowered.ensures.eqns
    ∙ ap (λ xs. with_more (map eqn_seen c.add_weak.new.into.items) (lowered_eqns enums to first.types d (eqns_of (map eqn_seen xs)))) c.deref-3.ensures.value
    ∙ ap (λ more. with_more more made)
    (c.in_ok-add_weak.ensures
    ∙ (λ j. with_more (map eqn_seen (c.new-eqns.ensures.items j)) (weak_eqns (said (c.deref-2.ensures.value j)) f k until)))))

pub lower_inside-returns-clause-block : goal.lower_inside-returns-clause-block
lower_inside-returns-clause-block t c =
    let first = c.args.around.now in
    let enums = c.args.enums.now in
    let to = said first.layers.items in
    let d = length first.layers.items in
    let b = c.args.block.now in
    let xs = names_seen c.args.names.now in
    let ds = c.block.inside.locals.items in
    let es = c.block.inside.eqns.items in
    let made = lowered_eqns enums to first.types d (eqns_of (map eqn_seen es)) in
    let outer = c.deref-4.ensures.value ∙ c.in_ok-add_lowered.ensures.layers in
    inside-made enums to first.types d c.args.span xs ds c.in_ok-locals.locals.items es b (map eqn_seen c.add_kept.new.into.items) (sym c.block.view_is)
    (c.in_ok-locals.ensures ∙ (λ j. renamed_decls (said (c.deref.ensures.value j)) (c.deref-2.ensures.value j)))
    (c.in_ok-add_kept.ensures
    ∙ (λ j. with_more (map eqn_seen c.add_lowered.new.into.items) (all_kept (said (outer j)) c.args.span xs b))
    ∙ ap (λ more. with_more more (all_kept to c.args.span xs b))
    (c.in_ok-add_lowered.ensures.eqns ∙ (λ j. with_more (map eqn_seen (c.new-eqns.ensures.items j)) (lowered_eqns enums to first.types d (eqns_of (map eqn_seen (c.deref-3.ensures.value j)))))))
