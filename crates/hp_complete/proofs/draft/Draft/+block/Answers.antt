use Rattle.std.proofs.Common.{◌≡◌, [], None, map, sym, ap, ◌∙◌}
use Rattle.hp_tree.specs.Blocks.{arms_of}
use Rattle.hp_tree.specs.BlockView.{arm_seen, eqn_seen}
use Rattle.law_equations.specs.Made.Making.{Inner, each_once, names_of_eqn, in_block, restart_site, with_flag}
use Rattle.hp_complete.specs.Drafting.{block_made, eqn_made, restarted_made, switch_made}
use Rattle.hp_complete.specs.Drafts.{place_of, sketch_of}
use Rattle.hp_complete.specs.Names.{names_seen}
use Rattle.hp_complete.specs.Places.{at_base, at_site, left, unrestarted, within}
use Rattle.hp_complete.proofs.PlaceLaws.{within-left, restart-left}
use Rattle.hp_complete.proofs.draft.Draft.+block.Goals as goal

pub block-returns-clause-back : goal.block-returns-clause-back
block-returns-clause-back t c = ap left (c.in_ok-eqns.ensures.place ∙ c.in_ok-enter.ensures.place) ∙ within-left _ (place_of c.args.self.now)

pub eqn-returns-in_ok-switch-in-Switch-clause-sketch : goal.eqn-returns-in_ok-switch-in-Switch-clause-sketch
eqn-returns-in_ok-switch-in-Switch-clause-sketch t c =
    let p = place_of c.args.self.now in
    let d = sketch_of c.args.self.now in
    let ds = c.args.locals.now.decls.now in
    let is = c.in-Switch.is in
    let names = ap names_seen c.deref-in-Switch.ensures.value ∙ c.in_ok-names-in-Switch.ensures ∙ ap (λ e. each_once [] (names_of_eqn (eqn_seen e))) is in
    c.in_ok-switch-in-Switch.ensures.sketch
    ∙ (λ j. switch_made p (names j) c.in-Switch.cond (arms_of (map arm_seen (c.deref-in-Switch-2.ensures.value j))) d)
    ∙ sym (ap (λ e. eqn_made p ds (eqn_seen e) d) is)

pub reset_body-returns-clause-place : goal.reset_body-returns-clause-place
reset_body-returns-clause-place t c =
    let p = place_of c.args.self.now in
    let d = sketch_of c.args.self.now in
    let x = c.args.test in
    let b = c.args.body.now in
    let pushed = c.in_ok-push_restart.ensures in
    let entered = c.enter_block-around.ensures in
    let here : place_of c.enter_block-around.new.self ≡ at_site (in_block (restart_site p.site x)) p = entered.place ∙ ap (λ q. at_site (in_block q.site) q) pushed.place in
    let made : sketch_of c.enter_block-around.new.self ≡ with_flag None d = entered.sketch ∙ ap (with_flag None) pushed.sketch in
    let base : c.enter_block-around.result.base ≡ p.site.base = entered.base ∙ ap (λ q. q.site.base) pushed.place in
    let inner = c.in_ok-block.ensures.place ∙ (λ j. within (block_made Inner (here j) b (made j)).0 (here j)) in
    c.pop_restart.ensures.place ∙ ap unrestarted c.leave_block.ensures.place ∙ (λ j. unrestarted (at_base (base j) (inner j))) ∙ restart-left p x (restarted_made p x b d).0

pub reset_body-returns-clause-back : goal.reset_body-returns-clause-back
reset_body-returns-clause-back t c = ap left (reset_body-returns-clause-place t c) ∙ within-left _ (place_of c.args.self.now)
