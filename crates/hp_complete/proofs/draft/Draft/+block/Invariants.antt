use Rattle.std.proofs.Common.{◌≡◌, ◌+◌, ◌*◌, drop, map}
use Rattle.hp_tree.specs.Blocks.{eqns_of, arms_of}
use Rattle.hp_tree.specs.BlockView.{eqn_seen, arm_seen}
use Rattle.hp_tree.specs.Sizes.{lines, lines_of_eqn, lines_of_eqns, lines_of_arms}
use Rattle.hp_complete.specs.Drafting.{eqns_made, arms_made}
use Rattle.hp_complete.specs.Drafts.{place_of, sketch_of}
use Rattle.hp_complete.specs.Names.{names_seen}
use Rattle.hp_complete.proofs.draft.Draft.+block.Given as goal

abbrev pub decreases-block : goal.decreases-block
decreases-block l = 6 * lines l.block.now

abbrev pub decreases-eqns : goal.decreases-eqns
decreases-eqns l = 6 * lines_of_eqns (eqns_of (map eqn_seen l.eqns.now)) + 1

abbrev pub decreases-eqn : goal.decreases-eqn
decreases-eqn l = 6 * lines_of_eqn (eqn_seen l.eqn.now)

abbrev pub decreases-switch : goal.decreases-switch
decreases-switch l = 6 * lines_of_arms (arms_of (map arm_seen l.arms.now)) + 3

abbrev pub decreases-arms : goal.decreases-arms
decreases-arms l = 6 * lines_of_arms (arms_of (map arm_seen l.arms.now)) + 2

abbrev pub decreases-arm : goal.decreases-arm
decreases-arm l = 6 * lines l.arm.now.body + 1

abbrev pub decreases-reset : goal.decreases-reset
decreases-reset l = 6 * lines l.body.now + 3

abbrev pub decreases-reset_block : goal.decreases-reset_block
decreases-reset_block l = 6 * lines l.body.now + 2

abbrev pub decreases-reset_body : goal.decreases-reset_body
decreases-reset_body l = 6 * lines l.body.now + 1

abbrev pub invariant-eqns-loop-eqn : goal.invariant-eqns-loop-eqn
invariant-eqns-loop-eqn l =
    let p = place_of l.initial.self in
    let ds = l.locals.decls.now in
    record {
      sketch : eqns_made p ds (eqns_of (map eqn_seen (drop l.eqn-index l.eqns))) (sketch_of l.self) ≡ eqns_made p ds (eqns_of (map eqn_seen l.eqns)) (sketch_of l.initial.self);
      place : place_of l.self ≡ p;
    }

abbrev pub invariant-arms-loop-arm : goal.invariant-arms-loop-arm
invariant-arms-loop-arm l =
    let p = place_of l.initial.self in
    let names = names_seen l.names in
    record {
      sketch : arms_made p names l.test (arms_of (map arm_seen (drop l.arm-index l.arms))) (sketch_of l.self) ≡ arms_made p names l.test (arms_of (map arm_seen l.arms)) (sketch_of l.initial.self);
      place : place_of l.self ≡ p;
    }
