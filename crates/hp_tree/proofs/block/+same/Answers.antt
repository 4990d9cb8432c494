use Rattle.hp_tree.specs.BlockView.{eqn_seen, arm_seen, state_seen}
use Rattle.hp_tree.proofs.Lists.{map-differs}
use Rattle.hp_tree.proofs.block.+same.Goals as goal

pub same_eqns-returns-then-not-same : goal.same_eqns-returns-then-not-same
same_eqns-returns-then-not-same t c = map-differs eqn_seen _ _ _ _ _ _ c.index-eqns-i.is c.index-others-i.is c.loop-i-test.true c.if-not-same.true c.same.ensures

pub same_arms-returns-then-not-same : goal.same_arms-returns-then-not-same
same_arms-returns-then-not-same t c = map-differs arm_seen _ _ _ _ _ _ c.index-arms-i.is c.index-others-i.is c.loop-i-test.true c.if-not-same.true c.same.ensures

pub same_states-returns-then-not-same : goal.same_states-returns-then-not-same
same_states-returns-then-not-same t c = map-differs state_seen _ _ _ _ _ _ c.index-states-i.is c.index-others-i.is c.loop-i-test.true c.if-not-same.true c.same.ensures
