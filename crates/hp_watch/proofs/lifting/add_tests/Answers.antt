use Rattle.std.proofs.Common.{◌∙◌}
use Rattle.hp_watch.specs.Lifting.{with_test}
use Rattle.hp_watch.proofs.LiftLaws.{each-next, tests-next}
use Rattle.hp_watch.proofs.lifting.add_tests.Goals as goal

pub loop-constructor-preserved : goal.loop-constructor-preserved
loop-constructor-preserved c =
    let t = c.args.number in
    let value = c.args.value in
    let k = c.loop-constructor.constructor in
    let n = c.args.node.now in
    let m = c.loop-constructor.node in
    record {
      tests = tests-next t value k c.in_ok-test.test n m c.loop-constructor.tests.items c.push.new.self.items c.loop-constructor.invariant.node c.loop-constructor.invariant.tests c.in_ok-test.ensures.value c.in_ok-push.ensures.items;
      node = c.in_ok-test.ensures.node ∙ each-next (with_test t value) k n m c.loop-constructor.invariant.node;
    }
