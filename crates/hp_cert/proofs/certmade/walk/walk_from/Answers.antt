use Rattle.std.proofs.Common.{◌≡◌, ◌+◌, ap, ◌∙◌, arith}
use Rattle.hp_cert.specs.Certmade.Tasks.{weight, weights}
use Rattle.hp_cert.proofs.CertmadeLemmas.TaskLaws.{weights_push}
use Rattle.hp_cert.proofs.certmade.walk.walk_from.Goals as goal

pub loop-task-smaller : goal.loop-task-smaller
loop-task-smaller c =
    let less = c.in_ok-perform.ensures.less in
    let all : weights c.loop-task.stack.items ≡ weights c.pop.new.self.items + weight c.in-Some.task = ap weights c.in-Some.ensures.items ∙ weights_push c.pop.new.self.items c.in-Some.task in
    omega (arith, less, all)
