use Rattle.std.proofs.Common.{◌++◌, [], ◌∷◌, sym, subst}
use Rattle.hp_cert.specs.declared.certmade.walk.Task.{Task}
use Rattle.hp_cert.specs.declared.certmade.walk.Task.TheVariants as task
use Rattle.hp_cert.specs.Certmade.Tasks.{DoesAll}
use Rattle.hp_cert.proofs.CertmadeLemmas.TaskLaws.{does_push}
use Rattle.hp_cert.proofs.certmade.walk.perform.Goals as goal

pub returns-in_ok-insert-in-Leave-clause-does : goal.returns-in_ok-insert-in-Leave-clause-does
returns-in_ok-insert-in-Leave-clause-does c = λ after does.
    subst (λ (k : Task). DoesAll c.args.t.now (c.args.stack.now.items ++ k ∷ []) c.args.nodes.now.keys after) (sym c.in-Leave.is)
    (does_push c.args.t.now c.args.stack.now.items (task.Leave c.in-Leave.index) c.args.nodes.now.keys c.insert.new.self.keys after c.in_ok-insert-in-Leave.ensures.keys does)
