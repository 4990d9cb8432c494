use Rattle.std.proofs.Common.{◌<◌, ◌+◌, ◌++◌, List, [], ◌∷◌, All, sym, subst, ap, ◌∙◌}
use Rattle.std.proofs.lemmas.List.Elements.{All-push}
use Rattle.hp_cert.specs.declared.certmade.walk.Task.{Task}
use Rattle.hp_cert.specs.declared.certmade.walk.Task.TheVariants as task
use Rattle.hp_cert.specs.Certmade.Tasks.{DoesAll, IsTask, tasks_from, weights}
use Rattle.hp_cert.specs.Certmade.Walks.{again}
use Rattle.hp_cert.proofs.CertmadeLemmas.TaskLaws.{nothing_to_do, visit_last, fewer, contained, not_contained, has_children}
use Rattle.hp_cert.proofs.certmade.walk.enter_node.Goals as goal

pub returns-then-contains-clause-does : goal.returns-then-contains-clause-does
returns-then-contains-clause-does c = λ after does.
    nothing_to_do c.args.t.now c.args.stack.now.items c.args.r c.args.nodes.now.keys after (again (contained c.args.nodes.now.keys c.args.r.index (sym c.contains.ensures ∙ c.if-contains.true))) does

pub returns-clause-tasks : goal.returns-clause-tasks
returns-clause-tasks c = λ are.
    let children = has_children c.args.t.now c.requires.reduced c.args.r c.args.branch c.requires.has c.requires.branch in
    subst (All (IsTask c.args.t.now))
    (sym (c.in_ok-push-3.ensures.items ∙ ap (λ (s : List Task). s ++ task.Enter c.args.branch.low ∷ []) (c.in_ok-push-2.ensures.items ∙ ap (λ (s : List Task). s ++ task.Enter c.args.branch.high ∷ []) c.in_ok-push.ensures.items)))
    (All-push (IsTask c.args.t.now) ((c.args.stack.now.items ++ task.Leave c.args.r.index ∷ []) ++ task.Enter c.args.branch.high ∷ []) (task.Enter c.args.branch.low)
    (All-push (IsTask c.args.t.now) (c.args.stack.now.items ++ task.Leave c.args.r.index ∷ []) (task.Enter c.args.branch.high)
    (All-push (IsTask c.args.t.now) c.args.stack.now.items (task.Leave c.args.r.index) are tt) children.1) children.0)

pub returns-clause-does : goal.returns-clause-does
returns-clause-does c = λ after does.
    visit_last c.args.t.now c.requires.reduced c.args.stack.now.items c.args.r c.args.branch c.args.nodes.now.keys after c.requires.branch
    (not_contained c.args.nodes.now.keys c.args.r.index (sym c.contains.ensures ∙ c.if-contains.false))
    (subst (λ (s : List Task). DoesAll c.args.t.now s c.args.nodes.now.keys after)
    (c.in_ok-push-3.ensures.items ∙ ap (λ (s : List Task). s ++ task.Enter c.args.branch.low ∷ []) (c.in_ok-push-2.ensures.items ∙ ap (λ (s : List Task). s ++ task.Enter c.args.branch.high ∷ []) c.in_ok-push.ensures.items))
    does)

pub returns-clause-less : goal.returns-clause-less
returns-clause-less c =
    subst (λ (s : List Task). weights s < weights c.args.stack.now.items + tasks_from c.args.r.index)
    (sym (c.in_ok-push-3.ensures.items ∙ ap (λ (s : List Task). s ++ task.Enter c.args.branch.low ∷ []) (c.in_ok-push-2.ensures.items ∙ ap (λ (s : List Task). s ++ task.Enter c.args.branch.high ∷ []) c.in_ok-push.ensures.items)))
    (fewer c.args.t.now c.requires.reduced c.args.stack.now.items c.args.r c.args.branch c.requires.branch)
