use Rattle.std.proofs.Common.{sym, ap, ◌∙◌}
use Rattle.hp_complete.specs.Names.{names_seen, with_once}
use Rattle.hp_complete.proofs.NameLaws.{key-once, key-new, key-known}
use Rattle.hp_complete.proofs.names.add_once.Goals as goal

pub returns-in_ok-push-clause-seen : goal.returns-in_ok-push-clause-seen
returns-in_ok-push-clause-seen c = ap names_seen c.in_ok-insert.ensures.keys ∙ key-once c.args.seen.now.keys c.args.name

pub returns-in_ok-push-clause-names : goal.returns-in_ok-push-clause-names
returns-in_ok-push-clause-names c =
    ap names_seen c.in_ok-push.ensures.items ∙ key-new c.args.seen.now.keys c.args.into.now.items c.args.name c.in_ok-insert.field-0 c.requires c.in_ok-insert.ensures.added c.if-branch.true

pub returns-else-branch-clause-seen : goal.returns-else-branch-clause-seen
returns-else-branch-clause-seen c = ap names_seen c.in_ok-insert.ensures.keys ∙ key-once c.args.seen.now.keys c.args.name

pub returns-else-branch-clause-names : goal.returns-else-branch-clause-names
returns-else-branch-clause-names c =
    sym c.requires ∙ key-known c.args.seen.now.keys c.args.name.now c.in_ok-insert.field-0 c.in_ok-insert.ensures.added c.if-branch.false ∙ ap (λ names. with_once names c.args.name.now) c.requires
