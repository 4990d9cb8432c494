use Rattle.std.proofs.Common.{ap, ◌∙◌}
use Rattle.hp_cause.specs.Gathering.{links_of}
use Rattle.hp_tables.specs.Defining.Layers.{sight}
use Rattle.hp_cause.specs.Told.{facts_seen, front, with_more}
use Rattle.hp_cause.proofs.TableLaws.{seen-entered, links-entered}
use Rattle.hp_cause.proofs.gather.enter.Goals as goal

pub returns-clause-seen : goal.returns-clause-seen
returns-clause-seen c = seen-entered c.args.values.now.items c.push.new.self.items c.in_ok-own.own c.args.notes.now.next c.args.block.now c.in_ok-push.ensures.items c.in_ok-own.ensures.own

pub returns-clause-facts : goal.returns-clause-facts
returns-clause-facts c =
    let before = facts_seen c.args.notes.now.facts.items in
    let j = c.args.notes.now.next in
    let b = c.args.block.now in
    links-entered before (facts_seen c.add_links.new.facts.items) c.outside.result.now c.in_ok-own.own j b (with_more before) c.in_ok-own.ensures.own c.in_ok-add_links.ensures
    ∙ ap (λ ls. with_more before (links_of j b (sight ls))) (c.outside.ensures ∙ ap front c.deref.ensures.value)
