use Rattle.std.proofs.Common.{◌≡◌, length, map, subst, sym, ap, ◌∙◌}
use Rattle.std.proofs.lemmas.List.{with_items_is}
use Rattle.law_equations.specs.Meaning.Scheduling.{IsRanked}
use Rattle.hp_complete.specs.Drafts.{sketch_of}
use Rattle.hp_complete.specs.Ordering.{unplaced}
use Rattle.hp_complete.proofs.draft.Draft.order.Goals as goal

pub returns-in-Ok-clause-eqns : goal.returns-in-Ok-clause-eqns
unfolding sketch_of
returns-in-Ok-clause-eqns c =
    let d = c.args.self.now in
    let eqns = c.order_eqns.new.eqns in
    let same : length eqns ≡ d.eqns.len = c.order_eqns.auto.eqns ∙ c.deref_mut.ensures.len in
    ap (map unplaced) (with_items_is d.eqns eqns same) ∙ c.in-Ok.ensures.same ∙ ap (map unplaced) c.deref_mut.ensures.value

pub returns-in-Ok-clause-ranked : goal.returns-in-Ok-clause-ranked
unfolding sketch_of
returns-in-Ok-clause-ranked c =
    let d = c.args.self.now in
    let eqns = c.order_eqns.new.eqns in
    let same : length eqns ≡ d.eqns.len = c.order_eqns.auto.eqns ∙ c.deref_mut.ensures.len in
    subst IsRanked (sym (with_items_is d.eqns eqns same)) c.in-Ok.ensures.ranked
