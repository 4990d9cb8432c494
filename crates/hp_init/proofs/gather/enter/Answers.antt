use Rattle.std.proofs.Common.{◌≡◌, [], ◌∷◌, ◌++◌, map, ap, ◌∙◌}
use Rattle.hp_tree.specs.Blocks.{eqns_of}
use Rattle.hp_tree.specs.BlockView.{eqn_seen}
use Rattle.hp_tree.specs.Meaning.{names_of as declared}
use Rattle.hp_tables.specs.Defining.Names.{names_in}
use Rattle.hp_tables.specs.Defining.Layers.{says, says_numbers, says_seen, sight}
use Rattle.hp_init.specs.Asks.{seen_in}
use Rattle.hp_init.specs.Gathered.{seen_at}
use Rattle.hp_init.proofs.EntryLaws.{seen_as, seen-entered}
use Rattle.hp_init.proofs.gather.enter.Goals as goal

pub returns-clause-seen : goal.returns-clause-seen
returns-clause-seen c =
    let old = c.args.gathering.now in
    let own = c.in_ok-own.own in
    let read = c.in_ok-seen.seen in
    let inner = old.variables.items ++ own ∷ [] in
    let ds = c.block.inside.locals.items in
    let es = eqns_of (map eqn_seen c.block.inside.eqns.items) in
    let numbers : says own ≡ says_numbers old.next (declared ds) =
    c.in_ok-own.ensures ∙ ap (λ decls. says_numbers c.in_ok-first.first (declared decls)) c.deref.ensures.value ∙ ap (λ k. says_numbers k (declared ds)) c.in_ok-first.ensures.first in
    let names : says read ≡ says_seen (names_in es) (sight inner) =
    c.in_ok-seen.ensures
    ∙ ap (λ eqns. says_seen (names_in (eqns_of (map eqn_seen eqns))) (sight c.deref-3.result.now)) c.deref-2.ensures.value
    ∙ ap (λ ls. says_seen (names_in es) (sight ls)) (c.deref-3.ensures.value ∙ c.in_ok-push.ensures.items) in
    ap (λ ls. seen_as ls c.push-2.new.self.items) c.in_ok-push.ensures.items
    ∙ ap (λ ls. seen_as inner ls) c.in_ok-push-2.ensures.items
    ∙ seen-entered old.variables.items old.values.items own read old.next ds es numbers names
    ∙ ap (λ b. seen_in old.next b (seen_at old)) c.block.view_is
