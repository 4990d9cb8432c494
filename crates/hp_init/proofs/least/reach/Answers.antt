use Rattle.std.proofs.Common.{[], ap, ◌∙◌}
use Rattle.hp_init.specs.Spreading.{lists, marks, all_marked_by}
use Rattle.hp_init.proofs.LeastLaws.{begun-spreads, reached-obeyed, reached-least}
use Rattle.hp_init.proofs.least.reach.Goals as goal

pub spread-requires : goal.spread-requires
spread-requires c =
    let asks = c.args.asks.now in
    begun-spreads asks (lists c.args.followers.now) (marks c.mark_sources.new.second c.mark_sources.new.waiting.items) c.requires.followers
    (c.in_ok-mark_sources.ensures ∙ ap (λ w. all_marked_by asks (marks c.args.second.now w)) c.new-waiting.ensures.items ∙ ap (λ s. all_marked_by asks (marks s [])) c.requires.first)

pub returns-clause-obeys : goal.returns-clause-obeys
returns-clause-obeys c =
    let asks = c.args.asks.now in
    reached-obeyed asks (lists c.args.followers.now) (marks c.mark_sources.new.second c.mark_sources.new.waiting.items) c.requires.followers
    (c.in_ok-mark_sources.ensures ∙ ap (λ w. all_marked_by asks (marks c.args.second.now w)) c.new-waiting.ensures.items ∙ ap (λ s. all_marked_by asks (marks s [])) c.requires.first)
    c.spread.new.second c.in_ok-spread.ensures.closed c.in_ok-spread.ensures.grew

pub returns-clause-least : goal.returns-clause-least
returns-clause-least c =
    let asks = c.args.asks.now in
    reached-least asks (lists c.args.followers.now) (marks c.mark_sources.new.second c.mark_sources.new.waiting.items) c.requires.followers
    (c.in_ok-mark_sources.ensures ∙ ap (λ w. all_marked_by asks (marks c.args.second.now w)) c.new-waiting.ensures.items ∙ ap (λ s. all_marked_by asks (marks s [])) c.requires.first)
    c.spread.new.second c.in_ok-spread.ensures.closed c.in_ok-spread.ensures.grew
