use Rattle.std.proofs.Common.{◌≡◌, ◌∙◌, ap, subst, rules}
use Rattle.std.specs.List.{range_with_len}
use Rattle.hp_controlled.specs.Reaching.{Definitions, Ends, Reaching, all_touched, definitions_of, definitions_seen, first_marked, nothing_marked, reaching_seen}
use Rattle.hp_controlled.proofs.ChainLaws.{definitions}
use Rattle.hp_controlled.proofs.ReachLaws.{good-start, reached-at_end}
use Rattle.hp_controlled.proofs.part.reached_from.Goals as goal

pub returns : goal.returns
returns c =
    let n = c.args.node.now in
    let outputs = c.args.outputs.now in
    let start : reaching_seen c.reach_all.new.self ≡ first_marked n outputs = search rules in
    let d : definitions_seen c.in_ok-definitions.definitions ≡ definitions_of n = c.in_ok-definitions.ensures in
    let ends = subst (λ (z : Definitions). Ends n z (first_marked n outputs) (reaching_seen c.follow_all.new.found)) d (subst (λ (z : Reaching). Ends n (definitions_seen c.in_ok-definitions.definitions) z (reaching_seen c.follow_all.new.found)) start c.in_ok-follow_all.ensures) in
    reached-at_end n outputs (definitions_of n) (definitions n) (first_marked n outputs) (reaching_seen c.follow_all.new.found) ends (good-start n outputs)
