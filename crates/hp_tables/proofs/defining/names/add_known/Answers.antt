use Rattle.std.proofs.Common.{◌∙◌}
use Rattle.std.specs.Str.{bytes_eq}
use Rattle.hp_tables.specs.Defining.Seen.{holds}
use Rattle.hp_tables.proofs.DefiningLemmas.NameLaws.{held}
use Rattle.hp_tables.proofs.defining.names.add_known.Goals as goal

pub returns : goal.returns
returns c =
    let name = c.args.name in
    λ j x. (c.in_ok-insert.ensures.updates.0 (record name { now = x }) ∙ held (bytes_eq name.now x) (holds c.args.names.now x)) j
