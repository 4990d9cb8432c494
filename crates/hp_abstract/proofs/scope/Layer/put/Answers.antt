use Rattle.std.proofs.Common.{map, ap, ◌∙◌}
use Rattle.hp_abstract.specs.Seen.{entry_seen, layer_of}
use Rattle.hp_abstract.proofs.ScopeLaws.{put-inserted}
use Rattle.hp_abstract.proofs.scope.Layer.put.Goals as goal

pub returns : goal.returns
unfolding layer_of
returns c = ap (map entry_seen) c.in_ok-insert.ensures.entries ∙ put-inserted c.args.self.now.names.entries c.args.name c.args.entry
