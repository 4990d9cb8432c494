use Rattle.std.proofs.Common.{not, rules}
use Rattle.std.proofs.lemmas.Fn.{filter_same}
use Rattle.hp_normal.specs.Tables.{is_uncounted}
use Rattle.hp_normal.proofs.prune.without_uncounted.Goals as goal

pub returns : goal.returns
returns c = filter_same _ (λ e. not (is_uncounted c.args.counts.now e)) _ (λ x b f' k. search rules) _ _ c.retain.ensures.filtered
