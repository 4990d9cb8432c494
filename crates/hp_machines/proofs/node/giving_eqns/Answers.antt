use Rattle.std.proofs.Common.{rules}
use Rattle.std.proofs.lemmas.Fn.{filter_same}
use Rattle.hp_machines.specs.Making.{defines_some}
use Rattle.hp_machines.proofs.node.giving_eqns.Goals as goal

pub returns : goal.returns
returns c = filter_same _ defines_some _ (λ x b f' k. search rules) _ _ c.retain.ensures.filtered
