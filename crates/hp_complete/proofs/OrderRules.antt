-- What the proofs of the order of equations use.
use Rattle.hp_complete.proofs.LayerLaws.{drop-end}
use Rattle.hp_complete.proofs.NameLaws.{more-nil, more-from_nil, more-one, more-append}
use Rattle.hp_complete.proofs.EdgeSteps.{next-atom, next-step, next-restart, next-target, edges-reads, memory-says}

pub ruleset edges = (more-nil, more-one, drop-end, next-atom, next-step, next-restart, next-target)

pub ruleset joined = (more-nil, more-append, edges-reads, drop-end)

pub ruleset told = memory-says

pub ruleset begun = more-from_nil
