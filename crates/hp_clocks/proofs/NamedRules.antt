-- What the proofs of names and layers cite.
use Rattle.hp_clocks.proofs.Leading.{drop_end}
use Rattle.hp_clocks.proofs.NamedLaws.{more-nil, more-one, more-append}
use Rattle.hp_clocks.proofs.TableLaws.{declares_in, cells_next}

pub ruleset locals = (more-nil, more-one, more-append, cells_next, drop_end)
