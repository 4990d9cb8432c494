-- Sets of lemmas that functions name.
use Rattle.hp_tables.proofs.DeclarationsLemmas.TableLaws.{constructors-end, drop-end, items-end}

pub ruleset tables = (constructors-end, items-end, drop-end)
