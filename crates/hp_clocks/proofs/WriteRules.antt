-- What the proofs of writing and of lengths cite.
use Rattle.hp_clocks.proofs.Walks.{turn_same, turn_step, there_same, there_step}
use Rattle.hp_clocks.proofs.ReadLaws.{read_same, read_step, read_open, read_base}

-- a clock that is read from its cells
pub ruleset reading = (turn_same, turn_step, there_same, there_step, read_same, read_step, read_open, read_base)
