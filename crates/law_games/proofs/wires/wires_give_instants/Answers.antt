use Rattle.law_games.proofs.wires.wires_give_instants.Goals as goal
use Rattle.law_games.proofs.WiresLemmas.CallWires.{calls_seen}
use Rattle.law_games.proofs.WiresLemmas.DutyWires.{duties}
use Rattle.law_games.proofs.WiresLemmas.Instants.{next_instant, next_registers, same_memory, tops}

pub returns-clause-instant : goal.returns-clause-instant
returns-clause-instant c = next_instant

pub returns-clause-registers : goal.returns-clause-registers
returns-clause-registers c = next_registers

pub returns-clause-contract : goal.returns-clause-contract
returns-clause-contract c = tops

pub returns-clause-memory : goal.returns-clause-memory
returns-clause-memory c = same_memory

pub returns-clause-calls : goal.returns-clause-calls
returns-clause-calls c = calls_seen

pub returns-clause-duty : goal.returns-clause-duty
returns-clause-duty c = duties
