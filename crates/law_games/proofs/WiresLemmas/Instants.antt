-- The laws of wires over the nodes of a program.
use Rattle.std.proofs.Common.{refl}
use Rattle.law_games.specs.Wires.WiredCallees.{filled_callees, callee_wires}
use Rattle.law_games.specs.Wires.Laws.{ContractLaw, MemoryLaw, NextLaw, RegisterLaw}
use Rattle.law_games.proofs.WiresLemmas.Nodes.{node_met, node_kept, node_tops}
use Rattle.law_games.proofs.WiresLemmas.Callees.{calls_mirror}

pub next_instant : NextLaw
next_instant types items n inputs start free history now w =
    node_met types (filled_callees types items) (callee_wires types items) (calls_mirror types items w.callees) n inputs start free history now w.clocks w.fills w.sound w.solves

pub next_registers : RegisterLaw
next_registers types items n inputs start free history now w =
    node_kept types (filled_callees types items) (callee_wires types items) (calls_mirror types items w.callees) n inputs start free history now w.clocks w.sound w.solves

pub tops : ContractLaw
tops types items n inputs m now h = node_tops types (callee_wires types items) n inputs m now h

pub same_memory : MemoryLaw
same_memory program n start history = refl
