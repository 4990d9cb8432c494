use Rattle.law_drawing.proofs.carrying.blocks_are_entered.Goals as goal
use Rattle.law_drawing.proofs.CarryingLemmas.BlockLaws.{entered, clocked, defined, call-defined}

pub returns-clause-entered : goal.returns-clause-entered
returns-clause-entered c = entered

pub returns-clause-clocked : goal.returns-clause-clocked
returns-clause-clocked c = clocked

pub returns-clause-defined : goal.returns-clause-defined
returns-clause-defined c = defined

pub returns-clause-called : goal.returns-clause-called
returns-clause-called c = call-defined
