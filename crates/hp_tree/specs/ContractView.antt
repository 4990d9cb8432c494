-- What a contract is seen as.
use Rattle.hp_tree.specs.declared.program.Contract.TheInside.{Inside}
use Rattle.hp_tree.specs.Programs.{Contract}

abbrev pub contract_seen : Inside → Contract
contract_seen c = record { body = c.body; assume = c.assume; enforce = c.enforce; controls = c.controls.items; span = c.span }
