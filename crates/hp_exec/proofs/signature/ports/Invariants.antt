use Rattle.std.proofs.Common.{◌≡◌, map, take}
use Rattle.hp_base.specs.SignatureView.{port_seen}
use Rattle.hp_exec.specs.Signatures.{ports_by}
use Rattle.hp_exec.specs.Typing.{kind_found}
use Rattle.hp_exec.proofs.signature.ports.Given as goal

abbrev pub invariant-loop-var : goal.invariant-loop-var
invariant-loop-var l = map port_seen l.ports.items ≡ ports_by (kind_found l.types) (take l.var-index l.vars)
