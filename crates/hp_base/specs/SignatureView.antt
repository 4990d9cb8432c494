-- What a signature is seen as.
use Rattle.std.specs.Prelude.{ℕ, List, map}
use Rattle.hp_base.specs.declared.kind.Kind.{Kind}
use Rattle.hp_base.specs.declared.kind.Signature.TheInside.{Inside}
use Rattle.hp_base.specs.Kinds.{KindData, Port, SignatureData, kind_seen, kinds_of}

abbrev pub port_seen : List ℕ × Kind → Port
port_seen port = (port.0, kind_seen port.1)

-- a signature, by its fields
abbrev pub signature_seen : Inside → SignatureData
signature_seen s = record {
  name = s.name;
  inputs = map port_seen s.inputs.items;
  outputs = map port_seen s.outputs.items;
  contract = s.contract;
}

-- the kinds of some inputs or outputs of a signature
abbrev pub kinds_seen : List (List ℕ × Kind) → List KindData
kinds_seen ports = kinds_of (map port_seen ports)
