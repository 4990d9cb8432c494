use Rattle.hp_circuit.specs.declared.kind.Kind.TheVariants.{Registers, Early, Control, Late}
use Rattle.law_drawing.proofs.MirroringLemmas.Codes.{wide, kinds}
use Rattle.law_drawing.proofs.MirroringLemmas.Held.{held, next_bits}
use Rattle.law_drawing.proofs.MirroringLemmas.Valid.{valid}
use Rattle.law_drawing.proofs.mirroring.codes_are_held.Goals as goal

pub returns-clause-wide : goal.returns-clause-wide
returns-clause-wide c = λ types early steered memory given. wide types early steered memory given

pub returns-clause-kinds : goal.returns-clause-kinds
returns-clause-kinds c = λ types early steered memory given ss cs h. record {
  registers = kinds types early steered memory given Registers ss cs h;
  early_ones = kinds types early steered memory given Early ss cs h;
  controls = kinds types early steered memory given Control ss cs h;
  late_ones = kinds types early steered memory given Late ss cs h;
}

pub returns-clause-held : goal.returns-clause-held
returns-clause-held c = held

pub returns-clause-next : goal.returns-clause-next
returns-clause-next c = λ types early steered numbers next. next_bits types early steered numbers next

pub returns-clause-valid : goal.returns-clause-valid
returns-clause-valid c = valid
