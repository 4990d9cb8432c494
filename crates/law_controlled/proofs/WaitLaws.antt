-- A worked node of which an early bit waits for the choice.
use Rattle.std.proofs.Common.{◌≤◌, inr, List, [], ◌∷◌, length, refl, sym, ap, subst, arith}
use Rattle.hp_boolx.specs.Machine.{Machine}
use Rattle.law_equations.specs.Meaning.Scheduling.{IsWithin}
use Rattle.law_choices.specs.Adding.Worked.{free_node, handed_on}
use Rattle.law_choices.proofs.ClosedLemmas.ClosedLaws.{first_one}
use Rattle.law_controlled.specs.Early.{SomeWaitsLaw}
use Rattle.law_controlled.proofs.StraightLaws.{descends_straight}

within : IsWithin free_node
within = record { inputs = omega arith; outputs = (omega arith, tt); eqns = (record { targets = (omega arith, tt); clock = tt; operands = (omega arith, tt); restart = tt }, tt) }

pub some_waits_law : SomeWaitsLaw
some_waits_law a same assume enforce =
    let gates = ap (λ (m : Machine). length m.gates) same in (
      record {
        within = within;
        straight = descends_straight free_node.eqns (((omega arith, tt), tt), tt);
        no_inputs = ((omega arith, tt), tt);
        early = (omega arith, tt);
        apart = (inr (omega arith), tt);
        late = tt;
        registers = subst (λ (m : Machine). length m.init ≤ m.registers) (sym same) (omega arith);
        assume = omega (arith, assume, gates);
        enforce = omega (arith, enforce, gates);
        few = omega arith;
        bits = (refl, tt);
        widths = ap (λ (m : Machine). m.control) (sym same);
      },
      record { early = 1; bit = first_one 1 []; control = 0; chosen = first_one 0 []; waits = ([], (handed_on, first_one handed_on [], first_one 1 [], first_one 0 [])) },
    )
