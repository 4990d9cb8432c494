-- A machine that gives no value at all. Its line is blank, as that of a machine without outputs; and such a line is no answer.
use Rattle.std.proofs.Common.{◌≡◌, List, [], ◌∷◌, codes, pos, refl, subst}
use Rattle.std.specs.List.{AllByRecursion, flat_map}
use Rattle.hp_base.specs.Kinds.{AreOfKinds, Bools}
use Rattle.hp_base.specs.declared.ty.Ty.TheVariants.{Bool as BoolTy, Int as IntTy}
use Rattle.hp_base.specs.declared.value.Value.{Value}
use Rattle.hp_base.specs.declared.value.Value.TheVariants.{Absent, I}
use Rattle.hp_obc.specs.Commands.{done, and_then, set}
use Rattle.hp_obc.specs.Machines.{Machine, Obc}
use Rattle.hp_obc.specs.Steps.{machine_behaviour, run}
use Rattle.hp_obc.specs.declared.command.Arg.TheVariants.{Name as NameArg}
use Rattle.hp_obc.specs.declared.command.ObcOp.TheVariants.{Not}
use Rattle.hp_driver.specs.Answers.{IsAnswer}
use Rattle.hp_driver.specs.Systems.{of_machine, line_in}

-- it gives the negation of an integer, so it has no form
abbrev confused : Machine
confused = record {
  name = codes "f";
  inputs = record { name = codes "x"; ty = IntTy } ∷ [];
  outputs = record { name = codes "y"; ty = BoolTy } ∷ [];
  vars = [];
  mems = [];
  insts = [];
  step = and_then (set (codes "y") Not (NameArg (codes "x") ∷ [])) done;
}

abbrev confuses : Obc
confuses = record { types = []; machines = confused ∷ [] }

abbrev nothing_given : List (List Value)
nothing_given = (Absent ∷ []) ∷ []

pub gives_nothing : run (machine_behaviour confuses (codes "f")) ((I (pos 0) ∷ []) ∷ []) ≡ nothing_given
gives_nothing = refl

pub line_is_blank : flat_map (line_in (of_machine confuses (codes "f"))) nothing_given ≡ codes "\n"
line_is_blank = refl

pub is_no_answer : IsAnswer (of_machine confuses (codes "f")) (codes "0" ∷ []) (codes "\n") → ⊥
is_no_answer a =
    let outputs : a.outputs ≡ nothing_given = a.run in
    (subst (AllByRecursion (AreOfKinds (Bools ∷ []))) outputs a.kinds).0.0
