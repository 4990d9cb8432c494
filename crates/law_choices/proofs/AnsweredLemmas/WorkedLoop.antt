-- Worked: a node whose controllable variable is the negation of its input. It meets each premise of the laws of closed nodes, and where its input is true the choice is false.
use Rattle.std.proofs.Common.{◌≡◌, inl, true, false, List, [], ◌∷◌, refl, ap, ◌∙◌, arith}
use Rattle.std.specs.Prelude.{IsTrue}
use Rattle.std.specs.List.{IsDistinct}
use Rattle.hp_base.specs.Kinds.{KindData, Bools, IsOfKind}
use Rattle.hp_base.specs.declared.value.Value.{Value}
use Rattle.hp_base.specs.declared.value.Value.TheVariants.{Absent, Nil, B, E, I, Star}
use Rattle.hp_obc.specs.Steps.{Names}
use Rattle.hp_obc.specs.Values.{unary}
use Rattle.hp_obc.specs.declared.command.ObcOp.TheVariants.{Not, And}
use Rattle.hp_flat.specs.declared.equation.Atom.TheVariants.{Variable as Read}
use Rattle.hp_flat.specs.declared.node.FlatTy.TheVariants.{Bool as FlatBool}
use Rattle.hp_flat.specs.declared.node.Variable.{Variable}
use Rattle.hp_flat.specs.Equations.{operator, FlatEqn}
use Rattle.hp_flat.specs.Nodes.{FlatNode}
use Rattle.law_equations.specs.Meaning.Fitting.{is_there}
use Rattle.law_equations.specs.Meaning.Kinding.{Callees, EqnKinds, IsWellMade}
use Rattle.hp_controller.specs.Extending.{Extends}
use Rattle.law_choices.specs.OnClocks.Meaning as plain
use Rattle.law_choices.specs.OnClocks.Meaning.{HasOneMeaning}
use Rattle.law_choices.specs.Choosing.Meaning.{AreInTurn}
use Rattle.law_choices.specs.Answered.Loops.{Loop, IsLoop, SameOutputs, AnswersChosen, plants, ExtendedLoopLaw, LoopsLaw}

-- ---- the nodes

-- an input, a controllable variable and an output
abbrev variables : List Variable
variables = record { name = 120 ∷ []; ty = FlatBool } ∷ record { name = 99 ∷ []; ty = FlatBool } ∷ record { name = 111 ∷ []; ty = FlatBool } ∷ []

-- the output is the conjunction of both
abbrev its_output : FlatEqn
its_output = record { targets = 2 ∷ []; clock = []; right = operator And (Read 0 ∷ Read 1 ∷ []); restart = []; at = 1 }

-- the controllable variable is the negation of the input
abbrev its_control : FlatEqn
its_control = record { targets = 1 ∷ []; clock = []; right = operator Not (Read 0 ∷ []); restart = []; at = 0 }

abbrev plant : FlatNode
plant = record { name = 102 ∷ []; variables = variables; inputs = 2; outputs = 2 ∷ []; eqns = its_output ∷ [] }

abbrev closed : FlatNode
closed = record { name = 102 ∷ []; variables = variables; inputs = 1; outputs = 2 ∷ []; eqns = its_output ∷ its_control ∷ [] }

abbrev loop : Loop
loop = record { plant = plant; closed = closed }

-- ---- what both are

is_loop : IsLoop 1 loop
is_loop = record { name = refl; inputs = refl; within = omega arith; variables = ([], refl); defined = λ now. (refl, tt) }

same_outputs : SameOutputs loop
same_outputs = record { outputs = refl; within = (omega arith, tt) }

extends : Extends plant closed 1 (its_control ∷ [])
extends = record {
  inputs = refl;
  variables = omega arith;
  within = (record { targets = (omega arith, tt); clock = tt; operands = (omega arith, (omega arith, tt)); restart = tt }, tt);
  eqns = refl;
  targets = ((inl (omega arith), tt), tt);
}

-- ---- kinds

abbrev callees : Callees
callees = record { takes = λ f. Bools ∷ []; gives = λ f. Bools ∷ [] }

abbrev controls : Names (List KindData)
controls f = Bools ∷ []

bool_there : (v : Value) → IsOfKind Bools v → IsTrue (is_there v)
bool_there (B b) h = refl
bool_there Absent h = absurd h
bool_there Nil h = absurd h
bool_there Star h = absurd h
bool_there (E t c) h = absurd h
bool_there (I n) h = absurd h

-- the kind of the output, and that of the controllable variable
output_kinds : EqnKinds [] callees variables its_output
output_kinds = record { right = (Bools ∷ Bools ∷ [], (refl, (refl, tt)), Bools, refl, refl); clock = tt; restart = tt }

control_kinds : EqnKinds [] callees variables its_control
control_kinds = record { right = (Bools ∷ [], (refl, tt), Bools, refl, refl); clock = tt; restart = tt }

no : {P : Type 0} → false ≡ true → P
no h = absurd cc

plant_well : IsWellMade [] callees plant
unfolding IsDistinct
plant_well = record {
  ranked = (((no, tt), ((no, tt), tt)), tt);
  no_inputs = ((omega arith, tt), tt);
  targets_differ = ((tt, tt), tt);
  values = (tt, (tt, (tt, tt)));
  kinds = (output_kinds, tt);
  fit = λ now p.
      record { outputs = (bool_there (now 2) (p 2), tt); clocks = (tt, tt); operands_there = ((λ h. (bool_there (now 0) (p 0), (bool_there (now 1) (p 1), tt))), tt); exclusive = ((λ h. tt), tt) };
}

closed_well : IsWellMade [] callees closed
unfolding IsDistinct
closed_well = record {
  ranked = (((no, (no, tt)), ((no, ((λ h. omega arith), tt)), tt)), (((no, (no, tt)), tt), tt));
  no_inputs = ((omega arith, tt), ((omega arith, tt), tt));
  targets_differ = ((tt, tt), ((tt, tt), tt));
  values = (tt, (tt, (tt, tt)));
  kinds = (output_kinds, (control_kinds, tt));
  fit = λ now p.
      record {
        outputs = (bool_there (now 2) (p 2), tt);
        clocks = (tt, (tt, tt));
        operands_there = ((λ h. (bool_there (now 0) (p 0), (bool_there (now 1) (p 1), tt))), ((λ h. (bool_there (now 0) (p 0), tt)), tt));
        exclusive = ((λ h. ((λ g. (refl, tt)), tt)), ((λ h. tt), tt));
      };
}

plants_in_turn : AreInTurn [] callees controls [] (plants (loop ∷ []))
plants_in_turn = (plant_well, record { takes = refl; gives = refl }, refl, (tt, tt), tt)

closed_in_turn : plain.AreInTurn [] callees [] (closed ∷ [])
closed_in_turn = (closed_well, record { takes = refl; gives = refl }, refl, (tt, (tt, tt)), tt)

-- ---- what is answered

module _ (meaning : plain.MeaningLaw) (extended : ExtendedLoopLaw) (loops : LoopsLaw) where
  abbrev one : HasOneMeaning callees (closed ∷ [])
  one = meaning [] callees (closed ∷ []) closed_in_turn (λ f. (tt, tt))

  chosen : AnswersChosen callees.takes controls one.answers (loop ∷ [])
  chosen = loops [] callees callees controls (loop ∷ []) (closed ∷ []) plants_in_turn (λ f. (tt, tt)) closed_in_turn ((0, omega arith, refl), tt) one (extended 1 (its_control ∷ []) loop is_loop same_outputs extends one.answers, tt)

  -- where the input is true, false is chosen
  not_chosen : chosen.choices (102 ∷ []) (B true ∷ []) [] ≡ B false ∷ []
  not_chosen =
      let y = one.answered.0 (B true ∷ []) [] (tt, tt) tt in
      let r = y.reaction in
      let here = r.1 in
      let input : y.now 0 ≡ B true = ap first here.inputs_are in
      let control : y.now 1 ≡ negated (y.now 0) = ap first (here.equations.1.0 refl) in
      chosen.theirs.0 (B true ∷ []) [] (tt, tt) tt y.now y.past r ∙ ap (λ v. v ∷ []) (control ∙ ap negated input)
    where
      first : List Value → Value
      first [] = Absent
      first (v ∷ vs) = v

      negated : Value → Value
      negated v = unary Not v
