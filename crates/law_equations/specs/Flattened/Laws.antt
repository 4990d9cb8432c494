-- What is proved of flattening.
use Rattle.std.specs.Prelude.{ℕ, List}
use Rattle.hp_base.specs.declared.value.Value.{Value}
use Rattle.hp_tree.specs.Programs.{TypeDecl, Node}
use Rattle.hp_tree.specs.Operators.{filled}
use Rattle.hp_tree.specs.Instant.{Place, Instant, Past}
use Rattle.hp_tree.specs.Meaning.{Nodes, node}
use Rattle.law_equations.specs.Flattened.Flat.{Behaviours, FlatReaction}
use Rattle.law_equations.specs.Flattened.Flatten.{flatten}
use Rattle.law_equations.specs.Flattened.Timely.{Lowered}
use Rattle.law_equations.specs.Flattened.Lifted.{Reacts, lifts, all_inputs, GivesInputs, IsFill, AllFilled, in_body, NodeTimely}
use Rattle.law_equations.specs.Flattened.Behaves.{IsFine, EachCallIn}

-- Under the filled reading each reaction of a node without automata is a flat reaction of its flat equations, where each expression has a value exactly
-- where its clock is there, and each callee behaves.
abbrev pub FlattenLaw : Type 0
FlattenLaw = (types : List TypeDecl) (N : Nodes) (does : Behaviours) (fills : List ℕ → Place → Value) (fill : Place → Value) (n : Node) (inputs : List (List Value)) (frees : List Instant) (past : Past) → Lowered n.body → EachCallIn (IsFine N does (λ f. IsFill (fills f)) (IsFill fill)) n.body in_body → Reacts (node types filled N n) inputs frees past → AllFilled fill frees → NodeTimely types N.outputs n (lifts n inputs frees past) → FlatReaction does (flatten types N.outputs fill n) GivesInputs (all_inputs n inputs frees) (lifts n inputs frees past)
