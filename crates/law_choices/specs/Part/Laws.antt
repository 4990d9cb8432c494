-- A part of a node answers as the node does.
-- Source: own.
use Rattle.std.specs.Prelude.{◌≡◌, codes, ℕ, List, [], ◌∷◌}
use Rattle.std.specs.List.{AllByRecursion, IsDistinct}
use Rattle.std.specs.Str.{bytes_eq}
use Rattle.hp_base.specs.Kinds.{KindData}
use Rattle.hp_obc.specs.declared.command.ObcOp.TheVariants.{Not}
use Rattle.hp_obc.specs.Steps.{Names}
use Rattle.hp_flat.specs.declared.equation.Atom.TheVariants.{Variable as Read}
use Rattle.hp_flat.specs.declared.node.FlatTy.TheVariants as flat
use Rattle.hp_flat.specs.Equations.{operator, FlatEqn}
use Rattle.hp_flat.specs.Nodes.{FlatNode}
use Rattle.law_equations.specs.Fewer.Keeping.{KeepsReactions}
use Rattle.law_equations.specs.Followed.Premises.{IsOwn, names}
use Rattle.law_equations.specs.Followed.Programs.{Answered}
use Rattle.law_equations.specs.Meaning.Reactions.{Answers}
use Rattle.law_equations.specs.Meaning.Scheduling.{IsRanked, IsWithin, DefinesNoInput}
use Rattle.law_choices.specs.Part.Part.{Renumbering, IsPart}

-- Each reaction of a node in which clocks fit remains in its part.
abbrev pub PartLaw : Type 0
PartLaw = (r : Renumbering) (n m : FlatNode) → IsPart r n m → KeepsReactions n m

-- Where equations have ranks, so have those of the part, and where the node defines no input, the part defines none.
abbrev pub RankedLaw : Type 0
RankedLaw = (r : Renumbering) (n m : FlatNode) → IsPart r n m → IsRanked n.eqns → IsRanked m.eqns

abbrev pub NoInputsLaw : Type 0
NoInputsLaw = (r : Renumbering) (n m : FlatNode) → IsPart r n m → DefinesNoInput n → DefinesNoInput m

-- The numbers in a part are those of its variables, where this is so in the node.
abbrev pub WithinLaw : Type 0
WithinLaw = (r : Renumbering) (n m : FlatNode) → IsPart r n m → IsWithin n → IsWithin m

-- Its variables have names that differ and are no names of memories or instances, where this is so in the node.
abbrev pub NamesLaw : Type 0
NamesLaw =
    (r : Renumbering) (n m : FlatNode) → IsPart r n m → IsDistinct bytes_eq (names n.variables) → AllByRecursion IsOwn (names n.variables) → IsDistinct bytes_eq (names m.variables) × AllByRecursion IsOwn (names m.variables)

-- What a node answers, its part of the same name answers.
abbrev pub AnsweredLaw : Type 0
AnsweredLaw =
    (r : Renumbering) (n m : FlatNode) (answers : Answers) (takes : Names (List KindData)) → IsPart r n m → m.name ≡ n.name → Answered answers takes n → Answered answers takes m

-- ---- a node of which one equation is left out: its variable is the one in the middle

abbrev pub not_of : ℕ → ℕ → FlatEqn
not_of x y = record { targets = x ∷ []; clock = []; right = operator Not (Read y ∷ []); restart = []; at = x }

abbrev pub whole : FlatNode
whole = record {
  name = codes "f";
  variables = record { name = codes "a"; ty = flat.Bool } ∷ record { name = codes "b"; ty = flat.Bool } ∷ record { name = codes "c"; ty = flat.Bool } ∷ [];
  inputs = 1;
  outputs = 2 ∷ [];
  eqns = not_of 1 0 ∷ not_of 2 0 ∷ [];
}

abbrev pub part : FlatNode
part = record {
  name = codes "f";
  variables = record { name = codes "a"; ty = flat.Bool } ∷ record { name = codes "c"; ty = flat.Bool } ∷ [];
  inputs = 1;
  outputs = 1 ∷ [];
  eqns = record { targets = 1 ∷ []; clock = []; right = operator Not (Read 0 ∷ []); restart = []; at = 2 } ∷ [];
}

-- It is a part.
abbrev pub SomePartLaw : Type 0
SomePartLaw = (r : Renumbering) × IsPart r whole part
