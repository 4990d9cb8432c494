-- That a program without its automata is ordered, as the program was before.
use Rattle.std.specs.Prelude.{ℕ, List, reverse}
use Rattle.hp_tree.specs.declared.program.Item.{Item}
use Rattle.hp_tree.specs.Programs.{Node}
use Rattle.hp_tree.specs.Meaning.{types_of}
use Rattle.hp_meaning.specs.Causal.Causality.{Ranked}
use Rattle.hp_meaning.specs.Causal.Points.{NamesDeclared}
use Rattle.hp_meaning.specs.Causal.RanksOfPoints.{RanksFall, AllFall}
use Rattle.hp_meaning.specs.Clocking.Clocking.{NodeWritten}
use Rattle.law_judged.specs.Named.Scoped.{NodeScoped, EachNode}
use Rattle.law_values.specs.Valued.Values.{Classing, AreAccepted}
use Rattle.law_values.specs.Accepted.Laws.{IsReady}
use Rattle.hp_automata.specs.Lowering.{Enumerations, lowered_node, lowered_program}
use Rattle.law_automata.specs.Lowered.Removable.{NodeOk, IsRemovable}
use Rattle.law_automata.specs.Readied.Sound.{HaveConstructors}

-- A program is ordered: its points have ranks that fall along all that they depend on, and its nodes are sound, with right clocks and with classes of which what is wanted First is First. Each clock is written.
pub record IsOrdered (program : List Item) : Type 0 where
  pub ranks : List (List ℕ)
  pub fall : AllFall program ranks
  pub classes : Classing
  pub accepted : AreAccepted (types_of program) classes (reverse program)
  pub written : EachNode NodeWritten program

-- A ranked node whose names are declared has a rank for each point, in order.
abbrev pub PointsLaw : Type 0
PointsLaw = (n : Node) → NamesDeclared n → Ranked n → (ranks : List ℕ) × RanksFall n ranks

-- The names that control equations define are declared around them, also where automata are removed.
abbrev pub DeclaredLaw : Type 0
DeclaredLaw = (enums : Enumerations) (n : Node) → NodeScoped n → NodeOk n → NamesDeclared (lowered_node enums n)

-- So a ready program whose points have ranks is ordered without its automata. Each of its enumerations has a constructor, as in every text.
abbrev pub OrderedLaw : Type 0
OrderedLaw =
    (program after : List Item) (ranks : List (List ℕ)) → IsReady program after → IsRemovable after → AllFall after ranks → HaveConstructors program
    → IsOrdered (lowered_program after)
