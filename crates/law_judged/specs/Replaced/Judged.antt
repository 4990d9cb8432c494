-- What judged programs give where their inlined calls are replaced.
use Rattle.std.specs.Prelude.{ℕ, ◌<◌, ⊤, List, [], ◌∷◌}
use Rattle.hp_tree.specs.declared.program.Item.{Item}
use Rattle.hp_tree.specs.declared.program.Item.TheVariants.{TypeItem, NodeItem}
use Rattle.hp_tree.specs.Programs.{Node}
use Rattle.hp_names.specs.Rules.{WellNamed}
use Rattle.hp_typing.specs.Rules.{WellTyped}
use Rattle.hp_typing.specs.DefinitionRules.{WellDefined}
use Rattle.law_judged.specs.Typed.Merges.{MergesHaveParts}
use Rattle.law_judged.specs.Typed.Typed.{HaveTypes}
use Rattle.hp_meaning.specs.Causal.Points.{NamesDeclared}
use Rattle.hp_meaning.specs.Clocking.Clocking.{NodeNamed}
use Rattle.hp_expand.specs.Formed.{KeepsLimits}
use Rattle.hp_expand.specs.Replacing.{in_node}
use Rattle.hp_expand.specs.Numbering.{replaced_node, with_node, no_node, replaced}
use Rattle.law_judged.specs.Named.Scoped.{NodeScoped, EachNode}
use Rattle.law_judged.specs.Replaced.Inlined.{in_node as inlined_in_node}
use Rattle.law_judged.specs.Replaced.Fitting.{IsPlain, NodeNames, NodeFits}
use Rattle.law_judged.specs.Replaced.Laws.{FewCalls, FewVariables}

-- Each inlined call of a program fits the node that it calls.
abbrev pub CallsFit : (List ℕ → Node) → List Item → Type 0
CallsFit nodes [] = ⊤
CallsFit nodes (TypeItem t ∷ items) = CallsFit nodes items
CallsFit nodes (NodeItem n ∷ items) = NodeFits nodes n × CallsFit (with_node nodes (replaced_node nodes n)) items

-- So it is where names are well used and each expression has a type.
abbrev pub CallsFitLaw : Type 0
CallsFitLaw = (program : List Item) → WellNamed program → HaveTypes program → CallsFit no_node program

-- There are marks enough for the inlined calls of each node, and numbers enough for its new variables.
abbrev pub AllFewCalls : (List ℕ → Node) → List Item → Type 0
AllFewCalls nodes [] = ⊤
AllFewCalls nodes (TypeItem t ∷ items) = AllFewCalls nodes items
AllFewCalls nodes (NodeItem n ∷ items) = FewCalls nodes n × AllFewCalls (with_node nodes (replaced_node nodes n)) items

abbrev pub AllFewVariables : (List ℕ → Node) → List Item → Type 0
AllFewVariables nodes [] = ⊤
AllFewVariables nodes (TypeItem t ∷ items) = AllFewVariables nodes items
AllFewVariables nodes (NodeItem n ∷ items) = FewVariables (in_node nodes n) × AllFewVariables (with_node nodes (replaced_node nodes n)) items

-- A program whose counts are within the limits has no more new variables than there are numbers.
abbrev pub FewVariablesLaw : Type 0
FewVariablesLaw = (program : List Item) → KeepsLimits program → AllFewVariables no_node program

-- In the replaced program of a judged one names are in their scopes. The names of the program have no sign, as in each text, each
-- `merge` has a part, and no node has 1,000,000 inlined calls, for which a text has no room.
abbrev pub JudgedReplacedLaw : Type 0
JudgedReplacedLaw =
    (program : List Item) → WellNamed program → WellTyped program → WellDefined program → KeepsLimits program → MergesHaveParts program → EachNode (NodeNames IsPlain) program → EachNode (λ n. inlined_in_node n < 1000000) program
    → EachNode (λ n. NodeScoped n × NodeNamed n × NamesDeclared n) (replaced program)
