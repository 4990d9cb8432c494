-- Clocked equations that are made of a node of a program that can be compiled stand for its flat names, and those of its comparisons and calls have labels.
use Rattle.std.proofs.Common.{◌≡◌, ℕ, List, [], ◌∷◌, ◌++◌, reverse, subst}
use Rattle.hp_base.specs.declared.value.Value.{Value}
use Rattle.hp_tree.specs.Instant.{Place}
use Rattle.hp_tree.specs.Meaning.{types_of, nodes}
use Rattle.hp_tree.specs.Operators.{filled}
use Rattle.hp_tree.specs.Programs.{Node, TypeDecl}
use Rattle.hp_tree.specs.declared.program.Item.{Item}
use Rattle.hp_tree.specs.declared.program.Item.TheVariants.{NodeItem}
use Rattle.hp_flat.specs.Nodes.{FlatNode}
use Rattle.law_judged.specs.Named.Scoped.{EachNode}
use Rattle.law_automata.specs.Readied.Laws.{IsWhole}
use Rattle.law_automata.proofs.LowerableLemmas.Texts.{each_reverse}
use Rattle.law_equations.specs.Flattened.Lifted.{in_body}
use Rattle.law_equations.specs.Made.Labels.{AreMadeAt, block_labels}
use Rattle.law_equations.specs.Made.Labels as made
use Rattle.law_equations.specs.Made.Making.{Known}
use Rattle.law_equations.specs.Made.Laws.{MadePlacesLaw, NodeReady, Stands}
use Rattle.hp_complete.specs.Declaring.{known_of}
use Rattle.hp_complete.specs.Made.{IsMadeOf}
use Rattle.law_choices.specs.Closed.Compilable.{HasTypesOf, IsCompilable}
use Rattle.law_choices.specs.Places.Laws.{KnowsOutputs}
use Rattle.law_choices.proofs.FlatLemmas.Among.{each_at}
use Rattle.law_choices.proofs.OnClocksLemmas.Compilable.{compiled_begun}
use Rattle.law_choices.proofs.OnClocksLemmas.WellMade.{compiled_knows}

-- Equations stand for a node, and those that compare or call are made of the labels of its body.
pub record StandsThere (k : Known) (n : Node) (f : FlatNode) : Type 0 where
  pub types : List TypeDecl
  pub outputs : List ℕ → List (List ℕ)
  pub knows : KnowsOutputs outputs k
  pub fill : Place → Value
  pub stands : Stands types outputs k fill n f
  pub labelled : AreMadeAt stands.means (made.events f.eqns) (block_labels outputs n.body in_body [])

-- So it is of those that are made of a node of a program that can be compiled.
pub stands_there : MadePlacesLaw → (program low : List Item) → HasTypesOf program low → IsCompilable low → (later earlier : List Item) (n : Node) → reverse low ≡ later ++ NodeItem n ∷ earlier → (f : FlatNode) → IsMadeOf (known_of low) n f → StandsThere (known_of low) n f
stands_there law program low t c later earlier n split f made =
    let begun = compiled_begun program low t c in
    let begins = begun.1 in
    let whole = (each_at IsWhole later n earlier (subst (EachNode IsWhole) split (each_reverse IsWhole low c.whole))).0 in
    let outputs = (nodes (types_of low) filled (reverse low)).outputs in
    let knows = compiled_knows program low t c in
    let ready : NodeReady (known_of low) (begun.0 n.name) n = record {
      inputs = whole.inputs;
      controls = whole.controls;
      outputs = whole.outputs;
      plain = whole.plain;
      defined = whole.defined;
      nothing_else = whole.nothing_else;
      first_values = begins.ready later earlier n split;
    } in
    let p = law (types_of low) outputs (known_of low) (begun.0 n.name) n f knows ready made.inputs made.outputs made.eqns in
    record { types = types_of low; outputs = outputs; knows = knows.calls; fill = begun.0 n.name; stands = p.0; labelled = p.1 }
