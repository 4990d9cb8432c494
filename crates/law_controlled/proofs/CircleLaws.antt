-- The clocked equations of a program that can be compiled read each other in no circle, where its places have ranks.
use Rattle.std.proofs.Common.{◌≡◌, ℕ, List, [], ◌∷◌, ◌++◌, reverse}
use Rattle.hp_base.specs.declared.value.Value.{Value}
use Rattle.hp_tree.specs.Instant.{Place}
use Rattle.hp_tree.specs.Meaning.{types_of, nodes}
use Rattle.hp_tree.specs.Operators.{filled}
use Rattle.hp_tree.specs.Programs.{Node}
use Rattle.hp_tree.specs.declared.program.Item.{Item}
use Rattle.hp_tree.specs.declared.program.Item.TheVariants.{TypeItem, NodeItem}
use Rattle.hp_meaning.specs.Causal.Causality.{IsRanked}
use Rattle.law_judged.specs.Named.Scoped.{EachNode}
use Rattle.law_automata.specs.Readied.Laws.{IsWhole}
use Rattle.law_equations.specs.Made.Making.{Known}
use Rattle.law_equations.specs.Made.Laws.{NodeReady}
use Rattle.hp_complete.specs.Declaring.{known_of}
use Rattle.hp_complete.specs.Made.{HasCircle}
use Rattle.law_wellmade.specs.Acyclic.Laws.{NoCircleLaw}
use Rattle.law_wellmade.specs.Begun.Laws.{BodyReady}
use Rattle.law_history.proofs.StreamsLemmas.Asked.{Splits, split_first, split_next}
use Rattle.law_choices.specs.Closed.Compilable.{HasTypesOf, IsCompilable}
use Rattle.law_choices.proofs.OnClocksLemmas.Compilable.{compiled_begun}
use Rattle.law_choices.proofs.OnClocksLemmas.WellMade.{compiled_knows}

module _ (k : Known) (fills : List ℕ → Place → Value) (items : List Item) (begun : (later earlier : List Item) (n : Node) → items ≡ later ++ NodeItem n ∷ earlier → BodyReady k (fills n.name) n) where
  -- whole nodes whose registers begin are ready
  nodes_ready : (before rest : List Item) → Splits items before rest → EachNode IsWhole rest → EachNode (λ (n : Node). NodeReady k (fills n.name) n) rest
  nodes_ready before [] e w = tt
  nodes_ready before (TypeItem t ∷ rest) e w = nodes_ready (TypeItem t ∷ before) rest (split_next items before rest (TypeItem t) e) w
  nodes_ready before (NodeItem n ∷ rest) e w =
      let next = split_next items before rest (NodeItem n) e in
      let whole = w.0 in (
        record {
          inputs = whole.inputs;
          controls = whole.controls;
          outputs = whole.outputs;
          plain = whole.plain;
          defined = whole.defined;
          nothing_else = whole.nothing_else;
          first_values = begun (reverse rest) before n next;
        },
        nodes_ready (NodeItem n ∷ before) rest next w.1,
      )

pub no_circle : NoCircleLaw → (program low : List Item) → HasTypesOf program low → IsCompilable low → IsRanked low → HasCircle (known_of low) low → ⊥
no_circle law program low t c ranked circle =
    let begun = compiled_begun program low t c in
    let begins = begun.1 in
    law (types_of low) (nodes (types_of low) filled (reverse low)).outputs (known_of low) begun.0 low (compiled_knows program low t c) (nodes_ready (known_of low) begun.0 (reverse low) begins.ready [] low (split_first low) c.whole) ranked c.clocks
    circle
