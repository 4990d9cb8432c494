-- The outputs of the nodes of a ready program are known without its automata.
use Rattle.std.proofs.Common.{◌≡◌, ℕ, List, [], ◌∷◌, ◌++◌, map, reverse, Option, None, Some, refl, sym, ap, ◌∙◌}
use Rattle.std.specs.Prelude.{option_map}
use Rattle.std.proofs.lemmas.List.{map-append}
use Rattle.hp_base.specs.Known.Known.{lookup}
use Rattle.hp_obc.specs.Form.{TypesForm}
use Rattle.hp_tree.specs.declared.program.Item.{Item}
use Rattle.hp_tree.specs.declared.program.Item.TheVariants.{NodeItem}
use Rattle.hp_tree.specs.Blocks.{Decl}
use Rattle.hp_tree.specs.Meaning.{node_among, types_of}
use Rattle.hp_tree.specs.Programs.{TypeDecl, Node}
use Rattle.hp_meaning.specs.Contract.FreePlaces.{declared_outputs}
use Rattle.law_judged.specs.Typed.Scopes.{Scope}
use Rattle.law_values.specs.Accepted.Laws.{IsReady}
use Rattle.hp_automata.specs.Lowering.{Enumerations, enumerations, lowered_item, lowered_node, lowered_program}
use Rattle.law_automata.specs.Lowered.Removable.{IsRemovable}
use Rattle.law_automata.proofs.LowerableLemmas.Runs.{lowered_among}
use Rattle.law_automata.proofs.LoweredLemmas.Programs.{map_reverse}
use Rattle.law_equations.specs.Made.Making.{Known, outputs_of}
use Rattle.law_equations.specs.Made.Types.{obc_types_of}
use Rattle.hp_complete.specs.Declaring.{known_of}
use Rattle.hp_complete.proofs.KnownLaws.{nodes-known}
use Rattle.law_games.specs.ReadyGames.Laws.{Stands}
use Rattle.law_wellmade.proofs.BegunLemmas.Typing.{Grounded}
use Rattle.law_choices.specs.Seeing.Around.{outputs_in}

module _ (program after : List Item) (r : IsReady program after) (removable : IsRemovable after) (form : TypesForm (obc_types_of program)) where
  abbrev enums : Enumerations
  enums = enumerations [] after

  abbrev low_program : List Item
  low_program = lowered_program after

  abbrev k : Known
  k = known_of low_program

  abbrev types : List TypeDecl
  types = types_of after

  abbrev outs : List ℕ → List Decl
  outs f = outputs_in after f

  -- the outputs of nodes stay
  pub outs-same : (o : Option Node) → declared_outputs (option_map (lowered_node enums) o) ≡ declared_outputs o
  outs-same None = refl
  outs-same (Some n) = refl

  known-outputs : (o : Option Node) → outputs_of o ≡ declared_outputs o
  known-outputs None = refl
  known-outputs (Some n) = refl

  outs-known : (f : List ℕ) → declared_outputs (k.nodes f) ≡ outs f
  outs-known f =
      ap declared_outputs (nodes-known low_program f) ∙ ap (λ xs. declared_outputs (node_among xs f)) (map_reverse (lowered_item enums) after) ∙ ap declared_outputs (lowered_among enums (reverse after) f)
      ∙ outs-same (node_among (reverse after) f)

  pub outputs-known : (f : List ℕ) → outputs_of (k.nodes f) ≡ outs f
  outputs-known f = known-outputs (k.nodes f) ∙ outs-known f

  pub outs-are : (s : Scope) → Grounded k s → (f : List ℕ) (n : Node) → lookup s.nodes f ≡ Some n → outs f ≡ n.outputs
  outs-are s ground f n h = sym (outs-known f) ∙ ap declared_outputs (ground.nodes f n h)

  pub low-stands : (earlier : List Item) (n : Node) → Stands after earlier n → (later : List Item) × (reverse low_program ≡ later ++ NodeItem (lowered_node enums n) ∷ map (lowered_item enums) earlier)
  low-stands earlier n e = (map (lowered_item enums) e.0, map_reverse (lowered_item enums) after ∙ ap (map (lowered_item enums)) e.1 ∙ map-append (lowered_item enums) e.0 (NodeItem n ∷ earlier))
