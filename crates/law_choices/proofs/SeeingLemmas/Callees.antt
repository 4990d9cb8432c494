-- The outputs of nodes have the kinds of their types, by numbers of types and by their names.
use Rattle.std.proofs.Common.{◌≡◌, ℕ, List, [], ◌∷◌, map, Option, None, Some, refl}
use Rattle.std.specs.Prelude.{reverse}
use Rattle.std.specs.List.{AllByRecursion}
use Rattle.hp_base.specs.Kinds.{KindData}
use Rattle.hp_obc.specs.Form.{TypesForm}
use Rattle.hp_tree.specs.declared.program.Item.{Item}
use Rattle.hp_tree.specs.Blocks.{Decl}
use Rattle.hp_tree.specs.Programs.{Node}
use Rattle.hp_tree.specs.Meaning.{node_among, types_of}
use Rattle.hp_meaning.specs.Contract.FreePlaces.{declared_outputs}
use Rattle.law_values.specs.Accepted.Laws.{IsReady}
use Rattle.law_values.specs.Filled.Firsts.{NodeHasFirsts}
use Rattle.law_values.proofs.FilledLemmas.Ready.{ready_firsts}
use Rattle.law_automata.proofs.LowerableLemmas.Texts.{each_reverse}
use Rattle.hp_automata.specs.Lowering.{lowered_program}
use Rattle.law_equations.specs.Made.Making.{flat_type}
use Rattle.law_equations.specs.Made.Types.{obc_types, obc_types_of}
use Rattle.law_equations.specs.Meaning.Kinding.{kind_of_type}
use Rattle.hp_complete.specs.Declaring.{known_of}
use Rattle.law_history.proofs.StreamsLemmas.NamesApart.{each_found}
use Rattle.law_wellmade.specs.Timely.Kinds as timely
use Rattle.law_choices.specs.Seeing.Around.{outputs_in}
use Rattle.law_choices.proofs.AnsweredLemmas.Programs.{decls_kinds}
use Rattle.law_choices.proofs.OnClocksLemmas.Programs.{some_of}
use Rattle.law_choices.proofs.SeeingLemmas.Listed.{SameKind}

-- ---- the kinds of outputs

each-same : (f g : Decl → KindData) (ds : List Decl) → map f ds ≡ map g ds → AllByRecursion (λ (d : Decl). f d ≡ g d) ds
each-same f g [] h = tt
each-same f g (d ∷ ds) h = (cc, each-same f g ds cc)

-- they are the same by numbers of types and by their names
pub output-kinds : (program after : List Item) → IsReady program after → TypesForm (obc_types_of program) → (f : List ℕ)
    → AllByRecursion (λ (d : Decl). SameKind (obc_types (types_of after)) (types_of after) (known_of (lowered_program after)) d.ty) (outputs_in after f)
output-kinds program after r form f = by (node_among (reverse after) f) refl
  where
    by : (o : Option Node) → node_among (reverse after) f ≡ o → AllByRecursion (λ (d : Decl). SameKind (obc_types (types_of after)) (types_of after) (known_of (lowered_program after)) d.ty) (declared_outputs o)
    by None e = tt
    by (Some n) e =
        let firsts = each_found (NodeHasFirsts (types_of after)) (reverse after) f n (each_reverse (NodeHasFirsts (types_of after)) after (ready_firsts program after r (some_of (types_of program) form.counts))) e in
        each-same (λ (d : Decl). kind_of_type (obc_types (types_of after)) (flat_type ((known_of (lowered_program after)).types) d.ty)) (λ (d : Decl). timely.kind_of (types_of after) d.ty) n.outputs (decls_kinds program after r form n.outputs firsts.outputs)
