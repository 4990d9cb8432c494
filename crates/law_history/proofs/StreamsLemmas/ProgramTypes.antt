-- What types of machines that have form say of the types of their program.
use Rattle.std.proofs.Common.{◌≡◌, List, [], ◌∷◌, ◌++◌, map, refl, sym, ap, subst, arith}
use Rattle.std.specs.Prelude.{reverse}
use Rattle.std.specs.List.{All, IsDistinct}
use Rattle.std.specs.Str.{bytes_eq}
use Rattle.std.proofs.lemmas.List.{length-map}
use Rattle.std.proofs.lemmas.List.Elements.{All-head, All-tail}
use Rattle.hp_obc.specs.Form as form
use Rattle.hp_obc.specs.Form.{TypesForm, HasConstructors}
use Rattle.hp_obc.specs.Machines.{ObcType}
use Rattle.hp_tree.specs.Meaning.{types_of, names_of, nodes, controls_of}
use Rattle.hp_tree.specs.Operators.{filled}
use Rattle.hp_tree.specs.Programs.{TypeDecl}
use Rattle.hp_tree.specs.declared.program.Item.{Item}
use Rattle.hp_tree.specs.declared.program.Item.TheVariants.{TypeItem, NodeItem}
use Rattle.law_judged.specs.Named.Scoped.{EachNode}
use Rattle.hp_complete.specs.KnownLaw.{ItemsFit, KnownLaw}
use Rattle.hp_complete.specs.Declaring.{known_of}
use Rattle.hp_complete.specs.Signatures.{type_names}
use Rattle.law_equations.specs.Made.Standing.{Knows}
use Rattle.law_equations.specs.Fitting.Fitting.{NodeNamed}
use Rattle.law_equations.specs.Made.Types.{obc_type_of, obc_types_of}
use Rattle.law_history.proofs.StreamsLemmas.TypesOfKinds.{all_constructors, distinct_last}

names_of_types : (items : List Item) → type_names items ≡ map (λ (t : ObcType). t.name) (obc_types_of items)
names_of_types [] = refl
names_of_types (TypeItem t ∷ items) = ap (λ xs. t.name ∷ xs) (names_of_types items)
names_of_types (NodeItem n ∷ items) = names_of_types items

constructors_are : (types : List TypeDecl) → form.constructors_of (map obc_type_of types) ≡ all_constructors types
constructors_are [] = refl
constructors_are (t ∷ types) = ap (λ cs. t.cons ++ cs) (constructors_are types)

items_fit : (items : List Item) → All HasConstructors (obc_types_of items) → EachNode NodeNamed items → ItemsFit items
items_fit [] h named = tt
items_fit (TypeItem t ∷ items) h named =
    let counts = All-head HasConstructors (obc_type_of t) (obc_types_of items) h in
    let few = counts.1 in
    (omega (arith, few), items_fit items (All-tail HasConstructors (obc_type_of t) (obc_types_of items) h) named)
items_fit (NodeItem n ∷ items) h named = let own = named.0 in (distinct_last (names_of (n.inputs ++ controls_of n.contract)) (names_of n.outputs) own.differ, items_fit items h named.1)

module _ (items : List Item) (fits : TypesForm (obc_types_of items)) where
  -- What is known of the names of a program agrees with it.
  pub program_known : KnownLaw → EachNode NodeNamed items → Knows (types_of items) (nodes (types_of items) filled (reverse items)).outputs (known_of items)
  program_known law named =
      let number = fits.number in
      let many = length-map (types_of items) obc_type_of in
      law filled items (subst (IsDistinct bytes_eq) (sym (names_of_types items)) fits.names.1) (omega (arith, number, many)) (items_fit items fits.counts named)

  pub program_distinct : IsDistinct bytes_eq (all_constructors (types_of items))
  program_distinct = subst (IsDistinct bytes_eq) (constructors_are (types_of items)) fits.distinct
