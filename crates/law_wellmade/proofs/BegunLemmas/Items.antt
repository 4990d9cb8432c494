-- What holds of each item of a program, by the way it is made.
use Rattle.std.proofs.Common.{◌≡◌, ℕ, Bool, true, false, if◌then◌else◌, List, [], ◌∷◌, map, Some, refl, ap, subst}
use Rattle.std.specs.Str.{bytes_eq}
use Rattle.hp_tree.specs.declared.program.Item.{Item}
use Rattle.hp_tree.specs.declared.program.Item.TheVariants.{TypeItem, NodeItem}
use Rattle.hp_tree.specs.Programs.{TypeDecl, Node}
use Rattle.hp_tree.specs.Meaning.{types_of, node_among}
use Rattle.law_judged.specs.Named.Scoped.{EachNode}
use Rattle.law_values.specs.Valued.Values.{scope_behind}
use Rattle.hp_automata.specs.Lowering.{Enumerations, lowered_item}
use Rattle.law_equations.specs.Made.Blocks.{IsPlain}
use Rattle.law_automata.specs.Readied.Laws.{IsWhole}
use Rattle.law_automata.specs.Readied.Sound.{HasOne, HaveConstructors}
use Rattle.law_values.specs.Filled.Firsts.{TypesHaveConstructors, DeclsHaveFirsts, NodeHasFirsts}
use Rattle.hp_complete.specs.Signatures.{type_names}

pub no_variables : (items : List Item) → (scope_behind items).variables ≡ []
no_variables [] = refl
no_variables (TypeItem t ∷ items) = no_variables items
no_variables (NodeItem n ∷ items) = no_variables items

pub outputs_first : (types : List TypeDecl) (items : List Item) → EachNode (NodeHasFirsts types) items → (f : List ℕ) (n : Node) → node_among items f ≡ Some n → DeclsHaveFirsts types n.outputs
outputs_first types [] h f n e = absurd (cc)
outputs_first types (TypeItem t ∷ items) h f n e = outputs_first types items h f n e
outputs_first types (NodeItem m ∷ items) h f n e = by (bytes_eq m.name f) e (outputs_first types items h.1 f n)
  where
    by : (b : Bool) → (if b then Some m else node_among items f) ≡ Some n → (node_among items f ≡ Some n → DeclsHaveFirsts types n.outputs) → DeclsHaveFirsts types n.outputs
    by true e g = let same : m ≡ n = cc in subst (λ (z : Node). DeclsHaveFirsts types z.outputs) same h.0.outputs
    by false e g = g e

pub each_plain : (items : List Item) → EachNode IsWhole items → EachNode (λ n. IsPlain n.body) items
each_plain [] h = tt
each_plain (TypeItem t ∷ items) h = each_plain items h
each_plain (NodeItem n ∷ items) h = (h.0.plain, each_plain items h.1)

pub types_low : (enums : Enumerations) (items : List Item) → types_of (map (lowered_item enums) items) ≡ types_of items
types_low enums [] = refl
types_low enums (TypeItem t ∷ items) = ap (λ ts. t ∷ ts) (types_low enums items)
types_low enums (NodeItem n ∷ items) = types_low enums items

pub names_of_types : (items : List Item) → type_names items ≡ map (λ (t : TypeDecl). t.name) (types_of items)
names_of_types [] = refl
names_of_types (TypeItem t ∷ items) = ap (λ xs. t.name ∷ xs) (names_of_types items)
names_of_types (NodeItem n ∷ items) = names_of_types items

some_one : (cs : List (List ℕ)) → (cs ≡ [] → ⊥) → HasOne cs
some_one [] f = absurd (f refl)
some_one (c ∷ cs) f = tt

pub some_constructors : (items : List Item) → TypesHaveConstructors (types_of items) → HaveConstructors items
some_constructors [] h = tt
some_constructors (TypeItem t ∷ items) h = (some_one t.cons h.0, some_constructors items h.1)
some_constructors (NodeItem n ∷ items) h = some_constructors items h
