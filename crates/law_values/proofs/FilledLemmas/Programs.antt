-- What is given fits in a program, node by node.
use Rattle.std.proofs.Common.{◌≡◌, ℕ, List, [], ◌∷◌, ◌++◌, reverse, refl, ap, subst, ◌∙◌}
use Rattle.std.specs.Prelude.{Bool, true, false, if◌then◌else◌, Some}
use Rattle.std.specs.Str.{bytes_eq}
use Rattle.hp_tree.specs.declared.program.Item.{Item}
use Rattle.hp_tree.specs.declared.program.Item.TheVariants.{TypeItem, NodeItem}
use Rattle.hp_tree.specs.Programs.{TypeDecl, Node}
use Rattle.hp_tree.specs.Instant.{Instant}
use Rattle.hp_tree.specs.Meaning.{types_of, node_among}
use Rattle.hp_tree.specs.ExpressionTypes.{type_with}
use Rattle.hp_tree.specs.Filled.{outputs_declared, firsts_of_node, firsts_among}
use Rattle.law_judged.specs.Named.Scoped.{EachNode}
use Rattle.law_values.specs.Valued.Given.{NodeGiven}
use Rattle.law_values.specs.Valued.Values.{scope_behind, either_of, Classing, class_behind, AreAccepted, GivenFits}
use Rattle.law_values.proofs.ValuedLemmas.Typed.{some_is}
use Rattle.law_values.specs.Filled.Firsts.{DeclsHaveFirsts, NodeHasFirsts}
use Rattle.law_values.specs.Filled.Laws.{FirstsFitLaw}
use Rattle.law_values.proofs.FilledLemmas.Values.{over}
use Rattle.law_values.proofs.FilledLemmas.Constructors.{types_behind, cons_behind, types_there, behind_one}
use Rattle.law_values.proofs.FilledLemmas.FirstsFit.{nil, as_given, node_fits}

pub no_variables : (items : List Item) → (scope_behind items).variables ≡ []
no_variables [] = refl
no_variables (TypeItem t ∷ earlier) = no_variables earlier
no_variables (NodeItem n ∷ earlier) = no_variables earlier

pub outputs_have : (types : List TypeDecl) (items : List Item) → EachNode (NodeHasFirsts types) items → (f : List ℕ) (n : Node) → node_among items f ≡ Some n → DeclsHaveFirsts types n.outputs
outputs_have types [] h f n e = absurd (cc)
outputs_have types (TypeItem t ∷ earlier) h f n e = outputs_have types earlier h f n e
outputs_have types (NodeItem m ∷ earlier) h f n e = by (bytes_eq m.name f) e (outputs_have types earlier h.1 f n)
  where
    by : (b : Bool) → (if b then Some m else node_among earlier f) ≡ Some n → (node_among earlier f ≡ Some n → DeclsHaveFirsts types n.outputs) → DeclsHaveFirsts types n.outputs
    by true e k = subst (λ (z : Node). DeclsHaveFirsts types z.outputs) (some_is m n e) h.0.outputs
    by false e k = k e

given_fits : (types : List TypeDecl) (class : Classing) (items : List Item) (more : List TypeDecl) → types ≡ types_behind items ++ more → AreAccepted types class items → EachNode (NodeHasFirsts types) items → (f : List ℕ) (free : Instant) → GivenFits types true nil items f free → GivenFits types false as_given items f (over (firsts_among types items f) free)
given_fits types class [] more e ok h f free g = tt
given_fits types class (TypeItem t ∷ earlier) more e ok h f free g = given_fits types class earlier (t ∷ more) (e ∙ behind_one (types_behind earlier) t more) ok h f free g
given_fits types class (NodeItem n ∷ earlier) more e ok h f free g = by (given_fits types (class_behind class) earlier more e ok.1 h.1) (bytes_eq n.name f) g
  where
    by : ((f : List ℕ) (free : Instant) → GivenFits types true nil earlier f free → GivenFits types false as_given earlier f (over (firsts_among types earlier f) free)) → (b : Bool) → either_of b (NodeGiven types true nil (GivenFits types true nil earlier) (scope_behind earlier) n free) (GivenFits types true nil earlier f free)
        → either_of b (NodeGiven types false as_given (GivenFits types false as_given earlier) (scope_behind earlier) n (over (if b then firsts_of_node types (λ g. outputs_declared (node_among earlier g)) (λ g. firsts_among types earlier g) n else firsts_among types earlier f) free))
        (GivenFits types false as_given earlier f (over (if b then firsts_of_node types (λ g. outputs_declared (node_among earlier g)) (λ g. firsts_among types earlier g) n else firsts_among types earlier f) free))
    by below true k =
        node_fits types (node_among earlier) (outputs_have types earlier h.1) (GivenFits types true nil earlier) (GivenFits types false as_given earlier) (firsts_among types earlier) below
        (scope_behind earlier) n free (no_variables earlier) (λ c u z. ap (λ r. type_with r c) e ∙ (cons_behind earlier).found c u z more) ok.0.sound h.0 k
    by below false k = below f free k

abbrev onto : List Item → List Item → List Item
onto [] ys = ys
onto (x ∷ xs) ys = onto xs (x ∷ ys)

each_onto : (P : Node → Type 0) (xs ys : List Item) → EachNode P xs → EachNode P ys → EachNode P (onto xs ys)
each_onto P [] ys u v = v
each_onto P (TypeItem t ∷ xs) ys u v = each_onto P xs (TypeItem t ∷ ys) u v
each_onto P (NodeItem n ∷ xs) ys u v = each_onto P xs (NodeItem n ∷ ys) u.1 (u.0, v)

pub each_reverse : (P : Node → Type 0) (program : List Item) → EachNode P program → EachNode P (reverse program)
each_reverse P program u = each_onto P program [] u tt

pub firsts_fit : FirstsFitLaw
firsts_fit program class f free ok h g =
    given_fits (types_of program) class (reverse program) [] (types_there program) ok (each_reverse (NodeHasFirsts (types_of program)) program h) f free g
