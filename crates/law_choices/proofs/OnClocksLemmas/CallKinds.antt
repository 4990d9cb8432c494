-- The kinds of equations that are made agree, where calls give nodes their inputs, whatever controllable variables these have.
use Rattle.std.proofs.Common.{◌≡◌, ℕ, List, [], ◌∷◌, ◌++◌, Option, None, Some, refl, sym, ap, subst, ◌∙◌}
use Rattle.std.specs.List.{AllByRecursion}
use Rattle.std.proofs.lemmas.List.{append-nil}
use Rattle.hp_obc.specs.Machines.{ObcType}
use Rattle.hp_tree.specs.Blocks.{Decl}
use Rattle.hp_tree.specs.declared.program.Item.{Item}
use Rattle.hp_tree.specs.Programs.{Node}
use Rattle.hp_tree.specs.Meaning.{types_of, controls_of}
use Rattle.law_judged.specs.Named.Scoped.{EachNode}
use Rattle.hp_flat.specs.declared.node.FlatTy.{FlatTy}
use Rattle.hp_flat.specs.Equations.{Right, operator, register, called, FlatEqn}
use Rattle.hp_flat.specs.Nodes.{FlatNode}
use Rattle.law_equations.specs.Meaning.Kinding.{Callees, EqnKinds}
use Rattle.law_equations.specs.Made.Making.{Known, Sketch, flat_type, outputs_of}
use Rattle.law_equations.specs.Made.Types.{obc_types}
use Rattle.hp_complete.specs.Declaring.{known_of}
use Rattle.hp_complete.specs.Made.{AreMadeOf}
use Rattle.law_equations.specs.Followed.Premises.{constants_of}
use Rattle.law_equations.specs.Answered.Short.{AreShort, ConstantsShort}
use Rattle.law_wellmade.specs.Spelled.Integers.{NodeShort}
use Rattle.law_wellmade.specs.Regular.Kinds.{kinds_of_decls, taken_by, program_callees}
use Rattle.law_wellmade.proofs.RegularLemmas.Good.{types_of_decls, inputs_of, ArgsTyped, RightTyped, EqnGood}
use Rattle.law_wellmade.proofs.RegularLemmas.GoodPrograms.{NodeGood}
use Rattle.law_wellmade.proofs.RegularLemmas.KindFacts.{eqn_kinds}
use Rattle.law_wellmade.proofs.RegularLemmas.RegularLaws.{constants}
use Rattle.law_choices.proofs.ClosedLemmas.ClosedLaws.{each_both}
use Rattle.law_choices.specs.OnClocks.WellMade.{given_to, calls_of}
use Rattle.law_choices.specs.Closed.Compilable.{HasTypesOf, IsCompilable}
use Rattle.law_choices.proofs.OnClocksLemmas.Compilable.{compiled_good}

-- ---- the same nodes without their controllable variables

abbrev bare : Option Node → Option Node
bare None = None
bare (Some n) = Some (record n { contract = None })

abbrev without_controls : Known → Known
without_controls k = record { types = k.types; constructors = k.constructors; nodes = λ f. bare (k.nodes f) }

none_left : (k : Known) (f : List ℕ) (n : Node) → (without_controls k).nodes f ≡ Some n → controls_of n.contract ≡ []
none_left k f n = by (k.nodes f)
  where
    by : (o : Option Node) → bare o ≡ Some n → controls_of n.contract ≡ []
    by None e = absurd cc
    by (Some m) e = let same : record m { contract = None } ≡ n = cc in subst (λ (z : Node). controls_of z.contract ≡ []) same refl

module _ (types : List ObcType) (k : Known) where
  same_types : (ds : List Decl) → types_of_decls k ds ≡ types_of_decls (without_controls k) ds
  same_types [] = refl
  same_types (d ∷ ds) = ap (λ ts. flat_type k.types d.ty ∷ ts) (same_types ds)

  right_bare : (d : Sketch) (right : Right) (ts : List FlatTy) → RightTyped types k d right ts → RightTyped types (without_controls k) d right ts
  right_bare d (operator op args) ts h = h
  right_bare d (register first next) ts h = h
  right_bare d (called f args) ts h = by (k.nodes f) h
    where
      by : (o : Option Node) → ArgsTyped types d args (types_of_decls k (inputs_of o)) × (ts ≡ types_of_decls k (outputs_of o))
          → ArgsTyped types d args (types_of_decls (without_controls k) (inputs_of (bare o))) × (ts ≡ types_of_decls (without_controls k) (outputs_of (bare o)))
      by None h = h
      by (Some n) h = (subst (ArgsTyped types d args) (same_types n.inputs) h.0, h.1 ∙ same_types n.outputs)

  good_bare : (d : Sketch) (e : FlatEqn) → EqnGood types k d e → EqnGood types (without_controls k) d e
  good_bare d e h = record { clock = h.clock; restart = h.restart; given = h.given; targets = h.targets; right = right_bare d e.right h.given h.right }

  -- what calls give these nodes is what they give the nodes
  same_callees : program_callees types (without_controls k) ≡ calls_of types k
  same_callees = λ i. record { takes = λ f. takes (k.nodes f) i; gives = λ f. gives (k.nodes f) i }
    where
      takes : (o : Option Node) → kinds_of_decls types (without_controls k) (taken_by (bare o)) ≡ kinds_of_decls types k (given_to o)
      takes None = refl
      takes (Some n) = ap (kinds_of_decls types k) (append-nil n.inputs)

      gives : (o : Option Node) → kinds_of_decls types (without_controls k) (outputs_of (bare o)) ≡ kinds_of_decls types k (outputs_of o)
      gives None = refl
      gives (Some n) = refl

  -- where no node has a controllable variable they are what calls are asked to give
  pub uncontrolled_callees : ((f : List ℕ) (n : Node) → k.nodes f ≡ Some n → controls_of n.contract ≡ []) → program_callees types k ≡ calls_of types k
  uncontrolled_callees none = λ i. record { takes = λ f. takes f (k.nodes f) refl i; gives = λ f. kinds_of_decls types k (outputs_of (k.nodes f)) }
    where
      takes : (f : List ℕ) (o : Option Node) → k.nodes f ≡ o → kinds_of_decls types k (taken_by o) ≡ kinds_of_decls types k (given_to o)
      takes f None e = refl
      takes f (Some n) e = ap (λ ds. kinds_of_decls types k (n.inputs ++ ds)) (none f n e) ∙ ap (kinds_of_decls types k) (append-nil n.inputs)

  abbrev KindsGood : FlatNode → Type 0
  KindsGood f = AllByRecursion (EqnKinds types (calls_of types k) f.variables) f.eqns

  one_agrees : (f : FlatNode) → NodeGood types k f → ConstantsShort f.eqns → KindsGood f
  one_agrees f good short =
      subst (λ vs. AllByRecursion (EqnKinds types (calls_of types k) vs) f.eqns) (sym good.variables)
      (each_both (EqnGood types k good.sketch) (λ (e : FlatEqn). AreShort (constants_of e.right)) (EqnKinds types (calls_of types k) good.sketch.variables)
      (λ e g s. subst (λ (c : Callees). EqnKinds types c good.sketch.variables e) same_callees (eqn_kinds types good.sketch (without_controls k) e (good_bare good.sketch e g) s (none_left k))) f.eqns good.eqns short)

-- ---- programs

pub compiled_kinds : (program low : List Item) → HasTypesOf program low → IsCompilable low → EachNode NodeShort low → (fs : List FlatNode) → AreMadeOf (known_of low) low fs
    → AllByRecursion (λ (f : FlatNode). AllByRecursion (EqnKinds (obc_types (types_of low)) (calls_of (obc_types (types_of low)) (known_of low)) f.variables) f.eqns) fs
compiled_kinds program low t c short fs made =
    let k = known_of low in
    let types = obc_types (types_of low) in
    each_both (NodeGood types k) (λ (f : FlatNode). ConstantsShort f.eqns) (KindsGood types k) (λ f g s. one_agrees types k f g s) fs (compiled_good program low t c fs made) (constants k low fs made short)
