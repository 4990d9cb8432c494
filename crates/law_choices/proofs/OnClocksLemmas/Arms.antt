-- A variable with an equation for each constructor of what is tested is split.
use Rattle.std.proofs.Common.{◌≡◌, ℕ, true, List, [], ◌∷◌, ◌++◌, refl, sym, ap, subst, ◌∙◌}
use Rattle.std.specs.Prelude.{IsTrue}
use Rattle.std.proofs.lemmas.Slice.Eq.{bytes_eq-Decides}
use Rattle.hp_base.specs.Kinds.{KindData}
use Rattle.hp_base.specs.declared.ty.Ty.{Ty}
use Rattle.hp_obc.specs.Machines.{ObcType}
use Rattle.hp_tree.specs.declared.decl.Cons.{Cons}
use Rattle.hp_tree.specs.declared.decl.Cons.TheVariants as cons
use Rattle.hp_tree.specs.Programs.{TypeDecl}
use Rattle.hp_tree.specs.Operators.{cons_of}
use Rattle.hp_tree.specs.Values.{IsOf}
use Rattle.hp_typing.specs.Definitions.{same_cons}
use Rattle.law_values.specs.Valued.Judged.{is_named, Covers}
use Rattle.hp_flat.specs.Equations.{Clock}
use Rattle.hp_flat.specs.Nodes.{FlatNode}
use Rattle.law_equations.specs.Meaning.Kinding.{HasArm, kind_of_type, variable_kind}
use Rattle.law_equations.specs.Made.Making.{Known, Sketch, flat_type, own_number, cons_number}
use Rattle.law_wellmade.proofs.BegunLemmas.Keeping.{HasType}
use Rattle.law_choices.specs.Closed.Clocking.{IsFrontOf, IsDefinedOn, IsSplit}
use Rattle.law_choices.proofs.OnClocksLemmas.Steps.{DefinedOn, Within}

-- What is known of arms: where all constructors of a type are named, each arm of its kind is that of one of them, and there is one where there is a constructor.
pub record ArmFacts (types : List ObcType) (k : Known) (decls : List TypeDecl) : Type 0 where
  pub named : (t : Ty) (cs : List Cons) (i : ℕ) → Covers decls t cs → HasArm (kind_of_type types (flat_type k.types t)) i → (c : Cons) × IsTrue (is_named cs c) × (cons_number k c ≡ i)
  pub some : (t : Ty) (c : Cons) → IsOf decls t (cons_of decls c) → HasArm (kind_of_type types (flat_type k.types t)) 0

pub same_number : (k : Known) (c d : Cons) → same_cons c d ≡ true → cons_number k c ≡ cons_number k d
same_number k cons.False cons.False h = refl
same_number k cons.True cons.True h = refl
same_number k (cons.Named c) (cons.Named d) h = ap (λ x. own_number (k.constructors x)) ((bytes_eq-Decides c d).0 h)
same_number k cons.False cons.True h = absurd cc
same_number k cons.False (cons.Named d) h = absurd cc
same_number k cons.True cons.False h = absurd cc
same_number k cons.True (cons.Named d) h = absurd cc
same_number k (cons.Named c) cons.False h = absurd cc
same_number k (cons.Named c) cons.True h = absurd cc

module _ (types : List ObcType) (n : FlatNode) (k : Known) (decls : List TypeDecl) (facts : ArmFacts types k decls) where
  -- Each constructor of the type of what is tested is named, one is of the type, and for each there is an equation.
  pub split_by : (g : ℕ → Clock) (d : Sketch) (x v : ℕ) (t : Ty) (cs : List Cons) (c : Cons) (clock : Clock) → Within types n d → HasType d v (flat_type k.types t) → Covers decls t cs → IsOf decls t (cons_of decls c) → g x ≡ clock → IsFrontOf (g v) clock
      → ((e : Cons) → IsTrue (is_named cs e) → DefinedOn d.eqns x (clock ++ (v, cons_number k e) ∷ [])) → IsSplit n types g x
  split_by g d x v t cs c clock w typed cover is own front each =
      let kind : variable_kind types n.variables v ≡ kind_of_type types (flat_type k.types t) = w.kinds v (flat_type k.types t) typed in
      record {
        tested = v;
        there = subst (λ z. IsFrontOf (g v) z) (sym own) front;
        has_one = subst (λ (z : KindData). HasArm z 0) (sym kind) (facts.some t c is);
        arms = λ i h.
            let q = facts.named t cs i cover (subst (λ (z : KindData). HasArm z i) kind h) in
            subst (λ z. IsDefinedOn n x z) (ap (λ j. clock ++ (v, j) ∷ []) q.2 ∙ ap (λ z. z ++ (v, i) ∷ []) (sym own)) (w.eqns x (clock ++ (v, cons_number k q.0) ∷ []) (each q.0 q.1));
      }
