-- The arms of a `switch` that name constructors of one type name those of what is tested: its type has a constructor, and each of its constructors is named.
use Rattle.std.proofs.Common.{◌≡◌, ℕ, List, [], ◌∷◌, refl, sym, ap, subst, ◌∙◌}
use Rattle.std.specs.Prelude.{⊤, Bool, true, false, ◌||◌, if◌then◌else◌, IsTrue, Contains, Option, None, Some}
use Rattle.std.proofs.lemmas.Slice.Eq.{bytes_eq-Decides}
use Rattle.hp_base.specs.declared.ty.Ty.{Ty}
use Rattle.hp_base.specs.declared.ty.Ty.TheVariants as ty
use Rattle.hp_base.specs.declared.ty.Const.TheVariants as const
use Rattle.hp_base.specs.declared.value.Value.{Value}
use Rattle.hp_base.specs.declared.value.Value.TheVariants.{Absent, Nil, B, E, I, Star}
use Rattle.hp_tree.specs.declared.decl.Cons.{Cons}
use Rattle.hp_tree.specs.declared.decl.Cons.TheVariants as cons
use Rattle.hp_tree.specs.declared.expr.Op1.{Op1}
use Rattle.hp_tree.specs.declared.expr.Op1.TheVariants.{Not, Neg}
use Rattle.hp_tree.specs.declared.expr.Op2.{Op2}
use Rattle.hp_tree.specs.declared.expr.Op2.TheVariants as op2
use Rattle.hp_tree.specs.Expressions.{Expr, constant, variable, last_of, one, two, choose, pre, fby, arrow, when_is, merge, call, no_part, more_parts}
use Rattle.hp_tree.specs.Blocks.{Decl, Arms, no_arm, more_arms}
use Rattle.hp_tree.specs.ExpressionTypes.{type_with}
use Rattle.hp_tree.specs.Filled.{first_value}
use Rattle.hp_tree.specs.Programs.{TypeDecl, Node}
use Rattle.hp_tree.specs.Values.{constructors_of, IsOf}
use Rattle.hp_base.specs.Known.Known.{lookup, with_entry}
use Rattle.hp_typing.specs.Scopes.{with_variables}
use Rattle.hp_typing.specs.Types.{type_of, types_in, cons_type, enum_of, args_fit, type_of_one, answer, single, outputs_in}
use Rattle.hp_typing.specs.Definitions.{same_cons}
use Rattle.law_judged.specs.Typed.Scopes.{Scope}
use Rattle.law_values.specs.Valued.Judged.{is_named, of_arms, Covers}
use Rattle.law_values.proofs.ValuedLemmas.Typed.{some_is, one_typed, two_typed, if_typed, pair_typed, when_typed, merge_typed}
use Rattle.law_values.proofs.AcceptedLemmas.Views.{entry_cases}
use Rattle.law_values.specs.Filled.Firsts.{HasFirst, DeclsHaveFirsts}
use Rattle.law_wellmade.specs.Tested.Around.{AllConses}
use Rattle.law_drawing.specs.Carrying.Drawable.{ArmsFit}
use Rattle.law_drawing.proofs.DrawableLemmas.Judged.{Same, cons_same}
use Rattle.law_drawing.proofs.DrawableLemmas.Steps.{agree}

-- an enumeration has a constructor
abbrev pub HasMember : List TypeDecl → Ty → Type 0
HasMember types ty.Bool = ⊤
HasMember types ty.Int = ⊤
HasMember types (ty.Enum w) = (c : List ℕ) × Contains (constructors_of types w) c

member_of : (types : List TypeDecl) (w : List ℕ) (v : Value) → IsOf types (ty.Enum w) v → HasMember types (ty.Enum w)
member_of types w (E u k) h = (h.0, h.1)
member_of types w (B b) h = absurd h
member_of types w (I n) h = absurd h
member_of types w Absent h = absurd h
member_of types w Nil h = absurd h
member_of types w Star h = absurd h

first_member : (types : List TypeDecl) (t : Ty) → HasFirst types t → HasMember types t
first_member types ty.Bool h = tt
first_member types ty.Int h = tt
first_member types (ty.Enum w) h = member_of types w (first_value types (ty.Enum w)) h

-- a constructor that is known is one of its type
abbrev pub Owned : List TypeDecl → Scope → Type 0
Owned types s = (c v : List ℕ) → lookup s.constructors c ≡ Some v → Contains (constructors_of types v) c

abbrev pub OwnType : List TypeDecl → Type 0
OwnType types = (t c : List ℕ) → Contains (constructors_of types t) c → type_with types c ≡ ty.Enum t

module _ (types : List TypeDecl) where
  -- the types of variables, and of the outputs of nodes, have constructors
  abbrev pub Rich : Scope → Type 0
  Rich s = ((x : List ℕ) (t : Ty) → lookup s.variables x ≡ Some t → HasMember types t) × ((f : List ℕ) (m : Node) → lookup s.nodes f ≡ Some m → DeclsHaveFirsts types m.outputs)

  pub rich_more : (ds : List Decl) (s : Scope) → DeclsHaveFirsts types ds → Rich s → Rich (with_variables s ds)
  rich_more [] s h r = r
  rich_more (d ∷ ds) s h r =
      rich_more ds (record s { variables = with_entry s.variables d.name d.ty }) h.1
      ((λ x t k. entry_cases s.variables d.name d.ty x t k (λ l. r.0 x t l) (λ e q z. subst (HasMember types) q (first_member types d.ty h.0))), r.1)

  one_member : (o : Op1) → HasMember types (type_of_one o)
  one_member Not = tt
  one_member Neg = tt

  answer_member : (o : Op2) → HasMember types (answer o)
  answer_member op2.And = tt
  answer_member op2.Or = tt
  answer_member op2.Xor = tt
  answer_member op2.Imp = tt
  answer_member op2.Eq = tt
  answer_member op2.Ne = tt
  answer_member op2.Lt = tt
  answer_member op2.Le = tt
  answer_member op2.Gt = tt
  answer_member op2.Ge = tt
  answer_member op2.Add = tt
  answer_member op2.Sub = tt
  answer_member op2.Mul = tt
  answer_member op2.Div = tt
  answer_member op2.Rem = tt

  call_member : (o : Option Node) (ts : List (Option Ty)) (t : Ty) → single (outputs_in o ts) ≡ Some t → ((m : Node) → o ≡ Some m → DeclsHaveFirsts types m.outputs) → HasMember types t
  call_member None ts t h f = absurd (cc)
  call_member (Some n) ts t h f = by (args_fit n.inputs ts) h
    where
      only : (ds : List Decl) → DeclsHaveFirsts types ds → single (Some ds) ≡ Some t → HasMember types t
      only [] k h = absurd (cc)
      only (d ∷ []) k h = subst (HasMember types) (some_is d.ty t h) (first_member types d.ty k.0)
      only (d ∷ e ∷ ds) k h = absurd (cc)

      by : (b : Bool) → single (if b then Some n.outputs else None) ≡ Some t → HasMember types t
      by true h = only n.outputs (f n refl) h
      by false h = absurd (cc)

  module _ (known : Scope) (owned : Owned types known) (own : OwnType types) where
    enum_member : (s : Scope) → Same known s → (c : List ℕ) (t : Ty) → enum_of (lookup s.constructors c) ≡ Some t → HasMember types t
    enum_member s same c t h = by (lookup s.constructors c) refl h
      where
        by : (o : Option (List ℕ)) → lookup s.constructors c ≡ o → enum_of o ≡ Some t → HasMember types t
        by None e k = absurd (cc)
        by (Some v) e k = subst (HasMember types) (some_is (ty.Enum v) t k) (c, owned c v (sym (ap (λ z. lookup z c) same) ∙ e))

    pub type_member : (s : Scope) → Same known s → Rich s → (e : Expr) (t : Ty) → type_of s e ≡ Some t → HasMember types t
    type_member s same r (constant a (const.B b)) t q = subst (HasMember types) (some_is ty.Bool t q) tt
    type_member s same r (constant a (const.I n)) t q = subst (HasMember types) (some_is ty.Int t q) tt
    type_member s same r (constant a (const.E c)) t q = enum_member s same c t q
    type_member s same r (variable a x) t q = r.0 x t q
    type_member s same r (last_of a x) t q = r.0 x t q
    type_member s same r (one a o d) t q = subst (HasMember types) (one_typed _ (type_of s d) t q).1 (one_member o)
    type_member s same r (two a o d e) t q = subst (HasMember types) (two_typed o (type_of s d) (type_of s e) t q).4 (answer_member o)
    type_member s same r (choose a d e f) t q = type_member s same r e t (if_typed (type_of s d) (type_of s e) (type_of s f) t q).1
    type_member s same r (pre a d) t q = type_member s same r d t q
    type_member s same r (fby a d e) t q = type_member s same r d t (pair_typed (type_of s d) (type_of s e) t q).0
    type_member s same r (arrow a d e) t q = type_member s same r d t (pair_typed (type_of s d) (type_of s e) t q).0
    type_member s same r (when_is a d c x) t q = type_member s same r d t (when_typed _ _ t q)
    type_member s same r (merge a x no_part) t q = absurd (cc)
    type_member s same r (merge a x (more_parts c e ps)) t q = type_member s same r e t (merge_typed s (lookup s.variables x) (more_parts c e ps) t q).0
    type_member s same r (call a f i es) t q = call_member (lookup s.nodes f) (types_in s es) t q (λ m k. r.1 f m k)

    -- ---- the arms are of the type of what is tested

    same_is : (c d : Cons) → same_cons c d ≡ true → c ≡ d
    same_is cons.False cons.False h = refl
    same_is cons.True cons.True h = refl
    same_is (cons.Named x) (cons.Named y) h = ap cons.Named ((bytes_eq-Decides x y).0 h)
    same_is cons.False cons.True h = absurd (cc)
    same_is cons.True cons.False h = absurd (cc)
    same_is cons.False (cons.Named y) h = absurd (cc)
    same_is cons.True (cons.Named y) h = absurd (cc)
    same_is (cons.Named x) cons.False h = absurd (cc)
    same_is (cons.Named x) cons.True h = absurd (cc)

    conses_named : (cs : List Cons) (c : Cons) (t : Ty) → IsTrue (is_named cs c) → AllConses known t cs → cons_type known c ≡ Some t
    conses_named [] c t h a = absurd (cc)
    conses_named (d ∷ cs) c t h a = by (same_cons c d) refl h (λ k. conses_named cs c t k a.1)
      where
        by : (b : Bool) → same_cons c d ≡ b → IsTrue (b || is_named cs c) → (IsTrue (is_named cs c) → cons_type known c ≡ Some t) → cons_type known c ≡ Some t
        by true e h f = ap (cons_type known) (same_is c d e) ∙ a.0
        by false e h f = f h

    pub kind_same : (u t : Ty) (cs : List Cons) → HasMember types u → Covers types u cs → AllConses known t cs → t ≡ u
    kind_same ty.Bool t cs f c a = sym (some_is ty.Bool t (conses_named cs cons.True t c.1 a))
    kind_same ty.Int t cs f c a = absurd c
    kind_same (ty.Enum w) t cs f c a = by (lookup known.constructors f.0) refl (conses_named cs (cons.Named f.0) t (c f.0 f.1) a)
      where
        by : (o : Option (List ℕ)) → lookup known.constructors f.0 ≡ o → enum_of o ≡ Some t → t ≡ ty.Enum w
        by None e k = absurd (cc)
        by (Some v) e k = sym (some_is (ty.Enum v) t k) ∙ (sym (own v f.0 (owned f.0 v e)) ∙ own w f.0 f.1)

    pub arms_fit : (s : Scope) → Same known s → (o : Option Ty) (u : Ty) → o ≡ Some u → (arms : Arms) → AllConses known u (of_arms arms) → ArmsFit s o arms
    arms_fit s same o u e no_arm h = tt
    arms_fit s same o u e (more_arms c b at arms) h = (agree o (cons_type s c) u e (cons_same known s same c ∙ h.0), arms_fit s same o u e arms h.1)
