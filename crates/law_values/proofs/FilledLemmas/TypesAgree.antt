-- The type that is read off an expression is the one by which it is judged, and has a first value.
use Rattle.std.proofs.Common.{◌≡◌, ℕ, List, [], ◌∷◌, refl, sym, ap, subst, ◌∙◌}
use Rattle.std.specs.Prelude.{Bool, true, false, ◌||◌, if◌then◌else◌, IsFalse, Option, None, Some}
use Rattle.std.specs.Str.{bytes_eq}
use Rattle.hp_base.specs.declared.ty.Ty.{Ty}
use Rattle.hp_base.specs.declared.ty.Ty.TheVariants as ty
use Rattle.hp_base.specs.declared.ty.Const.TheVariants as const
use Rattle.hp_tree.specs.declared.expr.Op2.{Op2}
use Rattle.hp_tree.specs.declared.expr.Op2.TheVariants.{And, Or, Xor, Imp, Eq, Ne, Lt, Le, Gt, Ge, Add, Sub, Mul, Div, Rem}
use Rattle.hp_tree.specs.Expressions.{Expr, constant, variable, last_of, one, two, choose, pre, fby, arrow, when_is, merge, call, Parts, no_part, more_parts}
use Rattle.hp_tree.specs.Blocks.{Decl}
use Rattle.hp_tree.specs.Programs.{TypeDecl, Node}
use Rattle.hp_tree.specs.Operators.{constructor_from}
use Rattle.hp_tree.specs.Values.{IsOf}
use Rattle.hp_tree.specs.Meaning.{declares}
use Rattle.hp_tree.specs.ExpressionTypes as tree
use Rattle.hp_tree.specs.ExpressionTypes.{typed_in, type_with, type_of_two}
use Rattle.hp_tree.specs.Filled.{outputs_declared}
use Rattle.hp_base.specs.Known.Known.{lookup}
use Rattle.hp_typing.specs.Scopes.{with_variables}
use Rattle.hp_typing.specs.Types.{type_of, types_in, type_of_one, answer, enum_of, input_type, merge_type}
use Rattle.law_judged.specs.Typed.Scopes.{Scope}
use Rattle.law_judged.proofs.NamedLemmas.Sets.{same_name}
use Rattle.law_values.specs.Valued.Judged.{Lasts, ExprSound, PartsSound, HaveOwnTypes}
use Rattle.law_values.specs.Valued.Fitting.{first_output}
use Rattle.law_values.proofs.ValuedLemmas.Typed.{some_is, one_typed, two_typed, if_typed, pair_typed, when_typed, call_typed, merge_typed}
use Rattle.law_values.proofs.ValuedLemmas.Scoped.{not_declared}
use Rattle.law_values.specs.Filled.Firsts.{HasFirst, DeclsHaveFirsts}
use Rattle.law_values.proofs.FilledLemmas.Values.{first_from}
use Rattle.law_values.proofs.FilledLemmas.Constructors.{ConsTyped}

-- the type of the first of some declarations
abbrev first_ty : List Decl → Ty
first_ty [] = ty.Bool
first_ty (d ∷ ds) = d.ty

-- Each variable has the type of the scope, and that has a first value.
abbrev pub Agrees : List TypeDecl → Scope → tree.Scope → Type 0
Agrees types s names = (x : List ℕ) (t : Ty) → lookup s.variables x ≡ Some t → (names x ≡ t) × HasFirst types t

-- a name that is declared, or known further out
pub agrees_at : (types : List TypeDecl) (among : List ℕ → Option Node) (s : Scope) (ds : List Decl) (out : tree.Scope) (x : List ℕ) (t : Ty) → HaveOwnTypes types among s ds → DeclsHaveFirsts types ds → lookup s.variables x ≡ Some t → (IsFalse (declares ds x) → (out x ≡ t) × HasFirst types t) → (typed_in ds out x ≡ t) × HasFirst types t
agrees_at types among s [] out x t o f h k = k refl
agrees_at types among s (d ∷ ds) out x t o f h k = by (bytes_eq d.name x) refl k (λ z. agrees_at types among s ds out x t o.1 f.1 h z)
  where
    by : (b : Bool) → bytes_eq d.name x ≡ b → (IsFalse (b || declares ds x) → (out x ≡ t) × HasFirst types t) → ((IsFalse (declares ds x) → (out x ≡ t) × HasFirst types t) → (typed_in ds out x ≡ t) × HasFirst types t) → ((if b then d.ty else typed_in ds out x) ≡ t) × HasFirst types t
    by true e k f' =
        let same : d.ty ≡ t = some_is d.ty t (sym o.0 ∙ ap (λ z. lookup s.variables z) (same_name d.name x e) ∙ h) in
        (same, subst (λ z. HasFirst types z) same f.0)
    by false e k f' = f' k

-- inside a block
pub agrees_inside : (types : List TypeDecl) (among : List ℕ → Option Node) (s : Scope) (ds : List Decl) (names : tree.Scope) → HaveOwnTypes types among (with_variables s ds) ds → DeclsHaveFirsts types ds → Agrees types s names → Agrees types (with_variables s ds) (typed_in ds names)
agrees_inside types among s ds names o f a x t h =
    agrees_at types among (with_variables s ds) ds names x t o f h (λ g. a x t (sym (not_declared x ds s g) ∙ h))

answer_is : (o : Op2) → type_of_two o ≡ answer o
answer_is And = refl
answer_is Or = refl
answer_is Xor = refl
answer_is Imp = refl
answer_is Eq = refl
answer_is Ne = refl
answer_is Lt = refl
answer_is Le = refl
answer_is Gt = refl
answer_is Ge = refl
answer_is Add = refl
answer_is Sub = refl
answer_is Mul = refl
answer_is Div = refl
answer_is Rem = refl

pub answer_first : (types : List TypeDecl) (o : Op2) → HasFirst types (answer o)
answer_first types And = tt
answer_first types Or = tt
answer_first types Xor = tt
answer_first types Imp = tt
answer_first types Eq = tt
answer_first types Ne = tt
answer_first types Lt = tt
answer_first types Le = tt
answer_first types Gt = tt
answer_first types Ge = tt
answer_first types Add = tt
answer_first types Sub = tt
answer_first types Mul = tt
answer_first types Div = tt
answer_first types Rem = tt

module _ (types : List TypeDecl) (among : List ℕ → Option Node) (callees : (f : List ℕ) (n : Node) → among f ≡ Some n → DeclsHaveFirsts types n.outputs) where
  abbrev pub outputs : List ℕ → List Decl
  outputs f = outputs_declared (among f)

  module _ (s : Scope) (lasts : Lasts) (names : tree.Scope) (known : Agrees types s names) (conses : ConsTyped types s) where
    abbrev pub Same : Expr → Ty → Type 0
    Same e t = (tree.type_of types outputs e names ≡ t) × HasFirst types t

    moved : (e : Expr) (u t : Ty) → (tree.type_of types outputs e names ≡ u) × HasFirst types u → u ≡ t → Same e t
    moved e u t h k = (h.0 ∙ k, subst (λ z. HasFirst types z) k h.1)

    named_type : (c : List ℕ) (o : Option (List ℕ)) (t : Ty) → lookup s.constructors c ≡ o → enum_of o ≡ Some t → IsOf types t (constructor_from 0 types c) → (type_with types c ≡ t) × HasFirst types t
    named_type c None t e h v = absurd (cc)
    named_type c (Some u) t e h v =
        let k : ty.Enum u ≡ t = some_is (ty.Enum u) t h in
        (conses c u e ∙ k, subst (λ z. HasFirst types z) k (first_from types u (constructor_from 0 types c) (subst (λ z. IsOf types z (constructor_from 0 types c)) (sym k) v)))

    output_type : (o : Option Node) (f : List ℕ) (n : Node) (t : Ty) → among f ≡ o → o ≡ Some n → input_type n.outputs ≡ Some t → (first_ty (outputs f) ≡ t) × HasFirst types t
    output_type o f n t e k h = by n.outputs (ap outputs_declared (e ∙ k)) (callees f n (e ∙ k)) h
      where
        by : (ds : List Decl) → outputs f ≡ ds → DeclsHaveFirsts types ds → input_type ds ≡ Some t → (first_ty (outputs f) ≡ t) × HasFirst types t
        by [] q v z = absurd (cc)
        by (d ∷ ds) q v z =
            let w : d.ty ≡ t = some_is d.ty t z in
            (ap (first_ty) q ∙ w, subst (λ r. HasFirst types r) w v.0)

    mutual
      pub same_type : (e : Expr) (t : Ty) → ExprSound types among s lasts e → type_of s e ≡ Some t → Same e t
      same_type (constant a (const.B b)) t ok h = let k : ty.Bool ≡ t = some_is ty.Bool t h in (k, subst (λ z. HasFirst types z) k tt)
      same_type (constant a (const.I n)) t ok h = let k : ty.Int ≡ t = some_is ty.Int t h in (k, subst (λ z. HasFirst types z) k tt)
      same_type (constant a (const.E c)) t ok h = named_type c (lookup s.constructors c) t refl h (ok t h)
      same_type (variable a x) t ok h = known x t h
      same_type (last_of a x) t ok h = known x t h
      same_type (one a o b) t ok h =
          let q = one_typed (type_of_one o) (type_of s b) t h in
          moved (one a o b) (type_of_one o) t (same_type b (type_of_one o) ok q.0) q.1
      same_type (two a o b c) t ok h =
          let q = two_typed o (type_of s b) (type_of s c) t h in
          moved (two a o b c) (answer o) t (answer_is o, answer_first types o) q.4
      same_type (choose a b c d) t ok h = same_type c t ok.1.0 (if_typed (type_of s b) (type_of s c) (type_of s d) t h).1
      same_type (pre a b) t ok h = same_type b t ok h
      same_type (fby a b c) t ok h = same_type b t ok.0 (pair_typed (type_of s b) (type_of s c) t h).0
      same_type (arrow a b c) t ok h = same_type b t ok.0 (pair_typed (type_of s b) (type_of s c) t h).0
      same_type (when_is a b c x) t ok h = same_type b t ok (when_typed _ _ t h)
      same_type (merge a x ps) t ok h = same_parts ps (lookup s.variables x) t ok.1 h
      same_type (call a f i es) t ok h =
          let q = call_typed (lookup s.nodes f) (types_in s es) t h in
          output_type (lookup s.nodes f) f q.0 t (sym ok.0) q.1 (sym (ap first_output q.1) ∙ q.3)

      same_parts : (ps : Parts) (name : Option Ty) (t : Ty) → PartsSound types among s lasts ps → merge_type s name ps ≡ Some t → (tree.type_of_parts types outputs ps names ≡ t) × HasFirst types t
      same_parts no_part name t ok h = absurd (cc)
      same_parts (more_parts c e ps) name t ok h = same_type e t ok.0 (merge_typed s name (more_parts c e ps) t h).0
