-- The type that is read off an expression is the one by which it is judged, where its names have the types of the scope.
use Rattle.std.proofs.Common.{◌≡◌, ℕ, List, [], ◌∷◌, refl, sym, ap, subst, ◌∙◌}
use Rattle.std.specs.Prelude.{Bool, true, false, ◌||◌, IsFalse, if◌then◌else◌, Option, None, Some}
use Rattle.std.specs.Str.{bytes_eq}
use Rattle.hp_base.specs.declared.ty.Const.TheVariants as const
use Rattle.hp_base.specs.declared.ty.Ty.{Ty}
use Rattle.hp_base.specs.declared.ty.Ty.TheVariants as ty
use Rattle.hp_tree.specs.declared.expr.Op2.{Op2}
use Rattle.hp_tree.specs.declared.expr.Op2.TheVariants.{And, Or, Xor, Imp, Eq, Ne, Lt, Le, Gt, Ge, Add, Sub, Mul, Div, Rem}
use Rattle.hp_tree.specs.Blocks.{Decl, Eqns}
use Rattle.hp_tree.specs.Expressions.{Expr, constant, variable, last_of, one, two, choose, pre, fby, arrow, when_is, merge, call, Parts, no_part, more_parts}
use Rattle.hp_tree.specs.ExpressionTypes as tree
use Rattle.hp_tree.specs.ExpressionTypes.{typed_in, untyped, type_with, type_of_two}
use Rattle.hp_tree.specs.Instant.{First, Args, Instance, Head, Second, Instant, part}
use Rattle.hp_tree.specs.Meaning.{controls_of, declares}
use Rattle.hp_tree.specs.Programs.{TypeDecl, Node}
use Rattle.hp_base.specs.Known.Known.{lookup}
use Rattle.hp_typing.specs.Scopes.{with_variables, inside_node}
use Rattle.hp_typing.specs.Types.{type_of, types_in, type_of_one, answer, enum_of, input_type, merge_type}
use Rattle.law_judged.specs.Typed.Scopes.{Scope}
use Rattle.law_judged.proofs.NamedLemmas.Sets.{same_name}
use Rattle.law_values.specs.Valued.Fitting.{first_output}
use Rattle.law_values.specs.Valued.Judged.{Lasts, ExprSound, PartsSound, DeclsSound, HaveOwnTypes, NodeSound, body_scope}
use Rattle.law_values.proofs.ValuedLemmas.Scoped.{not_declared}
use Rattle.law_values.proofs.ValuedLemmas.Typed.{some_is, one_typed, two_typed, if_typed, pair_typed, when_typed, call_typed, merge_typed}
use Rattle.law_values.proofs.FilledLemmas.Constructors.{ConsTyped}
use Rattle.law_games.specs.Wiretyped.Kept.{ExprKept, PartsKept}

-- ---- names

-- Each variable has the type of the scope.
abbrev pub Agrees : Scope → tree.Scope → Type 0
Agrees s names = (x : List ℕ) (t : Ty) → lookup s.variables x ≡ Some t → names x ≡ t

module _ (types : List TypeDecl) (among : List ℕ → Option Node) where
  -- a name that is declared, or known further out
  agrees_at : (s : Scope) (ds : List Decl) (out : tree.Scope) (x : List ℕ) (t : Ty) → HaveOwnTypes types among s ds → lookup s.variables x ≡ Some t → (IsFalse (declares ds x) → out x ≡ t) → typed_in ds out x ≡ t
  agrees_at s [] out x t o h k = k refl
  agrees_at s (d ∷ ds) out x t o h k = by (bytes_eq d.name x) refl k (λ z. agrees_at s ds out x t o.1 h z)
    where
      by : (b : Bool) → bytes_eq d.name x ≡ b → (IsFalse (b || declares ds x) → out x ≡ t) → ((IsFalse (declares ds x) → out x ≡ t) → typed_in ds out x ≡ t) → (if b then d.ty else typed_in ds out x) ≡ t
      by true e k f = some_is d.ty t (sym o.0 ∙ ap (λ z. lookup s.variables z) (same_name d.name x e) ∙ h)
      by false e k f = f k

  pub own_types : (s : Scope) (es : Eqns) (ds : List Decl) → DeclsSound types among s es ds → HaveOwnTypes types among s ds
  own_types s es [] ok = tt
  own_types s es (d ∷ ds) ok = (ok.0.0, own_types s es ds ok.1)

  -- inside a block
  pub agrees_inside : (s : Scope) (ds : List Decl) (names : tree.Scope) → HaveOwnTypes types among (with_variables s ds) ds → Agrees s names → Agrees (with_variables s ds) (typed_in ds names)
  agrees_inside s ds names o a x t h = agrees_at (with_variables s ds) ds names x t o h (λ g. a x t (sym (not_declared x ds s g) ∙ h))

  -- what contracts and bodies of nodes see
  pub agrees_seen : (s : Scope) (n : Node) → s.variables ≡ [] → NodeSound types among s n → Agrees (inside_node s n) (typed_in n.inputs (typed_in n.outputs untyped))
  agrees_seen s n e ok x t h =
      agrees_at (inside_node s n) n.inputs (typed_in n.outputs untyped) x t ok.0.0 h
      (λ g. agrees_at (inside_node s n) n.outputs untyped x t ok.0.1 h
      (λ o.
      let k : lookup s.variables x ≡ Some t = sym (not_declared x n.inputs s g) ∙ sym (not_declared x n.outputs (with_variables s n.inputs) o) ∙ h in
      let none : None ≡ Some t = sym (ap (λ z. lookup z x) e) ∙ k in
      absurd (cc)))

  pub agrees_body : (s : Scope) (n : Node) → s.variables ≡ [] → NodeSound types among s n → Agrees (body_scope s n) (typed_in (controls_of n.contract) (typed_in n.inputs (typed_in n.outputs untyped)))
  agrees_body s n e ok x t h =
      agrees_at (body_scope s n) (controls_of n.contract) (typed_in n.inputs (typed_in n.outputs untyped)) x t ok.1.1.0 h
      (λ g. agrees_seen s n e ok x t (sym (not_declared x (controls_of n.contract) (inside_node s n) g) ∙ h))

-- ---- expressions

answer_is : (o : Op2) → type_of_two o ≡ answer o
answer_is And = refl
answer_is Or = refl
answer_is Xor = refl
answer_is Imp = refl
answer_is Eq = refl
answer_is Ne = refl
answer_is Lt = refl
answer_is Le = refl
answer_is Gt = refl
answer_is Ge = refl
answer_is Add = refl
answer_is Sub = refl
answer_is Mul = refl
answer_is Div = refl
answer_is Rem = refl

-- `outs` has the outputs of nodes. Where a call has registers, it has those of the node that is called.
module _ (types : List TypeDecl) (among : List ℕ → Option Node) (kept : List ℕ → Instant → Instant → Type 0) (outs : List ℕ → List Decl)
    (outs_are : (f : List ℕ) (n : Node) (start mem : Instant) → kept f start mem → among f ≡ Some n → outs f ≡ n.outputs) where
  module _ (s : Scope) (lasts : Lasts) (names : tree.Scope) (known : Agrees s names) (conses : ConsTyped types s) where
    named_type : (c : List ℕ) (o : Option (List ℕ)) (t : Ty) → lookup s.constructors c ≡ o → enum_of o ≡ Some t → type_with types c ≡ t
    named_type c None t e h = absurd (cc)
    named_type c (Some u) t e h = conses c u e ∙ some_is (ty.Enum u) t h

    first_is : (ds : List Decl) (t : Ty) → input_type ds ≡ Some t → tree.first_type types outs ds ≡ t
    first_is [] t e = absurd (cc)
    first_is (d ∷ ds) t e = some_is d.ty t e

    mutual
      pub type_read : (e : Expr) (t : Ty) (start mem : Instant) → ExprKept types kept s e start mem → ExprSound types among s lasts e → type_of s e ≡ Some t → tree.type_of types outs e names ≡ t
      type_read (constant a (const.B b)) t start mem k ok h = some_is ty.Bool t h
      type_read (constant a (const.I n)) t start mem k ok h = some_is ty.Int t h
      type_read (constant a (const.E c)) t start mem k ok h = named_type c (lookup s.constructors c) t refl h
      type_read (variable a x) t start mem k ok h = known x t h
      type_read (last_of a x) t start mem k ok h = known x t h
      type_read (one a o b) t start mem k ok h =
          let q = one_typed (type_of_one o) (type_of s b) t h in
          type_read b (type_of_one o) (part First start) (part First mem) k ok q.0 ∙ q.1
      type_read (two a o b c) t start mem k ok h = answer_is o ∙ (two_typed o (type_of s b) (type_of s c) t h).4
      type_read (choose a b c d) t start mem k ok h = type_read c t (part Second start) (part Second mem) k.1.0 ok.1.0 (if_typed (type_of s b) (type_of s c) (type_of s d) t h).1
      type_read (pre a b) t start mem k ok h = type_read b t (part First start) (part First mem) k.1.1 ok h
      type_read (fby a b c) t start mem k ok h = type_read b t (part First start) (part First mem) k.1.1.1.0 ok.0 (pair_typed (type_of s b) (type_of s c) t h).0
      type_read (arrow a b c) t start mem k ok h = type_read b t (part First start) (part First mem) k.1.0 ok.0 (pair_typed (type_of s b) (type_of s c) t h).0
      type_read (when_is a b c x) t start mem k ok h = type_read b t (part First start) (part First mem) k ok (when_typed _ (type_of s b) t h)
      type_read (merge a x ps) t start mem k ok h = type_read_in ps (lookup s.variables x) t (part Args start) (part Args mem) k ok.1 h
      type_read (call a f i es) t start mem k ok h =
          let q = call_typed (lookup s.nodes f) (types_in s es) t h in
          let same : outs f ≡ q.0.outputs = outs_are f q.0 (part Instance start) (part Instance mem) k.1 (sym ok.0 ∙ q.1) in
          let first : input_type q.0.outputs ≡ Some t = subst (λ o. first_output o ≡ Some t) q.1 q.3 in
          ap (tree.first_type types outs) same ∙ first_is q.0.outputs t first

      type_read_in : (ps : Parts) (name : Option Ty) (t : Ty) (start mem : Instant) → PartsKept types kept s ps start mem → PartsSound types among s lasts ps → merge_type s name ps ≡ Some t → tree.type_of_parts types outs ps names ≡ t
      type_read_in no_part name t start mem k ok h = absurd (cc)
      type_read_in (more_parts c e ps) name t start mem k ok h = type_read e t (part Head start) (part Head mem) k.0 ok.0 (merge_typed s name (more_parts c e ps) t h).0
