-- Exactly integers are marks: by what is drawn, and by the types of slots.
use Rattle.std.proofs.Common.{◌≡◌, ℕ, Bool, true, false, if◌then◌else◌, List, [], ◌∷◌, Option, None, Some, refl, sym, ap, subst, ◌∙◌}
use Rattle.hp_base.specs.declared.ty.Ty.{Ty}
use Rattle.hp_base.specs.declared.ty.Ty.TheVariants as ty
use Rattle.hp_base.specs.declared.ty.Const.{Const}
use Rattle.hp_base.specs.declared.ty.Const.TheVariants as const
use Rattle.hp_tree.specs.declared.expr.Op2.{Op2}
use Rattle.hp_tree.specs.declared.expr.Op2.TheVariants.{And, Or, Xor, Imp, Eq, Ne, Lt, Le, Gt, Ge, Add, Sub, Mul, Div, Rem}
use Rattle.hp_tree.specs.Blocks.{Decl}
use Rattle.hp_tree.specs.Expressions.{Expr, constant, variable, last_of, one, two, choose, pre, fby, arrow, when_is, merge, call, no_part, more_parts}
use Rattle.hp_tree.specs.ExpressionTypes as shown
use Rattle.hp_tree.specs.ExpressionTypes.{some_place, type_with, type_of_constant, type_of_two, first_type}
use Rattle.hp_tree.specs.Operators.{place_in}
use Rattle.hp_tree.specs.Programs.{TypeDecl, Node}
use Rattle.hp_base.specs.Known.Known.{lookup}
use Rattle.hp_typing.specs.Types.{type_of, types_in, type_of_one, answer, constant_type, enum_of, input_type}
use Rattle.law_judged.specs.Typed.Scopes.{Scope}
use Rattle.law_values.specs.Valued.Fitting.{first_output}
use Rattle.law_values.specs.Valued.Judged.{Lasts, ExprSound}
use Rattle.law_values.proofs.ValuedLemmas.Typed.{one_typed, two_typed, if_typed, pair_typed, when_typed, call_typed, merge_typed, some_is}
use Rattle.hp_meaning.specs.Contract.Slots.{is_int}
use Rattle.hp_drawing.specs.Kept.{is_mark}
use Rattle.hp_drawing.specs.Told.{Told, type_shape}
use Rattle.hp_drawing.specs.Planned.{shape_in, two_shape, first_shape, outputs_by}
use Rattle.hp_drawing.specs.Scopes as scopes
use Rattle.hp_drawing.specs.Scopes.{shapes_in}
use Rattle.law_drawing.specs.Carrying.Drawing.{AreShaped}
use Rattle.law_drawing.specs.Carrying.Typing.{AreNumbered}
use Rattle.law_drawing.proofs.CarryingLemmas.Leaves.{constant-mark}

pub type-mark : (told : Told) (t : Ty) → is_mark (type_shape told t) ≡ is_int t
type-mark told ty.Bool = refl
type-mark told ty.Int = refl
type-mark told (ty.Enum x) = refl

answer-mark : (o : Op2) → is_mark (two_shape o) ≡ is_int (answer o)
answer-mark And = refl
answer-mark Or = refl
answer-mark Xor = refl
answer-mark Imp = refl
answer-mark Eq = refl
answer-mark Ne = refl
answer-mark Lt = refl
answer-mark Le = refl
answer-mark Gt = refl
answer-mark Ge = refl
answer-mark Add = refl
answer-mark Sub = refl
answer-mark Mul = refl
answer-mark Div = refl
answer-mark Rem = refl

answer-int : (o : Op2) → is_int (type_of_two o) ≡ is_int (answer o)
answer-int And = refl
answer-int Or = refl
answer-int Xor = refl
answer-int Imp = refl
answer-int Eq = refl
answer-int Ne = refl
answer-int Lt = refl
answer-int Le = refl
answer-int Gt = refl
answer-int Ge = refl
answer-int Add = refl
answer-int Sub = refl
answer-int Mul = refl
answer-int Div = refl
answer-int Rem = refl

either-int : (b : Bool) (x : List ℕ) (t : Ty) → is_int t ≡ false → is_int (if b then ty.Enum x else t) ≡ false
either-int true x t e = refl
either-int false x t e = e

type-with-int : (types : List TypeDecl) (x : List ℕ) → is_int (type_with types x) ≡ false
type-with-int [] x = refl
type-with-int (d ∷ types) x = either-int (some_place (place_in 0 d.cons x)) d.name (type_with types x) (type-with-int types x)

enum-int : (o : Option (List ℕ)) (u : Ty) → enum_of o ≡ Some u → is_int u ≡ false
enum-int None u e = absurd cc
enum-int (Some x) u e = sym (ap is_int (some_is (ty.Enum x) u e))

module _ (types : List TypeDecl) (outs : List ℕ → List Decl) (told : Told) (among : List ℕ → Option Node) (known : (f : List ℕ) (n : Node) → among f ≡ Some n → (told.nodes f ≡ Some n) × (outs f ≡ n.outputs)) where
  module _ (s : Scope) (has_last : Lasts) (N : AreNumbered types told s) (scope : shown.Scope) (z : scopes.Scope) (S : AreShaped s has_last scope z) where
    constant-int : (c : Const) (u : Ty) → constant_type s c ≡ Some u → is_int (type_of_constant types c) ≡ is_int u
    constant-int (const.B b) u e = ap is_int (some_is ty.Bool u e)
    constant-int (const.I n) u e = ap is_int (some_is ty.Int u e)
    constant-int (const.E x) u e = type-with-int types x ∙ sym (enum-int (lookup s.constructors x) u e)

    outputs-mark : (ds : List Decl) (u : Ty) → input_type ds ≡ Some u → is_mark (first_shape told ds) ≡ is_int u
    outputs-mark [] u e = absurd cc
    outputs-mark (d ∷ ds) u e = type-mark told d.ty ∙ ap is_int (some_is d.ty u e)

    outputs-int : (ds : List Decl) (u : Ty) → input_type ds ≡ Some u → is_int (first_type types outs ds) ≡ is_int u
    outputs-int [] u e = absurd cc
    outputs-int (d ∷ ds) u e = ap is_int (some_is d.ty u e)

    found : (f : List ℕ) (n : Node) (u : Ty) → lookup s.nodes f ≡ Some n → first_output (lookup s.nodes f) ≡ Some u → input_type n.outputs ≡ Some u
    found f n u e h = subst (λ o. first_output o ≡ Some u) e h

    mutual
      pub mark-of : (e : Expr) (u : Ty) → ExprSound types among s has_last e → type_of s e ≡ Some u → is_mark (shape_in told e (shapes_in z)) ≡ is_int u
      mark-of (constant a c) u ok h = constant-mark told s c u h
      mark-of (variable a x) u ok h = S.shapes x u h
      mark-of (last_of a x) u ok h = S.shapes x u h
      mark-of (one a o b) u ok h = let r = one_typed (type_of_one o) (type_of s b) u h in mark-of b (type_of_one o) ok r.0 ∙ ap is_int r.1
      mark-of (two a o b c) u ok h = let r = two_typed o (type_of s b) (type_of s c) u h in answer-mark o ∙ ap is_int r.4
      mark-of (choose a b c d) u ok h = let r = if_typed (type_of s b) (type_of s c) (type_of s d) u h in mark-of c u ok.1.0 r.1
      mark-of (pre a b) u ok h = mark-of b u ok h
      mark-of (fby a b c) u ok h = let r = pair_typed (type_of s b) (type_of s c) u h in mark-of b u ok.0 r.0
      mark-of (arrow a b c) u ok h = let r = pair_typed (type_of s b) (type_of s c) u h in mark-of b u ok.0 r.0
      mark-of (when_is a b c x) u ok h = mark-of b u ok (when_typed _ (type_of s b) u h)
      mark-of (merge a x no_part) u ok h = absurd cc
      mark-of (merge a x (more_parts c e ps)) u ok h = let r = merge_typed s (lookup s.variables x) (more_parts c e ps) u h in mark-of e u ok.1.0 r.0
      mark-of (call a f inl es) u ok h =
          let r = call_typed (lookup s.nodes f) (types_in s es) u h in
          let k = known f r.0 (sym ok.0 ∙ r.1) in
          ap (λ o. is_mark (first_shape told (outputs_by o))) k.0 ∙ outputs-mark r.0.outputs u (found f r.0 u r.1 r.3)

    mutual
      pub int-of : (e : Expr) (u : Ty) → ExprSound types among s has_last e → type_of s e ≡ Some u → is_int (shown.type_of types outs e scope) ≡ is_int u
      int-of (constant a c) u ok h = constant-int c u h
      int-of (variable a x) u ok h = S.types x u h
      int-of (last_of a x) u ok h = S.types x u h
      int-of (one a o b) u ok h = let r = one_typed (type_of_one o) (type_of s b) u h in int-of b (type_of_one o) ok r.0 ∙ ap is_int r.1
      int-of (two a o b c) u ok h = let r = two_typed o (type_of s b) (type_of s c) u h in answer-int o ∙ ap is_int r.4
      int-of (choose a b c d) u ok h = let r = if_typed (type_of s b) (type_of s c) (type_of s d) u h in int-of c u ok.1.0 r.1
      int-of (pre a b) u ok h = int-of b u ok h
      int-of (fby a b c) u ok h = let r = pair_typed (type_of s b) (type_of s c) u h in int-of b u ok.0 r.0
      int-of (arrow a b c) u ok h = let r = pair_typed (type_of s b) (type_of s c) u h in int-of b u ok.0 r.0
      int-of (when_is a b c x) u ok h = int-of b u ok (when_typed _ (type_of s b) u h)
      int-of (merge a x no_part) u ok h = absurd cc
      int-of (merge a x (more_parts c e ps)) u ok h = let r = merge_typed s (lookup s.variables x) (more_parts c e ps) u h in int-of e u ok.1.0 r.0
      int-of (call a f inl es) u ok h =
          let r = call_typed (lookup s.nodes f) (types_in s es) u h in
          let k = known f r.0 (sym ok.0 ∙ r.1) in
          ap (λ ds. is_int (first_type types outs ds)) k.1 ∙ outputs-int r.0.outputs u (found f r.0 u r.1 r.3)
