-- Exactly integers are carried as marks, by the types of expressions.
use Rattle.std.proofs.Common.{◌≡◌, ℕ, Bool, true, false, ◌&&◌, if◌then◌else◌, List, [], ◌∷◌, Option, None, Some, refl, sym, ap, subst, ◌∙◌}
use Rattle.hp_base.specs.declared.ty.Ty.{Ty}
use Rattle.hp_base.specs.declared.ty.Ty.TheVariants as ty
use Rattle.hp_base.specs.declared.ty.Const.{Const}
use Rattle.hp_base.specs.declared.ty.Const.TheVariants as const
use Rattle.hp_tree.specs.declared.expr.Op2.{Op2}
use Rattle.hp_tree.specs.declared.expr.Op2.TheVariants.{And, Or, Xor, Imp, Eq, Ne, Lt, Le, Gt, Ge, Add, Sub, Mul, Div, Rem}
use Rattle.hp_tree.specs.Blocks.{Decl}
use Rattle.hp_tree.specs.Expressions.{Expr, constant, variable, last_of, one, two, choose, pre, fby, arrow, when_is, merge, call, no_part, more_parts}
use Rattle.hp_tree.specs.Operators.{is_comparison}
use Rattle.hp_tree.specs.Programs.{TypeDecl, Node}
use Rattle.hp_base.specs.Known.Known.{lookup}
use Rattle.hp_typing.specs.Types.{type_of, types_in, type_of_one, answer, operand, constant_type, enum_of, input_type}
use Rattle.law_judged.specs.Typed.Scopes.{Scope as TypeScope}
use Rattle.law_values.specs.Valued.Fitting.{first_output}
use Rattle.law_values.specs.Valued.Judged.{Lasts, ExprSound}
use Rattle.law_values.proofs.ValuedLemmas.Typed.{one_typed, two_typed, if_typed, pair_typed, when_typed, call_typed, merge_typed, some_is}
use Rattle.hp_meaning.specs.Contract.Slots.{is_int}
use Rattle.hp_drawing.specs.declared.parts.Constructor.{Constructor}
use Rattle.hp_drawing.specs.declared.parts.Entry.{Entry}
use Rattle.hp_drawing.specs.Kept.{is_mark}
use Rattle.hp_drawing.specs.Told.{Told, type_shape, constant_shape, constructor_shape}
use Rattle.hp_drawing.specs.Planned.{shape_in, two_shape, first_shape, outputs_by}
use Rattle.hp_drawing.specs.Scopes.{Scope, found, value_in, value_by, shape_by, shapes_in}
use Rattle.law_drawing.specs.NoCircle.Typed.{AreTyped}
use Rattle.law_drawing.proofs.NoCircleLemmas.Values.{two_whole}

pub type-whole : (t : Told) (u : Ty) → is_mark (type_shape t u) ≡ is_int u
type-whole t ty.Bool = refl
type-whole t ty.Int = refl
type-whole t (ty.Enum x) = refl

-- what a name is carried as
pub shape-of-name : (z : Scope) (x : List ℕ) → (value_in z x).shape ≡ shapes_in z x
unfolding value_in shapes_in
shape-of-name z x = by (found z.values x)
  where
    by : (o : Option Entry) → (value_by o).shape ≡ shape_by o
    by None = refl
    by (Some e) = refl

answer-whole : (o : Op2) → is_mark (two_shape o) ≡ is_int (answer o)
answer-whole And = refl
answer-whole Or = refl
answer-whole Xor = refl
answer-whole Imp = refl
answer-whole Eq = refl
answer-whole Ne = refl
answer-whole Lt = refl
answer-whole Le = refl
answer-whole Gt = refl
answer-whole Ge = refl
answer-whole Add = refl
answer-whole Sub = refl
answer-whole Mul = refl
answer-whole Div = refl
answer-whole Rem = refl

-- an operator gives an integer where its type is that, and a comparison of integers gives none
ordered : (v : Ty) → Some ty.Int ≡ Some v → (if is_int v then false else true) ≡ false
ordered v h = ap (λ b. if b then false else true) (sym (ap is_int (some_is ty.Int v h)))

either-none : (b : Bool) → (if b then false else false) ≡ false
either-none true = refl
either-none false = refl

pub two-answer : (o : Op2) (v : Ty) → operand o (Some v) ≡ Some v → (if is_comparison o && is_int v then false else two_whole o) ≡ is_int (answer o)
two-answer And v h = refl
two-answer Or v h = refl
two-answer Xor v h = refl
two-answer Imp v h = refl
two-answer Eq v h = either-none (is_int v)
two-answer Ne v h = either-none (is_int v)
two-answer Lt v h = ordered v h
two-answer Le v h = ordered v h
two-answer Gt v h = ordered v h
two-answer Ge v h = ordered v h
two-answer Add v h = refl
two-answer Sub v h = refl
two-answer Mul v h = refl
two-answer Div v h = refl
two-answer Rem v h = refl

enum-part : (o : Option (List ℕ)) (u : Ty) → enum_of o ≡ Some u → is_int u ≡ false
enum-part None u e = absurd cc
enum-part (Some x) u e = sym (ap is_int (some_is (ty.Enum x) u e))

constructor-part : (o : Option Constructor) → is_mark (constructor_shape o) ≡ false
constructor-part None = refl
constructor-part (Some c) = refl

pub constant-whole : (t : Told) (g : TypeScope) (c : Const) (u : Ty) → constant_type g c ≡ Some u → is_mark (constant_shape t c) ≡ is_int u
constant-whole t g (const.B b) u e = ap is_int (some_is ty.Bool u e)
constant-whole t g (const.I n) u e = ap is_int (some_is ty.Int u e)
constant-whole t g (const.E x) u e = constructor-part (t.constructors x) ∙ sym (enum-part (lookup g.constructors x) u e)

module _ (types : List TypeDecl) (among : List ℕ → Option Node) (t : Told) (known : (f : List ℕ) (n : Node) → among f ≡ Some n → t.nodes f ≡ Some n) (g : TypeScope) (has_last : Lasts) (z : Scope) (S : AreTyped g has_last z) where
  outputs-whole : (ds : List Decl) (u : Ty) → input_type ds ≡ Some u → is_mark (first_shape t ds) ≡ is_int u
  outputs-whole [] u e = absurd cc
  outputs-whole (d ∷ ds) u e = type-whole t d.ty ∙ ap is_int (some_is d.ty u e)

  pub found-output : (f : List ℕ) (n : Node) (u : Ty) → lookup g.nodes f ≡ Some n → first_output (lookup g.nodes f) ≡ Some u → input_type n.outputs ≡ Some u
  found-output f n u e h = subst (λ o. first_output o ≡ Some u) e h

  named : (x : List ℕ) (u : Ty) → lookup g.variables x ≡ Some u → is_mark (shapes_in z x) ≡ is_int u
  named x u h = sym (ap is_mark (shape-of-name z x)) ∙ S.values x u h

  mutual
    pub whole-of : (e : Expr) (u : Ty) → ExprSound types among g has_last e → type_of g e ≡ Some u → is_mark (shape_in t e (shapes_in z)) ≡ is_int u
    whole-of (constant a c) u ok h = constant-whole t g c u h
    whole-of (variable a x) u ok h = named x u h
    whole-of (last_of a x) u ok h = named x u h
    whole-of (one a o b) u ok h = let r = one_typed (type_of_one o) (type_of g b) u h in whole-of b (type_of_one o) ok r.0 ∙ ap is_int r.1
    whole-of (two a o b c) u ok h = let r = two_typed o (type_of g b) (type_of g c) u h in answer-whole o ∙ ap is_int r.4
    whole-of (choose a b c d) u ok h = let r = if_typed (type_of g b) (type_of g c) (type_of g d) u h in whole-of c u ok.1.0 r.1
    whole-of (pre a b) u ok h = whole-of b u ok h
    whole-of (fby a b c) u ok h = let r = pair_typed (type_of g b) (type_of g c) u h in whole-of b u ok.0 r.0
    whole-of (arrow a b c) u ok h = let r = pair_typed (type_of g b) (type_of g c) u h in whole-of b u ok.0 r.0
    whole-of (when_is a b c x) u ok h = whole-of b u ok (when_typed _ (type_of g b) u h)
    whole-of (merge a x no_part) u ok h = absurd cc
    whole-of (merge a x (more_parts c e ps)) u ok h = let r = merge_typed g (lookup g.variables x) (more_parts c e ps) u h in whole-of e u ok.1.0 r.0
    whole-of (call a f inl es) u ok h =
        let r = call_typed (lookup g.nodes f) (types_in g es) u h in
        ap (λ o. is_mark (first_shape t (outputs_by o))) (known f r.0 (sym ok.0 ∙ r.1)) ∙ outputs-whole r.0.outputs u (found-output f r.0 u r.1 r.3)
