-- What is read as an integer is judged one, and the other way round.
use Rattle.std.proofs.Common.{◌≡◌, ℕ, Bool, true, false, if◌then◌else◌, List, [], ◌∷◌, Option, None, Some, refl, sym, ap, subst, ◌∙◌}
use Rattle.hp_base.specs.declared.ty.Const.TheVariants as const
use Rattle.hp_base.specs.declared.ty.Ty.{Ty}
use Rattle.hp_base.specs.declared.ty.Ty.TheVariants as ty
use Rattle.hp_base.specs.Known.Known.{lookup}
use Rattle.hp_tree.specs.declared.expr.Op2.{Op2}
use Rattle.hp_tree.specs.declared.expr.Op2.TheVariants as op
use Rattle.hp_tree.specs.Blocks.{Decl}
use Rattle.hp_tree.specs.Expressions.{Expr, constant, variable, last_of, one, two, choose, pre, fby, arrow, when_is, merge, call, Parts, no_part, more_parts}
use Rattle.hp_tree.specs.ExpressionTypes as tree
use Rattle.hp_tree.specs.ExpressionTypes.{type_of_two, type_with}
use Rattle.hp_tree.specs.Operators.{place_in}
use Rattle.hp_tree.specs.Programs.{Node, TypeDecl}
use Rattle.hp_typing.specs.Types.{answer, enum_of, input_type, merge_type, type_of, type_of_one, types_in}
use Rattle.hp_meaning.specs.Contract.Slots.{is_int}
use Rattle.law_judged.specs.Typed.Scopes.{Scope}
use Rattle.law_values.specs.Valued.Fitting.{first_output}
use Rattle.law_values.specs.Valued.Judged.{ExprSound, Lasts, PartsSound}
use Rattle.law_values.proofs.ValuedLemmas.Typed.{call_typed, if_typed, merge_typed, one_typed, pair_typed, some_is, two_typed, when_typed}
use Rattle.law_drawing.proofs.InshapeLemmas.TypesRead.{Agrees}

two-same : (o : Op2) → type_of_two o ≡ answer o
two-same op.And = refl
two-same op.Or = refl
two-same op.Xor = refl
two-same op.Imp = refl
two-same op.Eq = refl
two-same op.Ne = refl
two-same op.Lt = refl
two-same op.Le = refl
two-same op.Gt = refl
two-same op.Ge = refl
two-same op.Add = refl
two-same op.Sub = refl
two-same op.Mul = refl
two-same op.Div = refl
two-same op.Rem = refl

-- a constructor is no integer
not-int : (types : List TypeDecl) (c : List ℕ) → is_int (type_with types c) ≡ false
not-int [] c = refl
not-int (d ∷ types) c = by (tree.some_place (place_in 0 d.cons c)) (not-int types c)
  where
    by : (b : Bool) → is_int (type_with types c) ≡ false → is_int (if b then ty.Enum d.name else type_with types c) ≡ false
    by true h = refl
    by false h = h

enum-no-int : (o : Option (List ℕ)) (t : Ty) → enum_of o ≡ Some t → is_int t ≡ false
enum-no-int None t h = absurd cc
enum-no-int (Some u) t h = ap is_int (sym (some_is (ty.Enum u) t h))

-- Where names have the types of the scope, and `outs` has the outputs of nodes, an expression is read as an integer where it is judged one.
module _ (types : List TypeDecl) (among : List ℕ → Option Node) (s : Scope) (lasts : Lasts) (names : tree.Scope) (known : Agrees s names) (outs : List ℕ → List Decl) (outs_are : (f : List ℕ) (n : Node) → lookup s.nodes f ≡ Some n → outs f ≡ n.outputs) where
  first-is : (ds : List Decl) (t : Ty) → input_type ds ≡ Some t → tree.first_type types outs ds ≡ t
  first-is [] t e = absurd cc
  first-is (d ∷ ds) t e = some_is d.ty t e

  mutual
    pub int-same : (e : Expr) (t : Ty) → ExprSound types among s lasts e → type_of s e ≡ Some t → is_int (tree.type_of types outs e names) ≡ is_int t
    int-same (constant a (const.B b)) t ok h = ap is_int (some_is ty.Bool t h)
    int-same (constant a (const.I n)) t ok h = ap is_int (some_is ty.Int t h)
    int-same (constant a (const.E c)) t ok h = not-int types c ∙ sym (enum-no-int (lookup s.constructors c) t h)
    int-same (variable a x) t ok h = ap is_int (known x t h)
    int-same (last_of a x) t ok h = ap is_int (known x t h)
    int-same (one a o b) t ok h =
        let q = one_typed (type_of_one o) (type_of s b) t h in
        int-same b (type_of_one o) ok q.0 ∙ ap is_int q.1
    int-same (two a o b c) t ok h = ap is_int (two-same o ∙ (two_typed o (type_of s b) (type_of s c) t h).4)
    int-same (choose a b c d) t ok h = int-same c t ok.1.0 (if_typed (type_of s b) (type_of s c) (type_of s d) t h).1
    int-same (pre a b) t ok h = int-same b t ok h
    int-same (fby a b c) t ok h = int-same b t ok.0 (pair_typed (type_of s b) (type_of s c) t h).0
    int-same (arrow a b c) t ok h = int-same b t ok.0 (pair_typed (type_of s b) (type_of s c) t h).0
    int-same (when_is a b c x) t ok h = int-same b t ok (when_typed _ (type_of s b) t h)
    int-same (merge a x ps) t ok h = int-same-in ps (lookup s.variables x) t ok.1 h
    int-same (call a f inlined es) t ok h =
        let q = call_typed (lookup s.nodes f) (types_in s es) t h in
        let first : input_type q.0.outputs ≡ Some t = subst (λ o. first_output o ≡ Some t) q.1 q.3 in
        ap is_int (ap (tree.first_type types outs) (outs_are f q.0 q.1) ∙ first-is q.0.outputs t first)

    int-same-in : (ps : Parts) (name : Option Ty) (t : Ty) → PartsSound types among s lasts ps → merge_type s name ps ≡ Some t → is_int (tree.type_of_parts types outs ps names) ≡ is_int t
    int-same-in no_part name t ok h = absurd cc
    int-same-in (more_parts c e ps) name t ok h = int-same e t ok.0 (merge_typed s name (more_parts c e ps) t h).0
