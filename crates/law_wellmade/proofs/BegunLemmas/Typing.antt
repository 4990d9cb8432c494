-- The variable that is made of an expression has the type of the expression, so that what is given at each register is the first value of the type of its variable.
use Rattle.std.proofs.Common.{◌≡◌, ℕ, List, [], ◌∷◌, refl, sym, ap, subst, ◌∙◌}
use Rattle.std.specs.Prelude.{⊤, codes, IsTrue, Option, None, Some}
use Rattle.hp_base.specs.declared.value.Value.{Value}
use Rattle.hp_base.specs.declared.ty.Ty.{Ty}
use Rattle.hp_base.specs.declared.ty.Ty.TheVariants as ty
use Rattle.hp_base.specs.declared.ty.Const.{Const}
use Rattle.hp_base.specs.declared.ty.Const.TheVariants as const
use Rattle.hp_tree.specs.declared.expr.Op1.{Op1}
use Rattle.hp_tree.specs.declared.expr.Op1.TheVariants.{Not, Neg}
use Rattle.hp_tree.specs.declared.expr.Op2.{Op2}
use Rattle.hp_tree.specs.declared.expr.Op2.TheVariants.{And, Or, Xor, Imp, Eq, Ne, Lt, Le, Gt, Ge, Add, Sub, Mul, Div, Rem}
use Rattle.hp_tree.specs.Expressions.{Expr, constant, variable, last_of, one, two, choose, pre, fby, arrow, when_is, merge, call, Exprs, no_expr, more_exprs, Parts, no_part, more_parts}
use Rattle.hp_tree.specs.Blocks.{Decl}
use Rattle.hp_tree.specs.Programs.{Node}
use Rattle.hp_base.specs.Known.Known.{lookup}
use Rattle.hp_typing.specs.Types.{type_of, types_in, type_of_one, answer, enum_of, single, outputs_in, args_fit, merge_type}
use Rattle.law_judged.specs.Typed.Scopes.{Scope}
use Rattle.law_values.proofs.ValuedLemmas.Typed.{some_is, one_typed, two_typed, if_typed, pair_typed, when_typed, row_typed, arg_typed, PartsHave, merge_typed}
use Rattle.hp_flat.specs.declared.node.FlatTy.{FlatTy}
use Rattle.hp_flat.specs.declared.node.FlatTy.TheVariants as flat
use Rattle.hp_flat.specs.declared.equation.Atom.{Atom}
use Rattle.law_equations.specs.Flattened.Flatten.{constant_in}
use Rattle.law_equations.specs.Made.Making.{Known, Sketch, Site, Sight, Made, next, new_name, new_variable, with_new, type_at, flat_type, first_value, type_number, constructor_value, constant_value, cons_number, type_of_value, type_one, type_two, outputs_of, register_at, flag_at, by_constant, on_site, off_site, tested, part_at, or_new, first_output, with_outputs, called_at, sketch_expr, sketch_parts, sketch_exprs}
use Rattle.law_wellmade.proofs.BegunLemmas.Keeping.{HasType, type_is, retyped, Keeps, moved, variable_typed, value_keeps, flag_keeps, expr_keeps}

-- ---- a scope, and what its names stand for

-- The constructors of a scope are of types by their numbers, and its nodes are those of the program.
pub record Grounded (k : Known) (s : Scope) : Type 0 where
  pub constructors : (c u : List ℕ) → lookup s.constructors c ≡ Some u → (n : ℕ) × (k.constructors c ≡ Some (type_number (k.types u), n))
  pub nodes : (f : List ℕ) (n : Node) → lookup s.nodes f ≡ Some n → k.nodes f ≡ Some n

-- Each variable of the scope has its type.
abbrev pub SeesTypes : Known → Scope → Sight → Type 0
SeesTypes k s see = (x : List ℕ) (t : Ty) → lookup s.variables x ≡ Some t → (see x).ty ≡ flat_type k.types t

-- ---- types

abbrev HasPart : Parts → Type 0
HasPart no_part = ⊥
HasPart (more_parts c e ps) = ⊤

has_part : (s : Scope) (name : Option Ty) (ps : Parts) (t : Ty) → merge_type s name ps ≡ Some t → HasPart ps
has_part s name no_part t h = absurd (cc)
has_part s name (more_parts c e ps) t h = tt

held_keeps : (at : Site) (m : Made) (v : Value) → Keeps m.0 (register_at at v m.1 m.0).0
held_keeps at m v = value_keeps at (type_at m.0 m.1) _ m.0

one_is : (k : Known) (o : Op1) → type_one o ≡ flat_type k.types (type_of_one o)
one_is k Not = refl
one_is k Neg = refl

two_is : (k : Known) (o : Op2) → type_two o ≡ flat_type k.types (answer o)
two_is k And = refl
two_is k Or = refl
two_is k Xor = refl
two_is k Imp = refl
two_is k Eq = refl
two_is k Ne = refl
two_is k Lt = refl
two_is k Le = refl
two_is k Gt = refl
two_is k Ge = refl
two_is k Add = refl
two_is k Sub = refl
two_is k Mul = refl
two_is k Div = refl
two_is k Rem = refl

-- some arguments, each of some type
abbrev pub ExprsHave : Scope → Exprs → Type 0
ExprsHave s no_expr = ⊤
ExprsHave s (more_exprs e es) = ((t : Ty) × (type_of s e ≡ Some t)) × ExprsHave s es

pub args_have : (s : Scope) (ds : List Decl) (es : Exprs) → IsTrue (args_fit ds (types_in s es)) → ExprsHave s es
args_have s ds no_expr h = tt
args_have s [] (more_exprs e es) h = absurd (cc)
args_have s (d ∷ ds) (more_exprs e es) h = let q = arg_typed d ds (type_of s e) (types_in s es) h in ((d.ty, q.0), args_have s ds es q.1)

-- the outputs of a call that has a type
single_is : (outs : List Decl) (t : Ty) → single (Some outs) ≡ Some t → (d : Decl) × (outs ≡ d ∷ []) × (d.ty ≡ t)
single_is [] t h = absurd (cc)
single_is (d ∷ []) t h = (d, refl, some_is d.ty t h)
single_is (d ∷ e ∷ ds) t h = absurd (cc)

pub call_outputs : (o : Option Node) (ts : List (Option Ty)) (t : Ty) → single (outputs_in o ts) ≡ Some t → (n : Node) × (o ≡ Some n) × ((d : Decl) × (n.outputs ≡ d ∷ []) × (d.ty ≡ t))
call_outputs o ts t h = by (outputs_in o ts) refl h
  where
    by : (r : Option (List Decl)) → outputs_in o ts ≡ r → single r ≡ Some t → (n : Node) × (o ≡ Some n) × ((d : Decl) × (n.outputs ≡ d ∷ []) × (d.ty ≡ t))
    by None e g = absurd (cc)
    by (Some outs) e g =
        let q = row_typed o ts outs e in
        let w = single_is outs t g in
        (q.0, q.1, (w.0, q.3 ∙ w.1, w.2))

module _ (k : Known) (s : Scope) (see : Sight) (ground : Grounded k s) (sees : SeesTypes k s see) where
  abbrev IsMade : Made → Ty → Type 0
  IsMade m t = HasType m.0 m.1 (flat_type k.types t)

  enum_type : (c : List ℕ) (o : Option (List ℕ)) (t : Ty) → lookup s.constructors c ≡ o → enum_of o ≡ Some t → type_of_value (constructor_value (k.constructors c)) ≡ flat_type k.types t
  enum_type c None t e h = absurd (cc)
  enum_type c (Some u) t e h =
      let q = ground.constructors c u e in
      ap (λ o. type_of_value (constructor_value o)) q.1 ∙ ap (λ z. flat_type k.types z) (some_is (ty.Enum u) t h)

  -- a new variable of the type of a value
  value_as : (u : FlatTy) (d : Sketch) (t : Ty) → u ≡ flat_type k.types t → IsMade (new_variable (codes "e") u d) t
  value_as u d t e = retyped (with_new (codes "e") u d) (next d) u (flat_type k.types t) (variable_typed (new_name (codes "e") (next d)) u d) e

  held_as : (at : Site) (m : Made) (v : Value) (t : Ty) → IsMade m t → IsMade (register_at at v m.1 m.0) t
  held_as at m v t h = value_as (type_at m.0 m.1) m.0 t (type_is m.0 m.1 (flat_type k.types t) h)

  by_typed : (o : Option Const) (m : Made) (f : Const → Made) (t : Ty) → IsMade m t → ((c : Const) → IsMade (f c) t) → IsMade (by_constant o m f) t
  by_typed None m f t h g = h
  by_typed (Some c) m f t h g = g c

  call_typed_as : (at : Site) (f : List ℕ) (args : List Atom) (os : List Decl) (e : Sketch) (d : Decl) (t : Ty) → os ≡ d ∷ [] → d.ty ≡ t → IsMade (first_output at os (called_at k at f args os e)) t
  call_typed_as at f args os e d t is same =
      subst (λ z. IsMade (first_output at z (called_at k at f args z e)) t) (sym is)
      (let m = called_at k at f args (d ∷ []) e in
      value_as (type_at m.0 m.1) m.0 t
      (type_is m.0 m.1 (flat_type k.types t)
      (retyped (with_outputs k (d ∷ []) e) (next e) (flat_type k.types d.ty) (flat_type k.types t) (variable_typed (new_name d.name (next e)) (flat_type k.types d.ty) e) (ap (λ z. flat_type k.types z) same))))

  -- once a merge has its variable, it keeps it
  parts_typed : (ps : Parts) (at : Site) (v x : ℕ) (d : Sketch) (t : Ty) → HasType d x (flat_type k.types t) → IsMade (or_new (sketch_parts k see at v (Some x) ps d)) t
  parts_typed no_part at v x d t h = h
  parts_typed (more_parts c e ps) at v x d t h =
      let on = on_site at v (cons_number k c) in
      let m = sketch_expr k see on e d in
      parts_typed ps at v x (part_at on (Some x) m).0 t (moved d m.0 x (flat_type k.types t) (expr_keeps k e see on d) h)

  mutual
    pub typed : (e : Expr) (t : Ty) (at : Site) (d : Sketch) → type_of s e ≡ Some t → IsMade (sketch_expr k see at e d) t
    typed (constant a (const.B b)) t at d h = value_as flat.Bool d t (ap (λ z. flat_type k.types z) (some_is ty.Bool t h))
    typed (constant a (const.I n)) t at d h = value_as flat.Int d t (ap (λ z. flat_type k.types z) (some_is ty.Int t h))
    typed (constant a (const.E c)) t at d h = value_as (type_of_value (constructor_value (k.constructors c))) d t (enum_type c (lookup s.constructors c) t refl h)
    typed (variable a x) t at d h = value_as (see x).ty d t (sees x t h)
    typed (last_of a x) t at d h = value_as (see x).ty d t (sees x t h)
    typed (one a o b) t at d h =
        let x = sketch_expr k see at b d in
        let q = one_typed (type_of_one o) (type_of s b) t h in
        value_as (type_one o) x.0 t (one_is k o ∙ ap (λ z. flat_type k.types z) q.1)
    typed (two a o b c) t at d h =
        let x = sketch_expr k see at b d in
        let y = sketch_expr k see at c x.0 in
        let q = two_typed o (type_of s b) (type_of s c) t h in
        value_as (type_two o) y.0 t (two_is k o ∙ ap (λ z. flat_type k.types z) q.4)
    typed (choose a b c e) t at d h =
        let x = sketch_expr k see at b d in
        let y = sketch_expr k see at c x.0 in
        let z = sketch_expr k see at e y.0 in
        let q = if_typed (type_of s b) (type_of s c) (type_of s e) t h in
        value_as (type_at z.0 y.1) z.0 t (type_is z.0 y.1 (flat_type k.types t) (moved y.0 z.0 y.1 (flat_type k.types t) (expr_keeps k e see at y.0) (typed c t at x.0 q.1)))
    typed (pre a b) t at d h = let x = sketch_expr k see at b d in held_as at x (first_value (type_at x.0 x.1)) t (typed b t at d h)
    typed (fby a b c) t at d h =
        let x = sketch_expr k see at b d in
        let y = sketch_expr k see at c x.0 in
        let held = register_at at (first_value (type_at y.0 y.1)) y.1 y.0 in
        let flag = flag_at at held.0 in
        let q = pair_typed (type_of s b) (type_of s c) t h in
        by_typed (constant_in b) _ _ t
        (value_as (type_at flag.0 x.1) flag.0 t (type_is flag.0 x.1 (flat_type k.types t)
        (moved held.0 flag.0 x.1 (flat_type k.types t) (flag_keeps at held.0) (moved y.0 held.0 x.1 (flat_type k.types t) (held_keeps at y (first_value (type_at y.0 y.1))) (moved x.0 y.0 x.1 (flat_type k.types t) (expr_keeps k c see at x.0) (typed b t at d q.0))))))
        (λ v. held_as at (sketch_expr k see at c d) (constant_value k v) t (typed c t at d q.1))
    typed (arrow a b c) t at d h =
        let x = sketch_expr k see at b d in
        let y = sketch_expr k see at c x.0 in
        let flag = flag_at at y.0 in
        let q = pair_typed (type_of s b) (type_of s c) t h in
        value_as (type_at flag.0 x.1) flag.0 t (type_is flag.0 x.1 (flat_type k.types t)
        (moved y.0 flag.0 x.1 (flat_type k.types t) (flag_keeps at y.0) (moved x.0 y.0 x.1 (flat_type k.types t) (expr_keeps k c see at x.0) (typed b t at d q.0))))
    typed (when_is a b c x) t at d h =
        let y = sketch_expr k see (off_site at) b d in
        value_as (type_at y.0 y.1) y.0 t (type_is y.0 y.1 (flat_type k.types t) (typed b t (off_site at) d (when_typed _ _ t h)))
    typed (merge a x ps) t at d h = let v = tested (see x).value d in first_typed ps t at v.1 v.0 (merge_typed s (lookup s.variables x) ps t h) (has_part s (lookup s.variables x) ps t h)
    typed (call a f i es) t at d h =
        let args = sketch_exprs k see at es d in
        let q = call_outputs (lookup s.nodes f) (types_in s es) t h in
        call_typed_as at f args.1 (outputs_of (k.nodes f)) args.0 q.2.0 t (ap outputs_of (ground.nodes f q.0 q.1) ∙ q.2.1) q.2.2

    first_typed : (ps : Parts) (t : Ty) (at : Site) (v : ℕ) (d : Sketch) → PartsHave s t ps → HasPart ps → IsMade (or_new (sketch_parts k see at v None ps d)) t
    first_typed no_part t at v d h p = absurd p
    first_typed (more_parts c e ps) t at v d h p =
        let on = on_site at v (cons_number k c) in
        let m = sketch_expr k see on e d in
        let o = part_at on None m in
        parts_typed ps at v o.1 o.0 t (retyped o.0 o.1 (type_at m.0 m.1) (flat_type k.types t) (variable_typed (new_name (codes "e") (next m.0)) (type_at m.0 m.1) m.0) (type_is m.0 m.1 (flat_type k.types t) (typed e t on d h.0)))
