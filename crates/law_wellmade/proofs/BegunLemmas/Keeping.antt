-- The variables that are made of expressions have types, and those made earlier keep theirs.
use Rattle.std.proofs.Common.{◌≡◌, ℕ, zero, suc, Bool, true, false, nat_eq, if◌then◌else◌, List, [], ◌∷◌, ◌++◌, length, Option, None, Some, refl, ap, ◌∙◌}
use Rattle.std.specs.Prelude.{codes, slice_get}
use Rattle.hp_base.specs.declared.ty.Const.{Const}
use Rattle.hp_tree.specs.Expressions.{Expr, constant, variable, last_of, one, two, choose, pre, fby, arrow, when_is, merge, call, Exprs, no_expr, more_exprs, Parts, no_part, more_parts}
use Rattle.hp_tree.specs.Blocks.{Decl}
use Rattle.hp_flat.specs.declared.equation.Atom.{Atom}
use Rattle.hp_flat.specs.declared.node.FlatTy.{FlatTy}
use Rattle.hp_flat.specs.declared.node.FlatTy.TheVariants as flat
use Rattle.hp_flat.specs.declared.node.Variable.{Variable as VariableData}
use Rattle.hp_flat.specs.Equations.{Right}
use Rattle.law_equations.specs.Flattened.Flatten.{constant_in}
use Rattle.law_equations.specs.Made.Making.{Known, Sketch, Site, Sight, Made, next, new_name, with_variable, with_new, with_eqn, named_value, value_of, read_at, register_at, type_at, type_of_variable, flat_type, first_value, constant_value, cons_number, outputs_of, atom_of, copy_of, new_flag, block_flag, flag_at, by_constant, fby_at, arrow_at, on_site, off_site, tested, merged_variable, part_at, first_output, with_outputs, called_at, sketch_expr, sketch_parts, sketch_exprs}

-- ---- lists that grow

longer : {A : Type 0} (xs ys : List A) (i : ℕ) (v : A) → slice_get xs i ≡ Some v → slice_get (xs ++ ys) i ≡ Some v
longer [] ys i v h = absurd (cc)
longer (x ∷ xs) ys zero v h = h
longer (x ∷ xs) ys (suc i) v h = longer xs ys i v h

at_end : {A : Type 0} (xs : List A) (v : A) → slice_get (xs ++ v ∷ []) (length xs) ≡ Some v
at_end [] v = refl
at_end (x ∷ xs) v = at_end xs v

-- ---- types of variables

-- a variable of a sketch has a type
abbrev pub HasType : Sketch → ℕ → FlatTy → Type 0
HasType d x t = (v : VariableData) × (slice_get d.variables x ≡ Some v) × (v.ty ≡ t)

pub type_is : (d : Sketch) (x : ℕ) (t : FlatTy) → HasType d x t → type_at d x ≡ t
type_is d x t h = ap type_of_variable h.1 ∙ h.2

pub retyped : (d : Sketch) (x : ℕ) (t u : FlatTy) → HasType d x t → t ≡ u → HasType d x u
retyped d x t u h e = (h.0, h.1, h.2 ∙ e)

-- from one sketch to another variables keep their types
pub record Keeps (d e : Sketch) : Type 0 where
  pub kept : (x : ℕ) (v : VariableData) → slice_get d.variables x ≡ Some v → slice_get e.variables x ≡ Some v

pub moved : (d e : Sketch) (x : ℕ) (t : FlatTy) → Keeps d e → HasType d x t → HasType e x t
moved d e x t k h = (h.0, k.kept x h.0 h.1, h.2)

same : (d : Sketch) → Keeps d d
same d = record { kept = λ x v h. h }

pub both : (d e f : Sketch) → Keeps d e → Keeps e f → Keeps d f
both d e f g h = record { kept = λ x v p. h.kept x v (g.kept x v p) }

variable_keeps : (x : List ℕ) (t : FlatTy) (d : Sketch) → Keeps d (with_variable x t d)
variable_keeps x t d = record { kept = λ i v h. longer d.variables (record { name = x; ty = t } ∷ []) i v h }

pub variable_typed : (x : List ℕ) (t : FlatTy) (d : Sketch) → HasType (with_variable x t d) (next d) t
variable_typed x t d = (record { name = x; ty = t }, at_end d.variables (record { name = x; ty = t }), refl)

eqn_keeps : (at : Site) (targets : List ℕ) (right : Right) (d : Sketch) → Keeps d (with_eqn at targets right d)
eqn_keeps at targets right d = record { kept = λ x v h. h }

named_keeps : (at : Site) (x : List ℕ) (t : FlatTy) (right : Right) (d : Sketch) → Keeps d (named_value at x t right d).0
named_keeps at x t right d = record { kept = λ i v h. longer d.variables (record { name = new_name x (next d); ty = t } ∷ []) i v h }

pub value_keeps : (at : Site) (t : FlatTy) (right : Right) (d : Sketch) → Keeps d (value_of at t right d).0
value_keeps at t right d = named_keeps at (codes "e") t right d

pub value_typed : (at : Site) (t : FlatTy) (right : Right) (d : Sketch) → HasType (value_of at t right d).0 (value_of at t right d).1 t
value_typed at t right d = variable_typed (new_name (codes "e") (next d)) t d

pub read_keeps : (at : Site) (o : Option ℕ) (t : FlatTy) (d : Sketch) → Keeps d (read_at at o t d).0
read_keeps at o t d = value_keeps at t (copy_of (atom_of o)) d

pub flag_keeps : (at : Site) (d : Sketch) → Keeps d (flag_at at d).0
flag_keeps at d = by (nat_eq (length at.clock) at.base) d.flag
  where
    flagged : (e : Sketch) (f : Option ℕ) → Keeps d e → Keeps d (record e { flag = f })
    flagged e f g = record { kept = g.kept }

    fresh : Keeps d (new_flag at d).0
    fresh = named_keeps at (codes "first") flat.Bool _ d

    by : (b : Bool) (f : Option ℕ) → Keeps d (if b then block_flag at f d else new_flag at d).0
    by true None = flagged (new_flag at d).0 (Some (new_flag at d).1) fresh
    by true (Some x) = same d
    by false f = fresh

tested_keeps : (o : Option ℕ) (d : Sketch) → Keeps d (tested o d).0
tested_keeps None d = variable_keeps (new_name (codes "e") (next d)) flat.Bool d
tested_keeps (Some x) d = same d

merged_keeps : (o : Option ℕ) (t : FlatTy) (d : Sketch) → Keeps d (merged_variable o t d).0
merged_keeps None t d = variable_keeps (new_name (codes "e") (next d)) t d
merged_keeps (Some x) t d = same d

pub part_keeps : (at : Site) (o : Option ℕ) (e : Made) → Keeps e.0 (part_at at o e).0
part_keeps at o e = let m = merged_variable o (type_at e.0 e.1) e.0 in record { kept = (merged_keeps o (type_at e.0 e.1) e.0).kept }

first_keeps : (at : Site) (os : List Decl) (m : Made) → Keeps m.0 (first_output at os m).0
first_keeps at [] m = variable_keeps (new_name (codes "e") (next m.0)) flat.Bool m.0
first_keeps at (o ∷ os) m = read_keeps at (Some m.1) (type_at m.0 m.1) m.0

module _ (k : Known) where
  pub outputs_keep : (os : List Decl) (d : Sketch) → Keeps d (with_outputs k os d)
  outputs_keep [] d = same d
  outputs_keep (o ∷ os) d =
      let e = with_new o.name (flat_type k.types o.ty) d in
      both d e (with_outputs k os e) (variable_keeps (new_name o.name (next d)) (flat_type k.types o.ty) d) (outputs_keep os e)

  called_keeps : (at : Site) (f : List ℕ) (args : List Atom) (os : List Decl) (d : Sketch) → Keeps d (called_at k at f args os d).0
  called_keeps at f args os d = record { kept = (outputs_keep os d).kept }

  fby_keeps : (at : Site) (a : ℕ) (b : Made) → Keeps b.0 (fby_at at a b).0
  fby_keeps at a b =
      let held = register_at at (first_value (type_at b.0 b.1)) b.1 b.0 in
      let flag = flag_at at held.0 in
      both b.0 held.0 _ (value_keeps at _ _ b.0) (both held.0 flag.0 _ (flag_keeps at held.0) (value_keeps at _ _ flag.0))

  arrow_keeps : (at : Site) (a : ℕ) (b : Made) → Keeps b.0 (arrow_at at a b).0
  arrow_keeps at a b =
      let flag = flag_at at b.0 in
      both b.0 flag.0 _ (flag_keeps at b.0) (value_keeps at _ _ flag.0)

  fby_by : (c : Option Const) (d : Sketch) (m : Made) (f : Const → Made) → Keeps d m.0 → ((c : Const) → Keeps d (f c).0) → Keeps d (by_constant c m f).0
  fby_by None d m f g h = g
  fby_by (Some c) d m f g h = h c

  mutual
    pub expr_keeps : (e : Expr) (see : Sight) (at : Site) (d : Sketch) → Keeps d (sketch_expr k see at e d).0
    expr_keeps (constant s c) see at d = value_keeps at _ _ d
    expr_keeps (variable s x) see at d = read_keeps at (see x).value (see x).ty d
    expr_keeps (last_of s x) see at d = read_keeps at (see x).last (see x).ty d
    expr_keeps (one s o e) see at d = let x = sketch_expr k see at e d in both d x.0 _ (expr_keeps e see at d) (value_keeps at _ _ x.0)
    expr_keeps (two s o e f) see at d =
        let x = sketch_expr k see at e d in
        let y = sketch_expr k see at f x.0 in
        both d x.0 _ (expr_keeps e see at d) (both x.0 y.0 _ (expr_keeps f see at x.0) (value_keeps at _ _ y.0))
    expr_keeps (choose s e f t) see at d =
        let x = sketch_expr k see at e d in
        let y = sketch_expr k see at f x.0 in
        let z = sketch_expr k see at t y.0 in
        both d x.0 _ (expr_keeps e see at d) (both x.0 y.0 _ (expr_keeps f see at x.0) (both y.0 z.0 _ (expr_keeps t see at y.0) (value_keeps at _ _ z.0)))
    expr_keeps (pre s e) see at d = let x = sketch_expr k see at e d in both d x.0 _ (expr_keeps e see at d) (value_keeps at _ _ x.0)
    expr_keeps (fby s e f) see at d =
        let x = sketch_expr k see at e d in
        let y = sketch_expr k see at f x.0 in
        let z = sketch_expr k see at f d in
        fby_by (constant_in e) d _ _ (both d x.0 _ (expr_keeps e see at d) (both x.0 y.0 _ (expr_keeps f see at x.0) (fby_keeps at x.1 y)))
        (λ c. both d z.0 (register_at at (constant_value k c) z.1 z.0).0 (expr_keeps f see at d) (value_keeps at _ _ z.0))
    expr_keeps (arrow s e f) see at d =
        let x = sketch_expr k see at e d in
        let y = sketch_expr k see at f x.0 in
        both d x.0 _ (expr_keeps e see at d) (both x.0 y.0 _ (expr_keeps f see at x.0) (arrow_keeps at x.1 y))
    expr_keeps (when_is s e c x) see at d =
        let y = sketch_expr k see (off_site at) e d in
        both d y.0 _ (expr_keeps e see (off_site at) d) (read_keeps at (Some y.1) (type_at y.0 y.1) y.0)
    expr_keeps (merge s x ps) see at d =
        let t = tested (see x).value d in
        let m = sketch_parts k see at t.1 None ps t.0 in
        both d t.0 _ (tested_keeps (see x).value d) (both t.0 m.0 _ (parts_keep ps see at t.1 None t.0) (merged_keeps m.1 _ m.0))
    expr_keeps (call s f inlined es) see at d =
        let os = outputs_of (k.nodes f) in
        let args = sketch_exprs k see at es d in
        let c = called_at k at f args.1 os args.0 in
        both d args.0 _ (exprs_keep es see at d) (both args.0 c.0 _ (called_keeps at f args.1 os args.0) (first_keeps at os c))

    parts_keep : (ps : Parts) (see : Sight) (at : Site) (t : ℕ) (merged : Option ℕ) (d : Sketch) → Keeps d (sketch_parts k see at t merged ps d).0
    parts_keep no_part see at t merged d = same d
    parts_keep (more_parts c e ps) see at t merged d =
        let on = on_site at t (cons_number k c) in
        let x = sketch_expr k see on e d in
        let m = part_at on merged x in
        both d x.0 _ (expr_keeps e see on d) (both x.0 m.0 _ (part_keeps on merged x) (parts_keep ps see at t (Some m.1) m.0))

    exprs_keep : (es : Exprs) (see : Sight) (at : Site) (d : Sketch) → Keeps d (sketch_exprs k see at es d).0
    exprs_keep no_expr see at d = same d
    exprs_keep (more_exprs e es) see at d = let x = sketch_expr k see at e d in both d x.0 _ (expr_keeps e see at d) (exprs_keep es see at x.0)
