-- The variables that are made of a node have names of machine texts.
use Rattle.std.proofs.Common.{◌≡◌, ℕ, ◌+◌, ◌^◌, ◌<◌, ◌≤◌, nat_eq, Bool, true, false, if◌then◌else◌, List, [], ◌∷◌, ◌++◌, length, Option, None, Some, refl, sym, subst, arith}
use Rattle.std.specs.Prelude.{codes}
use Rattle.std.specs.List.{AllByRecursion}
use Rattle.std.proofs.lemmas.List.{length-append, map-append}
use Rattle.hp_base.specs.declared.span.Span.{Span}
use Rattle.hp_base.specs.declared.ty.Const.{Const}
use Rattle.hp_tree.specs.declared.decl.Cons.{Cons}
use Rattle.hp_tree.specs.Expressions.{Expr, constant, variable, last_of, one, two, choose, pre, fby, arrow, when_is, merge, call, Exprs, no_expr, more_exprs, Parts, no_part, more_parts}
use Rattle.hp_tree.specs.Blocks.{Decl}
use Rattle.hp_flat.specs.declared.equation.Atom.{Atom}
use Rattle.hp_flat.specs.declared.node.FlatTy.{FlatTy}
use Rattle.hp_flat.specs.declared.node.FlatTy.TheVariants as flat
use Rattle.hp_flat.specs.declared.node.Variable.{Variable as VariableData}
use Rattle.law_equations.specs.Flattened.Flatten.{constant_in}
use Rattle.law_equations.specs.Followed.Premises.{names}
use Rattle.law_equations.specs.Made.Making.{Known, Sketch, Site, Sight, Made, next, new_name, with_variable, with_new, read_at, register_at, new_flag, block_flag, flag_at, type_at, flat_type, first_value, constant_value, cons_number, outputs_of, by_constant, fby_at, arrow_at, on_site, off_site, tested, merged_variable, part_at, first_output, with_outputs, called_at, enter_path, path_for, output_left, others, bind, bind_all, bind_outputs, sketch_expr, sketch_parts, sketch_exprs, sketch_right, sketch_definition}
use Rattle.law_wellmade.specs.Lettered.Names.{DeclsSpelled, IsName}
use Rattle.law_wellmade.proofs.LetteredLemmas.NewLetters.{new_named}

-- As long as there are at most so many variables, each has such a name.
abbrev pub Lettered : Sketch → Type 0
Lettered d = length d.variables ≤ 2 ^ 64 → AllByRecursion IsName (names d.variables)

one_behind : (xs : List (List ℕ)) (x : List ℕ) → AllByRecursion IsName xs → IsName x → AllByRecursion IsName (xs ++ x ∷ [])
one_behind [] x h p = (p, tt)
one_behind (y ∷ xs) x h p = (h.0, one_behind xs x h.1 p)

-- ---- one variable more

pub variable-lettered : (x : List ℕ) (t : FlatTy) (d : Sketch) → (next d < 2 ^ 64 → IsName x) → Lettered d → Lettered (with_variable x t d)
variable-lettered x t d p h l =
    let v : VariableData = record { name = x; ty = t } in
    let long : length (d.variables ++ v ∷ []) ≡ length d.variables + 1 = length-append d.variables (v ∷ []) in
    let same : names (d.variables ++ v ∷ []) ≡ names d.variables ++ x ∷ [] = map-append (λ (w : VariableData). w.name) d.variables (v ∷ []) in
    subst (AllByRecursion IsName) (sym same) (one_behind (names d.variables) x (h (omega (arith, l, long))) (p (omega (arith, l, long))))

pub new-lettered : (x : List ℕ) (t : FlatTy) (d : Sketch) → IsName x → Lettered d → Lettered (with_new x t d)
new-lettered x t d p h = variable-lettered (new_name x (next d)) t d (λ l. new_named x (next d) l p) h

-- An equation has no variable of its own.
value-lettered : (t : FlatTy) (d : Sketch) → Lettered d → Lettered (with_new (codes "e") t d)
value-lettered t d h = new-lettered (codes "e") t d refl h

pub read-lettered : (at : Site) (o : Option ℕ) (t : FlatTy) (d : Sketch) → Lettered d → Lettered (read_at at o t d).0
read-lettered at o t d h = value-lettered t d h

flag_lettered : (at : Site) (d : Sketch) → Lettered d → Lettered (new_flag at d).0
flag_lettered at d h = new-lettered (codes "first") flat.Bool d refl h

flag-lettered : (at : Site) (d : Sketch) → Lettered d → Lettered (flag_at at d).0
flag-lettered at d h = by (nat_eq (length at.clock) at.base) d.flag
  where
    by : (b : Bool) (f : Option ℕ) → Lettered (if b then block_flag at f d else new_flag at d).0
    by true None = flag_lettered at d h
    by true (Some x) = h
    by false f = flag_lettered at d h

tested-lettered : (o : Option ℕ) (d : Sketch) → Lettered d → Lettered (tested o d).0
tested-lettered None d h = new-lettered (codes "e") flat.Bool d refl h
tested-lettered (Some x) d h = h

merged-lettered : (o : Option ℕ) (t : FlatTy) (d : Sketch) → Lettered d → Lettered (merged_variable o t d).0
merged-lettered None t d h = new-lettered (codes "e") t d refl h
merged-lettered (Some x) t d h = h

part-lettered : (at : Site) (o : Option ℕ) (e : Made) → Lettered e.0 → Lettered (part_at at o e).0
part-lettered at o e h = merged-lettered o (type_at e.0 e.1) e.0 h

first-lettered : (at : Site) (os : List Decl) (m : Made) → Lettered m.0 → Lettered (first_output at os m).0
first-lettered at [] m h = new-lettered (codes "e") flat.Bool m.0 refl h
first-lettered at (o ∷ os) m h = read-lettered at (Some m.1) (type_at m.0 m.1) m.0 h

-- ---- what is bound has no variable of its own

pub bind-lettered : (at : Site) (o source : Option ℕ) (d : Sketch) → Lettered d → Lettered (bind at o source d)
bind-lettered at None source d h = h
bind-lettered at (Some x) source d h = h

bind-all-lettered : (see : Sight) (at : Site) (ys : List (List ℕ × Span)) (x : ℕ) (d : Sketch) → Lettered d → Lettered (bind_all see at ys x d)
bind-all-lettered see at [] x d h = h
bind-all-lettered see at (y ∷ ys) x d h = bind-all-lettered see at ys x (bind at (see y.0).value (Some x) d) (bind-lettered at (see y.0).value (Some x) d h)

bind-outputs-lettered : (see : Sight) (at : Site) (ys : List (List ℕ × Span)) (m : ℕ) (os : List Decl) (d : Sketch) → Lettered d → Lettered (bind_outputs see at ys m os d)
bind-outputs-lettered see at [] m os d h = h
bind-outputs-lettered see at (y ∷ ys) m os d h =
    bind-outputs-lettered see at ys (m + 1) (others os) (bind at (see y.0).value (output_left m os) d) (bind-lettered at (see y.0).value (output_left m os) d h)

-- ---- expressions, where the outputs of each node that is known have such names

module _ (k : Known) (known : (f : List ℕ) → DeclsSpelled IsName (outputs_of (k.nodes f))) where
  outputs_lettered : (os : List Decl) (d : Sketch) → DeclsSpelled IsName os → Lettered d → Lettered (with_outputs k os d)
  outputs_lettered [] d p h = h
  outputs_lettered (o ∷ os) d p h = outputs_lettered os (with_new o.name (flat_type k.types o.ty) d) p.1 (new-lettered o.name (flat_type k.types o.ty) d p.0 h)

  called_lettered : (at : Site) (f : List ℕ) (args : List Atom) (d : Sketch) → Lettered d → Lettered (called_at k at f args (outputs_of (k.nodes f)) d).0
  called_lettered at f args d h = outputs_lettered (outputs_of (k.nodes f)) d (known f) h

  fby_lettered : (at : Site) (a : ℕ) (b : Made) → Lettered b.0 → Lettered (fby_at at a b).0
  fby_lettered at a b h =
      let held = register_at at (first_value (type_at b.0 b.1)) b.1 b.0 in
      let flag = flag_at at held.0 in
      value-lettered _ flag.0 (flag-lettered at held.0 (value-lettered _ b.0 h))

  arrow_lettered : (at : Site) (a : ℕ) (b : Made) → Lettered b.0 → Lettered (arrow_at at a b).0
  arrow_lettered at a b h = let flag = flag_at at b.0 in value-lettered _ flag.0 (flag-lettered at b.0 h)

  fby_by : (c : Option Const) (m : Made) (f : Const → Made) → Lettered m.0 → ((c : Const) → Lettered (f c).0) → Lettered (by_constant c m f).0
  fby_by None m f g h = g
  fby_by (Some c) m f g h = h c

  mutual
    pub expr-lettered : (e : Expr) (see : Sight) (at : Site) (d : Sketch) → Lettered d → Lettered (sketch_expr k see at e d).0
    expr-lettered (constant s c) see at d h = value-lettered _ d h
    expr-lettered (variable s x) see at d h = read-lettered at (see x).value (see x).ty d h
    expr-lettered (last_of s x) see at d h = read-lettered at (see x).last (see x).ty d h
    expr-lettered (one s o e) see at d h = let x = sketch_expr k see at e d in value-lettered _ x.0 (expr-lettered e see at d h)
    expr-lettered (two s o e f) see at d h =
        let x = sketch_expr k see at e d in
        let y = sketch_expr k see at f x.0 in
        value-lettered _ y.0 (expr-lettered f see at x.0 (expr-lettered e see at d h))
    expr-lettered (choose s e f t) see at d h =
        let x = sketch_expr k see at e d in
        let y = sketch_expr k see at f x.0 in
        let z = sketch_expr k see at t y.0 in
        value-lettered _ z.0 (expr-lettered t see at y.0 (expr-lettered f see at x.0 (expr-lettered e see at d h)))
    expr-lettered (pre s e) see at d h = let x = sketch_expr k see at e d in value-lettered _ x.0 (expr-lettered e see at d h)
    expr-lettered (fby s e f) see at d h =
        let x = sketch_expr k see at e d in
        let y = sketch_expr k see at f x.0 in
        let z = sketch_expr k see at f d in
        fby_by (constant_in e) (fby_at at x.1 y) (λ c. register_at at (constant_value k c) z.1 z.0) (fby_lettered at x.1 y (expr-lettered f see at x.0 (expr-lettered e see at d h)))
        (λ c. value-lettered _ z.0 (expr-lettered f see at d h))
    expr-lettered (arrow s e f) see at d h =
        let x = sketch_expr k see at e d in
        let y = sketch_expr k see at f x.0 in
        arrow_lettered at x.1 y (expr-lettered f see at x.0 (expr-lettered e see at d h))
    expr-lettered (when_is s e c x) see at d h =
        let y = sketch_expr k see (off_site at) e d in
        read-lettered at (Some y.1) (type_at y.0 y.1) y.0 (expr-lettered e see (off_site at) d h)
    expr-lettered (merge s x ps) see at d h =
        let t = tested (see x).value d in
        let m = sketch_parts k see at t.1 None ps t.0 in
        merged-lettered m.1 _ m.0 (parts-lettered ps see at t.1 None t.0 (tested-lettered (see x).value d h))
    expr-lettered (call s f inlined es) see at d h =
        let os = outputs_of (k.nodes f) in
        let args = sketch_exprs k see at es d in
        let c = called_at k at f args.1 os args.0 in
        first-lettered at os c (called_lettered at f args.1 args.0 (exprs-lettered es see at d h))

    parts-lettered : (ps : Parts) (see : Sight) (at : Site) (t : ℕ) (merged : Option ℕ) (d : Sketch) → Lettered d → Lettered (sketch_parts k see at t merged ps d).0
    parts-lettered no_part see at t merged d h = h
    parts-lettered (more_parts c e ps) see at t merged d h =
        let on = on_site at t (cons_number k c) in
        let x = sketch_expr k see on e d in
        let m = part_at on merged x in
        parts-lettered ps see at t (Some m.1) m.0 (part-lettered on merged x (expr-lettered e see on d h))

    exprs-lettered : (es : Exprs) (see : Sight) (at : Site) (d : Sketch) → Lettered d → Lettered (sketch_exprs k see at es d).0
    exprs-lettered no_expr see at d h = h
    exprs-lettered (more_exprs e es) see at d h = let x = sketch_expr k see at e d in exprs-lettered es see at x.0 (expr-lettered e see at d h)

  -- ---- definitions

  path_lettered : (see : Sight) (path : List (Cons × List ℕ)) (at : Site) (d : Sketch) → Lettered d → Lettered (enter_path k see path at d).1
  path_lettered see [] at d h = h
  path_lettered see (s ∷ path) at d h =
      let t = tested (see s.1).value d in
      path_lettered see path (on_site at t.1 (cons_number k s.0)) t.0 (tested-lettered (see s.1).value d h)

  bound_lettered : (e : Expr) (ys : List (List ℕ × Span)) (see : Sight) (at : Site) (d : Sketch) → Lettered d → Lettered (let x = sketch_expr k see at e d in bind_all see at ys x.1 x.0)
  bound_lettered e ys see at d h = let x = sketch_expr k see at e d in bind-all-lettered see at ys x.1 x.0 (expr-lettered e see at d h)

  right_lettered : (e : Expr) (ys : List (List ℕ × Span)) (see : Sight) (at : Site) (d : Sketch) → Lettered d → Lettered (sketch_right k see at ys e d)
  right_lettered (constant s c) ys see at d h = bound_lettered (constant s c) ys see at d h
  right_lettered (variable s x) ys see at d h = bound_lettered (variable s x) ys see at d h
  right_lettered (last_of s x) ys see at d h = bound_lettered (last_of s x) ys see at d h
  right_lettered (one s o a) ys see at d h = bound_lettered (one s o a) ys see at d h
  right_lettered (two s o a b) ys see at d h = bound_lettered (two s o a b) ys see at d h
  right_lettered (choose s a b c) ys see at d h = bound_lettered (choose s a b c) ys see at d h
  right_lettered (pre s a) ys see at d h = bound_lettered (pre s a) ys see at d h
  right_lettered (fby s a b) ys see at d h = bound_lettered (fby s a b) ys see at d h
  right_lettered (arrow s a b) ys see at d h = bound_lettered (arrow s a b) ys see at d h
  right_lettered (when_is s a c x) ys see at d h = bound_lettered (when_is s a c x) ys see at d h
  right_lettered (merge s x ps) ys see at d h = bound_lettered (merge s x ps) ys see at d h
  right_lettered (call s f inlined es) ys see at d h =
      let os = outputs_of (k.nodes f) in
      let args = sketch_exprs k see at es d in
      let c = called_at k at f args.1 os args.0 in
      bind-outputs-lettered see at ys c.1 os c.0 (called_lettered at f args.1 args.0 (exprs-lettered es see at d h))

  pub definition-lettered : (ds : List Decl) (ys : List (List ℕ × Span)) (e : Expr) (see : Sight) (at : Site) (d : Sketch) → Lettered d → Lettered (sketch_definition k see at ds ys e d)
  definition-lettered ds ys e see at d h =
      let p = enter_path k see (path_for ds ys e) at d in
      right_lettered e ys see p.0 p.1 (path_lettered see (path_for ds ys e) at d h)
