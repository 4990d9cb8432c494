-- Sketches of expressions and definitions grow by new names.
use Rattle.std.proofs.Common.{ℕ, List, [], ◌∷◌, Option, None, Some}
use Rattle.hp_base.specs.declared.span.Span.{Span}
use Rattle.hp_base.specs.declared.ty.Const.{Const}
use Rattle.hp_tree.specs.declared.decl.Cons.{Cons}
use Rattle.hp_tree.specs.Expressions.{Expr, constant, variable, last_of, one, two, choose, pre, fby, arrow, when_is, merge, call, Exprs, no_expr, more_exprs, Parts, no_part, more_parts}
use Rattle.hp_tree.specs.Blocks.{Decl}
use Rattle.hp_flat.specs.declared.equation.Atom.{Atom}
use Rattle.hp_flat.specs.Equations.{called}
use Rattle.law_equations.specs.Flattened.Flatten.{constant_in}
use Rattle.law_equations.specs.Made.Making.{Known, Sketch, Site, Sight, Made, next, with_new, register_at, type_at, flat_type, first_value, constant_value, cons_number, outputs_of, flag_at, by_constant, fby_at, arrow_at, on_site, off_site, tested, part_at, with_outputs, called_at, enter_path, path_for, bind_all, bind_outputs, sketch_expr, sketch_parts, sketch_exprs, sketch_right, sketch_definition}
use Rattle.law_equations.proofs.FittingLemmas.Growth.{Grown, same, both, new-grown, outputs-grown, value-grown, read-grown, flag-grown, tested-grown, merged-grown, part-grown, first-grown, bind-all-grown, bind-outputs-grown}

module _ (k : Known) where
  outputs_grown : (os : List Decl) (d : Sketch) → Grown d (with_outputs k os d)
  outputs_grown [] d = same d
  outputs_grown (o ∷ os) d =
      let e = with_new o.name (flat_type k.types o.ty) d in
      both d e (with_outputs k os e) (new-grown o.name (flat_type k.types o.ty) d) (outputs_grown os e)

  called_grown : (at : Site) (f : List ℕ) (args : List Atom) (os : List Decl) (d : Sketch) → Grown d (called_at k at f args os d).0
  called_grown at f args os d =
      let e = with_outputs k os d in
      both d e (called_at k at f args os d).0 (outputs_grown os d) (outputs-grown at (next d) os (called f args) e)

  fby_grown : (at : Site) (a : ℕ) (b : Made) → Grown b.0 (fby_at at a b).0
  fby_grown at a b =
      let held = register_at at (first_value (type_at b.0 b.1)) b.1 b.0 in
      let flag = flag_at at held.0 in
      both b.0 held.0 _ (value-grown at _ _ b.0) (both held.0 flag.0 _ (flag-grown at held.0) (value-grown at _ _ flag.0))

  arrow_grown : (at : Site) (a : ℕ) (b : Made) → Grown b.0 (arrow_at at a b).0
  arrow_grown at a b =
      let flag = flag_at at b.0 in
      both b.0 flag.0 _ (flag-grown at b.0) (value-grown at _ _ flag.0)

  fby_by : (c : Option Const) (d : Sketch) (m : Made) (f : Const → Made) → Grown d m.0 → ((c : Const) → Grown d (f c).0) → Grown d (by_constant c m f).0
  fby_by None d m f g h = g
  fby_by (Some c) d m f g h = h c

  mutual
    pub expr-grown : (e : Expr) (see : Sight) (at : Site) (d : Sketch) → Grown d (sketch_expr k see at e d).0
    expr-grown (constant s c) see at d = value-grown at _ _ d
    expr-grown (variable s x) see at d = read-grown at (see x).value (see x).ty d
    expr-grown (last_of s x) see at d = read-grown at (see x).last (see x).ty d
    expr-grown (one s o e) see at d = let x = sketch_expr k see at e d in both d x.0 _ (expr-grown e see at d) (value-grown at _ _ x.0)
    expr-grown (two s o e f) see at d =
        let x = sketch_expr k see at e d in
        let y = sketch_expr k see at f x.0 in
        both d x.0 _ (expr-grown e see at d) (both x.0 y.0 _ (expr-grown f see at x.0) (value-grown at _ _ y.0))
    expr-grown (choose s e f t) see at d =
        let x = sketch_expr k see at e d in
        let y = sketch_expr k see at f x.0 in
        let z = sketch_expr k see at t y.0 in
        both d x.0 _ (expr-grown e see at d) (both x.0 y.0 _ (expr-grown f see at x.0) (both y.0 z.0 _ (expr-grown t see at y.0) (value-grown at _ _ z.0)))
    expr-grown (pre s e) see at d = let x = sketch_expr k see at e d in both d x.0 _ (expr-grown e see at d) (value-grown at _ _ x.0)
    expr-grown (fby s e f) see at d =
        let x = sketch_expr k see at e d in
        let y = sketch_expr k see at f x.0 in
        let z = sketch_expr k see at f d in
        fby_by (constant_in e) d _ _ (both d x.0 _ (expr-grown e see at d) (both x.0 y.0 _ (expr-grown f see at x.0) (fby_grown at x.1 y)))
        (λ c. both d z.0 (register_at at (constant_value k c) z.1 z.0).0 (expr-grown f see at d) (value-grown at _ _ z.0))
    expr-grown (arrow s e f) see at d =
        let x = sketch_expr k see at e d in
        let y = sketch_expr k see at f x.0 in
        both d x.0 _ (expr-grown e see at d) (both x.0 y.0 _ (expr-grown f see at x.0) (arrow_grown at x.1 y))
    expr-grown (when_is s e c x) see at d =
        let y = sketch_expr k see (off_site at) e d in
        both d y.0 _ (expr-grown e see (off_site at) d) (read-grown at (Some y.1) (type_at y.0 y.1) y.0)
    expr-grown (merge s x ps) see at d =
        let t = tested (see x).value d in
        let m = sketch_parts k see at t.1 None ps t.0 in
        both d t.0 _ (tested-grown (see x).value d) (both t.0 m.0 _ (parts-grown ps see at t.1 None t.0) (merged-grown m.1 _ m.0))
    expr-grown (call s f inlined es) see at d =
        let os = outputs_of (k.nodes f) in
        let args = sketch_exprs k see at es d in
        let c = called_at k at f args.1 os args.0 in
        both d args.0 _ (exprs-grown es see at d) (both args.0 c.0 _ (called_grown at f args.1 os args.0) (first-grown at os c))

    pub parts-grown : (ps : Parts) (see : Sight) (at : Site) (t : ℕ) (merged : Option ℕ) (d : Sketch) → Grown d (sketch_parts k see at t merged ps d).0
    parts-grown no_part see at t merged d = same d
    parts-grown (more_parts c e ps) see at t merged d =
        let on = on_site at t (cons_number k c) in
        let x = sketch_expr k see on e d in
        let m = part_at on merged x in
        both d x.0 _ (expr-grown e see on d) (both x.0 m.0 _ (part-grown on merged x) (parts-grown ps see at t (Some m.1) m.0))

    pub exprs-grown : (es : Exprs) (see : Sight) (at : Site) (d : Sketch) → Grown d (sketch_exprs k see at es d).0
    exprs-grown no_expr see at d = same d
    exprs-grown (more_exprs e es) see at d = let x = sketch_expr k see at e d in both d x.0 _ (expr-grown e see at d) (exprs-grown es see at x.0)

  -- ---- definitions

  path_grown : (see : Sight) (path : List (Cons × List ℕ)) (at : Site) (d : Sketch) → Grown d (enter_path k see path at d).1
  path_grown see [] at d = same d
  path_grown see (s ∷ path) at d =
      let t = tested (see s.1).value d in
      both d t.0 _ (tested-grown (see s.1).value d) (path_grown see path (on_site at t.1 (cons_number k s.0)) t.0)

  bound_grown : (e : Expr) (ys : List (List ℕ × Span)) (see : Sight) (at : Site) (d : Sketch) → Grown d (let x = sketch_expr k see at e d in bind_all see at ys x.1 x.0)
  bound_grown e ys see at d = let x = sketch_expr k see at e d in both d x.0 _ (expr-grown e see at d) (bind-all-grown see at ys x.1 x.0)

  right_grown : (e : Expr) (ys : List (List ℕ × Span)) (see : Sight) (at : Site) (d : Sketch) → Grown d (sketch_right k see at ys e d)
  right_grown (constant s c) ys see at d = bound_grown (constant s c) ys see at d
  right_grown (variable s x) ys see at d = bound_grown (variable s x) ys see at d
  right_grown (last_of s x) ys see at d = bound_grown (last_of s x) ys see at d
  right_grown (one s o a) ys see at d = bound_grown (one s o a) ys see at d
  right_grown (two s o a b) ys see at d = bound_grown (two s o a b) ys see at d
  right_grown (choose s a b c) ys see at d = bound_grown (choose s a b c) ys see at d
  right_grown (pre s a) ys see at d = bound_grown (pre s a) ys see at d
  right_grown (fby s a b) ys see at d = bound_grown (fby s a b) ys see at d
  right_grown (arrow s a b) ys see at d = bound_grown (arrow s a b) ys see at d
  right_grown (when_is s a c x) ys see at d = bound_grown (when_is s a c x) ys see at d
  right_grown (merge s x ps) ys see at d = bound_grown (merge s x ps) ys see at d
  right_grown (call s f inlined es) ys see at d =
      let os = outputs_of (k.nodes f) in
      let args = sketch_exprs k see at es d in
      let c = called_at k at f args.1 os args.0 in
      both d args.0 _ (exprs-grown es see at d) (both args.0 c.0 (bind_outputs see at ys c.1 os c.0) (called_grown at f args.1 os args.0) (bind-outputs-grown see at ys c.1 os c.0))

  pub definition-grown : (ds : List Decl) (ys : List (List ℕ × Span)) (e : Expr) (see : Sight) (at : Site) (d : Sketch) → Grown d (sketch_definition k see at ds ys e d)
  definition-grown ds ys e see at d =
      let p = enter_path k see (path_for ds ys e) at d in
      both d p.1 _ (path_grown see (path_for ds ys e) at d) (right_grown e ys see p.0 p.1)
