-- Sketches of expressions grow, and all is in range.
use Rattle.std.proofs.Common.{◌≡◌, ℕ, ◌+◌, ◌<◌, ◌≤◌, List, [], ◌∷◌, Option, None, Some, subst, arith}
use Rattle.std.specs.Prelude.{All, IfSome, codes}
use Rattle.std.proofs.lemmas.List.{length-append}
use Rattle.std.proofs.lemmas.List.Elements.{All-nil, All-cons}
use Rattle.hp_base.specs.declared.span.Span.{Span}
use Rattle.hp_base.specs.declared.ty.Const.{Const}
use Rattle.hp_tree.specs.declared.decl.Cons.{Cons}
use Rattle.hp_tree.specs.Expressions.{Expr, constant, variable, last_of, one, two, choose, pre, fby, arrow, when_is, merge, call, Exprs, no_expr, more_exprs, Parts, no_part, more_parts}
use Rattle.hp_tree.specs.Blocks.{Decl}
use Rattle.hp_flat.specs.declared.equation.Atom.{Atom}
use Rattle.hp_flat.specs.declared.equation.Atom.TheVariants.{Variable, Value as Fixed}
use Rattle.hp_flat.specs.declared.node.FlatTy.TheVariants as flat
use Rattle.hp_flat.specs.Equations.{operator, called}
use Rattle.law_equations.specs.Flattened.Flatten.{constant_in, obc_one, obc_two}
use Rattle.law_equations.specs.Made.Making.{Known, Sketch, Site, Sight, Made, next, with_new, copy_of, register_at, type_at, type_one, type_two, flat_type, first_value, constant_value, cons_number, outputs_of, flag_at, by_constant, fby_at, arrow_at, on_site, off_site, tested, part_at, numbers_from, first_output, with_outputs, called_at, enter_path, path_for, bind_all, bind_outputs, sketch_expr, sketch_parts, sketch_exprs, sketch_right, sketch_definition}
use Rattle.hp_complete.specs.Ranges.{AtomWithin}
use Rattle.hp_complete.proofs.MadeRanges.{atoms_more, SiteLow, SketchLow, IsHere, Grown, GrownTo, grown-le, grown-same, grown-then, grown-to, here-later, number-later, some-later, new-grown, eqn-grown, value-grown, args-one, args-two, read-grown, mux-grown, register-grown, flag-grown, on-low, off-low, site-later, tested-grown, merged-grown, part-grown, bind-all-grown, bind-outputs-grown, OutputsLow, numbers-low}

-- a sketch that has grown, and the variable of a merge in it, once there is one
pub record GrownMerge (d : Sketch) (m : Sketch × Option ℕ) : Type 0 where
  pub grown : Grown d m.0
  pub merged : IfSome m.1 (λ x. x < next m.0)

pub record GrownArgs (d : Sketch) (m : Sketch × List Atom) : Type 0 where
  pub grown : Grown d m.0
  pub args : All (AtomWithin (next m.0)) m.1

pub record GrownSite (d : Sketch) (p : Site × Sketch) : Type 0 where
  pub grown : Grown d p.1
  pub site : SiteLow (next p.1) p.0

-- where an expression is made, behind another
then_here : (see : Sight) (at : Site) (d e : Sketch) → IsHere see at d → Grown d e → IsHere see at e
then_here see at d e h g = here-later see at d e g h

module _ (k : Known) where
  -- ---- calls

  outputs_grown : (os : List Decl) (d : Sketch) → SketchLow d → Grown d (with_outputs k os d)
  outputs_grown [] d low = grown-same d low
  outputs_grown (o ∷ os) d low =
      let e = with_new o.name (flat_type k.types o.ty) d in
      let g = (new-grown o.name (flat_type k.types o.ty) d low).grown in
      grown-then d e (with_outputs k os e) g (outputs_grown os e g.low)

  outputs_low : (os : List Decl) (d : Sketch) → SketchLow d → OutputsLow (next (with_outputs k os d)) (next d) os
  outputs_low [] d low = tt
  outputs_low (o ∷ os) d low =
      let e = with_new o.name (flat_type k.types o.ty) d in
      let v = new-grown o.name (flat_type k.types o.ty) d low in
      let long : next e ≡ next d + 1 = length-append d.variables _ in
      let le : next e ≤ next (with_outputs k os e) = grown-le e (with_outputs k os e) (outputs_grown os e v.grown.low) in
      (omega arith, subst (λ m. OutputsLow (next (with_outputs k os e)) m os) long (outputs_low os e v.grown.low))

  -- the equation of a call
  called_grown : (at : Site) (f : List ℕ) (args : List Atom) (os : List Decl) (d : Sketch) → SketchLow d → SiteLow (next d) at → All (AtomWithin (next d)) args → Grown d (called_at k at f args os d).0
  called_grown at f args os d low site h =
      let e = with_outputs k os d in
      let g = outputs_grown os d low in
      grown-then d e (called_at k at f args os d).0 g
      (eqn-grown at (numbers_from (next d) os) (called f args) e g.low (site-later d e at g site) (numbers-low (next e) (next d) os (outputs_low os d low)) (atoms_more (next d) (next e) (grown-le d e g) args h))

  called_outputs : (at : Site) (f : List ℕ) (args : List Atom) (os : List Decl) (d : Sketch) → SketchLow d → OutputsLow (next (called_at k at f args os d).0) (called_at k at f args os d).1 os
  called_outputs at f args os d low = outputs_low os d low

  first_grown : (at : Site) (os : List Decl) (m : Made) → SketchLow m.0 → SiteLow (next m.0) at → OutputsLow (next m.0) m.1 os → GrownTo m.0 (first_output at os m)
  first_grown at [] m low site h = new-grown (codes "e") flat.Bool m.0 low
  first_grown at (o ∷ os) m low site h = read-grown at (Some m.1) (type_at m.0 m.1) m.0 low site h.0

  -- ---- the variables of `a fby b` and `a -> b`

  fby_grown : (at : Site) (a : ℕ) (b : Made) → SketchLow b.0 → SiteLow (next b.0) at → a < next b.0 → b.1 < next b.0 → GrownTo b.0 (fby_at at a b)
  fby_grown at a b low site h g =
      let first = first_value (type_at b.0 b.1) in
      let held = register_at at first b.1 b.0 in
      let r = register-grown at first b.1 b.0 low site g in
      let flag = flag_at at held.0 in
      let s = site-later b.0 held.0 at r.grown site in
      let f = flag-grown at held.0 r.grown.low s in
      grown-to b.0 flag.0 (fby_at at a b) (grown-then b.0 held.0 flag.0 r.grown f.grown)
      (mux-grown at flag.1 a held.1 flag.0 f.grown.low (site-later held.0 flag.0 at f.grown s) f.number (number-later held.0 flag.0 a f.grown (number-later b.0 held.0 a r.grown h)) (number-later held.0 flag.0 held.1 f.grown r.number))

  arrow_grown : (at : Site) (a : ℕ) (b : Made) → SketchLow b.0 → SiteLow (next b.0) at → a < next b.0 → b.1 < next b.0 → GrownTo b.0 (arrow_at at a b)
  arrow_grown at a b low site h g =
      let flag = flag_at at b.0 in
      let f = flag-grown at b.0 low site in
      grown-to b.0 flag.0 (arrow_at at a b) f.grown
      (mux-grown at flag.1 a b.1 flag.0 f.grown.low (site-later b.0 flag.0 at f.grown site) f.number (number-later b.0 flag.0 a f.grown h) (number-later b.0 flag.0 b.1 f.grown g))

  -- ---- expressions

  fby_by : (at : Site) (c : Option Const) (d : Sketch) (m : Made) (f : Const → Made) → GrownTo d m → ((c : Const) → GrownTo d (f c)) → GrownTo d (by_constant c m f)
  fby_by at None d m f g h = g
  fby_by at (Some c) d m f g h = h c

  mutual
    pub expr-grown : (e : Expr) (see : Sight) (at : Site) (d : Sketch) → IsHere see at d → GrownTo d (sketch_expr k see at e d)
    expr-grown (constant s c) see at d h = value-grown at _ (copy_of (Fixed (constant_value k c))) d h.low h.site (args-one (next d) (Fixed (constant_value k c)) tt)
    expr-grown (variable s x) see at d h = read-grown at (see x).value (see x).ty d h.low h.site (h.sight x).value
    expr-grown (last_of s x) see at d h = read-grown at (see x).last (see x).ty d h.low h.site (h.sight x).last
    expr-grown (one s o e) see at d h =
        let x = sketch_expr k see at e d in
        let g = expr-grown e see at d h in
        let l = then_here see at d x.0 h g.grown in
        grown-to d x.0 _ g.grown (value-grown at (type_one o) (operator (obc_one o) (Variable x.1 ∷ [])) x.0 l.low l.site (args-one (next x.0) (Variable x.1) g.number))
    expr-grown (two s o e f) see at d h =
        let x = sketch_expr k see at e d in
        let g = expr-grown e see at d h in
        let l = then_here see at d x.0 h g.grown in
        let y = sketch_expr k see at f x.0 in
        let r = expr-grown f see at x.0 l in
        let m = then_here see at x.0 y.0 l r.grown in
        grown-to d y.0 _ (grown-then d x.0 y.0 g.grown r.grown)
        (value-grown at (type_two o) (operator (obc_two o) (Variable x.1 ∷ Variable y.1 ∷ [])) y.0 m.low m.site (args-two (next y.0) x.1 y.1 (number-later x.0 y.0 x.1 r.grown g.number) r.number))
    expr-grown (choose s e f t) see at d h =
        let x = sketch_expr k see at e d in
        let g = expr-grown e see at d h in
        let l = then_here see at d x.0 h g.grown in
        let y = sketch_expr k see at f x.0 in
        let r = expr-grown f see at x.0 l in
        let m = then_here see at x.0 y.0 l r.grown in
        let z = sketch_expr k see at t y.0 in
        let q = expr-grown t see at y.0 m in
        let n = then_here see at y.0 z.0 m q.grown in
        grown-to d z.0 _ (grown-then d y.0 z.0 (grown-then d x.0 y.0 g.grown r.grown) q.grown)
        (mux-grown at x.1 y.1 z.1 z.0 n.low n.site (number-later y.0 z.0 x.1 q.grown (number-later x.0 y.0 x.1 r.grown g.number)) (number-later y.0 z.0 y.1 q.grown r.number) q.number)
    expr-grown (pre s e) see at d h =
        let x = sketch_expr k see at e d in
        let g = expr-grown e see at d h in
        let l = then_here see at d x.0 h g.grown in
        grown-to d x.0 _ g.grown (register-grown at (first_value (type_at x.0 x.1)) x.1 x.0 l.low l.site g.number)
    expr-grown (fby s e f) see at d h =
        let x = sketch_expr k see at e d in
        let g = expr-grown e see at d h in
        let l = then_here see at d x.0 h g.grown in
        let y = sketch_expr k see at f x.0 in
        let r = expr-grown f see at x.0 l in
        let m = then_here see at x.0 y.0 l r.grown in
        let z = sketch_expr k see at f d in
        let q = expr-grown f see at d h in
        let n = then_here see at d z.0 h q.grown in
        fby_by at (constant_in e) d _ _ (grown-to d y.0 _ (grown-then d x.0 y.0 g.grown r.grown) (fby_grown at x.1 y m.low m.site (number-later x.0 y.0 x.1 r.grown g.number) r.number))
        (λ c. grown-to d z.0 _ q.grown (register-grown at (constant_value k c) z.1 z.0 n.low n.site q.number))
    expr-grown (arrow s e f) see at d h =
        let x = sketch_expr k see at e d in
        let g = expr-grown e see at d h in
        let l = then_here see at d x.0 h g.grown in
        let y = sketch_expr k see at f x.0 in
        let r = expr-grown f see at x.0 l in
        let m = then_here see at x.0 y.0 l r.grown in
        grown-to d y.0 _ (grown-then d x.0 y.0 g.grown r.grown) (arrow_grown at x.1 y m.low m.site (number-later x.0 y.0 x.1 r.grown g.number) r.number)
    expr-grown (when_is s e c x) see at d h =
        let y = sketch_expr k see (off_site at) e d in
        let g = expr-grown e see (off_site at) d (record { sight = h.sight; site = off-low (next d) at h.site; low = h.low }) in
        grown-to d y.0 _ g.grown (read-grown at (Some y.1) (type_at y.0 y.1) y.0 g.grown.low (site-later d y.0 at g.grown h.site) g.number)
    expr-grown (merge s x ps) see at d h =
        let t = tested (see x).value d in
        let g = tested-grown (see x).value d h.low (h.sight x).value in
        let l = then_here see at d t.0 h g.grown in
        let m = sketch_parts k see at t.1 None ps t.0 in
        let r = parts-grown ps see at t.1 None t.0 l g.number tt in
        grown-to d m.0 _ (grown-then d t.0 m.0 g.grown r.grown) (merged-grown m.1 _ m.0 r.grown.low r.merged)
    expr-grown (call s f inlined es) see at d h =
        let os = outputs_of (k.nodes f) in
        let args = sketch_exprs k see at es d in
        let g = exprs-grown es see at d h in
        let l = then_here see at d args.0 h g.grown in
        let c = called_at k at f args.1 os args.0 in
        let r = called_grown at f args.1 os args.0 l.low l.site g.args in
        grown-to d c.0 _ (grown-then d args.0 c.0 g.grown r) (first_grown at os c r.low (site-later args.0 c.0 at r l.site) (called_outputs at f args.1 os args.0 l.low))

    pub parts-grown : (ps : Parts) (see : Sight) (at : Site) (t : ℕ) (merged : Option ℕ) (d : Sketch) → IsHere see at d → t < next d → IfSome merged (λ x. x < next d) → GrownMerge d (sketch_parts k see at t merged ps d)
    parts-grown no_part see at t merged d h lt q = record { grown = grown-same d h.low; merged = q }
    parts-grown (more_parts c e ps) see at t merged d h lt q =
        let on = on_site at t (cons_number k c) in
        let x = sketch_expr k see on e d in
        let g = expr-grown e see on d (record { sight = h.sight; site = on-low (next d) at t (cons_number k c) h.site lt; low = h.low }) in
        let l = then_here see on d x.0 (record { sight = h.sight; site = on-low (next d) at t (cons_number k c) h.site lt; low = h.low }) g.grown in
        let m = part_at on merged x in
        let r = part-grown on merged x l.low l.site g.number (some-later d x.0 merged g.grown q) in
        let whole = grown-then d x.0 m.0 g.grown r.grown in
        let rest = parts-grown ps see at t (Some m.1) m.0 (here-later see at d m.0 whole h) (number-later d m.0 t whole lt) r.number in
        record { grown = grown-then d m.0 (sketch_parts k see at t (Some m.1) ps m.0).0 whole rest.grown; merged = rest.merged }

    pub exprs-grown : (es : Exprs) (see : Sight) (at : Site) (d : Sketch) → IsHere see at d → GrownArgs d (sketch_exprs k see at es d)
    exprs-grown no_expr see at d h = record { grown = grown-same d h.low; args = All-nil (AtomWithin (next d)) }
    exprs-grown (more_exprs e es) see at d h =
        let x = sketch_expr k see at e d in
        let g = expr-grown e see at d h in
        let l = then_here see at d x.0 h g.grown in
        let rest = sketch_exprs k see at es x.0 in
        let r = exprs-grown es see at x.0 l in
        record {
          grown = grown-then d x.0 rest.0 g.grown r.grown;
          args = All-cons (AtomWithin (next rest.0)) (Variable x.1) rest.1 (number-later x.0 rest.0 x.1 r.grown g.number) r.args;
        }

  -- ---- definitions

  pub path-grown : (see : Sight) (path : List (Cons × List ℕ)) (at : Site) (d : Sketch) → IsHere see at d → GrownSite d (enter_path k see path at d)
  path-grown see [] at d h = record { grown = grown-same d h.low; site = h.site }
  path-grown see (s ∷ path) at d h =
      let t = tested (see s.1).value d in
      let g = tested-grown (see s.1).value d h.low (h.sight s.1).value in
      let l = then_here see at d t.0 h g.grown in
      let on = on_site at t.1 (cons_number k s.0) in
      let rest = path-grown see path on t.0 (record { sight = l.sight; site = on-low (next t.0) at t.1 (cons_number k s.0) l.site g.number; low = l.low }) in
      record { grown = grown-then d t.0 (enter_path k see path on t.0).1 g.grown rest.grown; site = rest.site }

  -- the right side of an equation that is no call
  bound_grown : (e : Expr) (ys : List (List ℕ × Span)) (see : Sight) (at : Site) (d : Sketch) → IsHere see at d → Grown d (let x = sketch_expr k see at e d in bind_all see at ys x.1 x.0)
  bound_grown e ys see at d h =
      let x = sketch_expr k see at e d in
      let g = expr-grown e see at d h in
      grown-then d x.0 (bind_all see at ys x.1 x.0) g.grown (bind-all-grown see at ys x.1 x.0 (then_here see at d x.0 h g.grown) g.number)

  pub right-grown : (e : Expr) (ys : List (List ℕ × Span)) (see : Sight) (at : Site) (d : Sketch) → IsHere see at d → Grown d (sketch_right k see at ys e d)
  right-grown (constant s c) ys see at d h = bound_grown (constant s c) ys see at d h
  right-grown (variable s x) ys see at d h = bound_grown (variable s x) ys see at d h
  right-grown (last_of s x) ys see at d h = bound_grown (last_of s x) ys see at d h
  right-grown (one s o a) ys see at d h = bound_grown (one s o a) ys see at d h
  right-grown (two s o a b) ys see at d h = bound_grown (two s o a b) ys see at d h
  right-grown (choose s a b c) ys see at d h = bound_grown (choose s a b c) ys see at d h
  right-grown (pre s a) ys see at d h = bound_grown (pre s a) ys see at d h
  right-grown (fby s a b) ys see at d h = bound_grown (fby s a b) ys see at d h
  right-grown (arrow s a b) ys see at d h = bound_grown (arrow s a b) ys see at d h
  right-grown (when_is s a c x) ys see at d h = bound_grown (when_is s a c x) ys see at d h
  right-grown (merge s x ps) ys see at d h = bound_grown (merge s x ps) ys see at d h
  right-grown (call s f inlined es) ys see at d h =
      let os = outputs_of (k.nodes f) in
      let args = sketch_exprs k see at es d in
      let g = exprs-grown es see at d h in
      let l = then_here see at d args.0 h g.grown in
      let c = called_at k at f args.1 os args.0 in
      let r = called_grown at f args.1 os args.0 l.low l.site g.args in
      grown-then d c.0 (bind_outputs see at ys c.1 os c.0) (grown-then d args.0 c.0 g.grown r)
      (bind-outputs-grown see at ys c.1 os c.0 (then_here see at args.0 c.0 l r) (called_outputs at f args.1 os args.0 l.low))

  pub definition-grown : (ds : List Decl) (ys : List (List ℕ × Span)) (e : Expr) (see : Sight) (at : Site) (d : Sketch) → IsHere see at d → Grown d (sketch_definition k see at ds ys e d)
  definition-grown ds ys e see at d h =
      let p = enter_path k see (path_for ds ys e) at d in
      let g = path-grown see (path_for ds ys e) at d h in
      let l = then_here see at d p.1 h g.grown in
      grown-then d p.1 (sketch_right k see p.0 ys e p.1) g.grown (right-grown e ys see p.0 p.1 (record { sight = l.sight; site = g.site; low = l.low }))
