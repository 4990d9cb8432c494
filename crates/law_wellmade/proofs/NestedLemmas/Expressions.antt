-- The equations of an expression, and of a definition: their clocks have the steps of the block, those of the expression's clock, and no more.
use Rattle.std.proofs.Common.{◌≡◌, ℕ, suc, ◌+◌, ◌≤◌, Bool, true, false, nat_eq, if◌then◌else◌, List, [], ◌∷◌, ◌++◌, length, Option, None, Some, sym, ap, subst, ◌∙◌, arith}
use Rattle.std.specs.List.{AllByRecursion}
use Rattle.hp_base.specs.declared.span.Span.{Span}
use Rattle.hp_base.specs.declared.ty.Const.{Const}
use Rattle.hp_tree.specs.declared.decl.Cons.{Cons}
use Rattle.hp_tree.specs.Expressions.{Expr, constant, variable, last_of, one, two, choose, pre, fby, arrow, when_is, merge, call, Exprs, no_expr, more_exprs, Parts, no_part, more_parts}
use Rattle.hp_tree.specs.Blocks.{Decl}
use Rattle.hp_tree.specs.Instant.{Clock, without}
use Rattle.hp_tree.specs.Meaning.{clock_in, or_clock, clock_told, clocks_told, or_base, clock_of}
use Rattle.hp_meaning.specs.Causal.Clocked.{Standing, IsOn, ExprsOn, PartsOn}
use Rattle.hp_flat.specs.declared.node.FlatTy.{FlatTy}
use Rattle.hp_flat.specs.declared.equation.Atom.{Atom}
use Rattle.hp_flat.specs.Equations.{FlatEqn}
use Rattle.law_equations.specs.Flattened.Flatten.{constant_in}
use Rattle.law_equations.specs.Made.Making.{Known, Sketch, Site, Sight, Layer, Seen, Made, register_at, new_flag, block_flag, flag_at, by_constant, on_site, off_site, tested, part_at, merged_variable, output_left, others, first_output, fby_at, type_at, first_value, constant_value, cons_number, outputs_of, with_outputs, called_at, given_by, bind, bind_all, bind_outputs, link_all, remember, remember_all, path_for, enter_path, sketch_expr, sketch_parts, sketch_exprs, sketch_right, sketch_definition}
use Rattle.law_equations.proofs.MadeLemmas.ClockLaws.{clock-path, path-length}
use Rattle.law_wellmade.proofs.NestedLemmas.Sites.{Owns, off_owns, on_owns, path_owns}

-- The clock on which each name is read has at most so many steps.
abbrev pub NamesShort : ℕ → Standing → Type 0
NamesShort limit names = (x : List ℕ) (clock : Clock) → names x ≡ Some clock → length clock ≤ limit

module _ (k : Known) (bound : ℕ) where
  -- the clocks of equations have at most so many steps
  abbrev pub AllShort : Sketch → Type 0
  AllShort d = AllByRecursion (λ (e : FlatEqn). length e.clock ≤ bound) d.eqns

  one_more : (es : List FlatEqn) (e : FlatEqn) → AllByRecursion (λ (e : FlatEqn). length e.clock ≤ bound) es → length e.clock ≤ bound
      → AllByRecursion (λ (e : FlatEqn). length e.clock ≤ bound) (es ++ e ∷ [])
  one_more [] e a h = (h, tt)
  one_more (f ∷ es) e a h = (a.0, one_more es e a.1 h)

  -- ---- one equation

  flag_short : (at : Site) (d : Sketch) → length at.clock ≤ bound → AllShort d → AllShort (flag_at at d).0
  flag_short at d h a = by (nat_eq (length at.clock) at.base) d.flag
    where
      by : (b : Bool) (f : Option ℕ) → AllShort (if b then block_flag at f d else new_flag at d).0
      by true None = one_more d.eqns _ a h
      by true (Some x) = a
      by false f = one_more d.eqns _ a h

  tested_short : (o : Option ℕ) (d : Sketch) → AllShort d → AllShort (tested o d).0
  tested_short None d a = a
  tested_short (Some x) d a = a

  merged_short : (o : Option ℕ) (t : FlatTy) (d : Sketch) → AllShort d → AllShort (merged_variable o t d).0
  merged_short None t d a = a
  merged_short (Some x) t d a = a

  first_short : (at : Site) (os : List Decl) (m : Made) → length at.clock ≤ bound → AllShort m.0 → AllShort (first_output at os m).0
  first_short at [] m h a = a
  first_short at (o ∷ os) m h a = one_more m.0.eqns _ a h

  bind_short : (at : Site) (o source : Option ℕ) (d : Sketch) → length at.clock ≤ bound → AllShort d → AllShort (bind at o source d)
  bind_short at None source d h a = a
  bind_short at (Some x) source d h a = one_more d.eqns _ a h

  bind_all_short : (see : Sight) (at : Site) (ys : List (List ℕ × Span)) (x : ℕ) (d : Sketch) → length at.clock ≤ bound → AllShort d → AllShort (bind_all see at ys x d)
  bind_all_short see at [] x d h a = a
  bind_all_short see at (y ∷ ys) x d h a = bind_all_short see at ys x (bind at (see y.0).value (Some x) d) h (bind_short at (see y.0).value (Some x) d h a)

  bind_outputs_short : (see : Sight) (at : Site) (ys : List (List ℕ × Span)) (m : ℕ) (os : List Decl) (d : Sketch) → length at.clock ≤ bound → AllShort d → AllShort (bind_outputs see at ys m os d)
  bind_outputs_short see at [] m os d h a = a
  bind_outputs_short see at (y ∷ ys) m os d h a =
      bind_outputs_short see at ys (m + 1) (others os) (bind at (see y.0).value (output_left m os) d) h (bind_short at (see y.0).value (output_left m os) d h a)

  pub link_short : (see : Sight) (at : Site) (layer : Layer) (xs : List (List ℕ)) (d : Sketch) → length at.clock ≤ bound → AllShort d → AllShort (link_all see at layer xs d)
  link_short see at layer [] d h a = a
  link_short see at layer (x ∷ xs) d h a =
      link_short see at layer xs (bind at (see x).value (given_by (layer x) (see x)) d) h (bind_short at (see x).value (given_by (layer x) (see x)) d h a)

  outputs_short : (os : List Decl) (d : Sketch) → AllShort d → AllShort (with_outputs k os d)
  outputs_short [] d a = a
  outputs_short (o ∷ os) d a = outputs_short os _ a

  call_short : (at : Site) (f : List ℕ) (args : List Atom) (d : Sketch) → length at.clock ≤ bound → AllShort d → AllShort (called_at k at f args (outputs_of (k.nodes f)) d).0
  call_short at f args d h a = one_more (with_outputs k (outputs_of (k.nodes f)) d).eqns _ (outputs_short (outputs_of (k.nodes f)) d a) h

  path_short : (see : Sight) (path : List (Cons × List ℕ)) (at : Site) (d : Sketch) → AllShort d → AllShort (enter_path k see path at d).1
  path_short see [] at d a = a
  path_short see (s ∷ path) at d a =
      let t = tested (see s.1).value d in
      path_short see path (on_site at t.1 (cons_number k s.0)) t.0 (tested_short (see s.1).value d a)

  remember_short : (at : Site) (out : Sight) (d : Decl) (o : Option Const) (s : Seen) → length at.clock ≤ bound → AllShort s.1 → AllShort (remember k at out d o s).1
  remember_short at out d None s h a = a
  remember_short at out d (Some c) s h a = one_more s.1.eqns _ a h

  pub remember_all_short : (at : Site) (out : Sight) (ds : List Decl) (s : Seen) → length at.clock ≤ bound → AllShort s.1 → AllShort (remember_all k at out ds s).1
  remember_all_short at out [] s h a = a
  remember_all_short at out (d ∷ ds) s h a = remember_all_short at out ds (remember k at out d d.last s) h (remember_short at out d d.last s h a)

  fby_short : (at : Site) (c : Option Const) (e f : Expr) (see : Sight) (d : Sketch) → length at.clock ≤ bound → AllShort (sketch_expr k see at f (sketch_expr k see at e d).0).0
      → AllShort (sketch_expr k see at f d).0
      → AllShort (by_constant c (let x = sketch_expr k see at e d in fby_at at x.1 (sketch_expr k see at f x.0)) (λ c. let y = sketch_expr k see at f d in register_at at (constant_value k c) y.1 y.0)).0
  fby_short at None e f see d h a b =
      let x = sketch_expr k see at e d in
      let y = sketch_expr k see at f x.0 in
      let held = register_at at (first_value (type_at y.0 y.1)) y.1 y.0 in
      one_more (flag_at at held.0).0.eqns _ (flag_short at held.0 h (one_more y.0.eqns _ a h)) h
  fby_short at (Some c) e f see d h a b = one_more (sketch_expr k see at f d).0.eqns _ b h

  -- ---- expressions, where the clocks of names have at most so many steps

  module _ (limit : ℕ) (names : Standing) (short : NamesShort limit names) where
    -- the site is on the clock, which has at most one step more; so its equations are short
    abbrev Fits : Site → Clock → Type 0
    Fits at clock = Owns at clock × (length clock ≤ suc limit) × (at.base + suc limit ≤ bound)

    here : (at : Site) (clock : Clock) → Fits at clock → length at.clock ≤ bound
    here at clock h = let o = h.0 in let l = h.1 in let r = h.2 in omega (arith, o, l, r)

    off_fits : (at : Site) (clock : Clock) → Fits at clock → Fits (off_site at) (without clock)
    off_fits at clock h = (off_owns clock at h.0, fewer clock h.1, h.2)
      where
        fewer : (clock : Clock) → length clock ≤ suc limit → length (without clock) ≤ suc limit
        fewer [] l = l
        fewer (s ∷ clock) l = omega (arith, l)

    on_fits : (at : Site) (x c : ℕ) (s : Cons × List ℕ) (clock : Clock) → Fits at clock → length clock ≤ limit → Fits (on_site at x c) (s ∷ clock)
    on_fits at x c s clock h l = (on_owns clock s at x c h.0, (omega (arith, l)), h.2)

    mutual
      pub expr_short : (e : Expr) (clock : Clock) (see : Sight) (at : Site) (d : Sketch) → IsOn names e clock → Fits at clock → AllShort d → AllShort (sketch_expr k see at e d).0
      expr_short (constant s c) clock see at d h g a = one_more d.eqns _ a (here at clock g)
      expr_short (variable s x) clock see at d h g a = one_more d.eqns _ a (here at clock g)
      expr_short (last_of s x) clock see at d h g a = one_more d.eqns _ a (here at clock g)
      expr_short (one s o e) clock see at d h g a = one_more (sketch_expr k see at e d).0.eqns _ (expr_short e clock see at d h g a) (here at clock g)
      expr_short (two s o e f) clock see at d h g a =
          let x = sketch_expr k see at e d in
          one_more (sketch_expr k see at f x.0).0.eqns _ (expr_short f clock see at x.0 h.1 g (expr_short e clock see at d h.0 g a)) (here at clock g)
      expr_short (choose s e f i) clock see at d h g a =
          let x = sketch_expr k see at e d in
          let y = sketch_expr k see at f x.0 in
          one_more (sketch_expr k see at i y.0).0.eqns _ (expr_short i clock see at y.0 h.2 g (expr_short f clock see at x.0 h.1 g (expr_short e clock see at d h.0 g a))) (here at clock g)
      expr_short (pre s e) clock see at d h g a = one_more (sketch_expr k see at e d).0.eqns _ (expr_short e clock see at d h g a) (here at clock g)
      expr_short (fby s e f) clock see at d h g a =
          let x = sketch_expr k see at e d in
          fby_short at (constant_in e) e f see d (here at clock g) (expr_short f clock see at x.0 h.1 g (expr_short e clock see at d h.0 g a)) (expr_short f clock see at d h.1 g a)
      expr_short (arrow s e f) clock see at d h g a =
          let x = sketch_expr k see at e d in
          let y = sketch_expr k see at f x.0 in
          one_more (flag_at at y.0).0.eqns _ (flag_short at y.0 (here at clock g) (expr_short f clock see at x.0 h.1 g (expr_short e clock see at d h.0 g a))) (here at clock g)
      expr_short (when_is s e c x) clock see at d h g a =
          one_more (sketch_expr k see (off_site at) e d).0.eqns _ (expr_short e (without clock) see (off_site at) d h.2 (off_fits at clock g) a) (here at clock g)
      expr_short (merge s x ps) clock see at d h g a =
          let t = tested (see x).value d in
          let m = sketch_parts k see at t.1 None ps t.0 in
          merged_short m.1 _ m.0 (parts_short ps x clock see at t.1 None t.0 h.1 g (short x clock h.0) (tested_short (see x).value d a))
      expr_short (call s f inlined es) clock see at d h g a =
          let args = sketch_exprs k see at es d in
          first_short at (outputs_of (k.nodes f)) (called_at k at f args.1 (outputs_of (k.nodes f)) args.0) (here at clock g)
          (call_short at f args.1 args.0 (here at clock g) (exprs_short es clock see at d h g a))

      parts_short : (ps : Parts) (x : List ℕ) (clock : Clock) (see : Sight) (at : Site) (t : ℕ) (merged : Option ℕ) (d : Sketch) → PartsOn names x ps clock → Fits at clock → length clock ≤ limit
          → AllShort d → AllShort (sketch_parts k see at t merged ps d).0
      parts_short no_part x clock see at t merged d h g l a = a
      parts_short (more_parts c e ps) x clock see at t merged d h g l a =
          let on = on_site at t (cons_number k c) in
          let inner : Fits on ((c, x) ∷ clock) = on_fits at t (cons_number k c) (c, x) clock g l in
          let made = sketch_expr k see on e d in
          let v = merged_variable merged (type_at made.0 made.1) made.0 in
          let m = part_at on merged made in
          parts_short ps x clock see at t (Some m.1) m.0 h.1 g l
          (one_more v.0.eqns _ (merged_short merged (type_at made.0 made.1) made.0 (expr_short e ((c, x) ∷ clock) see on d h.0 inner a)) (here on ((c, x) ∷ clock) inner))

      exprs_short : (es : Exprs) (clock : Clock) (see : Sight) (at : Site) (d : Sketch) → ExprsOn names es clock → Fits at clock → AllShort d → AllShort (sketch_exprs k see at es d).0
      exprs_short no_expr clock see at d h g a = a
      exprs_short (more_exprs e es) clock see at d h g a = exprs_short es clock see at (sketch_expr k see at e d).0 h.1 g (expr_short e clock see at d h.0 g a)

    -- ---- definitions

    abbrev RightShort : Expr → Type 0
    RightShort e =
        (ys : List (List ℕ × Span)) (clock : Clock) (see : Sight) (at : Site) (d : Sketch) → IsOn names e clock → Fits at clock → AllShort d → AllShort (sketch_right k see at ys e d)

    bound_short : (e : Expr) (ys : List (List ℕ × Span)) (clock : Clock) (see : Sight) (at : Site) (d : Sketch) → IsOn names e clock → Fits at clock → AllShort d
        → AllShort (bind_all see at ys (sketch_expr k see at e d).1 (sketch_expr k see at e d).0)
    bound_short e ys clock see at d h g a = bind_all_short see at ys (sketch_expr k see at e d).1 (sketch_expr k see at e d).0 (here at clock g) (expr_short e clock see at d h g a)

    right_short : (e : Expr) → RightShort e
    right_short (constant s c) ys clock see at d h g a = bound_short (constant s c) ys clock see at d h g a
    right_short (variable s x) ys clock see at d h g a = bound_short (variable s x) ys clock see at d h g a
    right_short (last_of s x) ys clock see at d h g a = bound_short (last_of s x) ys clock see at d h g a
    right_short (one s o e) ys clock see at d h g a = bound_short (one s o e) ys clock see at d h g a
    right_short (two s o e f) ys clock see at d h g a = bound_short (two s o e f) ys clock see at d h g a
    right_short (choose s e f i) ys clock see at d h g a = bound_short (choose s e f i) ys clock see at d h g a
    right_short (pre s e) ys clock see at d h g a = bound_short (pre s e) ys clock see at d h g a
    right_short (fby s e f) ys clock see at d h g a = bound_short (fby s e f) ys clock see at d h g a
    right_short (arrow s e f) ys clock see at d h g a = bound_short (arrow s e f) ys clock see at d h g a
    right_short (when_is s e c x) ys clock see at d h g a = bound_short (when_is s e c x) ys clock see at d h g a
    right_short (merge s x ps) ys clock see at d h g a = bound_short (merge s x ps) ys clock see at d h g a
    right_short (call s f inlined es) ys clock see at d h g a =
        let args = sketch_exprs k see at es d in
        let c = called_at k at f args.1 (outputs_of (k.nodes f)) args.0 in
        bind_outputs_short see at ys c.1 (outputs_of (k.nodes f)) c.0 (here at clock g) (call_short at f args.1 args.0 (here at clock g) (exprs_short es clock see at d h g a))

    -- the clock of a definition has one step more than a name's at most
    module _ (ds : List Decl) (declared : (x : List ℕ) → length (clock_in ds x) ≤ limit) where
      abbrev ToldShort : Option Clock → Type 0
      ToldShort o = elim o [ None ↦ Unit {0} | Some clock ↦ length clock ≤ suc limit ]

      either : (o p : Option Clock) → ToldShort o → ToldShort p → ToldShort (or_clock o p)
      either None p h i = i
      either (Some clock) p h i = h

      looser : (clock : Clock) → length clock ≤ limit → length clock ≤ suc limit
      looser clock l = omega (arith, l)

      mutual
        told_short : (e : Expr) → ToldShort (clock_told ds e)
        told_short (constant s c) = tt
        told_short (variable s x) = looser (clock_in ds x) (declared x)
        told_short (last_of s x) = omega arith
        told_short (one s o e) = told_short e
        told_short (two s o e f) = either (clock_told ds e) (clock_told ds f) (told_short e) (told_short f)
        told_short (choose s e f i) =
            either (clock_told ds e) (or_clock (clock_told ds f) (clock_told ds i)) (told_short e) (either (clock_told ds f) (clock_told ds i) (told_short f) (told_short i))
        told_short (pre s e) = told_short e
        told_short (fby s e f) = either (clock_told ds e) (clock_told ds f) (told_short e) (told_short f)
        told_short (arrow s e f) = either (clock_told ds e) (clock_told ds f) (told_short e) (told_short f)
        told_short (when_is s e c x) = (let l = declared x in omega (arith, l))
        told_short (merge s x ps) = looser (clock_in ds x) (declared x)
        told_short (call s f i es) = all_told_short es

        all_told_short : (es : Exprs) → ToldShort (clocks_told ds es)
        all_told_short no_expr = tt
        all_told_short (more_exprs e es) = either (clock_told ds e) (clocks_told ds es) (told_short e) (all_told_short es)

      based : (o : Option Clock) → ToldShort o → length (or_base o) ≤ suc limit
      based None h = omega arith
      based (Some clock) h = h

      clock_short : (ys : List (List ℕ × Span)) (e : Expr) → length (clock_of ds ys e) ≤ suc limit
      clock_short [] e = based (clock_told ds e) (told_short e)
      clock_short (y ∷ ys) e = looser (clock_in ds y.0) (declared y.0)

      pub definition_short : (ys : List (List ℕ × Span)) (e : Expr) (see : Sight) (at : Site) (d : Sketch) → IsOn names e (clock_of ds ys e) → length at.clock ≡ at.base → at.base + suc limit ≤ bound
          → AllShort d
          → AllShort (sketch_definition k see at ds ys e d)
      definition_short ys e see at d h o r a =
          let path = path_for ds ys e in
          let p = enter_path k see path at d in
          let q = path_owns k path see at d in
          let longer = q.0 in
          let same : length (clock_of ds ys e) ≡ length path = ap length (clock-path k ds ys e) ∙ path-length path in
          let owns : Owns p.0 (clock_of ds ys e) = (let b = q.1 in omega (arith, longer, same, b, o)) in
          right_short e ys (clock_of ds ys e) see p.0 p.1 h (owns, clock_short ys e, subst (λ b. b + suc limit ≤ bound) (sym q.1) r) (path_short see path at d a)
