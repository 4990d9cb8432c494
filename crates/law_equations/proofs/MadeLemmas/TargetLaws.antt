-- How many targets equations have.
use Rattle.std.proofs.Common.{◌≡◌, ℕ, suc, ◌+◌, Bool, true, false, nat_eq, if◌then◌else◌, List, [], ◌∷◌, ◌++◌, length, Option, None, Some, refl, sym, ap, subst}
use Rattle.std.specs.List.{AllByRecursion}
use Rattle.hp_base.specs.declared.span.Span.{Span}
use Rattle.hp_base.specs.declared.ty.Const.{Const}
use Rattle.hp_tree.specs.declared.decl.Cons.{Cons}
use Rattle.hp_tree.specs.Expressions.{Expr, constant, variable, last_of, one, two, choose, pre, fby, arrow, when_is, merge, call, Exprs, no_expr, more_exprs, Parts, no_part, more_parts}
use Rattle.hp_tree.specs.Blocks.{Decl, Block, block, Eqns, no_eqn, more_eqns, Eqn, define, switch, reset, automaton, Arms, no_arm, more_arms}
use Rattle.hp_flat.specs.declared.node.FlatTy.{FlatTy}
use Rattle.hp_base.specs.declared.value.Value.{Value}
use Rattle.hp_obc.specs.declared.command.ObcOp.{ObcOp}
use Rattle.hp_flat.specs.declared.equation.Atom.{Atom}
use Rattle.hp_flat.specs.Equations.{operator, register, FlatEqn}
use Rattle.law_equations.specs.Flattened.Flatten.{constant_in, is_false}
use Rattle.law_equations.specs.Flattened.Numbered.{HasTargets}
use Rattle.law_equations.specs.Made.Making.{Known, Sketch, Site, Sight, Layer, Standing, Inner, Seen, Made, next, with_eqn, register_at, new_flag, block_flag, flag_at, by_constant, on_site, off_site, tested, part_at, merged_variable, output_left, others, numbers_from, first_output, fby_at, type_at, first_value, constant_value, cons_number, outputs_of, with_outputs, called_at, over, hidden, own_names, declared, names_of_eqns, names_of_arms, names_of_block, each_once, given_by, bind, bind_all, bind_outputs, link_all, in_block, restart_site, with_flag, remember, remember_all, block_layer, path_for, enter_path, sketch_expr, sketch_parts, sketch_exprs, sketch_right, sketch_block, sketch_eqns, sketch_eqn, sketch_arms}
use Rattle.law_equations.proofs.MadeLemmas.LayerLaws.{own-made, names-once}

module _ (k : Known) where
  abbrev pub count : List ℕ → ℕ
  count f = length (outputs_of (k.nodes f))

  abbrev Fits : FlatEqn → Type 0
  Fits e = HasTargets count e e.right

  -- each equation has the targets that its right side gives values to
  abbrev pub AllFit : Sketch → Type 0
  AllFit d = AllByRecursion (λ (e : FlatEqn). HasTargets count e e.right) d.eqns

  one_more : (es : List FlatEqn) (e : FlatEqn) → AllByRecursion (λ (e : FlatEqn). HasTargets count e e.right) es → Fits e → AllByRecursion (λ (e : FlatEqn). HasTargets count e e.right) (es ++ e ∷ [])
  one_more [] e a h = (h, tt)
  one_more (f ∷ es) e a h = (a.0, one_more es e a.1 h)

  -- ---- one equation

  by_operator : (at : Site) (v : ℕ) (o : ObcOp) (args : List Atom) (d : Sketch) → AllFit d → AllFit (with_eqn at (v ∷ []) (operator o args) d)
  by_operator at v o args d a = one_more d.eqns _ a refl

  by_register : (at : Site) (v : ℕ) (first : Value) (x : Atom) (d : Sketch) → AllFit d → AllFit (with_eqn at (v ∷ []) (register first x) d)
  by_register at v first x d a = one_more d.eqns _ a refl

  flag_fits : (at : Site) (d : Sketch) → AllFit d → AllFit (flag_at at d).0
  flag_fits at d a = by (nat_eq (length at.clock) at.base) d.flag
    where
      by : (b : Bool) (f : Option ℕ) → AllFit (if b then block_flag at f d else new_flag at d).0
      by true None = one_more d.eqns _ a refl
      by true (Some x) = a
      by false f = one_more d.eqns _ a refl

  tested_fits : (o : Option ℕ) (d : Sketch) → AllFit d → AllFit (tested o d).0
  tested_fits None d a = a
  tested_fits (Some x) d a = a

  merged_fits : (o : Option ℕ) (t : FlatTy) (d : Sketch) → AllFit d → AllFit (merged_variable o t d).0
  merged_fits None t d a = a
  merged_fits (Some x) t d a = a

  first_fits : (at : Site) (os : List Decl) (m : Made) → AllFit m.0 → AllFit (first_output at os m).0
  first_fits at [] m a = a
  first_fits at (o ∷ os) m a = one_more m.0.eqns _ a refl

  bind_fits : (at : Site) (o source : Option ℕ) (d : Sketch) → AllFit d → AllFit (bind at o source d)
  bind_fits at None source d a = a
  bind_fits at (Some x) source d a = one_more d.eqns _ a refl

  bind_all_fits : (see : Sight) (at : Site) (ys : List (List ℕ × Span)) (x : ℕ) (d : Sketch) → AllFit d → AllFit (bind_all see at ys x d)
  bind_all_fits see at [] x d a = a
  bind_all_fits see at (y ∷ ys) x d a = bind_all_fits see at ys x (bind at (see y.0).value (Some x) d) (bind_fits at (see y.0).value (Some x) d a)

  bind_outputs_fits : (see : Sight) (at : Site) (ys : List (List ℕ × Span)) (m : ℕ) (os : List Decl) (d : Sketch) → AllFit d → AllFit (bind_outputs see at ys m os d)
  bind_outputs_fits see at [] m os d a = a
  bind_outputs_fits see at (y ∷ ys) m os d a = bind_outputs_fits see at ys (m + 1) (others os) (bind at (see y.0).value (output_left m os) d) (bind_fits at (see y.0).value (output_left m os) d a)

  link_fits : (see : Sight) (at : Site) (own : Layer) (xs : List (List ℕ)) (d : Sketch) → AllFit d → AllFit (link_all see at own xs d)
  link_fits see at own [] d a = a
  link_fits see at own (x ∷ xs) d a = link_fits see at own xs (bind at (see x).value (given_by (own x) (see x)) d) (bind_fits at (see x).value (given_by (own x) (see x)) d a)

  numbers_length : (m : ℕ) (os : List Decl) → length (numbers_from m os) ≡ length os
  numbers_length m [] = refl
  numbers_length m (o ∷ os) = ap suc (numbers_length (m + 1) os)

  outputs_fit : (os : List Decl) (d : Sketch) → AllFit d → AllFit (with_outputs k os d)
  outputs_fit [] d a = a
  outputs_fit (o ∷ os) d a = outputs_fit os _ a

  call_fits : (at : Site) (f : List ℕ) (args : List Atom) (d : Sketch) → AllFit d → AllFit (called_at k at f args (outputs_of (k.nodes f)) d).0
  call_fits at f args d a = one_more (with_outputs k (outputs_of (k.nodes f)) d).eqns _ (outputs_fit (outputs_of (k.nodes f)) d a) (numbers_length (next d) (outputs_of (k.nodes f)))

  path_fits : (see : Sight) (path : List (Cons × List ℕ)) (at : Site) (d : Sketch) → AllFit d → AllFit (enter_path k see path at d).1
  path_fits see [] at d a = a
  path_fits see (s ∷ path) at d a =
      let t = tested (see s.1).value d in
      path_fits see path (on_site at t.1 (cons_number k s.0)) t.0 (tested_fits (see s.1).value d a)

  remember_fits : (at : Site) (out : Sight) (d : Decl) (o : Option Const) (s : Seen) → AllFit s.1 → AllFit (remember k at out d o s).1
  remember_fits at out d None s a = a
  remember_fits at out d (Some c) s a = one_more s.1.eqns _ a refl

  pub remember-fits : (at : Site) (out : Sight) (ds : List Decl) (s : Seen) → AllFit s.1 → AllFit (remember_all k at out ds s).1
  remember-fits at out [] s a = a
  remember-fits at out (d ∷ ds) s a = remember-fits at out ds (remember k at out d d.last s) (remember_fits at out d d.last s a)

  fby_fits : (at : Site) (c : Option Const) (e f : Expr) (see : Sight) (d : Sketch) → AllFit (sketch_expr k see at f (sketch_expr k see at e d).0).0 → AllFit (sketch_expr k see at f d).0
      → AllFit (by_constant c (let x = sketch_expr k see at e d in fby_at at x.1 (sketch_expr k see at f x.0)) (λ c. let y = sketch_expr k see at f d in register_at at (constant_value k c) y.1 y.0)).0
  fby_fits at None e f see d a b =
      let x = sketch_expr k see at e d in
      let y = sketch_expr k see at f x.0 in
      let held = register_at at (first_value (type_at y.0 y.1)) y.1 y.0 in
      one_more (flag_at at held.0).0.eqns _ (flag_fits at held.0 (one_more y.0.eqns _ a refl)) refl
  fby_fits at (Some c) e f see d a b = one_more (sketch_expr k see at f d).0.eqns _ b refl

  -- ---- expressions

  mutual
    expr_fits : (e : Expr) (see : Sight) (at : Site) (d : Sketch) → AllFit d → AllFit (sketch_expr k see at e d).0
    expr_fits (constant s c) see at d a = one_more d.eqns _ a refl
    expr_fits (variable s x) see at d a = one_more d.eqns _ a refl
    expr_fits (last_of s x) see at d a = one_more d.eqns _ a refl
    expr_fits (one s o e) see at d a = one_more (sketch_expr k see at e d).0.eqns _ (expr_fits e see at d a) refl
    expr_fits (two s o e f) see at d a =
        let x = sketch_expr k see at e d in
        one_more (sketch_expr k see at f x.0).0.eqns _ (expr_fits f see at x.0 (expr_fits e see at d a)) refl
    expr_fits (choose s e f g) see at d a =
        let x = sketch_expr k see at e d in
        let y = sketch_expr k see at f x.0 in
        one_more (sketch_expr k see at g y.0).0.eqns _ (expr_fits g see at y.0 (expr_fits f see at x.0 (expr_fits e see at d a))) refl
    expr_fits (pre s e) see at d a = one_more (sketch_expr k see at e d).0.eqns _ (expr_fits e see at d a) refl
    expr_fits (fby s e f) see at d a =
        let x = sketch_expr k see at e d in
        fby_fits at (constant_in e) e f see d (expr_fits f see at x.0 (expr_fits e see at d a)) (expr_fits f see at d a)
    expr_fits (arrow s e f) see at d a =
        let x = sketch_expr k see at e d in
        let y = sketch_expr k see at f x.0 in
        one_more (flag_at at y.0).0.eqns _ (flag_fits at y.0 (expr_fits f see at x.0 (expr_fits e see at d a))) refl
    expr_fits (when_is s e c x) see at d a = one_more (sketch_expr k see (off_site at) e d).0.eqns _ (expr_fits e see (off_site at) d a) refl
    expr_fits (merge s x ps) see at d a =
        let t = tested (see x).value d in
        let m = sketch_parts k see at t.1 None ps t.0 in
        merged_fits m.1 _ m.0 (parts_fit ps see at t.1 None t.0 (tested_fits (see x).value d a))
    expr_fits (call s f inlined es) see at d a =
        let args = sketch_exprs k see at es d in
        first_fits at (outputs_of (k.nodes f)) (called_at k at f args.1 (outputs_of (k.nodes f)) args.0) (call_fits at f args.1 args.0 (exprs_fit es see at d a))

    parts_fit : (ps : Parts) (see : Sight) (at : Site) (t : ℕ) (merged : Option ℕ) (d : Sketch) → AllFit d → AllFit (sketch_parts k see at t merged ps d).0
    parts_fit no_part see at t merged d a = a
    parts_fit (more_parts c e ps) see at t merged d a =
        let on = on_site at t (cons_number k c) in
        let x = sketch_expr k see on e d in
        let v = merged_variable merged (type_at x.0 x.1) x.0 in
        let m = part_at on merged x in
        parts_fit ps see at t (Some m.1) m.0 (one_more v.0.eqns _ (merged_fits merged (type_at x.0 x.1) x.0 (expr_fits e see on d a)) refl)

    exprs_fit : (es : Exprs) (see : Sight) (at : Site) (d : Sketch) → AllFit d → AllFit (sketch_exprs k see at es d).0
    exprs_fit no_expr see at d a = a
    exprs_fit (more_exprs e es) see at d a = exprs_fit es see at (sketch_expr k see at e d).0 (expr_fits e see at d a)

  -- ---- equations

  right_fits : (e : Expr) (ys : List (List ℕ × Span)) (see : Sight) (at : Site) (d : Sketch) → AllFit d → AllFit (sketch_right k see at ys e d)
  right_fits (constant s c) ys see at d h = let made = sketch_expr k see at (constant s c) d in bind_all_fits see at ys made.1 made.0 (expr_fits (constant s c) see at d h)
  right_fits (variable s x) ys see at d h = let made = sketch_expr k see at (variable s x) d in bind_all_fits see at ys made.1 made.0 (expr_fits (variable s x) see at d h)
  right_fits (last_of s x) ys see at d h = let made = sketch_expr k see at (last_of s x) d in bind_all_fits see at ys made.1 made.0 (expr_fits (last_of s x) see at d h)
  right_fits (one s o a) ys see at d h = let made = sketch_expr k see at (one s o a) d in bind_all_fits see at ys made.1 made.0 (expr_fits (one s o a) see at d h)
  right_fits (two s o a b) ys see at d h = let made = sketch_expr k see at (two s o a b) d in bind_all_fits see at ys made.1 made.0 (expr_fits (two s o a b) see at d h)
  right_fits (choose s a b c) ys see at d h = let made = sketch_expr k see at (choose s a b c) d in bind_all_fits see at ys made.1 made.0 (expr_fits (choose s a b c) see at d h)
  right_fits (pre s a) ys see at d h = let made = sketch_expr k see at (pre s a) d in bind_all_fits see at ys made.1 made.0 (expr_fits (pre s a) see at d h)
  right_fits (fby s a b) ys see at d h = let made = sketch_expr k see at (fby s a b) d in bind_all_fits see at ys made.1 made.0 (expr_fits (fby s a b) see at d h)
  right_fits (arrow s a b) ys see at d h = let made = sketch_expr k see at (arrow s a b) d in bind_all_fits see at ys made.1 made.0 (expr_fits (arrow s a b) see at d h)
  right_fits (when_is s a c x) ys see at d h = let made = sketch_expr k see at (when_is s a c x) d in bind_all_fits see at ys made.1 made.0 (expr_fits (when_is s a c x) see at d h)
  right_fits (merge s x ps) ys see at d h = let made = sketch_expr k see at (merge s x ps) d in bind_all_fits see at ys made.1 made.0 (expr_fits (merge s x ps) see at d h)
  right_fits (call s f inlined es) ys see at d h =
      let args = sketch_exprs k see at es d in
      let c = called_at k at f args.1 (outputs_of (k.nodes f)) args.0 in
      bind_outputs_fits see at ys c.1 (outputs_of (k.nodes f)) c.0 (call_fits at f args.1 args.0 (exprs_fit es see at d h))

  layer_fits : (standing : Standing) (out : Sight) (at : Site) (ds : List Decl) (es : Eqns) (d : Sketch) → AllFit d → AllFit (block_layer k standing out at ds (each_once [] (names_of_eqns es)) d).1
  layer_fits standing out at ds es d a =
      let s = own_names standing ds out (each_once [] (names_of_eqns es)) (declared k ds out, d) in
      let own = own-made standing ds out (λ p. p) (each_once [] (names_of_eqns es)) (declared k ds out, d) (names-once (names_of_eqns es)) in
      remember-fits at out ds s (subst (AllByRecursion (λ (e : FlatEqn). HasTargets count e e.right)) (sym own.eqns) a)

  if_fits : (b : Bool) (d e : Sketch) → AllFit d → AllFit e → AllFit (if b then d else e)
  if_fits true d e a h = a
  if_fits false d e a h = h

  mutual
    pub block-fits : (b : Block) (standing : Standing) (see : Sight) (at : Site) (d : Sketch) → AllFit d → AllFit (sketch_block k standing see at b d).1
    block-fits (block ds es) standing see at d a =
        let s = block_layer k standing see at ds (each_once [] (names_of_eqns es)) d in
        eqns_fit es ds (over s.0 see) at s.1 (layer_fits standing see at ds es d a)

    eqns_fit : (es : Eqns) (ds : List Decl) (see : Sight) (at : Site) (d : Sketch) → AllFit d → AllFit (sketch_eqns k see at ds es d)
    eqns_fit no_eqn ds see at d a = a
    eqns_fit (more_eqns e es) ds see at d a = eqns_fit es ds see at (sketch_eqn k see at ds e d) (eqn_fits e ds see at d a)

    eqn_fits : (e : Eqn) (ds : List Decl) (see : Sight) (at : Site) (d : Sketch) → AllFit d → AllFit (sketch_eqn k see at ds e d)
    eqn_fits (define s ys e) ds see at d a =
        let p = enter_path k see (path_for ds ys e) at d in
        right_fits e ys see p.0 p.1 (path_fits see (path_for ds ys e) at d a)
    eqn_fits (switch s e arms) ds see at d a =
        let names = each_once [] (names_of_arms arms) in
        let t = sketch_expr k see at e d in
        arms_fit arms see (over (hidden names see) see) at names t.1 t.0 (expr_fits e see at d a)
    eqn_fits (reset s b e) ds see at d a =
        let names = each_once [] (names_of_block b) in
        let inside = over (hidden names see) see in
        let m = sketch_block k Inner inside at b d in
        let t = sketch_expr k see at e d in
        let r = sketch_block k Inner inside (in_block (restart_site at t.1)) b (with_flag None t.0) in
        if_fits (is_false e) (link_all see at m.0 names m.1) (link_all see at r.0 names (with_flag t.0.flag r.1)) (link_fits see at m.0 names m.1 (block-fits b Inner inside at d a))
        (link_fits see at r.0 names (with_flag t.0.flag r.1) (block-fits b Inner inside (in_block (restart_site at t.1)) (with_flag None t.0) (expr_fits e see at d a)))
    eqn_fits (automaton s ss) ds see at d a = a

    arms_fit : (arms : Arms) (see inside : Sight) (at : Site) (names : List (List ℕ)) (t : ℕ) (d : Sketch) → AllFit d → AllFit (sketch_arms k see inside at names t arms d)
    arms_fit no_arm see inside at names t d a = a
    arms_fit (more_arms c b s arms) see inside at names t d a =
        let on = on_site at t (cons_number k c) in
        let m = sketch_block k Inner inside (in_block on) b (with_flag None d) in
        arms_fit arms see inside at names t (with_flag d.flag (link_all see on m.0 names m.1)) (link_fits see on m.0 names m.1 (block-fits b Inner inside (in_block on) (with_flag None d) a))
