-- The events that are made of a node are those of its comparisons and calls, in turn.
use Rattle.std.proofs.Common.{◌≡◌, ℕ, suc, List, [], ◌∷◌, ◌++◌, map, length, refl, sym, ap, subst, ◌∙◌, None, Some}
use Rattle.std.specs.Prelude.{◌+◌, Bool, true, false, if◌then◌else◌, Option}
use Rattle.hp_base.specs.declared.ty.Const.{Const}
use Rattle.hp_base.specs.declared.span.Span.{Span}
use Rattle.hp_obc.specs.declared.command.ObcOp.TheVariants.{Mux}
use Rattle.hp_tree.specs.declared.expr.Op2.{Op2}
use Rattle.hp_tree.specs.Expressions.{Expr, constant, variable, last_of, one, two, choose, pre, fby, arrow, when_is, merge, call, Exprs, no_expr, more_exprs, Parts, no_part, more_parts}
use Rattle.hp_tree.specs.Blocks.{Decl, Block, block, Eqns, no_eqn, more_eqns, Eqn, define, switch, reset, automaton, Arms, no_arm, more_arms}
use Rattle.hp_tree.specs.Programs.{Node}
use Rattle.hp_tree.specs.Instant.{Body as BodyOf, Named, Equations, Head, Tail, Right as RightOf, Test, Arms as ArmsOf, First, Second, Third, Args, Instance}
use Rattle.hp_tree.specs.Meaning.{controls_of}
use Rattle.hp_flat.specs.declared.equation.Atom.{Atom}
use Rattle.hp_flat.specs.declared.equation.Atom.TheVariants.{Variable}
use Rattle.hp_flat.specs.Equations.{operator, register, called as call_of, FlatEqn}
use Rattle.law_automata.specs.Lowered.Standing.{Along}
use Rattle.law_equations.specs.Flattened.Flatten.{Prefix, below, constant_in, is_false, obc_one, obc_two}
use Rattle.law_equations.specs.Made.Making.{Known, Sketch, Site, Sight, Made, Standing, Body, Inner, next, with_outputs, value_of, type_of_value, constant_value, type_one, type_two, type_at, first_value, mux_at, register_at, flag_at, fby_at, arrow_at, by_constant, tested, or_new, part_at, merged_variable, on_site, off_site, cons_number, outputs_of, numbers_from, called_at, first_output, copy_of, atom_of, bind_all, bind_outputs, link_all, hidden, over, names_of_arms, names_of_block, names_of_eqns, each_once, in_block, with_flag, restart_site, base_site, unknown, no_entry, nothing_made, own_names, declared, remember_all, block_layer, enter_path, path_for, signed, sketch_expr, sketch_parts, sketch_exprs, sketch_right, sketch_block, sketch_eqns, sketch_eqn, sketch_arms, sketch_node}
use Rattle.law_equations.specs.Made.Laws.{unplaced}
use Rattle.hp_watch.specs.Walk.{compares, is_event}
use Rattle.law_choices.specs.Places.Spots.{Spot, compared, called, call_spot, compared_spots, spots, spots_of_all, spots_of_parts, spots_of_block, spots_of_eqns, spots_of_eqn, spots_of_arms, spots_of_node}
use Rattle.law_choices.specs.Places.Laws.{events, IsEventOf, KnowsOutputs, EventsLaw}
use Rattle.law_choices.proofs.PlacesLemmas.Adding.{Adds, adds-two, adds-more, adds-none, adds-quiet, adds-event, quiet-one, compares-same, adds-value, adds-flag, adds-tested, adds-merged, adds-bind-all, adds-bind-outputs, adds-links, adds-names, adds-outputs, adds-lasts, adds-path, adds-signed}

-- the same sketch
reaching : (d e f : Sketch) (ss : List Spot) → f.eqns ≡ e.eqns → Adds d e ss → Adds d f ss
reaching d e f ss h a = adds-more d e f ss a (adds-none e f h)

-- other spots that are the same
as-spots : (d e : Sketch) (ss ts : List Spot) → ss ≡ ts → Adds d e ss → Adds d e ts
as-spots d e ss ts h a = subst (Adds d e) h a

-- a constant has no events
pub constant-none : (outputs : List ℕ → List (List ℕ)) (e : Expr) (c : Const) (here : Prefix) → constant_in e ≡ Some c → spots outputs e here ≡ []
constant-none outputs (constant s x) c here h = refl
constant-none outputs (variable s x) c here h = absurd cc
constant-none outputs (last_of s x) c here h = absurd cc
constant-none outputs (one s o a) c here h = absurd cc
constant-none outputs (two s o a b) c here h = absurd cc
constant-none outputs (choose s a b e) c here h = absurd cc
constant-none outputs (pre s a) c here h = absurd cc
constant-none outputs (fby s a b) c here h = absurd cc
constant-none outputs (arrow s a b) c here h = absurd cc
constant-none outputs (when_is s a e x) c here h = absurd cc
constant-none outputs (merge s x ps) c here h = absurd cc
constant-none outputs (call s f inlined es) c here h = absurd cc

pub false-none : (outputs : List ℕ → List (List ℕ)) (e : Expr) (here : Prefix) → is_false e ≡ true → spots outputs e here ≡ []
false-none outputs (constant s x) here h = refl
false-none outputs (variable s x) here h = absurd cc
false-none outputs (last_of s x) here h = absurd cc
false-none outputs (one s o a) here h = absurd cc
false-none outputs (two s o a b) here h = absurd cc
false-none outputs (choose s a b e) here h = absurd cc
false-none outputs (pre s a) here h = absurd cc
false-none outputs (fby s a b) here h = absurd cc
false-none outputs (arrow s a b) here h = absurd cc
false-none outputs (when_is s a e x) here h = absurd cc
false-none outputs (merge s x ps) here h = absurd cc
false-none outputs (call s f inlined es) here h = absurd cc

module _ (outputs : List ℕ → List (List ℕ)) (k : Known) (knows : KnowsOutputs outputs k) where
  -- ---- one equation

  -- an operator of two operands, which may be a comparison
  adds-two-operands : (at : Site) (o : Op2) (a b : ℕ) (here : Prefix) (d : Sketch) → Adds d (value_of at (type_two o) (operator (obc_two o) (Variable a ∷ Variable b ∷ [])) d).0 (compared_spots outputs o here)
  adds-two-operands at o a b here d = by (compares o) (compares-same o)
    where
      by : (c : Bool) → is_event (operator (obc_two o) (Variable a ∷ Variable b ∷ [])) ≡ c → Adds d (value_of at (type_two o) (operator (obc_two o) (Variable a ∷ Variable b ∷ [])) d).0 (if c then compared o (here []) ∷ [] else [])
      by true e =
          let h = adds-event at (next d ∷ []) (operator (obc_two o) (Variable a ∷ Variable b ∷ [])) d (compared o (here [])) e (Variable a, Variable b, next d, refl, refl) in
          (h.0, h.1, h.2)
      by false e = adds-value at (type_two o) (operator (obc_two o) (Variable a ∷ Variable b ∷ [])) d e

  -- a call
  numbers-length : (n : ℕ) (os : List Decl) → length (numbers_from n os) ≡ length os
  numbers-length n [] = refl
  numbers-length n (o ∷ os) = ap suc (numbers-length (n + 1) os)

  map-length : {A B : Type 0} (g : A → B) (xs : List A) → length (map g xs) ≡ length xs
  map-length g [] = refl
  map-length g (x ∷ xs) = ap suc (map-length g xs)

  adds-call : (at : Site) (f : List ℕ) (args : List Atom) (here : Prefix) (d : Sketch) → Adds d (called_at k at f args (outputs_of (k.nodes f)) d).0 (call_spot outputs f here ∷ [])
  adds-call at f args here d =
      let os = outputs_of (k.nodes f) in
      let e = with_outputs k os d in
      let as_many : length (numbers_from (next d) os) ≡ length (map (λ (o : List ℕ). here (Instance ∷ Named o ∷ [])) (outputs f)) =
      numbers-length (next d) os ∙ sym (map-length (λ (o : Decl). o.name) os) ∙ ap length (sym (knows f)) ∙ sym (map-length (λ (o : List ℕ). here (Instance ∷ Named o ∷ [])) (outputs f)) in
      adds-two d e (called_at k at f args os d).0 [] (call_spot outputs f here ∷ []) (adds-outputs k os d)
      (adds-event at (numbers_from (next d) os) (call_of f args) e (call_spot outputs f here) refl (args, refl, as_many))

  adds-first : (at : Site) (os : List Decl) (m : Made) → Adds m.0 (first_output at os m).0 []
  adds-first at [] m = adds-none m.0 (first_output at [] m).0 refl
  adds-first at (o ∷ os) m = adds-value at (type_at m.0 m.1) (copy_of (atom_of (Some m.1))) m.0 refl

  adds-part : (at : Site) (o : Option ℕ) (e : Made) → Adds e.0 (part_at at o e).0 []
  adds-part at o e =
      let m = merged_variable o (type_at e.0 e.1) e.0 in
      adds-more e.0 m.0 (part_at at o e).0 [] (adds-merged o (type_at e.0 e.1) e.0) (adds-quiet at (m.1 ∷ []) (copy_of (Variable e.1)) m.0 refl)

  -- ---- expressions

  abbrev OfExpr : Expr → Type 0
  OfExpr e = (see : Sight) (at : Site) (here : Prefix) (d : Sketch) → Adds d (sketch_expr k see at e d).0 (spots outputs e here)

  -- `a fby b`, where `a` is a constant or not
  fby-adds : (a b : Expr) → OfExpr a → OfExpr b → (see : Sight) (at : Site) (here : Prefix) (d : Sketch) (o : Option Const) → constant_in a ≡ o
      → Adds d (by_constant o (let x = sketch_expr k see at a d in fby_at at x.1 (sketch_expr k see at b x.0)) (λ c. let y = sketch_expr k see at b d in register_at at (constant_value k c) y.1 y.0)).0
      (spots outputs a (below First here) ++ spots outputs b (below Second here))
  fby-adds a b ha hb see at here d None e =
      let x = sketch_expr k see at a d in
      let y = sketch_expr k see at b x.0 in
      let r = register_at at (first_value (type_at y.0 y.1)) y.1 y.0 in
      let g = flag_at at r.0 in
      adds-more d y.0 (fby_at at x.1 y).0 (spots outputs a (below First here) ++ spots outputs b (below Second here))
      (adds-two d x.0 y.0 (spots outputs a (below First here)) (spots outputs b (below Second here)) (ha see at (below First here) d) (hb see at (below Second here) x.0))
      (adds-more y.0 g.0 (fby_at at x.1 y).0 [] (adds-more y.0 r.0 g.0 [] (adds-value at (type_at y.0 y.1) (register (first_value (type_at y.0 y.1)) (Variable y.1)) y.0 refl) (adds-flag at r.0))
      (adds-value at (type_at g.0 x.1) (operator Mux (Variable g.1 ∷ Variable x.1 ∷ Variable r.1 ∷ [])) g.0 refl))
  fby-adds a b ha hb see at here d (Some c) e =
      let y = sketch_expr k see at b d in
      as-spots d (register_at at (constant_value k c) y.1 y.0).0 (spots outputs b (below Second here)) (spots outputs a (below First here) ++ spots outputs b (below Second here))
      (ap (λ ss. ss ++ spots outputs b (below Second here)) (sym (constant-none outputs a c (below First here) e)))
      (adds-more d y.0 (register_at at (constant_value k c) y.1 y.0).0 (spots outputs b (below Second here)) (hb see at (below Second here) d)
      (adds-value at (type_at y.0 y.1) (register (constant_value k c) (Variable y.1)) y.0 refl))

  mutual
    pub expr-adds : (e : Expr) → OfExpr e
    expr-adds (constant s c) see at here d = adds-value at (type_of_value (constant_value k c)) _ d refl
    expr-adds (variable s x) see at here d = adds-value at (see x).ty (copy_of (atom_of (see x).value)) d refl
    expr-adds (last_of s x) see at here d = adds-value at (see x).ty (copy_of (atom_of (see x).last)) d refl
    expr-adds (one s o a) see at here d =
        let x = sketch_expr k see at a d in
        adds-more d x.0 (sketch_expr k see at (one s o a) d).0 (spots outputs a (below First here)) (expr-adds a see at (below First here) d) (adds-value at (type_one o) (operator (obc_one o) (Variable x.1 ∷ [])) x.0 (quiet-one o))
    expr-adds (two s o a b) see at here d =
        let x = sketch_expr k see at a d in
        let y = sketch_expr k see at b x.0 in
        let z = value_of at (type_two o) (operator (obc_two o) (Variable x.1 ∷ Variable y.1 ∷ [])) y.0 in
        adds-two d x.0 z.0 (spots outputs a (below First here)) (spots outputs b (below Second here) ++ compared_spots outputs o here) (expr-adds a see at (below First here) d)
        (adds-two x.0 y.0 z.0 (spots outputs b (below Second here)) (compared_spots outputs o here) (expr-adds b see at (below Second here) x.0) (adds-two-operands at o x.1 y.1 here y.0))
    expr-adds (choose s a b c) see at here d =
        let x = sketch_expr k see at a d in
        let y = sketch_expr k see at b x.0 in
        let z = sketch_expr k see at c y.0 in
        adds-more d z.0 (mux_at at x.1 y.1 z.1 z.0).0 (spots outputs a (below First here) ++ (spots outputs b (below Second here) ++ spots outputs c (below Third here)))
        (adds-two d x.0 z.0 (spots outputs a (below First here)) (spots outputs b (below Second here) ++ spots outputs c (below Third here)) (expr-adds a see at (below First here) d)
        (adds-two x.0 y.0 z.0 (spots outputs b (below Second here)) (spots outputs c (below Third here)) (expr-adds b see at (below Second here) x.0) (expr-adds c see at (below Third here) y.0)))
        (adds-value at (type_at z.0 y.1) (operator Mux (Variable x.1 ∷ Variable y.1 ∷ Variable z.1 ∷ [])) z.0 refl)
    expr-adds (pre s a) see at here d =
        let x = sketch_expr k see at a d in
        adds-more d x.0 (sketch_expr k see at (pre s a) d).0 (spots outputs a (below First here)) (expr-adds a see at (below First here) d)
        (adds-value at (type_at x.0 x.1) (register (first_value (type_at x.0 x.1)) (Variable x.1)) x.0 refl)
    expr-adds (fby s a b) see at here d = fby-adds a b (expr-adds a) (expr-adds b) see at here d (constant_in a) refl
    expr-adds (arrow s a b) see at here d =
        let x = sketch_expr k see at a d in
        let y = sketch_expr k see at b x.0 in
        let g = flag_at at y.0 in
        adds-more d y.0 (arrow_at at x.1 y).0 (spots outputs a (below First here) ++ spots outputs b (below Second here))
        (adds-two d x.0 y.0 (spots outputs a (below First here)) (spots outputs b (below Second here)) (expr-adds a see at (below First here) d) (expr-adds b see at (below Second here) x.0))
        (adds-more y.0 g.0 (arrow_at at x.1 y).0 [] (adds-flag at y.0) (adds-value at (type_at g.0 x.1) (operator Mux (Variable g.1 ∷ Variable x.1 ∷ Variable y.1 ∷ [])) g.0 refl))
    expr-adds (when_is s a c x) see at here d =
        let y = sketch_expr k see (off_site at) a d in
        adds-more d y.0 (sketch_expr k see at (when_is s a c x) d).0 (spots outputs a (below First here)) (expr-adds a see (off_site at) (below First here) d)
        (adds-value at (type_at y.0 y.1) (copy_of (atom_of (Some y.1))) y.0 refl)
    expr-adds (merge s x ps) see at here d =
        let t = tested (see x).value d in
        let m = sketch_parts k see at t.1 None ps t.0 in
        adds-more d m.0 (or_new m).0 (spots_of_parts outputs ps (below Args here))
        (adds-two d t.0 m.0 [] (spots_of_parts outputs ps (below Args here)) (adds-tested (see x).value d) (parts-add ps see at t.1 None (below Args here) t.0))
        (adds-merged m.1 _ m.0)
    expr-adds (call s f inlined es) see at here d =
        let args = sketch_exprs k see at es d in
        let os = outputs_of (k.nodes f) in
        let c = called_at k at f args.1 os args.0 in
        adds-more d c.0 (first_output at os c).0 (spots_of_all outputs es (below Args here) ++ call_spot outputs f here ∷ [])
        (adds-two d args.0 c.0 (spots_of_all outputs es (below Args here)) (call_spot outputs f here ∷ []) (exprs-add es see at (below Args here) d) (adds-call at f args.1 here args.0))
        (adds-first at os c)

    parts-add : (ps : Parts) (see : Sight) (at : Site) (t : ℕ) (o : Option ℕ) (here : Prefix) (d : Sketch) → Adds d (sketch_parts k see at t o ps d).0 (spots_of_parts outputs ps here)
    parts-add no_part see at t o here d = adds-none d d refl
    parts-add (more_parts c e ps) see at t o here d =
        let on = on_site at t (cons_number k c) in
        let x = sketch_expr k see on e d in
        let m = part_at on o x in
        adds-two d m.0 (sketch_parts k see at t (Some m.1) ps m.0).0 (spots outputs e (below Head here)) (spots_of_parts outputs ps (below Tail here))
        (adds-more d x.0 m.0 (spots outputs e (below Head here)) (expr-adds e see on (below Head here) d) (adds-part on o x)) (parts-add ps see at t (Some m.1) (below Tail here) m.0)

    pub exprs-add : (es : Exprs) (see : Sight) (at : Site) (here : Prefix) (d : Sketch) → Adds d (sketch_exprs k see at es d).0 (spots_of_all outputs es here)
    exprs-add no_expr see at here d = adds-none d d refl
    exprs-add (more_exprs e es) see at here d =
        let x = sketch_expr k see at e d in
        adds-two d x.0 (sketch_exprs k see at es x.0).0 (spots outputs e (below Head here)) (spots_of_all outputs es (below Tail here)) (expr-adds e see at (below Head here) d) (exprs-add es see at (below Tail here) x.0)

  -- ---- definitions

  plain-right : (e : Expr) (see : Sight) (at : Site) (ys : List (List ℕ × Span)) (here : Prefix) (d : Sketch) → Adds d (let x = sketch_expr k see at e d in bind_all see at ys x.1 x.0) (spots outputs e here)
  plain-right e see at ys here d =
      let x = sketch_expr k see at e d in
      adds-more d x.0 (bind_all see at ys x.1 x.0) (spots outputs e here) (expr-adds e see at here d) (adds-bind-all see at ys x.1 x.0)

  right-adds : (e : Expr) (see : Sight) (at : Site) (ys : List (List ℕ × Span)) (here : Prefix) (d : Sketch) → Adds d (sketch_right k see at ys e d) (spots outputs e here)
  right-adds (constant s c) see at ys here d = plain-right (constant s c) see at ys here d
  right-adds (variable s x) see at ys here d = plain-right (variable s x) see at ys here d
  right-adds (last_of s x) see at ys here d = plain-right (last_of s x) see at ys here d
  right-adds (one s o a) see at ys here d = plain-right (one s o a) see at ys here d
  right-adds (two s o a b) see at ys here d = plain-right (two s o a b) see at ys here d
  right-adds (choose s a b c) see at ys here d = plain-right (choose s a b c) see at ys here d
  right-adds (pre s a) see at ys here d = plain-right (pre s a) see at ys here d
  right-adds (fby s a b) see at ys here d = plain-right (fby s a b) see at ys here d
  right-adds (arrow s a b) see at ys here d = plain-right (arrow s a b) see at ys here d
  right-adds (when_is s a c x) see at ys here d = plain-right (when_is s a c x) see at ys here d
  right-adds (merge s x ps) see at ys here d = plain-right (merge s x ps) see at ys here d
  right-adds (call s f inlined es) see at ys here d =
      let args = sketch_exprs k see at es d in
      let os = outputs_of (k.nodes f) in
      let c = called_at k at f args.1 os args.0 in
      adds-more d c.0 (bind_outputs see at ys c.1 os c.0) (spots_of_all outputs es (below Args here) ++ call_spot outputs f here ∷ [])
      (adds-two d args.0 c.0 (spots_of_all outputs es (below Args here)) (call_spot outputs f here ∷ []) (exprs-add es see at (below Args here) d) (adds-call at f args.1 here args.0))
      (adds-bind-outputs see at ys c.1 os c.0)

  -- ---- blocks

  pub layer-adds : (standing : Standing) (out : Sight) (at : Site) (ds : List Decl) (names : List (List ℕ)) (d : Sketch) → Adds d (block_layer k standing out at ds names d).1 []
  layer-adds standing out at ds names d =
      let s = own_names standing ds out names (declared k ds out, d) in
      adds-more d s.1 (remember_all k at out ds s).1 [] (adds-names standing ds out names (declared k ds out, d)) (adds-lasts k at out ds s)

  abbrev OfBlock : Block → Type 0
  OfBlock b = (standing : Standing) (out : Sight) (at : Site) (here : Prefix) (d : Sketch) → Adds d (sketch_block k standing out at b d).1 (spots_of_block outputs b here)

  reset-adds : (b : Block) (e : Expr) → OfBlock b → (see : Sight) (at : Site) (here : Prefix) (d : Sketch) (c : Bool) → is_false e ≡ c
      → (let names = each_once [] (names_of_block b) in
      Adds d
      (if c
      then (let m = sketch_block k Inner (over (hidden names see) see) at b d in link_all see at m.0 names m.1)
      else (let t = sketch_expr k see at e d in
      let m = sketch_block k Inner (over (hidden names see) see) (in_block (restart_site at t.1)) b (with_flag None t.0) in
      link_all see at m.0 names (with_flag t.0.flag m.1)))
      (spots outputs e (below Test here) ++ spots_of_block outputs b (below BodyOf here)))
  reset-adds b e hb see at here d true h =
      let names = each_once [] (names_of_block b) in
      let m = sketch_block k Inner (over (hidden names see) see) at b d in
      as-spots d (link_all see at m.0 names m.1) (spots_of_block outputs b (below BodyOf here)) (spots outputs e (below Test here) ++ spots_of_block outputs b (below BodyOf here))
      (ap (λ ss. ss ++ spots_of_block outputs b (below BodyOf here)) (sym (false-none outputs e (below Test here) h)))
      (adds-more d m.1 (link_all see at m.0 names m.1) (spots_of_block outputs b (below BodyOf here)) (hb Inner (over (hidden names see) see) at (below BodyOf here) d) (adds-links see at m.0 names m.1))
  reset-adds b e hb see at here d false h =
      let names = each_once [] (names_of_block b) in
      let t = sketch_expr k see at e d in
      let u = with_flag None t.0 in
      let m = sketch_block k Inner (over (hidden names see) see) (in_block (restart_site at t.1)) b u in
      let v = with_flag t.0.flag m.1 in
      adds-more d v (link_all see at m.0 names v) (spots outputs e (below Test here) ++ spots_of_block outputs b (below BodyOf here))
      (reaching d m.1 v (spots outputs e (below Test here) ++ spots_of_block outputs b (below BodyOf here)) refl
      (adds-two d u m.1 (spots outputs e (below Test here)) (spots_of_block outputs b (below BodyOf here)) (reaching d t.0 u (spots outputs e (below Test here)) refl (expr-adds e see at (below Test here) d))
      (hb Inner (over (hidden names see) see) (in_block (restart_site at t.1)) (below BodyOf here) u)))
      (adds-links see at m.0 names v)

  mutual
    block-adds : (b : Block) → OfBlock b
    block-adds (block ds es) standing out at here d =
        let s = block_layer k standing out at ds (each_once [] (names_of_eqns es)) d in
        adds-two d s.1 (sketch_eqns k (over s.0 out) at ds es s.1) [] (spots_of_eqns outputs es (below Equations here)) (layer-adds standing out at ds (each_once [] (names_of_eqns es)) d) (eqns-add es (over s.0 out) at ds (below Equations here) s.1)

    eqns-add : (es : Eqns) (see : Sight) (at : Site) (ds : List Decl) (here : Prefix) (d : Sketch) → Adds d (sketch_eqns k see at ds es d) (spots_of_eqns outputs es here)
    eqns-add no_eqn see at ds here d = adds-none d d refl
    eqns-add (more_eqns e es) see at ds here d =
        let x = sketch_eqn k see at ds e d in
        adds-two d x (sketch_eqns k see at ds es x) (spots_of_eqn outputs e (below Head here)) (spots_of_eqns outputs es (below Tail here)) (eqn-adds e see at ds (below Head here) d) (eqns-add es see at ds (below Tail here) x)

    pub eqn-adds : (e : Eqn) (see : Sight) (at : Site) (ds : List Decl) (here : Prefix) (d : Sketch) → Adds d (sketch_eqn k see at ds e d) (spots_of_eqn outputs e here)
    eqn-adds (define s ys e) see at ds here d =
        let p = enter_path k see (path_for ds ys e) at d in
        adds-two d p.1 (sketch_right k see p.0 ys e p.1) [] (spots outputs e (below RightOf here)) (adds-path k see (path_for ds ys e) at d) (right-adds e see p.0 ys (below RightOf here) p.1)
    eqn-adds (switch s e arms) see at ds here d =
        let names = each_once [] (names_of_arms arms) in
        let t = sketch_expr k see at e d in
        adds-two d t.0 (sketch_arms k see (over (hidden names see) see) at names t.1 arms t.0) (spots outputs e (below Test here)) (spots_of_arms outputs arms (below ArmsOf here))
        (expr-adds e see at (below Test here) d) (arms-add arms see (over (hidden names see) see) at names t.1 (below ArmsOf here) t.0)
    eqn-adds (reset s b e) see at ds here d = reset-adds b e (block-adds b) see at here d (is_false e) refl
    eqn-adds (automaton s ss) see at ds here d = adds-none d d refl

    arms-add : (arms : Arms) (see inside : Sight) (at : Site) (names : List (List ℕ)) (t : ℕ) (here : Prefix) (d : Sketch) → Adds d (sketch_arms k see inside at names t arms d) (spots_of_arms outputs arms here)
    arms-add no_arm see inside at names t here d = adds-none d d refl
    arms-add (more_arms c b s arms) see inside at names t here d =
        let on = on_site at t (cons_number k c) in
        let u = with_flag None d in
        let m = sketch_block k Inner inside (in_block on) b u in
        let l = link_all see on m.0 names m.1 in
        let v = with_flag d.flag l in
        adds-two d v (sketch_arms k see inside at names t arms v) (spots_of_block outputs b (below Head here)) (spots_of_arms outputs arms (below Tail here))
        (reaching d l v (spots_of_block outputs b (below Head here)) refl
        (adds-more d m.1 l (spots_of_block outputs b (below Head here))
        (adds-two d u m.1 [] (spots_of_block outputs b (below Head here)) (adds-none d u refl) (block-adds b Inner inside (in_block on) (below Head here) u))
        (adds-links see on m.0 names m.1)))
        (arms-add arms see inside at names t (below Tail here) v)

  -- ---- nodes

  node-adds : (n : Node) → Adds nothing_made (sketch_node k n) (spots_of_node outputs n)
  node-adds n =
      let a = signed k n.inputs (no_entry, nothing_made) in
      let b = signed k (controls_of n.contract) a in
      let c = signed k n.outputs b in
      let s = remember_all k base_site unknown n.outputs c in
      adds-two nothing_made s.1 (sketch_node k n) [] (spots_of_node outputs n)
      (adds-more nothing_made c.1 s.1 []
      (adds-more nothing_made b.1 c.1 [] (adds-more nothing_made a.1 b.1 [] (adds-signed k n.inputs (no_entry, nothing_made)) (adds-signed k (controls_of n.contract) a)) (adds-signed k n.outputs b))
      (adds-lasts k base_site unknown n.outputs c))
      (block-adds n.body Body (over s.0 unknown) base_site (λ p. BodyOf ∷ p) s.1)

-- Where equations stand does not matter.
event_alike : (e x : FlatEqn) (s : Spot) → unplaced e ≡ unplaced x → IsEventOf x s → IsEventOf e s
event_alike e x (compared o p) h is = (is.0, is.1, is.2, ap (λ (d : FlatEqn). d.right) h ∙ is.3, ap (λ (d : FlatEqn). d.targets) h ∙ is.4)
event_alike e x (called f ps) h is = (is.0, ap (λ (d : FlatEqn). d.right) h ∙ is.1, ap (λ (d : FlatEqn). length d.targets) h ∙ is.2)

pub heads_alike : (e x : FlatEqn) (es xs : List FlatEqn) → map unplaced (e ∷ es) ≡ map unplaced (x ∷ xs) → (unplaced e ≡ unplaced x) × (map unplaced es ≡ map unplaced xs)
heads_alike e x es xs h = (cc, cc)

events_alike : (es xs : List FlatEqn) (ss : List Spot) → map unplaced es ≡ map unplaced xs → Along IsEventOf (events xs) ss → Along IsEventOf (events es) ss
events_alike [] [] ss h k = k
events_alike [] (x ∷ xs) ss h k = absurd cc
events_alike (e ∷ es) [] ss h k = absurd cc
events_alike (e ∷ es) (x ∷ xs) ss h k =
    let both = heads_alike e x es xs h in
    by (is_event e.right) (is_event x.right) ss (ap (λ (d : FlatEqn). is_event d.right) both.0) k (λ ts g. events_alike es xs ts both.1 g) both.0
  where
    by : (b c : Bool) (ss : List Spot) → b ≡ c → Along IsEventOf (if c then x ∷ events xs else events xs) ss → ((ts : List Spot) → Along IsEventOf (events xs) ts → Along IsEventOf (events es) ts) → unplaced e ≡ unplaced x
        → Along IsEventOf (if b then e ∷ events es else events es) ss
    by true true [] q k rest h = absurd k
    by true true (s ∷ ss) q k rest h = (event_alike e x s h k.0, rest ss k.1)
    by true false ss q k rest h = absurd cc
    by false true ss q k rest h = absurd cc
    by false false ss q k rest h = rest ss k

pub events-are : EventsLaw
events-are outputs k n es knows are =
    let h = node-adds outputs k knows n in
    events_alike es (sketch_node k n).eqns (spots_of_node outputs n) are (subst (λ xs. Along IsEventOf (events xs) (spots_of_node outputs n)) (sym h.1) h.2)
