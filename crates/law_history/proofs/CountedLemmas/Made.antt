-- The equations that are made of expressions call what the expressions call, and no more.
use Rattle.std.proofs.Common.{◌≡◌, ℕ, ◌+◌, ◌≤◌, Bool, true, false, nat_eq, if◌then◌else◌, List, [], ◌∷◌, ◌++◌, length, Option, None, Some, refl, sym, ap, subst, ◌∙◌, arith}
use Rattle.hp_base.specs.declared.span.Span.{Span}
use Rattle.hp_base.specs.declared.ty.Const.{Const}
use Rattle.hp_tree.specs.declared.decl.Cons.{Cons}
use Rattle.hp_tree.specs.Expressions.{Expr, constant, variable, last_of, one, two, choose, pre, fby, arrow, when_is, merge, call, Exprs, no_expr, more_exprs, Parts, no_part, more_parts}
use Rattle.hp_tree.specs.Blocks.{Decl, Block, block, Eqns, no_eqn, more_eqns, Eqn, define, switch, reset, automaton, Arms, no_arm, more_arms}
use Rattle.hp_tree.specs.Programs.{Node}
use Rattle.hp_tree.specs.Meaning.{controls_of}
use Rattle.hp_flat.specs.declared.node.FlatTy.{FlatTy}
use Rattle.hp_flat.specs.declared.equation.Atom.{Atom}
use Rattle.hp_flat.specs.Equations.{FlatEqn}
use Rattle.law_equations.specs.Flattened.Flatten.{constant_in, is_false}
use Rattle.law_equations.specs.Made.Making.{Known, Sketch, Site, Sight, Layer, Standing, Body, Inner, Seen, Made, base_site, unknown, next, with_variable, put, flat_type, no_entry, nothing_made, signed, signature, register_at, new_flag, block_flag, flag_at, by_constant, on_site, off_site, tested, part_at, merged_variable, output_left, others, first_output, fby_at, type_at, first_value, constant_value, cons_number, outputs_of, with_outputs, called_at, over, hidden, own_names, declared, names_of_eqns, names_of_arms, names_of_block, each_once, given_by, bind, bind_all, bind_outputs, link_all, in_block, restart_site, with_flag, remember, remember_all, block_layer, path_for, enter_path, sketch_expr, sketch_parts, sketch_exprs, sketch_right, sketch_block, sketch_eqns, sketch_eqn, sketch_arms, sketch_node}
use Rattle.law_equations.proofs.MadeLemmas.LayerLaws.{own-made, names-once}
use Rattle.law_history.specs.Counted.Counted as calls
use Rattle.law_history.specs.Counted.Counted.{Joins, in_right, in_flat}
use Rattle.law_history.specs.Counted.Laws.{MadeLaw}
use Rattle.law_history.proofs.CountedLemmas.Joining.{nothing_left, below_left, below_right}

module _ (join : ℕ → ℕ → ℕ) (joins : Joins join) (known : List ℕ → ℕ) (k : Known) where
  -- the calls of what is made so far are no more than this
  abbrev AtMost : ℕ → Sketch → Type 0
  AtMost n d = in_flat join known d.eqns ≤ n

  flat_end : (es : List FlatEqn) (e : FlatEqn) → in_flat join known (es ++ e ∷ []) ≡ join (in_flat join known es) (in_right join known e.right)
  flat_end [] e = joins.turned (in_right join known e.right) 0
  flat_end (f ∷ es) e = ap (join (in_right join known f.right)) (flat_end es e) ∙ sym (joins.grouped (in_right join known f.right) (in_flat join known es) (in_right join known e.right))

  -- one equation more, which calls nothing
  one_more : (n : ℕ) (es : List FlatEqn) (e : FlatEqn) → in_flat join known es ≤ n → in_right join known e.right ≡ 0 → in_flat join known (es ++ e ∷ []) ≤ n
  one_more n es e h q = subst (λ m. m ≤ n) (sym (flat_end es e ∙ ap (join (in_flat join known es)) q ∙ joins.none (in_flat join known es))) h

  plain : (n : ℕ) (d : Sketch) → AtMost n d → AtMost (join n 0) d
  plain n d h = subst (λ m. in_flat join known d.eqns ≤ m) (sym (joins.none n)) h

  -- one part behind another
  behind : (n a b : ℕ) (d : Sketch) → AtMost (join (join n a) b) d → AtMost (join n (join a b)) d
  behind n a b d h = subst (λ m. in_flat join known d.eqns ≤ m) (joins.grouped n a b) h

  itself : (n : ℕ) → n ≤ n
  itself n = omega arith

  looser : (m n : ℕ) (d : Sketch) → m ≤ n → AtMost m d → AtMost n d
  looser m n d l h = omega (arith, l, h)

  second_alone : (n a b : ℕ) (d : Sketch) → AtMost (join n b) d → AtMost (join n (join a b)) d
  second_alone n a b d h = looser (join n b) (join n (join a b)) d (joins.grows n b n (join a b) (itself n) (below_right join joins b a b (itself b))) h

  -- ---- one equation

  flag_counts : (n : ℕ) (at : Site) (d : Sketch) → AtMost n d → AtMost n (flag_at at d).0
  flag_counts n at d a = by (nat_eq (length at.clock) at.base) d.flag
    where
      by : (b : Bool) (f : Option ℕ) → AtMost n (if b then block_flag at f d else new_flag at d).0
      by true None = one_more n d.eqns _ a refl
      by true (Some x) = a
      by false f = one_more n d.eqns _ a refl

  tested_counts : (n : ℕ) (o : Option ℕ) (d : Sketch) → AtMost n d → AtMost n (tested o d).0
  tested_counts n None d a = a
  tested_counts n (Some x) d a = a

  merged_counts : (n : ℕ) (o : Option ℕ) (t : FlatTy) (d : Sketch) → AtMost n d → AtMost n (merged_variable o t d).0
  merged_counts n None t d a = a
  merged_counts n (Some x) t d a = a

  first_counts : (n : ℕ) (at : Site) (os : List Decl) (m : Made) → AtMost n m.0 → AtMost n (first_output at os m).0
  first_counts n at [] m a = a
  first_counts n at (o ∷ os) m a = one_more n m.0.eqns _ a refl

  bind_counts : (n : ℕ) (at : Site) (o source : Option ℕ) (d : Sketch) → AtMost n d → AtMost n (bind at o source d)
  bind_counts n at None source d a = a
  bind_counts n at (Some x) source d a = one_more n d.eqns _ a refl

  bind_all_counts : (n : ℕ) (see : Sight) (at : Site) (ys : List (List ℕ × Span)) (x : ℕ) (d : Sketch) → AtMost n d → AtMost n (bind_all see at ys x d)
  bind_all_counts n see at [] x d a = a
  bind_all_counts n see at (y ∷ ys) x d a = bind_all_counts n see at ys x (bind at (see y.0).value (Some x) d) (bind_counts n at (see y.0).value (Some x) d a)

  bind_outputs_counts : (n : ℕ) (see : Sight) (at : Site) (ys : List (List ℕ × Span)) (m : ℕ) (os : List Decl) (d : Sketch) → AtMost n d → AtMost n (bind_outputs see at ys m os d)
  bind_outputs_counts n see at [] m os d a = a
  bind_outputs_counts n see at (y ∷ ys) m os d a =
      bind_outputs_counts n see at ys (m + 1) (others os) (bind at (see y.0).value (output_left m os) d) (bind_counts n at (see y.0).value (output_left m os) d a)

  link_counts : (n : ℕ) (see : Sight) (at : Site) (layer : Layer) (xs : List (List ℕ)) (d : Sketch) → AtMost n d → AtMost n (link_all see at layer xs d)
  link_counts n see at layer [] d a = a
  link_counts n see at layer (x ∷ xs) d a =
      link_counts n see at layer xs (bind at (see x).value (given_by (layer x) (see x)) d) (bind_counts n at (see x).value (given_by (layer x) (see x)) d a)

  outputs_count : (n : ℕ) (os : List Decl) (d : Sketch) → AtMost n d → AtMost n (with_outputs k os d)
  outputs_count n [] d a = a
  outputs_count n (o ∷ os) d a = outputs_count n os _ a

  -- the equation that calls
  call_counts : (n : ℕ) (at : Site) (f : List ℕ) (args : List Atom) (d : Sketch) → AtMost n d → AtMost (join n (known f)) (called_at k at f args (outputs_of (k.nodes f)) d).0
  call_counts n at f args d a =
      let before = with_outputs k (outputs_of (k.nodes f)) d in
      subst (λ m. m ≤ join n (known f)) (sym (flat_end before.eqns _)) (joins.grows (in_flat join known before.eqns) (known f) n (known f) (outputs_count n (outputs_of (k.nodes f)) d a) (itself (known f)))

  path_counts : (n : ℕ) (see : Sight) (path : List (Cons × List ℕ)) (at : Site) (d : Sketch) → AtMost n d → AtMost n (enter_path k see path at d).1
  path_counts n see [] at d a = a
  path_counts n see (s ∷ path) at d a =
      let t = tested (see s.1).value d in
      path_counts n see path (on_site at t.1 (cons_number k s.0)) t.0 (tested_counts n (see s.1).value d a)

  remember_counts : (n : ℕ) (at : Site) (out : Sight) (d : Decl) (o : Option Const) (s : Seen) → AtMost n s.1 → AtMost n (remember k at out d o s).1
  remember_counts n at out d None s a = a
  remember_counts n at out d (Some c) s a = one_more n s.1.eqns _ a refl

  remember_all_counts : (n : ℕ) (at : Site) (out : Sight) (ds : List Decl) (s : Seen) → AtMost n s.1 → AtMost n (remember_all k at out ds s).1
  remember_all_counts n at out [] s a = a
  remember_all_counts n at out (d ∷ ds) s a = remember_all_counts n at out ds (remember k at out d d.last s) (remember_counts n at out d d.last s a)

  fby_counts : (n : ℕ) (at : Site) (c : Option Const) (e f : Expr) (see : Sight) (d : Sketch) → AtMost n (sketch_expr k see at f (sketch_expr k see at e d).0).0 → AtMost n (sketch_expr k see at f d).0
      → AtMost n (by_constant c (let x = sketch_expr k see at e d in fby_at at x.1 (sketch_expr k see at f x.0)) (λ c. let y = sketch_expr k see at f d in register_at at (constant_value k c) y.1 y.0)).0
  fby_counts n at None e f see d a b =
      let x = sketch_expr k see at e d in
      let y = sketch_expr k see at f x.0 in
      let held = register_at at (first_value (type_at y.0 y.1)) y.1 y.0 in
      one_more n (flag_at at held.0).0.eqns _ (flag_counts n at held.0 (one_more n y.0.eqns _ a refl)) refl
  fby_counts n at (Some c) e f see d a b = one_more n (sketch_expr k see at f d).0.eqns _ b refl

  -- ---- expressions

  abbrev of_expr : Expr → ℕ
  of_expr e = calls.in_expr join known e

  mutual
    expr_counts : (e : Expr) (n : ℕ) (see : Sight) (at : Site) (d : Sketch) → AtMost n d → AtMost (join n (of_expr e)) (sketch_expr k see at e d).0
    expr_counts (constant s c) n see at d a = one_more (join n 0) d.eqns _ (plain n d a) refl
    expr_counts (variable s x) n see at d a = one_more (join n 0) d.eqns _ (plain n d a) refl
    expr_counts (last_of s x) n see at d a = one_more (join n 0) d.eqns _ (plain n d a) refl
    expr_counts (one s o e) n see at d a = one_more (join n (of_expr e)) (sketch_expr k see at e d).0.eqns _ (expr_counts e n see at d a) refl
    expr_counts (two s o e f) n see at d a =
        let x = sketch_expr k see at e d in
        let y = sketch_expr k see at f x.0 in
        let both : AtMost (join n (join (of_expr e) (of_expr f))) y.0 = behind n (of_expr e) (of_expr f) y.0 (expr_counts f (join n (of_expr e)) see at x.0 (expr_counts e n see at d a)) in
        one_more (join n (join (of_expr e) (of_expr f))) y.0.eqns _ both refl
    expr_counts (choose s e f g) n see at d a =
        let x = sketch_expr k see at e d in
        let y = sketch_expr k see at f x.0 in
        let z = sketch_expr k see at g y.0 in
        let first = expr_counts e n see at d a in
        let second = expr_counts f (join n (of_expr e)) see at x.0 first in
        let third = expr_counts g (join (join n (of_expr e)) (of_expr f)) see at y.0 second in
        one_more (join n (join (of_expr e) (join (of_expr f) (of_expr g)))) z.0.eqns _
        (behind n (of_expr e) (join (of_expr f) (of_expr g)) z.0 (behind (join n (of_expr e)) (of_expr f) (of_expr g) z.0 third)) refl
    expr_counts (pre s e) n see at d a = one_more (join n (of_expr e)) (sketch_expr k see at e d).0.eqns _ (expr_counts e n see at d a) refl
    expr_counts (fby s e f) n see at d a =
        let x = sketch_expr k see at e d in
        let y = sketch_expr k see at f x.0 in
        let both : AtMost (join n (join (of_expr e) (of_expr f))) y.0 = behind n (of_expr e) (of_expr f) y.0 (expr_counts f (join n (of_expr e)) see at x.0 (expr_counts e n see at d a)) in
        fby_counts (join n (join (of_expr e) (of_expr f))) at (constant_in e) e f see d both
        (second_alone n (of_expr e) (of_expr f) (sketch_expr k see at f d).0 (expr_counts f n see at d a))
    expr_counts (arrow s e f) n see at d a =
        let m = join n (join (of_expr e) (of_expr f)) in
        let x = sketch_expr k see at e d in
        let y = sketch_expr k see at f x.0 in
        let both : AtMost m y.0 = behind n (of_expr e) (of_expr f) y.0 (expr_counts f (join n (of_expr e)) see at x.0 (expr_counts e n see at d a)) in
        one_more m (flag_at at y.0).0.eqns _ (flag_counts m at y.0 both) refl
    expr_counts (when_is s e c x) n see at d a = one_more (join n (of_expr e)) (sketch_expr k see (off_site at) e d).0.eqns _ (expr_counts e n see (off_site at) d a) refl
    expr_counts (merge s x ps) n see at d a =
        let t = tested (see x).value d in
        let m = sketch_parts k see at t.1 None ps t.0 in
        merged_counts (join n (calls.in_parts join known ps)) m.1 _ m.0 (parts_count ps n see at t.1 None t.0 (tested_counts n (see x).value d a))
    expr_counts (call s f inlined es) n see at d a =
        let args = sketch_exprs k see at es d in
        let m = join n (join (calls.in_exprs join known es) (known f)) in
        let c = called_at k at f args.1 (outputs_of (k.nodes f)) args.0 in
        first_counts m at (outputs_of (k.nodes f)) c
        (behind n (calls.in_exprs join known es) (known f) c.0 (call_counts (join n (calls.in_exprs join known es)) at f args.1 args.0 (exprs_count es n see at d a)))

    parts_count : (ps : Parts) (n : ℕ) (see : Sight) (at : Site) (t : ℕ) (merged : Option ℕ) (d : Sketch) → AtMost n d
        → AtMost (join n (calls.in_parts join known ps)) (sketch_parts k see at t merged ps d).0
    parts_count no_part n see at t merged d a = plain n d a
    parts_count (more_parts c e ps) n see at t merged d a =
        let on = on_site at t (cons_number k c) in
        let x = sketch_expr k see on e d in
        let v = merged_variable merged (type_at x.0 x.1) x.0 in
        let m = part_at on merged x in
        let i = join n (of_expr e) in
        behind n (of_expr e) (calls.in_parts join known ps) (sketch_parts k see at t (Some m.1) ps m.0).0
        (parts_count ps i see at t (Some m.1) m.0 (one_more i v.0.eqns _ (merged_counts i merged (type_at x.0 x.1) x.0 (expr_counts e n see on d a)) refl))

    exprs_count : (es : Exprs) (n : ℕ) (see : Sight) (at : Site) (d : Sketch) → AtMost n d → AtMost (join n (calls.in_exprs join known es)) (sketch_exprs k see at es d).0
    exprs_count no_expr n see at d a = plain n d a
    exprs_count (more_exprs e es) n see at d a =
        let x = sketch_expr k see at e d in
        behind n (of_expr e) (calls.in_exprs join known es) (sketch_exprs k see at es x.0).0 (exprs_count es (join n (of_expr e)) see at x.0 (expr_counts e n see at d a))

  -- ---- equations

  bound_counts : (e : Expr) (ys : List (List ℕ × Span)) (n : ℕ) (see : Sight) (at : Site) (d : Sketch) → AtMost n d
      → AtMost (join n (of_expr e)) (bind_all see at ys (sketch_expr k see at e d).1 (sketch_expr k see at e d).0)
  bound_counts e ys n see at d a = bind_all_counts (join n (of_expr e)) see at ys (sketch_expr k see at e d).1 (sketch_expr k see at e d).0 (expr_counts e n see at d a)

  right_counts : (e : Expr) (ys : List (List ℕ × Span)) (n : ℕ) (see : Sight) (at : Site) (d : Sketch) → AtMost n d → AtMost (join n (of_expr e)) (sketch_right k see at ys e d)
  right_counts (constant s c) ys n see at d a = bound_counts (constant s c) ys n see at d a
  right_counts (variable s x) ys n see at d a = bound_counts (variable s x) ys n see at d a
  right_counts (last_of s x) ys n see at d a = bound_counts (last_of s x) ys n see at d a
  right_counts (one s o e) ys n see at d a = bound_counts (one s o e) ys n see at d a
  right_counts (two s o e f) ys n see at d a = bound_counts (two s o e f) ys n see at d a
  right_counts (choose s e f g) ys n see at d a = bound_counts (choose s e f g) ys n see at d a
  right_counts (pre s e) ys n see at d a = bound_counts (pre s e) ys n see at d a
  right_counts (fby s e f) ys n see at d a = bound_counts (fby s e f) ys n see at d a
  right_counts (arrow s e f) ys n see at d a = bound_counts (arrow s e f) ys n see at d a
  right_counts (when_is s e c x) ys n see at d a = bound_counts (when_is s e c x) ys n see at d a
  right_counts (merge s x ps) ys n see at d a = bound_counts (merge s x ps) ys n see at d a
  right_counts (call s f inlined es) ys n see at d a =
      let args = sketch_exprs k see at es d in
      let c = called_at k at f args.1 (outputs_of (k.nodes f)) args.0 in
      bind_outputs_counts (join n (join (calls.in_exprs join known es) (known f))) see at ys c.1 (outputs_of (k.nodes f)) c.0
      (behind n (calls.in_exprs join known es) (known f) c.0 (call_counts (join n (calls.in_exprs join known es)) at f args.1 args.0 (exprs_count es n see at d a)))

  layer_counts : (n : ℕ) (standing : Standing) (out : Sight) (at : Site) (ds : List Decl) (es : Eqns) (d : Sketch) → AtMost n d
      → AtMost n (block_layer k standing out at ds (each_once [] (names_of_eqns es)) d).1
  layer_counts n standing out at ds es d a =
      let s = own_names standing ds out (each_once [] (names_of_eqns es)) (declared k ds out, d) in
      let own = own-made standing ds out (λ p. p) (each_once [] (names_of_eqns es)) (declared k ds out, d) (names-once (names_of_eqns es)) in
      remember_all_counts n at out ds s (subst (λ (es : List FlatEqn). in_flat join known es ≤ n) (sym own.eqns) a)

  if_counts : (n : ℕ) (b : Bool) (d e : Sketch) → AtMost n d → AtMost n e → AtMost n (if b then d else e)
  if_counts n true d e a h = a
  if_counts n false d e a h = h

  mutual
    block_counts : (b : Block) (n : ℕ) (standing : Standing) (see : Sight) (at : Site) (d : Sketch) → AtMost n d → AtMost (join n (calls.in_block join known b)) (sketch_block k standing see at b d).1
    block_counts (block ds es) n standing see at d a =
        let s = block_layer k standing see at ds (each_once [] (names_of_eqns es)) d in
        eqns_count es n ds (over s.0 see) at s.1 (layer_counts n standing see at ds es d a)

    eqns_count : (es : Eqns) (n : ℕ) (ds : List Decl) (see : Sight) (at : Site) (d : Sketch) → AtMost n d → AtMost (join n (calls.in_eqns join known es)) (sketch_eqns k see at ds es d)
    eqns_count no_eqn n ds see at d a = plain n d a
    eqns_count (more_eqns e es) n ds see at d a =
        let m = join n (calls.in_eqn join known e) in
        let x = sketch_eqn k see at ds e d in
        behind n (calls.in_eqn join known e) (calls.in_eqns join known es) (sketch_eqns k see at ds es x) (eqns_count es m ds see at x (eqn_counts e n ds see at d a))

    eqn_counts : (e : Eqn) (n : ℕ) (ds : List Decl) (see : Sight) (at : Site) (d : Sketch) → AtMost n d → AtMost (join n (calls.in_eqn join known e)) (sketch_eqn k see at ds e d)
    eqn_counts (define s ys e) n ds see at d a =
        let p = enter_path k see (path_for ds ys e) at d in
        right_counts e ys n see p.0 p.1 (path_counts n see (path_for ds ys e) at d a)
    eqn_counts (switch s e arms) n ds see at d a =
        let xs = each_once [] (names_of_arms arms) in
        let t = sketch_expr k see at e d in
        let inside = over (hidden xs see) see in
        behind n (of_expr e) (calls.in_arms join known arms) (sketch_arms k see inside at xs t.1 arms t.0) (arms_count arms (join n (of_expr e)) see inside at xs t.1 t.0 (expr_counts e n see at d a))
    eqn_counts (reset s b e) n ds see at d a =
        let xs = each_once [] (names_of_block b) in
        let inside = over (hidden xs see) see in
        let m = sketch_block k Inner inside at b d in
        let t = sketch_expr k see at e d in
        let i = sketch_block k Inner inside (in_block (restart_site at t.1)) b (with_flag None t.0) in
        let of_block = calls.in_block join known b in
        let all = join n (join (of_expr e) of_block) in
        if_counts all (is_false e) (link_all see at m.0 xs m.1) (link_all see at i.0 xs (with_flag t.0.flag i.1))
        (link_counts all see at m.0 xs m.1 (second_alone n (of_expr e) of_block m.1 (block_counts b n Inner inside at d a)))
        (link_counts all see at i.0 xs (with_flag t.0.flag i.1)
        (behind n (of_expr e) of_block i.1 (block_counts b (join n (of_expr e)) Inner inside (in_block (restart_site at t.1)) (with_flag None t.0) (expr_counts e n see at d a))))
    eqn_counts (automaton s ss) n ds see at d a = looser n (join n (calls.in_states join known ss)) d (below_left join joins n n (calls.in_states join known ss) (itself n)) a

    arms_count : (arms : Arms) (n : ℕ) (see inside : Sight) (at : Site) (xs : List (List ℕ)) (t : ℕ) (d : Sketch) → AtMost n d
        → AtMost (join n (calls.in_arms join known arms)) (sketch_arms k see inside at xs t arms d)
    arms_count no_arm n see inside at xs t d a = plain n d a
    arms_count (more_arms c b s arms) n see inside at xs t d a =
        let on = on_site at t (cons_number k c) in
        let m = sketch_block k Inner inside (in_block on) b (with_flag None d) in
        let of_block = calls.in_block join known b in
        let i = join n of_block in
        let linked = with_flag d.flag (link_all see on m.0 xs m.1) in
        behind n of_block (calls.in_arms join known arms) (sketch_arms k see inside at xs t arms linked)
        (arms_count arms i see inside at xs t linked (link_counts i see on m.0 xs m.1 (block_counts b n Inner inside (in_block on) (with_flag None d) a)))

  -- ---- nodes

  eqns_signed : (ds : List Decl) (s : Seen) → (signed k ds s).1.eqns ≡ s.1.eqns
  eqns_signed [] s = refl
  eqns_signed (d ∷ ds) s = eqns_signed ds (put d.name (record { ty = flat_type k.types d.ty; value = Some (next s.1); last = None; is_local = true }) s.0, with_variable d.name (flat_type k.types d.ty) s.1)

  signature_bare : (n : Node) → (signature k n).1.eqns ≡ []
  signature_bare n =
      let none : Seen = (no_entry, nothing_made) in
      let ins = signed k n.inputs none in
      let mids = signed k (controls_of n.contract) ins in
      eqns_signed n.outputs mids ∙ eqns_signed (controls_of n.contract) ins ∙ eqns_signed n.inputs none

  node_counts : (n : Node) → in_flat join known (sketch_node k n).eqns ≤ calls.in_block join known n.body
  node_counts n =
      let s = signature k n in
      let r = remember_all k base_site unknown n.outputs s in
      let bare : AtMost 0 s.1 = subst (λ (es : List FlatEqn). in_flat join known es ≤ 0) (sym (signature_bare n)) (omega arith) in
      subst (λ m. in_flat join known (sketch_node k n).eqns ≤ m) (nothing_left join joins (calls.in_block join known n.body))
      (block_counts n.body 0 Body (over r.0 unknown) base_site r.1 (remember_all_counts 0 base_site unknown n.outputs s bare))

pub made_law : MadeLaw
made_law join joins known k n = node_counts join joins known k n
