-- Sketches of blocks of control equations grow by new names.
use Rattle.std.proofs.Common.{ℕ, Bool, true, false, if◌then◌else◌, List, [], ◌∷◌, Option, None, Some}
use Rattle.std.specs.Prelude.{codes}
use Rattle.hp_base.specs.declared.ty.Const.{Const}
use Rattle.hp_tree.specs.Blocks.{Decl, Block, block, Eqns, no_eqn, more_eqns, Eqn, define, switch, reset, automaton, Arms, no_arm, more_arms}
use Rattle.law_equations.specs.Flattened.Flatten.{is_false}
use Rattle.law_equations.specs.Made.Making.{Known, Sketch, Site, Sight, Layer, Seen, Inner, cons_number, on_site, restart_site, in_block, with_flag, over, hidden, given_by, bind, link_all, names_of_eqns, names_of_arms, names_of_block, each_once, own_name, own_names, declared, remember, remember_all, block_layer, sketch_expr, sketch_block, sketch_eqns, sketch_eqn, sketch_arms}
use Rattle.law_equations.proofs.FittingLemmas.Growth.{Grown, same, both, new-grown, named-grown, flagged, unflagged, bind-grown}
use Rattle.law_equations.proofs.FittingLemmas.ExpressionGrowth.{expr-grown, definition-grown}

link_grown : (out : Sight) (at : Site) (own : Layer) (xs : List (List ℕ)) (d : Sketch) → Grown d (link_all out at own xs d)
link_grown out at own [] d = same d
link_grown out at own (x ∷ xs) d =
    let e = bind at (out x).value (given_by (own x) (out x)) d in
    both d e (link_all out at own xs e) (bind-grown at (out x).value (given_by (own x) (out x)) d) (link_grown out at own xs e)

own_names_grown : (ds : List Decl) (out : Sight) (xs : List (List ℕ)) (s : Seen) → Grown s.1 (own_names Inner ds out xs s).1
own_names_grown ds out [] s = same s.1
own_names_grown ds out (x ∷ xs) s =
    let r = own_name Inner ds out x s in
    both s.1 r.1 _ (new-grown x (over s.0 out x).ty s.1) (own_names_grown ds out xs r)

either_grown : (b : Bool) (d e f : Sketch) → Grown d e → Grown d f → Grown d (if b then e else f)
either_grown true d e f h g = h
either_grown false d e f h g = g

module _ (k : Known) where
  remember_grown : (at : Site) (out : Sight) (d : Decl) (c : Option Const) (s : Seen) → Grown s.1 (remember k at out d c s).1
  remember_grown at out d None s = same s.1
  remember_grown at out d (Some c) s = named-grown at (codes "last") (over s.0 out d.name).ty _ s.1

  pub remember-grown : (at : Site) (out : Sight) (ds : List Decl) (s : Seen) → Grown s.1 (remember_all k at out ds s).1
  remember-grown at out [] s = same s.1
  remember-grown at out (d ∷ ds) s =
      let r = remember k at out d d.last s in
      both s.1 r.1 _ (remember_grown at out d d.last s) (remember-grown at out ds r)

  layer_grown : (out : Sight) (at : Site) (ds : List Decl) (names : List (List ℕ)) (d : Sketch) → Grown d (block_layer k Inner out at ds names d).1
  layer_grown out at ds names d =
      let s = own_names Inner ds out names (declared k ds out, d) in
      both d s.1 _ (own_names_grown ds out names (declared k ds out, d)) (remember-grown at out ds s)

  mutual
    block_grown : (b : Block) (out : Sight) (at : Site) (d : Sketch) → Grown d (sketch_block k Inner out at b d).1
    block_grown (block ds es) out at d =
        let s = block_layer k Inner out at ds (each_once [] (names_of_eqns es)) d in
        both d s.1 _ (layer_grown out at ds (each_once [] (names_of_eqns es)) d) (eqns-grown es ds (over s.0 out) at s.1)

    pub eqns-grown : (es : Eqns) (ds : List Decl) (see : Sight) (at : Site) (d : Sketch) → Grown d (sketch_eqns k see at ds es d)
    eqns-grown no_eqn ds see at d = same d
    eqns-grown (more_eqns e es) ds see at d = let m = sketch_eqn k see at ds e d in both d m _ (eqn_grown e ds see at d) (eqns-grown es ds see at m)

    eqn_grown : (e : Eqn) (ds : List Decl) (see : Sight) (at : Site) (d : Sketch) → Grown d (sketch_eqn k see at ds e d)
    eqn_grown (define s ys e) ds see at d = definition-grown k ds ys e see at d
    eqn_grown (switch s e arms) ds see at d =
        let names = each_once [] (names_of_arms arms) in
        let t = sketch_expr k see at e d in
        both d t.0 _ (expr-grown k e see at d) (arms_grown arms see (over (hidden names see) see) at names t.1 t.0)
    eqn_grown (reset s b e) ds see at d =
        let names = each_once [] (names_of_block b) in
        let inside = over (hidden names see) see in
        let m = sketch_block k Inner inside at b d in
        let t = sketch_expr k see at e d in
        let r = sketch_block k Inner inside (in_block (restart_site at t.1)) b (with_flag None t.0) in
        let q = with_flag t.0.flag r.1 in
        either_grown (is_false e) d (link_all see at m.0 names m.1) (link_all see at r.0 names q)
        (both d m.1 _ (block_grown b inside at d) (link_grown see at m.0 names m.1))
        (both d t.0 _ (expr-grown k e see at d)
        (both t.0 q _ (flagged t.0 r.1 t.0.flag (unflagged t.0 r.1 None (block_grown b inside (in_block (restart_site at t.1)) (with_flag None t.0)))) (link_grown see at r.0 names q)))
    eqn_grown (automaton s ss) ds see at d = same d

    arms_grown : (arms : Arms) (see inside : Sight) (at : Site) (names : List (List ℕ)) (t : ℕ) (d : Sketch) → Grown d (sketch_arms k see inside at names t arms d)
    arms_grown no_arm see inside at names t d = same d
    arms_grown (more_arms c b s arms) see inside at names t d =
        let on = on_site at t (cons_number k c) in
        let m = sketch_block k Inner inside (in_block on) b (with_flag None d) in
        let linked = link_all see on m.0 names m.1 in
        let e = with_flag d.flag linked in
        both d e _ (flagged d linked d.flag (both d m.1 linked (unflagged d m.1 None (block_grown b inside (in_block on) (with_flag None d))) (link_grown see on m.0 names m.1)))
        (arms_grown arms see inside at names t e)
