-- Where the first values of registers are those of their types, each `fby` has one.
use Rattle.std.proofs.Common.{◌≡◌, ℕ, List, [], refl, sym, subst}
use Rattle.std.specs.Prelude.{Bool, true, false, IsTrue, Option, None, Some}
use Rattle.hp_base.specs.declared.ty.Const.{Const}
use Rattle.hp_base.specs.declared.value.Value.{Value}
use Rattle.hp_flat.specs.declared.node.FlatTy.{FlatTy}
use Rattle.hp_flat.specs.declared.node.FlatTy.TheVariants as flat
use Rattle.law_equations.specs.Meaning.Fitting.{is_there}
use Rattle.hp_tree.specs.Expressions.{Expr, constant, variable, last_of, one, two, choose, pre, fby, arrow, when_is, merge, call, Exprs, no_expr, more_exprs, Parts, no_part, more_parts}
use Rattle.hp_tree.specs.Blocks.{Decl, Block, block, Eqns, no_eqn, more_eqns, Eqn, define, switch, reset, automaton, Arms, no_arm, more_arms}
use Rattle.hp_tree.specs.Instant.{Equations, Head, Tail, Right as RightOf, Test, Arms as ArmsOf, Body as BodyOf, First, Second, Third, Args, Place}
use Rattle.law_equations.specs.Flattened.Flatten.{Prefix, below, constant_in, is_false, is_false_constant}
use Rattle.law_equations.specs.Flattened.Lifted.{in_body}
use Rattle.law_equations.specs.Made.Making.{Known, Sketch, Site, Sight, Standing, Body, Inner, first_value, type_at, sketch_expr, sketch_eqn, sketch_block, tested, off_site, on_site, cons_number, part_at, enter_path, path_for, over, hidden, names_of_eqns, names_of_arms, names_of_block, each_once, block_layer, in_block, restart_site, with_flag, link_all}
use Rattle.law_equations.specs.Made.Standing.{ByConstant, Ready, ReadyParts, ReadyAll, ReadyRight}
use Rattle.law_equations.specs.Made.Blocks.{Either, ReadyBlock, ReadyEqns, ReadyEqn, ReadyArms}
use Rattle.law_wellmade.specs.Timely.Kept.{IfNone, ExprBegins, ExprsBegin, PartsBegin, BlockBegins, EqnsBegin, EqnBegins, ArmsBegin}
use Rattle.law_wellmade.specs.Timely.Laws.{BeginsLaw}

first_there : (t : FlatTy) → IsTrue (is_there (first_value t))
first_there flat.Bool = refl
first_there flat.Int = refl
first_there (flat.Enum t) = refl

if_none : (o : Option Const) (v : Value) → IsTrue (is_there v) → IfNone o v
if_none None v h = h
if_none (Some c) v h = tt

by_constant : {P : Type 0} (o : Option Const) (A G : Type 0) → ByConstant o A G → (A → P) → ((c : Const) → o ≡ Some c → G → P) → P
by_constant {P} None A G r f g = f r
by_constant {P} (Some c) A G r f g = g c refl r

by_bool : {P : Type 0} (b : Bool) (A G : Type 0) → Either b A G → (b ≡ true → A → P) → (G → P) → P
by_bool {P} true A G r f g = f refl r
by_bool {P} false A G r f g = g r

is_constant : (o : Option Const) → is_false_constant o ≡ true → (c : Const) × (o ≡ Some c)
is_constant None h = absurd (cc)
is_constant (Some c) h = (c, refl)

module _ (k : Known) (fill : Place → Value) where
  constant_begins : (e : Expr) (c : Const) (here : Prefix) → constant_in e ≡ Some c → ExprBegins fill e here
  constant_begins (constant s x) c here q = tt
  constant_begins (variable s x) c here q = tt
  constant_begins (last_of s x) c here q = tt
  constant_begins (one s o d) c here q = absurd (cc)
  constant_begins (two s o d e) c here q = absurd (cc)
  constant_begins (choose s d e f) c here q = absurd (cc)
  constant_begins (pre s d) c here q = absurd (cc)
  constant_begins (fby s d e) c here q = absurd (cc)
  constant_begins (arrow s d e) c here q = absurd (cc)
  constant_begins (when_is s d x y) c here q = absurd (cc)
  constant_begins (merge s x ps) c here q = absurd (cc)
  constant_begins (call s f j es) c here q = absurd (cc)

  mutual
    begins_expr : (e : Expr) (see : Sight) (at : Site) (here : Prefix) (d : Sketch) → Ready k fill see at e here d → ExprBegins fill e here
    begins_expr (constant s c) see at here d r = tt
    begins_expr (variable s x) see at here d r = tt
    begins_expr (last_of s x) see at here d r = tt
    begins_expr (one s o a) see at here d r = begins_expr a see at (below First here) d r
    begins_expr (two s o a b) see at here d r = (begins_expr a see at (below First here) d r.0, begins_expr b see at (below Second here) (sketch_expr k see at a d).0 r.1)
    begins_expr (choose s a b c) see at here d r = (
      begins_expr a see at (below First here) d r.0,
      (begins_expr b see at (below Second here) (sketch_expr k see at a d).0 r.1, begins_expr c see at (below Third here) (sketch_expr k see at b (sketch_expr k see at a d).0).0 r.2),
    )
    begins_expr (pre s a) see at here d r = begins_expr a see at (below First here) d r.1
    begins_expr (fby s a b) see at here d r =
        let x = sketch_expr k see at a d in
        let y = sketch_expr k see at b x.0 in
        by_constant (constant_in a)
        (Ready k fill see at a (below First here) d × Ready k fill see at b (below Second here) x.0 × (fill (here []) ≡ first_value (type_at y.0 y.1)))
        (Ready k fill see at b (below Second here) d) r
        (λ h. (
          if_none (constant_in a) (fill (here [])) (subst (λ v. IsTrue (is_there v)) (sym h.2) (first_there (type_at y.0 y.1))),
          (begins_expr a see at (below First here) d h.0, begins_expr b see at (below Second here) x.0 h.1),
        ))
        (λ c q h. (subst (λ o. IfNone o (fill (here []))) (sym q) tt, (constant_begins a c (below First here) q, begins_expr b see at (below Second here) d h)))
    begins_expr (arrow s a b) see at here d r = (begins_expr a see at (below First here) d r.0, begins_expr b see at (below Second here) (sketch_expr k see at a d).0 r.1)
    begins_expr (when_is s a c x) see at here d r = begins_expr a see (off_site at) (below First here) d r
    begins_expr (merge s x ps) see at here d r = begins_parts ps see at (tested (see x).value d).1 None (below Args here) (tested (see x).value d).0 r
    begins_expr (call s f inlined es) see at here d r = begins_exprs es see at (below Args here) d r.1

    begins_parts : (ps : Parts) (see : Sight) (at : Site) (t : ℕ) (merged : Option ℕ) (here : Prefix) (d : Sketch) → ReadyParts k fill see at t merged ps here d → PartsBegin fill ps here
    begins_parts no_part see at t merged here d r = tt
    begins_parts (more_parts c e ps) see at t merged here d r =
        let m = part_at (on_site at t (cons_number k c)) merged (sketch_expr k see (on_site at t (cons_number k c)) e d) in
        (begins_expr e see (on_site at t (cons_number k c)) (below Head here) d r.0, begins_parts ps see at t (Some m.1) (below Tail here) m.0 r.1)

    begins_exprs : (es : Exprs) (see : Sight) (at : Site) (here : Prefix) (d : Sketch) → ReadyAll k fill see at es here d → ExprsBegin fill es here
    begins_exprs no_expr see at here d r = tt
    begins_exprs (more_exprs e es) see at here d r = (begins_expr e see at (below Head here) d r.0, begins_exprs es see at (below Tail here) (sketch_expr k see at e d).0 r.1)

  begins_right : (e : Expr) (see : Sight) (at : Site) (here : Prefix) (d : Sketch) → ReadyRight k fill see at e here d → ExprBegins fill e here
  begins_right (call s f inlined es) see at here d r = begins_exprs es see at (below Args here) d r
  begins_right (constant s c) see at here d r = tt
  begins_right (variable s c) see at here d r = tt
  begins_right (last_of s c) see at here d r = tt
  begins_right (one s o a) see at here d r = begins_expr (one s o a) see at here d r
  begins_right (two s o a b) see at here d r = begins_expr (two s o a b) see at here d r
  begins_right (choose s a b c) see at here d r = begins_expr (choose s a b c) see at here d r
  begins_right (pre s a) see at here d r = begins_expr (pre s a) see at here d r
  begins_right (fby s a b) see at here d r = begins_expr (fby s a b) see at here d r
  begins_right (arrow s a b) see at here d r = begins_expr (arrow s a b) see at here d r
  begins_right (when_is s a c x) see at here d r = begins_expr (when_is s a c x) see at here d r
  begins_right (merge s x ps) see at here d r = begins_expr (merge s x ps) see at here d r

  mutual
    begins_block : (b : Block) (standing : Standing) (out : Sight) (at : Site) (here : Prefix) (d : Sketch) → ReadyBlock k fill standing out at b here d → BlockBegins fill b here
    begins_block (block ds es) standing out at here d r =
        let s = block_layer k standing out at ds (each_once [] (names_of_eqns es)) d in
        begins_eqns es (over s.0 out) at ds (below Equations here) s.1 r

    begins_eqns : (es : Eqns) (see : Sight) (at : Site) (ds : List Decl) (here : Prefix) (d : Sketch) → ReadyEqns k fill see at ds es here d → EqnsBegin fill es here
    begins_eqns no_eqn see at ds here d r = tt
    begins_eqns (more_eqns e es) see at ds here d r = (begins_eqn e see at ds (below Head here) d r.0, begins_eqns es see at ds (below Tail here) (sketch_eqn k see at ds e d) r.1)

    begins_eqn : (e : Eqn) (see : Sight) (at : Site) (ds : List Decl) (here : Prefix) (d : Sketch) → ReadyEqn k fill see at ds e here d → EqnBegins fill e here
    begins_eqn (define s ys e) see at ds here d r =
        let p = enter_path k see (path_for ds ys e) at d in
        begins_right e see p.0 (below RightOf here) p.1 r
    begins_eqn (switch s e arms) see at ds here d r =
        let names = each_once [] (names_of_arms arms) in
        let t = sketch_expr k see at e d in
        (begins_expr e see at (below Test here) d r.0, begins_arms arms see (over (hidden names see) see) at names t.1 (below ArmsOf here) t.0 r.1)
    begins_eqn (reset s b e) see at ds here d r =
        let names = each_once [] (names_of_block b) in
        let t = sketch_expr k see at e d in
        by_bool (is_false e) (ReadyBlock k fill Inner (over (hidden names see) see) at b (below BodyOf here) d)
        (Ready k fill see at e (below Test here) d × ReadyBlock k fill Inner (over (hidden names see) see) (in_block (restart_site at t.1)) b (below BodyOf here) (with_flag None t.0)) r
        (λ q h. let c = is_constant (constant_in e) q in (constant_begins e c.0 (below Test here) c.1, begins_block b Inner (over (hidden names see) see) at (below BodyOf here) d h))
        (λ h. (begins_expr e see at (below Test here) d h.0, begins_block b Inner (over (hidden names see) see) (in_block (restart_site at t.1)) (below BodyOf here) (with_flag None t.0) h.1))
    begins_eqn (automaton s ss) see at ds here d r = tt

    begins_arms : (arms : Arms) (see inside : Sight) (at : Site) (names : List (List ℕ)) (t : ℕ) (here : Prefix) (d : Sketch) → ReadyArms k fill see inside at names t arms here d → ArmsBegin fill arms here
    begins_arms no_arm see inside at names t here d r = tt
    begins_arms (more_arms c b s arms) see inside at names t here d r =
        let there = on_site at t (cons_number k c) in
        let m = sketch_block k Inner inside (in_block there) b (with_flag None d) in
        (begins_block b Inner inside (in_block there) (below Head here) (with_flag None d) r.0, begins_arms arms see inside at names t (below Tail here) (with_flag d.flag (link_all see there m.0 names m.1)) r.1)

pub begins : BeginsLaw
begins k fill n ready = begins_block k fill n.body Body _ _ in_body _ ready.first_values
