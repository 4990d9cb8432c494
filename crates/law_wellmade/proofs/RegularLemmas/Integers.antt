-- The constants of equations that are made of a node are of 32 bits, where the integers that it writes are.
use Rattle.std.proofs.Common.{arith, ◌≡◌, ℕ, Bool, true, false, nat_eq, if◌then◌else◌, List, [], ◌∷◌, length, map, Option, None, Some, refl, sym, subst}
use Rattle.std.specs.Prelude.{◌+◌, pos}
use Rattle.std.specs.List.{AllByRecursion}
use Rattle.std.specs.Int.{w32}
use Rattle.std.specs.Int.RustNames.{FitsSigned}
use Rattle.hp_base.specs.declared.span.Span.{Span}
use Rattle.hp_base.specs.declared.ty.Const.{Const}
use Rattle.hp_base.specs.declared.ty.Const.TheVariants as const
use Rattle.hp_base.specs.declared.value.Value.{Value}
use Rattle.hp_base.specs.declared.value.Value.TheVariants.{B}
use Rattle.hp_obc.specs.declared.command.ObcOp.TheVariants.{Mux}
use Rattle.hp_tree.specs.declared.decl.Cons.{Cons}
use Rattle.hp_tree.specs.Expressions.{Expr, constant, variable, last_of, one, two, choose, pre, fby, arrow, when_is, merge, call, Exprs, no_expr, more_exprs, Parts, no_part, more_parts}
use Rattle.hp_tree.specs.Blocks.{Decl, Block, block, Eqns, no_eqn, more_eqns, Eqn, define, switch, reset, automaton, Arms, no_arm, more_arms}
use Rattle.hp_tree.specs.Programs.{Node}
use Rattle.hp_tree.specs.Meaning.{declares, controls_of}
use Rattle.hp_flat.specs.declared.equation.Atom.{Atom}
use Rattle.hp_flat.specs.declared.equation.Atom.TheVariants.{Variable as Named, Value as Fixed}
use Rattle.hp_flat.specs.declared.node.FlatTy.{FlatTy}
use Rattle.hp_flat.specs.declared.node.FlatTy.TheVariants as flat
use Rattle.hp_flat.specs.Equations.{Right, operator, register, called, FlatEqn}
use Rattle.hp_flat.specs.Nodes.{FlatNode}
use Rattle.law_equations.specs.Flattened.Flatten.{obc_one, obc_two, constant_in, is_false}
use Rattle.law_equations.specs.Followed.Premises.{constants_in, constants_of}
use Rattle.law_equations.specs.Answered.Short.{IsShort, AreShort, ConstantsShort}
use Rattle.hp_complete.specs.Made.{IsMadeOf, AreMadeOf}
use Rattle.law_judged.specs.Named.Scoped.{EachNode}
use Rattle.hp_tree.specs.declared.program.Item.{Item}
use Rattle.hp_tree.specs.declared.program.Item.TheVariants.{TypeItem, NodeItem}
use Rattle.law_equations.specs.Made.Laws.{unplaced, around_body}
use Rattle.law_equations.specs.Made.Making.{Known, Sketch, Site, Sight, Layer, Seen, Made, Standing, Body, Inner, next, with_variable, with_eqn, value_of, type_at, atom_of, copy_of, type_one, type_two, type_of_value, first_value, constructor_value, constant_value, cons_number, outputs_of, output_left, others, numbers_from, new_flag, block_flag, flag_at, by_constant, fby_at, arrow_at, read_at, register_at, on_site, off_site, in_block, restart_site, base_site, unknown, with_flag, tested, merged_variable, part_at, first_output, with_outputs, called_at, bind, bind_all, bind_outputs, over, hidden, keeps_name, with_own, own_variable, own_name, own_names, declared, remember, remember_all, block_layer, given_by, link_all, names_of_eqns, names_of_arms, names_of_block, each_once, enter_path, path_for, no_entry, nothing_made, signed, signature, sketch_expr, sketch_parts, sketch_exprs, sketch_right, sketch_block, sketch_eqns, sketch_eqn, sketch_arms, sketch_node}
use Rattle.law_wellmade.specs.Spelled.Integers.{ConstShort, ExprShort, ExprsShort, PartsShort, LastShort, LastsShort, BlockShort, EqnsShort, EqnShort, ArmsShort, NodeShort}
use Rattle.law_wellmade.proofs.RegularLemmas.Good.{each_append}

abbrev Short : Sketch → Type 0
Short d = ConstantsShort d.eqns

short_zero : FitsSigned w32 (pos 0)
short_zero = record { sfits = omega arith }

first_short : (t : FlatTy) → IsShort (first_value t)
first_short flat.Bool = tt
first_short flat.Int = short_zero
first_short (flat.Enum t) = tt

atom_short : (o : Option ℕ) → AreShort (constants_in (atom_of o ∷ []))
atom_short None = (tt, tt)
atom_short (Some x) = tt

constant_short : (k : Known) (c : Const) → ConstShort c → IsShort (constant_value k c)
constant_short k (const.B b) h = tt
constant_short k (const.I n) h = h
constant_short k (const.E x) h = by (k.constructors x)
  where
    by : (o : Option (ℕ × ℕ)) → IsShort (constructor_value o)
    by None = tt
    by (Some p) = tt

eqn_short : (at : Site) (targets : List ℕ) (right : Right) (d : Sketch) → AreShort (constants_of right) → Short d → Short (with_eqn at targets right d)
eqn_short at targets right d h s = each_append (λ (e : FlatEqn). AreShort (constants_of e.right)) d.eqns (record { targets = targets; clock = at.clock; right = right; restart = at.restart; at = 0 } ∷ []) s (h, tt)

value_short : (at : Site) (t : FlatTy) (right : Right) (d : Sketch) → AreShort (constants_of right) → Short d → Short (value_of at t right d).0
value_short at t right d h s = eqn_short at (next d ∷ []) right d h s

read_short : (at : Site) (o : Option ℕ) (t : FlatTy) (d : Sketch) → Short d → Short (read_at at o t d).0
read_short at o t d s = value_short at t (copy_of (atom_of o)) d (atom_short o) s

flag_short : (at : Site) (d : Sketch) → Short d → Short (flag_at at d).0
flag_short at d s = by (nat_eq (length at.clock) at.base) d.flag
  where
    fresh : Short (new_flag at d).0
    fresh = eqn_short at (next d ∷ []) (register (B true) (Fixed (B false))) d (tt, (tt, tt)) s

    by : (b : Bool) (f : Option ℕ) → Short (if b then block_flag at f d else new_flag at d).0
    by true None = fresh
    by true (Some x) = s
    by false f = fresh

tested_short : (o : Option ℕ) (d : Sketch) → Short d → Short (tested o d).0
tested_short None d s = s
tested_short (Some x) d s = s

merged_short : (o : Option ℕ) (t : FlatTy) (d : Sketch) → Short d → Short (merged_variable o t d).0
merged_short None t d s = s
merged_short (Some x) t d s = s

part_short : (at : Site) (o : Option ℕ) (m : Made) → Short m.0 → Short (part_at at o m).0
part_short at o m s = let v = merged_variable o (type_at m.0 m.1) m.0 in eqn_short at (v.1 ∷ []) (copy_of (Named m.1)) v.0 tt (merged_short o (type_at m.0 m.1) m.0 s)

bind_short : (at : Site) (o source : Option ℕ) (d : Sketch) → Short d → Short (bind at o source d)
bind_short at None source d s = s
bind_short at (Some x) source d s = eqn_short at (x ∷ []) (copy_of (atom_of source)) d (atom_short source) s

all_short : (see : Sight) (at : Site) (ys : List (List ℕ × Span)) (x : ℕ) (d : Sketch) → Short d → Short (bind_all see at ys x d)
all_short see at [] x d s = s
all_short see at (y ∷ ys) x d s = all_short see at ys x (bind at (see y.0).value (Some x) d) (bind_short at (see y.0).value (Some x) d s)

bound_short : (see : Sight) (at : Site) (ys : List (List ℕ × Span)) (n : ℕ) (os : List Decl) (d : Sketch) → Short d → Short (bind_outputs see at ys n os d)
bound_short see at [] n os d s = s
bound_short see at (y ∷ ys) n os d s = bound_short see at ys (n + 1) (others os) (bind at (see y.0).value (output_left n os) d) (bind_short at (see y.0).value (output_left n os) d s)

links_short : (out : Sight) (at : Site) (own : Layer) (xs : List (List ℕ)) (d : Sketch) → Short d → Short (link_all out at own xs d)
links_short out at own [] d s = s
links_short out at own (x ∷ xs) d s = links_short out at own xs (bind at (out x).value (given_by (own x) (out x)) d) (bind_short at (out x).value (given_by (own x) (out x)) d s)

by_short : (o : Option Const) (m : Made) (f : Const → Made) → Short m.0 → ((c : Const) → o ≡ Some c → Short (f c).0) → Short (by_constant o m f).0
by_short None m f h g = h
by_short (Some c) m f h g = g c refl

some_is : {A : Type 0} (a b : A) → Some a ≡ Some b → a ≡ b
some_is a b h = cc

written_short : (e : Expr) (c : Const) → constant_in e ≡ Some c → ExprShort e → ConstShort c
written_short (constant a b) c e ok = subst ConstShort (some_is b c e) ok
written_short (variable a x) c e ok = absurd (cc)
written_short (last_of a x) c e ok = absurd (cc)
written_short (one a o b) c e ok = absurd (cc)
written_short (two a o b d) c e ok = absurd (cc)
written_short (choose a b d f) c e ok = absurd (cc)
written_short (pre a b) c e ok = absurd (cc)
written_short (fby a b d) c e ok = absurd (cc)
written_short (arrow a b d) c e ok = absurd (cc)
written_short (when_is a b d x) c e ok = absurd (cc)
written_short (merge a x ps) c e ok = absurd (cc)
written_short (call a f i es) c e ok = absurd (cc)

register_short : (at : Site) (v : Value) (x : ℕ) (d : Sketch) → IsShort v → Short d → Short (register_at at v x d).0
register_short at v x d h s = value_short at (type_at d x) (register v (Named x)) d (h, tt) s

arrow_short : (at : Site) (a : ℕ) (b : Made) → Short b.0 → Short (arrow_at at a b).0
arrow_short at a b s = let flag = flag_at at b.0 in value_short at (type_at flag.0 a) (operator Mux (Named flag.1 ∷ Named a ∷ Named b.1 ∷ [])) flag.0 tt (flag_short at b.0 s)

fby_short : (at : Site) (a : ℕ) (b : Made) → Short b.0 → Short (fby_at at a b).0
fby_short at a b s = let v = first_value (type_at b.0 b.1) in arrow_short at a (register_at at v b.1 b.0) (register_short at v b.1 b.0 (first_short (type_at b.0 b.1)) s)

module _ (k : Known) where
  outputs_short : (os : List Decl) (d : Sketch) → Short d → Short (with_outputs k os d)
  outputs_short [] d s = s
  outputs_short (o ∷ os) d s = outputs_short os _ s

  args_short : (see : Sight) (at : Site) (es : Exprs) (d : Sketch) → AreShort (constants_in (sketch_exprs k see at es d).1)
  args_short see at no_expr d = tt
  args_short see at (more_exprs e es) d = args_short see at es (sketch_expr k see at e d).0

  called_short : (at : Site) (f : List ℕ) (args : List Atom) (os : List Decl) (d : Sketch) → AreShort (constants_in args) → Short d → Short (called_at k at f args os d).0
  called_short at f args os d h s = eqn_short at (numbers_from (next d) os) (called f args) (with_outputs k os d) h (outputs_short os d s)

  first_output_short : (at : Site) (os : List Decl) (m : Made) → Short m.0 → Short (first_output at os m).0
  first_output_short at [] m s = s
  first_output_short at (o ∷ os) m s = read_short at (Some m.1) (type_at m.0 m.1) m.0 s

  mutual
    expr_short : (e : Expr) (see : Sight) (at : Site) (d : Sketch) → ExprShort e → Short d → Short (sketch_expr k see at e d).0
    expr_short (constant a c) see at d h s = value_short at (type_of_value (constant_value k c)) (copy_of (Fixed (constant_value k c))) d (constant_short k c h, tt) s
    expr_short (variable a x) see at d h s = read_short at (see x).value (see x).ty d s
    expr_short (last_of a x) see at d h s = read_short at (see x).last (see x).ty d s
    expr_short (one a o b) see at d h s = let x = sketch_expr k see at b d in value_short at (type_one o) (operator (obc_one o) (Named x.1 ∷ [])) x.0 tt (expr_short b see at d h s)
    expr_short (two a o b c) see at d h s =
        let x = sketch_expr k see at b d in
        let y = sketch_expr k see at c x.0 in
        value_short at (type_two o) (operator (obc_two o) (Named x.1 ∷ Named y.1 ∷ [])) y.0 tt (expr_short c see at x.0 h.1 (expr_short b see at d h.0 s))
    expr_short (choose a b c e) see at d h s =
        let x = sketch_expr k see at b d in
        let y = sketch_expr k see at c x.0 in
        let z = sketch_expr k see at e y.0 in
        value_short at (type_at z.0 y.1) (operator Mux (Named x.1 ∷ Named y.1 ∷ Named z.1 ∷ [])) z.0 tt (expr_short e see at y.0 h.1.1 (expr_short c see at x.0 h.1.0 (expr_short b see at d h.0 s)))
    expr_short (pre a b) see at d h s = let x = sketch_expr k see at b d in register_short at (first_value (type_at x.0 x.1)) x.1 x.0 (first_short (type_at x.0 x.1)) (expr_short b see at d h s)
    expr_short (fby a b c) see at d h s =
        let x = sketch_expr k see at b d in
        let y = sketch_expr k see at c x.0 in
        let z = sketch_expr k see at c d in
        by_short (constant_in b) _ _ (fby_short at x.1 y (expr_short c see at x.0 h.1 (expr_short b see at d h.0 s)))
        (λ v e. register_short at (constant_value k v) z.1 z.0 (constant_short k v (written_short b v e h.0)) (expr_short c see at d h.1 s))
    expr_short (arrow a b c) see at d h s =
        let x = sketch_expr k see at b d in
        arrow_short at x.1 (sketch_expr k see at c x.0) (expr_short c see at x.0 h.1 (expr_short b see at d h.0 s))
    expr_short (when_is a b c x) see at d h s = let y = sketch_expr k see (off_site at) b d in read_short at (Some y.1) (type_at y.0 y.1) y.0 (expr_short b see (off_site at) d h s)
    expr_short (merge a x ps) see at d h s =
        let t = tested (see x).value d in
        let m = sketch_parts k see at t.1 None ps t.0 in
        merged_short m.1 flat.Bool m.0 (parts_short ps see at t.1 None t.0 h (tested_short (see x).value d s))
    expr_short (call a f i es) see at d h s =
        let args = sketch_exprs k see at es d in
        let os = outputs_of (k.nodes f) in
        first_output_short at os (called_at k at f args.1 os args.0) (called_short at f args.1 os args.0 (args_short see at es d) (exprs_short es see at d h s))

    exprs_short : (es : Exprs) (see : Sight) (at : Site) (d : Sketch) → ExprsShort es → Short d → Short (sketch_exprs k see at es d).0
    exprs_short no_expr see at d h s = s
    exprs_short (more_exprs e es) see at d h s = exprs_short es see at (sketch_expr k see at e d).0 h.1 (expr_short e see at d h.0 s)

    parts_short : (ps : Parts) (see : Sight) (at : Site) (t : ℕ) (o : Option ℕ) (d : Sketch) → PartsShort ps → Short d → Short (sketch_parts k see at t o ps d).0
    parts_short no_part see at t o d h s = s
    parts_short (more_parts c e ps) see at t o d h s =
        let on = on_site at t (cons_number k c) in
        let x = sketch_expr k see on e d in
        let m = part_at on o x in
        parts_short ps see at t (Some m.1) m.0 h.1 (part_short on o x (expr_short e see on d h.0 s))

  right_short : (ys : List (List ℕ × Span)) (e : Expr) (see : Sight) (at : Site) (d : Sketch) → ExprShort e → Short d → Short (sketch_right k see at ys e d)
  right_short ys (constant a c) see at d h s = all_short see at ys _ _ (expr_short (constant a c) see at d h s)
  right_short ys (variable a x) see at d h s = all_short see at ys _ _ (expr_short (variable a x) see at d h s)
  right_short ys (last_of a x) see at d h s = all_short see at ys _ _ (expr_short (last_of a x) see at d h s)
  right_short ys (one a o b) see at d h s = all_short see at ys _ _ (expr_short (one a o b) see at d h s)
  right_short ys (two a o b c) see at d h s = all_short see at ys _ _ (expr_short (two a o b c) see at d h s)
  right_short ys (choose a b c e) see at d h s = all_short see at ys _ _ (expr_short (choose a b c e) see at d h s)
  right_short ys (pre a b) see at d h s = all_short see at ys _ _ (expr_short (pre a b) see at d h s)
  right_short ys (fby a b c) see at d h s = all_short see at ys _ _ (expr_short (fby a b c) see at d h s)
  right_short ys (arrow a b c) see at d h s = all_short see at ys _ _ (expr_short (arrow a b c) see at d h s)
  right_short ys (when_is a b c x) see at d h s = all_short see at ys _ _ (expr_short (when_is a b c x) see at d h s)
  right_short ys (merge a x ps) see at d h s = all_short see at ys _ _ (expr_short (merge a x ps) see at d h s)
  right_short ys (call a f i es) see at d h s =
      let args = sketch_exprs k see at es d in
      let os = outputs_of (k.nodes f) in
      let c = called_at k at f args.1 os args.0 in
      bound_short see at ys c.1 os c.0 (called_short at f args.1 os args.0 (args_short see at es d) (exprs_short es see at d h s))

  path_short : (path : List (Cons × List ℕ)) (see : Sight) (at : Site) (d : Sketch) → Short d → Short (enter_path k see path at d).1
  path_short [] see at d s = s
  path_short (x ∷ path) see at d s = let t = tested (see x.1).value d in path_short path see (on_site at t.1 (cons_number k x.0)) t.0 (tested_short (see x.1).value d s)

  -- ---- layers

  variable_short : (standing : Standing) (ds : List Decl) (x : List ℕ) (t : FlatTy) (d : Sketch) → Short d → Short (own_variable standing ds x t d).0
  variable_short Body ds x t d s = by (keeps_name ds x)
    where
      by : (b : Bool) → let z : Made = if b then (with_variable x t d, next d) else own_variable Inner ds x t d in Short z.0
      by true = s
      by false = s
  variable_short Inner ds x t d s = s

  name_short : (standing : Standing) (ds : List Decl) (out : Sight) (x : List ℕ) (m : Seen) → Short m.1 → Short (own_name standing ds out x m).1
  name_short Body ds out x m s = by (declares ds x)
    where
      by : (b : Bool) → let z : Seen = if b then with_own ds x (over m.0 out x) m.0 (own_variable Body ds x (over m.0 out x).ty m.1) else m in Short z.1
      by true = variable_short Body ds x (over m.0 out x).ty m.1 s
      by false = s
  name_short Inner ds out x m s = s

  names_short : (standing : Standing) (ds : List Decl) (out : Sight) (xs : List (List ℕ)) (m : Seen) → Short m.1 → Short (own_names standing ds out xs m).1
  names_short standing ds out [] m s = s
  names_short standing ds out (x ∷ xs) m s = names_short standing ds out xs (own_name standing ds out x m) (name_short standing ds out x m s)

  one_remembered : (at : Site) (out : Sight) (d : Decl) (o : Option Const) (m : Seen) → LastShort o → Short m.1 → Short (remember k at out d o m).1
  one_remembered at out d None m h s = s
  one_remembered at out d (Some c) m h s =
      let e = over m.0 out d.name in
      both_short at (constant_value k c) e.value m.1 (constant_short k c h) s
    where
      both_short : (to : Site) (v : Value) (o : Option ℕ) (d : Sketch) → IsShort v → Short d → Short (with_eqn to (next d ∷ []) (register v (atom_of o)) d)
      both_short to v None d h s = eqn_short to (next d ∷ []) (register v (atom_of None)) d (h, (tt, tt)) s
      both_short to v (Some x) d h s = eqn_short to (next d ∷ []) (register v (atom_of (Some x))) d (h, tt) s

  all_remembered : (at : Site) (out : Sight) (ds : List Decl) (m : Seen) → LastsShort ds → Short m.1 → Short (remember_all k at out ds m).1
  all_remembered at out [] m h s = s
  all_remembered at out (d ∷ ds) m h s = all_remembered at out ds (remember k at out d d.last m) h.1 (one_remembered at out d d.last m h.0 s)

  -- ---- blocks

  reset_one : (c : Bool) (e f : Sketch) → Short e → Short f → Short (if c then e else f)
  reset_one true e f g h = g
  reset_one false e f g h = h

  mutual
    block_short : (b : Block) (standing : Standing) (out : Sight) (at : Site) (d : Sketch) → BlockShort b → Short d → Short (sketch_block k standing out at b d).1
    block_short (block ds es) standing out at d h s =
        let names = each_once [] (names_of_eqns es) in
        let m = block_layer k standing out at ds names d in
        eqns_short es (over m.0 out) at ds m.1 h.1 (all_remembered at out ds (own_names standing ds out names (declared k ds out, d)) h.0 (names_short standing ds out names (declared k ds out, d) s))

    eqns_short : (es : Eqns) (see : Sight) (at : Site) (ds : List Decl) (d : Sketch) → EqnsShort es → Short d → Short (sketch_eqns k see at ds es d)
    eqns_short no_eqn see at ds d h s = s
    eqns_short (more_eqns e es) see at ds d h s = eqns_short es see at ds (sketch_eqn k see at ds e d) h.1 (one_short e see at ds d h.0 s)

    one_short : (e : Eqn) (see : Sight) (at : Site) (ds : List Decl) (d : Sketch) → EqnShort e → Short d → Short (sketch_eqn k see at ds e d)
    one_short (define a ys e) see at ds d h s = let p = enter_path k see (path_for ds ys e) at d in right_short ys e see p.0 p.1 h (path_short (path_for ds ys e) see at d s)
    one_short (switch a e arms) see at ds d h s =
        let names = each_once [] (names_of_arms arms) in
        let t = sketch_expr k see at e d in
        arms_short arms see (over (hidden names see) see) at names t.1 t.0 h.1 (expr_short e see at d h.0 s)
    one_short (reset a b e) see at ds d h s =
        let names = each_once [] (names_of_block b) in
        let inside = over (hidden names see) see in
        let one = sketch_block k Inner inside at b d in
        let t = sketch_expr k see at e d in
        let two = sketch_block k Inner inside (in_block (restart_site at t.1)) b (with_flag None t.0) in
        reset_one (is_false e) (link_all see at one.0 names one.1) (link_all see at two.0 names (with_flag t.0.flag two.1))
        (links_short see at one.0 names one.1 (block_short b Inner inside at d h.1 s))
        (links_short see at two.0 names (with_flag t.0.flag two.1) (block_short b Inner inside (in_block (restart_site at t.1)) (with_flag None t.0) h.1 (expr_short e see at d h.0 s)))
    one_short (automaton a ss) see at ds d h s = s

    arms_short : (arms : Arms) (see inside : Sight) (at : Site) (names : List (List ℕ)) (t : ℕ) (d : Sketch) → ArmsShort arms → Short d → Short (sketch_arms k see inside at names t arms d)
    arms_short no_arm see inside at names t d h s = s
    arms_short (more_arms c b a arms) see inside at names t d h s =
        let on = on_site at t (cons_number k c) in
        let m = sketch_block k Inner inside (in_block on) b (with_flag None d) in
        arms_short arms see inside at names t (with_flag d.flag (link_all see on m.0 names m.1)) h.1 (links_short see on m.0 names m.1 (block_short b Inner inside (in_block on) (with_flag None d) h.0 s))

  -- ---- nodes

  signed_short : (ds : List Decl) (m : Seen) → Short m.1 → Short (signed k ds m).1
  signed_short [] m s = s
  signed_short (d ∷ ds) m s = signed_short ds _ s

  node_short : (n : Node) → NodeShort n → Short (sketch_node k n)
  node_short n h =
      let z = around_body k n in
      block_short n.body Body (over z.0 unknown) base_site z.1 h.1
      (all_remembered base_site unknown n.outputs (signature k n) h.0 (signed_short n.outputs _ (signed_short (controls_of n.contract) _ (signed_short n.inputs (no_entry, nothing_made) tt))))

to_unplaced : (es : List FlatEqn) → ConstantsShort es → ConstantsShort (map unplaced es)
to_unplaced [] h = tt
to_unplaced (e ∷ es) h = (h.0, to_unplaced es h.1)

from_unplaced : (es : List FlatEqn) → ConstantsShort (map unplaced es) → ConstantsShort es
from_unplaced [] h = tt
from_unplaced (e ∷ es) h = (h.0, from_unplaced es h.1)

pub made_short : (k : Known) (n : Node) (f : FlatNode) → IsMadeOf k n f → NodeShort n → ConstantsShort f.eqns
made_short k n f made h = from_unplaced f.eqns (subst ConstantsShort (sym made.eqns) (to_unplaced (sketch_node k n).eqns (node_short k n h)))

pub integers_short : (k : Known) (items : List Item) (fs : List FlatNode) → AreMadeOf k items fs → EachNode NodeShort items → AllByRecursion (λ (f : FlatNode). ConstantsShort f.eqns) fs
integers_short k [] [] made h = tt
integers_short k [] (f ∷ fs) made h = absurd made
integers_short k (TypeItem t ∷ items) fs made h = integers_short k items fs made h
integers_short k (NodeItem n ∷ items) [] made h = absurd made
integers_short k (NodeItem n ∷ items) (f ∷ fs) made h = (made_short k n f made.0 h.0, integers_short k items fs made.1 h.1)
