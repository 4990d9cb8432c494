-- What is made of an expression defines each variable that it makes.
use Rattle.std.proofs.Common.{◌≡◌, ℕ, ◌+◌, List, [], ◌∷◌, length, Option, None, Some, refl, sym, ap, subst, ◌∙◌, arith}
use Rattle.std.specs.Prelude.{codes}
use Rattle.std.proofs.lemmas.List.{length-append}
use Rattle.hp_base.specs.declared.ty.Ty.{Ty}
use Rattle.hp_base.specs.declared.ty.Ty.TheVariants as ty
use Rattle.hp_base.specs.declared.ty.Const.{Const}
use Rattle.hp_tree.specs.declared.decl.Cons.{Cons}
use Rattle.hp_tree.specs.Expressions.{Expr, constant, variable, last_of, one, two, choose, pre, fby, arrow, when_is, merge, call, Exprs, no_expr, more_exprs, Parts, no_part, more_parts}
use Rattle.hp_tree.specs.Blocks.{Decl}
use Rattle.hp_tree.specs.Programs.{TypeDecl, Node}
use Rattle.hp_base.specs.Known.Known.{lookup}
use Rattle.hp_typing.specs.Types.{type_of, types_in, type_of_one, merge_type}
use Rattle.law_judged.specs.Typed.Scopes.{Scope}
use Rattle.law_values.specs.Valued.Judged.{Lasts, ExprSound, ExprsSound, PartsSound, CoversType, of_parts}
use Rattle.law_values.proofs.ValuedLemmas.Typed.{one_typed, two_typed, if_typed, pair_typed, when_typed, call_typed, PartsHave, merge_typed}
use Rattle.hp_flat.specs.declared.equation.Atom.{Atom}
use Rattle.hp_flat.specs.declared.equation.Atom.TheVariants.{Variable}
use Rattle.hp_flat.specs.declared.node.FlatTy.TheVariants as flat
use Rattle.hp_flat.specs.Equations.{called}
use Rattle.law_equations.specs.Flattened.Flatten.{constant_in}
use Rattle.law_equations.specs.Made.Making.{Known, Sketch, Site, Sight, Made, next, with_new, by_constant, tested, off_site, on_site, cons_number, copy_of, type_at, first_value, constant_value, flat_type, register_at, flag_at, fby_at, arrow_at, outputs_of, numbers_from, with_outputs, called_at, first_output, merged_variable, part_at, or_new, sketch_expr, sketch_parts, sketch_exprs}
use Rattle.law_wellmade.proofs.BegunLemmas.Typing.{Grounded, ExprsHave, args_have, call_outputs}
use Rattle.law_choices.proofs.ClosedLemmas.Filling.{Fills, same, both, behind_bare, eqn_fills, eqn_target, named_fills, value_fills, read_fills, flag_fills, has_numbers}

-- there is a variable
abbrev pub HasVariable : Option ℕ → Type 0
HasVariable o = (y : ℕ) × (o ≡ Some y)

pub has_type : (o : Option Ty) (types : List TypeDecl) (cs : List Cons) → CoversType types o cs → (u : Ty) × (o ≡ Some u)
has_type None types cs h = absurd h
has_type (Some u) types cs h = (u, refl)

part_fills : (at : Site) (o : Option ℕ) (m : Made) → Fills m.0 (part_at at o m).0
part_fills at None m = named_fills at (codes "e") (type_at m.0 m.1) (copy_of (Variable m.1)) m.0
part_fills at (Some x) m = eqn_fills at (x ∷ []) (copy_of (Variable m.1)) m.0

merged_fills : (m : Sketch × Option ℕ) → HasVariable m.1 → Fills m.0 (or_new m).0
merged_fills m h = subst (λ o. Fills m.0 (merged_variable o flat.Bool m.0).0) (sym h.1) (same m.0)

fby_fills : (at : Site) (a : ℕ) (b : Made) → Fills b.0 (fby_at at a b).0
fby_fills at a b =
    let held = register_at at (first_value (type_at b.0 b.1)) b.1 b.0 in
    let flag = flag_at at held.0 in
    both b.0 held.0 (fby_at at a b).0 (value_fills at _ _ b.0) (both held.0 flag.0 (fby_at at a b).0 (flag_fills at held.0) (value_fills at _ _ flag.0))

arrow_fills : (at : Site) (a : ℕ) (b : Made) → Fills b.0 (arrow_at at a b).0
arrow_fills at a b =
    let flag = flag_at at b.0 in
    both b.0 flag.0 (arrow_at at a b).0 (flag_fills at b.0) (value_fills at _ _ flag.0)

by_fills : (c : Option Const) (d : Sketch) (m : Made) (f : Const → Made) → Fills d m.0 → ((c : Const) → Fills d (f c).0) → Fills d (by_constant c m f).0
by_fills None d m f g h = g
by_fills (Some c) d m f g h = h c

first_fills : (at : Site) (os : List Decl) (o : Decl) (m : Made) → os ≡ o ∷ [] → Fills m.0 (first_output at os m).0
first_fills at os o m is = subst (λ z. Fills m.0 (first_output at z m).0) (sym is) (read_fills at (Some m.1) (type_at m.0 m.1) m.0)

module _ (k : Known) where
  outputs_long : (os : List Decl) (d : Sketch) → next (with_outputs k os d) ≡ next d + length os
  outputs_long [] d = omega arith
  outputs_long (o ∷ os) d =
      let e = with_new o.name (flat_type k.types o.ty) d in
      let long : next e ≡ next d + 1 = length-append d.variables _ in
      let rest = outputs_long os e in
      omega (arith, long, rest)

  pub outputs_bare : (os : List Decl) (d : Sketch) → (with_outputs k os d).eqns ≡ d.eqns
  outputs_bare [] d = refl
  outputs_bare (o ∷ os) d = outputs_bare os (with_new o.name (flat_type k.types o.ty) d)

  pub called_fills : (at : Site) (f : List ℕ) (args : List Atom) (os : List Decl) (d : Sketch) → Fills d (called_at k at f args os d).0
  called_fills at f args os d =
      let e = with_outputs k os d in
      let long = outputs_long os d in
      behind_bare d e (called_at k at f args os d).0 (omega (arith, long)) (outputs_bare os d) (eqn_fills at (numbers_from (next d) os) (called f args) e)
      (λ x l u. eqn_target at (numbers_from (next d) os) (called f args) e x (has_numbers (next d) os x l (omega (arith, long, u))))

  -- the variable of a merge, once it has one
  parts_keep : (see : Sight) (at : Site) (t v : ℕ) (ps : Parts) (d : Sketch) → HasVariable (sketch_parts k see at t (Some v) ps d).1
  parts_keep see at t v no_part d = (v, refl)
  parts_keep see at t v (more_parts c e ps) d =
      let on = on_site at t (cons_number k c) in
      let m = part_at on (Some v) (sketch_expr k see on e d) in
      parts_keep see at t m.1 ps m.0

  parts_have_one : (see : Sight) (at : Site) (t : ℕ) (c : Cons) (e : Expr) (ps : Parts) (d : Sketch) → HasVariable (sketch_parts k see at t None (more_parts c e ps) d).1
  parts_have_one see at t c e ps d =
      let on = on_site at t (cons_number k c) in
      let m = part_at on None (sketch_expr k see on e d) in
      parts_keep see at t m.1 ps m.0

  module _ (types : List TypeDecl) (among : List ℕ → Option Node) (s : Scope) (lasts : Lasts) (see : Sight) (ground : Grounded k s) (values : (x : List ℕ) (t : Ty) → lookup s.variables x ≡ Some t → HasVariable (see x).value) where
    merge_one : (ps : Parts) (name : Option Ty) (t : Ty) (at : Site) (v : ℕ) (d : Sketch) → merge_type s name ps ≡ Some t → HasVariable (sketch_parts k see at v None ps d).1
    merge_one no_part name t at v d h = absurd cc
    merge_one (more_parts c e ps) name t at v d h = parts_have_one see at v c e ps d

    mutual
      pub expr_fills : (e : Expr) (t : Ty) (at : Site) (d : Sketch) → type_of s e ≡ Some t → ExprSound types among s lasts e → Fills d (sketch_expr k see at e d).0
      expr_fills (constant a c) t at d h ok = value_fills at _ _ d
      expr_fills (variable a x) t at d h ok = read_fills at (see x).value (see x).ty d
      expr_fills (last_of a x) t at d h ok = read_fills at (see x).last (see x).ty d
      expr_fills (one a o b) t at d h ok =
          let x = sketch_expr k see at b d in
          let q = one_typed (type_of_one o) (type_of s b) t h in
          both d x.0 _ (expr_fills b (type_of_one o) at d q.0 ok) (value_fills at _ _ x.0)
      expr_fills (two a o b c) t at d h ok =
          let x = sketch_expr k see at b d in
          let y = sketch_expr k see at c x.0 in
          let q = two_typed o (type_of s b) (type_of s c) t h in
          both d x.0 _ (expr_fills b q.0 at d q.2 ok.0) (both x.0 y.0 _ (expr_fills c q.0 at x.0 q.3 ok.1) (value_fills at _ _ y.0))
      expr_fills (choose a b c e) t at d h ok =
          let x = sketch_expr k see at b d in
          let y = sketch_expr k see at c x.0 in
          let z = sketch_expr k see at e y.0 in
          let q = if_typed (type_of s b) (type_of s c) (type_of s e) t h in
          both d x.0 _ (expr_fills b ty.Bool at d q.0 ok.0) (both x.0 y.0 _ (expr_fills c t at x.0 q.1 ok.1.0) (both y.0 z.0 _ (expr_fills e t at y.0 q.2 ok.1.1) (value_fills at _ _ z.0)))
      expr_fills (pre a b) t at d h ok = let x = sketch_expr k see at b d in both d x.0 _ (expr_fills b t at d h ok) (value_fills at _ _ x.0)
      expr_fills (fby a b c) t at d h ok =
          let x = sketch_expr k see at b d in
          let y = sketch_expr k see at c x.0 in
          let z = sketch_expr k see at c d in
          let q = pair_typed (type_of s b) (type_of s c) t h in
          by_fills (constant_in b) d _ _ (both d x.0 _ (expr_fills b t at d q.0 ok.0) (both x.0 y.0 _ (expr_fills c t at x.0 q.1 ok.1) (fby_fills at x.1 y)))
          (λ f. both d z.0 (register_at at (constant_value k f) z.1 z.0).0 (expr_fills c t at d q.1 ok.1) (value_fills at _ _ z.0))
      expr_fills (arrow a b c) t at d h ok =
          let x = sketch_expr k see at b d in
          let y = sketch_expr k see at c x.0 in
          let q = pair_typed (type_of s b) (type_of s c) t h in
          both d x.0 _ (expr_fills b t at d q.0 ok.0) (both x.0 y.0 _ (expr_fills c t at x.0 q.1 ok.1) (arrow_fills at x.1 y))
      expr_fills (when_is a b c x) t at d h ok =
          let y = sketch_expr k see (off_site at) b d in
          both d y.0 _ (expr_fills b t (off_site at) d (when_typed _ _ t h) ok) (read_fills at (Some y.1) (type_at y.0 y.1) y.0)
      expr_fills (merge a x ps) t at d h ok =
          let u = has_type (lookup s.variables x) types (of_parts ps) ok.0 in
          let r = values x u.0 u.1 in
          subst (λ o. let z = tested o d in Fills d (or_new (sketch_parts k see at z.1 None ps z.0)).0) (sym r.1)
          (both d (sketch_parts k see at r.0 None ps d).0 _ (parts_fill ps t at r.0 None d (merge_typed s (lookup s.variables x) ps t h) ok.1) (merged_fills (sketch_parts k see at r.0 None ps d) (merge_one ps (lookup s.variables x) t at r.0 d h)))
      expr_fills (call a f i es) t at d h ok =
          let q = call_typed (lookup s.nodes f) (types_in s es) t h in
          let w = call_outputs (lookup s.nodes f) (types_in s es) t h in
          let os = outputs_of (k.nodes f) in
          let is : os ≡ w.2.0 ∷ [] = ap outputs_of (ground.nodes f w.0 w.1) ∙ w.2.1 in
          let args = sketch_exprs k see at es d in
          let c = called_at k at f args.1 os args.0 in
          both d args.0 _ (exprs_fill es at d (args_have s q.0.inputs es q.2) ok.1) (both args.0 c.0 _ (called_fills at f args.1 os args.0) (first_fills at os w.2.0 c is))

      pub exprs_fill : (es : Exprs) (at : Site) (d : Sketch) → ExprsHave s es → ExprsSound types among s lasts es → Fills d (sketch_exprs k see at es d).0
      exprs_fill no_expr at d h ok = same d
      exprs_fill (more_exprs e es) at d h ok = let x = sketch_expr k see at e d in both d x.0 _ (expr_fills e h.0.0 at d h.0.1 ok.0) (exprs_fill es at x.0 h.1 ok.1)

      parts_fill : (ps : Parts) (t : Ty) (at : Site) (x : ℕ) (o : Option ℕ) (d : Sketch) → PartsHave s t ps → PartsSound types among s lasts ps → Fills d (sketch_parts k see at x o ps d).0
      parts_fill no_part t at x o d h ok = same d
      parts_fill (more_parts c e ps) t at x o d h ok =
          let on = on_site at x (cons_number k c) in
          let n = sketch_expr k see on e d in
          let p = part_at on o n in
          both d n.0 _ (expr_fills e t on d h.0 ok.0) (both n.0 p.0 _ (part_fills on o n) (parts_fill ps t at x (Some p.1) p.0 h.1 ok.1))
