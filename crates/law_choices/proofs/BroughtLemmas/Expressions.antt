-- The events that are made of an expression bring the free places that its comparisons and calls bring.
use Rattle.std.proofs.Common.{◌≡◌, ℕ, Bool, true, false, if◌then◌else◌, List, [], ◌∷◌, ◌++◌, Option, None, Some, inl, inr, refl, sym, ap, subst, ◌∙◌}
use Rattle.std.specs.Prelude.{codes}
use Rattle.hp_base.specs.declared.ty.Const.{Const}
use Rattle.hp_base.specs.declared.ty.Ty.{Ty}
use Rattle.hp_base.specs.declared.ty.Ty.TheVariants as ty
use Rattle.hp_base.specs.Known.Known.{lookup}
use Rattle.hp_obc.specs.declared.command.ObcOp.TheVariants.{Mux}
use Rattle.hp_tree.specs.declared.expr.Op2.{Op2}
use Rattle.hp_tree.specs.declared.expr.Op2.TheVariants as op
use Rattle.hp_tree.specs.Blocks.{Decl}
use Rattle.hp_tree.specs.Expressions.{Expr, constant, variable, last_of, one, two, choose, pre, fby, arrow, when_is, merge, call, Exprs, no_expr, more_exprs, Parts, no_part, more_parts}
use Rattle.hp_typing.specs.Types.{type_of, type_of_one, types_in}
use Rattle.hp_flat.specs.declared.equation.Atom.{Atom}
use Rattle.hp_flat.specs.declared.equation.Atom.TheVariants.{Variable}
use Rattle.hp_flat.specs.declared.node.FlatTy.TheVariants as flat
use Rattle.hp_flat.specs.declared.node.FlatTy.{FlatTy}
use Rattle.hp_flat.specs.Equations.{Right, operator, register, called as call_of}
use Rattle.law_judged.specs.Typed.Scopes.{Scope}
use Rattle.law_values.proofs.ValuedLemmas.Typed.{PartsHave, call_typed, if_typed, merge_typed, one_typed, pair_typed, two_typed, when_typed}
use Rattle.law_equations.specs.Flattened.Flatten.{constant_in, is_false, obc_one, obc_two}
use Rattle.law_equations.specs.Made.Making.{Known, Sketch, Site, Sight, Made, next, with_new, with_outputs, value_of, type_of_value, constant_value, type_one, type_two, type_at, first_value, register_at, flag_at, fby_at, by_constant, tested, or_new, part_at, merged_variable, on_site, off_site, cons_number, flat_type, outputs_of, numbers_from, called_at, first_output, copy_of, atom_of, sketch_expr, sketch_parts, sketch_exprs}
use Rattle.law_wellmade.proofs.BegunLemmas.Keeping.{HasType, expr_keeps, flag_keeps, moved, outputs_keep, part_keeps, value_keeps, value_typed}
use Rattle.law_wellmade.proofs.BegunLemmas.Typing.{ExprsHave, Grounded, SeesTypes, args_have, typed}
use Rattle.law_wellmade.proofs.RegularLemmas.Expressions.{called_typed}
use Rattle.hp_watch.specs.Walk.{compares, is_event}
use Rattle.law_choices.proofs.BroughtLemmas.Brought.{brought, brought_by, brought_in_all, brought_in_parts, of_compared}
use Rattle.law_choices.proofs.BroughtLemmas.Adding.{Adding, adding-event, adding-more, adding-none, adding-two, brought-as, keeps-first, keeps-merged, keeps-same, keeps-tested, quiet}
use Rattle.law_choices.proofs.PlacesLemmas.Adding.{Adds, adds-flag, adds-merged, adds-more, adds-none, adds-outputs, adds-quiet, adds-tested, adds-value, compares-same, quiet-one}

-- what compares gives a truth value
two-truth : (o : Op2) → compares o ≡ true → type_two o ≡ flat.Bool
two-truth op.Eq h = refl
two-truth op.Ne h = refl
two-truth op.Lt h = refl
two-truth op.Le h = refl
two-truth op.Gt h = refl
two-truth op.Ge h = refl
two-truth op.And h = refl
two-truth op.Or h = refl
two-truth op.Xor h = refl
two-truth op.Imp h = refl
two-truth op.Add h = absurd cc
two-truth op.Sub h = absurd cc
two-truth op.Mul h = absurd cc
two-truth op.Div h = absurd cc
two-truth op.Rem h = absurd cc

module _ (given : List ℕ → List Ty) where
  -- constants bring nothing
  constant-none : (s : Scope) (e : Expr) (c : Const) → constant_in e ≡ Some c → brought given s e ≡ []
  constant-none s (constant a x) c h = refl
  constant-none s (variable a x) c h = absurd cc
  constant-none s (last_of a x) c h = absurd cc
  constant-none s (one a o b) c h = absurd cc
  constant-none s (two a o b d) c h = absurd cc
  constant-none s (choose a b d e) c h = absurd cc
  constant-none s (pre a b) c h = absurd cc
  constant-none s (fby a b d) c h = absurd cc
  constant-none s (arrow a b d) c h = absurd cc
  constant-none s (when_is a b d x) c h = absurd cc
  constant-none s (merge a x ps) c h = absurd cc
  constant-none s (call a f i es) c h = absurd cc

  pub false-none : (s : Scope) (e : Expr) → is_false e ≡ true → brought given s e ≡ []
  false-none s (constant a x) h = refl
  false-none s (variable a x) h = absurd cc
  false-none s (last_of a x) h = absurd cc
  false-none s (one a o b) h = absurd cc
  false-none s (two a o b d) h = absurd cc
  false-none s (choose a b d e) h = absurd cc
  false-none s (pre a b) h = absurd cc
  false-none s (fby a b d) h = absurd cc
  false-none s (arrow a b d) h = absurd cc
  false-none s (when_is a b d x) h = absurd cc
  false-none s (merge a x ps) h = absurd cc
  false-none s (call a f i es) h = absurd cc

module _ (given : List ℕ → List Ty) (k : Known) where
  abbrev To : Sketch → Sketch → List (List Ty) → Type 0
  To d e ls = Adding given k d e ls

  -- an operator of two operands, which may be a comparison
  brings-two : (at : Site) (o : Op2) (a b : ℕ) (t : Ty) (u : Option Ty) (d : Sketch) → HasType d a (flat_type k.types t) → u ≡ Some t → To d (value_of at (type_two o) (operator (obc_two o) (Variable a ∷ Variable b ∷ [])) d).0 (brought_by given o u)
  brings-two at o a b t u d h e = by (compares o) refl (compares-same o)
    where
      by : (c : Bool) → compares o ≡ c → is_event (operator (obc_two o) (Variable a ∷ Variable b ∷ [])) ≡ compares o → To d (value_of at (type_two o) (operator (obc_two o) (Variable a ∷ Variable b ∷ [])) d).0 (if c then of_compared u ∷ [] else [])
      by true q r =
          let right = operator (obc_two o) (Variable a ∷ Variable b ∷ []) in
          let m = value_of at (type_two o) right d in
          let keeps = value_keeps at (type_two o) right d in
          let x = adding-event given k at (next d ∷ []) right (with_new (codes "e") (type_two o) d) (of_compared u) (r ∙ q)
          (inl (record {
            op = obc_two o;
            first = a;
            second = Variable b;
            right = refl;
            type = t;
            typed = moved d m.0 a (flat_type k.types t) keeps h;
            target = next d;
            targets = refl;
            truth = subst (HasType m.0 (next d)) (two-truth o q) (value_typed at (type_two o) right d);
            brings = ap of_compared e;
          })) in
          record { more = x.more; eqns = x.eqns; keeps = keeps; events = x.events }
      by false q r =
          let right = operator (obc_two o) (Variable a ∷ Variable b ∷ []) in
          quiet given k d (value_of at (type_two o) right d).0 (adds-value at (type_two o) right d (r ∙ q)) (value_keeps at (type_two o) right d)

  -- a call
  pub brings-call : (at : Site) (f : List ℕ) (args : List Atom) (d : Sketch) → To d (called_at k at f args (outputs_of (k.nodes f)) d).0 (given f ∷ [])
  brings-call at f args d =
      let os = outputs_of (k.nodes f) in
      let e = with_outputs k os d in
      let c = called_at k at f args os d in
      adding-two given k d e c.0 [] (given f ∷ []) (quiet given k d e (adds-outputs k os d) (outputs_keep k os d))
      (adding-event given k at (numbers_from (next d) os) (call_of f args) e (given f) refl
      (inr (record { callee = f; args = args; right = refl; from = next d; targets = refl; typed = called_typed [] k at f args os d; brings = refl })))

  first-adds : (at : Site) (os : List Decl) (m : Made) → Adds m.0 (first_output at os m).0 []
  first-adds at [] m = adds-none m.0 (first_output at [] m).0 refl
  first-adds at (o ∷ os) m = adds-value at (type_at m.0 m.1) (copy_of (atom_of (Some m.1))) m.0 refl

  part-adds : (at : Site) (o : Option ℕ) (e : Made) → Adds e.0 (part_at at o e).0 []
  part-adds at o e =
      let m = merged_variable o (type_at e.0 e.1) e.0 in
      adds-more e.0 m.0 (part_at at o e).0 [] (adds-merged o (type_at e.0 e.1) e.0) (adds-quiet at (m.1 ∷ []) (copy_of (Variable e.1)) m.0 refl)

  -- a new variable with an equation that is no event
  value-more : (d e : Sketch) (at : Site) (t : FlatTy) (right : Right) (ls : List (List Ty)) → is_event right ≡ false → To d e ls → To d (value_of at t right e).0 ls
  value-more d e at t right ls h a = adding-more given k d e (value_of at t right e).0 ls a (adds-value at t right e h) (value_keeps at t right e)

  flag-more : (d e : Sketch) (at : Site) (ls : List (List Ty)) → To d e ls → To d (flag_at at e).0 ls
  flag-more d e at ls a = adding-more given k d e (flag_at at e).0 ls a (adds-flag at e) (flag_keeps at e)

  module _ (s : Scope) (see : Sight) (ground : Grounded k s) (sees : SeesTypes k s see) where
    abbrev OfExpr : Expr → Type 0
    OfExpr e = (t : Ty) (at : Site) (d : Sketch) → type_of s e ≡ Some t → To d (sketch_expr k see at e d).0 (brought given s e)

    fby-brings : (a b : Expr) → OfExpr a → OfExpr b → (t : Ty) (at : Site) (d : Sketch) (o : Option Const) → constant_in a ≡ o → type_of s a ≡ Some t → type_of s b ≡ Some t
        → To d (by_constant o (let x = sketch_expr k see at a d in fby_at at x.1 (sketch_expr k see at b x.0)) (λ c. let y = sketch_expr k see at b d in register_at at (constant_value k c) y.1 y.0)).0 (brought given s a ++ brought given s b)
    fby-brings a b ha hb t at d None e p q =
        let x = sketch_expr k see at a d in
        let y = sketch_expr k see at b x.0 in
        let ls = brought given s a ++ brought given s b in
        let r = register_at at (first_value (type_at y.0 y.1)) y.1 y.0 in
        let g = flag_at at r.0 in
        value-more d g.0 at (type_at g.0 x.1) (operator Mux (Variable g.1 ∷ Variable x.1 ∷ Variable r.1 ∷ [])) ls refl
        (flag-more d r.0 at ls
        (value-more d y.0 at (type_at y.0 y.1) (register (first_value (type_at y.0 y.1)) (Variable y.1)) ls refl (adding-two given k d x.0 y.0 (brought given s a) (brought given s b) (ha t at d p) (hb t at x.0 q))))
    fby-brings a b ha hb t at d (Some c) e p q =
        let y = sketch_expr k see at b d in
        let ls = brought given s b in
        brought-as given k d (register_at at (constant_value k c) y.1 y.0).0 ls (brought given s a ++ ls) (ap (λ ms. ms ++ ls) (sym (constant-none given s a c e)))
        (value-more d y.0 at (type_at y.0 y.1) (register (constant_value k c) (Variable y.1)) ls refl (hb t at d q))

    mutual
      pub expr-brings : (e : Expr) → OfExpr e
      expr-brings (constant a c) t at d h = value-more d d at (type_of_value (constant_value k c)) _ [] refl (adding-none given k d d refl (keeps-same d))
      expr-brings (variable a x) t at d h = value-more d d at (see x).ty (copy_of (atom_of (see x).value)) [] refl (adding-none given k d d refl (keeps-same d))
      expr-brings (last_of a x) t at d h = value-more d d at (see x).ty (copy_of (atom_of (see x).last)) [] refl (adding-none given k d d refl (keeps-same d))
      expr-brings (one a o b) t at d h =
          let x = sketch_expr k see at b d in
          value-more d x.0 at (type_one o) (operator (obc_one o) (Variable x.1 ∷ [])) (brought given s b) (quiet-one o) (expr-brings b (type_of_one o) at d (one_typed (type_of_one o) (type_of s b) t h).0)
      expr-brings (two a o b c) t at d h =
          let x = sketch_expr k see at b d in
          let y = sketch_expr k see at c x.0 in
          let q = two_typed o (type_of s b) (type_of s c) t h in
          let z = value_of at (type_two o) (operator (obc_two o) (Variable x.1 ∷ Variable y.1 ∷ [])) y.0 in
          let first = moved x.0 y.0 x.1 (flat_type k.types q.0) (expr_keeps k c see at x.0) (typed k s see ground sees b q.0 at d q.2) in
          adding-two given k d x.0 z.0 (brought given s b) (brought given s c ++ brought_by given o (type_of s b)) (expr-brings b q.0 at d q.2)
          (adding-two given k x.0 y.0 z.0 (brought given s c) (brought_by given o (type_of s b)) (expr-brings c q.0 at x.0 q.3) (brings-two at o x.1 y.1 q.0 (type_of s b) y.0 first q.2))
      expr-brings (choose a b c e) t at d h =
          let x = sketch_expr k see at b d in
          let y = sketch_expr k see at c x.0 in
          let z = sketch_expr k see at e y.0 in
          let q = if_typed (type_of s b) (type_of s c) (type_of s e) t h in
          value-more d z.0 at (type_at z.0 y.1) (operator Mux (Variable x.1 ∷ Variable y.1 ∷ Variable z.1 ∷ [])) (brought given s b ++ (brought given s c ++ brought given s e)) refl
          (adding-two given k d x.0 z.0 (brought given s b) (brought given s c ++ brought given s e) (expr-brings b ty.Bool at d q.0)
          (adding-two given k x.0 y.0 z.0 (brought given s c) (brought given s e) (expr-brings c t at x.0 q.1) (expr-brings e t at y.0 q.2)))
      expr-brings (pre a b) t at d h =
          let x = sketch_expr k see at b d in
          value-more d x.0 at (type_at x.0 x.1) (register (first_value (type_at x.0 x.1)) (Variable x.1)) (brought given s b) refl (expr-brings b t at d h)
      expr-brings (fby a b c) t at d h = let q = pair_typed (type_of s b) (type_of s c) t h in fby-brings b c (expr-brings b) (expr-brings c) t at d (constant_in b) refl q.0 q.1
      expr-brings (arrow a b c) t at d h =
          let x = sketch_expr k see at b d in
          let y = sketch_expr k see at c x.0 in
          let ls = brought given s b ++ brought given s c in
          let g = flag_at at y.0 in
          let q = pair_typed (type_of s b) (type_of s c) t h in
          value-more d g.0 at (type_at g.0 x.1) (operator Mux (Variable g.1 ∷ Variable x.1 ∷ Variable y.1 ∷ [])) ls refl
          (flag-more d y.0 at ls (adding-two given k d x.0 y.0 (brought given s b) (brought given s c) (expr-brings b t at d q.0) (expr-brings c t at x.0 q.1)))
      expr-brings (when_is a b c x) t at d h =
          let y = sketch_expr k see (off_site at) b d in
          value-more d y.0 at (type_at y.0 y.1) (copy_of (atom_of (Some y.1))) (brought given s b) refl (expr-brings b t (off_site at) d (when_typed _ _ t h))
      expr-brings (merge a x ps) t at d h =
          let v = tested (see x).value d in
          let m = sketch_parts k see at v.1 None ps v.0 in
          adding-more given k d m.0 (or_new m).0 (brought_in_parts given s ps)
          (adding-two given k d v.0 m.0 [] (brought_in_parts given s ps) (quiet given k d v.0 (adds-tested (see x).value d) (keeps-tested (see x).value d)) (parts-bring ps t at v.1 None v.0 (merge_typed s (lookup s.variables x) ps t h)))
          (adds-merged m.1 flat.Bool m.0) (keeps-merged m.1 flat.Bool m.0)
      expr-brings (call a f i es) t at d h =
          let args = sketch_exprs k see at es d in
          let os = outputs_of (k.nodes f) in
          let c = called_at k at f args.1 os args.0 in
          let q = call_typed (lookup s.nodes f) (types_in s es) t h in
          adding-more given k d c.0 (first_output at os c).0 (brought_in_all given s es ++ given f ∷ [])
          (adding-two given k d args.0 c.0 (brought_in_all given s es) (given f ∷ []) (exprs-bring es at d (args_have s q.0.inputs es q.2)) (brings-call at f args.1 args.0))
          (first-adds at os c) (keeps-first at os c)

      parts-bring : (ps : Parts) (t : Ty) (at : Site) (v : ℕ) (o : Option ℕ) (d : Sketch) → PartsHave s t ps → To d (sketch_parts k see at v o ps d).0 (brought_in_parts given s ps)
      parts-bring no_part t at v o d h = adding-none given k d d refl (keeps-same d)
      parts-bring (more_parts c e ps) t at v o d h =
          let on = on_site at v (cons_number k c) in
          let x = sketch_expr k see on e d in
          let m = part_at on o x in
          adding-two given k d m.0 (sketch_parts k see at v (Some m.1) ps m.0).0 (brought given s e) (brought_in_parts given s ps)
          (adding-more given k d x.0 m.0 (brought given s e) (expr-brings e t on d h.0) (part-adds on o x) (part_keeps on o x)) (parts-bring ps t at v (Some m.1) m.0 h.1)

      pub exprs-bring : (es : Exprs) (at : Site) (d : Sketch) → ExprsHave s es → To d (sketch_exprs k see at es d).0 (brought_in_all given s es)
      exprs-bring no_expr at d h = adding-none given k d d refl (keeps-same d)
      exprs-bring (more_exprs e es) at d h =
          let x = sketch_expr k see at e d in
          adding-two given k d x.0 (sketch_exprs k see at es x.0).0 (brought given s e) (brought_in_all given s es) (expr-brings e h.0.0 at d h.0.1) (exprs-bring es at x.0 h.1)
