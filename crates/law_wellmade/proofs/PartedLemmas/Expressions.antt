-- The equations of an expression define new variables, and are apart.
use Rattle.std.proofs.Common.{◌≡◌, inl, ℕ, ◌+◌, ◌<◌, Bool, true, false, nat_eq, ◌||◌, List, [], ◌∷◌, ◌++◌, length, Option, None, Some, refl, sym, subst, arith}
use Rattle.std.specs.Prelude.{codes}
use Rattle.std.proofs.lemmas.List.{length-append}
use Rattle.std.proofs.lemmas.Bool.{eq-eqb}
use Rattle.hp_base.specs.declared.ty.Const.{Const}
use Rattle.hp_tree.specs.declared.decl.Cons.{Cons}
use Rattle.hp_tree.specs.Expressions.{Expr, constant, variable, last_of, one, two, choose, pre, fby, arrow, when_is, merge, call, Exprs, no_expr, more_exprs, Parts, no_part, more_parts}
use Rattle.hp_tree.specs.Blocks.{Decl}
use Rattle.hp_tree.specs.Programs.{TypeDecl}
use Rattle.hp_base.specs.Known.Known.{lookup}
use Rattle.law_judged.specs.Typed.Scopes.{Scope}
use Rattle.law_values.specs.Valued.Judged.{of_parts}
use Rattle.hp_flat.specs.declared.equation.Atom.{Atom}
use Rattle.hp_flat.specs.declared.equation.Atom.TheVariants.{Variable}
use Rattle.hp_flat.specs.Equations.{Clock, called}
use Rattle.law_equations.specs.Meaning.Reactions.{has}
use Rattle.law_equations.specs.Flattened.Flatten.{constant_in}
use Rattle.law_equations.specs.Made.Making.{Known, Sketch, Site, Sight, Made, next, with_new, with_eqn, by_constant, tested, off_site, on_site, cons_number, copy_of, type_at, first_value, constant_value, flat_type, register_at, flag_at, fby_at, arrow_at, outputs_of, numbers_from, with_outputs, called_at, enter_path, sketch_expr, sketch_parts, sketch_exprs}
use Rattle.law_equations.specs.Made.Standing.{Knows}
use Rattle.law_wellmade.specs.Timely.Tested.{ConstructorsDiffer, ExprTested, ExprsTested, PartsTested}
use Rattle.law_equations.specs.Shaped.Shaped.{Part}
use Rattle.law_wellmade.proofs.PartedLemmas.Adding.{Nothing, IsNew, Adds, same, then-adds, behind-bare, new-then, both, one-adds, target-adds, value-adds, read-adds, flag-adds, tested-adds, merged-adds, first-adds, numbers-between, part-behind}
use Rattle.law_wellmade.proofs.PartedLemmas.Numbers.{NumbersDiffer, numbers, other-number, numbers-differ}

-- The variable of a `merge` may be defined on the clocks of its parts.
abbrev OnPart : ℕ → Clock → ℕ → List ℕ → ℕ → Clock → Type 0
OnPart m clock t js x c = (x ≡ m) × ((j : ℕ) × ((has js j ≡ true) × (c ≡ clock ++ (t, j) ∷ [])))

pub has-first : (j : ℕ) (js : List ℕ) → has (j ∷ js) j ≡ true
has-first j js = by (nat_eq j j) (eq-eqb j j refl)
  where
    by : (b : Bool) → b ≡ true → (b || has js j) ≡ true
    by true e = refl
    by false e = absurd cc

pub has-more : (i j : ℕ) (js : List ℕ) → has js j ≡ true → has (i ∷ js) j ≡ true
has-more i j js h = by (nat_eq i j)
  where
    by : (b : Bool) → (b || has js j) ≡ true
    by true = refl
    by false = h

-- one part, and then the others
part_then : (m : ℕ) (at : Site) (t i : ℕ) (js : List ℕ) (e : ℕ) (d f : Sketch) → m < next d → has js i ≡ false → Adds (OnPart m at.clock t js) (with_eqn (on_site at t i) (m ∷ []) (copy_of (Variable e)) d) f
    → Adds (OnPart m at.clock t (i ∷ js)) d f
part_then m at t i js e d f l n rest =
    then-adds (λ x c. (x ≡ m) × (c ≡ at.clock ++ (t, i) ∷ [])) (OnPart m at.clock t js) (OnPart m at.clock t (i ∷ js)) d (with_eqn (on_site at t i) (m ∷ []) (copy_of (Variable e)) d) f
    (target-adds (λ x c. (x ≡ m) × (c ≡ at.clock ++ (t, i) ∷ [])) (on_site at t i) m (copy_of (Variable e)) d (refl, refl))
    rest
    (λ x c h. let is = h.0 in (omega (arith, l, is), (is, (i, (has-first i js, h.1)))))
    (λ x c h. let is = h.0 in (omega (arith, l, is), (is, (h.1.0, (has-more i h.1.0 js h.1.1.0, h.1.1.1)))))
    (λ x b c h g. subst (λ b. Part b c) (sym h.1) (subst (λ c. Part (at.clock ++ (t, i) ∷ []) c) (sym g.1.1.1) (part-behind at.clock t i g.1.0 (other-number js i g.1.0 n g.1.1.0))))

module _ (types : List TypeDecl) (differ : ConstructorsDiffer types) (outputs : List ℕ → List (List ℕ)) (k : Known) (knows : Knows types outputs k) where
  outs_grown : (os : List Decl) (d : Sketch) → next (with_outputs k os d) ≡ next d + length os
  outs_grown [] d = omega arith
  outs_grown (o ∷ os) d =
      let e = with_new o.name (flat_type k.types o.ty) d in
      let long : next e ≡ next d + 1 = length-append d.variables _ in
      let rest = outs_grown os e in
      omega (arith, long, rest)

  outs_bare : (os : List Decl) (d : Sketch) → (with_outputs k os d).eqns ≡ d.eqns
  outs_bare [] d = refl
  outs_bare (o ∷ os) d = outs_bare os (with_new o.name (flat_type k.types o.ty) d)

  pub called-adds : (at : Site) (f : List ℕ) (args : List Atom) (os : List Decl) (d : Sketch) → Adds Nothing d (called_at k at f args os d).0
  called-adds at f args os d =
      let e = with_outputs k os d in
      let long = outs_grown os d in
      let Out : ℕ → Clock → Type 0 = λ x c. IsNew d e x in
      behind-bare Out Nothing d e (called_at k at f args os d).0 (omega (arith, long)) (outs_bare os d)
      (one-adds Out at (numbers_from (next d) os) (called f args) e (λ x t. let r = numbers-between (next d) os x t in let u = r.1 in (r.0, omega (arith, long, u))))
      (λ x c h. inl h)

  fby_adds : (at : Site) (a : ℕ) (b : Made) → Adds Nothing b.0 (fby_at at a b).0
  fby_adds at a b =
      let held = register_at at (first_value (type_at b.0 b.1)) b.1 b.0 in
      let flag = flag_at at held.0 in
      both b.0 held.0 (fby_at at a b).0 (value-adds at _ _ b.0) (both held.0 flag.0 (fby_at at a b).0 (flag-adds at held.0) (value-adds at _ _ flag.0))

  arrow_adds : (at : Site) (a : ℕ) (b : Made) → Adds Nothing b.0 (arrow_at at a b).0
  arrow_adds at a b =
      let flag = flag_at at b.0 in
      both b.0 flag.0 (arrow_at at a b).0 (flag-adds at b.0) (value-adds at _ _ flag.0)

  fby_by : (c : Option Const) (d : Sketch) (m : Made) (f : Const → Made) → Adds Nothing d m.0 → ((c : Const) → Adds Nothing d (f c).0) → Adds Nothing d (by_constant c m f).0
  fby_by None d m f g h = g
  fby_by (Some c) d m f g h = h c

  mutual
    pub expr-adds : (s : Scope) (e : Expr) (see : Sight) (at : Site) (d : Sketch) → ExprTested types s e → Adds Nothing d (sketch_expr k see at e d).0
    expr-adds s (constant a c) see at d h = value-adds at _ _ d
    expr-adds s (variable a x) see at d h = read-adds at (see x).value (see x).ty d
    expr-adds s (last_of a x) see at d h = read-adds at (see x).last (see x).ty d
    expr-adds s (one a o e) see at d h = let x = sketch_expr k see at e d in both d x.0 _ (expr-adds s e see at d h) (value-adds at _ _ x.0)
    expr-adds s (two a o e f) see at d h =
        let x = sketch_expr k see at e d in
        let y = sketch_expr k see at f x.0 in
        both d x.0 _ (expr-adds s e see at d h.0) (both x.0 y.0 _ (expr-adds s f see at x.0 h.1) (value-adds at _ _ y.0))
    expr-adds s (choose a e f g) see at d h =
        let x = sketch_expr k see at e d in
        let y = sketch_expr k see at f x.0 in
        let z = sketch_expr k see at g y.0 in
        both d x.0 _ (expr-adds s e see at d h.0) (both x.0 y.0 _ (expr-adds s f see at x.0 h.1.0) (both y.0 z.0 _ (expr-adds s g see at y.0 h.1.1) (value-adds at _ _ z.0)))
    expr-adds s (pre a e) see at d h = let x = sketch_expr k see at e d in both d x.0 _ (expr-adds s e see at d h) (value-adds at _ _ x.0)
    expr-adds s (fby a e f) see at d h =
        let x = sketch_expr k see at e d in
        let y = sketch_expr k see at f x.0 in
        let z = sketch_expr k see at f d in
        fby_by (constant_in e) d _ _ (both d x.0 _ (expr-adds s e see at d h.0) (both x.0 y.0 _ (expr-adds s f see at x.0 h.1) (fby_adds at x.1 y)))
        (λ c. both d z.0 (register_at at (constant_value k c) z.1 z.0).0 (expr-adds s f see at d h.1) (value-adds at _ _ z.0))
    expr-adds s (arrow a e f) see at d h =
        let x = sketch_expr k see at e d in
        let y = sketch_expr k see at f x.0 in
        both d x.0 _ (expr-adds s e see at d h.0) (both x.0 y.0 _ (expr-adds s f see at x.0 h.1) (arrow_adds at x.1 y))
    expr-adds s (when_is a e c x) see at d h =
        let y = sketch_expr k see (off_site at) e d in
        both d y.0 _ (expr-adds s e see (off_site at) d h) (read-adds at (Some y.1) (type_at y.0 y.1) y.0)
    expr-adds s (merge a x ps) see at d h =
        let t = tested (see x).value d in
        let m = sketch_parts k see at t.1 None ps t.0 in
        both d t.0 _ (tested-adds (see x).value d)
        (both t.0 m.0 _ (all_parts_add s ps see at t.1 t.0 h.1.1 (numbers-differ types differ outputs k knows (lookup s.variables x) (of_parts ps) h.0 h.1.0)) (merged-adds m.1 _ m.0))
    expr-adds s (call a f inlined es) see at d h =
        let os = outputs_of (k.nodes f) in
        let args = sketch_exprs k see at es d in
        let c = called_at k at f args.1 os args.0 in
        both d args.0 _ (exprs-add s es see at d h) (both args.0 c.0 _ (called-adds at f args.1 os args.0) (first-adds at os c))

    -- the parts of a `merge`
    all_parts_add : (s : Scope) (ps : Parts) (see : Sight) (at : Site) (t : ℕ) (d : Sketch) → PartsTested types s ps → NumbersDiffer (numbers k (of_parts ps)) → Adds Nothing d (sketch_parts k see at t None ps d).0
    all_parts_add s no_part see at t d h n = same Nothing d
    all_parts_add s (more_parts c e ps) see at t d h n =
        let on = on_site at t (cons_number k c) in
        let x = sketch_expr k see on e d in
        let w = with_new (codes "e") (type_at x.0 x.1) x.0 in
        let v = next x.0 in
        let p = with_eqn on (v ∷ []) (copy_of (Variable x.1)) w in
        let f = (sketch_parts k see at t (Some v) ps p).0 in
        let js = numbers k (of_parts ps) in
        let long : next w ≡ next x.0 + 1 = length-append x.0.variables _ in
        let l : v < next w = omega (arith, long) in
        both d x.0 f (expr-adds s e see on d h.0)
        (behind-bare (OnPart v at.clock t (cons_number k c ∷ js)) Nothing x.0 w f (omega (arith, long)) refl
        (part_then v at t (cons_number k c) js x.1 w f l n.0 (parts_add s ps see at t v p h.1 n.1 l))
        (λ y b g. let is = g.0 in inl (omega (arith, is), omega (arith, long, is))))

    parts_add : (s : Scope) (ps : Parts) (see : Sight) (at : Site) (t v : ℕ) (d : Sketch) → PartsTested types s ps → NumbersDiffer (numbers k (of_parts ps)) → v < next d
        → Adds (OnPart v at.clock t (numbers k (of_parts ps))) d (sketch_parts k see at t (Some v) ps d).0
    parts_add s no_part see at t v d h n l = same (OnPart v at.clock t []) d
    parts_add s (more_parts c e ps) see at t v d h n l =
        let on = on_site at t (cons_number k c) in
        let x = sketch_expr k see on e d in
        let p = with_eqn on (v ∷ []) (copy_of (Variable x.1)) x.0 in
        let f = (sketch_parts k see at t (Some v) ps p).0 in
        let js = numbers k (of_parts ps) in
        let first = expr-adds s e see on d h.0 in
        let g = first.grown in
        let m : v < next x.0 = omega (arith, g, l) in
        new-then (OnPart v at.clock t (cons_number k c ∷ js)) d x.0 f first (part_then v at t (cons_number k c) js x.1 x.0 f m n.0 (parts_add s ps see at t v p h.1 n.1 m)) (λ y b q. let is = q.0 in omega (arith, is, l))

    pub exprs-add : (s : Scope) (es : Exprs) (see : Sight) (at : Site) (d : Sketch) → ExprsTested types s es → Adds Nothing d (sketch_exprs k see at es d).0
    exprs-add s no_expr see at d h = same Nothing d
    exprs-add s (more_exprs e es) see at d h = let x = sketch_expr k see at e d in both d x.0 _ (expr-adds s e see at d h.0) (exprs-add s es see at x.0 h.1)

  -- the clock of a definition
  pub path-adds : (see : Sight) (path : List (Cons × List ℕ)) (at : Site) (d : Sketch) → Adds Nothing d (enter_path k see path at d).1
  path-adds see [] at d = same Nothing d
  path-adds see (s ∷ path) at d =
      let t = tested (see s.1).value d in
      both d t.0 _ (tested-adds (see s.1).value d) (path-adds see path (on_site at t.1 (cons_number k s.0)) t.0)
