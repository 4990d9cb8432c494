-- What is made of an equation defines the variables of the names on its left, and each variable that it makes.
use Rattle.std.proofs.Common.{◌≡◌, ℕ, ◌+◌, Bool, true, false, ◌||◌, List, [], ◌∷◌, ◌++◌, reverse, Option, None, Some, refl, sym, ap, subst, ◌∙◌}
use Rattle.std.specs.Str.{bytes_eq}
use Rattle.std.proofs.lemmas.List.{reverse-append}
use Rattle.hp_base.specs.declared.span.Span.{Span}
use Rattle.hp_base.specs.declared.ty.Ty.{Ty}
use Rattle.hp_tree.specs.declared.decl.Cons.{Cons}
use Rattle.hp_tree.specs.Expressions.{Expr, constant, variable, last_of, one, two, choose, pre, fby, arrow, when_is, merge, call}
use Rattle.hp_tree.specs.Blocks.{Decl}
use Rattle.hp_tree.specs.Programs.{TypeDecl, Node}
use Rattle.hp_tree.specs.Instant.{Clock}
use Rattle.hp_tree.specs.Meaning.{is_among, clock_of}
use Rattle.hp_base.specs.Known.Known.{lookup}
use Rattle.hp_typing.specs.Types.{type_of, types_in}
use Rattle.law_judged.specs.Typed.Scopes.{Scope}
use Rattle.law_values.specs.Valued.Judged.{Lasts, ExprSound, RightSound, LeftsHave}
use Rattle.law_values.proofs.ValuedLemmas.Typed.{row_typed}
use Rattle.law_wellmade.specs.Timely.Tested.{ConsIs, ClockTested}
use Rattle.law_equations.specs.Made.Making.{Known, Sketch, Site, Sight, Layer, cons_number, outputs_of, on_site, tested, called_at, bind, bind_all, bind_outputs, others, output_left, given_by, link_all, is_in, enter_path, path_for, sketch_expr, sketch_exprs, sketch_right, sketch_definition}
use Rattle.law_equations.proofs.MadeLemmas.ClockLaws.{clock-path}
use Rattle.law_equations.proofs.MadeLemmas.LayerLaws.{same_name}
use Rattle.law_wellmade.proofs.BegunLemmas.Typing.{Grounded, args_have}
use Rattle.law_choices.proofs.ClosedLemmas.Filling.{is_target, Fills, same, both, bind_fills, bind_target}
use Rattle.law_choices.proofs.ClosedLemmas.Expressions.{HasVariable, called_fills, expr_fills, exprs_fill}

-- From one sketch to another: the variables of these names are defined, and each that is made.
pub record Binds (see : Sight) (named : List ℕ → Bool) (d e : Sketch) : Type 0 where
  pub fills : Fills d e
  pub bound : (y : List ℕ) (v : ℕ) → named y ≡ true → (see y).value ≡ Some v → is_target e.eqns v ≡ true

pub then_binds : (see : Sight) (named : List ℕ → Bool) (d e f : Sketch) → Fills d e → Binds see named e f → Binds see named d f
then_binds see named d e f a b = record { fills = both d e f a b.fills; bound = b.bound }

-- one name, and then others
bind_first : (see : Sight) (at : Site) (x : List ℕ) (source : Option ℕ) (rest : List ℕ → Bool) (d e : Sketch) → Binds see rest (bind at (see x).value source d) e → Binds see (λ y. bytes_eq x y || rest y) d e
bind_first see at x source rest d e b =
    record { fills = both d (bind at (see x).value source d) e (bind_fills at (see x).value source d) b.fills; bound = λ y v h q. by y v (bytes_eq x y) refl h q }
  where
    by : (y : List ℕ) (v : ℕ) (c : Bool) → bytes_eq x y ≡ c → (c || rest y) ≡ true → (see y).value ≡ Some v → is_target e.eqns v ≡ true
    by y v true i h q = b.fills.kept v (bind_target at (see x).value source d v (ap (λ z. (see z).value) (same_name x y i) ∙ q))
    by y v false i h q = b.bound y v h q

none_bound : (see : Sight) (d : Sketch) → Binds see (λ y. false) d d
none_bound see d = record { fills = same d; bound = λ y v h q. absurd cc }

lefts_bind : (see : Sight) (at : Site) (ys : List (List ℕ × Span)) (x : ℕ) (d : Sketch) → Binds see (is_among ys) d (bind_all see at ys x d)
lefts_bind see at [] x d = none_bound see d
lefts_bind see at (y ∷ ys) x d = bind_first see at y.0 (Some x) (is_among ys) d (bind_all see at (y ∷ ys) x d) (lefts_bind see at ys x (bind at (see y.0).value (Some x) d))

outputs_bind : (see : Sight) (at : Site) (ys : List (List ℕ × Span)) (n : ℕ) (os : List Decl) (d : Sketch) → Binds see (is_among ys) d (bind_outputs see at ys n os d)
outputs_bind see at [] n os d = none_bound see d
outputs_bind see at (y ∷ ys) n os d =
    bind_first see at y.0 (output_left n os) (is_among ys) d (bind_outputs see at (y ∷ ys) n os d) (outputs_bind see at ys (n + 1) (others os) (bind at (see y.0).value (output_left n os) d))

pub links_bind : (see : Sight) (at : Site) (own : Layer) (xs : List (List ℕ)) (d : Sketch) → Binds see (is_in xs) d (link_all see at own xs d)
links_bind see at own [] d = none_bound see d
links_bind see at own (x ∷ xs) d =
    bind_first see at x (given_by (own x) (see x)) (is_in xs) d (link_all see at own (x ∷ xs) d) (links_bind see at own xs (bind at (see x).value (given_by (own x) (see x)) d))

-- a clock is tested as its path is
tested_both : (types : List TypeDecl) (s : Scope) (c e : Clock) → ClockTested types s (c ++ e) → ClockTested types s c × ClockTested types s e
tested_both types s [] e h = (tt, h)
tested_both types s (x ∷ c) e h = let q = tested_both types s c e h.1 in ((h.0, q.0), q.1)

tested_turned : (types : List TypeDecl) (s : Scope) (path : Clock) → ClockTested types s (reverse path) → ClockTested types s path
tested_turned types s [] h = tt
tested_turned types s (x ∷ path) h = let q = tested_both types s (reverse path) (x ∷ []) (subst (λ c. ClockTested types s c) (reverse-append (x ∷ []) path) h) in (q.1.0, tested_turned types s path q.0)

module _ (k : Known) (types : List TypeDecl) (among : List ℕ → Option Node) (s : Scope) (lasts : Lasts) (see : Sight) (ground : Grounded k s) (values : (x : List ℕ) (t : Ty) → lookup s.variables x ≡ Some t → HasVariable (see x).value) where
  path_fills : (path : List (Cons × List ℕ)) (at : Site) (d : Sketch) → ClockTested types s path → Fills d (enter_path k see path at d).1
  path_fills [] at d h = same d
  path_fills (x ∷ path) at d h = by (λ to. path_fills path to d h.1) (lookup s.variables x.1) refl h.0
    where
      by : ((to : Site) → Fills d (enter_path k see path to d).1) → (o : Option Ty) → lookup s.variables x.1 ≡ o → ConsIs types o x.0 → Fills d (enter_path k see (x ∷ path) at d).1
      by again None e c = absurd c
      by again (Some u) e c =
          let r = values x.1 u e in
          let n = cons_number k x.0 in
          subst (λ o. let z = tested o d in Fills d (enter_path k see path (on_site at z.1 n) z.0).1) (sym r.1) (again (on_site at r.0 n))

  value_binds : (ys : List (List ℕ × Span)) (e : Expr) (at : Site) (d : Sketch) → ExprSound types among s lasts e × ((t : Ty) × ((type_of s e ≡ Some t) × LeftsHave s ys t))
      → Binds see (is_among ys) d (bind_all see at ys (sketch_expr k see at e d).1 (sketch_expr k see at e d).0)
  value_binds ys e at d ok =
      let x = sketch_expr k see at e d in
      then_binds see (is_among ys) d x.0 _ (expr_fills k types among s lasts see ground values e ok.1.0 at d ok.1.1.0 ok.0) (lefts_bind see at ys x.1 x.0)

  right_binds : (ys : List (List ℕ × Span)) (e : Expr) (at : Site) (d : Sketch) → RightSound types among s lasts ys e → Binds see (is_among ys) d (sketch_right k see at ys e d)
  right_binds ys (constant a c) at d ok = value_binds ys (constant a c) at d ok
  right_binds ys (variable a x) at d ok = value_binds ys (variable a x) at d ok
  right_binds ys (last_of a x) at d ok = value_binds ys (last_of a x) at d ok
  right_binds ys (one a o b) at d ok = value_binds ys (one a o b) at d ok
  right_binds ys (two a o b c) at d ok = value_binds ys (two a o b c) at d ok
  right_binds ys (choose a b c e) at d ok = value_binds ys (choose a b c e) at d ok
  right_binds ys (pre a b) at d ok = value_binds ys (pre a b) at d ok
  right_binds ys (fby a b c) at d ok = value_binds ys (fby a b c) at d ok
  right_binds ys (arrow a b c) at d ok = value_binds ys (arrow a b c) at d ok
  right_binds ys (when_is a b c x) at d ok = value_binds ys (when_is a b c x) at d ok
  right_binds ys (merge a x ps) at d ok = value_binds ys (merge a x ps) at d ok
  right_binds ys (call a f i es) at d ok =
      let q = row_typed (lookup s.nodes f) (types_in s es) ok.1.0 ok.1.1.0 in
      let os = outputs_of (k.nodes f) in
      let args = sketch_exprs k see at es d in
      let c = called_at k at f args.1 os args.0 in
      then_binds see (is_among ys) d c.0 _ (both d args.0 c.0 (exprs_fill k types among s lasts see ground values es at d (args_have s q.0.inputs es q.2) ok.0.1) (called_fills k at f args.1 os args.0)) (outputs_bind see at ys c.1 os c.0)

  pub definition_binds : (ds : List Decl) (ys : List (List ℕ × Span)) (e : Expr) (at : Site) (d : Sketch) → RightSound types among s lasts ys e → ClockTested types s (clock_of ds ys e) → Binds see (is_among ys) d (sketch_definition k see at ds ys e d)
  definition_binds ds ys e at d ok c =
      let path = path_for ds ys e in
      let p = enter_path k see path at d in
      then_binds see (is_among ys) d p.1 _ (path_fills path at d (tested_turned types s path (subst (λ z. ClockTested types s z) (clock-path k ds ys e) c))) (right_binds ys e p.0 p.1 ok)
