-- The equations that are made of an equation of a block are good.
use Rattle.std.proofs.Common.{◌≡◌, ℕ, ◌+◌, List, [], ◌∷◌, ◌++◌, reverse, Option, None, Some, refl, sym, ap, subst, ◌∙◌}
use Rattle.std.proofs.lemmas.List.{reverse-append}
use Rattle.hp_base.specs.declared.span.Span.{Span}
use Rattle.hp_base.specs.declared.ty.Ty.{Ty}
use Rattle.hp_obc.specs.Machines.{ObcType}
use Rattle.hp_tree.specs.declared.decl.Cons.{Cons}
use Rattle.hp_tree.specs.Expressions.{Expr, constant, variable, last_of, one, two, choose, pre, fby, arrow, when_is, merge, call}
use Rattle.hp_tree.specs.Blocks.{Decl}
use Rattle.hp_tree.specs.Programs.{TypeDecl, Node}
use Rattle.hp_tree.specs.Instant.{Clock}
use Rattle.hp_tree.specs.Meaning.{clock_of}
use Rattle.hp_base.specs.Known.Known.{lookup}
use Rattle.hp_typing.specs.Types.{type_of, types_in}
use Rattle.law_judged.specs.Typed.Scopes.{Scope}
use Rattle.law_values.specs.Valued.Judged.{Lasts, ExprSound, RightSound, LeftsHave, LeftsAre}
use Rattle.law_values.proofs.ValuedLemmas.Typed.{row_typed}
use Rattle.law_values.specs.Filled.Firsts.{DeclsHaveFirsts}
use Rattle.law_wellmade.specs.Timely.Tested.{ConsIs, ClockTested, ExprTested}
use Rattle.law_equations.specs.Made.Making.{Known, Sketch, Site, Sight, flat_type, cons_number, outputs_of, on_site, tested, called_at, bind, bind_all, bind_outputs, enter_path, path_for, sketch_expr, sketch_exprs, sketch_right, sketch_definition}
use Rattle.law_equations.proofs.MadeLemmas.ClockLaws.{clock-path}
use Rattle.law_wellmade.proofs.BegunLemmas.Keeping.{HasType, moved}
use Rattle.law_wellmade.proofs.BegunLemmas.Typing.{Grounded, SeesTypes, args_have, typed}
use Rattle.law_wellmade.proofs.RegularLemmas.Good.{SiteGood, site_moved, on_good, Moves, still, then_moves}
use Rattle.law_wellmade.proofs.RegularLemmas.Expressions.{TypeFacts, HaveFirsts, Outputs, outputs_moved, bind_moves, called_typed, call_moves, SeesIn, sees_moved, expr_moves, exprs_move}

-- a clock is tested as its path is
tested_both : (types : List TypeDecl) (s : Scope) (c e : Clock) → ClockTested types s (c ++ e) → ClockTested types s c × ClockTested types s e
tested_both types s [] e h = (tt, h)
tested_both types s (x ∷ c) e h = let q = tested_both types s c e h.1 in ((h.0, q.0), q.1)

tested_turned : (types : List TypeDecl) (s : Scope) (path : Clock) → ClockTested types s (reverse path) → ClockTested types s path
tested_turned types s [] h = tt
tested_turned types s (x ∷ path) h = let q = tested_both types s (reverse path) (x ∷ []) (subst (λ c. ClockTested types s c) (reverse-append (x ∷ []) path) h) in (q.1.0, tested_turned types s path q.0)

module _ (obc : List ObcType) (k : Known) (types : List TypeDecl) (facts : TypeFacts obc k types) (among : List ℕ → Option Node) (callees : (f : List ℕ) (n : Node) → among f ≡ Some n → DeclsHaveFirsts types n.outputs) where
  module _ (s : Scope) (lasts : Lasts) (see : Sight) where
    abbrev Sees : Sketch → Type 0
    Sees d = SeesIn obc k types facts among callees s lasts see d

    lefts_move : (at : Site) (ys : List (List ℕ × Span)) (x : ℕ) (t : Ty) (d : Sketch) → LeftsHave s ys t → HasType d x (flat_type k.types t) → Sees d → SiteGood obc d at → Moves obc k d (bind_all see at ys x d)
    lefts_move at [] x t d h xt v g = still obc k d
    lefts_move at (y ∷ ys) x t d h xt v g =
        let e = bind at (see y.0).value (Some x) d in
        let m = bind_moves obc k at (see y.0).value (Some x) d (flat_type k.types t) g (v.values y.0 t h.0) (x, refl, xt) in
        then_moves obc k d e (bind_all see at ys x e) m
        (lefts_move at ys x t e h.1 (moved d e x (flat_type k.types t) m.keeps xt) (sees_moved obc k types facts among callees s lasts see d e m.keeps v) (site_moved obc d e at m.keeps g))

    outputs_move : (at : Site) (ys : List (List ℕ × Span)) (n : ℕ) (os : List Decl) (d : Sketch) → LeftsAre s ys os → Outputs k d n os → Sees d → SiteGood obc d at → Moves obc k d (bind_outputs see at ys n os d)
    outputs_move at [] n os d h xt v g = still obc k d
    outputs_move at (y ∷ ys) n [] d h xt v g = absurd h
    outputs_move at (y ∷ ys) n (o ∷ os) d h xt v g =
        let e = bind at (see y.0).value (Some n) d in
        let m = bind_moves obc k at (see y.0).value (Some n) d (flat_type k.types o.ty) g (v.values y.0 o.ty h.0) (n, refl, xt.0) in
        then_moves obc k d e (bind_outputs see at ys (n + 1) os e) m
        (outputs_move at ys (n + 1) os e h.1 (outputs_moved obc k os (n + 1) d e m.keeps xt.1) (sees_moved obc k types facts among callees s lasts see d e m.keeps v) (site_moved obc d e at m.keeps g))

    path_moves : (path : List (Cons × List ℕ)) (at : Site) (d : Sketch) → ClockTested types s path → Sees d → SiteGood obc d at → Moves obc k d (enter_path k see path at d).1 × SiteGood obc (enter_path k see path at d).1 (enter_path k see path at d).0
    path_moves [] at d h v g = (still obc k d, g)
    path_moves (x ∷ path) at d h v g = by (λ to c. path_moves path to d h.1 v c) (lookup s.variables x.1) refl h.0
      where
        by : ((to : Site) → SiteGood obc d to → Moves obc k d (enter_path k see path to d).1 × SiteGood obc (enter_path k see path to d).1 (enter_path k see path to d).0)
            → (o : Option Ty) → lookup s.variables x.1 ≡ o → ConsIs types o x.0 → Moves obc k d (enter_path k see (x ∷ path) at d).1 × SiteGood obc (enter_path k see (x ∷ path) at d).1 (enter_path k see (x ∷ path) at d).0
        by again None e c = absurd c
        by again (Some u) e c =
            let r = v.values x.1 u e in
            let n = cons_number k x.0 in
            subst (λ o. let z = tested o d in Moves obc k d (enter_path k see path (on_site at z.1 n) z.0).1 × SiteGood obc (enter_path k see path (on_site at z.1 n) z.0).1 (enter_path k see path (on_site at z.1 n) z.0).0) (sym r.1)
            (again (on_site at r.0 n) (on_good obc d at r.0 n (flat_type k.types u) g r.2 (facts.wide u x.0 c)))

    module _ (ground : Grounded k s) (sees : SeesTypes k s see) (known : HaveFirsts types s) where
      value_moves : (ys : List (List ℕ × Span)) (e : Expr) (at : Site) (d : Sketch) → ExprSound types among s lasts e × ((t : Ty) × ((type_of s e ≡ Some t) × LeftsHave s ys t)) → ExprTested types s e → Sees d → SiteGood obc d at
          → Moves obc k d (bind_all see at ys (sketch_expr k see at e d).1 (sketch_expr k see at e d).0)
      value_moves ys e at d ok w v g =
          let x = sketch_expr k see at e d in
          let t = ok.1.0 in
          let m = expr_moves obc k types facts among callees s lasts see ground sees known e t at d ok.1.1.0 ok.0 w v g in
          then_moves obc k d x.0 (bind_all see at ys x.1 x.0) m
          (lefts_move at ys x.1 t x.0 ok.1.1.1 (typed k s see ground sees e t at d ok.1.1.0) (sees_moved obc k types facts among callees s lasts see d x.0 m.keeps v) (site_moved obc d x.0 at m.keeps g))

      right_moves : (ys : List (List ℕ × Span)) (e : Expr) (at : Site) (d : Sketch) → RightSound types among s lasts ys e → ExprTested types s e → Sees d → SiteGood obc d at → Moves obc k d (sketch_right k see at ys e d)
      right_moves ys (constant a c) at d ok w v g = value_moves ys (constant a c) at d ok w v g
      right_moves ys (variable a x) at d ok w v g = value_moves ys (variable a x) at d ok w v g
      right_moves ys (last_of a x) at d ok w v g = value_moves ys (last_of a x) at d ok w v g
      right_moves ys (one a o b) at d ok w v g = value_moves ys (one a o b) at d ok w v g
      right_moves ys (two a o b c) at d ok w v g = value_moves ys (two a o b c) at d ok w v g
      right_moves ys (choose a b c e) at d ok w v g = value_moves ys (choose a b c e) at d ok w v g
      right_moves ys (pre a b) at d ok w v g = value_moves ys (pre a b) at d ok w v g
      right_moves ys (fby a b c) at d ok w v g = value_moves ys (fby a b c) at d ok w v g
      right_moves ys (arrow a b c) at d ok w v g = value_moves ys (arrow a b c) at d ok w v g
      right_moves ys (when_is a b c x) at d ok w v g = value_moves ys (when_is a b c x) at d ok w v g
      right_moves ys (merge a x ps) at d ok w v g = value_moves ys (merge a x ps) at d ok w v g
      right_moves ys (call a f i es) at d ok w v g =
          let q = row_typed (lookup s.nodes f) (types_in s es) ok.1.0 ok.1.1.0 in
          let os = outputs_of (k.nodes f) in
          let same : os ≡ ok.1.0 = ap outputs_of (ground.nodes f q.0 q.1) ∙ q.3 in
          let args = sketch_exprs k see at es d in
          let c = called_at k at f args.1 os args.0 in
          let m = exprs_move obc k types facts among callees s lasts see ground sees known es at d (args_have s q.0.inputs es q.2) ok.0.1 w v g in
          let ga = site_moved obc d args.0 at m.keeps g in
          let n = call_moves obc k types facts among callees s lasts see ground sees known f q.0 es at d q.1 ok.0.0 q.2 ga in
          let r = then_moves obc k d args.0 c.0 m n in
          then_moves obc k d c.0 (bind_outputs see at ys c.1 os c.0) r
          (outputs_move at ys c.1 os c.0 (subst (λ z. LeftsAre s ys z) (sym same) ok.1.1.1) (called_typed obc k at f args.1 os args.0) (sees_moved obc k types facts among callees s lasts see d c.0 r.keeps v) (site_moved obc args.0 c.0 at n.keeps ga))

      pub definition_moves : (ds : List Decl) (ys : List (List ℕ × Span)) (e : Expr) (at : Site) (d : Sketch) → RightSound types among s lasts ys e → ClockTested types s (clock_of ds ys e) → ExprTested types s e → Sees d → SiteGood obc d at
          → Moves obc k d (sketch_definition k see at ds ys e d)
      definition_moves ds ys e at d ok c w v g =
          let path = path_for ds ys e in
          let p = enter_path k see path at d in
          let m = path_moves path at d (tested_turned types s path (subst (λ z. ClockTested types s z) (clock-path k ds ys e) c)) v g in
          then_moves obc k d p.1 (sketch_right k see p.0 ys e p.1) m.0 (right_moves ys e p.0 p.1 ok w (sees_moved obc k types facts among callees s lasts see d p.1 m.0.keeps v) m.1)
