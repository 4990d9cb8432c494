-- Where tests fit and a node is sound, its tests are typed.
use Rattle.std.proofs.Common.{◌≡◌, ℕ, List, [], ◌∷◌, ◌++◌, reverse, sym, subst, ◌∙◌}
use Rattle.std.specs.Prelude.{⊤, Bool, true, false, ◌&&◌, if◌then◌else◌, IsTrue, Option, None, Some}
use Rattle.std.specs.Str.{bytes_eq}
use Rattle.std.proofs.lemmas.List.{reverse-append}
use Rattle.hp_base.specs.declared.span.Span.{Span}
use Rattle.hp_base.specs.declared.ty.Ty.{Ty}
use Rattle.hp_base.specs.declared.ty.Ty.TheVariants as ty
use Rattle.hp_tree.specs.declared.decl.Cons.{Cons}
use Rattle.hp_tree.specs.Expressions.{Expr, constant, variable, last_of, one, two, choose, pre, fby, arrow, when_is, merge, call, Exprs, no_expr, more_exprs, Parts, no_part, more_parts}
use Rattle.hp_tree.specs.Blocks.{Decl, Block, block, Eqns, no_eqn, more_eqns, Eqn, define, switch, reset, automaton, Arms, no_arm, more_arms}
use Rattle.hp_tree.specs.Programs.{TypeDecl, Node}
use Rattle.hp_tree.specs.Instant.{Clock}
use Rattle.hp_tree.specs.Meaning.{written, clock_in, clock_told, clocks_told, or_clock, or_base, clock_of}
use Rattle.hp_base.specs.Known.Known.{lookup}
use Rattle.hp_typing.specs.Scopes.{with_variables}
use Rattle.hp_typing.specs.Types.{type_of, types_in, cons_type, merge_type, parts_fit, agrees, chooses, args_fit}
use Rattle.law_judged.specs.Typed.Scopes.{Scope}
use Rattle.law_values.specs.Valued.Judged.{Lasts, lasts_in, of_parts, of_arms, RightSound, BlockSound, EqnsSound, EqnSound, ArmsSound}
use Rattle.law_values.proofs.ValuedLemmas.Laws.{and_left, and_right}
use Rattle.law_values.proofs.ValuedLemmas.Typed.{agreed, where_is, one_typed, two_typed, if_typed, pair_typed, when_typed, call_typed, row_typed, merge_typed, PartsHave, arg_typed}
use Rattle.law_wellmade.specs.Timely.Tested.{ConsIs, ConsAre, ClockTested, ExprTested, ExprsTested, PartsTested, BlockTested, EqnsTested, EqnTested, ArmsTested}
use Rattle.law_wellmade.proofs.TimelyLemmas.DifferLaws.{Grounds, grounds_more, cons_is}
use Rattle.law_wellmade.specs.Tested.Fits.{ExprApart, ExprsApart, PartsApart, WrittenFits, DeclsFit, BlockFits, EqnsFit, EqnFits, ArmsFit}

-- all are of one type
abbrev AllConses : Scope → Option Ty → List Cons → Type 0
AllConses s o [] = ⊤
AllConses s o (c ∷ cs) = (cons_type s c ≡ o) × AllConses s o cs

conses_are : (types : List TypeDecl) (s : Scope) → Grounds types s → (t : Ty) (cs : List Cons) → AllConses s (Some t) cs → ConsAre types (Some t) cs
conses_are types s g t [] a = tt
conses_are types s g t (c ∷ cs) a = (cons_is types s g c t a.0, conses_are types s g t cs a.1)

-- the constructors of a typed merge
fit_conses : (s : Scope) (o first : Option Ty) (ps : Parts) → IsTrue (parts_fit s o first ps) → AllConses s o (of_parts ps)
fit_conses s o first no_part h = tt
fit_conses s o first (more_parts c e ps) h =
    let a = agreed o (cons_type s c) (and_left _ _ h) in
    (a.2 ∙ sym a.1, fit_conses s o first ps (and_right _ _ (and_right _ _ h)))

merge_conses : (s : Scope) (o : Option Ty) (ps : Parts) (t : Ty) → merge_type s o ps ≡ Some t → (u : Ty) × (o ≡ Some u) × AllConses s o (of_parts ps)
merge_conses s o no_part t h = absurd (cc)
merge_conses s o (more_parts c e ps) t h =
    let a = where_is (chooses o && (agrees o (cons_type s c) && parts_fit s o (type_of s e) ps)) (type_of s e) t h in
    let k = and_right _ _ a.0 in
    let b = agreed o (cons_type s c) (and_left _ _ k) in
    (b.0, b.1, (b.2 ∙ sym b.1, fit_conses s o (type_of s e) ps (and_right _ _ k)))

module _ (types : List TypeDecl) where
  -- ---- expressions

  module _ (s : Scope) (g : Grounds types s) where
    mutual
      expr_tested : (e : Expr) (t : Ty) → type_of s e ≡ Some t → ExprApart e → ExprTested types s e
      expr_tested (constant a c) t q w = tt
      expr_tested (variable a x) t q w = tt
      expr_tested (last_of a x) t q w = tt
      expr_tested (one a o d) t q w = expr_tested d _ (one_typed _ (type_of s d) t q).0 w
      expr_tested (two a o d e) t q w = let y = two_typed o (type_of s d) (type_of s e) t q in (expr_tested d y.0 y.2 w.0, expr_tested e y.0 y.3 w.1)
      expr_tested (choose a d e f) t q w =
          let y = if_typed (type_of s d) (type_of s e) (type_of s f) t q in (expr_tested d ty.Bool y.0 w.0, (expr_tested e t y.1 w.1.0, expr_tested f t y.2 w.1.1))
      expr_tested (pre a d) t q w = expr_tested d t q w
      expr_tested (fby a d e) t q w = let y = pair_typed (type_of s d) (type_of s e) t q in (expr_tested d t y.0 w.0, expr_tested e t y.1 w.1)
      expr_tested (arrow a d e) t q w = let y = pair_typed (type_of s d) (type_of s e) t q in (expr_tested d t y.0 w.0, expr_tested e t y.1 w.1)
      expr_tested (when_is a d c x) t q w = expr_tested d t (when_typed _ _ t q) w
      expr_tested (merge a x ps) t q w =
          let m = merge_conses s (lookup s.variables x) ps t q in
          let all = subst (λ o. AllConses s o (of_parts ps)) m.1 m.2 in (
            subst (λ o. ConsAre types o (of_parts ps)) (sym m.1) (conses_are types s g m.0 (of_parts ps) all),
            (
              w.0,
              parts_tested ps t (merge_typed s (lookup s.variables x) ps t q) w.1,
            ),
          )
      expr_tested (call a f inlined es) t q w = let y = call_typed (lookup s.nodes f) (types_in s es) t q in exprs_tested es y.0.inputs y.2 w

      exprs_tested : (es : Exprs) (ds : List Decl) → IsTrue (args_fit ds (types_in s es)) → ExprsApart es → ExprsTested types s es
      exprs_tested no_expr ds q w = tt
      exprs_tested (more_exprs e es) [] q w = absurd (cc)
      exprs_tested (more_exprs e es) (d ∷ ds) q w = let y = arg_typed d ds (type_of s e) (types_in s es) q in (expr_tested e d.ty y.0 w.0, exprs_tested es ds y.1 w.1)

      parts_tested : (ps : Parts) (t : Ty) → PartsHave s t ps → PartsApart ps → PartsTested types s ps
      parts_tested no_part t q w = tt
      parts_tested (more_parts c e ps) t q w = (expr_tested e t q.0 w.0, parts_tested ps t q.1 w.1)

    -- ---- clocks

    both_tested : (a b : Clock) → ClockTested types s a → ClockTested types s b → ClockTested types s (a ++ b)
    both_tested [] b h k = k
    both_tested (step ∷ a) b h k = (h.0, both_tested a b h.1 k)

    back_tested : (a : Clock) → ClockTested types s a → ClockTested types s (reverse a)
    back_tested [] h = tt
    back_tested (step ∷ a) h = subst (λ c. ClockTested types s c) (sym (reverse-append (step ∷ []) a)) (both_tested (reverse a) (step ∷ []) (back_tested a h.1) (h.0, tt))

    abbrev OptTested : Option Clock → Type 0
    OptTested None = ⊤
    OptTested (Some c) = ClockTested types s c

    or_tested : (a b : Option Clock) → OptTested a → OptTested b → OptTested (or_clock a b)
    or_tested None b h k = k
    or_tested (Some c) b h k = h

    base_tested : (a : Option Clock) → OptTested a → ClockTested types s (or_base a)
    base_tested None h = tt
    base_tested (Some c) h = h

    cons_of_name : (c : Cons) (o : Option Ty) → IsTrue (agrees o (cons_type s c)) → ConsIs types o c
    cons_of_name c o h = let a = agreed o (cons_type s c) h in subst (λ z. ConsIs types z c) (sym a.1) (cons_is types s g c a.0 a.2)

    module _ (ds : List Decl) (declared : (x : List ℕ) → ClockTested types s (clock_in ds x)) where
      mutual
        told_tested : (e : Expr) (t : Ty) → type_of s e ≡ Some t → OptTested (clock_told ds e)
        told_tested (constant a c) t q = tt
        told_tested (variable a x) t q = declared x
        told_tested (last_of a x) t q = tt
        told_tested (one a o d) t q = told_tested d _ (one_typed _ (type_of s d) t q).0
        told_tested (two a o d e) t q = let y = two_typed o (type_of s d) (type_of s e) t q in or_tested (clock_told ds d) (clock_told ds e) (told_tested d y.0 y.2) (told_tested e y.0 y.3)
        told_tested (choose a d e f) t q =
            let y = if_typed (type_of s d) (type_of s e) (type_of s f) t q in
            or_tested (clock_told ds d) (or_clock (clock_told ds e) (clock_told ds f)) (told_tested d ty.Bool y.0) (or_tested (clock_told ds e) (clock_told ds f) (told_tested e t y.1) (told_tested f t y.2))
        told_tested (pre a d) t q = told_tested d t q
        told_tested (fby a d e) t q = let y = pair_typed (type_of s d) (type_of s e) t q in or_tested (clock_told ds d) (clock_told ds e) (told_tested d t y.0) (told_tested e t y.1)
        told_tested (arrow a d e) t q = let y = pair_typed (type_of s d) (type_of s e) t q in or_tested (clock_told ds d) (clock_told ds e) (told_tested d t y.0) (told_tested e t y.1)
        told_tested (when_is a d c x) t q = (cons_of_name c (lookup s.variables x) (where_is (agrees (lookup s.variables x) (cons_type s c)) (type_of s d) t q).0, declared x)
        told_tested (merge a x ps) t q = declared x
        told_tested (call a f inlined es) t q = let y = call_typed (lookup s.nodes f) (types_in s es) t q in all_told es y.0.inputs y.2

        all_told : (es : Exprs) (inputs : List Decl) → IsTrue (args_fit inputs (types_in s es)) → OptTested (clocks_told ds es)
        all_told no_expr inputs q = tt
        all_told (more_exprs e es) [] q = absurd (cc)
        all_told (more_exprs e es) (d ∷ inputs) q = let y = arg_typed d inputs (type_of s e) (types_in s es) q in or_tested (clock_told ds e) (clocks_told ds es) (told_tested e d.ty y.0) (all_told es inputs y.1)

      definition_tested : (ys : List (List ℕ × Span)) (e : Expr) (lasts : Lasts) (among : List ℕ → Option Node) → RightSound types among s lasts ys e → ExprApart e → ClockTested types s (clock_of ds ys e) × ExprTested types s e
      definition_tested ys e lasts among ok w = (clock ys e ok, right ys e ok w)
        where
          right : (ys : List (List ℕ × Span)) (e : Expr) → RightSound types among s lasts ys e → ExprApart e → ExprTested types s e
          right ys (call a f inlined es) ok w = let y = row_typed (lookup s.nodes f) (types_in s es) ok.1.0 ok.1.1.0 in exprs_tested es y.0.inputs y.2 w
          right ys (constant a c) ok w = tt
          right ys (variable a x) ok w = tt
          right ys (last_of a x) ok w = tt
          right ys (one a o d) ok w = expr_tested (one a o d) ok.1.0 ok.1.1.0 w
          right ys (two a o d e) ok w = expr_tested (two a o d e) ok.1.0 ok.1.1.0 w
          right ys (choose a d e f) ok w = expr_tested (choose a d e f) ok.1.0 ok.1.1.0 w
          right ys (pre a d) ok w = expr_tested (pre a d) ok.1.0 ok.1.1.0 w
          right ys (fby a d e) ok w = expr_tested (fby a d e) ok.1.0 ok.1.1.0 w
          right ys (arrow a d e) ok w = expr_tested (arrow a d e) ok.1.0 ok.1.1.0 w
          right ys (when_is a d c x) ok w = expr_tested (when_is a d c x) ok.1.0 ok.1.1.0 w
          right ys (merge a x ps) ok w = expr_tested (merge a x ps) ok.1.0 ok.1.1.0 w

          told : (e : Expr) → RightSound types among s lasts [] e → ClockTested types s (or_base (clock_told ds e))
          told (call a f inlined es) ok = let y = row_typed (lookup s.nodes f) (types_in s es) ok.1.0 ok.1.1.0 in base_tested (clocks_told ds es) (all_told es y.0.inputs y.2)
          told (constant a c) ok = base_tested None tt
          told (variable a x) ok = base_tested (clock_told ds (variable a x)) (told_tested (variable a x) ok.1.0 ok.1.1.0)
          told (last_of a x) ok = base_tested (clock_told ds (last_of a x)) (told_tested (last_of a x) ok.1.0 ok.1.1.0)
          told (one a o d) ok = base_tested (clock_told ds (one a o d)) (told_tested (one a o d) ok.1.0 ok.1.1.0)
          told (two a o d e) ok = base_tested (clock_told ds (two a o d e)) (told_tested (two a o d e) ok.1.0 ok.1.1.0)
          told (choose a d e f) ok = base_tested (clock_told ds (choose a d e f)) (told_tested (choose a d e f) ok.1.0 ok.1.1.0)
          told (pre a d) ok = base_tested (clock_told ds (pre a d)) (told_tested (pre a d) ok.1.0 ok.1.1.0)
          told (fby a d e) ok = base_tested (clock_told ds (fby a d e)) (told_tested (fby a d e) ok.1.0 ok.1.1.0)
          told (arrow a d e) ok = base_tested (clock_told ds (arrow a d e)) (told_tested (arrow a d e) ok.1.0 ok.1.1.0)
          told (when_is a d c x) ok = base_tested (clock_told ds (when_is a d c x)) (told_tested (when_is a d c x) ok.1.0 ok.1.1.0)
          told (merge a x ps) ok = base_tested (clock_told ds (merge a x ps)) (told_tested (merge a x ps) ok.1.0 ok.1.1.0)

          clock : (ys : List (List ℕ × Span)) (e : Expr) → RightSound types among s lasts ys e → ClockTested types s (clock_of ds ys e)
          clock [] e ok = told e ok
          clock (y ∷ ys) e ok = declared y.0

    -- ---- declared clocks

    written_tested : (o : Option Clock) → WrittenFits types s o → ClockTested types s (written o)
    written_tested None h = tt
    written_tested (Some path) h = back_tested path h

    declared_tested : (ds : List Decl) → DeclsFit types s ds → (x : List ℕ) → ClockTested types s (clock_in ds x)
    declared_tested [] h x = tt
    declared_tested (d ∷ ds) h x = by (bytes_eq d.name x) (declared_tested ds h.1 x)
      where
        by : (b : Bool) → ClockTested types s (clock_in ds x) → ClockTested types s (if b then written d.clock else clock_in ds x)
        by true r = written_tested d.clock h.0
        by false r = r

  -- ---- blocks

  module _ (among : List ℕ → Option Node) where
    mutual
      pub block_tested : (b : Block) (s : Scope) (lasts : Lasts) → Grounds types s → BlockFits types s b → BlockSound types among s lasts b → BlockTested types s b
      block_tested (block ds es) s lasts g f ok =
          let g' = grounds_more types ds s g in
          eqns_tested es ds (with_variables s ds) (lasts_in ds lasts) g' (declared_tested (with_variables s ds) g' ds f.0) f.1 ok.1.1

      eqns_tested : (es : Eqns) (ds : List Decl) (s : Scope) (lasts : Lasts) → Grounds types s → ((x : List ℕ) → ClockTested types s (clock_in ds x)) → EqnsFit types s es → EqnsSound types among s lasts es → EqnsTested types s ds es
      eqns_tested no_eqn ds s lasts g c f ok = tt
      eqns_tested (more_eqns e es) ds s lasts g c f ok = (eqn_tested e ds s lasts g c f.0 ok.0, eqns_tested es ds s lasts g c f.1 ok.1)

      eqn_tested : (e : Eqn) (ds : List Decl) (s : Scope) (lasts : Lasts) → Grounds types s → ((x : List ℕ) → ClockTested types s (clock_in ds x)) → EqnFits types s e → EqnSound types among s lasts e → EqnTested types s ds e
      eqn_tested (define a ys e) ds s lasts g c f ok = definition_tested s g ds c ys e lasts among ok f
      eqn_tested (switch a e arms) ds s lasts g c f ok =
          let u = f.1.0.0 in
          let q = f.1.0.1.0 in (
            expr_tested s g e u q f.0,
            (
              subst (λ o. ConsAre types o (of_arms arms)) (sym q) f.1.0.1.1.0,
              (f.1.0.1.1.1, arms_tested arms (switch a e arms) s lasts g f.1.1 ok.1.1),
            ),
          )
      eqn_tested (reset a b e) ds s lasts g c f ok = (expr_tested s g e ty.Bool ok.0.1 f.0, block_tested b s lasts g f.1 ok.1)
      eqn_tested (automaton a ss) ds s lasts g c f ok = tt

      arms_tested : (arms : Arms) (o : Eqn) (s : Scope) (lasts : Lasts) → Grounds types s → ArmsFit types s arms → ArmsSound types among o s lasts arms → ArmsTested types s arms
      arms_tested no_arm o s lasts g f ok = tt
      arms_tested (more_arms c b a arms) o s lasts g f ok = (block_tested b s lasts g f.0 ok.1.0, arms_tested arms o s lasts g f.1 ok.1.1)
