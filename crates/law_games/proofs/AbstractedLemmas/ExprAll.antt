-- All occurrences in an expression fit, where all names fit.
use Rattle.std.proofs.Common.{◌≡◌, ℕ, List, [], ◌∷◌, map, refl, sym, ap, subst, ◌∙◌}
use Rattle.std.specs.Prelude.{Bool, true, false, ◌&&◌, IsTrue, if◌then◌else◌, Option, Some}
use Rattle.hp_base.specs.declared.span.Span.{Span}
use Rattle.hp_base.specs.declared.ty.Ty.{Ty}
use Rattle.hp_base.specs.declared.ty.Ty.TheVariants as ty
use Rattle.hp_base.specs.declared.value.Value.{Value}
use Rattle.hp_tree.specs.Expressions.{Expr, constant, variable, last_of, one, two, choose, pre, fby, arrow, when_is, merge, call, Exprs, no_expr, more_exprs, Parts, no_part, more_parts}
use Rattle.hp_tree.specs.Blocks.{Decl}
use Rattle.hp_tree.specs.Programs.{TypeDecl, Node}
use Rattle.hp_tree.specs.Instant.{Named, Head, Tail, First, Second, Third, Args, Instance, Place, Instant, Past, Given, at, part, top, since, nothing, in_row, Clock, holds, without}
use Rattle.hp_tree.specs.Meaning.{Names, Nodes, names_of, expr, exprs, merged, only_output}
use Rattle.law_games.specs.Wiretyped.Typed.{IsWire}
use Rattle.hp_init.specs.Classes.{Classes, is_second}
use Rattle.law_values.specs.Valued.Judged.{Lasts}
use Rattle.law_values.proofs.ValuedLemmas.Both.{ExprOk, ExprsOk, PartsOk, RightOk}
use Rattle.law_games.specs.Abstracted.Fitting.{HasValue, Fits, Presence, first_output, IsThere, TopFits, ExprFits, ExprsFit, PartsFit, OutputsFit}
use Rattle.law_games.proofs.AbstractedLemmas.Laws.{and_left, and_right, and_both, value_of, fits_weaker, Along, none_held, EachPresence}
use Rattle.hp_base.specs.Known.Known.{lookup}
use Rattle.hp_typing.specs.Types.{type_of, types_in, type_of_one, input_type, args_fit}
use Rattle.law_judged.specs.Typed.Scopes.{Scope}
use Rattle.hp_meaning.specs.Causal.Sources.{Sources, none, only, both, also, Within, NameSources, PlaceSources}
use Rattle.hp_meaning.specs.Causal.WhatIsRead.{of_expr, of_exprs, at_expr, at_exprs}
use Rattle.hp_meaning.specs.Causal.Clocked.{Standing, IsOn, ExprsOn, PartsOn}
use Rattle.law_games.specs.Abstracted.Given.{reading, ExprGiven, ExprsGiven, PartsGiven}
use Rattle.law_values.proofs.ValuedLemmas.Typed.{one_typed, two_typed, if_typed, pair_typed, when_typed, call_typed, row_typed, merge_typed, PartsHave, arg_typed}
use Rattle.law_games.proofs.AbstractedLemmas.ExprTops.{Callees, along_part, along_same, NamesKnown, LastsKnown, value_typed, instance_of, past_of_instance, only_absent, expr_top, exprs_tops}

abbrev pub All : Place → Type 0
All p = Unit {0}

pub all_within : (s : Sources) → Within All s
all_within none = tt
all_within (only p) = tt
all_within (both s t) = (all_within s, all_within t)
all_within (also s) = all_within s

abbrev pub nowhere : NameSources
nowhere x = none

abbrev pub no_place : PlaceSources
no_place p = none

module _ (types : List TypeDecl) (nils : Bool) (u : Value → Value) (N : Nodes) (among : List ℕ → Option Node) (fits given : List ℕ → Instant → Type 0) (known : Callees types nils (reading u) N among fits given) where
  -- the value of a call
  call_value : (f : List ℕ) (n : Node) (d : Bool) (ds : List Decl) (i j : Instant) (m : Bool) → N.outputs f ≡ names_of ds → (IsTrue d → ((p : Place) → j p ≡ i p) × OutputsFit types ds j) → Fits types d (input_type ds) m (only_output (N.outputs f) (if d then i else nothing))
  call_value f n true [] i j m e h = ap (λ z. only_output z i) e
  call_value f n true (c ∷ ds) i j m e h =
      let k = h refl in
      subst (λ z. HasValue types c.ty m (only_output z i)) (sym e) (value_of types c.ty m (i (Named c.name ∷ [])) (subst (λ z. IsWire types c.ty z) (k.0 (Named c.name ∷ [])) k.1.0))
  call_value f n false ds i j m e h = only_absent (N.outputs f)

  module _ (s : Scope) (st : Standing) (second : Classes) (lasts : Lasts) (names last : Names) (ws : List Presence) (nk : NamesKnown All types nils u N among fits given known s st second lasts nowhere names last ws) (lk : LastsKnown All types nils u N among fits given known s st second lasts nowhere names last ws) (wk : EachPresence ws) where
    abbrev there : Presence
    there clock = holds types clock names

    abbrev Past' : Expr → Clock → Past → Type 0
    Past' e clock past = Along (λ w i. ExprFits types nils fits s second w e clock i) ws past

    abbrev Says' : Expr → Clock → Given → Instant → Type 0
    Says' e clock g now = (p : Place) → now p ≡ expr types (reading u) N e clock names last g now p

    top_says : (e : Expr) (t : Ty) (clock : Clock) (g : Given) (now : Instant) → type_of s e ≡ Some t → IsOn st e clock → ExprOk types among s second lasts e → ExprGiven types nils u given s e g.free → Past' e clock g.past → Says' e clock g now → Fits types (there clock) (Some t) (is_second second e && (none_held ws clock && nils)) (top now)
    top_says e t clock g now h on ok gv past m =
        subst (λ z. Fits types (there clock) (Some t) (is_second second e && (none_held ws clock && nils)) z) (sym (m []))
        (expr_top All types nils u N among fits given known s st second lasts nowhere names last ws nk lk wk e t clock no_place g now h on ok gv past m
        (λ p q. all_within (at_expr e clock nowhere no_place p)) (all_within (of_expr e nowhere no_place)))

    top_all : (e : Expr) (t : Ty) (clock : Clock) (g : Given) (now : Instant) → type_of s e ≡ Some t → IsOn st e clock → ExprOk types among s second lasts e → ExprGiven types nils u given s e g.free → Past' e clock g.past → Says' e clock g now → TopFits types nils fits s second there e clock now
    top_all e t clock g now h on ok gv past m =
        subst (λ z. Fits types (there clock) z (is_second second e && nils) (top now)) (sym (value_typed All types nils u N among fits given known s st second lasts nowhere names last ws e t h))
        (fits_weaker types (there clock) t (is_second second e && (none_held ws clock && nils)) (is_second second e && nils) (top now)
        (λ z. and_both (is_second second e) nils (and_left (is_second second e) _ z) (and_right (none_held ws clock) nils (and_right (is_second second e) _ z)))
        (top_says e t clock g now h on ok gv past m))

    -- the instance of a call fits where it is there
    pub instance_fits : (f : List ℕ) (n : Node) (es : Exprs) (clock : Clock) (g : Given) (now : Instant) → among f ≡ Some n → IsTrue (args_fit n.inputs (types_in s es)) → ExprsOn st es clock → ExprsOk types among s second lasts es → ExprsGiven types nils u given s es (part Args g.free) → given f (part Instance g.free) → Along (λ w i. ExprsFit types nils fits s second w es clock (part Args i) × IsThere (w clock) (fits f) (part Instance i)) ws g.past → ((p : Place) → part Args now p ≡ in_row (exprs types (reading u) N es clock names last (at Args g) (part Args now)) p) → ((p : Place) → part Instance now p ≡ (if there clock then N.instant f (map top (exprs types (reading u) N es clock names last (at Args g) (part Args now))) (since false (at Instance g)) (part Instance now) else nothing) p) → IsTrue (there clock) → fits f (part Instance now)
    instance_fits f n es clock g now e a on ok gv gi past m mi x =
        instance_of All types nils u N among fits given known s st second lasts nowhere names last ws f n (there clock) (map top (exprs types (reading u) N es clock names last (at Args g) (part Args now))) (at Instance g) (part Instance now) x e
        (exprs_tops All types nils u N among fits given known s st second lasts nowhere names last ws nk lk wk es n.inputs clock no_place (at Args g) (part Args now) x a on ok gv (along_part _ _ Args ws g.past (λ w j z. z.0) past) m
        (λ p q. all_within (at_exprs es clock nowhere no_place p)) (all_within (of_exprs es nowhere no_place)))
        (past_of_instance All types nils u N among fits given known s st second lasts nowhere names last ws f clock g.past (along_same _ _ ws g.past (λ w j z. z.1) past)) gi mi

    there_or_not : (d : Bool) (Q : Instant → Type 0) (i j : Instant) → (IsTrue d → Q i) → ((p : Place) → i p ≡ (if d then j else nothing) p) → IsThere d Q i
    there_or_not true Q i j f m = f refl
    there_or_not false Q i j f m = m

    mutual
      pub expr_all : (e : Expr) (t : Ty) (clock : Clock) (g : Given) (now : Instant) → type_of s e ≡ Some t → IsOn st e clock → ExprOk types among s second lasts e → ExprGiven types nils u given s e g.free → Past' e clock g.past → Says' e clock g now → ExprFits types nils fits s second there e clock now
      expr_all (constant a c) t clock g now h on ok gv past m = top_all (constant a c) t clock g now h on ok gv past m
      expr_all (variable a x) t clock g now h on ok gv past m = top_all (variable a x) t clock g now h on ok gv past m
      expr_all (last_of a x) t clock g now h on ok gv past m = top_all (last_of a x) t clock g now h on ok gv past m
      expr_all (one a o d) t clock g now h on ok gv past m =
          let q = one_typed (type_of_one o) (type_of s d) t h in (
            top_all (one a o d) t clock g now h on ok gv past m,
            expr_all d (type_of_one o) clock (at First g) (part First now) q.0 on ok gv (along_part _ _ First ws g.past (λ w i z. z.1) past) (λ p. m (First ∷ p)),
          )
      expr_all (two a o d e) t clock g now h on ok gv past m =
          let q = two_typed o (type_of s d) (type_of s e) t h in (
            top_all (two a o d e) t clock g now h on ok gv past m,
            (
              expr_all d q.0 clock (at First g) (part First now) q.2 on.0 ok.0 gv.1.0 (along_part _ _ First ws g.past (λ w i z. z.1.0) past) (λ p. m (First ∷ p)),
              expr_all e q.0 clock (at Second g) (part Second now) q.3 on.1 ok.1 gv.1.1 (along_part _ _ Second ws g.past (λ w i z. z.1.1) past) (λ p. m (Second ∷ p)),
            ),
          )
      expr_all (choose a d e f) t clock g now h on ok gv past m =
          let q = if_typed (type_of s d) (type_of s e) (type_of s f) t h in (
            top_all (choose a d e f) t clock g now h on ok gv past m,
            (
              expr_all d ty.Bool clock (at First g) (part First now) q.0 on.0 ok.0 gv.0 (along_part _ _ First ws g.past (λ w i z. z.1.0) past) (λ p. m (First ∷ p)),
              (
                expr_all e t clock (at Second g) (part Second now) q.1 on.1 ok.1.0 gv.1.0 (along_part _ _ Second ws g.past (λ w i z. z.1.1.0) past) (λ p. m (Second ∷ p)),
                expr_all f t clock (at Third g) (part Third now) q.2 on.2 ok.1.1 gv.1.1 (along_part _ _ Third ws g.past (λ w i z. z.1.1.1) past) (λ p. m (Third ∷ p)),
              ),
            ),
          )
      expr_all (pre a d) t clock g now h on ok gv past m = (
        top_all (pre a d) t clock g now h on ok gv past m,
        expr_all d t clock (at First g) (part First now) h on ok.1 gv.1 (along_part _ _ First ws g.past (λ w i z. z.1) past) (λ p. m (First ∷ p)),
      )
      expr_all (fby a d e) t clock g now h on ok gv past m =
          let q = pair_typed (type_of s d) (type_of s e) t h in (
            top_all (fby a d e) t clock g now h on ok gv past m,
            (
              expr_all d t clock (at First g) (part First now) q.0 on.0 ok.1.0 gv.0 (along_part _ _ First ws g.past (λ w i z. z.1.0) past) (λ p. m (First ∷ p)),
              expr_all e t clock (at Second g) (part Second now) q.1 on.1 ok.1.1 gv.1 (along_part _ _ Second ws g.past (λ w i z. z.1.1) past) (λ p. m (Second ∷ p)),
            ),
          )
      expr_all (arrow a d e) t clock g now h on ok gv past m =
          let q = pair_typed (type_of s d) (type_of s e) t h in (
            top_all (arrow a d e) t clock g now h on ok gv past m,
            (
              expr_all d t clock (at First g) (part First now) q.0 on.0 ok.0 gv.0 (along_part _ _ First ws g.past (λ w i z. z.1.0) past) (λ p. m (First ∷ p)),
              expr_all e t clock (at Second g) (part Second now) q.1 on.1 ok.1 gv.1 (along_part _ _ Second ws g.past (λ w i z. z.1.1) past) (λ p. m (Second ∷ p)),
            ),
          )
      expr_all (when_is a d c x) t clock g now h on ok gv past m = (
        top_all (when_is a d c x) t clock g now h on ok gv past m,
        expr_all d t (without clock) (at First g) (part First now) (when_typed _ _ t h) on.2 ok.1 gv (along_part _ _ First ws g.past (λ w i z. z.1) past) (λ p. m (First ∷ p)),
      )
      expr_all (merge a x ps) t clock g now h on ok gv past m = (
        top_all (merge a x ps) t clock g now h on ok gv past m,
        parts_all ps x t clock (at Args g) (part Args now) (merge_typed s (lookup s.variables x) ps t h) on.1 ok.1.1 gv (along_part _ _ Args ws g.past (λ w i z. z.1) past) (λ p. m (Args ∷ p)),
      )
      expr_all (call a f i es) t clock g now h on ok gv past m =
          let q = call_typed (lookup s.nodes f) (types_in s es) t h in (
            top_all (call a f i es) t clock g now h on ok gv past m,
            (
              exprs_all es q.0.inputs clock (at Args g) (part Args now) q.2 on ok.1 gv.0 (along_part _ _ Args ws g.past (λ w j z. z.1.0) past) (λ p. m (Args ∷ p)),
              there_or_not (there clock) (fits f) (part Instance now) _
                  (instance_fits f q.0 es clock g now (sym ok.0 ∙ q.1) q.2 on ok.1 gv.0 gv.1 (along_same _ _ ws g.past (λ w j z. z.1) past) (λ p. m (Args ∷ p)) (λ p. m (Instance ∷ p)))
                  (λ p. m (Instance ∷ p)),
            ),
          )

      pub exprs_all : (es : Exprs) (ds : List Decl) (clock : Clock) (g : Given) (now : Instant) → IsTrue (args_fit ds (types_in s es)) → ExprsOn st es clock → ExprsOk types among s second lasts es → ExprsGiven types nils u given s es g.free → Along (λ w i. ExprsFit types nils fits s second w es clock i) ws g.past → ((p : Place) → now p ≡ in_row (exprs types (reading u) N es clock names last g now) p) → ExprsFit types nils fits s second there es clock now
      exprs_all no_expr ds clock g now h on ok gv past m = tt
      exprs_all (more_exprs e es) [] clock g now h on ok gv past m = absurd (cc)
      exprs_all (more_exprs e es) (d ∷ ds) clock g now h on ok gv past m =
          let q = arg_typed d ds (type_of s e) (types_in s es) h in (
            expr_all e d.ty clock (at Head g) (part Head now) q.0 on.0 ok.1.0 gv.0 (along_part _ _ Head ws g.past (λ w i z. z.0) past) (λ p. m (Head ∷ p)),
            exprs_all es ds clock (at Tail g) (part Tail now) q.1 on.1 ok.1.1 gv.1 (along_part _ _ Tail ws g.past (λ w i z. z.1) past) (λ p. m (Tail ∷ p)),
          )

      parts_all : (ps : Parts) (x : List ℕ) (t : Ty) (clock : Clock) (g : Given) (now : Instant) → PartsHave s t ps → PartsOn st x ps clock → PartsOk types among s second lasts ps → PartsGiven types nils u given s ps g.free → Along (λ w i. PartsFit types nils fits s second w ps x clock i) ws g.past → ((p : Place) → now p ≡ in_row (merged types (reading u) N ps x clock names last g now) p) → PartsFit types nils fits s second there ps x clock now
      parts_all no_part x t clock g now h on ok gv past m = tt
      parts_all (more_parts c e ps) x t clock g now h on ok gv past m = (
        expr_all e t ((c, x) ∷ clock) (at Head g) (part Head now) h.0 on.0 ok.1.0 gv.0 (along_part _ _ Head ws g.past (λ w i z. z.0) past) (λ p. m (Head ∷ p)),
        parts_all ps x t clock (at Tail g) (part Tail now) h.1 on.1 ok.1.1 gv.1 (along_part _ _ Tail ws g.past (λ w i z. z.1) past) (λ p. m (Tail ∷ p)),
      )

    -- the right side of an equation
    pub right_all : (ys : List (List ℕ × Span)) (e : Expr) (clock : Clock) (g : Given) (now : Instant) → IsOn st e clock → RightOk types among s second lasts ys e → ExprGiven types nils u given s e g.free → Past' e clock g.past → Says' e clock g now → ExprFits types nils fits s second there e clock now
    right_all ys (call a f i es) clock g now on ok gv past m =
        let q = row_typed (lookup s.nodes f) (types_in s es) ok.1.0 ok.1.1.0 in
        let e = sym ok.0.0 ∙ q.1 in
        let inst : IsTrue (there clock) → fits f (part Instance now) = instance_fits f q.0 es clock g now e q.2 on ok.0.1 gv.0 gv.1 (along_same _ _ ws g.past (λ w j z. z.1) past) (λ p. m (Args ∷ p)) (λ p. m (Instance ∷ p)) in (
          subst (λ z. Fits types (there clock) z (false && nils) (top now)) (sym (ap first_output q.1))
              (subst (λ z. Fits types (there clock) (input_type q.0.outputs) false z) (sym (m []))
              (call_value f q.0 (there clock) q.0.outputs _ (part Instance now) false (known.outputs f q.0 e)
              (λ x. ((λ p. m (Instance ∷ p) ∙ by (there clock) _ p x), known.gives f q.0 (part Instance now) e (inst x))))),
          (
            exprs_all es q.0.inputs clock (at Args g) (part Args now) q.2 on ok.0.1 gv.0 (along_part _ _ Args ws g.past (λ w j z. z.1.0) past) (λ p. m (Args ∷ p)),
            there_or_not (there clock) (fits f) (part Instance now) _ inst (λ p. m (Instance ∷ p)),
          ),
        )
      where
        by : (d : Bool) (j : Instant) (p : Place) → IsTrue d → (if d then j else nothing) p ≡ j p
        by true j p x = refl
        by false j p x = absurd (cc)
    right_all ys (constant a c) clock g now on ok gv past m = expr_all (constant a c) ok.1.0 clock g now ok.1.1.0 on ok.0 gv past m
    right_all ys (variable a c) clock g now on ok gv past m = expr_all (variable a c) ok.1.0 clock g now ok.1.1.0 on ok.0 gv past m
    right_all ys (last_of a c) clock g now on ok gv past m = expr_all (last_of a c) ok.1.0 clock g now ok.1.1.0 on ok.0 gv past m
    right_all ys (one a o c) clock g now on ok gv past m = expr_all (one a o c) ok.1.0 clock g now ok.1.1.0 on ok.0 gv past m
    right_all ys (two a o b c) clock g now on ok gv past m = expr_all (two a o b c) ok.1.0 clock g now ok.1.1.0 on ok.0 gv past m
    right_all ys (choose a o b c) clock g now on ok gv past m = expr_all (choose a o b c) ok.1.0 clock g now ok.1.1.0 on ok.0 gv past m
    right_all ys (pre a c) clock g now on ok gv past m = expr_all (pre a c) ok.1.0 clock g now ok.1.1.0 on ok.0 gv past m
    right_all ys (fby a b c) clock g now on ok gv past m = expr_all (fby a b c) ok.1.0 clock g now ok.1.1.0 on ok.0 gv past m
    right_all ys (arrow a b c) clock g now on ok gv past m = expr_all (arrow a b c) ok.1.0 clock g now ok.1.1.0 on ok.0 gv past m
    right_all ys (when_is a b c x) clock g now on ok gv past m = expr_all (when_is a b c x) ok.1.0 clock g now ok.1.1.0 on ok.0 gv past m
    right_all ys (merge a b c) clock g now on ok gv past m = expr_all (merge a b c) ok.1.0 clock g now ok.1.1.0 on ok.0 gv past m
