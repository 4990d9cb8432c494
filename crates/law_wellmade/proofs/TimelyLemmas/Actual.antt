-- All that is read in a block without automata fits, where all its names fit.
use Rattle.std.proofs.Common.{◌≡◌, ℕ, List, [], ◌∷◌, refl, sym, subst, inl}
use Rattle.std.specs.Prelude.{Bool, true, false, ◌&&◌, IsTrue, IsFalse, Option, Some}
use Rattle.hp_base.specs.declared.ty.Ty.{Ty}
use Rattle.hp_base.specs.declared.ty.Ty.TheVariants as ty
use Rattle.hp_base.specs.declared.value.Value.{Value}
use Rattle.hp_tree.specs.Blocks.{Decl, Block, block, Eqns, no_eqn, more_eqns, Eqn, define, switch, reset, automaton, Arms, no_arm, more_arms}
use Rattle.hp_tree.specs.Programs.{TypeDecl, Node}
use Rattle.hp_tree.specs.Operators.{constant_of, is_cons, is_true}
use Rattle.hp_tree.specs.Instant.{Body, Equations, Head, Tail, Right, Test, Arms as ArmsOf, Place, Instant, Past, Given, at, part, parts, own, since, holds}
use Rattle.hp_tree.specs.Meaning.{Names, Nodes, inside, within, lasts as lasts_said, clock_of, scope, equations, equation, arm}
use Rattle.hp_typing.specs.Scopes.{with_variables}
use Rattle.law_judged.specs.Typed.Scopes.{Scope}
use Rattle.hp_init.specs.Classes.{Classes, Assignment}
use Rattle.law_values.specs.Valued.Judged.{Lasts, lasts_in, Completes, IsPlain, AllPlain, OnePlain, ArmsPlain}
use Rattle.law_values.specs.Valued.Classed.{classes_in, classes_within}
use Rattle.law_values.specs.Valued.Fitting.{Fits, Presence}
use Rattle.law_values.specs.Valued.Given.{reading, BlockGiven, EqnsGiven, EqnGiven, ArmsGiven}
use Rattle.law_values.proofs.ValuedLemmas.Both.{BlockOk, EqnsOk, EqnOk, ArmsOk}
use Rattle.law_values.proofs.ValuedLemmas.Loose.{BlockLoose, EqnsLoose, EqnLoose, ArmsLoose}
use Rattle.law_values.proofs.ValuedLemmas.Laws.{value_of, never_nil, Along, none_held, EachPresence}
use Rattle.law_values.proofs.ValuedLemmas.Scoped.{is_empty, none_base}
use Rattle.law_values.proofs.ValuedLemmas.ExprTops.{Callees, along_part, own_all, NamesKnown}
use Rattle.law_values.proofs.ValuedLemmas.ExprAll.{All, all_within, nowhere, no_place, expr_all, right_all}
use Rattle.law_values.proofs.ValuedLemmas.Gives.{block_asks, eqns_ask, eqn_asks, arms_ask, HasLasts, last_is}
use Rattle.law_values.proofs.ValuedLemmas.BlockNames.{empty_own, empty_parts, empty_since, each_since, each_part, pasts_of, lasts_here, names_here, outer_of, there_is, defined_type}
use Rattle.law_values.proofs.ValuedLemmas.BlockAll.{Outside}
use Rattle.hp_tree.specs.Reaction.{Each}
use Rattle.hp_meaning.specs.Causal.WhatIsRead.{names_in, names_within}
use Rattle.hp_meaning.specs.Causal.Clocked.{Standing, standing_in, BlockRight, AllRight, OneRight, ArmsRight}
use Rattle.law_wellmade.specs.Timely.Actual.{BlockHas, EqnsHave, EqnHas, ArmsHave}

never_both : (a b : Bool) → IsFalse (a && (b && false))
never_both true true = refl
never_both true false = refl
never_both false b = refl

fits_first : (types : List TypeDecl) (d : Bool) (t : Ty) (m : Bool) (v : Value) → IsFalse m → Fits types d (Some t) m v → Fits types d (Some t) false v
fits_first types true t m v f h = value_of types t false v (never_nil types t m v f h)
fits_first types false t m v f h = h

abbrev pub first : Value → Value
first v = v

module _ (types : List TypeDecl) (N : Nodes) (among : List ℕ → Option Node) (fits given : List ℕ → Instant → Type 0) (known : Callees types false (reading first) N among fits given) where
  abbrev Known : Scope → Standing → Classes → Lasts → Names → Names → List Presence → Type 0
  Known s st second lasts names last ws = NamesKnown All types false first N among fits given known s st second lasts nowhere names last ws

  abbrev Around : Block → Scope → Standing → Classes → Names → Past → Type 0
  Around b s st second names past = Outside types false first N among fits given known b s st second names past

  mutual
    pub block_has : (b : Block) (s : Scope) (st : Standing) (second : Classes) (lasts : Lasts) (class : Assignment) (names last : Names) (fresh : Bool) (g : Given) (now : Instant) → IsPlain b → BlockRight st b → BlockOk types among s second lasts class b → BlockGiven types false first given s b g.free → Each (BlockLoose types false fits s second class b) g.past → Around b s st second names g.past → HasLasts types s lasts last → ((p : Place) → now p ≡ scope types (reading first) N b fresh names last g now p) → ((p : Place) → block_asks types false fits b s class names last g now p (now p)) → BlockHas types fits s st second lasts class names last g b now
    block_has (block ds es) s st second lasts class names last fresh g now low on ok gv a outer hl m T =
        let pr = pasts_of All types false first N among fits given known ds es s second class g.past a in
        let nk = names_here All types false first N among fits given known ds es s st second lasts class names last g.past on ok a pr nowhere no_place g.free now outer (λ p z. T p) in
        let hl' = lasts_here All types false first N among fits given known ds es s st second lasts class names last g.past on ok a pr hl in (
          (λ x c t q l. fits_first types (holds types c (inside es names now)) t _ (inside es names now x) (never_both (classes_in es second class x) (none_held pr.0 c)) (nk x c t q l (all_within (names_in es nowhere no_place x)))),
          (
            hl',
            (
              (λ x h. defined_type All types false first N among fits given known ds es s st second lasts class names last g.past on ok a pr x h),
              eqns_have ds (with_variables s ds) (standing_in ds es st) (classes_in es second class) (lasts_in ds lasts) (inside es names now) (lasts_said (constant_of types) ds g.past last) pr.0
                  (λ x c t q l h. nk x c t q l (all_within (names_in es nowhere no_place x))) hl' pr.1.0
                  es (λ q. class (Equations ∷ q)) (at Equations g) (part Equations now) low on.1 ok.1.1 gv (along_part _ _ Equations pr.0 g.past (λ w i z. z.1) pr.1.1) (λ q. m (Equations ∷ q)) (λ q. T (Equations ∷ q)),
            ),
          ),
        )

    eqns_have : (ds : List Decl) (s : Scope) (st : Standing) (second : Classes) (lasts : Lasts) (names last : Names) (ws : List Presence) → Known s st second lasts names last ws → HasLasts types s lasts last → EachPresence ws → (es : Eqns) (class : Assignment) (g : Given) (now : Instant) → AllPlain es → AllRight st ds es → EqnsOk types among s second lasts class es → EqnsGiven types false first given s es g.free → Along (λ w i. EqnsLoose types false fits ds s second class w es i) ws g.past → ((p : Place) → now p ≡ equations types (reading first) N ds es names last g now p) → ((p : Place) → eqns_ask types false fits es s class names last g now p (now p)) → EqnsHave types fits ds s st second lasts class names last g es now
    eqns_have ds s st second lasts names last ws nk hl wk no_eqn class g now low on ok gv a m T = tt
    eqns_have ds s st second lasts names last ws nk hl wk (more_eqns e es) class g now low on ok gv a m T = (
      eqn_has ds s st second lasts names last ws nk hl wk e (λ q. class (Head ∷ q)) (at Head g) (part Head now) low.0 on.0 ok.0 gv.0 (along_part _ _ Head ws g.past (λ w i z. z.0) a) (λ q. m (Head ∷ q)) (λ q. T (Head ∷ q)),
      eqns_have ds s st second lasts names last ws nk hl wk es (λ q. class (Tail ∷ q)) (at Tail g) (part Tail now) low.1 on.1 ok.1 gv.1 (along_part _ _ Tail ws g.past (λ w i z. z.1) a) (λ q. m (Tail ∷ q)) (λ q. T (Tail ∷ q)),
    )

    eqn_has : (ds : List Decl) (s : Scope) (st : Standing) (second : Classes) (lasts : Lasts) (names last : Names) (ws : List Presence) → Known s st second lasts names last ws → HasLasts types s lasts last → EachPresence ws → (e : Eqn) (class : Assignment) (g : Given) (now : Instant) → OnePlain e → OneRight st ds e → EqnOk types among s second lasts class e → EqnGiven types false first given s e g.free → Along (λ w i. EqnLoose types false fits ds s second class w e i) ws g.past → ((p : Place) → now p ≡ equation types (reading first) N ds e names last g now p) → ((p : Place) → eqn_asks types false fits e s class names last g now p (now p)) → EqnHas types fits ds s st second lasts class names last g e now
    eqn_has ds s st second lasts names last ws nk hl wk (define a ys e) class g now low on ok gv past m T =
        right_all types false first N among fits given known s st second lasts names last ws nk (last_is All types false first N among fits given known s st second lasts nowhere names last ws nk hl wk) wk ys e (clock_of ds ys e) (at Right g) (part Right now) on.2 ok gv (along_part _ _ Right ws g.past (λ w i z. z) past) (λ p. m (Right ∷ p))
    eqn_has ds s st second lasts names last ws nk hl wk (switch a e arms) class g now low on ok gv past m T = (
      expr_all types false first N among fits given known s st second lasts names last ws nk (last_is All types false first N among fits given known s st second lasts nowhere names last ws nk hl wk) wk e ok.1.1.0.0 [] (at Test g) (part Test now) ok.1.1.0.1.0 on.1 ok.0 gv.0 (along_part _ _ Test ws g.past (λ w i z. z.0) past) (λ p. m (Test ∷ p)),
      arms_have (switch a e arms) s st (classes_within (switch a e arms) second) lasts (within (switch a e arms) names last) last ws hl wk
          (λ b past c f x t y q l h. outer_of All types false first N among fits given known ds s st lasts last ws hl wk second nowhere names nk (switch a e arms) b past c f x t y q l (all_within (names_within (switch a e arms) nowhere x)))
          arms (now (Test ∷ [])) (λ q. class (ArmsOf ∷ q)) (at ArmsOf g) (part ArmsOf now) low on.2 ok.1.1.1 gv.1 (along_part _ _ ArmsOf ws g.past (λ w i z. z.1) past)
          (λ q. subst (λ z. now (ArmsOf ∷ q) ≡ arm types (reading first) N arms z (within (switch a e arms) names last) last (at ArmsOf g) (part ArmsOf now) q) (sym (m (Test ∷ []))) (m (ArmsOf ∷ q))) (λ q. T (ArmsOf ∷ q)),
    )
    eqn_has ds s st second lasts names last ws nk hl wk (reset a b e) class g now low on ok gv past m T =
        let fresh = is_true (now (Test ∷ [])) in (
          expr_all types false first N among fits given known s st second lasts names last ws nk (last_is All types false first N among fits given known s st second lasts nowhere names last ws nk hl wk) wk e ty.Bool [] (at Test g) (part Test now) ok.0.1.1 on.1 ok.0.0 gv.0 (along_part _ _ Test ws g.past (λ w i z. z.0) past) (λ p. m (Test ∷ p)),
          block_has b s st (classes_within (reset a b e) second) lasts (λ q. class (Body ∷ q)) (within (reset a b e) names last) last fresh (since fresh (at Body g)) (part Body now) low on.2 ok.1 gv.1
              (each_since _ fresh (parts Body g.past) (each_part _ (BlockLoose types false fits s (classes_within (reset a b e) second) (λ q. class (Body ∷ q)) b) Body ws g.past (λ w i z. (true, z.1)) past))
              (λ x t y q l h. outer_of All types false first N among fits given known ds s st lasts last ws hl wk second nowhere names nk (reset a b e) b (since fresh (at Body g)).past (λ x z. inl z)
              (λ z. empty_since fresh (parts Body g.past) (empty_parts Body g.past (none_base _ ws g.past wk past z))) x t y q l (all_within (names_within (reset a b e) nowhere x)))
              hl
              (λ q. subst (λ z. now (Body ∷ q) ≡ scope types (reading first) N b (is_true z) (within (reset a b e) names last) last (since (is_true z) (at Body g)) (part Body now) q) (sym (m (Test ∷ []))) (m (Body ∷ q)))
              (λ q. T (Body ∷ q)),
        )
    eqn_has ds s st second lasts names last ws nk hl wk (automaton a ss) class g now low on ok gv past m T = tt

    arms_have : (o : Eqn) (s : Scope) (st : Standing) (second : Classes) (lasts : Lasts) (names last : Names) (ws : List Presence) → HasLasts types s lasts last → EachPresence ws → ((b : Block) (past : Past) → Completes types among o lasts b → (IsTrue (none_held ws []) → IsTrue (is_empty past)) → Around b s st second names past) → (arms : Arms) (v : Value) (class : Assignment) (g : Given) (now : Instant) → ArmsPlain arms → ArmsRight st arms → ArmsOk types among o s second lasts class arms → ArmsGiven types false first given s arms g.free → Along (λ w i. ArmsLoose types false fits s second class arms i) ws g.past → ((p : Place) → now p ≡ arm types (reading first) N arms v names last g now p) → ((p : Place) → arms_ask types false fits arms v s class names last g now p (now p)) → ArmsHave types fits s st second lasts class names last g v arms now
    arms_have o s st second lasts names last ws hl wk out no_arm v class g now low on ok gv past m T = tt
    arms_have o s st second lasts names last ws hl wk out (more_arms c b a arms) v class g now low on ok gv past m T = (
      (λ y.
          block_has b s st second lasts (λ q. class (Head ∷ q)) names last false (since false (at Head g)) (part Head now) low.0 on.0 ok.1.0 gv.0
          (own_all _ (parts Head g.past) (each_part _ (BlockLoose types false fits s second (λ q. class (Head ∷ q)) b) Head ws g.past (λ w i z. z.0) past))
          (out b (own (parts Head g.past)) ok.0 (λ z. empty_own (parts Head g.past) (empty_parts Head g.past (none_base _ ws g.past wk past z))))
          hl
          (λ q. there_is All types false first N among fits given known (is_cons types v c) (part Head now) _ q y (m (Head ∷ q)))
          (λ q. T (Head ∷ q) y)),
      arms_have o s st second lasts names last ws hl wk out arms v (λ q. class (Tail ∷ q)) (at Tail g) (part Tail now) low.1 on.1 ok.1.1 gv.1 (along_part _ _ Tail ws g.past (λ w i z. z.1) past) (λ q. m (Tail ∷ q)) (λ q. T (Tail ∷ q)),
    )
