-- All places of a block fit, where all its names fit.
use Rattle.std.proofs.Common.{◌≡◌, ℕ, suc, ap₂, List, [], ◌∷◌, refl, sym, ap, subst, ◌∙◌, inl}
use Rattle.std.specs.Prelude.{Bool, true, false, ◌&&◌, IsTrue, if◌then◌else◌, nat_eq, Option, None, Some}
use Rattle.hp_base.specs.declared.ty.Const.{Const}
use Rattle.hp_base.specs.declared.ty.Ty.{Ty}
use Rattle.hp_base.specs.declared.ty.Ty.TheVariants as ty
use Rattle.hp_base.specs.declared.value.Value.{Value}
use Rattle.hp_tree.specs.declared.block.Trans.{Trans}
use Rattle.hp_tree.specs.Expressions.{Expr, constant, variable, last_of, one, two, choose, pre, fby, arrow, when_is, merge, call}
use Rattle.hp_tree.specs.declared.decl.Cons.{Cons}
use Rattle.hp_tree.specs.Blocks.{Decl, Block, block, Eqns, no_eqn, more_eqns, Eqn, define, switch, reset, automaton, Arms, no_arm, more_arms, States, no_state, more_states}
use Rattle.hp_tree.specs.Programs.{TypeDecl, Node}
use Rattle.hp_tree.specs.Operators.{is_cons, is_true, constant_of, one_marked, two_marked, if_of, marked}
use Rattle.hp_tree.specs.Instant.{Body, Named, Equations, Head, Tail, Right, Test, Arms as ArmsOf, States as StatesOf, Until, Unless, Active, Next, Pending, Fresh, First, Second, Third, with_one, with_two, with_three, in_row, Place, Instant, Past, Given, at, part, parts, top, own, since, nothing, Clock, holds}
use Rattle.hp_tree.specs.Meaning.{Names, Nodes, some_defines, inside, within, lasts as lasts_said, clock_in, clock_of, expr, scope, equations, equation, arm, states, strong, weak, Jump, state_word, state_of, selected, conditions, read_in, last_in}
use Rattle.hp_typing.specs.Scopes.{with_variables, inside as inside_block}
use Rattle.hp_init.specs.Classes.{Classes, Assignment}
use Rattle.law_values.specs.Valued.Judged.{Lasts, lasts_in, Completes, StatesPlain, PlainExpr, PlainTests, lasts_of, IsPlain, AllPlain, OnePlain, ArmsPlain}
use Rattle.law_values.specs.Valued.Classed.{classes_in, classes_within, classes_of}
use Rattle.law_values.proofs.ValuedLemmas.Both.{BlockOk, EqnsOk, EqnOk, ArmsOk, StatesOk, TestsOk, ToldOk}
use Rattle.law_games.specs.Abstracted.Fitting.{held, names_inside, BlockFits, EqnsFit, EqnFits, ArmsFit, StatesFit, Fits, Presence, IsThere, ToldFits, TestsFit}
use Rattle.law_games.proofs.AbstractedLemmas.Loose.{BlockLoose, BlockAt, EqnsLoose, EqnLoose, ArmsLoose, StatesLoose}
use Rattle.law_games.proofs.AbstractedLemmas.Laws.{and_left, and_right, and_both, weaker, Along, none_held, EachPresence}
use Rattle.hp_tree.specs.Reaction.{Each}
use Rattle.hp_base.specs.Known.Known.{lookup}
use Rattle.law_judged.specs.Typed.Scopes.{Scope}
use Rattle.hp_meaning.specs.Causal.WhatIsRead.{names_in, names_within}
use Rattle.hp_meaning.specs.Causal.Clocked.{Standing, standing_in, BlockRight, AllRight, OneRight, ArmsRight, StatesRight, ConditionsOn, TellsOnBase, standing_of}
use Rattle.law_games.specs.Abstracted.Given.{reading, BlockGiven, ToldGiven, EqnsGiven, EqnGiven, ArmsGiven, StatesGiven, TestsGiven}
use Rattle.law_games.proofs.AbstractedLemmas.Scoped.{is_empty, none_base}
use Rattle.law_games.proofs.AbstractedLemmas.ExprTops.{Callees, along_part, own_all, NamesKnown}
use Rattle.law_games.proofs.AbstractedLemmas.ExprAll.{All, all_within, nowhere, no_place, expr_all, right_all}
use Rattle.law_games.proofs.AbstractedLemmas.Gives.{block_asks, eqns_ask, eqn_asks, arms_ask, states_ask, strong_below, weak_below, selected_below, HasLasts, last_is}
use Rattle.law_games.proofs.AbstractedLemmas.BlockNames.{empty_own, empty_parts, empty_since, each_since, each_part, each_part2, scope_fresh, Outer, pasts_of, lasts_here, names_here, outer_of, there_is}

fits_flag : (types : List TypeDecl) (d : Bool) (o : Option Ty) (e f : Bool) (v : Value) → (IsTrue e → IsTrue f) → Fits types d o e v → Fits types d o f v
fits_flag types true (Some t) e f v g h = weaker types t e f v g h
fits_flag types true None e f v g h = h
fits_flag types false o e f v g h = h

tied : (types : List TypeDecl) (es : Eqns) (names : Names) (now : Instant) (x : List ℕ) (c : Cons) (k : Clock) → IsTrue (some_defines es x) → (is_cons types (inside es names now x) c && holds types k (inside es names now)) ≡ (is_cons types (now (Named x ∷ [])) c && holds types k (inside es names now))
tied types es names now x c k h = ap (λ d. is_cons types (if d then now (Named x ∷ []) else names x) c && holds types k (inside es names now)) h

module _ (types : List TypeDecl) (nils : Bool) (u : Value → Value) (N : Nodes) (among : List ℕ → Option Node) (fits given : List ℕ → Instant → Type 0) (known : Callees types nils (reading u) N among fits given) where
  abbrev Known : Scope → Standing → Classes → Lasts → Names → Names → List Presence → Type 0
  Known s st second lasts names last ws = NamesKnown All types nils u N among fits given known s st second lasts nowhere names last ws

  abbrev pub Outside : Block → Scope → Standing → Classes → Names → Past → Type 0
  Outside b s st second names past = Outer All types nils u N among fits given known b s st second nowhere names past

  not_there : (d : Bool) (Q : Instant → Type 0) (i j : Instant) → (IsTrue d → Q i) → ((p : Place) → i p ≡ (if d then j else nothing) p) → IsThere d Q i
  not_there true Q i j f m = f refl
  not_there false Q i j f m = m

  -- ---- conditions of transitions

  tests_all : (s : Scope) (st : Standing) (second : Classes) (lasts : Lasts) (names last : Names) (ws : List Presence) → Known s st second lasts names last ws → HasLasts types s lasts last → EachPresence ws → (ts : List Trans) (g : Given) (now : Instant) → TestsOk types among s second lasts ts → ConditionsOn st ts → TestsGiven types nils u given s ts g.free → Along (λ w i. TestsFit types nils fits s second w ts i) ws g.past → ((p : Place) → now p ≡ in_row (conditions types (reading u) N ts names last g now) p) → TestsFit types nils fits s second (λ c. holds types c names) ts now
  tests_all s st second lasts names last ws nk hl wk [] g now ok on gv past m = tt
  tests_all s st second lasts names last ws nk hl wk (t ∷ ts) g now ok on gv past m = (
    expr_all types nils u N among fits given known s st second lasts names last ws nk (last_is All types nils u N among fits given known s st second lasts nowhere names last ws nk hl wk) wk t.cond ty.Bool [] (at Head g) (part Head now) ok.0.1.1 on.0 ok.0.0 gv.0 (along_part _ _ Head ws g.past (λ w i z. z.0) past) (λ p. m (Head ∷ p)),
    tests_all s st second lasts names last ws nk hl wk ts (at Tail g) (part Tail now) ok.1 on.1 gv.1 (along_part _ _ Tail ws g.past (λ w i z. z.1) past) (λ p. m (Tail ∷ p)),
  )

  abbrev without_past : Given → Given
  without_past g = record { past = []; free = g.free }

  -- a plain expression does not look at the past
  plain_same : (e : Expr) (clock : Clock) (names last : Names) (g : Given) (now : Instant) → PlainExpr e → expr types (reading u) N e clock names last g now ≡ expr types (reading u) N e clock names last (without_past g) now
  plain_same (constant a c) clock names last g now h = refl
  plain_same (variable a x) clock names last g now h = refl
  plain_same (last_of a x) clock names last g now h = refl
  plain_same (one a o d) clock names last g now h =
      ap (λ i. with_one (one_marked o (top i)) i) (plain_same d clock names last (at First g) (part First now) h)
  plain_same (two a o d e) clock names last g now h =
      ap₂ (λ i j. with_two (two_marked o (top g.free) (top i) (top j)) i j) (plain_same d clock names last (at First g) (part First now) h.0) (plain_same e clock names last (at Second g) (part Second now) h.1)
  plain_same (choose a d e f) clock names last g now h =
      let x = plain_same d clock names last (at First g) (part First now) h.0 in
      let y = plain_same e clock names last (at Second g) (part Second now) h.1.0 in
      let z = plain_same f clock names last (at Third g) (part Third now) h.1.1 in
      λ r. with_three (if_of (top (x r)) (top (y r)) (top (z r))) (x r) (y r) (z r)
  plain_same (pre a d) clock names last g now h = absurd h
  plain_same (fby a d e) clock names last g now h = absurd h
  plain_same (arrow a d e) clock names last g now h = absurd h
  plain_same (when_is a d c x) clock names last g now h = absurd h
  plain_same (merge a x ps) clock names last g now h = absurd h
  plain_same (call a f i es) clock names last g now h = absurd h

  plain_row : (ts : List Trans) (names last : Names) (g : Given) (now : Instant) → PlainTests ts → conditions types (reading u) N ts names last g now ≡ conditions types (reading u) N ts names last (without_past g) now
  plain_row [] names last g now h = refl
  plain_row (t ∷ ts) names last g now h =
      ap₂ (λ i is. i ∷ is) (plain_same t.cond [] names last (at Head g) (part Head now) h.0) (plain_row ts names last (at Tail g) (part Tail now) h.1)

  -- weak conditions, read in the body of their state
  until_fits : (b : Block) (s : Scope) (st : Standing) (second : Classes) (lasts : Lasts) (class : Assignment) (names last : Names) (g : Given) (now : Instant) → BlockRight st b → BlockOk types among s second lasts class b → Each (BlockLoose types nils fits s second class b) g.past → Outside b s st second names g.past → HasLasts types s lasts last → ((p : Place) → block_asks types nils fits b s class names last g now p (now p)) → (ts : List Trans) (h : Given) (i : Instant) → TestsOk types among (inside_block s b) (classes_of b second class) (lasts_of b lasts) ts → ConditionsOn (standing_of b st) ts → TestsGiven types nils u given (inside_block s b) ts h.free → PlainTests ts → ((p : Place) → i p ≡ in_row (conditions types (reading u) N ts (read_in types (reading u) N b names now) (last_in types (reading u) N b g.past last) h i) p) → TestsFit types nils fits (inside_block s b) (classes_of b second class) (held types nils fits (names_inside types nils fits b names now)) ts i
  until_fits (block ds es) s st second lasts class names last g now on ok a outer hl T ts h i tok ton tgv plain m =
      let pr = pasts_of All types nils u N among fits given known ds es s second class g.past a in
      let nk = names_here All types nils u N among fits given known ds es s st second lasts class names last g.past on ok a pr nowhere no_place g.free now outer (λ p z. T p) in
      tests_all (with_variables s ds) (standing_in ds es st) (classes_in es second class) (lasts_in ds lasts) (inside es names now) (lasts_said (λ (k : Const). marked (constant_of types k)) ds g.past last) []
      (λ x c t q l z.
      fits_flag types (holds types c (inside es names now)) (Some t) (classes_in es second class x && (none_held pr.0 c && nils)) (classes_in es second class x && (true && nils)) (inside es names now x)
      (λ r. and_both (classes_in es second class x) nils (and_left (classes_in es second class x) _ r) (and_right (none_held pr.0 c) nils (and_right (classes_in es second class x) _ r)))
      (nk x c t q l (all_within (names_in es nowhere no_place x))))
      (lasts_here All types nils u N among fits given known ds es s st second lasts class names last g.past on ok a pr hl) tt
      ts (without_past h) i tok ton tgv tt
      (λ p. m p ∙ ap (λ r. in_row r p) (plain_row ts (inside es names now) (lasts_said (λ (k : Const). marked (constant_of types k)) ds g.past last) h i plain))

  mutual
    pub block_all : (b : Block) (s : Scope) (st : Standing) (second : Classes) (lasts : Lasts) (class : Assignment) (names last : Names) (fresh : Bool) (g : Given) (now : Instant) → IsPlain b → BlockRight st b → BlockOk types among s second lasts class b → BlockGiven types nils u given s b g.free → Each (BlockLoose types nils fits s second class b) g.past → Outside b s st second names g.past → HasLasts types s lasts last → ((p : Place) → now p ≡ scope types (reading u) N b fresh names last g now p) → ((p : Place) → block_asks types nils fits b s class names last g now p (now p)) → BlockFits types nils fits s second class names b now
    block_all (block ds es) s st second lasts class names last fresh g now low on ok gv a outer hl m T =
        let pr = pasts_of All types nils u N among fits given known ds es s second class g.past a in
        let nk = names_here All types nils u N among fits given known ds es s st second lasts class names last g.past on ok a pr nowhere no_place g.free now outer (λ p z. T p) in (
          (λ x. (
            fits_flag types (some_defines es x && holds types (clock_in ds x) (inside es names now)) (lookup (with_variables s ds).variables x) _ (class (Named x ∷ []) && nils) (now (Named x ∷ []))
                (λ z. and_both (class (Named x ∷ [])) nils (and_left (class (Named x ∷ [])) _ z) (and_right _ nils (and_right (class (Named x ∷ [])) _ z))) (T (Named x ∷ [])),
            (λ h c k. tied types es names now x c k h),
          )),
          (
            (fresh, m (Fresh ∷ [])),
            eqns_all ds (with_variables s ds) (standing_in ds es st) (classes_in es second class) (lasts_in ds lasts) (inside es names now) (lasts_said (λ (k : Const). marked (constant_of types k)) ds g.past last) pr.0
                (λ x c t q l h. nk x c t q l (all_within (names_in es nowhere no_place x)))
                (lasts_here All types nils u N among fits given known ds es s st second lasts class names last g.past on ok a pr hl) pr.1.0
                es (λ q. class (Equations ∷ q)) (at Equations g) (part Equations now) low on.1 ok.1.1 gv (along_part _ _ Equations pr.0 g.past (λ w i z. z.1) pr.1.1) (λ q. m (Equations ∷ q)) (λ q. T (Equations ∷ q)),
          ),
        )

    eqns_all : (ds : List Decl) (s : Scope) (st : Standing) (second : Classes) (lasts : Lasts) (names last : Names) (ws : List Presence) → Known s st second lasts names last ws → HasLasts types s lasts last → EachPresence ws → (es : Eqns) (class : Assignment) (g : Given) (now : Instant) → AllPlain es → AllRight st ds es → EqnsOk types among s second lasts class es → EqnsGiven types nils u given s es g.free → Along (λ w i. EqnsLoose types nils fits ds s second class w es i) ws g.past → ((p : Place) → now p ≡ equations types (reading u) N ds es names last g now p) → ((p : Place) → eqns_ask types nils fits es s class names last g now p (now p)) → EqnsFit types nils fits ds s second class names es now
    eqns_all ds s st second lasts names last ws nk hl wk no_eqn class g now low on ok gv a m T = tt
    eqns_all ds s st second lasts names last ws nk hl wk (more_eqns e es) class g now low on ok gv a m T = (
      eqn_all ds s st second lasts names last ws nk hl wk e (λ q. class (Head ∷ q)) (at Head g) (part Head now) low.0 on.0 ok.0 gv.0 (along_part _ _ Head ws g.past (λ w i z. z.0) a) (λ q. m (Head ∷ q)) (λ q. T (Head ∷ q)),
      eqns_all ds s st second lasts names last ws nk hl wk es (λ q. class (Tail ∷ q)) (at Tail g) (part Tail now) low.1 on.1 ok.1 gv.1 (along_part _ _ Tail ws g.past (λ w i z. z.1) a) (λ q. m (Tail ∷ q)) (λ q. T (Tail ∷ q)),
    )

    eqn_all : (ds : List Decl) (s : Scope) (st : Standing) (second : Classes) (lasts : Lasts) (names last : Names) (ws : List Presence) → Known s st second lasts names last ws → HasLasts types s lasts last → EachPresence ws → (e : Eqn) (class : Assignment) (g : Given) (now : Instant) → OnePlain e → OneRight st ds e → EqnOk types among s second lasts class e → EqnGiven types nils u given s e g.free → Along (λ w i. EqnLoose types nils fits ds s second class w e i) ws g.past → ((p : Place) → now p ≡ equation types (reading u) N ds e names last g now p) → ((p : Place) → eqn_asks types nils fits e s class names last g now p (now p)) → EqnFits types nils fits ds s second class names e now
    eqn_all ds s st second lasts names last ws nk hl wk (define a ys e) class g now low on ok gv past m T =
        right_all types nils u N among fits given known s st second lasts names last ws nk (last_is All types nils u N among fits given known s st second lasts nowhere names last ws nk hl wk) wk ys e (clock_of ds ys e) (at Right g) (part Right now) on.2 ok gv (along_part _ _ Right ws g.past (λ w i z. z) past) (λ p. m (Right ∷ p))
    eqn_all ds s st second lasts names last ws nk hl wk (switch a e arms) class g now low on ok gv past m T = (
      expr_all types nils u N among fits given known s st second lasts names last ws nk (last_is All types nils u N among fits given known s st second lasts nowhere names last ws nk hl wk) wk e ok.1.1.0.0 [] (at Test g) (part Test now) ok.1.1.0.1.0 on.1 ok.0 gv.0 (along_part _ _ Test ws g.past (λ w i z. z.0) past) (λ p. m (Test ∷ p)),
      (
        last,
        arms_all (switch a e arms) s st (classes_within (switch a e arms) second) lasts (within (switch a e arms) names last) last ws hl wk
            (λ b past c f x t y q l h. outer_of All types nils u N among fits given known ds s st lasts last ws hl wk second nowhere names nk (switch a e arms) b past c f x t y q l (all_within (names_within (switch a e arms) nowhere x)))
            arms (now (Test ∷ [])) (now (Test ∷ [])) (λ q. class (ArmsOf ∷ q)) (at ArmsOf g) (part ArmsOf now) low on.2 ok.1.1.1 gv.1 (along_part _ _ ArmsOf ws g.past (λ w i z. z.1) past) refl
            (λ q. subst (λ z. now (ArmsOf ∷ q) ≡ arm types (reading u) N arms z (within (switch a e arms) names last) last (at ArmsOf g) (part ArmsOf now) q) (sym (m (Test ∷ []))) (m (ArmsOf ∷ q))) (λ q. T (ArmsOf ∷ q)),
      ),
    )
    eqn_all ds s st second lasts names last ws nk hl wk (reset a b e) class g now low on ok gv past m T =
        let fresh = is_true (now (Test ∷ [])) in (
          expr_all types nils u N among fits given known s st second lasts names last ws nk (last_is All types nils u N among fits given known s st second lasts nowhere names last ws nk hl wk) wk e ty.Bool [] (at Test g) (part Test now) ok.0.1.1 on.1 ok.0.0 gv.0 (along_part _ _ Test ws g.past (λ w i z. z.0) past) (λ p. m (Test ∷ p)),
          (
            last,
            block_all b s st (classes_within (reset a b e) second) lasts (λ q. class (Body ∷ q)) (within (reset a b e) names last) last fresh (since fresh (at Body g)) (part Body now) low on.2 ok.1 gv.1
                (each_since _ fresh (parts Body g.past) (each_part _ (BlockLoose types nils fits s (classes_within (reset a b e) second) (λ q. class (Body ∷ q)) b) Body ws g.past (λ w i z. (true, z.1)) past))
                (λ x t y q l h. outer_of All types nils u N among fits given known ds s st lasts last ws hl wk second nowhere names nk (reset a b e) b (since fresh (at Body g)).past (λ x z. inl z)
                (λ z. empty_since fresh (parts Body g.past) (empty_parts Body g.past (none_base _ ws g.past wk past z))) x t y q l (all_within (names_within (reset a b e) nowhere x)))
                hl
                (λ q. subst (λ z. now (Body ∷ q) ≡ scope types (reading u) N b (is_true z) (within (reset a b e) names last) last (since (is_true z) (at Body g)) (part Body now) q) (sym (m (Test ∷ []))) (m (Body ∷ q)))
                (λ q. T (Body ∷ q)),
          ),
        )
    eqn_all ds s st second lasts names last ws nk hl wk (automaton a ss) class g now low on ok gv past m T =
        let j = strong types (reading u) N ss ss 0 (selected g.past) names last (at StatesOf g) (part StatesOf now) in
        let below = strong_below All types nils u N among fits given known s st second lasts nowhere names last ws nk hl wk ss ss 0 (selected g.past) (at StatesOf g) (part StatesOf now) (selected_below All types nils u N among fits given known s st second lasts nowhere names last ws nk hl wk ds class a ss ws g.past low.0 past) in (
          (j.state, (m (Active ∷ []), below)),
          (
            (_, (m (Next ∷ []), weak_below All types nils u N among fits given known s st second lasts nowhere names last ws nk hl wk (within (automaton a ss) names last) ss ss 0 j (at StatesOf g) (part StatesOf now) below)),
            (
              ((weak types (reading u) N ss ss 0 j (within (automaton a ss) names last) last (at StatesOf g) (part StatesOf now)).restart, m (Pending ∷ [])),
              (
                last,
                subst (λ z. StatesFit types nils fits s second (classes_within (automaton a ss) second) (λ q. class (StatesOf ∷ q)) names (within (automaton a ss) names last) z 0 ss (part StatesOf now)) (sym (m (Active ∷ [])))
                    (states_all (automaton a ss) s st second (classes_within (automaton a ss) second) lasts names (within (automaton a ss) names last) last ws nk hl wk
                    (λ b past c f x t y q l h. outer_of All types nils u N among fits given known ds s st lasts last ws hl wk second nowhere names nk (automaton a ss) b past c f x t y q l (all_within (names_within (automaton a ss) nowhere x)))
                    ss 0 j (now (Active ∷ [])) (λ q. class (StatesOf ∷ q)) (at StatesOf g) (part StatesOf now) low.1 on.1 ok gv (along_part _ _ StatesOf ws g.past (λ w i z. z.1.1) past) (m (Active ∷ [])) (λ q. m (StatesOf ∷ q)) (λ q. T (StatesOf ∷ q))),
              ),
            ),
          ),
        )

    arms_all : (o : Eqn) (s : Scope) (st : Standing) (second : Classes) (lasts : Lasts) (names last : Names) (ws : List Presence) → HasLasts types s lasts last → EachPresence ws → ((b : Block) (past : Past) → Completes types among o lasts b → (IsTrue (none_held ws []) → IsTrue (is_empty past)) → Outside b s st second names past) → (arms : Arms) (v w : Value) (class : Assignment) (g : Given) (now : Instant) → ArmsPlain arms → ArmsRight st arms → ArmsOk types among o s second lasts class arms → ArmsGiven types nils u given s arms g.free → Along (λ w i. ArmsLoose types nils fits s second class arms i) ws g.past → w ≡ v → ((p : Place) → now p ≡ arm types (reading u) N arms v names last g now p) → ((p : Place) → arms_ask types nils fits arms w s class names last g now p (now p)) → ArmsFit types nils fits s second class names v arms now
    arms_all o s st second lasts names last ws hl wk out no_arm v w class g now low on ok gv past e m T = tt
    arms_all o s st second lasts names last ws hl wk out (more_arms c b a arms) v w class g now low on ok gv past e m T = (
      not_there (is_cons types v c) (BlockFits types nils fits s second (λ q. class (Head ∷ q)) names b) (part Head now) _
          (λ y.
          block_all b s st second lasts (λ q. class (Head ∷ q)) names last false (since false (at Head g)) (part Head now) low.0 on.0 ok.1.0 gv.0
          (own_all _ (parts Head g.past) (each_part _ (BlockLoose types nils fits s second (λ q. class (Head ∷ q)) b) Head ws g.past (λ w i z. z.0) past))
          (out b (own (parts Head g.past)) ok.0 (λ z. empty_own (parts Head g.past) (empty_parts Head g.past (none_base _ ws g.past wk past z))))
          hl
          (λ q. there_is All types nils u N among fits given known (is_cons types v c) (part Head now) _ q y (m (Head ∷ q)))
          (λ q. T (Head ∷ q) (subst (λ z. IsTrue (is_cons types z c)) (sym e) y)))
          (λ q. m (Head ∷ q)),
      arms_all o s st second lasts names last ws hl wk out arms v w (λ q. class (Tail ∷ q)) (at Tail g) (part Tail now) low.1 on.1 ok.1.1 gv.1 (along_part _ _ Tail ws g.past (λ w i z. z.1) past) e (λ q. m (Tail ∷ q)) (λ q. T (Tail ∷ q)),
    )

    states_all : (o : Eqn) (s : Scope) (st : Standing) (outside second : Classes) (lasts : Lasts) (onames names last : Names) (ws : List Presence) → Known s st outside lasts onames last ws → HasLasts types s lasts last → EachPresence ws → ((b : Block) (past : Past) → Completes types among o lasts b → (IsTrue (none_held ws []) → IsTrue (is_empty past)) → Outside b s st second names past) → (ss : States) (i : ℕ) (j : Jump) (w : Value) (class : Assignment) (g : Given) (now : Instant) → StatesPlain ss → StatesRight st ss → StatesOk types among o s outside second lasts class ss → StatesGiven types nils u given s ss g.free → Along (λ w i. StatesLoose types nils fits s outside second class w ss i) ws g.past → w ≡ state_word j.state → ((p : Place) → now p ≡ states types (reading u) N ss i j onames names last g now p) → ((p : Place) → states_ask types nils fits ss i w s class names last g now p (now p)) → StatesFit types nils fits s outside second class onames names (state_word j.state) i ss now
    states_all o s st outside second lasts onames names last ws nk hl wk out no_state i j w class g now low on ok gv past e m T = tt
    states_all o s st outside second lasts onames names last ws nk hl wk out (more_states f b until unless a ss) i j w class g now low on ok gv past e m T =
        let d = nat_eq i j.state in
        let now' = part Head now in
        let gb = since j.restart (at Body (at Head g)) in
        let said = λ (x : IsTrue d) (q : Place). there_is All types nils u N among fits given known d (part Body now') _ q x (m (Head ∷ Body ∷ q)) in
        let same = λ (x : IsTrue d). ap is_true (said x (Fresh ∷ []) ∙ scope_fresh All types nils u N among fits given known b j.restart names last gb (part Body now')) in
        let before' = each_since _ j.restart (parts Body (parts Head g.past)) (each_part2 _ (BlockLoose types nils fits s second (λ q. class (Head ∷ Body ∷ q)) b) Head Body ws g.past (λ w i z. (z.0.0.0, z.0.0.1.0)) past) in
        let outer' = out b gb.past ok.0 (λ z. empty_since j.restart (parts Body (parts Head g.past)) (empty_parts Body (parts Head g.past) (empty_parts Head g.past (none_base _ ws g.past wk past z)))) in
        let asks = λ (x : IsTrue d) (q : Place). subst (λ z. block_asks types nils fits b s (λ q. class (Head ∷ Body ∷ q)) names last (since z (at Body (at Head g))) (part Body now') q (now (Head ∷ Body ∷ q))) (same x) (T (Head ∷ Body ∷ q) (subst (λ z. IsTrue (nat_eq i (state_of z))) (sym e) x)) in (
          (
            not_there d (BlockFits types nils fits s second (λ q. class (Head ∷ Body ∷ q)) names b) (part Body now') _
                (λ x. block_all b s st second lasts (λ q. class (Head ∷ Body ∷ q)) names last j.restart gb (part Body now') low.0 on.0 ok.1.0 gv.0 before' outer' hl (said x) (asks x))
                (λ q. m (Head ∷ Body ∷ q)),
            (
              not_there d _ (part Until now') _
                  (λ x. until_fits b s st second lasts (λ q. class (Head ∷ Body ∷ q)) names last gb (part Body now') on.0 ok.1.0 before' outer' hl (asks x) until (at Until (at Head g)) (part Until now') ok.1.1.0 on.1 gv.1.0 low.1.0
                  (λ q. there_is All types nils u N among fits given known d (part Until now') _ q x (m (Head ∷ Until ∷ q))))
                  (λ q. m (Head ∷ Until ∷ q)),
              tests_all s st outside lasts onames last ws nk hl wk unless (at Unless (at Head g)) (part Unless now') ok.1.1.1.0 on.2 gv.1.1.0 (along_part _ _ Unless ws (parts Head g.past) (λ w i z. z) (along_part _ (λ w i. TestsFit types nils fits s outside w unless (part Unless i)) Head ws g.past (λ w i z. z.0.1) past)) (λ q. m (Head ∷ Unless ∷ q)),
            ),
          ),
          states_all o s st outside second lasts onames names last ws nk hl wk out ss (suc i) j w (λ q. class (Tail ∷ q)) (at Tail g) (part Tail now) low.1.1 on.3 ok.1.1.1.1 gv.1.1.1 (along_part _ _ Tail ws g.past (λ w i z. z.1) past) e (λ q. m (Tail ∷ q)) (λ q. T (Tail ∷ q)),
        )

  -- the same of a block with its clocks, where those of its past are given
  pub block_at : (ds : List Decl) (es : Eqns) (s : Scope) (st : Standing) (second : Classes) (lasts : Lasts) (class : Assignment) (names last : Names) (fresh : Bool) (g : Given) (now : Instant) → IsPlain (block ds es) → BlockRight st (block ds es) → BlockOk types among s second lasts class (block ds es) → BlockGiven types nils u given s (block ds es) g.free → Each (BlockLoose types nils fits s second class (block ds es)) g.past → (ws : List Presence) × (EachPresence ws × Along (λ w i. BlockAt types nils fits s second class w (block ds es) i) ws g.past) → Outside (block ds es) s st second names g.past → HasLasts types s lasts last → ((p : Place) → now p ≡ scope types (reading u) N (block ds es) fresh names last g now p) → ((p : Place) → block_asks types nils fits (block ds es) s class names last g now p (now p)) → BlockFits types nils fits s second class names (block ds es) now
  block_at ds es s st second lasts class names last fresh g now low on ok gv a pr outer hl m T =
      let nk = names_here All types nils u N among fits given known ds es s st second lasts class names last g.past on ok a pr nowhere no_place g.free now outer (λ p z. T p) in (
        (λ x. (
          fits_flag types (some_defines es x && holds types (clock_in ds x) (inside es names now)) (lookup (with_variables s ds).variables x) _ (class (Named x ∷ []) && nils) (now (Named x ∷ []))
              (λ z. and_both (class (Named x ∷ [])) nils (and_left (class (Named x ∷ [])) _ z) (and_right _ nils (and_right (class (Named x ∷ [])) _ z))) (T (Named x ∷ [])),
          (λ h c k. tied types es names now x c k h),
        )),
        (
          (fresh, m (Fresh ∷ [])),
          eqns_all ds (with_variables s ds) (standing_in ds es st) (classes_in es second class) (lasts_in ds lasts) (inside es names now) (lasts_said (λ (k : Const). marked (constant_of types k)) ds g.past last) pr.0
              (λ x c t q l h. nk x c t q l (all_within (names_in es nowhere no_place x)))
              (lasts_here All types nils u N among fits given known ds es s st second lasts class names last g.past on ok a pr hl) pr.1.0
              es (λ q. class (Equations ∷ q)) (at Equations g) (part Equations now) low on.1 ok.1.1 gv (along_part _ _ Equations pr.0 g.past (λ w i z. z.1) pr.1.1) (λ q. m (Equations ∷ q)) (λ q. T (Equations ∷ q)),
        ),
      )

  abbrev pub told : Option Expr → Names → Names → Given → Instant → Instant
  told None names last g now = nothing
  told (Some e) names last g now = expr types (reading u) N e [] names last g now

  -- an expression that is told of a block, or none
  pub told_at : (ds : List Decl) (es : Eqns) (s : Scope) (st : Standing) (second : Classes) (lasts : Lasts) (class : Assignment) (names last : Names) (g : Given) (now : Instant) → BlockRight st (block ds es) → BlockOk types among s second lasts class (block ds es) → Each (BlockLoose types nils fits s second class (block ds es)) g.past → (pr : (ws : List Presence) × (EachPresence ws × Along (λ w i. BlockAt types nils fits s second class w (block ds es) i) ws g.past)) → Outside (block ds es) s st second names g.past → HasLasts types s lasts last → ((p : Place) → block_asks types nils fits (block ds es) s class names last g now p (now p)) → (e : Option Expr) (h : Given) (i : Instant) → ToldOk types among (with_variables s ds) (classes_in es second class) (lasts_in ds lasts) e → TellsOnBase (standing_in ds es st) e → ToldGiven types nils u given (with_variables s ds) e h.free → Along (λ w i. ToldFits types nils fits (with_variables s ds) (classes_in es second class) w e i) pr.0 h.past → ((p : Place) → i p ≡ told e (inside es names now) (lasts_said (λ (k : Const). marked (constant_of types k)) ds g.past last) h i p) → ToldFits types nils fits (with_variables s ds) (classes_in es second class) (λ c. holds types c (inside es names now)) e i
  told_at ds es s st second lasts class names last g now on ok a pr outer hl T None h i tok ton tgv past m = m
  told_at ds es s st second lasts class names last g now on ok a pr outer hl T (Some e) h i tok ton tgv past m =
      let nk = names_here All types nils u N among fits given known ds es s st second lasts class names last g.past on ok a pr nowhere no_place g.free now outer (λ p z. T p) in
      let nk' : Known (with_variables s ds) (standing_in ds es st) (classes_in es second class) (lasts_in ds lasts) (inside es names now) (lasts_said (λ (k : Const). marked (constant_of types k)) ds g.past last) pr.0 = λ x c t q l z. nk x c t q l (all_within (names_in es nowhere no_place x)) in
      let hl' = lasts_here All types nils u N among fits given known ds es s st second lasts class names last g.past on ok a pr hl in
      expr_all types nils u N among fits given known (with_variables s ds) (standing_in ds es st) (classes_in es second class) (lasts_in ds lasts) (inside es names now) (lasts_said (λ (k : Const). marked (constant_of types k)) ds g.past last) pr.0 nk'
      (last_is All types nils u N among fits given known (with_variables s ds) (standing_in ds es st) (classes_in es second class) (lasts_in ds lasts) nowhere (inside es names now) (lasts_said (λ (k : Const). marked (constant_of types k)) ds g.past last) pr.0 nk' hl' pr.1.0) pr.1.0
      e ty.Bool [] h i tok.1.1 ton tok.0 tgv past m
