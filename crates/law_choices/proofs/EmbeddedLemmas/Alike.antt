-- A part that calls nothing means the same where the names that stand on clocks around it have the same values.
use Rattle.std.proofs.Common.{◌≡◌, ℕ, suc, List, [], ◌∷◌, map, refl, sym, ap, ap₂, subst, ◌∙◌}
use Rattle.std.proofs.Math.Path.{fun_ext}
use Rattle.std.specs.Prelude.{Bool, true, false, ◌&&◌, if◌then◌else◌, nat_eq, Option, None, Some}
use Rattle.hp_base.specs.declared.span.Span.{Span}
use Rattle.hp_base.specs.declared.value.Value.{Value}
use Rattle.hp_base.specs.declared.value.Value.TheVariants.{Absent, Nil, B}
use Rattle.hp_tree.specs.declared.block.Trans.{Trans}
use Rattle.hp_tree.specs.Expressions.{Expr, constant, variable, last_of, one, two, choose, pre, fby, arrow, when_is, merge, call, Parts, no_part, more_parts}
use Rattle.hp_tree.specs.Blocks.{Decl, Block, block, Eqns, no_eqn, more_eqns, Eqn, define, switch, reset, automaton, Arms, no_arm, more_arms, States, no_state, more_states}
use Rattle.hp_tree.specs.Programs.{TypeDecl}
use Rattle.hp_tree.specs.Operators.{real, is_cons, is_true, if_of, constant_of}
use Rattle.hp_tree.specs.Instant.{Body, Named, Equations, Head, Tail, Right, Test, Arms as ArmsOf, States as StatesOf, Until, Unless, First, Second, Third, Args, Instant, Past, part, parts, top, since, own, newest, at_first, nothing, alone, with_one, with_two, with_three, in_row, with_row, of_two, in_block, in_right, with_arms, with_body, in_state, with_words, Clock, holds, without}
use Rattle.hp_tree.specs.Meaning.{Names, Nodes, defines, some_defines, inside, within, lasts, clock_in, clock_of, Jump, state_word, selected, first_true, from_state, expr, merged, conditions, strong, weak, from_arm, right, gives, defined, scope, equations, equation, arm, states}
use Rattle.hp_meaning.specs.Causal.Clocked.{AllRight, ArmsRight, BlockRight, ClockRight, ConditionsOn, IsOn, OneRight, PartsOn, Standing, StatesRight, base_alone, standing_in}
use Rattle.hp_meaning.proofs.CausalLemmas.Choices.{chosen}
use Rattle.hp_meaning.proofs.CausalLemmas.Swap.{given}
use Rattle.law_drawing.proofs.SteeredLemmas.Uncalled.{CallsNothing, PartsCallNothing, ConditionsCallNothing, BlockCallsNothing, EqnsCallNothing, EqnCallsNothing, ArmsCallNothing, StatesCallNothing}
use Rattle.law_choices.proofs.ObservedLemmas.Clocks.{of_same}

-- names that stand on clocks have the same values
abbrev pub Alike : Standing → Names → Names → Type 0
Alike on names others = (x : List ℕ) (clock : Clock) → on x ≡ Some clock → names x ≡ others x

within_alike : (on : Standing) (names others last : Names) → Alike on names others → (e : Eqn) → Alike on (within e names last) (within e others last)
within_alike on names others last agree e x clock h = ap (λ v. if defines e x then last x else v) (agree x clock h)

pub inside_alike : (on : Standing) (names others : Names) → Alike on names others → (ds : List Decl) (es : Eqns) (now : Instant) → Alike (standing_in ds es on) (inside es names now) (inside es others now)
inside_alike on names others agree ds es now x clock h = by (some_defines es x) h
  where
    base : (o : Option Clock) → on x ≡ o → base_alone o ≡ Some clock → names x ≡ others x
    base None e q = absurd cc
    base (Some []) e q = agree x [] e
    base (Some (s ∷ more)) e q = absurd cc

    by : (d : Bool) → (if d then Some (clock_in ds x) else base_alone (on x)) ≡ Some clock → (if d then now (Named x ∷ []) else names x) ≡ (if d then now (Named x ∷ []) else others x)
    by true q = refl
    by false q = base (on x) refl q

-- the value that a right side gives, where it calls nothing
pub right_top : (types : List TypeDecl) (L : Nodes) (ys : List (List ℕ × Span)) (e : Expr) (i : Instant) (x : List ℕ) → CallsNothing e → right types real L ys e i x ≡ top i
right_top types L ys (constant s c) i x k = refl
right_top types L ys (variable s y) i x k = refl
right_top types L ys (last_of s y) i x k = refl
right_top types L ys (one s o a) i x k = refl
right_top types L ys (two s o a b) i x k = refl
right_top types L ys (choose s a b c) i x k = refl
right_top types L ys (pre s a) i x k = refl
right_top types L ys (fby s a b) i x k = refl
right_top types L ys (arrow s a b) i x k = refl
right_top types L ys (when_is s a c y) i x k = refl
right_top types L ys (merge s y ps) i x k = refl
right_top types L ys (call s f inlined es) i x k = absurd k

module _ (types : List TypeDecl) (N M : Nodes) where
  -- ---- expressions

  module _ (on : Standing) (names others last : Names) (agree : Alike on names others) where
    clock_alike : (clock : Clock) → ClockRight on clock → holds types clock names ≡ holds types clock others
    clock_alike [] r = refl
    clock_alike (s ∷ clock) r = ap₂ (λ v b. is_cons types v s.0 && b) (agree s.1 clock r.0) (clock_alike clock r.1)

    mutual
      pub expr_alike : (e : Expr) (clock : Clock) (past : Past) (free other now : Instant) → ClockRight on clock → IsOn on e clock → CallsNothing e
          → expr types real N e clock names last (given past free) now ≡ expr types real M e clock others last (given past other) now
      expr_alike (constant s c) clock past free other now r h k = ap (λ b. alone (if b then real.constant (constant_of types c) else Absent)) (clock_alike clock r)
      expr_alike (variable s x) clock past free other now r h k = ap alone (agree x clock h)
      expr_alike (last_of s x) clock past free other now r h k = refl
      expr_alike (one s o a) clock past free other now r h k =
          let t = expr_alike a clock (parts First past) (part First free) (part First other) (part First now) r h k in
          λ d. with_one (real.one o (top (t d))) (t d)
      expr_alike (two s o a b) clock past free other now r h k =
          let t = expr_alike a clock (parts First past) (part First free) (part First other) (part First now) r h.0 k.0 in
          let u = expr_alike b clock (parts Second past) (part Second free) (part Second other) (part Second now) r h.1 k.1 in
          λ d. with_two (real.two o Nil (top (t d)) (top (u d))) (t d) (u d)
      expr_alike (choose s a b c) clock past free other now r h k =
          let t = expr_alike a clock (parts First past) (part First free) (part First other) (part First now) r h.0 k.0 in
          let u = expr_alike b clock (parts Second past) (part Second free) (part Second other) (part Second now) r h.1 k.1 in
          let w = expr_alike c clock (parts Third past) (part Third free) (part Third other) (part Third now) r h.2 k.2 in
          λ d. with_three (if_of (top (t d)) (top (u d)) (top (w d))) (t d) (u d) (w d)
      expr_alike (pre s a) clock past free other now r h k =
          ap₂ (λ b i. with_one (if b then newest Nil (parts First past) else Absent) i) (clock_alike clock r) (expr_alike a clock (parts First past) (part First free) (part First other) (part First now) r h k)
      expr_alike (fby s a b) clock past free other now r h k =
          let t = expr_alike a clock (parts First past) (part First free) (part First other) (part First now) r h.0 k.0 in
          let u = expr_alike b clock (parts Second past) (part Second free) (part Second other) (part Second now) r h.1 k.1 in
          let c = clock_alike clock r in
          λ d. with_two (if c d then at_first (parts First past) (top (t d)) (newest Nil (parts Second past)) else Absent) (t d) (u d)
      expr_alike (arrow s a b) clock past free other now r h k =
          let t = expr_alike a clock (parts First past) (part First free) (part First other) (part First now) r h.0 k.0 in
          let u = expr_alike b clock (parts Second past) (part Second free) (part Second other) (part Second now) r h.1 k.1 in
          λ d. with_two (at_first (parts First past) (top (t d)) (top (u d))) (t d) (u d)
      expr_alike (when_is s a c x) clock past free other now r h k =
          let outer = subst (ClockRight on) h.0 r in
          ap₂ (λ v i. with_one (if is_cons types v c then top i else Absent) i) (agree x (without clock) h.1) (expr_alike a (without clock) (parts First past) (part First free) (part First other) (part First now) outer.1 h.2 k)
      expr_alike (merge s x ps) clock past free other now r h k =
          ap₂ (λ v is. with_row (chosen types ps v is) is) (agree x clock h.0) (parts_alike ps x clock (parts Args past) (part Args free) (part Args other) (part Args now) (h.0, r) h.1 k)
      expr_alike (call s f inlined es) clock past free other now r h k = absurd k

      parts_alike : (ps : Parts) (x : List ℕ) (clock : Clock) (past : Past) (free other now : Instant) → (on x ≡ Some clock) × ClockRight on clock → PartsOn on x ps clock → PartsCallNothing ps
          → merged types real N ps x clock names last (given past free) now ≡ merged types real M ps x clock others last (given past other) now
      parts_alike no_part x clock past free other now r h k = refl
      parts_alike (more_parts c e ps) x clock past free other now r h k =
          ap₂ (λ i is. i ∷ is) (expr_alike e ((c, x) ∷ clock) (parts Head past) (part Head free) (part Head other) (part Head now) (r.0, r.1) h.0 k.0)
          (parts_alike ps x clock (parts Tail past) (part Tail free) (part Tail other) (part Tail now) r h.1 k.1)

    conditions_alike : (ts : List Trans) (past : Past) (free other now : Instant) → ConditionsOn on ts → ConditionsCallNothing ts
        → conditions types real N ts names last (given past free) now ≡ conditions types real M ts others last (given past other) now
    conditions_alike [] past free other now h k = refl
    conditions_alike (t ∷ ts) past free other now h k =
        ap₂ (λ i is. i ∷ is) (expr_alike t.cond [] (parts Head past) (part Head free) (part Head other) (part Head now) tt h.0 k.0)
        (conditions_alike ts (parts Tail past) (part Tail free) (part Tail other) (part Tail now) h.1 k.1)

    strong_alike : (all ss : States) (m : ℕ) (j : Jump) (past : Past) (free other now : Instant) → StatesRight on ss → StatesCallNothing ss
        → strong types real N all ss m j names last (given past free) now ≡ strong types real M all ss m j others last (given past other) now
    strong_alike all no_state m j past free other now h k = refl
    strong_alike all (more_states f b until unless s ss) m j past free other now h k =
        ap₂ (λ t w. if nat_eq m j.state then first_true all unless (map top t) j else w)
        (conditions_alike unless (parts Unless (parts Head past)) (part Unless (part Head free)) (part Unless (part Head other)) (part Unless (part Head now)) h.2 k.2)
        (strong_alike all ss (suc m) j (parts Tail past) (part Tail free) (part Tail other) (part Tail now) h.3 k.3)

    -- ---- definitions

    pub gives_alike : (ds more : List Decl) → ((x : List ℕ) → clock_in more x ≡ clock_in ds x) → (e : Eqn) (past : Past) (free other now : Instant) → OneRight on ds e → EqnCallsNothing e → (x : List ℕ)
        → gives types real N ds e names last (given past free) now x ≡ gives types real M more e others last (given past other) now x
    gives_alike ds more same (define s ys e) past free other now h k x =
        let clock = clock_of ds ys e in
        right_top types N ys e (expr types real N e clock names last (given (parts Right past) (part Right free)) (part Right now)) x k
        ∙ ap top (expr_alike e clock (parts Right past) (part Right free) (part Right other) (part Right now) h.0 h.2 k)
        ∙ ap (λ c. top (expr types real M e c others last (given (parts Right past) (part Right other)) (part Right now))) (sym (of_same ds more same ys e))
        ∙ sym (right_top types M ys e (expr types real M e (clock_of more ys e) others last (given (parts Right past) (part Right other)) (part Right now)) x k)
    gives_alike ds more same (switch s e arms) past free other now h k x =
        ap (λ t. from_arm types real N arms (top t) last (part ArmsOf now) x) (expr_alike e [] (parts Test past) (part Test free) (part Test other) (part Test now) tt h.1 k.0)
    gives_alike ds more same (reset s b e) past free other now h k x = refl
    gives_alike ds more same (automaton s ss) past free other now h k x =
        ap (λ (u : Jump). from_state ss 0 u.state last (part StatesOf now) x)
        (strong_alike ss ss 0 (selected past) (parts StatesOf past) (part StatesOf free) (part StatesOf other) (part StatesOf now) h.1 k)

    pub defined_alike : (ds more : List Decl) → ((x : List ℕ) → clock_in more x ≡ clock_in ds x) → (es : Eqns) (past : Past) (free other now : Instant) → AllRight on ds es → EqnsCallNothing es → (x : List ℕ)
        → defined types real N ds es names last (given past free) now x ≡ defined types real M more es others last (given past other) now x
    defined_alike ds more same no_eqn past free other now h k x = refl
    defined_alike ds more same (more_eqns e es) past free other now h k x =
        ap₂ (λ v w. if defines e x then v else w) (gives_alike ds more same e (parts Head past) (part Head free) (part Head other) (part Head now) h.0 k.0 x)
        (defined_alike ds more same es (parts Tail past) (part Tail free) (part Tail other) (part Tail now) h.1 k.1 x)

  -- ---- blocks

  mutual
    pub block_alike : (b : Block) (on : Standing) (names others last : Names) → Alike on names others → (fresh : Bool) (past : Past) (free other now : Instant) → BlockRight on b → BlockCallsNothing b
        → scope types real N b fresh names last (given past free) now ≡ scope types real M b fresh others last (given past other) now
    block_alike (block ds es) on names others last agree fresh past free other now h k =
        let inner = inside_alike on names others agree ds es now in
        let last' = lasts (λ c. real.constant (constant_of types c)) ds past last in
        ap₂ (λ f t. in_block f (B fresh) t)
        (fun_ext (λ x. ap (λ v. if some_defines es x then v else Absent)
        (defined_alike (standing_in ds es on) (inside es names now) (inside es others now) last' inner ds ds (λ y. refl) es (parts Equations past) (part Equations free) (part Equations other) (part Equations now) h.1 k x)))
        (equations_alike ds es (standing_in ds es on) (inside es names now) (inside es others now) last' inner (parts Equations past) (part Equations free) (part Equations other) (part Equations now) h.1 k)

    equations_alike : (ds : List Decl) (es : Eqns) (on : Standing) (names others last : Names) → Alike on names others → (past : Past) (free other now : Instant) → AllRight on ds es → EqnsCallNothing es
        → equations types real N ds es names last (given past free) now ≡ equations types real M ds es others last (given past other) now
    equations_alike ds no_eqn on names others last agree past free other now h k = refl
    equations_alike ds (more_eqns e es) on names others last agree past free other now h k =
        ap₂ of_two (equation_alike ds ds (λ y. refl) e on names others last agree (parts Head past) (part Head free) (part Head other) (part Head now) h.0 k.0)
        (equations_alike ds es on names others last agree (parts Tail past) (part Tail free) (part Tail other) (part Tail now) h.1 k.1)

    -- an equation, where declarations tell the same clocks
    pub equation_alike : (ds more : List Decl) → ((x : List ℕ) → clock_in more x ≡ clock_in ds x) → (e : Eqn) (on : Standing) (names others last : Names) → Alike on names others → (past : Past) (free other now : Instant) → OneRight on ds e → EqnCallsNothing e
        → equation types real N ds e names last (given past free) now ≡ equation types real M more e others last (given past other) now
    equation_alike ds more same (define s ys e) on names others last agree past free other now h k =
        ap in_right
        (expr_alike on names others last agree e (clock_of ds ys e) (parts Right past) (part Right free) (part Right other) (part Right now) h.0 h.2 k
        ∙ ap (λ c. expr types real M e c others last (given (parts Right past) (part Right other)) (part Right now)) (sym (of_same ds more same ys e)))
    equation_alike ds more same (switch s e arms) on names others last agree past free other now h k =
        let inner = within (switch s e arms) names last in
        let outer = within (switch s e arms) others last in
        let i = expr types real N e [] names last (given (parts Test past) (part Test free)) (part Test now) in
        ap (with_arms i) (arms_alike arms (top i) on inner outer last (within_alike on names others last agree (switch s e arms)) (parts ArmsOf past) (part ArmsOf free) (part ArmsOf other) (part ArmsOf now) h.2 k.1)
        ∙ ap (λ t. with_arms t (arm types real M arms (top t) outer last (given (parts ArmsOf past) (part ArmsOf other)) (part ArmsOf now)))
        (expr_alike on names others last agree e [] (parts Test past) (part Test free) (part Test other) (part Test now) tt h.1 k.0)
    equation_alike ds more same (reset s b e) on names others last agree past free other now h k =
        let inner = within (reset s b e) names last in
        let outer = within (reset s b e) others last in
        let i = expr types real N e [] names last (given (parts Test past) (part Test free)) (part Test now) in
        ap (with_body i)
        (block_alike b on inner outer last (within_alike on names others last agree (reset s b e)) (is_true (top i)) (if is_true (top i) then [] else own (parts Body past)) (part Body free) (part Body other) (part Body now) h.2 k.0)
        ∙ ap (λ t. with_body t (scope types real M b (is_true (top t)) outer last (since (is_true (top t)) (given (parts Body past) (part Body other))) (part Body now)))
        (expr_alike on names others last agree e [] (parts Test past) (part Test free) (part Test other) (part Test now) tt h.1 k.1)
    equation_alike ds more same (automaton s ss) on names others last agree past free other now h k =
        let inner = within (automaton s ss) names last in
        let outer = within (automaton s ss) others last in
        let agree' = within_alike on names others last agree (automaton s ss) in
        let past' = parts StatesOf past in
        let free' = part StatesOf free in
        let other' = part StatesOf other in
        let now' = part StatesOf now in
        let j = strong types real N ss ss 0 (selected past) names last (given past' free') now' in
        ap₂ (λ (w : Jump) (i : Instant). with_words (state_word j.state) (state_word w.state) (B w.restart) i)
        (weak_alike ss ss 0 j on inner outer last agree' past' free' other' now' h.1 k)
        (states_alike ss 0 j on names others inner outer last agree agree' past' free' other' now' h.1 k)
        ∙ ap (λ (u : Jump). with_words (state_word u.state) (state_word (weak types real M ss ss 0 u outer last (given past' other') now').state) (B (weak types real M ss ss 0 u outer last (given past' other') now').restart) (states types real M ss 0 u others outer last (given past' other') now'))
        (strong_alike on names others last agree ss ss 0 (selected past) past' free' other' now' h.1 k)

    arms_alike : (arms : Arms) (v : Value) (on : Standing) (names others last : Names) → Alike on names others → (past : Past) (free other now : Instant) → ArmsRight on arms → ArmsCallNothing arms
        → arm types real N arms v names last (given past free) now ≡ arm types real M arms v others last (given past other) now
    arms_alike no_arm v on names others last agree past free other now h k = refl
    arms_alike (more_arms c b s arms) v on names others last agree past free other now h k =
        ap₂ (λ i j. of_two (if is_cons types v c then i else nothing) j)
        (block_alike b on names others last agree false (own (parts Head past)) (part Head free) (part Head other) (part Head now) h.0 k.0)
        (arms_alike arms v on names others last agree (parts Tail past) (part Tail free) (part Tail other) (part Tail now) h.1 k.1)

    weak_alike : (all ss : States) (m : ℕ) (j : Jump) (on : Standing) (names others last : Names) → Alike on names others → (past : Past) (free other now : Instant) → StatesRight on ss → StatesCallNothing ss
        → weak types real N all ss m j names last (given past free) now ≡ weak types real M all ss m j others last (given past other) now
    weak_alike all no_state m j on names others last agree past free other now h k = refl
    weak_alike all (more_states f (block ds es) until unless s ss) m j on names others last agree past free other now h k =
        let body = part Body (part Head now) in
        ap₂ (λ t w. if nat_eq m j.state then first_true all until (map top t) (record { state = j.state; restart = false }) else w)
        (conditions_alike (standing_in ds es on) (inside es names body) (inside es others body) (lasts (λ c. real.constant (constant_of types c)) ds (since j.restart (given (parts Body (parts Head past)) (part Body (part Head free)))).past last)
        (inside_alike on names others agree ds es body) until (parts Until (parts Head past)) (part Until (part Head free)) (part Until (part Head other)) (part Until (part Head now)) h.1 k.1)
        (weak_alike all ss (suc m) j on names others last agree (parts Tail past) (part Tail free) (part Tail other) (part Tail now) h.3 k.3)

    states_alike : (ss : States) (m : ℕ) (j : Jump) (on : Standing) (out away names others last : Names) → Alike on out away → Alike on names others → (past : Past) (free other now : Instant) → StatesRight on ss → StatesCallNothing ss
        → states types real N ss m j out names last (given past free) now ≡ states types real M ss m j away others last (given past other) now
    states_alike no_state m j on out away names others last far agree past free other now h k = refl
    states_alike (more_states f (block ds es) until unless s ss) m j on out away names others last far agree past free other now h k =
        let body = part Body (part Head now) in
        let past' = if j.restart then [] else own (parts Body (parts Head past)) in
        let t = block_alike (block ds es) on names others last agree j.restart past' (part Body (part Head free)) (part Body (part Head other)) body h.0 k.0 in
        let u = conditions_alike (standing_in ds es on) (inside es names body) (inside es others body) (lasts (λ c. real.constant (constant_of types c)) ds past' last)
        (inside_alike on names others agree ds es body) until (parts Until (parts Head past)) (part Until (part Head free)) (part Until (part Head other)) (part Until (part Head now)) h.1 k.1 in
        let w = conditions_alike on out away last far unless (parts Unless (parts Head past)) (part Unless (part Head free)) (part Unless (part Head other)) (part Unless (part Head now)) h.2 k.2 in
        let v = states_alike ss (suc m) j on out away names others last far agree (parts Tail past) (part Tail free) (part Tail other) (part Tail now) h.3 k.3 in
        λ d. of_two (in_state (if nat_eq m j.state then t d else nothing) (if nat_eq m j.state then in_row (u d) else nothing) (in_row (w d))) (v d)
