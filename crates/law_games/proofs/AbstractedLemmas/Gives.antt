-- What an equation gives to a name fits, where the names that it reads fit, and the values of the name in its blocks.
use Rattle.std.proofs.Common.{◌≡◌, ℕ, suc, ◌+◌, ◌<◌, ◌≤◌, arith, List, [], ◌∷◌, map, refl, sym, ap, subst, ◌∙◌, ◌⊎◌, ⊎_elim}
use Rattle.std.specs.Prelude.{⊤, Bool, true, false, ◌&&◌, ◌||◌, not, IsTrue, IsFalse, if◌then◌else◌, nat_eq, Option, Some}
use Rattle.std.specs.Str.{bytes_eq}
use Rattle.std.proofs.lemmas.Slice.Eq.{bytes_eq-Decides}
use Rattle.std.proofs.lemmas.Bool.Decides.{nat_tests}
use Rattle.hp_base.specs.declared.ty.Const.{Const}
use Rattle.hp_base.specs.declared.span.Span.{Span}
use Rattle.hp_base.specs.declared.ty.Ty.{Ty}
use Rattle.hp_base.specs.declared.value.Value.{Value}
use Rattle.hp_base.specs.declared.value.Value.TheVariants.{Absent}
use Rattle.hp_tree.specs.Expressions.{Expr, constant, variable, last_of, one, two, choose, pre, fby, arrow, when_is, merge, call}
use Rattle.hp_tree.specs.declared.block.Trans.{Trans}
use Rattle.hp_tree.specs.Blocks.{Decl, Block, block, Eqns, no_eqn, more_eqns, Eqn, define, switch, reset, automaton, Arms, no_arm, more_arms, States, no_state, more_states}
use Rattle.hp_tree.specs.Programs.{TypeDecl, Node}
use Rattle.hp_tree.specs.Operators.{is_cons, is_true, constant_of, marked}
use Rattle.hp_tree.specs.Instant.{Body, Named, Equations, Head, Tail, Right, Test, Arms as ArmsOf, States as StatesOf, Active, Fresh, Args, Instance, Place, Instant, Past, Given, at, part, top, since, nothing, Clock, holds}
use Rattle.hp_tree.specs.Meaning.{Names, Nodes, names_of, declares, is_among, defines, some_defines, block_defines, inside, within, lasts as lasts_said, clock_in, clock_of, exprs, output_for, right, from_block, from_arm, gives, equation, Jump, state_word, state_of, selected, number_of, first_true, from_state, strong, weak}
use Rattle.hp_typing.specs.Scopes.{with_variables}
use Rattle.law_games.specs.Wiretyped.Typed.{IsWire}
use Rattle.hp_init.specs.Classes.{Classes, Assignment, is_second}
use Rattle.law_values.specs.Valued.Judged.{Lasts, LeftsAre, LeftsHave, HasState, of_arms, OnePlain}
use Rattle.law_values.proofs.ValuedLemmas.Both.{ExprOk, RightOk, LeftsFollow, OthersFirst, EqnOk, BlockOk, ArmsOk, StatesOk}
use Rattle.law_values.specs.Valued.Classed.{classes_within}
use Rattle.law_games.specs.Abstracted.Fitting.{Fits, Presence, OutputsFit, count}
use Rattle.law_games.proofs.AbstractedLemmas.Loose.{EqnLoose}
use Rattle.law_games.proofs.AbstractedLemmas.Laws.{true_or_false, and_left, and_right, and_both, or_either, value_of, never_nil, fits_true, true_fits, fits_weaker, is_one, covered, Along, none_held, EachPresence}
use Rattle.hp_base.specs.Known.Known.{lookup}
use Rattle.hp_typing.specs.Types.{type_of, types_in}
use Rattle.law_judged.specs.Typed.Scopes.{Scope}
use Rattle.hp_meaning.specs.Causal.Sources.{Sources, none, Within, NameSources, PlaceSources, below}
use Rattle.hp_meaning.specs.Causal.WhatIsRead.{of_expr, at_expr, of_definition, in_arms, in_states, in_equation}
use Rattle.hp_meaning.specs.Causal.Clocked.{Standing, IsOn, LeftsOn, OneRight}
use Rattle.law_games.specs.Abstracted.Given.{reading, ExprGiven, EqnGiven}
use Rattle.law_values.proofs.ValuedLemmas.Typed.{some_is, row_typed}
use Rattle.law_games.proofs.AbstractedLemmas.Scoped.{not_declared, not_declared_clock, never}
use Rattle.law_games.proofs.AbstractedLemmas.ExprTops.{Closed, Callees, along_part, along_same, NamesKnown, PastFits, Says, said, instance_of, past_of_instance, expr_top, exprs_tops, none_second}

pub is_not : (d : Bool) → IsTrue (not d) → IsFalse d
is_not true h = absurd (cc)
is_not false h = refl

-- ---- names on a left side

pub left_typed : (s : Scope) (ys : List (List ℕ × Span)) (x : List ℕ) (t : Ty) → IsTrue (is_among ys x) → LeftsHave s ys t → lookup s.variables x ≡ Some t
left_typed s [] x t h k = absurd (cc)
left_typed s (y ∷ ys) x t h k =
    or_either (bytes_eq y.0 x) (is_among ys x) h (λ e. subst (λ z. lookup s.variables z ≡ Some t) ((bytes_eq-Decides y.0 x).0 e) k.0) (λ e. left_typed s ys x t e k.1)

pub left_follows : (second : Classes) (ys : List (List ℕ × Span)) (x : List ℕ) (d : Bool) → IsTrue (is_among ys x) → LeftsFollow second ys d → IsTrue d → IsTrue (second x)
left_follows second [] x d h k g = absurd (cc)
left_follows second (y ∷ ys) x d h k g =
    or_either (bytes_eq y.0 x) (is_among ys x) h (λ e. subst (λ z. IsTrue (second z)) ((bytes_eq-Decides y.0 x).0 e) (k.0 g)) (λ e. left_follows second ys x d e k.1 g)

pub left_on : (ds : List Decl) (ys : List (List ℕ × Span)) (x : List ℕ) (clock : Clock) → IsTrue (is_among ys x) → LeftsOn ds ys clock → clock_in ds x ≡ clock
left_on ds [] x clock h k = absurd (cc)
left_on ds (y ∷ ys) x clock h k =
    or_either (bytes_eq y.0 x) (is_among ys x) h (λ e. subst (λ z. clock_in ds z ≡ clock) ((bytes_eq-Decides y.0 x).0 e) k.0) (λ e. left_on ds ys x clock e k.1)

output_nothing : (ys : List (List ℕ × Span)) (os : List (List ℕ)) (x : List ℕ) → output_for ys os nothing x ≡ Absent
output_nothing [] os x = refl
output_nothing (y ∷ ys) [] x = refl
output_nothing (y ∷ ys) (o ∷ os) x = by (bytes_eq y.0 x) (output_nothing ys os x)
  where
    by : (b : Bool) → output_for ys os nothing x ≡ Absent → (if b then Absent else output_for ys os nothing x) ≡ Absent
    by true h = refl
    by false h = h

module _ (types : List TypeDecl) (nils : Bool) (fits : List ℕ → Instant → Type 0) where
  -- the output of a call that goes to a name
  output_is : (s : Scope) (ys : List (List ℕ × Span)) (ds : List Decl) (i j : Instant) (x : List ℕ) (t : Ty) → IsTrue (is_among ys x) → LeftsAre s ys ds → OutputsFit types ds j → ((p : Place) → j p ≡ i p) → lookup s.variables x ≡ Some t → IsWire types t (output_for ys (names_of ds) i x)
  output_is s [] ds i j x t h l o m k = absurd (cc)
  output_is s (y ∷ ys) [] i j x t h l o m k = absurd l
  output_is s (y ∷ ys) (d ∷ ds) i j x t h l o m k =
      by (bytes_eq y.0 x) refl h (λ e. output_is s ys ds i j x t e l.1 o.1 m k)
    where
      by : (b : Bool) → bytes_eq y.0 x ≡ b → IsTrue (b || is_among ys x) → (IsTrue (is_among ys x) → IsWire types t (output_for ys (names_of ds) i x)) → IsWire types t (if b then i (Named d.name ∷ []) else output_for ys (names_of ds) i x)
      by true e h f =
          subst (λ z. IsWire types z (i (Named d.name ∷ []))) (some_is d.ty t (sym l.0 ∙ ap (λ z. lookup s.variables z) ((bytes_eq-Decides y.0 x).0 e) ∙ k))
          (subst (λ z. IsWire types d.ty z) (m (Named d.name ∷ [])) o.0)
      by false e h f = f h

  -- ---- what is asked of the names of a block, and of those of the blocks inside, at the instant that is looked at

  abbrev mutual
    pub block_asks : Block → Scope → Assignment → Names → Names → Given → Instant → Place → Value → Type 0
    block_asks (block ds es) s class names last g now (Named x ∷ []) v =
        Fits types (some_defines es x && holds types (clock_in ds x) (inside es names now)) (lookup (with_variables s ds).variables x) (class (Named x ∷ []) && (never x g.past && nils)) v
    block_asks (block ds es) s class names last g now (Equations ∷ p) v =
        eqns_ask es (with_variables s ds) (λ q. class (Equations ∷ q)) (inside es names now) (lasts_said (λ (k : Const). marked (constant_of types k)) ds g.past last) (at Equations g) (part Equations now) p v
    block_asks (block ds es) s class names last g now p v = ⊤

    pub eqns_ask : Eqns → Scope → Assignment → Names → Names → Given → Instant → Place → Value → Type 0
    eqns_ask no_eqn s class names last g now p v = ⊤
    eqns_ask (more_eqns e es) s class names last g now (Head ∷ p) v = eqn_asks e s (λ q. class (Head ∷ q)) names last (at Head g) (part Head now) p v
    eqns_ask (more_eqns e es) s class names last g now (Tail ∷ p) v = eqns_ask es s (λ q. class (Tail ∷ q)) names last (at Tail g) (part Tail now) p v
    eqns_ask (more_eqns e es) s class names last g now p v = ⊤

    pub eqn_asks : Eqn → Scope → Assignment → Names → Names → Given → Instant → Place → Value → Type 0
    eqn_asks (define a ys e) s class names last g now p v = ⊤
    eqn_asks (switch a e arms) s class names last g now (ArmsOf ∷ p) v =
        arms_ask arms (now (Test ∷ [])) s (λ q. class (ArmsOf ∷ q)) (within (switch a e arms) names last) last (at ArmsOf g) (part ArmsOf now) p v
    eqn_asks (switch a e arms) s class names last g now p v = ⊤
    eqn_asks (reset a b e) s class names last g now (Body ∷ p) v =
        block_asks b s (λ q. class (Body ∷ q)) (within (reset a b e) names last) last (since (is_true (now (Test ∷ []))) (at Body g)) (part Body now) p v
    eqn_asks (reset a b e) s class names last g now p v = ⊤
    eqn_asks (automaton a ss) s class names last g now (StatesOf ∷ p) v =
        states_ask ss 0 (now (Active ∷ [])) s (λ q. class (StatesOf ∷ q)) (within (automaton a ss) names last) last (at StatesOf g) (part StatesOf now) p v
    eqn_asks (automaton a ss) s class names last g now p v = ⊤

    pub arms_ask : Arms → Value → Scope → Assignment → Names → Names → Given → Instant → Place → Value → Type 0
    arms_ask no_arm w s class names last g now p v = ⊤
    arms_ask (more_arms c b a arms) w s class names last g now (Head ∷ p) v =
        IsTrue (is_cons types w c) → block_asks b s (λ q. class (Head ∷ q)) names last (since false (at Head g)) (part Head now) p v
    arms_ask (more_arms c b a arms) w s class names last g now (Tail ∷ p) v = arms_ask arms w s (λ q. class (Tail ∷ q)) names last (at Tail g) (part Tail now) p v
    arms_ask (more_arms c b a arms) w s class names last g now p v = ⊤

    pub states_ask : States → ℕ → Value → Scope → Assignment → Names → Names → Given → Instant → Place → Value → Type 0
    states_ask no_state k w s class names last g now p v = ⊤
    states_ask (more_states f b until unless a ss) k w s class names last g now (Head ∷ Body ∷ p) v =
        IsTrue (nat_eq k (state_of w)) → block_asks b s (λ q. class (Head ∷ Body ∷ q)) names last (since (is_true (now (Head ∷ Body ∷ Fresh ∷ []))) (at Body (at Head g))) (part Body (part Head now)) p v
    states_ask (more_states f b until unless a ss) k w s class names last g now (Tail ∷ p) v = states_ask ss (suc k) w s (λ q. class (Tail ∷ q)) names last (at Tail g) (part Tail now) p v
    states_ask (more_states f b until unless a ss) k w s class names last g now p v = ⊤

  -- a name that a block defines for those around it
  pub inner_is : (among : List ℕ → Option Node) (b : Block) (s : Scope) (class : Assignment) (names last : Names) (g : Given) (now : Instant) (x : List ℕ) (t : Ty) (v : Value) → IsTrue (block_defines b x) → lookup s.variables x ≡ Some t → OthersFirst types among b s class → block_asks b s class names last g now (Named x ∷ []) v → IsWire types t v
  inner_is among (block ds es) s class names last g now x t v h l o a =
      let d = and_left (some_defines es x) (not (declares ds x)) h in
      let f = is_not (declares ds x) (and_right (some_defines es x) (not (declares ds x)) h) in
      let a1 = subst (λ z. Fits types (some_defines es x && holds types z (inside es names now)) (lookup (with_variables s ds).variables x) (class (Named x ∷ []) && (never x g.past && nils)) v) (not_declared_clock x ds f) a in
      let a2 = subst (λ z. Fits types (some_defines es x && true) z (class (Named x ∷ []) && (never x g.past && nils)) v) (not_declared x ds s f ∙ l) a1 in
      never_nil types t (class (Named x ∷ []) && (never x g.past && nils)) v (by (class (Named x ∷ [])) (never x g.past && nils) (o x d f).0) (fits_true types (some_defines es x && true) t _ v (and_both (some_defines es x) true d refl) a2)
    where
      by : (b m : Bool) → IsFalse b → IsFalse (b && m)
      by true m f = absurd (cc)
      by false m f = refl

pub others_first : (types : List TypeDecl) (among : List ℕ → Option Node) (b : Block) (s : Scope) (sec : Classes) (lasts : Lasts) (class : Assignment) → BlockOk types among s sec lasts class b → OthersFirst types among b s class
others_first types among (block ds es) s sec lasts class r = r.1.0

-- names that have a last value have one of their type
abbrev pub HasLasts : List TypeDecl → Scope → Lasts → Names → Type 0
HasLasts types s lasts last = (x : List ℕ) → IsTrue (lasts x) → (t : Ty) × ((lookup s.variables x ≡ Some t) × IsWire types t (last x))

module _ (P : Place → Type 0) (types : List TypeDecl) (nils : Bool) (u : Value → Value) (N : Nodes) (among : List ℕ → Option Node) (fits given : List ℕ → Instant → Type 0) (known : Callees types nils (reading u) N among fits given) where
  module _ (s : Scope) (st : Standing) (second : Classes) (lasts : Lasts) (nsrc : NameSources) (names last : Names) (ws : List Presence) (nk : NamesKnown P types nils u N among fits given known s st second lasts nsrc names last ws) (hl : HasLasts types s lasts last) (wk : EachPresence ws) where
    pub last_is : (x : List ℕ) (t : Ty) → IsTrue (lasts x) → lookup s.variables x ≡ Some t → IsWire types t (last x)
    last_is x t h e = let q = hl x h in subst (λ z. IsWire types z (last x)) (some_is q.0 t (sym q.1.0 ∙ e)) q.1.1

    abbrev flag : Clock → Bool
    flag clock = none_held ws clock && nils

    abbrev Past' : Expr → Clock → Past → Type 0
    Past' e clock past = PastFits P types nils u N among fits given known s st second lasts nsrc names last ws e clock past

    abbrev Says' : Expr → Clock → Given → Instant → Type 0
    Says' e clock g now = Says P types nils u N among fits given known s st second lasts nsrc names last ws e clock g now

    abbrev said' : Expr → Clock → Given → Instant → Instant
    said' e clock g now = said P types nils u N among fits given known s st second lasts nsrc names last ws e clock g now

    pub says_fit : (e : Expr) (t : Ty) (clock : Clock) (k : PlaceSources) (g : Given) (now : Instant) → type_of s e ≡ Some t → IsOn st e clock → ExprOk types among s second lasts e → ExprGiven types nils u given s e g.free → Past' e clock g.past → Says' e clock g now → Closed P k (at_expr e clock nsrc k) → Within P (of_expr e nsrc k) → Fits types (holds types clock names) (Some t) (is_second second e && flag clock) (top (said' e clock g now))
    says_fit e t clock k g now h on ok gv past m C w = expr_top P types nils u N among fits given known s st second lasts nsrc names last ws nk last_is wk e t clock k g now h on ok gv past m C w

    abbrev Single : List (List ℕ × Span) → Expr → Type 0
    Single ys e = ExprOk types among s second lasts e × ((t : Ty) × ((type_of s e ≡ Some t) × (LeftsHave s ys t × LeftsFollow second ys (is_second second e))))

    right_one : (ys : List (List ℕ × Span)) (e : Expr) (clock : Clock) (k : PlaceSources) (g : Given) (now : Instant) (x : List ℕ) (t : Ty) → IsOn st e clock → Single ys e → ExprGiven types nils u given s e g.free → Past' e clock g.past → Says' e clock g now → Closed P k (at_expr e clock nsrc k) → Within P (of_expr e nsrc k) → IsTrue (is_among ys x) → lookup s.variables x ≡ Some t → Fits types (holds types clock names) (Some t) (second x && flag clock) (top (said' e clock g now))
    right_one ys e clock k g now x t on ok gv past m C w h l =
        let v = says_fit e ok.1.0 clock k g now ok.1.1.0 on ok.0 gv past m C w in
        let same = some_is ok.1.0 t (sym (left_typed s ys x ok.1.0 h ok.1.1.1.0) ∙ l) in
        subst (λ z. Fits types (holds types clock names) (Some z) (second x && flag clock) (top (said' e clock g now))) same
        (fits_weaker types (holds types clock names) ok.1.0 (is_second second e && flag clock) (second x && flag clock) (top (said' e clock g now))
        (λ z. and_both (second x) (flag clock) (left_follows second ys x (is_second second e) h ok.1.1.1.1 (and_left (is_second second e) _ z)) (and_right (is_second second e) _ z)) v)

    absent_for : (d : Bool) (ys : List (List ℕ × Span)) (os : List (List ℕ)) (i : Instant) (x : List ℕ) → IsFalse d → output_for ys os (if d then i else nothing) x ≡ Absent
    absent_for true ys os i x h = absurd (cc)
    absent_for false ys os i x h = output_nothing ys os x

    right_fits : (ys : List (List ℕ × Span)) (e : Expr) (clock : Clock) (k : PlaceSources) (g : Given) (now : Instant) (x : List ℕ) (t : Ty) → IsOn st e clock → RightOk types among s second lasts ys e → ExprGiven types nils u given s e g.free → Past' e clock g.past → Says' e clock g now → Closed P k (at_expr e clock nsrc k) → Within P (of_expr e nsrc k) → IsTrue (is_among ys x) → lookup s.variables x ≡ Some t → Fits types (holds types clock names) (Some t) (second x && flag clock) (right types (reading u) N ys e (said' e clock g now) x)
    right_fits ys (call a f i es) clock k g now x t on ok gv past m C w h l =
        let q = row_typed (lookup s.nodes f) (types_in s es) ok.1.0 ok.1.1.0 in
        let e = sym ok.0.0 ∙ q.1 in
        let c = C [] w in
        true_or_false (holds types clock names)
        (λ y.
        let j = instance_of P types nils u N among fits given known s st second lasts nsrc names last ws f q.0 (holds types clock names) (map top (exprs types (reading u) N es clock names last (at Args g) (part Args now))) (at Instance g) (part Instance now) y e
        (exprs_tops P types nils u N among fits given known s st second lasts nsrc names last ws nk last_is wk es q.0.inputs clock (below Args k) (at Args g) (part Args now) y q.2 on ok.0.1 gv.0 (along_part _ _ Args ws g.past (λ w j z. z.1.0) past) (λ p. m (Args ∷ p)) (λ p. C (Args ∷ p)) c.1)
        (past_of_instance P types nils u N among fits given known s st second lasts nsrc names last ws f clock g.past (along_same _ _ ws g.past (λ w j z. z.1.1) past)) gv.1 (λ p. m (Instance ∷ p)) in
        true_fits types (holds types clock names) t _ _ y
        (value_of types t _ _
        (subst (λ z. IsWire types t (output_for ys z (part Instance (said' (call a f i es) clock g now)) x)) (sym (known.outputs f q.0 e))
        (output_is types nils fits s ys q.0.outputs (part Instance (said' (call a f i es) clock g now)) (part Instance now) x t h (subst (λ z. LeftsAre s ys z) (sym q.3) ok.1.1.1) (known.gives f q.0 (part Instance now) e j) (λ p. m (Instance ∷ p)) l))))
        (λ y. subst (λ z. Fits types z (Some t) (second x && flag clock) (right types (reading u) N ys (call a f i es) (said' (call a f i es) clock g now) x)) (sym y) (absent_for (holds types clock names) ys (N.outputs f) _ x y))
    right_fits ys (constant a b) clock k g now x t on ok gv past m C w h l = right_one ys (constant a b) clock k g now x t on ok gv past m C w h l
    right_fits ys (variable a b) clock k g now x t on ok gv past m C w h l = right_one ys (variable a b) clock k g now x t on ok gv past m C w h l
    right_fits ys (last_of a b) clock k g now x t on ok gv past m C w h l = right_one ys (last_of a b) clock k g now x t on ok gv past m C w h l
    right_fits ys (one a o b) clock k g now x t on ok gv past m C w h l = right_one ys (one a o b) clock k g now x t on ok gv past m C w h l
    right_fits ys (two a o b c) clock k g now x t on ok gv past m C w h l = right_one ys (two a o b c) clock k g now x t on ok gv past m C w h l
    right_fits ys (choose a o b c) clock k g now x t on ok gv past m C w h l = right_one ys (choose a o b c) clock k g now x t on ok gv past m C w h l
    right_fits ys (pre a b) clock k g now x t on ok gv past m C w h l = right_one ys (pre a b) clock k g now x t on ok gv past m C w h l
    right_fits ys (fby a b c) clock k g now x t on ok gv past m C w h l = right_one ys (fby a b c) clock k g now x t on ok gv past m C w h l
    right_fits ys (arrow a b c) clock k g now x t on ok gv past m C w h l = right_one ys (arrow a b c) clock k g now x t on ok gv past m C w h l
    right_fits ys (when_is a b c y) clock k g now x t on ok gv past m C w h l = right_one ys (when_is a b c y) clock k g now x t on ok gv past m C w h l
    right_fits ys (merge a b c) clock k g now x t on ok gv past m C w h l = right_one ys (merge a b c) clock k g now x t on ok gv past m C w h l

    -- a condition has a value, and is not Nil
    pub test_is : (e : Expr) (t : Ty) (k : PlaceSources) (g : Given) (now : Instant) → IsFalse (is_second second e) → type_of s e ≡ Some t → IsOn st e [] → ExprOk types among s second lasts e → ExprGiven types nils u given s e g.free → Past' e [] g.past → Says' e [] g now → Closed P k (at_expr e [] nsrc k) → Within P (of_expr e nsrc k) → IsWire types t (top (said' e [] g now))
    test_is e t k g now f h on ok gv past m C w =
        never_nil types t (is_second second e && flag []) _ (none_second P types nils u N among fits given known s st second lasts nsrc names last ws (is_second second e) (flag []) f) (says_fit e t [] k g now h on ok gv past m C w)

    -- ---- what a branch gives

    branch_is : (d : Bool) (v w : Value) (t : Ty) (Q : Type 0) → (IsTrue d → IsWire types t v) → (Q → IsWire types t w) → IsTrue d ⊎ Q → IsWire types t (if d then v else w)
    branch_is true v w t Q f g h = f refl
    branch_is false v w t Q f g h = ⊎_elim (λ z. absurd (cc)) g h

    within_if : (d : Bool) (a : Sources) → Within P (if d then a else none) → IsTrue d → Within P a
    within_if true a h e = h
    within_if false a h e = absurd (cc)

    arms_give : (o : Eqn) (arms : Arms) (k : PlaceSources) (class : Assignment) (sec : Classes) (v w : Value) (inner : Names) (g : Given) (now : Instant) (x : List ℕ) (t : Ty) → ArmsOk types among o s sec lasts class arms → IsTrue (defines o x) → lookup s.variables x ≡ Some t → w ≡ v → ((p : Place) → Within P (k p) → arms_ask types nils fits arms w s class inner last g now p (now p)) → Within P (in_arms arms k x) → IsTrue (is_one types (of_arms arms) v) → IsWire types t (from_arm types (reading u) N arms v last now x)
    arms_give o no_arm k class sec v w inner g now x t ok df l e T h c = absurd (cc)
    arms_give o (more_arms a b q arms) k class sec v w inner g now x t ok df l e T h c =
        by (is_cons types v a) refl c (λ z. arms_give o arms (below Tail k) (λ p. class (Tail ∷ p)) sec v w inner (at Tail g) (part Tail now) x t ok.1.1 df l e (λ p. T (Tail ∷ p)) h.1 z)
      where
        here : IsTrue (is_cons types v a) → IsWire types t (from_block b last (part Head now) x)
        here y =
            branch_is (block_defines b x) (now (Head ∷ Named x ∷ [])) (last x) t (IsTrue (lasts x))
            (λ z. inner_is types nils fits among b s (λ p. class (Head ∷ p)) inner last (since false (at Head g)) (part Head now) x t _ z l (others_first types among b s sec lasts (λ p. class (Head ∷ p)) ok.1.0)
            (T (Head ∷ Named x ∷ []) (within_if (block_defines b x) (k (Head ∷ Named x ∷ [])) h.0 z) (subst (λ r. IsTrue (is_cons types r a)) (sym e) y)))
            (λ z. last_is x t z l)
            (ok.0 x df)

        by : (d : Bool) → is_cons types v a ≡ d → IsTrue (d || is_one types (of_arms arms) v) → (IsTrue (is_one types (of_arms arms) v) → IsWire types t (from_arm types (reading u) N arms v last (part Tail now) x)) → IsWire types t (if d then from_block b last (part Head now) x else from_arm types (reading u) N arms v last (part Tail now) x)
        by true y c f = here y
        by false y c f = f c

    states_give : (o : Eqn) (ss : States) (i j : ℕ) (k : PlaceSources) (class : Assignment) (out sec : Classes) (w : Value) (inner : Names) (g : Given) (now : Instant) (x : List ℕ) (t : Ty) → StatesOk types among o s out sec lasts class ss → IsTrue (defines o x) → lookup s.variables x ≡ Some t → w ≡ state_word j → ((p : Place) → Within P (k p) → states_ask types nils fits ss i w s class inner last g now p (now p)) → Within P (in_states ss k x) → i ≤ j → j < i + count ss → IsWire types t (from_state ss i j last now x)
    states_give o no_state i j k class out sec w inner g now x t ok df l e T h c d = absurd (omega arith)
    states_give o (more_states f b until unless q ss) i j k class out sec w inner g now x t ok df l e T h c d =
        by (nat_eq i j) refl (λ y z. states_give o ss (suc i) j (below Tail k) (λ p. class (Tail ∷ p)) out sec w inner (at Tail g) (part Tail now) x t ok.1.1.1.1 df l e (λ p. T (Tail ∷ p)) h.1 y z)
      where
        here : IsTrue (nat_eq i j) → IsWire types t (from_block b last (part Body (part Head now)) x)
        here y =
            branch_is (block_defines b x) (now (Head ∷ Body ∷ Named x ∷ [])) (last x) t (IsTrue (lasts x))
            (λ z. inner_is types nils fits among b s (λ p. class (Head ∷ Body ∷ p)) inner last (since (is_true (now (Head ∷ Body ∷ Fresh ∷ []))) (at Body (at Head g))) (part Body (part Head now)) x t _ z l (others_first types among b s sec lasts (λ p. class (Head ∷ Body ∷ p)) ok.1.0)
            (T (Head ∷ Body ∷ Named x ∷ []) (within_if (block_defines b x) (k (Head ∷ Body ∷ Named x ∷ [])) h.0 z) (subst (λ r. IsTrue (nat_eq i (state_of r))) (sym e) y)))
            (λ z. last_is x t z l)
            (ok.0 x df)

        later : nat_eq i j ≡ false → suc i ≤ j
        later y = grind (arith, nat_tests)

        by : (r : Bool) → nat_eq i j ≡ r → (suc i ≤ j → j < suc i + count ss → IsWire types t (from_state ss (suc i) j last (part Tail now) x)) → IsWire types t (if r then from_block b last (part Body (part Head now)) x else from_state ss (suc i) j last (part Tail now) x)
        by true y f = here y
        by false y f = f (later y) (omega arith)

    -- ---- the states that are chosen

    number_below : (k c : ℕ) (ss : States) (x : List ℕ) → k + count ss ≤ c → 0 < c → number_of k ss x < c
    number_below k c no_state x h z = z
    number_below k c (more_states f b until unless a ss) x h z = by (bytes_eq f x) (number_below (suc k) c ss x (omega arith) z)
      where
        by : (d : Bool) → number_of (suc k) ss x < c → (if d then k else number_of (suc k) ss x) < c
        by true y = omega arith
        by false y = y

    first_below : (all : States) (ts : List Trans) (vs : List Value) (rest : Jump) → rest.state < count all → (first_true all ts vs rest).state < count all
    first_below all [] vs rest h = h
    first_below all (t ∷ ts) [] rest h = h
    first_below all (t ∷ ts) (v ∷ vs) rest h = by (is_true v) (first_below all ts vs rest h) (number_below 0 (count all) all t.target (omega arith) (omega arith))
      where
        by : (d : Bool) → (first_true all ts vs rest).state < count all → number_of 0 all t.target < count all → (if d then record { state = number_of 0 all t.target; restart = t.restart } else first_true all ts vs rest).state < count all
        by true y z = z
        by false y z = y

    jump_if : (c : ℕ) (d : Bool) (a b : Jump) → a.state < c → b.state < c → (if d then a else b).state < c
    jump_if c true a b h k = h
    jump_if c false a b h k = k

    pub strong_below : (all ss : States) (k : ℕ) (j : Jump) (g : Given) (now : Instant) → j.state < count all → (strong types (reading u) N all ss k j names last g now).state < count all
    strong_below all no_state k j g now h = h
    strong_below all (more_states f b until unless a ss) k j g now h =
        jump_if (count all) (nat_eq k j.state) _ _ (first_below all unless _ j h) (strong_below all ss (suc k) j (at Tail g) (part Tail now) h)

    pub weak_below : (inner : Names) (all ss : States) (k : ℕ) (j : Jump) (g : Given) (now : Instant) → j.state < count all → (weak types (reading u) N all ss k j inner last g now).state < count all
    weak_below inner all no_state k j g now h = h
    weak_below inner all (more_states f b until unless a ss) k j g now h =
        jump_if (count all) (nat_eq k j.state) _ _ (first_below all until _ (record { state = j.state; restart = false }) h) (weak_below inner all ss (suc k) j (at Tail g) (part Tail now) h)

    from_zero : (c j : ℕ) → j < c → j < 0 + c
    from_zero c j h = omega arith

    has_state : (ss : States) → HasState ss → 0 < count ss
    has_state no_state h = absurd h
    has_state (more_states f b until unless a ss) h = omega arith

    pub selected_below : (ds : List Decl) (class : Assignment) (a : Span) (ss : States) (ws : List Presence) (past : Past) → HasState ss → Along (λ w i. EqnLoose types nils fits ds s second class w (automaton a ss) i) ws past → (selected past).state < count ss
    selected_below ds class a ss [] [] h k = has_state ss h
    selected_below ds class a ss (w ∷ ws) (i ∷ past) h k = let q = k.0.1.0 in subst (λ z. state_of z < count ss) (sym q.1.0) q.1.1
    selected_below ds class a ss [] (i ∷ past) h k = absurd k
    selected_below ds class a ss (w ∷ ws) [] h k = absurd k

    within_both : (a b : Sources) → Within P a × Within P b → Within P b
    within_both a b h = h.1

    -- what an equation of a block gives to a name that it defines
    pub gives_fit : (ds : List Decl) (e : Eqn) (k : PlaceSources) (class : Assignment) (g : Given) (now : Instant) (x : List ℕ) (t : Ty) → OnePlain e → OneRight st ds e → EqnOk types among s second lasts class e → EqnGiven types nils u given s e g.free → Along (λ w i. EqnLoose types nils fits ds s second class w e i) ws g.past → ((p : Place) → now p ≡ equation types (reading u) N ds e names last g now p) → Closed P k (in_equation ds e nsrc k) → ((p : Place) → Within P (k p) → eqn_asks types nils fits e s class names last g now p (now p)) → IsTrue (defines e x) → lookup s.variables x ≡ Some t → Within P (of_definition ds e nsrc k x) → Fits types (holds types (clock_in ds x) names) (Some t) (second x && flag (clock_in ds x)) (gives types (reading u) N ds e names last g now x)
    gives_fit ds (define a ys e) k class g now x t low on ok gv past m C T df l h =
        subst (λ z. Fits types (holds types z names) (Some t) (second x && flag z) (gives types (reading u) N ds (define a ys e) names last g now x)) (sym (left_on ds ys x (clock_of ds ys e) df on.1))
        (right_fits ys e (clock_of ds ys e) (below Right k) (at Right g) (part Right now) x t on.2 ok gv (along_part _ _ Right ws g.past (λ w i z. z) past) (λ p. m (Right ∷ p)) (λ p. C (Right ∷ p)) h.1 df l)
    gives_fit ds (switch a e arms) k class g now x t low on ok gv past m C T df l h =
        let v = test_is e ok.1.1.0.0 (below Test k) (at Test g) (part Test now) ok.1.0 ok.1.1.0.1.0 on.1 ok.0 gv.0 (along_part _ _ Test ws g.past (λ w i z. z.0) past) (λ p. m (Test ∷ p)) (λ p. C (Test ∷ p)) h.0 in
        subst (λ z. Fits types (holds types z names) (Some t) (second x && flag z) (gives types (reading u) N ds (switch a e arms) names last g now x)) (sym (on.0 x df))
        (value_of types t (second x && flag []) _
        (arms_give (switch a e arms) arms (below ArmsOf k) (λ p. class (ArmsOf ∷ p)) (classes_within (switch a e arms) second) (top (said' e [] (at Test g) (part Test now))) (now (Test ∷ [])) (within (switch a e arms) names last) (at ArmsOf g) (part ArmsOf now) x t ok.1.1.1 df l (m (Test ∷ []))
        (λ p. T (ArmsOf ∷ p)) h.1 (covered types ok.1.1.0.0 _ (of_arms arms) v ok.1.1.0.1.1)))
    gives_fit ds (reset a b e) k class g now x t low on ok gv past m C T df l h =
        subst (λ z. Fits types (holds types z names) (Some t) (second x && flag z) (now (Body ∷ Named x ∷ []))) (sym (on.0 x df))
        (value_of types t (second x && flag []) _
        (inner_is types nils fits among b s (λ p. class (Body ∷ p)) (within (reset a b e) names last) last (since (is_true (now (Test ∷ []))) (at Body g)) (part Body now) x t _ df l
        (others_first types among b s (classes_within (reset a b e) second) lasts (λ p. class (Body ∷ p)) ok.1) (T (Body ∷ Named x ∷ []) h.1)))
    gives_fit ds (automaton a ss) k class g now x t low on ok gv past m C T df l h =
        subst (λ z. Fits types (holds types z names) (Some t) (second x && flag z) (gives types (reading u) N ds (automaton a ss) names last g now x)) (sym (on.0 x df))
        (value_of types t (second x && flag []) _
        (states_give (automaton a ss) ss 0 (strong types (reading u) N ss ss 0 (selected g.past) names last (at StatesOf g) (part StatesOf now)).state (below StatesOf k) (λ p. class (StatesOf ∷ p)) second (classes_within (automaton a ss) second) (now (Active ∷ [])) (within (automaton a ss) names last) (at StatesOf g) (part StatesOf now) x t ok df l (m (Active ∷ []))
        (λ p. T (StatesOf ∷ p)) h.1 (omega arith) (from_zero (count ss) _ (strong_below ss ss 0 (selected g.past) (at StatesOf g) (part StatesOf now) (selected_below ds class a ss ws g.past low.0 past)))))
