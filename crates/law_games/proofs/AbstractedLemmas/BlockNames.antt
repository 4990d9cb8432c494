-- What the meaning says at the place of a name fits, where the places that it depends on fit.
use Rattle.std.proofs.Common.{◌≡◌, ℕ, suc, List, [], ◌∷◌, refl, sym, ap, subst, ◌∙◌, inl, ⊎_elim}
use Rattle.std.specs.Prelude.{Bool, true, false, ◌&&◌, ◌||◌, IsTrue, IsFalse, if◌then◌else◌, nat_eq, Option, None, Some}
use Rattle.hp_base.specs.declared.ty.Const.{Const}
use Rattle.hp_base.specs.declared.ty.Ty.{Ty}
use Rattle.hp_base.specs.declared.value.Value.{Value}
use Rattle.hp_base.specs.declared.value.Value.TheVariants.{Absent, B}
use Rattle.hp_tree.specs.Blocks.{Decl, Block, block, Eqns, no_eqn, more_eqns, Eqn, define, switch, reset, automaton, Arms, no_arm, more_arms, States, no_state, more_states}
use Rattle.hp_tree.specs.Programs.{TypeDecl, Node}
use Rattle.hp_tree.specs.Operators.{is_cons, is_true, constant_of, marked}
use Rattle.hp_tree.specs.Instant.{Body, Named, Equations, Head, Tail, Test, Arms as ArmsOf, States as StatesOf, Active, Fresh, Step, Place, Instant, Past, Given, at, part, parts, top, own, since, nothing, Clock, holds}
use Rattle.hp_tree.specs.Meaning.{Names, Nodes, declares, defines, some_defines, block_defines, inside, within, previous, lasts as lasts_said, clock_in, expr, gives, defined, scope, equations, equation, arm, states, strong, Jump, state_word, state_of, selected}
use Rattle.hp_typing.specs.Scopes.{with_variables}
use Rattle.law_games.specs.Wiretyped.Typed.{IsWire}
use Rattle.hp_init.specs.Classes.{Classes, Assignment}
use Rattle.law_values.specs.Valued.Judged.{Lasts, lasts_in, Completes, StatesPlain, IsPlain, AllPlain, OnePlain, ArmsPlain}
use Rattle.law_values.specs.Valued.Classed.{classes_in, classes_within}
use Rattle.law_values.proofs.ValuedLemmas.Both.{BlockOk, EqnsOk, EqnOk, ArmsOk, StatesOk}
use Rattle.law_games.specs.Abstracted.Fitting.{HasValue, Fits, Presence, IsThere, NamesFit}
use Rattle.law_games.proofs.AbstractedLemmas.Loose.{BlockLoose, BlockAt, EqnsLoose, EqnLoose, ArmsLoose, StatesLoose}
use Rattle.law_games.proofs.AbstractedLemmas.Laws.{true_or_false, and_left, and_right, and_both, not_both, value_of, never_nil, weaker, fits_true, Along, none_held, EachPresence}
use Rattle.hp_tree.specs.Reaction.{Each}
use Rattle.hp_base.specs.Known.Known.{lookup}
use Rattle.law_judged.specs.Typed.Scopes.{Scope}
use Rattle.hp_meaning.specs.Causal.Sources.{Sources, none, Within, NameSources, PlaceSources, below}
use Rattle.hp_meaning.specs.Causal.WhatIsRead.{of_definition, of_definitions, names_in, names_within, has_equation, in_block, in_equations, in_equation, in_each_arm, in_each_state}
use Rattle.hp_meaning.specs.Causal.Clocked.{Standing, base_alone, standing_in, BlockRight, AllRight, OneRight, ArmsRight, StatesRight}
use Rattle.law_games.specs.Abstracted.Given.{reading, BlockGiven, EqnsGiven, EqnGiven, ArmsGiven, StatesGiven}
use Rattle.law_values.proofs.ValuedLemmas.Typed.{some_is}
use Rattle.law_games.proofs.AbstractedLemmas.Scoped.{still_known, not_declared, declared_is, presences, is_empty, none_at_first, none_base, never, never_is, last_inside}
use Rattle.law_games.proofs.AbstractedLemmas.ExprTops.{Closed, Callees, along_part, along_same, own_all, NamesKnown}
use Rattle.law_games.proofs.AbstractedLemmas.Gives.{block_asks, eqns_ask, eqn_asks, arms_ask, states_ask, HasLasts, gives_fit}

base_is : (o : Option Clock) (c : Clock) → base_alone o ≡ Some c → (c ≡ []) × (o ≡ Some [])
base_is None c e = absurd (cc)
base_is (Some []) c e = (sym (some_is [] c e), refl)
base_is (Some (a ∷ b)) c e = absurd (cc)

pub empty_own : (past : Past) → IsTrue (is_empty past) → IsTrue (is_empty (own past))
empty_own [] h = refl
empty_own (i ∷ past) h = absurd (cc)

pub empty_parts : (s : Step) (past : Past) → IsTrue (is_empty past) → IsTrue (is_empty (parts s past))
empty_parts s [] h = refl
empty_parts s (i ∷ past) h = absurd (cc)

pub empty_since : (fresh : Bool) (past : Past) → IsTrue (is_empty past) → IsTrue (is_empty (if fresh then [] else own past))
empty_since true past h = refl
empty_since false past h = empty_own past h

pub each_since : (Q : Instant → Type 0) (fresh : Bool) (past : Past) → Each (λ i. (d : Bool) × IsThere d Q i) past → Each Q (if fresh then [] else own past)
each_since Q true past a = tt
each_since Q false past a = own_all Q past a

pub each_part : (A : Presence → Instant → Type 0) (Q : Instant → Type 0) (s : Step) (ws : List Presence) (past : Past) → ((w : Presence) (i : Instant) → A w i → (d : Bool) × IsThere d Q (part s i)) → Along A ws past → Each (λ i. (d : Bool) × IsThere d Q i) (parts s past)
each_part A Q s [] [] f a = tt
each_part A Q s (w ∷ ws) (i ∷ past) f a = (f w i a.0, each_part A Q s ws past f a.1)
each_part A Q s [] (i ∷ past) f a = absurd a
each_part A Q s (w ∷ ws) [] f a = absurd a

pub each_part2 : (A : Presence → Instant → Type 0) (Q : Instant → Type 0) (s r : Step) (ws : List Presence) (past : Past) → ((w : Presence) (i : Instant) → A w i → (d : Bool) × IsThere d Q (part r (part s i))) → Along A ws past → Each (λ i. (d : Bool) × IsThere d Q i) (parts r (parts s past))
each_part2 A Q s r [] [] f a = tt
each_part2 A Q s r (w ∷ ws) (i ∷ past) f a = (f w i a.0, each_part2 A Q s r ws past f a.1)
each_part2 A Q s r [] (i ∷ past) f a = absurd a
each_part2 A Q s r (w ∷ ws) [] f a = absurd a

not_own : (b : Block) (x : List ℕ) → IsFalse (has_equation b x) → IsTrue (block_defines b x) → ⊥
not_own (block ds es) x f h = not_both (some_defines es x) (and_left (some_defines es x) _ h) f

module _ (P : Place → Type 0) (types : List TypeDecl) (nils : Bool) (u : Value → Value) (N : Nodes) (among : List ℕ → Option Node) (fits given : List ℕ → Instant → Type 0) (known : Callees types nils (reading u) N among fits given) where
  -- names of further out, as a block reads them
  abbrev pub Outer : Block → Scope → Standing → Classes → NameSources → Names → Past → Type 0
  Outer b s st second nsrc names past =
      (x : List ℕ) (t : Ty) → IsFalse (has_equation b x) → st x ≡ Some [] → lookup s.variables x ≡ Some t → Within P (nsrc x) → HasValue types t (second x && (is_empty past && nils)) (names x)

  -- the clocks that were there in the past of a block
  pub pasts_of : (ds : List Decl) (es : Eqns) (s : Scope) (second : Classes) (class : Assignment) (past : Past) → Each (BlockLoose types nils fits s second class (block ds es)) past → (ws : List Presence) × (EachPresence ws × Along (λ w i. BlockAt types nils fits s second class w (block ds es) i) ws past)
  pasts_of ds es s second class past a = presences _ past a

  -- ---- the names of a block, as its equations read them
  module _ (ds : List Decl) (es : Eqns) (s : Scope) (st : Standing) (second : Classes) (lasts : Lasts) (class : Assignment) (names last : Names) (past : Past) (right : BlockRight st (block ds es)) (ok : BlockOk types among s second lasts class (block ds es)) (a : Each (BlockLoose types nils fits s second class (block ds es)) past) (before : (ws : List Presence) × (EachPresence ws × Along (λ w i. BlockAt types nils fits s second class w (block ds es) i) ws past)) where
    abbrev pub inner_scope : Scope
    inner_scope = with_variables s ds

    abbrev Q : Presence → Instant → Type 0
    Q w i = NamesFit types nils fits ds es (with_variables s ds) class w i × EqnsLoose types nils fits ds (with_variables s ds) (classes_in es second class) (λ p. class (Equations ∷ p)) w es (part Equations i)

    not_declared_here : (x : List ℕ) → IsFalse (some_defines es x) → IsFalse (declares ds x)
    not_declared_here x f = true_or_false (declares ds x) (λ t. not_both (some_defines es x) (declared_is types among (with_variables s ds) (classes_in es second class) es x ds ok.0 t).0 f) (λ z. z)

    pub defined_type : (x : List ℕ) → IsTrue (some_defines es x) → (t : Ty) × (lookup (with_variables s ds).variables x ≡ Some t)
    defined_type x h =
        true_or_false (declares ds x) (λ d. (declared_is types among (with_variables s ds) (classes_in es second class) es x ds ok.0 d).1)
        (λ f. let q = (ok.1.0 x h f).1 in (q.0, still_known x ds s q.0 q.1))

    pub never_held : (x : List ℕ) (t : Ty) → IsTrue (some_defines es x) → lookup (with_variables s ds).variables x ≡ Some t → never x past ≡ none_held before.0 (clock_in ds x)
    never_held x t h l =
        never_is types x t (clock_in ds x) (class (Named x ∷ []) && nils) before.0 past
        (along_same Q (λ w i. Fits types (w (clock_in ds x)) (Some t) (class (Named x ∷ []) && nils) (i (Named x ∷ []))) before.0 past
        (λ w i z. subst (λ b. Fits types (b && w (clock_in ds x)) (Some t) (class (Named x ∷ []) && nils) (i (Named x ∷ []))) h
        (subst (λ o. Fits types (some_defines es x && w (clock_in ds x)) o (class (Named x ∷ []) && nils) (i (Named x ∷ []))) l (z.0 x).0))
        before.1.1)

    known_by : (nsrc : NameSources) (k : PlaceSources) (g : Given) (now : Instant) → g.past ≡ past → Outer (block ds es) s st second nsrc names past → ((p : Place) → Within P (k p) → block_asks types nils fits (block ds es) s class names last (record { past = past; free = g.free }) now p (now p)) → (x : List ℕ) (c : Clock) (t : Ty) (d : Bool) → some_defines es x ≡ d → (if d then Some (clock_in ds x) else base_alone (st x)) ≡ Some c → lookup (with_variables s ds).variables x ≡ Some t → Within P (if d then k (Named x ∷ []) else nsrc x) → Fits types (holds types c (inside es names now)) (Some t) ((if d then class (Named x ∷ []) else second x) && (none_held before.0 c && nils)) (if d then now (Named x ∷ []) else names x)
    known_by nsrc k g now ge outer T x c t true e q l h =
        subst (λ z. Fits types (holds types z (inside es names now)) (Some t) (class (Named x ∷ []) && (none_held before.0 z && nils)) (now (Named x ∷ []))) (some_is (clock_in ds x) c q)
        (subst (λ z. Fits types (holds types (clock_in ds x) (inside es names now)) (Some t) (class (Named x ∷ []) && (z && nils)) (now (Named x ∷ []))) (never_held x t e l)
        (subst (λ z. Fits types (z && holds types (clock_in ds x) (inside es names now)) (Some t) (class (Named x ∷ []) && (never x past && nils)) (now (Named x ∷ []))) e
        (subst (λ z. Fits types (some_defines es x && holds types (clock_in ds x) (inside es names now)) z (class (Named x ∷ []) && (never x past && nils)) (now (Named x ∷ []))) l
        (T (Named x ∷ []) h))))
    known_by nsrc k g now ge outer T x c t false e q l h =
        let b = base_is (st x) c q in
        subst (λ z. Fits types (holds types z (inside es names now)) (Some t) (second x && (none_held before.0 z && nils)) (names x)) (sym b.0)
        (weaker types t (second x && (is_empty past && nils)) (second x && (none_held before.0 [] && nils)) (names x)
        (λ z. and_both (second x) _ (and_left (second x) _ z) (and_both (none_held before.0 []) nils (none_at_first Q before.0 past [] before.1.1 (and_left (is_empty past) nils (and_right (second x) _ z))) (and_right (is_empty past) nils (and_right (second x) _ z))))
        (outer x t e b.1 (sym (not_declared x ds s (not_declared_here x e)) ∙ l) h))

    previous_is : (x : List ℕ) (t : Ty) (past : Past) → Each (BlockLoose types nils fits s second class (block ds es)) past → clock_in ds x ≡ [] → IsTrue (some_defines es x) → IsFalse (class (Named x ∷ [])) → lookup (with_variables s ds).variables x ≡ Some t → (v : Value) → IsWire types t v → IsWire types t (previous past x v)
    previous_is x t [] a c h f l v k = k
    previous_is x t (i ∷ past) a c h f l v k =
        let w = a.0.0 in
        let b = a.0.1.0.base in
        let r = subst (λ z. Fits types (some_defines es x && w z) (lookup (with_variables s ds).variables x) (class (Named x ∷ []) && nils) (i (Named x ∷ []))) c (a.0.1.1.0 x).0 in
        let r1 = subst (λ o. Fits types (some_defines es x && w []) o (class (Named x ∷ []) && nils) (i (Named x ∷ []))) l r in
        let r2 = subst (λ z. Fits types (some_defines es x && w []) (Some t) (z && nils) (i (Named x ∷ []))) f r1 in
        never_nil types t false (i (Named x ∷ [])) refl (fits_true types (some_defines es x && w []) t false (i (Named x ∷ [])) (and_both (some_defines es x) (w []) h b) r2)

    class_here : (x : List ℕ) → IsTrue (some_defines es x) → IsFalse (classes_in es second class x) → IsFalse (class (Named x ∷ []))
    class_here x h f = subst (λ b. IsFalse (if b then class (Named x ∷ []) else second x)) h f

    pub lasts_here : HasLasts types s lasts last → HasLasts types (with_variables s ds) (lasts_in ds lasts) (lasts_said (λ (k : Const). marked (constant_of types k)) ds past last)
    lasts_here hl x h =
        last_inside types among (with_variables s ds) (classes_in es second class) (standing_in ds es st) es lasts last past x ds ok.0 right.0
        (λ t c d f l v k. previous_is x t past a c d (class_here x d f) l v k)
        (λ z. let q = hl x z in (q.0, (still_known x ds s q.0 q.1.0, q.1.1))) h

    pub names_here : (nsrc : NameSources) (k : PlaceSources) (free now : Instant) → Outer (block ds es) s st second nsrc names past → ((p : Place) → Within P (k p) → block_asks types nils fits (block ds es) s class names last (record { past = past; free = free }) now p (now p)) → NamesKnown P types nils u N among fits given known (with_variables s ds) (standing_in ds es st) (classes_in es second class) (lasts_in ds lasts) (names_in es nsrc k) (inside es names now) (lasts_said (λ (k : Const). marked (constant_of types k)) ds past last) before.0
    names_here nsrc k free now outer T x c t q l h = known_by nsrc k (record { past = past; free = free }) now refl outer T x c t (some_defines es x) refl q l h

  -- ---- the equations of a block
  module _ (ds : List Decl) (s : Scope) (st : Standing) (lasts : Lasts) (last : Names) (ws : List Presence) (hl : HasLasts types s lasts last) (wk : EachPresence ws) where
    abbrev Known : Classes → NameSources → Names → Type 0
    Known second nsrc names = NamesKnown P types nils u N among fits given known s st second lasts nsrc names last ws

    defs_fit : (second : Classes) (nsrc : NameSources) (names : Names) → Known second nsrc names → (es : Eqns) (k : PlaceSources) (class : Assignment) (g : Given) (now : Instant) (x : List ℕ) (t : Ty) → AllPlain es → AllRight st ds es → EqnsOk types among s second lasts class es → EqnsGiven types nils u given s es g.free → Along (λ w i. EqnsLoose types nils fits ds s second class w es i) ws g.past → ((p : Place) → now p ≡ equations types (reading u) N ds es names last g now p) → Closed P k (in_equations ds es nsrc k) → ((p : Place) → Within P (k p) → eqns_ask types nils fits es s class names last g now p (now p)) → IsTrue (some_defines es x) → lookup s.variables x ≡ Some t → Within P (of_definitions ds es nsrc k x) → Fits types (holds types (clock_in ds x) names) (Some t) (second x && (none_held ws (clock_in ds x) && nils)) (defined types (reading u) N ds es names last g now x)
    defs_fit second nsrc names nk no_eqn k class g now x t low on ok gv past m C T df l h = absurd (cc)
    defs_fit second nsrc names nk (more_eqns e es) k class g now x t low on ok gv past m C T df l h =
        by (defines e x) refl df h (λ z y. defs_fit second nsrc names nk es (below Tail k) (λ p. class (Tail ∷ p)) (at Tail g) (part Tail now) x t low.1 on.1 ok.1 gv.1 (along_part _ _ Tail ws g.past (λ w i z. z.1) past) (λ p. m (Tail ∷ p)) (λ p. C (Tail ∷ p)) (λ p. T (Tail ∷ p)) z l y)
      where
        Goal : Value → Type 0
        Goal v = Fits types (holds types (clock_in ds x) names) (Some t) (second x && (none_held ws (clock_in ds x) && nils)) v

        by : (d : Bool) → defines e x ≡ d → IsTrue (d || some_defines es x) → Within P (if d then of_definition ds e nsrc (below Head k) x else of_definitions ds es nsrc (below Tail k) x) → (IsTrue (some_defines es x) → Within P (of_definitions ds es nsrc (below Tail k) x) → Fits types (holds types (clock_in ds x) names) (Some t) (second x && (none_held ws (clock_in ds x) && nils)) (defined types (reading u) N ds es names last (at Tail g) (part Tail now) x)) → Fits types (holds types (clock_in ds x) names) (Some t) (second x && (none_held ws (clock_in ds x) && nils)) (if d then gives types (reading u) N ds e names last (at Head g) (part Head now) x else defined types (reading u) N ds es names last (at Tail g) (part Tail now) x)
        by true y c w f =
            gives_fit P types nils u N among fits given known s st second lasts nsrc names last ws nk hl wk ds e (below Head k) (λ p. class (Head ∷ p)) (at Head g) (part Head now) x t low.0 on.0 ok.0 gv.0 (along_part _ _ Head ws g.past (λ w i z. z.0) past) (λ p. m (Head ∷ p)) (λ p. C (Head ∷ p)) (λ p. T (Head ∷ p)) y l w
        by false y c w f = f c w

    -- names of further out, as a block of a control equation reads them
    pub outer_of : (second : Classes) (nsrc : NameSources) (names : Names) → Known second nsrc names → (e : Eqn) (b : Block) (past : Past) → Completes types among e lasts b → (IsTrue (none_held ws []) → IsTrue (is_empty past)) → Outer b s st (classes_within e second) (names_within e nsrc) (within e names last) past
    outer_of second nsrc names nk e b past comp first x t f q l h = by (defines e x) refl h
      where
        by : (d : Bool) → defines e x ≡ d → Within P (if d then none else nsrc x) → HasValue types t ((if d then false else second x) && (is_empty past && nils)) (if d then last x else names x)
        by true y w =
            ⊎_elim (λ z. absurd (not_own b x f z))
            (λ z. let r = hl x z in value_of types t false (last x) (subst (λ o. IsWire types o (last x)) (some_is r.0 t (sym r.1.0 ∙ l)) r.1.1))
            (comp x y)
        by false y w =
            weaker types t (second x && (none_held ws [] && nils)) (second x && (is_empty past && nils)) (names x)
            (λ z. and_both (second x) _ (and_left (second x) _ z) (and_both (is_empty past) nils (first (and_left (none_held ws []) nils (and_right (second x) _ z))) (and_right (none_held ws []) nils (and_right (second x) _ z))))
            (nk x [] t q l w)

  pub there_is : (d : Bool) (i j : Instant) (p : Place) → IsTrue d → i p ≡ (if d then j else nothing) p → i p ≡ j p
  there_is true i j p x e = e
  there_is false i j p x e = absurd (cc)

  named_by : (ds : List Decl) (es : Eqns) (s : Scope) (class : Assignment) (names last : Names) (g : Given) (now : Instant) (x : List ℕ) (ws : List Presence) (second : Classes) → (IsTrue (some_defines es x) → (t : Ty) × (lookup (with_variables s ds).variables x ≡ Some t)) → ((t : Ty) → IsTrue (some_defines es x) → lookup (with_variables s ds).variables x ≡ Some t → never x g.past ≡ none_held ws (clock_in ds x)) → (v : Value) → now (Named x ∷ []) ≡ (if some_defines es x then v else Absent) → ((t : Ty) → IsTrue (some_defines es x) → lookup (with_variables s ds).variables x ≡ Some t → Fits types (holds types (clock_in ds x) (inside es names now)) (Some t) ((if some_defines es x then class (Named x ∷ []) else second x) && (none_held ws (clock_in ds x) && nils)) v) → Fits types (some_defines es x && holds types (clock_in ds x) (inside es names now)) (lookup (with_variables s ds).variables x) (class (Named x ∷ []) && (never x g.past && nils)) (now (Named x ∷ []))
  named_by ds es s class names last g now x ws second typed held v m f = by (some_defines es x) refl m typed held f
    where
      by : (d : Bool) → some_defines es x ≡ d → now (Named x ∷ []) ≡ (if d then v else Absent) → (IsTrue d → (t : Ty) × (lookup (with_variables s ds).variables x ≡ Some t)) → ((t : Ty) → IsTrue d → lookup (with_variables s ds).variables x ≡ Some t → never x g.past ≡ none_held ws (clock_in ds x)) → ((t : Ty) → IsTrue d → lookup (with_variables s ds).variables x ≡ Some t → Fits types (holds types (clock_in ds x) (inside es names now)) (Some t) ((if d then class (Named x ∷ []) else second x) && (none_held ws (clock_in ds x) && nils)) v) → Fits types (d && holds types (clock_in ds x) (inside es names now)) (lookup (with_variables s ds).variables x) (class (Named x ∷ []) && (never x g.past && nils)) (now (Named x ∷ []))
      by true y m typed held f =
          let q = typed refl in
          subst (λ z. Fits types (holds types (clock_in ds x) (inside es names now)) (lookup (with_variables s ds).variables x) (class (Named x ∷ []) && (never x g.past && nils)) z) (sym m)
          (subst (λ z. Fits types (holds types (clock_in ds x) (inside es names now)) z (class (Named x ∷ []) && (never x g.past && nils)) v) (sym q.1)
          (subst (λ z. Fits types (holds types (clock_in ds x) (inside es names now)) (Some q.0) (class (Named x ∷ []) && (z && nils)) v) (sym (held q.0 refl q.1)) (f q.0 refl q.1)))
      by false y m typed held f = m

  pub scope_fresh : (b : Block) (fresh : Bool) (names last : Names) (g : Given) (now : Instant) → scope types (reading u) N b fresh names last g now (Fresh ∷ []) ≡ B fresh
  scope_fresh (block ds es) fresh names last g now = refl

  mutual
    pub block_step : (b : Block) (s : Scope) (st : Standing) (second : Classes) (lasts : Lasts) (class : Assignment) (nsrc : NameSources) (k : PlaceSources) (names last : Names) (fresh : Bool) (g : Given) (now : Instant) → IsPlain b → BlockRight st b → BlockOk types among s second lasts class b → BlockGiven types nils u given s b g.free → Each (BlockLoose types nils fits s second class b) g.past → Outer b s st second nsrc names g.past → HasLasts types s lasts last → ((p : Place) → now p ≡ scope types (reading u) N b fresh names last g now p) → Closed P k (in_block b nsrc k) → ((p : Place) → Within P (k p) → block_asks types nils fits b s class names last g now p (now p)) → (p : Place) → Within P (in_block b nsrc k p) → block_asks types nils fits b s class names last g now p (now p)
    block_step (block ds es) s st second lasts class nsrc k names last fresh g now low on ok gv a outer hl m C T (Named x ∷ []) h =
        let pr = pasts_of ds es s second class g.past a in
        let nk = names_here ds es s st second lasts class names last g.past on ok a pr nsrc k g.free now outer T in
        let hl' = lasts_here ds es s st second lasts class names last g.past on ok a pr hl in
        named_by ds es s class names last g now x pr.0 second
        (λ z. defined_type ds es s st second lasts class names last g.past on ok a pr x z)
        (λ t z l. never_held ds es s st second lasts class names last g.past on ok a pr x t z l)
        _ (m (Named x ∷ []))
        (λ t z l. defs_fit ds (with_variables s ds) (standing_in ds es st) (lasts_in ds lasts) (lasts_said (λ (k : Const). marked (constant_of types k)) ds g.past last) pr.0 hl' pr.1.0 (classes_in es second class) (names_in es nsrc k) (inside es names now) nk es (below Equations k) (λ p. class (Equations ∷ p)) (at Equations g) (part Equations now) x t low on.1 ok.1.1 gv
        (along_part _ _ Equations pr.0 g.past (λ w i z. z.1) pr.1.1) (λ p. m (Equations ∷ p)) (λ p. C (Equations ∷ p)) (λ p. T (Equations ∷ p)) z l h)
    block_step (block ds es) s st second lasts class nsrc k names last fresh g now low on ok gv a outer hl m C T (Equations ∷ p) h =
        let pr = pasts_of ds es s second class g.past a in
        eqns_step ds (with_variables s ds) (standing_in ds es st) (classes_in es second class) (lasts_in ds lasts) (names_in es nsrc k) (inside es names now) (lasts_said (λ (k : Const). marked (constant_of types k)) ds g.past last) pr.0
        (names_here ds es s st second lasts class names last g.past on ok a pr nsrc k g.free now outer T) (lasts_here ds es s st second lasts class names last g.past on ok a pr hl) pr.1.0
        es (λ q. class (Equations ∷ q)) (below Equations k) (at Equations g) (part Equations now) low on.1 ok.1.1 gv (along_part _ _ Equations pr.0 g.past (λ w i z. z.1) pr.1.1) (λ q. m (Equations ∷ q)) (λ q. C (Equations ∷ q)) (λ q. T (Equations ∷ q)) p h
    block_step (block ds es) s st second lasts class nsrc k names last fresh g now low on ok gv a outer hl m C T p h = tt

    eqns_step : (ds : List Decl) (s : Scope) (st : Standing) (second : Classes) (lasts : Lasts) (nsrc : NameSources) (names last : Names) (ws : List Presence) → NamesKnown P types nils u N among fits given known s st second lasts nsrc names last ws → HasLasts types s lasts last → EachPresence ws → (es : Eqns) (class : Assignment) (k : PlaceSources) (g : Given) (now : Instant) → AllPlain es → AllRight st ds es → EqnsOk types among s second lasts class es → EqnsGiven types nils u given s es g.free → Along (λ w i. EqnsLoose types nils fits ds s second class w es i) ws g.past → ((p : Place) → now p ≡ equations types (reading u) N ds es names last g now p) → Closed P k (in_equations ds es nsrc k) → ((p : Place) → Within P (k p) → eqns_ask types nils fits es s class names last g now p (now p)) → (p : Place) → Within P (in_equations ds es nsrc k p) → eqns_ask types nils fits es s class names last g now p (now p)
    eqns_step ds s st second lasts nsrc names last ws nk hl wk no_eqn class k g now low on ok gv a m C T p h = tt
    eqns_step ds s st second lasts nsrc names last ws nk hl wk (more_eqns e es) class k g now low on ok gv a m C T (Head ∷ p) h =
        eqn_step ds s st second lasts nsrc names last ws nk hl wk e (λ q. class (Head ∷ q)) (below Head k) (at Head g) (part Head now) low.0 on.0 ok.0 gv.0 (along_part _ _ Head ws g.past (λ w i z. z.0) a) (λ q. m (Head ∷ q)) (λ q. C (Head ∷ q)) (λ q. T (Head ∷ q)) p h
    eqns_step ds s st second lasts nsrc names last ws nk hl wk (more_eqns e es) class k g now low on ok gv a m C T (Tail ∷ p) h =
        eqns_step ds s st second lasts nsrc names last ws nk hl wk es (λ q. class (Tail ∷ q)) (below Tail k) (at Tail g) (part Tail now) low.1 on.1 ok.1 gv.1 (along_part _ _ Tail ws g.past (λ w i z. z.1) a) (λ q. m (Tail ∷ q)) (λ q. C (Tail ∷ q)) (λ q. T (Tail ∷ q)) p h
    eqns_step ds s st second lasts nsrc names last ws nk hl wk (more_eqns e es) class k g now low on ok gv a m C T p h = tt

    eqn_step : (ds : List Decl) (s : Scope) (st : Standing) (second : Classes) (lasts : Lasts) (nsrc : NameSources) (names last : Names) (ws : List Presence) → NamesKnown P types nils u N among fits given known s st second lasts nsrc names last ws → HasLasts types s lasts last → EachPresence ws → (e : Eqn) (class : Assignment) (k : PlaceSources) (g : Given) (now : Instant) → OnePlain e → OneRight st ds e → EqnOk types among s second lasts class e → EqnGiven types nils u given s e g.free → Along (λ w i. EqnLoose types nils fits ds s second class w e i) ws g.past → ((p : Place) → now p ≡ equation types (reading u) N ds e names last g now p) → Closed P k (in_equation ds e nsrc k) → ((p : Place) → Within P (k p) → eqn_asks types nils fits e s class names last g now p (now p)) → (p : Place) → Within P (in_equation ds e nsrc k p) → eqn_asks types nils fits e s class names last g now p (now p)
    eqn_step ds s st second lasts nsrc names last ws nk hl wk (define a ys e) class k g now low on ok gv past m C T p h = tt
    eqn_step ds s st second lasts nsrc names last ws nk hl wk (switch a e arms) class k g now low on ok gv past m C T (ArmsOf ∷ p) h =
        arms_step (switch a e arms) s st (classes_within (switch a e arms) second) lasts (names_within (switch a e arms) nsrc) (within (switch a e arms) names last) last ws hl wk
        (λ b past c f. outer_of ds s st lasts last ws hl wk second nsrc names nk (switch a e arms) b past c f)
        arms (top (expr types (reading u) N e [] names last (at Test g) (part Test now))) (now (Test ∷ [])) (λ q. class (ArmsOf ∷ q)) (below ArmsOf k) (at ArmsOf g) (part ArmsOf now) low on.2 ok.1.1.1 gv.1 (along_part _ _ ArmsOf ws g.past (λ w i z. z.1) past) (m (Test ∷ [])) (λ q. m (ArmsOf ∷ q)) (λ q z. (C (ArmsOf ∷ q) z).1) (λ q. T (ArmsOf ∷ q)) p h.1
    eqn_step ds s st second lasts nsrc names last ws nk hl wk (switch a e arms) class k g now low on ok gv past m C T p h = tt
    eqn_step ds s st second lasts nsrc names last ws nk hl wk (reset a b e) class k g now low on ok gv past m C T (Body ∷ p) h =
        let fresh = is_true (now (Test ∷ [])) in
        let inner = each_part _ (BlockLoose types nils fits s (classes_within (reset a b e) second) (λ q. class (Body ∷ q)) b) Body ws g.past (λ w i z. (true, z.1)) past in
        block_step b s st (classes_within (reset a b e) second) lasts (λ q. class (Body ∷ q)) (names_within (reset a b e) nsrc) (below Body k) (within (reset a b e) names last) last fresh (since fresh (at Body g)) (part Body now) low on.2 ok.1 gv.1
        (each_since _ fresh (parts Body g.past) inner)
        (outer_of ds s st lasts last ws hl wk second nsrc names nk (reset a b e) b (since fresh (at Body g)).past (λ x z. inl z)
        (λ z. empty_since fresh (parts Body g.past) (empty_parts Body g.past (none_base _ ws g.past wk past z))))
        hl
        (λ q. subst (λ z. now (Body ∷ q) ≡ scope types (reading u) N b (is_true z) (within (reset a b e) names last) last (since (is_true z) (at Body g)) (part Body now) q) (sym (m (Test ∷ []))) (m (Body ∷ q)))
        (λ q z. (C (Body ∷ q) z).1) (λ q. T (Body ∷ q)) p h.1
    eqn_step ds s st second lasts nsrc names last ws nk hl wk (reset a b e) class k g now low on ok gv past m C T p h = tt
    eqn_step ds s st second lasts nsrc names last ws nk hl wk (automaton a ss) class k g now low on ok gv past m C T (StatesOf ∷ p) h =
        states_step (automaton a ss) s st second (classes_within (automaton a ss) second) lasts (names_within (automaton a ss) nsrc) names (within (automaton a ss) names last) last ws hl wk
        (λ b past c f. outer_of ds s st lasts last ws hl wk second nsrc names nk (automaton a ss) b past c f)
        ss 0 (strong types (reading u) N ss ss 0 (selected g.past) names last (at StatesOf g) (part StatesOf now)) (now (Active ∷ [])) (λ q. class (StatesOf ∷ q)) (k (Active ∷ [])) nsrc (below StatesOf k) (at StatesOf g) (part StatesOf now) low.1 on.1 ok gv (along_part _ _ StatesOf ws g.past (λ w i z. z.1.1) past) (m (Active ∷ [])) (λ q. m (StatesOf ∷ q)) (λ q. C (StatesOf ∷ q)) (λ q. T (StatesOf ∷ q)) p h
    eqn_step ds s st second lasts nsrc names last ws nk hl wk (automaton a ss) class k g now low on ok gv past m C T p h = tt

    arms_step : (o : Eqn) (s : Scope) (st : Standing) (second : Classes) (lasts : Lasts) (nsrc : NameSources) (names last : Names) (ws : List Presence) → HasLasts types s lasts last → EachPresence ws → ((b : Block) (past : Past) → Completes types among o lasts b → (IsTrue (none_held ws []) → IsTrue (is_empty past)) → Outer b s st second nsrc names past) → (arms : Arms) (v w : Value) (class : Assignment) (k : PlaceSources) (g : Given) (now : Instant) → ArmsPlain arms → ArmsRight st arms → ArmsOk types among o s second lasts class arms → ArmsGiven types nils u given s arms g.free → Along (λ w i. ArmsLoose types nils fits s second class arms i) ws g.past → w ≡ v → ((p : Place) → now p ≡ arm types (reading u) N arms v names last g now p) → Closed P k (in_each_arm arms nsrc k) → ((p : Place) → Within P (k p) → arms_ask types nils fits arms w s class names last g now p (now p)) → (p : Place) → Within P (in_each_arm arms nsrc k p) → arms_ask types nils fits arms w s class names last g now p (now p)
    arms_step o s st second lasts nsrc names last ws hl wk out no_arm v w class k g now low on ok gv past e m C T p h = tt
    arms_step o s st second lasts nsrc names last ws hl wk out (more_arms c b a arms) v w class k g now low on ok gv past e m C T (Head ∷ p) h =
        λ y.
        block_step b s st second lasts (λ q. class (Head ∷ q)) nsrc (below Head k) names last false (since false (at Head g)) (part Head now) low.0 on.0 ok.1.0 gv.0
        (own_all _ (parts Head g.past) (each_part _ (BlockLoose types nils fits s second (λ q. class (Head ∷ q)) b) Head ws g.past (λ w i z. z.0) past))
        (out b (own (parts Head g.past)) ok.0 (λ z. empty_own (parts Head g.past) (empty_parts Head g.past (none_base _ ws g.past wk past z))))
        hl
        (λ q. there_is (is_cons types v c) (part Head now) _ q (subst (λ z. IsTrue (is_cons types z c)) e y) (m (Head ∷ q)))
        (λ q. C (Head ∷ q)) (λ q z. T (Head ∷ q) z y) p h
    arms_step o s st second lasts nsrc names last ws hl wk out (more_arms c b a arms) v w class k g now low on ok gv past e m C T (Tail ∷ p) h =
        arms_step o s st second lasts nsrc names last ws hl wk out arms v w (λ q. class (Tail ∷ q)) (below Tail k) (at Tail g) (part Tail now) low.1 on.1 ok.1.1 gv.1 (along_part _ _ Tail ws g.past (λ w i z. z.1) past) e (λ q. m (Tail ∷ q)) (λ q. C (Tail ∷ q)) (λ q. T (Tail ∷ q)) p h
    arms_step o s st second lasts nsrc names last ws hl wk out (more_arms c b a arms) v w class k g now low on ok gv past e m C T p h = tt

    states_step : (o : Eqn) (s : Scope) (st : Standing) (outside second : Classes) (lasts : Lasts) (nsrc : NameSources) (onames names last : Names) (ws : List Presence) → HasLasts types s lasts last → EachPresence ws → ((b : Block) (past : Past) → Completes types among o lasts b → (IsTrue (none_held ws []) → IsTrue (is_empty past)) → Outer b s st second nsrc names past) → (ss : States) (i : ℕ) (j : Jump) (w : Value) (class : Assignment) (active : Sources) (osrc : NameSources) (k : PlaceSources) (g : Given) (now : Instant) → StatesPlain ss → StatesRight st ss → StatesOk types among o s outside second lasts class ss → StatesGiven types nils u given s ss g.free → Along (λ w i. StatesLoose types nils fits s outside second class w ss i) ws g.past → w ≡ state_word j.state → ((p : Place) → now p ≡ states types (reading u) N ss i j onames names last g now p) → Closed P k (in_each_state ss active osrc nsrc k) → ((p : Place) → Within P (k p) → states_ask types nils fits ss i w s class names last g now p (now p)) → (p : Place) → Within P (in_each_state ss active osrc nsrc k p) → states_ask types nils fits ss i w s class names last g now p (now p)
    states_step o s st outside second lasts nsrc onames names last ws hl wk out no_state i j w class active osrc k g now low on ok gv past e m C T p h = tt
    states_step o s st outside second lasts nsrc onames names last ws hl wk out (more_states f b until unless a ss) i j w class active osrc k g now low on ok gv past e m C T (Head ∷ Body ∷ p) h =
        λ y.
        let there = subst (λ z. IsTrue (nat_eq i (state_of z))) e y in
        let said = λ (q : Place). there_is (nat_eq i j.state) (part Body (part Head now)) _ q there (m (Head ∷ Body ∷ q)) in
        let fresh = is_true (now (Head ∷ Body ∷ Fresh ∷ [])) in
        let same : fresh ≡ j.restart = ap is_true (said (Fresh ∷ []) ∙ scope_fresh b j.restart names last (since j.restart (at Body (at Head g))) (part Body (part Head now))) in
        block_step b s st second lasts (λ q. class (Head ∷ Body ∷ q)) nsrc (below Body (below Head k)) names last fresh (since fresh (at Body (at Head g))) (part Body (part Head now)) low.0 on.0 ok.1.0 gv.0
        (each_since _ fresh (parts Body (parts Head g.past)) (each_part2 _ (BlockLoose types nils fits s second (λ q. class (Head ∷ Body ∷ q)) b) Head Body ws g.past (λ w i z. (z.0.0.0, z.0.0.1.0)) past))
        (out b (since fresh (at Body (at Head g))).past ok.0 (λ z. empty_since fresh (parts Body (parts Head g.past)) (empty_parts Body (parts Head g.past) (empty_parts Head g.past (none_base _ ws g.past wk past z)))))
        hl
        (λ q. subst (λ z. now (Head ∷ Body ∷ q) ≡ scope types (reading u) N b z names last (since z (at Body (at Head g))) (part Body (part Head now)) q) (sym same) (said q))
        (λ q z. (C (Head ∷ Body ∷ q) z).1) (λ q z. T (Head ∷ Body ∷ q) z y) p h.1
    states_step o s st outside second lasts nsrc onames names last ws hl wk out (more_states f b until unless a ss) i j w class active osrc k g now low on ok gv past e m C T (Tail ∷ p) h =
        states_step o s st outside second lasts nsrc onames names last ws hl wk out ss (suc i) j w (λ q. class (Tail ∷ q)) active osrc (below Tail k) (at Tail g) (part Tail now) low.1.1 on.3 ok.1.1.1.1 gv.1.1.1 (along_part _ _ Tail ws g.past (λ w i z. z.1) past) e (λ q. m (Tail ∷ q)) (λ q. C (Tail ∷ q)) (λ q. T (Tail ∷ q)) p h
    states_step o s st outside second lasts nsrc onames names last ws hl wk out (more_states f b until unless a ss) i j w class active osrc k g now low on ok gv past e m C T p h = tt
