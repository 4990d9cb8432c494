-- The instant of a block is solid, and so is that of each equation in it.
use Rattle.std.proofs.Common.{◌≡◌, ℕ, suc, List, [], ◌∷◌}
use Rattle.std.specs.Prelude.{Bool, true, false, nat_eq, if◌then◌else◌, Option}
use Rattle.hp_base.specs.declared.ty.Ty.TheVariants as ty
use Rattle.hp_base.specs.declared.value.Value.{Value}
use Rattle.hp_tree.specs.declared.block.Trans.{Trans}
use Rattle.hp_tree.specs.Blocks.{Decl, Block, block, Eqns, no_eqn, more_eqns, Eqn, define, switch, reset, automaton, Arms, no_arm, more_arms, States, no_state, more_states}
use Rattle.hp_tree.specs.Programs.{TypeDecl, Node}
use Rattle.hp_tree.specs.Operators.{is_cons, is_true, constant_of}
use Rattle.hp_tree.specs.Instant.{Step, Body, Named, Equations, Head, Tail, Right, Test, Arms as ArmsOf, States as StatesOf, Until, Unless, Place, Instant, Past, Given, at, part, parts, top, since, own}
use Rattle.hp_tree.specs.Meaning.{Names, Nodes, Jump, inside as inside_names, within, lasts as lasts_said, clock_of, read_in, last_in, expr, scope, equations, equation, arm, states}
use Rattle.hp_tree.specs.Reaction.{Each}
use Rattle.hp_base.specs.Known.Known.{lookup}
use Rattle.hp_typing.specs.Scopes.{with_variables, inside}
use Rattle.law_judged.specs.Typed.Scopes.{Scope}
use Rattle.hp_init.specs.Classes.{Classes, Assignment}
use Rattle.law_values.specs.Valued.Fitting.{Presence, IsPresence, IsThere, TestsFit}
use Rattle.law_values.specs.Valued.Given.{reading}
use Rattle.law_values.specs.Valued.Judged.{Lasts, lasts_in, lasts_of}
use Rattle.law_values.specs.Valued.Classed.{classes_in, classes_within, classes_of}
use Rattle.law_values.proofs.ValuedLemmas.Both.{BlockOk, EqnsOk, EqnOk, ArmsOk, StatesOk}
use Rattle.law_values.proofs.ValuedLemmas.ExprTops.{own_all}
use Rattle.law_values.proofs.ValuedLemmas.Loose.{BlockLoose, EqnsLoose, EqnLoose, ArmsLoose, StatesLoose, BlockAt}
use Rattle.law_values.proofs.AcceptedLemmas.Outputs.{never_star}
use Rattle.law_games.proofs.GuaranteedLemmas.Solid.{Solid, nothing_solid, there_solid, both_solid, block_solid, right_solid, arms_solid, body_solid, state_solid, words_solid}
use Rattle.law_games.proofs.GuaranteedLemmas.SolidExprs.{Been, been_part, been_in, Was, expr_solid, equated_solid, tests_solid}

pub each_been : (P Q : Instant → Type 0) (s : Step) (past : Past) → ((j : Instant) → P j → Q (part s j)) → Each P past → Been Q (parts s past)
each_been P Q s [] f a = tt
each_been P Q s (j ∷ past) f a = ((true, f j a.0), each_been P Q s past f a.1)

each_since : (P : Instant → Type 0) (fresh : Bool) (past : Past) → Been P past → Each P (if fresh then [] else own past)
each_since P true past a = tt
each_since P false past a = own_all P past a

there_as : (d : Bool) (P Q : Instant → Type 0) (i : Instant) → ((j : Instant) → P j → Q j) → IsThere d P i → IsThere d Q i
there_as true P Q i f h = f i h
there_as false P Q i f h = h

module _ (types : List TypeDecl) (u : Value → Value) (N : Nodes) (among : List ℕ → Option Node) (fits : List ℕ → Instant → Type 0) (own_solid : (f : List ℕ) (i : Instant) → fits f i → Solid i) where
  abbrev pub EqnsWere : List Decl → Scope → Classes → Assignment → Eqns → Instant → Type 0
  EqnsWere ds s second class es j = (w : Presence) × EqnsLoose types true fits ds s second class w es j

  abbrev EqnWas : List Decl → Scope → Classes → Assignment → Eqn → Instant → Type 0
  EqnWas ds s second class e j = (w : Presence) × EqnLoose types true fits ds s second class w e j

  abbrev StatesWere : Scope → Classes → Classes → Assignment → States → Instant → Type 0
  StatesWere s out second class ss j = (w : Presence) × StatesLoose types true fits s out second class w ss j

  abbrev StateWas : Scope → Classes → Classes → Assignment → Block → List Trans → List Trans → Instant → Type 0
  StateWas s out second class b until unless j =
      (w : Presence)
      × (((d : Bool) × (IsThere d (BlockLoose types true fits s second (λ p. class (Head ∷ Body ∷ p)) b) (part Body j)
      × IsThere d (λ k. (v : Presence) × (IsPresence v × TestsFit types true fits (inside s b) (classes_of b second (λ p. class (Head ∷ Body ∷ p))) v until k)) (part Until j)))
      × TestsFit types true fits s out w unless (part Unless j))

  abbrev TestsWere : Scope → Classes → List Trans → Instant → Type 0
  TestsWere s second ts j = (w : Presence) × TestsFit types true fits s second w ts j

  mutual
    -- a block with its clocks
    pub block_at_solid : (b : Block) (s : Scope) (second : Classes) (lasts : Lasts) (class : Assignment) (there : Presence) (names last : Names) (fresh : Bool) (g : Given) (i : Instant) → BlockOk types among s second lasts class b → BlockAt types true fits s second class there b i → Each (BlockLoose types true fits s second class b) g.past → ((p : Place) → i p ≡ scope types (reading u) N b fresh names last g i p) → Solid i
    block_at_solid (block ds es) s second lasts class there names last fresh g i ok f was m =
        block_solid i _ fresh _ m
        (λ x. never_star types _ (lookup (with_variables s ds).variables x) _ (i (Named x ∷ [])) (f.0 x).0)
        (eqns_solid ds es (with_variables s ds) (classes_in es second class) (lasts_in ds lasts) (λ p. class (Equations ∷ p)) there (inside_names es names i) (lasts_said (constant_of types) ds g.past last) (at Equations g) (part Equations i) ok.1.1 f.1
        (each_been (BlockLoose types true fits s second class (block ds es)) (EqnsWere ds (with_variables s ds) (classes_in es second class) (λ p. class (Equations ∷ p)) es) Equations g.past (λ j z. (z.0, z.1.1.1)) was) (λ p. m (Equations ∷ p)))

    pub block_loose_solid : (b : Block) (s : Scope) (second : Classes) (lasts : Lasts) (class : Assignment) (names last : Names) (fresh : Bool) (g : Given) (i : Instant) → BlockOk types among s second lasts class b → BlockLoose types true fits s second class b i → Each (BlockLoose types true fits s second class b) g.past → ((p : Place) → i p ≡ scope types (reading u) N b fresh names last g i p) → Solid i
    block_loose_solid (block ds es) s second lasts class names last fresh g i ok f was m =
        block_solid i _ fresh _ m
        (λ x. never_star types _ (lookup (with_variables s ds).variables x) _ (i (Named x ∷ [])) (f.1.1.0 x).0)
        (eqns_solid ds es (with_variables s ds) (classes_in es second class) (lasts_in ds lasts) (λ p. class (Equations ∷ p)) f.0 (inside_names es names i) (lasts_said (constant_of types) ds g.past last) (at Equations g) (part Equations i) ok.1.1 f.1.1.1
        (each_been (BlockLoose types true fits s second class (block ds es)) (EqnsWere ds (with_variables s ds) (classes_in es second class) (λ p. class (Equations ∷ p)) es) Equations g.past (λ j z. (z.0, z.1.1.1)) was) (λ p. m (Equations ∷ p)))

    eqns_solid : (ds : List Decl) (es : Eqns) (s : Scope) (second : Classes) (lasts : Lasts) (class : Assignment) (there : Presence) (names last : Names) (g : Given) (i : Instant) → EqnsOk types among s second lasts class es → EqnsLoose types true fits ds s second class there es i → Been (EqnsWere ds s second class es) g.past → ((p : Place) → i p ≡ equations types (reading u) N ds es names last g i p) → Solid i
    eqns_solid ds no_eqn s second lasts class there names last g i ok f was m = nothing_solid i m
    eqns_solid ds (more_eqns e es) s second lasts class there names last g i ok f was m =
        both_solid i _ _ m
        (eqn_solid ds e s second lasts (λ p. class (Head ∷ p)) there names last (at Head g) (part Head i) ok.0 f.0 (been_in (EqnsWere ds s second class (more_eqns e es)) (EqnWas ds s second (λ p. class (Head ∷ p)) e) Head g.past (λ j z. (z.0, z.1.0)) was) (λ p. m (Head ∷ p)))
        (eqns_solid ds es s second lasts (λ p. class (Tail ∷ p)) there names last (at Tail g) (part Tail i) ok.1 f.1 (been_in (EqnsWere ds s second class (more_eqns e es)) (EqnsWere ds s second (λ p. class (Tail ∷ p)) es) Tail g.past (λ j z. (z.0, z.1.1)) was) (λ p. m (Tail ∷ p)))

    eqn_solid : (ds : List Decl) (e : Eqn) (s : Scope) (second : Classes) (lasts : Lasts) (class : Assignment) (there : Presence) (names last : Names) (g : Given) (i : Instant) → EqnOk types among s second lasts class e → EqnLoose types true fits ds s second class there e i → Been (EqnWas ds s second class e) g.past → ((p : Place) → i p ≡ equation types (reading u) N ds e names last g i p) → Solid i
    eqn_solid ds (define a ys e) s second lasts class there names last g i ok f was m =
        right_solid i _ m
        (equated_solid types u N among fits own_solid s second lasts there names last ys e (clock_of ds ys e) (at Right g) (part Right i) ok f
        (been_in (EqnWas ds s second class (define a ys e)) (Was types u N among fits own_solid s second lasts e (clock_of ds ys e)) Right g.past (λ j z. z) was) (λ p. m (Right ∷ p)))
    eqn_solid ds (switch a e arms) s second lasts class there names last g i ok f was m =
        arms_solid i _ _ m
        (expr_solid types u N among fits own_solid s second lasts there names last e ok.1.1.0.0 [] (at Test g) (part Test i) ok.1.1.0.1.0 ok.0 f.0
        (been_in (EqnWas ds s second class (switch a e arms)) (Was types u N among fits own_solid s second lasts e []) Test g.past (λ j z. (z.0, z.1.0)) was) (λ p. m (Test ∷ p)))
        (arms_are_solid (switch a e arms) arms _ s (classes_within (switch a e arms) second) lasts (λ p. class (ArmsOf ∷ p)) (within (switch a e arms) names last) last (at ArmsOf g) (part ArmsOf i) ok.1.1.1 f.1
        (been_in (EqnWas ds s second class (switch a e arms)) (ArmsLoose types true fits s (classes_within (switch a e arms) second) (λ p. class (ArmsOf ∷ p)) arms) ArmsOf g.past (λ j z. z.1.1) was) (λ p. m (ArmsOf ∷ p)))
    eqn_solid ds (reset a b e) s second lasts class there names last g i ok f was m =
        let fresh = is_true (top (expr types (reading u) N e [] names last (at Test g) (part Test i))) in
        body_solid i _ _ m
        (expr_solid types u N among fits own_solid s second lasts there names last e ty.Bool [] (at Test g) (part Test i) ok.0.1.1 ok.0.0 f.0
        (been_in (EqnWas ds s second class (reset a b e)) (Was types u N among fits own_solid s second lasts e []) Test g.past (λ j z. (z.0, z.1.0)) was) (λ p. m (Test ∷ p)))
        (block_loose_solid b s (classes_within (reset a b e) second) lasts (λ p. class (Body ∷ p)) (within (reset a b e) names last) last fresh (since fresh (at Body g)) (part Body i) ok.1 f.1
        (each_since (BlockLoose types true fits s (classes_within (reset a b e) second) (λ p. class (Body ∷ p)) b) fresh (parts Body g.past)
        (been_in (EqnWas ds s second class (reset a b e)) (BlockLoose types true fits s (classes_within (reset a b e) second) (λ p. class (Body ∷ p)) b) Body g.past (λ j z. z.1.1) was)) (λ p. m (Body ∷ p)))
    eqn_solid ds (automaton a ss) s second lasts class there names last g i ok f was m =
        words_solid i _ _ _ _ m
        (states_solid (automaton a ss) ss 0 _ s second (classes_within (automaton a ss) second) lasts (λ p. class (StatesOf ∷ p)) there names (within (automaton a ss) names last) last (at StatesOf g) (part StatesOf i) ok f.1.1
        (been_in (EqnWas ds s second class (automaton a ss)) (StatesWere s second (classes_within (automaton a ss) second) (λ p. class (StatesOf ∷ p)) ss) StatesOf g.past (λ j z. (z.0, z.1.1.1)) was) (λ p. m (StatesOf ∷ p)))

    arms_are_solid : (o : Eqn) (arms : Arms) (v : Value) (s : Scope) (second : Classes) (lasts : Lasts) (class : Assignment) (names last : Names) (g : Given) (i : Instant) → ArmsOk types among o s second lasts class arms → ArmsLoose types true fits s second class arms i → Been (ArmsLoose types true fits s second class arms) g.past → ((p : Place) → i p ≡ arm types (reading u) N arms v names last g i p) → Solid i
    arms_are_solid o no_arm v s second lasts class names last g i ok f was m = nothing_solid i m
    arms_are_solid o (more_arms c b a arms) v s second lasts class names last g i ok f was m =
        both_solid i _ _ m
        (there_solid (is_cons types v c) f.0.0 _ (BlockLoose types true fits s second (λ p. class (Head ∷ p)) b) (part Head i) (λ p. m (Head ∷ p)) f.0.1
        (λ k z. block_loose_solid b s second lasts (λ p. class (Head ∷ p)) names last false (since false (at Head g)) (part Head i) ok.1.0 z
        (own_all (BlockLoose types true fits s second (λ p. class (Head ∷ p)) b) (parts Head g.past) (been_part (ArmsLoose types true fits s second class (more_arms c b a arms)) (BlockLoose types true fits s second (λ p. class (Head ∷ p)) b) Head g.past (λ j z. z.0) was)) k))
        (arms_are_solid o arms v s second lasts (λ p. class (Tail ∷ p)) names last (at Tail g) (part Tail i) ok.1.1 f.1 (been_in (ArmsLoose types true fits s second class (more_arms c b a arms)) (ArmsLoose types true fits s second (λ p. class (Tail ∷ p)) arms) Tail g.past (λ j z. z.1) was) (λ p. m (Tail ∷ p)))

    states_solid : (o : Eqn) (ss : States) (k : ℕ) (j : Jump) (s : Scope) (out second : Classes) (lasts : Lasts) (class : Assignment) (there : Presence) (outer names last : Names) (g : Given) (i : Instant) → StatesOk types among o s out second lasts class ss → StatesLoose types true fits s out second class there ss i → Been (StatesWere s out second class ss) g.past → ((p : Place) → i p ≡ states types (reading u) N ss k j outer names last g i p) → Solid i
    states_solid o no_state k j s out second lasts class there outer names last g i ok f was m = nothing_solid i m
    states_solid o (more_states x b until unless a ss) k j s out second lasts class there outer names last g i ok f was m =
        let B = BlockLoose types true fits s second (λ p. class (Head ∷ Body ∷ p)) b in
        let W = StatesWere s out second class (more_states x b until unless a ss) in
        let V = StateWas s out second class b until unless in
        let K = classes_of b second (λ p. class (Head ∷ Body ∷ p)) in
        let g' = at Head g in
        let i' = part Head i in
        let one : Been V (parts Head g.past) = been_in W V Head g.past (λ y z. (z.0, z.1.0)) was in
        both_solid i _ _ m
        (state_solid i' _ _ _ (λ p. m (Head ∷ p))
        (there_solid (nat_eq k j.state) f.0.0.0 _ B (part Body i') (λ p. m (Head ∷ Body ∷ p)) f.0.0.1.0
        (λ q z. block_loose_solid b s second lasts (λ p. class (Head ∷ Body ∷ p)) names last j.restart (since j.restart (at Body g')) (part Body i') ok.1.0 z
        (each_since B j.restart (parts Body (parts Head g.past)) (been_part V B Body (parts Head g.past) (λ y z. (z.1.0.0, z.1.0.1.0)) one)) q))
        (there_solid (nat_eq k j.state) f.0.0.0 _ (λ y. (v : Presence) × (IsPresence v × TestsFit types true fits (inside s b) K v until y)) (part Until i') (λ p. m (Head ∷ Until ∷ p)) f.0.0.1.1
        (λ q z. tests_solid types u N among fits own_solid (inside s b) K (lasts_of b lasts) z.0 (read_in types (reading u) N b names (part Body i')) (last_in types (reading u) N b (since j.restart (at Body g')).past last) until (at Until g') (part Until i') ok.1.1.0 z.1.1
        (been_part V (TestsWere (inside s b) K until) Until (parts Head g.past) (λ y z. (z.1.0.0, there_as z.1.0.0 _ (TestsWere (inside s b) K until) (part Until y) (λ k v. (v.0, v.1.1)) z.1.0.1.1)) one) q))
        (tests_solid types u N among fits own_solid s out lasts there outer last unless (at Unless g') (part Unless i') ok.1.1.1.0 f.0.1 (been_in V (TestsWere s out unless) Unless (parts Head g.past) (λ y z. (z.0, z.1.1)) one) (λ p. m (Head ∷ Unless ∷ p))))
        (states_solid o ss (suc k) j s out second lasts (λ p. class (Tail ∷ p)) there outer names last (at Tail g) (part Tail i) ok.1.1.1.1 f.1 (been_in W (StatesWere s out second (λ p. class (Tail ∷ p)) ss) Tail g.past (λ y z. (z.0, z.1.1)) was) (λ p. m (Tail ∷ p)))
