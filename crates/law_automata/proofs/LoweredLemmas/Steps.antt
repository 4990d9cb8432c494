-- Blocks, equations, arms and states, by one induction: what stands for each has an instant.
use Rattle.std.proofs.Common.{◌≡◌, ℕ, ◌+◌, nat_eq, Bool, true, false, List, [], ◌∷◌, ◌++◌, inl, inr, refl, sym, ap, ap₂, ◌∙◌, arith}
use Rattle.std.specs.Prelude.{if◌then◌else◌}
use Rattle.std.proofs.lemmas.Bool.Decides.{nat_tests}
use Rattle.hp_base.specs.declared.span.Span.{Span}
use Rattle.hp_base.specs.declared.value.Value.{Value}
use Rattle.hp_base.specs.declared.value.Value.TheVariants.{B}
use Rattle.hp_tree.specs.Expressions.{Expr}
use Rattle.hp_tree.specs.Blocks.{Decl, Block, block, Eqns, no_eqn, more_eqns, Eqn, define, switch, reset, automaton, Arms, no_arm, more_arms, States, no_state, more_states}
use Rattle.hp_tree.specs.Programs.{TypeDecl}
use Rattle.hp_tree.specs.Operators.{is_cons, is_true, is_there}
use Rattle.hp_tree.specs.Instant.{Body, Named, Fresh, Equations, Head, Tail, Test, Arms as ArmsOf, Instant, Given, at, part, parts, top, own, since, nothing, of_two, with_body, with_arms}
use Rattle.hp_tree.specs.Meaning.{Names, Nodes, Jump, expr, gives, defined, scope, arm, states, weak, within, from_block, from_arm, from_state, defines, some_defines, block_defines, states_define}
use Rattle.hp_tables.specs.Defining.Names.{names_of_arms}
use Rattle.hp_automata.specs.Names.{is_name, once}
use Rattle.hp_automata.specs.Renaming.{renamed}
use Rattle.hp_automata.specs.Lowering.{Types, Enumerations, declaring, all_kept, lowered_block, lowered_eqns, lowered_eqn, lowered_arms}
use Rattle.law_automata.specs.Lowered.OldNames.{IsOld, OldExpr}
use Rattle.law_automata.specs.Lowered.Removable.{Known, and_defined, BlockOk, ArmsOk}
use Rattle.law_automata.specs.Lowered.Standing.{Relation, Along, BothThere, ExprStands, BlockStands, EqnsStand, EqnStands, ArmsStand}
use Rattle.law_automata.specs.Lowered.Giving.{ExprGiven, BlockGiven, ArmsGiven}
use Rattle.law_automata.specs.Lowered.Deciding.{Property, IfThere, ExprDecided, BlockDecided, ArmsDecided}
use Rattle.law_automata.proofs.LoweredLemmas.Callees.{Met, Callees}
use Rattle.law_automata.proofs.LoweredLemmas.Tests.{or_left, or_right, true_false, or_second, or_first}
use Rattle.law_automata.proofs.LoweredLemmas.Renaming.{Renames, within_renames}
use Rattle.law_automata.proofs.LoweredLemmas.Lookups.{eqn_old, names_of_switch}
use Rattle.law_automata.proofs.LoweredLemmas.Defined.{eqn_same, block_same}
use Rattle.law_automata.proofs.LoweredLemmas.Expressions.{reading, expr_met, stands_top}
use Rattle.law_automata.proofs.LoweredLemmas.Pasts.{along_map, own_along, since_along}
use Rattle.law_automata.proofs.LoweredLemmas.Rows.{row_more, each_row, row_none}
use Rattle.law_automata.proofs.LoweredLemmas.Around.{Undone, Around, BlockMet, EqnsStep, EqnStep, define_step, eqn_from}
use Rattle.law_automata.proofs.LoweredLemmas.BlockSteps.{AroundBlock, block_by, around_equations, left_met, own_given}
use Rattle.law_automata.proofs.LoweredLemmas.Jumps.{next_number}
use Rattle.law_automata.proofs.LoweredLemmas.StateWords.{stands_from, stands_above}
use Rattle.law_automata.proofs.LoweredLemmas.StateSteps.{state_by, later_given, later_free, later_past}
use Rattle.law_automata.proofs.LoweredLemmas.AutomatonSteps.{StatesStep, automaton_step}

module _ (types : List TypeDecl) (u : Value → Value) (N N' : Nodes) (stands given : List ℕ → Relation) (decided : List ℕ → Property) (C : Callees N N' stands given decided) (enums : Enumerations) where
  -- What is shown of a block that is there.
  abbrev pub BlockStep : Block → Type 0
  BlockStep b =
      (outer : Known) (d : ℕ) (to : List ℕ → List ℕ) (xs : List (List ℕ)) (out out' last last' : Names) → AroundBlock outer d to xs b out out' last last' → (tys : Types) (s : Span) (fresh : Bool) (g g' : Given) (now : Instant)
      → Along (BlockStands stands d b) g.past g'.past → BlockGiven u given b g.free g'.free → BlockDecided decided b now → now ≡ scope types (reading u) N b fresh out last g now
      → BlockMet types u N N' stands given decided C enums d to tys s xs b fresh out' last last' g' now

  block_from : (ds : List Decl) (es : Eqns) → EqnsStep types u N N' stands given decided C enums es → BlockStep (block ds es)
  block_from ds es ih outer d to xs out out' last last' a tys s fresh g g' now past free dec m =
      block_by types u N N' stands given decided C enums tys s a fresh g g' now past m
      (ih outer d to ds _ _ _ _ _ (around_equations types u N N' stands given decided C enums tys s a fresh g g' now past m) (declaring tys ds) (all_kept to s xs (block ds es))
      (left_met types u N N' stands given decided C enums tys s a fresh g g' now past m) a.ok.1 (at Equations g) (at Equations g') (part Equations now)
      (along_map (BlockStands stands d (block ds es)) (EqnsStand stands d es) (part Equations) (part Equations) (λ i j h. h.1) g.past g'.past past) free dec
      (own_given types u N N' stands given decided C enums tys s a fresh g g' now past m) (ap (part Equations) m))

  -- ---- arms

  -- what is known around the arms of a `switch` that defines these names
  pub record AroundArms (outer : Known) (d : ℕ) (to : List ℕ → List ℕ) (xs : List (List ℕ)) (out out' last last' : Names) : Type 0 where
    pub renames : Renames outer d to
    pub undone : Undone to
    pub own : (x : List ℕ) → is_name xs x ≡ true → outer x ≡ true
    pub old : (x : List ℕ) → is_name xs x ≡ true → IsOld x
    pub out_same : (x : List ℕ) → IsOld x → is_name xs x ≡ false → out' (to x) ≡ out x
    pub kept_same : (x : List ℕ) → is_name xs x ≡ true → out x ≡ last x
    pub lasts : (x : List ℕ) → IsOld x → last' x ≡ last x

  around_arm : (outer : Known) (d : ℕ) (to : List ℕ → List ℕ) (xs : List (List ℕ)) (out out' last last' : Names) → AroundArms outer d to xs out out' last last' → (b : Block) → BlockOk outer d b → AroundBlock outer d to xs b out out' last last'
  around_arm outer d to xs out out' last last' a b ok =
      record {
        renames = a.renames;
        undone = a.undone;
        ok = ok;
        own = a.own;
        old = a.old;
        out_same = λ x o h. a.out_same x o (or_second (block_defines b x) (is_name xs x) h);
        kept_same = λ x h n. a.kept_same x h;
        lasts = a.lasts;
      }

  abbrev pub ArmMet : ℕ → (List ℕ → List ℕ) → List (List ℕ) → Types → Span → Block → Bool → Names → Names → Names → Given → Instant → Type 0
  ArmMet d to xs tys s b t out' last last' g' now =
      (j : Instant) × (j ≡ (if t then scope types (reading u) N' (lowered_block enums to tys d s xs b) false out' last' (since false g') j else nothing)) × BothThere (BlockStands stands d b) now j
      × (t ≡ true → (x : List ℕ) → IsOld x → is_name xs x ≡ true → from_block (lowered_block enums to tys d s xs b) last' j (to x) ≡ from_block b last now x)

  arm_by : (outer : Known) (d : ℕ) (to : List ℕ → List ℕ) (xs : List (List ℕ)) (out out' last last' : Names) → AroundArms outer d to xs out out' last last' → (tys : Types) (s : Span) (b : Block) → BlockOk outer d b → BlockStep b
      → (t : Bool) (g g' : Given) (now : Instant) → Along (BothThere (BlockStands stands d b)) g.past g'.past → BlockGiven u given b g.free g'.free → IfThere (BlockDecided decided b) now
      → now ≡ (if t then scope types (reading u) N b false out last (since false g) now else nothing) → ArmMet d to xs tys s b t out' last last' g' now
  arm_by outer d to xs out out' last last' a tys s b ok ih true g g' now past free dec m =
      let fresh_now : now (Fresh ∷ []) ≡ B false = ap (λ i. i (Fresh ∷ [])) m ∙ fresh_said b in
      let made = ih outer d to xs out out' last last' (around_arm outer d to xs out out' last last' a b ok) tys s false (since false g) (since false g') now (own_along (BlockStands stands d b) g.past g'.past past) free
      (dec (ap is_there fresh_now)) m in (
        made.instant,
        made.meets,
        inr (made.was_fresh ∙ sym made.is_fresh, made.so),
        (λ h x o q. ap (λ t. if t then made.instant (Named (to x) ∷ []) else last' (to x)) (block_same enums a.renames tys s xs b ok a.own a.old x o ∙ or_right (block_defines b x) (is_name xs x) q)
            ∙ made.named x o (or_right (block_defines b x) (is_name xs x) q)),
      )
    where
      fresh_said : (b : Block) → scope types (reading u) N b false out last (since false g) now (Fresh ∷ []) ≡ B false
      fresh_said (block ds es) = refl
  arm_by outer d to xs out out' last last' a tys s b ok ih false g g' now past free dec m = (nothing, refl, inl (ap (λ i. i (Fresh ∷ [])) m, refl), λ h. absurd cc)

  abbrev pub ArmsMet : ℕ → (List ℕ → List ℕ) → List (List ℕ) → Types → Arms → Value → Names → Names → Names → Given → Instant → Type 0
  ArmsMet d to xs tys arms v out' last last' g' now =
      (j : Instant) × (j ≡ arm types (reading u) N' (lowered_arms enums to tys d xs arms) v out' last' g' j) × ArmsStand stands d arms now j
      × ((x : List ℕ) → IsOld x → is_name xs x ≡ true → from_arm types (reading u) N' (lowered_arms enums to tys d xs arms) v last' j (to x) ≡ from_arm types (reading u) N arms v last now x)

  abbrev pub ArmsStep : Arms → Type 0
  ArmsStep arms =
      (outer : Known) (d : ℕ) (to : List ℕ → List ℕ) (xs : List (List ℕ)) (out out' last last' : Names) → AroundArms outer d to xs out out' last last' → (tys : Types) → ArmsOk outer d arms → (v : Value) (g g' : Given) (now : Instant)
      → Along (ArmsStand stands d arms) g.past g'.past → ArmsGiven u given arms g.free g'.free → ArmsDecided decided arms now → now ≡ arm types (reading u) N arms v out last g now → ArmsMet d to xs tys arms v out' last last' g' now

  picked : (t : Bool) (a b p q : Value) → (t ≡ true → a ≡ p) → b ≡ q → (if t then a else b) ≡ (if t then p else q)
  picked true a b p q h g = h refl
  picked false a b p q h g = g

  -- ---- the condition of a `switch` or a `reset`
  test_met : {outer : Known} {d : ℕ} {to : List ℕ → List ℕ} {ds ds' : List Decl} {names names' last last' : Names} → Around outer d to ds ds' names names' last last' → (e : Expr) → OldExpr e → (g g' : Given) (now : Instant)
      → Along (ExprStands stands e) g.past g'.past → ExprGiven u given e g.free g'.free → ExprDecided decided e now → now ≡ expr types (reading u) N e [] names last g now
      → Met (ExprStands stands e now) (λ j. expr types (reading u) N' (renamed to e) [] names' last' g' j)
  test_met {outer} {d} {to} {ds} {ds'} {names} {names'} {last} {last'} a e o g g' now past free dec m =
      expr_met types u N N' stands given decided C to names' names last' last a.same a.lasts e o [] tt g g' now past free dec m

  -- ---- control equations, given their parts

  switch_by : (s : Span) (e : Expr) (arms : Arms) → ArmsStep arms → EqnStep types u N N' stands given decided C enums (switch s e arms)
  switch_by s e arms ih outer d to ds ds' names names' last last' a tys ok g g' now past free dec own m =
      let E : Eqn = switch s e arms in
      let xs : List (List ℕ) = once (names_of_arms arms) in
      let names_of : (x : List ℕ) → is_name xs x ≡ defines E x = names_of_switch enums arms in
      let T = test_met a e ok.0 (at Test g) (at Test g') (part Test now) (along_map (EqnStands stands d E) (ExprStands stands e) (part Test) (part Test) (λ i j h. h.0) g.past g'.past past) free.0 dec.0 (ap (part Test) m) in
      let v : Value = top (expr types (reading u) N e [] names last (at Test g) (part Test now)) in
      let same_value : v ≡ top (expr types (reading u) N' (renamed to e) [] names' last' (at Test g') T.0) = sym (ap top (ap (part Test) m)) ∙ stands_top stands e (part Test now) T.0 T.2 ∙ ap top T.1 in
      let around : AroundArms (and_defined E outer) d to xs (within E names last) (within (lowered_eqn enums to tys d E) names' last') last last' = record {
        renames = within_renames E a.renames;
        undone = a.undone;
        own = λ x h. or_left (defines E x) (outer x) (sym (names_of x) ∙ h);
        old = λ x h. eqn_old outer d E ok x (sym (names_of x) ∙ h);
        out_same = λ x o h. ap (λ t. if t then last' (to x) else names' (to x)) (eqn_same enums a.renames tys E ok x o ∙ sym (names_of x) ∙ h) ∙ a.same x o
            ∙ sym (ap (λ t. if t then last x else names x) (sym (names_of x) ∙ h));
        kept_same = λ x h. ap (λ t. if t then last x else names x) (sym (names_of x) ∙ h);
        lasts = a.lasts;
      } in
      let A = ih (and_defined E outer) d to xs (within E names last) (within (lowered_eqn enums to tys d E) names' last') last last' around tys ok.1 v (at ArmsOf g) (at ArmsOf g') (part ArmsOf now)
      (along_map (EqnStands stands d E) (ArmsStand stands d arms) (part ArmsOf) (part ArmsOf) (λ i j h. h.1) g.past g'.past past) free.1 dec.1 (ap (part ArmsOf) m) in
      eqn_from types u N N' stands given decided C enums a tys E ok g g' now own (with_arms T.0 A.0)
      (ap₂ with_arms T.1 (A.1 ∙ ap (λ q. arm types (reading u) N' (lowered_arms enums to tys d xs arms) q (within (lowered_eqn enums to tys d E) names' last') last' (at ArmsOf g') A.0) same_value))
      (λ x o h. ap (λ q. from_arm types (reading u) N' (lowered_arms enums to tys d xs arms) q last' A.0 (to x)) (sym same_value) ∙ A.3 x o (names_of x ∙ h))
      (T.2, A.2)

  reset_by : (s : Span) (b : Block) (e : Expr) → BlockStep b → EqnStep types u N N' stands given decided C enums (reset s b e)
  reset_by s b e ih outer d to ds ds' names names' last last' a tys ok g g' now past free dec own m =
      let E : Eqn = reset s b e in
      let T = test_met a e ok.0 (at Test g) (at Test g') (part Test now) (along_map (EqnStands stands d E) (ExprStands stands e) (part Test) (part Test) (λ i j h. h.0) g.past g'.past past) free.0 dec.0 (ap (part Test) m) in
      let fresh : Bool = is_true (top (expr types (reading u) N e [] names last (at Test g) (part Test now))) in
      let same_fresh : fresh ≡ is_true (top (expr types (reading u) N' (renamed to e) [] names' last' (at Test g') T.0)) =
      ap is_true (sym (ap top (ap (part Test) m)) ∙ stands_top stands e (part Test now) T.0 T.2 ∙ ap top T.1) in
      let around : AroundBlock (and_defined E outer) d to [] b (within E names last) (within (lowered_eqn enums to tys d E) names' last') last last' = record {
        renames = within_renames E a.renames;
        undone = a.undone;
        ok = ok.1;
        own = λ x h. absurd cc;
        old = λ x h. absurd cc;
        out_same = λ x o h. ap (λ t. if t then last' (to x) else names' (to x)) (eqn_same enums a.renames tys E ok x o ∙ or_first (block_defines b x) false h) ∙ a.same x o
            ∙ sym (ap (λ t. if t then last x else names x) (or_first (block_defines b x) false h));
        kept_same = λ x h n. absurd cc;
        lasts = a.lasts;
      } in
      let body_is : part Body now ≡ scope types (reading u) N b fresh (within E names last) last (since fresh (at Body g)) (part Body now) = ap (part Body) m in
      let there : is_there (part Body now (Fresh ∷ [])) ≡ true = ap is_there (ap (λ i. i (Fresh ∷ [])) body_is ∙ fresh_said b fresh (within E names last) last (since fresh (at Body g)) (part Body now)) in
      let B' = ih (and_defined E outer) d to [] (within E names last) (within (lowered_eqn enums to tys d E) names' last') last last' around tys s fresh (since fresh (at Body g)) (since fresh (at Body g')) (part Body now)
      (since_along (BlockStands stands d b) fresh (parts Body g.past) (parts Body g'.past) (along_map (EqnStands stands d E) (BothThere (BlockStands stands d b)) (part Body) (part Body) (λ i j h. h.1) g.past g'.past past))
      free.1 (dec.1 there) body_is in
      eqn_from types u N N' stands given decided C enums a tys E ok g g' now own (with_body T.0 B'.instant)
      (ap₂ with_body T.1 (B'.meets ∙ ap (λ t. scope types (reading u) N' (lowered_block enums to tys d s [] b) t (within (lowered_eqn enums to tys d E) names' last') last' (since t (at Body g')) B'.instant) same_fresh))
      (λ x o h. B'.named x o (or_left (block_defines b x) false h) ∙ ap (λ t. if t then part Body now (Named x ∷ []) else last x) h)
      (T.2, inr (B'.was_fresh ∙ sym B'.is_fresh, B'.so))
    where
      fresh_said : (b : Block) (fresh : Bool) (out last : Names) (g : Given) (now : Instant) → scope types (reading u) N b fresh out last g now (Fresh ∷ []) ≡ B fresh
      fresh_said (block ds es) fresh out last g now = refl

  -- ---- the states behind one

  later_away : (k n : ℕ) (ss : States) → stands_from (k + 1) ss n ≡ true → nat_eq k n ≡ false
  later_away k n ss h = let above = stands_above (k + 1) ss n h in grind (arith, nat_tests)

  still : (k n : ℕ) (t : Bool) (ss : States) → stands_from (k + 1) ss n ≡ true → (if t then true else stands_from (k + 1) ss n) ≡ true
  still k n true ss h = refl
  still k n false ss h = h

  mutual
    pub eqns_step : (es : Eqns) → EqnsStep types u N N' stands given decided C enums es
    eqns_step no_eqn outer d to ds ds' names names' last last' a tys more each ok g g' now past free dec own m = each_row types u N' ds' names' last' more g' each
    eqns_step (more_eqns e es) outer d to ds ds' names names' last last' a tys more each ok g g' now past free dec own m =
        row_more types u N' ds' names' last' (lowered_eqn enums to tys d e) (lowered_eqns enums to tys d es ++ more) g' (EqnStands stands d e (part Head now)) (EqnsStand stands d es (part Tail now))
        (eqn_step e outer d to ds ds' names names' last last' a tys ok.1 (at Head g) (at Head g') (part Head now)
        (along_map (EqnsStand stands d (more_eqns e es)) (EqnStands stands d e) (part Head) (part Head) (λ i j h. h.0) g.past g'.past past) free.0 dec.0
        (λ x h. sym (ap (λ t. if t then gives types (reading u) N ds e names last (at Head g) (part Head now) x else defined types (reading u) N ds es names last (at Tail g) (part Tail now) x) h) ∙ own x (or_left (defines e x) (some_defines es x) h))
        (ap (part Head) m))
        (eqns_step es outer d to ds ds' names names' last last' a tys more each ok.2 (at Tail g) (at Tail g') (part Tail now)
        (along_map (EqnsStand stands d (more_eqns e es)) (EqnsStand stands d es) (part Tail) (part Tail) (λ i j h. h.1) g.past g'.past past) free.1 dec.1
        (λ x h. sym (ap (λ t. if t then gives types (reading u) N ds e names last (at Head g) (part Head now) x else defined types (reading u) N ds es names last (at Tail g) (part Tail now) x) (not_first x (defines e x) refl h))
        ∙ own x (or_right (defines e x) (some_defines es x) h))
        (ap (part Tail) m))
      where
        not_first : (x : List ℕ) (t : Bool) → defines e x ≡ t → some_defines es x ≡ true → t ≡ false
        not_first x true q h = absurd (true_false (some_defines es x) h (ok.0 x q))
        not_first x false q h = refl

    pub eqn_step : (e : Eqn) → EqnStep types u N N' stands given decided C enums e
    eqn_step (define s ys e) outer d to ds ds' names names' last last' a tys ok g g' now past free dec own m =
        define_step types u N N' stands given decided C enums a tys s ys e ok g g' now past free dec own m
    eqn_step (switch s e arms) outer d to ds ds' names names' last last' a tys ok g g' now past free dec own m =
        switch_by s e arms (arms_step arms) outer d to ds ds' names names' last last' a tys ok g g' now past free dec own m
    eqn_step (reset s b e) outer d to ds ds' names names' last last' a tys ok g g' now past free dec own m =
        reset_by s b e (block_step b) outer d to ds ds' names names' last last' a tys ok g g' now past free dec own m
    eqn_step (automaton s ss) outer d to ds ds' names names' last last' a tys ok g g' now past free dec own m =
        automaton_step types u N N' stands given decided C enums a tys s ss ok g g' now past free dec own m (states_step ss)

    pub block_step : (b : Block) → BlockStep b
    block_step (block ds es) outer d to xs out out' last last' a tys s fresh g g' now past free dec m = block_from ds es (eqns_step es) outer d to xs out out' last last' a tys s fresh g g' now past free dec m

    pub arms_step : (arms : Arms) → ArmsStep arms
    arms_step no_arm outer d to xs out out' last last' a tys ok v g g' now past free dec m = (nothing, refl, tt, λ x o h. refl)
    arms_step (more_arms c b s arms) outer d to xs out out' last last' a tys ok v g g' now past free dec m =
        let H = arm_by outer d to xs out out' last last' a tys s b ok.0 (block_step b) (is_cons types v c) (at Head g) (at Head g') (part Head now)
        (along_map (ArmsStand stands d (more_arms c b s arms)) (BothThere (BlockStands stands d b)) (part Head) (part Head) (λ i j h. h.0) g.past g'.past past) free.0 dec.0 (ap (part Head) m) in
        let R = arms_step arms outer d to xs out out' last last' a tys ok.1 v (at Tail g) (at Tail g') (part Tail now)
        (along_map (ArmsStand stands d (more_arms c b s arms)) (ArmsStand stands d arms) (part Tail) (part Tail) (λ i j h. h.1) g.past g'.past past) free.1 dec.1 (ap (part Tail) m) in (
          of_two H.0 R.0,
          ap₂ of_two H.1 R.1,
          (H.2, R.2),
          λ x o h. picked (is_cons types v c) _ _ _ _ (λ t. H.3 t x o h) (R.3 x o h),
        )

    pub states_step : (ss : States) → StatesStep types u N N' stands given decided C enums ss
    states_step no_state outer to f all e names last names' last' sel j w ds' tys c k ok room known sub g g' now past free dec m next values = row_none types u N' ds' names' last' g'
    states_step (more_states q (block ds es) until unless place ss) outer to f all e names last names' last' sel j w ds' tys c k ok room known sub g g' now past free dec m next values =
        state_by types u N N' stands enums tys c k q ds es until unless place ss ok room known (λ x h. sub x (or_left (block_defines (block ds es) x) (states_define ss x) h)) g g' now past given decided C (eqns_step es) free dec m next values
        (states_step ss outer to f all e names last names' last' sel j w ds' tys c (k + 1) ok.1 (omega arith) known.5 (λ x h. sub x (or_right (block_defines (block ds es) x) (states_define ss x) h))
        (at Tail g) (later_given types u N N' stands enums tys c k q ds es until unless place ss ok room known (λ x h. sub x (or_left (block_defines (block ds es) x) (states_define ss x) h)) g g' now) (part Tail now)
        (later_past types u N N' stands enums tys c k q ds es until unless place ss ok room known (λ x h. sub x (or_left (block_defines (block ds es) x) (states_define ss x) h)) g g' now past)
        (later_free types u N N' stands enums tys c k q ds es until unless place ss ok room known (λ x h. sub x (or_left (block_defines (block ds es) x) (states_define ss x) h)) g g' now given free)
        dec.1
        (ap (part Tail) m ∙ ap (λ n. states types (reading u) N ss n j names (within e names last) last (at Tail g) (part Tail now)) (sym (next_number k)))
        (λ h. next (still k j.state (nat_eq k j.state) ss h)
        ∙ later_weak (nat_eq k j.state) _ _ (later_away k j.state ss h) ∙ ap (λ n. weak types (reading u) N all ss n j (within e names last) last (at Tail g) (part Tail now)) (sym (next_number k)))
        (λ h x z. values (still k j.state (nat_eq k j.state) ss h) x z
        ∙ later_value (nat_eq k j.state) _ _ (later_away k j.state ss h) ∙ ap (λ n. from_state ss n j.state last (part Tail now) x) (sym (next_number k))))
      where
        later_weak : (t : Bool) (p r : Jump) → t ≡ false → (if t then p else r) ≡ r
        later_weak true p r h = absurd cc
        later_weak false p r h = refl

        later_value : (t : Bool) (p r : Value) → t ≡ false → (if t then p else r) ≡ r
        later_value true p r h = absurd cc
        later_value false p r h = refl
