-- What a block says at a place depends on what the place reads.
use Rattle.std.proofs.Common.{◌≡◌, ℕ, suc, List, [], ◌∷◌, refl, ap, ap₂, ◌∙◌}
use Rattle.std.specs.Prelude.{Bool, false, if◌then◌else◌, nat_eq}
use Rattle.hp_base.specs.declared.value.Value.{Value}
use Rattle.hp_base.specs.declared.value.Value.TheVariants.{Absent, B}
use Rattle.hp_tree.specs.declared.block.Trans.{Trans}
use Rattle.hp_tree.specs.Blocks.{Decl, Block, block, Eqns, no_eqn, more_eqns, Eqn, define, switch, reset, automaton, Arms, no_arm, more_arms, States, no_state, more_states}
use Rattle.hp_tree.specs.Programs.{TypeDecl}
use Rattle.hp_tree.specs.Operators.{Reading, is_cons, is_true, constant_of}
use Rattle.hp_tree.specs.Instant.{Body, Named, Equations, Head, Tail, Right, Test, Arms as ArmsOf, States as StatesOf, Until, Unless, Active, Place, Instant, Given, at, part, since, nothing, in_row}
use Rattle.hp_tree.specs.Meaning.{Names, Nodes, defines, some_defines, block_defines, within, lasts, clock_of, Jump, state_word, selected, first_true, from_block, from_state, strong, read_in, weak_in, weak, from_arm, gives, defined, scope, equations, equation, arm, states}
use Rattle.hp_meaning.specs.Causal.Sources.{Sources, none, both, also, Within, NameSources, PlaceSources, below, at_state}
use Rattle.hp_meaning.specs.Causal.WhatIsRead.{of_expr, names_in, names_within, names_in_block, in_arms, in_states, strong_ones, weak_ones, at_expr, at_conditions, of_definition, of_definitions, in_block, in_equations, in_equation, in_each_arm, in_each_state}
use Rattle.hp_meaning.proofs.CausalLemmas.Agreeing.{Agree, SameNames, Closed, choice, inside_same, within_same, of_two_at, block_at, right_at, arms_at, body_at, state_at, words_at, if_at}
use Rattle.hp_meaning.proofs.CausalLemmas.Solved.{Solved, by}
use Rattle.hp_meaning.proofs.CausalLemmas.ExpressionsAgree.{expr_top, expr_agrees, right_agrees, conditions_tops, conditions_agree}

-- what the places of one state read
abbrev at_each : Sources → Block → List Trans → List Trans → NameSources → NameSources → PlaceSources → PlaceSources
at_each active c until unless out names k =
    at_state active (in_block c names (below Body (below Head k)))
    (at_conditions until (names_in_block c names (below Body (below Head k))) (below Until (below Head k)))
    (at_conditions unless out (below Unless (below Head k)))

module _ (P : Place → Type 0) (types : List TypeDecl) (R : Reading) (outputs : List ℕ → List (List ℕ)) (S : Solved) where
  abbrev N : Nodes
  N = by outputs S

  pub names_of_same : (c : Block) (names : NameSources) (k : PlaceSources) (a b : Names) (i j : Instant) → SameNames P names a b → Agree P k i j → SameNames P (names_in_block c names k) (read_in types R N c a i) (read_in types R N c b j)
  names_of_same (block ds es) names k a b i j s t = inside_same P es names k a b i j s t

  strong_same : (all ss : States) (m : ℕ) (u : Jump) (active : Sources) (out names : NameSources) (k : PlaceSources) (a b last : Names) (g : Given) (i j : Instant) → Closed P k (in_each_state ss active out names k) → SameNames P out a b → Within P (strong_ones ss k) → strong types R N all ss m u a last g i ≡ strong types R N all ss m u b last g j
  strong_same all no_state m u active out names k a b last g i j C s h = refl
  strong_same all (more_states f c until unless p ss) m u active out names k a b last g i j C s h =
      ap₂ (λ v w. if nat_eq m u.state then first_true all unless v u else w)
      (conditions_tops P types R outputs S unless out (below Unless (below Head k)) a b last (at Unless (at Head g)) (part Unless (part Head i)) (part Unless (part Head j)) (λ p. C (Head ∷ Unless ∷ p)) s h.0)
      (strong_same all ss (suc m) u active out names (below Tail k) a b last (at Tail g) (part Tail i) (part Tail j) (λ p. C (Tail ∷ p)) s h.1)

  weak_same : (all ss : States) (m : ℕ) (u : Jump) (active : Sources) (out names : NameSources) (k : PlaceSources) (a b last : Names) (g : Given) (i j : Instant) → Closed P k (in_each_state ss active out names k) → SameNames P names a b → Agree P k i j → Within P (weak_ones ss k) → weak types R N all ss m u a last g i ≡ weak types R N all ss m u b last g j
  weak_same all no_state m u active out names k a b last g i j C s t h = refl
  weak_same all (more_states f c until unless p ss) m u active out names k a b last g i j C s t h =
      ap₂ (λ v w. if nat_eq m u.state then first_true all until v (record { state = u.state; restart = false }) else w)
      (conditions_tops P types R outputs S until (names_in_block c names (below Body (below Head k))) (below Until (below Head k)) _ _ _ (at Until (at Head g)) (part Until (part Head i)) (part Until (part Head j))
      (λ p h. (C (Head ∷ Until ∷ p) h).1)
      (names_of_same c names (below Body (below Head k)) a b (part Body (part Head i)) (part Body (part Head j)) s (λ p. t (Head ∷ Body ∷ p))) h.0)
      (weak_same all ss (suc m) u active out names (below Tail k) a b last (at Tail g) (part Tail i) (part Tail j) (λ p. C (Tail ∷ p)) s (λ p. t (Tail ∷ p)) h.1)

  -- what a branch gives to a name
  from_block_same : (c : Block) (s : Sources) (last : Names) (i j : Instant) (x : List ℕ) → (Within P s → i (Named x ∷ []) ≡ j (Named x ∷ [])) → Within P (if block_defines c x then s else none) → from_block c last i x ≡ from_block c last j x
  from_block_same c s last i j x e h = choice P (block_defines c x) s none _ _ _ _ e (λ u. refl) h

  from_arm_same : (arms : Arms) (k : PlaceSources) (v : Value) (last : Names) (i j : Instant) → Agree P k i j → (x : List ℕ) → Within P (in_arms arms k x) → from_arm types R N arms v last i x ≡ from_arm types R N arms v last j x
  from_arm_same no_arm k v last i j t x h = refl
  from_arm_same (more_arms c b s arms) k v last i j t x h =
      ap₂ (λ d e. if is_cons types v c then d else e)
      (from_block_same b (k (Head ∷ Named x ∷ [])) last (part Head i) (part Head j) x (t (Head ∷ Named x ∷ [])) h.0)
      (from_arm_same arms (below Tail k) v last (part Tail i) (part Tail j) (λ p. t (Tail ∷ p)) x h.1)

  from_state_same : (ss : States) (m n : ℕ) (k : PlaceSources) (last : Names) (i j : Instant) → Agree P k i j → (x : List ℕ) → Within P (in_states ss k x) → from_state ss m n last i x ≡ from_state ss m n last j x
  from_state_same no_state m n k last i j t x h = refl
  from_state_same (more_states f b until unless s ss) m n k last i j t x h =
      ap₂ (λ d e. if nat_eq m n then d else e)
      (from_block_same b (k (Head ∷ Body ∷ Named x ∷ [])) last (part Body (part Head i)) (part Body (part Head j)) x (t (Head ∷ Body ∷ Named x ∷ [])) h.0)
      (from_state_same ss (suc m) n (below Tail k) last (part Tail i) (part Tail j) (λ p. t (Tail ∷ p)) x h.1)

  -- what an equation gives to a name
  gives_same : (ds : List Decl) (e : Eqn) (names : NameSources) (k : PlaceSources) (a b last : Names) (g : Given) (i j : Instant) → Closed P k (in_equation ds e names k) → SameNames P names a b → Agree P k i j → (x : List ℕ) → Within P (of_definition ds e names k x) → gives types R N ds e a last g i x ≡ gives types R N ds e b last g j x
  gives_same ds (define s ys e) names k a b last g i j C sn t x h =
      right_agrees P types R outputs S ys e (clock_of ds ys e) names (below Right k) a b last (at Right g) (part Right i) (part Right j) (λ p. C (Right ∷ p)) sn x h.0 h.1
  gives_same ds (switch s e arms) names k a b last g i j C sn t x h =
      ap (λ v. from_arm types R N arms v last (part ArmsOf i) x)
      (expr_top P types R outputs S e [] names (below Test k) a b last (at Test g) (part Test i) (part Test j) (λ p. C (Test ∷ p)) sn tt h.0)
      ∙ from_arm_same arms (below ArmsOf k) _ last (part ArmsOf i) (part ArmsOf j) (λ p. t (ArmsOf ∷ p)) x h.1
  gives_same ds (reset s c e) names k a b last g i j C sn t x h = t (Body ∷ Named x ∷ []) h.1
  gives_same ds (automaton s ss) names k a b last g i j C sn t x h =
      ap (λ (u : Jump). from_state ss 0 u.state last (part StatesOf i) x)
      (strong_same ss ss 0 (selected g.past) (k (Active ∷ [])) names (names_within (automaton s ss) names) (below StatesOf k) a b last (at StatesOf g) (part StatesOf i) (part StatesOf j) (λ p. C (StatesOf ∷ p)) sn (C (Active ∷ []) h.0))
      ∙ from_state_same ss 0 _ (below StatesOf k) last (part StatesOf i) (part StatesOf j) (λ p. t (StatesOf ∷ p)) x h.1

  defined_same : (ds : List Decl) (es : Eqns) (names : NameSources) (k : PlaceSources) (a b last : Names) (g : Given) (i j : Instant) → Closed P k (in_equations ds es names k) → SameNames P names a b → Agree P k i j → (x : List ℕ) → Within P (of_definitions ds es names k x) → defined types R N ds es a last g i x ≡ defined types R N ds es b last g j x
  defined_same ds no_eqn names k a b last g i j C s t x h = refl
  defined_same ds (more_eqns e es) names k a b last g i j C s t x h =
      choice P (defines e x) (of_definition ds e names (below Head k) x) (of_definitions ds es names (below Tail k) x) _ _ _ _
      (gives_same ds e names (below Head k) a b last (at Head g) (part Head i) (part Head j) (λ p. C (Head ∷ p)) s (λ p. t (Head ∷ p)) x)
      (defined_same ds es names (below Tail k) a b last (at Tail g) (part Tail i) (part Tail j) (λ p. C (Tail ∷ p)) s (λ p. t (Tail ∷ p)) x)
      h

  mutual
    pub block_agrees : (c : Block) (fresh : Bool) (names : NameSources) (k : PlaceSources) (a b last : Names) (g : Given) (i j : Instant) → Closed P k (in_block c names k) → SameNames P names a b → Agree P k i j → Agree P (in_block c names k) (scope types R N c fresh a last g i) (scope types R N c fresh b last g j)
    block_agrees (block ds es) fresh names k a b last g i j C s t =
        let s' = inside_same P es names k a b i j s t in
        let names' = names_in es names k in
        let last' = lasts (λ c. R.constant (constant_of types c)) ds g.past last in
        block_at P (of_definitions ds es names' (below Equations k)) (in_equations ds es names' (below Equations k)) _ _ (B fresh) _ _
        (λ x h. ap (λ v. if some_defines es x then v else Absent)
        (defined_same ds es names' (below Equations k) _ _ last' (at Equations g) (part Equations i) (part Equations j) (λ p. C (Equations ∷ p)) s' (λ p. t (Equations ∷ p)) x h))
        (equations_agree ds es names' (below Equations k) _ _ last' (at Equations g) (part Equations i) (part Equations j) (λ p. C (Equations ∷ p)) s' (λ p. t (Equations ∷ p)))

    equations_agree : (ds : List Decl) (es : Eqns) (names : NameSources) (k : PlaceSources) (a b last : Names) (g : Given) (i j : Instant) → Closed P k (in_equations ds es names k) → SameNames P names a b → Agree P k i j → Agree P (in_equations ds es names k) (equations types R N ds es a last g i) (equations types R N ds es b last g j)
    equations_agree ds no_eqn names k a b last g i j C s t = λ p h. refl
    equations_agree ds (more_eqns e es) names k a b last g i j C s t =
        of_two_at P (in_equation ds e names (below Head k)) (in_equations ds es names (below Tail k)) _ _ _ _
        (equation_agrees ds e names (below Head k) a b last (at Head g) (part Head i) (part Head j) (λ p. C (Head ∷ p)) s (λ p. t (Head ∷ p)))
        (equations_agree ds es names (below Tail k) a b last (at Tail g) (part Tail i) (part Tail j) (λ p. C (Tail ∷ p)) s (λ p. t (Tail ∷ p)))

    equation_agrees : (ds : List Decl) (e : Eqn) (names : NameSources) (k : PlaceSources) (a b last : Names) (g : Given) (i j : Instant) → Closed P k (in_equation ds e names k) → SameNames P names a b → Agree P k i j → Agree P (in_equation ds e names k) (equation types R N ds e a last g i) (equation types R N ds e b last g j)
    equation_agrees ds (define s ys e) names k a b last g i j C sn t =
        right_at P (at_expr e (clock_of ds ys e) names (below Right k)) _ _
        (expr_agrees P types R outputs S e (clock_of ds ys e) names (below Right k) a b last (at Right g) (part Right i) (part Right j) (λ p. C (Right ∷ p)) sn)
    equation_agrees ds (switch s e arms) names k a b last g i j C sn t =
        let names' = names_within (switch s e arms) names in
        arms_at P (at_expr e [] names (below Test k)) (in_each_arm arms names' (below ArmsOf k)) (of_expr e names (below Test k)) _ _ _ _
        (expr_agrees P types R outputs S e [] names (below Test k) a b last (at Test g) (part Test i) (part Test j) (λ p. C (Test ∷ p)) sn)
        (λ c p h.
        ap (λ v. arm types R N arms v (within (switch s e arms) a last) last (at ArmsOf g) (part ArmsOf i) p) (expr_top P types R outputs S e [] names (below Test k) a b last (at Test g) (part Test i) (part Test j) (λ p. C (Test ∷ p)) sn tt c)
        ∙ arms_agree arms _ names' (below ArmsOf k) _ _ last (at ArmsOf g) (part ArmsOf i) (part ArmsOf j) (λ q h. (C (ArmsOf ∷ q) h).1) (within_same P (switch s e arms) names a b last sn) (λ q. t (ArmsOf ∷ q)) p h)
    equation_agrees ds (reset s c e) names k a b last g i j C sn t =
        let names' = names_within (reset s c e) names in
        body_at P (at_expr e [] names (below Test k)) (in_block c names' (below Body k)) (of_expr e names (below Test k)) _ _ _ _
        (expr_agrees P types R outputs S e [] names (below Test k) a b last (at Test g) (part Test i) (part Test j) (λ p. C (Test ∷ p)) sn)
        (λ d p h.
        ap (λ v. scope types R N c (is_true v) (within (reset s c e) a last) last (since (is_true v) (at Body g)) (part Body i) p) (expr_top P types R outputs S e [] names (below Test k) a b last (at Test g) (part Test i) (part Test j) (λ p. C (Test ∷ p)) sn tt d)
        ∙ block_agrees c _ names' (below Body k) _ _ last _ (part Body i) (part Body j) (λ q h. (C (Body ∷ q) h).1) (within_same P (reset s c e) names a b last sn) (λ q. t (Body ∷ q)) p h)
    equation_agrees ds (automaton s ss) names k a b last g i j C sn t =
        let a' = within (automaton s ss) a last in
        let b' = within (automaton s ss) b last in
        let active = k (Active ∷ []) in
        let names' = names_within (automaton s ss) names in
        let sn' = within_same P (automaton s ss) names a b last sn in
        let C' : Closed P (below StatesOf k) (in_each_state ss active names names' (below StatesOf k)) = λ p. C (StatesOf ∷ p) in
        let ui = strong types R N ss ss 0 (selected g.past) a last (at StatesOf g) (part StatesOf i) in
        let uj = strong types R N ss ss 0 (selected g.past) b last (at StatesOf g) (part StatesOf j) in
        let e : Within P (strong_ones ss (below StatesOf k)) → ui ≡ uj =
        λ h. strong_same ss ss 0 (selected g.past) active names names' (below StatesOf k) a b last (at StatesOf g) (part StatesOf i) (part StatesOf j) C' sn h in
        let ea : Within P active → ui ≡ uj = λ h. e (C (Active ∷ []) h) in
        let w : Within P (both (also active) (weak_ones ss (below StatesOf k))) → weak types R N ss ss 0 ui a' last (at StatesOf g) (part StatesOf i) ≡ weak types R N ss ss 0 uj b' last (at StatesOf g) (part StatesOf j) =
        λ h. ap (λ u. weak types R N ss ss 0 u a' last (at StatesOf g) (part StatesOf i)) (ea h.0) ∙ weak_same ss ss 0 uj active names names' (below StatesOf k) a' b' last (at StatesOf g) (part StatesOf i) (part StatesOf j) C' sn' (λ q. t (StatesOf ∷ q)) h.1 in
        words_at P (strong_ones ss (below StatesOf k)) (both (also active) (weak_ones ss (below StatesOf k))) (in_each_state ss active names names' (below StatesOf k)) _ _ _ _ _ _ _ _
        (λ h. ap (λ (u : Jump). state_word u.state) (e h))
        (λ h. ap (λ (u : Jump). state_word u.state) (w h))
        (λ h. ap (λ (u : Jump). B u.restart) (w h))
        (states_agree ss 0 ui uj active names names' (below StatesOf k) a b a' b' last (at StatesOf g) (part StatesOf i) (part StatesOf j) C' ea sn sn' (λ q. t (StatesOf ∷ q)))

    arms_agree : (arms : Arms) (v : Value) (names : NameSources) (k : PlaceSources) (a b last : Names) (g : Given) (i j : Instant) → Closed P k (in_each_arm arms names k) → SameNames P names a b → Agree P k i j → Agree P (in_each_arm arms names k) (arm types R N arms v a last g i) (arm types R N arms v b last g j)
    arms_agree no_arm v names k a b last g i j C s t = λ p h. refl
    arms_agree (more_arms c d p arms) v names k a b last g i j C s t =
        of_two_at P (in_block d names (below Head k)) (in_each_arm arms names (below Tail k)) _ _ _ _
        (λ p h. if_at (is_cons types v c) _ _ nothing p (block_agrees d false names (below Head k) a b last (since false (at Head g)) (part Head i) (part Head j) (λ q. C (Head ∷ q)) s (λ q. t (Head ∷ q)) p h))
        (arms_agree arms v names (below Tail k) a b last (at Tail g) (part Tail i) (part Tail j) (λ q. C (Tail ∷ q)) s (λ q. t (Tail ∷ q)))

    states_agree : (ss : States) (m : ℕ) (u u' : Jump) (active : Sources) (out names : NameSources) (k : PlaceSources) (oa ob a b last : Names) (g : Given) (i j : Instant) → Closed P k (in_each_state ss active out names k) → (Within P active → u ≡ u') → SameNames P out oa ob → SameNames P names a b → Agree P k i j → Agree P (in_each_state ss active out names k) (states types R N ss m u oa a last g i) (states types R N ss m u' ob b last g j)
    states_agree no_state m u u' active out names k oa ob a b last g i j C e so s t = λ p h. refl
    states_agree (more_states f c until unless p ss) m u u' active out names k oa ob a b last g i j C e so s t =
        let kb = below Body (below Head k) in
        let names' = names_in_block c names kb in
        let q = names_of_same c names kb a b (part Body (part Head i)) (part Body (part Head j)) s (λ p. t (Head ∷ Body ∷ p)) in
        of_two_at P (at_each active c until unless out names k) (in_each_state ss active out names (below Tail k)) _ _ _ _
        (state_at P active (in_block c names kb) (at_conditions until names' (below Until (below Head k))) (at_conditions unless out (below Unless (below Head k))) _ _ _ _ _ _
        (λ x p h.
        ap (λ (w : Jump). (if nat_eq m w.state then scope types R N c w.restart a last (since w.restart (at Body (at Head g))) (part Body (part Head i)) else nothing) p) (e x)
        ∙ if_at (nat_eq m u'.state) _ _ nothing p (block_agrees c u'.restart names kb a b last (since u'.restart (at Body (at Head g))) (part Body (part Head i)) (part Body (part Head j)) (λ q h. (C (Head ∷ Body ∷ q) h).1) s (λ q. t (Head ∷ Body ∷ q)) p h))
        (λ x p h.
        ap (λ (w : Jump). (if nat_eq m w.state then in_row (weak_in types R N c until w a last (at Head g) (part Head i)) else nothing) p) (e x)
        ∙ if_at (nat_eq m u'.state) _ _ nothing p (conditions_agree P types R outputs S until names' (below Until (below Head k)) _ _ _ (at Until (at Head g)) (part Until (part Head i)) (part Until (part Head j)) (λ q h. (C (Head ∷ Until ∷ q) h).1) q p h))
        (conditions_agree P types R outputs S unless out (below Unless (below Head k)) oa ob last (at Unless (at Head g)) (part Unless (part Head i)) (part Unless (part Head j)) (λ q. C (Head ∷ Unless ∷ q)) so))
        (states_agree ss (suc m) u u' active out names (below Tail k) oa ob a b last (at Tail g) (part Tail i) (part Tail j) (λ q. C (Tail ∷ q)) e so s (λ p. t (Tail ∷ p)))
