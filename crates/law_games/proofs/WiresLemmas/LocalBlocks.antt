-- The wires of a block at a place depend on what the place reads, where an instance is given as a whole.
use Rattle.std.proofs.Common.{◌≡◌, ℕ, suc, List, [], ◌∷◌, refl, ap, ap₂, ◌∙◌}
use Rattle.std.specs.Prelude.{Bool, false, if◌then◌else◌, nat_eq}
use Rattle.hp_base.specs.declared.value.Value.{Value}
use Rattle.hp_base.specs.declared.value.Value.TheVariants.{Absent, B}
use Rattle.hp_tree.specs.Blocks.{Decl, Block, block, Eqns, no_eqn, more_eqns, Eqn, define, switch, reset, automaton, Arms, no_arm, more_arms, States, no_state, more_states}
use Rattle.hp_tree.specs.Programs.{TypeDecl}
use Rattle.hp_tree.specs.Operators.{is_cons, is_true}
use Rattle.hp_tree.specs.Instant.{Body, Named, Equations, Head, Tail, Right, Test, Arms as ArmsOf, States as StatesOf, Until, Unless, Active, Place, Instant, part, in_row}
use Rattle.hp_tree.specs.Meaning.{Names, defines, some_defines, block_defines, within, clock_of, from_block, Jump, state_word, first_true}
use Rattle.hp_meaning.specs.Causal.Sources.{Sources, none, both, also, Within, NameSources, PlaceSources, below}
use Rattle.hp_meaning.specs.Causal.WhatIsRead.{of_expr, at_expr, at_conditions, names_in, names_within, names_in_block, in_arms, in_states, strong_ones, weak_ones, of_definition, of_definitions, in_block, in_equations, in_equation, in_each_arm, in_each_state}
use Rattle.law_games.specs.Wires.Wired.{Held, held_at, Callees, blank, lasts_in}
use Rattle.law_games.specs.Wires.WiredBlocks.{selected_in, read_of, state_value, arm_value, anew, strong_in, weak_wires, weak_of, wired_gives, wired_defined, wired_block, wired_equations, wired_equation, wired_arms, wired_states}
use Rattle.law_games.proofs.WiresLemmas.Agreeing.{Agree, SameNames, Closed, choice, inside_same, within_same, of_two_at, block_at, right_at, arms_at, body_at, state_at, words_at}
use Rattle.law_games.proofs.WiresLemmas.Local.{AsWhole, at_each, expr_top, expr_agrees, right_agrees, conditions_tops, conditions_agree}

module _ (P : Place → Type 0) (types : List TypeDecl) (C : Callees) (W : AsWhole C) where
  pub names_of_same : (c : Block) (names : NameSources) (k : PlaceSources) (a b : Names) (i j : Instant) → SameNames P names a b → Agree P k i j → SameNames P (names_in_block c names k) (read_of c a i) (read_of c b j)
  names_of_same (block ds es) names k a b i j s t = inside_same P es names k a b i j s t

  strong_same : (all ss : States) (n : ℕ) (u : Jump) (active : Sources) (out names : NameSources) (k : PlaceSources) (a b last : Names) (m : Held) (i j : Instant) → Closed P k (in_each_state ss active out names k) → SameNames P out a b → Within P (strong_ones ss k) → strong_in types C all ss n u a last m i ≡ strong_in types C all ss n u b last m j
  strong_same all no_state n u active out names k a b last m i j cl s h = refl
  strong_same all (more_states f c until unless p ss) n u active out names k a b last m i j cl s h =
      ap₂ (λ v w. if nat_eq n u.state then first_true all unless v u else w)
      (conditions_tops P types C W unless out (below Unless (below Head k)) a b last (held_at Unless (held_at Head m)) (part Unless (part Head i)) (part Unless (part Head j)) (λ p. cl (Head ∷ Unless ∷ p)) s h.0)
      (strong_same all ss (suc n) u active out names (below Tail k) a b last (held_at Tail m) (part Tail i) (part Tail j) (λ p. cl (Tail ∷ p)) s h.1)

  weak_same : (all ss : States) (n : ℕ) (u : Jump) (active : Sources) (out names : NameSources) (k : PlaceSources) (a b last : Names) (m : Held) (i j : Instant) → Closed P k (in_each_state ss active out names k) → SameNames P names a b → Agree P k i j → Within P (weak_ones ss k) → weak_of types C all ss n u a last m i ≡ weak_of types C all ss n u b last m j
  weak_same all no_state n u active out names k a b last m i j cl s t h = refl
  weak_same all (more_states f c until unless p ss) n u active out names k a b last m i j cl s t h =
      ap₂ (λ v w. if nat_eq n u.state then first_true all until v (record { state = u.state; restart = false }) else w)
      (conditions_tops P types C W until (names_in_block c names (below Body (below Head k))) (below Until (below Head k)) _ _ _ (held_at Until (held_at Head m)) (part Until (part Head i)) (part Until (part Head j))
      (λ p h. (cl (Head ∷ Until ∷ p) h).1)
      (names_of_same c names (below Body (below Head k)) a b (part Body (part Head i)) (part Body (part Head j)) s (λ p. t (Head ∷ Body ∷ p))) h.0)
      (weak_same all ss (suc n) u active out names (below Tail k) a b last (held_at Tail m) (part Tail i) (part Tail j) (λ p. cl (Tail ∷ p)) s (λ p. t (Tail ∷ p)) h.1)

  from_block_same : (c : Block) (s : Sources) (last : Names) (i j : Instant) (x : List ℕ) → (Within P s → i (Named x ∷ []) ≡ j (Named x ∷ [])) → Within P (if block_defines c x then s else none) → from_block c last i x ≡ from_block c last j x
  from_block_same c s last i j x e h = choice P (block_defines c x) s none _ _ _ _ e (λ u. refl) h

  arm_same : (d d' : Value) (arms : Arms) (k : PlaceSources) (v : Value) (last : Names) (i j : Instant) → d ≡ d' → Agree P k i j → (x : List ℕ) → Within P (in_arms arms k x) → arm_value types C d arms v last i x ≡ arm_value types C d' arms v last j x
  arm_same d d' no_arm k v last i j q t x h = q
  arm_same d d' (more_arms c b s arms) k v last i j q t x h =
      let f = from_block_same b (k (Head ∷ Named x ∷ [])) last (part Head i) (part Head j) x (t (Head ∷ Named x ∷ [])) h.0 in
      ap₂ (λ d e. if is_cons types v c then d else e) f
      (arm_same (blank (from_block b last (part Head i) x)) (blank (from_block b last (part Head j) x)) arms (below Tail k) v last (part Tail i) (part Tail j) (ap blank f) (λ p. t (Tail ∷ p)) x h.1)

  state_same : (d d' : Value) (ss : States) (m n : ℕ) (k : PlaceSources) (last : Names) (i j : Instant) → d ≡ d' → Agree P k i j → (x : List ℕ) → Within P (in_states ss k x) → state_value d ss m n last i x ≡ state_value d' ss m n last j x
  state_same d d' no_state m n k last i j q t x h = q
  state_same d d' (more_states f b until unless s ss) m n k last i j q t x h =
      let g = from_block_same b (k (Head ∷ Body ∷ Named x ∷ [])) last (part Body (part Head i)) (part Body (part Head j)) x (t (Head ∷ Body ∷ Named x ∷ [])) h.0 in
      ap₂ (λ d e. if nat_eq m n then d else e) g
      (state_same (blank (from_block b last (part Body (part Head i)) x)) (blank (from_block b last (part Body (part Head j)) x)) ss (suc m) n (below Tail k) last (part Tail i) (part Tail j) (ap blank g) (λ p. t (Tail ∷ p)) x h.1)

  gives_same : (ds : List Decl) (e : Eqn) (names : NameSources) (k : PlaceSources) (a b last : Names) (m : Held) (i j : Instant) → Closed P k (in_equation ds e names k) → SameNames P names a b → Agree P k i j → (x : List ℕ) → Within P (of_definition ds e names k x) → wired_gives types C e a last m i x ≡ wired_gives types C e b last m j x
  gives_same ds (define s ys e) names k a b last m i j cl sn t x h =
      right_agrees P types C W ys e (clock_of ds ys e) names (below Right k) a b last (held_at Right m) (part Right i) (part Right j) (λ p. cl (Right ∷ p)) sn x h.1
  gives_same ds (switch s e arms) names k a b last m i j cl sn t x h =
      ap (λ v. arm_value types C Absent arms v last (part ArmsOf i) x) (expr_top P types C W e [] names (below Test k) a b last (held_at Test m) (part Test i) (part Test j) (λ p. cl (Test ∷ p)) sn h.0)
      ∙ arm_same Absent Absent arms (below ArmsOf k) _ last (part ArmsOf i) (part ArmsOf j) refl (λ p. t (ArmsOf ∷ p)) x h.1
  gives_same ds (reset s c e) names k a b last m i j cl sn t x h = t (Body ∷ Named x ∷ []) h.1
  gives_same ds (automaton s ss) names k a b last m i j cl sn t x h =
      ap (λ (u : Jump). state_value Absent ss 0 u.state last (part StatesOf i) x)
      (strong_same ss ss 0 (selected_in m.memory) (k (Active ∷ [])) names (names_within (automaton s ss) names) (below StatesOf k) a b last (held_at StatesOf m) (part StatesOf i) (part StatesOf j) (λ p. cl (StatesOf ∷ p)) sn (cl (Active ∷ []) h.0))
      ∙ state_same Absent Absent ss 0 _ (below StatesOf k) last (part StatesOf i) (part StatesOf j) refl (λ p. t (StatesOf ∷ p)) x h.1

  defined_same : (ds : List Decl) (es : Eqns) (names : NameSources) (k : PlaceSources) (a b last : Names) (m : Held) (i j : Instant) → Closed P k (in_equations ds es names k) → SameNames P names a b → Agree P k i j → (x : List ℕ) → Within P (of_definitions ds es names k x) → wired_defined types C es a last m i x ≡ wired_defined types C es b last m j x
  defined_same ds no_eqn names k a b last m i j cl s t x h = refl
  defined_same ds (more_eqns e es) names k a b last m i j cl s t x h =
      choice P (defines e x) (of_definition ds e names (below Head k) x) (of_definitions ds es names (below Tail k) x) _ _ _ _
      (gives_same ds e names (below Head k) a b last (held_at Head m) (part Head i) (part Head j) (λ p. cl (Head ∷ p)) s (λ p. t (Head ∷ p)) x)
      (defined_same ds es names (below Tail k) a b last (held_at Tail m) (part Tail i) (part Tail j) (λ p. cl (Tail ∷ p)) s (λ p. t (Tail ∷ p)) x)
      h

  mutual
    pub block_agrees : (c : Block) (fresh : Bool) (names : NameSources) (k : PlaceSources) (a b last : Names) (m : Held) (i j : Instant) → Closed P k (in_block c names k) → SameNames P names a b → Agree P k i j → Agree P (in_block c names k) (wired_block types C c fresh a last m i) (wired_block types C c fresh b last m j)
    block_agrees (block ds es) fresh names k a b last m i j cl s t =
        let s' = inside_same P es names k a b i j s t in
        let names' = names_in es names k in
        let last' = lasts_in ds m.memory last in
        block_at P (of_definitions ds es names' (below Equations k)) (in_equations ds es names' (below Equations k)) _ _ (B fresh) _ _
        (λ x h. ap (λ v. if some_defines es x then v else Absent)
        (defined_same ds es names' (below Equations k) _ _ last' (held_at Equations m) (part Equations i) (part Equations j) (λ p. cl (Equations ∷ p)) s' (λ p. t (Equations ∷ p)) x h))
        (equations_agree ds es names' (below Equations k) _ _ last' (held_at Equations m) (part Equations i) (part Equations j) (λ p. cl (Equations ∷ p)) s' (λ p. t (Equations ∷ p)))

    equations_agree : (ds : List Decl) (es : Eqns) (names : NameSources) (k : PlaceSources) (a b last : Names) (m : Held) (i j : Instant) → Closed P k (in_equations ds es names k) → SameNames P names a b → Agree P k i j → Agree P (in_equations ds es names k) (wired_equations types C es a last m i) (wired_equations types C es b last m j)
    equations_agree ds no_eqn names k a b last m i j cl s t = λ p h. refl
    equations_agree ds (more_eqns e es) names k a b last m i j cl s t =
        of_two_at P (in_equation ds e names (below Head k)) (in_equations ds es names (below Tail k)) _ _ _ _
        (equation_agrees ds e names (below Head k) a b last (held_at Head m) (part Head i) (part Head j) (λ p. cl (Head ∷ p)) s (λ p. t (Head ∷ p)))
        (equations_agree ds es names (below Tail k) a b last (held_at Tail m) (part Tail i) (part Tail j) (λ p. cl (Tail ∷ p)) s (λ p. t (Tail ∷ p)))

    equation_agrees : (ds : List Decl) (e : Eqn) (names : NameSources) (k : PlaceSources) (a b last : Names) (m : Held) (i j : Instant) → Closed P k (in_equation ds e names k) → SameNames P names a b → Agree P k i j → Agree P (in_equation ds e names k) (wired_equation types C e a last m i) (wired_equation types C e b last m j)
    equation_agrees ds (define s ys e) names k a b last m i j cl sn t =
        right_at P (at_expr e (clock_of ds ys e) names (below Right k)) _ _
        (expr_agrees P types C W e (clock_of ds ys e) names (below Right k) a b last (held_at Right m) (part Right i) (part Right j) (λ p. cl (Right ∷ p)) sn)
    equation_agrees ds (switch s e arms) names k a b last m i j cl sn t =
        let names' = names_within (switch s e arms) names in
        arms_at P (at_expr e [] names (below Test k)) (in_each_arm arms names' (below ArmsOf k)) (of_expr e names (below Test k)) _ _ _ _
        (expr_agrees P types C W e [] names (below Test k) a b last (held_at Test m) (part Test i) (part Test j) (λ p. cl (Test ∷ p)) sn)
        (λ c p h. arms_agree arms names' (below ArmsOf k) _ _ last (held_at ArmsOf m) (part ArmsOf i) (part ArmsOf j) (λ q h. (cl (ArmsOf ∷ q) h).1) (within_same P (switch s e arms) names a b last sn) (λ q. t (ArmsOf ∷ q)) p h)
    equation_agrees ds (reset s c e) names k a b last m i j cl sn t =
        let names' = names_within (reset s c e) names in
        body_at P (at_expr e [] names (below Test k)) (in_block c names' (below Body k)) (of_expr e names (below Test k)) _ _ _ _
        (expr_agrees P types C W e [] names (below Test k) a b last (held_at Test m) (part Test i) (part Test j) (λ p. cl (Test ∷ p)) sn)
        (λ d p h.
        ap (λ v. wired_block types C c (is_true v) (within (reset s c e) a last) last (anew types C c (is_true v) (held_at Body m)) (part Body i) p) (expr_top P types C W e [] names (below Test k) a b last (held_at Test m) (part Test i) (part Test j) (λ p. cl (Test ∷ p)) sn d)
        ∙ block_agrees c _ names' (below Body k) _ _ last _ (part Body i) (part Body j) (λ q h. (cl (Body ∷ q) h).1) (within_same P (reset s c e) names a b last sn) (λ q. t (Body ∷ q)) p h)
    equation_agrees ds (automaton s ss) names k a b last m i j cl sn t =
        let a' = within (automaton s ss) a last in
        let b' = within (automaton s ss) b last in
        let active = k (Active ∷ []) in
        let names' = names_within (automaton s ss) names in
        let sn' = within_same P (automaton s ss) names a b last sn in
        let cl' : Closed P (below StatesOf k) (in_each_state ss active names names' (below StatesOf k)) = λ p. cl (StatesOf ∷ p) in
        let ui = strong_in types C ss ss 0 (selected_in m.memory) a last (held_at StatesOf m) (part StatesOf i) in
        let uj = strong_in types C ss ss 0 (selected_in m.memory) b last (held_at StatesOf m) (part StatesOf j) in
        let e : Within P (strong_ones ss (below StatesOf k)) → ui ≡ uj =
        λ h. strong_same ss ss 0 (selected_in m.memory) active names names' (below StatesOf k) a b last (held_at StatesOf m) (part StatesOf i) (part StatesOf j) cl' sn h in
        let ea : Within P active → ui ≡ uj = λ h. e (cl (Active ∷ []) h) in
        let w : Within P (both (also active) (weak_ones ss (below StatesOf k))) → weak_of types C ss ss 0 ui a' last (held_at StatesOf m) (part StatesOf i) ≡ weak_of types C ss ss 0 uj b' last (held_at StatesOf m) (part StatesOf j) =
        λ h. ap (λ u. weak_of types C ss ss 0 u a' last (held_at StatesOf m) (part StatesOf i)) (ea h.0) ∙ weak_same ss ss 0 uj active names names' (below StatesOf k) a' b' last (held_at StatesOf m) (part StatesOf i) (part StatesOf j) cl' sn' (λ q. t (StatesOf ∷ q)) h.1 in
        words_at P (strong_ones ss (below StatesOf k)) (both (also active) (weak_ones ss (below StatesOf k))) (in_each_state ss active names names' (below StatesOf k)) _ _ _ _ _ _ _ _
        (λ h. ap (λ (u : Jump). state_word u.state) (e h))
        (λ h. ap (λ (u : Jump). state_word u.state) (w h))
        (λ h. ap (λ (u : Jump). B u.restart) (w h))
        (states_agree ss ui uj active names names' (below StatesOf k) a b a' b' last (held_at StatesOf m) (part StatesOf i) (part StatesOf j) cl' ea sn sn' (λ q. t (StatesOf ∷ q)))

    arms_agree : (arms : Arms) (names : NameSources) (k : PlaceSources) (a b last : Names) (m : Held) (i j : Instant) → Closed P k (in_each_arm arms names k) → SameNames P names a b → Agree P k i j → Agree P (in_each_arm arms names k) (wired_arms types C arms a last m i) (wired_arms types C arms b last m j)
    arms_agree no_arm names k a b last m i j cl s t = λ p h. refl
    arms_agree (more_arms c d p arms) names k a b last m i j cl s t =
        of_two_at P (in_block d names (below Head k)) (in_each_arm arms names (below Tail k)) _ _ _ _
        (block_agrees d false names (below Head k) a b last (held_at Head m) (part Head i) (part Head j) (λ q. cl (Head ∷ q)) s (λ q. t (Head ∷ q)))
        (arms_agree arms names (below Tail k) a b last (held_at Tail m) (part Tail i) (part Tail j) (λ q. cl (Tail ∷ q)) s (λ q. t (Tail ∷ q)))

    states_agree : (ss : States) (u u' : Jump) (active : Sources) (out names : NameSources) (k : PlaceSources) (oa ob a b last : Names) (m : Held) (i j : Instant) → Closed P k (in_each_state ss active out names k) → (Within P active → u ≡ u') → SameNames P out oa ob → SameNames P names a b → Agree P k i j → Agree P (in_each_state ss active out names k) (wired_states types C ss u oa a last m i) (wired_states types C ss u' ob b last m j)
    states_agree no_state u u' active out names k oa ob a b last m i j cl e so s t = λ p h. refl
    states_agree (more_states f c until unless p ss) u u' active out names k oa ob a b last m i j cl e so s t =
        let kb = below Body (below Head k) in
        let names' = names_in_block c names kb in
        let q = names_of_same c names kb a b (part Body (part Head i)) (part Body (part Head j)) s (λ p. t (Head ∷ Body ∷ p)) in
        of_two_at P (at_each active c until unless out names k) (in_each_state ss active out names (below Tail k)) _ _ _ _
        (state_at P active (in_block c names kb) (at_conditions until names' (below Until (below Head k))) (at_conditions unless out (below Unless (below Head k))) _ _ _ _ _ _
        (λ x p h.
        ap (λ (w : Jump). wired_block types C c w.restart a last (anew types C c w.restart (held_at Body (held_at Head m))) (part Body (part Head i)) p) (e x)
        ∙ block_agrees c u'.restart names kb a b last (anew types C c u'.restart (held_at Body (held_at Head m))) (part Body (part Head i)) (part Body (part Head j)) (λ q h. (cl (Head ∷ Body ∷ q) h).1) s (λ q. t (Head ∷ Body ∷ q)) p h)
        (λ x p h.
        ap (λ (w : Jump). in_row (weak_wires types C c until w a last (held_at Head m) (part Head i)) p) (e x)
        ∙ conditions_agree P types C W until names' (below Until (below Head k)) _ _ _ (held_at Until (held_at Head m)) (part Until (part Head i)) (part Until (part Head j)) (λ q h. (cl (Head ∷ Until ∷ q) h).1) q p h)
        (conditions_agree P types C W unless out (below Unless (below Head k)) oa ob last (held_at Unless (held_at Head m)) (part Unless (part Head i)) (part Unless (part Head j)) (λ q. cl (Head ∷ Unless ∷ q)) so))
        (states_agree ss u u' active out names (below Tail k) oa ob a b last (held_at Tail m) (part Tail i) (part Tail j) (λ q. cl (Tail ∷ q)) e so s (λ p. t (Tail ∷ p)))
