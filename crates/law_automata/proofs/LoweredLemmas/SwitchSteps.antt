-- The `switch` that stands for a state: its true arm where the state is active, and its false one where it is not.
use Rattle.std.proofs.Common.{◌≡◌, ℕ, ◌+◌, Bool, true, false, ◌&&◌, ◌||◌, List, [], ◌∷◌, map, inl, inr, refl, sym, ap, ap₂, subst, ◌∙◌}
use Rattle.std.specs.Prelude.{◌⊎◌, ⊤, pos, if◌then◌else◌}
use Rattle.std.specs.Str.{bytes_eq}
use Rattle.hp_base.specs.declared.value.Value.{Value}
use Rattle.hp_base.specs.declared.value.Value.TheVariants.{Absent, B, I}
use Rattle.hp_tree.specs.declared.block.Trans.{Trans}
use Rattle.hp_tree.specs.declared.decl.Cons.TheVariants.{False, True}
use Rattle.hp_tree.specs.declared.expr.Op2.TheVariants.{Eq}
use Rattle.hp_tree.specs.Expressions.{Expr, two, constant}
use Rattle.hp_tree.specs.Blocks.{Decl, Block, block, Eqn, no_eqn, more_eqns, no_arm, more_arms, eqns_of}
use Rattle.hp_tree.specs.Programs.{TypeDecl}
use Rattle.hp_tree.specs.Operators.{is_there, is_true, two_of}
use Rattle.hp_tree.specs.Instant.{Body, Named, Fresh, Equations, Head, Tail, Test, Arms as ArmsOf, Instant, Given, at, part, top, since, alone, nothing, of_two, with_body, with_arms}
use Rattle.hp_tree.specs.Meaning.{Names, Nodes, Jump, expr, scope, arm, within, from_block, from_arm, defines, some_defines, block_defines}
use Rattle.hp_automata.specs.declared.new_names.Word.TheVariants.{Jump as JumpWord, Next, On}
use Rattle.hp_automata.specs.NewNames.{word_name, state_word, value_name}
use Rattle.hp_automata.specs.Names.{is_name}
use Rattle.hp_automata.specs.Lowering.{Types, Enumerations, Frame, code, number, jump_of, afresh, state_switch, idle, idle_next, idle_value, handed, value_handed, lowered_body, some_constant, type_of}
use Rattle.law_automata.specs.Lowered.Standing.{Relation, InArm, BodyStands, RowStands, WeakStand, arm_in, code_of}
use Rattle.law_automata.specs.Lowered.Deciding.{Property}
use Rattle.law_automata.proofs.LoweredLemmas.Apart.{same_bytes}
use Rattle.law_automata.proofs.LoweredLemmas.Tests.{or_left, or_right, or_cases, name_first, true_false}
use Rattle.law_automata.proofs.LoweredLemmas.Apart.{bytes_same}
use Rattle.law_automata.proofs.LoweredLemmas.Lookups.{hands, idle_hands, switch_sound, mapped}
use Rattle.law_automata.proofs.LoweredLemmas.Expressions.{reading}
use Rattle.law_automata.proofs.LoweredLemmas.Plain.{pure, plain_top, plain_any}
use Rattle.law_automata.proofs.LoweredLemmas.Rows.{EqnMet, RowMet, EachMet, Anyhow, plain_met, row_more, row_none, each_row}
use Rattle.law_automata.proofs.LoweredLemmas.BlockMaking.{block_made}
use Rattle.law_automata.proofs.LoweredLemmas.Jumps.{anew}
use Rattle.law_automata.proofs.LoweredLemmas.Chains.{plain_link}
use Rattle.law_automata.proofs.LoweredLemmas.BodySteps.{BodyMet}

if_false : {A : Type 0} (t : Bool) (p q : A) → t ≡ false → (if t then p else q) ≡ q
if_false true p q e = absurd cc
if_false false p q e = refl

if_true : {A : Type 0} (t : Bool) (p q : A) → t ≡ true → (if t then p else q) ≡ p
if_true true p q e = refl
if_true false p q e = absurd cc

-- what is handed on is the next word, or the value of a name
handed_by : (f : Frame) (k : ℕ) (P : List ℕ → Type 0) → P (state_word Next f.depth k) → ((x : List ℕ) → is_name f.names x ≡ true → P (value_name f.depth k x)) → (y : List ℕ) → hands f k y ≡ true → P y
handed_by f k P p q y h = by (or_cases (bytes_eq (state_word Next f.depth k) y) (is_name (map (value_name f.depth k) f.names) y) h)
  where
    by : (bytes_eq (state_word Next f.depth k) y ≡ true) ⊎ (is_name (map (value_name f.depth k) f.names) y ≡ true) → P y
    by (inl e) = subst P (same_bytes (state_word Next f.depth k) y e) p
    by (inr e) = let m = mapped (value_name f.depth k) f.names y e in subst P (sym m.2) (q m.0 m.1)

module _ (types : List TypeDecl) (u : Value → Value) (N' : Nodes) (stands : List ℕ → Relation) (enums : Enumerations) (tys : Types) (to : List ℕ → List ℕ) (f : Frame) (ds : List Decl) (names last : Names) (k : ℕ) (b : Block) (until : List Trans)
    (body_defines : (y : List ℕ) → block_defines (lowered_body enums to tys f k b until) y ≡ hands f k y) (g : Given) (body_now until_now : Instant) where
  abbrev body : Block
  body = lowered_body enums to tys f k b until

  abbrev other : Block
  other = idle enums tys f k

  abbrev pub switched : Eqn
  switched = state_switch f k body other

  abbrev pub InState : Property
  InState sw = InArm (BodyStands stands (f.depth + 1) until b) body_now (arm_in sw) × WeakStand stands until body_now until_now (arm_in sw)

  abbrev outer_names : Names
  outer_names = within switched names last

  abbrev pub arm_given : Given
  arm_given = since false (at Head (at ArmsOf g))

  abbrev pub body_given : Given
  body_given = at Body (at Head (at Equations arm_given))

  abbrev restart_test : Expr
  restart_test = two f.at Eq (jump_of f) (number f.at (code k true))

  -- what the `switch` defines is handed on
  switch_hands : (y : List ℕ) → defines switched y ≡ true → hands f k y ≡ true
  switch_hands y h = switch_sound enums tys f k body (λ z p. sym (body_defines z) ∙ p) y h

  not_hands : (y : List ℕ) → hands f k y ≡ false → names y ≡ outer_names y
  not_hands y h = sym (if_false (defines switched y) (last y) (names y) (by (defines switched y) refl))
    where
      by : (t : Bool) → defines switched y ≡ t → t ≡ false
      by true e = absurd (true_false (hands f k y) (switch_hands y e) h)
      by false e = refl

  no_more : (t : Bool) → (t || false) ≡ t
  no_more true = refl
  no_more false = refl

  -- ---- where the state is active
  module _ (on : names (state_word On f.depth k) ≡ B true) (j : Jump) (here : k ≡ j.state) (jump : names (word_name JumpWord f.depth) ≡ I (pos (code_of j))) (w : Jump) (last_of_names : Names)
      (met : BodyMet types u N' stands enums tys to f k b until j.restart (within (afresh f k body) names last) last_of_names last (since j.restart body_given) body_now until_now w)
      (next : names (state_word Next f.depth k) ≡ I (pos (code_of w))) (values : (x : List ℕ) → is_name f.names x ≡ true → names (value_name f.depth k x) ≡ from_block b last_of_names body_now x) where
    test_value : (h : Given) (i : Instant) → is_true (top (expr types (reading u) N' restart_test [] names last h i)) ≡ j.restart
    test_value h i =
        ap is_true (plain_top types u N' restart_test (tt, tt) names last h i)
        ∙ ap₂ (λ v n. is_true (two_of Eq v (I (pos (code n true))))) jump here
        ∙ anew j.state j.restart

    given_value : (y : List ℕ) → hands f k y ≡ true → met.instant (Named y ∷ []) ≡ names y
    given_value = handed_by f k (λ y. met.instant (Named y ∷ []) ≡ names y) (met.next ∙ sym next) (λ x h. met.values x h ∙ sym (values x h))

    afresh_met : EqnMet types u N' [] names last (afresh f k body) (at Head (at Equations arm_given)) (λ i. part Body i ≡ met.instant)
    afresh_met =
        let G : Given = at Head (at Equations arm_given) in
        let i : Instant = expr types (reading u) N' restart_test [] names last (at Test G) nothing in
        let J : Instant = with_body i met.instant in
        let same : i ≡ expr types (reading u) N' restart_test [] names last (at Test G) (part Test J) = plain_any types u N' restart_test (tt, tt) names last (at Test G) (at Test G) nothing (part Test J) in (
          J,
          ap₂ with_body same
              (met.meets ∙ ap (λ t. scope types (reading u) N' body t (within (afresh f k body) names last) last (since t body_given) met.instant) (sym (test_value (at Test G) (part Test J)))),
          (λ y h. given_value y (sym (body_defines y) ∙ h)),
          refl,
        )

    arm_row : RowMet types u N' [] names last (afresh f k body ∷ []) (at Equations arm_given) (λ i. (part Body (part Head i) ≡ met.instant) × ⊤)
    arm_row = row_more types u N' [] names last (afresh f k body) [] (at Equations arm_given) (λ i. part Body i ≡ met.instant) Anyhow afresh_met (row_none types u N' [] names last (at Tail (at Equations arm_given)))

    arm_outside : (y : List ℕ) → some_defines (eqns_of (afresh f k body ∷ [])) y ≡ false → names y ≡ outer_names y
    arm_outside y h = not_hands y (sym (body_defines y) ∙ (sym (no_more (block_defines body y)) ∙ h))

    abbrev arm_made : (i : Instant) × (i ≡ scope types (reading u) N' (block [] (eqns_of (afresh f k body ∷ []))) false outer_names last arm_given i) × ((part Body (part Head (part Equations i)) ≡ met.instant) × ⊤) × (i (Fresh ∷ []) ≡ B false)
        × ((y : List ℕ) → some_defines (eqns_of (afresh f k body ∷ [])) y ≡ true → i (Named y ∷ []) ≡ names y) × ((y : List ℕ) → some_defines (eqns_of (afresh f k body ∷ [])) y ≡ false → i (Named y ∷ []) ≡ Absent)
    arm_made = block_made types u N' [] (afresh f k body ∷ []) names outer_names last arm_given false arm_outside (λ i. (part Body (part Head i) ≡ met.instant) × ⊤) arm_row

    pub active_met : EqnMet types u N' ds names last switched g InState
    active_met =
        let sw : Instant = with_arms (alone (names (state_word On f.depth k))) (of_two arm_made.0 (of_two nothing nothing)) in (
          sw,
          ap (with_arms (alone (names (state_word On f.depth k))))
              (ap (λ i. of_two i (of_two nothing nothing)) arm_made.1
              ∙ ap (λ v. arm types (reading u) N' (more_arms True (block [] (more_eqns (afresh f k body) no_eqn)) f.at
              (more_arms False other f.at no_arm)) v outer_names last (at ArmsOf g) (part ArmsOf sw)) (sym on)),
          (λ y h.
              let mine : some_defines (eqns_of (afresh f k body ∷ [])) y ≡ true = no_more (block_defines body y) ∙ body_defines y ∙ switch_hands y h in
              ap (λ v. from_arm types (reading u) N' (more_arms True (block [] (more_eqns (afresh f k body) no_eqn)) f.at
              (more_arms False other f.at no_arm)) v last (part ArmsOf sw) y) on
              ∙ ap (λ t. if (t && true) then arm_made.0 (Named y ∷ []) else last y) mine
              ∙ arm_made.4 y mine),
          (
            inr (arm_made.3, inr (met.was_fresh ∙ sym met.is_fresh ∙ ap (λ i. i (Fresh ∷ [])) (sym arm_made.2.0), subst (BodyStands stands (f.depth + 1) until b body_now) (sym arm_made.2.0) met.so)),
            λ t. subst (λ i. RowStands stands until until_now (part Equations i)) (sym arm_made.2.0) met.weak,
          ),
        )

  -- ---- where it is not
  module _ (off : names (state_word On f.depth k) ≡ B false) (gone : body_now (Fresh ∷ []) ≡ Absent) (next : names (state_word Next f.depth k) ≡ pure types (handed f Next (number f.at 0) (k + 1)) names last)
      (values : (x : List ℕ) → is_name f.names x ≡ true → names (value_name f.depth k x) ≡ pure types (value_handed enums tys f (k + 1) x) names last) where
    abbrev other_given : Given
    other_given = since false (at Head (at Tail (at ArmsOf g)))

    abbrev idle_eqns : List Eqn
    idle_eqns = idle_next f k ∷ map (idle_value enums tys f k) f.names

    idle_values : (xs : List (List ℕ)) → ((x : List ℕ) → is_name xs x ≡ true → is_name f.names x ≡ true) → EachMet types u N' [] names last (map (idle_value enums tys f k) xs)
    idle_values [] sub = tt
    idle_values (x ∷ xs) sub = (
      (λ h. plain_met types u N' [] names last f.at (value_name f.depth k x) (value_handed enums tys f (k + 1) x)
          (plain_link f.at f.count (λ m. value_name f.depth m x) (constant f.at (some_constant enums (type_of tys x))) (k + 1) tt) refl
          (values x (sub x (name_first x xs x ∙ or_left (bytes_eq x x) (is_name xs x) (bytes_same x)))) h),
      idle_values xs (λ z q. sub z (name_first x xs z ∙ or_right (bytes_eq x z) (is_name xs z) q)),
    )

    idle_each : EachMet types u N' [] names last idle_eqns
    idle_each =
        ((λ h. plain_met types u N' [] names last f.at (state_word Next f.depth k) (handed f Next (number f.at 0) (k + 1)) (plain_link f.at f.count (state_word Next f.depth) (number f.at 0) (k + 1) tt) refl next h), idle_values f.names (λ x q. q))

    idle_defines : (y : List ℕ) → some_defines (eqns_of idle_eqns) y ≡ hands f k y
    idle_defines y = sym (and_true (some_defines (eqns_of idle_eqns) y)) ∙ idle_hands enums tys f k y
      where
        and_true : (t : Bool) → (t && true) ≡ t
        and_true true = refl
        and_true false = refl

    abbrev idle_made : (i : Instant) × (i ≡ scope types (reading u) N' (block [] (eqns_of idle_eqns)) false outer_names last other_given i) × ⊤ × (i (Fresh ∷ []) ≡ B false)
        × ((y : List ℕ) → some_defines (eqns_of idle_eqns) y ≡ true → i (Named y ∷ []) ≡ names y) × ((y : List ℕ) → some_defines (eqns_of idle_eqns) y ≡ false → i (Named y ∷ []) ≡ Absent)
    idle_made = block_made types u N' [] idle_eqns names outer_names last other_given false (λ y h. not_hands y (sym (idle_defines y) ∙ h)) Anyhow (each_row types u N' [] names last idle_eqns (at Equations other_given) idle_each)

    not_there : is_there (body_now (Fresh ∷ [])) ≡ true → ⊥
    not_there t = none (ap is_there (sym gone) ∙ t)
      where
        none : false ≡ true → ⊥
        none h = absurd cc

    pub idle_met : EqnMet types u N' ds names last switched g InState
    idle_met =
        let sw : Instant = with_arms (alone (names (state_word On f.depth k))) (of_two nothing (of_two idle_made.0 nothing)) in (
          sw,
          ap (with_arms (alone (names (state_word On f.depth k))))
              (ap (λ i. of_two nothing (of_two i nothing)) idle_made.1
              ∙ ap (λ v. arm types (reading u) N' (more_arms True (block [] (more_eqns (afresh f k body) no_eqn)) f.at
              (more_arms False other f.at no_arm)) v outer_names last (at ArmsOf g) (part ArmsOf sw)) (sym off)),
          (λ y h.
              ap (λ v. from_arm types (reading u) N' (more_arms True (block [] (more_eqns (afresh f k body) no_eqn)) f.at
              (more_arms False other f.at no_arm)) v last (part ArmsOf sw) y) off
              ∙ ap (λ t. if t then idle_made.0 (Named y ∷ []) else last y) (idle_hands enums tys f k y ∙ switch_hands y h)
              ∙ idle_made.4 y (idle_defines y ∙ switch_hands y h)),
          (inl (gone, refl), λ t. absurd (not_there t)),
        )
