-- A state of an automaton, given the equations of its body: the equations that stand for it have instants.
use Rattle.std.proofs.Common.{◌≡◌, ℕ, suc, ◌+◌, ◌<◌, nat_eq, length, Bool, true, false, List, [], ◌∷◌, ◌++◌, map, refl, sym, ap, subst, ◌∙◌, arith}
use Rattle.std.specs.Prelude.{⊤, pos, if◌then◌else◌}
use Rattle.std.specs.Str.{bytes_eq}
use Rattle.std.proofs.lemmas.List.{append_assoc}
use Rattle.std.proofs.lemmas.Bool.{eqb-true}
use Rattle.hp_base.specs.declared.span.Span.{Span}
use Rattle.hp_base.specs.declared.value.Value.{Value}
use Rattle.hp_base.specs.declared.value.Value.TheVariants.{Absent, B, I}
use Rattle.hp_tree.specs.declared.block.Trans.{Trans}
use Rattle.hp_tree.specs.Expressions.{choose}
use Rattle.hp_tree.specs.Blocks.{Decl, Block, block, Eqns, Eqn, States, no_state, more_states, eqns_of}
use Rattle.hp_tree.specs.Programs.{TypeDecl}
use Rattle.hp_tree.specs.Operators.{constant_of, is_there, if_of}
use Rattle.hp_tree.specs.Instant.{Body, Fresh, Equations, Head, Tail, Until, Unless, Arms as ArmsOf, Instant, Given, at, part, parts, top, own, since, nothing, in_row}
use Rattle.hp_tree.specs.Meaning.{Names, Nodes, Jump, equations, scope, states, weak, weak_in, first_true, number_of, within, inside, lasts, from_block, from_state, defines, block_defines, clock_in, conditions}
use Rattle.hp_automata.specs.declared.new_names.Word.TheVariants.{Jump as JumpWord, Next, From, On, Strong}
use Rattle.hp_automata.specs.NewNames.{word_name, state_word, transition_word, value_name}
use Rattle.hp_automata.specs.Names.{is_name}
use Rattle.hp_automata.specs.Lowering.{Types, Enumerations, Frame, inner, count_of, number, goes_to, jump_of, pending_of, chosen, choices, handed, value_handed, some_constant, type_of, from_eqn, on_word, afresh, state_switch, idle, lowered_body, lowered_states}
use Rattle.law_automata.specs.Lowered.OldNames.{IsOld}
use Rattle.law_automata.specs.Lowered.Removable.{Known, and_defined, StatesOk, most, deepest}
use Rattle.law_automata.specs.Lowered.Standing.{Relation, Along, InArm, BodyStands, StatesStand, RowStands, WeakStand, arm_in, body_in, behind, code_of}
use Rattle.law_automata.specs.Lowered.Giving.{StatesGiven, BodyGiven}
use Rattle.law_automata.specs.Lowered.Deciding.{Property, StatesDecided}
use Rattle.law_automata.proofs.LoweredLemmas.Callees.{Callees}
use Rattle.law_automata.proofs.LoweredLemmas.Spelling.{of_state, value}
use Rattle.law_automata.proofs.LoweredLemmas.Apart.{bytes_differ}
use Rattle.law_automata.proofs.LoweredLemmas.Tests.{or_left, or_none, or_second}
use Rattle.law_automata.proofs.LoweredLemmas.Renaming.{Renames, to_apart, inner_renames}
use Rattle.law_automata.proofs.LoweredLemmas.Lookups.{hands, with_names, mapped}
use Rattle.law_automata.proofs.LoweredLemmas.Defined.{body_hands}
use Rattle.law_automata.proofs.LoweredLemmas.Expressions.{reading, ap₃}
use Rattle.law_automata.proofs.LoweredLemmas.Plain.{pure}
use Rattle.law_automata.proofs.LoweredLemmas.Pasts.{along_map, along_right, body_parts, arms_along}
use Rattle.law_automata.proofs.LoweredLemmas.Rows.{EqnMet, RowMet, EachMet, Anyhow, behind_given, along_behind, behind_free, plain_met, row_by, row_more, row_append}
use Rattle.law_automata.proofs.LoweredLemmas.BlockMaking.{value_of}
use Rattle.law_automata.proofs.LoweredLemmas.Around.{Undone, EqnsStep}
use Rattle.law_automata.proofs.LoweredLemmas.BlockSteps.{AroundBlock}
use Rattle.law_automata.proofs.LoweredLemmas.Jumps.{first_pure, strong_pure, AllDecided, goes_value, if_jump, first_same, decided_pure}
use Rattle.law_automata.proofs.LoweredLemmas.Chains.{chosen_value, choices_met, choices_stand, plain_link, link_word, link_end}
use Rattle.law_automata.proofs.LoweredLemmas.StateWords.{stands_from, KnowsStates, next_here, value_here}
use Rattle.law_automata.proofs.LoweredLemmas.BodySteps.{inner_undone, BodyMet, behind_choices}
use Rattle.law_automata.proofs.LoweredLemmas.BodySteps as body_steps
use Rattle.law_automata.proofs.LoweredLemmas.SwitchSteps.{InState, active_met, idle_met}

-- what is known in the block that stands for an automaton
pub record InAutomaton (types : List TypeDecl) (outer : Known) (to : List ℕ → List ℕ) (f : Frame) (all : States) (e : Eqn) (names last names' last' : Names) (sel j w : Jump) (ds : List Decl) : Type 0 where
  pub renames : Renames outer f.depth to
  pub undone : Undone to
  pub deep : f.depth < deepest
  pub few : f.count < most
  pub names_of : (x : List ℕ) → is_name f.names x ≡ defines e x
  pub old : (x : List ℕ) → is_name f.names x ≡ true → IsOld x
  pub target : (x : List ℕ) → f.target x ≡ number_of 0 all x
  pub same : (x : List ℕ) → IsOld x → names' (to x) ≡ names x
  pub lasts : (x : List ℕ) → IsOld x → last' x ≡ last x
  pub jump : names' (word_name JumpWord f.depth) ≡ I (pos (code_of j))
  pub pending : last' (word_name Next f.depth) ≡ I (pos (code_of sel))
  pub clock : (y : List ℕ) → clock_in ds y ≡ []

module _ (types : List TypeDecl) (enums : Enumerations) (tys : Types) where
  abbrev pub no_value : List ℕ → Value
  no_value x = constant_of types (some_constant enums (type_of tys x))

module _ (types : List TypeDecl) (u : Value → Value) (N N' : Nodes) (stands : List ℕ → Relation) (enums : Enumerations) (tys : Types) {outer : Known} {to : List ℕ → List ℕ} {f : Frame} {all : States} {e : Eqn} {names last names' last' : Names} {sel j w : Jump} {ds' : List Decl}
    (c : InAutomaton types outer to f all e names last names' last' sel j w ds') where
  abbrev pub Knows : ℕ → States → Type 0
  Knows k ss = KnowsStates types f all names last sel j w (no_value types enums tys) names' k ss

  -- what the states from here on hand on
  from_handed : (k : ℕ) (ss : States) → k + count_of ss ≡ f.count → Knows k ss → pure types (handed f From (pending_of f) k) names' last' ≡ I (pos (code_of (strong_pure types all ss k names last sel)))
  from_handed k no_state room h = link_end types f.at f.count (state_word From f.depth) (pending_of f) k names' last' (omega arith) ∙ c.pending
  from_handed k (more_states q b until unless at ss) room h = link_word types f.at f.count (state_word From f.depth) (pending_of f) k names' last' (omega arith) ∙ h.0

  pub next_handed : (k : ℕ) (ss : States) → k + count_of ss ≡ f.count → Knows k ss → pure types (handed f Next (number f.at 0) k) names' last' ≡ next_here types f all names last sel j w (no_value types enums tys) (stands_from k ss j.state)
  next_handed k no_state room h = link_end types f.at f.count (state_word Next f.depth) (number f.at 0) k names' last' (omega arith)
  next_handed k (more_states q b until unless at ss) room h = link_word types f.at f.count (state_word Next f.depth) (number f.at 0) k names' last' (omega arith) ∙ h.2

  pub values_handed : (k : ℕ) (ss : States) → k + count_of ss ≡ f.count → Knows k ss → (x : List ℕ) → is_name f.names x ≡ true
      → pure types (value_handed enums tys f k x) names' last' ≡ value_here types f all names last sel j w (no_value types enums tys) (stands_from k ss j.state) x
  values_handed k no_state room h x q = link_end types f.at f.count (λ m. value_name f.depth m x) _ k names' last' (omega arith)
  values_handed k (more_states n b until unless at ss) room h x q = link_word types f.at f.count (λ m. value_name f.depth m x) _ k names' last' (omega arith) ∙ h.3 x q

  pub jump_handed : (k : ℕ) (ss : States) → k + count_of ss ≡ f.count → Knows k ss → pure types (handed f From (pending_of f) k) names' last' ≡ I (pos (code_of (strong_pure types all ss k names last sel)))
  jump_handed k ss room h = from_handed k ss room h

  module _ (k : ℕ) (q : List ℕ) (ds : List Decl) (es : Eqns) (until unless : List Trans) (at_state : Span) (ss : States) (ok : StatesOk all (and_defined e outer) (f.depth + 1) (more_states q (block ds es) until unless at_state ss))
      (room : k + count_of (more_states q (block ds es) until unless at_state ss) ≡ f.count) (known : Knows k (more_states q (block ds es) until unless at_state ss)) (sub : (x : List ℕ) → block_defines (block ds es) x ≡ true → is_name f.names x ≡ true)
      (g g' : Given) (now : Instant) where
    abbrev b : Block
    b = block ds es

    abbrev these : States
    these = more_states q b until unless at_state ss

    small : k < most
    small = let few = c.few in omega arith

    abbrev pub body_names : Names
    body_names = within e names last

    abbrev body : Block
    body = lowered_body enums to tys f k b until

    abbrev pub read_outside : Names
    read_outside = within (afresh f k body) names' last'

    body_defines : (y : List ℕ) → block_defines body y ≡ hands f k y
    body_defines y = body_hands enums tys f c.renames e c.names_of c.old c.deep k small b until ok.0.0 ok.0.1.1 sub y

    not_handed : (x : List ℕ) → IsOld x → hands f k (to x) ≡ false
    not_handed x o =
        or_none (bytes_eq (state_word Next f.depth k) (to x)) _ (bytes_differ _ (to x) (λ s. to_apart c.renames x (of_state Next k) f.depth o small (omega arith) c.deep (sym s)))
        (by (is_name (map (value_name f.depth k) f.names) (to x)) refl)
      where
        by : (t : Bool) → is_name (map (value_name f.depth k) f.names) (to x) ≡ t → t ≡ false
        by true h =
            let m = mapped (value_name f.depth k) f.names (to x) h in absurd (to_apart c.renames x (value k m.0) f.depth o (small, c.old m.0 m.1) (omega arith) c.deep m.2)
        by false h = refl

    outer_same : (x : List ℕ) → IsOld x → with_names f.names b x ≡ false → read_outside (inner to f k x) ≡ body_names x
    outer_same x o h =
        let not_name : is_name f.names x ≡ false = or_second (block_defines b x) (is_name f.names x) h in
        ap read_outside (ap (λ t. if t then value_name f.depth k x else to x) not_name)
        ∙ ap (λ t. if t then last' (to x) else names' (to x)) (body_defines (to x) ∙ not_handed x o)
        ∙ c.same x o
        ∙ sym (ap (λ t. if t then last x else names x) (sym (c.names_of x) ∙ not_name))

    pub around_block : AroundBlock (and_defined e outer) (f.depth + 1) (inner to f k) f.names b body_names read_outside last last'
    around_block = record {
      renames = inner_renames f e c.renames c.names_of c.deep k small;
      undone = inner_undone f c.renames c.undone c.deep k small c.old;
      ok = ok.0.0;
      own = λ x h. or_left (defines e x) (outer x) (sym (c.names_of x) ∙ h);
      old = c.old;
      out_same = outer_same;
      kept_same = λ x h n. ap (λ t. if t then last x else names x) (sym (c.names_of x) ∙ h);
      lasts = c.lasts;
    }

    -- where what stands for the state is read
    abbrev pub strong_choices : List Eqn
    strong_choices = choices to f Strong k (length unless) (pending_of f) 0 unless

    abbrev pub switch_given : Given
    switch_given = at Head (at Tail (at Tail (behind_given strong_choices g')))

    abbrev pub later_given : Given
    later_given = at Tail (at Tail (at Tail (behind_given strong_choices g')))

    abbrev pub arm_given : Given
    arm_given = since false (at Head (at ArmsOf switch_given))

    abbrev pub body_given : Given
    body_given = at Body (at Head (at Equations arm_given))

    abbrev pub body_now : Instant
    body_now = part Body (part Head now)

    switch_at : (i : Instant) → behind strong_choices i ≡ behind unless i
    switch_at i = behind_choices to f Strong k (length unless) (pending_of f) 0 unless i

    abbrev until_now : Instant
    until_now = part Until (part Head now)

    abbrev InBody : Relation
    InBody = BodyStands stands (f.depth + 1) until b

    -- the body and the weak transitions in the `switch` that stands for the state
    abbrev InSwitch : Property
    InSwitch i = InArm InBody body_now (arm_in i) × WeakStand stands until body_now until_now (arm_in i)

    -- what is given to the states behind it
    pub later_free : (given : List ℕ → Relation) → StatesGiven u given these g.free g'.free → StatesGiven u given ss (part Tail g.free) later_given.free
    later_free given free =
        subst (λ l. StatesGiven u given ss (part Tail g.free) (part Tail (part Tail (part Tail l)))) (sym (behind_free strong_choices g' ∙ switch_at g'.free)) free.1

    module _ (past : Along (StatesStand stands (f.depth + 1) these) g.past g'.past) where
      -- the past of the body, in its arm
      arms_past : Along (InArm InBody) (parts Body (parts Head g.past)) (parts Head (parts ArmsOf switch_given.past))
      arms_past =
          let one = along_behind (StatesStand stands (f.depth + 1) these) (λ i s. InArm InBody (part Body (part Head i)) (arm_in (part Head (part Tail (part Tail s))))) strong_choices
          (λ i s h. subst (λ l. InArm InBody (part Body (part Head i)) (arm_in (part Head (part Tail (part Tail l))))) (sym (switch_at s)) h.0) g.past g' past in
          let two = along_map (λ i s. InArm InBody (part Body (part Head i)) (arm_in (part Head (part Tail (part Tail s))))) (λ i s. InArm InBody (part Body i) (arm_in (part Head (part Tail s)))) (part Head) (part Tail) (λ i s h. h) g.past _ one in
          let three = along_map (λ i s. InArm InBody (part Body i) (arm_in (part Head (part Tail s)))) (λ i s. InArm InBody i (arm_in (part Head s))) (part Body) (part Tail) (λ i s h. h) (parts Head g.past) _ two in
          let four = along_right (λ i s. InArm InBody i (arm_in (part Head s))) (λ i s. InArm InBody i (arm_in s)) (part Head) (λ i s h. h) (parts Body (parts Head g.past)) _ three in
          let five = along_right (λ i s. InArm InBody i (arm_in s)) (λ i s. InArm InBody i (part Head s)) (part ArmsOf) (λ i s h. h) (parts Body (parts Head g.past)) _ four in
          along_right (λ i s. InArm InBody i (part Head s)) (InArm InBody) (part Head) (λ i s h. h) (parts Body (parts Head g.past)) _ five

      pub body_past : (r : Bool) → Along InBody (since r (at Body (at Head g))).past (since r body_given).past
      body_past true = tt
      body_past false =
          subst (λ l. Along InBody (own (parts Body (parts Head g.past))) (own l)) (body_parts InBody (own (parts Head (parts ArmsOf switch_given.past))))
          (arms_along InBody (parts Body (parts Head g.past)) (parts Head (parts ArmsOf switch_given.past)) arms_past)

      pub later_past : Along (StatesStand stands (f.depth + 1) ss) (parts Tail g.past) later_given.past
      later_past =
          let one = along_behind (StatesStand stands (f.depth + 1) these) (λ i s. StatesStand stands (f.depth + 1) ss (part Tail i) (part Tail (part Tail (part Tail s)))) strong_choices
          (λ i s h. subst (λ l. StatesStand stands (f.depth + 1) ss (part Tail i) (part Tail (part Tail (part Tail l)))) (sym (switch_at s)) h.1) g.past g' past in
          let two = along_map (λ i s. StatesStand stands (f.depth + 1) ss (part Tail i) (part Tail (part Tail (part Tail s)))) (λ i s. StatesStand stands (f.depth + 1) ss i (part Tail (part Tail s))) (part Tail) (part Tail) (λ i s h. h) g.past _ one in
          let three = along_right (λ i s. StatesStand stands (f.depth + 1) ss i (part Tail (part Tail s))) (λ i s. StatesStand stands (f.depth + 1) ss i (part Tail s)) (part Tail) (λ i s h. h) (parts Tail g.past) _ two in
          along_right (λ i s. StatesStand stands (f.depth + 1) ss i (part Tail s)) (StatesStand stands (f.depth + 1) ss) (part Tail) (λ i s h. h) (parts Tail g.past) _ three

      module _ (given : List ℕ → Relation) (decided : List ℕ → Property) (C : Callees N N' stands given decided) (ih : EqnsStep types u N N' stands given decided C enums es) (free : StatesGiven u given these g.free g'.free)
          (dec : StatesDecided decided these now) (m : now ≡ states types (reading u) N these k j names body_names last g now)
          (next : stands_from k these j.state ≡ true → w ≡ weak types (reading u) N all these k j body_names last g now)
          (gives : stands_from k these j.state ≡ true → (x : List ℕ) → is_name f.names x ≡ true → names x ≡ from_state these k j.state last now x) where
        abbrev Switched : Type 0
        Switched = EqnMet types u N' ds' names' last' (state_switch f k body (idle enums tys f k)) switch_given (InState types u N' stands enums tys to f ds' names' last' k b until body_defines switch_given body_now until_now)

        -- ---- where the state is active
        module _ (here : nat_eq k j.state ≡ true) where
          this : k ≡ j.state
          this = eqb-true k j.state here

          stands_here : stands_from k these j.state ≡ true
          stands_here = ap (λ t. if t then true else stands_from (k + 1) ss j.state) here

          abbrev own_given : Given
          own_given = since j.restart (at Body (at Head g))

          body_is : body_now ≡ scope types (reading u) N b j.restart body_names last own_given body_now
          body_is =
              ap (λ i. part Body (part Head i)) m
              ∙ ap (λ t. if t then scope types (reading u) N b j.restart body_names last own_given body_now else nothing) here

          abbrev weak_names : Names
          weak_names = inside es body_names body_now

          abbrev weak_last : Names
          weak_last = lasts (value_of types) ds own_given.past last

          abbrev weak_values : List Instant
          weak_values = weak_in types (reading u) N b until j body_names last (at Head g) (part Head now)

          until_is : part Until (part Head now) ≡ in_row weak_values
          until_is = ap (λ i. part Until (part Head i)) m ∙ ap (λ t. if t then in_row weak_values else nothing) here

          there : is_there (body_now (Fresh ∷ [])) ≡ true
          there = ap (λ i. is_there (i (Fresh ∷ []))) body_is

          weak_decided : AllDecided types until weak_names weak_last
          weak_decided = decided_pure types u N all until ok.0.1.0 weak_names weak_last (at Until (at Head g)) (part Until (part Head now)) until_is (dec.0.1 there)

          abbrev stay : Jump
          stay = record { state = k; restart = false }

          next_is : w ≡ first_pure types all until weak_names weak_last stay
          next_is =
              next stands_here
              ∙ ap (λ t. if t then first_true all until (map top weak_values) (record { state = j.state; restart = false }) else weak types (reading u) N all ss (suc k) j body_names last (at Tail g) (part Tail now)) here
              ∙ first_same types u N all until ok.0.1.0 weak_names weak_last (at Until (at Head g)) (part Until (part Head now)) (record { state = j.state; restart = false })
              ∙ ap (λ n. first_pure types all until weak_names weak_last (record { state = n; restart = false })) (sym this)

          body_free : BodyGiven u given until b own_given.free (since j.restart body_given).free
          body_free =
              subst (λ l. BodyGiven u given until b (part Body (part Head g.free)) (body_in (arm_in (part Head (part Tail (part Tail l)))))) (sym (behind_free strong_choices g' ∙ switch_at g'.free)) free.0

          row : body_steps.RowNeeded types u N N' stands enums tys f all c.renames c.undone c.deep e c.names_of c.old c.target k small ds es until ok.0.1.1 ok.0.1.0 around_block j.restart own_given (since j.restart body_given) body_now (body_past j.restart) body_is w
          row = body_steps.body_row types u N N' stands enums tys f all c.renames c.undone c.deep e c.names_of c.old c.target k small ds es until ok.0.1.1 ok.0.1.0 around_block j.restart own_given (since j.restart body_given) body_now (body_past j.restart) body_is w
              given decided C ih body_free (dec.0.2 there)

          body_met : BodyMet types u N' stands enums tys to f k b until j.restart read_outside last last' (since j.restart body_given) body_now until_now w
          body_met =
              body_steps.body_by types u N N' stands enums tys f all c.renames c.undone c.deep e c.names_of c.old c.target k small ds es until ok.0.1.1 ok.0.1.0 around_block j.restart own_given (since j.restart body_given) body_now (body_past j.restart) body_is w
              weak_decided next_is row (at Until (at Head g)) until_now until_is

          switch_active : Switched
          switch_active =
              active_met types u N' stands enums tys to f ds' names' last' k b until body_defines switch_given body_now until_now (known.1 ∙ ap B here) j this c.jump w last body_met
              (known.2 ∙ ap (next_here types f all names last sel j w (no_value types enums tys)) stands_here)
              (λ x h. known.3 x h ∙ ap (λ t. value_here types f all names last sel j w (no_value types enums tys) t x) stands_here ∙ gives stands_here x h
              ∙ ap (λ t. if t then from_block b last body_now x else from_state ss (suc k) j.state last (part Tail now) x) here)

        -- ---- where it is not
        module _ (away : nat_eq k j.state ≡ false) where
          stands_later : stands_from k these j.state ≡ stands_from (k + 1) ss j.state
          stands_later = ap (λ t. if t then true else stands_from (k + 1) ss j.state) away

          gone : body_now (Fresh ∷ []) ≡ Absent
          gone =
              ap (λ i. i (Fresh ∷ [])) (ap (λ i. part Body (part Head i)) m
              ∙ ap (λ t. if t then scope types (reading u) N b j.restart body_names last (since j.restart (at Body (at Head g))) body_now else nothing) away)

          later_room : (k + 1) + count_of ss ≡ f.count
          later_room = omega arith

          switch_idle : Switched
          switch_idle =
              idle_met types u N' stands enums tys to f ds' names' last' k b until body_defines switch_given body_now until_now (known.1 ∙ ap B away) gone
              (known.2 ∙ ap (next_here types f all names last sel j w (no_value types enums tys)) stands_later ∙ sym (next_handed (k + 1) ss later_room known.5))
              (λ x h. known.3 x h ∙ ap (λ t. value_here types f all names last sel j w (no_value types enums tys) t x) stands_later ∙ sym (values_handed (k + 1) ss later_room known.5 x h))

        switch_by : (t : Bool) → nat_eq k j.state ≡ t → Switched
        switch_by true h = switch_active h
        switch_by false h = switch_idle h

        -- ---- all equations of the state, and of those behind it
        unless_is : part Unless (part Head now) ≡ in_row (conditions types (reading u) N unless names last (at Unless (at Head g)) (part Unless (part Head now)))
        unless_is = ap (λ i. part Unless (part Head i)) m

        strong_decided : AllDecided types unless names last
        strong_decided = decided_pure types u N all unless ok.0.2.0 names last (at Unless (at Head g)) (part Unless (part Head now)) unless_is dec.0.0

        choices_all : EachMet types u N' ds' names' last' strong_choices
        choices_all =
            choices_met types f Strong k all names last sel u N' ds' to names' last' c.target c.same c.lasts (λ i h. c.clock (transition_word Strong f.depth k i)) (length unless) (pending_of f) tt c.pending
            0 unless (omega arith) (omega (arith, ok.0.2.1)) ok.0.2.0 strong_decided known.4

        chosen_here : pure types (chosen f Strong k (length unless) (pending_of f) 0) names' last' ≡ I (pos (code_of (first_pure types all unless names last sel)))
        chosen_here =
            chosen_value types f Strong k all names last sel u N' ds' to names' last' c.target c.same c.lasts (λ i h. c.clock (transition_word Strong f.depth k i)) (length unless) (pending_of f) tt c.pending 0 unless (omega arith) known.4

        from_met : (h : Given) → EqnMet types u N' ds' names' last' (from_eqn f k Strong (length unless) (pending_of f)) h Anyhow
        from_met h =
            plain_met types u N' ds' names' last' f.at (state_word From f.depth k)
            (choose f.at (goes_to f.at (pending_of f) k) (chosen f Strong k (length unless) (pending_of f) 0) (handed f From (pending_of f) (k + 1)))
            (((tt, tt), (tt, tt)), plain_link f.at (length unless) (transition_word Strong f.depth k) (pending_of f) 0 tt, plain_link f.at f.count (state_word From f.depth) (pending_of f) (k + 1) tt)
            (c.clock (state_word From f.depth k))
            (known.0
            ∙ sym (ap₃ if_of (goes_value types f.at (pending_of f) k sel names' last' c.pending) chosen_here (from_handed (k + 1) ss (omega arith) known.5)
            ∙ if_jump (nat_eq k sel.state) (first_pure types all unless names last sel) (strong_pure types all ss (k + 1) names last sel)))
            h

        on_met : (h : Given) → EqnMet types u N' ds' names' last' (on_word f k) h Anyhow
        on_met h =
            plain_met types u N' ds' names' last' f.at (state_word On f.depth k) (goes_to f.at (jump_of f) k) ((tt, tt), (tt, tt)) (c.clock (state_word On f.depth k))
            (known.1 ∙ sym (goes_value types f.at (jump_of f) k j names' last' c.jump)) h

        module _ (rest : RowMet types u N' ds' names' last' (lowered_states enums to tys f (k + 1) ss) later_given (StatesStand stands (f.depth + 1) ss (part Tail now))) where
          abbrev three : List Eqn
          three = from_eqn f k Strong (length unless) (pending_of f) ∷ (on_word f k ∷ (state_switch f k body (idle enums tys f k) ∷ lowered_states enums to tys f (k + 1) ss))

          three_met : RowMet types u N' ds' names' last' three (behind_given strong_choices g')
              (λ i. ⊤ × (⊤ × (InSwitch (part Head (part Tail (part Tail i))) × StatesStand stands (f.depth + 1) ss (part Tail now) (part Tail (part Tail (part Tail i))))))
          three_met =
              let G : Given = behind_given strong_choices g' in
              row_more types u N' ds' names' last' (from_eqn f k Strong (length unless) (pending_of f)) (on_word f k ∷ (state_switch f k body (idle enums tys f k) ∷ lowered_states enums to tys f (k + 1) ss)) G Anyhow
              (λ i. ⊤ × (InSwitch (part Head (part Tail i)) × StatesStand stands (f.depth + 1) ss (part Tail now) (part Tail (part Tail i))))
              (from_met (at Head G))
              (row_more types u N' ds' names' last' (on_word f k) (state_switch f k body (idle enums tys f k) ∷ lowered_states enums to tys f (k + 1) ss) (at Tail G) Anyhow
              (λ i. InSwitch (part Head i) × StatesStand stands (f.depth + 1) ss (part Tail now) (part Tail i))
              (on_met (at Head (at Tail G)))
              (row_more types u N' ds' names' last' (state_switch f k body (idle enums tys f k)) (lowered_states enums to tys f (k + 1) ss) (at Tail (at Tail G)) InSwitch (StatesStand stands (f.depth + 1) ss (part Tail now))
              (switch_by (nat_eq k j.state) refl) rest))

          parts_of_state : (cs : List Eqn) (x y z : Eqn) (more : List Eqn) → (((cs ++ x ∷ []) ++ y ∷ []) ++ z ∷ []) ++ more ≡ cs ++ (x ∷ (y ∷ (z ∷ more)))
          parts_of_state cs x y z more =
              append_assoc ((cs ++ x ∷ []) ++ y ∷ []) (z ∷ []) more ∙ append_assoc (cs ++ x ∷ []) (y ∷ []) (z ∷ more) ∙ append_assoc cs (x ∷ []) (y ∷ (z ∷ more))

          strong_stand : (i : Instant) → i ≡ equations types (reading u) N' ds' (eqns_of (strong_choices ++ three)) names' last' g' i → RowStands stands unless (part Unless (part Head now)) i
          strong_stand i l =
              choices_stand types f Strong k all names last sel u N' ds' to names' last' c.target c.same c.lasts (λ q h. c.clock (transition_word Strong f.depth k q)) (length unless) (pending_of f) tt c.pending N stands three
              0 unless (omega arith) (omega (arith, ok.0.2.1)) ok.0.2.0 (at Unless (at Head g)) g' (part Unless (part Head now)) i unless_is l

          pub state_by : RowMet types u N' ds' names' last' (lowered_states enums to tys f k these) g' (StatesStand stands (f.depth + 1) these now)
          state_by =
              subst (λ es'. RowMet types u N' ds' names' last' es' g' (StatesStand stands (f.depth + 1) these now))
              (sym (parts_of_state strong_choices (from_eqn f k Strong (length unless) (pending_of f)) (on_word f k) (state_switch f k body (idle enums tys f k)) (lowered_states enums to tys f (k + 1) ss)))
              (row_by types u N' ds' names' last' (strong_choices ++ three) g'
              (λ i. ⊤ × (⊤ × (InSwitch (part Head (part Tail (part Tail (behind strong_choices i)))) × StatesStand stands (f.depth + 1) ss (part Tail now) (part Tail (part Tail (part Tail (behind strong_choices i)))))))
              (StatesStand stands (f.depth + 1) these now)
              (λ i l p.
              let s = subst (λ q. InSwitch (part Head (part Tail (part Tail q))) × StatesStand stands (f.depth + 1) ss (part Tail now) (part Tail (part Tail (part Tail q)))) (switch_at i) p.1.1 in
              (s.0.0, s.1, strong_stand i l, s.0.1))
              (row_append types u N' ds' names' last' strong_choices three g'
              (λ i. ⊤ × (⊤ × (InSwitch (part Head (part Tail (part Tail i))) × StatesStand stands (f.depth + 1) ss (part Tail now) (part Tail (part Tail (part Tail i))))))
              choices_all three_met))
