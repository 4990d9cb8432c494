-- Right clocks of automata, and of all equations by one induction.
use Rattle.std.proofs.Common.{◌≡◌, ℕ, ◌+◌, ◌<◌, ◌≤◌, length, Bool, true, false, ◌||◌, List, [], ◌∷◌, ◌++◌, map, Option, None, Some, option_map, inl, inr, refl, sym, ap, ◌∙◌, arith}
use Rattle.std.specs.Prelude.{◌⊎◌, if◌then◌else◌}
use Rattle.std.specs.Str.{bytes_eq}
use Rattle.hp_base.specs.declared.span.Span.{Span}
use Rattle.hp_tree.specs.declared.block.Trans.{Trans}
use Rattle.hp_tree.specs.Expressions.{constant, choose}
use Rattle.hp_tree.specs.Blocks.{Decl, Block, block, Eqns, no_eqn, more_eqns, Eqn, automaton, States, eqns_of}
use Rattle.hp_tree.specs.Meaning.{declares, defines, some_defines, block_defines, states_define, clock_in}
use Rattle.hp_meaning.specs.Causal.Clocked.{Standing, base_alone, standing_in, ConditionsOn, BlockRight, AllRight, OneRight, StatesRight}
use Rattle.hp_automata.specs.declared.new_names.Word.{Word}
use Rattle.hp_automata.specs.declared.new_names.Word.TheVariants.{Jump, Next, From, On, Strong, Weak}
use Rattle.hp_automata.specs.NewNames.{word_name, state_word, transition_word, value_name}
use Rattle.hp_tables.specs.Defining.Names.{outer_names}
use Rattle.hp_automata.specs.Names.{is_name, missing}
use Rattle.hp_automata.specs.Renaming.{renamed_path, renamed_decls}
use Rattle.hp_automata.specs.Lowering.{Types, Enumerations, declaring, Frame, frame, inner, count_of, number, goes_to, jump_of, pending_of, chosen, choices, stays, handed, value_handed, some_constant, type_of, joined, from_eqn, on_word, afresh, state_switch, idle, own_next, weak_eqns, all_kept, transition_locals, value_local, state_locals, locals_from, frame_locals, frame_eqns, lowered_states, lowered_body, choosing_eqns, strong_eqns, state_eqns}
use Rattle.law_automata.specs.Lowered.OldNames.{IsOld}
use Rattle.law_automata.specs.Lowered.Removable.{Known, and_defined, StatesOk, TransitionsOk, BlockOk, most, deepest}
use Rattle.law_automata.proofs.LoweredLemmas.Spelling.{New, of_state, of_transition, value, spell, HasRoom}
use Rattle.law_automata.proofs.LoweredLemmas.Apart.{same_bytes, bytes_same, bytes_differ}
use Rattle.law_automata.proofs.LoweredLemmas.Tests.{or_left, or_right, or_none, or_second, or_cases, and_not, true_false, declares_append, some_append, name_first}
use Rattle.law_automata.proofs.LoweredLemmas.Renaming.{Renames, to_apart, new_not_local, declares_renamed, inner_renames}
use Rattle.law_automata.proofs.LoweredLemmas.Lookups.{hands, mapped, eqn_old, choices_declared, transitions_apart, names_of_frame, map_name, values_declared}
use Rattle.law_automata.proofs.LoweredLemmas.Defined.{body_hands, eqn_same, frame_apart}
use Rattle.law_automata.proofs.LoweredLemmas.BlockMaking.{ClocksSame, clock_kept, clock_old, base_clock}
use Rattle.law_automata.proofs.LoweredLemmas.Around.{Undone}
use Rattle.law_automata.proofs.LoweredLemmas.BodySteps.{inner_apart, inner_undone, choices_base, clock_behind}
use Rattle.law_automata.proofs.LoweredLemmas.StateWords.{states_complete}
use Rattle.law_automata.proofs.LoweredLemmas.Bounds.{frame_base}
use Rattle.law_automata.proofs.LoweredLemmas.RightExpressions.{declarations_right, base_right, right_append, kept_right, base_twice}
use Rattle.law_automata.proofs.LoweredLemmas.RightBlocks.{RightAround, EqnRight, EqnsRight, standing_same, made, made_defines, left_base, defines_base}
use Rattle.law_automata.proofs.LoweredLemmas.RightStates.{locals_right, declarations_append, link_on, further_in, choices_right, idle_right, declared_at}

no_true : (t : Bool) → (t ≡ true → ⊥) → t ≡ false
no_true true h = absurd (h refl)
no_true false h = refl

-- a word of a transition
word_of_transition : (f : Frame) (w : Word) (k j : ℕ) (ts : List Trans) (y : List ℕ) → j + length ts ≤ most → declares (transition_locals f w k j ts) y ≡ true → (i : ℕ) × (i < most) × (transition_word w f.depth k i ≡ y)
word_of_transition f w k j [] y room h = absurd cc
word_of_transition f w k j (t ∷ ts) y room h = by (or_cases (bytes_eq (transition_word w f.depth k j) y) _ h) (word_of_transition f w k (j + 1) ts y (omega arith))
  where
    by : (bytes_eq (transition_word w f.depth k j) y ≡ true) ⊎ (declares (transition_locals f w k (j + 1) ts) y ≡ true) → (declares (transition_locals f w k (j + 1) ts) y ≡ true → (i : ℕ) × (i < most) × (transition_word w f.depth k i ≡ y))
        → (i : ℕ) × (i < most) × (transition_word w f.depth k i ≡ y)
    by (inl q) r = (j, omega arith, same_bytes _ y q)
    by (inr q) r = r q

module _ (enums : Enumerations) (tys : Types) {outer : Known} {to : List ℕ → List ℕ} (f : Frame) (r : Renames outer f.depth to) (un : Undone to) (deep : f.depth < deepest) (e : Eqn) (names_of : (x : List ℕ) → is_name f.names x ≡ defines e x) (old : (x : List ℕ) → is_name f.names x ≡ true → IsOld x) (k : ℕ) (room : k < most) where
  -- ---- the body of a state
  module _ (all : States) (ds : List Decl) (es : Eqns) (until : List Trans) (few : length until < most) (transitions : TransitionsOk all until) (out arm : Standing) (a : RightAround (and_defined e outer) (f.depth + 1) (inner to f k) f.names (block ds es) out arm) (ih : EqnsRight enums es)
      (h : BlockRight out (block ds es)) (conditions : ConditionsOn (standing_in ds es out) until) where
    abbrev into : List ℕ → List ℕ
    into = inner to f k

    abbrev front : List Eqn
    front = weak_eqns into f k until

    abbrev own : List Eqn
    own = made enums tys f.at a

    abbrev decls' : List Decl
    decls' = renamed_decls into ds ++ transition_locals f Weak k 0 until

    abbrev inner_standing : Standing
    inner_standing = standing_in decls' (eqns_of (front ++ own)) arm

    clocks : ClocksSame into ds decls'
    clocks = record { same = λ y o. clock_kept into a.renames es ds (transition_locals f Weak k 0 until) a.ok.0 (choices_base f k 0 until) y o; old = clock_old into (and_defined e outer) es ds a.ok.0 }

    transition_not : (i : ℕ) (y : List ℕ) → value k y ≡ of_transition Weak k i → ⊥
    transition_not i y p = absurd cc

    not_front : (x : List ℕ) → IsOld x → some_defines (eqns_of front) (into x) ≡ false
    not_front x o =
        some_append (choices into f Weak k (length until) (stays f k) 0 until) (own_next f k Weak (length until) (stays f k) ∷ []) (into x)
        ∙ or_none _ _ (choices_declared into f Weak k (length until) (stays f k) 0 until (into x)
        ∙ transitions_apart f Weak k 0 until (into x) (omega (arith, few)) (λ i l s. inner_apart f r un deep k room old x o (of_transition Weak k i) (room, l) (transition_not i) (sym s)))
        (or_none _ _ (or_none _ _ (bytes_differ (state_word Next f.depth k) (into x) (λ s. inner_apart f r un deep k room old x o (of_state Next k) room (λ y p. absurd cc) (sym s))) refl) refl)

    defined : (x : List ℕ) → IsOld x → some_defines (eqns_of (front ++ own)) (into x) ≡ (some_defines es x || is_name f.names x)
    defined x o = some_append front own (into x) ∙ ap (λ t. t || some_defines (eqns_of own) (into x)) (not_front x o) ∙ made_defines enums tys f.at a x o

    same : (x : List ℕ) → IsOld x → inner_standing (into x) ≡ option_map (renamed_path into) (standing_in ds es out x)
    same x o = standing_same a decls' (eqns_of (front ++ own)) clocks defined x o

    new_clock : (b : New) → HasRoom b → clock_in decls' (spell f.depth b) ≡ []
    new_clock b has =
        clock_behind (renamed_decls into ds) (transition_locals f Weak k 0 until) (spell f.depth b) (declares_renamed into ds (spell f.depth b) ∙ new_not_local a.renames es ds a.ok.0 f.depth b has)
        ∙ base_clock into (transition_locals f Weak k 0 until) (choices_base f k 0 until) (spell f.depth b)

    word_stands : (y : List ℕ) → declares (transition_locals f Weak k 0 until) y ≡ true → inner_standing y ≡ Some []
    word_stands y q =
        let w = word_of_transition f Weak k 0 until y (omega (arith, few)) q in
        let made_first : some_defines (eqns_of (front ++ own)) y ≡ true =
        some_append front own y ∙ or_left _ _ (some_append (choices into f Weak k (length until) (stays f k) 0 until) (own_next f k Weak (length until) (stays f k) ∷ []) y
        ∙ or_left _ _ (choices_declared into f Weak k (length until) (stays f k) 0 until y ∙ q)) in
        ap (λ t. if t then Some (clock_in decls' y) else base_alone (arm y)) made_first
        ∙ ap Some (ap (clock_in decls') (sym w.2) ∙ new_clock (of_transition Weak k w.0) (room, w.1))

    pub body_right : BlockRight arm (lowered_body enums to tys f k (block ds es) until)
    body_right =
        let cs = choices_right inner_standing (standing_in ds es out) decls' into f Weak k (length until) (stays f k) all (λ x o q. same x o ∙ ap (option_map (renamed_path into)) q) tt (λ i l. new_clock (of_transition Weak k i) (room, l))
        0 until (omega arith) (omega (arith, few)) transitions conditions word_stands in (
          declarations_append inner_standing (renamed_decls into ds) (transition_locals f Weak k 0 until) (declarations_right into (standing_in ds es out) inner_standing same (and_defined e outer) es ds a.ok.0 h.0)
              (locals_right into inner_standing (transition_locals f Weak k 0 until) (choices_base f k 0 until)),
          right_append inner_standing decls' front own
              (right_append inner_standing decls' (choices into f Weak k (length until) (stays f k) 0 until) (own_next f k Weak (length until) (stays f k) ∷ []) cs.0
              (base_right inner_standing decls' f.at (state_word Next f.depth k) (chosen f Weak k (length until) (stays f k) 0) (new_clock (of_state Next k) room) cs.1, tt))
              (ih (and_defined e outer) (f.depth + 1) into ds decls' (standing_in ds es out) inner_standing (record { renames = a.renames; undone = a.undone; clocks = clocks; same = same }) (declaring tys ds) (all_kept into f.at f.names (block ds es))
              (kept_right inner_standing decls' into f.at (missing (is_name (outer_names (block ds es))) f.names) (left_base enums tys f.at a decls' clocks)) a.ok.1
              (λ x q. ap (λ t. if t then Some (clock_in ds x) else base_alone (out x)) q) h.1),
        )

  -- ---- a state
  module _ (all : States) (names outer_names' : Standing) (locals : List Decl) (base : (y : List ℕ) → clock_in locals y ≡ []) (jump_on : names (word_name Jump f.depth) ≡ Some [])
      (conditions_same : (x : List ℕ) → IsOld x → outer_names' x ≡ Some [] → names (to x) ≡ Some [])
      (further_same : (x : List ℕ) → IsOld x → is_name f.names x ≡ false → base_alone (names (to x)) ≡ base_alone (outer_names' x)) (kept_base : (x : List ℕ) → is_name f.names x ≡ true → outer_names' x ≡ Some [])
      (words : (m : ℕ) → m < f.count → (names (state_word From f.depth m) ≡ Some []) × (names (state_word Next f.depth m) ≡ Some []) × ((x : List ℕ) → is_name f.names x ≡ true → names (value_name f.depth m x) ≡ Some [])) where
    abbrev body : Block → List Trans → Block
    body b until = lowered_body enums to tys f k b until

    abbrev arm_of : Block → Standing
    arm_of low = standing_in [] (more_eqns (afresh f k low) no_eqn) names

    not_handed : (x : List ℕ) → IsOld x → hands f k (to x) ≡ false
    not_handed x o =
        or_none (bytes_eq (state_word Next f.depth k) (to x)) _ (bytes_differ _ (to x) (λ s. to_apart r x (of_state Next k) f.depth o room (omega arith) deep (sym s)))
        (no_true (is_name (map (value_name f.depth k) f.names) (to x)) (λ h. let m = mapped (value_name f.depth k) f.names (to x) h in to_apart r x (value k m.0) f.depth o (room, old m.0 m.1) (omega arith) deep m.2))

    around_body : (b : Block) (until : List Trans) → BlockOk (and_defined e outer) (f.depth + 1) b → length until < most → ((x : List ℕ) → block_defines b x ≡ true → is_name f.names x ≡ true)
        → RightAround (and_defined e outer) (f.depth + 1) (inner to f k) f.names b outer_names' (arm_of (body b until))
    around_body b until ok few sub = record {
      renames = inner_renames f e r names_of deep k room;
      undone = inner_undone f r un deep k room old;
      ok = ok;
      own = λ x h. or_left (defines e x) (outer x) (sym (names_of x) ∙ h);
      old = old;
      out_same = λ x o h.
          let not_name : is_name f.names x ≡ false = or_second (block_defines b x) (is_name f.names x) h in
          ap (λ y. base_alone (arm_of (body b until) y)) (ap (λ t. if t then value_name f.depth k x else to x) not_name)
          ∙ ap (λ t. base_alone (if (t || false) then Some [] else base_alone (names (to x)))) (body_hands enums tys f r e names_of old deep k room b until ok few sub (to x) ∙ not_handed x o)
          ∙ base_twice (names (to x)) ∙ further_same x o not_name;
      kept_base = kept_base;
    }

    pub switch_right : (ds : List Decl) (es : Eqns) (until : List Trans) → EqnsRight enums es → BlockOk (and_defined e outer) (f.depth + 1) (block ds es) → length until < most → TransitionsOk all until → ((x : List ℕ) → block_defines (block ds es) x ≡ true → is_name f.names x ≡ true)
        → names (state_word On f.depth k) ≡ Some [] → BlockRight outer_names' (block ds es) → ConditionsOn (standing_in ds es outer_names') until → OneRight names locals (state_switch f k (body (block ds es) until) (idle enums tys f k))
    switch_right ds es until ih ok few transitions sub on h conditions =
        let low : Block = body (block ds es) until in (
          (λ y q. base y),
          on,
          (
            (
              tt,
              (
                (
                  (λ y q. refl),
                  (further_in [] (more_eqns (afresh f k low) no_eqn) names (λ y. refl) (word_name Jump f.depth) jump_on, tt),
                  body_right all ds es until few transitions outer_names' (arm_of low) (around_body (block ds es) until ok few sub) ih h conditions,
                ),
                tt,
              ),
            ),
            (idle_right enums tys f k names (λ m l. ((words m l).1, (words m l).2)), tt),
          ),
        )

-- ---- all states

pub base_renamed : (to : List ℕ → List ℕ) (v : Option _) → base_alone (option_map (renamed_path to) v) ≡ base_alone v
base_renamed to None = refl
base_renamed to (Some []) = refl
base_renamed to (Some (on ∷ clock)) = refl

-- what is known in the block that stands for an automaton
pub record RightAutomaton (outer : Known) (to : List ℕ → List ℕ) (f : Frame) (e : Eqn) (names outer_names' : Standing) (locals : List Decl) : Type 0 where
  pub renames : Renames outer f.depth to
  pub undone : Undone to
  pub deep : f.depth < deepest
  pub few : f.count < most
  pub names_of : (x : List ℕ) → is_name f.names x ≡ defines e x
  pub old : (x : List ℕ) → is_name f.names x ≡ true → IsOld x
  pub base : (y : List ℕ) → clock_in locals y ≡ []
  pub jump_on : names (word_name Jump f.depth) ≡ Some []
  pub conditions_same : (x : List ℕ) → IsOld x → outer_names' x ≡ Some [] → names (to x) ≡ Some []
  pub further_same : (x : List ℕ) → IsOld x → is_name f.names x ≡ false → base_alone (names (to x)) ≡ base_alone (outer_names' x)
  pub kept_base : (x : List ℕ) → is_name f.names x ≡ true → outer_names' x ≡ Some []
  pub words : (m : ℕ) → m < f.count → (names (state_word From f.depth m) ≡ Some []) × (names (state_word Next f.depth m) ≡ Some []) × ((x : List ℕ) → is_name f.names x ≡ true → names (value_name f.depth m x) ≡ Some [])

module _ (enums : Enumerations) where
  abbrev pub StatesKept : States → Type 0
  StatesKept ss =
      (outer : Known) (to : List ℕ → List ℕ) (f : Frame) (e : Eqn) (names outer_names' : Standing) (locals : List Decl) (c : RightAutomaton outer to f e names outer_names' locals) (all : States) (tys : Types) (k : ℕ)
      → StatesOk all (and_defined e outer) (f.depth + 1) ss → k + count_of ss ≡ f.count → ((x : List ℕ) → states_define ss x ≡ true → is_name f.names x ≡ true)
      → ((y : List ℕ) → declares (locals_from tys f k ss) y ≡ true → names y ≡ Some []) → StatesRight outer_names' ss → AllRight names locals (eqns_of (lowered_states enums to tys f k ss))

  pub state_kept : (outer : Known) (to : List ℕ → List ℕ) (f : Frame) (e : Eqn) (names outer_names' : Standing) (locals : List Decl) (c : RightAutomaton outer to f e names outer_names' locals) (all : States) (tys : Types) (k : ℕ) → k < f.count
      → (ds : List Decl) (es : Eqns) (until unless : List Trans) → EqnsRight enums es → BlockOk (and_defined e outer) (f.depth + 1) (block ds es) → length until < most → TransitionsOk all until → length unless < most → TransitionsOk all unless
      → ((x : List ℕ) → block_defines (block ds es) x ≡ true → is_name f.names x ≡ true) → ((y : List ℕ) → declares (state_locals tys f k unless) y ≡ true → names y ≡ Some [])
      → BlockRight outer_names' (block ds es) → ConditionsOn (standing_in ds es outer_names') until → ConditionsOn outer_names' unless
      → AllRight names locals (eqns_of (state_eqns to f k unless (lowered_body enums to tys f k (block ds es) until) (idle enums tys f k)))
  state_kept outer to f e names outer_names' locals c all tys k room ds es until unless ih ok few ok_until few' ok_unless sub known h hu hs =
      let small : k < most = let most_states = c.few in omega arith in
      let cs = choices_right names outer_names' locals to f Strong k (length unless) (pending_of f) all c.conditions_same refl (λ j l. c.base (transition_word Strong f.depth k j)) 0 unless (omega arith) (omega (arith, few')) ok_unless hs
      (λ y q. known y (strong_declared y q)) in
      let low : Block = lowered_body enums to tys f k (block ds es) until in
      right_append names locals (choosing_eqns to f k unless) (state_switch f k low (idle enums tys f k) ∷ [])
      (right_append names locals (strong_eqns to f k unless) (on_word f k ∷ [])
      (right_append names locals (choices to f Strong k (length unless) (pending_of f) 0 unless) (from_eqn f k Strong (length unless) (pending_of f) ∷ []) cs.0 (
        base_right names locals f.at (state_word From f.depth k) (choose f.at (goes_to f.at (pending_of f) k) (chosen f Strong k (length unless) (pending_of f) 0) (handed f From (pending_of f) (k + 1))) (c.base (state_word From f.depth k))
            (((refl, tt), (refl, tt)), cs.1, link_on names f.at f.count (state_word From f.depth) (pending_of f) (k + 1) (λ l. (c.words (k + 1) l).0) refl),
        tt,
      ))
      (base_right names locals f.at (state_word On f.depth k) (goes_to f.at (jump_of f) k) (c.base (state_word On f.depth k)) ((c.jump_on, tt), (c.jump_on, tt)), tt)) (
        switch_right enums tys f c.renames c.undone c.deep e c.names_of c.old k small all names outer_names' locals c.base c.jump_on c.conditions_same c.further_same c.kept_base c.words ds es until ih ok few ok_until sub
            (known (state_word On f.depth k) (or_right (bytes_eq (state_word From f.depth k) (state_word On f.depth k)) _ (or_left _ _ (bytes_same (state_word On f.depth k))))) h hu,
        tt,
      )
    where
      strong_declared : (y : List ℕ) → declares (transition_locals f Strong k 0 unless) y ≡ true → declares (state_locals tys f k unless) y ≡ true
      strong_declared y q =
          or_right (bytes_eq (state_word From f.depth k) y) _ (or_right (bytes_eq (state_word On f.depth k) y) _ (or_right (bytes_eq (state_word Next f.depth k) y) _
          (declares_append (transition_locals f Strong k 0 unless) (map (value_local tys f k) f.names) y ∙ or_left _ _ q)))

  -- ---- an automaton

  pub automaton_kept : (s : Span) (ss : States) → StatesKept ss → EqnRight enums (automaton s ss)
  automaton_kept s ss ih outer d to ds ds' names names' a tys ok stands h = (
    defines_base enums a tys (automaton s ss) ok h.0,
    tt,
    (
      locals_right to inner_names locals (frame_base to tys f ss),
      (
        base_right inner_names locals f.at (word_name Jump d) (handed f From (pending_of f) 0) (base (word_name Jump d)) (link_on inner_names f.at f.count (state_word From d) (pending_of f) 0 (λ l. (words 0 l).0) refl),
        (
          base_right inner_names locals f.at (word_name Next d) (handed f Next (number f.at 0) 0) (base (word_name Next d)) (link_on inner_names f.at f.count (state_word Next d) (number f.at 0) 0 (λ l. (words 0 l).1) tt),
          right_append inner_names locals (map (joined enums to tys f) f.names) (lowered_states enums to tys f 0 ss) (all_joined f.names (λ x q. q))
              (ih outer to f (automaton s ss) inner_names names locals in_automaton ss tys 0 ok.3 (omega arith) (λ x q. names_of x ∙ q) declared_on h.1),
        ),
      ),
    ),
  )
    where
      f : Frame
      f = frame s d ss

      locals : List Decl
      locals = frame_locals tys (frame s d ss) ss

      eqns : List Eqn
      eqns = frame_eqns enums to tys (frame s d ss) ++ lowered_states enums to tys (frame s d ss) 0 ss

      inner_names : Standing
      inner_names = standing_in (frame_locals tys (frame s d ss) ss) (eqns_of (frame_eqns enums to tys (frame s d ss) ++ lowered_states enums to tys (frame s d ss) 0 ss)) names'

      names_of : (x : List ℕ) → is_name (frame s d ss).names x ≡ defines (automaton s ss) x
      names_of x = names_of_frame enums s d ss x

      old : (x : List ℕ) → is_name (frame s d ss).names x ≡ true → IsOld x
      old x q = eqn_old outer d (automaton s ss) ok x (sym (names_of x) ∙ q)

      base : (y : List ℕ) → clock_in (frame_locals tys (frame s d ss) ss) y ≡ []
      base y = base_clock to (frame_locals tys (frame s d ss) ss) (frame_base to tys (frame s d ss) ss) y

      defined_on : (y : List ℕ) → some_defines (eqns_of (frame_eqns enums to tys (frame s d ss) ++ lowered_states enums to tys (frame s d ss) 0 ss)) y ≡ true → inner_names y ≡ Some []
      defined_on y q = ap (λ t. if t then Some (clock_in (frame_locals tys (frame s d ss) ss) y) else base_alone (names' y)) q ∙ ap Some (base y)

      declared_on : (y : List ℕ) → declares (locals_from tys (frame s d ss) 0 ss) y ≡ true → inner_names y ≡ Some []
      declared_on y q = defined_on y (some_append (frame_eqns enums to tys (frame s d ss)) (lowered_states enums to tys (frame s d ss) 0 ss) y ∙ or_right (some_defines (eqns_of (frame_eqns enums to tys (frame s d ss))) y) _ (states_complete enums to tys (frame s d ss) 0 ss y q))

      words : (m : ℕ) → m < (frame s d ss).count → (inner_names (state_word From d m) ≡ Some []) × (inner_names (state_word Next d m) ≡ Some []) × ((x : List ℕ) → is_name (frame s d ss).names x ≡ true → inner_names (value_name d m x) ≡ Some [])
      words m l = (
        declared_on (state_word From d m) (declared_at tys (frame s d ss) (state_word From d) (λ k unless. or_left _ _ (bytes_same (state_word From d k))) 0 ss m (omega arith) (omega (arith, l))),
        declared_on (state_word Next d m) (declared_at tys (frame s d ss) (state_word Next d) (λ k unless. or_right (bytes_eq (state_word From d k) (state_word Next d k)) _ (or_right (bytes_eq (state_word On d k) (state_word Next d k)) _ (or_left _ _ (bytes_same (state_word Next d k))))) 0 ss m (omega arith) (omega (arith, l))),
        λ x q. declared_on (value_name d m x) (declared_at tys (frame s d ss) (λ k. value_name d k x)
            (λ k unless. or_right (bytes_eq (state_word From d k) (value_name d k x)) _ (or_right (bytes_eq (state_word On d k) (value_name d k x)) _ (or_right (bytes_eq (state_word Next d k) (value_name d k x)) _
            (declares_append (transition_locals (frame s d ss) Strong k 0 unless) (map (value_local tys (frame s d ss) k) (frame s d ss).names) (value_name d k x)
            ∙ or_right (declares (transition_locals (frame s d ss) Strong k 0 unless) (value_name d k x)) _ (values_declared tys (frame s d ss) k (frame s d ss).names (value_name d k x) ∙ map_name (value_name d k) (frame s d ss).names x q)))))
            0 ss m (omega arith) (omega (arith, l))),
      )

      not_defined : (x : List ℕ) → IsOld x → is_name (frame s d ss).names x ≡ false → some_defines (eqns_of (frame_eqns enums to tys (frame s d ss) ++ lowered_states enums to tys (frame s d ss) 0 ss)) (to x) ≡ false
      not_defined x o q =
          no_true (some_defines (eqns_of (frame_eqns enums to tys (frame s d ss) ++ lowered_states enums to tys (frame s d ss) 0 ss)) (to x))
          (λ g. true_false (defines (automaton s ss) x)
          (sym (eqn_same enums a.renames tys (automaton s ss) ok x o)
          ∙ and_not _ _ g (frame_apart tys (frame s d ss) old (to x) (λ b has p. to_apart a.renames x b d o has (omega arith) ok.0 (sym p)) ss (and_defined (automaton s ss) outer) (d + 1) ss ok.3 (omega (arith, ok.2))))
          (sym (names_of x) ∙ q))

      in_automaton : RightAutomaton outer to (frame s d ss) (automaton s ss) inner_names names (frame_locals tys (frame s d ss) ss)
      in_automaton = record {
        renames = a.renames;
        undone = a.undone;
        deep = ok.0;
        few = ok.2;
        names_of = names_of;
        old = old;
        base = base;
        jump_on = defined_on (word_name Jump d) (some_append (frame_eqns enums to tys (frame s d ss)) (lowered_states enums to tys (frame s d ss) 0 ss) (word_name Jump d) ∙ or_left _ _ (or_left _ _ (or_left _ _ (bytes_same (word_name Jump d)))));
        conditions_same = λ x o q. further_in (frame_locals tys (frame s d ss) ss) (eqns_of (frame_eqns enums to tys (frame s d ss) ++ lowered_states enums to tys (frame s d ss) 0 ss)) names' base (to x) (a.same x o ∙ ap (option_map (renamed_path to)) q);
        further_same = λ x o q. ap (λ t. base_alone (if t then Some (clock_in (frame_locals tys (frame s d ss) ss) (to x)) else base_alone (names' (to x)))) (not_defined x o q)
            ∙ base_twice (names' (to x)) ∙ ap base_alone (a.same x o) ∙ base_renamed to (names x);
        kept_base = λ x q. stands x (sym (names_of x) ∙ q) ∙ ap Some (h.0 x (sym (names_of x) ∙ q));
        words = words;
      }

      all_joined : (xs : List (List ℕ)) → ((x : List ℕ) → is_name xs x ≡ true → is_name (frame s d ss).names x ≡ true) → AllRight inner_names (frame_locals tys (frame s d ss) ss) (eqns_of (map (joined enums to tys (frame s d ss)) xs))
      all_joined [] sub = tt
      all_joined (x ∷ xs) sub =
          let mine : is_name (frame s d ss).names x ≡ true = sub x (name_first x xs x ∙ or_left (bytes_eq x x) (is_name xs x) (bytes_same x)) in (
            base_right inner_names (frame_locals tys (frame s d ss) ss) s (to x) (value_handed enums tys (frame s d ss) 0 x) (base (to x))
                (link_on inner_names s (frame s d ss).count (λ i. value_name d i x) (constant s (some_constant enums (type_of tys x))) 0 (λ l. (words 0 l).2 x mine) tt),
            all_joined xs (λ z q. sub z (name_first x xs z ∙ or_right (bytes_eq x z) (is_name xs z) q)),
          )
