-- Ranks of states in a row, and of automata.
use Rattle.std.proofs.Common.{◌≡◌, ℕ, ◌+◌, ◌*◌, ◌-◌, ◌<◌, ◌≤◌, length, Bool, true, false, ◌||◌, if◌then◌else◌, List, [], ◌∷◌, ◌++◌, map, refl, sym, ap, subst, ◌∙◌, arith}
use Rattle.std.specs.Str.{bytes_eq}
use Rattle.std.proofs.lemmas.List.{append_assoc}
use Rattle.hp_base.specs.declared.span.Span.{Span}
use Rattle.hp_base.specs.declared.ty.Const.TheVariants.{B}
use Rattle.hp_tree.specs.declared.block.Trans.{Trans}
use Rattle.hp_tree.specs.Expressions.{constant, choose}
use Rattle.hp_tree.specs.Blocks.{Decl, Block, block, Eqns, Eqn, automaton, States, more_states, eqns_of}
use Rattle.hp_tree.specs.Instant.{First, Named, Body, Equations, Head, Tail, Test, Until, Unless, Active, Next as NextPlace, States as StatesOf, Place}
use Rattle.hp_tree.specs.Meaning.{declares, defines, some_defines, block_defines, states_define, clock_in}
use Rattle.hp_meaning.specs.Causal.Sources.{none, only, both, NameSources}
use Rattle.hp_meaning.specs.Causal.WhatIsRead.{at_expr, names_in, names_within, in_block, in_equation, in_each_state, in_states, of_definition, of_definitions, of_conditions, at_conditions, strong_ones, weak_ones, has_equation}
use Rattle.hp_automata.specs.declared.new_names.Word.TheVariants.{Jump, Next, From, On, Strong}
use Rattle.hp_automata.specs.NewNames.{word_name, state_word, transition_word, value_name}
use Rattle.hp_automata.specs.Names.{is_name}
use Rattle.hp_automata.specs.Lowering.{Types, Enumerations, Frame, frame, inner, count_of, number, goes_to, jump_of, pending_of, chosen, choices, handed, value_handed, some_constant, type_of, joined, from_eqn, on_word, state_switch, idle, transition_locals, value_local, state_locals, locals_from, frame_locals, frame_eqns, lowered_eqn, lowered_states, lowered_body, choosing_eqns, strong_eqns, state_eqns}
use Rattle.law_automata.specs.Lowered.OldNames.{IsOld}
use Rattle.law_automata.specs.Lowered.Removable.{Known, and_defined, StatesOk, TransitionsOk, BlockOk, most, deepest}
use Rattle.law_automata.proofs.LoweredLemmas.Spelling.{word, of_state, of_transition}
use Rattle.law_automata.proofs.LoweredLemmas.Apart.{bytes_same}
use Rattle.law_automata.proofs.LoweredLemmas.Tests.{or_left, or_right, and_not, true_false, some_append, declares_append, name_first}
use Rattle.law_automata.proofs.LoweredLemmas.Renaming.{Renames, to_apart, inner_renames}
use Rattle.law_automata.proofs.LoweredLemmas.Lookups.{hands, eqn_old, names_of_frame, map_name, values_declared, body_sound, joined_defined}
use Rattle.law_automata.proofs.LoweredLemmas.Defined.{outward, eqn_same, frame_apart}
use Rattle.law_automata.proofs.LoweredLemmas.Around.{Undone}
use Rattle.law_automata.proofs.LoweredLemmas.BlockMaking.{base_clock}
use Rattle.law_automata.proofs.LoweredLemmas.BodySteps.{inner_undone}
use Rattle.law_automata.proofs.LoweredLemmas.StateWords.{states_complete}
use Rattle.law_automata.proofs.LoweredLemmas.Bounds.{frame_base}
use Rattle.law_automata.proofs.LoweredLemmas.Chains.{plain_link}
use Rattle.law_automata.proofs.LoweredLemmas.RightStates.{declared_at}
use Rattle.law_automata.proofs.LoweredLemmas.RankExpressions.{Below, Less}
use Rattle.law_automata.proofs.LoweredLemmas.RankBlocks.{times_up, times_next, of_block, of_row, of_body, top, turns_all, turns_states, Between, row_between, Around, Outside, EqnsRanked, EqnRanked, nothing_defined}
use Rattle.law_automata.proofs.LoweredLemmas.RankRows.{link_below, plain_falls, EachFalls, RowFalls, row_falls, behind_ranks, deep, deeper_only, deep_ranks, each_append, rows_falls}
use Rattle.law_automata.proofs.LoweredLemmas.RankBodies.{conditions_below, words_declared, choices_fall, chosen_below}
use Rattle.law_automata.proofs.LoweredLemmas.RankStates.{BodyRanks, body_ranks}
use Rattle.law_automata.proofs.LoweredLemmas.RankSwitches.{InAutomaton, Inside, T, T_new, T_joined, T_value, T_fits, active_roof, floor_below, switch_ranks, switch_fits, switch_places, switch_gives}

module _ (K D β : ℕ) (rank : Place → ℕ) (enums : Enumerations) where
  behind_between : {E : Type 0} (floor : ℕ) (xs : List E) (r : Place → ℕ) → floor ≤ top K D β rank enums → Between K D β rank enums floor r → Between K D β rank enums floor (behind_ranks (top K D β rank enums) xs r)
  behind_between floor [] r l b = record { low = λ p. b.low p; high = λ p. b.high p }
  behind_between floor (x ∷ xs) r l b =
      row_between K D β rank enums floor (λ p. top K D β rank enums) (behind_ranks (top K D β rank enums) xs r) l (record { low = λ p. l; high = λ p. omega arith }) (behind_between floor xs r l b)

  -- what is shown of the states from the number k on
  pub record StatesRanks {outer : Known} {to : List ℕ → List ℕ} {f : Frame} {e : Eqn} {names : NameSources} {c i A Nx : ℕ} {X : List ℕ → ℕ} (I : InAutomaton K D β rank outer to f e names c i A Nx X) (tys : Types) (k : ℕ) (ss : States) : Type 0 where
    pub ranks : Place → ℕ
    pub between : Between K D β rank enums (K * c + i) ranks
    pub fall : (locals : List Decl) → ((y : List ℕ) → clock_in locals y ≡ []) → (after : Place → ℕ) (w' : Place → Place) (inside : NameSources) → ((p : Place) → after (w' p) ≡ ranks p) → Inside K D β rank enums I after inside
        → ((y : List ℕ) → declares (locals_from tys f k ss) y ≡ true → (n : ℕ) → T K D β rank enums I y < n → Below after n (inside y))
        → RowFalls after (top K D β rank enums) locals inside (T K D β rank enums I) (lowered_states enums to tys f k ss) ranks (λ q. only (w' q))

  abbrev pub StatesRanked : States → Type 0
  StatesRanked ss =
      (outer : Known) (to : List ℕ → List ℕ) (f : Frame) (e : Eqn) (names : NameSources) (c i : ℕ) (active : Place) (Nx : ℕ) (X : List ℕ → ℕ) (I : InAutomaton K D β rank outer to f e names c i (rank active) Nx X) (all : States) (tys : Types) (k : ℕ)
      → StatesOk all (and_defined e outer) (f.depth + 1) ss → k + count_of ss ≡ f.count → ((x : List ℕ) → states_define ss x ≡ true → is_name f.names x ≡ true) → i + turns_states ss ≤ D
      → (w : Place → Place) → ((p : Place) → rank (w p) < β) → ((p : Place) → Below rank (rank (w p)) (in_each_state ss (only active) names (names_within e names) (λ q. only (w q)) p))
      → Below rank (rank active) (strong_ones ss (λ q. only (w q))) → Below rank Nx (weak_ones ss (λ q. only (w q)))
      → ((x : List ℕ) → is_name f.names x ≡ true → Below rank (X x) (in_states ss (λ q. only (w q)) x)) → StatesRanks I tys k ss

  module _ {outer : Known} {to : List ℕ → List ℕ} {f : Frame} {e : Eqn} {names : NameSources} {c i : ℕ} (active : Place) {Nx : ℕ} {X : List ℕ → ℕ} (I : InAutomaton K D β rank outer to f e names c i (rank active) Nx X) (all : States) (tys : Types) (k : ℕ) (room : k < f.count)
      (ds : List Decl) (es : Eqns) (until unless : List Trans) (ih : EqnsRanked K D β rank enums es) (ok : BlockOk (and_defined e outer) (f.depth + 1) (block ds es)) (ok_until : TransitionsOk all until) (few_until : length until < most) (ok_unless : TransitionsOk all unless) (few_unless : length unless < most)
      (sub : (x : List ℕ) → block_defines (block ds es) x ≡ true → is_name f.names x ≡ true) (turn : i + turns_all es ≤ D) (v : Place → Place) (roof : (p : Place) → rank (v p) < β)
      (body_falls : (p : Place) → Below rank (rank (v (Body ∷ p))) (both (only active) (in_block (block ds es) (names_within e names) (λ q. only (v (Body ∷ q))) p)))
      (until_falls : (p : Place) → Below rank (rank (v (Until ∷ p))) (both (only active) (at_conditions until (names_in es (names_within e names) (λ q. only (v (Body ∷ q)))) (λ q. only (v (Until ∷ q))) p)))
      (unless_falls : (p : Place) → Below rank (rank (v (Unless ∷ p))) (at_conditions unless names (λ q. only (v (Unless ∷ q))) p))
      (strong : Below rank (rank active) (of_conditions unless (λ q. only (v (Unless ∷ q))))) (weak : Below rank Nx (of_conditions until (λ q. only (v (Until ∷ q)))))
      (values : (x : List ℕ) → is_name f.names x ≡ true → Below rank (X x) (if block_defines (block ds es) x then only (v (Body ∷ Named x ∷ [])) else none)) where
    few : k < most
    few = let count = I.few in omega arith

    abbrev A : ℕ
    A = rank active

    abbrev Top : ℕ
    Top = top K D β rank enums

    abbrev Ranks : List ℕ → ℕ
    Ranks = T K D β rank enums I

    abbrev own : (x : List ℕ) → is_name f.names x ≡ true → and_defined e outer x ≡ true
    own x q = or_left (defines e x) (outer x) (sym (I.names_of x) ∙ q)

    renames : Renames (and_defined e outer) (f.depth + 1) (inner to f k)
    renames = inner_renames f e I.renames I.names_of I.deep k few

    outside : Outside K D β rank enums (and_defined e outer) (f.depth + 1) (inner to f k) f.names (block ds es)
    outside = record { renames = renames; undone = inner_undone f I.renames I.undone I.deep k few I.old; ok = ok; own = own; old = I.old }

    around : Around K D β rank enums (A + 1) i (turns_all es) (λ p. v (Body ∷ p))
    around = record { high = λ p. let h = (body_falls p).0 in omega arith; roof = λ p. roof (Body ∷ p); turn = turn; room = let big = I.big in omega arith }

    body_made : BodyRanks K D β rank enums tys to f k A Nx i (block ds es) until (names_within e names) (λ p. v (Body ∷ p))
    body_made =
        body_ranks K D β rank enums I.big tys f I.renames I.undone I.deep e I.names_of I.old k few A Nx i I.small I.later I.roof all ds es until few_until ok_until outside ih (names_within e names) (λ p. v (Body ∷ p)) around (λ p. (body_falls p).1)
        (conditions_below rank Nx (names_in es (names_within e names) (λ q. only (v (Body ∷ q)))) all until ok_until (λ p. v (Until ∷ p)) (λ p. (until_falls p).1) weak)

    out_is : (x : List ℕ) → is_name f.names x ≡ false → names_within e names x ≡ names x
    out_is x q = ap (λ t. if t then none else names x) (sym (I.names_of x) ∙ q)

    given : (x : List ℕ) → is_name f.names x ≡ true → has_equation (block ds es) x ≡ true → rank (v (Body ∷ Named x ∷ [])) < X x
    given x q h =
        let local : declares ds x ≡ false = outward enums renames f.at f.names ds es ok.0 own x (or_right (block_defines (block ds es) x) (is_name f.names x) q) in
        subst (λ t. Below rank (X x) (if t then only (v (Body ∷ Named x ∷ [])) else none)) (and_not (some_defines es x) (declares ds x) h local) (values x q)

    abbrev sw_ranks : Place → ℕ
    sw_ranks = switch_ranks K D β rank enums I tys k room (block ds es) until (names_within e names) (λ p. v (Body ∷ p)) body_made out_is given

    abbrev low : Block
    low = lowered_body enums to tys f k (block ds es) until

    sound : (y : List ℕ) → block_defines low y ≡ true → hands f k y ≡ true
    sound y h = body_sound enums tys f I.renames e I.names_of I.old I.deep k few (block ds es) until ok sub y h

    -- ---- the equations in front of the `switch`

    module _ (locals : List Decl) (base : (y : List ℕ) → clock_in locals y ≡ []) (after : Place → ℕ) (inside : NameSources) (N : Inside K D β rank enums I after inside)
        (known : (y : List ℕ) → declares (state_locals tys f k unless) y ≡ true → (n : ℕ) → Ranks y < n → Below after n (inside y)) where
      strong_declared : (y : List ℕ) → declares (transition_locals f Strong k 0 unless) y ≡ true → declares (state_locals tys f k unless) y ≡ true
      strong_declared y q =
          or_right (bytes_eq (state_word From f.depth k) y) _ (or_right (bytes_eq (state_word On f.depth k) y) _ (or_right (bytes_eq (state_word Next f.depth k) y) _
          (declares_append (transition_locals f Strong k 0 unless) (map (value_local tys f k) f.names) y ∙ or_left _ _ q)))

      stands : (j : ℕ) → j < length unless → (m : ℕ) → Ranks (transition_word Strong f.depth k j) < m → Below after m (inside (transition_word Strong f.depth k j))
      stands j l m g = known (transition_word Strong f.depth k j) (strong_declared (transition_word Strong f.depth k j) (words_declared f Strong k 0 j unless (omega arith) (omega (arith, l)))) m g

      ranked : (j : ℕ) → j < length unless → Ranks (transition_word Strong f.depth k j) ≡ K * A + D + 1 + (most - j)
      ranked j l = T_new K D β rank enums I (of_transition Strong k j) (few, omega (arith, few_unless))

      chain_roof : K * A + D + most + 1 ≤ Top
      chain_roof = let big = I.big in let roof = active_roof K D β rank enums I in let high : K * A ≤ K * β = times_up K A β (omega arith) in omega arith

      abbrev chain_clock : (j : ℕ) → j < most → clock_in locals (transition_word Strong f.depth k j) ≡ []
      chain_clock j l = base (transition_word Strong f.depth k j)

      strong_fall : EachFalls after Top locals inside Ranks (choices to f Strong k (length unless) (pending_of f) 0 unless)
      strong_fall =
          let small = I.small in
          choices_fall K rank after c i to names inside N.same Top locals Ranks f Strong k (length unless) (pending_of f) all (K * A + D) (λ m l. tt) tt chain_clock chain_roof ranked stands A I.active (omega arith) 0 unless (omega arith) (omega (arith, few_unless)) ok_unless
          (conditions_below rank A names all unless ok_unless (λ p. v (Unless ∷ p)) unless_falls strong)

      from_fall : EachFalls after Top locals inside Ranks (from_eqn f k Strong (length unless) (pending_of f) ∷ [])
      from_fall =
          let count = I.few in let small = I.small in
          let is : Ranks (state_word From f.depth k) ≡ K * A + (D + most + 2 + (most - k)) = T_new K D β rank enums I (of_state From k) few in (
            plain_falls after Top locals inside Ranks f.at (state_word From f.depth k) (choose f.at (goes_to f.at (pending_of f) k) (chosen f Strong k (length unless) (pending_of f) 0) (handed f From (pending_of f) (k + 1)))
                (((tt, tt), (tt, tt)), plain_link f.at (length unless) (transition_word Strong f.depth k) (pending_of f) 0 tt, plain_link f.at f.count (state_word From f.depth) (pending_of f) (k + 1) tt) (base (state_word From f.depth k))
                (T_fits K D β rank enums I (state_word From f.depth k)).1
                (λ l. (
                  ((tt, tt), (tt, tt)),
                  (
                    chosen_below K rank after c i to names inside N.same Top locals Ranks f Strong k (length unless) (pending_of f) all (K * A + D) (λ m q. tt) tt chain_clock chain_roof ranked stands A I.active (omega arith) 0 (Ranks (state_word From f.depth k)) _ (omega (arith, few_unless)) (omega arith),
                    link_below after (Ranks (state_word From f.depth k)) inside f.at f.count (state_word From f.depth) (pending_of f) (k + 1) _
                        (λ q. N.from_word (k + 1) q (Ranks (state_word From f.depth k))
                        (let its : Ranks (state_word From f.depth (k + 1)) ≡ K * A + (D + most + 2 + (most - (k + 1))) = T_new K D β rank enums I (of_state From (k + 1)) (omega arith) in omega arith)) tt,
                  ),
                )),
            tt,
          )

      on_fall : EachFalls after Top locals inside Ranks (on_word f k ∷ [])
      on_fall =
          let is : Ranks (state_word On f.depth k) ≡ K * A + (D + 2 * most + 6) = T_new K D β rank enums I (of_state On k) few in
          let its : Ranks (word_name Jump f.depth) ≡ K * A + (D + 2 * most + 5) = T_new K D β rank enums I (word Jump) tt in
          let jump = N.jump (Ranks (state_word On f.depth k)) (omega arith) in
          (plain_falls after Top locals inside Ranks f.at (state_word On f.depth k) (goes_to f.at (jump_of f) k) ((tt, tt), (tt, tt)) (base (state_word On f.depth k)) (T_fits K D β rank enums I (state_word On f.depth k)).1 (λ l. ((jump, tt), (jump, tt))), tt)

      choosing_fall : EachFalls after Top locals inside Ranks (choosing_eqns to f k unless)
      choosing_fall =
          each_append after Top locals inside Ranks (strong_eqns to f k unless) (on_word f k ∷ [])
          (each_append after Top locals inside Ranks (choices to f Strong k (length unless) (pending_of f) 0 unless) (from_eqn f k Strong (length unless) (pending_of f) ∷ []) strong_fall from_fall) on_fall

    -- ---- the state, in front of those behind it

    pub state_more : (q : List ℕ) (place : Span) (ss : States) → StatesRanks I tys (k + 1) ss → StatesRanks I tys k (more_states q (block ds es) until unless place ss)
    state_more q place ss S =
        record {
          ranks = behind_ranks Top (choosing_eqns to f k unless) (of_row sw_ranks S.ranks Top);
          between = behind_between (K * c + i) (choosing_eqns to f k unless) (of_row sw_ranks S.ranks Top) (floor_below K D β rank enums I) (row_between K D β rank enums (K * c + i) sw_ranks S.ranks (floor_below K D β rank enums I) sw_between S.between);
          fall = λ locals base after w' inside h N known. row locals base after w' inside h N (λ y q. known y (declares_append (state_locals tys f k unless) (locals_from tys f (k + 1) ss) y ∙ or_left _ _ q))
              (λ y q. known y (declares_append (state_locals tys f k unless) (locals_from tys f (k + 1) ss) y ∙ or_right (declares (state_locals tys f k unless) y) _ q));
        }
      where
        sw_between : Between K D β rank enums (K * c + i) sw_ranks
        sw_between = record {
          low = λ p. (switch_fits K D β rank enums I tys k room (block ds es) until (names_within e names) (λ p. v (Body ∷ p)) body_made out_is given p).0;
          high = λ p. (switch_fits K D β rank enums I tys k room (block ds es) until (names_within e names) (λ p. v (Body ∷ p)) body_made out_is given p).1;
        }

        row : (locals : List Decl) → ((y : List ℕ) → clock_in locals y ≡ []) → (after : Place → ℕ) (w' : Place → Place) (inside : NameSources) → ((p : Place) → after (w' p) ≡ behind_ranks Top (choosing_eqns to f k unless) (of_row sw_ranks S.ranks Top) p)
            → Inside K D β rank enums I after inside → ((y : List ℕ) → declares (state_locals tys f k unless) y ≡ true → (n : ℕ) → Ranks y < n → Below after n (inside y))
            → ((y : List ℕ) → declares (locals_from tys f (k + 1) ss) y ≡ true → (n : ℕ) → Ranks y < n → Below after n (inside y))
            → RowFalls after Top locals inside Ranks (state_eqns to f k unless low (idle enums tys f k) ++ lowered_states enums to tys f (k + 1) ss) (behind_ranks Top (choosing_eqns to f k unless) (of_row sw_ranks S.ranks Top)) (λ q. only (w' q))
        row locals base after w' inside h N known later =
            let at : (p : Place) → after (deep (choosing_eqns to f k unless) w' p) ≡ of_row sw_ranks S.ranks Top p = deep_ranks after Top (choosing_eqns to f k unless) w' (of_row sw_ranks S.ranks Top) h in
            let w2 : Place → Place = deep (choosing_eqns to f k unless) w' in
            let on_known = known (state_word On f.depth k) (or_right (bytes_eq (state_word From f.depth k) (state_word On f.depth k)) _ (or_left _ _ (bytes_same (state_word On f.depth k)))) in
            subst (λ xs. RowFalls after Top locals inside Ranks xs (behind_ranks Top (choosing_eqns to f k unless) (of_row sw_ranks S.ranks Top)) (λ q. only (w' q)))
            (sym (append_assoc (choosing_eqns to f k unless) (state_switch f k low (idle enums tys f k) ∷ []) (lowered_states enums to tys f (k + 1) ss)))
            (rows_falls after Top locals inside Ranks (choosing_eqns to f k unless) (state_switch f k low (idle enums tys f k) ∷ lowered_states enums to tys f (k + 1) ss) (of_row sw_ranks S.ranks Top) (λ q. only (w' q)) (choosing_fall locals base after inside N known)
            (subst (λ z. RowFalls after Top locals inside Ranks (state_switch f k low (idle enums tys f k) ∷ lowered_states enums to tys f (k + 1) ss) (of_row sw_ranks S.ranks Top) z) (sym (deeper_only (choosing_eqns to f k unless) w'))
            (row_falls after Top locals inside Ranks (state_switch f k low (idle enums tys f k)) (lowered_states enums to tys f (k + 1) ss) sw_ranks S.ranks (λ q. only (w2 q))
            (λ p. switch_places K D β rank enums I tys k room (block ds es) until (names_within e names) (λ p. v (Body ∷ p)) body_made out_is given locals after (λ q. w2 (Head ∷ q)) inside (λ q. at (Head ∷ q)) N on_known sound p)
            (λ y q. switch_gives K D β rank enums I tys k room (block ds es) until (names_within e names) (λ p. v (Body ∷ p)) body_made out_is given locals after (λ q. w2 (Head ∷ q)) inside (λ q. at (Head ∷ q)) N on_known sound y q)
            (S.fall locals base after (λ q. w2 (Tail ∷ q)) inside (λ q. at (Tail ∷ q)) N later))))

  -- ---- an automaton

  module _ (big : 6 * most + (2 * D + 40) ≤ K) (s : Span) (ss : States) (ih : StatesRanked ss) {outer : Known} {d : ℕ} {to : List ℕ → List ℕ} (tys : Types) (r : Renames outer d to) (un : Undone to) (names : NameSources) (c i : ℕ) (w : Place → Place) (X : List ℕ → ℕ)
      (shallow : d < deepest) (few : count_of ss < most) (ok : StatesOk ss (and_defined (automaton s ss) outer) (d + 1) ss) (sound : (x : List ℕ) → IsOld x → defines (lowered_eqn enums to tys d (automaton s ss)) (to x) ≡ defines (automaton s ss) x) (olds : (x : List ℕ) → defines (automaton s ss) x ≡ true → IsOld x)
      (a : Around K D β rank enums c i (turns_states ss) w) (ds : List Decl) (falls : (p : Place) → Below rank (rank (w p)) (in_equation ds (automaton s ss) names (λ q. only (w q)) p))
      (defs : (x : List ℕ) → defines (automaton s ss) x ≡ true → (c ≤ X x) × (X x < β) × Below rank (X x) (of_definition ds (automaton s ss) names (λ q. only (w q)) x))
      (own_rank : (x : List ℕ) → defines (automaton s ss) x ≡ true → (m : ℕ) → Below rank m (names x) → X x < m) where
    abbrev f : Frame
    f = frame s d ss

    abbrev here : Place
    here = w (Active ∷ [])

    abbrev Nx : ℕ
    Nx = rank (w (NextPlace ∷ []))

    abbrev Full : ℕ
    Full = top K D β rank enums

    names_of : (x : List ℕ) → is_name f.names x ≡ defines (automaton s ss) x
    names_of x = names_of_frame enums s d ss x

    known_before : InAutomaton K D β rank outer to f (automaton s ss) names c i (rank here) Nx X
    known_before = record {
      renames = r;
      undone = un;
      deep = shallow;
      few = few;
      names_of = names_of;
      old = λ x q. olds x (sym (names_of x) ∙ q);
      big = big;
      small = let t = a.turn in omega arith;
      active = a.high (Active ∷ []);
      later = (falls (NextPlace ∷ [])).0;
      roof = a.roof (NextPlace ∷ []);
      values = λ x q. let k = defs x (sym (names_of x) ∙ q) in (k.2.0, k.1);
    }

    abbrev Given : List ℕ → ℕ
    Given = T K D β rank enums known_before

    states : StatesRanks known_before tys 0 ss
    states =
        ih outer to f (automaton s ss) names c i here Nx X known_before ss tys 0 ok (omega arith) (λ x q. names_of x ∙ q) a.turn (λ p. w (StatesOf ∷ p)) (λ p. a.roof (StatesOf ∷ p)) (λ p. falls (StatesOf ∷ p)) (falls (Active ∷ [])) (falls (NextPlace ∷ [])).1
        (λ x q. (defs x (sym (names_of x) ∙ q)).2.1)

    abbrev front : List Eqn
    front = frame_eqns enums to tys f

    abbrev behind_front : List Eqn
    behind_front = lowered_states enums to tys f 0 ss

    abbrev locals : List Decl
    locals = frame_locals tys f ss

    base : (y : List ℕ) → clock_in locals y ≡ []
    base y = base_clock to locals (frame_base to tys f ss) y

    abbrev block_of : Place → ℕ
    block_of = of_block Given (behind_ranks Full front states.ranks) Full

    abbrev all_ranks : Place → ℕ
    all_ranks = of_body (λ p. Full) block_of Full

    abbrev floor : K * c + i ≤ Full
    floor = floor_below K D β rank enums known_before

    rows_between : Between K D β rank enums (K * c + i) (behind_ranks Full front states.ranks)
    rows_between = behind_between (K * c + i) front states.ranks floor states.between

    all_between : Between K D β rank enums (K * c + i) all_ranks
    all_between = record { low = λ p. low p; high = λ p. high p }
      where
        low : (p : Place) → K * c + i ≤ all_ranks p
        low (Body ∷ Named y ∷ []) = (T_fits K D β rank enums known_before y).0
        low (Body ∷ Equations ∷ p) = rows_between.low p
        low (Body ∷ p) = floor
        low p = floor

        high : (p : Place) → all_ranks p ≤ Full
        high (Body ∷ Named y ∷ []) = (T_fits K D β rank enums known_before y).1
        high (Body ∷ Equations ∷ p) = rows_between.high p
        high (Body ∷ p) = omega arith
        high p = omega arith

    -- ---- what stands for it, afterwards

    module _ (after : Place → ℕ) (w' : Place → Place) (names' : NameSources) (h : (p : Place) → after (w' p) ≡ all_ranks p) (same : (x : List ℕ) → IsOld x → Less K rank after c i (names x) (names' (to x))) where
      abbrev outside_names : NameSources
      outside_names = names_within (lowered_eqn enums to tys d (automaton s ss)) names'

      abbrev inside : NameSources
      inside = names_in (eqns_of (front ++ behind_front)) outside_names (λ q. only (w' (Body ∷ q)))

      read_below : (y : List ℕ) → some_defines (eqns_of (front ++ behind_front)) y ≡ true → (n : ℕ) → Given y < n → Below after n (inside y)
      read_below y q n l =
          subst (λ t. Below after n (if t then only (w' (Body ∷ Named y ∷ [])) else outside_names y)) (sym q)
          (let is : after (w' (Body ∷ Named y ∷ [])) ≡ Given y = h (Body ∷ Named y ∷ []) in omega arith)

      front_defines : (y : List ℕ) → some_defines (eqns_of front) y ≡ true → some_defines (eqns_of (front ++ behind_front)) y ≡ true
      front_defines y q = some_append front behind_front y ∙ or_left _ _ q

      declared_below : (y : List ℕ) → declares (locals_from tys f 0 ss) y ≡ true → (n : ℕ) → Given y < n → Below after n (inside y)
      declared_below y q n l = read_below y (some_append front behind_front y ∙ or_right (some_defines (eqns_of front) y) _ (states_complete enums to tys f 0 ss y q)) n l

      joined_defines : (x : List ℕ) → is_name f.names x ≡ true → some_defines (eqns_of (front ++ behind_front)) (to x) ≡ true
      joined_defines x q =
          front_defines (to x) (or_right (bytes_eq (word_name Jump d) (to x) || false) _ (or_right (bytes_eq (word_name Next d) (to x) || false) _ (joined_defined enums to tys f f.names (to x) ∙ map_name to f.names x q)))

      others_not : (x : List ℕ) → IsOld x → is_name f.names x ≡ false → some_defines (eqns_of (front ++ behind_front)) (to x) ≡ false
      others_not x o q = by (some_defines (eqns_of (front ++ behind_front)) (to x)) refl
        where
          by : (t : Bool) → some_defines (eqns_of (front ++ behind_front)) (to x) ≡ t → t ≡ false
          by true g =
              absurd (true_false (defines (automaton s ss) x)
              (sym (sound x o) ∙ and_not _ _ g (frame_apart tys f known_before.old (to x) (λ b has p. to_apart r x b d o has (omega arith) shallow (sym p)) ss (and_defined (automaton s ss) outer) (d + 1) ss ok (omega (arith, few))))
              (sym (names_of x) ∙ q))
          by false g = refl

      inside_less : (x : List ℕ) → IsOld x → Less K rank after c i (names x) (inside (to x))
      inside_less x o = by (is_name f.names x) refl
        where
          by : (t : Bool) → is_name f.names x ≡ t → Less K rank after c i (names x) (inside (to x))
          by true q = λ m l g.
              read_below (to x) (joined_defines x q) (K * m + i + 1)
              (let is : Given (to x) ≡ K * X x + (D + 2 * most + 30) = T_joined K D β rank enums known_before x q in
              let less : X x < m = own_rank x (sym (names_of x) ∙ q) m g in
              let up : K * (X x + 1) ≤ K * m = times_up K (X x + 1) m (omega arith) in
              let next : K * (X x + 1) ≡ K * X x + K = times_next K (X x) in omega arith)
          by false q =
              subst (λ t. Less K rank after c i (names x) (if t then only (w' (Body ∷ Named (to x) ∷ [])) else outside_names (to x))) (sym (others_not x o q))
              (subst (λ t. Less K rank after c i (names x) (if t then none else names' (to x))) (sym (sound x o ∙ sym (names_of x) ∙ q)) (same x o))

      word_below : (named : ℕ → List ℕ) → ((k : ℕ) (unless : List Trans) → declares (state_locals tys f k unless) (named k) ≡ true) → (m : ℕ) → m < f.count → (n : ℕ) → Given (named m) < n → Below after n (inside (named m))
      word_below named g m l n q = declared_below (named m) (declared_at tys f named g 0 ss m (omega arith) (omega (arith, l))) n q

      read_inside : Inside K D β rank enums known_before after inside
      read_inside = record {
        same = inside_less;
        jump = λ n l. read_below (word_name Jump d) (front_defines (word_name Jump d) (or_left _ _ (or_left _ _ (bytes_same (word_name Jump d))))) n l;
        from_word = λ m l n q. word_below (state_word From d) (λ k unless. or_left _ _ (bytes_same (state_word From d k))) m l n q;
        next_word = λ m l n q. word_below (state_word Next d) (λ k unless. or_right (bytes_eq (state_word From d k) (state_word Next d k)) _ (or_right (bytes_eq (state_word On d k) (state_word Next d k)) _ (or_left _ _ (bytes_same (state_word Next d k))))) m l n q;
        value_word = λ m l x g n q. word_below (λ k. value_name d k x)
            (λ k unless. or_right (bytes_eq (state_word From d k) (value_name d k x)) _ (or_right (bytes_eq (state_word On d k) (value_name d k x)) _ (or_right (bytes_eq (state_word Next d k) (value_name d k x)) _
            (declares_append (transition_locals f Strong k 0 unless) (map (value_local tys f k) f.names) (value_name d k x)
            ∙ or_right (declares (transition_locals f Strong k 0 unless) (value_name d k x)) _ (values_declared tys f k f.names (value_name d k x) ∙ map_name (value_name d k) f.names x g))))) m l n q;
      }

      front_falls : EachFalls after Full locals inside Given front
      front_falls = (
        plain_falls after Full locals inside Given s (word_name Jump d) (handed f From (pending_of f) 0) (plain_link s f.count (state_word From d) (pending_of f) 0 tt) (base (word_name Jump d)) (T_fits K D β rank enums known_before (word_name Jump d)).1
            (λ l. link_below after (Given (word_name Jump d)) inside s f.count (state_word From d) (pending_of f) 0 l
            (λ q. read_inside.from_word 0 q (Given (word_name Jump d))
            (let is : Given (word_name Jump d) ≡ K * rank here + (D + 2 * most + 5) = T_new K D β rank enums known_before (word Jump) tt in
            let its : Given (state_word From d 0) ≡ K * rank here + (D + most + 2 + (most - 0)) = T_new K D β rank enums known_before (of_state From 0) (omega arith) in omega arith)) tt),
        (
          plain_falls after Full locals inside Given s (word_name Next d) (handed f Next (number s 0) 0) (plain_link s f.count (state_word Next d) (number s 0) 0 tt) (base (word_name Next d)) (T_fits K D β rank enums known_before (word_name Next d)).1
              (λ l. link_below after (Given (word_name Next d)) inside s f.count (state_word Next d) (number s 0) 0 l
              (λ q. read_inside.next_word 0 q (Given (word_name Next d))
              (let is : Given (word_name Next d) ≡ K * Nx + (D + 5 * most + 30) = T_new K D β rank enums known_before (word Next) tt in
              let its : Given (state_word Next d 0) ≡ K * Nx + (D + 2 * most + 10 + 2 * (most - 0)) = T_new K D β rank enums known_before (of_state Next 0) (omega arith) in omega arith)) tt),
          all_joined f.names (λ x q. q),
        ),
      )
        where
          all_joined : (xs : List (List ℕ)) → ((x : List ℕ) → is_name xs x ≡ true → is_name f.names x ≡ true) → EachFalls after Full locals inside Given (map (joined enums to tys f) xs)
          all_joined [] into = tt
          all_joined (x ∷ xs) into =
              let mine : is_name f.names x ≡ true = into x (name_first x xs x ∙ or_left (bytes_eq x x) (is_name xs x) (bytes_same x)) in (
                plain_falls after Full locals inside Given s (to x) (value_handed enums tys f 0 x) (plain_link s f.count (λ m. value_name d m x) (constant s (some_constant enums (type_of tys x))) 0 tt) (base (to x)) (T_fits K D β rank enums known_before (to x)).1
                    (λ l. link_below after (Given (to x)) inside s f.count (λ m. value_name d m x) (constant s (some_constant enums (type_of tys x))) 0 l
                    (λ q. read_inside.value_word 0 q x mine (Given (to x))
                    (let is : Given (to x) ≡ K * X x + (D + 2 * most + 30) = T_joined K D β rank enums known_before x mine in
                    let its : Given (value_name d 0 x) ≡ K * X x + (D + 10 + 2 * (most - 0)) = T_value K D β rank enums known_before 0 (omega arith) x mine in omega arith)) tt),
                all_joined xs (λ z q. into z (name_first x xs z ∙ or_right (bytes_eq x z) (is_name xs z) q)),
              )

      abbrev way : Place → Place
      way q = w' (Body ∷ Equations ∷ q)

      rows : RowFalls after Full locals inside Given (front ++ behind_front) (behind_ranks Full front states.ranks) (λ q. only (way q))
      rows =
          rows_falls after Full locals inside Given front behind_front states.ranks (λ q. only (way q)) front_falls
          (subst (λ z. RowFalls after Full locals inside Given behind_front states.ranks z) (sym (deeper_only front way))
          (states.fall locals base after (deep front way) inside (deep_ranks after Full front way states.ranks (λ p. h (Body ∷ Equations ∷ p))) read_inside declared_below))

      definition_by : (y : List ℕ) (t : Bool) → some_defines (eqns_of (front ++ behind_front)) y ≡ t → Below after (Given y) (of_definitions locals (eqns_of (front ++ behind_front)) inside (λ q. only (way q)) y)
      definition_by y true q = rows.1 y q
      definition_by y false q = nothing_defined after (Given y) locals (eqns_of (front ++ behind_front)) inside (λ q. only (way q)) y q

      block_places : (p : Place) → Below after (block_of p) (in_block (block locals (eqns_of (front ++ behind_front))) outside_names (λ q. only (w' (Body ∷ q))) p)
      block_places (Named y ∷ []) = definition_by y (some_defines (eqns_of (front ++ behind_front)) y) refl
      block_places (Equations ∷ p) = rows.0 p
      block_places p = tt

      automaton_places : (ds' : List Decl) (p : Place) → Below after (all_ranks p) (in_equation ds' (lowered_eqn enums to tys d (automaton s ss)) names' (λ q. only (w' q)) p)
      automaton_places ds' (Test ∷ []) = tt
      automaton_places ds' (Test ∷ p) = nothing_there p
        where
          nothing_there : (p : Place) → Below after Full (at_expr (constant s (B false)) [] names' (λ q. only (w' (Test ∷ q))) p)
          nothing_there [] = tt
          nothing_there (First ∷ p) = tt
          nothing_there p = tt
      automaton_places ds' (Body ∷ p) = (tt, block_places p)
      automaton_places ds' p = tt

      automaton_gives : (ds' : List Decl) (x : List ℕ) → defines (automaton s ss) x ≡ true → Below after (K * X x + K) (of_definition ds' (lowered_eqn enums to tys d (automaton s ss)) names' (λ q. only (w' q)) (to x))
      automaton_gives ds' x q = (
        tt,
        (let at : after (w' (Body ∷ Named (to x) ∷ [])) ≡ Given (to x) = h (Body ∷ Named (to x) ∷ []) in
            let is : Given (to x) ≡ K * X x + (D + 2 * most + 30) = T_joined K D β rank enums known_before x (names_of x ∙ q) in omega arith),
      )

  pub automaton_ranked : 6 * most + (2 * D + 40) ≤ K → (s : Span) (ss : States) → StatesRanked ss → EqnRanked K D β rank enums (automaton s ss)
  automaton_ranked big s ss ih outer d to ds ds' tys r un clocks names c i w X ok a falls defs own_rank =
      let sound = eqn_same enums r tys (automaton s ss) ok in
      let olds = eqn_old outer d (automaton s ss) ok in
      record {
        ranks = all_ranks big s ss ih tys r un names c i w X ok.0 ok.2 ok.3 sound olds a ds falls defs own_rank;
        between = all_between big s ss ih tys r un names c i w X ok.0 ok.2 ok.3 sound olds a ds falls defs own_rank;
        fall = λ after w' names' h same. (
          (λ p. automaton_places big s ss ih tys r un names c i w X ok.0 ok.2 ok.3 sound olds a ds falls defs own_rank after w' names' h same ds' p),
          (λ x o q. automaton_gives big s ss ih tys r un names c i w X ok.0 ok.2 ok.3 sound olds a ds falls defs own_rank after w' names' h same ds' x q),
        );
      }
