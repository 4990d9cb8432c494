-- Ranks of states, and of automata.
use Rattle.std.proofs.Common.{◌≡◌, ℕ, ◌+◌, ◌*◌, ◌-◌, ◌<◌, ◌≤◌, length, Bool, true, false, not, ◌&&◌, ◌||◌, if◌then◌else◌, List, [], ◌∷◌, ◌++◌, Some, refl, sym, ap, subst, ◌∙◌, arith}
use Rattle.std.specs.Str.{bytes_eq}
use Rattle.hp_tree.specs.declared.block.Trans.{Trans}
use Rattle.hp_tree.specs.Blocks.{Decl, Block, block, Eqns, Eqn, States, eqns_of}
use Rattle.hp_tree.specs.Instant.{Named, Equations, Head, Tail, Place}
use Rattle.hp_tree.specs.Meaning.{defines, some_defines, block_defines, clock_in, declares}
use Rattle.hp_meaning.specs.Causal.Sources.{only, NameSources}
use Rattle.hp_meaning.specs.Causal.WhatIsRead.{names_in, in_block, of_definitions, has_equation}
use Rattle.hp_automata.specs.declared.new_names.Word.TheVariants.{Next, Weak}
use Rattle.hp_automata.specs.NewNames.{letters, state_word, transition_word, value_name}
use Rattle.hp_tables.specs.Defining.Names.{outer_names}
use Rattle.hp_automata.specs.Names.{is_name, missing}
use Rattle.hp_automata.specs.Renaming.{renamed_decls}
use Rattle.hp_automata.specs.Lowering.{Types, Enumerations, declaring, Frame, inner, chosen, choices, stays, own_next, weak_eqns, all_kept, transition_locals, lowered_eqns, lowered_body}
use Rattle.law_automata.specs.Lowered.OldNames.{IsOld}
use Rattle.law_automata.specs.Lowered.Removable.{Known, and_defined, TransitionsOk, most, deepest}
use Rattle.law_automata.proofs.LoweredLemmas.Spelling.{New, word, of_state, of_transition, value, spell, HasRoom}
use Rattle.law_automata.proofs.LoweredLemmas.Apart.{bytes_same, bytes_differ}
use Rattle.law_automata.proofs.LoweredLemmas.Tests.{or_left, or_none, some_append}
use Rattle.law_automata.proofs.LoweredLemmas.Renaming.{Renames}
use Rattle.law_automata.proofs.LoweredLemmas.Lookups.{with_names, choices_declared, transitions_apart}
use Rattle.law_automata.proofs.LoweredLemmas.Around.{Undone}
use Rattle.law_automata.proofs.LoweredLemmas.BlockMaking.{ClocksSame, clock_kept, clock_old, base_clock}
use Rattle.law_automata.proofs.LoweredLemmas.BodySteps.{inner_apart, choices_base, clock_behind}
use Rattle.law_automata.proofs.LoweredLemmas.RightBlocks.{RightAround, made_defines, left_base}
use Rattle.law_automata.proofs.LoweredLemmas.Decoding.{decode, decode_spell, letters_in, letters_spell, to_letters}
use Rattle.law_automata.proofs.LoweredLemmas.RankExpressions.{Below, Less}
use Rattle.law_automata.proofs.LoweredLemmas.RankBlocks.{times_up, times_next, of_block, top, turns_all, Around, Outside, EqnsRanked, RowRanks, row_kept, floor_top, nothing_defined}
use Rattle.law_automata.proofs.LoweredLemmas.RankRows.{plain_falls, EachFalls, RowFalls, behind_ranks, deep, deeper_only, deep_ranks, each_append, rows_falls}
use Rattle.law_automata.proofs.LoweredLemmas.RankBodies.{CondsBelow, words_declared, choices_fall, chosen_below}

-- what is shown of the body of a state of an automaton whose words have the ranks A and Nx before
pub record BodyRanks (K D β : ℕ) (rank : Place → ℕ) (enums : Enumerations) (tys : Types) (to : List ℕ → List ℕ) (f : Frame) (k A Nx i : ℕ) (b : Block) (until : List Trans) (out : NameSources) (w : Place → Place) : Type 0 where
  pub ranks : Place → ℕ
  pub low : (p : Place) → K * (A + 1) ≤ ranks p
  pub high : (p : Place) → ranks p ≤ top K D β rank enums
  pub next : ranks (Named (state_word Next f.depth k) ∷ []) ≡ K * Nx + (D + most + 3)
  pub values : (x : List ℕ) → is_name f.names x ≡ true → IsOld x → ranks (Named (value_name f.depth k x) ∷ []) ≡ (if has_equation b x then K * rank (w (Named x ∷ [])) + K else K * (A + 1) + i)
  pub fall : (after : Place → ℕ) (w' : Place → Place) (out' : NameSources) → ((p : Place) → after (w' p) ≡ ranks p) → ((x : List ℕ) → IsOld x → with_names f.names b x ≡ false → Less K rank after (A + 1) i (out x) (out' (inner to f k x)))
      → (p : Place) → Below after (ranks p) (in_block (lowered_body enums to tys f k b until) out' (λ q. only (w' q)) p)

module _ (K D β : ℕ) (rank : Place → ℕ) (enums : Enumerations) (big : 6 * most + (2 * D + 40) ≤ K) (tys : Types) {outer : Known} {to : List ℕ → List ℕ} (f : Frame) (r : Renames outer f.depth to) (un : Undone to) (deep_enough : f.depth < deepest) (e : Eqn)
    (names_of : (x : List ℕ) → is_name f.names x ≡ defines e x) (old : (x : List ℕ) → is_name f.names x ≡ true → IsOld x) (k : ℕ) (room : k < most) (A Nx i : ℕ) (small : i ≤ D) (next_later : A < Nx) (next_roof : Nx < β) where
  abbrev into : List ℕ → List ℕ
  into = inner to f k

  abbrev Top : ℕ
  Top = top K D β rank enums

  -- the ranks of the words in the body of a state
  abbrev body_word : (List ℕ → ℕ) → New → ℕ
  body_word named (word w) = Top
  body_word named (of_state w m) = K * Nx + (D + most + 3)
  body_word named (of_transition w m j) = K * Nx + (D + 1 + (most - j))
  body_word named (value m x) = named x

  module _ (all : States) (ds : List Decl) (es : Eqns) (until : List Trans) (few : length until < most) (transitions : TransitionsOk all until) (o : Outside K D β rank enums (and_defined e outer) (f.depth + 1) (inner to f k) f.names (block ds es)) (ih : EqnsRanked K D β rank enums es)
      (out : NameSources) (w : Place → Place) (a : Around K D β rank enums (A + 1) i (turns_all es) w) (falls : (p : Place) → Below rank (rank (w p)) (in_block (block ds es) out (λ q. only (w q)) p)) (conditions : CondsBelow rank Nx (names_in es out (λ q. only (w q))) until) where
    abbrev X : List ℕ → ℕ
    X x = rank (w (Named x ∷ []))

    abbrev own_rank : List ℕ → ℕ
    own_rank x = if some_defines es x then K * X x + K else K * (A + 1) + i

    abbrev T : List ℕ → ℕ
    T y = if bytes_eq (letters_in y) (letters f.depth) then body_word own_rank (decode y) else own_rank (o.undone.back y)

    T_new : (b : New) → HasRoom b → T (spell f.depth b) ≡ body_word own_rank b
    T_new b h =
        ap (λ t. if t then body_word own_rank (decode (spell f.depth b)) else own_rank (o.undone.back (spell f.depth b)))
        (ap (λ l. bytes_eq l (letters f.depth)) (letters_spell f.depth b h) ∙ bytes_same (letters f.depth))
        ∙ ap (body_word own_rank) (decode_spell f.depth b h)

    T_name : (x : List ℕ) → IsOld x → T (into x) ≡ own_rank x
    T_name x p = by (is_name f.names x) refl
      where
        by : (t : Bool) → is_name f.names x ≡ t → T (into x) ≡ own_rank x
        by true q = ap T (ap (λ t. if t then value_name f.depth k x else to x) q) ∙ T_new (value k x) (room, p)
        by false q =
            let is : into x ≡ to x = ap (λ t. if t then value_name f.depth k x else to x) q in
            ap (λ t. if t then body_word own_rank (decode (into x)) else own_rank (o.undone.back (into x))) (ap (λ z. bytes_eq (letters_in z) (letters f.depth)) is ∙ to_letters r deep_enough x p)
            ∙ ap own_rank (o.undone.back_to x p)

    own_between : (x : List ℕ) → (K * (A + 1) + i ≤ own_rank x) × (own_rank x ≤ Top)
    own_between x = by (some_defines es x) (X x) (a.high (Named x ∷ [])) (a.roof (Named x ∷ []))
      where
        by : (t : Bool) (n : ℕ) → A + 1 ≤ n → n < β → (K * (A + 1) + i ≤ (if t then K * n + K else K * (A + 1) + i)) × ((if t then K * n + K else K * (A + 1) + i) ≤ Top)
        by true n h g =
            let up : K * (A + 1) ≤ K * n = times_up K (A + 1) n h in
            let roof : K * n ≤ K * β = times_up K n β (omega arith) in (omega arith, omega arith)
        by false n h g = (omega arith, floor_top K D β rank enums a)

    word_between : (b : New) → (K * (A + 1) + i ≤ body_word own_rank b) × (body_word own_rank b ≤ Top)
    word_between (word v) = (floor_top K D β rank enums a, omega arith)
    word_between (of_state v m) =
        let low : K * (A + 1) ≤ K * Nx = times_up K (A + 1) Nx (omega arith) in let high : K * Nx ≤ K * β = times_up K Nx β (omega arith) in (omega arith, omega arith)
    word_between (of_transition v m j) =
        let low : K * (A + 1) ≤ K * Nx = times_up K (A + 1) Nx (omega arith) in let high : K * Nx ≤ K * β = times_up K Nx β (omega arith) in (omega arith, omega arith)
    word_between (value m x) = own_between x

    T_between : (y : List ℕ) → (K * (A + 1) + i ≤ T y) × (T y ≤ Top)
    T_between y = by (bytes_eq (letters_in y) (letters f.depth))
      where
        by : (t : Bool) → (K * (A + 1) + i ≤ (if t then body_word own_rank (decode y) else own_rank (o.undone.back y))) × ((if t then body_word own_rank (decode y) else own_rank (o.undone.back y)) ≤ Top)
        by true = word_between (decode y)
        by false = own_between (o.undone.back y)

    abbrev decls' : List Decl
    decls' = renamed_decls into ds ++ transition_locals f Weak k 0 until

    abbrev front : List Eqn
    front = weak_eqns into f k until

    around : RightAround (and_defined e outer) (f.depth + 1) into f.names (block ds es) (λ x. Some []) (λ x. Some [])
    around = record { renames = o.renames; undone = o.undone; ok = o.ok; own = o.own; old = o.old; out_same = λ x p h. refl; kept_base = λ x h. refl }

    abbrev own_eqns : List Eqn
    own_eqns = lowered_eqns enums into (declaring tys ds) (f.depth + 1) es ++ all_kept into f.at f.names (block ds es)

    abbrev inner_names : NameSources
    inner_names = names_in es out (λ q. only (w q))

    clocks : ClocksSame into ds decls'
    clocks = record { same = λ y p. clock_kept into o.renames es ds (transition_locals f Weak k 0 until) o.ok.0 (choices_base f k 0 until) y p; old = clock_old into (and_defined e outer) es ds o.ok.0 }

    new_clock : (b : New) → HasRoom b → clock_in decls' (spell f.depth b) ≡ []
    new_clock b has =
        clock_behind (renamed_decls into ds) (transition_locals f Weak k 0 until) (spell f.depth b)
        (Rattle.law_automata.proofs.LoweredLemmas.Renaming.declares_renamed into ds (spell f.depth b) ∙ Rattle.law_automata.proofs.LoweredLemmas.Renaming.new_not_local o.renames es ds o.ok.0 f.depth b has)
        ∙ base_clock into (transition_locals f Weak k 0 until) (choices_base f k 0 until) (spell f.depth b)

    inner_around : Around K D β rank enums (A + 1) i (turns_all es) (λ p. w (Equations ∷ p))
    inner_around = record { high = λ p. a.high (Equations ∷ p); roof = λ p. a.roof (Equations ∷ p); turn = a.turn; room = a.room }

    own_by : (x : List ℕ) (t : Bool) → some_defines es x ≡ t → own_rank x ≡ (if t then K * X x + K else K * (A + 1) + i)
    own_by x t q = ap (λ b. if b then K * X x + K else K * (A + 1) + i) q

    row : RowRanks K D β rank enums into decls' own_eqns inner_names (A + 1) i T
    row =
        ih (and_defined e outer) (f.depth + 1) into ds decls' (declaring tys ds) o.renames o.undone clocks inner_names (A + 1) i (λ p. w (Equations ∷ p)) X T (all_kept into f.at f.names (block ds es)) o.ok.1 inner_around (λ p. falls (Equations ∷ p))
        (λ x h. (a.high (Named x ∷ []), a.roof (Named x ∷ []), falls (Named x ∷ []))) (λ x h m g. subst (λ t. Below rank m (if t then only (w (Named x ∷ [])) else out x)) h g) (λ x p h. T_name x p ∙ own_by x true h)
        (row_kept K D β rank enums into decls' inner_names (A + 1) i T (floor_top K D β rank enums a) f.at (missing (is_name (outer_names (block ds es))) f.names) (left_base enums tys f.at around decls' clocks))

    transition_not : (i : ℕ) (y : List ℕ) → value k y ≡ of_transition Weak k i → ⊥
    transition_not i y p = absurd cc

    not_front : (x : List ℕ) → IsOld x → some_defines (eqns_of front) (into x) ≡ false
    not_front x p =
        some_append (choices into f Weak k (length until) (stays f k) 0 until) (own_next f k Weak (length until) (stays f k) ∷ []) (into x)
        ∙ or_none _ _ (choices_declared into f Weak k (length until) (stays f k) 0 until (into x)
        ∙ transitions_apart f Weak k 0 until (into x) (omega (arith, few)) (λ i l s. inner_apart f r un deep_enough k room old x p (of_transition Weak k i) (room, l) (transition_not i) (sym s)))
        (or_none _ _ (or_none _ _ (bytes_differ (state_word Next f.depth k) (into x) (λ s. inner_apart f r un deep_enough k room old x p (of_state Next k) room (λ y q. absurd cc) (sym s))) refl) refl)

    all_defined : (x : List ℕ) → IsOld x → some_defines (eqns_of (front ++ own_eqns)) (into x) ≡ (some_defines es x || is_name f.names x)
    all_defined x p = some_append front own_eqns (into x) ∙ ap (λ t. t || some_defines (eqns_of own_eqns) (into x)) (not_front x p) ∙ made_defines enums tys f.at around x p

    abbrev ranks : Place → ℕ
    ranks = of_block T (behind_ranks Top front row.ranks) Top

    module _ (after : Place → ℕ) (w' : Place → Place) (out' : NameSources) (h : (p : Place) → after (w' p) ≡ ranks p) (less : (x : List ℕ) → IsOld x → with_names f.names (block ds es) x ≡ false → Less K rank after (A + 1) i (out x) (out' (into x))) where
      abbrev inside : NameSources
      inside = names_in (eqns_of (front ++ own_eqns)) out' (λ q. only (w' q))

      less_inside : (x : List ℕ) → IsOld x → Less K rank after (A + 1) i (inner_names x) (inside (into x))
      less_inside x p =
          subst (λ t. Less K rank after (A + 1) i (inner_names x) (if t then only (w' (Named (into x) ∷ [])) else out' (into x))) (sym (all_defined x p)) (by (some_defines es x) (is_name f.names x) refl refl)
        where
          by : (t q : Bool) → some_defines es x ≡ t → is_name f.names x ≡ q → Less K rank after (A + 1) i (if t then only (w (Named x ∷ [])) else out x) (if (t || q) then only (w' (Named (into x) ∷ [])) else out' (into x))
          by true q g n m l z =
              let is : after (w' (Named (into x) ∷ [])) ≡ K * X x + K = h (Named (into x) ∷ []) ∙ T_name x p ∙ own_by x true g in
              let up : K * (X x + 1) ≤ K * m = times_up K (X x + 1) m (omega arith) in
              let next : K * (X x + 1) ≡ K * X x + K = times_next K (X x) in omega arith
          by false true g n m l z =
              let is : after (w' (Named (into x) ∷ [])) ≡ K * (A + 1) + i = h (Named (into x) ∷ []) ∙ T_name x p ∙ own_by x false g in
              let up : K * (A + 1) ≤ K * m = times_up K (A + 1) m l in omega arith
          by false false g n m l z = less x p (or_none (block_defines (block ds es) x) (is_name f.names x) (ap (λ t. t && not (declares ds x)) g) n) m l z

      choice_stands : (j : ℕ) → j < length until → (m : ℕ) → T (transition_word Weak f.depth k j) < m → Below after m (inside (transition_word Weak f.depth k j))
      choice_stands j l m g =
          subst (λ t. Below after m (if t then only (w' (Named (transition_word Weak f.depth k j) ∷ [])) else out' (transition_word Weak f.depth k j))) (sym defined)
          (let is : after (w' (Named (transition_word Weak f.depth k j) ∷ [])) ≡ T (transition_word Weak f.depth k j) = h (Named (transition_word Weak f.depth k j) ∷ []) in omega arith)
        where
          defined : some_defines (eqns_of (front ++ own_eqns)) (transition_word Weak f.depth k j) ≡ true
          defined =
              some_append front own_eqns (transition_word Weak f.depth k j)
              ∙ or_left _ _ (some_append (choices into f Weak k (length until) (stays f k) 0 until) (own_next f k Weak (length until) (stays f k) ∷ []) (transition_word Weak f.depth k j)
              ∙ or_left _ _ (choices_declared into f Weak k (length until) (stays f k) 0 until (transition_word Weak f.depth k j) ∙ words_declared f Weak k 0 j until (omega arith) (omega (arith, l))))

      base : ℕ
      base = K * Nx + D

      front_falls : EachFalls after Top decls' inside T front
      unfolding base
      front_falls =
          let roof : K * Nx ≤ K * β = times_up K Nx β (omega arith) in
          each_append after Top decls' inside T (choices into f Weak k (length until) (stays f k) 0 until) (own_next f k Weak (length until) (stays f k) ∷ [])
          (choices_fall K rank after (A + 1) i into inner_names inside less_inside Top decls' T f Weak k (length until) (stays f k) all (K * Nx + D) (λ m l. tt) tt (λ j l. new_clock (of_transition Weak k j) (room, l)) (omega arith)
          (λ j l. T_new (of_transition Weak k j) (room, omega (arith, few)) ∙ omega arith) choice_stands Nx (omega arith) (omega arith) 0 until (omega arith) (omega (arith, few)) transitions conditions) (
            let is : T (state_word Next f.depth k) ≡ K * Nx + (D + most + 3) = T_new (of_state Next k) room in
                plain_falls after Top decls' inside T f.at (state_word Next f.depth k) (chosen f Weak k (length until) (stays f k) 0) (Rattle.law_automata.proofs.LoweredLemmas.Chains.plain_link f.at (length until) (transition_word Weak f.depth k) (stays f k) 0 tt)
                (new_clock (of_state Next k) room) (omega arith)
                (λ l. chosen_below K rank after (A + 1) i into inner_names inside less_inside Top decls' T f Weak k (length until) (stays f k) all (K * Nx + D) (λ m q. tt) tt (λ j q. new_clock (of_transition Weak k j) (room, q)) (omega arith)
                (λ j q. T_new (of_transition Weak k j) (room, omega (arith, few)) ∙ omega arith) choice_stands Nx (omega arith) (omega arith) 0 (T (state_word Next f.depth k)) l (omega (arith, few)) (omega arith)),
            tt,
          )

      rows : RowFalls after Top decls' inside T (front ++ own_eqns) (behind_ranks Top front row.ranks) (λ q. only (w' (Equations ∷ q)))
      rows =
          rows_falls after Top decls' inside T front own_eqns row.ranks (λ q. only (w' (Equations ∷ q))) front_falls
          (subst (λ z. RowFalls after Top decls' inside T own_eqns row.ranks z) (sym (deeper_only front (λ q. w' (Equations ∷ q))))
          (row.fall after (deep front (λ q. w' (Equations ∷ q))) inside (deep_ranks after Top front (λ q. w' (Equations ∷ q)) row.ranks (λ p. h (Equations ∷ p))) less_inside))

      definition_by : (y : List ℕ) (t : Bool) → some_defines (eqns_of (front ++ own_eqns)) y ≡ t → Below after (T y) (of_definitions decls' (eqns_of (front ++ own_eqns)) inside (λ q. only (w' (Equations ∷ q))) y)
      definition_by y true q = rows.1 y q
      definition_by y false q = nothing_defined after (T y) decls' (eqns_of (front ++ own_eqns)) inside (λ q. only (w' (Equations ∷ q))) y q

      body_places : (p : Place) → Below after (ranks p) (in_block (lowered_body enums to tys f k (block ds es) until) out' (λ q. only (w' q)) p)
      body_places (Named y ∷ []) = definition_by y (some_defines (eqns_of (front ++ own_eqns)) y) refl
      body_places (Equations ∷ p) = rows.0 p
      body_places p = tt

    pub body_ranks : BodyRanks K D β rank enums tys to f k A Nx i (block ds es) until out w
    body_ranks = record {
      ranks = ranks;
      low = λ p. ranks_low p;
      high = λ p. ranks_high p;
      next = T_new (of_state Next k) room;
      values = λ x q p. ap T (sym (ap (λ t. if t then value_name f.depth k x else to x) q)) ∙ T_name x p;
      fall = λ after w' out' h less p. body_places after w' out' h less p;
    }
      where
        row_low : (xs : List Eqn) (p : Place) → K * (A + 1) + i ≤ behind_ranks Top xs row.ranks p
        row_low [] p = row.between.low p
        row_low (x ∷ xs) (Head ∷ p) = floor_top K D β rank enums a
        row_low (x ∷ xs) (Tail ∷ p) = row_low xs p
        row_low (x ∷ xs) p = floor_top K D β rank enums a

        row_high : (xs : List Eqn) (p : Place) → behind_ranks Top xs row.ranks p ≤ Top
        row_high [] p = row.between.high p
        row_high (x ∷ xs) (Head ∷ p) = omega arith
        row_high (x ∷ xs) (Tail ∷ p) = row_high xs p
        row_high (x ∷ xs) p = omega arith

        ranks_low : (p : Place) → K * (A + 1) ≤ ranks p
        ranks_low (Named y ∷ []) = let b = (T_between y).0 in omega arith
        ranks_low (Equations ∷ p) = let b = row_low front p in omega arith
        ranks_low p = let b = floor_top K D β rank enums a in omega arith

        ranks_high : (p : Place) → ranks p ≤ Top
        ranks_high (Named y ∷ []) = (T_between y).1
        ranks_high (Equations ∷ p) = row_high front p
        ranks_high p = omega arith
