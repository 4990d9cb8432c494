-- Ranks of the `switch` that stands for a state.
use Rattle.std.proofs.Common.{◌≡◌, ℕ, ◌+◌, ◌*◌, ◌-◌, ◌<◌, ◌≤◌, Bool, true, false, ◌||◌, if◌then◌else◌, List, [], ◌∷◌, map, inl, inr, refl, sym, ap, subst, ◌∙◌, arith}
use Rattle.std.specs.Prelude.{◌⊎◌}
use Rattle.std.specs.Str.{bytes_eq}
use Rattle.hp_tree.specs.declared.block.Trans.{Trans}
use Rattle.hp_tree.specs.declared.decl.Cons.TheVariants.{False, True}
use Rattle.hp_tree.specs.declared.expr.Op2.TheVariants.{Eq}
use Rattle.hp_tree.specs.Expressions.{Expr, variable, constant, two}
use Rattle.hp_tree.specs.Blocks.{Decl, Block, block, no_eqn, more_eqns, Eqn, Arms, no_arm, more_arms, eqns_of}
use Rattle.hp_tree.specs.Instant.{Named, Body, Equations, Head, Tail, Test, Arms as ArmsOf, Place}
use Rattle.hp_tree.specs.Meaning.{defines, some_defines, block_defines}
use Rattle.hp_meaning.specs.Causal.Sources.{none, only, NameSources, PlaceSources, below}
use Rattle.hp_meaning.specs.Causal.WhatIsRead.{of_expr, names_in, names_within, in_block, in_equations, in_equation, in_each_arm, of_definition, of_definitions, has_equation}
use Rattle.hp_automata.specs.declared.new_names.Word.{Word}
use Rattle.hp_automata.specs.declared.new_names.Word.TheVariants.{Jump, Next, From, On}
use Rattle.hp_automata.specs.NewNames.{letters, word_name, state_word, value_name}
use Rattle.hp_automata.specs.Names.{is_name}
use Rattle.hp_automata.specs.Lowering.{Types, Enumerations, Frame, inner, number, code, jump_of, handed, value_handed, some_constant, type_of, idle_next, idle_value, idle, afresh, state_switch, lowered_body}
use Rattle.law_automata.specs.Lowered.OldNames.{IsOld}
use Rattle.law_automata.specs.Lowered.Removable.{Known, most, deepest}
use Rattle.law_automata.proofs.LoweredLemmas.Spelling.{New, word, of_state, of_transition, value, spell, HasRoom}
use Rattle.law_automata.proofs.LoweredLemmas.Apart.{same_bytes, bytes_same}
use Rattle.law_automata.proofs.LoweredLemmas.Tests.{or_left, or_right, or_cases, name_first, or_second}
use Rattle.law_automata.proofs.LoweredLemmas.Renaming.{Renames}
use Rattle.law_automata.proofs.LoweredLemmas.Lookups.{hands, mapped, switch_sound, with_names}
use Rattle.law_automata.proofs.LoweredLemmas.Around.{Undone}
use Rattle.law_automata.proofs.LoweredLemmas.Chains.{plain_link}
use Rattle.law_automata.proofs.LoweredLemmas.Decoding.{decode, decode_spell, letters_in, letters_spell, to_letters}
use Rattle.law_automata.proofs.LoweredLemmas.RankExpressions.{Below, Less, less_up}
use Rattle.law_automata.proofs.LoweredLemmas.RankBlocks.{times_up, times_next, greater, greater_left, greater_right, greater_least, of_block, of_row, of_arms, of_body, top, nothing_defined}
use Rattle.law_automata.proofs.LoweredLemmas.RankRows.{plain_at, link_below, plain_falls, EachFalls, RowFalls, row_falls, behind_ranks}
use Rattle.law_automata.proofs.LoweredLemmas.RankStates.{BodyRanks}

-- what is known of an automaton before: its words have the ranks A and Nx there, and the names that it defines the ranks X
pub record InAutomaton (K D β : ℕ) (rank : Place → ℕ) (outer : Known) (to : List ℕ → List ℕ) (f : Frame) (e : Eqn) (names : NameSources) (c i A Nx : ℕ) (X : List ℕ → ℕ) : Type 0 where
  pub renames : Renames outer f.depth to
  pub undone : Undone to
  pub deep : f.depth < deepest
  pub few : f.count < most
  pub names_of : (x : List ℕ) → is_name f.names x ≡ defines e x
  pub old : (x : List ℕ) → is_name f.names x ≡ true → IsOld x
  pub big : 6 * most + (2 * D + 40) ≤ K
  pub small : i ≤ D
  pub active : c ≤ A
  pub later : A < Nx
  pub roof : Nx < β
  pub values : (x : List ℕ) → is_name f.names x ≡ true → (A < X x) × (X x < β)

module _ (K D β : ℕ) (rank : Place → ℕ) (enums : Enumerations) {outer : Known} {to : List ℕ → List ℕ} {f : Frame} {e : Eqn} {names : NameSources} {c i A Nx : ℕ} {X : List ℕ → ℕ} (I : InAutomaton K D β rank outer to f e names c i A Nx X) where
  abbrev Top : ℕ
  Top = top K D β rank enums

  -- the ranks of the words of the automaton
  abbrev own_word : Word → ℕ
  own_word Jump = K * A + (D + 2 * most + 5)
  own_word Next = K * Nx + (D + 5 * most + 30)
  own_word w = Top

  abbrev word_of_state : ℕ → Word → ℕ
  word_of_state k From = K * A + (D + most + 2 + (most - k))
  word_of_state k On = K * A + (D + 2 * most + 6)
  word_of_state k Next = K * Nx + (D + 2 * most + 10 + 2 * (most - k))
  word_of_state k w = Top

  abbrev pub word_rank : New → ℕ
  word_rank (word w) = own_word w
  word_rank (of_state w k) = word_of_state k w
  word_rank (of_transition w k j) = K * A + D + 1 + (most - j)
  word_rank (value k x) = if is_name f.names x then K * X x + (D + 10 + 2 * (most - k)) else Top

  abbrev pub joined_rank : List ℕ → ℕ
  joined_rank x = if is_name f.names x then K * X x + (D + 2 * most + 30) else Top

  -- the rank of a name of the block that stands for the automaton
  abbrev pub T : List ℕ → ℕ
  T y = if bytes_eq (letters_in y) (letters f.depth) then word_rank (decode y) else joined_rank (I.undone.back y)

  pub T_new : (b : New) → HasRoom b → T (spell f.depth b) ≡ word_rank b
  T_new b h =
      ap (λ t. if t then word_rank (decode (spell f.depth b)) else joined_rank (I.undone.back (spell f.depth b)))
      (ap (λ l. bytes_eq l (letters f.depth)) (letters_spell f.depth b h) ∙ bytes_same (letters f.depth))
      ∙ ap word_rank (decode_spell f.depth b h)

  pub T_name : (x : List ℕ) → IsOld x → T (to x) ≡ joined_rank x
  T_name x p =
      ap (λ t. if t then word_rank (decode (to x)) else joined_rank (I.undone.back (to x))) (to_letters I.renames I.deep x p)
      ∙ ap joined_rank (I.undone.back_to x p)

  pub T_joined : (x : List ℕ) → is_name f.names x ≡ true → T (to x) ≡ K * X x + (D + 2 * most + 30)
  T_joined x q = T_name x (I.old x q) ∙ ap (λ t. if t then K * X x + (D + 2 * most + 30) else Top) q

  pub T_value : (k : ℕ) → k < most → (x : List ℕ) → is_name f.names x ≡ true → T (value_name f.depth k x) ≡ K * X x + (D + 10 + 2 * (most - k))
  T_value k l x q = T_new (value k x) (l, I.old x q) ∙ ap (λ t. if t then K * X x + (D + 10 + 2 * (most - k)) else Top) q

  -- a rank of the program, with some more, is within the bounds
  abbrev pub Fits : ℕ → Type 0
  Fits n = (K * c + i ≤ n) × (n ≤ Top)

  fits : (r m : ℕ) → c ≤ r → r < β → D ≤ m → m ≤ K → Fits (K * r + m)
  fits r m l h d u =
      let small = I.small in
      let low : K * c ≤ K * r = times_up K c r l in
      let high : K * r ≤ K * β = times_up K r β (omega arith) in (omega arith, omega arith)

  pub active_roof : A < β
  active_roof = let a = I.later in let b = I.roof in omega arith

  top_fits : Fits Top
  top_fits =
      let small = I.small in let big = I.big in let act = I.active in let roof = active_roof in
      let high : K * c ≤ K * β = times_up K c β (omega arith) in (omega arith, omega arith)

  pub floor_below : K * c + i ≤ Top
  floor_below = top_fits.0

  active_fits : (m : ℕ) → D ≤ m → m ≤ K → Fits (K * A + m)
  active_fits m d u = fits A m I.active active_roof d u

  next_fits : (m : ℕ) → D ≤ m → m ≤ K → Fits (K * Nx + m)
  next_fits m d u = fits Nx m (let a = I.active in let l = I.later in omega arith) I.roof d u

  name_fits : (x : List ℕ) (m : ℕ) → D ≤ m → m ≤ K → Fits (if is_name f.names x then K * X x + m else Top)
  name_fits x m d u = by (is_name f.names x) refl
    where
      by : (t : Bool) → is_name f.names x ≡ t → Fits (if t then K * X x + m else Top)
      by true q = let v = I.values x q in let a = I.active in fits (X x) m (let l = v.0 in omega arith) v.1 d u
      by false q = top_fits

  word_fits : (b : New) → Fits (word_rank b)
  word_fits (word Jump) = active_fits (D + 2 * most + 5) (omega arith) (let big = I.big in omega arith)
  word_fits (word Next) = next_fits (D + 5 * most + 30) (omega arith) (let big = I.big in omega arith)
  word_fits (word w) = top_fits
  word_fits (of_state From k) = active_fits (D + most + 2 + (most - k)) (omega arith) (let big = I.big in omega arith)
  word_fits (of_state On k) = active_fits (D + 2 * most + 6) (omega arith) (let big = I.big in omega arith)
  word_fits (of_state Next k) = next_fits (D + 2 * most + 10 + 2 * (most - k)) (omega arith) (let big = I.big in omega arith)
  word_fits (of_state w k) = top_fits
  word_fits (of_transition w k j) = let b = active_fits (D + 1 + (most - j)) (omega arith) (let big = I.big in omega arith) in let l = b.0 in let h = b.1 in (omega arith, omega arith)
  word_fits (value k x) = name_fits x (D + 10 + 2 * (most - k)) (omega arith) (let big = I.big in omega arith)

  pub T_fits : (y : List ℕ) → Fits (T y)
  T_fits y = by (bytes_eq (letters_in y) (letters f.depth))
    where
      by : (t : Bool) → Fits (if t then word_rank (decode y) else joined_rank (I.undone.back y))
      by true = word_fits (decode y)
      by false = name_fits (I.undone.back y) (D + 2 * most + 30) (omega arith) (let big = I.big in omega arith)

  -- ---- what a state hands on

  -- the rank above which the arms of a state stand
  abbrev pub floor_of_arms : ℕ
  floor_of_arms = K * A + (D + 2 * most + 7)

  -- a name in the arms of the `switch`
  abbrev pub arm_rank : List ℕ → ℕ
  arm_rank y = greater (T y - 1) floor_of_arms

  floor_fits : Fits floor_of_arms
  floor_fits = active_fits (D + 2 * most + 7) (omega arith) (let big = I.big in omega arith)

  arm_fits : (y : List ℕ) → Fits (arm_rank y)
  arm_fits y =
      let t = (T_fits y).1 in
      let l = greater_right (T y - 1) floor_of_arms in let m = floor_fits.0 in
      (omega (arith, l, m), greater_least (T y - 1) floor_of_arms Top (omega arith) floor_fits.1)

  next_high : (k : ℕ) → k < most → K * (A + 1) + 10 ≤ T (state_word Next f.depth k)
  next_high k l =
      let is : T (state_word Next f.depth k) ≡ K * Nx + (D + 2 * most + 10 + 2 * (most - k)) = T_new (of_state Next k) l in
      let up : K * (A + 1) ≤ K * Nx = times_up K (A + 1) Nx (let l = I.later in omega arith) in omega arith

  value_high : (k : ℕ) → k < most → (x : List ℕ) → is_name f.names x ≡ true → K * (A + 1) + 10 ≤ T (value_name f.depth k x)
  value_high k l x q =
      let is : T (value_name f.depth k x) ≡ K * X x + (D + 10 + 2 * (most - k)) = T_value k l x q in
      let up : K * (A + 1) ≤ K * X x = times_up K (A + 1) (X x) (let l = (I.values x q).0 in omega arith) in omega arith

  high_arm : (y : List ℕ) → K * (A + 1) + 10 ≤ T y → arm_rank y < T y
  high_arm y h =
      let big = I.big in
      let next : K * (A + 1) ≡ K * A + K = times_next K A in
      let least : arm_rank y ≤ T y - 1 = greater_least (T y - 1) floor_of_arms (T y - 1) (omega arith) (omega arith) in omega arith

  -- a fact of a name that is handed on is shown of the next word, and of the values
  handed_by : (k : ℕ) (P : List ℕ → Type 0) → P (state_word Next f.depth k) → ((x : List ℕ) → is_name f.names x ≡ true → P (value_name f.depth k x)) → (y : List ℕ) → hands f k y ≡ true → P y
  handed_by k P n v y h = by (or_cases (bytes_eq (state_word Next f.depth k) y) (is_name (map (value_name f.depth k) f.names) y) h)
    where
      by : (bytes_eq (state_word Next f.depth k) y ≡ true) ⊎ (is_name (map (value_name f.depth k) f.names) y ≡ true) → P y
      by (inl q) = subst P (same_bytes (state_word Next f.depth k) y q) n
      by (inr q) = let m = mapped (value_name f.depth k) f.names y q in subst P (sym m.2) (v m.0 m.1)

  pub handed_high : (k : ℕ) → k < most → (y : List ℕ) → hands f k y ≡ true → K * (A + 1) + 10 ≤ T y
  handed_high k l y h = handed_by k (λ z. K * (A + 1) + 10 ≤ T z) (next_high k l) (λ x q. value_high k l x q) y h

  -- ---- what is known afterwards

  -- the names that the equations of the automaton read
  pub record Inside (after : Place → ℕ) (inside : NameSources) : Type 0 where
    pub same : (x : List ℕ) → IsOld x → Less K rank after c i (names x) (inside (to x))
    pub jump : (n : ℕ) → T (word_name Jump f.depth) < n → Below after n (inside (word_name Jump f.depth))
    pub from_word : (m : ℕ) → m < f.count → (n : ℕ) → T (state_word From f.depth m) < n → Below after n (inside (state_word From f.depth m))
    pub next_word : (m : ℕ) → m < f.count → (n : ℕ) → T (state_word Next f.depth m) < n → Below after n (inside (state_word Next f.depth m))
    pub value_word : (m : ℕ) → m < f.count → (x : List ℕ) → is_name f.names x ≡ true → (n : ℕ) → T (value_name f.depth m x) < n → Below after n (inside (value_name f.depth m x))

  -- ---- the `switch`

  module _ (tys : Types) (k : ℕ) (room : k < f.count) (b : Block) (until : List Trans) (out : NameSources) (w : Place → Place) (B : BodyRanks K D β rank enums tys to f k A Nx i b until out w)
      (out_is : (x : List ℕ) → is_name f.names x ≡ false → out x ≡ names x) (given : (x : List ℕ) → is_name f.names x ≡ true → has_equation b x ≡ true → rank (w (Named x ∷ [])) < X x) where
    few : k < most
    few = let all = I.few in omega arith

    abbrev body : Block
    body = lowered_body enums to tys f k b until

    abbrev idle_eqns : List Eqn
    idle_eqns = idle_next f k ∷ map (idle_value enums tys f k) f.names

    abbrev arm_ranks : Place → ℕ
    arm_ranks = of_block arm_rank (of_row (of_body (λ p. Top) B.ranks Top) (λ p. Top) Top) Top

    abbrev idle_ranks : Place → ℕ
    idle_ranks = of_block arm_rank (behind_ranks Top idle_eqns (λ p. Top)) Top

    abbrev pub switch_ranks : Place → ℕ
    switch_ranks = of_arms (λ p. Top) (of_row arm_ranks (of_row idle_ranks (λ p. Top) Top) Top) Top

    body_less : (y : List ℕ) → hands f k y ≡ true → B.ranks (Named y ∷ []) < arm_rank y
    body_less y h =
        let less : B.ranks (Named y ∷ []) + 1 < T y = handed_by k (λ z. B.ranks (Named z ∷ []) + 1 < T z) next values y h in
        let up = greater_left (T y - 1) floor_of_arms in omega arith
      where
        next : B.ranks (Named (state_word Next f.depth k) ∷ []) + 1 < T (state_word Next f.depth k)
        next = let is : T (state_word Next f.depth k) ≡ K * Nx + (D + 2 * most + 10 + 2 * (most - k)) = T_new (of_state Next k) few in let so = B.next in omega arith

        values : (x : List ℕ) → is_name f.names x ≡ true → B.ranks (Named (value_name f.depth k x) ∷ []) + 1 < T (value_name f.depth k x)
        values x q =
            subst (λ n. n + 1 < T (value_name f.depth k x)) (sym (B.values x q (I.old x q))) (by (has_equation b x) refl)
          where
            is : T (value_name f.depth k x) ≡ K * X x + (D + 10 + 2 * (most - k))
            is = T_value k few x q

            by : (t : Bool) → has_equation b x ≡ t → (if t then K * rank (w (Named x ∷ [])) + K else K * (A + 1) + i) + 1 < T (value_name f.depth k x)
            by true g =
                let less : rank (w (Named x ∷ [])) < X x = given x q g in
                let so = is in
                let up : K * (rank (w (Named x ∷ [])) + 1) ≤ K * X x = times_up K (rank (w (Named x ∷ [])) + 1) (X x) (omega arith) in
                let one_more : K * (rank (w (Named x ∷ [])) + 1) ≡ K * rank (w (Named x ∷ [])) + K = times_next K (rank (w (Named x ∷ []))) in omega arith
            by false g =
                let so = is in let small = I.small in
                let up : K * (A + 1) ≤ K * X x = times_up K (A + 1) (X x) (let l = (I.values x q).0 in omega arith) in omega arith

    body_floor : (p : Place) → floor_of_arms ≤ B.ranks p
    body_floor p = let big = I.big in let low = B.low p in let next : K * (A + 1) ≡ K * A + K = times_next K A in omega arith

    row_floor : (xs : List Eqn) (p : Place) → floor_of_arms ≤ behind_ranks Top xs (λ q. Top) p
    row_floor [] p = floor_fits.1
    row_floor (x ∷ xs) (Head ∷ p) = floor_fits.1
    row_floor (x ∷ xs) (Tail ∷ p) = row_floor xs p
    row_floor (x ∷ xs) p = floor_fits.1

    row_high : (xs : List Eqn) (p : Place) → behind_ranks Top xs (λ q. Top) p ≤ Top
    row_high [] p = omega arith
    row_high (x ∷ xs) (Head ∷ p) = omega arith
    row_high (x ∷ xs) (Tail ∷ p) = row_high xs p
    row_high (x ∷ xs) p = omega arith

    -- all that stands in the arms is above the floor, and below the top
    abbrev InArms : ℕ → Type 0
    InArms n = (floor_of_arms ≤ n) × (n ≤ Top)

    top_in : InArms Top
    top_in = (floor_fits.1, omega arith)

    afresh_in : (p : Place) → InArms (of_body (λ q. Top) B.ranks Top p)
    afresh_in (Test ∷ p) = top_in
    afresh_in (Body ∷ p) = (body_floor p, B.high p)
    afresh_in p = top_in

    own_row_in : (p : Place) → InArms (of_row (of_body (λ q. Top) B.ranks Top) (λ q. Top) Top p)
    own_row_in (Head ∷ p) = afresh_in p
    own_row_in (Tail ∷ p) = top_in
    own_row_in p = top_in

    block_in : (r : Place → ℕ) → ((p : Place) → InArms (r p)) → (p : Place) → InArms (of_block arm_rank r Top p)
    block_in r h (Named y ∷ []) = (greater_right (T y - 1) floor_of_arms, (arm_fits y).1)
    block_in r h (Equations ∷ p) = h p
    block_in r h p = top_in

    arms_in : (p : Place) → InArms (of_row arm_ranks (of_row idle_ranks (λ q. Top) Top) Top p)
    arms_in (Head ∷ p) = block_in (of_row (of_body (λ q. Top) B.ranks Top) (λ q. Top) Top) own_row_in p
    arms_in (Tail ∷ Head ∷ p) = block_in (behind_ranks Top idle_eqns (λ q. Top)) (λ q. (row_floor idle_eqns q, row_high idle_eqns q)) p
    arms_in (Tail ∷ Tail ∷ p) = top_in
    arms_in (Tail ∷ p) = top_in
    arms_in p = top_in

    pub switch_fits : (p : Place) → Fits (switch_ranks p)
    switch_fits (Test ∷ p) = top_fits
    switch_fits (ArmsOf ∷ p) = let h = arms_in p in let low = h.0 in let floor = floor_fits.0 in (omega arith, h.1)
    switch_fits p = top_fits

    -- ---- what its places read

    module _ (locals : List Decl) (after : Place → ℕ) (w' : Place → Place) (inside : NameSources) (h : (p : Place) → after (w' p) ≡ switch_ranks p) (N : Inside after inside)
        (on_known : (n : ℕ) → T (state_word On f.depth k) < n → Below after n (inside (state_word On f.depth k))) where
      abbrev condition : Expr
      condition = two f.at Eq (jump_of f) (number f.at (code k true))

      abbrev Sw : Eqn
      Sw = state_switch f k body (idle enums tys f k)

      -- the names in the arms, and in each of them
      abbrev in_switch : NameSources
      in_switch = names_within Sw inside

      abbrev arm_names : NameSources
      arm_names = names_in (more_eqns (afresh f k body) no_eqn) in_switch (λ q. only (w' (ArmsOf ∷ Head ∷ q)))

      abbrev idle_names : NameSources
      idle_names = names_in (eqns_of idle_eqns) in_switch (λ q. only (w' (ArmsOf ∷ Tail ∷ Head ∷ q)))

      on_below : (n : ℕ) → floor_of_arms ≤ n → Below after n (inside (state_word On f.depth k))
      on_below n l = on_known n (let is : T (state_word On f.depth k) ≡ K * A + (D + 2 * most + 6) = T_new (of_state On k) few in omega arith)

      within_below : (y : List ℕ) (n : ℕ) → Below after n (inside y) → Below after n (in_switch y)
      within_below y n g = by (defines Sw y)
        where
          by : (t : Bool) → Below after n (if t then none else inside y)
          by true = tt
          by false = g

      arm_at : (y : List ℕ) → after (w' (ArmsOf ∷ Head ∷ Named y ∷ [])) ≡ arm_rank y
      arm_at y = h (ArmsOf ∷ Head ∷ Named y ∷ [])

      idle_at : (y : List ℕ) → after (w' (ArmsOf ∷ Tail ∷ Head ∷ Named y ∷ [])) ≡ arm_rank y
      idle_at y = h (ArmsOf ∷ Tail ∷ Head ∷ Named y ∷ [])

      -- ---- the arm in which the state is active

      jump_below : (n : ℕ) → floor_of_arms < n → Below after n (arm_names (word_name Jump f.depth))
      jump_below n l = by (some_defines (more_eqns (afresh f k body) no_eqn) (word_name Jump f.depth))
        where
          jump : T (word_name Jump f.depth) ≡ K * A + (D + 2 * most + 5)
          jump = T_new (word Jump) tt

          by : (t : Bool) → Below after n (if t then only (w' (ArmsOf ∷ Head ∷ Named (word_name Jump f.depth) ∷ [])) else in_switch (word_name Jump f.depth))
          by true =
              let is = arm_at (word_name Jump f.depth) in let so = jump in
              let least : arm_rank (word_name Jump f.depth) ≤ floor_of_arms = greater_least (T (word_name Jump f.depth) - 1) floor_of_arms floor_of_arms (omega arith) (omega arith) in omega arith
          by false = within_below (word_name Jump f.depth) n (N.jump n (let so = jump in omega arith))

      condition_below : (n : ℕ) → floor_of_arms < n → (l : PlaceSources) → Below after n (of_expr condition arm_names l)
      condition_below n g l = (jump_below n g, tt)

      floor_top : floor_of_arms < Top
      floor_top =
          let big = I.big in let roof = active_roof in
          let high : K * A ≤ K * β = times_up K A β (omega arith) in omega arith

      handed_above : (y : List ℕ) → hands f k y ≡ true → floor_of_arms < arm_rank y
      handed_above y g =
          let high = handed_high k few y g in let big = I.big in
          let next : K * (A + 1) ≡ K * A + K = times_next K A in
          let up = greater_left (T y - 1) floor_of_arms in omega arith

      body_above : (p : Place) → floor_of_arms < B.ranks p
      body_above p = let big = I.big in let low = B.low p in let next : K * (A + 1) ≡ K * A + K = times_next K A in omega arith

      -- names that are read in the body
      body_names_less : (x : List ℕ) → IsOld x → with_names f.names b x ≡ false → Less K rank after (A + 1) i (out x) (names_within (afresh f k body) arm_names (inner to f k x))
      body_names_less x o q =
          let not_name : is_name f.names x ≡ false = or_second (block_defines b x) (is_name f.names x) q in
          let is : inner to f k x ≡ to x = ap (λ t. if t then value_name f.depth k x else to x) not_name in
          subst (λ y. Less K rank after (A + 1) i (out x) (names_within (afresh f k body) arm_names y)) (sym is)
          (subst (λ s. Less K rank after (A + 1) i s (names_within (afresh f k body) arm_names (to x))) (sym (out_is x not_name)) (by (defines (afresh f k body) (to x)) (defines Sw (to x))))
        where
          by : (t q : Bool) → Less K rank after (A + 1) i (names x) (if t then none else (if (t || false) then only (w' (ArmsOf ∷ Head ∷ Named (to x) ∷ [])) else (if q then none else inside (to x))))
          by true q m l g = tt
          by false true m l g = tt
          by false false m l g = less_up K rank after c (A + 1) i i (let a = I.active in omega arith) (omega arith) (names x) (inside (to x)) (N.same x o) m l g

      arm_definition : (y : List ℕ) (t : Bool) → defines (afresh f k body) y ≡ t → (hands f k y ≡ true → B.ranks (Named y ∷ []) < arm_rank y) → (block_defines body y ≡ true → hands f k y ≡ true)
          → Below after (arm_rank y) (if t then of_definition [] (afresh f k body) arm_names (λ q. only (w' (ArmsOf ∷ Head ∷ Equations ∷ Head ∷ q))) y else none)
      arm_definition y true q less sound =
          let mine = sound q in
          let is : after (w' (ArmsOf ∷ Head ∷ Equations ∷ Head ∷ Body ∷ Named y ∷ [])) ≡ B.ranks (Named y ∷ []) = h (ArmsOf ∷ Head ∷ Equations ∷ Head ∷ Body ∷ Named y ∷ []) in
          let below_arm = less mine in
          (condition_below (arm_rank y) (handed_above y mine) (λ q. only (w' (ArmsOf ∷ Head ∷ Equations ∷ Head ∷ Test ∷ q))), omega arith)
      arm_definition y false q less sound = tt

      module _ (sound : (y : List ℕ) → block_defines body y ≡ true → hands f k y ≡ true) where
        afresh_places : (p : Place) → Below after (of_body (λ q. Top) B.ranks Top p) (in_equation [] (afresh f k body) arm_names (λ q. only (w' (ArmsOf ∷ Head ∷ Equations ∷ Head ∷ q))) p)
        afresh_places (Test ∷ p) =
            plain_at after Top arm_names condition (tt, tt) (λ q. only (w' (ArmsOf ∷ Head ∷ Equations ∷ Head ∷ Test ∷ q))) (condition_below Top floor_top (λ q. only (w' (ArmsOf ∷ Head ∷ Equations ∷ Head ∷ Test ∷ q)))) p
        afresh_places (Body ∷ p) = (
          condition_below (B.ranks p) (body_above p) (λ q. only (w' (ArmsOf ∷ Head ∷ Equations ∷ Head ∷ Test ∷ q))),
          B.fall after (λ q. w' (ArmsOf ∷ Head ∷ Equations ∷ Head ∷ Body ∷ q)) (names_within (afresh f k body) arm_names) (λ q. h (ArmsOf ∷ Head ∷ Equations ∷ Head ∷ Body ∷ q)) body_names_less p,
        )
        afresh_places p = tt

        arm_row : (p : Place) → Below after (of_row (of_body (λ q. Top) B.ranks Top) (λ q. Top) Top p) (in_equations [] (more_eqns (afresh f k body) no_eqn) arm_names (λ q. only (w' (ArmsOf ∷ Head ∷ Equations ∷ q))) p)
        arm_row (Head ∷ p) = afresh_places p
        arm_row (Tail ∷ p) = tt
        arm_row p = tt

        arm_places : (p : Place) → Below after (arm_ranks p) (in_block (block [] (more_eqns (afresh f k body) no_eqn)) in_switch (λ q. only (w' (ArmsOf ∷ Head ∷ q))) p)
        arm_places (Named y ∷ []) = arm_definition y (defines (afresh f k body) y) refl (body_less y) (sound y)
        arm_places (Equations ∷ p) = arm_row p
        arm_places p = tt

        -- ---- the arm in which it is not

        -- a word of a state behind this one
        later_below : (y : List ℕ) (n : ℕ) → K * (A + 1) + 10 ≤ T y → T y < n → ((m : ℕ) → T y < m → Below after m (inside y)) → Below after n (idle_names y)
        later_below y n high l known = by (some_defines (eqns_of idle_eqns) y)
          where
            by : (t : Bool) → Below after n (if t then only (w' (ArmsOf ∷ Tail ∷ Head ∷ Named y ∷ [])) else in_switch y)
            by true = let is = idle_at y in let less = high_arm y high in omega arith
            by false = within_below y n (known n l)

        idle_falls : EachFalls after Top [] idle_names arm_rank idle_eqns
        idle_falls = (
          plain_falls after Top [] idle_names arm_rank f.at (state_word Next f.depth k) (handed f Next (number f.at 0) (k + 1)) (plain_link f.at f.count (state_word Next f.depth) (number f.at 0) (k + 1) tt) refl (arm_fits (state_word Next f.depth k)).1
              (λ l. link_below after (arm_rank (state_word Next f.depth k)) idle_names f.at f.count (state_word Next f.depth) (number f.at 0) (k + 1) l
              (λ q. let all = I.few in
              let mine : T (state_word Next f.depth k) ≡ K * Nx + (D + 2 * most + 10 + 2 * (most - k)) = T_new (of_state Next k) few in
              let its : T (state_word Next f.depth (k + 1)) ≡ K * Nx + (D + 2 * most + 10 + 2 * (most - (k + 1))) = T_new (of_state Next (k + 1)) (omega arith) in
              let up = greater_left (T (state_word Next f.depth k) - 1) floor_of_arms in
              later_below (state_word Next f.depth (k + 1)) (arm_rank (state_word Next f.depth k)) (next_high (k + 1) (omega arith)) (omega arith) (λ m g. N.next_word (k + 1) q m g)) tt),
          values f.names (λ x q. q),
        )
          where
            values : (xs : List (List ℕ)) → ((x : List ℕ) → is_name xs x ≡ true → is_name f.names x ≡ true) → EachFalls after Top [] idle_names arm_rank (map (idle_value enums tys f k) xs)
            values [] sub = tt
            values (x ∷ xs) sub =
                let name : is_name f.names x ≡ true = sub x (name_first x xs x ∙ or_left (bytes_eq x x) (is_name xs x) (bytes_same x)) in (
                  plain_falls after Top [] idle_names arm_rank f.at (value_name f.depth k x) (value_handed enums tys f (k + 1) x)
                      (plain_link f.at f.count (λ m. value_name f.depth m x) (constant f.at (some_constant enums (type_of tys x))) (k + 1) tt) refl (arm_fits (value_name f.depth k x)).1
                      (λ l. link_below after (arm_rank (value_name f.depth k x)) idle_names f.at f.count (λ m. value_name f.depth m x) (constant f.at (some_constant enums (type_of tys x))) (k + 1) l
                      (λ q. let all = I.few in
                      let mine : T (value_name f.depth k x) ≡ K * X x + (D + 10 + 2 * (most - k)) = T_value k few x name in
                      let its : T (value_name f.depth (k + 1) x) ≡ K * X x + (D + 10 + 2 * (most - (k + 1))) = T_value (k + 1) (omega arith) x name in
                      let up = greater_left (T (value_name f.depth k x) - 1) floor_of_arms in
                      later_below (value_name f.depth (k + 1) x) (arm_rank (value_name f.depth k x)) (value_high (k + 1) (omega arith) x name) (omega arith) (λ m g. N.value_word (k + 1) q x name m g)) tt),
                  values xs (λ z q. sub z (name_first x xs z ∙ or_right (bytes_eq x z) (is_name xs z) q)),
                )

        idle_row : RowFalls after Top [] idle_names arm_rank idle_eqns (behind_ranks Top idle_eqns (λ p. Top)) (λ q. only (w' (ArmsOf ∷ Tail ∷ Head ∷ Equations ∷ q)))
        idle_row = each_row idle_eqns (λ q. only (w' (ArmsOf ∷ Tail ∷ Head ∷ Equations ∷ q))) idle_falls
          where
            each_row : (xs : List Eqn) (l : PlaceSources) → EachFalls after Top [] idle_names arm_rank xs → RowFalls after Top [] idle_names arm_rank xs (behind_ranks Top xs (λ p. Top)) l
            each_row [] l g = ((λ p. tt), λ y q. absurd cc)
            each_row (e ∷ xs) l g = row_falls after Top [] idle_names arm_rank e xs (λ p. Top) (behind_ranks Top xs (λ p. Top)) l (g.0 (below Head l)).0 (g.0 (below Head l)).1 (each_row xs (below Tail l) g.1)

        idle_definition : (y : List ℕ) (t : Bool) → some_defines (eqns_of idle_eqns) y ≡ t → Below after (arm_rank y) (of_definitions [] (eqns_of idle_eqns) idle_names (λ q. only (w' (ArmsOf ∷ Tail ∷ Head ∷ Equations ∷ q))) y)
        idle_definition y true q = idle_row.1 y q
        idle_definition y false q = nothing_defined after (arm_rank y) [] (eqns_of idle_eqns) idle_names (λ q. only (w' (ArmsOf ∷ Tail ∷ Head ∷ Equations ∷ q))) y q

        idle_places : (p : Place) → Below after (idle_ranks p) (in_block (idle enums tys f k) in_switch (λ q. only (w' (ArmsOf ∷ Tail ∷ Head ∷ q))) p)
        idle_places (Named y ∷ []) = idle_definition y (some_defines (eqns_of idle_eqns) y) refl
        idle_places (Equations ∷ p) = idle_row.0 p
        idle_places p = tt

        -- ---- both

        abbrev arms : Arms
        arms = more_arms True (block [] (more_eqns (afresh f k body) no_eqn)) f.at (more_arms False (idle enums tys f k) f.at no_arm)

        other_places : (p : Place) → Below after (of_row idle_ranks (λ q. Top) Top p) (in_each_arm (more_arms False (idle enums tys f k) f.at no_arm) in_switch (λ q. only (w' (ArmsOf ∷ Tail ∷ q))) p)
        other_places (Head ∷ p) = idle_places p
        other_places (Tail ∷ p) = tt
        other_places p = tt

        arms_places : (p : Place) → Below after (of_row arm_ranks (of_row idle_ranks (λ q. Top) Top) Top p) (in_each_arm arms in_switch (λ q. only (w' (ArmsOf ∷ q))) p)
        arms_places (Head ∷ p) = arm_places p
        arms_places (Tail ∷ p) = other_places p
        arms_places p = tt

        pub switch_places : (p : Place) → Below after (switch_ranks p) (in_equation locals Sw inside (λ q. only (w' q)) p)
        switch_places (Test ∷ p) = plain_at after Top inside (variable f.at (state_word On f.depth k)) tt (λ q. only (w' (Test ∷ q))) (on_below Top floor_fits.1) p
        switch_places (ArmsOf ∷ p) = (on_below (of_row arm_ranks (of_row idle_ranks (λ q. Top) Top) Top p) (arms_in p).0, arms_places p)
        switch_places p = tt

        pub switch_gives : (y : List ℕ) → defines Sw y ≡ true → Below after (T y) (of_definition locals Sw inside (λ q. only (w' q)) y)
        switch_gives y q =
            let mine = switch_sound enums tys f k body sound y q in
            let high = handed_high k few y mine in
            let less = high_arm y high in
            let big = I.big in
            let next : K * (A + 1) ≡ K * A + K = times_next K A in
            (on_below (T y) (omega arith), (from_arm (block_defines (block [] (more_eqns (afresh f k body) no_eqn)) y) (let is = arm_at y in omega arith), (from_idle (block_defines (idle enums tys f k) y) (let is = idle_at y in omega arith), tt)))
          where
            from_arm : (t : Bool) → after (w' (ArmsOf ∷ Head ∷ Named y ∷ [])) < T y → Below after (T y) (if t then only (w' (ArmsOf ∷ Head ∷ Named y ∷ [])) else none)
            from_arm true g = g
            from_arm false g = tt

            from_idle : (t : Bool) → after (w' (ArmsOf ∷ Tail ∷ Head ∷ Named y ∷ [])) < T y → Below after (T y) (if t then only (w' (ArmsOf ∷ Tail ∷ Head ∷ Named y ∷ [])) else none)
            from_idle true g = g
            from_idle false g = tt
