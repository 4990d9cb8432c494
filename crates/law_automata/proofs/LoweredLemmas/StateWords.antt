-- The words of states, and the values of names in them.
use Rattle.std.proofs.Common.{◌≡◌, ℕ, ◌+◌, ◌<◌, ◌≤◌, nat_eq, length, Bool, true, false, ◌||◌, ◌&&◌, List, [], ◌∷◌, ◌++◌, map, inl, inr, refl, sym, ap, subst, ◌∙◌, arith}
use Rattle.std.specs.Prelude.{pos, ⊤, ◌⊎◌, if◌then◌else◌}
use Rattle.std.specs.Str.{bytes_eq}
use Rattle.std.proofs.lemmas.Bool.{eqb-true}
use Rattle.std.proofs.lemmas.Bool.Decides.{nat_tests}
use Rattle.hp_base.specs.declared.span.Span.{Span}
use Rattle.hp_base.specs.declared.value.Value.{Value}
use Rattle.hp_base.specs.declared.value.Value.TheVariants.{B, I}
use Rattle.hp_tree.specs.declared.block.Trans.{Trans}
use Rattle.hp_tree.specs.Blocks.{Block, Eqn, eqns_of, States, no_state, more_states}
use Rattle.hp_tree.specs.Programs.{TypeDecl}
use Rattle.hp_tree.specs.Meaning.{Names, Jump, declares, some_defines, defines, block_defines}
use Rattle.hp_automata.specs.declared.new_names.Word.TheVariants.{Next, From, On, Strong}
use Rattle.hp_automata.specs.NewNames.{state_word, transition_word, value_name}
use Rattle.hp_automata.specs.Names.{is_name}
use Rattle.hp_automata.specs.Lowering.{Types, Enumerations, Frame, count_of, pending_of, value_local, transition_locals, state_locals, locals_from, choices, strong_eqns, choosing_eqns, state_eqns, state_switch, idle, lowered_states, lowered_body}
use Rattle.law_automata.specs.Lowered.OldNames.{IsOld}
use Rattle.law_automata.specs.Lowered.Removable.{Known, StatesOk, most}
use Rattle.law_automata.specs.Lowered.Standing.{code_of}
use Rattle.law_automata.proofs.LoweredLemmas.Spelling.{New, word, of_state, of_transition, value, spell, HasRoom}
use Rattle.law_automata.proofs.LoweredLemmas.Apart.{told, same_bytes, bytes_same, bytes_differ}
use Rattle.law_automata.proofs.LoweredLemmas.Tests.{or_left, or_right, or_cases, name_first, some_append, declares_append, true_false}
use Rattle.law_automata.proofs.LoweredLemmas.Lookups.{hands, idle_hands, choices_declared, map_name, values_declared}
use Rattle.law_automata.proofs.LoweredLemmas.Jumps.{strong_pure}
use Rattle.law_automata.proofs.LoweredLemmas.Chains.{KnowsChoices, with_choices, passes_choices, choices_known}

-- whether a state of this number stands among these, of which the first has the number k
abbrev pub stands_from : ℕ → States → ℕ → Bool
stands_from k no_state n = false
stands_from k (more_states f b until unless p ss) n = if nat_eq k n then true else stands_from (k + 1) ss n

-- a new name of a state from this number on
abbrev pub FromState : ℕ → New → Type 0
FromState k (word w) = ⊥
FromState k (of_state w i) = k ≤ i
FromState k (of_transition w i j) = k ≤ i
FromState k (value i x) = k ≤ i

-- a new name of this state
abbrev OfState : ℕ → New → Type 0
OfState k (word w) = ⊥
OfState k (of_state w i) = k ≡ i
OfState k (of_transition w i j) = k ≡ i
OfState k (value i x) = k ≡ i

later_differs : (k : ℕ) (a b : New) → OfState k a → FromState (k + 1) b → a ≡ b → ⊥
later_differs k a b h g e = no_state_of b (subst (OfState k) e h) g
  where
    no_state_of : (b : New) → OfState k b → FromState (k + 1) b → ⊥
    no_state_of (word w) h g = h
    no_state_of (of_state w i) h g = omega arith
    no_state_of (of_transition w i j) h g = omega arith
    no_state_of (value i x) h g = omega arith

module _ (d : ℕ) where
  pub names_differ : (a b : New) → HasRoom a → HasRoom b → (a ≡ b → ⊥) → bytes_eq (spell d a) (spell d b) ≡ false
  names_differ a b h g n = bytes_differ (spell d a) (spell d b) (λ e. n (told d a b h g e))

choose_false : {A : Type 0} (t : Bool) (p q : A) → t ≡ false → (if t then p else q) ≡ q
choose_false true p q e = absurd cc
choose_false false p q e = refl

choose_true : {A : Type 0} (t : Bool) (p q : A) → t ≡ true → (if t then p else q) ≡ p
choose_true true p q e = refl
choose_true false p q e = absurd cc

module _ (types : List TypeDecl) (f : Frame) (all : States) (names last : Names) (sel j w : Jump) (none : List ℕ → Value) where
  abbrev pub value_here : Bool → List ℕ → Value
  value_here t x = if t then names x else none x

  abbrev pub with_values : ℕ → Bool → List (List ℕ) → Names → Names
  with_values k t [] rest y = rest y
  with_values k t (x ∷ xs) rest y = if bytes_eq (value_name f.depth k x) y then value_here t x else with_values k t xs rest y

  abbrev pub next_here : Bool → Value
  next_here t = if t then I (pos (code_of w)) else I (pos 0)

  abbrev pub with_states : ℕ → States → Names → Names
  with_states k no_state rest y = rest y
  with_states k (more_states q b until unless at ss) rest y =
      if bytes_eq (state_word From f.depth k) y then I (pos (code_of (strong_pure types all (more_states q b until unless at ss) k names last sel)))
      else (if bytes_eq (state_word On f.depth k) y then B (nat_eq k j.state)
      else (if bytes_eq (state_word Next f.depth k) y then next_here (stands_from k (more_states q b until unless at ss) j.state)
      else with_choices types f Strong k all names last sel 0 unless (with_values k (stands_from k (more_states q b until unless at ss) j.state) f.names (with_states (k + 1) ss rest)) y))

  -- the words of the states have their values
  abbrev pub KnowsStates : Names → ℕ → States → Type 0
  KnowsStates names' k no_state = ⊤
  KnowsStates names' k (more_states q b until unless at ss) =
      (names' (state_word From f.depth k) ≡ I (pos (code_of (strong_pure types all (more_states q b until unless at ss) k names last sel))))
      × (names' (state_word On f.depth k) ≡ B (nat_eq k j.state))
      × (names' (state_word Next f.depth k) ≡ next_here (stands_from k (more_states q b until unless at ss) j.state))
      × ((x : List ℕ) → is_name f.names x ≡ true → names' (value_name f.depth k x) ≡ value_here (stands_from k (more_states q b until unless at ss) j.state) x)
      × KnowsChoices types f Strong k all names last sel names' 0 unless
      × KnowsStates names' (k + 1) ss

  module _ (old : (x : List ℕ) → is_name f.names x ≡ true → IsOld x) where
    passes_values : (k : ℕ) → k < most → (t : Bool) (xs : List (List ℕ)) → ((x : List ℕ) → is_name xs x ≡ true → IsOld x) → (rest : Names) (a : New) → HasRoom a → ((x : List ℕ) → value k x ≡ a → ⊥) → with_values k t xs rest (spell f.depth a) ≡ rest (spell f.depth a)
    passes_values k room t [] o rest a h n = refl
    passes_values k room t (x ∷ xs) o rest a h n =
        choose_false (bytes_eq (value_name f.depth k x) (spell f.depth a)) _ _ (names_differ f.depth (value k x) a (room, o x (name_first x xs x ∙ or_left (bytes_eq x x) (is_name xs x) (bytes_same x))) h (n x))
        ∙ passes_values k room t xs (λ z q. o z (name_first x xs z ∙ or_right (bytes_eq x z) (is_name xs z) q)) rest a h n

    value_told : New → List ℕ
    value_told (value k x) = x
    value_told a = []

    finds_value : (k : ℕ) → k < most → (t : Bool) (xs : List (List ℕ)) → ((x : List ℕ) → is_name xs x ≡ true → IsOld x) → (rest : Names) (x : List ℕ) → is_name xs x ≡ true → with_values k t xs rest (value_name f.depth k x) ≡ value_here t x
    finds_value k room t [] o rest x h = absurd cc
    finds_value k room t (z ∷ xs) o rest x h = by (bytes_eq (value_name f.depth k z) (value_name f.depth k x)) refl (finds_value k room t xs (λ q p. o q (name_first z xs q ∙ or_right (bytes_eq z q) (is_name xs q) p)) rest x)
      where
        z_old : IsOld z
        z_old = o z (name_first z xs z ∙ or_left (bytes_eq z z) (is_name xs z) (bytes_same z))

        other : bytes_eq (value_name f.depth k z) (value_name f.depth k x) ≡ false → (bytes_eq z x ≡ true) ⊎ (is_name xs x ≡ true) → is_name xs x ≡ true
        other e (inl q) = absurd (true_false _ (subst (λ y. bytes_eq (value_name f.depth k z) (value_name f.depth k y) ≡ true) (same_bytes z x q) (bytes_same (value_name f.depth k z))) e)
        other e (inr q) = q

        by : (c : Bool) → bytes_eq (value_name f.depth k z) (value_name f.depth k x) ≡ c → (is_name xs x ≡ true → with_values k t xs rest (value_name f.depth k x) ≡ value_here t x)
            → (if c then value_here t z else with_values k t xs rest (value_name f.depth k x)) ≡ value_here t x
        by true e r = ap (value_here t) (same_name (told f.depth (value k z) (value k x) (room, z_old) (room, o x h) (same_bytes _ _ e)))
          where
            told_name : New → List ℕ
            told_name (value i y) = y
            told_name a = []

            same_name : value k z ≡ value k x → z ≡ x
            same_name e = cc
        by false e r = r (other e (or_cases (bytes_eq z x) (is_name xs x) (sym (name_first z xs x) ∙ h)))

    -- what the words of a state are
    state_declares : (tys : Types) (k : ℕ) (unless : List Trans) (a : New)
        → (bytes_eq (state_word From f.depth k) (spell f.depth a) ≡ true) ⊎ (bytes_eq (state_word On f.depth k) (spell f.depth a) ≡ true) ⊎ (bytes_eq (state_word Next f.depth k) (spell f.depth a) ≡ true)
        ⊎ (declares (transition_locals f Strong k 0 unless) (spell f.depth a) ≡ true) ⊎ (is_name (map (value_name f.depth k) f.names) (spell f.depth a) ≡ true)
        → declares (state_locals tys f k unless) (spell f.depth a) ≡ true
    state_declares tys k unless a (inl h) = or_left _ _ h
    state_declares tys k unless a (inr (inl h)) = or_right (bytes_eq (state_word From f.depth k) (spell f.depth a)) _ (or_left _ _ h)
    state_declares tys k unless a (inr (inr (inl h))) =
        or_right (bytes_eq (state_word From f.depth k) (spell f.depth a)) _ (or_right (bytes_eq (state_word On f.depth k) (spell f.depth a)) _ (or_left _ _ h))
    state_declares tys k unless a (inr (inr (inr (inl h)))) =
        or_right (bytes_eq (state_word From f.depth k) (spell f.depth a)) _ (or_right (bytes_eq (state_word On f.depth k) (spell f.depth a)) _ (or_right (bytes_eq (state_word Next f.depth k) (spell f.depth a)) _
        (declares_append (transition_locals f Strong k 0 unless) (map (value_local tys f k) f.names) (spell f.depth a) ∙ or_left _ _ h)))
    state_declares tys k unless a (inr (inr (inr (inr h)))) =
        or_right (bytes_eq (state_word From f.depth k) (spell f.depth a)) _ (or_right (bytes_eq (state_word On f.depth k) (spell f.depth a)) _ (or_right (bytes_eq (state_word Next f.depth k) (spell f.depth a)) _
        (declares_append (transition_locals f Strong k 0 unless) (map (value_local tys f k) f.names) (spell f.depth a)
        ∙ or_right (declares (transition_locals f Strong k 0 unless) (spell f.depth a)) _ (values_declared tys f k f.names (spell f.depth a) ∙ h))))

    module _ (k : ℕ) (room : k < most) (q : List ℕ) (b : Block) (until unless : List Trans) (at : Span) (ss : States) (few : length unless < most) (rest : Names) where
      abbrev here : Bool
      here = stands_from k (more_states q b until unless at ss) j.state

      -- a name of a later state is looked for there
      passes_state : (a : New) → HasRoom a → FromState (k + 1) a → with_states k (more_states q b until unless at ss) rest (spell f.depth a) ≡ with_states (k + 1) ss rest (spell f.depth a)
      passes_state a h g =
          choose_false _ _ _ (names_differ f.depth (of_state From k) a room h (later_differs k (of_state From k) a refl g))
          ∙ choose_false _ _ _ (names_differ f.depth (of_state On k) a room h (later_differs k (of_state On k) a refl g))
          ∙ choose_false _ _ _ (names_differ f.depth (of_state Next k) a room h (later_differs k (of_state Next k) a refl g))
          ∙ passes_choices types f Strong k all names last sel 0 unless (with_values k here f.names (with_states (k + 1) ss rest)) (spell f.depth a) (omega arith)
          (λ i l m e. later_differs k (of_transition Strong k i) a refl g (told f.depth (of_transition Strong k i) a (room, m) h e))
          ∙ passes_values k room here f.names old (with_states (k + 1) ss rest) a h (λ x e. later_differs k (value k x) a refl g e)

      from_here : with_states k (more_states q b until unless at ss) rest (state_word From f.depth k) ≡ I (pos (code_of (strong_pure types all (more_states q b until unless at ss) k names last sel)))
      from_here = choose_true _ _ _ (bytes_same (state_word From f.depth k))

      on_here : with_states k (more_states q b until unless at ss) rest (state_word On f.depth k) ≡ B (nat_eq k j.state)
      on_here = choose_true _ _ _ (bytes_same (state_word On f.depth k))

      next_is_here : with_states k (more_states q b until unless at ss) rest (state_word Next f.depth k) ≡ next_here here
      next_is_here = choose_true _ _ _ (bytes_same (state_word Next f.depth k))

      value_is_here : (x : List ℕ) → is_name f.names x ≡ true → with_states k (more_states q b until unless at ss) rest (value_name f.depth k x) ≡ value_here here x
      value_is_here x h =
          choose_false _ _ _ (names_differ f.depth (of_state From k) (value k x) room (room, old x h) (λ e. absurd cc))
          ∙ choose_false _ _ _ (names_differ f.depth (of_state On k) (value k x) room (room, old x h) (λ e. absurd cc))
          ∙ choose_false _ _ _ (names_differ f.depth (of_state Next k) (value k x) room (room, old x h) (λ e. absurd cc))
          ∙ passes_choices types f Strong k all names last sel 0 unless (with_values k here f.names (with_states (k + 1) ss rest)) (value_name f.depth k x) (omega arith)
          (λ i l m e. value_not (told f.depth (of_transition Strong k i) (value k x) (room, m) (room, old x h) e))
          ∙ finds_value k room here f.names old (with_states (k + 1) ss rest) x h
        where
          value_not : {i : ℕ} → of_transition Strong k i ≡ value k x → ⊥
          value_not e = absurd cc

      choices_here : (i : ℕ) → i < most → with_states k (more_states q b until unless at ss) rest (transition_word Strong f.depth k i) ≡ with_choices types f Strong k all names last sel 0 unless (with_values k here f.names (with_states (k + 1) ss rest)) (transition_word Strong f.depth k i)
      choices_here i m = refl

    -- Names that have what stands in the table where it stands know the words.
    pub states_known : (outer : Known) (e : ℕ) (tys : Types) (names' rest : Names) (k : ℕ) (ss : States) → StatesOk all outer e ss → k + count_of ss ≤ most
        → ((a : New) → HasRoom a → FromState k a → declares (locals_from tys f k ss) (spell f.depth a) ≡ true → names' (spell f.depth a) ≡ with_states k ss rest (spell f.depth a)) → KnowsStates names' k ss
    states_known outer e tys names' rest k no_state ok room h = tt
    states_known outer e tys names' rest k (more_states q b until unless at ss) ok room h =
        let small : k < most = omega arith in
        let few : length unless < most = ok.0.2.1 in
        let local : (y : List ℕ) → declares (state_locals tys f k unless) y ≡ true → declares (state_locals tys f k unless ++ locals_from tys f (k + 1) ss) y ≡ true =
        λ y g. declares_append (state_locals tys f k unless) (locals_from tys f (k + 1) ss) y ∙ or_left _ _ g in (
          h (of_state From k) small (omega arith) (local (state_word From f.depth k) (state_declares tys k unless (of_state From k) (inl (bytes_same (state_word From f.depth k))))) ∙ from_here k small q b until unless at ss few rest,
          h (of_state On k) small (omega arith) (local (state_word On f.depth k) (state_declares tys k unless (of_state On k) (inr (inl (bytes_same (state_word On f.depth k)))))) ∙ on_here k small q b until unless at ss few rest,
          h (of_state Next k) small (omega arith) (local (state_word Next f.depth k) (state_declares tys k unless (of_state Next k) (inr (inr (inl (bytes_same (state_word Next f.depth k))))))) ∙ next_is_here k small q b until unless at ss few rest,
          (λ x g. h (value k x) (small, old x g) (omega arith) (local (value_name f.depth k x) (state_declares tys k unless (value k x) (inr (inr (inr (inr (map_name (value_name f.depth k) f.names x g)))))))
              ∙ value_is_here k small q b until unless at ss few rest x g),
          choices_known types f Strong k all names last sel small names' (with_values k (stands_from k (more_states q b until unless at ss) j.state) f.names (with_states (k + 1) ss rest)) 0 unless (omega arith)
              (λ i l m g. h (of_transition Strong k i) (small, m) (omega arith) (local (transition_word Strong f.depth k i) (state_declares tys k unless (of_transition Strong k i) (inr (inr (inr (inl g))))))
              ∙ choices_here k small q b until unless at ss few rest i m),
          states_known outer e tys names' rest (k + 1) ss ok.1 (omega arith)
              (λ a has g defined. h a has (from_earlier a g) (declares_append (state_locals tys f k unless) (locals_from tys f (k + 1) ss) (spell f.depth a) ∙ or_right (declares (state_locals tys f k unless) (spell f.depth a)) _ defined)
              ∙ passes_state k small q b until unless at ss few rest a has g),
        )
      where
        from_earlier : (a : New) → FromState (k + 1) a → FromState k a
        from_earlier (word v) g = g
        from_earlier (of_state v i) g = omega arith
        from_earlier (of_transition v i m) g = omega arith
        from_earlier (value i x) g = omega arith

    -- a name that is no new one is looked for further out
    pub passes_states : (outer : Known) (e : ℕ) (rest : Names) (y : List ℕ) → ((a : New) → HasRoom a → spell f.depth a ≡ y → ⊥) → (k : ℕ) (ss : States) → StatesOk all outer e ss → k + count_of ss ≤ most → with_states k ss rest y ≡ rest y
    passes_states outer e rest y h k no_state ok room = refl
    passes_states outer e rest y h k (more_states q b until unless at ss) ok room =
        let small : k < most = omega arith in
        choose_false _ _ _ (bytes_differ _ y (h (of_state From k) small))
        ∙ choose_false _ _ _ (bytes_differ _ y (h (of_state On k) small))
        ∙ choose_false _ _ _ (bytes_differ _ y (h (of_state Next k) small))
        ∙ passes_choices types f Strong k all names last sel 0 unless (with_values k (stands_from k (more_states q b until unless at ss) j.state) f.names (with_states (k + 1) ss rest)) y (omega (arith, ok.0.2.1))
        (λ i l m. h (of_transition Strong k i) (small, m))
        ∙ passes_here k small (stands_from k (more_states q b until unless at ss) j.state) f.names old (with_states (k + 1) ss rest)
        ∙ passes_states outer e rest y h (k + 1) ss ok.1 (omega arith)
      where
        passes_here : (k : ℕ) → k < most → (t : Bool) (xs : List (List ℕ)) → ((x : List ℕ) → is_name xs x ≡ true → IsOld x) → (rest : Names) → with_values k t xs rest y ≡ rest y
        passes_here k room t [] o rest = refl
        passes_here k room t (x ∷ xs) o rest =
            choose_false (bytes_eq (value_name f.depth k x) y) _ _ (bytes_differ _ y (h (value k x) (room, o x (name_first x xs x ∙ or_left (bytes_eq x x) (is_name xs x) (bytes_same x)))))
            ∙ passes_here k room t xs (λ z q. o z (name_first x xs z ∙ or_right (bytes_eq x z) (is_name xs z) q)) rest

-- each word that is declared is defined
module _ (enums : Enumerations) (to : List ℕ → List ℕ) (tys : Types) (f : Frame) where
  word_or : (b : Bool) → b ≡ true → ((b || false) || false) ≡ true
  word_or true h = refl
  word_or false h = absurd cc

  switch_complete : (k : ℕ) (body : Block) (y : List ℕ) → hands f k y ≡ true → defines (state_switch f k body (idle enums tys f k)) y ≡ true
  switch_complete k body y h = or_right ((block_defines body y || false) && true) _ (or_left _ _ (idle_hands enums tys f k y ∙ h))

  state_complete : (k : ℕ) (unless : List Trans) (body : Block) (y : List ℕ) → declares (state_locals tys f k unless) y ≡ true → some_defines (eqns_of (state_eqns to f k unless body (idle enums tys f k))) y ≡ true
  state_complete k unless body y h = some_append (choosing_eqns to f k unless) _ y ∙ from_or (or_cases (bytes_eq (state_word From f.depth k) y) _ h)
    where
      cs : List Eqn
      cs = choices to f Strong k (length unless) (pending_of f) 0 unless

      strong_by : some_defines (eqns_of (strong_eqns to f k unless)) y ≡ true → (some_defines (eqns_of (choosing_eqns to f k unless)) y || (defines (state_switch f k body (idle enums tys f k)) y || false)) ≡ true
      strong_by q = or_left _ _ (some_append (strong_eqns to f k unless) _ y ∙ or_left _ _ q)

      switch_by : hands f k y ≡ true → (some_defines (eqns_of (choosing_eqns to f k unless)) y || (defines (state_switch f k body (idle enums tys f k)) y || false)) ≡ true
      switch_by q = or_right (some_defines (eqns_of (choosing_eqns to f k unless)) y) _ (or_left _ _ (switch_complete k body y q))

      last_or : (declares (transition_locals f Strong k 0 unless) y ≡ true) ⊎ (declares (map (value_local tys f k) f.names) y ≡ true) → (some_defines (eqns_of (choosing_eqns to f k unless)) y || (defines (state_switch f k body (idle enums tys f k)) y || false)) ≡ true
      last_or (inl q) =
          strong_by (some_append (choices to f Strong k (length unless) (pending_of f) 0 unless) _ y ∙ or_left _ _ (choices_declared to f Strong k (length unless) (pending_of f) 0 unless y ∙ q))
      last_or (inr q) = switch_by (or_right (bytes_eq (state_word Next f.depth k) y) _ (sym (values_declared tys f k f.names y) ∙ q))

      next_or : (bytes_eq (state_word Next f.depth k) y ≡ true) ⊎ (declares (transition_locals f Strong k 0 unless ++ map (value_local tys f k) f.names) y ≡ true) → (some_defines (eqns_of (choosing_eqns to f k unless)) y || (defines (state_switch f k body (idle enums tys f k)) y || false)) ≡ true
      next_or (inl q) = switch_by (or_left (bytes_eq (state_word Next f.depth k) y) _ q)
      next_or (inr q) = last_or (or_cases (declares (transition_locals f Strong k 0 unless) y) _ (sym (declares_append (transition_locals f Strong k 0 unless) (map (value_local tys f k) f.names) y) ∙ q))

      on_or : (bytes_eq (state_word On f.depth k) y ≡ true) ⊎ ((bytes_eq (state_word Next f.depth k) y || declares (transition_locals f Strong k 0 unless ++ map (value_local tys f k) f.names) y) ≡ true)
          → (some_defines (eqns_of (choosing_eqns to f k unless)) y || (defines (state_switch f k body (idle enums tys f k)) y || false)) ≡ true
      on_or (inl q) = or_left _ _ (some_append (strong_eqns to f k unless) _ y ∙ or_right (some_defines (eqns_of (strong_eqns to f k unless)) y) _ (word_or _ q))
      on_or (inr q) = next_or (or_cases (bytes_eq (state_word Next f.depth k) y) _ q)

      from_or : (bytes_eq (state_word From f.depth k) y ≡ true) ⊎ ((bytes_eq (state_word On f.depth k) y || (bytes_eq (state_word Next f.depth k) y || declares (transition_locals f Strong k 0 unless ++ map (value_local tys f k) f.names) y)) ≡ true)
          → (some_defines (eqns_of (choosing_eqns to f k unless)) y || (defines (state_switch f k body (idle enums tys f k)) y || false)) ≡ true
      from_or (inl q) =
          strong_by (some_append (choices to f Strong k (length unless) (pending_of f) 0 unless) _ y ∙ or_right (some_defines (eqns_of (choices to f Strong k (length unless) (pending_of f) 0 unless)) y) _ (word_or _ q))
      from_or (inr q) = on_or (or_cases (bytes_eq (state_word On f.depth k) y) _ q)

  pub states_complete : (k : ℕ) (ss : States) (y : List ℕ) → declares (locals_from tys f k ss) y ≡ true → some_defines (eqns_of (lowered_states enums to tys f k ss)) y ≡ true
  states_complete k no_state y h = absurd cc
  states_complete k (more_states q b until unless at ss) y h =
      some_append (state_eqns to f k unless (lowered_body enums to tys f k b until) (idle enums tys f k)) (lowered_states enums to tys f (k + 1) ss) y
      ∙ by (or_cases (declares (state_locals tys f k unless) y) _ (sym (declares_append (state_locals tys f k unless) (locals_from tys f (k + 1) ss) y) ∙ h)) (states_complete (k + 1) ss y)
    where
      by : (declares (state_locals tys f k unless) y ≡ true) ⊎ (declares (locals_from tys f (k + 1) ss) y ≡ true) → (declares (locals_from tys f (k + 1) ss) y ≡ true → some_defines (eqns_of (lowered_states enums to tys f (k + 1) ss)) y ≡ true)
          → (some_defines (eqns_of (state_eqns to f k unless (lowered_body enums to tys f k b until) (idle enums tys f k))) y || some_defines (eqns_of (lowered_states enums to tys f (k + 1) ss)) y) ≡ true
      by (inl p) r = or_left _ _ (state_complete k unless (lowered_body enums to tys f k b until) y p)
      by (inr p) r = or_right (some_defines (eqns_of (state_eqns to f k unless (lowered_body enums to tys f k b until) (idle enums tys f k))) y) _ (r p)

-- ---- numbers of states

pub stands_above : (k : ℕ) (ss : States) (n : ℕ) → stands_from k ss n ≡ true → k ≤ n
stands_above k no_state n h = absurd cc
stands_above k (more_states f b until unless p ss) n h = by (nat_eq k n) refl h (stands_above (k + 1) ss n)
  where
    by : (t : Bool) → nat_eq k n ≡ t → (if t then true else stands_from (k + 1) ss n) ≡ true → (stands_from (k + 1) ss n ≡ true → k + 1 ≤ n) → k ≤ n
    by true e h r = let same : k ≡ n = eqb-true k n e in omega arith
    by false e h r = let later = r h in omega arith

pub stands_below : (k : ℕ) (ss : States) (n : ℕ) → k ≤ n → n < k + count_of ss → stands_from k ss n ≡ true
stands_below k no_state n l h = absurd (omega arith)
stands_below k (more_states f b until unless p ss) n l h = by (nat_eq k n) refl (λ q. stands_below (k + 1) ss n q (omega arith))
  where
    by : (t : Bool) → nat_eq k n ≡ t → (k + 1 ≤ n → stands_from (k + 1) ss n ≡ true) → (if t then true else stands_from (k + 1) ss n) ≡ true
    by true e r = refl
    by false e r = r (grind (arith, nat_tests))
