-- A program without automata is plain: names are declared once, what is declared is defined, and each name has one equation in its block.
use Rattle.std.proofs.Common.{◌≡◌, ℕ, ◌+◌, ◌<◌, ◌≤◌, ◌⊎◌, inl, inr, ⊎_elim, Bool, true, false, ◌||◌, ◌&&◌, not, if◌then◌else◌, List, [], ◌∷◌, ◌++◌, map, length, refl, sym, ap, ◌∙◌, subst, arith}
use Rattle.std.specs.Str.{bytes_eq}
use Rattle.hp_base.specs.declared.span.Span.{Span}
use Rattle.hp_tree.specs.declared.block.Trans.{Trans}
use Rattle.hp_tree.specs.Expressions.{Expr}
use Rattle.hp_tree.specs.Blocks.{Decl, Block, block, Eqns, no_eqn, more_eqns, Eqn, define, switch, reset, automaton, Arms, no_arm, more_arms, States, no_state, more_states, eqns_of}
use Rattle.hp_tree.specs.Meaning.{is_among, declares, defines, some_defines, arms_define, states_define, block_defines}
use Rattle.hp_meaning.specs.Clocking.Clocking.{AreOnce}
use Rattle.law_judged.proofs.NamedLemmas.Sets.{once_append, false_if}
use Rattle.hp_automata.specs.declared.new_names.Word.{Word}
use Rattle.hp_automata.specs.declared.new_names.Word.TheVariants.{Jump, Next, From, On, Strong, Weak}
use Rattle.hp_automata.specs.NewNames.{word_name, state_word, transition_word, value_name}
use Rattle.hp_tables.specs.Defining.Names.{names_of_arms, names_of_states, outer_names}
use Rattle.hp_automata.specs.Names.{is_name, missing, once}
use Rattle.hp_automata.specs.Renaming.{renamed_decls, renamed_left}
use Rattle.hp_automata.specs.Lowering.{Types, Enumerations, declaring, Frame, frame, inner, kept, all_kept, transition_locals, choice, choices, locals_from, frame_locals, joined, idle_next, idle_value, idle, from_eqn, on_word, state_switch, strong_eqns, choosing_eqns, state_eqns, own_next, weak_eqns, stays, pending_of, jump_eqn, next_eqn, frame_eqns, lowered_block, lowered_eqns, lowered_eqn, lowered_arms, lowered_states, lowered_body, count_of, types_of}
use Rattle.law_automata.specs.Lowered.OldNames.{IsOld}
use Rattle.law_automata.specs.Lowered.Removable.{Known, and_defined, BlockOk, EqnsOk, EqnOk, ArmsOk, StatesOk, most, deepest}
use Rattle.law_automata.proofs.LoweredLemmas.Spelling.{New, word, of_state, of_transition, value, spell, HasRoom}
use Rattle.law_automata.proofs.LoweredLemmas.Apart.{told, same_bytes, bytes_same, new_is_new}
use Rattle.law_automata.proofs.LoweredLemmas.Defined.{eqns_complete}
use Rattle.law_automata.proofs.LoweredLemmas.Lookups.{hands, idle_hands, eqn_old, names_of_frame, names_of_switch, eqns_sound, eqn_sound, body_sound, states_sound, choices_declared}
use Rattle.law_automata.proofs.LoweredLemmas.Nodes.{itself_renames}
use Rattle.law_automata.proofs.LoweredLemmas.Renaming.{Renames, to_apart, to_one, declares_renamed, local, local_kept, inner_renames, within_renames}
use Rattle.law_automata.proofs.LoweredLemmas.StateWords.{states_complete}
use Rattle.law_automata.proofs.LoweredLemmas.Tests.{or_left, or_right, or_cases, or_none, or_first, or_second, and_first, and_second, not_true, name_first, name_missing, names_outer, some_append, declares_append, true_false}
use Rattle.law_equations.specs.Made.Blocks.{LeftsOnce, DeclaredOnce, IsPlain, ArePlain, OnePlain, ArmsPlain}
use Rattle.law_automata.specs.Readied.Single.{BlockSingle, EqnsSingle, EqnSingle, ArmsSingle, StatesSingle}
use Rattle.law_automata.specs.Readied.Laws.{PlainLaw}
use Rattle.law_automata.proofs.ReadiedLemmas.NewWords.{FromState, Only, told_apart, one_only, either_only, weaker_only, Transition, StateWord, ValueOf, Here, FrameWord, transition_here, word_here, value_here, here_later, frame_later, words_apart, word_transition, word_value, transition_value, from_not_on, from_not_next, on_not_next, next_not_jump, Distinct, distinct_once, distinct_missing, transitions_only, transitions_once, transition_not_later, locals_only, frame_once}

-- ---- declarations

pub declared_once : (ds : List Decl) → AreOnce ds → DeclaredOnce ds
declared_once [] h = tt
declared_once (d ∷ ds) h = (h.0, declared_once ds h.1)

pub once_renamed : (to : List ℕ → List ℕ) (ds : List Decl) → AreOnce ds → AreOnce (renamed_decls to ds)
once_renamed to [] h = tt
once_renamed to (d ∷ ds) h = (declares_renamed to ds d.name ∙ h.0, once_renamed to ds h.1)

-- ---- equations in a list

abbrev pub ListPlain : List Eqn → Type 0
ListPlain es = ArePlain (eqns_of es)

-- no name is defined by both
abbrev pub Apart : Known → Known → Type 0
Apart p q = (y : List ℕ) → p y ≡ true → q y ≡ true → ⊥

pub plain_both : (a b : List Eqn) → ListPlain a → ListPlain b → Apart (some_defines (eqns_of a)) (some_defines (eqns_of b)) → ListPlain (a ++ b)
plain_both [] b p q n = q
plain_both (e ∷ a) b p q n = (
  λ x h. some_append a b x ∙ or_none (some_defines (eqns_of a) x) (some_defines (eqns_of b) x) (p.0 x h) (false_if (some_defines (eqns_of b) x) (λ t. n x (or_left (defines e x) (some_defines (eqns_of a) x) h) t)),
  (p.1.0, plain_both a b p.1.1 q (λ y s t. n y (or_right (defines e y) (some_defines (eqns_of a) y) s) t)),
)

-- one equation and others
plain_more : (e : Eqn) (es : List Eqn) → OnePlain e → ListPlain es → Apart (defines e) (some_defines (eqns_of es)) → ListPlain (e ∷ es)
plain_more e es p q n = ((λ x h. false_if (some_defines (eqns_of es) x) (λ t. n x h t)), (p, q))

plain_one : (e : Eqn) → OnePlain e → ListPlain (e ∷ [])
plain_one e p = ((λ x h. refl), (p, tt))

no_more : (b : Bool) → (b || false) ≡ true → b ≡ true
no_more true h = refl
no_more false h = h

-- equations of one name each
module _ (g : List ℕ → List ℕ) (e : List ℕ → Eqn) (one : (x : List ℕ) → OnePlain (e x)) (defined : (x y : List ℕ) → defines (e x) y ≡ true → g x ≡ y) where
  mapped_defines : (xs : List (List ℕ)) (y : List ℕ) → some_defines (eqns_of (map e xs)) y ≡ true → (x : List ℕ) × ((is_name xs x ≡ true) × (g x ≡ y))
  mapped_defines [] y h = absurd cc
  mapped_defines (x ∷ xs) y h = by (or_cases (defines (e x) y) (some_defines (eqns_of (map e xs)) y) h) (mapped_defines xs y)
    where
      by : (defines (e x) y ≡ true) ⊎ (some_defines (eqns_of (map e xs)) y ≡ true) → (some_defines (eqns_of (map e xs)) y ≡ true → (z : List ℕ) × ((is_name xs z ≡ true) × (g z ≡ y))) → (z : List ℕ) × ((is_name (x ∷ xs) z ≡ true) × (g z ≡ y))
      by (inl q) rest = (x, (name_first x xs x ∙ or_left (bytes_eq x x) (is_name xs x) (bytes_same x), defined x y q))
      by (inr q) rest = let m = rest q in (m.0, (name_first x xs m.0 ∙ or_right (bytes_eq x m.0) (is_name xs m.0) m.1.0, m.1.1))

  each_plain : (xs : List (List ℕ)) → Distinct xs → ((x z : List ℕ) → is_name xs x ≡ true → is_name xs z ≡ true → g x ≡ g z → x ≡ z) → ListPlain (map e xs)
  each_plain [] h inj = tt
  each_plain (x ∷ xs) h inj = plain_more (e x) (map e xs) (one x) (each_plain xs h.1 (λ a b s t q. inj a b (further a s) (further b t) q)) apart
    where
      further : (z : List ℕ) → is_name xs z ≡ true → is_name (x ∷ xs) z ≡ true
      further z s = name_first x xs z ∙ or_right (bytes_eq x z) (is_name xs z) s

      here : is_name (x ∷ xs) x ≡ true
      here = name_first x xs x ∙ or_left (bytes_eq x x) (is_name xs x) (bytes_same x)

      apart : Apart (defines (e x)) (some_defines (eqns_of (map e xs)))
      apart y s t =
          let m = mapped_defines xs y t in
          let same : x ≡ m.0 = inj x m.0 here (further m.0 m.1.0) (defined x y s ∙ sym m.1.1) in
          true_false (is_name xs x) (subst (λ z. is_name xs z ≡ true) (sym same) m.1.0) h.0

alone : (x y : List ℕ) → (bytes_eq x y || false) ≡ true → x ≡ y
alone x y h = same_bytes x y (no_more (bytes_eq x y) h)

-- ---- the words of a state

module _ (f : Frame) where
  choices_only : (to : List ℕ → List ℕ) (w : Word) (k n : ℕ) (end : Expr) (j : ℕ) (ts : List Trans) → k < most → j + length ts ≤ most → Only f.depth (Transition w k j) (some_defines (eqns_of (choices to f w k n end j ts)))
  choices_only to w k n end j ts r l y h = transitions_only f w k j ts r l y (sym (choices_declared to f w k n end j ts y) ∙ h)

  choices_plain : (to : List ℕ → List ℕ) (w : Word) (k n : ℕ) (end : Expr) (j : ℕ) (ts : List Trans) → k < most → j + length ts ≤ most → ListPlain (choices to f w k n end j ts)
  choices_plain to w k n end j [] r l = tt
  choices_plain to w k n end j (t ∷ ts) r l =
      plain_more (choice to f w k n end j t) (choices to f w k n end (j + 1) ts) (refl, tt) (choices_plain to w k n end (j + 1) ts r (omega (arith, l)))
      (λ y s q. true_false (declares (transition_locals f w k (j + 1) ts) y) (sym (choices_declared to f w k n end (j + 1) ts y) ∙ q)
      (subst (λ z. declares (transition_locals f w k (j + 1) ts) z ≡ false) (alone (transition_word w f.depth k j) y s) (transition_not_later f w k j ts r l)))

  -- what a state hands on
  abbrev Handed : ℕ → New → Type 0
  Handed k a = StateWord Next k a ⊎ ValueOf k (is_name f.names) a

  names_only : (k : ℕ) (xs : List (List ℕ)) → k < most → ((x : List ℕ) → is_name xs x ≡ true → IsOld x) → (y : List ℕ) → is_name (map (value_name f.depth k) xs) y ≡ true → (a : New) × (HasRoom a × (ValueOf k (is_name xs) a × (spell f.depth a ≡ y)))
  names_only k [] r o y h = absurd cc
  names_only k (x ∷ xs) r o y h =
      by (or_cases (bytes_eq (value_name f.depth k x) y) (is_name (map (value_name f.depth k) xs) y) (sym (name_first (value_name f.depth k x) (map (value_name f.depth k) xs) y) ∙ h)) (names_only k xs r (λ z s. o z (further z s)) y)
    where
      further : (z : List ℕ) → is_name xs z ≡ true → is_name (x ∷ xs) z ≡ true
      further z s = name_first x xs z ∙ or_right (bytes_eq x z) (is_name xs z) s

      here : is_name (x ∷ xs) x ≡ true
      here = name_first x xs x ∙ or_left (bytes_eq x x) (is_name xs x) (bytes_same x)

      more : (a : New) → ValueOf k (is_name xs) a → ValueOf k (is_name (x ∷ xs)) a
      more (word v) q = q
      more (of_state v i) q = q
      more (of_transition v i m) q = q
      more (value i z) q = (q.0, further z q.1)

      by : (bytes_eq (value_name f.depth k x) y ≡ true) ⊎ (is_name (map (value_name f.depth k) xs) y ≡ true)
          → (is_name (map (value_name f.depth k) xs) y ≡ true → (a : New) × (HasRoom a × (ValueOf k (is_name xs) a × (spell f.depth a ≡ y)))) → (a : New) × (HasRoom a × (ValueOf k (is_name (x ∷ xs)) a × (spell f.depth a ≡ y)))
      by (inl q) rest = (value k x, ((r, o x here), ((refl, here), same_bytes (value_name f.depth k x) y q)))
      by (inr q) rest = let a = rest q in (a.0, (a.1.0, (more a.0 a.1.1.0, a.1.1.1)))

  hands_only : (k : ℕ) → k < most → ((x : List ℕ) → is_name f.names x ≡ true → IsOld x) → Only f.depth (Handed k) (hands f k)
  hands_only k r o =
      either_only f.depth (Handed k) (bytes_eq (state_word Next f.depth k)) (is_name (map (value_name f.depth k) f.names)) (one_only f.depth (Handed k) (of_state Next k) r (inl (refl, refl)))
      (weaker_only f.depth (ValueOf k (is_name f.names)) (Handed k) (λ a q. inr q) (is_name (map (value_name f.depth k) f.names)) (names_only k f.names r o))

  word_handed : (v : Word) (k : ℕ) → (v ≡ Next → ⊥) → (a : New) → StateWord v k a → Handed k a → ⊥
  word_handed v k n a h (inl q) = words_apart v Next k n a h q
  word_handed v k n a h (inr q) = word_value v k (is_name f.names) a h q

  transition_handed : (w : Word) (k j : ℕ) (a : New) → Transition w k j a → Handed k a → ⊥
  transition_handed w k j a h (inl q) = word_transition Next w k j a q h
  transition_handed w k j a h (inr q) = transition_value w k j (is_name f.names) a h q

  handed_here : (k : ℕ) (a : New) → Handed k a → Here k a
  handed_here k a (inl q) = word_here Next k a q
  handed_here k a (inr q) = value_here k (is_name f.names) a q

  -- values of two names are two
  value_inj : (k : ℕ) → k < most → (xs : List (List ℕ)) → ((x : List ℕ) → is_name xs x ≡ true → IsOld x) → (x z : List ℕ) → is_name xs x ≡ true → is_name xs z ≡ true → value_name f.depth k x ≡ value_name f.depth k z → x ≡ z
  value_inj k r xs o x z s t e = ap of_value (told f.depth (value k x) (value k z) (r, o x s) (r, o z t) e)
    where
      of_value : New → List ℕ
      of_value (word v) = []
      of_value (of_state v i) = []
      of_value (of_transition v i m) = []
      of_value (value i x) = x

  module _ (enums : Enumerations) (tys : Types) where
    values_plain : (k : ℕ) → k < most → ((x : List ℕ) → is_name f.names x ≡ true → IsOld x) → Distinct f.names → ListPlain (map (idle_value enums tys f k) f.names)
    values_plain k r o h = each_plain (value_name f.depth k) (idle_value enums tys f k) (λ x. (refl, tt)) (λ x y q. alone (value_name f.depth k x) y q) f.names h (value_inj k r f.names o)

    idle_plain : (k : ℕ) → k < most → ((x : List ℕ) → is_name f.names x ≡ true → IsOld x) → Distinct f.names → IsPlain (idle enums tys f k)
    idle_plain k r o h = (
      tt,
      (λ x q. absurd cc),
      plain_more (idle_next f k) (map (idle_value enums tys f k) f.names) (refl, tt) (values_plain k r o h)
          (λ y s t.
          let m = mapped_defines (value_name f.depth k) (idle_value enums tys f k) (λ x. (refl, tt)) (λ x z q. alone (value_name f.depth k x) z q) f.names y t in
          told_apart f.depth (StateWord Next k) (ValueOf k (is_name f.names)) (word_value Next k (is_name f.names)) (bytes_eq (state_word Next f.depth k)) (bytes_eq (value_name f.depth k m.0))
          (one_only f.depth (StateWord Next k) (of_state Next k) r (refl, refl)) (one_only f.depth (ValueOf k (is_name f.names)) (value k m.0) (r, o m.0 m.1.0) (refl, m.1.0)) y
          (no_more (bytes_eq (state_word Next f.depth k) y) s) (subst (λ z. bytes_eq (value_name f.depth k m.0) z ≡ true) m.1.1 (bytes_same (value_name f.depth k m.0)))),
    )

    -- the equations of a state, whose body is plain and defines what the state hands on
    module _ (to : List ℕ → List ℕ) (k : ℕ) (unless : List Trans) (body : Block) (r : k < most) (l : length unless < most) (o : (x : List ℕ) → is_name f.names x ≡ true → IsOld x) (h : Distinct f.names) (known : (y : List ℕ) → block_defines body y ≡ true → hands f k y ≡ true) where
      abbrev other : Block
      other = idle enums tys f k

      switch_only : Only f.depth (Handed k) (defines (state_switch f k body other))
      switch_only y q = hands_only k r o y (by (or_cases ((block_defines body y || false) && true) (block_defines other y || false) q))
        where
          by : (((block_defines body y || false) && true) ≡ true) ⊎ ((block_defines other y || false) ≡ true) → hands f k y ≡ true
          by (inl p) = known y (no_more (block_defines body y) (and_first (block_defines body y || false) true p))
          by (inr p) = sym (idle_hands enums tys f k y) ∙ no_more (block_defines other y) p

      abbrev one_from : Eqn
      one_from = from_eqn f k Strong (length unless) (pending_of f)

      abbrev strong : List Eqn
      strong = choices to f Strong k (length unless) (pending_of f) 0 unless

      from_only : Only f.depth (StateWord From k) (some_defines (eqns_of (one_from ∷ [])))
      from_only y q = one_only f.depth (StateWord From k) (of_state From k) r (refl, refl) y (no_more (bytes_eq (state_word From f.depth k) y) (no_more (bytes_eq (state_word From f.depth k) y || false) q))

      on_only : Only f.depth (StateWord On k) (some_defines (eqns_of (on_word f k ∷ [])))
      on_only y q = one_only f.depth (StateWord On k) (of_state On k) r (refl, refl) y (no_more (bytes_eq (state_word On f.depth k) y) (no_more (bytes_eq (state_word On f.depth k) y || false) q))

      strong_only : Only f.depth (Transition Strong k 0) (some_defines (eqns_of strong))
      strong_only = choices_only to Strong k (length unless) (pending_of f) 0 unless r (omega (arith, l))

      abbrev Chosen : New → Type 0
      Chosen a = Transition Strong k 0 a ⊎ StateWord From k a

      chosen_only : Only f.depth Chosen (some_defines (eqns_of (strong_eqns to f k unless)))
      chosen_only y q =
          ⊎_elim (λ s. weaker_only f.depth (Transition Strong k 0) Chosen (λ a p. inl p) (some_defines (eqns_of strong)) strong_only y s)
          (λ s. weaker_only f.depth (StateWord From k) Chosen (λ a p. inr p) (some_defines (eqns_of (one_from ∷ []))) from_only y s)
          (or_cases (some_defines (eqns_of strong) y) _ (sym (some_append strong (one_from ∷ []) y) ∙ q))

      strong_plain : ListPlain (strong_eqns to f k unless)
      strong_plain =
          plain_both strong (one_from ∷ []) (choices_plain to Strong k (length unless) (pending_of f) 0 unless r (omega (arith, l))) (plain_one one_from (refl, tt))
          (told_apart f.depth (Transition Strong k 0) (StateWord From k) (λ a p q. word_transition From Strong k 0 a q p) (some_defines (eqns_of strong)) (some_defines (eqns_of (one_from ∷ []))) strong_only from_only)

      chosen_on : (a : New) → Chosen a → StateWord On k a → ⊥
      chosen_on a (inl p) q = word_transition On Strong k 0 a q p
      chosen_on a (inr p) q = words_apart From On k from_not_on a p q

      choosing_plain : ListPlain (choosing_eqns to f k unless)
      choosing_plain =
          plain_both (strong_eqns to f k unless) (on_word f k ∷ []) strong_plain (plain_one (on_word f k) (refl, tt))
          (told_apart f.depth Chosen (StateWord On k) chosen_on (some_defines (eqns_of (strong_eqns to f k unless))) (some_defines (eqns_of (on_word f k ∷ []))) chosen_only on_only)

      abbrev Choosing : New → Type 0
      Choosing a = Chosen a ⊎ StateWord On k a

      choosing_only : Only f.depth Choosing (some_defines (eqns_of (choosing_eqns to f k unless)))
      choosing_only y q =
          ⊎_elim (λ s. weaker_only f.depth Chosen Choosing (λ a p. inl p) (some_defines (eqns_of (strong_eqns to f k unless))) chosen_only y s)
          (λ s. weaker_only f.depth (StateWord On k) Choosing (λ a p. inr p) (some_defines (eqns_of (on_word f k ∷ []))) on_only y s)
          (or_cases (some_defines (eqns_of (strong_eqns to f k unless)) y) _ (sym (some_append (strong_eqns to f k unless) (on_word f k ∷ []) y) ∙ q))

      choosing_handed : (a : New) → Choosing a → Handed k a → ⊥
      choosing_handed a (inl (inl p)) q = transition_handed Strong k 0 a p q
      choosing_handed a (inl (inr p)) q = word_handed From k from_not_next a p q
      choosing_handed a (inr p) q = word_handed On k on_not_next a p q

      one_switch_only : Only f.depth (Handed k) (some_defines (eqns_of (state_switch f k body other ∷ [])))
      one_switch_only y q = switch_only y (no_more (defines (state_switch f k body other) y) q)

      chosen_here : (a : New) → Choosing a → Here k a
      chosen_here a (inl (inl p)) = transition_here k 0 a p
      chosen_here a (inl (inr p)) = word_here From k a p
      chosen_here a (inr p) = word_here On k a p

      pub state_here : Only f.depth (Here k) (some_defines (eqns_of (state_eqns to f k unless body other)))
      state_here y q =
          ⊎_elim (λ s. weaker_only f.depth Choosing (Here k) chosen_here (some_defines (eqns_of (choosing_eqns to f k unless))) choosing_only y s)
          (λ s. weaker_only f.depth (Handed k) (Here k) (handed_here k) (some_defines (eqns_of (state_switch f k body other ∷ []))) one_switch_only y s)
          (or_cases (some_defines (eqns_of (choosing_eqns to f k unless)) y) _ (sym (some_append (choosing_eqns to f k unless) (state_switch f k body other ∷ []) y) ∙ q))

      switch_plain : IsPlain body → OnePlain (state_switch f k body other)
      switch_plain p = ((tt, (λ x q. absurd cc), ((λ x q. refl), (p, tt))), (idle_plain k r o h, tt))

      state_plain : IsPlain body → ListPlain (state_eqns to f k unless body other)
      state_plain p =
          plain_both (choosing_eqns to f k unless) (state_switch f k body other ∷ []) choosing_plain (plain_one (state_switch f k body other) (switch_plain p))
          (told_apart f.depth Choosing (Handed k) choosing_handed (some_defines (eqns_of (choosing_eqns to f k unless))) (some_defines (eqns_of (state_switch f k body other ∷ []))) choosing_only one_switch_only)

-- ---- blocks

module _ (enums : Enumerations) where
  kept_single : (to : List ℕ → List ℕ) (s : Span) (x y : List ℕ) → defines (kept to s x) y ≡ true → to x ≡ y
  kept_single to s x y q = alone (to x) y q

  left_none : {outer : Known} {d : ℕ} {to : List ℕ → List ℕ} → Renames outer d to → (x : List ℕ) → IsOld x → (zs : List (List ℕ × Span)) → ((z : List ℕ) → is_among zs z ≡ true → IsOld z) → is_among zs x ≡ false → is_among (renamed_left to zs) (to x) ≡ true → ⊥
  left_none r x o [] p n t = absurd cc
  left_none {outer} {d} {to} r x o (z ∷ zs) p n t =
      ⊎_elim
      (λ q.
      let same : z.0 ≡ x = to_one r z.0 x (p z.0 (or_left (bytes_eq z.0 z.0) (is_among zs z.0) (bytes_same z.0))) o (same_bytes (to z.0) (to x) q) in
      true_false (bytes_eq z.0 x) (subst (λ w. bytes_eq z.0 w ≡ true) same (bytes_same z.0)) (or_first (bytes_eq z.0 x) (is_among zs x) n))
      (λ q. left_none r x o zs (λ w s. p w (or_right (bytes_eq z.0 w) (is_among zs w) s)) (or_second (bytes_eq z.0 x) (is_among zs x) n) q)
      (or_cases (bytes_eq (to z.0) (to x)) (is_among (renamed_left to zs) (to x)) t)

  left_single : {outer : Known} {d : ℕ} {to : List ℕ → List ℕ} → Renames outer d to → (ys : List (List ℕ × Span)) → ((x : List ℕ) → is_among ys x ≡ true → IsOld x) → LeftsOnce ys → LeftsOnce (renamed_left to ys)
  left_single r [] o h = tt
  left_single {outer} {d} {to} r (y ∷ ys) o h =
      let further : (x : List ℕ) → is_among ys x ≡ true → IsOld x = λ x q. o x (or_right (bytes_eq y.0 x) (is_among ys x) q) in
      (false_if (is_among (renamed_left to ys) (to y.0)) (λ t. left_none r y.0 (o y.0 (or_left (bytes_eq y.0 y.0) (is_among ys y.0) (bytes_same y.0))) ys further h.0 t), left_single r ys further h.1)

  -- names that are left to their last values, behind the equations of a block
  module _ {outer : Known} {d : ℕ} {to : List ℕ → List ℕ} (r : Renames outer d to) (tys : Types) (s : Span) (xs : List (List ℕ)) (ds : List Decl) (es : Eqns) (ok : BlockOk outer d (block ds es)) (own : (x : List ℕ) → is_name xs x ≡ true → outer x ≡ true) (old : (x : List ℕ) → is_name xs x ≡ true → IsOld x) (distinct : Distinct xs) where
    abbrev left : List (List ℕ)
    left = missing (is_name (outer_names (block ds es))) xs

    left_is : (x : List ℕ) → is_name left x ≡ true → (is_name xs x ≡ true) × (block_defines (block ds es) x ≡ false)
    left_is x h =
        let both : (is_name xs x && not (is_name (outer_names (block ds es)) x)) ≡ true = sym (name_missing (is_name (outer_names (block ds es))) xs x) ∙ h in
        (and_first (is_name xs x) _ both, sym (names_outer (block ds es) x) ∙ not_true (is_name (outer_names (block ds es)) x) (and_second (is_name xs x) _ both))

    left_old : (x : List ℕ) → is_name left x ≡ true → IsOld x
    left_old x h = old x (left_is x h).0

    pub left_plain : ListPlain (all_kept to s xs (block ds es))
    left_plain = each_plain to (kept to s) (λ x. (refl, tt)) (kept_single to s) left (distinct_missing (is_name (outer_names (block ds es))) xs distinct) (λ x z p q e. to_one r x z (left_old x p) (left_old z q) e)

    pub left_names : (y : List ℕ) → some_defines (eqns_of (all_kept to s xs (block ds es))) y ≡ true → (x : List ℕ) × ((is_name left x ≡ true) × (to x ≡ y))
    left_names y h = mapped_defines to (kept to s) (λ x. (refl, tt)) (kept_single to s) left y h

    -- a name that the block defines, is not left out
    not_left : (x : List ℕ) → some_defines es x ≡ true → is_name left x ≡ true → ⊥
    not_left x p q = by (declares ds x) refl
      where
        by : (t : Bool) → declares ds x ≡ t → ⊥
        by true e = true_false (outer x) (own x (left_is x q).0) (local outer es ds ok.0 x e).own
        by false e = true_false (block_defines (block ds es) x) (ap (λ t. t && not (declares ds x)) p ∙ ap not e) (left_is x q).1

    pub own_apart : Apart (some_defines (eqns_of (lowered_eqns enums to (declaring tys ds) d es))) (some_defines (eqns_of (all_kept to s xs (block ds es))))
    own_apart y p q =
        let stood = eqns_sound enums r (declaring tys ds) es ok.1 y p in
        let m = left_names y q in
        let same : stood.name ≡ m.0 = to_one r stood.name m.0 stood.old (left_old m.0 m.1.0) (sym stood.is ∙ sym m.1.1) in
        not_left m.0 (subst (λ z. some_defines es z ≡ true) same stood.own) m.1.0

  -- a list of equations and what it stands for
  abbrev Listed : Known → ℕ → (List ℕ → List ℕ) → Types → Eqns → Type 0
  Listed outer d to tys es = ListPlain (lowered_eqns enums to tys d es)

  -- ---- the body of a state

  module _ {outer : Known} {to : List ℕ → List ℕ} (tys : Types) (f : Frame) (r : Renames outer f.depth to) (e : Eqn) (names : (x : List ℕ) → is_name f.names x ≡ defines e x) (o : (x : List ℕ) → is_name f.names x ≡ true → IsOld x) (distinct : Distinct f.names) (deep : f.depth < deepest) (k : ℕ) (few : k < most)
      (ds : List Decl) (es : Eqns) (until : List Trans) (ok : BlockOk (and_defined e outer) (f.depth + 1) (block ds es)) (l : length until < most) where
    renames : Renames (and_defined e outer) (f.depth + 1) (inner to f k)
    renames = inner_renames f e r names deep k few

    -- what stands for a name in a state is none of the words
    word_apart : (x : List ℕ) → IsOld x → (a : New) → HasRoom a → ((y : List ℕ) → value k y ≡ a → ⊥) → inner to f k x ≡ spell f.depth a → ⊥
    word_apart x ox a h n = by (is_name f.names x)
      where
        by : (t : Bool) → (if t then value_name f.depth k x else to x) ≡ spell f.depth a → ⊥
        by true q = n x (told f.depth (value k x) a (few, ox) h q)
        by false q = to_apart r x a f.depth ox h (omega arith) deep q

    abbrev WeakWord : New → Type 0
    WeakWord a = Transition Weak k 0 a ⊎ StateWord Next k a

    not_value : (a : New) → WeakWord a → (y : List ℕ) → value k y ≡ a → ⊥
    not_value a q y s = by (subst WeakWord (sym s) q)
      where
        by : WeakWord (value k y) → ⊥
        by (inl p) = p
        by (inr p) = p

    abbrev weak : List Eqn
    weak = choices (inner to f k) f Weak k (length until) (stays f k) 0 until

    abbrev one_next : Eqn
    one_next = own_next f k Weak (length until) (stays f k)

    next_only : Only f.depth (StateWord Next k) (some_defines (eqns_of (one_next ∷ [])))
    next_only y q = one_only f.depth (StateWord Next k) (of_state Next k) few (refl, refl) y (no_more (bytes_eq (state_word Next f.depth k) y) (no_more (bytes_eq (state_word Next f.depth k) y || false) q))

    choices_here : Only f.depth (Transition Weak k 0) (some_defines (eqns_of weak))
    choices_here = choices_only f (inner to f k) Weak k (length until) (stays f k) 0 until few (omega (arith, l))

    weak_only : Only f.depth WeakWord (some_defines (eqns_of (weak_eqns (inner to f k) f k until)))
    weak_only y q =
        ⊎_elim (λ s. weaker_only f.depth (Transition Weak k 0) WeakWord (λ a p. inl p) (some_defines (eqns_of weak)) choices_here y s)
        (λ s. weaker_only f.depth (StateWord Next k) WeakWord (λ a p. inr p) (some_defines (eqns_of (one_next ∷ []))) next_only y s)
        (or_cases (some_defines (eqns_of weak) y) _ (sym (some_append weak (one_next ∷ []) y) ∙ q))

    weak_plain : ListPlain (weak_eqns (inner to f k) f k until)
    weak_plain =
        plain_both weak (one_next ∷ []) (choices_plain f (inner to f k) Weak k (length until) (stays f k) 0 until few (omega (arith, l))) (plain_one one_next (refl, tt))
        (told_apart f.depth (Transition Weak k 0) (StateWord Next k) (λ a p q. word_transition Next Weak k 0 a q p) (some_defines (eqns_of weak)) (some_defines (eqns_of (one_next ∷ []))) choices_here next_only)

    own : (x : List ℕ) → is_name f.names x ≡ true → and_defined e outer x ≡ true
    own x q = or_left (defines e x) (outer x) (sym (names x) ∙ q)

    abbrev lowered : List Eqn
    lowered = lowered_eqns enums (inner to f k) (declaring tys ds) (f.depth + 1) es

    abbrev kept_here : List Eqn
    kept_here = all_kept (inner to f k) f.at f.names (block ds es)

    weak_apart : Apart (some_defines (eqns_of (weak_eqns (inner to f k) f k until))) (some_defines (eqns_of (lowered ++ kept_here)))
    weak_apart y p q = by (or_cases (some_defines (eqns_of lowered) y) _ (sym (some_append lowered kept_here y) ∙ q))
      where
        by : (some_defines (eqns_of lowered) y ≡ true) ⊎ (some_defines (eqns_of kept_here) y ≡ true) → ⊥
        by (inl s) =
            let w = weak_only y p in
            let stood = eqns_sound enums renames (declaring tys ds) es ok.1 y s in
            word_apart stood.name stood.old w.0 w.1.0 (not_value w.0 w.1.1.0) (sym stood.is ∙ sym w.1.1.1)
        by (inr s) =
            let w = weak_only y p in
            let m = left_names renames tys f.at f.names ds es ok own o distinct y s in
            word_apart m.0 (left_old renames tys f.at f.names ds es ok own o distinct m.0 m.1.0) w.0 w.1.0 (not_value w.0 w.1.1.0) (m.1.1 ∙ sym w.1.1.1)

    pub decls_once : AreOnce ds → AreOnce (renamed_decls (inner to f k) ds ++ transition_locals f Weak k 0 until)
    decls_once h =
        once_append (renamed_decls (inner to f k) ds) (transition_locals f Weak k 0 until) (once_renamed (inner to f k) ds h) (transitions_once f Weak k 0 until few (omega (arith, l)))
        (λ y p q.
        let w = transitions_only f Weak k 0 until few (omega (arith, l)) y p in
        let d = local (and_defined e outer) es ds ok.0 y (sym (declares_renamed (inner to f k) ds y) ∙ q) in
        new_is_new f.depth w.0 w.1.0 (subst IsOld (sym w.1.1.1) d.old))

    pub declared_defined : (y : List ℕ) → declares (renamed_decls (inner to f k) ds ++ transition_locals f Weak k 0 until) y ≡ true → some_defines (eqns_of (weak_eqns (inner to f k) f k until ++ (lowered ++ kept_here))) y ≡ true
    declared_defined y h = some_append (weak_eqns (inner to f k) f k until) (lowered ++ kept_here) y ∙ by (or_cases (declares (renamed_decls (inner to f k) ds) y) _ (sym (declares_append (renamed_decls (inner to f k) ds) (transition_locals f Weak k 0 until) y) ∙ h))
      where
        by : (declares (renamed_decls (inner to f k) ds) y ≡ true) ⊎ (declares (transition_locals f Weak k 0 until) y ≡ true) → (some_defines (eqns_of (weak_eqns (inner to f k) f k until)) y || some_defines (eqns_of (lowered ++ kept_here)) y) ≡ true
        by (inl q) =
            let mine : declares ds y ≡ true = sym (declares_renamed (inner to f k) ds y) ∙ q in
            let here = local (and_defined e outer) es ds ok.0 y mine in
            or_right (some_defines (eqns_of (weak_eqns (inner to f k) f k until)) y) _
            (some_append lowered kept_here y ∙ or_left (some_defines (eqns_of lowered) y) _
            (subst (λ z. some_defines (eqns_of lowered) z ≡ true) (local_kept renames es ds ok.0 y mine) (eqns_complete enums renames (declaring tys ds) es ok.1 y here.old here.defined)))
        by (inr q) =
            or_left (some_defines (eqns_of (weak_eqns (inner to f k) f k until)) y) _
            (some_append weak (one_next ∷ []) y ∙ or_left (some_defines (eqns_of weak) y) _ (choices_declared (inner to f k) f Weak k (length until) (stays f k) 0 until y ∙ q))

    pub body_plain : AreOnce ds → ListPlain (lowered_eqns enums (inner to f k) (declaring tys ds) (f.depth + 1) es) → IsPlain (lowered_body enums to tys f k (block ds es) until)
    body_plain h p = (
      declared_once (renamed_decls (inner to f k) ds ++ transition_locals f Weak k 0 until) (decls_once h),
      declared_defined,
      plain_both (weak_eqns (inner to f k) f k until) (lowered ++ kept_here) weak_plain
          (plain_both lowered kept_here p (left_plain renames tys f.at f.names ds es ok own o distinct) (own_apart renames tys f.at f.names ds es ok own o distinct)) weak_apart,
    )

  -- ---- an automaton, whose states are known

  module _ {outer : Known} {d : ℕ} {to : List ℕ → List ℕ} (r : Renames outer d to) (tys : Types) (s : Span) (ss : States) (ok : EqnOk outer d (automaton s ss)) where
    pub frame_names : (x : List ℕ) → is_name (frame s d ss).names x ≡ states_define ss x
    frame_names x = names_of_frame enums s d ss x

    pub frame_old : (x : List ℕ) → is_name (frame s d ss).names x ≡ true → IsOld x
    frame_old x q = eqn_old outer d (automaton s ss) ok x (sym (frame_names x) ∙ q)

    pub frame_distinct : Distinct (frame s d ss).names
    frame_distinct = distinct_once (names_of_states ss)

    joined_names : (y : List ℕ) → some_defines (eqns_of (map (joined enums to tys (frame s d ss)) (frame s d ss).names)) y ≡ true → (x : List ℕ) × ((is_name (frame s d ss).names x ≡ true) × (to x ≡ y))
    joined_names y h = mapped_defines to (joined enums to tys (frame s d ss)) (λ x. (refl, tt)) (λ x z q. alone (to x) z q) (frame s d ss).names y h

    -- what stands for a name is no word of the automaton
    joined_apart : (a : New) → HasRoom a → (y : List ℕ) → spell d a ≡ y → some_defines (eqns_of (map (joined enums to tys (frame s d ss)) (frame s d ss).names)) y ≡ true → ⊥
    joined_apart a room y e h = let m = joined_names y h in to_apart r m.0 a d (frame_old m.0 m.1.0) room (omega arith) ok.0 (m.1.1 ∙ sym e)

    abbrev all_joined : List Eqn
    all_joined = map (joined enums to tys (frame s d ss)) (frame s d ss).names

    word_is : (w : Word) (y : List ℕ) → (bytes_eq (word_name w d) y || false) ≡ true → word_name w d ≡ y
    word_is w y h = alone (word_name w d) y h

    frame_plain : ListPlain (frame_eqns enums to tys (frame s d ss))
    frame_plain =
        plain_more (jump_eqn (frame s d ss)) (next_eqn (frame s d ss) ∷ all_joined) (refl, tt)
        (plain_more (next_eqn (frame s d ss)) all_joined (refl, tt)
        (each_plain to (joined enums to tys (frame s d ss)) (λ x. (refl, tt)) (λ x z q. alone (to x) z q) (frame s d ss).names frame_distinct (λ x z p q e. to_one r x z (frame_old x p) (frame_old z q) e))
        (λ y p q. joined_apart (word Next) tt y (word_is Next y p) q))
        (λ y p q. by y p (or_cases (bytes_eq (word_name Next d) y || false) _ q))
      where
        by : (y : List ℕ) → (bytes_eq (word_name Jump d) y || false) ≡ true → ((bytes_eq (word_name Next d) y || false) ≡ true) ⊎ (some_defines (eqns_of (map (joined enums to tys (frame s d ss)) (frame s d ss).names)) y ≡ true) → ⊥
        by y p (inl q) = next_not_jump (word_told (told d (word Next) (word Jump) tt tt (word_is Next y q ∙ sym (word_is Jump y p))))
          where
            word_of : New → Word
            word_of (word w) = w
            word_of (of_state w i) = w
            word_of (of_transition w i m) = w
            word_of (value i x) = Jump

            word_told : word Next ≡ word Jump → Next ≡ Jump
            word_told e = ap word_of e
        by y p (inr q) = joined_apart (word Jump) tt y (word_is Jump y p) q

    few : count_of ss ≤ most
    few = let l : count_of ss < most = ok.2 in omega (arith, l)

    states_known : (y : List ℕ) → some_defines (eqns_of (lowered_states enums to tys (frame s d ss) 0 ss)) y ≡ true → declares (locals_from tys (frame s d ss) 0 ss) y ≡ true
    states_known y h = states_sound enums tys (frame s d ss) r ss (automaton s ss) frame_names frame_old ok.0 ok.2 0 ss ok.3 (λ x p. frame_names x ∙ p) (omega arith) y h

    locals_new : Only d (FromState 0) (declares (locals_from tys (frame s d ss) 0 ss))
    locals_new = locals_only (frame s d ss) tys frame_old frame_distinct ss (and_defined (automaton s ss) outer) (d + 1) 0 ss ok.3 (let l = few in omega (arith, l))

    frame_apart : Apart (some_defines (eqns_of (frame_eqns enums to tys (frame s d ss)))) (some_defines (eqns_of (lowered_states enums to tys (frame s d ss) 0 ss)))
    frame_apart y p q = by (or_cases (bytes_eq (word_name Jump d) y || false) _ p)
      where
        none : (w : Word) → word_name w d ≡ y → ⊥
        none w e =
            told_apart d (FrameWord w) (FromState 0) (frame_later w 0) (bytes_eq (word_name w d)) (declares (locals_from tys (frame s d ss) 0 ss)) (one_only d (FrameWord w) (word w) tt refl) locals_new y
            (subst (λ z. bytes_eq (word_name w d) z ≡ true) e (bytes_same (word_name w d))) (states_known y q)

        by_next : ((bytes_eq (word_name Next d) y || false) ≡ true) ⊎ (some_defines (eqns_of (map (joined enums to tys (frame s d ss)) (frame s d ss).names)) y ≡ true) → ⊥
        by_next (inl t) = none Next (word_is Next y t)
        by_next (inr t) = let a = locals_new y (states_known y q) in joined_apart a.0 a.1.0 y a.1.1.1 t

        by : ((bytes_eq (word_name Jump d) y || false) ≡ true) ⊎ (((bytes_eq (word_name Next d) y || false) || some_defines (eqns_of (map (joined enums to tys (frame s d ss)) (frame s d ss).names)) y) ≡ true) → ⊥
        by (inl t) = none Jump (word_is Jump y t)
        by (inr t) = by_next (or_cases (bytes_eq (word_name Next d) y || false) _ t)

    with_false : (b : Bool) → b ≡ true → (b || false) ≡ true
    with_false true h = refl
    with_false false h = absurd cc

    pub all_defined : (y : List ℕ) → declares (frame_locals tys (frame s d ss) ss) y ≡ true → some_defines (eqns_of (frame_eqns enums to tys (frame s d ss) ++ lowered_states enums to tys (frame s d ss) 0 ss)) y ≡ true
    all_defined y h = some_append (frame_eqns enums to tys (frame s d ss)) (lowered_states enums to tys (frame s d ss) 0 ss) y ∙ by (or_cases (bytes_eq (word_name Next d) y) _ h)
      where
        by_jump : (bytes_eq (word_name Jump d) y ≡ true) ⊎ (declares (locals_from tys (frame s d ss) 0 ss) y ≡ true) → (some_defines (eqns_of (frame_eqns enums to tys (frame s d ss))) y || some_defines (eqns_of (lowered_states enums to tys (frame s d ss) 0 ss)) y) ≡ true
        by_jump (inl q) = or_left (some_defines (eqns_of (frame_eqns enums to tys (frame s d ss))) y) _ (or_left (bytes_eq (word_name Jump d) y || false) _ (with_false (bytes_eq (word_name Jump d) y) q))
        by_jump (inr q) = or_right (some_defines (eqns_of (frame_eqns enums to tys (frame s d ss))) y) _ (states_complete enums to tys (frame s d ss) 0 ss y q)

        by : (bytes_eq (word_name Next d) y ≡ true) ⊎ ((bytes_eq (word_name Jump d) y || declares (locals_from tys (frame s d ss) 0 ss) y) ≡ true) → (some_defines (eqns_of (frame_eqns enums to tys (frame s d ss))) y || some_defines (eqns_of (lowered_states enums to tys (frame s d ss) 0 ss)) y) ≡ true
        by (inl q) =
            or_left (some_defines (eqns_of (frame_eqns enums to tys (frame s d ss))) y) _
            (or_right (bytes_eq (word_name Jump d) y || false) _ (or_left (bytes_eq (word_name Next d) y || false) _ (with_false (bytes_eq (word_name Next d) y) q)))
        by (inr q) = by_jump (or_cases (bytes_eq (word_name Jump d) y) _ q)

    automaton_plain : ListPlain (lowered_states enums to tys (frame s d ss) 0 ss) → OnePlain (lowered_eqn enums to tys d (automaton s ss))
    automaton_plain p = (
      declared_once (frame_locals tys (frame s d ss) ss) (frame_once (frame s d ss) tys frame_old frame_distinct ss (and_defined (automaton s ss) outer) (d + 1) ss ok.3 few),
      all_defined,
      plain_both (frame_eqns enums to tys (frame s d ss)) (lowered_states enums to tys (frame s d ss) 0 ss) frame_plain p frame_apart,
    )

  -- ---- all equations, by one induction

  mutual
    pub block_plain : {outer : Known} {d : ℕ} {to : List ℕ → List ℕ} → Renames outer d to → (tys : Types) (s : Span) (xs : List (List ℕ)) (b : Block) → BlockOk outer d b → BlockSingle b → ((x : List ℕ) → is_name xs x ≡ true → outer x ≡ true) → ((x : List ℕ) → is_name xs x ≡ true → IsOld x) → Distinct xs → IsPlain (lowered_block enums to tys d s xs b)
    block_plain {outer} {d} {to} r tys s xs (block ds es) ok one own old h =
        let made = lowered_eqns enums to (declaring tys ds) d es in
        let left = all_kept to s xs (block ds es) in (
          declared_once (renamed_decls to ds) (once_renamed to ds one.0),
          (λ y q.
              let mine : declares ds y ≡ true = sym (declares_renamed to ds y) ∙ q in
              let here = local outer es ds ok.0 y mine in
              some_append made left y ∙ or_left (some_defines (eqns_of made) y) _ (subst (λ z. some_defines (eqns_of made) z ≡ true) (local_kept r es ds ok.0 y mine) (eqns_complete enums r (declaring tys ds) es ok.1 y here.old here.defined))),
          plain_both made left (eqns_plain r (declaring tys ds) es ok.1 one.1) (left_plain r tys s xs ds es ok own old h) (own_apart r tys s xs ds es ok own old h),
        )

    pub eqns_plain : {outer : Known} {d : ℕ} {to : List ℕ → List ℕ} → Renames outer d to → (tys : Types) (es : Eqns) → EqnsOk outer d es → EqnsSingle es → ListPlain (lowered_eqns enums to tys d es)
    eqns_plain r tys no_eqn ok one = tt
    eqns_plain {outer} {d} {to} r tys (more_eqns e es) ok one =
        plain_more (lowered_eqn enums to tys d e) (lowered_eqns enums to tys d es) (eqn_plain r tys e ok.1 one.0) (eqns_plain r tys es ok.2 one.1)
        (λ y p q.
        let a = eqn_sound enums r tys e ok.1 y p in
        let b = eqns_sound enums r tys es ok.2 y q in
        let same : a.name ≡ b.name = to_one r a.name b.name a.old b.old (sym a.is ∙ b.is) in
        true_false (some_defines es b.name) b.own (ok.0 b.name (subst (λ z. defines e z ≡ true) same a.own)))

    eqn_plain : {outer : Known} {d : ℕ} {to : List ℕ → List ℕ} → Renames outer d to → (tys : Types) (e : Eqn) → EqnOk outer d e → EqnSingle e → OnePlain (lowered_eqn enums to tys d e)
    eqn_plain {outer} {d} r tys (define s ys e) ok one = left_single r ys (λ x q. eqn_old outer d (define s ys e) ok x q) one
    eqn_plain {outer} {d} r tys (switch s e arms) ok one =
        arms_plain (within_renames (switch s e arms) r) tys (once (names_of_arms arms)) arms ok.1 one (λ x q. or_left (arms_define arms x) (outer x) (sym (names_of_switch enums arms x) ∙ q))
        (λ x q. eqn_old outer d (switch s e arms) ok x (sym (names_of_switch enums arms x) ∙ q)) (distinct_once (names_of_arms arms))
    eqn_plain r tys (reset s b e) ok one = block_plain (within_renames (reset s b e) r) tys s [] b ok.1 one (λ x q. absurd cc) (λ x q. absurd cc) tt
    eqn_plain {outer} {d} {to} r tys (automaton s ss) ok one =
        let f = frame s d ss in
        let E = automaton s ss in
        let names : (x : List ℕ) → is_name f.names x ≡ defines E x = names_of_frame enums s d ss in
        let old : (x : List ℕ) → is_name f.names x ≡ true → IsOld x = λ x q. eqn_old outer d E ok x (sym (names x) ∙ q) in
        let distinct : Distinct f.names = distinct_once (names_of_states ss) in
        automaton_plain r tys s ss ok (states_plain tys f r E names old distinct ok.0 ss ok.2 0 ss ok.3 one (λ x q. names x ∙ q) (omega arith))

    arms_plain : {outer : Known} {d : ℕ} {to : List ℕ → List ℕ} → Renames outer d to → (tys : Types) (xs : List (List ℕ)) (arms : Arms) → ArmsOk outer d arms → ArmsSingle arms → ((x : List ℕ) → is_name xs x ≡ true → outer x ≡ true) → ((x : List ℕ) → is_name xs x ≡ true → IsOld x) → Distinct xs → ArmsPlain (lowered_arms enums to tys d xs arms)
    arms_plain r tys xs no_arm ok one own old h = tt
    arms_plain r tys xs (more_arms c b s arms) ok one own old h = (block_plain r tys s xs b ok.0 one.0 own old h, arms_plain r tys xs arms ok.1 one.1 own old h)

    states_plain : {outer : Known} {to : List ℕ → List ℕ} (tys : Types) (f : Frame) → Renames outer f.depth to → (E : Eqn) → ((x : List ℕ) → is_name f.names x ≡ defines E x) → ((x : List ℕ) → is_name f.names x ≡ true → IsOld x) → Distinct f.names → f.depth < deepest
        → (all : States) → count_of all < most → (k : ℕ) (ss : States) → StatesOk all (and_defined E outer) (f.depth + 1) ss → StatesSingle ss → ((x : List ℕ) → states_define ss x ≡ true → is_name f.names x ≡ true) → k + count_of ss ≤ count_of all → ListPlain (lowered_states enums to tys f k ss)
    states_plain tys f r E names old h deep all few k no_state ok one sub room = tt
    states_plain {outer} {to} tys f r E names old h deep all few k (more_states q (block ds es) until unless at ss) ok one sub room =
        let here : k < most = omega (arith, few, room) in
        let body = lowered_body enums to tys f k (block ds es) until in
        let other = idle enums tys f k in
        let more : (x : List ℕ) → states_define ss x ≡ true → is_name f.names x ≡ true = λ x p. sub x (or_right (block_defines (block ds es) x) (states_define ss x) p) in
        let later : k + 1 + count_of ss ≤ count_of all = omega (arith, room) in
        let known : (y : List ℕ) → block_defines body y ≡ true → hands f k y ≡ true = λ y p. body_sound enums tys f r E names old deep k here (block ds es) until ok.0.0 (λ x t. sub x (or_left (block_defines (block ds es) x) (states_define ss x) t)) y p in
        let inner = eqns_plain (inner_renames f E r names deep k here) (declaring tys ds) es ok.0.0.1 one.0.1 in
        plain_both (state_eqns to f k unless body other) (lowered_states enums to tys f (k + 1) ss)
        (state_plain f enums tys to k unless body here ok.0.2.1 old h known (body_plain tys f r E names old h deep k here ds es until ok.0.0 ok.0.1.1 one.0.0 inner))
        (states_plain tys f r E names old h deep all few (k + 1) ss ok.1 one.1 more later)
        (λ y p t. told_apart f.depth (Here k) (FromState (k + 1)) (here_later k) (some_defines (eqns_of (state_eqns to f k unless body other))) (declares (locals_from tys f (k + 1) ss))
        (state_here f enums tys to k unless body here ok.0.2.1 old h known) (locals_only f tys old h all (and_defined E outer) (f.depth + 1) (k + 1) ss ok.1 (omega (arith, later, few))) y p
        (states_sound enums tys f r all E names old deep few (k + 1) ss ok.1 more later y t))

-- ---- nodes

pub plain_law : PlainLaw
plain_law enums n ok one = block_plain enums itself_renames (types_of n) n.span [] n.body ok.body one.1 (λ x q. absurd cc) (λ x q. absurd cc) tt
