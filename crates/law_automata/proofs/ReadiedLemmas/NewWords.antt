-- The new words of an automaton are declared once.
use Rattle.std.proofs.Common.{◌≡◌, ℕ, suc, ◌+◌, ◌<◌, ◌≤◌, ◌⊎◌, inl, inr, ⊎_elim, Bool, true, false, ◌||◌, not, if◌then◌else◌, List, [], ◌∷◌, ◌++◌, map, length, refl, sym, ap, ◌∙◌, subst, arith}
use Rattle.std.specs.Prelude.{⊤, IsTrue}
use Rattle.std.specs.Str.{bytes_eq}
use Rattle.hp_tree.specs.declared.block.Trans.{Trans}
use Rattle.hp_tree.specs.Blocks.{Decl, States, no_state, more_states}
use Rattle.hp_tree.specs.Meaning.{declares}
use Rattle.hp_meaning.specs.Clocking.Clocking.{AreOnce}
use Rattle.law_judged.proofs.NamedLemmas.Sets.{once_append, false_if}
use Rattle.hp_automata.specs.declared.new_names.Word.{Word}
use Rattle.hp_automata.specs.declared.new_names.Word.TheVariants.{Jump, Next, From, On, Strong, Weak}
use Rattle.hp_automata.specs.NewNames.{word_name, state_word, transition_word, value_name}
use Rattle.hp_automata.specs.Names.{is_name, missing, with_name, once_behind, once}
use Rattle.hp_automata.specs.Lowering.{Types, Frame, transition_locals, value_local, state_locals, locals_from, frame_locals, count_of}
use Rattle.law_automata.specs.Lowered.OldNames.{IsOld}
use Rattle.law_automata.specs.Lowered.Removable.{Known, StatesOk, most}
use Rattle.law_automata.proofs.LoweredLemmas.Spelling.{New, word, of_state, of_transition, value, spell, HasRoom}
use Rattle.law_automata.proofs.LoweredLemmas.Apart.{told, same_bytes, bytes_same}
use Rattle.law_automata.proofs.LoweredLemmas.Lookups.{mapped, values_declared}
use Rattle.law_automata.proofs.LoweredLemmas.Tests.{or_left, or_right, or_cases, or_none, and_first, name_first, name_append, name_missing, declares_append, true_false}

-- ---- some names are new ones, and of these such alone

module _ (d : ℕ) where
  abbrev pub Only : (New → Type 0) → Known → Type 0
  Only P defined = (y : List ℕ) → defined y ≡ true → (a : New) × (HasRoom a × (P a × (spell d a ≡ y)))

  pub told_apart : (P Q : New → Type 0) → ((a : New) → P a → Q a → ⊥) → (p q : Known) → Only P p → Only Q q → (y : List ℕ) → p y ≡ true → q y ≡ true → ⊥
  told_apart P Q n p q h g y s t =
      let a = h y s in
      let b = g y t in
      n a.0 a.1.1.0 (subst Q (told d b.0 a.0 b.1.0 a.1.0 (b.1.1.1 ∙ sym a.1.1.1)) b.1.1.0)

  pub one_only : (P : New → Type 0) (a : New) → HasRoom a → P a → Only P (bytes_eq (spell d a))
  one_only P a r p y h = (a, (r, (p, same_bytes (spell d a) y h)))

  pub either_only : (P : New → Type 0) (p q : Known) → Only P p → Only P q → Only P (λ y. p y || q y)
  either_only P p q h g y s = ⊎_elim (λ l. h y l) (λ l. g y l) (or_cases (p y) (q y) s)

  pub weaker_only : (P Q : New → Type 0) → ((a : New) → P a → Q a) → (p : Known) → Only P p → Only Q p
  weaker_only P Q w p h y s = let a = h y s in (a.0, (a.1.0, (w a.0 a.1.1.0, a.1.1.1)))

-- ---- kinds of new names

-- a word of a transition of the state k, from the number j on
abbrev pub Transition : Word → ℕ → ℕ → New → Type 0
Transition w k j (word v) = ⊥
Transition w k j (of_state v i) = ⊥
Transition w k j (of_transition v i m) = (v ≡ w) × ((i ≡ k) × (j ≤ m))
Transition w k j (value i x) = ⊥

abbrev pub StateWord : Word → ℕ → New → Type 0
StateWord w k (word v) = ⊥
StateWord w k (of_state v i) = (v ≡ w) × (i ≡ k)
StateWord w k (of_transition v i m) = ⊥
StateWord w k (value i x) = ⊥

abbrev pub ValueOf : ℕ → Known → New → Type 0
ValueOf k names (word v) = ⊥
ValueOf k names (of_state v i) = ⊥
ValueOf k names (of_transition v i m) = ⊥
ValueOf k names (value i x) = (i ≡ k) × (names x ≡ true)

-- any of the state k that is declared with the automaton; words of weak transitions are declared in the body of their state
abbrev pub Here : ℕ → New → Type 0
Here k (word v) = ⊥
Here k (of_state v i) = i ≡ k
Here k (of_transition v i m) = (i ≡ k) × (v ≡ Strong)
Here k (value i x) = i ≡ k

-- any of a state from this number on
abbrev pub FromState : ℕ → New → Type 0
FromState k (word v) = ⊥
FromState k (of_state v i) = k ≤ i
FromState k (of_transition v i m) = (k ≤ i) × (v ≡ Strong)
FromState k (value i x) = k ≤ i

abbrev pub FrameWord : Word → New → Type 0
FrameWord w (word v) = v ≡ w
FrameWord w (of_state v i) = ⊥
FrameWord w (of_transition v i m) = ⊥
FrameWord w (value i x) = ⊥

pub transition_here : (k j : ℕ) (a : New) → Transition Strong k j a → Here k a
transition_here k j (word v) h = absurd h
transition_here k j (of_state v i) h = absurd h
transition_here k j (of_transition v i m) h = (h.1.0, h.0)
transition_here k j (value i x) h = absurd h

pub word_here : (w : Word) (k : ℕ) (a : New) → StateWord w k a → Here k a
word_here w k (word v) h = absurd h
word_here w k (of_state v i) h = h.1
word_here w k (of_transition v i m) h = absurd h
word_here w k (value i x) h = absurd h

pub value_here : (k : ℕ) (names : Known) (a : New) → ValueOf k names a → Here k a
value_here k names (word v) h = absurd h
value_here k names (of_state v i) h = absurd h
value_here k names (of_transition v i m) h = absurd h
value_here k names (value i x) h = h.0

pub here_from : (k : ℕ) (a : New) → Here k a → FromState k a
here_from k (word v) h = absurd h
here_from k (of_state v i) h = omega (arith, h)
here_from k (of_transition v i m) h = (let e : i ≡ k = h.0 in omega (arith, e), h.1)
here_from k (value i x) h = omega (arith, h)

pub later_from : (k : ℕ) (a : New) → FromState (k + 1) a → FromState k a
later_from k (word v) h = h
later_from k (of_state v i) h = omega (arith, h)
later_from k (of_transition v i m) h = (let l : k + 1 ≤ i = h.0 in omega (arith, l), h.1)
later_from k (value i x) h = omega (arith, h)

pub here_later : (k : ℕ) (a : New) → Here k a → FromState (k + 1) a → ⊥
here_later k (word v) h l = h
here_later k (of_state v i) h l = omega (arith, h, l)
here_later k (of_transition v i m) h l = let e : i ≡ k = h.0 in let m : k + 1 ≤ i = l.0 in omega (arith, e, m)
here_later k (value i x) h l = omega (arith, h, l)

pub frame_later : (w : Word) (k : ℕ) (a : New) → FrameWord w a → FromState k a → ⊥
frame_later w k (word v) h l = l
frame_later w k (of_state v i) h l = h
frame_later w k (of_transition v i m) h l = h
frame_later w k (value i x) h l = h

-- no word of a weak transition is declared with the automaton
pub weak_later : (i j k : ℕ) (a : New) → Transition Weak i j a → FromState k a → ⊥
weak_later i j k (word v) h l = h
weak_later i j k (of_state v m) h l = h
weak_later i j k (of_transition v m n) h l = absurd (cc (sym h.0, l.1))
weak_later i j k (value m x) h l = h

pub frame_weak : (w : Word) (i j : ℕ) (a : New) → FrameWord w a → Transition Weak i j a → ⊥
frame_weak w i j (word v) h l = l
frame_weak w i j (of_state v m) h l = h
frame_weak w i j (of_transition v m n) h l = h
frame_weak w i j (value m x) h l = h

pub words_apart : (v w : Word) (k : ℕ) → (v ≡ w → ⊥) → (a : New) → StateWord v k a → StateWord w k a → ⊥
words_apart v w k n (word u) h l = h
words_apart v w k n (of_state u i) h l = n (sym h.0 ∙ l.0)
words_apart v w k n (of_transition u i m) h l = h
words_apart v w k n (value i x) h l = h

pub word_transition : (v w : Word) (k j : ℕ) (a : New) → StateWord v k a → Transition w k j a → ⊥
word_transition v w k j (word u) h l = h
word_transition v w k j (of_state u i) h l = l
word_transition v w k j (of_transition u i m) h l = h
word_transition v w k j (value i x) h l = h

pub word_value : (v : Word) (k : ℕ) (names : Known) (a : New) → StateWord v k a → ValueOf k names a → ⊥
word_value v k names (word u) h l = h
word_value v k names (of_state u i) h l = l
word_value v k names (of_transition u i m) h l = h
word_value v k names (value i x) h l = h

pub transition_value : (w : Word) (k j : ℕ) (names : Known) (a : New) → Transition w k j a → ValueOf k names a → ⊥
transition_value w k j names (word u) h l = h
transition_value w k j names (of_state u i) h l = h
transition_value w k j names (of_transition u i m) h l = l
transition_value w k j names (value i x) h l = h

pub from_not_on : From ≡ On → ⊥
from_not_on e = absurd cc

pub from_not_next : From ≡ Next → ⊥
from_not_next e = absurd cc

pub on_not_next : On ≡ Next → ⊥
on_not_next e = absurd cc

pub next_not_jump : Next ≡ Jump → ⊥
next_not_jump e = absurd cc

-- ---- names that stand once in a list

abbrev pub Distinct : List (List ℕ) → Type 0
Distinct [] = ⊤
Distinct (x ∷ xs) = (is_name xs x ≡ false) × Distinct xs

distinct_last : (xs : List (List ℕ)) (y : List ℕ) → Distinct xs → is_name xs y ≡ false → Distinct (xs ++ y ∷ [])
distinct_last [] y h n = (refl, tt)
distinct_last (x ∷ xs) y h n = (name_append xs (y ∷ []) x ∙ or_none (is_name xs x) (is_name (y ∷ []) x) h.0 (other (is_name (y ∷ []) x) refl), distinct_last xs y h.1 (rest (is_name xs y) refl))
  where
    other : (b : Bool) → is_name (y ∷ []) x ≡ b → b ≡ false
    other true e = by (or_cases (bytes_eq y x) false (sym (name_first y [] x) ∙ e))
      where
        by : (bytes_eq y x ≡ true) ⊎ (false ≡ true) → true ≡ false
        by (inl q) = absurd (true_false (is_name (x ∷ xs) y) (name_first x xs y ∙ or_left (bytes_eq x y) (is_name xs y) (subst (λ z. bytes_eq x z ≡ true) (sym (same_bytes y x q)) (bytes_same x))) n)
        by (inr q) = absurd cc
    other false e = refl

    rest : (b : Bool) → is_name xs y ≡ b → b ≡ false
    rest true e = absurd (true_false (is_name (x ∷ xs) y) (name_first x xs y ∙ or_right (bytes_eq x y) (is_name xs y) e) n)
    rest false e = refl

distinct_with : (xs : List (List ℕ)) (y : List ℕ) → Distinct xs → Distinct (with_name xs y)
distinct_with xs y h = by (is_name xs y) refl
  where
    by : (b : Bool) → is_name xs y ≡ b → Distinct (if b then xs else xs ++ y ∷ [])
    by true e = h
    by false e = distinct_last xs y h e

distinct_behind : (xs ys : List (List ℕ)) → Distinct xs → Distinct (once_behind xs ys)
distinct_behind xs [] h = h
distinct_behind xs (y ∷ ys) h = distinct_behind (with_name xs y) ys (distinct_with xs y h)

pub distinct_once : (ys : List (List ℕ)) → Distinct (once ys)
distinct_once ys = distinct_behind [] ys tt

pub distinct_missing : (own : Known) (xs : List (List ℕ)) → Distinct xs → Distinct (missing own xs)
distinct_missing own [] h = tt
distinct_missing own (x ∷ xs) h = by (own x) (distinct_missing own xs h.1)
  where
    none : (b : Bool) → is_name (missing own xs) x ≡ b → b ≡ false
    none true e = absurd (true_false (is_name xs x) (and_first (is_name xs x) (not (own x)) (sym (name_missing own xs x) ∙ e)) h.0)
    none false e = refl

    by : (b : Bool) → Distinct (missing own xs) → Distinct (if b then missing own xs else x ∷ missing own xs)
    by true r = r
    by false r = (none (is_name (missing own xs) x) refl, r)

-- ---- what is declared

module _ (f : Frame) where
  pub transitions_only : (w : Word) (k j : ℕ) (ts : List Trans) → k < most → j + length ts ≤ most → Only f.depth (Transition w k j) (declares (transition_locals f w k j ts))
  transitions_only w k j [] r l y h = absurd cc
  transitions_only w k j (t ∷ ts) r l y h = by (or_cases (bytes_eq (transition_word w f.depth k j) y) _ h) (transitions_only w k (j + 1) ts r (omega (arith, l)) y)
    where
      later : (a : New) → Transition w k (j + 1) a → Transition w k j a
      later (word v) q = q
      later (of_state v i) q = q
      later (of_transition v i m) q = (q.0, (q.1.0, (let s : j + 1 ≤ m = q.1.1 in omega (arith, s))))
      later (value i x) q = q

      by : (bytes_eq (transition_word w f.depth k j) y ≡ true) ⊎ (declares (transition_locals f w k (j + 1) ts) y ≡ true)
          → (declares (transition_locals f w k (j + 1) ts) y ≡ true → (a : New) × (HasRoom a × (Transition w k (j + 1) a × (spell f.depth a ≡ y)))) → (a : New) × (HasRoom a × (Transition w k j a × (spell f.depth a ≡ y)))
      by (inl q) rest = (of_transition w k j, ((r, omega (arith, l)), ((refl, (refl, omega arith)), same_bytes (transition_word w f.depth k j) y q)))
      by (inr q) rest = let a = rest q in (a.0, (a.1.0, (later a.0 a.1.1.0, a.1.1.1)))

  -- a name that is none of some new ones
  pub not_among : (P Q : New → Type 0) → ((a : New) → P a → Q a → ⊥) → (a : New) → HasRoom a → P a → (q : Known) → Only f.depth Q q → q (spell f.depth a) ≡ false
  not_among P Q n a r p q h = false_if (q (spell f.depth a)) (λ t. told_apart f.depth P Q n (bytes_eq (spell f.depth a)) q (one_only f.depth P a r p) h (spell f.depth a) (bytes_same (spell f.depth a)) t)

  abbrev Exactly : Word → ℕ → ℕ → New → Type 0
  Exactly w k j a = a ≡ of_transition w k j

  exactly_not : (w : Word) (k j : ℕ) (a : New) → Exactly w k j a → Transition w k (j + 1) a → ⊥
  exactly_not w k j a e q = let s : Transition w k (j + 1) (of_transition w k j) = subst (Transition w k (j + 1)) e q in let l : j + 1 ≤ j = s.1.1 in omega (arith, l)

  pub transition_not_later : (w : Word) (k j : ℕ) (ts : List Trans) → k < most → j + suc (length ts) ≤ most → declares (transition_locals f w k (j + 1) ts) (transition_word w f.depth k j) ≡ false
  transition_not_later w k j ts r l =
      not_among (Exactly w k j) (Transition w k (j + 1)) (exactly_not w k j) (of_transition w k j) (r, omega (arith, l)) refl (declares (transition_locals f w k (j + 1) ts)) (transitions_only w k (j + 1) ts r (omega (arith, l)))

  pub transitions_once : (w : Word) (k j : ℕ) (ts : List Trans) → k < most → j + length ts ≤ most → AreOnce (transition_locals f w k j ts)
  transitions_once w k j [] r l = tt
  transitions_once w k j (t ∷ ts) r l = (transition_not_later w k j ts r l, transitions_once w k (j + 1) ts r (omega (arith, l)))

  module _ (tys : Types) where
    pub values_only : (k : ℕ) (xs : List (List ℕ)) → k < most → ((x : List ℕ) → is_name xs x ≡ true → IsOld x) → Only f.depth (ValueOf k (is_name xs)) (declares (map (value_local tys f k) xs))
    values_only k xs r o y h =
        let m = mapped (value_name f.depth k) xs y (sym (values_declared tys f k xs y) ∙ h) in
        (value k m.0, ((r, o m.0 m.1), ((refl, m.1), sym m.2)))

    abbrev value_told : New → List ℕ
    value_told (word v) = []
    value_told (of_state v i) = []
    value_told (of_transition v i m) = []
    value_told (value i x) = x

    values_once : (k : ℕ) (xs : List (List ℕ)) → k < most → ((x : List ℕ) → is_name xs x ≡ true → IsOld x) → Distinct xs → AreOnce (map (value_local tys f k) xs)
    values_once k [] r o h = tt
    values_once k (x ∷ xs) r o h = (false_if (declares (map (value_local tys f k) xs) (value_name f.depth k x)) twice, values_once k xs r tail h.1)
      where
        tail : (z : List ℕ) → is_name xs z ≡ true → IsOld z
        tail z q = o z (name_first x xs z ∙ or_right (bytes_eq x z) (is_name xs z) q)

        head : IsOld x
        head = o x (name_first x xs x ∙ or_left (bytes_eq x x) (is_name xs x) (bytes_same x))

        twice : IsTrue (declares (map (value_local tys f k) xs) (value_name f.depth k x)) → ⊥
        twice t =
            let m = mapped (value_name f.depth k) xs (value_name f.depth k x) (sym (values_declared tys f k xs (value_name f.depth k x)) ∙ t) in
            let same : x ≡ m.0 = ap value_told (told f.depth (value k x) (value k m.0) (r, head) (r, tail m.0 m.1) m.2) in
            true_false (is_name xs x) (subst (λ z. is_name xs z ≡ true) (sym same) m.1) h.0

    -- the new names of a state behind its first words
    abbrev Rest : ℕ → New → Type 0
    Rest k a = Transition Strong k 0 a ⊎ ValueOf k (is_name f.names) a

    rest_only : (k : ℕ) (unless : List Trans) → k < most → length unless < most → ((x : List ℕ) → is_name f.names x ≡ true → IsOld x) → Only f.depth (Rest k) (declares (transition_locals f Strong k 0 unless ++ map (value_local tys f k) f.names))
    rest_only k unless r l o y h =
        ⊎_elim (λ s. weaker_only f.depth (Transition Strong k 0) (Rest k) (λ a q. inl q) (declares (transition_locals f Strong k 0 unless)) (transitions_only Strong k 0 unless r (omega (arith, l))) y s)
        (λ s. weaker_only f.depth (ValueOf k (is_name f.names)) (Rest k) (λ a q. inr q) (declares (map (value_local tys f k) f.names)) (values_only k f.names r o) y s)
        (or_cases (declares (transition_locals f Strong k 0 unless) y) _ (sym (declares_append (transition_locals f Strong k 0 unless) (map (value_local tys f k) f.names) y) ∙ h))

    rest_once : (k : ℕ) (unless : List Trans) → k < most → length unless < most → ((x : List ℕ) → is_name f.names x ≡ true → IsOld x) → Distinct f.names → AreOnce (transition_locals f Strong k 0 unless ++ map (value_local tys f k) f.names)
    rest_once k unless r l o h =
        once_append (transition_locals f Strong k 0 unless) (map (value_local tys f k) f.names) (transitions_once Strong k 0 unless r (omega (arith, l))) (values_once k f.names r o h)
        (λ y s t. told_apart f.depth (Transition Strong k 0) (ValueOf k (is_name f.names)) (transition_value Strong k 0 (is_name f.names)) (declares (transition_locals f Strong k 0 unless)) (declares (map (value_local tys f k) f.names))
        (transitions_only Strong k 0 unless r (omega (arith, l))) (values_only k f.names r o) y t s)

    word_rest : (v : Word) (k : ℕ) (a : New) → StateWord v k a → Rest k a → ⊥
    word_rest v k a h (inl q) = word_transition v Strong k 0 a h q
    word_rest v k a h (inr q) = word_value v k (is_name f.names) a h q

    rest_here : (k : ℕ) (a : New) → Rest k a → Here k a
    rest_here k a (inl q) = transition_here k 0 a q
    rest_here k a (inr q) = value_here k (is_name f.names) a q

    module _ (k : ℕ) (unless : List Trans) (r : k < most) (l : length unless < most) (o : (x : List ℕ) → is_name f.names x ≡ true → IsOld x) (h : Distinct f.names) where
      abbrev rest : List Decl
      rest = transition_locals f Strong k 0 unless ++ map (value_local tys f k) f.names

      next_new : declares rest (state_word Next f.depth k) ≡ false
      next_new = not_among (StateWord Next k) (Rest k) (word_rest Next k) (of_state Next k) r (refl, refl) (declares rest) (rest_only k unless r l o)

      abbrev NextOn : New → Type 0
      NextOn a = StateWord Next k a ⊎ Rest k a

      next_only : Only f.depth NextOn (λ y. bytes_eq (state_word Next f.depth k) y || declares rest y)
      next_only =
          either_only f.depth NextOn (bytes_eq (state_word Next f.depth k)) (declares rest) (one_only f.depth NextOn (of_state Next k) r (inl (refl, refl)))
          (weaker_only f.depth (Rest k) NextOn (λ a q. inr q) (declares rest) (rest_only k unless r l o))

      on_apart : (a : New) → StateWord On k a → NextOn a → ⊥
      on_apart a q (inl p) = words_apart On Next k on_not_next a q p
      on_apart a q (inr p) = word_rest On k a q p

      on_new : (bytes_eq (state_word Next f.depth k) (state_word On f.depth k) || declares rest (state_word On f.depth k)) ≡ false
      on_new = not_among (StateWord On k) NextOn on_apart (of_state On k) r (refl, refl) (λ y. bytes_eq (state_word Next f.depth k) y || declares rest y) next_only

      abbrev OnOn : New → Type 0
      OnOn a = StateWord On k a ⊎ NextOn a

      on_only : Only f.depth OnOn (λ y. bytes_eq (state_word On f.depth k) y || (bytes_eq (state_word Next f.depth k) y || declares rest y))
      on_only =
          either_only f.depth OnOn (bytes_eq (state_word On f.depth k)) (λ y. bytes_eq (state_word Next f.depth k) y || declares rest y) (one_only f.depth OnOn (of_state On k) r (inl (refl, refl)))
          (weaker_only f.depth NextOn OnOn (λ a q. inr q) (λ y. bytes_eq (state_word Next f.depth k) y || declares rest y) next_only)

      from_apart : (a : New) → StateWord From k a → OnOn a → ⊥
      from_apart a q (inl p) = words_apart From On k from_not_on a q p
      from_apart a q (inr (inl p)) = words_apart From Next k from_not_next a q p
      from_apart a q (inr (inr p)) = word_rest From k a q p

      from_new : (bytes_eq (state_word On f.depth k) (state_word From f.depth k) || (bytes_eq (state_word Next f.depth k) (state_word From f.depth k) || declares rest (state_word From f.depth k))) ≡ false
      from_new = not_among (StateWord From k) OnOn from_apart (of_state From k) r (refl, refl) (λ y. bytes_eq (state_word On f.depth k) y || (bytes_eq (state_word Next f.depth k) y || declares rest y)) on_only

      pub state_once : AreOnce (state_locals tys f k unless)
      state_once = (from_new, (on_new, (next_new, rest_once k unless r l o h)))

      on_here : (a : New) → OnOn a → Here k a
      on_here a (inl p) = word_here On k a p
      on_here a (inr (inl p)) = word_here Next k a p
      on_here a (inr (inr p)) = rest_here k a p

      pub state_only : Only f.depth (Here k) (declares (state_locals tys f k unless))
      state_only =
          either_only f.depth (Here k) (bytes_eq (state_word From f.depth k)) (λ y. bytes_eq (state_word On f.depth k) y || (bytes_eq (state_word Next f.depth k) y || declares rest y)) (one_only f.depth (Here k) (of_state From k) r refl)
          (weaker_only f.depth OnOn (Here k) on_here (λ y. bytes_eq (state_word On f.depth k) y || (bytes_eq (state_word Next f.depth k) y || declares rest y)) on_only)

    module _ (o : (x : List ℕ) → is_name f.names x ≡ true → IsOld x) (distinct : Distinct f.names) (all : States) (outer : Known) (d : ℕ) where
      pub locals_only : (k : ℕ) (ss : States) → StatesOk all outer d ss → k + count_of ss ≤ most → Only f.depth (FromState k) (declares (locals_from tys f k ss))
      locals_only k no_state ok l y h = absurd cc
      locals_only k (more_states q b until unless at ss) ok l y h =
          ⊎_elim (λ s. weaker_only f.depth (Here k) (FromState k) (here_from k) (declares (state_locals tys f k unless)) (state_only k unless (omega (arith, l)) ok.0.2.1 o distinct) y s)
          (λ s. weaker_only f.depth (FromState (k + 1)) (FromState k) (later_from k) (declares (locals_from tys f (k + 1) ss)) (locals_only (k + 1) ss ok.1 (omega (arith, l))) y s)
          (or_cases (declares (state_locals tys f k unless) y) _ (sym (declares_append (state_locals tys f k unless) (locals_from tys f (k + 1) ss) y) ∙ h))

      locals_once : (k : ℕ) (ss : States) → StatesOk all outer d ss → k + count_of ss ≤ most → AreOnce (locals_from tys f k ss)
      locals_once k no_state ok l = tt
      locals_once k (more_states q b until unless at ss) ok l =
          once_append (state_locals tys f k unless) (locals_from tys f (k + 1) ss) (state_once k unless (omega (arith, l)) ok.0.2.1 o distinct) (locals_once (k + 1) ss ok.1 (omega (arith, l)))
          (λ y s t. told_apart f.depth (Here k) (FromState (k + 1)) (here_later k) (declares (state_locals tys f k unless)) (declares (locals_from tys f (k + 1) ss)) (state_only k unless (omega (arith, l)) ok.0.2.1 o distinct)
          (locals_only (k + 1) ss ok.1 (omega (arith, l))) y t s)

      abbrev JumpOn : New → Type 0
      JumpOn a = FrameWord Jump a ⊎ FromState 0 a

      next_apart : (a : New) → FrameWord Next a → JumpOn a → ⊥
      next_apart (word v) h (inl p) = next_not_jump (sym h ∙ p)
      next_apart (word v) h (inr p) = p
      next_apart (of_state v i) h p = h
      next_apart (of_transition v i m) h p = h
      next_apart (value i x) h p = h

      -- a name that is declared with the automaton is a new one
      abbrev pub FrameNew : New → Type 0
      FrameNew a = FrameWord Next a ⊎ (FrameWord Jump a ⊎ FromState 0 a)

      pub frame_only : (ss : States) → StatesOk all outer d ss → count_of ss ≤ most → Only f.depth FrameNew (declares (frame_locals tys f ss))
      frame_only ss ok l =
          either_only f.depth FrameNew (bytes_eq (word_name Next f.depth)) (λ y. bytes_eq (word_name Jump f.depth) y || declares (locals_from tys f 0 ss) y) (one_only f.depth FrameNew (word Next) tt (inl refl))
          (either_only f.depth FrameNew (bytes_eq (word_name Jump f.depth)) (declares (locals_from tys f 0 ss)) (one_only f.depth FrameNew (word Jump) tt (inr (inl refl)))
          (weaker_only f.depth (FromState 0) FrameNew (λ a q. inr (inr q)) (declares (locals_from tys f 0 ss)) (locals_only 0 ss ok (omega (arith, l)))))

      -- none is a word of a weak transition
      pub weak_frame : (i j : ℕ) (a : New) → Transition Weak i j a → FrameNew a → ⊥
      weak_frame i j a h (inl q) = frame_weak Next i j a q h
      weak_frame i j a h (inr (inl q)) = frame_weak Jump i j a q h
      weak_frame i j a h (inr (inr q)) = weak_later i j 0 a h q

      pub frame_once : (ss : States) → StatesOk all outer d ss → count_of ss ≤ most → AreOnce (frame_locals tys f ss)
      frame_once ss ok l =
          let inner = locals_only 0 ss ok (omega (arith, l)) in (
            not_among (FrameWord Next) JumpOn next_apart (word Next) tt refl (λ y. bytes_eq (word_name Jump f.depth) y || declares (locals_from tys f 0 ss) y)
                (either_only f.depth JumpOn (bytes_eq (word_name Jump f.depth)) (declares (locals_from tys f 0 ss)) (one_only f.depth JumpOn (word Jump) tt (inl refl)) (weaker_only f.depth (FromState 0) JumpOn (λ a q. inr q) (declares (locals_from tys f 0 ss)) inner)),
            (
              not_among (FrameWord Jump) (FromState 0) (frame_later Jump 0) (word Jump) tt refl (declares (locals_from tys f 0 ss)) inner,
              locals_once 0 ss ok (omega (arith, l)),
            ),
          )
