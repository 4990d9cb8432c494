-- What a contract declares and defines occurs in the text.
use Rattle.std.proofs.Common.{◌≡◌, ◌⊎◌, inl, inr, ℕ, Bool, true, false, ◌||◌, ◌&&◌, not, if◌then◌else◌, List, [], ◌∷◌, ◌++◌, map, None, Some, is_some, refl, ap, subst}
use Rattle.std.specs.Str.{bytes_eq}
use Rattle.std.proofs.lemmas.Slice.Eq.{bytes_eq-Decides}
use Rattle.hp_base.specs.Known.Known.{lookup, with_entry}
use Rattle.hp_base.specs.declared.span.Span.{Span}
use Rattle.hp_tree.specs.Blocks.{Decl, Block, block, Eqns, no_eqn, more_eqns, Eqn, define, switch, reset, automaton, Arms, no_arm, more_arms, States, no_state, more_states, eqns_of}
use Rattle.hp_tree.specs.Meaning.{is_among, declares, defines, some_defines, arms_define, states_define, block_defines}
use Rattle.hp_past.specs.declared.formula.Formulas.{Formulas}
use Rattle.hp_past.specs.Names.{Names, noted, is_taken, names_in, names_in_decl, names_in_decls, names_in_transitions, names_in_block, names_in_eqns, names_in_eqn, names_in_arms, names_in_states}
use Rattle.hp_past.specs.Unfolding.{Added, in_eqn, in_eqns}

-- ---- a name among others

abbrev pub In : List ℕ → List (List ℕ) → Type 0
In x [] = ⊥
In x (y ∷ ys) = (y ≡ x) ⊎ In x ys

pub in-left : (x : List ℕ) (xs ys : List (List ℕ)) → In x xs → In x (xs ++ ys)
in-left x [] ys h = absurd h
in-left x (y ∷ xs) ys (inl e) = inl e
in-left x (y ∷ xs) ys (inr h) = inr (in-left x xs ys h)

pub in-right : (x : List ℕ) (xs ys : List (List ℕ)) → In x ys → In x (xs ++ ys)
in-right x [] ys h = h
in-right x (y ∷ xs) ys h = inr (in-right x xs ys h)

-- ---- what is noted is taken

lookup-front : (es : Names) (e : List ℕ × List ℕ) (x : List ℕ) → is_taken es x ≡ true → is_taken (es ++ e ∷ []) x ≡ true
lookup-front [] e x h = absurd cc
lookup-front (f ∷ es) e x h = by (bytes_eq x f.0) (lookup-front es e x) h
  where
    by : (same : Bool) → (is_taken es x ≡ true → is_taken (es ++ e ∷ []) x ≡ true) → is_some (if same then Some f.1 else lookup es x) ≡ true → is_some (if same then Some f.1 else lookup (es ++ e ∷ []) x) ≡ true
    by true rest h = refl
    by false rest h = rest h

lookup-last : (es : Names) (x : List ℕ) → is_taken (es ++ (x, x) ∷ []) x ≡ true
lookup-last [] x = ap (λ same. is_some (if same then Some x else None)) ((bytes_eq-Decides x x).1 refl)
lookup-last (f ∷ es) x = by (bytes_eq x f.0) (lookup-last es x)
  where
    by : (same : Bool) → is_taken (es ++ (x, x) ∷ []) x ≡ true → is_some (if same then Some f.1 else lookup (es ++ (x, x) ∷ []) x) ≡ true
    by true rest = refl
    by false rest = rest

entry-old : (es : Names) (y x : List ℕ) → is_taken es x ≡ true → is_taken (with_entry es y y) x ≡ true
entry-old es y x h = by (is_some (lookup es y))
  where
    by : (known : Bool) → is_taken (if known then es else es ++ (y, y) ∷ []) x ≡ true
    by true = h
    by false = lookup-front es (y, y) x h

entry-new : (es : Names) (x : List ℕ) → is_taken (with_entry es x x) x ≡ true
entry-new es x = by (is_some (lookup es x)) refl
  where
    by : (known : Bool) → is_some (lookup es x) ≡ known → is_taken (if known then es else es ++ (x, x) ∷ []) x ≡ true
    by true e = e
    by false e = lookup-last es x

noted-old : (es : Names) (xs : List (List ℕ)) (x : List ℕ) → is_taken es x ≡ true → is_taken (noted es xs) x ≡ true
noted-old es [] x h = h
noted-old es (y ∷ xs) x h = noted-old (with_entry es y y) xs x (entry-old es y x h)

pub noted-taken : (es : Names) (xs : List (List ℕ)) (x : List ℕ) → In x xs → is_taken (noted es xs) x ≡ true
noted-taken es [] x h = absurd h
noted-taken es (y ∷ xs) x (inl e) = noted-old (with_entry es y y) xs x (subst (λ z. is_taken (with_entry es y y) z ≡ true) e (entry-new es y))
noted-taken es (y ∷ xs) x (inr h) = noted-taken (with_entry es y y) xs x h

-- ---- what is declared and defined is among the names

pub declares-in : (ds : List Decl) (x : List ℕ) → declares ds x ≡ true → In x (names_in_decls ds)
declares-in [] x h = absurd cc
declares-in (d ∷ ds) x h = by (bytes_eq d.name x) refl h (declares-in ds x)
  where
    by : (same : Bool) → bytes_eq d.name x ≡ same → (same || declares ds x) ≡ true → (declares ds x ≡ true → In x (names_in_decls ds)) → In x (names_in_decl d ++ names_in_decls ds)
    by true e h rest = inl ((bytes_eq-Decides d.name x).0 e)
    by false e h rest = in-right x (names_in_decl d) (names_in_decls ds) (rest h)

among-in : (xs : List (List ℕ × Span)) (x : List ℕ) → is_among xs x ≡ true → In x (map (λ y. y.0) xs)
among-in [] x h = absurd cc
among-in (y ∷ xs) x h = by (bytes_eq y.0 x) refl h (among-in xs x)
  where
    by : (same : Bool) → bytes_eq y.0 x ≡ same → (same || is_among xs x) ≡ true → (is_among xs x ≡ true → In x (map (λ y. y.0) xs)) → (y.0 ≡ x) ⊎ In x (map (λ y. y.0) xs)
    by true e h rest = inl ((bytes_eq-Decides y.0 x).0 e)
    by false e h rest = inr (rest h)

either : (a b : Bool) → (a || b) ≡ true → (a ≡ true) ⊎ (b ≡ true)
either true b h = inl refl
either false b h = inr h

first-of : (a b : Bool) → (a && b) ≡ true → a ≡ true
first-of true b h = refl
first-of false b h = h

mutual
  pub defines-in : (q : Eqn) (x : List ℕ) → defines q x ≡ true → In x (names_in_eqn q)
  defines-in (define s xs e) x h = in-left x (map (λ y. y.0) xs) (names_in e) (among-in xs x h)
  defines-in (switch s e arms) x h = in-right x (names_in e) (names_in_arms arms) (arms-in arms x h)
  defines-in (reset s b e) x h = in-left x (names_in_block b) (names_in e) (block-in b x h)
  defines-in (automaton s qs) x h = states-in qs x h

  pub some-in : (es : Eqns) (x : List ℕ) → some_defines es x ≡ true → In x (names_in_eqns es)
  some-in no_eqn x h = absurd cc
  some-in (more_eqns q es) x h =
      elim (either (defines q x) (some_defines es x) h) [
        | inl l ↦ in-left x (names_in_eqn q) (names_in_eqns es) (defines-in q x l)
        | inr r ↦ in-right x (names_in_eqn q) (names_in_eqns es) (some-in es x r)
      ]

  block-in : (b : Block) (x : List ℕ) → block_defines b x ≡ true → In x (names_in_block b)
  block-in (block ds es) x h = in-right x (names_in_decls ds) (names_in_eqns es) (some-in es x (first-of (some_defines es x) (not (declares ds x)) h))

  arms-in : (arms : Arms) (x : List ℕ) → arms_define arms x ≡ true → In x (names_in_arms arms)
  arms-in no_arm x h = absurd cc
  arms-in (more_arms c b s arms) x h =
      elim (either (block_defines b x) (arms_define arms x) h) [
        | inl l ↦ in-left x (names_in_block b) (names_in_arms arms) (block-in b x l)
        | inr r ↦ in-right x (names_in_block b) (names_in_arms arms) (arms-in arms x r)
      ]

  states-in : (qs : States) (x : List ℕ) → states_define qs x ≡ true → In x (names_in_states qs)
  states-in no_state x h = absurd cc
  states-in (more_states f b until unless s qs) x h =
      elim (either (block_defines b x) (states_define qs x) h) [
        | inl l ↦ in-left x (names_in_block b ++ (names_in_transitions until ++ names_in_transitions unless)) (names_in_states qs)
            (in-left x (names_in_block b) (names_in_transitions until ++ names_in_transitions unless) (block-in b x l))
        | inr r ↦ in-right x (names_in_block b ++ (names_in_transitions until ++ names_in_transitions unless)) (names_in_states qs) (states-in qs x r)
      ]

-- ---- an equation that is unfolded defines what it defined

module _ (there : Formulas) (names : Names) (x : List ℕ) where
  eqn-same : (q : Eqn) (s : Added) → defines (in_eqn there names q s).0 x ≡ defines q x
  eqn-same (define at xs e) s = refl
  eqn-same (switch at e arms) s = refl
  eqn-same (reset at b e) s = refl
  eqn-same (automaton at qs) s = refl

  pub eqns-same : (es : Eqns) (s : Added) → some_defines (eqns_of (in_eqns there names es s).0) x ≡ some_defines es x
  eqns-same no_eqn s = refl
  eqns-same (more_eqns q es) s = (λ j. eqn-same q s j || eqns-same es (in_eqn there names q s).1 j)
