-- Tests of names, and what lists of equations define and declare.
use Rattle.std.proofs.Common.{◌≡◌, ℕ, Bool, true, false, not, ◌&&◌, ◌||◌, if◌then◌else◌, List, [], ◌∷◌, ◌++◌, map, inl, inr, refl, sym, ap, ap₂, subst, ◌∙◌}
use Rattle.std.specs.Prelude.{◌⊎◌}
use Rattle.std.specs.Str.{bytes_eq}
use Rattle.hp_base.specs.declared.span.Span.{Span}
use Rattle.hp_tree.specs.Blocks.{Decl, Block, block, Eqns, no_eqn, more_eqns, Eqn, define, switch, reset, automaton, Arms, no_arm, more_arms, States, no_state, more_states, eqns_of}
use Rattle.hp_tree.specs.Meaning.{is_among, declares, defines, some_defines, block_defines, arms_define, states_define, names_of as declared_names}
use Rattle.hp_tables.specs.Defining.Names.{names_in, names_of, names_of_arms, names_of_states, outer_names}
use Rattle.hp_automata.proofs.NameLaws.{undeclared_is}
use Rattle.hp_automata.specs.Names.{is_name, missing}
use Rattle.law_automata.proofs.LoweredLemmas.Apart.{same_bytes, bytes_same}

-- ---- truth values

pub or_left : (a b : Bool) → a ≡ true → (a || b) ≡ true
or_left true b h = refl
or_left false b h = absurd cc

pub or_right : (a b : Bool) → b ≡ true → (a || b) ≡ true
or_right true b h = refl
or_right false b h = h

pub or_cases : (a b : Bool) → (a || b) ≡ true → (a ≡ true) ⊎ (b ≡ true)
or_cases true b h = inl refl
or_cases false b h = inr h

pub or_none : (a b : Bool) → a ≡ false → b ≡ false → (a || b) ≡ false
or_none true b h g = absurd cc
or_none false b h g = g

pub or_first : (a b : Bool) → (a || b) ≡ false → a ≡ false
or_first true b h = absurd cc
or_first false b h = refl

pub or_second : (a b : Bool) → (a || b) ≡ false → b ≡ false
or_second true b h = absurd cc
or_second false b h = h

pub or_assoc : (a b c : Bool) → ((a || b) || c) ≡ (a || (b || c))
or_assoc true b c = refl
or_assoc false b c = refl

pub and_first : (a b : Bool) → (a && b) ≡ true → a ≡ true
and_first true b h = refl
and_first false b h = absurd cc

pub and_second : (a b : Bool) → (a && b) ≡ true → b ≡ true
and_second true b h = h
and_second false b h = absurd cc

pub and_both : (a b : Bool) → a ≡ true → b ≡ true → (a && b) ≡ true
and_both true b h g = g
and_both false b h g = absurd cc

pub and_not : (a b : Bool) → a ≡ true → b ≡ false → (a && not b) ≡ true
and_not true true h g = absurd cc
and_not true false h g = refl
and_not false b h g = absurd cc

pub not_true : (b : Bool) → not b ≡ true → b ≡ false
not_true true h = absurd cc
not_true false h = refl

pub true_false : (b : Bool) → b ≡ true → b ≡ false → ⊥
true_false true h g = absurd cc
true_false false h g = absurd cc

pub equal_tests : (a b : Bool) → (a ≡ true → b ≡ true) → (b ≡ true → a ≡ true) → a ≡ b
equal_tests true true h g = refl
equal_tests true false h g = sym (h refl)
equal_tests false true h g = g refl
equal_tests false false h g = refl

-- ---- names

pub bytes_turned : (x y : List ℕ) → bytes_eq x y ≡ bytes_eq y x
bytes_turned x y =
    equal_tests (bytes_eq x y) (bytes_eq y x) (λ h. subst (λ z. bytes_eq z x ≡ true) (same_bytes x y h) (bytes_same x))
    (λ h. subst (λ z. bytes_eq z y ≡ true) (same_bytes y x h) (bytes_same y))

as_or : (a b : Bool) → (if a then true else b) ≡ (a || b)
as_or true b = refl
as_or false b = refl

pub name_first : (y : List ℕ) (ys : List (List ℕ)) (x : List ℕ) → is_name (y ∷ ys) x ≡ (bytes_eq y x || is_name ys x)
name_first y ys x = as_or (bytes_eq x y) (is_name ys x) ∙ ap (λ t. t || is_name ys x) (bytes_turned x y)

pub name_append : (xs ys : List (List ℕ)) (x : List ℕ) → is_name (xs ++ ys) x ≡ (is_name xs x || is_name ys x)
name_append [] ys x = refl
name_append (y ∷ xs) ys x =
    name_first y (xs ++ ys) x ∙ ap (λ t. bytes_eq y x || t) (name_append xs ys x) ∙ sym (or_assoc (bytes_eq y x) (is_name xs x) (is_name ys x)) ∙ ap (λ t. t || is_name ys x) (sym (name_first y xs x))

pub name_among : (ys : List (List ℕ × Span)) (x : List ℕ) → is_name (map (λ (y : List ℕ × Span). y.0) ys) x ≡ is_among ys x
name_among [] x = refl
name_among (y ∷ ys) x = name_first y.0 (map (λ (z : List ℕ × Span). z.0) ys) x ∙ ap (λ t. bytes_eq y.0 x || t) (name_among ys x)

pub name_declared : (ds : List Decl) (x : List ℕ) → is_name (declared_names ds) x ≡ declares ds x
name_declared [] x = refl
name_declared (d ∷ ds) x = name_first d.name (declared_names ds) x ∙ ap (λ t. bytes_eq d.name x || t) (name_declared ds x)

missing_by : (own : List ℕ → Bool) (y : List ℕ) (ys : List (List ℕ)) (x : List ℕ) (t u : Bool) → own y ≡ t → bytes_eq y x ≡ u → is_name (missing own ys) x ≡ (is_name ys x && not (own x))
    → is_name (if t then missing own ys else y ∷ missing own ys) x ≡ ((u || is_name ys x) && not (own x))
missing_by own y ys x true true h g r = r ∙ ap (λ t. is_name ys x && not t) mine ∙ none (is_name ys x) ∙ ap not (sym mine)
  where
    mine : own x ≡ true
    mine = subst (λ z. own z ≡ true) (same_bytes y x g) h

    none : (b : Bool) → (b && false) ≡ false
    none true = refl
    none false = refl
missing_by own y ys x true false h g r = r
missing_by own y ys x false true h g r =
    name_first y (missing own ys) x ∙ ap (λ t. t || is_name (missing own ys) x) g ∙ sym (ap not (subst (λ z. own z ≡ false) (same_bytes y x g) h))
missing_by own y ys x false false h g r = name_first y (missing own ys) x ∙ ap (λ t. t || is_name (missing own ys) x) g ∙ r

pub name_missing : (own : List ℕ → Bool) (ys : List (List ℕ)) (x : List ℕ) → is_name (missing own ys) x ≡ (is_name ys x && not (own x))
name_missing own [] x = refl
name_missing own (y ∷ ys) x =
    missing_by own y ys x (own y) (bytes_eq y x) refl refl (name_missing own ys x) ∙ ap (λ t. t && not (own x)) (sym (name_first y ys x))

-- the names of equations are those that they define
mutual
  pub names_defined : (es : Eqns) (x : List ℕ) → is_name (names_in es) x ≡ some_defines es x
  names_defined no_eqn x = refl
  names_defined (more_eqns e es) x = name_append (names_of e) (names_in es) x ∙ ap₂ (λ a b. a || b) (names_of_one e x) (names_defined es x)

  pub names_of_one : (e : Eqn) (x : List ℕ) → is_name (names_of e) x ≡ defines e x
  names_of_one (define s ys e) x = name_among ys x
  names_of_one (switch s e arms) x = names_in_arms arms x
  names_of_one (reset s b e) x = names_outer b x
  names_of_one (automaton s ss) x = names_in_states ss x

  pub names_in_arms : (arms : Arms) (x : List ℕ) → is_name (names_of_arms arms) x ≡ arms_define arms x
  names_in_arms no_arm x = refl
  names_in_arms (more_arms c b s arms) x = name_append (outer_names b) (names_of_arms arms) x ∙ ap₂ (λ a c. a || c) (names_outer b x) (names_in_arms arms x)

  pub names_in_states : (ss : States) (x : List ℕ) → is_name (names_of_states ss) x ≡ states_define ss x
  names_in_states no_state x = refl
  names_in_states (more_states f b until unless s ss) x = name_append (outer_names b) (names_of_states ss) x ∙ ap₂ (λ a c. a || c) (names_outer b x) (names_in_states ss x)

  pub names_outer : (b : Block) (x : List ℕ) → is_name (outer_names b) x ≡ block_defines b x
  names_outer (block ds es) x =
      ap (λ ys. is_name ys x) (undeclared_is ds (names_in es)) ∙ name_missing (declares ds) (names_in es) x ∙ ap (λ a. a && not (declares ds x)) (names_defined es x)

-- ---- lists of equations and of declarations

pub some_append : (xs ys : List Eqn) (x : List ℕ) → some_defines (eqns_of (xs ++ ys)) x ≡ (some_defines (eqns_of xs) x || some_defines (eqns_of ys) x)
some_append [] ys x = refl
some_append (e ∷ xs) ys x = ap (λ t. defines e x || t) (some_append xs ys x) ∙ sym (or_assoc (defines e x) (some_defines (eqns_of xs) x) (some_defines (eqns_of ys) x))

pub declares_append : (xs ys : List Decl) (x : List ℕ) → declares (xs ++ ys) x ≡ (declares xs x || declares ys x)
declares_append [] ys x = refl
declares_append (d ∷ xs) ys x = ap (λ t. bytes_eq d.name x || t) (declares_append xs ys x) ∙ sym (or_assoc (bytes_eq d.name x) (declares xs x) (declares ys x))
