-- From the arguments behind a command's name to the forms of a call.
use Rattle.std.proofs.Common.{◌≡◌, ◌∙◌, ℕ, List, [], ◌∷◌, inl, inr, map, take, drop, Option, None, Some, MatchOption, codes, refl, sym, ap, ap₂, subst, get_or, length, arith, ◌≤◌, ◌-◌, ◌↔◌}
use Rattle.std.specs.Borrow.{Bor}
use Rattle.hp_driver.specs.Command.{IsOnTraceBy, IsOnCertBy, IsPlainCheckOf, IsPrintOf}
use Rattle.hp_arguments.specs.Words.{AreThreeArguments, AreTwoArguments, IsArgument, IsOneArgument}

-- the words are the first of them and what stands behind it
named_and : (words : List (List ℕ)) (name : List ℕ) (behind : List (List ℕ)) → take 1 words ≡ name ∷ [] → drop 1 words ≡ behind → words ≡ name ∷ behind
named_and [] name behind named rest = absurd cc
named_and (word ∷ words) name behind named rest = ap₂ (λ (w : List ℕ) (ws : List (List ℕ)). w ∷ ws) (ap (λ ws. get_or ws 0 []) named) rest

-- the first of some words, and whether it is a name
pub first_word : {X : Type 0} (f : X → List ℕ) (xs : List X) (x : X) → 1 ≤ length xs → x ≡ get_or xs 0 x → take 1 (map f xs) ≡ f x ∷ []
first_word f [] x some is = absurd (omega (arith, some))
first_word f (y ∷ xs) x some is = ap (λ z. f z ∷ []) (sym is)

pub is_named : (word name : List ℕ) (words : List (List ℕ)) → take 1 words ≡ word ∷ [] → (take 1 words ≡ name ∷ []) ↔ (word ≡ name)
is_named word name words first = (λ named. ap (λ ws. get_or ws 0 []) (sym first ∙ named), λ same. first ∙ ap (λ w. w ∷ []) same)

module _ (words : List (List ℕ)) (name : List ℕ) (named : take 1 words ≡ name ∷ []) where
  -- a command with two arguments
  pub two_of : (found : Option (Bor (List ℕ) × Bor (List ℕ)))
      → MatchOption found ((first second : List ℕ) → AreTwoArguments words first second → ⊥) (λ both. AreTwoArguments words both.0.now both.1.now)
      → MatchOption found ((file node : List ℕ) → IsOnTraceBy name words file node → ⊥) (λ both. IsOnTraceBy name words both.0.now both.1.now)
  two_of None none = λ file node there.
      none file node (record { behind = ap (drop 1) there.spelled; first_is_argument = there.file_is_argument; second_is_argument = there.node_is_argument })
  two_of (Some both) are = record {
    spelled = named_and words name (both.0.now ∷ both.1.now ∷ []) named are.behind;
    file_is_argument = are.first_is_argument;
    node_is_argument = are.second_is_argument;
  }

  -- a command with three arguments
  pub three_of : (found : Option (Bor (List ℕ) × Bor (List ℕ) × Bor (List ℕ)))
      → MatchOption found ((first second third : List ℕ) → AreThreeArguments words first second third → ⊥) (λ all. AreThreeArguments words all.0.now all.1.now all.2.now)
      → MatchOption found ((file node cert : List ℕ) → IsOnCertBy name words file node cert → ⊥) (λ all. IsOnCertBy name words all.0.now all.1.now all.2.now)
  three_of None none = λ file node cert there.
      none file node cert
      (record { behind = ap (drop 1) there.spelled; first_is_argument = there.file_is_argument; second_is_argument = there.node_is_argument; third_is_argument = there.cert_is_argument })
  three_of (Some all) are = record {
    spelled = named_and words name (all.0.now ∷ all.1.now ∷ all.2.now ∷ []) named are.behind;
    file_is_argument = are.first_is_argument;
    node_is_argument = are.second_is_argument;
    cert_is_argument = are.third_is_argument;
  }

module _ (words : List (List ℕ)) (named : take 1 words ≡ codes "check" ∷ []) where
  -- `check` with one
  pub one_of : (found : Option (Bor (List ℕ)))
      → MatchOption found ((argument : List ℕ) → IsOneArgument words argument → ⊥) (λ argument. IsOneArgument words argument.now)
      → MatchOption found ((file : List ℕ) → IsPlainCheckOf words file → ⊥) (λ file. IsPlainCheckOf words file.now)
  one_of None none = λ file there. none file (record { behind = ap (drop 1) there.spelled; is_argument = there.file_is_argument })
  one_of (Some file) is = record { spelled = named_and words (codes "check") (file.now ∷ []) named is.behind; file_is_argument = is.is_argument }

-- of three words the first two, and the last two
pub but_last : {X : Type 0} (f : X → List ℕ) (xs : List X) (x : X) → length xs ≡ 3 → x ≡ get_or xs 1 x → drop 1 (map f (take 2 xs)) ≡ f x ∷ []
but_last f [] x three is = absurd (omega (arith, three))
but_last f (y ∷ []) x three is = absurd (omega (arith, three))
but_last f (y ∷ z ∷ xs) x three is = ap (λ w. f w ∷ []) (sym is)

pub but_first : {X : Type 0} (f : X → List ℕ) (xs : List X) (x : X) → length xs ≡ 3 → x ≡ get_or xs 2 x → drop 1 (map f (take (length xs - 1) (drop 1 xs))) ≡ f x ∷ []
but_first f [] x three is = absurd (omega (arith, three))
but_first f (y ∷ []) x three is = absurd (omega (arith, three))
but_first f (y ∷ z ∷ []) x three is = absurd (omega (arith, three))
but_first f (y ∷ z ∷ u ∷ []) x three is = ap (λ w. f w ∷ []) (sym is)
but_first f (y ∷ z ∷ u ∷ v ∷ xs) x three is = absurd (omega (arith, three))

-- the second and the third of three words
second_of : (a b d x y z : List ℕ) → a ∷ b ∷ d ∷ [] ≡ x ∷ y ∷ z ∷ [] → b ≡ y
second_of a b d x y z same = ap (λ ws. get_or ws 1 []) same

third_of : (a b d x y z : List ℕ) → a ∷ b ∷ d ∷ [] ≡ x ∷ y ∷ z ∷ [] → d ≡ z
third_of a b d x y z same = ap (λ ws. get_or ws 2 []) same

-- the option is no file
no_option : (file : List ℕ) → codes "--print" ≡ file → IsArgument file → ⊥
no_option file same is = subst IsArgument (sym same) is refl

-- with the option behind the file, or before it, `others` are the words without it
module _ (words others : List (List ℕ)) (word : List ℕ) (behind : drop 1 others ≡ word ∷ []) where
  abbrev pub Read : Option (Bor (List ℕ)) → Type 0
  Read found = MatchOption found ((argument : List ℕ) → IsOneArgument others argument → ⊥) (λ argument. IsOneArgument others argument.now)

  abbrev pub Printed : Option (Bor (List ℕ)) → Type 0
  Printed found = MatchOption found ((file : List ℕ) → IsPrintOf words file → ⊥) (λ file. IsPrintOf words file.now)

  same_word : (file : List ℕ) → drop 1 others ≡ file ∷ [] → word ≡ file
  same_word file is = ap (λ ws. get_or ws 0 []) (sym behind ∙ is)

  one_word : (file : List ℕ) → word ≡ file → IsArgument file → IsOneArgument others file
  one_word file same is = record { behind = behind ∙ ap (λ w. w ∷ []) same; is_argument = is }

  pub with_print_behind : words ≡ codes "check" ∷ word ∷ codes "--print" ∷ [] → (found : Option (Bor (List ℕ))) → Read found → Printed found
  with_print_behind are None none = λ file there. elim there.spelled [
    | inl same ↦ none file (one_word file (second_of (codes "check") word (codes "--print") (codes "check") file (codes "--print") (sym are ∙ same)) there.file_is_argument)
    | inr same ↦ no_option file (third_of (codes "check") word (codes "--print") (codes "check") (codes "--print") file (sym are ∙ same)) there.file_is_argument
  ]
  with_print_behind are (Some file) is = record {
    spelled = inl (are ∙ ap (λ w. codes "check" ∷ w ∷ codes "--print" ∷ []) (same_word file.now is.behind));
    file_is_argument = is.is_argument;
  }

  pub with_print_before : words ≡ codes "check" ∷ codes "--print" ∷ word ∷ [] → (found : Option (Bor (List ℕ))) → Read found → Printed found
  with_print_before are None none = λ file there. elim there.spelled [
    | inl same ↦ no_option file (second_of (codes "check") (codes "--print") word (codes "check") file (codes "--print") (sym are ∙ same)) there.file_is_argument
    | inr same ↦ none file (one_word file (third_of (codes "check") (codes "--print") word (codes "check") (codes "--print") file (sym are ∙ same)) there.file_is_argument)
  ]
  with_print_before are (Some file) is = record {
    spelled = inr (are ∙ ap (λ w. codes "check" ∷ codes "--print" ∷ w ∷ []) (same_word file.now is.behind));
    file_is_argument = is.is_argument;
  }
