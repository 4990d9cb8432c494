-- From the words of a run that tells to its form, and from the words of a sweep to its numbers.
use Rattle.std.proofs.Common.{◌≡◌, ◌≢◌, ◌≤◌, ◌<◌, ◌+◌, ◌*◌, ◌-◌, ℕ, zero, suc, Bool, true, false, if◌then◌else◌, inl, inr, List, [], ◌∷◌, Option, None, Some, MatchOption, codes, refl, sym, ap, subst, ◌∙◌, arith, drop, length, get_or, map}
use Rattle.std.specs.Borrow.{Bor}
use Rattle.hp_base.specs.Bytes.{is_digit}
use Rattle.hp_arguments.specs.Words.{IsArgument}
use Rattle.hp_driver.specs.Command.{IsOnTraceBy, IsTellOf, IsSweepOf, SpellsNumber, with_digit, with_digits}
use Rattle.hp_driver.specs.Commanded.{AreBoth}

-- ---- `run` with the option

-- the option is no argument
no_option : (word : List ℕ) → word ≡ codes "--contract" → IsArgument word → ⊥
no_option word e h = subst IsArgument e h refl

same_three : (x a b c d e f : List ℕ) → x ∷ a ∷ b ∷ c ∷ [] ≡ x ∷ d ∷ e ∷ f ∷ [] → (a ≡ d) × (b ≡ e) × (c ≡ f)
same_three x a b c d e f h = (cc, cc, cc)

abbrev Found : List (List ℕ) → Option (Bor (List ℕ) × Bor (List ℕ)) → Type 0
Found words found = MatchOption found ((file node : List ℕ) → IsTellOf words file node → ⊥) (λ both. IsTellOf words both.0.now both.1.now)

module _ (words : List (List ℕ)) (f s t : List ℕ) (are : words ≡ codes "run" ∷ f ∷ s ∷ t ∷ []) where
  abbrev pub Option_at : List ℕ → Type 0
  Option_at word = word ≡ codes "--contract"

  -- the words of each form
  module _ (file node : List ℕ) where
    behind : words ≡ codes "run" ∷ file ∷ node ∷ codes "--contract" ∷ [] → (file ≡ f) × (node ≡ s) × Option_at t
    behind e = let h = same_three (codes "run") file node (codes "--contract") f s t (sym e ∙ are) in (h.0, h.1, sym h.2)

    between : words ≡ codes "run" ∷ file ∷ codes "--contract" ∷ node ∷ [] → (file ≡ f) × Option_at s × (node ≡ t)
    between e = let h = same_three (codes "run") file (codes "--contract") node f s t (sym e ∙ are) in (h.0, sym h.1, h.2)

    before : words ≡ codes "run" ∷ codes "--contract" ∷ file ∷ node ∷ [] → Option_at f × (file ≡ s) × (node ≡ t)
    before e = let h = same_three (codes "run") (codes "--contract") file node f s t (sym e ∙ are) in (sym h.0, h.1, h.2)

  pub told_behind : Option_at t → (found : Option (Bor (List ℕ) × Bor (List ℕ))) → AreBoth f s found → Found words found
  told_behind o None none = λ file node there. elim there.spelled [
    | inl e ↦ (let h = behind file node e in none (subst IsArgument h.0 there.file_is_argument) (subst IsArgument h.1 there.node_is_argument))
    | inr r ↦ elim r [
      | inl e ↦ (let h = between file node e in no_option node (h.2 ∙ o) there.node_is_argument)
      | inr e ↦ (let h = before file node e in no_option node (h.2 ∙ o) there.node_is_argument)
    ]
  ]
  told_behind o (Some both) h = record {
    spelled = inl (are ∙ (λ i. codes "run" ∷ sym h.0 i ∷ sym h.1 i ∷ o i ∷ []));
    file_is_argument = subst IsArgument (sym h.0) h.2;
    node_is_argument = subst IsArgument (sym h.1) h.3;
  }

  pub told_between : Option_at s → (found : Option (Bor (List ℕ) × Bor (List ℕ))) → AreBoth f t found → Found words found
  told_between o None none = λ file node there. elim there.spelled [
    | inl e ↦ (let h = behind file node e in no_option node (h.1 ∙ o) there.node_is_argument)
    | inr r ↦ elim r [
      | inl e ↦ (let h = between file node e in none (subst IsArgument h.0 there.file_is_argument) (subst IsArgument h.2 there.node_is_argument))
      | inr e ↦ (let h = before file node e in no_option file (h.1 ∙ o) there.file_is_argument)
    ]
  ]
  told_between o (Some both) h = record {
    spelled = inr (inl (are ∙ (λ i. codes "run" ∷ sym h.0 i ∷ o i ∷ sym h.1 i ∷ [])));
    file_is_argument = subst IsArgument (sym h.0) h.2;
    node_is_argument = subst IsArgument (sym h.1) h.3;
  }

  pub told_before : Option_at f → (found : Option (Bor (List ℕ) × Bor (List ℕ))) → AreBoth s t found → Found words found
  told_before o None none = λ file node there. elim there.spelled [
    | inl e ↦ (let h = behind file node e in no_option file (h.0 ∙ o) there.file_is_argument)
    | inr r ↦ elim r [
      | inl e ↦ (let h = between file node e in no_option file (h.0 ∙ o) there.file_is_argument)
      | inr e ↦ (let h = before file node e in none (subst IsArgument h.1 there.file_is_argument) (subst IsArgument h.2 there.node_is_argument))
    ]
  ]
  told_before o (Some both) h = record {
    spelled = inr (inr (are ∙ (λ i. codes "run" ∷ o i ∷ sym h.0 i ∷ sym h.1 i ∷ [])));
    file_is_argument = subst IsArgument (sym h.0) h.2;
    node_is_argument = subst IsArgument (sym h.1) h.3;
  }

  pub told_nowhere : (f ≢ codes "--contract") → (s ≢ codes "--contract") → (t ≢ codes "--contract") → (file node : List ℕ) → IsTellOf words file node → ⊥
  told_nowhere n m k file node there = elim there.spelled [
    | inl e ↦ k (behind file node e).2
    | inr r ↦ elim r [ inl e ↦ m (between file node e).1 | inr e ↦ n (before file node e).0 ]
  ]

-- a list of four items
pub four : {X Y : Type 0} (f : X → Y) (xs : List X) (a b d e : X) → length xs ≡ 4 → a ≡ get_or xs 0 a → b ≡ get_or xs 1 b → d ≡ get_or xs 2 d → e ≡ get_or xs 3 e → map f xs ≡ f a ∷ f b ∷ f d ∷ f e ∷ []
four f [] a b d e h p q r s = absurd (omega (arith, h))
four f (x ∷ []) a b d e h p q r s = absurd (omega (arith, h))
four f (x ∷ y ∷ []) a b d e h p q r s = absurd (omega (arith, h))
four f (x ∷ y ∷ z ∷ []) a b d e h p q r s = absurd (omega (arith, h))
four f (x ∷ y ∷ z ∷ u ∷ []) a b d e h p q r s = λ i. f (sym p i) ∷ f (sym q i) ∷ f (sym r i) ∷ f (sym s i) ∷ []
four f (x ∷ y ∷ z ∷ u ∷ v ∷ xs) a b d e h p q r s = absurd (omega (arith, h))

-- other words are of no such run
pub told_by_run : (words : List (List ℕ)) (file node : List ℕ) → IsTellOf words file node → (get_or words 0 [] ≡ codes "run") × (length words ≡ 4)
told_by_run words file node there = elim there.spelled [
  | inl e ↦ (ap (λ ws. get_or ws 0 []) e, ap length e)
  | inr r ↦ elim r [ inl e ↦ (ap (λ ws. get_or ws 0 []) e, ap length e) | inr e ↦ (ap (λ ws. get_or ws 0 []) e, ap length e) ]
]

-- ---- numbers

-- a number grows by its digits
grows_by : (number byte : ℕ) (o : Option ℕ) → with_digit number byte ≡ o → MatchOption o (Unit {0}) (λ longer. number ≤ longer)
grows_by number byte o e = subst (λ z. MatchOption z (Unit {0}) (λ longer. number ≤ longer)) e (by (is_digit byte))
  where
    by : (d : Bool) → MatchOption (if d then Some (number * 10 + (byte - 48)) else None) (Unit {0}) (λ longer. number ≤ longer)
    by true = omega arith
    by false = tt

grows_behind : (o : Option ℕ) (number result : ℕ) (word : List ℕ) → ((longer : ℕ) → with_digits (Some longer) word ≡ Some result → longer ≤ result)
    → MatchOption o (Unit {0}) (λ longer. number ≤ longer) → with_digits o word ≡ Some result → number ≤ result
grows_behind None number result word more h k = absurd cc
grows_behind (Some longer) number result word more h k = let grown = more longer k in omega (arith, h, grown)

grows : (number : ℕ) (word : List ℕ) (result : ℕ) → with_digits (Some number) word ≡ Some result → number ≤ result
grows number [] result e = let same : number ≡ result = cc in omega (arith, same)
grows number (byte ∷ word) result e = grows_behind (with_digit number byte) number result word (λ longer. grows longer word result) (grows_by number byte (with_digit number byte) refl) e

-- what the rest of a word makes of a number: the next digit first
next_byte : (word : List ℕ) (i number : ℕ) → i < length word → with_digits (Some number) (drop i word) ≡ with_digits (with_digit number (get_or word i 0)) (drop (suc i) word)
next_byte [] i number h = absurd (omega (arith, h))
next_byte (byte ∷ word) zero number h = refl
next_byte (byte ∷ word) (suc i) number h = next_byte word i number (omega (arith, h))

pub next_digit : (word : List ℕ) (i number : ℕ) → i < length word → with_digits (Some number) (drop i word) ≡ with_digits (with_digit number (get_or word i 0)) (drop (i + 1) word)
next_digit word i number h =
    let same : suc i ≡ i + 1 = omega arith
    in next_byte word i number h ∙ ap (λ j. with_digits (with_digit number (get_or word i 0)) (drop j word)) same

-- the word spells no number up to a bound where one of its digits is none, or takes it past the bound
pub no_digit : (word : List ℕ) (i number most : ℕ) → i < length word → with_digits (Some number) (drop i word) ≡ with_digits (Some 0) word → with_digit number (get_or word i 0) ≡ None →
    (other : ℕ) → SpellsNumber word other → other ≤ most → ⊥
no_digit word i number most h same none other spells few =
    let e : with_digits None (drop (i + 1) word) ≡ Some other = sym (ap (λ o. with_digits o (drop (i + 1) word)) none) ∙ sym (next_digit word i number h) ∙ same ∙ spells.value in cc

pub too_many : (word : List ℕ) (i number longer most : ℕ) → i < length word → with_digits (Some number) (drop i word) ≡ with_digits (Some 0) word → with_digit number (get_or word i 0) ≡ Some longer → most < longer →
    (other : ℕ) → SpellsNumber word other → other ≤ most → ⊥
too_many word i number longer most h same is many other spells few =
    let e : with_digits (Some longer) (drop (i + 1) word) ≡ Some other = sym (ap (λ o. with_digits o (drop (i + 1) word)) is) ∙ sym (next_digit word i number h) ∙ same ∙ spells.value in
    let more = grows longer (drop (i + 1) word) other e in
    omega (arith, many, more, few)

-- a word that spells a number is an argument
dash_no_digit : (byte : ℕ) (word : List ℕ) (number : ℕ) → byte ≡ 45 → with_digits (with_digit 0 byte) word ≡ Some number → ⊥
dash_no_digit byte word number e h = let k : with_digits (with_digit 0 45) word ≡ Some number = subst (λ b. with_digits (with_digit 0 b) word ≡ Some number) e h in cc

pub spells_argument : (word : List ℕ) (number : ℕ) → SpellsNumber word number → IsArgument word
spells_argument [] number spells = tt
spells_argument (byte ∷ word) number spells = λ e. dash_no_digit byte word number e spells.value

-- ---- the words of a sweep

pub sweep_words : (words : List (List ℕ)) (tasks instants : ℕ) (w : IsSweepOf words tasks instants) → IsOnTraceBy (codes "sweep") words w.tasks_word w.instants_word
sweep_words words tasks instants w = record {
  spelled = w.spelled;
  file_is_argument = spells_argument w.tasks_word tasks w.tasks_are;
  node_is_argument = spells_argument w.instants_word instants w.instants_are;
}

same_two : (x a b c d : List ℕ) → x ∷ a ∷ b ∷ [] ≡ x ∷ c ∷ d ∷ [] → (a ≡ c) × (b ≡ d)
same_two x a b c d e = (cc, cc)

-- they are the words that were found
pub found_words : (words : List (List ℕ)) (first second : List ℕ) (tasks instants : ℕ) (w : IsSweepOf words tasks instants) → IsOnTraceBy (codes "sweep") words first second
    → (w.tasks_word ≡ first) × (w.instants_word ≡ second)
found_words words first second tasks instants w found = same_two (codes "sweep") w.tasks_word w.instants_word first second (sym w.spelled ∙ found.spelled)
