-- The words of a call: the name of a command, and the arguments behind it.
use Rattle.std.specs.Prelude.{◌≡◌, ◌≢◌, ◌==◌, ℕ, Bool, true, not, List, [], ◌∷◌, Option, Some, None, drop}

-- A word that begins with `-` is no argument.
abbrev pub IsArgument : List ℕ → Type 0
IsArgument [] = Unit {0}
IsArgument (b ∷ word) = b ≢ 45

-- the same, as a test
abbrev pub is_argument : List ℕ → Bool
is_argument [] = true
is_argument (b ∷ word) = not (b == 45)

-- Behind the name of the command stands one word, and it is an argument.
pub record IsOneArgument (words : List (List ℕ)) (argument : List ℕ) : Type 0 where
  pub behind : drop 1 words ≡ argument ∷ []
  pub is_argument : IsArgument argument

-- Behind the name of the command stand two words, and both are arguments.
pub record AreTwoArguments (words : List (List ℕ)) (first second : List ℕ) : Type 0 where
  pub behind : drop 1 words ≡ first ∷ second ∷ []
  pub first_is_argument : IsArgument first
  pub second_is_argument : IsArgument second

-- Behind the name of the command stand three words, and all are arguments.
pub record AreThreeArguments (words : List (List ℕ)) (first second third : List ℕ) : Type 0 where
  pub behind : drop 1 words ≡ first ∷ second ∷ third ∷ []
  pub first_is_argument : IsArgument first
  pub second_is_argument : IsArgument second
  pub third_is_argument : IsArgument third

-- three things, where all are there
abbrev pub all_three : {A B C : Type 0} → Option A → Option B → Option C → Option (A × B × C)
all_three (Some first) (Some second) (Some third) = Some (first, second, third)
all_three first second third = None
