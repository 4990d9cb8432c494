-- The text of a checkpoint: the name of a node, and the values that its machine keeps, in order.
--
--   hept-mem 1
--   node NAME
--   VALUE          one line for each value
--   end
use Rattle.std.specs.Prelude.{◌≡◌, ℕ, Bool, true, false, not, ◌||◌, ◌==◌, List, [], ◌∷◌, ◌++◌, codes, Option, None, Some}
use Rattle.std.specs.Fmt.{signed_decimal}
use Rattle.std.specs.List.{list_all}
use Rattle.std.specs.Str.{bytes_eq}
use Rattle.hp_lines.specs.Numbers.{number_of}
use Rattle.hp_obc.specs.Form.{is_name, is_constructor}

-- a word, and the byte that ends it
abbrev pub Ended : Type 0
Ended = List ℕ × ℕ

abbrev pub space : ℕ
space = 32

abbrev pub newline : ℕ
newline = 10

-- what ends a word
abbrev pub is_gap : ℕ → Bool
is_gap b = b == space || b == newline

-- A word does not end within.
abbrev pub IsWord : List ℕ → Type 0
IsWord w = list_all (λ b. not (is_gap b)) w ≡ true

-- the text of some words
abbrev pub joined : List Ended → List ℕ
joined [] = []
joined (e ∷ es) = e.0 ++ e.1 ∷ joined es

-- a line for each value, and the last line
abbrev pub value_lines : List (List ℕ) → List Ended
value_lines [] = (codes "end", newline) ∷ []
value_lines (w ∷ ws) = (w, newline) ∷ value_lines ws

-- the words in front of the name
abbrev pub heading : List Ended
heading = (codes "hept-mem", space) ∷ (codes "1", newline) ∷ (codes "node", space) ∷ []

abbrev pub checkpoint : List ℕ → List (List ℕ) → List Ended
checkpoint name ws = heading ++ (name, newline) ∷ value_lines ws

-- a number of 32 bits as it is printed: with no needless zeros, and not `-0`
abbrev pub is_number : List ℕ → Bool
is_number w = elim (number_of w) [ None ↦ false | Some n ↦ bytes_eq w (signed_decimal n) ]

-- the word of a value
abbrev pub is_value : List ℕ → Bool
is_value w = bytes_eq w (codes "true") || bytes_eq w (codes "false") || is_constructor w || is_number w

-- each is the word of a value
abbrev pub AreValues : List (List ℕ) → Type 0
AreValues [] = Unit {0}
AreValues (w ∷ ws) = (is_value w ≡ true) × AreValues ws

-- Words are those of a checkpoint of a node, with these values.
pub record IsCheckpointOf (name : List ℕ) (ws : List (List ℕ)) (es : List Ended) : Type 0 where
  pub node : is_name name ≡ true
  pub values : AreValues ws
  pub words : es ≡ checkpoint name ws

-- A text says a checkpoint of a node, with the values that some words spell.
pub record Says (text name : List ℕ) (ws : List (List ℕ)) : Type 0 where
  pub words : List Ended
  pub checkpoint_is : IsCheckpointOf name ws words
  pub text_is : text ≡ joined words
