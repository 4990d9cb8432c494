-- Where a text is refused that is no checkpoint: at the first byte with which it begins none, and for a word at the first byte of the word.
use Rattle.std.specs.Prelude.{◌≡◌, ◌≤◌, ◌⊎◌, ℕ, true, List, [], ◌∷◌, ◌++◌, length, if◌then◌else◌}
use Rattle.hp_base.specs.declared.span.Span.{Span}
use Rattle.hp_obc.specs.Form.{is_name}
use Rattle.hp_obctext.specs.MemoryTexts.{Ended, newline, is_gap, IsWord, joined, AreValues, value_lines, IsCheckpointOf}
use Rattle.hp_obctext.specs.MemoryReading.{first_word}
use Rattle.hp_obctext.specs.Places.{span_behind}

-- a set of texts, by their words
abbrev pub Texts : Type 1
Texts = List Ended → Type 0

-- some text begins with these words
abbrev pub Begins : Texts → List Ended → Type 0
Begins texts front = (more : List Ended) × texts (front ++ more)

-- The words in front begin a text, and with the next word they begin none, whatever ends it.
pub record WrongWord (texts : Texts) (text rest : List ℕ) : Type 0 where
  pub front : List Ended
  pub word : List ℕ
  pub gap : ℕ
  pub behind : List ℕ
  pub split : text ≡ joined front ++ rest
  pub rest_is : rest ≡ word ++ gap ∷ behind
  pub is_word : IsWord word
  pub ends : is_gap gap ≡ true
  pub begun : Begins texts front
  pub dead : (other : ℕ) → Begins texts (front ++ (word, other) ∷ []) → ⊥

-- The words in front and the next one begin a text, where another byte ends it.
pub record WrongGap (texts : Texts) (text rest : List ℕ) : Type 0 where
  pub front : List Ended
  pub word : List ℕ
  pub gap : ℕ
  pub behind : List ℕ
  pub split : text ≡ joined front ++ (word ++ rest)
  pub rest_is : rest ≡ gap ∷ behind
  pub is_word : IsWord word
  pub ends : is_gap gap ≡ true
  pub begun : (other : ℕ) × Begins texts (front ++ (word, other) ∷ [])
  pub dead : Begins texts (front ++ (word, gap) ∷ []) → ⊥

-- The text ends, and goes on to one: its last word may be cut off.
pub record TooShort (texts : Texts) (text rest : List ℕ) : Type 0 where
  pub front : List Ended
  pub word : List ℕ
  pub split : text ≡ joined front ++ word
  pub rest_is : rest ≡ []
  pub is_word : IsWord word
  pub begun : (cut : List ℕ) × (gap : ℕ) × Begins texts (front ++ (word ++ cut, gap) ∷ [])

-- The words in front begin a text, and the text ends in a word that can go on to none behind them.
pub record WrongEnd (texts : Texts) (text rest : List ℕ) : Type 0 where
  pub front : List Ended
  pub split : text ≡ joined front ++ rest
  pub some : 1 ≤ length rest
  pub is_word : IsWord rest
  pub begun : Begins texts front
  pub dead : (cut : List ℕ) (gap : ℕ) → Begins texts (front ++ (rest ++ cut, gap) ∷ []) → ⊥

-- A text is refused, with what stands from the place on.
abbrev pub IsWrong : Texts → List ℕ → List ℕ → Type 0
IsWrong texts text rest = WrongWord texts text rest ⊎ WrongGap texts text rest ⊎ TooShort texts text rest ⊎ WrongEnd texts text rest

-- the words of checkpoints
abbrev pub IsCheckpoint : Texts
IsCheckpoint es = (name : List ℕ) × (ws : List (List ℕ)) × IsCheckpointOf name ws es

-- the words of values, and the last line
abbrev pub Lines : Texts
Lines es = (ws : List (List ℕ)) × AreValues ws × (es ≡ value_lines ws)

-- a name in front of them
abbrev pub Named : Texts
Named es = (name : List ℕ) × (ws : List (List ℕ)) × (is_name name ≡ true) × AreValues ws × (es ≡ (name, newline) ∷ value_lines ws)

-- how many bytes the word or gap at a place has
abbrev pub size_at : List ℕ → ℕ
size_at [] = 0
size_at (b ∷ rest) = if is_gap b then 1 else length (first_word (b ∷ rest))

-- A text is no checkpoint, from a place on.
pub record IsNoCheckpoint (text : List ℕ) (span : Span) : Type 0 where
  pub front : List ℕ
  pub rest : List ℕ
  pub split : text ≡ front ++ rest
  pub wrong : IsWrong IsCheckpoint text rest
  pub place : span ≡ span_behind front (size_at rest)
