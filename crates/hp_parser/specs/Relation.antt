-- The notation as a relation between tokens, the whole of a phrase, and the value that the phrase stands for.
use Rattle.std.specs.Prelude.{◌≡◌, ◌⊎◌, ℕ, length, List, [], ◌∷◌, ◌++◌, Option, None, Bool, true}
use Rattle.hp_lexer.specs.declared.token.Sign.TheVariants.{Comma, Semicolon}
use Rattle.hp_parser.specs.Lexemes.{Lexeme, Kinds, is_ahead}
use Rattle.hp_parser.specs.Limits.{has_one, less, has_two, has_above}
use Rattle.hp_parser.specs.Notation.{Notation, Measured, Entry, alone, together}
use Rattle.hp_parser.specs.Tokens.{sign_of}

abbrev pub Phrase : Type 0 → Type 1
Phrase A = List Lexeme → A → Type 0

-- one phrase and behind it another
abbrev pub Both : {A B : Type 0} → Phrase A → Phrase B → Phrase (A × B)
Both first second w c = (u : List Lexeme) × (v : List Lexeme) × (w ≡ u ++ v) × first u c.0 × second v c.1

-- one token
abbrev pub One : Kinds → Phrase Lexeme
One kinds u t = (u ≡ t ∷ []) × (kinds t.kind ≡ true)

-- phrases one behind another, each of which takes some of what is left of a number
pub data Many {A : Type 0} (begins wants : Kinds) (takes : A → ℕ) (phrase : Option ℕ → Phrase A) : Option ℕ → List Lexeme → List A → Type 0 where
  no_more : {left : Option ℕ} → Many begins wants takes phrase left [] []
  one_more : {left : Option ℕ} {u v : List Lexeme} {a : A} {others : List A} → phrase left u a → is_ahead begins u ≡ true →
      (is_ahead wants u ≡ true → has_one left ≡ true) → Many begins wants takes phrase (less left (takes a)) v others →
      Many begins wants takes phrase left (u ++ v) (a ∷ others)

-- phrases with separators between them, and perhaps one at the end
pub data Separated {A : Type 0} (separates begins : Kinds) (phrase : Phrase A) : List Lexeme → List A → Type 0 where
  only : {u : List Lexeme} {a : A} → phrase u a → Separated separates begins phrase u (a ∷ [])
  ended : {u : List Lexeme} {a : A} (t : Lexeme) → phrase u a → separates t.kind ≡ true → Separated separates begins phrase (u ++ (t ∷ [])) (a ∷ [])
  one_more : {u v : List Lexeme} {a : A} {others : List A} (t : Lexeme) → phrase u a → separates t.kind ≡ true → is_ahead begins v ≡ true →
      Separated separates begins phrase v others → Separated separates begins phrase (u ++ (t ∷ v)) (a ∷ others)

-- phrases behind another, each of which may stand above what is before it
pub data Suffixes {A : Type 0} (begins : Kinds) (join : Measured → A → Measured) (depth : Option ℕ) (first : Phrase Measured) (suffix : Phrase A) : List Lexeme → Measured → Type 0 where
  none : {u : List Lexeme} {m : Measured} → first u m → Suffixes begins join depth first suffix u m
  one_more : {u v : List Lexeme} {m : Measured} {a : A} → Suffixes begins join depth first suffix u m → has_above depth m.height ≡ true →
      suffix v a → is_ahead begins v ≡ true → Suffixes begins join depth first suffix (u ++ v) (join m a)

-- at most one of them
pub data Suffix {A : Type 0} (begins : Kinds) (join : Measured → A → Measured) (depth : Option ℕ) (first : Phrase Measured) (suffix : Phrase A) : List Lexeme → Measured → Type 0 where
  none : {u : List Lexeme} {m : Measured} → first u m → Suffix begins join depth first suffix u m
  one : {u v : List Lexeme} {m : Measured} {a : A} → first u m → has_above depth m.height ≡ true → suffix v a → is_ahead begins v ≡ true →
      Suffix begins join depth first suffix (u ++ v) (join m a)

-- a token in front of a phrase
pub data Behind {A : Type 0} (kinds : Kinds) (phrase : Phrase A) : List Lexeme → A → Type 0 where
  behind : {u : List Lexeme} {a : A} (t : Lexeme) → kinds t.kind ≡ true → phrase u a → Behind kinds phrase (t ∷ u) a

abbrev pub one_each : {A : Type 0} → A → ℕ
one_each a = 1

-- names with commas between them
pub data Names {A : Type 0} (phrase : Phrase A) (left : Option ℕ) : List Lexeme → List A → Type 0 where
  names : {u v : List Lexeme} {a : A} {others : List A} → phrase u a →
      Many (sign_of Comma) (sign_of Comma) one_each (λ count. Behind (sign_of Comma) phrase) (less left 1) v others → Names phrase left (u ++ v) (a ∷ others)

abbrev pub names_in : {A B C : Type 0} → Entry A B C → ℕ
names_in (alone a) = 1
names_in (together bs c) = length bs

pub data OneEntry {A B C : Type 0} (begins : Kinds) (by_itself : Phrase A) (name : Phrase B) (shared : Phrase C) (left : Option ℕ) : List Lexeme → Entry A B C → Type 0 where
  one_alone : {u : List Lexeme} {a : A} → by_itself u a → is_ahead begins u ≡ true → OneEntry begins by_itself name shared left u (alone a)
  some_together : {u v : List Lexeme} {bs : List B} {c : C} → Names name left u bs → shared v c → OneEntry begins by_itself name shared left (u ++ v) (together bs c)

pub data Entries {A B C : Type 0} (begins : Kinds) (by_itself : Phrase A) (name : Phrase B) (shared : Phrase C) (left : Option ℕ) : List Lexeme → List (Entry A B C) → Type 0 where
  entries : {u v : List Lexeme} {e : Entry A B C} {others : List (Entry A B C)} → OneEntry begins by_itself name shared left u e →
      Many (sign_of Semicolon) (sign_of Semicolon) names_in (λ count. Behind (sign_of Semicolon) (OneEntry begins by_itself name shared count)) (less left (names_in e)) v others →
      Entries begins by_itself name shared left (u ++ v) (e ∷ others)

abbrev pub relation : Notation Phrase
relation = record {
  Depth = Option ℕ;
  Count = Option ℕ;
  unlimited = None;
  Room = Bool;
  always = true;
  deeper = has_two;
  give = λ a u b. (u ≡ []) × (a ≡ b);
  token = One;
  convert = λ f phrase u b. (a : _) × phrase u a × (f a ≡ b);
  both = Both;
  either_within = λ what room begins first second u a. ((room ≡ true) × (is_ahead begins u ≡ true) × first u a) ⊎ second u a;
  many_within = λ what begins wants takes left phrase. Many begins wants takes (λ count. phrase) left;
  separated = Separated;
  entries = λ what left begins by_itself name shared. Entries begins by_itself name shared left;
  suffix = Suffix;
  suffixes = Suffixes;
}
