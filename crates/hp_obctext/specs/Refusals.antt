-- Where the words of a text are refused.
use Rattle.std.specs.Prelude.{◌≡◌, ◌≤◌, ℕ, List, [], ◌∷◌, ◌++◌, length}
use Rattle.hp_base.specs.Limits.{most}
use Rattle.hp_base.specs.declared.limit.What.TheVariants as what
use Rattle.hp_base.specs.declared.span.Span.{Span}
use Rattle.hp_obctext.specs.Files.{File, file_words}
use Rattle.hp_obctext.specs.Lexing.{words}
use Rattle.hp_obctext.specs.Outcomes.{Words}
use Rattle.hp_obctext.specs.Places.{IsPlaceOf}
use Rattle.hp_obctext.specs.Shapes.{IsFileText}
use Rattle.hp_obctext.specs.Spells.{Spell}

-- The words are those of a file.
abbrev pub SpellFile : Words → File → Type 0
SpellFile us f = IsFileText f × Spell us (file_words f)

-- The words of some file begin with these.
pub record BeginFile (us : Words) : Type 0 where
  pub more : Words
  pub file_is : File
  pub whole : SpellFile (us ++ more) file_is

-- With the next word they begin no file; where no word is next, they are those of none.
abbrev pub IsDead : Words → Words → Type 0
IsDead front [] = (f : File) → SpellFile front f → ⊥
IsDead front (w ∷ behind) = BeginFile (front ++ w ∷ []) → ⊥

-- In a text within the limit the words before a place begin a file, and with the word at the place they begin none. Where the place is
-- behind the text, all of its words begin a file, and are those of none.
pub record IsRefused (text : List ℕ) (span : Span) : Type 0 where
  pub within : length text ≤ most what.Text
  pub front : Words
  pub rest : Words
  pub split : words text ≡ front ++ rest
  pub begun : BeginFile front
  pub dead : IsDead front rest
  pub place : IsPlaceOf text (length front) span
