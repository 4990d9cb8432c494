-- What reading a text answers.
use Rattle.std.specs.Prelude.{Bool, false, ◌∷◌, ◌++◌, ◌≡◌, ◌≤◌, ◌<◌, ℕ, ◌+◌, List, length}
use Rattle.hp_base.specs.Limits.{most}
use Rattle.hp_base.specs.declared.limit.Limit.{Limit}
use Rattle.hp_base.specs.declared.limit.What.TheVariants as what
use Rattle.hp_base.specs.declared.span.Span.{Span}
use Rattle.hp_obc.specs.Machines.{Obc}
use Rattle.hp_obctext.specs.declared.error.ObcErr.{ObcErr}
use Rattle.hp_obctext.specs.declared.error.ObcErr.TheVariants as error
use Rattle.hp_obctext.specs.Files.{File}
use Rattle.hp_obctext.specs.Lexing.{words}
use Rattle.hp_obctext.specs.Machines.{machines_of}
use Rattle.hp_obctext.specs.Places.{IsPlaceOf}
use Rattle.hp_obctext.specs.Refusals.{SpellFile, IsRefused}
use Rattle.hp_obctext.specs.Rules.{in_file, AllTrue}

-- The words of a text are those of a file.
abbrev pub IsFileOf : List ℕ → File → Type 0
IsFileOf text f = SpellFile (words text) f

-- A text stands for machines: its words, within the limit, are those of a file that keeps the rules of form, and they are its machines.
pub record IsTextOf (text : List ℕ) (o : Obc) : Type 0 where
  pub within : length text ≤ most what.Text
  pub file_is : File
  pub spelled : IsFileOf text file_is
  pub kept : AllTrue (in_file file_is)
  pub machines : o ≡ machines_of file_is

-- The words of a text within the limit are those of a file, and one of them is the first that breaks a rule of form: there is a rule for
-- each word.
pub record BreaksForm (text : List ℕ) (span : Span) : Type 0 where
  pub within : length text ≤ most what.Text
  pub file_is : File
  pub spelled : IsFileOf text file_is
  pub front : List Bool
  pub rest : List Bool
  pub split : in_file file_is ≡ front ++ false ∷ rest
  pub kept : AllTrue front
  pub aligned : length (in_file file_is) ≡ length (words text)
  pub place : IsPlaceOf text (length front) span

-- The text passes the limit.
pub record IsTooLong (text : List ℕ) (limit : Limit) : Type 0 where
  pub longer : most what.Text < length text
  pub limit_is : limit ≡ record { what = what.Text; found = most what.Text + 1 }

-- why a text is refused
abbrev pub Refuses : List ℕ → ObcErr → Type 0
Refuses text (error.Syntax span) = IsRefused text span
Refuses text (error.Form span) = BreaksForm text span
Refuses text (error.Limit limit) = IsTooLong text limit
Refuses text error.OutOfMemory = Unit {0}
