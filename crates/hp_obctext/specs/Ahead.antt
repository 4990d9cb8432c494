-- The words ahead of a reader.
use Rattle.std.specs.Prelude.{ℕ, List, [], ◌∷◌, Option, None, Some}
use denote.Ref.{Bor}
use Rattle.hp_obctext.specs.Lexing.{words}
use Rattle.hp_obctext.specs.declared.reader.Reader.TheInside.{Inside}

abbrev pub with_word : Option (Bor (List ℕ)) → List (List ℕ) → List (List ℕ)
with_word None ws = []
with_word (Some w) ws = w.now ∷ ws

abbrev pub reader_seen : Inside → List (List ℕ)
reader_seen r = with_word r.word (words r.behind.now)
