-- What a text begins with.
use Rattle.std.specs.Prelude.{ℕ, Bool, false, ◌&&◌, ◌==◌, List, [], ◌∷◌}
use Rattle.hp_base.specs.Bytes.{is_blank}

-- Whether a text begins with a blank.
abbrev pub begins_blank : List ℕ → Bool
begins_blank [] = false
begins_blank (b ∷ text) = is_blank b

-- Whether a text begins with `(*`.
abbrev pub begins_comment : List ℕ → Bool
begins_comment (b ∷ c ∷ text) = b == 40 && c == 42
begins_comment text = false

-- Whether a text begins with `*)`.
abbrev pub begins_end : List ℕ → Bool
begins_end (b ∷ c ∷ text) = b == 42 && c == 41
begins_end text = false
