-- The pieces ahead of a reader.
use Rattle.std.specs.Prelude.{ℕ, Bool, ◌&&◌, ◌==◌, List, length, if◌then◌else◌}
use Rattle.hp_cert.specs.Certtext.Pieces.{Pieces, pieces}
use Rattle.hp_cert.specs.declared.certtext.reader.Reader.TheInside.{Inside}

abbrev pub reader_seen : Inside → Pieces
reader_seen r = pieces r.rest.now

-- where a text is refused whose first piece is: behind its end, where this is its last piece and can go on
abbrev pub stop_in : Bool → List ℕ → List ℕ → List ℕ
stop_in on text behind = if on && (length behind == 0) then behind else text
