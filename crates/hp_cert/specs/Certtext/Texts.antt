-- The text of a certificate: its lines, in each of which there is one space between the words, and a newline at the end.
--
--   hept-cert 1                            or, where widths are said, hept-cert 2
--   node NAME
--   kind win                               or kind lose
--   vars REGISTERS EARLY CONTROL LATE
--   controls WIDTH ..                      where widths are said
--   d N VAR LOW HIGH                       for each line, N counting up from 2
--   inv REF, and for each function fun REF     or least COUNT, and for each rank rank K REF, K counting up from 1
--   end
use Rattle.std.specs.Prelude.{◌≡◌, ℕ, suc, List, [], ◌∷◌, ◌++◌, length, codes, Option, Some, None}
use Rattle.std.specs.Fmt.{decimal}
use Rattle.hp_quant.specs.declared.line.Line.{Line}
use Rattle.hp_cert.specs.Certtext.Certificates.{Claim, win, lose, Certificate, HasForm}
use Rattle.hp_cert.specs.Certtext.Pieces.{Piece, Pieces, joined}

abbrev pub space : Piece
space = 32 ∷ []

abbrev pub newline : Piece
newline = 10 ∷ []

-- words, each behind a space
abbrev pub spaced : List Piece → Pieces
spaced [] = []
spaced (w ∷ ws) = space ∷ w ∷ spaced ws

-- numbers as words
abbrev pub decimals : List ℕ → List Piece
decimals [] = []
decimals (n ∷ ns) = decimal n ∷ decimals ns

-- a line that begins with a word
abbrev pub line : Piece → List Piece → Pieces
line w ws = w ∷ spaced ws ++ newline ∷ []

abbrev pub version : Option (List ℕ) → Piece
version None = codes "1"
version (Some ns) = codes "2"

abbrev pub kind : Claim → Piece
kind (win inv funs) = codes "win"
kind (lose ranks) = codes "lose"

abbrev pub controls : Option (List ℕ) → Pieces
controls None = []
controls (Some ns) = line (codes "controls") (decimals ns)

-- lines from a number on
abbrev pub lines : ℕ → List Line → Pieces
lines n [] = []
lines n (l ∷ ls) = line (codes "d") (decimals (n ∷ l.var ∷ l.low ∷ l.high ∷ [])) ++ lines (suc n) ls

abbrev pub funs : List ℕ → Pieces
funs [] = []
funs (r ∷ rs) = line (codes "fun") (decimals (r ∷ [])) ++ funs rs

-- ranks from a number on
abbrev pub ranks : ℕ → List ℕ → Pieces
ranks k [] = []
ranks k (r ∷ rs) = line (codes "rank") (decimals (k ∷ r ∷ [])) ++ ranks (suc k) rs

abbrev pub claim : Claim → Pieces
claim (win inv rs) = line (codes "inv") (decimals (inv ∷ [])) ++ funs rs
claim (lose rs) = line (codes "least") (decimals (length rs ∷ [])) ++ ranks 1 rs

unfoldable pub cert_pieces : Certificate → Pieces
cert_pieces c =
    line (codes "hept-cert") (version c.widths ∷ []) ++ (line (codes "node") (c.node ∷ []) ++ (line (codes "kind") (kind c.claim ∷ [])
    ++ (line (codes "vars") (decimals (c.registers ∷ c.early ∷ c.control ∷ c.late ∷ [])) ++ (controls c.widths
    ++ (lines 2 c.lines ++ (claim c.claim ++ line (codes "end") []))))))

abbrev pub cert_text : Certificate → List ℕ
cert_text c = joined (cert_pieces c)

-- A text says a certificate.
pub record IsCertText (text : List ℕ) (c : Certificate) : Type 0 where
  pub form : HasForm c
  pub text_is : text ≡ cert_text c
