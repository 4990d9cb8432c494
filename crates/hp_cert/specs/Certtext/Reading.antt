-- Certificates, read piece by piece: what the pieces ahead come to.
use Rattle.std.specs.Prelude.{ℕ, zero, suc, ◌+◌, min, Bool, true, false, not, ◌&&◌, ◌||◌, ◌==◌, nat_le, nat_lt, if◌then◌else◌, List, [], ◌∷◌, ◌++◌, length, codes, Option, None, Some, option_and_then}
use Rattle.std.specs.Fmt.{decimal}
use Rattle.std.specs.Str.{bytes_eq}
use Rattle.hp_boolx.specs.declared.machine.Counts.{Counts}
use Rattle.hp_lines.specs.Numbers.{natural_of}
use Rattle.hp_obc.specs.Form.{is_name, is_reserved}
use Rattle.hp_quant.specs.declared.line.Line.{Line}
use Rattle.hp_cert.specs.Certtext.Certificates.{Claim, win, lose, Certificate}
use Rattle.hp_cert.specs.Certtext.Outcomes.{Outcome, done, refused, ◌>>=◌}
use Rattle.hp_cert.specs.Certtext.Pieces.{Piece, Pieces}
use Rattle.hp_cert.specs.Certtext.Texts.{space, newline}

abbrev pub Reader : Type 0 → Type 0
Reader A = Pieces → Outcome A

-- a piece that is refused: at the end of the text, it is taken where it can go on
abbrev pub stop_at : Bool → Piece → Pieces → Pieces
stop_at on w [] = if on then [] else w ∷ []
stop_at on w (v ∷ ws) = w ∷ v ∷ ws

-- one piece, which stands for something, or can go on to one that does
abbrev pub one : {A : Type 0} → (Piece → Bool) → (Piece → Option A) → Reader A
one on of [] = refused []
one on of (w ∷ ws) = elim (of w) [ Some a ↦ done a ws | None ↦ refused (stop_at (on w) w ws) ]

-- a piece begins a word
abbrev pub is_start : Piece → Piece → Bool
is_start [] word = true
is_start (b ∷ w) [] = false
is_start (b ∷ w) (c ∷ word) = b == c && is_start w word

abbrev pub this : Piece → Piece → Option (Unit {0})
this word w = if bytes_eq w word then Some tt else None

abbrev pub fixed : Piece → Reader (Unit {0})
fixed word = one (λ w. is_start w word) (this word)

-- whether the piece is the first of two
abbrev pub which : Piece → Piece → Piece → Option Bool
which word other w = if bytes_eq w word then Some true else (if bytes_eq w other then Some false else None)

abbrev pub either : Piece → Piece → Reader Bool
either word other = one (λ w. is_start w word || is_start w other) (which word other)

-- digits without needless zeros
abbrev pub is_plain : Piece → Bool
is_plain [] = false
is_plain (b ∷ w) = not (b == 48) || length w == 0

-- the number of a word, if it is in a range
abbrev pub within : ℕ → ℕ → ℕ → Option ℕ
within from end n = if nat_le from n && nat_lt n end then Some n else None

abbrev pub number_of : ℕ → ℕ → Piece → Option ℕ
number_of from end w = if is_plain w then option_and_then (within from end) (natural_of w) else None

abbrev pub number : ℕ → ℕ → Reader ℕ
number from end = one (λ w. length w == 0) (number_of from end)

abbrev pub name_of : Piece → Option Piece
name_of w = if is_name w then Some w else None

abbrev pub name : Reader Piece
name = one (λ w. is_reserved w || length w == 0) name_of

-- items behind some that were read, each behind a word, until another word comes; each has a piece, so there are not more items than pieces
abbrev pub until_within : {A : Type 0} → Piece → Piece → (ℕ → Reader A) → ℕ → List A → Reader (List A)
until_within word stop item zero items ws = refused ws
until_within word stop item (suc most) items ws =
    either word stop ws >>= λ b. if b.0 then (item (length items) b.1 >>= λ x. until_within word stop item most (items ++ x.0 ∷ []) x.1) else done items b.1

abbrev pub until : {A : Type 0} → Piece → Piece → (ℕ → Reader A) → List A → Reader (List A)
until word stop item items ws = until_within word stop item (suc (length ws)) items ws

-- so many items behind some
abbrev pub times : {A : Type 0} → (ℕ → Reader A) → ℕ → List A → Reader (List A)
times item zero items ws = done items ws
times item (suc n) items ws = item (length items) ws >>= λ x. times item n (items ++ x.0 ∷ []) x.1

-- a number behind a space; a number of 33 bits has no place in a text
abbrev pub field : ℕ → Reader ℕ
field end ws = fixed space ws >>= λ r. number 0 (min end 4294967296) r.1

-- whether widths are said
abbrev pub heading : Reader Bool
heading ws = fixed (codes "hept-cert") ws >>= λ r. fixed space r.1 >>= λ r. either (codes "2") (codes "1") r.1 >>= λ b. fixed newline b.1 >>= λ r. done b.0 r.1

abbrev pub node : Reader Piece
node ws = fixed (codes "node") ws >>= λ r. fixed space r.1 >>= λ r. name r.1 >>= λ x. fixed newline x.1 >>= λ r. done x.0 r.1

-- whether nothing is forced
abbrev pub is_win : Reader Bool
is_win ws = fixed (codes "kind") ws >>= λ r. fixed space r.1 >>= λ r. either (codes "win") (codes "lose") r.1 >>= λ b. fixed newline b.1 >>= λ r. done b.0 r.1

abbrev pub counts : Reader Counts
counts ws =
    fixed (codes "vars") ws >>= λ r. field 65536 r.1 >>= λ a. field 65536 a.1 >>= λ b. field 65536 b.1 >>= λ c. field 65536 c.1 >>= λ d. fixed newline d.1 >>= λ r.
    done (record { registers = a.0; early = b.0; control = c.0; late = d.0 }) r.1

abbrev pub width : ℕ → Reader ℕ
width i = number 0 65536

abbrev pub widths : Reader (List ℕ)
widths ws = fixed (codes "controls") ws >>= λ r. until space newline width [] r.1

-- a line behind its first word, where there are so many before
abbrev pub line : ℕ → Reader Line
line i ws =
    fixed space ws >>= λ r. fixed (decimal (i + 2)) r.1 >>= λ r. field 65536 r.1 >>= λ x. field (i + 2) x.1 >>= λ low. field (i + 2) low.1 >>= λ high. fixed newline high.1 >>= λ r.
    done (record { var = x.0; low = low.0; high = high.0 }) r.1

abbrev pub lines : Piece → Reader (List Line)
lines stop = until (codes "d") stop line []

abbrev pub ref_line : ℕ → Reader ℕ
ref_line end ws = field end ws >>= λ r. fixed newline r.1 >>= λ l. done r.0 l.1

abbrev pub fun : ℕ → ℕ → Reader ℕ
fun end i = ref_line end

abbrev pub rank : ℕ → ℕ → Reader ℕ
rank end i ws = fixed (codes "rank") ws >>= λ r. fixed space r.1 >>= λ r. fixed (decimal (i + 1)) r.1 >>= λ r. ref_line end r.1

abbrev pub won : Reader (List Line × Claim)
won ws =
    lines (codes "inv") ws >>= λ ls. ref_line (length ls.0 + 2) ls.1 >>= λ inv. until (codes "fun") (codes "end") (fun (length ls.0 + 2)) [] inv.1 >>= λ rs.
    done (ls.0, win inv.0 rs.0) rs.1

abbrev pub least : Reader ℕ
least ws = fixed space ws >>= λ r. number 1 4294967296 r.1 >>= λ n. fixed newline n.1 >>= λ r. done n.0 r.1

abbrev pub lost : Reader (List Line × Claim)
lost ws =
    lines (codes "least") ws >>= λ ls. least ls.1 >>= λ n. times (rank (length ls.0 + 2)) n.0 [] n.1 >>= λ rs. fixed (codes "end") rs.1 >>= λ r.
    done (ls.0, lose rs.0) r.1

abbrev pub said_widths : Bool → Reader (Option (List ℕ))
said_widths true ws = widths ws >>= λ ns. done (Some ns.0) ns.1
said_widths false ws = done None ws

abbrev pub proved : Bool → Reader (List Line × Claim)
proved true = won
proved false = lost

abbrev pub body : Reader Certificate
body ws =
    heading ws >>= λ said. node said.1 >>= λ x. is_win x.1 >>= λ wins. counts wins.1 >>= λ n. said_widths said.0 n.1 >>= λ ns. proved wins.0 ns.1 >>= λ p.
    fixed newline p.1 >>= λ r.
    done (record { node = x.0; registers = n.0.registers; early = n.0.early; control = n.0.control; late = n.0.late; widths = ns.0; lines = p.0.0; claim = p.0.1 }) r.1

-- what was read is all
abbrev pub alone : {A : Type 0} → A → Reader A
alone a [] = done a []
alone a (w ∷ ws) = refused (w ∷ ws)

abbrev pub cert : Reader Certificate
cert ws = body ws >>= λ c. alone c.0 c.1
