-- Certificates: diagrams as lines, and what some of them prove of a Boolean machine.
use Rattle.std.specs.Prelude.{ℕ, suc, ◌+◌, ◌≤◌, ◌<◌, ◌^◌, All, IsTrue, List, [], ◌∷◌, length, Option, Some, None}
use Rattle.hp_obc.specs.Form.{is_name}
use Rattle.hp_quant.specs.declared.line.Line.{Line}

-- What is proved, by references: 0 is false, 1 is true, and 2 is the first line. Nothing is forced: a set of states, and a function for each control bit. Or a violation is
-- forced: the states from which it is, in one instant, in two, and so on.
pub data Claim : Type 0 where
  win : ℕ → List ℕ → Claim
  lose : List ℕ → Claim

-- The name of a machine, how many variables it has of each kind, how many bits its controllable variables have, where that is said, the lines, and what is proved.
pub record Certificate : Type 0 where
  pub node : List ℕ
  pub registers : ℕ
  pub early : ℕ
  pub control : ℕ
  pub late : ℕ
  pub widths : Option (List ℕ)
  pub lines : List Line
  pub claim : Claim

-- a count or a variable
abbrev pub IsShort : ℕ → Type 0
IsShort n = n < 2 ^ 16

abbrev pub AreWidths : Option (List ℕ) → Type 0
AreWidths None = Unit {0}
AreWidths (Some ns) = All IsShort ns

-- a reference to what is below a number; a text within the limit has fewer than 2 ^ 32 lines
abbrev pub IsRef : ℕ → ℕ → Type 0
IsRef end r = (r < end) × (r < 2 ^ 32)

-- lines from a number on: each refers to false, true or earlier lines
abbrev pub AreLines : ℕ → List Line → Type 0
AreLines n [] = Unit {0}
AreLines n (l ∷ ls) = IsShort l.var × IsRef n l.low × IsRef n l.high × AreLines (suc n) ls

-- what is proved refers to what is below a number; there is at least one rank
abbrev pub IsClaim : ℕ → Claim → Type 0
IsClaim end (win inv funs) = IsRef end inv × All (IsRef end) funs
IsClaim end (lose ranks) = (1 ≤ length ranks) × (length ranks < 2 ^ 32) × All (IsRef end) ranks

-- What holds of the certificates that a text can say.
pub record HasForm (c : Certificate) : Type 0 where
  pub node : IsTrue (is_name c.node)
  pub registers : IsShort c.registers
  pub early : IsShort c.early
  pub control : IsShort c.control
  pub late : IsShort c.late
  pub widths : AreWidths c.widths
  pub lines : AreLines 2 c.lines
  pub claim : IsClaim (length c.lines + 2) c.claim
