-- What a certificate says of a machine, and when it fits the machine.
-- Source: winning sets of safety games, and the ranks of the states from which the other side wins, Thomas (STACS 1995); diagrams by Bryant (1986).
use Rattle.std.specs.Prelude.{◌≡◌, ℕ, suc, ◌+◌, ◌<◌, ◌⊎◌, IsTrue, IsFalse, List, [], ◌∷◌, ◌++◌, length, map, All, slice_get, Option, Some, None}
use Rattle.hp_boolx.specs.Game.{joined, IsState, ValidLate, ValidChoice, ValidEarly}
use Rattle.hp_boolx.specs.Machine.{Machine, variables, game}
use Rattle.hp_boolx.specs.Search.{Bits, Set}
use Rattle.hp_boolx.specs.Solved.{rank}
use Rattle.hp_cert.specs.Certtext.Certificates.{Claim, win, lose, Certificate}
use Rattle.hp_diagram.specs.Diagrams.{valuation}
use Rattle.hp_quant.specs.declared.line.Line.{Line}
use Rattle.hp_quant.specs.Lines.{line_function}

module _ (lines : List Line) where
  -- the set of a reference: the lists of values, of the variables from 0 on, at which its function is true
  abbrev pub set_of : ℕ → Set
  set_of r values = line_function lines r (valuation values)

  -- the functions of control bits at a state and early values
  abbrev pub functions_of : List ℕ → Bits → Bits → Bits
  functions_of [] s u = []
  functions_of (f ∷ fs) s u = set_of f (s ++ u) ∷ functions_of fs s u

  -- ---- what references read

  -- the first reference comes to the second
  pub data Reaches : ℕ → ℕ → Type 0 where
    here : {r : ℕ} → Reaches r r
    by_low : {i s : ℕ} {l : Line} → slice_get lines i ≡ Some l → Reaches l.low s → Reaches (suc (suc i)) s
    by_high : {i s : ℕ} {l : Line} → slice_get lines i ≡ Some l → Reaches l.high s → Reaches (suc (suc i)) s

  -- the lines that it reaches have variables below a number
  abbrev pub ReadsBelow : ℕ → ℕ → Type 0
  ReadsBelow bound r = (i : ℕ) (l : Line) → Reaches r (suc (suc i)) → slice_get lines i ≡ Some l → l.var < bound

-- a state is in the set, or in the last rank
abbrev pub HoldsAt : List Line → Bits → Claim → Type 0
HoldsAt lines state (win inv funs) = IsTrue (set_of lines inv state)
HoldsAt lines state (lose ranks) = IsTrue (rank (map (set_of lines) ranks) (length ranks) state)

-- ---- when a certificate fits a machine

module _ (m : Machine) (c : Certificate) where
  abbrev pub HasName : Type 0
  HasName = c.node ≡ m.name

  abbrev pub HasWidths : Option (List ℕ) → Type 0
  HasWidths None = Unit {0}
  HasWidths (Some ws) = ws ≡ m.widths

  -- its counts, its widths, where they are said, and no other variables
  pub record HasVars : Type 0 where
    pub registers : c.registers ≡ m.registers
    pub early : c.early ≡ m.early
    pub control : c.control ≡ m.control
    pub late : c.late ≡ m.late
    pub widths : HasWidths c.widths
    pub lines : All (λ (l : Line). l.var < variables m) c.lines

  -- a function for each control bit
  abbrev pub HasCount : Claim → Type 0
  HasCount (win inv funs) = length funs ≡ m.control
  HasCount (lose ranks) = Unit {0}

  -- sets of states read registers alone, and functions of control bits read registers and early bits
  abbrev pub InScope : Claim → Type 0
  InScope (win inv funs) = ReadsBelow c.lines m.registers inv × All (ReadsBelow c.lines (m.registers + m.early)) funs
  InScope (lose ranks) = All (ReadsBelow c.lines m.registers) ranks

  pub record Fits : Type 0 where
    pub name : HasName
    pub vars : HasVars
    pub count : HasCount c.claim
    pub scope : InScope c.claim

  -- ---- its conditions

  -- the initial state is in the set, or in the last rank
  abbrev pub HoldsAtFirst : Claim → Type 0
  HoldsAtFirst k = HoldsAt c.lines m.init k

module _ (m : Machine) (lines : List Line) where
  -- from each state of the set, for all valid early values, the functions give a valid choice, by which the hypothesis gives the duty and a state of the set
  abbrev pub Keeps : ℕ → List ℕ → Type 0
  Keeps inv funs =
      let g = game m in
      let X = set_of lines inv in
      let F = functions_of lines funs in
      (r u : Bits) → IsState g r → IsTrue (X r) → ValidEarly g r u
      → ValidChoice g r u (F r u) × ((w : Bits) → ValidLate g r u (F r u) w → IsTrue (g.hyp (joined r u (F r u) w)) → IsTrue (g.duty (joined r u (F r u) w)) × IsTrue (X (g.next (joined r u (F r u) w))))

  -- from each state of rank k + 1 a violation, or rank k, can be forced by the next instant
  abbrev pub ForcesNext : List ℕ → ℕ → Type 0
  ForcesNext ranks k =
      let g = game m in
      let X = map (set_of lines) ranks in
      (r : Bits) → IsState g r → IsTrue (rank X (suc k) r)
      → (u : Bits) × ValidEarly g r u × ((v : Bits) → ValidChoice g r u v → (w : Bits) × ValidLate g r u v w × IsTrue (g.hyp (joined r u v w)) × (IsFalse (g.duty (joined r u v w)) ⊎ IsTrue (rank X k (g.next (joined r u v w)))))
