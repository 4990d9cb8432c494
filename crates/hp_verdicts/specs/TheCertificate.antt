-- The one certificate of a machine: what it claims, by which functions, and in which order it has their lines.
-- Source: the greatest safe set and the preferred permitted choice, or the ranks from which a violation is forced, after Delaval, Marchand and Rutten (LCTES 2010) and Thomas (STACS 1995).
use Rattle.std.specs.Prelude.{◌≡◌, ◌≤◌, ◌↔◌, ⊤, IsTrue, ℕ, suc, Bool, List, [], ◌∷◌, length, map, Option, None, Some, if◌then◌else◌}
use Rattle.hp_boolx.specs.Game.{Forced, Game, Safe}
use Rattle.hp_boolx.specs.Machine.{IsMachine, Machine, game, variables}
use Rattle.hp_boolx.specs.Search.{Bits}
use Rattle.hp_boolx.specs.Solved.{IsChoice}
use Rattle.hp_cert.specs.Certmade.Lines.{references}
use Rattle.hp_cert.specs.Certtext.Certificates.{Certificate, Claim, lose, win}
use Rattle.hp_quant.specs.declared.line.Line.{Line}
use Rattle.hp_quant.specs.Lines.{line_function}
use Rattle.hp_synth.specs.Valued.{Valued, earlies, states}
use Rattle.hp_verdicts.specs.Canonical.{AreCanonical}

-- ---- its head

-- the widths that a certificate says: the machine's, where some controllable variable is not Boolean
abbrev pub said_widths : Bool → Machine → Option (List ℕ)
said_widths wide m = if wide then Some m.widths else None

-- a certificate is headed by the machine's name and counts, and by its widths, if they are said
pub record HasHead (m : Machine) (wide : Bool) (c : Certificate) : Type 0 where
  pub node : c.node ≡ m.name
  pub registers : c.registers ≡ m.registers
  pub early : c.early ≡ m.early
  pub control : c.control ≡ m.control
  pub late : c.late ≡ m.late
  pub widths : c.widths ≡ said_widths wide m

-- ---- what it claims

-- a violation is forced from the first state within so many instants, and within no fewer
pub record IsForcedWithin (g : Game) (instants : ℕ) : Type 0 where
  pub forced : Forced g instants g.init
  pub least : (fewer : ℕ) → Forced g fewer g.init → instants ≤ fewer

module _ (g : Game) (lines : List Line) where
  -- whatever values the variables have, the function of the reference is true exactly where those of the registers are a state of this kind
  abbrev pub IsSetOf : (Bits → Type 0) → ℕ → Type 0
  IsSetOf P r = (v : Valued) → IsTrue (line_function lines r v) ↔ P (states g v)

  -- the references are of the states from which a violation is forced within so many instants, within one more, and so on
  abbrev pub AreForcedFrom : ℕ → List ℕ → Type 0
  AreForcedFrom k [] = ⊤
  AreForcedFrom k (r ∷ rs) = IsSetOf (Forced g k) r × AreForcedFrom (suc k) rs

  -- whatever values the variables have, those of the functions are the preferred permitted choice at this state and these early values
  abbrev pub AreChoice : List ℕ → Type 0
  AreChoice funs = (v : Valued) → IsChoice g (states g v) (earlies g v) (map (λ f. line_function lines f v) funs)

  -- Where no violation is ever forced: the safe states, and the choice, bit by bit. Else, where it is forced first within n instants: the states from which it is forced within one, within two, up to n.
  abbrev pub IsClaimOf : Claim → Type 0
  IsClaimOf (win inv funs) = Safe g g.init × IsSetOf (Safe g) inv × AreChoice funs
  IsClaimOf (lose ranks) = IsForcedWithin g (length ranks) × AreForcedFrom 1 ranks

-- ---- the certificate

-- The machine is well made. The certificate has this head, it claims this of the machine's game, and its lines are the canonical ones of what it claims. There is no other certificate of the machine.
pub record IsTheCertificate (m : Machine) (wide : Bool) (c : Certificate) : Type 0 where
  pub form : IsMachine m
  pub head : HasHead m wide c
  pub claim : IsClaimOf (game m) c.lines c.claim
  pub lines : AreCanonical (variables m) c.lines (references c.claim)
