-- Certificates that are made of diagrams.
use Rattle.std.specs.Prelude.{◌≡◌, ⊤, ℕ, Bool, List, map, Option}
use Rattle.hp_boolx.specs.declared.machine.Counts.{Counts}
use Rattle.hp_cert.specs.Certtext.Certificates.{Claim, win, lose, Certificate}
use Rattle.hp_diagram.specs.declared.reference.Ref.{Ref}
use Rattle.hp_diagram.specs.Diagrams.{Diagrams, function}
use Rattle.hp_quant.specs.declared.line.Line.{Line}
use Rattle.hp_quant.specs.Lines.{line_function}
use Rattle.hp_cert.specs.Certmade.Lines.{AreMade, references}
use Rattle.hp_cert.specs.Certmade.Placed.{RefersBack}

-- references of a certificate have the functions of those of a table
abbrev pub HaveFunctions : Diagrams → List Ref → List Line → List ℕ → Type 0
HaveFunctions t roots lines numbers = (v : ℕ → Bool) → map (λ n. line_function lines n v) numbers ≡ map (λ r. function t r v) roots

-- a certificate of what some references of a table are, in the order of a walk from them, with their functions
pub record IsOf (t : Diagrams) (roots : List Ref) (c : Certificate) : Type 0 where
  pub made : AreMade t roots c.lines (references c.claim)
  pub functions : HaveFunctions t roots c.lines (references c.claim)
  pub back : RefersBack c.lines

-- A certificate is headed by a name, counts and widths.
pub record IsHeaded (node : List ℕ) (counts : Counts) (widths : Option (List ℕ)) (c : Certificate) : Type 0 where
  pub node_is : c.node ≡ node
  pub registers_are : c.registers ≡ counts.registers
  pub early_are : c.early ≡ counts.early
  pub control_are : c.control ≡ counts.control
  pub late_are : c.late ≡ counts.late
  pub widths_are : c.widths ≡ widths

-- what is proved
abbrev pub IsWin : Claim → Type 0
IsWin (win inv funs) = ⊤
IsWin (lose ranks) = ⊥

abbrev pub IsLose : Claim → Type 0
IsLose (win inv funs) = ⊥
IsLose (lose ranks) = ⊤
