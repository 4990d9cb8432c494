-- The lines of a certificate that is made of diagrams.
use Rattle.std.specs.Prelude.{◌≡◌, ℕ, ◌+◌, ◌==◌, nat_lt, if◌then◌else◌, List, [], ◌∷◌, map, Some, option_map}
use Rattle.std.specs.List.{position_or_len}
use Rattle.hp_cert.specs.Certtext.Certificates.{Claim, win, lose}
use Rattle.hp_diagram.specs.declared.reference.Ref.{Ref}
use Rattle.hp_diagram.specs.declared.reference.Branch.{Branch}
use Rattle.hp_diagram.specs.Diagrams.{Diagrams, branch_at}
use Rattle.hp_quant.specs.declared.line.Line.{Line}
use Rattle.hp_cert.specs.Certmade.Walks.{WalksAll}

-- The number of a reference in a certificate that has the nodes of these indices, in this order: 0 and 1 stand for false and true, and the first line is 2.
abbrev pub place_in : List ℕ → ℕ → ℕ
place_in nodes i = position_or_len (λ k. i == k) nodes

abbrev pub number_in : List ℕ → ℕ → ℕ
number_in nodes i = if nat_lt i 2 then i else place_in nodes i + 2

abbrev pub line_of : List ℕ → Branch → Line
line_of nodes b = record { var = b.var; low = number_in nodes b.low.index; high = number_in nodes b.high.index }

-- what is proved, by its references in their order
abbrev pub references : Claim → List ℕ
references (win inv funs) = inv ∷ funs
references (lose ranks) = ranks

-- Lines, and references to them, for the functions of some references of a table: a line for each node that the walk from them visits, in that order.
pub record AreMade (t : Diagrams) (roots : List Ref) (lines : List Line) (numbers : List ℕ) : Type 0 where
  pub nodes : List ℕ
  pub walk : WalksAll t [] roots nodes
  pub lines_are : map Some lines ≡ map (λ i. option_map (line_of nodes) (branch_at t.nodes i)) nodes
  pub numbers_are : numbers ≡ map (λ (r : Ref). number_in nodes r.index) roots
