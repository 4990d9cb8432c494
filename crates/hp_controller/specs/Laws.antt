-- What the node of a controller gives.
use Rattle.std.specs.Prelude.{◌≡◌, ℕ, Bool, false, List, length, map, slice_index_or}
use Rattle.hp_base.specs.declared.value.Value.TheVariants.{B}
use Rattle.hp_obc.specs.Machines.{ObcType}
use Rattle.law_equations.specs.Meaning.Instants.{Instant}
use Rattle.law_equations.specs.Meaning.Reactions.{Answers, Continues, outputs_at}
use Rattle.law_equations.specs.Meaning.Kinding.{Callees, IsWellMade}
use Rattle.hp_quant.specs.declared.line.Line.{Line}
use Rattle.hp_quant.specs.Lines.{line_function}
use Rattle.hp_cert.specs.Certmade.Placed.{RefersBack}
use Rattle.hp_controller.specs.Controllers.{node_of_lines}

-- the bits by their numbers
abbrev pub bit_at : List Bool → ℕ → Bool
bit_at bits x = slice_index_or bits x false

-- Whatever was before, at truth values of its inputs the node gives the functions of the numbers, where lines refer to earlier ones; what is no input is false there.
abbrev pub GivesLaw : Type 0
GivesLaw =
    (answers : Answers) (name : List ℕ) (inputs : ℕ) (lines : List Line) (numbers : List ℕ) → RefersBack lines
    → (past : List Instant) (bits : List Bool) (now : Instant) → length bits ≡ inputs → Continues answers (node_of_lines name inputs lines numbers) past (map (λ b. B b) bits) now
    → outputs_at (node_of_lines name inputs lines numbers) now ≡ map (λ n. B (line_function lines n (bit_at bits))) numbers

-- The node is well made, whatever types and nodes there are: so it has exactly one reaction over truth values.
abbrev pub WellMadeLaw : Type 0
WellMadeLaw =
    (types : List ObcType) (callees : Callees) (name : List ℕ) (inputs : ℕ) (lines : List Line) (numbers : List ℕ) → IsWellMade types callees (node_of_lines name inputs lines numbers)
