-- The program that is written of another one with its past-time formulas unfolded, once it is read and accepted: in each reaction the new variables of a contract have the values of the formulas.
-- Source: own. It joins what unfolding adds, what a text keeps of a tree, and what replacing inlined calls and writing clocks keep of a contract.
use Rattle.std.specs.Prelude.{◌≡◌, ◌<◌, ◌≤◌, ◌^◌, ◌⊎◌, ℕ, List, [], ◌∷◌, ◌++◌, length, None}
use Rattle.hp_base.specs.Limits.{most}
use Rattle.hp_base.specs.declared.limit.What.TheVariants.{Size}
use Rattle.hp_lexer.specs.Lexing.{AreTokensOf}
use Rattle.hp_lexer.specs.declared.token.Token.{Token}
use Rattle.hp_parser.specs.Lexemes.{lexemes}
use Rattle.hp_parser.specs.Programs.{IsProgram}
use Rattle.hp_print.specs.Places.{bare_program}
use Rattle.hp_print.specs.ProgramTokens.{canonical_text}
use Rattle.hp_tree.specs.declared.program.Item.{Item}
use Rattle.hp_tree.specs.Blocks.{Decl}
use Rattle.hp_tree.specs.Instant.{Instant, Past, Observer, Named}
use Rattle.hp_tree.specs.Programs.{Contract}
use Rattle.hp_tree.specs.Reaction.{Each}
use Rattle.hp_past.specs.Own.{locals_of}
use Rattle.hp_past.specs.Remembered.{Remembered, variable_of, Keeps, Says, instants_of}
use Rattle.hp_past.specs.Remembering.{HasContract, Tells}
use Rattle.hp_past.specs.Unfolding.{unfolded, next_number}
use Rattle.law_past.specs.Remembered.{IsChecked, Reacts}
use Rattle.law_past.specs.OneBit.{IsOneBit}

-- A formula that a contract of an accepted program remembers is remembered by the same node's contract with inlined calls replaced and clocks written.
abbrev pub KeptLaw : Type 0
KeptLaw =
    (text : List ℕ) (tokens : List Token) (program after : List Item) (ranks : List (List ℕ)) → IsChecked text tokens program after ranks
    → (f : List ℕ) (c : Contract) → HasContract program f c → (m : Remembered) → Keeps c.body m → (d : Contract) × HasContract after f d × Keeps d.body m

-- At each instant of each reaction of a node a variable of its contract is true exactly where the formula holds of the contract's instants so far.
abbrev pub AlwaysTells : List Item → List ℕ → List ℕ → Remembered → Type 0
AlwaysTells after f v m = (c : Contract) (now : Instant) (past : Past) → Reacts after f c now past → Tells (now (Observer ∷ Named v ∷ [])) (Says m (instants_of now past))

-- A new variable of an unfolded contract is an argument of a formula, or remembers one, always tells it, and is one bit of the node's abstraction.
abbrev pub HasItsValue : List Item → List ℕ → Contract → Decl → Type 0
HasItsValue after f c v = (v.last ≡ None) ⊎ ((m : Remembered) × (variable_of m ≡ v.name) × Keeps c.body m × AlwaysTells after f v.name m × IsOneBit after f v.name)

-- The contract of a node in the unfolded program: new variables behind its own, each with its value in the accepted program.
pub record HasItsValues (source after : List Item) (f : List ℕ) (c : Contract) : Type 0 where
  pub contract : Contract
  pub unfolds : HasContract (unfolded source) f contract
  pub new : List Decl
  pub locals : locals_of contract.body ≡ locals_of c.body ++ new
  pub values : Each (HasItsValue after f contract) new

-- So it is of each accepted program that is the unfolded one but for places,
abbrev pub UnfoldedLaw : Type 0
UnfoldedLaw =
    (source : List Item) → next_number source < 2 ^ 64
    → (text : List ℕ) (tokens : List Token) (program after : List Item) (ranks : List (List ℕ)) → bare_program program ≡ bare_program (unfolded source) → IsChecked text tokens program after ranks
    → (f : List ℕ) (c : Contract) → HasContract source f c → HasItsValues source after f c

-- of the text that is written of the unfolded program, wherever it is accepted,
abbrev pub TellsFormulas : List Item → Type 0
TellsFormulas source =
    (tokens : List Token) (program after : List Item) (ranks : List (List ℕ)) → IsChecked (canonical_text (unfolded source)) tokens program after ranks
    → (f : List ℕ) (c : Contract) → HasContract source f c → HasItsValues source after f c

-- where that is no longer than a text may be.
abbrev pub WrittenLaw : Type 0
WrittenLaw =
    (text : List ℕ) (tokens : List Token) (source : List Item) → AreTokensOf text tokens → IsProgram (lexemes text tokens) source → next_number source < 2 ^ 64 → length (canonical_text (unfolded source)) ≤ most Size
    → TellsFormulas source
