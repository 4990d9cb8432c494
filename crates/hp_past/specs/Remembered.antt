-- The formulas that a block remembers, and what an unfolded contract has beside its own.
-- Source: Lichtenstein, Pnueli and Zuck, "The glory of the past" (Logics of Programs 1985).
use Rattle.std.specs.Prelude.{◌≡◌, ◌⊎◌, ⊤, ℕ, true, false, List, [], ◌∷◌, ◌++◌, Option, None, Some}
use Rattle.hp_base.specs.declared.span.Span.{Span}
use Rattle.hp_tree.specs.declared.expr.Op2.TheVariants.{And, Or}
use Rattle.hp_tree.specs.declared.program.Item.{Item}
use Rattle.hp_tree.specs.declared.program.Item.TheVariants.{TypeItem, NodeItem}
use Rattle.hp_tree.specs.Expressions.{variable, last_of, two}
use Rattle.hp_tree.specs.Blocks.{Decl, Block}
use Rattle.hp_tree.specs.Programs.{Contract}
use Rattle.hp_tree.specs.Instant.{Instant, Past, Observer, part, parts, own}
use Rattle.hp_tree.specs.Reaction.{Each}
use Rattle.hp_past.specs.Own.{locals_of}
use Rattle.hp_past.specs.Past.{Once, Historically, Since}
use Rattle.hp_past.specs.Remembering.{Remembers, Defines, IsBoolean, IsTrueAt}

-- a formula over variables of a block, and the variable that remembers it
pub data Remembered : Type 0 where
  once : (n v : List ℕ) → Remembered
  historically : (n v : List ℕ) → Remembered
  since : (n1 n2 v : List ℕ) → Remembered

abbrev pub variable_of : Remembered → List ℕ
variable_of (once n v) = v
variable_of (historically n v) = v
variable_of (since n1 n2 v) = v

-- the block has the variables and their equations, wherever the parts of these stand in a text
abbrev pub Keeps : Block → Remembered → Type 0
Keeps b (once n v) = Defines b n × ((at x y : Span) × Remembers b v false (two at Or (variable x n) (last_of y v)))
Keeps b (historically n v) = Defines b n × ((at x y : Span) × Remembers b v true (two at And (variable x n) (last_of y v)))
Keeps b (since n1 n2 v) = Defines b n1 × Defines b n2 × ((at x and y z : Span) × Remembers b v false (two at Or (variable x n2) (two and And (variable y n1) (last_of z v))))

-- what the formula says of instants of the block, the newest first
abbrev pub Says : Remembered → List Instant → Type 0
Says (once n v) instants = Once (IsTrueAt n) instants
Says (historically n v) instants = Historically (IsTrueAt n) instants
Says (since n1 n2 v) instants = Since (IsTrueAt n1) (IsTrueAt n2) instants

-- its arguments are Boolean at each of them
abbrev pub AreBoolean : Remembered → List Instant → Type 0
AreBoolean (once n v) instants = Each (IsBoolean n) instants
AreBoolean (historically n v) instants = Each (IsBoolean n) instants
AreBoolean (since n1 n2 v) instants = Each (IsBoolean n1) instants × Each (IsBoolean n2) instants

-- the instants of a contract's block up to one of its node, the newest first: that one, and the own past of the block
abbrev pub instants_of : Instant → Past → List Instant
instants_of now past = part Observer now ∷ own (parts Observer past)

-- A contract has new variables behind those of another, and each of them that is declared `last` remembers a formula.
pub record Extends (c d : Contract) : Type 0 where
  pub new : List Decl
  pub locals : locals_of d.body ≡ locals_of c.body ++ new
  pub remembered : Each (λ (v : Decl). (v.last ≡ None) ⊎ ((f : Remembered) × (variable_of f ≡ v.name) × Keeps d.body f)) new

abbrev pub ExtendsIfAny : Option Contract → Option Contract → Type 0
ExtendsIfAny None None = ⊤
ExtendsIfAny (Some c) (Some d) = Extends c d
ExtendsIfAny c d = ⊥

-- the same of each contract of a program; all else is as it was
abbrev pub ContractsExtend : List Item → List Item → Type 0
ContractsExtend [] [] = ⊤
ContractsExtend (TypeItem t ∷ items) (TypeItem u ∷ others) = (u ≡ t) × ContractsExtend items others
ContractsExtend (NodeItem n ∷ items) (NodeItem m ∷ others) = (m ≡ record n { contract = m.contract }) × ExtendsIfAny n.contract m.contract × ContractsExtend items others
ContractsExtend items others = ⊥
