-- Blocks with a variable that remembers what a formula asks of the past, and the values of variables of a contract.
use Rattle.std.specs.Prelude.{◌≡◌, ◌↔◌, ℕ, Bool, true, if◌then◌else◌, List, [], ◌∷◌, reverse, Option, None, Some}
use Rattle.std.specs.Str.{bytes_eq}
use Rattle.hp_base.specs.declared.value.Value.{Value}
use Rattle.hp_base.specs.declared.value.Value.TheVariants.{B}
use Rattle.hp_base.specs.declared.ty.Const.{Const}
use Rattle.hp_base.specs.declared.ty.Const.TheVariants as constant
use Rattle.hp_tree.specs.declared.program.Item.{Item}
use Rattle.hp_tree.specs.Expressions.{Expr}
use Rattle.hp_tree.specs.Blocks.{Decl, Block, Eqns, no_eqn, more_eqns, Eqn, define}
use Rattle.hp_tree.specs.Programs.{Contract, Node}
use Rattle.hp_tree.specs.Instant.{Instant, Named}
use Rattle.hp_tree.specs.Meaning.{defines, some_defines, node_among}
use Rattle.hp_past.specs.Own.{locals_of, equations_of}

-- the first value of a variable that is declared `last`
abbrev pub last_among : List Decl → List ℕ → Option Const
last_among [] x = None
last_among (d ∷ ds) x = if bytes_eq d.name x then d.last else last_among ds x

-- the right side of the equation that defines a variable, if it defines that variable alone
abbrev pub right_side : Eqn → List ℕ → Option Expr
right_side (define s (y ∷ []) e) x = Some e
right_side e x = None

abbrev pub defined_as : Eqns → List ℕ → Option Expr
defined_as no_eqn x = None
defined_as (more_eqns e es) x = if defines e x then right_side e x else defined_as es x

-- A block has a variable with this first value and this right side.
pub record Remembers (b : Block) (v : List ℕ) (first : Bool) (right : Expr) : Type 0 where
  pub begins : last_among (locals_of b) v ≡ Some (constant.B first)
  pub defined : defined_as (equations_of b) v ≡ Some right

-- A block defines a variable.
abbrev pub Defines : Block → List ℕ → Type 0
Defines b n = some_defines (equations_of b) n ≡ true

-- a variable of a block is Boolean, and true, at an instant of the block
abbrev pub IsBoolean : List ℕ → Instant → Type 0
IsBoolean x now = (b : Bool) × (now (Named x ∷ []) ≡ B b)

abbrev pub IsTrueAt : List ℕ → Instant → Type 0
IsTrueAt x now = now (Named x ∷ []) ≡ B true

-- A value is Boolean, and true exactly where this is so.
pub record Tells (value : Value) (fact : Type 0) : Type 0 where
  pub boolean : (b : Bool) × (value ≡ B b)
  pub exact : (value ≡ B true) ↔ fact

-- The node of this name has this contract.
pub record HasContract (program : List Item) (f : List ℕ) (c : Contract) : Type 0 where
  pub node : Node
  pub is_node : node_among (reverse program) f ≡ Some node
  pub has : node.contract ≡ Some c
