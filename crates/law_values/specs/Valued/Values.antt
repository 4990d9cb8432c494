-- The values of accepted programs: the law.
use Rattle.std.specs.Prelude.{◌≡◌, ⊤, ℕ, Bool, true, false, List, [], ◌∷◌, reverse, Option, Some}
use Rattle.std.specs.Str.{bytes_eq}
use Rattle.hp_base.specs.declared.value.Value.{Value}
use Rattle.hp_base.specs.declared.value.Value.TheVariants.{Nil}
use Rattle.hp_tree.specs.declared.program.Item.{Item}
use Rattle.hp_tree.specs.declared.program.Item.TheVariants.{TypeItem, NodeItem}
use Rattle.hp_tree.specs.Programs.{TypeDecl, Node}
use Rattle.hp_tree.specs.Operators.{filled}
use Rattle.hp_tree.specs.Values.{AreOf}
use Rattle.hp_tree.specs.Instant.{Instant, Past}
use Rattle.hp_tree.specs.Meaning.{meaning, types_of, node_among}
use Rattle.hp_tree.specs.Reaction.{Reaction, Each}
use Rattle.hp_meaning.specs.Causal.Causality.{IsRanked}
use Rattle.hp_meaning.specs.Causal.Clocked.{ClocksRight}
use Rattle.hp_meaning.specs.Causal.OneReaction.{ReactionOf}
use Rattle.hp_typing.specs.Scopes.{nothing, behind}
use Rattle.law_judged.specs.Typed.Scopes.{Scope}
use Rattle.hp_init.specs.Classes.{Assignment}
use Rattle.law_values.specs.Valued.Judged.{NodeSound, IsPlain, PlainContract}
use Rattle.law_values.specs.Valued.Classed.{HasClasses, seen_in_node}
use Rattle.law_values.specs.Valued.Fitting.{NodeFits}
use Rattle.law_values.specs.Valued.Given.{reading, NodeGiven}

-- Items stand here with the last one first: each node may call those behind it.

-- what is known behind some items
abbrev pub scope_behind : List Item → Scope
scope_behind [] = nothing
scope_behind (item ∷ earlier) = behind (scope_behind earlier) item

-- an assignment of classes for each node, in the same order
abbrev pub Classing : Type 0
Classing = List Assignment

abbrev pub class_here : Classing → Assignment
class_here [] p = false
class_here (class ∷ others) p = class p

abbrev pub class_behind : Classing → Classing
class_behind [] = []
class_behind (class ∷ others) = others

-- A node whose expressions have types and whose names are defined; its classes follow its definitions and meet what is wanted; its clocks are right; and its transitions have plain conditions.
pub record NodeAccepted (types : List TypeDecl) (among : List ℕ → Option Node) (s : Scope) (class : Assignment) (n : Node) : Type 0 where
  pub sound : NodeSound types among s n
  pub classes : HasClasses class n
  pub clocks : ClocksRight n
  pub plain : IsPlain n.body
  pub plain_contract : PlainContract n.contract

abbrev pub AreAccepted : List TypeDecl → Classing → List Item → Type 0
AreAccepted types class [] = ⊤
AreAccepted types class (TypeItem t ∷ earlier) = AreAccepted types class earlier
AreAccepted types class (NodeItem n ∷ earlier) = NodeAccepted types (node_among earlier) (scope_behind earlier) (class_here class) n × AreAccepted types (class_behind class) earlier

abbrev pub either_of : Bool → Type 0 → Type 0 → Type 0
either_of true A B = A
either_of false A B = B

-- An instant of the node of a name fits: its outputs, its body, its contract, and the instances below it.
abbrev pub InstantFits : List TypeDecl → Bool → Classing → List Item → List ℕ → Instant → Type 0
InstantFits types nils class [] f i = ⊤
InstantFits types nils class (TypeItem t ∷ earlier) f i = InstantFits types nils class earlier f i
InstantFits types nils class (NodeItem n ∷ earlier) f i =
    either_of (bytes_eq n.name f) (NodeFits types nils (InstantFits types nils (class_behind class) earlier) (scope_behind earlier) (seen_in_node (class_here class) n) n i) (InstantFits types nils (class_behind class) earlier f i)

-- What is given for it fits.
abbrev pub GivenFits : List TypeDecl → Bool → (Value → Value) → List Item → List ℕ → Instant → Type 0
GivenFits types nils u [] f i = ⊤
GivenFits types nils u (TypeItem t ∷ earlier) f i = GivenFits types nils u earlier f i
GivenFits types nils u (NodeItem n ∷ earlier) f i =
    either_of (bytes_eq n.name f) (NodeGiven types nils u (GivenFits types nils u earlier) (scope_behind earlier) n i) (GivenFits types nils u earlier f i)

-- In each reaction over inputs of their types, with what is given of the right types, each instant fits. With `nils` this is said of the language, where u gives Nil; without, of its filled form, where u gives what is given.
abbrev pub ValuesLaw : Type 0
ValuesLaw =
    (nils : Bool) (u : Value → Value) (program : List Item) (class : Classing) (f : List ℕ) (n : Node) (inputs : List (List Value)) (frees : List Instant) (past : Past)
    → AreAccepted (types_of program) class (reverse program) → IsRanked program → node_among (reverse program) f ≡ Some n
    → Each (AreOf (types_of program) n.inputs) inputs → Each (GivenFits (types_of program) nils u (reverse program) f) frees
    → ReactionOf (meaning (reading u) program f) inputs frees past
    → Each (InstantFits (types_of program) nils class (reverse program) f) past

-- The same of the language itself, and of its filled form.
abbrev pub RealLaw : Type 0
RealLaw =
    (program : List Item) (class : Classing) (f : List ℕ) (n : Node) (inputs : List (List Value)) (frees : List Instant) (past : Past)
    → AreAccepted (types_of program) class (reverse program) → IsRanked program → node_among (reverse program) f ≡ Some n
    → Each (AreOf (types_of program) n.inputs) inputs → Each (GivenFits (types_of program) true (λ given. Nil) (reverse program) f) frees
    → Reaction program f inputs frees past
    → Each (InstantFits (types_of program) true class (reverse program) f) past

abbrev pub FilledLaw : Type 0
FilledLaw =
    (program : List Item) (class : Classing) (f : List ℕ) (n : Node) (inputs : List (List Value)) (frees : List Instant) (past : Past)
    → AreAccepted (types_of program) class (reverse program) → IsRanked program → node_among (reverse program) f ≡ Some n
    → Each (AreOf (types_of program) n.inputs) inputs → Each (GivenFits (types_of program) false (λ given. given) (reverse program) f) frees
    → ReactionOf (meaning filled program f) inputs frees past
    → Each (InstantFits (types_of program) false class (reverse program) f) past
