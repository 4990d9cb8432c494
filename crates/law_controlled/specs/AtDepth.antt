-- What is so of each instance of a reaction, at every depth: the controllable variables of callees have the greatest permitted values too.
-- Source: own; the controller of Delaval, Marchand and Rutten (LCTES 2010), in each instance of a node.
use Rattle.std.specs.Prelude.{◌≡◌, ◌⊎◌, ⊤, ℕ, IsTrue, List, [], ◌∷◌, ◌++◌, All, reverse}
use Rattle.std.specs.Bool.{MatchBool}
use Rattle.std.specs.Str.{bytes_eq}
use Rattle.hp_tree.specs.declared.program.Item.{Item}
use Rattle.hp_tree.specs.declared.program.Item.TheVariants.{TypeItem, NodeItem}
use Rattle.hp_tree.specs.Instant.{Fresh, Instance, Instant, Past}
use Rattle.hp_tree.specs.Meaning.{controls_of}
use Rattle.hp_tree.specs.Operators.{is_there}
use Rattle.hp_tree.specs.Programs.{Node}
use Rattle.hp_meaning.specs.Causal.Points.{Placed}
use Rattle.hp_meaning.specs.Contract.ChosenRuns.{own_past}
use Rattle.hp_meaning.specs.Contract.Duties.{duty, enforces}
use Rattle.hp_meaning.specs.Contract.Forgetting.{erased, erase}
use Rattle.hp_meaning.specs.Contract.FreePlaces.{calls_of, instance_at}
use Rattle.hp_meaning.specs.Contract.Guarantee.{AllAssumed, AllSupposed, HasContract, Through}
use Rattle.law_choices.specs.Playing.Greatest.{ChoosesGreatest}
use Rattle.law_choices.specs.Seeing.OwnContract.{CalleesCompareNothing}

-- A property of a node at an instant, after its own past, is one of the node of this name and of each instance below it that is there, at every depth; the nodes are given the last one first.
abbrev pub InEach : (Node → Past → Instant → Type 0) → List Item → List ℕ → Past → Instant → Type 0
InEach P [] f past now = ⊤
InEach P (TypeItem t ∷ earlier) f past now = InEach P earlier f past now
InEach P (NodeItem n ∷ earlier) f past now =
    MatchBool (bytes_eq n.name f)
    (P n past now × All (λ (k : Placed). IsTrue (is_there (instance_at k now (Fresh ∷ []))) → InEach P earlier k.point.name (own_past (k.place ++ (Instance ∷ [])) past now) (instance_at k now)) (calls_of n))
    (InEach P earlier f past now)

-- A node has no controllable variable, or no integers are compared in the contracts of the nodes that it calls.
abbrev pub SeesAll : List Item → Node → Type 0
SeesAll program n = (controls_of n.contract ≡ []) ⊎ CalleesCompareNothing program n

-- The controllable variables of a node have the greatest permitted values at an instant after its own past. If the node has a contract, its duty holds there, if its hypothesis holds there and held at all instants before; so, if it calls nothing, its guarantee holds where its assumption does and did.
pub record IsGreatestAt (program : List Item) (n : Node) (past : Past) (now : Instant) : Type 0 where
  pub greatest : ChoosesGreatest program n past now
  pub owed : HasContract n → AllSupposed n (erase (now ∷ past)) → IsTrue (duty n (erased now))
  pub enforced : HasContract n → calls_of n ≡ [] → AllAssumed (now ∷ past) → IsTrue (enforces now)

-- so it is of a node that sees all, whatever its inputs are, integers too
abbrev pub IsGreatestIfSeen : List Item → Node → Past → Instant → Type 0
IsGreatestIfSeen program n past now = SeesAll program n → IsGreatestAt program n past now

-- So it is of the node of a name and of each instance below it that is there, at every depth and at each instant of a past.
abbrev pub AreGreatestAtDepth : List Item → List ℕ → Past → Type 0
AreGreatestAtDepth program f past = Through (InEach (IsGreatestIfSeen program) (reverse program) f) past
