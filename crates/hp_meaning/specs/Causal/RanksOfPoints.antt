-- Ranks of the points of a node, as a list in the order of the points.
use Rattle.std.specs.Prelude.{ℕ, suc, ◌<◌, ◌≡◌, ◌&&◌, Bool, true, false, if◌then◌else◌, nat_eq, List, [], ◌∷◌, All, Contains, length, max, ⊤}
use Rattle.std.specs.Str.{bytes_eq}
use Rattle.hp_tree.specs.declared.program.Item.{Item}
use Rattle.hp_tree.specs.declared.program.Item.TheVariants.{TypeItem, NodeItem}
use Rattle.hp_tree.specs.Programs.{Node}
use Rattle.hp_tree.specs.Instant.{Step, Inputs, Controls, Body, Observer, Assume, Enforce, Named, Fresh, Equations, Head, Tail, Right, Test, Arms, States, Until, Unless, Active, Next, Pending, First, Second, Third, Args, Instance, Place}
use Rattle.hp_meaning.specs.Causal.Sources.{Within, IsSource}
use Rattle.hp_meaning.specs.Causal.Causality.{sources, Ranked, IsRanked}
use Rattle.hp_meaning.specs.Causal.Points.{places, NamesDeclared}

-- a step as a number and a name
abbrev pub step_code : Step → ℕ × List ℕ
step_code Inputs = (0, [])
step_code Controls = (1, [])
step_code Body = (2, [])
step_code Observer = (3, [])
step_code Assume = (4, [])
step_code Enforce = (5, [])
step_code (Named x) = (6, x)
step_code Fresh = (7, [])
step_code Equations = (8, [])
step_code Head = (9, [])
step_code Tail = (10, [])
step_code Right = (11, [])
step_code Test = (12, [])
step_code Arms = (13, [])
step_code States = (14, [])
step_code Until = (15, [])
step_code Unless = (16, [])
step_code Active = (17, [])
step_code Next = (18, [])
step_code Pending = (19, [])
step_code First = (20, [])
step_code Second = (21, [])
step_code Third = (22, [])
step_code Args = (23, [])
step_code Instance = (24, [])

abbrev pub same_step : Step → Step → Bool
same_step s t = nat_eq (step_code s).0 (step_code t).0 && bytes_eq (step_code s).1 (step_code t).1

abbrev pub same_place : Place → Place → Bool
same_place [] [] = true
same_place (s ∷ p) (t ∷ q) = same_step s t && same_place p q
same_place p q = false

-- the rank of a place among some, and another one of those that are not among them
abbrev pub rank_among : List Place → List ℕ → ℕ → Place → ℕ
rank_among [] ranks other p = other
rank_among (q ∷ qs) [] other p = other
rank_among (q ∷ qs) (rank ∷ ranks) other p = if same_place q p then rank else rank_among qs ranks other p

-- the least number above all of some
abbrev pub above : List ℕ → ℕ
above [] = 0
above (rank ∷ ranks) = max (suc rank) (above ranks)

-- The rank of a place of a node, where its points have these ranks; what is no point comes after all points.
abbrev pub rank_of : Node → List ℕ → Place → ℕ
rank_of n ranks p = rank_among (places n) ranks (above ranks) p

-- There is a rank for each point, and what a point depends on has less rank.
pub record RanksFall (n : Node) (ranks : List ℕ) : Type 0 where
  pub one_each : length ranks ≡ length (places n)
  pub falls : All (λ p. Within (λ q. rank_of n ranks q < rank_of n ranks p) (sources n p)) (places n)

-- the same for each node of a program, in order
abbrev pub AllFall : List Item → List (List ℕ) → Type 0
AllFall [] [] = ⊤
AllFall (TypeItem t ∷ items) ranks = AllFall items ranks
AllFall (NodeItem n ∷ items) (r ∷ ranks) = NamesDeclared n × RanksFall n r × AllFall items ranks
AllFall items ranks = ⊥

-- What a place depends on are points of its node, where each name is declared.
abbrev pub PointsLaw : Type 0
PointsLaw = (n : Node) → NamesDeclared n → (p q : Place) → IsSource q (sources n p) → Contains (places n) q

-- Ranks of the points are enough.
abbrev pub RanksLaw : Type 0
RanksLaw = (n : Node) (ranks : List ℕ) → NamesDeclared n → RanksFall n ranks → Ranked n

abbrev pub AllRanksLaw : Type 0
AllRanksLaw = (program : List Item) (ranks : List (List ℕ)) → AllFall program ranks → IsRanked program
