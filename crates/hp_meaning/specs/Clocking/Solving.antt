-- How the units of a node are solved, one after another, and what is to hold of that.
use Rattle.std.specs.Prelude.{◌≡◌, Bool, true, false, ◌&&◌, List, [], ◌∷◌, ◌++◌, Option, None, Some}
use Rattle.std.specs.Str.{bytes_eq}
use Rattle.hp_base.specs.declared.span.Span.{Span}
use Rattle.hp_tree.specs.declared.decl.Cons.{Cons}
use Rattle.hp_tree.specs.declared.decl.Cons.TheVariants.{False, True, Named as NamedCons}
use Rattle.hp_tree.specs.Programs.{Node}
use Rattle.hp_tree.specs.Instant.{Place}
use Rattle.hp_meaning.specs.Causal.RanksOfPoints.{same_place}
use Rattle.hp_meaning.specs.Clocking.Terms.{Known as KnownOf, IsShortest, nothing_known, shortest, solve}
use Rattle.hp_meaning.specs.Clocking.Clocking.{On, Assignment, ClockUnit, AllAllow, place_of, node_units}
use Rattle.hp_meaning.specs.Clocking.Equations.{of_unit}

-- ---- whether two steps of clocks are the same

abbrev pub same_constructor : Cons → Cons → Bool
same_constructor False False = true
same_constructor True True = true
same_constructor (NamedCons x) (NamedCons y) = bytes_eq x y
same_constructor c d = false

abbrev pub same_on : On → On → Bool
same_on o k = same_constructor o.0 k.0 && bytes_eq o.1 k.1

-- ---- solving unit by unit

abbrev pub Known : Type 0
Known = KnownOf Place On

pub data Verdict : Type 0 where
  clash : Span → Verdict
  clocked : Known → Verdict

abbrev pub or_clash : Option Known → Span → (Known → Verdict) → Verdict
or_clash None s f = clash s
or_clash (Some known) s f = f known

abbrev pub judged : Known → List ClockUnit → Verdict
judged known [] = clocked known
judged known (u ∷ us) = or_clash (solve same_place same_on known (of_unit u)) (place_of u) (λ more. judged more us)

-- ---- what is to hold of it

-- The first unit such that the units up to it allow no clocks is at this place. `Are` is what all clocks are besides.
abbrev pub FirstClash : (Assignment → Type 0) → List ClockUnit → Span → Type 0
FirstClash Are us s =
    (before : List ClockUnit) × (u : ClockUnit) × (later : List ClockUnit) × (us ≡ before ++ (u ∷ later)) × (place_of u ≡ s) × ((at : Assignment) × (Are at × AllAllow at before)) × ((at : Assignment) → Are at → AllAllow at (before ++ (u ∷ [])) → ⊥)

abbrev pub Told : (Assignment → Type 0) → List ClockUnit → Verdict → Type 0
Told Are us (clash s) = FirstClash Are us s
Told Are us (clocked known) = IsShortest (λ at. Are at × AllAllow at us) (shortest known)

abbrev pub NodeVerdict : Node → Verdict
NodeVerdict n = judged nothing_known (node_units n)
