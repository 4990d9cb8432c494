-- Equations that have their turn in the order of their places, the last first, and with what they are ordered by.
use Rattle.std.specs.Prelude.{◌≡◌, ℕ, suc, Bool, nat_lt, get_or, length, List, [], ◌∷◌, if◌then◌else◌}
use Rattle.std.specs.List.Sorted.{IsPermutation, IsSortedBy}
use Rattle.std.specs.Ordering.{is_lt, nat_cmp, ordering_then}
use Rattle.std.proofs.Math.ListN.{replicate}
use Rattle.hp_flat.specs.Equations.{FlatEqn, called}
use Rattle.hp_schedule.specs.declared.order.Turn.{Turn}
use Rattle.hp_schedule.specs.declared.order.Weighed.{Weighed}
use Rattle.std.specs.declared.cmp.Ordering.{Ordering}
use Rattle.hp_schedule.specs.declared.reach.Reach.{Reach}
use Rattle.hp_schedule.specs.declared.reach.Weight.{Weight}
use Rattle.hp_schedule.specs.Reaching.{unmet, noted, weight_of}

abbrev pub turn_of : ℕ → FlatEqn → Turn
turn_of k e = record { at = e.at; index = k }

abbrev pub turns_from : ℕ → List FlatEqn → List Turn
turns_from k [] = []
turns_from k (e ∷ es) = turn_of k e ∷ turns_from (suc k) es

-- an equation that is never asked for
abbrev pub blank : FlatEqn
blank = record { targets = []; clock = []; right = called [] []; restart = []; at = 0 }

abbrev pub eqn_at : List FlatEqn → Turn → FlatEqn
eqn_at es t = get_or es t.index blank

abbrev pub noted_turn : ℕ → ℕ → List FlatEqn → Turn → List Reach → List Reach
noted_turn depth base es t table = if nat_lt t.index (length es) then noted depth base (eqn_at es t) table else table

abbrev pub noted_turns : ℕ → ℕ → List FlatEqn → List Turn → List Reach → List Reach
noted_turns depth base es [] table = table
noted_turns depth base es (t ∷ ts) table = noted_turns depth base es ts (noted_turn depth base es t table)

abbrev pub weighed_by : ℕ → List Reach → List Reach → List Reach → FlatEqn → Weighed
weighed_by base outers middles inners e = record { eqn = e; outer = weight_of 0 base outers e; middle = weight_of 1 base middles e; inner = weight_of 2 base inners e }

abbrev pub compared_weights : Weight → Weight → Ordering
compared_weights v w = ordering_then (nat_cmp w.level v.level) (nat_cmp v.control w.control)

abbrev pub weighed_before : Weighed → Weighed → Bool
weighed_before v w =
    is_lt (ordering_then (compared_weights v.outer w.outer) (ordering_then (compared_weights v.middle w.middle) (ordering_then (compared_weights v.inner w.inner) (nat_cmp w.outer.height v.outer.height))))

-- a turn stands before those of lesser places
abbrev pub turns_before : Turn → Turn → Bool
turns_before s t = is_lt (nat_cmp t.at s.at)

-- a table of all equations, noted from the greatest place to the least
pub record IsNoted (depth base : ℕ) (es : List FlatEqn) (table : List Reach) : Type 0 where
  pub turns : List Turn
  pub all : IsPermutation (turns_from 0 es) turns
  pub order : IsSortedBy turns_before turns
  pub noted_are : table ≡ noted_turns depth base es turns (replicate base unmet)
