-- That ranked equations have one reaction at most, and when they have one.
use Rattle.std.specs.Prelude.{◌≡◌, ℕ, true, false, ◌&&◌, nat_eq, nat_lt, List, [], ◌∷◌, length, get_or, if◌then◌else◌}
use Rattle.std.specs.List.{AllByRecursion, IsDistinct}
use Rattle.hp_base.specs.declared.value.Value.{Value}
use Rattle.hp_base.specs.declared.value.Value.TheVariants.{Absent}
use Rattle.hp_flat.specs.Equations.{FlatEqn}
use Rattle.hp_flat.specs.Nodes.{FlatNode}
use Rattle.law_equations.specs.Meaning.Instants.{Instant, holds}
use Rattle.law_equations.specs.Meaning.Reactions.{Answers, has, gives, Continues, Reaction}
use Rattle.law_equations.specs.Meaning.Scheduling.{IsRanked, DefinesNoInput}

abbrev pub nothing : Instant
nothing x = Absent

-- some variables have some values, in order, and others none
abbrev pub valued : List ℕ → List Value → Instant
valued (x ∷ xs) (v ∷ vs) y = if nat_eq x y then v else valued xs vs y
valued xs vs y = Absent

-- the value of a variable by the first equation that is there and defines it
abbrev pub solved : Answers → List FlatEqn → List Instant → Instant → Instant
solved answers [] past now x = Absent
solved answers (e ∷ es) past now x = if holds e.clock now && has e.targets x then valued e.targets (gives answers e past now) x else solved answers es past now x

-- what an instant is to hold: inputs, and what the equations say of it
abbrev pub said : Answers → FlatNode → List Instant → List Value → Instant → Instant
said answers n past inputs now x = if nat_lt x n.inputs then get_or inputs x Absent else solved answers n.eqns past now x

-- no later equation that is there defines a variable of one that is
abbrev pub NoOther : Instant → FlatEqn → List FlatEqn → Type 0
NoOther now e es = AllByRecursion (λ (d : FlatEqn). holds d.clock now ≡ true → AllByRecursion (λ x. has d.targets x ≡ false) e.targets) es

abbrev pub IsExclusive : Instant → List FlatEqn → Type 0
IsExclusive now [] = Unit {0}
IsExclusive now (e ∷ es) = (holds e.clock now ≡ true → NoOther now e es) × IsExclusive now es

abbrev pub TargetsDiffer : FlatNode → Type 0
TargetsDiffer n = AllByRecursion (λ (e : FlatEqn). IsDistinct nat_eq e.targets) n.eqns

-- inputs are as many as the node takes, equations give as many values as they have targets, and no two that are there define one variable
pub record IsSolvable (answers : Answers) (n : FlatNode) (past : List Instant) (inputs : List Value) (now : Instant) : Type 0 where
  pub as_many_inputs : length inputs ≡ n.inputs
  pub targets_differ : TargetsDiffer n
  pub no_inputs : DefinesNoInput n
  pub as_many : AllByRecursion (λ (e : FlatEqn). holds e.clock now ≡ true → length e.targets ≡ length (gives answers e past now)) n.eqns
  pub exclusive : IsExclusive now n.eqns

-- Two reactions of ranked equations over the same inputs are the same.
abbrev pub OnlyLaw : Type 0
OnlyLaw =
    (answers : Answers) (n : FlatNode) → IsRanked n.eqns → (inputs : List (List Value)) (instants others : List Instant) → Reaction answers n inputs instants → Reaction answers n inputs others → instants ≡ others

-- After each past one instant holds what is said of it, and it continues the past where that can be solved.
abbrev pub SomeLaw : Type 0
SomeLaw =
    (answers : Answers) (n : FlatNode) → IsRanked n.eqns → (past : List Instant) (inputs : List Value)
    → (now : Instant) × (now ≡ said answers n past inputs now) × (IsSolvable answers n past inputs now → Continues answers n past inputs now)
