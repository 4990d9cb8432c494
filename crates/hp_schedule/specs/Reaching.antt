-- What is noted of variables while equations are gone through, each behind its readers: how far those reach that read them.
use Rattle.std.specs.Prelude.{◌+◌, ◌-◌, ℕ, true, false, ◌&&◌, ◌||◌, not, nat_eq, nat_lt, max, get_or, List, [], ◌∷◌, if◌then◌else◌}
use Rattle.std.proofs.Math.ListN.{set}
use Rattle.hp_flat.specs.Equations.{FlatEqn}
use Rattle.law_equations.specs.Meaning.Scheduling.{reads}
use Rattle.hp_schedule.specs.ByClock.{control}
use Rattle.hp_schedule.specs.declared.reach.Reach.{Reach}
use Rattle.hp_schedule.specs.declared.reach.Weight.{Weight}

-- the level that an equation has at least that defines a variable
abbrev pub seen_from : ℕ → Reach → ℕ
seen_from c r = if r.is_lower && nat_eq r.control c then r.outside - 1 else r.outside

-- one equation more reads the variable
abbrev pub met : Weight → Reach → Reach
met w r =
    if nat_lt w.level r.outside
    then record { outside = r.outside; control = r.control; is_lower = r.is_lower && (nat_eq r.control w.control || not (nat_eq (w.level + 1) r.outside)); height = max r.height (w.height + 1) }
    else record { outside = w.level + 1; control = w.control; is_lower = true; height = max r.height (w.height + 1) }

-- no equation reads the variable
abbrev pub unmet : Reach
unmet = record { outside = 0; control = 0; is_lower = false; height = 0 }

-- a table by variables
abbrev pub reach_of : List Reach → ℕ → Reach
reach_of table x = get_or table x unmet

-- a variable is defined
abbrev pub raised : List Reach → ℕ → Weight → Weight
raised table x w = record { level = max w.level (seen_from w.control (reach_of table x)); control = w.control; height = max w.height (reach_of table x).height }

abbrev pub raised_all : List Reach → List ℕ → Weight → Weight
raised_all table [] w = w
raised_all table (x ∷ xs) w = raised_all table xs (raised table x w)

-- the weight of an equation, whose control stands at a depth of its clock
abbrev pub weight_of : ℕ → ℕ → List Reach → FlatEqn → Weight
weight_of depth base table e = raised_all table e.targets (record { level = 0; control = control depth base e; height = 0 })

-- variables are read by an equation of a weight
abbrev pub noted_one : Weight → ℕ → List Reach → List Reach
noted_one w x table = set table x (met w (reach_of table x))

abbrev pub noted_all : Weight → List ℕ → List Reach → List Reach
noted_all w [] table = table
noted_all w (x ∷ xs) table = noted_all w xs (noted_one w x table)

abbrev pub noted : ℕ → ℕ → FlatEqn → List Reach → List Reach
noted depth base e table = noted_all (weight_of depth base table e) (reads e) table

abbrev pub noted_eqns : ℕ → ℕ → List FlatEqn → List Reach → List Reach
noted_eqns depth base [] table = table
noted_eqns depth base (e ∷ es) table = noted_eqns depth base es (noted depth base e table)
