-- How many cases stand around a command.
use Rattle.std.proofs.Common.{ℕ, zero, suc, ◌+◌, ◌≤◌, List, [], ◌∷◌, length, arith}
use Rattle.std.specs.List.{AllByRecursion}
use Rattle.hp_obc.specs.declared.command.Arg.{Arg}
use Rattle.hp_obc.specs.declared.command.ObcOp.{ObcOp}
use Rattle.hp_obc.specs.Commands.{Cmds, Cmd, done, and_then, cmds_of}
use Rattle.hp_obc.specs.Machines.{ObcType}
use Rattle.hp_obc.specs.Form.{depth, depth_of_one, depth_of_arms}
use Rattle.hp_flat.specs.declared.node.Variable.{Variable}
use Rattle.hp_flat.specs.Equations.{Clock, Right, operator, register, called, FlatEqn}
use Rattle.hp_toobc.specs.Making.{arms_with, where_true, under, set_first, placed, place, stored, store, places, stores}
use Rattle.law_equations.specs.Shaped.Shaped.{IsShort}
use Rattle.law_equations.proofs.ShapedLemmas.Elements.{all-append}

-- each command is within so many cases
abbrev AreWithin : ℕ → List Cmd → Type 0
AreWithin k cs = AllByRecursion (λ c. depth_of_one c ≤ k) cs

pub within-all : (k : ℕ) (cs : List Cmd) → AreWithin k cs → depth (cmds_of cs) ≤ k
within-all k [] h = omega arith
within-all k (c ∷ cs) h = omega (arith, h.0, within-all k cs h.1)

no_deeper : (w c : ℕ) → depth_of_arms (arms_with w c done) ≤ 0
no_deeper zero c = omega arith
no_deeper (suc w) zero = no_deeper w zero
no_deeper (suc w) (suc c) = no_deeper w c

one_more : (w c k : ℕ) (cs : Cmds) → depth cs ≤ k → depth_of_arms (arms_with w c cs) ≤ suc k
one_more zero c k cs h = omega arith
one_more (suc w) zero k done h = omega (arith, no_deeper w zero)
one_more (suc w) zero k (and_then c cs) h = omega (arith, h, no_deeper w zero)
one_more (suc w) (suc c) k cs h = one_more w c k cs h

module _ (types : List ObcType) (variables : List Variable) where
  lower : (j k : ℕ) (cs : List Cmd) → j ≤ k → AreWithin j cs → AreWithin k cs
  lower j k [] h g = tt
  lower j k (c ∷ cs) h g = (omega (arith, h, g.0), lower j k cs h g.1)

  under_within : (clock : Clock) (cs : List Cmd) → AreWithin 0 cs → AreWithin (length clock) (under types variables clock cs)
  under_within [] cs h = h
  under_within (on ∷ clock) cs h = (one_more _ on.1 (length clock) (cmds_of (under types variables clock cs)) (within-all (length clock) (under types variables clock cs) (under_within clock cs h)), tt)

  under_300 : (clock : Clock) (cs : List Cmd) → length clock ≤ 300 → AreWithin 0 cs → AreWithin 300 (under types variables clock cs)
  under_300 clock cs short h = lower (length clock) 300 (under types variables clock cs) short (under_within clock cs h)

  where_within : (xs : List ℕ) (c : Cmd) → depth_of_one c ≤ 0 → AreWithin 300 (where_true types variables xs c)
  where_within [] c h = tt
  where_within (x ∷ xs) c h = (omega (arith, h), where_within xs c h)

  first_within : (targets : List ℕ) (op : ObcOp) (args : List Arg) → AreWithin 0 (set_first types variables targets op args)
  first_within [] op args = tt
  first_within (x ∷ targets) op args = (omega arith, tt)

  placed_within : (i : ℕ) (targets : List ℕ) (clock : Clock) (again : List ℕ) (right : Right) → length clock ≤ 300 → AreWithin 300 (placed types variables i targets clock again right)
  placed_within i targets clock again (operator op args) h = under_300 clock _ h (first_within targets op _)
  placed_within i targets clock again (register first next) h =
      all-append (λ c. depth_of_one c ≤ 300) (where_true types variables again _) (under types variables clock _) (where_within again _ (omega arith)) (under_300 clock _ h (first_within targets _ _))
  placed_within i targets clock again (called f args) h =
      all-append (λ c. depth_of_one c ≤ 300) (where_true types variables again _) (under types variables clock _) (where_within again _ (omega arith)) (under_300 clock _ h (omega arith, tt))

  stored_within : (i : ℕ) (targets : List ℕ) (clock : Clock) (right : Right) → length clock ≤ 300 → AreWithin 300 (stored types variables i targets clock right)
  stored_within i targets clock (operator op args) h = tt
  stored_within i targets clock (register first next) h = under_300 clock _ h (omega arith, tt)
  stored_within i targets clock (called f args) h = tt

  pub places-within : (i : ℕ) (es : List FlatEqn) → AllByRecursion IsShort es → AreWithin 300 (places types variables i es)
  places-within i [] h = tt
  places-within i (e ∷ es) h =
      all-append (λ c. depth_of_one c ≤ 300) (place types variables i e) (places types variables (i + 1) es) (placed_within i e.targets e.clock e.restart e.right h.0) (places-within (i + 1) es h.1)

  pub stores-within : (i : ℕ) (es : List FlatEqn) → AllByRecursion IsShort es → AreWithin 300 (stores types variables i es)
  stores-within i [] h = tt
  stores-within i (e ∷ es) h =
      all-append (λ c. depth_of_one c ≤ 300) (store types variables i e) (stores types variables (i + 1) es) (stored_within i e.targets e.clock e.right h.0) (stores-within (i + 1) es h.1)
