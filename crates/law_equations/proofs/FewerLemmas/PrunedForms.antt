-- What is asked of nodes is kept where equations go.
use Rattle.std.proofs.Common.{◌≤◌, ℕ, suc, Bool, true, false, cond, not, List, [], ◌∷◌, length, arith}
use Rattle.std.specs.List.{AllByRecursion, filter}
use Rattle.hp_flat.specs.Equations.{FlatEqn}
use Rattle.hp_flat.specs.Nodes.{FlatNode}
use Rattle.law_equations.specs.Meaning.Scheduling.{EqnWithin, IsWithin, DefinesNoInput}
use Rattle.hp_normal.specs.Needing.{is_idle, needed, pruned}
use Rattle.law_equations.specs.Followed.Programs.{CallsAmong, CallsOnly}

module _ (keep : FlatEqn → Bool) where
  left_all : (P : FlatEqn → Type 0) (es : List FlatEqn) → AllByRecursion P es → AllByRecursion P (filter keep es)
  left_all P [] h = tt
  left_all P (e ∷ es) h = by (keep e) (left_all P es h.1)
    where
      by : (b : Bool) → AllByRecursion P (filter keep es) → AllByRecursion P (cond b (e ∷ filter keep es) (filter keep es))
      by true rest = (h.0, rest)
      by false rest = rest

  left_shorter : (es : List FlatEqn) → length (filter keep es) ≤ length es
  left_shorter [] = omega arith
  left_shorter (e ∷ es) = by (keep e) (left_shorter es)
    where
      by : (b : Bool) → length (filter keep es) ≤ length es → length (cond b (e ∷ filter keep es) (filter keep es)) ≤ suc (length es)
      by true rest = omega (arith, rest)
      by false rest = omega (arith, rest)

-- what holds of all equations holds of those that are left
pub pruned-all : (P : FlatEqn → Type 0) (n : FlatNode) → AllByRecursion P n.eqns → AllByRecursion P (pruned n).eqns
pruned-all P n h = left_all (λ e. not (is_idle n (needed n n.eqns) e)) P n.eqns h

pub pruned-shorter : (n : FlatNode) → length (pruned n).eqns ≤ length n.eqns
pruned-shorter n = left_shorter (λ e. not (is_idle n (needed n n.eqns) e)) n.eqns

pub pruned-within : (n : FlatNode) → IsWithin n → IsWithin (pruned n)
pruned-within n h = record { inputs = h.inputs; outputs = h.outputs; eqns = pruned-all (EqnWithin (length n.variables)) n h.eqns }

pub pruned-no_inputs : (n : FlatNode) → DefinesNoInput n → DefinesNoInput (pruned n)
pruned-no_inputs n h = pruned-all (λ (e : FlatEqn). AllByRecursion (λ x. n.inputs ≤ x) e.targets) n h

pub pruned-calls : (n : FlatNode) (names : List (List ℕ)) → CallsOnly names n.eqns → CallsOnly names (pruned n).eqns
pruned-calls n names h = pruned-all (λ (e : FlatEqn). CallsAmong names e.right) n h
