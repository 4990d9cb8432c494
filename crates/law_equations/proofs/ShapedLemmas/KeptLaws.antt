-- A node keeps its shape where some of its equations go.
use Rattle.std.proofs.Common.{◌≡◌, ◌≤◌, ◌<◌, nat_eq, Bool, true, false, cond, List, [], ◌∷◌, length, arith}
use Rattle.std.specs.List.{AllByRecursion, IsDistinct, filter}
use Rattle.hp_flat.specs.Equations.{FlatEqn}
use Rattle.law_equations.specs.Meaning.Reactions.{has}
use Rattle.law_equations.specs.Meaning.Scheduling.{reads, IsDefinedBelow, IsRanked, EqnWithin}
use Rattle.law_equations.specs.Meaning.Kinding.{EqnKinds}
use Rattle.law_equations.proofs.FewerLemmas.Members.{each_map}
use Rattle.law_equations.specs.Shaped.Shaped.{AreApart, DefineApart, IsShort}
use Rattle.law_equations.specs.Shaped.Laws.{KeptLaw}

module _ (keep : FlatEqn → Bool) where
  each_left : (P : FlatEqn → Type 0) (es : List FlatEqn) → AllByRecursion P es → AllByRecursion P (filter keep es)
  each_left P [] h = tt
  each_left P (e ∷ es) h = by (keep e) (each_left P es h.1)
    where
      by : (d : Bool) → AllByRecursion P (filter keep es) → AllByRecursion P (cond d (e ∷ filter keep es) (filter keep es))
      by true g = (h.0, g)
      by false g = g

  no_more : (es : List FlatEqn) → length (filter keep es) ≤ length es
  no_more [] = omega arith
  no_more (e ∷ es) = by (keep e) (no_more es)
    where
      by : (d : Bool) → length (filter keep es) ≤ length es → length (cond d (e ∷ filter keep es) (filter keep es)) ≤ length (e ∷ es)
      by true g = omega (arith, g)
      by false g = omega (arith, g)

  apart_left : (es : List FlatEqn) → DefineApart es → DefineApart (filter keep es)
  apart_left es h =
      each_map (λ (d : FlatEqn). AllByRecursion (AreApart d) es) (λ (d : FlatEqn). AllByRecursion (AreApart d) (filter keep es)) (λ d g. each_left (AreApart d) es g) (filter keep es)
      (each_left (λ (d : FlatEqn). AllByRecursion (AreApart d) es) es h)

  ranked_left : (es : List FlatEqn) → IsRanked es → IsRanked (filter keep es)
  ranked_left es h =
      each_map (λ (e : FlatEqn). AllByRecursion (IsDefinedBelow es e) (reads e)) (λ (e : FlatEqn). AllByRecursion (IsDefinedBelow (filter keep es) e) (reads e))
      (λ e q. each_map (IsDefinedBelow es e) (IsDefinedBelow (filter keep es) e) (λ x b. each_left (λ (d : FlatEqn). has d.targets x ≡ true → d.at < e.at) es b) (reads e) q) (filter keep es)
      (each_left (λ (e : FlatEqn). AllByRecursion (IsDefinedBelow es e) (reads e)) es h)

pub kept_law : KeptLaw
kept_law types callees n keep h ranked = (
  record {
    name = h.name;
    within = record { inputs = h.within.inputs; outputs = h.within.outputs; eqns = each_left keep (EqnWithin (length n.variables)) n.eqns h.within.eqns };
    no_inputs = each_left keep (λ (e : FlatEqn). AllByRecursion (λ x. n.inputs ≤ x) e.targets) n.eqns h.no_inputs;
    outputs_behind = h.outputs_behind;
    outputs_differ = h.outputs_differ;
    kinds = each_left keep (EqnKinds types callees n.variables) n.eqns h.kinds;
    values = h.values;
    targets_differ = each_left keep (λ (e : FlatEqn). IsDistinct nat_eq e.targets) n.eqns h.targets_differ;
    apart = apart_left keep n.eqns h.apart;
    short = each_left keep IsShort n.eqns h.short;
    names_good = h.names_good;
    names_differ = h.names_differ;
    names_own = h.names_own;
    few = omega (arith, h.few, no_more keep n.eqns);
  },
  ranked_left keep n.eqns ranked,
)
