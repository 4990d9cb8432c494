-- Equations in the order of their ranks, and in any other order.
use Rattle.std.proofs.Common.{◌≡◌, ◌<◌, ◌≤◌, ℕ, suc, Bool, true, false, ◌||◌, ◌&&◌, List, [], ◌∷◌, refl, sym, subst, arith}
use Rattle.std.specs.List.{AllByRecursion}
use Rattle.std.specs.List.Sorted.{IsPermutation}
use Rattle.std.proofs.lemmas.List.Elements.{All-from_recursion, recursion_from_All}
use Rattle.std.proofs.lemmas.List.Sorted.{All-permutation, IsPermutation-sym}
use Rattle.hp_base.specs.Kinds.{KindData}
use Rattle.hp_base.specs.declared.value.Value.{Value}
use Rattle.hp_obc.specs.Steps.{Names}
use Rattle.hp_flat.specs.Equations.{FlatEqn}
use Rattle.hp_flat.specs.Nodes.{FlatNode}
use Rattle.law_equations.specs.Meaning.Instants.{Instant, holds}
use Rattle.law_equations.specs.Meaning.Reactions.{Answers, has, is_set, Holds, Continues, Reaction}
use Rattle.law_equations.specs.Meaning.Fitting.{EqnFits, Fits}
use Rattle.law_equations.specs.Meaning.Scheduling.{IsInOrder, reads, IsUndefined, IsScheduled, IsDefinedBelow, IsRanked}
use Rattle.hp_normal.specs.Retargeting.{with_eqns}
use Rattle.law_equations.specs.Fewer.Keeping.{OrderLaw, IsReordered, ReorderedLaw}
use Rattle.law_equations.proofs.FewerLemmas.Members.{each_map, each_both}

-- ---- order

not_defined : (t : Bool) (a b : ℕ) → (t ≡ true → a < b) → b ≤ a → t ≡ false
not_defined true a b h le = let lt : a < b = h refl in absurd (omega arith)
not_defined false a b h le = refl

undefined_later : (e : FlatEqn) (es : List FlatEqn) (x : ℕ) → AllByRecursion (λ (d : FlatEqn). e.at ≤ d.at) es → IsDefinedBelow es e x → IsUndefined es x
undefined_later e es x o r =
    each_both (λ (d : FlatEqn). e.at ≤ d.at) (λ (d : FlatEqn). has d.targets x ≡ true → d.at < e.at) (λ (d : FlatEqn). has d.targets x ≡ false) (λ d le h. not_defined (has d.targets x) d.at e.at h le) es o r

none_less : (e : FlatEqn) (es : List FlatEqn) → IsInOrder (e ∷ es) → AllByRecursion (λ (d : FlatEqn). e.at ≤ d.at) es
none_less e es o = recursion_from_All (λ (d : FlatEqn). e.at ≤ d.at) es (λ k d lt. o 0 (suc k) d (omega arith) (omega arith))

later_in_order : (e : FlatEqn) (es : List FlatEqn) → IsInOrder (e ∷ es) → IsInOrder es
later_in_order e es o i j d le lt = o (suc i) (suc j) d (omega arith) (omega arith)

ordered : (es : List FlatEqn) → IsRanked es → IsInOrder es → IsScheduled es
ordered [] h o = tt
ordered (e ∷ es) h o = (
  each_map (IsDefinedBelow (e ∷ es) e) (IsUndefined (e ∷ es)) (λ x r. (not_defined (has e.targets x) e.at e.at r.0 (omega arith), undefined_later e es x (none_less e es o) r.1)) (reads e) h.0,
  ordered es
      (each_map (λ (d : FlatEqn). AllByRecursion (IsDefinedBelow (e ∷ es) d) (reads d)) (λ (d : FlatEqn). AllByRecursion (IsDefinedBelow es d) (reads d))
      (λ d g. each_map (IsDefinedBelow (e ∷ es) d) (IsDefinedBelow es d) (λ x r. r.1) (reads d) g) es h.1)
      (later_in_order e es o),
)

pub order_law : OrderLaw
order_law es ranked order = ordered es ranked order

-- ---- any other order

pub each_moved : (P : FlatEqn → Type 0) (es ds : List FlatEqn) → IsPermutation es ds → AllByRecursion P es → AllByRecursion P ds
each_moved P es ds p h = recursion_from_All P ds (All-permutation P es ds p (All-from_recursion P es h))

or_left : (a b : Bool) → (a || b) ≡ false → a ≡ false
or_left true b h = absurd (cc)
or_left false b h = refl

or_right : (a b : Bool) → (a || b) ≡ false → b ≡ false
or_right true b h = absurd (cc)
or_right false b h = h

or_false : (a b : Bool) → a ≡ false → b ≡ false → (a || b) ≡ false
or_false true b h g = absurd (cc)
or_false false b h g = g

abbrev IsUnset : Instant → ℕ → FlatEqn → Type 0
IsUnset now x e = (holds e.clock now && has e.targets x) ≡ false

unset_each : (es : List FlatEqn) (now : Instant) (x : ℕ) → is_set es now x ≡ false → AllByRecursion (IsUnset now x) es
unset_each [] now x h = tt
unset_each (e ∷ es) now x h = (or_left (holds e.clock now && has e.targets x) (is_set es now x) h, unset_each es now x (or_right (holds e.clock now && has e.targets x) (is_set es now x) h))

each_unset : (es : List FlatEqn) (now : Instant) (x : ℕ) → AllByRecursion (IsUnset now x) es → is_set es now x ≡ false
each_unset [] now x h = refl
each_unset (e ∷ es) now x h = or_false (holds e.clock now && has e.targets x) (is_set es now x) h.0 (each_unset es now x h.1)

module _ (n : FlatNode) (es : List FlatEqn) (p : IsPermutation n.eqns es) (answers : Answers) (takes : Names (List KindData)) where
  same_continues : (past : List Instant) (inputs : List Value) (now : Instant) → Continues answers n past inputs now → Continues answers (with_eqns n es) past inputs now
  same_continues past inputs now c = record {
    inputs_are = c.inputs_are;
    equations = each_moved (Holds answers past now) n.eqns es p c.equations;
    others = λ x h u. c.others x h (each_unset n.eqns now x (each_moved (IsUnset now x) es n.eqns (IsPermutation-sym n.eqns es p) (unset_each es now x u)));
  }

  pub same_reaction : (inputs : List (List Value)) (instants : List Instant) → Reaction answers n inputs instants → Reaction answers (with_eqns n es) inputs instants
  same_reaction [] [] r = tt
  same_reaction [] (now ∷ past) r = absurd r
  same_reaction (inputs ∷ earlier) [] r = absurd r
  same_reaction (inputs ∷ earlier) (now ∷ past) r = (same_reaction earlier past r.0, same_continues past inputs now r.1)

  pub same_fits : (now : Instant) → Fits takes n now → Fits takes (with_eqns n es) now
  same_fits now f = record { inputs = f.inputs; outputs = f.outputs; eqns = each_moved (EqnFits takes now) n.eqns es p f.eqns }

pub reordered-is : (n m : FlatNode) → IsReordered n m → with_eqns n m.eqns ≡ m
reordered-is n m p = sym (λ i. record { name = p.name i; variables = p.variables i; inputs = p.inputs i; outputs = p.outputs i; eqns = m.eqns })

pub reordered_law : ReorderedLaw
reordered_law n m p answers takes inputs instants fits r =
    subst (λ (k : FlatNode). Reaction answers k inputs instants × AllByRecursion (Fits takes k) instants) (reordered-is n m p)
    (same_reaction n m.eqns p.eqns answers takes inputs instants r, each_map (Fits takes n) (Fits takes (with_eqns n m.eqns)) (λ now f. same_fits n m.eqns p.eqns answers takes now f) instants fits)
