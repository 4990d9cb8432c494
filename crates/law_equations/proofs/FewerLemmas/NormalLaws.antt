-- Reactions and what is asked of nodes, over all passes from ranked equations to machines.
use Rattle.std.proofs.Common.{◌≡◌, ◌≤◌, ◌<◌, ◌+◌, ℕ, zero, suc, true, not, List, length, refl, ◌∙◌, arith}
use Rattle.std.specs.List.{AllByRecursion, range_with_len}
use Rattle.std.specs.List.Sorted.{IsPermutation}
use Rattle.std.proofs.lemmas.List.Sorted.{length_permutation}
use Rattle.hp_obc.specs.Machines.{ObcType}
use Rattle.hp_flat.specs.declared.equation.Atom.TheVariants.{Variable}
use Rattle.hp_flat.specs.Equations.{FlatEqn}
use Rattle.hp_flat.specs.Nodes.{FlatNode}
use Rattle.law_equations.specs.Meaning.Reactions.{has, inputs_of}
use Rattle.law_equations.specs.Meaning.Fitting.{Fits}
use Rattle.law_equations.specs.Meaning.Scheduling.{IsInOrder, reads, IsDefinedBelow, IsRanked, EqnWithin}
use Rattle.hp_normal.specs.Reading.{copy_of}
use Rattle.hp_normal.specs.Retargeting.{ends, is_moved, with_targets, with_eqns, retargeted}
use Rattle.hp_normal.specs.Substituting.{meanings, is_replaced, read_eqn, substituted}
use Rattle.hp_normal.specs.Choices.{simple}
use Rattle.hp_normal.specs.Needing.{pruned}
use Rattle.hp_normal.specs.Normal.{normal}
use Rattle.law_equations.specs.Followed.Premises.{EqnForm, NodeForm}
use Rattle.law_equations.specs.Fewer.Keeping.{Remains, KeepsReactions, IsRegular, NormalLaw}
use Rattle.law_equations.specs.Fewer.Compiling.{CopyAgrees, CopiesAgree, FlatForm, PassedLaw}
use Rattle.law_equations.proofs.FewerLemmas.Members.{each_map, fewer}
use Rattle.law_equations.proofs.FewerLemmas.OrderLaws.{order_law, each_moved, same_reaction, same_fits}
use Rattle.hp_normal.proofs.BehindLaws.{retargeted_step, substituted_step}
use Rattle.hp_normal.proofs.ChoiceLaws.{simple_step}
use Rattle.hp_normal.proofs.NeedLaws.{pruned_step}
use Rattle.law_equations.proofs.FewerLemmas.RetargetLaws.{retargeted-remains}
use Rattle.law_equations.proofs.FewerLemmas.SubstituteLaws.{substituted-remains}
use Rattle.law_equations.proofs.FewerLemmas.SimpleLaws.{simple-remains}
use Rattle.law_equations.proofs.FewerLemmas.SimpleForms.{simple-copies, simple-forms, simple-no_inputs, simple-same_length, simple-within}
use Rattle.law_equations.proofs.FewerLemmas.PrunedLaws.{pruned-remains}
use Rattle.law_equations.proofs.FewerLemmas.ScheduledLaws.{to-behind, from-behind}
use Rattle.law_equations.proofs.FewerLemmas.RetargetForms.{retargeted-within, retargeted-no_inputs, retargeted-copies, retargeted-forms}
use Rattle.law_equations.proofs.FewerLemmas.SubstituteForms.{substituted-within, substituted-no_inputs, substituted-forms}
use Rattle.law_equations.proofs.FewerLemmas.PrunedForms.{pruned-all, pruned-within, pruned-no_inputs, pruned-shorter}

inputs-below : (a k n : ℕ) → a + k ≤ n → AllByRecursion (λ x. x < n) (range_with_len a k)
inputs-below a zero n h = tt
inputs-below a (suc k) n h = (omega arith, inputs-below (a + 1) k n (omega arith))

their_inputs : (n : FlatNode) → AllByRecursion (λ x. x < n.inputs) (inputs_of n)
their_inputs n = inputs-below 0 n.inputs n.inputs (omega arith)

-- ---- each step

retargeted-regular : (n : FlatNode) → IsRegular n → IsRegular (retargeted n)
retargeted-regular n h = record {
  within = retargeted-within n h.within;
  no_inputs = retargeted-no_inputs n h.no_inputs;
  scheduled = from-behind (retargeted n).eqns (retargeted_step n (to-behind n.eqns h.scheduled));
}

substituted-regular : (n : FlatNode) → IsRegular n → IsRegular (substituted n)
substituted-regular n h = record {
  within = substituted-within n h.within;
  no_inputs = substituted-no_inputs n h.no_inputs;
  scheduled = from-behind (substituted n).eqns (substituted_step n (to-behind n.eqns h.scheduled));
}

simple-regular : (n : FlatNode) → IsRegular n → IsRegular (simple n)
simple-regular n h = record {
  within = simple-within n h.within;
  no_inputs = simple-no_inputs n h.no_inputs;
  scheduled = from-behind (simple n).eqns (simple_step n (to-behind n.eqns h.scheduled));
}

pruned-regular : (n : FlatNode) → IsRegular n → IsRegular (pruned n)
pruned-regular n h = record {
  within = pruned-within n h.within;
  no_inputs = pruned-no_inputs n h.no_inputs;
  scheduled = from-behind (pruned n).eqns (pruned_step n (to-behind n.eqns h.scheduled));
}

retargeted-keeps : (n : FlatNode) → IsRegular n → KeepsReactions n (retargeted n)
retargeted-keeps n h answers takes inputs instants fits q = retargeted-remains n (to-behind n.eqns h.scheduled) answers takes (their_inputs n) inputs instants fits q

substituted-keeps : (n : FlatNode) → IsRegular n → KeepsReactions n (substituted n)
substituted-keeps n h answers takes inputs instants fits q = substituted-remains n (to-behind n.eqns h.scheduled) h.no_inputs answers takes (their_inputs n) inputs instants fits q

simple-keeps : (n : FlatNode) → IsRegular n → KeepsReactions n (simple n)
simple-keeps n h answers takes inputs instants fits q = simple-remains n h.no_inputs answers takes inputs instants fits q

pruned-keeps : (n : FlatNode) → IsRegular n → KeepsReactions n (pruned n)
pruned-keeps n h answers takes inputs instants fits q = pruned-remains n (to-behind n.eqns h.scheduled) answers takes (their_inputs n) inputs instants fits q

-- one pass behind the other
pub keeps-trans : (n m k : FlatNode) → KeepsReactions n m → KeepsReactions m k → KeepsReactions n k
keeps-trans n m k first second answers takes inputs instants fits q =
    let a : Remains answers takes n m inputs instants = first answers takes inputs instants fits q in
    let b : Remains answers takes m k inputs a.others = second answers takes inputs a.others a.fit a.reaction in
    record { others = b.others; reaction = b.reaction; fit = b.fit; outputs = b.outputs ∙ a.outputs }

pub normal_law : NormalLaw
normal_law n h =
    let m0 : FlatNode = simple n in
    let m1 : FlatNode = retargeted m0 in
    let m2 : FlatNode = substituted m1 in
    let m3 : FlatNode = retargeted m2 in
    let before : IsRegular m0 = simple-regular n h in
    let first : IsRegular m1 = retargeted-regular m0 before in
    let second : IsRegular m2 = substituted-regular m1 first in
    let third : IsRegular m3 = retargeted-regular m2 second in
    let one : KeepsReactions n m1 = keeps-trans n m0 m1 (simple-keeps n h) (retargeted-keeps m0 before) in
    let two : KeepsReactions n m2 = keeps-trans n m1 m2 one (substituted-keeps m1 first) in
    let three : KeepsReactions n m3 = keeps-trans n m2 m3 two (retargeted-keeps m2 second) in
    (pruned-regular m3 third, keeps-trans n m3 (normal n) three (pruned-keeps m3 third))

-- ---- forms

module _ (types : List ObcType) (n : FlatNode) (h : FlatForm types n) (es : List FlatEqn) (p : IsPermutation n.eqns es) (order : IsInOrder es) where
  abbrev m : FlatNode
  m = with_eqns n es

  abbrev m0 : FlatNode
  m0 = simple m

  abbrev m1 : FlatNode
  m1 = retargeted m0

  abbrev m2 : FlatNode
  m2 = substituted m1

  abbrev m3 : FlatNode
  m3 = retargeted m2

  ranked : IsRanked es
  ranked =
      each_map (λ (e : FlatEqn). AllByRecursion (IsDefinedBelow n.eqns e) (reads e)) (λ (e : FlatEqn). AllByRecursion (IsDefinedBelow es e) (reads e))
      (λ e q. each_map (IsDefinedBelow n.eqns e) (IsDefinedBelow es e) (λ x b. each_moved (λ (d : FlatEqn). has d.targets x ≡ true → d.at < e.at) n.eqns es p b) (reads e) q) es
      (each_moved (λ (e : FlatEqn). AllByRecursion (IsDefinedBelow n.eqns e) (reads e)) n.eqns es p h.ranked)

  regular : IsRegular m
  regular = record {
    within = record { inputs = h.within.inputs; outputs = h.within.outputs; eqns = each_moved (EqnWithin (length n.variables)) n.eqns es p h.within.eqns };
    no_inputs = each_moved (λ (e : FlatEqn). AllByRecursion (λ x. n.inputs ≤ x) e.targets) n.eqns es p h.no_inputs;
    scheduled = order_law es ranked order;
  }

  copies : CopiesAgree n.variables es
  copies = each_moved (λ (e : FlatEqn). CopyAgrees n.variables (copy_of e)) n.eqns es p h.copies

  forms : AllByRecursion (EqnForm types n.variables) (normal m).eqns
  forms =
      pruned-all (EqnForm types n.variables) m3
      (retargeted-forms types m2
      (substituted-forms m1 types (retargeted-forms types m0 (simple-forms types m (each_moved (EqnForm types n.variables) n.eqns es p h.eqns))) (retargeted-copies m0 (simple-copies m copies))))

  no_more : length (normal m).eqns ≤ length n.eqns
  no_more =
      omega (
        arith,
        length_permutation n.eqns es p,
        simple-same_length m,
        fewer (with_targets (ends m0 m0.eqns)) (λ e. not (is_moved (ends m0 m0.eqns) e)) m0.eqns,
        fewer (read_eqn (meanings m1 m1.eqns (λ x. Variable x))) (λ e. not (is_replaced (meanings m1 m1.eqns (λ x. Variable x)) e)) m1.eqns,
        fewer (with_targets (ends m2 m2.eqns)) (λ e. not (is_moved (ends m2 m2.eqns) e)) m2.eqns,
        pruned-shorter m3,
      )

  form : NodeForm types (normal m)
  form =
      let last : IsRegular (normal m) = (normal_law m regular).0 in
      record {
        within = last.within;
        scheduled = last.scheduled;
        eqns = forms;
        names_differ = h.names_differ;
        names_own = h.names_own;
        few = omega (arith, no_more, h.few);
      }

  reordered-keeps : KeepsReactions n m
  reordered-keeps answers takes inputs instants fits q = record {
    others = instants;
    reaction = same_reaction n es p answers takes inputs instants q;
    fit = each_map (Fits takes n) (Fits takes m) (λ now f. same_fits n es p answers takes now f) instants fits;
    outputs = refl;
  }

  pub both-passed : NodeForm types (normal m) × KeepsReactions n (normal m)
  both-passed = (form, keeps-trans n m (normal m) reordered-keeps (normal_law m regular).1)

pub passed_law : PassedLaw
passed_law types n scheduled h same order = both-passed types n h scheduled same order
