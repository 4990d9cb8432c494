-- The machine of a ranked node with shape has form, over all passes.
use Rattle.std.proofs.Common.{◌≡◌, ◌≤◌, ◌<◌, nat_eq, true, List, length, sym, subst, arith}
use Rattle.std.specs.List.{AllByRecursion, IsDistinct}
use Rattle.std.specs.List.Sorted.{IsPermutation}
use Rattle.std.proofs.lemmas.List.Sorted.{length_permutation}
use Rattle.hp_obc.specs.Form.{TypesForm, MachineForm}
use Rattle.hp_obc.specs.Machines.{ObcType, Machine}
use Rattle.hp_flat.specs.Equations.{FlatEqn}
use Rattle.hp_flat.specs.Nodes.{FlatNode}
use Rattle.law_equations.specs.Meaning.Reactions.{has}
use Rattle.law_equations.specs.Meaning.Scheduling.{reads, IsDefinedBelow, IsRanked, EqnWithin}
use Rattle.law_equations.specs.Meaning.Kinding.{Callees, EqnKinds}
use Rattle.hp_normal.specs.Retargeting.{with_eqns, retargeted}
use Rattle.hp_normal.specs.Substituting.{substituted}
use Rattle.hp_normal.specs.Choices.{simple}
use Rattle.hp_normal.specs.Needing.{pruned}
use Rattle.hp_normal.specs.Normal.{normal}
use Rattle.hp_normal.specs.Following.{AreBehind}
use Rattle.hp_normal.proofs.BehindLaws.{retargeted_step, substituted_step}
use Rattle.hp_normal.proofs.ChoiceLaws.{simple_step}
use Rattle.hp_toobc.specs.Making.{machine_of}
use Rattle.hp_fuse.specs.Fusing.{fused_to}
use Rattle.hp_fuse.proofs.LevelLaws.{alike-fused, like}
use Rattle.law_equations.proofs.FewerLemmas.Members.{each_map}
use Rattle.law_equations.proofs.FewerLemmas.OrderLaws.{order_law, each_moved}
use Rattle.law_equations.proofs.FewerLemmas.PrunedForms.{pruned-all, pruned-within, pruned-no_inputs, pruned-shorter}
use Rattle.law_equations.proofs.FewerLemmas.ScheduledLaws.{to-behind}
use Rattle.law_equations.specs.Shaped.Shaped.{AreApart, DefineApart, IsShort, NodeShape, CallIsKnown, IsShaped}
use Rattle.law_equations.specs.Shaped.Laws.{FormLaw}
use Rattle.law_equations.proofs.ShapedLemmas.MachineLaws.{machine-form}
use Rattle.law_equations.proofs.ShapedLemmas.SimpleShapes.{simple-shape, simple-known}
use Rattle.law_equations.proofs.ShapedLemmas.RetargetShapes.{retargeted-shape, retargeted-known}
use Rattle.law_equations.proofs.ShapedLemmas.SubstituteShapes.{substituted-shape, substituted-known}

-- so has a node without equations that nothing needs
pruned_shape : (types : List ObcType) (callees : Callees) (n : FlatNode) → NodeShape types callees n → NodeShape types callees (pruned n)
pruned_shape types callees n h =
    let less = pruned-shorter n in
    let few = h.few in
    record {
      name = h.name;
      within = pruned-within n h.within;
      no_inputs = pruned-no_inputs n h.no_inputs;
      outputs_behind = h.outputs_behind;
      outputs_differ = h.outputs_differ;
      kinds = pruned-all (EqnKinds types callees n.variables) n h.kinds;
      values = h.values;
      targets_differ = pruned-all (λ (e : FlatEqn). IsDistinct nat_eq e.targets) n h.targets_differ;
      apart =
          each_map (λ (d : FlatEqn). AllByRecursion (AreApart d) n.eqns) (λ (d : FlatEqn). AllByRecursion (AreApart d) (pruned n).eqns) (λ d g. pruned-all (AreApart d) n g) (pruned n).eqns
          (pruned-all (λ (d : FlatEqn). AllByRecursion (AreApart d) n.eqns) n h.apart);
      short = pruned-all IsShort n h.short;
      names_good = h.names_good;
      names_differ = h.names_differ;
      names_own = h.names_own;
      few = omega (arith, few, less);
    }

-- without needless copies and equations a node has shape
normal_shape : (types : List ObcType) (callees : Callees) (earlier : List Machine) (n : FlatNode) → TypesForm types → AreBehind n.eqns → IsShaped types callees earlier n → IsShaped types callees earlier (normal n)
normal_shape types callees earlier n form behind h =
    let m0 : FlatNode = simple n in
    let m1 : FlatNode = retargeted m0 in
    let m2 : FlatNode = substituted m1 in
    let m3 : FlatNode = retargeted m2 in
    let before : NodeShape types callees m0 = simple-shape types callees n h.shape in
    let stands : AreBehind m0.eqns = simple_step n behind in
    let first : NodeShape types callees m1 = retargeted-shape types callees m0 form stands before in
    let second : NodeShape types callees m2 = substituted-shape types callees m1 first.kinds first in
    record {
      shape = pruned_shape types callees m3 (retargeted-shape types callees m2 form (substituted_step m1 (retargeted_step m0 stands)) second);
      new = h.new;
      calls =
          pruned-all (λ (e : FlatEqn). CallIsKnown types callees earlier e.right) m3
          (retargeted-known types callees earlier m2
          (substituted-known types callees m1 first.kinds earlier (retargeted-known types callees earlier m0 (simple-known types callees earlier n h.calls))));
    }

-- ---- equations in another order

module _ (types : List ObcType) (callees : Callees) (n : FlatNode) (es : List FlatEqn) (p : IsPermutation n.eqns es) where
  moved_apart : DefineApart n.eqns → DefineApart es
  moved_apart h =
      each_map (λ (d : FlatEqn). AllByRecursion (AreApart d) n.eqns) (λ (d : FlatEqn). AllByRecursion (AreApart d) es) (λ d g. each_moved (AreApart d) n.eqns es p g) es
      (each_moved (λ (d : FlatEqn). AllByRecursion (AreApart d) n.eqns) n.eqns es p h)

  moved_ranked : IsRanked n.eqns → IsRanked es
  moved_ranked h =
      each_map (λ (e : FlatEqn). AllByRecursion (IsDefinedBelow n.eqns e) (reads e)) (λ (e : FlatEqn). AllByRecursion (IsDefinedBelow es e) (reads e))
      (λ e q. each_map (IsDefinedBelow n.eqns e) (IsDefinedBelow es e) (λ x b. each_moved (λ (d : FlatEqn). has d.targets x ≡ true → d.at < e.at) n.eqns es p b) (reads e) q) es
      (each_moved (λ (e : FlatEqn). AllByRecursion (IsDefinedBelow n.eqns e) (reads e)) n.eqns es p h)

  moved_shape : NodeShape types callees n → NodeShape types callees (with_eqns n es)
  moved_shape h = record {
    name = h.name;
    within = record { inputs = h.within.inputs; outputs = h.within.outputs; eqns = each_moved (EqnWithin (length n.variables)) n.eqns es p h.within.eqns };
    no_inputs = each_moved (λ (e : FlatEqn). AllByRecursion (λ x. n.inputs ≤ x) e.targets) n.eqns es p h.no_inputs;
    outputs_behind = h.outputs_behind;
    outputs_differ = h.outputs_differ;
    kinds = each_moved (EqnKinds types callees n.variables) n.eqns es p h.kinds;
    values = h.values;
    targets_differ = each_moved (λ (e : FlatEqn). IsDistinct nat_eq e.targets) n.eqns es p h.targets_differ;
    apart = moved_apart h.apart;
    short = each_moved IsShort n.eqns es p h.short;
    names_good = h.names_good;
    names_differ = h.names_differ;
    names_own = h.names_own;
    few = omega (arith, h.few, length_permutation n.eqns es p);
  }

  moved_calls : (earlier : List Machine) → IsShaped types callees earlier n → IsShaped types callees earlier (with_eqns n es)
  moved_calls earlier h = record { shape = moved_shape h.shape; new = h.new; calls = each_moved (λ (e : FlatEqn). CallIsKnown types callees earlier e.right) n.eqns es p h.calls }

-- ---- the machine

pub form_law : FormLaw
form_law types callees earlier n m form ranked h compiled =
    let k : FlatNode = with_eqns n compiled.scheduled in
    let behind : AreBehind compiled.scheduled = to-behind compiled.scheduled (order_law compiled.scheduled (moved_ranked types callees n compiled.scheduled compiled.same ranked) compiled.order) in
    let plain : Machine = machine_of types (normal k) in
    let shaped : IsShaped types callees earlier (normal k) = normal_shape types callees earlier k form behind (moved_calls types callees n compiled.scheduled compiled.same earlier h) in
    let whole : MachineForm types earlier plain = machine-form types form callees earlier (normal k) shaped in
    subst (MachineForm types earlier) (sym compiled.made) ((like plain (fused_to 301 plain.step) (alike-fused 301 plain.step)).form types earlier whole)
