-- What is made of the nodes of a program has, besides what it has in turn, what its machines ask for.
use Rattle.std.proofs.Common.{◌≡◌, ℕ, suc, ◌+◌, ◌^◌, ◌<◌, ◌≤◌, true, false, nat_eq, List, [], ◌∷◌, ◌++◌, length, map, Option, None, Some, refl, sym, ap, subst, ◌∙◌, arith}
use Rattle.std.specs.Prelude.{⊤, codes}
use Rattle.std.specs.List.{AllByRecursion, IsDistinct}
use Rattle.std.proofs.lemmas.Bool.Decides.{nat_tests}
use Rattle.std.proofs.lemmas.List.{length-append}
use Rattle.hp_base.specs.declared.value.Value.TheVariants.{Absent}
use Rattle.hp_boolx.specs.Machine.{Machine}
use Rattle.hp_obc.specs.Machines.{ObcType}
use Rattle.hp_tree.specs.Blocks.{Decl}
use Rattle.hp_tree.specs.Meaning.{controls_of}
use Rattle.hp_tree.specs.Programs.{Contract, Node}
use Rattle.hp_tree.specs.declared.program.Item.{Item}
use Rattle.hp_tree.specs.declared.program.Item.TheVariants.{TypeItem, NodeItem}
use Rattle.law_judged.specs.Named.Scoped.{EachNode}
use Rattle.hp_automata.specs.Lowering.{Enumerations, lowered_item, lowered_node}
use Rattle.hp_flat.specs.declared.node.Variable.{Variable}
use Rattle.hp_flat.specs.Equations.{Clock, FlatEqn}
use Rattle.hp_flat.specs.Nodes.{FlatNode}
use Rattle.law_equations.specs.Followed.Premises.{names}
use Rattle.law_equations.specs.Made.Making.{Known, numbers_from}
use Rattle.law_equations.specs.Meaning.Instants.{Instant, holds}
use Rattle.law_equations.specs.Meaning.Kinding.{Callees, IsWellMade}
use Rattle.law_equations.specs.Meaning.Scheduling.{AreBelow, IsWithin}
use Rattle.law_equations.specs.Meaning.Solving.{IsExclusive, NoOther}
use Rattle.law_equations.specs.Shaped.Shaped.{IsShort}
use Rattle.law_equations.proofs.ShapedLemmas.Elements.{all-append}
use Rattle.hp_complete.specs.Made.{AreMadeOf, IsMadeOf}
use Rattle.law_wellmade.specs.Lettered.Laws.{NodeLettered}
use Rattle.law_wellmade.specs.Lettered.Names.{IsName}
use Rattle.law_wellmade.specs.Suited.Suited.{HasFew}
use Rattle.hp_watch.specs.Watching.{Observing}
use Rattle.hp_watch.proofs.GrowLaws.{larger}
use Rattle.hp_controller.specs.Controlled.{bit_variables, decoded_controls}
use Rattle.hp_controller.specs.Controlling.{IsController}
use Rattle.hp_controller.specs.declared.decoding.Control.{Control}
use Rattle.law_choices.specs.Answered.Loops as loop
use Rattle.law_choices.specs.Closed.Exclusive.{AreParted, Differ, IsParted}
use Rattle.law_choices.specs.InTurn.Nodes.{AreAllMade, Contracted, IsContracted, IsMade, IsOwn, Made, all_nodes, loops, telling}
use Rattle.law_choices.specs.InTurn.Nodes.Made.{plain, contracted}
use Rattle.law_choices.proofs.AddingLemmas.Adding.{differ_where}
use Rattle.law_controlled.specs.Fitting.{IsFit}
use Rattle.law_controlled.specs.Names.{Adds, HasFreeNames}
use Rattle.law_controlled.specs.Program.{HasAdded}
use Rattle.law_controlled.proofs.FormNameLaws.{all_added, all_bits, ended_named}
use Rattle.law_controlled.proofs.MadeLaws.{few_before}
use Rattle.law_controlled.proofs.NameLaws.{all_both, names_both}
use Rattle.law_controlled.proofs.ShortLaws.{AllShort, ObserversShort, chosen_short}

-- ---- what is asked besides

pub record HasExtras (n : FlatNode) : Type 0 where
  pub name : IsName n.name
  pub outputs_behind : AllByRecursion (λ x. n.inputs ≤ x) n.outputs
  pub outputs_differ : IsDistinct nat_eq n.outputs
  pub parted : AreParted n.eqns
  pub short : AllByRecursion IsShort n.eqns
  pub names_good : AllByRecursion IsName (names n.variables)

pub fit_of : (types : List ObcType) (callees : Callees) (n : FlatNode) → IsWellMade types callees n → IsWithin n → HasFreeNames n → HasExtras n → IsFit types callees n
fit_of types callees n w i f x = record {
  within = i;
  no_inputs = w.no_inputs;
  outputs_behind = x.outputs_behind;
  outputs_differ = x.outputs_differ;
  kinds = w.kinds;
  values = w.values;
  targets_differ = w.targets_differ;
  parted = x.parted;
  short = x.short;
  names_good = x.names_good;
  names_differ = f.differ;
  names_own = f.own;
}

-- ---- lists

shorter : (m : ℕ) → m ≤ 300 → (es : List FlatEqn) → AllShort m es → AllByRecursion IsShort es
shorter m l [] h = tt
shorter m l (e ∷ es) h = ((let a = h.0 in omega (arith, a, l)), shorter m l es h.1)

not_same : (m n : ℕ) → m < n → nat_eq m n ≡ false
not_same m n h = grind (arith, nat_tests)

numbers_above : (m n : ℕ) (os : List Decl) → m < n → AllByRecursion (λ y. nat_eq m y ≡ false) (numbers_from n os)
numbers_above m n [] h = tt
numbers_above m n (o ∷ os) h = (not_same m n h, numbers_above m (n + 1) os (omega (arith, h)))

numbers_differ : (n : ℕ) (os : List Decl) → IsDistinct nat_eq (numbers_from n os)
unfolding IsDistinct
numbers_differ n [] = tt
numbers_differ n (o ∷ os) = (numbers_above n (n + 1) os (omega arith), numbers_differ (n + 1) os)

numbers_behind : (m n : ℕ) (os : List Decl) → m ≤ n → AllByRecursion (λ x. m ≤ x) (numbers_from n os)
numbers_behind m n [] h = tt
numbers_behind m n (o ∷ os) h = (h, numbers_behind m (n + 1) os (omega (arith, h)))

above : (a b : ℕ) → a ≤ b → (xs : List ℕ) → AllByRecursion (λ x. b ≤ x) xs → AllByRecursion (λ x. a ≤ x) xs
above a b l [] h = tt
above a b l (x ∷ xs) h = ((let g = h.0 in omega (arith, l, g)), above a b l xs h.1)

-- two more numbers behind some that are below a bound
two_more : (bound a : ℕ) (xs : List ℕ) → bound ≤ a → AreBelow bound xs → IsDistinct nat_eq xs → IsDistinct nat_eq (xs ++ a ∷ suc a ∷ [])
unfolding IsDistinct
two_more bound a [] l b h = ((not_same a (suc a) (omega arith), tt), (tt, tt))
two_more bound a (x ∷ xs) l b h =
    let low = b.0 in (
      all-append (λ y. nat_eq x y ≡ false) xs (a ∷ suc a ∷ []) h.0 (not_same x a (omega (arith, l, low)), (not_same x (suc a) (omega (arith, l, low)), tt)),
      two_more bound a xs l b.1 h.1,
    )

-- ---- a node of the program

plant_extras : (k : Known) (n : Node) (f : FlatNode) → IsMadeOf k n f → NodeLettered k n → IsParted f → AllShort 128 f.eqns → HasFew f → HasExtras f
plant_extras k n f made lettered parted short few =
    let many = made.inputs in
    let first = length n.inputs + length (controls_of n.contract) in
    record {
      name = subst IsName (sym made.name) lettered.0;
      outputs_behind = subst (AllByRecursion (λ x. f.inputs ≤ x)) (sym made.outputs) (numbers_behind f.inputs first n.outputs (omega (arith, many)));
      outputs_differ = subst (IsDistinct nat_eq) (sym made.outputs) (numbers_differ first n.outputs);
      parted = parted;
      short = shorter 128 (omega arith) f.eqns short;
      names_good = subst (λ vs. AllByRecursion IsName (names vs)) (sym made.variables) (lettered.1 (subst (λ (vs : List Variable). length vs ≤ 2 ^ 64) made.variables few));
    }

-- ---- its controller

-- equations that are there always
parted_always : (now : Instant) (es : List FlatEqn) → AllByRecursion (λ (e : FlatEqn). e.clock ≡ []) es → IsExclusive now es → AreParted es
parted_always now [] b h = tt
parted_always now (e ∷ es) b h = (others e es b.1 (h.0 (there e b.0)), parted_always now es b.1 h.1)
  where
    there : (d : FlatEqn) → d.clock ≡ [] → holds d.clock now ≡ true
    there d q = ap (λ (c : Clock). holds c now) q

    others : (d : FlatEqn) (ds : List FlatEqn) → AllByRecursion (λ (c : FlatEqn). c.clock ≡ []) ds → NoOther now d ds → AllByRecursion (Differ d) ds
    others d [] c g = tt
    others d (f ∷ fs) c g = (differ_where d f (g.0 (there f c.0)), others d fs c.1 g.1)

always_short : (es : List FlatEqn) → AllByRecursion (λ (e : FlatEqn). e.clock ≡ []) es → AllByRecursion IsShort es
always_short [] h = tt
always_short (e ∷ es) h = ((let same = ap (λ (c : Clock). length c) h.0 in omega (arith, same)), always_short es h.1)

controller_extras : (m : Machine) (n : FlatNode) → IsController m n → IsName m.name → length m.name ≤ 255 → HasExtras n
controller_extras m n is named short = record {
  name = subst IsName (sym is.name) (ended_named m.name (codes "$ctl") named short refl refl (omega arith));
  outputs_behind = is.outputs_behind;
  outputs_differ = is.outputs_differ;
  parted = parted_always (λ x. Absent) n.eqns is.always (is.exclusive (λ x. Absent));
  short = always_short n.eqns is.always;
  names_good = let few = is.few in subst (λ vs. AllByRecursion IsName (names vs)) (sym is.numbered) (all_bits 0 (length n.variables) (omega (arith, few)));
}

-- ---- the node that chooses

-- What is known of it: its name and outputs are those of its clocked equations, and it takes some inputs less.
pub record IsChosenOf (c : Contracted) : Type 0 where
  pub parted : IsParted c.chosen.node
  pub name : c.chosen.node.name ≡ c.plant.name
  pub outputs : c.chosen.node.outputs ≡ c.plant.outputs
  pub inputs : c.chosen.node.inputs ≤ c.plant.inputs
  pub inputs_below : c.plant.inputs ≤ length c.plant.variables
  pub outputs_below : AreBelow (length c.plant.variables) c.plant.outputs

abbrev pub ChoosesSo : Made → Type 0
ChoosesSo (plain f) = ⊤
ChoosesSo (contracted c) = IsChosenOf c

module _ (types : List ObcType) (observers : Observing) (node : Node) (c : Contracted) (is : IsContracted types observers node c) (seen : ObserversShort observers) (plant : HasExtras c.plant) (short : AllShort 128 c.plant.eqns) (chosen : IsChosenOf c) (adds : Adds c.plant c.chosen.node) (few : HasFew c.chosen.node)
  where
    added : AllByRecursion IsName (names c.chosen.node.variables)
    added =
        let long : length c.chosen.node.variables ≡ length c.plant.variables + length adds.more = ap length adds.variables ∙ length-append c.plant.variables adds.more in
        subst (λ vs. AllByRecursion IsName (names vs)) (sym adds.variables)
        (subst (AllByRecursion IsName) (sym (names_both c.plant.variables adds.more))
        (all_both IsName (names c.plant.variables) (names adds.more) plant.names_good (all_added (length c.plant.variables) adds.more (omega (arith, long, few)) adds.added)))

    chosen_extras : HasExtras c.chosen.node
    chosen_extras = record {
      name = subst IsName (sym chosen.name) plant.name;
      outputs_behind = above c.chosen.node.inputs c.plant.inputs chosen.inputs c.chosen.node.outputs (subst (AllByRecursion (λ x. c.plant.inputs ≤ x)) (sym chosen.outputs) plant.outputs_behind);
      outputs_differ = subst (IsDistinct nat_eq) (sym chosen.outputs) plant.outputs_differ;
      parted = chosen.parted;
      short = shorter 256 (omega arith) c.chosen.node.eqns (chosen_short types observers node c seen short is);
      names_good = added;
    }

    -- the variables that are told stand behind those of the node
    behind : length c.plant.variables ≤ c.chosen.assume
    behind =
        let w = is.watched in
        let large = larger types observers node is.is_early c.plant w is.is_watched in
        let grows = large.grows in
        let first = ap length (grows.variables).1 ∙ length-append c.plant.variables (grows.variables).0 in
        let bits = bit_variables (length w.node.variables) is.machine in
        let second = length-append w.node.variables bits in
        let third = length-append (w.node.variables ++ bits) (decoded_controls w.node is.machine is.controls).variables in
        let assume = is.assume in
        omega (arith, first, second, third, assume)

    telling_extras : length c.plant.name ≤ 255 → HasExtras (telling c.chosen)
    telling_extras limit =
        let all = chosen_extras in
        let far = behind in
        let low = chosen.inputs in
        let below = chosen.inputs_below in
        let next = is.enforce in
        let same : length c.chosen.node.name ≡ length c.plant.name = ap (λ (x : List ℕ). length x) chosen.name in
        record {
          name = ended_named c.chosen.node.name (codes "$contract") all.name (omega (arith, same, limit)) refl refl (omega arith);
          outputs_behind = all-append (λ x. c.chosen.node.inputs ≤ x) c.chosen.node.outputs (c.chosen.assume ∷ c.chosen.enforce ∷ []) all.outputs_behind (omega (arith, low, below, far), (omega (arith, low, below, far, next), tt));
          outputs_differ = subst (λ y. IsDistinct nat_eq (c.chosen.node.outputs ++ c.chosen.assume ∷ y ∷ [])) (sym next)
              (two_more (length c.plant.variables) c.chosen.assume c.chosen.node.outputs far (subst (AreBelow (length c.plant.variables)) (sym chosen.outputs) chosen.outputs_below) all.outputs_differ);
          parted = all.parted;
          short = all.short;
          names_good = all.names_good;
        }

    own_extras : (cs : List Control) → IsOwn cs c → HasExtras c.own
    own_extras [] own = subst HasExtras (sym own) plant
    own_extras (k ∷ ks) own = subst HasExtras (sym own) chosen_extras

    controller_is : length c.plant.name ≤ 255 → c.plant.name ≡ node.name → HasExtras c.controller
    controller_is limit named =
        let same : is.machine.name ≡ c.plant.name = is.named ∙ sym named in
        let long = ap (λ (x : List ℕ). length x) same in
        controller_extras is.machine c.controller is.controller (subst IsName (sym same) plant.name) (omega (arith, long, limit))

-- ---- all nodes

module _ (types : List ObcType) (observers : Observing) (k : Known) (enums : Enumerations) (seen : ObserversShort observers) where
  of_contract : (node : Node) (o : Option Contract) (c : Contracted) → IsMade types observers node o (contracted c) → IsContracted types observers node c
  of_contract node None c is = absurd is
  of_contract node (Some x) c is = is

  pub all_extras : (items : List Item) (ms : List Made) → AreAllMade types observers items ms → AreMadeOf k (map (lowered_item enums) items) (loop.plants (loops ms)) → EachNode (NodeLettered k) (map (lowered_item enums) items)
      → EachNode (λ (n : Node). length n.name ≤ 255) items → AllByRecursion IsParted (loop.plants (loops ms)) → AllByRecursion (λ (f : FlatNode). AllShort 128 f.eqns) (loop.plants (loops ms)) → AllByRecursion ChoosesSo ms
      → AllByRecursion HasAdded ms → AllByRecursion HasFew (all_nodes ms) → AllByRecursion HasExtras (all_nodes ms)
  all_extras [] [] made of lettered names parted short chosen added few = tt
  all_extras [] (m ∷ ms) made of lettered names parted short chosen added few = absurd made
  all_extras (TypeItem t ∷ items) ms made of lettered names parted short chosen added few = all_extras items ms made of lettered names parted short chosen added few
  all_extras (NodeItem n ∷ items) [] made of lettered names parted short chosen added few = absurd made
  all_extras (NodeItem n ∷ items) (plain f ∷ ms) made of lettered names parted short chosen added few = (
    plant_extras k (lowered_node enums n) f of.0 lettered.0 parted.0 short.0 few.0,
    all_extras items ms made.1 of.1 lettered.1 names.1 parted.1 short.1 chosen.1 added.1 few.1,
  )
  all_extras (NodeItem n ∷ items) (contracted c ∷ ms) made of lettered names parted short chosen added few =
      let is = of_contract n n.contract c made.0 in
      let one = of.0 in
      let named : c.plant.name ≡ n.name = one.name in
      let same = ap (λ (x : List ℕ). length x) named in
      let limit : length c.plant.name ≤ 255 = let l = names.0 in omega (arith, same, l) in
      let plant = plant_extras k (lowered_node enums n) c.plant of.0 lettered.0 parted.0 short.0 (few_before c.plant c.chosen.node added.0 few.1.1.0) in (
        controller_is types observers n c is seen plant short.0 chosen.0 added.0 few.1.1.0 limit named,
        (
          own_extras types observers n c is seen plant short.0 chosen.0 added.0 few.1.1.0 is.controls is.own,
          (telling_extras types observers n c is seen plant short.0 chosen.0 added.0 few.1.1.0 limit, all_extras items ms made.1 of.1 lettered.1 names.1 parted.1 short.1 chosen.1 added.1 few.1.1.1),
        ),
      )
