-- What is made of the nodes of a program, as the compiler's clauses say it.
use Rattle.std.proofs.Common.{◌≡◌, ℕ, zero, suc, ◌+◌, ◌<◌, Bool, true, false, nat_lt, if◌then◌else◌, List, [], ◌∷◌, ◌++◌, length, map, drop, fold, Option, None, Some, refl, sym, ap, ◌∙◌, subst, arith}
use Rattle.std.specs.Prelude.{IsTrue, is_some, slice_get, sum}
use Rattle.std.specs.List.{AllByRecursion}
use Rattle.std.proofs.lemmas.List.{length-append}
use Rattle.std.proofs.lemmas.Option.{get_or_from_slice_get}
use Rattle.hp_obc.specs.Machines.{ObcType}
use Rattle.hp_tree.specs.Meaning.{controls_of}
use Rattle.hp_tree.specs.Programs.{Contract, Node}
use Rattle.hp_tree.specs.declared.program.Item.{Item}
use Rattle.hp_flat.specs.declared.node.FlatTy.{FlatTy}
use Rattle.hp_flat.specs.declared.node.FlatTy.TheVariants as flat
use Rattle.hp_flat.specs.declared.node.Variable.{Variable}
use Rattle.hp_flat.specs.Nodes.{FlatNode}
use Rattle.hp_boolx.specs.Machine.{Machine, IsMachine}
use Rattle.hp_abstract.specs.declared.abstracted.Abstraction.{Abstraction}
use Rattle.hp_watch.specs.Adding.{added_variable, type_of, next_variable, with_copy, with_variable, with_eqn}
use Rattle.hp_watch.specs.Growing.{IsLarger}
use Rattle.hp_watch.proofs.GrowLaws.{larger}
use Rattle.hp_watch.specs.Watching.{Observing, Watched}
use Rattle.hp_controller.specs.declared.decoding.Control.{Control}
use Rattle.hp_controller.specs.declared.decoding.ControlKind.{ControlKind}
use Rattle.hp_controller.specs.declared.decoding.ControlKind.TheVariants.{Truth, Constructor}
use Rattle.hp_controller.specs.Decoding.{HasBits, total_width}
use Rattle.hp_controlled.specs.Choosing.{AreControls, AreNodesOf, AreOfContract, IsChoosing, IsOwn, Suits, Telling, asking, constructor_kind, contract_name, control_kind, controller_name, first_gate, told_outputs}
use Rattle.hp_controlled.specs.Choosing.AreNodesOf.{without_contract, with_contract}
use Rattle.hp_controlled.specs.Choosing.IsOwn.{that_stays, that_chooses}
use Rattle.hp_controlled.specs.Compiled.AreNodes.{of_none, of_a_type, of_a_node}
use Rattle.law_equations.proofs.FollowedLemmas.Passing.{each_first, each_second}
use Rattle.law_equations.proofs.ShapedLemmas.Elements.{all-append}
use Rattle.law_wellmade.specs.Suited.Suited.{HasFew}
use Rattle.law_choices.specs.Adding.Whole.{IsBit, IsWhole}
use Rattle.law_choices.specs.InTurn.Nodes as turn
use Rattle.law_choices.specs.InTurn.Nodes.{Made, Contracted, AreOfTypes, IsContracted, IsMade, IsOfType, nodes_of}
use Rattle.law_choices.specs.InTurn.Nodes.Made.{plain, contracted}
use Rattle.law_controlled.specs.Parts.{with_outputs}
use Rattle.law_controlled.specs.Machines.{AreMadeFrom, IsMadeFrom}
use Rattle.law_controlled.specs.Machines.IsMadeFrom.{itself, a_part}
use Rattle.law_controlled.specs.Names.{Adds}
use Rattle.law_controlled.specs.Program.{AsksIfContracted, AsksItsMachine, HasAdded, MadeNodesLaw}
use Rattle.law_controlled.proofs.AddedLaws.{choosing_adds}

-- ---- controllable variables

same_in : {A : Type 0} (x y : A) → Some x ≡ Some y → x ≡ y
same_in x y e = cc

of_constructor : (types : List ObcType) (t : ℕ) (c : _) (o : Option ObcType) → slice_get types t ≡ o → constructor_kind t o ≡ Some (Constructor c) → IsOfType types (flat.Enum t) (Constructor c)
of_constructor types t c None there e = absurd cc
of_constructor types t c (Some ty) there e = by (nat_lt (length ty.cons) 256) e
  where
    by : (b : Bool) → (if b then Some (Constructor (record { number = t; constructors = length ty.cons })) else None) ≡ Some (Constructor c) → IsOfType types (flat.Enum t) (Constructor c)
    by true q =
        let number : c.number ≡ t = cc in
        let count : c.constructors ≡ length ty.cons = cc in
        (number, count ∙ ap (λ (z : ObcType). length z.cons) (sym (get_or_from_slice_get types t ty (record { name = []; cons = [] }) there)))
    by false q = absurd cc

of_type : (types : List ObcType) (t : FlatTy) (kind : ControlKind) → control_kind types t ≡ Some kind → IsOfType types t kind
of_type types flat.Bool Truth e = tt
of_type types flat.Bool (Constructor c) e = absurd cc
of_type types flat.Int Truth e = absurd cc
of_type types flat.Int (Constructor c) e = absurd cc
of_type types (flat.Enum t) (Constructor c) e = of_constructor types t c (slice_get types t) refl e
of_type types (flat.Enum t) Truth e = absurd (no_truth (slice_get types t) e)
  where
    no_truth : (o : Option ObcType) → constructor_kind t o ≡ Some Truth → ⊥
    no_truth None q = cc
    no_truth (Some ty) q = by (nat_lt (length ty.cons) 256) q
      where
        by : (b : Bool) → (if b then Some (Constructor (record { number = t; constructors = length ty.cons })) else None) ≡ Some Truth → ⊥
        by true q = cc
        by false q = cc

first_of : (vs : List Variable) (i : ℕ) (v : Variable) (rest : List Variable) → drop i vs ≡ v ∷ rest → (slice_get vs i ≡ Some v) × (drop (suc i) vs ≡ rest)
first_of [] zero v rest e = absurd cc
first_of [] (suc i) v rest e = absurd cc
first_of (u ∷ vs) zero v rest e =
    let same : u ≡ v = cc in
    let others : vs ≡ rest = cc in
    (ap (λ (x : Variable). Some x) same, others)
first_of (u ∷ vs) (suc i) v rest e = first_of vs i v rest e

pub of_types : (types : List ObcType) (n : FlatNode) (vs : List Variable) (ws : List ℕ) (cs : List Control) (target : ℕ) → drop target n.variables ≡ vs → AreControls types vs ws cs → AreOfTypes types n target cs
of_types types n vs [] [] target e are = tt
of_types types n vs [] (c ∷ cs) target e are = absurd are
of_types types n [] (w ∷ ws) cs target e are = absurd are
of_types types n (v ∷ vs) (w ∷ ws) [] target e are = absurd are
of_types types n (v ∷ vs) (w ∷ ws) (c ∷ cs) target e are =
    let here = first_of n.variables target v vs e in
    let one = are.0 in
    let next : target + 1 ≡ suc target = omega arith in (
      subst (λ o. IsOfType types (type_of o) c.kind) (sym here.0) (of_type types v.ty c.kind one.kind),
      of_types types n vs ws cs (target + 1) (ap (λ k. drop k n.variables) next ∙ here.1) are.1,
    )

fold-from : (a : ℕ) (ws : List ℕ) → fold (λ x y. x + y) a ws ≡ a + fold (λ x y. x + y) 0 ws
fold-from a [] = omega arith
fold-from a (w ∷ ws) = let one = fold-from (a + w) ws in let two = fold-from (0 + w) ws in omega (arith, one, two)

sum-more : (w : ℕ) (ws : List ℕ) → w + sum ws ≡ sum (w ∷ ws)
sum-more w ws = let more = fold-from (0 + w) ws in omega (arith, more)

-- as many controls as widths, with these widths, and with bits
pub widths_are : (types : List ObcType) (vs : List Variable) (ws : List ℕ) (cs : List Control) → AreControls types vs ws cs → (length cs ≡ length ws) × (total_width cs ≡ sum ws) × AllByRecursion (λ (c : Control). HasBits c.kind c.width) cs
widths_are types vs [] [] are = (refl, refl, tt)
widths_are types vs [] (c ∷ cs) are = absurd are
widths_are types [] (w ∷ ws) cs are = absurd are
widths_are types (v ∷ vs) (w ∷ ws) [] are = absurd are
widths_are types (v ∷ vs) (w ∷ ws) (c ∷ cs) are =
    let rest = widths_are types vs ws cs are.1 in
    let one = are.0 in (
      ap (λ k. suc k) rest.0,
      (λ j. one.width j + rest.1 j) ∙ sum-more w ws,
      (subst (HasBits c.kind) (sym one.width) one.has, rest.2),
    )

-- each control has its width
each_width : (types : List ObcType) (vs : List Variable) (ws : List ℕ) (cs : List Control) → AreControls types vs ws cs → map (λ (c : Control). c.width) cs ≡ ws
each_width types vs [] [] are = refl
each_width types vs [] (c ∷ cs) are = absurd are
each_width types [] (w ∷ ws) cs are = absurd are
each_width types (v ∷ vs) (w ∷ ws) [] are = absurd are
each_width types (v ∷ vs) (w ∷ ws) (c ∷ cs) are =
    let one = are.0 in
    λ j. one.width j ∷ each_width types vs ws cs are.1 j

-- ---- the node that chooses

one_variable_more : (x : ℕ) (n : FlatNode) → next_variable (with_copy x n) ≡ suc (next_variable n)
unfolding with_variable with_eqn
one_variable_more x n =
    let more = length-append n.variables (added_variable (next_variable n) flat.Bool ∷ []) in
    omega (arith, more)

named_as : (x : ℕ) (n : FlatNode) → (with_copy x n).name ≡ n.name
unfolding with_variable with_eqn
named_as x n = refl

gate_there : (w : Watched) (m : Machine) (gate : ℕ) → gate < length m.gates → IsBit w.node m (first_gate w m + gate)
gate_there w m gate below = (omega arith, omega (arith, below))

module _ (types : List ObcType) (observers : Observing) (node : Node) (n : FlatNode) (a : Abstraction) (c : Telling) (machine : IsMachine a.machine) (chooses : IsChoosing types observers node n a c)
    (assume : a.assume < length a.machine.gates) (enforce : a.enforce < length a.machine.gates) where
  abbrev s : Suits types observers node n a
  s = chooses.suits

  abbrev w : Watched
  w = s.watched

  abbrev asks : FlatNode
  asks = asking node.name w a s.controls

  pub whole : IsWhole w.node a.machine (controller_name node.name) w.early w.late s.controls c.node
  whole =
      let is = chooses.is in
      let ordered = is.node in
      record {
        assume = first_gate w a.machine + a.assume;
        enforce = first_gate w a.machine + a.enforce;
        assume_bit = gate_there w a.machine a.assume assume;
        enforce_bit = gate_there w a.machine a.enforce enforce;
        placed = record { name = ordered.name; variables = ordered.variables; inputs = ordered.inputs; outputs = ordered.outputs; eqns = ordered.eqns };
        ranked = ordered.ranked;
      }

  -- it copies the gates of what is assumed and enforced
  copied : (whole.assume ≡ first_gate w a.machine + a.assume) × (whole.enforce ≡ first_gate w a.machine + a.enforce)
  unfolding whole
  copied = (refl, refl)

  -- the node that chooses has the name of its clocked equations
  name_is : IsLarger n w → n.name ≡ node.name → c.node.name ≡ node.name
  name_is larger named =
      let is = chooses.is in
      let ordered = is.node in
      let grows = larger.grows in
      let gates = first_gate w a.machine in
      ordered.name ∙ named_as (gates + a.enforce) (with_copy (gates + a.assume) asks) ∙ named_as (gates + a.assume) asks ∙ grows.name ∙ named

  abbrev made_of : FlatNode → FlatNode → Contracted
  made_of controller own = record { plant = n; controller = controller; own = own; chosen = record { node = c.node; assume = c.assume; enforce = c.enforce } }

  last_own : (own : FlatNode) → turn.IsOwn s.controls (made_of n own) → (controller : FlatNode) → turn.IsOwn s.controls (made_of controller own)
  last_own own h controller = by s.controls h
    where
      by : (cs : List Control) → turn.IsOwn cs (made_of n own) → turn.IsOwn cs (made_of controller own)
      by [] h = h
      by (k ∷ ks) h = h

  numbers : (c.assume ≡ length asks.variables) × (c.enforce ≡ suc c.assume)
  numbers =
      let is = chooses.is in
      let first : c.assume ≡ next_variable asks = is.assume in
      let second : c.enforce ≡ next_variable (with_copy (first_gate w a.machine + a.assume) asks) = is.enforce in
      (first, second ∙ one_variable_more (first_gate w a.machine + a.assume) asks ∙ ap (λ k. suc k) (sym first))

-- ---- nodes

-- what stands for the node, as its machine is made of it: its own clocked equations, where it has nothing to choose
own_made : (node : Node) (n : FlatNode) (c : Telling) (own : FlatNode) (controls : List Control) (controller : FlatNode) → length controls ≡ length (controls_of node.contract) → c.node.name ≡ node.name → IsOwn node n c own
    → (stands : FlatNode) × turn.IsOwn controls (record { plant = n; controller = controller; own = stands; chosen = record { node = c.node; assume = c.assume; enforce = c.enforce } }) × IsMadeFrom stands own
own_made node n c own [] controller count named (that_stays none same) = (n, refl, subst (IsMadeFrom n) (sym same) itself)
own_made node n c own (k ∷ ks) controller count named (that_stays none same) =
    let empty : length (controls_of node.contract) ≡ 0 = ap length none in
    absurd (omega (arith, count, empty))
own_made node n c own [] controller count named (that_chooses some part) = absurd (some (nothing (controls_of node.contract) count))
  where
    nothing : {A : Type 0} (xs : List A) → 0 ≡ length xs → xs ≡ []
    nothing [] e = refl
    nothing (x ∷ xs) e = absurd (omega (arith, e))
own_made node n c own (k ∷ ks) controller count named (that_chooses some part) =
    let same : c.node ≡ with_outputs node.name c.node.outputs c.node = λ j. record { name = named j; variables = c.node.variables; inputs = c.node.inputs; outputs = c.node.outputs; eqns = c.node.eqns } in
    (c.node, refl, a_part c.node own node.name c.node.outputs same part)

-- it has few variables where both have that it may be made of
own_few : (controls : List Control) (c : Contracted) → turn.IsOwn controls c → HasFew c.plant → HasFew c.chosen.node → HasFew c.own
own_few [] c is plant chosen = subst HasFew (sym is) plant
own_few (k ∷ ks) c is plant chosen = subst HasFew (sym is) chosen

-- where variables are added to a node and there are few, it has few
pub few_before : (n other : FlatNode) → Adds n other → HasFew other → HasFew n
few_before n other adds few =
    let long : length other.variables ≡ length n.variables + length adds.more = ap length adds.variables ∙ length-append n.variables adds.more in
    omega (arith, long, few)

contract_made : (types : List ObcType) (observers : Observing) (node : Node) (contract : Option Contract) (c : Contracted) → IsTrue (is_some contract) → IsContracted types observers node c → IsMade types observers node contract (contracted c)
contract_made types observers node None c some is = absurd cc
contract_made types observers node (Some k) c some is = is

-- what is made of one node
pub record OneMade (program : List Item) (types : List ObcType) (observers : Observing) (node : Node) (n : FlatNode) (these : List FlatNode) : Type 0 where
  pub made : Made
  pub is : IsMade types observers node node.contract made
  pub asks : AsksIfContracted program types observers node made
  pub plant : (turn.loop_of made).plant ≡ n
  pub from : AreMadeFrom (nodes_of made) these
  pub added : HasAdded made
  pub few : AllByRecursion HasFew these → AllByRecursion HasFew (nodes_of made)

-- what is made of a node with a contract
module _ (program : List Item) (types : List ObcType) (observers : Observing) (node : Node) (n controller own told : FlatNode) (named : n.name ≡ node.name) (are : AreOfContract program types observers node n controller own told) where
  abbrev pub its : Abstraction
  its = are.abstraction

  abbrev pub choosing : Telling
  choosing = let chosen = are.chosen in chosen.choosing

  abbrev pub made_choosing : IsChoosing types observers node n its choosing
  made_choosing = let chosen = are.chosen in chosen.is_choosing

  abbrev pub suited : Suits types observers node n its
  suited = made_choosing.suits

  pub widths : (length suited.controls ≡ length its.machine.widths) × (total_width suited.controls ≡ sum its.machine.widths) × AllByRecursion (λ (k : Control). HasBits k.kind k.width) suited.controls
  widths = widths_are types (drop (length node.inputs) n.variables) its.machine.widths suited.controls suited.are

  abbrev pub assume_there : its.assume < length its.machine.gates
  assume_there = let drawn = are.is_abstraction in let assume = drawn.assume in assume.there

  abbrev pub enforce_there : its.enforce < length its.machine.gates
  enforce_there = let drawn = are.is_abstraction in let enforce = drawn.enforce in enforce.there

  pub chosen_named : choosing.node.name ≡ node.name
  chosen_named =
      let sees = suited.sees in
      name_is types observers node n its choosing are.is_machine made_choosing assume_there enforce_there (larger types observers node (map (λ g. g.is_early) its.given.items) n suited.watched sees.is_watched) named

  pub count : length suited.controls ≡ length (controls_of node.contract)
  count = widths.0 ∙ suited.widths

  pub own_is : (stands : FlatNode) × turn.IsOwn suited.controls (record { plant = n; controller = controller; own = stands; chosen = record { node = choosing.node; assume = choosing.assume; enforce = choosing.enforce } }) × IsMadeFrom stands own
  own_is = let chosen = are.chosen in own_made node n choosing own suited.controls controller count chosen_named chosen.itself

  pub places : (choosing.assume ≡ length (asking node.name suited.watched its suited.controls).variables) × (choosing.enforce ≡ suc choosing.assume)
  places = numbers types observers node n its choosing are.is_machine made_choosing assume_there enforce_there

  abbrev pub it : Contracted
  it = record { plant = n; controller = controller; own = own_is.0; chosen = record { node = choosing.node; assume = choosing.assume; enforce = choosing.enforce } }

  abbrev pub is_contracted : IsContracted types observers node it
  is_contracted =
      let sees = suited.sees in
      let drawn = are.is_abstraction in
      let its_machine = drawn.machine in
      let machine = are.is_machine in
      record {
        machine = its.machine;
        is_machine = machine;
        named = its_machine.named;
        controller = are.controls;
        controls = suited.controls;
        count = count;
        kinds = of_types types n (drop (length node.inputs) n.variables) its.machine.widths suited.controls (length node.inputs) refl suited.are;
        bits = widths.2;
        widths = widths.1 ∙ machine.widths;
        is_early = map (λ g. g.is_early) its.given.items;
        watched = suited.watched;
        is_watched = sees.is_watched;
        early = sees.early;
        whole = whole types observers node n its choosing machine made_choosing assume_there enforce_there;
        assume = places.0;
        enforce = places.1;
        own = own_is.1;
      }

one_made : (program : List Item) (types : List ObcType) (observers : Observing) (node : Node) (n : FlatNode) (these : List FlatNode) → n.name ≡ node.name → AreNodesOf program types observers node n these → OneMade program types observers node n these
one_made program types observers node n these named (without_contract none) = record { made = plain n; is = subst (λ k. IsMade types observers node k (plain n)) (sym none) tt; asks = tt; plant = refl; from = (itself, tt); added = tt; few = λ h. h }
one_made program types observers node n these named (with_contract controller own told some are) =
    let a = are.abstraction in
    let chosen = are.chosen in
    let c = chosen.choosing in
    let chooses = chosen.is_choosing in
    let s = chooses.suits in
    let made = it program types observers node n controller own told named are in
    let is = is_contracted program types observers node n controller own told named are in
    let stands = own_is program types observers node n controller own told named are in
    let name = chosen_named program types observers node n controller own told named are in
    let drawn = are.is_abstraction in
    let machine = are.is_machine in
    let assume = drawn.assume in
    let enforce = drawn.enforce in
    let gates = copied types observers node n a c machine chooses assume.there enforce.there in
    let asks : AsksItsMachine program types observers node made = record {
      is = is;
      abstraction = a;
      is_abstraction = drawn;
      machine = refl;
      flags = refl;
      widths = each_width types (drop (length node.inputs) n.variables) a.machine.widths s.controls s.are;
      assume = gates.0;
      enforce = gates.1;
    } in
    let adds : Adds n c.node = choosing_adds types observers node n a c chooses in
    let told_name : turn.telling made.chosen ≡ with_outputs (contract_name node.name) (told_outputs c) c.node =
    λ j. record { name = contract_name (name j); variables = c.node.variables; inputs = c.node.inputs; outputs = told_outputs c; eqns = c.node.eqns } in
    record {
      made = contracted made;
      is = contract_made types observers node node.contract made some is;
      asks = asks;
      plant = refl;
      from = (itself, (stands.2, (a_part c.node told (contract_name node.name) (told_outputs c) told_name chosen.tells, tt)));
      added = adds;
      few = λ h. (h.0, (own_few s.controls made stands.1 (few_before n c.node adds chosen.few) chosen.few, (chosen.few, tt)));
    }

-- ---- programs

from_both : (ws ns vs ms : List FlatNode) → AreMadeFrom ws ns → AreMadeFrom vs ms → AreMadeFrom (ws ++ vs) (ns ++ ms)
from_both [] [] vs ms h k = k
from_both [] (n ∷ ns) vs ms h k = absurd h
from_both (w ∷ ws) [] vs ms h k = absurd h
from_both (w ∷ ws) (n ∷ ns) vs ms h k = (h.0, from_both ws ns vs ms h.1 k)

pub made_nodes : MadeNodesLaw
made_nodes program types observers k enums items [] nodes made of_none = record { all = []; made = tt; ask = tt; are_plants = refl; from = tt; added = tt; few = λ h. tt }
made_nodes program types observers k enums items (p ∷ plants) nodes made of_none = absurd made
made_nodes program types observers k enums items plants nodes made (of_a_type {items = rest} t are) =
    let more = made_nodes program types observers k enums rest plants nodes made are in
    record { all = more.all; made = more.made; ask = more.ask; are_plants = more.are_plants; from = more.from; added = more.added; few = more.few }
made_nodes program types observers k enums items plants nodes made (of_a_node {items = rest} {ns = others} {all = behind} node n these are_these are) =
    let first = made.0 in
    let one = one_made program types observers node n these first.name are_these in
    let more = made_nodes program types observers k enums rest others behind made.1 are in
    record {
      all = one.made ∷ more.all;
      made = (one.is, more.made);
      ask = (one.asks, more.ask);
      are_plants = λ j. one.plant j ∷ more.are_plants j;
      from = from_both (nodes_of one.made) these (turn.all_nodes more.all) behind one.from more.from;
      added = (one.added, more.added);
      few = λ h. all-append HasFew (nodes_of one.made) (turn.all_nodes more.all) (one.few (each_first HasFew these behind h)) (more.few (each_second HasFew these behind h));
    }
