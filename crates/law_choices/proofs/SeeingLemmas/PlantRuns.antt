-- Each reaction of the node that chooses is, in the first variables, a reaction of the equations of the node itself, over the values that are chosen.
use Rattle.std.proofs.Common.{◌≡◌, ◌⊎◌, inr, ℕ, ◌<◌, ◌≤◌, List, length, map, sym, ap, subst, ◌∙◌, arith}
use Rattle.std.specs.List.{AllByRecursion}
use Rattle.std.proofs.lemmas.List.{length-append}
use Rattle.hp_base.specs.declared.value.Value.{Value}
use Rattle.hp_obc.specs.Machines.{ObcType}
use Rattle.hp_tree.specs.Programs.{Node}
use Rattle.hp_flat.specs.Equations.{Clock, FlatEqn}
use Rattle.hp_flat.specs.Nodes.{FlatNode}
use Rattle.law_equations.specs.Meaning.Instants.{Instant}
use Rattle.law_equations.specs.Meaning.Kinding.{Callees}
use Rattle.law_equations.specs.Meaning.Reactions.{Answers, Reaction}
use Rattle.hp_controller.specs.Extending.{Extends, ExtendedLaw, cut, rows_with}
use Rattle.hp_watch.specs.Watching.{Observing}
use Rattle.law_choices.specs.Adding.Keeping.{IsBased, Keeps}
use Rattle.law_choices.specs.InTurn.Nodes.{Contracted}
use Rattle.law_choices.proofs.AddingLemmas.One.{keeps-both}
use Rattle.law_choices.proofs.AddingLemmas.Placed.{placed_reaction_law}
use Rattle.law_choices.proofs.AddingLemmas.Whole as whole_node
use Rattle.law_choices.proofs.ClosedLemmas.ClosedLaws.{each_other}
use Rattle.law_choices.proofs.InTurnLemmas.Contracted.{Ground, NodeLaws}
use Rattle.law_choices.proofs.PlayingLemmas.Asking.{bits, chosen, controls, cut-below, made, machine, may, name, seen, survey, whole}
use Rattle.law_choices.proofs.PlayingLemmas.Steering.{no-more}

-- a node with more extends it
keeps-extends : (types : List ObcType) (callees : Callees) (clock : ℕ → Clock) (n other : FlatNode) → IsBased types callees clock n → (k : Keeps types callees clock n other) → Extends n other 0 (k.grows.eqns).0
keeps-extends types callees clock n other b k =
    let g = k.grows in
    let i = b.well.within in
    record {
      inputs = let q = g.inputs in omega (arith, q);
      variables = i.inputs;
      within = i.eqns;
      eqns = let e = g.eqns in e.1;
      targets = each_other (λ (e : FlatEqn). AllByRecursion (λ x. length n.variables ≤ x) e.targets) (λ (e : FlatEqn). AllByRecursion (λ x. (x < n.inputs) ⊎ (length n.variables ≤ x)) e.targets)
          (λ e h. each_other (λ x. length n.variables ≤ x) (λ x. (x < n.inputs) ⊎ (length n.variables ≤ x)) (λ x l. inr l) e.targets h) (g.eqns).0 k.fresh;
    }

module _ (laws : NodeLaws) (types : List ObcType) (all : Callees) (observers : Observing) (n : Node) (c : Contracted) (g : Ground types all observers n c) where
  abbrev first : FlatNode
  first = (survey laws types all observers n c g).node

  abbrev watched : FlatNode
  watched = (made laws types all observers n c g).node

  abbrev count : ℕ
  count = length (controls laws types all observers n c g)

  -- the first variables of an instant, and of some
  abbrev pub first_of : Instant → Instant
  first_of i = cut (length c.plant.variables) (cut (length watched.variables) i)

  abbrev pub in_first : List Instant → List Instant
  in_first instants = map (cut (length c.plant.variables)) (map (cut (length watched.variables)) instants)

  keeps : Keeps types all g.clock c.plant watched
  keeps = keeps-both types all c.plant first watched g.clock (seen laws types all observers n c g).keeps (bits laws types all observers n c g).keeps

  pub first-same : (i : Instant) (x : ℕ) → x < length c.plant.variables → first_of i x ≡ i x
  first-same i x l =
      let v = (keeps.grows).variables in
      let e = ap length v.1 in
      let long = length-append c.plant.variables v.0 in
      cut-below (length c.plant.variables) (cut (length watched.variables) i) x l ∙ cut-below (length watched.variables) i x (omega (arith, l, e, long))

  pub plant-runs : ExtendedLaw → (answers : Answers) (rows : List (List Value)) (instants : List Instant) → Reaction answers c.chosen.node rows instants → Reaction answers c.plant (rows_with c.chosen.node.inputs count rows instants) (in_first instants)
  plant-runs extended answers rows instants reaction =
      let s = seen laws types all observers n c g in
      let b = bits laws types all observers n c g in
      let m = machine laws types all observers n c g in
      let f = name laws types all observers n c g in
      let w = made laws types all observers n c g in
      let cs = controls laws types all observers n c g in
      let can = may laws types all observers n c g in
      let is = whole laws types all observers n c g in
      let told = whole_node.closed types all (s.keeps).clocks first watched c.chosen.node m f w.early w.late cs b.keeps can is in
      let more = whole_node.more types all (s.keeps).clocks first watched c.chosen.node m f w.early w.late cs b.keeps can is in
      let one = placed_reaction_law told c.chosen.node is.placed answers rows instants reaction in
      let two = extended answers watched told count more (whole_node.extends types all (s.keeps).clocks first watched c.chosen.node m f w.early w.late cs b.keeps can is) rows instants one in
      let inputs = (is.placed).inputs in
      let three : Reaction answers watched (rows_with c.chosen.node.inputs count rows instants) (map (cut (length watched.variables)) instants) =
      subst (λ i. Reaction answers watched (rows_with i count rows instants) (map (cut (length watched.variables)) instants)) (sym inputs) two in
      let rows' = rows_with c.chosen.node.inputs count rows instants in
      let is' = map (cut (length watched.variables)) instants in
      let four = extended answers c.plant watched 0 ((keeps.grows.eqns).0) (keeps-extends types all g.clock c.plant watched (g.of_node).based keeps) rows' is' three in
      subst (λ rs. Reaction answers c.plant rs (in_first instants)) (no-more answers watched watched.inputs rows' is' three) four
