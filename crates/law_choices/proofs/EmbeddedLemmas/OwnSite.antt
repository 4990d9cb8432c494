-- The observer of a node's own contract goes on as by itself in the node that chooses.
use Rattle.std.proofs.Common.{◌≡◌, ◌⊎◌, inl, inr, ℕ, suc, ◌+◌, ◌<◌, ◌≤◌, Bool, true, false, nat_eq, List, [], ◌∷◌, ◌++◌, length, map, Option, None, Some, slice_get, refl, sym, ap, subst, ◌∙◌, arith}
use Rattle.std.specs.Prelude.{zero}
use Rattle.std.specs.List.{AllByRecursion, range_with_len}
use Rattle.std.proofs.lemmas.Bool.Decides.{nat_tests}
use Rattle.std.proofs.lemmas.List.{append_assoc, append-nil, length-append, length-map}
use Rattle.std.proofs.lemmas.List.FromFn.{length-range_with_len}
use Rattle.hp_base.specs.Kinds.{KindData}
use Rattle.hp_base.specs.declared.value.Value.{Value}
use Rattle.hp_boolx.specs.Machine.{Machine}
use Rattle.hp_obc.specs.Machines.{ObcType}
use Rattle.hp_tree.specs.Programs.{Node}
use Rattle.hp_flat.specs.declared.equation.Atom.{Atom}
use Rattle.hp_flat.specs.declared.node.Variable.{Variable}
use Rattle.hp_flat.specs.Equations.{Clock, FlatEqn}
use Rattle.hp_flat.specs.Nodes.{FlatNode}
use Rattle.law_equations.specs.Meaning.Instants.{Instant, atoms, history}
use Rattle.law_equations.specs.Meaning.Kinding.{Callees, HaveKinds, variable_kind}
use Rattle.law_equations.specs.Meaning.Reactions.{Answers, Reaction, inputs_of}
use Rattle.law_equations.specs.Meaning.Scheduling.{AreBelow, EqnWithin, IsWithin}
use Rattle.hp_controller.specs.declared.decoding.Control.{Control}
use Rattle.hp_controller.specs.Extending.{Extends}
use Rattle.hp_watch.specs.Embedding.{Site, embedded, moved_all, moved_eqn}
use Rattle.hp_watch.specs.Watching.{Observed, Observing, Placed, Watched, called_by, own_site, placed, reads, site_of, with_called, with_observer}
use Rattle.law_choices.specs.Adding.Keeping.{Keeps}
use Rattle.law_choices.specs.Adding.Surveyed.{Suits}
use Rattle.law_choices.specs.Adding.Whole.{IsWhole, MayChoose}
use Rattle.law_choices.specs.Embedded.Sites.{Holds as IsHeld, IsElsewhere, moved_in}
use Rattle.law_choices.specs.InTurn.Nodes.{Contracted}
use Rattle.law_choices.proofs.AddingLemmas.Adding.{both}
use Rattle.law_choices.proofs.AddingLemmas.Embeds.{embedded-eqns, embedded-many, input_eqns}
use Rattle.law_choices.proofs.AddingLemmas.One.{grows-length}
use Rattle.law_choices.proofs.AddingLemmas.Placed.{placed_reaction_law}
use Rattle.law_choices.proofs.AddingLemmas.Whole as whole_node
use Rattle.law_choices.proofs.ClosedLemmas.ClosedLaws.{each_other}
use Rattle.law_choices.proofs.EmbeddedLemmas.Sites.{site-runs}
use Rattle.law_choices.proofs.InTurnLemmas.Contracted.{Ground, NodeLaws}
use Rattle.law_choices.proofs.PlayingLemmas.Asking.{bits, controls, made, made_inputs, machine, many_variables, may, name, seen, survey, whole}

-- ---- nodes with more equations

-- an equation defines some of the first variables, or such as a node does not have
abbrev pub IsFresh : ℕ → FlatNode → FlatEqn → Type 0
IsFresh low n e = AllByRecursion (λ x. (x < low) ⊎ (length n.variables ≤ x)) e.targets

-- The other node has more variables, and more equations, which are fresh.
pub record HasMore (low : ℕ) (n other : FlatNode) : Type 0 where
  pub more : List FlatEqn
  pub eqns : other.eqns ≡ n.eqns ++ more
  pub longer : length n.variables ≤ length other.variables
  pub fresh : AllByRecursion (IsFresh low n) more

pub more-self : (low : ℕ) (n : FlatNode) → HasMore low n n
more-self low n = record { more = []; eqns = sym (append-nil n.eqns); longer = omega arith; fresh = tt }

pub more-both : (low : ℕ) (n m k : FlatNode) → HasMore low n m → HasMore low m k → HasMore low n k
more-both low n m k a b = record {
  more = a.more ++ b.more;
  eqns = b.eqns ∙ ap (λ es. es ++ b.more) a.eqns ∙ append_assoc n.eqns a.more b.more;
  longer = let l = a.longer in let u = b.longer in omega (arith, l, u);
  fresh = both (IsFresh low n) a.more b.more a.fresh (each_other (IsFresh low m) (IsFresh low n) (λ e h. each_other (λ x. (x < low) ⊎ (length m.variables ≤ x)) (λ x. (x < low) ⊎ (length n.variables ≤ x)) lower e.targets h) b.more b.fresh);
}
  where
    lower : (x : ℕ) → (x < low) ⊎ (length m.variables ≤ x) → (x < low) ⊎ (length n.variables ≤ x)
    lower x (inl l) = inl l
    lower x (inr l) = let u = a.longer in inr (omega (arith, l, u))

-- ---- an observer among the equations

module _ (low : ℕ) (o : FlatNode) (site : Site) (n : FlatNode) where
  abbrev V : ℕ
  V = length n.variables

  copies-fresh : (target : ℕ) (args : List Atom) → V ≤ target → AllByRecursion (IsFresh low n) (input_eqns site.clock target args)
  unfolding input_eqns
  copies-fresh target [] l = tt
  copies-fresh target (a ∷ args) l = ((inr l, tt), copies-fresh (target + 1) args (omega (arith, l)))

  targets-fresh : (xs : List ℕ) → AllByRecursion (λ x. (x < low) ⊎ (V ≤ x)) (moved_all V xs)
  targets-fresh [] = tt
  targets-fresh (x ∷ xs) = (inr (omega arith), targets-fresh xs)

  moved-fresh : (es : List FlatEqn) → AllByRecursion (IsFresh low n) (map (moved_eqn site V) es)
  moved-fresh [] = tt
  moved-fresh (e ∷ es) = (targets-fresh e.targets, moved-fresh es)

  pub embedded-more : HasMore low n (embedded o site n)
  embedded-more = record {
    more = input_eqns site.clock V site.inputs ++ map (moved_eqn site V) o.eqns;
    eqns = embedded-eqns o site n;
    longer = let e = embedded-many o site n in omega (arith, e);
    fresh = both (IsFresh low n) (input_eqns site.clock V site.inputs) (map (moved_eqn site V) o.eqns) (copies-fresh V site.inputs (omega arith)) (moved-fresh o.eqns);
  }

  -- so the observer stands in each node with more
  pub stands-in : (m : FlatNode) → HasMore low (embedded o site n) m → low ≤ V → m.inputs ≤ V → o.inputs ≡ length site.inputs → AllByRecursion (λ (e : FlatEqn). AreBelow V e.targets) n.eqns → IsWithin o → IsHeld o n m site
  stands-in m h few inputs many below within = record {
    more = h.more;
    eqns = h.eqns;
    few = inputs;
    inputs = many;
    below = below;
    within = within;
    apart = each_other (IsFresh low (embedded o site n)) (λ (e : FlatEqn). AllByRecursion (IsElsewhere o n) e.targets) (λ e g. each_other (λ x. (x < low) ⊎ (length (embedded o site n).variables ≤ x)) (IsElsewhere o n) elsewhere e.targets g) h.more h.fresh;
  }
    where
      elsewhere : (x : ℕ) → (x < low) ⊎ (length (embedded o site n).variables ≤ x) → IsElsewhere o n x
      elsewhere x (inl l) = inl (omega (arith, l, few))
      elsewhere x (inr l) = let e = embedded-many o site n in inr (omega (arith, l, e))

-- ---- the observers of calls

module _ (low : ℕ) (observers : Observing) where
  observer-more : (u : Option Observed) (site : Site) (p : Placed) → HasMore low p.node (with_observer u site p).node
  observer-more None site p = more-self low p.node
  observer-more (Some o) site p = embedded-more low o.node site p.node

  called-more : (u : Option FlatEqn) (p : Placed) → HasMore low p.node (with_called observers u p).node
  called-more None p = observer-more None (record { clock = []; restart = []; inputs = [] }) p
  called-more (Some e) p = observer-more (called_by observers e.right) (site_of e) p

  -- the observers of more calls are more
  pub placed-more : (n : FlatNode) (m k : ℕ) → k ≤ m → HasMore low (placed observers k n).node (placed observers m n).node
  placed-more n zero k l = let none : zero ≡ k = omega (arith, l) in subst (λ j. HasMore low (placed observers j n).node n) none (more-self low n)
  placed-more n (suc m) k l = by (nat_eq k (suc m)) refl (placed-more n m k)
    where
      by : (b : Bool) → nat_eq k (suc m) ≡ b → (k ≤ m → HasMore low (placed observers k n).node (placed observers m n).node) → HasMore low (placed observers k n).node (placed observers (suc m) n).node
      by true q before = let same : suc m ≡ k = grind (arith, nat_tests, q) in subst (λ j. HasMore low (placed observers j n).node (placed observers (suc m) n).node) same (more-self low (placed observers (suc m) n).node)
      by false q before =
          let p = placed observers m n in
          let below : k ≤ m = grind (arith, nat_tests, q, l) in
          more-both low (placed observers k n).node p.node (placed observers (suc m) n).node (before below) (called-more (slice_get p.node.eqns m) p)

-- ---- numbers

pub kinds-long : (types : List ObcType) (callees : Callees) (vs : List Variable) (args : List Atom) (ks : List KindData) → HaveKinds types callees vs args ks → length args ≡ length ks
kinds-long types callees vs [] [] h = refl
kinds-long types callees vs [] (k ∷ ks) h = absurd h
kinds-long types callees vs (a ∷ args) [] h = absurd h
kinds-long types callees vs (a ∷ args) (k ∷ ks) h = ap (λ j. suc j) (kinds-long types callees vs args ks h.1)

pub reads-long : (xs : List ℕ) → length (reads xs) ≡ length xs
reads-long [] = refl
reads-long (x ∷ xs) = ap (λ j. suc j) (reads-long xs)

pub inputs-many : (types : List ObcType) (callees : Callees) (f : List ℕ) (o : Observed) → Suits types callees f o → (o.node).inputs ≡ length (callees.takes f) + length (callees.gives f)
inputs-many types callees f o s =
    sym (length-range_with_len 0 (o.node).inputs) ∙ sym (length-map (inputs_of o.node) (variable_kind types (o.node).variables)) ∙ ap length s.takes ∙ length-append (callees.takes f) (callees.gives f)

history-base : (A : Type 0) (f : Instant → A) (past : List Instant) → history [] [] f past ≡ map f past
history-base A f [] = refl
history-base A f (i ∷ past) = ap (λ h. f i ∷ h) (history-base A f past)

-- ---- the node that chooses

module _ (laws : NodeLaws) (types : List ObcType) (all : Callees) (observers : Observing) (n : Node) (c : Contracted) (g : Ground types all observers n c) where
  -- the observer of the contract, where it stands, and the node with it
  abbrev pub own : Observed
  own = (((g.is).is_watched).fits).own

  abbrev pub site : Site
  site = own_site (length n.inputs) c.plant

  abbrev pub begun : FlatNode
  begun = embedded own.node site c.plant

  -- how many variables stand before it
  abbrev pub far : ℕ
  far = length c.plant.variables

  -- ---- the node with its observers, the one with bits, and the one that asks the controller

  abbrev first : FlatNode
  first = (survey laws types all observers n c g).node

  abbrev watched : Watched
  watched = made laws types all observers n c g

  abbrev clocks : ℕ → Clock
  clocks = ((seen laws types all observers n c g).keeps).clocks

  abbrev asked : Machine
  asked = machine laws types all observers n c g

  abbrev called_as : List ℕ
  called_as = name laws types all observers n c g

  abbrev chooses : List Control
  chooses = controls laws types all observers n c g

  abbrev with_bits : Keeps types all clocks first watched.node
  with_bits = (bits laws types all observers n c g).keeps

  abbrev can : MayChoose types all with_bits.clocks watched.node asked called_as watched.early watched.late chooses
  can = may laws types all observers n c g

  abbrev is_whole : IsWhole watched.node asked called_as watched.early watched.late chooses c.chosen.node
  is_whole = whole laws types all observers n c g

  -- the node that chooses, its equations in another order
  abbrev pub told : FlatNode
  told = whole_node.closed types all clocks first watched.node c.chosen.node asked called_as watched.early watched.late chooses with_bits can is_whole

  pub told-runs : (answers : Answers) (rows : List (List Value)) (instants : List Instant) → Reaction answers c.chosen.node rows instants → Reaction answers told rows instants
  told-runs answers rows instants reaction = placed_reaction_law told c.chosen.node is_whole.placed answers rows instants reaction

  bits-more : HasMore c.plant.inputs first watched.node
  bits-more =
      let r = with_bits.grows in
      record {
        more = (r.eqns).0;
        eqns = (r.eqns).1;
        longer = grows-length first watched.node r;
        fresh = each_other (λ (e : FlatEqn). AllByRecursion (λ x. length first.variables ≤ x) e.targets) (IsFresh c.plant.inputs first)
            (λ e h. each_other (λ x. length first.variables ≤ x) (λ x. (x < c.plant.inputs) ⊎ (length first.variables ≤ x)) (λ x l. inr l) e.targets h) (r.eqns).0 with_bits.fresh;
      }

  extends : Extends watched.node told (length chooses) (whole_node.more types all clocks first watched.node c.chosen.node asked called_as watched.early watched.late chooses with_bits can is_whole)
  extends = whole_node.extends types all clocks first watched.node c.chosen.node asked called_as watched.early watched.late chooses with_bits can is_whole

  pub told-inputs : told.inputs ≤ c.plant.inputs
  told-inputs = let e = extends in let i = e.inputs in let same = made_inputs laws types all observers n c g in omega (arith, i, same)

  asked-more : HasMore c.plant.inputs watched.node told
  asked-more =
      let e = extends in
      let asking = whole_node.asking types all clocks first watched.node c.chosen.node asked called_as watched.early watched.late chooses with_bits can is_whole in
      let copies = whole_node.copies types all clocks first watched.node c.chosen.node asked called_as watched.early watched.late chooses with_bits can is_whole in
      let more = whole_node.more types all clocks first watched.node c.chosen.node asked called_as watched.early watched.late chooses with_bits can is_whole in
      record {
        more = more;
        eqns = e.eqns;
        longer = let l = many_variables laws types all observers n c g in let m = grows-length asking told copies.grows in omega (arith, l, m);
        fresh = subst (λ i. AllByRecursion (λ (d : FlatEqn). AllByRecursion (λ x. (x < i) ⊎ (length watched.node.variables ≤ x)) d.targets) more) (made_inputs laws types all observers n c g) e.targets;
      }

  -- Of the observers of calls the first so many are there.
  pub told-more : (k : ℕ) → k ≤ length c.plant.eqns → HasMore c.plant.inputs (placed observers k begun).node told
  told-more k l =
      more-both c.plant.inputs (placed observers k begun).node first told (placed-more c.plant.inputs observers begun (length c.plant.eqns) k l) (more-both c.plant.inputs first watched.node told bits-more asked-more)

  -- ---- the own observer

  pub plant-inputs : c.plant.inputs ≤ far
  plant-inputs = let i = (((g.of_node).based).well).within in i.inputs

  pub plant-below : AllByRecursion (λ (e : FlatEqn). AreBelow far e.targets) c.plant.eqns
  plant-below = let i = (((g.of_node).based).well).within in each_other (EqnWithin far) (λ (e : FlatEqn). AreBelow far e.targets) (λ e w. w.targets) c.plant.eqns i.eqns

  pub own-suits : Suits types all c.plant.name own
  own-suits = g.suit c.plant.name own (((g.is).is_watched).fits).has

  pub own-within : IsWithin own.node
  own-within = let s = own-suits in ((s.based).well).within

  pub own-inputs : (own.node).inputs ≡ length site.inputs
  own-inputs =
      let o = g.of_node in
      let xs = range_with_len 0 (length n.inputs) in
      let takes = ap length o.takes ∙ length-map xs (variable_kind types c.plant.variables) in
      let gives = ap length o.gives ∙ length-map c.plant.outputs (variable_kind types c.plant.variables) in
      let many = inputs-many types all c.plant.name own own-suits in
      let both_long = length-append (reads xs) (reads c.plant.outputs) in
      let first = reads-long xs in
      let second = reads-long c.plant.outputs in
      omega (arith, takes, gives, many, both_long, first, second)

  own-stands : IsHeld own.node c.plant told site
  own-stands =
      let few = told-inputs in
      let low = plant-inputs in
      stands-in c.plant.inputs own.node site c.plant told (told-more 0 (omega arith)) low (omega (arith, few, low)) own-inputs plant-below own-within

  -- It goes on as by itself.
  pub own-runs : (answers : Answers) (rows : List (List Value)) (instants : List Instant) → Reaction answers c.chosen.node rows instants
      → Reaction answers own.node (map (λ i. atoms i site.inputs) instants) (map (moved_in (length (own.node).variables) far) instants)
  own-runs answers rows instants reaction =
      let W = length (own.node).variables in
      let runs = site-runs answers own.node c.plant told site own-stands rows instants (told-runs answers rows instants reaction) in
      subst (λ is. Reaction answers own.node (map (λ i. atoms i site.inputs) instants) is) (history-base Instant (moved_in W far) instants)
      (subst (λ rs. Reaction answers own.node rs (history [] [] (moved_in W far) instants)) (history-base (List Value) (λ i. atoms i site.inputs) instants) runs)
