-- Node by node, machines have no more instances than are counted of the program.
use Rattle.std.proofs.Common.{◌≡◌, ◌≤◌, ℕ, suc, ◌+◌, Bool, true, false, if◌then◌else◌, List, [], ◌∷◌, map, refl, sym, ap, subst, ◌∙◌, arith}
use Rattle.std.specs.Prelude.{Contains}
use Rattle.std.specs.Str.{bytes_eq}
use Rattle.std.specs.List.Sorted.{IsPermutation}
use Rattle.std.proofs.lemmas.Slice.Eq.{bytes_eq-Decides}
use Rattle.hp_tree.specs.declared.program.Item.{Item}
use Rattle.hp_tree.specs.declared.program.Item.TheVariants.{TypeItem, NodeItem}
use Rattle.hp_tree.specs.Programs.{Node}
use Rattle.hp_names.specs.Scopes.{behind}
use Rattle.hp_names.specs.Rules.{ItemsAreNamed}
use Rattle.law_judged.specs.Named.Scoped.{EachNode}
use Rattle.law_judged.proofs.NamedLemmas.Sets.{kept_name, new_name}
use Rattle.hp_expand.specs.Sizes as sizes
use Rattle.hp_expand.specs.Formed.{IsWithin, AreWithin}
use Rattle.hp_expand.specs.Numbering.{replaced_node, with_node, replaced_items}
use Rattle.hp_meaning.specs.Clocking.Clocking.{Assignment, node_with_clocks, in_body}
use Rattle.hp_clocks.specs.Writing.{AreWritten}
use Rattle.hp_clocks.specs.Answers.{IsClocked}
use Rattle.hp_automata.specs.Lowering.{Enumerations, lowered_node, lowered_item}
use Rattle.law_automata.proofs.LowerableLemmas.Neat.{NodeNeat}
use Rattle.hp_flat.specs.Equations.{FlatEqn}
use Rattle.hp_flat.specs.Nodes.{FlatNode}
use Rattle.law_equations.specs.Made.Making.{Known, sketch_node}
use Rattle.law_equations.specs.Made.Laws.{unplaced}
use Rattle.hp_complete.specs.Made.{IsMadeOf, AreMadeOf}
use Rattle.hp_normal.specs.Normal.{normal}
use Rattle.hp_normal.specs.Retargeting.{with_eqns}
use Rattle.hp_toobc.specs.Making.{insts}
use Rattle.hp_obc.specs.Machines.{ObcType, Machine}
use Rattle.hp_obc.specs.Steps.{Names, given}
use Rattle.hp_machines.specs.Making.{defines_some, giving, IsMachineOf, AreMade}
use Rattle.hp_exec.specs.Bounds.{numbers_behind}
use Rattle.law_history.specs.Counted.Counted.{in_block, in_flat, in_instances}
use Rattle.law_history.proofs.CountedLemmas.Made.{made_law}
use Rattle.law_history.proofs.CountedLemmas.Lowered.{lowered_law}
use Rattle.law_history.proofs.CountedLemmas.Clocks.{block_clocked}
use Rattle.law_history.proofs.CountedLemmas.Machines.{instances_flat, filtered, mapped, normal_counts}
use Rattle.law_history.proofs.CountedLemmas.Replaced.{Size, Measures, weight_in, node_less, body_counted}
use Rattle.law_history.proofs.CountedLemmas.Settled.{Scope, body_same}

-- ---- what is counted of the nodes of some names, behind the last item

abbrev Table : Type 0
Table = List ℕ → Size

abbrev pub final : Table → List Item → Table
final known [] = known
final known (TypeItem t ∷ items) = final known items
final known (NodeItem n ∷ items) = final (sizes.with_node known n.name (sizes.in_node known n)) items

-- a node of another name leaves what is known
with_other : (known : Table) (x : List ℕ) (s : Size) (f : List ℕ) → (x ≡ f → ⊥) → sizes.with_node known x s f ≡ known f
with_other known x s f h = by (bytes_eq x f) refl
  where
    by : (b : Bool) → bytes_eq x f ≡ b → (if b then s else known f) ≡ known f
    by true e = absurd (h ((bytes_eq-Decides x f).0 e))
    by false e = refl

with_itself : (known : Table) (x : List ℕ) (s : Size) → sizes.with_node known x s x ≡ s
with_itself known x s = ap (λ (b : Bool). if b then s else known x) ((bytes_eq-Decides x x).1 refl)

known_stays : (items : List Item) (s : Scope) (known : Table) → ItemsAreNamed s items → (f : List ℕ) → Contains s.nodes f → final known items f ≡ known f
known_stays [] s known h f c = refl
known_stays (TypeItem t ∷ items) s known h f c = known_stays items (behind s (TypeItem t)) known h.1 f c
known_stays (NodeItem n ∷ items) s known h f c =
    let size = sizes.in_node known n in
    known_stays items (behind s (NodeItem n)) (sizes.with_node known n.name size) h.1 f (kept_name s.nodes n.name f c)
    ∙ with_other known n.name size f (λ e. h.0.0 (subst (λ (x : List ℕ). Contains s.nodes x) (sym e) c))

own_stays : (n : Node) (items : List Item) (s : Scope) (known : Table) → ItemsAreNamed s (NodeItem n ∷ items) → final known (NodeItem n ∷ items) n.name ≡ sizes.in_node known n
own_stays n items s known h =
    let size = sizes.in_node known n in
    known_stays items (behind s (NodeItem n)) (sizes.with_node known n.name size) h.1 n.name (new_name s.nodes n.name) ∙ with_itself known n.name size

-- ---- machines

-- sums, or the greatest, are the same in another order
abbrev pub Moves : (ℕ → ℕ → ℕ) → Type 0
Moves join = (known : List ℕ → ℕ) (es fs : List FlatEqn) → IsPermutation es fs → in_flat join known fs ≤ in_flat join known es

module _ (join : ℕ → ℕ → ℕ) (of : Size → ℕ) (measures : Measures join of) (moves : Moves join) where
  -- a machine: itself, and what its instances are
  abbrev pub one_more : Names ℕ → Machine → ℕ
  one_more known m = suc (in_instances join known m.insts)

  instances_grow : (low high : Names ℕ) → ((f : List ℕ) → low f ≤ high f) → (is : List (List ℕ × List ℕ)) → in_instances join low is ≤ in_instances join high is
  instances_grow low high h [] = omega arith
  instances_grow low high h (i ∷ is) = measures.joins.grows (low i.1) (in_instances join low is) (high i.1) (in_instances join high is) (h i.1) (instances_grow low high h is)

  unplaced_counts : (known : List ℕ → ℕ) (es ds : List FlatEqn) → map unplaced es ≡ map unplaced ds → in_flat join known es ≡ in_flat join known ds
  unplaced_counts known es ds e =
      sym (mapped join measures.joins known unplaced (λ e. refl) es) ∙ ap (in_flat join known) e ∙ mapped join measures.joins known unplaced (λ e. refl) ds

  pub machine_counts : (types : List ObcType) (known : Names ℕ) (n : FlatNode) (m : Machine) → IsMachineOf types n m → in_instances join known m.insts ≤ in_flat join known n.eqns
  machine_counts types known n m h =
      let a = h.arranged in
      let before = with_eqns (giving n) a.scheduled in
      let made : m.insts ≡ insts 0 (normal before).eqns = ap (λ (x : Machine). x.insts) a.made in
      let flat : in_instances join known m.insts ≡ in_flat join known (normal before).eqns = ap (in_instances join known) made ∙ instances_flat join measures.joins known 0 (normal before).eqns in
      let fewer : in_flat join known (normal before).eqns ≤ in_flat join known a.scheduled = normal_counts join measures.joins known before in
      let order : in_flat join known (map unplaced a.scheduled) ≤ in_flat join known (map unplaced (giving n).eqns) = moves known (map unplaced (giving n).eqns) (map unplaced a.scheduled) a.same in
      let plain : in_flat join known (map unplaced a.scheduled) ≡ in_flat join known a.scheduled = mapped join measures.joins known unplaced (λ e. refl) a.scheduled in
      let plainly : in_flat join known (map unplaced (giving n).eqns) ≡ in_flat join known (giving n).eqns = mapped join measures.joins known unplaced (λ e. refl) (giving n).eqns in
      let given : in_flat join known (giving n).eqns ≤ in_flat join known n.eqns = filtered join measures.joins known defines_some n.eqns in
      omega (arith, flat, fewer, order, plain, plainly, given)

  machine_name : (types : List ObcType) (n : FlatNode) (m : Machine) → IsMachineOf types n m → m.name ≡ n.name
  machine_name types n m h = let a = h.arranged in ap (λ (x : Machine). x.name) a.made

  -- the machine of a node, where it is known what is counted of each node
  whole : (k : Known) (enums : Enumerations) (types : List ObcType) (all : Table) (nodes : List ℕ → Node) → ((g : List ℕ) → in_block join (weight_in of all) (nodes g).body ≤ of (all g))
      → (own : ℕ) (n : Node) (at : Assignment) (f : FlatNode) (m : Machine) (known : Names ℕ) → NodeNeat own n → ((g : List ℕ) → known g ≤ suc (of (all g)))
      → IsMadeOf k (lowered_node enums (node_with_clocks at (replaced_node nodes n))) f → IsMachineOf types f m → in_instances join known m.insts ≤ of (sizes.in_block all n.body)
  whole k enums types all nodes bodies own n at f m known neat below made machine =
      let w = weight_in of all in
      let r = replaced_node nodes n in
      let c = node_with_clocks at r in
      let low = lowered_node enums c in
      let grow : in_instances join known m.insts ≤ in_instances join w m.insts = instances_grow known w below m.insts in
      let flat : in_instances join w m.insts ≤ in_flat join w f.eqns = machine_counts types w f m machine in
      let same : in_flat join w f.eqns ≡ in_flat join w (sketch_node k low).eqns = unplaced_counts w f.eqns (sketch_node k low).eqns made.eqns in
      let tree : in_flat join w (sketch_node k low).eqns ≤ in_block join w low.body = made_law join measures.joins w k low in
      let lower : in_block join w low.body ≤ in_block join w c.body = lowered_law join measures.joins w enums c in
      let clocked : in_block join w c.body ≡ in_block join w r.body = block_clocked join w at in_body r.body in
      let less : in_block join w r.body ≤ of (sizes.in_block all n.body) = node_less join of measures all nodes bodies own n neat in
      omega (arith, grow, flat, same, tree, lower, clocked, less)

  -- ---- programs

  named_by : (known : Names ℕ) (x : List ℕ) (v : ℕ) (P : List ℕ → ℕ → Type 0) → P x v → ((f : List ℕ) → P f (known f)) → (f : List ℕ) → P f (given x v known f)
  named_by known x v P here others f = by (bytes_eq x f) refl
    where
      by : (b : Bool) → bytes_eq x f ≡ b → P f (if b then v else known f)
      by true e = subst (λ (y : List ℕ). P y v) ((bytes_eq-Decides x f).0 e) here
      by false e = others f

  node_by : (nodes : List ℕ → Node) (n : Node) (P : List ℕ → Node → Type 0) → P n.name n → ((f : List ℕ) → P f (nodes f)) → (f : List ℕ) → P f (with_node nodes n f)
  node_by nodes n P here others f = by (bytes_eq n.name f) refl
    where
      by : (b : Bool) → bytes_eq n.name f ≡ b → P f (if b then n else nodes f)
      by true e = subst (λ (y : List ℕ). P y n) ((bytes_eq-Decides n.name f).0 e) here
      by false e = others f

  module _ (limit : ℕ) (few : (total : ℕ) (s : Size) → IsWithin total s → suc (of s) ≤ limit) (k : Known) (enums : Enumerations) (types : List ObcType) (own : ℕ) (all : Table) where
    -- what is known of the machines and nodes so far
    pub record SoFar (nodes : List ℕ → Node) (numbers : Names ℕ) : Type 0 where
      pub bodies : (f : List ℕ) → in_block join (weight_in of all) (nodes f).body ≤ of (all f)
      pub below : (f : List ℕ) → numbers f ≤ suc (of (all f))
      pub within : (f : List ℕ) → numbers f ≤ limit

    next : (n : Node) (items : List Item) (s : Scope) (known : Table) (total : ℕ) (nodes : List ℕ → Node) (numbers : Names ℕ) (at : Assignment) (f : FlatNode) (m : Machine)
        → ItemsAreNamed s (NodeItem n ∷ items) → NodeNeat own n → IsWithin total (sizes.in_node known n)
        → all ≡ final known (NodeItem n ∷ items) → IsMadeOf k (lowered_node enums (node_with_clocks at (replaced_node nodes n))) f → IsMachineOf types f m → SoFar nodes numbers
        → SoFar (with_node nodes (replaced_node nodes n)) (given m.name (one_more numbers m) numbers)
    next n items s known total nodes numbers at f m named neat fits is made machine so =
        let r = replaced_node nodes n in
        let size = sizes.in_node known n in
        let agree : (g : List ℕ) → Contains s.nodes g → known g ≡ all g = λ g c. sym (ap (λ (t : Table). t g) is ∙ known_stays (NodeItem n ∷ items) s known named g c) in
        let mine : all n.name ≡ size = ap (λ (t : Table). t n.name) is ∙ own_stays n items s known named in
        let same : of (sizes.in_block known n.body) ≡ of (sizes.in_block all n.body) = ap of (body_same known all s n agree named.0.1) in
        let counted : of (sizes.in_block known n.body) ≤ of size = body_counted join of measures known n in
        let inside : in_instances join numbers m.insts ≤ of (sizes.in_block all n.body) = whole k enums types all nodes so.bodies own n at f m numbers neat so.below made machine in
        let less : in_block join (weight_in of all) r.body ≤ of (sizes.in_block all n.body) = node_less join of measures all nodes so.bodies own n neat in
        let name : n.name ≡ m.name = sym (machine_name types f m machine ∙ made.name) in
        let there : of (all n.name) ≡ of size = ap of mine in
        let limited : suc (of size) ≤ limit = few total size fits in
        let own_below : one_more numbers m ≤ suc (of (all n.name)) = omega (arith, same, counted, inside, there) in
        let own_within : one_more numbers m ≤ limit = omega (arith, same, counted, inside, limited) in
        let own_body : in_block join (weight_in of all) r.body ≤ of (all n.name) = omega (arith, same, counted, less, there) in
        record {
          bodies = node_by nodes r (λ g q. in_block join (weight_in of all) q.body ≤ of (all g)) own_body so.bodies;
          below = named_by numbers m.name (one_more numbers m) (λ g v. v ≤ suc (of (all g))) (subst (λ (x : List ℕ). one_more numbers m ≤ suc (of (all x))) name own_below) so.below;
          within = named_by numbers m.name (one_more numbers m) (λ g v. v ≤ limit) own_within so.within;
        }

    pub are_few : (items after : List Item) (fs : List FlatNode) (ms : List Machine) (s : Scope) (known : Table) (total : ℕ) (nodes : List ℕ → Node) (numbers : Names ℕ) → ItemsAreNamed s items
        → EachNode (NodeNeat own) items → AreWithin known total items
        → all ≡ final known items → AreWritten IsClocked (replaced_items nodes items) after → AreMadeOf k (map (lowered_item enums) after) fs → AreMade types fs ms → SoFar nodes numbers
        → (f : List ℕ) → numbers_behind one_more ms numbers f ≤ limit
    are_few [] [] [] [] s known total nodes numbers named neat fits is written made machines so = so.within
    are_few [] [] [] (m ∷ ms) s known total nodes numbers named neat fits is written made machines so = absurd machines
    are_few [] [] (f ∷ fs) ms s known total nodes numbers named neat fits is written made machines so = absurd made
    are_few [] (y ∷ ys) fs ms s known total nodes numbers named neat fits is written made machines so = absurd written
    are_few (TypeItem t ∷ items) [] fs ms s known total nodes numbers named neat fits is written made machines so = absurd written
    are_few (TypeItem t ∷ items) (y ∷ ys) fs ms s known total nodes numbers named neat fits is written made machines so =
        let rest : AreMadeOf k (map (lowered_item enums) ys) fs = subst (λ (z : Item). AreMadeOf k (lowered_item enums z ∷ map (lowered_item enums) ys) fs) written.0 made in
        are_few items ys fs ms (behind s (TypeItem t)) known total nodes numbers named.1 neat fits is written.1 rest machines so
    are_few (NodeItem n ∷ items) [] fs ms s known total nodes numbers named neat fits is written made machines so = absurd written
    are_few (NodeItem n ∷ items) (y ∷ ys) [] ms s known total nodes numbers named neat fits is written made machines so =
        absurd (subst (λ (z : Item). AreMadeOf k (lowered_item enums z ∷ map (lowered_item enums) ys) []) written.0.2 made)
    are_few (NodeItem n ∷ items) (y ∷ ys) (f ∷ fs) [] s known total nodes numbers named neat fits is written made machines so = absurd machines
    are_few (NodeItem n ∷ items) (y ∷ ys) (f ∷ fs) (m ∷ ms) s known total nodes numbers named neat fits is written made machines so =
        let both = subst (λ (z : Item). AreMadeOf k (lowered_item enums z ∷ map (lowered_item enums) ys) (f ∷ fs)) written.0.2 made in
        are_few items ys fs ms (behind s (NodeItem n)) (sizes.with_node known n.name (sizes.in_node known n)) (total + (sizes.in_node known n).places) (with_node nodes (replaced_node nodes n))
        (given m.name (one_more numbers m) numbers) named.1 neat.1 fits.1 is written.1 both.1
        machines.1 (next n items s known total nodes numbers written.0.0 f m named neat.0 fits.0 is both.0 machines.0 so)
