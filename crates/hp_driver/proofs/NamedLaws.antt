-- The machine of a node that has a name, and the node of a machine.
use Rattle.std.proofs.Common.{◌≡◌, ℕ, Bool, true, false, List, [], ◌∷◌, map, Option, None, Some, refl, sym, ap, ◌∙◌, if◌then◌else◌}
use Rattle.std.specs.Str.{bytes_eq}
use Rattle.hp_machines.specs.Machined.{Heading, heading_of_machine, heading_of_node, headings_of}
use Rattle.hp_obc.specs.Form.{machine_named}
use Rattle.hp_obc.specs.Machines.{Machine}
use Rattle.hp_tree.specs.Meaning.{node_among}
use Rattle.hp_tree.specs.Programs.{Node}
use Rattle.hp_tree.specs.declared.program.Item.{Item}
use Rattle.hp_tree.specs.declared.program.Item.TheVariants.{TypeItem, NodeItem}

first_heading : (h k : Heading) (hs ks : List Heading) → h ∷ hs ≡ k ∷ ks → h ≡ k
first_heading h k hs ks e = cc

other_headings : (h k : Heading) (hs ks : List Heading) → h ∷ hs ≡ k ∷ ks → hs ≡ ks
other_headings h k hs ks e = cc

pub machine_of_node : (items : List Item) (ms : List Machine) (f : List ℕ) (n : Node) → map heading_of_machine ms ≡ headings_of items → node_among items f ≡ Some n → (m : Machine) × (machine_named ms f ≡ Some m)
machine_of_node [] ms f n e h = absurd cc
machine_of_node (TypeItem t ∷ items) ms f n e h = machine_of_node items ms f n e h
machine_of_node (NodeItem k ∷ items) [] f n e h = absurd cc
machine_of_node (NodeItem k ∷ items) (m ∷ ms) f n e h =
    by (bytes_eq m.name f) refl (λ named. machine_of_node items ms f n (other_headings (heading_of_machine m) (heading_of_node k) (map heading_of_machine ms) (headings_of items) e) named)
  where
    same : bytes_eq k.name f ≡ bytes_eq m.name f
    same = ap (λ z. bytes_eq z.name f) (sym (first_heading (heading_of_machine m) (heading_of_node k) (map heading_of_machine ms) (headings_of items) e))

    by : (b : Bool) → bytes_eq m.name f ≡ b → (node_among items f ≡ Some n → (x : Machine) × (machine_named ms f ≡ Some x)) → (x : Machine) × (machine_named (m ∷ ms) f ≡ Some x)
    by true q rest = (m, ap (λ d. if d then Some m else machine_named ms f) q)
    by false q rest =
        let found = rest (sym (ap (λ d. if d then Some k else node_among items f) (same ∙ q)) ∙ h) in (found.0, ap (λ d. if d then Some m else machine_named ms f) q ∙ found.1)

pub no_node_named : (items : List Item) (ms : List Machine) (f : List ℕ) → map heading_of_machine ms ≡ headings_of items → machine_named ms f ≡ None → node_among items f ≡ None
no_node_named items ms f e none = by (node_among items f) refl
  where
    by : (o : Option Node) → node_among items f ≡ o → node_among items f ≡ None
    by None h = h
    by (Some n) h = let found = machine_of_node items ms f n e h in absurd (cc (found.1, none))
