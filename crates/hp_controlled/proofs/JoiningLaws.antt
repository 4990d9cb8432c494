-- The machines of a program, with those of its contracts between them.
use Rattle.std.proofs.Common.{◌≡◌, ℕ, zero, suc, ◌+◌, ◌-◌, ◌<◌, ◌≤◌, List, [], ◌∷◌, ◌++◌, map, length, take, drop, get_or, refl, sym, ap, ◌∙◌, subst, arith}
use Rattle.std.specs.Prelude.{IsTrue, is_some}
use Rattle.std.proofs.Math.Seq.{take-length}
use Rattle.std.proofs.lemmas.List.{append_assoc, append-nil, drop_all, length-drop, take-append-drop}
use Rattle.hp_obc.specs.Form.{HasObcForm, TypesForm}
use Rattle.hp_obc.specs.Machines.{Machine, Obc, ObcType}
use Rattle.hp_obc.specs.Steps.{machine_behaviour}
use Rattle.hp_machines.specs.Machined.{heading_of_machine, heading_of_node, headings_of}
use Rattle.law_equations.specs.Made.Types.{obc_types_of}
use Rattle.hp_automata.specs.Lowering.{lowered_program}
use Rattle.hp_complete.specs.Declaring.{known_of}
use Rattle.hp_complete.specs.Made.{AreMadeOf}
use Rattle.hp_complete.specs.Signatures.{AreFlat, places_of}
use Rattle.hp_flat.specs.Nodes.{FlatNode}
use Rattle.hp_machines.specs.Making.{AreMade}
use Rattle.hp_tree.specs.Programs.{Node, TypeDecl}
use Rattle.hp_tree.specs.declared.program.Item.{Item}
use Rattle.hp_tree.specs.declared.program.Item.TheVariants.{NodeItem, TypeItem}
use Rattle.hp_controlled.specs.Among.{AmongLaw, StandAmong}
use Rattle.hp_controlled.specs.Among.StandAmong.{nothing, one, another}
use Rattle.hp_controlled.specs.Joining.{AreMadeMachines, AreOfNode, AreOfNodes, AreWithContracts, ChoosesNothing, SameLaw, Tells}
use Rattle.hp_controlled.specs.Joining.AreOfNode.{own_alone, with_contract}
use Rattle.hp_controlled.specs.Joining.AreOfNodes.{of_none, of_a_type, of_a_node}

-- ---- own machines stand among the others

among_one : (n : Node) (m : Machine) (these own all : List Machine) → AreOfNode n m these → StandAmong own all → StandAmong (m ∷ own) (these ++ all)
among_one n m these own all (own_alone none) stand = one m stand
among_one n m these own all (with_contract controller telling some chooses tells) stand = another controller (one m (another telling stand))

stand_among : (items : List Item) (own all : List Machine) → AreOfNodes items own all → StandAmong own all
stand_among items own all of_none = nothing
stand_among items own all (of_a_type {items = rest} t are) = stand_among rest own all are
stand_among items own all (of_a_node {items = rest} {own = others} {all = behind} n m these heading these_are are) = among_one n m these others behind these_are (stand_among rest others behind are)

pub same_among : AmongLaw → SameLaw
same_among law program own o w calls f m named =
    let form = w.form in
    let there = law o.types own.machines o.machines (stand_among program own.machines o.machines w.machines) calls form.1 f m named in
    (there.0, there.1 ∙ ap (λ (types : List ObcType). machine_behaviour (record { types = types; machines = own.machines }) f) w.types)

-- ---- they are called as the nodes

pub headings_are : (items : List Item) (own all : List Machine) → AreOfNodes items own all → map heading_of_machine own ≡ headings_of items
headings_are items own all of_none = refl
headings_are items own all (of_a_type {items = rest} t are) = headings_are rest own all are
headings_are items own all (of_a_node {items = rest} {own = others} {all = behind} n m these heading these_are are) =
    let more = headings_are rest others behind are in
    λ j. heading j ∷ more j

pub whole : (program : List Item) (types : List ObcType) (own : List Machine) (o : Obc) → types ≡ obc_types_of program → AreMadeMachines program types own → AreOfNodes program own o.machines → o.types ≡ types
    → HasObcForm o.types o.machines → AreWithContracts program (record { types = types; machines = own }) o
whole program types own o declared made are same form = record {
  own_machines = record {
    types = declared;
    form = subst TypesForm same form.0;
    machines = headings_are program own o.machines are;
    nodes = made.nodes;
    flat = made.flat;
    equations = made.equations;
    made = made.made;
  };
  types = same;
  form = form;
  machines = are;
}

-- ---- one item after another

split : {A : Type 0} (xs : List A) (i : ℕ) (x : A) → i < length xs → x ≡ get_or xs i x → drop i xs ≡ x ∷ drop (suc i) xs
split [] i x h e = absurd (omega (arith, h))
split (y ∷ xs) zero x h e = λ j. sym e j ∷ xs
split (y ∷ xs) (suc i) x h e = split xs i x (omega (arith, h)) e

pub next_item : (items : List Item) (own : List Machine) (i : ℕ) (item : Item) (waiting left before after : List Machine) → ((more : List Machine) → AreOfNodes (drop i items) waiting more → AreOfNodes items own (before ++ more))
    → i < length items → item ≡ get_or items i item
    → (these : List Machine) × (after ≡ before ++ these) × ((rest : List Item) (more : List Machine) → AreOfNodes rest left more → AreOfNodes (item ∷ rest) waiting (these ++ more))
    → (more : List Machine) → AreOfNodes (drop (i + 1) items) left more → AreOfNodes items own (after ++ more)
next_item items own i item waiting left before after so_far below is put more are =
    let place : drop i items ≡ item ∷ drop (i + 1) items = split items i item below is ∙ ap (λ k. item ∷ drop k items) (let same : suc i ≡ i + 1 = omega arith in same) in
    let here = subst (λ xs. AreOfNodes xs waiting (put.0 ++ more)) (sym place) (put.2 (drop (i + 1) items) more are) in
    subst (λ ms. AreOfNodes items own ms) (sym (append_assoc before put.0 more) ∙ ap (λ ms. ms ++ more) (sym put.1)) (so_far (put.0 ++ more) here)

pub nothing_left : (xs ys : List Machine) → xs ≡ ys → length ys ≡ 0 → xs ≡ []
nothing_left xs [] e h = e
nothing_left xs (y ∷ ys) e h = absurd (omega (arith, h))

-- none is left
pub all_items : (items : List Item) (own : List Machine) (i : ℕ) (waiting all : List Machine) → ((more : List Machine) → AreOfNodes (drop i items) waiting more → AreOfNodes items own (all ++ more))
    → length items ≤ i → waiting ≡ [] → AreOfNodes items own all
all_items items own i waiting all so_far past none =
    let last : AreOfNodes (drop i items) waiting [] = subst (λ xs. AreOfNodes xs waiting []) (sym (drop_all i items past)) (subst (λ ms. AreOfNodes [] ms []) (sym none) of_none) in
    subst (λ ms. AreOfNodes items own ms) (append-nil all) (so_far [] last)

-- ---- the machines of one item

pub put_type : (item : Item) (t : TypeDecl) (waiting before : List Machine) → item ≡ TypeItem t → (these : List Machine) × (before ≡ before ++ these)
    × ((rest : List Item) (more : List Machine) → AreOfNodes rest waiting more → AreOfNodes (item ∷ rest) waiting (these ++ more))
put_type item t waiting before is = ([], sym (append-nil before), λ rest more are. subst (λ x. AreOfNodes (x ∷ rest) waiting more) (sym is) (of_a_type t are))

pub put_one : (item : Item) (n : Node) (waiting left before after : List Machine) → item ≡ NodeItem n
    → (m : Machine) × (these : List Machine) × (waiting ≡ m ∷ left) × (heading_of_machine m ≡ heading_of_node n) × (after ≡ before ++ these) × AreOfNode n m these
    → (these : List Machine) × (after ≡ before ++ these) × ((rest : List Item) (more : List Machine) → AreOfNodes rest left more → AreOfNodes (item ∷ rest) waiting (these ++ more))
put_one item n waiting left before after is put = (
  put.1,
  put.4,
  λ rest more are.
      subst (λ x. AreOfNodes (x ∷ rest) waiting (put.1 ++ more)) (sym is) (subst (λ ms. AreOfNodes (NodeItem n ∷ rest) ms (put.1 ++ more)) (sym put.2) (of_a_node n put.0 put.1 put.3 put.5 are)),
)

-- ---- machines that are made

pub made_next : (types : List ObcType) (all rest : List FlatNode) (n : FlatNode) (old new : List Machine) → ((after : List Machine) → AreMade types (n ∷ rest) after → AreMade types all (old ++ after))
    → (m : Machine) × (new ≡ old ++ m ∷ []) × AreMade types (n ∷ []) (m ∷ []) → (after : List Machine) → AreMade types rest after → AreMade types all (new ++ after)
made_next types all rest n old new before made after are =
    let place : new ++ after ≡ old ++ made.0 ∷ after = ap (λ ms. ms ++ after) made.1 ∙ append_assoc old (made.0 ∷ []) after in
    subst (λ ms. AreMade types all ms) (sym place) (before (made.0 ∷ after) (made.2.0, are))

pub made_all : (types : List ObcType) (all rest : List FlatNode) (ms : List Machine) → ((after : List Machine) → AreMade types rest after → AreMade types all (ms ++ after)) → length rest ≡ 0 → AreMade types all ms
made_all types all [] ms before e = subst (λ (xs : List Machine). AreMade types all xs) (append-nil ms) (before [] tt)
made_all types all (n ∷ rest) ms before e = absurd cc

-- those of the clocked equations of a program
pub made_machines : (program low : List Item) (types : List ObcType) (nodes : List FlatNode) (machines : List Machine) → low ≡ lowered_program program → AreFlat (places_of low) low nodes
    → AreMadeOf (known_of low) low nodes → AreMade types nodes machines → AreMadeMachines program types machines
made_machines program low types nodes machines without flat equations made = record {
  nodes = nodes;
  flat = subst (λ (p : List Item). AreFlat (places_of p) p nodes) without flat;
  equations = subst (λ (p : List Item). AreMadeOf (known_of p) p nodes) without equations;
  made = made;
}

-- ---- names and files

pub named_as : (name front end : List ℕ) (count : ℕ) → take count name ≡ front → take (length name - count) (drop count name) ≡ end → name ≡ front ++ end
named_as name front end count e f = sym (take-append-drop count name) ∙ (λ j. e j ++ (sym (behind_count name count) ∙ f) j)
  where
    behind_count : (xs : List ℕ) (n : ℕ) → take (length xs - n) (drop n xs) ≡ drop n xs
    behind_count xs n = ap (λ k. take k (drop n xs)) (sym (length-drop n xs)) ∙ take-length (drop n xs)

pub between_them : (n : Node) (m : Machine) (before after : List Machine)
    → (controller : Machine) × (telling : Machine) × ChoosesNothing n controller × Tells n telling × (after ≡ before ++ controller ∷ m ∷ telling ∷ []) → IsTrue (is_some n.contract)
    → (these : List Machine) × (after ≡ before ++ these) × AreOfNode n m these
between_them n m before after put some = (put.0 ∷ m ∷ put.1 ∷ [], put.4, with_contract put.0 put.1 some put.2 put.3)

pub of_file : (program : List Item) (types file_types : List ObcType) (all file_machines : List Machine) → types ≡ obc_types_of program
    → (own : List Machine) × AreMadeMachines program types own × AreOfNodes program own all → file_types ≡ types → file_machines ≡ all → HasObcForm types all
    → (own : Obc) × AreWithContracts program own (record { types = file_types; machines = file_machines })
of_file program types file_types all file_machines declared found t m form =
    let are = subst (λ ms. AreOfNodes program found.0 ms) (sym m) found.2 in
    let has_form = subst (λ ts. HasObcForm ts file_machines) (sym t) (subst (λ ms. HasObcForm types ms) (sym m) form) in
    (record { types = types; machines = found.0 }, whole program types found.0 (record { types = file_types; machines = file_machines }) declared found.1 are t has_form)
