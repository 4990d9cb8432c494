-- The machines of the program of a text give its stream history.
use Rattle.std.proofs.Common.{◌≡◌, ℕ, suc, Bool, true, false, List, [], ◌∷◌, ◌++◌, map, reverse, None, Some, refl, sym, ap, ap₂, subst, ◌∙◌, if◌then◌else◌}
use Rattle.std.specs.Prelude.{Option, unwrap_or}
use Rattle.std.specs.List.{AllByRecursion}
use Rattle.std.specs.Str.{bytes_eq}
use Rattle.std.proofs.lemmas.List.{reverse-append, append_assoc, append-nil}
use Rattle.std.proofs.lemmas.Slice.Eq.{bytes_eq-Decides}
use Rattle.hp_base.specs.Kinds.{Bools, Constructors, AreOfKinds}
use Rattle.hp_base.specs.declared.ty.Ty.{Ty}
use Rattle.hp_base.specs.declared.ty.Ty.TheVariants as ty
use Rattle.hp_base.specs.declared.value.Value.TheVariants.{Absent}
use Rattle.hp_tree.specs.Operators.{constructor_from}
use Rattle.hp_tree.specs.Blocks.{Decl}
use Rattle.hp_tree.specs.Programs.{TypeDecl, Contract, Node}
use Rattle.hp_tree.specs.declared.program.Item.{Item}
use Rattle.hp_tree.specs.declared.program.Item.TheVariants.{TypeItem, NodeItem}
use Rattle.hp_tree.specs.Meaning.{types_of, node_among, controls_of}
use Rattle.hp_tree.specs.Values.{constructors_of, IsOf}
use Rattle.hp_meaning.specs.Causal.Runs.{NoControls}
use Rattle.hp_meaning.proofs.CausalLemmas.Run.{none_reverse}
use Rattle.hp_meaning.specs.Clocking.Clocking.{base_written, node_with_clocks}
use Rattle.hp_clocks.specs.Writing.{AreWritten}
use Rattle.hp_clocks.specs.Answers.{IsClocked}
use Rattle.hp_expand.specs.Numbering.{with_node, no_node, replaced_node, replaced_items, replaced}
use Rattle.hp_obc.specs.Form.{machine_named}
use Rattle.hp_obc.specs.Kinded.{kinds_in}
use Rattle.hp_obc.specs.Machines.{Machine}
use Rattle.hp_obc.specs.Values.{enum_from, kind_of as machine_kind}
use Rattle.hp_obc.specs.declared.machine.Var.{Var}
use Rattle.law_values.specs.Accepted.Laws.{ReadyTextLaw}
use Rattle.law_automata.specs.Lowerable.Laws.{RemovableTextLaw}
use Rattle.law_values.specs.Filled.Firsts.{HasFirst, DeclsHaveFirsts, NodeHasFirsts}
use Rattle.law_values.specs.Filled.Laws.{TextTypesLaw, ReadyFirstsLaw}
use Rattle.law_values.proofs.FilledLemmas.Programs.{each_reverse}
use Rattle.law_equations.specs.Answered.Answering.{AreApart}
use Rattle.law_wellmade.specs.Begun.Laws.{FewTypesLaw}
use Rattle.law_wellmade.specs.Timely.Kinds.{declared_kind, kind_of, kinds_of_decls}
use Rattle.hp_machines.specs.Machined.{Heading, heading_of_machine, heading_of_node, headings_of, vars_of}
use Rattle.law_equations.specs.Made.Types.{obc_type_of}
use Rattle.law_history.specs.Streams.Laws.{HistoryLaw}
use Rattle.law_history.specs.Streams.Texts.{TextLaw}
use Rattle.law_history.proofs.StreamsLemmas.NamesApart.{ready_apart_after, each_found, own_found}

-- ---- no controllable variables

-- replacing inlined calls, and writing clocks, bring no controllable variables
none_replaced : (nodes : List ℕ → Node) (items : List Item) → NoControls items → NoControls (replaced_items nodes items)
none_replaced nodes [] h = tt
none_replaced nodes (TypeItem t ∷ items) h = none_replaced nodes items h
none_replaced nodes (NodeItem n ∷ items) h = (by n.contract refl, none_replaced (with_node nodes (replaced_node nodes n)) items h.1)
  where
    by : (o : Option Contract) → n.contract ≡ o → controls_of (replaced_node nodes n).contract ≡ []
    by None e = ap (λ (c : Option Contract). controls_of (replaced_node nodes (record n { contract = c })).contract) e
    by (Some c) e = ap (λ (c : Option Contract). controls_of (replaced_node nodes (record n { contract = c })).contract) e ∙ (ap controls_of (sym e) ∙ h.0)

none_clocked : (xs ys : List Item) → AreWritten IsClocked xs ys → NoControls xs → NoControls ys
none_clocked [] [] w h = tt
none_clocked [] (y ∷ ys) w h = absurd w
none_clocked (TypeItem t ∷ xs) [] w h = absurd w
none_clocked (NodeItem n ∷ xs) [] w h = absurd w
none_clocked (TypeItem t ∷ xs) (y ∷ ys) w h = subst (λ z. NoControls (z ∷ ys)) (sym w.0) (none_clocked xs ys w.1 h)
none_clocked (NodeItem n ∷ xs) (y ∷ ys) w h =
    subst (λ z. NoControls (z ∷ ys)) (sym w.0.2) (by n.contract refl, none_clocked xs ys w.1 h.1)
  where
    by : (o : Option Contract) → n.contract ≡ o → controls_of (node_with_clocks w.0.0 n).contract ≡ []
    by None e = ap (λ (c : Option Contract). controls_of (node_with_clocks w.0.0 (record n { contract = c })).contract) e
    by (Some c) e =
        ap (λ (c : Option Contract). controls_of (node_with_clocks w.0.0 (record n { contract = c })).contract) e ∙ ap (map base_written) (ap controls_of (sym e) ∙ h.0)

controls_found : (items : List Item) (f : List ℕ) (n : Node) → NoControls items → node_among items f ≡ Some n → controls_of n.contract ≡ []
controls_found [] f n h e = absurd cc
controls_found (TypeItem t ∷ items) f n h e = controls_found items f n h e
controls_found (NodeItem m ∷ items) f n h e = by (bytes_eq m.name f) e (controls_found items f n h.1)
  where
    by : (b : Bool) → (if b then Some m else node_among items f) ≡ Some n → (node_among items f ≡ Some n → controls_of n.contract ≡ []) → controls_of n.contract ≡ []
    by true q k = let same : m ≡ n = cc in subst (λ (z : Node). controls_of z.contract ≡ []) same h.0
    by false q k = k q

-- ---- the node of a machine

-- a node of a name among items, with those before and behind it
record Found (items : List Item) (f : List ℕ) (h : Heading) : Type 0 where
  front : List Item
  behind : List Item
  node : Node
  splits : items ≡ front ++ NodeItem node ∷ behind
  named : node.name ≡ f
  heading : h ≡ heading_of_node node

further : (item : Item) (items : List Item) (f : List ℕ) (h : Heading) → Found items f h → Found (item ∷ items) f h
further item items f h p = record { front = item ∷ p.front; behind = p.behind; node = p.node; splits = ap (λ xs. item ∷ xs) p.splits; named = p.named; heading = p.heading }

first_heading : (h k : Heading) (hs ks : List Heading) → h ∷ hs ≡ k ∷ ks → h ≡ k
first_heading h k hs ks e = cc

others_too : (h k : Heading) (hs ks : List Heading) → h ∷ hs ≡ k ∷ ks → hs ≡ ks
others_too h k hs ks e = cc

found : (items : List Item) (ms : List Machine) (f : List ℕ) (m : Machine) → map heading_of_machine ms ≡ headings_of items → machine_named ms f ≡ Some m → Found items f (heading_of_machine m)
found [] [] f m e h = absurd cc
found [] (x ∷ ms) f m e h = absurd cc
found (TypeItem t ∷ items) ms f m e h = further (TypeItem t) items f (heading_of_machine m) (found items ms f m e h)
found (NodeItem n ∷ items) [] f m e h = absurd cc
found (NodeItem n ∷ items) (x ∷ ms) f m e h =
    by (bytes_eq x.name f) refl h (λ g. further (NodeItem n) items f (heading_of_machine m) (found items ms f m (others_too (heading_of_machine x) (heading_of_node n) (map heading_of_machine ms) (headings_of items) e) g))
  where
    here : heading_of_machine x ≡ heading_of_node n
    here = first_heading (heading_of_machine x) (heading_of_node n) (map heading_of_machine ms) (headings_of items) e

    by : (b : Bool) → bytes_eq x.name f ≡ b → (if b then Some x else machine_named ms f) ≡ Some m → (machine_named ms f ≡ Some m → Found (NodeItem n ∷ items) f (heading_of_machine m)) → Found (NodeItem n ∷ items) f (heading_of_machine m)
    by true q g k =
        let same : x ≡ m = cc in
        record {
          front = [];
          behind = items;
          node = n;
          splits = refl;
          named = sym (ap (λ (z : Heading). z.name) here) ∙ (bytes_eq-Decides x.name f).0 q;
          heading = ap heading_of_machine (sym same) ∙ here;
        }
    by false q g k = k g

-- with the last item first
turned : (front behind : List Item) (n : Node) → reverse (front ++ NodeItem n ∷ behind) ≡ reverse behind ++ NodeItem n ∷ reverse front
turned front behind n =
    reverse-append front (NodeItem n ∷ behind) ∙ ap (λ xs. xs ++ reverse front) (reverse-append (NodeItem n ∷ []) behind) ∙ append_assoc (reverse behind) (NodeItem n ∷ []) (reverse front)

among : (items : List Item) (f : List ℕ) (h : Heading) → AreApart (reverse items) → (p : Found items f h) → node_among (reverse items) f ≡ Some p.node
among items f h apart p =
    let split : reverse items ≡ reverse p.behind ++ NodeItem p.node ∷ reverse p.front = ap reverse p.splits ∙ turned p.front p.behind p.node in
    ap (node_among (reverse items)) (sym p.named) ∙ ap (λ xs. node_among xs p.node.name) split ∙ own_found (reverse p.behind) (reverse p.front) p.node (subst AreApart split apart)

-- ---- kinds

module _ (x : List ℕ) where
  kind_by : (t : ℕ) (types : List TypeDecl) → (constructors_of types x ≡ [] → ⊥) → unwrap_or (enum_from t (map obc_type_of types) x) Bools ≡ declared_kind t types x
  kind_by t [] h = absurd (h refl)
  kind_by t (d ∷ types) h = by (bytes_eq d.name x) h (kind_by (suc t) types)
    where
      by : (b : Bool) → ((if b then d.cons else constructors_of types x) ≡ [] → ⊥) → ((constructors_of types x ≡ [] → ⊥) → unwrap_or (enum_from (suc t) (map obc_type_of types) x) Bools ≡ declared_kind (suc t) types x)
          → unwrap_or (if b then Some (Constructors t d.cons) else enum_from (suc t) (map obc_type_of types) x) Bools ≡ (if b then Constructors t d.cons else declared_kind (suc t) types x)
      by true g rest = refl
      by false g rest = rest g

has_one : (types : List TypeDecl) (x : List ℕ) → HasFirst types (ty.Enum x) → constructors_of types x ≡ [] → ⊥
has_one types x h e = subst (λ cs. IsOf types (ty.Enum x) (elim cs [ [] ↦ Absent | c ∷ more ↦ constructor_from 0 types c ])) e h

one_kind : (types : List TypeDecl) (t : Ty) → HasFirst types t → unwrap_or (machine_kind (map obc_type_of types) t) Bools ≡ kind_of types t
one_kind types ty.Bool h = refl
one_kind types ty.Int h = refl
one_kind types (ty.Enum x) h = kind_by x 0 types (has_one types x h)

kinds_same : (types : List TypeDecl) (ds : List Decl) → DeclsHaveFirsts types ds → kinds_in (map obc_type_of types) (vars_of ds) ≡ kinds_of_decls types ds
kinds_same types [] h = refl
kinds_same types (d ∷ ds) h = ap₂ (λ k ks. k ∷ ks) (one_kind types d.ty h.0) (kinds_same types ds h.1)

-- ---- the law

-- so an accepted program has no controllable variables
pub none_controlled : (program after : List Item) → AreWritten IsClocked (replaced program) after → NoControls program → NoControls after
none_controlled program after clocks none = none_clocked (replaced program) after clocks (none_replaced no_node program none)

pub text_history : HistoryLaw → ReadyTextLaw → RemovableTextLaw → TextTypesLaw → ReadyFirstsLaw → FewTypesLaw → TextLaw
text_history history ready_text removable_text text_types ready_firsts few_types text tokens program after ranks o a machines f m h =
    let ready = ready_text text tokens program after a.spelled a.read a.named a.typed a.defined a.formed a.initialised a.clocks in
    let removable = removable_text text tokens program after a.spelled a.read a.named a.typed a.defined a.formed a.initialised a.clocks in
    let types = text_types text tokens program a.spelled a.read in
    let few = few_types text tokens program a.spelled a.read in
    let no_controls = none_controlled program after a.clocks a.uncontrolled in
    let p = found after o.machines f m machines.machines h in
    let is = among after f (heading_of_machine m) (ready_apart_after program after ready) p in
    let firsts = each_found (NodeHasFirsts (types_of after)) (reverse after) f p.node (each_reverse (NodeHasFirsts (types_of after)) after (ready_firsts program after ready types)) is in
    let controls : controls_of p.node.contract ≡ [] = controls_found (reverse after) f p.node (none_reverse after no_controls) is in
    let kinds_of : (vars : List Var) (ds : List Decl) → vars ≡ vars_of ds → DeclsHaveFirsts (types_of after) ds → kinds_in o.types vars ≡ kinds_of_decls (types_of after) ds =
    λ vars ds e g. ap₂ (λ ts vs. kinds_in ts vs) machines.types e ∙ kinds_same (types_of after) ds g in
    let inputs = kinds_of m.inputs p.node.inputs (ap (λ (z : Heading). z.inputs) p.heading ∙ ap (λ cs. vars_of (p.node.inputs ++ cs)) controls ∙ ap vars_of (append-nil p.node.inputs)) firsts.inputs in
    record {
      node = p.node;
      is_node = is;
      inputs = inputs;
      outputs = kinds_of m.outputs p.node.outputs (ap (λ (z : Heading). z.outputs) p.heading) firsts.outputs;
      runs = λ vs fit. history program after ranks o ready removable a.fall no_controls types few machines f p.node vs is (subst (λ ks. AllByRecursion (AreOfKinds ks) vs) inputs fit);
    }
