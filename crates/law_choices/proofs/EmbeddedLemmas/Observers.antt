-- The observer of a node with a contract, among those of a program.
use Rattle.std.proofs.Common.{◌≡◌, ℕ, ◌+◌, List, [], ◌∷◌, ◌++◌, map, Some, refl, sym, ap, subst, ◌∙◌}
use Rattle.std.specs.List.{AllByRecursion}
use Rattle.std.specs.Prelude.{Option, None, filter}
use Rattle.std.proofs.lemmas.List.{map-append}
use Rattle.hp_base.specs.Kinds.{AreOfKinds, KindData}
use Rattle.hp_base.specs.declared.value.Value.{Value}
use Rattle.hp_tree.specs.declared.program.Item.{Item}
use Rattle.hp_tree.specs.declared.program.Item.TheVariants.{NodeItem, TypeItem}
use Rattle.hp_tree.specs.Blocks.{Decl}
use Rattle.hp_tree.specs.Instant.{Past}
use Rattle.hp_tree.specs.Programs.{Contract, Node, TypeDecl}
use Rattle.hp_meaning.specs.Causal.Points.{points_of_contract}
use Rattle.hp_meaning.specs.Contract.Forgetting.{ContractsCallNothing}
use Rattle.hp_meaning.specs.Contract.FreePlaces.{is_call}
use Rattle.hp_automata.specs.Lowering.{Enumerations, lowered_item, lowered_node}
use Rattle.hp_flat.specs.Nodes.{FlatNode}
use Rattle.law_equations.specs.Followed.Programs.{all_answers}
use Rattle.law_equations.specs.Made.Making.{Known}
use Rattle.law_judged.specs.Named.Scoped.{EachNode}
use Rattle.law_wellmade.specs.Timely.Kinds.{kind_of, kinds_of_decls}
use Rattle.hp_complete.specs.Made.{AreMadeOf, IsMadeOf}
use Rattle.hp_watch.specs.Observing.{inputs_for, observer_if, observer_of, observers}
use Rattle.law_choices.specs.Embedded.Observed.{observed_rows, outputs_of_instant}
use Rattle.law_choices.specs.InTurn.Observed.{EachObserved, contracted_nodes, with_contract}

-- ---- what is known of the observer of each node

module _ (k : Known) (enums : Enumerations) (K : FlatNode → Type 0) (P : Node → FlatNode → Type 0) where
  pub record HasObserver (n : Node) (c : Contract) : Type 0 where
    pub node : FlatNode
    pub made : IsMadeOf k (lowered_node enums (observer_of n c)) node
    pub known : K node
    pub is : P n node

  abbrev Has : Node → Type 0
  Has n = (c : Contract) → n.contract ≡ Some c → HasObserver n c

  abbrev low : List Item → List Item
  low items = map (lowered_item enums) items

  abbrev Goes : List Item → List (Node × Contract) → Type 0
  Goes items xs = (fs : List FlatNode) → AreMadeOf k (low (observers items)) fs → AllByRecursion K fs → EachObserved P xs fs → EachNode Has items

  pub each-has : (items : List Item) → Goes items (contracted_nodes items)
  each-has [] fs made known are = tt
  each-has (TypeItem t ∷ items) fs made known are = each-has items fs made known are
  each-has (NodeItem n ∷ items) fs made known are = by n.contract refl (each-has items) fs made known are
    where
      by : (o : Option Contract) → n.contract ≡ o → Goes items (contracted_nodes items) → (fs : List FlatNode) → AreMadeOf k (low (observer_if n o ++ observers items)) fs → AllByRecursion K fs → EachObserved P (with_contract n o ++ contracted_nodes items) fs → Has n × EachNode Has items
      by None e rest fs made known are = (λ c is. absurd (let no = sym is ∙ e in cc), rest fs made known are)
      by (Some d) e rest [] made known are = absurd made
      by (Some d) e rest (f ∷ fs) made known are =
          (λ c is. (let same : d ≡ c = (let both = sym e ∙ is in cc) in subst (HasObserver n) same (record { node = f; made = made.0; known = known.0; is = are.0 })), rest fs made.1 known.1 are.1)

-- ---- contracts call nothing

pub each-silent : (items : List Item) → ContractsCallNothing items → EachNode (λ (n : Node). filter (λ x. is_call x.point.kind) (points_of_contract n.contract (λ p. p)) ≡ []) items
each-silent [] h = tt
each-silent (TypeItem t ∷ items) h = each-silent items h
each-silent (NodeItem n ∷ items) h = (h.0, each-silent items h.1)

-- ---- the kinds of what it is given

module _ (types : List TypeDecl) where
  kinds-for : (i : ℕ) (ds : List Decl) → kinds_of_decls types (inputs_for i ds) ≡ kinds_of_decls types ds
  kinds-for i [] = refl
  kinds-for i (d ∷ ds) = ap (λ ks. kind_of types d.ty ∷ ks) (kinds-for (i + 1) ds)

  pub kinds-of-observer : (n : Node) (c : Contract) → kinds_of_decls types (observer_of n c).inputs ≡ kinds_of_decls types n.inputs ++ kinds_of_decls types n.outputs
  kinds-of-observer n c = map-append (λ (d : Decl). kind_of types d.ty) n.inputs (inputs_for 0 n.outputs) ∙ ap (λ ks. kinds_of_decls types n.inputs ++ ks) (kinds-for 0 n.outputs)

both-of-kinds : (ks js : List KindData) (xs ys : List Value) → AreOfKinds ks xs → AreOfKinds js ys → AreOfKinds (ks ++ js) (xs ++ ys)
both-of-kinds [] js [] ys h g = g
both-of-kinds [] js (x ∷ xs) ys h g = absurd h
both-of-kinds (k ∷ ks) js [] ys h g = absurd h
both-of-kinds (k ∷ ks) js (x ∷ xs) ys h g = (h.0, both-of-kinds ks js xs ys h.1 g)

pub rows-of-kinds : (ks js : List KindData) (answer : List Value → List (List Value) → List Value) → ((args : List Value) (before : List (List Value)) → AreOfKinds ks args → AllByRecursion (AreOfKinds ks) before → AreOfKinds js (answer args before)) → (outputs : List Decl) (rows : List (List Value)) (past : Past) → AllByRecursion (AreOfKinds ks) rows
    → map (outputs_of_instant outputs) past ≡ all_answers answer rows → AllByRecursion (AreOfKinds (ks ++ js)) (observed_rows outputs rows past)
rows-of-kinds ks js answer gives outputs [] past h e = tt
rows-of-kinds ks js answer gives outputs (row ∷ rows) [] h e = tt
rows-of-kinds ks js answer gives outputs (row ∷ rows) (now ∷ past) h e =
    let first : outputs_of_instant outputs now ≡ answer row rows = cc in
    let behind : map (outputs_of_instant outputs) past ≡ all_answers answer rows = cc in
    (both-of-kinds ks js row (outputs_of_instant outputs now) h.0 (subst (AreOfKinds js) (sym first) (gives row rows h.0 h.1)), rows-of-kinds ks js answer gives outputs rows past h.1 behind)
