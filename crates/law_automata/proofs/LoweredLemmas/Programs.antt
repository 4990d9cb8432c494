-- The nodes of a program, before and after.
use Rattle.std.proofs.Common.{◌≡◌, ℕ, Bool, true, false, List, [], ◌∷◌, ◌++◌, map, reverse, refl, sym, ap, ap₂, subst, ◌∙◌}
use Rattle.std.proofs.lemmas.List.{reverse-append, map-append}
use Rattle.std.specs.Prelude.{if◌then◌else◌}
use Rattle.std.specs.Str.{bytes_eq}
use Rattle.hp_base.specs.declared.value.Value.{Value}
use Rattle.hp_base.specs.declared.value.Value.TheVariants.{Absent}
use Rattle.hp_tree.specs.declared.program.Item.{Item}
use Rattle.hp_tree.specs.declared.program.Item.TheVariants.{TypeItem, NodeItem}
use Rattle.hp_tree.specs.Programs.{TypeDecl, Node}
use Rattle.hp_tree.specs.Operators.{is_there}
use Rattle.hp_tree.specs.Instant.{Named, Fresh, Instant, Given}
use Rattle.hp_tree.specs.Meaning.{Nodes, nodes, node, types_of as program_types, meaning, names_of}
use Rattle.hp_automata.specs.Lowering.{Enumerations, enumerations, lowered_item, lowered_node, lowered_program}
use Rattle.law_automata.specs.Lowered.Removable.{NodeOk, IsRemovable}
use Rattle.law_automata.specs.Lowered.Standing.{Relation, Along, NodeStands, either_is, stands_among}
use Rattle.law_automata.specs.Lowered.Giving.{NodeGiven, given_among}
use Rattle.law_automata.specs.Lowered.Deciding.{IfThere, NodeDecided, decided_among}
use Rattle.law_automata.proofs.LoweredLemmas.Callees.{Met, Callees}
use Rattle.law_automata.proofs.LoweredLemmas.Expressions.{reading}
use Rattle.law_automata.proofs.LoweredLemmas.Nodes.{node_met}

module _ (types : List TypeDecl) (u : Value → Value) (enums : Enumerations) where
  abbrev pub before : List Item → Nodes
  before items = nodes types (reading u) items

  abbrev pub after : List Item → Nodes
  after items = nodes types (reading u) (map (lowered_item enums) items)

  abbrev pub Known : List Item → Type 0
  Known items = Callees (before items) (after items) (stands_among items) (given_among u items) (decided_among items)

  none : Known []
  none = record {
    outputs = λ f. refl;
    fresh = λ f i j h. h (Fresh ∷ []);
    named = λ f i j h x. h (Named x ∷ []);
    step = λ f inputs g g' now past free dec m. ((λ p. Absent), refl, λ p. ap (λ i. i p) m);
  }

  module _ (n : Node) (earlier : List Item) (ok : NodeOk n) (C : Known earlier) where
    NodeStand : Relation
    NodeStand = NodeStands (stands_among earlier) n

    fresh_by : (t : Bool) (f : List ℕ) (i j : Instant) → either_is t (NodeStands (stands_among earlier) n i j) (stands_among earlier f i j) → i (Fresh ∷ []) ≡ j (Fresh ∷ [])
    fresh_by true f i j h = h.fresh
    fresh_by false f i j h = C.fresh f i j h

    named_by : (t : Bool) (f : List ℕ) (i j : Instant) → either_is t (NodeStands (stands_among earlier) n i j) (stands_among earlier f i j) → (x : List ℕ) → i (Named x ∷ []) ≡ j (Named x ∷ [])
    named_by true f i j h = h.outputs
    named_by false f i j h = C.named f i j h

    step_by : (t : Bool) (f : List ℕ) (inputs : List Value) (g g' : Given) (now : Instant) → Along (λ i j. either_is t (NodeStands (stands_among earlier) n i j) (stands_among earlier f i j)) g.past g'.past
        → either_is t (NodeGiven u (given_among u earlier) n g.free g'.free) (given_among u earlier f g.free g'.free) → IfThere (λ i. either_is t (NodeDecided (decided_among earlier) n i) (decided_among earlier f i)) now
        → now ≡ (if t then node types (reading u) (before earlier) n inputs g now else (before earlier).instant f inputs g now)
        → Met (λ j. either_is t (NodeStands (stands_among earlier) n now j) (stands_among earlier f now j)) (λ j. if t then node types (reading u) (after earlier) (lowered_node enums n) inputs g' j else (after earlier).instant f inputs g' j)
    step_by true f inputs g g' now past free dec m =
        node_met types u (before earlier) (after earlier) (stands_among earlier) (given_among u earlier) (decided_among earlier) C enums n ok inputs g g' now past free (dec (ap (λ i. is_there (i (Fresh ∷ []))) m)) m
    step_by false f inputs g g' now past free dec m = C.step f inputs g g' now past free dec m

    more : Known (NodeItem n ∷ earlier)
    more = record {
      outputs = λ f. ap (λ os. if bytes_eq n.name f then names_of n.outputs else os) (C.outputs f);
      fresh = λ f i j h. fresh_by (bytes_eq n.name f) f i j h;
      named = λ f i j h x. named_by (bytes_eq n.name f) f i j h x;
      step = λ f inputs g g' now past free dec m. step_by (bytes_eq n.name f) f inputs g g' now past free dec m;
    }

  -- the last one first
  pub callees : (items : List Item) → IsRemovable items → Known items
  callees [] ok = none
  callees (TypeItem t ∷ items) ok =
      let C = callees items ok in
      record { outputs = C.outputs; fresh = C.fresh; named = C.named; step = C.step }
  callees (NodeItem n ∷ items) ok = more n items ok.0 (callees items ok.1)

-- ---- the order of items

removable_append : (xs ys : List Item) → IsRemovable xs → IsRemovable ys → IsRemovable (xs ++ ys)
removable_append [] ys h g = g
removable_append (TypeItem t ∷ xs) ys h g = removable_append xs ys h g
removable_append (NodeItem n ∷ xs) ys h g = (h.0, removable_append xs ys h.1 g)

removable_one : (item : Item) (items : List Item) → IsRemovable (item ∷ items) → IsRemovable (item ∷ []) × IsRemovable items
removable_one (TypeItem t) items h = (tt, h)
removable_one (NodeItem n) items h = ((h.0, tt), h.1)

pub removable_reverse : (items : List Item) → IsRemovable items → IsRemovable (reverse items)
removable_reverse [] h = tt
removable_reverse (item ∷ items) h =
    let two = removable_one item items h in subst IsRemovable (sym (reverse-append (item ∷ []) items)) (removable_append (reverse items) (item ∷ []) (removable_reverse items two.1) two.0)

pub map_reverse : {A B : Type 0} (f : A → B) (xs : List A) → reverse (map f xs) ≡ map f (reverse xs)
map_reverse f [] = refl
map_reverse f (x ∷ xs) =
    reverse-append (f x ∷ []) (map f xs) ∙ ap (λ ys. ys ++ f x ∷ []) (map_reverse f xs) ∙ sym (map-append f (reverse xs) (x ∷ [])) ∙ ap (map f) (sym (reverse-append (x ∷ []) xs))

pub types_same : (enums : Enumerations) (items : List Item) → program_types (map (lowered_item enums) items) ≡ program_types items
types_same enums [] = refl
types_same enums (TypeItem t ∷ items) = ap (λ ts. t ∷ ts) (types_same enums items)
types_same enums (NodeItem n ∷ items) = types_same enums items

-- an instant of a node of a program
pub instant_met : (u : Value → Value) (program : List Item) → IsRemovable program → (f : List ℕ) (inputs : List Value) (g g' : Given) (now : Instant) → Along (stands_among (reverse program) f) g.past g'.past
    → given_among u (reverse program) f g.free g'.free → IfThere (decided_among (reverse program) f) now → now ≡ meaning (reading u) program f inputs g now
    → Met (stands_among (reverse program) f now) (λ j. meaning (reading u) (lowered_program program) f inputs g' j)
instant_met u program ok f inputs g g' now past free dec m =
    let enums : Enumerations = enumerations [] program in
    let types : List TypeDecl = program_types program in
    let made = (callees types u enums (reverse program) (removable_reverse program ok)).step f inputs g g' now past free dec m in (
      made.0,
      made.1
          ∙ ap₂ (λ ts items. (nodes ts (reading u) items).instant f inputs g' made.0) (sym (types_same enums program)) (sym (map_reverse (lowered_item enums) program)),
      made.2,
    )
