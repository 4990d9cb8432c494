-- The types of the free places that are surveyed of a node are those of the slots of its contract's machine.
use Rattle.std.proofs.Common.{◌≡◌, ◌⊎◌, inl, inr, ℕ, zero, suc, ◌+◌, ◌≤◌, Bool, true, false, ◌||◌, if◌then◌else◌, List, [], ◌∷◌, ◌++◌, length, map, reverse, slice_get, drop, Option, None, Some, refl, sym, ap, ap₂, subst, ◌∙◌, arith}
use Rattle.std.specs.Prelude.{IsTrue, is_some, option_map}
use Rattle.std.specs.List.{flat_map, range_with_len}
use Rattle.std.specs.Str.{bytes_eq}
use Rattle.std.proofs.lemmas.List.{append_assoc, length-append, length-map, map-append, reverse-append, reverse-reverse, take-append-drop}
use Rattle.std.proofs.lemmas.Slice.Eq.{bytes_eq-Decides}
use Rattle.hp_base.specs.declared.ty.Ty.{Ty}
use Rattle.hp_base.specs.declared.ty.Ty.TheVariants as ty
use Rattle.hp_obc.specs.Form.{TypesForm}
use Rattle.hp_flat.specs.declared.node.FlatTy.{FlatTy}
use Rattle.hp_flat.specs.declared.node.FlatTy.TheVariants as flat
use Rattle.hp_flat.specs.declared.node.Variable.{Variable}
use Rattle.hp_flat.specs.Nodes.{FlatNode}
use Rattle.hp_tree.specs.Blocks.{Decl}
use Rattle.hp_tree.specs.ExpressionTypes.{typed_in, untyped}
use Rattle.hp_tree.specs.Instant.{Body, Controls, Inputs, Instance, Place, Tail}
use Rattle.hp_tree.specs.Meaning.{controls_of, node_among, types_of}
use Rattle.hp_tree.specs.Programs.{Contract, Node, TypeDecl}
use Rattle.hp_tree.specs.declared.program.Item.{Item}
use Rattle.hp_tree.specs.declared.program.Item.TheVariants.{NodeItem, TypeItem}
use Rattle.hp_tables.specs.Declarations.Tables.{numbered}
use Rattle.hp_meaning.specs.Causal.Sources.{below}
use Rattle.hp_meaning.specs.Contract.Forgetting.{ContractsCallNothing}
use Rattle.hp_meaning.specs.Contract.Slots.{Slot, callee_slots, control, input, slots_of_block, slots_of_contract, slots_of_node}
use Rattle.law_judged.specs.Named.Scoped.{EachNode}
use Rattle.law_values.specs.Accepted.Laws.{IsReady}
use Rattle.hp_automata.specs.Lowering.{Enumerations, enumerations, lowered_item, lowered_node, lowered_program}
use Rattle.law_automata.specs.Lowered.Removable.{IsRemovable}
use Rattle.law_automata.proofs.LowerableLemmas.Runs.{lowered_among}
use Rattle.law_automata.proofs.LoweredLemmas.Programs.{map_reverse}
use Rattle.law_equations.specs.Answered.Answering.{AreApart, has_node}
use Rattle.law_equations.specs.Made.Making.{Known, flat_type, outputs_of, sketch_node}
use Rattle.law_equations.specs.Made.Types.{obc_types_of}
use Rattle.law_games.specs.ReadyGames.Laws.{Stands}
use Rattle.law_history.proofs.StreamsLemmas.Asked.{Splits, split_first, split_next}
use Rattle.law_wellmade.specs.Spelled.Integers.{NodeShort}
use Rattle.hp_complete.specs.Declaring.{known_of}
use Rattle.hp_complete.specs.Made.{AreMadeOf, IsMadeOf}
use Rattle.hp_complete.specs.Signatures.{IsSigned, variable_of, variables_of}
use Rattle.hp_complete.proofs.KnownLaws.{nodes-known}
use Rattle.hp_watch.specs.declared.watching.Free.{Free}
use Rattle.hp_watch.specs.Adding.{type_at, type_of}
use Rattle.hp_watch.specs.Embedding.{embedded, shift_of}
use Rattle.hp_watch.specs.Growing.{Grows}
use Rattle.hp_watch.specs.Observing.{observer_if, observer_of, observers}
use Rattle.hp_watch.specs.Walk.{events_from, walk_contract}
use Rattle.hp_watch.specs.Watching.{Observed, Observing, free_at, free_input, free_inputs, free_placed, is_integer, moved_free, observed, own_site, surveyed, walked}
use Rattle.law_choices.specs.Observed.Contracts.{IsObservable}
use Rattle.hp_meaning.specs.Contract.FreePlaces.{declared_outputs}
use Rattle.law_choices.proofs.BroughtLemmas.Apiece.{outputs-anywhere}
use Rattle.law_choices.proofs.BroughtLemmas.Brought.{free_types, joined_types}
use Rattle.law_choices.proofs.BroughtLemmas.Placed.{AreIn, in-both, in-grown, in-moved, last_placed, observed_types, outputs-shown, placed-grows, placed-in, placed-types, shown, shown_types, types-grown, types-moved, types_in}
use Rattle.law_choices.proofs.BroughtLemmas.Bodies.{body-brings}
use Rattle.law_choices.proofs.BroughtLemmas.Programs.{apart, observer-brings}
use Rattle.law_choices.proofs.BroughtLemmas.Seen.{free-append}
use Rattle.law_choices.proofs.BroughtLemmas.Walks.{lasts-none}
use Rattle.law_choices.proofs.AddingLemmas.Embeds.{embedded-grows}
use Rattle.law_choices.proofs.AddingLemmas.One.{grows-both}
use Rattle.law_choices.proofs.ObservedLemmas.Standing.{enums_same}
use Rattle.law_choices.proofs.PlacesLemmas.Slots.{lasts_slots, outputs_slots}
use Rattle.law_choices.proofs.PlayingLemmas.Inputs.{row_of_slots}
use Rattle.hp_controlled.specs.Compiled.{AreObserved, contract_if, contracts_of, name_if, names_with_contracts, numbered_of, observed_all}
use Rattle.law_controlled.proofs.ObserverLaws.{at_length}

-- ---- nodes among items

-- a node of this name stands there
among-stands : (items : List Item) (f : List ℕ) (m : Node) → node_among items f ≡ Some m → (earlier : List Item) × ((later : List Item) × (items ≡ later ++ NodeItem m ∷ earlier)) × (m.name ≡ f)
among-stands [] f m e = absurd cc
among-stands (TypeItem t ∷ items) f m e = let h = among-stands items f m e in (h.0, (TypeItem t ∷ h.1.0, ap (λ xs. TypeItem t ∷ xs) h.1.1), h.2)
among-stands (NodeItem n ∷ items) f m e = by (bytes_eq n.name f) refl e (λ q. among-stands items f m q)
  where
    by : (b : Bool) → bytes_eq n.name f ≡ b → (if b then Some n else node_among items f) ≡ Some m → (node_among items f ≡ Some m → (earlier : List Item) × ((later : List Item) × (items ≡ later ++ NodeItem m ∷ earlier)) × (m.name ≡ f))
        → (earlier : List Item) × ((later : List Item) × (NodeItem n ∷ items ≡ later ++ NodeItem m ∷ earlier)) × (m.name ≡ f)
    by true q e rest = let same : n ≡ m = cc in (items, ([], ap (λ z. NodeItem z ∷ items) same), ap (λ (z : Node). z.name) (sym same) ∙ (bytes_eq-Decides n.name f).0 q)
    by false q e rest = let h = rest e in (h.0, (NodeItem n ∷ h.1.0, ap (λ xs. NodeItem n ∷ xs) h.1.1), h.2)

has-at : (later earlier : List Item) (n : Node) → has_node (later ++ NodeItem n ∷ earlier) n.name ≡ true
has-at [] earlier n = ap (λ b. b || has_node earlier n.name) ((bytes_eq-Decides n.name n.name).1 refl)
has-at (TypeItem t ∷ later) earlier n = has-at later earlier n
has-at (NodeItem m ∷ later) earlier n = by (bytes_eq m.name n.name) (has-at later earlier n)
  where
    by : (b : Bool) → has_node (later ++ NodeItem n ∷ earlier) n.name ≡ true → (b || has_node (later ++ NodeItem n ∷ earlier) n.name) ≡ true
    by true h = refl
    by false h = h

-- where names are apart, it is the node of its name
stands-among : (later earlier : List Item) (n : Node) → AreApart (later ++ NodeItem n ∷ earlier) → node_among (later ++ NodeItem n ∷ earlier) n.name ≡ Some n
stands-among [] earlier n a = ap (λ (b : Bool). if b then Some n else node_among earlier n.name) ((bytes_eq-Decides n.name n.name).1 refl)
stands-among (TypeItem t ∷ later) earlier n a = stands-among later earlier n a
stands-among (NodeItem m ∷ later) earlier n a = by (bytes_eq m.name n.name) refl (stands-among later earlier n a.1)
  where
    by : (b : Bool) → bytes_eq m.name n.name ≡ b → node_among (later ++ NodeItem n ∷ earlier) n.name ≡ Some n → (if b then Some m else node_among (later ++ NodeItem n ∷ earlier) n.name) ≡ Some n
    by true e h =
        let same : m.name ≡ n.name = (bytes_eq-Decides m.name n.name).0 e in
        absurd (let no : false ≡ true = sym a.0 ∙ ap (λ f. has_node (later ++ NodeItem n ∷ earlier) f) same ∙ has-at later earlier n in cc)
    by false e h = h

one-node : (m n : Node) → Some m ≡ Some n → m ≡ n
one-node m n e = cc

one-contract : (c d : Contract) → Some c ≡ Some d → c ≡ d
one-contract c d e = cc

one-observed : (c d : Observed) → Some c ≡ Some d → c ≡ d
one-observed c d e = cc

-- ---- slots

-- controllable variables are not given
controls-free : (ds : List Decl) (w : Place → Place) → free_types (row_of_slots control ds w) ≡ []
controls-free [] w = refl
controls-free (d ∷ ds) w = by d.ty (controls-free ds (below Tail w))
  where
    by : (t : Ty) → free_types (row_of_slots control ds (below Tail w)) ≡ [] → free_types (row_of_slots control (record d { ty = t } ∷ ds) w) ≡ []
    by ty.Bool h = h
    by ty.Int h = h
    by (ty.Enum x) h = h

pub inputs-free : (places : List ℕ → Option ℕ) (ds : List Decl) (w : Place → Place) → map (flat_type places) (free_types (row_of_slots input ds w)) ≡ shown_types places ds
inputs-free places [] w = refl
inputs-free places (d ∷ ds) w = by d.ty (inputs-free places ds (below Tail w))
  where
    by : (t : Ty) → map (flat_type places) (free_types (row_of_slots input ds (below Tail w))) ≡ shown_types places ds → map (flat_type places) (free_types (row_of_slots input (record d { ty = t } ∷ ds) w)) ≡ shown_types places (record d { ty = t } ∷ ds)
    by ty.Bool h = ap (λ ts. flat.Bool ∷ ts) h
    by ty.Int h = h
    by (ty.Enum x) h = ap (λ ts. flat_type places (ty.Enum x) ∷ ts) h

-- ---- inputs

-- the types of variables in a row
range-types : (all front vs rest : List Variable) → all ≡ front ++ (vs ++ rest) → map (λ x. type_of (slice_get all x)) (range_with_len (length front) (length vs)) ≡ map (λ (v : Variable). v.ty) vs
range-types all front [] rest e = refl
range-types all front (v ∷ vs) rest e =
    let l : length (front ++ v ∷ []) ≡ length front + 1 = length-append front (v ∷ []) in
    ap₂ (λ t ts. t ∷ ts) (ap (λ us. type_of (slice_get us (length front))) e ∙ ap type_of (at front))
    (ap (λ k. map (λ x. type_of (slice_get all x)) (range_with_len k (length vs))) (sym l) ∙ range-types all (front ++ v ∷ []) vs rest (e ∙ sym (append_assoc front (v ∷ []) (vs ++ rest))))
  where
    at : (us : List Variable) → slice_get (us ++ ((v ∷ vs) ++ rest)) (length us) ≡ Some v
    at [] = refl
    at (u ∷ us) = at us

-- inputs that are no integers are free places
given-types : (n : FlatNode) (places : List ℕ → Option ℕ) (ds : List Decl) (first : ℕ) → map (type_at n) (range_with_len first (length ds)) ≡ map (λ (v : Variable). v.ty) (variables_of places ds) → types_in n (flat_map (free_input n) (range_with_len first (length ds))) ≡ shown_types places ds
given-types n places [] first e = refl
given-types n places (d ∷ ds) first e =
    let here : type_at n first ≡ flat_type places d.ty = cc in
    let behind : map (type_at n) (range_with_len (first + 1) (length ds)) ≡ map (λ (v : Variable). v.ty) (variables_of places ds) = cc in
    map-append (λ (f : Free). type_at n f.variable) (free_input n first) (flat_map (free_input n) (range_with_len (first + 1) (length ds))) ∙ ap₂ (λ xs ys. xs ++ ys) (one (flat_type places d.ty) here) (given-types n places ds (first + 1) behind)
  where
    one : (t : FlatTy) → type_at n first ≡ t → types_in n (free_input n first) ≡ shown t
    one flat.Bool e = ap (λ u. types_in n (if is_integer u then [] else record { variable = first; eqn = None } ∷ [])) e ∙ ap (λ u. u ∷ []) e
    one flat.Int e = ap (λ u. types_in n (if is_integer u then [] else record { variable = first; eqn = None } ∷ [])) e
    one (flat.Enum y) e = ap (λ u. types_in n (if is_integer u then [] else record { variable = first; eqn = None } ∷ [])) e ∙ ap (λ u. u ∷ []) e

given-in : (n : FlatNode) (first count : ℕ) → first + count ≤ length n.variables → AreIn n (flat_map (free_input n) (range_with_len first count))
given-in n first zero l = tt
given-in n first (suc count) l = in-both n (free_input n first) (flat_map (free_input n) (range_with_len (first + 1) count)) (one (is_integer (type_at n first))) (given-in n (first + 1) count (omega (arith, l)))
  where
    one : (b : Bool) → AreIn n (if b then [] else record { variable = first; eqn = None } ∷ [])
    one true = tt
    one false = (omega (arith, l), tt)

-- ---- observers

module _ (program after : List Item) (r : IsReady program after) (removable : IsRemovable after) (form : TypesForm (obc_types_of program)) (short : EachNode NodeShort after) (nothing : ContractsCallNothing after) (observable : EachNode IsObservable after) (seen : Observing) (are : AreObserved after seen) where
  abbrev types : List TypeDecl
  types = types_of after

  abbrev enums : Enumerations
  enums = enumerations [] after

  abbrev k : Known
  k = known_of (lowered_program after)

  abbrev k_seen : Known
  k_seen = known_of (lowered_program (observers after))

  -- a node of the name with a contract, of whose observer these are the clocked equations
  record HasIts (f : List ℕ) (o : Option Observed) : Type 0 where
    node : Node
    contract : Contract
    made_as : FlatNode
    earlier : List Item
    stands : Stands after earlier node
    named : node.name ≡ f
    has : node.contract ≡ Some contract
    made : IsMadeOf k_seen (lowered_node enums (observer_of node contract)) made_as
    is : o ≡ Some (observed contract made_as)

  -- among items a node of this name with a contract
  abbrev NamedIn : List Item → List ℕ → Type 0
  NamedIn [] f = ⊥
  NamedIn (TypeItem t ∷ items) f = NamedIn items f
  NamedIn (NodeItem n ∷ items) f = ((n.name ≡ f) × IsTrue (is_some n.contract)) ⊎ NamedIn items f

  abbrev Answer : List Item → List ℕ → Option Observed → Type 0
  Answer items f o = ((o ≡ None) × (NamedIn items f → ⊥)) ⊎ HasIts f o

  answered : (f : List ℕ) (before items : List Item) → Splits (reverse after) before items → (fs : List FlatNode) → AreMadeOf k_seen (map (lowered_item enums) (observers items)) fs → (done : List Observed)
      → Answer items f (numbered_of (done ++ observed_all (contracts_of items) fs) (numbered (length done) (names_with_contracts items) f))
  answered f before [] e fs made done = inl (refl, λ h. h)
  answered f before (TypeItem t ∷ items) e fs made done = answered f (TypeItem t ∷ before) items (split_next (reverse after) before items (TypeItem t) e) fs made done
  answered f before (NodeItem n ∷ items) e fs made done = by n.contract refl fs made (answered f (NodeItem n ∷ before) items next)
    where
      next : Splits (reverse after) (NodeItem n ∷ before) items
      next = split_next (reverse after) before items (NodeItem n) e

      by : (o : Option Contract) → n.contract ≡ o → (fs : List FlatNode) → AreMadeOf k_seen (map (lowered_item enums) (observer_if n o ++ observers items)) fs
          → ((gs : List FlatNode) → AreMadeOf k_seen (map (lowered_item enums) (observers items)) gs → (done : List Observed) → Answer items f (numbered_of (done ++ observed_all (contracts_of items) gs) (numbered (length done) (names_with_contracts items) f)))
          → Answer (NodeItem n ∷ items) f (numbered_of (done ++ observed_all (contract_if o ++ contracts_of items) fs) (numbered (length done) (name_if n.name o ++ names_with_contracts items) f))
      by None q fs m rest = more (rest fs m done)
        where
          more : {o : Option Observed} → Answer items f o → Answer (NodeItem n ∷ items) f o
          more (inl h) = inl (h.0, none h.1)
            where
              none : (NamedIn items f → ⊥) → NamedIn (NodeItem n ∷ items) f → ⊥
              none g (inl own) = let no : false ≡ true = ap is_some (sym q) ∙ own.1 in cc
              none g (inr there) = g there
          more (inr h) = inr h
      by (Some c) q [] m rest = absurd m
      by (Some c) q (g ∷ gs) m rest = at (bytes_eq n.name f) refl
        where
          at : (b : Bool) → bytes_eq n.name f ≡ b → Answer (NodeItem n ∷ items) f (numbered_of (done ++ observed c g ∷ observed_all (contracts_of items) gs) (if b then Some (length done) else numbered (length done + 1) (names_with_contracts items) f))
          at true w =
              inr (record {
                node = n;
                contract = c;
                made_as = g;
                earlier = before;
                stands = (reverse items, next);
                named = (bytes_eq-Decides n.name f).0 w;
                has = q;
                made = m.0;
                is = at_length done (observed c g) (observed_all (contracts_of items) gs);
              })
          at false w =
              subst (λ o. Answer (NodeItem n ∷ items) f o)
              (ap₂ (λ os j. numbered_of os (numbered j (names_with_contracts items) f)) (append_assoc done (observed c g ∷ []) (observed_all (contracts_of items) gs)) (length-append done (observed c g ∷ [])))
              (more (rest gs m.1 (done ++ observed c g ∷ [])))
            where
              more : {o : Option Observed} → Answer items f o → Answer (NodeItem n ∷ items) f o
              more (inl h) = inl (h.0, none h.1)
                where
                  none : (NamedIn items f → ⊥) → NamedIn (NodeItem n ∷ items) f → ⊥
                  none g (inl own) = let no : true ≡ false = sym ((bytes_eq-Decides n.name f).1 own.0) ∙ w in cc
                  none g (inr there) = g there
              more (inr h) = inr h

  answer : (f : List ℕ) → Answer after f (seen f)
  answer f =
      let equations = are.equations in
      let made : AreMadeOf k_seen (map (lowered_item enums) (observers after)) are.nodes = subst (λ z. AreMadeOf k_seen (map (lowered_item z) (observers after)) are.nodes) (enums_same [] after) equations.made in
      subst (Answer after f) (ap (λ (os : Observing). os f) (sym are.are)) (answered f [] after (split_first after) are.nodes made [])

  -- a node that stands there with a contract is named
  named-there : (xs ys : List Item) (m : Node) → IsTrue (is_some m.contract) → NamedIn (xs ++ NodeItem m ∷ ys) m.name
  named-there [] ys m some = inl (refl, some)
  named-there (TypeItem t ∷ xs) ys m some = named-there xs ys m some
  named-there (NodeItem n ∷ xs) ys m some = inr (named-there xs ys m some)

  named-after : (earlier : List Item) (m : Node) → Stands after earlier m → IsTrue (is_some m.contract) → NamedIn after m.name
  named-after earlier m stands some =
      subst (λ xs. NamedIn xs m.name) (sym (sym (reverse-reverse after) ∙ ap reverse stands.1 ∙ reverse-append stands.0 (NodeItem m ∷ earlier) ∙ ap (λ ys. ys ++ reverse stands.0) (reverse-append (NodeItem m ∷ []) earlier) ∙ append_assoc (reverse earlier) (NodeItem m ∷ []) (reverse stands.0)))
      (named-there (reverse earlier) (reverse stands.0) m some)

  found-there : (earlier : List Item) (n : Node) → Stands after earlier n → node_among (reverse after) n.name ≡ Some n
  found-there earlier n stands =
      ap (λ xs. node_among xs n.name) stands.1 ∙ stands-among stands.0 earlier n (subst AreApart stands.1 (apart program after r removable form short nothing observable))

  -- the types of the free places of an observer, whatever is called
  abbrev Sees : List ℕ → Node → Contract → Type 0
  Sees f n c =
      (given : List ℕ → List Ty) (outs : List ℕ → List Decl) (callee : List ℕ → (Place → Place) → List Slot) → ((f : List ℕ) (w : Place → Place) → given f ≡ free_types (outputs_slots (outs f) (below Instance w) ++ callee f (below Instance w)))
      → (L : List (List Ty)) × (observed_types (seen f) ≡ map (flat_type k_seen.types) (joined_types L)) × ((w : Place → Place) → joined_types L ≡ free_types (slots_of_contract types outs callee (Some c) (typed_in n.inputs (typed_in n.outputs untyped)) w))

  -- of a node that stands there
  observer-sees : (earlier : List Item) (n : Node) → Stands after earlier n → (c : Contract) → n.contract ≡ Some c → Sees n.name n c
  observer-sees earlier n stands c has = by (answer n.name)
    where
      by : Answer after n.name (seen n.name) → Sees n.name n c
      by (inl h) = absurd (h.1 (named-after earlier n stands (ap is_some has)))
      by (inr h) = λ given outs callee calls.
          let same : h.node ≡ n = one-node h.node n (sym (found-there h.earlier h.node h.stands) ∙ ap (node_among (reverse after)) h.named ∙ found-there earlier n stands) in
          let one : h.contract ≡ c = one-contract h.contract c (sym h.has ∙ ap (λ (z : Node). z.contract) same ∙ has) in
          let B = observer-brings program after r removable form short nothing observable h.earlier h.node h.stands h.contract h.has h.made_as h.made given outs callee calls in (
            B.0,
            ap observed_types h.is ∙ B.1.0,
            λ w. B.2 w ∙ ap₂ (λ (m : Node) (d : Contract). free_types (slots_of_contract types outs callee (Some d) (typed_in m.inputs (typed_in m.outputs untyped)) w)) same one,
          )

  abbrev Made : Node → Contract → Observed → Type 0
  Made m d z = IsMadeOf k_seen (lowered_node enums (observer_of m d)) z.node × (z.free ≡ flat_map (free_at z.node) (walk_contract d (events_from 0 z.node.eqns)).0)

  -- the observer that is seen of it is made of its contract
  pub observer-made : (earlier : List Item) (n : Node) → Stands after earlier n → (c : Contract) → n.contract ≡ Some c → (o : Observed) → seen n.name ≡ Some o
      → IsMadeOf k_seen (lowered_node enums (observer_of n c)) o.node × (o.free ≡ flat_map (free_at o.node) (walk_contract c (events_from 0 o.node.eqns)).0)
  observer-made earlier n stands c has o e = by (answer n.name)
    where
      by : Answer after n.name (seen n.name) → IsMadeOf k_seen (lowered_node enums (observer_of n c)) o.node × (o.free ≡ flat_map (free_at o.node) (walk_contract c (events_from 0 o.node.eqns)).0)
      by (inl h) = absurd (let no : Some o ≡ None = sym e ∙ h.0 in cc)
      by (inr h) =
          let same : h.node ≡ n = one-node h.node n (sym (found-there h.earlier h.node h.stands) ∙ ap (node_among (reverse after)) h.named ∙ found-there earlier n stands) in
          let one : h.contract ≡ c = one-contract h.contract c (sym h.has ∙ ap (λ (z : Node). z.contract) same ∙ has) in
          let it : observed h.contract h.made_as ≡ o = one-observed (observed h.contract h.made_as) o (sym h.is ∙ e) in
          subst (λ (m : Node). Made m c o) same (subst (λ (d : Contract). Made h.node d o) one (subst (Made h.node h.contract) it (h.made, refl)))

  -- the free places of observers are variables
  pub inside : (f : List ℕ) (o : Observed) → seen f ≡ Some o → AreIn o.node o.free
  inside f o e = by (answer f)
    where
      by : Answer after f (seen f) → AreIn o.node o.free
      by (inl h) = absurd (let no : Some o ≡ None = sym e ∙ h.0 in cc)
      by (inr h) =
          let same : observed h.contract h.made_as ≡ o = one-observed (observed h.contract h.made_as) o (sym h.is ∙ e) in
          let B = observer-brings program after r removable form short nothing observable h.earlier h.node h.stands h.contract h.has h.made_as h.made (λ f. []) (λ f. []) (λ f w. []) (λ f w. refl) in
          subst (λ (z : Observed). AreIn z.node z.free) same B.1.1

  -- ---- calls

  module _ (places_same : k_seen.types ≡ k.types) where
    abbrev outs : List ℕ → List Decl
    outs f = declared_outputs (node_among (reverse after) f)

    abbrev callee : List ℕ → (Place → Place) → List Slot
    callee f w = callee_slots types (node_among (reverse after) f) w

    abbrev here : Place → Place
    here p = p

    pub given : List ℕ → List Ty
    given f = free_types (outputs_slots (outs f) here ++ callee f here)

    -- what the contract of a node that is called brings
    abbrev Brings : Option Node → List ℕ → Type 0
    Brings o f = (ts : List Ty) × ((w : Place → Place) → free_types (callee_slots types o w) ≡ ts) × (observed_types (seen f) ≡ map (flat_type k.types) ts)

    of_node : (m : Node) (f : List ℕ) → (earlier : List Item) × Stands after earlier m × (m.name ≡ f) → (c : Option Contract) → m.contract ≡ c → Brings (Some (record m { contract = c })) f
    of_node m f s None has = ([], (λ w. refl), none (answer f))
      where
        none : Answer after f (seen f) → observed_types (seen f) ≡ []
        none (inl h) = ap observed_types h.0
        none (inr h) =
            let same : h.node ≡ m = one-node h.node m (sym (found-there h.earlier h.node h.stands) ∙ ap (node_among (reverse after)) (h.named ∙ sym s.2) ∙ found-there s.0 m s.1) in
            absurd (let no : Some h.contract ≡ None = sym h.has ∙ ap (λ (z : Node). z.contract) same ∙ has in cc)
    of_node m f s (Some c) has =
        let B = observer-sees s.0 m s.1 c has (λ g. []) (λ g. []) (λ g w. []) (λ g w. refl) in (
          joined_types B.0,
          (λ w.
              free-append (lasts_slots types m.outputs w) (slots_of_contract types (λ f. []) (λ f w. []) (Some c) (typed_in m.inputs (typed_in m.outputs untyped)) w) ∙ ap (λ ts. ts ++ free_types (slots_of_contract types (λ f. []) (λ f w. []) (Some c) (typed_in m.inputs (typed_in m.outputs untyped)) w)) (lasts-none types m.outputs w) ∙ sym (B.2 w)),
          ap (λ g. observed_types (seen g)) (sym s.2) ∙ B.1 ∙ ap (λ ts. map (flat_type ts) (joined_types B.0)) places_same,
        )

    called : (f : List ℕ) → Brings (node_among (reverse after) f) f
    called f = by (node_among (reverse after) f) refl
      where
        by : (o : Option Node) → node_among (reverse after) f ≡ o → Brings o f
        by None e = ([], (λ w. refl), none (answer f))
          where
            none : Answer after f (seen f) → observed_types (seen f) ≡ []
            none (inl h) = ap observed_types h.0
            none (inr h) = absurd (let no : None ≡ Some h.node = sym e ∙ ap (node_among (reverse after)) (sym h.named) ∙ found-there h.earlier h.node h.stands in cc)
        by (Some m) e = let s = among-stands (reverse after) f m e in of_node m f (s.0, s.1, s.2) m.contract refl

    pub calls : (f : List ℕ) (w : Place → Place) → given f ≡ free_types (outputs_slots (outs f) (below Instance w) ++ callee f (below Instance w))
    unfolding given
    calls f w =
        let B = called f in
        free-append (outputs_slots (outs f) here) (callee f here) ∙ ap₂ (λ xs ys. xs ++ ys) (outputs-anywhere (outs f) here (below Instance w)) (B.1 here ∙ sym (B.1 (below Instance w))) ∙ sym (free-append (outputs_slots (outs f) (below Instance w)) (callee f (below Instance w)))

    pub outs-known : (f : List ℕ) → outputs_of (k.nodes f) ≡ outs f
    outs-known f =
        ap outputs_of (nodes-known (lowered_program after) f ∙ ap (λ xs. node_among xs f) (map_reverse (lowered_item enums) after) ∙ lowered_among enums (reverse after) f) ∙ by (node_among (reverse after) f)
      where
        by : (o : Option Node) → outputs_of (option_map (lowered_node enums) o) ≡ declared_outputs o
        by None = refl
        by (Some m) = refl

    pub gives : (f : List ℕ) → map (flat_type k.types) (given f) ≡ shown_types k.types (outputs_of (k.nodes f)) ++ observed_types (seen f)
    unfolding given
    gives f =
        let B = called f in
        ap (map (flat_type k.types)) (free-append (outputs_slots (outs f) here) (callee f here)) ∙ map-append (flat_type k.types) (free_types (outputs_slots (outs f) here)) (free_types (callee f here))
        ∙ ap₂ (λ xs ys. xs ++ ys) (outputs-shown k.types (outs f) here ∙ ap (shown_types k.types) (sym (outs-known f))) (ap (map (flat_type k.types)) (B.1 here) ∙ sym B.2)

    -- ---- all free places

    module _ (earlier : List Item) (n : Node) (stands : Stands after earlier n) (c : Contract) (has : n.contract ≡ Some c) (plant : FlatNode) (made : IsMadeOf k (lowered_node enums n) plant) (signed : IsSigned k.types n plant) (own : Observed) (its : seen plant.name ≡ Some own) where
      abbrev begun : FlatNode
      begun = embedded own.node (own_site (length n.inputs) plant) plant

      abbrev node : FlatNode
      node = (surveyed seen own (length n.inputs) (walked n plant) plant).node

      abbrev free : List Free
      free = (surveyed seen own (length n.inputs) (walked n plant) plant).free

      abbrev contract_seen : List Ty
      contract_seen = free_types (slots_of_contract types outs callee n.contract (typed_in n.inputs (typed_in n.outputs untyped)) here)

      abbrev body_seen : List Ty
      body_seen = free_types (slots_of_block types outs callee n.body (typed_in (controls_of n.contract) (typed_in n.inputs (typed_in n.outputs untyped))) (below Body here))

      -- the free places among the slots of the node
      slots-are : free_types (slots_of_node after n) ≡ free_types (row_of_slots input n.inputs (below Inputs here)) ++ (contract_seen ++ body_seen)
      slots-are =
          let I = row_of_slots input n.inputs (below Inputs here) in
          let Ls = lasts_slots types n.outputs here in
          let Cs = row_of_slots control (controls_of n.contract) (below Controls here) in
          let K = slots_of_contract types outs callee n.contract (typed_in n.inputs (typed_in n.outputs untyped)) here in
          let B = slots_of_block types outs callee n.body (typed_in (controls_of n.contract) (typed_in n.inputs (typed_in n.outputs untyped))) (below Body here) in
          free-append I (Ls ++ (Cs ++ (K ++ B))) ∙ ap (λ ts. free_types I ++ ts)
          (free-append Ls (Cs ++ (K ++ B)) ∙ ap₂ (λ xs ys. xs ++ ys) (lasts-none types n.outputs here) (free-append Cs (K ++ B) ∙ ap₂ (λ xs ys. xs ++ ys) (controls-free (controls_of n.contract) (below Controls here)) (free-append K B)))

      -- inputs
      split : plant.variables ≡ [] ++ (variables_of k.types n.inputs ++ (variables_of k.types (controls_of n.contract) ++ drop plant.inputs plant.variables))
      split =
          sym (take-append-drop plant.inputs plant.variables) ∙ ap (λ vs. vs ++ drop plant.inputs plant.variables) (signed.first ∙ map-append (variable_of k.types) n.inputs (controls_of n.contract))
          ∙ append_assoc (variables_of k.types n.inputs) (variables_of k.types (controls_of n.contract)) (drop plant.inputs plant.variables)

      pub inputs-types : types_in plant (free_inputs plant (length n.inputs)) ≡ shown_types k.types n.inputs
      inputs-types =
          given-types plant k.types n.inputs 0
          (ap (λ m. map (type_at plant) (range_with_len 0 m)) (sym (length-map n.inputs (variable_of k.types))) ∙ range-types plant.variables [] (variables_of k.types n.inputs) (variables_of k.types (controls_of n.contract) ++ drop plant.inputs plant.variables) split)

      inputs-in : AreIn plant (free_inputs plant (length n.inputs))
      inputs-in =
          let ins = variables_of k.types n.inputs in
          let rest = variables_of k.types (controls_of n.contract) ++ drop plant.inputs plant.variables in
          let a = ap length split in
          let b = length-append ins rest in
          let l = length-map n.inputs (variable_of k.types) in
          given-in plant 0 (length n.inputs) (omega (arith, a, b, l))

      own-inside : AreIn own.node own.free
      own-inside = inside plant.name own its

      grown_own : Grows plant begun
      grown_own = embedded-grows own.node (own_site (length n.inputs) plant) plant

      grown_all : Grows begun node
      grown_all = placed-grows seen inside plant begun grown_own

      abbrev moved : List Free
      moved = map (moved_free (shift_of own.node (own_site (length n.inputs) plant) plant)) own.free

      moved-within : AreIn begun moved
      moved-within = in-moved own.node (own_site (length n.inputs) plant) plant own.free own-inside

      its-types : types_in own.node own.free ≡ map (flat_type k.types) contract_seen
      its-types =
          let B = observer-sees earlier n stands c has given outs callee calls in
          ap observed_types (sym its ∙ ap seen made.name) ∙ B.1 ∙ ap (λ ts. map (flat_type ts) (joined_types B.0)) places_same ∙ ap (map (flat_type k.types)) (B.2 here)
          ∙ ap (λ o. map (flat_type k.types) (free_types (slots_of_contract types outs callee o (typed_in n.inputs (typed_in n.outputs untyped)) here))) (sym has)

      abbrev called_free : List Free
      called_free = flat_map (free_placed seen (last_placed seen inside plant begun grown_own)) (walked n plant)

      called-types : types_in node called_free ≡ map (flat_type k.types) body_seen
      called-types =
          let B = body-brings program after r removable form earlier n stands plant made given callee calls in
          placed-types seen inside plant begun grown_own given k (sketch_node k (lowered_node enums n)) made.variables gives (walked n plant) B.0 B.1 ∙ ap (map (flat_type k.types)) (B.2 (below Body here))

      called-in : AreIn node called_free
      called-in =
          let B = body-brings program after r removable form earlier n stands plant made given callee calls in
          placed-in seen inside plant begun grown_own given k (sketch_node k (lowered_node enums n)) made.variables gives (walked n plant) B.0 B.1

      -- the types of the free places of the node that is surveyed are those of its slots
      pub survey-types : types_in node free ≡ map (flat_type k.types) (free_types (slots_of_node after n))
      survey-types =
          let type = λ (f : Free). type_at node f.variable in
          let ins = free_inputs plant (length n.inputs) in
          let grown = grows-both plant begun node grown_own grown_all in
          let I = free_types (row_of_slots input n.inputs (below Inputs here)) in
          let first : types_in node ins ≡ map (flat_type k.types) I = types-grown plant node grown ins inputs-in ∙ inputs-types ∙ sym (inputs-free k.types n.inputs (below Inputs here)) in
          let second : types_in node moved ≡ map (flat_type k.types) contract_seen = types-grown begun node grown_all moved moved-within ∙ types-moved own.node (own_site (length n.inputs) plant) plant own.free own-inside ∙ its-types in
          map-append type (ins ++ moved) called_free ∙ ap₂ (λ xs ys. xs ++ ys) (map-append type ins moved ∙ ap₂ (λ xs ys. xs ++ ys) first second) called-types
          ∙ append_assoc (map (flat_type k.types) I) (map (flat_type k.types) contract_seen) (map (flat_type k.types) body_seen)
          ∙ sym (ap (map (flat_type k.types)) slots-are ∙ map-append (flat_type k.types) I (contract_seen ++ body_seen) ∙ ap (λ ts. map (flat_type k.types) I ++ ts) (map-append (flat_type k.types) contract_seen body_seen))

      pub survey-in : AreIn node free
      survey-in =
          let ins = free_inputs plant (length n.inputs) in
          in-both node (ins ++ moved) called_free (in-both node ins moved (in-grown plant node (grows-both plant begun node grown_own grown_all) ins inputs-in) (in-grown begun node grown_all moved moved-within)) called-in
