-- Each observer of a program is that of one of its contracts.
use Rattle.std.proofs.Common.{◌≡◌, ℕ, ◌+◌, Bool, true, false, if◌then◌else◌, List, [], ◌∷◌, ◌++◌, length, map, Option, None, Some, refl, sym, ap, ap₂, subst, ◌∙◌}
use Rattle.std.specs.Prelude.{slice_get}
use Rattle.std.specs.Str.{bytes_eq}
use Rattle.std.proofs.lemmas.List.{append_assoc, length-append}
use Rattle.std.proofs.lemmas.Slice.Eq.{bytes_eq-Decides}
use Rattle.hp_complete.specs.Signatures.{numbered}
use Rattle.hp_tree.specs.declared.program.Item.{Item}
use Rattle.hp_tree.specs.declared.program.Item.TheVariants.{TypeItem, NodeItem}
use Rattle.hp_tree.specs.Meaning.{types_of}
use Rattle.hp_tree.specs.Programs.{Contract, Node}
use Rattle.hp_flat.specs.Nodes.{FlatNode}
use Rattle.law_equations.specs.Followed.Programs.{CallsOnly}
use Rattle.law_equations.specs.Made.Types.{obc_types}
use Rattle.law_equations.specs.Meaning.Kinding.{Callees}
use Rattle.hp_obc.specs.Machines.{ObcType}
use Rattle.hp_watch.specs.Watching.{Observed, Observing, observed}
use Rattle.law_choices.specs.Adding.Surveyed.{AllSuit, Suits}
use Rattle.law_choices.specs.InTurn.Calling.{CallNothing}
use Rattle.law_choices.specs.InTurn.Laws.{said_of}
use Rattle.law_choices.specs.InTurn.Observed.{with_contract, contracted_nodes, EachObserved, ObservedLaw}
use Rattle.law_choices.specs.InTurn.Observers.{IsObserver, ObserverLaw}
use Rattle.hp_controlled.specs.Compiled.{name_if, names_with_contracts, contract_if, contracts_of, observed_all, numbered_of, AreObserved}
use Rattle.law_controlled.specs.Observers.{ObserversSuitLaw}

-- ---- nodes with contracts

abbrev pub name_of : Node × Contract → List ℕ
name_of x = x.0.name

abbrev pub contract_of : Node × Contract → Contract
contract_of x = x.1

pub names_are : (items : List Item) → names_with_contracts items ≡ map name_of (contracted_nodes items)
names_are [] = refl
names_are (TypeItem t ∷ items) = names_are items
names_are (NodeItem n ∷ items) = by n.contract (names_are items)
  where
    by : (o : Option Contract) → names_with_contracts items ≡ map name_of (contracted_nodes items) → name_if n.name o ++ names_with_contracts items ≡ map name_of (with_contract n o ++ contracted_nodes items)
    by None e = e
    by (Some c) e = ap (λ xs. n.name ∷ xs) e

pub contracts_are : (items : List Item) → contracts_of items ≡ map contract_of (contracted_nodes items)
contracts_are [] = refl
contracts_are (TypeItem t ∷ items) = contracts_are items
contracts_are (NodeItem n ∷ items) = by n.contract (contracts_are items)
  where
    by : (o : Option Contract) → contracts_of items ≡ map contract_of (contracted_nodes items) → contract_if o ++ contracts_of items ≡ map contract_of (with_contract n o ++ contracted_nodes items)
    by None e = e
    by (Some c) e = ap (λ xs. c ∷ xs) e

-- ---- the observer of a name

pub at_length : (before : List Observed) (o : Observed) (rest : List Observed) → slice_get (before ++ o ∷ rest) (length before) ≡ Some o
at_length [] o rest = refl
at_length (b ∷ before) o rest = at_length before o rest

module _ (P : Node → FlatNode → Type 0) (f : List ℕ) (o : Observed) where
  -- it is that of a contract of a node of this name
  abbrev pub Found : Type 0
  Found = (n : Node) × (c : Contract) × (g : FlatNode) × (n.name ≡ f) × (observed c g ≡ o) × P n g

  some_same : (own : Observed) → Some own ≡ Some o → own ≡ o
  some_same own h = cc

  module _ (x : Node × Contract) (g : FlatNode) (xs : List (Node × Contract)) (fs : List FlatNode) (before : List Observed) where
    abbrev own : Observed
    own = observed (contract_of x) g

    abbrev rest : List Observed
    rest = observed_all (map contract_of xs) fs

    found_or : P x.0 g → (b : Bool) → bytes_eq (name_of x) f ≡ b → numbered_of (before ++ own ∷ rest) (if b then Some (length before) else numbered (length before + 1) (map name_of xs) f) ≡ Some o
        → (numbered_of ((before ++ own ∷ []) ++ rest) (numbered (length (before ++ own ∷ [])) (map name_of xs) f) ≡ Some o → Found) → Found
    found_or p true q e r = (x.0, x.1, g, (bytes_eq-Decides (name_of x) f).0 q, some_same own (sym (at_length before own rest) ∙ e), p)
    found_or p false q e r = r (ap₂ (λ os k. numbered_of os (numbered k (map name_of xs) f)) (append_assoc before (own ∷ []) rest) (length-append before (own ∷ [])) ∙ e)

  found : (xs : List (Node × Contract)) (fs : List FlatNode) (before : List Observed) → EachObserved P xs fs
      → numbered_of (before ++ observed_all (map contract_of xs) fs) (numbered (length before) (map name_of xs) f) ≡ Some o → Found
  found [] [] before each e = absurd cc
  found [] (g ∷ fs) before each e = absurd each
  found (x ∷ xs) [] before each e = absurd each
  found (x ∷ xs) (g ∷ fs) before each e = found_or x g xs fs before each.0 (bytes_eq (name_of x) f) refl e (found xs fs (before ++ observed (contract_of x) g ∷ []) each.1)

-- each observer of a program is found by the name of its node
pub found_by : (P : Node → FlatNode → Type 0) (after : List Item) (observers : Observing) (are : AreObserved after observers) → EachObserved P (contracted_nodes after) are.nodes → (f : List ℕ) (o : Observed) → observers f ≡ Some o → Found P f o
found_by P after observers are each f o e = found P f o (contracted_nodes after) are.nodes [] each (sym same ∙ e)
  where
    same : observers f ≡ numbered_of (observed_all (map contract_of (contracted_nodes after)) are.nodes) (numbered 0 (map name_of (contracted_nodes after)) f)
    same = ap (λ (os : Observing). os f) are.are ∙ ap₂ (λ ns cs. numbered_of (observed_all cs are.nodes) (numbered 0 ns f)) (names_are after) (contracts_are after)

-- ---- the law

module _ (types : List ObcType) (all : Callees) (observer_law : ObserverLaw) (after : List Item) (observers : Observing) (are : AreObserved after observers) where
  abbrev Is : Node → FlatNode → Type 0
  Is n g = IsObserver types all n.name g × CallsOnly [] g.eqns

  module _ (each : EachObserved Is (contracted_nodes after) are.nodes) where
    it : (f : List ℕ) (o : Observed) → observers f ≡ Some o → Found Is f o
    it f o e = found_by Is after observers are each f o e

    suits : (f : List ℕ) (o : Observed) → Found Is f o → Suits types all f o
    suits f o h = subst (λ (z : Observed). Suits types all f z) h.4 (subst (λ x. Suits types all x (observed h.1 h.2)) h.3 (observer_law types all h.0.name h.1 h.2 h.5.0))

    calls : (f : List ℕ) (o : Observed) → Found Is f o → CallsOnly [] o.node.eqns
    calls f o h = subst (λ (z : Observed). CallsOnly [] z.node.eqns) h.4 h.5.1

    -- the observers suit, and call nothing, where they take what is said of the nodes that they belong to
    pub observers_suit_by : AllSuit types all observers × CallNothing observers
    observers_suit_by = ((λ f o e. suits f o (it f o e)), (λ f o e. calls f o (it f o e)))

pub observers_suit_law : ObservedLaw → ObserverLaw → ObserversSuitLaw
observers_suit_law observed_law observer_law program after observers ms r form signs can all_made are =
    let equations = are.equations in
    observers_suit_by (obc_types (types_of after)) (said_of after ms) observer_law after observers are (observed_law program after observers ms are.nodes r form signs can all_made equations.made)
