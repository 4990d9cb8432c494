-- Each node with a contract has the observer of that by its name, among the observers of a program.
use Rattle.std.proofs.Common.{◌≡◌, ℕ, ◌+◌, Bool, true, false, ◌||◌, if◌then◌else◌, List, [], ◌∷◌, ◌++◌, length, map, reverse, Option, None, Some, refl, sym, ap, ap₂, ◌∙◌}
use Rattle.std.specs.List.{AllByRecursion}
use Rattle.std.specs.Prelude.{⊤}
use Rattle.std.specs.Str.{bytes_eq}
use Rattle.std.proofs.lemmas.List.{append_assoc, length-append}
use Rattle.std.proofs.lemmas.Slice.Eq.{bytes_eq-Decides}
use Rattle.hp_complete.specs.Declaring.{known_of}
use Rattle.hp_complete.specs.Made.{AreMadeOf}
use Rattle.hp_complete.specs.Signatures.{numbered}
use Rattle.hp_tree.specs.declared.program.Item.{Item}
use Rattle.hp_tree.specs.declared.program.Item.TheVariants.{NodeItem, TypeItem}
use Rattle.hp_tree.specs.Programs.{Contract, Node}
use Rattle.hp_automata.specs.Lowering.{Enumerations, enumerations, lowered_item, lowered_program}
use Rattle.hp_flat.specs.Nodes.{FlatNode}
use Rattle.hp_watch.specs.Observing.{observer_if, observers}
use Rattle.hp_watch.specs.Watching.{Observed, Observing, observed}
use Rattle.law_automata.proofs.LowerableLemmas.Texts.{onto}
use Rattle.law_equations.specs.Answered.Answering.{AreApart, has_node}
use Rattle.law_equations.specs.Made.Making.{Known}
use Rattle.law_choices.specs.Embedded.Observers.{AreObserversOf}
use Rattle.law_choices.specs.InTurn.Observed.{EachObserved, contracted_nodes, with_contract}
use Rattle.hp_controlled.specs.Compiled.{AreObserved, numbered_of, observed_all}
use Rattle.law_controlled.proofs.ObserverLaws.{at_length, contract_of, contracts_are, name_of, names_are}

-- ---- the names of nodes with contracts differ

-- other names than this one
abbrev Others : List ℕ → List (Node × Contract) → Type 0
Others f xs = AllByRecursion (λ (x : Node × Contract). bytes_eq f (name_of x) ≡ false) xs

abbrev Differ : List (Node × Contract) → Type 0
Differ [] = ⊤
Differ (x ∷ xs) = Others (name_of x) xs × Differ xs

behind : (xs ys : List Item) → AreApart (onto xs ys) → AreApart ys
behind [] ys h = h
behind (TypeItem t ∷ xs) ys h = behind xs (TypeItem t ∷ ys) h
behind (NodeItem n ∷ xs) ys h = (behind xs (NodeItem n ∷ ys) h).1

-- a name that stands before is none of those behind
others : (items done : List Item) (f : List ℕ) → AreApart (onto items done) → has_node done f ≡ true → Others f (contracted_nodes items)
others [] done f a h = tt
others (TypeItem t ∷ items) done f a h = others items (TypeItem t ∷ done) f a h
others (NodeItem m ∷ items) done f a h = by m.contract (others items (NodeItem m ∷ done) f a (ap (λ b. bytes_eq m.name f || b) h ∙ or-true (bytes_eq m.name f)))
  where
    or-true : (b : Bool) → (b || true) ≡ true
    or-true true = refl
    or-true false = refl

    apart : bytes_eq f m.name ≡ false
    apart = no (bytes_eq f m.name) refl
      where
        no : (b : Bool) → bytes_eq f m.name ≡ b → bytes_eq f m.name ≡ false
        no false e = e
        no true e =
            let same : f ≡ m.name = (bytes_eq-Decides f m.name).0 e in
            let none : has_node done m.name ≡ false = (behind items (NodeItem m ∷ done) a).0 in
            absurd (let clash : true ≡ false = sym h ∙ ap (has_node done) same ∙ none in cc)

    by : (o : Option Contract) → Others f (contracted_nodes items) → Others f (with_contract m o ++ contracted_nodes items)
    by None rest = rest
    by (Some c) rest = (apart, rest)

differ : (items done : List Item) → AreApart (onto items done) → Differ (contracted_nodes items)
differ [] done a = tt
differ (TypeItem t ∷ items) done a = differ items (TypeItem t ∷ done) a
differ (NodeItem n ∷ items) done a = by n.contract (differ items (NodeItem n ∷ done) a) (others items (NodeItem n ∷ done) n.name a (ap (λ b. b || has_node done n.name) ((bytes_eq-Decides n.name n.name).1 refl)))
  where
    by : (o : Option Contract) → Differ (contracted_nodes items) → Others n.name (contracted_nodes items) → Differ (with_contract n o ++ contracted_nodes items)
    by None rest own = rest
    by (Some c) rest own = (own, rest)

-- ---- as many equations, and the contracts of the nodes

abbrev Any : Node → FlatNode → Type 0
Any n g = ⊤

module _ (k : Known) (enums : Enumerations) where
  abbrev low : List Item → List Item
  low items = map (lowered_item enums) items

  as-many : (items : List Item) (fs : List FlatNode) → AreMadeOf k (low (observers items)) fs → EachObserved Any (contracted_nodes items) fs
  as-many [] [] made = tt
  as-many [] (f ∷ fs) made = absurd made
  as-many (TypeItem t ∷ items) fs made = as-many items fs made
  as-many (NodeItem n ∷ items) fs made = by n.contract fs made (λ gs m. as-many items gs m)
    where
      by : (o : Option Contract) (gs : List FlatNode) → AreMadeOf k (low (observer_if n o ++ observers items)) gs → ((hs : List FlatNode) → AreMadeOf k (low (observers items)) hs → EachObserved Any (contracted_nodes items) hs) → EachObserved Any (with_contract n o ++ contracted_nodes items) gs
      by None gs m rest = rest gs m
      by (Some c) [] m rest = absurd m
      by (Some c) (g ∷ gs) m rest = (tt, rest gs m.1)

abbrev IsOwn : Node × Contract → Type 0
IsOwn x = x.0.contract ≡ Some (contract_of x)

own-contracts : (items : List Item) → AllByRecursion IsOwn (contracted_nodes items)
own-contracts [] = tt
own-contracts (TypeItem t ∷ items) = own-contracts items
own-contracts (NodeItem n ∷ items) = by n.contract refl (own-contracts items)
  where
    by : (o : Option Contract) → n.contract ≡ o → AllByRecursion IsOwn (contracted_nodes items) → AllByRecursion IsOwn (with_contract n o ++ contracted_nodes items)
    by None e rest = rest
    by (Some c) e rest = (e, rest)

-- ---- found by their names

each-as : (D : Node × Contract → Type 0) (P Q : Node → FlatNode → Type 0) → ((x : Node × Contract) (g : FlatNode) → D x → P x.0 g → Q x.0 g) → (xs : List (Node × Contract)) (fs : List FlatNode) → AllByRecursion D xs → EachObserved P xs fs → EachObserved Q xs fs
each-as D P Q f [] [] d h = tt
each-as D P Q f [] (g ∷ fs) d h = absurd h
each-as D P Q f (x ∷ xs) [] d h = absurd h
each-as D P Q f (x ∷ xs) (g ∷ fs) d h = (f x g d.0 h.0, each-as D P Q f xs fs d.1 h.1)

-- it is found behind some others
abbrev Found : List Observed → ℕ → List (List ℕ) → Node → FlatNode → Type 0
Found os from names n g = (c : Contract) → n.contract ≡ Some c → numbered_of os (numbered from names n.name) ≡ Some (observed c g)

found : (xs : List (Node × Contract)) (fs : List FlatNode) (before : List Observed) → Differ xs → AllByRecursion IsOwn xs → EachObserved Any xs fs → EachObserved (Found (before ++ observed_all (map contract_of xs) fs) (length before) (map name_of xs)) xs fs
found [] [] before d own any = tt
found [] (g ∷ fs) before d own any = absurd any
found (x ∷ xs) [] before d own any = absurd any
found (x ∷ xs) (g ∷ fs) before d own any =
    let mine = observed (contract_of x) g in
    let rest = observed_all (map contract_of xs) fs in
    let all = before ++ mine ∷ rest in
    let names = map name_of xs in
    let first : Found all (length before) (name_of x ∷ names) x.0 g = (λ c is.
    let same : contract_of x ≡ c = (let both : Some (contract_of x) ≡ Some c = sym own.0 ∙ is in cc) in
    ap (λ (b : Bool). numbered_of all (if b then Some (length before) else numbered (length before + 1) names x.0.name)) ((bytes_eq-Decides (name_of x) x.0.name).1 refl) ∙ at_length before mine rest ∙ ap (λ (c : Contract). Some (observed c g)) same) in
    let later = found xs fs (before ++ mine ∷ []) d.1 own.1 any.1 in
    let moved : EachObserved (Found all (length before) (name_of x ∷ names)) xs fs =
    each-as (λ (y : Node × Contract). bytes_eq (name_of x) (name_of y) ≡ false) (Found ((before ++ mine ∷ []) ++ rest) (length (before ++ mine ∷ [])) names) (Found all (length before) (name_of x ∷ names))
    (λ y h e p c is. ap (λ (b : Bool). numbered_of all (if b then Some (length before) else numbered (length before + 1) names y.0.name)) e
    ∙ ap₂ (λ os i. numbered_of os (numbered i names y.0.name)) (sym (append_assoc before (mine ∷ []) rest)) (sym (length-append before (mine ∷ []))) ∙ p c is) xs fs d.0 later in
    (first, moved)

-- ---- of a program

pub own_observers : (after : List Item) (observing : Observing) → AreObserved after observing → AreApart (reverse after) → AreObserversOf after observing
own_observers after observing are apart =
    let xs = contracted_nodes after in
    let fs = are.nodes in
    let made = (are.equations).made in
    let any = as-many (known_of (lowered_program (observers after))) (enumerations [] (observers after)) after fs made in
    let by_names = found xs fs [] (differ after [] apart) (own-contracts after) any in
    record {
      nodes = fs;
      equations = made;
      are =
          each-as (λ (x : Node × Contract). ⊤) (Found (observed_all (map contract_of xs) fs) 0 (map name_of xs)) (λ (n : Node) (g : FlatNode). (c : Contract) → n.contract ≡ Some c → observing n.name ≡ Some (observed c g))
          (λ x g d p c is. ap (λ (os : Observing). os x.0.name) are.are ∙ ap₂ (λ ns cs. numbered_of (observed_all cs fs) (numbered 0 ns x.0.name)) (names_are after) (contracts_are after) ∙ p c is) xs fs (all-any xs) by_names;
    }
  where
    all-any : (xs : List (Node × Contract)) → AllByRecursion (λ (x : Node × Contract). ⊤) xs
    all-any [] = tt
    all-any (x ∷ xs) = (tt, all-any xs)
