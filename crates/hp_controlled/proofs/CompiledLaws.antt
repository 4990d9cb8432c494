-- The machines of a program, one item after another.
use Rattle.std.proofs.Common.{◌≡◌, ℕ, zero, suc, ◌+◌, ◌<◌, ◌≤◌, List, [], ◌∷◌, ◌++◌, map, length, drop, get_or, Option, None, Some, refl, sym, ap, ◌∙◌, subst, arith}
use Rattle.std.specs.Prelude.{slice_get}
use Rattle.std.proofs.lemmas.List.{append_assoc, append-nil, drop_all}
use Rattle.hp_obc.specs.Machines.{Machine, ObcType}
use Rattle.hp_tree.specs.Programs.{Node, TypeDecl}
use Rattle.hp_tree.specs.declared.program.Item.{Item}
use Rattle.hp_tree.specs.declared.program.Item.TheVariants.{NodeItem, TypeItem}
use Rattle.hp_flat.specs.Nodes.{FlatNode}
use Rattle.hp_machines.specs.Making.{AreMade}
use Rattle.hp_watch.specs.Watching.{Observed, Observing, observed, observer_seen, seen_at}
use Rattle.hp_watch.specs.declared.watching.Observer as held
use Rattle.hp_tables.specs.Declarations.Tables.{numbered}
use Rattle.hp_controlled.specs.Choosing.{AreNodesOf}
use Rattle.hp_controlled.specs.Compiled.{AreEquationsOf, AreObserved, HaveMachines, by_names, contracts_of, name_if, names_with_contracts, numbered_of, observed_all}
use Rattle.hp_controlled.specs.Compiled.AreNodes.{of_none, of_a_type, of_a_node}
use Rattle.hp_controlled.specs.Lacking.{FitContracts, LacksCompiled, LacksMachines, OneLacksMachines}
use Rattle.hp_controlled.specs.Lacking.LacksCompiled.{one_lacks}
use Rattle.hp_controlled.specs.Lacking.OneLacksMachines.{none_left, here, behind_a_node, behind_a_type}

split : {A : Type 0} (xs : List A) (i : ℕ) (x : A) → i < length xs → x ≡ get_or xs i x → drop i xs ≡ x ∷ drop (suc i) xs
split [] i x h e = absurd (omega (arith, h))
split (y ∷ xs) zero x h e = λ j. sym e j ∷ xs
split (y ∷ xs) (suc i) x h e = split xs i x (omega (arith, h)) e

pub split-next : {A : Type 0} (xs : List A) (i : ℕ) (x : A) → i < length xs → x ≡ get_or xs i x → drop i xs ≡ x ∷ drop (i + 1) xs
split-next xs i x h e = split xs i x h e ∙ ap (λ k. x ∷ drop k xs) (let same : suc i ≡ i + 1 = omega arith in same)

pub nothing_left : {A : Type 0} (xs ys : List A) → xs ≡ ys → length ys ≡ 0 → xs ≡ []
nothing_left xs [] e h = e
nothing_left xs (y ∷ ys) e h = absurd (omega (arith, h))

-- ---- machines

made_both : (types : List ObcType) (ns others : List FlatNode) (ms more : List Machine) → AreMade types ns ms → AreMade types others more → AreMade types (ns ++ others) (ms ++ more)
made_both types [] others [] more h k = k
made_both types [] others (m ∷ ms) more h k = absurd h
made_both types (n ∷ ns) others [] more h k = absurd h
made_both types (n ∷ ns) others (m ∷ ms) more h k = (h.0, made_both types ns others ms more h.1 k)

module _ (program : List Item) (types : List ObcType) (observers : Observing) where
  abbrev Have : List Item → List FlatNode → List Machine → Type 0
  Have = HaveMachines program types observers

  pub put_type : (item : Item) (t : TypeDecl) (waiting : List FlatNode) (before : List Machine) → item ≡ TypeItem t → (these : List Machine) × (before ≡ before ++ these)
      × ((rest : List Item) (more : List Machine) → HaveMachines program types observers rest waiting more → HaveMachines program types observers (item ∷ rest) waiting (these ++ more))
  put_type item t waiting before is = (
    [],
    sym (append-nil before),
    λ rest more have. subst (λ x. Have (x ∷ rest) waiting more) (sym is) (record { nodes = have.nodes; are = of_a_type t have.are; made = have.made }),
  )

  pub put_node : (item : Item) (node : Node) (waiting left : List FlatNode) (before after : List Machine) → item ≡ NodeItem node
      → (n : FlatNode) × (nodes : List FlatNode) × (ms : List Machine) × (waiting ≡ n ∷ left) × (after ≡ before ++ ms) × AreNodesOf program types observers node n nodes × AreMade types nodes ms
      → (these : List Machine) × (after ≡ before ++ these) × ((rest : List Item) (more : List Machine) → HaveMachines program types observers rest left more → HaveMachines program types observers (item ∷ rest) waiting (these ++ more))
  put_node item node waiting left before after is put = (
    put.2,
    put.4,
    λ rest more have.
        subst (λ x. Have (x ∷ rest) waiting (put.2 ++ more)) (sym is)
        (subst (λ ns. Have (NodeItem node ∷ rest) ns (put.2 ++ more)) (sym put.3)
        (record { nodes = put.1 ++ have.nodes; are = of_a_node node put.0 put.1 put.5 have.are; made = made_both types put.1 have.nodes put.2 more put.6 have.made })),
  )

  pub next_machines : (items : List Item) (plants : List FlatNode) (i : ℕ) (item : Item) (waiting left : List FlatNode) (before after : List Machine)
      → ((more : List Machine) → HaveMachines program types observers (drop i items) waiting more → HaveMachines program types observers items plants (before ++ more)) → i < length items → item ≡ get_or items i item
      → (these : List Machine) × (after ≡ before ++ these) × ((rest : List Item) (more : List Machine) → HaveMachines program types observers rest left more → HaveMachines program types observers (item ∷ rest) waiting (these ++ more))
      → (more : List Machine) → HaveMachines program types observers (drop (i + 1) items) left more → HaveMachines program types observers items plants (after ++ more)
  next_machines items plants i item waiting left before after so_far below is put more have =
      let here = subst (λ xs. Have xs waiting (put.0 ++ more)) (sym (split-next items i item below is)) (put.2 (drop (i + 1) items) more have) in
      subst (λ ms. Have items plants ms) (sym (append_assoc before put.0 more) ∙ ap (λ ms. ms ++ more) (sym put.1)) (so_far (put.0 ++ more) here)

  pub all_put : (items : List Item) (plants : List FlatNode) (i : ℕ) (waiting : List FlatNode) (all : List Machine)
      → ((more : List Machine) → HaveMachines program types observers (drop i items) waiting more → HaveMachines program types observers items plants (all ++ more)) → length items ≤ i → HaveMachines program types observers items plants all
  all_put items plants i waiting all so_far past =
      let none : HaveMachines program types observers [] waiting [] = record { nodes = []; are = of_none; made = tt } in
      let last = subst (λ xs. Have xs waiting []) (sym (drop_all i items past)) none in
      subst (λ ms. Have items plants ms) (append-nil all) (so_far [] last)

  -- ---- one that lacks its machines

  abbrev Lacks : List Item → List FlatNode → Type 0
  Lacks = OneLacksMachines program types observers

  pub lacks_type : (item : Item) (t : TypeDecl) (waiting : List FlatNode) → item ≡ TypeItem t → (items : List Item) → OneLacksMachines program types observers items waiting → OneLacksMachines program types observers (item ∷ items) waiting
  lacks_type item t waiting is items lacks = subst (λ x. Lacks (x ∷ items) waiting) (sym is) (behind_a_type t lacks)

  pub lacks_node : (item : Item) (node : Node) (waiting left : List FlatNode) (before after : List Machine) → item ≡ NodeItem node
      → (n : FlatNode) × (nodes : List FlatNode) × (ms : List Machine) × (waiting ≡ n ∷ left) × (after ≡ before ++ ms) × AreNodesOf program types observers node n nodes × AreMade types nodes ms
      → (items : List Item) → OneLacksMachines program types observers items left → OneLacksMachines program types observers (item ∷ items) waiting
  lacks_node item node waiting left before after is put items lacks = subst (λ x. Lacks (x ∷ items) waiting) (sym is) (subst (Lacks (NodeItem node ∷ items)) (sym put.3) (behind_a_node node put.0 lacks))

  pub lacks_here : (node : Node) (n : FlatNode) (waiting left : List FlatNode) → waiting ≡ n ∷ left → LacksMachines program types observers node n → (items : List Item) → OneLacksMachines program types observers (NodeItem node ∷ items) waiting
  lacks_here node n waiting left is lacks items = subst (Lacks (NodeItem node ∷ items)) (sym is) (here node n lacks)

  pub lacks_all : (node : Node) (waiting : List FlatNode) → waiting ≡ [] → (items : List Item) → OneLacksMachines program types observers (NodeItem node ∷ items) waiting
  lacks_all node waiting is items = subst (Lacks (NodeItem node ∷ items)) (sym is) (none_left node)

  pub next_lacks : (items : List Item) (plants : List FlatNode) (i : ℕ) (item : Item) (waiting left : List FlatNode) → (OneLacksMachines program types observers (drop i items) waiting → OneLacksMachines program types observers items plants)
      → i < length items → item ≡ get_or items i item → ((rest : List Item) → OneLacksMachines program types observers rest left → OneLacksMachines program types observers (item ∷ rest) waiting)
      → OneLacksMachines program types observers (drop (i + 1) items) left → OneLacksMachines program types observers items plants
  next_lacks items plants i item waiting left so_far below is behind lacks = so_far (subst (λ xs. Lacks xs waiting) (sym (split-next items i item below is)) (behind (drop (i + 1) items) lacks))

  pub lacks_now : (items : List Item) (plants : List FlatNode) (i : ℕ) (item : Item) (waiting : List FlatNode) → (OneLacksMachines program types observers (drop i items) waiting → OneLacksMachines program types observers items plants)
      → i < length items → item ≡ get_or items i item → ((rest : List Item) → OneLacksMachines program types observers (item ∷ rest) waiting) → OneLacksMachines program types observers items plants
  lacks_now items plants i item waiting so_far below is lacks = so_far (subst (λ xs. Lacks xs waiting) (sym (split-next items i item below is)) (lacks (drop (i + 1) items)))

pub one_of_all : (program p items : List Item) (types t : List ObcType) (observers o : Observing) (plants : List FlatNode) → p ≡ program → t ≡ types → o ≡ observers → items ≡ program → AreEquationsOf program plants → AreObserved program observers
    → OneLacksMachines p t o items plants → LacksCompiled program types
one_of_all program p items types t observers o plants e f g h equations observed lacks =
    let first = subst (λ (z : List Item). OneLacksMachines z t o items plants) e lacks in
    let second = subst (λ (z : List ObcType). OneLacksMachines program z o items plants) f first in
    let third = subst (λ (z : Observing). OneLacksMachines program types z items plants) g second in
    one_lacks plants observers equations observed (subst (λ (z : List Item). OneLacksMachines program types observers z plants) h third)

-- ---- names

names_first : (item : Item) (items : List Item) → names_with_contracts (item ∷ items) ≡ names_with_contracts (item ∷ []) ++ names_with_contracts items
names_first (TypeItem t) items = refl
names_first (NodeItem n) items = ap (λ xs. xs ++ names_with_contracts items) (sym (append-nil (name_if n.name n.contract)))

pub names-next : (items : List Item) (i : ℕ) (item : Item) (before after : List (List ℕ)) → i < length items → item ≡ get_or items i item → after ≡ before ++ names_with_contracts (item ∷ [])
    → after ++ names_with_contracts (drop (i + 1) items) ≡ before ++ names_with_contracts (drop i items)
names-next items i item before after below is put =
    let rest = names_with_contracts (drop (i + 1) items) in
    ap (λ xs. xs ++ rest) put ∙ append_assoc before (names_with_contracts (item ∷ [])) rest
    ∙ ap (λ xs. before ++ xs) (sym (names_first item (drop (i + 1) items)) ∙ ap names_with_contracts (sym (split-next items i item below is)))

pub names-end : (items : List Item) (i : ℕ) (names : List (List ℕ)) → length items ≤ i → names ++ names_with_contracts (drop i items) ≡ names
names-end items i names past = ap (λ xs. names ++ names_with_contracts xs) (drop_all i items past) ∙ append-nil names

-- ---- observers

pub observed-next : (items : List Item) (i : ℕ) (item : Item) (waiting left : List FlatNode) (before after : List Observed) → i < length items → item ≡ get_or items i item
    → ((rest : List Item) → after ++ observed_all (contracts_of rest) left ≡ before ++ observed_all (contracts_of (item ∷ rest)) waiting)
    → after ++ observed_all (contracts_of (drop (i + 1) items)) left ≡ before ++ observed_all (contracts_of (drop i items)) waiting
observed-next items i item waiting left before after below is put = put (drop (i + 1) items) ∙ ap (λ xs. before ++ observed_all (contracts_of xs) waiting) (sym (split-next items i item below is))

pub observed-end : (items : List Item) (i : ℕ) (waiting : List FlatNode) (all : List Observed) → length items ≤ i → all ++ observed_all (contracts_of (drop i items)) waiting ≡ all
observed-end items i waiting all past = ap (λ xs. all ++ observed_all (contracts_of xs) waiting) (drop_all i items past) ∙ append-nil all

pub fits-next : (items : List Item) (i : ℕ) (item : Item) (waiting left flats : List FlatNode) → (FitContracts (contracts_of items) flats → FitContracts (contracts_of (drop i items)) waiting) → i < length items → item ≡ get_or items i item
    → ((rest : List Item) → FitContracts (contracts_of (item ∷ rest)) waiting → FitContracts (contracts_of rest) left) → FitContracts (contracts_of items) flats → FitContracts (contracts_of (drop (i + 1) items)) left
fits-next items i item waiting left flats so_far below is behind fits = behind (drop (i + 1) items) (subst (λ xs. FitContracts (contracts_of xs) waiting) (split-next items i item below is) (so_far fits))

pub fits-now : (items : List Item) (i : ℕ) (item : Item) (waiting flats : List FlatNode) → (FitContracts (contracts_of items) flats → FitContracts (contracts_of (drop i items)) waiting) → i < length items → item ≡ get_or items i item
    → ((rest : List Item) → FitContracts (contracts_of (item ∷ rest)) waiting → ⊥) → FitContracts (contracts_of items) flats → ⊥
fits-now items i item waiting flats so_far below is none fits = none (drop (i + 1) items) (subst (λ xs. FitContracts (contracts_of xs) waiting) (split-next items i item below is) (so_far fits))

-- the observer of a number
observer_at : (os : List held.Observer) (k : ℕ) → seen_at os (Some k) ≡ slice_get (map observer_seen os) k
observer_at [] k = refl
observer_at (o ∷ os) zero = refl
observer_at (o ∷ os) (suc k) = observer_at os k

by_number : (os : List held.Observer) (number : Option ℕ) → seen_at os number ≡ numbered_of (map observer_seen os) number
by_number os None = refl
by_number os (Some k) = observer_at os k

-- observers that are held by the numbers of names
pub by_number_of : (os : List held.Observer) (said : List ℕ → Option ℕ) (names : List (List ℕ)) (all : List Observed) → said ≡ numbered 0 names → map observer_seen os ≡ all → (λ (f : List ℕ). seen_at os (said f)) ≡ by_names names all
by_number_of os said names all says are = λ j f. (ap (λ (s : List ℕ → Option ℕ). seen_at os (s f)) says ∙ by_number os (numbered 0 names f) ∙ ap (λ zs. numbered_of zs (numbered 0 names f)) are) j
