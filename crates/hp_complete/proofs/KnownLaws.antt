-- What is known of the names of a program agrees with what the program says.
use Rattle.std.proofs.Common.{◌≡◌, ℕ, suc, ◌+◌, ◌≤◌, Bool, true, false, if◌then◌else◌, List, [], ◌∷◌, ◌++◌, reverse, length, add-one, Option, None, Some, refl, sym, ap, subst, ◌∙◌, arith}
use Rattle.std.specs.Prelude.{min, ⊤, IfSome}
use Rattle.std.specs.List.{AllByRecursion, IsDistinct}
use Rattle.std.specs.Str.{bytes_eq}
use Rattle.std.proofs.lemmas.List.{append_assoc, append-nil, reverse-append}
use Rattle.std.proofs.lemmas.Map.Keys.{IsDistinct-head, IsDistinct-tail}
use Rattle.std.proofs.lemmas.Slice.Eq.{bytes_eq-Decides}
use Rattle.hp_base.specs.declared.ty.Const.{Const}
use Rattle.hp_base.specs.declared.ty.Const.TheVariants as const
use Rattle.hp_base.specs.declared.value.Value.TheVariants.{E}
use Rattle.hp_tree.specs.declared.decl.Cons.{Cons}
use Rattle.hp_tree.specs.declared.decl.Cons.TheVariants as cons
use Rattle.hp_tree.specs.declared.program.Item.{Item}
use Rattle.hp_tree.specs.declared.program.Item.TheVariants.{TypeItem, NodeItem}
use Rattle.hp_tree.specs.Operators.{Reading, place_in, or_later, constructor_from, constant_of, cons_of}
use Rattle.hp_tree.specs.Programs.{TypeDecl, Node}
use Rattle.hp_tree.specs.Meaning.{names_of, node_among, nodes, types_of}
use Rattle.law_equations.specs.Flattened.Numbered.{number_of}
use Rattle.law_equations.specs.Made.Making.{type_number, constructor_value, own_number, constant_value, cons_number, outputs_of}
use Rattle.hp_complete.specs.Declaring.{Constructors, with_constructors, constructors_of, with_node, with_nodes, known_of}
use Rattle.hp_complete.specs.KnownLaw.{ItemsFit, KnownLaw}
use Rattle.hp_complete.specs.Layers.{nothing}
use Rattle.hp_complete.specs.Signatures.{numbered, type_names, places_of}

-- ---- the numbers of types

-- these names have the numbers from t on
abbrev AreNumbered : (List ℕ → Option ℕ) → ℕ → List (List ℕ) → Type 0
AreNumbered f t [] = ⊤
AreNumbered f t (x ∷ xs) = (f x ≡ Some t) × AreNumbered f (t + 1) xs

numbered_alike : (f g : List ℕ → Option ℕ) (t : ℕ) (xs : List (List ℕ)) → AllByRecursion (λ x. f x ≡ g x) xs → AreNumbered g t xs → AreNumbered f t xs
numbered_alike f g t [] same h = h
numbered_alike f g t (x ∷ xs) same h = (same.0 ∙ h.0, numbered_alike f g (t + 1) xs same.1 h.1)

further : (t : ℕ) (x : List ℕ) (xs ys : List (List ℕ)) → AllByRecursion (λ y. bytes_eq x y ≡ false) ys → AllByRecursion (λ y. numbered t (x ∷ xs) y ≡ numbered (t + 1) xs y) ys
further t x xs [] h = h
further t x xs (y ∷ ys) h = (ap (λ d. if d then Some t else numbered (t + 1) xs y) h.0, further t x xs ys h.1)

are_numbered : (t : ℕ) (xs : List (List ℕ)) → IsDistinct bytes_eq xs → AreNumbered (numbered t xs) t xs
are_numbered t [] h = tt
are_numbered t (x ∷ xs) h = (
  ap (λ d. if d then Some t else numbered (t + 1) xs x) ((bytes_eq-Decides x x).1 refl),
  numbered_alike (numbered t (x ∷ xs)) (numbered (t + 1) xs) (t + 1) xs (further t x xs xs (IsDistinct-head bytes_eq x xs h)) (are_numbered (t + 1) xs (IsDistinct-tail bytes_eq x xs h)),
)

-- ---- constructors

module _ (x : List ℕ) where
  -- the constructors of a type, from number k on
  constructor_in_type : (t k : ℕ) (cs : List (List ℕ)) (others : Constructors) → k + length cs ≤ 256 → constructor_value (with_constructors t k cs others x) ≡ or_later t (place_in k cs x) (constructor_value (others x))
  constructor_in_type t k [] others h = refl
  constructor_in_type t k (c ∷ cs) others h =
      by (bytes_eq c x) (constructor_in_type t (k + 1) cs others (omega arith) ∙ ap (λ n. or_later t (place_in n cs x) (constructor_value (others x))) (add-one k))
    where
      by : (d : Bool) → constructor_value (with_constructors t (k + 1) cs others x) ≡ or_later t (place_in (suc k) cs x) (constructor_value (others x))
          → constructor_value (if d then Some (t, min k 255) else with_constructors t (k + 1) cs others x) ≡ or_later t (if d then Some k else place_in (suc k) cs x) (constructor_value (others x))
      by true ih = ap (E t) (let e : min k 255 ≡ k = omega arith in e)
      by false ih = ih

  constructor_of_types : (places : List ℕ → Option ℕ) (t : ℕ) (items : List Item) → AreNumbered places t (type_names items) → t + length (types_of items) ≤ 65535 → ItemsFit items
      → constructor_from t (types_of items) x ≡ constructor_value (constructors_of places items x)
  constructor_of_types places t [] numbers many fit = refl
  constructor_of_types places t (NodeItem n ∷ items) numbers many fit = constructor_of_types places t items numbers many fit.1
  constructor_of_types places t (TypeItem d ∷ items) numbers many fit =
      let number : type_number (places d.name) ≡ t = ap type_number numbers.0 ∙ (let e : min t 65535 ≡ t = omega arith in e) in
      let rest : constructor_from (suc t) (types_of items) x ≡ constructor_value (constructors_of places items x) =
      ap (λ n. constructor_from n (types_of items) x) (sym (add-one t)) ∙ constructor_of_types places (t + 1) items numbers.1 (omega arith) fit.1 in
      ap (or_later t (place_in 0 d.cons x)) rest
      ∙ sym (constructor_in_type t 0 d.cons (constructors_of places items) (omega (arith, fit.0)))
      ∙ ap (λ n. constructor_value (with_constructors n 0 d.cons (constructors_of places items) x)) (sym number)

number_of_value : (o : Option (ℕ × ℕ)) → number_of (constructor_value o) ≡ own_number o
number_of_value None = refl
number_of_value (Some p) = refl

module _ (items : List Item) (differ : IsDistinct bytes_eq (type_names items)) (many : length (types_of items) ≤ 65535) (fit : ItemsFit items) where
  constructor : (x : List ℕ) → constructor_from 0 (types_of items) x ≡ constructor_value ((known_of items).constructors x)
  constructor x = constructor_of_types x (places_of items) 0 items (are_numbered 0 (type_names items) differ) (omega (arith, many)) fit

  known_constant : (c : Const) → constant_of (types_of items) c ≡ constant_value (known_of items) c
  known_constant (const.B b) = refl
  known_constant (const.I n) = refl
  known_constant (const.E x) = constructor x

  known_cons : (c : Cons) → number_of (cons_of (types_of items) c) ≡ cons_number (known_of items) c
  known_cons cons.False = refl
  known_cons cons.True = refl
  known_cons (cons.Named x) = ap number_of (constructor x) ∙ number_of_value ((known_of items).constructors x)

-- ---- nodes

nodes_known : (items before : List Item) → with_nodes (node_among before) items ≡ node_among (reverse items ++ before)
nodes_known [] before = refl
nodes_known (item ∷ items) before = ap (λ f. with_nodes f items) (one item) ∙ nodes_known items (item ∷ before) ∙ ap node_among (moved)
  where
    one : (i : Item) → with_node (node_among before) i ≡ node_among (i ∷ before)
    one (TypeItem t) = refl
    one (NodeItem n) = refl

    moved : reverse items ++ (item ∷ before) ≡ reverse (item ∷ items) ++ before
    moved = sym (append_assoc (reverse items) (item ∷ []) before) ∙ ap (λ xs. xs ++ before) (sym (reverse-append (item ∷ []) items))

pub nodes-known : (items : List Item) (f : List ℕ) → with_nodes nothing items f ≡ node_among (reverse items) f
nodes-known items f = ap (λ g. g f) (nodes_known items []) ∙ ap (λ xs. node_among xs f) (append-nil (reverse items))

outputs_among : (types : List TypeDecl) (R : Reading) (items : List Item) (f : List ℕ) → (nodes types R items).outputs f ≡ names_of (outputs_of (node_among items f))
outputs_among types R [] f = refl
outputs_among types R (TypeItem t ∷ items) f = outputs_among types R items f
outputs_among types R (NodeItem n ∷ items) f = by (bytes_eq n.name f) (outputs_among types R items f)
  where
    by : (d : Bool) → (nodes types R items).outputs f ≡ names_of (outputs_of (node_among items f))
        → (if d then names_of n.outputs else (nodes types R items).outputs f) ≡ names_of (outputs_of (if d then Some n else node_among items f))
    by true h = refl
    by false h = h

abbrev HasOwn : Node → Type 0
HasOwn n = IsDistinct bytes_eq (names_of n.outputs)

own_names : (items : List Item) (before : List ℕ → Option Node) → ((f : List ℕ) → IfSome (before f) HasOwn) → ItemsFit items → (f : List ℕ) → IfSome (with_nodes before items f) HasOwn
own_names [] before known fit = known
own_names (TypeItem t ∷ items) before known fit = own_names items before known fit.1
own_names (NodeItem n ∷ items) before known fit = own_names items (with_node before (NodeItem n)) (λ f. by f (bytes_eq n.name f)) fit.1
  where
    by : (f : List ℕ) (d : Bool) → IfSome (if d then Some n else before f) HasOwn
    by f true = fit.0
    by f false = known f

none_differ : IsDistinct bytes_eq []
unfolding IsDistinct
none_differ = tt

outputs_own : (o : Option Node) → IfSome o HasOwn → IsDistinct bytes_eq (names_of (outputs_of o))
outputs_own None h = none_differ
outputs_own (Some n) h = h

pub known : KnownLaw
known R items differ many fit =
    let types = types_of items in
    let given : (f : List ℕ) → (nodes types R (reverse items)).outputs f ≡ names_of (outputs_of ((known_of items).nodes f)) =
    λ f. outputs_among types R (reverse items) f ∙ sym (ap (λ o. names_of (outputs_of o)) (nodes-known items f)) in
    record {
      constructors = known_cons items differ many fit;
      constants = known_constant items differ many fit;
      calls = given;
      outputs_differ = λ f. subst (IsDistinct bytes_eq) (sym (given f)) (outputs_own ((known_of items).nodes f) (own_names items nothing (λ f. tt) fit f));
    }
