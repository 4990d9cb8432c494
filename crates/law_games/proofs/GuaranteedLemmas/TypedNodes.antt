-- An instant that fits whole has the values that the guarantee of a run asks for, in each instance.
use Rattle.std.proofs.Common.{◌≡◌, ℕ, List, [], ◌∷◌, ◌++◌, refl, sym, ap, subst, ◌∙◌, ◌⊎◌, inl, inr, append_assoc}
use Rattle.std.proofs.lemmas.List.Elements.{All-nil, All-cons}
use Rattle.std.specs.Prelude.{ℤ, Bool, true, false, IsTrue, if◌then◌else◌, All, Some, reverse}
use Rattle.std.specs.Bool.{MatchBool}
use Rattle.std.specs.Str.{bytes_eq}
use Rattle.hp_base.specs.declared.ty.Ty.{Ty}
use Rattle.hp_base.specs.declared.ty.Ty.TheVariants as ty
use Rattle.hp_base.specs.declared.value.Value.{Value}
use Rattle.hp_base.specs.declared.value.Value.TheVariants.{Absent, Nil, B, E, I, Star}
use Rattle.hp_tree.specs.declared.program.Item.{Item}
use Rattle.hp_tree.specs.declared.program.Item.TheVariants.{TypeItem, NodeItem}
use Rattle.hp_tree.specs.Blocks.{Decl}
use Rattle.hp_tree.specs.Programs.{TypeDecl, Node}
use Rattle.hp_tree.specs.Operators.{marked, is_there}
use Rattle.hp_tree.specs.Values.{IsOf, AreOf}
use Rattle.hp_tree.specs.Instant.{Named, Fresh, First, Second, Instance, Place, Instant, Past}
use Rattle.hp_tree.specs.Meaning.{types_of, node_among}
use Rattle.hp_tree.specs.Reaction.{Each}
use Rattle.hp_meaning.specs.Causal.Points.{Placed, points}
use Rattle.hp_meaning.specs.Contract.ChosenRuns.{NamesApart}
use Rattle.hp_meaning.specs.Contract.Forgetting.{is_forgotten, erased, WellValued}
use Rattle.hp_meaning.specs.Contract.FreePlaces.{IsAbstractOf, InputsFit, OutputFits, calls_of, instance_at, declared_outputs}
use Rattle.hp_meaning.specs.Contract.Guarantee.{Through, TypedNode, TypedAll}
use Rattle.law_values.specs.Valued.Classed.{seen_in_node}
use Rattle.law_values.specs.Valued.Fitting.{OutputsFit, NodeFits}
use Rattle.law_values.specs.Valued.Values.{scope_behind, either_of, Classing, class_here, class_behind}
use Rattle.law_values.proofs.ValuedLemmas.Loosen.{node_loose}
use Rattle.law_games.proofs.ForcedLemmas.EachCall.{each_all}
use Rattle.law_games.proofs.GuaranteedLemmas.Apart.{found_among}
use Rattle.law_games.proofs.GuaranteedLemmas.Callees.{CallFits, node_calls}
use Rattle.law_games.proofs.GuaranteedLemmas.Solid.{IsFlag, IsNumber, Solid}
use Rattle.law_games.proofs.GuaranteedLemmas.Wholes.{HasInputs, WholeFits}

-- ---- values

abstract_of : (types : List TypeDecl) (t : Ty) (v : Value) → IsOf types t v → IsAbstractOf types t v
abstract_of types ty.Bool (B b) h = (b, refl)
abstract_of types ty.Int (I n) h = refl
abstract_of types (ty.Enum t) (E u k) h = h
abstract_of types ty.Bool Absent h = absurd h
abstract_of types ty.Bool Nil h = absurd h
abstract_of types ty.Bool (E u k) h = absurd h
abstract_of types ty.Bool (I n) h = absurd h
abstract_of types ty.Bool Star h = absurd h
abstract_of types ty.Int Absent h = absurd h
abstract_of types ty.Int Nil h = absurd h
abstract_of types ty.Int (E u k) h = absurd h
abstract_of types ty.Int (B n) h = absurd h
abstract_of types ty.Int Star h = absurd h
abstract_of types (ty.Enum t) Absent h = absurd h
abstract_of types (ty.Enum t) Nil h = absurd h
abstract_of types (ty.Enum t) (B u) h = absurd h
abstract_of types (ty.Enum t) (I n) h = absurd h
abstract_of types (ty.Enum t) Star h = absurd h

inputs_fit : (types : List TypeDecl) (ds : List Decl) (vs : List Value) → AreOf types ds vs → InputsFit types ds vs
inputs_fit types [] [] h = tt
inputs_fit types [] (v ∷ vs) h = absurd h
inputs_fit types (d ∷ ds) [] h = absurd h
inputs_fit types (d ∷ ds) (v ∷ vs) h = (abstract_of types d.ty v h.0, inputs_fit types ds vs h.1)

-- what is marked is an integer, or the mark
number_of : {X : Type 0} (v : Value) → marked v ≡ Star → (v ≡ Star → ⊥) → ((n : ℤ) → v ≡ I n → X) → X
number_of (I n) e h f = f n refl
number_of Star e h f = absurd (h refl)
number_of Absent e h f = absurd (cc)
number_of Nil e h f = absurd (cc)
number_of (B b) e h f = absurd (cc)
number_of (E t k) e h f = absurd (cc)

-- what is not forgotten
kept_number : {X : Type 0} (d : Bool) (v : Value) → (if d then Absent else marked v) ≡ Star → (v ≡ Star → ⊥) → ((n : ℤ) → v ≡ I n → X) → X
kept_number true v e h f = absurd (cc)
kept_number false v e h f = number_of v e h f

no_number : {X : Type 0} (d : Bool) (v : Value) (n : ℤ) → v ≡ I n → (if d then Absent else marked v) ≡ v → X
no_number true v n q e = absurd (let z : Absent ≡ I n = e ∙ q in cc)
no_number false v n q e = absurd (let z : Star ≡ I n = sym (ap marked q) ∙ e ∙ q in cc)

-- what is there as the abstraction sees it
seen_there : (d : Bool) (v : Value) → IsTrue (is_there (if d then Absent else marked v)) → IsTrue (is_there v)
seen_there true v h = absurd (cc)
seen_there false Absent h = h
seen_there false Nil h = refl
seen_there false (B b) h = refl
seen_there false (E t k) h = refl
seen_there false (I n) h = refl
seen_there false Star h = refl

made_there : (v : Value) → IsFlag v ⊎ IsNumber v → v ≡ Absent → ⊥
made_there v (inl h) e = absurd (let z : B h.0 ≡ Absent = sym h.1 ∙ e in cc)
made_there v (inr h) e = absurd (let z : I h.0 ≡ Absent = sym h.1 ∙ e in cc)

well_valued : (i : Instant) → Solid i → WellValued i
well_valued i h = record { no_mark = λ p. (h p).0; of_numbers = λ p a b e f. made_there (i p) ((h p).1 a b e f) }

flag_given : (d : Bool) (v : Value) → IsFlag v ⊎ IsNumber v → (if d then Absent else marked v) ≡ v → IsFlag v
flag_given d v (inl h) e = h
flag_given d v (inr h) e = no_number d v h.0 h.1 e

compared : (i : Instant) → Solid i → (p : Place) → erased i (p ++ (First ∷ [])) ≡ Star → erased i (p ++ (Second ∷ [])) ≡ Star → erased i p ≡ i p → IsFlag (i p)
compared i h p e f g =
    kept_number (is_forgotten (p ++ (First ∷ []))) (i (p ++ (First ∷ []))) e (h (p ++ (First ∷ []))).0
    (λ m q. kept_number (is_forgotten (p ++ (Second ∷ []))) (i (p ++ (Second ∷ []))) f (h (p ++ (Second ∷ []))).0
    (λ n r. flag_given (is_forgotten p) (i p) ((h p).1 m n q r) g))

-- ---- lists

all_map : {A : Type 0} (P Q : A → Type 0) (xs : List A) → ((x : A) → P x → Q x) → All P xs → All Q xs
all_map P Q xs f h i d b = f _ (h i d b)

outputs_all : (types : List TypeDecl) (c : Placed) (i : Instant) (ds : List Decl) → OutputsFit types ds (instance_at c i) → All (OutputFits types c i) ds
outputs_all types c i [] h = All-nil (OutputFits types c i)
outputs_all types c i (d ∷ ds) h = All-cons (OutputFits types c i) d ds (abstract_of types d.ty (instance_at c i (Named d.name ∷ [])) h.0) (outputs_all types c i ds h.1)

-- ---- nodes

module _ (types : List TypeDecl) where
  -- what fits is an instant of a node among the items
  pub node_of : (class : Classing) (items : List Item) (f : List ℕ) (i : Instant) → WholeFits types class items f i → (m : Node) × ((node_among items f ≡ Some m) × OutputsFit types m.outputs i)
  node_of class [] f i h = absurd h
  node_of class (TypeItem t ∷ items) f i h = node_of class items f i h
  node_of class (NodeItem n ∷ items) f i h = by (bytes_eq n.name f) h (node_of (class_behind class) items f i)
    where
      by : (d : Bool) → either_of d (NodeFits types true (WholeFits types (class_behind class) items) (scope_behind items) (seen_in_node (class_here class) n) n i × (Solid i × HasInputs types n i)) (WholeFits types (class_behind class) items f i)
          → (WholeFits types (class_behind class) items f i → (m : Node) × ((node_among items f ≡ Some m) × OutputsFit types m.outputs i)) → (m : Node) × (((if d then Some n else node_among items f) ≡ Some m) × OutputsFit types m.outputs i)
      by true h k = (n, (refl, h.0.0.0))
      by false h k = k h

module _ (program : List Item) (apart : NamesApart (reverse program)) where
  abbrev types : List TypeDecl
  types = types_of program

  abbrev Behind : List Item → Type 0
  Behind items = (later : List Item) × (reverse program ≡ later ++ items)

  outputs_typed : (class : Classing) (items : List Item) → Behind items → (i : Instant) (c : Placed) → WholeFits types class items c.point.name (instance_at c i) → All (OutputFits types c i) (declared_outputs (node_among (reverse program) c.point.name))
  outputs_typed class items b i c h =
      let m = node_of types class items c.point.name (instance_at c i) h in
      let found : node_among (reverse program) c.point.name ≡ Some m.0 =
      ap (λ z. node_among z c.point.name) b.1 ∙ found_among b.0 items c.point.name m.0 (subst NamesApart b.1 apart) m.1.0 in
      subst (λ z. All (OutputFits types c i) (declared_outputs z)) (sym found) (outputs_all types c i m.0.outputs m.1.1)

  typed_node : (class : Classing) (items : List Item) (n : Node) → Behind items → (i : Instant) → NodeFits types true (WholeFits types (class_behind class) items) (scope_behind items) (seen_in_node (class_here class) n) n i → Solid i → HasInputs types n i → All (CallFits types (WholeFits types (class_behind class) items) i) (calls_of n) → TypedNode program n i
  typed_node class items n b i h solid inputs calls =
      record {
        typed = record {
          values = well_valued i solid;
          free = record {
            comparisons = λ p e f g. compared i solid p e f g;
            outputs = all_map (CallFits types (WholeFits types (class_behind class) items) i) (λ c. IsTrue (is_there (instance_at c (erased i) (Fresh ∷ []))) → All (OutputFits types c i) (declared_outputs (node_among (reverse program) c.point.name))) (calls_of n)
                (λ c f t. outputs_typed (class_behind class) items b i c (f (seen_there (is_forgotten (c.place ++ (Instance ∷ Fresh ∷ []))) (instance_at c i (Fresh ∷ [])) t))) calls;
          };
        };
        inputs = inputs.0;
        fit = inputs_fit types n.inputs inputs.0 inputs.1.0;
        at_inputs = inputs.1.1;
      }

  further : (x : Item) (items : List Item) → Behind (x ∷ items) → Behind items
  further x items b = (b.0 ++ (x ∷ []), b.1 ∙ sym (append_assoc b.0 (x ∷ []) items))

  abbrev Here : Classing → List Item → Node → Instant → Type 0
  Here class items n i = NodeFits types true (WholeFits types (class_behind class) items) (scope_behind items) (seen_in_node (class_here class) n) n i × (Solid i × HasInputs types n i)

  abbrev TypedBelow : List Item → Node → Instant → Type 0
  TypedBelow items n i = All (λ (k : Placed). IsTrue (is_there (instance_at k i (Fresh ∷ []))) → TypedAll program items k.point.name (instance_at k i)) (calls_of n)

  calls_fit : (class : Classing) (items : List Item) (n : Node) (i : Instant) → Here class items n i → All (CallFits types (WholeFits types (class_behind class) items) i) (calls_of n)
  calls_fit class items n i z =
      let W = WholeFits types (class_behind class) items in
      each_all (CallFits types W i) (points n) (node_calls types W i n (scope_behind items) (seen_in_node (class_here class) n) (node_loose types true W (scope_behind items) (seen_in_node (class_here class) n) n i z.0))

  one_typed : (class : Classing) (items : List Item) (n : Node) (f : List ℕ) (i : Instant) (d : Bool) → Behind items → either_of d (Here class items n i) (WholeFits types (class_behind class) items f i) → (WholeFits types (class_behind class) items f i → TypedAll program items f i) → (Here class items n i → TypedBelow items n i)
      → MatchBool d (TypedNode program n i × TypedBelow items n i) (TypedAll program items f i)
  one_typed class items n f i true b z k l = (typed_node class items n b i z.0 z.1.0 z.1.1 (calls_fit class items n i z), l z)
  one_typed class items n f i false b z k l = k z

  pub all_typed : (class : Classing) (items : List Item) → Behind items → (f : List ℕ) (i : Instant) → WholeFits types class items f i → TypedAll program items f i
  all_typed class [] b f i h = tt
  all_typed class (TypeItem t ∷ items) b f i h = all_typed class items (further (TypeItem t) items b) f i h
  all_typed class (NodeItem n ∷ items) b f i h =
      let behind = further (NodeItem n) items b in
      one_typed class items n f i (bytes_eq n.name f) behind h (all_typed (class_behind class) items behind f i)
      (λ z. all_map (CallFits types (WholeFits types (class_behind class) items) i) (λ (k : Placed). IsTrue (is_there (instance_at k i (Fresh ∷ []))) → TypedAll program items k.point.name (instance_at k i)) (calls_of n)
      (λ k g t. all_typed (class_behind class) items behind k.point.name (instance_at k i) (g t)) (calls_fit class items n i z))

  -- so throughout a past
  pub typed_through : (class : Classing) (f : List ℕ) (past : Past) → Each (WholeFits types class (reverse program) f) past → Through (λ older now. TypedAll program (reverse program) f now) past
  typed_through class f [] h = tt
  typed_through class f (now ∷ past) h = (typed_through class f past h.1, all_typed class (reverse program) ([], refl) f now h.0)
