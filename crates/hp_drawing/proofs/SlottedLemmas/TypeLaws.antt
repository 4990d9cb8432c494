-- What tables say is what the types and nodes of the program are.
use Rattle.std.proofs.Common.{◌≡◌, ℕ, suc, ◌+◌, Bool, true, false, if◌then◌else◌, List, [], ◌∷◌, ◌++◌, length, reverse, Option, None, Some, refl, sym, ap, ◌∙◌}
use Rattle.std.proofs.lemmas.List.{reverse-append}
use Rattle.std.specs.Str.{bytes_eq}
use Rattle.hp_base.specs.declared.ty.Ty.{Ty}
use Rattle.hp_base.specs.declared.ty.Ty.TheVariants as ty
use Rattle.hp_base.specs.declared.ty.Const.{Const}
use Rattle.hp_base.specs.declared.ty.Const.TheVariants as const
use Rattle.hp_tree.specs.declared.program.Item.{Item}
use Rattle.hp_tree.specs.declared.program.Item.TheVariants.{TypeItem, NodeItem}
use Rattle.hp_tree.specs.Blocks.{Decl}
use Rattle.hp_tree.specs.Programs.{TypeDecl, Node}
use Rattle.hp_tree.specs.Meaning.{types_of, node_among}
use Rattle.hp_tree.specs.Operators.{place_in}
use Rattle.hp_tree.specs.Values as values
use Rattle.hp_tree.specs.ExpressionTypes.{Scope, typed_in, some_place, type_with, type_of_constant}
use Rattle.hp_meaning.specs.Contract.Slots.{shape_of}
use Rattle.hp_circuit.specs.declared.circuit.Shape.{Shape}
use Rattle.hp_circuit.specs.declared.circuit.Shape.TheVariants.{Cons}
use Rattle.hp_drawing.specs.declared.parts.Constructor.{Constructor}
use Rattle.hp_drawing.specs.Told.{put_at, none_of, counts_of, or_none, with_constructors, constructors_of, with_nodes, told_of, type_shape, constructor_shape, constant_shape}
use Rattle.hp_drawing.specs.Planned.{Names, declaring}
use Rattle.hp_drawing.specs.Slotted.Slotted.{shape_as}

-- what names of these types are carried as
abbrev pub seen : List TypeDecl → Scope → Names
seen types scope x = shape_as (shape_of types (scope x))

-- ---- types

counted : (b : Bool) (cs more : List (List ℕ)) (o : Option ℕ) → or_none o ≡ length more → or_none (if b then Some (length cs) else o) ≡ length (if b then cs else more)
counted true cs more o h = refl
counted false cs more o h = h

pub count-same : (items : List Item) (x : List ℕ) → or_none (counts_of items x) ≡ length (values.constructors_of (types_of items) x)
count-same [] x = refl
count-same (TypeItem d ∷ items) x = counted (bytes_eq d.name x) d.cons (values.constructors_of (types_of items) x) (counts_of items x) (count-same items x)
count-same (NodeItem n ∷ items) x = count-same items x

module _ (program : List Item) where
  pub type-same : (t : Ty) → type_shape (told_of program) t ≡ shape_as (shape_of (types_of program) t)
  type-same ty.Bool = refl
  type-same ty.Int = refl
  type-same (ty.Enum x) = ap Cons (count-same program x)

-- ---- constants

numbered : (b c : Bool) (count k : ℕ) (s r : Shape) (o : Option Constructor)
    → constructor_shape o ≡ (if c then s else r) → s ≡ Cons count → constructor_shape (if b then Some (record { number = k; count = count }) else o) ≡ (if (if b then true else c) then s else r)
numbered true c count k s r o h e = sym e
numbered false c count k s r o h e = h

placed : (b : Bool) (k : ℕ) (o : Option ℕ) → some_place (if b then Some k else o) ≡ (if b then true else some_place o)
placed true k o = refl
placed false k o = refl

constructor-in : (count k j : ℕ) (cs : List (List ℕ)) (others : List ℕ → Option Constructor) (x : List ℕ) (s r : Shape)
    → s ≡ Cons count → constructor_shape (others x) ≡ r → constructor_shape (with_constructors count k cs others x) ≡ (if some_place (place_in j cs x) then s else r)
constructor-in count k j [] others x s r e h = h
constructor-in count k j (c ∷ cs) others x s r e h =
    numbered (bytes_eq c x) (some_place (place_in (suc j) cs x)) count k s r (with_constructors count (k + 1) cs others x) (constructor-in count (k + 1) (suc j) cs others x s r e h) e
    ∙ ap (λ b. if b then s else r) (sym (placed (bytes_eq c x) j (place_in (suc j) cs x)))

module _ (program : List Item) where
  with-type : (b : Bool) (x : List ℕ) (u : Ty) → (if b then shape_as (shape_of (types_of program) (ty.Enum x)) else shape_as (shape_of (types_of program) u)) ≡ shape_as (shape_of (types_of program) (if b then ty.Enum x else u))
  with-type true x u = refl
  with-type false x u = refl

  constructor-same : (items : List Item) (x : List ℕ) → constructor_shape (constructors_of (counts_of program) items x) ≡ shape_as (shape_of (types_of program) (type_with (types_of items) x))
  constructor-same [] x = refl
  constructor-same (TypeItem d ∷ items) x =
      constructor-in (or_none (counts_of program d.name)) 0 0 d.cons (constructors_of (counts_of program) items) x
      (shape_as (shape_of (types_of program) (ty.Enum d.name))) (shape_as (shape_of (types_of program) (type_with (types_of items) x)))
      (sym (type-same program (ty.Enum d.name))) (constructor-same items x)
      ∙ with-type (some_place (place_in 0 d.cons x)) d.name (type_with (types_of items) x)
  constructor-same (NodeItem n ∷ items) x = constructor-same items x

  pub constant-same : (c : Const) → constant_shape (told_of program) c ≡ shape_as (shape_of (types_of program) (type_of_constant (types_of program) c))
  constant-same (const.B b) = refl
  constant-same (const.I n) = refl
  constant-same (const.E x) = constructor-same program x

  -- ---- names

  name-same : (b : Bool) (t u : Ty) (s : Shape) → s ≡ shape_as (shape_of (types_of program) u) → (if b then type_shape (told_of program) t else s) ≡ shape_as (shape_of (types_of program) (if b then t else u))
  name-same true t u s h = type-same program t
  name-same false t u s h = h

  declared-at : (ds : List Decl) (out : Scope) (x : List ℕ) → declaring (told_of program) ds (seen (types_of program) out) x ≡ seen (types_of program) (typed_in ds out) x
  declared-at [] out x = refl
  declared-at (d ∷ ds) out x = name-same (bytes_eq d.name x) d.ty (typed_in ds out x) (declaring (told_of program) ds (seen (types_of program) out) x) (declared-at ds out x)

  pub declared-same : (ds : List Decl) (out : Scope) → declaring (told_of program) ds (seen (types_of program) out) ≡ seen (types_of program) (typed_in ds out)
  declared-same ds out = λ j x. declared-at ds out x j

-- ---- nodes

abbrev or_node : Option Node → Option Node → Option Node
or_node None later = later
or_node (Some n) later = Some n

or-node : (b : Bool) (n : Node) (o r : Option Node) → (if b then Some n else or_node o r) ≡ or_node (if b then Some n else o) r
or-node true n o r = refl
or-node false n o r = refl

among-append : (xs ys : List Item) (f : List ℕ) → node_among (xs ++ ys) f ≡ or_node (node_among xs f) (node_among ys f)
among-append [] ys f = refl
among-append (TypeItem d ∷ xs) ys f = among-append xs ys f
among-append (NodeItem n ∷ xs) ys f = ap (λ o. if bytes_eq n.name f then Some n else o) (among-append xs ys f) ∙ or-node (bytes_eq n.name f) n (node_among xs f) (node_among ys f)

or-put : (o : Option Node) (b : Bool) (n : Node) (r : Option Node) → or_node o (if b then Some n else r) ≡ or_node (or_node o (if b then Some n else None)) r
or-put None true n r = refl
or-put None false n r = refl
or-put (Some m) b n r = refl

or-none : (o r : Option Node) → or_node o r ≡ or_node (or_node o None) r
or-none None r = refl
or-none (Some m) r = refl

or-nothing : (o : Option Node) → or_node o None ≡ o
or-nothing None = refl
or-nothing (Some n) = refl

turned : (item : Item) (items : List Item) (f : List ℕ) → node_among (reverse (item ∷ items)) f ≡ or_node (node_among (reverse items) f) (node_among (item ∷ []) f)
turned item items f = ap (λ all. node_among all f) (reverse-append (item ∷ []) items) ∙ among-append (reverse items) (item ∷ []) f

nodes-among : (items : List Item) (before : List ℕ → Option Node) (f : List ℕ) → with_nodes before items f ≡ or_node (node_among (reverse items) f) (before f)
nodes-among [] before f = refl
nodes-among (TypeItem d ∷ items) before f =
    nodes-among items before f ∙ or-none (node_among (reverse items) f) (before f) ∙ ap (λ o. or_node o (before f)) (sym (turned (TypeItem d) items f))
nodes-among (NodeItem n ∷ items) before f =
    nodes-among items (put_at before n.name n) f
    ∙ or-put (node_among (reverse items) f) (bytes_eq n.name f) n (before f)
    ∙ ap (λ o. or_node o (before f)) (sym (turned (NodeItem n) items f))

pub node-same : (program : List Item) (f : List ℕ) → (told_of program).nodes f ≡ node_among (reverse program) f
node-same program f = nodes-among program none_of f ∙ or-nothing (node_among (reverse program) f)
