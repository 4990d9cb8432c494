-- What the nodes of a ready program are seen by: their names, their outputs, and their controllable variables are those of the program that was judged.
use Rattle.std.proofs.Common.{◌≡◌, ℕ, List, [], ◌∷◌, ◌++◌, map, reverse, refl, sym, ap, subst, ◌∙◌, inl}
use Rattle.std.specs.Prelude.{⊤, Bool, true, false, IsFalse, if◌then◌else◌, Option, None, Some, option_map, ◌||◌, Contains}
use Rattle.std.specs.Str.{bytes_eq}
use Rattle.hp_base.specs.declared.ty.Ty.{Ty}
use Rattle.hp_base.specs.declared.ty.Ty.TheVariants as ty
use Rattle.hp_base.specs.declared.value.Value.{Value}
use Rattle.hp_base.specs.declared.value.Value.TheVariants.{Absent}
use Rattle.hp_tree.specs.declared.program.Item.{Item}
use Rattle.hp_tree.specs.declared.program.Item.TheVariants.{TypeItem, NodeItem}
use Rattle.hp_tree.specs.Blocks.{Decl}
use Rattle.hp_tree.specs.Programs.{TypeDecl, Contract, Node}
use Rattle.hp_tree.specs.Operators.{constructor_from}
use Rattle.hp_tree.specs.Meaning.{declares, controls_of, node_among}
use Rattle.hp_tree.specs.Values.{constructors_of, IsOf}
use Rattle.hp_names.specs.Names.{with_name, declared_names}
use Rattle.hp_names.specs.Scopes.{nothing, behind}
use Rattle.hp_names.specs.Rules.{AreNew, ItemsAreNamed, WellNamed}
use Rattle.law_judged.specs.Typed.Scopes.{NameScope}
use Rattle.law_judged.specs.Named.Scoped.{EachNode}
use Rattle.law_judged.proofs.NamedLemmas.Sets.{same_name, kept_name, new_name}
use Rattle.hp_meaning.specs.Clocking.Clocking.{Assignment, base_written, contract_with_clocks, node_with_clocks}
use Rattle.hp_clocks.specs.Writing.{AreWritten}
use Rattle.hp_clocks.specs.Answers.{IsClocked}
use Rattle.hp_expand.specs.Replacing as new
use Rattle.hp_expand.specs.Numbering as numbering
use Rattle.hp_expand.specs.Numbering.{replaced_node, with_node, replaced_items, no_node, replaced}
use Rattle.hp_expand.specs.Shapes as shapes
use Rattle.hp_expand.specs.Shapes.{Mark, no_form, plain_at, bound_at, integer_at}
use Rattle.hp_expand.specs.Formed.{HaveNoInteger, AreShaped, HasShapes}
use Rattle.hp_meaning.specs.Contract.Game.{choices_of, first_of, IsAmong, AreChoices}
use Rattle.law_values.specs.Filled.Firsts.{HasFirst, DeclsHaveFirsts}
use Rattle.law_games.specs.Mirror.Memories.{AreApart}

abbrev TypeOf : {A : Type 0} → A → Type 0
TypeOf {A} a = A

-- the form of a node, as shapes have it
abbrev Form : Type 0
Form = TypeOf no_form

-- ---- what is known of the nodes of a judged program

-- A node whose outputs have names of their own, and whose controllable variables are no integers.
abbrev pub AreNoIntegers : List Decl → Type 0
AreNoIntegers [] = ⊤
AreNoIntegers (d ∷ ds) = (d.ty ≡ ty.Int → ⊥) × AreNoIntegers ds

not_declared : (names : List (List ℕ)) (ds : List Decl) (x : List ℕ) → AreNew names (declared_names ds) → Contains names x → IsFalse (declares ds x)
not_declared names [] x n h = refl
not_declared names (d ∷ ds) x n h = by (bytes_eq d.name x) refl (not_declared (with_name names d.name) ds x n.1 (kept_name names d.name x h))
  where
    by : (b : Bool) → bytes_eq d.name x ≡ b → IsFalse (declares ds x) → IsFalse (b || declares ds x)
    by true e f = absurd (n.0 (subst (λ z. Contains names z) (sym (same_name d.name x e)) h))
    by false e f = f

apart_of : (names : List (List ℕ)) (ds : List Decl) → AreNew names (declared_names ds) → AreApart ds
apart_of names [] n = tt
apart_of names (d ∷ ds) n = (not_declared (with_name names d.name) ds d.name n.1 (new_name names d.name), apart_of (with_name names d.name) ds n.1)

outputs_apart : (s : NameScope) (items : List Item) → ItemsAreNamed s items → EachNode (λ n. AreApart n.outputs) items
outputs_apart s [] h = tt
outputs_apart s (TypeItem t ∷ items) h = outputs_apart (behind s (TypeItem t)) items h.1
outputs_apart s (NodeItem n ∷ items) h = (apart_of _ n.outputs h.0.1.1.0, outputs_apart (behind s (NodeItem n)) items h.1)

no_integer_behind : (ms ns : List Mark) → HaveNoInteger (ms ++ ns) → HaveNoInteger ns
no_integer_behind [] ns h = h
no_integer_behind (plain_at at ∷ ms) ns h = no_integer_behind ms ns h
no_integer_behind (bound_at at ∷ ms) ns h = no_integer_behind ms ns h
no_integer_behind (integer_at at ∷ ms) ns h = absurd h

no_integers : (ds : List Decl) → HaveNoInteger (shapes.in_controls ds) → AreNoIntegers ds
no_integers [] h = tt
no_integers (d ∷ ds) h = ((λ e. here (subst (λ t. HaveNoInteger (shapes.in_type d.span t ++ shapes.in_controls ds)) e h)), no_integers ds (no_integer_behind (shapes.in_type d.span d.ty) (shapes.in_controls ds) h))
  where
    here : HaveNoInteger (shapes.in_type d.span ty.Int ++ shapes.in_controls ds) → ⊥
    here h = h

controls_shaped : (forms : List ℕ → Form) (o : Option Contract) → HaveNoInteger (shapes.in_contract forms o) → AreNoIntegers (controls_of o)
controls_shaped forms None h = tt
controls_shaped forms (Some c) h =
    let enforce = shapes.in_condition forms c.enforce in
    let assume = shapes.in_condition forms c.assume in
    let controls = shapes.in_controls c.controls in
    no_integers c.controls
    (no_integer_behind enforce controls (no_integer_behind assume (enforce ++ controls) (no_integer_behind (shapes.in_block forms c.body) (assume ++ (enforce ++ controls)) h)))

controls_no_integers : (forms : List ℕ → Form) (items : List Item) → AreShaped forms items → EachNode (λ n. AreNoIntegers (controls_of n.contract)) items
controls_no_integers forms [] h = tt
controls_no_integers forms (TypeItem t ∷ items) h = controls_no_integers forms items h
controls_no_integers forms (NodeItem n ∷ items) h =
    (controls_shaped forms n.contract h.0.controls_are_no_integers, controls_no_integers (shapes.with_form forms n.name (shapes.form_of forms n)) items h.1)

-- ---- replacing inlined calls and writing clocks keep these

-- the same names and types
abbrev SameDecls : List Decl → List Decl → Type 0
SameDecls [] [] = ⊤
SameDecls (d ∷ ds) (e ∷ es) = (e.name ≡ d.name) × (e.ty ≡ d.ty) × SameDecls ds es
SameDecls ds es = ⊥

same_self : (ds : List Decl) → SameDecls ds ds
same_self [] = tt
same_self (d ∷ ds) = (refl, refl, same_self ds)

same_based : (ds : List Decl) → SameDecls ds (map base_written ds)
same_based [] = tt
same_based (d ∷ ds) = (refl, refl, same_based ds)

same_then : (ds es fs : List Decl) → SameDecls ds es → SameDecls es fs → SameDecls ds fs
same_then [] [] [] h k = tt
same_then [] [] (f ∷ fs) h k = absurd k
same_then [] (e ∷ es) fs h k = absurd h
same_then (d ∷ ds) [] fs h k = absurd h
same_then (d ∷ ds) (e ∷ es) [] h k = absurd k
same_then (d ∷ ds) (e ∷ es) (f ∷ fs) h k = (k.0 ∙ h.0, k.1 ∙ h.1, same_then ds es fs h.2 k.2)

abbrev SameFace : Node → Node → Type 0
SameFace n m = (m.name ≡ n.name) × SameDecls n.outputs m.outputs × SameDecls (controls_of n.contract) (controls_of m.contract)

abbrev SameFaces : List Item → List Item → Type 0
SameFaces [] [] = ⊤
SameFaces (TypeItem t ∷ xs) (TypeItem u ∷ ys) = SameFaces xs ys
SameFaces (NodeItem n ∷ xs) (NodeItem m ∷ ys) = SameFace n m × SameFaces xs ys
SameFaces xs ys = ⊥

abbrev numbering_of : Option Contract → Option Contract
numbering_of o = option_map numbering.in_contract o

controls_replaced : (nodes : List ℕ → Node) (o : Option Contract) → controls_of (numbering_of (new.in_contract nodes 1 o).part) ≡ controls_of o
controls_replaced nodes None = refl
controls_replaced nodes (Some c) = refl

faces_replaced : (nodes : List ℕ → Node) (items : List Item) → SameFaces items (replaced_items nodes items)
faces_replaced nodes [] = tt
faces_replaced nodes (TypeItem t ∷ items) = faces_replaced nodes items
faces_replaced nodes (NodeItem n ∷ items) = (
  (refl, same_self n.outputs, subst (SameDecls (controls_of n.contract)) (sym (controls_replaced nodes n.contract)) (same_self (controls_of n.contract))),
  faces_replaced (with_node nodes (replaced_node nodes n)) items,
)

controls_clocked : (at : Assignment) (n : Node) → SameDecls (controls_of n.contract) (controls_of (node_with_clocks at n).contract)
controls_clocked at n = by n.contract
  where
    by : (o : Option Contract) → SameDecls (controls_of o) (controls_of (contract_with_clocks at o))
    by None = tt
    by (Some c) = same_based c.controls

faces_written : (xs ys zs : List Item) → SameFaces xs ys → AreWritten IsClocked ys zs → SameFaces xs zs
faces_written [] [] [] s c = tt
faces_written (TypeItem t ∷ xs) (TypeItem u ∷ ys) (z ∷ zs) s c = subst (λ w. SameFaces (TypeItem t ∷ xs) (w ∷ zs)) (sym c.0) (faces_written xs ys zs s c.1)
faces_written (NodeItem n ∷ xs) (NodeItem m ∷ ys) (z ∷ zs) s c =
    subst (λ w. SameFaces (NodeItem n ∷ xs) (w ∷ zs)) (sym c.0.2) (
      (
        s.0.0,
        same_then n.outputs m.outputs (map base_written m.outputs) s.0.1 (same_based m.outputs),
        same_then (controls_of n.contract) (controls_of m.contract) (controls_of (node_with_clocks c.0.0 m).contract) s.0.2 (controls_clocked c.0.0 m),
      ),
      faces_written xs ys zs s.1 c.1,
    )
faces_written [] [] (z ∷ zs) s c = absurd c
faces_written [] (y ∷ ys) zs s c = absurd s
faces_written (TypeItem t ∷ xs) [] zs s c = absurd s
faces_written (NodeItem n ∷ xs) [] zs s c = absurd s
faces_written (TypeItem t ∷ xs) (NodeItem m ∷ ys) zs s c = absurd s
faces_written (NodeItem n ∷ xs) (TypeItem u ∷ ys) zs s c = absurd s
faces_written (TypeItem t ∷ xs) (TypeItem u ∷ ys) [] s c = absurd c
faces_written (NodeItem n ∷ xs) (NodeItem m ∷ ys) [] s c = absurd c

abbrev either_or : Bool → Bool → Bool
either_or a b = a || b

declares_as : (ds es : List Decl) (x : List ℕ) → SameDecls ds es → declares es x ≡ declares ds x
declares_as [] [] x s = refl
declares_as [] (e ∷ es) x s = absurd s
declares_as (d ∷ ds) [] x s = absurd s
declares_as (d ∷ ds) (e ∷ es) x s = ap (λ y. either_or (bytes_eq y x) (declares es x)) s.0 ∙ ap (either_or (bytes_eq d.name x)) (declares_as ds es x s.2)

apart_as : (ds es : List Decl) → SameDecls ds es → AreApart ds → AreApart es
apart_as [] [] s a = tt
apart_as [] (e ∷ es) s a = absurd s
apart_as (d ∷ ds) [] s a = absurd s
apart_as (d ∷ ds) (e ∷ es) s a = (ap (declares es) s.0 ∙ declares_as ds es d.name s.2 ∙ a.0, apart_as ds es s.2 a.1)

no_integers_as : (ds es : List Decl) → SameDecls ds es → AreNoIntegers ds → AreNoIntegers es
no_integers_as [] [] s a = tt
no_integers_as [] (e ∷ es) s a = absurd s
no_integers_as (d ∷ ds) [] s a = absurd s
no_integers_as (d ∷ ds) (e ∷ es) s a = ((λ h. a.0 (sym s.1 ∙ h)), no_integers_as ds es s.2 a.1)

-- of each node
pub record IsSeen (n : Node) : Type 0 where
  pub outputs : AreApart n.outputs
  pub controls : AreNoIntegers (controls_of n.contract)

seen_as : (xs ys : List Item) → SameFaces xs ys → EachNode (λ n. AreApart n.outputs) xs → EachNode (λ n. AreNoIntegers (controls_of n.contract)) xs → EachNode IsSeen ys
seen_as [] [] s a b = tt
seen_as (TypeItem t ∷ xs) (TypeItem u ∷ ys) s a b = seen_as xs ys s a b
seen_as (NodeItem n ∷ xs) (NodeItem m ∷ ys) s a b = (
  record { outputs = apart_as n.outputs m.outputs s.0.1 a.0; controls = no_integers_as (controls_of n.contract) (controls_of m.contract) s.0.2 b.0 },
  seen_as xs ys s.1 a.1 b.1,
)
seen_as [] (y ∷ ys) s a b = absurd s
seen_as (TypeItem t ∷ xs) [] s a b = absurd s
seen_as (NodeItem n ∷ xs) [] s a b = absurd s
seen_as (TypeItem t ∷ xs) (NodeItem m ∷ ys) s a b = absurd s
seen_as (NodeItem n ∷ xs) (TypeItem u ∷ ys) s a b = absurd s

-- ---- no two nodes have one name

-- items with the last one first, of which no two nodes have one name
abbrev pub NodesApart : List Item → Type 0
NodesApart [] = ⊤
NodesApart (TypeItem t ∷ items) = NodesApart items
NodesApart (NodeItem n ∷ items) = (node_among items n.name ≡ None) × NodesApart items

abbrev onto : List Item → List Item → List Item
onto [] ys = ys
onto (x ∷ xs) ys = onto xs (x ∷ ys)

abbrev AreKnown : NameScope → List Item → Type 0
AreKnown s done = (f : List ℕ) (k : Node) → node_among done f ≡ Some k → Contains s.nodes f

known_more : (s : NameScope) (done : List Item) (n m : Node) → m.name ≡ n.name → AreKnown s done → AreKnown (behind s (NodeItem n)) (NodeItem m ∷ done)
known_more s done n m e known f k h = by (bytes_eq m.name f) refl h
  where
    by : (b : Bool) → bytes_eq m.name f ≡ b → (if b then Some m else node_among done f) ≡ Some k → Contains (with_name s.nodes n.name) f
    by true q h = subst (λ z. Contains (with_name s.nodes n.name) z) (sym e ∙ same_name m.name f q) (new_name s.nodes n.name)
    by false q h = kept_name s.nodes n.name f (known f k h)

fresh : (s : NameScope) (done : List Item) (n m : Node) → m.name ≡ n.name → (Contains s.nodes n.name → ⊥) → AreKnown s done → node_among done m.name ≡ None
fresh s done n m e new known = by (node_among done m.name) refl
  where
    by : (o : Option Node) → node_among done m.name ≡ o → node_among done m.name ≡ None
    by None q = q
    by (Some k) q = absurd (new (subst (λ z. Contains s.nodes z) e (known m.name k q)))

apart_onto : (s : NameScope) (xs ys done : List Item) → ItemsAreNamed s xs → SameFaces xs ys → AreKnown s done → NodesApart done → NodesApart (onto ys done)
apart_onto s [] [] done h e known a = a
apart_onto s (TypeItem t ∷ xs) (TypeItem u ∷ ys) done h e known a = apart_onto (behind s (TypeItem t)) xs ys (TypeItem u ∷ done) h.1 e known a
apart_onto s (NodeItem n ∷ xs) (NodeItem m ∷ ys) done h e known a =
    apart_onto (behind s (NodeItem n)) xs ys (NodeItem m ∷ done) h.1 e.1 (known_more s done n m e.0.0 known) (fresh s done n m e.0.0 h.0.0 known, a)
apart_onto s [] (y ∷ ys) done h e known a = absurd e
apart_onto s (TypeItem t ∷ xs) [] done h e known a = absurd e
apart_onto s (NodeItem n ∷ xs) [] done h e known a = absurd e
apart_onto s (TypeItem t ∷ xs) (NodeItem m ∷ ys) done h e known a = absurd e
apart_onto s (NodeItem n ∷ xs) (TypeItem u ∷ ys) done h e known a = absurd e

-- What is behind is found from the front.
pub found_behind : (later items : List Item) → NodesApart (later ++ items) → (f : List ℕ) (k : Node) → node_among items f ≡ Some k → node_among (later ++ items) f ≡ Some k
found_behind [] items a f k e = e
found_behind (TypeItem t ∷ later) items a f k e = found_behind later items a f k e
found_behind (NodeItem n ∷ later) items a f k e = by (bytes_eq n.name f) refl (found_behind later items a.1 f k e)
  where
    by : (b : Bool) → bytes_eq n.name f ≡ b → node_among (later ++ items) f ≡ Some k → (if b then Some n else node_among (later ++ items) f) ≡ Some k
    by true q h = let z : None ≡ Some k = sym a.0 ∙ ap (node_among (later ++ items)) (same_name n.name f q) ∙ h in absurd (cc)
    by false q h = h

-- ---- of a program that is judged, replaced and clocked

module _ (program after : List Item) (clocks : AreWritten IsClocked (replaced program) after) where
  faces : SameFaces program after
  faces = faces_written program (replaced program) after (faces_replaced no_node program) clocks

  pub nodes_apart : WellNamed program → NodesApart (reverse after)
  nodes_apart h = apart_onto nothing program after [] h faces (λ f k e. absurd (cc)) tt

  pub all_seen : WellNamed program → HasShapes program → EachNode IsSeen after
  all_seen h s = seen_as program after faces (outputs_apart nothing program h) (controls_no_integers shapes.nothing_known program s)

-- ---- there is some choice

-- the value of the first of some constructors
abbrev first_among : List TypeDecl → List (List ℕ) → Value
first_among types [] = Absent
first_among types (c ∷ cs) = constructor_from 0 types c

pub some_choice : (types : List TypeDecl) (ds : List Decl) → DeclsHaveFirsts types ds → AreNoIntegers ds → AreChoices types ds (map (λ d. first_of (choices_of types d.ty)) ds)
some_choice types [] f a = tt
some_choice types (d ∷ ds) f a = (one d.ty f.0 a.0, some_choice types ds f.1 a.1)
  where
    among : (t : List ℕ) (cs : List (List ℕ)) → constructors_of types t ≡ cs → HasFirst types (ty.Enum t) → IsAmong (map (constructor_from 0 types) cs) (first_of (map (constructor_from 0 types) cs))
    among t [] e h = subst (λ cs. IsOf types (ty.Enum t) (first_among types cs)) e h
    among t (c ∷ cs) e h = inl refl

    one : (t : Ty) → HasFirst types t → (t ≡ ty.Int → ⊥) → IsAmong (choices_of types t) (first_of (choices_of types t))
    one ty.Bool h n = inl refl
    one ty.Int h n = n refl
    one (ty.Enum t) h n = among t (constructors_of types t) refl h
