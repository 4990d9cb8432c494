-- The counts of a judged program whose contracts have their shapes are those of the program with its inlined calls replaced, node for node.
use Rattle.std.proofs.Common.{◌≡◌, ◌⊎◌, inl, inr, ⊎_elim, ℕ, ◌+◌, Bool, true, false, if◌then◌else◌, zero, suc, List, [], ◌∷◌, ◌++◌, Contains, refl, sym, ap, ◌∙◌, subst, arith}
use Rattle.std.specs.Prelude.{IsTrue, Option, None, Some, IsSome, is_some, option_map}
use Rattle.std.specs.Str.{bytes_eq}
use Rattle.std.proofs.lemmas.List.Elements.{Contains-append_cases}
use Rattle.hp_base.specs.Known.Known.{lookup, with_entry}
use Rattle.hp_tree.specs.declared.program.Item.{Item}
use Rattle.hp_tree.specs.declared.program.Item.TheVariants.{TypeItem, NodeItem}
use Rattle.hp_tree.specs.Programs.{Contract, Node}
use Rattle.hp_names.specs.Names.{has, with_name}
use Rattle.hp_names.specs.Scopes as names
use Rattle.hp_names.specs.Rules.{NodeIsNamed, ItemsAreNamed}
use Rattle.hp_typing.specs.Scopes as types
use Rattle.law_judged.specs.Named.Scopes.{NameScope}
use Rattle.law_judged.specs.Typed.Scopes.{Scope}
use Rattle.law_judged.specs.Typed.Typed.{NodeHasTypes, ItemsHaveTypes}
use Rattle.law_judged.proofs.NamedLemmas.Sets.{same_name, name_same, kept_name, new_name}
use Rattle.hp_expand.specs.Sizes as sizes
use Rattle.hp_expand.specs.Sizes.{in_node}
use Rattle.hp_expand.specs.Shapes as shapes
use Rattle.hp_expand.specs.Fitting.{NodeFits}
use Rattle.hp_expand.specs.Counts as counts
use Rattle.hp_expand.specs.Counts.{passed_by, at_node}
use Rattle.hp_expand.specs.Replacing as new
use Rattle.hp_expand.specs.Numbering as numbering
use Rattle.hp_expand.specs.Numbering.{replaced_node, with_node, replaced_items, no_node, replaced}
use Rattle.hp_expand.proofs.ReplacedSizes.{counted_law}
use Rattle.hp_compile.proofs.CountLemmas.Local.{node_local}
use Rattle.hp_compile.proofs.CountLemmas.Fits.{InlinesNone, Stands, Table, node_fits}
use Rattle.hp_compile.proofs.CountLemmas.Types.{Size, Form}

-- ---- names that are known, and one more

lookup_cases : (known : Table) (y f : List ℕ) (n : Node) → IsSome (lookup (known ++ (y, n) ∷ []) f) → (f ≡ y) ⊎ IsSome (lookup known f)
lookup_cases [] y f n h = by (bytes_eq f y) (same_name f y) h
  where
    by : (b : Bool) → (IsTrue b → f ≡ y) → IsSome (if b then Some n else None) → (f ≡ y) ⊎ IsSome {T = Node} None
    by true e l = inl (e refl)
    by false e l = absurd (cc l)
lookup_cases (e ∷ known) y f n h = by (bytes_eq f e.0) (lookup_cases known y f n) h
  where
    by : (b : Bool) → (IsSome (lookup (known ++ (y, n) ∷ []) f) → (f ≡ y) ⊎ IsSome (lookup known f)) → IsSome (if b then Some e.1 else lookup (known ++ (y, n) ∷ []) f) → (f ≡ y) ⊎ IsSome (if b then Some e.1 else lookup known f)
    by true r l = inr refl
    by false r l = r l

some_same : (n m : Node) → Some n ≡ Some m → n ≡ m
some_same n m h = ap (λ o. elim o [ None ↦ n | Some k ↦ k ]) h

lookup_here : (known : Table) (y : List ℕ) (n m : Node) → lookup known y ≡ None → lookup (known ++ (y, n) ∷ []) y ≡ Some m → n ≡ m
lookup_here [] y n m e h = by (bytes_eq y y) (name_same y y refl) h
  where
    by : (b : Bool) → IsTrue b → (if b then Some n else None) ≡ Some m → n ≡ m
    by true t l = some_same n m l
    by false t l = absurd (cc t)
lookup_here (k ∷ known) y n m e h = by (bytes_eq y k.0) e h (lookup_here known y n m)
  where
    by : (b : Bool) → (if b then Some k.1 else lookup known y) ≡ None → (if b then Some k.1 else lookup (known ++ (y, n) ∷ []) y) ≡ Some m → (lookup known y ≡ None → lookup (known ++ (y, n) ∷ []) y ≡ Some m → n ≡ m) → n ≡ m
    by true e h r = absurd (cc e)
    by false e h r = r e h

lookup_other : (known : Table) (y f : List ℕ) (n : Node) → bytes_eq f y ≡ false → lookup (known ++ (y, n) ∷ []) f ≡ lookup known f
lookup_other [] y f n h = ap (λ b. if b then Some n else None) h
lookup_other (k ∷ known) y f n h = by (bytes_eq f k.0) (lookup_other known y f n h)
  where
    by : (b : Bool) → lookup (known ++ (y, n) ∷ []) f ≡ lookup known f → (if b then Some k.1 else lookup (known ++ (y, n) ∷ []) f) ≡ (if b then Some k.1 else lookup known f)
    by true r = refl
    by false r = r

one_name : (y x : List ℕ) → Contains (y ∷ []) x → y ≡ x
one_name y x (zero, h, e) = e
one_name y x (suc k, h, e) = absurd (omega (arith, h))

name_cases : (names : List (List ℕ)) (y x : List ℕ) → Contains (with_name names y) x → (y ≡ x) ⊎ Contains names x
name_cases names y x h = by (has names y) h
  where
    by : (known : Bool) → Contains (if known then names else names ++ y ∷ []) x → (y ≡ x) ⊎ Contains names x
    by true k = inr k
    by false k = ⊎_elim (λ l. inr l) (λ l. inl (one_name y x l)) (Contains-append_cases names (y ∷ []) x k)

none_if : {A : Type 0} (o : Option A) → (IsSome o → ⊥) → o ≡ None
none_if None h = refl
none_if (Some a) h = absurd (h refl)

some_of : (o : Option Node) (n : Node) → o ≡ Some n → IsSome o
some_of o n h = ap is_some h

-- ---- what is known behind some nodes, of the text and with their calls replaced

-- what types say of a node, and of what it became
record Interface (forms : List ℕ → Form) (nodes : List ℕ → Node) (f : List ℕ) (n : Node) : Type 0 where
  inputs : (nodes f).inputs ≡ n.inputs
  outputs : (nodes f).outputs ≡ n.outputs
  free : (forms f).has_contract ≡ false → (nodes f).contract ≡ None

-- the two are of one size, whatever is known of other names
abbrev Sized : (List ℕ → Size) → (List ℕ → Node) → List (List ℕ) → (List ℕ → Size) → Type 0
Sized known nodes scope other = ((f : List ℕ) → Contains scope f → other f ≡ known f) → (f : List ℕ) → Contains scope f → other f ≡ in_node other (nodes f)

record Behind (s : NameScope) (t : Scope) (forms : List ℕ → Form) (nodes : List ℕ → Node) (known : List ℕ → Size) : Type 0 where
  interface : (f : List ℕ) (n : Node) → lookup t.nodes f ≡ Some n → Interface forms nodes f n
  listed : (f : List ℕ) → IsSome (lookup t.nodes f) → Contains s.nodes f
  sized : (other : List ℕ → Size) → Sized known nodes s.nodes other

-- a node without a contract still has none
no_contract : (nodes : List ℕ → Node) (c : Option Contract) → is_some c ≡ false → option_map numbering.in_contract (new.in_contract nodes 1 c).part ≡ None
no_contract nodes None h = refl
no_contract nodes (Some c) h = absurd (cc h)

apart : (x y : List ℕ) → (x ≡ y → ⊥) → bytes_eq x y ≡ false
apart x y h = by (bytes_eq x y) (same_name x y)
  where
    by : (b : Bool) → (IsTrue b → x ≡ y) → b ≡ false
    by true g = absurd (h (g refl))
    by false g = refl

module _ (s : NameScope) (t : Scope) (forms : List ℕ → Form) (nodes : List ℕ → Node) (known : List ℕ → Size) (b : Behind s t forms nodes known) (y : Node) (fresh : Contains s.nodes y.name → ⊥) (named : NodeIsNamed s y)
    (typed : NodeHasTypes t y) (shaped : InlinesNone forms y) where
  abbrev r : Node
  r = replaced_node nodes y

  -- a table that says the same of the names in scope
  module _ (other : List ℕ → Size) (same : (f : List ℕ) → Contains s.nodes f → other f ≡ known f) where
    stands : (f : List ℕ) (n : Node) → lookup t.nodes f ≡ Some n → Stands other forms nodes f n
    stands f n h =
        let i = b.interface f n h in
        record { inputs = i.inputs; outputs = i.outputs; free = i.free; size = b.sized other same f (b.listed f (some_of (lookup t.nodes f) n h)) }

    fits : NodeFits other nodes y
    fits = node_fits other forms nodes t.nodes stands t y refl typed shaped

    node_sized : in_node other r ≡ in_node other y
    node_sized = counted_law other nodes y fits

    node_same : in_node known y ≡ in_node other r
    node_same = sym (node_sized ∙ node_local other known s.nodes same s y refl named)

  fits_now : NodeFits known nodes y
  fits_now = fits known (λ f h. refl)

  unknown : lookup t.nodes y.name ≡ None
  unknown = none_if (lookup t.nodes y.name) (λ k. fresh (b.listed y.name k))

  entry : with_entry t.nodes y.name y ≡ t.nodes ++ (y.name, y) ∷ []
  entry = ap (λ o. if is_some o then t.nodes else t.nodes ++ (y.name, y) ∷ []) unknown

  more_interface : (f : List ℕ) (n : Node) → lookup (with_entry t.nodes y.name y) f ≡ Some n → Interface (shapes.with_form forms y.name (shapes.form_of forms y)) (with_node nodes r) f n
  more_interface f n h = by (bytes_eq y.name f) refl
    where
      told : lookup (t.nodes ++ (y.name, y) ∷ []) f ≡ Some n
      told = ap (λ z. lookup z f) (sym entry) ∙ h

      own : y.name ≡ f → y ≡ n
      own e = lookup_here t.nodes y.name y n unknown (ap (λ z. lookup (t.nodes ++ (y.name, y) ∷ []) z) e ∙ told)

      by : (d : Bool) → bytes_eq y.name f ≡ d → Interface (λ x. if bytes_eq y.name x then shapes.form_of forms y else forms x) (λ x. if bytes_eq r.name x then r else nodes x) f n
      by true e =
          let p = own (same_name y.name f e) in
          record {
            inputs = ap (λ z. (if z then r else nodes f).inputs) e ∙ ap (λ (z : Node). z.inputs) p;
            outputs = ap (λ z. (if z then r else nodes f).outputs) e ∙ ap (λ (z : Node). z.outputs) p;
            free = λ g. ap (λ z. (if z then r else nodes f).contract) e ∙ no_contract nodes y.contract (sym (ap (λ z. (if z then shapes.form_of forms y else forms f).has_contract) e) ∙ g);
          }
      by false e =
          let other : bytes_eq f y.name ≡ false = apart f y.name (λ q. cc (sym e, name_same y.name f (sym q))) in
          let i = b.interface f n (sym (lookup_other t.nodes y.name f y other) ∙ told) in
          record {
            inputs = ap (λ z. (if z then r else nodes f).inputs) e ∙ i.inputs;
            outputs = ap (λ z. (if z then r else nodes f).outputs) e ∙ i.outputs;
            free = λ g. ap (λ z. (if z then r else nodes f).contract) e ∙ i.free (sym (ap (λ z. (if z then shapes.form_of forms y else forms f).has_contract) e) ∙ g);
          }

  more_listed : (f : List ℕ) → IsSome (lookup (with_entry t.nodes y.name y) f) → Contains (with_name s.nodes y.name) f
  more_listed f h =
      ⊎_elim (λ (e : f ≡ y.name). subst (λ z. Contains (with_name s.nodes y.name) z) (sym e) (new_name s.nodes y.name)) (λ (k : IsSome (lookup t.nodes f)). kept_name s.nodes y.name f (b.listed f k))
      (lookup_cases t.nodes y.name f y (subst (λ z. IsSome (lookup z f)) entry h))

  more_sized : (other : List ℕ → Size) → Sized (sizes.with_node known y.name (in_node known y)) (with_node nodes r) (with_name s.nodes y.name) other
  more_sized other same f h = by (bytes_eq y.name f) refl
    where
      old : (g : List ℕ) → Contains s.nodes g → other g ≡ known g
      old g k =
          same g (kept_name s.nodes y.name g k)
          ∙ ap (λ z. if z then in_node known y else known g) (apart y.name g (λ q. fresh (subst (λ z. Contains s.nodes z) (sym q) k)))

      by : (d : Bool) → bytes_eq y.name f ≡ d → other f ≡ in_node other (if bytes_eq r.name f then r else nodes f)
      by true e = same f h ∙ ap (λ z. if z then in_node known y else known f) e ∙ node_same other old ∙ sym (ap (λ z. in_node other (if z then r else nodes f)) e)
      by false e =
          let known_before : Contains s.nodes f = ⊎_elim (λ (q : y.name ≡ f). absurd (cc (sym e, name_same y.name f q))) (λ (k : Contains s.nodes f). k) (name_cases s.nodes y.name f h) in
          b.sized other old f known_before ∙ sym (ap (λ z. in_node other (if z then r else nodes f)) e)

  behind_node : Behind (names.behind s (NodeItem y)) (types.behind t (NodeItem y)) (shapes.with_form forms y.name (shapes.form_of forms y)) (with_node nodes r) (sizes.with_node known y.name (in_node known y))
  behind_node = record { interface = more_interface; listed = more_listed; sized = more_sized }

behind_type : (s u : NameScope) (t v : Scope) (forms : List ℕ → Form) (nodes : List ℕ → Node) (known : List ℕ → Size) → u.nodes ≡ s.nodes → v.nodes ≡ t.nodes → Behind s t forms nodes known → Behind u v forms nodes known
behind_type s u t v forms nodes known e f b =
    record {
      interface = λ x n h. b.interface x n (ap (λ z. lookup z x) (sym f) ∙ h);
      listed = λ x h. subst (λ z. Contains z x) (sym e) (b.listed x (subst (λ z. IsSome (lookup z x)) f h));
      sized = λ other same x h. b.sized other (λ g k. same g (subst (λ z. Contains z g) (sym e) k)) x (subst (λ z. Contains z x) e h);
    }

nothing_behind : Behind names.nothing types.nothing shapes.nothing_known no_node sizes.nothing_known
nothing_behind = record { interface = λ f n h. absurd (cc h); listed = λ f h. absurd (cc h); sized = λ other same f h. absurd (nothing_listed f h) }
  where
    nothing_listed : (f : List ℕ) → Contains [] f → ⊥
    nothing_listed f h = absurd (omega (arith, h.1))

-- ---- programs

-- no node with a contract is inlined
abbrev pub AllInlineNone : (List ℕ → Form) → List Item → Type 0
AllInlineNone forms [] = Unit {0}
AllInlineNone forms (TypeItem t ∷ items) = AllInlineNone forms items
AllInlineNone forms (NodeItem n ∷ items) = InlinesNone forms n × AllInlineNone (shapes.with_form forms n.name (shapes.form_of forms n)) items

-- each inlined call fits, where what is known of nodes is what they were counted and what they became
abbrev pub AllFit : (List ℕ → Size) → (List ℕ → Node) → List Item → Type 0
AllFit known nodes [] = Unit {0}
AllFit known nodes (TypeItem t ∷ items) = AllFit known nodes items
AllFit known nodes (NodeItem n ∷ items) = NodeFits known nodes n × AllFit (sizes.with_node known n.name (in_node known n)) (with_node nodes (replaced_node nodes n)) items

items_fit : (s : NameScope) (t : Scope) (forms : List ℕ → Form) (nodes : List ℕ → Node) (known : List ℕ → Size) → Behind s t forms nodes known → (items : List Item) → ItemsAreNamed s items → ItemsHaveTypes t items
    → AllInlineNone forms items → AllFit known nodes items
items_fit s t forms nodes known b [] n h w = tt
items_fit s t forms nodes known b (TypeItem y ∷ items) n h w =
    items_fit (names.behind s (TypeItem y)) (types.behind t (TypeItem y)) forms nodes known (behind_type s (names.behind s (TypeItem y)) t (types.behind t (TypeItem y)) forms nodes known refl refl b) items n.1 h.1 w
items_fit s t forms nodes known b (NodeItem y ∷ items) n h w =
    let more = shapes.with_form forms y.name (shapes.form_of forms y) in (
      fits_now s t forms nodes known b y n.0.0 n.0.1 h.0 w.0,
      items_fit (names.behind s (NodeItem y)) (types.behind t (NodeItem y)) more (with_node nodes (replaced_node nodes y)) (sizes.with_node known y.name (in_node known y)) (behind_node s t forms nodes known b y n.0.0 n.0.1 h.0 w.0) items n.1 h.1 w.1,
    )

pub calls_fit : (program : List Item) → ItemsAreNamed names.nothing program → ItemsHaveTypes types.nothing program → AllInlineNone shapes.nothing_known program → AllFit sizes.nothing_known no_node program
calls_fit program n h w = items_fit names.nothing types.nothing shapes.nothing_known no_node sizes.nothing_known nothing_behind program n h w

items_same : (nodes : List ℕ → Node) (known : List ℕ → Size) (total : ℕ) (items : List Item) → AllFit known nodes items → counts.in_items known total items ≡ counts.in_items known total (replaced_items nodes items)
items_same nodes known total [] h = refl
items_same nodes known total (TypeItem y ∷ items) h = items_same nodes known total items h
items_same nodes known total (NodeItem y ∷ items) h =
    let r = replaced_node nodes y in
    let size = in_node known y in
    let others = replaced_items (with_node nodes r) items in
    ap (at_node y.name (passed_by total size)) (items_same (with_node nodes r) (sizes.with_node known y.name size) (total + size.places) items h.1)
    ∙ ap (λ (z : Size). at_node y.name (passed_by total z) (counts.in_items (sizes.with_node known y.name z) (total + z.places) others)) (sym (counted_law known nodes y h.0))

pub same_counts : (program : List Item) → AllFit sizes.nothing_known no_node program → counts.limit_of program ≡ counts.limit_of (replaced program)
same_counts program h = items_same no_node sizes.nothing_known 0 program h
