-- What is known of a program in the scope of each of its nodes: its constructors are of types by their numbers, and its nodes are those of their names.
use Rattle.std.proofs.Common.{◌≡◌, ℕ, zero, suc, ◌+◌, ◌<◌, Bool, true, false, if◌then◌else◌, List, [], ◌∷◌, ◌++◌, reverse, length, Option, None, Some, refl, sym, ap, subst, ◌∙◌, arith}
use Rattle.std.specs.Prelude.{min, ◌||◌, IsFalse, Contains}
use Rattle.std.specs.Str.{bytes_eq}
use Rattle.std.proofs.lemmas.List.{append_assoc, reverse-append, reverse-reverse}
use Rattle.hp_tree.specs.declared.program.Item.{Item}
use Rattle.hp_tree.specs.declared.program.Item.TheVariants.{TypeItem, NodeItem}
use Rattle.hp_tree.specs.Programs.{Node}
use Rattle.hp_tree.specs.Meaning.{node_among}
use Rattle.hp_base.specs.Known.Known.{lookup, with_entry}
use Rattle.hp_typing.specs.Scopes as typing
use Rattle.law_values.specs.Valued.Values.{scope_behind}
use Rattle.law_judged.proofs.NamedLemmas.Sets.{same_name, name_same}
use Rattle.law_values.proofs.AcceptedLemmas.Views.{entry_new, entry_kept, entry_cases}
use Rattle.law_equations.specs.Made.Making.{type_number}
use Rattle.hp_complete.specs.Declaring.{Constructors, with_constructors, constructors_of, known_of}
use Rattle.hp_complete.specs.Signatures.{places_of}
use Rattle.hp_complete.proofs.KnownLaws.{nodes-known}
use Rattle.law_equations.specs.Answered.Answering.{has_node, AreApart}
use Rattle.law_wellmade.proofs.BegunLemmas.Typing.{Grounded}

-- ---- lists

pub turned : {A : Type 0} (x : A) (xs rest : List A) → reverse (x ∷ xs) ++ rest ≡ reverse xs ++ (x ∷ rest)
turned x xs rest = ap (λ r. r ++ rest) (reverse-append (x ∷ []) xs) ∙ append_assoc (reverse xs) (x ∷ []) rest

split_back : {A : Type 0} (xs later earlier : List A) (x : A) → reverse xs ≡ later ++ x ∷ earlier → xs ≡ reverse earlier ++ (x ∷ reverse later)
split_back xs later earlier x e = sym (reverse-reverse xs) ∙ ap reverse e ∙ reverse-append later (x ∷ earlier) ∙ turned x earlier (reverse later)

-- ---- constructors of a type that is declared

known_cases : {X : Type 0} (cs : List (List ℕ)) (known : List (List ℕ × List ℕ)) (t x u : List ℕ) → lookup (typing.with_constructors known t cs) x ≡ Some u → (lookup known x ≡ Some u → X) → (Contains cs x → t ≡ u → lookup known x ≡ None → X) → X
known_cases {X} [] known t x u h f g = f h
known_cases {X} (c ∷ cs) known t x u h f g =
    known_cases cs (with_entry known c t) t x u h
    (λ k. entry_cases known c t x u k f (λ e w z. g (let l : 0 < length (c ∷ cs) = omega arith in (0, l, sym e)) w z))
    (λ i w z. g (let m = i.1 in let l : suc i.0 < length (c ∷ cs) = omega (arith, m) in (suc i.0, l, i.2)) w (none_before (lookup known x) refl z))
  where
    none_before : (o : Option (List ℕ)) → lookup known x ≡ o → lookup (with_entry known c t) x ≡ None → lookup known x ≡ None
    none_before None e z = e
    none_before (Some v) e z = absurd (let r = sym (entry_kept known c t x v e) ∙ z in cc)

unknown_before : (cs : List (List ℕ)) (known : List (List ℕ × List ℕ)) (t x : List ℕ) → lookup (typing.with_constructors known t cs) x ≡ None → (lookup known x ≡ None) × (Contains cs x → ⊥)
unknown_before [] known t x h = (h, λ i. absurd (let m = i.1 in omega (arith, m)))
unknown_before (c ∷ cs) known t x h =
    let q = unknown_before cs (with_entry known c t) t x h in
    let none : lookup known x ≡ None = before (lookup known x) refl q.0 in
    (none, here none q.0 q.1)
  where
    before : (o : Option (List ℕ)) → lookup known x ≡ o → lookup (with_entry known c t) x ≡ None → lookup known x ≡ None
    before None e z = e
    before (Some v) e z = absurd (let r = sym (entry_kept known c t x v e) ∙ z in cc)

    here : lookup known x ≡ None → lookup (with_entry known c t) x ≡ None → (Contains cs x → ⊥) → Contains (c ∷ cs) x → ⊥
    here n z f (zero, l, e) = let k : lookup (with_entry known c t) c ≡ Some t = entry_new known c t (subst (λ w. lookup known w ≡ None) (sym e) n) in let r = sym k ∙ subst (λ w. lookup (with_entry known c t) w ≡ None) (sym e) z in absurd (cc)
    here n z f (suc i, l, e) = let m : i < length cs = omega (arith, l) in f (i, m, e)

-- the same as functions
with_some : (t k : ℕ) (cs : List (List ℕ)) (others : Constructors) (x : List ℕ) → Contains cs x → (n : ℕ) × (with_constructors t k cs others x ≡ Some (t, n))
with_some t k [] others x h = absurd (let m = h.1 in omega (arith, m))
with_some t k (c ∷ cs) others x h = by (bytes_eq c x) refl (λ e. with_some t (k + 1) cs others x (rest e h))
  where
    rest : IsFalse (bytes_eq c x) → Contains (c ∷ cs) x → Contains cs x
    rest f (zero, l, e) = absurd (let r = sym (name_same c x e) ∙ f in cc)
    rest f (suc i, l, e) = let m : i < length cs = omega (arith, l) in (i, m, e)

    by : (b : Bool) → bytes_eq c x ≡ b → (IsFalse (bytes_eq c x) → (n : ℕ) × (with_constructors t (k + 1) cs others x ≡ Some (t, n))) → (n : ℕ) × ((if b then Some (t, min k 255) else with_constructors t (k + 1) cs others x) ≡ Some (t, n))
    by true e g = (min k 255, refl)
    by false e g = g e

with_none : (t k : ℕ) (cs : List (List ℕ)) (others : Constructors) (x : List ℕ) → (Contains cs x → ⊥) → with_constructors t k cs others x ≡ others x
with_none t k [] others x f = refl
with_none t k (c ∷ cs) others x f = by (bytes_eq c x) refl (with_none t (k + 1) cs others x (λ h. f (let m = h.1 in let l : suc h.0 < length (c ∷ cs) = omega (arith, m) in (suc h.0, l, h.2))))
  where
    by : (b : Bool) → bytes_eq c x ≡ b → with_constructors t (k + 1) cs others x ≡ others x → (if b then Some (t, min k 255) else with_constructors t (k + 1) cs others x) ≡ others x
    by true e g = absurd (f (let l : 0 < length (c ∷ cs) = omega arith in (0, l, same_name c x e)))
    by false e g = g

-- ---- constructors of a program

module _ (places : List ℕ → Option ℕ) (c : List ℕ) where
  unknown_here : (earlier rest : List Item) → lookup (scope_behind earlier).constructors c ≡ None → constructors_of places (reverse earlier ++ rest) c ≡ constructors_of places rest c
  unknown_here [] rest h = refl
  unknown_here (TypeItem t ∷ earlier) rest h =
      let q = unknown_before t.cons (scope_behind earlier).constructors t.name c h in
      ap (λ items. constructors_of places items c) (turned (TypeItem t) earlier rest) ∙ unknown_here earlier (TypeItem t ∷ rest) q.0
      ∙ with_none (type_number (places t.name)) 0 t.cons (constructors_of places rest) c q.1
  unknown_here (NodeItem n ∷ earlier) rest h = ap (λ items. constructors_of places items c) (turned (NodeItem n) earlier rest) ∙ unknown_here earlier (NodeItem n ∷ rest) h

  known_here : (earlier rest : List Item) (u : List ℕ) → lookup (scope_behind earlier).constructors c ≡ Some u → (n : ℕ) × (constructors_of places (reverse earlier ++ rest) c ≡ Some (type_number (places u), n))
  known_here [] rest u h = absurd (cc)
  known_here (NodeItem n ∷ earlier) rest u h =
      let q = known_here earlier (NodeItem n ∷ rest) u h in
      (q.0, ap (λ items. constructors_of places items c) (turned (NodeItem n) earlier rest) ∙ q.1)
  known_here (TypeItem t ∷ earlier) rest u h =
      known_cases t.cons (scope_behind earlier).constructors t.name c u h
      (λ k. let q = known_here earlier (TypeItem t ∷ rest) u k in (q.0, ap (λ items. constructors_of places items c) (turned (TypeItem t) earlier rest) ∙ q.1))
      (λ i w z.
      let q = with_some (type_number (places t.name)) 0 t.cons (constructors_of places rest) c i in
      (q.0, ap (λ items. constructors_of places items c) (turned (TypeItem t) earlier rest) ∙ unknown_here earlier (TypeItem t ∷ rest) z ∙ q.1 ∙ ap (λ v. Some (type_number (places v), q.0)) w))

-- ---- nodes

has_when : (items : List Item) (f : List ℕ) (m : Node) → node_among items f ≡ Some m → has_node items f ≡ true
has_when [] f m h = absurd (cc)
has_when (TypeItem t ∷ items) f m h = has_when items f m h
has_when (NodeItem n ∷ items) f m h = by (bytes_eq n.name f) h (has_when items f m)
  where
    by : (b : Bool) → (if b then Some n else node_among items f) ≡ Some m → (node_among items f ≡ Some m → has_node items f ≡ true) → (b || has_node items f) ≡ true
    by true h g = refl
    by false h g = g h

-- a node is found behind others of other names
behind_one : (n : Node) (items : List Item) (f : List ℕ) (m : Node) → IsFalse (has_node items n.name) → node_among items f ≡ Some m → node_among (NodeItem n ∷ items) f ≡ Some m
behind_one n items f m apart h = by (bytes_eq n.name f) refl
  where
    by : (b : Bool) → bytes_eq n.name f ≡ b → (if b then Some n else node_among items f) ≡ Some m
    by true e = absurd (let r = sym (has_when items f m h) ∙ subst (λ z. IsFalse (has_node items z)) (same_name n.name f e) apart in cc)
    by false e = h

behind_all : (later items : List Item) (f : List ℕ) (m : Node) → AreApart (later ++ items) → node_among items f ≡ Some m → node_among (later ++ items) f ≡ Some m
behind_all [] items f m apart h = h
behind_all (TypeItem t ∷ later) items f m apart h = behind_all later items f m apart h
behind_all (NodeItem n ∷ later) items f m apart h = behind_one n (later ++ items) f m apart.0 (behind_all later items f m apart.1 h)

apart_behind : (later items : List Item) → AreApart (later ++ items) → AreApart items
apart_behind [] items apart = apart
apart_behind (TypeItem t ∷ later) items apart = apart_behind later items apart
apart_behind (NodeItem n ∷ later) items apart = apart_behind later items apart.1

nodes_among : (items : List Item) → AreApart items → (f : List ℕ) (m : Node) → lookup (scope_behind items).nodes f ≡ Some m → node_among items f ≡ Some m
nodes_among [] apart f m h = absurd (cc)
nodes_among (TypeItem t ∷ items) apart f m h = nodes_among items apart f m h
nodes_among (NodeItem n ∷ items) apart f m h =
    entry_cases (scope_behind items).nodes n.name n f m h
    (λ k. behind_one n items f m apart.0 (nodes_among items apart.1 f m k))
    (λ e w z. ap (λ b. if b then Some n else node_among items f) (name_same n.name f (sym e)) ∙ ap Some w)

-- So it is where each node stands.
pub grounded : (items later earlier : List Item) (n : Node) → reverse items ≡ later ++ NodeItem n ∷ earlier → AreApart (reverse items) → Grounded (known_of items) (scope_behind earlier)
grounded items later earlier n e apart =
    let split = split_back items later earlier (NodeItem n) e in
    let apart_here = subst AreApart e apart in
    let own = apart_behind later (NodeItem n ∷ earlier) apart_here in
    record {
      constructors = λ c u h. let q = known_here (places_of items) c earlier (NodeItem n ∷ reverse later) u h in (q.0, ap (λ xs. constructors_of (places_of items) xs c) split ∙ q.1);
      nodes = λ f m h.
          nodes-known items f ∙ ap (λ xs. node_among xs f) e
          ∙ behind_all later (NodeItem n ∷ earlier) f m apart_here (behind_one n earlier f m own.0 (nodes_among earlier own.1 f m h));
    }
