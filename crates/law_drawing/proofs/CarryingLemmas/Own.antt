-- What a block's own layer says of its names, and what a block so gives to the names of a control equation.
use Rattle.std.proofs.Common.{◌≡◌, ℕ, ◌+◌, Bool, true, false, not, ◌&&◌, ◌||◌, if◌then◌else◌, List, [], ◌∷◌, Option, None, Some, refl, sym, ap, subst, ◌∙◌, inl, inr}
use Rattle.std.specs.Prelude.{is_some}
use Rattle.std.specs.Str.{bytes_eq}
use Rattle.std.proofs.lemmas.Option.{same_Some, none-some}
use Rattle.hp_tree.specs.Blocks.{Decl, block, Eqns}
use Rattle.hp_tree.specs.Instant.{Named, Instant}
use Rattle.hp_tree.specs.Meaning.{Names, declares, some_defines, inside as inside_names, from_block}
use Rattle.hp_meaning.specs.Contract.Memory.{number_in}
use Rattle.hp_drawing.specs.declared.parts.Entry.{Entry}
use Rattle.hp_drawing.specs.declared.parts.Place.{Place}
use Rattle.hp_drawing.specs.Told.{Told, type_shape, or_none}
use Rattle.hp_drawing.specs.Scopes.{Scope, Layer, local_entry, entry_at, entry_if, entry_in, put, add, add_if, value_by, found, or_found, innermost, value_in, own_entry, top_layer, shapes_in, put_locals, put_name_if, put_names, names_of_eqns, own_layer, enter, push_values, push_lasts, own_wire, branch_wire}
use Rattle.hp_drawing.specs.Sketch.{Sketch, hole}
use Rattle.law_drawing.specs.Carrying.Solving.{Has}
use Rattle.law_drawing.proofs.CarryingLemmas.Layers.{Knows, Each, Occurs, put-found, same-name, self-name, knows-put, knows-own, knows-add, knows-added, eqns-names, eqns-occur, or-cases}

-- ---- what holds of all entries

abbrev pub AllEntries : (List ℕ → Entry → Type 0) → Layer → Type 0
AllEntries P l = (x : List ℕ) (e : Entry) → entry_in l x ≡ Some e → P x e

all-put : (P : List ℕ → Entry → Type 0) (l : Layer) (y : List ℕ) (n : Entry) → AllEntries P l → P y n → AllEntries P (put l y n)
all-put P l y n h k x e q = by (bytes_eq x y) refl (sym (put-found l y n x) ∙ q)
  where
    by : (b : Bool) → bytes_eq x y ≡ b → entry_if b n (entry_in l x) ≡ Some e → P x e
    by true s r = subst (λ z. P z e) (sym (same-name x y s)) (subst (λ m. P y m) (same_Some n e r) k)
    by false s r = h x e r

all-add : (P : List ℕ → Entry → Type 0) (l : Layer) (y : List ℕ) (n : Entry) → AllEntries P l → P y n → AllEntries P (add l y n)
all-add P l y n h k = by (entry_in l y)
  where
    by : (o : Option Entry) → AllEntries P (add_if o l y n)
    by None = all-put P l y n h k
    by (Some old) = h

-- ---- the names that a block declares, and those that it defines

pub record IsOwn (ds : List Decl) (es : Eqns) (x : List ℕ) (e : Entry) : Type 0 where
  pub hole_is : e.wire ≡ Some e.hole
  pub declared : is_some e.decl ≡ declares ds x
  pub defined : declares ds x ≡ false → some_defines es x ≡ true

locals-own : (told : Told) (all : List Decl) (es : Eqns) (ds : List Decl) (k : ℕ) (l : Layer) (d : Sketch) → ((x : List ℕ) → declares ds x ≡ true → declares all x ≡ true) → AllEntries (IsOwn all es) l → AllEntries (IsOwn all es) (put_locals told k ds l d).0
locals-own told all es [] k l d f h = h
locals-own told all es (o ∷ ds) k l d f h =
    let w = hole (type_shape told o.ty) d in
    let e = local_entry k w.0 (type_shape told o.ty) in
    let there : declares all o.name ≡ true = f o.name (ap (λ b. b || declares ds o.name) (self-name o.name)) in
    locals-own told all es ds (k + 1) (add l o.name e) w.1 (λ x q. f x (right (bytes_eq o.name x) (declares ds x) q))
    (all-add (IsOwn all es) l o.name e h (record { hole_is = refl; declared = sym there; defined = λ q. absurd (let c : true ≡ false = sym there ∙ q in cc) }))
  where
    right : (a b : Bool) → b ≡ true → a || b ≡ true
    right true b h = refl
    right false b h = h

locals-known : (told : Told) (ds : List Decl) (k : ℕ) (l : Layer) (d : Sketch) → ((x : List ℕ) → Knows l x → Knows (put_locals told k ds l d).0 x) × ((x : List ℕ) → declares ds x ≡ true → Knows (put_locals told k ds l d).0 x)
locals-known told [] k l d = (λ x q. q, λ x q. absurd cc)
locals-known told (o ∷ ds) k l d =
    let w = hole (type_shape told o.ty) d in
    let e = local_entry k w.0 (type_shape told o.ty) in
    let ih = locals-known told ds (k + 1) (add l o.name e) w.1 in
    (λ x q. ih.0 x (knows-add l o.name e x q), λ x q. or-cases (bytes_eq o.name x) (declares ds x) q (λ b. ih.0 x (subst (λ n. Knows (add l o.name e) n) (same-name o.name x b) (knows-added l o.name e))) (λ b. ih.1 x b))

abbrev OwnGives : List Decl → Eqns → Scope → List ℕ → List (List ℕ) → Layer → Layer × Sketch → Type 0
OwnGives ds es z y xs l a = AllEntries (IsOwn ds es) (put_names z xs a.0 a.1).0 × ((x : List ℕ) → Knows l x → Knows (put_names z xs a.0 a.1).0 x) × ((x : List ℕ) → Occurs (y ∷ xs) x → Knows (put_names z xs a.0 a.1).0 x)

names-own : (ds : List Decl) (es : Eqns) (z : Scope) (xs : List (List ℕ)) (l : Layer) (d : Sketch) → Each (λ x. some_defines es x ≡ true) xs → ((x : List ℕ) → declares ds x ≡ true → Knows l x) → AllEntries (IsOwn ds es) l
    → AllEntries (IsOwn ds es) (put_names z xs l d).0 × ((x : List ℕ) → Knows l x → Knows (put_names z xs l d).0 x) × ((x : List ℕ) → Occurs xs x → Knows (put_names z xs l d).0 x)
names-own ds es z [] l d f k h = (h, λ x q. q, λ x q. absurd q)
names-own ds es z (y ∷ xs) l d f k h = by (entry_in l y) refl (λ l d k h. names-own ds es z xs l d f.1 k h)
  where
    occurs : (l1 : Layer) (r : Layer) → Knows l1 y → ((x : List ℕ) → Knows l1 x → Knows r x) → ((x : List ℕ) → Occurs xs x → Knows r x) → (x : List ℕ) → Occurs (y ∷ xs) x → Knows r x
    occurs l1 r k f g x (inl e) = f x (subst (λ n. Knows l1 n) e k)
    occurs l1 r k f g x (inr o) = g x o

    undeclared : (b : Bool) → entry_in l y ≡ None → declares ds y ≡ b → b ≡ false
    undeclared true q s = absurd (let c : false ≡ true = ap is_some (sym q) ∙ k y s in cc)
    undeclared false q s = refl

    by : (o : Option Entry) → entry_in l y ≡ o
        → ((l : Layer) (d : Sketch) → ((x : List ℕ) → declares ds x ≡ true → Knows l x) → AllEntries (IsOwn ds es) l
        → AllEntries (IsOwn ds es) (put_names z xs l d).0 × ((x : List ℕ) → Knows l x → Knows (put_names z xs l d).0 x) × ((x : List ℕ) → Occurs xs x → Knows (put_names z xs l d).0 x))
        → OwnGives ds es z y xs l (put_name_if o (shapes_in z y) y l d)
    by (Some e) q ih = let r = ih l d k h in (r.0, r.1, occurs l (put_names z xs l d).0 (ap is_some q) r.1 r.2)
    by None q ih =
        let w = hole (shapes_in z y) d in
        let e = entry_at w.0 (shapes_in z y) in
        let l1 = put l y e in
        let u : declares ds y ≡ false = undeclared (declares ds y) q refl in
        let r = ih l1 w.1 (λ x s. knows-put l y e x (k x s)) (all-put (IsOwn ds es) l y e h (record { hole_is = refl; declared = sym u; defined = λ s. f.0 })) in
        (r.0, λ x s. r.1 x (knows-put l y e x s), occurs l1 (put_names z xs l1 w.1).0 (knows-own l y e) r.1 r.2)

-- ---- the scope of a block

pub record OwnsNames (ds : List Decl) (es : Eqns) (z : Scope) : Type 0 where
  pub owned : AllEntries (IsOwn ds es) (top_layer z)
  pub known : (x : List ℕ) → some_defines es x ≡ true → Knows (top_layer z) x

pub entered-own : (told : Told) (z : Scope) (place : Place) (ds : List Decl) (es : Eqns) (d : Sketch) → OwnsNames ds es (enter told z place ds es d).0
unfolding enter own_layer push_values push_lasts top_layer
entered-own told z place ds es d =
    let l1 = put_locals told 0 ds [] d in
    let a = locals-own told ds es ds 0 [] d (λ x q. q) (λ x e q. absurd (none-some e q)) in
    let k = locals-known told ds 0 [] d in
    let b = names-own ds es z (names_of_eqns es) l1.0 l1.1 (eqns-names es) k.1 a in
    record { owned = b.0; known = λ x q. b.2 x (eqns-occur es x q) }

pub own-top : (z : Scope) (x : List ℕ) → own_entry z x ≡ entry_in (top_layer z) x
unfolding own_entry top_layer
own-top z x = refl

-- what a layer says is the value of a name
pub top-value : (z : Scope) (x : List ℕ) (e : Entry) → entry_in (top_layer z) x ≡ Some e → (value_in z x).wire ≡ or_none e.wire
unfolding top_layer value_in
top-value z x e q = by z.values q
  where
    by : (ls : List Layer) → entry_in (innermost ls) x ≡ Some e → (value_by (found ls x)).wire ≡ or_none e.wire
    by [] q = absurd (none-some e q)
    by (l ∷ ls) q = ap (λ o. (value_by (or_found o (found ls x))).wire) q

abbrev given_of : Names → Instant → List ℕ → Bool → Bool → ℕ
given_of last now x a b = number_in (if a && not b then now (Named x ∷ []) else last x)

-- So a block gives a name its value there, or the last one where it does not define it.
pub branch-number : (ds : List Decl) (es : Eqns) (z : Scope) (out last : Names) (now : Instant) (ns : List ℕ) (x : List ℕ) (hidden : Option ℕ) → OwnsNames ds es z → Has ns (value_in z x).wire (number_in (inside_names es out now x)) → Has ns (or_none hidden) (number_in (last x))
    → Has ns (or_none (branch_wire (entry_in (top_layer z) x) hidden)) (number_in (from_block (block ds es) last now x))
branch-number ds es z out last now ns x hidden O v h = by (entry_in (top_layer z) x) refl
  where
    not-known : (b : Bool) → some_defines es x ≡ b → entry_in (top_layer z) x ≡ None → b ≡ false
    not-known true q r = absurd (let c : false ≡ true = ap is_some (sym r) ∙ O.known x q in cc)
    not-known false q r = refl

    and-not : (a b : Bool) → b ≡ true → a && not b ≡ false
    and-not true true e = refl
    and-not true false e = absurd cc
    and-not false b e = refl

    by : (o : Option Entry) → entry_in (top_layer z) x ≡ o → Has ns (or_none (branch_wire o hidden)) (given_of last now x (some_defines es x) (declares ds x))
    by None q = subst (λ a. Has ns (or_none hidden) (given_of last now x a (declares ds x))) (sym (not-known (some_defines es x) refl q)) h
    by (Some e) q = at e.decl (O.owned x e q).declared (subst (λ w. Has ns w (number_in (inside_names es out now x))) (top-value z x e q) v)
      where
        at : (k : Option ℕ) → is_some k ≡ declares ds x → Has ns (or_none e.wire) (number_in (inside_names es out now x)) → Has ns (or_none (own_wire k e.wire hidden)) (given_of last now x (some_defines es x) (declares ds x))
        at (Some k) s v = subst (λ b. Has ns (or_none hidden) (number_in (if b then now (Named x ∷ []) else last x))) (sym (and-not (some_defines es x) (declares ds x) (sym s))) h
        at None s v =
            let u : declares ds x ≡ false = sym s in
            let i : some_defines es x ≡ true = (O.owned x e q).defined u in
            let eq : number_in (inside_names es out now x) ≡ given_of last now x (some_defines es x) (declares ds x) =
            ap (λ b. number_in (if b then now (Named x ∷ []) else out x)) i ∙ sym (ap (λ b. given_of last now x b (declares ds x)) i ∙ ap (λ b. given_of last now x true b) u) in
            subst (λ n. Has ns (or_none e.wire) n) eq v
