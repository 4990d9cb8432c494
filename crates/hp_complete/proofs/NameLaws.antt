-- The names that equations define, one after the other, and the declarations of names.
use Rattle.std.proofs.Common.{◌≡◌, ℕ, suc, ◌+◌, ◌<◌, ◌≤◌, get_or, length, drop, Bool, true, false, not, ◌||◌, ◌==◌, if◌then◌else◌, List, [], ◌∷◌, ◌++◌, Option, None, Some, option_map, Bor, refl, sym, ap, ◌∙◌, arith}
use Rattle.std.specs.Prelude.{slice_get}
use Rattle.std.specs.List.{list_any}
use Rattle.std.specs.Str.{bytes_eq}
use Rattle.std.proofs.lemmas.List.{append_assoc, append-nil, map-append}
use Rattle.std.proofs.lemmas.Bool.Decides.{nat_tests}
use Rattle.std.proofs.lemmas.Slice.Eq.{bytes_eq-Decides}
use Rattle.std.proofs.lemmas.Option.{slice_get_read, slice_get_past}
use Rattle.indexmap.specs.IndexSet.{insert_key}
use Rattle.hp_obc.proofs.Positions.{bytes_eq-sym}
use Rattle.hp_tree.specs.declared.decl.Cons.{Cons}
use Rattle.hp_tree.specs.Blocks.{Decl}
use Rattle.hp_tree.specs.Meaning.{declares, names_of as decl_names}
use Rattle.law_equations.specs.Made.Making.{each_once, is_in, is_plain, keeps_name, path_of, path_written}
use Rattle.hp_complete.specs.Names.{decl_of, names_seen, with_each_once, with_more, with_once}
use Rattle.hp_complete.specs.Signatures.{numbered}
use Rattle.hp_complete.proofs.LayerLaws.{drop-next}

-- ---- a list that grows

module _ {A : Type 0} (before : List A) where
  pub more-nil : with_more before [] ≡ before
  unfolding with_more
  more-nil = append-nil before

  pub more-one : (a : A) → before ++ a ∷ [] ≡ with_more before (a ∷ [])
  unfolding with_more
  more-one a = refl

  pub more-append : (xs ys : List A) → with_more before (xs ++ ys) ≡ with_more (with_more before xs) ys
  unfolding with_more
  more-append xs ys = sym (append_assoc before xs ys)

pub more-from_nil : {A : Type 0} (xs : List A) → with_more [] xs ≡ xs
unfolding with_more
more-from_nil xs = refl

-- ---- each name once

swapped : (a b r : Bool) → (a || (b || r)) ≡ (b || (a || r))
swapped true true r = refl
swapped true false r = refl
swapped false b r = refl

-- a name behind others is among them as if it stood before them
in-last : (xs : List (List ℕ)) (x y : List ℕ) → is_in (xs ++ x ∷ []) y ≡ (bytes_eq x y || is_in xs y)
in-last [] x y = refl
in-last (z ∷ zs) x y = ap (λ r. bytes_eq z y || r) (in-last zs x y) ∙ swapped (bytes_eq z y) (bytes_eq x y) (is_in zs y)

once_by : (found seen : List (List ℕ)) (x : List ℕ) (xs : List (List ℕ)) (d : Bool) → with_each_once found xs ≡ found ++ each_once seen xs
    → with_each_once (found ++ x ∷ []) xs ≡ (found ++ x ∷ []) ++ each_once (x ∷ seen) xs
    → with_each_once (if d then found else found ++ x ∷ []) xs ≡ found ++ (if d then each_once seen xs else x ∷ each_once (x ∷ seen) xs)
once_by found seen x xs true h g = h
once_by found seen x xs false h g = g ∙ append_assoc found (x ∷ []) (each_once (x ∷ seen) xs)

-- the order of what is seen does not matter
each-once : (found seen xs : List (List ℕ)) → ((y : List ℕ) → is_in seen y ≡ is_in found y) → with_each_once found xs ≡ found ++ each_once seen xs
each-once found seen [] h = sym (append-nil found)
each-once found seen (x ∷ xs) h =
    once_by found seen x xs (is_in found x) (each-once found seen xs h)
    (each-once (found ++ x ∷ []) (x ∷ seen) xs (λ y. ap (λ r. bytes_eq x y || r) (h y) ∙ sym (in-last found x y)))
    ∙ ap (λ (d : Bool). found ++ (if d then each_once seen xs else x ∷ each_once (x ∷ seen) xs)) (sym (h x))

pub once-all : (xs : List (List ℕ)) → with_each_once [] xs ≡ each_once [] xs
once-all xs = each-once [] [] xs (λ y. refl)

pub once-next : (found : List (List ℕ)) (xs : List (Bor (List ℕ))) (i : ℕ) (x : Bor (List ℕ)) → i < length xs → x ≡ get_or xs i x
    → with_each_once found (names_seen (drop i xs)) ≡ with_each_once (with_once found x.now) (names_seen (drop (i + 1) xs))
once-next found xs i x h p = ap (λ more. with_each_once found (names_seen more)) (drop-next xs i x h p)

in-keys : (keys : List (Bor (List ℕ))) (x : List ℕ) → list_any (λ (k : Bor (List ℕ)). bytes_eq x k.now) keys ≡ is_in (names_seen keys) x
in-keys [] x = refl
in-keys (k ∷ keys) x = λ j. bytes_eq-sym x k.now j || in-keys keys x j

once_seen : (keys : List (Bor (List ℕ))) (k : Bor (List ℕ)) (d : Bool) → names_seen (if d then keys else keys ++ k ∷ []) ≡ (if d then names_seen keys else names_seen keys ++ k.now ∷ [])
once_seen keys k true = refl
once_seen keys k false = map-append (λ (y : Bor (List ℕ)). y.now) keys (k ∷ [])

-- a key that is put into a set
pub key-once : (keys : List (Bor (List ℕ))) (k : Bor (List ℕ)) → names_seen (insert_key (λ (a b : Bor (List ℕ)). bytes_eq a.now b.now) keys k) ≡ with_once (names_seen keys) k.now
key-once keys k =
    once_seen keys k (list_any (λ (y : Bor (List ℕ)). bytes_eq k.now y.now) keys)
    ∙ ap (λ (d : Bool). if d then names_seen keys else names_seen keys ++ k.now ∷ []) (in-keys keys k.now)

is_known : (b r : Bool) → r ≡ not b → r ≡ false → b ≡ true
is_known true r h p = refl
is_known false r h p = cc

is_new : (b r : Bool) → r ≡ not b → r ≡ true → b ≡ false
is_new true r h p = cc
is_new false r h p = refl

-- a name that is among them already
pub key-known : (keys : List (Bor (List ℕ))) (x : List ℕ) (r : Bool) → r ≡ not (list_any (λ (k : Bor (List ℕ)). bytes_eq x k.now) keys) → r ≡ false → names_seen keys ≡ with_once (names_seen keys) x
key-known keys x r h p =
    sym (ap (λ (d : Bool). if d then names_seen keys else names_seen keys ++ x ∷ []) (sym (in-keys keys x) ∙ is_known (list_any (λ (k : Bor (List ℕ)). bytes_eq x k.now) keys) r h p))

-- a new one, put behind the same names
pub key-new : (keys xs : List (Bor (List ℕ))) (x : Bor (List ℕ)) (r : Bool) → names_seen keys ≡ names_seen xs → r ≡ not (list_any (λ (k : Bor (List ℕ)). bytes_eq x.now k.now) keys) → r ≡ true
    → names_seen (xs ++ x ∷ []) ≡ with_once (names_seen xs) x.now
key-new keys xs x r same h p =
    map-append (λ (y : Bor (List ℕ)). y.now) xs (x ∷ [])
    ∙ sym (ap (λ (d : Bool). if d then names_seen xs else names_seen xs ++ x.now ∷ [])
    (ap (λ names. is_in names x.now) (sym same) ∙ sym (in-keys keys x.now) ∙ is_new (list_any (λ (k : Bor (List ℕ)). bytes_eq x.now k.now) keys) r h p))

-- ---- the declaration of a name

numbered_next : (k : ℕ) (names : List (List ℕ)) (x : List ℕ) → numbered (k + 1) names x ≡ option_map suc (numbered k names x)
numbered_next k [] x = refl
numbered_next k (y ∷ ys) x = by (bytes_eq y x) (numbered (k + 1 + 1) ys x) (numbered (k + 1) ys x) (numbered_next (k + 1) ys x)
  where
    by : (d : Bool) (o p : Option ℕ) → o ≡ option_map suc p → (if d then Some (k + 1) else o) ≡ option_map suc (if d then Some k else p)
    by true o p h = let e : k + 1 ≡ suc k = omega arith in ap Some e
    by false o p h = h

abbrev decl_by : List Decl → Option ℕ → Option Decl
decl_by ds None = None
decl_by ds (Some i) = slice_get ds i

decl-number : (ds : List Decl) (x : List ℕ) → decl_by ds (numbered 0 (decl_names ds) x) ≡ decl_of ds x
decl-number [] x = refl
decl-number (d ∷ ds) x = by (bytes_eq d.name x) (numbered 1 (decl_names ds) x) (numbered 0 (decl_names ds) x) (numbered_next 0 (decl_names ds) x) (decl-number ds x)
  where
    later : (o : Option ℕ) → decl_by (d ∷ ds) (option_map suc o) ≡ decl_by ds o
    later None = refl
    later (Some i) = refl

    by : (b : Bool) (o p : Option ℕ) → o ≡ option_map suc p → decl_by ds p ≡ decl_of ds x → decl_by (d ∷ ds) (if b then Some 0 else o) ≡ (if b then Some d else decl_of ds x)
    by true o p e h = refl
    by false o p e h = ap (decl_by (d ∷ ds)) e ∙ later p ∙ h

pub find-none : (ds : List Decl) (x : List ℕ) → None ≡ numbered 0 (decl_names ds) x → None ≡ decl_of ds x
find-none ds x h = ap (decl_by ds) h ∙ decl-number ds x

pub find-some : (ds : List Decl) (x : List ℕ) (i : ℕ) (o : Option Decl) → Some i ≡ numbered 0 (decl_names ds) x → o ≡ slice_get ds i → o ≡ decl_of ds x
find-some ds x i o h p = p ∙ ap (decl_by ds) h ∙ decl-number ds x

pub decl-there : (ds : List Decl) (i : ℕ) (d : Decl) → i < length ds → d ≡ get_or ds i d → Some d ≡ slice_get ds i
decl-there ds i d h p = sym (slice_get_read ds (length ds) i d refl h p)

pub decl-beyond : (ds : List Decl) (i : ℕ) → length ds ≤ i → None ≡ slice_get ds i
decl-beyond ds i h = sym (slice_get_past ds i h)

-- what the declaration says of a name
module _ {A : Type 0} (f : Decl → A) (e : A) where
  abbrev pub by_decl : Option Decl → A
  by_decl None = e
  by_decl (Some d) = f d

  said_by : (d : Decl) (o : Option Decl) (r : A) (b : Bool) → by_decl o ≡ r → by_decl (if b then Some d else o) ≡ (if b then f d else r)
  said_by d o r true h = refl
  said_by d o r false h = h

declares_by : (d : Bool) (o : Option Decl) (e : Decl) (r : Bool) → by_decl (λ (c : Decl). true) false o ≡ r → by_decl (λ (c : Decl). true) false (if d then Some e else o) ≡ (d || r)
declares_by true o e r h = refl
declares_by false o e r h = h

declares-decl : (ds : List Decl) (x : List ℕ) → by_decl (λ (c : Decl). true) false (decl_of ds x) ≡ declares ds x
declares-decl [] x = refl
declares-decl (d ∷ ds) x = declares_by (bytes_eq d.name x) (decl_of ds x) d (declares ds x) (declares-decl ds x)

path-decl : (ds : List Decl) (x : List ℕ) → by_decl (λ (c : Decl). path_written c.clock) [] (decl_of ds x) ≡ path_of ds x
path-decl [] x = refl
path-decl (d ∷ ds) x = said_by (λ (c : Decl). path_written c.clock) [] d (decl_of ds x) (path_of ds x) (bytes_eq d.name x) (path-decl ds x)

keeps-decl : (ds : List Decl) (x : List ℕ) → by_decl (λ (c : Decl). is_plain c.clock) false (decl_of ds x) ≡ keeps_name ds x
keeps-decl [] x = refl
keeps-decl (d ∷ ds) x = said_by (λ (c : Decl). is_plain c.clock) false d (decl_of ds x) (keeps_name ds x) (bytes_eq d.name x) (keeps-decl ds x)

pub declares-none : (ds : List Decl) (x : List ℕ) → None ≡ decl_of ds x → false ≡ declares ds x
declares-none ds x h = ap (by_decl (λ (c : Decl). true) false) h ∙ declares-decl ds x

pub declares-some : (ds : List Decl) (x : List ℕ) (d : Decl) → Some d ≡ decl_of ds x → true ≡ declares ds x
declares-some ds x d h = ap (by_decl (λ (c : Decl). true) false) h ∙ declares-decl ds x

pub path-none : (ds : List Decl) (x : List ℕ) → None ≡ decl_of ds x → [] ≡ path_of ds x
path-none ds x h = ap (by_decl (λ (c : Decl). path_written c.clock) []) h ∙ path-decl ds x

pub path-some : (ds : List Decl) (x : List ℕ) (d : Decl) (path : List (Cons × List ℕ)) → Some d ≡ decl_of ds x → path ≡ path_written d.clock → path ≡ path_of ds x
path-some ds x d path h p = p ∙ ap (by_decl (λ (c : Decl). path_written c.clock) []) h ∙ path-decl ds x

pub keeps-none : (ds : List Decl) (x : List ℕ) → None ≡ decl_of ds x → false ≡ keeps_name ds x
keeps-none ds x h = ap (by_decl (λ (c : Decl). is_plain c.clock) false) h ∙ keeps-decl ds x

pub keeps-some : (ds : List Decl) (x : List ℕ) (d : Decl) (b : Bool) → Some d ≡ decl_of ds x → b ≡ is_plain d.clock → b ≡ keeps_name ds x
keeps-some ds x d b h p = p ∙ ap (by_decl (λ (c : Decl). is_plain c.clock) false) h ∙ keeps-decl ds x

not_empty : (n : ℕ) → (suc n == 0) ≡ false
not_empty n = grind (arith, nat_tests)

plain_by : (o : Option (List (Cons × List ℕ))) → (length (path_written o) == 0) ≡ is_plain o
plain_by None = refl
plain_by (Some []) = refl
plain_by (Some (s ∷ path)) = not_empty (length path)

pub plain-path : (path : List (Cons × List ℕ)) (o : Option (List (Cons × List ℕ))) → path ≡ path_written o → (length path == 0) ≡ is_plain o
plain-path path o h = ap (λ (ss : List (Cons × List ℕ)). length ss == 0) h ∙ plain_by o

named_by : (b : Bool) (d e : Decl) (x : List ℕ) (o : Option Decl) → (b ≡ true → d.name ≡ x) → (o ≡ Some e → e.name ≡ x) → (if b then Some d else o) ≡ Some e → e.name ≡ x
named_by true d e x o h g p = let same : d ≡ e = cc in ap (λ (c : Decl). c.name) (sym same) ∙ h refl
named_by false d e x o h g p = g p

-- the declaration of a name has it
pub decl-named : (ds : List Decl) (x : List ℕ) (e : Decl) → decl_of ds x ≡ Some e → e.name ≡ x
decl-named [] x e h = absurd cc
decl-named (d ∷ ds) x e h = named_by (bytes_eq d.name x) d e x (decl_of ds x) (λ p. (bytes_eq-Decides d.name x).0 p) (decl-named ds x e) h
