-- The paths of clocks of the names that a block declares are those of their declarations.
use Rattle.std.proofs.Common.{◌≡◌, ℕ, ◌+◌, Bool, true, false, ◌||◌, if◌then◌else◌, List, [], ◌∷◌, ◌++◌, length, reverse, Option, None, Some, refl, sym, ap, subst, ◌∙◌}
use Rattle.std.specs.Prelude.{slice_get, is_some}
use Rattle.std.specs.Str.{bytes_eq}
use Rattle.std.proofs.lemmas.List.{append_assoc, append-nil, length-append}
use Rattle.hp_tree.specs.declared.decl.Cons.{Cons}
use Rattle.hp_tree.specs.Blocks.{Decl, Eqns}
use Rattle.hp_tree.specs.Instant.{Clock}
use Rattle.hp_tree.specs.Meaning.{declares, written, clock_in}
use Rattle.hp_drawing.specs.declared.parts.Entry.{Entry}
use Rattle.hp_drawing.specs.declared.parts.Place.{Place}
use Rattle.hp_drawing.specs.Told.{Told, type_shape}
use Rattle.hp_drawing.specs.Scopes.{Scope, Layer, entry_at, local_entry, entry_if, entry_in, put, add, add_if, decl_by, put_locals, put_name_if, put_names, shapes_in, names_of_eqns, enter, own_layer, push_values, push_lasts, own_entry}
use Rattle.hp_drawing.specs.Sketch.{Sketch, hole}
use Rattle.hp_drawing.specs.DrawnBlocks.{path_or, decl_path, path_by, path_of}
use Rattle.law_drawing.proofs.CarryingLemmas.Numbers.{get-seam}
use Rattle.law_drawing.proofs.CarryingLemmas.Layers.{Knows, knows-put, knows-own, put-found, same-name, self-name}

or-yes : {X : Type 0} (a b : Bool) → a || b ≡ true → (a ≡ true → X) → (b ≡ true → X) → X
or-yes true b h f g = f refl
or-yes false b h f g = g h

either-way : {X : Type 0} (b : Bool) → (b ≡ true → X) → (b ≡ false → X) → X
either-way true f g = f refl
either-way false f g = g refl

declares-more : (front more : List Decl) (x : List ℕ) → declares front x ≡ true → declares (front ++ more) x ≡ true
declares-more [] more x h = absurd cc
declares-more (d ∷ front) more x h = by (bytes_eq d.name x) h (λ k. declares-more front more x k)
  where
    by : (b : Bool) → b || declares front x ≡ true → (declares front x ≡ true → declares (front ++ more) x ≡ true) → b || declares (front ++ more) x ≡ true
    by true h f = refl
    by false h f = f h

declares-one : (front : List Decl) (o : Decl) (x : List ℕ) → declares front x ≡ false → declares (front ++ o ∷ []) x ≡ true → bytes_eq o.name x ≡ true
declares-one [] o x f h = or-yes (bytes_eq o.name x) false h (λ k. k) (λ k. absurd cc)
declares-one (d ∷ front) o x f h = by (bytes_eq d.name x) f h (λ g k. declares-one front o x g k)
  where
    by : (b : Bool) → b || declares front x ≡ false → b || declares (front ++ o ∷ []) x ≡ true → (declares front x ≡ false → declares (front ++ o ∷ []) x ≡ true → bytes_eq o.name x ≡ true) → bytes_eq o.name x ≡ true
    by true f h g = absurd cc
    by false f h g = g f h

declares-last : (front : List Decl) (o : Decl) → declares (front ++ o ∷ []) o.name ≡ true
declares-last [] o = ap (λ b. b || false) (self-name o.name)
declares-last (d ∷ front) o = by (bytes_eq d.name o.name) (declares-last front o)
  where
    by : (b : Bool) → declares (front ++ o ∷ []) o.name ≡ true → b || declares (front ++ o ∷ []) o.name ≡ true
    by true h = refl
    by false h = h

clock-more : (front more : List Decl) (x : List ℕ) → declares front x ≡ true → clock_in (front ++ more) x ≡ clock_in front x
clock-more [] more x h = absurd cc
clock-more (d ∷ front) more x h = by (bytes_eq d.name x) h (λ k. clock-more front more x k)
  where
    by : (b : Bool) → b || declares front x ≡ true → (declares front x ≡ true → clock_in (front ++ more) x ≡ clock_in front x) → (if b then written d.clock else clock_in (front ++ more) x) ≡ (if b then written d.clock else clock_in front x)
    by true h f = refl
    by false h f = f h

clock-one : (front : List Decl) (o : Decl) (x : List ℕ) → declares front x ≡ false → bytes_eq o.name x ≡ true → clock_in (front ++ o ∷ []) x ≡ written o.clock
clock-one [] o x f h = ap (λ b. if b then written o.clock else []) h
clock-one (d ∷ front) o x f h = by (bytes_eq d.name x) f (λ g. clock-one front o x g h)
  where
    by : (b : Bool) → b || declares front x ≡ false → (declares front x ≡ false → clock_in (front ++ o ∷ []) x ≡ written o.clock) → (if b then written d.clock else clock_in (front ++ o ∷ []) x) ≡ written o.clock
    by true f g = absurd cc
    by false f g = g f

clock-none : (ds : List Decl) (x : List ℕ) → declares ds x ≡ false → clock_in ds x ≡ []
clock-none [] x f = refl
clock-none (d ∷ ds) x f = by (bytes_eq d.name x) f (λ g. clock-none ds x g)
  where
    by : (b : Bool) → b || declares ds x ≡ false → (declares ds x ≡ false → clock_in ds x ≡ []) → (if b then written d.clock else clock_in ds x) ≡ []
    by true f g = absurd cc
    by false f g = g f

written-path : (o : Option (List (Cons × List ℕ))) → reverse (path_or o) ≡ written o
written-path None = refl
written-path (Some p) = refl

-- the clock that a layer tells of a name
abbrev pub layer_clock : List Decl → Layer → List ℕ → Clock
layer_clock all l x = reverse (path_by all (decl_by (entry_in l x)))

-- A layer knows the declarations so far, by their numbers.
pub record IsNumbered (all front : List Decl) (l : Layer) : Type 0 where
  pub knows : (x : List ℕ) → Knows l x → declares front x ≡ true
  pub known : (x : List ℕ) → declares front x ≡ true → Knows l x
  pub clocks : (x : List ℕ) → declares front x ≡ true → layer_clock all l x ≡ clock_in front x

unknown : (l : Layer) (x : List ℕ) (o : Option Entry) → entry_in l x ≡ o → is_some o ≡ false → Knows l x → ⊥
unknown l x o q n k = let c : true ≡ false = sym k ∙ ap is_some q ∙ n in cc

one-numbered : (all front : List Decl) (o : Decl) (more : List Decl) (l : Layer) (e : Entry) → all ≡ front ++ o ∷ more → e.decl ≡ Some (length front) → IsNumbered all front l → IsNumbered all (front ++ o ∷ []) (add l o.name e)
one-numbered all front o more l e q d h = by (entry_in l o.name) refl
  where
    at_it : path_by all (Some (length front)) ≡ path_or o.clock
    at_it = ap decl_path (ap (λ a. slice_get a (length front)) q ∙ get-seam front more o)

    still : declares front o.name ≡ true → IsNumbered all (front ++ o ∷ []) l
    still k = record {
      knows = λ x r. declares-more front (o ∷ []) x (h.knows x r);
      known = λ x r. either-way (declares front x) (λ c. h.known x c) (λ c. h.known x (ap (declares front) (sym (same-name o.name x (declares-one front o x c r))) ∙ k));
      clocks = λ x r. either-way (declares front x) (λ c. h.clocks x c ∙ sym (clock-more front (o ∷ []) x c))
          (λ c. absurd (let n : o.name ≡ x = same-name o.name x (declares-one front o x c r) in let t : true ≡ false = sym k ∙ ap (declares front) n ∙ c in cc));
    }

    found_clock : (x : List ℕ) (b : Bool) → bytes_eq x o.name ≡ b → declares front o.name ≡ false → declares (front ++ o ∷ []) x ≡ true → reverse (path_by all (decl_by (entry_if b e (entry_in l x)))) ≡ clock_in (front ++ o ∷ []) x
    found_clock x true s n r =
        let m : x ≡ o.name = same-name x o.name s in
        let f : declares front x ≡ false = ap (declares front) m ∙ n in
        let i : bytes_eq o.name x ≡ true = subst (λ y. bytes_eq o.name y ≡ true) (sym m) (self-name o.name) in
        ap (λ k. reverse (path_by all k)) d ∙ ap reverse at_it ∙ written-path o.clock ∙ sym (clock-one front o x f i)
    found_clock x false s n r =
        either-way (declares front x) (λ c. h.clocks x c ∙ sym (clock-more front (o ∷ []) x c))
        (λ c. absurd (let m : o.name ≡ x = same-name o.name x (declares-one front o x c r) in let i : bytes_eq x o.name ≡ true = subst (λ y. bytes_eq x y ≡ true) (sym m) (self-name x) in let t : true ≡ false = sym i ∙ s in cc))

    known_one : (x : List ℕ) (b : Bool) → bytes_eq x o.name ≡ b → is_some (entry_if b e (entry_in l x)) ≡ true → declares (front ++ o ∷ []) x ≡ true
    known_one x true s r = subst (λ y. declares (front ++ o ∷ []) y ≡ true) (sym (same-name x o.name s)) (declares-last front o)
    known_one x false s r = declares-more front (o ∷ []) x (h.knows x r)

    new : declares front o.name ≡ false → IsNumbered all (front ++ o ∷ []) (put l o.name e)
    new n = record {
      knows = λ x r. known_one x (bytes_eq x o.name) refl (subst (λ w. is_some w ≡ true) (put-found l o.name e x) r);
      known = λ x r. either-way (declares front x) (λ c. knows-put l o.name e x (h.known x c)) (λ c. subst (Knows (put l o.name e)) (same-name o.name x (declares-one front o x c r)) (knows-own l o.name e));
      clocks = λ x r. ap (λ w. reverse (path_by all (decl_by w))) (put-found l o.name e x) ∙ found_clock x (bytes_eq x o.name) refl n r;
    }

    by : (w : Option Entry) → entry_in l o.name ≡ w → IsNumbered all (front ++ o ∷ []) (add_if w l o.name e)
    by (Some old) r = still (h.knows o.name (ap is_some r))
    by None r = either-way (declares front o.name) (λ c. absurd (unknown l o.name None r refl (h.known o.name c))) new

pub none-numbered : (all : List Decl) → IsNumbered all [] []
none-numbered all = record { knows = λ x k. absurd cc; known = λ x k. absurd cc; clocks = λ x k. absurd cc }

pub locals-numbered : (told : Told) (all front ds : List Decl) (k : ℕ) (l : Layer) (d : Sketch) → all ≡ front ++ ds → k ≡ length front → IsNumbered all front l → IsNumbered all (front ++ ds) (put_locals told k ds l d).0
locals-numbered told all front [] k l d q n h = subst (λ f. IsNumbered all f l) (sym (append-nil front)) h
locals-numbered told all front (o ∷ ds) k l d q n h =
    let w = hole (type_shape told o.ty) d in
    let e = local_entry k w.0 (type_shape told o.ty) in
    let s : (front ++ o ∷ []) ++ ds ≡ front ++ o ∷ ds = append_assoc front (o ∷ []) ds in
    let m : k + 1 ≡ length (front ++ o ∷ []) = ap (λ i. i + 1) n ∙ sym (length-append front (o ∷ [])) in
    subst (λ f. IsNumbered all f (put_locals told (k + 1) ds (add l o.name e) w.1).0) s
    (locals-numbered told all (front ++ o ∷ []) ds (k + 1) (add l o.name e) w.1 (q ∙ sym s) m (one-numbered all front o ds l e q (ap Some n) h))

-- where all are known, the clocks of all names are told
abbrev pub TellsClocks : List Decl → Layer → Type 0
TellsClocks all l = (x : List ℕ) → layer_clock all l x ≡ clock_in all x

pub numbered-clocks : (all : List Decl) (l : Layer) → IsNumbered all all l → TellsClocks all l
numbered-clocks all l h x = either-way (declares all x) (λ c. h.clocks x c) (λ c. by (entry_in l x) refl c)
  where
    by : (o : Option Entry) → entry_in l x ≡ o → declares all x ≡ false → layer_clock all l x ≡ clock_in all x
    by None q c = ap (λ w. reverse (path_by all (decl_by w))) q ∙ sym (clock-none all x c)
    by (Some e) q c = absurd (let t : true ≡ false = sym (h.knows x (ap is_some q)) ∙ c in cc)

pub names-clocks : (all : List Decl) (z : Scope) (xs : List (List ℕ)) (l : Layer) (d : Sketch) → TellsClocks all l → TellsClocks all (put_names z xs l d).0
names-clocks all z [] l d h = h
names-clocks all z (y ∷ xs) l d h = by (entry_in l y) refl (λ l d h. names-clocks all z xs l d h)
  where
    new : (w : ℕ) → entry_in l y ≡ None → TellsClocks all (put l y (entry_at w (shapes_in z y)))
    new w q x = ap (λ o. reverse (path_by all (decl_by o))) (put-found l y (entry_at w (shapes_in z y)) x) ∙ at (bytes_eq x y) refl
      where
        at : (b : Bool) → bytes_eq x y ≡ b → reverse (path_by all (decl_by (entry_if b (entry_at w (shapes_in z y)) (entry_in l x)))) ≡ clock_in all x
        at true s = sym (ap (λ o. reverse (path_by all (decl_by o))) (ap (entry_in l) (same-name x y s) ∙ q)) ∙ h x
        at false s = h x

    by : (o : Option Entry) → entry_in l y ≡ o → ((l : Layer) (d : Sketch) → TellsClocks all l → TellsClocks all (put_names z xs l d).0) → TellsClocks all (put_names z xs (put_name_if o (shapes_in z y) y l d).0 (put_name_if o (shapes_in z y) y l d).1).0
    by (Some e) q ih = ih l d h
    by None q ih = let w = hole (shapes_in z y) d in ih (put l y (entry_at w.0 (shapes_in z y))) w.1 (new w.0 q)

-- so a block's scope tells the clocks of its names
pub entered-clocks : (told : Told) (z : Scope) (place : Place) (ds : List Decl) (es : Eqns) (d : Sketch) (x : List ℕ) → reverse (path_of (enter told z place ds es d).0 ds x) ≡ clock_in ds x
unfolding enter own_layer push_values push_lasts own_entry
entered-clocks told z place ds es d x =
    let l1 = put_locals told 0 ds [] d in
    names-clocks ds z (names_of_eqns es) l1.0 l1.1 (numbered-clocks ds l1.0 (locals-numbered told ds [] ds 0 [] d refl refl (none-numbered ds))) x
