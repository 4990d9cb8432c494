-- Free places, and what is added for them, one by one.
use Rattle.std.proofs.Common.{◌≡◌, ℕ, suc, ◌+◌, ◌<◌, ◌≤◌, get_or, length, map, drop, Bool, List, [], ◌∷◌, ◌++◌, refl, sym, ap, ap₂, ◌∙◌, arith}
use Rattle.std.specs.List.{flat_map, range_with_len}
use Rattle.std.proofs.lemmas.List.{append_assoc, append-nil, drop_all}
use Rattle.std.proofs.lemmas.List.FromFn.{map-range_with_len_more}
use Rattle.hp_obc.specs.Machines.{ObcType}
use Rattle.hp_flat.specs.declared.equation.Atom.{Atom}
use Rattle.hp_flat.specs.declared.equation.Atom.TheVariants.{Variable as Read}
use Rattle.hp_flat.specs.Nodes.{FlatNode}
use Rattle.hp_watch.specs.declared.embedding.Shift.{Shift}
use Rattle.hp_watch.specs.declared.watching.Free.{Free}
use Rattle.hp_watch.specs.Watching.{free_target, free_at, free_input, free_inputs, moved_free, reads, Observing, Placed, placed, with_called_at, free_placed, Watched, with_place, with_places}
use Rattle.hp_watch.proofs.LiftLaws.{range-suc}
use Rattle.hp_watch.proofs.WalkLaws.{drop-next}

module _ {A B : Type 0} (f : A → List B) where
  pub joined-next : (into : List B) (xs : List A) (i : ℕ) (x : A) → i < length xs → x ≡ get_or xs i x → (into ++ f x) ++ flat_map f (drop (i + 1) xs) ≡ into ++ flat_map f (drop i xs)
  joined-next into xs i x h p = append_assoc into (f x) (flat_map f (drop (i + 1) xs)) ∙ ap (λ rest. into ++ flat_map f rest) (sym (drop-next xs i x h p))

  pub joined-end : (into : List B) (xs : List A) (i : ℕ) → length xs ≤ i → into ++ flat_map f (drop i xs) ≡ into
  joined-end into xs i h = ap (λ rest. into ++ flat_map f rest) (drop_all i xs h) ∙ append-nil into

  joined-last : (xs : List A) (x : A) → flat_map f (xs ++ x ∷ []) ≡ flat_map f xs ++ f x
  joined-last [] x = append-nil (f x)
  joined-last (y ∷ xs) x = ap (λ rest. f y ++ rest) (joined-last xs x) ∙ sym (append_assoc (f y) (flat_map f xs) (f x))

pub targets-next : (n : FlatNode) (k : ℕ) (into : List Free) (xs : List ℕ) (i x : ℕ) → i < length xs → x ≡ get_or xs i x → (into ++ free_target n k x) ++ flat_map (free_target n k) (drop (i + 1) xs) ≡ into ++ flat_map (free_target n k) (drop i xs)
targets-next n k into xs i x h p = joined-next (free_target n k) into xs i x h p

pub targets-end : (n : FlatNode) (k : ℕ) (into : List Free) (xs : List ℕ) (i : ℕ) → length xs ≤ i → into ++ flat_map (free_target n k) (drop i xs) ≡ into
targets-end n k into xs i h = joined-end (free_target n k) into xs i h

pub found-next : (n : FlatNode) (into : List Free) (xs : List ℕ) (i x : ℕ) → i < length xs → x ≡ get_or xs i x → (into ++ free_at n x) ++ flat_map (free_at n) (drop (i + 1) xs) ≡ into ++ flat_map (free_at n) (drop i xs)
found-next n into xs i x h p = joined-next (free_at n) into xs i x h p

pub found-end : (n : FlatNode) (into : List Free) (xs : List ℕ) (i : ℕ) → length xs ≤ i → into ++ flat_map (free_at n) (drop i xs) ≡ into
found-end n into xs i h = joined-end (free_at n) into xs i h

pub placed_places-next : (o : Observing) (p : Placed) (into : List Free) (xs : List ℕ) (i x : ℕ) → i < length xs → x ≡ get_or xs i x → (into ++ free_placed o p x) ++ flat_map (free_placed o p) (drop (i + 1) xs) ≡ into ++ flat_map (free_placed o p) (drop i xs)
placed_places-next o p into xs i x h is = joined-next (free_placed o p) into xs i x h is

pub placed_places-end : (o : Observing) (p : Placed) (into : List Free) (xs : List ℕ) (i : ℕ) → length xs ≤ i → into ++ flat_map (free_placed o p) (drop i xs) ≡ into
placed_places-end o p into xs i h = joined-end (free_placed o p) into xs i h

pub free_inputs-next : (n : FlatNode) (into : List Free) (x : ℕ) → (into ++ free_inputs n x) ++ free_input n x ≡ into ++ free_inputs n (x + 1)
free_inputs-next n into x =
    let one : suc x ≡ x + 1 = omega arith in
    let here : 0 + x ≡ x = omega arith in
    append_assoc into (free_inputs n x) (free_input n x)
    ∙ ap (λ y. into ++ (free_inputs n x ++ free_input n y)) (sym here)
    ∙ ap (λ rest. into ++ rest) (sym (joined-last (free_input n) (range_with_len 0 x) (0 + x)) ∙ ap (flat_map (free_input n)) (sym (range-suc 0 x)) ∙ ap (free_inputs n) one)

pub moved_free-next : (s : Shift) (into : List Free) (xs : List Free) (i : ℕ) (x : Free) → i < length xs → x ≡ get_or xs i x → (into ++ moved_free s x ∷ []) ++ map (moved_free s) (drop (i + 1) xs) ≡ into ++ map (moved_free s) (drop i xs)
moved_free-next s into xs i x h p = append_assoc into (moved_free s x ∷ []) (map (moved_free s) (drop (i + 1) xs)) ∙ ap (λ rest. into ++ map (moved_free s) rest) (sym (drop-next xs i x h p))

pub moved_free-end : (s : Shift) (into : List Free) (xs : List Free) (i : ℕ) → length xs ≤ i → into ++ map (moved_free s) (drop i xs) ≡ into
moved_free-end s into xs i h = ap (λ rest. into ++ map (moved_free s) rest) (drop_all i xs h) ∙ append-nil into

pub reads-next : (into : List Atom) (xs : List ℕ) (i x : ℕ) → i < length xs → x ≡ get_or xs i x → (into ++ Read x ∷ []) ++ reads (drop (i + 1) xs) ≡ into ++ reads (drop i xs)
reads-next into xs i x h p = append_assoc into (Read x ∷ []) (reads (drop (i + 1) xs)) ∙ ap (λ rest. into ++ reads rest) (sym (drop-next xs i x h p))

pub reads-end : (into : List Atom) (xs : List ℕ) (i : ℕ) → length xs ≤ i → into ++ reads (drop i xs) ≡ into
reads-end into xs i h = ap (λ rest. into ++ reads rest) (drop_all i xs h) ∙ append-nil into

pub first_reads-next : (x : ℕ) → reads (range_with_len 0 (x + 1)) ≡ reads (range_with_len 0 x) ++ Read x ∷ []
first_reads-next x = let same : 0 + x ≡ x = omega arith in map-range_with_len_more (λ y. Read y) 0 x x same

pub placed-next : (o : Observing) (k : ℕ) (n : FlatNode) → with_called_at o k (placed o k n) ≡ placed o (k + 1) n
placed-next o k n = let one : suc k ≡ k + 1 = omega arith in ap (λ c. placed o c n) one

pub with_places-next : (types : List ObcType) (fs : List Free) (es : List Bool) (i : ℕ) (f : Free) (e : Bool) (w : Watched) → i < length fs → f ≡ get_or fs i f → i < length es → e ≡ get_or es i e
    → with_places types (drop (i + 1) fs) (drop (i + 1) es) (with_place types f e w) ≡ with_places types (drop i fs) (drop i es) w
with_places-next types fs es i f e w h p k q = ap₂ (λ xs ys. with_places types xs ys w) (sym (drop-next fs i f h p)) (sym (drop-next es i e k q))

pub with_places-end : (types : List ObcType) (fs : List Free) (es : List Bool) (i : ℕ) (w : Watched) → length fs ≤ i → with_places types (drop i fs) (drop i es) w ≡ w
with_places-end types fs es i w h = ap (λ xs. with_places types xs (drop i es) w) (drop_all i fs h)
