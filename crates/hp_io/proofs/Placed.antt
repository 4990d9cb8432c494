-- Where a file of this name stands, and what the folder then holds.
use Rattle.std.proofs.Common.{◌≡◌, ◌<◌, ◌+◌, ℕ, zero, suc, Bool, true, false, cond, not, true≢false, List, [], ◌∷◌, ◌++◌, map, length, take, get_or, None, Some, refl, sym, ap, ◌∙◌, arith, string_bytes, position}
use Rattle.std.proofs.Math.ListN.{set}
use Rattle.std.specs.Prelude.{String, Vec, bytes_eq}
use Rattle.std.specs.declared.alloc.Global.{Global}
use Rattle.std.specs.declared.cmp.Ordering.{Ordering}
use Rattle.std.specs.Ordering.{nat_cmp, eq_by_cmp}
use Rattle.std.specs.Cmp.Lexicographic.{slice_cmp}
use Rattle.std.specs.List.{position_or_len}
use Rattle.std.specs.FinMap as finmap
use Rattle.std.proofs.lemmas.Cmp.{eq_by_cmp_equiv, nat_list_cmp_total}
use Rattle.std.proofs.lemmas.Map.Text.{is_eq-slice_cmp}
use Rattle.std.proofs.lemmas.Slice.Eq.{bytes_eq-Decides}
use Rattle.std.proofs.lemmas.List.{map-append}
use Rattle.std.proofs.lemmas.List.Quantifiers.{position-Some}
use Rattle.hp_io.specs.Memory.{entry_of, files_of, names_of}

abbrev File : Type 0
File = String Global × Vec ℕ Global

abbrev bytes_cmp : List ℕ → List ℕ → Ordering
bytes_cmp = slice_cmp nat_cmp

-- whether the file has this name
abbrev pub is_named : List ℕ → String Global × Vec ℕ Global → Bool
is_named name f = bytes_eq (string_bytes f.0) name

-- the order of names ties what the test calls equal
pub tied : (key name : List ℕ) (b : Bool) → bytes_eq key name ≡ b → eq_by_cmp bytes_cmp name key ≡ b
tied key name b e = (eq_by_cmp_equiv nat_list_cmp_total).symm name key ∙ is_eq-slice_cmp key name ∙ e

same_name : (key name : List ℕ) → bytes_eq key name ≡ true → key ≡ name
same_name key name e = search (arith, bytes_eq-Decides)

-- a name that ties with two names makes them one
apart : (key name q : List ℕ) → bytes_eq key name ≡ false → eq_by_cmp bytes_cmp q key ≡ true → eq_by_cmp bytes_cmp q name ≡ true → ⊥
apart key name q differ a b =
    let at_key : key ≡ q = same_name key q (sym (is_eq-slice_cmp key q) ∙ (eq_by_cmp_equiv nat_list_cmp_total).symm key q ∙ a) in
    let at_name : bytes_eq q name ≡ true = sym (is_eq-slice_cmp q name) ∙ b in
    true≢false (sym at_name ∙ ap (λ xs. bytes_eq xs name) (sym at_key) ∙ differ)

find_some : (files : List File) (name : List ℕ) (i : ℕ) (d : File) → i < length files → is_named name (get_or files i d) ≡ true
    → ((k : ℕ) → k < i → is_named name (get_or files k d) ≡ false) → finmap.find bytes_cmp name (map entry_of files) ≡ Some (get_or files i d).1.items
find_some [] name i d below here before = absurd (omega arith)
find_some (f ∷ fs) name zero d below here before =
    ap (λ b. cond b (Some f.1.items) (finmap.find bytes_cmp name (map entry_of fs))) (tied (string_bytes f.0) name true here)
find_some (f ∷ fs) name (suc i) d below here before =
    ap (λ b. cond b (Some f.1.items) (finmap.find bytes_cmp name (map entry_of fs))) (tied (string_bytes f.0) name false (before 0 (omega arith)))
    ∙ find_some fs name i d (omega arith) here (λ k less. before (suc k) (omega arith))

twice : {A : Type 0} (b : Bool) (x y z : A) → cond b x z ≡ cond b x (cond b y z)
twice true x y z = refl
twice false x y z = refl

swapped : {A : Type 0} (a b : Bool) (x y z : A) → (a ≡ true → b ≡ true → ⊥) → cond a y (cond b x z) ≡ cond b x (cond a y z)
swapped true true x y z apart = absurd (apart refl refl)
swapped true false x y z apart = refl
swapped false b x y z apart = refl

find_set : (files : List File) (name : List ℕ) (i : ℕ) (d : File) (v : Vec ℕ Global) (q : List ℕ) → i < length files
    → is_named name (get_or files i d) ≡ true → ((k : ℕ) → k < i → is_named name (get_or files k d) ≡ false)
    → finmap.find bytes_cmp q (map entry_of (set files i ((get_or files i d).0, v)))
    ≡ cond (eq_by_cmp bytes_cmp q name) (Some v.items) (finmap.find bytes_cmp q (map entry_of files))
find_set [] name i d v q below here before = absurd (omega arith)
find_set (f ∷ fs) name zero d v q below here before =
    rw (same_name (string_bytes f.0) name here) (twice (eq_by_cmp bytes_cmp q name) (Some v.items) (Some f.1.items) (finmap.find bytes_cmp q (map entry_of fs)))
find_set (f ∷ fs) name (suc i) d v q below here before =
    ap (λ r. cond (eq_by_cmp bytes_cmp q (string_bytes f.0)) (Some f.1.items) r)
    (find_set fs name i d v q (omega arith) here (λ k less. before (suc k) (omega arith)))
    ∙ swapped (eq_by_cmp bytes_cmp q (string_bytes f.0)) (eq_by_cmp bytes_cmp q name) (Some v.items) (Some f.1.items)
    (finmap.find bytes_cmp q (map entry_of fs)) (apart (string_bytes f.0) name q (before 0 (omega arith)))

find_none : (files : List File) (name : List ℕ) → (position_or_len (is_named name) files < length files → ⊥)
    → finmap.find bytes_cmp name (map entry_of files) ≡ None
find_none [] name past = refl
find_none (f ∷ fs) name past =
    elim (is_named name f) as (λ b. is_named name f ≡ b → (cond (not b) (1 + position_or_len (is_named name) fs) 0 < suc (length fs) → ⊥)
    → finmap.find bytes_cmp name (map entry_of (f ∷ fs)) ≡ None) [
      | true ↦ λ is out. absurd (out (omega arith))
      | false ↦ λ is out.
          ap (λ b. cond b (Some f.1.items) (finmap.find bytes_cmp name (map entry_of fs))) (tied (string_bytes f.0) name false is)
          ∙ find_none fs name (λ less. out (omega arith))
    ] refl past

not_placed : (files : List File) (name : List ℕ) → position (is_named name) files ≡ None → position_or_len (is_named name) files < length files → ⊥
not_placed files name e = grind arith

-- ---- what a folder holds, by where the name stands

pub get-at_place : (files : List File) (name : List ℕ) (i : ℕ) (d : File) → position (is_named name) files ≡ Some i
    → finmap.get (files_of files) name ≡ Some (get_or files i d).1.items
get-at_place files name i d e =
    let at = position-Some (is_named name) files i d e in
    finmap.get-from_entries nat_list_cmp_total (map entry_of files) name ∙ find_some files name i d at.0 at.1 at.2

pub get-no_place : (files : List File) (name : List ℕ) → position (is_named name) files ≡ None → finmap.get (files_of files) name ≡ None
get-no_place files name e =
    finmap.get-from_entries nat_list_cmp_total (map entry_of files) name ∙ find_none files name (not_placed files name e)

-- to change the bytes of the file of this name is to insert them
pub files_of-set : (files : List File) (name : List ℕ) (i : ℕ) (d : File) (v : Vec ℕ Global) → position (is_named name) files ≡ Some i
    → files_of (set files i ((get_or files i d).0, v)) ≡ finmap.insert (files_of files) name v.items
files_of-set files name i d v e =
    let at = position-Some (is_named name) files i d e in
    finmap.same_map nat_list_cmp_total (finmap.slice_cmp-IsAntisymmetric finmap.nat_cmp-IsAntisymmetric) _ _ (λ q.
    finmap.get-from_entries nat_list_cmp_total (map entry_of (set files i ((get_or files i d).0, v))) q
    ∙ find_set files name i d v q at.0 at.1 at.2
    ∙ ap (cond (eq_by_cmp bytes_cmp q name) (Some v.items)) (sym (finmap.get-from_entries nat_list_cmp_total (map entry_of files) q))
    ∙ sym (finmap.get-insert nat_list_cmp_total (files_of files) name v.items q))

-- to add a file of a name that is not there is to insert it
pub files_of-push : (files : List File) (name : List ℕ) (s : String Global) (v : Vec ℕ Global) → position (is_named name) files ≡ None → string_bytes s ≡ name
    → files_of (files ++ (s, v) ∷ []) ≡ finmap.insert (files_of files) name v.items
files_of-push files name s v e is =
    ap finmap.from_entries (map-append entry_of files ((s, v) ∷ []) ∙ ap (λ key. map entry_of files ++ (key, v.items) ∷ []) is)
    ∙ finmap.from_entries_push nat_list_cmp_total (finmap.slice_cmp-IsAntisymmetric finmap.nat_cmp-IsAntisymmetric)
    (map entry_of files) name v.items (find_none files name (not_placed files name e))

-- ---- names

all_names : (files : List File) → take (length files) (names_of files) ≡ names_of files
all_names [] = refl
all_names (f ∷ files) = ap (λ names. string_bytes f.0 ∷ names) (all_names files)

same_names : (files : List File) (i : ℕ) (d : File) (v : Vec ℕ Global) → i < length files
    → take (length files) (names_of (set files i ((get_or files i d).0, v))) ≡ names_of files
same_names [] i d v below = absurd (omega (arith, below))
same_names (f ∷ files) zero d v below = ap (λ names. string_bytes f.0 ∷ names) (all_names files)
same_names (f ∷ files) (suc i) d v below = ap (λ names. string_bytes f.0 ∷ names) (same_names files i d v (omega (arith, below)))

-- to change the bytes of a file changes no name
pub names_of-set : (files : List File) (name : List ℕ) (i : ℕ) (d : File) (v : Vec ℕ Global) → position (is_named name) files ≡ Some i
    → take (length files) (names_of (set files i ((get_or files i d).0, v))) ≡ names_of files
names_of-set files name i d v e = same_names files i d v (position-Some (is_named name) files i d e).0
