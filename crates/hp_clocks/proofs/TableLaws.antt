-- What layers are made to say.
use Rattle.std.proofs.Common.{◌≡◌, ℕ, ◌+◌, ◌<◌, ◌≤◌, get_or, length, drop, map, Bool, true, false, ◌||◌, cond, if◌then◌else◌, List, [], ◌∷◌, Option, Some, is_some, Bor, refl, sym, ap, ◌∙◌, arith}
use Rattle.std.specs.Str.{bytes_eq}
use Rattle.std.proofs.lemmas.Slice.Eq.{bytes_eq-Decides}
use Rattle.hp_tree.specs.Blocks.{Decl}
use Rattle.hp_tree.specs.Meaning.{declares}
use Rattle.hp_clocks.specs.Units.{number_in, or_base}
use Rattle.hp_clocks.specs.Layers.{Says, put_at, no_entry, says_names, says_locals, says_based, cell_by}
use Rattle.hp_clocks.specs.Names.{with_more}
use Rattle.hp_clocks.proofs.Leading.{drop_next, drop_end}
use Rattle.hp_clocks.proofs.NamedLaws.{more-append}

pub chosen : {A : Type 0} (d : Bool) (v : A) (o : Option A) → cond d (Some v) o ≡ (if d then Some v else o)
chosen true v o = refl
chosen false v o = refl

-- ---- numbers

pub numbers_end : (first : ℕ) (ds : List Decl) (i : ℕ) → length ds ≤ i → no_entry ≡ number_in (first + i) (drop i ds)
numbers_end first ds i h = sym (ap (λ more. number_in (first + i) more) (drop_end ds i h))

pub numbers_next : (first : ℕ) (ds : List Decl) (i k : ℕ) (d : Decl) → k ≡ i + 1 → i < length ds → d ≡ get_or ds i d → put_at (number_in (first + k) (drop k ds)) d.name (first + i) ≡ number_in (first + i) (drop i ds)
numbers_next first ds i k d next h p =
    let higher : first + k ≡ first + i + 1 = omega arith in
    ap (λ m. put_at (number_in m (drop k ds)) d.name (first + i)) higher
    ∙ ap (λ m. put_at (number_in (first + i + 1) (drop m ds)) d.name (first + i)) next
    ∙ sym (ap (λ more. number_in (first + i) more) (drop_next ds i d h p))

by_declared : (d : Bool) (k : ℕ) (o : Option ℕ) → is_some (if d then Some k else o) ≡ (d || is_some o)
by_declared true k o = refl
by_declared false k o = refl

pub declares_in : (k : ℕ) (ds : List Decl) (x : List ℕ) → is_some (number_in k ds x) ≡ declares ds x
declares_in k [] x = refl
declares_in k (d ∷ ds) x = by_declared (bytes_eq d.name x) k (number_in (k + 1) ds x) ∙ ap (λ r. bytes_eq d.name x || r) (declares_in (k + 1) ds x)

-- ---- names with the cells of another layer

pub named_end : (names : List (Bor (List ℕ))) (f : Says) (i : ℕ) → length names ≤ i → no_entry ≡ says_names (map (λ (x : Bor (List ℕ)). x.now) (drop i names)) f
named_end names f i h = sym (ap (λ more. says_names (map (λ (x : Bor (List ℕ)). x.now) more) f) (drop_end names i h))

one_name : (x y : List ℕ) → bytes_eq x y ≡ true → x ≡ y
one_name x y = (bytes_eq-Decides x y).0

named_by : (f : Says) (y x : List ℕ) (d : Bool) (o : Option ℕ) → bytes_eq y x ≡ d → (if d then Some (or_base (f y)) else o) ≡ (if d then Some (or_base (f x)) else o)
named_by f y x true o e = ap (λ z. Some (or_base (f z))) (one_name y x e)
named_by f y x false o e = refl

pub named_next : (names : List (Bor (List ℕ))) (f : Says) (i k : ℕ) (y : Bor (List ℕ)) → k ≡ i + 1 → i < length names → y ≡ get_or names i y
    → put_at (says_names (map (λ (x : Bor (List ℕ)). x.now) (drop k names)) f) y.now (or_base (f y.now)) ≡ says_names (map (λ (x : Bor (List ℕ)). x.now) (drop i names)) f
named_next names f i k y next h p =
    let rest = map (λ (x : Bor (List ℕ)). x.now) (drop k names) in
    let one : (x : List ℕ) → put_at (says_names rest f) y.now (or_base (f y.now)) x ≡ says_names (y.now ∷ rest) f x = λ x. named_by f y.now x (bytes_eq y.now x) (says_names rest f x) refl in
    let all : put_at (says_names rest f) y.now (or_base (f y.now)) ≡ says_names (y.now ∷ rest) f = λ j x. one x j in
    all
    ∙ ap (λ m. says_names (y.now ∷ map (λ (x : Bor (List ℕ)). x.now) (drop m names)) f) next
    ∙ sym (ap (λ more. says_names (map (λ (x : Bor (List ℕ)). x.now) more) f) (drop_next names i y h p))

-- ---- locals with their cells

pub locals_end : (f g : Says) (ds : List Decl) (i : ℕ) → length ds ≤ i → no_entry ≡ says_locals f g (drop i ds)
locals_end f g ds i h = sym (ap (λ more. says_locals f g more) (drop_end ds i h))

pub locals_next : (f g : Says) (ds : List Decl) (i k : ℕ) (d : Decl) → k ≡ i + 1 → i < length ds → d ≡ get_or ds i d → put_at (says_locals f g (drop k ds)) d.name (cell_by f g d) ≡ says_locals f g (drop i ds)
locals_next f g ds i k d next h p =
    ap (λ m. put_at (says_locals f g (drop m ds)) d.name (cell_by f g d)) next ∙ sym (ap (says_locals f g) (drop_next ds i d h p))

pub cells_next : (before : List ℕ) (f g : Says) (ds : List Decl) (i : ℕ) (d : Decl) → i < length ds → d ≡ get_or ds i d → with_more before (map (cell_by f g) (drop i ds)) ≡ with_more (with_more before (cell_by f g d ∷ [])) (map (cell_by f g) (drop (i + 1) ds))
cells_next before f g ds i d h p =
    ap (λ more. with_more before (map (cell_by f g) more)) (drop_next ds i d h p) ∙ more-append before (cell_by f g d ∷ []) (map (cell_by f g) (drop (i + 1) ds))

-- ---- what is on the base clock

based_by : (d r : Bool) (o : Option ℕ) → (if r then Some 0 else (if d then Some 0 else o)) ≡ (if d || r then Some 0 else o)
based_by true true o = refl
based_by true false o = refl
based_by false true o = refl
based_by false false o = refl

pub based_next : (f : Says) (ds : List Decl) (i : ℕ) (d : Decl) → i < length ds → d ≡ get_or ds i d → says_based (drop (i + 1) ds) (put_at f d.name 0) ≡ says_based (drop i ds) f
based_next f ds i d h p =
    let rest = drop (i + 1) ds in
    let one : (x : List ℕ) → says_based rest (put_at f d.name 0) x ≡ says_based (d ∷ rest) f x = λ x. based_by (bytes_eq d.name x) (declares rest x) (f x) in
    let all : says_based rest (put_at f d.name 0) ≡ says_based (d ∷ rest) f = λ j x. one x j in
    all ∙ sym (ap (λ more. says_based more f) (drop_next ds i d h p))

pub based_end : (f : Says) (ds : List Decl) (i : ℕ) → length ds ≤ i → says_based (drop i ds) f ≡ f
based_end f ds i h = ap (λ more. says_based more f) (drop_end ds i h)
