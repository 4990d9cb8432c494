-- What layers say of names.
use Rattle.std.proofs.Common.{◌≡◌, ℕ, zero, suc, ◌+◌, ◌<◌, ◌≤◌, get_or, length, drop, Bool, true, false, cond, if◌then◌else◌, List, [], ◌∷◌, ◌++◌, Option, None, Some, option_map, Bor, refl, sym, ap, ◌∙◌, arith}
use Rattle.std.specs.Str.{bytes_eq}
use Rattle.std.proofs.lemmas.Slice.Eq.{bytes_eq-Decides}
use Rattle.hp_tree.specs.Blocks.{Decl}
use Rattle.hp_tree.specs.Meaning.{names_of as declared_names}
use Rattle.hp_tables.specs.declared.defining.layer.Layer.{Layer}
use Rattle.hp_tables.specs.Defining.Layers.{Sight, put_at, no_entry, numbered, says, says_numbers, says_seen, said, or_none, sight}
use Rattle.hp_tables.specs.Defining.Seen.{names_seen, with_more}
use Rattle.hp_tables.proofs.DefiningLemmas.NameLaws.{drop-next, drop-end, more-append}

pub chosen : {A : Type 0} (d : Bool) (v : A) (o : Option A) → cond d (Some v) o ≡ (if d then Some v else o)
chosen true v o = refl
chosen false v o = refl

pub one_name : (x y : List ℕ) → bytes_eq x y ≡ true → x ≡ y
one_name x y = (bytes_eq-Decides x y).0

-- ---- layers, the outermost first

inner_first : (l : Layer) (x : List ℕ) (o : Option (Option ℕ)) (s : Option ℕ) → o ≡ Some s → (elim o [ None ↦ says l x | Some t ↦ Some t ]) ≡ Some s
inner_first l x None s h = absurd cc
inner_first l x (Some t) s h = h

-- what an inner layer says is said
pub said-inner : (ls : List Layer) (i : ℕ) (x : List ℕ) (s : Option ℕ) → said (drop i ls) x ≡ Some s → said ls x ≡ Some s
said-inner [] zero x s h = h
said-inner [] (suc i) x s h = h
said-inner (l ∷ ls) zero x s h = h
said-inner (l ∷ ls) (suc i) x s h = inner_first l x (said ls x) s (said-inner ls i x s h)

outer_then : (l : Layer) (x : List ℕ) (o : Option (Option ℕ)) (s : Option (Option ℕ)) → o ≡ None → says l x ≡ s → (elim o [ None ↦ says l x | Some t ↦ Some t ]) ≡ s
outer_then l x None s e h = h
outer_then l x (Some t) s e h = absurd cc

-- one more layer, where those inside of it say nothing
pub said-next : (ls : List Layer) (i : ℕ) (l : Layer) (x : List ℕ) (s : Option (Option ℕ)) → i < length ls → l ≡ get_or ls i l → said (drop (i + 1) ls) x ≡ None → says l x ≡ s → said (drop i ls) x ≡ s
said-next ls i l x s h p silent e = ap (λ more. said more x) (drop-next ls i l h p) ∙ outer_then l x (said (drop (i + 1) ls) x) s silent e

pub sight-found : (ls : List Layer) (i k : ℕ) (l : Layer) (x : List ℕ) (n : Option ℕ) → k ≡ i + 1 → i < length ls → l ≡ get_or ls i l → said (drop k ls) x ≡ None → says l x ≡ Some n → n ≡ sight ls x
sight-found ls i k l x n next h p silent e =
    let inside : said (drop (i + 1) ls) x ≡ None = ap (λ j. said (drop j ls) x) (sym next) ∙ silent in
    sym (ap or_none (said-inner ls i x n (said-next ls i l x (Some n) h p inside e)))

-- the first of two that says something
abbrev pub first_said : Option (Option ℕ) → Option (Option ℕ) → Option (Option ℕ)
first_said o p = elim o [ None ↦ p | Some t ↦ Some t ]

innermost : (o p q : Option (Option ℕ)) → first_said (first_said o p) q ≡ first_said o (first_said p q)
innermost None p q = refl
innermost (Some t) p q = refl

none_else : (o : Option (Option ℕ)) → o ≡ first_said o None
none_else None = refl
none_else (Some t) = refl

-- the innermost layer goes first
pub said-last : (ls : List Layer) (l : Layer) (x : List ℕ) → said (ls ++ l ∷ []) x ≡ first_said (says l x) (said ls x)
said-last [] l x = none_else (says l x)
said-last (m ∷ ls) l x = ap (λ o. first_said o (says m x)) (said-last ls l x) ∙ innermost (says l x) (said ls x) (says m x)

-- ---- numbers of names

pub numbers-end : (first : ℕ) (names : List (Bor (List ℕ))) (i : ℕ) → length names ≤ i → no_entry ≡ says_numbers (first + i) (names_seen (drop i names))
numbers-end first names i h = sym (ap (λ more. says_numbers (first + i) (names_seen more)) (drop-end names i h))

numbered_by : (n : ℕ) (d : Bool) (o : Option ℕ) → (if d then Some (Some n) else option_map Some o) ≡ option_map Some (if d then Some n else o)
numbered_by n true o = refl
numbered_by n false o = refl

pub numbers-next : (first : ℕ) (names : List (Bor (List ℕ))) (i k : ℕ) (y : Bor (List ℕ)) → k ≡ i + 1 → i < length names → y ≡ get_or names i y
    → put_at (says_numbers (first + k) (names_seen (drop k names))) y.now (Some (first + i)) ≡ says_numbers (first + i) (names_seen (drop i names))
numbers-next first names i k y next h p =
    let higher : first + k ≡ first + i + 1 = omega arith in
    let one : (x : List ℕ) → put_at (says_numbers (first + k) (names_seen (drop k names))) y.now (Some (first + i)) x ≡ says_numbers (first + i) (y.now ∷ names_seen (drop k names)) x =
    λ x. ap (λ m. put_at (says_numbers m (names_seen (drop k names))) y.now (Some (first + i)) x) higher
    ∙ numbered_by (first + i) (bytes_eq y.now x) (numbered (first + i + 1) (names_seen (drop k names)) x) in
    let all : put_at (says_numbers (first + k) (names_seen (drop k names))) y.now (Some (first + i)) ≡ says_numbers (first + i) (y.now ∷ names_seen (drop k names)) = λ j x. one x j in
    all
    ∙ ap (λ m. says_numbers (first + i) (y.now ∷ names_seen (drop m names))) next
    ∙ sym (ap (λ more. says_numbers (first + i) (names_seen more)) (drop-next names i y h p))

-- ---- names as they are seen

pub seen-end : (names : List (Bor (List ℕ))) (see : Sight) (i : ℕ) → length names ≤ i → no_entry ≡ says_seen (names_seen (drop i names)) see
seen-end names see i h = sym (ap (λ more. says_seen (names_seen more) see) (drop-end names i h))

seen_by : (see : Sight) (y x : List ℕ) (d : Bool) (o : Option (Option ℕ)) → bytes_eq y x ≡ d → (if d then Some (see y) else o) ≡ (if d then Some (see x) else o)
seen_by see y x true o e = ap (λ z. Some (see z)) (one_name y x e)
seen_by see y x false o e = refl

pub seen-next : (names : List (Bor (List ℕ))) (see : Sight) (i k : ℕ) (y : Bor (List ℕ)) → k ≡ i + 1 → i < length names → y ≡ get_or names i y
    → put_at (says_seen (names_seen (drop k names)) see) y.now (see y.now) ≡ says_seen (names_seen (drop i names)) see
seen-next names see i k y next h p =
    let rest = names_seen (drop k names) in
    let one : (x : List ℕ) → put_at (says_seen rest see) y.now (see y.now) x ≡ says_seen (y.now ∷ rest) see x = λ x. seen_by see y.now x (bytes_eq y.now x) (says_seen rest see x) refl in
    let all : put_at (says_seen rest see) y.now (see y.now) ≡ says_seen (y.now ∷ rest) see = λ j x. one x j in
    all
    ∙ ap (λ m. says_seen (y.now ∷ names_seen (drop m names)) see) next
    ∙ sym (ap (λ more. says_seen (names_seen more) see) (drop-next names i y h p))

pub next-declared : (before : List (List ℕ)) (ds : List Decl) (i : ℕ) (d : Decl) → i < length ds → d ≡ get_or ds i d
    → with_more before (declared_names (drop i ds)) ≡ with_more (with_more before (d.name ∷ [])) (declared_names (drop (i + 1) ds))
next-declared before ds i d h p = ap (λ more. with_more before (declared_names more)) (drop-next ds i d h p) ∙ more-append before (d.name ∷ []) (declared_names (drop (i + 1) ds))
