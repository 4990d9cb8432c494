-- What layers say of names, and the parts of names.
use Rattle.std.proofs.Common.{◌≡◌, ℕ, zero, suc, ◌+◌, ◌<◌, ◌≤◌, min, nat_eq, get_or, length, take, drop, Bool, true, false, ◌&&◌, cond, if◌then◌else◌, List, [], ◌∷◌, ◌++◌, Option, None, Some, refl, sym, ap, ◌∙◌, arith}
use Rattle.std.specs.Prelude.{decimal}
use Rattle.std.specs.Str.{bytes_eq}
use Rattle.std.proofs.lemmas.List.{append_assoc, append-nil, take_all}
use Rattle.std.proofs.Math.Numerals.{add-one}
use Rattle.std.proofs.Math.Seq.{take-suc}
use Rattle.std.proofs.lemmas.Fmt.{length-decimal-le}
use Rattle.hp_tree.specs.Blocks.{Decl}
use Rattle.hp_expand.specs.NewNames.{is_new, stem, dollar, numbered_name}
use Rattle.hp_expand.specs.Numbering.{one_if_new, new_in_decls, declaring, declaring_one}
use Rattle.hp_expand.specs.declared.names.Layer.{Layer}
use Rattle.hp_expand.specs.Layers.{Numbers, no_number, put_at, put_if_new, numbers_from, says, number_in, name_by, said_in}
use Rattle.hp_expand.proofs.SizeLaws.{drop-next, drop-end}

pub chosen : {A : Type 0} (d : Bool) (v : A) (o : Option A) → cond d (Some v) o ≡ (if d then Some v else o)
chosen true v o = refl
chosen false v o = refl

pub take-next : {A : Type 0} (xs : List A) (i : ℕ) (x : A) → i < length xs → x ≡ get_or xs i x → take (i + 1) xs ≡ take i xs ++ x ∷ []
take-next xs i x h p = ap (λ n. take n xs) (add-one i) ∙ take-suc xs i x h ∙ ap (λ y. take i xs ++ y ∷ []) (sym p)

-- ---- the sign in a name, byte by byte

module _ (xs : List ℕ) (i x : ℕ) (h : i < length xs) (p : x ≡ get_or xs i x) where
  new_from : is_new (drop i xs) ≡ (if nat_eq x dollar then true else is_new (drop (i + 1) xs))
  new_from = ap is_new (drop-next xs i x h p)

  pub new-next : nat_eq x 36 ≡ false → is_new (drop (i + 1) xs) ≡ is_new (drop i xs)
  new-next e = sym (new_from ∙ ap (λ d. if d then true else is_new (drop (i + 1) xs)) e)

  pub new-here : nat_eq x 36 ≡ true → is_new (drop i xs) ≡ true
  new-here e = new_from ∙ ap (λ d. if d then true else is_new (drop (i + 1) xs)) e

  stem_from : stem (drop i xs) ≡ (if nat_eq x dollar then [] else x ∷ stem (drop (i + 1) xs))
  stem_from = ap stem (drop-next xs i x h p)

  pub stem-here : nat_eq x 36 ≡ true → take i xs ++ stem (drop i xs) ≡ take i xs
  stem-here e = ap (λ s. take i xs ++ s) (stem_from ∙ ap (λ d. if d then [] else x ∷ stem (drop (i + 1) xs)) e) ∙ append-nil (take i xs)

  pub stem-next : nat_eq x 36 ≡ false → take (i + 1) xs ++ stem (drop (i + 1) xs) ≡ take i xs ++ stem (drop i xs)
  stem-next e =
      ap (λ s. s ++ stem (drop (i + 1) xs)) (take-next xs i x h p)
      ∙ append_assoc (take i xs) (x ∷ []) (stem (drop (i + 1) xs))
      ∙ sym (ap (λ s. take i xs ++ s) (stem_from ∙ ap (λ d. if d then [] else x ∷ stem (drop (i + 1) xs)) e))

pub new-end : (xs : List ℕ) (i : ℕ) → length xs ≤ i → is_new (drop i xs) ≡ false
new-end xs i h = ap is_new (drop-end xs i h)

pub stem-end : (xs : List ℕ) (i : ℕ) → length xs ≤ i → take i xs ++ stem (drop i xs) ≡ xs
stem-end xs i h = (λ j. take_all i xs h j ++ stem (drop-end xs i h j)) ∙ append-nil xs

-- a number of six digits
pub six-digits : (n : ℕ) → length (decimal (min n 999999)) ≤ 6
six-digits n = length-decimal-le 6 (min n 999999) (omega arith) (omega arith) (omega arith)

-- ---- layers, the outermost first

-- the first of two that is a number
abbrev first_number : Option ℕ → Option ℕ → Option ℕ
first_number o p = elim o [ None ↦ p | Some k ↦ Some k ]

inner_first : (o p : Option ℕ) (k : ℕ) → o ≡ Some k → first_number o p ≡ Some k
inner_first None p k h = absurd cc
inner_first (Some j) p k h = h

outer_then : (o p s : Option ℕ) → o ≡ None → p ≡ s → first_number o p ≡ s
outer_then None p s e h = h
outer_then (Some j) p s e h = absurd cc

number-inner : (ls : List Layer) (i : ℕ) (x : List ℕ) (k : ℕ) → number_in (drop i ls) x ≡ Some k → number_in ls x ≡ Some k
number-inner [] zero x k h = h
number-inner [] (suc i) x k h = h
number-inner (l ∷ ls) zero x k h = h
number-inner (l ∷ ls) (suc i) x k h = inner_first (number_in ls x) (says l x) k (number-inner ls i x k h)

-- one more layer, where those inside of it say nothing
number_next : (ls : List Layer) (i : ℕ) (l : Layer) (x : List ℕ) (s : Option ℕ) → i < length ls → l ≡ get_or ls i l → number_in (drop (i + 1) ls) x ≡ None → says l x ≡ s → number_in (drop i ls) x ≡ s
number_next ls i l x s h p silent e = ap (λ more. number_in more x) (drop-next ls i l h p) ∙ outer_then (number_in (drop (i + 1) ls) x) (says l x) s silent e

module _ (ls : List Layer) (i k : ℕ) (l : Layer) (x : List ℕ) (next : k ≡ i + 1) (h : i < length ls) (p : l ≡ get_or ls i l) (silent : number_in (drop k ls) x ≡ None) where
  inside : number_in (drop (i + 1) ls) x ≡ None
  inside = ap (λ j. number_in (drop j ls) x) (sym next) ∙ silent

  pub number-found : (n : ℕ) → says l x ≡ Some n → Some n ≡ number_in ls x
  number-found n e = sym (number-inner ls i x n (number_next ls i l x (Some n) h p inside e))

  pub number-silent : says l x ≡ None → number_in (drop i ls) x ≡ None
  number-silent e = number_next ls i l x None h p inside e

pub number-begin : (ls : List Layer) (x : List ℕ) (i : ℕ) → length ls ≤ i → number_in (drop i ls) x ≡ None
number-begin ls x i h = ap (λ more. number_in more x) (drop-end ls i h)

innermost : (o p q : Option ℕ) → first_number (first_number o p) q ≡ first_number o (first_number p q)
innermost None p q = refl
innermost (Some t) p q = refl

none_else : (o : Option ℕ) → o ≡ first_number o None
none_else None = refl
none_else (Some t) = refl

-- the innermost layer goes first
number-last : (ls : List Layer) (l : Layer) (x : List ℕ) → number_in (ls ++ l ∷ []) x ≡ first_number (says l x) (number_in ls x)
number-last [] l x = none_else (says l x)
number-last (m ∷ ls) l x = ap (λ o. first_number o (says m x)) (number-last ls l x) ∙ innermost (says l x) (number_in ls x) (says m x)

-- ---- declarations

module _ (f : Numbers) (k : ℕ) (ds : List Decl) (i : ℕ) (d : Decl) (h : i < length ds) (p : d ≡ get_or ds i d) where
  pub numbers-next : numbers_from f k (drop i ds) ≡ numbers_from (put_if_new f d.name k) (k + one_if_new d.name) (drop (i + 1) ds)
  numbers-next = ap (numbers_from f k) (drop-next ds i d h p)

pub new-decls-next : (ds : List Decl) (i : ℕ) (d : Decl) → i < length ds → d ≡ get_or ds i d → new_in_decls (drop i ds) ≡ one_if_new d.name + new_in_decls (drop (i + 1) ds)
new-decls-next ds i d h p = ap new_in_decls (drop-next ds i d h p)

-- the names that have numbers, and the others as before
abbrev over : (List ℕ → List ℕ) → Numbers → List ℕ → List ℕ
over to f x = elim (f x) [ None ↦ to x | Some k ↦ numbered_name x k ]

module _ (to : List ℕ → List ℕ) (f : Numbers) (k : ℕ) (x : List ℕ) where
  if_declared : (b : Bool) → (if b then numbered_name x k else over to f x) ≡ elim (if b then Some k else f x) [ None ↦ to x | Some j ↦ numbered_name x j ]
  if_declared true = refl
  if_declared false = refl

  if_new : (y : List ℕ) (a : Bool) → (if a && bytes_eq y x then numbered_name x k else over to f x) ≡ elim ((if a then put_at f y k else f) x) [ None ↦ to x | Some j ↦ numbered_name x j ]
  if_new y true = if_declared (bytes_eq y x)
  if_new y false = refl

one_over : (to : List ℕ → List ℕ) (f : Numbers) (k : ℕ) (y : List ℕ) → declaring_one (over to f) k y ≡ over to (put_if_new f y k)
one_over to f k y = λ j x. if_new to f k x y (is_new y) j

declaring-over : (ds : List Decl) (to : List ℕ → List ℕ) (f : Numbers) (k : ℕ) → declaring (over to f) k ds ≡ over to (numbers_from f k ds)
declaring-over [] to f k = refl
declaring-over (d ∷ ds) to f k =
    ap (λ g. declaring g (k + one_if_new d.name) ds) (one_over to f k d.name) ∙ declaring-over ds to (put_if_new f d.name k) (k + one_if_new d.name)

by_last : (x : List ℕ) (o p : Option ℕ) → name_by x (first_number o p) ≡ elim o [ None ↦ name_by x p | Some k ↦ numbered_name x k ]
by_last x None p = refl
by_last x (Some k) p = refl

-- how names are said with one layer more
pub said-entered : (ls : List Layer) (l : Layer) (k : ℕ) (ds : List Decl) → says l ≡ numbers_from no_number k ds → said_in (ls ++ l ∷ []) ≡ declaring (said_in ls) k ds
said-entered ls l k ds h =
    let one : (x : List ℕ) → said_in (ls ++ l ∷ []) x ≡ over (said_in ls) (says l) x =
    λ x. ap (name_by x) (number-last ls l x) ∙ by_last x (says l x) (number_in ls x) in
    let all : said_in (ls ++ l ∷ []) ≡ over (said_in ls) (says l) = λ j x. one x j in
    all ∙ ap (over (said_in ls)) h ∙ sym (declaring-over ds (said_in ls) no_number k)
