-- The first place of what is looked for in a list.
use Rattle.std.proofs.Common.{◌≡◌, ℕ, suc, ◌+◌, Bool, true, false, not, cond, nat_lt, List, ◌∷◌, length, Option, None, Some, option_map, if◌then◌else◌, refl, sym, ap, ◌∙◌, arith}
use Rattle.std.specs.List.{position, prefix_len}
use Rattle.std.specs.Str.{bytes_eq}
use Rattle.std.proofs.lemmas.Bool.Decides.{same_from_decides, nat_tests}
use Rattle.std.proofs.lemmas.Slice.Eq.{bytes_eq-Decides}

pub bytes_eq-sym : (x y : List ℕ) → bytes_eq x y ≡ bytes_eq y x
bytes_eq-sym x y =
    same_from_decides (bytes_eq x y) (bytes_eq y x) (bytes_eq-Decides x y)
    ((λ e. sym ((bytes_eq-Decides y x).0 e)), (λ e. (bytes_eq-Decides y x).1 (sym e)))

abbrev choice : ℕ → ℕ → Option ℕ
choice n l = cond (nat_lt n l) (Some n) None

suc_by : (d : Bool) (n : ℕ) → cond d (Some (1 + n)) None ≡ option_map suc (cond d (Some n) None)
suc_by true n = let e : 1 + n ≡ suc n = omega arith in ap Some e
suc_by false n = refl

choice-suc : (n l : ℕ) → choice (1 + n) (suc l) ≡ option_map suc (choice n l)
choice-suc n l =
    let e : nat_lt (1 + n) (suc l) ≡ nat_lt n l = grind (arith, nat_tests) in
    ap (λ (b : Bool). cond b (Some (1 + n)) None) e ∙ suc_by (nat_lt n l) n

choice-first : (l : ℕ) → choice 0 (suc l) ≡ Some 0
choice-first l = let e : nat_lt 0 (suc l) ≡ true = grind (arith, nat_tests) in ap (λ (b : Bool). cond b (Some 0) None) e

step_by : (d : Bool) (n l : ℕ) → choice (cond (not d) (1 + n) 0) (suc l) ≡ (if d then Some 0 else option_map suc (choice n l))
step_by true n l = choice-first l
step_by false n l = choice-suc n l

-- it is the first item, or one of the others
pub position-cons : {A : Type 0} (p : A → Bool) (x : A) (xs : List A) → position p (x ∷ xs) ≡ (if p x then Some 0 else option_map suc (position p xs))
position-cons p x xs = step_by (p x) (prefix_len (λ y. not (p y)) xs) (length xs)
