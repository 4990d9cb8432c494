-- The names of what is made of nodes that choose may be names of machines and of their variables.
use Rattle.std.proofs.Common.{◌≡◌, ℕ, zero, suc, ◌+◌, ◌/◌, ◌%◌, ◌^◌, ◌<◌, ◌≤◌, Bool, true, false, ◌&&◌, inl, inr, List, [], ◌∷◌, ◌++◌, length, map, refl, sym, ap, subst, ◌∙◌, arith}
use Rattle.std.specs.Prelude.{codes, decimal}
use Rattle.std.specs.List.{AllByRecursion, list_all, range_with_len}
use Rattle.std.proofs.lemmas.Bool.{and_from}
use Rattle.std.proofs.lemmas.Bool.Decides.{nat_tests}
use Rattle.std.proofs.lemmas.Fmt.{decimal_by_steps, length-decimal-le}
use Rattle.std.proofs.lemmas.List.{length-append}
use Rattle.std.proofs.lemmas.List.Folds.{list_all-append}
use Rattle.hp_base.specs.Bytes.{is_small}
use Rattle.hp_obc.specs.Form.{is_name_byte, is_reserved}
use Rattle.hp_flat.specs.declared.node.Variable.{Variable}
use Rattle.law_equations.specs.Followed.Premises.{names}
use Rattle.law_wellmade.specs.Lettered.Names.{IsName}
use Rattle.law_wellmade.proofs.SpelledLemmas.Letters.{name_from, name_parts, not_reserved}
use Rattle.hp_controller.specs.Controllers.{bit_variable}
use Rattle.law_controlled.specs.Names.{AreAdded, IsAdded}

-- ---- names from their parts

and_right : (a b : Bool) → b ≡ false → (a && b) ≡ false
and_right true b h = h
and_right false b h = refl

and_left : (a b : Bool) → a ≡ false → (a && b) ≡ false
and_left true b h = absurd cc
and_left false b h = refl

letters_both : (x y : List ℕ) → list_all is_name_byte x ≡ true → list_all is_name_byte y ≡ true → list_all is_name_byte (x ++ y) ≡ true
letters_both x y h k = list_all-append is_name_byte x y ∙ and_from (list_all is_name_byte x) (list_all is_name_byte y) h k

odd_behind : (x y : List ℕ) → list_all is_small y ≡ false → list_all is_small (x ++ y) ≡ false
odd_behind x y h = list_all-append is_small x y ∙ and_right (list_all is_small x) (list_all is_small y) h

odd_front : (x y : List ℕ) → list_all is_small x ≡ false → list_all is_small (x ++ y) ≡ false
odd_front x y h = list_all-append is_small x y ∙ and_left (list_all is_small x) (list_all is_small y) h

-- words that are no names have small letters alone
odd_free : (x : List ℕ) → list_all is_small x ≡ false → is_reserved x ≡ false
odd_free x h = not_reserved x (by (codes "true") refl) (by (codes "false") refl) (by (codes "bool") refl) (by (codes "int") refl)
  where
    by : (w : List ℕ) → list_all is_small w ≡ true → x ≡ w → ⊥
    by w s e = let t : list_all is_small x ≡ true = ap (list_all is_small) e ∙ s in cc

-- ---- numbers

abbrev IsDigits : ℕ → List ℕ → Type 0
IsDigits n ds = (list_all is_name_byte ds ≡ true) × (list_all is_small ds ≡ false)

digit_name : (n : ℕ) → n < 10 → is_name_byte (48 + n) ≡ true
digit_name n h = grind (arith, nat_tests)

digit_odd : (n : ℕ) → n < 10 → is_small (48 + n) ≡ false
digit_odd n h = grind (arith, nat_tests)

one_digit : (n : ℕ) → n < 10 → IsDigits n ((48 + n) ∷ [])
one_digit n h = (and_from (is_name_byte (48 + n)) true (digit_name n h) refl, and_left (is_small (48 + n)) true (digit_odd n h))

one_more : (n : ℕ) (ds : List ℕ) → 10 ≤ n → IsDigits (n / 10) ds → IsDigits n (ds ++ ((48 + n % 10) ∷ []))
one_more n ds h s =
    let last : n % 10 < 10 = omega arith in
    (letters_both ds ((48 + n % 10) ∷ []) s.0 (one_digit (n % 10) last).0, odd_front ds ((48 + n % 10) ∷ []) s.1)

-- a small letter, some more, and a number
numbered_named : (b : ℕ) (stem : List ℕ) (n : ℕ) → is_small b ≡ true → list_all is_name_byte stem ≡ true → length stem ≤ 9 → n < 2 ^ 64 → IsName (b ∷ (stem ++ decimal n))
numbered_named b stem n small letters short wide =
    let digits : IsDigits n (decimal n) = decimal_by_steps IsDigits one_digit one_more n wide in
    let few : length (decimal n) ≤ 20 = length-decimal-le 20 n (omega arith) (omega (arith, wide)) wide in
    let long = length-append stem (decimal n) in
    name_from b (stem ++ decimal n) (record {
      first = small;
      others = letters_both stem (decimal n) letters digits.0;
      limited = omega (arith, few, long, short);
      free = odd_free (b ∷ (stem ++ decimal n)) (odd_behind (b ∷ stem) (decimal n) digits.1);
    })

-- ---- variables that are added, and those of controllers

added_named : (k : ℕ) (x : List ℕ) → k < 2 ^ 64 → IsAdded k x → IsName x
added_named k x l (inl e) = subst IsName (sym e) (numbered_named 119 (codes "$x") k refl refl (omega arith) l)
added_named k x l (inr e) = subst IsName (sym e) (numbered_named 98 (codes "$x") k refl refl (omega arith) l)

pub all_added : (k : ℕ) (vs : List Variable) → k + length vs ≤ 2 ^ 64 → AreAdded k vs → AllByRecursion IsName (names vs)
all_added k [] l a = tt
all_added k (v ∷ vs) l a = (added_named k v.name (omega (arith, l)) a.0, all_added (k + 1) vs (omega (arith, l)) a.1)

pub all_bits : (k count : ℕ) → k + count ≤ 2 ^ 64 → AllByRecursion IsName (names (map bit_variable (range_with_len k count)))
all_bits k zero l = tt
all_bits k (suc n) l = (numbered_named 98 [] k refl refl (omega arith) (omega (arith, l)), all_bits (k + 1) n (omega (arith, l)))

-- ---- machines

-- the name of a node with an ending that no name of a text has
pub ended_named : (f end : List ℕ) → IsName f → length f ≤ 255 → list_all is_name_byte end ≡ true → list_all is_small end ≡ false → length end ≤ 15 → IsName (f ++ end)
ended_named [] end h l e o s = absurd cc
ended_named (b ∷ x) end h l e o s =
    let p = name_parts b x h in
    let long = length-append x end in
    name_from b (x ++ end) (record {
      first = p.first;
      others = letters_both x end p.others e;
      limited = omega (arith, long, l, s);
      free = odd_free (b ∷ (x ++ end)) (odd_behind (b ∷ x) end o);
    })
