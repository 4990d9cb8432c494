-- Names are short.
use Rattle.std.proofs.Common.{◌≡◌, ◌≤◌, ℕ, Bool, true, false, ◌&&◌, not, List, [], ◌∷◌, length, nat_le, refl, arith}
use Rattle.std.proofs.lemmas.Bool.Decides.{nat_tests}
use Rattle.hp_base.specs.Bytes.{is_small, is_capital, is_word_byte}
use Rattle.hp_obc.specs.Form.{is_name, is_constructor, is_name_byte, is_reserved}
use Rattle.std.specs.List.{list_all}

third : (a b c d : Bool) → (((a && b) && c) && d) ≡ true → c ≡ true
third true true true d h = refl
third true true false d h = absurd cc
third true false c d h = absurd cc
third false b c d h = absurd cc

last_of : (a b c : Bool) → ((a && b) && c) ≡ true → c ≡ true
last_of true true true h = refl
last_of true true false h = absurd cc
last_of true false c h = absurd cc
last_of false b c h = absurd cc

within : (m n : ℕ) → nat_le m n ≡ true → m ≤ n
within m n h = grind (arith, nat_tests)

pub names_are_short : (w : List ℕ) → is_name w ≡ true → length w ≤ 270
names_are_short [] h = omega arith
names_are_short (b ∷ w) h = within (length (b ∷ w)) 270 (third (is_small b) (list_all is_name_byte w) (nat_le (length (b ∷ w)) 270) (not (is_reserved (b ∷ w))) h)

pub constructors_are_short : (w : List ℕ) → is_constructor w ≡ true → length w ≤ 270
constructors_are_short [] h = omega arith
constructors_are_short (b ∷ w) h = let few = within (length (b ∷ w)) 255 (last_of (is_capital b) (list_all is_word_byte w) (nat_le (length (b ∷ w)) 255) h) in omega (arith, few)
