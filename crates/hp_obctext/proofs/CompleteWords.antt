-- A word is read as what it spells.
use Rattle.std.proofs.Common.{◌≡◌, ◌≤◌, ℕ, Bool, true, false, not, ◌&&◌, ◌==◌, nat_le, length, if◌then◌else◌, List, [], ◌∷◌, codes, ℤ, pos, neg_ℤ, Option, None, Some, is_some, refl, ap, ◌∙◌, arith}
use Rattle.std.specs.Prelude.{option_map, option_and_then}
use Rattle.std.specs.List.{list_all}
use Rattle.std.specs.Str.{bytes_eq}
use Rattle.std.proofs.lemmas.Bool.Decides.{nat_tests}
use Rattle.hp_base.specs.declared.ty.Ty.{Ty}
use Rattle.hp_base.specs.declared.ty.Ty.TheVariants as ty
use Rattle.hp_base.specs.declared.ty.Const.{Const}
use Rattle.hp_base.specs.declared.ty.Const.TheVariants as constant
use Rattle.hp_obc.specs.declared.command.Arg.{Arg}
use Rattle.hp_obc.specs.declared.command.Arg.TheVariants as arg
use Rattle.hp_obc.specs.declared.command.ObcOp.{ObcOp}
use Rattle.hp_obc.specs.declared.command.ObcOp.TheVariants.{Not, Neg, Mux, And, Or, Xor, Imp, Eq, Ne, Lt, Le, Gt, Ge, Add, Sub, Mul, Div, Rem}
use Rattle.hp_base.specs.Bytes.{is_word_byte, is_digit}
use Rattle.hp_obc.specs.Form.{is_name, is_constructor, is_name_byte, is_reserved}
use Rattle.hp_lines.specs.Numbers.{digits_number, natural_of, in_range, number_of}
use Rattle.hp_obctext.specs.Files.{const_word, type_word, arg_word}
use Rattle.hp_obctext.specs.Shapes.{IsLabel}
use Rattle.hp_obctext.specs.Spelling.{this, name_of, constructor_of, ty_of, label_of, const_of, arg_of, op_of, else_by}
use Rattle.hp_obctext.specs.Spells.{IsSpelling}
use Rattle.hp_obctext.specs.Words.{Word, leading, fixed as plain, small, capital}
use Rattle.hp_obctext.proofs.Truths.{same_bytes, equal_bytes, both_true}

-- A word that spells a word of the grammar stands for one thing.
abbrev pub Means : {A : Type 0} → (A → Word) → (List ℕ → Option A) → A → Type 0
Means word of a = (w : List ℕ) → IsSpelling w (word a) → of w ≡ Some a

pub this_means : (word : List ℕ) → Means (λ u. plain word) (this word) tt
this_means word w h = ap (λ d. if d then Some tt else None) (ap (λ v. bytes_eq v word) h ∙ same_bytes word)

pub leading_means : (word : List ℕ) → Means (λ u. leading word) (this word) tt
leading_means word w h = ap (λ d. if d then Some tt else None) (ap (λ v. bytes_eq v word) h ∙ same_bytes word)

pub name_means : (x : List ℕ) → Means small name_of x
name_means x w h = ap name_of h.0 ∙ ap (λ d. if d then Some x else None) h.1

pub constructor_means : (x : List ℕ) → Means capital constructor_of x
constructor_means x w h = ap constructor_of h.0 ∙ ap (λ d. if d then Some x else None) h.1

-- a word that passes a test is none that does not
other : (p : List ℕ → Bool) (w v : List ℕ) → p w ≡ true → p v ≡ false → bytes_eq w v ≡ false
other p w v h k = by (bytes_eq w v) refl
  where
    by : (d : Bool) → bytes_eq w v ≡ d → d ≡ false
    by true e = let same : p w ≡ p v = ap p (equal_bytes w v e) in absurd (cc)
    by false e = refl

pub ty_means : (t : Ty) → Means type_word ty_of t
ty_means ty.Bool w h = ap ty_of h
ty_means ty.Int w h = ap ty_of h
ty_means (ty.Enum x) w h =
    let name : is_name w ≡ true = ap is_name h.0 ∙ h.1 in
    ap (λ d. if d then Some ty.Bool else (if bytes_eq w (codes "int") then Some ty.Int else option_map ty.Enum (name_of w))) (other is_name w (codes "bool") name refl)
    ∙ ap (λ d. if d then Some ty.Int else option_map ty.Enum (name_of w)) (other is_name w (codes "int") name refl)
    ∙ ap (option_map ty.Enum) (name_means x w h)

-- ---- numbers begin with a digit or with `-`

digit_by : (few d e : Bool) (k : ℕ) (n : ℤ) → option_and_then (λ m. in_range (pos m)) (if few && (d && e) then Some k else None) ≡ Some n → d ≡ true
digit_by few true e k n h = refl
digit_by true false e k n h = absurd cc
digit_by false false e k n h = absurd cc

first_byte : (b : ℕ) (w : List ℕ) (n : ℤ) → number_of (b ∷ w) ≡ Some n → b ≤ 57
first_byte b w n h = by (b == 45) refl h
  where
    by : (d : Bool) → (b == 45) ≡ d →
        (if d then option_and_then (λ m. in_range (neg_ℤ (pos m))) (natural_of w) else option_and_then (λ m. in_range (pos m)) (natural_of (b ∷ w))) ≡ Some n → b ≤ 57
    by true e h = grind (arith, nat_tests)
    by false e h = digit_bound b (digit_by (not (length (b ∷ w) == 0)) (is_digit b) (list_all is_digit w) (digits_number (b ∷ w)) n h)
      where
        digit_bound : (c : ℕ) → is_digit c ≡ true → c ≤ 57
        digit_bound c k = let parts = both_true (nat_le 48 c) (nat_le c 57) k in let last = parts.1 in grind (arith, nat_tests)

-- a word that begins before the small letters is no name
no_name : (b : ℕ) (w : List ℕ) → b ≤ 96 → is_name (b ∷ w) ≡ false
no_name b w h =
    let low : nat_le 97 b ≡ false = grind (arith, nat_tests) in
    ap (λ d. (((d && nat_le b 122) && list_all is_name_byte w) && nat_le (length (b ∷ w)) 270) && not (is_reserved (b ∷ w))) low

no_constructor : (b : ℕ) (w : List ℕ) → b ≤ 64 → is_constructor (b ∷ w) ≡ false
no_constructor b w h =
    let low : nat_le 65 b ≡ false = grind (arith, nat_tests) in
    ap (λ d. ((d && nat_le b 90) && list_all is_word_byte w) && nat_le (length (b ∷ w)) 255) low

number_no_name : (w : List ℕ) (n : ℤ) → number_of w ≡ Some n → is_name w ≡ false
number_no_name [] n h = refl
number_no_name (b ∷ w) n h = let low = first_byte b w n h in no_name b w (omega (arith, low))

pub number_no_constructor : (w : List ℕ) (n : ℤ) → number_of w ≡ Some n → is_constructor w ≡ false
number_no_constructor [] n h = refl
number_no_constructor (b ∷ w) n h = let low = first_byte b w n h in no_constructor b w (omega (arith, low))

second_is : (a b c d : Bool) → (((a && b) && c) && d) ≡ true → b ≡ true
second_is true true c d h = refl
second_is true false c d h = absurd cc
second_is false b c d h = absurd cc

constructor_no_name : (w : List ℕ) → is_constructor w ≡ true → is_name w ≡ false
constructor_no_name [] h = refl
constructor_no_name (b ∷ w) h =
    let capital = second_is (nat_le 65 b) (nat_le b 90) (list_all is_word_byte w) (nat_le (length (b ∷ w)) 255) h in
    let low : b ≤ 96 = grind (arith, nat_tests) in
    no_name b w low

-- ---- constants and arguments

pub label_means : (c : Const) → IsLabel c → Means const_word label_of c
label_means (constant.B true) l w h = ap label_of h
label_means (constant.B false) l w h = ap label_of h
label_means (constant.I n) l w h = absurd l
label_means (constant.E x) l w h =
    let name : is_constructor w ≡ true = ap is_constructor h.0 ∙ h.1 in
    ap (λ d. if d then Some (constant.B true) else (if bytes_eq w (codes "false") then Some (constant.B false) else option_map constant.E (constructor_of w))) (other is_constructor w (codes "true") name refl)
    ∙ ap (λ d. if d then Some (constant.B false) else option_map constant.E (constructor_of w)) (other is_constructor w (codes "false") name refl)
    ∙ ap (option_map constant.E) (constructor_means x w h)

number_no_label : (w : List ℕ) (n : ℤ) → number_of w ≡ Some n → label_of w ≡ None
number_no_label w n h =
    ap (λ d. if d then Some (constant.B true) else (if bytes_eq w (codes "false") then Some (constant.B false) else option_map constant.E (constructor_of w))) (other (λ v. is_some (number_of v)) w (codes "true") (ap is_some h) refl)
    ∙ ap (λ d. if d then Some (constant.B false) else option_map constant.E (constructor_of w)) (other (λ v. is_some (number_of v)) w (codes "false") (ap is_some h) refl)
    ∙ ap (λ d. option_map constant.E (if d then Some w else None)) (number_no_constructor w n h)

pub const_means : (c : Const) → Means const_word const_of c
const_means (constant.B true) w h = ap const_of h
const_means (constant.B false) w h = ap const_of h
const_means (constant.I n) w h = ap (λ o. else_by o (option_map constant.I (number_of w))) (number_no_label w n h) ∙ ap (option_map constant.I) h
const_means (constant.E x) w h = ap (λ o. else_by o (option_map constant.I (number_of w))) (label_means (constant.E x) tt w h)

const_no_name : (c : Const) (w : List ℕ) → IsSpelling w (const_word c) → is_name w ≡ false
const_no_name (constant.B true) w h = ap is_name h
const_no_name (constant.B false) w h = ap is_name h
const_no_name (constant.I n) w h = number_no_name w n h
const_no_name (constant.E x) w h = constructor_no_name w (ap is_constructor h.0 ∙ h.1)

pub arg_means : (a : Arg) → Means arg_word arg_of a
arg_means (arg.Name x) w h = ap (λ o. else_by (option_map arg.Name o) (option_map arg.Const (const_of w))) (name_means x w h)
arg_means (arg.Const c) w h =
    ap (λ d. else_by (option_map arg.Name (if d then Some w else None)) (option_map arg.Const (const_of w))) (const_no_name c w h)
    ∙ ap (option_map arg.Const) (const_means c w h)

-- ---- operators

-- an argument is no word that is none
skip : (w : List ℕ) (a : Arg) → arg_of w ≡ Some a → (word : List ℕ) (op : ObcOp) (o : Option ObcOp) → arg_of word ≡ None → o ≡ None → (if bytes_eq w word then Some op else o) ≡ None
skip w a h word op o e k =
    ap (λ d. if d then Some op else o) (other (λ v. is_some (arg_of v)) w word (ap is_some h) (ap is_some e)) ∙ k

pub arg_no_op : (w : List ℕ) (a : Arg) → arg_of w ≡ Some a → op_of w ≡ None
arg_no_op w a h =
    skip w a h (codes "@not") Not _ refl (
    skip w a h (codes "@neg") Neg _ refl (
    skip w a h (codes "@mux") Mux _ refl (
    skip w a h (codes "@and") And _ refl (
    skip w a h (codes "@or") Or _ refl (
    skip w a h (codes "@xor") Xor _ refl (
    skip w a h (codes "@imp") Imp _ refl (
    skip w a h (codes "@eq") Eq _ refl (
    skip w a h (codes "@ne") Ne _ refl (
    skip w a h (codes "@lt") Lt _ refl (
    skip w a h (codes "@le") Le _ refl (
    skip w a h (codes "@gt") Gt _ refl (
    skip w a h (codes "@ge") Ge _ refl (
    skip w a h (codes "@add") Add _ refl (
    skip w a h (codes "@sub") Sub _ refl (
    skip w a h (codes "@mul") Mul _ refl (
    skip w a h (codes "@div") Div _ refl (
    skip w a h (codes "@rem") Rem _ refl refl)))))))))))))))))
