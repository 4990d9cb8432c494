-- The names of new variables, byte by byte, and how long they are.
use Rattle.std.proofs.Common.{◌≡◌, ℕ, ◌+◌, ◌<◌, ◌≤◌, min, nat_eq, nat_lt, get_or, length, take, drop, Bool, true, false, if◌then◌else◌, List, [], ◌∷◌, ◌++◌, sym, ap, ◌∙◌, arith}
use Rattle.std.proofs.lemmas.List.{length-append, length-take}
use Rattle.std.proofs.lemmas.Fmt.{length-decimal-le}
use Rattle.hp_automata.specs.declared.new_names.Word.{Word}
use Rattle.hp_automata.specs.declared.new_names.Word.TheVariants.{Jump, Next, From, On, Strong, Weak}
use Rattle.hp_automata.specs.NewNames.{is_new, dollar, text, letters, digits, numbered, word_name, state_word, transition_word, signed, value_name}
use Rattle.hp_automata.proofs.ListLaws.{drop-next, drop-end}

-- ---- the sign in a name

module _ (xs : List ℕ) (i x : ℕ) (h : i < length xs) (p : x ≡ get_or xs i x) where
  new_from : is_new (drop i xs) ≡ (if nat_eq x dollar then true else is_new (drop (i + 1) xs))
  new_from = ap is_new (drop-next xs i x h p)

  pub new-next : nat_eq x 36 ≡ false → is_new (drop (i + 1) xs) ≡ is_new (drop i xs)
  new-next e = sym (new_from ∙ ap (λ d. if d then true else is_new (drop (i + 1) xs)) e)

  pub new-here : nat_eq x 36 ≡ true → is_new (drop i xs) ≡ true
  new-here e = new_from ∙ ap (λ d. if d then true else is_new (drop (i + 1) xs)) e

pub new-end : (xs : List ℕ) (i : ℕ) → length xs ≤ i → is_new (drop i xs) ≡ false
new-end xs i h = ap is_new (drop-end xs i h)

-- ---- how long they are

-- a number of six digits
six-digits : (n : ℕ) → length (digits n) ≤ 6
six-digits n = length-decimal-le 6 (min 999999 n) (omega arith) (omega arith) (omega arith)

two_by : (d : ℕ) (b : Bool) (x y z : ℕ) → length (if b then x ∷ [] else y ∷ z ∷ []) ≤ 2
two_by d true x y z = omega arith
two_by d false x y z = omega arith

two-letters : (d : ℕ) → length (letters d) ≤ 2
two-letters d = two_by d (nat_lt d 10) _ _ _

seven-bytes : (w : Word) → length (text w) ≤ 7
seven-bytes Jump = omega arith
seven-bytes Next = omega arith
seven-bytes From = omega arith
seven-bytes On = omega arith
seven-bytes Strong = omega arith
seven-bytes Weak = omega arith

pub word-fits : (w : Word) (d : ℕ) → length (word_name w d) ≤ 9
word-fits w d = omega (arith, length-append (text w) (letters d), seven-bytes w, two-letters d)

numbered-fits : (x : List ℕ) (k : ℕ) → length (numbered x k) ≤ length x + 7
numbered-fits x k = omega (arith, length-append (x ++ 95 ∷ []) (digits k), length-append x (95 ∷ []), six-digits k)

pub state-fits : (w : Word) (d k : ℕ) → length (state_word w d k) ≤ 16
state-fits w d k = omega (arith, numbered-fits (word_name w d) k, word-fits w d)

pub transition-fits : (w : Word) (d k j : ℕ) → length (transition_word w d k j) ≤ 23
transition-fits w d k j = omega (arith, numbered-fits (state_word w d k) j, state-fits w d k)

-- a name with its sign
pub signed-old : (x : List ℕ) → is_new x ≡ true → signed x ≡ take 262 x
signed-old x h = ap (λ b. if b then take 262 x else take 261 x ++ dollar ∷ []) h

pub signed-new : (x : List ℕ) → is_new x ≡ false → signed x ≡ take 261 x ++ dollar ∷ []
signed-new x h = ap (λ b. if b then take 262 x else take 261 x ++ dollar ∷ []) h

signed_by : (x : List ℕ) (b : Bool) → length (if b then take 262 x else take 261 x ++ dollar ∷ []) ≤ 262
signed_by x true = omega (arith, length-take 262 x)
signed_by x false = omega (arith, length-append (take 261 x) (dollar ∷ []), length-take 261 x)

pub value-fits : (d k : ℕ) (x : List ℕ) → length (value_name d k x) ≤ 270
value-fits d k x = omega (arith, length-append (signed x ++ letters d) (digits k), length-append (signed x) (letters d), signed_by x (is_new x), two-letters d, six-digits k)
