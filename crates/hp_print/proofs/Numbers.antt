-- Decimal digits spell the number that they are written for.
use Rattle.std.proofs.Common.{◌≡◌, ℕ, ◌+◌, ◌-◌, ◌*◌, ◌/◌, ◌%◌, ◌<◌, ◌≤◌, pos, true, false, List, [], ◌∷◌, ◌++◌, refl, ap, ◌∙◌, arith, if◌then◌else◌, int_lt}
use Rattle.std.specs.Fmt.{decimal}
use Rattle.std.specs.List.{list_all}
use Rattle.std.proofs.lemmas.Fmt.{decimal_by_steps}
use Rattle.std.proofs.lemmas.Grind.{fold-append}
use Rattle.std.proofs.lemmas.Bool.{and_parts, and_from}
use Rattle.std.proofs.lemmas.Bool.Decides.{nat_tests}
use Rattle.hp_base.specs.Bytes.{is_digit}
use Rattle.hp_lexer.specs.Spelling.{IsNumeral, value_of, greatest_number}
use Rattle.hp_lexer.specs.declared.token.Sign.TheVariants.{Minus}
use Rattle.hp_print.specs.Tokens.{sign, number, integer_tokens}

-- the digits spell the number
abbrev Spelled : ℕ → List ℕ → Type 0
Spelled n ds = IsNumeral ds × (value_of ds ≡ n)

digit : (n : ℕ) → n < 10 → is_digit (48 + n) ≡ true
digit n h = grind (arith, nat_tests)

one-digit : (n : ℕ) → n < 10 → Spelled n ((48 + n) ∷ [])
one-digit n h = (rw (digit n h) refl, omega arith)

all-push : (ds : List ℕ) (b : ℕ) → list_all is_digit ds ≡ true → is_digit b ≡ true → list_all is_digit (ds ++ (b ∷ [])) ≡ true
all-push [] b h k = rw k refl
all-push (d ∷ ds) b h k =
    let parts = and_parts (is_digit d) (list_all is_digit ds) h in
    and_from (is_digit d) (list_all is_digit (ds ++ (b ∷ []))) parts.0 (all-push ds b parts.1 k)

one-more : (n : ℕ) (ds : List ℕ) → 10 ≤ n → Spelled (n / 10) ds → Spelled n (ds ++ ((48 + n % 10) ∷ []))
one-more n [] h s = absurd s.0
one-more n (d ∷ ds) h s =
    let last : n % 10 < 10 = omega arith in
    let v : value_of (d ∷ ds) ≡ n / 10 = s.1 in
    let sum : 10 * (n / 10) + (48 + n % 10 - 48) ≡ n = omega arith in (
      all-push (d ∷ ds) (48 + n % 10) s.0 (digit (n % 10) last),
      fold-append (λ m b. 10 * m + (b - 48)) 0 (d ∷ ds) ((48 + n % 10) ∷ []) ∙ ap (λ m. 10 * m + (48 + n % 10 - 48)) v ∙ sum,
    )

pub decimal-spelled : (n : ℕ) → n ≤ greatest_number → IsNumeral (decimal n) × (value_of (decimal n) ≡ n)
decimal-spelled n h = decimal_by_steps Spelled one-digit one-more n (omega (arith, h))

-- a number that is not negative has no minus
pub integer-natural : (n : ℕ) → integer_tokens (pos n) ≡ number n ∷ []
integer-natural n = ap (λ b. if b then sign Minus ∷ number n ∷ [] else number n ∷ []) (not-negative n)
  where
    not-negative : (k : ℕ) → int_lt (pos k) (pos 0) ≡ false
    not-negative k = grind (arith, nat_tests)
