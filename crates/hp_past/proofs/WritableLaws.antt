-- New names may be written, and what is written of an unfolded expression may be read.
use Rattle.std.proofs.Common.{◌/◌, ◌%◌, ◌≡◌, ℕ, suc, ◌+◌, ◌<◌, ◌≤◌, ◌^◌, Bool, true, false, ◌&&◌, nat_eq, if◌then◌else◌, get_or, List, [], ◌∷◌, ◌++◌, codes, refl, sym, ap, subst, ◌∙◌, arith}
use Rattle.std.specs.Fmt.{decimal}
use Rattle.std.specs.List.{list_all}
use Rattle.std.proofs.lemmas.Fmt.{decimal_by_steps, length-decimal-le}
use Rattle.std.proofs.lemmas.List.{length-append}
use Rattle.std.proofs.lemmas.Bool.{and_parts, and_from}
use Rattle.std.proofs.lemmas.Bool.Decides.{nat_tests}
use Rattle.hp_base.specs.Bytes.{is_word_byte}
use Rattle.hp_lexer.specs.Spelling.{keyword_text}
use Rattle.hp_lexer.specs.Written.{Written, IsWritable}
use Rattle.hp_lexer.specs.declared.token.Keyword.{Keyword}
use Rattle.hp_lexer.specs.declared.token.Keyword.TheVariants as key
use Rattle.hp_lexer.specs.declared.token.Sign.TheVariants as mark
use Rattle.hp_tree.specs.Expressions.{Expr}
use Rattle.hp_print.specs.Levels.{is_looser, level_of}
use Rattle.hp_print.specs.Tokens.{sign, small}
use Rattle.hp_print.specs.ExpressionTokens.{in_parentheses, expression_tokens, operand_tokens}
use Rattle.hp_print.proofs.Heights.{tall, height}
use Rattle.hp_print.proofs.Writable.{Writable, writable-append, sign-writable}
use Rattle.hp_past.specs.Names.{past_name}

-- ---- tokens one behind another

pub writable-front : (a b : List Written) → Writable (a ++ b) → Writable a
writable-front [] b h = tt
writable-front (w ∷ a) b h = (h.0, writable-front a b h.1)

pub writable-behind : (a b : List Written) → Writable (a ++ b) → Writable b
writable-behind [] b h = h
writable-behind (w ∷ a) b h = writable-behind a b h.1

-- ---- new names

word-digit : (n : ℕ) → n < 10 → is_word_byte (48 + n) ≡ true
word-digit n h = grind (arith, nat_tests)

all-push : (ds : List ℕ) (b : ℕ) → list_all is_word_byte ds ≡ true → is_word_byte b ≡ true → list_all is_word_byte (ds ++ b ∷ []) ≡ true
all-push [] b h k = rw k refl
all-push (d ∷ ds) b h k =
    let parts = and_parts (is_word_byte d) (list_all is_word_byte ds) h in
    and_from (is_word_byte d) (list_all is_word_byte (ds ++ b ∷ [])) parts.0 (all-push ds b parts.1 k)

abbrev AreWordBytes : ℕ → List ℕ → Type 0
AreWordBytes n ds = list_all is_word_byte ds ≡ true

one-digit : (n : ℕ) → n < 10 → AreWordBytes n ((48 + n) ∷ [])
one-digit n h = rw (word-digit n h) refl

more-digits : (n : ℕ) (ds : List ℕ) → 10 ≤ n → AreWordBytes (n / 10) ds → AreWordBytes n (ds ++ (48 + n % 10) ∷ [])
more-digits n ds h s = all-push ds (48 + n % 10) s (word-digit (n % 10) (omega arith))

digits-are-word-bytes : (k : ℕ) → k < 2 ^ 64 → list_all is_word_byte (decimal k) ≡ true
digits-are-word-bytes k h = decimal_by_steps AreWordBytes one-digit more-digits k h

-- no keyword begins so
abbrev begins : List ℕ → Bool
begins w = nat_eq (get_or w 0 0) 112 && nat_eq (get_or w 1 0) 97

no-keyword : (k : Keyword) → begins (keyword_text k) ≡ false
no-keyword key.Assume = refl
no-keyword key.Automaton = refl
no-keyword key.Bool = refl
no-keyword key.Continue = refl
no-keyword key.Contract = refl
no-keyword key.Do = refl
no-keyword key.Else = refl
no-keyword key.End = refl
no-keyword key.Enforce = refl
no-keyword key.Every = refl
no-keyword key.False = refl
no-keyword key.Fby = refl
no-keyword key.If = refl
no-keyword key.In = refl
no-keyword key.Inlined = refl
no-keyword key.Int = refl
no-keyword key.Last = refl
no-keyword key.Let = refl
no-keyword key.Merge = refl
no-keyword key.Node = refl
no-keyword key.Not = refl
no-keyword key.On = refl
no-keyword key.Or = refl
no-keyword key.Pre = refl
no-keyword key.Reset = refl
no-keyword key.Returns = refl
no-keyword key.State = refl
no-keyword key.Switch = refl
no-keyword key.Tel = refl
no-keyword key.Then = refl
no-keyword key.True = refl
no-keyword key.Type = refl
no-keyword key.Unless = refl
no-keyword key.Until = refl
no-keyword key.Var = refl
no-keyword key.When = refl
no-keyword key.Whenot = refl
no-keyword key.With = refl
no-keyword key.Xor = refl

pub name-writable : (k : ℕ) → k < 2 ^ 64 → IsWritable (small (past_name k))
name-writable k h =
    let short = length-decimal-le 20 k (omega arith) (omega (arith, h)) h in
    let long = length-append (codes "past_") (decimal k) in
    record {
      spelled = ((refl, digits-are-word-bytes k h), λ w e. absurd (differ (ap begins e ∙ no-keyword w)));
      limited = omega (arith, short, long);
      blank = refl;
    }
  where
    differ : true ≡ false → ⊥
    differ z = cc

-- ---- operands

pub operand-writable : (l : _) (e : Expr) → Writable (expression_tokens e) → Writable (operand_tokens l e)
operand-writable l e w = by (is_looser (level_of e) l)
  where
    by : (b : Bool) → Writable (if b then in_parentheses (expression_tokens e) else expression_tokens e)
    by true = (sign-writable mark.Open, writable-append (expression_tokens e) (sign mark.Close ∷ []) w (sign-writable mark.Close, tt))
    by false = w

pub operand-plain : (l : _) (e : Expr) → Writable (operand_tokens l e) → Writable (expression_tokens e)
operand-plain l e = by (is_looser (level_of e) l)
  where
    by : (b : Bool) → Writable (if b then in_parentheses (expression_tokens e) else expression_tokens e) → Writable (expression_tokens e)
    by true h = writable-front (expression_tokens e) (sign mark.Close ∷ []) h.1
    by false h = h

-- an operand of the same level that needs no more levels
pub tall-low : (l : _) (e r : Expr) → level_of r ≡ level_of e → height r ≤ height e → tall l r (height r) ≤ tall l e (height e)
tall-low l e r same low = subst (λ k. (if is_looser k l then suc (height r) else height r) ≤ tall l e (height e)) (sym same) (by (is_looser (level_of e) l))
  where
    by : (b : Bool) → (if b then suc (height r) else height r) ≤ (if b then suc (height e) else height e)
    by true = omega (arith, low)
    by false = low

pub tall-least : (l : _) (e : Expr) (h : ℕ) → h ≤ tall l e h
tall-least l e h = by (is_looser (level_of e) l)
  where
    by : (b : Bool) → h ≤ (if b then suc h else h)
    by true = omega arith
    by false = omega arith

pub tall-most : (l : _) (e : Expr) (h : ℕ) → tall l e h ≤ suc h
tall-most l e h = by (is_looser (level_of e) l)
  where
    by : (b : Bool) → (if b then suc h else h) ≤ suc h
    by true = omega arith
    by false = omega arith
