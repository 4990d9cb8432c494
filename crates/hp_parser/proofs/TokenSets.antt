-- All kinds of tokens, and what is seen of sets of them by computing.
use Rattle.std.proofs.Common.{◌≡◌, ℕ, zero, suc, Bool, true, false, ◌&&◌, ◌||◌, not, List, [], ◌∷◌, ◌++◌, map, Option, None, Some, is_some, if◌then◌else◌, IsTrue, ◌↔◌, T, ◌==◌, eqb-true, refl, sym, ap, subst, ◌∙◌}
use Rattle.std.proofs.Math.Dec.{eqb_refl}
use Rattle.hp_lexer.specs.declared.token.TokenKind.{TokenKind}
use Rattle.hp_lexer.specs.declared.token.TokenKind.TheVariants as kind
use Rattle.hp_lexer.specs.declared.token.Keyword.{Keyword}
use Rattle.hp_lexer.specs.declared.token.Keyword.TheVariants as word
use Rattle.hp_lexer.specs.declared.token.Sign.{Sign}
use Rattle.hp_lexer.specs.declared.token.Sign.TheVariants as sign
use Rattle.hp_parser.specs.Lexemes.{Lexeme, Kinds}
use Rattle.hp_parser.specs.Tokens.{keyword_number, sign_number, keyword, sign_of}
use Rattle.hp_parser.proofs.Ways.{Apart}
use Rattle.hp_parser.proofs.Choices.{Inside}

-- the place of a thing in a list
nth : {A : Type 0} → List A → ℕ → Option A
nth [] n = None
nth (x ∷ xs) zero = Some x
nth (x ∷ xs) (suc n) = nth xs n

abbrev all : {A : Type 0} → (A → Bool) → List A → Bool
all f [] = true
all f (x ∷ xs) = f x && all f xs

and_first : (a b : Bool) → (a && b) ≡ true → a ≡ true
and_first true b h = refl
and_first false b h = absurd cc

and_second : (a b : Bool) → (a && b) ≡ true → b ≡ true
and_second true b h = h
and_second false b h = absurd cc

holds_at : {A : Type 0} (f : A → Bool) (xs : List A) (n : ℕ) (x : A) → nth xs n ≡ Some x → all f xs ≡ true → f x ≡ true
unfolding nth
holds_at f [] n x e h = absurd cc
holds_at f (y ∷ xs) zero x e h = let same : y ≡ x = cc in subst (λ z. f z ≡ true) same (and_first (f y) (all f xs) h)
holds_at f (y ∷ xs) (suc n) x e h = holds_at f xs n x e (and_second (f y) (all f xs) h)

abbrev keywords : List Keyword
keywords = word.Assume ∷ word.Automaton ∷ word.Bool ∷ word.Continue ∷ word.Contract ∷ word.Do ∷ word.Else ∷ word.End ∷ word.Enforce ∷ word.Every ∷ word.False ∷ word.Fby ∷ word.If ∷ word.In ∷ word.Inlined ∷ word.Int ∷ word.Last ∷ word.Let ∷ word.Merge ∷ word.Node ∷ word.Not ∷ word.On ∷ word.Or ∷ word.Pre ∷ word.Reset ∷ word.Returns ∷ word.State ∷ word.Switch ∷ word.Tel ∷ word.Then ∷ word.True ∷ word.Type ∷ word.Unless ∷ word.Until ∷ word.Var ∷ word.When ∷ word.Whenot ∷ word.With ∷ word.Xor ∷ []

abbrev signs : List Sign
signs = sign.Open ∷ sign.Close ∷ sign.Comma ∷ sign.Semicolon ∷ sign.Colon ∷ sign.Equal ∷ sign.Unequal ∷ sign.Less ∷ sign.AtMost ∷ sign.Greater ∷ sign.AtLeast ∷ sign.Plus ∷ sign.Minus ∷ sign.Star ∷ sign.Slash ∷ sign.Percent ∷ sign.And ∷ sign.AndAnd ∷ sign.Bar ∷ sign.BarBar ∷ sign.Arrow ∷ sign.Implies ∷ []

keyword_at : (w : Keyword) → nth keywords (keyword_number w) ≡ Some w
unfolding nth
keyword_at word.Assume = refl
keyword_at word.Automaton = refl
keyword_at word.Bool = refl
keyword_at word.Continue = refl
keyword_at word.Contract = refl
keyword_at word.Do = refl
keyword_at word.Else = refl
keyword_at word.End = refl
keyword_at word.Enforce = refl
keyword_at word.Every = refl
keyword_at word.False = refl
keyword_at word.Fby = refl
keyword_at word.If = refl
keyword_at word.In = refl
keyword_at word.Inlined = refl
keyword_at word.Int = refl
keyword_at word.Last = refl
keyword_at word.Let = refl
keyword_at word.Merge = refl
keyword_at word.Node = refl
keyword_at word.Not = refl
keyword_at word.On = refl
keyword_at word.Or = refl
keyword_at word.Pre = refl
keyword_at word.Reset = refl
keyword_at word.Returns = refl
keyword_at word.State = refl
keyword_at word.Switch = refl
keyword_at word.Tel = refl
keyword_at word.Then = refl
keyword_at word.True = refl
keyword_at word.Type = refl
keyword_at word.Unless = refl
keyword_at word.Until = refl
keyword_at word.Var = refl
keyword_at word.When = refl
keyword_at word.Whenot = refl
keyword_at word.With = refl
keyword_at word.Xor = refl

sign_at : (s : Sign) → nth signs (sign_number s) ≡ Some s
unfolding nth
sign_at sign.Open = refl
sign_at sign.Close = refl
sign_at sign.Comma = refl
sign_at sign.Semicolon = refl
sign_at sign.Colon = refl
sign_at sign.Equal = refl
sign_at sign.Unequal = refl
sign_at sign.Less = refl
sign_at sign.AtMost = refl
sign_at sign.Greater = refl
sign_at sign.AtLeast = refl
sign_at sign.Plus = refl
sign_at sign.Minus = refl
sign_at sign.Star = refl
sign_at sign.Slash = refl
sign_at sign.Percent = refl
sign_at sign.And = refl
sign_at sign.AndAnd = refl
sign_at sign.Bar = refl
sign_at sign.BarBar = refl
sign_at sign.Arrow = refl
sign_at sign.Implies = refl

-- a test of every kind
abbrev pub every : Kinds → Bool
every f = f kind.Small && (f kind.Capital && (f kind.Number && (all (λ w. f (kind.Keyword w)) keywords && all (λ s. f (kind.Sign s)) signs)))

pub for_each : (f : Kinds) → every f ≡ true → (k : TokenKind) → f k ≡ true
for_each f h k =
    let rest_1 = f kind.Capital && (f kind.Number && (all (λ w. f (kind.Keyword w)) keywords && all (λ s. f (kind.Sign s)) signs)) in
    let rest_2 = f kind.Number && (all (λ w. f (kind.Keyword w)) keywords && all (λ s. f (kind.Sign s)) signs) in
    let rest_3 = all (λ w. f (kind.Keyword w)) keywords && all (λ s. f (kind.Sign s)) signs in
    let h_1 = and_second (f kind.Small) rest_1 h in
    let h_2 = and_second (f kind.Capital) rest_2 h_1 in
    let h_3 = and_second (f kind.Number) rest_3 h_2 in
    by k (and_first (f kind.Small) rest_1 h) (and_first (f kind.Capital) rest_2 h_1) (and_first (f kind.Number) rest_3 h_2)
    (and_first (all (λ w. f (kind.Keyword w)) keywords) (all (λ s. f (kind.Sign s)) signs) h_3)
    (and_second (all (λ w. f (kind.Keyword w)) keywords) (all (λ s. f (kind.Sign s)) signs) h_3) where
      by : (k : TokenKind) → f kind.Small ≡ true → f kind.Capital ≡ true → f kind.Number ≡ true → all (λ w. f (kind.Keyword w)) keywords ≡ true → all (λ s. f (kind.Sign s)) signs ≡ true → f k ≡ true
      by kind.Small a b c d e = a
      by kind.Capital a b c d e = b
      by kind.Number a b c d e = c
      by (kind.Keyword w) a b c d e = holds_at (λ v. f (kind.Keyword v)) keywords (keyword_number w) w (keyword_at w) d
      by (kind.Sign s) a b c d e = holds_at (λ t. f (kind.Sign t)) signs (sign_number s) s (sign_at s) e

-- two sets have nothing in common; one is inside another; a set has something
abbrev pub are_apart : Kinds → Kinds → Bool
are_apart p q = every (λ k. not (p k && q k))

abbrev pub is_inside : Kinds → Kinds → Bool
is_inside p q = every (λ k. not (p k) || q k)

abbrev first_in : Kinds → List TokenKind → Option TokenKind
first_in p [] = None
first_in p (k ∷ ks) = if p k then Some k else first_in p ks

abbrev all_kinds : List TokenKind
all_kinds = kind.Small ∷ kind.Capital ∷ kind.Number ∷ (map kind.Keyword keywords ++ map kind.Sign signs)

abbrev pub has_some : Kinds → Bool
has_some p = is_some (first_in p all_kinds)

apart_by : (a b : Bool) → not (a && b) ≡ true → a ≡ true → b ≡ false
apart_by true true h e = absurd cc
apart_by true false h e = refl
apart_by false b h e = absurd cc

inside_by : (a b : Bool) → (not a || b) ≡ true → a ≡ true → b ≡ true
inside_by true b h e = h
inside_by false b h e = absurd cc

pub apart_seen : (p q : Kinds) → are_apart p q ≡ true → Apart p q
apart_seen p q h k e = apart_by (p k) (q k) (for_each (λ k. not (p k && q k)) h k) e

pub inside_seen : (p q : Kinds) → is_inside p q ≡ true → Inside p q
inside_seen p q h k e = inside_by (p k) (q k) (for_each (λ k. not (p k) || q k) h k) e

found_by : (p : Kinds) (k : TokenKind) (ks : List TokenKind) (d : Bool) → p k ≡ d → ((t : TokenKind) → first_in p ks ≡ Some t → p t ≡ true) →
    (t : TokenKind) → (if d then Some k else first_in p ks) ≡ Some t → p t ≡ true
found_by p k ks true h rest t e = let same : k ≡ t = cc in subst (λ z. p z ≡ true) same h
found_by p k ks false h rest t e = rest t e

found_in : (p : Kinds) (ks : List TokenKind) (t : TokenKind) → first_in p ks ≡ Some t → p t ≡ true
found_in p [] t e = absurd cc
found_in p (k ∷ ks) t e = found_by p k ks (p k) refl (found_in p ks) t e

some_of : (o : Option TokenKind) → is_some o ≡ true → (t : TokenKind) × (o ≡ Some t)
some_of None h = absurd cc
some_of (Some t) h = (t, refl)

-- a token of a kind
pub some_seen : (p : Kinds) → has_some p ≡ true → (t : Lexeme) × (p t.kind ≡ true)
some_seen p h =
    let k = some_of (first_in p all_kinds) h in
    (record { kind = k.0; bytes = []; span = record { line = 0; col = 0; end = 0 } }, found_in p all_kinds k.0 k.1)

-- ---- what a test of equality tells

keyword_of_number : (w v : Keyword) → keyword_number w ≡ keyword_number v → w ≡ v
keyword_of_number w v e = let found : Some w ≡ Some v = sym (keyword_at w) ∙ ap (nth keywords) e ∙ keyword_at v in cc

sign_of_number : (s t : Sign) → sign_number s ≡ sign_number t → s ≡ t
sign_of_number s t e = let found : Some s ≡ Some t = sym (sign_at s) ∙ ap (nth signs) e ∙ sign_at t in cc

is_keyword_kind : (w : Keyword) (k : TokenKind) → keyword w k ≡ true → k ≡ kind.Keyword w
is_keyword_kind w (kind.Keyword v) h = ap kind.Keyword (keyword_of_number v w (sym (eqb-true (keyword_number w) (keyword_number v) h)))
is_keyword_kind w kind.Small h = absurd cc
is_keyword_kind w kind.Capital h = absurd cc
is_keyword_kind w kind.Number h = absurd cc
is_keyword_kind w (kind.Sign s) h = absurd cc

is_sign_kind : (s : Sign) (k : TokenKind) → sign_of s k ≡ true → k ≡ kind.Sign s
is_sign_kind s (kind.Sign t) h = ap kind.Sign (sign_of_number t s (sym (eqb-true (sign_number s) (sign_number t) h)))
is_sign_kind s kind.Small h = absurd cc
is_sign_kind s kind.Capital h = absurd cc
is_sign_kind s kind.Number h = absurd cc
is_sign_kind s (kind.Keyword w) h = absurd cc

told_by : (b c : Bool) (P : Type 0) → (c ≡ true → P) → (P → c ≡ true) → (IsTrue b ↔ P) → b ≡ c
told_by true c P one two h = sym (two (h.0 refl))
told_by false true P one two h = absurd (let no : false ≡ true = h.1 (one refl) in cc)
told_by false false P one two h = refl

truth : (b : Bool) → T b → b ≡ true
truth true h = refl
truth false h = absurd h

keyword_same : (w : Keyword) → keyword w (kind.Keyword w) ≡ true
keyword_same w = truth (keyword_number w == keyword_number w) (eqb_refl (keyword_number w))

sign_same : (s : Sign) → sign_of s (kind.Sign s) ≡ true
sign_same s = truth (sign_number s == sign_number s) (eqb_refl (sign_number s))

pub keyword_told : (b : Bool) (w : Keyword) (k : TokenKind) → (IsTrue b ↔ (k ≡ kind.Keyword w)) → b ≡ keyword w k
keyword_told b w k h = told_by b (keyword w k) (k ≡ kind.Keyword w) (is_keyword_kind w k) (λ e. subst (λ z. keyword w z ≡ true) (sym e) (keyword_same w)) h

pub sign_told : (b : Bool) (s : Sign) (k : TokenKind) → (IsTrue b ↔ (k ≡ kind.Sign s)) → b ≡ sign_of s k
sign_told b s k h = told_by b (sign_of s k) (k ≡ kind.Sign s) (is_sign_kind s k) (λ e. subst (λ z. sign_of s z ≡ true) (sym e) (sign_same s)) h
