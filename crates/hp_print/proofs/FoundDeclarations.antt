-- What is known of declarations that are read.
use Rattle.std.proofs.Common.{◌≡◌, ℕ, zero, suc, ◌+◌, ◌≤◌, pos, neg_ℤ, Bool, true, List, [], ◌∷◌, ◌++◌, map, length, Option, None, Some, refl, sym, ap, subst, arith, length-append}
use Rattle.std.proofs.lemmas.Bool.Decides.{nat_tests}
use Rattle.std.proofs.lemmas.List.{length-map}
use Rattle.hp_base.specs.declared.limit.What.{What}
use Rattle.hp_base.specs.declared.limit.What.TheVariants.{Depth}
use Rattle.hp_base.specs.declared.ty.Ty.{Ty}
use Rattle.hp_base.specs.declared.ty.Const.{Const}
use Rattle.hp_base.specs.declared.ty.Const.TheVariants as constant_kind
use Rattle.hp_lexer.specs.Written.{Written, IsWritable}
use Rattle.hp_lexer.specs.Spelling.{greatest_number}
use Rattle.hp_lexer.specs.declared.token.Keyword.TheVariants as key
use Rattle.hp_lexer.specs.declared.token.Sign.TheVariants as mark
use Rattle.hp_tree.specs.declared.decl.Cons.{Cons}
use Rattle.hp_tree.specs.declared.decl.Cons.TheVariants as cons
use Rattle.hp_tree.specs.Blocks.{Decl}
use Rattle.hp_parser.specs.Lexemes.{Lexeme, Kinds, is_ahead}
use Rattle.hp_parser.specs.Limits.{has_one, less}
use Rattle.hp_parser.specs.Notation.{Entry}
use Rattle.hp_parser.specs.Relation.{Phrase, One, Behind, behind, Names, names, names_in, one_each, OneEntry, one_alone, some_together, Entries, entries, Many, relation}
use Rattle.hp_parser.specs.Grammar as grammar
use Rattle.hp_parser.specs.BlockGrammar as grammar_of
use Rattle.hp_parser.specs.BlockGrammar.{declared, declared_last, clock_of, flat, entry_declarations, all_or_none}
use Rattle.hp_parser.specs.Tokens.{keyword, sign_of, small as is_small_name, number as is_number, constructor as is_constructor, type_name, type_of, constant_of, constructor_of, begins_declaration}
use Rattle.hp_print.specs.Tokens.{sign, small, type_token, cons_token, constant_tokens, led_by, joined_by, ended_by}
use Rattle.hp_print.specs.ExpressionTokens.{in_parentheses}
use Rattle.hp_print.specs.BlockTokens.{path_tokens, clock_tokens, typed_tokens, declaration_tokens, parameters_tokens, variables_tokens, inner_variables_tokens}
use Rattle.hp_print.proofs.Every.{Spelled, spelled-split, Every, every_token, every_say, every_give, every_either, every_many, every_led, every_convert, every_both, every_separated}
use Rattle.hp_print.proofs.FoundExpressions.{IsName, constant-writable}
use Rattle.hp_print.proofs.Numbers.{integer-natural}
use Rattle.hp_print.proofs.Readable.{GoodConstant, Path, GoodParts, GoodLocal, GoodParameterParts, GoodParameter, Each, Enough}
use Rattle.hp_print.proofs.Writable.{Writable, writable-append, word-writable, sign-writable, small-writable, number-writable, number-within, cons-writable, type-writable}

-- ---- lists of phrases

pub each-say : {A : Type 0} {P Q : A → Type 0} → ((x : A) → P x → Q x) → (xs : List A) → Each P xs → Each Q xs
each-say k [] h = tt
each-say k (x ∷ xs) h = (k x h.0, each-say k xs h.1)

pub each-append : {A : Type 0} (P : A → Type 0) (xs ys : List A) → Each P xs → Each P ys → Each P (xs ++ ys)
each-append P [] ys h k = k
each-append P (x ∷ xs) ys h k = (h.0, each-append P xs ys h.1 k)

pub each-flat : {A : Type 0} (P : A → Type 0) (xss : List (List A)) → Each (Each P) xss → Each P (flat xss)
each-flat P [] h = tt
each-flat P (xs ∷ xss) h = each-append P xs (flat xss) h.0 (each-flat P xss h.1)

module _ {A : Type 0} (w : Written) (f : A → List Written) (good : IsWritable w) where
  pub led-writable : (xs : List A) → Each (λ x. Writable (f x)) xs → Writable (led_by w (map f xs))
  led-writable [] h = tt
  led-writable (x ∷ xs) h = (good, writable-append (f x) _ h.0 (led-writable xs h.1))

  pub joined-writable : (xs : List A) → Each (λ x. Writable (f x)) xs → Writable (joined_by w (map f xs))
  joined-writable [] h = tt
  joined-writable (x ∷ xs) h = writable-append (f x) _ h.0 (led-writable xs h.1)

  pub ended-writable : (xs : List A) → Each (λ x. Writable (f x)) xs → Writable (ended_by w (map f xs))
  ended-writable [] h = tt
  ended-writable (x ∷ xs) h = writable-append (f x) _ h.0 (good, ended-writable xs h.1)

pub enclosed-writable : (ws : List Written) → Writable ws → Writable (in_parentheses ws)
enclosed-writable ws h = (sign-writable mark.Open, writable-append ws (sign mark.Close ∷ []) h (sign-writable mark.Close, tt))

-- a token in front, and one behind
pub every_behind : {A : Type 0} {P : Phrase A} {E : A → Type 0} (kinds : Kinds) → Every P E → Every (grammar.behind relation kinds P) E
every_behind {E = E} kinds e = every_convert _ E (λ r h. h.1) (every_both (every_token kinds) e)

pub every_before : {A : Type 0} {P : Phrase A} {E : A → Type 0} (kinds : Kinds) → Every P E → Every (grammar.before relation P kinds) E
every_before {E = E} kinds e = every_convert _ E (λ r h. h.0) (every_both e (every_token kinds))

-- ---- constants

abbrev FineConstant : Const → Type 0
FineConstant c = GoodConstant c × Writable (constant_tokens c)

natural-fine : (k : ℕ) → k ≤ greatest_number → FineConstant (constant_kind.I (pos k))
natural-fine k l = (l, subst Writable (sym (integer-natural k)) (number-writable k l, tt))

negative-fine : (k : ℕ) → k ≤ greatest_number → FineConstant (constant_kind.I (neg_ℤ (pos k)))
negative-fine zero l = natural-fine zero l
negative-fine (suc k) l = (l, (sign-writable mark.Minus, (number-writable (suc k) l, tt)))

cons-good : (c : Cons) → GoodConstant (constant_of c)
cons-good cons.False = tt
cons-good cons.True = tt
cons-good (cons.Named x) = tt

constant-found : Every (grammar_of.constant relation) FineConstant
constant-found =
    every_either Depth true is_constructor (every_convert _ FineConstant (λ t h. (cons-good (constructor_of t), constant-writable (constructor_of t) (cons-writable t h))) (every_token is_constructor))
    (every_either Depth true (sign_of mark.Minus)
    (every_convert _ FineConstant (λ t h. negative-fine _ (number-within t h)) (every_behind (sign_of mark.Minus) (every_token is_number)))
    (every_convert _ FineConstant (λ t h. natural-fine _ (number-within t h)) (every_token is_number)))

type-found : Every (grammar_of.type relation) (λ t. IsWritable (type_token t))
type-found = every_convert type_of _ type-writable (every_token type_name)

typed-found : Every (grammar_of.typed relation) (λ t. IsWritable (type_token t))
typed-found = every_behind (sign_of mark.Colon) type-found

-- ---- declarations

abbrev pub Words : Decl → Type 0
Words d = Writable (declaration_tokens d)

abbrev pub FineLocal : Decl → Type 0
FineLocal d = GoodLocal d × Words d

typed-writable : (x : List ℕ) (t : Ty) → IsWritable (small x) → IsWritable (type_token t) → Writable (typed_tokens x t)
typed-writable x t h k = (h, (sign-writable mark.Colon, (k, tt)))

-- a declaration with a first value
abbrev FineLast : Decl → Type 0
FineLast d = GoodLocal d × GoodParameter true d × Words d

last-found : Every (grammar_of.last_declaration relation) FineLast
last-found =
    every_convert _ FineLast
    (λ r h.
    let w = typed-writable r.0.bytes r.1.0 (small-writable r.0 h.0) h.1.0 in
    (h.1.1.0, h.1.1.0, (word-writable key.Last, writable-append (typed_tokens r.0.bytes r.1.0) (sign mark.Equal ∷ constant_tokens r.1.1) w (sign-writable mark.Equal, h.1.1.1))))
    (every_behind (keyword key.Last) (every_both (every_token is_small_name) (every_both typed-found (every_behind (sign_of mark.Equal) constant-found))))

abbrev FineStep : Cons × List ℕ → Type 0
FineStep s = IsWritable (cons_token s.0) × IsWritable (small s.1)

path-writable : (path : Path) → Each FineStep path → Writable (path_tokens path)
path-writable [] h = tt
path-writable (s ∷ path) h = (word-writable key.On, (h.0.0, (sign-writable mark.Open, (h.0.1, (sign-writable mark.Close, path-writable path h.1)))))

step-found : Every (grammar_of.step relation) FineStep
step-found =
    every_convert _ FineStep (λ r h. (cons-writable r.0 h.0, small-writable r.1 h.1))
    (every_behind (keyword key.On) (every_both (every_token is_constructor) (every_behind (sign_of mark.Open) (every_before (sign_of mark.Close) (every_token is_small_name)))))

clock-good : (path : Path) → GoodParts None (clock_of path)
clock-good [] = tt
clock-good (s ∷ path) = tt

clock-writable : (path : Path) → Writable (path_tokens path) → Writable (clock_tokens (clock_of path))
clock-writable [] h = tt
clock-writable (s ∷ path) h = h

-- names with one type and one clock
declared-fine : (t : Ty) (path : Path) → IsWritable (type_token t) → Each FineStep path → (ts : List Lexeme) → Each IsName ts → Each FineLocal (map (declared t (clock_of path)) ts)
declared-fine t path w p [] h = tt
declared-fine t path w p (n ∷ ts) h = (
  (clock-good path, writable-append (typed_tokens n.bytes t) _ (typed-writable n.bytes t (small-writable n h.0) w) (clock-writable path (path-writable path p))),
  declared-fine t path w p ts h.1,
)

names-found : Every (grammar_of.names relation) (Each IsName)
names-found =
    every_convert _ (Each IsName) (λ r h. (h.0, h.1))
    (every_both (every_token is_small_name) (every_many _ _ _ None (λ count. every_behind (sign_of mark.Comma) (every_token is_small_name))))

local-found : Every (grammar_of.local relation) (Each FineLocal)
local-found =
    every_either Depth true (keyword key.Last)
    (every_convert _ (Each FineLocal) (λ d h. ((h.0, h.2), tt)) last-found)
    (every_convert _ (Each FineLocal) (λ r h. declared-fine r.0.1 r.1 h.0.1 h.1 r.0.0 h.0.0)
    (every_both (every_both names-found typed-found) (every_many _ _ _ None (λ count. step-found))))

pub locals-found : Every (grammar_of.locals relation) (Each FineLocal)
locals-found = every_convert flat (Each FineLocal) (each-flat FineLocal) (every_separated (sign_of mark.Semicolon) begins_declaration local-found)

abbrev pub FineVariables : Option (List Decl) → Type 0
FineVariables o = Each FineLocal (all_or_none o)

pub variables-found : Every (grammar_of.variables relation) FineVariables
variables-found =
    every_either Depth true (keyword key.Var) (every_convert Some FineVariables (λ ds h. h) (every_behind (keyword key.Var) locals-found))
    (every_say FineVariables (λ o e. subst FineVariables (sym e) tt) (every_give None))

pub inner-variables-found : Every (grammar.optional relation (keyword key.Var) (grammar.before relation (grammar.behind relation (keyword key.Var) (grammar_of.locals relation)) (keyword key.In))) FineVariables
inner-variables-found =
    every_either Depth true (keyword key.Var) (every_convert Some FineVariables (λ ds h. h) (every_before (keyword key.In) (every_behind (keyword key.Var) locals-found)))
    (every_say FineVariables (λ o e. subst FineVariables (sym e) tt) (every_give None))

pub variables-writable : (ds : List Decl) → Each Words ds → Writable (variables_tokens ds)
variables-writable [] h = tt
variables-writable (d ∷ ds) h = (word-writable key.Var, ended-writable (sign mark.Semicolon) declaration_tokens (sign-writable mark.Semicolon) (d ∷ ds) h)

pub inner-variables-writable : (ds : List Decl) → Each Words ds → Writable (inner_variables_tokens ds)
inner-variables-writable [] h = tt
inner-variables-writable (d ∷ ds) h = writable-append (variables_tokens (d ∷ ds)) _ (variables-writable (d ∷ ds) h) (word-writable key.In, tt)

-- ---- numbers that are left

enough-add : (left : Option ℕ) (a b : ℕ) → Enough left a → Enough (less left a) b → Enough left (a + b)
enough-add None a b h k = tt
enough-add (Some n) a b h k = omega (arith, h, k)

has-one-is : (left : Option ℕ) → has_one left ≡ true → Enough left 1
has-one-is None h = tt
has-one-is (Some n) h = grind (arith, nat_tests)

pub enough-next : (left : Option ℕ) (n : ℕ) → has_one left ≡ true → Enough (less left 1) n → Enough left (suc n)
enough-next None n h k = tt
enough-next (Some m) n h k = omega (arith, has-one-is (Some m) h, k)

-- names that each take one
many-count : {A : Type 0} (kinds : Kinds) (phrase : Option ℕ → Phrase A) (left : Option ℕ) (us : List Lexeme) (xs : List A) → Many kinds kinds one_each phrase left us xs → Enough left (length xs)
many-count kinds phrase None us xs (Many.no_more) = tt
many-count kinds phrase (Some n) us xs (Many.no_more) = omega arith
many-count kinds phrase left us xs (Many.one_more {v = v} {others = others} p k l q) = enough-next left (length others) (l k) (many-count kinds phrase (less left 1) v others q)

-- ---- parameters

module _ (may : Bool) (begins : Kinds) (may-be : (us : List Lexeme) → is_ahead begins us ≡ true → may ≡ true) where
  abbrev FineParameter : Decl → Type 0
  FineParameter d = GoodParameter may d × Words d

  abbrev AreFine : Option ℕ → List Decl → Type 0
  AreFine left ds = Each FineParameter ds × Enough left (length ds)

  parameters-declared : (t : Ty) → IsWritable (type_token t) → (ts : List Lexeme) → Each IsName ts → Each FineParameter (map (declared t None) ts)
  parameters-declared t w [] h = tt
  parameters-declared t w (n ∷ ts) h =
      ((no-last may, writable-append (typed_tokens n.bytes t) [] (typed-writable n.bytes t (small-writable n h.0) w) tt), parameters-declared t w ts h.1)
    where
      no-last : (m : Bool) → GoodParameterParts m None None
      no-last m = tt

  abbrev one_entry : Option ℕ → Phrase (Entry Decl Lexeme Ty)
  one_entry left = OneEntry begins (grammar_of.last_declaration relation) (One is_small_name) (grammar_of.typed relation) left

  names-fine : (left : Option ℕ) (us : List Lexeme) (ts : List Lexeme) → Spelled us → Enough left 1 → Names (One is_small_name) left us ts → Each IsName ts × Enough left (length ts)
  names-fine left us ts h e (names {u = u} {v = v} {a = a} {others = others} p q) =
      let s = spelled-split u v h in
      let more = every_many (sign_of mark.Comma) (sign_of mark.Comma) one_each (less left 1) (λ count. every-led-name count) in
      (((every_token is_small_name).all u a s.0 p, more.all v others s.1 q), first-and left (length others) e (many-count _ _ (less left 1) v others q))
    where
      every-led-name : (count : Option ℕ) → Every (Behind (sign_of mark.Comma) (One is_small_name)) IsName
      every-led-name count = every_led (sign_of mark.Comma) (every_token is_small_name)

      first-and : (l : Option ℕ) (n : ℕ) → Enough l 1 → Enough (less l 1) n → Enough l (suc n)
      first-and None n x y = tt
      first-and (Some m) n x y = omega (arith, x, y)

  with-last : (m : Bool) (d : Decl) → m ≡ true → GoodParameter true d → GoodParameter m d
  with-last m d e g = subst (λ b. GoodParameter b d) (sym e) g

  length-declared : (t : Ty) (ts : List Lexeme) → length (map (declared t None) ts) ≡ length ts
  length-declared t [] = refl
  length-declared t (n ∷ ts) = ap suc (length-declared t ts)

  entry-fine : (left : Option ℕ) (us : List Lexeme) (e : Entry Decl Lexeme Ty) → Spelled us → Enough left 1 → one_entry left us e → AreFine left (entry_declarations e) × (length (entry_declarations e) ≡ names_in e)
  entry-fine left us e h n (one_alone {a = a} p k) =
      let f = last-found.all us a h p in
      ((((with-last may a (may-be us k) f.1, f.2), tt), n), refl)
  entry-fine left us e h n (some_together {u = u} {v = v} {bs = bs} {c = c} p q) =
      let s = spelled-split u v h in
      let f = names-fine left u bs s.0 n p in
      let t = typed-found.all v c s.1 q in
      ((parameters-declared c t bs f.0, subst (Enough left) (sym (length-declared c bs)) f.1), length-declared c bs)

  abbrev declarations_in : List (Entry Decl Lexeme Ty) → List Decl
  declarations_in es = flat (map entry_declarations es)

  join-fine : (left : Option ℕ) (e : Entry Decl Lexeme Ty) (es : List (Entry Decl Lexeme Ty)) → AreFine left (entry_declarations e) → length (entry_declarations e) ≡ names_in e
      → AreFine (less left (names_in e)) (declarations_in es) → AreFine left (declarations_in (e ∷ es))
  join-fine left e es f l g =
      let first = entry_declarations e in
      let rest = declarations_in es in
      let more : Enough (less left (length first)) (length rest) = subst (λ z. Enough (less left z) (length rest)) (sym l) g.1 in
      (each-append FineParameter first rest f.0 g.0, subst (Enough left) (sym (length-append first rest)) (enough-add left (length first) (length rest) f.1 more))

  entries-fine : (left : Option ℕ) (us : List Lexeme) (es : List (Entry Decl Lexeme Ty)) → Spelled us
      → Many (sign_of mark.Semicolon) (sign_of mark.Semicolon) names_in (λ count. Behind (sign_of mark.Semicolon) (one_entry count)) left us es → AreFine left (declarations_in es)
  entries-fine None us es h (Many.no_more) = (tt, tt)
  entries-fine (Some n) us es h (Many.no_more) = (tt, omega arith)
  entries-fine left us es h (Many.one_more {u = u} {v = v} {a = e} {others = others} p k l q) =
      let s = spelled-split u v h in
      let f = led-fine u s.0 p in
      join-fine left e others f.0 f.1 (entries-fine (less left (names_in e)) v others s.1 q)
    where
      led-fine : (ws : List Lexeme) → Spelled ws → Behind (sign_of mark.Semicolon) (one_entry left) ws e → AreFine left (entry_declarations e) × (length (entry_declarations e) ≡ names_in e)
      led-fine ws w (behind {u = x} t z y) = entry-fine left x e w.1 (has-one-is left (l k)) y

  pub declarations-found : (what : What) (left : Option ℕ) → Enough left 1 → Every (grammar_of.declarations relation what left begins) (AreFine left)
  declarations-found what left n = every_convert _ (AreFine left) (λ es h. h) (record { all = λ us es h p. by us es h p })
    where
      by : (us : List Lexeme) (es : List (Entry Decl Lexeme Ty)) → Spelled us → Entries begins (grammar_of.last_declaration relation) (One is_small_name) (grammar_of.typed relation) left us es → AreFine left (declarations_in es)
      by us es h (entries {u = u} {v = v} {e = e} {others = others} p q) =
          let s = spelled-split u v h in
          let f = entry-fine left u e s.0 n p in
          join-fine left e others f.0 f.1 (entries-fine (less left (names_in e)) v others s.1 q)

-- at least one declaration is read
pub some-declared : (what : What) (left : Option ℕ) (begins : Kinds) → Every (grammar_of.declarations relation what left begins) (λ ds. 1 ≤ length ds)
some-declared what left begins = every_convert _ (λ ds. 1 ≤ length ds) (λ es h. h) (record { all = λ us es h p. by us es p })
  where
    some-names : (u : List Lexeme) (bs : List Lexeme) → Names (One is_small_name) left u bs → 1 ≤ length bs
    some-names u bs (names p q) = omega arith

    some-entry : (u : List Lexeme) (e : Entry Decl Lexeme Ty) → OneEntry begins (grammar_of.last_declaration relation) (One is_small_name) (grammar_of.typed relation) left u e → 1 ≤ length (entry_declarations e)
    some-entry u e (one_alone p k) = omega arith
    some-entry u e (some_together {u = x} {bs = bs} {c = c} p q) = subst (λ z. 1 ≤ z) (sym (length-map bs (declared c None))) (some-names x bs p)

    by : (us : List Lexeme) (es : List (Entry Decl Lexeme Ty)) → Entries begins (grammar_of.last_declaration relation) (One is_small_name) (grammar_of.typed relation) left us es → 1 ≤ length (flat (map entry_declarations es))
    by us es (entries {u = u} {e = e} {others = others} p q) =
        let l = some-entry u e p in
        let n = length-append (entry_declarations e) (flat (map entry_declarations others)) in
        omega (arith, l, n)

pub parameters-writable : (ds : List Decl) → Each Words ds → Writable (parameters_tokens ds)
parameters-writable ds h = enclosed-writable _ (joined-writable (sign mark.Semicolon) declaration_tokens (sign-writable mark.Semicolon) ds h)
