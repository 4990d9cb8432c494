-- The notation as reading from left to right: what the tokens ahead come to, with the first one that is refused.
use Rattle.std.specs.Prelude.{ℕ, zero, suc, List, [], ◌∷◌, length, ◌++◌, Option, None, Some, Bool, true, false, ◌&&◌, not, if◌then◌else◌}
use Rattle.hp_base.specs.declared.limit.What.{What}
use Rattle.hp_base.specs.declared.limit.What.TheVariants.{Depth}
use Rattle.hp_lexer.specs.declared.token.Sign.TheVariants.{Comma, Semicolon}
use Rattle.hp_parser.specs.declared.fault.Fault.TheVariants.{Bad, Limit}
use Rattle.hp_parser.specs.Lexemes.{Lexeme, Kinds, is_ahead}
use Rattle.hp_parser.specs.Limits.{has_one, less, has_two, has_above}
use Rattle.hp_parser.specs.Notation.{Notation, Measured, Entry, alone, together}
use Rattle.hp_parser.specs.Outcomes.{Outcome, done, refused, ◌>>=◌}
use Rattle.hp_parser.specs.Relation.{one_each, names_in}
use Rattle.hp_parser.specs.Tokens.{sign_of}

abbrev pub Reader : Type 0 → Type 0
Reader A = List Lexeme → Outcome A

abbrev pub read_token : Kinds → Reader Lexeme
read_token kinds [] = refused Bad []
read_token kinds (t ∷ ts) = if kinds t.kind then done t ts else refused Bad (t ∷ ts)

-- one after another, where the second may depend on what the first gave
abbrev pub read_then : {A B : Type 0} → Reader A → (A → Reader B) → Reader B
read_then first second ts = first ts >>= λ r. second r.0 r.1

abbrev pub read_convert : {A B : Type 0} → (A → B) → Reader A → Reader B
read_convert f read = read_then read (λ a. done (f a))

abbrev pub read_both : {A B : Type 0} → Reader A → Reader B → Reader (A × B)
read_both first second = read_then first (λ a. read_convert (λ b. (a, b)) second)

abbrev pub read_behind : {A : Type 0} → Kinds → Reader A → Reader A
read_behind kinds read = read_then (read_token kinds) (λ t. read)

abbrev pub read_either : {A : Type 0} → What → Bool → Kinds → Reader A → Reader A → Reader A
read_either what room begins first second ts =
    if is_ahead begins ts then (if room then first ts else refused (Limit what) ts) else second ts

-- Reading again and again, while what is ahead begins an item: the next state comes from what the item gave. Each item has a
-- token, so there are not more than tokens.
pub record Loop (S A B : Type 0) : Type 0 where
  pub begins : S → Kinds
  -- an item that begins ahead is refused by a limit
  pub refuses : S → List Lexeme → Bool
  pub what : What
  pub item : S → Reader A
  pub next : S → A → S
  pub result : S → B

abbrev pub read_loop : {S A B : Type 0} → Loop S A B → ℕ → S → Reader B
read_loop l zero s ts = done (l.result s) ts
read_loop l (suc most) s ts =
    if is_ahead (l.begins s) ts
    then (if l.refuses s ts then refused (Limit l.what) ts else (l.item s ts >>= λ r. read_loop l most (l.next s r.0) r.1))
    else done (l.result s) ts

abbrev pub read_while : {S A B : Type 0} → Loop S A B → S → Reader B
read_while l s ts = read_loop l (length ts) s ts

-- what is left of a number, and what was read so far
pub record Taken (A : Type 0) : Type 0 where
  pub left : Option ℕ
  pub items : List A

abbrev pub items_loop : {A : Type 0} → What → Kinds → Kinds → (A → ℕ) → (Option ℕ → Reader A) → Loop (Taken A) A (List A)
items_loop what begins wants takes read = record {
  begins = λ s. begins;
  refuses = λ s ts. is_ahead wants ts && not (has_one s.left);
  what = what;
  item = λ s. read s.left;
  next = λ s a. record { left = less s.left (takes a); items = s.items ++ (a ∷ []) };
  result = λ s. s.items;
}

-- the items behind some that were read
abbrev pub read_items : {A : Type 0} → What → Kinds → Kinds → (A → ℕ) → (Option ℕ → Reader A) → Option ℕ → List A → Reader (List A)
read_items what begins wants takes read left items = read_while (items_loop what begins wants takes read) (record { left = left; items = items })

-- what was read so far, and whether more may come
pub record Listed (A : Type 0) : Type 0 where
  pub items : List A
  pub is_open : Bool

abbrev pub with_next : {A : Type 0} → Listed A → Option A → Listed A
with_next s None = record { items = s.items; is_open = false }
with_next s (Some a) = record { items = s.items ++ (a ∷ []); is_open = true }

abbrev pub only_if : Bool → Kinds → Kinds
only_if b kinds k = b && kinds k

abbrev pub separated_loop : {A : Type 0} → Kinds → Kinds → Reader A → Loop (Listed A) (Option A) (List A)
separated_loop separates begins read = record {
  begins = λ s. only_if s.is_open separates;
  refuses = λ s ts. false;
  what = Depth;
  item = λ s. read_behind separates (read_either Depth true begins (read_convert Some read) (done None));
  next = with_next;
  result = λ s. s.items;
}

abbrev pub read_separated : {A : Type 0} → Kinds → Kinds → Reader A → Reader (List A)
read_separated separates begins read = read_then read (λ a.
    read_while (separated_loop separates begins read) (record { items = a ∷ []; is_open = true }))

abbrev pub read_names : {A : Type 0} → What → Reader A → Option ℕ → Reader (List A)
read_names what read left = read_then read (λ a.
    read_items what (sign_of Comma) (sign_of Comma) one_each (λ count. read_behind (sign_of Comma) read) (less left 1) (a ∷ []))

abbrev pub read_entry : {A B C : Type 0} → What → Kinds → Reader A → Reader B → Reader C → Option ℕ → Reader (Entry A B C)
read_entry what begins by_itself name shared left = read_either what true begins
    (read_convert alone by_itself)
    (read_then (read_names what name left) (λ bs. read_convert (together bs) shared))

abbrev pub read_entries : {A B C : Type 0} → What → Option ℕ → Kinds → Reader A → Reader B → Reader C → Reader (List (Entry A B C))
read_entries what left begins by_itself name shared = read_then (read_entry what begins by_itself name shared left) (λ e.
    read_items what (sign_of Semicolon) (sign_of Semicolon) names_in (λ count. read_behind (sign_of Semicolon) (read_entry what begins by_itself name shared count))
    (less left (names_in e)) (e ∷ []))

-- what may stand behind an operand
abbrev pub read_suffix : {A : Type 0} → Kinds → (Measured → A → Measured) → Option ℕ → Reader A → Measured → Reader Measured
read_suffix begins join depth suffix m = read_either Depth (has_above depth m.height) begins (read_convert (join m) suffix) (done m)

abbrev pub suffix_loop : {A : Type 0} → Kinds → (Measured → A → Measured) → Option ℕ → Reader A → Loop Measured A Measured
suffix_loop begins join depth suffix = record {
  begins = λ m. begins;
  refuses = λ m ts. not (has_above depth m.height);
  what = Depth;
  item = λ m. suffix;
  next = join;
  result = λ m. m;
}

abbrev pub reading : Notation Reader
reading = record {
  Depth = Option ℕ;
  Count = Option ℕ;
  unlimited = None;
  Room = Bool;
  always = true;
  deeper = has_two;
  give = done;
  token = read_token;
  convert = read_convert;
  both = read_both;
  either_within = read_either;
  many_within = λ what begins wants takes left read. read_items what begins wants takes (λ count. read) left [];
  separated = read_separated;
  entries = read_entries;
  suffix = λ begins join depth first suffix. read_then first (read_suffix begins join depth suffix);
  suffixes = λ begins join depth first suffix. read_then first (read_while (suffix_loop begins join depth suffix));
}
