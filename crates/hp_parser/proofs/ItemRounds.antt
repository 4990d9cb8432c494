-- Constructors and items, round by round.
use Rattle.std.proofs.Common.{◌≡◌, ℕ, ◌-◌, ◌≤◌, Bool, true, false, ◌&&◌, not, if◌then◌else◌, List, [], ◌∷◌, ◌++◌, map, Option, Some, refl, sym, ap, ◌∙◌}
use Rattle.std.proofs.lemmas.Bool.{le-leb}
use Rattle.hp_base.specs.declared.limit.What.TheVariants.{Constructors, Types}
use Rattle.hp_lexer.specs.declared.token.Keyword.TheVariants as word
use Rattle.hp_lexer.specs.declared.token.Sign.TheVariants.{Bar}
use Rattle.hp_tree.specs.declared.program.Item.{Item}
use Rattle.hp_parser.specs.declared.fault.Fault.{Fault}
use Rattle.hp_parser.specs.declared.fault.Fault.TheVariants.{Limit}
use Rattle.hp_parser.specs.declared.reader.Word.{Word}
use Rattle.hp_parser.specs.Lexemes.{Lexeme, is_ahead}
use Rattle.hp_parser.specs.Limits.{has_one, less}
use Rattle.hp_parser.specs.Outcomes.{Outcome, done, refused, ◌>>=◌}
use Rattle.hp_parser.specs.Tokens.{sign_of, capital, keyword, begins_item}
use Rattle.hp_parser.specs.Reading.{Reader, read_token, read_both, read_items}
use Rattle.hp_parser.specs.Seen.{word_seen}
use Rattle.hp_parser.specs.ProgramGrammar.{types_in}
use Rattle.hp_parser.specs.ItemReading.{next_constructor_read, constructor_left, constructors_read, item_read, item_left}
use Rattle.hp_parser.specs.Nesting.{expression_read, nested}
use Rattle.hp_parser.specs.Programs.{read_program}
use Rattle.hp_parser.proofs.ParseLaws.{item_way, item_within, within_strict}
use Rattle.hp_parser.proofs.Rounds.{Strict, token_strict, strict_falls, both_strict, convert_strict}
use Rattle.hp_parser.proofs.CountRounds.{first_counted, counted_ends, counted_refuses, counted_steps, counted_pushed}

pub constructor_strict : Strict next_constructor_read
constructor_strict = convert_strict (λ r. r.1) (read_both (read_token (sign_of Bar)) (read_token capital))
    (both_strict (read_token (sign_of Bar)) (read_token capital) (token_strict (sign_of Bar)) (strict_falls (read_token capital) (token_strict capital)))

abbrev pub one : Lexeme → ℕ
one t = 1

abbrev pub constructors_from : Option ℕ → List Lexeme → Reader (List Lexeme)
constructors_from left items = read_items Constructors (sign_of Bar) (sign_of Bar) one (λ count. next_constructor_read) left items

pub constructors_begin : (ts : List Lexeme) → constructors_read ts ≡ (read_token capital ts >>= λ r. constructors_from (Some 63) (r.0 ∷ []) r.1)
constructors_begin ts = first_counted Constructors (sign_of Bar) (sign_of Bar) one (λ count. next_constructor_read) (λ count. constructor_strict) (read_token capital) (Some 63) ts

pub constructors_end : (left : ℕ) (items : List Lexeme) (ts : List Lexeme) → is_ahead (sign_of Bar) ts ≡ false → constructors_from (Some left) items ts ≡ done items ts
constructors_end left items ts h = counted_ends Constructors (sign_of Bar) (sign_of Bar) one (λ count. next_constructor_read) (λ count. constructor_strict) (Some left) items ts h

-- what is read where one may be left
left_one : (n : ℕ) → 1 ≤ n → has_one (Some n) ≡ true
left_one n h = le-leb 1 n h

with_room : (ahead one : Bool) → ahead ≡ true → one ≡ true → (ahead && not one) ≡ false
with_room true true h k = refl
with_room true false h k = absurd cc
with_room false one h k = absurd cc

pub constructors_pushed : (left : ℕ) (words : List Word) (w : Word) (ts rest : List Lexeme) → 1 ≤ left → is_ahead (sign_of Bar) ts ≡ true → constructor_left left ts ≡ done (word_seen w) rest →
    constructors_from (Some (left - 1)) (map word_seen (words ++ (w ∷ []))) rest ≡ constructors_from (Some left) (map word_seen words) ts
constructors_pushed left words w ts rest some h e =
    let room = left_one left some in
    let read : next_constructor_read ts ≡ done (word_seen w) rest = sym (ap (λ d. if d then next_constructor_read ts else refused (Limit Constructors) ts) room) ∙ e in
    counted_pushed Constructors (sign_of Bar) (sign_of Bar) one (λ count. next_constructor_read) (λ count. constructor_strict) word_seen (Some left) words w ts rest h
    (with_room (is_ahead (sign_of Bar) ts) (has_one (Some left)) h room) read

-- where reading one stops, reading all stops
stopped_by : (left : ℕ) (items : List Lexeme) (ts : List Lexeme) (fault : Fault) (rest : List Lexeme) → is_ahead (sign_of Bar) ts ≡ true → (d : Bool) → has_one (Some left) ≡ d →
    (if d then next_constructor_read ts else refused (Limit Constructors) ts) ≡ refused fault rest → constructors_from (Some left) items ts ≡ refused fault rest
stopped_by left items ts fault rest h true k e =
    counted_steps Constructors (sign_of Bar) (sign_of Bar) one (λ count. next_constructor_read) (λ count. constructor_strict) (Some left) items ts h (with_room (is_ahead (sign_of Bar) ts) (has_one (Some left)) h k)
    ∙ ap (λ o. o >>= λ r. constructors_from (less (Some left) 1) (items ++ (r.0 ∷ [])) r.1) e
stopped_by left items ts fault rest h false k e =
    let all : constructors_from (Some left) items ts ≡ refused (Limit Constructors) ts =
    counted_refuses Constructors (sign_of Bar) (sign_of Bar) one (λ count. next_constructor_read) (λ count. constructor_strict) (Some left) items ts h (ap (λ b. b && not (has_one (Some left))) h ∙ ap not k) in
    all ∙ ap (λ (o : Outcome Lexeme). o >>= λ r. constructors_from (less (Some left) 1) (items ++ (r.0 ∷ [])) r.1) e

pub constructors_stopped : (left : ℕ) (items : List Lexeme) (ts : List Lexeme) (fault : Fault) (rest : List Lexeme) → is_ahead (sign_of Bar) ts ≡ true → constructor_left left ts ≡ refused fault rest →
    constructors_from (Some left) items ts ≡ refused fault rest
constructors_stopped left items ts fault rest h e = stopped_by left items ts fault rest h (has_one (Some left)) refl e

-- ---- items

pub item_strict : Strict item_read
unfolding expression_read nested
item_strict = within_strict item_way item_within

abbrev pub items_from : Option ℕ → List Item → Reader (List Item)
items_from left items = read_items Types begins_item (keyword word.Type) types_in (λ count. item_read) left items

pub items_begin : (ts : List Lexeme) → read_program ts ≡ items_from (Some 1000) [] ts
unfolding expression_read nested
items_begin ts = refl

pub items_end : (left : ℕ) (items : List Item) (ts : List Lexeme) → is_ahead begins_item ts ≡ false → items_from (Some left) items ts ≡ done items ts
items_end left items ts h = counted_ends Types begins_item (keyword word.Type) types_in (λ count. item_read) (λ count. item_strict) (Some left) items ts h

abbrev refuses_type : ℕ → List Lexeme → Bool
refuses_type left ts = is_ahead (keyword word.Type) ts && not (has_one (Some left))

left_read_by : (left : ℕ) (ts : List Lexeme) (d : Bool) → refuses_type left ts ≡ d → (a : Item) (rest : List Lexeme) →
    (if d then refused (Limit Types) ts else item_read ts) ≡ done a rest → (refuses_type left ts ≡ false) × (item_read ts ≡ done a rest)
left_read_by left ts true k a rest e = absurd (let no : refused (Limit Types) ts ≡ done a rest = e in cc)
left_read_by left ts false k a rest e = (k, e)

pub item_left_strict : (left : ℕ) → Strict (item_left left)
item_left_strict left ts a rest e = item_strict ts a rest (left_read_by left ts (refuses_type left ts) refl a rest e).1

pub items_pushed : (left : ℕ) (items : List Item) (a : Item) (ts rest : List Lexeme) → is_ahead begins_item ts ≡ true → item_left left ts ≡ done a rest →
    items_from (Some (left - types_in a)) (items ++ (a ∷ [])) rest ≡ items_from (Some left) items ts
items_pushed left items a ts rest h e =
    let r = left_read_by left ts (refuses_type left ts) refl a rest e in
    sym (counted_steps Types begins_item (keyword word.Type) types_in (λ count. item_read) (λ count. item_strict) (Some left) items ts h r.0
    ∙ ap (λ o. o >>= λ s. items_from (less (Some left) (types_in s.0)) (items ++ (s.0 ∷ [])) s.1) r.1)

items_stopped_by : (left : ℕ) (items : List Item) (ts : List Lexeme) (fault : Fault) (rest : List Lexeme) → is_ahead begins_item ts ≡ true → (d : Bool) → refuses_type left ts ≡ d →
    (if d then refused (Limit Types) ts else item_read ts) ≡ refused fault rest → items_from (Some left) items ts ≡ refused fault rest
items_stopped_by left items ts fault rest h true k e =
    counted_refuses Types begins_item (keyword word.Type) types_in (λ count. item_read) (λ count. item_strict) (Some left) items ts h k
    ∙ ap (λ (o : Outcome Item). o >>= λ s. items_from (less (Some left) (types_in s.0)) (items ++ (s.0 ∷ [])) s.1) e
items_stopped_by left items ts fault rest h false k e =
    counted_steps Types begins_item (keyword word.Type) types_in (λ count. item_read) (λ count. item_strict) (Some left) items ts h k
    ∙ ap (λ o. o >>= λ s. items_from (less (Some left) (types_in s.0)) (items ++ (s.0 ∷ [])) s.1) e

pub items_stopped : (left : ℕ) (items : List Item) (ts : List Lexeme) (fault : Fault) (rest : List Lexeme) → is_ahead begins_item ts ≡ true → item_left left ts ≡ refused fault rest →
    items_from (Some left) items ts ≡ refused fault rest
items_stopped left items ts fault rest h e = items_stopped_by left items ts fault rest h (refuses_type left ts) refl e

pub names_seen : (words : List Word) → map (λ (t : Lexeme). t.bytes) (map word_seen words) ≡ map (λ (w : Word). w.text.now) words
names_seen [] = refl
names_seen (w ∷ words) = ap (λ z. w.text.now ∷ z) (names_seen words)
