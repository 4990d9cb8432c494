-- Declarations, round by round.
use Rattle.std.proofs.Common.{◌≡◌, ℕ, suc, ◌+◌, ◌-◌, ◌<◌, Bool, true, false, ◌&&◌, not, List, [], ◌∷◌, ◌++◌, length, map, Option, None, Some, if◌then◌else◌, refl, sym, ap, ◌∙◌, arith, append_assoc, length-append}
use Rattle.std.proofs.lemmas.List.{append-nil}
use Rattle.hp_base.specs.declared.limit.What.{What}
use Rattle.hp_base.specs.declared.limit.What.TheVariants.{Depth}
use Rattle.hp_base.specs.declared.ty.Ty.{Ty}
use Rattle.hp_base.specs.declared.ty.Const.{Const}
use Rattle.hp_lexer.specs.declared.token.Keyword.TheVariants as word
use Rattle.hp_lexer.specs.declared.token.Sign.TheVariants as sign
use Rattle.hp_tree.specs.declared.decl.Cons.{Cons}
use Rattle.hp_tree.specs.Blocks.{Decl}
use Rattle.hp_parser.specs.declared.fault.Fault.{Fault}
use Rattle.hp_parser.specs.declared.fault.Fault.TheVariants.{Limit}
use Rattle.hp_parser.specs.declared.reader.Word.{Word}
use Rattle.hp_parser.specs.Seen.{word_seen}
use Rattle.hp_parser.specs.Lexemes.{Lexeme, is_ahead}
use Rattle.hp_parser.specs.Limits.{has_one, less}
use Rattle.hp_parser.specs.Nesting.{if_left, last_if, entry_read}
use Rattle.hp_parser.specs.Notation.{Entry, alone, together}
use Rattle.hp_parser.specs.Outcomes.{Outcome, done, refused, ◌>>=◌}
use Rattle.hp_parser.specs.BlockGrammar.{type, names, typed, constant, declared, declared_last, last_declaration, declarations, entry_declarations, step, clock_of, local, locals, flat, Path}
use Rattle.hp_parser.specs.Grammar.{behind, before, either, many}
use Rattle.hp_parser.specs.Relation.{one_each, names_in}
use Rattle.hp_parser.specs.Tokens.{begins_declaration, keyword, sign_of, small, number, constructor, type_name, constructor_of, constant_of, type_of, positive, negative}
use Rattle.hp_parser.specs.Reading.{Reader, reading, Loop, read_loop, read_while, read_token, read_then, read_convert, read_both, read_behind, read_either, read_names, read_entry, items_loop, Taken, Listed, separated_loop, with_next}
use Rattle.hp_parser.proofs.Rounds.{Falls, Strict, token_strict, strict_falls, then_falls, convert_falls, both_strict, convert_strict, done_falls, many_from, many_ends, many_pushed, ends, steps, refuses}
use Rattle.hp_parser.proofs.FallLaws.{token_falls, both_falls, either_falls, behind_strict, behind_falls, before_falls, read_behind_strict, many_falls, while_falls, separated_falls, simulated, limited_from, limited_ends, limited_refused, limited_pushed, add_loop, add_from, add_ends, add_closes, add_refused, add_more}

-- ---- what falls

pub type_falls : Falls (type reading)
type_falls = convert_falls type_of (read_token type_name) (token_falls type_name)

pub typed_falls : Falls (typed reading)
typed_falls = behind_falls (sign_of sign.Colon) (type reading) type_falls

abbrev next_name : Reader Lexeme
next_name = behind reading (sign_of sign.Comma) (read_token small)

next_name_falls : Falls next_name
next_name_falls = behind_falls (sign_of sign.Comma) (read_token small) (token_falls small)

pub names_falls : Falls (names reading)
names_falls = convert_falls (λ (r : Lexeme × List Lexeme). r.0 ∷ r.1) (read_both (read_token small) (many reading (sign_of sign.Comma) next_name))
    (both_falls (read_token small) (many reading (sign_of sign.Comma) next_name) (token_falls small) (many_falls (sign_of sign.Comma) next_name next_name_falls))

abbrev minus_number : Reader Lexeme
minus_number = behind reading (sign_of sign.Minus) (read_token number)

pub constant_falls : Falls (constant reading)
constant_falls = either_falls Depth true constructor (read_convert (λ t. constant_of (constructor_of t)) (read_token constructor))
    (either reading (sign_of sign.Minus) (read_convert negative minus_number) (read_convert positive (read_token number)))
    (convert_falls (λ t. constant_of (constructor_of t)) (read_token constructor) (token_falls constructor))
    (either_falls Depth true (sign_of sign.Minus) (read_convert negative minus_number) (read_convert positive (read_token number))
    (convert_falls negative minus_number (behind_falls (sign_of sign.Minus) (read_token number) (token_falls number)))
    (convert_falls positive (read_token number) (token_falls number)))

abbrev first_value : Reader Const
first_value = behind reading (sign_of sign.Equal) (constant reading)

abbrev last_parts : Reader (Lexeme × (Ty × Const))
last_parts = read_both (read_token small) (read_both (typed reading) first_value)

pub last_strict : Strict (last_declaration reading)
last_strict = convert_strict (λ r. declared_last r.0 r.1.0 r.1.1) (behind reading (keyword word.Last) last_parts)
    (behind_strict (keyword word.Last) last_parts (both_falls (read_token small) (read_both (typed reading) first_value) (token_falls small)
    (both_falls (typed reading) first_value typed_falls (behind_falls (sign_of sign.Equal) (constant reading) constant_falls))))

-- ---- the steps of a clock

abbrev step_name : Reader Lexeme
step_name = behind reading (sign_of sign.Open) (before reading (read_token small) (sign_of sign.Close))

pub step_strict : Strict (step reading)
step_strict = convert_strict (λ r. (constructor_of r.0, r.1.bytes)) (behind reading (keyword word.On) (read_both (read_token constructor) step_name))
    (behind_strict (keyword word.On) (read_both (read_token constructor) step_name) (both_falls (read_token constructor) step_name (token_falls constructor)
    (behind_falls (sign_of sign.Open) (before reading (read_token small) (sign_of sign.Close)) (before_falls (read_token small) (sign_of sign.Close) (token_falls small)))))

pub path_ends : (path : Path) (ts : List Lexeme) → is_ahead (keyword word.On) ts ≡ false → many_from (keyword word.On) (step reading) path ts ≡ done path ts
path_ends = many_ends (keyword word.On) (step reading) step_strict

same_map : {A : Type 0} (xs : List A) → map (λ x. x) xs ≡ xs
same_map [] = refl
same_map (x ∷ xs) = ap (λ z. x ∷ z) (same_map xs)

pub path_pushed : (path : Path) (s : Cons × List ℕ) (ts rest : List Lexeme) → is_ahead (keyword word.On) ts ≡ true → step reading ts ≡ done s rest →
    many_from (keyword word.On) (step reading) (path ++ (s ∷ [])) rest ≡ many_from (keyword word.On) (step reading) path ts
path_pushed path s ts rest h e =
    ap (λ z. many_from (keyword word.On) (step reading) z rest) (sym (same_map (path ++ (s ∷ []))))
    ∙ many_pushed (keyword word.On) (step reading) step_strict (λ x. x) path s ts rest h e
    ∙ ap (λ z. many_from (keyword word.On) (step reading) z ts) (same_map path)

-- ---- local declarations

abbrev named_type : Reader (List Lexeme × Ty)
named_type = read_both (names reading) (typed reading)

abbrev clock_read : Reader Path
clock_read = many reading (keyword word.On) (step reading)

clocked_falls : Falls (read_both named_type clock_read)
clocked_falls = both_falls named_type clock_read (both_falls (names reading) (typed reading) names_falls typed_falls)
    (many_falls (keyword word.On) (step reading) (strict_falls (step reading) step_strict))

pub local_falls : Falls (local reading)
local_falls = either_falls Depth true (keyword word.Last) (read_convert (λ d. d ∷ []) (last_declaration reading))
    (read_convert (λ r. map (declared r.0.1 (clock_of r.1)) r.0.0) (read_both named_type clock_read))
    (convert_falls (λ d. d ∷ []) (last_declaration reading) (strict_falls (last_declaration reading) last_strict))
    (convert_falls (λ r. map (declared r.0.1 (clock_of r.1)) r.0.0) (read_both named_type clock_read) clocked_falls)

pub declared_words : (ty : Ty) (clock : Option Path) (words : List Word) → map (declared ty clock) (map word_seen words) ≡ map (λ w. declared ty clock (word_seen w)) words
declared_words ty clock [] = refl
declared_words ty clock (w ∷ words) = ap (λ z. declared ty clock (word_seen w) ∷ z) (declared_words ty clock words)

abbrev clocked : List Lexeme → Ty → Outcome (Option Path) → Outcome (List Decl)
clocked ns ty o = o >>= λ c. done (map (declared ty c.0) ns) c.1

abbrev with_type : List Lexeme → Outcome Ty → Outcome (List Lexeme × Ty)
with_type ns o = o >>= λ b. done (ns, b.0) b.1

abbrev with_clock : (List Lexeme × Ty) → Outcome Path → Outcome ((List Lexeme × Ty) × Path)
with_clock nt o = o >>= λ b. done (nt, b.0) b.1

abbrev to_declarations : Outcome ((List Lexeme × Ty) × Path) → Outcome (List Decl)
to_declarations o = o >>= λ r. done (map (declared r.0.0.1 (clock_of r.0.1)) r.0.0.0) r.1

clocked_by : (ns : List Lexeme) (ty : Ty) (o : Outcome Path) → to_declarations (with_clock (ns, ty) o) ≡ clocked ns ty (o >>= λ c. done (clock_of c.0) c.1)
clocked_by ns ty (done path rest) = refl
clocked_by ns ty (refused fault rest) = refl

typed_by : (ns : List Lexeme) (o : Outcome Ty) → to_declarations (with_type ns o >>= λ r. with_clock r.0 (clock_read r.1)) ≡ (o >>= λ s. clocked ns s.0 (read_convert clock_of clock_read s.1))
typed_by ns (done ty rest) = clocked_by ns ty (clock_read rest)
typed_by ns (refused fault rest) = refl

named_by : (o : Outcome (List Lexeme)) →
    to_declarations ((o >>= λ r. with_type r.0 (typed reading r.1)) >>= λ r. with_clock r.0 (clock_read r.1))
    ≡ (o >>= λ r. typed reading r.1 >>= λ s. clocked r.0 s.0 (read_convert clock_of clock_read s.1))
named_by (done ns rest) = typed_by ns (typed reading rest)
named_by (refused fault rest) = refl

-- names with their type and their clock
pub local_parts : (ts : List Lexeme) → is_ahead (keyword word.Last) ts ≡ false →
    local reading ts ≡ (names reading ts >>= λ r. typed reading r.1 >>= λ s. clocked r.0 s.0 (read_convert clock_of clock_read s.1))
local_parts ts h =
    ap (λ d. if d then read_convert (λ d. d ∷ []) (last_declaration reading) ts else read_convert (λ r. map (declared r.0.1 (clock_of r.1)) r.0.0) (read_both named_type clock_read) ts) h
    ∙ named_by (names reading ts)

pub locals_falls : Falls (locals reading)
locals_falls = convert_falls flat (reading.separated (sign_of sign.Semicolon) begins_declaration (local reading)) (separated_falls (sign_of sign.Semicolon) begins_declaration (local reading) local_falls)

flat-append : {A : Type 0} (xss : List (List A)) (xs : List A) → flat (xss ++ (xs ∷ [])) ≡ flat xss ++ xs
flat-append [] xs = append-nil xs
flat-append (ys ∷ xss) xs = ap (λ z. ys ++ z) (flat-append xss xs) ∙ sym (append_assoc ys (flat xss) xs)

abbrev local_next : Listed Decl → Option (List Decl) → Listed Decl
local_next s None = record { items = s.items; is_open = false }
local_next s (Some ds) = record { items = s.items ++ ds; is_open = true }

abbrev pub locals_from : List Decl → Reader (List Decl)
locals_from = add_from (sign_of sign.Semicolon) begins_declaration (local reading) local_falls local_next (λ items ds. items ++ ds) (λ items. refl) (λ items ds. refl)

abbrev flattened : Listed (List Decl) → Listed Decl
flattened s = record { items = flat s.items; is_open = s.is_open }

same_convert : {A : Type 0} (o : Outcome A) → o ≡ (o >>= λ r. done r.0 r.1)
same_convert (done a rest) = refl
same_convert (refused fault rest) = refl

next_flat : (s : Listed (List Decl)) (a : Option (List Decl)) → local_next (flattened s) a ≡ flattened (with_next s a)
next_flat s None = refl
next_flat s (Some ds) = ap (λ z. record { items = z; is_open = true }) (sym (flat-append s.items ds))

abbrev locals_loop : Loop (Listed Decl) (Option (List Decl)) (List Decl)
locals_loop = add_loop (sign_of sign.Semicolon) begins_declaration (local reading) local_falls local_next (λ items ds. items ++ ds) (λ items. refl) (λ items ds. refl)

abbrev local_loop : Loop (Listed (List Decl)) (Option (List Decl)) (List (List Decl))
local_loop = separated_loop (sign_of sign.Semicolon) begins_declaration (local reading)

locals_simulated : (s : Listed (List Decl)) (ts : List Lexeme) → read_while locals_loop (flattened s) ts ≡ read_convert flat (read_while local_loop s) ts
locals_simulated = simulated local_loop locals_loop flattened (λ a. a) flat (λ s ts. refl) (λ s ts. refl) refl (λ s ts. same_convert (local_loop.item s ts)) next_flat (λ s. refl)

locals_by : (o : Outcome (List Decl)) → ((o >>= λ r. read_while local_loop (record { items = r.0 ∷ []; is_open = true }) r.1) >>= λ r. done (flat r.0) r.1) ≡ (o >>= λ r. locals_from r.0 r.1)
locals_by (refused fault rest) = refl
locals_by (done ds rest) =
    sym (locals_simulated (record { items = ds ∷ []; is_open = true }) rest)
    ∙ ap (λ z. read_while locals_loop (record { items = z; is_open = true }) rest) (append-nil ds)

pub locals_begin : (ts : List Lexeme) → locals reading ts ≡ (local reading ts >>= λ r. locals_from r.0 r.1)
locals_begin ts = locals_by (local reading ts)

pub locals_end : (items : List Decl) (ts : List Lexeme) → is_ahead (sign_of sign.Semicolon) ts ≡ false → locals_from items ts ≡ done items ts
locals_end = add_ends (sign_of sign.Semicolon) begins_declaration (local reading) local_falls local_next (λ items ds. items ++ ds) (λ items. refl) (λ items ds. refl)

pub locals_close : (items : List Decl) (ts : List Lexeme) (t : Lexeme) (middle : List Lexeme) → read_token (sign_of sign.Semicolon) ts ≡ done t middle → is_ahead begins_declaration middle ≡ false → locals_from items ts ≡ done items middle
locals_close = add_closes (sign_of sign.Semicolon) begins_declaration (local reading) local_falls local_next (λ items ds. items ++ ds) (λ items. refl) (λ items ds. refl)

pub locals_refused : (items : List Decl) (ts : List Lexeme) (t : Lexeme) (middle : List Lexeme) (fault : Fault) (rest : List Lexeme) → read_token (sign_of sign.Semicolon) ts ≡ done t middle → is_ahead begins_declaration middle ≡ true →
    local reading middle ≡ refused fault rest → locals_from items ts ≡ refused fault rest
locals_refused = add_refused (sign_of sign.Semicolon) begins_declaration (local reading) local_falls local_next (λ items ds. items ++ ds) (λ items. refl) (λ items ds. refl)

pub locals_more : (items : List Decl) (ts : List Lexeme) (t : Lexeme) (middle : List Lexeme) (ds : List Decl) (rest : List Lexeme) → read_token (sign_of sign.Semicolon) ts ≡ done t middle → is_ahead begins_declaration middle ≡ true →
    local reading middle ≡ done ds rest → locals_from (items ++ ds) rest ≡ locals_from items ts
locals_more = add_more (sign_of sign.Semicolon) begins_declaration (local reading) local_falls local_next (λ items ds. items ++ ds) (λ items. refl) (λ items ds. refl)

pub locals_shrinks : (ts : List Lexeme) (t : Lexeme) (middle : List Lexeme) (ds : List Decl) (rest : List Lexeme) → read_token (sign_of sign.Semicolon) ts ≡ done t middle → local reading middle ≡ done ds rest → length rest < length ts
locals_shrinks ts t middle ds rest e k = omega (arith, token_strict (sign_of sign.Semicolon) ts t middle e, local_falls middle ds rest k)

-- ---- names of which a number is left

abbrev pub next_behind : Reader Lexeme
next_behind = read_behind (sign_of sign.Comma) (read_token small)

pub next_behind_strict : Strict next_behind
next_behind_strict = read_behind_strict (sign_of sign.Comma) (read_token small) (token_falls small)

abbrev pub names_from : What → Option ℕ → List Lexeme → Reader (List Lexeme)
names_from what = limited_from what (sign_of sign.Comma) one_each (λ count. next_behind) (λ count. next_behind_strict)

pub within_end : (what : What) (left : Option ℕ) (items : List Lexeme) (ts : List Lexeme) → is_ahead (sign_of sign.Comma) ts ≡ false → names_from what left items ts ≡ done items ts
within_end what = limited_ends what (sign_of sign.Comma) one_each (λ count. next_behind) (λ count. next_behind_strict)

pub within_refused : (what : What) (left : Option ℕ) (items : List Lexeme) (ts rest : List Lexeme) (fault : Fault) → is_ahead (sign_of sign.Comma) ts ≡ true → if_left what left next_behind ts ≡ refused fault rest → names_from what left items ts ≡ refused fault rest
within_refused what = limited_refused what (sign_of sign.Comma) one_each (λ count. next_behind) (λ count. next_behind_strict)

pub within_pushed : (what : What) (left : Option ℕ) (words : List Word) (w : Word) (ts rest : List Lexeme) → is_ahead (sign_of sign.Comma) ts ≡ true → if_left what left next_behind ts ≡ done (word_seen w) rest →
    names_from what (less left 1) (map word_seen (words ++ (w ∷ []))) rest ≡ names_from what left (map word_seen words) ts
within_pushed what left words w ts rest h e = limited_pushed what (sign_of sign.Comma) one_each (λ count. next_behind) (λ count. next_behind_strict) word_seen left words w ts rest h e

pub within_begin : (what : What) (left : Option ℕ) (ts : List Lexeme) → read_names what (read_token small) left ts ≡ (read_token small ts >>= λ r. names_from what (less left 1) (r.0 ∷ []) r.1)
within_begin what left ts = refl

shrinks_by : {A : Type 0} (what : What) (read : Reader A) (strict : Strict read) (ts : List Lexeme) (a : A) (rest : List Lexeme) (one : Bool) → (if one then read ts else refused (Limit what) ts) ≡ done a rest → length rest < length ts
shrinks_by what read strict ts a rest true e = strict ts a rest e
shrinks_by what read strict ts a rest false e = absurd cc

pub within_shrinks : (what : What) (left : Option ℕ) (ts : List Lexeme) (t : Lexeme) (rest : List Lexeme) → if_left what left next_behind ts ≡ done t rest → length rest < length ts
within_shrinks what left ts t rest e = shrinks_by what next_behind next_behind_strict ts t rest (has_one left) e

-- ---- entries

abbrev entry : What → Bool → Option ℕ → Reader (Entry Decl Lexeme Ty)
entry what may_last left = entry_read what may_last left

last_if_falls : (what : What) (may_last : Bool) (left : Option ℕ) → Falls (entry what may_last left)
last_if_falls what may_last left = either_falls what true (last_if may_last) (read_convert alone (last_declaration reading))
    (read_then (read_names what (read_token small) left) (λ bs. read_convert (together bs) (typed reading)))
    (convert_falls alone (last_declaration reading) (strict_falls (last_declaration reading) last_strict))
    (then_falls (read_names what (read_token small) left) (λ bs. read_convert (together bs) (typed reading))
    (then_falls (read_token small) (λ a. names_from what (less left 1) (a ∷ [])) (token_falls small) (λ a. names_fall what (less left 1) (a ∷ [])))
    (λ bs. convert_falls (together bs) (typed reading) typed_falls)) where
      names_fall : (what : What) (left : Option ℕ) (items : List Lexeme) → Falls (names_from what left items)
      names_fall what left items = while_falls (items_loop what (sign_of sign.Comma) (sign_of sign.Comma) one_each (λ count. next_behind)) (λ s. strict_falls next_behind next_behind_strict) (record { left = left; items = items })

abbrev pub entry_declared : What → Bool → Option ℕ → Reader (List Decl)
entry_declared what may_last left = read_convert entry_declarations (entry_read what may_last left)

abbrev to_entry : List Lexeme → Outcome Ty → Outcome (Entry Decl Lexeme Ty)
to_entry ns o = o >>= λ t. done (together ns t.0) t.1

abbrev to_declared : Outcome (Entry Decl Lexeme Ty) → Outcome (List Decl)
to_declared o = o >>= λ e. done (entry_declarations e.0) e.1

entry_typed : (ns : List Lexeme) (o : Outcome Ty) → to_declared (to_entry ns o) ≡ (o >>= λ t. done (map (declared t.0 None) ns) t.1)
entry_typed ns (done ty rest) = refl
entry_typed ns (refused fault rest) = refl

entry_named : (o : Outcome (List Lexeme)) → to_declared (o >>= λ r. to_entry r.0 (typed reading r.1)) ≡ (o >>= λ r. typed reading r.1 >>= λ t. done (map (declared t.0 None) r.0) t.1)
entry_named (done ns rest) = entry_typed ns (typed reading rest)
entry_named (refused fault rest) = refl

-- names with their type
pub entry_parts : (what : What) (may_last : Bool) (left : Option ℕ) (ts : List Lexeme) → is_ahead (last_if may_last) ts ≡ false →
    entry_declared what may_last left ts ≡ (read_names what (read_token small) left ts >>= λ r. typed reading r.1 >>= λ t. done (map (declared t.0 None) r.0) t.1)
entry_parts what may_last left ts h =
    ap (λ d. to_declared (if d then read_convert alone (last_declaration reading) ts else (read_names what (read_token small) left ts >>= λ r. to_entry r.0 (typed reading r.1)))) h
    ∙ entry_named (read_names what (read_token small) left ts)

pub entry_declared_falls : (what : What) (may_last : Bool) (left : Option ℕ) → Falls (entry_declared what may_last left)
entry_declared_falls what may_last left = convert_falls entry_declarations (entry what may_last left) (last_if_falls what may_last left)

abbrev pub next_declared : What → Bool → Option ℕ → Reader (List Decl)
next_declared what may_last left = read_behind (sign_of sign.Semicolon) (entry_declared what may_last left)

pub next_declared_strict : (what : What) (may_last : Bool) (left : Option ℕ) → Strict (next_declared what may_last left)
next_declared_strict what may_last left = read_behind_strict (sign_of sign.Semicolon) (entry_declared what may_last left) (entry_declared_falls what may_last left)

abbrev entry_loop : What → Bool → Loop (Taken (Entry Decl Lexeme Ty)) (Entry Decl Lexeme Ty) (List (Entry Decl Lexeme Ty))
entry_loop what may_last = items_loop what (sign_of sign.Semicolon) (sign_of sign.Semicolon) names_in (λ count. read_behind (sign_of sign.Semicolon) (entry what may_last count))

abbrev declared_loop : What → Bool → Loop (Taken Decl) (List Decl) (List Decl)
declared_loop what may_last = record {
  begins = λ s. sign_of sign.Semicolon;
  refuses = λ s ts. is_ahead (sign_of sign.Semicolon) ts && not (has_one s.left);
  what = what;
  item = λ s. next_declared what may_last s.left;
  next = λ s ds. record { left = less s.left (length ds); items = s.items ++ ds };
  result = λ s. s.items;
}

abbrev entry_state : Taken (Entry Decl Lexeme Ty) → Taken Decl
entry_state s = record { left = s.left; items = flat (map entry_declarations s.items) }

counted : {A B : Type 0} (f : A → B) (xs : List A) → length (map f xs) ≡ length xs
counted f [] = refl
counted f (x ∷ xs) = ap (λ n. suc n) (counted f xs)

names_counted : (e : Entry Decl Lexeme Ty) → length (entry_declarations e) ≡ names_in e
names_counted (alone d) = refl
names_counted (together names ty) = counted (declared ty None) names

flat_map-append : (es : List (Entry Decl Lexeme Ty)) (e : Entry Decl Lexeme Ty) → flat (map entry_declarations (es ++ (e ∷ []))) ≡ flat (map entry_declarations es) ++ entry_declarations e
flat_map-append [] e = append-nil (entry_declarations e)
flat_map-append (x ∷ es) e = ap (λ z. entry_declarations x ++ z) (flat_map-append es e) ∙ sym (append_assoc (entry_declarations x) (flat (map entry_declarations es)) (entry_declarations e))

next_entries : (what : What) (may_last : Bool) (s : Taken (Entry Decl Lexeme Ty)) (e : Entry Decl Lexeme Ty) → (declared_loop what may_last).next (entry_state s) (entry_declarations e) ≡ entry_state ((entry_loop what may_last).next s e)
next_entries what may_last s e =
    ap (λ n. record { left = less s.left n; items = flat (map entry_declarations s.items) ++ entry_declarations e }) (names_counted e)
    ∙ ap (λ z. record { left = less s.left (names_in e); items = z }) (sym (flat_map-append s.items e))

behind_converted : (o : Outcome Lexeme) (read : Reader (Entry Decl Lexeme Ty)) → (o >>= λ r. read_convert entry_declarations read r.1) ≡ ((o >>= λ r. read r.1) >>= λ r. done (entry_declarations r.0) r.1)
behind_converted (done t rest) read = refl
behind_converted (refused fault rest) read = refl

entries_simulated : (what : What) (may_last : Bool) (s : Taken (Entry Decl Lexeme Ty)) (ts : List Lexeme) →
    read_while (declared_loop what may_last) (entry_state s) ts ≡ read_convert (λ es. flat (map entry_declarations es)) (read_while (entry_loop what may_last) s) ts
entries_simulated what may_last = simulated (entry_loop what may_last) (declared_loop what may_last) entry_state entry_declarations (λ es. flat (map entry_declarations es))
    (λ s ts. refl) (λ s ts. refl) refl (λ s ts. behind_converted (read_token (sign_of sign.Semicolon) ts) (entry what may_last s.left)) (next_entries what may_last) (λ s. refl)

abbrev pub declarations_from : What → Bool → Option ℕ → List Decl → Reader (List Decl)
declarations_from what may_last left items = read_while (declared_loop what may_last) (record { left = left; items = items })

entries_by : (what : What) (may_last : Bool) (left : Option ℕ) (o : Outcome (Entry Decl Lexeme Ty)) →
    ((o >>= λ r. read_while (entry_loop what may_last) (record { left = less left (names_in r.0); items = r.0 ∷ [] }) r.1) >>= λ r. done (flat (map entry_declarations r.0)) r.1)
    ≡ ((o >>= λ r. done (entry_declarations r.0) r.1) >>= λ r. declarations_from what may_last (less left (length r.0)) r.0 r.1)
entries_by what may_last left (refused fault rest) = refl
entries_by what may_last left (done e rest) =
    sym (entries_simulated what may_last (record { left = less left (names_in e); items = e ∷ [] }) rest)
    ∙ ap (λ z. declarations_from what may_last (less left (names_in e)) z rest) (append-nil (entry_declarations e))
    ∙ ap (λ n. declarations_from what may_last (less left n) (entry_declarations e) rest) (sym (names_counted e))

pub declarations_begin : (what : What) (may_last : Bool) (left : Option ℕ) (ts : List Lexeme) →
    declarations reading what left (last_if may_last) ts ≡ (entry_declared what may_last left ts >>= λ r. declarations_from what may_last (less left (length r.0)) r.0 r.1)
declarations_begin what may_last left ts = entries_by what may_last left (entry what may_last left ts)

declared_strict : (what : What) (may_last : Bool) (s : Taken Decl) → Strict ((declared_loop what may_last).item s)
declared_strict what may_last s = next_declared_strict what may_last s.left

pub declarations_end : (what : What) (may_last : Bool) (left : Option ℕ) (items : List Decl) (ts : List Lexeme) → is_ahead (sign_of sign.Semicolon) ts ≡ false → declarations_from what may_last left items ts ≡ done items ts
declarations_end what may_last left items ts h = ends (declared_loop what may_last) (declared_strict what may_last) (record { left = left; items = items }) ts h

declarations_step : (what : What) (may_last : Bool) (left : Option ℕ) (items : List Decl) (ts : List Lexeme) (one : Bool) → is_ahead (sign_of sign.Semicolon) ts ≡ true → has_one left ≡ one →
    declarations_from what may_last left items ts ≡ ((if one then next_declared what may_last left ts else refused (Limit what) ts) >>= λ r. declarations_from what may_last (less left (length r.0)) (items ++ r.0) r.1)
declarations_step what may_last left items ts true h k =
    steps (declared_loop what may_last) (declared_strict what may_last) (record { left = left; items = items }) ts h (ap (λ d. d && not (has_one left)) h ∙ ap not k)
declarations_step what may_last left items ts false h k =
    refuses (declared_loop what may_last) (declared_strict what may_last) (record { left = left; items = items }) ts h (ap (λ d. d && not (has_one left)) h ∙ ap not k)

pub declarations_refused : (what : What) (may_last : Bool) (left : Option ℕ) (items : List Decl) (ts rest : List Lexeme) (fault : Fault) → is_ahead (sign_of sign.Semicolon) ts ≡ true →
    if_left what left (next_declared what may_last left) ts ≡ refused fault rest → declarations_from what may_last left items ts ≡ refused fault rest
declarations_refused what may_last left items ts rest fault h e =
    declarations_step what may_last left items ts (has_one left) h refl ∙ ap (λ o. o >>= λ r. declarations_from what may_last (less left (length r.0)) (items ++ r.0) r.1) e

pub declarations_more : (what : What) (may_last : Bool) (left : Option ℕ) (items ds : List Decl) (ts rest : List Lexeme) → is_ahead (sign_of sign.Semicolon) ts ≡ true →
    if_left what left (next_declared what may_last left) ts ≡ done ds rest → declarations_from what may_last (less left (length ds)) (items ++ ds) rest ≡ declarations_from what may_last left items ts
declarations_more what may_last left items ds ts rest h e =
    sym (declarations_step what may_last left items ts (has_one left) h refl ∙ ap (λ o. o >>= λ r. declarations_from what may_last (less left (length r.0)) (items ++ r.0) r.1) e)

pub declarations_shrink : (what : What) (may_last : Bool) (left : Option ℕ) (ts : List Lexeme) (ds : List Decl) (rest : List Lexeme) → if_left what left (next_declared what may_last left) ts ≡ done ds rest → length rest < length ts
declarations_shrink what may_last left ts ds rest e = shrinks_by what (next_declared what may_last left) (next_declared_strict what may_last left) ts ds rest (has_one left) e

pub declarations_fall : (what : What) (may_last : Bool) (left : Option ℕ) → Falls (declarations reading what left (last_if may_last))
declarations_fall what may_last left ts ds rest e =
    let all = entry_declared_falls what may_last left in
    then_falls (entry_declared what may_last left) (λ ds. declarations_from what may_last (less left (length ds)) ds) all
    (λ ds. while_falls (declared_loop what may_last) (λ s. strict_falls ((declared_loop what may_last).item s) (declared_strict what may_last s)) (record { left = less left (length ds); items = ds }))
    ts ds rest (sym (declarations_begin what may_last left ts) ∙ e)
