-- What is read has the words that were read.
use Rattle.std.proofs.Common.{◌≡◌, ℕ, zero, suc, Bool, true, false, if◌then◌else◌, List, [], ◌∷◌, ◌++◌, length, map, codes, Option, None, Some, refl, sym, ap, subst, ◌∙◌, append_assoc, append-nil}
use Rattle.std.specs.Prelude.{option_map}
use Rattle.std.specs.Str.{bytes_eq}
use Rattle.std.proofs.lemmas.List.{map-append}
use Rattle.hp_base.specs.declared.ty.Ty.{Ty}
use Rattle.hp_base.specs.declared.ty.Ty.TheVariants as ty
use Rattle.hp_base.specs.declared.ty.Const.{Const}
use Rattle.hp_base.specs.declared.ty.Const.TheVariants as constant
use Rattle.hp_obc.specs.declared.command.Arg.{Arg}
use Rattle.hp_obc.specs.declared.command.Arg.TheVariants as arg
use Rattle.hp_obc.specs.declared.command.ObcOp.{ObcOp}
use Rattle.hp_obc.specs.declared.command.ObcOp.TheVariants.{Copy, Not, Neg, Mux, And, Or, Xor, Imp, Eq, Ne, Lt, Le, Gt, Ge, Add, Sub, Mul, Div, Rem}
use Rattle.hp_obc.specs.Form.{is_name, is_constructor}
use Rattle.hp_obctext.specs.Files as file
use Rattle.hp_obctext.specs.Files.{Steps, Step, Branches, Text, File, steps_of, branches_of, const_word, type_word, arg_word, each, comma, var_words, mem_words, inst_words, op_words, set_words, call_words, steps_words, step_words, branches_words, constructors_words, type_words, machine_words, file_words}
use Rattle.hp_lines.specs.Numbers.{number_of}
use Rattle.hp_obctext.specs.Outcomes.{Words, Outcome, done, refused, ◌>>=◌}
use Rattle.hp_obctext.specs.Spelling.{this, name_of, constructor_of, ty_of, label_of, const_of, arg_of, op_of, else_by}
use Rattle.hp_obctext.specs.Spells.{IsSpelling, Takes, Spell}
use Rattle.hp_obctext.specs.Words.{Word, leading, fixed as plain, small, capital}
use Rattle.hp_obctext.specs.Reading.{Reader, one, fixed, many_within, many, behind, is_ahead, is_this, is_open, is_op, listed, section, var, mem, inst, arity, args_behind, op_or_copy, assignment, names, args, call_step, reset_step, branch, branches, case_step, step, begins_step, steps, steps_within, next_constructor, constructors, type_declaration, types, machine, machines, all_read, file as read_file}
use Rattle.hp_obctext.proofs.Truths.{equal_bytes}
use Rattle.hp_obctext.proofs.ReadShapes.{name_is, constructor_is}

takes_one : (us : Words) (ws : List Word) (u : List ℕ) (w : Word) (rest : Words) → Takes us ws (u ∷ rest) → IsSpelling u w → Takes us (ws ++ w ∷ []) rest
takes_one [] [] u w rest h k = absurd cc
takes_one (v ∷ us) [] u w rest h k =
    let first : v ≡ u = cc in
    let more : us ≡ rest = cc in
    (subst (λ z. IsSpelling z w) (sym first) k, more)
takes_one [] (x ∷ ws) u w rest h k = absurd h
takes_one (v ∷ us) (x ∷ ws) u w rest h k = (h.0, takes_one us ws u w rest h.1 k)

-- P holds of what was read and of the words behind it
abbrev Ends : {A : Type 0} → (A → Words → Type 0) → Outcome A → Type 0
Ends P (done a rest) = P a rest
Ends P (refused rest) = Unit {0}

then_ends : {A B : Type 0} (P : A → Words → Type 0) (Q : B → Words → Type 0) (o : Outcome A) (f : A × Words → Outcome B) → Ends P o → ((a : A) (rest : Words) → P a rest → Ends Q (f (a, rest))) → Ends Q (o >>= f)
then_ends P Q (done a rest) f h k = k a rest h
then_ends P Q (refused rest) f h k = tt

-- From the words `us` on, these words were taken and then those of what was read.
abbrev From : {A : Type 0} → Words → List Word → (A → List Word) → A → Words → Type 0
From us ws words a rest = Takes us (ws ++ words a) rest

-- A reader takes the words of what it reads.
abbrev pub Sound : {A : Type 0} → (A → List Word) → Reader A → Type 0
Sound words read = (us : Words) (ws : List Word) (vs : Words) → Takes us ws vs → Ends (From us ws words) (read vs)

one_by : {A : Type 0} (word : A → Word) (us : Words) (ws : List Word) (v : List ℕ) (vs : Words) (o : Option A) → ((a : A) → o ≡ Some a → IsSpelling v (word a)) → Takes us ws (v ∷ vs) →
    Ends (From us ws (λ a. word a ∷ [])) (elim o [ Some a ↦ done a vs | None ↦ refused (v ∷ vs) ])
one_by word us ws v vs None k h = tt
one_by word us ws v vs (Some a) k h = takes_one us ws v (word a) vs h (k a refl)

one_sound : {A : Type 0} (word : A → Word) (of : List ℕ → Option A) → ((w : List ℕ) (a : A) → of w ≡ Some a → IsSpelling w (word a)) → Sound (λ a. word a ∷ []) (one of)
one_sound word of k us ws [] h = tt
one_sound word of k us ws (v ∷ vs) h = one_by word us ws v vs (of v) (k v) h

-- ---- words

this_is : (word w : List ℕ) (u : Unit {0}) → this word w ≡ Some u → w ≡ word
this_is word w u h = by (bytes_eq w word) refl h
  where
    by : (d : Bool) → bytes_eq w word ≡ d → (if d then Some tt else None) ≡ Some u → w ≡ word
    by true e h = equal_bytes w word e
    by false e h = absurd cc

fixed_sound : (word : List ℕ) → Sound (λ (u : Unit {0}). plain word ∷ []) (fixed word)
fixed_sound word = one_sound (λ u. plain word) (this word) (this_is word)

leading_sound : (word : List ℕ) → Sound (λ (u : Unit {0}). leading word ∷ []) (fixed word)
leading_sound word = one_sound (λ u. leading word) (this word) (this_is word)

only : (p : List ℕ → Bool) (d : Bool) (w x : List ℕ) → (if d then Some w else None) ≡ Some x → w ≡ x
only p true w x h = cc
only p false w x h = absurd cc

name_spelled : (w x : List ℕ) → name_of w ≡ Some x → IsSpelling w (small x)
name_spelled w x h = (only is_name (is_name w) w x h, name_is w x h)

constructor_spelled : (w x : List ℕ) → constructor_of w ≡ Some x → IsSpelling w (capital x)
constructor_spelled w x h = (only is_constructor (is_constructor w) w x h, constructor_is w x h)

name_sound : Sound (λ x. small x ∷ []) (one name_of)
name_sound = one_sound small name_of name_spelled

constructor_sound : Sound (λ x. capital x ∷ []) (one constructor_of)
constructor_sound = one_sound capital constructor_of constructor_spelled

enum_by : (w : List ℕ) (t : Ty) (o : Option (List ℕ)) → name_of w ≡ o → option_map ty.Enum o ≡ Some t → IsSpelling w (type_word t)
enum_by w t None e h = absurd cc
enum_by w t (Some x) e h = let same : ty.Enum x ≡ t = cc in subst (λ z. IsSpelling w (type_word z)) same (name_spelled w x e)

ty_spelled : (w : List ℕ) (t : Ty) → ty_of w ≡ Some t → IsSpelling w (type_word t)
ty_spelled w t h = by (bytes_eq w (codes "bool")) (bytes_eq w (codes "int")) refl refl h
  where
    by : (d e : Bool) → bytes_eq w (codes "bool") ≡ d → bytes_eq w (codes "int") ≡ e → (if d then Some ty.Bool else (if e then Some ty.Int else option_map ty.Enum (name_of w))) ≡ Some t → IsSpelling w (type_word t)
    by true e p q h = let same : ty.Bool ≡ t = cc in subst (λ z. IsSpelling w (type_word z)) same (equal_bytes w (codes "bool") p)
    by false true p q h = let same : ty.Int ≡ t = cc in subst (λ z. IsSpelling w (type_word z)) same (equal_bytes w (codes "int") q)
    by false false p q h = enum_by w t (name_of w) refl h

ty_sound : Sound (λ t. type_word t ∷ []) (one ty_of)
ty_sound = one_sound type_word ty_of ty_spelled

cons_by : (w : List ℕ) (c : Const) (o : Option (List ℕ)) → constructor_of w ≡ o → option_map constant.E o ≡ Some c → IsSpelling w (const_word c)
cons_by w c None e h = absurd cc
cons_by w c (Some x) e h = let same : constant.E x ≡ c = cc in subst (λ z. IsSpelling w (const_word z)) same (constructor_spelled w x e)

label_spelled : (w : List ℕ) (c : Const) → label_of w ≡ Some c → IsSpelling w (const_word c)
label_spelled w c h = by (bytes_eq w (codes "true")) (bytes_eq w (codes "false")) refl refl h
  where
    by : (d e : Bool) → bytes_eq w (codes "true") ≡ d → bytes_eq w (codes "false") ≡ e → (if d then Some (constant.B true) else (if e then Some (constant.B false) else option_map constant.E (constructor_of w))) ≡ Some c → IsSpelling w (const_word c)
    by true e p q h = let same : constant.B true ≡ c = cc in subst (λ z. IsSpelling w (const_word z)) same (equal_bytes w (codes "true") p)
    by false true p q h = let same : constant.B false ≡ c = cc in subst (λ z. IsSpelling w (const_word z)) same (equal_bytes w (codes "false") q)
    by false false p q h = cons_by w c (constructor_of w) refl h

label_sound : Sound (λ c. const_word c ∷ []) (one label_of)
label_sound = one_sound const_word label_of label_spelled

number_by : (w : List ℕ) (c : Const) (o : Option _) → number_of w ≡ o → option_map constant.I o ≡ Some c → IsSpelling w (const_word c)
number_by w c None e h = absurd cc
number_by w c (Some n) e h = let same : constant.I n ≡ c = cc in subst (λ z. IsSpelling w (const_word z)) same e

const_spelled : (w : List ℕ) (c : Const) → const_of w ≡ Some c → IsSpelling w (const_word c)
const_spelled w c h = by (label_of w) refl h
  where
    by : (o : Option Const) → label_of w ≡ o → else_by o (option_map constant.I (number_of w)) ≡ Some c → IsSpelling w (const_word c)
    by None e h = number_by w c (number_of w) refl h
    by (Some k) e h = let same : k ≡ c = cc in subst (λ z. IsSpelling w (const_word z)) same (label_spelled w k e)

const_sound : Sound (λ c. const_word c ∷ []) (one const_of)
const_sound = one_sound const_word const_of const_spelled

arg_const_by : (w : List ℕ) (a : Arg) (o : Option Const) → const_of w ≡ o → option_map arg.Const o ≡ Some a → IsSpelling w (arg_word a)
arg_const_by w a None e h = absurd cc
arg_const_by w a (Some c) e h = let same : arg.Const c ≡ a = cc in subst (λ z. IsSpelling w (arg_word z)) same (const_spelled w c e)

arg_spelled : (w : List ℕ) (a : Arg) → arg_of w ≡ Some a → IsSpelling w (arg_word a)
arg_spelled w a h = by (name_of w) refl h
  where
    by : (o : Option (List ℕ)) → name_of w ≡ o → else_by (option_map arg.Name o) (option_map arg.Const (const_of w)) ≡ Some a → IsSpelling w (arg_word a)
    by None e h = arg_const_by w a (const_of w) refl h
    by (Some x) e h = let same : arg.Name x ≡ a = cc in subst (λ z. IsSpelling w (arg_word z)) same (name_spelled w x e)

arg_sound : Sound (λ a. arg_word a ∷ []) (one arg_of)
arg_sound = one_sound arg_word arg_of arg_spelled

-- ---- operators

-- the word of an operator
AreOpWords : List ℕ → ObcOp → Type 0
AreOpWords w op = op_words op ≡ plain w ∷ []

op_case : (w word : List ℕ) (this_op op : ObcOp) (o : Option ObcOp) → AreOpWords word this_op → (o ≡ Some op → AreOpWords w op) → (if bytes_eq w word then Some this_op else o) ≡ Some op → AreOpWords w op
unfolding AreOpWords
op_case w word this_op op o h k e = by (bytes_eq w word) refl e
  where
    by : (d : Bool) → bytes_eq w word ≡ d → (if d then Some this_op else o) ≡ Some op → op_words op ≡ plain w ∷ []
    by true p e = let same : this_op ≡ op = cc in ap op_words (sym same) ∙ h ∙ ap (λ x. plain x ∷ []) (sym (equal_bytes w word p))
    by false p e = k e

op_spelled : (w : List ℕ) (op : ObcOp) → op_of w ≡ Some op → op_words op ≡ plain w ∷ []
unfolding AreOpWords
op_spelled w op =
    op_case w (codes "@not") Not op _ refl (
    op_case w (codes "@neg") Neg op _ refl (
    op_case w (codes "@mux") Mux op _ refl (
    op_case w (codes "@and") And op _ refl (
    op_case w (codes "@or") Or op _ refl (
    op_case w (codes "@xor") Xor op _ refl (
    op_case w (codes "@imp") Imp op _ refl (
    op_case w (codes "@eq") Eq op _ refl (
    op_case w (codes "@ne") Ne op _ refl (
    op_case w (codes "@lt") Lt op _ refl (
    op_case w (codes "@le") Le op _ refl (
    op_case w (codes "@gt") Gt op _ refl (
    op_case w (codes "@ge") Ge op _ refl (
    op_case w (codes "@add") Add op _ refl (
    op_case w (codes "@sub") Sub op _ refl (
    op_case w (codes "@mul") Mul op _ refl (
    op_case w (codes "@div") Div op _ refl (
    op_case w (codes "@rem") Rem op _ refl (
    λ e. absurd cc))))))))))))))))))

op_sound : Sound op_words op_or_copy
op_sound us ws vs h = by (is_ahead is_op vs) (one_op vs h)
  where
    op_one_by : (v : List ℕ) (vs : Words) (o : Option ObcOp) → op_of v ≡ o → Takes us ws (v ∷ vs) → Ends (From us ws op_words) (elim o [ Some a ↦ done a vs | None ↦ refused (v ∷ vs) ])
    op_one_by v vs None e h = tt
    op_one_by v vs (Some op) e h = subst (λ xs. Takes us (ws ++ xs) vs) (sym (op_spelled v op e)) (takes_one us ws v (plain v) vs h refl)

    one_op : (vs : Words) → Takes us ws vs → Ends (From us ws op_words) (one op_of vs)
    one_op [] h = tt
    one_op (v ∷ vs) h = op_one_by v vs (op_of v) refl h

    by : (d : Bool) → Ends (From us ws op_words) (one op_of vs) → Ends (From us ws op_words) (if d then one op_of vs else done Copy vs)
    by true k = k
    by false k = subst (λ xs. Takes us xs vs) (sym (append-nil ws)) h

-- ---- lists

each-push : {A : Type 0} (words : A → List Word) (xs : List A) (a : A) → each words (xs ++ a ∷ []) ≡ each words xs ++ words a
each-push words [] a = append-nil (words a)
each-push words (x ∷ xs) a = ap (λ ws. words x ++ ws) (each-push words xs a) ∙ sym (append_assoc (words x) (each words xs) (words a))

many_sound_by : {A : Type 0} (words : A → List Word) (begins : List ℕ → Bool) (item : Reader A) → Sound words item → (n : ℕ) (items : List A) (us : Words) (ws : List Word) (vs : Words) →
    Takes us (ws ++ each words items) vs → Ends (From us ws (each words)) (many_within begins item n items vs)
many_sound_by words begins item k zero items us ws vs h = h
many_sound_by words begins item k (suc n) items us ws vs h =
    by (is_ahead begins vs) (then_ends (From us (ws ++ each words items) words) (From us ws (each words)) (item vs) (λ r. many_within begins item n (items ++ (r.0 ∷ [])) r.1) (k us (ws ++ each words items) vs h)
    (λ a rest p. many_sound_by words begins item k n (items ++ (a ∷ [])) us ws rest (subst (λ xs. Takes us xs rest) (append_assoc ws (each words items) (words a) ∙ ap (λ xs. ws ++ xs) (sym (each-push words items a))) p)))
  where
    by : (d : Bool) → Ends (From us ws (each words)) (item vs >>= λ r. many_within begins item n (items ++ (r.0 ∷ [])) r.1) →
        Ends (From us ws (each words)) (if d then (item vs >>= λ r. many_within begins item n (items ++ (r.0 ∷ [])) r.1) else done items vs)
    by true m = m
    by false m = h

many_sound : {A : Type 0} (words : A → List Word) (begins : List ℕ → Bool) (item : Reader A) → Sound words item → Sound (each words) (many begins item [])
many_sound words begins item k us ws vs h = many_sound_by words begins item k (length vs) [] us ws vs (subst (λ xs. Takes us xs vs) (sym (append-nil ws)) h)

pub each-map : {A : Type 0} (word : A → Word) (xs : List A) → each (λ a. word a ∷ []) xs ≡ map word xs
each-map word [] = refl
each-map word (x ∷ xs) = ap (λ ws. word x ∷ ws) (each-map word xs)

-- a list behind its first item
rest_sound : {A : Type 0} (words next_words : A → List Word) (begins : List ℕ → Bool) (item : Reader A) → Sound next_words item → (a : A) (us : Words) (ws : List Word) (vs : Words) →
    Takes us (ws ++ words a) vs → Ends (λ xs rest. (b : A) × (bs : List A) × (xs ≡ b ∷ bs) × Takes us (ws ++ (words b ++ each next_words bs)) rest) (many begins item (a ∷ []) vs)
rest_sound words next_words begins item k a us ws vs h = by (length vs) (a ∷ []) [] vs refl (subst (λ xs. Takes us xs vs) (sym (append-nil (ws ++ words a)) ∙ append_assoc ws (words a) []) h)
  where
    by : (n : ℕ) (items others : List _) (vs : Words) → items ≡ a ∷ others → Takes us (ws ++ (words a ++ each next_words others)) vs →
        Ends (λ xs rest. (b : _) × (bs : List _) × (xs ≡ b ∷ bs) × Takes us (ws ++ (words b ++ each next_words bs)) rest) (many_within begins item n items vs)
    by zero items others vs e h = (a, others, e, h)
    by (suc n) items others vs e h =
        split (is_ahead begins vs) (then_ends (From us (ws ++ (words a ++ each next_words others)) next_words) _ (item vs) (λ r. many_within begins item n (items ++ (r.0 ∷ [])) r.1) (k us (ws ++ (words a ++ each next_words others)) vs h)
        (λ b rest p. by n (items ++ (b ∷ [])) (others ++ (b ∷ [])) rest (ap (λ xs. xs ++ (b ∷ [])) e)
        (subst (λ xs. Takes us xs rest) (append_assoc ws (words a ++ each next_words others) (next_words b) ∙ ap (λ xs. ws ++ xs) (append_assoc (words a) (each next_words others) (next_words b) ∙ ap (λ xs. words a ++ xs) (sym (each-push next_words others b)))) p)))
      where
        split : (d : Bool) → Ends (λ xs rest. (b : _) × (bs : List _) × (xs ≡ b ∷ bs) × Takes us (ws ++ (words b ++ each next_words bs)) rest) (item vs >>= λ r. many_within begins item n (items ++ (r.0 ∷ [])) r.1) →
            Ends (λ xs rest. (b : _) × (bs : List _) × (xs ≡ b ∷ bs) × Takes us (ws ++ (words b ++ each next_words bs)) rest) (if d then (item vs >>= λ r. many_within begins item n (items ++ (r.0 ∷ [])) r.1) else done items vs)
        split true m = m
        split false m = (a, others, e, h)

-- ---- one behind the other

chain : {A B : Type 0} (words : A → List Word) (read : Reader A) → Sound words read → (Q : B → Words → Type 0) (us : Words) (ws : List Word) (vs : Words) → Takes us ws vs → (f : A × Words → Outcome B) →
    ((a : A) (rest : Words) → Takes us (ws ++ words a) rest → Ends Q (f (a, rest))) → Ends Q (read vs >>= f)
chain words read s Q us ws vs h f k = then_ends (From us ws words) Q (read vs) f (s us ws vs h) k

regroup : (us : Words) (ws ts : List Word) (rest : Words) → ws ≡ ts → Takes us ws rest → Takes us ts rest
regroup us ws ts rest e h = subst (λ xs. Takes us xs rest) e h

weaker_ends : {A : Type 0} (P Q : A → Words → Type 0) (o : Outcome A) → Ends P o → ((a : A) (rest : Words) → P a rest → Q a rest) → Ends Q o
weaker_ends P Q (done a rest) h k = k a rest h
weaker_ends P Q (refused rest) h k = tt

var_sound : Sound var_words var
var_sound us ws vs h =
    let Q = From us ws var_words in
    let colon = plain (codes ":") ∷ [] in
    chain _ (one name_of) name_sound Q us ws vs h _ (λ x r p. chain _ (fixed (codes ":")) (fixed_sound (codes ":")) Q us (ws ++ small x ∷ []) r p _
    (λ u s q. chain _ (one ty_of) ty_sound Q us ((ws ++ small x ∷ []) ++ colon) s q _ (λ t v k. regroup us (((ws ++ small x ∷ []) ++ colon) ++ type_word t ∷ []) (ws ++ small x ∷ plain (codes ":") ∷ type_word t ∷ []) v (simp append_assoc) k)))

mem_sound : Sound mem_words mem
mem_sound us ws vs h =
    let Q = From us ws mem_words in
    let colon = plain (codes ":") ∷ [] in
    let equal = plain (codes "=") ∷ [] in
    chain _ (one name_of) name_sound Q us ws vs h _ (λ x r p. chain _ (fixed (codes ":")) (fixed_sound (codes ":")) Q us (ws ++ small x ∷ []) r p _
    (λ u s q. chain _ (one ty_of) ty_sound Q us ((ws ++ small x ∷ []) ++ colon) s q _
    (λ t v k. chain _ (fixed (codes "=")) (fixed_sound (codes "=")) Q us (((ws ++ small x ∷ []) ++ colon) ++ type_word t ∷ []) v k _
    (λ u w l. chain _ (one const_of) const_sound Q us ((((ws ++ small x ∷ []) ++ colon) ++ type_word t ∷ []) ++ equal) w l _
    (λ c y m. regroup us (((((ws ++ small x ∷ []) ++ colon) ++ type_word t ∷ []) ++ equal) ++ const_word c ∷ []) (ws ++ small x ∷ plain (codes ":") ∷ type_word t ∷ plain (codes "=") ∷ const_word c ∷ []) y (simp append_assoc) m)))))

inst_sound : Sound inst_words inst
inst_sound us ws vs h =
    let Q = From us ws inst_words in
    let colon = plain (codes ":") ∷ [] in
    chain _ (one name_of) name_sound Q us ws vs h _ (λ x r p. chain _ (fixed (codes ":")) (fixed_sound (codes ":")) Q us (ws ++ small x ∷ []) r p _
    (λ u s q. chain _ (one name_of) name_sound Q us ((ws ++ small x ∷ []) ++ colon) s q _ (λ t v k. regroup us (((ws ++ small x ∷ []) ++ colon) ++ small t ∷ []) (ws ++ small x ∷ plain (codes ":") ∷ small t ∷ []) v (simp append_assoc) k)))

behind_comma : {A : Type 0} (words : A → List Word) (item : Reader A) → Sound words item → Sound (comma words) (behind (codes ",") item)
behind_comma words item s us ws vs h =
    chain _ (fixed (codes ",")) (fixed_sound (codes ",")) (From us ws (comma words)) us ws vs h _
    (λ u r p. weaker_ends (From us (ws ++ plain (codes ",") ∷ []) words) (From us ws (comma words)) (item r) (s us (ws ++ plain (codes ",") ∷ []) r p)
    (λ a rest k. regroup us ((ws ++ plain (codes ",") ∷ []) ++ words a) (ws ++ plain (codes ",") ∷ words a) rest (append_assoc ws (plain (codes ",") ∷ []) (words a)) k))

listed_sound : {A : Type 0} (words : A → List Word) (item : Reader A) → Sound words item → Sound (file.listed words) (listed item)
listed_sound words item s us ws vs h =
    by (is_ahead (is_this (codes ")")) vs)
    (chain words item s (From us ws (file.listed words)) us ws vs h (λ r. many (is_this (codes ",")) (behind (codes ",") item) (r.0 ∷ []) r.1)
    (λ a rest p. weaker_ends _ (From us ws (file.listed words)) (many (is_this (codes ",")) (behind (codes ",") item) (a ∷ []) rest)
    (rest_sound words (comma words) (is_this (codes ",")) (behind (codes ",") item) (behind_comma words item s) a us ws rest p)
    (λ xs more k. subst (λ ys. Takes us (ws ++ file.listed words ys) more) (sym k.2) k.3)))
  where
    by : (d : Bool) → Ends (From us ws (file.listed words)) (item vs >>= λ r. many (is_this (codes ",")) (behind (codes ",") item) (r.0 ∷ []) r.1) →
        Ends (From us ws (file.listed words)) (if d then done [] vs else (item vs >>= λ r. many (is_this (codes ",")) (behind (codes ",") item) (r.0 ∷ []) r.1))
    by true k = regroup us ws (ws ++ []) vs (sym (append-nil ws)) h
    by false k = k

section_sound : {A : Type 0} (title : List ℕ) (words : A → List Word) (item : Reader A) → Sound words item → Sound (file.section title words) (section title item)
section_sound title words item s us ws vs h =
    let Q = From us ws (file.section title words) in
    chain _ (fixed title) (leading_sound title) Q us ws vs h _ (λ u r p. chain _ (fixed (codes "(")) (fixed_sound (codes "(")) Q us (ws ++ leading title ∷ []) r p _
    (λ u t q. chain _ (listed item) (listed_sound words item s) Q us ((ws ++ leading title ∷ []) ++ plain (codes "(") ∷ []) t q _
    (λ xs v k. chain _ (fixed (codes ")")) (fixed_sound (codes ")")) Q us (((ws ++ leading title ∷ []) ++ plain (codes "(") ∷ []) ++ file.listed words xs) v k _
    (λ u w l. regroup us ((((ws ++ leading title ∷ []) ++ plain (codes "(") ∷ []) ++ file.listed words xs) ++ plain (codes ")") ∷ []) (ws ++ file.section title words xs) w (simp append_assoc) l))))

-- ---- steps

names_sound : Sound (map small) names
names_sound us ws vs h = weaker_ends (From us ws (each (λ x. small x ∷ []))) (From us ws (map small)) (names vs) (many_sound (λ x. small x ∷ []) is_open (one name_of) name_sound us ws vs h)
    (λ xs rest k. regroup us (ws ++ each (λ x. small x ∷ []) xs) (ws ++ map small xs) rest (ap (λ ys. ws ++ ys) (each-map small xs)) k)

args_sound : Sound (map arg_word) args
args_sound us ws vs h = weaker_ends (From us ws (each (λ a. arg_word a ∷ []))) (From us ws (map arg_word)) (args vs) (many_sound (λ a. arg_word a ∷ []) is_open (one arg_of) arg_sound us ws vs h)
    (λ xs rest k. regroup us (ws ++ each (λ a. arg_word a ∷ []) xs) (ws ++ map arg_word xs) rest (ap (λ ys. ws ++ ys) (each-map arg_word xs)) k)

args_behind_by : (n : ℕ) (items : List Arg) (us : Words) (ws : List Word) (vs : Words) → Takes us (ws ++ map arg_word items) vs → Ends (From us ws (map arg_word)) (args_behind n items vs)
args_behind_by zero items us ws vs h = h
args_behind_by (suc n) items us ws vs h =
    chain _ (one arg_of) arg_sound (From us ws (map arg_word)) us (ws ++ map arg_word items) vs h (λ a. args_behind n (items ++ (a.0 ∷ [])) a.1)
    (λ a rest p. args_behind_by n (items ++ (a ∷ [])) us ws rest
    (regroup us ((ws ++ map arg_word items) ++ arg_word a ∷ []) (ws ++ map arg_word (items ++ (a ∷ []))) rest (append_assoc ws (map arg_word items) (arg_word a ∷ []) ∙ ap (λ xs. ws ++ xs) (sym (map-append arg_word items (a ∷ [])))) p))

args_behind_sound : (n : ℕ) → Sound (map arg_word) (args_behind n [])
args_behind_sound n us ws vs h = args_behind_by n [] us ws vs (regroup us ws (ws ++ []) vs (sym (append-nil ws)) h)

assignment_sound : Sound step_words assignment
assignment_sound us ws vs h =
    let Q = From us ws step_words in
    let w1 = ws ++ leading (codes "set") ∷ [] in
    chain _ (fixed (codes "set")) (leading_sound (codes "set")) Q us ws vs h _ (λ u r p. chain _ (one name_of) name_sound Q us w1 r p _
    (λ x s q. chain _ op_or_copy op_sound Q us (w1 ++ small x ∷ []) s q _ (λ op v k. chain _ (args_behind (arity op) []) (args_behind_sound (arity op)) Q us ((w1 ++ small x ∷ []) ++ op_words op) v k _
    (λ xs w l. regroup us (((w1 ++ small x ∷ []) ++ op_words op) ++ map arg_word xs) (ws ++ set_words x op xs) w (simp append_assoc) l))))

call_sound : Sound step_words call_step
call_sound us ws vs h =
    let Q = From us ws step_words in
    let open_word = plain (codes "(") ∷ [] in
    let close_word = plain (codes ")") ∷ [] in
    let w1 = ws ++ leading (codes "call") ∷ [] in
    chain _ (fixed (codes "call")) (leading_sound (codes "call")) Q us ws vs h _ (λ u r p. chain _ (one name_of) name_sound Q us w1 r p _
    (λ x s q. chain _ (fixed (codes "(")) (fixed_sound (codes "(")) Q us (w1 ++ small x ∷ []) s q _
    (λ u v k. chain _ names names_sound Q us ((w1 ++ small x ∷ []) ++ open_word) v k _
    (λ outs w l. chain _ (fixed (codes ")")) (fixed_sound (codes ")")) Q us (((w1 ++ small x ∷ []) ++ open_word) ++ map small outs) w l _
    (λ u y m. chain _ (fixed (codes "(")) (fixed_sound (codes "(")) Q us ((((w1 ++ small x ∷ []) ++ open_word) ++ map small outs) ++ close_word) y m _
    (λ u z n. chain _ args args_sound Q us (((((w1 ++ small x ∷ []) ++ open_word) ++ map small outs) ++ close_word) ++ open_word) z n _
    (λ xs o i. chain _ (fixed (codes ")")) (fixed_sound (codes ")")) Q us ((((((w1 ++ small x ∷ []) ++ open_word) ++ map small outs) ++ close_word) ++ open_word) ++ map arg_word xs) o i _
    (λ u e j. regroup us (((((((w1 ++ small x ∷ []) ++ open_word) ++ map small outs) ++ close_word) ++ open_word) ++ map arg_word xs) ++ close_word) (ws ++ call_words x outs xs) e (simp append_assoc) j))))))))

reset_sound : Sound step_words reset_step
reset_sound us ws vs h =
    let Q = From us ws step_words in
    let w1 = ws ++ leading (codes "reset") ∷ [] in
    chain _ (fixed (codes "reset")) (leading_sound (codes "reset")) Q us ws vs h _ (λ u r p. chain _ (one name_of) name_sound Q us w1 r p _
    (λ x s q. regroup us (w1 ++ small x ∷ []) (ws ++ leading (codes "reset") ∷ small x ∷ []) s (simp append_assoc) q))

abbrev pub arm_words : Const × Steps → List Word
arm_words b = leading (codes "|") ∷ const_word b.0 ∷ steps_words b.1

pub arms_are : (bs : List (Const × Steps)) → each arm_words bs ≡ branches_words (branches_of bs)
arms_are [] = refl
arms_are (b ∷ bs) = ap (λ ws. arm_words b ++ ws) (arms_are bs)

pub steps_are : (ss : List Step) → each step_words ss ≡ steps_words (steps_of ss)
steps_are [] = refl
steps_are (s ∷ ss) = ap (λ ws. step_words s ++ ws) (steps_are ss)

module _ (inner : Reader Steps) (sound : Sound steps_words inner) where
  branch_sound : Sound arm_words (branch inner)
  branch_sound us ws vs h =
      let Q = From us ws arm_words in
      let w1 = ws ++ leading (codes "|") ∷ [] in
      chain _ (fixed (codes "|")) (leading_sound (codes "|")) Q us ws vs h _ (λ u r p. chain _ (one label_of) label_sound Q us w1 r p _
      (λ c s q. chain _ inner sound Q us (w1 ++ const_word c ∷ []) s q _ (λ ss v k. regroup us ((w1 ++ const_word c ∷ []) ++ steps_words ss) (ws ++ arm_words (c, ss)) v (simp append_assoc) k)))

  case_sound : Sound step_words (case_step inner)
  case_sound us ws vs h =
      let Q = From us ws step_words in
      let w1 = ws ++ leading (codes "case") ∷ [] in
      chain _ (fixed (codes "case")) (leading_sound (codes "case")) Q us ws vs h _ (λ u r p. chain _ (one name_of) name_sound Q us w1 r p _
      (λ x s q. chain _ (branches inner) (many_sound arm_words (is_this (codes "|")) (branch inner) branch_sound) Q us (w1 ++ small x ∷ []) s q _
      (λ bs v k. chain _ (fixed (codes "end")) (leading_sound (codes "end")) Q us ((w1 ++ small x ∷ []) ++ each arm_words bs) v k _
      (λ u w l. regroup us (((w1 ++ small x ∷ []) ++ each arm_words bs) ++ leading (codes "end") ∷ []) (ws ++ step_words (file.case_of x (branches_of bs))) w
      (ap (λ xs. ((w1 ++ small x ∷ []) ++ xs) ++ leading (codes "end") ∷ []) (arms_are bs) ∙ simp append_assoc) l))))

  step_sound : Sound step_words (step inner)
  step_sound us ws vs h = by (is_ahead (is_this (codes "set")) vs) (is_ahead (is_this (codes "call")) vs) (is_ahead (is_this (codes "reset")) vs)
    where
      by : (a b e : Bool) → Ends (From us ws step_words) (if a then assignment vs else (if b then call_step vs else (if e then reset_step vs else case_step inner vs)))
      by true b e = assignment_sound us ws vs h
      by false true e = call_sound us ws vs h
      by false false true = reset_sound us ws vs h
      by false false false = case_sound us ws vs h

all_steps_sound : (deep : ℕ) → Sound steps_words (steps deep)
all_steps_sound zero us ws vs h = regroup us ws (ws ++ []) vs (sym (append-nil ws)) h
all_steps_sound (suc deep) us ws vs h =
    chain _ (many begins_step (step (steps deep)) []) (many_sound step_words begins_step (step (steps deep)) (step_sound (steps deep) (all_steps_sound deep))) (From us ws steps_words) us ws vs h (λ ss. done (steps_of ss.0) ss.1)
    (λ ss rest k. regroup us (ws ++ each step_words ss) (ws ++ steps_words (steps_of ss)) rest (ap (λ xs. ws ++ xs) (steps_are ss)) k)

within_sound : (deep : ℕ) → Sound steps_words (steps_within deep)
unfolding steps_within
within_sound deep us ws vs h = all_steps_sound deep us ws vs h

-- ---- files

next_constructor_sound : Sound file.next_constructor next_constructor
next_constructor_sound us ws vs h =
    chain _ (fixed (codes "|")) (leading_sound (codes "|")) (From us ws file.next_constructor) us ws vs h _
    (λ u r p. weaker_ends (From us (ws ++ leading (codes "|") ∷ []) (λ x. capital x ∷ [])) (From us ws file.next_constructor) (one constructor_of r) (constructor_sound us (ws ++ leading (codes "|") ∷ []) r p)
    (λ a rest k. regroup us ((ws ++ leading (codes "|") ∷ []) ++ capital a ∷ []) (ws ++ leading (codes "|") ∷ capital a ∷ []) rest (append_assoc ws (leading (codes "|") ∷ []) (capital a ∷ [])) k))

constructors_sound : Sound constructors_words constructors
constructors_sound us ws vs h =
    chain _ (one constructor_of) constructor_sound (From us ws constructors_words) us ws vs h (λ c. many (is_this (codes "|")) next_constructor (c.0 ∷ []) c.1)
    (λ c rest p. weaker_ends _ (From us ws constructors_words) (many (is_this (codes "|")) next_constructor (c ∷ []) rest)
    (rest_sound (λ x. capital x ∷ []) file.next_constructor (is_this (codes "|")) next_constructor next_constructor_sound c us ws rest p)
    (λ xs more k. subst (λ ys. Takes us (ws ++ constructors_words ys) more) (sym k.2) k.3))

type_sound : Sound type_words type_declaration
type_sound us ws vs h =
    let Q = From us ws type_words in
    let w1 = ws ++ leading (codes "type") ∷ [] in
    chain _ (fixed (codes "type")) (leading_sound (codes "type")) Q us ws vs h _ (λ u r p. chain _ (one name_of) name_sound Q us w1 r p _
    (λ x s q. chain _ (fixed (codes "=")) (fixed_sound (codes "=")) Q us (w1 ++ small x ∷ []) s q _
    (λ u v k. chain _ constructors constructors_sound Q us ((w1 ++ small x ∷ []) ++ plain (codes "=") ∷ []) v k _
    (λ cs w l. regroup us (((w1 ++ small x ∷ []) ++ plain (codes "=") ∷ []) ++ constructors_words cs) (ws ++ leading (codes "type") ∷ small x ∷ plain (codes "=") ∷ constructors_words cs) w (simp append_assoc) l))))

abbrev S : {A : Type 0} → List ℕ → (A → List Word) → List A → List Word
S = file.section

machine_sound : Sound machine_words machine
machine_sound us ws vs h =
    let Q = From us ws machine_words in
    let w1 = ws ++ leading (codes "machine") ∷ [] in
    chain _ (fixed (codes "machine")) (leading_sound (codes "machine")) Q us ws vs h _ (λ u r p. chain _ (one name_of) name_sound Q us w1 r p _
    (λ x s q. chain _ (section (codes "in") var) (section_sound (codes "in") var_words var var_sound) Q us (w1 ++ small x ∷ []) s q _
    (λ a v k. chain _ (section (codes "out") var) (section_sound (codes "out") var_words var var_sound) Q us ((w1 ++ small x ∷ []) ++ S (codes "in") var_words a) v k _
    (λ b w l. chain _ (section (codes "var") var) (section_sound (codes "var") var_words var var_sound) Q us (((w1 ++ small x ∷ []) ++ S (codes "in") var_words a) ++ S (codes "out") var_words b) w l _
    (λ c y m. chain _ (section (codes "mem") mem) (section_sound (codes "mem") mem_words mem mem_sound) Q us ((((w1 ++ small x ∷ []) ++ S (codes "in") var_words a) ++ S (codes "out") var_words b) ++ S (codes "var") var_words c) y m _
    (λ d z n. chain _ (section (codes "inst") inst) (section_sound (codes "inst") inst_words inst inst_sound) Q us
    (((((w1 ++ small x ∷ []) ++ S (codes "in") var_words a) ++ S (codes "out") var_words b) ++ S (codes "var") var_words c) ++ S (codes "mem") mem_words d) z n _
    (λ e o i. chain _ (fixed (codes "step")) (leading_sound (codes "step")) Q us
    ((((((w1 ++ small x ∷ []) ++ S (codes "in") var_words a) ++ S (codes "out") var_words b) ++ S (codes "var") var_words c) ++ S (codes "mem") mem_words d) ++ S (codes "inst") inst_words e) o i _
    (λ u j t. chain _ (steps_within 301) (within_sound 301) Q us
    (((((((w1 ++ small x ∷ []) ++ S (codes "in") var_words a) ++ S (codes "out") var_words b) ++ S (codes "var") var_words c) ++ S (codes "mem") mem_words d) ++ S (codes "inst") inst_words e) ++ leading (codes "step") ∷ []) j t _
    (λ ss g f. chain _ (fixed (codes "end")) (leading_sound (codes "end")) Q us
    ((((((((w1 ++ small x ∷ []) ++ S (codes "in") var_words a) ++ S (codes "out") var_words b) ++ S (codes "var") var_words c) ++ S (codes "mem") mem_words d) ++ S (codes "inst") inst_words e) ++ leading (codes "step") ∷ []) ++ steps_words ss) g f _
    (λ u more last. regroup us
    (((((((((w1 ++ small x ∷ []) ++ S (codes "in") var_words a) ++ S (codes "out") var_words b) ++ S (codes "var") var_words c) ++ S (codes "mem") mem_words d) ++ S (codes "inst") inst_words e) ++ leading (codes "step") ∷ []) ++ steps_words ss) ++ leading (codes "end") ∷ [])
    (ws ++ machine_words (record { name = x; inputs = a; outputs = b; vars = c; mems = d; insts = e; steps = ss })) more
    (in_turn ws (leading (codes "machine")) (small x) (leading (codes "step")) (S (codes "in") var_words a) (S (codes "out") var_words b) (S (codes "var") var_words c) (S (codes "mem") mem_words d) (S (codes "inst") inst_words e) (steps_words ss) (leading (codes "end") ∷ [])) last))))))))))
  where
    in_turn : (ws : List Word) (m x s : Word) (a b c d e f g : List Word) →
        ((((((((((ws ++ m ∷ []) ++ x ∷ []) ++ a) ++ b) ++ c) ++ d) ++ e) ++ s ∷ []) ++ f) ++ g) ≡ ws ++ (((((((m ∷ x ∷ a) ++ b) ++ c) ++ d) ++ e) ++ (s ∷ f)) ++ g)
    in_turn ws m x s a b c d e f g = simp append_assoc

all_read_sound : (us : Words) (ws : List Word) (f : File) (vs : Words) → Takes us ws vs → Ends (λ g rest. (g ≡ f) × (rest ≡ []) × Takes us ws []) (all_read f vs)
all_read_sound us ws f [] h = (refl, refl, h)
all_read_sound us ws f (v ∷ vs) h = tt

abbrev IsWhole : Words → File → Words → Type 0
IsWhole us f rest = Spell us (file_words f)

file_sound : (us : Words) → Ends (IsWhole us) (read_file us)
file_sound us =
    let Q = IsWhole us in
    let w2 = plain (codes "obc") ∷ plain (codes "1") ∷ [] in
    chain _ (fixed (codes "obc")) (fixed_sound (codes "obc")) Q us [] us refl _ (λ u r p. chain _ (fixed (codes "1")) (fixed_sound (codes "1")) Q us (plain (codes "obc") ∷ []) r p _
    (λ u s q. chain _ types (many_sound type_words (is_this (codes "type")) type_declaration type_sound) Q us w2 s q _
    (λ ts v k. chain _ machines (many_sound machine_words (is_this (codes "machine")) machine machine_sound) Q us (w2 ++ each type_words ts) v k _
    (λ ms w l. weaker_ends _ Q (all_read (record { types = ts; machines = ms }) w) (all_read_sound us ((w2 ++ each type_words ts) ++ each machine_words ms) (record { types = ts; machines = ms }) w l)
    (λ g rest z. subst (λ f. Spell us (file_words f)) (sym z.0) z.2)))))

-- words that are read as a file are those of the file
pub file_spelled : (us : Words) (f : File) (rest : Words) → read_file us ≡ done f rest → Spell us (file_words f)
file_spelled us f rest e = subst (Ends (IsWhole us)) e (file_sound us)
