-- Words that are written one behind the other.
use Rattle.std.proofs.Common.{◌≡◌, ℕ, ◌+◌, ◌-◌, ◌<◌, ◌≤◌, List, [], ◌∷◌, ◌++◌, map, length, take, drop, get_or, codes, refl, sym, ap, ◌∙◌, append_assoc, append-nil, arith}
use Rattle.std.proofs.lemmas.List.{drop_all, take_all}
use Rattle.std.proofs.Math.Seq.{drop-cons}
use Rattle.std.proofs.Math.Numerals.{add-one}
use Rattle.hp_obc.specs.declared.command.Arg.{Arg}
use Rattle.hp_obc.specs.declared.machine.Var.{Var}
use Rattle.hp_obc.specs.declared.machine.Mem.{Mem}
use Rattle.hp_obc.specs.Machines.{ObcType}
use Rattle.hp_obctext.specs.Files.{each, comma, arg_word, var_words, mem_words, inst_words, next_constructor, type_words, listed, constructors_words}
use Rattle.hp_obctext.specs.Words.{Word, small, fixed, leading, capital, gap, spelled, spaced, with_word, with_words}

pub spaced-append : (ws vs : List Word) → spaced (ws ++ vs) ≡ spaced ws ++ spaced vs
spaced-append [] vs = refl
spaced-append (w ∷ ws) vs = ap (λ s. gap w ∷ (spelled w ++ s)) (spaced-append ws vs) ∙ ap (λ s. gap w ∷ s) (sym (append_assoc (spelled w) (spaced ws) (spaced vs)))

pub words_none : (text : List ℕ) → with_words text [] ≡ text
unfolding with_words
words_none text = append-nil text

pub words_next : (text : List ℕ) (w : Word) (ws : List Word) → with_words text (w ∷ ws) ≡ with_words (with_word text w) ws
unfolding with_words with_word
words_next text w ws = sym (append_assoc text (gap w ∷ spelled w) (spaced ws))

pub words_more : (text : List ℕ) (ws vs : List Word) → with_words text (ws ++ vs) ≡ with_words (with_words text ws) vs
unfolding with_words
words_more text ws vs = ap (λ s. text ++ s) (spaced-append ws vs) ∙ sym (append_assoc text (spaced ws) (spaced vs))

-- an element of a list, and what is behind it
pub drop-next : {A : Type 0} (xs : List A) (i : ℕ) (x : A) → i < length xs → x ≡ get_or xs i x → drop i xs ≡ x ∷ drop (i + 1) xs
drop-next xs i x h p = drop-cons xs i x h ∙ rw (add-one, ← p)

pub drop-end : {A : Type 0} (xs : List A) (i : ℕ) → length xs ≤ i → drop i xs ≡ []
drop-end xs i h = drop_all i xs h

-- the next element of a list is written, and the rest then
pub each-next : {A : Type 0} (words : A → List Word) (text : List ℕ) (xs : List A) (i : ℕ) (x : A) → i < length xs → x ≡ get_or xs i x →
    with_words text (each words (drop i xs)) ≡ with_words (with_words text (words x)) (each words (drop (i + 1) xs))
each-next words text xs i x h p = ap (λ rest. with_words text (each words rest)) (drop-next xs i x h p) ∙ words_more text (words x) (each words (drop (i + 1) xs))

pub map-next : {A : Type 0} (word : A → Word) (text : List ℕ) (xs : List A) (i : ℕ) (x : A) → i < length xs → x ≡ get_or xs i x →
    with_words text (map word (drop i xs)) ≡ with_words (with_word text (word x)) (map word (drop (i + 1) xs))
map-next word text xs i x h p = ap (λ rest. with_words text (map word rest)) (drop-next xs i x h p) ∙ words_next text (word x) (map word (drop (i + 1) xs))

pub args-next : (text : List ℕ) (xs : List Arg) (i : ℕ) (x : Arg) → i < length xs → x ≡ get_or xs i x →
    with_words text (map arg_word (drop i xs)) ≡ with_words (with_word text (arg_word x)) (map arg_word (drop (i + 1) xs))
args-next = map-next arg_word

pub names-next : (text : List ℕ) (xs : List (List ℕ)) (i : ℕ) (x : (List ℕ)) → i < length xs → x ≡ get_or xs i x →
    with_words text (map small (drop i xs)) ≡ with_words (with_word text (small x)) (map small (drop (i + 1) xs))
names-next = map-next small

pub vars-next : (text : List ℕ) (xs : List Var) (i : ℕ) (x : Var) → i < length xs → x ≡ get_or xs i x →
    with_words text (each (comma var_words) (drop i xs)) ≡ with_words (with_words (with_word text (fixed (codes ","))) (var_words x)) (each (comma var_words) (drop (i + 1) xs))
vars-next text xs i x h p = each-next (comma var_words) text xs i x h p ∙ ap (λ t. with_words t (each (comma var_words) (drop (i + 1) xs))) (words_next text (fixed (codes ",")) (var_words x))

pub mems-next : (text : List ℕ) (xs : List Mem) (i : ℕ) (x : Mem) → i < length xs → x ≡ get_or xs i x →
    with_words text (each (comma mem_words) (drop i xs)) ≡ with_words (with_words (with_word text (fixed (codes ","))) (mem_words x)) (each (comma mem_words) (drop (i + 1) xs))
mems-next text xs i x h p = each-next (comma mem_words) text xs i x h p ∙ ap (λ t. with_words t (each (comma mem_words) (drop (i + 1) xs))) (words_next text (fixed (codes ",")) (mem_words x))

pub insts-next : (text : List ℕ) (xs : List (List ℕ × List ℕ)) (i : ℕ) (x : (List ℕ × List ℕ)) → i < length xs → x ≡ get_or xs i x →
    with_words text (each (comma inst_words) (drop i xs)) ≡ with_words (with_words (with_word text (fixed (codes ","))) (inst_words x)) (each (comma inst_words) (drop (i + 1) xs))
insts-next text xs i x h p = each-next (comma inst_words) text xs i x h p ∙ ap (λ t. with_words t (each (comma inst_words) (drop (i + 1) xs))) (words_next text (fixed (codes ",")) (inst_words x))

pub constructors-next : (text : List ℕ) (xs : List (List ℕ)) (i : ℕ) (x : (List ℕ)) → i < length xs → x ≡ get_or xs i x →
    with_words text (each next_constructor (drop i xs)) ≡ with_words (with_word (with_word text (leading (codes "|"))) (capital x)) (each next_constructor (drop (i + 1) xs))
constructors-next text xs i x h p = each-next next_constructor text xs i x h p
    ∙ ap (λ t. with_words t (each next_constructor (drop (i + 1) xs)))
    (words_next text (leading (codes "|")) (capital x ∷ []) ∙ words_next (with_word text (leading (codes "|"))) (capital x) [] ∙ words_none (with_word (with_word text (leading (codes "|"))) (capital x)))

pub types-next : (text : List ℕ) (xs : List ObcType) (i : ℕ) (x : ObcType) → i < length xs → x ≡ get_or xs i x →
    with_words text (each type_words (drop i xs)) ≡ with_words (with_words text (type_words x)) (each type_words (drop (i + 1) xs))
types-next = each-next type_words

-- a list with commas between its elements, from its first one on
pub listed_from : {A : Type 0} (words : A → List Word) (text mid new : List ℕ) (xs : List A) (x : A) → 1 ≤ length xs → x ≡ get_or xs 0 x →
    mid ≡ with_words text (words x) → new ≡ with_words mid (each (comma words) (take (length xs - 1) (drop 1 xs))) → new ≡ with_words text (listed words xs)
listed_from words text mid new [] x n h p q = absurd (omega (arith, n))
listed_from words text mid new (y ∷ ys) x n h p q =
    q ∙ ap (λ zs. with_words mid (each (comma words) zs)) (take_all (length (y ∷ ys) - 1) ys (omega arith))
    ∙ ap (λ t. with_words t (each (comma words) ys)) (p ∙ ap (λ z. with_words text (words z)) h) ∙ sym (words_more text (words y) (each (comma words) ys))

-- constructors from their first one on
pub constructors_from : (text mid new : List ℕ) (xs : List (List ℕ)) (x : List ℕ) → 1 ≤ length xs → x ≡ get_or xs 0 x →
    mid ≡ with_word text (capital x) → new ≡ with_words mid (each next_constructor (take (length xs - 1) (drop 1 xs))) → new ≡ with_words text (constructors_words xs)
constructors_from text mid new [] x n h p q = absurd (omega (arith, n))
constructors_from text mid new (y ∷ ys) x n h p q =
    q ∙ ap (λ zs. with_words mid (each next_constructor zs)) (take_all (length (y ∷ ys) - 1) ys (omega arith))
    ∙ ap (λ t. with_words t (each next_constructor ys)) (p ∙ ap (λ z. with_word text (capital z)) h) ∙ sym (words_next text (capital y) (each next_constructor ys))

pub ruleset writing = (words_none, words_next, words_more)

pub ruleset listing = (words_none, vars-next, mems-next, insts-next, constructors-next, types-next, drop-end)

pub ruleset mapped = (words_none, args-next, names-next, drop-end)
