-- What reading within limits comes to on a phrase of the grammar where some of the limits are lifted: it reads the phrase, or one of
-- these limits stops it.
use Rattle.std.proofs.Common.{◌≡◌, ℕ, zero, suc, ◌<◌, ◌≤◌, arith, Bool, true, false, ◌&&◌, ◌||◌, not, if◌then◌else◌, List, [], ◌∷◌, ◌++◌, length, length-append, ◌⊎◌, inl, inr, Option, None, Some, refl, sym, ap, subst, ◌∙◌, append_assoc}
use Rattle.hp_base.specs.declared.limit.What.{What}
use Rattle.hp_base.specs.declared.limit.What.TheVariants.{Depth}
use Rattle.hp_tree.specs.Expressions.{variable}
use Rattle.hp_parser.specs.declared.fault.Fault.TheVariants.{Bad, Limit}
use Rattle.hp_parser.specs.Lexemes.{Lexeme, Kinds, is_ahead}
use Rattle.hp_parser.specs.Limits.{has_one, less, has_two, has_above}
use Rattle.hp_parser.specs.Notation.{Notation, Measured, Entry, alone, together}
use Rattle.hp_parser.specs.Outcomes.{Outcome, done, refused, ◌>>=◌}
use Rattle.hp_parser.specs.Relation.{Phrase, One, Both, Behind, Many, Separated, Suffix, Suffixes, Names, Entries, one_each, names_in}
use Rattle.hp_parser.specs.Reading.{Reader, read_token, read_then, read_convert, read_behind, read_either, Loop, read_loop, read_while, Taken, items_loop, read_items, Listed, only_if, with_next, separated_loop, read_entry, read_entries, suffix_loop}
use Rattle.hp_parser.proofs.Ways.{Then, union, Apart, only_where, first_then, goes_then, not_first, not_second}
use Rattle.hp_parser.proofs.Choices.{Give, Either, Inside, nothing, goes_either}
use Rattle.hp_parser.proofs.Loops.{Runs}
use Rattle.hp_parser.proofs.Restated.{Same, Convert, same_both, same_behind, ItemRuns, refuses_item, next_item, same_many, SuffixRuns, same_suffix, same_suffixes}
use Rattle.hp_parser.proofs.Listed.{SeparatedItem, SeparatedRuns, separated_begins, same_separated, comma, semicolon, same_names, An, same_entry, same_entries}
use Rattle.hp_parser.proofs.Leads.{then_first_full, then_second_full, one_full}
use Rattle.hp_parser.proofs.Sound.{and_1, and_2, not_true, or_known, above_two}
use Rattle.hp_parser.proofs.TokenSets.{are_apart, apart_seen}

-- what begins a phrase, and whether it may be empty
pub record Shape (first : Kinds) (empty : Bool) {A : Type 0} (phrase : Phrase A) : Type 0 where
  pub first_is : (x : Lexeme) (u : List Lexeme) (a : A) → phrase (x ∷ u) a → first x.kind ≡ true
  pub not_empty : empty ≡ false → (a : A) → phrase [] a → ⊥

pub same_shape : {A : Type 0} (first : Kinds) (empty : Bool) (p q : Phrase A) → Same p q → Shape first empty p → Shape first empty q
same_shape first empty p q s h = record { first_is = λ x u a k. h.first_is x u a (s.back (x ∷ u) a k); not_empty = λ e a k. h.not_empty e a (s.back [] a k) }

or_right : (a b : Bool) → b ≡ true → (a || b) ≡ true
or_right true b h = refl
or_right false b h = h

still : (begins : Kinds) (u rest : List Lexeme) → is_ahead begins u ≡ true → is_ahead begins (u ++ rest) ≡ true
still begins [] rest h = absurd cc
still begins (x ∷ u) rest h = h

like_more : (begins : Kinds) (u rest : List Lexeme) → is_ahead begins u ≡ true → (kinds : Kinds) → is_ahead kinds (u ++ rest) ≡ is_ahead kinds u
like_more begins [] rest h = absurd cc
like_more begins (x ∷ u) rest h = λ kinds. refl

longer : (begins : Kinds) (u rest : List Lexeme) → is_ahead begins u ≡ true → length rest < length (u ++ rest)
longer begins [] rest h = absurd cc
longer begins (x ∷ u) rest h = omega (arith, length-append u rest)

not_inside : (p q : Kinds) (ts : List Lexeme) → Inside p q → is_ahead q ts ≡ false → is_ahead p ts ≡ false
not_inside p q [] inside h = refl
not_inside p q (x ∷ ts) inside h = by (p x.kind) refl where
  by : (d : Bool) → p x.kind ≡ d → p x.kind ≡ false
  by true e = absurd (let both : true ≡ false = sym (inside x.kind e) ∙ h in cc)
  by false e = e

pub not_is_false : (b : Bool) → not b ≡ false → b ≡ true
not_is_false true h = refl
not_is_false false h = absurd cc

-- ---- shapes

pub give_shape : {A : Type 0} (a : A) → Shape nothing true (Give a)
give_shape a = record { first_is = λ x u b (e, f). absurd cc; not_empty = λ h b t. absurd cc }

pub token_shape : (kinds : Kinds) → Shape kinds false (One kinds)
token_shape kinds = record {
  first_is = λ x u t (e, h). let same : t ≡ x = cc in subst (λ (z : Lexeme). kinds z.kind ≡ true) same h;
  not_empty = λ h t. one_full kinds t;
}

pub convert_shape : {A B : Type 0} (f : A → B) (first : Kinds) (empty : Bool) (p : Phrase A) → Shape first empty p → Shape first empty (Convert f p)
convert_shape f first empty p s = record { first_is = λ x u b (a, h, g). s.first_is x u a h; not_empty = λ e b (a, h, g). s.not_empty e a h }

module _ {A B : Type 0} (first_1 first_2 : Kinds) (empty_1 empty_2 : Bool) (p : Phrase A) (q : A → Phrase B) (one : Shape first_1 empty_1 p) (two : (a : A) → Shape first_2 empty_2 (q a)) where
  first_by : (e : Bool) → empty_1 ≡ e → (x : Lexeme) (w : List Lexeme) (b : B) (a : A) (u v : List Lexeme) → x ∷ w ≡ u ++ v → p u a → q a v b → first_then first_1 empty_1 first_2 x.kind ≡ true
  first_by e k x w b a (y ∷ u) v f g h =
      let same : y ≡ x = cc in
      subst (λ (z : Lexeme). first_then first_1 empty_1 first_2 z.kind ≡ true) same (ap (λ d. d || only_where empty_1 first_2 y.kind) (one.first_is y u a g))
  first_by true k x w b a [] v f g h =
      or_right (first_1 x.kind) (only_where empty_1 first_2 x.kind) (ap (λ d. only_where d first_2 x.kind) k ∙ (two a).first_is x w b (subst (λ z. q a z b) (sym f) h))
  first_by false k x w b a [] v f g h = absurd (one.not_empty k a g)

  empty_by : (e1 e2 : Bool) → empty_1 ≡ e1 → empty_2 ≡ e2 → (e1 && e2) ≡ false → (b : B) → Then p q [] b → ⊥
  empty_by true true k l h b t = absurd cc
  empty_by true false k l h b t = then_second_full p q (λ a c. (two a).not_empty l c) b t
  empty_by false e2 k l h b t = then_first_full p q (one.not_empty k) b t

  pub then_shape : Shape (first_then first_1 empty_1 first_2) (empty_1 && empty_2) (Then p q)
  then_shape = record { first_is = λ x w b (a, u, v, e, h, k). first_by empty_1 refl x w b a u v e h k; not_empty = empty_by empty_1 empty_2 refl refl }

pub either_shape : {A : Type 0} (room : Bool) (begins first_2 : Kinds) (empty_2 : Bool) (p q : Phrase A) → Shape first_2 empty_2 q → Shape (union begins first_2) empty_2 (Either room begins p q)
either_shape room begins first_2 empty_2 p q two = record {
  first_is = λ x u a h. elim h [ inl g ↦ ap (λ d. d || first_2 x.kind) g.1 | inr g ↦ or_right (begins x.kind) (first_2 x.kind) (two.first_is x u a g) ];
  not_empty = λ e a h. elim h [ inl g ↦ absurd (let no : false ≡ true = g.1 in cc) | inr g ↦ two.not_empty e a g ];
}

module _ {S A B : Type 0} (begins : S → Kinds) (refuses : S → List Lexeme → Bool) (item : S → Phrase A) (next : S → A → S) (result : S → B) where
  -- what a loop reads begins with an item
  runs_ahead : {t : S} {w : List Lexeme} {b : B} → Runs begins refuses item next result t w b → (w ≡ []) ⊎ (is_ahead (begins t) w ≡ true)
  runs_ahead Runs.no_run = inl refl
  runs_ahead {t = t} (Runs.one_more {u = u} {v = v} h ahead allowed others) = inr (still (begins t) u v ahead)

  pub runs_shape : (starts : Kinds) (t : S) → Inside (begins t) starts → Shape starts true (Runs begins refuses item next result t)
  runs_shape starts t inside = record {
    first_is = λ x u b h. elim (runs_ahead h) [ inl e ↦ absurd (let no : (x ∷ u) ≡ [] = e in cc) | inr g ↦ inside x.kind g ];
    not_empty = λ e. absurd cc;
  }

-- the limits that are lifted
module _ (lifted : What → Bool) where
  abbrev pub Stopped : {A : Type 0} → Outcome A → Type 0
  Stopped o = (w : What) × (r : List Lexeme) × (lifted w ≡ true) × (o ≡ refused (Limit w) r)

  abbrev pub Comes : {A : Type 0} → A → List Lexeme → Outcome A → Type 0
  Comes a rest o = (o ≡ done a rest) ⊎ Stopped o

  -- every phrase is read, where what stands behind it does not go on, or a limit that is lifted stops the reading
  abbrev pub Complete : {A : Type 0} → Kinds → Reader A → Phrase A → Type 0
  Complete goes read p = (u : List Lexeme) (a : _) (rest : List Lexeme) → p u a → is_ahead goes rest ≡ false → Comes a rest (read (u ++ rest))

  comes_same : {A : Type 0} (o p : Outcome A) (a : A) (rest : List Lexeme) → o ≡ p → Comes a rest p → Comes a rest o
  comes_same o p a rest e c = subst (Comes a rest) (sym e) c

  comes_on : {A B : Type 0} (o : Outcome A) (f : A × List Lexeme → Outcome B) (a : A) (rest : List Lexeme) (b : B) (rest_2 : List Lexeme) → Comes a rest o → Comes b rest_2 (f (a, rest)) → Comes b rest_2 (o >>= f)
  comes_on o f a rest b rest_2 (inl e) c = comes_same (o >>= f) (f (a, rest)) b rest_2 (ap (λ z. z >>= f) e) c
  comes_on o f a rest b rest_2 (inr (w, r, l, e)) c = inr (w, r, l, ap (λ z. z >>= f) e)

  pub same_complete : {A : Type 0} (goes : Kinds) (read : Reader A) (p q : Phrase A) → Same p q → Complete goes read p → Complete goes read q
  same_complete goes read p q s c u a rest h stops = c u a rest (s.back u a h) stops

  pub give_complete : {A : Type 0} (a : A) → Complete nothing (done a) (Give a)
  give_complete a u b rest (e, f) stops = inl (ap (λ z. done a (z ++ rest)) e ∙ ap (λ z. done z rest) f)

  pub token_complete : (kinds : Kinds) → Complete nothing (read_token kinds) (One kinds)
  token_complete kinds u t rest (e, h) stops = inl (ap (λ z. read_token kinds (z ++ rest)) e ∙ ap (λ d. if d then done t rest else refused Bad (t ∷ rest)) h)

  pub convert_complete : {A B : Type 0} (f : A → B) (goes : Kinds) (read : Reader A) (p : Phrase A) → Complete goes read p → Complete goes (read_convert f read) (Convert f p)
  convert_complete f goes read p c u b rest (a, h, g) stops =
      comes_on (read (u ++ rest)) (λ r. done (f r.0) r.1) a rest b rest (c u a rest h stops) (inl (ap (λ z. done z rest) g))

  -- how the first phrase ends in front of the second
  stops_first : {B : Type 0} (first goes goes_first : Kinds) (empty : Bool) (q : Phrase B) → Shape first empty q → Apart first goes_first →
      (v : List Lexeme) (b : B) (rest : List Lexeme) → q v b → is_ahead (union goes (only_where empty goes_first)) rest ≡ false → is_ahead goes_first (v ++ rest) ≡ false
  stops_first first goes goes_first true q s apart [] b rest h stops = not_second goes goes_first rest stops
  stops_first first goes goes_first false q s apart [] b rest h stops = absurd (s.not_empty refl b h)
  stops_first first goes goes_first empty q s apart (x ∷ v) b rest h stops = apart x.kind (s.first_is x v b h)

  pub then_complete : {A B : Type 0} (goes_1 first_2 goes_2 : Kinds) (empty_2 : Bool) (p : Phrase A) (q : A → Phrase B) (read : Reader A) (f : A → Reader B) → Apart first_2 goes_1 →
      ((a : A) → Shape first_2 empty_2 (q a)) → Complete goes_1 read p → ((a : A) → Complete goes_2 (f a) (q a)) → Complete (goes_then goes_1 empty_2 goes_2) (read_then read f) (Then p q)
  then_complete goes_1 first_2 goes_2 empty_2 p q read f apart shape one two w b rest (a, u, v, e, h, k) stops =
      comes_same (read_then read f (w ++ rest)) (read_then read f (u ++ (v ++ rest))) b rest (ap (λ z. read_then read f (z ++ rest)) e ∙ ap (read_then read f) (append_assoc u v rest))
      (comes_on (read (u ++ (v ++ rest))) (λ r. f r.0 r.1) a (v ++ rest) b rest
      (one u a (v ++ rest) h (stops_first first_2 goes_2 goes_1 empty_2 (q a) (shape a) apart v b rest k stops)) (two a v b rest k (not_first goes_2 (only_where empty_2 goes_1) rest stops)))

  -- ---- one phrase, where there is room, or another

  module _ {A : Type 0} (what : What) (low wide : Bool) (begins goes_1 first_2 goes_2 : Kinds) (empty_2 : Bool) (p q : Phrase A) (read_1 read_2 : Reader A)
      (told : low ≡ false → wide ≡ true → lifted what ≡ true) (one : low ≡ true → Complete goes_1 read_1 p) (shape : Shape first_2 empty_2 q) (two : Complete goes_2 read_2 q) (apart : Apart first_2 begins) where
    not_ahead : (e : Bool) → empty_2 ≡ e → (u : List Lexeme) (a : A) (rest : List Lexeme) → q u a → is_ahead (only_where empty_2 begins) rest ≡ false → is_ahead begins (u ++ rest) ≡ false
    not_ahead e k (x ∷ u) a rest h stops = apart x.kind (shape.first_is x u a h)
    not_ahead true k [] a rest h stops = subst (λ b. is_ahead (only_where b begins) rest ≡ false) k stops
    not_ahead false k [] a rest h stops = absurd (shape.not_empty k a h)

    first_comes : (d : Bool) → low ≡ d → (ts : List Lexeme) (a : A) (rest : List Lexeme) → wide ≡ true → (low ≡ true → Comes a rest (read_1 ts)) → Comes a rest (if d then read_1 ts else refused (Limit what) ts)
    first_comes true e ts a rest k c = c e
    first_comes false e ts a rest k c = inr (what, ts, told e k, refl)

    pub either_complete : Complete (goes_either begins goes_1 goes_2 empty_2) (read_either what low begins read_1 read_2) (Either wide begins p q)
    either_complete u a rest (inl (k, b, h)) stops =
        comes_same (read_either what low begins read_1 read_2 (u ++ rest)) (if low then read_1 (u ++ rest) else refused (Limit what) (u ++ rest)) a rest
        (ap (λ d. if d then (if low then read_1 (u ++ rest) else refused (Limit what) (u ++ rest)) else read_2 (u ++ rest)) (still begins u rest b))
        (first_comes low refl (u ++ rest) a rest k (λ l. one l u a rest h (not_first goes_1 goes_2 rest (not_first (union goes_1 goes_2) (only_where empty_2 begins) rest stops))))
    either_complete u a rest (inr h) stops =
        comes_same (read_either what low begins read_1 read_2 (u ++ rest)) (read_2 (u ++ rest)) a rest
        (ap (λ d. if d then (if low then read_1 (u ++ rest) else refused (Limit what) (u ++ rest)) else read_2 (u ++ rest))
        (not_ahead empty_2 refl u a rest h (not_second (union goes_1 goes_2) (only_where empty_2 begins) rest stops)))
        (two u a rest h (not_second goes_1 goes_2 rest (not_first (union goes_1 goes_2) (only_where empty_2 begins) rest stops)))

  -- ---- loops, of which one state stands for another without limits

  module _ {S A B : Type 0} (l : Loop S A B) (begins : S → Kinds) (refuses : S → List Lexeme → Bool) (item : S → Phrase A) (next : S → A → S) (result : S → B) (Wide : S → S → Type 0) (goes_1 starts : Kinds)
      (same_begins : (s t : S) → Wide s t → begins t ≡ l.begins s) (same_result : (s t : S) → Wide s t → result t ≡ l.result s)
      (goes_on : (s t : S) (a : A) → Wide s t → Wide (l.next s a) (next t a))
      (told : (s t : S) (ts w : List Lexeme) → Wide s t → ((kinds : Kinds) → is_ahead kinds ts ≡ is_ahead kinds w) → l.refuses s ts ≡ true → refuses t w ≡ false → lifted l.what ≡ true)
      (inside : (t : S) → Inside (begins t) starts) (apart : Apart starts goes_1)
      (one : (s t : S) (ts : List Lexeme) → Wide s t → l.refuses s ts ≡ false → Complete goes_1 (l.item s) (item t)) where
    abbrev LoopPhrase : S → Phrase B
    LoopPhrase = Runs begins refuses item next result

    item_stops : (v rest : List Lexeme) (t : S) → (v ≡ []) ⊎ (is_ahead (begins t) v ≡ true) → is_ahead (union goes_1 starts) rest ≡ false → is_ahead goes_1 (v ++ rest) ≡ false
    item_stops [] rest t h stops = not_first goes_1 starts rest stops
    item_stops (x ∷ v) rest t (inl h) stops = absurd cc
    item_stops (x ∷ v) rest t (inr h) stops = apart x.kind (inside t x.kind h)

    ends_here : (n : ℕ) (s : S) (rest : List Lexeme) → is_ahead (l.begins s) rest ≡ false → read_loop l n s rest ≡ done (l.result s) rest
    ends_here zero s rest h = refl
    ends_here (suc n) s rest h =
        ap (λ d. if d then (if l.refuses s rest then refused (Limit l.what) rest else (l.item s rest >>= λ r. read_loop l n (l.next s r.0) r.1)) else done (l.result s) rest) h

    round_comes : (n : ℕ) (s t : S) → Wide s t → (u ts : List Lexeme) (a : A) (rest_1 : List Lexeme) (b : B) (rest : List Lexeme) → (r : Bool) → l.refuses s ts ≡ r → ((kinds : Kinds) → is_ahead kinds ts ≡ is_ahead kinds u) → refuses t u ≡ false →
        (l.refuses s ts ≡ false → Comes a rest_1 (l.item s ts)) → Comes b rest (read_loop l n (l.next s a) rest_1) →
        Comes b rest (if r then refused (Limit l.what) ts else (l.item s ts >>= λ q. read_loop l n (l.next s q.0) q.1))
    round_comes n s t wide u ts a rest_1 b rest true k like allowed first later = inr (l.what, ts, told s t ts u wide like k allowed, refl)
    round_comes n s t wide u ts a rest_1 b rest false k like allowed first later = comes_on (l.item s ts) (λ q. read_loop l n (l.next s q.0) q.1) a rest_1 b rest (first k) later

    loop_complete : (n : ℕ) (s t : S) → Wide s t → (w : List Lexeme) (b : B) (rest : List Lexeme) → length (w ++ rest) ≤ n → LoopPhrase t w b → is_ahead (union goes_1 starts) rest ≡ false →
        Comes b rest (read_loop l n s (w ++ rest))
    loop_complete n s t wide w b rest fits Runs.no_run stops =
        inl (ends_here n s rest (ap (λ kinds. is_ahead kinds rest) (sym (same_begins s t wide)) ∙ not_inside (begins t) starts rest (inside t) (not_second goes_1 starts rest stops))
        ∙ ap (λ z. done z rest) (sym (same_result s t wide)))
    loop_complete zero s t wide w b rest fits (Runs.one_more {u = u} {v = v} h ahead allowed others) stops =
        absurd (omega (arith, fits, longer (begins t) u (v ++ rest) ahead, ap length (append_assoc u v rest)))
    loop_complete (suc n) s t wide w b rest fits (Runs.one_more {u = u} {v = v} {a = a} h ahead allowed others) stops =
        let ts = u ++ (v ++ rest) in
        let here : is_ahead (l.begins s) ts ≡ true = ap (λ kinds. is_ahead kinds ts) (sym (same_begins s t wide)) ∙ still (begins t) u (v ++ rest) ahead in
        comes_same (read_loop l (suc n) s ((u ++ v) ++ rest)) (if l.refuses s ts then refused (Limit l.what) ts else (l.item s ts >>= λ q. read_loop l n (l.next s q.0) q.1)) b rest
        (ap (read_loop l (suc n) s) (append_assoc u v rest)
        ∙ ap (λ d. if d then (if l.refuses s ts then refused (Limit l.what) ts else (l.item s ts >>= λ q. read_loop l n (l.next s q.0) q.1)) else done (l.result s) ts) here)
        (round_comes n s t wide u ts a (v ++ rest) b rest (l.refuses s ts) refl (like_more (begins t) u (v ++ rest) ahead) allowed
        (λ k. one s t ts wide k u a (v ++ rest) h (item_stops v rest (next t a) (runs_ahead begins refuses item next result others) stops))
        (loop_complete n (l.next s a) (next t a) (goes_on s t a wide) v b rest (omega (arith, fits, longer (begins t) u (v ++ rest) ahead, ap length (append_assoc u v rest))) others stops))

    pub while_complete : (s t : S) → Wide s t → Complete (union goes_1 starts) (read_while l s) (LoopPhrase t)
    while_complete s t wide w b rest h stops = loop_complete (length (w ++ rest)) s t wide w b rest (omega arith) h stops

  -- ---- items, each of which takes some of a number

  told_by : (what : What) (wants : Kinds) (low wide : Option ℕ) (ts w : List Lexeme) → (lifted what ≡ false → wide ≡ low) → ((kinds : Kinds) → is_ahead kinds ts ≡ is_ahead kinds w) →
      (is_ahead wants ts && not (has_one low)) ≡ true → (is_ahead wants w && not (has_one wide)) ≡ false → (d : Bool) → lifted what ≡ d → lifted what ≡ true
  told_by what wants low wide ts w kept like h k true e = e
  told_by what wants low wide ts w kept like h k false e =
      absurd (let no : true ≡ false = sym h ∙ ap (λ z. is_ahead wants ts && not (has_one z)) (sym (kept e)) ∙ ap (λ b. b && not (has_one wide)) (like wants) ∙ k in cc)

  module _ {A : Type 0} (what : What) (begins wants : Kinds) (takes : A → ℕ) (reads : Option ℕ → Reader A) (p : Option ℕ → Phrase A) (goes : Kinds) (apart : Apart begins goes)
      (one : (low wide : Option ℕ) → (lifted what ≡ false → wide ≡ low) → Complete goes (reads low) (p wide)) where
    abbrev WideItems : Taken A → Taken A → Type 0
    WideItems s t = (t.items ≡ s.items) × (lifted what ≡ false → t.left ≡ s.left)

    goes_items : (s t : Taken A) (a : A) → WideItems s t → WideItems (next_item takes s a) (next_item takes t a)
    goes_items s t a (e, f) = (ap (λ z. z ++ (a ∷ [])) e, λ l. ap (λ z. less z (takes a)) (f l))

    pub items_complete : (s t : Taken A) → WideItems s t → Complete (union goes begins) (read_while (items_loop what begins wants takes reads) s) (ItemRuns begins wants takes p t)
    items_complete = while_complete (items_loop what begins wants takes reads) (λ s. begins) (refuses_item wants) (λ s. p s.left) (next_item takes) (λ (s : Taken A). s.items) WideItems goes begins
        (λ s t w. refl) (λ s t w. w.0) goes_items (λ s t ts w wide like h k. told_by what wants s.left t.left ts w wide.1 like h k (lifted what) refl) (λ t k e. e) apart
        (λ s t ts w k. one s.left t.left w.1)

  -- ---- phrases together with what holds of them

  pub record Passed (A : Type 0) : Type 1 where
    pub read : Reader A
    pub phrase : Phrase A
    pub first : Kinds
    pub goes : Kinds
    pub empty : Bool
    pub fits : Bool
    pub alive : Bool
    pub shape : fits ≡ true → Shape first empty phrase
    pub complete : fits ≡ true → alive ≡ true → Complete goes read phrase

  -- the same for each of many
  pub record Passes (S A : Type 0) : Type 1 where
    pub reads : S → Reader A
    pub phrases : S → Phrase A
    pub first : Kinds
    pub goes : Kinds
    pub empty : Bool
    pub fits : Bool
    pub alive : Bool
    pub shape : fits ≡ true → (s : S) → Shape first empty (phrases s)
    pub complete : fits ≡ true → alive ≡ true → (s : S) → Complete goes (reads s) (phrases s)

  abbrev constantly : {S A : Type 0} → Passed A → Passes S A
  constantly p = record {
    reads = λ s. p.read;
    phrases = λ s. p.phrase;
    first = p.first;
    goes = p.goes;
    empty = p.empty;
    fits = p.fits;
    alive = p.alive;
    shape = λ h s. p.shape h;
    complete = λ h k s. p.complete h k;
  }

  abbrev restated : {A : Type 0} → (s : Passed A) → (q : Phrase A) → Same s.phrase q → Passed A
  restated s q same = record {
    read = s.read;
    phrase = q;
    first = s.first;
    goes = s.goes;
    empty = s.empty;
    fits = s.fits;
    alive = s.alive;
    shape = λ h. same_shape s.first s.empty s.phrase q same (s.shape h);
    complete = λ h k. same_complete s.goes s.read s.phrase q same (s.complete h k);
  }

  abbrev remapped : {S T A : Type 0} → (T → S) → Passes S A → Passes T A
  remapped f p = record {
    reads = λ t. p.reads (f t);
    phrases = λ t. p.phrases (f t);
    first = p.first;
    goes = p.goes;
    empty = p.empty;
    fits = p.fits;
    alive = p.alive;
    shape = λ h t. p.shape h (f t);
    complete = λ h k t. p.complete h k (f t);
  }

  abbrev then_passed : {A B : Type 0} → Passed A → Passes A B → Passed B
  then_passed p f = record {
    read = read_then p.read f.reads;
    phrase = Then p.phrase f.phrases;
    first = first_then p.first p.empty f.first;
    goes = goes_then p.goes f.empty f.goes;
    empty = p.empty && f.empty;
    fits = p.fits && (f.fits && are_apart f.first p.goes);
    alive = p.alive && f.alive;
    shape = λ h.
        let h_2 = and_2 p.fits (f.fits && are_apart f.first p.goes) h in
        then_shape p.first f.first p.empty f.empty p.phrase f.phrases (p.shape (and_1 p.fits (f.fits && are_apart f.first p.goes) h)) (f.shape (and_1 f.fits (are_apart f.first p.goes) h_2));
    complete = λ h k.
        let h_1 = and_1 p.fits (f.fits && are_apart f.first p.goes) h in
        let h_2 = and_2 p.fits (f.fits && are_apart f.first p.goes) h in
        let h_3 = and_1 f.fits (are_apart f.first p.goes) h_2 in
        then_complete p.goes f.first f.goes f.empty p.phrase f.phrases p.read f.reads (apart_seen f.first p.goes (and_2 f.fits (are_apart f.first p.goes) h_2)) (f.shape h_3)
        (p.complete h_1 (and_1 p.alive f.alive k)) (f.complete h_3 (and_2 p.alive f.alive k));
  }

  abbrev pub give_passed : {A : Type 0} → A → Passed A
  give_passed a = record { read = done a; phrase = Give a; first = nothing; goes = nothing; empty = true; fits = true; alive = true; shape = λ h. give_shape a; complete = λ h k. give_complete a }

  abbrev pub token_passed : Kinds → Passed Lexeme
  token_passed kinds = record {
    read = read_token kinds;
    phrase = One kinds;
    first = kinds;
    goes = nothing;
    empty = false;
    fits = true;
    alive = true;
    shape = λ h. token_shape kinds;
    complete = λ h k. token_complete kinds;
  }

  abbrev pub convert_passed : {A B : Type 0} → (A → B) → Passed A → Passed B
  convert_passed f p = record {
    read = read_convert f p.read;
    phrase = Convert f p.phrase;
    first = p.first;
    goes = p.goes;
    empty = p.empty;
    fits = p.fits;
    alive = p.alive;
    shape = λ h. convert_shape f p.first p.empty p.phrase (p.shape h);
    complete = λ h k. convert_complete f p.goes p.read p.phrase (p.complete h k);
  }

  -- one function for each
  abbrev converts : {S A B : Type 0} → (S → A → B) → Passed A → Passes S B
  converts f p = record {
    reads = λ s. read_convert (f s) p.read;
    phrases = λ s. Convert (f s) p.phrase;
    first = p.first;
    goes = p.goes;
    empty = p.empty;
    fits = p.fits;
    alive = p.alive;
    shape = λ h s. convert_shape (f s) p.first p.empty p.phrase (p.shape h);
    complete = λ h k s. convert_complete (f s) p.goes p.read p.phrase (p.complete h k);
  }

  abbrev pub both_passed : {A B : Type 0} → Passed A → Passed B → Passed (A × B)
  both_passed p q = restated (then_passed p (converts (λ a b. (a, b)) q)) (Both p.phrase q.phrase) (same_both p.phrase q.phrase)

  abbrev behind_passed : {A : Type 0} → Kinds → Passed A → Passed A
  behind_passed kinds p = restated (then_passed (token_passed kinds) (constantly p)) (Behind kinds p.phrase) (same_behind kinds p.phrase)

  -- ---- choices

  -- whether there is room, and what is known of it; of some limits, that there is no more of it where they are kept
  pub record Door : Type 0 where
    pub low : Bool
    pub wide : Bool
    pub always : Bool
    pub sure : always ≡ true → low ≡ true
    pub known : Bool
    pub told_known : low ≡ true → known ≡ true
    pub opens : What → Bool
    pub kept : (w : What) → opens w ≡ true → lifted w ≡ false → wide ≡ low

  true_where : (d : Bool) → (d ≡ false → ⊥) → d ≡ true
  true_where true f = refl
  true_where false f = absurd (f refl)

  both_ways : (b : Bool) → b ≡ true → b ≡ false → ⊥
  both_ways b t f = absurd (let no : true ≡ false = sym t ∙ f in cc)

  pub door_told : (what : What) (door : Door) → (door.always || door.opens what) ≡ true → door.low ≡ false → door.wide ≡ true → lifted what ≡ true
  door_told what door h low wide = true_where (lifted what) (λ e. by door.always refl h e) where
    by : (d : Bool) → door.always ≡ d → (d || door.opens what) ≡ true → lifted what ≡ false → ⊥
    by true f k e = both_ways door.low (door.sure f) low
    by false f k e = both_ways door.wide wide (door.kept what k e ∙ low)

  abbrev pub either_passed : {A : Type 0} → What → Door → Kinds → Passed A → Passed A → Passed A
  either_passed what door begins p q = record {
    read = read_either what door.low begins p.read q.read;
    phrase = Either door.wide begins p.phrase q.phrase;
    first = union begins q.first;
    goes = goes_either begins p.goes q.goes q.empty;
    empty = q.empty;
    fits = p.fits && (q.fits && ((door.always || door.opens what) && are_apart q.first begins));
    alive = (not door.known || p.alive) && q.alive;
    shape = λ h. either_shape door.wide begins q.first q.empty p.phrase q.phrase (q.shape (and_1 q.fits ((door.always || door.opens what) && are_apart q.first begins) (and_2 p.fits (q.fits && ((door.always || door.opens what) && are_apart q.first begins)) h)));
    complete = λ h k.
        let h_1 = and_1 p.fits (q.fits && ((door.always || door.opens what) && are_apart q.first begins)) h in
        let h_2 = and_2 p.fits (q.fits && ((door.always || door.opens what) && are_apart q.first begins)) h in
        let h_3 = and_1 q.fits ((door.always || door.opens what) && are_apart q.first begins) h_2 in
        let h_4 = and_2 q.fits ((door.always || door.opens what) && are_apart q.first begins) h_2 in
        either_complete what door.low door.wide begins p.goes q.first q.goes q.empty p.phrase q.phrase p.read q.read (door_told what door (and_1 (door.always || door.opens what) (are_apart q.first begins) h_4))
        (λ l. p.complete h_1 (or_known door.known p.alive (and_1 (not door.known || p.alive) q.alive k) (door.told_known l))) (q.shape h_3) (q.complete h_3 (and_2 (not door.known || p.alive) q.alive k))
        (apart_seen q.first begins (and_2 (door.always || door.opens what) (are_apart q.first begins) h_4));
  }

  -- ---- numbers of items

  -- a limit, kept or lifted: of some limits, that it is the same where they are kept
  pub record Number : Type 0 where
    pub low : Option ℕ
    pub wide : Option ℕ
    pub opens : What → Bool
    pub kept : (w : What) → opens w ≡ true → lifted w ≡ false → wide ≡ low

  -- items read so far, with what is left of the number
  pub record Held (A : Type 0) (what : What) : Type 0 where
    pub low : Option ℕ
    pub wide : Option ℕ
    pub same : lifted what ≡ false → wide ≡ low
    pub items : List A

  module _ {A : Type 0} (what : What) (begins wants : Kinds) (takes : A → ℕ) (reads : Option ℕ → Reader A) (p : Option ℕ → Phrase A) (goes : Kinds) (fits alive : Bool)
      (one : fits ≡ true → alive ≡ true → (low wide : Option ℕ) → (lifted what ≡ false → wide ≡ low) → Complete goes (reads low) (p wide)) where
    abbrev items_passes : Passes (Held A what) (List A)
    items_passes = record {
      reads = λ s. read_while (items_loop what begins wants takes reads) (record { left = s.low; items = s.items });
      phrases = λ s. ItemRuns begins wants takes p (record { left = s.wide; items = s.items });
      first = begins;
      goes = union goes begins;
      empty = true;
      fits = fits && are_apart begins goes;
      alive = alive;
      shape = λ h s. runs_shape (λ t. begins) (refuses_item wants) (λ t. p t.left) (next_item takes) (λ (t : Taken A). t.items) begins (record { left = s.wide; items = s.items }) (λ k e. e);
      complete = λ h k s. items_complete what begins wants takes reads p goes (apart_seen begins goes (and_2 fits (are_apart begins goes) h)) (one (and_1 fits (are_apart begins goes) h) k)
          (record { left = s.low; items = s.items }) (record { left = s.wide; items = s.items }) (refl, s.same);
    }

  abbrev pub many_passed : {A : Type 0} → What → Kinds → Kinds → (A → ℕ) → Number → Passed A → Passed (List A)
  many_passed what begins wants takes count p = record {
    read = read_items what begins wants takes (λ left. p.read) count.low [];
    phrase = Many begins wants takes (λ left. p.phrase) count.wide;
    first = begins;
    goes = union p.goes begins;
    empty = true;
    fits = count.opens what && (p.fits && are_apart begins p.goes);
    alive = p.alive;
    shape = λ h. same_shape begins true (ItemRuns begins wants takes (λ left. p.phrase) (record { left = count.wide; items = [] })) (Many begins wants takes (λ left. p.phrase) count.wide) (same_many begins wants takes (λ left. p.phrase) count.wide)
        (runs_shape (λ t. begins) (refuses_item wants) (λ t. p.phrase) (next_item takes) (λ (t : Taken _). t.items) begins (record { left = count.wide; items = [] }) (λ k e. e));
    complete = λ h k.
        let h_1 = and_2 (count.opens what) (p.fits && are_apart begins p.goes) h in
        same_complete (union p.goes begins) (read_items what begins wants takes (λ left. p.read) count.low []) (ItemRuns begins wants takes (λ left. p.phrase) (record { left = count.wide; items = [] })) (Many begins wants takes (λ left. p.phrase) count.wide)
        (same_many begins wants takes (λ left. p.phrase) count.wide)
        (items_complete what begins wants takes (λ left. p.read) (λ left. p.phrase) p.goes (apart_seen begins p.goes (and_2 p.fits (are_apart begins p.goes) h_1))
        (λ low wide same. p.complete (and_1 p.fits (are_apart begins p.goes) h_1) k) (record { left = count.low; items = [] }) (record { left = count.wide; items = [] })
        (refl, count.kept what (and_1 (count.opens what) (p.fits && are_apart begins p.goes) h)));
  }

  -- ---- phrases with separators between them

  abbrev open_door : Door
  open_door = record { low = true; wide = true; always = true; sure = λ h. h; known = true; told_known = λ h. h; opens = λ w. true; kept = λ w k l. refl }

  pub no_refusal : false ≡ true → lifted Depth ≡ true
  no_refusal h = absurd cc

  pub never_sure : (a : Bool) → false ≡ true → a ≡ true
  never_sure a h = absurd cc

  pub only_inside : (b : Bool) (separates : Kinds) → Inside (only_if b separates) separates
  only_inside true separates k e = e
  only_inside false separates k e = absurd cc

  module _ {A : Type 0} (separates begins : Kinds) (p : Passed A) where
    abbrev separated_item : Passed (Option A)
    separated_item = then_passed (token_passed separates) (constantly (either_passed Depth open_door begins (convert_passed Some p) (give_passed None)))

    abbrev separated_behind : Passes A (List A)
    separated_behind = record {
      reads = λ a. read_while (separated_loop separates begins p.read) (record { items = a ∷ []; is_open = true });
      phrases = λ a. SeparatedRuns separates begins p.phrase (record { items = a ∷ []; is_open = true });
      first = separates;
      goes = union separated_item.goes separates;
      empty = true;
      fits = separated_item.fits && are_apart separates separated_item.goes;
      alive = separated_item.alive;
      shape = λ h a. runs_shape (separated_begins separates) (λ s ts. false) (λ s. SeparatedItem separates begins p.phrase) with_next (λ (s : Listed A). s.items) separates (record { items = a ∷ []; is_open = true }) (λ k e. e);
      complete = λ h k a. while_complete (separated_loop separates begins p.read) (separated_begins separates) (λ s ts. false) (λ s. SeparatedItem separates begins p.phrase) with_next (λ (s : Listed A). s.items) (λ s t. t ≡ s)
          separated_item.goes separates (λ s t e. ap (separated_begins separates) e) (λ s t e. ap (λ (z : Listed A). z.items) e) (λ s t a e. ap (λ z. with_next z a) e) (λ s t ts w e like k l. no_refusal k)
          (λ t. only_inside t.is_open separates) (apart_seen separates separated_item.goes (and_2 separated_item.fits (are_apart separates separated_item.goes) h))
          (λ s t ts e l. separated_item.complete (and_1 separated_item.fits (are_apart separates separated_item.goes) h) k)
          (record { items = a ∷ []; is_open = true }) (record { items = a ∷ []; is_open = true }) refl;
    }

    abbrev one_and_more : Passed (List A)
    one_and_more = then_passed p separated_behind

    pub separated_same : (not p.empty && one_and_more.fits) ≡ true → Same one_and_more.phrase (Separated separates begins p.phrase)
    separated_same h = same_separated separates begins p.phrase
        ((p.shape (and_1 p.fits (separated_behind.fits && are_apart separated_behind.first p.goes) (and_2 (not p.empty) one_and_more.fits h))).not_empty (not_true p.empty (and_1 (not p.empty) one_and_more.fits h)))

    abbrev separated_passed : Passed (List A)
    separated_passed = record {
      read = one_and_more.read;
      phrase = Separated separates begins p.phrase;
      first = one_and_more.first;
      goes = one_and_more.goes;
      empty = one_and_more.empty;
      fits = not p.empty && one_and_more.fits;
      alive = one_and_more.alive;
      shape = λ h. same_shape one_and_more.first one_and_more.empty one_and_more.phrase (Separated separates begins p.phrase) (separated_same h) (one_and_more.shape (and_2 (not p.empty) one_and_more.fits h));
      complete = λ h k. same_complete one_and_more.goes one_and_more.read one_and_more.phrase (Separated separates begins p.phrase) (separated_same h) (one_and_more.complete (and_2 (not p.empty) one_and_more.fits h) k);
    }

  -- ---- phrases behind an operand

  -- some expression
  abbrev some_measured : Measured
  some_measured = record { expr = variable (record { line = 0; col = 0; end = 0 }) []; height = 0; first = record { line = 0; col = 0; end = 0 }; end = 0 }

  -- a limit of levels, and whether it is known to allow two
  pub record Deep : Type 0 where
    pub low : Option ℕ
    pub wide : Option ℕ
    pub two : Bool
    pub is_two : has_two low ≡ two
    pub opens : What → Bool
    pub kept : (w : What) → opens w ≡ true → lifted w ≡ false → wide ≡ low

  module _ {A : Type 0} (begins : Kinds) (join : Measured → A → Measured) (depth : Deep) (first : Passed Measured) (q : Passed A) where
    abbrev suffix_at : Measured → Passed Measured
    suffix_at m = either_passed Depth (record {
      low = has_above depth.low m.height;
      wide = has_above depth.wide m.height;
      always = false;
      sure = never_sure (has_above depth.low m.height);
      known = depth.two;
      told_known = λ h. sym depth.is_two ∙ above_two depth.low m.height h;
      opens = depth.opens;
      kept = λ w k l. ap (λ z. has_above z m.height) (depth.kept w k l);
    }) begins (convert_passed (join m) q) (give_passed m)

    abbrev each_suffix : Passes Measured Measured
    each_suffix = record {
      reads = λ m. (suffix_at m).read;
      phrases = λ m. (suffix_at m).phrase;
      first = (suffix_at some_measured).first;
      goes = (suffix_at some_measured).goes;
      empty = (suffix_at some_measured).empty;
      fits = (suffix_at some_measured).fits;
      alive = (suffix_at some_measured).alive;
      shape = λ h m. (suffix_at m).shape h;
      complete = λ h k m. (suffix_at m).complete h k;
    }

    abbrev pub suffix_passed : Passed Measured
    suffix_passed = restated (then_passed first each_suffix) (Suffix begins join depth.wide first.phrase q.phrase) (same_suffix begins join depth.wide first.phrase q.phrase)

    pub above_told : (low wide : Bool) → (lifted Depth ≡ false → wide ≡ low) → not low ≡ true → not wide ≡ false → (d : Bool) → lifted Depth ≡ d → lifted Depth ≡ true
    above_told low wide same h k true e = e
    above_told low wide same h k false e = absurd (let no : true ≡ false = sym h ∙ ap not (sym (same e)) ∙ k in cc)

    abbrev each_suffixes : Passes Measured Measured
    each_suffixes = record {
      reads = λ m. read_while (suffix_loop begins join depth.low q.read) m;
      phrases = λ m. SuffixRuns begins join depth.wide q.phrase m;
      first = begins;
      goes = union q.goes begins;
      empty = true;
      fits = q.fits && (depth.opens Depth && are_apart begins q.goes);
      alive = not depth.two || q.alive;
      shape = λ h m. runs_shape (λ t. begins) (λ t ts. not (has_above depth.wide t.height)) (λ t. q.phrase) join (λ (t : Measured). t) begins m (λ k e. e);
      complete = λ h k m.
          let h_1 = and_2 q.fits (depth.opens Depth && are_apart begins q.goes) h in
          while_complete (suffix_loop begins join depth.low q.read) (λ t. begins) (λ t ts. not (has_above depth.wide t.height)) (λ t. q.phrase) join (λ (t : Measured). t) (λ s t. t ≡ s) q.goes begins
          (λ s t e. refl) (λ s t e. e) (λ s t a e. ap (λ z. join z a) e)
          (λ s t ts w e like l r. above_told (has_above depth.low s.height) (has_above depth.wide t.height)
          (λ f. ap (λ z. has_above z t.height) (depth.kept Depth (and_1 (depth.opens Depth) (are_apart begins q.goes) h_1) f) ∙ ap (λ (z : Measured). has_above depth.low z.height) e) l r (lifted Depth) refl)
          (λ t k e. e) (apart_seen begins q.goes (and_2 (depth.opens Depth) (are_apart begins q.goes) h_1))
          (λ s t ts e l. q.complete (and_1 q.fits (depth.opens Depth && are_apart begins q.goes) h)
          (or_known depth.two q.alive k (sym depth.is_two ∙ above_two depth.low s.height (not_is_false (has_above depth.low s.height) l)))) m m refl;
    }

    abbrev pub suffixes_passed : Passed Measured
    suffixes_passed = restated (then_passed first each_suffixes) (Suffixes begins join depth.wide first.phrase q.phrase) (same_suffixes begins join depth.wide first.phrase q.phrase)

  -- ---- entries

  module _ {A B C : Type 0} (what : What) (begins : Kinds) (a : Passed A) (b : Passed B) (c : Passed C) where
    abbrev names_passes : Passes (Held B what) (List B)
    names_passes = items_passes what comma comma one_each (λ count. read_behind comma b.read) (λ count. Behind comma b.phrase) (behind_passed comma b).goes (behind_passed comma b).fits (behind_passed comma b).alive
        (λ h k low wide same. (behind_passed comma b).complete h k)

    module _ (low wide : Option ℕ) (same : lifted what ≡ false → wide ≡ low) where
      abbrev names_held : B → Held B what
      names_held x = record { low = less low 1; wide = less wide 1; same = λ l. ap (λ z. less z 1) (same l); items = x ∷ [] }

      abbrev names_at : Passed (List B)
      names_at = restated (then_passed b (remapped names_held names_passes)) (Names b.phrase wide) (same_names b.phrase wide)

      abbrev entry_at : Passed (Entry A B C)
      entry_at = restated (either_passed what open_door begins (convert_passed alone a) (then_passed names_at (converts together c))) (An begins a.phrase b.phrase c.phrase wide) (same_entry begins a.phrase b.phrase c.phrase wide)

      abbrev entry_behind : Passed (Entry A B C)
      entry_behind = behind_passed semicolon entry_at

    -- sets and flags are the same for every number
    abbrev some_behind : Passed (Entry A B C)
    some_behind = entry_behind None None (λ l. refl)

    abbrev entries_passes : Passes (Held (Entry A B C) what) (List (Entry A B C))
    entries_passes = items_passes what semicolon semicolon names_in (λ count. read_behind semicolon (read_entry what begins a.read b.read c.read count)) (λ count. Behind semicolon (An begins a.phrase b.phrase c.phrase count))
        some_behind.goes some_behind.fits some_behind.alive (λ h k low wide same. (entry_behind low wide same).complete h k)

    abbrev pub entries_at : (low wide : Option ℕ) (same : lifted what ≡ false → wide ≡ low) → Passed (List (Entry A B C))
    entries_at low wide same = restated (then_passed (entry_at low wide same)
        (remapped (λ (e : Entry A B C). record { low = less low (names_in e); wide = less wide (names_in e); same = λ l. ap (λ z. less z (names_in e)) (same l); items = e ∷ [] }) entries_passes))
        (Entries begins a.phrase b.phrase c.phrase wide) (same_entries begins a.phrase b.phrase c.phrase wide)

  abbrev pub entries_passed : {A B C : Type 0} → What → Number → Kinds → Passed A → Passed B → Passed C → Passed (List (Entry A B C))
  entries_passed what count begins a b c = record {
    read = read_entries what count.low begins a.read b.read c.read;
    phrase = Entries begins a.phrase b.phrase c.phrase count.wide;
    first = (entries_at what begins a b c None None (λ l. refl)).first;
    goes = (entries_at what begins a b c None None (λ l. refl)).goes;
    empty = (entries_at what begins a b c None None (λ l. refl)).empty;
    fits = count.opens what && (entries_at what begins a b c None None (λ l. refl)).fits;
    alive = (entries_at what begins a b c None None (λ l. refl)).alive;
    shape = λ h.
        (entries_at what begins a b c count.low count.wide (count.kept what (and_1 (count.opens what) (entries_at what begins a b c None None (λ l. refl)).fits h))).shape
        (and_2 (count.opens what) (entries_at what begins a b c None None (λ l. refl)).fits h);
    complete = λ h k.
        (entries_at what begins a b c count.low count.wide (count.kept what (and_1 (count.opens what) (entries_at what begins a b c None None (λ l. refl)).fits h))).complete
        (and_2 (count.opens what) (entries_at what begins a b c None None (λ l. refl)).fits h) k;
  }

  abbrev pub pass : Notation Passed
  pass = record {
    Depth = Deep;
    Count = Number;
    unlimited = record { low = None; wide = None; opens = λ w. true; kept = λ w k l. refl };
    Room = Door;
    always = open_door;
    deeper = λ depth. record {
      low = has_two depth.low;
      wide = has_two depth.wide;
      always = false;
      sure = never_sure (has_two depth.low);
      known = depth.two;
      told_known = λ h. sym depth.is_two ∙ h;
      opens = depth.opens;
      kept = λ w k l. ap has_two (depth.kept w k l);
    };
    give = give_passed;
    token = token_passed;
    convert = convert_passed;
    both = both_passed;
    either_within = either_passed;
    many_within = many_passed;
    separated = separated_passed;
    entries = entries_passed;
    suffix = suffix_passed;
    suffixes = suffixes_passed;
  }
