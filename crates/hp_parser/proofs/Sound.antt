-- The notation read in a third way: phrases together with their laws. Whether the sets of tokens fit is computed.
use Rattle.std.proofs.Common.{◌≡◌, ℕ, suc, ◌≤◌, arith, Bool, true, false, ◌&&◌, ◌||◌, not, List, [], ◌∷◌, ◌++◌, Option, None, Some, refl, sym, ap, subst, ◌∙◌}
use Rattle.hp_base.specs.declared.limit.What.{What}
use Rattle.hp_base.specs.declared.limit.What.TheVariants.{Depth as DepthLimit}
use Rattle.hp_tree.specs.Expressions.{variable}
use Rattle.hp_parser.specs.Lexemes.{Lexeme, Kinds, is_ahead}
use Rattle.hp_parser.specs.Limits.{has_one, less, has_two, has_above}
use Rattle.hp_parser.specs.Notation.{Notation, Measured, Entry, alone, together}
use Rattle.hp_parser.specs.Relation.{Phrase, Both, Behind, Many, Separated, Suffix, Suffixes, Names, OneEntry, Entries, one_each, names_in}
use Rattle.hp_parser.specs.Reading.{Reader, read_behind, read_while, Taken, Loop, items_loop, Listed, only_if, separated_loop, read_entry, suffix_loop}
use Rattle.hp_parser.specs.Programs.{Begins}
use Rattle.hp_parser.proofs.Ways.{Way, Reads, Free, Starts, Within, union, Apart, only_where, first_then, goes_then, Then, then_way, then_free, then_within}
use Rattle.hp_parser.proofs.Choices.{Inside, nothing, Give, give_way, give_free, give_within, none_starts, token_way, token_free, token_within, token_starts, either_way, goes_either, either_free, either_starts, either_within_limits}
use Rattle.hp_parser.proofs.Loops.{ByHead, loop_free, loop_starts, loop_within}
use Rattle.hp_parser.proofs.Restated.{Same, same_free, same_starts, same_within, with_phrases, Convert, same_convert, same_both, same_behind, ItemRuns, refuses_item, same_many, SuffixRuns, same_suffixes, same_suffix}
use Rattle.hp_parser.proofs.Listed.{SeparatedRuns, same_separated, comma, semicolon, same_names, same_entry, same_entries}
use Rattle.std.proofs.lemmas.Bool.{le-leb, leb-true}
use Rattle.hp_parser.proofs.TokenSets.{are_apart, is_inside, has_some, apart_seen, inside_seen, some_seen}

-- a way to read, and its laws, which hold where the sets fit, within limits where that is alive
pub record Sound (A : Type 0) : Type 1 where
  pub way : Way A
  pub first : Kinds
  pub goes : Kinds
  pub empty : Bool
  pub fits : Bool
  pub alive : Bool
  pub starts : Bool
  pub free_laws : fits ≡ true → Free first goes empty way.free_read way.free
  pub start_law : fits ≡ true → starts ≡ true → Starts first way.free
  pub laws : fits ≡ true → alive ≡ true → Within first goes empty way

-- the same for each of many
pub record Sounds (S A : Type 0) : Type 1 where
  pub ways : S → Way A
  pub first : Kinds
  pub goes : Kinds
  pub empty : Bool
  pub fits : Bool
  pub alive : Bool
  pub starts : Bool
  pub free_laws : fits ≡ true → (s : S) → Free first goes empty (ways s).free_read (ways s).free
  pub start_law : fits ≡ true → starts ≡ true → (s : S) → Starts first (ways s).free
  pub laws : fits ≡ true → alive ≡ true → (s : S) → Within first goes empty (ways s)

pub and_1 : (a b : Bool) → (a && b) ≡ true → a ≡ true
and_1 true b h = refl
and_1 false b h = absurd cc

pub and_2 : (a b : Bool) → (a && b) ≡ true → b ≡ true
and_2 true b h = h
and_2 false b h = absurd cc

pub not_true : (a : Bool) → not a ≡ true → a ≡ false
not_true true h = absurd cc
not_true false h = refl

pub or_known : (a b : Bool) → (not a || b) ≡ true → a ≡ true → b ≡ true
or_known true b h e = h
or_known false b h e = absurd cc

abbrev constantly : {S A : Type 0} → Sound A → Sounds S A
constantly p = record {
  ways = λ s. p.way;
  first = p.first;
  goes = p.goes;
  empty = p.empty;
  fits = p.fits;
  alive = p.alive;
  starts = p.starts;
  free_laws = λ h s. p.free_laws h;
  start_law = λ h k s. p.start_law h k;
  laws = λ h k s. p.laws h k;
}

abbrev at : {S A : Type 0} → Sounds S A → S → Sound A
at f s = record {
  way = f.ways s;
  first = f.first;
  goes = f.goes;
  empty = f.empty;
  fits = f.fits;
  alive = f.alive;
  starts = f.starts;
  free_laws = λ h. f.free_laws h s;
  start_law = λ h k. f.start_law h k s;
  laws = λ h k. f.laws h k s;
}

-- ---- sequences

pub then_start : {A B : Type 0} (first_1 first_2 : Kinds) (empty starts_1 starts_2 : Bool) (p : Phrase A) (q : A → Phrase B) → (empty ≡ true → (a : A) × p [] a) → ((a : A) → Begins (q a) []) →
    (starts_1 ≡ true → Starts first_1 p) → (starts_2 ≡ true → (a : A) → Starts first_2 (q a)) → (starts_1 && (not empty || starts_2)) ≡ true →
    Starts (first_then first_1 empty first_2) (Then p q)
then_start first_1 first_2 empty starts_1 starts_2 p q may two s_1 s_2 h x k = by empty refl (first_1 x.kind) refl k where
  first_one : first_1 x.kind ≡ true → Begins (Then p q) (x ∷ [])
  first_one e =
      let b = s_1 (and_1 starts_1 (not empty || starts_2) h) x e in
      let c = two b.1 in
      (b.0 ++ c.0, c.1, (b.1, x ∷ b.0, c.0, refl, b.2, c.2))

  second_one : empty ≡ true → first_2 x.kind ≡ true → Begins (Then p q) (x ∷ [])
  second_one e f =
      let a = may e in
      let started = s_2 (or_known empty starts_2 (and_2 starts_1 (not empty || starts_2) h) e) a.0 x f in
      (started.0, started.1, (a.0, [], x ∷ started.0, refl, a.1, started.2))

  by : (e : Bool) → empty ≡ e → (d : Bool) → first_1 x.kind ≡ d → (first_1 x.kind || only_where empty first_2 x.kind) ≡ true → Begins (Then p q) (x ∷ [])
  by e f true g k = first_one g
  by true f false g k = second_one f (sym (ap (λ b. b || only_where empty first_2 x.kind) g ∙ ap (λ b. only_where b first_2 x.kind) f) ∙ k)
  by false f false g k = absurd (let no : false ≡ true = sym (ap (λ b. b || only_where empty first_2 x.kind) g ∙ ap (λ b. only_where b first_2 x.kind) f) ∙ k in cc)

abbrev then_sound : {A B : Type 0} → Sound A → Sounds A B → Sound B
then_sound p f = record {
  way = then_way p.way f.ways;
  first = first_then p.first p.empty f.first;
  goes = goes_then p.goes f.empty f.goes;
  empty = p.empty && f.empty;
  fits = p.fits && (f.fits && are_apart f.first p.goes);
  alive = p.alive && f.alive;
  starts = p.starts && (not p.empty || f.starts);
  free_laws = λ h.
      let h_1 = and_1 p.fits (f.fits && are_apart f.first p.goes) h in
      let h_2 = and_2 p.fits (f.fits && are_apart f.first p.goes) h in
      then_free p.first p.goes f.first f.goes p.empty f.empty p.way.free_read p.way.free (λ a. (f.ways a).free_read) (λ a. (f.ways a).free)
      (p.free_laws h_1) (f.free_laws (and_1 f.fits (are_apart f.first p.goes) h_2)) (apart_seen f.first p.goes (and_2 f.fits (are_apart f.first p.goes) h_2));
  start_law = λ h k.
      let h_1 = and_1 p.fits (f.fits && are_apart f.first p.goes) h in
      let h_2 = and_1 f.fits (are_apart f.first p.goes) (and_2 p.fits (f.fits && are_apart f.first p.goes) h) in
      then_start p.first f.first p.empty p.starts f.starts p.way.free (λ a. (f.ways a).free) (p.free_laws h_1).may_be_empty (λ a. (f.free_laws h_2 a).begins)
      (λ s. p.start_law h_1 s) (λ s. f.start_law h_2 s) k;
  laws = λ h k.
      let h_1 = and_1 p.fits (f.fits && are_apart f.first p.goes) h in
      let h_2 = and_2 p.fits (f.fits && are_apart f.first p.goes) h in
      let h_3 = and_1 f.fits (are_apart f.first p.goes) h_2 in
      then_within p.first p.goes f.first f.goes p.empty f.empty p.way f.ways (p.laws h_1 (and_1 p.alive f.alive k)) (f.laws h_3 (and_2 p.alive f.alive k)) (λ a. (f.free_laws h_3 a).begins)
      (apart_seen f.first p.goes (and_2 f.fits (are_apart f.first p.goes) h_2));
}

-- the same laws for phrases that have the same
abbrev restated : {A : Type 0} → (s : Sound A) → (p f : Phrase A) → Same s.way.phrase p → Same s.way.free f → Sound A
restated s p f low wide = record {
  way = with_phrases s.way p f;
  first = s.first;
  goes = s.goes;
  empty = s.empty;
  fits = s.fits;
  alive = s.alive;
  starts = s.starts;
  free_laws = λ h. same_free s.first s.goes s.empty s.way.free_read s.way.free f wide (s.free_laws h);
  start_law = λ h k. same_starts s.first s.way.free f wide (s.start_law h k);
  laws = λ h k. same_within s.first s.goes s.empty s.way p f low wide (s.laws h k);
}

abbrev remapped : {S T A : Type 0} → (T → S) → Sounds S A → Sounds T A
remapped f p = record {
  ways = λ t. p.ways (f t);
  first = p.first;
  goes = p.goes;
  empty = p.empty;
  fits = p.fits;
  alive = p.alive;
  starts = p.starts;
  free_laws = λ h t. p.free_laws h (f t);
  start_law = λ h k t. p.start_law h k (f t);
  laws = λ h k t. p.laws h k (f t);
}

abbrev give_sound : {A : Type 0} → A → Sound A
give_sound a = record {
  way = give_way a;
  first = nothing;
  goes = nothing;
  empty = true;
  fits = true;
  alive = true;
  starts = true;
  free_laws = λ h. give_free a;
  start_law = λ h k. none_starts (Give a);
  laws = λ h k. give_within a;
}

abbrev gives : {A B : Type 0} → (A → B) → Sounds A B
gives f = record {
  ways = λ a. give_way (f a);
  first = nothing;
  goes = nothing;
  empty = true;
  fits = true;
  alive = true;
  starts = true;
  free_laws = λ h a. give_free (f a);
  start_law = λ h k a. none_starts (Give (f a));
  laws = λ h k a. give_within (f a);
}

abbrev token_sound : Kinds → Sound Lexeme
token_sound kinds = record {
  way = token_way kinds;
  first = kinds;
  goes = nothing;
  empty = false;
  fits = has_some kinds;
  alive = true;
  starts = true;
  free_laws = λ h. token_free kinds (some_seen kinds h);
  start_law = λ h k. token_starts kinds;
  laws = λ h k. token_within kinds (some_seen kinds h);
}

abbrev convert_sound : {A B : Type 0} → (A → B) → Sound A → Sound B
convert_sound f p = restated (then_sound p (gives f)) (Convert f p.way.phrase) (Convert f p.way.free) (same_convert f p.way.phrase) (same_convert f p.way.free)

-- one function for each
abbrev converts : {S A B : Type 0} → (S → A → B) → Sound A → Sounds S B
converts f p = record {
  ways = λ s. (convert_sound (f s) p).way;
  first = first_then p.first p.empty nothing;
  goes = goes_then p.goes true nothing;
  empty = p.empty && true;
  fits = p.fits && (true && are_apart nothing p.goes);
  alive = p.alive && true;
  starts = p.starts && (not p.empty || true);
  free_laws = λ h s. (convert_sound (f s) p).free_laws h;
  start_law = λ h k s. (convert_sound (f s) p).start_law h k;
  laws = λ h k s. (convert_sound (f s) p).laws h k;
}

abbrev both_sound : {A B : Type 0} → Sound A → Sound B → Sound (A × B)
both_sound p q = restated (then_sound p (converts (λ a b. (a, b)) q)) (Both p.way.phrase q.way.phrase) (Both p.way.free q.way.free)
    (same_both p.way.phrase q.way.phrase) (same_both p.way.free q.way.free)

abbrev behind_sound : {A : Type 0} → Kinds → Sound A → Sound A
behind_sound kinds p = restated (then_sound (token_sound kinds) (constantly p)) (Behind kinds p.way.phrase) (Behind kinds p.way.free)
    (same_behind kinds p.way.phrase) (same_behind kinds p.way.free)

-- ---- choices

-- whether there is room, and what is known of it
pub record RoomIs : Type 0 where
  pub is : Bool
  pub known : Bool
  pub only : is ≡ true → known ≡ true

abbrev either_sound : {A : Type 0} → What → RoomIs → Kinds → Sound A → Sound A → Sound A
either_sound what room begins p q = record {
  way = either_way what room.is begins p.way q.way;
  first = union begins q.first;
  goes = goes_either begins p.goes q.goes q.empty;
  empty = q.empty;
  fits = p.fits && (q.fits && (not p.empty && (are_apart q.first begins && is_inside begins p.first)));
  alive = (not room.known || p.alive) && (p.starts && q.alive);
  starts = p.starts && q.starts;
  free_laws = λ h.
      let h_1 = and_1 p.fits (q.fits && (not p.empty && (are_apart q.first begins && is_inside begins p.first))) h in
      let h_2 = and_2 p.fits (q.fits && (not p.empty && (are_apart q.first begins && is_inside begins p.first))) h in
      let h_3 = and_2 q.fits (not p.empty && (are_apart q.first begins && is_inside begins p.first)) h_2 in
      let h_4 = and_2 (not p.empty) (are_apart q.first begins && is_inside begins p.first) h_3 in
      let full = not_true p.empty (and_1 (not p.empty) (are_apart q.first begins && is_inside begins p.first) h_3) in
      either_free what begins p.first p.goes q.first q.goes q.empty p.way.free_read p.way.free q.way.free_read q.way.free
      (subst (λ e. Free p.first p.goes e p.way.free_read p.way.free) full (p.free_laws h_1))
      (q.free_laws (and_1 q.fits (not p.empty && (are_apart q.first begins && is_inside begins p.first)) h_2))
      (apart_seen q.first begins (and_1 (are_apart q.first begins) (is_inside begins p.first) h_4));
  start_law = λ h k.
      let h_1 = and_1 p.fits (q.fits && (not p.empty && (are_apart q.first begins && is_inside begins p.first))) h in
      let h_2 = and_2 p.fits (q.fits && (not p.empty && (are_apart q.first begins && is_inside begins p.first))) h in
      let h_4 = and_2 (not p.empty) (are_apart q.first begins && is_inside begins p.first) (and_2 q.fits (not p.empty && (are_apart q.first begins && is_inside begins p.first)) h_2) in
      either_starts begins p.first q.first p.way.free q.way.free (inside_seen begins p.first (and_2 (are_apart q.first begins) (is_inside begins p.first) h_4))
      (p.start_law h_1 (and_1 p.starts q.starts k))
      (q.start_law (and_1 q.fits (not p.empty && (are_apart q.first begins && is_inside begins p.first)) h_2) (and_2 p.starts q.starts k));
  laws = λ h k.
      let h_1 = and_1 p.fits (q.fits && (not p.empty && (are_apart q.first begins && is_inside begins p.first))) h in
      let h_2 = and_2 p.fits (q.fits && (not p.empty && (are_apart q.first begins && is_inside begins p.first))) h in
      let h_3 = and_2 q.fits (not p.empty && (are_apart q.first begins && is_inside begins p.first)) h_2 in
      let h_4 = and_2 (not p.empty) (are_apart q.first begins && is_inside begins p.first) h_3 in
      let full = not_true p.empty (and_1 (not p.empty) (are_apart q.first begins && is_inside begins p.first) h_3) in
      let k_1 = and_1 (not room.known || p.alive) (p.starts && q.alive) k in
      let k_2 = and_2 (not room.known || p.alive) (p.starts && q.alive) k in
      let inside = inside_seen begins p.first (and_2 (are_apart q.first begins) (is_inside begins p.first) h_4) in
      either_within_limits what room.is begins p.first p.goes q.first q.goes q.empty p.way q.way
      (λ r. subst (λ e. Within p.first p.goes e p.way) full (p.laws h_1 (or_known room.known p.alive k_1 (room.only r))))
      (q.laws (and_1 q.fits (not p.empty && (are_apart q.first begins && is_inside begins p.first)) h_2) (and_2 p.starts q.alive k_2))
      (λ x e. p.start_law h_1 (and_1 p.starts q.alive k_2) x (inside x.kind e))
      (apart_seen q.first begins (and_1 (are_apart q.first begins) (is_inside begins p.first) h_4));
}

-- ---- loops

-- items of a family that comes to one without limits
pub record Family (A : Type 0) : Type 1 where
  pub sounds : Sounds (Option ℕ) A
  pub free_reads : Option ℕ → Reader A
  pub free_phrases : Option ℕ → Phrase A
  pub same_reads : (count : Option ℕ) (ts : List Lexeme) → free_reads None ts ≡ (sounds.ways count).free_read ts
  pub same_phrase : (count : Option ℕ) (u : List Lexeme) (a : A) → (sounds.ways count).free u a → free_phrases None u a
  pub back_phrase : (count : Option ℕ) (u : List Lexeme) (a : A) → free_phrases None u a → (sounds.ways count).free u a

abbrev constant_family : {A : Type 0} → Sound A → Family A
constant_family p = record {
  sounds = constantly p;
  free_reads = λ count. p.way.free_read;
  free_phrases = λ count. p.way.free;
  same_reads = λ count ts. refl;
  same_phrase = λ count u a h. h;
  back_phrase = λ count u a h. h;
}

and_false : (a : Bool) → (a && false) ≡ false
and_false true = refl
and_false false = refl

module _ {A : Type 0} (what : What) (begins wants : Kinds) (takes : A → ℕ) (p : Family A) where
  abbrev low_items : Taken A → Taken A
  low_items s = s

  abbrev freed_items : Taken A → Taken A
  freed_items s = record { left = None; items = s.items }

  items_by_head : ByHead (refuses_item {A = A} wants)
  items_by_head s zs ts like = ap (λ b. b && not (has_one s.left)) (like wants)

  abbrev fit_items : Bool
  fit_items = p.sounds.fits && (not p.sounds.empty && (are_apart begins p.sounds.goes && is_inside begins p.sounds.first))

  module _ (h : fit_items ≡ true) where
    items_fit : p.sounds.fits ≡ true
    items_fit = and_1 p.sounds.fits (not p.sounds.empty && (are_apart begins p.sounds.goes && is_inside begins p.sounds.first)) h

    items_rest : (not p.sounds.empty && (are_apart begins p.sounds.goes && is_inside begins p.sounds.first)) ≡ true
    items_rest = and_2 p.sounds.fits (not p.sounds.empty && (are_apart begins p.sounds.goes && is_inside begins p.sounds.first)) h

    items_full : p.sounds.empty ≡ false
    items_full = not_true p.sounds.empty (and_1 (not p.sounds.empty) (are_apart begins p.sounds.goes && is_inside begins p.sounds.first) items_rest)

    items_sets : (are_apart begins p.sounds.goes && is_inside begins p.sounds.first) ≡ true
    items_sets = and_2 (not p.sounds.empty) (are_apart begins p.sounds.goes && is_inside begins p.sounds.first) items_rest

    items_apart : Apart begins p.sounds.goes
    items_apart = apart_seen begins p.sounds.goes (and_1 (are_apart begins p.sounds.goes) (is_inside begins p.sounds.first) items_sets)

    items_inside : Inside begins p.sounds.first
    items_inside = inside_seen begins p.sounds.first (and_2 (are_apart begins p.sounds.goes) (is_inside begins p.sounds.first) items_sets)

    item_free : (count : Option ℕ) → Free p.sounds.first p.sounds.goes false (p.sounds.ways count).free_read (p.sounds.ways count).free
    item_free count = subst (λ e. Free p.sounds.first p.sounds.goes e (p.sounds.ways count).free_read (p.sounds.ways count).free) items_full (p.sounds.free_laws items_fit count)

    item_starts : p.sounds.starts ≡ true → (count : Option ℕ) → Starts begins (p.sounds.ways count).free
    item_starts k count x e = p.sounds.start_law items_fit k count x (items_inside x.kind e)

  -- a state without a limit
  abbrev Unlimited : Taken A → Type 0
  Unlimited s = s.left ≡ None

  abbrev free_items : Loop (Taken A) A (List A)
  free_items = items_loop what begins wants takes p.free_reads

  module _ (h : fit_items ≡ true) where
    free_item : (s : Taken A) → Unlimited s → Reads p.sounds.first p.sounds.goes false (p.free_reads s.left) (p.free_phrases s.left)
    free_item s u = subst (λ z. Reads p.sounds.first p.sounds.goes false (p.free_reads z) (p.free_phrases z)) (sym u) (record {
      complete = λ w a rest k stops. p.same_reads None (w ++ rest) ∙ (item_free h None).reads.complete w a rest (p.back_phrase None w a k) stops;
      first_is = λ x w a k. (item_free h None).reads.first_is x w a (p.back_phrase None (x ∷ w) a k);
      not_empty = λ e a k. (item_free h None).reads.not_empty e a (p.back_phrase None [] a k);
    })

    pub items_free : (s : Taken A) → Free begins (union p.sounds.goes begins) true (read_while free_items (freed_items s)) (ItemRuns begins wants takes p.free_phrases (freed_items s))
    items_free s = loop_free free_items (λ t. p.free_phrases t.left) p.sounds.first p.sounds.goes begins (λ t k e. e) (items_apart h) items_by_head
        (λ t. Unit {0}) (λ t ts r. tt) Unlimited (λ t a u. ap (λ z. less z (takes a)) u) (λ t u can. free_item t u) (freed_items s) refl

    items_never : (s : Taken A) (ts : List Lexeme) → refuses_item wants (freed_items s) ts ≡ false
    items_never s ts = and_false (is_ahead wants ts)

    pub items_within : p.sounds.alive ≡ true → p.sounds.starts ≡ true → (s : Taken A) →
        Within begins (union p.sounds.goes begins) true (record {
          read = read_while (items_loop what begins wants takes (λ count. (p.sounds.ways count).read)) s;
          free_read = read_while free_items (freed_items s);
          phrase = ItemRuns begins wants takes (λ count. (p.sounds.ways count).phrase) s;
          free = ItemRuns begins wants takes p.free_phrases (freed_items s);
        })
    items_within k starts s = loop_within (items_loop what begins wants takes (λ count. (p.sounds.ways count).read)) free_items (λ t. p.sounds.ways t.left) freed_items (λ t. p.free_phrases t.left)
        p.sounds.first p.sounds.goes begins (λ t ts. refl) (λ t ts. p.same_reads t.left ts) (λ t u a g. p.same_phrase t.left u a g) (λ t. refl) (λ t a. refl) (λ t. refl)
        items_never (λ t k e. e) (items_apart h) items_by_head (λ t. Unit {0}) (λ t ts r. tt)
        (λ t can. subst (λ e. Within p.sounds.first p.sounds.goes e (p.sounds.ways t.left)) (items_full h) (p.sounds.laws (items_fit h) k t.left))
        (λ t. item_free h t.left) (λ t. item_starts h starts t.left) s

    pub items_start : p.sounds.starts ≡ true → (s : Taken A) → Starts begins (ItemRuns begins wants takes p.free_phrases (freed_items s))
    items_start starts s = loop_starts free_items (λ t. p.free_phrases t.left) (freed_items s)
        (λ x e. let b = item_starts h starts None x e in (b.0, b.1, p.same_phrase None (x ∷ b.0) b.1 b.2)) (items_never s)

  -- the items behind some
  abbrev items_sounds : Sounds (Taken A) (List A)
  items_sounds = record {
    ways = λ s. record {
      read = read_while (items_loop what begins wants takes (λ count. (p.sounds.ways count).read)) s;
      free_read = read_while free_items (freed_items s);
      phrase = ItemRuns begins wants takes (λ count. (p.sounds.ways count).phrase) s;
      free = ItemRuns begins wants takes p.free_phrases (freed_items s);
    };
    first = begins;
    goes = union p.sounds.goes begins;
    empty = true;
    fits = fit_items;
    alive = p.sounds.alive && p.sounds.starts;
    starts = p.sounds.starts;
    free_laws = items_free;
    start_law = λ h k. items_start h k;
    laws = λ h k s. items_within h (and_1 p.sounds.alive p.sounds.starts k) (and_2 p.sounds.alive p.sounds.starts k) s;
  }

abbrev many_sound : {A : Type 0} → What → Kinds → Kinds → (A → ℕ) → Option ℕ → Sound A → Sound (List A)
many_sound what begins wants takes left p =
    restated (at (items_sounds what begins wants takes (constant_family p)) (record { left = left; items = [] }))
    (Many begins wants takes (λ count. p.way.phrase) left) (Many begins wants takes (λ count. p.way.free) None)
    (same_many begins wants takes (λ count. p.way.phrase) left) (same_many begins wants takes (λ count. p.way.free) None)

-- ---- phrases with separators between them

abbrev open_room : RoomIs
open_room = record { is = true; known = true; only = λ h. h }

module _ {A : Type 0} (separates begins : Kinds) (p : Sound A) where
  abbrev separated_item : Sound (Option A)
  separated_item = then_sound (token_sound separates) (constantly (either_sound DepthLimit open_room begins (convert_sound Some p) (give_sound None)))

  abbrev low_separated : Loop (Listed A) (Option A) (List A)
  low_separated = separated_loop separates begins p.way.read

  abbrev free_separated : Loop (Listed A) (Option A) (List A)
  free_separated = separated_loop separates begins p.way.free_read

  abbrev separated_way : Listed A → Way (List A)
  separated_way s = record {
    read = read_while low_separated s;
    free_read = read_while free_separated s;
    phrase = SeparatedRuns separates begins p.way.phrase s;
    free = SeparatedRuns separates begins p.way.free s;
  }

  abbrev fit_separated : Bool
  fit_separated = separated_item.fits && (are_apart separates separated_item.goes && is_inside separates separated_item.first)

  only_inside : (b : Bool) → Inside (only_if b separates) separates
  only_inside true k e = e
  only_inside false k e = absurd cc

  module _ (h : fit_separated ≡ true) where
    pub separated_fit : separated_item.fits ≡ true
    separated_fit = and_1 separated_item.fits (are_apart separates separated_item.goes && is_inside separates separated_item.first) h

    separated_sets : (are_apart separates separated_item.goes && is_inside separates separated_item.first) ≡ true
    separated_sets = and_2 separated_item.fits (are_apart separates separated_item.goes && is_inside separates separated_item.first) h

    separated_apart : Apart separates separated_item.goes
    separated_apart = apart_seen separates separated_item.goes (and_1 (are_apart separates separated_item.goes) (is_inside separates separated_item.first) separated_sets)

    pub separated_inside : Inside separates separated_item.first
    separated_inside = inside_seen separates separated_item.first (and_2 (are_apart separates separated_item.goes) (is_inside separates separated_item.first) separated_sets)

    pub separated_free : (s : Listed A) → Free separates (union separated_item.goes separates) true (read_while free_separated s) (SeparatedRuns separates begins p.way.free s)
    separated_free s = loop_free free_separated (λ t. separated_item.way.free) separated_item.first separated_item.goes separates (λ t. only_inside t.is_open) separated_apart
        (λ t zs ts like. refl) (λ t. Unit {0}) (λ t ts r. tt) (λ t. Unit {0}) (λ t a g. tt) (λ t g can. (separated_item.free_laws separated_fit).reads) s tt

    pub separated_within : separated_item.alive ≡ true → separated_item.starts ≡ true → (s : Listed A) → Within separates (union separated_item.goes separates) true (separated_way s)
    separated_within k starts s = loop_within low_separated free_separated (λ t. separated_item.way) (λ t. t) (λ t. separated_item.way.free)
        separated_item.first separated_item.goes separates (λ t ts. refl) (λ t ts. refl) (λ t u a g. g) (λ t. refl) (λ t a. refl) (λ t. refl) (λ t ts. refl)
        (λ t. only_inside t.is_open) separated_apart (λ t zs ts like. refl) (λ t. Unit {0}) (λ t ts r. tt)
        (λ t can. separated_item.laws separated_fit k) (λ t. separated_item.free_laws separated_fit)
        (λ t x e. separated_item.start_law separated_fit starts x (separated_inside x.kind (only_inside t.is_open x.kind e))) s

  abbrev opened_by : A → Listed A
  opened_by a = record { items = a ∷ []; is_open = true }

  abbrev separated_behind : Sounds A (List A)
  separated_behind = record {
    ways = λ a. separated_way (opened_by a);
    first = separates;
    goes = union separated_item.goes separates;
    empty = true;
    fits = fit_separated;
    alive = separated_item.alive && separated_item.starts;
    starts = separated_item.starts;
    free_laws = λ h a. separated_free h (opened_by a);
    start_law = λ h k a. loop_starts free_separated (λ t. separated_item.way.free) (opened_by a)
        (λ x e. separated_item.start_law (separated_fit h) k x (separated_inside h x.kind e)) (λ ts. refl);
    laws = λ h k a. separated_within h (and_1 separated_item.alive separated_item.starts k) (and_2 separated_item.alive separated_item.starts k) (opened_by a);
  }

  abbrev one_and_more : Sound (List A)
  one_and_more = then_sound p separated_behind

  full_phrase : (q : Phrase A) (read : Reader A) → (not p.empty) ≡ true → Reads p.first p.goes p.empty read q → (a : A) → q [] a → ⊥
  full_phrase q read e r a g = r.not_empty (not_true p.empty e) a g

  fit_one : one_and_more.fits ≡ true → p.fits ≡ true
  fit_one h = and_1 p.fits (separated_behind.fits && are_apart separated_behind.first p.goes) h

  pub free_same : (not p.empty) ≡ true → one_and_more.fits ≡ true → Same one_and_more.way.free (Separated separates begins p.way.free)
  free_same e g = same_separated separates begins p.way.free (full_phrase p.way.free p.way.free_read e (p.free_laws (fit_one g)).reads)

  pub low_same : (not p.empty) ≡ true → one_and_more.fits ≡ true → one_and_more.alive ≡ true → Same one_and_more.way.phrase (Separated separates begins p.way.phrase)
  low_same e g k =
      same_separated separates begins p.way.phrase (full_phrase p.way.phrase p.way.read e (p.laws (fit_one g) (and_1 p.alive separated_behind.alive k)).reads)

  abbrev separated_sound : Sound (List A)
  separated_sound = record {
    way = with_phrases one_and_more.way (Separated separates begins p.way.phrase) (Separated separates begins p.way.free);
    first = one_and_more.first;
    goes = one_and_more.goes;
    empty = one_and_more.empty;
    fits = not p.empty && one_and_more.fits;
    alive = one_and_more.alive;
    starts = one_and_more.starts;
    free_laws = λ h.
        let e = and_1 (not p.empty) one_and_more.fits h in
        let g = and_2 (not p.empty) one_and_more.fits h in
        same_free one_and_more.first one_and_more.goes one_and_more.empty one_and_more.way.free_read one_and_more.way.free (Separated separates begins p.way.free) (free_same e g) (one_and_more.free_laws g);
    start_law = λ h k.
        let e = and_1 (not p.empty) one_and_more.fits h in
        let g = and_2 (not p.empty) one_and_more.fits h in
        same_starts one_and_more.first one_and_more.way.free (Separated separates begins p.way.free) (free_same e g) (one_and_more.start_law g k);
    laws = λ h k.
        let e = and_1 (not p.empty) one_and_more.fits h in
        let g = and_2 (not p.empty) one_and_more.fits h in
        same_within one_and_more.first one_and_more.goes one_and_more.empty one_and_more.way (Separated separates begins p.way.phrase) (Separated separates begins p.way.free)
        (low_same e g k) (free_same e g) (one_and_more.laws g k);
  }

-- ---- phrases behind an operand

-- a limit of levels, and whether it is known to allow two
pub record DepthIs : Type 0 where
  pub limit : Option ℕ
  pub two : Bool
  pub is_two : has_two limit ≡ two

pub above_two : (limit : Option ℕ) (height : ℕ) → has_above limit height ≡ true → has_two limit ≡ true
above_two None height h = refl
above_two (Some n) height h = le-leb 2 n (let le : suc (suc height) ≤ n = leb-true (suc (suc height)) n h in omega (arith, le))

not_false : (b : Bool) → not b ≡ false → b ≡ true
not_false true h = refl
not_false false h = absurd cc

-- some expression
abbrev some_measured : Measured
some_measured = record { expr = variable (record { line = 0; col = 0; end = 0 }) []; height = 0; first = record { line = 0; col = 0; end = 0 }; end = 0 }

module _ {A : Type 0} (begins : Kinds) (join : Measured → A → Measured) (depth : DepthIs) (first : Sound Measured) (q : Sound A) where
  abbrev suffix_at : Measured → Sound Measured
  suffix_at m = either_sound DepthLimit (record { is = has_above depth.limit m.height; known = depth.two; only = λ h. sym depth.is_two ∙ above_two depth.limit m.height h })
      begins (convert_sound (join m) q) (give_sound m)

  abbrev each_suffix : Sounds Measured Measured
  each_suffix = record {
    ways = λ m. (suffix_at m).way;
    first = (suffix_at some_measured).first;
    goes = (suffix_at some_measured).goes;
    empty = (suffix_at some_measured).empty;
    fits = (suffix_at some_measured).fits;
    alive = (suffix_at some_measured).alive;
    starts = (suffix_at some_measured).starts;
    free_laws = λ h m. (suffix_at m).free_laws h;
    start_law = λ h k m. (suffix_at m).start_law h k;
    laws = λ h k m. (suffix_at m).laws h k;
  }

  abbrev suffix_sound : Sound Measured
  suffix_sound = restated (then_sound first each_suffix) (Suffix begins join depth.limit first.way.phrase q.way.phrase) (Suffix begins join None first.way.free q.way.free)
      (same_suffix begins join depth.limit first.way.phrase q.way.phrase) (same_suffix begins join None first.way.free q.way.free)

  abbrev low_suffixes : Loop Measured A Measured
  low_suffixes = suffix_loop begins join depth.limit q.way.read

  abbrev free_suffixes : Loop Measured A Measured
  free_suffixes = suffix_loop begins join None q.way.free_read

  abbrev suffixes_way : Measured → Way Measured
  suffixes_way m = record {
    read = read_while low_suffixes m;
    free_read = read_while free_suffixes m;
    phrase = SuffixRuns begins join depth.limit q.way.phrase m;
    free = SuffixRuns begins join None q.way.free m;
  }

  abbrev fit_suffixes : Bool
  fit_suffixes = q.fits && (not q.empty && (are_apart begins q.goes && is_inside begins q.first))

  abbrev HasAbove : Measured → Type 0
  HasAbove m = has_above depth.limit m.height ≡ true

  allowed_above : (m : Measured) (ts : List Lexeme) → not (has_above depth.limit m.height) ≡ false → HasAbove m
  allowed_above m ts h = not_false (has_above depth.limit m.height) h

  module _ (h : fit_suffixes ≡ true) where
    suffixes_rest : (not q.empty && (are_apart begins q.goes && is_inside begins q.first)) ≡ true
    suffixes_rest = and_2 q.fits (not q.empty && (are_apart begins q.goes && is_inside begins q.first)) h

    pub suffixes_fit : q.fits ≡ true
    suffixes_fit = and_1 q.fits (not q.empty && (are_apart begins q.goes && is_inside begins q.first)) h

    suffixes_full : q.empty ≡ false
    suffixes_full = not_true q.empty (and_1 (not q.empty) (are_apart begins q.goes && is_inside begins q.first) suffixes_rest)

    suffixes_sets : (are_apart begins q.goes && is_inside begins q.first) ≡ true
    suffixes_sets = and_2 (not q.empty) (are_apart begins q.goes && is_inside begins q.first) suffixes_rest

    suffixes_apart : Apart begins q.goes
    suffixes_apart = apart_seen begins q.goes (and_1 (are_apart begins q.goes) (is_inside begins q.first) suffixes_sets)

    pub suffixes_inside : Inside begins q.first
    suffixes_inside = inside_seen begins q.first (and_2 (are_apart begins q.goes) (is_inside begins q.first) suffixes_sets)

    one_free : Free q.first q.goes false q.way.free_read q.way.free
    one_free = subst (λ e. Free q.first q.goes e q.way.free_read q.way.free) suffixes_full (q.free_laws suffixes_fit)

    pub suffixes_free : (m : Measured) → Free begins (union q.goes begins) true (read_while free_suffixes m) (SuffixRuns begins join None q.way.free m)
    suffixes_free m = loop_free free_suffixes (λ t. q.way.free) q.first q.goes begins (λ t k e. e) suffixes_apart (λ t zs ts like. refl)
        (λ t. Unit {0}) (λ t ts r. tt) (λ t. Unit {0}) (λ t a g. tt) (λ t g can. one_free.reads) m tt

    pub suffixes_within : (not depth.two || q.alive) ≡ true → q.starts ≡ true → (m : Measured) → Within begins (union q.goes begins) true (suffixes_way m)
    suffixes_within k starts m = loop_within low_suffixes free_suffixes (λ t. q.way) (λ t. t) (λ t. q.way.free) q.first q.goes begins
        (λ t ts. refl) (λ t ts. refl) (λ t u a g. g) (λ t. refl) (λ t a. refl) (λ t. refl) (λ t ts. refl) (λ t k e. e) suffixes_apart (λ t zs ts like. refl)
        HasAbove allowed_above
        (λ t can. subst (λ e. Within q.first q.goes e q.way) suffixes_full
        (q.laws suffixes_fit (or_known depth.two q.alive k (sym depth.is_two ∙ above_two depth.limit t.height can))))
        (λ t. one_free) (λ t x e. q.start_law suffixes_fit starts x (suffixes_inside x.kind e)) m

  abbrev each_suffixes : Sounds Measured Measured
  each_suffixes = record {
    ways = suffixes_way;
    first = begins;
    goes = union q.goes begins;
    empty = true;
    fits = fit_suffixes;
    alive = (not depth.two || q.alive) && q.starts;
    starts = q.starts;
    free_laws = suffixes_free;
    start_law = λ h k m. loop_starts free_suffixes (λ t. q.way.free) m (λ x e. q.start_law (suffixes_fit h) k x (suffixes_inside h x.kind e)) (λ ts. refl);
    laws = λ h k m. suffixes_within h (and_1 (not depth.two || q.alive) q.starts k) (and_2 (not depth.two || q.alive) q.starts k) m;
  }

  abbrev suffixes_sound : Sound Measured
  suffixes_sound = restated (then_sound first each_suffixes) (Suffixes begins join depth.limit first.way.phrase q.way.phrase) (Suffixes begins join None first.way.free q.way.free)
      (same_suffixes begins join depth.limit first.way.phrase q.way.phrase) (same_suffixes begins join None first.way.free q.way.free)

-- ---- entries

module _ {A B C : Type 0} (what : What) (begins : Kinds) (a : Sound A) (b : Sound B) (c : Sound C) where
  abbrev names_at : Option ℕ → Sound (List B)
  names_at left = restated
      (then_sound b (remapped (λ (x : B). record { left = less left 1; items = x ∷ [] }) (items_sounds what comma comma one_each (constant_family (behind_sound comma b)))))
      (Names b.way.phrase left) (Names b.way.free None) (same_names b.way.phrase left) (same_names b.way.free None)

  abbrev entry_at : Option ℕ → Sound (Entry A B C)
  entry_at left = restated
      (either_sound what open_room begins (convert_sound alone a) (then_sound (names_at left) (converts together c)))
      (OneEntry begins a.way.phrase b.way.phrase c.way.phrase left) (OneEntry begins a.way.free b.way.free c.way.free None)
      (same_entry begins a.way.phrase b.way.phrase c.way.phrase left) (same_entry begins a.way.free b.way.free c.way.free None)

  abbrev entry_behind : Option ℕ → Sound (Entry A B C)
  entry_behind left = behind_sound semicolon (entry_at left)

  abbrev entry_family : Family (Entry A B C)
  entry_family = record {
    sounds = record {
      ways = λ left. (entry_behind left).way;
      first = (entry_behind None).first;
      goes = (entry_behind None).goes;
      empty = (entry_behind None).empty;
      fits = (entry_behind None).fits;
      alive = (entry_behind None).alive;
      starts = (entry_behind None).starts;
      free_laws = λ h left. (entry_behind left).free_laws h;
      start_law = λ h k left. (entry_behind left).start_law h k;
      laws = λ h k left. (entry_behind left).laws h k;
    };
    free_reads = λ count. read_behind semicolon (read_entry what begins a.way.free_read b.way.free_read c.way.free_read count);
    free_phrases = λ count. Behind semicolon (OneEntry begins a.way.free b.way.free c.way.free count);
    same_reads = λ count ts. refl;
    same_phrase = λ count u e h. h;
    back_phrase = λ count u e h. h;
  }

  abbrev entries_sound : Option ℕ → Sound (List (Entry A B C))
  entries_sound left = restated
      (then_sound (entry_at left) (remapped (λ (e : Entry A B C). record { left = less left (names_in e); items = e ∷ [] }) (items_sounds what semicolon semicolon names_in entry_family)))
      (Entries begins a.way.phrase b.way.phrase c.way.phrase left) (Entries begins a.way.free b.way.free c.way.free None)
      (same_entries begins a.way.phrase b.way.phrase c.way.phrase left) (same_entries begins a.way.free b.way.free c.way.free None)

-- ---- the notation

abbrev pub sound : Notation Sound
sound = record {
  Depth = DepthIs;
  Count = Option ℕ;
  unlimited = None;
  Room = RoomIs;
  always = open_room;
  deeper = λ depth. record { is = has_two depth.limit; known = depth.two; only = λ h. sym depth.is_two ∙ h };
  give = give_sound;
  token = token_sound;
  convert = convert_sound;
  both = both_sound;
  either_within = either_sound;
  many_within = many_sound;
  separated = separated_sound;
  entries = λ what left begins a b c. entries_sound what begins a b c left;
  suffix = suffix_sound;
  suffixes = suffixes_sound;
}
