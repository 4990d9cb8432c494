-- Where reading within limits leads, where some of the limits are lifted: what is read is a phrase of the grammar without these, and
-- where one of these stops the reading, the tokens up to and with the refused one begin a phrase of it.
use Rattle.std.proofs.Common.{◌≡◌, ℕ, zero, suc, Bool, true, false, ◌&&◌, not, if◌then◌else◌, List, [], ◌∷◌, ◌++◌, length, ◌⊎◌, inl, inr, Option, None, Some, refl, sym, ap, subst, ◌∙◌, append_assoc}
use Rattle.std.proofs.lemmas.List.{append-nil}
use Rattle.hp_base.specs.declared.limit.What.{What}
use Rattle.hp_base.specs.declared.limit.What.TheVariants.{Depth}
use Rattle.hp_parser.specs.declared.fault.Fault.TheVariants.{Bad, Limit}
use Rattle.hp_parser.specs.Lexemes.{Lexeme, Kinds, is_ahead}
use Rattle.hp_parser.specs.Limits.{has_one, less, has_two, has_above}
use Rattle.hp_parser.specs.Notation.{Measured, Entry, alone, together}
use Rattle.hp_parser.specs.Outcomes.{Outcome, done, refused, ◌>>=◌}
use Rattle.hp_parser.specs.Relation.{Phrase, One, Both, Behind, Many, Separated, Suffix, Suffixes, Names, OneEntry, Entries, one_each, names_in}
use Rattle.hp_parser.specs.Reading.{Reader, read_token, read_then, read_convert, read_both, read_behind, read_either, Loop, read_loop, read_while, Taken, items_loop, read_items, Listed, with_next, separated_loop, read_separated, read_names, read_entry, read_entries, read_suffix, suffix_loop}
use Rattle.hp_parser.specs.Programs.{Begins}
use Rattle.hp_parser.proofs.Ways.{Starts, Then}
use Rattle.hp_parser.proofs.Choices.{Give, Either}
use Rattle.hp_parser.proofs.Loops.{Runs}
use Rattle.hp_parser.proofs.Restated.{Same, Convert, same_convert, same_both, same_behind, ItemRuns, refuses_item, next_item, same_many, SuffixRuns, OneSuffix, same_suffix, same_suffixes}
use Rattle.hp_parser.proofs.Listed.{SeparatedItem, SeparatedRuns, separated_begins, same_separated, comma, semicolon, same_names, EntryChoice, An, same_entry, same_entries}

-- the tokens up to and with a refused one begin a phrase
abbrev pub Reaches : {A : Type 0} → Phrase A → List Lexeme → List Lexeme → Type 0
Reaches p ts rest = (u : List Lexeme) × (x : Lexeme) × (more : List Lexeme) × (rest ≡ x ∷ more) × (ts ≡ u ++ (x ∷ more)) × Begins p (u ++ (x ∷ []))

-- Some tokens are none, or begin as others do.
abbrev Headed : List Lexeme → List Lexeme → Type 0
Headed ts w = (w ≡ []) ⊎ ((kinds : Kinds) → is_ahead kinds w ≡ is_ahead kinds ts)

headed : (ts u rest : List Lexeme) → ts ≡ u ++ rest → Headed ts u
headed ts [] rest e = inl refl
headed ts (x ∷ u) rest e = inr (λ kinds. ap (is_ahead kinds) (sym e))

headed_on : (ts u : List Lexeme) (x : Lexeme) (more v : List Lexeme) → ts ≡ u ++ (x ∷ more) → Headed ts ((u ++ (x ∷ [])) ++ v)
headed_on ts [] x more v e = inr (λ kinds. ap (is_ahead kinds) (sym e))
headed_on ts (y ∷ u) x more v e = inr (λ kinds. ap (is_ahead kinds) (sym e))

-- a part at the front that is not empty begins as the whole
front_headed : (ts w : List Lexeme) (y : Lexeme) (u v : List Lexeme) → Headed ts w → w ≡ (y ∷ u) ++ v → (kinds : Kinds) → is_ahead kinds (y ∷ u) ≡ is_ahead kinds ts
front_headed ts w y u v (inl n) e kinds = absurd (let no : [] ≡ (y ∷ u) ++ v = sym n ∙ e in cc)
front_headed ts w y u v (inr h) e kinds = sym (ap (is_ahead kinds) e) ∙ h kinds

-- a limit of a number or of levels is lifted, or kept
abbrev pub Wider : Option ℕ → Option ℕ → Type 0
Wider low wide = (wide ≡ None) ⊎ (wide ≡ low)

wider_one : (low wide : Option ℕ) → Wider low wide → has_one low ≡ true → has_one wide ≡ true
wider_one low wide (inl e) h = ap has_one e
wider_one low wide (inr e) h = ap has_one e ∙ h

wider_less : (low wide : Option ℕ) (n : ℕ) → Wider low wide → Wider (less low n) (less wide n)
wider_less low wide n (inl e) = inl (ap (λ z. less z n) e)
wider_less low wide n (inr e) = inr (ap (λ z. less z n) e)

pub wider_two : (low wide : Option ℕ) → Wider low wide → has_two low ≡ true → has_two wide ≡ true
wider_two low wide (inl e) h = ap has_two e
wider_two low wide (inr e) h = ap has_two e ∙ h

wider_above : (low wide : Option ℕ) (height : ℕ) → Wider low wide → has_above low height ≡ true → has_above wide height ≡ true
wider_above low wide height (inl e) h = ap (λ z. has_above z height) e
wider_above low wide height (inr e) h = ap (λ z. has_above z height) e ∙ h

and_false : (a : Bool) → (a && false) ≡ false
and_false true = refl
and_false false = refl

-- what is not refused with few left is not refused with more
allows : (a b c : Bool) → (b ≡ true → c ≡ true) → (a && not b) ≡ false → (a && not c) ≡ false
allows true true c f h = ap not (f refl)
allows true false c f h = absurd cc
allows false b c f h = refl

not_is_false : (b : Bool) → not b ≡ false → b ≡ true
not_is_false true h = refl
not_is_false false h = absurd cc

no_parts : (u v : List Lexeme) → [] ≡ u ++ v → (u ≡ []) × (v ≡ [])
no_parts [] v e = (refl, sym e)
no_parts (x ∷ u) v e = absurd cc

-- where one of two phrases behind each other is not empty, both are not
pub then_first_full : {A B : Type 0} (p : Phrase A) (q : A → Phrase B) → ((a : A) → p [] a → ⊥) → (b : B) → Then p q [] b → ⊥
then_first_full p q full b (a, u, v, e, h, k) = full a (subst (λ z. p z a) (no_parts u v e).0 h)

pub then_second_full : {A B : Type 0} (p : Phrase A) (q : A → Phrase B) → ((a : A) (b : B) → q a [] b → ⊥) → (b : B) → Then p q [] b → ⊥
then_second_full p q full b (a, u, v, e, h, k) = full a b (subst (λ z. q a z b) (no_parts u v e).1 k)

pub one_full : (kinds : Kinds) (t : Lexeme) → One kinds [] t → ⊥
one_full kinds t (e, h) = absurd cc

-- the limits that are lifted
module _ (lifted : What → Bool) where
  abbrev pub Leads : {A : Type 0} → Phrase A → List Lexeme → Outcome A → Type 0
  Leads p ts (done a rest) = (u : List Lexeme) × (ts ≡ u ++ rest) × p u a
  Leads p ts (refused Bad rest) = Unit {0}
  Leads p ts (refused (Limit what) rest) = lifted what ≡ true → Reaches p ts rest

  -- the same for another phrase
  pub leads_on : {A : Type 0} (p q : Phrase A) (ts : List Lexeme) (o : Outcome A) → ((w : List Lexeme) (a : A) → Headed ts w → p w a → q w a) → Leads p ts o → Leads q ts o
  leads_on p q ts (done a rest) f (u, e, h) = (u, e, f u a (headed ts u rest e) h)
  leads_on p q ts (refused Bad rest) f c = tt
  leads_on p q ts (refused (Limit what) rest) f c = λ l.
      let b = c l in
      (b.0, b.1, b.2, b.3, b.4, (b.5.0, b.5.1, f ((b.0 ++ (b.1 ∷ [])) ++ b.5.0) b.5.1 (headed_on ts b.0 b.1 b.2 b.5.0 b.4) b.5.2))

  pub leads_same : {A : Type 0} (p q : Phrase A) (ts : List Lexeme) (o : Outcome A) → Same p q → Leads p ts o → Leads q ts o
  leads_same p q ts o s c = leads_on p q ts o (λ w a h k. s.to w a k) c

  -- ---- nothing, one token, and one phrase behind another

  pub give_leads : {A : Type 0} (a : A) (ts : List Lexeme) → Leads (Give a) ts (done a ts)
  give_leads a ts = ([], refl, (refl, refl))

  token_by : (kinds : Kinds) (t : Lexeme) (ts : List Lexeme) (d : Bool) → kinds t.kind ≡ d → Leads (One kinds) (t ∷ ts) (if d then done t ts else refused Bad (t ∷ ts))
  token_by kinds t ts true h = (t ∷ [], refl, (refl, h))
  token_by kinds t ts false h = tt

  pub token_leads : (kinds : Kinds) (ts : List Lexeme) → Leads (One kinds) ts (read_token kinds ts)
  token_leads kinds [] = tt
  token_leads kinds (t ∷ ts) = token_by kinds t ts (kinds t.kind) refl

  then_second : {A B : Type 0} (p : Phrase A) (q : A → Phrase B) (ts u : List Lexeme) (a : A) (rest : List Lexeme) → ts ≡ u ++ rest → p u a → (o : Outcome B) → Leads (q a) rest o → Leads (Then p q) ts o
  then_second p q ts u a rest e h (done b rest_2) (v, f, k) = (u ++ v, e ∙ ap (λ z. u ++ z) f ∙ sym (append_assoc u v rest_2), (a, u, v, refl, h, k))
  then_second p q ts u a rest e h (refused Bad rest_2) c = tt
  then_second p q ts u a rest e h (refused (Limit what) rest_2) c = λ l.
      let s = c l in
      let joint : ((u ++ s.0) ++ (s.1 ∷ [])) ++ s.5.0 ≡ u ++ ((s.0 ++ (s.1 ∷ [])) ++ s.5.0) =
      ap (λ z. z ++ s.5.0) (append_assoc u s.0 (s.1 ∷ [])) ∙ append_assoc u (s.0 ++ (s.1 ∷ [])) s.5.0 in
      (u ++ s.0, s.1, s.2, s.3, e ∙ ap (λ z. u ++ z) s.4 ∙ sym (append_assoc u s.0 (s.1 ∷ s.2)), (s.5.0, s.5.1, (a, u, (s.0 ++ (s.1 ∷ [])) ++ s.5.0, joint, h, s.5.2)))

  pub then_leads : {A B : Type 0} (p : Phrase A) (q : A → Phrase B) (f : A → Reader B) (ts : List Lexeme) (o : Outcome A) → ((a : A) → Begins (q a) []) →
      ((a : A) (rest : List Lexeme) → Leads (q a) rest (f a rest)) → Leads p ts o → Leads (Then p q) ts (o >>= λ r. f r.0 r.1)
  then_leads p q f ts (done a rest) two next (u, e, h) = then_second p q ts u a rest e h (f a rest) (next a rest)
  then_leads p q f ts (refused Bad rest) two next c = tt
  then_leads p q f ts (refused (Limit what) rest) two next c = λ l.
      let b = c l in
      let s = two b.5.1 in (
        b.0,
        b.1,
        b.2,
        b.3,
        b.4,
        (b.5.0 ++ s.0, s.1, (b.5.1, (b.0 ++ (b.1 ∷ [])) ++ b.5.0, s.0, sym (append_assoc (b.0 ++ (b.1 ∷ [])) b.5.0 s.0), b.5.2, s.2)),
      )

  pub convert_leads : {A B : Type 0} (f : A → B) (p : Phrase A) (ts : List Lexeme) (o : Outcome A) → Leads p ts o → Leads (Convert f p) ts (o >>= λ r. done (f r.0) r.1)
  convert_leads f p ts o c = leads_same (Then p (λ a. Give (f a))) (Convert f p) ts (o >>= λ r. done (f r.0) r.1) (same_convert f p)
      (then_leads p (λ a. Give (f a)) (λ a. done (f a)) ts o (λ a. ([], f a, (refl, refl))) (λ a rest. give_leads (f a) rest) c)

  convert_begins : {A B : Type 0} (f : A → B) (p : Phrase A) (u : List Lexeme) → Begins p u → Begins (Convert f p) u
  convert_begins f p u (v, a, h) = (v, f a, (a, h, refl))

  pub both_leads : {A B : Type 0} (p : Phrase A) (q : Phrase B) (first : Reader A) (second : Reader B) → ((ts : List Lexeme) → Leads p ts (first ts)) → ((ts : List Lexeme) → Leads q ts (second ts)) → Begins q [] →
      (ts : List Lexeme) → Leads (Both p q) ts (read_both first second ts)
  both_leads p q first second one two started ts = leads_same (Then p (λ a. Convert (λ b. (a, b)) q)) (Both p q) ts (read_both first second ts) (same_both p q)
      (then_leads p (λ a. Convert (λ b. (a, b)) q) (λ a. read_convert (λ b. (a, b)) second) ts (first ts) (λ a. convert_begins (λ b. (a, b)) q [] started)
      (λ a rest. convert_leads (λ b. (a, b)) q rest (second rest) (two rest)) (one ts))

  pub behind_leads : {A : Type 0} (kinds : Kinds) (p : Phrase A) (read : Reader A) → ((ts : List Lexeme) → Leads p ts (read ts)) → Begins p [] →
      (ts : List Lexeme) → Leads (Behind kinds p) ts (read_behind kinds read ts)
  behind_leads kinds p read one started ts = leads_same (Then (One kinds) (λ t. p)) (Behind kinds p) ts (read_behind kinds read ts) (same_behind kinds p)
      (then_leads (One kinds) (λ t. p) (λ t. read) ts (read_token kinds ts) (λ t. started) (λ t rest. one rest) (token_leads kinds ts))

  -- ---- one phrase, where there is room, or another

  module _ {A : Type 0} (what : What) (low wide : Bool) (begins : Kinds) (p q : Phrase A) (keeps : low ≡ true → wide ≡ true)
      (full : (a : A) → p [] a → ⊥) (opens : low ≡ false → lifted what ≡ true → (wide ≡ true) × Starts begins p) where
    first_on : (ts : List Lexeme) → is_ahead begins ts ≡ true → low ≡ true → (w : List Lexeme) (a : A) → Headed ts w → p w a → Either wide begins p q w a
    first_on ts h k w a (inl n) g = absurd (full a (subst (λ z. p z a) n g))
    first_on ts h k w a (inr head) g = inl (keeps k, head begins ∙ h, g)

    either_stops : (ts : List Lexeme) → is_ahead begins ts ≡ true → low ≡ false → lifted what ≡ true → Reaches (Either wide begins p q) ts ts
    either_stops [] h k l = absurd cc
    either_stops (x ∷ ts) h k l =
        let b = (opens k l).1 x h in
        ([], x, ts, refl, refl, (b.0, b.1, inl ((opens k l).0, h, b.2)))

    either_by : (r_1 r_2 : Reader A) (ts : List Lexeme) (d r : Bool) → is_ahead begins ts ≡ d → low ≡ r → (low ≡ true → Leads p ts (r_1 ts)) → Leads q ts (r_2 ts) →
        Leads (Either wide begins p q) ts (if d then (if r then r_1 ts else refused (Limit what) ts) else r_2 ts)
    either_by r_1 r_2 ts true true h k one two = leads_on p (Either wide begins p q) ts (r_1 ts) (first_on ts h k) (one k)
    either_by r_1 r_2 ts true false h k one two = either_stops ts h k
    either_by r_1 r_2 ts false r h k one two = leads_on q (Either wide begins p q) ts (r_2 ts) (λ w a head g. inr g) two

    pub either_leads : (r_1 r_2 : Reader A) (ts : List Lexeme) → (low ≡ true → Leads p ts (r_1 ts)) → Leads q ts (r_2 ts) → Leads (Either wide begins p q) ts (read_either what low begins r_1 r_2 ts)
    either_leads r_1 r_2 ts one two = either_by r_1 r_2 ts (is_ahead begins ts) low refl refl one two

  -- ---- loops, of which one state stands for another without limits

  module _ {S A B : Type 0} (l : Loop S A B) (begins : S → Kinds) (refuses : S → List Lexeme → Bool) (item : S → Phrase A) (next : S → A → S) (result : S → B) (Wide : S → S → Type 0)
      (same_begins : (s t : S) → Wide s t → begins t ≡ l.begins s) (same_result : (s t : S) → Wide s t → result t ≡ l.result s)
      (goes_on : (s t : S) (a : A) → Wide s t → Wide (l.next s a) (next t a))
      (allowed : (s t : S) (ts w : List Lexeme) → Wide s t → ((kinds : Kinds) → is_ahead kinds w ≡ is_ahead kinds ts) → l.refuses s ts ≡ false → refuses t w ≡ false)
      (opens : (s t : S) (ts w : List Lexeme) → Wide s t → lifted l.what ≡ true → l.refuses s ts ≡ true → (refuses t w ≡ false) × Starts (begins t) (item t))
      (one : (s t : S) (ts : List Lexeme) → Wide s t → l.refuses s ts ≡ false → Leads (item t) ts (l.item s ts))
      (full : (t : S) (a : A) → item t [] a → ⊥) where
    abbrev LoopPhrase : S → Phrase B
    LoopPhrase = Runs begins refuses item next result

    loop_ends : (s t : S) → Wide s t → (ts : List Lexeme) → Leads (LoopPhrase t) ts (done (l.result s) ts)
    loop_ends s t wide ts = ([], refl, subst (LoopPhrase t []) (same_result s t wide) Runs.no_run)

    loop_stops : (s t : S) → Wide s t → (ts : List Lexeme) → is_ahead (l.begins s) ts ≡ true → l.refuses s ts ≡ true → lifted l.what ≡ true → Reaches (LoopPhrase t) ts ts
    loop_stops s t wide [] h k lift = absurd cc
    loop_stops s t wide (x ∷ ts) h k lift =
        let here : begins t x.kind ≡ true = ap (λ kinds. kinds x.kind) (same_begins s t wide) ∙ h in
        let b = (opens s t (x ∷ ts) [] wide lift k).1 x here in
        let allows_it = (opens s t (x ∷ ts) (x ∷ b.0) wide lift k).0 in
        ([], x, ts, refl, refl, (b.0 ++ [], result (next t b.1), Runs.one_more {s = t} {u = x ∷ b.0} {v = []} {a = b.1} b.2 here allows_it Runs.no_run))

    runs_on : (s t : S) → Wide s t → (ts : List Lexeme) → is_ahead (l.begins s) ts ≡ true → l.refuses s ts ≡ false → (w : List Lexeme) (b : B) → Headed ts w →
        Then (item t) (λ a. LoopPhrase (next t a)) w b → LoopPhrase t w b
    runs_on s t wide ts h k w b head (a, u, v, e, g, others) = by u e g where
      by : (u : List Lexeme) → w ≡ u ++ v → item t u a → LoopPhrase t w b
      by [] e g = absurd (full t a g)
      by (x ∷ u) e g =
          let like = front_headed ts w x u v head e in
          subst (λ z. LoopPhrase t z b) (sym e)
          (Runs.one_more {s = t} {u = x ∷ u} {v = v} {a = a} g (ap (λ kinds. is_ahead kinds (x ∷ u)) (same_begins s t wide) ∙ like (l.begins s) ∙ h) (allowed s t ts (x ∷ u) wide like k) others)

    round_by : (n : ℕ) (s t : S) → Wide s t → (ts : List Lexeme) (d r : Bool) → is_ahead (l.begins s) ts ≡ d → l.refuses s ts ≡ r →
        ((a : A) (rest : List Lexeme) → Leads (LoopPhrase (next t a)) rest (read_loop l n (l.next s a) rest)) →
        Leads (LoopPhrase t) ts (if d then (if r then refused (Limit l.what) ts else (l.item s ts >>= λ q. read_loop l n (l.next s q.0) q.1)) else done (l.result s) ts)
    round_by n s t wide ts true true h k later = loop_stops s t wide ts h k
    round_by n s t wide ts true false h k later =
        leads_on (Then (item t) (λ a. LoopPhrase (next t a))) (LoopPhrase t) ts (l.item s ts >>= λ q. read_loop l n (l.next s q.0) q.1) (runs_on s t wide ts h k)
        (then_leads (item t) (λ a. LoopPhrase (next t a)) (λ a rest. read_loop l n (l.next s a) rest) ts (l.item s ts) (λ a. ([], result (next t a), Runs.no_run)) later (one s t ts wide k))
    round_by n s t wide ts false r h k later = loop_ends s t wide ts

    loop_leads : (n : ℕ) (s t : S) → Wide s t → (ts : List Lexeme) → Leads (LoopPhrase t) ts (read_loop l n s ts)
    loop_leads zero s t wide ts = loop_ends s t wide ts
    loop_leads (suc n) s t wide ts = round_by n s t wide ts (is_ahead (l.begins s) ts) (l.refuses s ts) refl refl (λ a rest. loop_leads n (l.next s a) (next t a) (goes_on s t a wide) rest)

    pub while_leads : (s t : S) → Wide s t → (ts : List Lexeme) → Leads (LoopPhrase t) ts (read_while l s ts)
    while_leads s t wide ts = loop_leads (length ts) s t wide ts

  -- ---- items, each of which takes some of a number

  module _ {A : Type 0} (what : What) (begins wants : Kinds) (takes : A → ℕ) (reads : Option ℕ → Reader A) (p : Option ℕ → Phrase A)
      (one : (low wide : Option ℕ) → Wider low wide → (lifted what ≡ true → wide ≡ None) → (ts : List Lexeme) → Leads (p wide) ts (reads low ts))
      (full : (wide : Option ℕ) (a : A) → p wide [] a → ⊥) (starts : (wide : Option ℕ) → lifted what ≡ true → Starts begins (p wide)) where
    abbrev WideItems : Taken A → Taken A → Type 0
    WideItems s t = (t.items ≡ s.items) × Wider s.left t.left × (lifted what ≡ true → t.left ≡ None)

    goes_items : (s t : Taken A) (a : A) → WideItems s t → WideItems (next_item takes s a) (next_item takes t a)
    goes_items s t a (e, w, f) = (ap (λ z. z ++ (a ∷ [])) e, wider_less s.left t.left (takes a) w, λ l. ap (λ z. less z (takes a)) (f l))

    items_allowed : (s t : Taken A) (ts w : List Lexeme) → WideItems s t → ((kinds : Kinds) → is_ahead kinds w ≡ is_ahead kinds ts) → refuses_item wants s ts ≡ false → refuses_item wants t w ≡ false
    items_allowed s t ts w (e, wide, f) like k =
        ap (λ b. b && not (has_one t.left)) (like wants) ∙ allows (is_ahead wants ts) (has_one s.left) (has_one t.left) (wider_one s.left t.left wide) k

    items_open : (s t : Taken A) (ts w : List Lexeme) → WideItems s t → lifted what ≡ true → refuses_item wants s ts ≡ true → (refuses_item wants t w ≡ false) × Starts begins (p t.left)
    items_open s t ts w (e, wide, f) l k = (ap (λ z. is_ahead wants w && not (has_one z)) (f l) ∙ and_false (is_ahead wants w), starts t.left l)

    pub items_lead : (s t : Taken A) → WideItems s t → (ts : List Lexeme) → Leads (ItemRuns begins wants takes p t) ts (read_while (items_loop what begins wants takes reads) s ts)
    items_lead = while_leads (items_loop what begins wants takes reads) (λ s. begins) (refuses_item wants) (λ s. p s.left) (next_item takes) (λ (s : Taken A). s.items) WideItems
        (λ s t w. refl) (λ s t w. w.0) goes_items items_allowed items_open (λ s t ts w k. one s.left t.left w.1 w.2 ts) (λ t. full t.left)

    pub many_leads : (low wide : Option ℕ) → Wider low wide → (lifted what ≡ true → wide ≡ None) → (ts : List Lexeme) → Leads (Many begins wants takes p wide) ts (read_items what begins wants takes reads low [] ts)
    many_leads low wide w f ts = leads_same (ItemRuns begins wants takes p (record { left = wide; items = [] })) (Many begins wants takes p wide) ts (read_items what begins wants takes reads low [] ts)
        (same_many begins wants takes p wide) (items_lead (record { left = low; items = [] }) (record { left = wide; items = [] }) (refl, w, f) ts)

  -- ---- phrases with separators between them

  module _ {A : Type 0} (separates begins : Kinds) (p : Phrase A) (read : Reader A) (one : (ts : List Lexeme) → Leads p ts (read ts)) (full : (a : A) → p [] a → ⊥) where
    maybe_leads : (ts : List Lexeme) → Leads (Either true begins (Convert Some p) (Give None)) ts (read_either Depth true begins (read_convert Some read) (done None) ts)
    maybe_leads ts = either_leads Depth true true begins (Convert Some p) (Give None) (λ h. h) (λ a (b, h, e). full b h) (λ h. absurd cc) (read_convert Some read) (done None) ts
        (λ h. convert_leads Some p ts (read ts) (one ts)) (give_leads None ts)

    separated_item : (ts : List Lexeme) → Leads (SeparatedItem separates begins p) ts (read_behind separates (read_either Depth true begins (read_convert Some read) (done None)) ts)
    separated_item ts = then_leads (One separates) (λ t. Either true begins (Convert Some p) (Give None)) (λ t. read_either Depth true begins (read_convert Some read) (done None)) ts (read_token separates ts)
        (λ t. ([], None, inr (refl, refl))) (λ t rest. maybe_leads rest) (token_leads separates ts)

    separated_lead : (s : Listed A) (ts : List Lexeme) → Leads (SeparatedRuns separates begins p s) ts (read_while (separated_loop separates begins read) s ts)
    separated_lead s = while_leads (separated_loop separates begins read) (separated_begins separates) (λ s ts. false) (λ s. SeparatedItem separates begins p) with_next (λ (s : Listed A). s.items) (λ s t. t ≡ s)
        (λ s t e. ap (separated_begins separates) e) (λ s t e. ap (λ (z : Listed A). z.items) e) (λ s t a e. ap (λ z. with_next z a) e) (λ s t ts w e like k. refl) (λ s t ts w e l k. absurd cc)
        (λ s t ts e k. separated_item ts) (λ t a h. then_first_full (One separates) (λ t. Either true begins (Convert Some p) (Give None)) (one_full separates) a h) s s refl

    pub separated_leads : (ts : List Lexeme) → Leads (Separated separates begins p) ts (read_separated separates begins read ts)
    separated_leads ts =
        leads_same (Then p (λ a. SeparatedRuns separates begins p (record { items = a ∷ []; is_open = true }))) (Separated separates begins p) ts (read_separated separates begins read ts) (same_separated separates begins p full)
        (then_leads p (λ a. SeparatedRuns separates begins p (record { items = a ∷ []; is_open = true })) (λ a. read_while (separated_loop separates begins read) (record { items = a ∷ []; is_open = true })) ts (read ts)
        (λ a. ([], a ∷ [], Runs.no_run)) (λ a rest. separated_lead (record { items = a ∷ []; is_open = true }) rest) (one ts))

  -- ---- phrases behind an operand

  module _ {A : Type 0} (begins : Kinds) (join : Measured → A → Measured) (low wide : Option ℕ) (first : Phrase Measured) (q : Phrase A) (read : Reader Measured) (behind : Reader A)
      (wider : Wider low wide) (unlimited : lifted Depth ≡ true → wide ≡ None)
      (one : (ts : List Lexeme) → Leads first ts (read ts)) (two : (ts : List Lexeme) → Leads q ts (behind ts)) (full : (a : A) → q [] a → ⊥) (starts : lifted Depth ≡ true → Starts begins q) where
    always_above : lifted Depth ≡ true → (height : ℕ) → has_above wide height ≡ true
    always_above l height = ap (λ z. has_above z height) (unlimited l)

    one_suffix : (m : Measured) (ts : List Lexeme) → Leads (OneSuffix begins join wide first q m) ts (read_suffix begins join low behind m ts)
    one_suffix m ts = either_leads Depth (has_above low m.height) (has_above wide m.height) begins (Convert (join m) q) (Give m) (wider_above low wide m.height wider) (λ a (b, h, e). full b h)
        (λ k l. (always_above l m.height, λ x e. convert_begins (join m) q (x ∷ []) (starts l x e))) (read_convert (join m) behind) (done m) ts
        (λ k. convert_leads (join m) q ts (behind ts) (two ts)) (give_leads m ts)

    pub suffix_leads : (ts : List Lexeme) → Leads (Suffix begins join wide first q) ts (read_then read (read_suffix begins join low behind) ts)
    suffix_leads ts = leads_same (Then first (OneSuffix begins join wide first q)) (Suffix begins join wide first q) ts (read_then read (read_suffix begins join low behind) ts) (same_suffix begins join wide first q)
        (then_leads first (OneSuffix begins join wide first q) (read_suffix begins join low behind) ts (read ts) (λ m. ([], m, inr (refl, refl))) (λ m rest. one_suffix m rest) (one ts))

    suffix_runs : (m : Measured) (ts : List Lexeme) → Leads (SuffixRuns begins join wide q m) ts (read_while (suffix_loop begins join low behind) m ts)
    suffix_runs m = while_leads (suffix_loop begins join low behind) (λ m. begins) (λ m ts. not (has_above wide m.height)) (λ m. q) join (λ m. m) (λ s t. t ≡ s)
        (λ s t e. refl) (λ s t e. e) (λ s t a e. ap (λ z. join z a) e)
        (λ s t ts w e like k. ap not (ap (λ (z : Measured). has_above wide z.height) e ∙ wider_above low wide s.height wider (not_is_false (has_above low s.height) k)))
        (λ s t ts w e l k. (ap not (always_above l t.height), starts l)) (λ s t ts e k. two ts) (λ t. full) m m refl

    pub suffixes_lead : (ts : List Lexeme) → Leads (Suffixes begins join wide first q) ts (read_then read (read_while (suffix_loop begins join low behind)) ts)
    suffixes_lead ts = leads_same (Then first (SuffixRuns begins join wide q)) (Suffixes begins join wide first q) ts (read_then read (read_while (suffix_loop begins join low behind)) ts) (same_suffixes begins join wide first q)
        (then_leads first (SuffixRuns begins join wide q) (read_while (suffix_loop begins join low behind)) ts (read ts) (λ m. ([], m, Runs.no_run)) (λ m rest. suffix_runs m rest) (one ts))

  -- ---- entries

  module _ {A B C : Type 0} (what : What) (begins : Kinds) (a : Phrase A) (b : Phrase B) (c : Phrase C) (read_a : Reader A) (read_b : Reader B) (read_c : Reader C)
      (lead_a : (ts : List Lexeme) → Leads a ts (read_a ts)) (lead_b : (ts : List Lexeme) → Leads b ts (read_b ts)) (lead_c : (ts : List Lexeme) → Leads c ts (read_c ts))
      (full_a : (x : A) → a [] x → ⊥) (full_b : (x : B) → b [] x → ⊥) (begins_b : Begins b []) (begins_c : Begins c []) where
    behind_full : {D : Type 0} (kinds : Kinds) (p : Phrase D) (x : D) → Behind kinds p [] x → ⊥
    behind_full kinds p x h = then_first_full (One kinds) (λ t. p) (one_full kinds) x ((same_behind kinds p).back [] x h)

    behind_starts : {D : Type 0} (kinds : Kinds) (p : Phrase D) → Begins p [] → Starts kinds (Behind kinds p)
    behind_starts kinds p (v, x, h) t e = (v, x, Behind.behind t e h)

    module _ (low wide : Option ℕ) (wider : Wider low wide) (unlimited : lifted what ≡ true → wide ≡ None) where
      names_lead : (ts : List Lexeme) → Leads (Names b wide) ts (read_names what read_b low ts)
      names_lead ts = leads_same (Then b (λ x. ItemRuns comma comma one_each (λ count. Behind comma b) (record { left = less wide 1; items = x ∷ [] }))) (Names b wide) ts (read_names what read_b low ts) (same_names b wide)
          (then_leads b (λ x. ItemRuns comma comma one_each (λ count. Behind comma b) (record { left = less wide 1; items = x ∷ [] })) (λ x. read_items what comma comma one_each (λ count. read_behind comma read_b) (less low 1) (x ∷ [])) ts (read_b ts)
          (λ x. ([], x ∷ [], Runs.no_run))
          (λ x rest. items_lead what comma comma one_each (λ count. read_behind comma read_b) (λ count. Behind comma b) (λ l w e f. behind_leads comma b read_b lead_b begins_b) (λ w. behind_full comma b) (λ w l. behind_starts comma b begins_b)
          (record { left = less low 1; items = x ∷ [] }) (record { left = less wide 1; items = x ∷ [] }) (refl, wider_less low wide 1 wider, λ l. ap (λ z. less z 1) (unlimited l)) rest)
          (lead_b ts))

      pub entry_leads : (ts : List Lexeme) → Leads (An begins a b c wide) ts (read_entry what begins read_a read_b read_c low ts)
      entry_leads ts = leads_same (EntryChoice begins a b c wide) (An begins a b c wide) ts (read_entry what begins read_a read_b read_c low ts) (same_entry begins a b c wide)
          (either_leads what true true begins (Convert alone a) (Then (Names b wide) (λ xs. Convert (together xs) c)) (λ h. h) (λ e (x, h, g). full_a x h) (λ h. absurd cc) (read_convert alone read_a)
          (read_then (read_names what read_b low) (λ xs. read_convert (together xs) read_c)) ts
          (λ h. convert_leads alone a ts (read_a ts) (lead_a ts))
          (then_leads (Names b wide) (λ xs. Convert (together xs) c) (λ xs. read_convert (together xs) read_c) ts (read_names what read_b low ts) (λ xs. convert_begins (together xs) c [] begins_c)
          (λ xs rest. convert_leads (together xs) c rest (read_c rest) (lead_c rest)) (names_lead ts)))

    pub entry_begins : (wide : Option ℕ) → Begins (An begins a b c wide) []
    entry_begins wide = (
      begins_b.0 ++ begins_c.0,
      together (begins_b.1 ∷ []) begins_c.1,
      OneEntry.some_together {u = begins_b.0} {v = begins_c.0} {bs = begins_b.1 ∷ []} {c = begins_c.1}
          (subst (λ z. Names b wide z (begins_b.1 ∷ [])) (append-nil begins_b.0) (Names.names {u = begins_b.0} {v = []} {a = begins_b.1} {others = []} begins_b.2 Many.no_more)) begins_c.2,
    )

    pub entries_lead : (low wide : Option ℕ) → Wider low wide → (lifted what ≡ true → wide ≡ None) → (ts : List Lexeme) → Leads (Entries begins a b c wide) ts (read_entries what low begins read_a read_b read_c ts)
    entries_lead low wide wider unlimited ts =
        leads_same (Then (An begins a b c wide) (λ e. ItemRuns semicolon semicolon names_in (λ count. Behind semicolon (An begins a b c count)) (record { left = less wide (names_in e); items = e ∷ [] }))) (Entries begins a b c wide) ts
        (read_entries what low begins read_a read_b read_c ts) (same_entries begins a b c wide)
        (then_leads (An begins a b c wide) (λ e. ItemRuns semicolon semicolon names_in (λ count. Behind semicolon (An begins a b c count)) (record { left = less wide (names_in e); items = e ∷ [] }))
        (λ e. read_items what semicolon semicolon names_in (λ count. read_behind semicolon (read_entry what begins read_a read_b read_c count)) (less low (names_in e)) (e ∷ [])) ts (read_entry what begins read_a read_b read_c low ts)
        (λ e. ([], e ∷ [], Runs.no_run))
        (λ e rest. items_lead what semicolon semicolon names_in (λ count. read_behind semicolon (read_entry what begins read_a read_b read_c count)) (λ count. Behind semicolon (An begins a b c count))
        (λ l w f g. behind_leads semicolon (An begins a b c w) (read_entry what begins read_a read_b read_c l) (entry_leads l w f g) (entry_begins w)) (λ w. behind_full semicolon (An begins a b c w)) (λ w l. behind_starts semicolon (An begins a b c w) (entry_begins w))
        (record { left = less low (names_in e); items = e ∷ [] }) (record { left = less wide (names_in e); items = e ∷ [] }) (refl, wider_less low wide (names_in e) wider, λ l. ap (λ z. less z (names_in e)) (unlimited l)) rest)
        (entry_leads low wide wider unlimited ts))

    names_full : (wide : Option ℕ) (xs : List B) → Names b wide [] xs → ⊥
    names_full wide xs h = then_first_full b (λ x. ItemRuns comma comma one_each (λ count. Behind comma b) (record { left = less wide 1; items = x ∷ [] })) full_b xs ((same_names b wide).back [] xs h)

    entry_full : (wide : Option ℕ) (e : Entry A B C) → An begins a b c wide [] e → ⊥
    entry_full wide e h = by ((same_entry begins a b c wide).back [] e h) where
      by : EntryChoice begins a b c wide [] e → ⊥
      by (inl (r, ahead, g)) = absurd cc
      by (inr t) = then_first_full (Names b wide) (λ xs. Convert (together xs) c) (names_full wide) e t

    pub entries_full : (wide : Option ℕ) (es : List (Entry A B C)) → Entries begins a b c wide [] es → ⊥
    entries_full wide es h =
        then_first_full (An begins a b c wide) (λ e. ItemRuns semicolon semicolon names_in (λ count. Behind semicolon (An begins a b c count)) (record { left = less wide (names_in e); items = e ∷ [] })) (entry_full wide) es
        ((same_entries begins a b c wide).back [] es h)

    pub entries_begin : (wide : Option ℕ) → Begins (Entries begins a b c wide) []
    entries_begin wide =
        let e = entry_begins wide in
        (e.0 ++ [], e.1 ∷ [], Entries.entries {u = e.0} {v = []} {e = e.1} {others = []} e.2 Many.no_more)
