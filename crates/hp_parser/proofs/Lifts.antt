-- The notation read as phrases where some of the limits are lifted, with the laws of what reading within limits tells of them. Whether
-- the sets of tokens fit is computed.
use Rattle.std.proofs.Common.{◌≡◌, ℕ, Bool, true, false, ◌&&◌, ◌||◌, not, List, [], ◌∷◌, ◌++◌, inl, inr, Option, None, refl, sym, ap, subst, ◌∙◌}
use Rattle.hp_base.specs.declared.limit.What.{What}
use Rattle.hp_base.specs.declared.limit.What.TheVariants.{Depth}
use Rattle.hp_parser.specs.Lexemes.{Lexeme, Kinds}
use Rattle.hp_parser.specs.Limits.{has_two}
use Rattle.hp_parser.specs.Notation.{Notation, Measured, Entry}
use Rattle.hp_parser.specs.Outcomes.{done}
use Rattle.hp_parser.specs.Relation.{Phrase, One, Both, Many, Separated, Suffix, Suffixes, Entries}
use Rattle.hp_parser.specs.Reading.{Reader, read_token, read_convert, read_both, read_either, read_items, read_separated, read_entries, read_then, read_while, read_suffix, suffix_loop}
use Rattle.hp_parser.specs.Programs.{Begins}
use Rattle.hp_parser.proofs.Ways.{Starts, union}
use Rattle.hp_parser.proofs.Choices.{nothing, Give, Either}
use Rattle.hp_parser.proofs.Restated.{Convert, same_both, same_suffix, same_suffixes, SuffixRuns, OneSuffix}
use Rattle.hp_parser.proofs.TokenSets.{is_inside, inside_seen, has_some, some_seen}
use Rattle.hp_parser.proofs.Sound.{and_1, and_2, not_true}
use Rattle.hp_parser.proofs.Leads.{Wider, Leads, then_first_full, one_full, give_leads, token_leads, convert_leads, both_leads, either_leads, many_leads, separated_leads, suffix_leads, suffixes_lead, entries_lead, entries_full, entries_begin, wider_two}

or_1 : (a b : Bool) → a ≡ false → (a || b) ≡ true → b ≡ true
or_1 true b e h = absurd cc
or_1 false b e h = h

false_where : (a b : Bool) → (a ≡ true → b ≡ true) → b ≡ false → a ≡ false
false_where true b f h = absurd (let no : true ≡ false = sym (f refl) ∙ h in cc)
false_where false b f h = refl

-- the limits that are lifted
module _ (lifted : What → Bool) where
  -- What reading within limits tells of phrases where some are lifted. Every token of the first kinds begins a phrase, where one of
  -- some limits is lifted.
  pub record Laws (first : Kinds) (empty : Bool) (starts : What → Bool) {A : Type 0} (read : Reader A) (phrase : Phrase A) : Type 0 where
    pub leads : (ts : List Lexeme) → Leads lifted phrase ts (read ts)
    pub begun : Begins phrase []
    pub full : empty ≡ false → (a : A) → phrase [] a → ⊥
    pub start : (w : What) → lifted w ≡ true → starts w ≡ true → Starts first phrase

  pub record Lift (A : Type 0) : Type 1 where
    pub read : Reader A
    pub phrase : Phrase A
    pub first : Kinds
    pub empty : Bool
    pub starts : What → Bool
    pub fits : Bool
    pub laws : fits ≡ true → Laws first empty starts read phrase

  -- a limit, kept or lifted, and the limits of which it is known to be lifted with them
  pub record Count : Type 0 where
    pub low : Option ℕ
    pub wide : Option ℕ
    pub wider : Wider low wide
    pub opens : What → Bool
    pub freed : (w : What) → opens w ≡ true → lifted w ≡ true → wide ≡ None

  pub record Door : Type 0 where
    pub low : Bool
    pub wide : Bool
    pub keeps : low ≡ true → wide ≡ true
    pub always : Bool
    pub sure : always ≡ true → low ≡ true
    pub opens : What → Bool
    pub freed : (w : What) → opens w ≡ true → lifted w ≡ true → wide ≡ true

  -- ---- nothing, one token, and one phrase behind another

  pub give_laws : {A : Type 0} (a : A) → Laws nothing true (λ w. true) (done a) (Give a)
  give_laws a = record { leads = give_leads lifted a; begun = ([], a, (refl, refl)); full = λ e. absurd cc; start = λ w l k x e. absurd cc }

  abbrev give_lift : {A : Type 0} → A → Lift A
  give_lift a = record {
    read = done a;
    phrase = Give a;
    first = nothing;
    empty = true;
    starts = λ w. true;
    fits = true;
    laws = λ h. give_laws a;
  }

  pub token_laws : (kinds : Kinds) → has_some kinds ≡ true → Laws kinds false (λ w. true) (read_token kinds) (One kinds)
  token_laws kinds h = let t = some_seen kinds h in record {
    leads = token_leads lifted kinds;
    begun = (t.0 ∷ [], t.0, (refl, t.1));
    full = λ e. one_full kinds;
    start = λ w l k x e. ([], x, (refl, e));
  }

  abbrev token_lift : Kinds → Lift Lexeme
  token_lift kinds = record { read = read_token kinds; phrase = One kinds; first = kinds; empty = false; starts = λ w. true; fits = has_some kinds; laws = token_laws kinds }

  pub convert_laws : {A B : Type 0} (f : A → B) (p : Lift A) → Laws p.first p.empty p.starts p.read p.phrase → Laws p.first p.empty p.starts (read_convert f p.read) (Convert f p.phrase)
  convert_laws f p l = record {
    leads = λ ts. convert_leads lifted f p.phrase ts (p.read ts) (l.leads ts);
    begun = (l.begun.0, f l.begun.1, (l.begun.1, l.begun.2, refl));
    full = λ e b (a, h, g). l.full e a h;
    start = λ w k s x e. let b = l.start w k s x e in (b.0, f b.1, (b.1, b.2, refl));
  }

  abbrev convert_lift : {A B : Type 0} → (A → B) → Lift A → Lift B
  convert_lift f p = record {
    read = read_convert f p.read;
    phrase = Convert f p.phrase;
    first = p.first;
    empty = p.empty;
    starts = p.starts;
    fits = p.fits;
    laws = λ h. convert_laws f p (p.laws h);
  }

  module _ {A B : Type 0} (p : Lift A) (q : Lift B) (l : Laws p.first p.empty p.starts p.read p.phrase) (m : Laws q.first q.empty q.starts q.read q.phrase) where
    both_full : (e1 e2 : Bool) → p.empty ≡ e1 → q.empty ≡ e2 → (e1 && e2) ≡ false → (c : A × B) → Both p.phrase q.phrase [] c → ⊥
    both_full true true f g h c t = absurd cc
    both_full true false f g h c (u, v, e, s, t) = m.full g c.1 (subst (λ z. q.phrase z c.1) (no_parts u v e).1 t) where
      no_parts : (u v : List Lexeme) → [] ≡ u ++ v → (u ≡ []) × (v ≡ [])
      no_parts [] v e = (refl, sym e)
      no_parts (x ∷ u) v e = absurd cc
    both_full false e2 f g h c t = then_first_full p.phrase (λ a. Convert (λ b. (a, b)) q.phrase) (l.full f) c ((same_both p.phrase q.phrase).back [] c t)

    pub both_laws : Laws p.first (p.empty && q.empty) (λ w. p.starts w) (read_both p.read q.read) (Both p.phrase q.phrase)
    both_laws = record {
      leads = both_leads lifted p.phrase q.phrase p.read q.read l.leads m.leads m.begun;
      begun = (l.begun.0 ++ m.begun.0, (l.begun.1, m.begun.1), (l.begun.0, m.begun.0, refl, l.begun.2, m.begun.2));
      full = both_full p.empty q.empty refl refl;
      start = λ w k s x e. let b = l.start w k s x e in (b.0 ++ m.begun.0, (b.1, m.begun.1), (x ∷ b.0, m.begun.0, refl, b.2, m.begun.2));
    }

  abbrev both_lift : {A B : Type 0} → Lift A → Lift B → Lift (A × B)
  both_lift p q = record {
    read = read_both p.read q.read;
    phrase = Both p.phrase q.phrase;
    first = p.first;
    empty = p.empty && q.empty;
    starts = λ w. p.starts w;
    fits = p.fits && q.fits;
    laws = λ h. both_laws p q (p.laws (and_1 p.fits q.fits h)) (q.laws (and_2 p.fits q.fits h));
  }

  -- ---- choices

  module _ {A : Type 0} (what : What) (door : Door) (begins : Kinds) (p q : Lift A)
      (h : (p.fits && (q.fits && (not p.empty && (door.always || (door.opens what && (is_inside begins p.first && p.starts what)))))) ≡ true) where
    either_rest : (q.fits && (not p.empty && (door.always || (door.opens what && (is_inside begins p.first && p.starts what))))) ≡ true
    either_rest = and_2 p.fits (q.fits && (not p.empty && (door.always || (door.opens what && (is_inside begins p.first && p.starts what))))) h

    either_last : (not p.empty && (door.always || (door.opens what && (is_inside begins p.first && p.starts what)))) ≡ true
    either_last = and_2 q.fits (not p.empty && (door.always || (door.opens what && (is_inside begins p.first && p.starts what)))) either_rest

    law_1 : Laws p.first p.empty p.starts p.read p.phrase
    law_1 = p.laws (and_1 p.fits (q.fits && (not p.empty && (door.always || (door.opens what && (is_inside begins p.first && p.starts what))))) h)

    law_2 : Laws q.first q.empty q.starts q.read q.phrase
    law_2 = q.laws (and_1 q.fits (not p.empty && (door.always || (door.opens what && (is_inside begins p.first && p.starts what)))) either_rest)

    full_1 : (a : A) → p.phrase [] a → ⊥
    full_1 = law_1.full (not_true p.empty (and_1 (not p.empty) (door.always || (door.opens what && (is_inside begins p.first && p.starts what))) either_last))

    -- where there is no room, a lifted limit makes some
    either_opens : door.low ≡ false → lifted what ≡ true → (door.wide ≡ true) × Starts begins p.phrase
    either_opens k l =
        let some = or_1 door.always (door.opens what && (is_inside begins p.first && p.starts what)) (false_where door.always door.low door.sure k)
        (and_2 (not p.empty) (door.always || (door.opens what && (is_inside begins p.first && p.starts what))) either_last) in
        let sets = and_2 (door.opens what) (is_inside begins p.first && p.starts what) some in (
          door.freed what (and_1 (door.opens what) (is_inside begins p.first && p.starts what) some) l,
          λ x e. law_1.start what l (and_2 (is_inside begins p.first) (p.starts what) sets) x (inside_seen begins p.first (and_1 (is_inside begins p.first) (p.starts what) sets) x.kind e),
        )

    has_room : (w : What) → lifted w ≡ true → (d : Bool) → door.always ≡ d → (d || door.opens w) ≡ true → door.wide ≡ true
    has_room w l true e k = door.keeps (door.sure e)
    has_room w l false e k = door.freed w k l

    either_start : (w : What) → lifted w ≡ true → ((door.always || door.opens w) && (is_inside begins p.first && (p.starts w && q.starts w))) ≡ true → Starts (union begins q.first) (Either door.wide begins p.phrase q.phrase)
    either_start w l k x e = by (begins x.kind) refl e where
      rest : (is_inside begins p.first && (p.starts w && q.starts w)) ≡ true
      rest = and_2 (door.always || door.opens w) (is_inside begins p.first && (p.starts w && q.starts w)) k

      both : (p.starts w && q.starts w) ≡ true
      both = and_2 (is_inside begins p.first) (p.starts w && q.starts w) rest

      by : (d : Bool) → begins x.kind ≡ d → (d || q.first x.kind) ≡ true → Begins (Either door.wide begins p.phrase q.phrase) (x ∷ [])
      by true f g =
          let b = law_1.start w l (and_1 (p.starts w) (q.starts w) both) x (inside_seen begins p.first (and_1 (is_inside begins p.first) (p.starts w && q.starts w) rest) x.kind f) in
          (b.0, b.1, inl (has_room w l door.always refl (and_1 (door.always || door.opens w) (is_inside begins p.first && (p.starts w && q.starts w)) k), f, b.2))
      by false f g = let b = law_2.start w l (and_2 (p.starts w) (q.starts w) both) x g in (b.0, b.1, inr b.2)

    either_full : q.empty ≡ false → (a : A) → Either door.wide begins p.phrase q.phrase [] a → ⊥
    either_full e a (inl (r, ahead, g)) = absurd cc
    either_full e a (inr g) = law_2.full e a g

    pub either_laws : Laws (union begins q.first) q.empty (λ w. (door.always || door.opens w) && (is_inside begins p.first && (p.starts w && q.starts w)))
        (read_either what door.low begins p.read q.read) (Either door.wide begins p.phrase q.phrase)
    either_laws = record {
      leads = λ ts. either_leads lifted what door.low door.wide begins p.phrase q.phrase door.keeps full_1 either_opens p.read q.read ts (λ k. law_1.leads ts) (law_2.leads ts);
      begun = (law_2.begun.0, law_2.begun.1, inr law_2.begun.2);
      full = either_full;
      start = either_start;
    }

  abbrev either_lift : {A : Type 0} → What → Door → Kinds → Lift A → Lift A → Lift A
  either_lift what door begins p q = record {
    read = read_either what door.low begins p.read q.read;
    phrase = Either door.wide begins p.phrase q.phrase;
    first = union begins q.first;
    empty = q.empty;
    starts = λ w. (door.always || door.opens w) && (is_inside begins p.first && (p.starts w && q.starts w));
    fits = p.fits && (q.fits && (not p.empty && (door.always || (door.opens what && (is_inside begins p.first && p.starts what)))));
    laws = either_laws what door begins p q;
  }

  -- ---- items, and phrases with separators between them

  pub many_laws : {A : Type 0} (what : What) (begins wants : Kinds) (takes : A → ℕ) (count : Count) (p : Lift A) → (p.fits && (not p.empty && (count.opens what && (is_inside begins p.first && p.starts what)))) ≡ true →
      Laws nothing true (λ w. false) (read_items what begins wants takes (λ left. p.read) count.low []) (Many begins wants takes (λ left. p.phrase) count.wide)
  many_laws what begins wants takes count p h =
      let l = p.laws (and_1 p.fits (not p.empty && (count.opens what && (is_inside begins p.first && p.starts what))) h) in
      let h_1 = and_2 p.fits (not p.empty && (count.opens what && (is_inside begins p.first && p.starts what))) h in
      let h_2 = and_2 (not p.empty) (count.opens what && (is_inside begins p.first && p.starts what)) h_1 in
      let h_3 = and_2 (count.opens what) (is_inside begins p.first && p.starts what) h_2 in record {
        leads = many_leads lifted what begins wants takes (λ left. p.read) (λ left. p.phrase) (λ low wide w f. l.leads) (λ wide. l.full (not_true p.empty (and_1 (not p.empty) (count.opens what && (is_inside begins p.first && p.starts what)) h_1)))
            (λ wide k x e. l.start what k (and_2 (is_inside begins p.first) (p.starts what) h_3) x (inside_seen begins p.first (and_1 (is_inside begins p.first) (p.starts what) h_3) x.kind e))
            count.low count.wide count.wider (count.freed what (and_1 (count.opens what) (is_inside begins p.first && p.starts what) h_2));
        begun = ([], [], Many.no_more);
        full = λ e. absurd cc;
        start = λ w k s. absurd cc;
      }

  abbrev many_lift : {A : Type 0} → What → Kinds → Kinds → (A → ℕ) → Count → Lift A → Lift (List A)
  many_lift what begins wants takes count p = record {
    read = read_items what begins wants takes (λ left. p.read) count.low [];
    phrase = Many begins wants takes (λ left. p.phrase) count.wide;
    first = nothing;
    empty = true;
    starts = λ w. false;
    fits = p.fits && (not p.empty && (count.opens what && (is_inside begins p.first && p.starts what)));
    laws = many_laws what begins wants takes count p;
  }

  separated_full : {A : Type 0} (separates begins : Kinds) (p : Phrase A) → ((a : A) → p [] a → ⊥) → {w : List Lexeme} {xs : List A} → Separated separates begins p w xs → w ≡ [] → ⊥
  separated_full separates begins p full (Separated.only {a = a} g) n = full a (subst (λ z. p z a) n g)
  separated_full separates begins p full (Separated.ended {u = []} t g k) n = absurd cc
  separated_full separates begins p full (Separated.ended {u = x ∷ u} t g k) n = absurd cc
  separated_full separates begins p full (Separated.one_more {u = []} t g k ahead others) n = absurd cc
  separated_full separates begins p full (Separated.one_more {u = x ∷ u} t g k ahead others) n = absurd cc

  pub separated_laws : {A : Type 0} (separates begins : Kinds) (p : Lift A) → (p.fits && not p.empty) ≡ true → Laws p.first false p.starts (read_separated separates begins p.read) (Separated separates begins p.phrase)
  separated_laws separates begins p h =
      let l = p.laws (and_1 p.fits (not p.empty) h) in
      let full_item = l.full (not_true p.empty (and_2 p.fits (not p.empty) h)) in record {
        leads = separated_leads lifted separates begins p.phrase p.read l.leads full_item;
        begun = (l.begun.0, l.begun.1 ∷ [], Separated.only l.begun.2);
        full = λ e xs t. separated_full separates begins p.phrase full_item t refl;
        start = λ w k s x e. let b = l.start w k s x e in (b.0, b.1 ∷ [], Separated.only b.2);
      }

  abbrev separated_lift : {A : Type 0} → Kinds → Kinds → Lift A → Lift (List A)
  separated_lift separates begins p = record {
    read = read_separated separates begins p.read;
    phrase = Separated separates begins p.phrase;
    first = p.first;
    empty = false;
    starts = p.starts;
    fits = p.fits && not p.empty;
    laws = separated_laws separates begins p;
  }

  -- ---- phrases behind an operand

  module _ {A : Type 0} (begins : Kinds) (join : Measured → A → Measured) (depth : Count) (first : Lift Measured) (q : Lift A)
      (h : (first.fits && (q.fits && (not q.empty && (depth.opens Depth && (is_inside begins q.first && q.starts Depth))))) ≡ true) where
    suffix_rest : (q.fits && (not q.empty && (depth.opens Depth && (is_inside begins q.first && q.starts Depth)))) ≡ true
    suffix_rest = and_2 first.fits (q.fits && (not q.empty && (depth.opens Depth && (is_inside begins q.first && q.starts Depth)))) h

    suffix_last : (not q.empty && (depth.opens Depth && (is_inside begins q.first && q.starts Depth))) ≡ true
    suffix_last = and_2 q.fits (not q.empty && (depth.opens Depth && (is_inside begins q.first && q.starts Depth))) suffix_rest

    suffix_sets : (depth.opens Depth && (is_inside begins q.first && q.starts Depth)) ≡ true
    suffix_sets = and_2 (not q.empty) (depth.opens Depth && (is_inside begins q.first && q.starts Depth)) suffix_last

    law_first : Laws first.first first.empty first.starts first.read first.phrase
    law_first = first.laws (and_1 first.fits (q.fits && (not q.empty && (depth.opens Depth && (is_inside begins q.first && q.starts Depth)))) h)

    law_behind : Laws q.first q.empty q.starts q.read q.phrase
    law_behind = q.laws (and_1 q.fits (not q.empty && (depth.opens Depth && (is_inside begins q.first && q.starts Depth))) suffix_rest)

    full_behind : (a : A) → q.phrase [] a → ⊥
    full_behind = law_behind.full (not_true q.empty (and_1 (not q.empty) (depth.opens Depth && (is_inside begins q.first && q.starts Depth)) suffix_last))

    starts_behind : lifted Depth ≡ true → Starts begins q.phrase
    starts_behind l x e =
        let sets = and_2 (depth.opens Depth) (is_inside begins q.first && q.starts Depth) suffix_sets in
        law_behind.start Depth l (and_2 (is_inside begins q.first) (q.starts Depth) sets) x (inside_seen begins q.first (and_1 (is_inside begins q.first) (q.starts Depth) sets) x.kind e)

    depth_freed : lifted Depth ≡ true → depth.wide ≡ None
    depth_freed = depth.freed Depth (and_1 (depth.opens Depth) (is_inside begins q.first && q.starts Depth) suffix_sets)

    pub suffix_laws : Laws first.first first.empty first.starts (read_then first.read (read_suffix begins join depth.low q.read)) (Suffix begins join depth.wide first.phrase q.phrase)
    suffix_laws = record {
      leads = suffix_leads lifted begins join depth.low depth.wide first.phrase q.phrase first.read q.read depth.wider depth_freed law_first.leads law_behind.leads full_behind starts_behind;
      begun = (law_first.begun.0, law_first.begun.1, Suffix.none law_first.begun.2);
      full = λ e m g. then_first_full first.phrase (OneSuffix begins join depth.wide first.phrase q.phrase) (law_first.full e) m ((same_suffix begins join depth.wide first.phrase q.phrase).back [] m g);
      start = λ w k s x e. let b = law_first.start w k s x e in (b.0, b.1, Suffix.none b.2);
    }

    pub suffixes_laws : Laws first.first first.empty first.starts (read_then first.read (read_while (suffix_loop begins join depth.low q.read))) (Suffixes begins join depth.wide first.phrase q.phrase)
    suffixes_laws = record {
      leads = suffixes_lead lifted begins join depth.low depth.wide first.phrase q.phrase first.read q.read depth.wider depth_freed law_first.leads law_behind.leads full_behind starts_behind;
      begun = (law_first.begun.0, law_first.begun.1, Suffixes.none law_first.begun.2);
      full = λ e m g. then_first_full first.phrase (SuffixRuns begins join depth.wide q.phrase) (law_first.full e) m ((same_suffixes begins join depth.wide first.phrase q.phrase).back [] m g);
      start = λ w k s x e. let b = law_first.start w k s x e in (b.0, b.1, Suffixes.none b.2);
    }

  abbrev suffix_lift : {A : Type 0} → Kinds → (Measured → A → Measured) → Count → Lift Measured → Lift A → Lift Measured
  suffix_lift begins join depth first q = record {
    read = read_then first.read (read_suffix begins join depth.low q.read);
    phrase = Suffix begins join depth.wide first.phrase q.phrase;
    first = first.first;
    empty = first.empty;
    starts = first.starts;
    fits = first.fits && (q.fits && (not q.empty && (depth.opens Depth && (is_inside begins q.first && q.starts Depth))));
    laws = suffix_laws begins join depth first q;
  }

  abbrev suffixes_lift : {A : Type 0} → Kinds → (Measured → A → Measured) → Count → Lift Measured → Lift A → Lift Measured
  suffixes_lift begins join depth first q = record {
    read = read_then first.read (read_while (suffix_loop begins join depth.low q.read));
    phrase = Suffixes begins join depth.wide first.phrase q.phrase;
    first = first.first;
    empty = first.empty;
    starts = first.starts;
    fits = first.fits && (q.fits && (not q.empty && (depth.opens Depth && (is_inside begins q.first && q.starts Depth))));
    laws = suffixes_laws begins join depth first q;
  }

  -- ---- entries

  pub entries_laws : {A B C : Type 0} (what : What) (count : Count) (begins : Kinds) (a : Lift A) (b : Lift B) (c : Lift C) →
      (a.fits && (b.fits && (c.fits && (not a.empty && (not b.empty && count.opens what))))) ≡ true →
      Laws nothing false (λ w. false) (read_entries what count.low begins a.read b.read c.read) (Entries begins a.phrase b.phrase c.phrase count.wide)
  entries_laws what count begins a b c h =
      let h_1 = and_2 a.fits (b.fits && (c.fits && (not a.empty && (not b.empty && count.opens what)))) h in
      let h_2 = and_2 b.fits (c.fits && (not a.empty && (not b.empty && count.opens what))) h_1 in
      let h_3 = and_2 c.fits (not a.empty && (not b.empty && count.opens what)) h_2 in
      let h_4 = and_2 (not a.empty) (not b.empty && count.opens what) h_3 in
      let l = a.laws (and_1 a.fits (b.fits && (c.fits && (not a.empty && (not b.empty && count.opens what)))) h) in
      let m = b.laws (and_1 b.fits (c.fits && (not a.empty && (not b.empty && count.opens what))) h_1) in
      let n = c.laws (and_1 c.fits (not a.empty && (not b.empty && count.opens what)) h_2) in
      let full_a = l.full (not_true a.empty (and_1 (not a.empty) (not b.empty && count.opens what) h_3)) in
      let full_b = m.full (not_true b.empty (and_1 (not b.empty) (count.opens what) h_4)) in record {
        leads = entries_lead lifted what begins a.phrase b.phrase c.phrase a.read b.read c.read l.leads m.leads n.leads full_a full_b m.begun n.begun count.low count.wide count.wider
            (count.freed what (and_2 (not b.empty) (count.opens what) h_4));
        begun = entries_begin lifted what begins a.phrase b.phrase c.phrase a.read b.read c.read l.leads m.leads n.leads full_a full_b m.begun n.begun count.wide;
        full = λ e. entries_full lifted what begins a.phrase b.phrase c.phrase a.read b.read c.read l.leads m.leads n.leads full_a full_b m.begun n.begun count.wide;
        start = λ w k s. absurd cc;
      }

  abbrev entries_lift : {A B C : Type 0} → What → Count → Kinds → Lift A → Lift B → Lift C → Lift (List (Entry A B C))
  entries_lift what count begins a b c = record {
    read = read_entries what count.low begins a.read b.read c.read;
    phrase = Entries begins a.phrase b.phrase c.phrase count.wide;
    first = nothing;
    empty = false;
    starts = λ w. false;
    fits = a.fits && (b.fits && (c.fits && (not a.empty && (not b.empty && count.opens what))));
    laws = entries_laws what count begins a b c;
  }

  -- ---- the notation

  pub never : (a : Bool) → false ≡ true → a ≡ true
  never a h = absurd cc

  abbrev pub lift : Notation Lift
  lift = record {
    Depth = Count;
    Count = Count;
    unlimited = record { low = None; wide = None; wider = inl refl; opens = λ w. true; freed = λ w k l. refl };
    Room = Door;
    always = record { low = true; wide = true; keeps = λ h. h; always = true; sure = λ h. h; opens = λ w. true; freed = λ w k l. refl };
    deeper = λ depth. record {
      low = has_two depth.low;
      wide = has_two depth.wide;
      keeps = wider_two depth.low depth.wide depth.wider;
      always = false;
      sure = never (has_two depth.low);
      opens = depth.opens;
      freed = λ w k l. ap has_two (depth.freed w k l);
    };
    give = give_lift;
    token = token_lift;
    convert = convert_lift;
    both = both_lift;
    either_within = either_lift;
    many_within = many_lift;
    separated = separated_lift;
    entries = entries_lift;
    suffix = suffix_lift;
    suffixes = suffixes_lift;
  }
