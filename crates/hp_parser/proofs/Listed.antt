-- Lists of phrases, restated as sequences, choices and loops.
use Rattle.std.proofs.Common.{◌≡◌, ℕ, true, false, List, [], ◌∷◌, ◌++◌, inl, inr, Option, None, Some, refl, sym, ap, subst, ◌∙◌, append_assoc}
use Rattle.std.proofs.lemmas.List.{append-nil}
use Rattle.hp_lexer.specs.declared.token.Sign.TheVariants.{Comma, Semicolon}
use Rattle.hp_parser.specs.Lexemes.{Lexeme, Kinds, is_ahead}
use Rattle.hp_parser.specs.Limits.{less}
use Rattle.hp_parser.specs.Notation.{Entry, alone, together}
use Rattle.hp_parser.specs.Tokens.{sign_of}
use Rattle.hp_parser.specs.Relation.{Phrase, One, Behind, Separated, Names, OneEntry, Entries, one_each, names_in}
use Rattle.hp_parser.specs.Reading.{Listed, with_next, only_if}
use Rattle.hp_parser.proofs.Ways.{Then}
use Rattle.hp_parser.proofs.Choices.{Give, Either}
use Rattle.hp_parser.proofs.Loops.{Runs}
use Rattle.hp_parser.proofs.Restated.{Same, Convert, ItemRuns, many_of_runs, runs_of_many}

-- ---- phrases with separators between them

abbrev pub separated_begins : {A : Type 0} → Kinds → Listed A → Kinds
separated_begins separates s = only_if s.is_open separates

-- a separator, and a phrase behind it or the end
abbrev pub SeparatedItem : {A : Type 0} → Kinds → Kinds → Phrase A → Phrase (Option A)
SeparatedItem separates begins p = Then (One separates) (λ t. Either true begins (Convert Some p) (Give None))

abbrev pub SeparatedRuns : {A : Type 0} → Kinds → Kinds → Phrase A → Listed A → Phrase (List A)
SeparatedRuns separates begins p = Runs (separated_begins separates) (λ s ts. false) (λ s. SeparatedItem separates begins p) with_next (λ (s : Listed _). s.items)

abbrev opened : {A : Type 0} → List A → A → Listed A
opened pre a = record { items = pre ++ (a ∷ []); is_open = true }

module _ {A : Type 0} (separates begins : Kinds) (p : Phrase A) where
  -- nothing comes behind the end
  closed_ends : {s : Listed A} {v : List Lexeme} {bs : List A} → SeparatedRuns separates begins p s v bs → s.is_open ≡ false → (v ≡ []) × (bs ≡ s.items)
  closed_ends Runs.no_run h = (refl, refl)
  closed_ends {s = s} (Runs.one_more {u = u} {v = v} k ahead allowed others) h = absurd (no u (subst (λ b. is_ahead (only_if b separates) u ≡ true) h ahead)) where
    no : (u : List Lexeme) → is_ahead (only_if false separates) u ≡ true → ⊥
    no [] h = absurd cc
    no (x ∷ u) h = absurd cc

  abbrev Found : List A → List Lexeme → List A → Type 0
  Found pre w bs = (others : List A) × (bs ≡ pre ++ others) × Separated separates begins p w others

  separated_of : {s : Listed A} {v : List Lexeme} {bs : List A} → SeparatedRuns separates begins p s v bs → (pre : List A) (a : A) (u : List Lexeme) → s ≡ opened pre a → p u a → Found pre (u ++ v) bs
  separated_of {s = s} Runs.no_run pre a u e h =
      (a ∷ [], ap (λ (z : Listed A). z.items) e, subst (λ z. Separated separates begins p z (a ∷ [])) (sym (append-nil u)) (Separated.only h))
  separated_of {s = s} {bs = bs} (Runs.one_more {u = u_1} {v = v_1} {a = o} (t, t_1, w, f, (g, sep), inl (r, ahead_w, (b, k, some))) ahead allowed others) pre a u e h =
      let state : with_next s o ≡ opened (pre ++ (a ∷ [])) b =
      ap (with_next s) (sym some) ∙ ap (λ (z : Listed A). with_next z (Some b)) e in
      let rest = separated_of others (pre ++ (a ∷ [])) b w state k in
      let ahead_all : is_ahead begins (w ++ v_1) ≡ true = still w v_1 ahead_w in
      let joint : u ++ (u_1 ++ v_1) ≡ u ++ (t ∷ (w ++ v_1)) = ap (λ z. u ++ (z ++ v_1)) (f ∙ ap (λ z. z ++ w) g) in (
        a ∷ rest.0,
        rest.1 ∙ append_assoc pre (a ∷ []) rest.0,
        subst (λ z. Separated separates begins p z (a ∷ rest.0)) (sym joint) (Separated.one_more {u = u} {v = w ++ v_1} {a = a} {others = rest.0} t h sep ahead_all rest.2),
      ) where
        still : (w v : List Lexeme) → is_ahead begins w ≡ true → is_ahead begins (w ++ v) ≡ true
        still [] v h = absurd cc
        still (x ∷ w) v h = h
  separated_of {s = s} {bs = bs} (Runs.one_more {u = u_1} {v = v_1} {a = o} (t, t_1, w, f, (g, sep), inr (n, none)) ahead allowed others) pre a u e h =
      let closed = closed_ends others (ap (λ (z : Listed A). z.is_open) (ap (with_next s) (sym none))) in
      let items : bs ≡ pre ++ (a ∷ []) = closed.1 ∙ ap (λ (z : Listed A). z.items) (ap (with_next s) (sym none)) ∙ ap (λ (z : Listed A). z.items) e in
      let joint : u ++ (u_1 ++ v_1) ≡ u ++ (t ∷ []) =
      ap (λ z. u ++ (u_1 ++ z)) closed.0 ∙ ap (λ z. u ++ z) (append-nil u_1 ∙ f ∙ ap (λ z. z ++ w) g ∙ ap (λ z. t ∷ z) n) in
      (a ∷ [], items, subst (λ z. Separated separates begins p z (a ∷ [])) (sym joint) (Separated.ended {u = u} {a = a} t h sep))

  abbrev Split : List A → List Lexeme → List A → Type 0
  Split pre w bs = (a : A) × (u : List Lexeme) × (v : List Lexeme) × (w ≡ u ++ v) × p u a × SeparatedRuns separates begins p (opened pre a) v (pre ++ bs)

  module _ (not_empty : (a : A) → p [] a → ⊥) where
    of_separated : {w : List Lexeme} {bs : List A} → Separated separates begins p w bs → (pre : List A) → Split pre w bs
    of_separated (Separated.only {u = u} {a = a} h) pre = (a, u, [], sym (append-nil u), h, Runs.no_run)
    of_separated (Separated.ended {u = u} {a = a} t h sep) pre = (
      a,
      u,
      t ∷ [],
      refl,
      h,
      Runs.one_more {s = opened pre a} {u = t ∷ []} {v = []} {a = None} (t, t ∷ [], [], refl, (refl, sep), inr (refl, refl)) sep refl Runs.no_run,
    )
    of_separated (Separated.one_more {u = u} {v = w} {a = a} {others = others} t h sep ahead rest) pre =
        let r = of_separated rest (pre ++ (a ∷ [])) in
        let b = r.0 in (
          a,
          u,
          t ∷ w,
          refl,
          h,
          subst (λ z. SeparatedRuns separates begins p (opened pre a) (t ∷ z) (pre ++ (a ∷ others))) (sym r.3)
              (subst (SeparatedRuns separates begins p (opened pre a) (t ∷ (r.1 ++ r.2))) (append_assoc pre (a ∷ []) others)
              (Runs.one_more {s = opened pre a} {u = t ∷ r.1} {v = r.2} {a = Some b}
              (t, t ∷ [], r.1, refl, (refl, sep), inl (refl, first_ahead r.1 r.2 w b r.3 r.4 ahead, (b, r.4, refl))) sep refl r.5)),
        ) where
          first_ahead : (u v w : List Lexeme) (b : A) → w ≡ u ++ v → p u b → is_ahead begins w ≡ true → is_ahead begins u ≡ true
          first_ahead [] v w b e h k = absurd (not_empty b h)
          first_ahead (x ∷ u) v w b e h k = sym (ap (is_ahead begins) e) ∙ k

    pub same_separated : Same (Then p (λ a. SeparatedRuns separates begins p (record { items = a ∷ []; is_open = true }))) (Separated separates begins p)
    same_separated = record {
      to = λ w bs (a, u, v, e, h, runs).
          let f = separated_of runs [] a u refl h in
          subst (λ z. Separated separates begins p z bs) (sym e) (subst (Separated separates begins p (u ++ v)) (sym f.1) f.2);
      back = λ w bs h. of_separated h [];
    }

-- ---- names with commas between them

abbrev pub comma : Kinds
comma = sign_of Comma

abbrev pub semicolon : Kinds
semicolon = sign_of Semicolon

module _ {A : Type 0} (p : Phrase A) (left : Option ℕ) where
  abbrev pub NamesBehind : A → Phrase (List A)
  NamesBehind a = ItemRuns comma comma one_each (λ count. Behind comma p) (record { left = less left 1; items = a ∷ [] })

  names_of : (w : List Lexeme) (bs : List A) → Then p NamesBehind w bs → Names p left w bs
  names_of w bs (a, u, v, e, h, runs) =
      let m = many_of_runs comma comma one_each (λ count. Behind comma p) runs in
      subst (λ z. Names p left z bs) (sym e) (subst (Names p left (u ++ v)) (sym m.1) (Names.names h m.2))

  of_names : {w : List Lexeme} {bs : List A} → Names p left w bs → Then p NamesBehind w bs
  of_names (Names.names {u = u} {v = v} {a = a} {others = others} h m) =
      (a, u, v, refl, h, runs_of_many comma comma one_each (λ count. Behind comma p) m (a ∷ []))

  pub same_names : Same (Then p NamesBehind) (Names p left)
  same_names = record { to = names_of; back = λ w bs h. of_names h }

-- ---- entries with semicolons between them

module _ {A B C : Type 0} (begins : Kinds) (by_itself : Phrase A) (name : Phrase B) (shared : Phrase C) where
  abbrev pub EntryChoice : Option ℕ → Phrase (Entry A B C)
  EntryChoice left = Either true begins (Convert alone by_itself) (Then (Names name left) (λ bs. Convert (together bs) shared))

  abbrev pub An : Option ℕ → Phrase (Entry A B C)
  An left = OneEntry begins by_itself name shared left

  module _ (left : Option ℕ) where
    entry_of : (w : List Lexeme) (e : Entry A B C) → EntryChoice left w e → An left w e
    entry_of w e (inl (r, ahead, (a, h, f))) = subst (An left w) f (OneEntry.one_alone h ahead)
    entry_of w e (inr (bs, u, v, f, h, (c, k, g))) = subst (λ z. An left z e) (sym f) (subst (An left (u ++ v)) g (OneEntry.some_together h k))

    of_entry : {w : List Lexeme} {e : Entry A B C} → An left w e → EntryChoice left w e
    of_entry (OneEntry.one_alone {a = a} h ahead) = inl (refl, ahead, (a, h, refl))
    of_entry (OneEntry.some_together {u = u} {v = v} {bs = bs} {c = c} h k) = inr (bs, u, v, refl, h, (c, k, refl))

    pub same_entry : Same (EntryChoice left) (An left)
    same_entry = record { to = entry_of; back = λ w e h. of_entry h }

    abbrev pub EntriesBehind : Entry A B C → Phrase (List (Entry A B C))
    EntriesBehind e = ItemRuns semicolon semicolon names_in (λ count. Behind semicolon (An count)) (record { left = less left (names_in e); items = e ∷ [] })

    entries_of : (w : List Lexeme) (es : List (Entry A B C)) → Then (An left) EntriesBehind w es → Entries begins by_itself name shared left w es
    entries_of w es (a, u, v, e, h, runs) =
        let m = many_of_runs semicolon semicolon names_in (λ count. Behind semicolon (An count)) runs in
        subst (λ z. Entries begins by_itself name shared left z es) (sym e) (subst (Entries begins by_itself name shared left (u ++ v)) (sym m.1) (Entries.entries h m.2))

    of_entries : {w : List Lexeme} {es : List (Entry A B C)} → Entries begins by_itself name shared left w es → Then (An left) EntriesBehind w es
    of_entries (Entries.entries {u = u} {v = v} {e = e} {others = others} h m) =
        (e, u, v, refl, h, runs_of_many semicolon semicolon names_in (λ count. Behind semicolon (An count)) m (e ∷ []))

    pub same_entries : Same (Then (An left) EntriesBehind) (Entries begins by_itself name shared left)
    same_entries = record { to = entries_of; back = λ w es h. of_entries h }
