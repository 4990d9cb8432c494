-- What holds of every value of a phrase whose tokens are spelled and within their limits.
use Rattle.std.proofs.Common.{◌≡◌, ℕ, Bool, true, List, [], ◌∷◌, ◌++◌, Option, sym, inl, inr, ◌⊎◌, subst}
use Rattle.hp_base.specs.declared.limit.What.{What}
use Rattle.hp_lexer.specs.Spelling.{Spells, IsWithin}
use Rattle.hp_parser.specs.Lexemes.{Lexeme, Kinds, is_ahead}
use Rattle.hp_parser.specs.Limits.{less, has_above}
use Rattle.hp_parser.specs.Notation.{Measured}
use Rattle.hp_parser.specs.Relation.{Phrase, Both, One, Many, Separated, Suffixes, Suffix, Behind, behind, relation}
use Rattle.hp_print.proofs.Readable.{Each}

abbrev pub IsSpelled : Lexeme → Type 0
IsSpelled t = Spells t.kind t.bytes × IsWithin t.kind t.bytes

abbrev pub Spelled : List Lexeme → Type 0
Spelled us = Each IsSpelled us

pub spelled-split : (u v : List Lexeme) → Spelled (u ++ v) → Spelled u × Spelled v
spelled-split [] v h = (tt, h)
spelled-split (t ∷ u) v h = let s = spelled-split u v h.1 in ((h.0, s.0), s.1)

pub record Every {A : Type 0} (P : Phrase A) (E : A → Type 0) : Type 0 where
  pub all : (us : List Lexeme) (a : A) → Spelled us → P us a → E a

pub every_token : (kinds : Kinds) → Every (One kinds) (λ t. IsSpelled t × (kinds t.kind ≡ true))
every_token kinds = record { all = λ us t h p. ((subst Spelled p.0 h).0, p.1) }

module _ {A : Type 0} where
  pub every_say : {P : Phrase A} {E : A → Type 0} (F : A → Type 0) → ((a : A) → E a → F a) → Every P E → Every P F
  every_say F k e = record { all = λ us a h p. k a (e.all us a h p) }

  pub every_and : {P : Phrase A} {E F : A → Type 0} → Every P E → Every P F → Every P (λ a. E a × F a)
  every_and e f = record { all = λ us a h p. (e.all us a h p, f.all us a h p) }

  pub every_give : (b : A) → Every (relation.give b) (λ a. a ≡ b)
  every_give b = record { all = λ us a h p. sym p.1 }

  pub every_either : {E : A → Type 0} (what : What) (room : Bool) (begins : Kinds) {P Q : Phrase A} → Every P E → Every Q E → Every (relation.either_within what room begins P Q) E
  every_either {E} what room begins {P} {Q} e f = record { all = λ us a h p. by us a h p }
    where
      by : (us : List Lexeme) (a : A) → Spelled us → ((room ≡ true) × (is_ahead begins us ≡ true) × P us a) ⊎ Q us a → E a
      by us a h (inl p) = e.all us a h p.2
      by us a h (inr p) = f.all us a h p

  -- the same, where more is known of the first phrase
  pub every_when : {E : A → Type 0} (C : Type 0) (what : What) (room : Bool) (begins : Kinds) {P Q : Phrase A} → ((us : List Lexeme) → room ≡ true → is_ahead begins us ≡ true → C)
      → (C → Every P E) → Every Q E → Every (relation.either_within what room begins P Q) E
  every_when {E} C what room begins {P} {Q} c e f = record { all = λ us a h p. by us a h p }
    where
      by : (us : List Lexeme) (a : A) → Spelled us → ((room ≡ true) × (is_ahead begins us ≡ true) × P us a) ⊎ Q us a → E a
      by us a h (inl p) = (e (c us p.0 p.1)).all us a h p.2
      by us a h (inr p) = f.all us a h p

  pub every_led : {P : Phrase A} {E : A → Type 0} (kinds : Kinds) → Every P E → Every (Behind kinds P) E
  every_led {P} {E} kinds e = record { all = λ us a h p. by us a h p }
    where
      by : (us : List Lexeme) (a : A) → Spelled us → Behind kinds P us a → E a
      by us a h (behind {u = u} t k p) = e.all u a h.1 p

  pub every_separated : {P : Phrase A} {E : A → Type 0} (separates begins : Kinds) → Every P E → Every (Separated separates begins P) (Each E)
  every_separated {P} {E} separates begins e = record { all = λ us xs h p. by us xs h p }
    where
      by : (us : List Lexeme) (xs : List A) → Spelled us → Separated separates begins P us xs → Each E xs
      by us xs h (Separated.only {a = a} p) = (e.all us a h p, tt)
      by us xs h (Separated.ended {u = u} {a = a} t p k) = (e.all u a (spelled-split u (t ∷ []) h).0 p, tt)
      by us xs h (Separated.one_more {u = u} {v = v} {a = a} {others = others} t p k l q) =
          let s = spelled-split u (t ∷ v) h in
          (e.all u a s.0 p, by v others s.1.1 q)

  -- any number of phrases, with no limit that counts
  pub every_many : {phrase : Option ℕ → Phrase A} {E : A → Type 0} (begins wants : Kinds) (takes : A → ℕ) (left : Option ℕ) → ((count : Option ℕ) → Every (phrase count) E) → Every (Many begins wants takes phrase left) (Each E)
  every_many {phrase} {E} begins wants takes left e = record { all = λ us xs h p. by left us xs h p }
    where
      by : (count : Option ℕ) (us : List Lexeme) (xs : List A) → Spelled us → Many begins wants takes phrase count us xs → Each E xs
      by count us xs h (Many.no_more) = tt
      by count us xs h (Many.one_more {u = u} {v = v} {a = a} {others = others} p k l q) =
          let s = spelled-split u v h in
          ((e count).all u a s.0 p, by (less count (takes a)) v others s.1 q)

module _ {A B : Type 0} where
  pub every_convert : {P : Phrase A} {E : A → Type 0} (f : A → B) (F : B → Type 0) → ((a : A) → E a → F (f a)) → Every P E → Every (relation.convert f P) F
  every_convert f F k e = record { all = λ us b h p. subst F p.2 (k p.0 (e.all us p.0 h p.1)) }

  pub every_both : {P : Phrase A} {Q : Phrase B} {E : A → Type 0} {G : B → Type 0} → Every P E → Every Q G → Every (Both P Q) (λ c. E c.0 × G c.1)
  every_both e f = record {
    all = λ us c h p.
        let s = spelled-split p.0 p.1 (subst Spelled p.2 h) in
        (e.all p.0 c.0 s.0 p.3, f.all p.1 c.1 s.1 p.4);
  }

module _ {A : Type 0} {first : Phrase Measured} {suffix : Phrase A} {E F : Measured → Type 0} {G : A → Type 0} (begins : Kinds) (join : Measured → A → Measured) (depth : Option ℕ)
    (none : (m : Measured) → E m → F m) where
  pub every_suffix : ((m : Measured) (x : A) (v : List Lexeme) → has_above depth m.height ≡ true → is_ahead begins v ≡ true → E m → G x → F (join m x))
      → Every first E → Every suffix G → Every (Suffix begins join depth first suffix) F
  every_suffix k e g = record { all = λ us m h p. by us m h p }
    where
      by : (us : List Lexeme) (m : Measured) → Spelled us → Suffix begins join depth first suffix us m → F m
      by us m h (Suffix.none p) = none m (e.all us m h p)
      by us m h (Suffix.one {u = u} {v = v} {m = n} {a = a} p l q b) = let s = spelled-split u v h in k n a v l b (e.all u n s.0 p) (g.all v a s.1 q)

  pub every_suffixes : ((m : Measured) (x : A) (v : List Lexeme) → has_above depth m.height ≡ true → is_ahead begins v ≡ true → F m → G x → F (join m x))
      → Every first E → Every suffix G → Every (Suffixes begins join depth first suffix) F
  every_suffixes k e g = record { all = λ us m h p. by us m h p }
    where
      by : (us : List Lexeme) (m : Measured) → Spelled us → Suffixes begins join depth first suffix us m → F m
      by us m h (Suffixes.none p) = none m (e.all us m h p)
      by us m h (Suffixes.one_more {u = u} {v = v} {m = n} {a = a} p l q b) = let s = spelled-split u v h in k n a v l b (by u n s.0 p) (g.all v a s.1 q)
