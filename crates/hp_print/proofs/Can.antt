-- Phrases that have tokens which are spelled as some that are written, wherever they stand.
use Rattle.std.proofs.Common.{◌≡◌, ℕ, Bool, true, false, List, [], ◌∷◌, ◌++◌, Option, refl, sym, ap, subst, ◌∙◌, inl, inr}
use Rattle.hp_base.specs.declared.limit.What.{What}
use Rattle.hp_lexer.specs.Written.{Written}
use Rattle.hp_parser.specs.Lexemes.{Lexeme, Kinds, is_ahead}
use Rattle.hp_parser.specs.Limits.{has_one, less, has_above}
use Rattle.hp_parser.specs.Notation.{Measured}
use Rattle.hp_parser.specs.Relation.{Phrase, Both, One, Many, Separated, Suffixes, Suffix, relation}

-- the tokens are spelled as these that are written
abbrev pub Spell : List Lexeme → List Written → Type 0
Spell [] [] = Unit {0}
Spell (t ∷ us) (w ∷ ws) = (t.kind ≡ w.kind) × (t.bytes ≡ w.bytes) × Spell us ws
Spell us ws = ⊥

pub record Split (us : List Lexeme) (a b : List Written) : Type 0 where
  pub front : List Lexeme
  pub behind : List Lexeme
  pub split_is : us ≡ front ++ behind
  pub first : Spell front a
  pub second : Spell behind b

pub split : (a b : List Written) (us : List Lexeme) → Spell us (a ++ b) → Split us a b
split [] b us h = record { front = []; behind = us; split_is = refl; first = tt; second = h }
split (w ∷ a) b [] h = absurd h
split (w ∷ a) b (t ∷ us) h =
    let s = split a b us h.2 in
    record { front = t ∷ s.front; behind = s.behind; split_is = ap (λ z. t ∷ z) s.split_is; first = (h.0, h.1, s.first); second = s.second }

-- the first token that is written is of these kinds
abbrev pub leads : Kinds → List Written → Bool
leads kinds [] = false
leads kinds (w ∷ ws) = kinds w.kind

pub ahead-leads : (kinds : Kinds) (ws : List Written) (us : List Lexeme) → Spell us ws → is_ahead kinds us ≡ leads kinds ws
ahead-leads kinds [] [] h = refl
ahead-leads kinds [] (t ∷ us) h = absurd h
ahead-leads kinds (w ∷ ws) [] h = absurd h
ahead-leads kinds (w ∷ ws) (t ∷ us) h = ap kinds h.0

-- The phrase has all tokens that are spelled so, and what they then stand for has the property.
pub record Can {A : Type 0} (P : Phrase A) (ws : List Written) (E : A → Type 0) : Type 0 where
  pub at : (us : List Lexeme) → Spell us ws → (a : A) × P us a × E a

-- a token that is spelled as one that is written
abbrev pub IsLike : Written → Lexeme → Type 0
IsLike w t = (t.kind ≡ w.kind) × (t.bytes ≡ w.bytes)

one-token : (kinds : Kinds) (w : Written) → kinds w.kind ≡ true → (us : List Lexeme) → Spell us (w ∷ []) → (t : Lexeme) × One kinds us t × IsLike w t
one-token kinds w k [] h = absurd h
one-token kinds w k (t ∷ []) h = (t, (refl, ap kinds h.0 ∙ k), (h.0, h.1))
one-token kinds w k (t ∷ u ∷ us) h = absurd h.2

pub can_token : (kinds : Kinds) (w : Written) → kinds w.kind ≡ true → Can (One kinds) (w ∷ []) (IsLike w)
can_token kinds w k = record { at = one-token kinds w k }

module _ {A : Type 0} where
  -- the property may be weakened
  pub can_say : {P : Phrase A} {ws : List Written} {E : A → Type 0} (F : A → Type 0) → ((a : A) → E a → F a) → Can P ws E → Can P ws F
  can_say F k c = record { at = λ us h. let x = c.at us h in (x.0, x.1, k x.0 x.2) }

  -- and the phrase
  pub can_in : {P : Phrase A} {ws : List Written} {E : A → Type 0} (Q : Phrase A) → ((us : List Lexeme) (a : A) → P us a → Q us a) → Can P ws E → Can Q ws E
  can_in Q k c = record { at = λ us h. let x = c.at us h in (x.0, k us x.0 x.1, x.2) }

  none-given : (b : A) (us : List Lexeme) → Spell us [] → (a : A) × ((us ≡ []) × (b ≡ a)) × (a ≡ b)
  none-given b [] h = (b, (refl, refl), refl)
  none-given b (t ∷ us) h = absurd h

  pub can_give : (b : A) → Can (relation.give b) [] (λ a. a ≡ b)
  can_give b = record { at = none-given b }

  pub can_first : {ws : List Written} {E : A → Type 0} (what : What) (room : Bool) (begins : Kinds) (P Q : Phrase A) → room ≡ true → leads begins ws ≡ true
      → Can P ws E → Can (relation.either_within what room begins P Q) ws E
  can_first {ws} what room begins P Q r l c = record { at = λ us h. let x = c.at us h in (x.0, inl (r, ahead-leads begins ws us h ∙ l, x.1), x.2) }

  pub can_second : {ws : List Written} {E : A → Type 0} (what : What) (room : Bool) (begins : Kinds) (P Q : Phrase A)
      → Can Q ws E → Can (relation.either_within what room begins P Q) ws E
  can_second what room begins P Q c = record { at = λ us h. let x = c.at us h in (x.0, inr x.1, x.2) }

module _ {A B : Type 0} where
  pub can_convert : {P : Phrase A} {ws : List Written} {E : A → Type 0} (f : A → B) (F : B → Type 0) → ((a : A) → E a → F (f a)) → Can P ws E → Can (relation.convert f P) ws F
  can_convert f F k c = record { at = λ us h. let x = c.at us h in (f x.0, (x.0, x.1, refl), k x.0 x.2) }

  pub can_both : {P : Phrase A} {Q : Phrase B} {a b : List Written} {E : A → Type 0} {G : B → Type 0} → Can P a E → Can Q b G → Can (Both P Q) (a ++ b) (λ c. E c.0 × G c.1)
  can_both {a = a} {b = b} p q = record {
    at = λ us h.
        let s = split a b us h in
        let x = p.at s.front s.first in
        let y = q.at s.behind s.second in
        ((x.0, y.0), (s.front, s.behind, s.split_is, x.1, y.1), (x.2, y.2));
  }

module _ {A : Type 0} (begins : Kinds) (join : Measured → A → Measured) (depth : Option ℕ) (first : Phrase Measured) (suffix : Phrase A) where
  module _ {a b : List Written} {E : Measured → Type 0} {G : A → Type 0} (F : Measured → Type 0) (l : leads begins b ≡ true)
      (above : (m : Measured) → E m → has_above depth m.height ≡ true) (k : (m : Measured) (x : A) → E m → G x → F (join m x)) where
    pub can_suffixes : Can (Suffixes begins join depth first suffix) a E → Can suffix b G → Can (Suffixes begins join depth first suffix) (a ++ b) F
    can_suffixes p q = record {
      at = λ us h.
          let s = split a b us h in
          let x = p.at s.front s.first in
          let y = q.at s.behind s.second in
          let whole = Suffixes.one_more x.1 (above x.0 x.2) y.1 (ahead-leads begins b s.behind s.second ∙ l) in
          (join x.0 y.0, subst (λ z. Suffixes begins join depth first suffix z (join x.0 y.0)) (sym s.split_is) whole, k x.0 y.0 x.2 y.2);
    }

    pub can_suffix : Can first a E → Can suffix b G → Can (Suffix begins join depth first suffix) (a ++ b) F
    can_suffix p q = record {
      at = λ us h.
          let s = split a b us h in
          let x = p.at s.front s.first in
          let y = q.at s.behind s.second in
          let whole = Suffix.one x.1 (above x.0 x.2) y.1 (ahead-leads begins b s.behind s.second ∙ l) in
          (join x.0 y.0, subst (λ z. Suffix begins join depth first suffix z (join x.0 y.0)) (sym s.split_is) whole, k x.0 y.0 x.2 y.2);
    }

-- phrases one behind another, with no limit of their number
module _ {A : Type 0} (begins wants : Kinds) (takes : A → ℕ) (phrase : Option ℕ → Phrase A) where
  none-more : (left : Option ℕ) (us : List Lexeme) → Spell us [] → (xs : List A) × Many begins wants takes phrase left us xs × (xs ≡ [])
  none-more left [] h = ([], Many.no_more, refl)
  none-more left (t ∷ us) h = absurd h

  pub can_no_more : (left : Option ℕ) → Can (Many begins wants takes phrase left) [] (λ xs. xs ≡ [])
  can_no_more left = record { at = none-more left }

  pub can_one_more : {a b : List Written} {E : A → Type 0} {G : List A → Type 0} (F : List A → Type 0) (left : Option ℕ) → leads begins a ≡ true
      → (leads wants a ≡ true → has_one left ≡ true) → ((x : A) (xs : List A) → E x → G xs → F (x ∷ xs))
      → Can (phrase left) a E → ((x : A) → E x → Can (Many begins wants takes phrase (less left (takes x))) b G) → Can (Many begins wants takes phrase left) (a ++ b) F
  can_one_more {a} {b} F left l room k p q = record {
    at = λ us h.
        let s = split a b us h in
        let x = p.at s.front s.first in
        let y = (q x.0 x.2).at s.behind s.second in
        let ahead = ahead-leads begins a s.front s.first ∙ l in
        let whole = Many.one_more x.1 ahead (λ e. room (sym (ahead-leads wants a s.front s.first) ∙ e)) y.1 in
        (x.0 ∷ y.0, subst (λ z. Many begins wants takes phrase left z (x.0 ∷ y.0)) (sym s.split_is) whole, k x.0 y.0 x.2 y.2);
  }

-- phrases with separators between them, and one at the end
module _ {A : Type 0} (separates begins : Kinds) (phrase : Phrase A) where
  pub can_ended : {a : List Written} {E : A → Type 0} (F : List A → Type 0) (w : Written) → separates w.kind ≡ true → ((x : A) → E x → F (x ∷ []))
      → Can phrase a E → Can (Separated separates begins phrase) (a ++ (w ∷ [])) F
  can_ended {a} F w l k p = record {
    at = λ us h.
        let s = split a (w ∷ []) us h in
        let x = p.at s.front s.first in
        let t = one-token separates w l s.behind s.second in
        let whole = Separated.ended t.0 x.1 t.1.1 in
        (x.0 ∷ [], subst (λ z. Separated separates begins phrase z (x.0 ∷ [])) (sym (s.split_is ∙ ap (λ z. s.front ++ z) t.1.0)) whole, k x.0 x.2);
  }

  pub can_separated : {a b : List Written} {E : A → Type 0} {G : List A → Type 0} (F : List A → Type 0) (w : Written) → separates w.kind ≡ true → leads begins b ≡ true
      → ((x : A) (xs : List A) → E x → G xs → F (x ∷ xs)) → Can phrase a E → Can (Separated separates begins phrase) b G → Can (Separated separates begins phrase) (a ++ (w ∷ b)) F
  can_separated {a} {b} F w l m k p q = record {
    at = λ us h.
        let s = split a (w ∷ b) us h in
        let x = p.at s.front s.first in
        let r = split (w ∷ []) b s.behind s.second in
        let t = one-token separates w l r.front r.first in
        let y = q.at r.behind r.second in
        let whole = Separated.one_more t.0 x.1 t.1.1 (ahead-leads begins b r.behind r.second ∙ m) y.1 in
        let is : us ≡ s.front ++ (t.0 ∷ r.behind) = s.split_is ∙ ap (λ z. s.front ++ z) (r.split_is ∙ ap (λ z. z ++ r.behind) t.1.0) in
        (x.0 ∷ y.0, subst (λ z. Separated separates begins phrase z (x.0 ∷ y.0)) (sym is) whole, k x.0 y.0 x.2 y.2);
  }
