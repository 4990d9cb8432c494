-- Values that weigh no more than the phrases that stand for them have tokens.
use Rattle.std.proofs.Common.{◌≡◌, ◌⊎◌, inl, inr, ℕ, ◌+◌, ◌≤◌, Bool, true, List, [], ◌∷◌, length, Option, None, Some, refl, ap, ◌∙◌, subst, arith}
use Rattle.std.proofs.lemmas.List.{length-append}
use Rattle.hp_base.specs.declared.limit.What.TheVariants.{Depth}
use Rattle.hp_parser.specs.Lexemes.{Lexeme, Kinds, is_ahead}
use Rattle.hp_parser.specs.Limits.{less}
use Rattle.hp_parser.specs.Notation.{Measured}
use Rattle.hp_parser.specs.Relation.{Phrase, Both, One, Many, Separated, Suffixes, Suffix, relation}
use Rattle.hp_parser.specs.Grammar as grammar

pub record Weighed {A : Type 0} (P : Phrase A) (m : A → ℕ) : Type 0 where
  pub all : (us : List Lexeme) (a : A) → P us a → m a ≤ length us

-- the weight of all values of a list, and of one if there is one
abbrev pub total : {A : Type 0} → (A → ℕ) → List A → ℕ
total m [] = 0
total m (a ∷ xs) = m a + total m xs

abbrev pub if_any : {A : Type 0} → (A → ℕ) → Option A → ℕ
if_any m None = 0
if_any m (Some a) = m a

abbrev pub weightless : {A : Type 0} → A → ℕ
weightless a = 0

-- a token weighs one
abbrev pub unit : {A : Type 0} → A → ℕ
unit a = 1

pub weighed_token : (kinds : Kinds) → Weighed (One kinds) unit
weighed_token kinds = record { all = λ us t p. let n : length us ≡ 1 = ap length p.0 in omega (arith, n) }

module _ {A : Type 0} where
  pub weighed_nothing : (P : Phrase A) → Weighed P weightless
  weighed_nothing P = record { all = λ us a p. omega arith }

  pub weighed_say : {P : Phrase A} {m : A → ℕ} (n : A → ℕ) → ((a : A) → n a ≤ m a) → Weighed P m → Weighed P n
  weighed_say {m = m} n k e = record { all = λ us a p. by (n a) (m a) (length us) (k a) (e.all us a p) }
    where
      by : (x y z : ℕ) → x ≤ y → y ≤ z → x ≤ z
      by x y z h l = omega (arith, h, l)

  pub weighed_give : (m : A → ℕ) (b : A) → m b ≡ 0 → Weighed (relation.give b) m
  weighed_give m b h = record { all = λ us a p. subst (λ z. m z ≤ length us) p.1 (omega (arith, h)) }

  pub weighed_either : {m : A → ℕ} (room : Bool) (begins : Kinds) {P Q : Phrase A} → Weighed P m → Weighed Q m → Weighed (relation.either_within Depth room begins P Q) m
  weighed_either {m} room begins {P} {Q} e f = record { all = λ us a p. by us a p }
    where
      by : (us : List Lexeme) (a : A) → ((room ≡ true) × (is_ahead begins us ≡ true) × P us a) ⊎ Q us a → m a ≤ length us
      by us a (inl p) = e.all us a p.2
      by us a (inr p) = f.all us a p

  pub weighed_separated : {P : Phrase A} {m : A → ℕ} (separates begins : Kinds) → Weighed P m → Weighed (Separated separates begins P) (total m)
  weighed_separated {P} {m} separates begins e = record { all = λ us xs p. by us xs p }
    where
      by : (us : List Lexeme) (xs : List A) → Separated separates begins P us xs → total m xs ≤ length us
      by us xs (Separated.only {a = a} p) = omega (arith, e.all us a p)
      by us xs (Separated.ended {u = u} {a = a} t p k) = omega (arith, e.all u a p, length-append u (t ∷ []))
      by us xs (Separated.one_more {u = u} {v = v} {a = a} {others = others} t p k l q) = omega (arith, e.all u a p, by v others q, length-append u (t ∷ v))

  pub weighed_many : {P : Phrase A} {m : A → ℕ} (begins wants : Kinds) (takes : A → ℕ) (left : Option ℕ) → Weighed P m → Weighed (Many begins wants takes (λ count. P) left) (total m)
  weighed_many {P} {m} begins wants takes left e = record { all = λ us xs p. by left us xs p }
    where
      by : (count : Option ℕ) (us : List Lexeme) (xs : List A) → Many begins wants takes (λ c. P) count us xs → total m xs ≤ length us
      by count us xs (Many.no_more) = omega arith
      by count us xs (Many.one_more {u = u} {v = v} {a = a} {others = others} p k l q) =
          omega (arith, e.all u a p, by (less count (takes a)) v others q, length-append u v)

module _ {A B : Type 0} where
  pub weighed_convert : {P : Phrase A} {m : A → ℕ} (f : A → B) (n : B → ℕ) → ((a : A) → n (f a) ≤ m a) → Weighed P m → Weighed (relation.convert f P) n
  weighed_convert {m = m} f n k e = record {
    all = λ us b p. subst (λ z. n z ≤ length us) p.2 (by (n (f p.0)) (m p.0) (length us) (k p.0) (e.all us p.0 p.1));
  }
    where
      by : (x y z : ℕ) → x ≤ y → y ≤ z → x ≤ z
      by x y z h l = omega (arith, h, l)

  pub weighed_both : {P : Phrase A} {Q : Phrase B} {m : A → ℕ} {n : B → ℕ} → Weighed P m → Weighed Q n → Weighed (Both P Q) (λ c. m c.0 + n c.1)
  weighed_both e f = record {
    all = λ us c p.
        let size : length us ≡ length p.0 + length p.1 = ap length p.2 ∙ length-append p.0 p.1 in
        omega (arith, size, e.all p.0 c.0 p.3, f.all p.1 c.1 p.4);
  }

module _ {A : Type 0} where
  pub weighed_behind : {P : Phrase A} {m : A → ℕ} (kinds : Kinds) → Weighed P m → Weighed (grammar.behind relation kinds P) m
  weighed_behind {P} {m} kinds e = weighed_convert _ m (λ r. omega arith) (weighed_both (weighed_token kinds) e)

  pub weighed_before : {P : Phrase A} {m : A → ℕ} (kinds : Kinds) → Weighed P m → Weighed (grammar.before relation P kinds) m
  weighed_before {P} {m} kinds e = weighed_convert _ m (λ r. omega arith) (weighed_both e (weighed_token kinds))

  pub weighed_optional : {P : Phrase A} {m : A → ℕ} (begins : Kinds) → Weighed P m → Weighed (grammar.optional relation begins P) (if_any m)
  weighed_optional {P} {m} begins e = weighed_either true begins (weighed_convert Some (if_any m) (λ a. omega arith) e) (weighed_give (if_any m) None refl)

module _ {A : Type 0} {first : Phrase Measured} {suffix : Phrase A} {m : Measured → ℕ} {n : A → ℕ} (begins : Kinds) (join : Measured → A → Measured) (depth : Option ℕ)
    (joins : (x : Measured) (a : A) → m (join x a) ≤ m x + n a) where
  pub weighed_suffix : Weighed first m → Weighed suffix n → Weighed (Suffix begins join depth first suffix) m
  weighed_suffix e f = record { all = λ us x p. by us x p }
    where
      by : (us : List Lexeme) (x : Measured) → Suffix begins join depth first suffix us x → m x ≤ length us
      by us x (Suffix.none p) = e.all us x p
      by us x (Suffix.one {u = u} {v = v} {m = y} {a = a} p l q b) = omega (arith, joins y a, e.all u y p, f.all v a q, length-append u v)

  pub weighed_suffixes : Weighed first m → Weighed suffix n → Weighed (Suffixes begins join depth first suffix) m
  weighed_suffixes e f = record { all = λ us x p. by us x p }
    where
      by : (us : List Lexeme) (x : Measured) → Suffixes begins join depth first suffix us x → m x ≤ length us
      by us x (Suffixes.none p) = e.all us x p
      by us x (Suffixes.one_more {u = u} {v = v} {m = y} {a = a} p l q b) = omega (arith, joins y a, by u y p, f.all v a q, length-append u v)
