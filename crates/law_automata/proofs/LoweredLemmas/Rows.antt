-- Instants of equations, made one after the other.
use Rattle.std.proofs.Common.{◌≡◌, ℕ, Bool, true, false, List, [], ◌∷◌, ◌++◌, inl, inr, refl, sym, ap, ap₂, ◌∙◌}
use Rattle.std.specs.Prelude.{◌⊎◌, ⊤, ◌||◌, if◌then◌else◌}
use Rattle.std.specs.Str.{bytes_eq}
use Rattle.hp_base.specs.declared.span.Span.{Span}
use Rattle.hp_base.specs.declared.value.Value.{Value}
use Rattle.hp_tree.specs.Expressions.{Expr}
use Rattle.hp_tree.specs.Blocks.{Decl, Eqn, eqns_of}
use Rattle.hp_tree.specs.Programs.{TypeDecl}
use Rattle.hp_tree.specs.Instant.{Head, Tail, Right, Instant, Past, Given, at, part, top, nothing, of_two, in_right}
use Rattle.hp_tree.specs.Meaning.{Names, Nodes, expr, equation, equations, gives, defined, defines, some_defines, clock_in}
use Rattle.hp_automata.specs.Lowering.{defining}
use Rattle.law_automata.specs.Lowered.Standing.{Relation, Along, behind}
use Rattle.law_automata.specs.Lowered.Deciding.{Property}
use Rattle.law_automata.specs.Lowered.Removable.{Plain}
use Rattle.law_automata.proofs.LoweredLemmas.Pasts.{along_right, along_so}
use Rattle.law_automata.proofs.LoweredLemmas.Apart.{same_bytes}
use Rattle.law_automata.proofs.LoweredLemmas.Tests.{or_cases}
use Rattle.law_automata.proofs.LoweredLemmas.Expressions.{reading}
use Rattle.law_automata.proofs.LoweredLemmas.Plain.{pure, plain_top, plain_any, plain_right}

-- what is given behind so many in a row
abbrev pub behind_given : {A : Type 0} → List A → Given → Given
behind_given [] g = g
behind_given (x ∷ xs) g = behind_given xs (at Tail g)

abbrev pub Anyhow : Property
Anyhow i = ⊤

pub along_behind : {A : Type 0} (P Q : Relation) (xs : List A) → ((i j : Instant) → P i j → Q i (behind xs j)) → (past : Past) (g : Given) → Along P past g.past → Along Q past (behind_given xs g).past
along_behind P Q [] f past g a = along_so P Q f past g.past a
along_behind P Q (x ∷ xs) f past g a =
    along_behind (λ i j. Q i (behind xs j)) Q xs (λ i j h. h) past (at Tail g) (along_right P (λ i j. Q i (behind xs j)) (part Tail) f past g.past a)

pub behind_free : {A : Type 0} (xs : List A) (g : Given) → (behind_given xs g).free ≡ behind xs g.free
behind_free [] g = refl
behind_free (x ∷ xs) g = behind_free xs (at Tail g)

module _ (types : List TypeDecl) (u : Value → Value) (N : Nodes) (ds : List Decl) (names last : Names) where
  -- an instant of an equation, which gives names the values that they have, and is so
  abbrev pub EqnMet : Eqn → Given → Property → Type 0
  EqnMet e g P =
      (j : Instant) × (j ≡ equation types (reading u) N ds e names last g j) × ((y : List ℕ) → defines e y ≡ true → gives types (reading u) N ds e names last g j y ≡ names y) × P j

  -- the same of equations in a row
  abbrev pub RowMet : List Eqn → Given → Property → Type 0
  RowMet es g P =
      (j : Instant) × (j ≡ equations types (reading u) N ds (eqns_of es) names last g j) × ((y : List ℕ) → some_defines (eqns_of es) y ≡ true → defined types (reading u) N ds (eqns_of es) names last g j y ≡ names y) × P j

  -- equations each of which has an instant, whatever is given
  abbrev pub EachMet : List Eqn → Type 0
  EachMet [] = ⊤
  EachMet (e ∷ es) = ((g : Given) → EqnMet e g Anyhow) × EachMet es

  pub eqn_so : (e : Eqn) (g : Given) (P Q : Property) → ((i : Instant) → P i → Q i) → EqnMet e g P → EqnMet e g Q
  eqn_so e g P Q f m = (m.0, m.1, m.2, f m.0 m.3)

  pub row_so : (es : List Eqn) (g : Given) (P Q : Property) → ((i : Instant) → P i → Q i) → RowMet es g P → RowMet es g Q
  row_so es g P Q f m = (m.0, m.1, m.2, f m.0 m.3)

  -- by what the equations say
  pub row_by : (es : List Eqn) (g : Given) (P Q : Property) → ((i : Instant) → i ≡ equations types (reading u) N ds (eqns_of es) names last g i → P i → Q i) → RowMet es g P → RowMet es g Q
  row_by es g P Q f m = (m.0, m.1, m.2, f m.0 m.1 m.3)

  row_gives : (e : Eqn) (es : List Eqn) (g : Given) (i j : Instant) → ((y : List ℕ) → defines e y ≡ true → gives types (reading u) N ds e names last (at Head g) i y ≡ names y)
      → ((y : List ℕ) → some_defines (eqns_of es) y ≡ true → defined types (reading u) N ds (eqns_of es) names last (at Tail g) j y ≡ names y)
      → (y : List ℕ) (t : Bool) → defines e y ≡ t → (t || some_defines (eqns_of es) y) ≡ true
      → (if t then gives types (reading u) N ds e names last (at Head g) i y else defined types (reading u) N ds (eqns_of es) names last (at Tail g) j y) ≡ names y
  row_gives e es g i j p q y true d h = p y d
  row_gives e es g i j p q y false d h = q y h

  pub row_none : (g : Given) → RowMet [] g Anyhow
  row_none g = (nothing, refl, (λ y h. absurd cc), tt)

  pub row_more : (e : Eqn) (es : List Eqn) (g : Given) (P Q : Property) → EqnMet e (at Head g) P → RowMet es (at Tail g) Q → RowMet (e ∷ es) g (λ j. P (part Head j) × Q (part Tail j))
  row_more e es g P Q m r =
      (of_two m.0 r.0, ap₂ of_two m.1 r.1, (λ y h. row_gives e es g m.0 r.0 m.2 r.2 y (defines e y) refl h), (m.3, r.3))

  pub each_row : (es : List Eqn) (g : Given) → EachMet es → RowMet es g Anyhow
  each_row [] g m = row_none g
  each_row (e ∷ es) g m = row_so (e ∷ es) g (λ j. ⊤ × ⊤) Anyhow (λ i p. tt) (row_more e es g Anyhow Anyhow (m.0 (at Head g)) (each_row es (at Tail g) m.1))

  pub row_append : (xs ys : List Eqn) (g : Given) (P : Property) → EachMet xs → RowMet ys (behind_given xs g) P → RowMet (xs ++ ys) g (λ j. P (behind xs j))
  row_append [] ys g P m r = r
  row_append (e ∷ xs) ys g P m r =
      row_so (e ∷ (xs ++ ys)) g (λ j. ⊤ × P (behind xs (part Tail j))) (λ j. P (behind xs (part Tail j))) (λ i p. p.1)
      (row_more e (xs ++ ys) g Anyhow (λ j. P (behind xs j)) (m.0 (at Head g)) (row_append xs ys (at Tail g) P m.1 r))

  -- an equation of one name, whose right side remembers nothing
  pub plain_met : (s : Span) (x : List ℕ) (e : Expr) → Plain e → clock_in ds x ≡ [] → names x ≡ pure types e names last → (g : Given) → EqnMet (defining s x e) g Anyhow
  plain_met s x e p clock v g =
      let i : Instant = expr types (reading u) N e [] names last (at Right g) nothing in
      let any : (j : Instant) → i ≡ expr types (reading u) N e (clock_in ds x) names last (at Right g) j =
      λ j. plain_any types u N e p names last (at Right g) (at Right g) nothing j ∙ ap (λ ck. expr types (reading u) N e ck names last (at Right g) j) (sym clock) in (
        in_right i,
        ap in_right (any i),
        (λ y h. given y (or_cases (bytes_eq x y) false h)),
        tt,
      )
    where
      given : (y : List ℕ) → (bytes_eq x y ≡ true) ⊎ (false ≡ true)
          → gives types (reading u) N ds (defining s x e) names last g (in_right (expr types (reading u) N e [] names last (at Right g) nothing)) y ≡ names y
      given y (inl h) =
          plain_right types u N ((x, s) ∷ []) e p (expr types (reading u) N e (clock_in ds x) names last (at Right g) (expr types (reading u) N e [] names last (at Right g) nothing)) y
          ∙ ap (λ ck. top (expr types (reading u) N e ck names last (at Right g) (expr types (reading u) N e [] names last (at Right g) nothing))) clock
          ∙ plain_top types u N e p names last (at Right g) (expr types (reading u) N e [] names last (at Right g) nothing)
          ∙ sym v ∙ ap names (same_bytes x y h)
      given y (inr h) = absurd cc
