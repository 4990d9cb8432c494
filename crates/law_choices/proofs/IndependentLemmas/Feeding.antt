-- A block with one more equation, by which a name that it only reads gets the value of another: `x = y`, behind all others.
use Rattle.std.proofs.Common.{◌≡◌, ℕ, Bool, true, false, ◌||◌, List, [], ◌∷◌, inl, inr, refl, sym, ap, ◌∙◌}
use Rattle.std.specs.Prelude.{if◌then◌else◌}
use Rattle.std.proofs.Math.Path.{fun_ext}
use Rattle.std.specs.Str.{bytes_eq}
use Rattle.hp_base.specs.declared.span.Span.{Span}
use Rattle.hp_tree.specs.Expressions.{variable}
use Rattle.hp_tree.specs.Blocks.{Decl, Eqns, no_eqn, more_eqns, Eqn, define}
use Rattle.hp_tree.specs.Instant.{Head, Tail, Right, First, Place}
use Rattle.hp_tree.specs.Meaning.{defines, some_defines, clock_in}
use Rattle.hp_meaning.specs.Causal.Sources.{none, both, also, NameSources, PlaceSources, IsRead, below}
use Rattle.hp_meaning.specs.Causal.WhatIsRead.{of_clock, of_definition, of_definitions, in_equations, in_equation}

abbrev pub with_eqn : Eqns → Eqn → Eqns
with_eqn no_eqn e = more_eqns e no_eqn
with_eqn (more_eqns d es) e = more_eqns d (with_eqn es e)

abbrev pub feed : Span → List ℕ → List ℕ → Eqn
feed s x y = define s ((x, s) ∷ []) (variable s y)

or_end : (a : Bool) → (a || false) ≡ a
or_end true = refl
or_end false = refl

or_assoc : (a b c : Bool) → (a || (b || c)) ≡ ((a || b) || c)
or_assoc true b c = refl
or_assoc false b c = refl

pub defines_with : (es : Eqns) (e : Eqn) (z : List ℕ) → some_defines (with_eqn es e) z ≡ (some_defines es z || defines e z)
defines_with no_eqn e z = or_end (defines e z)
defines_with (more_eqns d es) e z = ap (λ t. defines d z || t) (defines_with es e z) ∙ or_assoc (defines d z) (some_defines es z) (defines e z)

-- the places of the new equation
abbrev pub is_new : Eqns → Place → Bool
is_new no_eqn (Head ∷ p) = true
is_new no_eqn p = false
is_new (more_eqns d es) (Tail ∷ p) = is_new es p
is_new (more_eqns d es) p = false

-- places of the other equations are read as before
abbrev pub Agree : Eqns → PlaceSources → PlaceSources → Type 0
Agree es k l = (p : Place) → is_new es p ≡ false → k p ≡ l p

module _ (ds : List Decl) (s : Span) (x y : List ℕ) (names : NameSources) where
  -- what a name that is another reads stays
  pub definitions_stay : (es : Eqns) (k l : PlaceSources) (z : List ℕ) → Agree es k l → bytes_eq x z ≡ false → of_definitions ds (with_eqn es (feed s x y)) names l z ≡ of_definitions ds es names k z
  definitions_stay no_eqn k l z same other = no_more (bytes_eq x z) other
    where
      no_more : (t : Bool) → t ≡ false → (if (t || false) then of_definition ds (feed s x y) names (below Head l) z else none) ≡ none
      no_more true q = absurd cc
      no_more false q = refl
  definitions_stay (more_eqns e es) k l z same other =
      let heads : below Head l ≡ below Head k = fun_ext (λ p. sym (same (Head ∷ p) refl)) in
      ap (λ h. if defines e z then of_definition ds e names h z else of_definitions ds (with_eqn es (feed s x y)) names (below Tail l) z) heads
      ∙ ap (λ r. if defines e z then of_definition ds e names (below Head k) z else r) (definitions_stay es (below Tail k) (below Tail l) z (λ p. same (Tail ∷ p)) other)

  -- the new name reads the other one
  pub new_definition : (es : Eqns) (l : PlaceSources) → some_defines es x ≡ false → clock_in ds x ≡ [] → bytes_eq x x ≡ true → of_definitions ds (with_eqn es (feed s x y)) names l x ≡ both (also none) (names y)
  new_definition no_eqn l h base self =
      ap (λ t. if (t || false) then both (also (of_clock (clock_in ds x) names)) (names y) else none) self ∙ ap (λ c. both (also (of_clock c names)) (names y)) base
  new_definition (more_eqns e es) l h base self = by (defines e x) h (λ q. new_definition es (below Tail l) q base self)
    where
      by : (t : Bool) → (t || some_defines es x) ≡ false → (some_defines es x ≡ false → of_definitions ds (with_eqn es (feed s x y)) names (below Tail l) x ≡ both (also none) (names y))
          → (if t then of_definition ds e names (below Head l) x else of_definitions ds (with_eqn es (feed s x y)) names (below Tail l) x) ≡ both (also none) (names y)
      by true q rest = absurd cc
      by false q rest = rest q

  -- the places of the other equations read what they read
  pub places_stay : (es : Eqns) (k l : PlaceSources) (p : Place) → Agree es k l → is_new es p ≡ false → in_equations ds (with_eqn es (feed s x y)) names l p ≡ in_equations ds es names k p
  places_stay no_eqn k l (Head ∷ p) same old = absurd cc
  places_stay no_eqn k l (Tail ∷ p) same old = refl
  places_stay no_eqn k l p same old = refl
  places_stay (more_eqns e es) k l (Head ∷ p) same old =
      let heads : below Head l ≡ below Head k = fun_ext (λ q. sym (same (Head ∷ q) refl)) in
      ap (λ h. in_equation ds e names h p) heads
  places_stay (more_eqns e es) k l (Tail ∷ p) same old = places_stay es (below Tail k) (below Tail l) p (λ q. same (Tail ∷ q)) old
  places_stay (more_eqns e es) k l p same old = refl

  -- those of the new one read the other name
  pub new_reads : (es : Eqns) (l : PlaceSources) (p q : Place) → is_new es p ≡ true → IsRead q (in_equations ds (with_eqn es (feed s x y)) names l p) → IsRead q (names y)
  new_reads no_eqn l (Head ∷ Right ∷ []) q at (inl h) = absurd h
  new_reads no_eqn l (Head ∷ Right ∷ []) q at (inr h) = h
  new_reads no_eqn l (Head ∷ Right ∷ First ∷ p) q at h = absurd h
  new_reads no_eqn l (Head ∷ Right ∷ p) q at h = absurd h
  new_reads no_eqn l (Head ∷ p) q at h = absurd h
  new_reads no_eqn l p q at h = absurd cc
  new_reads (more_eqns e es) l (Tail ∷ p) q at h = new_reads es (below Tail l) p q at h
  new_reads (more_eqns e es) l p q at h = absurd cc

  -- and there are none behind the others before
  pub none_behind : (es : Eqns) (k : PlaceSources) (p : Place) → is_new es p ≡ true → in_equations ds es names k p ≡ none
  none_behind no_eqn k p at = refl
  none_behind (more_eqns e es) k (Tail ∷ p) at = none_behind es (below Tail k) p at
  none_behind (more_eqns e es) k p at = absurd cc

  pub none_defined : (es : Eqns) (k : PlaceSources) (z : List ℕ) → some_defines es z ≡ false → of_definitions ds es names k z ≡ none
  none_defined no_eqn k z h = refl
  none_defined (more_eqns e es) k z h = by (defines e z) h (λ q. none_defined es (below Tail k) z q)
    where
      by : (t : Bool) → (t || some_defines es z) ≡ false → (some_defines es z ≡ false → of_definitions ds es names (below Tail k) z ≡ none) → (if t then of_definition ds e names (below Head k) z else of_definitions ds es names (below Tail k) z) ≡ none
      by true q rest = absurd cc
      by false q rest = rest q
