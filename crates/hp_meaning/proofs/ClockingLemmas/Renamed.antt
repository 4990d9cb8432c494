-- Variables that are numbers stand for places: what is known of the numbers is known of the places.
use Rattle.std.proofs.Common.{◌≡◌, ◌⊎◌, inl, inr, List, [], ◌∷◌, ◌++◌, map, refl, sym, ap, ◌∙◌, subst}
use Rattle.std.specs.Prelude.{Option, None, Some}
use Rattle.hp_meaning.specs.Clocking.Terms.{Term, Values, of_head, value, Equation, AllHold, Known, given}
use Rattle.hp_meaning.proofs.ClockingLemmas.Unify.{Solves}

module _ (V W S : Type 0) (means : V → W) where
  abbrev pub head_for : Option V → Option W
  head_for None = None
  head_for (Some v) = Some (means v)

  abbrev pub term_for : Term V S → Term W S
  term_for t = (t.0, head_for t.1)

  abbrev pub equations_for : List (Equation V S) → List (Equation W S)
  equations_for es = map (λ e. (term_for e.0, term_for e.1)) es

  abbrev pub of_places : Values W S → Values V S
  of_places at v = at (means v)

  value_for : (at : Values W S) (t : Term V S) → value at (term_for t) ≡ value (of_places at) t
  value_for at t = heads t.1
    where
      heads : (h : Option V) → t.0 ++ of_head at (head_for h) ≡ t.0 ++ of_head (of_places at) h
      heads None = refl
      heads (Some v) = refl

  -- equations of numbers are those of the places
  pub all_for : (at : Values W S) (es : List (Equation V S)) → (AllHold at (equations_for es) → AllHold (of_places at) es) × (AllHold (of_places at) es → AllHold at (equations_for es))
  all_for at [] = ((λ h. tt), λ h. tt)
  all_for at (e ∷ es) = (
    (λ h. (sym (value_for at e.0) ∙ h.0 ∙ value_for at e.1, (all_for at es).0 h.1)),
    λ h. (value_for at e.0 ∙ h.0 ∙ sym (value_for at e.1), (all_for at es).1 h.1),
  )

  module _ (number : W → Option V) (is_for : (w : W) (v : V) → number w ≡ Some v → means v ≡ w) where
    abbrev pub by_number : Known V S → W → Option V → Term W S
    by_number known w None = ([], Some w)
    by_number known w (Some v) = term_for (known v)

    abbrev pub known_for : Known V S → Known W S
    known_for known w = by_number known w (number w)

    -- Each number is that of its place, or is not in use: then nothing is known of it.
    abbrev pub InUse : Known V S → Type 0
    InUse known = (v : V) → (number (means v) ≡ Some v) ⊎ ((number (means v) ≡ None) × (known v ≡ ([], Some v)))

    given_for : (known : Known V S) → InUse known → (at : Values W S) → of_places (given (known_for known) at) ≡ given known (of_places at)
    given_for known u at =
        let f : (v : V) → value at (known_for known (means v)) ≡ value (of_places at) (known v) = λ v. one v (u v) in
        λ z v. f v z
      where
        one : (v : V) → (number (means v) ≡ Some v) ⊎ ((number (means v) ≡ None) × (known v ≡ ([], Some v))) → value at (known_for known (means v)) ≡ value (of_places at) (known v)
        one v (inl e) = ap (λ z. value at (by_number known (means v) z)) e ∙ value_for at (known v)
        one v (inr e) = ap (λ z. value at (by_number known (means v) z)) e.0 ∙ sym (ap (value (of_places at)) e.1)

    pub solves_for : (P : Values V S → Type 0) (known : Known V S) → InUse known → Solves V S P known → Solves W S (λ at. P (of_places at)) (known_for known)
    solves_for P known u k =
        record {
          sound = λ at. subst P (sym (given_for known u at)) (k.sound (of_places at));
          whole = λ at p.
              let w : of_places at ≡ given known (of_places at) = k.whole (of_places at) p in
              let f : (x : W) → at x ≡ value at (known_for known x) = λ x. one at w x (number x) refl in
              λ z x. f x z;
        }
      where
        one : (at : Values W S) → of_places at ≡ given known (of_places at) → (x : W) (o : Option V) → number x ≡ o → at x ≡ value at (by_number known x o)
        one at w x None e = refl
        one at w x (Some v) e = ap at (sym (is_for x v e)) ∙ ap (λ z. z v) w ∙ sym (value_for at (known v))
