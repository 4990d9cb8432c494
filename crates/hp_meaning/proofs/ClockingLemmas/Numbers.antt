-- Numbers of places: the position in a list in which no place stands twice.
use Rattle.std.proofs.Common.{◌≡◌, ◌⊎◌, inl, inr, ℕ, zero, suc, ◌≤◌, List, [], ◌∷◌, length, get_or, refl, sym, ap, ◌∙◌, subst, arith}
use Rattle.std.specs.Prelude.{Bool, true, false, if◌then◌else◌, Option, None, Some}
use Rattle.hp_tree.specs.Instant.{Place}
use Rattle.hp_meaning.specs.Causal.RanksOfPoints.{same_place}
use Rattle.hp_meaning.proofs.ClockingLemmas.Sameness.{same_place_tells}
use Rattle.hp_meaning.proofs.ClockingLemmas.Variables.{Avoids, Distinct}

abbrev pub one_more : Option ℕ → Option ℕ
one_more None = None
one_more (Some k) = Some (suc k)

abbrev pub position : List Place → Place → Option ℕ
position [] w = None
position (p ∷ ps) w = if same_place p w then Some zero else one_more (position ps w)

here : (p w : Place) (ps : List Place) → p ≡ w → position (p ∷ ps) w ≡ Some zero
here p w ps e = ap (λ d. if d then Some zero else one_more (position ps w)) ((same_place_tells p w).1 e)

later : (p w : Place) (ps : List Place) → (p ≡ w → ⊥) → position (p ∷ ps) w ≡ one_more (position ps w)
later p w ps h = tie (same_place p w) (same_place_tells p w).0
  where
    tie : (d : Bool) → (d ≡ true → p ≡ w) → (if d then Some zero else one_more (position ps w)) ≡ one_more (position ps w)
    tie true f = absurd (h (f refl))
    tie false f = refl

-- the place of a number that a place has
pub is_for : (ps : List Place) (outside w : Place) (v : ℕ) → position ps w ≡ Some v → get_or ps v outside ≡ w
is_for [] outside w v e = absurd (cc e)
is_for (p ∷ ps) outside w v e = tie (same_place p w) (same_place_tells p w).0 (λ j h. is_for ps outside w j h) e
  where
    found : (k : ℕ) → Some zero ≡ Some k → p ≡ w → get_or (p ∷ ps) k outside ≡ w
    found zero e f = f
    found (suc k) e f = absurd (cc e)

    next : (o : Option ℕ) (k : ℕ) → one_more o ≡ Some k → ((j : ℕ) → o ≡ Some j → get_or ps j outside ≡ w) → get_or (p ∷ ps) k outside ≡ w
    next None k e g = absurd (cc e)
    next (Some j) zero e g = absurd (cc e)
    next (Some j) (suc k) e g = g k (cc e)

    tie : (d : Bool) → (d ≡ true → p ≡ w) → ((j : ℕ) → position ps w ≡ Some j → get_or ps j outside ≡ w) → (if d then Some zero else one_more (position ps w)) ≡ Some v → get_or (p ∷ ps) v outside ≡ w
    tie true f g e = found v e (f refl)
    tie false f g e = next (position ps w) v e g

absent : (p : Place) (ps : List Place) → Avoids p ps → position ps p ≡ None
absent p [] h = refl
absent p (q ∷ qs) h = later q p qs (λ e. h.0 (sym e)) ∙ ap one_more (absent p qs h.1)

abbrev pub InList : List Place → Place → ℕ → Type 0
InList ps outside v =
    (position ps (get_or ps v outside) ≡ Some v) ⊎ ((position ps (get_or ps v outside) ≡ None) × (get_or ps v outside ≡ outside) × (length ps ≤ v))

-- Each number is that of its place, or is past the end, and then its place is outside.
pub in_list : (ps : List Place) (outside : Place) → Distinct ps → Avoids outside ps → (v : ℕ) → InList ps outside v
in_list [] outside d a v = inr (refl, refl, omega arith)
in_list (p ∷ ps) outside d a zero = inl (here p p ps refl)
in_list (p ∷ ps) outside d a (suc v) = step (in_list ps outside d.1 a.1 v)
  where
    step : InList ps outside v → InList (p ∷ ps) outside (suc v)
    step (inl e) =
        inl (later p (get_or ps v outside) ps (λ q. absurd (cc (sym (subst (λ z. position ps z ≡ None) q (absent p ps d.0)) ∙ e))) ∙ ap one_more e)
    step (inr e) =
        inr (later p (get_or ps v outside) ps (λ q. a.0 (sym (q ∙ e.1))) ∙ ap one_more e.0, e.1, omega (arith, e.2))
