-- Solving unit by unit names the first unit such that the units up to it allow no clocks, and else gives the shortest clocks.
use Rattle.std.proofs.Common.{◌≡◌, List, [], ◌∷◌, ◌++◌, refl, sym, ◌∙◌, subst}
use Rattle.std.proofs.lemmas.List.{append_assoc, append-nil}
use Rattle.std.specs.Prelude.{Option, None, Some}
use Rattle.hp_tree.specs.Instant.{Place}
use Rattle.hp_meaning.specs.Clocking.Terms.{AllHold, IsShortest, nothing_known, shortest, solve}
use Rattle.hp_meaning.specs.Clocking.Clocking.{On, Assignment, ClockUnit, AllAllow, place_of}
use Rattle.hp_meaning.specs.Clocking.Equations.{of_unit}
use Rattle.hp_meaning.specs.Causal.RanksOfPoints.{same_place}
use Rattle.hp_meaning.specs.Clocking.Solving.{same_on, Known, or_clash, judged, Told}
use Rattle.hp_meaning.proofs.ClockingLemmas.Unify.{Solves, SolvesOr, solves_like, solves, shortest_solves}
use Rattle.hp_meaning.proofs.ClockingLemmas.Generate.{Iff, unit_on}
use Rattle.hp_meaning.proofs.ClockingLemmas.Sameness.{same_place_tells, same_on_tells}

pub all_allow : (at : Assignment) (us vs : List ClockUnit) → Iff (AllAllow at (us ++ vs)) (AllAllow at us × AllAllow at vs)
all_allow at [] vs = ((λ h. (tt, h)), λ h. h.1)
all_allow at (u ∷ us) vs = ((λ h. let r = (all_allow at us vs).0 h.1 in ((h.0, r.0), r.1)), λ h. (h.0.0, (all_allow at us vs).1 (h.0.1, h.1)))

abbrev Solved : List ClockUnit → Known → Type 0
Solved us known = Solves Place On (λ at. AllAllow at us) known

-- one more unit
one_more : (before : List ClockUnit) (known : Known) → Solved before known → (u : ClockUnit) → SolvesOr Place On (λ at. AllAllow at (before ++ (u ∷ []))) (solve same_place same_on known (of_unit u))
one_more before known k u =
    solves_like Place On (λ at. AllAllow at before × AllHold at (of_unit u)) (λ at. AllAllow at (before ++ (u ∷ []))) (solve same_place same_on known (of_unit u))
    (λ at p. (all_allow at before (u ∷ [])).1 (p.0, ((unit_on at u).0 p.1, tt)))
    (λ at q. let r = (all_allow at before (u ∷ [])).0 q in (r.0, (unit_on at u).1 r.1.0))
    (solves Place On same_place same_place_tells same_on same_on_tells (of_unit u) (λ at. AllAllow at before) known k)

-- `Are` is true of the shortest clocks of the units so far, wherever these are some of the first units.
module _ (all : List ClockUnit) (Are : Assignment → Type 0) (are : (before later : List ClockUnit) (at : Assignment) → all ≡ before ++ later → IsShortest (λ z. AllAllow z before) at → Are at) where
  short : (before later : List ClockUnit) (known : Known) → all ≡ before ++ later → Solved before known → IsShortest (λ at. Are at × AllAllow at before) (shortest known)
  short before later known e k =
      let s = shortest_solves Place On (λ at. AllAllow at before) known k in
      ((are before later (shortest known) e s, s.0), λ other p v. s.1 other p.1 v)

  tell : (before : List ClockUnit) (u : ClockUnit) (us : List ClockUnit) (known : Known) → all ≡ before ++ (u ∷ us) → Solved before known → (o : Option Known) → SolvesOr Place On (λ at. AllAllow at (before ++ (u ∷ []))) o → ((more : Known) → Solved (before ++ (u ∷ [])) more → Told Are all (judged more us)) → Told Are all (or_clash o (place_of u) (λ more. judged more us))
  tell before u us known e k None f g =
      (before, u, us, e, refl, (shortest known, (short before (u ∷ us) known e k).0), λ at a h. f at h)
  tell before u us known e k (Some more) f g = g more f

  pub tells : (us before : List ClockUnit) (known : Known) → all ≡ before ++ us → Solved before known → Told Are all (judged known us)
  tells [] before known e k =
      subst (λ z. IsShortest (λ at. Are at × AllAllow at z) (shortest known)) (sym (e ∙ append-nil before)) (short before [] known e k)
  tells (u ∷ us) before known e k =
      tell before u us known e k (solve same_place same_on known (of_unit u)) (one_more before known k u)
      (λ more f. tells us (before ++ (u ∷ [])) more (e ∙ sym (append_assoc before (u ∷ []) us)) f)

  -- All units, from nothing.
  pub told : Told Are all (judged nothing_known all)
  told = tells all [] nothing_known refl (record { sound = λ at. tt; whole = λ at p. refl })
