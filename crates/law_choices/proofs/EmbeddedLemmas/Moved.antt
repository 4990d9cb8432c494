-- An observer's equations at a site hold by themselves, in its own variables, over the instants of the site.
use Rattle.std.proofs.Common.{◌≡◌, ℕ, ◌+◌, ◌<◌, Bool, true, false, ◌&&◌, ◌||◌, nat_lt, if◌then◌else◌, List, [], ◌∷◌, ◌++◌, map, refl, sym, ap, ap₂, subst, ◌∙◌, arith}
use Rattle.std.specs.Prelude.{IsTrue}
use Rattle.std.specs.List.{AllByRecursion, flat_map}
use Rattle.std.proofs.lemmas.Bool.Decides.{nat_tests}
use Rattle.hp_base.specs.declared.value.Value.{Value}
use Rattle.hp_base.specs.declared.value.Value.TheVariants.{Absent}
use Rattle.hp_flat.specs.declared.equation.Atom.{Atom}
use Rattle.hp_flat.specs.declared.equation.Atom.TheVariants.{Variable as Read, Value as Fixed}
use Rattle.hp_flat.specs.Equations.{Clock, FlatEqn, Right, called, operator, register}
use Rattle.law_equations.specs.Meaning.Fitting.{atom_variables, operands}
use Rattle.law_equations.specs.Meaning.Instants.{Instant, atom, atoms, has_constructor, history, holds, is_true, newest, noted, restarted, since, unless}
use Rattle.law_equations.specs.Meaning.Reactions.{Answers, Holds, right_gives}
use Rattle.law_equations.specs.Meaning.Scheduling.{AreBelow, EqnWithin, clock_variables}
use Rattle.hp_obc.specs.Values.{operated}
use Rattle.hp_watch.specs.Embedding.{Site, moved_all, moved_atom, moved_clock, moved_eqn, moved_right}
use Rattle.law_choices.specs.Embedded.Sites.{moved_in}

-- ---- clocks and restarts one behind the other

both-and : (a b c : Bool) → (a && (b && c)) ≡ ((a && b) && c)
both-and true b c = refl
both-and false b c = refl

pub both-or : (a b c : Bool) → (a || (b || c)) ≡ ((a || b) || c)
both-or true b c = refl
both-or false b c = refl

pub holds-both : (c d : Clock) (i : Instant) → holds (c ++ d) i ≡ (holds c i && holds d i)
holds-both [] d i = refl
holds-both (on ∷ c) d i = ap (λ b. has_constructor on.1 (i on.0) && b) (holds-both c d i) ∙ both-and (has_constructor on.1 (i on.0)) (holds c i) (holds d i)

restarted-both : (xs ys : List ℕ) (i : Instant) → restarted (xs ++ ys) i ≡ (restarted xs i || restarted ys i)
restarted-both [] ys i = refl
restarted-both (x ∷ xs) ys i = ap (λ b. is_true (i x) || b) (restarted-both xs ys i) ∙ both-or (is_true (i x)) (restarted xs i) (restarted ys i)

unless-none : (A : Type 0) (b : Bool) → unless {A = A} b [] ≡ []
unless-none A true = refl
unless-none A false = refl

-- ---- an instant in the variables of the observer

module _ (count far : ℕ) where
  abbrev own : Instant → Instant
  own i = moved_in count far i

  pub value-own : (i : Instant) (x : ℕ) → x < count → own i x ≡ i (x + far)
  value-own i x l = let e : nat_lt x count ≡ true = grind (arith, nat_tests, l) in ap (λ b. if b then i (x + far) else Absent) e

  pub nothing-own : (i : Instant) (x : ℕ) → nat_lt x count ≡ false → own i x ≡ Absent
  nothing-own i x e = ap (λ b. if b then i (x + far) else Absent) e

  pub clock-own : (c : Clock) (i : Instant) → AreBelow count (clock_variables c) → holds (moved_clock far c) i ≡ holds c (own i)
  clock-own [] i h = refl
  clock-own (on ∷ c) i h = ap₂ (λ v b. has_constructor on.1 v && b) (sym (value-own i on.0 h.0)) (clock-own c i h.1)

  restart-own : (xs : List ℕ) (i : Instant) → AreBelow count xs → restarted (moved_all far xs) i ≡ restarted xs (own i)
  restart-own [] i h = refl
  restart-own (x ∷ xs) i h = ap₂ (λ v b. is_true v || b) (sym (value-own i x h.0)) (restart-own xs i h.1)

  atom-own : (a : Atom) (i : Instant) → AreBelow count (atom_variables a) → atom i (moved_atom far a) ≡ atom (own i) a
  atom-own (Read x) i h = sym (value-own i x h.0)
  atom-own (Fixed v) i h = refl

  atoms-own : (args : List Atom) (i : Instant) → AreBelow count (flat_map atom_variables args) → atoms i (map (moved_atom far) args) ≡ atoms (own i) args
  atoms-own [] i h = refl
  atoms-own (Read x ∷ args) i h = ap₂ (λ v vs. v ∷ vs) (sym (value-own i x h.0)) (atoms-own args i h.1)
  atoms-own (Fixed v ∷ args) i h = ap (λ vs. v ∷ vs) (atoms-own args i h)

  targets-own : (xs : List ℕ) (i : Instant) → AreBelow count xs → map i (moved_all far xs) ≡ map (own i) xs
  targets-own [] i h = refl
  targets-own (x ∷ xs) i h = ap₂ (λ v vs. v ∷ vs) (sym (value-own i x h.0)) (targets-own xs i h.1)

  -- ---- a site

  module _ (site : Site) where
    -- where the site is not there, no variable of the observer is
    abbrev pub IsStill : Instant → Type 0
    IsStill i = holds site.clock i ≡ false → (x : ℕ) → x < count → i (x + far) ≡ Absent

    -- so the observer begins nothing anew
    quiet : (i : Instant) (xs : List ℕ) → AreBelow count xs → ((x : ℕ) → x < count → i (x + far) ≡ Absent) → restarted (moved_all far xs) i ≡ false
    quiet i [] h s = refl
    quiet i (x ∷ xs) h s = ap₂ (λ v b. is_true v || b) (s x h.0) (quiet i xs h.1 s)

    -- the instants of the site
    abbrev pub site_past : List Instant → List Instant
    site_past past = history site.clock site.restart own past

    abbrev pub site_since : List Instant → Instant → List Instant
    site_since past now = since site.clock site.restart own past now

    -- What is noted on the clock of the site and one of the observer is what is noted on that one over the instants of the site.
    module _ (A : Type 0) (f g : Instant → A) (same : (i : Instant) → f i ≡ g (own i)) (clock : Clock) (restart : List ℕ) (clock-below : AreBelow count (clock_variables clock)) (restart-below : AreBelow count restart) where
      joined : (there again : Bool) (i : Instant) (h : List Instant) → (there ≡ false → (x : ℕ) → x < count → i (x + far) ≡ Absent)
          → noted (there && holds clock (own i)) (g (own i)) (unless (again || restarted (moved_all far restart) i) (history clock restart g h)) ≡ history clock restart g (noted there (own i) (unless again h))
      joined true true i h s = ap (λ z. noted (holds clock (own i)) (g (own i)) z) (sym (unless-none A (restarted restart (own i))))
      joined true false i h s = ap (λ b. noted (holds clock (own i)) (g (own i)) (unless b (history clock restart g h))) (restart-own restart i restart-below)
      joined false true i h s = refl
      joined false false i h s = ap (λ b. unless b (history clock restart g h)) (quiet i restart restart-below (s refl))

      pub history-own : (past : List Instant) → AllByRecursion IsStill past → history (site.clock ++ moved_clock far clock) (site.restart ++ moved_all far restart) f past ≡ history clock restart g (site_past past)
      history-own [] s = refl
      history-own (i ∷ past) s =
          ap₂ (λ b h. noted b (f i) h) (holds-both site.clock (moved_clock far clock) i ∙ ap (λ b. holds site.clock i && b) (clock-own clock i clock-below))
          (ap₂ (λ b h. unless b h) (restarted-both site.restart (moved_all far restart) i) (history-own past s.1))
          ∙ ap (λ a. noted (holds site.clock i && holds clock (own i)) a (unless (restarted site.restart i || restarted (moved_all far restart) i) (history clock restart g (site_past past)))) (same i)
          ∙ joined (holds site.clock i) (restarted site.restart i) i (site_past past) s.0

      again : (b : Bool) (now : Instant) (h : List Instant) → unless (b || restarted (moved_all far restart) now) (history clock restart g h) ≡ unless (restarted restart (own now)) (history clock restart g (unless b h))
      again true now h = sym (unless-none A (restarted restart (own now)))
      again false now h = ap (λ b. unless b (history clock restart g h)) (restart-own restart now restart-below)

      pub since-own : (past : List Instant) (now : Instant) → AllByRecursion IsStill past → since (site.clock ++ moved_clock far clock) (site.restart ++ moved_all far restart) f past now ≡ since clock restart g (site_since past now) (own now)
      since-own past now s =
          ap₂ (λ b h. unless b h) (restarted-both site.restart (moved_all far restart) now) (history-own past s)
          ∙ again (restarted site.restart now) now (site_past past)

    -- ---- equations

    module _ (answers : Answers) where
      right-own : (clock : Clock) (restart : List ℕ) → AreBelow count (clock_variables clock) → AreBelow count restart → (past : List Instant) (now : Instant) → AllByRecursion IsStill past → (r : Right) → AreBelow count (operands r)
          → right_gives answers (site.clock ++ moved_clock far clock) (site.restart ++ moved_all far restart) past now (moved_right far r) ≡ right_gives answers clock restart (site_since past now) (own now) r
      right-own clock restart c-below r-below past now s (operator op args) h = ap (λ vs. operated op vs ∷ []) (atoms-own args now h)
      right-own clock restart c-below r-below past now s (register first next) h =
          ap (λ z. newest first z ∷ []) (since-own Value (λ i. atom i (moved_atom far next)) (λ i. atom i next) (λ i. atom-own next i h) clock restart c-below r-below past now s)
      right-own clock restart c-below r-below past now s (called f args) h =
          ap₂ (λ vs z. answers f vs z) (atoms-own args now h) (since-own (List Value) (λ i. atoms i (map (moved_atom far) args)) (λ i. atoms i args) (λ i. atoms-own args i h) clock restart c-below r-below past now s)

      -- An equation of the observer holds by itself, where the site is there.
      pub holds-own : (past : List Instant) (now : Instant) → AllByRecursion IsStill past → holds site.clock now ≡ true → (e : FlatEqn) → EqnWithin count e → Holds answers past now (moved_eqn site far e) → Holds answers (site_since past now) (own now) e
      holds-own past now s here e w h there =
          let both : holds (site.clock ++ moved_clock far e.clock) now ≡ holds e.clock (own now) = holds-both site.clock (moved_clock far e.clock) now ∙ ap₂ (λ a b. a && b) here (clock-own e.clock now w.clock) in
          sym (targets-own e.targets now w.targets) ∙ h (subst (λ b. IsTrue b) (sym both) there) ∙ right-own e.clock e.restart w.clock w.restart past now s e.right w.operands

      -- so do all
      pub all-own : (past : List Instant) (now : Instant) → AllByRecursion IsStill past → holds site.clock now ≡ true → (es : List FlatEqn) → AllByRecursion (EqnWithin count) es → AllByRecursion (Holds answers past now) (map (moved_eqn site far) es)
          → AllByRecursion (Holds answers (site_since past now) (own now)) es
      all-own past now s here [] w h = tt
      all-own past now s here (e ∷ es) w h = (holds-own past now s here e w.0 h.0, all-own past now s here es w.1 h.1)
