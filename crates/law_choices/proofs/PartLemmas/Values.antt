-- The values of an instant under other numbers.
use Rattle.std.proofs.Common.{◌≡◌, ℕ, Bool, true, false, ◌||◌, ◌&&◌, nat_eq, nat_lt, if◌then◌else◌, List, [], ◌∷◌, map, refl, sym, ap, ap₂, ◌∙◌, arith}
use Rattle.std.specs.List.{AllByRecursion, flat_map}
use Rattle.std.proofs.lemmas.Bool.{lt-ltb}
use Rattle.std.proofs.lemmas.Bool.Decides.{nat_tests}
use Rattle.hp_base.specs.declared.value.Value.TheVariants.{Absent}
use Rattle.hp_flat.specs.declared.equation.Atom.{Atom}
use Rattle.hp_flat.specs.declared.equation.Atom.TheVariants.{Variable as Read, Value as Fixed}
use Rattle.hp_flat.specs.Equations.{Clock, Right, operator, register, called, FlatEqn}
use Rattle.hp_obc.specs.Values.{operated}
use Rattle.law_equations.specs.Meaning.Instants.{Instant, has_constructor, holds, is_true, restarted, atom, atoms, unless, noted, history, since, newest}
use Rattle.law_equations.specs.Meaning.Fitting.{atom_variables, operands}
use Rattle.law_equations.specs.Meaning.Reactions.{Answers, has, is_set, right_gives, Holds}
use Rattle.law_equations.specs.Meaning.Scheduling.{clock_variables}
use Rattle.law_choices.specs.Part.Part.{Renumbering, IsRenumbering, renumbered_atom, renumbered_right, renumbered_clock, renumbered, AreKept, EqnKept, ArePart}

-- the instant of a part: each new number has the value of its old one
abbrev pub part_instant : Renumbering → Instant → Instant
part_instant r now y = if nat_lt y r.count then now (r.old y) else Absent

module _ (r : Renumbering) (is : IsRenumbering r) where
  abbrev Of : Instant → Instant
  Of now = part_instant r now

  pub part_at : (now : Instant) (x : ℕ) → r.kept x ≡ true → Of now (r.number x) ≡ now x
  part_at now x h = ap (λ c. if c then now (r.old (r.number x)) else Absent) (lt-ltb (r.number x) r.count (is.below x h)) ∙ ap now (is.back x h)

  pub part_atom : (now : Instant) (a : Atom) → AreKept r (atom_variables a) → atom (Of now) (renumbered_atom r a) ≡ atom now a
  part_atom now (Read x) h = part_at now x h.0
  part_atom now (Fixed v) h = refl

  pub part_values : (now : Instant) (xs : List ℕ) → AreKept r xs → map (Of now) (map r.number xs) ≡ map now xs
  part_values now [] h = refl
  part_values now (x ∷ xs) h = ap₂ (λ v vs. v ∷ vs) (part_at now x h.0) (part_values now xs h.1)

  pub part_atoms : (now : Instant) (args : List Atom) → AreKept r (flat_map atom_variables args) → atoms (Of now) (map (renumbered_atom r) args) ≡ atoms now args
  part_atoms now [] h = refl
  part_atoms now (Read x ∷ args) h = ap₂ (λ v vs. v ∷ vs) (part_at now x h.0) (part_atoms now args h.1)
  part_atoms now (Fixed v ∷ args) h = ap (λ vs. v ∷ vs) (part_atoms now args h)

  pub part_holds : (now : Instant) (clock : Clock) → AreKept r (clock_variables clock) → holds (renumbered_clock r clock) (Of now) ≡ holds clock now
  part_holds now [] h = refl
  part_holds now (on ∷ clock) h = ap₂ (λ v b. has_constructor on.1 v && b) (part_at now on.0 h.0) (part_holds now clock h.1)

  pub part_restarted : (now : Instant) (xs : List ℕ) → AreKept r xs → restarted (map r.number xs) (Of now) ≡ restarted xs now
  part_restarted now [] h = refl
  part_restarted now (x ∷ xs) h = ap₂ (λ v b. is_true v || b) (part_at now x h.0) (part_restarted now xs h.1)

  part_history : {A : Type 0} (clock : Clock) (restart : List ℕ) (f g : Instant → A) → AreKept r (clock_variables clock) → AreKept r restart → ((i : Instant) → g (Of i) ≡ f i) → (past : List Instant)
      → history (renumbered_clock r clock) (map r.number restart) g (map Of past) ≡ history clock restart f past
  part_history clock restart f g c k e [] = refl
  part_history clock restart f g c k e (i ∷ past) = (λ j. noted (part_holds i clock c j) (e i j) (unless (part_restarted i restart k j) (part_history clock restart f g c k e past j)))

  part_since : {A : Type 0} (clock : Clock) (restart : List ℕ) (f g : Instant → A) → AreKept r (clock_variables clock) → AreKept r restart → ((i : Instant) → g (Of i) ≡ f i) → (past : List Instant) (now : Instant)
      → since (renumbered_clock r clock) (map r.number restart) g (map Of past) (Of now) ≡ since clock restart f past now
  part_since clock restart f g c k e past now = ap₂ (λ b h. unless b h) (part_restarted now restart k) (part_history clock restart f g c k e past)

  module _ (answers : Answers) where
    part_right : (clock : Clock) (restart : List ℕ) (right : Right) → AreKept r (clock_variables clock) → AreKept r restart → AreKept r (operands right) → (past : List Instant) (now : Instant)
        → right_gives answers (renumbered_clock r clock) (map r.number restart) (map Of past) (Of now) (renumbered_right r right) ≡ right_gives answers clock restart past now right
    part_right clock restart (operator op args) c k o past now = ap (λ vs. operated op vs ∷ []) (part_atoms now args o)
    part_right clock restart (register first next) c k o past now =
        ap (λ h. newest first h ∷ []) (part_since clock restart (λ i. atom i next) (λ i. atom i (renumbered_atom r next)) c k (λ i. part_atom i next o) past now)
    part_right clock restart (called f args) c k o past now =
        ap₂ (λ vs rows. answers f vs rows) (part_atoms now args o) (part_since clock restart (λ i. atoms i args) (λ i. atoms i (map (renumbered_atom r) args)) c k (λ i. part_atoms i args o) past now)

    part_eqn : (past : List Instant) (now : Instant) (e : FlatEqn) → EqnKept r e → Holds answers past now e → Holds answers (map Of past) (Of now) (renumbered r e)
    part_eqn past now e k h c =
        let clock = k.clock in
        part_values now e.targets k.targets ∙ h (sym (part_holds now e.clock clock) ∙ c) ∙ sym (part_right e.clock e.restart e.right clock k.restart k.operands past now)

    pub part_eqns : (past : List Instant) (now : Instant) (es fs : List FlatEqn) → ArePart r es fs → AllByRecursion (Holds answers past now) es → AllByRecursion (Holds answers (map Of past) (Of now)) fs
    part_eqns past now es fs (ArePart.no_eqn) h = tt
    part_eqns past now es fs (ArePart.kept_eqn e k p) h = (part_eqn past now e k h.0, part_eqns past now _ _ p h.1)
    part_eqns past now es fs (ArePart.left_eqn e k p) h = part_eqns past now _ _ p h.1

  -- ---- what is set

  -- two variables that are kept have one number where they are the same
  differ : (x y : ℕ) → nat_eq y x ≡ false → y ≡ x → ⊥
  differ x y h e = grind (arith, nat_tests)

  pub one-number : (x y : ℕ) → r.kept x ≡ true → r.kept y ≡ true → r.number y ≡ r.number x → y ≡ x
  one-number x y h k e = sym (is.back y k) ∙ ap r.old e ∙ is.back x h

  pub same_test : (x y : ℕ) → r.kept x ≡ true → r.kept y ≡ true → nat_eq (r.number y) (r.number x) ≡ nat_eq y x
  same_test x y h k = by (nat_eq y x) refl
    where
      equal : nat_eq y x ≡ true → y ≡ x
      equal e = grind (arith, nat_tests)

      itself : (a b : ℕ) → a ≡ b → nat_eq a b ≡ true
      itself a b e = grind (arith, nat_tests)

      apart : (a b : ℕ) → (a ≡ b → ⊥) → nat_eq a b ≡ false
      apart a b ne = test (nat_eq a b) refl
        where
          test : (c : Bool) → nat_eq a b ≡ c → nat_eq a b ≡ false
          test true e = absurd (ne (grind (arith, nat_tests)))
          test false e = e

      by : (b : Bool) → nat_eq y x ≡ b → nat_eq (r.number y) (r.number x) ≡ b
      by true e = itself (r.number y) (r.number x) (ap r.number (equal e))
      by false e = apart (r.number y) (r.number x) (λ same. differ x y e (one-number x y h k same))

  pub same_has : (xs : List ℕ) (x : ℕ) → AreKept r xs → r.kept x ≡ true → has (map r.number xs) (r.number x) ≡ has xs x
  same_has [] x h k = refl
  same_has (y ∷ ys) x h k = ap₂ (λ a b. a || b) (same_test x y k h.0) (same_has ys x h.1 k)

  pub has_none : (xs : List ℕ) (x : ℕ) → AllByRecursion (λ y. r.kept y ≡ false) xs → r.kept x ≡ true → has xs x ≡ false
  has_none [] x h k = refl
  has_none (y ∷ ys) x h k = ap₂ (λ a b. a || b) (apart (nat_eq y x) refl) (has_none ys x h.1 k)
    where
      equal : nat_eq y x ≡ true → y ≡ x
      equal e = grind (arith, nat_tests)

      apart : (b : Bool) → nat_eq y x ≡ b → nat_eq y x ≡ false
      apart true e = absurd (let no : true ≡ false = sym k ∙ ap r.kept (sym (equal e)) ∙ h.0 in cc)
      apart false e = e

  pub same_set : (now : Instant) (es fs : List FlatEqn) → ArePart r es fs → (x : ℕ) → r.kept x ≡ true → is_set fs (Of now) (r.number x) ≡ is_set es now x
  same_set now es fs (ArePart.no_eqn) x k = refl
  same_set now es fs (ArePart.kept_eqn {es = es1} {fs = fs1} e w p) x k =
      let clock = w.clock in
      (λ j. (part_holds now e.clock clock j && same_has e.targets x w.targets k j) || same_set now es1 fs1 p x k j)
  same_set now es fs (ArePart.left_eqn {es = es1} {fs = fs1} e h p) x k =
      same_set now es1 fs1 p x k ∙ sym (ap (λ b. (holds e.clock now && b) || is_set es1 now x) (has_none e.targets x h k) ∙ none (holds e.clock now))
    where
      none : (b : Bool) → ((b && false) || is_set es1 now x) ≡ is_set es1 now x
      none true = refl
      none false = refl
