-- Equations that copy, and what is known of those that can go.
use Rattle.std.proofs.Common.{◌≡◌, ◌⊎◌, ◌≤◌, ℕ, nat_eq, nat_lt, Bool, true, false, ◌||◌, ◌&&◌, not, if◌then◌else◌, map, List, [], ◌∷◌, Option, Some, None, inl, inr, refl, sym, ap, ◌∙◌, arith}
use Rattle.std.proofs.lemmas.Bool.{eqb-true, ltb-false}
use Rattle.hp_base.specs.declared.value.Value.{Value}
use Rattle.hp_obc.specs.declared.command.ObcOp.TheVariants.{Copy}
use Rattle.hp_flat.specs.declared.equation.Atom.{Atom}
use Rattle.hp_flat.specs.declared.equation.Atom.TheVariants.{Variable, Value as Fixed}
use Rattle.hp_flat.specs.Equations.{Clock, Right, operator, register, called, FlatEqn}
use Rattle.hp_flat.specs.Nodes.{FlatNode}
use Rattle.law_equations.specs.Meaning.Instants.{Instant, holds, atom}
use Rattle.law_equations.specs.Meaning.Reactions.{Answers, has, right_gives, Holds}
use Rattle.hp_normal.specs.Reading.{count, only, copied, both, copy_of, occurs, targets, uses, fixed, sampled}
use Rattle.hp_normal.specs.Retargeting.{same_clock, has as has_number, clock_of, is_free, free_copy, moved}
use Rattle.hp_normal.specs.Substituting.{Meanings, read, is_variable, may_stand}
use Rattle.hp_normal.specs.Following.{defined, MovesBy, Moves, StandsBy, Stands}
use Rattle.hp_normal.proofs.DefinerLaws.{count-append}
use Rattle.hp_normal.proofs.TableLaws.{first_true, second_true, occurs-often}
use Rattle.hp_normal.proofs.CopyLaws.{copy-target}
use Rattle.law_equations.proofs.FewerLemmas.Members.{Among, has-count, count-has, among-count}

-- ---- copies

only_is : {A : Type 0} (xs : List A) (x : A) → only xs ≡ Some x → xs ≡ x ∷ []
only_is [] x e = absurd cc
only_is (y ∷ []) x e = cc
only_is (y ∷ z ∷ ys) x e = absurd cc

copied_is : (right : Right) (a : Atom) → copied right ≡ Some a → right ≡ operator Copy (a ∷ [])
copied_is (operator Copy args) a e = ap (operator Copy) (only_is args a e)
copied_is (operator op args) a e = absurd cc
copied_is (register first next) a e = absurd cc
copied_is (called f args) a e = absurd cc

both_second : {A B : Type 0} (p : Option A) (q : Option B) (x : A) (a : B) → both p q ≡ Some (x, a) → q ≡ Some a
both_second {A} {B} None q x a e = absurd cc
both_second {A} {B} (Some y) None x a e = absurd cc
both_second {A} {B} (Some y) (Some b) x a e = let pair : ◌≡◌ {A = A × B} (y, b) (x, a) = cc in ap (λ (p : A × B). Some p.1) pair

pub copy-right : (e : FlatEqn) (x : ℕ) (a : Atom) → copy_of e ≡ Some (x, a) → e.right ≡ operator Copy (a ∷ [])
copy-right e x a h = copied_is e.right a (both_second (only e.targets) (copied e.right) x a h)

one_value : (a b : Value) → ◌≡◌ {A = List Value} (a ∷ []) (b ∷ []) → a ≡ b
one_value a b h = cc

-- where it is there, a copy has the value of what it copies
pub copy-says : (answers : Answers) (past : List Instant) (now : Instant) (e : FlatEqn) (x : ℕ) (a : Atom) → copy_of e ≡ Some (x, a) → Holds answers past now e → holds e.clock now ≡ true → now x ≡ atom now a
copy-says answers past now e x a q says t =
    one_value (now x) (atom now a)
    (ap (map now) (sym (copy-target e x a q)) ∙ says t ∙ ap (λ (right : Right). right_gives answers e.clock e.restart past now right) (copy-right e x a q))

pub one_copy : (x z : ℕ) (a b : Atom) → ◌≡◌ {A = Option (ℕ × Atom)} (Some (x, a)) (Some (z, b)) → (x ≡ z) × (a ≡ b)
one_copy x z a b e = let pair : ◌≡◌ {A = ℕ × Atom} (x, a) (z, b) = cc in (ap (λ (p : ℕ × Atom). p.0) pair, ap (λ (p : ℕ × Atom). p.1) pair)

pub one_variable : (x y : ℕ) → ◌≡◌ {A = Atom} (Variable x) (Variable y) → x ≡ y
one_variable x y e = cc

-- ---- copies because of which a variable is defined under another name

abbrev choice : Bool → ℕ → ℕ → Option (ℕ × ℕ)
choice free v w = if free then Some (v, w) else None

free_is : (x y v w : ℕ) (free : Bool) → choice free v w ≡ Some (x, y) → (free ≡ true) × ((v ≡ x) × (w ≡ y))
free_is x y v w true e =
    let pair : ◌≡◌ {A = ℕ × ℕ} (v, w) (x, y) = cc in
    (refl, (ap (λ (p : ℕ × ℕ). p.0) pair, ap (λ (p : ℕ × ℕ). p.1) pair))
free_is x y v w false e = absurd cc

free_of : (n : FlatNode) (clock : Clock) (copy : Option (ℕ × Atom)) (x y : ℕ) → free_copy n clock copy ≡ Some (x, y) → is_free n clock y ≡ true
free_of n clock None x y e = absurd cc
free_of n clock (Some (v, Fixed a)) x y e = absurd cc
free_of n clock (Some (v, Variable w)) x y e = let parts = free_is x y v w (is_free n clock w) e in sym (ap (is_free n clock) parts.1.1) ∙ parts.0

no_true : (b : Bool) → not b ≡ true → b ≡ false
no_true false e = refl
no_true true e = absurd cc

module _ (n : FlatNode) (e : FlatEqn) (x y : ℕ) (q : moved n e ≡ Some (x, y)) where
  abbrev no_input : Bool
  no_input = not (nat_lt y n.inputs)

  abbrev once : Bool
  once = occurs n 1 (targets n) y

  abbrev read_once : Bool
  read_once = occurs n 1 (uses n) y

  abbrev on_clock : Bool
  on_clock = same_clock (clock_of n.eqns y) e.clock

  free : (((no_input && once) && read_once) && on_clock) ≡ true
  free = free_of n e.clock (copy_of e) x y q

  -- what is copied is no input, is defined once, and on the clock of the copy
  pub moved-no_input : n.inputs ≤ y
  moved-no_input = ltb-false y n.inputs (no_true (nat_lt y n.inputs) (first_true no_input once (first_true (no_input && once) read_once (first_true ((no_input && once) && read_once) on_clock free))))

  pub moved-defined : count y (targets n) ≡ 1
  moved-defined = occurs-often n 1 (targets n) y (second_true no_input once (first_true (no_input && once) read_once (first_true ((no_input && once) && read_once) on_clock free)))

  pub moved-clock : same_clock (clock_of n.eqns y) e.clock ≡ true
  moved-clock = second_true ((no_input && once) && read_once) on_clock free

-- clocks that are tested to be the same are
same_clock_is : (first second : Clock) → same_clock first second ≡ true → first ≡ second
same_clock_is [] [] h = refl
same_clock_is [] (b ∷ second) h = absurd cc
same_clock_is (a ∷ first) [] h = absurd cc
same_clock_is (a ∷ first) (b ∷ second) h =
    let front : (nat_eq a.0 b.0 && nat_eq a.1 b.1) ≡ true = first_true (nat_eq a.0 b.0 && nat_eq a.1 b.1) (same_clock first second) h in
    let variable : a.0 ≡ b.0 = eqb-true a.0 b.0 (first_true (nat_eq a.0 b.0) (nat_eq a.1 b.1) front) in
    let number : a.1 ≡ b.1 = eqb-true a.1 b.1 (second_true (nat_eq a.0 b.0) (nat_eq a.1 b.1) front) in
    let rest : first ≡ second = same_clock_is first second (second_true (nat_eq a.0 b.0 && nat_eq a.1 b.1) (same_clock first second) h) in
    λ i. (variable i, number i) ∷ rest i

-- ---- the clock of a variable that is defined once

number_by : (d e : Bool) → (e ≡ true → d ≡ true) → (d ≡ true → e ≡ true) → d ≡ e
number_by true true f g = refl
number_by false false f g = refl
number_by true false f g = absurd (cc (g refl))
number_by false true f g = absurd (cc (f refl))

has_as : (xs : List ℕ) (x : ℕ) → has_number xs x ≡ has xs x
has_as [] x = refl
has_as (y ∷ xs) x = as_by (nat_eq y x) (has_number xs x) (has xs x) (has_as xs x)
  where
    as_by : (b d e : Bool) → d ≡ e → (if b then true else d) ≡ (b || e)
    as_by true d e h = refl
    as_by false d e h = h

clock_by : (b : Bool) (e : FlatEqn) (es : List FlatEqn) (y : ℕ) (c : Clock) → (b ≡ true → e.clock ≡ c) → (b ≡ false → clock_of es y ≡ c) → (if b then e.clock else clock_of es y) ≡ c
clock_by true e es y c f g = f refl
clock_by false e es y c f g = g refl

defined_with : (y : ℕ) (e : FlatEqn) (es : List FlatEqn) (d : FlatEqn) → count y (defined (e ∷ es)) ≤ 1 → Among d es → 1 ≤ count y d.targets → has_number e.targets y ≡ true → ⊥
defined_with y e es d h a p t =
    let here : 1 ≤ count y e.targets = has-count e.targets y (sym (has_as e.targets y) ∙ t) in
    absurd (omega (arith, h, p, here, among-count (λ (c : FlatEqn). c.targets) y es d a, count-append y e.targets (defined es)))

pub clock-of : (y : ℕ) (es : List FlatEqn) → count y (defined es) ≤ 1 → (d : FlatEqn) → Among d es → 1 ≤ count y d.targets → clock_of es y ≡ d.clock
clock-of y [] h d a p = absurd a
clock-of y (e ∷ es) h d (inl s) p =
    clock_by (has_number e.targets y) e es y d.clock (λ t. ap (λ (c : FlatEqn). c.clock) (sym s))
    (λ f. absurd (cc (sym f ∙ has_as e.targets y ∙ count-has e.targets y (omega (arith, p, ap (λ (c : FlatEqn). count y c.targets) s)))))
clock-of y (e ∷ es) h d (inr a) p =
    clock_by (has_number e.targets y) e es y d.clock (λ t. absurd (defined_with y e es d h a p t)) (λ f. clock-of y es (omega (arith, h, count-append y e.targets (defined es))) d a p)

-- a copy that can go stands on the clock of the equation that defines what it copies
pub moved-on : (n : FlatNode) (e d : FlatEqn) (x y : ℕ) → moved n e ≡ Some (x, y) → Among d n.eqns → 1 ≤ count y d.targets → d.clock ≡ e.clock
moved-on n e d x y q a p =
    sym (clock-of y n.eqns (omega (arith, moved-defined n e x y q)) d a p) ∙ same_clock_is (clock_of n.eqns y) e.clock (moved-clock n e x y q)

-- ---- from the lists of equations

pub record Moved (n : FlatNode) (r : ℕ → ℕ) (z : ℕ) (es : List FlatEqn) : Type 0 where
  pub eqn : FlatEqn
  pub among : Among eqn es
  pub x : ℕ
  pub copy : moved n eqn ≡ Some (x, z)
  pub ends : r z ≡ r x

moved_by : (n : FlatNode) (r : ℕ → ℕ) (z : ℕ) (e : FlatEqn) (es : List FlatEqn) (m : Option (ℕ × ℕ)) → moved n e ≡ m → MovesBy r z m → Moved n r z (e ∷ es)
moved_by n r z e es None q h = absurd h
moved_by n r z e es (Some (x, y)) q h = record { eqn = e; among = inl refl; x = x; copy = q ∙ ap (λ v. Some (x, v)) h.0; ends = h.1 }

pub moves-at : (n : FlatNode) (r : ℕ → ℕ) (z : ℕ) (es : List FlatEqn) → Moves n r z es → Moved n r z es
moves-at n r z [] h = absurd h
moves-at n r z (e ∷ es) (inl h) = moved_by n r z e es (moved n e) refl h
moves-at n r z (e ∷ es) (inr h) = let m : Moved n r z es = moves-at n r z es h in record { eqn = m.eqn; among = inr m.among; x = m.x; copy = m.copy; ends = m.ends }

pub record Stood (n : FlatNode) (s : Meanings) (z : ℕ) (es : List FlatEqn) : Type 0 where
  pub eqn : FlatEqn
  pub among : Among eqn es
  pub a : Atom
  pub copy : copy_of eqn ≡ Some (z, a)
  pub may : may_stand n z (s z) ≡ true
  pub stands : s z ≡ read s a

stood_by : (n : FlatNode) (s : Meanings) (z : ℕ) (e : FlatEqn) (es : List FlatEqn) (c : Option (ℕ × Atom)) → copy_of e ≡ c → StandsBy n s z c → Stood n s z (e ∷ es)
stood_by n s z e es None q h = absurd h
stood_by n s z e es (Some (x, a)) q h = record { eqn = e; among = inl refl; a = a; copy = q ∙ ap (λ v. Some (v, a)) h.0; may = h.1.0; stands = h.1.1 }

pub stands-at : (n : FlatNode) (s : Meanings) (z : ℕ) (es : List FlatEqn) → Stands n s z es → Stood n s z es
stands-at n s z [] h = absurd h
stands-at n s z (e ∷ es) (inl h) = stood_by n s z e es (copy_of e) refl h
stands-at n s z (e ∷ es) (inr h) = let m : Stood n s z es = stands-at n s z es h in record { eqn = m.eqn; among = inr m.among; a = m.a; copy = m.copy; may = m.may; stands = m.stands }

-- ---- variables that may stand for others

module _ (n : FlatNode) (x : ℕ) (a : Atom) (h : may_stand n x a ≡ true) where
  abbrev one : Bool
  one = occurs n 1 (targets n) x

  abbrev unfixed : Bool
  unfixed = occurs n 0 (fixed n) x

  abbrev readable : Bool
  readable = is_variable a || occurs n 0 (sampled n) x

  pub may-once : count x (targets n) ≡ 1
  may-once = occurs-often n 1 (targets n) x (first_true one unfixed (first_true (one && unfixed) readable h))

  pub may-unfixed : count x (fixed n) ≡ 0
  may-unfixed = occurs-often n 0 (fixed n) x (second_true one unfixed (first_true (one && unfixed) readable h))

  pub may-read : (is_variable a ≡ true) ⊎ (count x (sampled n) ≡ 0)
  may-read = read_by (is_variable a) (occurs n 0 (sampled n) x) (second_true (one && unfixed) readable h) (occurs-often n 0 (sampled n) x)
    where
      read_by : (b d : Bool) → (b || d) ≡ true → (d ≡ true → count x (sampled n) ≡ 0) → (b ≡ true) ⊎ (count x (sampled n) ≡ 0)
      read_by true d t f = inl refl
      read_by false d t f = inr (f t)
