-- Reactions of a node with more equations, in its own variables.
use Rattle.std.proofs.Common.{◌≡◌, ◌≢◌, ◌⊎◌, inl, inr, ℕ, zero, suc, ◌+◌, ◌<◌, ◌≤◌, Bool, true, false, ◌||◌, ◌&&◌, nat_eq, nat_lt, if◌then◌else◌, List, [], ◌∷◌, ◌++◌, length, map, refl, sym, ap, ap₂, subst, ◌∙◌, arith}
use Rattle.std.specs.List.{AllByRecursion, flat_map, range_with_len}
use Rattle.std.proofs.lemmas.Bool.{lt-ltb}
use Rattle.std.proofs.lemmas.Bool.Decides.{nat_tests}
use Rattle.hp_base.specs.declared.value.Value.{Value}
use Rattle.hp_base.specs.declared.value.Value.TheVariants.{Absent}
use Rattle.hp_flat.specs.declared.equation.Atom.{Atom}
use Rattle.hp_flat.specs.declared.equation.Atom.TheVariants.{Variable as Read, Value as Fixed}
use Rattle.hp_flat.specs.Equations.{Clock, Right, operator, register, called, FlatEqn}
use Rattle.hp_flat.specs.Nodes.{FlatNode}
use Rattle.law_equations.specs.Meaning.Instants.{Instant, has_constructor, holds, is_true, restarted, atom, atoms, unless, noted, history, since, newest}
use Rattle.law_equations.specs.Meaning.Fitting.{atom_variables, operands}
use Rattle.law_equations.specs.Meaning.Reactions.{Answers, has, is_set, right_gives, Holds, Continues, Reaction}
use Rattle.law_equations.specs.Meaning.Scheduling.{clock_variables, AreBelow, EqnWithin}
use Rattle.hp_obc.specs.Values.{operated}
use Rattle.hp_controller.specs.Extending.{Extends, cut, rows_with, ExtendedLaw}
use Rattle.hp_controller.proofs.ControllerLaws.{in_front, below-nat_lt}

-- ---- variables below a bound

module _ (V : ℕ) where
  cut_at : (now : Instant) (x : ℕ) → x < V → cut V now x ≡ now x
  cut_at now x h = ap (λ c. if c then now x else Absent) (lt-ltb x V h)

  same_atom : (now : Instant) (a : Atom) → AreBelow V (atom_variables a) → atom (cut V now) a ≡ atom now a
  same_atom now (Read x) h = cut_at now x h.0
  same_atom now (Fixed v) h = refl

  same_values : (now : Instant) (xs : List ℕ) → AreBelow V xs → map (cut V now) xs ≡ map now xs
  same_values now [] h = refl
  same_values now (x ∷ xs) h = ap₂ (λ v vs. v ∷ vs) (cut_at now x h.0) (same_values now xs h.1)

  same_atoms : (now : Instant) (args : List Atom) → AreBelow V (flat_map atom_variables args) → atoms (cut V now) args ≡ atoms now args
  same_atoms now [] h = refl
  same_atoms now (Read x ∷ args) h = ap₂ (λ v vs. v ∷ vs) (cut_at now x h.0) (same_atoms now args h.1)
  same_atoms now (Fixed v ∷ args) h = ap (λ vs. v ∷ vs) (same_atoms now args h)

  same_holds : (now : Instant) (clock : Clock) → AreBelow V (clock_variables clock) → holds clock (cut V now) ≡ holds clock now
  same_holds now [] h = refl
  same_holds now (on ∷ clock) h = ap₂ (λ v b. has_constructor on.1 v && b) (cut_at now on.0 h.0) (same_holds now clock h.1)

  same_restarted : (now : Instant) (xs : List ℕ) → AreBelow V xs → restarted xs (cut V now) ≡ restarted xs now
  same_restarted now [] h = refl
  same_restarted now (x ∷ xs) h = ap₂ (λ v b. is_true v || b) (cut_at now x h.0) (same_restarted now xs h.1)

  same_history : {A : Type 0} (clock : Clock) (restart : List ℕ) (f : Instant → A) → AreBelow V (clock_variables clock) → AreBelow V restart → ((i : Instant) → f (cut V i) ≡ f i) → (past : List Instant) → history clock restart f (map (cut V) past) ≡ history clock restart f past
  same_history clock restart f c r e [] = refl
  same_history clock restart f c r e (i ∷ past) =
      (λ j. noted (same_holds i clock c j) (e i j) (unless (same_restarted i restart r j) (same_history clock restart f c r e past j)))

  same_since : {A : Type 0} (clock : Clock) (restart : List ℕ) (f : Instant → A) → AreBelow V (clock_variables clock) → AreBelow V restart → ((i : Instant) → f (cut V i) ≡ f i) → (past : List Instant) (now : Instant) → since clock restart f (map (cut V) past) (cut V now) ≡ since clock restart f past now
  same_since clock restart f c r e past now = ap₂ (λ b h. unless b h) (same_restarted now restart r) (same_history clock restart f c r e past)

  module _ (answers : Answers) where
    same_right : (clock : Clock) (restart : List ℕ) (right : Right) → AreBelow V (clock_variables clock) → AreBelow V restart → AreBelow V (operands right) → (past : List Instant) (now : Instant)
        → right_gives answers clock restart (map (cut V) past) (cut V now) right ≡ right_gives answers clock restart past now right
    same_right clock restart (operator op args) c r o past now = ap (λ vs. operated op vs ∷ []) (same_atoms now args o)
    same_right clock restart (register first next) c r o past now = ap (λ h. newest first h ∷ []) (same_since clock restart (λ i. atom i next) c r (λ i. same_atom i next o) past now)
    same_right clock restart (called f args) c r o past now =
        ap₂ (λ vs rows. answers f vs rows) (same_atoms now args o) (same_since clock restart (λ i. atoms i args) c r (λ i. same_atoms i args o) past now)

    same_eqn : (past : List Instant) (now : Instant) (e : FlatEqn) → EqnWithin V e → Holds answers past now e → Holds answers (map (cut V) past) (cut V now) e
    same_eqn past now e w h c =
        same_values now e.targets w.targets ∙ h (sym (same_holds now e.clock w.clock) ∙ c) ∙ sym (same_right e.clock e.restart e.right w.clock w.restart w.operands past now)

    same_eqns : (past : List Instant) (now : Instant) (es : List FlatEqn) → AllByRecursion (EqnWithin V) es → AllByRecursion (Holds answers past now) es → AllByRecursion (Holds answers (map (cut V) past) (cut V now)) es
    same_eqns past now [] w h = tt
    same_eqns past now (e ∷ es) w h = (same_eqn past now e w.0 h.0, same_eqns past now es w.1 h.1)

  same_set : (now : Instant) (es : List FlatEqn) → AllByRecursion (EqnWithin V) es → (x : ℕ) → is_set es (cut V now) x ≡ is_set es now x
  same_set now [] w x = refl
  same_set now (e ∷ es) w x = let within = w.0 in ap₂ (λ b c. (b && has e.targets x) || c) (same_holds now e.clock within.clock) (same_set now es w.1 x)

-- ---- what is set

set_both : (now : Instant) (es more : List FlatEqn) (x : ℕ) → is_set es now x ≡ false → is_set more now x ≡ false → is_set (es ++ more) now x ≡ false
set_both now [] more x h g = g
set_both now (e ∷ es) more x h g = by (holds e.clock now && has e.targets x) refl h (λ k. set_both now es more x k g)
  where
    by : (a : Bool) → (holds e.clock now && has e.targets x) ≡ a → ((holds e.clock now && has e.targets x) || is_set es now x) ≡ false → (is_set es now x ≡ false → is_set (es ++ more) now x ≡ false)
        → ((holds e.clock now && has e.targets x) || is_set (es ++ more) now x) ≡ false
    by true p h rest = absurd (let no : true ≡ false = sym (ap (λ c. c || is_set es now x) p) ∙ h in cc)
    by false p h rest = ap₂ (λ c d. c || d) p (rest (sym (ap (λ c. c || is_set es now x) p) ∙ h))

not_among : (n V x : ℕ) (xs : List ℕ) → AllByRecursion (λ y. (y < n) ⊎ (V ≤ y)) xs → n ≤ x → x < V → has xs x ≡ false
not_among n V x [] h l u = refl
not_among n V x (y ∷ ys) h l u = ap₂ (λ a b. a || b) (apart h.0) (not_among n V x ys h.1 l u)
  where
    differ : y ≢ x → nat_eq y x ≡ false
    differ ne = grind (arith, nat_tests)

    apart : (y < n) ⊎ (V ≤ y) → nat_eq y x ≡ false
    apart (inl a) = differ (λ e. absurd (omega (arith, a, l, e)))
    apart (inr a) = differ (λ e. absurd (omega (arith, a, u, e)))

none_set : (n V x : ℕ) (now : Instant) (more : List FlatEqn) → AllByRecursion (λ (e : FlatEqn). AllByRecursion (λ y. (y < n) ⊎ (V ≤ y)) e.targets) more → n ≤ x → x < V → is_set more now x ≡ false
none_set n V x now [] h l u = refl
none_set n V x now (e ∷ more) h l u = ap₂ (λ a b. (holds e.clock now && a) || b) (not_among n V x e.targets h.0 l u) (none_set n V x now more h.1 l u) ∙ both (holds e.clock now)
  where
    both : (c : Bool) → ((c && false) || false) ≡ false
    both true = refl
    both false = refl

-- ---- inputs

range_split : (a m k : ℕ) → range_with_len a (m + k) ≡ range_with_len a m ++ range_with_len (a + m) k
range_split a zero k =
    let none : 0 + k ≡ k = omega arith in
    let same : a ≡ a + 0 = omega arith in
    ap (range_with_len a) none ∙ ap (λ b. range_with_len b k) same
range_split a (suc m) k =
    let next : suc m + k ≡ suc (m + k) = omega arith in
    let same : (a + 1) + m ≡ a + suc m = omega arith in
    ap (range_with_len a) next ∙ ap (λ xs. a ∷ xs) (range_split (a + 1) m k ∙ ap (λ b. range_with_len (a + 1) m ++ range_with_len b k) same)

mapped_both : (f : ℕ → Value) (xs ys : List ℕ) → map f (xs ++ ys) ≡ map f xs ++ map f ys
mapped_both f [] ys = refl
mapped_both f (x ∷ xs) ys = ap (λ vs. f x ∷ vs) (mapped_both f xs ys)

range_below : (V a n : ℕ) → a + n ≤ V → AreBelow V (range_with_len a n)
range_below V a zero h = tt
range_below V a (suc n) h = (omega (arith, h), range_below V (a + 1) n (omega (arith, h)))

-- ---- the law

module _ (answers : Answers) (n other : FlatNode) (fewer : ℕ) (more : List FlatEqn) (x : Extends n other fewer more) where
  abbrev V : ℕ
  V = length n.variables

  continues : (row : List Value) (now : Instant) (past : List Instant) → Continues answers other past row now → Continues answers n (map (cut V) past) (row ++ map now (range_with_len other.inputs fewer)) (cut V now)
  continues row now past c = record {
    inputs_are =
        let start : 0 + other.inputs ≡ other.inputs = omega arith in
        let size = x.variables in
        same_values V now (range_with_len 0 n.inputs) (range_below V 0 n.inputs (omega (arith, size)))
        ∙ ap (λ k. map now (range_with_len 0 k)) x.inputs
        ∙ ap (map now) (range_split 0 other.inputs fewer)
        ∙ mapped_both now (range_with_len 0 other.inputs) (range_with_len (0 + other.inputs) fewer)
        ∙ ap₂ (λ vs b. vs ++ map now (range_with_len b fewer)) c.inputs_are start;
    equations = same_eqns V answers past now n.eqns x.within (in_front (Holds answers past now) n.eqns more (subst (AllByRecursion (Holds answers past now)) x.eqns c.equations));
    others = λ y l s. by y l s (nat_lt y V) refl;
  }
    where
      by : (y : ℕ) → n.inputs ≤ y → is_set n.eqns (cut V now) y ≡ false → (b : Bool) → nat_lt y V ≡ b → (if b then now y else Absent) ≡ Absent
      by y l s false e = refl
      by y l s true e =
          let inputs = x.inputs in
          c.others y (omega (arith, l, inputs))
          (ap (λ es. is_set es now y) x.eqns ∙ set_both now n.eqns more y (sym (same_set V now n.eqns x.within y) ∙ s) (none_set n.inputs V y now more x.targets l (below-nat_lt y V e)))

  extended : (rows : List (List Value)) (instants : List Instant) → Reaction answers other rows instants → Reaction answers n (rows_with other.inputs fewer rows instants) (map (cut V) instants)
  extended [] [] r = tt
  extended [] (now ∷ past) r = absurd r
  extended (row ∷ rows) [] r = absurd r
  extended (row ∷ rows) (now ∷ past) r = (extended rows past r.0, continues row now past r.1)

pub extended_law : ExtendedLaw
extended_law answers n other fewer more x rows instants r = extended answers n other fewer more x rows instants r
