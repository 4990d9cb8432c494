-- Clocked equations that stand for flat names fit where these fit.
use Rattle.std.proofs.Common.{◌≡◌, ◌<◌, ◌≤◌, ◌⊎◌, inl, inr, ℕ, suc, Bool, true, false, nat_eq, if◌then◌else◌, List, [], ◌∷◌, ◌++◌, length, map, reverse, Option, None, Some, refl, sym, ap, ap₂, subst, ◌∙◌, arith}
use Rattle.std.specs.Prelude.{IsTrue, ◌&&◌}
use Rattle.std.specs.List.{AllByRecursion, flat_map}
use Rattle.std.proofs.lemmas.Bool.{eq-eqb}
use Rattle.std.proofs.lemmas.List.{reverse-append, reverse-reverse}
use Rattle.hp_base.specs.Kinds.{KindData, AreOfKinds}
use Rattle.hp_base.specs.declared.value.Value.{Value}
use Rattle.hp_base.specs.declared.value.Value.TheVariants.{Absent}
use Rattle.hp_obc.specs.Steps.{Names}
use Rattle.hp_flat.specs.declared.equation.Atom.{Atom}
use Rattle.hp_flat.specs.declared.equation.Atom.TheVariants.{Variable, Value as Fixed}
use Rattle.hp_flat.specs.Equations.{Clock, Right as Given, operator, register, called, FlatEqn}
use Rattle.hp_flat.specs.Nodes.{FlatNode}
use Rattle.law_equations.specs.Meaning.Instants.{Instant, holds as clock_holds}
use Rattle.law_equations.specs.Meaning.Reactions.{inputs_of}
use Rattle.law_equations.specs.Meaning.Fitting.{is_there, IsThere, is_choice, is_flag, ClockFits, atom_variables, operands, IsTaken, EqnFits}
use Rattle.law_equations.specs.Flattened.Flat.{Arg, name, value, Right, Op, Register, Call, Row, Flat, Now, values}
use Rattle.law_equations.specs.Flattened.Flatten.{FlatName, Input, Nowhere}
use Rattle.law_equations.specs.Flattened.Numbered.{targets_from, definitions, IsArg, AreArgs, IsRight, AreSteps, IsRow, AreRows, StandFor, StepsTold, RowsTold, AreTold, IsTolds, AreEquationsFor, numbered}
use Rattle.law_equations.proofs.FlattenedLemmas.NumberLaws.{clock_back, steps_same, row_there, args_same}
use Rattle.law_equations.specs.Answered.Fitting.{StepsFit, ArgFits, RightFits, RowFits, FlatFits, DefineSome}
use Rattle.law_equations.specs.Answered.Short.{AreShort, ConstantsShort, TakenIfShort, AllTakenIfShort, InstantShort}
use Rattle.law_equations.proofs.AnsweredLemmas.ShortLaws.{atoms_then}
use Rattle.law_equations.specs.Followed.Premises.{constants_of}
use Rattle.law_equations.specs.Answered.Laws.{FitsLaw}

-- ---- lists turned

all_both : {A : Type 0} (P : A → Type 0) (xs ys : List A) → AllByRecursion P (xs ++ ys) → AllByRecursion P xs × AllByRecursion P ys
all_both P [] ys h = (tt, h)
all_both P (x ∷ xs) ys h = let r = all_both P xs ys h.1 in ((h.0, r.0), r.1)

all_back : {A : Type 0} (P : A → Type 0) (xs : List A) → AllByRecursion P (reverse xs) → AllByRecursion P xs
all_back P [] h = tt
all_back P (x ∷ xs) h =
    let r = all_both P (reverse xs) (x ∷ []) (subst (AllByRecursion P) (reverse-append (x ∷ []) xs) h) in
    (r.1.0, all_back P xs r.0)

clock_more : (c : Clock) (on : ℕ × ℕ) (now : Instant) → ClockFits c now → (IsTrue (clock_holds c now) → IsTrue (is_choice (now on.0))) → ClockFits (c ++ on ∷ []) now
clock_more [] on now h k = (k refl, λ e. tt)
clock_more (o ∷ c) on now h k = (h.0, λ e. clock_more c on now (h.1 e) (λ g. k (ap₂ (λ (a b : Bool). a && b) e g)))

module _ (means : ℕ → FlatName) (i : Now FlatName) where
  clock_turned : (c : Clock) (steps : List (Value × FlatName)) → AreSteps means c steps → StepsTold steps i → StepsFit steps i → ClockFits (reverse c) (numbered means i)
  clock_turned [] [] a t f = tt
  clock_turned [] (s ∷ steps) a t f = absurd a
  clock_turned (on ∷ c) [] a t f = absurd a
  clock_turned (on ∷ c) (s ∷ steps) a t f =
      subst (λ (d : Clock). ClockFits d (numbered means i)) (sym (reverse-append (on ∷ []) c))
      (clock_more (reverse c) on (numbered means i) (clock_turned c steps a.2 t.1 f.1)
      (λ h. subst (λ (x : FlatName). IsTrue (is_choice (i x))) (sym a.0) (f.0 (sym (steps_same means c steps i a.2 t.1) ∙ sym (clock_back (numbered means i) c) ∙ h))))

  clock_fits : (e : FlatEqn) (k : ℕ) (r : Row FlatName) → IsRow means e k r → StepsTold r.clock i → StepsFit r.clock i → ClockFits e.clock (numbered means i)
  clock_fits e k r is t f = subst (λ (c : Clock). ClockFits c (numbered means i)) (reverse-reverse e.clock) (clock_turned (reverse e.clock) r.clock is.clock t f)

  flags_of : (xs : List ℕ) → AllByRecursion (λ a. IsTrue (is_flag (i a))) (map means xs) → AllByRecursion (λ x. IsTrue (is_flag (numbered means i x))) xs
  flags_of [] h = tt
  flags_of (x ∷ xs) h = (h.0, flags_of xs h.1)

  restart_fits : (e : FlatEqn) (k : ℕ) (r : Row FlatName) → IsRow means e k r → AllByRecursion (λ a. IsTrue (is_flag (i a))) r.restart → AllByRecursion (λ x. IsTrue (is_flag (numbered means i x))) e.restart
  restart_fits e k r is h = all_back (λ x. IsTrue (is_flag (numbered means i x))) e.restart (flags_of (reverse e.restart) (subst (AllByRecursion (λ a. IsTrue (is_flag (i a)))) (sym is.restart) h))

  -- ---- what is read

  arg_there : (x : Atom) (a : Arg FlatName) → IsArg means x a → ArgFits i a → AllByRecursion (IsThere (numbered means i)) (atom_variables x)
  arg_there (Variable x) (name a) is f = (subst (λ (b : FlatName). IsTrue (is_there (i b))) (sym is) f, tt)
  arg_there (Variable x) (value w) is f = absurd is
  arg_there (Fixed v) (name a) is f = tt
  arg_there (Fixed v) (value w) is f = tt

  all_append : (P : ℕ → Type 0) (xs ys : List ℕ) → AllByRecursion P xs → AllByRecursion P ys → AllByRecursion P (xs ++ ys)
  all_append P [] ys h k = k
  all_append P (x ∷ xs) ys h k = (h.0, all_append P xs ys h.1 k)

  args_there : (xs : List Atom) (ys : List (Arg FlatName)) → AreArgs means xs ys → AllByRecursion (ArgFits i) ys → AllByRecursion (IsThere (numbered means i)) (flat_map atom_variables xs)
  args_there [] [] is f = tt
  args_there [] (a ∷ ys) is f = absurd is
  args_there (x ∷ xs) [] is f = absurd is
  args_there (x ∷ xs) (a ∷ ys) is f = all_append (IsThere (numbered means i)) (atom_variables x) (flat_map atom_variables xs) (arg_there x a is.0 f.0) (args_there xs ys is.1 f.1)

  module _ (takes : Names (List KindData)) where
    operands_fit : (k : ℕ) (given : Given) (r : Right FlatName) → IsRight means k given r → RightFits takes i r → AllByRecursion (IsThere (numbered means i)) (operands given)
    operands_fit k (operator op xs) (Op o ys) is f = args_there xs ys is.1 f
    operands_fit k (operator op xs) (Register v a) is f = absurd is
    operands_fit k (operator op xs) (Call g j ys) is f = absurd is
    operands_fit k (register first next) (Op o ys) is f = absurd is
    operands_fit k (register first next) (Register v a) is f = arg_there next a is.1 f
    operands_fit k (register first next) (Call g j ys) is f = absurd is
    operands_fit k (called f xs) (Op o ys) is g = absurd is
    operands_fit k (called f xs) (Register v a) is g = absurd is
    operands_fit k (called f xs) (Call h j ys) is g = args_there xs ys is.2 g.0

    taken_if : (k : ℕ) (given : Given) (r : Right FlatName) → i Nowhere ≡ Absent → IsRight means k given r → RightFits takes i r → TakenIfShort takes (numbered means i) given
    taken_if k (operator op xs) r n is f = tt
    taken_if k (register first next) r n is f = tt
    taken_if k (called f xs) (Op o ys) n is g = absurd is
    taken_if k (called f xs) (Register v a) n is g = absurd is
    taken_if k (called f xs) (Call h j ys) n is g =
        λ short. subst (λ (vs : List Value). AreOfKinds (takes f) vs) (sym (args_same means xs ys i is.2 n))
        (subst (λ (x : List ℕ). AreOfKinds (takes x) (values ys i)) (sym is.0) (g.1 (subst AreShort (args_same means xs ys i is.2 n) short)))

    taken_fit : (given : Given) → InstantShort (numbered means i) → AreShort (constants_of given) → TakenIfShort takes (numbered means i) given → IsTaken takes (numbered means i) given
    taken_fit (operator op xs) short c t = tt
    taken_fit (register first next) short c t = tt
    taken_fit (called f xs) short c t = t (atoms_then xs c (numbered means i) short)

-- ---- the row of an equation

abbrev Among : FlatEqn × ℕ → List (FlatEqn × ℕ) → Type 0
Among d [] = ⊥
Among d (x ∷ xs) = (x ≡ d) ⊎ Among d xs

among_left : (d : FlatEqn × ℕ) (xs ys : List (FlatEqn × ℕ)) → Among d xs → Among d (xs ++ ys)
among_left d [] ys h = absurd h
among_left d (x ∷ xs) ys (inl e) = inl e
among_left d (x ∷ xs) ys (inr h) = inr (among_left d xs ys h)

among_right : (d : FlatEqn × ℕ) (xs ys : List (FlatEqn × ℕ)) → Among d ys → Among d (xs ++ ys)
among_right d [] ys h = h
among_right d (x ∷ xs) ys h = inr (among_right d xs ys h)

first_target : (k y : ℕ) (ys : List ℕ) (e : FlatEqn) → Among (e, k) (targets_from k (y ∷ ys) e y)
first_target k y ys e = subst (λ (b : Bool). Among (e, k) (if b then (e, k) ∷ targets_from (suc k) ys e y else targets_from (suc k) ys e y)) (sym (eq-eqb y y refl)) (inl refl)

later_target : (k y x : ℕ) (ys : List ℕ) (e : FlatEqn) (d : FlatEqn × ℕ) → Among d (targets_from (suc k) ys e x) → Among d (targets_from k (y ∷ ys) e x)
later_target k y x ys e d h = by (nat_eq y x)
  where
    by : (b : Bool) → Among d (if b then (e, k) ∷ targets_from (suc k) ys e x else targets_from (suc k) ys e x)
    by true = inr h
    by false = h

-- a row, with what holds of it
pub record HasRow (means : ℕ → FlatName) (i : Now FlatName) (takes : Names (List KindData)) (e : FlatEqn) (x : ℕ) : Type 0 where
  pub place : ℕ
  pub row : Row FlatName
  pub is : IsRow means e place row
  pub told : StepsTold row.clock i
  pub fits : RowFits takes i (means x) row

row_among : (means : ℕ → FlatName) (i : Now FlatName) (takes : Names (List KindData)) (x : ℕ) (ds : List (FlatEqn × ℕ)) (rows : List (Row FlatName)) → AreRows means ds rows → RowsTold rows i → AllByRecursion (RowFits takes i (means x)) rows
    → (e : FlatEqn) (k : ℕ) → Among (e, k) ds → HasRow means i takes e x
row_among means i takes x [] rows are told fit e k h = absurd h
row_among means i takes x (d ∷ ds) [] are told fit e k h = absurd are
row_among means i takes x (d ∷ ds) (r ∷ rows) are told fit e k (inl same) =
    record { place = d.1; row = r; is = subst (λ (y : FlatEqn). IsRow means y d.1 r) (ap (λ (y : FlatEqn × ℕ). y.0) same) are.0; told = told.0; fits = fit.0 }
row_among means i takes x (d ∷ ds) (r ∷ rows) are told fit e k (inr h) = row_among means i takes x ds rows are.1 told.1 fit.1 e k h

module _ (means : ℕ → FlatName) (flat : Flat FlatName) (takes : Names (List KindData)) (i : Now FlatName) (told : IsTolds means flat i) (fit : FlatFits takes means flat i) where
  row_of : (x : ℕ) (ds : List (FlatEqn × ℕ)) (o : Option (List (Row FlatName))) → flat (means x) ≡ o → StandFor means ds (means x) o → AreTold o i → (e : FlatEqn) (k : ℕ) → Among (e, k) ds → HasRow means i takes e x
  row_of x ds None is stands t e k h = absurd (subst (λ (xs : List (FlatEqn × ℕ)). Among (e, k) xs) stands.0 h)
  row_of x ds (Some rows) is stands t e k h = row_among means i takes x ds rows stands t.0 (fit x rows is) e k h

  row_at : (n : FlatNode) → ((x : ℕ) → n.inputs ≤ x → StandFor means (definitions n.eqns x) (means x) (flat (means x))) → (x : ℕ) → n.inputs ≤ x → (e : FlatEqn) (k : ℕ) → Among (e, k) (definitions n.eqns x) → HasRow means i takes e x
  row_at n stands x above e k h = row_of x (definitions n.eqns x) (flat (means x)) refl (stands x above) (told.rows x) e k h

  abbrev Taken : FlatEqn → Type 0
  Taken e = IsTrue (clock_holds e.clock (numbered means i)) → TakenIfShort takes (numbered means i) e.right

  right_there : (e : FlatEqn) (x : ℕ) (r : HasRow means i takes e x) → IsTrue (clock_holds e.clock (numbered means i)) → RightFits takes i r.row.right
  right_there e x r h = r.fits.right (sym (row_there means e r.place r.row i r.is r.told) ∙ h)

  eqn_taken : (e : FlatEqn) (x : ℕ) → HasRow means i takes e x → Taken e
  eqn_taken e x r h = taken_if means i takes r.place e.right r.row.right told.nowhere r.is.right (right_there e x r h)

  eqn_fits : (e : FlatEqn) (x : ℕ) → InstantShort (numbered means i) → AreShort (constants_of e.right) → HasRow means i takes e x → (IsTrue (clock_holds e.clock (numbered means i)) → AllByRecursion (IsThere (numbered means i)) e.targets) → EqnFits takes (numbered means i) e
  eqn_fits e x short c r targets =
      let there = right_there e x r in
      record {
        clock = clock_fits means i e r.place r.row r.is r.told r.fits.clock;
        restart = restart_fits means i e r.place r.row r.is r.fits.restart;
        operands_there = λ h. operands_fit means i takes r.place e.right r.row.right r.is.right (there h);
        targets_there = targets;
        args_taken = λ h. taken_fit means i takes e.right short c (eqn_taken e x r h);
      }

  target_there : (e : FlatEqn) (x : ℕ) → HasRow means i takes e x → IsTrue (clock_holds e.clock (numbered means i)) → IsThere (numbered means i) x
  target_there e x r h = r.fits.target (sym (row_there means e r.place r.row i r.is r.told) ∙ h)

  targets_there : (bound : ℕ) (e : FlatEqn) (k : ℕ) (ys : List ℕ) → AllByRecursion (λ x. bound ≤ x) ys → ((x j : ℕ) → bound ≤ x → Among (e, j) (targets_from k ys e x) → HasRow means i takes e x)
      → IsTrue (clock_holds e.clock (numbered means i)) → AllByRecursion (IsThere (numbered means i)) ys
  targets_there bound e k [] above rows h = tt
  targets_there bound e k (y ∷ ys) above rows h =
      (target_there e y (rows y k above.0 (first_target k y ys e)) h, targets_there bound e (suc k) ys above.1 (λ x j l a. rows x j l (later_target k y x ys e (e, j) a)) h)

  -- an equation with a target
  one_taken : (bound : ℕ) (e : FlatEqn) (ys : List ℕ) → e.targets ≡ ys → 0 < length ys → AllByRecursion (λ x. bound ≤ x) ys → ((x j : ℕ) → bound ≤ x → Among (e, j) (targets_from 0 ys e x) → HasRow means i takes e x) → Taken e
  one_taken bound e [] is some above rows = absurd (omega (arith, some))
  one_taken bound e (y ∷ ys) is some above rows = eqn_taken e y (rows y 0 above.0 (first_target 0 y ys e))

  one_fits : InstantShort (numbered means i) → (bound : ℕ) (e : FlatEqn) → AreShort (constants_of e.right) → (ys : List ℕ) → e.targets ≡ ys → 0 < length ys → AllByRecursion (λ x. bound ≤ x) ys → ((x j : ℕ) → bound ≤ x → Among (e, j) (targets_from 0 ys e x) → HasRow means i takes e x) → EqnFits takes (numbered means i) e
  one_fits short bound e c [] is some above rows = absurd (omega (arith, some))
  one_fits short bound e c (y ∷ ys) is some above rows =
      eqn_fits e y short c (rows y 0 above.0 (first_target 0 y ys e))
      (λ h. subst (AllByRecursion (IsThere (numbered means i))) (sym is) (targets_there bound e 0 (y ∷ ys) above rows h))

  all_taken : (n : FlatNode) → ((x : ℕ) → n.inputs ≤ x → StandFor means (definitions n.eqns x) (means x) (flat (means x))) → (es : List FlatEqn)
      → ((d : FlatEqn × ℕ) (x : ℕ) → Among d (definitions es x) → Among d (definitions n.eqns x)) → DefineSome es → AllByRecursion (λ (e : FlatEqn). AllByRecursion (λ x. n.inputs ≤ x) e.targets) es → AllByRecursion Taken es
  all_taken n stands [] within some above = tt
  all_taken n stands (e ∷ es) within some above = (
    one_taken n.inputs e e.targets refl some.0 above.0
        (λ x j l a. row_at n stands x l e j (within (e, j) x (among_left (e, j) (targets_from 0 e.targets e x) (definitions es x) a))),
    all_taken n stands es (λ d x a. within d x (among_right d (targets_from 0 e.targets e x) (definitions es x) a)) some.1 above.1,
  )

  all_fit : InstantShort (numbered means i) → (n : FlatNode) → ((x : ℕ) → n.inputs ≤ x → StandFor means (definitions n.eqns x) (means x) (flat (means x))) → (es : List FlatEqn)
      → ((d : FlatEqn × ℕ) (x : ℕ) → Among d (definitions es x) → Among d (definitions n.eqns x)) → DefineSome es → ConstantsShort es → AllByRecursion (λ (e : FlatEqn). AllByRecursion (λ x. n.inputs ≤ x) e.targets) es
      → AllByRecursion (EqnFits takes (numbered means i)) es
  all_fit short n stands [] within some constants above = tt
  all_fit short n stands (e ∷ es) within some constants above = (
    one_fits short n.inputs e constants.0 e.targets refl some.0 above.0
        (λ x j l a. row_at n stands x l e j (within (e, j) x (among_left (e, j) (targets_from 0 e.targets e x) (definitions es x) a))),
    all_fit short n stands es (λ d x a. within d x (among_right d (targets_from 0 e.targets e x) (definitions es x) a)) some.1 constants.1 above.1,
  )

-- variables that stand for names are there where the names are
pub names_there : (means : ℕ → FlatName) (i : Now FlatName) (as_flat : List ℕ → FlatName) (xs : List ℕ) (names : List (List ℕ)) → map means xs ≡ map as_flat names → AllByRecursion (λ x. IsTrue (is_there (i (as_flat x)))) names → AllByRecursion (IsThere (numbered means i)) xs
names_there means i as_flat [] [] is h = tt
names_there means i as_flat [] (y ∷ names) is h = absurd (cc)
names_there means i as_flat (x ∷ xs) [] is h = absurd (cc)
names_there means i as_flat (x ∷ xs) (y ∷ names) is h =
    let first : means x ≡ as_flat y = cc in
    let others : map means xs ≡ map as_flat names = cc in
    (subst (λ (a : FlatName). IsTrue (is_there (i a))) (sym first) h.0, names_there means i as_flat xs names others h.1)

pub fits_law : FitsLaw
fits_law takes means flat names count n i are told fit some inputs outputs constants short = record {
  inputs = names_there means i (λ x. Input x) (inputs_of n) names are.inputs inputs;
  outputs = outputs;
  eqns = all_fit means flat takes i told fit short n are.variables n.eqns (λ d x a. a) some constants are.no_inputs;
}

-- arguments of calls are of their kinds where integers are of 32 bits
pub taken_law : (takes : Names (List KindData)) (means : ℕ → FlatName) (flat : Flat FlatName) (names : List (List ℕ)) (count : List ℕ → ℕ) (n : FlatNode) (i : Now FlatName) → AreEquationsFor means flat names count n
    → IsTolds means flat i → FlatFits takes means flat i → DefineSome n.eqns → AllTakenIfShort takes n (numbered means i)
taken_law takes means flat names count n i are told fit some = all_taken means flat takes i told fit n are.variables n.eqns (λ d x a. a) some are.no_inputs
