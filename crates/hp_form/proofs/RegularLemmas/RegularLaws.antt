-- Clocks, constants and equations that are looked at one by one.
use Rattle.std.proofs.Common.{ℕ, zero, suc, ◌<◌, List, [], ◌∷◌, ◌++◌, length, get_or, arith}
use Rattle.std.specs.List.{AllByRecursion}
use Rattle.hp_obc.specs.Machines.{ObcType}
use Rattle.hp_base.specs.declared.value.Value.{Value}
use Rattle.hp_flat.specs.declared.equation.Atom.{Atom}
use Rattle.hp_flat.specs.declared.equation.Atom.TheVariants.{Variable as Named, Value as Fixed}
use Rattle.hp_flat.specs.declared.node.Variable.{Variable}
use Rattle.hp_flat.specs.Equations.{Clock, FlatEqn}
use Rattle.hp_toobc.specs.Stepping.{AreWide}
use Rattle.hp_toobc.specs.Tables.{variable_type, width_of}
use Rattle.law_equations.specs.Followed.Premises.{EqnForm, IsOfTypes, IsTold, constants_in, constants_of}
use Rattle.law_equations.specs.Fewer.Compiling.{CopiesAgree}
use Rattle.hp_form.specs.Regular.Regular.{EqnIsRegular}

-- ---- clocks

pub wide-more : (types : List ObcType) (variables : List Variable) (clock : Clock) (on : ℕ × ℕ) → AreWide types variables clock → on.1 < width_of types (variable_type variables on.0) → AreWide types variables (clock ++ on ∷ [])
wide-more types variables [] on h l = (l, tt)
wide-more types variables (step ∷ clock) on h l = (h.0, wide-more types variables clock on h.1 l)

pub wide-at : (types : List ObcType) (variables : List Variable) (clock : Clock) (i : ℕ) (d : ℕ × ℕ) → AreWide types variables clock → i < length clock → (get_or clock i d).1 < width_of types (variable_type variables (get_or clock i d).0)
wide-at types variables [] i d h l = absurd (omega (arith, l))
wide-at types variables (step ∷ clock) zero d h l = h.0
wide-at types variables (step ∷ clock) (suc i) d h l = wide-at types variables clock i d h.1 (omega (arith, l))

-- ---- constants

module _ (P : Value → Type 0) where
  pub told-more : (atoms : List Atom) (a : Atom) → AllByRecursion P (constants_in atoms) → AllByRecursion P (constants_in (a ∷ [])) → AllByRecursion P (constants_in (atoms ++ a ∷ []))
  told-more [] a h k = k
  told-more (Named x ∷ atoms) a h k = told-more atoms a h k
  told-more (Fixed v ∷ atoms) a h k = (h.0, told-more atoms a h.1 k)

  pub told-at : (atoms : List Atom) (i : ℕ) (d : Atom) → AllByRecursion P (constants_in atoms) → i < length atoms → AllByRecursion P (constants_in (get_or atoms i d ∷ []))
  told-at [] i d h l = absurd (omega (arith, l))
  told-at (Named x ∷ atoms) zero d h l = tt
  told-at (Fixed v ∷ atoms) zero d h l = (h.0, tt)
  told-at (Named x ∷ atoms) (suc i) d h l = told-at atoms i d h (omega (arith, l))
  told-at (Fixed v ∷ atoms) (suc i) d h l = told-at atoms i d h.1 (omega (arith, l))

-- ---- equations

module _ {X : Type 0} (P : X → Type 0) where
  pub all-more : (xs : List X) (x : X) → AllByRecursion P xs → P x → AllByRecursion P (xs ++ x ∷ [])
  all-more [] x h p = (p, tt)
  all-more (y ∷ xs) x h p = (h.0, all-more xs x h.1 p)

  pub all-at : (xs : List X) (i : ℕ) (d : X) → AllByRecursion P xs → i < length xs → P (get_or xs i d)
  all-at [] i d h l = absurd (omega (arith, l))
  all-at (x ∷ xs) zero d h l = h.0
  all-at (x ∷ xs) (suc i) d h l = all-at xs i d h.1 (omega (arith, l))

-- ---- what they have

module _ (types : List ObcType) (tells : (v : Value) → IsOfTypes types v → IsTold types v) where
  values-told : (vs : List Value) → AllByRecursion (IsOfTypes types) vs → AllByRecursion (IsTold types) vs
  values-told [] h = tt
  values-told (v ∷ vs) h = (tells v h.0, values-told vs h.1)

  pub form : (variables : List Variable) (es : List FlatEqn) → AllByRecursion (EqnIsRegular types variables) es → AllByRecursion (EqnForm types variables) es × CopiesAgree variables es
  form variables [] h = (tt, tt)
  form variables (e ∷ es) h =
      let rest = form variables es h.1 in
      ((record { clock = (h.0).clock; constants = values-told (constants_of e.right) (h.0).constants }, rest.0), ((h.0).copy, rest.1))
