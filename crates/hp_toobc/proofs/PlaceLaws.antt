-- What is made of equations, one after the other.
use Rattle.std.proofs.Common.{◌≡◌, ℕ, ◌+◌, ◌<◌, ◌≤◌, get_or, length, drop, List, ◌++◌, refl}
use Rattle.hp_obc.specs.declared.machine.Mem.{Mem}
use Rattle.hp_obc.specs.Commands.{Cmd}
use Rattle.hp_obc.specs.Machines.{ObcType}
use Rattle.hp_flat.specs.declared.node.Variable.{Variable}
use Rattle.hp_flat.specs.Equations.{FlatEqn}
use Rattle.hp_toobc.specs.Making.{place, places, store, stores, mem_of, mems, inst_of, insts}
use Rattle.hp_toobc.proofs.Lists.{made-next, made-end}

module _ (types : List ObcType) (variables : List Variable) (es : List FlatEqn) (i : ℕ) where
  module _ (before now : List Cmd) where
    pub places-next : (after : List Cmd) (e : FlatEqn) → i < length es → e ≡ get_or es i e → after ≡ now ++ place types variables i e
        → now ++ places types variables i (drop i es) ≡ before → after ++ places types variables (i + 1) (drop (i + 1) es) ≡ before
    places-next after e = made-next (places types variables) (place types variables) (λ j x xs. refl) before now after es i e

    pub places-end : length es ≤ i → now ++ places types variables i (drop i es) ≡ before → now ≡ before
    places-end = made-end (places types variables) (λ j. refl) before now es i

    pub stores-next : (after : List Cmd) (e : FlatEqn) → i < length es → e ≡ get_or es i e → after ≡ now ++ store types variables i e
        → now ++ stores types variables i (drop i es) ≡ before → after ++ stores types variables (i + 1) (drop (i + 1) es) ≡ before
    stores-next after e = made-next (stores types variables) (store types variables) (λ j x xs. refl) before now after es i e

    pub stores-end : length es ≤ i → now ++ stores types variables i (drop i es) ≡ before → now ≡ before
    stores-end = made-end (stores types variables) (λ j. refl) before now es i

  module _ (before now : List Mem) where
    pub mems-next : (after : List Mem) (e : FlatEqn) → i < length es → e ≡ get_or es i e → after ≡ now ++ mem_of types variables i e.targets e.right
        → now ++ mems types variables i (drop i es) ≡ before → after ++ mems types variables (i + 1) (drop (i + 1) es) ≡ before
    mems-next after e = made-next (mems types variables) (λ j (x : FlatEqn). mem_of types variables j x.targets x.right) (λ j x xs. refl) before now after es i e

    pub mems-end : length es ≤ i → now ++ mems types variables i (drop i es) ≡ before → now ≡ before
    mems-end = made-end (mems types variables) (λ j. refl) before now es i

module _ (es : List FlatEqn) (i : ℕ) (before now : List (List ℕ × List ℕ)) where
  pub insts-next : (after : List (List ℕ × List ℕ)) (e : FlatEqn) → i < length es → e ≡ get_or es i e → after ≡ now ++ inst_of i e.right
      → now ++ insts i (drop i es) ≡ before → after ++ insts (i + 1) (drop (i + 1) es) ≡ before
  insts-next after e = made-next insts (λ j (x : FlatEqn). inst_of j x.right) (λ j x xs. refl) before now after es i e

  pub insts-end : length es ≤ i → now ++ insts i (drop i es) ≡ before → now ≡ before
  insts-end = made-end insts (λ j. refl) before now es i
