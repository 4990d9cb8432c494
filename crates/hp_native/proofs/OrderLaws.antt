-- The machines of the lesser and the greater do the same in every file.
use Rattle.std.proofs.Common.{◌≡◌, List, [], ◌∷◌, refl}
use Rattle.hp_base.specs.Kinds.{Ints, AreOfKinds}
use Rattle.hp_base.specs.declared.value.Value.{Value}
use Rattle.hp_obc.specs.Machines.{ObcType}
use Rattle.hp_native.specs.Natively.{IsNative, outputs_of}
use Rattle.hp_native.specs.Order.{min_machine, max_machine}

min-alone : (types : List ObcType) (inputs : List Value) → AreOfKinds (Ints ∷ Ints ∷ []) inputs → outputs_of types min_machine inputs ≡ outputs_of [] min_machine inputs
min-alone types [] h = absurd h
min-alone types (v ∷ []) h = absurd h.1
min-alone types (v ∷ w ∷ []) h = refl
min-alone types (v ∷ w ∷ u ∷ us) h = absurd h.1.1

max-alone : (types : List ObcType) (inputs : List Value) → AreOfKinds (Ints ∷ Ints ∷ []) inputs → outputs_of types max_machine inputs ≡ outputs_of [] max_machine inputs
max-alone types [] h = absurd h
max-alone types (v ∷ []) h = absurd h.1
max-alone types (v ∷ w ∷ []) h = refl
max-alone types (v ∷ w ∷ u ∷ us) h = absurd h.1.1

pub min-native : IsNative min_machine
min-native = record { plain = refl; alone = min-alone }

pub max-native : IsNative max_machine
max-native = record { plain = refl; alone = max-alone }
