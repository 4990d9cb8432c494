-- The diagrams of gates.
use Rattle.std.specs.Prelude.{ℕ, ◌≡◌, Bool, not, ◌&&◌, ◌||◌, List, [], ◌∷◌, slice_index_or, All, if◌then◌else◌}
use Rattle.hp_diagram.specs.declared.reference.Ref.{Ref}
use Rattle.hp_diagram.specs.Diagrams.{Diagrams, function, Has, zero_ref}
use Rattle.hp_boolx.specs.declared.gate.Gate.{Gate}
use Rattle.hp_boolx.specs.declared.gate.Gate.TheVariants.{Const, Var, Not, And, Or, Xor, Ite}
use Rattle.hp_boolx.specs.Search.{Bits}
use Rattle.hp_boolx.specs.Game.{Game}
use Rattle.hp_boolx.specs.Machine.{values}
use Rattle.hp_synth.specs.Valued.{Valued, all, through}

abbrev pub HasEach : Diagrams → List Ref → Type 0
HasEach t rs = All (Has t) rs

-- the function of an earlier gate
abbrev pub at_ref : Diagrams → List Ref → Valued → ℕ → Bool
at_ref t rs v i = function t (slice_index_or rs i zero_ref) v

-- the function of a gate, from those of earlier gates, where variables stand at places
abbrev pub gate_function : (ℕ → ℕ) → Diagrams → List Ref → Valued → Gate → Bool
gate_function place t rs v (Const b) = b
gate_function place t rs v (Var x) = v (place x)
gate_function place t rs v (Not i) = not (at_ref t rs v i)
gate_function place t rs v (And i j) = at_ref t rs v i && at_ref t rs v j
gate_function place t rs v (Or i j) = at_ref t rs v i || at_ref t rs v j
gate_function place t rs v (Xor i j) = if at_ref t rs v i then not (at_ref t rs v j) else at_ref t rs v j
gate_function place t rs v (Ite i j k) = if at_ref t rs v i then at_ref t rs v j else at_ref t rs v k

abbrev pub functions_at : Diagrams → List Ref → Valued → Bits
functions_at t [] v = []
functions_at t (r ∷ rs) v = function t r v ∷ functions_at t rs v

-- the references are those of the gates, where variables stand at places
abbrev pub AreGates : Game → (ℕ → ℕ) → Diagrams → List Gate → List Ref → Type 0
AreGates g place t gs rs = HasEach t rs × ((v : Valued) → functions_at t rs v ≡ values (all g (through place v)) [] gs)
