-- Equations are coded as the tuples of their fields.
use Rattle.std.specs.Prelude.{◌≡◌, ℕ, List, ◌⊎◌}
use Rattle.std.specs.Coded.{Coded, code_by, coded×, coded⊎, coded_ℕ, coded_list}
use Rattle.std.proofs.Common.{refl, inl, inr}
use Rattle.hp_base.specs.declared.value.Value.{Value}
use Rattle.hp_base.specs.contracts.value.Value as value
use Rattle.hp_obc.specs.declared.command.ObcOp.{ObcOp}
use Rattle.hp_obc.specs.contracts.command.ObcOp as op
use Rattle.hp_flat.specs.declared.equation.Atom.{Atom}
use Rattle.hp_flat.specs.contracts.equation.Atom as atom
use Rattle.hp_flat.specs.Equations.{Right, operator, register, called, FlatEqn}

abbrev numbers : Coded (List ℕ)
numbers = coded_list coded_ℕ

abbrev Told : Type 0
Told = (ObcOp × List Atom) ⊎ ((Value × Atom) ⊎ (List ℕ × List Atom))

abbrev told_code : Coded Told
told_code = coded⊎ (coded× op.the_row.coded (coded_list atom.the_row.coded)) (coded⊎ (coded× value.the_row.coded atom.the_row.coded) (coded× numbers (coded_list atom.the_row.coded)))

abbrev to_right : Right → Told
to_right (operator o args) = inl (o, args)
to_right (register first next) = inr (inl (first, next))
to_right (called f args) = inr (inr (f, args))

abbrev from_right : Told → Right
from_right (inl told) = operator told.0 told.1
from_right (inr (inl told)) = register told.0 told.1
from_right (inr (inr told)) = called told.0 told.1

pub right_back : (r : Right) → from_right (to_right r) ≡ r
right_back (operator o args) = refl
right_back (register first next) = refl
right_back (called f args) = refl

abbrev pub right_code : Coded Right
right_code = code_by Told told_code to_right from_right right_back

abbrev pub eqn_code : Coded FlatEqn
eqn_code = code_by (List ℕ × (List (ℕ × ℕ) × (Right × (List ℕ × ℕ))))
    (coded× numbers (coded× (coded_list (coded× coded_ℕ coded_ℕ)) (coded× right_code (coded× numbers coded_ℕ))))
    (λ e. (e.targets, (e.clock, (e.right, (e.restart, e.at)))))
    (λ f. record { targets = f.0; clock = f.1.0; right = f.1.1.0; restart = f.1.1.1.0; at = f.1.1.1.1 }) (λ e. refl)
