-- Why a program would have no machines.
use Rattle.std.proofs.Common.{◌≡◌, List, sym, subst, ◌∙◌}
use Rattle.std.specs.Prelude.{Result, Ok, Err, IfErr}
use Rattle.std.specs.Result.{IsErrAnd}
use Rattle.std.specs.List.{AllByRecursion}
use Rattle.hp_obc.specs.Form.{HasObcForm}
use Rattle.hp_obc.specs.Machines.{ObcType, Machine}
use Rattle.hp_tree.specs.declared.program.Item.{Item}
use Rattle.hp_automata.specs.Lowering.{lowered_program}
use Rattle.hp_flat.specs.Nodes.{FlatNode}
use Rattle.law_equations.specs.Made.Types.{obc_types_of}
use Rattle.hp_complete.specs.Declaring.{known_of}
use Rattle.hp_complete.specs.Made.{AreMadeOf}
use Rattle.hp_complete.specs.Signatures.{AreFlat, places_of}
use Rattle.hp_form.specs.Regular.Regular.{EqnsRegular}
use Rattle.hp_machines.specs.Making.{AreMade}
use Rattle.hp_form.specs.declared.error.FormErr.{FormErr}
use Rattle.hp_form.specs.declared.error.FormErr.TheVariants as form
use Rattle.hp_form.specs.declared.error.FormErr.TheVariants.{NoForm}
use Rattle.hp_machines.specs.declared.error.MachineErr.{MachineErr}
use Rattle.hp_machines.specs.declared.error.MachineErr.TheVariants.{NotBuilt, OutOfMemory}
use Rattle.hp_machines.specs.NotBuilt.{AreEquations, HasNoMachines, IsOfForm, SaysNotBuilt}

module _ (program lowered : List Item) (nodes : List FlatNode) (types : List ObcType) (declared : types ≡ obc_types_of program) (without : lowered ≡ lowered_program program)
    (flat : AreFlat (places_of lowered) lowered nodes) (made : AreMadeOf (known_of lowered) lowered nodes) where
  equations : AreEquations program nodes
  equations = record {
    flat = subst (λ low. AreFlat (places_of low) low nodes) without flat;
    made = subst (λ low. AreMadeOf (known_of low) low nodes) without made;
  }

  -- some equation is not regular
  pub not_regular : (AllByRecursion (EqnsRegular types) nodes → ⊥) → HasNoMachines program
  not_regular h = HasNoMachines.irregular nodes equations (subst (λ ts. AllByRecursion (EqnsRegular ts) nodes → ⊥) declared h)

  -- the machines have no form
  pub no_form : (machines : List Machine) → AreMade types nodes machines → (HasObcForm types machines → ⊥) → HasNoMachines program
  no_form machines m h = HasNoMachines.formless nodes machines equations (subst (λ ts. AreMade ts nodes machines) declared m) (subst (λ ts. HasObcForm ts machines → ⊥) declared h)

-- an error on form says so
pub says_of_form : {T : Type 0} (A P : Type 0) (error : FormErr) (r : Result T MachineErr) → (P → error ≡ form.OutOfMemory) → ((P → ⊥) → A) → IsErrAnd r (IsOfForm error) → IfErr r (SaysNotBuilt A)
says_of_form A P error (Ok v) f g h = absurd h
says_of_form A P NoForm (Err e) f g h = λ says. g (λ p. let no : NoForm ≡ form.OutOfMemory = f p in absurd cc)
says_of_form A P form.OutOfMemory (Err e) f g h = λ says. absurd (let no : NotBuilt ≡ OutOfMemory = sym says ∙ h in cc)
