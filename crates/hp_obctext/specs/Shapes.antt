-- What the grammar asks of a text beyond its words: names are names, a type has a constructor, an operator has its arguments, the value
-- of an arm is no integer, and steps stand at most 300 cases deep.
use Rattle.std.specs.Prelude.{◌≡◌, ◌≤◌, ℕ, true, List, [], ◌∷◌, length}
use Rattle.hp_base.specs.declared.ty.Const.{Const}
use Rattle.hp_base.specs.declared.ty.Const.TheVariants.{I as IntConst}
use Rattle.hp_obc.specs.declared.machine.Var.{Var}
use Rattle.hp_obc.specs.declared.machine.Mem.{Mem}
use Rattle.hp_obc.specs.Form.{is_name, is_constructor, depth}
use Rattle.hp_obc.specs.Machines.{ObcType}
use Rattle.hp_obctext.specs.Files.{Steps, Step, Branches, Text, File, done, and_then, set, call, restart, case_of, no_branch, more_branches}
use Rattle.hp_obctext.specs.Machines.{commands}
use Rattle.hp_obctext.specs.Reading.{arity}

-- the value of an arm: a truth value or a constructor
abbrev pub IsLabel : Const → Type 0
IsLabel (IntConst n) = ⊥
IsLabel c = Unit {0}

abbrev mutual
  pub AreStepTexts : Steps → Type 0
  AreStepTexts done = Unit {0}
  AreStepTexts (and_then s ss) = IsStepText s × AreStepTexts ss

  pub IsStepText : Step → Type 0
  IsStepText (set x op args) = length args ≡ arity op
  IsStepText (call i outs args) = Unit {0}
  IsStepText (restart i) = Unit {0}
  IsStepText (case_of x bs) = AreBranchTexts bs

  pub AreBranchTexts : Branches → Type 0
  AreBranchTexts no_branch = Unit {0}
  AreBranchTexts (more_branches c ss bs) = IsLabel c × (AreStepTexts ss × AreBranchTexts bs)

-- P holds of each element
abbrev pub Each : {A : Type 0} → (A → Type 0) → List A → Type 0
Each P [] = Unit {0}
Each P (x ∷ xs) = P x × Each P xs

abbrev pub HasName : Var → Type 0
HasName v = is_name v.name ≡ true

abbrev pub MemHasName : Mem → Type 0
MemHasName m = is_name m.name ≡ true

abbrev pub InstHasName : List ℕ × List ℕ → Type 0
InstHasName i = is_name i.0 ≡ true

pub record IsTypeText (t : ObcType) : Type 0 where
  pub name : is_name t.name ≡ true
  pub cons : Each (λ x. is_constructor x ≡ true) t.cons
  pub some : 1 ≤ length t.cons

pub record IsMachineText (m : Text) : Type 0 where
  pub name : is_name m.name ≡ true
  pub inputs : Each HasName m.inputs
  pub outputs : Each HasName m.outputs
  pub vars : Each HasName m.vars
  pub mems : Each MemHasName m.mems
  pub insts : Each InstHasName m.insts
  pub step_texts : AreStepTexts m.steps
  pub deep : depth (commands m.steps) ≤ 300

pub record IsFileText (f : File) : Type 0 where
  pub types : Each IsTypeText f.types
  pub machines : Each IsMachineText f.machines
