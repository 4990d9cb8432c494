-- Equations made simpler, each where it stands: a choice between one variable and itself copies it, and nothing makes an operator begin anew, which keeps nothing.
-- Source: own; so trivial φ functions go in Braun, Buchwald, Hack, Leißa, Mallon and Zwinkau: Simple and Efficient Construction of Static Single Assignment Form (CC 2013).
use Rattle.std.specs.Prelude.{ℕ, Bool, true, false, ◌&&◌, nat_eq, if◌then◌else◌, get_or, List, [], ◌∷◌, map, Option, None, Some}
use Rattle.hp_obc.specs.declared.command.ObcOp.TheVariants.{Copy, Mux}
use Rattle.hp_flat.specs.declared.equation.Atom.{Atom}
use Rattle.hp_flat.specs.declared.equation.Atom.TheVariants.{Variable as Read, Value as Fixed}
use Rattle.hp_flat.specs.declared.node.FlatTy.{FlatTy}
use Rattle.hp_flat.specs.declared.node.FlatTy.TheVariants.{Bool as FlatBool, Int as FlatInt, Enum as FlatEnum}
use Rattle.hp_flat.specs.declared.node.Variable.{Variable}
use Rattle.hp_flat.specs.Equations.{Right, operator, register, called, FlatEqn}
use Rattle.hp_flat.specs.Nodes.{FlatNode}
use Rattle.hp_normal.specs.Reading.{only, both, copy_of}
use Rattle.hp_normal.specs.Retargeting.{with_eqns}
use Rattle.hp_normal.specs.Substituting.{Meanings, read, is_itself, standing}

-- ---- choices

abbrev pub sides : List Atom → Option (Atom × Atom)
sides (c ∷ a ∷ b ∷ []) = Some (a, b)
sides args = None

abbrev pub choice : Right → Option (Atom × Atom)
choice (operator Mux args) = sides args
choice right = None

-- of an equation that gives one variable a choice: that variable, and what is chosen between
abbrev pub choice_of : FlatEqn → Option (ℕ × (Atom × Atom))
choice_of e = both (only e.targets) (choice e.right)

-- ---- choices between one variable and itself

-- two things are one variable
abbrev pub are_one : Atom → Atom → Bool
are_one (Read x) a = is_itself x a
are_one (Fixed v) a = false

abbrev pub same_type : FlatTy → FlatTy → Bool
same_type FlatBool FlatBool = true
same_type FlatInt FlatInt = true
same_type (FlatEnum s) (FlatEnum t) = nat_eq s t
same_type s t = false

-- the type of a variable; that of integers where there is none
abbrev pub type_of : List Variable → ℕ → FlatTy
type_of variables x = (get_or variables x (record { name = []; ty = FlatInt })).ty

-- a variable has the type of what is read
abbrev pub has_type : List Variable → ℕ → Atom → Bool
has_type variables x (Read y) = same_type (type_of variables x) (type_of variables y)
has_type variables x (Fixed v) = false

-- an equation that copies instead, if there is what
abbrev pub copying : Option Atom → FlatEqn → FlatEqn
copying None e = e
copying (Some a) e = record { targets = e.targets; clock = e.clock; right = operator Copy (a ∷ []); restart = e.restart; at = e.at }

-- the restart list of a register or a call; an operator has none
abbrev pub restart_of : Right → List ℕ → List ℕ
restart_of (operator op args) xs = []
restart_of (register first next) xs = xs
restart_of (called f args) xs = xs

abbrev pub with_restart : FlatEqn → FlatEqn
with_restart e = record { targets = e.targets; clock = e.clock; right = e.right; restart = restart_of e.right e.restart; at = e.at }

module _ (variables : List Variable) (s : Meanings) where
  -- what a choice copies that stands between one variable and itself
  abbrev pub needless : Option (ℕ × (Atom × Atom)) → Option Atom
  needless None = None
  needless (Some (x, (a, b))) = if are_one (read s a) (read s b) && has_type variables x a then Some a else None

  -- an equation, where variables stand for something
  abbrev pub simplified : FlatEqn → FlatEqn
  simplified e = with_restart (copying (needless (choice_of e)) e)

-- what each variable stands for, by copies and such choices in order
abbrev pub choice_meanings : FlatNode → List FlatEqn → Meanings → Meanings
choice_meanings n [] s = s
choice_meanings n (e ∷ es) s = choice_meanings n es (standing n (copy_of (simplified n.variables s e)) s)

-- the node with its equations made simpler
abbrev pub simple : FlatNode → FlatNode
simple n = with_eqns n (map (simplified n.variables (choice_meanings n n.eqns (λ x. Read x))) n.eqns)
