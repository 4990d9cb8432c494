-- Equations in which no needless copies are left.
-- Source: copy propagation and coalescing; in clock-directed code generation by Biernacki, Colaço, Hamon and Pouzet (LCTES 2008) they take away what normal form adds.
use Rattle.std.specs.Prelude.{◌≡◌, ℕ, false, Some}
use Rattle.std.specs.List.{AllByRecursion}
use Rattle.hp_flat.specs.declared.equation.Atom.{Atom}
use Rattle.hp_flat.specs.declared.equation.Atom.TheVariants.{Variable}
use Rattle.hp_flat.specs.Equations.{FlatEqn}
use Rattle.hp_flat.specs.Nodes.{FlatNode}
use Rattle.hp_normal.specs.Following.{AreBehind}
use Rattle.hp_normal.specs.Reading.{copy_of}
use Rattle.hp_normal.specs.Retargeting.{is_free, retargeted}
use Rattle.hp_normal.specs.Substituting.{may_stand, substituted}

-- The copy is not of a variable that its equation could define under the other name: one that is no input, has one equation, on the clock of the copy, and is read by nothing else.
abbrev pub KeepsName : FlatNode → FlatEqn → Type 0
KeepsName n e = (x y : ℕ) → copy_of e ≡ Some (x, Variable y) → is_free n e.clock y ≡ false

-- Not all that read the variable of the copy could read what is copied: the variable is an output or makes something begin anew, it has more equations than one, or a clock reads it and a constant is copied.
abbrev pub KeepsReaders : FlatNode → FlatEqn → Type 0
KeepsReaders n e = (x : ℕ) (a : Atom) → copy_of e ≡ Some (x, a) → may_stand n x a ≡ false

-- Where equations stand behind those that define what they read, each of the two steps leaves only copies that were needed in the node that it reads. They are taken in turn: names, readers, names.
abbrev pub NoneNeedlessLaw : Type 0
NoneNeedlessLaw = (n : FlatNode) → AreBehind n.eqns → AllByRecursion (KeepsName n) (retargeted n).eqns × AllByRecursion (KeepsReaders n) (substituted n).eqns
