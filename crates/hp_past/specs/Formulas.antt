-- The past-time formulas of contracts: calls of `once`, `historically` and `since`, where no node has that name.
-- Source: Lichtenstein, Pnueli and Zuck, "The glory of the past" (Logics of Programs 1985).
use Rattle.std.specs.Prelude.{ℕ, Bool, false, not, ◌||◌, ◌&&◌, if◌then◌else◌, List, [], ◌∷◌, Option, None, Some, codes}
use Rattle.std.specs.Str.{bytes_eq}
use Rattle.hp_tree.specs.declared.program.Item.{Item}
use Rattle.hp_tree.specs.declared.program.Item.TheVariants.{TypeItem, NodeItem}
use Rattle.hp_past.specs.declared.formula.Formula.{Formula}
use Rattle.hp_past.specs.declared.formula.Formula.TheVariants.{Once, Historically, Since}
use Rattle.hp_past.specs.declared.formula.Formulas.{Formulas}

abbrev pub word : Formula → List ℕ
word Once = codes "once"
word Historically = codes "historically"
word Since = codes "since"

-- whether an item is a node of this name
abbrev pub names_node : Item → List ℕ → Bool
names_node (TypeItem t) x = false
names_node (NodeItem n) x = bytes_eq n.name x

abbrev pub declares_node : List Item → List ℕ → Bool
declares_node [] x = false
declares_node (item ∷ items) x = names_node item x || declares_node items x

-- which formulas there are
abbrev pub formulas_of : List Item → Formulas
formulas_of items = record {
  once = not (declares_node items (word Once));
  historically = not (declares_node items (word Historically));
  since = not (declares_node items (word Since));
}

-- the formula that a call of this name may be
abbrev pub formula_of : Formulas → List ℕ → Option Formula
formula_of there x =
    if there.once && bytes_eq x (word Once) then Some Once
    else if there.historically && bytes_eq x (word Historically) then Some Historically
    else if there.since && bytes_eq x (word Since) then Some Since
    else None
