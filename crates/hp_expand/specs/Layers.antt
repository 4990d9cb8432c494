-- How names are said, as the code holds it: what blocks say of the names of new variables.
use Rattle.std.specs.Prelude.{ℕ, if◌then◌else◌, ◌+◌, List, [], ◌∷◌, Option, None, Some}
use Rattle.std.specs.Str.{bytes_eq}
use Rattle.indexmap.specs.IndexMap.{get_by}
use Rattle.hp_tree.specs.Blocks.{Decl}
use Rattle.hp_expand.specs.declared.names.Layer.{Layer}
use Rattle.hp_expand.specs.declared.names.Naming.{Naming}
use Rattle.hp_expand.specs.declared.names.Naming.TheVariants.{Marked, Numbered}
use Rattle.hp_expand.specs.NewNames.{is_new, numbered_name, marked}
use Rattle.hp_expand.specs.Numbering.{one_if_new}

abbrev pub Numbers : Type 0
Numbers = List ℕ → Option ℕ

abbrev pub no_number : Numbers
no_number x = None

abbrev pub put_at : Numbers → List ℕ → ℕ → Numbers
put_at f y k x = if bytes_eq y x then Some k else f x

-- where a variable of the name is declared, which has this number if it is new
abbrev pub put_if_new : Numbers → List ℕ → ℕ → Numbers
put_if_new f y k = if is_new y then put_at f y k else f

-- where variables are declared, the first new one of which has this number
abbrev pub numbers_from : Numbers → ℕ → List Decl → Numbers
numbers_from f k [] = f
numbers_from f k (d ∷ ds) = numbers_from (put_if_new f d.name k) (k + one_if_new d.name) ds

-- the numbers of the new variables that a block declares
abbrev pub says : Layer → Numbers
says l x = get_by (λ k. bytes_eq x k.now) l.names

-- what the innermost block says that says something; the outermost stands first
abbrev pub number_in : List Layer → Numbers
number_in [] x = None
number_in (l ∷ ls) x = elim (number_in ls x) [ None ↦ says l x | Some k ↦ Some k ]

-- the name of a variable that has a number, or has none
abbrev pub name_by : List ℕ → Option ℕ → List ℕ
name_by x None = x
name_by x (Some k) = numbered_name x k

abbrev pub said_in : List Layer → List ℕ → List ℕ
said_in ls x = name_by x (number_in ls x)

-- how a name is said
abbrev pub said : Naming → List ℕ → List ℕ
said (Marked k) = marked k
said (Numbered ls) = said_in ls.now
