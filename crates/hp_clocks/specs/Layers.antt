-- How names are seen through layers, the outermost first: one for each block, and one for what is declared around all.
use Rattle.std.specs.Prelude.{ℕ, ◌-◌, if◌then◌else◌, List, [], ◌∷◌, length, map, take, slice_get, Option, None, Some, is_some}
use Rattle.std.specs.Str.{bytes_eq}
use Rattle.indexmap.specs.IndexMap.{get_by}
use Rattle.hp_clocks.specs.declared.layer.Layer.{Layer}
use Rattle.hp_clocks.specs.declared.layer.Seen.TheVariants as seen
use Rattle.hp_tree.specs.Blocks.{Decl, Block, block}
use Rattle.hp_tree.specs.Meaning.{declares, some_defines}
use Rattle.hp_clocks.specs.Scopes.{Sight}
use Rattle.hp_clocks.specs.Units.{or_base, local_cell, cell_in}
use Rattle.hp_tables.specs.Defining.Names.{names_in}

-- the cell of a name's clock
abbrev pub says : Layer → List ℕ → Option ℕ
says l x = get_by (λ k. bytes_eq x k.now) l.names

-- what the innermost layer says that says something
abbrev pub said : List Layer → List ℕ → Option ℕ
said [] x = None
said (l ∷ ls) x = elim (said ls x) [ None ↦ says l x | Some n ↦ Some n ]

-- what the innermost layer says
abbrev pub own_says : List Layer → List ℕ → Option ℕ
own_says ls x = elim (slice_get ls (length ls - 1)) [ None ↦ None | Some l ↦ says l x ]

abbrev pub sight : List Layer → Sight
sight ls x = elim (own_says ls x) [ None ↦ elim (said ls x) [ None ↦ seen.Nowhere | Some n ↦ seen.Further n ] | Some n ↦ seen.Own n ]

-- all but the last
abbrev pub front : {A : Type 0} → List A → List A
front xs = take (length xs - 1) xs

-- ---- what layers are made to say

abbrev pub Says : Type 0
Says = List ℕ → Option ℕ

abbrev pub put_at : Says → List ℕ → ℕ → Says
put_at f y i x = if bytes_eq y x then Some i else f x

abbrev pub no_entry : Says
no_entry x = None

-- some names have the cells that another layer says, or else the base clock
abbrev pub says_names : List (List ℕ) → Says → Says
says_names [] f x = None
says_names (y ∷ ys) f x = if bytes_eq y x then Some (or_base (f x)) else says_names ys f x

-- the cell of a local, by the names that are controlled and by its number
abbrev pub cell_by : Says → Says → Decl → ℕ
cell_by controls numbers d = local_cell d.last (is_some (controls d.name)) (or_base (numbers d.name))

-- locals have these cells
abbrev pub says_locals : Says → Says → List Decl → Says
says_locals controls numbers [] x = None
says_locals controls numbers (d ∷ ds) x = if bytes_eq d.name x then Some (cell_by controls numbers d) else says_locals controls numbers ds x

-- declarations are on the base clock
abbrev pub says_based : List Decl → Says → Says
says_based ds f x = if declares ds x then Some 0 else f x

abbrev pub cells_by : Says → Says → Block → List ℕ
cells_by controls numbers (block ds es) = map (cell_by controls numbers) ds

-- a block says of the names that it defines
abbrev pub says_by : Says → Says → Block → Says
says_by controls numbers (block ds es) = says_names (names_in es) (says_locals controls numbers ds)

-- where its locals have numbers from k on
abbrev pub says_own : ℕ → Block → Says
says_own k (block ds es) x = if some_defines es x then Some (cell_in es k ds ds x) else None
