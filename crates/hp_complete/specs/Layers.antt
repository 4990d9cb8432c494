-- What names stand for, as functions of them.
use Rattle.std.specs.Prelude.{List, [], ◌∷◌, map, reverse, Option, None, Some}
use Rattle.std.specs.Str.{bytes_eq}
use Rattle.indexmap.specs.IndexMap.{get_by}
use Rattle.law_equations.specs.Made.Sights.{Entry}
pub use Rattle.hp_tables.specs.Declarations.Tables.{nothing}
use Rattle.law_equations.specs.Made.Making.{Layer, Sight, over, unknown}
use Rattle.hp_complete.specs.declared.layer.Entry as code_entry
use Rattle.hp_complete.specs.declared.layer.Layer as code_layer

-- ---- layers: what a block, or a control equation, says of names

abbrev pub seen : code_entry.Entry → Entry
seen e = record { ty = e.ty; value = e.value; last = e.last; is_local = e.is_local }

abbrev pub seen_if : Option code_entry.Entry → Option Entry
seen_if None = None
seen_if (Some e) = Some (seen e)

abbrev pub says : code_layer.Layer → Layer
says l x = seen_if (get_by (λ k. bytes_eq x k.now) l.names)

-- the layers of the code, of which the outermost stands first, the innermost first
abbrev pub inner_first : List code_layer.Layer → List Layer
inner_first ls = reverse (map says ls)

-- what names stand for where these layers are, the innermost first
abbrev pub sight : List Layer → Sight
sight [] = unknown
sight (l ∷ ls) = over l (sight ls)
