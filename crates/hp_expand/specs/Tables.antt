-- Tables of nodes as functions of names.
use Rattle.std.specs.Prelude.{ℕ, List, unwrap_or}
use Rattle.indexmap.specs.IndexMap.{get_by}
use Rattle.std.specs.Str.{bytes_eq}
use Rattle.hp_expand.specs.Sizes.{Size, none}
use Rattle.hp_expand.specs.declared.table.Sizes.{Sizes}
use Rattle.hp_expand.specs.Shapes.{Form, no_form}
use Rattle.hp_expand.specs.declared.forms.Forms.{Forms}

abbrev pub size_in : Sizes → List ℕ → Size
size_in sizes x = unwrap_or (get_by (λ k. bytes_eq x k.now) sizes.names) none

abbrev pub form_in : Forms → List ℕ → Form
form_in forms x = unwrap_or (get_by (λ k. bytes_eq x k.now) forms.names) no_form
