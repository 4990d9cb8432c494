-- What the code holds, as it is seen: tables, and layers of names.
-- Source: own.
use Rattle.std.specs.Prelude.{ℕ, [], List, map, reverse, Option, None, Some, option_map}
use Rattle.std.specs.Borrow.{Bor}
use Rattle.hp_tables.specs.Declarations.Seen.{node_in}
use Rattle.hp_tables.specs.Declarations.Tables.{said_in}
use Rattle.hp_drawing.specs.declared.parts.Constructor.{Constructor}
use Rattle.hp_drawing.specs.declared.parts.Entry.{Entry}
use Rattle.hp_drawing.specs.DrawnBlocks.{Words, words_of}
use Rattle.hp_drawing.specs.Places.{Numbers}
use Rattle.hp_drawing.specs.Scopes.{Layer, Scope, push_values}
use Rattle.hp_drawing.specs.Told.{Told}
use Rattle.hp_abstract.specs.declared.scope.Layer as code_layer
use Rattle.hp_abstract.specs.declared.scope.Scope as code_scope
use Rattle.hp_abstract.specs.declared.table.Tables.{Tables}
use Rattle.hp_abstract.specs.declared.words.Words as code_words

-- ---- tables

abbrev pub constructor_seen : ℕ × ℕ → Constructor
constructor_seen p = record { number = p.1; count = p.0 }

-- constructors, of which a table has how many their types have, and which of them they are
abbrev pub constructors_seen : (List ℕ → Option (ℕ × ℕ)) → List ℕ → Option Constructor
constructors_seen f x = option_map constructor_seen (f x)

unfoldable pub told_in : Tables → Told
told_in t = record { counts = said_in t.counts; constructors = constructors_seen (said_in t.constructors); nodes = node_in t.nodes }

-- ---- layers and scopes, the innermost layer first

abbrev pub entry_seen : Bor (List ℕ) × Entry → List ℕ × Entry
entry_seen p = (p.0.now, p.1)

abbrev pub named_seen : Option (Bor (List ℕ) × Entry) → Option (List ℕ × Entry)
named_seen None = None
named_seen (Some p) = Some (entry_seen p)

unfoldable pub layer_of : code_layer.Layer → Layer
layer_of l = map entry_seen l.names.entries

abbrev pub layer_or_none : Option (Bor code_layer.Layer) → Layer
layer_or_none None = []
layer_or_none (Some l) = layer_of l.now

abbrev pub inner_first : List code_layer.Layer → List Layer
inner_first ls = reverse (map layer_of ls)

unfoldable pub scope_of : code_scope.Scope → Scope
scope_of s = record { values = inner_first s.values.items; lasts = inner_first s.lasts.items }

-- a scope with the layer that was left, if there was one
abbrev pub put_back : Option code_layer.Layer → Scope → Scope
put_back None z = z
put_back (Some l) z = push_values (layer_of l) z

-- ---- the words of automata

unfoldable pub numbers_in : code_words.Words → Numbers
numbers_in w = said_in w.numbers

abbrev pub words_in : code_words.Words → Words
words_in w = words_of (numbers_in w) w.lines

-- ---- names that equations define

abbrev pub now_of : Bor (List ℕ) → List ℕ
now_of x = x.now
