-- What is known of a program, as functions of names.
use Rattle.std.specs.Prelude.{ℕ, min, List, Option, option_map}
use Rattle.hp_tables.specs.declared.declarations.table.Table.{Table}
use Rattle.hp_tables.specs.Declarations.Seen.{node_in}
use Rattle.hp_tables.specs.Declarations.Tables.{said_in}
use Rattle.law_equations.specs.Made.Making.{Known}
use Rattle.hp_complete.specs.declared.declared.Declared.{Declared}

-- the numbers of a constructor's type and its own, as far as values have them
abbrev pub bounded : ℕ × ℕ → ℕ × ℕ
bounded p = (min p.0 65535, min p.1 255)

abbrev pub all_bounded : (List ℕ → Option (ℕ × ℕ)) → List ℕ → Option (ℕ × ℕ)
all_bounded f x = option_map bounded (f x)

abbrev pub constructor_in : Table (ℕ × ℕ) → List ℕ → Option (ℕ × ℕ)
constructor_in t = all_bounded (said_in t)

abbrev pub known_in : Declared → Known
known_in d = record { types = said_in d.types; constructors = constructor_in d.constructors; nodes = node_in d.nodes }
