-- How the clock of a definition is told, as it is drawn.
-- Source: own.
use Rattle.std.specs.Prelude.{Option, None, Some}
use Rattle.hp_tables.specs.Telling.Tellings as told
use Rattle.hp_tables.specs.Telling.Tellings.{as_of, one_more}
use Rattle.hp_drawing.specs.DrawnBlocks.{Telling, untold, at_base, of_name, on_value}

abbrev pub as_drawn : Option told.Told → Telling
as_drawn None = untold
as_drawn (Some told.at_base) = at_base
as_drawn (Some (as_of x)) = of_name x
as_drawn (Some (one_more c x)) = on_value c x
