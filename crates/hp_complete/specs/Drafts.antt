-- A node in the making: what is made so far, and where one stands.
use Rattle.law_equations.specs.Made.Making.{Sketch}
use Rattle.hp_complete.specs.declared.draft.Draft.{Draft}
use Rattle.hp_complete.specs.Layers.{says, inner_first}
use Rattle.hp_complete.specs.Places.{Place}
use Rattle.hp_complete.specs.Tables.{known_in}

unfoldable pub sketch_of : Draft → Sketch
sketch_of d = record { variables = d.variables.items; eqns = d.eqns.items; flag = d.flag }

unfoldable pub place_of : Draft → Place
place_of d = record {
  known = known_in d.declared.now;
  around = inner_first d.layers.items;
  own = says d.own;
  site = record { clock = d.clock.items; base = d.base; restart = d.restart.items };
}
