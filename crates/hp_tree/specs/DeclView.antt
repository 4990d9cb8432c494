-- What a declaration is seen as.
use Rattle.std.specs.Prelude.{ℕ, List, Option, option_map}
use Rattle.std.specs.declared.alloc.Global.{Global}
use Rattle.std.specs.declared.vec.Vec.{Vec}
use Rattle.hp_tree.specs.declared.decl.Cons.{Cons}
use Rattle.hp_tree.specs.declared.decl.Decl.TheInside.{Inside}
use Rattle.hp_tree.specs.Blocks.{Decl}

-- the path of a clock, if one is written
abbrev pub clock_seen : Option (Vec (Cons × List ℕ) Global) → Option (List (Cons × List ℕ))
clock_seen clock = option_map (λ path. path.items) clock

-- a declaration, by its fields
abbrev pub decl_seen : Inside → Decl
decl_seen d = record { name = d.name; ty = d.ty; last = d.last; clock = clock_seen d.clock; span = d.span }
