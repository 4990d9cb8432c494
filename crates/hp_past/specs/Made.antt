-- What has been added so far, as the code holds it.
use Rattle.std.specs.Prelude.{List, [], ◌∷◌, ◌++◌, map}
use Rattle.hp_tree.specs.declared.decl.Cons.{Cons}
use Rattle.hp_tree.specs.BlockView.{eqn_seen}
use Rattle.hp_tree.specs.Expressions.{Expr, Exprs, more_exprs, Parts, more_parts}
use Rattle.hp_tree.specs.Blocks.{Eqn}
use Rattle.hp_past.specs.declared.additions.Additions.{Additions}
use Rattle.hp_past.specs.Unfolding.{Added}

unfoldable pub added_of : Additions → Added
added_of a = record { next = a.next; locals = a.locals.items; eqns = map eqn_seen a.eqns.items }

-- some elements in front of others
abbrev pub exprs_onto : List Expr → Exprs × Added → Exprs × Added
exprs_onto [] rest = rest
exprs_onto (e ∷ es) rest = let r = exprs_onto es rest in (more_exprs e r.0, r.1)

abbrev pub parts_onto : List (Cons × Expr) → Parts × Added → Parts × Added
parts_onto [] rest = rest
parts_onto (p ∷ ps) rest = let r = parts_onto ps rest in (more_parts p.0 p.1 r.0, r.1)

abbrev pub eqns_onto : List Eqn → List Eqn × Added → List Eqn × Added
eqns_onto es rest = (es ++ rest.0, rest.1)
