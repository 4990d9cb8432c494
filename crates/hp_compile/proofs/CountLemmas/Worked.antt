-- A worked program with inlined calls: its counts, and what a contract calls, by computing.
use Rattle.std.proofs.Common.{◌≡◌, ℕ, true, false, List, [], ◌∷◌, map, None, Some, refl}
use Rattle.hp_base.specs.declared.limit.What.TheVariants.{Nest, Places, Total, Instances, Cells, Calls}
use Rattle.hp_base.specs.declared.span.Span.{Span}
use Rattle.hp_base.specs.declared.ty.Ty.TheVariants as ty
use Rattle.hp_tree.specs.declared.expr.Op1.TheVariants.{Not}
use Rattle.hp_tree.specs.declared.program.Item.{Item}
use Rattle.hp_tree.specs.declared.program.Item.TheVariants.{TypeItem, NodeItem}
use Rattle.hp_tree.specs.Expressions.{variable, one, call, no_expr, more_exprs}
use Rattle.hp_tree.specs.Blocks.{Decl, block, no_eqn, more_eqns, define, reset}
use Rattle.hp_tree.specs.Programs.{Node}
use Rattle.hp_expand.specs.Numbering.{replaced}
use Rattle.hp_compile.specs.Counts.{Call, places, calling, both, deeper, in_contract, in_node, instance_of, counts, if_passed, first_passed}

abbrev at : Span
at = record { line = 1; col = 1; end = 1 }

abbrev bool : List ℕ → Decl
bool x = record { name = x; ty = ty.Bool; last = None; clock = None; span = at }

-- names: f g h, x y z
abbrev f : List ℕ
f = 102 ∷ []

abbrev g : List ℕ
g = 103 ∷ []

abbrev h : List ℕ
h = 104 ∷ []

abbrev x : List ℕ
x = 120 ∷ []

abbrev y : List ℕ
y = 121 ∷ []

-- node g(x : bool) returns () let tel
abbrev empty : Node
empty = record { name = g; span = at; inputs = bool x ∷ []; outputs = []; contract = None; body = block [] no_eqn }

-- node f(x : bool) returns (y : bool) let y = not x; () = g(x); tel
abbrev caller : Node
caller = record {
  name = f;
  span = at;
  inputs = bool x ∷ [];
  outputs = bool y ∷ [];
  contract = None;
  body = block [] (more_eqns (define at ((y, at) ∷ []) (one at Not (variable at x))) (more_eqns (define at [] (call at g false (more_exprs (variable at x) no_expr))) no_eqn));
}

-- node h(x : bool) returns (y : bool) let reset y = inlined f(x) every x tel
abbrev inliner : Node
inliner = record {
  name = h;
  span = at;
  inputs = bool x ∷ [];
  outputs = bool y ∷ [];
  contract = None;
  body = block [] (more_eqns (reset at (block [] (more_eqns (define at ((y, at) ∷ []) (call at f true (more_exprs (variable at x) no_expr))) no_eqn)) (variable at x)) no_eqn);
}

-- The inlined call brings two locals, `x$1 = x`, the two equations of `f`, and its output in its place.
counted : counts (replaced (NodeItem empty ∷ NodeItem caller ∷ NodeItem inliner ∷ []))
    ≡ record { node = g; what = Nest; count = 1 }
    ∷ record { node = g; what = Places; count = 1 }
    ∷ record { node = g; what = Total; count = 1 }
    ∷ record { node = g; what = Instances; count = 1 }
    ∷ record { node = g; what = Cells; count = 1 }
    ∷ record { node = g; what = Calls; count = 1 }
    ∷ record { node = f; what = Nest; count = 1 }
    ∷ record { node = f; what = Places; count = 6 }
    ∷ record { node = f; what = Total; count = 7 }
    ∷ record { node = f; what = Instances; count = 2 }
    ∷ record { node = f; what = Cells; count = 7 }
    ∷ record { node = f; what = Calls; count = 2 }
    ∷ record { node = h; what = Nest; count = 2 }
    ∷ record { node = h; what = Places; count = 11 }
    ∷ record { node = h; what = Total; count = 18 }
    ∷ record { node = h; what = Instances; count = 2 }
    ∷ record { node = h; what = Cells; count = 12 }
    ∷ record { node = h; what = Calls; count = 2 }
    ∷ []
unfolding places calling both deeper instance_of
counted = refl

-- of two counts the first that passes its limit is told
told : first_passed (record { node = g; what = Nest; count = 64 } ∷ record { node = f; what = Nest; count = 81 } ∷ record { node = h; what = Nest; count = 70 } ∷ []) ≡ Some (f, record { what = Nest; found = 65 })
unfolding if_passed
told = refl

-- node h(x : bool) returns (y : bool) contract enforce inlined f(x) let y = x tel
abbrev asking : Node
asking = record inliner {
  contract = Some (record { body = block [] no_eqn; assume = None; enforce = Some (call at f true (more_exprs (variable at x) no_expr)); controls = []; span = at });
  body = block [] (more_eqns (define at ((y, at) ∷ []) (variable at x)) no_eqn);
}

abbrev called_by_contracts : List Item → List (List (List ℕ))
called_by_contracts [] = []
called_by_contracts (TypeItem t ∷ items) = called_by_contracts items
called_by_contracts (NodeItem n ∷ items) = map (λ (c : Call). c.node) (in_contract n.contract).calls ∷ called_by_contracts items

-- its contract inlines `f`, and so calls `g`
asked : (in_node asking).calls ≡ record { node = f; at = at; inlined = true } ∷ []
unfolding places calling both
asked = refl

brought : called_by_contracts (replaced (NodeItem empty ∷ NodeItem caller ∷ NodeItem asking ∷ [])) ≡ [] ∷ [] ∷ (g ∷ []) ∷ []
unfolding places calling both
brought = refl
