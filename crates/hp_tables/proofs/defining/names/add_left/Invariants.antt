use Rattle.std.proofs.Common.{◌≡◌, ℕ, List, map, drop}
use Rattle.hp_base.specs.declared.span.Span.{Span}
use Rattle.hp_tables.specs.Defining.Seen.{names_seen, with_more}
use Rattle.hp_tables.proofs.defining.names.add_left.Given as goal

abbrev pub invariant-loop-name : goal.invariant-loop-name
invariant-loop-name l =
    with_more (names_seen l.into.items) (map (λ (y : List ℕ × Span). y.0) (drop l.name-index l.names)) ≡ with_more (names_seen l.initial.into.items) (map (λ (y : List ℕ × Span). y.0) l.names)
