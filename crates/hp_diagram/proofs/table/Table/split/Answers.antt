use Rattle.std.proofs.Common.{ℕ, ◌<◌, ◌≤◌, ◌⊎◌, inl, inr, min, arith}
use Rattle.hp_diagram.specs.declared.question.Split.{Split}
use Rattle.hp_diagram.proofs.Splits.{IsSplit-from_children}
use Rattle.hp_diagram.proofs.table.Table.split.Goals as goal

-- the least of three levels is a variable's if one of the three is
first_below : (vars a b c i j k : ℕ) → (2 ≤ i → a < vars) → (2 ≤ j → b < vars) → (2 ≤ k → c < vars) → (2 ≤ i) ⊎ (2 ≤ j) ⊎ (2 ≤ k) → min (min a b) c < vars
first_below vars a b c i j k f g h (inl x) = omega (arith, f x)
first_below vars a b c i j k f g h (inr (inl x)) = omega (arith, g x)
first_below vars a b c i j k f g h (inr (inr x)) = omega (arith, h x)

pub children-requires-clause-var : goal.children-requires-clause-var
children-requires-clause-var c =
    omega (arith, first_below c.args.self.now.vars _ _ _ _ _ _ c.level.ensures.node c.level-2.ensures.node c.level-3.ensures.node c.requires.node)

pub children-requires-2-clause-var : goal.children-requires-2-clause-var
children-requires-2-clause-var c =
    omega (arith, first_below c.args.self.now.vars _ _ _ _ _ _ c.level.ensures.node c.level-2.ensures.node c.level-3.ensures.node c.requires.node)

pub children-requires-3-clause-var : goal.children-requires-3-clause-var
children-requires-3-clause-var c =
    omega (arith, first_below c.args.self.now.vars _ _ _ _ _ _ c.level.ensures.node c.level-2.ensures.node c.level-3.ensures.node c.requires.node)

pub returns : goal.returns
returns c =
    let s : Split = record {
      var = c.min-var.result;
      low = record { f = c.children.result.0; g = c.children-2.result.0; h = c.children-3.result.0 };
      high = record { f = c.children.result.1; g = c.children-2.result.1; h = c.children-3.result.1 };
    } in
    IsSplit-from_children c.args.self.now c.args.q s
    (omega (arith, first_below c.args.self.now.vars _ _ _ _ _ _ c.level.ensures.node c.level-2.ensures.node c.level-3.ensures.node c.requires.node))
    (omega (arith, c.min-var.ensures, c.min.ensures, c.level.ensures.level, c.level-2.ensures.level, c.level-3.ensures.level))
    c.children.ensures c.children-2.ensures c.children-3.ensures
