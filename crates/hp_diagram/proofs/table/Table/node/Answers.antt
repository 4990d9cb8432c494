use Rattle.std.proofs.Common.{◌≢◌, refl, subst, rules}
use Rattle.hp_diagram.specs.declared.reference.Branch.{Branch}
use Rattle.hp_diagram.specs.Diagrams.{Diagrams, AreAnswers, Keeps}
use Rattle.hp_diagram.proofs.Growth.{AreAnswers-kept, Keeps-node, IsSound-node, Means-node, stands-node, only-node}
use Rattle.hp_diagram.proofs.table.Table.node.Goals as goal

differ : (c : goal.In_ok-place) → c.args.low ≢ c.args.high
differ c = search rules

-- the node that is put into the table, and the table with it
abbrev made : goal.In_ok-place → Branch
made c = record { var = c.args.var; low = c.args.low; high = c.args.high }

abbrev after : goal.In_ok-place → Diagrams
after c = record { vars = c.self.inside.vars; nodes = c.place_of.new.nodes.keys; answers = c.self.inside.answers.entries }

keeps : (c : goal.In_ok-place) → Keeps c.args.self.now (after c)
keeps c = Keeps-node _ c.args.self.now (after c) c.self.view_is c.self.invariant.0 refl refl (made c) c.in_ok-place.place c.in_ok-place.ensures.ok c.requires.low c.requires.high (differ c) c.requires.low_later c.requires.high_later

pub invariant_of-self-2 : goal.invariant_of-self-2
invariant_of-self-2 c = (
  IsSound-node _ c.args.self.now (after c) c.self.view_is c.self.invariant.0 refl refl (made c) c.in_ok-place.place c.in_ok-place.ensures.ok c.requires.low c.requires.high (differ c) c.requires.low_later c.requires.high_later,
  AreAnswers-kept c.args.self.now (after c) (keeps c) c.self.inside.recent.items (subst (λ t. AreAnswers t c.self.inside.recent.items) c.self.view_is c.self.invariant.1),
)

pub returns-clause-ok : goal.returns-clause-ok
returns-clause-ok c = Means-node _ c.args.self.now (after c) c.self.view_is c.self.invariant.0 refl refl (made c) c.in_ok-place.place c.in_ok-place.ensures.ok c.requires.low c.requires.high (differ c) c.requires.low_later c.requires.high_later

pub returns-clause-keeps : goal.returns-clause-keeps
returns-clause-keeps c = keeps c

pub returns-clause-stands : goal.returns-clause-stands
returns-clause-stands c = λ _. stands-node _ c.args.self.now (after c) c.self.view_is c.self.invariant.0 refl refl (made c) c.in_ok-place.place c.in_ok-place.ensures.ok c.requires.low c.requires.high (differ c) c.requires.low_later c.requires.high_later

pub returns-clause-only : goal.returns-clause-only
returns-clause-only c = only-node _ c.args.self.now (after c) c.self.view_is c.self.invariant.0 refl refl (made c) c.in_ok-place.place c.in_ok-place.ensures.ok c.requires.low c.requires.high (differ c) c.requires.low_later c.requires.high_later
