use Rattle.std.proofs.Common.{◌≡◌, ◌∙◌, ap}
use Rattle.std.specs.Map.{lookup}
use Rattle.hp_diagram.specs.declared.question.Question.{Question}
use Rattle.hp_diagram.specs.Diagrams.{Diagrams, ordered}
use Rattle.hp_diagram.proofs.Kept.{question_eq, kept-recall, answer-recall, IfSome-ordered}
use Rattle.hp_diagram.proofs.table.Table.cached.Goals as goal

abbrev fields : goal.After-copied → Diagrams
fields c = record { vars = c.self.inside.vars; nodes = c.self.inside.nodes.keys; answers = c.self.inside.answers.entries }

abbrev asked : goal.After-copied → Question
asked c = ordered c.args.f c.args.g c.args.h

found : (c : goal.After-copied) → c.copied.result ≡ lookup (question_eq (asked c)) (fields c).answers
found c = c.copied.ensures ∙ c.peek.ensures ∙ ap (λ q. lookup (question_eq q) c.self.inside.answers.entries) c.ordered.ensures

pub returns-clause-kept : goal.returns-clause-kept
returns-clause-kept c = kept-recall (fields c) c.args.self.now c.self.view_is c.self.invariant.0 (asked c) c.copied.result (found c)

pub returns-clause-answer : goal.returns-clause-answer
returns-clause-answer c =
    IfSome-ordered c.args.self.now c.args.f c.args.g c.args.h c.copied.result
    (answer-recall (fields c) c.args.self.now c.self.view_is c.self.invariant.0 (asked c) c.copied.result (found c))
