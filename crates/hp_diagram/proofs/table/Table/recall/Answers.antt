use Rattle.std.proofs.Common.{◌≡◌, ap, ◌∙◌, refl, subst}
use Rattle.lru.specs.LruCache.{promoted}
use Rattle.hp_diagram.specs.Diagrams.{Diagrams, Keeps}
use Rattle.hp_diagram.proofs.Growth.{AreAnswers-kept}
use Rattle.hp_diagram.proofs.Kept.{question_eq, IsSound-same, Keeps-same, right-promoted, IfSome-recall, IfNone-recall}
use Rattle.hp_diagram.proofs.table.Table.recall.Goals as goal

-- the table with the question's answer in front
abbrev after : goal.After-self-2-1 → Diagrams
after c = record { vars = c.self.inside.vars; nodes = c.self.inside.nodes.keys; answers = c.get.follows.lender-at-none.entries }

abbrev before : goal.After-self-2-1 → Diagrams
before c = record { vars = c.self.inside.vars; nodes = c.self.inside.nodes.keys; answers = c.self.inside.answers.entries }

pub invariant_of-self : goal.invariant_of-self
invariant_of-self c =
    let e : c.get.follows.lender-at-none.entries ≡ promoted (question_eq c.args.q) c.self.inside.answers.entries = ap (λ l. l.entries) c.get.follows.holds-at-none in (
      IsSound-same (before c) (after c) refl refl c.self.invariant.0 (λ q r there. right-promoted (before c) (question_eq c.args.q) c.self.invariant.0 q r (rw e at there)),
      AreAnswers-kept (before c) (after c) (Keeps-same (before c) (after c) refl refl c.self.invariant.0) c.self.inside.recent.items c.self.invariant.1,
    )

pub returns-clause-found : goal.returns-clause-found
returns-clause-found c = IfSome-recall (before c) c.args.self.now c.self.view_is c.self.invariant.0 c.args.q c.copied.result (c.copied.ensures ∙ c.get.ensures.value)

pub returns-clause-missing : goal.returns-clause-missing
returns-clause-missing c = IfNone-recall (before c) c.args.self.now c.self.view_is c.self.invariant.0 c.args.q c.copied.result (c.copied.ensures ∙ c.get.ensures.value)

pub returns-clause-keeps : goal.returns-clause-keeps
returns-clause-keeps c = subst (λ t. Keeps t (after c)) c.self.view_is (Keeps-same (before c) (after c) refl refl c.self.invariant.0)
