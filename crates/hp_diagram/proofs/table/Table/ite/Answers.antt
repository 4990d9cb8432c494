use Rattle.std.proofs.Common.{◌≡◌, ap, sym, subst, refl, Ok, Contains}
use Rattle.hp_diagram.specs.declared.reference.Ref.{Ref}
use Rattle.hp_diagram.specs.declared.question.Question.{Question}
use Rattle.hp_diagram.specs.Diagrams.{Diagrams, IsSound, IsAnswer, IsKept, ordered, Keeps}
use Rattle.hp_diagram.proofs.Growth.{IsAnswer-kept}
use Rattle.hp_diagram.proofs.Choices.{Keeps-refl, Keeps-trans, Means-picks, Means-answer, IsAnswer-ordered, kept_is}
use Rattle.hp_diagram.proofs.table.Table.ite.Goals as goal
use Rattle.hp_diagram.proofs.table.Table.ite.Goals.{In-Some, In-Some-recall}

-- What is kept is asked for in order, so where nothing was recalled nothing is kept.
not_kept : (t : Diagrams) (f g h : Ref) (q : Question) → q ≡ ordered f g h → ((r : Ref) → ¬ Contains t.answers (q, r)) → (r : Ref) → ¬ IsKept t f g h r
not_kept t f g h q e missing r there = missing r (subst (λ (p : Question). Contains t.answers (p, r)) (sym e) there)

pub returns-in-Some-clause-ok : goal.returns-in-Some-clause-ok
returns-in-Some-clause-ok c = Means-picks c.args.self.now c.args.f c.args.g c.args.h c.in-Some.r c.in-Some.ensures.picks c.requires.f c.requires.g c.requires.h

pub returns-in-Some-clause-kept : goal.returns-in-Some-clause-kept
returns-in-Some-clause-kept c = λ r there.
    let means = Means-picks c.args.self.now c.args.f c.args.g c.args.h c.in-Some.r c.in-Some.ensures.picks c.requires.f c.requires.g c.requires.h in
    (ap Ok (kept_is c.args.self.now c.args.f c.args.g c.args.h c.in-Some.r (subst IsSound c.self.view_is c.self.invariant.0) means r there), refl)

recalled : (c : In-Some-recall) → IsAnswer c.args.self.now c.ordered-question.result c.in-Some-recall.r
recalled c = (subst IsSound c.self.view_is c.self.invariant.0).answers c.ordered-question.result c.in-Some-recall.r c.in-Some-recall.ensures.found

pub returns-in-Some-recall-clause-ok : goal.returns-in-Some-recall-clause-ok
returns-in-Some-recall-clause-ok c =
    let answer = recalled c in
    Means-answer c.args.self.now c.recall.new.self c.args.f c.args.g c.args.h c.ordered-question.result c.in-Some-recall.r c.ordered-question.ensures c.recall.ensures.keeps
    answer.f answer.g answer.h (IsAnswer-kept c.args.self.now c.recall.new.self c.ordered-question.result c.in-Some-recall.r c.recall.ensures.keeps answer)

pub returns-in-Some-recall-clause-kept : goal.returns-in-Some-recall-clause-kept
returns-in-Some-recall-clause-kept c = λ r there.
    let answer = recalled c in
    let keeps : Keeps c.args.self.now c.args.self.now = Keeps-refl c.args.self.now (subst IsSound c.self.view_is c.self.invariant.0).reduced in
    let means = Means-answer c.args.self.now c.args.self.now c.args.f c.args.g c.args.h c.ordered-question.result c.in-Some-recall.r c.ordered-question.ensures keeps answer.f answer.g answer.h answer in
    (ap Ok (kept_is c.args.self.now c.args.f c.args.g c.args.h c.in-Some-recall.r (subst IsSound c.self.view_is c.self.invariant.0) means r there), c.recall.ensures.nodes)

pub returns-in_err-r-clause-keeps : goal.returns-in_err-r-clause-keeps
returns-in_err-r-clause-keeps c = Keeps-trans _ _ _ c.recall.ensures.keeps c.choose.ensures.keeps

pub returns-in_err-r-clause-kept : goal.returns-in_err-r-clause-kept
returns-in_err-r-clause-kept c = λ r there.
    absurd (not_kept c.args.self.now c.args.f c.args.g c.args.h c.ordered-question.result c.ordered-question.ensures c.in_default-recall.ensures.missing r there)

pub keep-requires : goal.keep-requires
keep-requires c =
    IsAnswer-ordered c.recall.new.self c.choose.new.self c.args.f c.args.g c.args.h c.ordered-question.result c.in_ok-r.r c.ordered-question.ensures c.choose.ensures.keeps
    (c.recall.ensures.keeps.has _ c.requires.f) (c.recall.ensures.keeps.has _ c.requires.g) (c.recall.ensures.keeps.has _ c.requires.h) c.in_ok-r.ensures.ok

pub returns-clause-keeps : goal.returns-clause-keeps
returns-clause-keeps c = Keeps-trans _ _ _ (Keeps-trans _ _ _ c.recall.ensures.keeps c.choose.ensures.keeps) c.keep.ensures.keeps

pub returns-clause-kept : goal.returns-clause-kept
returns-clause-kept c = λ r there.
    absurd (not_kept c.args.self.now c.args.f c.args.g c.args.h c.ordered-question.result c.ordered-question.ensures c.in_default-recall.ensures.missing r there)
