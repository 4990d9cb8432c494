use Rattle.std.proofs.Common.{◌≡◌, sym, subst, arith}
use Rattle.hp_diagram.specs.declared.reference.Ref.{Ref}
use Rattle.hp_diagram.specs.declared.question.Question.{Question}
use Rattle.hp_diagram.specs.Diagrams.{Diagrams, Has, IsAnswer, ordered, Keeps}
use Rattle.hp_diagram.proofs.Kept.{ordered_all}
use Rattle.hp_diagram.proofs.Choices.{Keeps-refl, Keeps-trans, Means-picks, low_later, high_later, IsAnswer-made, Means-answer}
use Rattle.hp_diagram.proofs.table.Table.+choose.Goals as goal

has_question : (t : Diagrams) (f g h : Ref) (q : Question) → q ≡ ordered f g h → Has t f → Has t g → Has t h → Has t q.f × Has t q.g × Has t q.h
has_question t f g h q e in_f in_g in_h = subst (λ (p : Question). Has t p.f × Has t p.g × Has t p.h) (sym e) (ordered_all (Has t) (omega arith) (omega arith) f g h in_f in_g in_h)

pub returns-in-Some-clause-ok : goal.returns-in-Some-clause-ok
returns-in-Some-clause-ok m c = Means-picks c.args.self.now c.args.f c.args.g c.args.h c.in-Some.r c.in-Some.ensures.picks c.requires.f c.requires.g c.requires.h

pub returns-in-Some-known-clause-ok : goal.returns-in-Some-known-clause-ok
returns-in-Some-known-clause-ok m c =
    let answer = c.in-Some-known.ensures in
    Means-answer c.args.self.now c.args.self.now c.args.f c.args.g c.args.h c.ordered-question.result c.in-Some-known.r c.ordered-question.ensures (Keeps-refl c.args.self.now c.vars-vars.ensures.reduced)
    answer.f answer.g answer.h answer

pub returns-in_err-high-clause-keeps : goal.returns-in_err-high-clause-keeps
returns-in_err-high-clause-keeps m c = Keeps-trans _ _ _ c.choose.ensures.keeps c.choose-2.ensures.keeps

pub node-requires-clause-low_later : goal.node-requires-clause-low_later
node-requires-clause-low_later m c =
    low_later c.args.self.now c.choose.new.self c.choose-2.new.self c.vars-vars.ensures.reduced c.ordered-question.result c.split-var.result c.split-var.ensures c.in_ok-low.low c.in_ok-high.high
    c.choose.ensures.keeps c.in_ok-low.ensures.ok c.choose-2.ensures.keeps c.in_ok-high.ensures.ok

pub node-requires-clause-high_later : goal.node-requires-clause-high_later
node-requires-clause-high_later m c =
    high_later c.args.self.now c.choose.new.self c.choose-2.new.self c.vars-vars.ensures.reduced c.ordered-question.result c.split-var.result c.split-var.ensures c.in_ok-low.low c.in_ok-high.high
    c.choose.ensures.keeps c.in_ok-low.ensures.ok c.choose-2.ensures.keeps c.in_ok-high.ensures.ok

pub returns-in_err-r-clause-keeps : goal.returns-in_err-r-clause-keeps
returns-in_err-r-clause-keeps m c = Keeps-trans _ _ _ (Keeps-trans _ _ _ c.choose.ensures.keeps c.choose-2.ensures.keeps) c.node.ensures.keeps

pub remember-requires : goal.remember-requires
remember-requires m c =
    let has = has_question c.args.self.now c.args.f c.args.g c.args.h c.ordered-question.result c.ordered-question.ensures c.requires.f c.requires.g c.requires.h in
    IsAnswer-made c.args.self.now c.choose.new.self c.choose-2.new.self c.vars-vars.ensures.reduced c.ordered-question.result c.split-var.result c.split-var.ensures c.in_ok-low.low c.in_ok-high.high
    c.choose.ensures.keeps c.in_ok-low.ensures.ok c.choose-2.ensures.keeps c.in_ok-high.ensures.ok
    c.node.new.self c.in_ok-r.r c.node.ensures.keeps c.in_ok-r.ensures.ok has.0 has.1 has.2

made : {m : _} (c : goal.After-remember m) → IsAnswer c.node.new.self c.ordered-question.result c.in_ok-r.r
made c =
    let has = has_question c.args.self.now c.args.f c.args.g c.args.h c.ordered-question.result c.ordered-question.ensures c.requires.f c.requires.g c.requires.h in
    IsAnswer-made c.args.self.now c.choose.new.self c.choose-2.new.self c.vars-vars.ensures.reduced c.ordered-question.result c.split-var.result c.split-var.ensures c.in_ok-low.low c.in_ok-high.high
    c.choose.ensures.keeps c.in_ok-low.ensures.ok c.choose-2.ensures.keeps c.in_ok-high.ensures.ok
    c.node.new.self c.in_ok-r.r c.node.ensures.keeps c.in_ok-r.ensures.ok has.0 has.1 has.2

all : {m : _} (c : goal.After-remember m) → Keeps c.args.self.now c.remember.new.self
all c = subst (Keeps c.args.self.now) (sym c.remember.ensures) (Keeps-trans _ _ _ (Keeps-trans _ _ _ c.choose.ensures.keeps c.choose-2.ensures.keeps) c.node.ensures.keeps)

pub returns-clause-ok : goal.returns-clause-ok
returns-clause-ok m c =
    let has = has_question c.args.self.now c.args.f c.args.g c.args.h c.ordered-question.result c.ordered-question.ensures c.requires.f c.requires.g c.requires.h in
    Means-answer c.args.self.now c.remember.new.self c.args.f c.args.g c.args.h c.ordered-question.result c.in_ok-r.r c.ordered-question.ensures (all c)
    has.0 has.1 has.2 (subst (λ t. IsAnswer t c.ordered-question.result c.in_ok-r.r) (sym c.remember.ensures) (made c))

pub returns-clause-keeps : goal.returns-clause-keeps
returns-clause-keeps m c = all c
