use Rattle.std.proofs.Common.{◌||◌, arith}
use Rattle.hp_diagram.specs.Diagrams.{function}
use Rattle.hp_diagram.proofs.Choices.{Keeps-trans}
use Rattle.hp_boolx.specs.Search.{some_of, every_of}
use Rattle.hp_synth.proofs.QuantLaws.{late-some, control-all, early-some}
use Rattle.hp_synth.proofs.RoundSteps.{if_ok-map}
use Rattle.hp_synth.proofs.rounds.alternate.Goals as goal

pub returns-clause-ok : goal.returns-clause-ok
returns-clause-ok c =
    let vars = c.args.t.now.vars in
    let l = c.args.layout.now in
    let is = c.requires.layout in
    if_ok-map c.some_in.result (λ r h g F counts same.
    let late = late-some vars l is g _ vars c.either_from.new.t (λ v. function c.args.t.now c.args.now v || function c.args.t.now c.args.then v) c.in_ok-some.some F (omega arith) (omega arith) same c.in_ok-some.ensures.ok in
    let control = control-all vars l is g _ _ c.all_in.new.t (function c.either_from.new.t c.in_ok-some.some) c.in_ok-all.all (λ r u c. some_of g.late (F r u c)) (omega arith) (omega arith) late.value c.in_ok-all.ensures.ok in
    early-some vars l is g _ _ c.some_in.new.t (function c.all_in.new.t c.in_ok-all.all) r (λ r u. every_of g.control (λ c. some_of g.late (F r u c))) (omega arith) (omega arith) control.value h)
    c.some_in.ensures.ok

pub returns-in_err-all-clause-keeps : goal.returns-in_err-all-clause-keeps
returns-in_err-all-clause-keeps c = Keeps-trans _ _ _ c.either_from.ensures.keeps c.all_in.ensures.keeps

pub returns-clause-keeps : goal.returns-clause-keeps
returns-clause-keeps c = Keeps-trans _ _ _ (Keeps-trans _ _ _ c.either_from.ensures.keeps c.all_in.ensures.keeps) c.some_in.ensures.keeps
