use Rattle.hp_diagram.proofs.Choices.{Keeps-trans}
use Rattle.hp_synth.proofs.RoundSteps.{if_ok-map, Means-equal}
use Rattle.hp_synth.proofs.Alternating.{at_once-value}
use Rattle.hp_synth.proofs.rounds.at_once.Goals as goal

pub returns-clause-ok : goal.returns-clause-ok
returns-clause-ok c =
    if_ok-map c.and-3.result (λ r. Means-equal _ _ _ r
    (at_once-value c.args.t.now c.not.new.self c.and.new.self c.and-2.new.self c.not-2.new.self c.or.new.self c.not.ensures.keeps c.and.ensures.keeps c.and-2.ensures.keeps c.not-2.ensures.keeps c.or.ensures.keeps
    c.args.sets c.requires c.in_ok-fails.fails c.in_ok-meant.meant c.in_ok-violates.violates c.in_ok-invalid.invalid c.in_ok-either.either
    c.in_ok-fails.ensures.ok c.in_ok-meant.ensures.ok c.in_ok-violates.ensures.ok c.in_ok-invalid.ensures.ok c.in_ok-either.ensures.ok))
    c.and-3.ensures.ok

pub returns-in_err-meant-clause-keeps : goal.returns-in_err-meant-clause-keeps
returns-in_err-meant-clause-keeps c = Keeps-trans _ _ _ c.not.ensures.keeps c.and.ensures.keeps

pub returns-in_err-violates-clause-keeps : goal.returns-in_err-violates-clause-keeps
returns-in_err-violates-clause-keeps c = Keeps-trans _ _ _ (Keeps-trans _ _ _ c.not.ensures.keeps c.and.ensures.keeps) c.and-2.ensures.keeps

pub returns-in_err-invalid-clause-keeps : goal.returns-in_err-invalid-clause-keeps
returns-in_err-invalid-clause-keeps c = Keeps-trans _ _ _ (Keeps-trans _ _ _ (Keeps-trans _ _ _ c.not.ensures.keeps c.and.ensures.keeps) c.and-2.ensures.keeps) c.not-2.ensures.keeps

pub returns-in_err-either-clause-keeps : goal.returns-in_err-either-clause-keeps
returns-in_err-either-clause-keeps c = Keeps-trans _ _ _ (Keeps-trans _ _ _ (Keeps-trans _ _ _ (Keeps-trans _ _ _ c.not.ensures.keeps c.and.ensures.keeps) c.and-2.ensures.keeps) c.not-2.ensures.keeps) c.or.ensures.keeps

pub returns-clause-keeps : goal.returns-clause-keeps
returns-clause-keeps c = Keeps-trans _ _ _ (Keeps-trans _ _ _ (Keeps-trans _ _ _ (Keeps-trans _ _ _ (Keeps-trans _ _ _ c.not.ensures.keeps c.and.ensures.keeps) c.and-2.ensures.keeps) c.not-2.ensures.keeps) c.or.ensures.keeps) c.and-3.ensures.keeps
