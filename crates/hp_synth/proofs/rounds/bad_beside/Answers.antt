use Rattle.hp_diagram.proofs.Choices.{Keeps-trans}
use Rattle.hp_synth.proofs.RoundSteps.{if_ok-map, Means-equal, bad-value}
use Rattle.hp_synth.proofs.rounds.bad_beside.Goals as goal

pub returns-in_err-kept-clause-keeps : goal.returns-in_err-kept-clause-keeps
returns-in_err-kept-clause-keeps c = Keeps-trans _ _ _ c.compose_with.ensures.keeps c.not.ensures.keeps

pub returns-in_err-fails-clause-keeps : goal.returns-in_err-fails-clause-keeps
returns-in_err-fails-clause-keeps c = Keeps-trans _ _ _ (Keeps-trans _ _ _ c.compose_with.ensures.keeps c.not.ensures.keeps) c.or.ensures.keeps

pub returns-in_err-both-clause-keeps : goal.returns-in_err-both-clause-keeps
returns-in_err-both-clause-keeps c = Keeps-trans _ _ _ (Keeps-trans _ _ _ (Keeps-trans _ _ _ c.compose_with.ensures.keeps c.not.ensures.keeps) c.or.ensures.keeps) c.and.ensures.keeps

pub returns-clause-ok : goal.returns-clause-ok
returns-clause-ok c =
    if_ok-map c.and-2.result (λ r. Means-equal _ _ _ r
    (bad-value c.args.t.now c.compose_with.new.t c.not.new.self c.or.new.self c.and.new.self c.compose_with.ensures.keeps c.not.ensures.keeps c.or.ensures.keeps c.and.ensures.keeps
    c.args.sets c.args.by.now c.args.x c.in_ok-after.after c.in_ok-kept.kept c.in_ok-fails.fails c.in_ok-both.both c.requires.sets
    c.in_ok-after.ensures.ok c.in_ok-kept.ensures.ok c.in_ok-fails.ensures.ok c.in_ok-both.ensures.ok))
    c.and-2.ensures.ok

pub returns-clause-keeps : goal.returns-clause-keeps
returns-clause-keeps c = Keeps-trans _ _ _ (Keeps-trans _ _ _ (Keeps-trans _ _ _ (Keeps-trans _ _ _ c.compose_with.ensures.keeps c.not.ensures.keeps) c.or.ensures.keeps) c.and.ensures.keeps) c.and-2.ensures.keeps
