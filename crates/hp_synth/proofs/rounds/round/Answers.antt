use Rattle.hp_diagram.proofs.Choices.{Keeps-trans}
use Rattle.hp_quant.proofs.Composed.{HasAll-keeps, AllComposed-keeps}
use Rattle.hp_synth.specs.Layouts.{place}
use Rattle.hp_synth.proofs.RoundSteps.{if_ok-map}
use Rattle.hp_synth.proofs.CourseLaws.{on_ok}
use Rattle.hp_synth.proofs.Alternating.{threat, threat-value, round-means, later-keeps}
use Rattle.hp_synth.proofs.rounds.round.Goals as goal

pub returns-clause-ok : goal.returns-clause-ok
returns-clause-ok c =
    if_ok-map c.alternate.result (λ r is g X counts are x.
    round-means g X (place c.args.layout.now) c.alternate.new.t r (is g (threat g X) counts
    (threat-value g X (place c.args.layout.now) c.args.t.now c.at_once.new.t c.later.new.t c.at_once.ensures.keeps c.later.ensures.keeps c.args.sets c.args.by.now c.args.x c.in_ok-now.now c.in_ok-then.then are c.requires.sets x
    c.in_ok-now.ensures.ok c.in_ok-then.ensures.ok (later-keeps c.args.t.now c.at_once.new.t c.args.sets c.args.by.now c.args.x c.at_once.ensures.keeps c.requires.replacements c.requires.sets c.requires.x))))
    c.alternate.ensures.ok

pub later-requires-clause-replacements : goal.later-requires-clause-replacements
later-requires-clause-replacements c = HasAll-keeps c.args.t.now c.at_once.new.t c.args.by.now c.at_once.ensures.keeps c.requires.replacements

pub returns-in_err-then-clause-keeps : goal.returns-in_err-then-clause-keeps
returns-in_err-then-clause-keeps c = Keeps-trans _ _ _ c.at_once.ensures.keeps c.later.ensures.keeps

pub returns-clause-keeps : goal.returns-clause-keeps
returns-clause-keeps c = Keeps-trans _ _ _ (Keeps-trans _ _ _ c.at_once.ensures.keeps c.later.ensures.keeps) c.alternate.ensures.keeps

pub later-requires-clause-right : goal.later-requires-clause-right
later-requires-clause-right c = AllComposed-keeps c.args.t.now c.at_once.new.t c.args.by.now c.at_once.ensures.keeps c.requires.replacements c.args.composed.now c.requires.right

pub returns-clause-right : goal.returns-clause-right
returns-clause-right c =
    let all = HasAll-keeps c.args.t.now c.later.new.t c.args.by.now (Keeps-trans _ _ _ c.at_once.ensures.keeps c.later.ensures.keeps) c.requires.replacements in
    on_ok c.alternate.result (AllComposed-keeps c.later.new.t c.alternate.new.t c.args.by.now c.alternate.ensures.keeps all c.later.new.composed c.in_ok-then.ensures.right)
