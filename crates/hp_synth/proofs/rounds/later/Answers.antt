use Rattle.hp_diagram.proofs.Choices.{Keeps-trans}
use Rattle.hp_quant.proofs.Composed.{HasAll-keeps, AllComposed-keeps}
use Rattle.hp_synth.proofs.RoundSteps.{if_ok-map, Means-equal}
use Rattle.hp_synth.proofs.CourseLaws.{on_ok}
use Rattle.hp_synth.proofs.Alternating.{later-value}
use Rattle.hp_synth.proofs.rounds.later.Goals as goal

pub returns-clause-ok : goal.returns-clause-ok
returns-clause-ok c =
    if_ok-map c.and-2.result (λ r. Means-equal _ _ _ r
    (later-value c.args.t.now c.and.new.self c.compose_with.new.t c.and.ensures.keeps c.compose_with.ensures.keeps
    c.args.sets c.args.by.now c.args.x c.in_ok-meant.meant c.in_ok-after.after c.requires.replacements c.requires.x c.in_ok-meant.ensures.ok c.in_ok-after.ensures.ok))
    c.and-2.ensures.ok

pub compose_with-requires-clause-replacements : goal.compose_with-requires-clause-replacements
compose_with-requires-clause-replacements c = HasAll-keeps c.args.t.now c.and.new.self c.args.by.now c.and.ensures.keeps c.requires.replacements

pub returns-in_err-after-clause-keeps : goal.returns-in_err-after-clause-keeps
returns-in_err-after-clause-keeps c = Keeps-trans _ _ _ c.and.ensures.keeps c.compose_with.ensures.keeps

pub returns-clause-keeps : goal.returns-clause-keeps
returns-clause-keeps c = Keeps-trans _ _ _ (Keeps-trans _ _ _ c.and.ensures.keeps c.compose_with.ensures.keeps) c.and-2.ensures.keeps

pub compose_with-requires-clause-right : goal.compose_with-requires-clause-right
compose_with-requires-clause-right c = AllComposed-keeps c.args.t.now c.and.new.self c.args.by.now c.and.ensures.keeps c.requires.replacements c.args.composed.now c.requires.right

pub returns-clause-right : goal.returns-clause-right
returns-clause-right c =
    let all = HasAll-keeps c.args.t.now c.compose_with.new.t c.args.by.now (Keeps-trans _ _ _ c.and.ensures.keeps c.compose_with.ensures.keeps) c.requires.replacements in
    on_ok c.and-2.result (AllComposed-keeps c.compose_with.new.t c.and-2.new.self c.args.by.now c.and-2.ensures.keeps all c.compose_with.new.memo c.compose_with.ensures.right)
