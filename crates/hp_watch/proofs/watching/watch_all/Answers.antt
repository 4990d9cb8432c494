use Rattle.std.proofs.Common.{◌≡◌, length, sym, ap, ◌∙◌, rules}
use Rattle.hp_watch.specs.Watching.{observers_seen, watched_seen, with_places, Watched, unwatched, walked}
use Rattle.hp_watch.proofs.SurveyLaws.{watched-all}
use Rattle.hp_watch.proofs.watching.watch_all.Goals as goal

pub returns : goal.returns
returns c =
    let types = c.args.types.now in
    let flat = c.args.flat in
    let start = c.unwatched-watched.ensures in
    let before : Watched = record { node = c.survey.new.node; early = c.unwatched-watched.result.early.items; late = c.unwatched-watched.result.late.items } in
    let is_before : before ≡ unwatched c.survey.new.node = λ j. record { node = c.survey.new.node; early = (start j).early; late = (start j).late } in
    let inputs : c.len.result ≡ length c.args.node.now.inputs = search rules in
    let order : c.deref.result.now ≡ walked c.args.node.now flat = c.deref.ensures.value ∙ c.in_ok-walked.ensures.walked in
    let long : length c.in_ok-free.free.items ≡ length c.args.is_early.now = search rules in
    let all : watched_seen c.add_places.new.watched ≡ with_places types c.in_ok-free.free.items c.args.is_early.now before =
    c.in_ok-add_places.ensures ∙ ap (λ fs. with_places types fs c.args.is_early.now before) c.deref-2.ensures.value in
    watched-all types (observers_seen c.args.observers.now) c.args.node.now c.args.is_early.now flat c.len.result c.deref.result.now c.unwatched-watched.result.node c.survey.new.node c.in_ok-free.free.items (watched_seen c.add_places.new.watched) before c.in_ok-walked.ensures.fits inputs order
    (ap (λ w. w.node) start) c.in_ok-free.ensures.surveyed long is_before all
