use Rattle.std.proofs.Common.{◌<◌, if◌then◌else◌, get_or, sym, subst, arith}
use Rattle.hp_diagram.specs.Diagrams.{function, Means}
use Rattle.hp_quant.specs.Lines.{reference_at}
use Rattle.hp_synth.specs.Layouts.{place}
use Rattle.hp_synth.proofs.RoundSteps.{if_ok-map}
use Rattle.hp_cert.proofs.FunctionLaws.{one_more, line_means}
use Rattle.hp_cert.proofs.LineLaws.{none, line_at, below_line}
use Rattle.hp_cert.proofs.functions.next_function.Goals as goal

pub import_line-requires-clause-low : goal.import_line-requires-clause-low
import_line-requires-clause-low c =
    let lines = c.args.lines.now in
    let below = (below_line lines c.requires.lines c.args.i (get_or lines c.args.i none) (line_at lines c.args.i c.requires.i)).0 in
    let len = c.requires.before.len in omega (arith, below, len)

pub import_line-requires-clause-high : goal.import_line-requires-clause-high
import_line-requires-clause-high c =
    let lines = c.args.lines.now in
    let below = (below_line lines c.requires.lines c.args.i (get_or lines c.args.i none) (line_at lines c.args.i c.requires.i)).1 in
    let len = c.requires.before.len in omega (arith, below, len)

pub import_line-requires-clause-var : goal.import_line-requires-clause-var
import_line-requires-clause-var c =
    let less = c.requires.layout.within (get_or c.args.lines.now c.args.i none).var (c.requires.vars c.args.i none c.requires.i) in
    subst (λ y. y < c.args.t.now.vars) (sym c.place-at.ensures) less

pub returns-clause-ok : goal.returns-clause-ok
returns-clause-ok c =
    let t = c.args.t.now in
    let u = c.import_line.new.t in
    let lines = c.args.lines.now in
    let refs = c.args.refs.now in
    let i = c.args.i in
    let l = get_or lines i none in
    let at_places = place c.args.layout.now in
    let at = line_at lines i c.requires.i in
    if_ok-map c.import_line.result (λ r is. one_more at_places t u lines c.args.marks.now refs i c.import_line.ensures.keeps c.requires.before r is.has
    (λ m. line_means at_places t u lines c.args.marks.now refs i l r c.requires.lines c.requires.closed c.requires.before at m
    (subst (λ y. Means u (λ v. if v y then function t (reference_at refs l.high) v else function t (reference_at refs l.low) v) r) c.place-at.ensures is))) c.import_line.ensures.ok
