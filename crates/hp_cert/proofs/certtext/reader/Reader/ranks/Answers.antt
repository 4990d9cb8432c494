use Rattle.std.proofs.Common.{◌≡◌, ◌<◌, ◌+◌, ◌-◌, [], length, ap, sym, ◌∙◌, rules, arith}
use Rattle.hp_cert.specs.Certtext.Reading.{times, rank}
use Rattle.hp_cert.proofs.CerttextLemmas.UntilLaws.{times_end, times_more, times_stop, gives_err}
use Rattle.hp_cert.proofs.certtext.reader.Reader.ranks.Goals as goal

pub returns-in_err-rank : goal.returns-in_err-rank
returns-in_err-rank c =
    let item = rank c.args.end in
    let old = c.loop-i.ranks.items in
    let count : c.len.result ≡ length old = search rules in
    let less : c.loop-i._i < c.args.count = omega arith in
    let o = times item c.args.count [] c.args.self.now in
    gives_err (λ rs. rs.items) c.from_residual.result c.in_err-rank.field-0.0 c.rank.new.self o c.from_residual.ensures.1
    (times_stop item old c.loop-i.self c.rank.new.self c.loop-i._i c.args.count c.len.result c.in_err-rank.field-0.0 o less count c.in_err-rank.ensures c.loop-i.invariant)

pub loop-i-preserved : goal.loop-i-preserved
loop-i-preserved c =
    let item = rank c.args.end in
    let old = c.loop-i.ranks.items in
    let count : c.len.result ≡ length old = search rules in
    let less : c.loop-i._i < c.args.count = omega arith in
    ap (λ z. times item (c.args.count - (c.loop-i._i + 1)) z c.rank.new.self) c.in_ok-push.ensures.items
    ∙ times_more item old c.in_ok-rank.field-0 c.loop-i.self c.rank.new.self c.loop-i._i c.args.count less (ap (λ n. item n c.loop-i.self) (sym count) ∙ c.in_ok-rank.ensures)
    ∙ c.loop-i.invariant

pub returns : goal.returns
returns c = sym c.loop-i.invariant ∙ times_end (rank c.args.end) c.loop-i.ranks.items c.loop-i.self (c.args.count - c.loop-i._i) (omega arith)
