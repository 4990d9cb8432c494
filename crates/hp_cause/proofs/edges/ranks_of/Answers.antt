use Rattle.std.proofs.Common.{◌+◌, ℕ, [], ◌∷◌, get_or, map, drop, sym, ap, ◌∙◌}
use Rattle.std.proofs.lemmas.List.{get_or_default}
use Rattle.hp_cause.specs.Told.{with_more}
use Rattle.hp_cause.proofs.GrowLaws.{more-one}
use Rattle.hp_cause.proofs.EdgeLaws.{next-rank}
use Rattle.hp_cause.proofs.edges.ranks_of.Goals as goal

pub loop-i-preserved : goal.loop-i-preserved
loop-i-preserved c =
    let i = c.loop-i.i in
    let vertices = c.args.vertices.now in
    let r : ℕ → ℕ = λ v. get_or c.args.ranks.now v 0 in
    let vertex = get_or vertices i 0 in
    let before = c.loop-i.found.items in
    ap (λ made. with_more made (map r (drop (i + 1) vertices))) (c.in_ok-push.ensures.items ∙ more-one before c.rank_of.result ∙ ap (λ rank. with_more before (rank ∷ [])) c.rank_of.ensures)
    ∙ sym (next-rank before r vertices i vertex c.loop-i-test.true (get_or_default vertices i 0 vertex c.loop-i-test.true))
    ∙ c.loop-i.invariant
