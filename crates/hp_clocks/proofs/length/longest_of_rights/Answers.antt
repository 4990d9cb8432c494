use Rattle.std.proofs.Common.{◌≡◌, ℕ, ◌+◌, Bor, drop, length, map, sym, ap, ◌∙◌, subst}
use Rattle.std.specs.Prelude.{max}
use Rattle.hp_tree.specs.Expressions.{Expr}
use Rattle.hp_tree.specs.Instant.{Clock}
use Rattle.hp_clocks.specs.Solved.{clock_read}
use Rattle.hp_clocks.specs.Longest.{counted, longest, longest_right}
use Rattle.hp_clocks.proofs.LengthRules.{right_read, rights_next, found_more, most_on, greatest}
use Rattle.hp_clocks.proofs.length.longest_of_rights.Goals as goal

pub loop-clock-preserved : goal.loop-clock-preserved
loop-clock-preserved c =
    let read : ℕ → Clock = λ x. clock_read c.args.cells.now.cells.items x in
    let i : ℕ = c.loop-clock.clock-index in
    let r : ℕ × Bor Expr = c.loop-clock-item.result in
    let front : ℕ = longest_right (map (right_read read) (drop i c.args.rights.now)) in
    let rest : ℕ = longest_right (map (right_read read) (drop (i + 1) c.args.rights.now)) in
    let whole : ℕ = counted (longest_right (map (right_read read) c.args.rights.now)) in
    let clock : c.length.result ≡ counted (length (read r.0)) = c.length.ensures in
    let given : c.longest_in.result ≡ counted (longest r.1.now c.length.result) = c.longest_in.ensures in
    let found : c.longest_in.result ≡ counted (longest r.1.now (length (read r.0))) =
    given ∙ ap (λ z. counted (longest r.1.now z)) clock ∙ most_on r.1.now (length (read r.0)) in
    subst (λ z. max z (counted rest) ≡ whole) (sym (c.max-most.ensures ∙ greatest c.loop-clock.most c.longest_in.result))
    (found_more c.loop-clock.most c.longest_in.result (longest r.1.now (length (read r.0))) front rest whole
    (subst (λ z. front ≡ max (longest z.1.now (length (read z.0))) rest) (sym c.loop-clock-item.is) (rights_next read c.args.rights.now i r c.loop-clock-test.true)) found c.loop-clock.invariant)
