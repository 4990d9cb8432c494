use Rattle.std.proofs.Common.{◌≡◌, ◌+◌, ◌<◌, [], ◌∷◌, ◌++◌, length, get_or, sym, ap, subst, ◌∙◌, arith}
use Rattle.hp_init.specs.Spreading.{lists, marks, all_marked, unmarked, Spreads, Grew}
use Rattle.hp_init.proofs.SpreadLaws.{spreads-on, spread-more, measured, length_more}
use Rattle.hp_init.proofs.least.spread.Goals as goal

pub loop-number-preserved : goal.loop-number-preserved
loop-number-preserved c =
    let followers = lists c.args.followers.now in
    let number = c.in-Some.number in
    let second = c.loop-number.second in
    let rest = c.pop.new.self.items in
    let popped : c.loop-number.waiting.items ≡ rest ++ number ∷ [] = c.in-Some.ensures.items in
    let known : Spreads followers (marks second (rest ++ number ∷ [])) = subst (λ w. Spreads followers (marks second w)) popped c.loop-number.invariant.spreads in
    let made : marks c.mark_all.new.second c.mark_all.new.waiting.items ≡ all_marked (get_or followers number []) (marks second rest) =
    c.in_ok-mark_all.ensures ∙ ap (λ ks. all_marked ks (marks second rest)) c.targets_at.ensures in
    record {
      spreads = subst (λ m. Spreads followers m) (sym made) (spreads-on followers second rest number known);
      grew = subst (λ m. Grew followers c.args.second.now m.second) (sym made) (spread-more followers c.args.second.now second rest number known c.loop-number.invariant.grew);
    }

pub loop-number-smaller : goal.loop-number-smaller
loop-number-smaller c =
    let followers = lists c.args.followers.now in
    let number = c.in-Some.number in
    let second = c.loop-number.second in
    let rest = c.pop.new.self.items in
    let made : marks c.mark_all.new.second c.mark_all.new.waiting.items ≡ all_marked (get_or followers number []) (marks second rest) =
    c.in_ok-mark_all.ensures ∙ ap (λ ks. all_marked ks (marks second rest)) c.targets_at.ensures in
    let fewer : length c.mark_all.new.waiting.items + unmarked c.mark_all.new.second ≡ length rest + unmarked second =
    ap (λ m. length m.waiting + unmarked m.second) made ∙ measured (get_or followers number []) second rest in
    let popped : length c.loop-number.waiting.items ≡ length rest + 1 = ap length c.in-Some.ensures.items ∙ length_more rest number in
    let less : length c.mark_all.new.waiting.items + unmarked c.mark_all.new.second < length c.loop-number.waiting.items + unmarked second = omega arith in
    less
