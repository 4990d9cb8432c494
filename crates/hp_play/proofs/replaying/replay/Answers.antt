use Rattle.std.proofs.Common.{◌≡◌, ◌≢◌, ◌+◌, ◌<◌, Bool, false, IsTrue, Option, MatchOption, length, get_or, sym, ap, subst, ◌∙◌, rules}
use Rattle.hp_boolx.specs.Machine.{game}
use Rattle.hp_boolx.specs.Search.{Bits}
use Rattle.hp_boolx.proofs.GateLaws.{game-form}
use Rattle.hp_play.specs.Plays.{IsInstant, IsPlayFrom, valuations}
use Rattle.hp_play.proofs.PlayLaws.{replay-on, replay-fails}
use Rattle.hp_play.proofs.replaying.replay.Goals as goal

pub returns-then-not-kept : goal.returns-then-not-kept
returns-then-not-kept c =
    let g = game c.args.m.now in
    let play = c.args.play.now in
    let i = c.loop-i.i in
    let one = c.index-play-i.result in
    let before : i < length play = search rules in
    let at : one ≡ get_or play i one = search rules in
    let more : i + 1 ≢ length play = search rules in
    let no_duty : c.in-Some.kept ≡ false = search rules in
    let found = subst (λ (o : Option Bool). MatchOption o (IsInstant g c.deref-in-loop-i.result.now c.deref-in-loop-i-2.result.now → ⊥) (λ kept. IsInstant g c.deref-in-loop-i.result.now c.deref-in-loop-i-2.result.now × (kept ≡ g.duty c.deref-in-loop-i-2.result.now))) c.in-Some.is c.in_ok-kept.ensures in
    let duty : g.duty one.values.items ≡ false = ap g.duty (sym c.deref-in-loop-i-2.ensures.value) ∙ sym found.1 ∙ no_duty in
    replay-fails g play i one before at c.loop-i.state.items (IsPlayFrom g c.args.m.now.init (valuations play)) c.loop-i.invariant.plays more duty

pub loop-i-preserved : goal.loop-i-preserved
loop-i-preserved c =
    let m = c.args.m.now in
    let g = game m in
    let play = c.args.play.now in
    let i = c.loop-i.i in
    let one = c.index-play-i.result in
    let before : i < length play = search rules in
    let at : one ≡ get_or play i one = search rules in
    let more : i + 1 ≢ length play = search rules in
    let yes : IsTrue c.in-Some.kept = search rules in
    let found = subst (λ (o : Option Bool). MatchOption o (IsInstant g c.deref-in-loop-i.result.now c.deref-in-loop-i-2.result.now → ⊥) (λ kept. IsInstant g c.deref-in-loop-i.result.now c.deref-in-loop-i-2.result.now × (kept ≡ g.duty c.deref-in-loop-i-2.result.now))) c.in-Some.is c.in_ok-kept.ensures in
    let duty : IsTrue (g.duty one.values.items) = ap g.duty (sym c.deref-in-loop-i-2.ensures.value) ∙ sym found.1 ∙ yes in
    let here : IsInstant g c.loop-i.state.items one.values.items =
    subst (λ (v : Bits). IsInstant g c.loop-i.state.items v) c.deref-in-loop-i-2.ensures.value (subst (λ (r : Bits). IsInstant g r c.deref-in-loop-i-2.result.now) c.deref-in-loop-i.ensures.value found.0) in
    let next : c.in_ok-state-2.state.items ≡ g.next one.values.items = c.in_ok-state-2.ensures ∙ ap g.next c.deref-in-loop-i-3.ensures.value in
    record {
      state = ap (λ (q : Bits). length q) next ∙ (game-form m c.vars-vars.ensures.kept).next one.values.items;
      plays = replay-on g play i one before at c.loop-i.state.items (IsPlayFrom g m.init (valuations play)) c.loop-i.invariant.plays more here duty c.in_ok-state-2.state.items next;
    }
