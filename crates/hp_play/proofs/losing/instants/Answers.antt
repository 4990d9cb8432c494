use Rattle.std.proofs.Common.{◌≡◌, ◌+◌, ◌-◌, ◌<◌, List, length, sym, ap, subst, ◌∙◌, rules, arith}
use Rattle.hp_diagram.proofs.Choices.{Keeps-trans, Keeps-refl}
use Rattle.hp_boolx.specs.Machine.{game}
use Rattle.hp_boolx.specs.Search.{Bits}
use Rattle.hp_boolx.proofs.GateLaws.{game-form}
use Rattle.hp_play.specs.Fields.{Exactly, IsPlayTo}
use Rattle.hp_play.specs.Plays.{IsInstant, IsPlayFrom, LoseEach, valuations}
use Rattle.hp_play.specs.declared.instant.Instant.{Instant}
use Rattle.hp_play.proofs.FieldLaws.{field-count, field-keeps}
use Rattle.hp_play.proofs.MoveLaws.{exact-first}
use Rattle.hp_play.proofs.PlayLaws.{loses-push, next-done, next-on, valuations-len, valuations-push}
use Rattle.hp_play.proofs.losing.instants.Goals as goal

pub loop-i-init : goal.loop-i-init
loop-i-init c =
    let g = game c.args.m.now in
    let f = c.args.field.now in
    let is = c.requires.field in
    let n = length f.ranks.items in
    let first : Exactly g n g.init = exact-first g is.sets is.lose n (sym (field-count g c.args.t.now f is)) in
    let state : c.in_ok-state.state.items ≡ g.init = search rules in
    record {
      many = ap (λ (q : List Instant). length q) c.new-play.ensures.items;
      state = search rules;
      on = λ l. (
        subst (λ (s : Bits). Exactly g (n - 0) s) (sym state) (subst (λ k. Exactly g k g.init) (let e : n ≡ n - 0 = omega arith in e) first),
        subst (λ (is : List Instant). IsPlayTo g g.init (valuations is) c.in_ok-state.state.items) (sym c.new-play.ensures.items) state,
      );
      done = λ l. absurd (subst (λ k. Exactly g k g.init) (let e : n ≡ 0 = omega (arith, l) in e) first);
      loses = subst (λ (is : List Instant). LoseEach g n (valuations is)) (sym c.new-play.ensures.items) tt;
      keeps = Keeps-refl c.args.t.now c.vars.ensures.reduced;
    }

pub instant_at-requires-clause-field : goal.instant_at-requires-clause-field
instant_at-requires-clause-field c = field-keeps (game c.args.m.now) c.args.t.now c.args.field.now c.requires.field c.loop-i.t c.loop-i.invariant.keeps

pub instant_at-requires-clause-exactly : goal.instant_at-requires-clause-exactly
instant_at-requires-clause-exactly c =
    let g = game c.args.m.now in
    let n = length c.args.field.now.ranks.items in
    let at : c.len.result ≡ n = search rules in
    let before : c.loop-i.i < n = search rules in
    subst (λ (s : Bits). Exactly g ((c.len.result - 1 - c.loop-i.i) + 1) s) (sym c.deref-in-loop-i.ensures.value) (subst (λ k. Exactly g k c.loop-i.state.items) (let e : n - c.loop-i.i ≡ (c.len.result - 1 - c.loop-i.i) + 1 = omega (arith, at, before) in e) (c.loop-i.invariant.on before).0)

pub loop-i-preserved : goal.loop-i-preserved
loop-i-preserved c =
    let g = game c.args.m.now in
    let n = length c.args.field.now.ranks.items in
    let i = c.loop-i.i in
    let one = c.in_ok-instant.instant in
    let play = c.loop-i.play.items in
    let at : c.len.result ≡ n = search rules in
    let before : i < n = search rules in
    let left = c.len.result - 1 - i in
    let is_left : left ≡ n - 1 - i = omega (arith, at) in
    let so_far : length (valuations play) ≡ i = valuations-len play ∙ c.loop-i.invariant.many in
    let now = c.in_ok-instant.ensures in
    let to = (c.loop-i.invariant.on before).1 in
    let here : IsInstant g c.loop-i.state.items one.values.items = subst (λ (r : Bits). IsInstant g r one.values.items) c.deref-in-loop-i.ensures.value now.instant in
    let next : c.in_ok-state-2.state.items ≡ g.next one.values.items = search rules in
    record {
      many = search rules;
      state = ap (λ (q : Bits). length q) next ∙ (game-form c.args.m.now c.vars-2.ensures.kept).next one.values.items;
      on = λ more. subst (λ (is : List Instant). Exactly g (n - (i + 1)) c.in_ok-state-2.state.items × IsPlayTo g g.init (valuations is) c.in_ok-state-2.state.items) (sym c.in_ok-push.ensures.items)
          (subst (λ (vs : List Bits). Exactly g (n - (i + 1)) c.in_ok-state-2.state.items × IsPlayTo g g.init vs c.in_ok-state-2.state.items) (sym (valuations-push play one))
          (next-on g n i left is_left before (valuations play) g.init c.loop-i.state.items one.values.items c.in_ok-state-2.state.items to here now.leads next more));
      done = λ none. subst (λ (is : List Instant). IsPlayFrom g g.init (valuations is)) (sym c.in_ok-push.ensures.items)
          (subst (λ (vs : List Bits). IsPlayFrom g g.init vs) (sym (valuations-push play one))
          (next-done g n i left is_left before (valuations play) g.init c.loop-i.state.items one.values.items to here now.leads none));
      loses = subst (λ (is : List Instant). LoseEach g n (valuations is)) (sym c.in_ok-push.ensures.items)
          (subst (λ (vs : List Bits). LoseEach g n vs) (sym (valuations-push play one)) (loses-push g n (valuations play) one.values.items left c.loop-i.invariant.loses (omega (arith, at, before, so_far)) now.loses));
      keeps = Keeps-trans _ _ _ c.loop-i.invariant.keeps now.keeps;
    }
