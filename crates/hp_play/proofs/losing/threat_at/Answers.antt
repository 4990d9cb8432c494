use Rattle.std.proofs.Common.{◌≡◌, ◌≢◌, suc, ◌+◌, ◌-◌, ◌≤◌, List, length, sym, subst, ◌∙◌, arith, rules}
use Rattle.hp_diagram.specs.declared.reference.Ref.{Ref}
use Rattle.hp_diagram.specs.Diagrams.{Has, Means}
use Rattle.hp_diagram.proofs.Choices.{Keeps-trans, Means-keeps}
use Rattle.hp_boolx.specs.Machine.{game}
use Rattle.hp_boolx.specs.Solved.{rank}
use Rattle.hp_boolx.proofs.GateLaws.{game-form}
use Rattle.hp_synth.specs.Layouts.{place}
use Rattle.hp_synth.specs.Sought.{base_at}
use Rattle.hp_synth.specs.Valued.{OfState, over}
use Rattle.hp_synth.proofs.SoughtLaws.{all-keeps}
use Rattle.hp_synth.specs.Building.{HasEach}
use Rattle.hp_play.specs.Fields.{rank_ref}
use Rattle.hp_play.proofs.FieldLaws.{field-has, field-many, field-keeps, forcing-is, last-threat, more-threat, rank-means, worse-means}
use Rattle.hp_play.proofs.losing.threat_at.Goals as goal

pub worse-requires-clause-has : goal.worse-requires-clause-has
worse-requires-clause-has c = subst (λ (rs : List Ref). HasEach c.args.t.now rs) (sym c.deref-2.ensures.value) (field-has (game c.args.m.now) c.args.t.now c.args.field.now c.requires.field)

pub worse-requires-clause-x : goal.worse-requires-clause-x
worse-requires-clause-x c =
    let f = c.args.field.now in
    let same : c.rank-below.result ≡ rank_ref f.ranks.items c.args.left = c.rank-below.ensures ∙ rw c.deref.ensures.value in
    subst (Has c.args.t.now) (sym same) (rank-means (game c.args.m.now) c.args.t.now f c.requires.field c.args.left (omega (arith, c.requires.left))).has

pub worse-requires-clause-roots : goal.worse-requires-clause-roots
worse-requires-clause-roots c = subst (λ (rs : List Ref). 5 + c.args.field.now.layout.counts.registers ≤ length rs) (sym c.deref-2.ensures.value) (field-many (game c.args.m.now) c.args.t.now c.args.field.now c.requires.field)

pub slow-requires-clause-has : goal.slow-requires-clause-has
slow-requires-clause-has c =
    let k = Keeps-trans _ _ _ (Keeps-trans _ _ _ c.worse.ensures.keeps c.forcing.ensures.keeps) c.and.ensures.keeps in
    field-has (game c.args.m.now) c.and.new.self c.args.field.now (field-keeps (game c.args.m.now) c.args.t.now c.args.field.now c.requires.field c.and.new.self k)

pub slow-requires-clause-x : goal.slow-requires-clause-x
slow-requires-clause-x c =
    let f = c.args.field.now in
    let k = Keeps-trans _ _ _ (Keeps-trans _ _ _ c.worse.ensures.keeps c.forcing.ensures.keeps) c.and.ensures.keeps in
    let same : c.rank.result ≡ rank_ref f.ranks.items (c.args.left - 1) = c.rank.ensures ∙ rw c.deref-3.ensures.value in
    subst (Has c.and.new.self) (sym same) (k.has _ (rank-means (game c.args.m.now) c.args.t.now f c.requires.field (c.args.left - 1) (omega (arith, c.requires.left))).has)

pub slow-requires-clause-roots : goal.slow-requires-clause-roots
slow-requires-clause-roots c = field-many (game c.args.m.now) c.args.t.now c.args.field.now c.requires.field

pub returns-then-left-eq0-clause-keeps : goal.returns-then-left-eq0-clause-keeps
returns-then-left-eq0-clause-keeps c = Keeps-trans _ _ _ (Keeps-trans _ _ _ c.worse.ensures.keeps c.forcing.ensures.keeps) c.and.ensures.keeps

pub returns-clause-keeps : goal.returns-clause-keeps
returns-clause-keeps c = Keeps-trans _ _ _ (Keeps-trans _ _ _ (Keeps-trans _ _ _ (Keeps-trans _ _ _ c.worse.ensures.keeps c.forcing.ensures.keeps) c.and.ensures.keeps) c.in_ok-slow.ensures.keeps) c.and-2.ensures.keeps

pub returns-then-left-eq0-clause-threat : goal.returns-then-left-eq0-clause-threat
returns-then-left-eq0-clause-threat c =
    let g = game c.args.m.now in
    let form = game-form c.args.m.now c.vars-vars.ensures.kept in
    let t = c.args.t.now in
    let f = c.args.field.now in
    let is = c.requires.field in
    let left = c.args.left in
    let l = c.requires.left in
    let worse = worse-means g form t f is left l c.worse.new.t c.rank-below.result c.deref-2.result.now c.in_ok-worse.worse (c.rank-below.ensures ∙ rw c.deref.ensures.value) c.deref-2.ensures.value c.in_ok-worse.ensures.ok in
    let forcing = forcing-is g form t f is left l c.worse.new.t c.forcing.new.t c.worse.ensures.keeps c.index.result.now c.index-2.result.now c.in_ok-worse.worse c.in_ok-forcing.forcing c.index.ensures c.index-2.ensures worse c.in_ok-forcing.ensures.ok in
    last-threat g form t f is left l c.if-left-eq0.true c.worse.new.t c.forcing.new.t c.and.new.self c.forcing.ensures.keeps c.and.ensures.keeps c.in_ok-worse.worse c.in_ok-forcing.forcing c.in_ok-moves.moves worse forcing c.in_ok-moves.ensures.ok

pub returns-clause-threat : goal.returns-clause-threat
returns-clause-threat c =
    let g = game c.args.m.now in
    let form = game-form c.args.m.now c.vars-vars.ensures.kept in
    let t = c.args.t.now in
    let f = c.args.field.now in
    let is = c.requires.field in
    let left = c.args.left in
    let l = c.requires.left in
    let p = place f.layout in
    let worse = worse-means g form t f is left l c.worse.new.t c.rank-below.result c.deref-2.result.now c.in_ok-worse.worse (c.rank-below.ensures ∙ rw c.deref.ensures.value) c.deref-2.ensures.value c.in_ok-worse.ensures.ok in
    let forcing = forcing-is g form t f is left l c.worse.new.t c.forcing.new.t c.worse.ensures.keeps c.index.result.now c.index-2.result.now c.in_ok-worse.worse c.in_ok-forcing.forcing c.index.ensures c.index-2.ensures worse c.in_ok-forcing.ensures.ok in
    let k = Keeps-trans _ _ _ (Keeps-trans _ _ _ c.worse.ensures.keeps c.forcing.ensures.keeps) c.and.ensures.keeps in
    let some : left ≢ 0 = search rules in
    let at : left ≡ suc (left - 1) = omega (arith, some) in
    let same : c.rank.result ≡ rank_ref f.ranks.items (left - 1) = c.rank.ensures ∙ rw c.deref-3.ensures.value in
    let fewer = rank is.sets (left - 1) in
    let of_fewer : Means c.and.new.self (over p (OfState g fewer)) c.rank.result =
    subst (Means c.and.new.self (over p (OfState g fewer))) (sym same) (Means-keeps t c.and.new.self k _ _ (rank-means g t f is (left - 1) (omega (arith, l)))) in
    let slow = c.in_ok-slow.ensures.ok g fewer form is.counts (all-keeps t c.and.new.self (base_at p g) f.roots.items k is.roots) of_fewer in
    more-threat g form t f is left l (left - 1) at c.worse.new.t c.forcing.new.t c.and.new.self c.slow.new.t c.and-2.new.self c.forcing.ensures.keeps c.and.ensures.keeps c.in_ok-slow.ensures.keeps c.and-2.ensures.keeps
    c.in_ok-worse.worse c.in_ok-forcing.forcing c.in_ok-moves.moves c.in_ok-slow.slow c.in_ok-moves-2.moves worse forcing c.in_ok-moves.ensures.ok slow c.in_ok-moves-2.ensures.ok
