use Rattle.std.proofs.Common.{◌≡◌, ◌↔◌, ◌+◌, suc, IsTrue, length, sym, subst, ◌∙◌, arith, rules}
use Rattle.hp_diagram.specs.Diagrams.{function, valuation}
use Rattle.hp_diagram.proofs.Choices.{Keeps-trans}
use Rattle.hp_boolx.specs.Machine.{game}
use Rattle.hp_boolx.specs.Search.{Bits}
use Rattle.hp_boolx.proofs.GateLaws.{game-form}
use Rattle.hp_synth.specs.Layouts.{place}
use Rattle.hp_synth.specs.Valued.{Valued, read, states, through}
use Rattle.hp_play.specs.Fields.{Exactly}
use Rattle.hp_play.proofs.FieldLaws.{field-has, field-keeps, instant-is, put-back, some-here, threat-keeps}
use Rattle.hp_play.proofs.losing.instant_at.Goals as goal

pub free_at-requires-clause-has : goal.free_at-requires-clause-has
free_at-requires-clause-has c =
    let k = Keeps-trans _ _ _ (Keeps-trans _ _ _ c.in_ok-threat.ensures.keeps c.in_ok-here.ensures.keeps) c.and.ensures.keeps in
    field-has (game c.args.m.now) _ c.args.field.now (field-keeps (game c.args.m.now) c.args.t.now c.args.field.now c.requires.field _ k)

pub free_at-requires-clause-forcing : goal.free_at-requires-clause-forcing
free_at-requires-clause-forcing c = c.and.ensures.keeps.has _ (c.in_ok-here.ensures.keeps.has _ c.in_ok-threat.ensures.threat.forcing)

pub returns-clause-instant : goal.returns-clause-instant
returns-clause-instant c =
    let g = game c.args.m.now in
    let form = game-form c.args.m.now c.vars.ensures.kept in
    let layout = c.args.field.now.layout in
    let p = place layout in
    let r = c.args.state.now in
    let threat = c.in_ok-threat.threat in
    let is = threat-keeps g p c.args.left c.threat_at.new.t c.of_values.new.t threat c.in_ok-here.ensures.keeps c.in_ok-threat.ensures.threat in
    let of_here : (v : Valued) → IsTrue (function c.of_values.new.t c.in_ok-here.here v) ↔ (states g (through p v) ≡ r) =
    λ v. subst (λ n. IsTrue (function c.of_values.new.t c.in_ok-here.here v) ↔ (read 0 n (through p v) ≡ r)) c.requires.state (c.in_ok-here.ensures.ok.are v) in
    let exactly : Exactly g (suc c.args.left) r = subst (λ n. Exactly g n r) (let e : c.args.left + 1 ≡ suc c.args.left = omega arith in e) c.requires.exactly in
    let some = some-here g form c.args.t.now.vars layout c.requires.field.layout c.args.left c.of_values.new.t c.and.new.self threat is c.in_ok-here.here c.in_ok-moves.moves r of_here c.in_ok-moves.ensures.ok c.requires.state exactly in
    let many : c.in_ok-placed.placed.len ≡ length c.pick.new.values = search rules in
    let same : c.deref.result.now ≡ c.pick.new.values = c.deref.ensures.value ∙ put-back c.in_ok-placed.placed.len c.pick.new.values c.in_ok-placed.placed.items many in
    let picked : IsTrue (function c.and.new.self c.in_ok-moves.moves (valuation c.deref.result.now)) =
    subst (λ (d : Bits). IsTrue (function c.and.new.self c.in_ok-moves.moves (valuation d))) (sym same) (c.pick.ensures.found some.0 some.1) in
    (instant-is g form c.args.t.now.vars layout c.requires.field.layout c.args.left c.of_values.new.t c.and.new.self threat is c.in_ok-here.here c.in_ok-moves.moves r of_here c.in_ok-moves.ensures.ok c.deref.result.now picked c.vars.result c.vars.ensures.vars c.in_ok-values.values.items c.in_ok-values.ensures).0

pub returns-clause-loses : goal.returns-clause-loses
returns-clause-loses c =
    let g = game c.args.m.now in
    let form = game-form c.args.m.now c.vars.ensures.kept in
    let layout = c.args.field.now.layout in
    let p = place layout in
    let r = c.args.state.now in
    let threat = c.in_ok-threat.threat in
    let is = threat-keeps g p c.args.left c.threat_at.new.t c.of_values.new.t threat c.in_ok-here.ensures.keeps c.in_ok-threat.ensures.threat in
    let of_here : (v : Valued) → IsTrue (function c.of_values.new.t c.in_ok-here.here v) ↔ (states g (through p v) ≡ r) =
    λ v. subst (λ n. IsTrue (function c.of_values.new.t c.in_ok-here.here v) ↔ (read 0 n (through p v) ≡ r)) c.requires.state (c.in_ok-here.ensures.ok.are v) in
    let exactly : Exactly g (suc c.args.left) r = subst (λ n. Exactly g n r) (let e : c.args.left + 1 ≡ suc c.args.left = omega arith in e) c.requires.exactly in
    let some = some-here g form c.args.t.now.vars layout c.requires.field.layout c.args.left c.of_values.new.t c.and.new.self threat is c.in_ok-here.here c.in_ok-moves.moves r of_here c.in_ok-moves.ensures.ok c.requires.state exactly in
    let many : c.in_ok-placed.placed.len ≡ length c.pick.new.values = search rules in
    let same : c.deref.result.now ≡ c.pick.new.values = c.deref.ensures.value ∙ put-back c.in_ok-placed.placed.len c.pick.new.values c.in_ok-placed.placed.items many in
    let picked : IsTrue (function c.and.new.self c.in_ok-moves.moves (valuation c.deref.result.now)) =
    subst (λ (d : Bits). IsTrue (function c.and.new.self c.in_ok-moves.moves (valuation d))) (sym same) (c.pick.ensures.found some.0 some.1) in
    (instant-is g form c.args.t.now.vars layout c.requires.field.layout c.args.left c.of_values.new.t c.and.new.self threat is c.in_ok-here.here c.in_ok-moves.moves r of_here c.in_ok-moves.ensures.ok c.deref.result.now picked c.vars.result c.vars.ensures.vars c.in_ok-values.values.items c.in_ok-values.ensures).1

pub returns-clause-leads : goal.returns-clause-leads
returns-clause-leads c =
    let g = game c.args.m.now in
    let form = game-form c.args.m.now c.vars.ensures.kept in
    let layout = c.args.field.now.layout in
    let p = place layout in
    let r = c.args.state.now in
    let threat = c.in_ok-threat.threat in
    let is = threat-keeps g p c.args.left c.threat_at.new.t c.of_values.new.t threat c.in_ok-here.ensures.keeps c.in_ok-threat.ensures.threat in
    let of_here : (v : Valued) → IsTrue (function c.of_values.new.t c.in_ok-here.here v) ↔ (states g (through p v) ≡ r) =
    λ v. subst (λ n. IsTrue (function c.of_values.new.t c.in_ok-here.here v) ↔ (read 0 n (through p v) ≡ r)) c.requires.state (c.in_ok-here.ensures.ok.are v) in
    let exactly : Exactly g (suc c.args.left) r = subst (λ n. Exactly g n r) (let e : c.args.left + 1 ≡ suc c.args.left = omega arith in e) c.requires.exactly in
    let some = some-here g form c.args.t.now.vars layout c.requires.field.layout c.args.left c.of_values.new.t c.and.new.self threat is c.in_ok-here.here c.in_ok-moves.moves r of_here c.in_ok-moves.ensures.ok c.requires.state exactly in
    let many : c.in_ok-placed.placed.len ≡ length c.pick.new.values = search rules in
    let same : c.deref.result.now ≡ c.pick.new.values = c.deref.ensures.value ∙ put-back c.in_ok-placed.placed.len c.pick.new.values c.in_ok-placed.placed.items many in
    let picked : IsTrue (function c.and.new.self c.in_ok-moves.moves (valuation c.deref.result.now)) =
    subst (λ (d : Bits). IsTrue (function c.and.new.self c.in_ok-moves.moves (valuation d))) (sym same) (c.pick.ensures.found some.0 some.1) in
    (instant-is g form c.args.t.now.vars layout c.requires.field.layout c.args.left c.of_values.new.t c.and.new.self threat is c.in_ok-here.here c.in_ok-moves.moves r of_here c.in_ok-moves.ensures.ok c.deref.result.now picked c.vars.result c.vars.ensures.vars c.in_ok-values.values.items c.in_ok-values.ensures).2

pub returns-clause-keeps : goal.returns-clause-keeps
returns-clause-keeps c =
    Keeps-trans _ _ _ (Keeps-trans _ _ _ (Keeps-trans _ _ _ c.in_ok-threat.ensures.keeps c.in_ok-here.ensures.keeps) c.and.ensures.keeps) c.in_ok-free.ensures.keeps
