use Rattle.std.proofs.Common.{◌+◌, drop, ap, sym, ◌∙◌}
use Rattle.hp_obctext.specs.Breaches.{after}
use Rattle.hp_obctext.specs.NamesView.{types_seen}
use Rattle.hp_obctext.specs.Rules.{in_types, with_types, with_type}
use Rattle.hp_obctext.proofs.CheckLaws.{types-next, with_types-next}
use Rattle.hp_obctext.proofs.check.check_types.Goals as goal

pub loop-ty-preserved : goal.loop-ty-preserved
loop-ty-preserved c =
    let i = c.loop-ty.ty-index in
    let rest = drop (i + 1) c.args.types.now in
    let ts = types_seen c.loop-ty.known in
    record {
      found = ap (λ ts. after c.check_type.new.found (in_types ts rest)) c.in_ok-check_type.ensures.types
          ∙ ap (λ f. after f (in_types (with_type ts c.ty-item.result) rest)) c.in_ok-check_type.ensures.found
          ∙ sym (types-next c.loop-ty.found ts c.args.types.now i c.ty-item.result c.loop-ty-test.true c.ty-item.is) ∙ c.loop-ty.invariant.found;
      known = ap (λ ts. with_types ts rest) c.in_ok-check_type.ensures.types ∙ sym (with_types-next ts c.args.types.now i c.ty-item.result c.loop-ty-test.true c.ty-item.is) ∙ c.loop-ty.invariant.known;
    }
