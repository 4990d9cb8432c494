use Rattle.std.proofs.Common.{[], ◌∷◌, ◌++◌, map, codes, refl, ap, ◌∙◌}
use Rattle.hp_obctext.specs.Files.{each, type_words, machine_words}
use Rattle.hp_obctext.specs.Found.{text_known}
use Rattle.hp_obctext.specs.Words.{fixed, with_words, printed}
use Rattle.hp_obctext.proofs.Saying.{printed_in_turn, answered_as}
use Rattle.hp_obctext.proofs.print.text_of.Goals as goal

pub returns : goal.returns
returns c =
    let o = c.args.o.now in
    let types = each type_words o.types in
    let machines = each machine_words (map (text_known c.args.types.now) o.machines) in
    let text = c.machines-2.new.self ++ 10 ∷ [] in
    answered_as (λ t. t.items) text (printed (fixed (codes "obc") ∷ fixed (codes "1") ∷ types ++ machines)) c.ended.result c.ended.ensures
    (printed_in_turn c.in_ok-page.page c.fixed.new.self c.types-2.new.self c.machines-2.new.self text types machines
    c.in_ok-page.ensures c.in_ok-fixed.ensures (c.in_ok-types.ensures ∙ ap (λ ts. with_words c.fixed.new.self (each type_words ts)) c.types.ensures.types)
    (c.in_ok-machines.ensures ∙ ap (λ ms. with_words c.types-2.new.self (each machine_words (map (text_known c.args.types.now) ms))) c.machines.ensures.machines)
    refl)
