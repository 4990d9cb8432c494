use Rattle.std.proofs.Common.{◌++◌, [], ◌∷◌, sym, ap, ◌∙◌}
use Rattle.hp_automata.specs.NewNames.{dollar}
use Rattle.hp_automata.proofs.WordLaws.{signed-new}
use Rattle.hp_automata.proofs.new_names.signed.Goals as goal

pub returns : goal.returns
returns c =
    c.in_ok-push.ensures.items ∙ ap (λ b. b ++ dollar ∷ []) (c.in_ok-bytes.ensures.items ∙ c.head-2.ensures) ∙ sym (signed-new c.args.text.now (sym c.is_new.ensures ∙ c.if-is_new.false))
