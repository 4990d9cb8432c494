use Rattle.std.proofs.Common.{ℕ, List, Bor, ap, ◌∙◌}
use Rattle.hp_names.specs.Names.{has}
use Rattle.hp_names.proofs.NameLaws.{has-map}
use Rattle.hp_names.proofs.names.Names.has.Goals as goal

pub returns : goal.returns
returns c =
    let text : Bor (List ℕ) → List ℕ = λ k. k.now in
    c.contains.ensures ∙ has-map text c.self.inside.texts.keys c.bytes.result.now
    ∙ ap (λ names. has names c.bytes.result.now) c.self.view_is ∙ ap (has c.args.self.now) c.bytes.ensures.bytes
