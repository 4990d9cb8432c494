use Rattle.std.proofs.Common.{ℕ, List, Bor, ap, ◌∙◌, map}
use Rattle.hp_names.specs.Names.{with_name}
use Rattle.hp_names.proofs.NameLaws.{with_name-map}
use Rattle.hp_names.proofs.names.Names.add.Goals as goal

pub returns : goal.returns
returns c =
    let text : Bor (List ℕ) → List ℕ = λ k. k.now in
    ap (map text) c.in_ok-insert.ensures.keys ∙ with_name-map text c.self.inside.texts.keys c.bytes.result
    ∙ ap (λ names. with_name names c.bytes.result.now) c.self.view_is ∙ ap (with_name c.args.self.now) c.bytes.ensures.bytes
