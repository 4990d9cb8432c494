use Rattle.std.proofs.Common.{ℕ, List, Bor, ap, ◌∙◌}
use Rattle.std.specs.Option.{option_map}
use Rattle.hp_base.specs.Known.Known.{lookup}
use Rattle.hp_base.proofs.KnownLemmas.KnownLaws.{lookup-map}
use Rattle.hp_form.proofs.numbers.Numbers.get.Goals as goal

pub returns-in-Some : goal.returns-in-Some
returns-in-Some c =
    let text : Bor (List ℕ) → List ℕ = λ k. k.now in
    let value : ℕ → ℕ = λ n. n in
    ap (option_map value) c.in-Some.ensures.value ∙ lookup-map text value c.self.inside.entries.entries c.bytes.result.now
    ∙ ap (λ es. lookup es c.bytes.result.now) c.self.view_is ∙ ap (lookup c.args.self.now) c.bytes.ensures.bytes

pub returns-in-None : goal.returns-in-None
returns-in-None c =
    let text : Bor (List ℕ) → List ℕ = λ k. k.now in
    let value : ℕ → ℕ = λ n. n in
    ap (option_map value) c.in-None.ensures.value ∙ lookup-map text value c.self.inside.entries.entries c.bytes.result.now
    ∙ ap (λ es. lookup es c.bytes.result.now) c.self.view_is ∙ ap (lookup c.args.self.now) c.bytes.ensures.bytes
