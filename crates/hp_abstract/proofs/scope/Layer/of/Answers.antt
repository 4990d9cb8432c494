use Rattle.std.proofs.Common.{◌≡◌, None, Some, sym, ap, ◌∙◌}
use Rattle.std.specs.Map.{lookup}
use Rattle.std.specs.Option.{option_copied}
use Rattle.std.specs.Str.{bytes_eq}
use Rattle.hp_abstract.specs.Seen.{layer_of}
use Rattle.hp_abstract.proofs.ScopeLaws.{entry-looked_up}
use Rattle.hp_abstract.proofs.scope.Layer.of.Goals as goal

pub returns-in-None : goal.returns-in-None
unfolding layer_of
returns-in-None c =
    let entries = c.args.self.now.names.entries in
    let name = c.args.name.now in
    let e : None ≡ lookup (λ k. bytes_eq name k.now) entries = sym (ap option_copied c.in-None.is) ∙ c.get.ensures.value in
    e ∙ entry-looked_up name entries

pub returns-in-Some : goal.returns-in-Some
unfolding layer_of
returns-in-Some c =
    let entries = c.args.self.now.names.entries in
    let name = c.args.name.now in
    let e : Some c.in-Some.entry.now ≡ lookup (λ k. bytes_eq name k.now) entries = sym (ap option_copied c.in-Some.is) ∙ c.get.ensures.value in
    e ∙ entry-looked_up name entries
