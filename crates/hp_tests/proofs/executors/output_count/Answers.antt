use Rattle.std.proofs.Common.{length, sym, ap, ◌∙◌}
use Rattle.std.proofs.lemmas.List.{length-map}
use Rattle.hp_base.specs.Kinds.{SignatureData}
use Rattle.hp_base.specs.SignatureView.{port_seen}
use Rattle.hp_tests.proofs.executors.output_count.Goals as goal

pub returns : goal.returns
returns c =
    c.len.ensures ∙ c.signature.inside.outputs.ok.0 ∙ sym (length-map c.signature.inside.outputs.items port_seen)
    ∙ ap (λ (s : SignatureData). length s.outputs) (c.signature.view_is ∙ c.signature-signature.ensures)
