use Rattle.std.proofs.Common.{length, sym, ap, ◌∙◌}
use Rattle.std.proofs.lemmas.List.{length-map}
use Rattle.hp_base.specs.Kinds.{SignatureData}
use Rattle.hp_base.specs.SignatureView.{port_seen}
use Rattle.hp_tests.proofs.executors.input_count.Goals as goal

pub returns : goal.returns
returns c =
    c.len.ensures ∙ c.signature.inside.inputs.ok.0 ∙ sym (length-map c.signature.inside.inputs.items port_seen)
    ∙ ap (λ (s : SignatureData). length s.inputs) (c.signature.view_is ∙ c.signature-signature.ensures)
