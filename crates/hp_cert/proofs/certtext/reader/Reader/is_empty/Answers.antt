use Rattle.std.proofs.Common.{◌==◌, length, ap, ◌∙◌}
use Rattle.hp_cert.proofs.CerttextLemmas.PieceLaws.{no_pieces}
use Rattle.hp_cert.proofs.certtext.reader.Reader.is_empty.Goals as goal

pub returns : goal.returns
returns c = c.is_empty.ensures ∙ no_pieces c.self.inside.rest.now ∙ ap (λ z. length z == 0) c.self.view_is
