use Rattle.std.proofs.Common.{length, ap, sym, ◌∙◌}
use Rattle.hp_cert.specs.Certtext.Pieces.{joined}
use Rattle.hp_cert.proofs.CerttextLemmas.Joined.{joined_pieces}
use Rattle.hp_cert.proofs.certtext.reader.Reader.bytes.Goals as goal

pub returns : goal.returns
returns c = let e = joined_pieces c.self.inside.rest.now in let v = c.self.view_is in ap length (sym e) ∙ ap (λ z. length (joined z)) v
