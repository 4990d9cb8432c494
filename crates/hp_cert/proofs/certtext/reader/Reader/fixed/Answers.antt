use Rattle.std.proofs.Common.{◌≡◌, ◌∷◌, sym, ap, ◌∙◌, rules}
use Rattle.hp_cert.specs.Certtext.Pieces.{pieces}
use Rattle.hp_cert.specs.Certtext.Reading.{fixed}
use Rattle.hp_cert.proofs.CerttextLemmas.PieceLaws.{fixed_refused}
use Rattle.hp_cert.proofs.certtext.reader.Reader.fixed.Goals as goal

pub returns : goal.returns
returns c =
    let e : pieces c.self.inside.rest.now ≡ c.in-Some.piece.now ∷ pieces c.in-Some.behind.now = search rules in
    ap (fixed c.args.word.now) (sym c.self.view_is)
    ∙ fixed_refused c.args.word.now c.in-Some.piece.now c.self.inside.rest.now c.in-Some.behind.now c.stop_at-self-inside.result.now c.starts_with.result e (sym c.eq.ensures ∙ c.if-eq.false) c.starts_with.ensures.value
    c.stop_at-self-inside.ensures
