use Rattle.std.proofs.Common.{◌≡◌, ◌∷◌, ◌||◌, sym, ap, ◌∙◌, rules}
use Rattle.std.specs.Prelude.{nat_eq}
use Rattle.std.specs.List.{starts_with}
use Rattle.hp_cert.specs.Certtext.Pieces.{pieces}
use Rattle.hp_cert.specs.Certtext.Reading.{either}
use Rattle.hp_cert.proofs.CerttextLemmas.PieceLaws.{either_refused, or_then, or_else}
use Rattle.hp_cert.proofs.certtext.reader.Reader.either.Goals as goal
use Rattle.hp_cert.proofs.certtext.reader.Reader.either.Goals.{then-starts_with, else-starts_with}

pub returns-clause-read : goal.returns-clause-read
returns-clause-read c =
    let e : pieces c.self.inside.rest.now ≡ c.in-Some.piece.now ∷ pieces c.in-Some.behind.now = search rules in
    let word = c.args.word.now in
    let other = c.args.other.now in
    let w = c.in-Some.piece.now in
    let on : c.if-starts_with.on ≡ (starts_with nat_eq word w || starts_with nat_eq other w) =
    elim c.if-starts_with.branch [
      | then-starts_with b ↦ or_then c.if-starts_with.on c.starts_with.result (starts_with nat_eq word w) (starts_with nat_eq other w) b.on-is b.if-starts_with.true c.starts_with.ensures.value
      | else-starts_with b ↦ or_else c.if-starts_with.on c.starts_with.result b.starts_with-on.result (starts_with nat_eq word w) (starts_with nat_eq other w) b.on-is b.if-starts_with.false c.starts_with.ensures.value b.starts_with-on.ensures.value
    ] in
    ap (either word other) (sym c.self.view_is)
    ∙ either_refused word other w c.self.inside.rest.now c.in-Some.behind.now c.stop_at-self-inside.result.now c.if-starts_with.on e (sym c.eq.ensures ∙ c.if-eq.false) (sym c.eq-2.ensures ∙ c.if-eq-2.false) on c.stop_at-self-inside.ensures
