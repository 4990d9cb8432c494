use Rattle.std.proofs.Common.{◌≡◌, ◌==◌, not, count_by, ap, ◌∙◌}
use Rattle.std.specs.List.{suffix_len}
use Rattle.hp_cert.specs.Certtext.Pieces.{pieces, joined}
use Rattle.hp_cert.specs.Certtext.Refusals.{first_length}
use Rattle.hp_cert.proofs.CerttextLemmas.PieceLaws.{front_is, rest_is}
use Rattle.hp_cert.proofs.certtext.place.place_at.Goals as goal

pub returns : goal.returns
returns c = λ front rest e k.
    let text = c.args.text.now in
    let f : c.split_at.result.0.now ≡ joined front = c.split_at.ensures.front ∙ front_is text c.args.at front rest e k in
    let r : pieces c.split_at.result.1.now ≡ rest = ap pieces c.split_at.ensures.back ∙ rest_is text c.args.at front rest e k in
    let lines : c.newlines.result ≡ count_by (λ b. b == 10) (joined front) = c.newlines.ensures.count ∙ ap (count_by (λ b. b == 10)) f in
    let cols : c.last_line.result ≡ suffix_len (λ b. not (b == 10)) (joined front) = c.last_line.ensures.length ∙ ap (suffix_len (λ b. not (b == 10))) f in
    let size : c.first_length.result ≡ first_length rest = c.first_length.ensures.length ∙ ap first_length r in
    cc
