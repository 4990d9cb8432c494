use Rattle.std.proofs.Common.{◌≡◌, ◌-◌, length, Ok, Err, inl, sym, ap, ◌∙◌, arith}
use Rattle.hp_cert.specs.declared.certtext.error.CertErr.TheVariants as error
use Rattle.hp_cert.specs.Certtext.Outcomes.{refused}
use Rattle.hp_cert.specs.Certtext.Pieces.{pieces}
use Rattle.hp_cert.specs.Certtext.Reading as reading
use Rattle.hp_cert.proofs.CerttextLemmas.Answering.{cert_of, refused_at, rest_within, not_refused, same_cert, one_refusal, no_cert}
use Rattle.hp_cert.proofs.certtext.read.parsed.Goals as goal

pub overflow_sub-at : goal.overflow_sub-at
overflow_sub-at c =
    let stopped = rw c.in-Err-Refused.field-0-is at c.in-Err-Refused.ensures in
    let read : reading.cert (pieces c.args.text.now) ≡ refused c.cert.new.self = ap reading.cert (sym c.new-reader.ensures) ∙ stopped in
    let within = rest_within c.args.text.now c.cert.new.self read in
    let bytes = c.bytes.ensures in
    omega (arith, within, bytes)

pub returns-in-Ok-clause-cert : goal.returns-in-Ok-clause-cert
returns-in-Ok-clause-cert c = cert_of c.args.text.now c.in-Ok.cert c.cert.new.self (ap reading.cert (sym c.new-reader.ensures) ∙ c.in-Ok.ensures)

pub returns-in-Ok-clause-read : goal.returns-in-Ok-clause-read
returns-in-Ok-clause-read c = λ b h. inl (ap Ok (same_cert c.args.text.now b c.in-Ok.cert c.cert.new.self c.requires h (ap reading.cert (sym c.new-reader.ensures) ∙ c.in-Ok.ensures)))

pub returns-in-Ok-clause-syntax : goal.returns-in-Ok-clause-syntax
returns-in-Ok-clause-syntax c = λ span r. absurd (no_cert c.args.text.now span c.in-Ok.cert r c.requires (cert_of c.args.text.now c.in-Ok.cert c.cert.new.self (ap reading.cert (sym c.new-reader.ensures) ∙ c.in-Ok.ensures)))

pub returns-in-Err-Refused-clause-refused : goal.returns-in-Err-Refused-clause-refused
returns-in-Err-Refused-clause-refused c =
    let stopped = rw c.in-Err-Refused.field-0-is at c.in-Err-Refused.ensures in
    let text = c.args.text.now in
    let at = length text - c.bytes.result in
    refused_at text c.cert.new.self at c.place_at.result c.requires (ap reading.cert (sym c.new-reader.ensures) ∙ stopped) (ap (λ n. length text - n) c.bytes.ensures) c.place_at.ensures

pub returns-in-Err-Refused-clause-read : goal.returns-in-Err-Refused-clause-read
returns-in-Err-Refused-clause-read c = λ b h.
    let stopped = rw c.in-Err-Refused.field-0-is at c.in-Err-Refused.ensures in
    absurd (not_refused c.args.text.now b c.cert.new.self c.requires h (ap reading.cert (sym c.new-reader.ensures) ∙ stopped))

pub returns-in-Err-Refused-clause-syntax : goal.returns-in-Err-Refused-clause-syntax
returns-in-Err-Refused-clause-syntax c = λ span r. inl (ap (λ s. Err (error.Syntax s)) (one_refusal c.args.text.now c.place_at.result span (returns-in-Err-Refused-clause-refused c) r))
