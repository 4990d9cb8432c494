use Rattle.std.proofs.Common.{◌≡◌, ℕ, ◌+◌, length, ap, ◌∙◌, arith}
use Rattle.hp_base.specs.declared.limit.Limit.{Limit}
use Rattle.hp_base.specs.declared.limit.What.TheVariants as what
use Rattle.hp_cert.specs.Certtext.Texts.{cert_pieces, cert_text}
use Rattle.hp_cert.proofs.CerttextLemmas.WrittenLaws.{written_start}
use Rattle.hp_cert.proofs.certtext.write.write_cert.Goals as goal

pub returns-clause-text : goal.returns-clause-text
returns-clause-text c = c.text-text.ensures ∙ c.in_ok-cert.ensures ∙ written_start c.new-page.result (cert_pieces c.args.c.now) c.new-page.ensures

pub returns-then-len-limit-clause-refused : goal.returns-then-len-limit-clause-refused
returns-then-len-limit-clause-refused c =
    let e : c.text-text.result.items ≡ cert_text c.args.c.now = c.text-text.ensures ∙ c.in_ok-cert.ensures ∙ written_start c.new-page.result (cert_pieces c.args.c.now) c.new-page.ensures in
    let l = ap length e in
    let limit = c.most-limit.ensures in
    record { longer = omega (arith, l, limit); limit_is = ap (λ (n : ℕ). let r : Limit = record { what = what.Text; found = n + 1 } in r) limit }
