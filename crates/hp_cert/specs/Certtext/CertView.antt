-- What a certificate is seen as.
use Rattle.hp_cert.specs.declared.certtext.cert.Cert.TheInside.{Inside}
use Rattle.hp_cert.specs.declared.certtext.cert.CertKind.{CertKind}
use Rattle.hp_cert.specs.declared.certtext.cert.CertKind.TheVariants.{Win, Lose}
use Rattle.hp_cert.specs.Certtext.Certificates.{Claim, win, lose, Certificate}
use Rattle.std.specs.Prelude.{option_map}

abbrev pub claim_seen : CertKind → Claim
claim_seen (Win inv funs) = win inv funs.items
claim_seen (Lose ranks) = lose ranks.items

abbrev pub cert_seen : Inside → Certificate
cert_seen c = record {
  node = c.node;
  registers = c.counts.registers;
  early = c.counts.early;
  control = c.counts.control;
  late = c.counts.late;
  widths = option_map (λ ns. ns.items) c.widths;
  lines = c.lines.items;
  claim = claim_seen c.kind;
}
