-- Certificates of machines are determined.
use Rattle.std.specs.Prelude.{◌≡◌, ℕ, Bool, IsTrue, List, Some, map}
use Rattle.hp_boolx.specs.Machine.{Machine}
use Rattle.hp_cert.specs.declared.checking.Proved.{Proved}
use Rattle.hp_cert.specs.Certtext.Certificates.{Certificate}
use Rattle.hp_cert.specs.declared.certtext.error.CertErr.{CertErr}
use Rattle.hp_cert.specs.declared.certtext.error.CertErr.TheVariants as certificate
use Rattle.hp_obc.specs.Form.{is_name}
use Rattle.hp_quant.specs.declared.line.Line.{Line}
use Rattle.hp_quant.specs.Lines.{line_function}
use Rattle.hp_verdicts.specs.Canonical.{AreCanonical}
use Rattle.hp_tree.specs.declared.program.Item.{Item}
use Rattle.hp_tree.specs.Programs.{Node}
use Rattle.hp_verdicts.specs.Decided.{IsCertified, IsLong, IsProof, IsShownForced, RefusesProof, verdict_of}
use Rattle.hp_verdicts.specs.TheCertificate.{IsTheCertificate}
use Rattle.hp_verdicts.specs.Verified.{RefusesCert, Shows}
use Rattle.hp_verdicts.specs.declared.error.ContractErr.TheVariants as error

-- Canonical lines of the same functions are the same lines, and so are the references to them.
abbrev pub LinesLaw : Type 0
LinesLaw =
    (vars : ℕ) (lines others : List Line) (refs numbers : List ℕ) → AreCanonical vars lines refs → AreCanonical vars others numbers
    → ((v : ℕ → Bool) → map (λ n. line_function lines n v) refs ≡ map (λ n. line_function others n v) numbers) → (lines ≡ others) × (refs ≡ numbers)

-- A machine has no two certificates.
abbrev pub CertificateLaw : Type 0
CertificateLaw = (m : Machine) (wide : Bool) (c d : Certificate) → IsTheCertificate m wide c → IsTheCertificate m wide d → c ≡ d

-- So its text is one,
abbrev pub TextLaw : Type 0
TextLaw = (m : Machine) (wide : Bool) (text other : List ℕ) → IsCertified m wide text → IsCertified m wide other → text ≡ other

-- and there is none where that of the certificate is too long.
abbrev pub LongLaw : Type 0
LongLaw = (m : Machine) (wide : Bool) (text : List ℕ) → IsCertified m wide text → IsLong m wide → ⊥

-- The machines of a node have one game, whichever gates they have. So of a node, too, there are no two texts,
abbrev pub NodeTextLaw : Type 0
NodeTextLaw = (program : List Item) (n : Node) (text other : List ℕ) → IsProof program n text → IsProof program n other → text ≡ other

-- none where that of its certificate is too long,
abbrev pub NodeLongLaw : Type 0
NodeLongLaw = (program : List Item) (n : Node) (text : List ℕ) → IsProof program n text → RefusesProof program n error.TooLong → ⊥

-- and of a contract that is lost the text is the same.
abbrev pub NodeLossLaw : Type 0
NodeLossLaw = (program : List Item) (n : Node) (text other : List ℕ) (instants : ℕ) → IsProof program n text → IsShownForced program n instants (Some other) → text ≡ other

-- And what shows something of its contract is not refused.
abbrev pub NodeShownLaw : Type 0
NodeShownLaw = (program : List Item) (n : Node) (text : List ℕ) (p : Proved) (e : CertErr) → Shows program n text p → RefusesCert program n text e → e ≡ certificate.OutOfMemory

-- What is written of a node, of which a text can say the name, shows its verdict. So it is verified.
abbrev pub NodeWrittenLaw : Type 0
NodeWrittenLaw = (program : List Item) (n : Node) (text : List ℕ) → IsTrue (is_name n.name) → (proof : IsProof program n text) → Shows program n text (verdict_of proof.certified.certificate.claim)
