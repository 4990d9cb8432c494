-- What the makers of certificates answer, as what is found of a machine.
use Rattle.std.proofs.Common.{◌≡◌, ℕ, Bool, List, ◌∷◌, length, Option, Result, Ok, Err, IfOk, refl, sym, ap, ◌∙◌, subst}
use Rattle.hp_boolx.specs.Machine.{Machine, IsMachine, game, variables}
use Rattle.hp_boolx.specs.MachineView.{machine_seen}
use Rattle.hp_boolx.specs.declared.machine.BoolMachine.TheInside.{Inside}
use Rattle.hp_cert.specs.Checked.{Proves}
use Rattle.hp_cert.specs.declared.checking.Proved.{Proved}
use Rattle.hp_cert.specs.declared.checking.Proved.TheVariants as proved
use Rattle.hp_cert.specs.Certmade.Made as made
use Rattle.hp_cert.specs.Certtext.Certificates.{Certificate}
use Rattle.hp_cert.specs.declared.certtext.error.CertErr.{CertErr}
use Rattle.hp_control.specs.Controlling.{AreFunctions}
use Rattle.hp_diagram.specs.declared.reference.Ref.{Ref}
use Rattle.hp_diagram.specs.Diagrams.{Diagrams, IsReduced, Keeps}
use Rattle.hp_diagram.proofs.Choices.{Means-keeps}
use Rattle.hp_synth.specs.Building.{HasEach}
use Rattle.hp_synth.specs.Valued.{OfState}
use Rattle.hp_verdicts.specs.Found.{AreRanks, IsFound, IsOf, IsSafeSet}
use Rattle.hp_verdicts.specs.TheCertificate.{HasHead, said_widths}
use Rattle.hp_verdicts.proofs.LoseLaws.{lost_proves}
use Rattle.hp_verdicts.proofs.TheMade.{claim_verdict, lost_says, lost_the, won_says, won_the}
use Rattle.hp_verdicts.proofs.WinLaws.{won_proves}

module _ (m : Machine) (i : Inside) (view : machine_seen i ≡ m) (wide : Bool) (said : Option (List ℕ)) (said_is : said ≡ said_widths wide m) where
  head_of : (x : Certificate) → made.IsHeaded i.name i.counts said x → HasHead m wide x
  head_of x h = record {
    node = h.node_is ∙ ap (λ (n : Machine). n.name) view;
    registers = h.registers_are ∙ ap (λ (n : Machine). n.registers) view;
    early = h.early_are ∙ ap (λ (n : Machine). n.early) view;
    control = h.control_are ∙ ap (λ (n : Machine). n.control) view;
    late = h.late_are ∙ ap (λ (n : Machine). n.late) view;
    widths = h.widths_are ∙ said_is;
  }

  pub lost_answer : IsMachine m → (t : Diagrams) → t.vars ≡ variables m → IsReduced t → (ranks : List Ref) → AreRanks m t ranks → (r : Result Certificate CertErr)
      → IfOk r (made.IsHeaded i.name i.counts said) → IfOk r (λ x. made.IsLose x.claim) → IfOk r (made.IsOf t ranks) → IfOk r (IsOf m wide (proved.Lose (length ranks)))
  lost_answer is t vars reduced ranks are (Ok x) heading claim of =
      let head = head_of x heading in
      record {
        is_the = lost_the m is t vars reduced ranks are.0 are.1 are.2 wide x head claim of;
        says = lost_says t ranks x.lines x.claim claim of.functions;
        proves = lost_proves m is t vars reduced ranks are wide x head claim of;
      }
  lost_answer is t vars reduced ranks are (Err e) heading claim of = tt

  pub won_answer : IsMachine m → (old new : Diagrams) → variables m ≡ old.vars → Keeps old new → (inv : Ref) → IsSafeSet m old inv → (funs : List Ref) → HasEach new funs
      → AreFunctions (game m) new funs → (given : List Ref) → given ≡ funs → (r : Result Certificate CertErr)
      → IfOk r (made.IsHeaded i.name i.counts said) → IfOk r (λ x. made.IsWin x.claim) → IfOk r (made.IsOf new (inv ∷ given)) → IfOk r (IsOf m wide proved.Win)
  won_answer is old new fits keeps inv safe funs has are given same (Ok x) heading claim of =
      let head = head_of x heading in
      let means = Means-keeps old new keeps (OfState (game m) safe.0) inv safe.1 in
      let of_funs : made.IsOf new (inv ∷ funs) x = subst (λ (rs : List Ref). made.IsOf new (inv ∷ rs) x) same of in
      let vars : new.vars ≡ variables m = keeps.vars ∙ sym fits in
      record {
        is_the = won_the m is new vars keeps.reduced inv safe.0 means safe.2 funs has are wide x head claim of_funs;
        says = won_says x.claim claim;
        proves = won_proves m is new vars keeps.reduced inv safe.0 means safe.2 funs has are wide x head claim of_funs;
      }
  won_answer is old new fits keeps inv safe funs has are given same (Err e) heading claim of = tt

-- the certificate is one of what is found
pub found_of : (m : Machine) (wide : Bool) (p : Proved) (x : Certificate) → IsOf m wide p x → IsFound m wide x
found_of m wide p x is = record {
  is_of = record { is_the = is.is_the; says = refl; proves = subst (Proves m x) (sym is.says) is.proves };
  verdict = claim_verdict m x.lines x.claim (is.is_the).claim;
}

pub each_found : (m : Machine) (wide : Bool) (p : Proved) (r : Result Certificate CertErr) → IfOk r (IsOf m wide p) → IfOk r (IsFound m wide)
each_found m wide p (Ok x) is = found_of m wide p x is
each_found m wide p (Err e) is = tt
