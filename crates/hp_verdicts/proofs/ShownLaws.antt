-- What shows something of a node's contract is not refused, whichever machine of the node it is held against.
use Rattle.std.proofs.Common.{◌≡◌, ◌+◌, ◌<◌, ◌≤◌, ℕ, suc, IsTrue, IsFalse, ◌⊎◌, List, [], length, map, All, Option, None, Some, refl, ap, subst, ◌∙◌, arith}
use Rattle.hp_base.specs.Limits.{most}
use Rattle.hp_base.specs.declared.limit.What.TheVariants.{Text}
use Rattle.hp_boolx.specs.Game.{Game, joined, IsState, ValidEarly, ValidChoice, ValidLate}
use Rattle.hp_boolx.specs.Machine.{Machine}
use Rattle.hp_boolx.specs.Search.{Bits}
use Rattle.hp_boolx.specs.Solved.{rank}
use Rattle.hp_cert.specs.Checked.{Proves, Shows as ShowsClaim}
use Rattle.hp_cert.specs.Proving.{set_of, functions_of, ReadsBelow, HoldsAt, HasWidths, HasCount, InScope}
use Rattle.hp_cert.specs.declared.checking.Proved.{Proved}
use Rattle.hp_cert.specs.declared.checking.Proved.TheVariants as proved
use Rattle.hp_cert.proofs.CheckLaws.{not_refused}
use Rattle.hp_cert.specs.Certtext.Certificates.{Certificate, Claim, win, lose}
use Rattle.hp_cert.specs.Certtext.Texts.{IsCertText}
use Rattle.hp_cert.specs.declared.certtext.error.CertErr.{CertErr}
use Rattle.hp_cert.specs.declared.certtext.error.CertErr.TheVariants as error
use Rattle.hp_cert.proofs.CerttextLemmas.Answering.{cert_read, no_cert, same_cert}
use Rattle.hp_quant.specs.declared.line.Line.{Line}
use Rattle.hp_verdicts.specs.Laws.{NodeShownLaw}
use Rattle.hp_verdicts.specs.Verified.{IsChecked, IsUnproved, RefusesBy}
use Rattle.hp_verdicts.proofs.OneMachine.{AreOne, node_machine}

-- ---- in words of a game

-- what a claim keeps, and what a rank forces
abbrev KeepsIn : List Line → ℕ → List ℕ → Game → Type 0
KeepsIn lines inv funs g =
    (r u : Bits) → IsState g r → IsTrue (set_of lines inv r) → ValidEarly g r u
    → ValidChoice g r u (functions_of lines funs r u)
    × ((w : Bits) → ValidLate g r u (functions_of lines funs r u) w → IsTrue (g.hyp (joined r u (functions_of lines funs r u) w))
    → IsTrue (g.duty (joined r u (functions_of lines funs r u) w)) × IsTrue (set_of lines inv (g.next (joined r u (functions_of lines funs r u) w))))

abbrev ForcesIn : List Line → List ℕ → Game → Type 0
ForcesIn lines ranks g =
    (k : ℕ) → k < length ranks → (r : Bits) → IsState g r → IsTrue (rank (map (set_of lines) ranks) (suc k) r)
    → (u : Bits) × ValidEarly g r u × ((v : Bits) → ValidChoice g r u v → (w : Bits) × ValidLate g r u v w × IsTrue (g.hyp (joined r u v w)) × (IsFalse (g.duty (joined r u v w)) ⊎ IsTrue (rank (map (set_of lines) ranks) k (g.next (joined r u v w)))))

-- ---- what is proved of a machine is proved of another with its name, its widths and its game

module _ (m other : Machine) (c : Certificate) (one : AreOne m other) where
  widths_moved : (o : Option (List ℕ)) → HasWidths m c o → HasWidths other c o
  widths_moved None h = h
  widths_moved (Some ws) h = h ∙ one.widths

  count_moved : (k : Claim) → HasCount m c k → HasCount other c k
  count_moved (win inv funs) h = h ∙ ap (λ (g : Game). g.control) one.one_game
  count_moved (lose ranks) h = h

  scope_moved : (k : Claim) → InScope m c k → InScope other c k
  scope_moved (win inv funs) h =
      (subst (λ (g : Game). ReadsBelow c.lines g.registers inv) one.one_game h.0, subst (λ (g : Game). All (ReadsBelow c.lines (g.registers + g.early)) funs) one.one_game h.1)
  scope_moved (lose ranks) h = subst (λ (g : Game). All (ReadsBelow c.lines g.registers) ranks) one.one_game h

  shows_moved : (k : Claim) (p : Proved) → ShowsClaim m c k p → ShowsClaim other c k p
  shows_moved (win inv funs) proved.Win h = subst (KeepsIn c.lines inv funs) one.one_game h
  shows_moved (win inv funs) (proved.Lose n) h = h
  shows_moved (lose ranks) proved.Win h = h
  shows_moved (lose ranks) (proved.Lose n) h = (h.0, subst (ForcesIn c.lines ranks) one.one_game h.1)

  pub proves_moved : (p : Proved) → Proves m c p → Proves other c p
  proves_moved p h =
      let same = one.one_game in
      let fits = h.fits in
      let vars = fits.vars in
      record {
        fits =
            record {
              name = fits.name ∙ one.name;
              vars =
                  record {
                    registers = vars.registers ∙ ap (λ (g : Game). g.registers) same;
                    early = vars.early ∙ ap (λ (g : Game). g.early) same;
                    control = vars.control ∙ ap (λ (g : Game). g.control) same;
                    late = vars.late ∙ ap (λ (g : Game). g.late) same;
                    widths = widths_moved c.widths vars.widths;
                    lines = subst (λ (g : Game). All (λ (l : Line). l.var < g.registers + g.early + g.control + g.late) c.lines) same vars.lines;
                  };
              count = count_moved c.claim fits.count;
              scope = scope_moved c.claim fits.scope;
            };
        first = subst (λ (g : Game). HoldsAt c.lines g.init c.claim) same h.first;
        shows = shows_moved c.claim p h.shows;
      }

-- ---- texts

-- a text says one certificate
text_one : (text : List ℕ) (c d : Certificate) → length text ≤ most Text → IsCertText text c → IsCertText text d → d ≡ c
text_one text c d within of_c of_d = same_cert text c d [] within of_c (cert_read text d within of_d)

module _ (m other : Machine) (text : List ℕ) (p : Proved) (one : AreOne m other) (checked : IsChecked m text p) where
  -- the certificate that is said is not refused
  unproved : (e : CertErr) → IsUnproved other text e → e ≡ error.OutOfMemory
  unproved e u =
      let same = text_one text u.certificate checked.certificate u.within u.reads checked.reads in
      let proves = proves_moved m other checked.certificate one p checked.proves in
      not_refused other u.certificate p e (subst (λ d. Proves other d p) same proves) u.refused

  shown : (e : CertErr) → RefusesBy other text e → e ≡ error.OutOfMemory
  shown (error.Limit limit) long = let longer = long.longer in let within = checked.within in absurd (omega (arith, longer, within))
  shown (error.Syntax span) refused = absurd (no_cert text span checked.certificate refused checked.within checked.reads)
  shown (error.Misfit misfit) u = unproved (error.Misfit misfit) u
  shown (error.Fails test) u = unproved (error.Fails test) u
  shown error.OutOfMemory u = refl

pub node_shown : NodeShownLaw
node_shown program n text p e shows refuses =
    let a = shows.has in
    let b = refuses.has in
    shown a.machine b.machine text p (node_machine program n a.machine b.machine a.is_machine b.is_machine) shows.checked e refuses.refused
