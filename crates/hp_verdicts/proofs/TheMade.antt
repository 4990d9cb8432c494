-- What is made of a solver's answer is the certificate of the machine.
use Rattle.std.proofs.Common.{◌≡◌, ◌<◌, ◌+◌, ◌↔◌, ℕ, suc, Bool, false, IsTrue, List, [], ◌∷◌, length, map, slice_index_or, refl, sym, ap, ◌∙◌, subst, arith}
use Rattle.std.proofs.lemmas.List.{length-map}
use Rattle.std.proofs.lemmas.List.Elements.{All-cons}
use Rattle.std.specs.Prelude.{All}
use Rattle.hp_boolx.specs.Game.{Forced, IsState, Safe}
use Rattle.hp_boolx.specs.Machine.{IsMachine, Machine, game, variables}
use Rattle.hp_boolx.specs.Search.{Bits, Set}
use Rattle.hp_boolx.specs.Solved.{IsChoice, IsLose, IsWin}
use Rattle.hp_cert.specs.declared.checking.Proved.TheVariants as proved
use Rattle.hp_cert.specs.Certmade.Lines.{references}
use Rattle.hp_cert.specs.Certmade.Made as made
use Rattle.hp_cert.specs.Certtext.Certificates.{Certificate, Claim, lose, win}
use Rattle.hp_control.specs.Controlling.{AreFunctions}
use Rattle.hp_diagram.specs.declared.reference.Ref.{Ref}
use Rattle.hp_diagram.specs.Diagrams.{Diagrams, Has, IsReduced, Means, function}
use Rattle.hp_quant.specs.declared.line.Line.{Line}
use Rattle.hp_quant.specs.Lines.{line_function}
use Rattle.hp_synth.specs.Building.{HasEach, functions_at}
use Rattle.hp_synth.specs.Kept.{AllMean}
use Rattle.hp_synth.specs.Valued.{OfState, Valued, earlies, states}
use Rattle.hp_synth.proofs.Ranges.{read-len}
use Rattle.hp_synth.proofs.SoughtLaws.{all-has, all-len}
use Rattle.hp_verdicts.specs.Canonical.{AreCanonical}
use Rattle.hp_verdicts.specs.Decided.{IsVerdict, verdict_of}
use Rattle.hp_verdicts.specs.TheCertificate.{AreChoice, AreForcedFrom, HasHead, IsClaimOf, IsSetOf, IsTheCertificate}
use Rattle.hp_verdicts.proofs.CanonicalMade.{made_canonical}
use Rattle.hp_verdicts.proofs.LoseLaws.{as_many, first_function, other_functions}

-- no state
abbrev none : Set
none = λ s. false

exact_at : (m : Machine) (k n : ℕ) (X : Set) (s : Bits) → n ≡ k → IsTrue (X s) ↔ Forced (game m) n s → IsTrue (X s) ↔ Forced (game m) k s
exact_at m k n X s same e = subst (λ i. IsTrue (X s) ↔ Forced (game m) i s) same e

module _ (m : Machine) (t : Diagrams) (lines : List Line) where
  -- a set of a table, of the states of a kind
  set_of_kind : (P : Bits → Type 0) (X : Set) (r : Ref) (n : ℕ) → Means t (OfState (game m) X) r → ((v : Valued) → line_function lines n v ≡ function t r v)
      → ((s : Bits) → IsState (game m) s → IsTrue (X s) ↔ P s) → IsSetOf (game m) lines P n
  set_of_kind P X r n means same exact v =
      let is : line_function lines n v ≡ X (states (game m) v) = same v ∙ means.value v in
      let at = exact (states (game m) v) (read-len 0 m.registers v) in
      (λ h. at.0 (sym is ∙ h), λ h. is ∙ at.1 h)

  -- ---- the choice

  values_same : (funs : List Ref) (v : Valued) → functions_at t funs v ≡ map (λ r. function t r v) funs
  values_same [] v = refl
  values_same (f ∷ funs) v = ap (λ (bs : Bits). function t f v ∷ bs) (values_same funs v)

  choice_kept : (funs : List Ref) (ns : List ℕ) → AreFunctions (game m) t funs → made.HaveFunctions t funs lines ns → AreChoice (game m) lines ns
  choice_kept funs ns are have v = subst (λ (bs : Bits). IsChoice (game m) (states (game m) v) (earlies (game m) v) bs) (values_same funs v ∙ sym (have v)) (are v)

  -- ---- ranks

  -- each set is of the states from which a violation is forced within so many instants, within one more, and so on
  abbrev AreExact : ℕ → List Set → Type 0
  AreExact k Xs = (j : ℕ) → j < length Xs → (s : Bits) → IsState (game m) s → IsTrue (slice_index_or Xs j none s) ↔ Forced (game m) (k + j) s

  ranks_kept : (k : ℕ) (Xs : List Set) (ranks : List Ref) (ns : List ℕ) → AllMean t (map (OfState (game m)) Xs) ranks → made.HaveFunctions t ranks lines ns → AreExact k Xs → AreForcedFrom (game m) lines k ns
  ranks_kept k [] [] [] mean have exact = tt
  ranks_kept k [] [] (n ∷ ns) mean have exact = let len = as_many t lines [] (n ∷ ns) have in absurd (omega (arith, len))
  ranks_kept k [] (r ∷ ranks) ns mean have exact = absurd mean
  ranks_kept k (X ∷ Xs) [] ns mean have exact = absurd mean
  ranks_kept k (X ∷ Xs) (r ∷ ranks) [] mean have exact = let len = as_many t lines (r ∷ ranks) [] have in absurd (omega (arith, len))
  ranks_kept k (X ∷ Xs) (r ∷ ranks) (n ∷ ns) mean have exact = (
    set_of_kind (Forced (game m) k) X r n mean.0 (first_function t lines r ranks n ns have) (λ s state. exact_at m k (k + 0) X s (omega arith) (exact 0 (omega arith) s state)),
    ranks_kept (suc k) Xs ranks ns mean.1 (other_functions t lines r ranks n ns have)
        (λ j less s state. exact_at m (suc k + j) (k + suc j) (slice_index_or Xs j none) s (omega arith) (exact (suc j) (omega (arith, less)) s state)),
  )

-- ---- certificates

module _ (m : Machine) (is_machine : IsMachine m) (t : Diagrams) (vars : t.vars ≡ variables m) (reduced : IsReduced t) where
  canonical : (roots : List Ref) → All (Has t) roots → (c : Certificate) → made.IsOf t roots c → AreCanonical (variables m) c.lines (references c.claim)
  canonical roots has c of = subst (λ n. AreCanonical n c.lines (references c.claim)) vars (made_canonical t reduced roots has c.lines (references c.claim) of.made)

  module _ (inv : Ref) (X : Set) (means : Means t (OfState (game m) X) inv) (is_win : IsWin (game m) X) (funs : List Ref) (has_funs : HasEach t funs) (are : AreFunctions (game m) t funs) where
    won_claim : (lines : List Line) (q : Claim) → made.IsWin q → made.HaveFunctions t (inv ∷ funs) lines (references q) → IsClaimOf (game m) lines q
    won_claim lines (win n ns) is have = (
      is_win.init,
      set_of_kind m t lines (Safe (game m)) X inv n means (first_function t lines inv funs n ns have) is_win.exact,
      choice_kept m t lines funs ns are (other_functions t lines inv funs n ns have),
    )
    won_claim lines (lose ns) is have = absurd is

    -- of a set of safe states, and the functions of a controller
    pub won_the : (wide : Bool) (c : Certificate) → HasHead m wide c → made.IsWin c.claim → made.IsOf t (inv ∷ funs) c → IsTheCertificate m wide c
    won_the wide c head is of = record {
      form = is_machine;
      head = head;
      claim = won_claim c.lines c.claim is of.functions;
      lines = canonical (inv ∷ funs) (All-cons (Has t) inv funs means.has has_funs) c of;
    }

  module _ (ranks : List Ref) (Xs : List Set) (mean : AllMean t (map (OfState (game m)) Xs) ranks) (is_lose : IsLose (game m) Xs) where
    lost_claim : (lines : List Line) (q : Claim) → made.IsLose q → made.HaveFunctions t ranks lines (references q) → IsClaimOf (game m) lines q
    lost_claim lines (win n ns) is have = absurd is
    lost_claim lines (lose ns) is have =
        let many = as_many t lines ranks ns have in
        let sets = all-len t (map (OfState (game m)) Xs) ranks mean in
        let mapped = length-map Xs (OfState (game m)) in
        let count : length Xs ≡ length ns = omega (arith, many, sets, mapped) in (
          record { forced = subst (λ n. Forced (game m) n m.init) count is_lose.init; least = λ fewer forced. (let least = is_lose.least fewer forced in omega (arith, least, count)) },
          ranks_kept m t lines 1 Xs ranks ns mean have (λ j less s state. exact_at m (1 + j) (suc j) (slice_index_or Xs j none) s (omega arith) (is_lose.exact (suc j) (omega (arith, less)) s state)),
        )

    -- of the states from which a violation is forced in one instant, in two, and so on
    pub lost_the : (wide : Bool) (c : Certificate) → HasHead m wide c → made.IsLose c.claim → made.IsOf t ranks c → IsTheCertificate m wide c
    lost_the wide c head is of = record {
      form = is_machine;
      head = head;
      claim = lost_claim c.lines c.claim is of.functions;
      lines = canonical ranks (all-has t (map (OfState (game m)) Xs) ranks mean) c of;
    }

-- ---- verdicts

pub won_says : (q : Claim) → made.IsWin q → verdict_of q ≡ proved.Win
won_says (win inv funs) is = refl
won_says (lose ranks) is = absurd is

pub lost_says : (t : Diagrams) (ranks : List Ref) (lines : List Line) (q : Claim) → made.IsLose q → made.HaveFunctions t ranks lines (references q) → verdict_of q ≡ proved.Lose (length ranks)
lost_says t ranks lines (win inv funs) is have = absurd is
lost_says t ranks lines (lose ns) is have = ap proved.Lose (as_many t lines ranks ns have)

-- what the certificate claims is the verdict on the machine
pub claim_verdict : (m : Machine) (lines : List Line) (q : Claim) → IsClaimOf (game m) lines q → IsVerdict m (verdict_of q)
claim_verdict m lines (win inv funs) is = is.0
claim_verdict m lines (lose ranks) is = is.0
