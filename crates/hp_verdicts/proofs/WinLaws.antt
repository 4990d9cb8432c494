-- The certificate that nothing is forced, made of the safe states and the functions of a controller, proves it.
use Rattle.std.proofs.Common.{◌≡◌, ℕ, suc, ◌+◌, ◌<◌, Bool, false, List, [], ◌∷◌, ◌++◌, length, drop, All, get_or, slice_index_or, refl, sym, ap, ap₂, ◌∙◌, subst, arith}
use Rattle.std.proofs.lemmas.List.Elements.{All-cons, All-nil}
use Rattle.hp_boolx.specs.Game.{Game, IsForm, IsState}
use Rattle.hp_boolx.specs.Machine.{Machine, IsMachine, game, variables}
use Rattle.hp_boolx.specs.Search.{Bits, Set}
use Rattle.hp_boolx.specs.Solved.{IsChoice, IsWin, IsWinCertificate}
use Rattle.hp_boolx.proofs.GateLaws.{game-form}
use Rattle.hp_boolx.proofs.SolvedLaws.{certificate-win, choice-one}
use Rattle.hp_cert.specs.Checked.{Proves, Shows}
use Rattle.hp_cert.specs.Proving.{HasCount, HoldsAtFirst, InScope, ReadsBelow, functions_of, set_of}
use Rattle.hp_cert.specs.declared.checking.Proved.TheVariants as proved
use Rattle.hp_cert.specs.Certmade.Lines.{AreMade, references}
use Rattle.hp_cert.specs.Certmade.Made as made
use Rattle.hp_cert.proofs.CertmadeLemmas.FunctionLaws.{visited}
use Rattle.hp_cert.specs.Certtext.Certificates.{Certificate, Claim, lose, win}
use Rattle.hp_control.specs.Controlling.{AreFunctions}
use Rattle.hp_diagram.specs.declared.reference.Ref.{Ref}
use Rattle.hp_diagram.specs.Diagrams.{Diagrams, function, Has, IsReduced, Means, valuation}
use Rattle.hp_quant.specs.declared.line.Line.{Line}
use Rattle.hp_synth.specs.Building.{HasEach, functions_at}
use Rattle.hp_synth.specs.Valued.{OfState, earlies, read, states}
use Rattle.hp_synth.proofs.Gates.{states-valuation}
use Rattle.hp_synth.proofs.Ranges.{read-list, read-same}
use Rattle.hp_verdicts.specs.TheCertificate.{HasHead}
use Rattle.hp_verdicts.proofs.ReachLaws.{IsLocal, Valuation, all_below, lines_within, reads_below}
use Rattle.hp_verdicts.proofs.LoseLaws.{as_many, first_function, other_functions, set_is, set_local, vars_fit}

-- ---- early values behind a state

behind_at : (r u : Bits) (k : ℕ) → slice_index_or (r ++ u) (length r + k) false ≡ slice_index_or u k false
behind_at [] u k = ap (λ n. slice_index_or u n false) (omega arith)
behind_at (b ∷ r) u k = ap (λ n. slice_index_or (b ∷ (r ++ u)) n false) (one (length r) k) ∙ behind_at r u k
  where
    one : (n k : ℕ) → suc n + k ≡ suc (n + k)
    one n k = omega arith

earlies_of : (g : Game) (r u : Bits) → IsState g r → length u ≡ g.early → earlies g (valuation (r ++ u)) ≡ u
earlies_of g r u state len =
    ap (λ n. read g.registers n (valuation (r ++ u))) (sym len)
    ∙ read-list g.registers (valuation (r ++ u)) u (λ k less. ap (λ n. slice_index_or (r ++ u) (n + k) false) (sym state) ∙ behind_at r u k)

-- ---- the functions of control bits

count_at : (t : Diagrams) (funs : List Ref) (v : Valuation) → length (functions_at t funs v) ≡ length funs
count_at t [] v = refl
count_at t (f ∷ funs) v = ap suc (count_at t funs v)

funs_same : (t : Diagrams) (lines : List Line) (funs : List Ref) (ns : List ℕ) → made.HaveFunctions t funs lines ns → (r u : Bits) → functions_of lines ns r u ≡ functions_at t funs (valuation (r ++ u))
funs_same t lines [] [] have r u = refl
funs_same t lines [] (n ∷ ns) have r u = let len = as_many t lines [] (n ∷ ns) have in absurd (omega (arith, len))
funs_same t lines (f ∷ funs) [] have r u = let len = as_many t lines (f ∷ funs) [] have in absurd (omega (arith, len))
funs_same t lines (f ∷ funs) (n ∷ ns) have r u =
    ap₂ (λ (b : Bool) (bs : Bits). b ∷ bs) (first_function t lines f funs n ns have (valuation (r ++ u))) (funs_same t lines funs ns (other_functions t lines f funs n ns have) r u)

-- each reads no variable from a number on, where all together read none
each_local : (t : Diagrams) (bound : ℕ) (funs : List Ref) → ((v w : Valuation) → ((x : ℕ) → x < bound → v x ≡ w x) → functions_at t funs v ≡ functions_at t funs w)
    → All (λ (f : Ref). IsLocal bound (function t f)) funs
each_local t bound [] same = All-nil (λ (f : Ref). IsLocal bound (function t f))
each_local t bound (f ∷ funs) same =
    All-cons (λ (f : Ref). IsLocal bound (function t f)) f funs
    (λ v w agree. ap (λ (bs : Bits). get_or bs 0 false) (same v w agree))
    (each_local t bound funs (λ v w agree. ap (λ (bs : Bits). drop 1 bs) (same v w agree)))

-- the choice is made by registers and early values
funs_local : (g : Game) → IsForm g → (t : Diagrams) (funs : List Ref) → AreFunctions g t funs → All (λ (f : Ref). IsLocal (g.registers + g.early) (function t f)) funs
funs_local g form t funs are =
    each_local t (g.registers + g.early) funs (λ v w agree.
    let same_states : states g w ≡ states g v = read-same 0 g.registers w v (λ y low high. sym (agree y (omega (arith, high)))) in
    let same_earlies : earlies g w ≡ earlies g v = read-same g.registers g.early w v (λ y low high. sym (agree y high)) in
    choice-one g form (states g v) (earlies g v) (functions_at t funs v) (functions_at t funs w) (are v)
    (subst (λ (u : Bits). IsChoice g (states g v) u (functions_at t funs w)) same_earlies
    (subst (λ (s : Bits). IsChoice g s (earlies g w) (functions_at t funs w)) same_states (are w))))

-- ---- the certificate

module _ (m : Machine) (is_machine : IsMachine m) (t : Diagrams) (vars : t.vars ≡ variables m) (reduced : IsReduced t) (inv : Ref) (X : Set) (means : Means t (OfState (game m) X) inv)
    (is_win : IsWin (game m) X) (funs : List Ref) (has_funs : HasEach t funs) (are : AreFunctions (game m) t funs) where
  roots_has : All (Has t) (inv ∷ funs)
  roots_has = All-cons (Has t) inv funs means.has has_funs

  module _ (c : Certificate) (n : ℕ) (ns : List ℕ) (of_roots : AreMade t (inv ∷ funs) c.lines (n ∷ ns)) (have : made.HaveFunctions t (inv ∷ funs) c.lines (n ∷ ns)) where
    scoped : InScope m c (win n ns)
    scoped =
        let placed = (visited t reduced (inv ∷ funs) of_roots.nodes roots_has of_roots.walk).placed in
        let number : List ℕ → ℕ = λ numbers. get_or numbers 0 0 in
        let others : List ℕ → List ℕ = λ numbers. drop 1 numbers in (
          subst (ReadsBelow c.lines m.registers) (sym (ap number of_roots.numbers_are))
              (reads_below t reduced of_roots.nodes placed c.lines of_roots.lines_are m.registers inv means.has (set_local (game m) t X inv means)),
          subst (All (ReadsBelow c.lines (m.registers + m.early))) (sym (ap others of_roots.numbers_are))
              (all_below t reduced of_roots.nodes placed c.lines of_roots.lines_are (m.registers + m.early) funs has_funs (funs_local (game m) (game-form m is_machine) t funs are)),
        )

    counted : HasCount m c (win n ns)
    counted =
        let v : Valuation = λ x. false in
        as_many t c.lines funs ns (other_functions t c.lines inv funs n ns have) ∙ sym (count_at t funs v) ∙ (are v).len ∙ (game-form m is_machine).prefer

    -- the set and the functions of the lines are those of the table
    set_same : (s : Bits) → IsState (game m) s → set_of c.lines n s ≡ X s
    set_same = set_is (game m) t c.lines X inv n means (first_function t c.lines inv funs n ns have)

    lines_win : IsWin (game m) (set_of c.lines n)
    lines_win = record {
      init = is_win.init;
      exact = λ r state. (λ h. (is_win.exact r state).0 (sym (set_same r state) ∙ h), λ safe. set_same r state ∙ (is_win.exact r state).1 safe);
    }

    choice_of : (r u : Bits) → IsState (game m) r → length u ≡ m.early → IsChoice (game m) r u (functions_of c.lines ns r u)
    choice_of r u state len =
        let v : Valuation = valuation (r ++ u) in
        subst (λ (d : Bits). IsChoice (game m) r u d) (sym (funs_same t c.lines funs ns (other_functions t c.lines inv funs n ns have) r u))
        (subst (λ (s : Bits). IsChoice (game m) s u (functions_at t funs v)) (states-valuation (game m) r u state)
        (subst (λ (e : Bits). IsChoice (game m) (states (game m) v) e (functions_at t funs v)) (earlies_of (game m) r u state len) (are v)))

    cert : IsWinCertificate (game m) (set_of c.lines n) (functions_of c.lines ns)
    cert = certificate-win (game m) (game-form m is_machine) (set_of c.lines n) (functions_of c.lines ns) lines_win (λ r u state valid. choice_of r u state valid.0)

    shown : HoldsAtFirst m c (win n ns) × Shows m c (win n ns) proved.Win
    shown = (cert.init, cert.step)

    within : All (λ (l : Line). l.var < variables m) c.lines
    within =
        let placed = (visited t reduced (inv ∷ funs) of_roots.nodes roots_has of_roots.walk).placed in
        subst (λ n. All (λ (l : Line). l.var < n) c.lines) vars (lines_within t reduced of_roots.nodes placed c.lines of_roots.lines_are)

  abbrev Parts : Certificate → Claim → Type 0
  Parts c q = HasCount m c q × InScope m c q × HoldsAtFirst m c q × Shows m c q proved.Win × All (λ (l : Line). l.var < variables m) c.lines

  parts : (c : Certificate) (q : Claim) → made.IsWin q → AreMade t (inv ∷ funs) c.lines (references q) → made.HaveFunctions t (inv ∷ funs) c.lines (references q) → Parts c q
  parts c (win n ns) is of have = let s = shown c n ns of have in (counted c n ns of have, scoped c n ns of have, s.0, s.1, within c n ns of have)
  parts c (lose ns) is of have = absurd is

  -- it proves that nothing is forced
  pub won_proves : (wide : Bool) (c : Certificate) → HasHead m wide c → made.IsWin c.claim → made.IsOf t (inv ∷ funs) c → Proves m c proved.Win
  won_proves wide c head is of =
      let p = parts c c.claim is of.made of.functions in
      record {
        fits = record { name = head.node; vars = vars_fit m wide c head p.4; count = p.0; scope = p.1 };
        first = p.2;
        shows = p.3;
      }
