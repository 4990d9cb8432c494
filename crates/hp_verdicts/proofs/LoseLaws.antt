-- The certificate of a violation that is forced, made of the ranks of a solver, proves it.
use Rattle.std.proofs.Common.{◌≡◌, ℕ, zero, suc, ◌<◌, ◌≤◌, Bool, true, false, IsTrue, List, [], ◌∷◌, length, map, drop, All, get_or, Option, Some, None, refl, sym, ap, ◌∙◌, subst, arith}
use Rattle.std.proofs.lemmas.List.{append-nil, length-map}
use Rattle.std.proofs.lemmas.List.Elements.{All-cons, All-nil}
use Rattle.hp_boolx.specs.Game.{Game, IsState, Forced}
use Rattle.hp_boolx.specs.Machine.{Machine, IsMachine, game, variables}
use Rattle.hp_boolx.specs.Search.{Bits, Set}
use Rattle.hp_boolx.specs.Solved.{rank, IsLose, IsLoseCertificate}
use Rattle.hp_boolx.proofs.GateLaws.{game-form}
use Rattle.hp_boolx.proofs.SolvedLaws.{certificate-lose}
use Rattle.hp_cert.specs.Checked.{Proves, Shows}
use Rattle.hp_cert.specs.Proving.{HasCount, HasVars, HasWidths, HoldsAtFirst, InScope, ReadsBelow, set_of}
use Rattle.hp_cert.specs.declared.checking.Proved.TheVariants as proved
use Rattle.hp_cert.specs.Certmade.Lines.{AreMade, references}
use Rattle.hp_cert.specs.Certmade.Made as made
use Rattle.hp_cert.proofs.CertmadeLemmas.FunctionLaws.{visited}
use Rattle.hp_cert.specs.Certtext.Certificates.{Certificate, Claim, lose, win}
use Rattle.hp_diagram.specs.declared.reference.Ref.{Ref}
use Rattle.hp_diagram.specs.Diagrams.{Diagrams, function, Has, IsReduced, Means, valuation}
use Rattle.hp_quant.specs.declared.line.Line.{Line}
use Rattle.hp_quant.specs.Lines.{line_function}
use Rattle.hp_synth.specs.Kept.{AllMean}
use Rattle.hp_synth.specs.Valued.{OfState, states}
use Rattle.hp_synth.proofs.Gates.{states-valuation}
use Rattle.hp_synth.proofs.Ranges.{read-same}
use Rattle.hp_synth.proofs.SoughtLaws.{all-has, all-len}
use Rattle.hp_verdicts.specs.Found.{AreRanks}
use Rattle.hp_verdicts.specs.TheCertificate.{HasHead, said_widths}
use Rattle.hp_verdicts.proofs.ReachLaws.{IsLocal, Valuation, all_below, lines_within}

-- ---- functions of lines and of a table

-- the functions of the first references, and of the others
pub first_function : (t : Diagrams) (lines : List Line) (r : Ref) (rs : List Ref) (n : ℕ) (ns : List ℕ) → made.HaveFunctions t (r ∷ rs) lines (n ∷ ns) → (v : Valuation) → line_function lines n v ≡ function t r v
first_function t lines r rs n ns have v = ap (λ (xs : List Bool). get_or xs 0 false) (have v)

pub other_functions : (t : Diagrams) (lines : List Line) (r : Ref) (rs : List Ref) (n : ℕ) (ns : List ℕ) → made.HaveFunctions t (r ∷ rs) lines (n ∷ ns) → made.HaveFunctions t rs lines ns
other_functions t lines r rs n ns have v = ap (λ (xs : List Bool). drop 1 xs) (have v)

pub as_many : (t : Diagrams) (lines : List Line) (rs : List Ref) (ns : List ℕ) → made.HaveFunctions t rs lines ns → length ns ≡ length rs
as_many t lines rs ns have =
    let v : Valuation = λ x. false in
    sym (length-map ns (λ n. line_function lines n v)) ∙ ap (λ (xs : List Bool). length xs) (have v) ∙ length-map rs (λ r. function t r v)

-- a state is what its valuation says of the registers
pub state_of : (g : Game) (s : Bits) → IsState g s → states g (valuation s) ≡ s
state_of g s is = ap (λ (q : Bits). states g (valuation q)) (sym (append-nil s)) ∙ states-valuation g s [] is

-- a set of states
pub set_is : (g : Game) (t : Diagrams) (lines : List Line) (X : Set) (r : Ref) (n : ℕ) → Means t (OfState g X) r → ((v : Valuation) → line_function lines n v ≡ function t r v)
    → (s : Bits) → IsState g s → set_of lines n s ≡ X s
set_is g t lines X r n means same s is = same (valuation s) ∙ means.value (valuation s) ∙ ap X (state_of g s is)

-- which reads registers alone
pub set_local : (g : Game) (t : Diagrams) (X : Set) (r : Ref) → Means t (OfState g X) r → IsLocal g.registers (function t r)
set_local g t X r means v w agree = means.value v ∙ ap X (read-same 0 g.registers v w (λ y low high. agree y (omega (arith, high)))) ∙ sym (means.value w)

-- ---- what fits

module _ (m : Machine) (wide : Bool) (c : Certificate) (head : HasHead m wide c) where
  widths_fit : (wide : Bool) (said : Option (List ℕ)) → said ≡ said_widths wide m → HasWidths m c said
  widths_fit wide None is = tt
  widths_fit true (Some ws) is = cc
  widths_fit false (Some ws) is = absurd cc

  pub vars_fit : All (λ (l : Line). l.var < variables m) c.lines → HasVars m c
  vars_fit within = record {
    registers = head.registers;
    early = head.early;
    control = head.control;
    late = head.late;
    widths = widths_fit wide c.widths head.widths;
    lines = within;
  }

-- ---- ranks

module _ (g : Game) (t : Diagrams) (lines : List Line) where
  ranks_same : (Xs : List Set) (ranks : List Ref) (ns : List ℕ) → AllMean t (map (OfState g) Xs) ranks → made.HaveFunctions t ranks lines ns
      → (k : ℕ) (s : Bits) → IsState g s → rank (map (set_of lines) ns) k s ≡ rank Xs k s
  ranks_same Xs ranks ns mean have zero s is = refl
  ranks_same [] [] [] mean have (suc k) s is = refl
  ranks_same [] [] (n ∷ ns) mean have (suc k) s is = let len = as_many t lines [] (n ∷ ns) have in absurd (omega (arith, len))
  ranks_same [] (r ∷ ranks) ns mean have (suc k) s is = absurd mean
  ranks_same (X ∷ Xs) [] ns mean have (suc k) s is = absurd mean
  ranks_same (X ∷ Xs) (r ∷ ranks) [] mean have (suc k) s is = let len = as_many t lines (r ∷ ranks) [] have in absurd (omega (arith, len))
  ranks_same (X ∷ Xs) (r ∷ ranks) (n ∷ ns) mean have (suc zero) s is = set_is g t lines X r n mean.0 (first_function t lines r ranks n ns have) s is
  ranks_same (X ∷ Xs) (r ∷ ranks) (n ∷ ns) mean have (suc (suc k)) s is = ranks_same Xs ranks ns mean.1 (other_functions t lines r ranks n ns have) (suc k) s is

  ranks_local : (Xs : List Set) (ranks : List Ref) → AllMean t (map (OfState g) Xs) ranks → All (λ (r : Ref). IsLocal g.registers (function t r)) ranks
  ranks_local [] [] mean = All-nil (λ (r : Ref). IsLocal g.registers (function t r))
  ranks_local [] (r ∷ ranks) mean = absurd mean
  ranks_local (X ∷ Xs) [] mean = absurd mean
  ranks_local (X ∷ Xs) (r ∷ ranks) mean =
      All-cons (λ (r : Ref). IsLocal g.registers (function t r)) r ranks (set_local g t X r mean.0) (ranks_local Xs ranks mean.1)

  -- the sets of the lines are those of a solver
  module _ (Xs : List Set) (ranks : List Ref) (ns : List ℕ) (mean : AllMean t (map (OfState g) Xs) ranks) (have : made.HaveFunctions t ranks lines ns) (is : IsLose g Xs) where
    same_length : length (map (set_of lines) ns) ≡ length Xs
    same_length = length-map ns (set_of lines) ∙ as_many t lines ranks ns have ∙ sym (all-len t (map (OfState g) Xs) ranks mean) ∙ length-map Xs (OfState g)

    lines_lose : IsLose g (map (set_of lines) ns)
    lines_lose =
        let same = ranks_same Xs ranks ns mean have in
        let len = same_length in
        record {
          init = subst (λ n. Forced g n g.init) (sym len) is.init;
          least = λ n forced. (let least = is.least n forced in omega (arith, len, least));
          exact = λ k within r state. (
            λ h. (is.exact k (omega (arith, len, within)) r state).0 (sym (same k r state) ∙ h),
            λ forced. same k r state ∙ (is.exact k (omega (arith, len, within)) r state).1 forced,
          );
        }

-- ---- the certificate

module _ (m : Machine) (t : Diagrams) (ranks : List Ref) (are : AreRanks m t ranks) where
  pub ranks_has : All (Has t) ranks
  ranks_has = all-has t (map (OfState (game m)) are.0) ranks are.1

  -- a violation is forced within as many instants as there are ranks, and within no fewer
  pub ranks_count : length are.0 ≡ length ranks
  ranks_count = sym (length-map are.0 (OfState (game m))) ∙ all-len t (map (OfState (game m)) are.0) ranks are.1

  pub ranks_force : Forced (game m) (length ranks) m.init
  ranks_force = subst (λ n. Forced (game m) n m.init) ranks_count are.2.init

  pub ranks_least : (fewer : ℕ) → Forced (game m) fewer m.init → length ranks ≤ fewer
  ranks_least fewer forced = let least = are.2.least fewer forced in let count = ranks_count in omega (arith, least, count)

module _ (m : Machine) (is_machine : IsMachine m) (t : Diagrams) (vars : t.vars ≡ variables m) (reduced : IsReduced t) (ranks : List Ref) (are : AreRanks m t ranks) where
  has : All (Has t) ranks
  has = ranks_has m t ranks are

  module _ (c : Certificate) (q : Claim) (is_lose : made.IsLose q) (of_ranks : AreMade t ranks c.lines (references q)) (have : made.HaveFunctions t ranks c.lines (references q)) where
    scoped : InScope m c q
    scoped = by q is_lose of_ranks
      where
        by : (q : Claim) → made.IsLose q → AreMade t ranks c.lines (references q) → InScope m c q
        by (win inv funs) is of = absurd is
        by (lose ns) is of =
            let placed = (visited t reduced ranks of.nodes has of.walk).placed in
            subst (All (ReadsBelow c.lines m.registers)) (sym of.numbers_are)
            (all_below t reduced of.nodes placed c.lines of.lines_are m.registers ranks has (ranks_local (game m) t c.lines are.0 ranks are.1))

    counted : HasCount m c q
    counted = by q is_lose
      where
        by : (q : Claim) → made.IsLose q → HasCount m c q
        by (win inv funs) is = absurd is
        by (lose ns) is = tt

    shown : HoldsAtFirst m c q × Shows m c q (proved.Lose (length ranks))
    shown = by q is_lose have
      where
        by : (q : Claim) → made.IsLose q → made.HaveFunctions t ranks c.lines (references q) → HoldsAtFirst m c q × Shows m c q (proved.Lose (length ranks))
        by (win inv funs) is have = absurd is
        by (lose ns) is have =
            let cert : IsLoseCertificate (game m) (map (set_of c.lines) ns) =
            certificate-lose (game m) (game-form m is_machine) (map (set_of c.lines) ns) (lines_lose (game m) t c.lines are.0 ranks ns are.1 have are.2) in (
              subst (λ n. IsTrue (rank (map (set_of c.lines) ns) n m.init)) (length-map ns (set_of c.lines)) cert.init,
              (sym (as_many t c.lines ranks ns have), λ k less. cert.step k),
            )

    within : All (λ (l : Line). l.var < variables m) c.lines
    within =
        let placed = (visited t reduced ranks of_ranks.nodes has of_ranks.walk).placed in
        subst (λ n. All (λ (l : Line). l.var < n) c.lines) vars (lines_within t reduced of_ranks.nodes placed c.lines of_ranks.lines_are)

  -- it proves that a violation is forced
  pub lost_proves : (wide : Bool) (c : Certificate) → HasHead m wide c → made.IsLose c.claim → made.IsOf t ranks c → Proves m c (proved.Lose (length ranks))
  lost_proves wide c head is_lose of =
      let s = shown c c.claim is_lose of.made of.functions in
      record {
        fits = record {
          name = head.node;
          vars = vars_fit m wide c head (within c c.claim is_lose of.made of.functions);
          count = counted c c.claim is_lose of.made of.functions;
          scope = scoped c c.claim is_lose of.made of.functions;
        };
        first = s.0;
        shows = s.1;
      }
