-- Arms and clocks.
use Rattle.std.proofs.Common.{◌≡◌, ℕ, zero, suc, ◌+◌, ◌-◌, ◌<◌, ◌≤◌, min, get_or, length, take, List, [], ◌∷◌, ◌++◌, refl, sym, ap, ◌∙◌, arith}
use Rattle.std.proofs.Math.ListN.{replicate}
use Rattle.std.proofs.lemmas.List.{append_assoc}
use Rattle.std.proofs.Math.Numerals.{add-one}
use Rattle.hp_obc.specs.Commands.{Cmds, Cmd, done, more_arms, arms_of, cmds_of, case_of}
use Rattle.hp_obc.specs.Machines.{ObcType}
use Rattle.hp_flat.specs.declared.node.Variable.{Variable}
use Rattle.hp_flat.specs.Equations.{Clock}
use Rattle.hp_toobc.specs.Tables.{name_of, variable_type, width_of}
use Rattle.hp_toobc.specs.Making.{arms_with, under}
use Rattle.hp_toobc.proofs.Lists.{take-next}

replicate-one : {A : Type 0} (n : ℕ) (x : A) → replicate (suc n) x ≡ replicate n x ++ x ∷ []
replicate-one zero x = refl
replicate-one (suc n) x = ap (λ ys. x ∷ ys) (replicate-one n x)

-- one more empty arm
pub empty-next : {A : Type 0} (xs ys : List A) (n : ℕ) (x : A) → ys ≡ xs ++ replicate n x → ys ++ x ∷ [] ≡ xs ++ replicate (n + 1) x
empty-next xs ys n x e =
    ap (λ zs. zs ++ x ∷ []) e ∙ append_assoc xs (replicate n x) (x ∷ []) ∙ sym (ap (λ zs. xs ++ zs) (ap (λ k. replicate k x) (add-one n) ∙ replicate-one n x))

empty_arms : (n c : ℕ) → arms_of (replicate n done) ≡ arms_with n c done
empty_arms zero c = refl
empty_arms (suc n) zero = ap (more_arms done) (empty_arms n zero)
empty_arms (suc n) (suc c) = ap (more_arms done) (empty_arms n c)

chosen : (n c : ℕ) (cs : Cmds) → c < n → arms_of (replicate c done ++ (cs ∷ replicate (n - c - 1) done)) ≡ arms_with n c cs
chosen zero c cs h = absurd (omega arith)
chosen (suc n) zero cs h = ap (more_arms cs) (ap (λ k. arms_of (replicate k done)) (omega arith) ∙ empty_arms n zero)
chosen (suc n) (suc c) cs h =
    ap (more_arms done) (ap (λ k. arms_of (replicate c done ++ (cs ∷ replicate k done))) (omega arith) ∙ chosen n c cs (omega arith))

none_chosen : (n c : ℕ) (cs : Cmds) → n ≤ c → arms_of (replicate n done) ≡ arms_with n c cs
none_chosen zero c cs h = refl
none_chosen (suc n) zero cs h = absurd (omega arith)
none_chosen (suc n) (suc c) cs h = ap (more_arms done) (none_chosen n c cs (omega arith))

-- the arms as they are made: empty ones, the one with commands, empty ones
pub arms-chosen : (n c : ℕ) (cs : Cmds) (first second third : List Cmds) → c < n → first ≡ [] ++ replicate (min c n) done → second ≡ first ++ cs ∷ []
    → third ≡ second ++ replicate (n - c - 1) done → arms_of third ≡ arms_with n c cs
arms-chosen n c cs first second third h a b d =
    ap arms_of (d ∙ ap (λ xs. xs ++ replicate (n - c - 1) done) (b ∙ ap (λ xs. xs ++ cs ∷ []) (a ∙ ap (λ k. replicate k done) (omega arith)))
    ∙ append_assoc (replicate c done) (cs ∷ []) (replicate (n - c - 1) done))
    ∙ chosen n c cs h

pub arms-none : (n c : ℕ) (cs : Cmds) (first : List Cmds) → n ≤ c → first ≡ [] ++ replicate (min c n) done → arms_of first ≡ arms_with n c cs
arms-none n c cs first h a = ap arms_of (a ∙ ap (λ k. replicate k done) (omega arith)) ∙ none_chosen n c cs h

module _ (types : List ObcType) (variables : List Variable) where
  under_append : (first second : Clock) (cs : List Cmd) → under types variables (first ++ second) cs ≡ under types variables first (under types variables second cs)
  under_append [] second cs = refl
  under_append (on ∷ first) second cs =
      ap (λ ds. case_of (name_of variables on.0) (arms_with (width_of types (variable_type variables on.0)) on.1 (cmds_of ds)) ∷ []) (under_append first second cs)

  -- the innermost step of a clock
  pub under-step : (clock : Clock) (i j : ℕ) (on : ℕ × ℕ) (before after all : List Cmd) → j ≡ i + 1 → i < length clock → on ≡ get_or clock i on
      → after ≡ under types variables (on ∷ []) before → under types variables (take j clock) before ≡ all → under types variables (take i clock) after ≡ all
  under-step clock i j on before after all e h p step known =
      ap (under types variables (take i clock)) step
      ∙ sym (under_append (take i clock) (on ∷ []) before)
      ∙ sym (ap (λ c. under types variables c before) (ap (λ k. take k clock) e ∙ take-next clock i on h p))
      ∙ known
