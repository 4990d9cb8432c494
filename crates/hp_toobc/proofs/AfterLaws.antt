-- What commands under a clock do to a state.
use Rattle.std.proofs.Common.{◌≡◌, ℕ, zero, suc, ◌<◌, Bool, true, false, ◌&&◌, nat_eq, List, [], ◌∷◌, ◌++◌, if◌then◌else◌, refl, ap, ◌∙◌, arith}
use Rattle.std.proofs.lemmas.Bool.{eqb-true, eq-eqb}
use Rattle.hp_obc.specs.Commands.{Cmds, Cmd, done, cmds_of}
use Rattle.hp_obc.specs.Machines.{ObcType}
use Rattle.hp_obc.specs.Steps.{Names, State, Behaviour, after, after_one, after_arm, arm_number}
use Rattle.hp_flat.specs.declared.node.Variable.{Variable}
use Rattle.hp_flat.specs.Equations.{Clock}
use Rattle.hp_toobc.specs.Tables.{name_of, variable_type, width_of}
use Rattle.hp_toobc.specs.Making.{arms_with, under}
use Rattle.hp_toobc.specs.Stepping.{is_on, AreWide}

module _ (types : List ObcType) (instances : Names Behaviour) where
  -- commands behind others
  pub after-append : (cs ds : List Cmd) (s : State) → after types instances (cmds_of (cs ++ ds)) s ≡ after types instances (cmds_of ds) (after types instances (cmds_of cs) s)
  after-append [] ds s = refl
  after-append (c ∷ cs) ds s = after-append cs ds (after_one types instances c s)

  idle : (k n : ℕ) (s : State) → after_arm types instances k (arms_with n zero done) s ≡ s
  idle k zero s = refl
  idle zero (suc n) s = refl
  idle (suc k) (suc n) s = idle k n s

  at_arm : (n c : ℕ) (cs : Cmds) (s : State) → c < n → after_arm types instances c (arms_with n c cs) s ≡ after types instances cs s
  at_arm zero c cs s h = absurd (omega arith)
  at_arm (suc n) zero cs s h = refl
  at_arm (suc n) (suc c) cs s h = at_arm n c cs s (omega arith)

  off_arm : (n k c : ℕ) (cs : Cmds) (s : State) → (k ≡ c → ⊥) → after_arm types instances k (arms_with n c cs) s ≡ s
  off_arm zero k c cs s h = refl
  off_arm (suc n) zero zero cs s h = absurd (h refl)
  off_arm (suc n) (suc k) zero cs s h = idle k n s
  off_arm (suc n) zero (suc c) cs s h = refl
  off_arm (suc n) (suc k) (suc c) cs s h = off_arm n k c cs s (λ e. h (ap suc e))

  chosen : (w k c : ℕ) (inner : Cmds) (on : Bool) (rest : Bool) (s t : State) → nat_eq k c ≡ on → c < w → after types instances inner s ≡ (if rest then t else s)
      → after_arm types instances k (arms_with w c inner) s ≡ (if on && rest then t else s)
  chosen w k c inner true rest s t e h more = ap (λ j. after_arm types instances j (arms_with w c inner) s) (eqb-true k c e) ∙ at_arm w c inner s h ∙ more
  chosen w k c inner false rest s t e h more = off_arm w k c inner s (λ q. absurd (cc (eq-eqb k c q)))

  -- commands under a clock are done where it holds
  pub after-under : (variables : List Variable) (clock : Clock) (cs : List Cmd) (s : State) → AreWide types variables clock
      → after types instances (cmds_of (under types variables clock cs)) s ≡ (if is_on variables s.values clock then after types instances (cmds_of cs) s else s)
  after-under variables [] cs s wide = refl
  after-under variables (on ∷ clock) cs s wide =
      chosen (width_of types (variable_type variables on.0)) (arm_number (s.values (name_of variables on.0))) on.1 (cmds_of (under types variables clock cs))
      (nat_eq (arm_number (s.values (name_of variables on.0))) on.1) (is_on variables s.values clock) s (after types instances (cmds_of cs) s) refl wide.0
      (after-under variables clock cs s wide.1)
