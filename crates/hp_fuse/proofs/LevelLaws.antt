-- Commands with neighbours joined are alike, at each level.
use Rattle.std.proofs.Common.{◌≡◌, ◌≤◌, ◌+◌, ℕ, zero, suc, Bool, true, false, ◌&&◌, List, max, if◌then◌else◌, refl, arith}
use Rattle.hp_obc.specs.Commands.{Cmds, Cmd, Arms, done, and_then, set, call, restart, case_of, no_arm, more_arms}
use Rattle.hp_obc.specs.Machines.{ObcType, Machine}
use Rattle.hp_obc.specs.Form.{HaveForm, HasForm, ArmsHaveForm, depth, depth_of_arms}
use Rattle.hp_obc.specs.Steps.{behaviour, before, stepped_to, of_instance}
use Rattle.hp_fuse.specs.Fusing.{is_steady, ask_the_same, is_joinable, as_one, led_by, joined, in_arms, within, all_within, fused_to, with_step}
use Rattle.hp_fuse.specs.Likeness.{AreAlike, ArmsAreAlike, IsLike}
use Rattle.hp_fuse.proofs.LikeLaws.{alike-refl, alike-trans, alike-cons, alike-behind, arms-refl, alike-arms, alike-case}
use Rattle.hp_fuse.proofs.JoinLaws.{both-left, both-right, one_alike}

led_by_case : (c d : Cmd) (ds : Cmds) (b : Bool) → is_joinable c d ≡ b → AreAlike (and_then c (and_then d ds)) (if b then and_then (as_one c d) ds else and_then c (and_then d ds))
led_by_case c d ds true h =
    one_alike c d ds (both-left (is_steady c) (is_steady d && ask_the_same c d) h)
    (both-right (is_steady d) (ask_the_same c d) (both-right (is_steady c) (is_steady d && ask_the_same c d) h))
led_by_case c d ds false h = alike-refl (and_then c (and_then d ds))

alike-led : (c : Cmd) (cs : Cmds) → AreAlike (and_then c cs) (led_by c cs)
alike-led c done = alike-refl (and_then c done)
alike-led c (and_then d ds) = led_by_case c d ds (is_joinable c d) refl

pub alike-joined : (cs : Cmds) → AreAlike cs (joined cs)
alike-joined done = alike-refl done
alike-joined (and_then c cs) = alike-trans (and_then c cs) (and_then c (joined cs)) (led_by c (joined cs)) (alike-behind c cs (joined cs) (alike-joined cs)) (alike-led c (joined cs))

module _ (f : Cmds → Cmds) (alike : (cs : Cmds) → AreAlike cs (f cs)) where
  pub alike-in_arms : (arms : Arms) → ArmsAreAlike arms (in_arms f arms)
  alike-in_arms no_arm = arms-refl no_arm
  alike-in_arms (more_arms cs arms) = alike-arms cs (f cs) arms (in_arms f arms) (alike cs) (alike-in_arms arms)

  pub alike-within : (c : Cmd) → AreAlike (and_then c done) (and_then (within f c) done)
  alike-within (set x op args) = alike-refl (and_then (set x op args) done)
  alike-within (call i outs args) = alike-refl (and_then (call i outs args) done)
  alike-within (restart i) = alike-refl (and_then (restart i) done)
  alike-within (case_of x arms) = alike-case x arms (in_arms f arms) (alike-in_arms arms)

  pub alike-all_within : (cs : Cmds) → AreAlike cs (all_within f cs)
  alike-all_within done = alike-refl done
  alike-all_within (and_then c cs) = alike-cons c (within f c) cs (all_within f cs) (alike-within c) (alike-all_within cs)

pub alike-fused : (n : ℕ) (cs : Cmds) → AreAlike cs (fused_to n cs)
alike-fused zero cs = alike-refl cs
alike-fused (suc n) cs = alike-trans cs (joined cs) (all_within (fused_to n) (joined cs)) (alike-joined cs) (alike-all_within (fused_to n) (alike-fused n) (joined cs))

shallow : (cs : Cmds) → depth cs + 1 ≤ max 1 (depth_of_arms (more_arms cs no_arm))
shallow done = omega arith
shallow (and_then c cs) = omega arith

not_deeper : (cs ds : Cmds) → depth_of_arms (more_arms ds no_arm) ≤ depth_of_arms (more_arms cs no_arm) → depth ds ≤ depth cs
not_deeper cs done h = omega arith
not_deeper done (and_then d ds) h = absurd (omega (arith, h))
not_deeper (and_then c cs) (and_then d ds) h = omega (arith, h)

-- the commands of a machine do not matter for the form of others
module _ (types : List ObcType) (earlier : List Machine) (m : Machine) (step : Cmds) where
  mutual
    restepped : (cs : Cmds) → HaveForm types earlier m cs → HaveForm types earlier (with_step m step) cs
    restepped done h = tt
    restepped (and_then c cs) h = (restepped_one c h.0, restepped cs h.1)

    restepped_one : (c : Cmd) → HasForm types earlier m c → HasForm types earlier (with_step m step) c
    restepped_one (set x op args) h = h
    restepped_one (call i outs args) h = (h.0, h.1, record { arguments = h.2.arguments; outputs = h.2.outputs; once = h.2.once })
    restepped_one (restart i) h = h
    restepped_one (case_of x arms) h = (h.0, restepped_arms arms h.1)

    restepped_arms : (arms : Arms) → ArmsHaveForm types earlier m arms → ArmsHaveForm types earlier (with_step m step) arms
    restepped_arms no_arm h = tt
    restepped_arms (more_arms cs arms) h = (restepped cs h.0, restepped_arms arms h.1)

-- a machine of which the commands became alike
pub like : (m : Machine) (cs : Cmds) → AreAlike m.step cs → IsLike m (with_step m cs)
like m cs h = record {
  declares = refl;
  does = λ types known. λ i. record {
    reset = (behaviour types known m).reset;
    step = λ kept inputs. stepped_to m (h.does types (of_instance known m.insts) (before types m kept inputs) i);
  };
  form = λ types earlier f. record {
    name = f.name;
    new = f.new;
    names = f.names;
    kinds = f.kinds;
    firsts = f.firsts;
    instances = f.instances;
    instances_known = f.instances_known;
    commands = restepped types earlier m cs cs (h.form types earlier m f.commands);
    deep = omega (arith, not_deeper m.step cs h.deep, f.deep);
  };
}
