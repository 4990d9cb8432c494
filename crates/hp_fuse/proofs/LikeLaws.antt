-- Commands of which parts became alike are alike.
use Rattle.std.proofs.Common.{◌≡◌, ◌≤◌, ℕ, zero, suc, List, max, refl, sym, ap, ◌∙◌, arith}
use Rattle.std.specs.Prelude.{Some}
use Rattle.hp_obc.specs.Commands.{Cmds, Cmd, Arms, done, and_then, case_of, no_arm, more_arms}
use Rattle.hp_obc.specs.Machines.{ObcType}
use Rattle.hp_obc.specs.Form.{depth_of_arms}
use Rattle.hp_obc.specs.Steps.{Names, State, Behaviour, after, after_one, after_arm, arm_number}
use Rattle.hp_fuse.specs.Fusing.{followed}
use Rattle.hp_fuse.specs.Likeness.{AreAlike, ArmsAreAlike}

pub alike-refl : (cs : Cmds) → AreAlike cs cs
alike-refl cs = record { does = λ types insts s. refl; form = λ types earlier m h. h; deep = omega arith }

pub alike-trans : (cs ds es : Cmds) → AreAlike cs ds → AreAlike ds es → AreAlike cs es
alike-trans cs ds es p q = record {
  does = λ types insts s. q.does types insts s ∙ p.does types insts s;
  form = λ types earlier m h. q.form types earlier m (p.form types earlier m h);
  deep = omega (arith, p.deep, q.deep);
}

deep-cons : (c d : Cmd) (cs ds : Cmds) → depth_of_arms (more_arms (and_then d done) no_arm) ≤ depth_of_arms (more_arms (and_then c done) no_arm) → depth_of_arms (more_arms ds no_arm) ≤ depth_of_arms (more_arms cs no_arm)
    → depth_of_arms (more_arms (and_then d ds) no_arm) ≤ depth_of_arms (more_arms (and_then c cs) no_arm)
deep-cons c d done done p q = p
deep-cons c d done (and_then f fs) p q = absurd (omega (arith, q))
deep-cons c d (and_then e es) done p q = omega (arith, p)
deep-cons c d (and_then e es) (and_then f fs) p q = omega (arith, p, q)

-- a command in front
pub alike-cons : (c d : Cmd) (cs ds : Cmds) → AreAlike (and_then c done) (and_then d done) → AreAlike cs ds → AreAlike (and_then c cs) (and_then d ds)
alike-cons c d cs ds p q = record {
  does = λ types insts s. ap (after types insts ds) (p.does types insts s) ∙ q.does types insts (after_one types insts c s);
  form = λ types earlier m h. ((p.form types earlier m (h.0, tt)).0, q.form types earlier m h.1);
  deep = deep-cons c d cs ds p.deep q.deep;
}

pub alike-behind : (c : Cmd) (cs ds : Cmds) → AreAlike cs ds → AreAlike (and_then c cs) (and_then c ds)
alike-behind c cs ds q = alike-cons c c cs ds (alike-refl (and_then c done)) q

pub alike-followed : (es cs ds : Cmds) → AreAlike cs ds → AreAlike (followed es cs) (followed es ds)
alike-followed done cs ds q = q
alike-followed (and_then e es) cs ds q = alike-behind e (followed es cs) (followed es ds) (alike-followed es cs ds q)

-- arms
pub arms-refl : (arms : Arms) → ArmsAreAlike arms arms
arms-refl arms = record { does = λ types insts n s. refl; form = λ types earlier m h. h; count = refl; deep = omega arith }

deep-arm : (cs : Cmds) (arms : Arms) → depth_of_arms (more_arms cs arms) ≡ max (depth_of_arms (more_arms cs no_arm)) (depth_of_arms arms)
deep-arm done arms = omega arith
deep-arm (and_then c cs) arms = omega arith

does-arm : (cs ds : Cmds) (arms others : Arms) → AreAlike cs ds → ArmsAreAlike arms others → (types : List ObcType) (insts : Names Behaviour) (n : ℕ) (s : State)
    → after_arm types insts n (more_arms ds others) s ≡ after_arm types insts n (more_arms cs arms) s
does-arm cs ds arms others p q types insts zero s = p.does types insts s
does-arm cs ds arms others p q types insts (suc n) s = q.does types insts n s

pub alike-arms : (cs ds : Cmds) (arms others : Arms) → AreAlike cs ds → ArmsAreAlike arms others → ArmsAreAlike (more_arms cs arms) (more_arms ds others)
alike-arms cs ds arms others p q = record {
  does = does-arm cs ds arms others p q;
  form = λ types earlier m h. (p.form types earlier m h.0, q.form types earlier m h.1);
  count = ap suc q.count;
  deep = omega (arith, p.deep, q.deep, deep-arm cs arms, deep-arm ds others);
}

-- a case
pub alike-case : (x : List ℕ) (arms others : Arms) → ArmsAreAlike arms others → AreAlike (and_then (case_of x arms) done) (and_then (case_of x others) done)
alike-case x arms others q = record {
  does = λ types insts s. q.does types insts (arm_number (s.values x)) s;
  form = λ types earlier m h. ((h.0.0 ∙ ap Some (sym q.count), q.form types earlier m h.0.1), tt);
  deep = omega (arith, q.deep);
}
