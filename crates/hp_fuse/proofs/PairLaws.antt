-- Arms with others behind them do what both did.
use Rattle.std.proofs.Common.{◌≡◌, ◌≤◌, ℕ, zero, suc, Bool, false, ◌||◌, List, [], ◌∷◌, length, max, refl, ap, arith}
use Rattle.hp_obc.specs.Commands.{Cmds, Arms, done, and_then, no_arm, more_arms, arms_of}
use Rattle.hp_obc.specs.Machines.{ObcType, Machine}
use Rattle.hp_obc.specs.Form.{HaveForm, ArmsHaveForm, arm_count, depth_of_arms}
use Rattle.hp_obc.specs.Steps.{Names, State, Behaviour, after, after_one, after_arm}
use Rattle.hp_fuse.specs.Fusing.{set_in, set_by, set_in_arms, followed, paired}
use Rattle.hp_fuse.specs.Joining.{paired_to, left_to}
use Rattle.hp_fuse.proofs.Unset.{left_false, right_false}

both_false : (a b : Bool) → a ≡ false → b ≡ false → (a || b) ≡ false
both_false a b p q = λ i. p i || q i

pub followed-assoc : (cs ds es : Cmds) → followed (followed cs ds) es ≡ followed cs (followed ds es)
followed-assoc done ds es = refl
followed-assoc (and_then c cs) ds es = ap (and_then c) (followed-assoc cs ds es)

pub followed-done : (cs : Cmds) → followed cs done ≡ cs
followed-done done = refl
followed-done (and_then c cs) = ap (and_then c) (followed-done cs)

-- names that are not set
unset-followed : (cs ds : Cmds) (x : List ℕ) → set_in cs x ≡ false → set_in ds x ≡ false → set_in (followed cs ds) x ≡ false
unset-followed done ds x p q = q
unset-followed (and_then c cs) ds x p q =
    both_false (set_by c x) (set_in (followed cs ds) x) (left_false (set_by c x) (set_in cs x) p) (unset-followed cs ds x (right_false (set_by c x) (set_in cs x) p) q)

pub unset-paired : (arms others : Arms) (x : List ℕ) → set_in_arms arms x ≡ false → set_in_arms others x ≡ false → set_in_arms (paired arms others) x ≡ false
unset-paired no_arm others x p q = refl
unset-paired (more_arms cs arms) no_arm x p q = p
unset-paired (more_arms cs arms) (more_arms ds others) x p q =
    both_false (set_in (followed cs ds) x) (set_in_arms (paired arms others) x)
    (unset-followed cs ds x (left_false (set_in cs x) (set_in_arms arms x) p) (left_false (set_in ds x) (set_in_arms others x) q))
    (unset-paired arms others x (right_false (set_in cs x) (set_in_arms arms x) p) (right_false (set_in ds x) (set_in_arms others x) q))

pub unset-parts : (k : ℕ) (arms others : List Cmds) (x : List ℕ) → set_in_arms (arms_of arms) x ≡ false → set_in_arms (arms_of others) x ≡ false → set_in_arms (arms_of (paired_to k arms others)) x ≡ false
unset-parts zero arms others x p q = p
unset-parts (suc k) [] others x p q = p
unset-parts (suc k) (cs ∷ arms) [] x p q = p
unset-parts (suc k) (cs ∷ arms) (ds ∷ others) x p q =
    both_false (set_in (followed cs ds) x) (set_in_arms (arms_of (paired_to k arms others)) x)
    (unset-followed cs ds x (left_false (set_in cs x) (set_in_arms (arms_of arms) x) p) (left_false (set_in ds x) (set_in_arms (arms_of others) x) q))
    (unset-parts k arms others x (right_false (set_in cs x) (set_in_arms (arms_of arms) x) p) (right_false (set_in ds x) (set_in_arms (arms_of others) x) q))

-- how many arms there are
pub count-paired : (arms others : Arms) → arm_count (paired arms others) ≡ arm_count arms
count-paired no_arm others = refl
count-paired (more_arms cs arms) no_arm = refl
count-paired (more_arms cs arms) (more_arms ds others) = ap suc (count-paired arms others)

pub count-parts : (k : ℕ) (arms others : List Cmds) → arm_count (arms_of (paired_to k arms others)) ≡ arm_count (arms_of arms)
count-parts zero arms others = refl
count-parts (suc k) [] others = refl
count-parts (suc k) (cs ∷ arms) [] = refl
count-parts (suc k) (cs ∷ arms) (ds ∷ others) = ap suc (count-parts k arms others)

pub count-left : (k : ℕ) (others : List Cmds) → arm_count (arms_of (left_to k others)) ≡ arm_count (arms_of others)
count-left zero others = refl
count-left (suc k) [] = refl
count-left (suc k) (ds ∷ others) = ap suc (count-left k others)

pub count-listed : (arms : List Cmds) → arm_count (arms_of arms) ≡ length arms
count-listed [] = refl
count-listed (cs ∷ arms) = ap suc (count-listed arms)

-- how deep they are
deep-followed : (cs ds : Cmds) → depth_of_arms (more_arms (followed cs ds) no_arm) ≤ max (depth_of_arms (more_arms cs no_arm)) (depth_of_arms (more_arms ds no_arm))
deep-followed done ds = omega arith
deep-followed (and_then c done) done = omega arith
deep-followed (and_then c done) (and_then d ds) = omega arith
deep-followed (and_then c (and_then e cs)) done = omega (arith, deep-followed (and_then e cs) done)
deep-followed (and_then c (and_then e cs)) (and_then d ds) = omega (arith, deep-followed (and_then e cs) (and_then d ds))

deep-arm : (cs : Cmds) (arms : Arms) → depth_of_arms (more_arms cs arms) ≡ max (depth_of_arms (more_arms cs no_arm)) (depth_of_arms arms)
deep-arm done arms = omega arith
deep-arm (and_then c cs) arms = omega arith

deep-pair : (cs ds : Cmds) (arms others new : Arms) → depth_of_arms new ≤ max (depth_of_arms arms) (depth_of_arms others)
    → depth_of_arms (more_arms (followed cs ds) new) ≤ max (depth_of_arms (more_arms cs arms)) (depth_of_arms (more_arms ds others))
deep-pair cs ds arms others new h = omega (arith, h, deep-followed cs ds, deep-arm cs arms, deep-arm ds others, deep-arm (followed cs ds) new)

pub deep-paired : (arms others : Arms) → depth_of_arms (paired arms others) ≤ max (depth_of_arms arms) (depth_of_arms others)
deep-paired no_arm others = omega arith
deep-paired (more_arms cs arms) no_arm = omega arith
deep-paired (more_arms cs arms) (more_arms ds others) = deep-pair cs ds arms others (paired arms others) (deep-paired arms others)

pub deep-parts : (k : ℕ) (arms others : List Cmds) → depth_of_arms (arms_of (paired_to k arms others)) ≤ max (depth_of_arms (arms_of arms)) (depth_of_arms (arms_of others))
deep-parts zero arms others = omega arith
deep-parts (suc k) [] others = omega arith
deep-parts (suc k) (cs ∷ arms) [] = omega arith
deep-parts (suc k) (cs ∷ arms) (ds ∷ others) = deep-pair cs ds (arms_of arms) (arms_of others) (arms_of (paired_to k arms others)) (deep-parts k arms others)

pub deep-left : (k : ℕ) (others : List Cmds) → depth_of_arms (arms_of (left_to k others)) ≤ depth_of_arms (arms_of others)
deep-left zero others = omega arith
deep-left (suc k) [] = omega arith
deep-left (suc k) (ds ∷ others) = omega (arith, deep-left k others, deep-arm ds (arms_of others))

module _ (types : List ObcType) (earlier : List Machine) (m : Machine) where
  form-followed : (cs ds : Cmds) → HaveForm types earlier m cs → HaveForm types earlier m ds → HaveForm types earlier m (followed cs ds)
  form-followed done ds h g = g
  form-followed (and_then c cs) ds h g = (h.0, form-followed cs ds h.1 g)

  pub form-paired : (arms others : Arms) → ArmsHaveForm types earlier m arms → ArmsHaveForm types earlier m others → ArmsHaveForm types earlier m (paired arms others)
  form-paired no_arm others h g = h
  form-paired (more_arms cs arms) no_arm h g = h
  form-paired (more_arms cs arms) (more_arms ds others) h g = (form-followed cs ds h.0 g.0, form-paired arms others h.1 g.1)

  pub form-parts : (k : ℕ) (arms others : List Cmds) → ArmsHaveForm types earlier m (arms_of arms) → ArmsHaveForm types earlier m (arms_of others) → ArmsHaveForm types earlier m (arms_of (paired_to k arms others))
  form-parts zero arms others h g = h
  form-parts (suc k) [] others h g = h
  form-parts (suc k) (cs ∷ arms) [] h g = h
  form-parts (suc k) (cs ∷ arms) (ds ∷ others) h g = (form-followed cs ds h.0 g.0, form-parts k arms others h.1 g.1)

  pub form-left : (k : ℕ) (others : List Cmds) → ArmsHaveForm types earlier m (arms_of others) → ArmsHaveForm types earlier m (arms_of (left_to k others))
  form-left zero others g = g
  form-left (suc k) [] g = g
  form-left (suc k) (ds ∷ others) g = (tt, form-left k others g.1)

module _ (types : List ObcType) (insts : Names Behaviour) where
  pub after-followed : (cs ds : Cmds) (s : State) → after types insts (followed cs ds) s ≡ after types insts ds (after types insts cs s)
  after-followed done ds s = refl
  after-followed (and_then c cs) ds s = after-followed cs ds (after_one types insts c s)

  pub after-paired : (n : ℕ) (arms others : Arms) (s : State) → arm_count arms ≡ arm_count others → after_arm types insts n (paired arms others) s ≡ after_arm types insts n others (after_arm types insts n arms s)
  after-paired n no_arm no_arm s h = refl
  after-paired n no_arm (more_arms ds others) s h = absurd (omega (arith, h))
  after-paired n (more_arms cs arms) no_arm s h = absurd (omega (arith, h))
  after-paired zero (more_arms cs arms) (more_arms ds others) s h = after-followed cs ds s
  after-paired (suc n) (more_arms cs arms) (more_arms ds others) s h = after-paired n arms others s (omega (arith, h))

  pub after-parts : (k n : ℕ) (arms others : List Cmds) (s : State) → length arms ≡ length others
      → after_arm types insts n (arms_of (left_to k others)) (after_arm types insts n (arms_of (paired_to k arms others)) s) ≡ after_arm types insts n (arms_of others) (after_arm types insts n (arms_of arms) s)
  after-parts zero n arms others s h = refl
  after-parts (suc k) n [] [] s h = refl
  after-parts (suc k) n [] (ds ∷ others) s h = absurd (omega (arith, h))
  after-parts (suc k) n (cs ∷ arms) [] s h = absurd (omega (arith, h))
  after-parts (suc k) zero (cs ∷ arms) (ds ∷ others) s h = after-followed cs ds s
  after-parts (suc k) (suc n) (cs ∷ arms) (ds ∷ others) s h = after-parts k n arms others s (omega (arith, h))
