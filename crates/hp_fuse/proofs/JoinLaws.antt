-- Two cases on one variable that neither sets are as good as one.
use Rattle.std.proofs.Common.{◌≡◌, ◌≤◌, ℕ, Bool, true, false, ◌&&◌, List, length, refl, sym, ap, ◌∙◌, subst, arith}
use Rattle.std.specs.Prelude.{not, ◌==◌, Some}
use Rattle.std.specs.Str.{bytes_eq}
use Rattle.std.proofs.lemmas.Bool.Decides.{Decides-eqb}
use Rattle.hp_obc.specs.Commands.{Cmds, Cmd, Arms, done, and_then, set, call, restart, case_of, no_arm, more_arms, arms_of}
use Rattle.hp_obc.specs.Machines.{ObcType}
use Rattle.hp_obc.specs.Form.{arm_count, depth_of_arms}
use Rattle.hp_obc.specs.Steps.{Names, State, Behaviour, after, after_arm, arm_number}
use Rattle.hp_fuse.specs.Fusing.{set_in_arms, is_steady, ask_the_same, paired, as_one}
use Rattle.hp_fuse.specs.Likeness.{AreAlike}
use Rattle.hp_fuse.specs.Joining.{paired_to, left_to, ArePartlyOne}
use Rattle.hp_fuse.proofs.Unset.{one_name, unset_arms}
use Rattle.hp_fuse.proofs.PairLaws.{unset-parts, count-paired, count-parts, count-left, count-listed, deep-paired, deep-parts, deep-left, form-paired, form-parts, form-left, after-paired, after-parts}

pub both-left : (a b : Bool) → (a && b) ≡ true → a ≡ true
both-left true b h = refl
both-left false b h = absurd (cc)

pub both-right : (a b : Bool) → (a && b) ≡ true → b ≡ true
both-right true b h = h
both-right false b h = absurd (cc)

pub unset_of : (b : Bool) → not b ≡ true → b ≡ false
unset_of true h = absurd (cc)
unset_of false h = refl

pub same_number : (m n : ℕ) → (m == n) ≡ true → m ≡ n
same_number m n h = (Decides-eqb m n).0 h

module _ (types : List ObcType) (insts : Names Behaviour) where
  -- the second of two cases chooses as the first does
  chosen : (x y : List ℕ) (arms others : Arms) (s : State) → x ≡ y → set_in_arms arms x ≡ false
      → after_arm types insts (arm_number ((after_arm types insts (arm_number (s.values x)) arms s).values y)) others (after_arm types insts (arm_number (s.values x)) arms s)
      ≡ after_arm types insts (arm_number (s.values x)) others (after_arm types insts (arm_number (s.values x)) arms s)
  chosen x y arms others s e u =
      let t : State = after_arm types insts (arm_number (s.values x)) arms s in
      ap (λ v. after_arm types insts (arm_number v) others t) (sym (ap t.values e) ∙ unset_arms types insts (arm_number (s.values x)) arms x s u)

  does_one : (x y : List ℕ) (arms others : Arms) (s : State) → x ≡ y → arm_count arms ≡ arm_count others → set_in_arms arms x ≡ false
      → after_arm types insts (arm_number (s.values x)) (paired arms others) s
      ≡ after_arm types insts (arm_number ((after_arm types insts (arm_number (s.values x)) arms s).values y)) others (after_arm types insts (arm_number (s.values x)) arms s)
  does_one x y arms others s e n u = after-paired types insts (arm_number (s.values x)) arms others s n ∙ sym (chosen x y arms others s e u)

  does_parts : (k : ℕ) (x y : List ℕ) (arms others : List Cmds) (s : State) → x ≡ y → length arms ≡ length others → set_in_arms (arms_of arms) x ≡ false → set_in_arms (arms_of others) x ≡ false
      → after types insts (and_then (case_of x (arms_of (paired_to k arms others))) (and_then (case_of y (arms_of (left_to k others))) done)) s
      ≡ after types insts (and_then (case_of x (arms_of arms)) (and_then (case_of y (arms_of others)) done)) s
  does_parts k x y arms others s e n u w =
      chosen x y (arms_of (paired_to k arms others)) (arms_of (left_to k others)) s e (unset-parts k arms others x u w)
      ∙ after-parts types insts k (arm_number (s.values x)) arms others s n
      ∙ sym (chosen x y (arms_of arms) (arms_of others) s e u)

deep_one : (x y : List ℕ) (arms others : Arms) (cs : Cmds) → depth_of_arms (more_arms (and_then (case_of x (paired arms others)) cs) no_arm) ≤ depth_of_arms (more_arms (and_then (case_of x arms) (and_then (case_of y others) cs)) no_arm)
deep_one x y arms others cs = omega (arith, deep-paired arms others)

one_by : (x y : List ℕ) (arms others : Arms) (cs : Cmds) → x ≡ y → arm_count arms ≡ arm_count others → set_in_arms arms x ≡ false
    → AreAlike (and_then (case_of x arms) (and_then (case_of y others) cs)) (and_then (case_of x (paired arms others)) cs)
one_by x y arms others cs e n u = record {
  does = λ types insts s. ap (after types insts cs) (does_one types insts x y arms others s e n u);
  form = λ types earlier m h. ((h.0.0 ∙ ap Some (sym (count-paired arms others)), form-paired types earlier m arms others h.0.1 h.1.0.1), h.1.1);
  deep = deep_one x y arms others cs;
}

-- two cases, and the one that they make
pub one_alike : (c d : Cmd) (cs : Cmds) → is_steady c ≡ true → ask_the_same c d ≡ true → AreAlike (and_then c (and_then d cs)) (and_then (as_one c d) cs)
one_alike (set x op args) d cs p q = absurd (cc)
one_alike (call i outs args) d cs p q = absurd (cc)
one_alike (restart i) d cs p q = absurd (cc)
one_alike (case_of x arms) (set y op args) cs p q = absurd (cc)
one_alike (case_of x arms) (call i outs args) cs p q = absurd (cc)
one_alike (case_of x arms) (restart i) cs p q = absurd (cc)
one_alike (case_of x arms) (case_of y others) cs p q =
    one_by x y arms others cs (one_name x y (both-left (bytes_eq x y) (arm_count arms == arm_count others) q))
    (same_number (arm_count arms) (arm_count others) (both-right (bytes_eq x y) (arm_count arms == arm_count others) q)) (unset_of (set_in_arms arms x) p)

parts_by : (k : ℕ) (x y : List ℕ) (arms others : List Cmds) (cs : Cmds) → x ≡ y → length arms ≡ length others → set_in_arms (arms_of arms) x ≡ false → set_in_arms (arms_of others) x ≡ false
    → AreAlike (and_then (case_of x (arms_of arms)) (and_then (case_of y (arms_of others)) cs)) (and_then (case_of x (arms_of (paired_to k arms others))) (and_then (case_of y (arms_of (left_to k others))) cs))
parts_by k x y arms others cs e n u w = record {
  does = λ types insts s. ap (after types insts cs) (does_parts types insts k x y arms others s e n u w);
  form = λ types earlier m h. (
    (h.0.0 ∙ ap Some (sym (count-parts k arms others)), form-parts types earlier m k arms others h.0.1 h.1.0.1),
    ((h.1.0.0 ∙ ap Some (sym (count-left k others)), form-left types earlier m k others h.1.0.1), h.1.1),
  );
  deep = omega (arith, deep-parts k arms others, deep-left k others);
}

-- two cases, and two that share anew what they do
pub parts_alike : (c d new left : Cmd) (cs : Cmds) → is_steady c ≡ true → is_steady d ≡ true → ask_the_same c d ≡ true → ArePartlyOne c d new left
    → AreAlike (and_then c (and_then d cs)) (and_then new (and_then left cs))
parts_alike c d new left cs p q r h =
    let steady : is_steady (case_of h.x (arms_of h.arms)) ≡ true = ap is_steady (sym h.first) ∙ p in
    let also : is_steady (case_of h.y (arms_of h.others)) ≡ true = ap is_steady (sym h.second) ∙ q in
    let same : ask_the_same (case_of h.x (arms_of h.arms)) (case_of h.y (arms_of h.others)) ≡ true = (λ i. ask_the_same (sym h.first i) (sym h.second i)) ∙ r in
    let e : h.x ≡ h.y = one_name h.x h.y (both-left (bytes_eq h.x h.y) (arm_count (arms_of h.arms) == arm_count (arms_of h.others)) same) in
    let n : arm_count (arms_of h.arms) ≡ arm_count (arms_of h.others) =
    same_number (arm_count (arms_of h.arms)) (arm_count (arms_of h.others)) (both-right (bytes_eq h.x h.y) (arm_count (arms_of h.arms) == arm_count (arms_of h.others)) same) in
    let whole : AreAlike (and_then (case_of h.x (arms_of h.arms)) (and_then (case_of h.y (arms_of h.others)) cs))
    (and_then (case_of h.x (arms_of (paired_to h.number h.arms h.others))) (and_then (case_of h.y (arms_of (left_to h.number h.others))) cs)) =
    parts_by h.number h.x h.y h.arms h.others cs e (sym (count-listed h.arms) ∙ n ∙ count-listed h.others) (unset_of (set_in_arms (arms_of h.arms) h.x) steady)
    (ap (set_in_arms (arms_of h.others)) e ∙ unset_of (set_in_arms (arms_of h.others) h.y) also) in
    subst (λ z. AreAlike (and_then c (and_then d cs)) (and_then new (and_then z cs))) (sym h.emptied)
    (subst (λ z. AreAlike (and_then c (and_then d cs)) (and_then z (and_then (case_of h.y (arms_of (left_to h.number h.others))) cs))) (sym h.paired)
    (subst (λ z. AreAlike (and_then c (and_then z cs)) (and_then (case_of h.x (arms_of (paired_to h.number h.arms h.others))) (and_then (case_of h.y (arms_of (left_to h.number h.others))) cs))) (sym h.second)
    (subst (λ z. AreAlike (and_then z (and_then (case_of h.y (arms_of h.others)) cs)) (and_then (case_of h.x (arms_of (paired_to h.number h.arms h.others))) (and_then (case_of h.y (arms_of (left_to h.number h.others))) cs))) (sym h.first) whole)))
