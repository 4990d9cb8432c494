-- A name that commands do not set keeps its value.
use Rattle.std.proofs.Common.{◌≡◌, ℕ, zero, suc, Bool, true, false, ◌||◌, List, [], ◌∷◌, map, if◌then◌else◌, refl, ap, ◌∙◌}
use Rattle.std.specs.Str.{bytes_eq}
use Rattle.std.proofs.lemmas.Slice.Eq.{bytes_eq-Decides}
use Rattle.hp_obc.specs.Commands.{Cmds, Cmd, Arms, done, and_then, set, call, restart, case_of, no_arm, more_arms}
use Rattle.hp_obc.specs.Machines.{ObcType}
use Rattle.hp_obc.specs.Values.{operated}
use Rattle.hp_obc.specs.Form.{has_name}
use Rattle.hp_obc.specs.Steps.{Names, State, Behaviour, after, after_one, after_arm, arm_number, argument, given, all_given}
use Rattle.hp_fuse.specs.Fusing.{set_in, set_by, set_in_arms}

pub one_name : (x y : List ℕ) → bytes_eq x y ≡ true → x ≡ y
one_name x y = (bytes_eq-Decides x y).0

pub left_false : (a b : Bool) → (a || b) ≡ false → a ≡ false
left_false true b h = absurd (cc)
left_false false b h = refl

pub right_false : (a b : Bool) → (a || b) ≡ false → b ≡ false
right_false true b h = absurd (cc)
right_false false b h = h

module _ {A : Type 0} where
  given-else : (y : List ℕ) (v : A) (names : Names A) (x : List ℕ) → bytes_eq y x ≡ false → given y v names x ≡ names x
  given-else y v names x h = ap (λ (d : Bool). if d then v else names x) h

  all_given-else : (ys : List (List ℕ)) (vs : List A) (names : Names A) (x : List ℕ) → has_name ys x ≡ false → all_given ys vs names x ≡ names x
  all_given-else [] vs names x h = refl
  all_given-else (y ∷ ys) [] names x h = refl
  all_given-else (y ∷ ys) (v ∷ vs) names x h =
      given-else y v (all_given ys vs names) x (left_false (bytes_eq y x) (has_name ys x) h) ∙ all_given-else ys vs names x (right_false (bytes_eq y x) (has_name ys x) h)

module _ (types : List ObcType) (insts : Names Behaviour) where
  mutual
    unset : (cs : Cmds) (x : List ℕ) (s : State) → set_in cs x ≡ false → (after types insts cs s).values x ≡ s.values x
    unset done x s h = refl
    unset (and_then c cs) x s h = unset cs x (after_one types insts c s) (right_false (set_by c x) (set_in cs x) h) ∙ unset_one c x s (left_false (set_by c x) (set_in cs x) h)

    unset_one : (c : Cmd) (x : List ℕ) (s : State) → set_by c x ≡ false → (after_one types insts c s).values x ≡ s.values x
    unset_one (set y op args) x s h = given-else y (operated op (map (argument types s.values) args)) s.values x h
    unset_one (call i outs args) x s h = all_given-else outs ((insts i).step (s.memories i) (map (argument types s.values) args)).outputs s.values x h
    unset_one (restart i) x s h = refl
    unset_one (case_of y arms) x s h = unset_arms (arm_number (s.values y)) arms x s h

    pub unset_arms : (n : ℕ) (arms : Arms) (x : List ℕ) (s : State) → set_in_arms arms x ≡ false → (after_arm types insts n arms s).values x ≡ s.values x
    unset_arms n no_arm x s h = refl
    unset_arms zero (more_arms cs arms) x s h = unset cs x s (left_false (set_in cs x) (set_in_arms arms x) h)
    unset_arms (suc n) (more_arms cs arms) x s h = unset_arms n arms x s (right_false (set_in cs x) (set_in_arms arms x) h)
