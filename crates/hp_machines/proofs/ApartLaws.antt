-- No neighbours are left to be joined.
use Rattle.std.proofs.Common.{◌≡◌, ◌≤◌, ◌+◌, ℕ, zero, suc, Bool, true, false, ◌&&◌, ◌||◌, List, if◌then◌else◌, refl, sym, ap, subst, ◌∙◌, arith}
use Rattle.std.specs.Prelude.{⊤, not, ◌==◌}
use Rattle.std.specs.Str.{bytes_eq}
use Rattle.hp_obc.specs.Commands.{Cmds, Cmd, Arms, done, and_then, set, call, restart, case_of, no_arm, more_arms}
use Rattle.hp_obc.specs.Form.{MachineForm, arm_count, depth, depth_of_one, depth_of_arms}
use Rattle.hp_obc.specs.Machines.{ObcType, Machine}
use Rattle.hp_fuse.specs.Fusing.{set_in, set_by, set_in_arms, is_steady, ask_the_same, is_joinable, followed, paired, as_one, led_by, joined, in_arms, within, all_within, fused_to, fused_machine}
use Rattle.hp_fuse.specs.Likeness.{AreAlike}
use Rattle.hp_fuse.proofs.Unset.{one_name}
use Rattle.hp_fuse.proofs.PairLaws.{count-paired}
use Rattle.hp_fuse.proofs.JoinLaws.{both-left, both-right, same_number}
use Rattle.hp_fuse.proofs.LedLaws.{steady-second, same-both, one-steady, led-if}
use Rattle.hp_fuse.proofs.LevelLaws.{alike-joined}
use Rattle.hp_machines.specs.Apart.{IsApartFrom, AreApart, IsApart, ArmsAreApart, ApartLaw}

-- ---- one of two cases that are joined asks what both did

asked-second : (c d e : Cmd) → ask_the_same c d ≡ true → ask_the_same (as_one c d) e ≡ ask_the_same d e
asked-second (set x op args) d e h = absurd (cc)
asked-second (call i outs args) d e h = absurd (cc)
asked-second (restart i) d e h = absurd (cc)
asked-second (case_of x arms) (set y op args) e h = absurd (cc)
asked-second (case_of x arms) (call i outs args) e h = absurd (cc)
asked-second (case_of x arms) (restart i) e h = absurd (cc)
asked-second (case_of x arms) (case_of y others) (set z op args) h = refl
asked-second (case_of x arms) (case_of y others) (call i outs args) h = refl
asked-second (case_of x arms) (case_of y others) (restart i) h = refl
asked-second (case_of x arms) (case_of y others) (case_of z more) h =
    let e : x ≡ y = one_name x y (both-left (bytes_eq x y) (arm_count arms == arm_count others) h) in
    let n : arm_count arms ≡ arm_count others = same_number (arm_count arms) (arm_count others) (both-right (bytes_eq x y) (arm_count arms == arm_count others) h) in
    λ i. bytes_eq (e i) z && (count-paired arms others ∙ n) i == arm_count more

joinable-second : (c d e : Cmd) → is_joinable c d ≡ true → is_joinable (as_one c d) e ≡ is_joinable d e
joinable-second c d e h = λ i. (one-steady c d h ∙ sym (steady-second c d h)) i && (is_steady e && asked-second c d e (same-both c d h) i)

-- ---- neighbours, but for those within arms

abbrev TopApart : Cmds → Type 0
TopApart done = ⊤
TopApart (and_then c cs) = IsApartFrom c cs × TopApart cs

from-one : (c d : Cmd) (ds : Cmds) → is_joinable c d ≡ true → IsApartFrom d ds → IsApartFrom (as_one c d) ds
from-one c d done h k = tt
from-one c d (and_then e es) h k = joinable-second c d e h ∙ k

top-by : (c d : Cmd) (ds : Cmds) (b : Bool) → is_joinable c d ≡ b → TopApart (and_then d ds) → TopApart (if b then and_then (as_one c d) ds else and_then c (and_then d ds))
top-by c d ds true h k = (from-one c d ds h k.0, k.1)
top-by c d ds false h k = (h, k)

top-led : (c : Cmd) (ds : Cmds) → TopApart ds → TopApart (led_by c ds)
top-led c done k = (tt, tt)
top-led c (and_then d ds) k = subst TopApart (sym (led-if c d ds (is_joinable c d) refl)) (top-by c d ds (is_joinable c d) refl k)

top-joined : (cs : Cmds) → TopApart (joined cs)
top-joined done = tt
top-joined (and_then c cs) = top-led c (joined cs) (top-joined cs)

-- ---- the names that are set

or-again : (a b c : Bool) → ((a || b) || c) ≡ (a || (b || c))
or-again true b c = refl
or-again false b c = refl

or-both : (a b c d : Bool) → ((a || b) || (c || d)) ≡ ((a || c) || (b || d))
or-both true b c d = refl
or-both false true true d = refl
or-both false true false d = refl
or-both false false c d = refl

set-followed : (cs ds : Cmds) (x : List ℕ) → set_in (followed cs ds) x ≡ (set_in cs x || set_in ds x)
set-followed done ds x = refl
set-followed (and_then c cs) ds x = ap (λ b. set_by c x || b) (set-followed cs ds x) ∙ sym (or-again (set_by c x) (set_in cs x) (set_in ds x))

set-paired : (arms others : Arms) (x : List ℕ) → arm_count arms ≡ arm_count others → set_in_arms (paired arms others) x ≡ (set_in_arms arms x || set_in_arms others x)
set-paired no_arm no_arm x h = refl
set-paired no_arm (more_arms ds others) x h = absurd (omega (arith, h))
set-paired (more_arms cs arms) no_arm x h = absurd (omega (arith, h))
set-paired (more_arms cs arms) (more_arms ds others) x h =
    (λ i. set-followed cs ds x i || set-paired arms others x (omega (arith, h)) i) ∙ or-both (set_in cs x) (set_in ds x) (set_in_arms arms x) (set_in_arms others x)

set-one : (c d : Cmd) (x : List ℕ) → ask_the_same c d ≡ true → set_by (as_one c d) x ≡ (set_by c x || set_by d x)
set-one (set y op args) d x h = absurd (cc)
set-one (call i outs args) d x h = absurd (cc)
set-one (restart i) d x h = absurd (cc)
set-one (case_of y arms) (set z op args) x h = absurd (cc)
set-one (case_of y arms) (call i outs args) x h = absurd (cc)
set-one (case_of y arms) (restart i) x h = absurd (cc)
set-one (case_of y arms) (case_of z others) x h = set-paired arms others x (same_number (arm_count arms) (arm_count others) (both-right (bytes_eq y z) (arm_count arms == arm_count others) h))

set-by-case : (c d : Cmd) (ds : Cmds) (x : List ℕ) (b : Bool) → is_joinable c d ≡ b → set_in (if b then and_then (as_one c d) ds else and_then c (and_then d ds)) x ≡ (set_by c x || (set_by d x || set_in ds x))
set-by-case c d ds x true h = ap (λ z. z || set_in ds x) (set-one c d x (same-both c d h)) ∙ or-again (set_by c x) (set_by d x) (set_in ds x)
set-by-case c d ds x false h = refl

set-led : (c : Cmd) (ds : Cmds) (x : List ℕ) → set_in (led_by c ds) x ≡ (set_by c x || set_in ds x)
set-led c done x = refl
set-led c (and_then d ds) x = ap (λ z. set_in z x) (led-if c d ds (is_joinable c d) refl) ∙ set-by-case c d ds x (is_joinable c d) refl

set-joined : (cs : Cmds) (x : List ℕ) → set_in (joined cs) x ≡ set_in cs x
set-joined done x = refl
set-joined (and_then c cs) x = set-led c (joined cs) x ∙ ap (λ z. set_by c x || z) (set-joined cs x)

module _ (f : Cmds → Cmds) (keeps : (cs : Cmds) (x : List ℕ) → set_in (f cs) x ≡ set_in cs x) where
  set-arms : (arms : Arms) (x : List ℕ) → set_in_arms (in_arms f arms) x ≡ set_in_arms arms x
  set-arms no_arm x = refl
  set-arms (more_arms cs arms) x = λ i. keeps cs x i || set-arms arms x i

  set-within : (c : Cmd) (x : List ℕ) → set_by (within f c) x ≡ set_by c x
  set-within (set y op args) x = refl
  set-within (call j outs args) x = refl
  set-within (restart j) x = refl
  set-within (case_of y arms) x = set-arms arms x

  set-all : (cs : Cmds) (x : List ℕ) → set_in (all_within f cs) x ≡ set_in cs x
  set-all done x = refl
  set-all (and_then c cs) x = λ i. set-within c x i || set-all cs x i

  steady-within : (c : Cmd) → is_steady (within f c) ≡ is_steady c
  steady-within (set y op args) = refl
  steady-within (call j outs args) = refl
  steady-within (restart j) = refl
  steady-within (case_of y arms) = ap not (set-arms arms y)

  count-arms : (arms : Arms) → arm_count (in_arms f arms) ≡ arm_count arms
  count-arms no_arm = refl
  count-arms (more_arms cs arms) = let h = count-arms arms in omega (arith, h)

  asks-within : (c d : Cmd) → ask_the_same (within f c) (within f d) ≡ ask_the_same c d
  asks-within (set y op args) d = refl
  asks-within (call j outs args) d = refl
  asks-within (restart j) d = refl
  asks-within (case_of y arms) (set z op args) = refl
  asks-within (case_of y arms) (call j outs args) = refl
  asks-within (case_of y arms) (restart j) = refl
  asks-within (case_of y arms) (case_of z others) = λ i. bytes_eq y z && count-arms arms i == count-arms others i

  joinable-within : (c d : Cmd) → is_joinable (within f c) (within f d) ≡ is_joinable c d
  joinable-within c d = λ i. steady-within c i && (steady-within d i && asks-within c d i)

  from-within : (c : Cmd) (cs : Cmds) → IsApartFrom c cs → IsApartFrom (within f c) (all_within f cs)
  from-within c done h = tt
  from-within c (and_then d ds) h = joinable-within c d ∙ h

  module _ (n : ℕ) (nothing : AreApart (f done)) (apart : (cs : Cmds) → depth cs + 1 ≤ n → AreApart (f cs)) where
    arms-apart : (arms : Arms) → depth_of_arms arms ≤ n → ArmsAreApart (in_arms f arms)
    arms-apart no_arm h = tt
    arms-apart (more_arms done arms) h = (nothing, arms-apart arms h)
    arms-apart (more_arms (and_then c cs) arms) h = (apart (and_then c cs) (omega (arith, h)), arms-apart arms (omega (arith, h)))

    one-apart : (c : Cmd) → depth_of_one c ≤ n → IsApart (within f c)
    one-apart (set y op args) h = tt
    one-apart (call j outs args) h = tt
    one-apart (restart j) h = tt
    one-apart (case_of y arms) h = arms-apart arms h

    all-apart : (cs : Cmds) → TopApart cs → depth cs ≤ n → AreApart (all_within f cs)
    all-apart done k h = tt
    all-apart (and_then c cs) k h = (one-apart c (omega (arith, h)), from-within c cs k.0, all-apart cs k.1 (omega (arith, h)))

set-fused : (n : ℕ) (cs : Cmds) (x : List ℕ) → set_in (fused_to n cs) x ≡ set_in cs x
set-fused zero cs x = refl
set-fused (suc n) cs x = set-all (fused_to n) (set-fused n) (joined cs) x ∙ set-joined cs x

-- ---- as many levels as there are

nothing-apart : (n : ℕ) → AreApart (fused_to n done)
nothing-apart zero = tt
nothing-apart (suc n) = tt

not_deeper : (cs ds : Cmds) → depth_of_arms (more_arms ds no_arm) ≤ depth_of_arms (more_arms cs no_arm) → depth ds ≤ depth cs
not_deeper cs done h = omega arith
not_deeper done (and_then d ds) h = absurd (omega (arith, h))
not_deeper (and_then c cs) (and_then d ds) h = omega (arith, h)

fused-apart : (n : ℕ) (cs : Cmds) → depth cs + 1 ≤ n → AreApart (fused_to n cs)
fused-apart zero cs h = absurd (omega (arith, h))
fused-apart (suc n) cs h =
    let alike = alike-joined cs in
    let shallow = not_deeper cs (joined cs) alike.deep in
    all-apart (fused_to n) (set-fused n) n (nothing-apart n) (fused-apart n) (joined cs) (top-joined cs) (omega (arith, h, shallow))

pub machine-apart : ApartLaw
machine-apart types earlier m form = let deep = form.deep in fused-apart 301 m.step (omega (arith, deep))
