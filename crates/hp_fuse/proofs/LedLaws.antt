-- What leads commands that are joined.
use Rattle.std.proofs.Common.{◌≡◌, Bool, true, false, ◌&&◌, if◌then◌else◌, refl, sym, ap, ◌∙◌, arith}
use Rattle.std.specs.Prelude.{not, ◌==◌}
use Rattle.std.specs.Str.{bytes_eq}
use Rattle.hp_obc.specs.Commands.{Cmds, Cmd, Arms, done, and_then, set, call, restart, case_of, no_arm, more_arms}
use Rattle.hp_obc.specs.Form.{arm_count}
use Rattle.hp_fuse.specs.Fusing.{set_in_arms, is_steady, ask_the_same, is_joinable, paired, as_one, led_by}
use Rattle.hp_fuse.proofs.Unset.{one_name}
use Rattle.hp_fuse.proofs.PairLaws.{followed-assoc, unset-paired, count-paired}
use Rattle.hp_fuse.proofs.JoinLaws.{both-left, both-right, same_number, unset_of}

-- what is asked of two cases that are joined
pub steady-first : (c d : Cmd) → is_joinable c d ≡ true → is_steady c ≡ true
steady-first c d h = both-left (is_steady c) (is_steady d && ask_the_same c d) h

pub steady-second : (c d : Cmd) → is_joinable c d ≡ true → is_steady d ≡ true
steady-second c d h = both-left (is_steady d) (ask_the_same c d) (both-right (is_steady c) (is_steady d && ask_the_same c d) h)

pub same-both : (c d : Cmd) → is_joinable c d ≡ true → ask_the_same c d ≡ true
same-both c d h = both-right (is_steady d) (ask_the_same c d) (both-right (is_steady c) (is_steady d && ask_the_same c d) h)

-- one of two cases asks what both did, and is steady
pub one-steady : (c d : Cmd) → is_joinable c d ≡ true → is_steady (as_one c d) ≡ true
one-steady (set x op args) d h = absurd (cc)
one-steady (call i outs args) d h = absurd (cc)
one-steady (restart i) d h = absurd (cc)
one-steady (case_of x arms) (set y op args) h = let k : false ≡ true = steady-second (case_of x arms) (set y op args) h in absurd (cc)
one-steady (case_of x arms) (call i outs args) h = let k : false ≡ true = steady-second (case_of x arms) (call i outs args) h in absurd (cc)
one-steady (case_of x arms) (restart i) h = let k : false ≡ true = steady-second (case_of x arms) (restart i) h in absurd (cc)
one-steady (case_of x arms) (case_of y others) h =
    let e : x ≡ y = one_name x y (both-left (bytes_eq x y) (arm_count arms == arm_count others) (same-both (case_of x arms) (case_of y others) h)) in
    ap not (unset-paired arms others x (unset_of (set_in_arms arms x) (steady-first (case_of x arms) (case_of y others) h))
    (ap (set_in_arms others) e ∙ unset_of (set_in_arms others y) (steady-second (case_of x arms) (case_of y others) h)))

-- what is in front of one of them
asked-first : (c d e : Cmd) → ask_the_same d e ≡ true → ask_the_same c (as_one d e) ≡ ask_the_same c d
asked-first c (set y op args) e h = absurd (cc)
asked-first c (call i outs args) e h = absurd (cc)
asked-first c (restart i) e h = absurd (cc)
asked-first c (case_of y others) (set z op args) h = absurd (cc)
asked-first c (case_of y others) (call i outs args) h = absurd (cc)
asked-first c (case_of y others) (restart i) h = absurd (cc)
asked-first (set x op args) (case_of y others) (case_of z more) h = refl
asked-first (call i outs args) (case_of y others) (case_of z more) h = refl
asked-first (restart i) (case_of y others) (case_of z more) h = refl
asked-first (case_of x arms) (case_of y others) (case_of z more) h = ap (λ n. bytes_eq x y && arm_count arms == n) (count-paired others more)

pub joinable-first : (c d e : Cmd) → is_joinable d e ≡ true → is_joinable c (as_one d e) ≡ is_joinable c d
joinable-first c d e h = λ i. is_steady c && ((one-steady d e h ∙ sym (steady-first d e h)) i && asked-first c d e (same-both d e h) i)

-- and behind it
asked-second : (c d e : Cmd) → ask_the_same c d ≡ true → ask_the_same (as_one c d) e ≡ ask_the_same d e
asked-second (set x op args) d e h = absurd (cc)
asked-second (call i outs args) d e h = absurd (cc)
asked-second (restart i) d e h = absurd (cc)
asked-second (case_of x arms) (set y op args) e h = absurd (cc)
asked-second (case_of x arms) (call i outs args) e h = absurd (cc)
asked-second (case_of x arms) (restart i) e h = absurd (cc)
asked-second (case_of x arms) (case_of y others) (set z op args) h = refl
asked-second (case_of x arms) (case_of y others) (call i outs args) h = refl
asked-second (case_of x arms) (case_of y others) (restart i) h = refl
asked-second (case_of x arms) (case_of y others) (case_of z more) h =
    let e : x ≡ y = one_name x y (both-left (bytes_eq x y) (arm_count arms == arm_count others) h) in
    let n : arm_count arms ≡ arm_count others = same_number (arm_count arms) (arm_count others) (both-right (bytes_eq x y) (arm_count arms == arm_count others) h) in
    λ i. bytes_eq (e i) z && (count-paired arms others ∙ n) i == arm_count more

joinable-second : (c d e : Cmd) → is_joinable c d ≡ true → is_joinable (as_one c d) e ≡ is_joinable d e
joinable-second c d e h = λ i. (one-steady c d h ∙ sym (steady-second c d h)) i && (is_steady e && asked-second c d e (same-both c d h) i)

paired-assoc : (arms others more : Arms) → arm_count arms ≡ arm_count others → paired (paired arms others) more ≡ paired arms (paired others more)
paired-assoc no_arm others more h = refl
paired-assoc (more_arms cs arms) no_arm more h = absurd (omega (arith, h))
paired-assoc (more_arms cs arms) (more_arms ds others) no_arm h = refl
paired-assoc (more_arms cs arms) (more_arms ds others) (more_arms es more) h = λ i. more_arms (followed-assoc cs ds es i) (paired-assoc arms others more (omega (arith, h)) i)

one-assoc : (c d e : Cmd) → ask_the_same c d ≡ true → ask_the_same d e ≡ true → as_one (as_one c d) e ≡ as_one c (as_one d e)
one-assoc (set x op args) d e h g = absurd (cc)
one-assoc (call i outs args) d e h g = absurd (cc)
one-assoc (restart i) d e h g = absurd (cc)
one-assoc (case_of x arms) (set y op args) e h g = absurd (cc)
one-assoc (case_of x arms) (call i outs args) e h g = absurd (cc)
one-assoc (case_of x arms) (restart i) e h g = absurd (cc)
one-assoc (case_of x arms) (case_of y others) (set z op args) h g = absurd (cc)
one-assoc (case_of x arms) (case_of y others) (call i outs args) h g = absurd (cc)
one-assoc (case_of x arms) (case_of y others) (restart i) h g = absurd (cc)
one-assoc (case_of x arms) (case_of y others) (case_of z more) h g =
    ap (case_of x) (paired-assoc arms others more (same_number (arm_count arms) (arm_count others) (both-right (bytes_eq x y) (arm_count arms == arm_count others) h)))

pub led-if : (c d : Cmd) (ds : Cmds) (b : Bool) → is_joinable c d ≡ b → led_by c (and_then d ds) ≡ (if b then and_then (as_one c d) ds else and_then c (and_then d ds))
led-if c d ds b h = ap (λ z. if z then and_then (as_one c d) ds else and_then c (and_then d ds)) h

-- commands that are not joined
apart_by : (c d e : Cmd) (ds : Cmds) (b : Bool) → is_joinable d e ≡ b → is_joinable c d ≡ false → led_by c (if b then and_then (as_one d e) ds else and_then d (and_then e ds)) ≡ and_then c (if b then and_then (as_one d e) ds else and_then d (and_then e ds))
apart_by c d e ds true h g = led-if c (as_one d e) ds false (joinable-first c d e h ∙ g)
apart_by c d e ds false h g = led-if c d (and_then e ds) false g

pub led-apart : (c d : Cmd) (ds : Cmds) → is_joinable c d ≡ false → led_by c (led_by d ds) ≡ and_then c (led_by d ds)
led-apart c d done g = led-if c d done false g
led-apart c d (and_then e ds) g = apart_by c d e ds (is_joinable d e) refl g

-- commands that are joined
one_by : (c d e : Cmd) (ds : Cmds) (b : Bool) → is_joinable d e ≡ b → is_joinable c d ≡ true
    → led_by c (if b then and_then (as_one d e) ds else and_then d (and_then e ds)) ≡ (if b then and_then (as_one (as_one c d) e) ds else and_then (as_one c d) (and_then e ds))
one_by c d e ds true h g = led-if c (as_one d e) ds true (joinable-first c d e h ∙ g) ∙ ap (λ z. and_then z ds) (sym (one-assoc c d e (same-both c d g) (same-both d e h)))
one_by c d e ds false h g = led-if c d (and_then e ds) true g

pub led-one : (c d : Cmd) (ds : Cmds) → is_joinable c d ≡ true → led_by c (led_by d ds) ≡ led_by (as_one c d) ds
led-one c d done g = led-if c d done true g
led-one c d (and_then e ds) g = one_by c d e ds (is_joinable d e) refl g ∙ sym (led-if (as_one c d) e ds (is_joinable d e) (joinable-second c d e g))
