-- Reactions remain where equations define other variables, and the copies of these go.
use Rattle.std.proofs.Common.{◌≡◌, ◌≤◌, ◌<◌, ℕ, nat_eq, Bool, true, false, ◌||◌, ◌&&◌, not, if◌then◌else◌, map, List, [], ◌∷◌, Option, Some, None, inl, inr, refl, sym, ap, subst, ◌∙◌, arith}
use Rattle.std.specs.List.{AllByRecursion, filter, flat_map}
use Rattle.std.proofs.lemmas.Bool.{eqb-true, eq-eqb}
use Rattle.hp_base.specs.Kinds.{KindData}
use Rattle.hp_base.specs.declared.value.Value.{Value}
use Rattle.hp_base.specs.declared.value.Value.TheVariants.{Absent}
use Rattle.hp_obc.specs.Steps.{Names}
use Rattle.hp_flat.specs.declared.equation.Atom.{Atom}
use Rattle.hp_flat.specs.declared.equation.Atom.TheVariants.{Variable, Value as Fixed}
use Rattle.hp_flat.specs.Equations.{FlatEqn}
use Rattle.hp_flat.specs.Nodes.{FlatNode}
use Rattle.law_equations.specs.Meaning.Instants.{Instant, holds}
use Rattle.law_equations.specs.Meaning.Reactions.{Answers, has, is_set, inputs_of, Holds, Continues, Reaction}
use Rattle.law_equations.specs.Meaning.Fitting.{is_there, IsThere, is_flag, operands, EqnFits, Fits}
use Rattle.law_equations.specs.Meaning.Scheduling.{clock_variables}
use Rattle.hp_normal.specs.Reading.{count, only, copied, both, copy_of, eqn_reads}
use Rattle.hp_normal.specs.Retargeting.{moved, after_move, ends, goes_on, is_moved, with_targets, retargeted}
use Rattle.hp_normal.specs.Following.{defined, EndsAre, AreBehind}
use Rattle.hp_normal.proofs.DefinerLaws.{count-append}
use Rattle.hp_normal.proofs.EndsLaws.{ends_law}
use Rattle.hp_normal.proofs.CopyLaws.{copy-target, copy-reads, copy-needs, copies-behind, moved-copy, moved-once, right-more}
use Rattle.law_equations.specs.Fewer.Keeping.{Remains}
use Rattle.law_equations.proofs.FewerLemmas.Members.{Among, each_among, each_counted, has-count, among-count, one_of, SetBy, set_by, sets, kept_among}
use Rattle.law_equations.proofs.FewerLemmas.AlikeLaws.{Same, holds-same, restarted-same, EqnPassed, Passed, passes-reaction, passes-fits, passes-outputs}
use Rattle.law_equations.proofs.FewerLemmas.CopyFacts.{copy-says, moved-no_input, moved-on, Moved, moves-at}
use Rattle.law_equations.proofs.FewerLemmas.SameReads.{clock-read, operands-read, restart-read, right-same, taken-alike, clock-fits-same, absent-by, not-both}

-- ---- small laws

no_false : (b : Bool) → not b ≡ false → b ≡ true
no_false true h = refl
no_false false h = absurd (cc)

no_true : (b : Bool) → not b ≡ true → b ≡ false
no_true false h = refl
no_true true h = absurd (cc)

or_both : (a b : Bool) → a ≡ false → b ≡ false → (a || b) ≡ false
or_both true b h g = absurd (cc)
or_both false b h g = g

and_none : (a b : Bool) → b ≡ false → (a && b) ≡ false
and_none true b h = h
and_none false b h = refl

both_true : (a c : Bool) → (a && c) ≡ true → (a ≡ true) × (c ≡ true)
both_true true c h = (refl, h)
both_true false c h = absurd (cc)

none_has : (d : Bool) (xs : List ℕ) (x : ℕ) → has xs x ≡ d → count x xs ≡ 0 → d ≡ false
none_has true xs x e h = absurd (omega (arith, has-count xs x e, h))
none_has false xs x e h = refl

-- a variable that no equation defines is not set
unset-undefined : (es : List FlatEqn) (now : Instant) (y : ℕ) → count y (defined es) ≡ 0 → is_set es now y ≡ false
unset-undefined [] now y h = refl
unset-undefined (e ∷ es) now y h =
    or_both (holds e.clock now && has e.targets y) (is_set es now y)
    (and_none (holds e.clock now) (has e.targets y) (none_has (has e.targets y) e.targets y refl (omega (arith, h, count-append y e.targets (defined es)))))
    (unset-undefined es now y (omega (arith, h, count-append y e.targets (defined es))))

has_mapped : (r : ℕ → ℕ) (xs : List ℕ) (z : ℕ) → has xs z ≡ true → has (map r xs) (r z) ≡ true
has_mapped r [] z h = absurd (cc)
has_mapped r (x ∷ xs) z h = mapped_by (nat_eq x z) refl h (has_mapped r xs z)
  where
    or_true : (b : Bool) → (b || true) ≡ true
    or_true true = refl
    or_true false = refl

    mapped_by : (d : Bool) → nat_eq x z ≡ d → (d || has xs z) ≡ true → (has xs z ≡ true → has (map r xs) (r z) ≡ true) → (nat_eq (r x) (r z) || has (map r xs) (r z)) ≡ true
    mapped_by true e t f = ap (λ (b : Bool). b || has (map r xs) (r z)) (eq-eqb (r x) (r z) (ap r (eqb-true x z e)))
    mapped_by false e t f = ap (λ (b : Bool). nat_eq (r x) (r z) || b) (f t) ∙ or_true (nat_eq (r x) (r z))

-- an equation with other targets copies the same
moved_by : (r : ℕ → ℕ) (ts : List ℕ) (c : Option Atom) → goes_on r (both (only (map r ts)) c) ≡ goes_on r (both (only ts) c)
moved_by r [] c = refl
moved_by r (x ∷ []) None = refl
moved_by r (x ∷ []) (Some (Variable y)) = refl
moved_by r (x ∷ []) (Some (Fixed v)) = refl
moved_by r (x ∷ y ∷ ts) c = refl

-- a copy that is taken away
pub record Gone (r : ℕ → ℕ) (c : Option (ℕ × Atom)) : Type 0 where
  pub x : ℕ
  pub y : ℕ
  pub copy : c ≡ Some (x, Variable y)
  pub moves : r y ≡ y → ⊥

gone_by : (r : ℕ → ℕ) (c : Option (ℕ × Atom)) → goes_on r c ≡ true → Gone r c
gone_by r None h = absurd (cc)
gone_by r (Some (x, Fixed v)) h = absurd (cc)
gone_by r (Some (x, Variable y)) h = record { x = x; y = y; copy = refl; moves = λ e. not-both (nat_eq (r y) y) (eq-eqb (r y) y e) (no_true (nat_eq (r y) y) h) }

-- the variable in whose place another one is defined, by the copies among some equations
pub ends-keep : (n : FlatNode) (P : ℕ → Type 0) (es : List FlatEqn) → AllByRecursion (λ (e : FlatEqn). AllByRecursion P e.targets) es → (z : ℕ) → P z → P (ends n es z)
ends-keep n P [] h z p = p
ends-keep n P (e ∷ es) h z p = keep_by (moved n e) refl (ends-keep n P es h.1)
  where
    pick : (d : Bool) (x y : ℕ) → P (ends n es x) → P (ends n es z) → P (if d then ends n es x else ends n es z)
    pick true x y f g = f
    pick false x y f g = g

    keep_by : (m : Option (ℕ × ℕ)) → moved n e ≡ m → ((v : ℕ) → P v → P (ends n es v)) → P (after_move m (ends n es) z)
    keep_by None q later = later z p
    keep_by (Some (x, y)) q later = pick (nat_eq y z) x y (later x ((subst (AllByRecursion P) (copy-target e x (Variable y) (moved-copy n e x y q)) h.0).0)) (later z p)

-- ---- a node whose equations stand behind those that define what they read

module _ (n : FlatNode) (behind : AreBehind n.eqns) where
  abbrev pub r : ℕ → ℕ
  r = ends n n.eqns

  abbrev pub w : FlatEqn → FlatEqn
  w = with_targets r

  abbrev pub keep : FlatEqn → Bool
  keep e = not (is_moved r e)

  -- an instant without the variables in whose place others are defined
  abbrev pub g : Instant → Instant
  g i z = if nat_eq (r z) z then i z else Absent

  ends_are : EndsAre n r
  ends_are = ends_law n (copies-behind n.eqns behind)

  kept-is : (e : FlatEqn) → keep (w e) ≡ true → is_moved r e ≡ false
  kept-is e k = sym (moved_by r e.targets (copied e.right)) ∙ no_true (is_moved r (w e)) k

  read_once : (z : ℕ) (m : Moved n r z n.eqns) → count z (flat_map eqn_reads n.eqns) ≤ 1
  read_once z m = omega (arith, moved-once n m.eqn m.x z m.copy, right-more z n.outputs (flat_map eqn_reads n.eqns))

  -- the one equation that reads a variable which is moved
  its_reader : (z : ℕ) (m : Moved n r z n.eqns) (e : FlatEqn) → Among e n.eqns → 1 ≤ count z (eqn_reads e) → copy_of e ≡ Some (m.x, Variable z)
  its_reader z m e a c =
      let copy : copy_of m.eqn ≡ Some (m.x, Variable z) = moved-copy n m.eqn m.x z m.copy in
      ap copy_of (one_of eqn_reads z n.eqns (read_once z m) e m.eqn a m.among c (copy-reads m.eqn m.x z copy)) ∙ copy

  -- what a kept equation reads stays, and so do outputs and inputs
  steady-read : (e : FlatEqn) → Among e n.eqns → is_moved r e ≡ false → (z : ℕ) → 1 ≤ count z (eqn_reads e) → r z ≡ z
  steady-read e a k z c =
      elim (ends_are.each z) [
        | inl same ↦ same
        | inr moves ↦ (let m : Moved n r z n.eqns = moves-at n r z n.eqns moves in
            eqb-true (r z) z (no_false (nat_eq (r z) z) (sym (ap (goes_on r) (its_reader z m e a c)) ∙ k)))
      ]

  steady-output : (o : ℕ) → 1 ≤ count o n.outputs → r o ≡ o
  steady-output o c =
      elim (ends_are.each o) [
        | inl same ↦ same
        | inr moves ↦ (let m : Moved n r o n.eqns = moves-at n r o n.eqns moves in
            absurd (omega (arith, c, moved-once n m.eqn m.x o m.copy, count-append o n.outputs (flat_map eqn_reads n.eqns), among-count eqn_reads o n.eqns m.eqn m.among, copy-reads m.eqn m.x o (moved-copy n m.eqn m.x o m.copy))))
      ]

  steady-input : (x : ℕ) → x < n.inputs → r x ≡ x
  steady-input x lt =
      elim (ends_are.each x) [
        | inl same ↦ same
        | inr moves ↦ (let m : Moved n r x n.eqns = moves-at n r x n.eqns moves in absurd (omega (arith, lt, moved-no_input n m.eqn m.x x m.copy)))
      ]

  pub record Away (e : FlatEqn) : Type 0 where
    pub x : ℕ
    pub y : ℕ
    pub copy : moved n e ≡ Some (x, y)
    pub ends : r y ≡ r x

  -- an equation that is taken away copies a variable because of which it is taken away
  away : (e : FlatEqn) → Among e n.eqns → is_moved r e ≡ true → Away e
  away e a k =
      let q : Gone r (copy_of e) = gone_by r (copy_of e) k in
      elim (ends_are.each q.y) [
        | inl same ↦ absurd (q.moves same)
        | inr moves ↦ (let m : Moved n r q.y n.eqns = moves-at n r q.y n.eqns moves in
            let one : e ≡ m.eqn = one_of eqn_reads q.y n.eqns (read_once q.y m) e m.eqn a m.among (copy-reads e q.x q.y q.copy) (copy-reads m.eqn m.x q.y (moved-copy n m.eqn m.x q.y m.copy)) in
            record { x = m.x; y = q.y; copy = ap (moved n) one ∙ m.copy; ends = m.ends })
      ]

  at-steady : (i : Instant) (z : ℕ) → r z ≡ z → g i z ≡ i z
  at-steady i z h = ap (λ (b : Bool). if b then i z else Absent) (eq-eqb (r z) z h)

  module _ (e : FlatEqn) (a : Among e n.eqns) (k : is_moved r e ≡ false) (i : Instant) where
    clock_same : AllByRecursion (Same i (g i)) (clock_variables e.clock)
    clock_same = each_counted (Same i (g i)) (clock_variables e.clock) (λ z c. at-steady i z (steady-read e a k z (clock-read e z c)))

    restart_same : AllByRecursion (Same i (g i)) e.restart
    restart_same = each_counted (Same i (g i)) e.restart (λ z c. at-steady i z (steady-read e a k z (restart-read e z c)))

    operands_same : AllByRecursion (Same i (g i)) (operands e.right)
    operands_same = each_counted (Same i (g i)) (operands e.right) (λ z c. at-steady i z (steady-read e a k z (operands-read e z c)))

  -- ---- an instant of a reaction

  module _ (answers : Answers) (takes : Names (List KindData)) (past : List Instant) (inputs : List Value) (now : Instant) (c : Continues answers n past inputs now) (f : Fits takes n now) where
    set_there : (d : Bool) (z : ℕ) → is_set n.eqns now z ≡ d → n.inputs ≤ z → is_there (now z) ≡ true → SetBy n.eqns now z
    set_there true z e le t = set_by n.eqns now z e
    set_there false z e le t = absurd (not-both (is_there (now z)) t (ap is_there (c.others z le e)))

    -- a copy that can go has the value of what it copies, where that is there
    copied-same : (e : FlatEqn) (x y : ℕ) → Among e n.eqns → moved n e ≡ Some (x, y) → is_there (now y) ≡ true → now x ≡ now y
    copied-same e x y a q t =
        let s : SetBy n.eqns now y = set_there (is_set n.eqns now y) y refl (moved-no_input n e x y q) t in
        let on : s.eqn.clock ≡ e.clock = moved-on n e s.eqn x y q s.among (has-count s.eqn.targets y s.target) in
        copy-says answers past now e x (Variable y) (moved-copy n e x y q) (each_among (Holds answers past now) n.eqns e c.equations a) (ap (λ ck. holds ck now) (sym on) ∙ s.there)

    -- so has the variable that is defined in its place
    ends-same : (es : List FlatEqn) → ((e : FlatEqn) → Among e es → Among e n.eqns) → (z : ℕ) → is_there (now z) ≡ true → now (ends n es z) ≡ now z
    ends-same [] sub z t = refl
    ends-same (e ∷ es) sub z t = ends_by (moved n e) refl (λ x. ends-same es (λ d b. sub d (inr b)) x)
      where
        pick : (d : Bool) (x y : ℕ) → nat_eq y z ≡ d → (is_there (now y) ≡ true → now x ≡ now y) → ((v : ℕ) → is_there (now v) ≡ true → now (ends n es v) ≡ now v) → now (if d then ends n es x else ends n es z) ≡ now z
        pick true x y q h more =
            let same : y ≡ z = eqb-true y z q in
            let there : is_there (now y) ≡ true = ap (λ v. is_there (now v)) same ∙ t in
            more x (ap is_there (h there) ∙ there) ∙ h there ∙ ap now same
        pick false x y q h more = more z t

        ends_by : (m : Option (ℕ × ℕ)) → moved n e ≡ m → ((v : ℕ) → is_there (now v) ≡ true → now (ends n es v) ≡ now v) → now (after_move m (ends n es) z) ≡ now z
        ends_by None q more = more z t
        ends_by (Some (x, y)) q more = pick (nat_eq y z) x y refl (copied-same e x y (sub e (inl refl)) q) more

    abbrev left : List FlatEqn
    left = filter keep (map w n.eqns)

    -- what a kept equation sets is set under its new name
    set_direct : (e : FlatEqn) → Among e n.eqns → keep (w e) ≡ true → holds e.clock now ≡ true → (z : ℕ) → has e.targets z ≡ true → is_set left (g now) (r z) ≡ true
    set_direct e a k t z h =
        sets left (w e) (g now) (r z) (kept_among w keep n.eqns e a k) (holds-same now (g now) e.clock (clock_same e a (kept-is e k) now) ∙ t) (has_mapped r e.targets z h)

    abbrev IsLeft : ℕ → Type 0
    IsLeft z = is_there (now z) ≡ true → n.inputs ≤ z → is_set left (g now) (r z) ≡ true

    -- and so is each variable that is there
    all_left : (es : List FlatEqn) → ((e : FlatEqn) → Among e es → Among e n.eqns) → AreBehind es → ((z : ℕ) → is_set es now z ≡ false → IsLeft z) → (z : ℕ) → IsLeft z
    all_left [] sub order before z = before z refl
    all_left (e ∷ es) sub order before v = all_left es (λ d b. sub d (inr b)) order.1 (λ z u t le. here (holds e.clock now && has e.targets z) z refl u t le) v
      where
        gone_away : (z : ℕ) → holds e.clock now ≡ true → has e.targets z ≡ true → is_there (now z) ≡ true → (b : Away e) → is_set left (g now) (r z) ≡ true
        gone_away z on h t b =
            let copy : copy_of e ≡ Some (b.x, Variable b.y) = moved-copy n e b.x b.y b.copy in
            let same : b.x ≡ z = one_target (ap (λ xs. has xs z) (sym (copy-target e b.x (Variable b.y) copy)) ∙ h) in
            let value : now b.x ≡ now b.y = copy-says answers past now e b.x (Variable b.y) copy (each_among (Holds answers past now) n.eqns e c.equations (sub e (inl refl))) on in
            let there : is_there (now b.y) ≡ true = ap is_there (sym value ∙ ap now same) ∙ t in
            let unset : is_set (e ∷ es) now b.y ≡ false = unset-undefined (e ∷ es) now b.y (order.0 b.y (copy-needs e b.x b.y copy)) in
            ap (is_set left (g now)) (ap r (sym same) ∙ sym b.ends) ∙ before b.y unset there (moved-no_input n e b.x b.y b.copy)
          where
            or_nothing : (d : Bool) → (d || false) ≡ true → d ≡ true
            or_nothing true q = refl
            or_nothing false q = absurd (cc)

            one_target : (has (b.x ∷ []) z ≡ true) → b.x ≡ z
            one_target q = eqb-true b.x z (or_nothing (nat_eq b.x z) q)

        kept_or : (k : Bool) (z : ℕ) → keep (w e) ≡ k → holds e.clock now ≡ true → has e.targets z ≡ true → is_there (now z) ≡ true → is_set left (g now) (r z) ≡ true
        kept_or true z q on h t = set_direct e (sub e (inl refl)) q on z h
        kept_or false z q on h t = gone_away z on h t (away e (sub e (inl refl)) (sym (moved_by r e.targets (copied e.right)) ∙ no_false (is_moved r (w e)) q))

        here : (d : Bool) (z : ℕ) → (holds e.clock now && has e.targets z) ≡ d → is_set es now z ≡ false → IsLeft z
        here true z q u t le = let b = both_true (holds e.clock now) (has e.targets z) q in kept_or (keep (w e)) z refl b.0 b.1 t
        here false z q u t le = before z (or_both (holds e.clock now && has e.targets z) (is_set es now z) q u) t le

    others_by : (d : Bool) (x : ℕ) → nat_eq (r x) x ≡ d → n.inputs ≤ x → is_set left (g now) x ≡ false → (if d then now x else Absent) ≡ Absent
    others_by false x q le u = refl
    others_by true x q le u = absent_or (is_there (now x)) refl
      where
        absent_or : (t : Bool) → is_there (now x) ≡ t → now x ≡ Absent
        absent_or false t = absent-by (now x) t
        absent_or true t =
            let set : is_set left (g now) (r x) ≡ true = all_left n.eqns (λ e a. a) behind (λ z v there le2. absurd (not-both (is_there (now z)) there (ap is_there (c.others z le2 v)))) x t le in
            absurd (not-both (is_set left (g now) x) (ap (is_set left (g now)) (sym (eqb-true (r x) x q)) ∙ set) u)

    targets_same : (xs : List ℕ) → AllByRecursion (IsThere now) xs → map (g now) (map r xs) ≡ map now xs
    targets_same [] h = refl
    targets_same (x ∷ xs) h = λ i. (at-steady now (r x) (ends_are.ended x) ∙ ends-same n.eqns (λ e a. a) x h.0) i ∷ targets_same xs h.1 i

    targets_there : (xs : List ℕ) → AllByRecursion (IsThere now) xs → AllByRecursion (IsThere (g now)) (map r xs)
    targets_there [] h = tt
    targets_there (x ∷ xs) h = (ap is_there (at-steady now (r x) (ends_are.ended x) ∙ ends-same n.eqns (λ e a. a) x h.0) ∙ h.0, targets_there xs h.1)

    same_there : (xs : List ℕ) → AllByRecursion (Same now (g now)) xs → AllByRecursion (IsThere now) xs → AllByRecursion (IsThere (g now)) xs
    same_there [] s h = tt
    same_there (x ∷ xs) s h = (ap is_there s.0 ∙ h.0, same_there xs s.1 h.1)

    same_flags : (xs : List ℕ) → AllByRecursion (Same now (g now)) xs → AllByRecursion (λ x. is_flag (now x) ≡ true) xs → AllByRecursion (λ x. is_flag (g now x) ≡ true) xs
    same_flags [] s h = tt
    same_flags (x ∷ xs) s h = (ap is_flag s.0 ∙ h.0, same_flags xs s.1 h.1)

    eqn_passed : (e : FlatEqn) → Among e n.eqns → keep (w e) ≡ true → EqnPassed takes n w keep g e now
    eqn_passed e a k =
        let m : is_moved r e ≡ false = kept-is e k in
        let fits : EqnFits takes now e = each_among (EqnFits takes now) n.eqns e f.eqns a in
        let on : holds e.clock (g now) ≡ holds e.clock now = holds-same now (g now) e.clock (clock_same e a m now) in
        record {
          alike = record { there = on; anew = restarted-same now (g now) e.restart (restart_same e a m now); read = λ t. right-same now (g now) e.right (operands_same e a m now) };
          targets = λ t. targets_same e.targets (fits.targets_there t);
          fit = record {
            clock = clock-fits-same now (g now) e.clock (clock_same e a m now) fits.clock;
            restart = same_flags e.restart (restart_same e a m now) fits.restart;
            operands_there = λ t. same_there (operands e.right) (operands_same e a m now) (fits.operands_there (sym on ∙ t));
            targets_there = λ t. targets_there e.targets (fits.targets_there (sym on ∙ t));
            args_taken = λ t. taken-alike now (g now) takes e.right e.right (right-same now (g now) e.right (operands_same e a m now)) (fits.args_taken (sym on ∙ t));
          };
        }

    inputs_same : (xs : List ℕ) → AllByRecursion (λ x. x < n.inputs) xs → AllByRecursion (Same now (g now)) xs
    inputs_same [] h = tt
    inputs_same (x ∷ xs) h = (at-steady now x (steady-input x h.0), inputs_same xs h.1)

    pub instant-passed : AllByRecursion (λ x. x < n.inputs) (inputs_of n) → Passed takes n w keep g now
    instant-passed below = record {
      eqns = eqn_passed;
      inputs = inputs_same (inputs_of n) below;
      outputs = each_counted (Same now (g now)) n.outputs (λ z k. at-steady now z (steady-output z k));
      others = λ x le u. others_by (nat_eq (r x) x) x refl le u;
    }

  module _ (answers : Answers) (takes : Names (List KindData)) (below : AllByRecursion (λ x. x < n.inputs) (inputs_of n)) where
    all_passed : (inputs : List (List Value)) (instants : List Instant) → AllByRecursion (Fits takes n) instants → Reaction answers n inputs instants → AllByRecursion (Passed takes n w keep g) instants
    all_passed [] [] fits q = tt
    all_passed [] (now ∷ past) fits q = absurd q
    all_passed (inputs ∷ earlier) [] fits q = absurd q
    all_passed (inputs ∷ earlier) (now ∷ past) fits q = (instant-passed answers takes past inputs now q.1 fits.0 below, all_passed earlier past fits.1 q.0)

    pub retargeted-remains : (inputs : List (List Value)) (instants : List Instant) → AllByRecursion (Fits takes n) instants → Reaction answers n inputs instants → Remains answers takes n (retargeted n) inputs instants
    retargeted-remains inputs instants fits q =
        let ps : AllByRecursion (Passed takes n w keep g) instants = all_passed inputs instants fits q in
        record {
          others = map g instants;
          reaction = passes-reaction takes n w keep g answers inputs instants ps q;
          fit = passes-fits takes n w keep g instants ps fits;
          outputs = passes-outputs takes n w keep g instants ps;
        }
