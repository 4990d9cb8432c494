-- Reactions remain where equations go that nothing needs.
use Rattle.std.proofs.Common.{◌≡◌, ◌≤◌, ◌<◌, ℕ, nat_lt, Bool, true, false, ◌||◌, ◌&&◌, not, if◌then◌else◌, map, List, [], ◌∷◌, refl, sym, ap, subst, ◌∙◌, arith}
use Rattle.std.specs.List.{AllByRecursion, flat_map}
use Rattle.std.proofs.lemmas.Bool.{ltb-false, le-ltb, lt-ltb}
use Rattle.hp_base.specs.Kinds.{KindData}
use Rattle.hp_base.specs.declared.value.Value.{Value}
use Rattle.hp_base.specs.declared.value.Value.TheVariants.{Absent}
use Rattle.hp_obc.specs.Steps.{Names}
use Rattle.hp_flat.specs.Equations.{FlatEqn}
use Rattle.hp_flat.specs.Nodes.{FlatNode}
use Rattle.law_equations.specs.Meaning.Instants.{Instant, holds}
use Rattle.law_equations.specs.Meaning.Reactions.{Answers, has, is_set, inputs_of, Continues, Reaction}
use Rattle.law_equations.specs.Meaning.Fitting.{is_there, IsThere, is_flag, operands, EqnFits, Fits}
use Rattle.law_equations.specs.Meaning.Scheduling.{clock_variables}
use Rattle.hp_normal.specs.Following.{AreBehind}
use Rattle.hp_normal.specs.Needing.{is_operator, held_reads, are_absent, is_idle, needed, without, pruned}
use Rattle.hp_normal.specs.Reading.{count, eqn_reads, occurs}
use Rattle.hp_normal.specs.Retargeting.{with_eqns}
use Rattle.hp_normal.proofs.CopyLaws.{left-more}
use Rattle.hp_normal.proofs.NeedLaws.{Closed, needed-closed, roots-needed}
use Rattle.hp_normal.proofs.TableLaws.{first_true, second_true, occurs-often}
use Rattle.law_equations.specs.Fewer.Keeping.{Remains}
use Rattle.law_equations.proofs.FewerLemmas.AlikeLaws.{Same, EqnPassed, Passed, passed, holds-same, restarted-same, map-same, passes-reaction, passes-fits, passes-outputs}
use Rattle.law_equations.proofs.FewerLemmas.Members.{Among, each_among, each_at, each_counted, each_both, all_kept, has-count, count-has, SetBy, set_by, sets, kept_among}
use Rattle.law_equations.proofs.FewerLemmas.SameReads.{clock-read, operands-read, restart-read, right-same, taken-alike, clock-fits-same}

-- each equation as it is
abbrev pub itself : FlatEqn → FlatEqn
itself e = e

pub map-itself : (es : List FlatEqn) → map itself es ≡ es
map-itself [] = refl
map-itself (e ∷ es) = ap (λ ds. e ∷ ds) (map-itself es)

not_true : (b : Bool) → not b ≡ true → b ≡ false
not_true true h = absurd (cc)
not_true false h = refl

no_both : (b : Bool) → b ≡ true → b ≡ false → ⊥
no_both b h k = let no : true ≡ false = sym h ∙ k in absurd (cc)

-- some numbers that are absent are not among others
all_absent : (n : FlatNode) (xs ts : List ℕ) → are_absent n xs ts ≡ true → AllByRecursion (λ t. count t xs ≡ 0) ts
all_absent n xs [] a = tt
all_absent n xs (t ∷ ts) a =
    (occurs-often n 0 xs t (first_true (occurs n 0 xs t) (are_absent n xs ts) a), all_absent n xs ts (second_true (occurs n 0 xs t) (are_absent n xs ts) a))

-- so an equation that defines what is needed is not idle
not_idle : (n : FlatNode) (xs : List ℕ) (e : FlatEqn) (x : ℕ) → has e.targets x ≡ true → 1 ≤ count x xs → is_idle n xs e ≡ false
not_idle n xs e x there c = by (is_idle n xs e) refl
  where
    by : (b : Bool) → is_idle n xs e ≡ b → is_idle n xs e ≡ false
    by false q = q
    by true q =
        let all = all_absent n xs e.targets (second_true (is_operator e.right) (are_absent n xs e.targets) q) in
        let none : count x xs ≡ 0 = each_at (λ t. count t xs ≡ 0) e.targets x all (has-count e.targets x there) in
        absurd (omega (arith, c, none))

-- ---- a node whose equations stand behind those that define what they read

module _ (n : FlatNode) (behind : AreBehind n.eqns) where
  abbrev last : List ℕ
  last = needed n n.eqns

  abbrev keep : FlatEqn → Bool
  keep e = not (is_idle n last e)

  abbrev left : List FlatEqn
  left = without (is_idle n last) n.eqns

  -- a variable stays where it is an input, or an equation that is left sets it
  abbrev stays : Instant → ℕ → Bool
  stays i z = nat_lt z n.inputs || is_set left i z

  abbrev pub g : Instant → Instant
  g i z = if stays i z then i z else Absent

  same_where : (i : Instant) (z : ℕ) → stays i z ≡ true → g i z ≡ i z
  same_where i z h = ap (λ (b : Bool). if b then i z else Absent) h

  or_first : (a b : Bool) → a ≡ true → (a || b) ≡ true
  or_first a b h = ap (λ (c : Bool). c || b) h

  or_second : (a b : Bool) → b ≡ true → (a || b) ≡ true
  or_second true b h = refl
  or_second false b h = h

  among_left : (e : FlatEqn) → Among e n.eqns → keep e ≡ true → Among e left
  among_left e a k = subst (λ es. Among e (without (is_idle n last) es)) (map-itself n.eqns) (kept_among itself keep n.eqns e a k)

  needed_read : (e : FlatEqn) → Among e n.eqns → keep e ≡ true → (z : ℕ) → 1 ≤ count z (eqn_reads e) → 1 ≤ count z last
  needed_read e a k z c = each_among (Closed n last) n.eqns e (needed-closed n behind) a (not_true (is_idle n last e) k) z c

  -- ---- an instant of a reaction

  module _ (answers : Answers) (takes : Names (List KindData)) (past : List Instant) (inputs : List Value) (now : Instant) (c : Continues answers n past inputs now) (f : Fits takes n now) where
    -- what is needed is set by equations that are left alone
    set_left : (z : ℕ) → 1 ≤ count z last → is_set n.eqns now z ≡ true → is_set left now z ≡ true
    set_left z k h =
        let s : SetBy n.eqns now z = set_by n.eqns now z h in
        let keeps : keep s.eqn ≡ true = ap not (not_idle n last s.eqn z s.target k) in
        sets left s.eqn now z (among_left s.eqn s.among keeps) s.there s.target

    -- so what is needed keeps its value
    needed_same : (z : ℕ) → 1 ≤ count z last → Same now (g now) z
    needed_same z k = by (nat_lt z n.inputs) (is_set left now z) (is_set n.eqns now z) refl refl refl
      where
        by : (a b d : Bool) → nat_lt z n.inputs ≡ a → is_set left now z ≡ b → is_set n.eqns now z ≡ d → Same now (g now) z
        by true b d p q r = same_where now z (or_first (nat_lt z n.inputs) (is_set left now z) p)
        by false true d p q r = same_where now z (or_second (nat_lt z n.inputs) (is_set left now z) q)
        by false false true p q r = absurd (no_both (is_set left now z) (set_left z k r) q)
        by false false false p q r = ap (λ (b : Bool). if b then now z else Absent) ((λ i. p i || q i)) ∙ sym (c.others z (ltb-false z n.inputs p) r)

    module _ (e : FlatEqn) (a : Among e n.eqns) (k : keep e ≡ true) where
      read_same : (z : ℕ) → 1 ≤ count z (eqn_reads e) → Same now (g now) z
      read_same z r = needed_same z (needed_read e a k z r)

      clock_same : AllByRecursion (Same now (g now)) (clock_variables e.clock)
      clock_same = each_counted (Same now (g now)) (clock_variables e.clock) (λ z r. read_same z (clock-read e z r))

      restart_same : AllByRecursion (Same now (g now)) e.restart
      restart_same = each_counted (Same now (g now)) e.restart (λ z r. read_same z (restart-read e z r))

      operands_same : AllByRecursion (Same now (g now)) (operands e.right)
      operands_same = each_counted (Same now (g now)) (operands e.right) (λ z r. read_same z (operands-read e z r))

      -- what it sets stays
      target_same : holds e.clock now ≡ true → (z : ℕ) → has e.targets z ≡ true → Same now (g now) z
      target_same t z h = same_where now z (or_second (nat_lt z n.inputs) (is_set left now z) (sets left e now z (among_left e a k) t h))

    targets_by : (e : FlatEqn) (P : ℕ → Type 0) → ((z : ℕ) → has e.targets z ≡ true → P z) → AllByRecursion P e.targets
    targets_by e P h = each_counted P e.targets (λ z r. h z (count-has e.targets z r))

    there_same : (xs : List ℕ) → AllByRecursion (Same now (g now)) xs → AllByRecursion (IsThere now) xs → AllByRecursion (IsThere (g now)) xs
    there_same xs = each_both (Same now (g now)) (IsThere now) (IsThere (g now)) (λ x s h. ap is_there s ∙ h) xs

    flags_same : (xs : List ℕ) → AllByRecursion (Same now (g now)) xs → AllByRecursion (λ x. is_flag (now x) ≡ true) xs → AllByRecursion (λ x. is_flag (g now x) ≡ true) xs
    flags_same xs = each_both (Same now (g now)) (λ x. is_flag (now x) ≡ true) (λ x. is_flag (g now x) ≡ true) (λ x s h. ap is_flag s ∙ h) xs

    eqn_passed : (e : FlatEqn) → Among e n.eqns → keep e ≡ true → EqnPassed takes n itself keep g e now
    eqn_passed e a k =
        let fits : EqnFits takes now e = each_among (EqnFits takes now) n.eqns e f.eqns a in
        let on : holds e.clock (g now) ≡ holds e.clock now = holds-same now (g now) e.clock (clock_same e a k) in
        let targets : holds e.clock now ≡ true → AllByRecursion (Same now (g now)) e.targets = λ t. targets_by e (Same now (g now)) (target_same e a k t) in
        record {
          alike = record { there = on; anew = restarted-same now (g now) e.restart (restart_same e a k); read = λ t. right-same now (g now) e.right (operands_same e a k) };
          targets = λ t. map-same now (g now) e.targets (targets t);
          fit = record {
            clock = clock-fits-same now (g now) e.clock (clock_same e a k) fits.clock;
            restart = flags_same e.restart (restart_same e a k) fits.restart;
            operands_there = λ t. there_same (operands e.right) (operands_same e a k) (fits.operands_there (sym on ∙ t));
            targets_there = λ t. there_same e.targets (targets (sym on ∙ t)) (fits.targets_there (sym on ∙ t));
            args_taken = λ t. taken-alike now (g now) takes e.right e.right (right-same now (g now) e.right (operands_same e a k)) (fits.args_taken (sym on ∙ t));
          };
        }

    -- the equations that are left set the same
    set_same : (es : List FlatEqn) → AllByRecursion (λ (e : FlatEqn). holds e.clock (g now) ≡ holds e.clock now) es → (z : ℕ) → is_set es (g now) z ≡ is_set es now z
    set_same [] h z = refl
    set_same (e ∷ es) h z = λ i. (h.0 i && has e.targets z) || set_same es h.1 z i

    left_same : (z : ℕ) → is_set left (g now) z ≡ is_set left now z
    left_same z =
        set_same left
        (subst (λ es. AllByRecursion (λ (e : FlatEqn). holds e.clock (g now) ≡ holds e.clock now) (without (is_idle n last) es)) (map-itself n.eqns)
        (all_kept itself keep (λ (e : FlatEqn). holds e.clock (g now) ≡ holds e.clock now) n.eqns (λ e a k. holds-same now (g now) e.clock (clock_same e a k)))) z

    absent_else : (z : ℕ) → n.inputs ≤ z → is_set (passed takes n itself keep g).eqns (g now) z ≡ false → g now z ≡ Absent
    absent_else z le h =
        let none : is_set left now z ≡ false = sym (left_same z) ∙ sym (ap (λ es. is_set (without (is_idle n last) es) (g now) z) (map-itself n.eqns)) ∙ h in
        ap (λ (b : Bool). if b then now z else Absent) ((λ i. le-ltb z n.inputs le i || none i))

    inputs_same : (xs : List ℕ) → AllByRecursion (λ x. x < n.inputs) xs → AllByRecursion (Same now (g now)) xs
    inputs_same [] h = tt
    inputs_same (x ∷ xs) h = (same_where now x (or_first (nat_lt x n.inputs) (is_set left now x) (lt-ltb x n.inputs h.0)), inputs_same xs h.1)

    output_needed : (z : ℕ) → 1 ≤ count z n.outputs → 1 ≤ count z last
    output_needed z k =
        let root = left-more z n.outputs (flat_map held_reads n.eqns) in
        let all = roots-needed n n.eqns z in
        omega (arith, k, root, all)

    instant-passed : AllByRecursion (λ x. x < n.inputs) (inputs_of n) → Passed takes n itself keep g now
    instant-passed below = record {
      eqns = eqn_passed;
      inputs = inputs_same (inputs_of n) below;
      outputs = each_counted (Same now (g now)) n.outputs (λ z k. needed_same z (output_needed z k));
      others = absent_else;
    }

  module _ (answers : Answers) (takes : Names (List KindData)) (below : AllByRecursion (λ x. x < n.inputs) (inputs_of n)) where
    all_passed : (inputs : List (List Value)) (instants : List Instant) → AllByRecursion (Fits takes n) instants → Reaction answers n inputs instants → AllByRecursion (Passed takes n itself keep g) instants
    all_passed [] [] fits q = tt
    all_passed [] (now ∷ past) fits q = absurd q
    all_passed (inputs ∷ earlier) [] fits q = absurd q
    all_passed (inputs ∷ earlier) (now ∷ past) fits q = (instant-passed answers takes past inputs now q.1 fits.0 below, all_passed earlier past fits.1 q.0)

    passed_remains : (inputs : List (List Value)) (instants : List Instant) → AllByRecursion (Fits takes n) instants → Reaction answers n inputs instants → Remains answers takes n (passed takes n itself keep g) inputs instants
    passed_remains inputs instants fits q =
        let ps : AllByRecursion (Passed takes n itself keep g) instants = all_passed inputs instants fits q in
        record {
          others = map g instants;
          reaction = passes-reaction takes n itself keep g answers inputs instants ps q;
          fit = passes-fits takes n itself keep g instants ps fits;
          outputs = passes-outputs takes n itself keep g instants ps;
        }

    pub pruned-remains : (inputs : List (List Value)) (instants : List Instant) → AllByRecursion (Fits takes n) instants → Reaction answers n inputs instants → Remains answers takes n (pruned n) inputs instants
    pruned-remains inputs instants fits q =
        subst (λ es. Remains answers takes n (with_eqns n (without (is_idle n last) es)) inputs instants) (map-itself n.eqns) (passed_remains inputs instants fits q)
