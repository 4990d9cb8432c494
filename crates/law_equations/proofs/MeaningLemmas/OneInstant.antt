-- Ranked equations have exactly one instant after each past.
use Rattle.std.proofs.Common.{◌≡◌, ℕ, zero, suc, ◌+◌, ◌<◌, ◌≤◌, Bool, true, false, ◌||◌, ◌&&◌, nat_eq, nat_lt, List, [], ◌∷◌, ◌++◌, length, get_or, if◌then◌else◌, refl, sym, ap, subst, ◌∙◌, arith}
use Rattle.std.specs.List.{AllByRecursion, IsDistinct, flat_map}
use Rattle.std.proofs.lemmas.Bool.{ltb-true, ltb-false, le-ltb, lt-ltb}
use Rattle.std.proofs.lemmas.List.FromFn.{get_or-map-range_with_len, fill_by_all}
use Rattle.hp_base.specs.declared.value.Value.{Value}
use Rattle.hp_base.specs.declared.value.Value.TheVariants.{Absent}
use Rattle.hp_obc.specs.Values.{operated}
use Rattle.hp_flat.specs.declared.equation.Atom.{Atom}
use Rattle.hp_flat.specs.declared.equation.Atom.TheVariants.{Variable, Value as Fixed}
use Rattle.hp_flat.specs.Equations.{Clock, Right, operator, register, called, FlatEqn}
use Rattle.hp_flat.specs.Nodes.{FlatNode}
use Rattle.law_equations.specs.Meaning.Instants.{Instant, has_constructor, holds, is_true, restarted, atom, atoms, unless, history, newest}
use Rattle.law_equations.specs.Meaning.Reactions.{Answers, has, is_set, right_gives, gives, Holds, Continues}
use Rattle.law_equations.specs.Meaning.Fitting.{atom_variables}
use Rattle.law_equations.specs.Meaning.Scheduling.{clock_variables, right_reads, reads, IsDefinedBelow, IsRanked}
use Rattle.law_equations.specs.Meaning.Solving.{nothing, valued, solved, said, NoOther, IsExclusive, IsSolvable, OnlyLaw, SomeLaw}
use Rattle.law_equations.proofs.MeaningLemmas.Lists.{each_map, each_both, each_first, each_second, each_has, all_self, same_map, valued-map, map-valued}

-- ---- an equation looks at what it reads

abbrev pub Agree : Instant → Instant → ℕ → Type 0
Agree i j x = i x ≡ j x

pub holds-same : (clock : Clock) (i j : Instant) → AllByRecursion (Agree i j) (clock_variables clock) → holds clock i ≡ holds clock j
holds-same [] i j h = refl
holds-same (on ∷ clock) i j h = λ d. has_constructor on.1 (h.0 d) && holds-same clock i j h.1 d

restarted-same : (xs : List ℕ) (i j : Instant) → AllByRecursion (Agree i j) xs → restarted xs i ≡ restarted xs j
restarted-same [] i j h = refl
restarted-same (x ∷ xs) i j h = λ d. is_true (h.0 d) || restarted-same xs i j h.1 d

atoms-same : (args : List Atom) (i j : Instant) → AllByRecursion (Agree i j) (flat_map atom_variables args) → atoms i args ≡ atoms j args
atoms-same [] i j h = refl
atoms-same (Variable x ∷ args) i j h = λ d. h.0 d ∷ atoms-same args i j h.1 d
atoms-same (Fixed v ∷ args) i j h = ap (λ vs. v ∷ vs) (atoms-same args i j h)

right-same : (answers : Answers) (clock : Clock) (restart : List ℕ) (past : List Instant) (r : Right) (i j : Instant) → AllByRecursion (Agree i j) restart → AllByRecursion (Agree i j) (right_reads r)
    → right_gives answers clock restart past i r ≡ right_gives answers clock restart past j r
right-same answers clock restart past (operator op args) i j g h = ap (λ vs. operated op vs ∷ []) (atoms-same args i j h)
right-same answers clock restart past (register first next) i j g h = ap (λ d. newest first (unless d (history clock restart (λ k. atom k next) past)) ∷ []) (restarted-same restart i j g)
right-same answers clock restart past (called f args) i j g h = λ d. answers f (atoms-same args i j h d) (unless (restarted-same restart i j g d) (history clock restart (λ k. atoms k args) past))

pub eqn-holds-same : (e : FlatEqn) (i j : Instant) → AllByRecursion (Agree i j) (reads e) → holds e.clock i ≡ holds e.clock j
eqn-holds-same e i j h = holds-same e.clock i j (each_first (Agree i j) (clock_variables e.clock) (e.restart ++ right_reads e.right) h)

gives-same : (answers : Answers) (e : FlatEqn) (past : List Instant) (i j : Instant) → AllByRecursion (Agree i j) (reads e) → gives answers e past i ≡ gives answers e past j
gives-same answers e past i j h =
    right-same answers e.clock e.restart past e.right i j (each_first (Agree i j) e.restart (right_reads e.right) (each_second (Agree i j) (clock_variables e.clock) (e.restart ++ right_reads e.right) h))
    (each_second (Agree i j) e.restart (right_reads e.right) (each_second (Agree i j) (clock_variables e.clock) (e.restart ++ right_reads e.right) h))

choose : (t a b : Bool) (v w p q : Value) → (t ≡ true → a ≡ b) → (t ≡ true → v ≡ w) → p ≡ q → (if a && t then v else p) ≡ (if b && t then w else q)
choose true a b v w p q f g e = let h = f refl in let k = g refl in λ d. if h d && true then k d else e d
choose false true true v w p q f g e = e
choose false true false v w p q f g e = e
choose false false true v w p q f g e = e
choose false false false v w p q f g e = e

-- ---- ranks

-- all equations of a variable have less rank than k
abbrev pub Below : List FlatEqn → ℕ → ℕ → Type 0
Below es k x = AllByRecursion (λ (d : FlatEqn). has d.targets x ≡ true → d.at < k) es

pub below_more : (es : List FlatEqn) (k l : ℕ) (x : ℕ) → k < suc l → Below es k x → Below es l x
below_more es k l x lt = each_map (λ (d : FlatEqn). has d.targets x ≡ true → d.at < k) (λ (d : FlatEqn). has d.targets x ≡ true → d.at < l) (λ d h t. let b : d.at < k = h t in omega arith) es

pub bound : List FlatEqn → ℕ
bound [] = 0
bound (e ∷ es) = suc (e.at + bound es)

pub bounded : (es : List FlatEqn) (k : ℕ) (x : ℕ) → bound es < suc k → Below es k x
unfolding bound
bounded [] k x lt = tt
bounded (e ∷ es) k x lt = ((λ t. omega arith), bounded es k x (omega arith))

module _ (answers : Answers) (past : List Instant) where
  solved-same : (es : List FlatEqn) (i j : Instant) (x : ℕ) → AllByRecursion (λ (e : FlatEqn). has e.targets x ≡ true → AllByRecursion (Agree i j) (reads e)) es → solved answers es past i x ≡ solved answers es past j x
  solved-same [] i j x h = refl
  solved-same (e ∷ es) i j x h =
      choose (has e.targets x) (holds e.clock i) (holds e.clock j) (valued e.targets (gives answers e past i) x) (valued e.targets (gives answers e past j) x)
      (solved answers es past i x) (solved answers es past j x)
      (λ t. eqn-holds-same e i j (h.0 t)) (λ t. ap (λ vs. valued e.targets vs x) (gives-same answers e past i j (h.0 t))) (solved-same es i j x h.1)

  module _ (n : FlatNode) (inputs : List Value) (ranked : IsRanked n.eqns) where
    abbrev F : Instant → Instant
    F = said answers n past inputs

    said-same : (i j : Instant) (x : ℕ) → AllByRecursion (λ (e : FlatEqn). has e.targets x ≡ true → AllByRecursion (Agree i j) (reads e)) n.eqns → F i x ≡ F j x
    said-same i j x h = ap (λ v. if nat_lt x n.inputs then get_or inputs x Absent else v) (solved-same n.eqns i j x h)

    -- variables of less rank decide the next ones
    local-zero : (i j : Instant) (x : ℕ) → Below n.eqns zero x → F i x ≡ F j x
    local-zero i j x b =
        said-same i j x (each_map (λ (d : FlatEqn). has d.targets x ≡ true → d.at < zero) (λ (e : FlatEqn). has e.targets x ≡ true → AllByRecursion (Agree i j) (reads e)) (λ e h t. let lt : e.at < zero = h t in absurd (omega arith)) n.eqns b)

    local-suc : (k : ℕ) (i j : Instant) → ((z : ℕ) → Below n.eqns k z → i z ≡ j z) → (x : ℕ) → Below n.eqns (suc k) x → F i x ≡ F j x
    local-suc k i j same x b =
        said-same i j x (each_both (λ (d : FlatEqn). has d.targets x ≡ true → d.at < suc k) (λ (e : FlatEqn). AllByRecursion (IsDefinedBelow n.eqns e) (reads e)) (λ (e : FlatEqn). has e.targets x ≡ true → AllByRecursion (Agree i j) (reads e))
        (λ e h r t. each_map (IsDefinedBelow n.eqns e) (Agree i j) (λ z below. same z (below_more n.eqns e.at k z (h t) below)) (reads e) r) n.eqns b ranked)

    agree : (i j : Instant) → ((x : ℕ) → i x ≡ F i x) → ((x : ℕ) → j x ≡ F j x) → (k : ℕ) (x : ℕ) → Below n.eqns k x → i x ≡ j x
    agree i j fi fj zero x b = fi x ∙ local-zero i j x b ∙ sym (fj x)
    agree i j fi fj (suc k) x b = fi x ∙ local-suc k i j (agree i j fi fj k) x b ∙ sym (fj x)

    pub only_one : (i j : Instant) → ((x : ℕ) → i x ≡ F i x) → ((x : ℕ) → j x ≡ F j x) → (x : ℕ) → i x ≡ j x
    only_one i j fi fj x = agree i j fi fj (bound n.eqns) x (bounded n.eqns (bound n.eqns) x (omega arith))

    iterate : ℕ → Instant
    iterate zero = nothing
    iterate (suc k) = F (iterate k)

    settles : (k : ℕ) (x : ℕ) → Below n.eqns k x → iterate (suc k) x ≡ iterate (suc (suc k)) x
    unfolding iterate
    settles zero x b = local-zero (iterate zero) (iterate (suc zero)) x b
    settles (suc k) x b = local-suc k (iterate (suc k)) (iterate (suc (suc k))) (settles k) x b

    pub solution : Instant
    solution = iterate (suc (bound n.eqns))

    pub solution-is : (x : ℕ) → solution x ≡ F solution x
    unfolding solution iterate
    solution-is x = settles (bound n.eqns) x (bounded n.eqns (bound n.eqns) x (omega arith))

    -- ---- an instant that continues a past holds what is said of it

    unset_by : (d : Bool) (e : FlatEqn) (es : List FlatEqn) (now : Instant) (x : ℕ) → (holds e.clock now && has e.targets x) ≡ d → (d ≡ true → now x ≡ valued e.targets (gives answers e past now) x)
        → ((is_set es now x ≡ false → now x ≡ Absent) → now x ≡ solved answers es past now x) → ((d || is_set es now x) ≡ false → now x ≡ Absent)
        → now x ≡ (if d then valued e.targets (gives answers e past now) x else solved answers es past now x)
    unset_by true e es now x h f g u = f refl
    unset_by false e es now x h f g u = g u

    both_true : (a c : Bool) → (a && c) ≡ true → (a ≡ true) × (c ≡ true)
    both_true true c h = (refl, h)
    both_true false c h = absurd (cc)

    set-solved : (es : List FlatEqn) (now : Instant) (x : ℕ) → AllByRecursion (Holds answers past now) es → (is_set es now x ≡ false → now x ≡ Absent) → now x ≡ solved answers es past now x
    set-solved [] now x h u = u refl
    set-solved (e ∷ es) now x h u =
        unset_by (holds e.clock now && has e.targets x) e es now x refl
        (λ t.
        let b = both_true (holds e.clock now) (has e.targets x) t in
        sym (valued-map e.targets now x b.1) ∙ ap (λ vs. valued e.targets vs x) (h.0 b.0))
        (λ v. set-solved es now x h.1 v) u

    pub continues-said : (now : Instant) → Continues answers n past inputs now → (x : ℕ) → now x ≡ F now x
    continues-said now c x = input_by (nat_lt x n.inputs) refl
      where
        input_by : (d : Bool) → nat_lt x n.inputs ≡ d → now x ≡ (if d then get_or inputs x Absent else solved answers n.eqns past now x)
        input_by true h = sym (get_or-map-range_with_len now 0 n.inputs x x Absent (ltb-true x n.inputs h) (omega arith)) ∙ ap (λ vs. get_or vs x Absent) c.inputs_are
        input_by false h = set-solved n.eqns now x c.equations (c.others x (ltb-false x n.inputs h))

    -- ---- an instant that holds what is said of it continues the past

    none_by : (d m : Bool) (v w : Value) → (d || m) ≡ false → (m ≡ false → w ≡ Absent) → (if d then v else w) ≡ Absent
    none_by true m v w h f = absurd (cc)
    none_by false m v w h f = f h

    unset-solved : (es : List FlatEqn) (now : Instant) (x : ℕ) → is_set es now x ≡ false → solved answers es past now x ≡ Absent
    unset-solved [] now x h = refl
    unset-solved (e ∷ es) now x h =
        none_by (holds e.clock now && has e.targets x) (is_set es now x) (valued e.targets (gives answers e past now) x) (solved answers es past now x) h (λ u. unset-solved es now x u)

    passed_by : (a b : Bool) (e d : FlatEqn) (now : Instant) (x : ℕ) (v w : Value) → has e.targets x ≡ b → has d.targets x ≡ true
        → (a ≡ true → AllByRecursion (λ y. has d.targets y ≡ false) e.targets) → (if a && b then v else w) ≡ w
    passed_by true true e d now x v w h t f =
        let none : has d.targets x ≡ false = each_has (λ y. has d.targets y ≡ false) e.targets x (f refl) h in absurd (cc)
    passed_by true false e d now x v w h t f = refl
    passed_by false b e d now x v w h t f = refl

    abbrev Finds : List FlatEqn → Instant → FlatEqn → Type 0
    Finds es now e = holds e.clock now ≡ true → AllByRecursion (λ x. solved answers es past now x ≡ valued e.targets (gives answers e past now) x) e.targets

    found : (es : List FlatEqn) (now : Instant) → IsExclusive now es → AllByRecursion (Finds es now) es
    found [] now h = tt
    found (e ∷ es) now h = (
      λ t.
          each_map (λ x. has e.targets x ≡ true) (λ x. solved answers (e ∷ es) past now x ≡ valued e.targets (gives answers e past now) x)
          (λ x s. λ i. if t i && s i then valued e.targets (gives answers e past now) x else solved answers es past now x) e.targets (all_self e.targets),
      later es (found es now h.1) (λ t. h.0 t),
    )
      where
        later : (ds : List FlatEqn) → AllByRecursion (Finds es now) ds → (holds e.clock now ≡ true → NoOther now e ds) → AllByRecursion (Finds (e ∷ es) now) ds
        later [] g o = tt
        later (d ∷ ds) g o = (
          λ t.
              each_both (λ x. has d.targets x ≡ true) (λ x. solved answers es past now x ≡ valued d.targets (gives answers d past now) x)
              (λ x. solved answers (e ∷ es) past now x ≡ valued d.targets (gives answers d past now) x)
              (λ x s p.
              passed_by (holds e.clock now) (has e.targets x) e d now x (valued e.targets (gives answers e past now) x) (solved answers es past now x) refl s (λ k. (o k).0 t) ∙ p)
              d.targets (all_self d.targets) (g.0 t),
          later ds g.1 (λ k. (o k).1),
        )

    input-said : (now : Instant) → ((x : ℕ) → now x ≡ F now x) → (x : ℕ) → x < n.inputs → get_or inputs x Absent ≡ now x
    input-said now fixed x h = sym (fixed x ∙ ap (λ (d : Bool). if d then get_or inputs x Absent else solved answers n.eqns past now x) (lt-ltb x n.inputs h))

    other-said : (now : Instant) → ((x : ℕ) → now x ≡ F now x) → (x : ℕ) → n.inputs ≤ x → now x ≡ solved answers n.eqns past now x
    other-said now fixed x h = fixed x ∙ ap (λ (d : Bool). if d then get_or inputs x Absent else solved answers n.eqns past now x) (le-ltb x n.inputs h)

    equations-said : (now : Instant) → ((x : ℕ) → now x ≡ F now x) → (es : List FlatEqn) → AllByRecursion (Finds n.eqns now) es → AllByRecursion (λ (e : FlatEqn). IsDistinct nat_eq e.targets) es
        → AllByRecursion (λ (e : FlatEqn). AllByRecursion (λ x. n.inputs ≤ x) e.targets) es
        → AllByRecursion (λ (e : FlatEqn). holds e.clock now ≡ true → length e.targets ≡ length (gives answers e past now)) es → AllByRecursion (Holds answers past now) es
    equations-said now fixed [] f d o l = tt
    equations-said now fixed (e ∷ es) f d o l = (
      λ t.
          same_map now (valued e.targets (gives answers e past now)) e.targets
          (each_both (λ x. n.inputs ≤ x) (λ x. solved answers n.eqns past now x ≡ valued e.targets (gives answers e past now) x)
          (λ x. now x ≡ valued e.targets (gives answers e past now) x) (λ x no_input s. other-said now fixed x no_input ∙ s) e.targets o.0 (f.0 t))
          ∙ map-valued e.targets (gives answers e past now) d.0 (l.0 t),
      equations-said now fixed es f.1 d.1 o.1 l.1,
    )

    pub said-continues : (now : Instant) → ((x : ℕ) → now x ≡ F now x) → IsSolvable answers n past inputs now → Continues answers n past inputs now
    said-continues now fixed s = record {
      inputs_are = sym (fill_by_all now inputs n.inputs Absent s.as_many_inputs (λ k lt. input-said now fixed k lt));
      equations = equations-said now fixed n.eqns (found n.eqns now s.exclusive) s.targets_differ s.no_inputs s.as_many;
      others = λ x h u. other-said now fixed x h ∙ unset-solved n.eqns now x u;
    }

-- ---- the laws

pub only_law : OnlyLaw
only_law answers n ranked [] [] [] r s = refl
only_law answers n ranked [] [] (j ∷ js) r s = absurd s
only_law answers n ranked [] (i ∷ is) js r s = absurd r
only_law answers n ranked (inputs ∷ earlier) [] js r s = absurd r
only_law answers n ranked (inputs ∷ earlier) (i ∷ is) [] r s = absurd s
only_law answers n ranked (inputs ∷ earlier) (i ∷ is) (j ∷ js) r s =
    let rest : is ≡ js = only_law answers n ranked earlier is js r.0 s.0 in
    let c : Continues answers n is inputs j = subst (λ past. Continues answers n past inputs j) (sym rest) s.1 in
    let same : i ≡ j = λ k x. only_one answers is n inputs ranked i j (continues-said answers is n inputs ranked i r.1) (continues-said answers is n inputs ranked j c) x k in
    λ k. same k ∷ rest k

pub some_law : SomeLaw
some_law answers n ranked past inputs = (
  solution answers past n inputs ranked,
  (λ k x. solution-is answers past n inputs ranked x k),
  said-continues answers past n inputs ranked (solution answers past n inputs ranked) (solution-is answers past n inputs ranked),
)
