-- Reactions remain where choices between one variable and itself are copies: the instants are the same.
use Rattle.std.proofs.Common.{◌≡◌, ◌≤◌, ℕ, nat_eq, Bool, true, false, ◌||◌, ◌&&◌, if◌then◌else◌, map, List, [], ◌∷◌, ◌++◌, Option, Some, None, inl, inr, refl, sym, ap, subst, ◌∙◌, arith}
use Rattle.std.specs.List.{AllByRecursion}
use Rattle.std.proofs.lemmas.Bool.{eqb-true}
use Rattle.hp_base.specs.Kinds.{KindData}
use Rattle.hp_base.specs.declared.value.Value.{Value}
use Rattle.hp_base.specs.declared.value.Value.TheVariants.{B}
use Rattle.hp_obc.specs.declared.command.ObcOp.TheVariants.{Mux}
use Rattle.hp_obc.specs.Steps.{Names}
use Rattle.hp_obc.specs.Values.{ternary}
use Rattle.hp_flat.specs.declared.equation.Atom.{Atom}
use Rattle.hp_flat.specs.declared.equation.Atom.TheVariants.{Variable, Value as Fixed}
use Rattle.hp_flat.specs.Equations.{Clock, Right, operator, register, called, FlatEqn}
use Rattle.hp_flat.specs.Nodes.{FlatNode}
use Rattle.law_equations.specs.Meaning.Instants.{Instant, holds, atom}
use Rattle.law_equations.specs.Meaning.Reactions.{Answers, has, is_set, right_gives, Holds, Continues, Reaction}
use Rattle.law_equations.specs.Meaning.Fitting.{is_there, IsThere, is_flag, atom_variables, operands, EqnFits, Fits}
use Rattle.law_equations.specs.Meaning.Scheduling.{DefinesNoInput}
use Rattle.hp_normal.specs.Choices.{are_one, restart_of, choice_of, needless, copying, simplified, choice_meanings, simple, with_restart}
use Rattle.hp_normal.specs.Reading.{count, copy_of}
use Rattle.hp_normal.specs.Retargeting.{put}
use Rattle.hp_normal.specs.Substituting.{Meanings, read, may_stand, standing}
use Rattle.hp_normal.proofs.ChoiceLaws.{Needless, needless-is, copying-targets, copying-clock}
use Rattle.hp_normal.proofs.CopyLaws.{copy-target, copy-defines}
use Rattle.law_equations.specs.Fewer.Keeping.{Remains}
use Rattle.law_equations.proofs.FewerLemmas.CopyFacts.{copy-says, may-once}
use Rattle.law_equations.proofs.FewerLemmas.Members.{Among, each_among, has-count, one_of, SetBy, set_by}
use Rattle.law_equations.proofs.FewerLemmas.SameReads.{not-both}
use Rattle.law_equations.proofs.FewerLemmas.SubstituteLaws.{each_append, each_first, each_second}

-- ---- small laws

-- a choice between one value and itself gives it, where it gives one
chosen_same : (u v w r : Value) → w ≡ v → r ≡ ternary Mux u v w → is_there r ≡ true → r ≡ v
chosen_same (B true) v w r same is there = is
chosen_same (B false) v w r same is there = is ∙ same
chosen_same u v w r same is there = absurd (not-both (is_there r) there (ap is_there is))

-- two things that are one variable read the same
one_value : (now : Instant) (a b : Atom) → are_one a b ≡ true → atom now b ≡ atom now a
one_value now (Variable x) (Variable y) h = ap now (eqb-true y x h)
one_value now (Variable x) (Fixed v) h = absurd cc
one_value now (Fixed v) b h = absurd cc

first_of : (a b : Value) (xs ys : List Value) → a ∷ xs ≡ b ∷ ys → a ≡ b
first_of a b xs ys h = cc

each_map_among : (P : FlatEqn → Type 0) (w : FlatEqn → FlatEqn) (es : List FlatEqn) → ((e : FlatEqn) → Among e es → P (w e)) → AllByRecursion P (map w es)
each_map_among P w [] f = tt
each_map_among P w (e ∷ es) f = (f e (inl refl), each_map_among P w es (λ d a. f d (inr a)))

module _ (n : FlatNode) (no_inputs : DefinesNoInput n) where
  abbrev last : Meanings
  last = choice_meanings n n.eqns (λ x. Variable x)

  abbrev of : Meanings → FlatEqn → Option Atom
  of t e = needless n.variables t (choice_of e)

  abbrev w : FlatEqn → FlatEqn
  w = simplified n.variables last

  module _ (answers : Answers) (takes : Names (List KindData)) (past : List Instant) (inputs : List Value) (now : Instant) (c : Continues answers n past inputs now) (f : Fits takes n now) where
    set_there : (d : Bool) (z : ℕ) → is_set n.eqns now z ≡ d → n.inputs ≤ z → is_there (now z) ≡ true → SetBy n.eqns now z
    set_there true z e le t = set_by n.eqns now z e
    set_there false z e le t = absurd (not-both (is_there (now z)) t (ap is_there (c.others z le e)))

    -- a variable that is there has the value of what it stands for
    abbrev Means : Meanings → Type 0
    Means t = (z : ℕ) → is_there (now z) ≡ true → atom now (t z) ≡ now z

    means_read : (t : Meanings) → Means t → (a : Atom) → AllByRecursion (IsThere now) (atom_variables a) → atom now (read t a) ≡ atom now a
    means_read t m (Variable y) h = m y h.0
    means_read t m (Fixed v) h = refl

    -- ---- equations hold as copies

    sides_there : (e : FlatEqn) → Among e n.eqns → (u a b : Atom) → e.right ≡ operator Mux (u ∷ a ∷ b ∷ []) → holds e.clock now ≡ true
        → AllByRecursion (IsThere now) (atom_variables a) × AllByRecursion (IsThere now) (atom_variables b)
    sides_there e am u a b right on =
        let fits : EqnFits takes now e = each_among (EqnFits takes now) n.eqns e f.eqns am in
        let all : AllByRecursion (IsThere now) (atom_variables u ++ (atom_variables a ++ (atom_variables b ++ []))) = subst (λ (r : Right). AllByRecursion (IsThere now) (operands r)) right (fits.operands_there on) in
        let rest = each_second (IsThere now) (atom_variables u) (atom_variables a ++ (atom_variables b ++ [])) all in
        (each_first (IsThere now) (atom_variables a) (atom_variables b ++ []) rest, each_first (IsThere now) (atom_variables b) [] (each_second (IsThere now) (atom_variables a) (atom_variables b ++ []) rest))

    same_gives : (clock : Clock) (restart : List ℕ) (r : Right) → right_gives answers clock restart past now r ≡ right_gives answers clock (restart_of r restart) past now r
    same_gives clock restart (operator op args) = refl
    same_gives clock restart (register first next) = refl
    same_gives clock restart (called g args) = refl

    module _ (t : Meanings) (m : Means t) where
      -- what is chosen has the value of what it is copied from
      needless_says : (e : FlatEqn) (am : Among e n.eqns) (a : Atom) → Needless n.variables t e a → holds e.clock now ≡ true → map now e.targets ≡ atom now a ∷ []
      needless_says e am a is on =
          let x = is.target in
          let b = is.other in
          let there = sides_there e am is.test a b is.right on in
          let same : atom now b ≡ atom now a = sym (means_read t m b there.1) ∙ one_value now (read t a) (read t b) is.one ∙ means_read t m a there.0 in
          let says : map now e.targets ≡ right_gives answers e.clock e.restart past now e.right = each_among (Holds answers past now) n.eqns e c.equations am on in
          let given : now x ∷ [] ≡ ternary Mux (atom now is.test) (atom now a) (atom now b) ∷ [] = sym (ap (map now) is.targets) ∙ says ∙ ap (λ (r : Right). right_gives answers e.clock e.restart past now r) is.right in
          let fits : EqnFits takes now e = each_among (EqnFits takes now) n.eqns e f.eqns am in
          let x_there : is_there (now x) ≡ true = (subst (AllByRecursion (IsThere now)) is.targets (fits.targets_there on)).0 in
          let value : now x ≡ atom now a = chosen_same (atom now is.test) (atom now a) (atom now b) (now x) same (first_of (now x) (ternary Mux (atom now is.test) (atom now a) (atom now b)) [] [] given) x_there in
          ap (map now) is.targets ∙ ap (λ v. v ∷ []) value

      -- where nothing makes an operator begin anew, it gives the same
      restart_holds : (d : FlatEqn) → Holds answers past now d → Holds answers past now (with_restart d)
      restart_holds d h = λ on. h on ∙ same_gives d.clock d.restart d.right

      holds_by : (e : FlatEqn) (am : Among e n.eqns) (o : Option Atom) → of t e ≡ o → Holds answers past now (copying o e)
      holds_by e am None q = each_among (Holds answers past now) n.eqns e c.equations am
      holds_by e am (Some a) q = needless_says e am a (needless-is n.variables t e a q)

      pub simplified-holds : (e : FlatEqn) → Among e n.eqns → Holds answers past now (simplified n.variables t e)
      simplified-holds e am = restart_holds (copying (of t e) e) (holds_by e am (of t e) refl)

      -- ---- so a variable has the value of what it stands for

      copied_same : (e : FlatEqn) (x : ℕ) (a b : Atom) → Among e n.eqns → copy_of (simplified n.variables t e) ≡ Some (x, a) → may_stand n x b ≡ true → is_there (now x) ≡ true → now x ≡ atom now a
      copied_same e x a b am q may there =
          let d : FlatEqn = simplified n.variables t e in
          let targets : e.targets ≡ x ∷ [] = sym (copying-targets e (of t e)) ∙ copy-target d x a q in
          let le : n.inputs ≤ x = (subst (AllByRecursion (λ y. n.inputs ≤ y)) targets (each_among (λ (g : FlatEqn). AllByRecursion (λ y. n.inputs ≤ y) g.targets) n.eqns e no_inputs am)).0 in
          let by : SetBy n.eqns now x = set_there (is_set n.eqns now x) x refl le there in
          let defines : 1 ≤ count x e.targets = subst (λ ts. 1 ≤ count x ts) (copying-targets e (of t e)) (copy-defines d x a q) in
          let one : by.eqn ≡ e = one_of (λ (g : FlatEqn). g.targets) x n.eqns (omega (arith, may-once n x b may)) by.eqn e by.among am (has-count by.eqn.targets x by.target) defines in
          let on : holds d.clock now ≡ true = ap (λ k. holds k now) (copying-clock e (of t e)) ∙ ap (λ (g : FlatEqn). holds g.clock now) (sym one) ∙ by.there in
          copy-says answers past now d x a q (simplified-holds e am) on

      atom_there : (a : Atom) → is_there (atom now a) ≡ true → AllByRecursion (IsThere now) (atom_variables a)
      atom_there (Variable y) h = (h, tt)
      atom_there (Fixed v) h = tt

      means_put : (d : Bool) (x z : ℕ) (a : Atom) → nat_eq x z ≡ d → (is_there (now x) ≡ true → now x ≡ atom now a) → is_there (now z) ≡ true → atom now (if d then read t a else t z) ≡ now z
      means_put true x z a q h there =
          let same : x ≡ z = eqb-true x z q in
          let x_there : is_there (now x) ≡ true = ap (λ v. is_there (now v)) same ∙ there in
          means_read t m a (atom_there a (ap is_there (sym (h x_there)) ∙ x_there)) ∙ sym (h x_there) ∙ ap now same
      means_put false x z a q h there = m z there

      means_may : (d : Bool) (x z : ℕ) (a : Atom) → (d ≡ true → is_there (now x) ≡ true → now x ≡ atom now a) → is_there (now z) ≡ true → atom now ((if d then put x (read t a) t else t) z) ≡ now z
      means_may true x z a h there = means_put (nat_eq x z) x z a refl (h refl) there
      means_may false x z a h there = m z there

      means_copy : (e : FlatEqn) → Among e n.eqns → (k : Option (ℕ × Atom)) → copy_of (simplified n.variables t e) ≡ k → Means (standing n k t)
      means_copy e am None q z there = m z there
      means_copy e am (Some (x, a)) q z there = means_may (may_stand n x (read t a)) x z a (λ may. copied_same e x a (read t a) am q may) there

    all_mean : (es : List FlatEqn) → ((e : FlatEqn) → Among e es → Among e n.eqns) → (t : Meanings) → Means t → Means (choice_meanings n es t)
    all_mean [] sub t m z there = m z there
    all_mean (e ∷ es) sub t m z there =
        all_mean es (λ d b. sub d (inr b)) (standing n (copy_of (simplified n.variables t e)) t) (means_copy t m e (sub e (inl refl)) (copy_of (simplified n.variables t e)) refl) z there

    means_last : Means last
    means_last = all_mean n.eqns (λ e a. a) (λ x. Variable x) (λ x h. refl)

    -- ---- the instant continues the past, and clocks fit

    same_set : (es : List FlatEqn) (z : ℕ) → is_set (map w es) now z ≡ is_set es now z
    same_set [] z = refl
    same_set (e ∷ es) z = λ i. (holds (copying-clock e (of last e) i) now && has (copying-targets e (of last e) i) z) || same_set es z i

    pub simple-continues : Continues answers (simple n) past inputs now
    simple-continues = record {
      inputs_are = c.inputs_are;
      equations = each_map_among (Holds answers past now) w n.eqns (λ e a. simplified-holds last means_last e a);
      others = λ x le h. c.others x le (sym (same_set n.eqns x) ∙ h);
    }

    fit_by : (e : FlatEqn) (am : Among e n.eqns) (o : Option Atom) → of last e ≡ o → EqnFits takes now (copying o e)
    fit_by e am None q = each_among (EqnFits takes now) n.eqns e f.eqns am
    fit_by e am (Some a) q =
        let fits : EqnFits takes now e = each_among (EqnFits takes now) n.eqns e f.eqns am in
        let is : Needless n.variables last e a = needless-is n.variables last e a q in
        record {
          clock = fits.clock;
          restart = fits.restart;
          operands_there = λ on. each_append (IsThere now) (atom_variables a) [] (sides_there e am is.test a is.other is.right on).0 tt;
          targets_there = fits.targets_there;
          args_taken = λ on. tt;
        }

    restart_flags : (r : Right) (xs : List ℕ) → AllByRecursion (λ x. is_flag (now x) ≡ true) xs → AllByRecursion (λ x. is_flag (now x) ≡ true) (restart_of r xs)
    restart_flags (operator op args) xs h = tt
    restart_flags (register first next) xs h = h
    restart_flags (called g args) xs h = h

    restart_fits : (d : FlatEqn) → EqnFits takes now d → EqnFits takes now (with_restart d)
    restart_fits d k = record { clock = k.clock; restart = restart_flags d.right d.restart k.restart; operands_there = k.operands_there; targets_there = k.targets_there; args_taken = k.args_taken }

    pub simple-fits : Fits takes (simple n) now
    simple-fits = record { inputs = f.inputs; outputs = f.outputs; eqns = each_map_among (EqnFits takes now) w n.eqns (λ e a. restart_fits (copying (of last e) e) (fit_by e a (of last e) refl)) }

  module _ (answers : Answers) (takes : Names (List KindData)) where
    reaction : (inputs : List (List Value)) (instants : List Instant) → AllByRecursion (Fits takes n) instants → Reaction answers n inputs instants → Reaction answers (simple n) inputs instants
    reaction [] [] fits q = tt
    reaction [] (now ∷ past) fits q = absurd q
    reaction (inputs ∷ earlier) [] fits q = absurd q
    reaction (inputs ∷ earlier) (now ∷ past) fits q = (reaction earlier past fits.1 q.0, simple-continues answers takes past inputs now q.1 fits.0)

    all_fit : (inputs : List (List Value)) (instants : List Instant) → AllByRecursion (Fits takes n) instants → Reaction answers n inputs instants → AllByRecursion (Fits takes (simple n)) instants
    all_fit [] [] fits q = tt
    all_fit [] (now ∷ past) fits q = absurd q
    all_fit (inputs ∷ earlier) [] fits q = absurd q
    all_fit (inputs ∷ earlier) (now ∷ past) fits q = (simple-fits answers takes past inputs now q.1 fits.0, all_fit earlier past fits.1 q.0)

    pub simple-remains : (inputs : List (List Value)) (instants : List Instant) → AllByRecursion (Fits takes n) instants → Reaction answers n inputs instants → Remains answers takes n (simple n) inputs instants
    simple-remains inputs instants fits q = record { others = instants; reaction = reaction inputs instants fits q; fit = all_fit inputs instants fits q; outputs = refl }
