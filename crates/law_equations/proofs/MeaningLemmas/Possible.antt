-- In each reaction of a node that is well made values are of their kinds, exactly where variables are defined.
use Rattle.std.proofs.Common.{◌≡◌, ℕ, zero, suc, ◌+◌, ◌<◌, Bool, true, false, ◌||◌, ◌&&◌, nat_eq, nat_lt, List, [], ◌∷◌, ◌++◌, get_or, map, if◌then◌else◌, refl, sym, ap, subst, ◌∙◌, arith}
use Rattle.std.specs.List.{AllByRecursion, flat_map, range_with_len}
use Rattle.std.proofs.lemmas.Bool.{eqb-true, ltb-true}
use Rattle.hp_base.specs.Kinds.{KindData, IsOfKind, AreOfKinds}
use Rattle.hp_base.specs.declared.value.Value.{Value}
use Rattle.hp_base.specs.declared.value.Value.TheVariants.{Absent}
use Rattle.hp_obc.specs.Machines.{ObcType}
use Rattle.hp_obc.specs.Values.{operated, first_of_kind}
use Rattle.hp_obc.proofs.OperatorKinds.{IsKindOf, AreKindsOf, operated-kind}
use Rattle.hp_flat.specs.declared.equation.Atom.{Atom}
use Rattle.hp_flat.specs.declared.equation.Atom.TheVariants.{Variable as Named, Value as Fixed}
use Rattle.hp_flat.specs.declared.node.FlatTy.TheVariants.{Int as FlatInt}
use Rattle.hp_flat.specs.declared.node.Variable.{Variable}
use Rattle.hp_flat.specs.Equations.{Clock, Right, operator, register, called, FlatEqn}
use Rattle.hp_flat.specs.Nodes.{FlatNode}
use Rattle.law_equations.specs.Meaning.Instants.{Instant, holds, restarted, atom, atoms, history, since, newest}
use Rattle.law_equations.specs.Meaning.Reactions.{Answers, has, is_set, inputs_of, right_gives, gives}
use Rattle.law_equations.specs.Meaning.Fitting.{is_there, IsThere, atom_variables, operands}
use Rattle.law_equations.specs.Meaning.Scheduling.{clock_variables, right_reads, reads, IsDefinedBelow}
use Rattle.law_equations.specs.Meaning.Solving.{valued, solved, said}
use Rattle.law_equations.specs.Meaning.Kinding.{variable_kind, HasValue, Callees, AtomHasKind, HaveKinds, RightHasKinds, EqnKinds, is_present, OptionallyOf, IsPossible, IsWellMade, AnswersOfKinds, kinds_at}
use Rattle.law_equations.proofs.MeaningLemmas.Lists.{each_map, each_both, each_second}
use Rattle.law_equations.proofs.MeaningLemmas.OneInstant.{Agree, eqn-holds-same, Below, below_more, bound, bounded}
use Rattle.law_equations.proofs.MeaningLemmas.KindLaws.{unless_each, history_each, fixed_point, is_below, below_from, below_to, and_first, and_second, set-same, optional-there, first-of, type_as, as_kind_of}

-- ---- values of inputs, targets and right sides

module _ (types : List ObcType) (variables : List Variable) where
  abbrev pub kind_at : ℕ → KindData
  kind_at x = variable_kind types variables x

  inputs-of_kind : (a k : ℕ) (vs : List Value) (j x : ℕ) → AreOfKinds (map kind_at (range_with_len a k)) vs → j < k → x ≡ a + j → IsOfKind (kind_at x) (get_or vs j Absent)
  inputs-of_kind a zero vs j x h lt e = absurd (omega arith)
  inputs-of_kind a (suc k) [] j x h lt e = absurd h
  inputs-of_kind a (suc k) (v ∷ vs) zero x h lt e = let same : a ≡ x = omega (arith, e) in subst (λ z. IsOfKind (kind_at z) v) same h.0
  inputs-of_kind a (suc k) (v ∷ vs) (suc j) x h lt e = inputs-of_kind (a + 1) k vs j x h.1 (omega arith) (omega (arith, e))

  target_by : (d e : Bool) (x y : ℕ) (v w : Value) → nat_eq x y ≡ d → IsOfKind (kind_at x) v → (d || e) ≡ true → (e ≡ true → IsOfKind (kind_at y) w) → IsOfKind (kind_at y) (if d then v else w)
  target_by true e x y v w s h t f = subst (λ z. IsOfKind (kind_at z) v) (eqb-true x y s) h
  target_by false e x y v w s h t f = f t

  targets-of_kind : (xs : List ℕ) (vs : List Value) (y : ℕ) → AreOfKinds (map kind_at xs) vs → has xs y ≡ true → IsOfKind (kind_at y) (valued xs vs y)
  targets-of_kind [] vs y h t = absurd (cc)
  targets-of_kind (x ∷ xs) [] y h t = absurd h
  targets-of_kind (x ∷ xs) (v ∷ vs) y h t = target_by (nat_eq x y) (has xs y) x y v (valued xs vs y) refl h.0 t (λ e. targets-of_kind xs vs y h.1 e)

  -- values of variables that are there are of their kinds
  abbrev pub IsKinded : Instant → ℕ → Type 0
  IsKinded i x = is_there (i x) ≡ true → IsOfKind (kind_at x) (i x)

  module _ (callees : Callees) where
    atom-of_kind : (i : Instant) (a : Atom) (k : KindData) → AtomHasKind types callees variables a k → AllByRecursion (IsKinded i) (atom_variables a) → AllByRecursion (IsThere i) (atom_variables a) → IsOfKind k (atom i a)
    atom-of_kind i (Named x) k h g t = subst (λ j. IsOfKind j (i x)) h (g.0 t.0)
    atom-of_kind i (Fixed v) k h g t = h.0

    pub atoms-of_kind : (i : Instant) (args : List Atom) (ks : List KindData) → HaveKinds types callees variables args ks → AllByRecursion (IsKinded i) (flat_map atom_variables args) → AllByRecursion (IsThere i) (flat_map atom_variables args) → AreOfKinds ks (atoms i args)
    atoms-of_kind i [] [] h g t = tt
    atoms-of_kind i [] (k ∷ ks) h g t = absurd h
    atoms-of_kind i (a ∷ args) [] h g t = absurd h
    atoms-of_kind i (Named x ∷ args) (k ∷ ks) h g t = (subst (λ j. IsOfKind j (i x)) h.0 (g.0 t.0), atoms-of_kind i args ks h.1 g.1 t.1)
    atoms-of_kind i (Fixed v ∷ args) (k ∷ ks) h g t = (h.0.0, atoms-of_kind i args ks h.1 g t)

    kinds_of_types : (args : List Atom) (ks : List KindData) → HaveKinds types callees variables args ks → AreKindsOf types ks
    kinds_of_types [] [] h = tt
    kinds_of_types [] (k ∷ ks) h = absurd h
    kinds_of_types (a ∷ args) [] h = absurd h
    kinds_of_types (Named x ∷ args) (k ∷ ks) h =
        (subst (IsKindOf types) h.0 (as_kind_of types (kind_at x) (type_as types (get_or variables x (record { name = []; ty = FlatInt })).ty)), kinds_of_types args ks h.1)
    kinds_of_types (Fixed v ∷ args) (k ∷ ks) h = (as_kind_of types k h.0.1, kinds_of_types args ks h.1)

newest-of_kind : (k : KindData) (first : Value) (h : List Value) → IsOfKind k first → AllByRecursion (IsOfKind k) h → IsOfKind k (newest first h)
newest-of_kind k first [] f g = f
newest-of_kind k first (v ∷ h) f g = g.0

module _ (types : List ObcType) (n : FlatNode) where
  abbrev vs : List Variable
  vs = n.variables

  pub all_kinded : (i : Instant) → IsPossible types n i → (xs : List ℕ) → AllByRecursion (IsKinded types vs i) xs
  all_kinded i p [] = tt
  all_kinded i p (x ∷ xs) = ((λ t. optional-there (is_present n i x) (kind_at types vs x) (i x) (p x) t), all_kinded i p xs)

  module _ (callees : Callees) (answers : Answers) (typed : AnswersOfKinds answers callees) (past : List Instant) where
    -- at each earlier instant at which the clock held the operands were there
    abbrev WasThere : Clock → Right → Type 0
    WasThere clock r = AllByRecursion (λ (i : Instant). IsPossible types n i × (holds clock i ≡ true → AllByRecursion (IsThere i) (operands r))) past

    pub right-of_kinds : (clock : Clock) (restart : List ℕ) (r : Right) (ks : List KindData) (now : Instant) → RightHasKinds types callees vs r ks → WasThere clock r
        → AllByRecursion (IsKinded types vs now) (right_reads r) → AllByRecursion (IsThere now) (right_reads r) → AreOfKinds ks (right_gives answers clock restart past now r)
    right-of_kinds clock restart (operator op args) ks now h p g t =
        subst (λ ls. AreOfKinds ls (operated op (atoms now args) ∷ [])) (sym h.4)
        (operated-kind types op h.0 (atoms now args) h.2 h.3 (kinds_of_types types vs callees args h.0 h.1) (atoms-of_kind types vs callees now args h.0 h.1 g t), tt)
    right-of_kinds clock restart (register first next) ks now h p g t =
        subst (λ ls. AreOfKinds ls (newest first (since clock restart (λ i. atom i next) past now) ∷ [])) (sym h.3) (
          newest-of_kind h.0 first (since clock restart (λ i. atom i next) past now) h.1
              (unless_each (IsOfKind h.0) (restarted restart now) (history clock restart (λ i. atom i next) past)
              (history_each (IsOfKind h.0) clock restart (λ i. atom i next) past
              (each_map (λ (i : Instant). IsPossible types n i × (holds clock i ≡ true → AllByRecursion (IsThere i) (atom_variables next))) (λ (i : Instant). holds clock i ≡ true → IsOfKind h.0 (atom i next))
              (λ i q c. atom-of_kind types vs callees i next h.0 h.2 (all_kinded i q.0 (atom_variables next)) (q.1 c)) past p))),
          tt,
        )
    right-of_kinds clock restart (called f args) ks now h p g t =
        subst (λ ls. AreOfKinds ls (answers f (atoms now args) (since clock restart (λ i. atoms i args) past now))) (sym h.1)
        (typed f (atoms now args) (since clock restart (λ i. atoms i args) past now) (atoms-of_kind types vs callees now args (callees.takes f) h.0 g t)
        (unless_each (AreOfKinds (callees.takes f)) (restarted restart now) (history clock restart (λ i. atoms i args) past)
        (history_each (AreOfKinds (callees.takes f)) clock restart (λ i. atoms i args) past
        (each_map (λ (i : Instant). IsPossible types n i × (holds clock i ≡ true → AllByRecursion (IsThere i) (flat_map atom_variables args))) (λ (i : Instant). holds clock i ≡ true → AreOfKinds (callees.takes f) (atoms i args))
        (λ i q c. atoms-of_kind types vs callees i args (callees.takes f) h.0 (all_kinded i q.0 (flat_map atom_variables args)) (q.1 c)) past p))))

    -- what the first equation of a variable gives is of its kind
    solved_by : (d m : Bool) (k : KindData) (v w : Value) → (d ≡ true → IsOfKind k v) → OptionallyOf m k w → OptionallyOf (d || m) k (if d then v else w)
    solved_by true m k v w f g = f refl
    solved_by false m k v w f g = g

    solved-of_kind : (now : Instant) (x : ℕ) (es : List FlatEqn)
        → AllByRecursion (λ (e : FlatEqn). holds e.clock now ≡ true → has e.targets x ≡ true → AreOfKinds (map (kind_at types vs) e.targets) (gives answers e past now)) es
        → OptionallyOf (is_set es now x) (kind_at types vs x) (solved answers es past now x)
    solved-of_kind now x [] gs = refl
    solved-of_kind now x (e ∷ es) gs =
        solved_by (holds e.clock now && has e.targets x) (is_set es now x) (kind_at types vs x) (valued e.targets (gives answers e past now) x) (solved answers es past now x)
        (λ d.
        let there = and_second (holds e.clock now) (has e.targets x) d in
        targets-of_kind types vs e.targets (gives answers e past now) x (gs.0 (and_first (holds e.clock now) (has e.targets x) d) there) there)
        (solved-of_kind now x es gs.1)

-- ---- an instant of which some variables are known goes on to a possible one

first_by : (types : List ObcType) (variables : List Variable) (x : ℕ) → AllByRecursion (λ (v : Variable). HasValue types v.ty) variables → IsOfKind (kind_at types variables x) (first_of_kind (kind_at types variables x))
first_by types [] x h = first-of types FlatInt tt
first_by types (v ∷ variables) zero h = first-of types v.ty h.0
first_by types (v ∷ variables) (suc x) h = first_by types variables x h.1

module _ (types : List ObcType) (callees : Callees) (n : FlatNode) (f : IsWellMade types callees n) (now : Instant) where
  abbrev is_input : ℕ → Bool
  is_input x = nat_lt x n.inputs

  abbrev its_kind : ℕ → KindData
  its_kind x = variable_kind types n.variables x

  -- inputs and variables of less rank are as they are, others have the first values of their kinds where they are set
  abbrev filled : ℕ → Instant → Instant
  filled k i x = if is_input x || is_below n.eqns k x then now x else (if is_set n.eqns i x then first_of_kind (its_kind x) else Absent)

  filled-same : (k : ℕ) (i j : Instant) (x : ℕ) → AllByRecursion (λ (e : FlatEqn). has e.targets x ≡ true → AllByRecursion (Agree i j) (reads e)) n.eqns → filled k i x ≡ filled k j x
  filled-same k i j x h = ap (λ (d : Bool). if is_input x || is_below n.eqns k x then now x else (if d then first_of_kind (its_kind x) else Absent)) (set-same n.eqns i j x h)

  -- what equations of a variable read is of less rank than they are
  reads_below : (k : ℕ) (i j : Instant) (x : ℕ) → ((z : ℕ) → Below n.eqns k z → i z ≡ j z) → AllByRecursion (λ (d : FlatEqn). has d.targets x ≡ true → d.at < suc k) n.eqns
      → AllByRecursion (λ (e : FlatEqn). has e.targets x ≡ true → AllByRecursion (Agree i j) (reads e)) n.eqns
  reads_below k i j x same b =
      each_both (λ (d : FlatEqn). has d.targets x ≡ true → d.at < suc k) (λ (e : FlatEqn). AllByRecursion (IsDefinedBelow n.eqns e) (reads e)) (λ (e : FlatEqn). has e.targets x ≡ true → AllByRecursion (Agree i j) (reads e))
      (λ e h r t. each_map (IsDefinedBelow n.eqns e) (Agree i j) (λ z below. same z (below_more n.eqns e.at k z (h t) below)) (reads e) r) n.eqns b f.ranked

  none_read : (i j : Instant) (x : ℕ) → Below n.eqns zero x → AllByRecursion (λ (e : FlatEqn). has e.targets x ≡ true → AllByRecursion (Agree i j) (reads e)) n.eqns
  none_read i j x b = each_map (λ (d : FlatEqn). has d.targets x ≡ true → d.at < zero) (λ (e : FlatEqn). has e.targets x ≡ true → AllByRecursion (Agree i j) (reads e)) (λ e h t. let lt : e.at < zero = h t in absurd (omega arith)) n.eqns b

  extended : (k : ℕ) → (other : Instant) × ((x : ℕ) → other x ≡ filled k other x)
  extended k = fixed_point n.eqns (filled k) (λ i j x b. filled-same k i j x (none_read i j x b)) (λ l i j same x b. filled-same k i j x (reads_below l i j x same b))

  known_by : (a b : Bool) (v w : Value) → b ≡ true → (if a || b then v else w) ≡ v
  known_by true b v w h = refl
  known_by false true v w h = refl
  known_by false false v w h = absurd (cc)

  filled_by : (s : Bool) (x : ℕ) → OptionallyOf s (its_kind x) (if s then first_of_kind (its_kind x) else Absent)
  filled_by true x = first_by types n.variables x f.values
  filled_by false x = refl

  abbrev IsOptional : Instant → ℕ → Type 0
  IsOptional i x = OptionallyOf (is_present n i x) (its_kind x) (i x)

  module _ (k : ℕ) (inputs_known : (x : ℕ) → is_input x ≡ true → IsOfKind (its_kind x) (now x)) (others_known : (x : ℕ) → Below n.eqns k x → IsOptional now x) (other : Instant) (is : (x : ℕ) → other x ≡ filled k other x) where
    as_before : (z : ℕ) → Below n.eqns k z → other z ≡ now z
    as_before z b = is z ∙ known_by (is_input z) (is_below n.eqns k z) (now z) (if is_set n.eqns other z then first_of_kind (its_kind z) else Absent) (below_to n.eqns k z b)

    set_as_before : (x : ℕ) → Below n.eqns k x → is_set n.eqns other x ≡ is_set n.eqns now x
    set_as_before x b =
        set-same n.eqns other now x
        (reads_below k other now x as_before (each_map (λ (d : FlatEqn). has d.targets x ≡ true → d.at < k) (λ (d : FlatEqn). has d.targets x ≡ true → d.at < suc k) (λ d h t. let lt : d.at < k = h t in omega arith) n.eqns b))

    possible_by : (a b : Bool) (x : ℕ) → is_input x ≡ a → is_below n.eqns k x ≡ b
        → OptionallyOf (a || is_set n.eqns other x) (its_kind x) (if a || b then now x else (if is_set n.eqns other x then first_of_kind (its_kind x) else Absent))
    possible_by true b x h g = inputs_known x h
    possible_by false true x h g =
        let at_now : OptionallyOf (is_input x || is_set n.eqns now x) (its_kind x) (now x) = others_known x (below_from n.eqns k x g) in
        let no_input : OptionallyOf (is_set n.eqns now x) (its_kind x) (now x) = subst (λ (d : Bool). OptionallyOf (d || is_set n.eqns now x) (its_kind x) (now x)) h at_now in
        subst (λ (d : Bool). OptionallyOf d (its_kind x) (now x)) (sym (set_as_before x (below_from n.eqns k x g))) no_input
    possible_by false false x h g = filled_by (is_set n.eqns other x) x

    other_possible : IsPossible types n other
    other_possible x = subst (OptionallyOf (is_present n other x) (its_kind x)) (sym (is x)) (possible_by (is_input x) (is_below n.eqns k x) x refl refl)

    -- so the operands of an equation that is there are there, as far as they are known
    known_operands : AllByRecursion (λ (e : FlatEqn). AllByRecursion (Below n.eqns k) (reads e) → holds e.clock now ≡ true → AllByRecursion (IsThere other) (operands e.right)) n.eqns
    known_operands =
        each_map (λ (e : FlatEqn). holds e.clock other ≡ true → AllByRecursion (IsThere other) (operands e.right)) (λ (e : FlatEqn). AllByRecursion (Below n.eqns k) (reads e) → holds e.clock now ≡ true → AllByRecursion (IsThere other) (operands e.right))
        (λ e h b c. h (eqn-holds-same e other now (each_map (Below n.eqns k) (Agree other now) (λ z l. as_before z l) (reads e) b) ∙ c)) n.eqns ((f.fit other other_possible).operands_there)

-- what an equation reads with its arguments are operands
pub reads_there : (r : Right) (i j : Instant) → AllByRecursion (Agree i j) (right_reads r) → AllByRecursion (IsThere i) (operands r) → AllByRecursion (IsThere j) (right_reads r)
reads_there (operator op args) i j a t = each_both (Agree i j) (IsThere i) (IsThere j) (λ x e h. ap is_there (sym e) ∙ h) (flat_map atom_variables args) a t
reads_there (register first next) i j a t = tt
reads_there (called g args) i j a t = each_both (Agree i j) (IsThere i) (IsThere j) (λ x e h. ap is_there (sym e) ∙ h) (flat_map atom_variables args) a t

-- ---- the instant of a reaction is possible

said_by : (a m : Bool) (k : KindData) (v w : Value) → (a ≡ true → IsOfKind k v) → OptionallyOf m k w → OptionallyOf (a || m) k (if a then v else w)
said_by true m k v w h g = h refl
said_by false m k v w h g = g

module _ (types : List ObcType) (callees : Callees) (n : FlatNode) (f : IsWellMade types callees n) (answers : Answers) (typed : AnswersOfKinds answers callees)
    (past : List Instant) (past_possible : AllByRecursion (IsPossible types n) past) (inputs : List Value) (of_kinds : AreOfKinds (kinds_at types n (inputs_of n)) inputs)
    (now : Instant) (is : (x : ℕ) → now x ≡ said answers n past inputs now x) where
  abbrev kind : ℕ → KindData
  kind x = variable_kind types n.variables x

  input_kind : (x : ℕ) → nat_lt x n.inputs ≡ true → IsOfKind (kind x) (get_or inputs x Absent)
  input_kind x h = inputs-of_kind types n.variables 0 n.inputs inputs x x of_kinds (ltb-true x n.inputs h) (omega arith)

  inputs_are : (x : ℕ) → nat_lt x n.inputs ≡ true → IsOfKind (kind x) (now x)
  inputs_are x h = subst (IsOfKind (kind x)) (sym (is x ∙ ap (λ (d : Bool). if d then get_or inputs x Absent else solved answers n.eqns past now x) h)) (input_kind x h)

  abbrev Was : List Instant → FlatEqn → Type 0
  Was is e = AllByRecursion (λ (i : Instant). IsPossible types n i × (holds e.clock i ≡ true → AllByRecursion (IsThere i) (operands e.right))) is

  pub past_there : AllByRecursion (Was past) n.eqns
  past_there = over past past_possible
    where
      nothing_past : (es : List FlatEqn) → AllByRecursion (Was []) es
      nothing_past [] = tt
      nothing_past (e ∷ es) = (tt, nothing_past es)

      over : (ps : List Instant) → AllByRecursion (IsPossible types n) ps → AllByRecursion (Was ps) n.eqns
      over [] p = nothing_past n.eqns
      over (i ∷ ps) p =
          each_both (λ (e : FlatEqn). holds e.clock i ≡ true → AllByRecursion (IsThere i) (operands e.right)) (Was ps) (Was (i ∷ ps)) (λ e h g. ((p.0, h), g)) n.eqns ((f.fit i p.0).operands_there) (over ps p.1)

  -- the values of a variable's equations, where what they read is known
  abbrev GivesWell : ℕ → FlatEqn → Type 0
  GivesWell x e = holds e.clock now ≡ true → has e.targets x ≡ true → AreOfKinds (map kind e.targets) (gives answers e past now)

  level : (x : ℕ) → AllByRecursion (GivesWell x) n.eqns → IsOptional types callees n f now now x
  level x g =
      subst (OptionallyOf (is_present n now x) (kind x)) (sym (is x))
      (said_by (nat_lt x n.inputs) (is_set n.eqns now x) (kind x) (get_or inputs x Absent) (solved answers n.eqns past now x) (input_kind x) (solved-of_kind types n callees answers typed past now x n.eqns g))

  gives_well : (k : ℕ) (x : ℕ) → ((z : ℕ) → Below n.eqns k z → IsOptional types callees n f now now z)
      → (es : List FlatEqn) → AllByRecursion (EqnKinds types callees n.variables) es → AllByRecursion (Was past) es
      → (other : Instant) → ((z : ℕ) → Below n.eqns k z → other z ≡ now z)
      → AllByRecursion (λ (e : FlatEqn). AllByRecursion (Below n.eqns k) (reads e) → holds e.clock now ≡ true → AllByRecursion (IsThere other) (operands e.right)) es
      → AllByRecursion (λ (e : FlatEqn). has e.targets x ≡ true → AllByRecursion (Below n.eqns k) (reads e)) es → AllByRecursion (GivesWell x) es
  gives_well k x known [] ks ps other same ops below = tt
  gives_well k x known (e ∷ es) ks ps other same ops below = (
    λ c t.
        let r : AllByRecursion (Below n.eqns k) (right_reads e.right) = each_second (Below n.eqns k) e.restart (right_reads e.right) (each_second (Below n.eqns k) (clock_variables e.clock) (e.restart ++ right_reads e.right) (below.0 t)) in
        right-of_kinds types n callees answers typed past e.clock e.restart e.right (map kind e.targets) now ks.0.right ps.0
        (each_map (Below n.eqns k) (IsKinded types n.variables now) (λ z b there. optional-there (is_present n now z) (kind z) (now z) (known z b) there) (right_reads e.right) r)
        (reads_there e.right other now (each_map (Below n.eqns k) (Agree other now) (λ z b. same z b) (right_reads e.right) r) (ops.0 (below.0 t) c)),
    gives_well k x known es ks.1 ps.1 other same ops.1 below.1,
  )

  climbs : (k : ℕ) (x : ℕ) → Below n.eqns k x → IsOptional types callees n f now now x
  climbs zero x b = level x (each_map (λ (d : FlatEqn). has d.targets x ≡ true → d.at < zero) (GivesWell x) (λ e h c t. let lt : e.at < zero = h t in absurd (omega arith)) n.eqns b)
  climbs (suc k) x b =
      let known : (z : ℕ) → Below n.eqns k z → IsOptional types callees n f now now z = climbs k in
      let other = extended types callees n f now k in
      level x
      (gives_well k x known n.eqns f.kinds past_there other.0 (as_before types callees n f now k inputs_are known other.0 other.1) (known_operands types callees n f now k inputs_are known other.0 other.1)
      (each_both (λ (d : FlatEqn). has d.targets x ≡ true → d.at < suc k) (λ (e : FlatEqn). AllByRecursion (IsDefinedBelow n.eqns e) (reads e)) (λ (e : FlatEqn). has e.targets x ≡ true → AllByRecursion (Below n.eqns k) (reads e))
      (λ e h r t. each_map (IsDefinedBelow n.eqns e) (Below n.eqns k) (λ z l. below_more n.eqns e.at k z (h t) l) (reads e) r) n.eqns b f.ranked))

  pub possible : IsPossible types n now
  possible x = climbs (bound n.eqns) x (bounded n.eqns (bound n.eqns) x (omega arith))
