-- The rows of the names and equations of a block without automata fit, and so do the registers that it keeps.
use Rattle.std.proofs.Common.{◌≡◌, ◌⊎◌, inl, inr, ⊎_elim, ℕ, List, [], ◌∷◌, refl, sym, ap, subst, ◌∙◌}
use Rattle.std.specs.Prelude.{⊤, Bool, true, false, ◌||◌, if◌then◌else◌, IsTrue, IsFalse, Option, None, Some}
use Rattle.std.specs.Str.{bytes_eq}
use Rattle.std.proofs.lemmas.Slice.Eq.{bytes_eq-Decides}
use Rattle.hp_base.specs.Kinds.{KindData}
use Rattle.hp_base.specs.declared.ty.Ty.{Ty}
use Rattle.hp_base.specs.declared.ty.Ty.TheVariants as ty
use Rattle.hp_base.specs.declared.ty.Const.{Const}
use Rattle.hp_base.specs.declared.value.Value.{Value}
use Rattle.hp_base.specs.declared.value.Value.TheVariants.{Absent}
use Rattle.hp_obc.specs.Steps.{Names as TakenBy}
use Rattle.hp_tree.specs.declared.decl.Cons.{Cons}
use Rattle.hp_tree.specs.Expressions.{Expr}
use Rattle.hp_tree.specs.Blocks.{Decl, Block, block, Eqns, no_eqn, more_eqns, Eqn, define, switch, reset, automaton, Arms, no_arm, more_arms}
use Rattle.hp_tree.specs.Programs.{TypeDecl, Node}
use Rattle.hp_tree.specs.Operators.{constant_of, cons_of, is_cons, is_true}
use Rattle.hp_tree.specs.Values.{IsOf}
use Rattle.hp_tree.specs.Instant.{Named, Equations, Head, Tail, Right as RightOf, Test, Arms as ArmsOf, Body, Place, Instant, Clock, holds as tree_holds}
use Rattle.hp_tree.specs.Meaning.{Nodes, declares, defines, some_defines, block_defines, written, clock_in, clock_of}
use Rattle.hp_base.specs.Known.Known.{lookup}
use Rattle.hp_typing.specs.Scopes.{with_variables}
use Rattle.hp_typing.specs.Types.{type_of}
use Rattle.law_judged.specs.Typed.Scopes.{Scope as Known}
use Rattle.hp_init.specs.Classes.{Classes, Assignment}
use Rattle.hp_meaning.specs.Causal.Clocked.{Standing, base_alone, standing_in, ClockRight, BlockRight, AllRight, OneRight, ArmsRight, DeclarationsRight}
use Rattle.hp_meaning.specs.Causal.WhatIsRead.{has_equation}
use Rattle.law_equations.specs.Meaning.Fitting.{is_there, is_flag}
use Rattle.law_equations.specs.Flattened.Flat.{Now, Behaviours, holds, said, Says}
use Rattle.law_equations.specs.Flattened.Flatten.{FlatName, At, Held, When, on, steps, Rows, copies, Plan, unless, is_false, is_false_constant, constant_in, Prefix, below, Scope, inside_at, within_at, restarts_at, lasts_at, under, right_at, arms_rows, flat_expr, flat_gives, flat_defined, flat_scope, flat_equations, flat_equation, flat_arms}
use Rattle.law_equations.specs.Flattened.Timely.{Along, Timely, scope_clocks, equations_clocks, equation_clocks, arms_clocks, Lowered, AllLowered, OneLowered, ArmsLowered}
use Rattle.law_equations.proofs.FlattenedLemmas.PastLaws.{seen, along}
use Rattle.law_equations.proofs.FlattenedLemmas.ExpressionLaws.{and_true, decide, given, Live, deeper, Remembers, Good}
use Rattle.law_equations.proofs.FlattenedLemmas.BlockLaws.{names_eq, last_eq, scope_part, eqns_part, eqn_part, arms_part, lives_equations, live_arms, live_arm, live_body}
use Rattle.law_values.specs.Valued.Judged.{Lasts, lasts_in, Completes, of_arms}
use Rattle.law_values.specs.Valued.Classed.{classes_in, classes_within}
use Rattle.law_values.specs.Valued.Fitting.{Fits as Typed, ExprFits, held}
use Rattle.law_values.specs.Valued.Given.{reading}
use Rattle.law_values.proofs.ValuedLemmas.Both.{DeclsOk, BlockOk, EqnsOk, EqnOk, ArmsOk}
use Rattle.law_values.proofs.ValuedLemmas.Laws.{true_or_false, and_left, not_both, never_nil, fits_true}
use Rattle.law_values.proofs.ValuedLemmas.Typed.{some_is}
use Rattle.law_values.proofs.ValuedLemmas.Scoped.{still_known, not_declared, declared_is}
use Rattle.law_values.proofs.ValuedLemmas.ExprTops.{Callees}
use Rattle.law_values.proofs.ValuedLemmas.Gives.{left_on}
use Rattle.law_wellmade.specs.Timely.Kinds.{kinds_of_decls}
use Rattle.law_wellmade.specs.Timely.Actual.{NamesHave, LastsHave, BlockHas, EqnsHave, EqnHas, ArmsHave}
use Rattle.law_wellmade.specs.Timely.Tested.{ConstructorsDiffer, ConsIs, ConsAre, AreApart, ClockTested, BlockTested, EqnsTested, EqnTested, ArmsTested}
use Rattle.law_wellmade.specs.Timely.Kept.{last_in, OfLasts, OfExpr, OfBlock, OfEqns, OfEqn, OfArms, BlockBegins, EqnsBegin, EqnBegins, ArmsBegin}
use Rattle.law_wellmade.proofs.TimelyLemmas.Actual.{first}
use Rattle.law_wellmade.proofs.TimelyLemmas.KindLaws.{AbsentOr, flag_of}
use Rattle.law_wellmade.proofs.TimelyLemmas.Instants.{is_value}
use Rattle.law_wellmade.proofs.TimelyLemmas.ExpressionsTimely.{value_typed}
use Rattle.law_wellmade.proofs.TimelyLemmas.BlocksTimely.{has_equations, has_head, has_tail, has_arms, has_body, has_arm, has_others}
use Rattle.law_wellmade.proofs.TimelyLemmas.NodesTimely.{there_is}
use Rattle.law_wellmade.proofs.TimelyLemmas.Rows.{SiteFits, RowsFit, OptFits, PlanFits, KeptFits, copy_row, branches, conses, branch_site, branch_rows, fit_of_two, fit_block, fit_right, fit_arms, fit_body}
use Rattle.law_wellmade.proofs.TimelyLemmas.ExpressionRows.{Fine, RightFine, top_typed, chosen_here, clock_holds, expr_rows, expr_kept, right_rows, right_kept, no_keep, held_kept}

false_is : (b : Bool) → (IsTrue b → ⊥) → IsFalse b
false_is true f = absurd (f refl)
false_is false f = refl

not_own : (b : Block) (x : List ℕ) → IsFalse (has_equation b x) → IsTrue (block_defines b x) → ⊥
not_own (block ds es) x f h = not_both (some_defines es x) (and_left (some_defines es x) _ h) f

-- a name that is read in the scope of a block is absent, or of its type
abbrev pub ScopeTold : List TypeDecl → Known → Scope → Now FlatName → Type 0
ScopeTold types s sc i = (x : List ℕ) (t : Ty) → lookup s.variables x ≡ Some t → AbsentOr types t (i (sc x))

abbrev pub LastsTold : List TypeDecl → Known → Lasts → Scope → Now FlatName → Type 0
LastsTold types s ls lsc i = (x : List ℕ) → IsTrue (ls x) → (t : Ty) × (lookup s.variables x ≡ Some t) × AbsentOr types t (i (lsc x))

-- so is a name of further out that a block does not define
abbrev pub OuterTold : List TypeDecl → Block → Known → Scope → Now FlatName → Type 0
OuterTold types b s sc i = (x : List ℕ) (t : Ty) → IsFalse (has_equation b x) → lookup s.variables x ≡ Some t → AbsentOr types t (i (sc x))

typed_or : (types : List TypeDecl) (d : Bool) (t : Ty) (v : Value) → Typed types d (Some t) false v → AbsentOr types t v
typed_or types true t v h = inr (never_nil types t false v refl h)
typed_or types false t v h = inl h

abbrev LastWhere : Option Const → Decl → Type 0
LastWhere o d = elim o [ None ↦ ⊤ | Some k ↦ written d.clock ≡ [] ]

-- the clock of a name that is declared with a last value
last_on_base : (names : Standing) (ds : List Decl) (x : List ℕ) (c : Const) → DeclarationsRight names ds → last_in ds x ≡ Some c → clock_in ds x ≡ []
last_on_base names [] x c right e = refl
last_on_base names (d ∷ ds) x c right e = by (bytes_eq d.name x) e (λ f. last_on_base names ds x c right.2 f)
  where
    here : (o : Option Const) → o ≡ Some c → LastWhere o d → written d.clock ≡ []
    here None e h = absurd (cc)
    here (Some k) e h = h

    by : (b : Bool) → (if b then d.last else last_in ds x) ≡ Some c → (last_in ds x ≡ Some c → clock_in ds x ≡ []) → (if b then written d.clock else clock_in ds x) ≡ []
    by true e f = here d.last e right.1
    by false e f = f e

pub last_declared : (ds : List Decl) (x : List ℕ) (c : Const) → last_in ds x ≡ Some c → IsTrue (declares ds x)
last_declared [] x c e = absurd (cc)
last_declared (d ∷ ds) x c e = by (bytes_eq d.name x) e (λ f. last_declared ds x c f)
  where
    by : (b : Bool) → (if b then d.last else last_in ds x) ≡ Some c → (last_in ds x ≡ Some c → IsTrue (declares ds x)) → IsTrue (b || declares ds x)
    by true e f = refl
    by false e f = f e

pub last_known : (ds : List Decl) (ls : Lasts) (x : List ℕ) (c : Const) → last_in ds x ≡ Some c → IsTrue (lasts_in ds ls x)
last_known [] ls x c e = absurd (cc)
last_known (d ∷ ds) ls x c e = by (bytes_eq d.name x) e (λ f. last_known ds ls x c f)
  where
    here : (o : Option Const) → o ≡ Some c → IsTrue (elim o [ None ↦ ls x | Some k ↦ true ])
    here None e = absurd (cc)
    here (Some k) e = refl

    by : (b : Bool) → (if b then d.last else last_in ds x) ≡ Some c → (last_in ds x ≡ Some c → IsTrue (lasts_in ds ls x)) → IsTrue (if b then (elim d.last [ None ↦ ls x | Some k ↦ true ]) else lasts_in ds ls x)
    by true e f = here d.last e
    by false e f = f e

pub last_stands : (types : List TypeDecl) (ds : List Decl) (lsc : Scope) (here : Prefix) (ck : When) (rs : List Place) (x : List ℕ) (c : Const) → last_in ds x ≡ Some c → lasts_at types ds lsc here ck rs x ≡ Held (constant_of types c) (here (Named x ∷ [])) ck rs
last_stands types [] lsc here ck rs x c e = absurd (cc)
last_stands types (d ∷ ds) lsc here ck rs x c e = by (bytes_eq d.name x) e (λ f. last_stands types ds lsc here ck rs x c f)
  where
    at_it : (o : Option Const) → o ≡ Some c → ◌≡◌ {A = FlatName} (elim o [ None ↦ lsc x | Some k ↦ Held (constant_of types k) (here (Named x ∷ [])) ck rs ]) (Held (constant_of types c) (here (Named x ∷ [])) ck rs)
    at_it None e = absurd (cc)
    at_it (Some k) e = let same : k ≡ c = cc in ap (λ z. Held (constant_of types z) (here (Named x ∷ [])) ck rs) same

    by : (b : Bool) → (if b then d.last else last_in ds x) ≡ Some c → (last_in ds x ≡ Some c → lasts_at types ds lsc here ck rs x ≡ Held (constant_of types c) (here (Named x ∷ [])) ck rs)
        → (if b then (elim d.last [ None ↦ lsc x | Some k ↦ Held (constant_of types k) (here (Named x ∷ [])) ck rs ]) else lasts_at types ds lsc here ck rs x) ≡ Held (constant_of types c) (here (Named x ∷ [])) ck rs
    by true e f = at_it d.last e
    by false e f = f e

module _ (types : List TypeDecl) (differ : ConstructorsDiffer types) (N : Nodes) (among : List ℕ → Option Node) (fits allowed : List ℕ → Instant → Type 0) (known : Callees types false (reading first) N among fits allowed) (does : Behaviours) (fill : Place → Value) (takes : TakenBy (List KindData)) (takes_is : (f : List ℕ) (m : Node) → among f ≡ Some m → takes f ≡ kinds_of_decls types m.inputs)
    (G : List (Now FlatName)) (i : Now FlatName) (r : Along Remembers (i ∷ G)) (gone : (v : Value) (p : Place) (w : When) (rs : List Place) → IsFalse (holds (steps w) i) → i (Held v p w rs) ≡ Absent) where
  -- what is known of the names that equations read
  pub record Ground (s : Known) (st : Standing) (ls : Lasts) (sc lsc : Scope) (ck : When) (rs : List Place) : Type 0 where
    pub have : IsTrue (holds (steps ck) i) → NamesHave types s st (λ x. i (sc x))
    pub told : ScopeTold types s sc i
    pub lasts : LastsTold types s ls lsc i
    pub site : SiteFits takes i ck rs

  -- ---- the names of a block

  last_off : (ds : List Decl) (s0 s1 : Known) (second : Classes) (es : Eqns) (ls : Lasts) (lsc : Scope) (here : Prefix) (ck : When) (rs : List Place) (x : List ℕ) → IsFalse (holds (steps ck) i) → DeclsOk types among s1 second es ds → ((t : Ty) → lookup s0.variables x ≡ Some t → lookup s1.variables x ≡ Some t) → LastsTold types s0 ls lsc i
      → IsTrue (lasts_in ds ls x) → (t : Ty) × (lookup s1.variables x ≡ Some t) × AbsentOr types t (i (lasts_at types ds lsc here ck rs x))
  last_off [] s0 s1 second es ls lsc here ck rs x f ok more lt h = let q = lt x h in (q.0, more q.0 q.1, q.2)
  last_off (d ∷ ds) s0 s1 second es ls lsc here ck rs x f ok more lt h = by (bytes_eq d.name x) refl h (λ k. last_off ds s0 s1 second es ls lsc here ck rs x f ok.1 more lt k)
    where
      at_it : bytes_eq d.name x ≡ true → (o : Option Const) → IsTrue (elim o [ None ↦ ls x | Some k ↦ true ]) → (t : Ty) × (lookup s1.variables x ≡ Some t) × AbsentOr types t (i (elim o [ None ↦ lsc x | Some k ↦ Held (constant_of types k) (here (Named x ∷ [])) ck rs ]))
      at_it e None h = let q = lt x h in (q.0, more q.0 q.1, q.2)
      at_it e (Some k) h = (d.ty, subst (λ z. lookup s1.variables z ≡ Some d.ty) ((bytes_eq-Decides d.name x).0 e) ok.0.0, inl (gone (constant_of types k) (here (Named x ∷ [])) ck rs f))

      by : (b : Bool) → bytes_eq d.name x ≡ b → IsTrue (if b then (elim d.last [ None ↦ ls x | Some k ↦ true ]) else lasts_in ds ls x) → (IsTrue (lasts_in ds ls x) → (t : Ty) × (lookup s1.variables x ≡ Some t) × AbsentOr types t (i (lasts_at types ds lsc here ck rs x)))
          → (t : Ty) × (lookup s1.variables x ≡ Some t) × AbsentOr types t (i (if b then (elim d.last [ None ↦ lsc x | Some k ↦ Held (constant_of types k) (here (Named x ∷ [])) ck rs ]) else lasts_at types ds lsc here ck rs x))
      by true e h f' = at_it e d.last h
      by false e h f' = f' h

  module _ (ds : List Decl) (es : Eqns) (s : Known) (st : Standing) (second : Classes) (ls : Lasts) (class : Assignment) (sc lsc : Scope) (here : Prefix) (ck : When) (rs : List Place) (ok : BlockOk types among s second ls class (block ds es))
      (has : IsTrue (holds (steps ck) i) → BlockHas types fits s st second ls class (λ x. i (sc x)) (λ x. i (lsc x)) (given here ck rs G i) (block ds es) (seen here i)) (off : IsFalse (holds (steps ck) i) → (p : Place) → i (At (here p)) ≡ Absent) (outer : OuterTold types (block ds es) s sc i) (lt : LastsTold types s ls lsc i) (site : SiteFits takes i ck rs) where
    names_have : IsTrue (holds (steps ck) i) → NamesHave types (with_variables s ds) (standing_in ds es st) (λ x. i (inside_at es sc here x))
    names_have t = subst (λ names. NamesHave types (with_variables s ds) (standing_in ds es st) names) (names_eq es sc here i) (has t).0

    lasts_have : IsTrue (holds (steps ck) i) → LastsHave types (with_variables s ds) (lasts_in ds ls) (λ x. i (lasts_at types ds lsc here ck rs x))
    lasts_have t = subst (λ last. LastsHave types (with_variables s ds) (lasts_in ds ls) last) (last_eq types ds lsc here ck rs G i r.0 t) (has t).1.0

    not_declared_here : (x : List ℕ) → IsFalse (some_defines es x) → IsFalse (declares ds x)
    not_declared_here x f = true_or_false (declares ds x) (λ t. not_both (some_defines es x) (declared_is types among (with_variables s ds) (classes_in es second class) es x ds ok.0 t).0 f) (λ z. z)

    scope_told : ScopeTold types (with_variables s ds) (inside_at es sc here) i
    scope_told x t l = by (some_defines es x) refl
      where
        defined : some_defines es x ≡ true → AbsentOr types t (i (At (here (Named x ∷ []))))
        defined e =
            decide (holds (steps ck) i)
            (λ k. subst (λ a. AbsentOr types t (i a)) (ap (λ b. if b then At (here (Named x ∷ [])) else sc x) e)
            (typed_or types (tree_holds types (clock_in ds x) (λ x. i (inside_at es sc here x))) t (i (inside_at es sc here x)) (names_have k x (clock_in ds x) t (ap (λ b. if b then Some (clock_in ds x) else base_alone (st x)) e) l)))
            (λ f. inl (off f (Named x ∷ [])))

        by : (b : Bool) → some_defines es x ≡ b → AbsentOr types t (i (if b then At (here (Named x ∷ [])) else sc x))
        by true e = defined e
        by false e = outer x t e (sym (not_declared x ds s (not_declared_here x e)) ∙ l)

    lasts_told : LastsTold types (with_variables s ds) (lasts_in ds ls) (lasts_at types ds lsc here ck rs) i
    lasts_told x h =
        decide (holds (steps ck) i)
        (λ k. let q = lasts_have k x h in (q.0, q.1.0, inr q.1.1))
        (λ f. last_off ds s (with_variables s ds) (classes_in es second class) es ls lsc here ck rs x f ok.0 (λ t k. still_known x ds s t k) lt h)

    pub block_ground : Ground (with_variables s ds) (standing_in ds es st) (lasts_in ds ls) (inside_at es sc here) (lasts_at types ds lsc here ck rs) ck rs
    block_ground = record { have = names_have; told = scope_told; lasts = lasts_told; site = site }

    -- a name that is defined is there where its clock is
    pub target_there : (x : List ℕ) → IsTrue (some_defines es x) → IsTrue (holds (steps (under types (inside_at es sc here) (clock_in ds x) ck)) i) → IsTrue (is_there (i (At (here (Named x ∷ [])))))
    target_there x d h =
        let b = clock_holds types differ N among fits allowed known does fill takes takes_is (with_variables s ds) (standing_in ds es st) second ls (inside_at es sc here) lsc ck rs G i r.0 names_have scope_told (clock_in ds x) h in
        let q = (has b.1).1.1.0 x d in
        let v = names_have b.1 x (clock_in ds x) q.0 (ap (λ c. if c then Some (clock_in ds x) else base_alone (st x)) d) q.1 in
        let u = never_nil types q.0 false (i (inside_at es sc here x)) refl (fits_true types (tree_holds types (clock_in ds x) (λ x. i (inside_at es sc here x))) q.0 false (i (inside_at es sc here x)) b.0 v) in
        subst (λ a. IsTrue (is_there (i a))) (ap (λ c. if c then At (here (Named x ∷ [])) else sc x) d) (there_is _ (is_value types q.0 _ u))

    -- what is remembered of the declarations fits
    pub lasts_kept : DeclarationsRight (standing_in ds es st) ds → (a : FlatName) → OfLasts types fill ds here ck rs a → KeptFits takes i a
    lasts_kept right a k =
        let x = k.0 in
        let c = k.1 in
        let e = k.2 in
        let declared = declared_is types among (with_variables s ds) (classes_in es second class) es x ds ok.0 (last_declared ds x c e) in
        subst (λ z. KeptFits takes i z) (sym k.3)
        (held_kept types differ N among fits allowed known does fill takes takes_is (with_variables s ds) (standing_in ds es st) second ls (inside_at es sc here) lsc ck rs G i r.0 names_have scope_told (constant_of types c) (here (Named x ∷ [])) ck site
        (λ h. target_there x declared.0 (subst (λ clock. IsTrue (holds (steps (under types (inside_at es sc here) clock ck)) i)) (sym (last_on_base (standing_in ds es st) ds x c right e)) h))
        (λ h.
        let q = lasts_have h x (last_known ds ls x c e) in
        subst (λ z. IsTrue (is_there (i z))) (last_stands types ds lsc here ck rs x c e) (there_is _ (is_value types q.0 _ q.1.1))))

  -- ---- clocks of equations

  cons_type : (o : Option Ty) (c : Cons) → ConsIs types o c → (t : Ty) × (o ≡ Some t) × ConsIs types (Some t) c
  cons_type None c h = absurd h
  cons_type (Some t) c h = (t, refl, h)

  clock_site : (s : Known) (st : Standing) (second : Classes) (ls : Lasts) (sc lsc : Scope) (ck : When) (rs : List Place) → Ground s st ls sc lsc ck rs → (clock : Clock) → ClockRight st clock → ClockTested types s clock → SiteFits takes i (under types sc clock ck) rs
  clock_site s st second ls sc lsc ck rs g [] right tested = g.site
  clock_site s st second ls sc lsc ck rs g (step ∷ clock) right tested =
      let q = cons_type (lookup s.variables step.1) step.0 tested.0 in
      branch_site takes i types differ q.0 (sc step.1) (under types sc clock ck) rs (clock_site s st second ls sc lsc ck rs g clock right.1 tested.1) (g.told step.1 q.0 q.1)
      (λ h. chosen_here types differ N among fits allowed known does fill takes takes_is s st second ls sc lsc ck rs G i r.0 g.have g.told step.1 clock q.0 q.1 right.0 h) step.0 q.2

  -- ---- what a condition is

  test_chosen : (s : Known) (st : Standing) (second : Classes) (ls : Lasts) (sc lsc : Scope) (here : Prefix) (ck : When) (rs : List Place) → Ground s st ls sc lsc ck rs → (e : Expr) (t : Ty) → type_of s e ≡ Some t
      → (IsTrue (holds (steps ck) i) → ExprFits types false fits s second (held types false fits (λ x. i (sc x))) e [] (seen (below Test here) i)) → (IsFalse (holds (steps ck) i) → (p : Place) → i (At (here p)) ≡ Absent) → IsTrue (holds (steps ck) i) → IsOf types t (i (At (here (Test ∷ []))))
  test_chosen s st second ls sc lsc here ck rs g e t q h off k =
      top_typed types differ N among fits allowed known does fill takes takes_is s st second ls sc lsc ck rs G i r.0 g.have g.told e t [] (below Test here) (value_typed s e t q) (h, λ f p. off f (Test ∷ p)) k

  test_told : (s : Known) (st : Standing) (second : Classes) (ls : Lasts) (sc lsc : Scope) (here : Prefix) (ck : When) (rs : List Place) → Ground s st ls sc lsc ck rs → (e : Expr) (t : Ty) → type_of s e ≡ Some t
      → (IsTrue (holds (steps ck) i) → ExprFits types false fits s second (held types false fits (λ x. i (sc x))) e [] (seen (below Test here) i)) → (IsFalse (holds (steps ck) i) → (p : Place) → i (At (here p)) ≡ Absent) → AbsentOr types t (i (At (here (Test ∷ []))))
  test_told s st second ls sc lsc here ck rs g e t q h off = decide (holds (steps ck) i) (λ k. inr (test_chosen s st second ls sc lsc here ck rs g e t q h off k)) (λ f. inl (off f (Test ∷ [])))

  -- ---- arms as branches

  arm_branches : Arms → Scope → Prefix → List ℕ → List (Cons × FlatName)
  arm_branches no_arm lsc here x = []
  arm_branches (more_arms c b a arms) lsc here x = (c, if block_defines b x then At (here (Head ∷ Named x ∷ [])) else lsc x) ∷ arm_branches arms lsc (below Tail here) x

  branches_are : (arms : Arms) (test : FlatName) (lsc : Scope) (here : Prefix) (ck : When) (rs : List Place) (x : List ℕ) → branches takes i types (arm_branches arms lsc here x) test ck rs ≡ arms_rows types N.outputs fill arms test lsc here ck rs x
  unfolding arm_branches
  branches_are no_arm test lsc here ck rs x = refl
  branches_are (more_arms c b a arms) test lsc here ck rs x =
      ap (λ q. copies (on (cons_of types c) test ck) rs (if block_defines b x then At (here (Head ∷ Named x ∷ [])) else lsc x) ∷ q) (branches_are arms test lsc (below Tail here) ck rs x)

  conses_are : (arms : Arms) (lsc : Scope) (here : Prefix) (x : List ℕ) → conses takes i (arm_branches arms lsc here x) ≡ of_arms arms
  unfolding arm_branches
  conses_are no_arm lsc here x = refl
  conses_are (more_arms c b a arms) lsc here x = ap (λ cs. c ∷ cs) (conses_are arms lsc (below Tail here) x)

  -- ---- what equations give to names

  gives_rows : (ds : List Decl) (e : Eqn) (s : Known) (st : Standing) (second : Classes) (ls : Lasts) (class : Assignment) (sc lsc : Scope) (here : Prefix) (ck : When) (rs : List Place) → Ground s st ls sc lsc ck rs → OneLowered e → OneRight st ds e → EqnOk types among s second ls class e → EqnTested types s ds e
      → Live (eqn_part types N does fill ds e sc lsc) here ck rs G i → (IsTrue (holds (steps ck) i) → EqnHas types fits ds s st second ls class (λ x. i (sc x)) (λ x. i (lsc x)) (given here ck rs G i) e (seen here i))
      → (a : FlatName) (x : List ℕ) → IsTrue (defines e x) → (IsTrue (holds (steps (under types sc (clock_in ds x) ck)) i) → IsTrue (is_there (i a))) → i a ≡ said does (flat_gives types N.outputs fill ds e sc lsc here ck rs x) G i → RowsFit takes i a (flat_gives types N.outputs fill ds e sc lsc here ck rs x)
  gives_rows ds (define a ys e) s st second ls class sc lsc here ck rs g low right ok tested l h target x df there says =
      copy_row takes i does G (under types sc (clock_of ds ys e) ck) rs (right_at types N.outputs fill ys e (below RightOf here) x) target (clock_site s st second ls sc lsc ck rs g (clock_of ds ys e) right.0 tested.0)
      (λ k. there (subst (λ c. IsTrue (holds (steps (under types sc c ck)) i)) (sym (left_on ds ys x (clock_of ds ys e) df right.1)) k)) says
  gives_rows ds (switch a e arms) s st second ls class sc lsc here ck rs g low right ok tested l h target x df there says =
      let t = ok.1.1.0.0 in
      let q = ok.1.1.0.1.0 in
      let bs = arm_branches arms lsc (below ArmsOf here) x in
      let same = branches_are arms (At (here (Test ∷ []))) lsc (below ArmsOf here) ck rs x in
      let cs = conses_are arms lsc (below ArmsOf here) x in
      subst (λ z. RowsFit takes i target z) same
      (branch_rows takes i types differ t (At (here (Test ∷ []))) ck rs g.site (test_told s st second ls sc lsc here ck rs g e t q (λ k. (h k).0) l.1) (λ k. test_chosen s st second ls sc lsc here ck rs g e t q (λ k. (h k).0) l.1 k) does G target bs
      (subst (λ z. ConsAre types (Some t) z) (sym cs) (subst (λ o. ConsAre types o (of_arms arms)) q tested.1.0)) (subst AreApart (sym cs) tested.1.1.0)
      (λ k. there (subst (λ c. IsTrue (holds (steps (under types sc c ck)) i)) (sym (right.0 x df)) k)) (says ∙ ap (λ z. said does z G i) (sym same)))
  gives_rows ds (reset a b e) s st second ls class sc lsc here ck rs g low right ok tested l h target x df there says =
      copy_row takes i does G ck rs (At (here (Body ∷ Named x ∷ []))) target g.site (λ k. there (subst (λ c. IsTrue (holds (steps (under types sc c ck)) i)) (sym (right.0 x df)) k)) says
  gives_rows ds (automaton a ss) s st second ls class sc lsc here ck rs g low right ok tested l h target x df there says = absurd low

  defined_rows : (ds : List Decl) (es : Eqns) (s : Known) (st : Standing) (second : Classes) (ls : Lasts) (class : Assignment) (sc lsc : Scope) (here : Prefix) (ck : When) (rs : List Place) → Ground s st ls sc lsc ck rs → AllLowered es → AllRight st ds es → EqnsOk types among s second ls class es → EqnsTested types s ds es
      → Along (Live (eqns_part types N does fill ds es sc lsc) here ck rs) (i ∷ G) → (IsTrue (holds (steps ck) i) → EqnsHave types fits ds s st second ls class (λ x. i (sc x)) (λ x. i (lsc x)) (given here ck rs G i) es (seen here i))
      → (a : FlatName) (x : List ℕ) → IsTrue (some_defines es x) → (IsTrue (holds (steps (under types sc (clock_in ds x) ck)) i) → IsTrue (is_there (i a))) → i a ≡ said does (flat_defined types N.outputs fill ds es sc lsc here ck rs x) G i → RowsFit takes i a (flat_defined types N.outputs fill ds es sc lsc here ck rs x)
  defined_rows ds no_eqn s st second ls class sc lsc here ck rs g low right ok tested l h a x df there says = absurd (cc)
  defined_rows ds (more_eqns e es) s st second ls class sc lsc here ck rs g low right ok tested l h a x df there says =
      by (defines e x) refl df says
      (λ k says'. defined_rows ds es s st second ls (λ p. class (Tail ∷ p)) sc lsc (below Tail here) ck rs g low.1 right.1 ok.1 tested.1
      (deeper Tail (eqns_part types N does fill ds (more_eqns e es) sc lsc) (eqns_part types N does fill ds es sc lsc) here ck rs (λ i g now p. refl) (i ∷ G) l)
      (λ t. has_tail types N among fits allowed known does fill ds e es s st second ls class sc lsc here ck rs G i (h t)) a x k there says')
    where
      A : Rows
      A = flat_gives types N.outputs fill ds e sc lsc (below Head here) ck rs x

      B : Rows
      B = flat_defined types N.outputs fill ds es sc lsc (below Tail here) ck rs x

      by : (b : Bool) → defines e x ≡ b → IsTrue (b || some_defines es x) → i a ≡ said does (if b then flat_gives types N.outputs fill ds e sc lsc (below Head here) ck rs x else flat_defined types N.outputs fill ds es sc lsc (below Tail here) ck rs x) G i
          → (IsTrue (some_defines es x) → i a ≡ said does (flat_defined types N.outputs fill ds es sc lsc (below Tail here) ck rs x) G i → RowsFit takes i a (flat_defined types N.outputs fill ds es sc lsc (below Tail here) ck rs x))
          → RowsFit takes i a (if b then flat_gives types N.outputs fill ds e sc lsc (below Head here) ck rs x else flat_defined types N.outputs fill ds es sc lsc (below Tail here) ck rs x)
      by true q k says f =
          gives_rows ds e s st second ls (λ p. class (Head ∷ p)) sc lsc (below Head here) ck rs g low.0 right.0 ok.0 tested.0
          (deeper Head (eqns_part types N does fill ds (more_eqns e es) sc lsc) (eqn_part types N does fill ds e sc lsc) here ck rs (λ i g now p. refl) (i ∷ G) l).0
          (λ t. has_head types N among fits allowed known does fill ds e es s st second ls class sc lsc here ck rs G i (h t)) a x q there says
      by false q k says f = f k says

  -- ---- names of further out in the blocks of a control equation

  outer_in : (s : Known) (st : Standing) (ls : Lasts) (sc lsc : Scope) (ck : When) (rs : List Place) → Ground s st ls sc lsc ck rs → (o : Eqn) (b : Block) → ((x : List ℕ) → IsTrue (defines o x) → IsTrue (block_defines b x) ⊎ IsTrue (ls x)) → OuterTold types b s (within_at o sc lsc) i
  outer_in s st ls sc lsc ck rs g o b comp x t f l = by (defines o x) refl
    where
      last : IsTrue (ls x) → AbsentOr types t (i (lsc x))
      last k = let q = g.lasts x k in subst (λ z. AbsentOr types z (i (lsc x))) (some_is q.0 t (sym q.1 ∙ l)) q.2

      by : (d : Bool) → defines o x ≡ d → AbsentOr types t (i (if d then lsc x else sc x))
      by true q = ⊎_elim (λ k. absurd (not_own b x f k)) (λ k. last k) (comp x q)
      by false q = g.told x t l

  -- ---- a condition that begins a body anew

  flags_with : (e : Expr) (here : Prefix) (ck : When) (rs : List Place) → SiteFits takes i ck rs → AbsentOr types ty.Bool (i (At (here (Test ∷ [])))) → SiteFits takes i ck (restarts_at e here rs)
  flags_with e here ck rs site told = by (is_false e)
    where
      flag : AbsentOr types ty.Bool (i (At (here (Test ∷ [])))) → IsTrue (is_flag (i (At (here (Test ∷ [])))))
      flag (inl q) = subst (λ v. IsTrue (is_flag v)) (sym q) refl
      flag (inr h) = flag_of types _ h

      by : (d : Bool) → SiteFits takes i ck (if d then rs else here (Test ∷ []) ∷ rs)
      by true = site
      by false = record { told = site.told; fits = site.fits; flags = (flag told, site.flags) }

  false_constant : (o : Option Const) → IsTrue (is_false_constant o) → (c : Const) × (o ≡ Some c)
  false_constant None h = absurd (cc)
  false_constant (Some c) h = (c, refl)

  -- ---- all rows of a block

  abbrev Both : Plan Rows → (FlatName → Type 0) → Prefix → Type 0
  Both plan keeps here = PlanFits takes i plan here × ((a : FlatName) → keeps a → KeptFits takes i a)

  mutual
    pub scope_rows : (b : Block) (s : Known) (st : Standing) (second : Classes) (ls : Lasts) (class : Assignment) (fresh : Now FlatName → Bool) (sc lsc : Scope) (here : Prefix) (ck : When) (rs : List Place) → Lowered b → BlockRight st b → BlockOk types among s second ls class b → BlockTested types s b → BlockBegins fill b here
        → Along (Live (scope_part types N does fill b fresh sc lsc) here ck rs) (i ∷ G) → (IsTrue (holds (steps ck) i) → BlockHas types fits s st second ls class (λ x. i (sc x)) (λ x. i (lsc x)) (given here ck rs G i) b (seen here i))
        → Timely (scope_clocks types N.outputs b sc lsc here ck rs) here (i ∷ G) → OuterTold types b s sc i → LastsTold types s ls lsc i → SiteFits takes i ck rs → Good types N does fill (flat_scope types N.outputs fill b sc lsc here ck rs) here G i
        → Both (flat_scope types N.outputs fill b sc lsc here ck rs) (λ a. OfBlock types fill b sc lsc here ck rs a) here
    scope_rows (block ds es) s st second ls class fresh sc lsc here ck rs low right ok tested begins l h tm outer lt site says =
        let g = block_ground ds es s st second ls class sc lsc here ck rs ok h l.0.1 outer lt site in
        let l' = lives_equations types N does fill ds es fresh sc lsc here ck rs (i ∷ G) r l in
        let h' = λ (t : IsTrue (holds (steps ck) i)). has_equations types N among fits allowed known does fill ds es s st second ls class sc lsc here ck rs G i r.0 t (h t) in
        let inner = eqns_rows ds es (with_variables s ds) (standing_in ds es st) (classes_in es second class) (lasts_in ds ls) (λ p. class (Equations ∷ p)) (inside_at es sc here) (lasts_at types ds lsc here ck rs) (below Equations here) ck rs g low right.1 ok.1.1 tested begins l' h' (λ p. tm (Equations ∷ p)) (λ p. says (Equations ∷ p)) in (
          fit_block takes i (λ x. if some_defines es x then Some (flat_defined types N.outputs fill ds es (inside_at es sc here) (lasts_at types ds lsc here ck rs) (below Equations here) ck rs x) else None)
              (flat_equations types N.outputs fill ds es (inside_at es sc here) (lasts_at types ds lsc here ck rs) (below Equations here) ck rs) here
              (λ x. named x (some_defines es x) refl g l' h' (says (Named x ∷ []))) inner.0,
          λ a k. ⊎_elim (λ z. lasts_kept ds es s st second ls class sc lsc here ck rs ok h l.0.1 outer lt site right.0 a z) (λ z. inner.1 a z) k,
        )
      where
        named : (x : List ℕ) (d : Bool) → some_defines es x ≡ d → Ground (with_variables s ds) (standing_in ds es st) (lasts_in ds ls) (inside_at es sc here) (lasts_at types ds lsc here ck rs) ck rs
            → Along (Live (eqns_part types N does fill ds es (inside_at es sc here) (lasts_at types ds lsc here ck rs)) (below Equations here) ck rs) (i ∷ G)
            → (IsTrue (holds (steps ck) i) → EqnsHave types fits ds (with_variables s ds) (standing_in ds es st) (classes_in es second class) (lasts_in ds ls) (λ p. class (Equations ∷ p)) (λ x. i (inside_at es sc here x)) (λ x. i (lasts_at types ds lsc here ck rs x)) (given (below Equations here) ck rs G i) es (seen (below Equations here) i))
            → Says does (if d then Some (flat_defined types N.outputs fill ds es (inside_at es sc here) (lasts_at types ds lsc here ck rs) (below Equations here) ck rs x) else None) G i (i (At (here (Named x ∷ []))))
            → OptFits takes i (if d then Some (flat_defined types N.outputs fill ds es (inside_at es sc here) (lasts_at types ds lsc here ck rs) (below Equations here) ck rs x) else None) (At (here (Named x ∷ [])))
        named x true q g l' h' e =
            defined_rows ds es (with_variables s ds) (standing_in ds es st) (classes_in es second class) (lasts_in ds ls) (λ p. class (Equations ∷ p)) (inside_at es sc here) (lasts_at types ds lsc here ck rs) (below Equations here) ck rs g low right.1 ok.1.1 tested l' h' (At (here (Named x ∷ []))) x q
            (λ k. target_there ds es s st second ls class sc lsc here ck rs ok h l.0.1 outer lt site x q k) e
        named x false q g l' h' e = tt

    eqns_rows : (ds : List Decl) (es : Eqns) (s : Known) (st : Standing) (second : Classes) (ls : Lasts) (class : Assignment) (sc lsc : Scope) (here : Prefix) (ck : When) (rs : List Place) → Ground s st ls sc lsc ck rs → AllLowered es → AllRight st ds es → EqnsOk types among s second ls class es → EqnsTested types s ds es → EqnsBegin fill es here
        → Along (Live (eqns_part types N does fill ds es sc lsc) here ck rs) (i ∷ G) → (IsTrue (holds (steps ck) i) → EqnsHave types fits ds s st second ls class (λ x. i (sc x)) (λ x. i (lsc x)) (given here ck rs G i) es (seen here i))
        → Timely (equations_clocks types N.outputs ds es sc lsc here ck rs) here (i ∷ G) → Good types N does fill (flat_equations types N.outputs fill ds es sc lsc here ck rs) here G i
        → Both (flat_equations types N.outputs fill ds es sc lsc here ck rs) (λ a. OfEqns types fill ds es sc lsc here ck rs a) here
    eqns_rows ds no_eqn s st second ls class sc lsc here ck rs g low right ok tested begins l h tm says = ((λ p. tt), λ a k. absurd k)
    eqns_rows ds (more_eqns e es) s st second ls class sc lsc here ck rs g low right ok tested begins l h tm says =
        let x = eqn_rows ds e s st second ls (λ p. class (Head ∷ p)) sc lsc (below Head here) ck rs g low.0 right.0 ok.0 tested.0 begins.0
        (deeper Head (eqns_part types N does fill ds (more_eqns e es) sc lsc) (eqn_part types N does fill ds e sc lsc) here ck rs (λ i g now p. refl) (i ∷ G) l)
        (λ t. has_head types N among fits allowed known does fill ds e es s st second ls class sc lsc here ck rs G i (h t)) (λ p. tm (Head ∷ p)) (λ p. says (Head ∷ p)) in
        let y = eqns_rows ds es s st second ls (λ p. class (Tail ∷ p)) sc lsc (below Tail here) ck rs g low.1 right.1 ok.1 tested.1 begins.1
        (deeper Tail (eqns_part types N does fill ds (more_eqns e es) sc lsc) (eqns_part types N does fill ds es sc lsc) here ck rs (λ i g now p. refl) (i ∷ G) l)
        (λ t. has_tail types N among fits allowed known does fill ds e es s st second ls class sc lsc here ck rs G i (h t)) (λ p. tm (Tail ∷ p)) (λ p. says (Tail ∷ p)) in (
          fit_of_two takes i (flat_equation types N.outputs fill ds e sc lsc (below Head here) ck rs) (flat_equations types N.outputs fill ds es sc lsc (below Tail here) ck rs) here x.0 y.0,
          λ a k. ⊎_elim (λ z. x.1 a z) (λ z. y.1 a z) k,
        )

    eqn_rows : (ds : List Decl) (e : Eqn) (s : Known) (st : Standing) (second : Classes) (ls : Lasts) (class : Assignment) (sc lsc : Scope) (here : Prefix) (ck : When) (rs : List Place) → Ground s st ls sc lsc ck rs → OneLowered e → OneRight st ds e → EqnOk types among s second ls class e → EqnTested types s ds e → EqnBegins fill e here
        → Along (Live (eqn_part types N does fill ds e sc lsc) here ck rs) (i ∷ G) → (IsTrue (holds (steps ck) i) → EqnHas types fits ds s st second ls class (λ x. i (sc x)) (λ x. i (lsc x)) (given here ck rs G i) e (seen here i))
        → Timely (equation_clocks types N.outputs ds e sc lsc here ck rs) here (i ∷ G) → Good types N does fill (flat_equation types N.outputs fill ds e sc lsc here ck rs) here G i
        → Both (flat_equation types N.outputs fill ds e sc lsc here ck rs) (λ a. OfEqn types fill ds e sc lsc here ck rs a) here
    eqn_rows ds (define a ys e) s st second ls class sc lsc here ck rs g low right ok tested begins l h tm says =
        let clock = clock_of ds ys e in
        let fine : RightFine types differ N among fits allowed known does fill takes takes_is s st second ls sc lsc ck rs G i r.0 g.have g.told ys e clock (below RightOf here) =
        record {
          is_on = right.2;
          ok = ok;
          tested = tested.1;
          begins = begins;
          known_here = (h, λ f p. l.0.1 f (RightOf ∷ p));
          timely = λ p. tm (RightOf ∷ p);
          site = clock_site s st second ls sc lsc ck rs g clock right.0 tested.0;
          says = λ p. says (RightOf ∷ p);
        } in (
          fit_right takes i (flat_expr types N.outputs fill e clock sc lsc (below RightOf here) ck rs) here
              (right_rows types differ N among fits allowed known does fill takes takes_is s st second ls sc lsc ck rs G i r.0 g.have g.told ys e clock (below RightOf here) fine),
          λ x k. right_kept types differ N among fits allowed known does fill takes takes_is s st second ls sc lsc ck rs G i r.0 g.have g.told ys e clock (below RightOf here) fine x k,
        )
    eqn_rows ds (switch a e arms) s st second ls class sc lsc here ck rs g low right ok tested begins l h tm says =
        let t = ok.1.1.0.0 in
        let q = ok.1.1.0.1.0 in
        let fine : Fine types differ N among fits allowed known does fill takes takes_is s st second ls sc lsc ck rs G i r.0 g.have g.told e t [] (below Test here) =
        record {
          typed = q;
          is_on = right.1;
          ok = ok.0;
          tested = tested.0;
          begins = begins.0;
          known_here = ((λ k. (h k).0), λ f p. l.0.1 f (Test ∷ p));
          timely = λ p. tm (Test ∷ p);
          site = g.site;
          says = λ p. says (Test ∷ p);
        } in
        let inner = arms_fit (switch a e arms) arms (At (here (Test ∷ []))) t s st (classes_within (switch a e arms) second) ls (λ p. class (ArmsOf ∷ p)) (within_at (switch a e arms) sc lsc) lsc (below ArmsOf here) ck rs low right.2 ok.1.1.1 tested.1.1.1 begins.1
        (along (Live (eqn_part types N does fill ds (switch a e arms) sc lsc) here ck rs) (Live (arms_part types N does fill arms (At (here (Test ∷ []))) (within_at (switch a e arms) sc lsc) lsc) (below ArmsOf here) ck rs)
        (λ G i a' m. live_arms types N does fill ds a e arms sc lsc here ck rs G i m) (i ∷ G) l)
        (λ k. has_arms types N among fits allowed known does fill (switch a e arms) arms s st (classes_within (switch a e arms) second) ls (λ p. class (ArmsOf ∷ p)) sc lsc here ck rs G i (h k).1)
        (λ p. tm (ArmsOf ∷ p)) (λ b comp. outer_in s st ls sc lsc ck rs g (switch a e arms) b comp) g.lasts g.site
        (test_told s st second ls sc lsc here ck rs g e t q (λ k. (h k).0) l.0.1) (λ k. test_chosen s st second ls sc lsc here ck rs g e t q (λ k. (h k).0) l.0.1 k)
        (subst (λ o. ConsAre types o (of_arms arms)) q tested.1.0) (λ p. says (ArmsOf ∷ p)) in (
          fit_arms takes i (flat_expr types N.outputs fill e [] sc lsc (below Test here) ck rs) (flat_arms types N.outputs fill arms (At (here (Test ∷ []))) (within_at (switch a e arms) sc lsc) lsc (below ArmsOf here) ck rs) here
              (expr_rows types differ N among fits allowed known does fill takes takes_is s st second ls sc lsc ck rs G i r.0 g.have g.told e t [] (below Test here) fine) inner.0,
          λ x k. ⊎_elim (λ z. expr_kept types differ N among fits allowed known does fill takes takes_is s st second ls sc lsc ck rs G i r.0 g.have g.told e t [] (below Test here) fine x z) (λ z. inner.1 x z) k,
        )
    eqn_rows ds (reset a b e) s st second ls class sc lsc here ck rs g low right ok tested begins l h tm says =
        let fine : Good types N does fill (flat_expr types N.outputs fill e [] sc lsc (below Test here) ck rs) (below Test here) G i → Fine types differ N among fits allowed known does fill takes takes_is s st second ls sc lsc ck rs G i r.0 g.have g.told e ty.Bool [] (below Test here) =
        λ says'. record {
          typed = ok.0.1.1;
          is_on = right.1;
          ok = ok.0.0;
          tested = tested.0;
          begins = begins.0;
          known_here = ((λ k. (h k).0), λ f p. l.0.1 f (Test ∷ p));
          timely = λ p. tm (Test ∷ p);
          site = g.site;
          says = says';
        } in
        let inner = scope_rows b s st (classes_within (reset a b e) second) ls (λ p. class (Body ∷ p)) (λ i. is_true (i (At (here (Test ∷ []))))) (within_at (reset a b e) sc lsc) lsc (below Body here) ck (restarts_at e here rs) low right.2 ok.1 tested.1 begins.1
        (along (Live (eqn_part types N does fill ds (reset a b e) sc lsc) here ck rs) (Live (scope_part types N does fill b (λ i. is_true (i (At (here (Test ∷ []))))) (within_at (reset a b e) sc lsc) lsc) (below Body here) ck (restarts_at e here rs))
        (λ G i a' m. live_body types N does fill ds a b e sc lsc here ck rs G i a' m) (i ∷ G) l)
        (λ t. has_body types N among fits allowed known does fill ds a b e s st (classes_within (reset a b e) second) ls (λ p. class (Body ∷ p)) sc lsc here ck rs G i l.1 l.0 t (h t).1)
        (λ p. tm (Body ∷ p)) (outer_in s st ls sc lsc ck rs g (reset a b e) b (λ x z. inl z)) g.lasts
        (flags_with e here ck rs g.site (test_told s st second ls sc lsc here ck rs g e ty.Bool ok.0.1.1 (λ k. (h k).0) l.0.1)) (λ p. says (Body ∷ p)) in (
          fit_body takes i (unless (is_false e) (flat_expr types N.outputs fill e [] sc lsc (below Test here) ck rs)) (flat_scope types N.outputs fill b (within_at (reset a b e) sc lsc) lsc (below Body here) ck (restarts_at e here rs)) here
              (test_rows (is_false e) refl (λ p. says (Test ∷ p)) (λ y. expr_rows types differ N among fits allowed known does fill takes takes_is s st second ls sc lsc ck rs G i r.0 g.have g.told e ty.Bool [] (below Test here) (fine y))) inner.0,
          λ x k. ⊎_elim
              (λ z. test_kept (is_false e) refl (λ p. says (Test ∷ p)) x z (λ y. expr_kept types differ N among fits allowed known does fill takes takes_is s st second ls sc lsc ck rs G i r.0 g.have g.told e ty.Bool [] (below Test here) (fine y) x z))
              (λ z. inner.1 x z) k,
        )
      where
        test_rows : (d : Bool) → is_false e ≡ d → Good types N does fill (unless d (flat_expr types N.outputs fill e [] sc lsc (below Test here) ck rs)) (below Test here) G i
            → (Good types N does fill (flat_expr types N.outputs fill e [] sc lsc (below Test here) ck rs) (below Test here) G i → PlanFits takes i (flat_expr types N.outputs fill e [] sc lsc (below Test here) ck rs) (below Test here))
            → PlanFits takes i (unless d (flat_expr types N.outputs fill e [] sc lsc (below Test here) ck rs)) (below Test here)
        test_rows true q y f p = tt
        test_rows false q y f p = f y p

        test_kept : (d : Bool) → is_false e ≡ d → Good types N does fill (unless d (flat_expr types N.outputs fill e [] sc lsc (below Test here) ck rs)) (below Test here) G i → (x : FlatName) → OfExpr types fill e [] sc (below Test here) ck rs x
            → (Good types N does fill (flat_expr types N.outputs fill e [] sc lsc (below Test here) ck rs) (below Test here) G i → KeptFits takes i x) → KeptFits takes i x
        test_kept true q y x k f =
            let c = false_constant (constant_in e) q in
            absurd (no_keep types differ N among fits allowed known does fill takes takes_is s st second ls sc lsc ck rs G i r.0 g.have g.told e c.0 [] (below Test here) x c.1 k)
        test_kept false q y x k f = f y
    eqn_rows ds (automaton a ss) s st second ls class sc lsc here ck rs g low right ok tested begins l h tm says = absurd low

    arms_fit : (o : Eqn) (arms : Arms) (test : FlatName) (t : Ty) (s : Known) (st : Standing) (second : Classes) (ls : Lasts) (class : Assignment) (sc lsc : Scope) (here : Prefix) (ck : When) (rs : List Place) → ArmsLowered arms → ArmsRight st arms → ArmsOk types among o s second ls class arms → ArmsTested types s arms → ArmsBegin fill arms here
        → Along (Live (arms_part types N does fill arms test sc lsc) here ck rs) (i ∷ G) → (IsTrue (holds (steps ck) i) → ArmsHave types fits s st second ls class (λ x. i (sc x)) (λ x. i (lsc x)) (given here ck rs G i) (i test) arms (seen here i))
        → Timely (arms_clocks types N.outputs arms test sc lsc here ck rs) here (i ∷ G) → ((b : Block) → Completes types among o ls b → OuterTold types b s sc i) → LastsTold types s ls lsc i → SiteFits takes i ck rs → AbsentOr types t (i test) → (IsTrue (holds (steps ck) i) → IsOf types t (i test)) → ConsAre types (Some t) (of_arms arms)
        → Good types N does fill (flat_arms types N.outputs fill arms test sc lsc here ck rs) here G i → Both (flat_arms types N.outputs fill arms test sc lsc here ck rs) (λ a. OfArms types fill arms test sc lsc here ck rs a) here
    arms_fit o no_arm test t s st second ls class sc lsc here ck rs low right ok tested begins l h tm outer lt site told chosen cs says = ((λ p. tt), λ a k. absurd k)
    arms_fit o (more_arms c b a arms) test t s st second ls class sc lsc here ck rs low right ok tested begins l h tm outer lt site told chosen cs says =
        let x = scope_rows b s st second ls (λ p. class (Head ∷ p)) (λ i. false) sc lsc (below Head here) (on (cons_of types c) test ck) rs low.0 right.0 ok.1.0 tested.0 begins.0
        (along (Live (arms_part types N does fill (more_arms c b a arms) test sc lsc) here ck rs) (Live (scope_part types N does fill b (λ i. false) sc lsc) (below Head here) (on (cons_of types c) test ck) rs)
        (λ G i a' m. live_arm types N does fill c b a arms test sc lsc here ck rs G i a' m) (i ∷ G) l)
        (λ k. let u = and_true (is_cons types (i test) c) (holds (steps ck) i) k in has_arm types N among fits allowed known does fill c b a arms test s st second ls class sc lsc here ck rs G i l.1 (h u.1) u.0)
        (λ p. tm (Head ∷ p)) (outer b ok.0) lt (branch_site takes i types differ t test ck rs site told chosen c cs.0) (λ p. says (Head ∷ p)) in
        let y = arms_fit o arms test t s st second ls (λ p. class (Tail ∷ p)) sc lsc (below Tail here) ck rs low.1 right.1 ok.1.1 tested.1 begins.1
        (deeper Tail (arms_part types N does fill (more_arms c b a arms) test sc lsc) (arms_part types N does fill arms test sc lsc) here ck rs (λ i g now p. refl) (i ∷ G) l)
        (λ k. has_others types N among fits allowed known does fill c b a arms (i test) s st second ls class sc lsc here ck rs G i (h k))
        (λ p. tm (Tail ∷ p)) outer lt site told chosen cs.1 (λ p. says (Tail ∷ p)) in (
          fit_of_two takes i (flat_scope types N.outputs fill b sc lsc (below Head here) (on (cons_of types c) test ck) rs) (flat_arms types N.outputs fill arms test sc lsc (below Tail here) ck rs) here x.0 y.0,
          λ z k. ⊎_elim (λ q. x.1 z q) (λ q. y.1 z q) k,
        )
