-- A variable that stands for a name of the body is a target of an equation.
use Rattle.std.proofs.Common.{◌≡◌, ◌⊎◌, inl, inr, ℕ, zero, suc, ◌+◌, ◌<◌, ◌≤◌, Bool, true, false, nat_eq, ◌||◌, if◌then◌else◌, List, [], ◌∷◌, ◌++◌, map, refl, sym, ap, ◌∙◌, subst, arith}
use Rattle.std.specs.Prelude.{Option, None, Some, option_map, slice_get, Contains}
use Rattle.std.specs.List.{range_with_len}
use Rattle.std.proofs.lemmas.Bool.{cases_lt}
use Rattle.std.proofs.lemmas.Bool.Decides.{Decides-eqb}
use Rattle.std.proofs.lemmas.Option.{slice_get-map}
use Rattle.std.proofs.lemmas.List.Elements.{Contains-append_left, Contains-append_right, Contains-push}
use Rattle.hp_base.specs.declared.value.Value.{Value}
use Rattle.hp_tree.specs.Blocks.{Decl, Block, block, Eqns, no_eqn, more_eqns, Eqn, define, switch, reset, automaton, no_arm, more_arms}
use Rattle.hp_tree.specs.Programs.{TypeDecl, Node}
use Rattle.hp_tree.specs.Instant.{Body as BodyOf, Named, Equations, Head, Tail, Place}
use Rattle.hp_tree.specs.Meaning.{defines, some_defines, controls_of}
use Rattle.hp_meaning.specs.Causal.WhatIsRead.{has_equation}
use Rattle.hp_flat.specs.Equations.{FlatEqn}
use Rattle.law_equations.specs.Flattened.Flat.{Row}
use Rattle.law_equations.specs.Flattened.Flatten.{FlatName, Input, At, Nowhere, When, always, Rows, Prefix, Scope, below, inside_at, lasts_at, node_scope, flat_gives, flat_defined, flat_scope, flatten}
use Rattle.law_equations.specs.Flattened.Numbered.{targets_from, definitions, AreRows, StandFor}
use Rattle.law_equations.specs.Made.Blocks.{IsPlain, ArePlain, OnePlain}
use Rattle.law_equations.specs.Made.Laws.{names}
use Rattle.law_choices.specs.Depending.Targets.{TargetsLaw}

-- ---- definitions of a variable

first_one : {X : Type 0} (x : X) (xs : List X) → Contains (x ∷ xs) x
first_one x xs = Contains-append_left (x ∷ []) xs x (Contains-push [] x)

later_one : {X : Type 0} (y x : X) (xs : List X) → Contains xs x → Contains (y ∷ xs) x
later_one y x xs h = Contains-append_right (y ∷ []) xs x h

targets_or : (k : ℕ) (ys : List ℕ) (e : FlatEqn) (x : ℕ) → (targets_from k ys e x ≡ []) ⊎ Contains ys x
targets_or k [] e x = inl refl
targets_or k (y ∷ ys) e x = by (nat_eq y x) refl (targets_or (suc k) ys e x)
  where
    by : (t : Bool) → nat_eq y x ≡ t → (targets_from (suc k) ys e x ≡ []) ⊎ Contains ys x → ((if t then (e, k) ∷ targets_from (suc k) ys e x else targets_from (suc k) ys e x) ≡ []) ⊎ Contains (y ∷ ys) x
    by true q r = inr (subst (λ z. Contains (y ∷ ys) z) ((Decides-eqb y x).0 q) (first_one y ys))
    by false q (inl z) = inl z
    by false q (inr h) = inr (later_one y x ys h)

abbrev IsTarget : List FlatEqn → ℕ → Type 0
IsTarget es x = (e : FlatEqn) × Contains es e × Contains e.targets x

definitions_or : (es : List FlatEqn) (x : ℕ) → (definitions es x ≡ []) ⊎ IsTarget es x
definitions_or [] x = inl refl
definitions_or (e ∷ es) x = by (targets_or 0 e.targets e x) (definitions_or es x)
  where
    by : (targets_from 0 e.targets e x ≡ []) ⊎ Contains e.targets x → (definitions es x ≡ []) ⊎ IsTarget es x → (definitions (e ∷ es) x ≡ []) ⊎ IsTarget (e ∷ es) x
    by (inr h) r = inr (e, first_one e es, h)
    by (inl z) (inl w) = inl (ap (λ t. t ++ definitions es x) z ∙ w)
    by (inl z) (inr h) = inr (h.0, later_one e h.0 es h.1, h.2)

-- ---- rows of a name of the body

module _ (types : List TypeDecl) (outputs : List ℕ → List (List ℕ)) (fill : Place → Value) where
  abbrev SomeRows : Rows → Type 0
  SomeRows rows = (r : Row FlatName) × (rest : Rows) × (rows ≡ r ∷ rest)

  gives_some : (ds : List Decl) (e : Eqn) (sc lsc : Scope) (here : Prefix) (ck : When) (rs : List Place) (x : List ℕ) → OnePlain e → defines e x ≡ true → SomeRows (flat_gives types outputs fill ds e sc lsc here ck rs x)
  gives_some ds (define s ys e) sc lsc here ck rs x plain h = (_, _, refl)
  gives_some ds (switch s e no_arm) sc lsc here ck rs x plain h = absurd cc
  gives_some ds (switch s e (more_arms c b t arms)) sc lsc here ck rs x plain h = (_, _, refl)
  gives_some ds (reset s b e) sc lsc here ck rs x plain h = (_, _, refl)
  gives_some ds (automaton s ss) sc lsc here ck rs x plain h = absurd plain

  defined_some : (ds : List Decl) (es : Eqns) (sc lsc : Scope) (here : Prefix) (ck : When) (rs : List Place) (x : List ℕ) → ArePlain es → some_defines es x ≡ true → SomeRows (flat_defined types outputs fill ds es sc lsc here ck rs x)
  defined_some ds no_eqn sc lsc here ck rs x plain h = absurd cc
  defined_some ds (more_eqns e es) sc lsc here ck rs x plain h =
      by (defines e x) refl h (defined_some ds es sc lsc (below Tail here) ck rs x plain.1.1)
    where
      by : (t : Bool) → defines e x ≡ t → (t || some_defines es x) ≡ true → (some_defines es x ≡ true → SomeRows (flat_defined types outputs fill ds es sc lsc (below Tail here) ck rs x))
          → SomeRows (if t then flat_gives types outputs fill ds e sc lsc (below Head here) ck rs x else flat_defined types outputs fill ds es sc lsc (below Tail here) ck rs x)
      by true q g rest = gives_some ds e sc lsc (below Head here) ck rs x plain.1.0 q
      by false q g rest = rest g

  name_some : (n : Node) (b : Block) (y : List ℕ) → IsPlain b → has_equation b y ≡ true → (rows : Rows) × (flat_scope types outputs fill b (node_scope n) (lasts_at types n.outputs (λ z. Nowhere) (λ q. BodyOf ∷ q) always []) (λ q. BodyOf ∷ q) always [] (Named y ∷ []) ≡ Some rows) × SomeRows rows
  name_some n (block ds es) y plain h = (
    flat_defined types outputs fill ds es (inside_at es (node_scope n) (λ q. BodyOf ∷ q)) (lasts_at types ds (lasts_at types n.outputs (λ z. Nowhere) (λ q. BodyOf ∷ q) always []) (λ q. BodyOf ∷ q) always []) (λ q. BodyOf ∷ Equations ∷ q) always [] y,
    ap (λ d. if d then Some (flat_defined types outputs fill ds es (inside_at es (node_scope n) (λ q. BodyOf ∷ q)) (lasts_at types ds (lasts_at types n.outputs (λ z. Nowhere) (λ q. BodyOf ∷ q) always []) (λ q. BodyOf ∷ q) always []) (λ q. BodyOf ∷ Equations ∷ q) always [] y) else None) h,
    defined_some ds es (inside_at es (node_scope n) (λ q. BodyOf ∷ q)) (lasts_at types ds (lasts_at types n.outputs (λ z. Nowhere) (λ q. BodyOf ∷ q) always []) (λ q. BodyOf ∷ q) always []) (λ q. BodyOf ∷ Equations ∷ q) always [] y plain.2 h,
  )

-- ---- no input stands for a name of the body

range_at : (a m i : ℕ) → i < m → slice_get (range_with_len a m) i ≡ Some (a + i)
range_at a zero i h = absurd (omega (arith, h))
range_at a (suc m) zero h = let here : a + 0 ≡ a = omega arith in ap Some (sym here)
range_at a (suc m) (suc i) h = let here : a + 1 + i ≡ a + suc i = omega arith in range_at (a + 1) m i (omega (arith, h)) ∙ ap Some here

no_place : (p : Place) (o : Option (List ℕ)) → option_map Input o ≡ Some (At p) → ⊥
no_place p None h = absurd cc
no_place p (Some z) h = absurd cc

input_first : (means : ℕ → FlatName) (m : ℕ) (xs : List (List ℕ)) (v : ℕ) (p : Place) → map means (range_with_len 0 m) ≡ map Input xs → v < m → means v ≡ At p → ⊥
input_first means m xs v p same h e =
    let left : slice_get (map means (range_with_len 0 m)) v ≡ Some (means (0 + v)) = slice_get-map means (range_with_len 0 m) v ∙ ap (option_map means) (range_at 0 m v h) in
    let zero_more : 0 + v ≡ v = omega arith in
    let right : slice_get (map Input xs) v ≡ option_map Input (slice_get xs v) = slice_get-map Input xs v in
    no_place p (slice_get xs v) (sym right ∙ ap (λ ys. slice_get ys v) (sym same) ∙ left ∙ ap Some (ap means zero_more ∙ e))

-- ---- the law

no_rows : (means : ℕ → FlatName) (r : Row FlatName) (rest : Rows) (ds : List (FlatEqn × ℕ)) → ds ≡ [] → AreRows means ds (r ∷ rest) → ⊥
no_rows means r rest ds e h = subst (λ z. AreRows means z (r ∷ rest)) e h

or_none : (means : ℕ → FlatName) (r : Row FlatName) (rest : Rows) (es : List FlatEqn) (v : ℕ) → (definitions es v ≡ []) ⊎ IsTarget es v → AreRows means (definitions es v) (r ∷ rest) → IsTarget es v
or_none means r rest es v (inl e) rows = absurd (no_rows means r rest (definitions es v) e rows)
or_none means r rest es v (inr t) rows = t

pub targets_law : TargetsLaw
targets_law types outputs k fill n f s plain y defined v is = by (cases_lt v f.inputs)
  where
    found : StandFor s.means (definitions f.eqns v) (s.means v) (flatten types outputs fill n (s.means v)) → IsTarget f.eqns v
    found stands =
        let some = name_some types outputs fill n n.body y plain defined in
        let at : StandFor s.means (definitions f.eqns v) (At (BodyOf ∷ Named y ∷ [])) (flatten types outputs fill n (At (BodyOf ∷ Named y ∷ []))) =
        subst (λ a. StandFor s.means (definitions f.eqns v) a (flatten types outputs fill n a)) is stands in
        let rows : AreRows s.means (definitions f.eqns v) some.0 = subst (λ o. StandFor s.means (definitions f.eqns v) (At (BodyOf ∷ Named y ∷ [])) o) some.1 at in
        let first : AreRows s.means (definitions f.eqns v) (some.2.0 ∷ some.2.1) = subst (λ z. AreRows s.means (definitions f.eqns v) z) some.2.2 rows in
        or_none s.means some.2.0 some.2.1 f.eqns v (definitions_or f.eqns v) first

    by : (v < f.inputs) ⊎ (f.inputs ≤ v) → IsTarget f.eqns v
    by (inl h) = absurd (input_first s.means f.inputs (names n.inputs ++ names (controls_of n.contract)) v (BodyOf ∷ Named y ∷ []) s.equations.inputs h is)
    by (inr h) = found (s.equations.variables v h)
