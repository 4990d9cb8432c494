-- What an expression says at a place depends on what the place reads.
use Rattle.std.proofs.Common.{◌≡◌, ℕ, List, [], ◌∷◌, map, refl, ap, ap₂, ◌∙◌}
use Rattle.std.specs.Prelude.{false, if◌then◌else◌}
use Rattle.hp_base.specs.declared.span.Span.{Span}
use Rattle.hp_base.specs.declared.value.Value.{Value}
use Rattle.hp_base.specs.declared.value.Value.TheVariants.{Absent, Nil}
use Rattle.hp_tree.specs.declared.block.Trans.{Trans}
use Rattle.hp_tree.specs.Expressions.{Expr, constant, variable, last_of, one, two, choose, pre, fby, arrow, when_is, merge, call, Exprs, no_expr, more_exprs, Parts, no_part, more_parts}
use Rattle.hp_tree.specs.Programs.{TypeDecl}
use Rattle.hp_tree.specs.Operators.{Reading, is_cons, if_of}
use Rattle.hp_tree.specs.Instant.{Head, Tail, First, Second, Third, Args, Instance, Place, Instant, Given, at, part, parts, top, since, newest, at_first, nothing, in_row, Clock, holds, without}
use Rattle.hp_tree.specs.Meaning.{Names, Nodes, expr, exprs, merged, conditions, output_for, right, only_output}
use Rattle.hp_meaning.specs.Causal.Sources.{both, also, Within, NameSources, PlaceSources, below}
use Rattle.hp_meaning.specs.Causal.WhatIsRead.{of_clock, of_expr, of_exprs, of_parts, of_conditions, at_expr, at_exprs, at_parts, at_conditions}
use Rattle.hp_meaning.proofs.CausalLemmas.Agreeing.{Agree, SameNames, Closed, holds_same, on_same, without_in, alone_at, one_at, two_at, three_at, row_at, merge_at, call_at}
use Rattle.hp_meaning.proofs.CausalLemmas.Solved.{Solved, by}
use Rattle.hp_meaning.proofs.CausalLemmas.Choices.{chosen}

-- Only the tops of its parts decide which part a merge takes.
chosen_tops : (types : List TypeDecl) (ps : Parts) (v : Value) (is js : List Instant) → map top is ≡ map top js → chosen types ps v is ≡ chosen types ps v js
chosen_tops types no_part v is js e = refl
chosen_tops types (more_parts c d ps) v [] [] e = refl
chosen_tops types (more_parts c d ps) v [] (j ∷ js) e = cc
chosen_tops types (more_parts c d ps) v (i ∷ is) [] e = cc
chosen_tops types (more_parts c d ps) v (i ∷ is) (j ∷ js) e =
    let h : top i ≡ top j = cc in
    let t : map top is ≡ map top js = cc in
    ap₂ (λ u w. if is_cons types v c then u else w) h (chosen_tops types ps v is js t)

module _ (P : Place → Type 0) (types : List TypeDecl) (R : Reading) (outputs : List ℕ → List (List ℕ)) (S : Solved) where
  abbrev N : Nodes
  N = by outputs S

  mutual
    pub expr_top : (e : Expr) (clock : Clock) (names : NameSources) (k : PlaceSources) (a b last : Names) (g : Given) (i j : Instant) → Closed P k (at_expr e clock names k) → ((x : List ℕ) → Within P (names x) → a x ≡ b x) → Within P (of_clock clock names) → Within P (of_expr e names k) → expr types R N e clock a last g i [] ≡ expr types R N e clock b last g j []
    expr_top (constant s c) clock names k a b last g i j C s' ck h = on_same P types clock names a b _ _ ck s' refl
    expr_top (variable s x) clock names k a b last g i j C s' ck h = s' x h
    expr_top (last_of s x) clock names k a b last g i j C s' ck h = refl
    expr_top (one s o d) clock names k a b last g i j C s' ck h =
        ap (R.one o) (expr_top d clock names (below First k) a b last (at First g) (part First i) (part First j) (λ p. C (First ∷ p)) s' ck h)
    expr_top (two s o d e) clock names k a b last g i j C s' ck h =
        ap₂ (R.two o (top g.free))
        (expr_top d clock names (below First k) a b last (at First g) (part First i) (part First j) (λ p. C (First ∷ p)) s' ck h.0)
        (expr_top e clock names (below Second k) a b last (at Second g) (part Second i) (part Second j) (λ p. C (Second ∷ p)) s' ck h.1)
    expr_top (choose s d e f) clock names k a b last g i j C s' ck h =
        let t = expr_top d clock names (below First k) a b last (at First g) (part First i) (part First j) (λ p. C (First ∷ p)) s' ck h.0 in
        let u = expr_top e clock names (below Second k) a b last (at Second g) (part Second i) (part Second j) (λ p. C (Second ∷ p)) s' ck h.1.0 in
        let w = expr_top f clock names (below Third k) a b last (at Third g) (part Third i) (part Third j) (λ p. C (Third ∷ p)) s' ck h.1.1 in
        λ z. if_of (t z) (u z) (w z)
    expr_top (pre s d) clock names k a b last g i j C s' ck h = on_same P types clock names a b _ _ ck s' refl
    expr_top (fby s d e) clock names k a b last g i j C s' ck h =
        on_same P types clock names a b _ _ ck s'
        (ap (λ v. at_first (parts First g.past) v (newest Nil (parts Second g.past)))
        (expr_top d clock names (below First k) a b last (at First g) (part First i) (part First j) (λ p. C (First ∷ p)) s' ck h))
    expr_top (arrow s d e) clock names k a b last g i j C s' ck h =
        ap₂ (at_first (parts First g.past))
        (expr_top d clock names (below First k) a b last (at First g) (part First i) (part First j) (λ p. C (First ∷ p)) s' ck h.0)
        (expr_top e clock names (below Second k) a b last (at Second g) (part Second i) (part Second j) (λ p. C (Second ∷ p)) s' ck h.1)
    expr_top (when_is s d c x) clock names k a b last g i j C s' ck h =
        ap₂ (λ v w. if is_cons types v c then w else Absent) (s' x h.0)
        (expr_top d (without clock) names (below First k) a b last (at First g) (part First i) (part First j) (λ p. C (First ∷ p)) s' (without_in P clock names ck) h.1)
    expr_top (merge s x ps) clock names k a b last g i j C s' ck h =
        ap (λ v. chosen types ps v (merged types R N ps x clock a last (at Args g) (part Args i))) (s' x h.0)
        ∙ chosen_tops types ps (b x) _ _ (parts_tops ps x clock names (below Args k) a b last (at Args g) (part Args i) (part Args j) (λ p. C (Args ∷ p)) s' (h.0, ck) h.1)
    expr_top (call s f inlined es) clock names k a b last g i j C s' ck h =
        let d = C [] h in
        let t = holds_same P types clock names a b d.0 s' in
        let u = exprs_tops es clock names (below Args k) a b last (at Args g) (part Args i) (part Args j) (λ p. C (Args ∷ p)) s' d.0 d.1 in
        λ z. only_output (outputs f) (if t z then S f (u z) (since false (at Instance g)) else nothing)

    exprs_tops : (es : Exprs) (clock : Clock) (names : NameSources) (k : PlaceSources) (a b last : Names) (g : Given) (i j : Instant) → Closed P k (at_exprs es clock names k) → ((x : List ℕ) → Within P (names x) → a x ≡ b x) → Within P (of_clock clock names) → Within P (of_exprs es names k) → map top (exprs types R N es clock a last g i) ≡ map top (exprs types R N es clock b last g j)
    exprs_tops no_expr clock names k a b last g i j C s' ck h = refl
    exprs_tops (more_exprs e es) clock names k a b last g i j C s' ck h =
        ap₂ (λ v vs. v ∷ vs)
        (expr_top e clock names (below Head k) a b last (at Head g) (part Head i) (part Head j) (λ p. C (Head ∷ p)) s' ck h.0)
        (exprs_tops es clock names (below Tail k) a b last (at Tail g) (part Tail i) (part Tail j) (λ p. C (Tail ∷ p)) s' ck h.1)

    parts_tops : (ps : Parts) (x : List ℕ) (clock : Clock) (names : NameSources) (k : PlaceSources) (a b last : Names) (g : Given) (i j : Instant) → Closed P k (at_parts ps x clock names k) → ((x : List ℕ) → Within P (names x) → a x ≡ b x) → Within P (names x) × Within P (of_clock clock names) → Within P (of_parts ps names k) → map top (merged types R N ps x clock a last g i) ≡ map top (merged types R N ps x clock b last g j)
    parts_tops no_part x clock names k a b last g i j C s' ck h = refl
    parts_tops (more_parts c e ps) x clock names k a b last g i j C s' ck h =
        ap₂ (λ v vs. v ∷ vs)
        (expr_top e ((c, x) ∷ clock) names (below Head k) a b last (at Head g) (part Head i) (part Head j) (λ p. C (Head ∷ p)) s' ck h.0)
        (parts_tops ps x clock names (below Tail k) a b last (at Tail g) (part Tail i) (part Tail j) (λ p. C (Tail ∷ p)) s' ck h.1)

  -- the instance of a call
  instance_same : (f : List ℕ) (es : Exprs) (clock : Clock) (names : NameSources) (k : PlaceSources) (a b last : Names) (g : Given) (i j : Instant) → Closed P k (at_exprs es clock names k) → SameNames P names a b → Within P (of_clock clock names) × Within P (of_exprs es names k) → (if holds types clock a then S f (map top (exprs types R N es clock a last (at Args g) i)) (since false (at Instance g)) else nothing) ≡ (if holds types clock b then S f (map top (exprs types R N es clock b last (at Args g) j)) (since false (at Instance g)) else nothing)
  instance_same f es clock names k a b last g i j C s' h =
      let t = holds_same P types clock names a b h.0 s' in
      let u = exprs_tops es clock names k a b last (at Args g) i j C s' h.0 h.1 in
      λ z. if t z then S f (u z) (since false (at Instance g)) else nothing

  -- all occurrences in an expression
  mutual
    pub expr_agrees : (e : Expr) (clock : Clock) (names : NameSources) (k : PlaceSources) (a b last : Names) (g : Given) (i j : Instant) → Closed P k (at_expr e clock names k) → SameNames P names a b → Agree P (at_expr e clock names k) (expr types R N e clock a last g i) (expr types R N e clock b last g j)
    expr_agrees (constant s c) clock names k a b last g i j C s' = alone_at P _ _ _ (λ h. on_same P types clock names a b _ _ h s' refl)
    expr_agrees (variable s x) clock names k a b last g i j C s' = alone_at P (both (also (of_clock clock names)) (names x)) _ _ (λ h. s' x h.1)
    expr_agrees (last_of s x) clock names k a b last g i j C s' = λ p h. refl
    expr_agrees (one s o d) clock names k a b last g i j C s' =
        one_at P _ (at_expr d clock names (below First k)) _ _ _ _ (λ h. expr_top (one s o d) clock names k a b last g i j C s' h.0 h.1)
        (expr_agrees d clock names (below First k) a b last (at First g) (part First i) (part First j) (λ p. C (First ∷ p)) s')
    expr_agrees (two s o d e) clock names k a b last g i j C s' =
        two_at P _ (at_expr d clock names (below First k)) (at_expr e clock names (below Second k)) _ _ _ _ _ _ (λ h. expr_top (two s o d e) clock names k a b last g i j C s' h.0 h.1)
        (expr_agrees d clock names (below First k) a b last (at First g) (part First i) (part First j) (λ p. C (First ∷ p)) s')
        (expr_agrees e clock names (below Second k) a b last (at Second g) (part Second i) (part Second j) (λ p. C (Second ∷ p)) s')
    expr_agrees (choose s d e f) clock names k a b last g i j C s' =
        three_at P _ (at_expr d clock names (below First k)) (at_expr e clock names (below Second k)) (at_expr f clock names (below Third k)) _ _ _ _ _ _ _ _ (λ h. expr_top (choose s d e f) clock names k a b last g i j C s' h.0 h.1)
        (expr_agrees d clock names (below First k) a b last (at First g) (part First i) (part First j) (λ p. C (First ∷ p)) s')
        (expr_agrees e clock names (below Second k) a b last (at Second g) (part Second i) (part Second j) (λ p. C (Second ∷ p)) s')
        (expr_agrees f clock names (below Third k) a b last (at Third g) (part Third i) (part Third j) (λ p. C (Third ∷ p)) s')
    expr_agrees (pre s d) clock names k a b last g i j C s' =
        one_at P _ (at_expr d clock names (below First k)) _ _ _ _ (λ h. on_same P types clock names a b _ _ h s' refl)
        (expr_agrees d clock names (below First k) a b last (at First g) (part First i) (part First j) (λ p. C (First ∷ p)) s')
    expr_agrees (fby s d e) clock names k a b last g i j C s' =
        two_at P _ (at_expr d clock names (below First k)) (at_expr e clock names (below Second k)) _ _ _ _ _ _ (λ h. expr_top (fby s d e) clock names k a b last g i j C s' h.0 h.1)
        (expr_agrees d clock names (below First k) a b last (at First g) (part First i) (part First j) (λ p. C (First ∷ p)) s')
        (expr_agrees e clock names (below Second k) a b last (at Second g) (part Second i) (part Second j) (λ p. C (Second ∷ p)) s')
    expr_agrees (arrow s d e) clock names k a b last g i j C s' =
        two_at P _ (at_expr d clock names (below First k)) (at_expr e clock names (below Second k)) _ _ _ _ _ _ (λ h. expr_top (arrow s d e) clock names k a b last g i j C s' h.0 h.1)
        (expr_agrees d clock names (below First k) a b last (at First g) (part First i) (part First j) (λ p. C (First ∷ p)) s')
        (expr_agrees e clock names (below Second k) a b last (at Second g) (part Second i) (part Second j) (λ p. C (Second ∷ p)) s')
    expr_agrees (when_is s d c x) clock names k a b last g i j C s' =
        one_at P _ (at_expr d (without clock) names (below First k)) _ _ _ _ (λ h. expr_top (when_is s d c x) clock names k a b last g i j C s' h.0 h.1)
        (expr_agrees d (without clock) names (below First k) a b last (at First g) (part First i) (part First j) (λ p. C (First ∷ p)) s')
    expr_agrees (merge s x ps) clock names k a b last g i j C s' =
        merge_at P _ (at_parts ps x clock names (below Args k)) _ _ _ _ (λ h. expr_top (merge s x ps) clock names k a b last g i j C s' h.0 h.1)
        (parts_agree ps x clock names (below Args k) a b last (at Args g) (part Args i) (part Args j) (λ p. C (Args ∷ p)) s')
    expr_agrees (call s f inlined es) clock names k a b last g i j C s' =
        let same = instance_same f es clock names (below Args k) a b last g (part Args i) (part Args j) (λ p. C (Args ∷ p)) s' in
        call_at P _ (both (also (of_clock clock names)) (k [])) (at_exprs es clock names (below Args k)) _ _ _ _ _ _
        (λ h. ap (only_output (outputs f)) (same h))
        (λ h. same (C [] h.1))
        (exprs_agree es clock names (below Args k) a b last (at Args g) (part Args i) (part Args j) (λ p. C (Args ∷ p)) s')

    exprs_agree : (es : Exprs) (clock : Clock) (names : NameSources) (k : PlaceSources) (a b last : Names) (g : Given) (i j : Instant) → Closed P k (at_exprs es clock names k) → SameNames P names a b → Agree P (at_exprs es clock names k) (in_row (exprs types R N es clock a last g i)) (in_row (exprs types R N es clock b last g j))
    exprs_agree no_expr clock names k a b last g i j C s' = λ p h. refl
    exprs_agree (more_exprs e es) clock names k a b last g i j C s' =
        row_at P (at_expr e clock names (below Head k)) (at_exprs es clock names (below Tail k)) _ _ _ _
        (expr_agrees e clock names (below Head k) a b last (at Head g) (part Head i) (part Head j) (λ p. C (Head ∷ p)) s')
        (exprs_agree es clock names (below Tail k) a b last (at Tail g) (part Tail i) (part Tail j) (λ p. C (Tail ∷ p)) s')

    parts_agree : (ps : Parts) (x : List ℕ) (clock : Clock) (names : NameSources) (k : PlaceSources) (a b last : Names) (g : Given) (i j : Instant) → Closed P k (at_parts ps x clock names k) → SameNames P names a b → Agree P (at_parts ps x clock names k) (in_row (merged types R N ps x clock a last g i)) (in_row (merged types R N ps x clock b last g j))
    parts_agree no_part x clock names k a b last g i j C s' = λ p h. refl
    parts_agree (more_parts c e ps) x clock names k a b last g i j C s' =
        row_at P (at_expr e ((c, x) ∷ clock) names (below Head k)) (at_parts ps x clock names (below Tail k)) _ _ _ _
        (expr_agrees e ((c, x) ∷ clock) names (below Head k) a b last (at Head g) (part Head i) (part Head j) (λ p. C (Head ∷ p)) s')
        (parts_agree ps x clock names (below Tail k) a b last (at Tail g) (part Tail i) (part Tail j) (λ p. C (Tail ∷ p)) s')

  -- the values that a right side gives to names
  pub right_agrees : (ys : List (List ℕ × Span)) (e : Expr) (clock : Clock) (names : NameSources) (k : PlaceSources) (a b last : Names) (g : Given) (i j : Instant) → Closed P k (at_expr e clock names k) → SameNames P names a b → (x : List ℕ) → Within P (of_clock clock names) → Within P (of_expr e names k) → right types R N ys e (expr types R N e clock a last g i) x ≡ right types R N ys e (expr types R N e clock b last g j) x
  right_agrees ys (call s f inlined es) clock names k a b last g i j C s' x ck h =
      ap (λ t. output_for ys (outputs f) t x) (instance_same f es clock names (below Args k) a b last g (part Args i) (part Args j) (λ p. C (Args ∷ p)) s' (C [] h))
  right_agrees ys e clock names k a b last g i j C s' x ck h = expr_top e clock names k a b last g i j C s' ck h

  -- the conditions of transitions
  pub conditions_tops : (ts : List Trans) (names : NameSources) (k : PlaceSources) (a b last : Names) (g : Given) (i j : Instant) → Closed P k (at_conditions ts names k) → SameNames P names a b → Within P (of_conditions ts k) → map top (conditions types R N ts a last g i) ≡ map top (conditions types R N ts b last g j)
  conditions_tops [] names k a b last g i j C s' h = refl
  conditions_tops (t ∷ ts) names k a b last g i j C s' h =
      ap₂ (λ v vs. v ∷ vs)
      (expr_agrees t.cond [] names (below Head k) a b last (at Head g) (part Head i) (part Head j) (λ p. C (Head ∷ p)) s' [] (C (Head ∷ []) h.0))
      (conditions_tops ts names (below Tail k) a b last (at Tail g) (part Tail i) (part Tail j) (λ p. C (Tail ∷ p)) s' h.1)

  pub conditions_agree : (ts : List Trans) (names : NameSources) (k : PlaceSources) (a b last : Names) (g : Given) (i j : Instant) → Closed P k (at_conditions ts names k) → SameNames P names a b → Agree P (at_conditions ts names k) (in_row (conditions types R N ts a last g i)) (in_row (conditions types R N ts b last g j))
  conditions_agree [] names k a b last g i j C s' = λ p h. refl
  conditions_agree (t ∷ ts) names k a b last g i j C s' =
      row_at P (at_expr t.cond [] names (below Head k)) (at_conditions ts names (below Tail k)) _ _ _ _
      (expr_agrees t.cond [] names (below Head k) a b last (at Head g) (part Head i) (part Head j) (λ p. C (Head ∷ p)) s')
      (conditions_agree ts names (below Tail k) a b last (at Tail g) (part Tail i) (part Tail j) (λ p. C (Tail ∷ p)) s')
