-- The wires of an expression or a block at a place depend on what the place reads, where an instance is given as a whole.
use Rattle.std.proofs.Common.{◌≡◌, ℕ, List, [], ◌∷◌, map, refl, ap, ap₂, ◌∙◌}
use Rattle.std.specs.Prelude.{if◌then◌else◌}
use Rattle.hp_base.specs.declared.span.Span.{Span}
use Rattle.hp_base.specs.declared.value.Value.{Value}
use Rattle.hp_base.specs.declared.value.Value.TheVariants.{Absent}
use Rattle.hp_tree.specs.declared.block.Trans.{Trans}
use Rattle.hp_tree.specs.Expressions.{Expr, constant, variable, last_of, one, two, choose, pre, fby, arrow, when_is, merge, call, Exprs, no_expr, more_exprs, Parts, no_part, more_parts}
use Rattle.hp_tree.specs.Blocks.{Block}
use Rattle.hp_tree.specs.Programs.{TypeDecl}
use Rattle.hp_tree.specs.Operators.{abstraction, is_cons, is_true, if_of}
use Rattle.hp_tree.specs.Instant.{Body, Fresh, Head, Tail, Until, Unless, First, Second, Third, Args, Instance, Place, Instant, part, top, in_row, Clock, without}
use Rattle.hp_tree.specs.Meaning.{Names, output_for, only_output}
use Rattle.hp_meaning.specs.Causal.Sources.{Sources, both, also, Within, NameSources, PlaceSources, below, at_state}
use Rattle.hp_meaning.specs.Causal.WhatIsRead.{of_clock, of_expr, of_exprs, of_parts, of_conditions, at_expr, at_exprs, at_parts, at_conditions, names_in_block, in_block}
use Rattle.law_games.specs.Wires.Wired.{Held, held_at, Callees, blank, picked, wired, wired_all, wired_parts}
use Rattle.law_games.specs.Wires.WiredBlocks.{right_in, wired_conditions}
use Rattle.law_games.proofs.WiresLemmas.Agreeing.{Agree, SameNames, Closed, alone_at, one_at, two_at, three_at, row_at, merge_at, call_at}

-- an instance is given as a whole: nothing of the wires is read in it
abbrev pub AsWhole : Callees → Type 0
AsWhole C = (f : List ℕ) (ins : List Value) (m : Held) (i j : Instant) → C.wired f ins m i ≡ C.wired f ins m j

picked_tops : (types : List TypeDecl) (c d : Value) (ps : Parts) (v : Value) (is js : List Instant) → c ≡ d → map top is ≡ map top js → picked types c ps v is ≡ picked types d ps v js
picked_tops types c d no_part v is js e h = e
picked_tops types c d (more_parts k x ps) v [] [] e h = e
picked_tops types c d (more_parts k x ps) v [] (j ∷ js) e h = cc
picked_tops types c d (more_parts k x ps) v (i ∷ is) [] e h = cc
picked_tops types c d (more_parts k x ps) v (i ∷ is) (j ∷ js) e h =
    let g : top i ≡ top j = cc in
    let t : map top is ≡ map top js = cc in
    ap₂ (λ u w. if is_cons types v k then u else w) g (picked_tops types (blank (top i)) (blank (top j)) ps v is js (ap blank g) t)

-- what the places of one state read
abbrev pub at_each : Sources → Block → List Trans → List Trans → NameSources → NameSources → PlaceSources → PlaceSources
at_each active c until unless out names k =
    at_state active (in_block c names (below Body (below Head k)))
    (at_conditions until (names_in_block c names (below Body (below Head k))) (below Until (below Head k)))
    (at_conditions unless out (below Unless (below Head k)))

module _ (P : Place → Type 0) (types : List TypeDecl) (C : Callees) (W : AsWhole C) where
  mutual
    pub expr_top : (e : Expr) (clock : Clock) (names : NameSources) (k : PlaceSources) (a b last : Names) (m : Held) (i j : Instant) → Closed P k (at_expr e clock names k) → SameNames P names a b → Within P (of_expr e names k) → wired types C e a last m i [] ≡ wired types C e b last m j []
    expr_top (constant s c) clock names k a b last m i j cl s' h = refl
    expr_top (variable s x) clock names k a b last m i j cl s' h = s' x h
    expr_top (last_of s x) clock names k a b last m i j cl s' h = refl
    expr_top (one s o d) clock names k a b last m i j cl s' h = ap (abstraction.one o) (expr_top d clock names (below First k) a b last (held_at First m) (part First i) (part First j) (λ p. cl (First ∷ p)) s' h)
    expr_top (two s o d e) clock names k a b last m i j cl s' h =
        ap₂ (abstraction.two o (top m.free))
        (expr_top d clock names (below First k) a b last (held_at First m) (part First i) (part First j) (λ p. cl (First ∷ p)) s' h.0)
        (expr_top e clock names (below Second k) a b last (held_at Second m) (part Second i) (part Second j) (λ p. cl (Second ∷ p)) s' h.1)
    expr_top (choose s d e f) clock names k a b last m i j cl s' h =
        let t = expr_top d clock names (below First k) a b last (held_at First m) (part First i) (part First j) (λ p. cl (First ∷ p)) s' h.0 in
        let u = expr_top e clock names (below Second k) a b last (held_at Second m) (part Second i) (part Second j) (λ p. cl (Second ∷ p)) s' h.1.0 in
        let w = expr_top f clock names (below Third k) a b last (held_at Third m) (part Third i) (part Third j) (λ p. cl (Third ∷ p)) s' h.1.1 in
        λ z. if_of (t z) (u z) (w z)
    expr_top (pre s d) clock names k a b last m i j cl s' h = refl
    expr_top (fby s d e) clock names k a b last m i j cl s' h =
        ap (λ v. if is_true (m.memory (Fresh ∷ [])) then top m.memory else v) (expr_top d clock names (below First k) a b last (held_at First m) (part First i) (part First j) (λ p. cl (First ∷ p)) s' h)
    expr_top (arrow s d e) clock names k a b last m i j cl s' h =
        ap₂ (λ v w. if is_true (m.memory (Fresh ∷ [])) then w else v)
        (expr_top d clock names (below First k) a b last (held_at First m) (part First i) (part First j) (λ p. cl (First ∷ p)) s' h.0)
        (expr_top e clock names (below Second k) a b last (held_at Second m) (part Second i) (part Second j) (λ p. cl (Second ∷ p)) s' h.1)
    expr_top (when_is s d c x) clock names k a b last m i j cl s' h = expr_top d (without clock) names (below First k) a b last (held_at First m) (part First i) (part First j) (λ p. cl (First ∷ p)) s' h.1
    expr_top (merge s x ps) clock names k a b last m i j cl s' h =
        ap (λ v. picked types Absent ps v (wired_parts types C ps a last (held_at Args m) (part Args i))) (s' x h.0)
        ∙ picked_tops types Absent Absent ps (b x) _ _ refl (parts_tops ps x clock names (below Args k) a b last (held_at Args m) (part Args i) (part Args j) (λ p. cl (Args ∷ p)) s' h.1)
    expr_top (call s f inlined es) clock names k a b last m i j cl s' h =
        ap (only_output (C.outputs f))
        (ap (λ vs. C.wired f vs (held_at Instance m) (part Instance i)) (exprs_tops es clock names (below Args k) a b last (held_at Args m) (part Args i) (part Args j) (λ p. cl (Args ∷ p)) s' (cl [] h).1)
        ∙ W f _ (held_at Instance m) (part Instance i) (part Instance j))

    exprs_tops : (es : Exprs) (clock : Clock) (names : NameSources) (k : PlaceSources) (a b last : Names) (m : Held) (i j : Instant) → Closed P k (at_exprs es clock names k) → SameNames P names a b → Within P (of_exprs es names k) → map top (wired_all types C es a last m i) ≡ map top (wired_all types C es b last m j)
    exprs_tops no_expr clock names k a b last m i j cl s' h = refl
    exprs_tops (more_exprs e es) clock names k a b last m i j cl s' h =
        ap₂ (λ v vs. v ∷ vs)
        (expr_top e clock names (below Head k) a b last (held_at Head m) (part Head i) (part Head j) (λ p. cl (Head ∷ p)) s' h.0)
        (exprs_tops es clock names (below Tail k) a b last (held_at Tail m) (part Tail i) (part Tail j) (λ p. cl (Tail ∷ p)) s' h.1)

    parts_tops : (ps : Parts) (x : List ℕ) (clock : Clock) (names : NameSources) (k : PlaceSources) (a b last : Names) (m : Held) (i j : Instant) → Closed P k (at_parts ps x clock names k) → SameNames P names a b → Within P (of_parts ps names k) → map top (wired_parts types C ps a last m i) ≡ map top (wired_parts types C ps b last m j)
    parts_tops no_part x clock names k a b last m i j cl s' h = refl
    parts_tops (more_parts c e ps) x clock names k a b last m i j cl s' h =
        ap₂ (λ v vs. v ∷ vs)
        (expr_top e ((c, x) ∷ clock) names (below Head k) a b last (held_at Head m) (part Head i) (part Head j) (λ p. cl (Head ∷ p)) s' h.0)
        (parts_tops ps x clock names (below Tail k) a b last (held_at Tail m) (part Tail i) (part Tail j) (λ p. cl (Tail ∷ p)) s' h.1)

  instance_same : (f : List ℕ) (es : Exprs) (clock : Clock) (names : NameSources) (k : PlaceSources) (a b last : Names) (m : Held) (i j : Instant) → Closed P (below Args k) (at_exprs es clock names (below Args k)) → SameNames P names a b → Within P (of_exprs es names (below Args k)) → C.wired f (map top (wired_all types C es a last (held_at Args m) (part Args i))) (held_at Instance m) (part Instance i) ≡ C.wired f (map top (wired_all types C es b last (held_at Args m) (part Args j))) (held_at Instance m) (part Instance j)
  instance_same f es clock names k a b last m i j cl s' h =
      ap (λ vs. C.wired f vs (held_at Instance m) (part Instance i)) (exprs_tops es clock names (below Args k) a b last (held_at Args m) (part Args i) (part Args j) cl s' h)
      ∙ W f _ (held_at Instance m) (part Instance i) (part Instance j)

  mutual
    pub expr_agrees : (e : Expr) (clock : Clock) (names : NameSources) (k : PlaceSources) (a b last : Names) (m : Held) (i j : Instant) → Closed P k (at_expr e clock names k) → SameNames P names a b → Agree P (at_expr e clock names k) (wired types C e a last m i) (wired types C e b last m j)
    expr_agrees (constant s c) clock names k a b last m i j cl s' = λ p h. refl
    expr_agrees (variable s x) clock names k a b last m i j cl s' = alone_at P (both (also (of_clock clock names)) (names x)) _ _ (λ h. s' x h.1)
    expr_agrees (last_of s x) clock names k a b last m i j cl s' = λ p h. refl
    expr_agrees (one s o d) clock names k a b last m i j cl s' =
        one_at P _ (at_expr d clock names (below First k)) _ _ _ _ (λ h. expr_top (one s o d) clock names k a b last m i j cl s' h.1)
        (expr_agrees d clock names (below First k) a b last (held_at First m) (part First i) (part First j) (λ p. cl (First ∷ p)) s')
    expr_agrees (two s o d e) clock names k a b last m i j cl s' =
        two_at P _ (at_expr d clock names (below First k)) (at_expr e clock names (below Second k)) _ _ _ _ _ _ (λ h. expr_top (two s o d e) clock names k a b last m i j cl s' h.1)
        (expr_agrees d clock names (below First k) a b last (held_at First m) (part First i) (part First j) (λ p. cl (First ∷ p)) s')
        (expr_agrees e clock names (below Second k) a b last (held_at Second m) (part Second i) (part Second j) (λ p. cl (Second ∷ p)) s')
    expr_agrees (choose s d e f) clock names k a b last m i j cl s' =
        three_at P _ (at_expr d clock names (below First k)) (at_expr e clock names (below Second k)) (at_expr f clock names (below Third k)) _ _ _ _ _ _ _ _ (λ h. expr_top (choose s d e f) clock names k a b last m i j cl s' h.1)
        (expr_agrees d clock names (below First k) a b last (held_at First m) (part First i) (part First j) (λ p. cl (First ∷ p)) s')
        (expr_agrees e clock names (below Second k) a b last (held_at Second m) (part Second i) (part Second j) (λ p. cl (Second ∷ p)) s')
        (expr_agrees f clock names (below Third k) a b last (held_at Third m) (part Third i) (part Third j) (λ p. cl (Third ∷ p)) s')
    expr_agrees (pre s d) clock names k a b last m i j cl s' =
        one_at P _ (at_expr d clock names (below First k)) _ _ _ _ (λ h. refl)
        (expr_agrees d clock names (below First k) a b last (held_at First m) (part First i) (part First j) (λ p. cl (First ∷ p)) s')
    expr_agrees (fby s d e) clock names k a b last m i j cl s' =
        two_at P _ (at_expr d clock names (below First k)) (at_expr e clock names (below Second k)) _ _ _ _ _ _ (λ h. expr_top (fby s d e) clock names k a b last m i j cl s' h.1)
        (expr_agrees d clock names (below First k) a b last (held_at First m) (part First i) (part First j) (λ p. cl (First ∷ p)) s')
        (expr_agrees e clock names (below Second k) a b last (held_at Second m) (part Second i) (part Second j) (λ p. cl (Second ∷ p)) s')
    expr_agrees (arrow s d e) clock names k a b last m i j cl s' =
        two_at P _ (at_expr d clock names (below First k)) (at_expr e clock names (below Second k)) _ _ _ _ _ _ (λ h. expr_top (arrow s d e) clock names k a b last m i j cl s' h.1)
        (expr_agrees d clock names (below First k) a b last (held_at First m) (part First i) (part First j) (λ p. cl (First ∷ p)) s')
        (expr_agrees e clock names (below Second k) a b last (held_at Second m) (part Second i) (part Second j) (λ p. cl (Second ∷ p)) s')
    expr_agrees (when_is s d c x) clock names k a b last m i j cl s' =
        one_at P _ (at_expr d (without clock) names (below First k)) _ _ _ _ (λ h. expr_top (when_is s d c x) clock names k a b last m i j cl s' h.1)
        (expr_agrees d (without clock) names (below First k) a b last (held_at First m) (part First i) (part First j) (λ p. cl (First ∷ p)) s')
    expr_agrees (merge s x ps) clock names k a b last m i j cl s' =
        merge_at P _ (at_parts ps x clock names (below Args k)) _ _ _ _ (λ h. expr_top (merge s x ps) clock names k a b last m i j cl s' h.1)
        (parts_agree ps x clock names (below Args k) a b last (held_at Args m) (part Args i) (part Args j) (λ p. cl (Args ∷ p)) s')
    expr_agrees (call s f inlined es) clock names k a b last m i j cl s' =
        let same = instance_same f es clock names k a b last m i j (λ p. cl (Args ∷ p)) s' in
        call_at P _ (both (also (of_clock clock names)) (k [])) (at_exprs es clock names (below Args k)) _ _ _ _ _ _
        (λ h. ap (only_output (C.outputs f)) (same h.1))
        (λ h. same (cl [] h.1).1)
        (exprs_agree es clock names (below Args k) a b last (held_at Args m) (part Args i) (part Args j) (λ p. cl (Args ∷ p)) s')

    exprs_agree : (es : Exprs) (clock : Clock) (names : NameSources) (k : PlaceSources) (a b last : Names) (m : Held) (i j : Instant) → Closed P k (at_exprs es clock names k) → SameNames P names a b → Agree P (at_exprs es clock names k) (in_row (wired_all types C es a last m i)) (in_row (wired_all types C es b last m j))
    exprs_agree no_expr clock names k a b last m i j cl s' = λ p h. refl
    exprs_agree (more_exprs e es) clock names k a b last m i j cl s' =
        row_at P (at_expr e clock names (below Head k)) (at_exprs es clock names (below Tail k)) _ _ _ _
        (expr_agrees e clock names (below Head k) a b last (held_at Head m) (part Head i) (part Head j) (λ p. cl (Head ∷ p)) s')
        (exprs_agree es clock names (below Tail k) a b last (held_at Tail m) (part Tail i) (part Tail j) (λ p. cl (Tail ∷ p)) s')

    parts_agree : (ps : Parts) (x : List ℕ) (clock : Clock) (names : NameSources) (k : PlaceSources) (a b last : Names) (m : Held) (i j : Instant) → Closed P k (at_parts ps x clock names k) → SameNames P names a b → Agree P (at_parts ps x clock names k) (in_row (wired_parts types C ps a last m i)) (in_row (wired_parts types C ps b last m j))
    parts_agree no_part x clock names k a b last m i j cl s' = λ p h. refl
    parts_agree (more_parts c e ps) x clock names k a b last m i j cl s' =
        row_at P (at_expr e ((c, x) ∷ clock) names (below Head k)) (at_parts ps x clock names (below Tail k)) _ _ _ _
        (expr_agrees e ((c, x) ∷ clock) names (below Head k) a b last (held_at Head m) (part Head i) (part Head j) (λ p. cl (Head ∷ p)) s')
        (parts_agree ps x clock names (below Tail k) a b last (held_at Tail m) (part Tail i) (part Tail j) (λ p. cl (Tail ∷ p)) s')

  pub right_agrees : (ys : List (List ℕ × Span)) (e : Expr) (clock : Clock) (names : NameSources) (k : PlaceSources) (a b last : Names) (m : Held) (i j : Instant) → Closed P k (at_expr e clock names k) → SameNames P names a b → (x : List ℕ) → Within P (of_expr e names k) → right_in types C ys e (wired types C e a last m i) x ≡ right_in types C ys e (wired types C e b last m j) x
  right_agrees ys (call s f inlined es) clock names k a b last m i j cl s' x h =
      ap (λ t. output_for ys (C.outputs f) t x) (instance_same f es clock names k a b last m i j (λ p. cl (Args ∷ p)) s' (cl [] h).1)
  right_agrees ys e clock names k a b last m i j cl s' x h = expr_top e clock names k a b last m i j cl s' h

  pub conditions_tops : (ts : List Trans) (names : NameSources) (k : PlaceSources) (a b last : Names) (m : Held) (i j : Instant) → Closed P k (at_conditions ts names k) → SameNames P names a b → Within P (of_conditions ts k) → map top (wired_conditions types C ts a last m i) ≡ map top (wired_conditions types C ts b last m j)
  conditions_tops [] names k a b last m i j cl s' h = refl
  conditions_tops (t ∷ ts) names k a b last m i j cl s' h =
      ap₂ (λ v vs. v ∷ vs)
      (expr_agrees t.cond [] names (below Head k) a b last (held_at Head m) (part Head i) (part Head j) (λ p. cl (Head ∷ p)) s' [] (cl (Head ∷ []) h.0))
      (conditions_tops ts names (below Tail k) a b last (held_at Tail m) (part Tail i) (part Tail j) (λ p. cl (Tail ∷ p)) s' h.1)

  pub conditions_agree : (ts : List Trans) (names : NameSources) (k : PlaceSources) (a b last : Names) (m : Held) (i j : Instant) → Closed P k (at_conditions ts names k) → SameNames P names a b → Agree P (at_conditions ts names k) (in_row (wired_conditions types C ts a last m i)) (in_row (wired_conditions types C ts b last m j))
  conditions_agree [] names k a b last m i j cl s' = λ p h. refl
  conditions_agree (t ∷ ts) names k a b last m i j cl s' =
      row_at P (at_expr t.cond [] names (below Head k)) (at_conditions ts names (below Tail k)) _ _ _ _
      (expr_agrees t.cond [] names (below Head k) a b last (held_at Head m) (part Head i) (part Head j) (λ p. cl (Head ∷ p)) s')
      (conditions_agree ts names (below Tail k) a b last (held_at Tail m) (part Tail i) (part Tail j) (λ p. cl (Tail ∷ p)) s')
