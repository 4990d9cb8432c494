-- A walk over expressions.
use Rattle.std.proofs.Common.{◌≡◌, ℕ, List, [], ◌∷◌, ◌++◌, map, refl, sym, ap, ◌∙◌}
use Rattle.std.specs.Prelude.{Bool, true, false, if◌then◌else◌}
use Rattle.std.proofs.lemmas.List.{append_assoc, append-nil}
use Rattle.hp_tree.specs.declared.expr.Op2.{Op2}
use Rattle.hp_tree.specs.Expressions.{Expr, constant, variable, last_of, one, two, choose, pre, fby, arrow, when_is, merge, call, Exprs, no_expr, more_exprs, Parts, no_part, more_parts}
use Rattle.hp_tree.specs.Instant.{Head, Tail, First, Second, Third, Args}
use Rattle.hp_automata.specs.Renaming.{renamed, renamed_exprs, renamed_parts}
use Rattle.law_equations.specs.Flattened.Flatten.{Prefix, below}
use Rattle.hp_watch.specs.Walk.{compares, Walked, in_front, behind, walk, walk_all, walk_parts}
use Rattle.law_choices.specs.Places.Spots.{Spot, compared, call_spot, compared_spots, spots, spots_of_all, spots_of_parts}
use Rattle.law_choices.specs.Places.Found.{Both, both_compared, found, found_in_all, found_in_parts}

-- where they stand in the program without automata
abbrev pub made : Both → List Spot
made xs = map (λ (s : Spot × Spot). s.1) xs

pub made-append : (xs ys : Both) → made (xs ++ ys) ≡ made xs ++ made ys
made-append [] ys = refl
made-append (x ∷ xs) ys = ap (λ zs. x.1 ∷ zs) (made-append xs ys)

-- ---- one part behind another

-- A walk over a part takes the events that are made of it, and finds those that stand in it.
abbrev pub Takes : {X : Type 0} → (List X → Walked X) → List X → List X → Type 0
Takes {X = X} walked events places = (rest : List X) → walked (events ++ rest) ≡ (places, rest)

pub takes-two : {X : Type 0} (v w : List X → Walked X) (A B P Q : List X) → Takes v A P → Takes w B Q → Takes (λ es. let x = v es in behind x.0 (w x.1)) (A ++ B) (P ++ Q)
takes-two {X = X} v w A B P Q h k rest =
    ap (λ es. let x = v es in behind x.0 (w x.1)) (append_assoc A B rest)
    ∙ ap (λ (x : Walked X). behind x.0 (w x.1)) (h (B ++ rest))
    ∙ ap (λ (y : Walked X). behind P y) (k rest)

-- the next event stands before those of its operands
pub takes-front : {X : Type 0} (v : List X → Walked X) (A P : List X) (s : X) → Takes v A P → Takes (λ es. in_front (v es)) (A ++ s ∷ []) (s ∷ P)
takes-front v A P s h rest = ap (λ es. in_front (v es)) (append_assoc A (s ∷ []) rest) ∙ ap in_front (h (s ∷ rest))

-- a comparison of two operands
pub takes-compared : {X : Type 0} (c : Bool) (v : List X → Walked X) (A P : List X) (s : X) → Takes v A P → Takes (λ es. if c then in_front (v es) else v es) (A ++ (if c then s ∷ [] else [])) ((if c then s ∷ [] else []) ++ P)
takes-compared true v A P s h rest = takes-front v A P s h rest
takes-compared false v A P s h rest = ap (λ xs. v (xs ++ rest)) (append-nil A) ∙ h rest

compared-made : (c : Bool) (s t : Spot) → made (if c then (s, t) ∷ [] else []) ≡ (if c then t ∷ [] else [])
compared-made true s t = refl
compared-made false s t = refl

-- the same found
pub found-as : {X : Type 0} (v : List X → Walked X) (A P Q : List X) → P ≡ Q → Takes v A P → Takes v A Q
found-as v A P Q e h rest = h rest ∙ ap (λ ps. (ps, rest)) e

module _ (outputs : List ℕ → List (List ℕ)) (to : List ℕ → List ℕ) where
  -- the events of an expression, and what is found there
  abbrev E : Expr → Prefix → List Spot
  E e here = spots outputs (renamed to e) here

  abbrev P : Expr → Prefix → Prefix → List Spot
  P e w here = made (found outputs e w here)

  -- what is shown of an expression
  abbrev pub AtExpr : Expr → Prefix → Prefix → Type 0
  AtExpr e w here = Takes (walk e) (E e here) (P e w here)

  -- two operands
  pair-takes : (a b : Expr) (w here v there : Prefix) → AtExpr a w here → AtExpr b v there → Takes (λ es. let x = walk a es in behind x.0 (walk b x.1)) (E a here ++ E b there) (made (found outputs a w here ++ found outputs b v there))
  pair-takes a b w here v there h k rest =
      found-as (λ es. let x = walk a es in behind x.0 (walk b x.1)) (E a here ++ E b there) (P a w here ++ P b v there) (made (found outputs a w here ++ found outputs b v there))
      (sym (made-append (found outputs a w here) (found outputs b v there)))
      (takes-two (walk a) (walk b) (E a here) (E b there) (P a w here) (P b v there) h k) rest

  two-takes : (o : Op2) (a b : Expr) (w here : Prefix) → AtExpr a (below First w) (below First here) → AtExpr b (below Second w) (below Second here)
      → Takes (λ es. let x = walk a es in let y = behind x.0 (walk b x.1) in if compares o then in_front y else y)
      (E a (below First here) ++ (E b (below Second here) ++ compared_spots outputs o here)) (made (both_compared outputs o w here ++ (found outputs a (below First w) (below First here) ++ found outputs b (below Second w) (below Second here))))
  two-takes o a b w here h k rest =
      let v = λ (es : List Spot). let x = walk a es in behind x.0 (walk b x.1) in
      let F = found outputs a (below First w) (below First here) ++ found outputs b (below Second w) (below Second here) in
      ap (λ es. let y = v (es ++ rest) in if compares o then in_front y else y) (sym (append_assoc (E a (below First here)) (E b (below Second here)) (compared_spots outputs o here)))
      ∙ takes-compared (compares o) v (E a (below First here) ++ E b (below Second here)) (made F) (compared o (here [])) (pair-takes a b (below First w) (below First here) (below Second w) (below Second here) h k) rest
      ∙ ap (λ ps. (ps, rest)) (sym (made-append (both_compared outputs o w here) F ∙ ap (λ ps. ps ++ made F) (compared-made (compares o) (compared o (w [])) (compared o (here [])))))

  mutual
    pub expr-takes : (e : Expr) (w here : Prefix) → AtExpr e w here
    expr-takes (constant s c) w here rest = refl
    expr-takes (variable s x) w here rest = refl
    expr-takes (last_of s x) w here rest = refl
    expr-takes (one s o a) w here rest = expr-takes a (below First w) (below First here) rest
    expr-takes (two s o a b) w here rest = two-takes o a b w here (expr-takes a (below First w) (below First here)) (expr-takes b (below Second w) (below Second here)) rest
    expr-takes (choose s a b c) w here rest =
        ap (λ es. walk (choose s a b c) (es ++ rest)) (sym (append_assoc (E a (below First here)) (E b (below Second here)) (E c (below Third here))))
        ∙ takes-two (λ es. let x = walk a es in behind x.0 (walk b x.1)) (walk c) (E a (below First here) ++ E b (below Second here)) (E c (below Third here))
        (made (found outputs a (below First w) (below First here) ++ found outputs b (below Second w) (below Second here))) (P c (below Third w) (below Third here))
        (pair-takes a b (below First w) (below First here) (below Second w) (below Second here) (expr-takes a (below First w) (below First here)) (expr-takes b (below Second w) (below Second here))) (expr-takes c (below Third w) (below Third here)) rest
        ∙ ap (λ ps. (ps, rest))
        (sym (made-append (found outputs a (below First w) (below First here) ++ found outputs b (below Second w) (below Second here)) (found outputs c (below Third w) (below Third here)))
        ∙ ap made (append_assoc (found outputs a (below First w) (below First here)) (found outputs b (below Second w) (below Second here)) (found outputs c (below Third w) (below Third here))))
    expr-takes (pre s a) w here rest = expr-takes a (below First w) (below First here) rest
    expr-takes (fby s a b) w here rest = pair-takes a b (below First w) (below First here) (below Second w) (below Second here) (expr-takes a (below First w) (below First here)) (expr-takes b (below Second w) (below Second here)) rest
    expr-takes (arrow s a b) w here rest = pair-takes a b (below First w) (below First here) (below Second w) (below Second here) (expr-takes a (below First w) (below First here)) (expr-takes b (below Second w) (below Second here)) rest
    expr-takes (when_is s a c x) w here rest = expr-takes a (below First w) (below First here) rest
    expr-takes (merge s x ps) w here rest = parts-take ps (below Args w) (below Args here) rest
    expr-takes (call s f inlined es) w here rest =
        takes-front (walk_all es) (spots_of_all outputs (renamed_exprs to es) (below Args here)) (made (found_in_all outputs es (below Args w) (below Args here))) (call_spot outputs f here)
        (all-take es (below Args w) (below Args here)) rest

    pub all-take : (es : Exprs) (w here : Prefix) → Takes (walk_all es) (spots_of_all outputs (renamed_exprs to es) here) (made (found_in_all outputs es w here))
    all-take no_expr w here rest = refl
    all-take (more_exprs e es) w here rest =
        takes-two (walk e) (walk_all es) (E e (below Head here)) (spots_of_all outputs (renamed_exprs to es) (below Tail here))
        (P e (below Head w) (below Head here)) (made (found_in_all outputs es (below Tail w) (below Tail here)))
        (expr-takes e (below Head w) (below Head here)) (all-take es (below Tail w) (below Tail here)) rest
        ∙ ap (λ ps. (ps, rest)) (sym (made-append (found outputs e (below Head w) (below Head here)) (found_in_all outputs es (below Tail w) (below Tail here))))

    pub parts-take : (ps : Parts) (w here : Prefix) → Takes (walk_parts ps) (spots_of_parts outputs (renamed_parts to ps) here) (made (found_in_parts outputs ps w here))
    parts-take no_part w here rest = refl
    parts-take (more_parts c e ps) w here rest =
        takes-two (walk e) (walk_parts ps) (E e (below Head here)) (spots_of_parts outputs (renamed_parts to ps) (below Tail here))
        (P e (below Head w) (below Head here)) (made (found_in_parts outputs ps (below Tail w) (below Tail here)))
        (expr-takes e (below Head w) (below Head here)) (parts-take ps (below Tail w) (below Tail here)) rest
        ∙ ap (λ ps. (ps, rest)) (sym (made-append (found outputs e (below Head w) (below Head here)) (found_in_parts outputs ps (below Tail w) (below Tail here))))
