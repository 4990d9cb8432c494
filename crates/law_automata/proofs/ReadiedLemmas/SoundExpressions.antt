-- Expressions in which names stand for names keep their types, and are sound.
use Rattle.std.proofs.Common.{ℕ, List, [], ◌∷◌, refl}
use Rattle.std.specs.Prelude.{IsTrue, Option}
use Rattle.hp_base.specs.declared.span.Span.{Span}
use Rattle.hp_base.specs.declared.ty.Ty.{Ty}
use Rattle.hp_base.specs.declared.ty.Ty.TheVariants as ty
use Rattle.hp_tree.specs.Expressions.{Expr, constant, variable, last_of, one, two, choose, pre, fby, arrow, when_is, merge, call, Exprs, no_expr, more_exprs, Parts, no_part, more_parts}
use Rattle.hp_tree.specs.Blocks.{Decl}
use Rattle.hp_tree.specs.Programs.{TypeDecl, Node}
use Rattle.hp_typing.specs.Types.{type_of, type_of_one}
use Rattle.law_judged.specs.Named.Scopes.{Scope}
use Rattle.law_values.specs.Valued.Judged.{Lasts, of_parts, LeftsAre, LeftsHave, ExprSound, ExprsSound, PartsSound, RightSound, TestSound}
use Rattle.law_values.proofs.AcceptedLemmas.Keeps.{Kept, KeptName, Grows, constant_kept, one_kept, two_kept, if_kept, pair_kept, when_kept, ArgsKept, call_kept, outputs_kept, PartsKept, parts_conses, merge_kept, covers_kept}
use Rattle.hp_automata.specs.Renaming.{renamed, renamed_exprs, renamed_parts, renamed_left}

module _ (types : List TypeDecl) (among : List ℕ → Option Node) (s r : Scope) (g : Grows types among s r) (to : List ℕ → List ℕ) (lasts lasts' : Lasts) (names : (x : List ℕ) → KeptName s r x (to x)) (itself : (x : List ℕ) → KeptName s r x x)
    (lasting : (x : List ℕ) → IsTrue (lasts x) → IsTrue (lasts' x)) where
  mutual
    pub expr_typed : (e : Expr) → Kept (type_of s e) (type_of r (renamed to e))
    expr_typed (constant a c) = constant_kept types among s r g c
    expr_typed (variable a x) = names x
    expr_typed (last_of a x) = itself x
    expr_typed (one a o b) = one_kept types among s r g (type_of_one o) (type_of s b) (type_of r (renamed to b)) (expr_typed b)
    expr_typed (two a o b c) = two_kept types among s r g o (type_of s b) (type_of s c) (type_of r (renamed to b)) (type_of r (renamed to c)) (expr_typed b) (expr_typed c)
    expr_typed (choose a b c d) =
        if_kept types among s r g (type_of s b) (type_of s c) (type_of s d) (type_of r (renamed to b)) (type_of r (renamed to c)) (type_of r (renamed to d)) (expr_typed b) (expr_typed c) (expr_typed d)
    expr_typed (pre a b) = expr_typed b
    expr_typed (fby a b c) = pair_kept types among s r g (type_of s b) (type_of s c) (type_of r (renamed to b)) (type_of r (renamed to c)) (expr_typed b) (expr_typed c)
    expr_typed (arrow a b c) = pair_kept types among s r g (type_of s b) (type_of s c) (type_of r (renamed to b)) (type_of r (renamed to c)) (expr_typed b) (expr_typed c)
    expr_typed (when_is a b c x) = when_kept types among s r g c x (to x) (type_of s b) (type_of r (renamed to b)) (names x) (expr_typed b)
    expr_typed (merge a x ps) = merge_kept types among s r g x (to x) ps (renamed_parts to ps) (names x) (parts_typed ps)
    expr_typed (call a f i es) = call_kept types among s r g f es (renamed_exprs to es) (all_typed es)

    all_typed : (es : Exprs) → ArgsKept types among s r g es (renamed_exprs to es)
    all_typed no_expr = tt
    all_typed (more_exprs e es) = (expr_typed e, all_typed es)

    parts_typed : (ps : Parts) → PartsKept types among s r g ps (renamed_parts to ps)
    parts_typed no_part = tt
    parts_typed (more_parts c e ps) = (refl, (expr_typed e, parts_typed ps))

  mutual
    pub expr_sound : (e : Expr) → ExprSound types among s lasts e → ExprSound types among r lasts' (renamed to e)
    expr_sound (constant a c) ok = g.constants c
    expr_sound (variable a x) ok = tt
    expr_sound (last_of a x) ok = lasting x ok
    expr_sound (one a o b) ok = expr_sound b ok
    expr_sound (two a o b c) ok = (expr_sound b ok.0, expr_sound c ok.1)
    expr_sound (choose a b c d) ok = (expr_sound b ok.0, (expr_sound c ok.1.0, expr_sound d ok.1.1))
    expr_sound (pre a b) ok = expr_sound b ok
    expr_sound (fby a b c) ok = (expr_sound b ok.0, expr_sound c ok.1)
    expr_sound (arrow a b c) ok = (expr_sound b ok.0, expr_sound c ok.1)
    expr_sound (when_is a b c x) ok = expr_sound b ok
    expr_sound (merge a x ps) ok = (covers_kept types among s r g x (to x) (of_parts ps) (of_parts (renamed_parts to ps)) (names x) (parts_conses types among s r g ps (renamed_parts to ps) (parts_typed ps)) ok.0, parts_sound ps ok.1)
    expr_sound (call a f i es) ok = (g.known f, exprs_sound es ok.1)

    exprs_sound : (es : Exprs) → ExprsSound types among s lasts es → ExprsSound types among r lasts' (renamed_exprs to es)
    exprs_sound no_expr ok = tt
    exprs_sound (more_exprs e es) ok = (expr_sound e ok.0, exprs_sound es ok.1)

    parts_sound : (ps : Parts) → PartsSound types among s lasts ps → PartsSound types among r lasts' (renamed_parts to ps)
    parts_sound no_part ok = tt
    parts_sound (more_parts c e ps) ok = (expr_sound e ok.0, parts_sound ps ok.1)

  pub test_sound : (e : Expr) → TestSound types among s lasts e → TestSound types among r lasts' (renamed to e)
  test_sound e ok = (expr_sound e ok.0, expr_typed e ty.Bool ok.1)

  lefts_are : (ys : List (List ℕ × Span)) (outs : List Decl) → LeftsAre s ys outs → LeftsAre r (renamed_left to ys) outs
  lefts_are [] [] h = tt
  lefts_are [] (d ∷ ds) h = absurd h
  lefts_are (y ∷ ys) [] h = absurd h
  lefts_are (y ∷ ys) (d ∷ ds) h = (names y.0 d.ty h.0, lefts_are ys ds h.1)

  lefts_have : (ys : List (List ℕ × Span)) (t : Ty) → LeftsHave s ys t → LeftsHave r (renamed_left to ys) t
  lefts_have [] t h = tt
  lefts_have (y ∷ ys) t h = (names y.0 t h.0, lefts_have ys t h.1)

  pub right_sound : (ys : List (List ℕ × Span)) (e : Expr) → RightSound types among s lasts ys e → RightSound types among r lasts' (renamed_left to ys) (renamed to e)
  right_sound ys (call a f i es) ok = (expr_sound (call a f i es) ok.0, (ok.1.0, (outputs_kept types among s r g f es (renamed_exprs to es) ok.1.0 (all_typed es) ok.1.1.0, lefts_are ys ok.1.0 ok.1.1.1)))
  right_sound ys (constant a c) ok = (expr_sound (constant a c) ok.0, (ok.1.0, (expr_typed (constant a c) ok.1.0 ok.1.1.0, lefts_have ys ok.1.0 ok.1.1.1)))
  right_sound ys (variable a c) ok = (expr_sound (variable a c) ok.0, (ok.1.0, (expr_typed (variable a c) ok.1.0 ok.1.1.0, lefts_have ys ok.1.0 ok.1.1.1)))
  right_sound ys (last_of a c) ok = (expr_sound (last_of a c) ok.0, (ok.1.0, (expr_typed (last_of a c) ok.1.0 ok.1.1.0, lefts_have ys ok.1.0 ok.1.1.1)))
  right_sound ys (one a o b) ok = (expr_sound (one a o b) ok.0, (ok.1.0, (expr_typed (one a o b) ok.1.0 ok.1.1.0, lefts_have ys ok.1.0 ok.1.1.1)))
  right_sound ys (two a o b c) ok = (expr_sound (two a o b c) ok.0, (ok.1.0, (expr_typed (two a o b c) ok.1.0 ok.1.1.0, lefts_have ys ok.1.0 ok.1.1.1)))
  right_sound ys (choose a b c d) ok = (expr_sound (choose a b c d) ok.0, (ok.1.0, (expr_typed (choose a b c d) ok.1.0 ok.1.1.0, lefts_have ys ok.1.0 ok.1.1.1)))
  right_sound ys (pre a b) ok = (expr_sound (pre a b) ok.0, (ok.1.0, (expr_typed (pre a b) ok.1.0 ok.1.1.0, lefts_have ys ok.1.0 ok.1.1.1)))
  right_sound ys (fby a b c) ok = (expr_sound (fby a b c) ok.0, (ok.1.0, (expr_typed (fby a b c) ok.1.0 ok.1.1.0, lefts_have ys ok.1.0 ok.1.1.1)))
  right_sound ys (arrow a b c) ok = (expr_sound (arrow a b c) ok.0, (ok.1.0, (expr_typed (arrow a b c) ok.1.0 ok.1.1.0, lefts_have ys ok.1.0 ok.1.1.1)))
  right_sound ys (when_is a b c x) ok = (expr_sound (when_is a b c x) ok.0, (ok.1.0, (expr_typed (when_is a b c x) ok.1.0 ok.1.1.0, lefts_have ys ok.1.0 ok.1.1.1)))
  right_sound ys (merge a x ps) ok = (expr_sound (merge a x ps) ok.0, (ok.1.0, (expr_typed (merge a x ps) ok.1.0 ok.1.1.0, lefts_have ys ok.1.0 ok.1.1.1)))
