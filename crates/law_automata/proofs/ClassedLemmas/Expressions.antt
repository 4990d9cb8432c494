-- Expressions in which names stand for names: they are First, and so is what they want, where it was so before.
use Rattle.std.proofs.Common.{ℕ, Bool, true, false, not, ◌&&◌, ◌||◌, List, [], ◌∷◌, refl}
use Rattle.std.specs.Prelude.{⊤, IsTrue, IsFalse, Option, None, Some, option_map}
use Rattle.hp_tree.specs.declared.decl.Cons.{Cons}
use Rattle.hp_tree.specs.declared.block.Trans.{Trans}
use Rattle.hp_tree.specs.Expressions.{Expr, constant, variable, last_of, one, two, choose, pre, fby, arrow, when_is, merge, call, Exprs, no_expr, more_exprs, Parts, no_part, more_parts}
use Rattle.hp_tree.specs.Blocks.{Decl, Eqns, States}
use Rattle.hp_init.specs.Classes.{Classes, is_second}
use Rattle.hp_init.specs.Wants.{is_met, are_first, parts_first, is_first, path_first}
use Rattle.hp_automata.specs.Renaming.{renamed, renamed_exprs, renamed_parts, renamed_path, renamed_decls}
use Rattle.law_automata.specs.Lowered.OldNames.{IsOld, OldPath, OldExpr, OldExprs, OldParts}
use Rattle.law_automata.specs.Lowered.Removable.{Known, OldClock, DeclsOk, TransitionsOk}
use Rattle.law_automata.proofs.LoweredLemmas.Tests.{or_none, or_first, or_second, and_first, and_second, and_both, not_true}
use Rattle.law_automata.specs.Classed.Good.{ClockFirst, ClocksFirst, TestsFirst}

-- what is First stays so
pub still_first : (a b : Bool) → (IsFalse a → IsFalse b) → IsTrue (not a) → IsTrue (not b)
still_first a true f h = absurd (cc (f (not_true a h)))
still_first a false f h = refl

module _ (to : List ℕ → List ℕ) (s t : Classes) (lower : (x : List ℕ) → IsOld x → IsFalse (s x) → IsFalse (t (to x))) where
  pub second_kept : (e : Expr) → OldExpr e → IsFalse (is_second s e) → IsFalse (is_second t (renamed to e))
  second_kept (constant a c) o h = refl
  second_kept (variable a x) o h = lower x o h
  second_kept (last_of a x) o h = refl
  second_kept (one a p b) o h = second_kept b o h
  second_kept (two a p b c) o h =
      or_none (is_second t (renamed to b)) (is_second t (renamed to c)) (second_kept b o.0 (or_first (is_second s b) (is_second s c) h)) (second_kept c o.1 (or_second (is_second s b) (is_second s c) h))
  second_kept (choose a b c d) o h =
      let r = or_second (is_second s b) (is_second s c || is_second s d) h in
      or_none (is_second t (renamed to b)) (is_second t (renamed to c) || is_second t (renamed to d)) (second_kept b o.0 (or_first (is_second s b) (is_second s c || is_second s d) h))
      (or_none (is_second t (renamed to c)) (is_second t (renamed to d)) (second_kept c o.1 (or_first (is_second s c) (is_second s d) r)) (second_kept d o.2 (or_second (is_second s c) (is_second s d) r)))
  second_kept (pre a b) o h = absurd cc
  second_kept (fby a b c) o h = second_kept b o.0 h
  second_kept (arrow a b c) o h = second_kept b o.0 h
  second_kept (when_is a b c x) o h = second_kept b o.1 h
  second_kept (merge a x ps) o h = refl
  second_kept (call a f i es) o h = refl

  -- what is wanted stays First, where a part is
  also_first : (e : Expr) → OldExpr e → IsTrue (is_met t (renamed to e)) → IsTrue (not (is_second s e)) → IsTrue (is_met t (renamed to e) && not (is_second t (renamed to e)))
  also_first e o m h = and_both (is_met t (renamed to e)) (not (is_second t (renamed to e))) m (still_first (is_second s e) (is_second t (renamed to e)) (second_kept e o) h)

  mutual
    pub met_kept : (e : Expr) → OldExpr e → IsTrue (is_met s e) → IsTrue (is_met t (renamed to e))
    met_kept (constant a c) o h = refl
    met_kept (variable a x) o h = refl
    met_kept (last_of a x) o h = refl
    met_kept (one a p b) o h = met_kept b o h
    met_kept (two a p b c) o h =
        and_both (is_met t (renamed to b)) (is_met t (renamed to c)) (met_kept b o.0 (and_first (is_met s b) (is_met s c) h)) (met_kept c o.1 (and_second (is_met s b) (is_met s c) h))
    met_kept (choose a b c d) o h =
        let r = and_second (is_met s b) (is_met s c && is_met s d) h in
        and_both (is_met t (renamed to b)) (is_met t (renamed to c) && is_met t (renamed to d)) (met_kept b o.0 (and_first (is_met s b) (is_met s c && is_met s d) h))
        (and_both (is_met t (renamed to c)) (is_met t (renamed to d)) (met_kept c o.1 (and_first (is_met s c) (is_met s d) r)) (met_kept d o.2 (and_second (is_met s c) (is_met s d) r)))
    met_kept (pre a b) o h = also_first b o (met_kept b o (and_first (is_met s b) (not (is_second s b)) h)) (and_second (is_met s b) (not (is_second s b)) h)
    met_kept (fby a b c) o h =
        let r = and_second (is_met s b) (is_met s c && not (is_second s c)) h in
        and_both (is_met t (renamed to b)) (is_met t (renamed to c) && not (is_second t (renamed to c))) (met_kept b o.0 (and_first (is_met s b) (is_met s c && not (is_second s c)) h))
        (also_first c o.1 (met_kept c o.1 (and_first (is_met s c) (not (is_second s c)) r)) (and_second (is_met s c) (not (is_second s c)) r))
    met_kept (arrow a b c) o h =
        and_both (is_met t (renamed to b)) (is_met t (renamed to c)) (met_kept b o.0 (and_first (is_met s b) (is_met s c) h)) (met_kept c o.1 (and_second (is_met s b) (is_met s c) h))
    met_kept (when_is a b c x) o h =
        and_both (is_met t (renamed to b)) (not (t (to x))) (met_kept b o.1 (and_first (is_met s b) (not (s x)) h)) (still_first (s x) (t (to x)) (lower x o.0) (and_second (is_met s b) (not (s x)) h))
    met_kept (merge a x ps) o h =
        and_both (not (t (to x))) (parts_first t (renamed_parts to ps)) (still_first (s x) (t (to x)) (lower x o.0) (and_first (not (s x)) (parts_first s ps) h)) (parts_kept ps o.1 (and_second (not (s x)) (parts_first s ps) h))
    met_kept (call a f i es) o h = all_kept es o h

    all_kept : (es : Exprs) → OldExprs es → IsTrue (are_first s es) → IsTrue (are_first t (renamed_exprs to es))
    all_kept no_expr o h = refl
    all_kept (more_exprs e es) o h =
        let r = and_first (is_met s e && not (is_second s e)) (are_first s es) h in
        and_both (is_met t (renamed to e) && not (is_second t (renamed to e))) (are_first t (renamed_exprs to es))
        (also_first e o.0 (met_kept e o.0 (and_first (is_met s e) (not (is_second s e)) r)) (and_second (is_met s e) (not (is_second s e)) r)) (all_kept es o.1 (and_second (is_met s e && not (is_second s e)) (are_first s es) h))

    parts_kept : (ps : Parts) → OldParts ps → IsTrue (parts_first s ps) → IsTrue (parts_first t (renamed_parts to ps))
    parts_kept no_part o h = refl
    parts_kept (more_parts c e ps) o h =
        let r = and_first (is_met s e && not (is_second s e)) (parts_first s ps) h in
        and_both (is_met t (renamed to e) && not (is_second t (renamed to e))) (parts_first t (renamed_parts to ps))
        (also_first e o.0 (met_kept e o.0 (and_first (is_met s e) (not (is_second s e)) r)) (and_second (is_met s e) (not (is_second s e)) r)) (parts_kept ps o.1 (and_second (is_met s e && not (is_second s e)) (parts_first s ps) h))

  pub test_kept : (e : Expr) → OldExpr e → IsTrue (is_first s e) → IsTrue (is_first t (renamed to e))
  test_kept e o h = also_first e o (met_kept e o (and_first (is_met s e) (not (is_second s e)) h)) (and_second (is_met s e) (not (is_second s e)) h)

  -- clocks of declarations
  path_kept : (path : List (Cons × List ℕ)) → OldPath path → IsTrue (path_first s path) → IsTrue (path_first t (renamed_path to path))
  path_kept [] o h = refl
  path_kept (on ∷ path) o h =
      and_both (not (t (to on.1))) (path_first t (renamed_path to path)) (still_first (s on.1) (t (to on.1)) (lower on.1 o.0) (and_first (not (s on.1)) (path_first s path) h)) (path_kept path o.1 (and_second (not (s on.1)) (path_first s path) h))

  clock_kept : (o : Option (List (Cons × List ℕ))) → OldClock o → ClockFirst s o → ClockFirst t (option_map (renamed_path to) o)
  clock_kept None o h = tt
  clock_kept (Some path) o h = path_kept path o h

  pub clocks_kept : (outer : Known) (es : Eqns) (ds : List Decl) → DeclsOk outer es ds → ClocksFirst s ds → ClocksFirst t (renamed_decls to ds)
  clocks_kept outer es [] o h = tt
  clocks_kept outer es (d ∷ ds) o h = (clock_kept d.clock o.0.3 h.0, clocks_kept outer es ds o.1 h.1)

-- conditions under other names
abbrev pub TestsGive : Classes → (List ℕ → List ℕ) → List Trans → Type 0
TestsGive t to [] = ⊤
TestsGive t to (c ∷ ts) = IsTrue (is_first t (renamed to c.cond)) × TestsGive t to ts

pub tests_kept : (to : List ℕ → List ℕ) (s t : Classes) → ((x : List ℕ) → IsOld x → IsFalse (s x) → IsFalse (t (to x))) → (all : States) (ts : List Trans) → TransitionsOk all ts → TestsFirst s ts → TestsGive t to ts
tests_kept to s t lower all [] o h = tt
tests_kept to s t lower all (c ∷ ts) o h = (test_kept to s t lower c.cond o.0.0 h.0, tests_kept to s t lower all ts o.1 h.1)
