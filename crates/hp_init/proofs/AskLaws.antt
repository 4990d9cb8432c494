-- What is gathered, one thing after the other.
use Rattle.std.proofs.Common.{◌≡◌, ℕ, ◌+◌, ◌<◌, get_or, length, drop, map, List, [], ◌∷◌, ◌++◌, Option, None, Some, refl, sym, ap, ◌∙◌}
use Rattle.std.proofs.lemmas.List.{append_assoc, append-nil}
use Rattle.hp_names.proofs.FoundLaws.{drop-next}
use Rattle.hp_base.specs.declared.span.Span.{Span}
use Rattle.hp_tree.specs.declared.decl.Cons.{Cons}
use Rattle.hp_tree.specs.declared.block.Trans.{Trans}
use Rattle.hp_tree.specs.Expressions.{Expr, exprs_of, parts_of}
use Rattle.hp_tree.specs.Blocks.{Decl}
use Rattle.hp_init.specs.declared.ask.Source.{Source}
use Rattle.hp_init.specs.declared.ask.Ask.{Ask}
use Rattle.hp_init.specs.declared.ask.Ask.TheVariants.{Follows}
use Rattle.hp_init.specs.Asks.{Sight, targets_of, to_want, tell_name, of_expr, of_exprs, of_parts, of_test, of_tests, of_path, of_clock, of_decls}
use Rattle.hp_init.specs.Goals.{with_more, number_in, target_of}

module _ {A : Type 0} (before : List A) where
  pub more-nil : with_more before [] ≡ before
  unfolding with_more
  more-nil = append-nil before

  pub more-one : (a : A) → before ++ a ∷ [] ≡ with_more before (a ∷ [])
  unfolding with_more
  more-one a = refl

  pub more-append : (xs ys : List A) → with_more before (xs ++ ys) ≡ with_more (with_more before xs) ys
  unfolding with_more
  more-append xs ys = sym (append_assoc before xs ys)

pub more-is : {A : Type 0} (xs ys : List A) → with_more xs ys ≡ xs ++ ys
unfolding with_more
more-is xs ys = refl

pub more-from_nil : {A : Type 0} (xs : List A) → with_more [] xs ≡ xs
unfolding with_more
more-from_nil xs = refl

target_first : (see : Sight) (y : List ℕ × Span) (ys : List (List ℕ × Span)) (o : Option ℕ) → see y.0 ≡ o → targets_of see (y ∷ ys) ≡ target_of see y.0 ++ targets_of see ys
target_first see y ys None e = ap (λ p. elim p as (λ _. List ℕ) [ None ↦ targets_of see ys | Some k ↦ k ∷ targets_of see ys ]) e ∙ sym (ap (λ p. number_in p ++ targets_of see ys) e)
target_first see y ys (Some k) e = ap (λ p. elim p as (λ _. List ℕ) [ None ↦ targets_of see ys | Some j ↦ j ∷ targets_of see ys ]) e ∙ sym (ap (λ p. number_in p ++ targets_of see ys) e)

pub targets-next : (before : List ℕ) (see : Sight) (ys : List (List ℕ × Span)) (i : ℕ) (y : List ℕ × Span) → i < length ys → y ≡ get_or ys i y
    → with_more before (targets_of see (drop i ys)) ≡ with_more (with_more before (target_of see y.0)) (targets_of see (drop (i + 1) ys))
targets-next before see ys i y h p =
    ap (λ more. with_more before (targets_of see more)) (drop-next ys i y h p)
    ∙ ap (with_more before) (target_first see y (drop (i + 1) ys) (see y.0) refl)
    ∙ more-append before (target_of see y.0) (targets_of see (drop (i + 1) ys))

module _ (before : List Ask) where
  pub asked-targets : (source : Source) (ts : List ℕ) (i : ℕ) (t : ℕ) → i < length ts → t ≡ get_or ts i t
      → with_more before (map (Follows source) (drop i ts)) ≡ with_more (before ++ Follows source t ∷ []) (map (Follows source) (drop (i + 1) ts))
  asked-targets source ts i t h p =
      ap (λ more. with_more before (map (Follows source) more)) (drop-next ts i t h p)
      ∙ more-append before (Follows source t ∷ []) (map (Follows source) (drop (i + 1) ts))
      ∙ ap (λ a. with_more a (map (Follows source) (drop (i + 1) ts))) (sym (more-one before (Follows source t)))

  module _ (see : Sight) where
    pub asked-exprs : (at : Span) (es : List Expr) (i : ℕ) (e : Expr) → i < length es → e ≡ get_or es i e
        → with_more before (of_exprs see at (exprs_of (drop i es))) ≡ with_more (with_more before (of_expr see at to_want e)) (of_exprs see at (exprs_of (drop (i + 1) es)))
    asked-exprs at es i e h p =
        ap (λ more. with_more before (of_exprs see at (exprs_of more))) (drop-next es i e h p) ∙ more-append before (of_expr see at to_want e) (of_exprs see at (exprs_of (drop (i + 1) es)))

    pub asked-parts : (at : Span) (ps : List (Cons × Expr)) (i : ℕ) (p : Cons × Expr) → i < length ps → p ≡ get_or ps i p
        → with_more before (of_parts see at (parts_of (drop i ps))) ≡ with_more (with_more before (of_expr see at to_want p.1)) (of_parts see at (parts_of (drop (i + 1) ps)))
    asked-parts at ps i p h q =
        ap (λ more. with_more before (of_parts see at (parts_of more))) (drop-next ps i p h q) ∙ more-append before (of_expr see at to_want p.1) (of_parts see at (parts_of (drop (i + 1) ps)))

    pub asked-path : (at : Span) (steps : List (Cons × List ℕ)) (i : ℕ) (s : Cons × List ℕ) → i < length steps → s ≡ get_or steps i s
        → with_more before (of_path see at (drop i steps)) ≡ with_more (with_more before (tell_name see at to_want s.1)) (of_path see at (drop (i + 1) steps))
    asked-path at steps i s h q =
        ap (λ more. with_more before (of_path see at more)) (drop-next steps i s h q) ∙ more-append before (tell_name see at to_want s.1) (of_path see at (drop (i + 1) steps))

    pub asked-decls : (ds : List Decl) (i : ℕ) (d : Decl) → i < length ds → d ≡ get_or ds i d
        → with_more before (of_decls see (drop i ds)) ≡ with_more (with_more before (of_clock see d.span d.clock)) (of_decls see (drop (i + 1) ds))
    asked-decls ds i d h p =
        ap (λ more. with_more before (of_decls see more)) (drop-next ds i d h p) ∙ more-append before (of_clock see d.span d.clock) (of_decls see (drop (i + 1) ds))

    pub asked-tests : (ts : List Trans) (i : ℕ) (t : Trans) → i < length ts → t ≡ get_or ts i t
        → with_more before (of_tests see (drop i ts)) ≡ with_more (with_more before (of_test see t.cond)) (of_tests see (drop (i + 1) ts))
    asked-tests ts i t h p =
        ap (λ more. with_more before (of_tests see more)) (drop-next ts i t h p) ∙ more-append before (of_test see t.cond) (of_tests see (drop (i + 1) ts))
