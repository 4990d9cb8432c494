-- What is found first, claim by claim.
use Rattle.std.proofs.Common.{◌≡◌, ℕ, ◌+◌, ◌<◌, ◌≤◌, get_or, length, drop, List, [], ◌∷◌, ◌++◌, fold, Option, None, Some, refl, sym, ap, ◌∙◌}
use Rattle.std.proofs.lemmas.List.{append_assoc, drop_all}
use Rattle.std.proofs.lemmas.Grind.{fold-append}
use Rattle.std.proofs.Math.Seq.{drop-cons}
use Rattle.std.proofs.Math.Numerals.{add-one}
use Rattle.hp_base.specs.declared.span.Span.{Span}
use Rattle.hp_tree.specs.declared.decl.Cons.{Cons}
use Rattle.hp_base.specs.declared.ty.Const.{Const}
use Rattle.hp_tree.specs.Expressions.{Expr, exprs_of, parts_of}
use Rattle.hp_tree.specs.Blocks.{Decl}
use Rattle.hp_names.specs.Names.{with_name, declared_names}
use Rattle.hp_names.specs.Scopes.{Scope, with_variable, with_variables}
use Rattle.hp_base.specs.First.First.{sooner}
use Rattle.hp_names.specs.Breaches.{Breach, place_of, breach_in, breaches, found_after}
use Rattle.hp_names.specs.Claims.{Claim, uses, declares, new_names, in_cons, in_expr, in_exprs, in_parts, in_path, in_decl, in_decls}

-- an element of a list, and what is behind it
pub drop-next : {A : Type 0} (xs : List A) (i : ℕ) (x : A) → i < length xs → x ≡ get_or xs i x → drop i xs ≡ x ∷ drop (i + 1) xs
drop-next xs i x h p = drop-cons xs i x h ∙ rw (add-one, ← p)

pub drop-end : {A : Type 0} (xs : List A) (i : ℕ) → length xs ≤ i → drop i xs ≡ []
drop-end xs i h = drop_all i xs h

pub breaches-append : (cs ds : List Claim) → breaches (cs ++ ds) ≡ breaches cs ++ breaches ds
breaches-append [] ds = refl
breaches-append (c ∷ cs) ds = ap (λ bs. breach_in c ++ bs) (breaches-append cs ds) ∙ sym (append_assoc (breach_in c) (breaches cs) (breaches ds))

module _ (found : Option Breach) where
  pub found_after-nil : found_after found [] ≡ found
  unfolding found_after
  found_after-nil = refl

  pub found_after-append : (cs ds : List Claim) → found_after found (cs ++ ds) ≡ found_after (found_after found cs) ds
  unfolding found_after
  found_after-append cs ds = ap (fold (sooner place_of) found) (breaches-append cs ds) ∙ fold-append (sooner place_of) found (breaches cs) (breaches ds)

  pub found_after-cons : (c : Claim) (ds : List Claim) → found_after found (c ∷ ds) ≡ found_after (found_after found (c ∷ [])) ds
  found_after-cons c ds = found_after-append (c ∷ []) ds

module _ (found : Option Breach) where
  -- one more element of a list
  module _ (s : Scope) where
    pub found_after-exprs : (es : List Expr) (i : ℕ) (e : Expr) → i < length es → e ≡ get_or es i e
        → found_after found (in_exprs s (exprs_of (drop i es))) ≡ found_after (found_after found (in_expr s e)) (in_exprs s (exprs_of (drop (i + 1) es)))
    found_after-exprs es i e h p =
        let rest = in_exprs s (exprs_of (drop (i + 1) es)) in
        ap (λ more. found_after found (in_exprs s (exprs_of more))) (drop-next es i e h p) ∙ found_after-append found (in_expr s e) rest

    pub found_after-parts : (at : Span) (ps : List (Cons × Expr)) (i : ℕ) (p : Cons × Expr) → i < length ps → p ≡ get_or ps i p
        → found_after found (in_parts s at (parts_of (drop i ps))) ≡ found_after (found_after (found_after found (in_cons s at p.0)) (in_expr s p.1)) (in_parts s at (parts_of (drop (i + 1) ps)))
    found_after-parts at ps i p h q =
        let rest = in_parts s at (parts_of (drop (i + 1) ps)) in
        ap (λ more. found_after found (in_parts s at (parts_of more))) (drop-next ps i p h q)
        ∙ found_after-append found (in_cons s at p.0) (in_expr s p.1 ++ rest)
        ∙ found_after-append (found_after found (in_cons s at p.0)) (in_expr s p.1) rest

    pub found_after-path : (at : Span) (steps : List (Cons × List ℕ)) (i : ℕ) (p : Cons × List ℕ) → i < length steps → p ≡ get_or steps i p
        → found_after found (in_path s at (drop i steps)) ≡ found_after (found_after (found_after found (in_cons s at p.0)) (uses s.variables p.1 at ∷ [])) (in_path s at (drop (i + 1) steps))
    found_after-path at steps i p h q =
        let rest = in_path s at (drop (i + 1) steps) in
        ap (λ more. found_after found (in_path s at more)) (drop-next steps i p h q)
        ∙ found_after-append found (in_cons s at p.0) (uses s.variables p.1 at ∷ rest)
        ∙ found_after-append (found_after found (in_cons s at p.0)) (uses s.variables p.1 at ∷ []) rest

    pub found_after-decls : (ds : List Decl) (i : ℕ) (d : Decl) → i < length ds → d ≡ get_or ds i d
        → found_after found (in_decls s (drop i ds)) ≡ found_after (found_after found (in_decl s d)) (in_decls s (drop (i + 1) ds))
    found_after-decls ds i d h p =
        let rest = in_decls s (drop (i + 1) ds) in
        ap (λ more. found_after found (in_decls s more)) (drop-next ds i d h p) ∙ found_after-append found (in_decl s d) rest

  -- and one more name that is declared
  pub found_after-new : (names : List (List ℕ)) (ds : List Decl) (i : ℕ) (d : Decl) → i < length ds → d ≡ get_or ds i d
      → found_after found (new_names names (declared_names (drop i ds)))
      ≡ found_after (found_after found (declares names d.name d.span ∷ [])) (new_names (with_name names d.name) (declared_names (drop (i + 1) ds)))
  found_after-new names ds i d h p =
      let rest = new_names (with_name names d.name) (declared_names (drop (i + 1) ds)) in
      ap (λ more. found_after found (new_names names (declared_names more))) (drop-next ds i d h p)
      ∙ found_after-append found (declares names d.name d.span ∷ []) rest

-- a declaration puts its name in scope, whether it has a first value or not
pub variables-with_variable : (s : Scope) (d : Decl) (first : Option Const) → (with_variable s d first).variables ≡ with_name s.variables d.name
variables-with_variable s d None = refl
variables-with_variable s d (Some first) = refl

pub with_variables-next : (s : Scope) (ds : List Decl) (i : ℕ) (d : Decl) → i < length ds → d ≡ get_or ds i d
    → with_variables s (drop i ds) ≡ with_variables (with_variable s d d.last) (drop (i + 1) ds)
with_variables-next s ds i d h p = ap (with_variables s) (drop-next ds i d h p)
