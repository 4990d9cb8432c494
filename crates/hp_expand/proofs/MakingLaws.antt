-- What is made of a block, one thing after the other.
use Rattle.std.proofs.Common.{◌≡◌, ℕ, zero, suc, ◌+◌, ◌<◌, ◌≤◌, min, get_or, length, drop, map, List, [], ◌∷◌, ◌++◌, refl, sym, ap, ◌∙◌, arith}
use Rattle.std.proofs.lemmas.List.{append_assoc, append-nil, map-append}
use Rattle.hp_base.specs.declared.span.Span.{Span}
use Rattle.hp_tree.specs.declared.decl.Cons.{Cons}
use Rattle.hp_tree.specs.declared.block.Eqn as code_eqn
use Rattle.hp_tree.specs.BlockView.{eqn_seen}
use Rattle.hp_tree.specs.Expressions.{Expr, variable, Exprs, no_expr, more_exprs, Parts, no_part, more_parts, exprs_of, parts_of}
use Rattle.hp_tree.specs.Blocks.{Decl, Eqn, Eqns, define, eqns_of, list_of_eqns}
use Rattle.hp_tree.specs.Programs.{Node}
use Rattle.hp_expand.specs.Renaming.{renamed_decl, renamed_decls, renamed_eqns, renamed_eqn}
use Rattle.hp_expand.specs.Replacing.{beside, given, defined_by, in_expr, in_exprs, in_parts}
use Rattle.hp_expand.specs.Making.{with_more, exprs_onto, parts_onto}
use Rattle.hp_expand.proofs.SizeLaws.{drop-next, drop-end}
use Rattle.hp_expand.proofs.RenamingLaws.{map-one}

module _ {A : Type 0} (before : List A) where
  pub more-nil : with_more before [] ≡ before
  unfolding with_more
  more-nil = append-nil before

  pub more-append : (xs ys : List A) → with_more before (xs ++ ys) ≡ with_more (with_more before xs) ys
  unfolding with_more
  more-append xs ys = sym (append_assoc before xs ys)

pub more-is : {A : Type 0} (xs ys : List A) → with_more xs ys ≡ xs ++ ys
unfolding with_more
more-is xs ys = refl

pub more-from_nil : {A : Type 0} (xs : List A) → with_more [] xs ≡ xs
unfolding with_more
more-from_nil xs = refl

pub seen-pushed : (es : List code_eqn.Eqn) (e : code_eqn.Eqn) → map eqn_seen (es ++ e ∷ []) ≡ with_more (map eqn_seen es) (eqn_seen e ∷ [])
unfolding with_more
seen-pushed es e = map-one eqn_seen es e

-- one more element
pub more-on : {A : Type 0} (now after own rest from all : List A) → after ≡ with_more now own → from ≡ own ++ rest → with_more now from ≡ all → with_more after rest ≡ all
more-on now after own rest from all step parts known = ap (λ made. with_more made rest) step ∙ sym (more-append now own rest) ∙ sym (ap (with_more now) parts) ∙ known

-- ---- equations of single names

given_none : (ds : List Decl) → given ds no_expr ≡ []
given_none [] = refl
given_none (d ∷ ds) = refl

module _ (to : List ℕ → List ℕ) where
  given_end : (ds : List Decl) (es : List Expr) (i : ℕ) → min (length ds) (length es) ≤ i → given (renamed_decls to (drop i ds)) (exprs_of (drop i es)) ≡ []
  given_end [] es i h = ap (λ more. given (renamed_decls to more) (exprs_of (drop i es))) (drop-end [] i (omega arith))
  given_end (d ∷ ds) [] i h = ap (λ more. given (renamed_decls to (drop i (d ∷ ds))) (exprs_of more)) (drop-end [] i (omega arith)) ∙ given_none (renamed_decls to (drop i (d ∷ ds)))
  given_end (d ∷ ds) (e ∷ es) zero h = absurd (omega arith)
  given_end (d ∷ ds) (e ∷ es) (suc i) h = given_end ds es i (omega arith)

  module _ (before : List Eqn) (ds : List Decl) (es : List Expr) (i : ℕ) where
    pub given-end : min (length ds) (length es) ≤ i → with_more before (given (renamed_decls to (drop i ds)) (exprs_of (drop i es))) ≡ before
    given-end h = ap (with_more before) (given_end ds es i h) ∙ more-nil before

    pub given-next : (d : Decl) (e : Expr) → i < length ds → d ≡ get_or ds i d → i < length es → e ≡ get_or es i e
        → with_more before (given (renamed_decls to (drop i ds)) (exprs_of (drop i es)))
        ≡ with_more (with_more before (define d.span ((to d.name, d.span) ∷ []) e ∷ [])) (given (renamed_decls to (drop (i + 1) ds)) (exprs_of (drop (i + 1) es)))
    given-next d e h p k q =
        (λ j. with_more before (given (renamed_decls to (drop-next ds i d h p j)) (exprs_of (drop-next es i e k q j))))
        ∙ more-append before (define d.span ((to d.name, d.span) ∷ []) e ∷ []) (given (renamed_decls to (drop (i + 1) ds)) (exprs_of (drop (i + 1) es)))

module _ (s : Span) (at : Span) where
  defined_none : (xs : List (List ℕ × Span)) → defined_by s xs at [] ≡ []
  defined_none [] = refl
  defined_none (x ∷ xs) = refl

  defined_end : (xs : List (List ℕ × Span)) (ys : List (List ℕ)) (i : ℕ) → min (length xs) (length ys) ≤ i → defined_by s (drop i xs) at (drop i ys) ≡ []
  defined_end [] ys i h = ap (λ more. defined_by s more at (drop i ys)) (drop-end [] i (omega arith))
  defined_end (x ∷ xs) [] i h = ap (λ more. defined_by s (drop i (x ∷ xs)) at more) (drop-end [] i (omega arith)) ∙ defined_none (drop i (x ∷ xs))
  defined_end (x ∷ xs) (y ∷ ys) zero h = absurd (omega arith)
  defined_end (x ∷ xs) (y ∷ ys) (suc i) h = defined_end xs ys i (omega arith)

  module _ (before : List Eqn) (xs : List (List ℕ × Span)) (ys : List (List ℕ)) (i : ℕ) where
    pub defined-end : min (length xs) (length ys) ≤ i → with_more before (defined_by s (drop i xs) at (drop i ys)) ≡ before
    defined-end h = ap (with_more before) (defined_end xs ys i h) ∙ more-nil before

    pub defined-next : (x : List ℕ × Span) (y : List ℕ) → i < length xs → x ≡ get_or xs i x → i < length ys → y ≡ get_or ys i y
        → with_more before (defined_by s (drop i xs) at (drop i ys))
        ≡ with_more (with_more before (define s (x ∷ []) (variable at y) ∷ [])) (defined_by s (drop (i + 1) xs) at (drop (i + 1) ys))
    defined-next x y h p k q =
        (λ j. with_more before (defined_by s (drop-next xs i x h p j) at (drop-next ys i y k q j)))
        ∙ more-append before (define s (x ∷ []) (variable at y) ∷ []) (defined_by s (drop (i + 1) xs) at (drop (i + 1) ys))

-- ---- element by element

exprs_onto-one : (xs : List Expr) (x : Expr) (rest : Exprs) → exprs_onto (xs ++ x ∷ []) rest ≡ exprs_onto xs (more_exprs x rest)
exprs_onto-one [] x rest = refl
exprs_onto-one (y ∷ xs) x rest = ap (more_exprs y) (exprs_onto-one xs x rest)

parts_onto-one : (xs : List (Cons × Expr)) (x : Cons × Expr) (rest : Parts) → parts_onto (xs ++ x ∷ []) rest ≡ parts_onto xs (more_parts x.0 x.1 rest)
parts_onto-one [] x rest = refl
parts_onto-one (y ∷ xs) x rest = ap (more_parts y.0 y.1) (parts_onto-one xs x rest)

exprs_onto-none : (xs : List Expr) → exprs_onto xs no_expr ≡ exprs_of xs
exprs_onto-none [] = refl
exprs_onto-none (x ∷ xs) = ap (more_exprs x) (exprs_onto-none xs)

parts_onto-none : (xs : List (Cons × Expr)) → parts_onto xs no_part ≡ parts_of xs
parts_onto-none [] = refl
parts_onto-none (x ∷ xs) = ap (more_parts x.0 x.1) (parts_onto-none xs)

module _ (nodes : List ℕ → Node) (k : ℕ) where
  pub exprs-from : (es : List Expr) (i : ℕ) (e : Expr) → i < length es → e ≡ get_or es i e
      → in_exprs nodes k (exprs_of (drop i es)) ≡ beside more_exprs (in_expr nodes k e) (in_exprs nodes (in_expr nodes k e).next (exprs_of (drop (i + 1) es)))
  exprs-from es i e h p = ap (λ more. in_exprs nodes k (exprs_of more)) (drop-next es i e h p)

  pub parts-from : (ps : List (Cons × Expr)) (i : ℕ) (p : Cons × Expr) → i < length ps → p ≡ get_or ps i p
      → in_parts nodes k (parts_of (drop i ps)) ≡ beside (more_parts p.0) (in_expr nodes k p.1) (in_parts nodes (in_expr nodes k p.1).next (parts_of (drop (i + 1) ps)))
  parts-from ps i p h q = ap (λ more. in_parts nodes k (parts_of more)) (drop-next ps i p h q)

pub exprs-placed : (made after : List Expr) (e x : Expr) (rest from all : Exprs) → after ≡ made ++ e ∷ [] → e ≡ x → from ≡ more_exprs x rest → exprs_onto made from ≡ all → exprs_onto after rest ≡ all
exprs-placed made after e x rest from all push is parts known =
    ap (λ xs. exprs_onto xs rest) push ∙ exprs_onto-one made e rest ∙ ap (λ y. exprs_onto made (more_exprs y rest)) is ∙ sym (ap (exprs_onto made) parts) ∙ known

pub parts-placed : (made after : List (Cons × Expr)) (c : Cons) (e x : Expr) (rest from all : Parts) → after ≡ made ++ (c, e) ∷ [] → e ≡ x → from ≡ more_parts c x rest → parts_onto made from ≡ all → parts_onto after rest ≡ all
parts-placed made after c e x rest from all push is parts known =
    ap (λ xs. parts_onto xs rest) push ∙ parts_onto-one made (c, e) rest ∙ ap (λ y. parts_onto made (more_parts c y rest)) is ∙ sym (ap (parts_onto made) parts) ∙ known

-- at the end
module _ (nodes : List ℕ → Node) (k : ℕ) where
  pub exprs-finished : (made es : List Expr) (i : ℕ) → length es ≤ i → exprs_onto made (in_exprs nodes k (exprs_of (drop i es))).part ≡ exprs_of made
  exprs-finished made es i h = ap (λ more. exprs_onto made (in_exprs nodes k (exprs_of more)).part) (drop-end es i h) ∙ exprs_onto-none made

  pub parts-finished : (made ps : List (Cons × Expr)) (i : ℕ) → length ps ≤ i → parts_onto made (in_parts nodes k (parts_of (drop i ps))).part ≡ parts_of made
  parts-finished made ps i h = ap (λ more. parts_onto made (in_parts nodes k (parts_of more)).part) (drop-end ps i h) ∙ parts_onto-none made

-- ---- what replaces an inlined call

module _ (to : List ℕ → List ℕ) where
  listed-renamed : (es : List code_eqn.Eqn) → list_of_eqns (renamed_eqns to (eqns_of (map eqn_seen es))) ≡ map (λ e. renamed_eqn to (eqn_seen e)) es
  listed-renamed [] = refl
  listed-renamed (e ∷ es) = ap (λ rest. renamed_eqn to (eqn_seen e) ∷ rest) (listed-renamed es)

  pub inlined-locals : (before first second third inputs outputs locals : List Decl) → first ≡ before ++ map (renamed_decl to) inputs → second ≡ first ++ map (renamed_decl to) outputs
      → third ≡ second ++ map (renamed_decl to) locals → third ≡ with_more before (renamed_decls to (inputs ++ (outputs ++ locals)))
  unfolding with_more
  inlined-locals before first second third inputs outputs locals a b c =
      let i = map (renamed_decl to) inputs in
      let o = map (renamed_decl to) outputs in
      let l = map (renamed_decl to) locals in
      c ∙ ap (λ ds. ds ++ l) (b ∙ ap (λ ds. ds ++ o) a)
      ∙ append_assoc (before ++ i) o l
      ∙ append_assoc before i (o ++ l)
      ∙ sym (ap (λ ds. before ++ ds) (map-append (renamed_decl to) inputs (outputs ++ locals) ∙ ap (λ ds. i ++ ds) (map-append (renamed_decl to) outputs locals)))

  pub inlined-eqns : (before first second made : List Eqn) (es : List code_eqn.Eqn) (body : Eqns) → first ≡ with_more before made → second ≡ first ++ map (λ e. renamed_eqn to (eqn_seen e)) es
      → eqns_of (map eqn_seen es) ≡ body → second ≡ with_more before (made ++ list_of_eqns (renamed_eqns to body))
  unfolding with_more
  inlined-eqns before first second made es body a b same =
      let more = map (λ e. renamed_eqn to (eqn_seen e)) es in
      b ∙ ap (λ xs. xs ++ more) a ∙ append_assoc before made more
      ∙ ap (λ xs. before ++ (made ++ xs)) (sym (listed-renamed es) ∙ ap (λ b. list_of_eqns (renamed_eqns to b)) same)
