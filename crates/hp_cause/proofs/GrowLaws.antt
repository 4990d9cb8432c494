-- What is gathered, one thing after the other.
use Rattle.std.proofs.Common.{◌≡◌, ℕ, ◌+◌, ◌<◌, ◌≤◌, get_or, length, drop, Bool, List, [], ◌∷◌, ◌++◌, Bor, Option, Some, refl, sym, ap, ◌∙◌, arith}
use Rattle.std.proofs.lemmas.List.{append_assoc, append-nil, map-append, drop_all}
use Rattle.std.proofs.Math.Seq.{drop-cons}
use Rattle.std.proofs.Math.Numerals.{add-one}
use Rattle.hp_base.specs.declared.span.Span.{Span}
use Rattle.hp_tree.specs.declared.decl.Cons.{Cons}
use Rattle.hp_tree.specs.declared.block.Trans.{Trans}
use Rattle.hp_tree.specs.Expressions.{Expr, exprs_of, parts_of}
use Rattle.hp_tree.specs.Blocks.{Decl}
use Rattle.hp_tree.specs.Meaning.{names_of as declared_names}
use Rattle.hp_meaning.specs.declared.causal.point.PointKind.TheVariants as kind
use Rattle.hp_cause.specs.declared.fact.Fact as held
use Rattle.hp_cause.specs.Facts.{Fact, stand, read, depend, read_by_all}
use Rattle.hp_cause.specs.Told.{fact_seen, facts_seen, names_seen, with_more}
use Rattle.hp_cause.specs.Vertices.{calls_in, own_of_test, calls_in_all, calls_in_parts, size_of_tests}
use Rattle.hp_cause.specs.Gathering.{Sight, on_clock, of_expr, of_exprs, of_parts, of_test, of_tests, of_left, of_lefts, in_list, vertices_of, of_name_if, of_defined, of_links, of_controls}

-- an element of a list, and what is behind it
pub drop-next : {A : Type 0} (xs : List A) (i : ℕ) (x : A) → i < length xs → x ≡ get_or xs i x → drop i xs ≡ x ∷ drop (i + 1) xs
drop-next xs i x h p = drop-cons xs i x h ∙ rw (add-one, ← p)

pub drop-end : {A : Type 0} (xs : List A) (i : ℕ) → length xs ≤ i → drop i xs ≡ []
drop-end xs i h = drop_all i xs h

module _ {A : Type 0} (before : List A) where
  pub more-nil : with_more before [] ≡ before
  unfolding with_more
  more-nil = append-nil before

  pub more-one : (a : A) → before ++ a ∷ [] ≡ with_more before (a ∷ [])
  unfolding with_more
  more-one a = refl

  pub more-append : (xs ys : List A) → with_more before (xs ++ ys) ≡ with_more (with_more before xs) ys
  unfolding with_more
  more-append xs ys = sym (append_assoc before xs ys)

pub more-is : {A : Type 0} (xs ys : List A) → with_more xs ys ≡ xs ++ ys
unfolding with_more
more-is xs ys = refl

pub more-from_nil : {A : Type 0} (xs : List A) → with_more [] xs ≡ xs
unfolding with_more
more-from_nil xs = refl

pub facts-push : (xs : List held.Fact) (x : held.Fact) → facts_seen (xs ++ x ∷ []) ≡ with_more (facts_seen xs) (fact_seen x ∷ [])
facts-push xs x = map-append fact_seen xs (x ∷ []) ∙ more-one (facts_seen xs) (fact_seen x)

pub names-push : (xs : List (Bor (List ℕ))) (x : Bor (List ℕ)) → names_seen (xs ++ x ∷ []) ≡ with_more (names_seen xs) (x.now ∷ [])
names-push xs x = map-append (λ (y : Bor (List ℕ)). y.now) xs (x ∷ []) ∙ more-one (names_seen xs) x.now

-- ---- one more element of a list

module _ (before : List Fact) where
  pub next-reader : (vs : List ℕ) (i v : ℕ) (o : Option ℕ) → i < length vs → v ≡ get_or vs i v
      → with_more before (read_by_all (drop i vs) o) ≡ with_more (with_more before (read (Some v) o)) (read_by_all (drop (i + 1) vs) o)
  next-reader vs i v o h p = ap (λ more. with_more before (read_by_all more o)) (drop-next vs i v h p) ∙ more-append before (read (Some v) o) (read_by_all (drop (i + 1) vs) o)

  pub next-control : (k : ℕ) (ds : List Decl) (i : ℕ) (d : Decl) → i < length ds → d ≡ get_or ds i d
      → with_more before (of_controls k (drop i ds)) ≡ with_more (with_more before (stand kind.Def d.name d.span (Some k))) (of_controls (k + 1) (drop (i + 1) ds))
  next-control k ds i d h p = ap (λ more. with_more before (of_controls k more)) (drop-next ds i d h p) ∙ more-append before (stand kind.Def d.name d.span (Some k)) (of_controls (k + 1) (drop (i + 1) ds))

  module _ (see : Sight) where
    pub next-on_clock : (xs : List (Bor (List ℕ))) (i : ℕ) (x : Bor (List ℕ)) (v : Option ℕ) → i < length xs → x ≡ get_or xs i x
        → with_more before (on_clock see (names_seen (drop i xs)) v) ≡ with_more (with_more before (depend v (see x.now))) (on_clock see (names_seen (drop (i + 1) xs)) v)
    next-on_clock xs i x v h p =
        ap (λ more. with_more before (on_clock see (names_seen more) v)) (drop-next xs i x h p)
        ∙ more-append before (depend v (see x.now)) (on_clock see (names_seen (drop (i + 1) xs)) v)

    pub next-link : (own : Sight) (xs : List (Bor (List ℕ))) (i : ℕ) (x : Bor (List ℕ)) → i < length xs → x ≡ get_or xs i x
        → with_more before (of_links see own (names_seen (drop i xs))) ≡ with_more (with_more before (read (see x.now) (own x.now))) (of_links see own (names_seen (drop (i + 1) xs)))
    next-link own xs i x h p =
        ap (λ more. with_more before (of_links see own (names_seen more))) (drop-next xs i x h p)
        ∙ more-append before (read (see x.now) (own x.now)) (of_links see own (names_seen (drop (i + 1) xs)))

    module _ (control : Option ℕ) where
      pub next-defined : (v : Option ℕ) (at : Span) (defined : List ℕ → Bool) (xs : List (Bor (List ℕ))) (i : ℕ) (x : Bor (List ℕ)) → i < length xs → x ≡ get_or xs i x
          → with_more before (of_defined see control v at defined (names_seen (drop i xs)))
          ≡ with_more (with_more before (of_name_if see control v at defined x.now)) (of_defined see control v at defined (names_seen (drop (i + 1) xs)))
      next-defined v at defined xs i x h p =
          ap (λ more. with_more before (of_defined see control v at defined (names_seen more))) (drop-next xs i x h p)
          ∙ more-append before (of_name_if see control v at defined x.now) (of_defined see control v at defined (names_seen (drop (i + 1) xs)))

      pub next-left : (clock : List (List ℕ)) (ys : List (List ℕ × Span)) (i : ℕ) (y : List ℕ × Span) → i < length ys → y ≡ get_or ys i y
          → with_more before (of_lefts see control clock (drop i ys)) ≡ with_more (with_more before (of_left see control clock y.0 y.1)) (of_lefts see control clock (drop (i + 1) ys))
      next-left clock ys i y h p =
          ap (λ more. with_more before (of_lefts see control clock more)) (drop-next ys i y h p)
          ∙ more-append before (of_left see control clock y.0 y.1) (of_lefts see control clock (drop (i + 1) ys))

      pub next-test : (reader k : ℕ) (ts : List Trans) (i : ℕ) (t : Trans) → i < length ts → t ≡ get_or ts i t
          → with_more before (of_tests see control reader k (drop i ts))
          ≡ with_more (with_more before (of_test see control reader k t.cond)) (of_tests see control reader ((k + own_of_test t.cond) + calls_in t.cond) (drop (i + 1) ts))
      next-test reader k ts i t h p =
          ap (λ more. with_more before (of_tests see control reader k more)) (drop-next ts i t h p)
          ∙ more-append before (of_test see control reader k t.cond) (of_tests see control reader ((k + own_of_test t.cond) + calls_in t.cond) (drop (i + 1) ts))

      module _ (clock : List (List ℕ)) (readers : List ℕ) where
        pub next-arg : (k : ℕ) (es : List Expr) (i : ℕ) (e : Expr) → i < length es → e ≡ get_or es i e
            → with_more before (of_exprs see control clock readers k (exprs_of (drop i es)))
            ≡ with_more (with_more before (of_expr see control clock readers k e)) (of_exprs see control clock readers (k + calls_in e) (exprs_of (drop (i + 1) es)))
        next-arg k es i e h p =
            ap (λ more. with_more before (of_exprs see control clock readers k (exprs_of more))) (drop-next es i e h p)
            ∙ more-append before (of_expr see control clock readers k e) (of_exprs see control clock readers (k + calls_in e) (exprs_of (drop (i + 1) es)))

        pub next-part : (k : ℕ) (ps : List (Cons × Expr)) (i : ℕ) (p : Cons × Expr) → i < length ps → p ≡ get_or ps i p
            → with_more before (of_parts see control clock readers k (parts_of (drop i ps)))
            ≡ with_more (with_more before (of_expr see control clock readers k p.1)) (of_parts see control clock readers (k + calls_in p.1) (parts_of (drop (i + 1) ps)))
        next-part k ps i p h q =
            ap (λ more. with_more before (of_parts see control clock readers k (parts_of more))) (drop-next ps i p h q)
            ∙ more-append before (of_expr see control clock readers k p.1) (of_parts see control clock readers (k + calls_in p.1) (parts_of (drop (i + 1) ps)))

pub count-args : (es : List Expr) (i : ℕ) (e : Expr) → i < length es → e ≡ get_or es i e → calls_in_all (exprs_of (drop i es)) ≡ calls_in e + calls_in_all (exprs_of (drop (i + 1) es))
count-args es i e h p = ap (λ more. calls_in_all (exprs_of more)) (drop-next es i e h p)

pub count-parts : (ps : List (Cons × Expr)) (i : ℕ) (p : Cons × Expr) → i < length ps → p ≡ get_or ps i p → calls_in_parts (parts_of (drop i ps)) ≡ calls_in p.1 + calls_in_parts (parts_of (drop (i + 1) ps))
count-parts ps i p h q = ap (λ more. calls_in_parts (parts_of more)) (drop-next ps i p h q)

pub count-tests : (ts : List Trans) (i : ℕ) (t : Trans) → i < length ts → t ≡ get_or ts i t → size_of_tests (drop i ts) ≡ (own_of_test t.cond + calls_in t.cond) + size_of_tests (drop (i + 1) ts)
count-tests ts i t h p = ap size_of_tests (drop-next ts i t h p)

-- ---- vertices and names

pub next-vertex : (before : List ℕ) (see : Sight) (ys : List (List ℕ × Span)) (i : ℕ) (y : List ℕ × Span) → i < length ys → y ≡ get_or ys i y
    → with_more before (vertices_of see (drop i ys)) ≡ with_more (with_more before (in_list (see y.0))) (vertices_of see (drop (i + 1) ys))
next-vertex before see ys i y h p = ap (λ more. with_more before (vertices_of see more)) (drop-next ys i y h p) ∙ more-append before (in_list (see y.0)) (vertices_of see (drop (i + 1) ys))

pub next-declared : (before : List (List ℕ)) (ds : List Decl) (i : ℕ) (d : Decl) → i < length ds → d ≡ get_or ds i d
    → with_more before (declared_names (drop i ds)) ≡ with_more (with_more before (d.name ∷ [])) (declared_names (drop (i + 1) ds))
next-declared before ds i d h p = ap (λ more. with_more before (declared_names more)) (drop-next ds i d h p) ∙ more-append before (d.name ∷ []) (declared_names (drop (i + 1) ds))

-- ---- numbers add up

pub numbers-on : (first now after own rest all from : ℕ) → after ≡ now + own → from ≡ own + rest → now + from ≡ first + all → after + rest ≡ first + all
numbers-on first now after own rest all from a b c = omega arith

pub numbers-after : (first now after own inner rest all from : ℕ) → after ≡ (now + own) + inner → from ≡ (own + inner) + rest → now + from ≡ first + all → after + rest ≡ first + all
numbers-after first now after own inner rest all from a b c = omega arith
