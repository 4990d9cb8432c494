-- What is made of lists, one element after the other.
use Rattle.std.proofs.Common.{◌≡◌, ℕ, zero, suc, ◌+◌, ◌≤◌, length, drop, take, add-one, List, [], ◌∷◌, ◌++◌, Option, None, Some, refl, sym, ap, ◌∙◌, arith}
use Rattle.std.proofs.lemmas.List.{length-append, take-append-le}
use Rattle.std.proofs.Math.Seq.{take-length}
use Rattle.hp_base.specs.declared.span.Span.{Span}
use Rattle.hp_tree.specs.declared.decl.Cons.{Cons}
use Rattle.hp_tree.specs.Expressions.{Expr}
use Rattle.hp_tree.specs.Blocks.{Decl}
use Rattle.hp_flat.specs.declared.node.Variable.{Variable}
use Rattle.law_equations.specs.Made.Making.{Known, Layer, Sight, Site, Sketch, Made, Seen, next, with_outputs, numbers_from, first_output, bind, bind_outputs, link_all, in_block, given_by, tested, cons_number, on_site, enter_path, path_for, signed}
use Rattle.hp_complete.specs.Drafting.{first_of, bind_each, numbers_left, signed_at, entered}
use Rattle.hp_complete.specs.Places.{Place, at_depth, at_site, depth, sees}
use Rattle.hp_tables.specs.Telling.Tellings.{Told, tells_of}
use Rattle.hp_complete.specs.Tellings.{told_path}
use Rattle.hp_complete.proofs.TellingLaws.{path-told}

one_more : (xs : List Variable) (x : Variable) → length (xs ++ x ∷ []) ≡ length xs + 1
one_more xs x = length-append xs (x ∷ [])

pub one-output : (k : Known) (o : Decl) (d : Sketch) → next (with_outputs k (o ∷ []) d) ≡ next d + 1
one-output k o d = length-append d.variables _

pub one-signed : (o : Decl) (p : Place) (d : Sketch) → next (signed_at (o ∷ []) p d).1 ≡ next d + 1
one-signed o p d = length-append d.variables _

-- the first output of a call
pub first-output : (at : Site) (os : List Decl) (m : Made) → first_of at (numbers_from m.1 os) m.0 ≡ first_output at os m
first-output at [] m = refl
first-output at (o ∷ os) m = refl

-- names take the outputs of a call, each of one
pub outputs-bound : (see : Sight) (at : Site) (ys : List (List ℕ × Span)) (n : ℕ) (os : List Decl) (d : Sketch) → bind_each see at ys (numbers_from n os) d ≡ bind_outputs see at ys n os d
outputs-bound see at [] n os d = refl
outputs-bound see at (y ∷ ys) n [] d = outputs-bound see at ys (n + 1) [] (bind at (see y.0).value None d)
outputs-bound see at (y ∷ ys) n (o ∷ os) d = outputs-bound see at ys (n + 1) os (bind at (see y.0).value (Some n) d)

-- what is bound does not depend on how many steps of the clock are the block's own
bound_in : (at : Site) (x s : Option ℕ) (d : Sketch) → bind (in_block at) x s d ≡ bind at x s d
bound_in at None s d = refl
bound_in at (Some x) s d = refl

pub linked-in : (out : Sight) (at : Site) (own : Layer) (names : List (List ℕ)) (d : Sketch) → link_all out (in_block at) own names d ≡ link_all out at own names d
linked-in out at own [] d = refl
linked-in out at own (x ∷ xs) d = ap (link_all out (in_block at) own xs) (bound_in at (out x).value (given_by (own x) (out x)) d) ∙ linked-in out at own xs (bind at (out x).value (given_by (own x) (out x)) d)

-- a path with one step more
pub entered-on : (k : Known) (see : Sight) (path : List (Cons × List ℕ)) (s : Cons × List ℕ) (at : Site) (d : Sketch)
    → enter_path k see (path ++ s ∷ []) at d ≡ enter_path k see (s ∷ []) (enter_path k see path at d).0 (enter_path k see path at d).1
entered-on k see [] s at d = refl
entered-on k see (t ∷ path) s at d = entered-on k see path s _ _

-- ---- the clock of a definition

pub path-is : (ds : List Decl) (ys : List (List ℕ × Span)) (e : Expr) (told : Option Told) → told ≡ tells_of ys e → path_for ds ys e ≡ told_path ds told
path-is ds ys e told h = sym (path-told ds ys e) ∙ ap (told_path ds) (sym h)

module _ (k : Known) (see : Sight) where
  first_steps : (n : ℕ) (path : List (Cons × List ℕ)) (at : Site) (d : Sketch) → n ≤ length at.clock → take n (enter_path k see path at d).0.clock ≡ take n at.clock
  first_steps n [] at d h = refl
  first_steps n (s ∷ path) at d h =
      let t = tested (see s.1).value d in
      let step : ℕ × ℕ = (t.1, cons_number k s.0) in
      first_steps n path (on_site at t.1 (cons_number k s.0)) t.0 (omega (arith, length-append at.clock (step ∷ []), h)) ∙ take-append-le n at.clock (step ∷ []) h

  same_base : (path : List (Cons × List ℕ)) (at : Site) (d : Sketch) → (enter_path k see path at d).0.base ≡ at.base
  same_base [] at d = refl
  same_base (s ∷ path) at d = same_base path _ _

  same_restart : (path : List (Cons × List ℕ)) (at : Site) (d : Sketch) → (enter_path k see path at d).0.restart ≡ at.restart
  same_restart [] at d = refl
  same_restart (s ∷ path) at d = same_restart path _ _

pub entered-back : (p : Place) (path : List (Cons × List ℕ)) (d : Sketch) → at_depth (depth p) (at_site (entered p path d).0 p) ≡ p
unfolding at_depth
entered-back p path d =
    let see = sees p in
    let clock : take (length p.site.clock) (entered p path d).0.clock ≡ p.site.clock =
    first_steps p.known see (length p.site.clock) path p.site d (let h : length p.site.clock ≤ length p.site.clock = omega arith in h) ∙ take-length p.site.clock in
    (λ j. at_site (record { clock = clock j; base = same_base p.known see path p.site d j; restart = same_restart p.known see path p.site d j }) p)

-- numbers, one after the other
pub numbers-left : (xs : List ℕ) (i : ℕ) → numbers_left (drop i xs) ≡ drop (i + 1) xs
numbers-left xs i = at xs i ∙ ap (λ n. drop n xs) (sym (add-one i))
  where
    at : (xs : List ℕ) (i : ℕ) → numbers_left (drop i xs) ≡ drop (suc i) xs
    at [] zero = refl
    at [] (suc i) = refl
    at (x ∷ xs) zero = refl
    at (x ∷ xs) (suc i) = at xs i

-- so many variables of the node's signature
pub signed-next : (ds : List Decl) (p : Place) (d : Sketch) → next (signed_at ds p d).1 ≡ next d + length ds
signed-next ds p d = many ds (p.own, d)
  where
    many : (ds : List Decl) (s : Seen) → next (signed p.known ds s).1 ≡ next s.1 + length ds
    many [] s = omega arith
    many (e ∷ ds) s = many ds _ ∙ ap (λ n. n + length ds) (length-append s.1.variables _) ∙ (let e : next s.1 + 1 + length ds ≡ next s.1 + suc (length ds) = omega arith in e)
