-- The clocks of the expressions in a right side.
use Rattle.std.proofs.Common.{◌≡◌, ℕ, List, [], ◌∷◌, ◌++◌, refl, sym, ap, ◌∙◌, subst}
use Rattle.std.specs.Prelude.{Some}
use Rattle.hp_tree.specs.Expressions.{Expr, constant, variable, last_of, one, two, choose, pre, fby, arrow, when_is, merge, call, Exprs, no_expr, more_exprs, Parts, no_part, more_parts}
use Rattle.hp_tree.specs.Instant.{Head, Tail, First, Second, Third, Args, Clock, without}
use Rattle.hp_meaning.specs.Causal.Sources.{below}
use Rattle.hp_meaning.specs.Causal.Clocked.{Standing, IsOn, ExprsOn, PartsOn}
use Rattle.hp_meaning.specs.Clocking.Terms.{IsPart}
use Rattle.hp_meaning.specs.Clocking.EachExpression.{Clocks, EachOn, EachArg, EachPart, passed, passed_all, passed_parts, AtEach, AtEachArg, AtEachPart, EachLaw, EachShorterLaw}
use Rattle.hp_meaning.proofs.ClockingLemmas.Unify.{rests}

pub top : (e : Expr) (c : Clock) → passed e c [] ≡ c
top (constant s k) c = refl
top (variable s x) c = refl
top (last_of s x) c = refl
top (one s o a) c = refl
top (two s o a b) c = refl
top (choose s a b d) c = refl
top (pre s a) c = refl
top (fby s a b) c = refl
top (arrow s a b) c = refl
top (when_is s a k x) c = refl
top (merge s x ps) c = refl
top (call s f i es) c = refl

module _ (names : Standing) where
  mutual
    down : (e : Expr) (c : Clock) → IsOn names e c → EachOn names e (passed e c)
    down (constant s k) c h = tt
    down (variable s x) c h = h
    down (last_of s x) c h = h
    down (one s o a) c h = (top a c, down a c h)
    down (two s o a b) c h = (top a c, top b c, down a c h.0, down b c h.1)
    down (choose s a b d) c h = (top a c, top b c, top d c, down a c h.0, down b c h.1, down d c h.2)
    down (pre s a) c h = (top a c, down a c h)
    down (fby s a b) c h = (top a c, top b c, down a c h.0, down b c h.1)
    down (arrow s a b) c h = (top a c, top b c, down a c h.0, down b c h.1)
    down (when_is s a k x) c h =
        (h.0 ∙ ap (λ z. (k, x) ∷ z) (sym (top a (without c))), h.1 ∙ ap Some (sym (top a (without c))), down a (without c) h.2)
    down (merge s x ps) c h = (h.0, down_parts x ps c h.1)
    down (call s f i es) c h = down_all es c h

    down_all : (es : Exprs) (c : Clock) → ExprsOn names es c → EachArg names es c (passed_all es c)
    down_all no_expr c h = tt
    down_all (more_exprs e es) c h = (top e c, down e c h.0, down_all es c h.1)

    down_parts : (x : List ℕ) (ps : Parts) (c : Clock) → PartsOn names x ps c → EachPart names x ps c (passed_parts x ps c)
    down_parts x no_part c h = tt
    down_parts x (more_parts k e ps) c h = (top e ((k, x) ∷ c), down e ((k, x) ∷ c) h.0, down_parts x ps c h.1)

  over : (e : Expr) (i : Clocks) (d : Clock) → i [] ≡ d → IsOn names e (i []) × AtEach (λ x y. x ≡ y) e i (passed e (i [])) → IsOn names e d × AtEach (λ x y. x ≡ y) e i (passed e d)
  over e i d q h = subst (λ z. IsOn names e z × AtEach (λ x y. x ≡ y) e i (passed e z)) q h

  mutual
    up : (e : Expr) (i : Clocks) → EachOn names e i → IsOn names e (i []) × AtEach (λ c d. c ≡ d) e i (passed e (i []))
    up (constant s k) i h = (tt, refl)
    up (variable s x) i h = (h, refl)
    up (last_of s x) i h = (h, refl)
    up (one s o a) i h = let f = over a (below First i) (i []) h.0 (up a (below First i) h.1) in (f.0, (refl, f.1))
    up (two s o a b) i h =
        let f = over a (below First i) (i []) h.0 (up a (below First i) h.2) in
        let g = over b (below Second i) (i []) h.1 (up b (below Second i) h.3) in
        ((f.0, g.0), (refl, f.1, g.1))
    up (choose s a b c) i h =
        let f = over a (below First i) (i []) h.0 (up a (below First i) h.3) in
        let g = over b (below Second i) (i []) h.1 (up b (below Second i) h.4) in
        let k = over c (below Third i) (i []) h.2 (up c (below Third i) h.5) in
        ((f.0, g.0, k.0), (refl, f.1, g.1, k.1))
    up (pre s a) i h = let f = over a (below First i) (i []) h.0 (up a (below First i) h.1) in (f.0, (refl, f.1))
    up (fby s a b) i h =
        let f = over a (below First i) (i []) h.0 (up a (below First i) h.2) in
        let g = over b (below Second i) (i []) h.1 (up b (below Second i) h.3) in
        ((f.0, g.0), (refl, f.1, g.1))
    up (arrow s a b) i h =
        let f = over a (below First i) (i []) h.0 (up a (below First i) h.2) in
        let g = over b (below Second i) (i []) h.1 (up b (below Second i) h.3) in
        ((f.0, g.0), (refl, f.1, g.1))
    up (when_is s a k x) i h =
        let w : without (i []) ≡ i (First ∷ []) = ap without h.0 in
        let f = over a (below First i) (without (i [])) (sym w) (up a (below First i) h.2) in
        ((h.0 ∙ ap (λ z. (k, x) ∷ z) (sym w), h.1 ∙ ap Some (sym w), f.0), (refl, f.1))
    up (merge s x ps) i h = let f = up_parts x ps (i []) (below Args i) h.1 in ((h.0, f.0), (refl, f.1))
    up (call s f inlined es) i h = let g = up_all es (i []) (below Args i) h in (g.0, (refl, g.1))

    up_all : (es : Exprs) (c : Clock) (i : Clocks) → EachArg names es c i → ExprsOn names es c × AtEachArg (λ c d. c ≡ d) es i (passed_all es c)
    up_all no_expr c i h = (tt, tt)
    up_all (more_exprs e es) c i h =
        let f = over e (below Head i) c h.0 (up e (below Head i) h.1) in
        let g = up_all es c (below Tail i) h.2 in
        ((f.0, g.0), (f.1, g.1))

    up_parts : (x : List ℕ) (ps : Parts) (c : Clock) (i : Clocks) → EachPart names x ps c i → PartsOn names x ps c × AtEachPart (λ c d. c ≡ d) ps i (passed_parts x ps c)
    up_parts x no_part c i h = (tt, tt)
    up_parts x (more_parts k e ps) c i h =
        let f = over e (below Head i) ((k, x) ∷ c) h.0 (up e (below Head i) h.1) in
        let g = up_parts x ps c (below Tail i) h.2 in
        ((f.0, g.0), (f.1, g.1))

pub each : EachLaw
each names e = ((λ c h. down names e c h), λ i h. up names e i h)

-- ---- the shorter clock

module _ (names other : Standing) where
  part_of : (c d k : Clock) → k ≡ d → IsPart c d → IsPart c k
  part_of c d k e f = (f.0, e ∙ f.1)

  mutual
    shorter : (e : Expr) (c : Clock) (i : Clocks) → IsOn names e c → EachOn other e i → IsPart c (i []) → AtEach IsPart e (passed e c) i
    shorter (constant s k) c i h g f = f
    shorter (variable s x) c i h g f = f
    shorter (last_of s x) c i h g f = f
    shorter (one s o a) c i h g f = (f, shorter a c (below First i) h g.1 (part_of c (i []) (i (First ∷ [])) g.0 f))
    shorter (two s o a b) c i h g f =
        (f, shorter a c (below First i) h.0 g.2 (part_of c (i []) (i (First ∷ [])) g.0 f), shorter b c (below Second i) h.1 g.3 (part_of c (i []) (i (Second ∷ [])) g.1 f))
    shorter (choose s a b k) c i h g f = (
      f,
      shorter a c (below First i) h.0 g.3 (part_of c (i []) (i (First ∷ [])) g.0 f),
      shorter b c (below Second i) h.1 g.4 (part_of c (i []) (i (Second ∷ [])) g.1 f),
      shorter k c (below Third i) h.2 g.5 (part_of c (i []) (i (Third ∷ [])) g.2 f),
    )
    shorter (pre s a) c i h g f = (f, shorter a c (below First i) h g.1 (part_of c (i []) (i (First ∷ [])) g.0 f))
    shorter (fby s a b) c i h g f =
        (f, shorter a c (below First i) h.0 g.2 (part_of c (i []) (i (First ∷ [])) g.0 f), shorter b c (below Second i) h.1 g.3 (part_of c (i []) (i (Second ∷ [])) g.1 f))
    shorter (arrow s a b) c i h g f =
        (f, shorter a c (below First i) h.0 g.2 (part_of c (i []) (i (First ∷ [])) g.0 f), shorter b c (below Second i) h.1 g.3 (part_of c (i []) (i (Second ∷ [])) g.1 f))
    shorter (when_is s a k x) c i h g f =
        let e : (k, x) ∷ i (First ∷ []) ≡ (k, x) ∷ without c ++ f.0 = sym g.0 ∙ f.1 ∙ ap (λ z. z ++ f.0) h.0 in
        (f, shorter a (without c) (below First i) h.2 g.2 (f.0, rests (k, x) (k, x) (i (First ∷ [])) (without c ++ f.0) e))
    shorter (merge s x ps) c i h g f = (f, shorter_parts x ps c (i []) (below Args i) h.1 g.1 f)
    shorter (call s fn inlined es) c i h g f = (f, shorter_all es c (i []) (below Args i) h g f)

    shorter_all : (es : Exprs) (c d : Clock) (i : Clocks) → ExprsOn names es c → EachArg other es d i → IsPart c d → AtEachArg IsPart es (passed_all es c) i
    shorter_all no_expr c d i h g f = tt
    shorter_all (more_exprs e es) c d i h g f =
        (shorter e c (below Head i) h.0 g.1 (part_of c d (i (Head ∷ [])) g.0 f), shorter_all es c d (below Tail i) h.1 g.2 f)

    shorter_parts : (x : List ℕ) (ps : Parts) (c d : Clock) (i : Clocks) → PartsOn names x ps c → EachPart other x ps d i → IsPart c d → AtEachPart IsPart ps (passed_parts x ps c) i
    shorter_parts x no_part c d i h g f = tt
    shorter_parts x (more_parts k e ps) c d i h g f =
        (shorter e ((k, x) ∷ c) (below Head i) h.0 g.1 (f.0, g.0 ∙ ap (λ z. (k, x) ∷ z) f.1), shorter_parts x ps c d (below Tail i) h.1 g.2 f)

pub each_shorter : EachShorterLaw
each_shorter names other e c i h g f = shorter names other e c i h g f
