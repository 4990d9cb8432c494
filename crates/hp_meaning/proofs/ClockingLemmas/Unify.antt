-- Solving is sound, complete and most general.
use Rattle.std.proofs.Common.{◌≡◌, suc, ◌+◌, List, [], ◌∷◌, ◌++◌, length, refl, sym, ap, ap₂, ◌∙◌, subst, arith, append_assoc, length-append}
use Rattle.std.proofs.lemmas.List.{append-nil}
use Rattle.std.specs.Prelude.{⊤, Bool, true, false, if◌then◌else◌, Option, None, Some}
use Rattle.std.specs.Bool.{Decides}
use Rattle.hp_meaning.specs.Clocking.Terms.{Term, Values, of_head, value, Equation, Holds, AllHold, IsPart, IsShortest, Known, put_head, put, nothing_known, and_then, shortest, given, bind, bound, unified, further, solve_one, or_stop, solve}

-- ---- lists

pub first_or : {A : Type 0} → A → List A → A
first_or d [] = d
first_or d (x ∷ xs) = x

pub rest_of : {A : Type 0} → List A → List A
rest_of [] = []
rest_of (x ∷ xs) = xs

pub firsts : {A : Type 0} (x y : A) (xs ys : List A) → x ∷ xs ≡ y ∷ ys → x ≡ y
unfolding first_or
firsts x y xs ys e = ap (first_or x) e

pub rests : {A : Type 0} (x y : A) (xs ys : List A) → x ∷ xs ≡ y ∷ ys → xs ≡ ys
unfolding rest_of
rests x y xs ys e = ap rest_of e

pub not_longer : {A : Type 0} (x : A) (xs ys : List A) → ys ≡ x ∷ xs ++ ys → ⊥
not_longer x xs ys e =
    let a : length ys ≡ suc (length xs + length ys) = ap length e ∙ ap suc (length-append xs ys) in
    omega (arith, a)

pub not_empty : {A : Type 0} (x : A) (xs : List A) → [] ≡ x ∷ xs → ⊥
not_empty x xs e = cc

-- ---- by cases on a test

pub decided : {P X : Type 0} (d : Bool) → Decides d P → (d ≡ true → P → X) → (d ≡ false → (P → ⊥) → X) → X
decided true r f g = f refl (r.0 refl)
decided false r f g = g refl (λ p. absurd (cc (r.1 p)))

module _ (V S : Type 0) where
  -- the value of a term in which what is known is put
  pub value_put : (at : Values V S) (known : Known V S) (t : Term V S) → value at (put known t) ≡ value (given known at) t
  value_put at known t = append_assoc t.0 (put_head known t.1).0 (of_head at (put_head known t.1).1) ∙ ap (λ z. t.0 ++ z) (heads t.1)
    where
      heads : (h : Option V) → (put_head known h).0 ++ of_head at (put_head known h).1 ≡ of_head (given known at) h
      heads None = refl
      heads (Some v) = refl

  -- what two parts know one after another
  pub given_then : (at : Values V S) (known more : Known V S) → given (and_then known more) at ≡ given known (given more at)
  given_then at known more = λ z v. value_put at more (known v) z

  pub of_values : (at other : Values V S) → ((v : V) → at v ≡ other v) → at ≡ other
  of_values at other e = λ z v. e v z

  -- two terms in parts are one clock
  abbrev pub Meets : Values V S → List S → Option V → List S → Option V → Type 0
  Meets at ss h ts k = ss ++ of_head at h ≡ ts ++ of_head at k

  -- What solving tells of an equation: that no clocks meet it, or what all clocks that meet it are.
  abbrev pub Tells : List S → Option V → List S → Option V → Option (Known V S) → Type 0
  Tells ss h ts k None = (at : Values V S) → Meets at ss h ts k → ⊥
  Tells ss h ts k (Some known) =
      ((at : Values V S) → Meets (given known at) ss h ts k) × ((at : Values V S) → Meets at ss h ts k → at ≡ given known at)

  turned : (ss : List S) (h : Option V) (ts : List S) (k : Option V) (o : Option (Known V S)) → Tells ss h ts k o → Tells ts k ss h o
  turned ss h ts k None f = λ at e. f at (sym e)
  turned ss h ts k (Some known) f = ((λ at. sym (f.0 at)), λ at e. f.1 at (sym e))

  module _ (same : V → V → Bool) (is_same : (v w : V) → Decides (same v w) (v ≡ w)) where
    bind_here : (v : V) (t : Term V S) → bind same v t v ≡ t
    bind_here v t = ap (λ d. if d then t else ([], Some v)) ((is_same v v).1 refl)

    bind_there : (v w : V) (t : Term V S) → same v w ≡ false → bind same v t w ≡ ([], Some w)
    bind_there v w t e = ap (λ d. if d then t else ([], Some w)) e

    -- clocks that meet an equation of a variable are those that it gives
    bind_all : (v : V) (t : Term V S) (at : Values V S) → at v ≡ value at t → at ≡ given (bind same v t) at
    bind_all v t at e =
        of_values at (given (bind same v t) at)
        (λ w. decided (same v w) (is_same v w)
        (λ d h. sym (ap at h) ∙ e ∙ sym (ap (λ b. value at (if b then t else ([], Some w))) d))
        (λ d h. sym (ap (value at) (bind_there v w t d))))

    bound_tells : (v : V) (ts : List S) (k : Option V) → Tells [] (Some v) ts k (bound same v ts k)
    bound_tells v ts None = ((λ at. ap (value at) (bind_here v (ts, None))), λ at e. bind_all v (ts, None) at e)
    bound_tells v [] (Some w) = tie (same v w) (is_same v w) refl
      where
        tie : (d : Bool) → Decides d (v ≡ w) → same v w ≡ d → Tells [] (Some v) [] (Some w) (Some (if d then nothing_known else bind same v ([], Some w)))
        tie true r d = ((λ at. ap at (r.0 refl)), λ at e. refl)
        tie false r d =
            ((λ at. ap (value at) (bind_here v ([], Some w)) ∙ sym (ap (value at) (bind_there v w ([], Some w) d))), λ at e. bind_all v ([], Some w) at e)
    bound_tells v (t ∷ ts) (Some w) = tie (same v w) (is_same v w) refl
      where
        tie : (d : Bool) → Decides d (v ≡ w) → same v w ≡ d → Tells [] (Some v) (t ∷ ts) (Some w) (if d then None else Some (bind same v (t ∷ ts, Some w)))
        tie true r d = λ at e. not_longer t ts (at w) (sym (ap at (r.0 refl)) ∙ e)
        tie false r d = (
          (λ at. ap (value at) (bind_here v (t ∷ ts, Some w)) ∙ ap (λ z. t ∷ ts ++ z) (sym (ap (value at) (bind_there v w (t ∷ ts, Some w) d)))),
          λ at e. bind_all v (t ∷ ts, Some w) at e,
        )

    module _ (step : S → S → Bool) (is_step : (s t : S) → Decides (step s t) (s ≡ t)) where
      stripped : (s t : S) (ss : List S) (h : Option V) (ts : List S) (k : Option V) (o : Option (Known V S)) → s ≡ t → Tells ss h ts k o → Tells (s ∷ ss) h (t ∷ ts) k o
      stripped s t ss h ts k None e f = λ at m. f at (rests s t (ss ++ of_head at h) (ts ++ of_head at k) m)
      stripped s t ss h ts k (Some known) e f =
          ((λ at. ap₂ (λ x xs. x ∷ xs) e (f.0 at)), λ at m. f.1 at (rests s t (ss ++ of_head at h) (ts ++ of_head at k) m))

      -- Solving one equation is right.
      pub unified_tells : (ss : List S) (h : Option V) (ts : List S) (k : Option V) → Tells ss h ts k (unified same step ss h ts k)
      unified_tells [] None [] None = ((λ at. refl), λ at e. refl)
      unified_tells [] None [] (Some w) = turned [] (Some w) [] None (bound same w [] None) (bound_tells w [] None)
      unified_tells [] None (t ∷ ts) k = λ at e. not_empty t (ts ++ of_head at k) e
      unified_tells [] (Some v) ts k = bound_tells v ts k
      unified_tells (s ∷ ss) h [] None = λ at e. not_empty s (ss ++ of_head at h) (sym e)
      unified_tells (s ∷ ss) h [] (Some w) = turned [] (Some w) (s ∷ ss) h (bound same w (s ∷ ss) h) (bound_tells w (s ∷ ss) h)
      unified_tells (s ∷ ss) h (t ∷ ts) k = tie (step s t) (is_step s t) (unified_tells ss h ts k)
        where
          tie : (d : Bool) → Decides d (s ≡ t) → Tells ss h ts k (unified same step ss h ts k) → Tells (s ∷ ss) h (t ∷ ts) k (if d then unified same step ss h ts k else None)
          tie true r f = stripped s t ss h ts k (unified same step ss h ts k) (r.0 refl) f
          tie false r f = λ at m. absurd (cc (r.1 (firsts s t (ss ++ of_head at h) (ts ++ of_head at k) m)))

  -- ---- what is known, of clocks of which something is asked

  -- All clocks of which this is true are given by what is known, and it is true of all that are given.
  pub record Solves (P : Values V S → Type 0) (known : Known V S) : Type 0 where
    pub sound : (at : Values V S) → P (given known at)
    pub whole : (at : Values V S) → P at → at ≡ given known at

  pub nothing_solves : Solves (λ at. ⊤) nothing_known
  nothing_solves = record { sound = λ at. tt; whole = λ at p. refl }

  abbrev pub SolvesOr : (Values V S → Type 0) → Option (Known V S) → Type 0
  SolvesOr P None = (at : Values V S) → P at → ⊥
  SolvesOr P (Some known) = Solves P known

  pub solves_like : (P Q : Values V S → Type 0) (o : Option (Known V S)) → ((at : Values V S) → P at → Q at) → ((at : Values V S) → Q at → P at) → SolvesOr P o → SolvesOr Q o
  solves_like P Q None f g h = λ at q. h at (g at q)
  solves_like P Q (Some known) f g h = record { sound = λ at. f (given known at) (h.sound at); whole = λ at q. h.whole at (g at q) }

  module _ (same : V → V → Bool) (is_same : (v w : V) → Decides (same v w) (v ≡ w)) (step : S → S → Bool) (is_step : (s t : S) → Decides (step s t) (s ≡ t)) where
    and_told : (P : Values V S → Type 0) (known : Known V S) → Solves P known → (e : Equation V S) (o : Option (Known V S)) → Tells (put known e.0).0 (put known e.0).1 (put known e.1).0 (put known e.1).1 o → SolvesOr (λ at. P at × Holds at e) (further known o)
    and_told P known k e None f =
        λ at p.
        let w : at ≡ given known at = k.whole at p.0 in
        f at (value_put at known e.0 ∙ sym (ap (λ z. value z e.0) w) ∙ p.1 ∙ ap (λ z. value z e.1) w ∙ sym (value_put at known e.1))
    and_told P known k e (Some more) f =
        record {
          sound = λ at.
              let path = given_then at known more in (
                subst P (sym path) (k.sound (given more at)),
                subst (λ z. Holds z e) (sym path)
                    (sym (value_put (given more at) known e.0) ∙ f.0 at ∙ value_put (given more at) known e.1),
              );
          whole = λ at p.
              let w : at ≡ given known at = k.whole at p.0 in
              let m : at ≡ given more at =
              f.1 at (value_put at known e.0 ∙ sym (ap (λ z. value z e.0) w) ∙ p.1 ∙ ap (λ z. value z e.1) w ∙ sym (value_put at known e.1)) in
              w ∙ ap (given known) m ∙ sym (given_then at known more);
        }

    -- One more equation.
    pub solves_one : (P : Values V S → Type 0) (known : Known V S) → Solves P known → (e : Equation V S) → SolvesOr (λ at. P at × Holds at e) (solve_one same step known e)
    solves_one P known k e =
        and_told P known k e (unified same step (put known e.0).0 (put known e.0).1 (put known e.1).0 (put known e.1).1)
        (unified_tells same is_same step is_step (put known e.0).0 (put known e.0).1 (put known e.1).0 (put known e.1).1)

    next : (P : Values V S → Type 0) (e : Equation V S) (es : List (Equation V S)) (o : Option (Known V S)) → SolvesOr (λ at. P at × Holds at e) o → ((more : Known V S) → Solves (λ at. P at × Holds at e) more → SolvesOr (λ at. (P at × Holds at e) × AllHold at es) (solve same step more es)) → SolvesOr (λ at. P at × AllHold at (e ∷ es)) (or_stop o (λ more. solve same step more es))
    next P e es None f g = λ at p. f at (p.0, p.1.0)
    next P e es (Some more) f g =
        solves_like (λ at. (P at × Holds at e) × AllHold at es) (λ at. P at × AllHold at (e ∷ es)) (solve same step more es)
        (λ at p. (p.0.0, (p.0.1, p.1))) (λ at p. ((p.0, p.1.0), p.1.1)) (g more f)

    -- More equations.
    pub solves : (es : List (Equation V S)) (P : Values V S → Type 0) (known : Known V S) → Solves P known → SolvesOr (λ at. P at × AllHold at es) (solve same step known es)
    solves [] P known k = record { sound = λ at. (k.sound at, tt); whole = λ at p. k.whole at p.0 }
    solves (e ∷ es) P known k =
        next P e es (solve_one same step known e) (solves_one P known k e) (λ more f. solves es (λ at. P at × Holds at e) more f)

  -- ---- the shortest clocks

  shortest_given : (known : Known V S) → given known (λ v. []) ≡ shortest known
  shortest_given known = of_values (given known (λ v. [])) (shortest known) (λ v. ended (known v))
    where
      ended : (t : Term V S) → value {V = V} {S = S} (λ v. []) t ≡ t.0
      ended t = heads t.1
        where
          heads : (h : Option V) → t.0 ++ of_head {V = V} {S = S} (λ v. []) h ≡ t.0
          heads None = append-nil t.0
          heads (Some v) = append-nil t.0

  -- The clocks with open variables on the base clock are among those that are asked for, and are a part of all others.
  pub shortest_solves : (P : Values V S → Type 0) (known : Known V S) → Solves P known → IsShortest P (shortest known)
  shortest_solves P known k =
      (subst P (shortest_given known) (k.sound (λ v. [])), λ at p v. (of_head at (known v).1, ap (λ z. z v) (k.whole at p)))

  pub one_part : (c d : List S) → IsPart c d → IsPart d c → c ≡ d
  one_part c d f g = ends f.0 f.1
    where
      ends : (r : List S) → d ≡ c ++ r → c ≡ d
      ends [] e = sym (append-nil c) ∙ sym e
      ends (s ∷ r) e =
          let a : length d ≡ length c + suc (length r) = ap length e ∙ length-append c (s ∷ r) in
          let b : length c ≡ length d + length g.0 = ap length g.1 ∙ length-append d g.0 in
          absurd (omega (arith, a, b))

  -- There is one assignment of shortest clocks.
  pub one_shortest : (P : Values V S → Type 0) (at other : Values V S) → IsShortest P at → IsShortest P other → at ≡ other
  one_shortest P at other f g = of_values at other (λ v. one_part (at v) (other v) (f.1 other g.0 v) (g.1 at f.0 v))

  -- Solving some equations and then others.
  pub solve_append : (same : V → V → Bool) (step : S → S → Bool) (known : Known V S) (es fs : List (Equation V S)) → solve same step known (es ++ fs) ≡ or_stop (solve same step known es) (λ more. solve same step more fs)
  solve_append same step known [] fs = refl
  solve_append same step known (e ∷ es) fs = first (solve_one same step known e) (λ more. solve_append same step more es fs)
    where
      first : (o : Option (Known V S)) → ((more : Known V S) → solve same step more (es ++ fs) ≡ or_stop (solve same step more es) (λ last. solve same step last fs)) → or_stop o (λ more. solve same step more (es ++ fs)) ≡ or_stop (or_stop o (λ more. solve same step more es)) (λ more. solve same step more fs)
      first None f = refl
      first (Some more) f = f more
