-- Steps from one sketch to another.
use Rattle.std.proofs.Common.{◌≡◌, ◌⊎◌, inl, inr, ℕ, zero, suc, ◌+◌, ◌<◌, ◌≤◌, true, false, nat_eq, if◌then◌else◌, List, [], ◌∷◌, ◌++◌, length, Option, Some, refl, sym, ap, ap₂, subst, ◌∙◌, arith}
use Rattle.std.proofs.lemmas.Bool.Decides.{nat_tests}
use Rattle.std.proofs.lemmas.List.{append-nil, append_assoc, length-append}
use Rattle.hp_flat.specs.declared.node.FlatTy.{FlatTy}
use Rattle.hp_flat.specs.Equations.{Right as Given, FlatEqn}
use Rattle.law_equations.specs.Flattened.Flat.{Row, Right}
use Rattle.law_equations.specs.Flattened.Flatten.{FlatName, When, Rows, row}
use Rattle.law_equations.specs.Flattened.Numbered.{targets_from, definitions, IsRight, IsRow, AreRows, StandFor}
use Rattle.hp_tree.specs.Instant.{Place}
use Rattle.law_equations.specs.Made.Making.{Sketch, Site, next, with_eqn, named_value}
use Rattle.law_equations.specs.Made.Standing.{IsAt, defs, IsBounded, IsDone, Steps}

pub split_at : (x n : ℕ) → (x < n) ⊎ (n ≤ x)
split_at x zero = inr (omega arith)
split_at zero (suc n) = inl (omega arith)
split_at (suc x) (suc n) = by (split_at x n)
  where
    by : (x < n) ⊎ (n ≤ x) → (suc x < suc n) ⊎ (suc n ≤ suc x)
    by (inl l) = inl (omega arith)
    by (inr l) = inr (omega arith)

pub definitions-both : (es fs : List FlatEqn) (x : ℕ) → definitions (es ++ fs) x ≡ definitions es x ++ definitions fs x
definitions-both [] fs x = refl
definitions-both (e ∷ es) fs x =
    ap (λ ds. targets_from 0 e.targets e x ++ ds) (definitions-both es fs x)
    ∙ sym (append_assoc (targets_from 0 e.targets e x) (definitions es x) (definitions fs x))

pub length_more : {A : Type 0} (xs : List A) (x : A) → length (xs ++ x ∷ []) ≡ length xs + 1
length_more xs x = length-append xs (x ∷ [])

module _ (F : FlatName → Option Rows) (means : ℕ → FlatName) where
  pub both : (d e f : Sketch) → Steps F means d e → Steps F means e f → Steps F means d f
  both d e f s t =
      record {
        grown = let l = s.grown in let m = t.grown in omega arith;
        kept = λ x l. t.kept x (let m = s.grown in omega arith) ∙ s.kept x l;
        done = λ x l u. by x l u (split_at x (next e));
        bounded = t.bounded;
      }
    where
      by : (x : ℕ) → next d ≤ x → x < next f → (x < next e) ⊎ (next e ≤ x) → IsDone F means f x
      by x l u (inl m) = subst (λ ds. StandFor means ds (means x) (F (means x))) (sym (t.kept x m)) (s.done x l m)
      by x l u (inr m) = t.done x m u

  pub same : (d : Sketch) → IsBounded d → Steps F means d d
  same d b = record { grown = omega arith; kept = λ x l. refl; done = λ x l u. absurd (omega arith); bounded = b }

  -- ---- one new variable, with its equation

  not_same : (m n : ℕ) → (m ≡ n → ⊥) → nat_eq m n ≡ false
  not_same m n h = grind (arith, nat_tests)

  same_number : (m : ℕ) → nat_eq m m ≡ true
  same_number m = grind (arith, nat_tests)

  one_target : (e : FlatEqn) (v x : ℕ) → e.targets ≡ v ∷ [] → definitions (e ∷ []) x ≡ (if nat_eq v x then (e, 0) ∷ [] else [])
  one_target e v x h = append-nil (targets_from 0 e.targets e x) ∙ ap (λ ts. targets_from 0 ts e x) h

  pub value-steps : (at : Site) (x : List ℕ) (t : FlatTy) (given : Given) (d : Sketch) (w : When) (rs : List Place) (right : Right FlatName) → IsBounded d → IsAt means at w rs → IsRight means 0 given right
      → F (means (next d)) ≡ Some (row w rs right ∷ []) → Steps F means d (named_value at x t given d).0
  value-steps at x t given d w rs right b a r f =
      let e : FlatEqn = record { targets = next d ∷ []; clock = at.clock; right = given; restart = at.restart; at = 0 } in
      let more : next (named_value at x t given d).0 ≡ next d + 1 = length_more d.variables _ in
      record {
        grown = omega (arith, more);
        kept = λ y l. definitions-both d.eqns (e ∷ []) y
            ∙ ap (λ ds. defs d y ++ ds) (one_target e (next d) y refl ∙ ap (λ c. if c then (e, 0) ∷ [] else []) (not_same (next d) y (λ q. absurd (omega arith))))
            ∙ append-nil (defs d y);
        done = λ y l u.
            let same : y ≡ next d = omega (arith, more) in
            subst (IsDone F means (named_value at x t given d).0) (sym same)
            (subst (λ ds. StandFor means ds (means (next d)) (F (means (next d))))
            (sym (definitions-both d.eqns (e ∷ []) (next d)
            ∙ ap₂ (λ ds es. ds ++ es) (b (next d) (omega arith)) (one_target e (next d) (next d) refl ∙ ap (λ c. if c then (e, 0) ∷ [] else []) (same_number (next d)))))
            (subst (λ o. StandFor means ((e, 0) ∷ []) (means (next d)) o) (sym f) (record { clock = a.clock; restart = a.restart; right = r }, tt)));
        bounded = λ y l. definitions-both d.eqns (e ∷ []) y
            ∙ ap₂ (λ ds es. ds ++ es) (b y (omega (arith, more))) (one_target e (next d) y refl ∙ ap (λ c. if c then (e, 0) ∷ [] else []) (not_same (next d) y (λ q. absurd (omega (arith, more)))));
      }

  -- ---- one more equation of a variable that is there

  defs-more : (at : Site) (v : ℕ) (given : Given) (d : Sketch) (y : ℕ)
      → defs (with_eqn at (v ∷ []) given d) y ≡ defs d y ++ (if nat_eq v y then (record { targets = v ∷ []; clock = at.clock; right = given; restart = at.restart; at = 0 }, 0) ∷ [] else [])
  defs-more at v given d y =
      let e : FlatEqn = record { targets = v ∷ []; clock = at.clock; right = given; restart = at.restart; at = 0 } in
      definitions-both d.eqns (e ∷ []) y ∙ ap (λ ds. defs d y ++ ds) (one_target e v y refl)

  pub defs-same : (at : Site) (v : ℕ) (given : Given) (d : Sketch) (y : ℕ) → (v ≡ y → ⊥) → defs (with_eqn at (v ∷ []) given d) y ≡ defs d y
  defs-same at v given d y h =
      defs-more at v given d y
      ∙ ap (λ c. defs d y ++ (if c then (record { targets = v ∷ []; clock = at.clock; right = given; restart = at.restart; at = 0 }, 0) ∷ [] else [])) (not_same v y h)
      ∙ append-nil (defs d y)

  pub defs-new : (at : Site) (v : ℕ) (given : Given) (d : Sketch)
      → defs (with_eqn at (v ∷ []) given d) v ≡ defs d v ++ (record { targets = v ∷ []; clock = at.clock; right = given; restart = at.restart; at = 0 }, 0) ∷ []
  defs-new at v given d =
      defs-more at v given d v
      ∙ ap (λ c. defs d v ++ (if c then (record { targets = v ∷ []; clock = at.clock; right = given; restart = at.restart; at = 0 }, 0) ∷ [] else [])) (same_number v)

  pub rows-more : (ds : List (FlatEqn × ℕ)) (rows : Rows) (d : FlatEqn × ℕ) (r : Row FlatName) → AreRows means ds rows → IsRow means d.0 d.1 r → AreRows means (ds ++ d ∷ []) (rows ++ r ∷ [])
  rows-more [] [] d r a i = (i, tt)
  rows-more [] (s ∷ rows) d r a i = absurd a
  rows-more (e ∷ ds) [] d r a i = absurd a
  rows-more (e ∷ ds) (s ∷ rows) d r a i = (a.0, rows-more ds rows d r a.1 i)
