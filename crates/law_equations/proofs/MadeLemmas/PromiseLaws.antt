-- Promises, joined; sites, flags and new variables.
use Rattle.std.proofs.Common.{◌≡◌, ℕ, ◌+◌, Bool, true, false, nat_eq, nat_lt, if◌then◌else◌, List, [], ◌∷◌, ◌++◌, length, reverse, Option, None, Some, codes, refl, sym, ap, subst, ◌∙◌, arith}
use Rattle.std.proofs.lemmas.List.{length-append, reverse-append}
use Rattle.hp_base.specs.declared.value.Value.{Value}
use Rattle.hp_base.specs.declared.value.Value.TheVariants.{B}
use Rattle.hp_flat.specs.declared.node.FlatTy.{FlatTy}
use Rattle.hp_flat.specs.declared.node.FlatTy.TheVariants as flat
use Rattle.hp_flat.specs.declared.equation.Atom.TheVariants.{Value as Fixed}
use Rattle.hp_flat.specs.Equations.{Right as Given, register}
use Rattle.law_equations.specs.Flattened.Flat.{Register, value}
use Rattle.law_equations.specs.Flattened.Flatten.{FlatName, IsFirst, Nowhere, When, on, steps, Rows}
use Rattle.law_equations.specs.Flattened.Numbered.{number_of, StandFor, AreSteps}
use Rattle.hp_tree.specs.Instant.{Place}
use Rattle.std.specs.List.{AllByRecursion}
use Rattle.law_equations.specs.Made.Keeping.{IsKept}
use Rattle.law_equations.specs.Made.Labels.{Label, compares_or_calls}
use Rattle.law_equations.specs.Made.Making.{Sketch, Site, next, new_variable, named_value, new_flag, block_flag, flag_at, tested, front_steps, off_site, on_site}
use Rattle.law_equations.specs.Made.Standing.{Agrees, IsNamed, IsAt, IsFlagged, defs, IsBounded, IsDone, Steps, IsMade, AreLabelled, Promises, Promised, Remembers}
use Rattle.law_equations.proofs.MadeLemmas.LabelLaws.{labelled-both, none-labelled, other-labelled}
use Rattle.law_equations.proofs.MadeLemmas.StepLaws.{same, value-steps, length_more}

-- ---- promises

agrees_left : (means : ℕ → FlatName) (j : ℕ) (xs ys : List FlatName) → Agrees means j (xs ++ ys) → Agrees means j xs
agrees_left means j [] ys a = tt
agrees_left means j (x ∷ xs) ys a = (a.0, agrees_left means (j + 1) xs ys a.1)

agrees_right : (means : ℕ → FlatName) (j : ℕ) (xs ys : List FlatName) → Agrees means j (xs ++ ys) → Agrees means (j + length xs) ys
agrees_right means j [] ys a = let same : j ≡ j + 0 = omega arith in subst (λ n. Agrees means n ys) same a
agrees_right means j (x ∷ xs) ys a =
    let same : (j + 1) + length xs ≡ j + length (x ∷ xs) = omega arith in
    subst (λ n. Agrees means n ys) same (agrees_right means (j + 1) xs ys a.1)

all_kept : (K : FlatName → Type 0) (xs ys : List FlatName) → AllByRecursion (IsKept K) xs → AllByRecursion (IsKept K) ys → AllByRecursion (IsKept K) (xs ++ ys)
all_kept K [] ys h k = k
all_kept K (x ∷ xs) ys h k = (h.0, all_kept K xs ys h.1 k)

pub joined : {K : FlatName → Type 0} {L N : List Label → List Label} (d e f : Sketch) (A G C : (ℕ → FlatName) → Type 0) → Promises K d e L A → Promises K e f N G → ((means : ℕ → FlatName) → A means → G means → C means)
    → Promises K d f (λ rest. L (N rest)) C
joined {K} {L} {N} d e f A G C p q h =
    record {
      names = p.names ++ q.names;
      kept = all_kept K p.names q.names p.kept q.kept;
      grown = q.grown ∙ ap (λ n. n + length q.names) p.grown ∙ (let l : length (p.names ++ q.names) ≡ length p.names + length q.names = length-append p.names q.names in omega (arith, l));
      labelled = λ means a. labelled-both means d.eqns e.eqns f.eqns (p.labelled means (agrees_left means (next d) p.names q.names a))
          (q.labelled means (subst (λ n. Agrees means n q.names) (sym p.grown) (agrees_right means (next d) p.names q.names a)));
      facts = λ means a. h means (p.facts means (agrees_left means (next d) p.names q.names a))
          (q.facts means (subst (λ n. Agrees means n q.names) (sym p.grown) (agrees_right means (next d) p.names q.names a)));
    }

pub other : {K : FlatName → Type 0} {L : List Label → List Label} (d e : Sketch) (A G : (ℕ → FlatName) → Type 0) → Promises K d e L A → ((means : ℕ → FlatName) → A means → G means) → Promises K d e L G
other d e A G p h = record { names = p.names; kept = p.kept; grown = p.grown; labelled = p.labelled; facts = λ means a. h means (p.facts means a) }

pub none : {K : FlatName → Type 0} (d : Sketch) (A : (ℕ → FlatName) → Type 0) → ((means : ℕ → FlatName) → A means) → Promised K d d A
none d A h = record { names = []; kept = tt; grown = omega arith; labelled = λ means a. none-labelled means d.eqns; facts = λ means a. h means }

-- a new variable with its equation stands for a flat name
pub labelled-value : {K : FlatName → Type 0} {L : List Label → List Label} (at : Site) (x : List ℕ) (t : FlatTy) (given : Given) (d : Sketch) (a : FlatName) → IsKept K a
    → ((means : ℕ → FlatName) → means (next d) ≡ a → AreLabelled means d.eqns (named_value at x t given d).0.eqns L) → Promises K d (named_value at x t given d).0 L (λ means. means (next d) ≡ a)
labelled-value at x t given d a kept l = record { names = a ∷ []; kept = (kept, tt); grown = length_more d.variables _; labelled = λ means h. l means h.0; facts = λ means h. h.0 }

pub one-value : (K : FlatName → Type 0) (at : Site) (x : List ℕ) (t : FlatTy) (given : Given) (d : Sketch) (a : FlatName) → compares_or_calls given ≡ false → IsKept K a
    → Promised K d (named_value at x t given d).0 (λ means. means (next d) ≡ a)
one-value K at x t given d a quiet kept = labelled-value at x t given d a kept (λ means h. other-labelled means d.eqns _ quiet)

pub one-variable : (K : FlatName → Type 0) (x : List ℕ) (t : FlatTy) (d : Sketch) (a : FlatName) → IsKept K a → Promised K d (new_variable x t d).0 (λ means. means (next d) ≡ a)
one-variable K x t d a kept = record { names = a ∷ []; kept = (kept, tt); grown = length_more d.variables _; labelled = λ means h. none-labelled means d.eqns; facts = λ means h. h.0 }

-- ---- clocks

pub on-steps : (means : ℕ → FlatName) (at : Site) (t c : ℕ) (v : Value) (a : FlatName) (w : When) (rs : List Place) → IsAt means at w rs → means t ≡ a → c ≡ number_of v
    → IsAt means (on_site at t c) (on v a w) rs
on-steps means at t c v a w rs i m n =
    record {
      clock = subst (λ clock. AreSteps means clock (steps (on v a w))) (sym (reverse-append at.clock ((t, c) ∷ []))) (m, n, i.clock);
      restart = i.restart;
    }

last_step : (c : List (ℕ × ℕ)) (s : ℕ × ℕ) → (l : ℕ × ℕ) × (s ∷ c ≡ front_steps (s ∷ c) ++ l ∷ [])
last_step [] s = (s, refl)
last_step (t ∷ c) s = let r = last_step c t in (r.0, ap (λ xs. s ∷ xs) r.1)

off_clock : (means : ℕ → FlatName) (c : List (ℕ × ℕ)) (s : Value × FlatName) (ss : List (Value × FlatName)) → AreSteps means (reverse c) (s ∷ ss) → AreSteps means (reverse (front_steps c)) ss
off_clock means [] s ss a = absurd a
off_clock means (t ∷ c) s ss a =
    let r = last_step c t in
    let turned : reverse (t ∷ c) ≡ r.0 ∷ reverse (front_steps (t ∷ c)) = ap reverse r.1 ∙ reverse-append (front_steps (t ∷ c)) (r.0 ∷ []) in
    (subst (λ clock. AreSteps means clock (s ∷ ss)) turned a).2

pub off-steps : (means : ℕ → FlatName) (at : Site) (v : Value) (a : FlatName) (w : When) (rs : List Place) → nat_lt at.base (length at.clock) ≡ true → IsAt means at (on v a w) rs → IsAt means (off_site at) w rs
off-steps means at v a w rs l i =
    record {
      clock = subst (λ b. AreSteps means (reverse (if b then front_steps at.clock else at.clock)) (steps w)) (sym l) (off_clock means at.clock (v, a) (steps w) i.clock);
      restart = i.restart;
    }

-- ---- flags

module _ (F : FlatName → Option Rows) (memory : Remembers F) where
  -- a flag of a place on a clock
  new-flag : (means : ℕ → FlatName) (at : Site) (d : Sketch) (w ck : When) (rs : List Place) → IsBounded d → IsAt means at w rs → IsFlagged means d.flag ck rs → means (next d) ≡ IsFirst w rs
      → IsMade F means d (new_flag at d) (IsFirst w rs) ck rs
  new-flag means at d w ck rs b i f m =
      record {
        steps = value-steps F means at (codes "first") flat.Bool (register (B true) (Fixed (B false))) d w rs (Register (B true) (value (B false))) b i (refl, refl) (ap F m ∙ memory.first w rs);
        value = m;
        flag = f;
      }

  flag_by : (c : Bool) (flag : Option ℕ) (at : Site) (d : Sketch) (w ck : When) (rs : List Place) → memory.keeps (IsFirst w rs) → d.flag ≡ flag → (c ≡ true → w ≡ ck)
      → Promised memory.keeps d (if c then block_flag at flag d else new_flag at d).0
      (λ means. IsBounded d → IsAt means at w rs → IsFlagged means d.flag ck rs → IsMade F means d (if c then block_flag at flag d else new_flag at d) (IsFirst w rs) ck rs)
  flag_by true None at d w ck rs keep e o =
      let p = one-value memory.keeps at (codes "first") flat.Bool (register (B true) (Fixed (B false))) d (IsFirst w rs) refl keep in
      record {
        names = p.names;
        kept = p.kept;
        grown = p.grown;
        labelled = p.labelled;
        facts = λ means a b i f.
            let n = new-flag means at d w ck rs b i f (p.facts means a) in
            record {
              steps = record { grown = n.steps.grown; kept = n.steps.kept; done = n.steps.done; bounded = n.steps.bounded };
              value = n.value;
              flag = n.value ∙ ap (λ c. IsFirst c rs) (o refl);
            };
      }
  flag_by true (Some x) at d w ck rs keep e o =
      none d _ (λ means b i f. record { steps = same F means d b; value = subst (λ o. IsFlagged means o ck rs) e f ∙ ap (λ c. IsFirst c rs) (sym (o refl)); flag = f })
  flag_by false flag at d w ck rs keep e o =
      other d (new_flag at d).0 (λ means. means (next d) ≡ IsFirst w rs) _ (one-value memory.keeps at (codes "first") flat.Bool (register (B true) (Fixed (B false))) d (IsFirst w rs) refl keep)
      (λ means m b i f. new-flag means at d w ck rs b i f m)

  pub flag-made : (at : Site) (d : Sketch) (w ck : When) (rs : List Place) → memory.keeps (IsFirst w rs) → (nat_eq (length at.clock) at.base ≡ true → w ≡ ck)
      → Promised memory.keeps d (flag_at at d).0 (λ means. IsBounded d → IsAt means at w rs → IsFlagged means d.flag ck rs → IsMade F means d (flag_at at d) (IsFirst w rs) ck rs)
  flag-made at d w ck rs keep o = flag_by (nat_eq (length at.clock) at.base) d.flag at d w ck rs keep refl o

  -- ---- the variable that is tested for a name

  pub bare-steps : (means : ℕ → FlatName) (x : List ℕ) (t : FlatTy) (d : Sketch) → IsBounded d → F (means (next d)) ≡ None → means (next d) ≡ Nowhere → Steps F means d (new_variable x t d).0
  bare-steps means x t d b f m =
      let more : next (new_variable x t d).0 ≡ next d + 1 = length_more d.variables _ in
      record {
        grown = omega (arith, more);
        kept = λ y l. refl;
        done = λ y l u.
            let same : y ≡ next d = omega (arith, more) in
            subst (IsDone F means (new_variable x t d).0) (sym same) (subst (λ o. StandFor means (defs d (next d)) (means (next d)) o) (sym f) (b (next d) (omega arith), m));
        bounded = λ y l. b y (omega (arith, more));
      }

  pub tested-made : (o : Option ℕ) (d : Sketch) (a : FlatName) (ck : When) (rs : List Place)
      → Promised memory.keeps d (tested o d).0 (λ means. IsBounded d → IsNamed means o a → IsFlagged means d.flag ck rs → IsMade F means d (tested o d) a ck rs)
  tested-made None d a ck rs =
      other d (tested None d).0 (λ means. means (next d) ≡ Nowhere) _ (one-variable memory.keeps (codes "e") flat.Bool d Nowhere tt)
      (λ means m b n f. record { steps = bare-steps means (codes "e") flat.Bool d b (ap F m ∙ memory.nowhere) m; value = m ∙ sym n; flag = f })
  tested-made (Some x) d a ck rs = none d _ (λ means b n f. record { steps = same F means d b; value = n; flag = f })
