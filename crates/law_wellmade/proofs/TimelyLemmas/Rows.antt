-- When the rows of a flat name fit at an instant: what they test is told and can be chosen, no two are there, and what they read is there.
use Rattle.std.proofs.Common.{◌≡◌, ◌⊎◌, inl, inr, ℕ, List, [], ◌∷◌, refl, ap, subst, ◌∙◌}
use Rattle.std.specs.Prelude.{⊤, Bool, true, false, ◌&&◌, ◌||◌, if◌then◌else◌, IsTrue, IsFalse, Option, None, Some}
use Rattle.std.specs.List.{AllByRecursion}
use Rattle.hp_base.specs.Kinds.{KindData}
use Rattle.hp_base.specs.declared.ty.Ty.{Ty}
use Rattle.hp_base.specs.declared.value.Value.{Value}
use Rattle.hp_base.specs.declared.value.Value.TheVariants.{Absent, B}
use Rattle.hp_obc.specs.Steps.{Names}
use Rattle.hp_obc.specs.declared.command.ObcOp.TheVariants.{Copy}
use Rattle.hp_tree.specs.declared.decl.Cons.{Cons}
use Rattle.hp_tree.specs.Programs.{TypeDecl}
use Rattle.hp_tree.specs.Operators.{cons_of, is_cons}
use Rattle.hp_tree.specs.Values.{IsOf}
use Rattle.hp_tree.specs.Instant.{Named, Equations, Head, Tail, Right as RightOf, Test, Arms as ArmsOf, Body, First, Second, Third, Args, Instance, Place}
use Rattle.hp_typing.specs.Definitions.{same_cons}
use Rattle.law_equations.specs.Meaning.Fitting.{is_there, is_flag}
use Rattle.law_equations.specs.Flattened.Flat.{name, value, Right, Op, Register, Now, Behaviours, holds, grown, since, recent, restarts, held, said}
use Rattle.law_equations.specs.Flattened.Flatten.{FlatName, At, IsFirst, Held, When, on, steps, ats, Rows, row, copies, Plan, plan_alone, plan_one, plan_two, plan_three, plan_row, plan_call, plan_of_two, plan_block, plan_right, plan_arms, plan_body, unless, Prefix, below}
use Rattle.law_equations.specs.Flattened.Timely.{Fits, Along}
use Rattle.law_equations.specs.Flattened.Numbered.{StepsTold, RowsTold, NoneThere, AreExclusive}
use Rattle.law_values.specs.Valued.Judged.{is_named}
use Rattle.law_equations.specs.Answered.Fitting.{StepsFit, RightFits, RowFits}
use Rattle.law_wellmade.specs.Timely.Tested.{ConstructorsDiffer, ConsIs, ConsAre, AreApart}
use Rattle.law_wellmade.proofs.TimelyLemmas.KindLaws.{AbsentOr, cons_told, cons_choice, cons_apart}
use Rattle.law_wellmade.proofs.TimelyLemmas.NodesTimely.{there_is}

pub stand_there : (d : Bool) (v : Value) → Fits d v → IsTrue d → IsTrue (is_there v)
stand_there true v h t = there_is v h
stand_there false v h t = absurd (cc)

not_absent : (v : Value) → v ≡ Absent → IsTrue (is_there v) → ⊥
not_absent v e h = let g : IsTrue (is_there Absent) = subst (λ z. IsTrue (is_there z)) e h in absurd (cc)

-- ---- what is remembered is there

pub flag_there : (C : List (Now FlatName)) → IsTrue (is_there (held (B true) (value (B false)) C))
flag_there [] = refl
flag_there (i ∷ C) = refl

since_there : (v : Value) (p : Place) (w : When) (rs : List FlatName) (G : List (Now FlatName)) → IsTrue (is_there v) → Along (λ G i. Fits (holds (steps w) i) (i (At p))) G → IsTrue (is_there (held v (name (At p)) (since (steps w) rs G)))
since_there v p w rs [] h l = h
since_there v p w rs (i ∷ G) h l = by (holds (steps w) i) (restarts rs i) l.0 (since_there v p w rs G h l.1)
  where
    by : (d r : Bool) → Fits d (i (At p)) → IsTrue (is_there (held v (name (At p)) (since (steps w) rs G))) → IsTrue (is_there (held v (name (At p)) (grown d i (if r then [] else since (steps w) rs G))))
    by true r f g = there_is (i (At p)) f
    by false true f g = h
    by false false f g = g

pub recent_there : (v : Value) (p : Place) (w : When) (rs : List FlatName) (G : List (Now FlatName)) (i : Now FlatName) → IsTrue (is_there v) → Along (λ G i. Fits (holds (steps w) i) (i (At p))) G → IsTrue (is_there (held v (name (At p)) (recent (steps w) rs G i)))
recent_there v p w rs G i h l = by (restarts rs i)
  where
    by : (r : Bool) → IsTrue (is_there (held v (name (At p)) (if r then [] else since (steps w) rs G)))
    by true = h
    by false = since_there v p w rs G h l

module _ (takes : Names (List KindData)) (i : Now FlatName) where
  -- a clock with a restart list: its tests are told and can be chosen, and what restarts are flags
  pub record SiteFits (w : When) (rs : List Place) : Type 0 where
    pub told : StepsTold (steps w) i
    pub fits : StepsFit (steps w) i
    pub flags : AllByRecursion (λ x. IsTrue (is_flag (i x))) (ats rs)

  pub record RowsFit (a : FlatName) (rows : Rows) : Type 0 where
    pub told : RowsTold rows i
    pub apart : AreExclusive rows i
    pub fits : AllByRecursion (RowFits takes i a) rows

  abbrev pub OptFits : Option Rows → FlatName → Type 0
  OptFits None a = ⊤
  OptFits (Some rows) a = RowsFit a rows

  abbrev pub PlanFits : Plan Rows → Prefix → Type 0
  PlanFits plan here = (p : Place) → OptFits (plan p) (At (here p))

  -- the register of a name that is remembered
  abbrev pub KeptFits : FlatName → Type 0
  KeptFits (IsFirst w rs) = RowsFit (IsFirst w rs) (row w rs (Register (B true) (value (B false))) ∷ [])
  KeptFits (Held v p w rs) = RowsFit (Held v p w rs) (row w rs (Register v (name (At p))) ∷ [])
  KeptFits a = ⊤

  pub one_row : (w : When) (rs : List Place) (r : Right FlatName) (a : FlatName) → SiteFits w rs → (IsTrue (holds (steps w) i) → RightFits takes i r) → (IsTrue (holds (steps w) i) → IsTrue (is_there (i a))) → RowsFit a (row w rs r ∷ [])
  one_row w rs r a s f g = record {
    told = (s.told, tt);
    apart = ((λ h. tt), tt);
    fits = (record { clock = s.fits; restart = s.flags; right = f; target = g }, tt);
  }

  no_rows : (a : FlatName) → RowsFit a []
  no_rows a = record { told = tt; apart = tt; fits = tt }

  copied : (d : Bool) (v u : Value) → v ≡ (if d then u else Absent) → IsTrue d → IsTrue (is_there v) → IsTrue (is_there u)
  copied true v u e t h = subst (λ z. IsTrue (is_there z)) e h
  copied false v u e t h = absurd (cc)

  -- a copy: where the target is there, so is what is copied
  pub copy_row : (does : Behaviours) (G : List (Now FlatName)) (w : When) (rs : List Place) (x a : FlatName) → SiteFits w rs → (IsTrue (holds (steps w) i) → IsTrue (is_there (i a))) → i a ≡ said does (copies w rs x ∷ []) G i → RowsFit a (copies w rs x ∷ [])
  copy_row does G w rs x a s g e = one_row w rs (Op Copy (name x ∷ [])) a s (λ t. (copied (holds (steps w) i) (i a) (i x) e t (g t), tt)) g

  -- ---- branches, each on a constructor of what is tested

  abbrev pub branches : List TypeDecl → List (Cons × FlatName) → FlatName → When → List Place → Rows
  branches types [] test w rs = []
  branches types (b ∷ bs) test w rs = copies (on (cons_of types b.0) test w) rs b.1 ∷ branches types bs test w rs

  abbrev pub conses : List (Cons × FlatName) → List Cons
  conses [] = []
  conses (b ∷ bs) = b.0 ∷ conses bs

  and_false : (a b : Bool) → IsFalse a → IsFalse (a && b)
  and_false true b h = absurd (cc)
  and_false false b h = refl

  and_first : (a b : Bool) → IsTrue (a && b) → IsTrue a
  and_first true b h = refl
  and_first false b h = absurd (cc)

  and_second : (a b : Bool) → IsTrue (a && b) → IsTrue b
  and_second true b h = h
  and_second false b h = absurd (cc)

  or_first : (a b : Bool) → IsFalse (a || b) → IsFalse a
  or_first true b h = absurd (cc)
  or_first false b h = refl

  or_second : (a b : Bool) → IsFalse (a || b) → IsFalse b
  or_second true b h = absurd (cc)
  or_second false b h = h

  module _ (types : List TypeDecl) (differ : ConstructorsDiffer types) (t : Ty) (test : FlatName) (w : When) (rs : List Place) (site : SiteFits w rs) (told : AbsentOr types t (i test)) (chosen : IsTrue (holds (steps w) i) → IsOf types t (i test)) where
    pub branch_site : (c : Cons) → ConsIs types (Some t) c → SiteFits (on (cons_of types c) test w) rs
    branch_site c k = record {
      told = (cons_told types t c (i test) differ k told, site.told);
      fits = ((λ h. cons_choice types t c (i test) k (chosen h)), site.fits);
      flags = site.flags;
    }

    branches_told : (bs : List (Cons × FlatName)) → ConsAre types (Some t) (conses bs) → RowsTold (branches types bs test w rs) i
    branches_told [] k = tt
    branches_told (b ∷ bs) k = ((branch_site b.0 k.0).told, branches_told bs k.1)

    others_off : (c : Cons) (bs : List (Cons × FlatName)) → ConsIs types (Some t) c → ConsAre types (Some t) (conses bs) → IsFalse (is_named (conses bs) c) → IsTrue (is_cons types (i test) c) → NoneThere (branches types bs test w rs) i
    others_off c [] k ks n h = tt
    others_off c (b ∷ bs) k ks n h = (
      and_false (is_cons types (i test) b.0) (holds (steps w) i) (cons_apart types t c b.0 (i test) k ks.0 (or_first (same_cons c b.0) (is_named (conses bs) c) n) h),
      others_off c bs k ks.1 (or_second (same_cons c b.0) (is_named (conses bs) c) n) h,
    )

    branches_apart : (bs : List (Cons × FlatName)) → ConsAre types (Some t) (conses bs) → AreApart (conses bs) → AreExclusive (branches types bs test w rs) i
    branches_apart [] k n = tt
    branches_apart (b ∷ bs) k n = (
      (λ h. others_off b.0 bs k.0 k.1 n.0 (and_first (is_cons types (i test) b.0) (holds (steps w) i) h)),
      branches_apart bs k.1 n.1,
    )

    branches_fit : (does : Behaviours) (G : List (Now FlatName)) (a : FlatName) (bs : List (Cons × FlatName)) → ConsAre types (Some t) (conses bs) → AreExclusive (branches types bs test w rs) i → (IsTrue (holds (steps w) i) → IsTrue (is_there (i a)))
        → ((i a ≡ said does (branches types bs test w rs) G i) ⊎ NoneThere (branches types bs test w rs) i) → AllByRecursion (RowFits takes i a) (branches types bs test w rs)
    branches_fit does G a [] k x g s = tt
    branches_fit does G a (b ∷ bs) k x g s = (
      record {
        clock = (branch_site b.0 k.0).fits;
        restart = site.flags;
        right = λ h. (reads s h, tt);
        target = λ h. g (and_second (is_cons types (i test) b.0) (holds (steps w) i) h);
      },
      branches_fit does G a bs k.1 x.1 g (later s (holds (steps (on (cons_of types b.0) test w)) i) refl),
    )
      where
        here : Bool
        here = holds (steps (on (cons_of types b.0) test w)) i

        reads : ((i a ≡ said does (branches types (b ∷ bs) test w rs) G i) ⊎ NoneThere (branches types (b ∷ bs) test w rs) i) → IsTrue (holds (steps (on (cons_of types b.0) test w)) i) → IsTrue (is_there (i b.1))
        reads (inl e) h = first (holds (steps (on (cons_of types b.0) test w)) i) e h (g (and_second (is_cons types (i test) b.0) (holds (steps w) i) h))
          where
            first : (d : Bool) → i a ≡ (if d then i b.1 else said does (branches types bs test w rs) G i) → IsTrue d → IsTrue (is_there (i a)) → IsTrue (is_there (i b.1))
            first true e t h = subst (λ z. IsTrue (is_there z)) e h
            first false e t h = absurd (cc)
        reads (inr n) h = let off = n.0 in absurd (cc)

        later : ((i a ≡ said does (branches types (b ∷ bs) test w rs) G i) ⊎ NoneThere (branches types (b ∷ bs) test w rs) i) → (d : Bool) → holds (steps (on (cons_of types b.0) test w)) i ≡ d → (i a ≡ said does (branches types bs test w rs) G i) ⊎ NoneThere (branches types bs test w rs) i
        later s true e = inr (x.0 e)
        later (inl q) false e = inl (q ∙ ap (λ d. if d then i b.1 else said does (branches types bs test w rs) G i) e)
        later (inr n) false e = inr n.1

    pub branch_rows : (does : Behaviours) (G : List (Now FlatName)) (a : FlatName) (bs : List (Cons × FlatName)) → ConsAre types (Some t) (conses bs) → AreApart (conses bs) → (IsTrue (holds (steps w) i) → IsTrue (is_there (i a))) → i a ≡ said does (branches types bs test w rs) G i → RowsFit a (branches types bs test w rs)
    branch_rows does G a bs k n g e =
        let x = branches_apart bs k n in
        record { told = branches_told bs k; apart = x; fits = branches_fit does G a bs k x g (inl e) }

  -- ---- plans

  pub fit_alone : (rows : Rows) (here : Prefix) → RowsFit (At (here [])) rows → PlanFits (plan_alone rows) here
  fit_alone rows here h [] = h
  fit_alone rows here h (s ∷ p) = tt

  pub fit_one : (rows : Rows) (a : Plan Rows) (here : Prefix) → RowsFit (At (here [])) rows → PlanFits a (below First here) → PlanFits (plan_one rows a) here
  fit_one rows a here h f [] = h
  fit_one rows a here h f (First ∷ p) = f p
  fit_one rows a here h f p = tt

  pub fit_two : (rows : Rows) (a b : Plan Rows) (here : Prefix) → RowsFit (At (here [])) rows → PlanFits a (below First here) → PlanFits b (below Second here) → PlanFits (plan_two rows a b) here
  fit_two rows a b here h f g [] = h
  fit_two rows a b here h f g (First ∷ p) = f p
  fit_two rows a b here h f g (Second ∷ p) = g p
  fit_two rows a b here h f g p = tt

  pub fit_three : (rows : Rows) (a b c : Plan Rows) (here : Prefix) → RowsFit (At (here [])) rows → PlanFits a (below First here) → PlanFits b (below Second here) → PlanFits c (below Third here) → PlanFits (plan_three rows a b c) here
  fit_three rows a b c here h f g k [] = h
  fit_three rows a b c here h f g k (First ∷ p) = f p
  fit_three rows a b c here h f g k (Second ∷ p) = g p
  fit_three rows a b c here h f g k (Third ∷ p) = k p
  fit_three rows a b c here h f g k p = tt

  pub fit_row : (rows : Rows) (a : Plan Rows) (here : Prefix) → RowsFit (At (here [])) rows → PlanFits a (below Args here) → PlanFits (plan_row rows a) here
  fit_row rows a here h f [] = h
  fit_row rows a here h f (Args ∷ p) = f p
  fit_row rows a here h f p = tt

  pub fit_call : (o : Option Rows) (a : Plan Rows) (outs : List ℕ → Option Rows) (here : Prefix) → OptFits o (At (here [])) → PlanFits a (below Args here) → ((x : List ℕ) → OptFits (outs x) (At (here (Instance ∷ Named x ∷ [])))) → PlanFits (plan_call o a outs) here
  fit_call o a outs here h f g [] = h
  fit_call o a outs here h f g (Args ∷ p) = f p
  fit_call o a outs here h f g (Instance ∷ Named x ∷ []) = g x
  fit_call o a outs here h f g p = tt

  pub fit_of_two : (a b : Plan Rows) (here : Prefix) → PlanFits a (below Head here) → PlanFits b (below Tail here) → PlanFits (plan_of_two a b) here
  fit_of_two a b here f g (Head ∷ p) = f p
  fit_of_two a b here f g (Tail ∷ p) = g p
  fit_of_two a b here f g p = tt

  pub fit_block : (outs : List ℕ → Option Rows) (a : Plan Rows) (here : Prefix) → ((x : List ℕ) → OptFits (outs x) (At (here (Named x ∷ [])))) → PlanFits a (below Equations here) → PlanFits (plan_block outs a) here
  fit_block outs a here f g (Named x ∷ []) = f x
  fit_block outs a here f g (Equations ∷ p) = g p
  fit_block outs a here f g p = tt

  pub fit_right : (a : Plan Rows) (here : Prefix) → PlanFits a (below RightOf here) → PlanFits (plan_right a) here
  fit_right a here f (RightOf ∷ p) = f p
  fit_right a here f p = tt

  pub fit_arms : (a b : Plan Rows) (here : Prefix) → PlanFits a (below Test here) → PlanFits b (below ArmsOf here) → PlanFits (plan_arms a b) here
  fit_arms a b here f g (Test ∷ p) = f p
  fit_arms a b here f g (ArmsOf ∷ p) = g p
  fit_arms a b here f g p = tt

  pub fit_body : (a b : Plan Rows) (here : Prefix) → PlanFits a (below Test here) → PlanFits b (below Body here) → PlanFits (plan_body a b) here
  fit_body a b here f g (Test ∷ p) = f p
  fit_body a b here f g (Body ∷ p) = g p
  fit_body a b here f g p = tt

  pub fit_unless : (d : Bool) (a : Plan Rows) (here : Prefix) → PlanFits a here → PlanFits (unless d a) here
  fit_unless true a here f p = tt
  fit_unless false a here f p = f p
