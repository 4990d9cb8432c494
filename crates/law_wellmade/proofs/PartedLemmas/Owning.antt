-- What names stand for: no two names have one variable.
use Rattle.std.proofs.Common.{◌≡◌, ◌⊎◌, inl, inr, ℕ, ◌+◌, ◌<◌, ◌≤◌, Bool, true, false, ◌||◌, if◌then◌else◌, List, [], ◌∷◌, Option, None, Some, refl, sym, ap, subst, ◌∙◌, arith}
use Rattle.std.specs.Prelude.{codes}
use Rattle.std.specs.Str.{bytes_eq}
use Rattle.std.proofs.lemmas.List.{length-append}
use Rattle.std.proofs.lemmas.Slice.Eq.{bytes_eq-Decides}
use Rattle.hp_base.specs.declared.ty.Const.{Const}
use Rattle.hp_tree.specs.Blocks.{Decl}
use Rattle.hp_tree.specs.Meaning.{declares}
use Rattle.hp_flat.specs.declared.node.FlatTy.{FlatTy}
use Rattle.hp_flat.specs.declared.node.FlatTy.TheVariants as flat
use Rattle.hp_flat.specs.Equations.{register}
use Rattle.law_equations.specs.Made.Sights.{Entry}
use Rattle.law_equations.specs.Made.Making.{Known, Site, Sight, Layer, Standing, Body, Inner, Seen, next, with_variable, new_variable, named_value, keeps_name, put, or_entry, over, unknown, no_entry, constant_value, atom_of, with_own, own_name, own_names, is_in, hidden, declared, remember, remember_all, flat_type, type_declared, signed}
use Rattle.law_wellmade.proofs.PartedLemmas.Adding.{Nothing, Adds, same, both, named-adds}

-- a variable is that of an entry, or of its last value
abbrev pub Of : Entry → ℕ → Type 0
Of e y = (e.value ≡ Some y) ⊎ (e.last ≡ Some y)

-- The variables of names are there, and no two names have one.
pub record Owned (see : Sight) (n : ℕ) : Type 0 where
  pub there : (x : List ℕ) (y : ℕ) → Of (see x) y → y < n
  pub apart : (x z : List ℕ) (y : ℕ) → Of (see x) y → Of (see z) y → x ≡ z

pub owned-later : (see : Sight) (m n : ℕ) → m ≤ n → Owned see m → Owned see n
owned-later see m n l o = record { there = λ x y h. let u = o.there x y h in omega (arith, l, u); apart = o.apart }

owned_part : (see inside : Sight) (n : ℕ) → ((x : List ℕ) (y : ℕ) → Of (inside x) y → Of (see x) y) → Owned see n → Owned inside n
owned_part see inside n f o = record { there = λ x y h. o.there x y (f x y h); apart = λ x z y h g. o.apart x z y (f x y h) (f z y g) }

-- one name gets a new variable
owned_new : (see after : Sight) (v : List ℕ) (n m : ℕ) → n < m → ((x : List ℕ) (y : ℕ) → Of (after x) y → Of (see x) y ⊎ ((v ≡ x) × (y ≡ n))) → Owned see n → Owned after m
owned_new see after v n m l f o = record { there = λ x y h. there x y (f x y h); apart = λ x z y h g. apart x z y (f x y h) (f z y g) }
  where
    there : (x : List ℕ) (y : ℕ) → Of (see x) y ⊎ ((v ≡ x) × (y ≡ n)) → y < m
    there x y (inl h) = let u = o.there x y h in omega (arith, l, u)
    there x y (inr h) = let e = h.1 in omega (arith, l, e)

    apart : (x z : List ℕ) (y : ℕ) → Of (see x) y ⊎ ((v ≡ x) × (y ≡ n)) → Of (see z) y ⊎ ((v ≡ z) × (y ≡ n)) → x ≡ z
    apart x z y (inl h) (inl g) = o.apart x z y h g
    apart x z y (inl h) (inr g) = let u = o.there x y h in let e = g.1 in absurd (omega (arith, u, e))
    apart x z y (inr h) (inl g) = let u = o.there z y g in let e = h.1 in absurd (omega (arith, u, e))
    apart x z y (inr h) (inr g) = sym h.0 ∙ g.0

some_is : (n y : ℕ) → ◌≡◌ {A = Option ℕ} (Some n) (Some y) → y ≡ n
some_is n y e = cc

-- ---- sights

-- inside a control equation
pub owned-inside : (names : List (List ℕ)) (see : Sight) (n : ℕ) → Owned see n → Owned (over (hidden names see) see) n
owned-inside names see n o = owned_part see (over (hidden names see) see) n (λ x y h. by x y (is_in names x) h) o
  where
    by : (x : List ℕ) (y : ℕ) (b : Bool) → Of (or_entry (if b then Some (record { ty = (see x).ty; value = (see x).last; last = (see x).last; is_local = false }) else None) (see x)) y → Of (see x) y
    by x y true (inl h) = inr h
    by x y true (inr h) = inr h
    by x y false h = h

-- what a layer puts for a name
put_of : (v x : List ℕ) (e : Entry) (layer : Layer) (out : Sight) (y : ℕ) → Of (over (put v e layer) out x) y → Of (over layer out x) y ⊎ ((v ≡ x) × Of e y)
put_of v x e layer out y h = by (bytes_eq v x) refl h
  where
    by : (b : Bool) → bytes_eq v x ≡ b → Of (or_entry (if b then Some e else layer x) (out x)) y → Of (over layer out x) y ⊎ ((v ≡ x) × Of e y)
    by true i h = inr ((bytes_eq-Decides v x).0 i, h)
    by false i h = inl h

-- ---- the own variables of a block

-- From a layer to the next: no equation is made, and a name that gets a variable gets a new one.
pub record Owning (out : Sight) (s r : Seen) : Type 0 where
  pub grown : next s.1 ≤ next r.1
  pub eqns : r.1.eqns ≡ s.1.eqns
  pub owned : Owned (over s.0 out) (next s.1) → Owned (over r.0 out) (next r.1)
  pub values : (x : List ℕ) (y : ℕ) → (over r.0 out x).value ≡ Some y → ((over s.0 out x).value ≡ Some y) ⊎ (next s.1 ≤ y)

owning_same : (out : Sight) (s : Seen) → Owning out s s
owning_same out s = record { grown = omega arith; eqns = refl; owned = λ o. o; values = λ x y h. inl h }

owning_both : (out : Sight) (s r t : Seen) → Owning out s r → Owning out r t → Owning out s t
owning_both out s r t a b =
    record {
      grown = let l = a.grown in let m = b.grown in omega (arith, l, m);
      eqns = b.eqns ∙ a.eqns;
      owned = λ o. b.owned (a.owned o);
      values = λ x y h. by x y (b.values x y h);
    }
  where
    by : (x : List ℕ) (y : ℕ) → ((over r.0 out x).value ≡ Some y) ⊎ (next r.1 ≤ y) → ((over s.0 out x).value ≡ Some y) ⊎ (next s.1 ≤ y)
    by x y (inl h) = a.values x y h
    by x y (inr l) = let m = a.grown in inr (omega (arith, l, m))

-- a name gets a new variable
owning_one : (ds : List Decl) (out : Sight) (v name : List ℕ) (t : FlatTy) (s : Seen) → Owning out s (with_own ds v (over s.0 out v) s.0 (with_variable name t s.1, next s.1))
owning_one ds out v name t s =
    let e = over s.0 out v in
    let after = with_own ds v e s.0 (with_variable name t s.1, next s.1) in
    let long : next (with_variable name t s.1) ≡ next s.1 + 1 = length-append s.1.variables (record { name = name; ty = t } ∷ []) in
    let entry : Entry = record { ty = e.ty; value = Some (next s.1); last = e.last; is_local = declares ds v } in
    record {
      grown = omega (arith, long);
      eqns = refl;
      owned = owned_new (over s.0 out) (over after.0 out) v (next s.1) (next after.1) (omega (arith, long)) (λ x y h. of x y (put_of v x entry s.0 out y h));
      values = λ x y h. value x y (bytes_eq v x) h;
    }
  where
    of : (x : List ℕ) (y : ℕ) → Of (over s.0 out x) y ⊎ ((v ≡ x) × Of (record { ty = (over s.0 out v).ty; value = Some (next s.1); last = (over s.0 out v).last; is_local = declares ds v }) y)
        → Of (over s.0 out x) y ⊎ ((v ≡ x) × (y ≡ next s.1))
    of x y (inl h) = inl h
    of x y (inr (e, inl h)) = inr (e, some_is (next s.1) y h)
    of x y (inr (e, inr h)) = inl (subst (λ z. Of (over s.0 out z) y) e (inr h))

    value : (x : List ℕ) (y : ℕ) (b : Bool) → (or_entry (if b then Some (record { ty = (over s.0 out v).ty; value = Some (next s.1); last = (over s.0 out v).last; is_local = declares ds v }) else s.0 x) (out x)).value ≡ Some y
        → ((over s.0 out x).value ≡ Some y) ⊎ (next s.1 ≤ y)
    value x y true h = let e = some_is (next s.1) y h in inr (omega (arith, e))
    value x y false h = inl h

owning_name : (standing : Standing) (ds : List Decl) (out : Sight) (x : List ℕ) (s : Seen) → Owning out s (own_name standing ds out x s)
owning_name Inner ds out x s = owning_one ds out x _ (over s.0 out x).ty s
owning_name Body ds out x s = by (declares ds x) (keeps_name ds x)
  where
    by : (b c : Bool) → Owning out s (if b then with_own ds x (over s.0 out x) s.0 (if c then (with_variable x (over s.0 out x).ty s.1, next s.1) else new_variable x (over s.0 out x).ty s.1) else s)
    by true true = owning_one ds out x x (over s.0 out x).ty s
    by true false = owning_one ds out x _ (over s.0 out x).ty s
    by false c = owning_same out s

pub owning-names : (standing : Standing) (ds : List Decl) (out : Sight) (xs : List (List ℕ)) (s : Seen) → Owning out s (own_names standing ds out xs s)
owning-names standing ds out [] s = owning_same out s
owning-names standing ds out (x ∷ xs) s =
    let r = own_name standing ds out x s in
    owning_both out s r (own_names standing ds out xs r) (owning_name standing ds out x s) (owning-names standing ds out xs r)

-- in a block of a control equation each name gets one
pub inner-new : (ds : List Decl) (out : Sight) (xs : List (List ℕ)) (s : Seen) (x : List ℕ) (y : ℕ) → is_in xs x ≡ true → (over (own_names Inner ds out xs s).0 out x).value ≡ Some y → next s.1 ≤ y
inner-new ds out [] s x y i h = absurd cc
inner-new ds out (v ∷ xs) s x y i h =
    let r = own_name Inner ds out v s in
    let one = owning_name Inner ds out v s in
    by (bytes_eq v x) refl i one.grown (λ j. inner-new ds out xs r x y j h) ((owning-names Inner ds out xs r).values x y h)
  where
    here : (b : Bool) → bytes_eq v x ≡ true → b ≡ bytes_eq v x
        → (or_entry (if b then Some (record { ty = (over s.0 out v).ty; value = Some (next s.1); last = (over s.0 out v).last; is_local = declares ds v }) else s.0 x) (out x)).value ≡ Some y → next s.1 ≤ y
    here true e j h = let is = some_is (next s.1) y h in omega (arith, is)
    here false e j h = absurd cc

    by : (b : Bool) → bytes_eq v x ≡ b → (b || is_in xs x) ≡ true → next s.1 ≤ next (own_name Inner ds out v s).1 → (is_in xs x ≡ true → next (own_name Inner ds out v s).1 ≤ y)
        → ((over (own_name Inner ds out v s).0 out x).value ≡ Some y) ⊎ (next (own_name Inner ds out v s).1 ≤ y) → next s.1 ≤ y
    by true e i l f (inl h) = here (bytes_eq v x) e refl h
    by true e i l f (inr u) = omega (arith, l, u)
    by false e i l f h = let u = f i in omega (arith, l, u)

module _ (k : Known) where
  -- what a block declares
  pub declared-value : (ds : List Decl) (out : Sight) (x : List ℕ) → (over (declared k ds out) out x).value ≡ (out x).value
  declared-value ds out x = by (declares ds x)
    where
      by : (b : Bool) → (or_entry (if b then Some (record { ty = type_declared k ds x; value = (out x).value; last = (out x).last; is_local = true }) else None) (out x)).value ≡ (out x).value
      by true = refl
      by false = refl

  pub owned-declared : (ds : List Decl) (out : Sight) (n : ℕ) → Owned out n → Owned (over (declared k ds out) out) n
  owned-declared ds out n o = owned_part out (over (declared k ds out) out) n (λ x y h. by x y (declares ds x) h) o
    where
      by : (x : List ℕ) (y : ℕ) (b : Bool) → Of (or_entry (if b then Some (record { ty = type_declared k ds x; value = (out x).value; last = (out x).last; is_local = true }) else None) (out x)) y → Of (out x) y
      by x y true h = h
      by x y false h = h

  -- ---- last values

  -- From a layer to the next: new equations are made of last values, and names keep their variables.
  pub record Remembering (out : Sight) (s r : Seen) : Type 0 where
    pub adds : Adds Nothing s.1 r.1
    pub owned : Owned (over s.0 out) (next s.1) → Owned (over r.0 out) (next r.1)
    pub values : (x : List ℕ) → (over r.0 out x).value ≡ (over s.0 out x).value

  remembering_one : (at : Site) (out : Sight) (d : Decl) (o : Option Const) (s : Seen) → Remembering out s (remember k at out d o s)
  remembering_one at out d None s = record { adds = same Nothing s.1; owned = λ o. o; values = λ x. refl }
  remembering_one at out d (Some c) s =
      let e = over s.0 out d.name in
      let right = register (constant_value k c) (atom_of e.value) in
      let m = named_value at (codes "last") e.ty right s.1 in
      let after = remember k at out d (Some c) s in
      let long : next m.0 ≡ next s.1 + 1 = length-append s.1.variables _ in
      let entry : Entry = record { ty = e.ty; value = e.value; last = Some (next s.1); is_local = e.is_local } in
      record {
        adds = named-adds at (codes "last") e.ty right s.1;
        owned = owned_new (over s.0 out) (over after.0 out) d.name (next s.1) (next after.1) (omega (arith, long)) (λ x y h. of x y (put_of d.name x entry s.0 out y h));
        values = λ x. value x (bytes_eq d.name x) refl;
      }
    where
      of : (x : List ℕ) (y : ℕ) → Of (over s.0 out x) y ⊎ ((d.name ≡ x) × Of (record { ty = (over s.0 out d.name).ty; value = (over s.0 out d.name).value; last = Some (next s.1); is_local = (over s.0 out d.name).is_local }) y)
          → Of (over s.0 out x) y ⊎ ((d.name ≡ x) × (y ≡ next s.1))
      of x y (inl h) = inl h
      of x y (inr (e, inl h)) = inl (subst (λ z. Of (over s.0 out z) y) e (inl h))
      of x y (inr (e, inr h)) = inr (e, some_is (next s.1) y h)

      value : (x : List ℕ) (b : Bool) → bytes_eq d.name x ≡ b
          → (or_entry (if b then Some (record { ty = (over s.0 out d.name).ty; value = (over s.0 out d.name).value; last = Some (next s.1); is_local = (over s.0 out d.name).is_local }) else s.0 x) (out x)).value ≡ (over s.0 out x).value
      value x true e = ap (λ z. (over s.0 out z).value) ((bytes_eq-Decides d.name x).0 e)
      value x false e = refl

  pub remembering : (at : Site) (out : Sight) (ds : List Decl) (s : Seen) → Remembering out s (remember_all k at out ds s)
  remembering at out [] s = record { adds = same Nothing s.1; owned = λ o. o; values = λ x. refl }
  remembering at out (d ∷ ds) s =
      let r = remember k at out d d.last s in
      let a = remembering_one at out d d.last s in
      let b = remembering at out ds r in
      record {
        adds = both s.1 r.1 (remember_all k at out ds r).1 a.adds b.adds;
        owned = λ o. b.owned (a.owned o);
        values = λ x. b.values x ∙ a.values x;
      }

  -- ---- the signature of a node

  pub owned-signed : (ds : List Decl) (s : Seen) → Owned (over s.0 unknown) (next s.1) → Owned (over (signed k ds s).0 unknown) (next (signed k ds s).1)
  owned-signed [] s o = o
  owned-signed (d ∷ ds) s o =
      let entry : Entry = record { ty = flat_type k.types d.ty; value = Some (next s.1); last = None; is_local = true } in
      let r : Seen = (put d.name entry s.0, with_variable d.name (flat_type k.types d.ty) s.1) in
      let long : next r.1 ≡ next s.1 + 1 = length-append s.1.variables _ in
      owned-signed ds r (owned_new (over s.0 unknown) (over r.0 unknown) d.name (next s.1) (next r.1) (omega (arith, long)) (λ x y h. of x y (put_of d.name x entry s.0 unknown y h)) o)
    where
      of : (x : List ℕ) (y : ℕ) → Of (over s.0 unknown x) y ⊎ ((d.name ≡ x) × Of (record { ty = flat_type k.types d.ty; value = Some (next s.1); last = None; is_local = true }) y)
          → Of (over s.0 unknown x) y ⊎ ((d.name ≡ x) × (y ≡ next s.1))
      of x y (inl h) = inl h
      of x y (inr (e, inl h)) = inr (e, some_is (next s.1) y h)
      of x y (inr (e, inr h)) = absurd cc

  pub nothing-owned : Owned (over no_entry unknown) 0
  nothing-owned = record { there = λ x y h. absurd (never y h); apart = λ x z y h g. absurd (never y h) }
    where
      never : (y : ℕ) → Of (record { ty = flat.Bool; value = None; last = None; is_local = false }) y → ⊥
      never y (inl h) = absurd cc
      never y (inr h) = absurd cc
