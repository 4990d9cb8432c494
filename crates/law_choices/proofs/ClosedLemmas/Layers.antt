-- The layer of a block: which names have variables there, and which new variables are those of names that the block defines.
use Rattle.std.proofs.Common.{◌≡◌, ◌⊎◌, inl, inr, ℕ, ◌+◌, ◌<◌, ◌≤◌, Bool, true, false, ◌||◌, if◌then◌else◌, List, [], ◌∷◌, Option, None, Some, refl, sym, ap, ◌∙◌, arith}
use Rattle.std.specs.Prelude.{IsTrue, codes}
use Rattle.std.specs.Str.{bytes_eq}
use Rattle.std.proofs.lemmas.Bool.{cases_lt}
use Rattle.std.proofs.lemmas.List.{length-append}
use Rattle.hp_base.specs.declared.ty.Const.{Const}
use Rattle.hp_tree.specs.Blocks.{Decl}
use Rattle.hp_tree.specs.Meaning.{declares}
use Rattle.law_values.specs.Valued.Judged.{Lasts, lasts_in}
use Rattle.hp_flat.specs.declared.node.FlatTy.{FlatTy}
use Rattle.hp_flat.specs.Equations.{register}
use Rattle.law_equations.specs.Made.Sights.{Entry}
use Rattle.law_equations.specs.Made.Making.{Known, Site, Sight, Seen, Standing, Body, Inner, next, with_variable, new_name, constant_value, atom_of, over, or_entry, is_in, keeps_name, with_own, own_name, own_names, type_declared, declared, remember, remember_all}
use Rattle.law_equations.proofs.MadeLemmas.LayerLaws.{same_name, is_same, is_owned, Once}
use Rattle.law_wellmade.proofs.RegularLemmas.Layers.{pick}
use Rattle.law_choices.proofs.ClosedLemmas.Filling.{Fills, same, both, named_fills}
use Rattle.law_choices.proofs.ClosedLemmas.Expressions.{HasVariable}

-- ---- what a block declares

pub declared_says : (k : Known) (ds : List Decl) (out : Sight) (x : List ℕ) → ((over (declared k ds out) out x).value ≡ (out x).value) × ((over (declared k ds out) out x).last ≡ (out x).last)
declared_says k ds out x = by (declares ds x)
  where
    by : (b : Bool) → let o : Option Entry = if b then Some (record { ty = type_declared k ds x; value = (out x).value; last = (out x).last; is_local = true }) else None in ((or_entry o (out x)).value ≡ (out x).value) × ((or_entry o (out x)).last ≡ (out x).last)
    by true = (refl, refl)
    by false = (refl, refl)

-- ---- names that get variables of their own

module _ (standing : Standing) (ds : List Decl) (out : Sight) where
  -- a name that gets one
  abbrev named : List ℕ → List ℕ → FlatTy → Seen → Seen
  named x name t s = with_own ds x (over s.0 out x) s.0 (with_variable name t s.1, next s.1)

  -- either a name gets a variable, or nothing is done
  one_of : (P : Seen → Type 0) (x : List ℕ) (s : Seen) → (is_owned standing ds x ≡ true → (name : List ℕ) → P (named x name (over s.0 out x).ty s)) → (is_owned standing ds x ≡ false → P s) → P (own_name standing ds out x s)
  one_of P x s f g = at standing f g
    where
      at : (st : Standing) → (is_owned st ds x ≡ true → (name : List ℕ) → P (named x name (over s.0 out x).ty s)) → (is_owned st ds x ≡ false → P s) → P (own_name st ds out x s)
      at Inner f g = f refl (new_name x (next s.1))
      at Body f g = by (declares ds x) refl (keeps_name ds x)
        where
          by : (b : Bool) → declares ds x ≡ b → (c : Bool)
              → P (if b then with_own ds x (over s.0 out x) s.0 (if c then (with_variable x (over s.0 out x).ty s.1, next s.1) else (with_variable (new_name x (next s.1)) (over s.0 out x).ty s.1, next s.1)) else s)
          by true e true = f e x
          by true e false = f e (new_name x (next s.1))
          by false e c = g e

  abbrev after : List ℕ → Seen → Seen
  after x s = own_name standing ds out x s

  -- another name keeps its variable
  name_other : (x : List ℕ) (s : Seen) (y : List ℕ) → bytes_eq x y ≡ false → (over (after x s).0 out y).value ≡ (over s.0 out y).value
  name_other x s y n =
      one_of (λ z. (over z.0 out y).value ≡ (over s.0 out y).value) x s
      (λ o name. pick (λ (w : Entry). w.value ≡ (over s.0 out y).value) x _ s.0 out y (λ q. absurd (let r = sym n ∙ q in cc)) (λ q. refl)) (λ o. refl)

  -- so does one that gets none
  name_unowned : (x : List ℕ) (s : Seen) (y : List ℕ) → is_owned standing ds y ≡ false → (over (after x s).0 out y).value ≡ (over s.0 out y).value
  name_unowned x s y n =
      one_of (λ z. (over z.0 out y).value ≡ (over s.0 out y).value) x s
      (λ o name. pick (λ (w : Entry). w.value ≡ (over s.0 out y).value) x _ s.0 out y (λ q. absurd (let r = sym n ∙ (ap (λ z. is_owned standing ds z) (sym (same_name x y q)) ∙ o) in cc)) (λ q. refl)) (λ o. refl)

  -- a name has a variable where it gets one, or has one
  name_has : (x : List ℕ) (s : Seen) (y : List ℕ) → ((bytes_eq x y ≡ true) × (is_owned standing ds y ≡ true)) ⊎ HasVariable (over s.0 out y).value → HasVariable (over (after x s).0 out y).value
  name_has x s y h =
      one_of (λ z. HasVariable (over z.0 out y).value) x s
      (λ o name. pick (λ (w : Entry). HasVariable w.value) x _ s.0 out y (λ q. (next s.1, refl)) (λ q. other q h)) (λ o. unowned o h)
    where
      other : bytes_eq x y ≡ false → ((bytes_eq x y ≡ true) × (is_owned standing ds y ≡ true)) ⊎ HasVariable (over s.0 out y).value → HasVariable (over s.0 out y).value
      other q (inl p) = absurd (let r = sym q ∙ p.0 in cc)
      other q (inr p) = p

      unowned : is_owned standing ds x ≡ false → ((bytes_eq x y ≡ true) × (is_owned standing ds y ≡ true)) ⊎ HasVariable (over s.0 out y).value → HasVariable (over s.0 out y).value
      unowned o (inl p) = absurd (let r = sym o ∙ ap (λ z. is_owned standing ds z) (same_name x y p.0) ∙ p.1 in cc)
      unowned o (inr p) = p

  name_eqns : (x : List ℕ) (s : Seen) → (after x s).1.eqns ≡ s.1.eqns
  name_eqns x s = one_of (λ z. z.1.eqns ≡ s.1.eqns) x s (λ o name. refl) (λ o. refl)

  -- what is new is the variable of the name
  name_new : (x : List ℕ) (s : Seen) → (next s.1 ≤ next (after x s).1) × ((v : ℕ) → next s.1 ≤ v → v < next (after x s).1 → (over (after x s).0 out x).value ≡ Some v)
  name_new x s =
      one_of (λ z. (next s.1 ≤ next z.1) × ((v : ℕ) → next s.1 ≤ v → v < next z.1 → (over z.0 out x).value ≡ Some v)) x s
      (λ o name.
      let long : next (named x name (over s.0 out x).ty s).1 ≡ next s.1 + 1 = length-append s.1.variables _ in (
        omega (arith, long),
        λ v l u.
            let is : next s.1 ≡ v = omega (arith, long, l, u) in
            pick (λ (w : Entry). w.value ≡ Some v) x _ s.0 out x (λ q. ap Some is) (λ q. absurd (let r = sym q ∙ is_same x in cc)),
      ))
      (λ o. (omega arith, λ v l u. absurd (omega (arith, l, u))))

  pub names_unowned : (xs : List (List ℕ)) (s : Seen) (y : List ℕ) → is_owned standing ds y ≡ false → (over (own_names standing ds out xs s).0 out y).value ≡ (over s.0 out y).value
  names_unowned [] s y n = refl
  names_unowned (x ∷ xs) s y n = names_unowned xs (after x s) y n ∙ name_unowned x s y n

  either_false : (a b : Bool) → (a || b) ≡ false → (a ≡ false) × (b ≡ false)
  either_false true b h = absurd cc
  either_false false b h = (refl, h)

  names_other : (xs : List (List ℕ)) (s : Seen) (y : List ℕ) → is_in xs y ≡ false → (over (own_names standing ds out xs s).0 out y).value ≡ (over s.0 out y).value
  names_other [] s y n = refl
  names_other (x ∷ xs) s y n = let q = either_false (bytes_eq x y) (is_in xs y) n in names_other xs (after x s) y q.1 ∙ name_other x s y q.0

  pub names_have : (xs : List (List ℕ)) (s : Seen) (y : List ℕ) → ((is_in xs y ≡ true) × (is_owned standing ds y ≡ true)) ⊎ HasVariable (over s.0 out y).value → HasVariable (over (own_names standing ds out xs s).0 out y).value
  names_have [] s y (inl p) = absurd (let r = p.0 in cc)
  names_have [] s y (inr p) = p
  names_have (x ∷ xs) s y (inr p) = names_have xs (after x s) y (inr (name_has x s y (inr p)))
  names_have (x ∷ xs) s y (inl p) = names_have xs (after x s) y (by (bytes_eq x y) refl p.0)
    where
      by : (b : Bool) → bytes_eq x y ≡ b → (b || is_in xs y) ≡ true → ((is_in xs y ≡ true) × (is_owned standing ds y ≡ true)) ⊎ HasVariable (over (after x s).0 out y).value
      by true q r = inr (name_has x s y (inl (q, p.1)))
      by false q r = inl (r, p.1)

  -- a variable is that of one of these names
  abbrev pub IsOf : List (List ℕ) → Seen → ℕ → Type 0
  IsOf xs z v = (y : List ℕ) × (is_in xs y ≡ true) × ((over z.0 out y).value ≡ Some v)

  -- Where each name stands once, what is new are the variables of the names, and no equation is made.
  pub names_new : (xs : List (List ℕ)) (s : Seen) → Once xs → let z = own_names standing ds out xs s in (next s.1 ≤ next z.1) × (z.1.eqns ≡ s.1.eqns) × ((v : ℕ) → next s.1 ≤ v → v < next z.1 → IsOf xs z v)
  names_new [] s once = (omega arith, refl, λ v l u. absurd (omega (arith, l, u)))
  names_new (x ∷ xs) s once =
      let r = after x s in
      let z = own_names standing ds out xs r in
      let first = name_new x s in
      let rest = names_new xs r once.1 in
      let l = first.0 in
      let m = rest.0 in
      (omega (arith, l, m), rest.1 ∙ name_eqns x s, λ v g u. by v g (cases_lt v (next r.1)) (λ w. rest.2 v w u))
    where
      by : (v : ℕ) → next s.1 ≤ v → (v < next (after x s).1) ⊎ (next (after x s).1 ≤ v) → (next (after x s).1 ≤ v → IsOf xs (own_names standing ds out xs (after x s)) v) → IsOf (x ∷ xs) (own_names standing ds out xs (after x s)) v
      by v g (inl w) f = (x, ap (λ b. b || is_in xs x) (is_same x), names_other xs (after x s) x once.0 ∙ (name_new x s).1 v g w)
      by v g (inr w) f = let q = f w in (q.0, or_right (bytes_eq x q.0) (is_in xs q.0) q.1, q.2)
        where
          or_right : (a b : Bool) → b ≡ true → (a || b) ≡ true
          or_right true b h = refl
          or_right false b h = h

-- ---- last values

module _ (k : Known) (at : Site) (out : Sight) where
  -- What remembering last values leaves as it was.
  pub record Remembered (s z : Seen) : Type 0 where
    pub fills : Fills s.1 z.1
    pub value : (y : List ℕ) → (over z.0 out y).value ≡ (over s.0 out y).value
    pub last : (y : List ℕ) → HasVariable (over s.0 out y).last → HasVariable (over z.0 out y).last

  one_remembered : (d : Decl) (o : Option Const) (s : Seen) → Remembered s (remember k at out d o s)
  one_remembered d None s = record { fills = same s.1; value = λ y. refl; last = λ y h. h }
  one_remembered d (Some c) s =
      record {
        fills = named_fills at (codes "last") (over s.0 out d.name).ty (register (constant_value k c) (atom_of (over s.0 out d.name).value)) s.1;
        value = λ y. pick (λ (w : Entry). w.value ≡ (over s.0 out y).value) d.name _ s.0 out y (λ p. ap (λ x. (over s.0 out x).value) (same_name d.name y p)) (λ p. refl);
        last = λ y h. pick (λ (w : Entry). HasVariable w.last) d.name _ s.0 out y (λ p. (next s.1, refl)) (λ p. h);
      }

  one_last : (d : Decl) (c : Const) (s : Seen) (y : List ℕ) → bytes_eq d.name y ≡ true → HasVariable (over (remember k at out d (Some c) s).0 out y).last
  one_last d c s y e = pick (λ (w : Entry). HasVariable w.last) d.name _ s.0 out y (λ p. (next s.1, refl)) (λ p. absurd (let r = sym p ∙ e in cc))

  pub all_remembered : (ds : List Decl) (s : Seen) → Remembered s (remember_all k at out ds s)
  all_remembered [] s = record { fills = same s.1; value = λ y. refl; last = λ y h. h }
  all_remembered (d ∷ ds) s =
      let r = remember k at out d d.last s in
      let a = one_remembered d d.last s in
      let b = all_remembered ds r in
      record { fills = both s.1 r.1 (remember_all k at out ds r).1 a.fills b.fills; value = λ y. b.value y ∙ a.value y; last = λ y h. b.last y (a.last y h) }

  -- The last value of a name that has one here or around has a variable.
  pub last_has : (ds : List Decl) (lasts : Lasts) (s : Seen) (y : List ℕ) → IsTrue (lasts_in ds lasts y) → (IsTrue (lasts y) → HasVariable (over s.0 out y).last) → HasVariable (over (remember_all k at out ds s).0 out y).last
  last_has [] lasts s y l f = f l
  last_has (d ∷ ds) lasts s y l f = by (λ z. last_has ds lasts z y) d.last (bytes_eq d.name y) refl l
    where
      by : ((z : Seen) → IsTrue (lasts_in ds lasts y) → (IsTrue (lasts y) → HasVariable (over z.0 out y).last) → HasVariable (over (remember_all k at out ds z).0 out y).last) → (o : Option Const) (b : Bool) → bytes_eq d.name y ≡ b → IsTrue (if b then (elim o [ None ↦ lasts y | Some c ↦ true ]) else lasts_in ds lasts y)
          → HasVariable (over (remember_all k at out ds (remember k at out d o s)).0 out y).last
      by again None true p q = (all_remembered ds s).last y (f q)
      by again (Some c) true p q = (all_remembered ds (remember k at out d (Some c) s)).last y (one_last d c s y p)
      by again o false p q = again (remember k at out d o s) q (λ i. (one_remembered d o s).last y (f i))
