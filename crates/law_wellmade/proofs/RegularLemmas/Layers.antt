-- What the layer of a block says of names: their variables have their types.
use Rattle.std.proofs.Common.{◌≡◌, ℕ, Bool, true, false, if◌then◌else◌, List, [], ◌∷◌, Option, None, Some, inl, inr, refl, sym, ap, subst, ◌∙◌}
use Rattle.std.specs.Prelude.{⊤, ◌||◌, ◌⊎◌, IsTrue, codes}
use Rattle.std.specs.List.{AllByRecursion}
use Rattle.std.specs.Str.{bytes_eq}
use Rattle.std.proofs.lemmas.Slice.Eq.{bytes_eq-Decides}
use Rattle.hp_base.specs.declared.ty.Const.{Const}
use Rattle.hp_obc.specs.Machines.{ObcType}
use Rattle.hp_tree.specs.Blocks.{Decl}
use Rattle.hp_tree.specs.Meaning.{declares}
use Rattle.law_values.specs.Valued.Judged.{Lasts, lasts_in}
use Rattle.hp_flat.specs.declared.node.FlatTy.{FlatTy}
use Rattle.hp_flat.specs.Equations.{register}
use Rattle.law_equations.specs.Meaning.Kinding.{HasValue}
use Rattle.law_equations.specs.Made.Sights.{Entry}
use Rattle.law_equations.specs.Made.Making.{Known, Sketch, Site, Sight, Layer, Seen, Made, Standing, Body, Inner, next, new_name, with_variable, with_new, constant_value, atom_of, over, or_entry, put, is_in, keeps_name, with_own, own_variable, own_name, own_names, remember, remember_all, named_value}
use Rattle.law_equations.proofs.MadeLemmas.LayerLaws.{is_owned}
use Rattle.law_wellmade.proofs.BegunLemmas.Keeping.{HasType, retyped, Keeps, variable_typed}
use Rattle.law_wellmade.proofs.RegularLemmas.Good.{longer, IsSeen, seen_moved, IsValue, SiteGood, site_moved, Moves, still, then_moves, value_there, variable_moves, named_moves}

pub same_name : (x y : List ℕ) → bytes_eq x y ≡ true → x ≡ y
same_name x y h = (bytes_eq-Decides x y).0 h

-- ---- one more entry

pub pick : (P : Entry → Type 0) (x : List ℕ) (v : Entry) (own : Layer) (out : Sight) (y : List ℕ) → (bytes_eq x y ≡ true → P v) → (bytes_eq x y ≡ false → P (over own out y)) → P (over (put x v own) out y)
pick P x v own out y f g = by (bytes_eq x y) refl
  where
    by : (b : Bool) → bytes_eq x y ≡ b → P (or_entry (if b then Some v else own y) (out y))
    by true e = f e
    by false e = g e

pick_layer : (P : Option Entry → Type 0) (x : List ℕ) (v : Entry) (own : Layer) (y : List ℕ) → (bytes_eq x y ≡ true → P (Some v)) → (bytes_eq x y ≡ false → P (own y)) → P (put x v own y)
pick_layer P x v own y f g = by (bytes_eq x y) refl
  where
    by : (b : Bool) → bytes_eq x y ≡ b → P (if b then Some v else own y)
    by true e = f e
    by false e = g e

-- An entry is local where its name is declared, and each name that is declared has one.
abbrev pub SaysLocal : Bool → Option Entry → Type 0
SaysLocal b None = b ≡ false
SaysLocal b (Some e) = e.is_local ≡ b

local_over : (o : Option Entry) (f : Entry) (b : Bool) → b ≡ true → SaysLocal b o → (or_entry o f).is_local ≡ b
local_over None f b t h = absurd (let r = sym t ∙ h in cc)
local_over (Some e) f b t h = h

-- each name has a type with a value
abbrev pub NamesHave : List ObcType → Sight → List (List ℕ) → Type 0
NamesHave obc see xs = AllByRecursion (λ x. HasValue obc (see x).ty) xs

have_alike : (obc : List ObcType) (see other : Sight) (xs : List (List ℕ)) → ((y : List ℕ) → (other y).ty ≡ (see y).ty) → NamesHave obc see xs → NamesHave obc other xs
have_alike obc see other [] f h = tt
have_alike obc see other (x ∷ xs) f h = (subst (λ t. HasValue obc t) (sym (f x)) h.0, have_alike obc see other xs f h.1)

-- ---- names that get variables of their own

module _ (standing : Standing) (ds : List Decl) (out : Sight) where
  step : (P : Seen → Type 0) (x : List ℕ) (s : Seen) → (is_owned standing ds x ≡ true → P (with_own ds x (over s.0 out x) s.0 (own_variable standing ds x (over s.0 out x).ty s.1))) → (is_owned standing ds x ≡ false → P s) → P (own_name standing ds out x s)
  step P x s f g = at standing f g
    where
      at : (st : Standing) → (is_owned st ds x ≡ true → P (with_own ds x (over s.0 out x) s.0 (own_variable st ds x (over s.0 out x).ty s.1))) → (is_owned st ds x ≡ false → P s) → P (own_name st ds out x s)
      at Body f g = by (declares ds x) refl
        where
          by : (b : Bool) → declares ds x ≡ b → P (if b then with_own ds x (over s.0 out x) s.0 (own_variable Body ds x (over s.0 out x).ty s.1) else s)
          by true e = f e
          by false e = g e
      at Inner f g = f refl

  variable_of : (x : List ℕ) (t : FlatTy) (d : Sketch) → Keeps d (own_variable standing ds x t d).0 × HasType (own_variable standing ds x t d).0 (own_variable standing ds x t d).1 t
  variable_of x t d = at standing
    where
      kept : (y : List ℕ) → Keeps d (with_variable y t d)
      kept y = record { kept = λ i v h. longer d.variables (record { name = y; ty = t } ∷ []) i v h }

      fresh : Keeps d (with_new x t d) × HasType (with_new x t d) (next d) t
      fresh = (kept (new_name x (next d)), variable_typed (new_name x (next d)) t d)

      at : (st : Standing) → Keeps d (own_variable st ds x t d).0 × HasType (own_variable st ds x t d).0 (own_variable st ds x t d).1 t
      at Body = by (keeps_name ds x)
        where
          by : (b : Bool) → let z : Made = if b then (with_variable x t d, next d) else (with_new x t d, next d) in Keeps d z.0 × HasType z.0 z.1 t
          by true = (kept x, variable_typed x t d)
          by false = fresh
      at Inner = fresh

  name_type : (x : List ℕ) (s : Seen) (y : List ℕ) → (over (own_name standing ds out x s).0 out y).ty ≡ (over s.0 out y).ty
  name_type x s y =
      step (λ z. (over z.0 out y).ty ≡ (over s.0 out y).ty) x s (λ e. pick (λ w. w.ty ≡ (over s.0 out y).ty) x _ s.0 out y (λ q. ap (λ z. (over s.0 out z).ty) (same_name x y q)) (λ q. refl)) (λ e. refl)

  name_last : (x : List ℕ) (s : Seen) (y : List ℕ) → (over (own_name standing ds out x s).0 out y).last ≡ (over s.0 out y).last
  name_last x s y =
      step (λ z. (over z.0 out y).last ≡ (over s.0 out y).last) x s (λ e. pick (λ w. w.last ≡ (over s.0 out y).last) x _ s.0 out y (λ q. ap (λ z. (over s.0 out z).last) (same_name x y q)) (λ q. refl)) (λ e. refl)

  name_local : (x : List ℕ) (s : Seen) (y : List ℕ) → SaysLocal (declares ds y) (s.0 y) → SaysLocal (declares ds y) ((own_name standing ds out x s).0 y)
  name_local x s y h =
      step (λ z. SaysLocal (declares ds y) (z.0 y)) x s (λ e. pick_layer (λ o. SaysLocal (declares ds y) o) x _ s.0 y (λ q. ap (λ z. declares ds z) (same_name x y q)) (λ q. h)) (λ e. h)

  name_value : (x : List ℕ) (s : Seen) (y : List ℕ) (t : FlatTy) → (over s.0 out y).ty ≡ t → ((bytes_eq x y ≡ true) × (is_owned standing ds y ≡ true)) ⊎ IsSeen s.1 (over s.0 out y).value t
      → IsSeen (own_name standing ds out x s).1 (over (own_name standing ds out x s).0 out y).value t
  name_value x s y t e h =
      let v = variable_of x (over s.0 out x).ty s.1 in
      let m = own_variable standing ds x (over s.0 out x).ty s.1 in
      step (λ z. IsSeen z.1 (over z.0 out y).value t) x s
      (λ o. pick (λ w. IsSeen m.0 w.value t) x _ s.0 out y (λ q. (m.1, refl, retyped m.0 m.1 (over s.0 out x).ty t v.1 (ap (λ z. (over s.0 out z).ty) (same_name x y q) ∙ e))) (λ q. other q h))
      (λ o. unowned o h)
    where
      other : bytes_eq x y ≡ false → ((bytes_eq x y ≡ true) × (is_owned standing ds y ≡ true)) ⊎ IsSeen s.1 (over s.0 out y).value t → IsSeen (own_variable standing ds x (over s.0 out x).ty s.1).0 (over s.0 out y).value t
      other q (inl p) = absurd (let r = sym q ∙ p.0 in cc)
      other q (inr p) = seen_moved s.1 (own_variable standing ds x (over s.0 out x).ty s.1).0 (over s.0 out y).value t (variable_of x (over s.0 out x).ty s.1).0 p

      unowned : is_owned standing ds x ≡ false → ((bytes_eq x y ≡ true) × (is_owned standing ds y ≡ true)) ⊎ IsSeen s.1 (over s.0 out y).value t → IsSeen s.1 (over s.0 out y).value t
      unowned o (inl p) = absurd (let r = sym o ∙ ap (λ z. is_owned standing ds z) (same_name x y p.0) ∙ p.1 in cc)
      unowned o (inr p) = p

  pub names_type : (xs : List (List ℕ)) (s : Seen) (y : List ℕ) → (over (own_names standing ds out xs s).0 out y).ty ≡ (over s.0 out y).ty
  names_type [] s y = refl
  names_type (x ∷ xs) s y = names_type xs (own_name standing ds out x s) y ∙ name_type x s y

  pub names_last : (xs : List (List ℕ)) (s : Seen) (y : List ℕ) → (over (own_names standing ds out xs s).0 out y).last ≡ (over s.0 out y).last
  names_last [] s y = refl
  names_last (x ∷ xs) s y = names_last xs (own_name standing ds out x s) y ∙ name_last x s y

  pub names_local : (xs : List (List ℕ)) (s : Seen) (y : List ℕ) → SaysLocal (declares ds y) (s.0 y) → SaysLocal (declares ds y) ((own_names standing ds out xs s).0 y)
  names_local [] s y h = h
  names_local (x ∷ xs) s y h = names_local xs (own_name standing ds out x s) y (name_local x s y h)

  pub names_value : (xs : List (List ℕ)) (s : Seen) (y : List ℕ) (t : FlatTy) → (over s.0 out y).ty ≡ t → ((is_in xs y ≡ true) × (is_owned standing ds y ≡ true)) ⊎ IsSeen s.1 (over s.0 out y).value t
      → IsSeen (own_names standing ds out xs s).1 (over (own_names standing ds out xs s).0 out y).value t
  names_value [] s y t e (inl p) = absurd (let r = p.0 in cc)
  names_value [] s y t e (inr p) = p
  names_value (x ∷ xs) s y t e (inr p) = names_value xs (own_name standing ds out x s) y t (name_type x s y ∙ e) (inr (name_value x s y t e (inr p)))
  names_value (x ∷ xs) s y t e (inl p) = names_value xs (own_name standing ds out x s) y t (name_type x s y ∙ e) (by (bytes_eq x y) refl p.0)
    where
      by : (b : Bool) → bytes_eq x y ≡ b → (b || is_in xs y) ≡ true
          → ((is_in xs y ≡ true) × (is_owned standing ds y ≡ true)) ⊎ IsSeen (own_name standing ds out x s).1 (over (own_name standing ds out x s).0 out y).value t
      by true q r = inr (name_value x s y t e (inl (q, p.1)))
      by false q r = inl (r, p.1)

  module _ (obc : List ObcType) (k : Known) where
    variable_moved : (x : List ℕ) (t : FlatTy) (d : Sketch) → HasValue obc t → Moves obc k d (own_variable standing ds x t d).0
    variable_moved x t d h = at standing
      where
        fresh : Moves obc k d (with_new x t d)
        fresh = variable_moves obc k (new_name x (next d)) t d (λ g. h)

        at : (st : Standing) → Moves obc k d (own_variable st ds x t d).0
        at Body = by (keeps_name ds x)
          where
            by : (b : Bool) → let z : Made = if b then (with_variable x t d, next d) else (with_new x t d, next d) in Moves obc k d z.0
            by true = variable_moves obc k x t d (λ g. h)
            by false = fresh
        at Inner = fresh

    name_moves : (x : List ℕ) (s : Seen) → HasValue obc (over s.0 out x).ty → Moves obc k s.1 (own_name standing ds out x s).1
    name_moves x s h = step (λ z. Moves obc k s.1 z.1) x s (λ e. variable_moved x (over s.0 out x).ty s.1 h) (λ e. still obc k s.1)

    pub names_move : (xs : List (List ℕ)) (s : Seen) → NamesHave obc (over s.0 out) xs → Moves obc k s.1 (own_names standing ds out xs s).1
    names_move [] s h = still obc k s.1
    names_move (x ∷ xs) s h =
        let n = own_name standing ds out x s in
        then_moves obc k s.1 n.1 (own_names standing ds out xs n).1 (name_moves x s h.0) (names_move xs n (have_alike obc (over s.0 out) (over n.0 out) xs (name_type x s) h.1))

-- ---- last values

-- all these are among the declarations
abbrev pub AllIn : List Decl → List Decl → Type 0
AllIn all [] = ⊤
AllIn all (d ∷ ds) = (declares all d.name ≡ true) × AllIn all ds

-- a first value of a declaration is of its type
abbrev pub FirstGood : List ObcType → Known → FlatTy → Option Const → Type 0
FirstGood obc k t None = ⊤
FirstGood obc k t (Some c) = IsValue obc t (constant_value k c)

module _ (obc : List ObcType) (k : Known) (at : Site) (out : Sight) where
  -- What remembering last values leaves as it was.
  pub record Remembered (s z : Seen) : Type 0 where
    pub moves : Moves obc k s.1 z.1
    pub value : (y : List ℕ) → (over z.0 out y).value ≡ (over s.0 out y).value
    pub ty : (y : List ℕ) → (over z.0 out y).ty ≡ (over s.0 out y).ty
    pub last : (y : List ℕ) (t : FlatTy) → (over s.0 out y).ty ≡ t → IsSeen s.1 (over s.0 out y).last t → IsSeen z.1 (over z.0 out y).last t

  none_remembered : (s : Seen) → Remembered s s
  none_remembered s = record { moves = still obc k s.1; value = λ y. refl; ty = λ y. refl; last = λ y t e h. h }

  both_remembered : (s w z : Seen) → Remembered s w → Remembered w z → Remembered s z
  both_remembered s w z a b =
      record { moves = then_moves obc k s.1 w.1 z.1 a.moves b.moves; value = λ y. b.value y ∙ a.value y; ty = λ y. b.ty y ∙ a.ty y; last = λ y t e h. b.last y t (a.ty y ∙ e) (a.last y t e h) }

  abbrev pub DeclReady : Seen → Decl → Type 0
  DeclReady s d = IsSeen s.1 (over s.0 out d.name).value (over s.0 out d.name).ty × FirstGood obc k (over s.0 out d.name).ty d.last

  abbrev pub DeclsReady : Seen → List Decl → Type 0
  DeclsReady s [] = ⊤
  DeclsReady s (d ∷ ds) = DeclReady s d × DeclsReady s ds

  ready_kept : (s z : Seen) (ds : List Decl) → Remembered s z → DeclsReady s ds → DeclsReady z ds
  ready_kept s z [] r h = tt
  ready_kept s z (d ∷ ds) r h =
      let v : IsSeen z.1 (over s.0 out d.name).value (over s.0 out d.name).ty = seen_moved s.1 z.1 (over s.0 out d.name).value (over s.0 out d.name).ty r.moves.keeps h.0.0 in
      let w : IsSeen z.1 (over z.0 out d.name).value (over z.0 out d.name).ty =
      subst (λ o. IsSeen z.1 o (over z.0 out d.name).ty) (sym (r.value d.name)) (subst (λ t. IsSeen z.1 (over s.0 out d.name).value t) (sym (r.ty d.name)) v) in
      ((w, subst (λ t. FirstGood obc k t d.last) (sym (r.ty d.name)) h.0.1), ready_kept s z ds r h.1)

  one_moves : (d : Decl) (c : Const) (s : Seen) → SiteGood obc s.1 at → IsSeen s.1 (over s.0 out d.name).value (over s.0 out d.name).ty → IsValue obc (over s.0 out d.name).ty (constant_value k c)
      → Moves obc k s.1 (remember k at out d (Some c) s).1
  one_moves d c s g v h =
      let e = over s.0 out d.name in
      subst (λ o. Moves obc k s.1 (remember_from o)) (sym v.1) (named_moves obc k at (codes "last") e.ty (register (constant_value k c) (atom_of (Some v.0))) s.1 g (value_there obc k s.1 v.0 e.ty v.2) (λ i. (e.ty, h, v.2, refl)))
    where
      remember_from : Option ℕ → Sketch
      remember_from o = (named_value at (codes "last") (over s.0 out d.name).ty (register (constant_value k c) (atom_of o)) s.1).0

  one_last : (d : Decl) (c : Const) (s : Seen) (y : List ℕ) (t : FlatTy) → (over s.0 out y).ty ≡ t → bytes_eq d.name y ≡ true → IsSeen (remember k at out d (Some c) s).1 (over (remember k at out d (Some c) s).0 out y).last t
  one_last d c s y t e q =
      let z = remember k at out d (Some c) s in
      let u = (over s.0 out d.name).ty in
      pick (λ w. IsSeen z.1 w.last t) d.name _ s.0 out y
      (λ p. (next s.1, refl, retyped z.1 (next s.1) u t (variable_typed (new_name (codes "last") (next s.1)) u s.1) (ap (λ z. (over s.0 out z).ty) (same_name d.name y p) ∙ e)))
      (λ p. absurd (let r = sym p ∙ q in cc))

  one_remembered : (d : Decl) (o : Option Const) (s : Seen) → SiteGood obc s.1 at → IsSeen s.1 (over s.0 out d.name).value (over s.0 out d.name).ty → FirstGood obc k (over s.0 out d.name).ty o → Remembered s (remember k at out d o s)
  one_remembered d None s g v h = none_remembered s
  one_remembered d (Some c) s g v h =
      let z = remember k at out d (Some c) s in
      let m = one_moves d c s g v h in
      record {
        moves = m;
        value = λ y. pick (λ w. w.value ≡ (over s.0 out y).value) d.name _ s.0 out y (λ p. ap (λ x. (over s.0 out x).value) (same_name d.name y p)) (λ p. refl);
        ty = λ y. pick (λ w. w.ty ≡ (over s.0 out y).ty) d.name _ s.0 out y (λ p. ap (λ x. (over s.0 out x).ty) (same_name d.name y p)) (λ p. refl);
        last = λ y t e q. by y t e q (bytes_eq d.name y) refl;
      }
    where
      by : (y : List ℕ) (t : FlatTy) → (over s.0 out y).ty ≡ t → IsSeen s.1 (over s.0 out y).last t → (b : Bool) → bytes_eq d.name y ≡ b → IsSeen (remember k at out d (Some c) s).1 (over (remember k at out d (Some c) s).0 out y).last t
      by y t e q true p = one_last d c s y t e p
      by y t e q false p =
          let z = remember k at out d (Some c) s in
          pick (λ w. IsSeen z.1 w.last t) d.name _ s.0 out y (λ r. absurd (let n = sym p ∙ r in cc)) (λ r. seen_moved s.1 z.1 (over s.0 out y).last t (one_moves d c s g v h).keeps q)

  pub all_remembered : (ds : List Decl) (s : Seen) → SiteGood obc s.1 at → DeclsReady s ds → Remembered s (remember_all k at out ds s)
  all_remembered [] s g h = none_remembered s
  all_remembered (d ∷ ds) s g h =
      let z = remember k at out d d.last s in
      let r = one_remembered d d.last s g h.0.0 h.0.1 in
      both_remembered s z (remember_all k at out ds z) r (all_remembered ds z (site_moved obc s.1 z.1 at r.moves.keeps g) (ready_kept s z ds r h.1))

  -- The last value of a name that has one here or around is seen.
  pub last_seen : (ds : List Decl) (lasts : Lasts) (s : Seen) (y : List ℕ) (t : FlatTy) → SiteGood obc s.1 at → DeclsReady s ds → (over s.0 out y).ty ≡ t → IsTrue (lasts_in ds lasts y) → (IsTrue (lasts y) → IsSeen s.1 (over s.0 out y).last t)
      → IsSeen (remember_all k at out ds s).1 (over (remember_all k at out ds s).0 out y).last t
  last_seen [] lasts s y t g h e l f = f l
  last_seen (d ∷ ds) lasts s y t g h e l f = by (λ z. last_seen ds lasts z y t) d.last h.0.1 (bytes_eq d.name y) refl l
    where
      rest : (o : Option Const) → FirstGood obc k (over s.0 out d.name).ty o → IsSeen (remember k at out d o s).1 (over (remember k at out d o s).0 out y).last t
          → IsSeen (remember_all k at out ds (remember k at out d o s)).1 (over (remember_all k at out ds (remember k at out d o s)).0 out y).last t
      rest o w q =
          let z = remember k at out d o s in
          let r = one_remembered d o s g h.0.0 w in
          (all_remembered ds z (site_moved obc s.1 z.1 at r.moves.keeps g) (ready_kept s z ds r h.1)).last y t (r.ty y ∙ e) q

      by : ((z : Seen) → SiteGood obc z.1 at → DeclsReady z ds → (over z.0 out y).ty ≡ t → IsTrue (lasts_in ds lasts y) → (IsTrue (lasts y) → IsSeen z.1 (over z.0 out y).last t)
          → IsSeen (remember_all k at out ds z).1 (over (remember_all k at out ds z).0 out y).last t)
          → (o : Option Const) → FirstGood obc k (over s.0 out d.name).ty o → (b : Bool) → bytes_eq d.name y ≡ b → IsTrue (if b then (elim o [ None ↦ lasts y | Some c ↦ true ]) else lasts_in ds lasts y)
          → IsSeen (remember_all k at out ds (remember k at out d o s)).1 (over (remember_all k at out ds (remember k at out d o s)).0 out y).last t
      by again None w true p q = rest None w (f q)
      by again (Some c) w true p q = rest (Some c) w (one_last d c s y t e p)
      by again o w false p q =
          let z = remember k at out d o s in
          let r = one_remembered d o s g h.0.0 w in
          again z (site_moved obc s.1 z.1 at r.moves.keeps g) (ready_kept s z ds r h.1) (r.ty y ∙ e) q (λ i. r.last y t e (f i))

  -- ---- what is local

  one_local : (all : List Decl) (d : Decl) (o : Option Const) (s : Seen) (y : List ℕ) → declares all d.name ≡ true → ((x : List ℕ) → SaysLocal (declares all x) (s.0 x)) → SaysLocal (declares all y) ((remember k at out d o s).0 y)
  one_local all d None s y t h = h y
  one_local all d (Some c) s y t h =
      pick_layer (λ w. SaysLocal (declares all y) w) d.name _ s.0 y (λ q. local_over (s.0 d.name) (out d.name) (declares all d.name) t (h d.name) ∙ ap (λ z. declares all z) (same_name d.name y q)) (λ q. h y)

  pub all_local : (all ds : List Decl) (s : Seen) → AllIn all ds → ((x : List ℕ) → SaysLocal (declares all x) (s.0 x)) → (y : List ℕ) → SaysLocal (declares all y) ((remember_all k at out ds s).0 y)
  all_local all [] s i h y = h y
  all_local all (d ∷ ds) s i h y = all_local all ds (remember k at out d d.last s) i.1 (λ x. one_local all d d.last s x i.0 h) y
