-- The last values of what a block declares.
use Rattle.std.proofs.Common.{◌≡◌, ℕ, Bool, true, false, ◌||◌, if◌then◌else◌, List, [], ◌∷◌, Option, None, Some, codes, refl, sym, ap, ap₂, subst, ◌∙◌}
use Rattle.std.specs.Prelude.{⊤}
use Rattle.std.specs.Str.{bytes_eq}
use Rattle.hp_base.specs.declared.ty.Const.{Const}
use Rattle.hp_tree.specs.Blocks.{Decl}
use Rattle.hp_tree.specs.Programs.{TypeDecl}
use Rattle.hp_tree.specs.Operators.{constant_of}
use Rattle.hp_tree.specs.Instant.{Named, Place}
use Rattle.hp_tree.specs.Meaning.{declares}
use Rattle.hp_flat.specs.Equations.{register}
use Rattle.law_equations.specs.Flattened.Flat.{name, Register}
use Rattle.law_equations.specs.Flattened.Flatten.{FlatName, At, Held, When, Rows, Prefix, Scope, lasts_at}
use Rattle.law_equations.specs.Flattened.Numbered.{IsArg}
use Rattle.law_equations.specs.Made.Making.{Known, Site, Sight, Layer, Seen, next, atom_of, constant_value, or_entry, over, remember, remember_all}
use Rattle.law_equations.specs.Made.Blocks.{DeclaredOnce}
use Rattle.law_equations.specs.Made.Sights.{Entry}
use Rattle.law_equations.specs.Made.Keeping.{LastKept, LastsKept}
use Rattle.law_equations.specs.Made.Standing.{Knows, IsNamed, IsAt, IsBounded, Steps, Promised, Remembers}
use Rattle.law_equations.proofs.MadeLemmas.StepLaws.{both, same, value-steps}
use Rattle.law_equations.proofs.MadeLemmas.PromiseLaws.{joined, other, none, one-value}
use Rattle.law_equations.proofs.MadeLemmas.LayerLaws.{same_name, is_same}

-- ---- layers that differ in last values alone

abbrev pub Alike : Option Entry → Option Entry → Type 0
Alike None None = ⊤
Alike (Some e) (Some f) = (e.value ≡ f.value) × (e.is_local ≡ f.is_local)
Alike o p = ⊥

alike_same : (o : Option Entry) → Alike o o
alike_same None = tt
alike_same (Some e) = (refl, refl)

alike_trans : (o p q : Option Entry) → Alike o p → Alike p q → Alike o q
alike_trans None None None a b = tt
alike_trans (Some e) (Some f) (Some g) a b = (a.0 ∙ b.0, a.1 ∙ b.1)
alike_trans None None (Some g) a b = absurd b
alike_trans None (Some f) q a b = absurd a
alike_trans (Some e) None q a b = absurd a
alike_trans (Some e) (Some f) None a b = absurd b

-- what is declared stands for something
abbrev pub Here : List Decl → Layer → Type 0
Here ds layer = (x : List ℕ) → declares ds x ≡ true → (e : Entry) × (layer x ≡ Some e)

alike_here : (o p : Option Entry) → Alike o p → (e : Entry) × (o ≡ Some e) → (e : Entry) × (p ≡ Some e)
alike_here o None a h = absurd (subst (λ o. Alike o None) h.1 a)
alike_here o (Some f) a h = (f, refl)

pub alike_value : (o p : Option Entry) (e : Entry) → Alike o p → (or_entry o e).value ≡ (or_entry p e).value
alike_value None None e a = refl
alike_value (Some f) (Some g) e a = a.0
alike_value None (Some f) e a = absurd a
alike_value (Some f) None e a = absurd a

-- ---- the scope of last values, one declaration after the other

lasts_undeclared : (types : List TypeDecl) (ds : List Decl) (lsc : Scope) (here : Prefix) (ck : When) (rs : List Place) (x : List ℕ) → declares ds x ≡ false → lasts_at types ds lsc here ck rs x ≡ lsc x
lasts_undeclared types [] lsc here ck rs x h = refl
lasts_undeclared types (d ∷ ds) lsc here ck rs x h = by (bytes_eq d.name x) (lasts_undeclared types ds lsc here ck rs x) h
  where
    by : (b : Bool) → (declares ds x ≡ false → lasts_at types ds lsc here ck rs x ≡ lsc x) → (b || declares ds x) ≡ false
        → (if b then (elim d.last [ None ↦ lsc x | Some c ↦ Held (constant_of types c) (here (Named x ∷ [])) ck rs ]) else lasts_at types ds lsc here ck rs x) ≡ lsc x
    by true ih q = absurd cc
    by false ih q = ih q

lasts_same : (types : List TypeDecl) (ds : List Decl) (lsc other : Scope) (here : Prefix) (ck : When) (rs : List Place) (x : List ℕ) → lsc x ≡ other x → lasts_at types ds lsc here ck rs x ≡ lasts_at types ds other here ck rs x
lasts_same types [] lsc other here ck rs x h = h
lasts_same types (d ∷ ds) lsc other here ck rs x h =
    ap₂ (λ a b. if bytes_eq d.name x then (elim d.last [ None ↦ a | Some c ↦ Held (constant_of types c) (here (Named x ∷ [])) ck rs ]) else b) h (lasts_same types ds lsc other here ck rs x h)

module _ (types : List TypeDecl) (outputs : List ℕ → List (List ℕ)) (k : Known) (knows : Knows types outputs k) (F : FlatName → Option Rows) (memory : Remembers F) (at : Site) (out : Sight) (here : Prefix) (ck : When) (rs : List Place) where
  abbrev held : Const → List ℕ → FlatName
  held c x = Held (constant_of types c) (here (Named x ∷ [])) ck rs

  abbrev with_held : List ℕ → Const → Scope → Scope
  with_held y c lsc x = if bytes_eq y x then Held (constant_of types c) (here (Named x ∷ [])) ck rs else lsc x

  lasts_none : (d : Decl) (ds : List Decl) (lsc : Scope) (x : List ℕ) → d.last ≡ None → declares ds d.name ≡ false → lasts_at types ds lsc here ck rs x ≡ lasts_at types (d ∷ ds) lsc here ck rs x
  lasts_none d ds lsc x h once = by (bytes_eq d.name x) refl
    where
      by : (b : Bool) → bytes_eq d.name x ≡ b
          → lasts_at types ds lsc here ck rs x ≡ (if b then (elim d.last [ None ↦ lsc x | Some c ↦ Held (constant_of types c) (here (Named x ∷ [])) ck rs ]) else lasts_at types ds lsc here ck rs x)
      by false e = refl
      by true e = lasts_undeclared types ds lsc here ck rs x (ap (declares ds) (sym (same_name d.name x e)) ∙ once)
          ∙ ap (λ o. elim o [ None ↦ lsc x | Some c ↦ Held (constant_of types c) (here (Named x ∷ [])) ck rs ]) (sym h)

  lasts_some : (d : Decl) (c : Const) (ds : List Decl) (lsc : Scope) (x : List ℕ) → d.last ≡ Some c → declares ds d.name ≡ false
      → lasts_at types ds (with_held d.name c lsc) here ck rs x ≡ lasts_at types (d ∷ ds) lsc here ck rs x
  lasts_some d c ds lsc x h once = by (bytes_eq d.name x) refl
    where
      by : (b : Bool) → bytes_eq d.name x ≡ b → lasts_at types ds (with_held d.name c lsc) here ck rs x
          ≡ (if b then (elim d.last [ None ↦ lsc x | Some c ↦ Held (constant_of types c) (here (Named x ∷ [])) ck rs ]) else lasts_at types ds lsc here ck rs x)
      by false e = lasts_same types ds (with_held d.name c lsc) lsc here ck rs x (ap (λ b. if b then Held (constant_of types c) (here (Named x ∷ [])) ck rs else lsc x) e)
      by true e = lasts_undeclared types ds (with_held d.name c lsc) here ck rs x (ap (declares ds) (sym (same_name d.name x e)) ∙ once)
          ∙ ap (λ b. if b then Held (constant_of types c) (here (Named x ∷ [])) ck rs else lsc x) e
          ∙ ap (λ o. elim o [ None ↦ lsc x | Some c ↦ Held (constant_of types c) (here (Named x ∷ [])) ck rs ]) (sym h)

  -- ---- one declaration

  abbrev Lasts : (ℕ → FlatName) → Layer → Scope → Type 0
  Lasts means layer lsc = (x : List ℕ) → IsNamed means (over layer out x).last (lsc x)

  abbrev Values : (ℕ → FlatName) → List Decl → Layer → Type 0
  Values means ds layer = (x : List ℕ) → declares ds x ≡ true → IsNamed means (over layer out x).value (At (here (Named x ∷ [])))

  as_argument : (means : ℕ → FlatName) (o : Option ℕ) (a : FlatName) → IsNamed means o a → IsArg means (atom_of o) (name a)
  as_argument means None a h = (refl, h)
  as_argument means (Some x) a h = h

  one_remembered : (d : Decl) (c : Const) (s : Seen) → memory.keeps (held c d.name)
      → Promised memory.keeps s.1 (remember k at out d (Some c) s).1
      (λ means. IsBounded s.1 → IsAt means at ck rs → IsNamed means (over s.0 out d.name).value (At (here (Named d.name ∷ []))) → Steps F means s.1 (remember k at out d (Some c) s).1 × (means (next s.1) ≡ held c d.name))
  one_remembered d c s keep =
      let e = over s.0 out d.name in
      other s.1 (remember k at out d (Some c) s).1 (λ means. means (next s.1) ≡ held c d.name) _
      (one-value memory.keeps at (codes "last") e.ty (register (constant_value k c) (atom_of e.value)) s.1 (held c d.name) refl keep)
      (λ means q b i n. (
        value-steps F means at (codes "last") e.ty (register (constant_value k c) (atom_of e.value)) s.1 ck rs (Register (constant_of types c) (name (At (here (Named d.name ∷ []))))) b i
            (sym (knows.constants c), as_argument means e.value (At (here (Named d.name ∷ []))) n) (ap F q ∙ memory.held (constant_of types c) (here (Named d.name ∷ [])) ck rs),
        q,
      ))

  last_put : (means : ℕ → FlatName) (d : Decl) (c : Const) (s : Seen) (lsc : Scope) → means (next s.1) ≡ held c d.name → Lasts means s.0 lsc → Lasts means (remember k at out d (Some c) s).0 (with_held d.name c lsc)
  last_put means d c s lsc q l x = by (bytes_eq d.name x) refl
    where
      e : Entry
      e = record { ty = (over s.0 out d.name).ty; value = (over s.0 out d.name).value; last = Some (next s.1); is_local = (over s.0 out d.name).is_local }

      by : (b : Bool) → bytes_eq d.name x ≡ b → IsNamed means (or_entry (if b then Some e else s.0 x) (out x)).last (if b then Held (constant_of types c) (here (Named x ∷ [])) ck rs else lsc x)
      by false f = l x
      by true f = q ∙ ap (held c) (same_name d.name x f)

  alike_one : (d : Decl) (o : Option Const) (s : Seen) → (e : Entry) × (s.0 d.name ≡ Some e) → (x : List ℕ) → Alike (s.0 x) ((remember k at out d o s).0 x)
  alike_one d None s h x = alike_same (s.0 x)
  alike_one d (Some c) s h x = by (bytes_eq d.name x) refl
    where
      e : Entry
      e = record { ty = (over s.0 out d.name).ty; value = (over s.0 out d.name).value; last = Some (next s.1); is_local = (over s.0 out d.name).is_local }

      by : (b : Bool) → bytes_eq d.name x ≡ b → Alike (s.0 x) (if b then Some e else s.0 x)
      by false f = alike_same (s.0 x)
      by true f =
          subst (λ x. Alike (s.0 x) (Some e)) (same_name d.name x f)
          (subst (λ o. Alike o (Some e)) (sym h.1) (sym (ap (λ o. (or_entry o (out d.name)).value) h.1), sym (ap (λ o. (or_entry o (out d.name)).is_local) h.1)))

  or_right : (a b : Bool) → b ≡ true → (a || b) ≡ true
  or_right true b h = refl
  or_right false b h = h

  is_first : (d : Decl) (ds : List Decl) → declares (d ∷ ds) d.name ≡ true
  is_first d ds = ap (λ b. b || declares ds d.name) (is_same d.name)

  here_next : (d : Decl) (ds : List Decl) (o : Option Const) (s : Seen) → Here (d ∷ ds) s.0 → Here ds (remember k at out d o s).0
  here_next d ds o s h x q = alike_here (s.0 x) ((remember k at out d o s).0 x) (alike_one d o s (h d.name (is_first d ds)) x) (h x (or_right (bytes_eq d.name x) (declares ds x) q))

  -- ---- all of them

  pub alike-all : (ds : List Decl) (s : Seen) → Here ds s.0 → (x : List ℕ) → Alike (s.0 x) ((remember_all k at out ds s).0 x)
  alike-all [] s h x = alike_same (s.0 x)
  alike-all (d ∷ ds) s h x =
      alike_trans (s.0 x) ((remember k at out d d.last s).0 x) ((remember_all k at out (d ∷ ds) s).0 x) (alike_one d d.last s (h d.name (is_first d ds)) x)
      (alike-all ds (remember k at out d d.last s) (here_next d ds d.last s h) x)

  flag_one : (d : Decl) (o : Option Const) (s : Seen) → (remember k at out d o s).1.flag ≡ s.1.flag
  flag_one d None s = refl
  flag_one d (Some c) s = refl

  pub flag-all : (ds : List Decl) (s : Seen) → (remember_all k at out ds s).1.flag ≡ s.1.flag
  flag-all [] s = refl
  flag-all (d ∷ ds) s = flag-all ds (remember k at out d d.last s) ∙ flag_one d d.last s

  abbrev pub Remembering : List Decl → Scope → Seen → Seen → (ℕ → FlatName) → Type 0
  Remembering ds lsc s r means = IsBounded s.1 → IsAt means at ck rs → Values means ds s.0 → Lasts means s.0 lsc → Steps F means s.1 r.1 × Lasts means r.0 (lasts_at types ds lsc here ck rs)

  pub remembered-made : (ds : List Decl) (lsc : Scope) (s : Seen) → DeclaredOnce ds → Here ds s.0 → LastsKept memory.keeps types ds here ck rs → Promised memory.keeps s.1 (remember_all k at out ds s).1 (Remembering ds lsc s (remember_all k at out ds s))
  remembered-made [] lsc s once h keep = none s.1 _ (λ means b i v l. (same F means s.1 b, l))
  remembered-made (d ∷ ds) lsc s once h keep =
      by d.last refl keep.0 (λ o c. remembered-made ds (with_held d.name c lsc) (remember k at out d o s) once.1 (here_next d ds o s h) keep.1) (remembered-made ds lsc s once.1 (here_next d ds None s h) keep.1)
    where
      by : (o : Option Const) → d.last ≡ o → LastKept memory.keeps types o d.name here ck rs
          → ((o : Option Const) (c : Const) → Promised memory.keeps (remember k at out d o s).1 (remember_all k at out ds (remember k at out d o s)).1
          (Remembering ds (with_held d.name c lsc) (remember k at out d o s) (remember_all k at out ds (remember k at out d o s))))
          → Promised memory.keeps s.1 (remember_all k at out ds s).1 (Remembering ds lsc s (remember_all k at out ds s))
          → Promised memory.keeps s.1 (remember_all k at out ds (remember k at out d o s)).1 (Remembering (d ∷ ds) lsc s (remember_all k at out ds (remember k at out d o s)))
      by None e kept _ rest =
          other s.1 (remember_all k at out ds s).1 (Remembering ds lsc s (remember_all k at out ds s)) _ rest
          (λ means f b i v l.
          let g = f b i (λ x q. v x (or_right (bytes_eq d.name x) (declares ds x) q)) l in
          (g.0, λ x. subst (IsNamed means (over (remember_all k at out ds s).0 out x).last) (lasts_none d ds lsc x e once.0) (g.1 x)))
      by (Some c) e kept rest _ =
          let s' = remember k at out d (Some c) s in
          let r = remember_all k at out ds s' in
          joined s.1 s'.1 r.1
          (λ means. IsBounded s.1 → IsAt means at ck rs → IsNamed means (over s.0 out d.name).value (At (here (Named d.name ∷ []))) → Steps F means s.1 s'.1 × (means (next s.1) ≡ held c d.name))
          (Remembering ds (with_held d.name c lsc) s' r) _ (one_remembered d c s kept) (rest (Some c) c)
          (λ means p f b i v l.
          let one = p b i (v d.name (is_first d ds)) in
          let g = f one.0.bounded i
          (λ x q. subst (λ o. IsNamed means o (At (here (Named x ∷ [])))) (alike_value (s.0 x) (s'.0 x) (out x) (alike_one d (Some c) s (h d.name (is_first d ds)) x)) (v x (or_right (bytes_eq d.name x) (declares ds x) q)))
          (last_put means d c s lsc one.1 l) in
          (both F means s.1 s'.1 r.1 one.0 g.0, λ x. subst (IsNamed means (over r.0 out x).last) (lasts_some d c ds lsc x e once.0) (g.1 x)))
