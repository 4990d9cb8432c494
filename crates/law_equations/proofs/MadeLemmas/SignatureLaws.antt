-- The variables of the inputs and outputs of a node.
use Rattle.std.proofs.Common.{◌≡◌, ◌⊎◌, inl, inr, ℕ, suc, ◌+◌, ◌<◌, ◌≤◌, Bool, true, false, ◌||◌, if◌then◌else◌, List, [], ◌∷◌, length, Option, None, Some, refl, sym, ap, subst, ◌∙◌, arith}
use Rattle.std.specs.Str.{bytes_eq}
use Rattle.std.specs.List.{AllByRecursion}
use Rattle.hp_tree.specs.Blocks.{Decl}
use Rattle.hp_tree.specs.Meaning.{declares}
use Rattle.law_equations.specs.Flattened.Flatten.{FlatName}
use Rattle.law_equations.specs.Made.Making.{Known, Seen, next, put, with_variable, flat_type, signed}
use Rattle.law_equations.specs.Made.Blocks.{DeclaredOnce}
use Rattle.law_equations.specs.Made.Sights.{Entry}
use Rattle.law_equations.specs.Made.Keeping.{IsKept}
use Rattle.law_equations.specs.Made.Standing.{Agrees}
use Rattle.law_equations.proofs.MadeLemmas.StepLaws.{length_more, split_at}
use Rattle.law_equations.proofs.MadeLemmas.LayerLaws.{same_name, is_same}

-- the flat names of declared variables, in order
abbrev pub targets : (List ℕ → FlatName) → List Decl → List FlatName
targets target [] = []
targets target (d ∷ ds) = target d.name ∷ targets target ds

pub targets_length : (target : List ℕ → FlatName) (ds : List Decl) → length (targets target ds) ≡ length ds
targets_length target [] = refl
targets_length target (d ∷ ds) = ap suc (targets_length target ds)

pub targets_kept : (K : FlatName → Type 0) (target : List ℕ → FlatName) → ((x : List ℕ) → IsKept K (target x)) → (ds : List Decl) → AllByRecursion (IsKept K) (targets target ds)
targets_kept K target h [] = tt
targets_kept K target h (d ∷ ds) = (h d.name, targets_kept K target h ds)

-- a name that is signed has a variable, and no last value
pub record IsSignedAs (target : List ℕ → FlatName) (ds : List Decl) (n : ℕ) (x : List ℕ) (o : Option Entry) : Type 0 where
  pub entry : Entry
  pub is : o ≡ Some entry
  pub last : entry.last ≡ None
  pub variable : ℕ
  pub value : entry.value ≡ Some variable
  pub above : n ≤ variable
  pub below : variable < n + length ds
  pub stands : (means : ℕ → FlatName) → Agrees means n (targets target ds) → means variable ≡ target x

pub record AreSigned (target : List ℕ → FlatName) (ds : List Decl) (s r : Seen) : Type 0 where
  pub eqns : r.1.eqns ≡ s.1.eqns
  pub flag : r.1.flag ≡ s.1.flag
  pub grown : next r.1 ≡ next s.1 + length ds
  pub own : (x : List ℕ) → declares ds x ≡ true → IsSignedAs target ds (next s.1) x (r.0 x)
  pub others : (x : List ℕ) → declares ds x ≡ false → r.0 x ≡ s.0 x
  pub each : (y : ℕ) → next s.1 ≤ y → y < next r.1 → (x : List ℕ) × (declares ds x ≡ true) × (e : Entry) × (r.0 x ≡ Some e) × (e.value ≡ Some y)

module _ (k : Known) (target : List ℕ → FlatName) where
  -- one of them
  abbrev sign : Decl → Seen → Seen
  sign d s = (put d.name (record { ty = flat_type k.types d.ty; value = Some (next s.1); last = None; is_local = true }) s.0, with_variable d.name (flat_type k.types d.ty) s.1)

  pub signed-made : (ds : List Decl) (s : Seen) → DeclaredOnce ds → AreSigned target ds s (signed k ds s)
  signed-made [] s once = record { eqns = refl; flag = refl; grown = omega arith; own = λ x q. absurd cc; others = λ x q. refl; each = λ y l u. absurd (omega arith) }
  signed-made (d ∷ ds) s once =
      let m = signed-made ds (sign d s) once.1 in
      let one : next (sign d s).1 ≡ next s.1 + 1 = length_more s.1.variables _ in
      let wide = m.grown in
      record {
        eqns = m.eqns;
        flag = m.flag;
        grown = omega (arith, one, wide);
        own = λ x q. by x (bytes_eq d.name x) refl q one m;
        others = λ x q. past x (bytes_eq d.name x) refl q m;
        each = λ y l u. found y l u one (split_at y (next s.1 + 1)) m;
      }
    where
      entry : Entry
      entry = record { ty = flat_type k.types d.ty; value = Some (next s.1); last = None; is_local = true }

      mine : AreSigned target ds (sign d s) (signed k ds (sign d s)) → (signed k ds (sign d s)).0 d.name ≡ Some entry
      mine m = m.others d.name once.0 ∙ ap (λ b. if b then Some entry else s.0 d.name) (is_same d.name)

      first : AreSigned target ds (sign d s) (signed k ds (sign d s)) → IsSignedAs target (d ∷ ds) (next s.1) d.name ((signed k ds (sign d s)).0 d.name)
      first m = record { entry = entry; is = mine m; last = refl; variable = next s.1; value = refl; above = omega arith; below = omega arith; stands = λ means a. a.0 }

      rest : (x : List ℕ) → next (sign d s).1 ≡ next s.1 + 1 → (o : Option Entry) → IsSignedAs target ds (next (sign d s).1) x o → IsSignedAs target (d ∷ ds) (next s.1) x o
      rest x one o f =
          let g = f.above in let h = f.below in
          record {
            entry = f.entry;
            is = f.is;
            last = f.last;
            variable = f.variable;
            value = f.value;
            above = omega (arith, g, one);
            below = omega (arith, h, one);
            stands = λ means a. f.stands means (subst (λ n. Agrees means n (targets target ds)) (sym one) a.1);
          }

      by : (x : List ℕ) (b : Bool) → bytes_eq d.name x ≡ b → (b || declares ds x) ≡ true → next (sign d s).1 ≡ next s.1 + 1 → AreSigned target ds (sign d s) (signed k ds (sign d s))
          → IsSignedAs target (d ∷ ds) (next s.1) x ((signed k ds (sign d s)).0 x)
      by x true h q one m = subst (λ x. IsSignedAs target (d ∷ ds) (next s.1) x ((signed k ds (sign d s)).0 x)) (same_name d.name x h) (first m)
      by x false h q one m = rest x one ((signed k ds (sign d s)).0 x) (m.own x q)

      past : (x : List ℕ) (b : Bool) → bytes_eq d.name x ≡ b → (b || declares ds x) ≡ false → AreSigned target ds (sign d s) (signed k ds (sign d s)) → (signed k ds (sign d s)).0 x ≡ s.0 x
      past x true h q m = absurd cc
      past x false h q m = m.others x q ∙ ap (λ b. if b then Some entry else s.0 x) h

      or_true : (a b : Bool) → b ≡ true → (a || b) ≡ true
      or_true true b h = refl
      or_true false b h = h

      found : (y : ℕ) → next s.1 ≤ y → y < next (signed k ds (sign d s)).1 → next (sign d s).1 ≡ next s.1 + 1 → (y < next s.1 + 1) ⊎ (next s.1 + 1 ≤ y) → AreSigned target ds (sign d s) (signed k ds (sign d s))
          → (x : List ℕ) × ((bytes_eq d.name x || declares ds x) ≡ true) × (e : Entry) × ((signed k ds (sign d s)).0 x ≡ Some e) × (e.value ≡ Some y)
      found y l u one (inl h) m =
          let same : next s.1 ≡ y = omega arith in
          (d.name, ap (λ b. b || declares ds d.name) (is_same d.name), entry, mine m, ap Some same)
      found y l u one (inr h) m = let f = m.each y (omega (arith, one)) u in (f.0, or_true (bytes_eq d.name f.0) (declares ds f.0) f.1, f.2, f.3, f.4)
