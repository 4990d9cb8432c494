-- Names that are declared and hidden, one after the other.
use Rattle.std.proofs.Common.{◌≡◌, ℕ, Bool, true, false, ◌||◌, if◌then◌else◌, List, [], ◌∷◌, None, Some, refl, sym, ap, ◌∙◌}
use Rattle.std.specs.Str.{bytes_eq}
use Rattle.std.proofs.lemmas.Slice.Eq.{bytes_eq-Decides}
use Rattle.hp_tree.specs.Blocks.{Decl}
use Rattle.hp_tree.specs.Meaning.{declares}
use Rattle.law_equations.specs.Made.Sights.{Entry}
use Rattle.law_equations.specs.Made.Making.{Known, Layer, Sight, no_entry, put, flat_type, type_declared, declared, is_in, hidden, Sketch, Made, Body, next, with_variable, with_new, new_variable, own_variable, keeps_name, is_plain}
use Rattle.hp_flat.specs.declared.node.FlatTy.{FlatTy}
use Rattle.hp_complete.specs.Drafting.{declaring, hiding}
use Rattle.hp_complete.specs.Names.{decl_of}

same_name : (x y : List ℕ) → bytes_eq x y ≡ true → x ≡ y
same_name x y = (bytes_eq-Decides x y).0

-- ---- declarations

module _ (k : Known) (out : Sight) where
  abbrev declared_as : Decl → List ℕ → Entry
  declared_as d x = record { ty = flat_type k.types d.ty; value = (out x).value; last = (out x).last; is_local = true }

  declared_one : (d : Decl) (ds : List Decl) (x : List ℕ) (b : Bool) → bytes_eq d.name x ≡ b → declaring k ds out no_entry x ≡ declared k ds out x
      → (if b then Some (declared_as d d.name) else declaring k ds out no_entry x)
      ≡ (if b || declares ds x then Some (record { ty = (if b then flat_type k.types d.ty else type_declared k ds x); value = (out x).value; last = (out x).last; is_local = true }) else None)
  declared_one d ds x true e ih = ap (λ y. Some (declared_as d y)) (same_name d.name x e)
  declared_one d ds x false e ih = ih

  declared_at : (ds : List Decl) (x : List ℕ) → declaring k ds out no_entry x ≡ declared k ds out x
  declared_at [] x = refl
  declared_at (d ∷ ds) x = declared_one d ds x (bytes_eq d.name x) refl (declared_at ds x)

  pub declared-all : (ds : List Decl) → declaring k ds out no_entry ≡ declared k ds out
  declared-all ds = λ j x. declared_at ds x j

-- ---- hidden names

module _ (out : Sight) where
  abbrev hidden_as : List ℕ → Entry
  hidden_as x = record { ty = (out x).ty; value = (out x).last; last = (out x).last; is_local = false }

  -- hidden behind others, or as the others are
  hidden_behind : (xs : List (List ℕ)) (own : Layer) (x : List ℕ) → hiding xs out own x ≡ (if is_in xs x then Some (hidden_as x) else own x)
  hidden_behind [] own x = refl
  hidden_behind (y ∷ xs) own x = hidden_behind xs (put y (hidden_as y) own) x ∙ by (bytes_eq y x) refl (is_in xs x)
    where
      by : (b : Bool) → bytes_eq y x ≡ b → (c : Bool) → (if c then Some (hidden_as x) else (if b then Some (hidden_as y) else own x)) ≡ (if b || c then Some (hidden_as x) else own x)
      by true e true = refl
      by true e false = ap (λ z. Some (hidden_as z)) (same_name y x e)
      by false e true = refl
      by false e false = refl

  pub hidden-all : (xs : List (List ℕ)) → hiding xs out no_entry ≡ hidden xs out
  hidden-all xs = λ j x. hidden_behind xs no_entry x j

-- ---- the variable of a name that the body of a node declares

module _ (x : List ℕ) where
  found_one : (e : Decl) (ds : List Decl) (d : Decl) (b : Bool) → bytes_eq e.name x ≡ b → (decl_of ds x ≡ Some d → (d.name ≡ x) × (keeps_name ds x ≡ is_plain d.clock)) → (if b then Some e else decl_of ds x) ≡ Some d
      → (d.name ≡ x) × ((if b then is_plain e.clock else keeps_name ds x) ≡ is_plain d.clock)
  found_one e ds d true q later h = let same : e ≡ d = cc in (ap (λ (v : Decl). v.name) (sym same) ∙ same_name e.name x q, ap (λ (v : Decl). is_plain v.clock) same)
  found_one e ds d false q later h = later h

  found : (ds : List Decl) (d : Decl) → decl_of ds x ≡ Some d → (d.name ≡ x) × (keeps_name ds x ≡ is_plain d.clock)
  found [] d h = absurd cc
  found (e ∷ ds) d h = found_one e ds d (bytes_eq e.name x) refl (found ds d) h

  chosen_variable : (t : FlatTy) (s : Sketch) (b : Bool) → (if b then with_variable x t s else with_new x t s) ≡ (if b then (let m : Made = (with_variable x t s, next s) in m) else new_variable x t s).0
  chosen_variable t s true = refl
  chosen_variable t s false = refl

  pub found-variable : (ds : List Decl) (d : Decl) (t : FlatTy) (s : Sketch) → Some d ≡ decl_of ds x → (if is_plain d.clock then with_variable d.name t s else with_new x t s) ≡ (own_variable Body ds x t s).0
  found-variable ds d t s h =
      let f = found ds d (sym h) in
      ap (λ y. if is_plain d.clock then with_variable y t s else with_new x t s) f.0
      ∙ ap (λ b. if b then with_variable x t s else with_new x t s) (sym f.1)
      ∙ chosen_variable t s (keeps_name ds x)
