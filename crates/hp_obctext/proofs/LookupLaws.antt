-- What is known of names that were added one by one.
use Rattle.std.proofs.Common.{◌≡◌, ℕ, Bool, true, false, if◌then◌else◌, List, [], ◌∷◌, ◌++◌, Option, None, Some, is_some, refl, sym, ap, ◌∙◌, append_assoc, append-nil}
use Rattle.std.specs.Str.{bytes_eq}
use Rattle.std.proofs.lemmas.List.{map-append}
use Rattle.hp_base.specs.declared.ty.Ty.{Ty}
use Rattle.hp_obc.specs.declared.machine.Var.{Var}
use Rattle.hp_obctext.specs.Found.{var_entries}
use Rattle.std.proofs.lemmas.Slice.Eq.{bytes_eq-Decides}
use Rattle.hp_base.specs.Known.Known.{lookup, with_entry}

module _ {A : Type 0} where
  -- entries behind others count where these have none
  abbrev pub or_else : Option A → Option A → Option A
  or_else None b = b
  or_else (Some a) b = Some a

  lookup-append_by : (d : Bool) (a : A) (o p : Option A) → (if d then Some a else or_else o p) ≡ or_else (if d then Some a else o) p
  lookup-append_by true a o p = refl
  lookup-append_by false a o p = refl

  pub lookup-append : (es fs : List (List ℕ × A)) (x : List ℕ) → lookup (es ++ fs) x ≡ or_else (lookup es x) (lookup fs x)
  lookup-append [] fs x = refl
  lookup-append (e ∷ es) fs x =
      ap (λ (o : Option A). if bytes_eq x e.0 then Some e.1 else o) (lookup-append es fs x) ∙ lookup-append_by (bytes_eq x e.0) e.1 (lookup es x) (lookup fs x)

  -- Two lists of entries tell the same.
  abbrev pub Tell : List (List ℕ × A) → List (List ℕ × A) → Type 0
  Tell es fs = (x : List ℕ) → lookup es x ≡ lookup fs x

  pub tell_more : (es fs gs : List (List ℕ × A)) → Tell es fs → Tell (es ++ gs) (fs ++ gs)
  tell_more es fs gs h x = lookup-append es gs x ∙ ap (λ o. or_else o (lookup gs x)) (h x) ∙ sym (lookup-append fs gs x)

module _ {A : Type 0} where
  or_else_none : (o : Option A) → or_else o None ≡ o
  or_else_none None = refl
  or_else_none (Some c) = refl

  or_else_found : (o c : Option A) (b : A) → o ≡ Some b → or_else o c ≡ o
  or_else_found None c b h = absurd cc
  or_else_found (Some d) c b h = refl

  one_more_by : (o : Option A) (es : List (List ℕ × A)) (y : List ℕ) (a : A) (x : List ℕ) → lookup es y ≡ o → lookup (if is_some o then es else es ++ (y, a) ∷ []) x ≡ lookup (es ++ (y, a) ∷ []) x
  one_more_by None es y a x e = refl
  one_more_by (Some b) es y a x e = sym (lookup-append es ((y, a) ∷ []) x ∙ here (bytes_eq x y) refl)
    where
      here : (d : Bool) → bytes_eq x y ≡ d → or_else (lookup es x) (lookup ((y, a) ∷ []) x) ≡ lookup es x
      here false h = ap (λ (d : Bool). or_else (lookup es x) (if d then Some a else None)) h ∙ or_else_none (lookup es x)
      here true h = or_else_found (lookup es x) (lookup ((y, a) ∷ []) x) b (ap (lookup es) ((bytes_eq-Decides x y).0 h) ∙ e)

  -- one more entry is known where its name is new, and counts only then
  one_more : (es : List (List ℕ × A)) (y : List ℕ) (a : A) → Tell (with_entry es y a) (es ++ (y, a) ∷ [])
  one_more es y a x = one_more_by (lookup es y) es y a x refl

  -- the next entry is added, and the rest then
  pub next_entry : (es new rest : List (List ℕ × A)) (y : List ℕ) (a : A) → new ≡ with_entry es y a → Tell (new ++ rest) (es ++ (y, a) ∷ rest)
  next_entry es new rest y a h x =
      ap (λ fs. lookup (fs ++ rest) x) h ∙ tell_more (with_entry es y a) (es ++ (y, a) ∷ []) rest (one_more es y a) x
      ∙ ap (λ fs. lookup fs x) (append_assoc es ((y, a) ∷ []) rest)

  pub all_added : (es : List (List ℕ × A)) (rest : List (List ℕ × A)) → rest ≡ [] → Tell es (es ++ rest)
  all_added es rest h x = ap (λ fs. lookup fs x) (sym (append-nil es) ∙ ap (λ r. es ++ r) (sym h))

  -- entries that are added list by list
  pub added_in_turn : (v1 v2 v3 v4 a b c d : List (List ℕ × A)) → Tell v1 ([] ++ a) → Tell v2 (v1 ++ b) → Tell v3 (v2 ++ c) → Tell v4 (v3 ++ d) → Tell v4 (a ++ (b ++ c ++ d))
  added_in_turn v1 v2 v3 v4 a b c d p q r s x =
      s x ∙ tell_more v3 (v2 ++ c) d r x ∙ tell_more (v2 ++ c) (v1 ++ b ++ c) d (tell_more v2 (v1 ++ b) c q) x
      ∙ tell_more (v1 ++ b ++ c) (a ++ b ++ c) d (tell_more (v1 ++ b) (a ++ b) c (tell_more v1 a b p)) x
      ∙ ap (λ es. lookup es x) (ap (λ es. es ++ d) (append_assoc a b c) ∙ append_assoc a (b ++ c) d)

-- inputs, outputs, variables and memories
pub vars_in_turn : (v0 v1 v2 v3 v4 : List (List ℕ × Ty)) (a b c d : List Var) → v0 ≡ [] → Tell v1 (v0 ++ var_entries a) → Tell v2 (v1 ++ var_entries b) → Tell v3 (v2 ++ var_entries c) → Tell v4 (v3 ++ var_entries d)
    → Tell v4 (var_entries (a ++ (b ++ c ++ d)))
vars_in_turn v0 v1 v2 v3 v4 a b c d h p q r s x =
    added_in_turn v1 v2 v3 v4 (var_entries a) (var_entries b) (var_entries c) (var_entries d) (λ y. p y ∙ ap (λ es. lookup (es ++ var_entries a) y) h) q r s x
    ∙ ap (λ es. lookup es x) (sym (simp map-append))
