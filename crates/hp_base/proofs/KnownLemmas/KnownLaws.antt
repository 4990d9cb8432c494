-- What is known of names, as the code holds it and as it is seen.
use Rattle.std.proofs.Common.{◌≡◌, ℕ, Bool, true, false, cond, if◌then◌else◌, List, [], ◌∷◌, ◌++◌, Option, None, Some, is_some, map, refl, ap, ◌∙◌}
use Rattle.std.specs.Option.{option_map}
use Rattle.std.specs.Map.{lookup as found_by}
use Rattle.std.specs.Str.{bytes_eq}
use Rattle.std.proofs.lemmas.List.{map-append}
use Rattle.hp_base.specs.Known.Known.{lookup, with_entry}

module _ {K X A : Type 0} (key : K → List ℕ) (val : X → A) where
  abbrev pub entry_seen : K × X → List ℕ × A
  entry_seen e = (key e.0, val e.1)

  pub lookup-map : (es : List (K × X)) (x : List ℕ) → option_map val (found_by (λ k. bytes_eq x (key k)) es) ≡ lookup (map entry_seen es) x
  lookup-map [] x = refl
  lookup-map (e ∷ es) x = by (bytes_eq x (key e.0)) (lookup-map es x)
    where
      by : (here : Bool) → option_map val (found_by (λ k. bytes_eq x (key k)) es) ≡ lookup (map entry_seen es) x
          → option_map val (cond here (Some e.1) (found_by (λ k. bytes_eq x (key k)) es)) ≡ (if here then Some (val e.1) else lookup (map entry_seen es) x)
      by true rest = refl
      by false rest = rest

  is_some-map : (o : Option X) → is_some o ≡ is_some (option_map val o)
  is_some-map None = refl
  is_some-map (Some x) = refl

  pub known-map : (es : List (K × X)) (x : List ℕ) → is_some (found_by (λ k. bytes_eq x (key k)) es) ≡ is_some (lookup (map entry_seen es) x)
  known-map es x = is_some-map (found_by (λ k. bytes_eq x (key k)) es) ∙ ap is_some (lookup-map es x)

  pub with_entry-new : (es : List (K × X)) (k : K) (v : X) → is_some (found_by (λ y. bytes_eq (key k) (key y)) es) ≡ false
      → map entry_seen (es ++ (k, v) ∷ []) ≡ with_entry (map entry_seen es) (key k) (val v)
  with_entry-new es k v h = rw (← known-map es (key k), h) (map-append entry_seen es ((k, v) ∷ []))

  pub with_entry-known : (es : List (K × X)) (k : K) (v : X) → is_some (found_by (λ y. bytes_eq (key k) (key y)) es) ≡ true
      → map entry_seen es ≡ with_entry (map entry_seen es) (key k) (val v)
  with_entry-known es k v h = rw (← known-map es (key k), h)

-- what is not there is found nowhere
pub none_found : {X : Type 0} (o : Option X) → is_some o ≡ false → o ≡ None
none_found None h = refl
none_found (Some x) h = absurd cc
