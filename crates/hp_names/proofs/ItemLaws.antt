-- What is found in types and items, element by element.
use Rattle.std.proofs.Common.{◌≡◌, ℕ, ◌+◌, ◌<◌, get_or, length, drop, List, [], ◌∷◌, Option, ap, ◌∙◌}
use Rattle.hp_base.specs.declared.span.Span.{Span}
use Rattle.hp_tree.specs.declared.program.Item.{Item}
use Rattle.hp_names.specs.Names.{with_name, with_names, names_at}
use Rattle.hp_names.specs.Scopes.{Scope, behind}
use Rattle.hp_names.specs.Breaches.{Breach, found_after}
use Rattle.hp_names.specs.Claims.{declares, new_names, in_item, in_items}
use Rattle.hp_names.proofs.FoundLaws.{drop-next, found_after-append}

module _ (at : Span) (xs : List (List ℕ)) (i : ℕ) (x : List ℕ) (h : i < length xs) (p : x ≡ get_or xs i x) (names : List (List ℕ)) where
  pub found_after-constructors : (found : Option Breach)
      → found_after found (new_names names (names_at at (drop i xs)))
      ≡ found_after (found_after found (declares names x at ∷ [])) (new_names (with_name names x) (names_at at (drop (i + 1) xs)))
  found_after-constructors found =
      ap (λ more. found_after found (new_names names (names_at at more))) (drop-next xs i x h p)
      ∙ found_after-append found (declares names x at ∷ []) (new_names (with_name names x) (names_at at (drop (i + 1) xs)))

  pub with_names-next_constructor : with_names names (names_at at (drop i xs)) ≡ with_names (with_name names x) (names_at at (drop (i + 1) xs))
  with_names-next_constructor = ap (λ more. with_names names (names_at at more)) (drop-next xs i x h p)

pub found_after-items : (items : List Item) (i : ℕ) (item : Item) (found : Option Breach) (s : Scope) → i < length items → item ≡ get_or items i item
    → found_after found (in_items s (drop i items)) ≡ found_after (found_after found (in_item s item)) (in_items (behind s item) (drop (i + 1) items))
found_after-items items i item found s h p =
    ap (λ more. found_after found (in_items s more)) (drop-next items i item h p)
    ∙ found_after-append found (in_item s item) (in_items (behind s item) (drop (i + 1) items))
