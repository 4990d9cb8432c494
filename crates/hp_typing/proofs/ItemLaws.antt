-- Types and items, element by element.
use Rattle.std.proofs.Common.{◌≡◌, ℕ, ◌+◌, ◌<◌, get_or, length, drop, List, Option, ap, ◌∙◌}
use Rattle.hp_tree.specs.declared.program.Item.{Item}
use Rattle.hp_base.specs.Known.Known.{with_entry}
use Rattle.hp_typing.specs.Scopes.{Scope, behind, with_constructors}
use Rattle.hp_typing.specs.Breaches.{Breach, found_after}
use Rattle.hp_typing.specs.Claims.{in_item, in_items}
use Rattle.hp_typing.proofs.FoundLaws.{drop-next, found_after-append}

pub with_constructors-next : (known : List (List ℕ × List ℕ)) (t : List ℕ) (cs : List (List ℕ)) (i : ℕ) (c : List ℕ) → i < length cs → c ≡ get_or cs i c
    → with_constructors known t (drop i cs) ≡ with_constructors (with_entry known c t) t (drop (i + 1) cs)
with_constructors-next known t cs i c h p = ap (with_constructors known t) (drop-next cs i c h p)

pub found_after-items : (items : List Item) (i : ℕ) (item : Item) (found : Option Breach) (s : Scope) → i < length items → item ≡ get_or items i item
    → found_after found (in_items s (drop i items)) ≡ found_after (found_after found (in_item s item)) (in_items (behind s item) (drop (i + 1) items))
found_after-items items i item found s h p =
    ap (λ more. found_after found (in_items s more)) (drop-next items i item h p)
    ∙ found_after-append found (in_item s item) (in_items (behind s item) (drop (i + 1) items))
