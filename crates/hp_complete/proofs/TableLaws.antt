-- The constructors of a program, with numbers as far as values have them.
use Rattle.std.proofs.Common.{◌≡◌, ℕ, ◌+◌, Bool, true, false, if◌then◌else◌, List, [], ◌∷◌, Option, None, Some, option_map, refl, ap, ◌∙◌}
use Rattle.std.specs.Prelude.{min}
use Rattle.std.specs.Str.{bytes_eq}
use Rattle.hp_tree.specs.declared.program.Item.{Item}
use Rattle.hp_tree.specs.declared.program.Item.TheVariants.{TypeItem, NodeItem}
use Rattle.hp_tables.specs.Declarations.Items as declared
use Rattle.law_equations.specs.Made.Making.{type_number}
use Rattle.hp_complete.specs.Declaring.{with_constructors, with_item, constructors_of}
use Rattle.hp_complete.specs.Tables.{bounded, all_bounded}

type_bounded : (o : Option ℕ) → min (declared.number_or 65535 o) 65535 ≡ type_number o
type_bounded None = refl
type_bounded (Some n) = refl

bounded_or : (d : Bool) (p : ℕ × ℕ) (o : Option (ℕ × ℕ)) → option_map bounded (if d then Some p else o) ≡ (if d then Some (bounded p) else option_map bounded o)
bounded_or true p o = refl
bounded_or false p o = refl

all-of_type : (t k : ℕ) (cs : List (List ℕ)) (others : declared.Constructors) (x : List ℕ) → all_bounded (declared.with_constructors t k cs others) x ≡ with_constructors (min t 65535) k cs (all_bounded others) x
all-of_type t k [] others x = refl
all-of_type t k (c ∷ cs) others x =
    bounded_or (bytes_eq c x) (t, k) (declared.with_constructors t (k + 1) cs others x)
    ∙ ap (λ o. if bytes_eq c x then Some (min t 65535, min k 255) else o) (all-of_type t (k + 1) cs others x)

module _ (places : List ℕ → Option ℕ) where
  all-of_item : (item : Item) (others : declared.Constructors) (x : List ℕ) → all_bounded (declared.with_item places 65535 item others) x ≡ with_item places item (all_bounded others) x
  all-of_item (TypeItem t) others x =
      all-of_type (declared.number_or 65535 (places t.name)) 0 t.cons others x
      ∙ ap (λ n. with_constructors n 0 t.cons (all_bounded others) x) (type_bounded (places t.name))
  all-of_item (NodeItem n) others x = refl

  all-of_items : (items : List Item) (x : List ℕ) → all_bounded (declared.constructors_of places 65535 items) x ≡ constructors_of places items x
  all-of_items [] x = refl
  all-of_items (item ∷ items) x =
      all-of_item item (declared.constructors_of places 65535 items) x
      ∙ ap (λ (others : List ℕ → Option (ℕ × ℕ)). with_item places item others x) (λ j y. all-of_items items y j)

  pub constructors-bounded : (items : List Item) → all_bounded (declared.constructors_of places 65535 items) ≡ constructors_of places items
  constructors-bounded items = λ j x. all-of_items items x j
