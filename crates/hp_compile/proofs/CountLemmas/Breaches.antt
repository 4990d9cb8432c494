-- The first breach of a shape is that of the walk.
use Rattle.std.proofs.Common.{◌≡◌, ℕ, Bool, true, false, if◌then◌else◌, List, [], ◌∷◌, Option, None, Some, fold, refl, sym, ap, ◌∙◌}
use Rattle.std.specs.Prelude.{is_some, option_map}
use Rattle.std.specs.Str.{bytes_eq}
use Rattle.hp_base.specs.First.First.{is_before, merged}
use Rattle.hp_base.specs.declared.span.Span.{Span}
use Rattle.hp_tree.specs.declared.program.Item.{Item}
use Rattle.hp_tree.specs.declared.program.Item.TheVariants.{TypeItem, NodeItem}
use Rattle.hp_tree.specs.Programs.{Node}
use Rattle.hp_tree.specs.Meaning.{controls_of}
use Rattle.hp_expand.specs.Shapes as shapes
use Rattle.hp_expand.specs.Shapes.{nothing, see, found_after, breach_at, place_of, breach_among}
use Rattle.hp_expand.specs.declared.error.Shape.{Shape}
use Rattle.hp_expand.specs.declared.error.Shape.TheVariants.{Call, Inline, WrongType}
use Rattle.hp_compile.specs.Counts as plain
use Rattle.hp_compile.specs.Shapes as said
use Rattle.hp_compile.specs.Shapes.{first, of_shape, earlier, called_at, integers_at, or_behind, first_in, first_shape}
use Rattle.hp_compile.proofs.CountLemmas.Types.{Form, Breach}
use Rattle.hp_compile.proofs.CountLemmas.Marks.{forms_in, first_plain, first_bound, first_integer, contract_plain, contract_bound, contract_integer, body_plain, body_bound}

-- a breach of the walk, as it is said
abbrev pub told : Breach → Span × Shape
told b = (b.at, b.shape)

abbrev pub told_at : List ℕ × Breach → List ℕ × Span × Shape
told_at b = (b.0, b.1.at, b.1.shape)

one_told : (shape : Shape) (o : Option Span) → of_shape shape o ≡ option_map told (breach_at shape o)
one_told shape None = refl
one_told shape (Some at) = refl

two_told : (a b : Option Breach) → earlier (option_map told a) (option_map told b) ≡ option_map told (merged place_of a b)
two_told None None = refl
two_told (Some a) None = refl
two_told None (Some b) = refl
two_told (Some a) (Some b) = by (is_before b.at a.at)
  where
    by : (d : Bool) → (if d then Some (told b) else Some (told a)) ≡ option_map told (if◌then◌else◌ {A = Option Breach} d (Some b) (Some a))
    by true = refl
    by false = refl

both_told : (x y : Option (Span × Shape)) (a b : Option Breach) → x ≡ option_map told a → y ≡ option_map told b → earlier x y ≡ option_map told (merged place_of a b)
both_told x y a b p q = (λ i. earlier (p i) (q i)) ∙ two_told a b

module _ (forms : List ℕ → Form) (n : Node) where
  node_told : said.breach_of (forms_in forms) n ≡ option_map told (shapes.breach_of forms n)
  unfolding found_after breach_among
  node_told =
      let cs = shapes.in_contract forms n.contract in
      let bs = shapes.in_block forms n.body in
      let c = fold see nothing cs in
      let b = fold see nothing bs in
      let calls = (plain.in_contract n.contract).calls in
      let p : first (called_at (forms_in forms) calls) ≡ c.plain = sym (first_plain cs nothing ∙ ap first (contract_plain forms n.contract)) in
      let q : first (said.bound_at (forms_in forms) calls) ≡ c.bound = sym (first_bound cs nothing ∙ ap first (contract_bound forms n.contract)) in
      let r : first (integers_at (controls_of n.contract)) ≡ c.integer = sym (first_integer cs nothing ∙ ap first (contract_integer forms n.contract)) in
      let s : first (said.bound_at (forms_in forms) (plain.in_block n.body).calls) ≡ b.bound = sym (first_bound bs nothing ∙ ap first (body_bound forms n.body)) in
      (λ i. earlier (earlier (of_shape Call (p i)) (of_shape Inline (q i))) (earlier (of_shape WrongType (r i)) (of_shape Inline (s i))))
      ∙ both_told (earlier (of_shape Call c.plain) (of_shape Inline c.bound)) (earlier (of_shape WrongType c.integer) (of_shape Inline b.bound))
      (merged place_of (breach_at Call c.plain) (breach_at Inline c.bound)) (merged place_of (breach_at WrongType c.integer) (breach_at Inline b.bound))
      (both_told (of_shape Call c.plain) (of_shape Inline c.bound) (breach_at Call c.plain) (breach_at Inline c.bound) (one_told Call c.plain) (one_told Inline c.bound))
      (both_told (of_shape WrongType c.integer) (of_shape Inline b.bound) (breach_at WrongType c.integer) (breach_at Inline b.bound) (one_told WrongType c.integer) (one_told Inline b.bound))

  first_same : first (called_at (forms_in forms) (plain.in_block n.body).calls) ≡ (shapes.form_of forms n).plain
  unfolding found_after
  first_same = sym (first_plain (shapes.in_block forms n.body) nothing ∙ ap first (body_plain forms n.body))

  table_more : said.with_form (forms_in forms) n.name (said.form_of (forms_in forms) n) ≡ forms_in (shapes.with_form forms n.name (shapes.form_of forms n))
  table_more = λ i f. by f (bytes_eq n.name f) i
    where
      by : (f : List ℕ) (b : Bool) → (if b then said.form_of (forms_in forms) n else forms_in forms f) ≡ (let form = if b then shapes.form_of forms n else forms f in record { bound = form.has_contract; first_call = form.plain })
      by f true = λ i. record { bound = is_some n.contract; first_call = first_same i }
      by f false = refl

behind_told : (f : List ℕ) (a : Option Breach) (b : Option (List ℕ × Breach)) → or_behind f (option_map told a) (option_map told_at b) ≡ option_map told_at (shapes.at_node f a b)
behind_told f None b = refl
behind_told f (Some a) b = refl

items_told : (forms : List ℕ → Form) (items : List Item) → first_in (forms_in forms) items ≡ option_map told_at (shapes.in_items forms items)
items_told forms [] = refl
items_told forms (TypeItem t ∷ items) = items_told forms items
items_told forms (NodeItem n ∷ items) =
    let more = shapes.with_form forms n.name (shapes.form_of forms n) in
    (λ i. or_behind n.name (node_told forms n i) (first_in (table_more forms n i) items))
    ∙ ap (or_behind n.name (option_map told (shapes.breach_of forms n))) (items_told more items)
    ∙ behind_told n.name (shapes.breach_of forms n) (shapes.in_items more items)

pub shapes_told : (program : List Item) → first_shape program ≡ option_map told_at (shapes.breach_in program)
shapes_told program = items_told shapes.nothing_known program
