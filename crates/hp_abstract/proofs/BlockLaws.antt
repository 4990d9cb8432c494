-- What is made on entering a block.
use Rattle.std.proofs.Common.{◌≡◌, ℕ, List, [], sym, ap, ◌∙◌}
use Rattle.hp_tree.specs.Blocks.{Decl, Block, block, Eqns}
use Rattle.hp_drawing.specs.declared.parts.Place.{Place}
use Rattle.hp_drawing.specs.Told.{Told}
use Rattle.hp_drawing.specs.Sketch.{Sketch}
use Rattle.hp_drawing.specs.Scopes.{Scope, Layer, names_of_eqns, put_locals, put_names, own_layer, add_lasts, enter, push_values, push_lasts}
use Rattle.hp_drawing.specs.DrawnBlocks.{own_of_block, enter_block}

pub own-made : (t : Told) (z : Scope) (ds : List Decl) (es : Eqns) (b : Block) (s s1 s2 : Sketch) (l0 l1 l2 : Layer) (xs : List (List ℕ))
    → l0 ≡ [] → xs ≡ names_of_eqns es → s1 ≡ (put_locals t 0 ds l0 s).1 → l1 ≡ (put_locals t 0 ds l0 s).0 → s2 ≡ (put_names z xs l1 s1).1 → l2 ≡ (put_names z xs l1 s1).0 → block ds es ≡ b
    → (l2 ≡ (own_of_block t z b s).0) × (s2 ≡ (own_of_block t z b s).1)
unfolding own_layer
own-made t z ds es b s s1 s2 l0 l1 l2 xs none names e1 m1 e2 m2 is =
    let e : s1 ≡ (put_locals t 0 ds [] s).1 = e1 ∙ ap (λ l. (put_locals t 0 ds l s).1) none in
    let m : l1 ≡ (put_locals t 0 ds [] s).0 = m1 ∙ ap (λ l. (put_locals t 0 ds l s).0) none in (
      m2 ∙ (λ j. (put_names z (names j) (m j) (e j)).0) ∙ ap (λ c. (own_of_block t z c s).0) is,
      e2 ∙ (λ j. (put_names z (names j) (m j) (e j)).1) ∙ ap (λ c. (own_of_block t z c s).1) is,
    )

pub entered : (t : Told) (z z1 z2 : Scope) (place : Place) (ds : List Decl) (es : Eqns) (b : Block) (s s1 s2 : Sketch) (own l0 l1 : Layer)
    → l0 ≡ [] → s1 ≡ (own_of_block t z b s).1 → own ≡ (own_of_block t z b s).0 → s2 ≡ (add_lasts t place ds own l0 s1).1 → l1 ≡ (add_lasts t place ds own l0 s1).0
    → z1 ≡ push_values own z → z2 ≡ push_lasts l1 z1 → block ds es ≡ b
    → (z2 ≡ (enter_block t z place b s).0) × (s2 ≡ (enter_block t z place b s).1)
unfolding enter
entered t z z1 z2 place ds es b s s1 s2 own l0 l1 none e1 m1 e2 m2 p q is =
    let e : s1 ≡ (own_layer t z ds es s).1 = e1 ∙ ap (λ c. (own_of_block t z c s).1) (sym is) in
    let m : own ≡ (own_layer t z ds es s).0 = m1 ∙ ap (λ c. (own_of_block t z c s).0) (sym is) in (
      q ∙ (λ j. push_lasts (m2 j) (p j)) ∙ (λ j. push_lasts (add_lasts t place ds (m j) (none j) (e j)).0 (push_values (m j) z)) ∙ ap (λ c. (enter_block t z place c s).0) is,
      e2 ∙ (λ j. (add_lasts t place ds (m j) (none j) (e j)).1) ∙ ap (λ c. (enter_block t z place c s).1) is,
    )
