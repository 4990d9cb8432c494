use Rattle.std.proofs.Common.{◌≡◌, ◌≤◌, ℕ, ◌+◌, List, length, take, subst, sym, ap, ◌∙◌, arith}
use Rattle.std.proofs.lemmas.List.{length-take}
use Rattle.hp_base.specs.declared.limit.What.TheVariants.{Size}
use Rattle.hp_lexer.specs.Lexing.{Refuses, span_behind}
use Rattle.hp_lexer.specs.Reading.{HasRoom, place_behind, span_at}
use Rattle.hp_lexer.specs.declared.lexer.LexErr.TheVariants.{Limit as Passes}
use Rattle.hp_lexer.specs.declared.place.Place.{Place}
use Rattle.hp_lexer.proofs.Pieces.{room_behind}
use Rattle.hp_lexer.proofs.lexer.too_long.Goals as goal

room_at : (text : List ℕ) (n : ℕ) (place : Place) → n ≡ 1048576 → place ≡ place_behind (take n text) → HasRoom place 1
room_at text n place f e =
    let front = take n text in
    let size : length front ≤ 1048576 = omega (arith, length-take n text) in
    subst (λ p. HasRoom p 1) (sym e) (room_behind front 1 (omega arith))

pub span-requires : goal.span-requires
span-requires c = room_at c.args.text.now c.most-size.result c.end_place.result c.most-size.ensures c.end_place.ensures

pub returns : goal.returns
returns c =
    let text = c.args.text.now in
    let span-is = c.span.ensures ∙ ap (λ p. span_at p 1) c.end_place.ensures in
    subst (λ s. Refuses text (Passes s (record { what = Size; found = c.most-size.result + 1 }))) (sym span-is)
    (subst (λ m. Refuses text (Passes (span_behind (take m text) 1) (record { what = Size; found = m + 1 }))) (sym c.most-size.ensures) (Refuses.size c.requires))
