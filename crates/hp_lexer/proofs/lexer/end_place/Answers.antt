use Rattle.std.proofs.Common.{◌≡◌, ◌≤◌, ℕ, List, length, take, subst, sym, ap, ◌∙◌, arith}
use Rattle.std.proofs.lemmas.List.{length-take, take_all}
use Rattle.hp_lexer.specs.Reading.{HasRoom, place_behind}
use Rattle.hp_lexer.specs.declared.place.Place.{Place}
use Rattle.hp_lexer.proofs.Pieces.{room_behind}
use Rattle.hp_lexer.proofs.lexer.end_place.Goals as goal

room_at : (text : List ℕ) (i : ℕ) (place : Place) → length text ≤ 1048576 → place ≡ place_behind (take i text) → HasRoom place 1
room_at text i place f e =
    let front = take i text in
    let small : length front ≤ 1048576 = omega (arith, length-take i text, f) in
    subst (λ p. HasRoom p 1) (sym e) (room_behind front 1 (omega arith))

pub behind-place-requires : goal.behind-place-requires
behind-place-requires c = room_at c.args.text.now c.loop-byte.byte-index c.loop-byte.place c.requires c.loop-byte.invariant

pub returns : goal.returns
returns c = c.loop-byte.invariant ∙ ap place_behind (take_all c.loop-byte.byte-index c.args.text.now c.loop-byte-test.false)
