use Rattle.std.proofs.Common.{◌≡◌, List, [], sym, ap, subst, ◌∙◌, refl}
use Rattle.std.proofs.Common.{true, false, Bool, IsTrue}
use Rattle.hp_tree.specs.declared.program.Item.{Item}
use Rattle.hp_parser.specs.Lexemes.{Lexeme}
use Rattle.hp_parser.specs.Outcomes.{Gives, done}
use Rattle.hp_parser.specs.Programs.{IsProgram, read_program}
use Rattle.hp_parser.specs.Refusals.{IsBad, IsRefused, place_of}
use Rattle.hp_parser.specs.Seen.{IsRefusal}
use Rattle.hp_parser.proofs.ParseLaws.{whole_program, only_program, left_bad, left_none, stop_refuses, stop_none}
use Rattle.hp_parser.proofs.parsing.parse.Goals as goal

not_empty : (b : Bool) (ts : List Lexeme) → b ≡ false → (ts ≡ [] → IsTrue b) → ts ≡ [] → ⊥
not_empty true ts e h n = absurd cc
not_empty false ts e h n = absurd (let t : false ≡ true = h n in cc)

is_empty : (b : Bool) (ts : List Lexeme) → b ≡ true → (IsTrue b → ts ≡ []) → ts ≡ []
is_empty true ts e h = h refl
is_empty false ts e h = absurd cc

pub returns-then-is_empty-clause-program : goal.returns-then-is_empty-clause-program
returns-then-is_empty-clause-program c =
    let ts = c.new-reader.result in
    let read = subst (λ r. Gives (λ (p : List Item). p) r c.program.new.self (read_program ts)) c.in-Ok.is c.program.ensures in
    let e : read_program ts ≡ done c.in-Ok.program [] = read ∙ ap (done c.in-Ok.program) (is_empty c.is_empty.result c.program.new.self c.if-is_empty.true c.is_empty.ensures.0) in
    subst (λ z. IsProgram z c.in-Ok.program) c.new-reader.ensures (whole_program c.args.text.now ts c.in-Ok.program e)

pub returns-then-is_empty-clause-given : goal.returns-then-is_empty-clause-given
returns-then-is_empty-clause-given c = λ q h.
    let ts = c.new-reader.result in
    let read = subst (λ r. Gives (λ (p : List Item). p) r c.program.new.self (read_program ts)) c.in-Ok.is c.program.ensures in
    let e : read_program ts ≡ done c.in-Ok.program [] = read ∙ ap (done c.in-Ok.program) (is_empty c.is_empty.result c.program.new.self c.if-is_empty.true c.is_empty.ensures.0) in
    only_program ts c.in-Ok.program q e (subst (λ z. IsProgram z q) (sym c.new-reader.ensures) h)

pub returns-else-is_empty-clause-refused : goal.returns-else-is_empty-clause-refused
returns-else-is_empty-clause-refused c =
    let ts = c.new-reader.result in
    let read = subst (λ r. Gives (λ (p : List Item). p) r c.program.new.self (read_program ts)) c.in-Ok.is c.program.ensures in
    let some = not_empty c.is_empty.result c.program.new.self c.if-is_empty.false c.is_empty.ensures.1 in
    subst (IsBad c.args.text.now (_)) (sym c.place.ensures)
    (subst (λ z. IsBad c.args.text.now z (place_of c.args.text.now c.program.new.self)) c.new-reader.ensures (left_bad c.args.text.now ts c.in-Ok.program c.program.new.self read some))

pub returns-else-is_empty-clause-given : goal.returns-else-is_empty-clause-given
returns-else-is_empty-clause-given c = λ q h.
    let ts = c.new-reader.result in
    let read = subst (λ r. Gives (λ (p : List Item). p) r c.program.new.self (read_program ts)) c.in-Ok.is c.program.ensures in
    let some = not_empty c.is_empty.result c.program.new.self c.if-is_empty.false c.is_empty.ensures.1 in
    absurd (left_none ts c.in-Ok.program q c.program.new.self read some (subst (λ z. IsProgram z q) (sym c.new-reader.ensures) h))

pub returns-in-Err-clause-refused : goal.returns-in-Err-clause-refused
returns-in-Err-clause-refused c =
    let ts = c.new-reader.result in
    let stops = subst (λ r. Gives (λ (p : List Item). p) r c.program.new.self (read_program ts)) c.in-Err.is c.program.ensures in
    let refusal = subst (λ s. IsRefusal c.in-Err.stop s c.refusal.result) c.place-in-Err.ensures c.refusal.ensures in
    subst (λ z. IsRefused c.args.text.now z c.refusal.result) c.new-reader.ensures
    (stop_refuses c.args.text.now ts c.in-Err.stop c.program.new.self c.refusal.result stops refusal)

pub returns-in-Err-clause-given : goal.returns-in-Err-clause-given
returns-in-Err-clause-given c = λ q h.
    let ts = c.new-reader.result in
    let stops = subst (λ r. Gives (λ (p : List Item). p) r c.program.new.self (read_program ts)) c.in-Err.is c.program.ensures in
    let refusal = subst (λ s. IsRefusal c.in-Err.stop s c.refusal.result) c.place-in-Err.ensures c.refusal.ensures in
    stop_none c.args.text.now ts c.in-Err.stop c.program.new.self c.refusal.result q stops refusal (subst (λ z. IsProgram z q) (sym c.new-reader.ensures) h)
