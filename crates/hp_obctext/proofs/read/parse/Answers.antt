use Rattle.std.proofs.Common.{◌≡◌, subst, sym, ap, ◌∙◌, inl}
use Rattle.hp_obctext.specs.Lexing.{words}
use Rattle.hp_obctext.specs.Outcomes.{refused}
use Rattle.hp_obctext.specs.Places.{IsPlaceOf}
use Rattle.hp_obctext.specs.Reading.{file}
use Rattle.hp_obctext.proofs.Refusing.{refused_at}
use Rattle.hp_obctext.proofs.OneRefusal.{one_refusal}
use Rattle.hp_obctext.specs.declared.error.ObcErr.TheVariants as error
use Rattle.hp_obctext.proofs.Answering.{not_refused}
use Rattle.hp_obctext.proofs.read.parse.Goals as goal

pub returns-in-Err-Refused-clause-refused : goal.returns-in-Err-Refused-clause-refused
returns-in-Err-Refused-clause-refused c =
    let stopped = rw c.in-Err-Refused.field-0-is at c.in-Err-Refused.ensures in
    let read : file (words c.args.text.now) ≡ refused c.file.new.self = ap file (sym c.new-reader.ensures) ∙ stopped in
    refused_at c.args.text.now c.file.new.self c.count_words.result c.count.result c.place_of.result c.requires read c.count_words.ensures.count c.count.ensures
    (subst (λ i. IsPlaceOf c.args.text.now i c.place_of.result) c.saturating_sub-number.ensures c.place_of.ensures)

pub returns-in-Err-Refused-clause-whole : goal.returns-in-Err-Refused-clause-whole
returns-in-Err-Refused-clause-whole c = λ f h.
    let stopped = rw c.in-Err-Refused.field-0-is at c.in-Err-Refused.ensures in
    absurd (not_refused c.args.text.now f c.file.new.self h (ap file (sym c.new-reader.ensures) ∙ stopped))

pub returns-in-Err-Refused-clause-syntax : goal.returns-in-Err-Refused-clause-syntax
returns-in-Err-Refused-clause-syntax c = λ span r. inl (ap error.Syntax (one_refusal c.args.text.now c.place_of.result span (returns-in-Err-Refused-clause-refused c) r))
