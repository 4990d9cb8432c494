use Rattle.std.proofs.Common.{◌≡◌, true, List, ◌++◌, ap, ◌∙◌, arith}
use Rattle.std.proofs.lemmas.Grind.{common_steps}
use Rattle.hp_lexer.specs.declared.token.Sign.TheVariants.{Semicolon}
use Rattle.hp_parser.specs.BlockGrammar.{local}
use Rattle.hp_parser.specs.Lexemes.{is_ahead}
use Rattle.hp_parser.specs.Outcomes.{done}
use Rattle.hp_parser.specs.Reading.{reading, read_token}
use Rattle.hp_parser.specs.Seen.{word_seen}
use Rattle.hp_parser.specs.Tokens.{begins_declaration, sign_of}
use Rattle.hp_parser.proofs.DeclarationRounds.{locals_from, locals_more, locals_shrinks}
use Rattle.hp_parser.proofs.reader.Reader.locals.Goals as goal

pub loop-self-smaller : goal.loop-self-smaller
loop-self-smaller c =
    locals_shrinks c.loop-self.self (word_seen c.in_ok-sign.field-0) c.sign.new.self c.in_ok-more.more.items c.local-in-loop-self.new.self c.in_ok-sign.ensures c.in_ok-more.ensures

pub loop-self-preserved : goal.loop-self-preserved
loop-self-preserved c =
    let h : is_ahead begins_declaration c.sign.new.self ≡ true = cc in
    let e : c.append.new.self.items ≡ c.loop-self.locals.items ++ c.in_ok-more.more.items = c.in_ok-append.ensures.items in
    ap (λ z. locals_from z c.local-in-loop-self.new.self) e
    ∙ locals_more c.loop-self.locals.items c.loop-self.self (word_seen c.in_ok-sign.field-0) c.sign.new.self c.in_ok-more.more.items c.local-in-loop-self.new.self c.in_ok-sign.ensures h c.in_ok-more.ensures
    ∙ c.loop-self.invariant
