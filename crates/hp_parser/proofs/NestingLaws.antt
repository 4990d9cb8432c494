-- Programs by the readings of expressions and blocks that the code calls.
use Rattle.std.proofs.Common.{◌≡◌, ℕ, Option, Some, refl}
use Rattle.hp_parser.specs.Lexemes.{Lexeme}
use Rattle.hp_parser.specs.Nesting.{expression_read, nested}
use Rattle.hp_parser.specs.Programs.{programs}
use Rattle.hp_parser.specs.ProgramGrammar.{program}
use Rattle.hp_parser.specs.Reading.{reading}

-- programs whose blocks are at most so many in each other
pub programs_read : (types inputs outputs more_constructors : Option ℕ) (nest : ℕ) →
    programs reading Some Some types inputs outputs more_constructors 200 nest ≡ program reading types inputs outputs more_constructors expression_read (nested nest)
unfolding nested expression_read
programs_read types inputs outputs more_constructors nest = refl
