-- What the code reads, as it is seen by definitions.
use Rattle.std.specs.Prelude.{◌≡◌, suc}
use Rattle.hp_base.specs.Limits.{most}
use Rattle.hp_base.specs.declared.span.Span.{Span}
use Rattle.hp_parser.specs.declared.fault.Fault.TheVariants as fault
use Rattle.hp_parser.specs.declared.fault.Stop.{Stop}
use Rattle.hp_parser.specs.declared.fault.Stop.TheVariants as stop
use Rattle.hp_parser.specs.declared.parsing.ParseErr.{ParseErr}
use Rattle.hp_parser.specs.declared.parsing.ParseErr.TheVariants.{Bad as BadProgram, Limit as PassedLimit, OutOfMemory}
use Rattle.hp_parser.specs.Lexemes.{Lexeme}
use Rattle.hp_parser.specs.declared.reader.Word.{Word}

abbrev pub word_seen : Word → Lexeme
word_seen w = record { kind = w.kind; bytes = w.text.now; span = w.span }

-- the error for why reading stopped at a place
abbrev pub IsRefusal : Stop → Span → ParseErr → Type 0
IsRefusal stop.Memory place e = e ≡ OutOfMemory
IsRefusal (stop.Fault fault.Bad) place e = e ≡ BadProgram place
IsRefusal (stop.Fault (fault.Limit what)) place e = e ≡ PassedLimit place (record { what = what; found = suc (most what) })
