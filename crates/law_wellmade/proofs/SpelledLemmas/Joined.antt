-- What the program of a text spells, by what is known of programs that may be read.
use Rattle.std.proofs.Common.{Some}
use Rattle.hp_names.specs.Scopes.{nothing}
use Rattle.law_judged.proofs.PlainLemmas.Spelled.{found_of}
use Rattle.law_wellmade.specs.Spelled.Laws.{TextIntegersLaw, ReplacedIntegersLaw, ReplacedTextIntegersLaw, ReplacedContractsLaw, TypesLaw}
use Rattle.law_wellmade.proofs.SpelledLemmas.TextIntegers.{items_short, inputs_short, contracts_short}
use Rattle.law_wellmade.proofs.SpelledLemmas.ReplacedIntegers.{program_short, program_contracts_short}
use Rattle.law_wellmade.proofs.SpelledLemmas.TextTypes.{types_form}

pub text_integers : TextIntegersLaw
text_integers text tokens program a p = items_short 200 64 (Some 64) (Some 64) (Some 63) program (found_of text tokens program a.read p).0.0

pub replaced_integers : ReplacedIntegersLaw
replaced_integers program i s = program_short program i s

pub replaced_text_integers : ReplacedTextIntegersLaw
replaced_text_integers text tokens program a p =
    program_short program (inputs_short 200 64 (Some 64) (Some 64) (Some 63) program (found_of text tokens program a.read p).0.0) (text_integers text tokens program a p)

pub replaced_contracts : ReplacedContractsLaw
replaced_contracts text tokens program a p =
    let good = (found_of text tokens program a.read p).0.0 in
    program_contracts_short program (inputs_short 200 64 (Some 64) (Some 64) (Some 63) program good) (text_integers text tokens program a p) (contracts_short 200 64 (Some 64) (Some 64) (Some 63) program good)

pub types : TypesLaw
types text tokens program a p n = let f = found_of text tokens program a.read p in types_form 200 64 (Some 64) (Some 64) nothing program f.0 f.1 n
