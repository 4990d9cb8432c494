use Rattle.std.proofs.Common.{◌≡◌, rules, map, true, List, drop}
use Rattle.std.proofs.lemmas.Option.{MatchOption-at_none, MatchOption-at_some}
use Rattle.std.specs.List.{list_all}
use Rattle.std.specs.Option.{option_map}
use Rattle.std.specs.String.{string_bytes}
use Rattle.clap.specs.Walk.{Text}
use Rattle.clap.specs.Words.{app_of}
use Rattle.hp_arguments.specs.Words.{IsOneArgument, is_argument}
use Rattle.hp_arguments.proofs.ReadLaws.{answered, one_is_free, one_refused, one_taken}
use Rattle.hp_arguments.proofs.one_argument.Goals as goal

pub matches_on-requires : goal.matches_on-requires
matches_on-requires c = one_is_free (app_of c.in_ok-command.command) c.in_ok-command.ensures

pub returns-in_default : goal.returns-in_default
returns-in_default c =
    let words : List Text = map string_bytes c.args.words.now in
    one_refused (app_of c.in_ok-command.command) c.in_ok-command.ensures words (MatchOption-at_none _ _ c.in_default.is c.in_ok-matches.ensures)

pub returns : goal.returns
returns c =
    let words : List Text = map string_bytes c.args.words.now in
    let are : list_all is_argument (drop 1 words) ≡ true = search rules in
    let took = MatchOption-at_some _ _ c.in-Some.matches c.in-Some.is c.in_ok-matches.ensures in
    let read = one_taken (app_of c.in_ok-command.command) c.in_ok-command.ensures words are c.in-Some.matches took (option_map (λ s. s.now) c.get_str.result) c.get_str.ensures in
    answered c.get_str.result read.0 _ (IsOneArgument words) read.2 read.1
