use Rattle.std.proofs.Common.{◌≡◌, ◌∙◌, rules, tests, sym, ap, drop}
use Rattle.std.proofs.lemmas.Iterator.{YieldsList-from_slice}
use Rattle.std.proofs.lemmas.Iterator.Adapters.{YieldsList-from_skip}
use Rattle.std.proofs.lemmas.Iterator.Search.{all_from_yields_List}
use Rattle.std.proofs.lemmas.List.{drop-map}
use Rattle.std.proofs.lemmas.List.Folds.{list_all-map}
use Rattle.std.specs.List.{list_all}
use Rattle.std.specs.String.{string_bytes}
use Rattle.hp_arguments.specs.Words.{is_argument}
use Rattle.hp_arguments.proofs.have_arguments.Goals as goal

pub returns : goal.returns
returns c =
    let words = c.args.words.now in
    let all : c.all.result ≡ list_all (λ word. is_argument (string_bytes word)) (drop 1 words) =
    all_from_yields_List (λ word. is_argument (string_bytes word)) _ _ c.all.result c.all.ensures.ran (YieldsList-from_skip 1 (YieldsList-from_slice words cc) cc) (λ x b q k. search (rules, tests)) in
    all ∙ sym (list_all-map is_argument string_bytes (drop 1 words)) ∙ ap (list_all is_argument) (sym (drop-map string_bytes 1 words))
