-- The first word that breaks a rule of form.
use Rattle.std.specs.Prelude.{ℕ, suc, min, Bool, true, false, List, fold, Option, None, Some}
use Rattle.hp_obctext.specs.declared.found.Found.{Found}

-- how many words were passed, as far as they are counted, and which of them was the first that breaks a rule
abbrev pub found_or : Option ℕ → Bool → ℕ → Option ℕ
found_or None true n = None
found_or None false n = Some n
found_or (Some k) holds n = Some k

abbrev pub passes : Found → Bool → Found
passes f holds = record { passed = min 18446744073709551615 (suc f.passed); breach = found_or f.breach holds f.passed }

-- one more word, and more words
unfoldable pub passed_one : Found → Bool → Found
passed_one f holds = passes f holds

unfoldable pub after : Found → List Bool → Found
after f verdicts = fold passes f verdicts
