-- What clap makes of words that begin with no `-`, for a command with one argument, with two or with three.
use Rattle.std.proofs.Common.{◌≡◌, ◌∙◌, Bool, ◌&&◌, true, false, refl, sym, ap, ap₂, List, [], ◌∷◌, Some, None, is_some, drop, codes, true≢false}
use Rattle.std.specs.List.{list_all}
use Rattle.clap.specs.Kinds.{Kinds, or_else}
use Rattle.clap.specs.Walk.{Held, Text, Walk, finished, first_of, is_empty, nothing_held, settled, walk, walk_from, walked}
use Rattle.clap.specs.Simple.{App, built, entered, matches_of}
use Rattle.clap.specs.Faults.{check_fault, defaults_fault, built_fault, entered_fault, fault_of, is_simple_and_free, settle_fault, walk_fault}
use Rattle.clap.proofs.OnLiterals.{clap_on_literals}
use Rattle.clap.specs.declared.parser.matches.ValueSource.TheVariants.{CommandLine}
use Rattle.clap.specs.declared.builder.value_parser.Reading.TheVariants.{AsWritten}
use Rattle.hp_arguments.specs.Words.{AreThreeArguments, AreTwoArguments, IsArgument, IsOneArgument, is_argument}
use Rattle.hp_arguments.specs.Commands.{with_both, with_one, with_three}
use Rattle.hp_arguments.proofs.ArgumentLaws.{and_behind, between, by_test, goes, to_test}

-- clap says of the commands what becomes of any words
pub one_is_simple : is_simple_and_free with_one ≡ true
one_is_simple = refl

pub both_are_simple : is_simple_and_free with_both ≡ true
both_are_simple = refl

pub three_are_simple : is_simple_and_free with_three ≡ true
three_are_simple = refl

-- the faults of a parse, by those of the words and by where the walk ends
abbrev ended : App → Kinds → Walk → Kinds
ended a f w = or_else f (or_else (entered_fault a w.stopped) (or_else (settle_fault a.top.rules a.top.args_override_self w.held)
    (or_else (defaults_fault (settled a.top.rules w.held).rows a.top.rules) (check_fault a.top (finished a.top.rules w.held) (is_some (entered a w.stopped))))))

-- a fault that is there
some_fault : (f : Kinds) → is_empty f ≡ false → f ≡ [] → ⊥
some_fault f some none = true≢false (sym (ap is_empty none) ∙ some)

-- ---- one argument

abbrev one : App
one = built with_one

-- the word waits to be used
abbrev held_one : Text → Held
held_one word = record { rows = []; pending = Some (codes "argument", word ∷ []); skip = 0 }

-- no word stands behind the name, one does, or more do
one_of_nothing : is_empty (fault_of with_one []) ≡ false
unfolding clap_on_literals
one_of_nothing = refl

one_of_none : (name : Text) → is_empty (fault_of with_one (name ∷ [])) ≡ false
unfolding clap_on_literals
one_of_none name = refl

module _ (name word : Text) (is : IsArgument word) where
  one_read : walk one.top.rules [] nothing_held (word ∷ []) ≡ between 2 (held_one word)
  one_read = goes word is one.top.rules 1 nothing_held

  one_walked : (words : List Text) → walk_fault one.top [] (walk_from nothing_held) (word ∷ words) ≡ walk_fault one.top [] (between 2 (held_one word)) words
  one_walked words = and_behind word is one.top 1 nothing_held words

  one_fits : fault_of with_one (name ∷ word ∷ []) ≡ []
  unfolding clap_on_literals
  one_fits = ap₂ (ended one) (one_walked []) one_read

  one_found : first_of (codes "argument") (matches_of with_one (name ∷ word ∷ [])) ≡ Some word
  one_found = ap (λ (w : Walk). first_of (codes "argument") (finished one.top.rules w.held)) one_read

  one_of_more : (more : Text) (words : List Text) → IsArgument more → is_empty (fault_of with_one (name ∷ word ∷ more ∷ words)) ≡ false
  one_of_more more words also =
      ap (λ (f : Kinds). is_empty (ended one f (walk one.top.rules [] nothing_held (word ∷ more ∷ words))))
      (one_walked (more ∷ words) ∙ and_behind more also one.top 2 (held_one word) words)

split : (t u : Bool) → (t && u) ≡ true → (t ≡ true) × (u ≡ true)
split true u e = (refl, e)
split false u e = absurd (true≢false (sym e))

-- the words fit a command with one argument: it is there, and is what the matches give
pub one_of_fitting : (words : List Text) → list_all is_argument (drop 1 words) ≡ true → fault_of with_one words ≡ []
    → (argument : Text) × IsOneArgument words argument × (first_of (codes "argument") (matches_of with_one words) ≡ Some argument)
one_of_fitting [] are fits = absurd (some_fault (fault_of with_one []) one_of_nothing fits)
one_of_fitting (name ∷ []) are fits = absurd (some_fault (fault_of with_one (name ∷ [])) (one_of_none name) fits)
one_of_fitting (name ∷ word ∷ []) are fits =
    let is : IsArgument word = by_test word (split (is_argument word) true are).0 in
    (word, record { behind = refl; is_argument = is }, one_found name word is)
one_of_fitting (name ∷ word ∷ more ∷ words) are fits =
    let first = split (is_argument word) (is_argument more && list_all is_argument words) are in
    let second = split (is_argument more) (list_all is_argument words) first.1 in
    absurd (some_fault (fault_of with_one (name ∷ word ∷ more ∷ words)) (one_of_more name word (by_test word first.0) more words (by_test more second.0)) fits)

-- and where one argument is there the words fit
pub one_fitting : (words : List Text) (argument : Text) → IsOneArgument words argument → fault_of with_one words ≡ []
one_fitting words argument one_there = ap (built_fault one nothing_held) one_there.behind ∙ one_fits [] argument one_there.is_argument

pub one_is_read : (words : List Text) (argument : Text) → IsOneArgument words argument → list_all is_argument (drop 1 words) ≡ true
one_is_read words argument one_there =
    ap (list_all is_argument) one_there.behind ∙ ap (λ t. t && true) (to_test argument one_there.is_argument)

-- ---- two arguments

abbrev both : App
both = built with_both

abbrev held_first : Text → Held
held_first first = record { rows = []; pending = Some (codes "first", first ∷ []); skip = 0 }

-- both are there, and the second waits to be used
abbrev held_both : Text → Text → Held
held_both first second = record {
  rows = record { id = codes "first"; values = first ∷ []; count = None; source = Some CommandLine; reading = AsWritten } ∷ [];
  pending = Some (codes "second", second ∷ []);
  skip = 0;
}

-- no word stands behind the name, one does, two do, or more do
both_of_nothing : is_empty (fault_of with_both []) ≡ false
unfolding clap_on_literals
both_of_nothing = refl

both_of_none : (name : Text) → is_empty (fault_of with_both (name ∷ [])) ≡ false
unfolding clap_on_literals
both_of_none name = refl

module _ (name first : Text) (is : IsArgument first) where
  first_read : walk both.top.rules [] nothing_held (first ∷ []) ≡ between 2 (held_first first)
  first_read = goes first is both.top.rules 1 nothing_held

  first_walked : (words : List Text) → walk_fault both.top [] (walk_from nothing_held) (first ∷ words) ≡ walk_fault both.top [] (between 2 (held_first first)) words
  first_walked words = and_behind first is both.top 1 nothing_held words

  both_of_one : is_empty (fault_of with_both (name ∷ first ∷ [])) ≡ false
  unfolding clap_on_literals
  both_of_one = ap₂ (λ (f : Kinds) (w : Walk). is_empty (ended both f w)) (first_walked []) first_read

  module _ (second : Text) (also : IsArgument second) where
    both_read : walk both.top.rules [] nothing_held (first ∷ second ∷ []) ≡ between 3 (held_both first second)
    both_read = ap (λ (w : Walk). walked both.top.rules [] w second) first_read ∙ goes second also both.top.rules 2 (held_first first)

    both_walked : (words : List Text)
        → walk_fault both.top [] (walk_from nothing_held) (first ∷ second ∷ words) ≡ walk_fault both.top [] (between 3 (held_both first second)) words
    both_walked words = first_walked (second ∷ words) ∙ and_behind second also both.top 2 (held_first first) words

    both_fit : fault_of with_both (name ∷ first ∷ second ∷ []) ≡ []
    unfolding clap_on_literals
    both_fit = ap₂ (ended both) (both_walked []) both_read

    first_found : first_of (codes "first") (matches_of with_both (name ∷ first ∷ second ∷ [])) ≡ Some first
    first_found = ap (λ (w : Walk). first_of (codes "first") (finished both.top.rules w.held)) both_read

    second_found : first_of (codes "second") (matches_of with_both (name ∷ first ∷ second ∷ [])) ≡ Some second
    second_found = ap (λ (w : Walk). first_of (codes "second") (finished both.top.rules w.held)) both_read

    both_of_more : (more : Text) (words : List Text) → IsArgument more → is_empty (fault_of with_both (name ∷ first ∷ second ∷ more ∷ words)) ≡ false
    both_of_more more words third =
        ap (λ (f : Kinds). is_empty (ended both f (walk both.top.rules [] nothing_held (first ∷ second ∷ more ∷ words))))
        (both_walked (more ∷ words) ∙ and_behind more third both.top 3 (held_both first second) words)

-- the words fit a command with two arguments: they are there, and are what the matches give
pub both_of_fitting : (words : List Text) → list_all is_argument (drop 1 words) ≡ true → fault_of with_both words ≡ []
    → (first second : Text) × AreTwoArguments words first second
    × (first_of (codes "first") (matches_of with_both words) ≡ Some first) × (first_of (codes "second") (matches_of with_both words) ≡ Some second)
both_of_fitting [] are fits = absurd (some_fault (fault_of with_both []) both_of_nothing fits)
both_of_fitting (name ∷ []) are fits = absurd (some_fault (fault_of with_both (name ∷ [])) (both_of_none name) fits)
both_of_fitting (name ∷ first ∷ []) are fits =
    let is = split (is_argument first) true are in
    absurd (some_fault (fault_of with_both (name ∷ first ∷ [])) (both_of_one name first (by_test first is.0)) fits)
both_of_fitting (name ∷ first ∷ second ∷ []) are fits =
    let left = split (is_argument first) (is_argument second && true) are in
    let is : IsArgument first = by_test first left.0 in
    let also : IsArgument second = by_test second (split (is_argument second) true left.1).0 in
    (first, second, record { behind = refl; first_is_argument = is; second_is_argument = also }, first_found name first is second also, second_found name first is second also)
both_of_fitting (name ∷ first ∷ second ∷ more ∷ words) are fits =
    let left = split (is_argument first) (is_argument second && (is_argument more && list_all is_argument words)) are in
    let middle = split (is_argument second) (is_argument more && list_all is_argument words) left.1 in
    let right = split (is_argument more) (list_all is_argument words) middle.1 in
    absurd (some_fault (fault_of with_both (name ∷ first ∷ second ∷ more ∷ words))
    (both_of_more name first (by_test first left.0) second (by_test second middle.0) more words (by_test more right.0)) fits)

-- and where two arguments are there the words fit
pub both_fitting : (words : List Text) (first second : Text) → AreTwoArguments words first second → fault_of with_both words ≡ []
both_fitting words first second there =
    ap (built_fault both nothing_held) there.behind ∙ both_fit [] first there.first_is_argument second there.second_is_argument

pub both_are_read : (words : List Text) (first second : Text) → AreTwoArguments words first second → list_all is_argument (drop 1 words) ≡ true
both_are_read words first second there =
    ap (list_all is_argument) there.behind
    ∙ ap₂ (λ t u. t && (u && true)) (to_test first there.first_is_argument) (to_test second there.second_is_argument)

-- ---- three arguments

abbrev three : App
three = built with_three

-- all are there, and the third waits to be used
abbrev held_three : Text → Text → Text → Held
held_three first second third = record {
  rows = record { id = codes "first"; values = first ∷ []; count = None; source = Some CommandLine; reading = AsWritten }
      ∷ record { id = codes "second"; values = second ∷ []; count = None; source = Some CommandLine; reading = AsWritten } ∷ [];
  pending = Some (codes "third", third ∷ []);
  skip = 0;
}

-- no word stands behind the name, one does, two do, three do, or more do
three_of_nothing : is_empty (fault_of with_three []) ≡ false
unfolding clap_on_literals
three_of_nothing = refl

three_of_none : (name : Text) → is_empty (fault_of with_three (name ∷ [])) ≡ false
unfolding clap_on_literals
three_of_none name = refl

module _ (name first : Text) (is : IsArgument first) where
  begun_read : walk three.top.rules [] nothing_held (first ∷ []) ≡ between 2 (held_first first)
  begun_read = goes first is three.top.rules 1 nothing_held

  begun_walked : (words : List Text) → walk_fault three.top [] (walk_from nothing_held) (first ∷ words) ≡ walk_fault three.top [] (between 2 (held_first first)) words
  begun_walked words = and_behind first is three.top 1 nothing_held words

  three_of_one : is_empty (fault_of with_three (name ∷ first ∷ [])) ≡ false
  unfolding clap_on_literals
  three_of_one = ap₂ (λ (f : Kinds) (w : Walk). is_empty (ended three f w)) (begun_walked []) begun_read

  module _ (second : Text) (also : IsArgument second) where
    half_read : walk three.top.rules [] nothing_held (first ∷ second ∷ []) ≡ between 3 (held_both first second)
    half_read = ap (λ (w : Walk). walked three.top.rules [] w second) begun_read ∙ goes second also three.top.rules 2 (held_first first)

    half_walked : (words : List Text)
        → walk_fault three.top [] (walk_from nothing_held) (first ∷ second ∷ words) ≡ walk_fault three.top [] (between 3 (held_both first second)) words
    half_walked words = begun_walked (second ∷ words) ∙ and_behind second also three.top 2 (held_first first) words

    three_of_two : is_empty (fault_of with_three (name ∷ first ∷ second ∷ [])) ≡ false
    unfolding clap_on_literals
    three_of_two = ap₂ (λ (f : Kinds) (w : Walk). is_empty (ended three f w)) (half_walked []) half_read

    module _ (third : Text) (last : IsArgument third) where
      three_read : walk three.top.rules [] nothing_held (first ∷ second ∷ third ∷ []) ≡ between 4 (held_three first second third)
      three_read = ap (λ (w : Walk). walked three.top.rules [] w third) half_read ∙ goes third last three.top.rules 3 (held_both first second)

      three_walked : (words : List Text)
          → walk_fault three.top [] (walk_from nothing_held) (first ∷ second ∷ third ∷ words)
          ≡ walk_fault three.top [] (between 4 (held_three first second third)) words
      three_walked words = half_walked (third ∷ words) ∙ and_behind third last three.top 3 (held_both first second) words

      three_fit : fault_of with_three (name ∷ first ∷ second ∷ third ∷ []) ≡ []
      unfolding clap_on_literals
      three_fit = ap₂ (ended three) (three_walked []) three_read

      first_of_three : first_of (codes "first") (matches_of with_three (name ∷ first ∷ second ∷ third ∷ [])) ≡ Some first
      first_of_three = ap (λ (w : Walk). first_of (codes "first") (finished three.top.rules w.held)) three_read

      second_of_three : first_of (codes "second") (matches_of with_three (name ∷ first ∷ second ∷ third ∷ [])) ≡ Some second
      second_of_three = ap (λ (w : Walk). first_of (codes "second") (finished three.top.rules w.held)) three_read

      third_of_three : first_of (codes "third") (matches_of with_three (name ∷ first ∷ second ∷ third ∷ [])) ≡ Some third
      third_of_three = ap (λ (w : Walk). first_of (codes "third") (finished three.top.rules w.held)) three_read

      three_of_more : (more : Text) (words : List Text) → IsArgument more → is_empty (fault_of with_three (name ∷ first ∷ second ∷ third ∷ more ∷ words)) ≡ false
      three_of_more more words fourth =
          ap (λ (f : Kinds). is_empty (ended three f (walk three.top.rules [] nothing_held (first ∷ second ∷ third ∷ more ∷ words))))
          (three_walked (more ∷ words) ∙ and_behind more fourth three.top 4 (held_three first second third) words)

-- the words fit a command with three arguments: they are there, and are what the matches give
pub three_of_fitting : (words : List Text) → list_all is_argument (drop 1 words) ≡ true → fault_of with_three words ≡ []
    → (first second third : Text) × AreThreeArguments words first second third
    × (first_of (codes "first") (matches_of with_three words) ≡ Some first) × (first_of (codes "second") (matches_of with_three words) ≡ Some second)
    × (first_of (codes "third") (matches_of with_three words) ≡ Some third)
three_of_fitting [] are fits = absurd (some_fault (fault_of with_three []) three_of_nothing fits)
three_of_fitting (name ∷ []) are fits = absurd (some_fault (fault_of with_three (name ∷ [])) (three_of_none name) fits)
three_of_fitting (name ∷ first ∷ []) are fits =
    let is = split (is_argument first) true are in
    absurd (some_fault (fault_of with_three (name ∷ first ∷ [])) (three_of_one name first (by_test first is.0)) fits)
three_of_fitting (name ∷ first ∷ second ∷ []) are fits =
    let left = split (is_argument first) (is_argument second && true) are in
    let right = split (is_argument second) true left.1 in
    absurd (some_fault (fault_of with_three (name ∷ first ∷ second ∷ [])) (three_of_two name first (by_test first left.0) second (by_test second right.0)) fits)
three_of_fitting (name ∷ first ∷ second ∷ third ∷ []) are fits =
    let left = split (is_argument first) (is_argument second && (is_argument third && true)) are in
    let middle = split (is_argument second) (is_argument third && true) left.1 in
    let is : IsArgument first = by_test first left.0 in
    let also : IsArgument second = by_test second middle.0 in
    let last : IsArgument third = by_test third (split (is_argument third) true middle.1).0 in (
      first,
      second,
      third,
      record { behind = refl; first_is_argument = is; second_is_argument = also; third_is_argument = last },
      first_of_three name first is second also third last,
      second_of_three name first is second also third last,
      third_of_three name first is second also third last,
    )
three_of_fitting (name ∷ first ∷ second ∷ third ∷ more ∷ words) are fits =
    let left = split (is_argument first) (is_argument second && (is_argument third && (is_argument more && list_all is_argument words))) are in
    let middle = split (is_argument second) (is_argument third && (is_argument more && list_all is_argument words)) left.1 in
    let right = split (is_argument third) (is_argument more && list_all is_argument words) middle.1 in
    let end = split (is_argument more) (list_all is_argument words) right.1 in
    absurd (some_fault (fault_of with_three (name ∷ first ∷ second ∷ third ∷ more ∷ words))
    (three_of_more name first (by_test first left.0) second (by_test second middle.0) third (by_test third right.0) more words (by_test more end.0)) fits)

-- and where three arguments are there the words fit
pub three_fitting : (words : List Text) (first second third : Text) → AreThreeArguments words first second third → fault_of with_three words ≡ []
three_fitting words first second third there =
    ap (built_fault three nothing_held) there.behind
    ∙ three_fit [] first there.first_is_argument second there.second_is_argument third there.third_is_argument

pub three_are_read : (words : List Text) (first second third : Text) → AreThreeArguments words first second third → list_all is_argument (drop 1 words) ≡ true
three_are_read words first second third there =
    ap (list_all is_argument) there.behind
    ∙ ap₂ (λ t u. t && u) (to_test first there.first_is_argument)
    (ap₂ (λ t u. t && (u && true)) (to_test second there.second_is_argument) (to_test third there.third_is_argument))
