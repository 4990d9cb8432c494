-- What the getters give of the matches of a command with one argument, with two or with three.
use Rattle.std.proofs.Common.{◌≡◌, ◌≢◌, ◌∙◌, true, refl, sym, ap, subst, List, [], Option, Some, None, is_some, MatchOption, drop, codes, true≢false}
use Rattle.std.specs.Borrow.{Bor}
use Rattle.std.specs.List.{list_all}
use Rattle.std.specs.Option.{option_map, option_zip}
use Rattle.clap.specs.Matches.{first_value, found_of}
use Rattle.clap.specs.Walk.{Text, first_of}
use Rattle.clap.specs.Simple.{App, HasMatchesOf, is_simple, matches_of}
use Rattle.clap.specs.Faults.{fault_of, is_simple_and_free}
use Rattle.clap.specs.declared.parser.matches.ArgMatches.{ArgMatches}
use Rattle.clap.proofs.WalkLemmas.{first_value-rows}
use Rattle.hp_arguments.specs.Words.{AreThreeArguments, AreTwoArguments, IsOneArgument, all_three, is_argument}
use Rattle.hp_arguments.specs.Commands.{with_both, with_one, with_three}
use Rattle.hp_arguments.proofs.CommandLaws.{both_are_simple, both_fitting, both_of_fitting, one_fitting, one_is_simple, one_of_fitting, three_are_simple, three_fitting, three_of_fitting}

-- a text that is there answers
pub answered : (o : Option (Bor Text)) (text : Text) (N : Type 0) (P : Text → Type 0) → option_map (λ s. s.now) o ≡ Some text → P text → MatchOption o N (λ s. P s.now)
answered None text N P there is = absurd (true≢false (sym (ap is_some there)))
answered (Some s) text N P there is = subst (λ (p : Option Text). MatchOption p N P) (sym there) is

-- and so do two
zipped : (o p : Option (Bor Text)) (first second : Text) (N : Type 0) (P : Text → Text → Type 0)
    → option_map (λ s. s.now) o ≡ Some first → option_map (λ s. s.now) p ≡ Some second → P first second
    → MatchOption (option_zip o p) N (λ both. P both.0.now both.1.now)
zipped None p first second N P first_there second_there are = absurd (true≢false (sym (ap is_some first_there)))
zipped (Some s) None first second N P first_there second_there are = absurd (true≢false (sym (ap is_some second_there)))
zipped (Some s) (Some t) first second N P first_there second_there are =
    subst (λ (q : Option Text). MatchOption q N (λ text. P text t.now)) (sym first_there)
    (subst (λ (q : Option Text). MatchOption q N (λ text. P first text)) (sym second_there) are)

pub both_answered : (r : Option (Bor Text × Bor Text)) (o p : Option (Bor Text)) (first second : Text) (N : Type 0) (P : Text → Text → Type 0) → r ≡ option_zip o p
    → option_map (λ s. s.now) o ≡ Some first → option_map (λ s. s.now) p ≡ Some second → P first second
    → MatchOption r N (λ both. P both.0.now both.1.now)
both_answered r o p first second N P is first_there second_there are =
    subst (λ (q : Option (Bor Text × Bor Text)). MatchOption q N (λ both. P both.0.now both.1.now)) (sym is) (zipped o p first second N P first_there second_there are)

-- and so do three
pub three_answered : (r : Option (Bor Text × Bor Text × Bor Text)) (o p q : Option (Bor Text)) (first second third : Text) (N : Type 0) (P : Text → Text → Text → Type 0)
    → r ≡ all_three o p q
    → option_map (λ s. s.now) o ≡ Some first → option_map (λ s. s.now) p ≡ Some second → option_map (λ s. s.now) q ≡ Some third → P first second third
    → MatchOption r N (λ all. P all.0.now all.1.now all.2.now)
three_answered r o p q first second third N P is first_there second_there third_there are =
    subst (λ (a : Option (Bor Text × Bor Text × Bor Text)). MatchOption a N (λ all. P all.0.now all.1.now all.2.now)) (sym is)
    (go o p q first_there second_there third_there)
  where
    go : (o p q : Option (Bor Text)) → option_map (λ s. s.now) o ≡ Some first → option_map (λ s. s.now) p ≡ Some second → option_map (λ s. s.now) q ≡ Some third
        → MatchOption (all_three o p q) N (λ all. P all.0.now all.1.now all.2.now)
    go None p q is_first is_second is_third = absurd (true≢false (sym (ap is_some is_first)))
    go (Some s) None q is_first is_second is_third = absurd (true≢false (sym (ap is_some is_second)))
    go (Some s) (Some t) None is_first is_second is_third = absurd (true≢false (sym (ap is_some is_third)))
    go (Some s) (Some t) (Some u) is_first is_second is_third =
        subst (λ (a : Option Text). MatchOption a N (λ text. P text t.now u.now)) (sym is_first)
        (subst (λ (a : Option Text). MatchOption a N (λ text. P first text u.now)) (sym is_second)
        (subst (λ (a : Option Text). MatchOption a N (λ text. P first second text)) (sym is_third) are))

-- what a command and its words have as matches, the getter gives
first_is : (a b : App) (words : List Text) (m : ArgMatches) (id : Text) (got : Option Text) → a ≡ b → is_simple b ≡ true → HasMatchesOf a words m
    → got ≡ first_value (found_of m) id → got ≡ first_of id (matches_of b words)
first_is a b words m id got same simple has gives =
    gives ∙ first_value-rows (found_of m) id ∙ ap (first_of id) ((has (ap is_simple same ∙ simple)).0 ∙ ap (λ (c : App). matches_of c words) same)

-- the command took the words, and these are its matches
abbrev pub Took : App → List Text → ArgMatches → Type 0
Took a words m = (fault_of a words ≡ []) × HasMatchesOf a words m

-- what holds of one name of a command holds of the other
fits : (a b : App) (words : List Text) → a ≡ b → fault_of a words ≡ [] → fault_of b words ≡ []
fits a b words same none = ap (λ (c : App). fault_of c words) (sym same) ∙ none

-- ---- one argument

pub one_is_free : (a : App) → a ≡ with_one → is_simple_and_free a ≡ true
one_is_free a same = ap is_simple_and_free same ∙ one_is_simple

module _ (a : App) (same : a ≡ with_one) (words : List Text) where
  pub one_refused : fault_of a words ≢ [] → (argument : Text) → IsOneArgument words argument → ⊥
  one_refused some argument there = some (ap (λ (b : App). fault_of b words) same ∙ one_fitting words argument there)

  module _ (are : list_all is_argument (drop 1 words) ≡ true) (m : ArgMatches) (took : Took a words m) where
    pub one_taken : (got : Option Text) → got ≡ first_value (found_of m) (codes "argument") → (argument : Text) × IsOneArgument words argument × (got ≡ Some argument)
    one_taken got gives =
        let there = one_of_fitting words are (fits a with_one words same took.0) in
        (there.0, there.1, first_is a with_one words m (codes "argument") got same refl took.1 gives ∙ there.2)

-- ---- two arguments

pub both_are_free : (a : App) → a ≡ with_both → is_simple_and_free a ≡ true
both_are_free a same = ap is_simple_and_free same ∙ both_are_simple

module _ (a : App) (same : a ≡ with_both) (words : List Text) where
  pub both_refused : fault_of a words ≢ [] → (first second : Text) → AreTwoArguments words first second → ⊥
  both_refused some first second there = some (ap (λ (b : App). fault_of b words) same ∙ both_fitting words first second there)

  module _ (are : list_all is_argument (drop 1 words) ≡ true) (m : ArgMatches) (took : Took a words m) where
    pub both_taken : (first_got second_got : Option Text) → first_got ≡ first_value (found_of m) (codes "first") → second_got ≡ first_value (found_of m) (codes "second")
        → (first second : Text) × AreTwoArguments words first second × (first_got ≡ Some first) × (second_got ≡ Some second)
    both_taken first_got second_got first_gives second_gives =
        let there = both_of_fitting words are (fits a with_both words same took.0) in (
          there.0,
          there.1,
          there.2,
          first_is a with_both words m (codes "first") first_got same refl took.1 first_gives ∙ there.3,
          first_is a with_both words m (codes "second") second_got same refl took.1 second_gives ∙ there.4,
        )

-- ---- three arguments

pub three_are_free : (a : App) → a ≡ with_three → is_simple_and_free a ≡ true
three_are_free a same = ap is_simple_and_free same ∙ three_are_simple

module _ (a : App) (same : a ≡ with_three) (words : List Text) where
  pub three_refused : fault_of a words ≢ [] → (first second third : Text) → AreThreeArguments words first second third → ⊥
  three_refused some first second third there = some (ap (λ (b : App). fault_of b words) same ∙ three_fitting words first second third there)

  module _ (are : list_all is_argument (drop 1 words) ≡ true) (m : ArgMatches) (took : Took a words m) where
    pub three_taken : (first_got second_got third_got : Option Text)
        → first_got ≡ first_value (found_of m) (codes "first") → second_got ≡ first_value (found_of m) (codes "second") → third_got ≡ first_value (found_of m) (codes "third")
        → (first second third : Text) × AreThreeArguments words first second third × (first_got ≡ Some first) × (second_got ≡ Some second) × (third_got ≡ Some third)
    three_taken first_got second_got third_got first_gives second_gives third_gives =
        let there = three_of_fitting words are (fits a with_three words same took.0) in (
          there.0,
          there.1,
          there.2,
          there.3,
          first_is a with_three words m (codes "first") first_got same refl took.1 first_gives ∙ there.4,
          first_is a with_three words m (codes "second") second_got same refl took.1 second_gives ∙ there.5,
          first_is a with_three words m (codes "third") third_got same refl took.1 third_gives ∙ there.6,
        )
