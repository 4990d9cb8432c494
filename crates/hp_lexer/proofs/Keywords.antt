-- Keywords and their bytes.
use Rattle.std.proofs.Common.{◌≡◌, ◌≢◌, ℕ, Bool, true, false, cond, List, [], ◌∷◌, None, Some, refl, sym, ap, ◌∙◌}
use Rattle.std.specs.Prelude.{find}
use Rattle.std.specs.List.{list_all}
use Rattle.std.specs.Str.{bytes_eq}
use Rattle.std.proofs.lemmas.Slice.Eq.{bytes_eq-Decides}
use Rattle.hp_base.specs.Bytes.{is_small, is_word_byte}
use Rattle.hp_lexer.specs.Spelling.{keyword_text}
use Rattle.hp_lexer.specs.Reading.{keyword_of, keywords_with}
use Rattle.hp_lexer.specs.declared.token.Keyword.{Keyword}
use Rattle.hp_lexer.specs.declared.token.Keyword.TheVariants.{Assume, Automaton, Bool as BoolWord, Continue, Contract, Do, Else, End, Enforce, Every, False, Fby, If, In, Inlined, Int, Last, Let, Merge, Node, Not, On, Or, Pre, Reset, Returns, State, Switch, Tel, Then, True, «Type» as TypeWord, Unless, Until, Var, When, Whenot, With, Xor}

abbrev pub begins_small : List ℕ → Bool
begins_small [] = false
begins_small (b ∷ w) = is_small b

-- what is found in a list passes the test
found_by : {X : Type 0} (p : X → Bool) (x y : X) (xs : List X) (d : Bool) → p x ≡ d → cond d (Some x) (find p xs) ≡ Some y → (find p xs ≡ Some y → p y ≡ true) → p y ≡ true
found_by p x y xs true e h f = let same : x ≡ y = cc in ap p (sym same) ∙ e
found_by p x y xs false e h f = f h

found : {X : Type 0} (p : X → Bool) (y : X) (xs : List X) → find p xs ≡ Some y → p y ≡ true
found p y [] h = absurd (cc)
found p y (x ∷ xs) h = found_by p x y xs (p x) refl h (λ e. found p y xs e)

pub keyword_found : (w : List ℕ) (k : Keyword) → keyword_of w ≡ Some k → w ≡ keyword_text k
keyword_found [] k h = absurd (cc)
keyword_found (b ∷ w) k h = sym ((bytes_eq-Decides (keyword_text k) (b ∷ w)).0 (found (λ k. bytes_eq (keyword_text k) (b ∷ w)) k (keywords_with b) h))

-- the text of a keyword is read as that keyword
pub keyword_again : (k : Keyword) → keyword_of (keyword_text k) ≡ Some k
keyword_again Assume = refl
keyword_again Automaton = refl
keyword_again BoolWord = refl
keyword_again Continue = refl
keyword_again Contract = refl
keyword_again Do = refl
keyword_again Else = refl
keyword_again End = refl
keyword_again Enforce = refl
keyword_again Every = refl
keyword_again False = refl
keyword_again Fby = refl
keyword_again If = refl
keyword_again In = refl
keyword_again Inlined = refl
keyword_again Int = refl
keyword_again Last = refl
keyword_again Let = refl
keyword_again Merge = refl
keyword_again Node = refl
keyword_again Not = refl
keyword_again On = refl
keyword_again Or = refl
keyword_again Pre = refl
keyword_again Reset = refl
keyword_again Returns = refl
keyword_again State = refl
keyword_again Switch = refl
keyword_again Tel = refl
keyword_again Then = refl
keyword_again True = refl
keyword_again TypeWord = refl
keyword_again Unless = refl
keyword_again Until = refl
keyword_again Var = refl
keyword_again When = refl
keyword_again Whenot = refl
keyword_again With = refl
keyword_again Xor = refl

pub one_keyword : (j k : Keyword) → keyword_text j ≡ keyword_text k → j ≡ k
one_keyword j k h = let both : Some j ≡ Some k = sym (keyword_again j) ∙ ap keyword_of h ∙ keyword_again k in cc

pub keyword_missed : (w : List ℕ) → keyword_of w ≡ None → (k : Keyword) → w ≢ keyword_text k
keyword_missed w h k e = let both : None ≡ Some k = sym h ∙ ap keyword_of e ∙ keyword_again k in cc

-- a keyword is a small letter and then letters
pub keyword_word : (k : Keyword) → (list_all is_word_byte (keyword_text k) ≡ true) × (begins_small (keyword_text k) ≡ true)
keyword_word Assume = (refl, refl)
keyword_word Automaton = (refl, refl)
keyword_word BoolWord = (refl, refl)
keyword_word Continue = (refl, refl)
keyword_word Contract = (refl, refl)
keyword_word Do = (refl, refl)
keyword_word Else = (refl, refl)
keyword_word End = (refl, refl)
keyword_word Enforce = (refl, refl)
keyword_word Every = (refl, refl)
keyword_word False = (refl, refl)
keyword_word Fby = (refl, refl)
keyword_word If = (refl, refl)
keyword_word In = (refl, refl)
keyword_word Inlined = (refl, refl)
keyword_word Int = (refl, refl)
keyword_word Last = (refl, refl)
keyword_word Let = (refl, refl)
keyword_word Merge = (refl, refl)
keyword_word Node = (refl, refl)
keyword_word Not = (refl, refl)
keyword_word On = (refl, refl)
keyword_word Or = (refl, refl)
keyword_word Pre = (refl, refl)
keyword_word Reset = (refl, refl)
keyword_word Returns = (refl, refl)
keyword_word State = (refl, refl)
keyword_word Switch = (refl, refl)
keyword_word Tel = (refl, refl)
keyword_word Then = (refl, refl)
keyword_word True = (refl, refl)
keyword_word TypeWord = (refl, refl)
keyword_word Unless = (refl, refl)
keyword_word Until = (refl, refl)
keyword_word Var = (refl, refl)
keyword_word When = (refl, refl)
keyword_word Whenot = (refl, refl)
keyword_word With = (refl, refl)
keyword_word Xor = (refl, refl)
