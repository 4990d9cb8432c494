-- The names of new variables.
--
-- The words of an automaton are `jump$`, `next$` and so on, with the number of automata around it in letters, and then the numbers of a
-- state and a transition, each behind a `_`. The value of a name in a state is the name, with a `$` behind it if it has none, and then the
-- number of automata around in letters and the number of the state. So all are apart: a value has a digit directly behind the letters, a
-- word has none, and a name of an inlined call has a digit directly behind its `$`.
use Rattle.std.specs.Prelude.{ℕ, ◌+◌, ◌/◌, ◌%◌, min, nat_eq, nat_lt, Bool, true, false, if◌then◌else◌, List, [], ◌∷◌, ◌++◌, take, codes, decimal}
use Rattle.hp_automata.specs.declared.new_names.Word.{Word}
use Rattle.hp_automata.specs.declared.new_names.Word.TheVariants.{Jump, Next, From, On, Strong, Weak}

-- the sign that no name of a source text holds
abbrev pub dollar : ℕ
dollar = 36

abbrev pub is_new : List ℕ → Bool
is_new [] = false
is_new (b ∷ bs) = if nat_eq b dollar then true else is_new bs

-- the text of a word
abbrev pub text : Word → List ℕ
text Jump = codes "jump$"
text Next = codes "next$"
text From = codes "from$"
text On = codes "on$"
text Strong = codes "strong$"
text Weak = codes "weak$"

-- how many automata are around, each digit as a letter; an accepted text has no more than 64 within one another
abbrev pub letters : ℕ → List ℕ
letters d = if nat_lt d 10 then (97 + d) ∷ [] else (97 + (d / 10) % 10) ∷ (97 + d % 10) ∷ []

-- The number of a state or a transition, six digits at most: a text of 1 MiB has not room for more.
abbrev pub digits : ℕ → List ℕ
digits k = decimal (min 999999 k)

-- a name and a number behind it
abbrev pub numbered : List ℕ → ℕ → List ℕ
numbered x k = (x ++ 95 ∷ []) ++ digits k

-- a word of an automaton, of its state k, and of the transition j of that state
abbrev pub word_name : Word → ℕ → List ℕ
word_name w d = text w ++ letters d

abbrev pub state_word : Word → ℕ → ℕ → List ℕ
state_word w d k = numbered (word_name w d) k

abbrev pub transition_word : Word → ℕ → ℕ → ℕ → List ℕ
transition_word w d k j = numbered (state_word w d k) j

-- A name with its sign. The bounds do not come to bear: a name of a source text has at most 255 bytes, and that of a variable of an inlined
-- call at most seven more.
abbrev pub signed : List ℕ → List ℕ
signed x = if is_new x then take 262 x else take 261 x ++ dollar ∷ []

-- the value of a name in the state k of an automaton
abbrev pub value_name : ℕ → ℕ → List ℕ → List ℕ
value_name d k x = (signed x ++ letters d) ++ digits k
