-- What the code holds of names, layers and automata.
use Rattle.std.specs.Prelude.{ℕ, if◌then◌else◌, List, [], ◌∷◌, Option, None, Some}
use Rattle.std.specs.Str.{bytes_eq}
use Rattle.indexmap.specs.IndexMap.{get_by}
use Rattle.hp_automata.specs.declared.around.Layer.{Layer}
use Rattle.hp_automata.specs.declared.around.States.{States}
use Rattle.hp_automata.specs.declared.frame.Frame as held
use Rattle.hp_automata.specs.declared.frame.Targets.{Targets}
use Rattle.hp_automata.specs.NewNames.{value_name}
use Rattle.hp_automata.specs.Names.{is_name}
use Rattle.hp_automata.specs.Renaming.{itself}
use Rattle.hp_automata.specs.Lowering.{Frame}
use Rattle.hp_automata.specs.Lists.{names_seen}

-- what stands for names where a state is around
abbrev pub said_by : Layer → (List ℕ → List ℕ) → List ℕ → List ℕ
said_by l to x = if is_name (names_seen l.names.names.items) x then value_name l.depth l.state x else to x

-- what stands for names where these states are around, the outermost first
abbrev pub said_over : (List ℕ → List ℕ) → List Layer → List ℕ → List ℕ
said_over to [] x = to x
said_over to (l ∷ ls) x = said_over (said_by l to) ls x

abbrev pub said : List Layer → List ℕ → List ℕ
said ls x = said_over (λ y. y) ls x

-- what is read for names there, and what is declared
abbrev pub read_in : States → List ℕ → List ℕ
read_in states = said states.layers.now

abbrev pub kept_in : States → List ℕ → List ℕ
kept_in states = itself

-- the number that a table of states has for a name
abbrev pub says : Targets → List ℕ → Option ℕ
says t x = get_by (λ k. bytes_eq x k.now) t.numbers

abbrev pub or_first : Option ℕ → ℕ
or_first None = 0
or_first (Some k) = k

abbrev pub target_in : Targets → List ℕ → ℕ
target_in t x = or_first (says t x)

-- a table of states, and one more state
abbrev pub put_target : (List ℕ → ℕ) → List ℕ → ℕ → List ℕ → ℕ
put_target f y k x = if bytes_eq y x then k else f x

abbrev pub frame_seen : held.Frame → Frame
frame_seen f = record { at = f.span; depth = f.depth; count = f.count; target = target_in f.targets; names = names_seen f.names.names.items }
