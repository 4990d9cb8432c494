-- What replaces an automaton has right classes, where what replaces its states has.
use Rattle.std.proofs.Common.{◌≡◌, ℕ, ◌+◌, ◌<◌, ◌≤◌, Bool, true, false, ◌||◌, if◌then◌else◌, List, [], ◌∷◌, ◌++◌, map, refl, sym, ap, ◌∙◌, subst, arith}
use Rattle.std.specs.Prelude.{IsFalse, Some}
use Rattle.hp_base.specs.declared.span.Span.{Span}
use Rattle.hp_tree.specs.declared.block.Trans.{Trans}
use Rattle.hp_tree.specs.Blocks.{Decl, Block, Eqn, automaton, States, no_state, more_states, eqns_of}
use Rattle.hp_tree.specs.Meaning.{declares, defines, some_defines, block_defines}
use Rattle.hp_init.specs.Classes.{Classes, Known, or_first, known_within}
use Rattle.law_values.specs.Valued.Classed.{none_second, OthersFirst}
use Rattle.hp_automata.specs.declared.new_names.Word.{Word}
use Rattle.hp_automata.specs.declared.new_names.Word.TheVariants.{Strong}
use Rattle.hp_automata.specs.NewNames.{value_name}
use Rattle.hp_tables.specs.Defining.Names.{names_of_states}
use Rattle.hp_automata.specs.Names.{is_name}
use Rattle.hp_automata.specs.Lowering.{Types, Enumerations, Frame, frame, inner, transition_locals, value_local, state_locals, locals_from, frame_locals, frame_eqns, lowered_eqn, lowered_states, afresh, state_switch, count_of}
use Rattle.law_automata.specs.Lowered.OldNames.{IsOld}
use Rattle.law_automata.specs.Lowered.Removable.{Known as Names, and_defined, EqnOk, most}
use Rattle.law_automata.proofs.LoweredLemmas.Apart.{new_is_new}
use Rattle.law_automata.proofs.LoweredLemmas.Defined.{eqn_same}
use Rattle.law_automata.proofs.LoweredLemmas.Lookups.{eqn_old, names_of_frame, eqn_sound}
use Rattle.law_automata.proofs.LoweredLemmas.Renaming.{Renames}
use Rattle.law_automata.proofs.LoweredLemmas.Spelling.{value}
use Rattle.law_automata.proofs.LoweredLemmas.Tests.{and_not}
use Rattle.law_automata.proofs.ReadiedLemmas.NewWords.{Distinct, distinct_once, frame_only}
use Rattle.law_automata.specs.Classed.Good.{ClocksFirst, known_of, in_block, in_body}
use Rattle.law_automata.specs.Classed.Relates.{NewFirst, Relates}
use Rattle.law_automata.proofs.ClassedLemmas.Places.{within_first, new_within, new_in}
use Rattle.law_automata.proofs.ClassedLemmas.Rows.{Gives, AllGive, both_give, block_gives, lasts_none, clocks_both}
use Rattle.law_automata.proofs.ClassedLemmas.States.{in_state, arm_new, frame_give}

-- ---- the words have no clock but the base clock

transition_clocks : (second : Classes) (f : Frame) (w : Word) (i j : ℕ) (ts : List Trans) → ClocksFirst second (transition_locals f w i j ts)
transition_clocks second f w i j [] = tt
transition_clocks second f w i j (t ∷ ts) = (refl, transition_clocks second f w i (j + 1) ts)

value_clocks : (second : Classes) (tys : Types) (f : Frame) (i : ℕ) (xs : List (List ℕ)) → ClocksFirst second (map (value_local tys f i) xs)
value_clocks second tys f i [] = tt
value_clocks second tys f i (x ∷ xs) = (refl, value_clocks second tys f i xs)

state_clocks : (second : Classes) (tys : Types) (f : Frame) (i : ℕ) (unless : List Trans) → ClocksFirst second (state_locals tys f i unless)
state_clocks second tys f i unless =
    (refl, (refl, (refl, clocks_both second (transition_locals f Strong i 0 unless) (map (value_local tys f i) f.names) (transition_clocks second f Strong i 0 unless) (value_clocks second tys f i f.names))))

locals_clocks : (second : Classes) (tys : Types) (f : Frame) (i : ℕ) (ss : States) → ClocksFirst second (locals_from tys f i ss)
locals_clocks second tys f i no_state = tt
locals_clocks second tys f i (more_states q b until unless at ss) =
    clocks_both second (state_locals tys f i unless) (locals_from tys f (i + 1) ss) (state_clocks second tys f i unless) (locals_clocks second tys f (i + 1) ss)

frame_clocks : (second : Classes) (tys : Types) (f : Frame) (ss : States) → ClocksFirst second (frame_locals tys f ss)
frame_clocks second tys f ss = (refl, (refl, locals_clocks second tys f 0 ss))

-- in an arm of the switch over states a name is read as around it, or is First
arm_values : (b c u v : Bool) → IsFalse v → IsFalse (if b then false else (if b || false then u else (if c then false else v)))
arm_values true c u v h = refl
arm_values false true u v h = refl
arm_values false false u v h = h

module _ (enums : Enumerations) {outer : Names} {d : ℕ} {to : List ℕ → List ℕ} (rn : Renames outer d to) (tys : Types) (sp : Span) (all : States) (ok : EqnOk outer d (automaton sp all)) (k l : Known) (r : Relates to k l)
    (first : (x : List ℕ) → defines (automaton sp all) x ≡ true → IsFalse (or_first (k.variables x))) where
  pub names_here : (x : List ℕ) → is_name (frame sp d all).names x ≡ defines (automaton sp all) x
  names_here x = names_of_frame enums sp d all x

  pub old_here : (x : List ℕ) → is_name (frame sp d all).names x ≡ true → IsOld x
  old_here x q = eqn_old outer d (automaton sp all) ok x (sym (names_here x) ∙ q)

  pub few_here : count_of all ≤ most
  few_here = let q : count_of all < most = ok.2 in omega (arith, q)

  abbrev pub words : List Decl
  words = frame_locals tys (frame sp d all) all

  abbrev pub frame_all : List Eqn
  frame_all = frame_eqns enums to tys (frame sp d all) ++ lowered_states enums to tys (frame sp d all) 0 all

  abbrev replaced : Eqn
  replaced = lowered_eqn enums to tys d (automaton sp all)

  -- what is known in the block that replaces it
  abbrev pub in_frame : Known
  in_frame = known_of words (eqns_of frame_all) none_second (known_within replaced l)

  distinct_names : Distinct (frame sp d all).names
  distinct_names = distinct_once (names_of_states all)

  words_new : (y : List ℕ) → declares words y ≡ true → IsOld y → ⊥
  words_new y q o =
      let a = frame_only (frame sp d all) tys old_here distinct_names all (and_defined (automaton sp all) outer) (d + 1) all ok.3 few_here y q in
      new_is_new d a.0 a.1.0 (subst IsOld (sym a.1.1.1) o)

  pub frame_new : NewFirst in_frame
  frame_new = new_in words (eqns_of frame_all) none_second (known_within replaced l) (λ y q. refl) (new_within replaced l r.fresh)

  variables_there : (x : List ℕ) → IsOld x → or_first (in_frame.variables (to x)) ≡ or_first (k.variables x)
  variables_there x o = by (declares words (to x)) refl
    where
      by : (b : Bool) → declares words (to x) ≡ b → or_first (if b then Some false else l.variables (to x)) ≡ or_first (k.variables x)
      by true q = sym (r.fresh.variables (to x) (words_new (to x) q)) ∙ r.variables x o
      by false q = r.variables x o

  values_there : (x : List ℕ) → IsOld x → IsFalse (k.values x) → IsFalse (in_frame.values (to x))
  values_there x o h = by (some_defines (eqns_of frame_all) (to x)) refl
    where
      defined_by : some_defines (eqns_of frame_all) (to x) ≡ true → (b : Bool) → declares words (to x) ≡ b → IsFalse (or_first (in_frame.variables (to x)))
      defined_by p true q = frame_new.variables (to x) (words_new (to x) q)
      defined_by p false q = variables_there x o ∙ first x (sym (eqn_same enums rn tys (automaton sp all) ok x o) ∙ and_not (some_defines (eqns_of frame_all) (to x)) (declares words (to x)) p q)

      by : (b : Bool) → some_defines (eqns_of frame_all) (to x) ≡ b → IsFalse (if b then or_first (in_frame.variables (to x)) else (known_within replaced l).values (to x))
      by true p = defined_by p (declares words (to x)) refl
      by false p = within_first (defines replaced (to x)) (l.values (to x)) (r.values x o h)

  -- outside of the states
  pub relates_frame : Relates to k in_frame
  relates_frame = record { variables = variables_there; values = values_there; fresh = frame_new }

  -- ---- where the body of a state stands

  module _ (i : ℕ) (room : i < most) (body other : Block) where
    abbrev into : List ℕ → List ℕ
    into = inner to (frame sp d all) i

    abbrev there : Known
    there = in_state (frame sp d all) i body other in_frame

    value_new : (x : List ℕ) → is_name (frame sp d all).names x ≡ true → IsOld (value_name d i x) → ⊥
    value_new x q = new_is_new d (value i x) (room, old_here x q)

    state_variables : (x : List ℕ) → IsOld x → or_first (there.variables (into x)) ≡ or_first (k.variables x)
    state_variables x o = by (is_name (frame sp d all).names x) refl
      where
        by : (b : Bool) → is_name (frame sp d all).names x ≡ b → or_first (in_frame.variables (if b then value_name d i x else to x)) ≡ or_first (k.variables x)
        by true q = frame_new.variables (value_name d i x) (value_new x q) ∙ sym (first x (sym (names_here x) ∙ q))
        by false q = variables_there x o

    frame_values : (x : List ℕ) → IsOld x → IsFalse (if defines (automaton sp all) x then false else k.values x) → IsFalse (in_frame.values (into x))
    frame_values x o h = by (is_name (frame sp d all).names x) refl
      where
        by : (b : Bool) → is_name (frame sp d all).names x ≡ b → IsFalse (in_frame.values (if b then value_name d i x else to x))
        by true q = frame_new.values (value_name d i x) (value_new x q)
        by false q = values_there x o (sym (ap (λ b. if b then false else k.values x) (sym (names_here x) ∙ q)) ∙ h)

    pub relates_state : Relates (inner to (frame sp d all) i) (known_within (automaton sp all) k) (in_state (frame sp d all) i body other in_frame)
    relates_state =
        record {
          variables = state_variables;
          values = λ x o h. arm_values (block_defines body (into x)) (defines (state_switch (frame sp d all) i body other) (into x)) (or_first (in_frame.variables (into x))) (in_frame.values (into x)) (frame_values x o h);
          fresh = new_within (afresh (frame sp d all) i body) _ (arm_new (frame sp d all) i body other in_frame frame_new);
        }

  -- ---- the automaton

  others_first : OthersFirst (known_within replaced l) words (eqns_of frame_all)
  others_first y h n =
      let stood = eqn_sound enums rn tys (automaton sp all) ok y (and_not (some_defines (eqns_of frame_all) y) (declares words y) h n) in
      subst (λ z. IsFalse (or_first (l.variables z))) (sym stood.is) (r.variables stood.name stood.old ∙ first stood.name stood.own)

  pub automaton_by : (ds : List Decl) → AllGive in_frame words (lowered_states enums to tys (frame sp d all) 0 all) → Gives l ds (lowered_eqn enums to tys d (automaton sp all))
  automaton_by ds h =
      let b = block_gives (known_within replaced l) words frame_all none_second (λ class. lasts_none class words) others_first (frame_clocks in_frame.values tys (frame sp d all) all)
      (both_give in_frame words (frame_eqns enums to tys (frame sp d all)) (lowered_states enums to tys (frame sp d all) 0 all) (frame_give in_frame frame_new words (frame sp d all) enums tys few_here old_here to) h) in
      (in_body (in_block none_second b.0), (refl, b.1))
