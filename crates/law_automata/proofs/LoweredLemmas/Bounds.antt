-- Jumps are to states, and words of automata are read in the blocks that stand for them.
use Rattle.std.proofs.Common.{◌≡◌, ℕ, suc, ◌+◌, ◌<◌, nat_eq, Bool, true, false, ◌||◌, List, [], ◌∷◌, ◌++◌, map, refl, sym, ap, ap₂, subst, ◌∙◌, arith}
use Rattle.std.specs.Prelude.{pos, if◌then◌else◌, None}
use Rattle.std.specs.Str.{bytes_eq}
use Rattle.hp_base.specs.declared.value.Value.{Value}
use Rattle.hp_base.specs.declared.value.Value.TheVariants.{B, I}
use Rattle.hp_tree.specs.declared.block.Trans.{Trans}
use Rattle.hp_tree.specs.Blocks.{Decl, States, no_state, more_states}
use Rattle.hp_tree.specs.Programs.{TypeDecl}
use Rattle.hp_tree.specs.Operators.{is_true}
use Rattle.hp_tree.specs.Instant.{Body, Fresh, Head, Tail, Instant, Past, Given, at, part, parts, own, own_with}
use Rattle.hp_tree.specs.Meaning.{Names, Nodes, Jump, first_true, number_of, weak, weak_in, selected, previous, lasts}
use Rattle.hp_automata.specs.declared.new_names.Word.TheVariants.{Jump as JumpWord, Next, Strong}
use Rattle.hp_automata.specs.NewNames.{word_name}
use Rattle.hp_automata.specs.Lowering.{Types, Frame, count_of, joined, Enumerations, transition_locals, value_local, state_locals, locals_from, frame_locals, on_base, code}
use Rattle.law_automata.specs.Lowered.Removable.{Known, is_state, TransitionsOk, StatesOk}
use Rattle.law_automata.specs.Lowered.Standing.{Relation, Along, NextStands, behind, code_of}
use Rattle.law_automata.proofs.LoweredLemmas.Apart.{bytes_same}
use Rattle.law_automata.proofs.LoweredLemmas.Expressions.{reading}
use Rattle.law_automata.proofs.LoweredLemmas.BlockMaking.{OnBase, NoLast, value_of, lasts_none}
use Rattle.law_automata.proofs.LoweredLemmas.Plain.{pure}
use Rattle.law_automata.proofs.LoweredLemmas.Jumps.{first_pure, strong_pure}
use Rattle.hp_base.specs.declared.ty.Ty.TheVariants.{Int}

-- ---- the states to which jumps are

pub number_below : (k : ℕ) (ss : States) (x : List ℕ) → is_state ss x ≡ true → number_of k ss x < k + count_of ss
number_below k no_state x h = absurd cc
number_below k (more_states f b until unless s ss) x h = by (bytes_eq f x) h (number_below (suc k) ss x)
  where
    by : (t : Bool) → (t || is_state ss x) ≡ true → (is_state ss x ≡ true → number_of (suc k) ss x < suc k + count_of ss) → (if t then k else number_of (suc k) ss x) < k + (count_of ss + 1)
    by true e r = omega arith
    by false e r = let below = r e in omega arith

module _ (types : List TypeDecl) (all : States) where
  first_below_by : (t : Bool) (n : ℕ) (r : Bool) (rest : Jump) → n < count_of all → rest.state < count_of all → (if t then record { state = n; restart = r } else rest).state < count_of all
  first_below_by true n r rest h g = h
  first_below_by false n r rest h g = g

  pub pure_below : (ts : List Trans) → TransitionsOk all ts → (names last : Names) (s : Jump) → s.state < count_of all → (first_pure types all ts names last s).state < count_of all
  pure_below [] ok names last s h = h
  pure_below (t ∷ ts) ok names last s h =
      first_below_by (is_true (pure types t.cond names last)) (number_of 0 all t.target) t.restart (first_pure types all ts names last s) (let below = number_below 0 all t.target ok.0.2 in omega (arith, below))
      (pure_below ts ok.1 names last s h)

  strong_by : (t : Bool) (a b : Jump) → a.state < count_of all → b.state < count_of all → (if t then a else b).state < count_of all
  strong_by true a b h g = h
  strong_by false a b h g = g

  pub strong_below : (outer : Known) (d : ℕ) (ss : States) → StatesOk all outer d ss → (k : ℕ) (names last : Names) (s : Jump) → s.state < count_of all → (strong_pure types all ss k names last s).state < count_of all
  strong_below outer d no_state ok k names last s h = h
  strong_below outer d (more_states f b until unless p ss) ok k names last s h =
      strong_by (nat_eq k s.state) (first_pure types all unless names last s) (strong_pure types all ss (k + 1) names last s) (pure_below unless ok.0.2.0 names last s h) (strong_below outer d ss ok.1 (k + 1) names last s h)

  true_below : (ts : List Trans) → TransitionsOk all ts → (vs : List Value) (s : Jump) → s.state < count_of all → (first_true all ts vs s).state < count_of all
  true_below [] ok vs s h = h
  true_below (t ∷ ts) ok [] s h = h
  true_below (t ∷ ts) ok (v ∷ vs) s h =
      first_below_by (is_true v) (number_of 0 all t.target) t.restart (first_true all ts vs s) (let below = number_below 0 all t.target ok.0.2 in omega (arith, below)) (true_below ts ok.1 vs s h)

  pub weak_below : (u : Value → Value) (N : Nodes) (outer : Known) (d : ℕ) (ss : States) → StatesOk all outer d ss → (k : ℕ) (j : Jump) (names last : Names) (g : Given) (now : Instant) → j.state < count_of all
      → (weak types (reading u) N all ss k j names last g now).state < count_of all
  weak_below u N outer d no_state ok k j names last g now h = h
  weak_below u N outer d (more_states f b until unless p ss) ok k j names last g now h =
      strong_by (nat_eq k j.state) _ (weak types (reading u) N all ss (suc k) j names last (at Tail g) (part Tail now))
      (true_below until ok.0.1.0 (map (λ i. i []) (weak_in types (reading u) N b until j names last (at Head g) (part Head now))) (record { state = j.state; restart = false }) h)
      (weak_below u N outer d ss ok.1 (suc k) j names last (at Tail g) (part Tail now) h)

-- ---- what the instant before chose

present_with : (P : Relation) (v : Value) (j : Instant) (i : Instant) (past other : Past) → v ≡ B false → P i j → Along P past other → Along P (i ∷ past) (own_with v j other)
present_with P v j i past other e h a = subst (λ t. Along P (i ∷ past) (own_with t j other)) (sym e) (h, a)

pub own_present : (P Q : Relation) → ((i j : Instant) → P i j → (part Body j (Fresh ∷ []) ≡ B false) × Q i (part Body j)) → (past other : Past) → Along P past other → Along Q past (own (parts Body other))
own_present P Q f [] [] a = tt
own_present P Q f (i ∷ past) (j ∷ other) a = present_with Q (part Body j (Fresh ∷ [])) (part Body j) i past (own (parts Body other)) (f i j a.0).0 (f i j a.0).1 (own_present P Q f past other a.1)
own_present P Q f [] (j ∷ other) a = absurd a
own_present P Q f (i ∷ past) [] a = absurd a

module _ (d : ℕ) (ss : States) (P : Relation) (f : (i j : Instant) → P i j → (part Body j (Fresh ∷ []) ≡ B false) × NextStands d ss i j) where
  pub pending_value : (past other : Past) → Along P past other → previous (own (parts Body other)) (word_name Next d) (I (pos 0)) ≡ I (pos (code_of (selected past)))
  pending_value [] [] a = refl
  pending_value (i ∷ past) (j ∷ other) a =
      let h = f i j a.0 in
      let next = h.1.0 in
      ap (λ v. previous (own_with v (part Body j) (own (parts Body other))) (word_name Next d) (I (pos 0))) h.0
      ∙ h.1.4
      ∙ ap₂ (λ n r. I (pos (code n r))) (sym h.1.2) (sym h.1.3)
  pending_value [] (j ∷ other) a = absurd a
  pending_value (i ∷ past) [] a = absurd a

  pub selected_below : (past other : Past) → 0 < count_of ss → Along P past other → (selected past).state < count_of ss
  selected_below [] [] some a = some
  selected_below (i ∷ past) (j ∷ other) some a = let h = f i j a.0 in subst (λ n. n < count_of ss) (sym h.1.2) h.1.1
  selected_below [] (j ∷ other) some a = absurd a
  selected_below (i ∷ past) [] some a = absurd a

-- ---- the declarations of words

module _ (to : List ℕ → List ℕ) (tys : Types) (f : Frame) where
  base_append : (xs ys : List Decl) → OnBase to xs → OnBase to ys → OnBase to (xs ++ ys)
  base_append [] ys h g = g
  base_append (x ∷ xs) ys h g = (h.0, base_append xs ys h.1 g)

  choices_base : (k j : ℕ) (ts : List Trans) → OnBase to (transition_locals f Strong k j ts)
  choices_base k j [] = tt
  choices_base k j (t ∷ ts) = (refl, choices_base k (j + 1) ts)

  values_base : (k : ℕ) (xs : List (List ℕ)) → OnBase to (map (value_local tys f k) xs)
  values_base k [] = tt
  values_base k (x ∷ xs) = (refl, values_base k xs)

  locals_base : (k : ℕ) (ss : States) → OnBase to (locals_from tys f k ss)
  locals_base k no_state = tt
  locals_base k (more_states q b until unless place ss) =
      base_append (state_locals tys f k unless) (locals_from tys f (k + 1) ss) (refl, (refl, (refl, base_append (transition_locals f Strong k 0 unless) (map (value_local tys f k) f.names) (choices_base k 0 unless) (values_base k f.names)))) (locals_base (k + 1) ss)

  pub frame_base : (ss : States) → OnBase to (frame_locals tys f ss)
  frame_base ss = (refl, (refl, locals_base 0 ss))

module _ (types : List TypeDecl) (tys : Types) (f : Frame) where
  none_append : (xs ys : List Decl) → NoLast (value_of types) xs → NoLast (value_of types) ys → NoLast (value_of types) (xs ++ ys)
  none_append [] ys h g = g
  none_append (x ∷ xs) ys h g = (h.0, none_append xs ys h.1 g)

  choices_none : (k j : ℕ) (ts : List Trans) → NoLast (value_of types) (transition_locals f Strong k j ts)
  choices_none k j [] = tt
  choices_none k j (t ∷ ts) = (refl, choices_none k (j + 1) ts)

  values_none : (k : ℕ) (xs : List (List ℕ)) → NoLast (value_of types) (map (value_local tys f k) xs)
  values_none k [] = tt
  values_none k (x ∷ xs) = (refl, values_none k xs)

  locals_none : (k : ℕ) (ss : States) → NoLast (value_of types) (locals_from tys f k ss)
  locals_none k no_state = tt
  locals_none k (more_states q b until unless place ss) =
      none_append (state_locals tys f k unless) (locals_from tys f (k + 1) ss) (refl, (refl, (refl, none_append (transition_locals f Strong k 0 unless) (map (value_local tys f k) f.names) (choices_none k 0 unless) (values_none k f.names)))) (locals_none (k + 1) ss)

  if_false : (t : Bool) (p q : Value) → t ≡ false → (if t then p else q) ≡ q
  if_false true p q e = absurd cc
  if_false false p q e = refl

  -- other names have the last values that they have further out
  pub frame_lasts : (ss : States) (past : Past) (out : Names) (x : List ℕ) → bytes_eq (word_name Next f.depth) x ≡ false → lasts (value_of types) (frame_locals tys f ss) past out x ≡ out x
  frame_lasts ss past out x h =
      if_false (bytes_eq (word_name Next f.depth) x) _ _ h ∙ lasts_none (value_of types) (on_base f.at (word_name JumpWord f.depth) Int None ∷ locals_from tys f 0 ss) (refl, locals_none 0 ss) past out x

  pub frame_pending : (ss : States) (past : Past) (out : Names) → lasts (value_of types) (frame_locals tys f ss) past out (word_name Next f.depth) ≡ previous past (word_name Next f.depth) (I (pos 0))
  frame_pending ss past out = ap (λ t. if t then previous past (word_name Next f.depth) (I (pos 0)) else lasts (value_of types) (on_base f.at (word_name JumpWord f.depth) Int None ∷ locals_from tys f 0 ss) past out (word_name Next f.depth)) (bytes_same (word_name Next f.depth))

pub behind_joined : (enums : Enumerations) (to : List ℕ → List ℕ) (tys : Types) (f : Frame) (xs : List (List ℕ)) (i : Instant) → behind (map (joined enums to tys f) xs) i ≡ behind xs i
behind_joined enums to tys f [] i = refl
behind_joined enums to tys f (x ∷ xs) i = behind_joined enums to tys f xs (part Tail i)
