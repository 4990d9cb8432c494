-- What equations define, and what those define that stand for them.
use Rattle.std.proofs.Common.{◌≡◌, ℕ, ◌+◌, ◌<◌, ◌≤◌, length, Bool, true, false, not, ◌&&◌, ◌||◌, if◌then◌else◌, List, [], ◌∷◌, ◌++◌, map, inl, inr, refl, sym, ap, ap₂, subst, ◌∙◌, arith}
use Rattle.std.specs.Prelude.{◌⊎◌}
use Rattle.std.specs.Str.{bytes_eq}
use Rattle.hp_base.specs.declared.span.Span.{Span}
use Rattle.hp_tree.specs.declared.block.Trans.{Trans}
use Rattle.hp_tree.specs.Expressions.{Expr}
use Rattle.hp_tree.specs.Blocks.{Decl, Block, block, Eqns, no_eqn, more_eqns, Eqn, define, switch, reset, automaton, Arms, no_arm, more_arms, States, no_state, more_states, eqns_of}
use Rattle.hp_tree.specs.Meaning.{is_among, declares, defines, some_defines, block_defines, arms_define, states_define}
use Rattle.hp_automata.specs.declared.new_names.Word.{Word}
use Rattle.hp_automata.specs.declared.new_names.Word.TheVariants.{Jump, Next, From, On, Strong, Weak}
use Rattle.hp_automata.specs.NewNames.{word_name, state_word, transition_word, value_name}
use Rattle.hp_tables.specs.Defining.Names.{names_of_arms, names_of_states, outer_names}
use Rattle.hp_automata.specs.Names.{is_name, missing, once}
use Rattle.hp_automata.specs.Renaming.{renamed_left, renamed_decls}
use Rattle.hp_automata.specs.Lowering.{Types, Enumerations, declaring, Frame, frame, inner, kept, all_kept, transition_locals, choices, value_local, state_locals, locals_from, frame_locals, idle, idle_value, joined, frame_eqns, state_switch, strong_eqns, choosing_eqns, state_eqns, weak_eqns, lowered_block, lowered_eqns, lowered_eqn, lowered_arms, lowered_states, lowered_body, count_of, stays, pending_of}
use Rattle.hp_automata.proofs.NameLaws.{is_name-once}
use Rattle.law_automata.specs.Lowered.OldNames.{IsOld}
use Rattle.law_automata.specs.Lowered.Removable.{Known, and_defined, AllOld, DeclsOk, BlockOk, EqnsOk, EqnOk, ArmsOk, StatesOk, most, deepest}
use Rattle.law_automata.proofs.LoweredLemmas.Spelling.{of_transition, spell}
use Rattle.law_automata.proofs.LoweredLemmas.Apart.{same_bytes, bytes_same, bytes_differ}
use Rattle.law_automata.proofs.LoweredLemmas.Tests.{or_left, or_right, or_cases, or_none, or_first, or_second, and_first, and_second, and_not, not_true, true_false, name_first, name_missing, names_in_arms, names_in_states, some_append, declares_append}
use Rattle.law_automata.proofs.LoweredLemmas.Renaming.{Renames, declares_renamed, local_kept, inner_renames, within_renames}

-- ---- names that are defined are names of the program

among_old : (ys : List (List ℕ × Span)) → AllOld ys → (x : List ℕ) → is_among ys x ≡ true → IsOld x
among_old [] h x e = absurd cc
among_old (y ∷ ys) h x e = by (or_cases (bytes_eq y.0 x) (is_among ys x) e) (among_old ys h.1 x)
  where
    by : (bytes_eq y.0 x ≡ true) ⊎ (is_among ys x ≡ true) → (is_among ys x ≡ true → IsOld x) → IsOld x
    by (inl s) r = subst IsOld (same_bytes y.0 x s) h.0
    by (inr s) r = r s

or_old : (a b : Bool) (x : List ℕ) → (a || b) ≡ true → (a ≡ true → IsOld x) → (b ≡ true → IsOld x) → IsOld x
or_old true b x h p q = p refl
or_old false b x h p q = q h

mutual
  pub block_old : (outer : Known) (d : ℕ) (b : Block) → BlockOk outer d b → (x : List ℕ) → block_defines b x ≡ true → IsOld x
  block_old outer d (block ds es) h x e = eqns_old outer d es h.1 x (and_first (some_defines es x) (not (declares ds x)) e)

  pub eqns_old : (outer : Known) (d : ℕ) (es : Eqns) → EqnsOk outer d es → (x : List ℕ) → some_defines es x ≡ true → IsOld x
  eqns_old outer d no_eqn h x e = absurd cc
  eqns_old outer d (more_eqns e es) h x q = or_old (defines e x) (some_defines es x) x q (eqn_old outer d e h.1 x) (eqns_old outer d es h.2 x)

  pub eqn_old : (outer : Known) (d : ℕ) (e : Eqn) → EqnOk outer d e → (x : List ℕ) → defines e x ≡ true → IsOld x
  eqn_old outer d (define s ys e) h x q = among_old ys h.0 x q
  eqn_old outer d (switch s e arms) h x q = arms_old (and_defined (switch s e arms) outer) d arms h.1 x q
  eqn_old outer d (reset s b e) h x q = block_old (and_defined (reset s b e) outer) d b h.1 x q
  eqn_old outer d (automaton s ss) h x q = states_old ss (and_defined (automaton s ss) outer) (d + 1) ss h.3 x q

  pub arms_old : (outer : Known) (d : ℕ) (arms : Arms) → ArmsOk outer d arms → (x : List ℕ) → arms_define arms x ≡ true → IsOld x
  arms_old outer d no_arm h x e = absurd cc
  arms_old outer d (more_arms c b s arms) h x e = or_old (block_defines b x) (arms_define arms x) x e (block_old outer d b h.0 x) (arms_old outer d arms h.1 x)

  pub states_old : (all : States) (outer : Known) (d : ℕ) (ss : States) → StatesOk all outer d ss → (x : List ℕ) → states_define ss x ≡ true → IsOld x
  states_old all outer d no_state h x e = absurd cc
  states_old all outer d (more_states f b until unless s ss) h x e =
      or_old (block_defines b x) (states_define ss x) x e (block_old outer d b h.0.0 x) (states_old all outer d ss h.1 x)

-- ---- names that stand for names

-- y stands for a name of which this is so
pub record Stood (to : List ℕ → List ℕ) (names : Known) (y : List ℕ) : Type 0 where
  pub name : List ℕ
  pub old : IsOld name
  pub own : names name ≡ true
  pub is : y ≡ to name

wider : (to : List ℕ → List ℕ) (own all : Known) (y : List ℕ) → ((x : List ℕ) → own x ≡ true → all x ≡ true) → Stood to own y → Stood to all y
wider to own all y h s = record { name = s.name; old = s.old; own = h s.name s.own; is = s.is }

-- names of a list, one by one
pub mapped : (g : List ℕ → List ℕ) (xs : List (List ℕ)) (y : List ℕ) → is_name (map g xs) y ≡ true → (x : List ℕ) × (is_name xs x ≡ true) × (y ≡ g x)
mapped g [] y h = absurd cc
mapped g (x ∷ xs) y h = by (or_cases (bytes_eq (g x) y) (is_name (map g xs) y) (sym (name_first (g x) (map g xs) y) ∙ h)) (mapped g xs y)
  where
    by : (bytes_eq (g x) y ≡ true) ⊎ (is_name (map g xs) y ≡ true) → (is_name (map g xs) y ≡ true → (z : List ℕ) × (is_name xs z ≡ true) × (y ≡ g z)) → (z : List ℕ) × (is_name (x ∷ xs) z ≡ true) × (y ≡ g z)
    by (inl s) r = (x, name_first x xs x ∙ or_left (bytes_eq x x) (is_name xs x) (bytes_same x), sym (same_bytes (g x) y s))
    by (inr s) r = let z = r s in (z.0, name_first x xs z.0 ∙ or_right (bytes_eq x z.0) (is_name xs z.0) z.1, z.2)

pub map_name : (g : List ℕ → List ℕ) (xs : List (List ℕ)) (x : List ℕ) → is_name xs x ≡ true → is_name (map g xs) (g x) ≡ true
map_name g [] x h = absurd cc
map_name g (y ∷ xs) x h = name_first (g y) (map g xs) (g x) ∙ by (or_cases (bytes_eq y x) (is_name xs x) (sym (name_first y xs x) ∙ h)) (map_name g xs x)
  where
    by : (bytes_eq y x ≡ true) ⊎ (is_name xs x ≡ true) → (is_name xs x ≡ true → is_name (map g xs) (g x) ≡ true) → (bytes_eq (g y) (g x) || is_name (map g xs) (g x)) ≡ true
    by (inl s) r = or_left (bytes_eq (g y) (g x)) (is_name (map g xs) (g x)) (subst (λ z. bytes_eq (g y) (g z) ≡ true) (same_bytes y x s) (bytes_same (g y)))
    by (inr s) r = or_right (bytes_eq (g y) (g x)) (is_name (map g xs) (g x)) (r s)

-- equations of one name each
alone_defined : (f : List ℕ → Eqn) (g : List ℕ → List ℕ) → ((x y : List ℕ) → defines (f x) y ≡ (bytes_eq (g x) y || false)) → (xs : List (List ℕ)) (y : List ℕ) → some_defines (eqns_of (map f xs)) y ≡ is_name (map g xs) y
alone_defined f g h [] y = refl
alone_defined f g h (x ∷ xs) y = ap₂ (λ a b. a || b) (h x y ∙ no_more (bytes_eq (g x) y)) (alone_defined f g h xs y) ∙ sym (name_first (g x) (map g xs) y)
  where
    no_more : (b : Bool) → (b || false) ≡ b
    no_more true = refl
    no_more false = refl

pub kept_defined : (to : List ℕ → List ℕ) (s : Span) (xs : List (List ℕ)) (y : List ℕ) → some_defines (eqns_of (map (kept to s) xs)) y ≡ is_name (map to xs) y
kept_defined to s xs y = alone_defined (kept to s) to (λ x z. refl) xs y

pub joined_defined : (enums : Enumerations) (to : List ℕ → List ℕ) (types : Types) (f : Frame) (xs : List (List ℕ)) (y : List ℕ) → some_defines (eqns_of (map (joined enums to types f) xs)) y ≡ is_name (map to xs) y
joined_defined enums to types f xs y = alone_defined (joined enums to types f) to (λ x z. refl) xs y

-- what a state hands on: its next word, and its value of each name
abbrev pub hands : Frame → ℕ → Known
hands f k y = bytes_eq (state_word Next f.depth k) y || is_name (map (value_name f.depth k) f.names) y

pub idle_hands : (enums : Enumerations) (types : Types) (f : Frame) (k : ℕ) (y : List ℕ) → block_defines (idle enums types f k) y ≡ hands f k y
idle_hands enums types f k y = ap (λ t. ((bytes_eq (state_word Next f.depth k) y || false) || t) && true) (alone_defined (idle_value enums types f k) (value_name f.depth k) (λ x z. refl) f.names y) ∙ by (bytes_eq (state_word Next f.depth k) y) (is_name (map (value_name f.depth k) f.names) y)
  where
    by : (a b : Bool) → (((a || false) || b) && true) ≡ (a || b)
    by true b = refl
    by false true = refl
    by false false = refl

pub values_declared : (types : Types) (f : Frame) (k : ℕ) (xs : List (List ℕ)) (y : List ℕ) → declares (map (value_local types f k) xs) y ≡ is_name (map (value_name f.depth k) xs) y
values_declared types f k [] y = refl
values_declared types f k (x ∷ xs) y = ap (λ t. bytes_eq (value_name f.depth k x) y || t) (values_declared types f k xs y) ∙ sym (name_first (value_name f.depth k x) (map (value_name f.depth k) xs) y)

pub choices_declared : (to : List ℕ → List ℕ) (f : Frame) (w : Word) (k n : ℕ) (end : Expr) (j : ℕ) (ts : List Trans) (y : List ℕ) → some_defines (eqns_of (choices to f w k n end j ts)) y ≡ declares (transition_locals f w k j ts) y
choices_declared to f w k n end j [] y = refl
choices_declared to f w k n end j (t ∷ ts) y = ap₂ (λ a b. a || b) (no_more (bytes_eq (transition_word w f.depth k j) y)) (choices_declared to f w k n end (j + 1) ts y)
  where
    no_more : (b : Bool) → (b || false) ≡ b
    no_more true = refl
    no_more false = refl

-- a name that is none of the words of some transitions
pub transitions_apart : (f : Frame) (w : Word) (k j : ℕ) (ts : List Trans) (y : List ℕ) → j + length ts ≤ most → ((i : ℕ) → i < most → spell f.depth (of_transition w k i) ≡ y → ⊥) → declares (transition_locals f w k j ts) y ≡ false
transitions_apart f w k j [] y room h = refl
transitions_apart f w k j (t ∷ ts) y room h =
    or_none (bytes_eq (transition_word w f.depth k j) y) (declares (transition_locals f w k (j + 1) ts) y)
    (bytes_differ (transition_word w f.depth k j) y (h j (omega arith))) (transitions_apart f w k (j + 1) ts y (omega arith) h)

-- ---- what stands for an equation defines nothing else

pub no_more_or : (b : Bool) → (b || false) ≡ true → b ≡ true
no_more_or true h = refl
no_more_or false h = h

left_sound : (to : List ℕ → List ℕ) (ys : List (List ℕ × Span)) → AllOld ys → (y : List ℕ) → is_among (renamed_left to ys) y ≡ true → Stood to (is_among ys) y
left_sound to [] h y e = absurd cc
left_sound to (z ∷ ys) h y e = by (or_cases (bytes_eq (to z.0) y) (is_among (renamed_left to ys) y) e) (left_sound to ys h.1 y)
  where
    by : (bytes_eq (to z.0) y ≡ true) ⊎ (is_among (renamed_left to ys) y ≡ true) → (is_among (renamed_left to ys) y ≡ true → Stood to (is_among ys) y) → Stood to (is_among (z ∷ ys)) y
    by (inl s) r = record { name = z.0; old = h.0; own = or_left (bytes_eq z.0 z.0) (is_among ys z.0) (bytes_same z.0); is = sym (same_bytes (to z.0) y s) }
    by (inr s) r = wider to (is_among ys) (is_among (z ∷ ys)) y (λ x q. or_right (bytes_eq z.0 x) (is_among ys x) q) (r s)

-- the names that a block defines for those around it, and those that it is to define besides
abbrev pub with_names : List (List ℕ) → Block → Known
with_names xs b x = block_defines b x || is_name xs x

-- among the states of an automaton, with what its frame says
pub record InFrame (f : Frame) : Type 0 where
  pub deep : f.depth < deepest
  pub few : f.count < most

module _ (enums : Enumerations) where
  module _ {outer : Known} {d : ℕ} {to : List ℕ → List ℕ} (r : Renames outer d to) (s : Span) (xs : List (List ℕ)) (ds : List Decl) (es : Eqns) (ok : DeclsOk outer es ds) (xs_old : (x : List ℕ) → is_name xs x ≡ true → IsOld x) where
    -- the equations of a block, of which those that stand for its own are known, and those for the names that it leaves out
    own_sound : (y : List ℕ) → declares ds y ≡ false → Stood to (some_defines es) y → Stood to (block_defines (block ds es)) y
    own_sound y n q = by (declares ds q.name) refl
      where
        by : (t : Bool) → declares ds q.name ≡ t → Stood to (block_defines (block ds es)) y
        by true e = absurd (true_false (declares ds y) (subst (λ z. declares ds z ≡ true) (sym (local_kept r es ds ok q.name e) ∙ sym q.is) e) n)
        by false e = record { name = q.name; old = q.old; own = and_not (some_defines es q.name) (declares ds q.name) q.own e; is = q.is }

    kept_sound : (y : List ℕ) → some_defines (eqns_of (all_kept to s xs (block ds es))) y ≡ true → Stood to (is_name xs) y
    kept_sound y h =
        let b : Block = block ds es in
        let m = mapped to (missing (is_name (outer_names b)) xs) y (sym (kept_defined to s (missing (is_name (outer_names b)) xs) y) ∙ h) in
        let own : is_name xs m.0 ≡ true = and_first (is_name xs m.0) (not (is_name (outer_names b) m.0)) (sym (name_missing (is_name (outer_names b)) xs m.0) ∙ m.1) in
        record { name = m.0; old = xs_old m.0 own; own = own; is = m.2 }

    -- so in front of them, with any others
    pub equations_sound : (lowered : List Eqn) (y : List ℕ) → declares ds y ≡ false → (some_defines (eqns_of lowered) y ≡ true → Stood to (some_defines es) y)
        → some_defines (eqns_of (lowered ++ all_kept to s xs (block ds es))) y ≡ true → Stood to (with_names xs (block ds es)) y
    equations_sound lowered y n known h =
        by (or_cases (some_defines (eqns_of lowered) y) (some_defines (eqns_of (all_kept to s xs (block ds es))) y) (sym (some_append lowered (all_kept to s xs (block ds es)) y) ∙ h))
      where
        by : (some_defines (eqns_of lowered) y ≡ true) ⊎ (some_defines (eqns_of (all_kept to s xs (block ds es))) y ≡ true) → Stood to (with_names xs (block ds es)) y
        by (inl q) =
            wider to (block_defines (block ds es)) (with_names xs (block ds es)) y (λ x p. or_left (block_defines (block ds es) x) (is_name xs x) p) (own_sound y n (known q))
        by (inr q) = wider to (is_name xs) (with_names xs (block ds es)) y (λ x p. or_right (block_defines (block ds es) x) (is_name xs x) p) (kept_sound y q)

  -- one state, whose body is known
  pub switch_sound : (types : Types) (f : Frame) (k : ℕ) (body : Block) → ((y : List ℕ) → block_defines body y ≡ true → hands f k y ≡ true)
      → (y : List ℕ) → defines (state_switch f k body (idle enums types f k)) y ≡ true → hands f k y ≡ true
  switch_sound types f k body known y h = by (or_cases ((block_defines body y || false) && true) (block_defines (idle enums types f k) y || false) h)
    where
      by : (((block_defines body y || false) && true) ≡ true) ⊎ ((block_defines (idle enums types f k) y || false) ≡ true) → hands f k y ≡ true
      by (inl q) = known y (no_more_or (block_defines body y) (and_first (block_defines body y || false) true q))
      by (inr q) = sym (idle_hands enums types f k y) ∙ no_more_or (block_defines (idle enums types f k) y) q

  handed_declared : (types : Types) (f : Frame) (k : ℕ) (unless : List Trans) (y : List ℕ) → hands f k y ≡ true → declares (state_locals types f k unless) y ≡ true
  handed_declared types f k unless y h =
      by (or_cases (bytes_eq (state_word Next f.depth k) y) (is_name (map (value_name f.depth k) f.names) y) h)
    where
      rest : Bool
      rest = declares (transition_locals f Strong k 0 unless ++ map (value_local types f k) f.names) y

      by : (bytes_eq (state_word Next f.depth k) y ≡ true) ⊎ (is_name (map (value_name f.depth k) f.names) y ≡ true) → declares (state_locals types f k unless) y ≡ true
      by (inl q) =
          or_right (bytes_eq (state_word From f.depth k) y) _ (or_right (bytes_eq (state_word On f.depth k) y) _ (or_left (bytes_eq (state_word Next f.depth k) y) _ q))
      by (inr q) =
          or_right (bytes_eq (state_word From f.depth k) y) _ (or_right (bytes_eq (state_word On f.depth k) y) _ (or_right (bytes_eq (state_word Next f.depth k) y) _
          (declares_append (transition_locals f Strong k 0 unless) (map (value_local types f k) f.names) y
          ∙ or_right (declares (transition_locals f Strong k 0 unless) y) _ (values_declared types f k f.names y ∙ q))))

  strong_sound : (to : List ℕ → List ℕ) (types : Types) (f : Frame) (k : ℕ) (unless : List Trans) (y : List ℕ) → some_defines (eqns_of (choosing_eqns to f k unless)) y ≡ true → declares (state_locals types f k unless) y ≡ true
  strong_sound to types f k unless y h = on_or (or_cases (some_defines (eqns_of (strong_eqns to f k unless)) y) _ (sym (some_append (strong_eqns to f k unless) _ y) ∙ h))
    where
      from_or : (some_defines (eqns_of (choices to f Strong k (length unless) (pending_of f) 0 unless)) y ≡ true) ⊎ (((bytes_eq (state_word From f.depth k) y || false) || false) ≡ true) → declares (state_locals types f k unless) y ≡ true
      from_or (inl q) =
          or_right (bytes_eq (state_word From f.depth k) y) _ (or_right (bytes_eq (state_word On f.depth k) y) _ (or_right (bytes_eq (state_word Next f.depth k) y) _
          (declares_append (transition_locals f Strong k 0 unless) (map (value_local types f k) f.names) y
          ∙ or_left (declares (transition_locals f Strong k 0 unless) y) _ (sym (choices_declared to f Strong k (length unless) (pending_of f) 0 unless y) ∙ q))))
      from_or (inr q) = or_left (bytes_eq (state_word From f.depth k) y) _ (no_more_or _ (no_more_or _ q))

      on_or : (some_defines (eqns_of (strong_eqns to f k unless)) y ≡ true) ⊎ (((bytes_eq (state_word On f.depth k) y || false) || false) ≡ true) → declares (state_locals types f k unless) y ≡ true
      on_or (inl q) = from_or (or_cases (some_defines (eqns_of (choices to f Strong k (length unless) (pending_of f) 0 unless)) y) _ (sym (some_append (choices to f Strong k (length unless) (pending_of f) 0 unless) _ y) ∙ q))
      on_or (inr q) = or_right (bytes_eq (state_word From f.depth k) y) _ (or_left (bytes_eq (state_word On f.depth k) y) _ (no_more_or _ (no_more_or _ q)))

  state_sound : (to : List ℕ → List ℕ) (types : Types) (f : Frame) (k : ℕ) (unless : List Trans) (body : Block) → ((y : List ℕ) → block_defines body y ≡ true → hands f k y ≡ true)
      → (y : List ℕ) → some_defines (eqns_of (state_eqns to f k unless body (idle enums types f k))) y ≡ true → declares (state_locals types f k unless) y ≡ true
  state_sound to types f k unless body known y h = by (or_cases (some_defines (eqns_of (choosing_eqns to f k unless)) y) _ (sym (some_append (choosing_eqns to f k unless) _ y) ∙ h))
    where
      by : (some_defines (eqns_of (choosing_eqns to f k unless)) y ≡ true) ⊎ ((defines (state_switch f k body (idle enums types f k)) y || false) ≡ true) → declares (state_locals types f k unless) y ≡ true
      by (inl q) = strong_sound to types f k unless y q
      by (inr q) = handed_declared types f k unless y (switch_sound types f k body known y (no_more_or _ q))

  -- the body of a state, whose own equations are known
  body_by : {outer : Known} {d : ℕ} (f : Frame) (k : ℕ) (until : List Trans) (to : List ℕ → List ℕ) (ds : List Decl) (es : Eqns) (r : Renames outer d (inner to f k)) → DeclsOk outer es ds
      → ((x : List ℕ) → is_name f.names x ≡ true → IsOld x) → ((x : List ℕ) → block_defines (block ds es) x ≡ true → is_name f.names x ≡ true)
      → (lowered : List Eqn) → ((y : List ℕ) → some_defines (eqns_of lowered) y ≡ true → Stood (inner to f k) (some_defines es) y)
      → (y : List ℕ) → block_defines (block (renamed_decls (inner to f k) ds ++ transition_locals f Weak k 0 until) (eqns_of (weak_eqns (inner to f k) f k until ++ (lowered ++ all_kept (inner to f k) f.at f.names (block ds es))))) y ≡ true → hands f k y ≡ true
  body_by f k until to ds es r ok old sub lowered known y h =
      weak_or (or_cases (some_defines (eqns_of (weak_eqns into f k until)) y) _ (sym (some_append (weak_eqns into f k until) _ y) ∙ and_first _ (not (declares (renamed_decls into ds ++ transition_locals f Weak k 0 until) y)) h))
    where
      into : List ℕ → List ℕ
      into = inner to f k

      none : (declares (renamed_decls (inner to f k) ds) y || declares (transition_locals f Weak k 0 until) y) ≡ false
      none = sym (declares_append (renamed_decls (inner to f k) ds) (transition_locals f Weak k 0 until) y) ∙ not_true _ (and_second (some_defines (eqns_of (weak_eqns (inner to f k) f k until ++ (lowered ++ all_kept (inner to f k) f.at f.names (block ds es)))) y) _ h)

      value_by : (x : List ℕ) → y ≡ inner to f k x → is_name f.names x ≡ true → hands f k y ≡ true
      value_by x e q =
          or_right (bytes_eq (state_word Next f.depth k) y) _
          (subst (λ z. is_name (map (value_name f.depth k) f.names) z ≡ true) (sym (e ∙ ap (λ t. if t then value_name f.depth k x else to x) q)) (map_name (value_name f.depth k) f.names x q))

      own_by : (x : List ℕ) → (block_defines (block ds es) x ≡ true) ⊎ (is_name f.names x ≡ true) → is_name f.names x ≡ true
      own_by x (inl q) = sub x q
      own_by x (inr q) = q

      choice_or : (some_defines (eqns_of (choices (inner to f k) f Weak k (length until) (stays f k) 0 until)) y ≡ true) ⊎ (((bytes_eq (state_word Next f.depth k) y || false) || false) ≡ true) → hands f k y ≡ true
      choice_or (inl q) =
          absurd (true_false (declares (transition_locals f Weak k 0 until) y) (sym (choices_declared (inner to f k) f Weak k (length until) (stays f k) 0 until y) ∙ q)
          (or_second (declares (renamed_decls (inner to f k) ds) y) _ none))
      choice_or (inr q) = or_left (bytes_eq (state_word Next f.depth k) y) _ (no_more_or _ (no_more_or _ q))

      weak_or : (some_defines (eqns_of (weak_eqns (inner to f k) f k until)) y ≡ true) ⊎ (some_defines (eqns_of (lowered ++ all_kept (inner to f k) f.at f.names (block ds es))) y ≡ true) → hands f k y ≡ true
      weak_or (inl q) =
          choice_or (or_cases (some_defines (eqns_of (choices (inner to f k) f Weak k (length until) (stays f k) 0 until)) y) _
          (sym (some_append (choices (inner to f k) f Weak k (length until) (stays f k) 0 until) _ y) ∙ q))
      weak_or (inr q) =
          let stood = equations_sound r f.at f.names ds es ok old lowered y (sym (declares_renamed (inner to f k) ds y) ∙ or_first (declares (renamed_decls (inner to f k) ds) y) _ none) (known y) q in
          value_by stood.name stood.is (own_by stood.name (or_cases (block_defines (block ds es) stood.name) (is_name f.names stood.name) stood.own))

  -- the equations of an automaton, whose states are known
  frame_sound : (to : List ℕ → List ℕ) (types : Types) (f : Frame) (ss all : States) → ((x : List ℕ) → is_name f.names x ≡ states_define all x) → ((x : List ℕ) → states_define all x ≡ true → IsOld x)
      → ((y : List ℕ) → some_defines (eqns_of (lowered_states enums to types f 0 ss)) y ≡ true → declares (locals_from types f 0 ss) y ≡ true)
      → (y : List ℕ) → block_defines (block (frame_locals types f ss) (eqns_of (frame_eqns enums to types f ++ lowered_states enums to types f 0 ss))) y ≡ true → Stood to (states_define all) y
  frame_sound to types f ss all names old known y h =
      first_or (or_cases (some_defines (eqns_of (frame_eqns enums to types f)) y) _ (sym (some_append (frame_eqns enums to types f) (lowered_states enums to types f 0 ss) y) ∙ and_first _ (not (declares (frame_locals types f ss) y)) h))
    where
      none : declares (frame_locals types f ss) y ≡ false
      none = not_true _ (and_second (some_defines (eqns_of (frame_eqns enums to types f ++ lowered_states enums to types f 0 ss)) y) _ h)

      next_not : bytes_eq (word_name Next f.depth) y ≡ false
      next_not = or_first (bytes_eq (word_name Next f.depth) y) _ none

      rest_not : (bytes_eq (word_name Jump f.depth) y || declares (locals_from types f 0 ss) y) ≡ false
      rest_not = or_second (bytes_eq (word_name Next f.depth) y) _ none

      joined_or : is_name (map to f.names) y ≡ true → Stood to (states_define all) y
      joined_or q =
          let m = mapped to f.names y q in
          let own : states_define all m.0 ≡ true = sym (names m.0) ∙ m.1 in
          record { name = m.0; old = old m.0 own; own = own; is = m.2 }

      second_or : (bytes_eq (word_name Jump f.depth) y ≡ true) ⊎ ((bytes_eq (word_name Next f.depth) y ≡ true) ⊎ (some_defines (eqns_of (map (joined enums to types f) f.names)) y ≡ true)) → Stood to (states_define all) y
      second_or (inl q) = absurd (true_false _ q (or_first (bytes_eq (word_name Jump f.depth) y) _ rest_not))
      second_or (inr (inl q)) = absurd (true_false _ q next_not)
      second_or (inr (inr q)) = joined_or (sym (joined_defined enums to types f f.names y) ∙ q)

      split : (a b c : Bool) → ((a || false) || ((b || false) || c)) ≡ true → (a ≡ true) ⊎ ((b ≡ true) ⊎ (c ≡ true))
      split true b c e = inl refl
      split false true c e = inr (inl refl)
      split false false c e = inr (inr e)

      first_or : (some_defines (eqns_of (frame_eqns enums to types f)) y ≡ true) ⊎ (some_defines (eqns_of (lowered_states enums to types f 0 ss)) y ≡ true) → Stood to (states_define all) y
      first_or (inl q) = second_or (split (bytes_eq (word_name Jump f.depth) y) (bytes_eq (word_name Next f.depth) y) (some_defines (eqns_of (map (joined enums to types f) f.names)) y) q)
      first_or (inr q) = absurd (true_false _ (known y q) (or_second (bytes_eq (word_name Jump f.depth) y) _ rest_not))

  frame_names : (s : Span) (d : ℕ) (ss : States) (x : List ℕ) → is_name (frame s d ss).names x ≡ states_define ss x
  frame_names s d ss x = ap (λ p. p x) (is_name-once (names_of_states ss)) ∙ names_in_states ss x

  pub names_of_frame : (s : Span) (d : ℕ) (ss : States) (x : List ℕ) → is_name (frame s d ss).names x ≡ states_define ss x
  names_of_frame s d ss x = frame_names s d ss x

  pub names_of_switch : (arms : Arms) (x : List ℕ) → is_name (once (names_of_arms arms)) x ≡ arms_define arms x
  names_of_switch arms x = ap (λ p. p x) (is_name-once (names_of_arms arms)) ∙ names_in_arms arms x

  mutual
    pub block_sound : {outer : Known} {d : ℕ} {to : List ℕ → List ℕ} → Renames outer d to → (types : Types) (s : Span) (xs : List (List ℕ)) (b : Block) → BlockOk outer d b → ((x : List ℕ) → is_name xs x ≡ true → IsOld x)
        → (y : List ℕ) → block_defines (lowered_block enums to types d s xs b) y ≡ true → Stood to (with_names xs b) y
    block_sound {outer} {d} {to} r types s xs (block ds es) ok old y h =
        equations_sound r s xs ds es ok.0 old (lowered_eqns enums to (declaring types ds) d es) y
        (sym (declares_renamed to ds y) ∙ not_true _ (and_second (some_defines (eqns_of (lowered_eqns enums to (declaring types ds) d es ++ all_kept to s xs (block ds es))) y) _ h))
        (eqns_sound r (declaring types ds) es ok.1 y) (and_first _ (not (declares (renamed_decls to ds) y)) h)

    pub eqns_sound : {outer : Known} {d : ℕ} {to : List ℕ → List ℕ} → Renames outer d to → (types : Types) (es : Eqns) → EqnsOk outer d es
        → (y : List ℕ) → some_defines (eqns_of (lowered_eqns enums to types d es)) y ≡ true → Stood to (some_defines es) y
    eqns_sound r types no_eqn ok y h = absurd cc
    eqns_sound {outer} {d} {to} r types (more_eqns e es) ok y h =
        by (or_cases (defines (lowered_eqn enums to types d e) y) _ h) (eqn_sound r types e ok.1 y) (eqns_sound r types es ok.2 y)
      where
        by : (defines (lowered_eqn enums to types d e) y ≡ true) ⊎ (some_defines (eqns_of (lowered_eqns enums to types d es)) y ≡ true)
            → (defines (lowered_eqn enums to types d e) y ≡ true → Stood to (defines e) y) → (some_defines (eqns_of (lowered_eqns enums to types d es)) y ≡ true → Stood to (some_defines es) y) → Stood to (some_defines (more_eqns e es)) y
        by (inl q) p l = wider to (defines e) (some_defines (more_eqns e es)) y (λ x g. or_left (defines e x) (some_defines es x) g) (p q)
        by (inr q) p l = wider to (some_defines es) (some_defines (more_eqns e es)) y (λ x g. or_right (defines e x) (some_defines es x) g) (l q)

    pub eqn_sound : {outer : Known} {d : ℕ} {to : List ℕ → List ℕ} → Renames outer d to → (types : Types) (e : Eqn) → EqnOk outer d e
        → (y : List ℕ) → defines (lowered_eqn enums to types d e) y ≡ true → Stood to (defines e) y
    eqn_sound {outer} {d} {to} r types (define s ys e) ok y h = left_sound to ys ok.0 y h
    eqn_sound {outer} {d} {to} r types (switch s e arms) ok y h =
        arms_sound (within_renames (switch s e arms) r) types (once (names_of_arms arms)) (arms_define arms)
        (λ x q. sym (names_of_switch arms x) ∙ q) (λ x q. arms_old (and_defined (switch s e arms) outer) d arms ok.1 x q) arms ok.1 (λ x q. q) y h
    eqn_sound {outer} {d} {to} r types (reset s b e) ok y h =
        let stood = block_sound (within_renames (reset s b e) r) types s [] b ok.1 (λ x q. absurd cc) y h in
        record { name = stood.name; old = stood.old; own = no_more_or (block_defines b stood.name) stood.own; is = stood.is }
    eqn_sound {outer} {d} {to} r types (automaton s ss) ok y h =
        let f : Frame = frame s d ss in
        let names = names_of_frame s d ss in
        let old : (x : List ℕ) → states_define ss x ≡ true → IsOld x = λ x q. states_old ss (and_defined (automaton s ss) outer) (d + 1) ss ok.3 x q in
        frame_sound to types f ss ss names old
        (λ z q. states_sound types f r ss (automaton s ss) (λ x. names x) (λ x p. old x (sym (names x) ∙ p)) ok.0 ok.2 0 ss ok.3 (λ x p. names x ∙ p) (omega arith) z q) y h

    pub arms_sound : {outer : Known} {d : ℕ} {to : List ℕ → List ℕ} → Renames outer d to → (types : Types) (xs : List (List ℕ)) (all : Known) → ((x : List ℕ) → is_name xs x ≡ true → all x ≡ true) → ((x : List ℕ) → all x ≡ true → IsOld x)
        → (arms : Arms) → ArmsOk outer d arms → ((x : List ℕ) → arms_define arms x ≡ true → all x ≡ true) → (y : List ℕ) → arms_define (lowered_arms enums to types d xs arms) y ≡ true → Stood to all y
    arms_sound r types xs all mine old no_arm ok sub y h = absurd cc
    arms_sound {outer} {d} {to} r types xs all mine old (more_arms c b s arms) ok sub y h =
        by (or_cases (block_defines (lowered_block enums to types d s xs b) y) _ h) (block_sound r types s xs b ok.0 (λ x q. old x (mine x q)) y)
        (arms_sound r types xs all mine old arms ok.1 (λ x q. sub x (or_right (block_defines b x) (arms_define arms x) q)) y)
      where
        both : (x : List ℕ) → (block_defines b x ≡ true) ⊎ (is_name xs x ≡ true) → all x ≡ true
        both x (inl q) = sub x (or_left (block_defines b x) (arms_define arms x) q)
        both x (inr q) = mine x q

        by : (block_defines (lowered_block enums to types d s xs b) y ≡ true) ⊎ (arms_define (lowered_arms enums to types d xs arms) y ≡ true)
            → (block_defines (lowered_block enums to types d s xs b) y ≡ true → Stood to (with_names xs b) y) → (arms_define (lowered_arms enums to types d xs arms) y ≡ true → Stood to all y) → Stood to all y
        by (inl q) p l = wider to (with_names xs b) all y (λ x g. both x (or_cases (block_defines b x) (is_name xs x) g)) (p q)
        by (inr q) p l = l q

    pub states_sound : {outer : Known} {to : List ℕ → List ℕ} (types : Types) (f : Frame) → Renames outer f.depth to → (all : States) (e : Eqn) → ((x : List ℕ) → is_name f.names x ≡ defines e x) → ((x : List ℕ) → is_name f.names x ≡ true → IsOld x)
        → f.depth < deepest → count_of all < most → (k : ℕ) (ss : States) → StatesOk all (and_defined e outer) (f.depth + 1) ss → ((x : List ℕ) → states_define ss x ≡ true → is_name f.names x ≡ true) → k + count_of ss ≤ count_of all
        → (y : List ℕ) → some_defines (eqns_of (lowered_states enums to types f k ss)) y ≡ true → declares (locals_from types f k ss) y ≡ true
    states_sound types f r all e names old deep few k no_state ok sub room y h = absurd cc
    states_sound {outer} {to} types f r all e names old deep few k (more_states q b until unless at ss) ok sub room y h =
        by (or_cases (some_defines (eqns_of (state_eqns to f k unless (lowered_body enums to types f k b until) (idle enums types f k))) y) _
        (sym (some_append (state_eqns to f k unless (lowered_body enums to types f k b until) (idle enums types f k)) (lowered_states enums to types f (k + 1) ss) y) ∙ h))
        (λ z. body_sound types f r e names old deep k (omega arith) b until ok.0.0 (λ x p. sub x (or_left (block_defines b x) (states_define ss x) p)) z)
        (states_sound types f r all e names old deep few (k + 1) ss ok.1 (λ x p. sub x (or_right (block_defines b x) (states_define ss x) p)) (omega arith) y)
      where
        by : (some_defines (eqns_of (state_eqns to f k unless (lowered_body enums to types f k b until) (idle enums types f k))) y ≡ true) ⊎ (some_defines (eqns_of (lowered_states enums to types f (k + 1) ss)) y ≡ true)
            → ((z : List ℕ) → block_defines (lowered_body enums to types f k b until) z ≡ true → hands f k z ≡ true) → (some_defines (eqns_of (lowered_states enums to types f (k + 1) ss)) y ≡ true → declares (locals_from types f (k + 1) ss) y ≡ true)
            → declares (state_locals types f k unless ++ locals_from types f (k + 1) ss) y ≡ true
        by (inl p) known later =
            declares_append (state_locals types f k unless) (locals_from types f (k + 1) ss) y ∙ or_left _ _ (state_sound to types f k unless (lowered_body enums to types f k b until) known y p)
        by (inr p) known later =
            declares_append (state_locals types f k unless) (locals_from types f (k + 1) ss) y ∙ or_right (declares (state_locals types f k unless) y) _ (later p)

    pub body_sound : {outer : Known} {to : List ℕ → List ℕ} (types : Types) (f : Frame) → Renames outer f.depth to → (e : Eqn) → ((x : List ℕ) → is_name f.names x ≡ defines e x) → ((x : List ℕ) → is_name f.names x ≡ true → IsOld x)
        → f.depth < deepest → (k : ℕ) → k < most → (b : Block) (until : List Trans) → BlockOk (and_defined e outer) (f.depth + 1) b → ((x : List ℕ) → block_defines b x ≡ true → is_name f.names x ≡ true)
        → (y : List ℕ) → block_defines (lowered_body enums to types f k b until) y ≡ true → hands f k y ≡ true
    body_sound {outer} {to} types f r e names old deep k few (block ds es) until ok sub y h =
        let into = inner_renames f e r names deep k few in
        body_by f k until to ds es into ok.0 old sub (lowered_eqns enums (inner to f k) (declaring types ds) (f.depth + 1) es) (eqns_sound into (declaring types ds) es ok.1) y h
