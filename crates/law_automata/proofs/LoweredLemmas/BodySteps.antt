-- The body of an active state, given its equations: what stands for it has an instant.
use Rattle.std.proofs.Common.{◌≡◌, ℕ, ◌+◌, ◌<◌, length, Bool, true, false, List, [], ◌∷◌, ◌++◌, inl, inr, refl, sym, ap, subst, ◌∙◌, arith}
use Rattle.std.specs.Prelude.{◌⊎◌, ⊤, pos, if◌then◌else◌}
use Rattle.std.specs.Str.{bytes_eq}
use Rattle.hp_base.specs.declared.value.Value.{Value}
use Rattle.hp_base.specs.declared.value.Value.TheVariants.{Absent, B, I}
use Rattle.hp_tree.specs.declared.block.Trans.{Trans}
use Rattle.hp_tree.specs.Expressions.{Expr}
use Rattle.std.proofs.lemmas.List.{append_assoc}
use Rattle.hp_tree.specs.Blocks.{Decl, Block, block, Eqns, Eqn, States, eqns_of}
use Rattle.hp_tree.specs.Programs.{TypeDecl}
use Rattle.hp_tree.specs.Instant.{Named, Fresh, Equations, Head, Tail, Instant, Given, at, part, parts, in_row}
use Rattle.hp_tree.specs.Meaning.{Names, Nodes, Jump, conditions, equations, defined, scope, inside, from_block, lasts, declares, some_defines, block_defines, defines, number_of, clock_in, written}
use Rattle.hp_automata.specs.declared.new_names.Word.{Word}
use Rattle.hp_automata.specs.declared.new_names.Word.TheVariants.{Next, Weak}
use Rattle.hp_automata.specs.NewNames.{state_word, transition_word, value_name}
use Rattle.hp_tables.specs.Defining.Names.{outer_names}
use Rattle.hp_automata.specs.Names.{is_name, missing}
use Rattle.hp_automata.specs.Renaming.{renamed_decls}
use Rattle.hp_automata.specs.Lowering.{Types, Enumerations, declaring, Frame, inner, all_kept, transition_locals, choices, chosen, stays, own_next, weak_eqns, lowered_body}
use Rattle.law_automata.specs.Lowered.OldNames.{IsOld}
use Rattle.law_automata.specs.Lowered.Removable.{Known, and_defined, TransitionsOk, most, deepest}
use Rattle.law_automata.specs.Lowered.Standing.{Relation, Along, BodyStands, EqnsStand, RowStands, behind, code_of}
use Rattle.law_automata.specs.Lowered.Giving.{BodyGiven, EqnsGiven}
use Rattle.law_automata.specs.Lowered.Deciding.{Property, EqnsDecided}
use Rattle.law_automata.proofs.LoweredLemmas.Pasts.{along_map, along_right}
use Rattle.law_automata.proofs.LoweredLemmas.Callees.{Callees}
use Rattle.law_automata.proofs.LoweredLemmas.Spelling.{New, of_state, of_transition, value, spell, HasRoom}
use Rattle.law_automata.proofs.LoweredLemmas.Apart.{told, same_bytes, bytes_same, bytes_differ}
use Rattle.law_automata.proofs.LoweredLemmas.Tests.{or_left, or_right, or_cases, or_first, or_second, and_first, and_second, not_true, true_false, name_first, name_missing, names_outer, some_append}
use Rattle.law_automata.proofs.LoweredLemmas.Renaming.{Renames, to_apart, local, local_kept, new_not_local, declares_renamed}
use Rattle.law_automata.proofs.LoweredLemmas.Lookups.{choices_declared}
use Rattle.law_automata.proofs.LoweredLemmas.Defined.{outward}
use Rattle.law_automata.proofs.LoweredLemmas.Expressions.{reading}
use Rattle.law_automata.proofs.LoweredLemmas.Rows.{RowMet, EachMet, Anyhow, behind_given, along_behind, behind_free, plain_met, row_by, row_so, row_more, row_append}
use Rattle.law_automata.proofs.LoweredLemmas.BlockMaking.{value_of, block_made, NoLast, OnBase, ClocksSame, clock_kept, clock_old, base_clock}
use Rattle.law_automata.proofs.LoweredLemmas.Around.{Undone, Around, EqnsStep}
use Rattle.law_automata.proofs.LoweredLemmas.BlockSteps.{AroundBlock, made, made_complete, same_read, left_out, lasts_in, lasts_out, kept_each}
use Rattle.law_automata.proofs.LoweredLemmas.Jumps.{first_pure, AllDecided}
use Rattle.law_automata.proofs.LoweredLemmas.Chains.{KnowsChoices, with_choices, passes_choices, choices_known, chosen_value, choices_met, choices_stand, plain_link}

-- ---- which name it is, in a state

module _ {outer : Known} {to : List ℕ → List ℕ} (f : Frame) (r : Renames outer f.depth to) (un : Undone to) (deep : f.depth < deepest) (k : ℕ) (room : k < most) where
  find : List (List ℕ) → List ℕ → List ℕ
  find [] y = un.back y
  find (x ∷ xs) y = if bytes_eq (value_name f.depth k x) y then x else find xs y

  name_told : New → List ℕ
  name_told (value i x) = x
  name_told a = []

  finds : (xs : List (List ℕ)) → ((x : List ℕ) → is_name xs x ≡ true → IsOld x) → (x : List ℕ) → IsOld x → is_name xs x ≡ true → find xs (value_name f.depth k x) ≡ x
  unfolding find name_told
  finds [] o x ox h = absurd cc
  finds (z ∷ xs) o x ox h = by (bytes_eq (value_name f.depth k z) (value_name f.depth k x)) refl (finds xs (λ q p. o q (name_first z xs q ∙ or_right (bytes_eq z q) (is_name xs q) p)) x ox)
    where
      z_old : IsOld z
      z_old = o z (name_first z xs z ∙ or_left (bytes_eq z z) (is_name xs z) (bytes_same z))

      other : bytes_eq (value_name f.depth k z) (value_name f.depth k x) ≡ false → (bytes_eq z x ≡ true) ⊎ (is_name xs x ≡ true) → is_name xs x ≡ true
      other e (inl q) = absurd (true_false _ (subst (λ y. bytes_eq (value_name f.depth k z) (value_name f.depth k y) ≡ true) (same_bytes z x q) (bytes_same (value_name f.depth k z))) e)
      other e (inr q) = q

      by : (c : Bool) → bytes_eq (value_name f.depth k z) (value_name f.depth k x) ≡ c → (is_name xs x ≡ true → find xs (value_name f.depth k x) ≡ x) → (if c then z else find xs (value_name f.depth k x)) ≡ x
      by true e r' = ap name_told (told f.depth (value k z) (value k x) (room, z_old) (room, ox) (same_bytes _ _ e))
      by false e r' = r' (other e (or_cases (bytes_eq z x) (is_name xs x) (sym (name_first z xs x) ∙ h)))

  finds_out : (xs : List (List ℕ)) → ((x : List ℕ) → is_name xs x ≡ true → IsOld x) → (x : List ℕ) → IsOld x → find xs (to x) ≡ x
  unfolding find
  finds_out [] o x ox = un.back_to x ox
  finds_out (z ∷ xs) o x ox =
      ap (λ t. if t then z else find xs (to x))
      (bytes_differ (value_name f.depth k z) (to x) (λ e. to_apart r x (value k z) f.depth ox (room, o z (name_first z xs z ∙ or_left (bytes_eq z z) (is_name xs z) (bytes_same z))) (omega arith) deep (sym e)))
      ∙ finds_out xs (λ q p. o q (name_first z xs q ∙ or_right (bytes_eq z q) (is_name xs q) p)) x ox

  pub inner_undone : ((x : List ℕ) → is_name f.names x ≡ true → IsOld x) → Undone (inner to f k)
  inner_undone o = record { back = find f.names; back_to = λ x ox. by x ox (is_name f.names x) refl }
    where
      by : (x : List ℕ) → IsOld x → (t : Bool) → is_name f.names x ≡ t → find f.names (if t then value_name f.depth k x else to x) ≡ x
      by x ox true h = finds f.names o x ox h
      by x ox false h = finds_out f.names o x ox

  -- what stands for a name in a state is none of the words
  pub inner_apart : ((x : List ℕ) → is_name f.names x ≡ true → IsOld x) → (x : List ℕ) → IsOld x → (a : New) → HasRoom a → ((y : List ℕ) → value k y ≡ a → ⊥) → inner to f k x ≡ spell f.depth a → ⊥
  inner_apart o x ox a h n = by (is_name f.names x)
    where
      by : (t : Bool) → (if t then value_name f.depth k x else to x) ≡ spell f.depth a → ⊥
      by true e = n x (told f.depth (value k x) a (room, ox) h e)
      by false e = to_apart r x a f.depth ox h (omega arith) deep e

-- ---- declarations of words

pub choices_base : (f : Frame) (k j : ℕ) (ts : List Trans) → OnBase (λ (x : List ℕ). x) (transition_locals f Weak k j ts)
choices_base f k j [] = tt
choices_base f k j (t ∷ ts) = (refl, choices_base f k (j + 1) ts)

choices_no_last : (types : List TypeDecl) (f : Frame) (k j : ℕ) (ts : List Trans) → NoLast (value_of types) (transition_locals f Weak k j ts)
choices_no_last types f k j [] = tt
choices_no_last types f k j (t ∷ ts) = (refl, choices_no_last types f k (j + 1) ts)

pub clock_behind : (ds more : List Decl) (y : List ℕ) → declares ds y ≡ false → clock_in (ds ++ more) y ≡ clock_in more y
clock_behind [] more y h = refl
clock_behind (d ∷ ds) more y h =
    ap (λ t. if t then written d.clock else clock_in (ds ++ more) y) (or_first (bytes_eq d.name y) (declares ds y) h) ∙ clock_behind ds more y (or_second (bytes_eq d.name y) (declares ds y) h)

pub behind_choices : (to : List ℕ → List ℕ) (f : Frame) (w : Word) (k n : ℕ) (end : Expr) (j : ℕ) (ts : List Trans) (i : Instant) → behind (choices to f w k n end j ts) i ≡ behind ts i
behind_choices to f w k n end j [] i = refl
behind_choices to f w k n end j (t ∷ ts) i = behind_choices to f w k n end (j + 1) ts (part Tail i)

-- ---- the body

-- an instant of what stands for the body of a state
pub record BodyMet (types : List TypeDecl) (u : Value → Value) (N' : Nodes) (stands : List ℕ → Relation) (enums : Enumerations) (tys : Types) (to : List ℕ → List ℕ) (f : Frame) (k : ℕ) (b : Block) (until : List Trans) (fresh : Bool)
    (out' last last' : Names) (g' : Given) (now until_now : Instant) (w : Jump) : Type 0 where
  pub instant : Instant
  pub meets : instant ≡ scope types (reading u) N' (lowered_body enums to tys f k b until) fresh out' last' g' instant
  pub so : BodyStands stands (f.depth + 1) until b now instant
  pub weak : RowStands stands until until_now (part Equations instant)
  pub was_fresh : now (Fresh ∷ []) ≡ B fresh
  pub is_fresh : instant (Fresh ∷ []) ≡ B fresh
  pub next : instant (Named (state_word Next f.depth k) ∷ []) ≡ I (pos (code_of w))
  pub values : (x : List ℕ) → is_name f.names x ≡ true → instant (Named (value_name f.depth k x) ∷ []) ≡ from_block b last now x

module _ (types : List TypeDecl) (u : Value → Value) (N N' : Nodes) (stands : List ℕ → Relation) (enums : Enumerations) (tys : Types) {outer : Known} {to : List ℕ → List ℕ} (f : Frame) (all : States)
    (r : Renames outer f.depth to) (un : Undone to) (deep : f.depth < deepest) (e : Eqn) (names_of : (x : List ℕ) → is_name f.names x ≡ defines e x) (old : (x : List ℕ) → is_name f.names x ≡ true → IsOld x)
    (target : (x : List ℕ) → f.target x ≡ number_of 0 all x)
    (k : ℕ) (room : k < most) (ds : List Decl) (es : Eqns) (until : List Trans) (few : length until < most) (transitions : TransitionsOk all until) {out out' last last' : Names} (a : AroundBlock (and_defined e outer) (f.depth + 1) (inner to f k) f.names (block ds es) out out' last last')
    (fresh : Bool) (g g' : Given) (now : Instant) (past : Along (BodyStands stands (f.depth + 1) until (block ds es)) g.past g'.past) (m : now ≡ scope types (reading u) N (block ds es) fresh out last g now) (w : Jump) where
  abbrev pub into : List ℕ → List ℕ
  into = inner to f k

  abbrev pub stay : Jump
  stay = record { state = k; restart = false }

  abbrev pub front : List Eqn
  front = weak_eqns into f k until

  abbrev pub body_made : List Eqn
  body_made = made types enums f.at a now front tys

  abbrev pub eqns : List Eqn
  eqns = front ++ body_made

  abbrev pub names : Names
  names = inside es out now

  abbrev pub decls' : List Decl
  decls' = renamed_decls into ds ++ transition_locals f Weak k 0 until

  abbrev pub last_in : Names
  last_in = lasts (value_of types) ds g.past last

  abbrev pub last_in' : Names
  last_in' = lasts (value_of types) decls' g'.past last'

  abbrev table : Names
  table y = if bytes_eq (state_word Next f.depth k) y then I (pos (code_of w)) else with_choices types f Weak k all names last_in stay 0 until (λ z. names (a.undone.back z)) y

  abbrev pub names' : Names
  names' y = if some_defines (eqns_of eqns) y then table y else out' y

  outside : (y : List ℕ) → some_defines (eqns_of eqns) y ≡ false → names' y ≡ out' y
  outside y h = ap (λ t. if t then table y else out' y) h

  -- a name of the program is found behind the words
  table_name : (x : List ℕ) → IsOld x → table (into x) ≡ names x
  table_name x o =
      ap (λ t. if t then I (pos (code_of w)) else with_choices types f Weak k all names last_in stay 0 until (λ z. names (a.undone.back z)) (into x))
      (bytes_differ (state_word Next f.depth k) (into x) (λ s. inner_apart f r un deep k room old x o (of_state Next k) room (λ y p. absurd cc) (sym s)))
      ∙ passes_choices types f Weak k all names last_in stay 0 until (λ z. names (a.undone.back z)) (into x) (omega (arith, few))
      (λ i l q s. inner_apart f r un deep k room old x o (of_transition Weak k i) (room, q) (value_not i) (sym s))
      ∙ ap names (a.undone.back_to x o)
    where
      value_not : (i : ℕ) (y : List ℕ) → value k y ≡ of_transition Weak k i → ⊥
      value_not i y p = absurd cc

  pub same : (x : List ℕ) → IsOld x → names' (into x) ≡ names x
  same x o =
      same_read types enums f.at a now front tys names' outside
      (λ z oz h. ap (λ t. if t then table (into z) else out' (into z)) h ∙ table_name z oz) x o

  pub lasts_same_in : (x : List ℕ) → IsOld x → last_in' x ≡ last_in x
  lasts_same_in x o = lasts_in types enums f.at a (BodyStands stands (f.depth + 1) until (block ds es)) (transition_locals f Weak k 0 until) (choices_no_last types f k 0 until) (λ i j h. h.0) g.past g'.past past x o

  clocks : ClocksSame into ds decls'
  clocks = record {
    same = λ y o. clock_kept into a.renames es ds (transition_locals f Weak k 0 until) a.ok.0 (choices_base f k 0 until) y o;
    old = clock_old into (and_defined e outer) es ds a.ok.0;
  }

  pub around_body : Around (and_defined e outer) (f.depth + 1) into ds decls' names names' last_in last_in'
  around_body = record { renames = a.renames; undone = a.undone; clocks = clocks; same = same; lasts = lasts_same_in }

  pub left_met : EachMet types u N' decls' names' last_in' (all_kept into f.at f.names (block ds es))
  left_met =
      kept_each types u N' decls' names' last_in' into f.at (missing (is_name (outer_names (block ds es))) f.names)
      (λ x q.
      let two = sym (name_missing (is_name (outer_names (block ds es))) f.names x) ∙ q in
      let mine : is_name f.names x ≡ true = and_first (is_name f.names x) _ two in
      let left : block_defines (block ds es) x ≡ false = sym (names_outer (block ds es) x) ∙ not_true _ (and_second (is_name f.names x) _ two) in
      let undeclared = outward enums a.renames f.at f.names ds es a.ok.0 a.own x (or_right (block_defines (block ds es) x) (is_name f.names x) mine) in
      same x (old x mine) ∙ left_out types enums f.at a now x mine left ∙ sym (lasts_out (value_of types) ds g.past last x undeclared) ∙ sym (lasts_same_in x (old x mine)))

  pub own_given : (x : List ℕ) → some_defines es x ≡ true → defined types (reading u) N ds es names last_in (at Equations g) (part Equations now) x ≡ names x
  own_given x h =
      sym (ap (λ t. if t then defined types (reading u) N ds es names last_in (at Equations g) (part Equations now) x else Absent) h) ∙ sym (ap (λ i. i (Named x ∷ [])) m) ∙ ap (λ t. if t then now (Named x ∷ []) else out x) (sym h)

  -- the weak transitions
  new_clock : (b : New) → HasRoom b → clock_in decls' (spell f.depth b) ≡ []
  new_clock b h =
      clock_behind (renamed_decls into ds) (transition_locals f Weak k 0 until) (spell f.depth b) (declares_renamed into ds (spell f.depth b) ∙ new_not_local a.renames es ds a.ok.0 f.depth b h)
      ∙ base_clock into (transition_locals f Weak k 0 until) (choices_base f k 0 until) (spell f.depth b)

  choice_defined : (i : ℕ) → declares (transition_locals f Weak k 0 until) (transition_word Weak f.depth k i) ≡ true → some_defines (eqns_of eqns) (transition_word Weak f.depth k i) ≡ true
  choice_defined i h =
      some_append front body_made (transition_word Weak f.depth k i)
      ∙ or_left _ _ (some_append (choices into f Weak k (length until) (stays f k) 0 until) (own_next f k Weak (length until) (stays f k) ∷ []) (transition_word Weak f.depth k i)
      ∙ or_left _ _ (choices_declared into f Weak k (length until) (stays f k) 0 until (transition_word Weak f.depth k i) ∙ h))

  next_defined : some_defines (eqns_of eqns) (state_word Next f.depth k) ≡ true
  next_defined =
      some_append front body_made (state_word Next f.depth k)
      ∙ or_left _ _ (some_append (choices into f Weak k (length until) (stays f k) 0 until) (own_next f k Weak (length until) (stays f k) ∷ []) (state_word Next f.depth k)
      ∙ or_right (some_defines (eqns_of (choices into f Weak k (length until) (stays f k) 0 until)) (state_word Next f.depth k)) _ (or_left _ _ (or_left _ _ (bytes_same (state_word Next f.depth k)))))

  known : KnowsChoices types f Weak k all names last_in stay names' 0 until
  known =
      choices_known types f Weak k all names last_in stay room names' (λ z. names (a.undone.back z)) 0 until (omega (arith, few))
      (λ i l q h. ap (λ t. if t then table (transition_word Weak f.depth k i) else out' (transition_word Weak f.depth k i)) (choice_defined i h))

  next_word : names' (state_word Next f.depth k) ≡ I (pos (code_of w))
  next_word =
      ap (λ t. if t then table (state_word Next f.depth k) else out' (state_word Next f.depth k)) next_defined
      ∙ ap (λ t. if t then I (pos (code_of w)) else with_choices types f Weak k all names last_in stay 0 until (λ z. names (a.undone.back z)) (state_word Next f.depth k)) (bytes_same (state_word Next f.depth k))

  abbrev pub weak_choices : List Eqn
  weak_choices = choices into f Weak k (length until) (stays f k) 0 until

  abbrev pub RowNeeded : Type 0
  RowNeeded = RowMet types u N' decls' names' last_in' body_made (at Tail (behind_given weak_choices (at Equations g'))) (EqnsStand stands (f.depth + 1) es (part Equations now))

  -- its equations, where it is shown what is to be shown of them
  pub body_row : (given : List ℕ → Relation) (decided : List ℕ → Property) (C : Callees N N' stands given decided) → EqnsStep types u N N' stands given decided C enums es → BodyGiven u given until (block ds es) g.free g'.free
      → EqnsDecided decided es (part Equations now) → RowNeeded
  body_row given decided C ih free dec =
      let D : ℕ = f.depth + 1 in
      let one = along_map (BodyStands stands D until (block ds es)) (λ i j. EqnsStand stands D es i (part Tail (behind until j))) (part Equations) (part Equations) (λ i j h. h.1) g.past g'.past past in
      let two = along_behind (λ i j. EqnsStand stands D es i (part Tail (behind until j))) (λ i j. EqnsStand stands D es i (part Tail j)) weak_choices
      (λ i j h. subst (λ l. EqnsStand stands D es i (part Tail l)) (sym (behind_choices into f Weak k (length until) (stays f k) 0 until j)) h) (parts Equations g.past) (at Equations g') one in
      let three = along_right (λ i j. EqnsStand stands D es i (part Tail j)) (EqnsStand stands D es) (part Tail) (λ i j h. h) (parts Equations g.past) (behind_given weak_choices (at Equations g')).past two in
      ih (and_defined e outer) D into ds decls' names names' last_in last_in' around_body (declaring tys ds) (all_kept into f.at f.names (block ds es)) left_met a.ok.1
      (at Equations g) (at Tail (behind_given weak_choices (at Equations g'))) (part Equations now) three
      (subst (λ l. EqnsGiven u given es (part Equations g.free) (part Tail l)) (sym (behind_free weak_choices (at Equations g') ∙ behind_choices into f Weak k (length until) (stays f k) 0 until (part Equations g'.free))) free)
      dec own_given (ap (part Equations) m)

  module _ (dec : AllDecided types until names last_in) (chosen_is : w ≡ first_pure types all until names last_in stay) (row : RowNeeded) where
    first_met : EachMet types u N' decls' names' last_in' (choices into f Weak k (length until) (stays f k) 0 until)
    first_met =
        choices_met types f Weak k all names last_in stay u N' decls' into names' last_in' target same lasts_same_in (λ i q. new_clock (of_transition Weak k i) (room, q)) (length until) (stays f k) tt refl
        0 until (omega arith) (omega (arith, few)) transitions dec known

    rest_met : RowMet types u N' decls' names' last_in' (own_next f k Weak (length until) (stays f k) ∷ body_made) (behind_given (choices into f Weak k (length until) (stays f k) 0 until) (at Equations g'))
        (λ j. ⊤ × EqnsStand stands (f.depth + 1) es (part Equations now) (part Tail j))
    rest_met =
        row_more types u N' decls' names' last_in' (own_next f k Weak (length until) (stays f k)) body_made (behind_given (choices into f Weak k (length until) (stays f k) 0 until) (at Equations g')) Anyhow
        (EqnsStand stands (f.depth + 1) es (part Equations now))
        (plain_met types u N' decls' names' last_in' f.at (state_word Next f.depth k) (chosen f Weak k (length until) (stays f k) 0)
        (plain_link f.at (length until) (transition_word Weak f.depth k) (stays f k) 0 tt) (new_clock (of_state Next k) room)
        (next_word ∙ ap (λ j. I (pos (code_of j))) chosen_is
        ∙ sym (chosen_value types f Weak k all names last_in stay u N' decls' into names' last_in' target same lasts_same_in (λ i q. new_clock (of_transition Weak k i) (room, q)) (length until) (stays f k) tt refl 0 until (omega arith) known))
        (at Head (behind_given (choices into f Weak k (length until) (stays f k) 0 until) (at Equations g'))))
        row

    all_met : RowMet types u N' decls' names' last_in' eqns (at Equations g') (λ j. EqnsStand stands (f.depth + 1) es (part Equations now) (part Tail (behind until j)))
    all_met =
        let cs = choices into f Weak k (length until) (stays f k) 0 until in
        subst (λ es'. RowMet types u N' decls' names' last_in' es' (at Equations g') (λ j. EqnsStand stands (f.depth + 1) es (part Equations now) (part Tail (behind until j))))
        (sym (append_assoc cs (own_next f k Weak (length until) (stays f k) ∷ []) body_made))
        (row_so types u N' decls' names' last_in' (cs ++ (own_next f k Weak (length until) (stays f k) ∷ body_made)) (at Equations g')
        (λ j. ⊤ × EqnsStand stands (f.depth + 1) es (part Equations now) (part Tail (behind cs j))) (λ j. EqnsStand stands (f.depth + 1) es (part Equations now) (part Tail (behind until j)))
        (λ j p. subst (λ i. EqnsStand stands (f.depth + 1) es (part Equations now) (part Tail i)) (behind_choices into f Weak k (length until) (stays f k) 0 until j) p.1)
        (row_append types u N' decls' names' last_in' cs (own_next f k Weak (length until) (stays f k) ∷ body_made) (at Equations g') (λ j. ⊤ × EqnsStand stands (f.depth + 1) es (part Equations now) (part Tail j)) first_met rest_met))

    given_name : (result : Instant) → ((y : List ℕ) → some_defines (eqns_of eqns) y ≡ true → result (Named y ∷ []) ≡ names' y) → (x : List ℕ) → IsOld x → (some_defines es x ≡ true) ⊎ (is_name f.names x ≡ true) → result (Named (into x) ∷ []) ≡ names x
    given_name result h x o q = h (into x) (made_complete types enums f.at a now front tys x o q) ∙ same x o

    value_by : (result : Instant) → ((y : List ℕ) → some_defines (eqns_of eqns) y ≡ true → result (Named y ∷ []) ≡ names' y) → (x : List ℕ) → is_name f.names x ≡ true → (t : Bool) → block_defines (block ds es) x ≡ t
        → result (Named (into x) ∷ []) ≡ (if t then now (Named x ∷ []) else last x)
    value_by result h x q true e = given_name result h x (old x q) (inr q) ∙ ap (λ t. if t then now (Named x ∷ []) else out x) (and_first (some_defines es x) _ e)
    value_by result h x q false e = given_name result h x (old x q) (inr q) ∙ left_out types enums f.at a now x q e

    module _ (until_given : Given) (until_now : Instant) (until_is : until_now ≡ in_row (conditions types (reading u) N until names last_in until_given until_now)) where
      abbrev BothStand : Property
      BothStand j = EqnsStand stands (f.depth + 1) es (part Equations now) (part Tail (behind until j)) × RowStands stands until until_now j

      -- the conditions of the weak transitions stand in the first equations
      weak_met : RowMet types u N' decls' names' last_in' eqns (at Equations g') BothStand
      weak_met =
          let cs = choices into f Weak k (length until) (stays f k) 0 until in
          row_by types u N' decls' names' last_in' eqns (at Equations g') (λ j. EqnsStand stands (f.depth + 1) es (part Equations now) (part Tail (behind until j))) BothStand
          (λ j l p. (
            p,
            choices_stand types f Weak k all names last_in stay u N' decls' into names' last_in' target same lasts_same_in (λ i q. new_clock (of_transition Weak k i) (room, q)) (length until) (stays f k) tt refl N stands
                (own_next f k Weak (length until) (stays f k) ∷ body_made) 0 until (omega arith) (omega (arith, few)) transitions until_given (at Equations g') until_now j until_is
                (subst (λ es'. j ≡ equations types (reading u) N' decls' (eqns_of es') names' last_in' (at Equations g') j) (append_assoc cs (own_next f k Weak (length until) (stays f k) ∷ []) body_made) l),
          ))
          all_met

      pub body_by : BodyMet types u N' stands enums tys to f k (block ds es) until fresh out' last last' g' now until_now w
      body_by =
          let result = block_made types u N' decls' eqns names' out' last' g' fresh outside BothStand weak_met in
          record {
            instant = result.0;
            meets = result.1;
            so = (
              (λ x h.
                  let l = local (and_defined e outer) es ds a.ok.0 x h in
                  sym (given_name result.0 result.4 x l.old (inl l.defined) ∙ ap (λ t. if t then now (Named x ∷ []) else out x) l.defined) ∙ ap (λ z. result.0 (Named z ∷ [])) (local_kept a.renames es ds a.ok.0 x h)),
              result.2.0,
            );
            weak = result.2.1;
            was_fresh = ap (λ i. i (Fresh ∷ [])) m;
            is_fresh = result.3;
            next = result.4 (state_word Next f.depth k) next_defined ∙ next_word;
            values = λ x q. ap (λ z. result.0 (Named z ∷ [])) (sym (ap (λ t. if t then value_name f.depth k x else to x) q)) ∙ value_by result.0 result.4 x q (block_defines (block ds es) x) refl;
          }
