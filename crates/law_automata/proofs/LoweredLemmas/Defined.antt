-- What stands for an equation defines what stands for its names.
use Rattle.std.proofs.Common.{◌≡◌, ℕ, ◌+◌, ◌<◌, ◌≤◌, length, Bool, true, false, not, ◌&&◌, ◌||◌, if◌then◌else◌, List, [], ◌∷◌, ◌++◌, map, inl, inr, refl, sym, ap, subst, ◌∙◌, arith}
use Rattle.std.specs.Prelude.{◌⊎◌}
use Rattle.std.specs.Str.{bytes_eq}
use Rattle.hp_base.specs.declared.span.Span.{Span}
use Rattle.hp_tree.specs.declared.block.Trans.{Trans}
use Rattle.hp_tree.specs.Blocks.{Decl, Block, block, Eqns, no_eqn, more_eqns, Eqn, define, switch, reset, automaton, Arms, no_arm, more_arms, States, no_state, more_states, eqns_of}
use Rattle.hp_tree.specs.Meaning.{is_among, declares, defines, some_defines, block_defines, arms_define}
use Rattle.hp_automata.specs.declared.new_names.Word.TheVariants.{Jump, Next, From, On, Strong, Weak}
use Rattle.hp_automata.specs.NewNames.{word_name, state_word, value_name}
use Rattle.hp_tables.specs.Defining.Names.{names_of_arms, outer_names}
use Rattle.hp_automata.specs.Names.{is_name, missing, once}
use Rattle.hp_automata.specs.Renaming.{renamed_left, renamed_decls}
use Rattle.hp_automata.specs.Lowering.{Types, Enumerations, declaring, Frame, frame, inner, all_kept, transition_locals, stays, choices, value_local, state_locals, locals_from, frame_locals, frame_eqns, weak_eqns, lowered_block, lowered_eqns, lowered_eqn, lowered_arms, lowered_states, lowered_body, count_of}
use Rattle.law_automata.specs.Lowered.OldNames.{IsOld}
use Rattle.law_automata.specs.Lowered.Removable.{Known, and_defined, DeclsOk, BlockOk, EqnsOk, EqnOk, ArmsOk, StatesOk, most, deepest}
use Rattle.law_automata.proofs.LoweredLemmas.Spelling.{New, word, of_state, of_transition, value, spell, HasRoom}
use Rattle.law_automata.proofs.LoweredLemmas.Apart.{told, same_bytes, bytes_same, bytes_differ}
use Rattle.law_automata.proofs.LoweredLemmas.Tests.{or_left, or_right, or_cases, or_none, and_first, and_second, and_not, not_true, true_false, equal_tests, name_first, name_missing, names_outer, some_append, declares_append}
use Rattle.law_automata.proofs.LoweredLemmas.Renaming.{Renames, to_apart, to_one, declares_renamed, local, not_local, new_not_local, inner_renames, within_renames}
use Rattle.law_automata.proofs.LoweredLemmas.Lookups.{eqn_old, Stood, with_names, hands, map_name, mapped, kept_defined, joined_defined, transitions_apart, names_of_frame, names_of_switch, eqns_sound, eqn_sound, block_sound, body_sound}

no_more : (b : Bool) → b ≡ true → (b || false) ≡ true
no_more true h = refl
no_more false h = absurd cc

left_complete : (to : List ℕ → List ℕ) (ys : List (List ℕ × Span)) (x : List ℕ) → is_among ys x ≡ true → is_among (renamed_left to ys) (to x) ≡ true
left_complete to [] x h = absurd cc
left_complete to (y ∷ ys) x h = by (or_cases (bytes_eq y.0 x) (is_among ys x) h) (left_complete to ys x)
  where
    by : (bytes_eq y.0 x ≡ true) ⊎ (is_among ys x ≡ true) → (is_among ys x ≡ true → is_among (renamed_left to ys) (to x) ≡ true) → (bytes_eq (to y.0) (to x) || is_among (renamed_left to ys) (to x)) ≡ true
    by (inl q) r = or_left _ _ (subst (λ z. bytes_eq (to y.0) (to z) ≡ true) (same_bytes y.0 x q) (bytes_same (to y.0)))
    by (inr q) r = or_right (bytes_eq (to y.0) (to x)) _ (r q)

-- a word of an automaton is declared in the block that stands for it, and what stands for a name of the program is not
module _ (types : Types) (f : Frame) (old : (x : List ℕ) → is_name f.names x ≡ true → IsOld x) (y : List ℕ) (h : (a : New) → HasRoom a → spell f.depth a ≡ y → ⊥) where
  values_apart : (k : ℕ) → k < most → (xs : List (List ℕ)) → ((x : List ℕ) → is_name xs x ≡ true → IsOld x) → declares (map (value_local types f k) xs) y ≡ false
  values_apart k room [] o = refl
  values_apart k room (x ∷ xs) o =
      or_none (bytes_eq (value_name f.depth k x) y) _
      (bytes_differ (value_name f.depth k x) y (h (value k x) (room, o x (name_first x xs x ∙ or_left (bytes_eq x x) (is_name xs x) (bytes_same x)))))
      (values_apart k room xs (λ z q. o z (name_first x xs z ∙ or_right (bytes_eq x z) (is_name xs z) q)))

  state_apart : (k : ℕ) → k < most → (unless : List Trans) → length unless < most → declares (state_locals types f k unless) y ≡ false
  state_apart k room unless few =
      or_none (bytes_eq (state_word From f.depth k) y) _ (bytes_differ _ y (h (of_state From k) room))
      (or_none (bytes_eq (state_word On f.depth k) y) _ (bytes_differ _ y (h (of_state On k) room))
      (or_none (bytes_eq (state_word Next f.depth k) y) _ (bytes_differ _ y (h (of_state Next k) room))
      (declares_append (transition_locals f Strong k 0 unless) (map (value_local types f k) f.names) y
      ∙ or_none (declares (transition_locals f Strong k 0 unless) y) _ (transitions_apart f Strong k 0 unless y (omega arith) (λ i g. h (of_transition Strong k i) (room, g)))
      (values_apart k room f.names old))))

  locals_apart : (all : States) (outer : Known) (d : ℕ) (k : ℕ) (ss : States) → StatesOk all outer d ss → k + count_of ss ≤ most → declares (locals_from types f k ss) y ≡ false
  locals_apart all outer d k no_state ok room = refl
  locals_apart all outer d k (more_states q b until unless at ss) ok room =
      declares_append (state_locals types f k unless) (locals_from types f (k + 1) ss) y
      ∙ or_none (declares (state_locals types f k unless) y) _ (state_apart k (omega arith) unless ok.0.2.1) (locals_apart all outer d (k + 1) ss ok.1 (omega arith))

  pub frame_apart : (all : States) (outer : Known) (d : ℕ) (ss : States) → StatesOk all outer d ss → count_of ss ≤ most → declares (frame_locals types f ss) y ≡ false
  frame_apart all outer d ss ok room =
      or_none (bytes_eq (word_name Next f.depth) y) _ (bytes_differ _ y (h (word Next) tt))
      (or_none (bytes_eq (word_name Jump f.depth) y) _ (bytes_differ _ y (h (word Jump) tt)) (locals_apart all outer d 0 ss ok (omega arith)))

module _ (enums : Enumerations) where
  -- in front of the names that a block leaves out
  module _ {outer : Known} {d : ℕ} {to : List ℕ → List ℕ} (r : Renames outer d to) (s : Span) (xs : List (List ℕ)) (ds : List Decl) (es : Eqns) (ok : DeclsOk outer es ds) (own : (x : List ℕ) → is_name xs x ≡ true → outer x ≡ true) where
    not_declared : (x : List ℕ) → is_name xs x ≡ true → declares ds x ≡ false
    not_declared x q = by (declares ds x) refl
      where
        by : (t : Bool) → declares ds x ≡ t → t ≡ false
        by true e = absurd (true_false (outer x) (own x q) (local outer es ds ok x e).own)
        by false e = refl

    pub outward : (x : List ℕ) → with_names xs (block ds es) x ≡ true → declares ds x ≡ false
    outward x h = by (or_cases (block_defines (block ds es) x) (is_name xs x) h)
      where
        by : (block_defines (block ds es) x ≡ true) ⊎ (is_name xs x ≡ true) → declares ds x ≡ false
        by (inl q) = not_true (declares ds x) (and_second (some_defines es x) _ q)
        by (inr q) = not_declared x q

    pub equations_complete : (lowered : List Eqn) (x : List ℕ) → (some_defines es x ≡ true → some_defines (eqns_of lowered) (to x) ≡ true) → (some_defines es x ≡ true) ⊎ (is_name xs x ≡ true)
        → some_defines (eqns_of (lowered ++ all_kept to s xs (block ds es))) (to x) ≡ true
    equations_complete lowered x known (inl q) = some_append lowered _ (to x) ∙ or_left (some_defines (eqns_of lowered) (to x)) _ (known q)
    equations_complete lowered x known (inr q) = some_append lowered _ (to x) ∙ by (block_defines (block ds es) x) refl
      where
        by : (t : Bool) → block_defines (block ds es) x ≡ t → (some_defines (eqns_of lowered) (to x) || some_defines (eqns_of (all_kept to s xs (block ds es))) (to x)) ≡ true
        by true e = or_left (some_defines (eqns_of lowered) (to x)) _ (known (and_first (some_defines es x) _ e))
        by false e =
            or_right (some_defines (eqns_of lowered) (to x)) _
            (kept_defined to s (missing (is_name (outer_names (block ds es))) xs) (to x)
            ∙ map_name to (missing (is_name (outer_names (block ds es))) xs) x (name_missing (is_name (outer_names (block ds es))) xs x ∙ and_not _ _ q (names_outer (block ds es) x ∙ e)))

  mutual
    pub block_complete : {outer : Known} {d : ℕ} {to : List ℕ → List ℕ} → Renames outer d to → (types : Types) (s : Span) (xs : List (List ℕ)) (b : Block) → BlockOk outer d b → ((x : List ℕ) → is_name xs x ≡ true → outer x ≡ true)
        → (x : List ℕ) → IsOld x → with_names xs b x ≡ true → block_defines (lowered_block enums to types d s xs b) (to x) ≡ true
    block_complete {outer} {d} {to} r types s xs (block ds es) ok own x o h =
        and_not _ (declares (renamed_decls to ds) (to x))
        (equations_complete r s xs ds es ok.0 own (lowered_eqns enums to (declaring types ds) d es) x (eqns_complete r (declaring types ds) es ok.1 x o) (split (some_defines es x) (declares ds x) (is_name xs x) h))
        (declares_renamed to ds (to x) ∙ not_local r es ds ok.0 x o (outward r s xs ds es ok.0 own x h))
      where
        split : (a b c : Bool) → ((a && not b) || c) ≡ true → (a ≡ true) ⊎ (c ≡ true)
        split true b c e = inl refl
        split false b c e = inr e

    pub eqns_complete : {outer : Known} {d : ℕ} {to : List ℕ → List ℕ} → Renames outer d to → (types : Types) (es : Eqns) → EqnsOk outer d es → (x : List ℕ) → IsOld x → some_defines es x ≡ true → some_defines (eqns_of (lowered_eqns enums to types d es)) (to x) ≡ true
    eqns_complete r types no_eqn ok x o h = absurd cc
    eqns_complete {outer} {d} {to} r types (more_eqns e es) ok x o h = by (or_cases (defines e x) (some_defines es x) h) (eqn_complete r types e ok.1 x o) (eqns_complete r types es ok.2 x o)
      where
        by : (defines e x ≡ true) ⊎ (some_defines es x ≡ true) → (defines e x ≡ true → defines (lowered_eqn enums to types d e) (to x) ≡ true)
            → (some_defines es x ≡ true → some_defines (eqns_of (lowered_eqns enums to types d es)) (to x) ≡ true) → (defines (lowered_eqn enums to types d e) (to x) || some_defines (eqns_of (lowered_eqns enums to types d es)) (to x)) ≡ true
        by (inl q) p l = or_left _ _ (p q)
        by (inr q) p l = or_right (defines (lowered_eqn enums to types d e) (to x)) _ (l q)

    pub eqn_complete : {outer : Known} {d : ℕ} {to : List ℕ → List ℕ} → Renames outer d to → (types : Types) (e : Eqn) → EqnOk outer d e → (x : List ℕ) → IsOld x → defines e x ≡ true → defines (lowered_eqn enums to types d e) (to x) ≡ true
    eqn_complete {outer} {d} {to} r types (define s ys e) ok x o h = left_complete to ys x h
    eqn_complete {outer} {d} {to} r types (switch s e arms) ok x o h =
        arms_complete (within_renames (switch s e arms) r) types (once (names_of_arms arms)) (λ z q. or_left (arms_define arms z) (outer z) (sym (names_of_switch enums arms z) ∙ q)) arms ok.1 x o h
    eqn_complete {outer} {d} {to} r types (reset s b e) ok x o h =
        block_complete (within_renames (reset s b e) r) types s [] b ok.1 (λ z q. absurd cc) x o (no_more (block_defines b x) h)
    eqn_complete {outer} {d} {to} r types (automaton s ss) ok x o h =
        let f : Frame = frame s d ss in
        let old : (z : List ℕ) → is_name f.names z ≡ true → IsOld z = λ z q. eqn_old outer d (automaton s ss) ok z (sym (names_of_frame enums s d ss z) ∙ q) in
        and_not _ _
        (some_append (frame_eqns enums to types f) (lowered_states enums to types f 0 ss) (to x)
        ∙ or_left (some_defines (eqns_of (frame_eqns enums to types f)) (to x)) _
        (or_right (bytes_eq (word_name Jump d) (to x) || false) _ (or_right (bytes_eq (word_name Next d) (to x) || false) _
        (joined_defined enums to types f f.names (to x) ∙ map_name to f.names x (names_of_frame enums s d ss x ∙ h)))))
        (frame_apart types f old (to x) (λ a room e. to_apart r x a d o room (omega arith) ok.0 (sym e)) ss (and_defined (automaton s ss) outer) (d + 1) ss ok.3 (omega (arith, ok.2)))

    pub arms_complete : {outer : Known} {d : ℕ} {to : List ℕ → List ℕ} → Renames outer d to → (types : Types) (xs : List (List ℕ)) → ((x : List ℕ) → is_name xs x ≡ true → outer x ≡ true) → (arms : Arms) → ArmsOk outer d arms
        → (x : List ℕ) → IsOld x → arms_define arms x ≡ true → arms_define (lowered_arms enums to types d xs arms) (to x) ≡ true
    arms_complete r types xs own no_arm ok x o h = absurd cc
    arms_complete {outer} {d} {to} r types xs own (more_arms c b s arms) ok x o h =
        by (or_cases (block_defines b x) (arms_define arms x) h) (block_complete r types s xs b ok.0 own x o) (arms_complete r types xs own arms ok.1 x o)
      where
        by : (block_defines b x ≡ true) ⊎ (arms_define arms x ≡ true) → (with_names xs b x ≡ true → block_defines (lowered_block enums to types d s xs b) (to x) ≡ true)
            → (arms_define arms x ≡ true → arms_define (lowered_arms enums to types d xs arms) (to x) ≡ true) → (block_defines (lowered_block enums to types d s xs b) (to x) || arms_define (lowered_arms enums to types d xs arms) (to x)) ≡ true
        by (inl q) p l = or_left _ _ (p (or_left (block_defines b x) (is_name xs x) q))
        by (inr q) p l = or_right (block_defines (lowered_block enums to types d s xs b) (to x)) _ (l q)

  -- ---- both together

  stood_one : {outer : Known} {d : ℕ} {to : List ℕ → List ℕ} → Renames outer d to → (own : Known) (x : List ℕ) → IsOld x → Stood to own (to x) → own x ≡ true
  stood_one {outer} {d} {to} r own x o s = subst (λ z. own z ≡ true) (sym (to_one r x s.name o s.old s.is)) s.own

  module _ {outer : Known} {d : ℕ} {to : List ℕ → List ℕ} (r : Renames outer d to) (types : Types) where
    pub eqn_same : (e : Eqn) → EqnOk outer d e → (x : List ℕ) → IsOld x → defines (lowered_eqn enums to types d e) (to x) ≡ defines e x
    eqn_same e ok x o = equal_tests _ _ (λ h. stood_one r (defines e) x o (eqn_sound enums r types e ok (to x) h)) (eqn_complete r types e ok x o)

    pub eqns_same : (es : Eqns) → EqnsOk outer d es → (x : List ℕ) → IsOld x → some_defines (eqns_of (lowered_eqns enums to types d es)) (to x) ≡ some_defines es x
    eqns_same es ok x o = equal_tests _ _ (λ h. stood_one r (some_defines es) x o (eqns_sound enums r types es ok (to x) h)) (eqns_complete r types es ok x o)

    pub block_same : (s : Span) (xs : List (List ℕ)) (b : Block) → BlockOk outer d b → ((x : List ℕ) → is_name xs x ≡ true → outer x ≡ true) → ((x : List ℕ) → is_name xs x ≡ true → IsOld x)
        → (x : List ℕ) → IsOld x → block_defines (lowered_block enums to types d s xs b) (to x) ≡ with_names xs b x
    block_same s xs b ok own old x o = equal_tests _ _ (λ h. stood_one r (with_names xs b) x o (block_sound enums r types s xs b ok old (to x) h)) (block_complete r types s xs b ok own x o)

    -- a new name of an automaton that is not around is defined by none
    pub eqns_not_new : (es : Eqns) → EqnsOk outer d es → (e : ℕ) (a : New) → HasRoom a → d ≤ e → e < deepest → some_defines (eqns_of (lowered_eqns enums to types d es)) (spell e a) ≡ false
    eqns_not_new es ok e a room l h = by (some_defines (eqns_of (lowered_eqns enums to types d es)) (spell e a)) refl
      where
        by : (t : Bool) → some_defines (eqns_of (lowered_eqns enums to types d es)) (spell e a) ≡ t → t ≡ false
        by true q = let stood = eqns_sound enums r types es ok (spell e a) q in absurd (to_apart r stood.name a e stood.old room l h (sym stood.is))
        by false q = refl

    pub eqn_not_new : (e0 : Eqn) → EqnOk outer d e0 → (e : ℕ) (a : New) → HasRoom a → d ≤ e → e < deepest → defines (lowered_eqn enums to types d e0) (spell e a) ≡ false
    eqn_not_new e0 ok e a room l h = by (defines (lowered_eqn enums to types d e0) (spell e a)) refl
      where
        by : (t : Bool) → defines (lowered_eqn enums to types d e0) (spell e a) ≡ t → t ≡ false
        by true q = let stood = eqn_sound enums r types e0 ok (spell e a) q in absurd (to_apart r stood.name a e stood.old room l h (sym stood.is))
        by false q = refl

  -- the body of a state defines what the state hands on, and the block of one that is not active does too
  weak_complete : (f : Frame) (k : ℕ) (until : List Trans) (to : List ℕ → List ℕ) → some_defines (eqns_of (weak_eqns to f k until)) (state_word Next f.depth k) ≡ true
  weak_complete f k until to =
      some_append (choices to f Weak k (length until) (stays f k) 0 until) _ (state_word Next f.depth k)
      ∙ or_right (some_defines (eqns_of (choices to f Weak k (length until) (stays f k) 0 until)) (state_word Next f.depth k)) _ (no_more _ (no_more _ (bytes_same (state_word Next f.depth k))))

  pub body_complete : {outer : Known} {to : List ℕ → List ℕ} (types : Types) (f : Frame) → Renames outer f.depth to → (e : Eqn) → ((x : List ℕ) → is_name f.names x ≡ defines e x) → ((x : List ℕ) → is_name f.names x ≡ true → IsOld x)
      → f.depth < deepest → (k : ℕ) → k < most → (b : Block) (until : List Trans) → BlockOk (and_defined e outer) (f.depth + 1) b → length until < most
      → (y : List ℕ) → hands f k y ≡ true → block_defines (lowered_body enums to types f k b until) y ≡ true
  body_complete {outer} {to} types f r e names old deep k room (block ds es) until ok few y h =
      by (or_cases (bytes_eq (state_word Next f.depth k) y) (is_name (map (value_name f.depth k) f.names) y) h)
    where
      into : List ℕ → List ℕ
      into = inner to f k

      own : List Eqn
      own = lowered_eqns enums (inner to f k) (declaring types ds) (f.depth + 1) es

      left : List Eqn
      left = all_kept (inner to f k) f.at f.names (block ds es)

      renames : Renames (and_defined e outer) (f.depth + 1) (inner to f k)
      renames = inner_renames f e r names deep k room

      not_declared : (a : New) → HasRoom a → ((i : ℕ) → i < most → spell f.depth (of_transition Weak k i) ≡ spell f.depth a → ⊥) → declares (renamed_decls (inner to f k) ds ++ transition_locals f Weak k 0 until) (spell f.depth a) ≡ false
      not_declared a has apart =
          declares_append (renamed_decls (inner to f k) ds) (transition_locals f Weak k 0 until) (spell f.depth a)
          ∙ or_none (declares (renamed_decls (inner to f k) ds) (spell f.depth a)) _ (declares_renamed (inner to f k) ds (spell f.depth a) ∙ new_not_local renames es ds ok.0 f.depth a has)
          (transitions_apart f Weak k 0 until (spell f.depth a) (omega (arith, few)) apart)

      defined_next : some_defines (eqns_of (weak_eqns (inner to f k) f k until ++ (lowered_eqns enums (inner to f k) (declaring types ds) (f.depth + 1) es ++ all_kept (inner to f k) f.at f.names (block ds es)))) (state_word Next f.depth k) ≡ true
      defined_next = some_append (weak_eqns (inner to f k) f k until) _ (state_word Next f.depth k) ∙ or_left _ _ (weak_complete f k until (inner to f k))

      defined_value : (x : List ℕ) → is_name f.names x ≡ true → some_defines (eqns_of (weak_eqns (inner to f k) f k until ++ (lowered_eqns enums (inner to f k) (declaring types ds) (f.depth + 1) es ++ all_kept (inner to f k) f.at f.names (block ds es)))) (inner to f k x) ≡ true
      defined_value x q =
          some_append (weak_eqns (inner to f k) f k until) _ (inner to f k x)
          ∙ or_right (some_defines (eqns_of (weak_eqns (inner to f k) f k until)) (inner to f k x)) _
          (equations_complete renames f.at f.names ds es ok.0 (λ z p. or_left (defines e z) (outer z) (sym (names z) ∙ p)) (lowered_eqns enums (inner to f k) (declaring types ds) (f.depth + 1) es) x
          (eqns_complete renames (declaring types ds) es ok.1 x (old x q)) (inr q))

      state_not : (i : ℕ) → of_transition Weak k i ≡ of_state Next k → ⊥
      state_not i p = absurd cc

      value_not : (i : ℕ) (x : List ℕ) → of_transition Weak k i ≡ value k x → ⊥
      value_not i x p = absurd cc

      by : (bytes_eq (state_word Next f.depth k) y ≡ true) ⊎ (is_name (map (value_name f.depth k) f.names) y ≡ true) → block_defines (lowered_body enums to types f k (block ds es) until) y ≡ true
      by (inl q) =
          subst (λ z. block_defines (lowered_body enums to types f k (block ds es) until) z ≡ true) (same_bytes _ y q)
          (and_not _ _ defined_next (not_declared (of_state Next k) room (λ i g s. state_not i (told f.depth (of_transition Weak k i) (of_state Next k) (room, g) room s))))
      by (inr q) =
          let m = mapped (value_name f.depth k) f.names y q in
          let x : List ℕ = m.0 in
          let is : inner to f k x ≡ value_name f.depth k x = ap (λ t. if t then value_name f.depth k x else to x) m.1 in
          subst (λ z. block_defines (lowered_body enums to types f k (block ds es) until) z ≡ true) (is ∙ sym m.2)
          (and_not _ _ (defined_value x m.1)
          (ap (declares (renamed_decls (inner to f k) ds ++ transition_locals f Weak k 0 until)) is
          ∙ not_declared (value k x) (room, old x m.1) (λ i g s. value_not i x (told f.depth (of_transition Weak k i) (value k x) (room, g) (room, old x m.1) s))))

  pub body_hands : {outer : Known} {to : List ℕ → List ℕ} (types : Types) (f : Frame) → Renames outer f.depth to → (e : Eqn) → ((x : List ℕ) → is_name f.names x ≡ defines e x) → ((x : List ℕ) → is_name f.names x ≡ true → IsOld x)
      → f.depth < deepest → (k : ℕ) → k < most → (b : Block) (until : List Trans) → BlockOk (and_defined e outer) (f.depth + 1) b → length until < most → ((x : List ℕ) → block_defines b x ≡ true → is_name f.names x ≡ true)
      → (y : List ℕ) → block_defines (lowered_body enums to types f k b until) y ≡ hands f k y
  body_hands {outer} {to} types f r e names old deep k room b until ok few sub y =
      equal_tests _ _ (body_sound enums types f r e names old deep k room b until ok sub y) (body_complete types f r e names old deep k room b until ok few y)
