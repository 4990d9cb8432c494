-- What stands for a block has right classes, where what stands for its equations has.
use Rattle.std.proofs.Common.{◌≡◌, ℕ, ◌+◌, ◌<◌, ◌⊎◌, inl, inr, Bool, true, false, ◌||◌, not, if◌then◌else◌, List, [], ◌∷◌, ◌++◌, length, refl, sym, ap, ◌∙◌, subst, arith}
use Rattle.std.specs.Prelude.{IsFalse, Option, None, Some}
use Rattle.std.specs.Str.{bytes_eq}
use Rattle.hp_base.specs.declared.span.Span.{Span}
use Rattle.hp_base.specs.declared.ty.Const.{Const}
use Rattle.hp_tree.specs.declared.block.Trans.{Trans}
use Rattle.hp_tree.specs.Blocks.{Decl, block, Eqns, Eqn, automaton, States, eqns_of}
use Rattle.hp_tree.specs.Instant.{Named}
use Rattle.hp_tree.specs.Meaning.{declares, defines, some_defines, block_defines}
use Rattle.hp_init.specs.Classes.{Classes, Assignment, Known, or_first, known_in}
use Rattle.hp_init.specs.Wants.{must_be_first}
use Rattle.law_values.specs.Valued.Classed.{LastFirst, LastsFirst, OthersFirst}
use Rattle.hp_automata.specs.declared.new_names.Word.TheVariants.{Next, Weak}
use Rattle.hp_automata.specs.NewNames.{state_word}
use Rattle.hp_automata.specs.Names.{is_name}
use Rattle.hp_automata.specs.Renaming.{renamed_decls}
use Rattle.hp_automata.specs.Lowering.{Types, Enumerations, declaring, Frame, frame, inner, all_kept, transition_locals, choices, own_next, stays, weak_eqns, lowered_block, lowered_eqns, lowered_body}
use Rattle.law_automata.specs.Lowered.OldNames.{IsOld}
use Rattle.law_automata.specs.Lowered.Removable.{Known as Names, and_defined, BlockOk, EqnOk, TransitionsOk, most}
use Rattle.law_automata.proofs.LoweredLemmas.Apart.{same_bytes, new_is_new}
use Rattle.law_automata.proofs.LoweredLemmas.Defined.{eqns_complete, eqns_same}
use Rattle.law_automata.proofs.LoweredLemmas.Lookups.{hands, eqn_old, choices_declared, names_of_frame, block_sound, body_sound}
use Rattle.law_automata.proofs.LoweredLemmas.Renaming.{Renames, declares_renamed, local_kept, inner_renames}
use Rattle.law_automata.proofs.LoweredLemmas.Spelling.{of_state}
use Rattle.law_automata.proofs.LoweredLemmas.Tests.{or_left, or_right, or_cases, and_first, and_second, and_not, not_true, true_false, some_append, declares_append}
use Rattle.law_automata.proofs.ReadiedLemmas.NewWords.{transitions_only}
use Rattle.law_automata.specs.Classed.Good.{ClocksFirst, TestsFirst, BlockGood, known_of, own_classes, in_block}
use Rattle.law_automata.specs.Classed.Relates.{Relates}
use Rattle.law_automata.proofs.ClassedLemmas.Expressions.{tests_kept, clocks_kept}
use Rattle.law_automata.proofs.ClassedLemmas.Places.{relates_in, left_named}
use Rattle.law_automata.proofs.ClassedLemmas.Rows.{must_declared, must_renamed, must_append, Musts, AllGive, both_give, left_give, block_gives, lasts_both, clocks_both}
use Rattle.law_automata.proofs.ClassedLemmas.States.{hands_new, weak_give}

no_more : (b : Bool) → (b || false) ≡ true → b ≡ true
no_more true h = refl
no_more false h = h

or_nothing : (b : Bool) → b ≡ (b || false)
or_nothing true = refl
or_nothing false = refl

-- ---- declared names that have to be First

last_kept : (o : Option Const) (b s : Bool) → LastFirst o s → LastFirst o (if b then s else false)
last_kept None b s h = tt
last_kept (Some c) true s h = h
last_kept (Some c) false s h = refl

lasts_kept : (ds : List Decl) (class other : Assignment) (to : List ℕ → List ℕ) (es : List Decl) → LastsFirst class es → LastsFirst (in_block (own_classes ds class) other) (renamed_decls to es)
lasts_kept ds class other to [] h = tt
lasts_kept ds class other to (e ∷ es) h = (last_kept e.last (declares ds e.name) (class (Named e.name ∷ [])) h.0, lasts_kept ds class other to es h.1)

words_lasts : (class : Assignment) (f : Frame) (i j : ℕ) (ts : List Trans) → LastsFirst class (transition_locals f Weak i j ts)
words_lasts class f i j [] = tt
words_lasts class f i j (t ∷ ts) = (tt, words_lasts class f i (j + 1) ts)

words_clocks : (second : Classes) (f : Frame) (i j : ℕ) (ts : List Trans) → ClocksFirst second (transition_locals f Weak i j ts)
words_clocks second f i j [] = tt
words_clocks second f i j (t ∷ ts) = (refl, words_clocks second f i (j + 1) ts)

-- ---- a block

module _ (enums : Enumerations) {outer : Names} {d : ℕ} {to : List ℕ → List ℕ} (rn : Renames outer d to) (tys : Types) (sp : Span) (xs : List (List ℕ)) (ds : List Decl) (es : Eqns) (ok : BlockOk outer d (block ds es)) (class : Assignment) (k l : Known) (r : Relates to k l)
    (old : (x : List ℕ) → is_name xs x ≡ true → IsOld x) (first : (x : List ℕ) → is_name xs x ≡ true → IsFalse (or_first (k.variables x))) (good : BlockGood k class (block ds es)) where
  abbrev made : List Eqn
  made = lowered_eqns enums to (declaring tys ds) d es

  abbrev left : List Eqn
  left = all_kept to sp xs (block ds es)

  abbrev pub known_there : Known
  known_there = known_of (renamed_decls to ds) (eqns_of (made ++ left)) (own_classes ds class) l

  complete : (x : List ℕ) → IsOld x → some_defines es x ≡ true → some_defines (eqns_of (made ++ left)) (to x) ≡ true
  complete x o q = some_append made left (to x) ∙ or_left (some_defines (eqns_of made) (to x)) (some_defines (eqns_of left) (to x)) (eqns_complete enums rn (declaring tys ds) es ok.1 x o q)

  others : (x : List ℕ) → IsOld x → some_defines es x ≡ false → some_defines (eqns_of (made ++ left)) (to x) ≡ true → (IsOld (to x) → ⊥) ⊎ IsFalse (or_first (k.variables x))
  others x o q h = by (or_cases (some_defines (eqns_of made) (to x)) (some_defines (eqns_of left) (to x)) (sym (some_append made left (to x)) ∙ h))
    where
      by : (some_defines (eqns_of made) (to x) ≡ true) ⊎ (some_defines (eqns_of left) (to x) ≡ true) → (IsOld (to x) → ⊥) ⊎ IsFalse (or_first (k.variables x))
      by (inl p) = absurd (true_false (some_defines es x) (sym (eqns_same enums rn (declaring tys ds) es ok.1 x o) ∙ p) q)
      by (inr p) = inr (first x (left_named rn sp xs old (block ds es) x o p))

  pub relates_there : Relates to (known_in (block ds es) class k) known_there
  relates_there =
      relates_in rn ds es ok.0 class (renamed_decls to ds) (λ y. false) (eqns_of (made ++ left)) k l r (λ y. declares_renamed to ds y ∙ or_nothing (declares ds y)) (λ y q o. absurd (cc q)) complete others

  pub musts_there : Musts to (known_in (block ds es) class k) ds (renamed_decls to ds)
  musts_there =
      record {
        known = λ y h. (class (Named y ∷ []), ap (λ (b : Bool). if b then Some (class (Named y ∷ [])) else k.variables y) (must_declared ds y h));
        kept = λ y h. must_renamed to ds (to y) ∙ subst (λ z. must_be_first ds z ≡ false) (sym (local_kept rn es ds ok.0 y (must_declared ds y h))) h;
      }

  others_first : OthersFirst l (renamed_decls to ds) (eqns_of (made ++ left))
  others_first y h n =
      let stood = block_sound enums rn tys sp xs (block ds es) ok old y (and_not (some_defines (eqns_of (made ++ left)) y) (declares (renamed_decls to ds) y) h n) in
      subst (λ z. IsFalse (or_first (l.variables z))) (sym stood.is) (r.variables stood.name stood.old ∙ by stood.name (or_cases (block_defines (block ds es) stood.name) (is_name xs stood.name) stood.own))
    where
      by : (x : List ℕ) → (block_defines (block ds es) x ≡ true) ⊎ (is_name xs x ≡ true) → IsFalse (or_first (k.variables x))
      by x (inl q) = good.1.0 x (and_first (some_defines es x) (not (declares ds x)) q) (not_true (declares ds x) (and_second (some_defines es x) (not (declares ds x)) q))
      by x (inr q) = first x q

  -- it has, with these classes of its own variables
  pub block_by : AllGive known_there (renamed_decls to ds) made → (other : Assignment) × BlockGood l (in_block (own_classes ds class) other) (lowered_block enums to tys d sp xs (block ds es))
  block_by h =
      block_gives l (renamed_decls to ds) (made ++ left) (own_classes ds class) (λ other. lasts_kept ds class other to ds good.0) others_first
      (clocks_kept to (known_in (block ds es) class k).values known_there.values relates_there.values outer es ds ok.0 good.1.1.0)
      (both_give known_there (renamed_decls to ds) made left h (left_give known_there (renamed_decls to ds) to sp _))

-- ---- the body of a state

module _ (enums : Enumerations) {outer : Names} {d : ℕ} {to : List ℕ → List ℕ} (rn : Renames outer d to) (tys : Types) (sp : Span) (all : States) (ok : EqnOk outer d (automaton sp all)) (i : ℕ) (room : i < most) (ds : List Decl) (es : Eqns) (until : List Trans)
    (okb : BlockOk (and_defined (automaton sp all) outer) (d + 1) (block ds es)) (oku : TransitionsOk all until) (short : length until < most) (sub : (x : List ℕ) → block_defines (block ds es) x ≡ true → is_name (frame sp d all).names x ≡ true)
    (class : Assignment) (k l : Known) (r : Relates (inner to (frame sp d all) i) k l) (first : (x : List ℕ) → is_name (frame sp d all).names x ≡ true → IsFalse (or_first (k.variables x))) (good : BlockGood k class (block ds es))
    (tests : TestsFirst (known_in (block ds es) class k).values until) where
  names : (x : List ℕ) → is_name (frame sp d all).names x ≡ defines (automaton sp all) x
  names x = names_of_frame enums sp d all x

  old : (x : List ℕ) → is_name (frame sp d all).names x ≡ true → IsOld x
  old x q = eqn_old outer d (automaton sp all) ok x (sym (names x) ∙ q)

  abbrev into : List ℕ → List ℕ
  into = inner to (frame sp d all) i

  pub state_renames : Renames (and_defined (automaton sp all) outer) (d + 1) (inner to (frame sp d all) i)
  state_renames = inner_renames (frame sp d all) (automaton sp all) rn names ok.0 i room

  abbrev weak : List Decl
  weak = transition_locals (frame sp d all) Weak i 0 until

  abbrev pub locals_there : List Decl
  locals_there = renamed_decls into ds ++ weak

  abbrev weakly : List Eqn
  weakly = weak_eqns into (frame sp d all) i until

  abbrev body_made : List Eqn
  body_made = lowered_eqns enums into (declaring tys ds) (d + 1) es

  abbrev body_left : List Eqn
  body_left = all_kept into sp (frame sp d all).names (block ds es)

  abbrev whole : Eqns
  whole = eqns_of (weakly ++ (body_made ++ body_left))

  abbrev pub body_there : Known
  body_there = known_of locals_there whole (own_classes ds class) l

  weak_new : (y : List ℕ) → declares weak y ≡ true → IsOld y → ⊥
  weak_new y q o = let a = transitions_only (frame sp d all) Weak i 0 until room (omega (arith, short)) y q in new_is_new d a.0 a.1.0 (subst IsOld (sym a.1.1.1) o)

  weakly_new : (y : List ℕ) → some_defines (eqns_of weakly) y ≡ true → IsOld y → ⊥
  weakly_new y q =
      by (or_cases (some_defines (eqns_of chosen_here) y) ((bytes_eq (state_word Next d i) y || false) || false) (sym (some_append chosen_here (own_next (frame sp d all) i Weak (length until) (stays (frame sp d all) i) ∷ []) y) ∙ q))
    where
      chosen_here : List Eqn
      chosen_here = choices (inner to (frame sp d all) i) (frame sp d all) Weak i (length until) (stays (frame sp d all) i) 0 until

      by : (some_defines (eqns_of (choices (inner to (frame sp d all) i) (frame sp d all) Weak i (length until) (stays (frame sp d all) i) 0 until)) y ≡ true) ⊎ (((bytes_eq (state_word Next d i) y || false) || false) ≡ true) → IsOld y → ⊥
      by (inl p) = weak_new y (sym (choices_declared (inner to (frame sp d all) i) (frame sp d all) Weak i (length until) (stays (frame sp d all) i) 0 until y) ∙ p)
      by (inr p) = λ o. new_is_new d (of_state Next i) room (subst IsOld (sym (same_bytes (state_word Next d i) y (no_more (bytes_eq (state_word Next d i) y) (no_more (bytes_eq (state_word Next d i) y || false) p)))) o)

  body_complete : (x : List ℕ) → IsOld x → some_defines es x ≡ true → some_defines whole (into x) ≡ true
  body_complete x o q =
      some_append weakly (body_made ++ body_left) (into x)
      ∙ or_right (some_defines (eqns_of weakly) (into x)) (some_defines (eqns_of (body_made ++ body_left)) (into x))
      (some_append body_made body_left (into x) ∙ or_left (some_defines (eqns_of body_made) (into x)) (some_defines (eqns_of body_left) (into x)) (eqns_complete enums state_renames (declaring tys ds) es okb.1 x o q))

  body_others : (x : List ℕ) → IsOld x → some_defines es x ≡ false → some_defines whole (into x) ≡ true → (IsOld (into x) → ⊥) ⊎ IsFalse (or_first (k.variables x))
  body_others x o q h = by (or_cases (some_defines (eqns_of weakly) (into x)) (some_defines (eqns_of (body_made ++ body_left)) (into x)) (sym (some_append weakly (body_made ++ body_left) (into x)) ∙ h))
    where
      own_by : (some_defines (eqns_of body_made) (into x) ≡ true) ⊎ (some_defines (eqns_of body_left) (into x) ≡ true) → (IsOld (into x) → ⊥) ⊎ IsFalse (or_first (k.variables x))
      own_by (inl p) = absurd (true_false (some_defines es x) (sym (eqns_same enums state_renames (declaring tys ds) es okb.1 x o) ∙ p) q)
      own_by (inr p) = inr (first x (left_named state_renames sp (frame sp d all).names old (block ds es) x o p))

      by : (some_defines (eqns_of weakly) (into x) ≡ true) ⊎ (some_defines (eqns_of (body_made ++ body_left)) (into x) ≡ true) → (IsOld (into x) → ⊥) ⊎ IsFalse (or_first (k.variables x))
      by (inl p) = inl (weakly_new (into x) p)
      by (inr p) = own_by (or_cases (some_defines (eqns_of body_made) (into x)) (some_defines (eqns_of body_left) (into x)) (sym (some_append body_made body_left (into x)) ∙ p))

  pub relates_body : Relates (inner to (frame sp d all) i) (known_in (block ds es) class k) body_there
  relates_body =
      relates_in state_renames ds es okb.0 class locals_there (declares weak) whole k l r (λ y. declares_append (renamed_decls into ds) weak y ∙ ap (λ b. b || declares weak y) (declares_renamed into ds y)) weak_new body_complete body_others

  pub musts_body : Musts (inner to (frame sp d all) i) (known_in (block ds es) class k) ds locals_there
  musts_body =
      record {
        known = λ y h. (class (Named y ∷ []), ap (λ (b : Bool). if b then Some (class (Named y ∷ [])) else k.variables y) (must_declared ds y h));
        kept = λ y h. must_append (renamed_decls into ds) weak (into y) (must_renamed into ds (into y) ∙ subst (λ z. must_be_first ds z ≡ false) (sym (local_kept state_renames es ds okb.0 y (must_declared ds y h))) h);
      }

  -- what the body defines for those around it is new
  pub body_hands : (y : List ℕ) → block_defines (lowered_body enums to tys (frame sp d all) i (block ds es) until) y ≡ true → hands (frame sp d all) i y ≡ true
  body_hands y h = body_sound enums tys (frame sp d all) rn (automaton sp all) names old ok.0 i room (block ds es) until okb sub y h

  body_firsts : OthersFirst l locals_there whole
  body_firsts y h n = r.fresh.variables y (hands_new (frame sp d all) old i room y (body_hands y (and_not (some_defines whole y) (declares locals_there y) h n)))

  pub body_by : AllGive body_there locals_there body_made → (other : Assignment) × BlockGood l other (lowered_body enums to tys (frame sp d all) i (block ds es) until)
  body_by h =
      let gives = tests_kept into (known_in (block ds es) class k).values body_there.values relates_body.values all until oku tests in
      let b = block_gives l locals_there (weakly ++ (body_made ++ body_left)) (own_classes ds class)
      (λ other. lasts_both (in_block (own_classes ds class) other) (renamed_decls into ds) weak (lasts_kept ds class other into ds good.0) (words_lasts (in_block (own_classes ds class) other) (frame sp d all) i 0 until)) body_firsts
      (clocks_both body_there.values (renamed_decls into ds) weak (clocks_kept into (known_in (block ds es) class k).values body_there.values relates_body.values (and_defined (automaton sp all) outer) es ds okb.0 good.1.1.0)
      (words_clocks body_there.values (frame sp d all) i 0 until))
      (both_give body_there locals_there weakly (body_made ++ body_left) (weak_give body_there relates_body.fresh locals_there (frame sp d all) into i room until short gives)
      (both_give body_there locals_there body_made body_left h (left_give body_there locals_there into sp _))) in
      (in_block (own_classes ds class) b.0, b.1)
