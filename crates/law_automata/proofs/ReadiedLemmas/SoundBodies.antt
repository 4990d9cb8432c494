-- What replaces an automaton is sound, where what replaces its states is.
use Rattle.std.proofs.Common.{◌≡◌, ℕ, ◌+◌, ◌<◌, ◌≤◌, ◌⊎◌, inl, inr, Bool, true, false, if◌then◌else◌, List, [], ◌∷◌, ◌++◌, length, refl, sym, ap, ◌∙◌, subst, arith}
use Rattle.std.specs.Prelude.{IsTrue, Option, None, Some}
use Rattle.std.specs.Str.{bytes_eq}
use Rattle.hp_base.specs.declared.span.Span.{Span}
use Rattle.hp_base.specs.declared.ty.Ty.{Ty}
use Rattle.hp_base.specs.declared.ty.Ty.TheVariants as ty
use Rattle.hp_base.specs.declared.ty.Const.TheVariants as const
use Rattle.hp_tree.specs.declared.block.Trans.{Trans}
use Rattle.hp_tree.specs.Blocks.{Decl, block, Eqns, Eqn, automaton, States, eqns_of}
use Rattle.hp_tree.specs.Programs.{TypeDecl, Node}
use Rattle.hp_tree.specs.Meaning.{declares, defines, some_defines, block_defines}
use Rattle.hp_base.specs.Known.Known.{lookup}
use Rattle.hp_typing.specs.Scopes.{with_variables}
use Rattle.law_judged.specs.Named.Scopes.{Scope}
use Rattle.law_judged.specs.Named.Scoped.{Names, also, BlockScoped, StatesScoped}
use Rattle.law_judged.proofs.NamedLemmas.Sets.{or_right, false_if}
use Rattle.law_judged.proofs.NamedLemmas.Declared.{eqn_owned}
use Rattle.law_values.specs.Valued.Judged.{Lasts, lasts_in, HaveOwnTypes, DeclsSound, Completes, TestsSound, BlockSound, EqnsSound, EqnSound}
use Rattle.law_values.proofs.ValuedLemmas.Scoped.{still_known, not_declared}
use Rattle.law_values.proofs.AcceptedLemmas.Views.{own_types, lasts_kept}
use Rattle.hp_automata.specs.declared.new_names.Word.{Word}
use Rattle.hp_automata.specs.declared.new_names.Word.TheVariants.{Next, Weak}
use Rattle.hp_automata.specs.NewNames.{word_name, state_word, value_name}
use Rattle.hp_tables.specs.Defining.Names.{names_of_states, outer_names}
use Rattle.hp_automata.specs.Names.{is_name, missing}
use Rattle.hp_automata.specs.Renaming.{renamed_decls}
use Rattle.hp_automata.specs.Lowering.{Types, Enumerations, declaring, type_or_bool, type_of, Frame, frame, inner, all_kept, transition_locals, frame_locals, frame_eqns, weak_eqns, lowered_eqns, lowered_eqn, lowered_states, lowered_body, count_of}
use Rattle.law_automata.specs.Lowered.OldNames.{IsOld}
use Rattle.law_automata.specs.Lowered.Removable.{and_defined, TransitionsOk, BlockOk, EqnOk, most, deepest}
use Rattle.law_automata.proofs.LoweredLemmas.Spelling.{New, spell, HasRoom}
use Rattle.law_automata.proofs.LoweredLemmas.Apart.{depth_told, new_is_new, bytes_same}
use Rattle.law_automata.proofs.LoweredLemmas.Lookups.{eqn_old, names_of_frame, eqn_sound as defined_by, body_sound as defined_in_body}
use Rattle.law_automata.proofs.LoweredLemmas.Renaming.{Renames, declares_renamed, local, inner_renames}
use Rattle.law_automata.proofs.LoweredLemmas.Tests.{or_cases, and_not, declares_append}
use Rattle.law_automata.specs.Readied.Constants.{HasConstant, DeclTypes}
use Rattle.law_automata.proofs.ReadiedLemmas.NewWords.{Only, told_apart, Distinct, distinct_once, Transition, transitions_only, FrameNew, weak_frame, frame_only, frame_once}
use Rattle.law_automata.proofs.ReadiedLemmas.Places.{scope_renamed, lasts_renamed, scope_append, lasts_append, Place, place_block, place_words, place_deeper, place_as, place_lasts}
use Rattle.law_automata.proofs.ReadiedLemmas.Plainly.{decls_once, declared_defined, all_defined}
use Rattle.law_automata.proofs.ReadiedLemmas.SoundStates.{own_last, firsts_both, decls_sound, weak_first, frame_first, states_typed, ListSound, row_sound, both_sound, FrameTyped, hands_known, frame_sound, weak_sound}
use Rattle.law_automata.proofs.ReadiedLemmas.SoundSteps.{tests_give, kept_sound, left_is, left_last, firsts_renamed}

first_lasts : (b u : Bool) → b ≡ true → IsTrue (if b then true else u)
first_lasts true u h = refl
first_lasts false u h = absurd cc

-- words of transitions have no last values
words_lasts : (f : Frame) (w : Word) (k j : ℕ) (ts : List Trans) (out : Lasts) (x : List ℕ) → IsTrue (lasts_in (transition_locals f w k j ts) out x) → IsTrue (out x)
words_lasts f w k j [] out x h = h
words_lasts f w k j (t ∷ ts) out x h = by _ h (words_lasts f w k (j + 1) ts out x)
  where
    by : (b : Bool) → IsTrue (if b then out x else lasts_in (transition_locals f w k (j + 1) ts) out x) → (IsTrue (lasts_in (transition_locals f w k (j + 1) ts) out x) → IsTrue (out x)) → IsTrue (out x)
    by true h r = h
    by false h r = r h

module _ (types : List TypeDecl) (among : List ℕ → Option Node) (enums : Enumerations) (base : Scope) where
  module _ {outer : Names} {d : ℕ} {to : List ℕ → List ℕ} (rn : Renames outer d to) {tys : Types} {s r : Scope} {lasts lasts' : Lasts} {seen own : Names} (p : Place types among enums base d to tys s r lasts lasts' seen own) (sp : Span) (all : States)
      (ok : EqnOk outer d (automaton sp all)) (sc : StatesScoped seen own all) where
    names : (x : List ℕ) → is_name (frame sp d all).names x ≡ defines (automaton sp all) x
    names x = names_of_frame enums sp d all x

    old : (x : List ℕ) → is_name (frame sp d all).names x ≡ true → IsOld x
    old x q = eqn_old outer d (automaton sp all) ok x (sym (names x) ∙ q)

    distinct : Distinct (frame sp d all).names
    distinct = distinct_once (names_of_states all)

    few : count_of all ≤ most
    few = let l : count_of all < most = ok.2 in omega (arith, l)

    abbrev words : List Decl
    words = frame_locals tys (frame sp d all) all

    abbrev NewHere : New → Type 0
    NewHere = FrameNew (frame sp d all) tys old distinct all (and_defined (automaton sp all) outer) (d + 1)

    words_new : Only d NewHere (declares words)
    words_new = frame_only (frame sp d all) tys old distinct all (and_defined (automaton sp all) outer) (d + 1) all ok.3 few

    own_name : (x : List ℕ) → is_name (frame sp d all).names x ≡ true → IsTrue (own x)
    own_name x q = eqn_owned x seen own (automaton sp all) sc (sym (names x) ∙ q)

    name_type : (x : List ℕ) (t : Ty) → is_name (frame sp d all).names x ≡ true → lookup s.variables x ≡ Some t → type_of tys x ≡ t
    name_type x t q h = ap type_or_bool (p.typed x t (own_name x q) h)

    -- new names of the automaton are not known around it
    new_none : (a : New) → HasRoom a → (y : List ℕ) → spell d a ≡ y → lookup r.variables y ≡ None
    new_none a room y e =
        p.none y (false_if (seen y) (λ h. new_is_new d a room (subst IsOld (sym e) (p.old y h))))
        (λ c b l there q.
        let deep : d < deepest = ok.0 in
        let same : c ≡ d = depth_told c d b a (omega (arith, l, deep)) deep there room (q ∙ sym e) in
        omega (arith, l, same))

    own_words : HaveOwnTypes types among (with_variables r words) words
    own_words = own_types types among words r (frame_once (frame sp d all) tys old distinct all (and_defined (automaton sp all) outer) (d + 1) all ok.3 few) (λ y q. let w = words_new y q in new_none w.0 w.1.0 y w.1.1.1)

    pub around : Place types among enums base (d + 1) to tys s (with_variables r words) lasts (lasts_in words lasts') seen own
    around = place_words types among enums base (place_deeper types among enums base p) words (λ y q. let w = words_new y q in (d, (w.0, (omega arith, (w.1.0, w.1.1.1)))))

    pub frame_typed : FrameTyped types among (with_variables r words) (lasts_in words lasts') enums tys (frame sp d all)
    frame_typed = record {
      next = own_words.0;
      jump = own_words.1.0;
      last = first_lasts (bytes_eq (word_name Next d) (word_name Next d)) _ (bytes_same (word_name Next d));
      states = λ m l. states_typed types among (frame sp d all) (with_variables r words) tys 0 all own_words.1.1 m (omega arith) (omega (arith, l));
      constants_of = λ x q.
          let k = p.known x (p.own_seen x (own_name x q)) in
          around.constants (type_of tys x) (subst (HasConstant enums base) (sym (name_type x k.0 q k.1)) (p.own_types x k.0 (own_name x q) k.1));
    }

    pub own_states : HaveOwnTypes types among (with_variables r words) (frame_locals tys (frame sp d all) all)
    own_states = own_words

    joined_types : (x : List ℕ) → is_name (frame sp d all).names x ≡ true → lookup (with_variables r words).variables (to x) ≡ Some (type_of tys x)
    joined_types x q =
        let k = p.known x (p.own_seen x (own_name x q)) in
        around.names x k.0 k.1 ∙ ap Some (sym (name_type x k.0 q k.1))

    -- ---- the automaton

    others : (y : List ℕ) → some_defines (eqns_of (frame_eqns enums to tys (frame sp d all) ++ lowered_states enums to tys (frame sp d all) 0 all)) y ≡ true → declares words y ≡ false → (t : Ty) × (lookup r.variables y ≡ Some t)
    others y h n =
        let stood = defined_by enums rn tys (automaton sp all) ok y (and_not (some_defines (eqns_of (frame_eqns enums to tys (frame sp d all) ++ lowered_states enums to tys (frame sp d all) 0 all)) y) (declares words y) h n) in
        let k = p.known stood.name (p.own_seen stood.name (eqn_owned stood.name seen own (automaton sp all) sc stood.own)) in
        (k.0, subst (λ z. lookup r.variables z ≡ Some k.0) (sym stood.is) (p.names stood.name k.0 k.1))

    pub automaton_by : ListSound types among (with_variables r words) (lasts_in words lasts') (lowered_states enums to tys (frame sp d all) 0 all) → EqnSound types among r lasts' (lowered_eqn enums to tys d (automaton sp all))
    automaton_by h = (
      (p.same.constants (const.B false), refl),
      (
        decls_sound types among (with_variables r words) (eqns_of (frame_eqns enums to tys (frame sp d all) ++ lowered_states enums to tys (frame sp d all) 0 all)) words own_words (all_defined enums rn tys sp all ok) (frame_first types among (frame sp d all) tys all),
        (
          others,
          row_sound types among (with_variables r words) (lasts_in words lasts') (frame_eqns enums to tys (frame sp d all) ++ lowered_states enums to tys (frame sp d all) 0 all)
              (both_sound types among (with_variables r words) (lasts_in words lasts') (frame_eqns enums to tys (frame sp d all)) (lowered_states enums to tys (frame sp d all) 0 all)
              (frame_sound types among (with_variables r words) (lasts_in words lasts') around.same.constants enums tys (frame sp d all) frame_typed to joined_types) h),
        ),
      ),
    )

    -- ---- the body of a state

    module _ (k : ℕ) (here : k < count_of all) (ds : List Decl) (es : Eqns) (until : List Trans) (okb : BlockOk (and_defined (automaton sp all) outer) (d + 1) (block ds es)) (oku : TransitionsOk all until) (short : length until < most) (scb : BlockScoped seen own (block ds es))
        (has : DeclTypes (HasConstant enums base) ds) (sub : (x : List ℕ) → block_defines (block ds es) x ≡ true → is_name (frame sp d all).names x ≡ true) (completes : Completes types among (automaton sp all) lasts (block ds es)) (sound : BlockSound types among s lasts (block ds es))
        (tests : TestsSound types among (with_variables s ds) (lasts_in ds lasts) until) where
      room : k < most
      room = omega (arith, here, few)

      pub state_renames : Renames (and_defined (automaton sp all) outer) (d + 1) (inner to (frame sp d all) k)
      state_renames = inner_renames (frame sp d all) (automaton sp all) rn names ok.0 k room

      names_in : (x : List ℕ) (t : Ty) → lookup s.variables x ≡ Some t → lookup (with_variables r words).variables (inner to (frame sp d all) k x) ≡ Some t
      names_in x t h = by (is_name (frame sp d all).names x) refl
        where
          by : (b : Bool) → is_name (frame sp d all).names x ≡ b → lookup (with_variables r words).variables (if b then value_name d k x else to x) ≡ Some t
          by true e = (frame_typed.states k here).values x e ∙ ap Some (name_type x t e h)
          by false e = around.names x t h

      declared_old : (x : List ℕ) → IsTrue (declares ds x) → IsOld x
      declared_old x q = (local (and_defined (automaton sp all) outer) es ds okb.0 x q).old

      abbrev weak : List Decl
      weak = transition_locals (frame sp d all) Weak k 0 until

      abbrev locals : List Decl
      locals = renamed_decls (inner to (frame sp d all) k) ds ++ weak

      abbrev inside_words : Scope
      inside_words = with_variables (with_variables (with_variables r words) ds) weak

      weak_new : Only d (Transition Weak k 0) (declares weak)
      weak_new = transitions_only (frame sp d all) Weak k 0 until room (omega (arith, short))

      pub in_state : Place types among enums base (d + 1) (inner to (frame sp d all) k) (declaring tys ds) (with_variables s ds) inside_words (lasts_in ds lasts) (lasts_in locals (lasts_in words lasts')) (also seen ds) (also own ds)
      in_state =
          place_lasts types among enums base
          (place_words types among enums base (place_block types among enums base (place_as types among enums base around (inner to (frame sp d all) k) names_in) state_renames es ds okb.0 scb.0 scb.1 has declared_old) weak
          (λ y q. let w = weak_new y q in (d, (w.0, (omega arith, (w.1.0, w.1.1.1))))))
          (lasts_in locals (lasts_in words lasts'))
          (λ x h.
          lasts_append (renamed_decls (inner to (frame sp d all) k) ds) weak (lasts_in words lasts') x
          (subst (λ z. IsTrue (z x)) (sym (lasts_renamed (inner to (frame sp d all) k) ds (lasts_in words lasts'))) (words_lasts (frame sp d all) Weak k 0 until (lasts_in ds (lasts_in words lasts')) x h)))

      scope_is : with_variables (with_variables r words) locals ≡ inside_words
      scope_is = scope_append (renamed_decls (inner to (frame sp d all) k) ds) weak (with_variables r words) ∙ ap (λ z. with_variables z weak) (scope_renamed (inner to (frame sp d all) k) ds (with_variables r words))

      locals_none : (y : List ℕ) → IsTrue (declares locals y) → lookup (with_variables r words).variables y ≡ None
      locals_none y q = by (or_cases (declares (renamed_decls (inner to (frame sp d all) k) ds) y) _ (sym (declares_append (renamed_decls (inner to (frame sp d all) k) ds) weak y) ∙ q))
        where
          by : (declares (renamed_decls (inner to (frame sp d all) k) ds) y ≡ true) ⊎ (declares (transition_locals (frame sp d all) Weak k 0 until) y ≡ true) → lookup (with_variables r words).variables y ≡ None
          by (inl h) =
              let mine : declares ds y ≡ true = sym (declares_renamed (inner to (frame sp d all) k) ds y) ∙ h in
              around.none y (false_if (seen y) (λ z. scb.1 y mine z)) (λ c a l there e. new_is_new c a there (subst IsOld (sym e) (declared_old y mine)))
          by (inr h) =
              let w = weak_new y h in
              not_declared y words r (false_if (declares words y) (λ t. told_apart d (Transition Weak k 0) NewHere (weak_frame (frame sp d all) tys old distinct all (and_defined (automaton sp all) outer) (d + 1) k 0) (declares weak) (declares words) weak_new words_new y h t))
              ∙ new_none w.0 w.1.0 y w.1.1.1

      own_locals : HaveOwnTypes types among inside_words locals
      own_locals = subst (λ z. HaveOwnTypes types among z locals) scope_is (own_types types among locals (with_variables r words) (decls_once enums tys (frame sp d all) rn (automaton sp all) names old distinct ok.0 k room ds es until okb short scb.0) locals_none)

      abbrev made : List Eqn
      made = lowered_eqns enums (inner to (frame sp d all) k) (declaring tys ds) (d + 1) es

      abbrev left : List Eqn
      left = all_kept (inner to (frame sp d all) k) sp (frame sp d all).names (block ds es)

      abbrev whole : List Eqn
      whole = weak_eqns (inner to (frame sp d all) k) (frame sp d all) k until ++ (made ++ left)

      left_sound : ListSound types among inside_words (lasts_in locals (lasts_in words lasts')) left
      left_sound =
          kept_sound types among enums base in_state sp (missing (is_name (outer_names (block ds es))) (frame sp d all).names)
          (λ x q.
          let l = left_is types among enums base (block ds es) (frame sp d all).names x q in
          let last = left_last types among enums base lasts (block ds es) x l.1 (completes x (sym (names x) ∙ l.0)) in
          (or_right (declares ds x) (seen x) (p.own_seen x (own_name x l.0)), in_state.lasting x (lasts_kept ds lasts x last)))

      first_sound : ListSound types among inside_words (lasts_in locals (lasts_in words lasts')) (weak_eqns (inner to (frame sp d all) k) (frame sp d all) k until)
      first_sound =
          weak_sound types among inside_words (lasts_in locals (lasts_in words lasts')) in_state.same.constants (inner to (frame sp d all) k) (frame sp d all) k until (tests_give types among enums base in_state all until oku tests)
          (own_last types among inside_words (renamed_decls (inner to (frame sp d all) k) ds) weak own_locals)
          (still_known (state_word Next d k) weak (with_variables (with_variables r words) ds) ty.Int (still_known (state_word Next d k) ds (with_variables r words) ty.Int (frame_typed.states k here).next))

      state_others : (y : List ℕ) → some_defines (eqns_of whole) y ≡ true → declares locals y ≡ false → (t : Ty) × (lookup (with_variables r words).variables y ≡ Some t)
      state_others y h n =
          hands_known types among (with_variables r words) (lasts_in words lasts') around.same.constants enums tys (frame sp d all) frame_typed k here y
          (defined_in_body enums tys (frame sp d all) rn (automaton sp all) names old ok.0 k room (block ds es) until okb sub y (and_not (some_defines (eqns_of whole) y) (declares locals y) h n))

      pub body_by : ListSound types among inside_words (lasts_in locals (lasts_in words lasts')) made → BlockSound types among (with_variables r words) (lasts_in words lasts') (lowered_body enums to tys (frame sp d all) k (block ds es) until)
      body_by h =
          subst (λ z. DeclsSound types among z (eqns_of whole) locals × (((y : List ℕ) → some_defines (eqns_of whole) y ≡ true → declares locals y ≡ false → (t : Ty) × (lookup (with_variables r words).variables y ≡ Some t)) × EqnsSound types among z (lasts_in locals (lasts_in words lasts')) (eqns_of whole))) (sym scope_is) (
            decls_sound types among inside_words (eqns_of whole) locals own_locals (declared_defined enums tys (frame sp d all) rn (automaton sp all) names old distinct ok.0 k room ds es until okb short)
                (firsts_both types among (renamed_decls (inner to (frame sp d all) k) ds) weak (firsts_renamed types among enums base (inner to (frame sp d all) k) (with_variables s ds) es ds sound.0) (weak_first types among (frame sp d all) k until)),
            (
              state_others,
              row_sound types among inside_words (lasts_in locals (lasts_in words lasts')) whole
                  (both_sound types among inside_words (lasts_in locals (lasts_in words lasts')) (weak_eqns (inner to (frame sp d all) k) (frame sp d all) k until) (made ++ left) first_sound
                  (both_sound types among inside_words (lasts_in locals (lasts_in words lasts')) made left h left_sound)),
            ),
          )
