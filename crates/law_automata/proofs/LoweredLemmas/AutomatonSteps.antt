-- An automaton, given its states: the `reset` that stands for it has an instant.
use Rattle.std.proofs.Common.{◌≡◌, ℕ, ◌+◌, ◌<◌, ◌≤◌, Bool, true, false, ◌||◌, List, [], ◌∷◌, ◌++◌, map, refl, sym, ap, subst, ◌∙◌, arith}
use Rattle.std.specs.Prelude.{⊤, pos, if◌then◌else◌}
use Rattle.std.specs.Str.{bytes_eq}
use Rattle.hp_base.specs.declared.span.Span.{Span}
use Rattle.hp_base.specs.declared.value.Value.{Value}
use Rattle.hp_base.specs.declared.value.Value.TheVariants.{B, I}
use Rattle.hp_tree.specs.Expressions.{constant}
use Rattle.hp_tree.specs.Blocks.{Decl, Eqn, automaton, States, eqns_of}
use Rattle.hp_tree.specs.Programs.{TypeDecl}
use Rattle.hp_tree.specs.Operators.{is_true}
use Rattle.hp_tree.specs.Instant.{Body, Equations, Head, Tail, States as StatesOf, Next as NextWord, Pending, Instant, Given, at, part, parts, since, alone, with_body}
use Rattle.hp_tree.specs.Meaning.{Names, Nodes, Jump, equation, gives, states, strong, weak, selected, state_of, within, from_state, lasts, defines, some_defines, states_define}
use Rattle.hp_automata.specs.declared.new_names.Word.TheVariants.{Jump as JumpWord, Next, From}
use Rattle.hp_automata.specs.NewNames.{word_name, state_word, value_name}
use Rattle.hp_automata.specs.Names.{is_name}
use Rattle.hp_automata.specs.Lowering.{Types, Enumerations, Frame, frame, count_of, number, handed, value_handed, pending_of, jump_eqn, next_eqn, joined, some_constant, type_of, frame_eqns, frame_locals, lowered_states, lowered_eqn}
use Rattle.law_automata.specs.Lowered.OldNames.{IsOld}
use Rattle.law_automata.specs.Lowered.Removable.{Known, and_defined, EqnOk, StatesOk, most}
use Rattle.law_automata.specs.Lowered.Standing.{Relation, Along, EqnStands, StatesStand, behind, code_of}
use Rattle.law_automata.specs.Lowered.Giving.{EqnGiven, StatesGiven}
use Rattle.law_automata.specs.Lowered.Deciding.{Property, EqnDecided, StatesDecided}
use Rattle.law_automata.proofs.LoweredLemmas.Callees.{Callees}
use Rattle.law_automata.proofs.LoweredLemmas.Spelling.{New, word, of_state, of_transition, value, spell, HasRoom}
use Rattle.law_automata.proofs.LoweredLemmas.Apart.{told, bytes_same, bytes_differ, new_is_new}
use Rattle.law_automata.proofs.LoweredLemmas.Tests.{or_left, or_right, true_false, some_append, name_first}
use Rattle.law_automata.proofs.LoweredLemmas.Renaming.{to_apart}
use Rattle.law_automata.proofs.LoweredLemmas.Lookups.{eqn_old, joined_defined, map_name, names_of_frame}
use Rattle.law_automata.proofs.LoweredLemmas.Defined.{eqn_same}
use Rattle.law_automata.proofs.LoweredLemmas.Expressions.{reading}
use Rattle.law_automata.proofs.LoweredLemmas.Pasts.{along_map, along_right}
use Rattle.law_automata.proofs.LoweredLemmas.Rows.{EqnMet, RowMet, EachMet, Anyhow, behind_given, along_behind, behind_free, plain_met, row_so, row_more, row_append}
use Rattle.law_automata.proofs.LoweredLemmas.BlockMaking.{value_of, block_made, base_clock}
use Rattle.law_automata.proofs.LoweredLemmas.Around.{Around, eqn_from}
use Rattle.law_automata.proofs.LoweredLemmas.Jumps.{strong_pure, strong_same}
use Rattle.law_automata.proofs.LoweredLemmas.Chains.{plain_link}
use Rattle.law_automata.proofs.LoweredLemmas.StateWords.{stands_from, stands_below, with_states, states_known, passes_states, states_complete, next_here, value_here, FromState}
use Rattle.law_automata.proofs.LoweredLemmas.StateSteps.{InAutomaton, no_value, Knows, next_handed, values_handed, jump_handed}
use Rattle.law_automata.proofs.LoweredLemmas.Bounds.{strong_below, weak_below, own_present, pending_value, selected_below, frame_base, frame_lasts, frame_pending, behind_joined}
use Rattle.hp_automata.specs.declared.new_names.Word.{Word}

module _ (types : List TypeDecl) (u : Value → Value) (N N' : Nodes) (stands given : List ℕ → Relation) (decided : List ℕ → Property) (C : Callees N N' stands given decided) (enums : Enumerations) where
  -- What is shown of the states from one on: the equations that stand for them have an instant.
  abbrev pub StatesStep : States → Type 0
  StatesStep ss =
      (outer : Known) (to : List ℕ → List ℕ) (f : Frame) (all : States) (e : Eqn) (names last names' last' : Names) (sel j w : Jump) (ds' : List Decl) (tys : Types) (c : InAutomaton types outer to f all e names last names' last' sel j w ds') (k : ℕ)
      → StatesOk all (and_defined e outer) (f.depth + 1) ss → k + count_of ss ≡ f.count → Knows types u N N' stands enums tys c k ss → ((x : List ℕ) → states_define ss x ≡ true → is_name f.names x ≡ true)
      → (g g' : Given) (now : Instant) → Along (StatesStand stands (f.depth + 1) ss) g.past g'.past → StatesGiven u given ss g.free g'.free → StatesDecided decided ss now
      → now ≡ states types (reading u) N ss k j names (within e names last) last g now
      → (stands_from k ss j.state ≡ true → w ≡ weak types (reading u) N all ss k j (within e names last) last g now)
      → (stands_from k ss j.state ≡ true → (x : List ℕ) → is_name f.names x ≡ true → names x ≡ from_state ss k j.state last now x)
      → RowMet types u N' ds' names' last' (lowered_states enums to tys f k ss) g' (StatesStand stands (f.depth + 1) ss now)

  module _ {outer : Known} {d : ℕ} {to : List ℕ → List ℕ} {ds ds' : List Decl} {names names' last last' : Names} (a : Around outer d to ds ds' names names' last last') (tys : Types) (s : Span) (ss : States) (ok : EqnOk outer d (automaton s ss))
      (g g' : Given) (now : Instant) (past : Along (EqnStands stands d (automaton s ss)) g.past g'.past) (free : EqnGiven u given (automaton s ss) g.free g'.free) (dec : EqnDecided decided (automaton s ss) now)
      (own_value : (x : List ℕ) → defines (automaton s ss) x ≡ true → gives types (reading u) N ds (automaton s ss) names last g now x ≡ names x) (m : now ≡ equation types (reading u) N ds (automaton s ss) names last g now) where
    abbrev e : Eqn
    e = automaton s ss

    abbrev f : Frame
    f = frame s d ss

    abbrev states_now : Instant
    states_now = part StatesOf now

    abbrev sel : Jump
    sel = selected g.past

    abbrev j : Jump
    j = strong types (reading u) N ss ss 0 sel names last (at StatesOf g) states_now

    abbrev w : Jump
    w = weak types (reading u) N ss ss 0 j (within e names last) last (at StatesOf g) states_now

    abbrev locals : List Decl
    locals = frame_locals tys f ss

    abbrev own_eqns : List Eqn
    own_eqns = lowered_states enums to tys f 0 ss

    abbrev eqns : List Eqn
    eqns = frame_eqns enums to tys f ++ own_eqns

    abbrev block_given : Given
    block_given = since false (at Body g')

    abbrev outside_names : Names
    outside_names = within (lowered_eqn enums to tys d e) names' last'

    abbrev last_in : Names
    last_in = lasts (value_of types) locals block_given.past last'

    names_of : (x : List ℕ) → is_name f.names x ≡ defines e x
    names_of x = names_of_frame enums s d ss x

    old : (x : List ℕ) → is_name f.names x ≡ true → IsOld x
    old x h = eqn_old outer d e ok x (sym (names_of x) ∙ h)

    -- ---- the words
    abbrev states_table : Names
    states_table = with_states types f ss names last sel j w (no_value types enums tys) 0 ss (λ z. names (a.undone.back z))

    abbrev table : Names
    table y = if bytes_eq (word_name JumpWord d) y then I (pos (code_of j)) else (if bytes_eq (word_name Next d) y then I (pos (code_of w)) else states_table y)

    abbrev inner_names : Names
    inner_names y = if some_defines (eqns_of eqns) y then table y else outside_names y

    outside : (y : List ℕ) → some_defines (eqns_of eqns) y ≡ false → inner_names y ≡ outside_names y
    outside y h = ap (λ t. if t then table y else outside_names y) h

    inside : (y : List ℕ) → some_defines (eqns_of eqns) y ≡ true → inner_names y ≡ table y
    inside y h = ap (λ t. if t then table y else outside_names y) h

    neither : (p q : Bool) (v z r : Value) → p ≡ false → q ≡ false → (if p then v else (if q then z else r)) ≡ r
    neither true q v z r h i = absurd cc
    neither false true v z r h i = absurd cc
    neither false false v z r h i = refl

    few_states : count_of ss ≤ most
    few_states = omega (arith, ok.2)

    table_name : (x : List ℕ) → IsOld x → table (to x) ≡ names x
    table_name x o =
        let apart : (b : New) → HasRoom b → spell d b ≡ to x → ⊥ = λ b h p. to_apart a.renames x b d o h (omega arith) ok.0 (sym p) in
        neither (bytes_eq (word_name JumpWord d) (to x)) (bytes_eq (word_name Next d) (to x)) (I (pos (code_of j))) (I (pos (code_of w))) (states_table (to x))
        (bytes_differ _ (to x) (apart (word JumpWord) tt)) (bytes_differ _ (to x) (apart (word Next) tt))
        ∙ passes_states types f ss names last sel j w (no_value types enums tys) old (and_defined e outer) (d + 1) (λ z. names (a.undone.back z)) (to x) apart 0 ss ok.3 (omega (arith, few_states))
        ∙ ap names (a.undone.back_to x o)

    name_defined : (x : List ℕ) → is_name f.names x ≡ true → some_defines (eqns_of eqns) (to x) ≡ true
    name_defined x h =
        some_append (frame_eqns enums to tys f) own_eqns (to x)
        ∙ or_left _ _ (or_right (bytes_eq (word_name JumpWord d) (to x) || false) _ (or_right (bytes_eq (word_name Next d) (to x) || false) _ (joined_defined enums to tys f f.names (to x) ∙ map_name to f.names x h)))

    same : (x : List ℕ) → IsOld x → inner_names (to x) ≡ names x
    same x o = by (some_defines (eqns_of eqns) (to x)) refl
      where
        not_name : some_defines (eqns_of eqns) (to x) ≡ false → (t : Bool) → defines e x ≡ t → t ≡ false
        not_name h true q = absurd (true_false _ (name_defined x (names_of x ∙ q)) h)
        not_name h false q = refl

        by : (t : Bool) → some_defines (eqns_of eqns) (to x) ≡ t → inner_names (to x) ≡ names x
        by true h = inside (to x) h ∙ table_name x o
        by false h = outside (to x) h ∙ ap (λ t. if t then last' (to x) else names' (to x)) (eqn_same enums a.renames tys e ok x o ∙ not_name h (defines e x) refl) ∙ a.same x o

    lasts_same : (x : List ℕ) → IsOld x → last_in x ≡ last x
    lasts_same x o =
        frame_lasts types tys f ss block_given.past last' x (bytes_differ _ x (λ p. new_is_new d (word Next) tt (subst IsOld (sym p) o))) ∙ a.lasts x o

    jump_defined : some_defines (eqns_of eqns) (word_name JumpWord d) ≡ true
    jump_defined = some_append (frame_eqns enums to tys f) own_eqns (word_name JumpWord d) ∙ or_left _ _ (or_left _ _ (or_left _ _ (bytes_same (word_name JumpWord d))))

    next_defined : some_defines (eqns_of eqns) (word_name Next d) ≡ true
    next_defined =
        some_append (frame_eqns enums to tys f) own_eqns (word_name Next d)
        ∙ or_left _ _ (or_right (bytes_eq (word_name JumpWord d) (word_name Next d) || false) _ (or_left _ _ (or_left _ _ (bytes_same (word_name Next d)))))

    jump_word : inner_names (word_name JumpWord d) ≡ I (pos (code_of j))
    jump_word = inside (word_name JumpWord d) jump_defined ∙ ap (λ t. if t then I (pos (code_of j)) else (if bytes_eq (word_name Next d) (word_name JumpWord d) then I (pos (code_of w)) else states_table (word_name JumpWord d))) (bytes_same (word_name JumpWord d))

    next_word : inner_names (word_name Next d) ≡ I (pos (code_of w))
    next_word = inside (word_name Next d) next_defined ∙ ap (λ t. if t then I (pos (code_of w)) else states_table (word_name Next d)) (bytes_same (word_name Next d))

    pending_word : last_in (word_name Next d) ≡ I (pos (code_of sel))
    pending_word = frame_pending types tys f ss block_given.past last' ∙ pending_value d ss (EqnStands stands d e) (λ i k h. (h.0, h.1)) g.past g'.past past

    in_automaton : InAutomaton types outer to f ss e names last inner_names last_in sel j w locals
    in_automaton = record {
      renames = a.renames;
      undone = a.undone;
      deep = ok.0;
      few = ok.2;
      names_of = names_of;
      old = old;
      target = λ x. refl;
      same = same;
      lasts = lasts_same;
      jump = jump_word;
      pending = pending_word;
      clock = λ y. base_clock to locals (frame_base to tys f ss) y;
    }

    not_word : (b : New) → FromState 0 b → (v : Word) → word v ≡ b → ⊥
    not_word (word x) h v p = h
    not_word (of_state x i) h v p = absurd cc
    not_word (of_transition x i k) h v p = absurd cc
    not_word (value i x) h v p = absurd cc

    known : Knows types u N N' stands enums tys in_automaton 0 ss
    known =
        states_known types f ss names last sel j w (no_value types enums tys) old (and_defined e outer) (d + 1) tys inner_names (λ z. names (a.undone.back z)) 0 ss ok.3 (omega (arith, few_states))
        (λ b has from h.
        inside (spell d b) (some_append (frame_eqns enums to tys f) own_eqns (spell d b) ∙ or_right (some_defines (eqns_of (frame_eqns enums to tys f)) (spell d b)) _ (states_complete enums to tys f 0 ss (spell d b) h))
        ∙ neither (bytes_eq (word_name JumpWord d) (spell d b)) (bytes_eq (word_name Next d) (spell d b)) (I (pos (code_of j))) (I (pos (code_of w))) (states_table (spell d b))
        (bytes_differ _ _ (λ p. not_word b from JumpWord (told d (word JumpWord) b tt has p))) (bytes_differ _ _ (λ p. not_word b from Next (told d (word Next) b tt has p))))

    -- ---- the numbers of the states
    sel_below : sel.state < count_of ss
    sel_below = selected_below d ss (EqnStands stands d e) (λ i k h. (h.0, h.1)) g.past g'.past ok.1 past

    strong_is : j ≡ strong_pure types ss ss 0 names last sel
    strong_is = strong_same types u N ss (and_defined e outer) (d + 1) ss ok.3 0 names last (at StatesOf g) states_now sel

    j_below : j.state < count_of ss
    j_below = subst (λ q. q.state < count_of ss) (sym strong_is) (strong_below types ss (and_defined e outer) (d + 1) ss ok.3 0 names last sel sel_below)

    w_below : w.state < count_of ss
    w_below = weak_below types ss u N (and_defined e outer) (d + 1) ss ok.3 0 j (within e names last) last (at StatesOf g) states_now j_below

    is_there : stands_from 0 ss j.state ≡ true
    is_there = stands_below 0 ss j.state (omega arith) (omega (arith, j_below))

    all_states : 0 + count_of ss ≡ f.count
    all_states = omega arith

    -- ---- its equations
    abbrev states_given : Given
    states_given = behind_given (map (joined enums to tys f) f.names) (at Tail (at Tail (at Equations block_given)))

    states_past : Along (StatesStand stands (d + 1) ss) (parts StatesOf g.past) states_given.past
    states_past =
        let S : Relation = StatesStand stands (d + 1) ss in
        let names_list : List (List ℕ) = f.names in
        let one = own_present (EqnStands stands d e) (λ i b. S (part StatesOf i) (behind names_list (part Tail (part Tail (part Equations b))))) (λ i k h. (h.0, h.2)) g.past g'.past past in
        let two = along_map (λ i b. S (part StatesOf i) (behind names_list (part Tail (part Tail (part Equations b))))) (λ i b. S i (behind names_list (part Tail (part Tail b)))) (part StatesOf) (part Equations) (λ i b h. h) g.past _ one in
        let three = along_right (λ i b. S i (behind names_list (part Tail (part Tail b)))) (λ i b. S i (behind names_list (part Tail b))) (part Tail) (λ i b h. h) (parts StatesOf g.past) _ two in
        let four = along_right (λ i b. S i (behind names_list (part Tail b))) (λ i b. S i (behind names_list b)) (part Tail) (λ i b h. h) (parts StatesOf g.past) _ three in
        along_behind (λ i b. S i (behind names_list b)) S (map (joined enums to tys f) f.names) (λ i b h. subst (S i) (sym (behind_joined enums to tys f f.names b)) h) (parts StatesOf g.past) (at Tail (at Tail (at Equations block_given))) four

    states_free : StatesGiven u given ss (part StatesOf g.free) states_given.free
    states_free =
        subst (StatesGiven u given ss (part StatesOf g.free)) (sym (behind_free (map (joined enums to tys f) f.names) (at Tail (at Tail (at Equations block_given))) ∙ behind_joined enums to tys f f.names (part Tail (part Tail (part Equations (part Body g'.free)))))) free

    abbrev StatesRow : Type 0
    StatesRow = RowMet types u N' locals inner_names last_in own_eqns states_given (StatesStand stands (d + 1) ss states_now)

    -- by what is shown of the states
    states_row : StatesStep ss → StatesRow
    states_row ih =
        ih outer to f ss e names last inner_names last_in sel j w locals tys in_automaton 0 ok.3 all_states known (λ x h. names_of x ∙ h) (at StatesOf g) states_given states_now states_past states_free dec (ap (part StatesOf) m)
        (λ h. refl) (λ h x q. sym (own_value x (sym (names_of x) ∙ q)))

    joined_met : (xs : List (List ℕ)) → ((x : List ℕ) → is_name xs x ≡ true → is_name f.names x ≡ true) → EachMet types u N' locals inner_names last_in (map (joined enums to tys f) xs)
    joined_met [] sub = tt
    joined_met (x ∷ xs) sub =
        let mine : is_name f.names x ≡ true = sub x (name_first x xs x ∙ or_left (bytes_eq x x) (is_name xs x) (bytes_same x)) in (
          (λ h. plain_met types u N' locals inner_names last_in f.at (to x) (value_handed enums tys f 0 x)
              (plain_link f.at f.count (λ i. value_name d i x) (constant f.at (some_constant enums (type_of tys x))) 0 tt) (in_automaton.clock (to x))
              (same x (old x mine) ∙ sym (values_handed types u N N' stands enums tys in_automaton 0 ss all_states known x mine ∙ ap (λ t. value_here types f ss names last sel j w (no_value types enums tys) t x) is_there)) h),
          joined_met xs (λ z q. sub z (name_first x xs z ∙ or_right (bytes_eq x z) (is_name xs z) q)),
        )

    jump_met : (h : Given) → EqnMet types u N' locals inner_names last_in (jump_eqn f) h Anyhow
    jump_met h =
        plain_met types u N' locals inner_names last_in f.at (word_name JumpWord d) (handed f From (pending_of f) 0) (plain_link f.at f.count (state_word From d) (pending_of f) 0 tt) (in_automaton.clock (word_name JumpWord d))
        (jump_word ∙ ap (λ q. I (pos (code_of q))) strong_is ∙ sym (jump_handed types u N N' stands enums tys in_automaton 0 ss all_states known)) h

    next_met : (h : Given) → EqnMet types u N' locals inner_names last_in (next_eqn f) h Anyhow
    next_met h =
        plain_met types u N' locals inner_names last_in f.at (word_name Next d) (handed f Next (number f.at 0) 0) (plain_link f.at f.count (state_word Next d) (number f.at 0) 0 tt) (in_automaton.clock (word_name Next d))
        (next_word ∙ sym (next_handed types u N N' stands enums tys in_automaton 0 ss all_states known ∙ ap (next_here types f ss names last sel j w (no_value types enums tys)) is_there)) h

    abbrev Rows : Property
    Rows i = StatesStand stands (d + 1) ss states_now (behind f.names (part Tail (part Tail i)))

    all_met : StatesRow → RowMet types u N' locals inner_names last_in eqns (at Equations block_given) Rows
    all_met row =
        let G : Given = at Equations block_given in
        let js : List Eqn = map (joined enums to tys f) f.names in
        row_so types u N' locals inner_names last_in eqns G (λ i. ⊤ × (⊤ × StatesStand stands (d + 1) ss states_now (behind js (part Tail (part Tail i))))) Rows
        (λ i p. subst (StatesStand stands (d + 1) ss states_now) (behind_joined enums to tys f f.names (part Tail (part Tail i))) p.1.1)
        (row_more types u N' locals inner_names last_in (jump_eqn f) (next_eqn f ∷ (js ++ own_eqns)) G Anyhow (λ i. ⊤ × StatesStand stands (d + 1) ss states_now (behind js (part Tail i))) (jump_met (at Head G))
        (row_more types u N' locals inner_names last_in (next_eqn f) (js ++ own_eqns) (at Tail G) Anyhow (λ i. StatesStand stands (d + 1) ss states_now (behind js i)) (next_met (at Head (at Tail G)))
        (row_append types u N' locals inner_names last_in js own_eqns (at Tail (at Tail G)) (StatesStand stands (d + 1) ss states_now) (joined_met f.names (λ x q. q)) row)))

    -- ---- the automaton
    pub automaton_step : StatesStep ss → EqnMet types u N' ds' names' last' (lowered_eqn enums to tys d e) g' (EqnStands stands d e now)
    automaton_step ih =
        let made = block_made types u N' locals eqns inner_names outside_names last' block_given false outside Rows (all_met (states_row ih)) in
        let reset_now : Instant = with_body (alone (B false)) made.0 in
        eqn_from types u N N' stands given decided C enums a tys e ok g g' now own_value reset_now (ap (with_body (alone (B false))) made.1)
        (λ x o h. made.4 (to x) (name_defined x (names_of x ∙ h)) ∙ same x o ∙ sym (own_value x h))
        (made.3, (w, w_below, ap (λ i. state_of (i (NextWord ∷ []))) m, ap (λ i. is_true (i (Pending ∷ []))) m, made.4 (word_name Next d) next_defined ∙ next_word), made.2)
