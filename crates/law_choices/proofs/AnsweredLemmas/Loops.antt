-- The plants of closed nodes in turn answer under the choices of these.
use Rattle.std.proofs.Common.{◌≡◌, ℕ, zero, suc, ◌<◌, Bool, true, false, ◌||◌, if◌then◌else◌, List, [], ◌∷◌, length, map, refl, sym, ap, subst, ◌∙◌, arith}
use Rattle.std.specs.Prelude.{slice_index_or}
use Rattle.std.specs.List.{AllByRecursion, Contains, range_with_len}
use Rattle.std.specs.Str.{bytes_eq}
use Rattle.std.proofs.lemmas.Slice.Eq.{bytes_eq-Decides}
use Rattle.hp_base.specs.Kinds.{KindData, AreOfKinds}
use Rattle.hp_base.specs.declared.value.Value.{Value}
use Rattle.hp_obc.specs.Form.{has_name}
use Rattle.hp_obc.specs.Machines.{ObcType}
use Rattle.hp_obc.specs.Steps.{Names}
use Rattle.hp_flat.specs.Nodes.{FlatNode}
use Rattle.law_equations.specs.Meaning.Instants.{Instant}
use Rattle.law_equations.specs.Meaning.Kinding.{Callees, IsWellMade, IsPossible, AnswersOfKinds, kinds_at, OneReaction, OneReactionLaw}
use Rattle.law_equations.specs.Meaning.Reactions.{Answers, Reaction, inputs_of}
use Rattle.law_equations.specs.Followed.Programs.{Answered}
use Rattle.law_equations.specs.Shaped.Shaped.{IsHeaded}
use Rattle.law_choices.specs.OnClocks.Meaning as plain
use Rattle.law_choices.specs.OnClocks.Meaning.{HasSome, HasOneMeaning}
use Rattle.law_choices.specs.Choosing.Choices.{Choice, Choices, IsSteered}
use Rattle.law_choices.specs.Choosing.Meaning.{AreInTurn, GivesAnswers}
use Rattle.law_choices.specs.Answered.Loops.{Loop, IsLoop, IsItsChoice, plants, HaveClosed, AreClosed, AreTheirChoices, LoopsLaw}
use Rattle.law_choices.proofs.OnClocksLemmas.Clamped.{all_clamped, all_clamped_are, each_clamped_are, each_clamped_stay}
use Rattle.law_choices.proofs.OnClocksLemmas.Meanings.{kinds_some}
use Rattle.law_choices.proofs.AnsweredLemmas.OneLoop.{loop_law}
use Rattle.law_choices.proofs.AnsweredLemmas.LoopKinds.{same_kinds, values_of_kinds}

-- ---- lists

found_at : (P : FlatNode → Type 0) (n : FlatNode) (ns : List FlatNode) (k : ℕ) → AllByRecursion P ns → k < length ns → slice_index_or ns k n ≡ n → P n
found_at P n [] k h l e = absurd (omega (arith, l))
found_at P n (m ∷ ns) zero h l e = subst P e h.0
found_at P n (m ∷ ns) (suc k) h l e = found_at P n ns k h.1 (omega (arith, l)) e

-- what is so of all nodes is so of one of them
of_one : (P : FlatNode → Type 0) (n : FlatNode) (ns : List FlatNode) → AllByRecursion P ns → Contains ns n → P n
of_one P n ns h c = found_at P n ns c.0 h c.1 c.2

true_right : (b : Bool) → (b || true) ≡ true
true_right true = refl
true_right false = refl

is_same : (x : List ℕ) → bytes_eq x x ≡ true
is_same x = (bytes_eq-Decides x x).1 refl

-- ---- what is known of a closed node

pub record IsKnown (types : List ObcType) (all : Callees) (answers : Answers) (n : FlatNode) : Type 0 where
  pub well : IsWellMade types all n
  pub headed : IsHeaded types all n
  pub gives : plain.GivesAnswers answers all.takes n

known : (types : List ObcType) (all : Callees) (answers : Answers) (names : List (List ℕ)) (ns : List FlatNode) → plain.AreInTurn types all names ns → AllByRecursion (Answered answers all.takes) ns → AllByRecursion (IsKnown types all answers) ns
known types all answers names [] p h = tt
known types all answers names (n ∷ ns) p h = (
  record {
    well = p.0;
    headed = p.1;
    gives = λ args earlier k g. let y = h.0 args earlier k g in record { now = y.now; past = y.past; reaction = y.reaction; answer = y.answer };
  },
  known types all answers (n.name ∷ names) ns p.4 h.1,
)

-- ---- its choice

module _ (one_law : OneReactionLaw) (types : List ObcType) (all : Callees) (answers : Answers) (typed : AnswersOfKinds answers all) (controls : ℕ) (l : Loop) (loop : IsLoop controls l) (known : IsKnown types all answers l.closed) where
  abbrev taken : List KindData
  taken = kinds_at types l.closed (inputs_of l.closed)

  taken_some : AllByRecursion HasSome taken
  taken_some = let well = known.well in kinds_some types l.closed (inputs_of l.closed) well.values

  -- the one reaction over inputs that are made to be of their kinds
  abbrev its_reaction : (args : List Value) (earlier : List (List Value)) → OneReaction types all answers l.closed (map (all_clamped taken) (args ∷ earlier))
  its_reaction args earlier = one_law types all answers l.closed known.well typed (map (all_clamped taken) (args ∷ earlier)) (each_clamped_are taken (args ∷ earlier) taken_some)

  abbrev newest_controls : List Instant → List Value
  newest_controls [] = []
  newest_controls (now ∷ past) = map now (range_with_len l.closed.inputs controls)

  abbrev own : Choice
  own args earlier = newest_controls (its_reaction args earlier).instants

  newest_typed : (row : List Value) (rows : List (List Value)) (instants : List Instant) → Reaction answers l.closed (row ∷ rows) instants → AllByRecursion (IsPossible types l.closed) instants
      → AreOfKinds (kinds_at types l.closed (range_with_len l.closed.inputs controls)) (newest_controls instants)
  newest_typed row rows [] r p = absurd r
  newest_typed row rows (now ∷ past) r p = values_of_kinds types controls l loop now p.0 (range_with_len l.closed.inputs controls) (loop.defined now)

  own_typed : (args : List Value) (earlier : List (List Value)) → AreOfKinds (kinds_at types l.closed (range_with_len l.closed.inputs controls)) (own args earlier)
  own_typed args earlier =
      let it = its_reaction args earlier in
      newest_typed (all_clamped taken args) (map (all_clamped taken) earlier) it.instants it.reaction it.possible

  own_its : IsItsChoice answers taken controls l.closed own
  own_its args earlier k g now past r =
      let it = its_reaction args earlier in
      ap newest_controls (sym (it.only (now ∷ past) (subst (λ rows. Reaction answers l.closed rows (now ∷ past)) (sym (each_clamped_stay taken (args ∷ earlier) (k, g))) r)))

-- ---- the choices of all

module _ (takes controls : Names (List KindData)) (answers : Answers) where
  -- of one closed node: values of the kinds, whatever the inputs are
  pub record HasChoice (l : Loop) : Type 0 where
    pub choice : Choice
    pub typed : (args : List Value) (earlier : List (List Value)) → AreOfKinds (controls l.plant.name) (choice args earlier)
    pub its : IsItsChoice answers (takes l.plant.name) (length (controls l.plant.name)) l.closed choice

  pub record HaveChoices (ls : List Loop) : Type 0 where
    pub choices : Choices
    pub typed : (f : List ℕ) (args : List Value) (earlier : List (List Value)) → AreOfKinds (controls f) (choices f args earlier)
    pub theirs : AreTheirChoices answers takes controls choices ls

  no_choices : ((f : List ℕ) → AllByRecursion HasSome (controls f)) → HaveChoices []
  no_choices some = record { choices = λ f args earlier. all_clamped (controls f) []; typed = λ f args earlier. all_clamped_are (controls f) [] (some f); theirs = tt }

  module _ (l : Loop) (h : HasChoice l) where
    abbrev with_its : Choices → Choices
    with_its rest f args earlier = if bytes_eq l.plant.name f then h.choice args earlier else rest f args earlier

    with_typed : (rest : Choices) → ((f : List ℕ) (args : List Value) (earlier : List (List Value)) → AreOfKinds (controls f) (rest f args earlier)) → (f : List ℕ) (args : List Value) (earlier : List (List Value)) → AreOfKinds (controls f) (with_its rest f args earlier)
    with_typed rest typed f args earlier = by (bytes_eq l.plant.name f) refl
      where
        by : (b : Bool) → bytes_eq l.plant.name f ≡ b → AreOfKinds (controls f) (if b then h.choice args earlier else rest f args earlier)
        by true e = subst (λ z. AreOfKinds (controls z) (h.choice args earlier)) ((bytes_eq-Decides l.plant.name f).0 e) (h.typed args earlier)
        by false e = typed f args earlier

    with_others : (rest : Choices) (ls : List Loop) → AllByRecursion (λ (m : Loop). bytes_eq l.plant.name m.plant.name ≡ false) ls → AreTheirChoices answers takes controls rest ls → AreTheirChoices answers takes controls (with_its rest) ls
    with_others rest [] apart t = tt
    with_others rest (m ∷ ls) apart t = (
      λ args earlier k g now past r. ap (λ b. if b then h.choice args earlier else rest m.plant.name args earlier) apart.0 ∙ t.0 args earlier k g now past r,
      with_others rest ls apart.1 t.1,
    )

    with_choice : (ls : List Loop) → AllByRecursion (λ (m : Loop). bytes_eq l.plant.name m.plant.name ≡ false) ls → HaveChoices ls → HaveChoices (l ∷ ls)
    with_choice ls apart c = record {
      choices = with_its c.choices;
      typed = with_typed c.choices c.typed;
      theirs = (
        λ args earlier k g now past r. ap (λ b. if b then h.choice args earlier else c.choices l.plant.name args earlier) (is_same l.plant.name) ∙ h.its args earlier k g now past r,
        with_others c.choices ls apart c.theirs,
      );
    }

module _ (types : List ObcType) (callees : Callees) (controls : Names (List KindData)) where
  -- nodes in turn have other names than those before them
  names_apart : (x : List ℕ) (names : List (List ℕ)) (ls : List Loop) → has_name names x ≡ true → AreInTurn types callees controls names (plants ls) → AllByRecursion (λ (m : Loop). bytes_eq x m.plant.name ≡ false) ls
  names_apart x names [] h p = tt
  names_apart x names (m ∷ ls) h p =
      (by (bytes_eq x m.plant.name) refl, names_apart x (m.plant.name ∷ names) ls (ap (λ b. bytes_eq m.plant.name x || b) h ∙ true_right (bytes_eq m.plant.name x)) p.4)
    where
      by : (b : Bool) → bytes_eq x m.plant.name ≡ b → b ≡ false
      by true e = sym h ∙ ap (has_name names) ((bytes_eq-Decides x m.plant.name).0 e) ∙ p.2
      by false e = refl

  all_choices : (answers : Answers) → ((f : List ℕ) → AllByRecursion HasSome (controls f)) → (names : List (List ℕ)) (ls : List Loop) → AreInTurn types callees controls names (plants ls) → AllByRecursion (HasChoice callees.takes controls answers) ls
      → HaveChoices callees.takes controls answers ls
  all_choices answers some names [] p h = no_choices callees.takes controls answers some
  all_choices answers some names (l ∷ ls) p h =
      with_choice callees.takes controls answers l h.0 ls (names_apart l.plant.name (l.plant.name ∷ names) ls (ap (λ b. b || has_name names l.plant.name) (is_same l.plant.name)) p.4) (all_choices answers some (l.plant.name ∷ names) ls p.4 h.1)

-- ---- nodes in turn

module _ (one_law : OneReactionLaw) (types : List ObcType) (callees all : Callees) (controls : Names (List KindData)) (answers : Answers) (typed : AnswersOfKinds answers all) where
  one_choice : (l : Loop) → IsLoop (length (controls l.plant.name)) l → IsSteered types callees controls l.plant → IsKnown types all answers l.closed → HasChoice callees.takes controls answers l
  one_choice l loop steered known =
      let count = length (controls l.plant.name) in
      let same = same_kinds types callees controls l loop steered in
      record {
        choice = own one_law types all answers typed count l loop known;
        typed = λ args earlier. subst (λ ks. AreOfKinds ks (own one_law types all answers typed count l loop known args earlier)) (sym same.controls) (own_typed one_law types all answers typed count l loop known args earlier);
        its = subst (λ ks. IsItsChoice answers ks count l.closed (own one_law types all answers typed count l loop known)) (sym same.takes) (own_its one_law types all answers typed count l loop known);
      }

  each_choice : (names : List (List ℕ)) (ls : List Loop) → AreInTurn types callees controls names (plants ls) → AreClosed answers controls ls → AllByRecursion (λ (l : Loop). IsKnown types all answers l.closed) ls
      → AllByRecursion (HasChoice callees.takes controls answers) ls
  each_choice names [] p c k = tt
  each_choice names (l ∷ ls) p c k = (one_choice l c.0.loop p.1 k.0, each_choice (l.plant.name ∷ names) ls p.4 c.1 k.1)

  each_gives : (choices : Choices) (names : List (List ℕ)) (ls : List Loop) → AreInTurn types callees controls names (plants ls) → AreClosed answers controls ls → AllByRecursion (λ (l : Loop). IsKnown types all answers l.closed) ls
      → AreTheirChoices answers callees.takes controls choices ls → AllByRecursion (GivesAnswers choices answers callees.takes) (plants ls)
  each_gives choices names [] p c k t = tt
  each_gives choices names (l ∷ ls) p c k t =
      let closed = c.0 in
      let loop = closed.loop in
      let here = k.0 in
      let headed = here.headed in
      let same = same_kinds types callees controls l loop p.1 in
      let taken : all.takes l.closed.name ≡ callees.takes l.closed.name = headed.takes ∙ sym same.takes ∙ ap callees.takes (sym loop.name) in
      let gives : plain.GivesAnswers answers callees.takes l.closed =
      subst (λ ks. (args : List Value) (earlier : List (List Value)) → AreOfKinds ks args → AllByRecursion (AreOfKinds ks) earlier → plain.GivesAnswer answers l.closed args earlier) taken here.gives in
      (loop_law answers callees.takes choices (length (controls l.plant.name)) l closed t.0 gives, each_gives choices (l.plant.name ∷ names) ls p.4 c.1 k.1 t.1)

each_known : (types : List ObcType) (all : Callees) (answers : Answers) (ns : List FlatNode) → AllByRecursion (IsKnown types all answers) ns → (ls : List Loop) → HaveClosed ns ls → AllByRecursion (λ (l : Loop). IsKnown types all answers l.closed) ls
each_known types all answers ns h [] there = tt
each_known types all answers ns h (l ∷ ls) there = (of_one (IsKnown types all answers) l.closed ns h there.0, each_known types all answers ns h ls there.1)

pub loops_law : OneReactionLaw → LoopsLaw
loops_law one_law types callees all controls ls ns turn some turned there one closed =
    let k = each_known types all one.answers ns (known types all one.answers [] ns turned one.answered) ls there in
    let c = all_choices types callees controls one.answers some [] ls turn (each_choice one_law types callees all controls one.answers one.typed [] ls turn closed k) in
    record {
      choices = c.choices;
      typed = c.typed;
      theirs = c.theirs;
      gives = each_gives one_law types callees all controls one.answers one.typed c.choices [] ls turn closed k c.theirs;
    }
