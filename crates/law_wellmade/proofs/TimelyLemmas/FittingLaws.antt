-- In each reaction of a node of an accepted program its flat equations fit.
use Rattle.std.proofs.Common.{◌≡◌, ℕ, List, [], ◌∷◌, ◌++◌, reverse, refl, sym, ap, subst, ◌∙◌}
use Rattle.std.specs.Prelude.{Bool, true, false, ◌||◌, if◌then◌else◌, IsTrue, IsFalse, Option, None, Some}
use Rattle.std.specs.List.{AllByRecursion}
use Rattle.std.specs.Str.{bytes_eq}
use Rattle.std.proofs.lemmas.Slice.Eq.{bytes_eq-Decides}
use Rattle.std.proofs.lemmas.List.{append_assoc}
use Rattle.hp_base.specs.Kinds.{KindData, AreOfKinds}
use Rattle.hp_base.specs.declared.value.Value.{Value}
use Rattle.hp_base.specs.declared.value.Value.TheVariants.{Absent}
use Rattle.hp_obc.specs.Steps.{Names as TakenBy}
use Rattle.hp_tree.specs.declared.program.Item.{Item}
use Rattle.hp_tree.specs.declared.program.Item.TheVariants.{TypeItem, NodeItem}
use Rattle.hp_tree.specs.Programs.{TypeDecl, Node}
use Rattle.hp_tree.specs.Operators.{filled}
use Rattle.hp_tree.specs.Values.{AreOf}
use Rattle.hp_tree.specs.Instant.{Place, Instant, Past, Given}
use Rattle.hp_tree.specs.Meaning.{Nodes, nodes, node, meaning, types_of, node_among}
use Rattle.hp_tree.specs.Reaction.{Each}
use Rattle.hp_meaning.specs.Causal.Causality.{Ranked, IsRanked}
use Rattle.hp_meaning.specs.Causal.OneReaction.{ReactionOf}
use Rattle.hp_meaning.specs.Causal.Runs.{NoControls}
use Rattle.hp_meaning.proofs.CausalLemmas.Unique.{ranked_reverse}
use Rattle.hp_flat.specs.Nodes.{FlatNode}
use Rattle.law_equations.specs.Meaning.Reactions.{Answers}
use Rattle.law_equations.specs.Flattened.Flat.{Flat, Row, Now, Behaviours, FlatMeets, FlatReaction}
use Rattle.law_equations.specs.Flattened.Flatten.{FlatName, At, Nowhere, When, Prefix, flatten}
use Rattle.law_equations.specs.Flattened.Timely.{Along, Timely}
use Rattle.law_equations.specs.Flattened.Lifted.{Reacts, lifts, all_inputs, GivesInputs, IsFill, AllFilled, in_body, NodeTimely}
use Rattle.law_equations.specs.Flattened.Behaves.{IsFine}
use Rattle.law_equations.specs.Flattened.Numbered.{AreTold, IsTolds, does_of}
use Rattle.law_equations.proofs.FlattenedLemmas.FlatteningLaw.{flattens}
use Rattle.law_equations.proofs.FlattenedLemmas.NodeLaws.{stands_tail}
use Rattle.law_values.specs.Valued.Classed.{seen_in_node}
use Rattle.law_values.specs.Valued.Given.{reading, NodeGiven}
use Rattle.law_values.specs.Valued.Values.{scope_behind, either_of, Classing, class_here, class_behind, NodeAccepted, AreAccepted, InstantFits, GivenFits}
use Rattle.law_values.proofs.ValuedLemmas.Both.{NodeOk}
use Rattle.law_values.proofs.ValuedLemmas.ExprTops.{Callees}
use Rattle.law_values.proofs.ValuedLemmas.Joined.{node_ok}
use Rattle.law_values.proofs.ValuedLemmas.Programs.{callees}
use Rattle.law_equations.specs.Answered.Answering.{given_each, filled_nodes, Answering, has_node, AreApart, IsCalled}
use Rattle.law_equations.specs.Answered.Fitting.{FlatFits}
use Rattle.law_equations.specs.Answered.Laws.{IsFlat, IsFitting}
use Rattle.law_equations.proofs.AnsweredLemmas.AnswerLaws.{some_answers, behave, instant_here, others_unnamed, unnamed}
use Rattle.law_equations.proofs.AnsweredLemmas.NodeAnswerLaws.{block_so, none_later, none_here}
use Rattle.law_wellmade.specs.Timely.Kinds.{kinds_of_decls, takes_among}
use Rattle.law_equations.specs.Made.Keeping.{IsKept}
use Rattle.law_wellmade.specs.Timely.Kept.{IsRemembered, BlockBegins}
use Rattle.law_wellmade.specs.Timely.Tested.{ConstructorsDiffer, NodeTested, AreTested}
use Rattle.law_wellmade.specs.Timely.Laws.{FillsFit, FittingLaw}
use Rattle.law_wellmade.proofs.TimelyLemmas.Actual.{first}
use Rattle.law_wellmade.proofs.TimelyLemmas.KindLaws.{are_of}
use Rattle.law_wellmade.proofs.TimelyLemmas.NodesTimely.{each_moment, plan, node_timely, node_outputs}
use Rattle.law_wellmade.proofs.TimelyLemmas.NodeRows.{name_rows}
use Rattle.law_wellmade.proofs.TimelyLemmas.Rows.{OptFits}

-- ---- a node among the items of a program

pub record Accepted (types : List TypeDecl) (n : Node) (earlier : List Item) : Type 0 where
  pub class : Classing
  pub node : NodeAccepted types (node_among earlier) (scope_behind earlier) (class_here class) n
  pub others : AreAccepted types (class_behind class) earlier

accepted_at : (types : List TypeDecl) (later : List Item) (n : Node) (earlier : List Item) (class : Classing) → AreAccepted types class (later ++ NodeItem n ∷ earlier) → Accepted types n earlier
accepted_at types [] n earlier class ok = record { class = class; node = ok.0; others = ok.1 }
accepted_at types (TypeItem t ∷ later) n earlier class ok = accepted_at types later n earlier class ok
accepted_at types (NodeItem m ∷ later) n earlier class ok = accepted_at types later n earlier (class_behind class) ok.1

tested_at : (types : List TypeDecl) (later : List Item) (n : Node) (earlier : List Item) → AreTested types (later ++ NodeItem n ∷ earlier) → NodeTested types (scope_behind earlier) n
tested_at types [] n earlier h = h.0
tested_at types (TypeItem t ∷ later) n earlier h = tested_at types later n earlier h
tested_at types (NodeItem m ∷ later) n earlier h = tested_at types later n earlier h.1

ranked_at : (later : List Item) (n : Node) (earlier : List Item) → IsRanked (later ++ NodeItem n ∷ earlier) → Ranked n × IsRanked earlier
ranked_at [] n earlier h = h
ranked_at (TypeItem t ∷ later) n earlier h = ranked_at later n earlier h
ranked_at (NodeItem m ∷ later) n earlier h = ranked_at later n earlier h.1

first_unnamed : (c d : Bool) → IsFalse (c || d) → IsFalse c
first_unnamed true d h = absurd (cc)
first_unnamed false d h = refl

given_at : (types : List TypeDecl) (later : List Item) (n : Node) (earlier : List Item) (free : Instant) → IsFalse (has_node later n.name) → GivenFits types false first (later ++ NodeItem n ∷ earlier) n.name free → NodeGiven types false first (GivenFits types false first earlier) (scope_behind earlier) n free
given_at types [] n earlier free f h = by (bytes_eq n.name n.name) ((bytes_eq-Decides n.name n.name).1 refl) h
  where
    by : (d : Bool) → IsTrue d → either_of d (NodeGiven types false first (GivenFits types false first earlier) (scope_behind earlier) n free) (GivenFits types false first earlier n.name free) → NodeGiven types false first (GivenFits types false first earlier) (scope_behind earlier) n free
    by true e h = h
    by false e h = absurd (cc)
given_at types (TypeItem t ∷ later) n earlier free f h = given_at types later n earlier free f h
given_at types (NodeItem m ∷ later) n earlier free f h =
    given_at types later n earlier free (others_unnamed (bytes_eq m.name n.name) (has_node later n.name) f)
    (by (bytes_eq m.name n.name) (first_unnamed (bytes_eq m.name n.name) (has_node later n.name) f) h)
  where
    by : (d : Bool) → IsFalse d → either_of d (NodeGiven types false first (GivenFits types false first (later ++ NodeItem n ∷ earlier)) (scope_behind (later ++ NodeItem n ∷ earlier)) m free) (GivenFits types false first (later ++ NodeItem n ∷ earlier) n.name free) → GivenFits types false first (later ++ NodeItem n ∷ earlier) n.name free
    by true e h = absurd (cc)
    by false e h = h

among_behind : (later xs : List Item) (f : List ℕ) → IsFalse (has_node later f) → node_among (later ++ xs) f ≡ node_among xs f
among_behind [] xs f h = refl
among_behind (TypeItem t ∷ later) xs f h = among_behind later xs f h
among_behind (NodeItem m ∷ later) xs f h = unnamed (bytes_eq m.name f) (has_node later f) (Some m) (node_among (later ++ xs) f) h ∙ among_behind later xs f (others_unnamed (bytes_eq m.name f) (has_node later f) h)

has_among : (items : List Item) (f : List ℕ) (m : Node) → node_among items f ≡ Some m → IsTrue (has_node items f)
has_among [] f m e = absurd (cc)
has_among (TypeItem t ∷ items) f m e = has_among items f m e
has_among (NodeItem n ∷ items) f m e = by (bytes_eq n.name f) e (λ g. has_among items f m g)
  where
    by : (b : Bool) → (if b then Some n else node_among items f) ≡ Some m → (node_among items f ≡ Some m → IsTrue (has_node items f)) → IsTrue (b || has_node items f)
    by true e g = refl
    by false e g = g e

-- ---- along instants

same_reacts : (f g : List Value → Given → Instant → Instant) → ((vs : List Value) (given : Given) (now : Instant) → f vs given now ≡ g vs given now) → (inputs : List (List Value)) (frees : List Instant) (past : Past) → ReactionOf f inputs frees past → Reacts g inputs frees past
same_reacts f g same [] [] [] h = tt
same_reacts f g same [] [] (i ∷ past) h = absurd h
same_reacts f g same [] (free ∷ frees) past h = absurd h
same_reacts f g same (vs ∷ inputs) [] past h = absurd h
same_reacts f g same (vs ∷ inputs) (free ∷ frees) [] h = absurd h
same_reacts f g same (vs ∷ inputs) (free ∷ frees) (now ∷ past) h =
    (same_reacts f g same inputs frees past h.0, λ p. h.1 p ∙ ap (λ (i : Instant). i p) (same vs (record { past = past; free = free }) now))

all_filled : (fill : Instant) (inputs : List (List Value)) → AllFilled fill (given_each fill inputs)
all_filled fill [] = tt
all_filled fill (vs ∷ inputs) = ((λ p h. refl), all_filled fill inputs)

all_given : (P : Instant → Type 0) (fill : Instant) (inputs : List (List Value)) → P fill → Each P (given_each fill inputs)
all_given P fill [] h = tt
all_given P fill (vs ∷ inputs) h = (h, all_given P fill inputs h)

all_of : (types : List TypeDecl) (n : Node) (ks : List KindData) (inputs : List (List Value)) → ConstructorsDiffer types → ks ≡ kinds_of_decls types n.inputs → AllByRecursion (AreOfKinds ks) inputs → Each (AreOf types n.inputs) inputs
all_of types n ks [] d e h = tt
all_of types n ks (vs ∷ inputs) d e h = (are_of types n.inputs vs d (subst (λ z. AreOfKinds z vs) e h.0), all_of types n ks inputs d e h.1)

meets_along : {X : Type 0} (does : Behaviours) (flat : Flat FlatName) (Gives : X → Now FlatName → Type 0) (inputs : List X) (L : List (Now FlatName)) → FlatReaction does flat Gives inputs L → Along (λ G i. FlatMeets does flat G i) L
meets_along does flat Gives [] [] h = tt
meets_along does flat Gives [] (i ∷ G) h = absurd h
meets_along does flat Gives (x ∷ inputs) [] h = absurd h
meets_along does flat Gives (x ∷ inputs) (i ∷ G) h = (h.2, meets_along does flat Gives inputs G h.0)

timely_along : (clocks : Place → Option When) (here : Prefix) (L : List (Now FlatName)) → Timely clocks here L → Along (λ G i. Timely clocks here (i ∷ G)) L
timely_along clocks here [] h = tt
timely_along clocks here (i ∷ G) h = (h, timely_along clocks here G (λ p. stands_tail (clocks p) (At (here p)) i G (h p)))

with_all : (P Q R T : List (Now FlatName) → Now FlatName → Type 0) → ((G : List (Now FlatName)) (i : Now FlatName) → P G i → Q G i → R G i → T G i) → (L : List (Now FlatName)) → Along P L → Along Q L → Along R L → Along T L
with_all P Q R T f [] p q r = tt
with_all P Q R T f (i ∷ G) p q r = (f G i p.0 q.0 r.0, with_all P Q R T f G p.1 q.1 r.1)

along_so : (P Q : List (Now FlatName) → Now FlatName → Type 0) → ((G : List (Now FlatName)) (i : Now FlatName) → P G i → Q G i) → (L : List (Now FlatName)) → Along P L → Along Q L
along_so P Q f [] p = tt
along_so P Q f (i ∷ G) p = (f G i p.0, along_so P Q f G p.1)

told_of : (takes : TakenBy (List KindData)) (i : Now FlatName) (o : Option (List (Row FlatName))) (a : FlatName) → OptFits takes i o a → AreTold o i
told_of takes i None a h = tt
told_of takes i (Some rows) a h = (h.told, h.apart)

-- ---- the law

module _ (program : List Item) (class : Classing) (fills : List ℕ → Place → Value) (later earlier : List Item) (n : Node) (means : ℕ → FlatName) (flat : FlatNode)
    (ok : AreAccepted (types_of program) class (reverse program)) (ranked : IsRanked program) (none : NoControls program) (apart : AreApart (reverse program)) (fit : FillsFit program fills)
    (distinct : ConstructorsDiffer (types_of program)) (are_tested : AreTested (types_of program) (reverse program))
    (is : IsFlat program fills later earlier n means flat) (kept : (x : ℕ) → IsKept (IsRemembered (types_of program) (fills n.name) n) (means x)) (begins : BlockBegins (fills n.name) n.body in_body) where
  abbrev types : List TypeDecl
  types = types_of program

  abbrev N : Nodes
  N = nodes types filled earlier

  abbrev fill : Instant
  fill = fills n.name

  abbrev takes : TakenBy (List KindData)
  takes = takes_among types (reverse program)

  apart_here : AreApart (later ++ NodeItem n ∷ earlier)
  apart_here = subst AreApart is.stands apart

  unnamed_later : IsFalse (has_node later n.name)
  unnamed_later = none_here later earlier n apart_here

  itself : bytes_eq n.name n.name ≡ true
  itself = (bytes_eq-Decides n.name n.name).1 refl

  accepted : Accepted types n earlier
  accepted = accepted_at types later n earlier class (subst (AreAccepted types class) is.stands ok)

  ranks : Ranked n × IsRanked earlier
  ranks = ranked_at later n earlier (subst IsRanked is.stands (ranked_reverse program ranked))

  split : reverse program ≡ (later ++ NodeItem n ∷ []) ++ earlier
  split = is.stands ∙ sym (append_assoc later (NodeItem n ∷ []) earlier)

  takes_is : (f : List ℕ) (m : Node) → node_among earlier f ≡ Some m → takes f ≡ kinds_of_decls types m.inputs
  takes_is f m e =
      let unnamed_before = none_later (later ++ NodeItem n ∷ []) earlier f (subst AreApart split apart) (has_among earlier f m e) in
      let found : node_among (reverse program) f ≡ Some m = ap (λ (xs : List Item). node_among xs f) split ∙ among_behind (later ++ NodeItem n ∷ []) earlier f unnamed_before ∙ e in
      told (node_among (reverse program) f) m found
    where
      told : (o : Option Node) (m : Node) → o ≡ Some m → (elim o [ None ↦ [] | Some k ↦ kinds_of_decls types k.inputs ]) ≡ kinds_of_decls types m.inputs
      told None m e = absurd (cc)
      told (Some k) m e = let same : k ≡ m = cc in ap (λ (z : Node). kinds_of_decls types z.inputs) same

  takes_here : takes n.name ≡ kinds_of_decls types n.inputs
  takes_here =
      told (node_among (reverse program) n.name)
      (ap (λ (xs : List Item). node_among xs n.name) is.stands ∙ among_behind later (NodeItem n ∷ earlier) n.name unnamed_later ∙ ap (λ (c : Bool). if c then Some n else node_among earlier n.name) itself)
    where
      told : (o : Option Node) → o ≡ Some n → (elim o [ None ↦ [] | Some k ↦ kinds_of_decls types k.inputs ]) ≡ kinds_of_decls types n.inputs
      told None e = absurd (cc)
      told (Some k) e = let same : k ≡ n = cc in ap (λ (z : Node). kinds_of_decls types z.inputs) same

  known : Callees types false (reading first) N (node_among earlier) (InstantFits types false (class_behind accepted.class) earlier) (GivenFits types false first earlier)
  known = callees types false first (class_behind accepted.class) earlier accepted.others ranks.1

  node_is_ok : NodeOk types (node_among earlier) (scope_behind earlier) (seen_in_node (class_here accepted.class) n) n
  node_is_ok = node_ok types (node_among earlier) n (scope_behind earlier) (class_here accepted.class) accepted.node.sound accepted.node.classes

  given_here : NodeGiven types false first (GivenFits types false first earlier) (scope_behind earlier) n fill
  given_here = given_at types later n earlier fill unnamed_later (subst (λ (xs : List Item). GivenFits types false first xs n.name fill) is.stands (fit n.name))

  module _ (answers : Answers) (answer : Answering program fills answers) where
    instant_is : (vs : List Value) (given : Given) (now : Instant) → (filled_nodes program).instant n.name vs given now ≡ node types filled N n vs given now
    instant_is vs given now =
        instant_here program fills answers ranked none answer later (NodeItem n ∷ earlier) is.stands n.name unnamed_later vs given now
        ∙ ap (λ (c : Bool). if c then node types filled N n vs given now else N.instant n.name vs given now) itself

    fine : (f : List ℕ) (here : Prefix) → IsCalled earlier fills fill f here → IsFine N (does_of answers) (λ f. IsFill (fills f)) (IsFill fill) f here
    fine f here c =
        let unnamed_before = none_later (later ++ NodeItem n ∷ []) earlier f (subst AreApart split apart) c.declared in (
          behave program fills answers ranked none answer (later ++ NodeItem n ∷ []) earlier split f c.declared unnamed_before,
          λ free mine p u. let g = c.given_there p u in mine (here p) g.0 ∙ g.1,
        )

    fits : (inputs : List (List Value)) (past : Past) → AllByRecursion (AreOfKinds (takes n.name)) inputs → ReactionOf (meaning filled program n.name) inputs (given_each fill inputs) past → IsFitting program fills earlier n means takes inputs past
    fits inputs past kinds reaction =
        let frees = given_each fill inputs in
        let L = lifts n inputs frees past in
        let does = does_of answers in
        let flat_is = flatten types N.outputs fill n in
        let fitting = InstantFits types false (class_behind accepted.class) earlier in
        let allowed = GivenFits types false first earlier in
        let s = scope_behind earlier in
        let c = seen_in_node (class_here accepted.class) n in
        let right = accepted.node.clocks in
        let low = accepted.node.plain in
        let lowc = accepted.node.plain_contract in
        let reacts = same_reacts (meaning filled program n.name) (node types filled N n) instant_is inputs frees past reaction in
        let vf = all_of types n (takes n.name) inputs distinct takes_here kinds in
        let gv = all_given (NodeGiven types false first allowed s n) fill inputs given_here in
        let timely : NodeTimely types N.outputs n L = node_timely types N (node_among earlier) fitting allowed known does fill s c n ranks.0 right low lowc node_is_ok is.lowered inputs frees past reacts vf gv in
        let meets =
        meets_along does flat_is GivesInputs (all_inputs n inputs frees) L
        (flattens types N does fills fill n inputs frees past is.lowered
        (block_so (IsCalled earlier fills fill) (IsFine N does (λ f. IsFill (fills f)) (IsFill fill)) fine n.body in_body is.calls) reacts (all_filled fill inputs) timely) in
        let whole = plan types N (node_among earlier) fitting allowed known does fill s c n ranks.0 right low lowc node_is_ok in
        let Rows : List (Now FlatName) → Now FlatName → Type 0 = λ G i. (i Nowhere ≡ Absent) × ((x : ℕ) → OptFits takes i (flat_is (means x)) (means x)) in
        let rows : Along Rows L =
        with_all (λ G i. (Timely whole in_body (i ∷ G) → FlatMeets does flat_is G i → Rows G i)) (λ G i. Timely whole in_body (i ∷ G)) (λ G i. FlatMeets does flat_is G i) Rows
        (λ G i f b m. f b m) L
        (each_moment types N (node_among earlier) fitting allowed known does fill s c n ranks.0 right low lowc node_is_ok
        (λ G i. (Timely whole in_body (i ∷ G) → FlatMeets does flat_is G i → Rows G i))
        (λ vs free now inputs frees past k b m.
        (refl, λ x. name_rows types distinct N (node_among earlier) fitting allowed known does fill takes takes_is s c n ranks.0 right low lowc node_is_ok is.lowered (tested_at types later n earlier (subst (AreTested types) is.stands are_tested)) begins vs free now inputs frees past k b m (means x) (kept x)))
        inputs frees past reacts vf gv).1
        (timely_along whole in_body L timely) meets in
        record {
          there = record {
            timely = timely;
            told = along_so Rows (λ G i. IsTolds means flat_is i) (λ G i h. record { rows = λ x. told_of takes i (flat_is (means x)) (means x) (h.1 x); nowhere = h.0 }) L rows;
          };
          fits = along_so Rows (λ G i. FlatFits takes means flat_is i) (λ G i h x rows e. (subst (λ o. OptFits takes i o (means x)) e (h.1 x)).fits) L rows;
          outputs = node_outputs types N (node_among earlier) fitting allowed known does fill s c n ranks.0 right low lowc node_is_ok inputs frees past reacts vf gv;
        }

pub fitting : FittingLaw
fitting program class fills later earlier n means flat ok ranked none apart fit distinct are_tested is kept begins inputs past kinds reaction =
    let a = some_answers program fills ranked in
    fits program class fills later earlier n means flat ok ranked none apart fit distinct are_tested is kept begins a.0 a.1 inputs past kinds reaction
