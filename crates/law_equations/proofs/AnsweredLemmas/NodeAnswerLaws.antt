-- A reaction of a node is one of the clocked equations that stand for its flat names, with the same answers.
use Rattle.std.proofs.Common.{◌≡◌, ℕ, List, [], ◌∷◌, ◌++◌, length, map, refl, sym, ap, ap₂, subst, ◌∙◌, arith}
use Rattle.std.specs.Prelude.{Bool, true, false, ◌||◌, IsTrue, IsFalse, if◌then◌else◌, reverse}
use Rattle.std.specs.Str.{bytes_eq}
use Rattle.std.proofs.lemmas.Slice.Eq.{bytes_eq-Decides}
use Rattle.std.proofs.lemmas.List.{append_assoc, length-map}
use Rattle.hp_base.specs.declared.value.Value.{Value}
use Rattle.hp_base.specs.declared.value.Value.TheVariants.{Absent}
use Rattle.hp_tree.specs.declared.program.Item.{Item}
use Rattle.hp_tree.specs.declared.program.Item.TheVariants.{TypeItem, NodeItem}
use Rattle.hp_tree.specs.Expressions.{Expr, constant, variable, last_of, one, two, choose, pre, fby, arrow, when_is, merge, call, Exprs, no_expr, more_exprs, Parts, no_part, more_parts}
use Rattle.hp_tree.specs.Blocks.{Decl, Block, block, Eqns, no_eqn, more_eqns, Eqn, define, switch, reset, automaton, Arms, no_arm, more_arms}
use Rattle.hp_tree.specs.Programs.{TypeDecl, Node}
use Rattle.hp_tree.specs.Operators.{filled}
use Rattle.hp_tree.specs.Reaction.{Each}
use Rattle.hp_tree.specs.Instant.{Named, Body, Equations, Head, Tail, Right as RightOf, Test, Arms as ArmsOf, First, Second, Third, Args, Instance, Controls, Place, Instant, Past, Given, part}
use Rattle.hp_tree.specs.Meaning.{Names, Nodes, declares, input_of, controls_of, types_of, names_of, node, nodes, meaning}
use Rattle.hp_meaning.specs.Causal.Causality.{IsRanked}
use Rattle.hp_meaning.specs.Causal.OneReaction.{ReactionOf}
use Rattle.hp_meaning.specs.Causal.Runs.{NoControls}
use Rattle.hp_meaning.proofs.CausalLemmas.Run.{none_reverse}
use Rattle.hp_flat.specs.Nodes.{FlatNode}
use Rattle.law_equations.specs.Meaning.Reactions.{Answers, Reaction}
use Rattle.law_equations.specs.Flattened.Flat.{Behaviours, Flat, Now, FlatReaction}
use Rattle.law_equations.specs.Flattened.Flatten.{FlatName, Input, At, Prefix, below, flatten}
use Rattle.law_equations.specs.Flattened.Lifted.{Reacts, IsFill, AllFilled, in_body, inputs_of, lifted, lifts, all_inputs, GivesInputs, NodeTimely, given_to}
use Rattle.law_equations.specs.Flattened.Behaves.{OutputsAre, IsFine, EachCall, EachCallOfAll, EachCallOfParts, EachCallIn, EachCallInAll, EachCallInOne, EachCallInArms}
use Rattle.law_equations.specs.Flattened.Numbered.{does_of, numbered, GivesValues}
use Rattle.law_equations.proofs.FlattenedLemmas.FlatteningLaw.{flattens}
use Rattle.law_equations.proofs.FlattenedLemmas.NumberLaws.{numbers}
use Rattle.law_equations.specs.Made.Blocks.{DeclaredOnce}
use Rattle.law_equations.specs.Answered.Answering.{given_each, filled_nodes, Answering, has_node, AreApart, IsCalled}
use Rattle.law_equations.specs.Made.Laws.{body_name}
use Rattle.law_equations.specs.Answered.Laws.{IsFlat, IsThere, GivesOutputs, NodeAnswersLaw}
use Rattle.law_equations.proofs.AnsweredLemmas.AnswerLaws.{behave, as_many, outputs_answered, outputs_here, instant_here}

-- ---- what holds of each call, for another property

module _ (P Q : List ℕ → Prefix → Type 0) (so : (f : List ℕ) (here : Prefix) → P f here → Q f here) where
  mutual
    calls_so : (e : Expr) (here : Prefix) → EachCall P e here → EachCall Q e here
    calls_so (constant s c) here h = tt
    calls_so (variable s x) here h = tt
    calls_so (last_of s x) here h = tt
    calls_so (one s o a) here h = calls_so a (below First here) h
    calls_so (two s o a b) here h = (calls_so a (below First here) h.0, calls_so b (below Second here) h.1)
    calls_so (choose s a b c) here h = (calls_so a (below First here) h.0, calls_so b (below Second here) h.1, calls_so c (below Third here) h.2)
    calls_so (pre s a) here h = calls_so a (below First here) h
    calls_so (fby s a b) here h = (calls_so a (below First here) h.0, calls_so b (below Second here) h.1)
    calls_so (arrow s a b) here h = (calls_so a (below First here) h.0, calls_so b (below Second here) h.1)
    calls_so (when_is s a c x) here h = calls_so a (below First here) h
    calls_so (merge s x ps) here h = parts_so ps (below Args here) h
    calls_so (call s f inlined es) here h = (so f (below Instance here) h.0, all_so es (below Args here) h.1)

    all_so : (es : Exprs) (here : Prefix) → EachCallOfAll P es here → EachCallOfAll Q es here
    all_so no_expr here h = tt
    all_so (more_exprs e es) here h = (calls_so e (below Head here) h.0, all_so es (below Tail here) h.1)

    parts_so : (ps : Parts) (here : Prefix) → EachCallOfParts P ps here → EachCallOfParts Q ps here
    parts_so no_part here h = tt
    parts_so (more_parts c e ps) here h = (calls_so e (below Head here) h.0, parts_so ps (below Tail here) h.1)

  mutual
    pub block_so : (b : Block) (here : Prefix) → EachCallIn P b here → EachCallIn Q b here
    block_so (block ds es) here h = eqns_so es (below Equations here) h

    eqns_so : (es : Eqns) (here : Prefix) → EachCallInAll P es here → EachCallInAll Q es here
    eqns_so no_eqn here h = tt
    eqns_so (more_eqns e es) here h = (eqn_so e (below Head here) h.0, eqns_so es (below Tail here) h.1)

    eqn_so : (e : Eqn) (here : Prefix) → EachCallInOne P e here → EachCallInOne Q e here
    eqn_so (define s ys e) here h = calls_so e (below RightOf here) h
    eqn_so (switch s e arms) here h = (calls_so e (below Test here) h.0, arms_so arms (below ArmsOf here) h.1)
    eqn_so (reset s b e) here h = (calls_so e (below Test here) h.0, block_so b (below Body here) h.1)
    eqn_so (automaton s ss) here h = tt

    arms_so : (arms : Arms) (here : Prefix) → EachCallInArms P arms here → EachCallInArms Q arms here
    arms_so no_arm here h = tt
    arms_so (more_arms c b s arms) here h = (block_so b (below Head here) h.0, arms_so arms (below Tail here) h.1)

-- ---- names of nodes

has_append : (later xs : List Item) (f : List ℕ) → IsTrue (has_node xs f) → IsTrue (has_node (later ++ xs) f)
has_append [] xs f h = h
has_append (TypeItem t ∷ later) xs f h = has_append later xs f h
has_append (NodeItem n ∷ later) xs f h = or_right (bytes_eq n.name f) (has_node (later ++ xs) f) (has_append later xs f h)
  where
    or_right : (c d : Bool) → IsTrue d → IsTrue (c || d)
    or_right true d h = refl
    or_right false d h = h

differs : (c d e : Bool) → IsFalse e → (IsTrue c → IsTrue e) → IsFalse d → IsFalse (c || d)
differs true d e h k l = let both : IsTrue e = k refl in absurd (cc)
differs false d e h k l = l

-- a node that is among some items has another name than those behind
pub none_later : (later xs : List Item) (f : List ℕ) → AreApart (later ++ xs) → IsTrue (has_node xs f) → IsFalse (has_node later f)
none_later [] xs f apart h = refl
none_later (TypeItem t ∷ later) xs f apart h = none_later later xs f apart h
none_later (NodeItem n ∷ later) xs f apart h =
    differs (bytes_eq n.name f) (has_node later f) (has_node (later ++ xs) n.name) apart.0
    (λ same. subst (λ (x : List ℕ). IsTrue (has_node (later ++ xs) x)) (sym ((bytes_eq-Decides n.name f).0 same)) (has_append later xs f h))
    (none_later later xs f apart.1 h)

-- so has the node itself
pub none_here : (later earlier : List Item) (n : Node) → AreApart (later ++ NodeItem n ∷ earlier) → IsFalse (has_node later n.name)
none_here later earlier n apart = none_later later (NodeItem n ∷ earlier) n.name apart (first ((bytes_eq-Decides n.name n.name).1 refl))
  where
    first : IsTrue (bytes_eq n.name n.name) → IsTrue (bytes_eq n.name n.name || has_node earlier n.name)
    first h = either (bytes_eq n.name n.name) h
      where
        either : (c : Bool) → IsTrue c → IsTrue (c || has_node earlier n.name)
        either true h = refl
        either false h = absurd (cc)

-- ---- the values of inputs

input_behind : (ds : List Decl) (d : Decl) (v : Value) (vs : List Value) (out : Names) → declares ds d.name ≡ false → (e : Decl) → IsTrue (declares ds e.name) → input_of (d ∷ ds) (v ∷ vs) out e.name ≡ input_of ds vs out e.name
input_behind ds d v vs out none e there = by (bytes_eq d.name e.name) refl
  where
    by : (c : Bool) → bytes_eq d.name e.name ≡ c → (if bytes_eq d.name e.name then v else input_of ds vs out e.name) ≡ input_of ds vs out e.name
    by true same =
        let name : d.name ≡ e.name = (bytes_eq-Decides d.name e.name).0 same in
        let there' : IsTrue (declares ds d.name) = subst (λ (x : List ℕ). IsTrue (declares ds x)) (sym name) there in
        absurd (cc)
    by false same = ap (λ (c : Bool). if c then v else input_of ds vs out e.name) same

rows_behind : (ds es : List Decl) (d : Decl) (v : Value) (vs : List Value) (out : Names) → declares ds d.name ≡ false → ((e : Decl) → IsTrue (declares es e.name) → IsTrue (declares ds e.name))
    → map (input_of (d ∷ ds) (v ∷ vs) out) (names_of es) ≡ map (input_of ds vs out) (names_of es)
rows_behind ds [] d v vs out none within = refl
rows_behind ds (e ∷ es) d v vs out none within =
    ap₂ (λ (w : Value) (ws : List Value). w ∷ ws)
    (input_behind ds d v vs out none e (within e (first (bytes_eq e.name e.name) (declares es e.name) ((bytes_eq-Decides e.name e.name).1 refl))))
    (rows_behind ds es d v vs out none (λ x h. within x (second (bytes_eq e.name x.name) (declares es x.name) h)))
  where
    first : (c d : Bool) → IsTrue c → IsTrue (c || d)
    first true d h = refl
    first false d h = absurd (cc)

    second : (c d : Bool) → IsTrue d → IsTrue (c || d)
    second true d h = refl
    second false d h = h

-- read by their names, inputs are in their order
pub inputs_read : (ds : List Decl) (vs : List Value) (out : Names) → DeclaredOnce ds → length vs ≡ length ds → map (input_of ds vs out) (names_of ds) ≡ vs
inputs_read [] [] out once long = refl
inputs_read [] (v ∷ vs) out once long = absurd (omega (arith, long))
inputs_read (d ∷ ds) [] out once long = absurd (omega (arith, long))
inputs_read (d ∷ ds) (v ∷ vs) out once long =
    ap₂ (λ (w : Value) (ws : List Value). w ∷ ws)
    (ap (λ (c : Bool). if c then v else input_of ds vs out d.name) ((bytes_eq-Decides d.name d.name).1 refl))
    (rows_behind ds ds d v vs out once.0 (λ e h. h) ∙ inputs_read ds vs out once.1 (omega (arith, long)))

pub reads_same : (xs : List (List ℕ)) (now : Now FlatName) (names : Names) → ((x : List ℕ) → now (Input x) ≡ names x) → map (λ x. now (Input x)) xs ≡ map names xs
reads_same [] now names h = refl
reads_same (x ∷ xs) now names h = ap₂ (λ (w : Value) (ws : List Value). w ∷ ws) (h x) (reads_same xs now names h)

pub no_controls : (ds : List Decl) (free : Instant) (out : Names) → ds ≡ [] → (x : List ℕ) → input_of ds (given_to ds free) out x ≡ out x
no_controls [] free out none x = refl
no_controls (d ∷ ds) free out none x = absurd (cc)

module _ (n : Node) (none : controls_of n.contract ≡ []) (once : DeclaredOnce n.inputs) (does : Behaviours) (flat : Flat FlatName) where
  values_given : (vs : List Value) (free : Instant) (now : Now FlatName) → length vs ≡ length n.inputs → GivesInputs (inputs_of n vs free) now → GivesValues (names_of n.inputs) vs now
  values_given vs free now long h =
      reads_same (names_of n.inputs) now (input_of n.inputs vs (λ x. Absent)) (λ x. h x ∙ no_controls (controls_of n.contract) (part Controls free) (input_of n.inputs vs (λ x. Absent)) none x)
      ∙ inputs_read n.inputs vs (λ x. Absent) once long

  with_values : (inputs : List (List Value)) (frees : List Instant) (L : List (Now FlatName)) → length frees ≡ length inputs → Each (λ vs. length vs ≡ length n.inputs) inputs → FlatReaction does flat GivesInputs (all_inputs n inputs frees) L → FlatReaction does flat (GivesValues (names_of n.inputs)) inputs L
  with_values [] [] [] many long h = tt
  with_values [] [] (i ∷ L) many long h = absurd h
  with_values [] (free ∷ frees) L many long h = absurd (omega (arith, many))
  with_values (vs ∷ inputs) [] L many long h = absurd (omega (arith, many))
  with_values (vs ∷ inputs) (free ∷ frees) [] many long h = absurd h
  with_values (vs ∷ inputs) (free ∷ frees) (i ∷ L) many long h =
      (with_values inputs frees L (omega (arith, many)) long.1 h.0, values_given vs free i long.0 h.1, h.2)

-- ---- the law

same_reacts : (f g : List Value → Given → Instant → Instant) → ((vs : List Value) (given : Given) (now : Instant) → f vs given now ≡ g vs given now) → (inputs : List (List Value)) (frees : List Instant) (past : Past) → ReactionOf f inputs frees past → Reacts g inputs frees past
same_reacts f g same [] [] [] h = tt
same_reacts f g same [] [] (i ∷ past) h = absurd h
same_reacts f g same [] (free ∷ frees) past h = absurd h
same_reacts f g same (vs ∷ inputs) [] past h = absurd h
same_reacts f g same (vs ∷ inputs) (free ∷ frees) [] h = absurd h
same_reacts f g same (vs ∷ inputs) (free ∷ frees) (now ∷ past) h =
    (same_reacts f g same inputs frees past h.0, λ p. h.1 p ∙ ap (λ (i : Instant). i p) (same vs (record { past = past; free = free }) now))

all_filled : (fill : Instant) (inputs : List (List Value)) → AllFilled fill (given_each fill inputs)
all_filled fill [] = tt
all_filled fill (vs ∷ inputs) = ((λ p h. refl), all_filled fill inputs)

pub uncontrolled_at : (later earlier : List Item) (n : Node) → NoControls (later ++ NodeItem n ∷ earlier) → controls_of n.contract ≡ []
uncontrolled_at [] earlier n none = none.0
uncontrolled_at (TypeItem t ∷ later) earlier n none = uncontrolled_at later earlier n none
uncontrolled_at (NodeItem m ∷ later) earlier n none = uncontrolled_at later earlier n none.1

many_answered : (os : List (List ℕ)) (fill : Instant) (f : List Value → Given → Instant → Instant) (args : List Value) (before : List (List Value)) (past : Past) (vs : List Value)
    → ReactionOf f (args ∷ before) (given_each fill (args ∷ before)) past → OutputsAre os past vs → length vs ≡ length os
many_answered os fill f args before [] vs reaction are = absurd reaction
many_answered os fill f args before (now ∷ past) vs reaction are = ap (λ (ws : List Value). length ws) (sym are) ∙ length-map os (λ o. now (Named o ∷ []))

-- the outputs of an instant are those of its body
body_outputs : (ds es : List Decl) (now : Instant) → ((x : List ℕ) → now (Named x ∷ []) ≡ (if declares ds x then now (Body ∷ Named x ∷ []) else Absent)) → ((e : Decl) → IsTrue (declares es e.name) → IsTrue (declares ds e.name))
    → map (λ o. now (Named o ∷ [])) (names_of es) ≡ map (λ o. now (Body ∷ Named o ∷ [])) (names_of es)
body_outputs ds [] now is within = refl
body_outputs ds (e ∷ es) now is within =
    ap₂ (λ (w : Value) (ws : List Value). w ∷ ws)
    (is e.name ∙ ap (λ (c : Bool). if c then now (Body ∷ Named e.name ∷ []) else Absent) (within e (first (bytes_eq e.name e.name) (declares es e.name) ((bytes_eq-Decides e.name e.name).1 refl))))
    (body_outputs ds es now is (λ x h. within x (second (bytes_eq e.name x.name) (declares es x.name) h)))
  where
    first : (c d : Bool) → IsTrue c → IsTrue (c || d)
    first true d h = refl
    first false d h = absurd (cc)

    second : (c d : Bool) → IsTrue d → IsTrue (c || d)
    second true d h = refl
    second false d h = h

map_twice : (i : Now FlatName) (means : ℕ → FlatName) (xs : List ℕ) → map (λ x. i (means x)) xs ≡ map i (map means xs)
map_twice i means [] = refl
map_twice i means (x ∷ xs) = ap (λ (vs : List Value). i (means x) ∷ vs) (map_twice i means xs)

map_body : (i : Now FlatName) (now : Instant) → ((p : Place) → i (At p) ≡ now p) → (xs : List (List ℕ)) → map i (map body_name xs) ≡ map (λ o. now (Body ∷ Named o ∷ [])) xs
map_body i now at [] = refl
map_body i now at (x ∷ xs) = ap₂ (λ (v : Value) (vs : List Value). v ∷ vs) (at (Body ∷ Named x ∷ [])) (map_body i now at xs)

module _ (program : List Item) (fills : List ℕ → Place → Value) (answers : Answers) (ranked : IsRanked program) (none : NoControls program) (apart : AreApart (reverse program)) (answer : Answering program fills answers)
    (later earlier : List Item) (n : Node) (means : ℕ → FlatName) (flat : FlatNode) (is : IsFlat program fills later earlier n means flat) where
  abbrev types : List TypeDecl
  types = types_of program

  abbrev before_it : Nodes
  before_it = nodes types filled earlier

  abbrev fill : Instant
  fill = fills n.name

  apart_here : AreApart (later ++ NodeItem n ∷ earlier)
  apart_here = subst AreApart is.stands apart

  unnamed_later : IsFalse (has_node later n.name)
  unnamed_later = none_here later earlier n apart_here

  itself : bytes_eq n.name n.name ≡ true
  itself = (bytes_eq-Decides n.name n.name).1 refl

  instant_is : (vs : List Value) (given : Given) (now : Instant) → (filled_nodes program).instant n.name vs given now ≡ node types filled before_it n vs given now
  instant_is vs given now =
      instant_here program fills answers ranked none answer later (NodeItem n ∷ earlier) is.stands n.name unnamed_later vs given now
      ∙ ap (λ (c : Bool). if c then node types filled before_it n vs given now else before_it.instant n.name vs given now) itself

  outputs_is : (filled_nodes program).outputs n.name ≡ names_of n.outputs
  outputs_is =
      outputs_here program fills answers ranked none answer later (NodeItem n ∷ earlier) is.stands n.name unnamed_later
      ∙ ap (λ (c : Bool). if c then names_of n.outputs else before_it.outputs n.name) itself

  uncontrolled_here : controls_of n.contract ≡ []
  uncontrolled_here = uncontrolled_at later earlier n (subst NoControls is.stands (none_reverse program none))

  fine : (f : List ℕ) (here : Prefix) → IsCalled earlier fills fill f here → IsFine before_it (does_of answers) (λ f. IsFill (fills f)) (IsFill fill) f here
  fine f here c =
      let split : reverse program ≡ (later ++ NodeItem n ∷ []) ++ earlier = is.stands ∙ sym (append_assoc later (NodeItem n ∷ []) earlier) in
      let unnamed = none_later (later ++ NodeItem n ∷ []) earlier f (subst AreApart split apart) c.declared in (
        behave program fills answers ranked none answer (later ++ NodeItem n ∷ []) earlier split f c.declared unnamed,
        λ free mine p u. let g = c.given_there p u in mine (here p) g.0 ∙ g.1,
      )

  counts : (f : List ℕ) (args : List Value) (before : List (List Value)) → length (answers f args before) ≡ length ((filled_nodes program).outputs f)
  counts f args before =
      let a = answer f args before in
      many_answered ((filled_nodes program).outputs f) (fills f) (meaning filled program f) args before a.past (answers f args before) a.reaction a.outputs_are

  flat_reaction : (inputs : List (List Value)) (past : Past) → ReactionOf (meaning filled program n.name) inputs (given_each fill inputs) past → NodeTimely types before_it.outputs n (lifts n inputs (given_each fill inputs) past)
      → FlatReaction (does_of answers) (flatten types before_it.outputs fill n) GivesInputs (all_inputs n inputs (given_each fill inputs)) (lifts n inputs (given_each fill inputs) past)
  flat_reaction inputs past reaction timely =
      flattens types before_it (does_of answers) fills fill n inputs (given_each fill inputs) past is.lowered
      (block_so (IsCalled earlier fills fill) (IsFine before_it (does_of answers) (λ f. IsFill (fills f)) (IsFill fill)) fine n.body in_body is.calls)
      (same_reacts (meaning filled program n.name) (node types filled before_it n) instant_is inputs (given_each fill inputs) past reaction) (all_filled fill inputs) timely

  numbered_reaction : (inputs : List (List Value)) (past : Past) → Each (λ vs. length vs ≡ length n.inputs) inputs → ReactionOf (meaning filled program n.name) inputs (given_each fill inputs) past
      → IsThere program fills earlier n means inputs past → Reaction answers flat inputs (map (numbered means) (lifts n inputs (given_each fill inputs) past))
  numbered_reaction inputs past long reaction there =
      let L = lifts n inputs (given_each fill inputs) past in
      let flat_is = flatten types before_it.outputs fill n in
      numbers answers (λ f. length ((filled_nodes program).outputs f)) means flat_is (names_of n.inputs) flat inputs L is.equations counts there.told
      (with_values n uncontrolled_here is.inputs_differ (does_of answers) flat_is inputs (given_each fill inputs) L (as_many fill inputs) long (flat_reaction inputs past reaction there.timely))

  outputs_given : (args : List Value) (before : List (List Value)) (past : Past) → ReactionOf (meaning filled program n.name) (args ∷ before) (given_each fill (args ∷ before)) past
      → GivesOutputs flat (answers n.name args before) (map (numbered means) (lifts n (args ∷ before) (given_each fill (args ∷ before)) past))
  outputs_given args before [] reaction = absurd reaction
  outputs_given args before (now ∷ past) reaction =
      let answered = outputs_answered program fills answers ranked none answer n.name args before (now ∷ past) reaction in
      let G = lifts n before (given_each fill before) past in
      let i : Now FlatName = lifted G (inputs_of n args fill) fill now in
      sym (subst (λ (os : List (List ℕ)). map (λ o. now (Named o ∷ [])) os ≡ answers n.name args before) outputs_is answered)
      ∙ body_outputs n.outputs n.outputs now (λ x. reaction.1 (Named x ∷ []) ∙ ap (λ (j : Instant). j (Named x ∷ [])) (instant_is args (record { past = past; free = fill }) now)) (λ e h. h)
      ∙ sym (map_twice i means flat.outputs ∙ ap (λ (xs : List FlatName). map i xs) is.outputs ∙ map_body i now (λ p. refl) (names_of n.outputs))

pub node_answers : NodeAnswersLaw
node_answers program fills answers ranked none apart answer later earlier n means flat is args before past long reaction there = (
  numbered_reaction program fills answers ranked none apart answer later earlier n means flat is (args ∷ before) past long reaction there,
  outputs_given program fills answers ranked none apart answer later earlier n means flat is args before past reaction,
)
