-- In the reactions of a node without automata the places of its body are there exactly where their clocks are, and its outputs are there.
use Rattle.std.proofs.Common.{◌≡◌, ℕ, List, [], ◌∷◌, refl}
use Rattle.std.specs.Prelude.{false, IsTrue, Option}
use Rattle.std.specs.List.{AllByRecursion}
use Rattle.std.specs.Str.{bytes_eq}
use Rattle.std.proofs.lemmas.Slice.Eq.{bytes_eq-Decides}
use Rattle.hp_base.specs.declared.value.Value.{Value}
use Rattle.hp_base.specs.declared.value.Value.TheVariants.{Absent, Nil, B, E, I, Star}
use Rattle.hp_tree.specs.Blocks.{Decl}
use Rattle.hp_tree.specs.Programs.{TypeDecl, Node}
use Rattle.hp_tree.specs.Operators.{filled}
use Rattle.hp_tree.specs.Values.{AreOf}
use Rattle.hp_tree.specs.Instant.{Body, Named, Place, Instant, Past, Given}
use Rattle.hp_tree.specs.Meaning.{Nodes, names_of, declares, node}
use Rattle.hp_tree.specs.Reaction.{Each}
use Rattle.law_judged.specs.Typed.Scopes.{Scope as Known}
use Rattle.hp_init.specs.Classes.{Assignment}
use Rattle.hp_meaning.specs.Causal.Causality.{Ranked}
use Rattle.hp_meaning.specs.Causal.Clocked.{ClocksRight}
use Rattle.law_equations.specs.Meaning.Fitting.{is_there}
use Rattle.law_equations.specs.Flattened.Flat.{Now, Behaviours}
use Rattle.law_equations.specs.Flattened.Flatten.{FlatName, At, When, Plan, always, node_scope}
use Rattle.law_equations.specs.Flattened.Timely.{IsValue, Along, scope_clocks, Lowered}
use Rattle.law_equations.specs.Flattened.Lifted.{Reacts, lifted, inputs_of, lifts, in_body, node_lasts, NodeTimely}
use Rattle.law_equations.proofs.FlattenedLemmas.PastLaws.{along}
use Rattle.law_equations.proofs.FlattenedLemmas.NodeLaws.{remembers, all_remember, body_live, body_lives}
use Rattle.law_equations.specs.Made.Laws.{body_name}
use Rattle.law_values.specs.Valued.Judged.{IsPlain, PlainContract, HaveOwnTypes}
use Rattle.law_values.specs.Valued.Classed.{none_second}
use Rattle.law_values.specs.Valued.Fitting.{NodeFits}
use Rattle.law_values.specs.Valued.Given.{reading, NodeGiven}
use Rattle.law_values.proofs.ValuedLemmas.Both.{NodeOk}
use Rattle.law_values.proofs.ValuedLemmas.Laws.{or_left, or_right}
use Rattle.law_values.proofs.ValuedLemmas.ExprTops.{Callees}
use Rattle.law_values.proofs.ValuedLemmas.NodeWhole.{node_whole}
use Rattle.law_wellmade.proofs.TimelyLemmas.Actual.{first}
use Rattle.law_wellmade.proofs.TimelyLemmas.Instants.{is_value, TimelyAt, stands_along}
use Rattle.law_wellmade.proofs.TimelyLemmas.BlocksTimely.{scope_timely}
use Rattle.law_wellmade.proofs.TimelyLemmas.NodeHas.{sb, st, lasts, output_is, body_has}

pub there_is : (v : Value) → IsValue v → IsTrue (is_there v)
there_is Absent h = absurd h
there_is Nil h = refl
there_is (B b) h = refl
there_is (E t k) h = refl
there_is (I n) h = refl
there_is Star h = refl

module _ (types : List TypeDecl) (N : Nodes) (among : List ℕ → Option Node) (fits allowed : List ℕ → Instant → Type 0) (known : Callees types false (reading first) N among fits allowed) (does : Behaviours) (fill : Place → Value) where
  module _ (s : Known) (class : Assignment) (n : Node) (o : Ranked n) (right : ClocksRight n) (low : IsPlain n.body) (lowc : PlainContract n.contract) (ok : NodeOk types among s class n) where
    abbrev Said : List Value → Given → Instant → Instant
    Said inputs g now = node types filled N n inputs g now

    -- An instant of a reaction, with what is known of it and of the earlier ones.
    pub record Moment (vs : List Value) (free now : Instant) (inputs : List (List Value)) (frees : List Instant) (past : Past) : Type 0 where
      pub reacts : Reacts Said inputs frees past
      pub meets : (p : Place) → now p ≡ Said vs (record { past = past; free = free }) now p
      pub inputs_fit : AreOf types n.inputs vs
      pub given_fits : NodeGiven types false first allowed s n free
      pub past_fits : Each (NodeFits types false fits s class n) past
      pub fits_now : NodeFits types false fits s class n now

    abbrev pub flat_now : List Value → Instant → Instant → List (List Value) → List Instant → Past → Now FlatName
    flat_now vs free now inputs frees past = lifted (lifts n inputs frees past) (inputs_of n vs free) free now

    -- What holds of each moment holds along a reaction.
    pub each_moment : (P : List (Now FlatName) → Now FlatName → Type 0) → ((vs : List Value) (free now : Instant) (inputs : List (List Value)) (frees : List Instant) (past : Past) → Moment vs free now inputs frees past → P (lifts n inputs frees past) (flat_now vs free now inputs frees past))
        → (inputs : List (List Value)) (frees : List Instant) (past : Past) → Reacts Said inputs frees past → Each (AreOf types n.inputs) inputs → Each (NodeGiven types false first allowed s n) frees
        → Each (NodeFits types false fits s class n) past × Along P (lifts n inputs frees past)
    each_moment P f [] [] [] r v gv = (tt, tt)
    each_moment P f (vs ∷ inputs) (free ∷ frees) (now ∷ past) r v gv =
        let before = each_moment P f inputs frees past r.0 v.1 gv.1 in
        let here = node_whole types false first N among fits allowed known s class n o right low lowc ok vs (record { past = past; free = free }) now v.0 gv.0 before.0 r.1 in
        ((here, before.0), (f vs free now inputs frees past (record { reacts = r.0; meets = r.1; inputs_fit = v.0; given_fits = gv.0; past_fits = before.0; fits_now = here }), before.1))
    each_moment P f [] [] (now ∷ past) r v gv = absurd r
    each_moment P f [] (free ∷ frees) past r v gv = absurd r
    each_moment P f (vs ∷ inputs) [] past r v gv = absurd r
    each_moment P f (vs ∷ inputs) (free ∷ frees) [] r v gv = absurd r

    abbrev pub plan : Plan When
    plan = scope_clocks types N.outputs n.body (node_scope n) (node_lasts types n) in_body always []

    pub moment_timely : Lowered n.body → (vs : List Value) (free now : Instant) (inputs : List (List Value)) (frees : List Instant) (past : Past) → Moment vs free now inputs frees past → TimelyAt plan in_body (flat_now vs free now inputs frees past)
    moment_timely lowered vs free now inputs frees past k =
        scope_timely types N among fits allowed known does fill n.body (sb types N among fits allowed known does fill s class n o right low lowc ok) (st types N among fits allowed known does fill s class n o right low lowc ok) none_second (lasts types N among fits allowed known does fill s class n o right low lowc ok) (λ q. class (Body ∷ q)) (λ i. false) (node_scope n) (node_lasts types n) in_body always [] (lifts n inputs frees past) (flat_now vs free now inputs frees past) lowered ok.1.1.1.1.0
        (body_live types N does fill n vs free now inputs frees past k.reacts k.meets, body_lives types N does fill n inputs frees past k.reacts)
        (remembers (lifts n inputs frees past) (inputs_of n vs free) free now, all_remember types N does fill n inputs frees past k.reacts)
        (λ t. body_has types N among fits allowed known does fill s class n o right low lowc ok vs free now inputs frees past k.reacts k.meets k.inputs_fit k.given_fits k.past_fits)

    pub node_timely : Lowered n.body → (inputs : List (List Value)) (frees : List Instant) (past : Past) → Reacts Said inputs frees past → Each (AreOf types n.inputs) inputs → Each (NodeGiven types false first allowed s n) frees → NodeTimely types N.outputs n (lifts n inputs frees past)
    node_timely low' inputs frees past r v gv p =
        stands_along (plan p) (At (in_body p)) (lifts n inputs frees past)
        (along (λ G i. TimelyAt plan in_body i) _ (λ G i a h. h p) (lifts n inputs frees past)
        (each_moment (λ G i. TimelyAt plan in_body i) (λ vs free now inputs frees past k. moment_timely low' vs free now inputs frees past k) inputs frees past r v gv).1)

    outputs_there : (ds : List Decl) → ((x : List ℕ) → IsTrue (declares ds x) → IsTrue (declares n.outputs x)) → HaveOwnTypes types among (sb types N among fits allowed known does fill s class n o right low lowc ok) ds
        → (vs : List Value) (free now : Instant) (inputs : List (List Value)) (frees : List Instant) (past : Past) → Moment vs free now inputs frees past → AllByRecursion (λ x. IsTrue (is_there (flat_now vs free now inputs frees past (body_name x)))) (names_of ds)
    outputs_there [] inc own vs free now inputs frees past k = tt
    outputs_there (d ∷ ds) inc own vs free now inputs frees past k = (
      there_is _ (is_value types d.ty (now (Body ∷ Named d.name ∷ []))
          (output_is types N among fits allowed known does fill s class n o right low lowc ok vs (record { past = past; free = free }) now d.name d.ty k.meets k.fits_now (inc d.name (or_left (bytes_eq d.name d.name) (declares ds d.name) ((bytes_eq-Decides d.name d.name).1 refl))) own.0)),
      outputs_there ds (λ x h. inc x (or_right (bytes_eq d.name x) (declares ds x) h)) own.1 vs free now inputs frees past k,
    )

    pub node_outputs : (inputs : List (List Value)) (frees : List Instant) (past : Past) → Reacts Said inputs frees past → Each (AreOf types n.inputs) inputs → Each (NodeGiven types false first allowed s n) frees → Along (λ G i. AllByRecursion (λ x. IsTrue (is_there (i (body_name x)))) (names_of n.outputs)) (lifts n inputs frees past)
    node_outputs inputs frees past r v gv =
        (each_moment (λ G i. AllByRecursion (λ x. IsTrue (is_there (i (body_name x)))) (names_of n.outputs)) (λ vs free now inputs frees past k. outputs_there n.outputs (λ x h. h) ok.1.0.1 vs free now inputs frees past k) inputs frees past r v gv).1
