-- Worked programs are runs: a round that equals the next one meets the node, and a ranked program has one reaction.
use Rattle.std.proofs.Common.{◌≡◌, ℕ, suc, List, [], ◌∷◌, Some, refl, sym, ap, ◌∙◌, subst}
use Rattle.std.specs.Prelude.{Bool, true, false, IsTrue, ⊤, reverse, pos, negsuc}
use Rattle.std.specs.Int.{int_wrap}
use Rattle.std.specs.Str.{bytes_eq}
use Rattle.hp_base.specs.declared.value.Value.{Value}
use Rattle.hp_base.specs.declared.value.Value.TheVariants.{B, I}
use Rattle.hp_tree.specs.declared.program.Item.{Item}
use Rattle.hp_tree.specs.Programs.{Node}
use Rattle.hp_tree.specs.Instant.{Instant, nothing}
use Rattle.hp_tree.specs.Meaning.{types_of, controls_of, node_among}
use Rattle.hp_tree.specs.Values.{AreOf}
use Rattle.hp_tree.specs.Reaction.{Reaction, Each, NodeReaction, IsRun}
use Rattle.hp_meaning.specs.Causal.Causality.{IsRanked}
use Rattle.hp_meaning.specs.Causal.Runs.{NoControls}
use Rattle.hp_meaning.proofs.CausalLemmas.Choices.{by_cases}
use Rattle.hp_meaning.proofs.CausalLemmas.Ranking.{ranks_enough}
use Rattle.hp_meaning.proofs.CausalLemmas.Run.{run as one_run, each_reverse, none_fit}
use Rattle.hp_meaning.proofs.CausalLemmas.Worked.{tested}
use Rattle.hp_meaning.proofs.ContractLemmas.Texts.{f, g, m, o, r, x, y, alone, updown, two_modes, pending, nested, sums, crossed, late_start, sampled, anew}
use Rattle.hp_meaning.proofs.ContractLemmas.WorkedRows.{round, run, outputs}

-- ---- rounds that are settled

-- At each instant one more round changes nothing; the inputs are given the newest first.
abbrev Settled : List Item → List ℕ → ℕ → List (List Value) → Type 0
Settled program n k [] = ⊤
Settled program n k (vs ∷ earlier) = Settled program n k earlier × (round program n (run program n k earlier) vs k ≡ round program n (run program n k earlier) vs (suc k))

abbrev nothings : List (List Value) → List Instant
nothings [] = []
nothings (vs ∷ inputs) = nothing ∷ nothings inputs

-- Then the rounds are a reaction.
settled_reaction : (program : List Item) (n : List ℕ) (k : ℕ) (inputs : List (List Value)) → Settled program n k inputs → Reaction program n inputs (nothings inputs) (run program n k inputs)
settled_reaction program n k [] h = tt
settled_reaction program n k (vs ∷ inputs) h = (settled_reaction program n k inputs h.0, λ p. ap (λ (i : Instant). i p) h.1)

-- So a node without controllable variables, of a ranked program, has the outputs of settled rounds as its run; the inputs and outputs are given the oldest first.
is_run : (program : List Item) (name : List ℕ) (n : Node) (k : ℕ) (inputs outs : List (List Value)) → IsRanked program → NoControls program → node_among (reverse program) name ≡ Some n → controls_of n.contract ≡ [] → Each (AreOf (types_of program) n.inputs) inputs → Settled program name k (reverse inputs) → reverse (outputs program name k (reverse inputs)) ≡ outs → IsRun program name inputs outs
is_run program name n k inputs outs ranked none is bare fit settled e =
    let one = one_run program name n inputs ranked none is fit in
    let back = reverse inputs in
    let reaction : NodeReaction program name back (nothings back) (run program name k back) =
    record {
      node = n;
      is_node = is;
      inputs_fit = each_reverse (AreOf (types_of program) n.inputs) inputs fit;
      controls_fit = none_fit (types_of program) (controls_of n.contract) (run program name k back) bare;
      reaction = settled_reaction program name k back settled;
    } in
    subst (IsRun program name inputs) (sym (one.1.every (nothings back) (run program name k back) reaction) ∙ e) one.1

-- ---- what a control equation defines is declared

not_defined : {X : Type 0} (d : Bool) → d ≡ false → IsTrue d → X
not_defined true e h = absurd (cc)
not_defined false e h = absurd (cc)

-- ---- up and down

updown_ranked : IsRanked (alone updown)
updown_ranked = (ranks_enough updown (0 ∷ 3 ∷ 2 ∷ 1 ∷ 2 ∷ 1 ∷ 2 ∷ []) (tt, ((λ n h. by_cases (bytes_eq o n) (λ t. rw (t) refl) (λ f. not_defined _ (rw (f) refl) h), ((tt, tt), ((tt, tt), tt))), tt)) (tested updown (0 ∷ 3 ∷ 2 ∷ 1 ∷ 2 ∷ 1 ∷ 2 ∷ []) refl refl), tt)

updown_runs : IsRun (alone updown) updown.name ([] ∷ [] ∷ [] ∷ [] ∷ [] ∷ [] ∷ []) ((I (pos 1) ∷ []) ∷ (I (pos 2) ∷ []) ∷ (I (pos 1) ∷ []) ∷ (I (pos 0) ∷ []) ∷ (I (pos 1) ∷ []) ∷ (I (pos 2) ∷ []) ∷ [])
unfolding int_wrap
updown_runs = is_run (alone updown) updown.name updown 6 _ _ updown_ranked (refl, tt) refl refl (tt, (tt, (tt, (tt, (tt, (tt, tt)))))) ((((((tt, refl), refl), refl), refl), refl), refl) refl

-- ---- two modes that go on

two_modes_ranked : IsRanked (alone two_modes)
two_modes_ranked = (ranks_enough two_modes (0 ∷ 2 ∷ 2 ∷ 1 ∷ 1 ∷ 1 ∷ 1 ∷ []) (tt, ((λ n h. by_cases (bytes_eq x n) (λ t. rw (t) refl) (λ f. not_defined _ (rw (f) refl) h), ((tt, tt), ((tt, tt), tt))), tt)) (tested two_modes (0 ∷ 2 ∷ 2 ∷ 1 ∷ 1 ∷ 1 ∷ 1 ∷ []) refl refl), tt)

two_modes_runs : IsRun (alone two_modes) f ((B true ∷ []) ∷ (B true ∷ []) ∷ (B true ∷ []) ∷ (B true ∷ []) ∷ []) ((I (pos 0) ∷ []) ∷ (I (pos 10) ∷ []) ∷ (I (pos 1) ∷ []) ∷ (I (pos 11) ∷ []) ∷ [])
unfolding int_wrap
two_modes_runs = is_run (alone two_modes) f two_modes 5 _ _ two_modes_ranked (refl, tt) refl refl ((tt, tt), ((tt, tt), ((tt, tt), ((tt, tt), tt)))) ((((tt, refl), refl), refl), refl) refl

-- ---- a pending restart that is lost

pending_ranked : IsRanked (alone pending)
pending_ranked = (ranks_enough pending (1 ∷ 3 ∷ 3 ∷ 2 ∷ 2 ∷ 2 ∷ 2 ∷ 2 ∷ 0 ∷ []) (tt, ((λ n h. by_cases (bytes_eq x n) (λ t. rw (t) refl) (λ f. not_defined _ (rw (f) refl) h), ((tt, tt), ((tt, tt), tt))), tt)) (tested pending (1 ∷ 3 ∷ 3 ∷ 2 ∷ 2 ∷ 2 ∷ 2 ∷ 2 ∷ 0 ∷ []) refl refl), tt)

pending_runs : IsRun (alone pending) f ((B true ∷ B false ∷ []) ∷ (B true ∷ B false ∷ []) ∷ (B true ∷ B false ∷ []) ∷ (B false ∷ B true ∷ []) ∷ (B false ∷ B false ∷ []) ∷ []) ((I (pos 0) ∷ []) ∷ (I (pos 10) ∷ []) ∷ (I (pos 1) ∷ []) ∷ (I (pos 2) ∷ []) ∷ (I (pos 11) ∷ []) ∷ [])
unfolding int_wrap
pending_runs = is_run (alone pending) f pending 5 _ _ pending_ranked (refl, tt) refl refl ((tt, (tt, tt)), ((tt, (tt, tt)), ((tt, (tt, tt)), ((tt, (tt, tt)), ((tt, (tt, tt)), tt))))) (((((tt, refl), refl), refl), refl), refl) refl

-- ---- an automaton in a state

nested_ranked : IsRanked (alone nested)
nested_ranked = (ranks_enough nested (0 ∷ 2 ∷ 4 ∷ 1 ∷ 3 ∷ 3 ∷ 2 ∷ 2 ∷ 2 ∷ 2 ∷ 1 ∷ 1 ∷ 1 ∷ []) (tt, ((λ n h. by_cases (bytes_eq x n) (λ t. rw (t) refl) (λ f. not_defined _ (rw (f) refl) h), (((λ n h. by_cases (bytes_eq x n) (λ t. rw (t) refl) (λ f. not_defined _ (rw (f) refl) h), ((tt, tt), ((tt, tt), tt))), tt), ((tt, tt), tt))), tt)) (tested nested (0 ∷ 2 ∷ 4 ∷ 1 ∷ 3 ∷ 3 ∷ 2 ∷ 2 ∷ 2 ∷ 2 ∷ 1 ∷ 1 ∷ 1 ∷ []) refl refl), tt)

nested_runs : IsRun (alone nested) g ((B false ∷ B true ∷ []) ∷ (B false ∷ B false ∷ []) ∷ (B false ∷ B false ∷ []) ∷ (B true ∷ B false ∷ []) ∷ (B true ∷ B false ∷ []) ∷ (B false ∷ B true ∷ []) ∷ (B false ∷ B false ∷ []) ∷ []) ((I (pos 0) ∷ []) ∷ (I (pos 10) ∷ []) ∷ (I (pos 11) ∷ []) ∷ (I (pos 12) ∷ []) ∷ (I (negsuc 0) ∷ []) ∷ (I (pos 0) ∷ []) ∷ (I (pos 10) ∷ []) ∷ [])
unfolding int_wrap
nested_runs = is_run (alone nested) g nested 6 _ _ nested_ranked (refl, tt) refl refl ((tt, (tt, tt)), ((tt, (tt, tt)), ((tt, (tt, tt)), ((tt, (tt, tt)), ((tt, (tt, tt)), ((tt, (tt, tt)), ((tt, (tt, tt)), tt))))))) (((((((tt, refl), refl), refl), refl), refl), refl), refl) refl

-- ---- arithmetic of 32 bits

sums_ranked : IsRanked (alone sums)
sums_ranked = (ranks_enough sums (0 ∷ 0 ∷ 0 ∷ []) (tt, (tt, (tt, (tt, tt)))) (tested sums (0 ∷ 0 ∷ 0 ∷ []) refl refl), tt)

sums_runs : IsRun (alone sums) f ((I (pos 2147483647) ∷ I (pos 1) ∷ []) ∷ (I (negsuc 2147483647) ∷ I (negsuc 0) ∷ []) ∷ (I (pos 7) ∷ I (pos 0) ∷ []) ∷ (I (negsuc 6) ∷ I (pos 2) ∷ []) ∷ []) ((I (negsuc 2147483647) ∷ I (pos 2147483647) ∷ I (pos 0) ∷ []) ∷ (I (pos 2147483647) ∷ I (negsuc 2147483647) ∷ I (pos 0) ∷ []) ∷ (I (pos 7) ∷ I (pos 0) ∷ I (pos 7) ∷ []) ∷ (I (negsuc 4) ∷ I (negsuc 2) ∷ I (negsuc 0) ∷ []) ∷ [])
unfolding int_wrap
sums_runs = is_run (alone sums) f sums 4 _ _ sums_ranked (refl, tt) refl refl ((tt, (tt, tt)), ((tt, (tt, tt)), ((tt, (tt, tt)), ((tt, (tt, tt)), tt)))) ((((tt, refl), refl), refl), refl) refl

-- ---- two arms

crossed_ranked : IsRanked (alone crossed)
crossed_ranked = (ranks_enough crossed (2 ∷ 2 ∷ 1 ∷ 0 ∷ 1 ∷ 0 ∷ []) (tt, ((λ n h. by_cases (bytes_eq x n) (λ t. rw (t) refl) (λ f. by_cases (bytes_eq y n) (λ t. rw (f, t) refl) (λ u. not_defined _ (rw (f, u) refl) h)), ((tt, (tt, tt)), ((tt, (tt, tt)), tt))), tt)) (tested crossed (2 ∷ 2 ∷ 1 ∷ 0 ∷ 1 ∷ 0 ∷ []) refl refl), tt)

crossed_runs : IsRun (alone crossed) f ((B true ∷ []) ∷ (B false ∷ []) ∷ []) ((B true ∷ B true ∷ []) ∷ (B false ∷ B false ∷ []) ∷ [])
unfolding int_wrap
crossed_runs = is_run (alone crossed) f crossed 5 _ _ crossed_ranked (refl, tt) refl refl ((tt, tt), ((tt, tt), tt)) ((tt, refl), refl) refl

-- ---- a late start

late_start_ranked : IsRanked (alone late_start)
late_start_ranked = (ranks_enough late_start (0 ∷ []) (tt, (tt, tt)) (tested late_start (0 ∷ []) refl refl), tt)

late_start_runs : IsRun (alone late_start) f ((I (pos 5) ∷ []) ∷ (I (pos 6) ∷ []) ∷ (I (pos 7) ∷ []) ∷ []) ((I (pos 0) ∷ []) ∷ (I (pos 5) ∷ []) ∷ (I (pos 6) ∷ []) ∷ [])
unfolding int_wrap
late_start_runs = is_run (alone late_start) f late_start 4 _ _ late_start_ranked (refl, tt) refl refl ((tt, tt), ((tt, tt), ((tt, tt), tt))) (((tt, refl), refl), refl) refl

-- ---- a sampled stream

sampled_ranked : IsRanked (alone sampled)
sampled_ranked = (ranks_enough sampled (0 ∷ 1 ∷ []) (tt, (tt, (tt, tt))) (tested sampled (0 ∷ 1 ∷ []) refl refl), tt)

sampled_runs : IsRun (alone sampled) f ((I (pos 5) ∷ B true ∷ []) ∷ (I (pos 6) ∷ B false ∷ []) ∷ []) ((I (pos 5) ∷ []) ∷ (I (pos 0) ∷ []) ∷ [])
unfolding int_wrap
sampled_runs = is_run (alone sampled) f sampled 4 _ _ sampled_ranked (refl, tt) refl refl ((tt, (tt, tt)), ((tt, (tt, tt)), tt)) ((tt, refl), refl) refl

-- ---- a counter that begins anew

anew_ranked : IsRanked (alone anew)
anew_ranked = (ranks_enough anew (1 ∷ 0 ∷ []) (tt, ((λ n h. by_cases (bytes_eq m n) (λ t. rw (t) refl) (λ f. not_defined _ (rw (f) refl) h), (tt, tt)), tt)) (tested anew (1 ∷ 0 ∷ []) refl refl), tt)

anew_runs : IsRun (alone anew) r ((B false ∷ []) ∷ (B false ∷ []) ∷ (B true ∷ []) ∷ (B false ∷ []) ∷ []) ((I (pos 0) ∷ []) ∷ (I (pos 1) ∷ []) ∷ (I (pos 0) ∷ []) ∷ (I (pos 1) ∷ []) ∷ [])
unfolding int_wrap
anew_runs = is_run (alone anew) r anew 4 _ _ anew_ranked (refl, tt) refl refl ((tt, tt), ((tt, tt), ((tt, tt), ((tt, tt), tt)))) ((((tt, refl), refl), refl), refl) refl
