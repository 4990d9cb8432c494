-- Beside the instants of a node with a contract, one after another, there are those of the contract's observer. Nothing is said here of the program in which the node stands, so it serves for instances too.
use Rattle.std.proofs.Common.{◌≡◌, ℕ, ◌<◌, List, [], ◌∷◌, ◌++◌, map, length, refl, sym, ap, subst, ◌∙◌}
use Rattle.std.proofs.Math.Path.{fun_ext}
use Rattle.std.specs.Prelude.{⊤, false, ◌||◌, if◌then◌else◌, IsTrue, Option, None, Some}
use Rattle.std.specs.List.{AllByRecursion}
use Rattle.hp_base.specs.declared.value.Value.{Value}
use Rattle.hp_base.specs.declared.value.Value.TheVariants.{Absent, B}
use Rattle.hp_tree.specs.Expressions.{Expr}
use Rattle.hp_tree.specs.Blocks.{Block, block, Eqns}
use Rattle.hp_tree.specs.Programs.{TypeDecl, Contract, Node}
use Rattle.hp_tree.specs.Operators.{real, constant_of}
use Rattle.hp_tree.specs.Instant.{Body, Observer, Assume, Enforce, Fresh, Named, Equations, Tail, Place, Instant, Past, Given, part, parts, own, nothing, of_two, in_right, in_node}
use Rattle.hp_tree.specs.Meaning.{Names, Nodes, absent, declares, input_of, lasts, last_in, node, observer, read_in, scope}
use Rattle.hp_meaning.specs.Causal.Clocked.{BlockRight, TellsOnBase, on_base, standing_of}
use Rattle.hp_meaning.proofs.CausalLemmas.Swap.{given}
use Rattle.law_automata.specs.Lowered.Standing.{Along}
use Rattle.law_drawing.proofs.SteeredLemmas.Uncalled.{BlockCallsNothing, ToldCallsNothing}
use Rattle.law_judged.specs.Named.Scoped.{interface, no_names, BlockScoped}
use Rattle.law_judged.specs.Replaced.Fitting.{BlockNames}
use Rattle.hp_watch.specs.Observing.{inputs_for, lines_of, observer_of, outputs_at, with_lines}
use Rattle.law_choices.specs.Embedded.Observed.{IsObserved, SameTold, behind_eqns, eqns_in, observed_rows, outputs_of_instant}
use Rattle.law_choices.specs.Observed.Contracts.{IsOther}
use Rattle.law_choices.proofs.ObservedLemmas.Removable.{AllBase}
use Rattle.law_choices.proofs.EmbeddedLemmas.Lines.{body_then, lines_in, names_then, told_by, told_to}
use Rattle.law_choices.proofs.EmbeddedLemmas.Observed.{block_holds}
use Rattle.law_choices.proofs.EmbeddedLemmas.Put.{behind_put, same_put}

-- What is known of a node with a contract that can be observed.
pub record IsWatched (n : Node) (c : Contract) : Type 0 where
  pub contract : n.contract ≡ Some c
  pub base : AllBase n.outputs
  pub known : (x : List ℕ) → IsTrue (interface n x) → IsOther x
  pub few : length n.outputs < 1000000
  pub scoped : BlockScoped (interface n) no_names c.body
  pub inner : BlockNames IsOther c.body
  pub right : BlockRight (λ x. on_base (declares n.inputs x || declares n.outputs x)) c.body
  pub assume_right : TellsOnBase (standing_of c.body (λ x. on_base (declares n.inputs x || declares n.outputs x))) c.assume
  pub enforce_right : TellsOnBase (standing_of c.body (λ x. on_base (declares n.inputs x || declares n.outputs x))) c.enforce
  pub quiet : BlockCallsNothing c.body
  pub assume_quiet : ToldCallsNothing c.assume
  pub enforce_quiet : ToldCallsNothing c.enforce

-- ---- the instants of the observer

abbrev pub observing_in : Node → Contract → Eqns → List Value → Instant → Instant
observing_in n c es row now =
    in_node (λ x. if declares (outputs_at c.span) x then names_then n c es now x else Absent) (row ++ outputs_of_instant n.outputs now) [] (body_then n c es now) nothing

abbrev pub observing_of : Node → Contract → List Value → Instant → Instant
observing_of n c row now = observing_in n c (eqns_in c.body) row now

abbrev pub instants_of : Node → Contract → List (List Value) → Past → Past
instants_of n c [] past = []
instants_of n c (row ∷ rows) [] = []
instants_of n c (row ∷ rows) (now ∷ past) = observing_of n c row now ∷ instants_of n c rows past

told_same : (o : Option Expr) (i rest : Instant) → SameTold o i (of_two (in_right (told_to o i)) rest)
told_same None i rest = tt
told_same (Some e) i rest = λ p. refl

pub is_observed : (n : Node) (c : Contract) (row : List Value) (now : Instant) → IsObserved c now (observing_of n c row now)
is_observed n c row now =
    let behind : lines_in n c now ≡ behind_eqns (eqns_in c.body) (part Equations (part Body (observing_of n c row now))) = sym (behind_put (eqns_in c.body) (part Equations (part Observer now)) (lines_in n c now)) in
    record {
      body = same_put (eqns_in c.body) (part Equations (part Observer now)) (lines_in n c now);
      assume = subst (SameTold c.assume (part Assume now)) behind (told_same c.assume (part Assume now) (part Tail (lines_in n c now)));
      enforce = subst (λ i. SameTold c.enforce (part Enforce now) (part Tail i)) behind (told_same c.enforce (part Enforce now) (part Tail (part Tail (lines_in n c now))));
    }

-- ---- one instant

fresh_in : (types : List TypeDecl) (L : Nodes) (b : Block) (names last : Names) (g : Given) (now : Instant) → scope types real L b false names last g now (Fresh ∷ []) ≡ B false
fresh_in types L (block ds es) names last g now = refl

module _ (types : List TypeDecl) (N M : Nodes) (n : Node) (c : Contract) (w : IsWatched n c) where
  abbrev last_before : Past → Names
  last_before past = lasts (λ k. real.constant (constant_of types k)) n.outputs past absent

  abbrev seen_names : List Value → Instant → Names
  seen_names row now x = if declares n.outputs x then now (Named x ∷ []) else input_of n.inputs row absent x

  abbrev pub Meets : List Value → Past → Instant → Instant → Type 0
  Meets row past free now = (p : Place) → now p ≡ node types real N n row (given past free) now p

  contract_there : (row : List Value) (past : Past) (free now : Instant) → Meets row past free now → now (Observer ∷ Fresh ∷ []) ≡ B false
  contract_there row past free now h =
      h (Observer ∷ Fresh ∷ []) ∙ ap (λ o. observer types real N o (seen_names row now) (last_before past) (given past free) now (Observer ∷ Fresh ∷ [])) w.contract
      ∙ fresh_in types N c.body (seen_names row now) (last_before past) (given (own (parts Observer past)) (part Observer free)) (part Observer now)

  instant_law : (b : Block) → c.body ≡ b → (past before : Past) → AllByRecursion (λ (t : Instant). t (Observer ∷ Fresh ∷ []) ≡ B false) past → parts Body before ≡ map (body_then n c (eqns_in b)) past
      → (row : List Value) → length row ≡ length n.inputs → (free now : Instant) → Meets row past free now → (other : Instant)
      → observing_in n c (eqns_in b) row now ≡ node types real M (observer_of n c) (row ++ outputs_of_instant n.outputs now) (given before other) (observing_in n c (eqns_in b) row now)
  instant_law (block ds es) e past before there made row l free now h other =
      let at_block : part Observer now ≡ scope types real N c.body false (seen_names row now) (last_before past) (given (own (parts Observer past)) (part Observer free)) (part Observer now) =
      fun_ext (λ p. h (Observer ∷ p) ∙ ap (λ o. observer types real N o (seen_names row now) (last_before past) (given past free) now (Observer ∷ p)) w.contract) in
      let at_assume : part Assume now ≡ told_by types N c.assume (read_in types real N c.body (seen_names row now) (part Observer now)) (last_in types real N c.body (own (parts Observer past)) (last_before past)) (given (parts Assume past) (part Assume free)) (part Assume now) =
      fun_ext (λ p. h (Assume ∷ p) ∙ ap (λ o. observer types real N o (seen_names row now) (last_before past) (given past free) now (Assume ∷ p)) w.contract) in
      let at_enforce : part Enforce now ≡ told_by types N c.enforce (read_in types real N c.body (seen_names row now) (part Observer now)) (last_in types real N c.body (own (parts Observer past)) (last_before past)) (given (parts Enforce past) (part Enforce free)) (part Enforce now) =
      fun_ext (λ p. h (Enforce ∷ p) ∙ ap (λ o. observer types real N o (seen_names row now) (last_before past) (given past free) now (Enforce ∷ p)) w.contract) in
      let standing = λ (x : List ℕ). on_base (declares n.inputs x || declares n.outputs x) in
      let holds = block_holds types N M n c w.base w.known w.few ds es (subst (BlockScoped (interface n) no_names) e w.scoped) (subst (BlockNames IsOther) e w.inner) past before there made
      (subst (BlockRight standing) e w.right).1 (subst BlockCallsNothing e w.quiet) (subst (λ b. TellsOnBase (standing_of b standing) c.assume) e w.assume_right) w.assume_quiet (subst (λ b. TellsOnBase (standing_of b standing) c.enforce) e w.enforce_right) w.enforce_quiet
      row l free now
      (at_block ∙ ap (λ b. scope types real N b false (seen_names row now) (last_before past) (given (own (parts Observer past)) (part Observer free)) (part Observer now)) e)
      (at_assume ∙ ap (λ b. told_by types N c.assume (read_in types real N b (seen_names row now) (part Observer now)) (last_in types real N b (own (parts Observer past)) (last_before past)) (given (parts Assume past) (part Assume free)) (part Assume now)) e)
      (at_enforce ∙ ap (λ b. told_by types N c.enforce (read_in types real N b (seen_names row now) (part Observer now)) (last_in types real N b (own (parts Observer past)) (last_before past)) (given (parts Enforce past) (part Enforce free)) (part Enforce now)) e)
      (part Body other) in
      let ins : Names = input_of (n.inputs ++ inputs_for 0 n.outputs) (row ++ outputs_of_instant n.outputs now) absent in
      let last : Names = lasts (λ k. real.constant (constant_of types k)) (outputs_at c.span) before absent in
      ap (λ i. in_node (λ x. if declares (outputs_at c.span) x then names_then n c es now x else Absent) (row ++ outputs_of_instant n.outputs now) [] i nothing)
      (holds ∙ ap (λ b. scope types real M (with_lines b n.outputs (lines_of n c)) false ins last (given (own (parts Body before)) (part Body other)) (body_then n c es now)) (sym e))

  -- ---- one after another

  -- instants do what the node does, each after those before it
  abbrev pub Goes : List (List Value) → Past → Type 0
  Goes [] [] = ⊤
  Goes [] (now ∷ past) = ⊥
  Goes (row ∷ rows) [] = ⊥
  Goes (row ∷ rows) (now ∷ past) = Goes rows past × ((free : Instant) × Meets row past free now)

-- instants do what a node does, whatever is given besides its inputs
abbrev pub GoesAnyhow : List TypeDecl → Nodes → Node → List (List Value) → Past → Type 0
GoesAnyhow types L m [] [] = ⊤
GoesAnyhow types L m [] (now ∷ past) = ⊥
GoesAnyhow types L m (row ∷ rows) [] = ⊥
GoesAnyhow types L m (row ∷ rows) (now ∷ past) = GoesAnyhow types L m rows past × ((free : Instant) (p : Place) → now p ≡ node types real L m row (given past free) now p)

module _ (types : List TypeDecl) (N M : Nodes) (n : Node) (c : Contract) (w : IsWatched n c) where
  all_there : (rows : List (List Value)) (past : Past) → Goes types N M n c w rows past → AllByRecursion (λ (t : Instant). t (Observer ∷ Fresh ∷ []) ≡ B false) past
  all_there [] [] h = tt
  all_there [] (now ∷ past) h = absurd h
  all_there (row ∷ rows) [] h = absurd h
  all_there (row ∷ rows) (now ∷ past) h = (contract_there types N M n c w row past h.1.0 now h.1.1, all_there rows past h.0)

  all_made : (rows : List (List Value)) (past : Past) → Goes types N M n c w rows past → parts Body (instants_of n c rows past) ≡ map (body_then n c (eqns_in c.body)) past
  all_made [] [] h = refl
  all_made [] (now ∷ past) h = absurd h
  all_made (row ∷ rows) [] h = absurd h
  all_made (row ∷ rows) (now ∷ past) h = ap (λ is. body_then n c (eqns_in c.body) now ∷ is) (all_made rows past h.0)

  pub observer_goes : (rows : List (List Value)) (past : Past) → AllByRecursion (λ (row : List Value). length row ≡ length n.inputs) rows → Goes types N M n c w rows past
      → GoesAnyhow types M (observer_of n c) (observed_rows n.outputs rows past) (instants_of n c rows past)
  observer_goes [] [] l h = tt
  observer_goes [] (now ∷ past) l h = absurd h
  observer_goes (row ∷ rows) [] l h = absurd h
  observer_goes (row ∷ rows) (now ∷ past) l h = (
    observer_goes rows past l.1 h.0,
    λ free p. ap (λ (i : Instant). i p) (instant_law types N M n c w c.body refl past (instants_of n c rows past) (all_there rows past h.0) (all_made rows past h.0) row l.0 h.1.0 now h.1.1 free),
  )

  pub all_observed : (rows : List (List Value)) (past : Past) → Goes types N M n c w rows past → Along (IsObserved c) past (instants_of n c rows past)
  all_observed [] [] h = tt
  all_observed [] (now ∷ past) h = absurd h
  all_observed (row ∷ rows) [] h = absurd h
  all_observed (row ∷ rows) (now ∷ past) h = (is_observed n c row now, all_observed rows past h.0)
