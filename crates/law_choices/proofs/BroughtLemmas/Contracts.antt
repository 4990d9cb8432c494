-- A walk over a contract finds, beside its observer, what its comparisons bring, in the order of slots.
use Rattle.std.proofs.Common.{◌≡◌, ◌⊎◌, ⊎_elim, ℕ, ◌+◌, Bool, false, List, [], ◌∷◌, ◌++◌, Option, None, Some, refl, sym, ap, subst, ◌∙◌}
use Rattle.std.proofs.lemmas.List.{append_assoc, append-nil}
use Rattle.hp_base.specs.declared.span.Span.{Span}
use Rattle.hp_base.specs.declared.ty.Const.{Const}
use Rattle.hp_base.specs.declared.ty.Ty.{Ty}
use Rattle.hp_base.specs.declared.ty.Ty.TheVariants as ty
use Rattle.hp_base.specs.Known.Known.{lookup}
use Rattle.hp_tree.specs.Blocks.{Decl, Block, block, Eqn, Eqns, no_eqn, more_eqns, eqns_of, list_of_eqns}
use Rattle.hp_tree.specs.Expressions.{Expr}
use Rattle.hp_tree.specs.ExpressionTypes as tree
use Rattle.hp_tree.specs.ExpressionTypes.{typed_in, untyped}
use Rattle.hp_tree.specs.Instant.{Assume, Enforce, Equations, Instance, Observer}
use Rattle.hp_tree.specs.Meaning.{declares}
use Rattle.hp_tree.specs.Programs.{Contract, Node, TypeDecl}
use Rattle.hp_typing.specs.Scopes.{inside, inside_node, with_variables}
use Rattle.hp_meaning.specs.Contract.Slots.{FreePlace, Slot}
use Rattle.law_judged.specs.Named.Scoped.{BlockScoped, NodeScoped, also, interface, no_names, ContractScoped}
use Rattle.law_judged.specs.Replaced.Fitting.{BlockNames, ContractNames}
use Rattle.law_judged.specs.Typed.Scopes.{Scope}
use Rattle.law_judged.proofs.NamedLemmas.Sets.{or_cases}
use Rattle.law_values.specs.Valued.Judged.{BlockSound, ConstantIs, ContractSound, EqnsSound, Lasts, NodeSound, TestSound, ToldSound, lasts_in, lasts_of, no_lasts}
use Rattle.hp_automata.specs.Lowering.{Enumerations, Types, declaring, lowered_body_of, lowered_eqn, lowered_eqns, lowered_node, same_name, types_of}
use Rattle.hp_automata.specs.Renaming.{renamed}
use Rattle.law_automata.specs.Lowered.Removable.{BlockOk, ContractOk, NodeOk, none_known}
use Rattle.law_automata.specs.Readied.Constants.{BlockTypes, EqnsTypes, HasConstant, NodeTypes}
use Rattle.law_automata.specs.Readied.Sound.{AroundOld}
use Rattle.law_automata.proofs.LoweredLemmas.Nodes.{itself_renames}
use Rattle.law_automata.proofs.ReadiedLemmas.Places.{Place, scope_renamed}
use Rattle.law_automata.proofs.ReadiedLemmas.SoundNodes.{place, sound_law}
use Rattle.law_automata.proofs.ReadiedLemmas.SoundSteps.{within_block}
use Rattle.law_drawing.proofs.InshapeLemmas.TypesRead.{Agrees, agrees_inside, agrees_seen, own_types}
use Rattle.law_drawing.proofs.SteeredLemmas.Uncalled.{BlockCallsNothing, ContractCallsNothing, ToldCallsNothing}
use Rattle.law_equations.specs.Flattened.Flatten.{Prefix, below}
use Rattle.hp_watch.specs.Observing.{all_handed_on, condition_of, inputs_for, lines_of, observer_of, outputs_at, with_lines}
use Rattle.hp_watch.specs.Walk.{behind, walk_block, walk_condition, walk_contract, walk_eqns}
use Rattle.law_choices.specs.Observed.Contracts.{IsOther}
use Rattle.law_choices.specs.Places.Groups.{groups_of_block, groups_of_contract, groups_of_equations, groups_of_told}
use Rattle.law_choices.proofs.BroughtLemmas.Apiece.{Apiece, apiece-as, apiece-at, apiece-nothing, apiece-two}
use Rattle.law_choices.proofs.BroughtLemmas.Brought.{brought, brought_in_block, free_types}
use Rattle.law_choices.proofs.BroughtLemmas.Rows.{R, rows-append}
use Rattle.law_choices.proofs.BroughtLemmas.Seen.{Knows, Reading, expr-sees}
use Rattle.law_choices.proofs.BroughtLemmas.Walks.{Judging, eqns-see, reading-at}
use Rattle.law_choices.proofs.ObservedLemmas.Fitting.{none}
use Rattle.law_choices.proofs.ObservedLemmas.Known.{IsKnown}
use Rattle.law_choices.proofs.ObservedLemmas.Removable.{observer_ok}
use Rattle.law_choices.proofs.ObservedLemmas.Scoped.{observer_scoped}
use Rattle.law_choices.proofs.ObservedLemmas.Sound.{front_sound, observer_sound, old_grows, old_names, old_scope, scoped_front}
use Rattle.law_choices.proofs.ObservedLemmas.Swapped.{eqns_to, test_to, to}
use Rattle.law_choices.proofs.PlacesLemmas.Slots.{outputs_slots}

-- ---- lines behind a block

types_front : (P : Ty → Type 0) (es : Eqns) (more : List Eqn) → EqnsTypes P (eqns_of (list_of_eqns es ++ more)) → EqnsTypes P es
types_front P no_eqn more h = tt
types_front P (more_eqns e es) more h = (h.0, types_front P es more h.1)

low_behind : (enums : Enumerations) (tys : Types) (es : Eqns) (more : List Eqn) → lowered_eqns enums same_name tys 0 (eqns_of (list_of_eqns es ++ more)) ≡ lowered_eqns enums same_name tys 0 es ++ lowered_eqns enums same_name tys 0 (eqns_of more)
low_behind enums tys no_eqn more = refl
low_behind enums tys (more_eqns e es) more = ap (λ xs. lowered_eqn enums same_name tys 0 e ∷ xs) (low_behind enums tys es more)

handed_none : (given : List ℕ → List Ty) (r : Scope) (enums : Enumerations) (tys : Types) (i : ℕ) (ds : List Decl) → R given r (lowered_eqns enums same_name tys 0 (eqns_of (all_handed_on i ds))) ≡ []
handed_none given r enums tys i [] = refl
handed_none given r enums tys i (d ∷ ds) = handed_none given r enums tys (i + 1) ds

module _ (types : List TypeDecl) (enums : Enumerations) (among before : List ℕ → Option Node) (s r : Scope) (empty_s : (x : List ℕ) → lookup s.variables x ≡ None) (empty_r : (x : List ℕ) → lookup r.variables x ≡ None) (none_s : s.variables ≡ []) (conses : r.constructors ≡ s.constructors)
    (constants : (q : Const) → ConstantIs types r q) (known : (f : List ℕ) → lookup r.nodes f ≡ before f) (n : Node) (c : Contract) (is : n.contract ≡ Some c) (k : IsKnown types n) (sound : NodeSound types among s n)
    (typed : NodeTypes (HasConstant enums r) (observer_of n c)) (old : AroundOld (observer_of n c)) where
  abbrev m : Node
  m = observer_of n c

  scoped : NodeScoped m
  scoped = observer_scoped n c is k.scoped k.observable

  ok : NodeOk m
  ok = observer_ok n c is k.ok k.scoped k.base k.observable

  pub observer-ok : NodeSound types before r m
  observer-ok = let o = k.observable in observer_sound types among before s r empty_s empty_r conses constants known n c k.scoped scoped o.interface is o.contract k.alone sound

  -- the observer is sound without automata
  pub low-ok : NodeSound types before r (lowered_node enums m)
  low-ok = sound_law types before enums r m (constants, known) empty_r typed old scoped ok observer-ok

  abbrev outer : Scope
  outer = with_variables (with_variables r (n.inputs ++ inputs_for 0 n.outputs)) (outputs_at c.span)

  -- what the contract sees
  abbrev names : tree.Scope
  names = typed_in n.inputs (typed_in n.outputs untyped)

  around_it : Place types before enums r 0 same_name (types_of m) outer outer (lasts_in m.outputs no_lasts) (lasts_in m.outputs no_lasts) (also (interface m) []) (also no_names m.outputs)
  around_it =
      let h = observer-ok in
      place types before enums r m (constants, known) empty_r scoped.once typed.0 [] (also no_names m.outputs) (λ x q. ⊎_elim (λ w. w) (λ w. absurd (cc w)) (or_cases (declares m.outputs x) false q)) (lasts_in m.outputs no_lasts) old h.1.0.0 h.1.0.1 h.1.1.0

  module _ (given : List ℕ → List Ty) (outs : List ℕ → List Decl) (callee : List ℕ → Prefix → List Slot) (calls : (f : List ℕ) (w : Prefix) → given f ≡ free_types (outputs_slots (outs f) (below Instance w) ++ callee f (below Instance w))) where
    -- of its block, and of its conditions
    abbrev OfBlock : Block → Type 0
    OfBlock b =
        BlockScoped (interface n) no_names b → BlockNames IsOther b → BlockScoped (also (interface m) []) (also no_names m.outputs) (with_lines b n.outputs (lines_of n c))
        → BlockOk none_known 0 b → BlockOk none_known 0 (with_lines b n.outputs (lines_of n c)) → BlockTypes (HasConstant enums r) (with_lines b n.outputs (lines_of n c))
        → BlockSound types before outer (lasts_in m.outputs no_lasts) (with_lines b n.outputs (lines_of n c)) → BlockCallsNothing b → ToldCallsNothing c.assume → ToldCallsNothing c.enforce
        → BlockSound types among (inside_node s n) (lasts_in n.outputs no_lasts) b → ToldSound types among (inside (inside_node s n) b) (lasts_of b (lasts_in n.outputs no_lasts)) c.assume → ToldSound types among (inside (inside_node s n) b) (lasts_of b (lasts_in n.outputs no_lasts)) c.enforce
        → Apiece (λ es. let x = walk_block b es in let y = walk_condition c.assume x.1 in behind (x.0 ++ y.0) (walk_condition c.enforce y.1)) (brought_in_block given outer (lowered_body_of enums (types_of m) n.span (with_lines b n.outputs (lines_of n c))))
        (λ w. groups_of_block types outs callee b names (below Observer w) ++ (groups_of_told types outs callee c.assume (tree.scope_of b names) (below Assume w) ++ groups_of_told types outs callee c.enforce (tree.scope_of b names) (below Enforce w)))

    -- conditions, which are judged in a scope without nodes
    told-moved : (X judged : Scope) (lasts : Lasts) → to types among none [] X ≡ judged → (q : Option Expr) → ToldCallsNothing q → ToldSound types among X lasts q → ToldSound types before judged lasts q
    told-moved X judged lasts e None a h = tt
    told-moved X judged lasts e (Some q) a h = subst (λ z. TestSound types before z lasts q) e (test_to types among before [] X lasts q a h)

    told-sees : (judged new : Scope) (inside_names : tree.Scope) (lasts : Lasts) → Reading types before given outs callee calls judged new same_name inside_names → (q : Option Expr) (at : Span) → ToldSound types before judged lasts q
        → Apiece (walk_condition q) (brought given new (renamed same_name (condition_of q at))) (λ w. groups_of_told types outs callee q inside_names w)
    told-sees judged new inside_names lasts reading None at h = apiece-nothing (walk_condition None) (λ rest. refl)
    told-sees judged new inside_names lasts reading (Some q) at h = expr-sees types before given outs callee calls judged new same_name inside_names lasts reading q ty.Bool h.1 h.0

    of-block : (b : Block) → OfBlock b
    of-block (block ds es) own inner here okb okm has soundm a a1 a2 h h1 h2 =
        let o = k.observable in
        let lines = lines_of n c in
        let locals = ds ++ n.outputs in
        let tys = declaring (types_of m) locals in
        let X = with_variables (inside_node s n) ds in
        let judged = with_variables (inside_node (to types among none [] s) n) ds in
        let new = with_variables outer locals in
        let inside_names = typed_in ds names in
        let lasts = lasts_in ds (lasts_in n.outputs no_lasts) in
        let same_scope = old_scope types among before s r empty_s empty_r conses constants known n c k.scoped scoped o.interface ds es own inner here in
        let within = within_block types before enums r itself_renames around_it n.span [] locals (eqns_of (list_of_eqns es ++ lines)) okm here has.0 soundm (λ x q. absurd cc) (λ x q. absurd cc) in
        let agrees : Agrees judged inside_names = subst (λ z. Agrees z inside_names) (sym same_scope) (agrees_inside types among (inside_node s n) ds names (own_types types among X es ds h.0) (agrees_seen types among s n none_s sound)) in
        let knows : Knows types before given outs callee calls judged = subst (λ z. Knows types before given outs callee calls z) (sym same_scope) (λ f u q. absurd cc) in
        let j : Judging types before given outs callee calls judged new new inside_names =
        record { grows = old_grows types among before s r empty_s empty_r conses constants known n c k.scoped scoped o.interface ds es own inner here; within = old_names types among before s r empty_s empty_r conses constants known n c k.scoped scoped o.interface ds es own inner here; agrees = agrees; knows = knows } in
        let bared : EqnsSound types before judged lasts es = subst (λ z. EqnsSound types before z lasts es) (sym same_scope) (eqns_to types among before [] es X lasts a h.1.1) in
        let front = front_sound types among before s r empty_s empty_r conses constants known n c k.scoped scoped o.interface ds es own inner here soundm.1.1 in
        let reading = reading-at types before given outs callee calls enums r within judged inside_names j in
        let told : (q : Option Expr) (at : Span) → ToldCallsNothing q → ToldSound types among X lasts q → Apiece (walk_condition q) (brought given new (renamed same_name (condition_of q at))) (λ w. groups_of_told types outs callee q inside_names w) =
        λ q at b t. told-sees judged new inside_names lasts reading q at (told-moved X judged lasts (sym same_scope) q b t) in
        let B = R given new (lowered_eqns enums same_name tys 0 es) in
        let A = brought given new (renamed same_name (condition_of c.assume c.span)) in
        let E = brought given new (renamed same_name (condition_of c.enforce c.span)) in
        let body = apiece-at (walk_eqns es) B (λ w. groups_of_equations types outs callee es inside_names w) (λ w. groups_of_block types outs callee (block ds es) names w) (below Equations) (λ w. refl)
        (eqns-see types before given outs callee calls enums r itself_renames within es okb.1 (scoped_front (also (also (interface m) []) locals) (also (also no_names m.outputs) locals) es lines here.3) (types_front (HasConstant enums r) es lines has.1) front judged inside_names lasts j bared) in
        let first = apiece-two (walk_eqns es) (walk_condition c.assume) B A (λ w. groups_of_block types outs callee (block ds es) names w) (λ w. groups_of_told types outs callee c.assume inside_names w) (below Observer) (below Assume) body (told c.assume c.span a1 h1) in
        let v = λ (xs : List (List Ty)). let x = walk_eqns es xs in behind x.0 (walk_condition c.assume x.1) in
        let gs : Prefix → List (List FreePlace) = λ w. groups_of_block types outs callee (block ds es) names (below Observer w) ++ groups_of_told types outs callee c.assume inside_names (below Assume w) in
        let all = apiece-two v (walk_condition c.enforce) (B ++ A) E gs (λ w. groups_of_told types outs callee c.enforce inside_names w) (λ w. w) (below Enforce) first (told c.enforce c.span a2 h2) in
        let walked = λ (xs : List (List Ty)). let x = walk_eqns es xs in let y = walk_condition c.assume x.1 in behind (x.0 ++ y.0) (walk_condition c.enforce y.1) in
        let target : Prefix → List (List FreePlace) = λ w. groups_of_block types outs callee (block ds es) names (below Observer w) ++ (groups_of_told types outs callee c.assume inside_names (below Assume w) ++ groups_of_told types outs callee c.enforce inside_names (below Enforce w)) in
        apiece-as walked ((B ++ A) ++ E) (brought_in_block given outer (lowered_body_of enums (types_of m) n.span (with_lines (block ds es) n.outputs lines))) target
        (ap (λ z. R given z (lowered_eqns enums same_name tys 0 (eqns_of (list_of_eqns es ++ lines)) ++ [])) (scope_renamed same_name locals outer)
        ∙ ap (R given new) (append-nil (lowered_eqns enums same_name tys 0 (eqns_of (list_of_eqns es ++ lines))) ∙ low_behind enums tys es lines)
        ∙ rows-append given new (lowered_eqns enums same_name tys 0 es) (lowered_eqns enums same_name tys 0 (eqns_of lines))
        ∙ ap (λ ys. B ++ (A ++ (E ++ ys))) (handed_none given new enums tys 0 n.outputs) ∙ ap (λ ys. B ++ (A ++ ys)) (append-nil E) ∙ sym (append_assoc B A E))
        (apiece-at walked ((B ++ A) ++ E) (λ w. gs w ++ groups_of_told types outs callee c.enforce inside_names (below Enforce w)) target (λ w. w)
        (λ w. append_assoc (groups_of_block types outs callee (block ds es) names (below Observer w)) (groups_of_told types outs callee c.assume inside_names (below Assume w)) (groups_of_told types outs callee c.enforce inside_names (below Enforce w))) all)

    -- the walk over the contract finds groups one by one
    pub contract-apiece : Apiece (walk_contract c) (brought_in_block given outer (lowered_node enums m).body) (λ w. groups_of_contract types outs callee c names w)
    contract-apiece =
        let o = k.observable in
        let a : ContractCallsNothing (Some c) = subst ContractCallsNothing is k.alone in
        let h : ContractSound types among (inside_node s n) (lasts_in n.outputs no_lasts) (Some c) = subst (ContractSound types among (inside_node s n) (lasts_in n.outputs no_lasts)) is sound.1.1.1.1.1 in
        let own_ok = k.ok in
        let own_scoped = k.scoped in
        let okc : ContractOk (Some c) = subst ContractOk is own_ok.contract in
        of-block c.body (subst (ContractScoped (interface n)) is own_scoped.contract) (subst (ContractNames IsOther) is o.contract) scoped.body okc.0 ok.body typed.1.1 (observer-ok).1.1.1.1.0 a.0 a.1 a.2 h.0 h.1.0 h.1.1
