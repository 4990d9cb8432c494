-- The registers of a node hold zeros of their types at the start, so what they hold at first is in shape.
use Rattle.std.proofs.Common.{◌≡◌, ℕ, List, [], ◌∷◌, ◌++◌, refl, sym, ap, subst, ◌∙◌, inl, inr}
use Rattle.std.specs.Prelude.{Bool, true, false, IsTrue, if◌then◌else◌, Option, None, Some, ⊤, reverse}
use Rattle.std.specs.Str.{bytes_eq}
use Rattle.hp_base.specs.declared.ty.Ty.{Ty}
use Rattle.hp_base.specs.declared.ty.Ty.TheVariants as ty
use Rattle.hp_tree.specs.declared.program.Item.{Item}
use Rattle.hp_tree.specs.declared.program.Item.TheVariants.{TypeItem, NodeItem}
use Rattle.hp_tree.specs.Blocks.{Decl}
use Rattle.hp_tree.specs.Programs.{TypeDecl, Contract, Node}
use Rattle.hp_tree.specs.Instant.{Step, Inputs, Controls, Body, Observer, Assume, Enforce, Named, Head, Tail, Place, Instant, part}
use Rattle.hp_tree.specs.Meaning.{types_of, controls_of, node_among}
use Rattle.hp_tree.specs.ExpressionTypes as tree
use Rattle.hp_tree.specs.ExpressionTypes.{typed_in, untyped, type_with}
use Rattle.hp_base.specs.Known.Known.{lookup}
use Rattle.hp_typing.specs.Scopes.{with_variables, inside_node}
use Rattle.law_judged.specs.Typed.Scopes.{Scope}
use Rattle.law_judged.specs.Named.Scoped.{EachNode}
use Rattle.hp_init.specs.Classes.{Assignment}
use Rattle.hp_meaning.specs.Causal.Sources.{below}
use Rattle.hp_meaning.specs.Contract.Forgetting.{ContractsCallNothing}
use Rattle.hp_meaning.specs.Contract.Memory.{memory}
use Rattle.hp_meaning.specs.Contract.Slots.{Slot, input, control, registers_among, registers, zero_at, callee_slots, slots_of_block, slots_of_contract}
use Rattle.law_values.specs.Valued.Judged.{no_lasts, lasts_in, body_scope, NodeSound, ContractSound, PlainContract}
use Rattle.law_values.specs.Valued.Values.{Classing, NodeAccepted, AreAccepted, scope_behind, class_behind, either_of}
use Rattle.law_values.proofs.ValuedLemmas.Typed.{some_is}
use Rattle.law_values.proofs.ValuedLemmas.Scoped.{not_declared}
use Rattle.law_values.specs.Filled.Firsts.{ContractHasFirsts, NodeHasFirsts}
use Rattle.law_values.proofs.FilledLemmas.Programs.{no_variables, outputs_have}
use Rattle.law_values.proofs.FilledLemmas.Constructors.{ConsTyped, cons_inside, cons_behind, types_behind, behind_one}
use Rattle.law_values.proofs.FilledLemmas.TypesAgree.{Agrees, agrees_at}
use Rattle.law_games.specs.Settled.Laws.{OwnsConstructors, HasZeros}
use Rattle.law_games.proofs.SettledLemmas.NoCalls.{contract_none}
use Rattle.law_games.proofs.SettledLemmas.Calling.{ContractCalls}
use Rattle.law_games.proofs.SettledLemmas.AllCall.{block_calls, contract_calls}
use Rattle.law_games.specs.Wiretyped.Kept.{LastsKept, BlockKept, ContractKept}
use Rattle.law_games.specs.Wiretyped.Callees.{none_kept, AloneKept, OwnKept, CalleeKept}
use Rattle.law_games.specs.Wiretyped.Laws.{InShape}
use Rattle.law_games.proofs.WiretypedLemmas.Programs.{at_start}
use Rattle.law_games.proofs.WiretypedLemmas.SameMemory.{memory_same}
use Rattle.law_games.proofs.ReadyGamesLemmas.Pieces.{Apart, apart_below, anywhere, begins, either, Piece, loose, under, join, beside}
use Rattle.law_games.proofs.ReadyGamesLemmas.Registers.{empty, both, a_name, lasts_slots, lasts_piece}
use Rattle.law_games.proofs.ReadyGamesLemmas.RegisterBlocks.{block_piece, contract_piece}

-- ---- inputs and controllable variables are no registers

abbrev free_of : (Place → Ty → Slot) → Place → Ty → List Slot
free_of kind p ty.Int = []
free_of kind p t = kind p t ∷ []

abbrev row_slots : (Place → Ty → Slot) → List Decl → (Place → Place) → List Slot
row_slots kind [] w = []
row_slots kind (d ∷ ds) w = free_of kind (w (Head ∷ [])) d.ty ++ row_slots kind ds (below Tail w)

inputs_no : (ds : List Decl) (w : Place → Place) → registers_among (row_slots input ds w) ≡ []
inputs_no [] w = refl
inputs_no (d ∷ ds) w = by d.ty (inputs_no ds (below Tail w))
  where
    by : (t : Ty) → registers_among (row_slots input ds (below Tail w)) ≡ [] → registers_among (free_of input (w (Head ∷ [])) t ++ row_slots input ds (below Tail w)) ≡ []
    by ty.Bool e = e
    by ty.Int e = e
    by (ty.Enum t) e = e

controls_no : (ds : List Decl) (w : Place → Place) → registers_among (row_slots control ds w) ≡ []
controls_no [] w = refl
controls_no (d ∷ ds) w = by d.ty (controls_no ds (below Tail w))
  where
    by : (t : Ty) → registers_among (row_slots control ds (below Tail w)) ≡ [] → registers_among (free_of control (w (Head ∷ [])) t ++ row_slots control ds (below Tail w)) ≡ []
    by ty.Bool e = e
    by ty.Int e = e
    by (ty.Enum t) e = e

-- ---- what contracts and bodies read

abbrev seen : Node → tree.Scope
seen n = typed_in n.inputs (typed_in n.outputs untyped)

module _ (types : List TypeDecl) (among : List ℕ → Option Node) where
  agrees_seen : (s : Scope) (n : Node) → s.variables ≡ [] → NodeSound types among s n → NodeHasFirsts types n → Agrees types (inside_node s n) (seen n)
  agrees_seen s n e ok f x t h =
      agrees_at types among (inside_node s n) n.inputs (typed_in n.outputs untyped) x t ok.0.0 f.inputs h
      (λ g. agrees_at types among (inside_node s n) n.outputs untyped x t ok.0.1 f.outputs h
      (λ o.
      let k : lookup s.variables x ≡ Some t = sym (not_declared x n.inputs s g) ∙ sym (not_declared x n.outputs (with_variables s n.inputs) o) ∙ h in
      let none : None ≡ Some t = sym (ap (λ z. lookup z x) e) ∙ k in
      absurd (cc)))

  agrees_body : (s : Scope) (n : Node) → s.variables ≡ [] → NodeSound types among s n → NodeHasFirsts types n → Agrees types (body_scope s n) (typed_in (controls_of n.contract) (seen n))
  agrees_body s n e ok f x t h =
      agrees_at types among (body_scope s n) (controls_of n.contract) (seen n) x t ok.1.1.0 f.controls h
      (λ g. agrees_seen s n e ok f x t (sym (not_declared x (controls_of n.contract) (inside_node s n) g) ∙ h))

-- the constructors of a scope are those of the types
conses_behind : (types : List TypeDecl) (items : List Item) (more : List TypeDecl) → types ≡ types_behind items ++ more → ConsTyped types (scope_behind items)
conses_behind types items more e c u z = ap (λ r. type_with r c) e ∙ (cons_behind items).found c u z more

abbrev decls_by : Option Node → List Decl
decls_by None = []
decls_by (Some n) = n.outputs

-- ---- first steps that are others

no_contract : (k : Option Step) → a_name k → either (begins Observer) (both Assume Enforce) k → ⊥
no_contract k h (inl e) = let f : Some (Named h.0) ≡ Some Observer = sym h.1 ∙ e in cc
no_contract k h (inr (inl e)) = let f : Some (Named h.0) ≡ Some Assume = sym h.1 ∙ e in cc
no_contract k h (inr (inr e)) = let f : Some (Named h.0) ≡ Some Enforce = sym h.1 ∙ e in cc

no_body : (k : Option Step) → either (begins Observer) (both Assume Enforce) k → begins Body k → ⊥
no_body k (inl h) e = let f : Some Observer ≡ Some Body = sym h ∙ e in cc
no_body k (inr (inl h)) e = let f : Some Assume ≡ Some Body = sym h ∙ e in cc
no_body k (inr (inr h)) e = let f : Some Enforce ≡ Some Body = sym h ∙ e in cc

no_part : (k : Option Step) → a_name k → either (either (begins Observer) (both Assume Enforce)) (begins Body) k → ⊥
no_part k h (inl e) = no_contract k h e
no_part k h (inr e) = let f : Some (Named h.0) ≡ Some Body = sym h.1 ∙ e in cc

abbrev no_slots : List ℕ → (Place → Place) → List Slot
no_slots f w = []

abbrev no_outputs : List ℕ → List Decl
no_outputs f = []

module _ (types : List TypeDecl) (owns : (t : List ℕ) → OwnsConstructors types (ty.Enum t)) where
  -- ---- the instance of a node whose contract makes no call

  module _ (earlier : List Item) (class : Assignment) (n : Node) (acc : NodeAccepted types (node_among earlier) (scope_behind earlier) class n) (fs : EachNode (NodeHasFirsts types) earlier) (f : NodeHasFirsts types n) (conses : ConsTyped types (scope_behind earlier)) where
    abbrev s : Scope
    s = scope_behind earlier

    abbrev outer : ConsTyped types (inside_node (scope_behind earlier) n)
    outer = cons_inside types n.outputs (with_variables (scope_behind earlier) n.inputs) (cons_inside types n.inputs (scope_behind earlier) conses)

    alone_piece : ContractCalls false n.contract → (w : Place → Place) → Apart w → Piece anywhere w (callee_slots types (Some n) w) (λ i. AloneKept types (scope_behind earlier) n i i)
    alone_piece k w a = by n.contract k acc.plain_contract f.contract acc.sound.1.1.1.1.1
      where
        by : (o : Option Contract) → ContractCalls false o → PlainContract o → ContractHasFirsts types o → ContractSound types (node_among earlier) (inside_node (scope_behind earlier) n) (lasts_in n.outputs no_lasts) o
            → Piece anywhere w (elim o [ None ↦ [] | Some c ↦ lasts_slots types n.outputs w ++ slots_of_contract types no_outputs no_slots (Some c) (seen n) w ]) (λ i. OwnKept types (scope_behind earlier) n o i i)
        by None k p fc ok = empty w (λ i. ⊤) (λ i. tt)
        by (Some c) k p fc ok =
            loose (either a_name (either (begins Observer) (both Assume Enforce))) anywhere w (lasts_slots types n.outputs w ++ slots_of_contract types no_outputs no_slots (Some c) (seen n) w)
            (λ i. LastsKept types (inside_node (scope_behind earlier) n) n.outputs i × ContractKept types none_kept (inside_node (scope_behind earlier) n) (Some c) i i) (λ i. OwnKept types (scope_behind earlier) n (Some c) i i)
            (join a_name (either (begins Observer) (both Assume Enforce)) w (lasts_slots types n.outputs w) (slots_of_contract types no_outputs no_slots (Some c) (seen n) w)
            (λ i. LastsKept types (inside_node (scope_behind earlier) n) n.outputs i) (λ i. ContractKept types none_kept (inside_node (scope_behind earlier) n) (Some c) i i) a
            (lasts_piece types owns (node_among earlier) (inside_node (scope_behind earlier) n) n.outputs w a acc.sound.0.1 f.outputs)
            (contract_piece types owns (node_among earlier) none_kept false (outputs_have types earlier fs) no_outputs (λ h g m e. absurd (cc)) no_slots (λ h g m e. absurd (cc))
            (Some c) (inside_node (scope_behind earlier) n) (lasts_in n.outputs no_lasts) (seen n) (agrees_seen types (node_among earlier) (scope_behind earlier) n (no_variables earlier) acc.sound f) outer w a fc k p ok)
            (λ h x y. no_contract h x y))
            (λ h x. tt) (λ i h. h)

  -- the nodes that may be called, by their names
  called_piece : (class : Classing) (items : List Item) (more : List TypeDecl) → types ≡ types_behind items ++ more → AreAccepted types class items → EachNode (NodeHasFirsts types) items → ContractsCallNothing items
      → (f : List ℕ) (n : Node) → node_among items f ≡ Some n → (w : Place → Place) → Apart w → Piece anywhere w (callee_slots types (Some n) w) (λ i. CalleeKept types items f i i)
  called_piece class [] more t acc fs k f n e w a = absurd (cc)
  called_piece class (TypeItem d ∷ items) more t acc fs k f n e w a = called_piece class items (d ∷ more) (t ∙ behind_one (types_behind items) d more) acc fs k f n e w a
  called_piece class (NodeItem c ∷ items) more t acc fs k f n e w a = by (bytes_eq c.name f) (λ e. called_piece (class_behind class) items more t acc.1 fs.1 k.1 f n e w a) e
    where
      by : (b : Bool) → (node_among items f ≡ Some n → Piece anywhere w (callee_slots types (Some n) w) (λ i. CalleeKept types items f i i)) → (if b then Some c else node_among items f) ≡ Some n
          → Piece anywhere w (callee_slots types (Some n) w) (λ i. either_of b (AloneKept types (scope_behind items) c i i) (CalleeKept types items f i i))
      by true h e =
          subst (λ (m : Node). Piece anywhere w (callee_slots types (Some m) w) (λ i. AloneKept types (scope_behind items) c i i)) (some_is c n e)
          (alone_piece items _ c acc.0 fs.1 fs.0 (conses_behind types items more t) (contract_none c.contract (λ p. p) k.0) w a)
      by false h e = h e

  -- ---- a node of a program

  module _ (program : List Item) (class : Classing) (earlier : List Item) (n : Node) (more : List TypeDecl) (split : types ≡ types_behind earlier ++ more) (z : HasZeros types class earlier n)
      (found : (f : List ℕ) (k : Node) → node_among earlier f ≡ Some k → node_among (reverse program) f ≡ Some k) where
    abbrev here : Place → Place
    here p = p

    abbrev outs : List ℕ → List Decl
    outs f = decls_by (node_among (reverse program) f)

    abbrev called : List ℕ → (Place → Place) → List Slot
    called f w = callee_slots types (node_among (reverse program) f) w

    abbrev within : Scope
    within = inside_node (scope_behind earlier) n

    instances : IsTrue true → (f : List ℕ) (k : Node) → node_among earlier f ≡ Some k → (w : Place → Place) → Apart w → Piece anywhere w (called f w) (λ i. CalleeKept types earlier f i i)
    instances h f k e w a =
        subst (λ o. Piece anywhere w (callee_slots types o w) (λ i. CalleeKept types earlier f i i)) (sym (found f k e))
        (called_piece (class_behind class) earlier more split z.accepted.1 z.firsts.1 z.called f k e w a)

    outs_are : IsTrue true → (f : List ℕ) (k : Node) → node_among earlier f ≡ Some k → outs f ≡ k.outputs
    outs_are h f k e = ap decls_by (found f k e)

    abbrev conses : ConsTyped types (scope_behind earlier)
    conses = conses_behind types earlier more split

    abbrev in_contract : List Slot
    in_contract = slots_of_contract types outs called n.contract (seen n) here

    abbrev in_body : List Slot
    in_body = slots_of_block types outs called n.body (typed_in (controls_of n.contract) (seen n)) (below Body here)

    abbrev all : List Slot
    all = row_slots input n.inputs (below Inputs here) ++ (lasts_slots types n.outputs here ++ (row_slots control (controls_of n.contract) (below Controls here) ++ (in_contract ++ in_body)))

    node_piece : Piece (either a_name (either (either (begins Observer) (both Assume Enforce)) (begins Body))) here all
        (λ i. LastsKept types within n.outputs i × (ContractKept types (CalleeKept types earlier) within n.contract i i × BlockKept types (CalleeKept types earlier) (body_scope (scope_behind earlier) n) n.body (part Body i) (part Body i)))
    node_piece =
        let a : Apart here = λ p q e. e in
        let ok = z.accepted.0.sound in
        let kept = CalleeKept types earlier in
        let firsts = outputs_have types earlier z.firsts.1 in
        let outer : ConsTyped types (inside_node (scope_behind earlier) n) = cons_inside types n.outputs (with_variables (scope_behind earlier) n.inputs) (cons_inside types n.inputs (scope_behind earlier) conses) in
        let own : ConsTyped types (body_scope (scope_behind earlier) n) = cons_inside types (controls_of n.contract) (inside_node (scope_behind earlier) n) outer in
        beside (either a_name (either (either (begins Observer) (both Assume Enforce)) (begins Body))) here (row_slots input n.inputs (below Inputs here))
        (lasts_slots types n.outputs here ++ (row_slots control (controls_of n.contract) (below Controls here) ++ (in_contract ++ in_body)))
        (λ i. LastsKept types within n.outputs i × (ContractKept types (CalleeKept types earlier) within n.contract i i × BlockKept types (CalleeKept types earlier) (body_scope (scope_behind earlier) n) n.body (part Body i) (part Body i)))
        (inputs_no n.inputs (below Inputs here))
        (join a_name (either (either (begins Observer) (both Assume Enforce)) (begins Body)) here (lasts_slots types n.outputs here) (row_slots control (controls_of n.contract) (below Controls here) ++ (in_contract ++ in_body))
        (λ i. LastsKept types within n.outputs i)
        (λ i. ContractKept types (CalleeKept types earlier) within n.contract i i × BlockKept types (CalleeKept types earlier) (body_scope (scope_behind earlier) n) n.body (part Body i) (part Body i)) a
        (lasts_piece types owns (node_among earlier) within n.outputs here a ok.0.1 z.firsts.0.outputs)
        (beside (either (either (begins Observer) (both Assume Enforce)) (begins Body)) here (row_slots control (controls_of n.contract) (below Controls here)) (in_contract ++ in_body)
        (λ i. ContractKept types (CalleeKept types earlier) within n.contract i i × BlockKept types (CalleeKept types earlier) (body_scope (scope_behind earlier) n) n.body (part Body i) (part Body i))
        (controls_no (controls_of n.contract) (below Controls here))
        (join (either (begins Observer) (both Assume Enforce)) (begins Body) here in_contract in_body
        (λ i. ContractKept types (CalleeKept types earlier) within n.contract i i) (λ i. BlockKept types (CalleeKept types earlier) (body_scope (scope_behind earlier) n) n.body (part Body i) (part Body i)) a
        (contract_piece types owns (node_among earlier) kept true firsts outs outs_are called instances n.contract within (lasts_in n.outputs no_lasts) (seen n)
        (agrees_seen types (node_among earlier) (scope_behind earlier) n (no_variables earlier) ok z.firsts.0) outer here a z.firsts.0.contract (contract_calls n.contract) z.accepted.0.plain_contract ok.1.1.1.1.1)
        (under anywhere Body here in_body (λ i. BlockKept types kept (body_scope (scope_behind earlier) n) n.body i i)
        (block_piece types owns (node_among earlier) kept true firsts outs outs_are called instances n.body (body_scope (scope_behind earlier) n) (lasts_in n.outputs no_lasts) (typed_in (controls_of n.contract) (seen n))
        (agrees_body types (node_among earlier) (scope_behind earlier) n (no_variables earlier) ok z.firsts.0) own (below Body here) (apart_below Body here a) z.firsts.0.body (block_calls n.body) z.accepted.0.plain ok.1.1.1.1.0))
        (λ h x y. no_body h x y)))
        (λ h x y. no_part h x y))

-- What the registers of a node hold at first is in shape, where each constructor is of one type.
pub shaped_at_first : (program : List Item) (class : Classing) (earlier : List Item) (n : Node) (more : List TypeDecl) → ((t : List ℕ) → OwnsConstructors (types_of program) (ty.Enum t)) → types_of program ≡ types_behind earlier ++ more
    → HasZeros (types_of program) class earlier n → ((f : List ℕ) (k : Node) → node_among earlier f ≡ Some k → node_among (reverse program) f ≡ Some k)
    → InShape (types_of program) earlier n (zero_at (registers program n)) (memory program n [])
shaped_at_first program class earlier n more owns split z found =
    let types = types_of program in
    let start : Instant = zero_at (registers program n) in
    let x = node_piece types owns program class earlier n more split z found in
    let h = x.kept start x.told in
    let kept : InShape types earlier n start start = (h.0, (h.1.1, h.1.0)) in
    subst (λ mem. InShape types earlier n start mem) (memory_same program class earlier n start [] z.accepted found) (at_start types class earlier n start start z.accepted kept)
