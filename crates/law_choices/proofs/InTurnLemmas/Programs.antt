-- The nodes that are made of a program stand in turn, and mean what the program allows.
use Rattle.std.proofs.Common.{◌≡◌, ℕ, zero, suc, ◌+◌, Bool, true, false, ◌||◌, List, [], ◌∷◌, ◌++◌, map, Option, None, Some, refl, sym, ap, ap₂, subst, ◌∙◌, arith}
use Rattle.std.specs.Prelude.{⊤, length, Contains, if◌then◌else◌, reverse}
use Rattle.std.specs.List.{AllByRecursion, range_with_len, flat_map}
use Rattle.std.specs.Str.{bytes_eq}
use Rattle.std.proofs.lemmas.List.{length-map, map-append, reverse-reverse}
use Rattle.std.proofs.lemmas.List.Elements.{Contains-append_right}
use Rattle.hp_base.specs.Kinds.{KindData}
use Rattle.hp_obc.specs.Form.{TypesForm, has_name}
use Rattle.hp_obc.specs.Machines.{ObcType}
use Rattle.hp_tree.specs.declared.program.Item.{Item}
use Rattle.hp_tree.specs.declared.program.Item.TheVariants.{TypeItem, NodeItem}
use Rattle.hp_tree.specs.Blocks.{Decl}
use Rattle.hp_tree.specs.Programs.{TypeDecl, Contract, Node}
use Rattle.hp_tree.specs.Meaning.{types_of, controls_of, node_among}
use Rattle.hp_meaning.specs.Contract.ChosenRuns.{NamesApart}
use Rattle.law_judged.specs.Named.Scoped.{EachNode}
use Rattle.hp_automata.specs.Lowering as lowering
use Rattle.hp_automata.specs.Lowering.{Enumerations, enumerations, lowered_item, lowered_node, lowered_program}
use Rattle.hp_automata.specs.NewNames.{is_new}
use Rattle.law_automata.proofs.LoweredLemmas.Apart.{bytes_same}
use Rattle.hp_flat.specs.declared.node.Variable.{Variable}
use Rattle.hp_flat.specs.Equations.{Right, operator, register, called, FlatEqn}
use Rattle.hp_flat.specs.Nodes.{FlatNode}
use Rattle.law_equations.specs.Fitting.Fitting.{CallsLaw, TargetsLaw}
use Rattle.law_equations.specs.Followed.Programs.{CallsAmong, CallsOnly, Answered}
use Rattle.law_equations.specs.Made.Making.{Known, flat_type, outputs_of}
use Rattle.law_equations.specs.Made.Types.{obc_types}
use Rattle.law_equations.specs.Meaning.Kinding.{Callees, HasValue, kind_of_type, variable_kind, kinds_at, IsWellMade, AnswersOfKinds, OneReactionLaw}
use Rattle.law_equations.specs.Meaning.Reactions.{Answers}
use Rattle.law_equations.specs.Meaning.Scheduling.{IsWithin}
use Rattle.law_equations.specs.Shaped.Shaped.{IsHeaded}
use Rattle.hp_complete.specs.Declaring.{known_of}
use Rattle.hp_complete.specs.Made.{IsMadeOf, AreMadeOf}
use Rattle.law_wellmade.specs.Regular.Kinds.{kinds_of_decls}
use Rattle.hp_watch.specs.Watching.{Observing}
use Rattle.law_automata.proofs.LowerableLemmas.Texts.{each_reverse}
use Rattle.law_games.proofs.GuaranteedLemmas.Apart.{found_among, ready_apart}
use Rattle.law_choices.proofs.ClosedLemmas.ClosedLaws.{each_other, first_one}
use Rattle.law_choices.specs.OnClocks.Meaning.{AreInTurn, HasSome, MeaningLaw}
use Rattle.law_choices.specs.OnClocks.WellMade.{given_to, calls_of, callees_of}
use Rattle.law_choices.proofs.OnClocksLemmas.OneMeaning.{IsTurned, AreTurned, ready_nodes}
use Rattle.law_choices.specs.Choosing.Programs.{steered_by, controls_in}
use Rattle.law_choices.proofs.StreamsLemmas.Signatures.{controls_lowered}
use Rattle.law_choices.specs.Answered.Loops.{Loop, IsClosed, AreClosed, plants, HaveClosed}
use Rattle.law_choices.specs.Answered.Programs.{ClosedProgramLaw}
use Rattle.law_choices.specs.Adding.Called.{SaysSame, CalledLaw}
use Rattle.law_choices.specs.Adding.Choosing.{IsOfNode}
use Rattle.law_choices.specs.Adding.Keeping.{IsBased}
use Rattle.law_choices.specs.Adding.Lifts.{HaveBytes}
use Rattle.law_choices.specs.Adding.Made.{IsReadyMade, ReadyMadeLaw, BytesLaw}
use Rattle.law_choices.specs.Adding.Surveyed.{AllSuit}
use Rattle.law_choices.specs.InTurn.Calling.{CallNothing}
use Rattle.law_choices.specs.InTurn.Laws.{said_of, IsChoosing, TurnLaw, WithinLaw, ChoosingProgramLaw, Tells, TellingLaw}
use Rattle.law_choices.specs.InTurn.Nodes.{Contracted, Made, plain, contracted, controller_name, contract_name, telling, IsMade, AreAllMade, loop_of, loops, nodes_of, all_nodes, besides, also_said, IsContracted}
use Rattle.law_choices.proofs.InTurnLemmas.Calls.{calls_among}
use Rattle.law_choices.proofs.InTurnLemmas.Contracted.{NodeLaws, Ground, controller_well, controller_calls, telling_is_well, telling_within, own_well, own_within, own_closes, own_calls, telling_calls, own_named, chosen_named, own_is_headed}
use Rattle.law_choices.proofs.InTurnLemmas.Names.{right_of, AllNames, no_names, names_plain, names_contracted, fresh_controller, fresh_own, fresh_contract, controller_new, contract_new}
use Rattle.law_choices.proofs.InTurnLemmas.Said.{SaySame, passed, said_own, said_old, said_some}
use Rattle.law_choices.proofs.InTurnLemmas.Tells.{told}
use Rattle.law_choices.proofs.InTurnLemmas.Types.{types_same}

-- the laws that are joined here
pub record TurnLaws : Type 0 where
  pub nodes : NodeLaws
  pub called : CalledLaw
  pub ready : ReadyMadeLaw
  pub bytes : BytesLaw
  pub targets : TargetsLaw
  pub calls : CallsLaw

-- ---- each node is found by its name

each_node_map : (P Q : Node → Type 0) → ((n : Node) → P n → Q n) → (items : List Item) → EachNode P items → EachNode Q items
each_node_map P Q f [] h = tt
each_node_map P Q f (TypeItem t ∷ items) h = each_node_map P Q f items h
each_node_map P Q f (NodeItem n ∷ items) h = (f n h.0, each_node_map P Q f items h.1)

own_found : (items : List Item) → NamesApart items → EachNode (λ (n : Node). node_among items n.name ≡ Some n) items
own_found [] a = tt
own_found (TypeItem t ∷ items) a = own_found items a
own_found (NodeItem n ∷ items) a = (
  ap (λ b. if b then Some n else node_among items n.name) (bytes_same n.name),
  each_node_map (λ (m : Node). node_among items m.name ≡ Some m) (λ (m : Node). node_among (NodeItem n ∷ items) m.name ≡ Some m) (λ m e. found_among (NodeItem n ∷ []) items m.name m a e) items (own_found items a.1),
)

pub all_own : (after : List Item) → NamesApart (reverse after) → EachNode (λ (n : Node). node_among (reverse after) n.name ≡ Some n) after
all_own after a =
    subst (EachNode (λ (n : Node). node_among (reverse after) n.name ≡ Some n)) (reverse-reverse after) (each_reverse (λ (n : Node). node_among (reverse after) n.name ≡ Some n) (reverse after) (own_found (reverse after) a))

-- ---- kinds in a row

front_row : (g : ℕ → KindData) (a n : ℕ) (ks js : List KindData) → ks ++ js ≡ map g (range_with_len a n) → map g (range_with_len a (length ks)) ≡ ks
front_row g a n [] js h = refl
front_row g a zero (k ∷ ks) js h = absurd cc
front_row g a (suc n) (k ∷ ks) js h =
    let first : k ≡ g a = cc in
    let rest : ks ++ js ≡ map g (range_with_len (a + 1) n) = cc in
    ap₂ (λ z zs. z ∷ zs) (sym first) (front_row g (a + 1) n ks js rest)

neither : (a b : Bool) → (a || b) ≡ false → (a ≡ false) × (b ≡ false)
neither true b h = absurd cc
neither false b h = (refl, h)

-- ---- one node

module _ (laws : TurnLaws) (types : List ObcType) (k : Known) (enums : Enumerations) (observers : Observing) (all : Callees) (bytes : HaveBytes types) (suit : AllSuit types all observers) (alone : CallNothing observers)
    (old : (f : List ℕ) → is_new f ≡ false → SaySame (calls_of types k) all f) (IsThere : Node → Type 0) where
  abbrev callees : Callees
  callees = calls_of types k

  abbrev controls : List ℕ → List KindData
  controls f = kinds_of_decls types k (steered_by (k.nodes f))

  abbrev Closes : Answers → Loop → Type 0
  Closes answers l = IsClosed answers (length (controls l.plant.name)) l

  -- what is known of a node of the program and of its clocked equations, behind nodes of some names
  module _ (names : List (List ℕ)) (n : Node) (f : FlatNode) (t : IsTurned types k names (lowered_node enums n) f) (made : IsMadeOf k (lowered_node enums n) f) (r : IsReadyMade types callees f) (signs : (g : List ℕ) → has_name names g ≡ true → is_new g ≡ false)
      (plain_name : is_new f.name ≡ false) where
    says_same : (es : List FlatEqn) → CallsOnly names es → AllByRecursion (λ (e : FlatEqn). SaysSame callees all e.right) es
    says_same [] h = tt
    says_same (e ∷ es) h = (by e.right h.0, says_same es h.1)
      where
        by : (right : Right) → CallsAmong names right → SaysSame callees all right
        by (operator op args) c = tt
        by (register first next) c = tt
        by (called g args) c = old g (signs g c)

    based : IsBased types all r.clock f
    based = laws.called types callees all r.clock f (says_same f.eqns t.calls) r.based

    controls_are : controls_of (lowered_node enums n).contract ≡ controls_of n.contract
    controls_are = controls_lowered enums (lowering.types_of n) n.contract

    pub inputs_are : f.inputs ≡ length n.inputs + length (controls_of n.contract)
    inputs_are = made.inputs ∙ ap (λ (ds : List Decl). length n.inputs + length ds) controls_are

    pub count_is : length (controls f.name) ≡ length (controls_of n.contract)
    count_is =
        ap (λ o. length (kinds_of_decls types k (steered_by o))) t.own
        ∙ length-map (controls_of (lowered_node enums n).contract) (λ (d : Decl). kind_of_type types (flat_type k.types d.ty))
        ∙ ap length controls_are

    -- the inputs and the controllable variables, in a row
    pub row_kinds : kinds_of_decls types k n.inputs ++ kinds_of_decls types k (controls_of n.contract) ≡ kinds_at types f (range_with_len 0 f.inputs)
    row_kinds =
        let kind = λ (d : Decl). kind_of_type types (flat_type k.types d.ty) in
        let signed = t.signed in
        ap (λ ds. kinds_of_decls types k n.inputs ++ kinds_of_decls types k ds) (sym controls_are) ∙ sym (map-append kind n.inputs (controls_of (lowered_node enums n).contract)) ∙ signed.takes

    inputs_kinds : kinds_at types f (range_with_len 0 (length n.inputs)) ≡ kinds_of_decls types k n.inputs
    inputs_kinds =
        let g = variable_kind types f.variables in
        let kind = λ (d : Decl). kind_of_type types (flat_type k.types d.ty) in
        let signed = t.signed in
        let whole = sym (map-append kind n.inputs (controls_of (lowered_node enums n).contract)) ∙ signed.takes in
        sym (ap (λ z. map g (range_with_len 0 z)) (length-map n.inputs kind)) ∙ front_row g 0 f.inputs (kinds_of_decls types k n.inputs) (kinds_of_decls types k (controls_of (lowered_node enums n).contract)) whole

    pub of_node : IsOfNode types all r.clock n f
    of_node =
        let said = old f.name plain_name in
        let signed = t.signed in
        record {
          based = based;
          few = let i = inputs_are in omega (arith, i);
          takes = said.0 ∙ ap (λ o. kinds_of_decls types k (given_to o)) t.own ∙ sym inputs_kinds;
          gives = said.1 ∙ ap (λ o. kinds_of_decls types k (outputs_of o)) t.own ∙ signed.gives;
          own = r.own;
        }

    -- ---- a node without a contract

    module _ (none : n.contract ≡ None) where
      no_controls : length (controls_of n.contract) ≡ 0
      no_controls = ap (λ (o : Option Contract). length (controls_of o)) none

      pub plain_well : IsWellMade types all f
      plain_well = let nodes = laws.nodes in let b = based in nodes.ordered types all r.clock f b.well made.ranked

      pub plain_within : IsWithin f
      plain_within = let b = based in let w = b.well in w.within

      pub plain_headed : IsHeaded types all f
      plain_headed =
          let o = of_node in
          let i = inputs_are in
          let zero_more = no_controls in
          record { takes = o.takes ∙ ap (λ z. kinds_at types f (range_with_len 0 z)) (omega (arith, i, zero_more)); gives = o.gives }

      pub plain_closes : (answers : Answers) → Closes answers (record { plant = f; closed = f })
      plain_closes answers =
          let nodes = laws.nodes in
          let b = based in
          let w = b.well in
          let i = w.within in
          subst (λ z. IsClosed answers z (record { plant = f; closed = f })) (sym (count_is ∙ no_controls)) (nodes.itself f i.inputs answers)

  -- ---- all nodes

  -- of names that are new, all that is said is what the rest says
  abbrev AllSame : List (List ℕ) → List Made → Type 0
  AllSame names ms = (f : List ℕ) → has_name names f ≡ false → SaySame (also_said types (flat_map besides ms) callees) all f

  -- what is known of a node with a contract: what is said of the node that tells it, the kinds of its inputs and controllable variables in a row, how many these are, and that the node is one of the program
  abbrev pub Grounded : Made → Type 0
  Grounded (plain f) = ⊤
  Grounded (contracted c) =
      (n : Node) × Ground types all observers n c × IsHeaded types all (telling c.chosen)
      × (kinds_of_decls types k n.inputs ++ kinds_of_decls types k (controls_of n.contract) ≡ kinds_at types c.plant (range_with_len 0 c.plant.inputs))
      × (length (controls c.plant.name) ≡ length (controls_of n.contract)) × IsThere n

  -- what is made of the rest of the nodes, behind nodes of some names
  abbrev Stand : List (List ℕ) → List Made → Type 0
  Stand names ms = AreInTurn types all names (all_nodes ms) × AllByRecursion IsWithin (all_nodes ms) × AllByRecursion Grounded ms × ((answers : Answers) → AllByRecursion (Closes answers) (loops ms))

  -- so it is behind one more node
  abbrev Rest : List (List ℕ) → List (List ℕ) → List Made → Type 0
  Rest names everything ms = AllNames names everything → AllSame everything ms → Stand everything ms

  module _ (names everything : List (List ℕ)) (a : AllNames names everything) (n : Node) (f : FlatNode) (t : IsTurned types k names (lowered_node enums n) f) (made : IsMadeOf k (lowered_node enums n) f) (r : IsReadyMade types callees f) (sign : is_new n.name ≡ false)
    where
      first_named : f.name ≡ n.name
      first_named = made.name

      first_plain : is_new f.name ≡ false
      first_plain = ap is_new first_named ∙ sign

      -- ---- behind a node without a contract

      pub stands_plain : (ms : List Made) → n.contract ≡ None → AllSame everything (plain f ∷ ms) → Rest (f.name ∷ names) (f.name ∷ everything) ms → Stand everything (plain f ∷ ms)
      stands_plain ms none same rest =
          let behind = rest (names_plain names everything a f.name first_plain) (λ x h. same x (neither (bytes_eq f.name x) (has_name everything x) h).1) in (
            (
              plain_well names n f t made r a.old first_plain none,
              plain_headed names n f t made r a.old first_plain none,
              a.own f.name first_plain t.new,
              calls_among names everything a.among f.eqns t.calls,
              behind.0,
            ),
            (plain_within names n f t made r a.old first_plain none, behind.1),
            (tt, behind.2),
            λ answers. (plain_closes names n f t made r a.old first_plain none answers, behind.3 answers),
          )

  -- ---- behind one with a contract

  module _ (names everything : List (List ℕ)) (a : AllNames names everything) (n : Node) (c : Contracted) (t : IsTurned types k names (lowered_node enums n) c.plant) (made : IsMadeOf k (lowered_node enums n) c.plant) (r : IsReadyMade types callees c.plant)
      (sign : is_new n.name ≡ false) (there : IsThere n) (is : IsContracted types observers n c) (ms : List Made) (same : AllSame everything (contracted c ∷ ms)) where
    abbrev f : List ℕ
    f = c.plant.name

    named : f ≡ n.name
    named = made.name

    plain_name : is_new f ≡ false
    plain_name = ap is_new named ∙ sign

    abbrev ctl : FlatNode
    ctl = c.controller

    abbrev tell : FlatNode
    tell = telling c.chosen

    abbrev others : List FlatNode
    others = flat_map besides ms

    controller_of_node : ctl.name ≡ controller_name n.name
    controller_of_node = let q = is.controller in q.name ∙ ap controller_name is.named

    controller_name_is : ctl.name ≡ controller_name f
    controller_name_is = controller_of_node ∙ ap controller_name (sym named)

    new_controller : has_name everything ctl.name ≡ false
    new_controller = ap (has_name everything) controller_name_is ∙ fresh_controller names everything a f plain_name t.new

    asked : IsHeaded types all ctl
    asked =
        let said = same ctl.name new_controller in
        let own = said_own types callees ctl (tell ∷ others) in
        record { takes = said.0 ∙ own.takes; gives = said.1 ∙ own.gives }

    abbrev ground : Ground types all observers n c
    ground = record {
      clock = r.clock;
      bytes = bytes;
      of_node = of_node names n c.plant t made r a.old plain_name;
      suit = suit;
      is = is;
      named = named;
      inputs = inputs_are names n c.plant t made r a.old plain_name;
      ranked = made.ranked;
      asked = asked;
    }

    own_name_is : c.own.name ≡ f
    own_name_is = own_named laws.nodes types all observers n c ground ∙ sym named

    tell_name_is : tell.name ≡ contract_name f
    tell_name_is = ap contract_name (chosen_named laws.nodes types all observers n c ground ∙ sym named)

    new_own : has_name (ctl.name ∷ everything) c.own.name ≡ false
    new_own = ap₂ (λ x z. has_name (x ∷ everything) z) controller_name_is own_name_is ∙ fresh_own names everything a f plain_name t.new

    contract_is_new : has_name (f ∷ controller_name f ∷ everything) (contract_name f) ≡ false
    contract_is_new = fresh_contract names everything a f plain_name t.new

    new_tell : has_name (c.own.name ∷ ctl.name ∷ everything) tell.name ≡ false
    new_tell =
        ap (λ z. has_name (c.own.name ∷ ctl.name ∷ everything) z) tell_name_is
        ∙ ap₂ (λ x z. has_name (x ∷ z ∷ everything) (contract_name f)) own_name_is controller_name_is
        ∙ contract_is_new

    tell_headed : IsHeaded types all tell
    tell_headed =
        let first = neither (bytes_eq f (contract_name f)) (has_name (controller_name f ∷ everything) (contract_name f)) contract_is_new in
        let second = neither (bytes_eq (controller_name f) (contract_name f)) (has_name everything (contract_name f)) first.1 in
        let said = same tell.name (ap (has_name everything) tell_name_is ∙ second.1) in
        let pass = passed types callees ctl (tell ∷ others) tell.name (ap₂ bytes_eq controller_name_is tell_name_is ∙ second.0) in
        let own = said_own types callees tell others in
        record { takes = said.0 ∙ pass.0 ∙ own.takes; gives = said.1 ∙ pass.1 ∙ own.gives }

    -- ---- what is called

    has_controller : (rest : List (List ℕ)) → has_name (ctl.name ∷ rest) (controller_name n.name) ≡ true
    has_controller rest = ap (λ b. b || has_name rest (controller_name n.name)) (ap (λ z. bytes_eq z (controller_name n.name)) controller_of_node ∙ bytes_same (controller_name n.name))

    among_own : (g : List ℕ) → has_name names g ≡ true → has_name (ctl.name ∷ everything) g ≡ true
    among_own g h = right_of (bytes_eq ctl.name g) (has_name everything g) (a.among g h)

    calls_of_own : CallsOnly (ctl.name ∷ everything) c.own.eqns
    calls_of_own = own_calls laws.nodes types all observers n c ground names (ctl.name ∷ everything) alone t.calls among_own (has_controller everything)

    calls_of_tell : CallsOnly (c.own.name ∷ ctl.name ∷ everything) tell.eqns
    calls_of_tell =
        telling_calls laws.nodes types all observers n c ground names (c.own.name ∷ ctl.name ∷ everything) alone t.calls
        (λ g h. right_of (bytes_eq c.own.name g) (has_name (ctl.name ∷ everything) g) (among_own g h))
        (right_of (bytes_eq c.own.name (controller_name n.name)) (has_name (ctl.name ∷ everything) (controller_name n.name)) (has_controller everything))

    -- ---- all of it

    three_names : (contract_name f ∷ f ∷ controller_name f ∷ everything) ≡ (tell.name ∷ c.own.name ∷ ctl.name ∷ everything)
    three_names = ap₂ (λ x xs. x ∷ xs) (sym tell_name_is) (ap₂ (λ x xs. x ∷ xs) (sym own_name_is) (ap (λ x. x ∷ everything) (sym controller_name_is)))

    same_behind : AllSame (contract_name f ∷ f ∷ controller_name f ∷ everything) ms
    same_behind x h =
        let first = neither (bytes_eq (contract_name f) x) (has_name (f ∷ controller_name f ∷ everything) x) h in
        let second = neither (bytes_eq f x) (has_name (controller_name f ∷ everything) x) first.1 in
        let third = neither (bytes_eq (controller_name f) x) (has_name everything x) second.1 in
        let said = same x third.1 in
        let pass = passed types callees ctl (tell ∷ others) x (ap (λ z. bytes_eq z x) controller_name_is ∙ third.0) in
        let next = passed types callees tell others x (ap (λ z. bytes_eq z x) tell_name_is ∙ first.0) in
        (said.0 ∙ pass.0 ∙ next.0, said.1 ∙ pass.1 ∙ next.1)

    closes : (answers : Answers) → Closes answers (record { plant = c.plant; closed = c.own })
    closes answers =
        subst (λ z. IsClosed answers z (record { plant = c.plant; closed = c.own })) (is.count ∙ sym (count_is names n c.plant t made r a.old plain_name)) (own_closes laws.nodes types all observers n c ground answers)

    controller_within : IsWithin ctl
    controller_within = let q = is.controller in q.within

    pub stands_contracted : Rest (f ∷ names) (contract_name f ∷ f ∷ controller_name f ∷ everything) ms → Stand everything (contracted c ∷ ms)
    stands_contracted rest =
        let behind = subst (λ xs. Stand xs ms) three_names (rest (names_contracted names everything a f plain_name) same_behind) in (
          (
            controller_well laws.nodes types all observers n c ground,
            asked,
            new_controller,
            controller_calls laws.nodes types all observers n c ground everything,
            (
              own_well laws.nodes types all observers n c ground,
              own_is_headed laws.nodes types all observers n c ground,
              new_own,
              calls_of_own,
              (telling_is_well laws.nodes types all observers n c ground, tell_headed, new_tell, calls_of_tell, behind.0),
            ),
          ),
          (controller_within, (own_within laws.nodes types all observers n c ground, (telling_within laws.nodes types all observers n c ground, behind.1))),
          ((n, ground, tell_headed, row_kinds names n c.plant t made r a.old plain_name, count_is names n c.plant t made r a.old plain_name, there), behind.2),
          λ answers. (closes answers, behind.3 answers),
        )

  -- ---- behind all nodes so far

  stands : (items : List Item) (ms : List Made) (names everything : List (List ℕ)) → AreTurned types k names (map (lowered_item enums) items) (plants (loops ms)) → AreMadeOf k (map (lowered_item enums) items) (plants (loops ms)) → AreAllMade types observers items ms
      → EachNode (λ (n : Node). is_new n.name ≡ false) items → EachNode IsThere items → AllByRecursion (IsReadyMade types callees) (plants (loops ms)) → Rest names everything ms
  stands [] [] names everything turned made is signs there ready a same = (tt, tt, tt, λ answers. tt)
  stands [] (m ∷ ms) names everything turned made is signs there ready a same = absurd is
  stands (TypeItem d ∷ items) ms names everything turned made is signs there ready a same = stands items ms names everything turned made is signs there ready a same
  stands (NodeItem n ∷ items) [] names everything turned made is signs there ready a same = absurd is
  stands (NodeItem n ∷ items) (plain f ∷ ms) names everything turned made is signs there ready a same =
      by n.contract refl is.0 (stands items ms (f.name ∷ names) (f.name ∷ everything) turned.1 made.1 is.1 signs.1 there.1 ready.1)
    where
      by : (o : Option Contract) → n.contract ≡ o → IsMade types observers n o (plain f) → Rest (f.name ∷ names) (f.name ∷ everything) ms → Stand everything (plain f ∷ ms)
      by None e i rest = stands_plain names everything a n f turned.0 made.0 ready.0 signs.0 ms e same rest
      by (Some o) e i rest = absurd i
  stands (NodeItem n ∷ items) (contracted c ∷ ms) names everything turned made is signs there ready a same =
      let f = c.plant.name in
      by n.contract is.0 (stands items ms (f ∷ names) (contract_name f ∷ f ∷ controller_name f ∷ everything) turned.1 made.1 is.1 signs.1 there.1 ready.1)
    where
      by : (o : Option Contract) → IsMade types observers n o (contracted c) → Rest (c.plant.name ∷ names) (contract_name c.plant.name ∷ c.plant.name ∷ controller_name c.plant.name ∷ everything) ms → Stand everything (contracted c ∷ ms)
      by None i rest = absurd i
      by (Some o) i rest = stands_contracted names everything a n c turned.0 made.0 ready.0 signs.0 there.0 i ms same rest

  -- ---- contracts are told

  module _ (one : OneReactionLaw) (answers : Answers) (typed : AnswersOfKinds answers all) where
    tells : (ms : List Made) → AllByRecursion (Answered answers all.takes) (all_nodes ms) → AllByRecursion Grounded ms → AllByRecursion (Tells all answers) ms
    tells [] given known = tt
    tells (plain f ∷ ms) given known = (tt, tells ms given.1 known.1)
    tells (contracted c ∷ ms) given known =
        let it = known.0 in
        (told types all one answers typed laws.nodes observers it.0 c it.1 it.2 given.1.0 given.1.1.0, tells ms given.1.1.1 known.1)

-- ---- what stands for no node of the program has a sign in its name

pub besides_new : (types : List ObcType) (observers : Observing) (items : List Item) (ms : List Made) → AreAllMade types observers items ms → AllByRecursion (λ (n : FlatNode). is_new n.name ≡ true) (flat_map besides ms)
besides_new types observers [] [] h = tt
besides_new types observers [] (m ∷ ms) h = absurd h
besides_new types observers (TypeItem d ∷ items) ms h = besides_new types observers items ms h
besides_new types observers (NodeItem n ∷ items) [] h = absurd h
besides_new types observers (NodeItem n ∷ items) (plain f ∷ ms) h = besides_new types observers items ms h.1
besides_new types observers (NodeItem n ∷ items) (contracted c ∷ ms) h = (by n.contract h.0, (contract_new c.chosen.node.name, besides_new types observers items ms h.1))
  where
    by : (o : Option Contract) → IsMade types observers n o (contracted c) → is_new c.controller.name ≡ true
    by None i = absurd i
    by (Some o) i = let m = i.machine in let q = i.controller in ap is_new q.name ∙ controller_new m.name

-- its variables have values
besides_values : (types : List ObcType) (all : Callees) (names : List (List ℕ)) (ms : List Made) → AreInTurn types all names (all_nodes ms) → AllByRecursion (λ (n : FlatNode). AllByRecursion (λ (v : Variable). HasValue types v.ty) n.variables) (flat_map besides ms)
besides_values types all names [] t = tt
besides_values types all names (plain f ∷ ms) t = besides_values types all (f.name ∷ names) ms t.4
besides_values types all names (contracted c ∷ ms) t =
    let tell = telling c.chosen in
    let first = t.0 in
    let third = t.4.4.0 in
    (first.values, (third.values, besides_values types all (tell.name ∷ c.own.name ∷ c.controller.name ∷ names) ms t.4.4.4))

-- ---- the closed node of each stands among them

have_closed : (ms : List Made) → HaveClosed (all_nodes ms) (loops ms)
have_closed [] = tt
have_closed (m ∷ ms) = (own_there m, each_other (λ (l : Loop). Contains (all_nodes ms) l.closed) (λ (l : Loop). Contains (all_nodes (m ∷ ms)) l.closed) (λ l h. Contains-append_right (nodes_of m) (all_nodes ms) l.closed h) (loops ms) (have_closed ms))
  where
    own_there : (m : Made) → Contains (all_nodes (m ∷ ms)) (loop_of m).closed
    own_there (plain f) = first_one f (all_nodes ms)
    own_there (contracted c) = Contains-append_right (c.controller ∷ []) (c.own ∷ telling c.chosen ∷ all_nodes ms) c.own (first_one c.own (telling c.chosen ∷ all_nodes ms))

-- ---- the laws

module _ (laws : TurnLaws) (program after : List Item) (observers : Observing) (ms : List Made) (h : IsChoosing program after observers ms) where
  abbrev low : List Item
  low = lowered_program after

  abbrev types : List ObcType
  types = obc_types (types_of after)

  abbrev all : Callees
  all = said_of after ms

  pub have_bytes : HaveBytes types
  have_bytes = laws.bytes types (subst (λ (ts : List TypeDecl). TypesForm (obc_types ts)) (sym (types_same program after h.ready)) h.form)

  pub all_old : (f : List ℕ) → is_new f ≡ false → SaySame (callees_of after) all f
  all_old f e = said_old types (callees_of after) (flat_map besides ms) f (besides_new types observers after ms h.made) e

  -- a node is the one that the program has by its name
  abbrev pub IsOfProgram : Node → Type 0
  IsOfProgram n = node_among (reverse after) n.name ≡ Some n

  abbrev pub AllGrounded : Type 0
  AllGrounded = AllByRecursion (Grounded laws types (known_of low) (enumerations [] after) observers all have_bytes h.suit h.alone all_old IsOfProgram) ms

  pub all_stand : AreInTurn types all [] (all_nodes ms) × AllByRecursion IsWithin (all_nodes ms) × AllGrounded × ((answers : Answers) → AreClosed answers (controls_in after) (loops ms))
  all_stand =
      let nodes = ready_nodes laws.targets laws.calls program after h.ready h.removable h.form h.short (plants (loops ms)) h.equations in
      let made = laws.ready program after h.ready h.removable h.form h.short (plants (loops ms)) h.equations in
      stands laws types (known_of low) (enumerations [] after) observers all have_bytes h.suit h.alone all_old IsOfProgram after ms [] [] nodes.turned h.equations h.made h.names (all_own after (ready_apart program after h.ready)) made no_names (λ f e. (refl, refl))

  -- the closed node of each closes its plant, whatever nodes answer
  pub loops_closed : (answers : Answers) → AreClosed answers (controls_in after) (loops ms)
  loops_closed answers = all_stand.3 answers

  all_some : (f : List ℕ) → AllByRecursion HasSome (all.gives f)
  all_some =
      let nodes = ready_nodes laws.targets laws.calls program after h.ready h.removable h.form h.short (plants (loops ms)) h.equations in
      said_some types (callees_of after) (flat_map besides ms) (besides_values types all [] ms all_stand.0) nodes.some

pub turn_law : TurnLaws → TurnLaw
turn_law laws program after observers ms h = (all_stand laws program after observers ms h).0

pub within_law : TurnLaws → WithinLaw
within_law laws program after observers ms h = (all_stand laws program after observers ms h).1

pub choosing_program_law : TurnLaws → MeaningLaw → ClosedProgramLaw → ChoosingProgramLaw
choosing_program_law laws meaning closed program after ranks observers ms fall h =
    let stand = all_stand laws program after observers ms h in
    let types = obc_types (types_of after) in
    let all = said_of after ms in
    let one = meaning types all (all_nodes ms) stand.0 (all_some laws program after observers ms h) in
    record { one = one; allowed = closed program after ranks h.ready h.removable fall h.form h.short (loops ms) h.equations all (all_nodes ms) stand.0 (have_closed ms) one (stand.3 one.answers) }

pub telling_law : TurnLaws → OneReactionLaw → TellingLaw
telling_law laws one_law program after observers ms h one =
    let stand = all_stand laws program after observers ms h in
    let low = lowered_program after in
    tells laws (obc_types (types_of after)) (known_of low) (enumerations [] after) observers (said_of after ms) (have_bytes laws program after observers ms h) h.suit h.alone (all_old laws program after observers ms h) (IsOfProgram laws program after observers ms h) one_law one.answers one.typed ms one.answered stand.2
