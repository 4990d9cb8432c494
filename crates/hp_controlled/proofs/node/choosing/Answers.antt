use Rattle.std.proofs.Common.{rules, ◌≡◌, ◌⊎◌, ◌+◌, List, length, drop, ap, subst, inl, inr, arith}
use Rattle.std.proofs.lemmas.Result.{IfOk-weaker}
use Rattle.hp_tree.specs.Meaning.{controls_of}
use Rattle.hp_watch.specs.Watching.{observers_seen, watched_seen}
use Rattle.hp_controller.specs.declared.decoding.Control.{Control}
use Rattle.hp_controlled.specs.Choosing.{AreControls, IsInOrder, Suits, telling, telling_seen}
use Rattle.hp_controlled.specs.Lacking.{ChoosesNot, HasCircularEqns, IsLong}
use Rattle.hp_controlled.specs.Lacking.ChoosesNot.{long_name, circular}
use Rattle.hp_controlled.proofs.ChoosingLaws.{controls_many, says_more}
use Rattle.hp_controlled.proofs.node.choosing.Goals as goal

pub asking-requires : goal.asking-requires
asking-requires c =
    let widths = c.args.abstraction.now.machine.widths in
    let seen : c.deref-3.result.now ≡ c.in_ok-chosen.chosen.items = c.deref-3.ensures.value in
    let fits : (c.args.flat.inputs ≡ length c.args.node.now.inputs + length (controls_of c.args.node.now.contract)) × (length widths ≡ length (controls_of c.args.node.now.contract)) = search rules in
    let are : AreControls c.args.context.types.now (drop (length c.args.node.now.inputs) c.args.flat.variables) widths c.in_ok-chosen.chosen.items = search rules in
    let many = controls_many c.args.context.types.now (drop (length c.args.node.now.inputs) c.args.flat.variables) widths c.in_ok-chosen.chosen.items are in
    let larger = c.in_ok-watched.ensures.larger in
    let grows = larger.grows in
    let inputs : c.in_ok-watched.watched.node.inputs ≡ c.args.flat.inputs = grows.inputs in
    let first = fits.0 in
    let second = fits.1 in
    let long : length c.deref-3.result.now ≡ length c.in_ok-chosen.chosen.items = ap length seen in
    omega (arith, first, second, many, inputs, long)

pub returns-clause-chooses : goal.returns-clause-chooses
returns-clause-chooses c =
    let types = c.args.context.types.now in
    let observers = observers_seen c.args.context.observers.now in
    let node = c.args.node.now in
    let flat = c.args.flat in
    let a = c.args.abstraction.now in
    let fits : (flat.inputs ≡ length node.inputs + length (controls_of node.contract)) × (length a.machine.widths ≡ length (controls_of node.contract)) = search rules in
    let are : AreControls types (drop (length node.inputs) flat.variables) a.machine.widths c.in_ok-chosen.chosen.items = search rules in
    let suits : Suits types observers node flat a = record { inputs = fits.0; widths = fits.1; controls = c.in_ok-chosen.chosen.items; are = are; watched = watched_seen c.in_ok-watched.watched; sees = c.in_ok-watched.ensures.sees } in
    IfOk-weaker c.asking.result _ _
    (λ k told. record { suits = suits; is = subst (λ (cs : List Control). IsInOrder (telling node.name (watched_seen c.in_ok-watched.watched) a cs) (telling_seen k)) c.deref-3.ensures.value told })
    c.asking.ensures.asks

pub returns-clause-chooses_not : goal.returns-clause-chooses_not
returns-clause-chooses_not c =
    let types = c.args.context.types.now in
    let observers = observers_seen c.args.context.observers.now in
    let node = c.args.node.now in
    let flat = c.args.flat in
    let a = c.args.abstraction.now in
    let fits : (flat.inputs ≡ length node.inputs + length (controls_of node.contract)) × (length a.machine.widths ≡ length (controls_of node.contract)) = search rules in
    let are : AreControls types (drop (length node.inputs) flat.variables) a.machine.widths c.in_ok-chosen.chosen.items = search rules in
    let suits : Suits types observers node flat a = record { inputs = fits.0; widths = fits.1; controls = c.in_ok-chosen.chosen.items; are = are; watched = watched_seen c.in_ok-watched.watched; sees = c.in_ok-watched.ensures.sees } in
    says_more c.asking.result _ _
    (λ says. chosen_not types observers node flat a suits c.deref-3.result.now c.deref-3.ensures.value says)
    c.asking.ensures.asks_not
  where
    chosen_not : (types : _) (observers : _) (node : _) (flat : _) (a : _) (s : Suits types observers node flat a) (cs : List Control) → cs ≡ s.controls → IsLong node.name ⊎ HasCircularEqns (telling node.name s.watched a cs).node → ChoosesNot types observers node flat a
    chosen_not types observers node flat a s cs same (inl long) = long_name long
    chosen_not types observers node flat a s cs same (inr circle) = circular s (subst (λ (ks : List Control). HasCircularEqns (telling node.name s.watched a ks).node) same circle)
