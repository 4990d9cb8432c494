-- The parts of a node: what it reads, what is given to it, and what is told last.
use Rattle.std.proofs.Common.{◌≡◌, ℕ, Bool, true, false, not, ◌&&◌, ◌||◌, if◌then◌else◌, List, [], ◌∷◌, ◌++◌, map, nat_eq, ◌+◌, Option, None, Some, refl, sym, ap, subst, ◌∙◌, arith}
use Rattle.std.specs.Prelude.{⊤, IsTrue, IsFalse}
use Rattle.hp_base.specs.declared.ty.Ty.{Ty}
use Rattle.hp_base.specs.declared.value.Value.{Value}
use Rattle.hp_tree.specs.declared.program.Item.{Item}
use Rattle.hp_tree.specs.declared.program.Item.TheVariants.{TypeItem, NodeItem}
use Rattle.hp_tree.specs.Blocks.{Decl, Block, block}
use Rattle.hp_tree.specs.Operators.{abstraction}
use Rattle.hp_tree.specs.Instant.{Named, Controls, Head, Tail, Instant, Clock, part, alone, in_row, Place as TreePlace}
use Rattle.hp_tree.specs.Meaning.{Names, declares, some_defines, block_defines, controls_of, given_to, no_nodes, input_of, absent}
use Rattle.hp_tree.specs.Programs.{TypeDecl, Node}
use Rattle.hp_base.specs.Known.Known.{lookup}
use Rattle.hp_typing.specs.Scopes.{with_variables, inside_node}
use Rattle.law_judged.specs.Typed.Scopes.{Scope as TypeScope}
use Rattle.hp_meaning.specs.Causal.Clocked.{on_base}
use Rattle.hp_meaning.specs.Causal.Points.{Placed}
use Rattle.hp_meaning.specs.Causal.Sources.{below}
use Rattle.law_values.specs.Valued.Judged.{lasts_in as known_lasts, no_lasts, body_scope, HaveOwnTypes, NodeSound}
use Rattle.law_values.specs.Valued.Values.{scope_behind}
use Rattle.law_values.proofs.ValuedLemmas.Laws.{not_both}
use Rattle.law_values.proofs.ValuedLemmas.Scoped.{still_known, not_declared}
use Rattle.hp_meaning.specs.Contract.Memory.{number_in}
use Rattle.hp_circuit.specs.Meaning.{truth}
use Rattle.hp_circuit.specs.declared.circuit.Shape.TheVariants.{Truth}
use Rattle.hp_circuit.specs.declared.circuit.Wire.TheVariants as wire
use Rattle.law_games.specs.Wires.Wired.{Callees, lasts_in}
use Rattle.law_games.specs.Wires.WiredNodes.{controls_in, body_names, contract_names}
use Rattle.law_games.specs.Wires.WiredBlocks.{read_of}
use Rattle.law_games.specs.Wiretyped.Typed.{IsWire, AreWires, OutputsTyped}
use Rattle.law_games.specs.Wiretyped.Kept.{LastsKept, NodeGiven}
use Rattle.law_games.proofs.WiretypedLemmas.Exprs.{NamesAre, LastsAre}
use Rattle.law_games.proofs.WiretypedLemmas.Scopes.{OuterAre}
use Rattle.law_games.proofs.WiretypedLemmas.Contracts.{input_typed, output_typed, outputs_last, input_other, row_wires, defined_here}
use Rattle.hp_drawing.specs.Sketch as sketch
use Rattle.hp_drawing.specs.Sketch.{Sketch, and_gate, push, low, high, finish, with_hyp, with_duty, with_assume, hyp_of, duty_of}
use Rattle.hp_drawing.specs.Scopes.{Scope, value_in}
use Rattle.hp_drawing.specs.DrawnNodes.{define_from}
use Rattle.law_drawing.specs.Carrying.Solving.{Has, Solved}
use Rattle.law_drawing.specs.Carrying.Drawing.{IsSolved, IsTold, IsDrawn}
use Rattle.std.proofs.lemmas.List.{append-nil, append_assoc}
use Rattle.law_drawing.proofs.CarryingLemmas.Steps.{and-true, stays, both, nothing-drawn, define-drawn}
use Rattle.law_drawing.proofs.CarryingLemmas.Gates.{and-drawn}
use Rattle.law_drawing.proofs.CarryingLemmas.Rows.{RowHas, RowIsGiven}

-- ---- what is given in a row

pub row-is-given : (slot : ℕ → ℕ) (next : Instant) (supposes owes : Placed → Bool) (given : Instant) (vs : List Value) (w : TreePlace → TreePlace) → ((p : TreePlace) → given (w p) ≡ in_row (map alone vs) p) → RowIsGiven slot next supposes owes given w vs
row-is-given slot next supposes owes given [] w h = tt
row-is-given slot next supposes owes given (v ∷ vs) w h = (ap number_in (h (Head ∷ [])), row-is-given slot next supposes owes given vs (below Tail w) (λ p. h (Tail ∷ p)))

pub controls-are-given : (slot : ℕ → ℕ) (next : Instant) (supposes owes : Placed → Bool) (types : List TypeDecl) (given : Instant) (ds : List Decl) (free : Instant) (w : TreePlace → TreePlace) → ((p : TreePlace) → given (w p) ≡ free p)
    → RowIsGiven slot next supposes owes given w (given_to types abstraction no_nodes ds free)
controls-are-given slot next supposes owes types given [] free w h = tt
controls-are-given slot next supposes owes types given (d ∷ ds) free w h = (ap number_in (h (Head ∷ [])), controls-are-given slot next supposes owes types given ds (part Tail free) (below Tail w) (λ p. h (Tail ∷ p)))

-- ---- the variables that are known: those of the node alone

variables-behind : (items : List Item) → (scope_behind items).variables ≡ []
variables-behind [] = refl
variables-behind (TypeItem t ∷ items) = variables-behind items
variables-behind (NodeItem n ∷ items) = variables-behind items

nowhere : (items : List Item) (x : List ℕ) (t : Ty) → lookup (scope_behind items).variables x ≡ Some t → ⊥
nowhere items x t h = let e : None ≡ Some t = ap (λ vs. lookup-in vs x) (sym (variables-behind items)) ∙ h in cc
  where
    lookup-in : List (List ℕ × Ty) → List ℕ → Option Ty
    lookup-in vs x = lookup vs x

pub own-known : (items : List Item) (n : Node) (x : List ℕ) (t : Ty) → lookup (inside_node (scope_behind items) n).variables x ≡ Some t → declares n.inputs x ≡ false → declares n.outputs x ≡ true
own-known items n x t l f = by (declares n.outputs x) refl
  where
    by : (b : Bool) → declares n.outputs x ≡ b → b ≡ true
    by true q = refl
    by false q = absurd (nowhere items x t (sym (not_declared x n.inputs (scope_behind items) f) ∙ (sym (not_declared x n.outputs (with_variables (scope_behind items) n.inputs) q) ∙ l)))

pub body-known : (items : List Item) (n : Node) (x : List ℕ) (t : Ty) → lookup (body_scope (scope_behind items) n).variables x ≡ Some t → declares (controls_of n.contract) x ≡ false → declares n.inputs x ≡ false → declares n.outputs x ≡ true
body-known items n x t l c f = own-known items n x t (sym (not_declared x (controls_of n.contract) (inside_node (scope_behind items) n) c) ∙ l) f

-- ---- what the body reads

based : (b : Bool) → on_base b ≡ Some [] → IsTrue b
based true h = refl
based false h = cc

module _ (types : List TypeDecl) (C : Callees) (among : List ℕ → Option Node) (given : List ℕ → Instant → Type 0) (s : TypeScope) (n : Node) (ok : NodeSound types among s n) (inputs : List Value) (ins : AreWires types n.inputs inputs) where
  pub body-outer : (free : Instant) → NodeGiven types given s n free → OuterAre types among n.body (λ x. on_base (declares n.inputs x || (declares n.outputs x || declares (controls_of n.contract) x))) (body_scope s n) (body_names types C n inputs free)
  body-outer free g x t nb on l = by (declares (controls_of n.contract) x) refl
    where
      cs : List Decl
      cs = controls_of n.contract

      vs : List Value
      vs = controls_in types C n free

      not_output : (b : Bool) → IsFalse b → IsTrue (declares n.outputs x || b) → ⊥
      not_output b f h = told (declares n.outputs x) refl h
        where
          told : (d : Bool) → declares n.outputs x ≡ d → IsTrue (d || b) → ⊥
          told true q h = not_both (block_defines n.body x) (defined_here types among n.body n.outputs x ok.1.1.1.0 q) nb
          told false q h = not_both b h f

      read : (b : Bool) → declares n.inputs x ≡ b → IsFalse (declares cs x) → IsTrue (b || (declares n.outputs x || declares cs x)) → IsWire types t (input_of n.inputs inputs absent x)
      read true q f h = input_typed types among (body_scope s n) n.inputs inputs absent x t ins ok.1.0.0 l q
      read false q f h = absurd (not_output (declares cs x) f h)

      by : (d : Bool) → declares cs x ≡ d → IsWire types t (body_names types C n inputs free x)
      by true q = input_typed types among (body_scope s n) cs vs (input_of n.inputs inputs absent) x t (row_wires types cs (part Controls free) g.0) ok.1.1.0 l q
      by false q =
          subst (λ v. IsWire types t v) (sym (input_other cs vs (input_of n.inputs inputs absent) x q))
          (read (declares n.inputs x) refl q (based (declares n.inputs x || (declares n.outputs x || declares cs x)) on))

  -- last values of outputs
  pub body-last : (mem : Instant) → LastsKept types (inside_node s n) n.outputs mem → LastsAre types (body_scope s n) (known_lasts n.outputs no_lasts) (lasts_in n.outputs mem absent)
  body-last mem k x h =
      let q = outputs_last types among (inside_node s n) n.outputs mem ok.0.1 k x h in
      (q.0, (still_known x (controls_of n.contract) (inside_node s n) q.0 q.1.0, q.1.1))

-- ---- what is told last

-- names have these values
abbrev pub Same : List Decl → List Value → Names → Type 0
Same [] vs names = ⊤
Same (d ∷ ds) [] names = ⊥
Same (d ∷ ds) (v ∷ vs) names = (number_in (names d.name) ≡ number_in v) × Same ds vs names

if-hyp : (c : Bool) (x y : ℕ × Sketch) (h : ℕ) → x.1.hyp ≡ h → y.1.hyp ≡ h → (if c then x else y).1.hyp ≡ h
if-hyp true x y h e f = e
if-hyp false x y h e f = f

pub gate-hyp : (a b : ℕ) (s : Sketch) → (and_gate a b s).1.hyp ≡ s.hyp
unfolding and_gate push
gate-hyp a b s =
    if-hyp (nat_eq a low) (low, s) (if nat_eq b low then (low, s) else if nat_eq a high then (b, s) else if nat_eq b high then (a, s) else push (wire.And a b) Truth s) s.hyp refl
    (if-hyp (nat_eq b low) (low, s) (if nat_eq a high then (b, s) else if nat_eq b high then (a, s) else push (wire.And a b) Truth s) s.hyp refl
    (if-hyp (nat_eq a high) (b, s) (if nat_eq b high then (a, s) else push (wire.And a b) Truth s) s.hyp refl (if-hyp (nat_eq b high) (a, s) (push (wire.And a b) Truth s) s.hyp refl refl)))

module _ (slot : ℕ → ℕ) (next : Instant) (supposes owes : Placed → Bool) where
  -- outputs are what the body defines
  pub outputs-defined : (z : Scope) (names : Names) (first k : ℕ) (ds : List Decl) (vs : List Value) (d : Sketch) (ns : List ℕ) → IsSolved slot d ns → RowHas ns (first + k) vs → ((x : List ℕ) → Has ns (value_in z x).wire (number_in (names x))) → Same ds vs names
      → IsDrawn slot next supposes owes d ns [] [] (define_from z first k ds d) ns
  outputs-defined z names first k [] vs d ns g r v h = nothing-drawn slot next supposes owes d ns g
  outputs-defined z names first k (o ∷ ds) [] d ns g r v h = absurd h
  outputs-defined z names first k (o ∷ ds) (u ∷ vs) d ns g r v h =
      let a = define-drawn slot next supposes owes (first + k) (value_in z o.name) d ns (number_in u) g r.0 (subst (λ n. Has ns (value_in z o.name).wire n) h.0 (v o.name)) in
      let s1 = sketch.define (first + k) (value_in z o.name) d in
      both slot next supposes owes d ns [] [] s1 ns [] [] (define_from z first (k + 1) ds s1) ns a
      (outputs-defined z names first (k + 1) ds vs s1 ns a.solved (subst (λ i. RowHas ns i vs) (let e : first + k + 1 ≡ first + (k + 1) = omega arith in e) r.1) v h.1)

  -- what is assumed and enforced, besides what is supposed and owed of calls
  pub record IsFinished (s : Sketch) (ns : List ℕ) (supposed owed : Bool) (behind : Sketch) : Type 0 where
    pub numbers : List ℕ
    pub more : (w k : ℕ) → Has ns w k → Has numbers w k
    pub solved : Solved slot numbers behind.wires numbers
    pub slots : behind.slots ≡ s.slots
    pub grown : (more : List ℕ) × (numbers ≡ ns ++ more)
    pub hyp : Has numbers behind.hyp (truth supposed)
    pub duty : Has numbers behind.duty (truth owed)

  pub finished : (a e : ℕ) (assumed enforced supposed owed : Bool) (s : Sketch) (ns : List ℕ) → IsSolved slot s ns → Has ns a (truth assumed) → Has ns e (truth enforced) → IsTold s ns supposed owed → IsFinished s ns (assumed && supposed) (enforced && owed) (finish a e s)
  unfolding finish with_hyp with_duty with_assume hyp_of duty_of
  finished a e assumed enforced supposed owed s ns g ha he t =
      let s1 : Sketch = record s { assume = a } in
      let g1 : IsSolved slot s1 ns = record { solved = g.solved; low_is = g.low_is; high_is = g.high_is; base_is = g.base_is; shaped = g.shaped; hyp_is = g.hyp_is; duty_is = g.duty_is } in
      let x = and-drawn slot next supposes owes a s.hyp assumed supposed s1 ns g1 ha t.hyp in
      let h = and_gate a s.hyp s1 in
      let more : (w k : ℕ) → Has ns w k → Has x.0 w k = stays slot next supposes owes s1 ns [] [] h.1 x.0 x.1 in
      let s2 : Sketch = record h.1 { hyp = h.0 } in
      let g2 : IsSolved slot s2 x.0 = record { solved = x.1.solved.solved; low_is = x.1.solved.low_is; high_is = x.1.solved.high_is; base_is = x.1.solved.base_is; shaped = x.1.solved.shaped; hyp_is = (assumed && supposed, x.2); duty_is = x.1.solved.duty_is } in
      let told1 = x.1.told supposed owed (record { hyp = t.hyp; duty = t.duty }) in
      let dh : Has x.0 h.1.duty (truth owed) = subst (λ b. Has x.0 h.1.duty (truth b)) (and-true owed) told1.duty in
      let y = and-drawn slot next supposes owes e h.1.duty enforced owed s2 x.0 g2 (more e (truth enforced) he) dh in
      let u = and_gate e h.1.duty s2 in
      let more-y : (w k : ℕ) → Has x.0 w k → Has y.0 w k = stays slot next supposes owes s2 x.0 [] [] u.1 y.0 y.1 in
      let hyp-is : u.1.hyp ≡ h.0 = gate-hyp e h.1.duty s2 in
      record {
        numbers = y.0;
        more = λ w k q. more-y w k (more w k q);
        solved = y.1.solved.solved;
        slots = y.1.slots ∙ ap (λ l. s2.slots ++ l) y.1.are_laid ∙ append-nil s2.slots ∙ x.1.slots ∙ ap (λ l. s.slots ++ l) x.1.are_laid ∙ append-nil s.slots;
        grown = (x.1.more ++ y.1.more, y.1.grown ∙ ap (λ l. l ++ y.1.more) x.1.grown ∙ append_assoc ns x.1.more y.1.more);
        hyp = subst (λ w. Has y.0 w (truth (assumed && supposed))) (sym hyp-is) (more-y h.0 (truth (assumed && supposed)) x.2);
        duty = y.2;
      }

-- ---- what the contract reads, and what outputs are

is-base : (b : Bool) (c : Clock) → on_base b ≡ Some c → IsTrue b
is-base true c h = refl
is-base false c h = cc

pub contract-reads : (types : List TypeDecl) (C : Callees) (among : List ℕ → Option Node) (s : TypeScope) (n : Node) (inputs : List Value) (now : Instant) → HaveOwnTypes types among (inside_node s n) n.inputs → HaveOwnTypes types among (inside_node s n) n.outputs → AreWires types n.inputs inputs → OutputsTyped types n.outputs now
    → NamesAre types (inside_node s n) (λ x. on_base (declares n.inputs x || declares n.outputs x)) (contract_names types C n inputs now)
contract-reads types C among s n inputs now hi ho ins o x c t on l = by (declares n.outputs x) refl
  where
    read : (b e : Bool) → declares n.inputs x ≡ b → IsFalse e → IsTrue (b || e) → IsWire types t (input_of n.inputs inputs absent x)
    read true e q f h = input_typed types among (inside_node s n) n.inputs inputs absent x t ins hi l q
    read false e q f h = absurd (not_both e h f)

    by : (d : Bool) → declares n.outputs x ≡ d → IsWire types t (if d then now (Named x ∷ []) else input_of n.inputs inputs absent x)
    by true q = output_typed types among (inside_node s n) n.outputs now x t o ho l q
    by false q = read (declares n.inputs x) (declares n.outputs x) refl q (is-base (declares n.inputs x || declares n.outputs x) c on)

pub read-defined : (b : Block) (names : Names) (now : Instant) (x : List ℕ) → block_defines b x ≡ true → read_of b names now x ≡ now (Named x ∷ [])
read-defined (block ds es) names now x h = by (some_defines es x) h
  where
    by : (c : Bool) → c && not (declares ds x) ≡ true → (if c then now (Named x ∷ []) else names x) ≡ now (Named x ∷ [])
    by true h = refl
    by false h = absurd cc
