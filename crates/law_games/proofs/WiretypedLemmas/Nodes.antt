-- The wires of a typed node are typed and sound, and its registers stay in shape.
use Rattle.std.proofs.Common.{◌≡◌, ℕ, List, [], ◌∷◌, refl, sym, subst}
use Rattle.std.specs.Prelude.{Bool, true, false, ◌||◌, IsTrue, IsFalse, if◌then◌else◌, Option, Some}
use Rattle.hp_base.specs.declared.value.Value.{Value}
use Rattle.hp_base.specs.declared.value.Value.TheVariants.{Absent}
use Rattle.hp_tree.specs.Blocks.{Decl}
use Rattle.hp_tree.specs.Programs.{TypeDecl, Node}
use Rattle.hp_tree.specs.Instant.{Controls, Body, Named, Instant, part}
use Rattle.hp_tree.specs.Meaning.{declares, block_defines, input_of, controls_of, absent}
use Rattle.hp_base.specs.Known.Known.{lookup}
use Rattle.hp_typing.specs.Scopes.{inside_node}
use Rattle.law_judged.specs.Typed.Scopes.{Scope}
use Rattle.hp_meaning.specs.Causal.Clocked.{on_base, ClocksRight}
use Rattle.hp_meaning.specs.Contract.Memory.{remembers_contract}
use Rattle.law_values.specs.Valued.Judged.{no_lasts, lasts_in as known_lasts, body_scope, HaveOwnTypes, HaveEquations, NodeSound}
use Rattle.law_values.proofs.ValuedLemmas.Laws.{not_both}
use Rattle.law_values.proofs.ValuedLemmas.Scoped.{still_known}
use Rattle.law_games.specs.Wires.Wired.{Held, held_at, Callees, lasts_in}
use Rattle.law_games.specs.Wires.WiredNodes.{remembers_in, controls_in, body_names, contract_names, wired_observer, wired_node, next_observer, next_node, SoundNode as SoundWires}
use Rattle.law_games.specs.Wiretyped.Typed.{IsWire, AreWires, OutputsTyped, BlockTyped, NodeTyped}
use Rattle.law_games.specs.Wiretyped.Kept.{LastsKept, NodeKept, NodeGiven}
use Rattle.law_games.proofs.WiretypedLemmas.Exprs.{CalleesTyped, NamesAre, LastsAre, as_wire}
use Rattle.law_games.proofs.WiretypedLemmas.Scopes.{OuterAre, block_name, last_declared, last_constant}
use Rattle.law_games.proofs.WiretypedLemmas.Begins.{block_begins}
use Rattle.law_games.proofs.WiretypedLemmas.Blocks.{block_wires}
use Rattle.law_games.proofs.WiretypedLemmas.BlocksStored.{block_sound, block_next}
use Rattle.law_games.proofs.WiretypedLemmas.Contracts.{contract_wires, contract_sound, contract_next, contract_begins, typed_part, kept_part, input_typed, output_typed, outputs_last, input_other, row_wires, defined_here, declares_own, declares_more}

based : (b : Bool) → on_base b ≡ Some [] → IsTrue b
based true h = refl
based false h = cc

module _ (types : List TypeDecl) (C : Callees) (among : List ℕ → Option Node) (typed : List ℕ → Instant → Type 0) (kept : List ℕ → Instant → Instant → Type 0) (given : List ℕ → Instant → Type 0) (K : CalleesTyped types C among typed kept given) where
  module _ (s : Scope) (n : Node) (ok : NodeSound types among s n) (r : ClocksRight n) (inputs : List Value) (ins : AreWires types n.inputs inputs) where
    -- what the body reads
    body_outer : (free : Instant) → NodeGiven types given s n free → OuterAre types among n.body (λ x. on_base (declares n.inputs x || (declares n.outputs x || declares (controls_of n.contract) x))) (body_scope s n) (body_names types C n inputs free)
    body_outer free g x t nb on l = by (declares (controls_of n.contract) x) refl
      where
        cs : List Decl
        cs = controls_of n.contract

        vs : List Value
        vs = controls_in types C n free

        not_output : (b : Bool) → IsFalse b → IsTrue (declares n.outputs x || b) → ⊥
        not_output b f h = told (declares n.outputs x) refl h
          where
            told : (d : Bool) → declares n.outputs x ≡ d → IsTrue (d || b) → ⊥
            told true q h = not_both (block_defines n.body x) (defined_here types among n.body n.outputs x ok.1.1.1.0 q) nb
            told false q h = not_both b h f

        read : (b : Bool) → declares n.inputs x ≡ b → IsFalse (declares cs x) → IsTrue (b || (declares n.outputs x || declares cs x)) → IsWire types t (input_of n.inputs inputs absent x)
        read true q f h = input_typed types among (body_scope s n) n.inputs inputs absent x t ins ok.1.0.0 l q
        read false q f h = absurd (not_output (declares cs x) f h)

        by : (d : Bool) → declares cs x ≡ d → IsWire types t (body_names types C n inputs free x)
        by true q = input_typed types among (body_scope s n) cs vs (input_of n.inputs inputs absent) x t (row_wires types cs (part Controls free) g.0) ok.1.1.0 l q
        by false q =
            subst (λ v. IsWire types t v) (sym (input_other cs vs (input_of n.inputs inputs absent) x q))
            (read (declares n.inputs x) refl q (based (declares n.inputs x || (declares n.outputs x || declares cs x)) on))

    -- what the contract reads
    contract_reads : (now : Instant) → OutputsTyped types n.outputs now → NamesAre types (inside_node s n) (λ x. on_base (declares n.inputs x || declares n.outputs x)) (contract_names types C n inputs now)
    contract_reads now o x c t on l = by (declares n.outputs x) refl
      where
        is_some : (b : Bool) → on_base b ≡ Some c → IsTrue b
        is_some true h = refl
        is_some false h = cc

        read : (b e : Bool) → declares n.inputs x ≡ b → IsFalse e → IsTrue (b || e) → IsWire types t (input_of n.inputs inputs absent x)
        read true e q f h = input_typed types among (inside_node s n) n.inputs inputs absent x t ins ok.0.0 l q
        read false e q f h = absurd (not_both e h f)

        by : (d : Bool) → declares n.outputs x ≡ d → IsWire types t (if d then now (Named x ∷ []) else input_of n.inputs inputs absent x)
        by true q = output_typed types among (inside_node s n) n.outputs now x t o ok.0.1 l q
        by false q = read (declares n.inputs x) (declares n.outputs x) refl q (is_some (declares n.inputs x || declares n.outputs x) on)

    -- last values of outputs
    body_last : (mem : Instant) → LastsKept types (inside_node s n) n.outputs mem → LastsAre types (body_scope s n) (known_lasts n.outputs no_lasts) (lasts_in n.outputs mem absent)
    body_last mem k x h =
        let q = outputs_last types among (inside_node s n) n.outputs mem ok.0.1 k x h in
        (q.0, (still_known x (controls_of n.contract) (inside_node s n) q.0 q.1.0, q.1.1))

    -- the values of outputs are those of the body
    outputs_wires : (ds : List Decl) (now : Instant) (rest : Instant) → ((x : List ℕ) → IsTrue (declares ds x) → IsTrue (declares n.outputs x)) → HaveOwnTypes types among (body_scope s n) ds → HaveEquations types among n.body ds → BlockTyped types typed (body_scope s n) n.body (part Body now) → ((x : List ℕ) → rest (Named x ∷ []) ≡ (if declares n.outputs x then now (Body ∷ Named x ∷ []) else Absent)) → OutputsTyped types ds rest
    outputs_wires [] now rest inc h e w same = tt
    outputs_wires (d ∷ ds) now rest inc h e w same = (
      subst (λ v. IsWire types d.ty v) (sym (same d.name))
          (subst (λ b. IsWire types d.ty (if b then now (Body ∷ Named d.name ∷ []) else Absent)) (sym (inc d.name (declares_own d ds)))
          (as_wire types (lookup (body_scope s n).variables d.name) d.ty (now (Body ∷ Named d.name ∷ [])) h.0 (block_name types among typed n.body (body_scope s n) (part Body now) d.name w e.0.0))),
      outputs_wires ds now rest (λ x z. inc x (declares_more d ds x z)) h.1 e.1 w same,
    )

    pub node_wires : (m : Held) (now : Instant) → NodeKept types kept s n m.start m.memory → NodeGiven types given s n m.free → NodeTyped types typed s n now → NodeTyped types typed s n (wired_node types C n inputs m now)
    node_wires m now k g w = (
      outputs_wires n.outputs now (wired_node types C n inputs m now) (λ x z. z) ok.1.0.1 ok.1.1.1.0 w.1.0 (λ x. refl),
      (
        block_wires types C among typed kept given K n.body false _ (body_scope s n) (known_lasts n.outputs no_lasts) (body_names types C n inputs m.free) (lasts_in n.outputs m.memory absent) (held_at Body m) (part Body now)
            (body_outer m.free g) (body_last m.memory k.0) r.body ok.1.1.1.1.0 k.1.0 g.1.0 w.1.0,
        typed_part types C among typed kept given K n.contract (inside_node s n) _ inputs (controls_in types C n m.free) _ (wired_observer types C n.contract (contract_names types C n inputs now) (lasts_in n.outputs m.memory absent) m now)
            (contract_wires types C among typed kept given K n.contract (inside_node s n) _ (known_lasts n.outputs no_lasts) (contract_names types C n inputs now) (lasts_in n.outputs m.memory absent) m now
            (contract_reads now w.0) (outputs_last types among (inside_node s n) n.outputs m.memory ok.0.1 k.0) r.contract ok.1.1.1.1.1 k.1.1 g.1.1 w.1.1),
      ),
    )

    pub node_sound : (m : Held) (W : Instant) → NodeKept types kept s n m.start m.memory → NodeGiven types given s n m.free → NodeTyped types typed s n W → SoundWires types C n inputs m W
    node_sound m W k g w =
        record {
          body =
              block_sound types C among typed kept given K n.body _ (body_scope s n) (known_lasts n.outputs no_lasts) (body_names types C n inputs m.free) (lasts_in n.outputs m.memory absent) (held_at Body m) (part Body W)
              (body_outer m.free g) (body_last m.memory k.0) r.body ok.1.1.1.1.0 k.1.0 g.1.0 w.1.0;
          contract =
              contract_sound types C among typed kept given K n.contract (inside_node s n) _ (known_lasts n.outputs no_lasts) (contract_names types C n inputs W) (lasts_in n.outputs m.memory absent) m W
              (contract_reads W w.0) (outputs_last types among (inside_node s n) n.outputs m.memory ok.0.1 k.0) r.contract ok.1.1.1.1.1 k.1.1 g.1.1 w.1.1;
        }

    pub node_next : (m : Held) (W : Instant) → NodeKept types kept s n m.start m.memory → NodeGiven types given s n m.free → NodeTyped types typed s n W → NodeKept types kept s n m.start (next_node types C n inputs m W)
    node_next m W k g w = (
      (λ x t h l. subst (λ b. IsWire types t (if b then W (Named x ∷ []) else Absent)) (sym h) (output_typed types among (inside_node s n) n.outputs W x t w.0 ok.0.1 l (last_declared n.outputs x h))),
      (
        block_next types C among typed kept given K n.body (body_scope s n) (known_lasts n.outputs no_lasts) (body_names types C n inputs m.free) (lasts_in n.outputs m.memory absent) (held_at Body m) (part Body W) ok.1.1.1.1.0 k.1.0 g.1.0 w.1.0,
        kept_part types C among typed kept given K n.contract (inside_node s n) _ _ m.start (next_observer types C n.contract (contract_names types C n inputs W) (lasts_in n.outputs m.memory absent) m W)
            (contract_next types C among typed kept given K n.contract (inside_node s n) (known_lasts n.outputs no_lasts) (contract_names types C n inputs W) (lasts_in n.outputs m.memory absent) m W ok.1.1.1.1.1 k.1.1 g.1.1 w.1.1),
      ),
    )

  -- registers at the start
  pub node_begins : (s : Scope) (n : Node) (start mem : Instant) → NodeSound types among s n → NodeKept types kept s n start mem → NodeKept types kept s n start (remembers_in types C n start [])
  node_begins s n start mem ok k = (
    (λ x t h l. last_constant types among (inside_node s n) n.body n.outputs x t ok.0.1 ok.1.1.1.0 h l),
    (
      block_begins types C among typed kept given K n.body (body_scope s n) (known_lasts n.outputs no_lasts) (part Body start) (part Body mem) ok.1.1.1.1.0 k.1.0,
      kept_part types C among typed kept given K n.contract (inside_node s n) _ _ start (remembers_contract types C.remembers n.contract start [])
          (contract_begins types C among typed kept given K n.contract (inside_node s n) (known_lasts n.outputs no_lasts) start mem ok.1.1.1.1.1 k.1.1),
    ),
  )
