-- Callees: what is shown of the wires of their contracts meets the abstract meaning of calls, and their next memory is what the longer past leaves.
use Rattle.std.proofs.Common.{◌≡◌, List, [], ◌∷◌, refl, sym, ap, ◌∙◌}
use Rattle.std.specs.Prelude.{ℕ, ⊤, Bool, true, false, if◌then◌else◌, Option, None, Some}
use Rattle.std.specs.Str.{bytes_eq}
use Rattle.hp_base.specs.declared.value.Value.{Value}
use Rattle.hp_base.specs.declared.value.Value.TheVariants.{B}
use Rattle.hp_tree.specs.declared.program.Item.{Item}
use Rattle.hp_tree.specs.declared.program.Item.TheVariants.{TypeItem, NodeItem}
use Rattle.hp_tree.specs.Blocks.{Decl}
use Rattle.hp_tree.specs.Programs.{TypeDecl, Contract, Node}
use Rattle.hp_tree.specs.Instant.{Named, Fresh, Instant, Past, Given, nothing, in_node}
use Rattle.hp_tree.specs.Meaning.{Names, lasts, names_of, observer, no_nodes, node_among, absent}
use Rattle.hp_meaning.specs.Causal.Abstract.{given_outputs}
use Rattle.hp_meaning.specs.Causal.Clocked.{Standing, ContractRight, ClocksRight}
use Rattle.hp_meaning.specs.Contract.Memory.{is_last, in_memory, remembers_contract, remembers_callee}
use Rattle.law_games.specs.Wires.Wired.{filled_abstraction, Held, held, lasts_in, value}
use Rattle.law_games.specs.Wires.WiredNodes.{wired_observer, shown_observer, SoundObserver, FillsObserver, last_outputs}
use Rattle.law_games.specs.Wires.WiredCallees.{no_callees, alone_names, alone_in, filled_callees, wired_alone, shown_alone, next_told_of, next_alone, SoundAlone, outputs_by, alone_by, wired_by, shown_by, next_by, SoundBy, FillsBy, callee_wires}
use Rattle.law_games.specs.Wires.Laws.{AllClocksRight}
use Rattle.law_games.proofs.WiresLemmas.Exprs.{CallsMirror, given}
use Rattle.law_games.proofs.WiresLemmas.Names.{lasts_newest}
use Rattle.law_games.proofs.WiresLemmas.Nodes.{last_case, observer_met, observer_kept, outputs_last}

pub none_mirror : CallsMirror no_nodes no_callees
none_mirror =
    record {
      outputs = λ f. refl;
      named = λ f o ins m W. refl;
      fresh = λ f ins m W. refl;
      meets = λ f ins fill free G W so fi h. absurd so;
      nexts = λ f ins fill free G W so h. absurd so;
    }

module _ (types : List TypeDecl) where
  -- what an instance remembers, by its contract
  abbrev pub memory_alone : List Decl → Option Contract → Instant → Past → Instant
  memory_alone ds o fill G =
      elim o [
        | None ↦ nothing
        | Some c ↦ in_memory (last_outputs types no_callees ds G) nothing (remembers_contract types no_callees.remembers (Some c) fill G)
      ]

  abbrev pub held_alone : List Decl → Option Contract → Instant → Instant → Past → Held
  held_alone ds o fill free G = held fill (memory_alone ds o fill G) free

  abbrev last_alone : List Decl → Option Contract → Instant → Past → Names
  last_alone ds o fill G = lasts_in ds (memory_alone ds o fill G) absent

  contract_met : (ds : List Decl) (o : Option Contract) (st : Standing) (names outsI outsW : Names) (fill free : Instant) (G : Past) (W : Instant) (ins : List Value) → ContractRight st o → FillsObserver types no_callees o fill free → SoundObserver types no_callees o names (last_alone ds o fill G) (held_alone ds o fill free G) W → W ≡ in_node outsW ins [] nothing (wired_observer types no_callees o names (last_alone ds o fill G) (held_alone ds o fill free G) W) → shown_observer types no_callees o names (last_alone ds o fill G) (held_alone ds o fill free G) W ≡ observer types filled_abstraction no_nodes o names (lasts (value types) ds G absent) (given G free) (in_node outsI ins [] nothing (shown_observer types no_callees o names (last_alone ds o fill G) (held_alone ds o fill free G) W))
  contract_met ds None st names outsI outsW fill free G W ins r fi so h = refl
  contract_met ds (Some c) st names outsI outsW fill free G W ins r fi so h =
      observer_met types no_nodes no_callees none_mirror (Some c) st names (last_alone ds (Some c) fill G) fill free G W nothing nothing nothing (last_outputs types no_callees ds G) outsI outsW ins [] r fi so h
      ∙ ap (λ l. observer types filled_abstraction no_nodes (Some c) names l (given G free) (in_node outsI ins [] nothing (shown_observer types no_callees (Some c) names (last_alone ds (Some c) fill G) (held_alone ds (Some c) fill free G) W)))
      (sym (outputs_last types no_nodes no_callees none_mirror ds nothing (remembers_contract types no_callees.remembers (Some c) fill G) G absent))

  contract_kept : (ds : List Decl) (o : Option Contract) (st : Standing) (names outsW : Names) (fill free : Instant) (G : Past) (W : Instant) (ins : List Value) → ContractRight st o → SoundObserver types no_callees o names (last_alone ds o fill G) (held_alone ds o fill free G) W → W ≡ in_node outsW ins [] nothing (wired_observer types no_callees o names (last_alone ds o fill G) (held_alone ds o fill free G) W) → memory_alone ds o fill (in_node (λ x. W (Named x ∷ [])) ins [] nothing (shown_observer types no_callees o names (last_alone ds o fill G) (held_alone ds o fill free G) W) ∷ G) ≡ next_told_of types ds o names (last_alone ds o fill G) (held_alone ds o fill free G) W
  contract_kept ds None st names outsW fill free G W ins r so h = refl
  contract_kept ds (Some c) st names outsW fill free G W ins r so h =
      let sh = in_node (λ x. W (Named x ∷ [])) ins [] nothing (shown_observer types no_callees (Some c) names (last_alone ds (Some c) fill G) (held_alone ds (Some c) fill free G) W) in
      λ z. in_memory
      (λ x. last_case (is_last ds x) _ (W (Named x ∷ [])) (lasts_newest types no_callees ds sh G absent x) z)
      nothing
      (observer_kept types no_nodes no_callees none_mirror (Some c) st names (last_alone ds (Some c) fill G) fill free G W nothing nothing nothing (last_outputs types no_callees ds G) (λ x. W (Named x ∷ [])) outsW ins [] r so h z)

  alone_met : (n : Node) (st : Standing) (ins : List Value) (fill free : Instant) (G : Past) (W : Instant) → ContractRight st n.contract → FillsObserver types no_callees n.contract fill free → SoundAlone types n ins (held_alone n.outputs n.contract fill free G) W → W ≡ wired_alone types n ins (held_alone n.outputs n.contract fill free G) W → shown_alone types n ins (held_alone n.outputs n.contract fill free G) W ≡ alone_in types n ins (given G free) (shown_alone types n ins (held_alone n.outputs n.contract fill free G) W)
  alone_met n st ins fill free G W r fi so h =
      λ z. in_node (λ x. ap (λ w. w (Named x ∷ [])) h z) ins [] nothing
      (contract_met n.outputs n.contract st (alone_names n ins free) (λ x. W (Named x ∷ [])) (given_outputs n.outputs free absent) fill free G W ins r fi so h z)

  alone_kept : (n : Node) (st : Standing) (ins : List Value) (fill free : Instant) (G : Past) (W : Instant) → ContractRight st n.contract → SoundAlone types n ins (held_alone n.outputs n.contract fill free G) W → W ≡ wired_alone types n ins (held_alone n.outputs n.contract fill free G) W → memory_alone n.outputs n.contract fill (shown_alone types n ins (held_alone n.outputs n.contract fill free G) W ∷ G) ≡ next_alone types n ins (held_alone n.outputs n.contract fill free G) W
  alone_kept n st ins fill free G W r so h = contract_kept n.outputs n.contract st (alone_names n ins free) (given_outputs n.outputs free absent) fill free G W ins r so h

  -- ---- the nodes of a program by their names

  abbrev right_by : Option Node → Type 0
  right_by None = ⊤
  right_by (Some n) = ClocksRight n

  outputs_at : (items : List Item) (f : List ℕ) → (filled_callees types items).outputs f ≡ outputs_by types (node_among items f)
  outputs_at [] f = refl
  outputs_at (TypeItem t ∷ items) f = outputs_at items f
  outputs_at (NodeItem n ∷ items) f = by_case (bytes_eq n.name f) (outputs_at items f)
    where
      by_case : (t : Bool) → (filled_callees types items).outputs f ≡ outputs_by types (node_among items f) → (if t then names_of n.outputs else (filled_callees types items).outputs f) ≡ outputs_by types (if t then Some n else node_among items f)
      by_case true e = refl
      by_case false e = e

  instant_at : (items : List Item) (f : List ℕ) (ins : List Value) (g : Given) (now : Instant) → (filled_callees types items).instant f ins g now ≡ alone_by types (node_among items f) ins g now
  instant_at [] f ins g now = refl
  instant_at (TypeItem t ∷ items) f ins g now = instant_at items f ins g now
  instant_at (NodeItem n ∷ items) f ins g now = by_case (bytes_eq n.name f) (instant_at items f ins g now)
    where
      by_case : (t : Bool) → (filled_callees types items).instant f ins g now ≡ alone_by types (node_among items f) ins g now → (if t then alone_in types n ins g now else (filled_callees types items).instant f ins g now) ≡ alone_by types (if t then Some n else node_among items f) ins g now
      by_case true e = refl
      by_case false e = e

  clocks_at : (items : List Item) (f : List ℕ) → AllClocksRight items → right_by (node_among items f)
  clocks_at [] f r = tt
  clocks_at (TypeItem t ∷ items) f r = clocks_at items f r
  clocks_at (NodeItem n ∷ items) f r = by_case (bytes_eq n.name f) (clocks_at items f r.1)
    where
      by_case : (t : Bool) → right_by (node_among items f) → right_by (if t then Some n else node_among items f)
      by_case true e = r.0
      by_case false e = e

  met_by : (o : Option Node) (ins : List Value) (fill free : Instant) (G : Past) (W : Instant) → right_by o → SoundBy types o ins (held fill (remembers_callee types o fill G) free) W → FillsBy types o fill free → W ≡ wired_by types o ins (held fill (remembers_callee types o fill G) free) W → shown_by types o ins (held fill (remembers_callee types o fill G) free) W ≡ alone_by types o ins (given G free) (shown_by types o ins (held fill (remembers_callee types o fill G) free) W)
  met_by None ins fill free G W r so fi h = absurd so
  met_by (Some n) ins fill free G W r so fi h = alone_met n _ ins fill free G W r.contract fi so h

  kept_by : (o : Option Node) (ins : List Value) (fill free : Instant) (G : Past) (W : Instant) → right_by o → SoundBy types o ins (held fill (remembers_callee types o fill G) free) W → W ≡ wired_by types o ins (held fill (remembers_callee types o fill G) free) W → remembers_callee types o fill (shown_by types o ins (held fill (remembers_callee types o fill G) free) W ∷ G) ≡ next_by types o ins (held fill (remembers_callee types o fill G) free) W
  kept_by None ins fill free G W r so h = absurd so
  kept_by (Some n) ins fill free G W r so h = alone_kept n _ ins fill free G W r.contract so h

  named_by : (o : Option Node) (ins : List Value) (m : Held) (W : Instant) (x : List ℕ) → shown_by types o ins m W (Named x ∷ []) ≡ W (Named x ∷ [])
  named_by None ins m W x = refl
  named_by (Some n) ins m W x = refl

  fresh_by : (o : Option Node) (ins : List Value) (m : Held) (W : Instant) → shown_by types o ins m W (Fresh ∷ []) ≡ B false
  fresh_by None ins m W = refl
  fresh_by (Some n) ins m W = refl

  pub calls_mirror : (items : List Item) → AllClocksRight items → CallsMirror (filled_callees types items) (callee_wires types items)
  calls_mirror items r =
      record {
        outputs = λ f. outputs_at items f;
        named = λ f x ins m W. named_by (node_among items f) ins m W x;
        fresh = λ f ins m W. fresh_by (node_among items f) ins m W;
        meets = λ f ins fill free G W so fi h.
            met_by (node_among items f) ins fill free G W (clocks_at items f r) so fi h
            ∙ sym (instant_at items f ins (given G free) (shown_by types (node_among items f) ins (held fill (remembers_callee types (node_among items f) fill G) free) W));
        nexts = λ f ins fill free G W so h. kept_by (node_among items f) ins fill free G W (clocks_at items f r) so h;
      }
