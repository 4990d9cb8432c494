-- Nodes: what is there of the wires meets the meaning, and the next memory is what the longer history remembers.
use Rattle.std.proofs.Common.{◌≡◌, List, [], ◌∷◌, refl, sym, ap, ◌∙◌}
use Rattle.std.specs.Prelude.{Bool, true, false, if◌then◌else◌, IsTrue, IsFalse, Option, None, Some, ℕ}
use Rattle.hp_base.specs.declared.value.Value.{Value}
use Rattle.hp_base.specs.declared.value.Value.TheVariants.{Absent}
use Rattle.hp_tree.specs.Expressions.{Expr}
use Rattle.hp_tree.specs.Blocks.{Decl, Block, block}
use Rattle.hp_tree.specs.Programs.{TypeDecl, Contract, Node}
use Rattle.hp_tree.specs.Instant.{Body, Observer, Assume, Enforce, Named, Fresh, Instant, Past, Given, part, parts, own, nothing, in_observer, in_node, holds}
use Rattle.hp_tree.specs.Meaning.{Names, Nodes, declares, some_defines, lasts, inside, clock_in, expr, read_in, last_in, scope, observer, node, absent}
use Rattle.hp_meaning.specs.Causal.Clocked.{Standing, standing_of, TellsOnBase, ContractRight, own_clock, ClocksRight}
use Rattle.hp_meaning.specs.Contract.Memory.{is_last, remembers, remembers_block, remembers_contract, in_memory}
use Rattle.law_games.specs.Wires.Wired.{filled_abstraction, Held, held, held_at, lasts_in, Callees, value}
use Rattle.law_games.specs.Wires.WiredBlocks.{read_of, lasts_of, wired_block, shown_block}
use Rattle.law_games.specs.Wires.WiredNodes.{wired_told, shown_told, next_told, SoundTold, FillsTold, wired_observer, shown_observer, next_observer, SoundObserver, FillsObserver, last_outputs, remembers_in, controls_in, body_names, contract_names, wired_node, shown_node, next_node, SoundNode, FillsNode}
use Rattle.law_games.proofs.WiresLemmas.Exprs.{if_true, where_true, CallsMirror, given, Seen, shown_top, met, kept}
use Rattle.law_games.proofs.WiresLemmas.Automata.{seen_read}
use Rattle.law_games.proofs.WiresLemmas.Names.{SeenBase, lasts_same, lasts_newest, lasts_split, twice_if}
use Rattle.law_games.proofs.WiresLemmas.Blocks.{own_fresh, shown_fresh, wired_fresh, met_block, kept_block}

pub last_case : (d : Bool) (u v : Value) → (IsTrue d → u ≡ v) → (if d then u else Absent) ≡ (if d then v else Absent)
last_case true u v f = f refl
last_case false u v f = refl

out_case : (d s k : Bool) (w : Value) → (IsTrue d → IsTrue k) → (IsFalse s → w ≡ Absent) → (if d then w else Absent) ≡ (if d then (if s then where_true k w else Absent) else Absent)
out_case true true k w f g = sym (if_true k w Absent (f refl))
out_case true false k w f g = g refl
out_case false s k w f g = refl

absent_in : (d : Bool) (w u : Value) → w ≡ (if d then u else Absent) → IsFalse d → w ≡ Absent
absent_in true w u e f = cc
absent_in false w u e f = e

module _ (types : List TypeDecl) (N : Nodes) (C : Callees) (M : CallsMirror N C) where
  abbrev pub remembers_told : Option Expr → Instant → Past → Instant
  remembers_told None fill past = nothing
  remembers_told (Some e) fill past = remembers types C.remembers e fill past

  abbrev pub behind_told : Option Expr → Instant → Instant → Past → Held
  behind_told o fill free G = held fill (remembers_told o fill G) free

  abbrev pub told : Option Expr → Names → Names → Given → Instant → Instant
  told None names last g now = nothing
  told (Some e) names last g now = expr types filled_abstraction N e [] names last g now

  pub told_met : (o : Option Expr) (st : Standing) (nM nW last : Names) (fill free : Instant) (G : Past) (W : Instant) → Seen types st nM nW → TellsOnBase st o → FillsTold types C o fill free → SoundTold types C o nW (behind_told o fill free G) W → W ≡ wired_told types C o nW last (held fill (remembers_told o fill G) free) W → shown_told types C o nW (behind_told o fill free G) W ≡ told o nM last (given G free) (shown_told types C o nW (behind_told o fill free G) W)
  told_met None st nM nW last fill free G W seen r fi so h = refl
  told_met (Some e) st nM nW last fill free G W seen r fi so h = met types N C M e [] st nM nW last fill free G W seen tt r fi so h

  pub told_kept : (o : Option Expr) (nW last : Names) (fill free : Instant) (G : Past) (W : Instant) → SoundTold types C o nW (behind_told o fill free G) W → W ≡ wired_told types C o nW last (held fill (remembers_told o fill G) free) W → remembers_told o fill (shown_told types C o nW (behind_told o fill free G) W ∷ G) ≡ next_told types C o nW (held fill (remembers_told o fill G) free) W
  told_kept None nW last fill free G W so h = refl
  told_kept (Some e) nW last fill free G W so h = kept types N C M e [] nW last fill free G W so h

  lasts_at : (b : Block) (fill : Instant) (P : Past) (last : Names) → last_in types filled_abstraction N b P last ≡ lasts_of b (remembers_block types C.remembers b fill P) last
  lasts_at (block ds es) fill P last = lasts_same types C ds es fill P last

  -- a contract's parts in a bigger instant: its memory, wires and what is given are read at the steps Observer, Assume and Enforce
  abbrev pub observer_held : Option Contract → Names → Instant → Instant → Instant → Past → Held
  observer_held o outs body fill free G = held fill (in_memory outs body (remembers_contract types C.remembers o fill G)) free

  pub record ObserverWires (c : Contract) (names last : Names) (m : Held) (W : Instant) : Type 0 where
    pub block : part Observer W ≡ wired_block types C c.body false names last (held_at Observer m) (part Observer W)
    pub assume : part Assume W ≡ wired_told types C c.assume (read_of c.body names (part Observer W)) (lasts_of c.body (part Observer m.memory) last) (held_at Assume m) (part Assume W)
    pub enforce : part Enforce W ≡ wired_told types C c.enforce (read_of c.body names (part Observer W)) (lasts_of c.body (part Observer m.memory) last) (held_at Enforce m) (part Enforce W)

  -- where all names are read alike
  alike : (st : Standing) (names : Names) → SeenBase st names names
  alike st names x e = refl

  pub some_observer_met : (c : Contract) (st : Standing) (names last outs : Names) (body fill free : Instant) (G : Past) (W now : Instant) → ContractRight st (Some c) → FillsObserver types C (Some c) fill free → SoundObserver types C (Some c) names last (observer_held (Some c) outs body fill free G) W → ObserverWires c names last (observer_held (Some c) outs body fill free G) W → part Observer now ≡ shown_block types C c.body names last (held_at Observer (observer_held (Some c) outs body fill free G)) (part Observer W) → part Assume now ≡ shown_told types C c.assume (read_of c.body names (part Observer W)) (held_at Assume (observer_held (Some c) outs body fill free G)) (part Assume W) → part Enforce now ≡ shown_told types C c.enforce (read_of c.body names (part Observer W)) (held_at Enforce (observer_held (Some c) outs body fill free G)) (part Enforce W) → shown_observer types C (Some c) names last (observer_held (Some c) outs body fill free G) W ≡ observer types filled_abstraction N (Some c) names last (given G free) now
  some_observer_met c st names last outs body fill free G W now r fi so h ng na ne =
      let P = own (parts Observer G) in
      let mG = held_at Observer (observer_held (Some c) outs body fill free G) in
      let SB = shown_block types C c.body names last mG (part Observer W) in
      let nW = read_of c.body names (part Observer W) in
      let lw = lasts_of c.body mG.memory last in
      let seen = seen_read types N C M c.body st names names last mG (part Observer W) (alike st names) in
      let lM : last_in types filled_abstraction N c.body P last ≡ lw = lasts_at c.body (part Observer fill) P last in
      λ z. in_observer
      ((met_block types N C M c.body false st names names last (part Observer fill) (part Observer free) P (part Observer W) (alike st names) r.0 fi.0 so.0 h.block
      ∙ ap (λ i. scope types filled_abstraction N c.body false names last (given P (part Observer free)) i) (sym ng)) z)
      ((told_met c.assume (standing_of c.body st) (read_in types filled_abstraction N c.body names SB) nW lw (part Assume fill) (part Assume free) (parts Assume G) (part Assume W) seen r.1 fi.1 so.1 h.assume
      ∙ (λ y. told c.assume (read_in types filled_abstraction N c.body names (sym ng y)) (sym lM y) (given (parts Assume G) (part Assume free)) (sym na y))) z)
      ((told_met c.enforce (standing_of c.body st) (read_in types filled_abstraction N c.body names SB) nW lw (part Enforce fill) (part Enforce free) (parts Enforce G) (part Enforce W) seen r.2 fi.2 so.2 h.enforce
      ∙ (λ y. told c.enforce (read_in types filled_abstraction N c.body names (sym ng y)) (sym lM y) (given (parts Enforce G) (part Enforce free)) (sym ne y))) z)

  -- ---- nodes

  pub outputs_last : (ds : List Decl) (body observer : Instant) (G : Past) (out : Names) → lasts (value types) ds G out ≡ lasts_in ds (in_memory (last_outputs types C ds G) body observer) out
  outputs_last ds body observer G out = λ z x. (lasts_split types C ds G out absent x ∙ twice_if types C (is_last ds x) (lasts (value types) ds G absent x) (out x) Absent) z

  body_out : (b : Block) (names last : Names) (m : Held) (W : Instant) (d : Bool) (x : List ℕ) → W ≡ wired_block types C b false names last m W → (IsTrue d → own_clock b x ≡ []) → (if d then W (Named x ∷ []) else Absent) ≡ (if d then shown_block types C b names last m W (Named x ∷ []) else Absent)
  body_out (block ds es) names last m W d x h f =
      out_case d (some_defines es x) (holds types (clock_in ds x) (inside es names W)) (W (Named x ∷ []))
      (λ t. ap (λ c. holds types c (inside es names W)) (f t))
      (absent_in (some_defines es x) (W (Named x ∷ [])) _ (ap (λ w. w (Named x ∷ [])) h))

  pub observer_met : (o : Option Contract) (st : Standing) (names last : Names) (fill free : Instant) (G : Past) (W body bodyI bodyW : Instant) (outs outsI outsW : Names) (inputs controls : List Value) → ContractRight st o → FillsObserver types C o fill free → SoundObserver types C o names last (observer_held o outs body fill free G) W → W ≡ in_node outsW inputs controls bodyW (wired_observer types C o names last (observer_held o outs body fill free G) W) → shown_observer types C o names last (observer_held o outs body fill free G) W ≡ observer types filled_abstraction N o names last (given G free) (in_node outsI inputs controls bodyI (shown_observer types C o names last (observer_held o outs body fill free G) W))
  observer_met None st names last fill free G W body bodyI bodyW outs outsI outsW inputs controls r fi so h = refl
  observer_met (Some c) st names last fill free G W body bodyI bodyW outs outsI outsW inputs controls r fi so h =
      some_observer_met c st names last outs body fill free G W (in_node outsI inputs controls bodyI (shown_observer types C (Some c) names last (observer_held (Some c) outs body fill free G) W)) r fi so
      (record { block = ap (part Observer) h; assume = ap (part Assume) h; enforce = ap (part Enforce) h }) refl refl refl

  -- what is there of a node's wires meets its meaning
  pub node_met : (n : Node) (inputs : List Value) (fill free : Instant) (G : Past) (W : Instant) → ClocksRight n → FillsNode types C n fill free → SoundNode types C n inputs (held fill (remembers_in types C n fill G) free) W → W ≡ wired_node types C n inputs (held fill (remembers_in types C n fill G) free) W → shown_node types C n inputs (held fill (remembers_in types C n fill G) free) W ≡ node types filled_abstraction N n inputs (given G free) (shown_node types C n inputs (held fill (remembers_in types C n fill G) free) W)
  node_met n inputs fill free G W r fi so h =
      let mem = remembers_in types C n fill G in
      let sh = shown_node types C n inputs (held fill mem free) W in
      let last = lasts_in n.outputs mem absent in
      let ls : last ≡ lasts (value types) n.outputs G absent = sym (outputs_last n.outputs (remembers_block types C.remembers n.body (part Body fill) (own (parts Body G))) (remembers_contract types C.remembers n.contract fill G) G absent) in
      let names = body_names types C n inputs free in
      let P = own (parts Body G) in
      λ z. in_node
      (λ x. (ap (λ w. w (Named x ∷ [])) h
      ∙ body_out n.body names last (held (part Body fill) (part Body mem) (part Body free)) (part Body W) (declares n.outputs x) x (ap (part Body) h) (r.outputs x)) z)
      inputs (controls_in types C n free)
      ((met_block types N C M n.body false _ names names last (part Body fill) (part Body free) P (part Body W) (alike _ names) r.body fi.body so.body (ap (part Body) h)
      ∙ ap (λ l. scope types filled_abstraction N n.body false names l (given P (part Body free)) (part Body sh)) ls) z)
      ((observer_met n.contract _ (contract_names types C n inputs W) last fill free G W (remembers_block types C.remembers n.body (part Body fill) P) (part Body sh) _ (last_outputs types C n.outputs G) (λ x. W (Named x ∷ [])) _ inputs (controls_in types C n free) r.contract fi.contract so.contract h
      ∙ ap (λ l. observer types filled_abstraction N n.contract (contract_names types C n inputs W) l (given G free) sh) ls) z)

  pub observer_kept : (o : Option Contract) (st : Standing) (names last : Names) (fill free : Instant) (G : Past) (W body bodyI bodyW : Instant) (outs outsI outsW : Names) (inputs controls : List Value) → ContractRight st o → SoundObserver types C o names last (observer_held o outs body fill free G) W → W ≡ in_node outsW inputs controls bodyW (wired_observer types C o names last (observer_held o outs body fill free G) W) → remembers_contract types C.remembers o fill (in_node outsI inputs controls bodyI (shown_observer types C o names last (observer_held o outs body fill free G) W) ∷ G) ≡ next_observer types C o names last (observer_held o outs body fill free G) W
  observer_kept None st names last fill free G W body bodyI bodyW outs outsI outsW inputs controls r so h = refl
  observer_kept (Some c) st names last fill free G W body bodyI bodyW outs outsI outsW inputs controls r so h =
      let P = own (parts Observer G) in
      let mb = remembers_block types C.remembers c.body (part Observer fill) P in
      λ z. in_observer
      ((ap (remembers_block types C.remembers c.body (part Observer fill))
      (own_fresh false (shown_block types C c.body names last (held (part Observer fill) mb (part Observer free)) (part Observer W)) (parts Observer G)
      (shown_fresh types N C M c.body names last (held (part Observer fill) mb (part Observer free)) (part Observer W) ∙ ap (λ w. w (Observer ∷ Fresh ∷ [])) h ∙ wired_fresh types N C M c.body false names last (held (part Observer fill) mb (part Observer free)) (part Observer W)))
      ∙ kept_block types N C M c.body false st names last (part Observer fill) (part Observer free) P (part Observer W) r.0 so.0 (ap (part Observer) h)) z)
      (told_kept c.assume (read_of c.body names (part Observer W)) _ (part Assume fill) (part Assume free) (parts Assume G) (part Assume W) so.1 (ap (part Assume) h) z)
      (told_kept c.enforce (read_of c.body names (part Observer W)) _ (part Enforce fill) (part Enforce free) (parts Enforce G) (part Enforce W) so.2 (ap (part Enforce) h) z)

  -- the next memory
  pub node_kept : (n : Node) (inputs : List Value) (fill free : Instant) (G : Past) (W : Instant) → ClocksRight n → SoundNode types C n inputs (held fill (remembers_in types C n fill G) free) W → W ≡ wired_node types C n inputs (held fill (remembers_in types C n fill G) free) W → remembers_in types C n fill (shown_node types C n inputs (held fill (remembers_in types C n fill G) free) W ∷ G) ≡ next_node types C n inputs (held fill (remembers_in types C n fill G) free) W
  node_kept n inputs fill free G W r so h =
      let mem = remembers_in types C n fill G in
      let sh = shown_node types C n inputs (held fill mem free) W in
      let last = lasts_in n.outputs mem absent in
      let names = body_names types C n inputs free in
      let P = own (parts Body G) in
      let mb = remembers_block types C.remembers n.body (part Body fill) P in
      λ z. in_memory
      (λ x. last_case (is_last n.outputs x) _ (W (Named x ∷ [])) (lasts_newest types C n.outputs sh G absent x) z)
      ((ap (remembers_block types C.remembers n.body (part Body fill))
      (own_fresh false (shown_block types C n.body names last (held (part Body fill) mb (part Body free)) (part Body W)) (parts Body G)
      (shown_fresh types N C M n.body names last (held (part Body fill) mb (part Body free)) (part Body W) ∙ ap (λ w. w (Body ∷ Fresh ∷ [])) h ∙ wired_fresh types N C M n.body false names last (held (part Body fill) mb (part Body free)) (part Body W)))
      ∙ kept_block types N C M n.body false _ names last (part Body fill) (part Body free) P (part Body W) r.body so.body (ap (part Body) h)) z)
      (observer_kept n.contract _ (contract_names types C n inputs W) last fill free G W mb (part Body sh) _ (last_outputs types C n.outputs G) (λ x. W (Named x ∷ [])) _ inputs (controls_in types C n free) r.contract so.contract h z)

-- ---- what is assumed and enforced, on wires and at the instant

module _ (types : List TypeDecl) (C : Callees) where
  told_top : (o : Option Expr) (names last : Names) (m : Held) (W : Instant) → W ≡ wired_told types C o names last m W → shown_told types C o names m W [] ≡ W []
  told_top None names last m W h = sym (ap (λ w. w []) h)
  told_top (Some e) names last m W h = shown_top types C e [] names m W

  pub observer_tops : (o : Option Contract) (names last : Names) (m : Held) (W body : Instant) (outs : Names) (inputs controls : List Value) → W ≡ in_node outs inputs controls body (wired_observer types C o names last m W) → (shown_observer types C o names last m W (Assume ∷ []) ≡ W (Assume ∷ [])) × (shown_observer types C o names last m W (Enforce ∷ []) ≡ W (Enforce ∷ []))
  observer_tops None names last m W body outs inputs controls h = (sym (ap (λ w. w (Assume ∷ [])) h), sym (ap (λ w. w (Enforce ∷ [])) h))
  observer_tops (Some c) names last m W body outs inputs controls h = (
    told_top c.assume (read_of c.body names (part Observer W)) _ (held_at Assume m) (part Assume W) (ap (part Assume) h),
    told_top c.enforce (read_of c.body names (part Observer W)) _ (held_at Enforce m) (part Enforce W) (ap (part Enforce) h),
  )

  pub node_tops : (n : Node) (inputs : List Value) (m : Held) (W : Instant) → W ≡ wired_node types C n inputs m W → (shown_node types C n inputs m W (Assume ∷ []) ≡ W (Assume ∷ [])) × (shown_node types C n inputs m W (Enforce ∷ []) ≡ W (Enforce ∷ []))
  node_tops n inputs m W h = observer_tops n.contract (contract_names types C n inputs W) (lasts_in n.outputs m.memory absent) m W _ _ inputs (controls_in types C n m.free) h
