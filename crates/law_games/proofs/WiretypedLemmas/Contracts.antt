-- Contracts, and the names that a node reads.
use Rattle.std.proofs.Common.{◌≡◌, ℕ, List, [], ◌∷◌, refl, sym, subst, ◌∙◌}
use Rattle.std.proofs.lemmas.Slice.Eq.{bytes_eq-Decides}
use Rattle.std.specs.Prelude.{Bool, true, false, ◌||◌, IsTrue, IsFalse, if◌then◌else◌, Option, None, Some}
use Rattle.std.specs.Str.{bytes_eq}
use Rattle.hp_base.specs.declared.ty.Ty.{Ty}
use Rattle.hp_base.specs.declared.ty.Ty.TheVariants as ty
use Rattle.hp_base.specs.declared.value.Value.{Value}
use Rattle.hp_tree.specs.Expressions.{Expr}
use Rattle.hp_tree.specs.Blocks.{Decl, Block}
use Rattle.hp_tree.specs.Programs.{TypeDecl, Contract, Node}
use Rattle.hp_tree.specs.Operators.{abstraction, marked}
use Rattle.hp_tree.specs.Instant.{Observer, Assume, Enforce, Named, Tail, Instant, Past, part, nothing, in_node}
use Rattle.hp_tree.specs.Meaning.{Names, declares, block_defines, input_of, given_to, no_nodes, absent}
use Rattle.hp_base.specs.Known.Known.{lookup}
use Rattle.hp_typing.specs.Scopes.{inside}
use Rattle.law_judged.specs.Typed.Scopes.{Scope}
use Rattle.hp_meaning.specs.Causal.Clocked.{Standing, standing_of, TellsOnBase, ContractRight}
use Rattle.hp_meaning.specs.Causal.Abstract.{given_outputs}
use Rattle.hp_meaning.specs.Contract.Memory.{is_last, in_memory, remembers, remembers_contract}
use Rattle.law_values.specs.Valued.Judged.{Lasts, no_lasts, lasts_in as known_lasts, lasts_of as known_of, HaveOwnTypes, HaveEquations, ToldSound, ContractSound}
use Rattle.law_values.proofs.ValuedLemmas.Laws.{or_either, or_left, or_right}
use Rattle.law_values.proofs.ValuedLemmas.Typed.{some_is}
use Rattle.law_games.specs.Wires.Wired.{Held, held_at, Callees, lasts_in}
use Rattle.law_games.specs.Wires.WiredBlocks.{read_of, lasts_of}
use Rattle.law_games.specs.Wires.WiredNodes.{wired_told, next_told, SoundTold, wired_observer, next_observer, SoundObserver}
use Rattle.law_games.specs.Wiretyped.Typed.{IsWire, AreWires, OutputsTyped, ToldTyped, ContractTyped}
use Rattle.law_games.specs.Wiretyped.Kept.{LastsKept, ToldKept, ContractKept, RowGiven, OutputsGiven, ToldGiven, ContractGiven}
use Rattle.law_games.proofs.WiretypedLemmas.Exprs.{CalleesTyped, NamesAre, LastsAre, expr_wires}
use Rattle.law_games.proofs.WiretypedLemmas.Stored.{judged_of, expr_sound, expr_next, expr_begins}
use Rattle.law_games.proofs.WiretypedLemmas.Scopes.{any_outer, last_declared, last_further}
use Rattle.law_games.proofs.WiretypedLemmas.Begins.{block_begins, seen_in, lasts_seen}
use Rattle.law_games.proofs.WiretypedLemmas.Blocks.{block_wires}
use Rattle.law_games.proofs.WiretypedLemmas.BlocksStored.{block_sound, block_next}

-- ---- contracts

module _ (types : List TypeDecl) (C : Callees) (among : List ℕ → Option Node) (typed : List ℕ → Instant → Type 0) (kept : List ℕ → Instant → Instant → Type 0) (given : List ℕ → Instant → Type 0) (K : CalleesTyped types C among typed kept given) where
  told_wires : (o : Option Expr) (s : Scope) (st : Standing) (lasts : Lasts) (names last : Names) (m : Held) (now : Instant) → NamesAre types s st names → LastsAre types s lasts last → TellsOnBase st o → ToldSound types among s lasts o → ToldKept types kept s o m.start m.memory → ToldGiven types given s o m.free → ToldTyped types typed s o now → ToldTyped types typed s o (wired_told types C o names last m now)
  told_wires None s st lasts names last m now nk lk r ok k g w = tt
  told_wires (Some e) s st lasts names last m now nk lk r ok k g w = expr_wires types C among typed kept given K s st lasts names last nk lk e [] ty.Bool m now r ok.0 ok.1 k g w

  told_sound : (o : Option Expr) (s : Scope) (st : Standing) (lasts : Lasts) (names : Names) (m : Held) (W : Instant) → NamesAre types s st names → TellsOnBase st o → ToldSound types among s lasts o → ToldKept types kept s o m.start m.memory → ToldGiven types given s o m.free → ToldTyped types typed s o W → SoundTold types C o names m W
  told_sound None s st lasts names m W nk r ok k g w = tt
  told_sound (Some e) s st lasts names m W nk r ok k g w = expr_sound types C among typed kept given K s st lasts names nk e [] m W r ok.0 (judged_of s e ty.Bool ok.1) k g w

  told_next : (o : Option Expr) (s : Scope) (lasts : Lasts) (names : Names) (m : Held) (W : Instant) → ToldSound types among s lasts o → ToldKept types kept s o m.start m.memory → ToldGiven types given s o m.free → ToldTyped types typed s o W → ToldKept types kept s o m.start (next_told types C o names m W)
  told_next None s lasts names m W ok k g w = tt
  told_next (Some e) s lasts names m W ok k g w = expr_next types C among typed kept given K s lasts names e [] m W ok.0 (judged_of s e ty.Bool ok.1) k g w

  abbrev told_memory : Option Expr → Instant → Past → Instant
  told_memory None start past = nothing
  told_memory (Some e) start past = remembers types C.remembers e start past

  told_begins : (o : Option Expr) (s : Scope) (lasts : Lasts) (start mem : Instant) → ToldSound types among s lasts o → ToldKept types kept s o start mem → ToldKept types kept s o start (told_memory o start [])
  told_begins None s lasts start mem ok k = tt
  told_begins (Some e) s lasts start mem ok k = expr_begins types C among typed kept given K s lasts e start mem ok.0 (judged_of s e ty.Bool ok.1) k

  pub contract_wires : (o : Option Contract) (s : Scope) (st : Standing) (lasts : Lasts) (names last : Names) (m : Held) (now : Instant) → NamesAre types s st names → LastsAre types s lasts last → ContractRight st o → ContractSound types among s lasts o → ContractKept types kept s o m.start m.memory → ContractGiven types given s o m.free → ContractTyped types typed s o now → ContractTyped types typed s o (wired_observer types C o names last m now)
  contract_wires None s st lasts names last m now nk lk r ok k g w = tt
  contract_wires (Some c) s st lasts names last m now nk lk r ok k g w =
      let outer = any_outer types among c.body st s names nk in
      let nk' = seen_in types among typed c.body st s lasts names (part Observer now) ok.0 outer w.0 in
      let lk' = lasts_seen types among kept c.body s lasts last (part Observer m.start) (part Observer m.memory) ok.0 lk k.0 in (
        block_wires types C among typed kept given K c.body false st s lasts names last (held_at Observer m) (part Observer now) outer lk r.0 ok.0 k.0 g.0 w.0,
        (
          told_wires c.assume (inside s c.body) (standing_of c.body st) (known_of c.body lasts) (read_of c.body names (part Observer now)) (lasts_of c.body (part Observer m.memory) last) (held_at Assume m) (part Assume now) nk' lk' r.1 ok.1.0 k.1.0 g.1.0 w.1.0,
          told_wires c.enforce (inside s c.body) (standing_of c.body st) (known_of c.body lasts) (read_of c.body names (part Observer now)) (lasts_of c.body (part Observer m.memory) last) (held_at Enforce m) (part Enforce now) nk' lk' r.2 ok.1.1 k.1.1 g.1.1 w.1.1,
        ),
      )

  pub contract_sound : (o : Option Contract) (s : Scope) (st : Standing) (lasts : Lasts) (names last : Names) (m : Held) (W : Instant) → NamesAre types s st names → LastsAre types s lasts last → ContractRight st o → ContractSound types among s lasts o → ContractKept types kept s o m.start m.memory → ContractGiven types given s o m.free → ContractTyped types typed s o W → SoundObserver types C o names last m W
  contract_sound None s st lasts names last m W nk lk r ok k g w = tt
  contract_sound (Some c) s st lasts names last m W nk lk r ok k g w =
      let outer = any_outer types among c.body st s names nk in
      let nk' = seen_in types among typed c.body st s lasts names (part Observer W) ok.0 outer w.0 in (
        block_sound types C among typed kept given K c.body st s lasts names last (held_at Observer m) (part Observer W) outer lk r.0 ok.0 k.0 g.0 w.0,
        told_sound c.assume (inside s c.body) (standing_of c.body st) (known_of c.body lasts) (read_of c.body names (part Observer W)) (held_at Assume m) (part Assume W) nk' r.1 ok.1.0 k.1.0 g.1.0 w.1.0,
        told_sound c.enforce (inside s c.body) (standing_of c.body st) (known_of c.body lasts) (read_of c.body names (part Observer W)) (held_at Enforce m) (part Enforce W) nk' r.2 ok.1.1 k.1.1 g.1.1 w.1.1,
      )

  pub contract_next : (o : Option Contract) (s : Scope) (lasts : Lasts) (names last : Names) (m : Held) (W : Instant) → ContractSound types among s lasts o → ContractKept types kept s o m.start m.memory → ContractGiven types given s o m.free → ContractTyped types typed s o W → ContractKept types kept s o m.start (next_observer types C o names last m W)
  contract_next None s lasts names last m W ok k g w = tt
  contract_next (Some c) s lasts names last m W ok k g w = (
    block_next types C among typed kept given K c.body s lasts names last (held_at Observer m) (part Observer W) ok.0 k.0 g.0 w.0,
    (
      told_next c.assume (inside s c.body) (known_of c.body lasts) (read_of c.body names (part Observer W)) (held_at Assume m) (part Assume W) ok.1.0 k.1.0 g.1.0 w.1.0,
      told_next c.enforce (inside s c.body) (known_of c.body lasts) (read_of c.body names (part Observer W)) (held_at Enforce m) (part Enforce W) ok.1.1 k.1.1 g.1.1 w.1.1,
    ),
  )

  pub contract_begins : (o : Option Contract) (s : Scope) (lasts : Lasts) (start mem : Instant) → ContractSound types among s lasts o → ContractKept types kept s o start mem → ContractKept types kept s o start (remembers_contract types C.remembers o start [])
  contract_begins None s lasts start mem ok k = tt
  contract_begins (Some c) s lasts start mem ok k = (
    block_begins types C among typed kept given K c.body s lasts (part Observer start) (part Observer mem) ok.0 k.0,
    (
      told_begins c.assume (inside s c.body) (known_of c.body lasts) (part Assume start) (part Assume mem) ok.1.0 k.1.0,
      told_begins c.enforce (inside s c.body) (known_of c.body lasts) (part Enforce start) (part Enforce mem) ok.1.1 k.1.1,
    ),
  )

  -- a contract's part of a bigger instant, and of a bigger memory
  pub typed_part : (o : Option Contract) (s : Scope) (outs : Names) (ins controls : List Value) (body i : Instant) → ContractTyped types typed s o i → ContractTyped types typed s o (in_node outs ins controls body i)
  typed_part None s outs ins controls body i h = tt
  typed_part (Some c) s outs ins controls body i h = h

  pub kept_part : (o : Option Contract) (s : Scope) (outs : Names) (body start mem : Instant) → ContractKept types kept s o start mem → ContractKept types kept s o start (in_memory outs body mem)
  kept_part None s outs body start mem h = tt
  kept_part (Some c) s outs body start mem h = h

-- ---- inputs, outputs and controllable variables

module _ (types : List TypeDecl) (among : List ℕ → Option Node) (s : Scope) where
  pub own_type : (ds : List Decl) (x : List ℕ) → HaveOwnTypes types among s ds → IsTrue (declares ds x) → (t : Ty) × (lookup s.variables x ≡ Some t)
  own_type [] x h d = absurd (cc)
  own_type (e ∷ ds) x h d = or_either (bytes_eq e.name x) (declares ds x) d (λ q. (e.ty, subst (λ z. lookup s.variables z ≡ Some e.ty) ((bytes_eq-Decides e.name x).0 q) h.0)) (λ q. own_type ds x h.1 q)

  pub input_typed : (ds : List Decl) (vs : List Value) (out : Names) (x : List ℕ) (t : Ty) → AreWires types ds vs → HaveOwnTypes types among s ds → lookup s.variables x ≡ Some t → IsTrue (declares ds x) → IsWire types t (input_of ds vs out x)
  input_typed [] vs out x t a h l d = absurd (cc)
  input_typed (e ∷ ds) [] out x t a h l d = absurd a
  input_typed (e ∷ ds) (v ∷ vs) out x t a h l d = by (bytes_eq e.name x) refl (input_typed ds vs out x t a.1 h.1 l) d
    where
      by : (b : Bool) → bytes_eq e.name x ≡ b → (IsTrue (declares ds x) → IsWire types t (input_of ds vs out x)) → IsTrue (b || declares ds x) → IsWire types t (if b then v else input_of ds vs out x)
      by true q f d = subst (λ z. IsWire types z v) (some_is e.ty t (sym (subst (λ z. lookup s.variables z ≡ Some e.ty) ((bytes_eq-Decides e.name x).0 q) h.0) ∙ l)) a.0
      by false q f d = f d

  pub output_typed : (ds : List Decl) (i : Instant) (x : List ℕ) (t : Ty) → OutputsTyped types ds i → HaveOwnTypes types among s ds → lookup s.variables x ≡ Some t → IsTrue (declares ds x) → IsWire types t (i (Named x ∷ []))
  output_typed [] i x t o h l d = absurd (cc)
  output_typed (e ∷ ds) i x t o h l d =
      or_either (bytes_eq e.name x) (declares ds x) d
      (λ q.
      let same = (bytes_eq-Decides e.name x).0 q in
      subst (λ z. IsWire types z (i (Named x ∷ []))) (some_is e.ty t (sym (subst (λ z. lookup s.variables z ≡ Some e.ty) same h.0) ∙ l)) (subst (λ z. IsWire types e.ty (i (Named z ∷ []))) same o.0))
      (λ q. output_typed ds i x t o.1 h.1 l q)

  pub given_typed : (ds : List Decl) (free : Instant) (x : List ℕ) (t : Ty) → OutputsGiven types ds free → HaveOwnTypes types among s ds → lookup s.variables x ≡ Some t → IsTrue (declares ds x) → IsWire types t (marked (free (Named x ∷ [])))
  given_typed [] free x t o h l d = absurd (cc)
  given_typed (e ∷ ds) free x t o h l d =
      or_either (bytes_eq e.name x) (declares ds x) d
      (λ q.
      let same = (bytes_eq-Decides e.name x).0 q in
      subst (λ z. IsWire types z (marked (free (Named x ∷ [])))) (some_is e.ty t (sym (subst (λ z. lookup s.variables z ≡ Some e.ty) same h.0) ∙ l)) (subst (λ z. IsWire types e.ty (marked (free (Named z ∷ [])))) same o.0))
      (λ q. given_typed ds free x t o.1 h.1 l q)

  -- the last values of outputs
  pub outputs_last : (ds : List Decl) (mem : Instant) → HaveOwnTypes types among s ds → LastsKept types s ds mem → LastsAre types s (known_lasts ds no_lasts) (lasts_in ds mem absent)
  outputs_last ds mem h k x g = by (is_last ds x) refl
    where
      by : (d : Bool) → is_last ds x ≡ d → (t : Ty) × ((lookup s.variables x ≡ Some t) × IsWire types t (if d then mem (Named x ∷ []) else absent x))
      by true q = let r = own_type ds x h (last_declared ds x q) in (r.0, (r.1, k x r.0 q r.1))
      by false q = let z = last_further ds no_lasts x g q in absurd (cc)

pub input_other : (ds : List Decl) (vs : List Value) (out : Names) (x : List ℕ) → IsFalse (declares ds x) → input_of ds vs out x ≡ out x
input_other [] vs out x f = refl
input_other (d ∷ ds) [] out x f = refl
input_other (d ∷ ds) (v ∷ vs) out x f = by (bytes_eq d.name x) (input_other ds vs out x) f
  where
    by : (b : Bool) → (IsFalse (declares ds x) → input_of ds vs out x ≡ out x) → IsFalse (b || declares ds x) → (if b then v else input_of ds vs out x) ≡ out x
    by true g f = absurd (cc)
    by false g f = g f

pub given_at : (ds : List Decl) (free : Instant) (out : Names) (x : List ℕ) → IsTrue (declares ds x) → given_outputs ds free out x ≡ marked (free (Named x ∷ []))
given_at [] free out x h = absurd (cc)
given_at (d ∷ ds) free out x h = by (bytes_eq d.name x) (given_at ds free out x) h
  where
    by : (b : Bool) → (IsTrue (declares ds x) → given_outputs ds free out x ≡ marked (free (Named x ∷ []))) → IsTrue (b || declares ds x) → (if b then marked (free (Named x ∷ [])) else given_outputs ds free out x) ≡ marked (free (Named x ∷ []))
    by true g h = refl
    by false g h = g h

pub given_other : (ds : List Decl) (free : Instant) (out : Names) (x : List ℕ) → IsFalse (declares ds x) → given_outputs ds free out x ≡ out x
given_other [] free out x f = refl
given_other (d ∷ ds) free out x f = by (bytes_eq d.name x) (given_other ds free out x) f
  where
    by : (b : Bool) → (IsFalse (declares ds x) → given_outputs ds free out x ≡ out x) → IsFalse (b || declares ds x) → (if b then marked (free (Named x ∷ [])) else given_outputs ds free out x) ≡ out x
    by true g f = absurd (cc)
    by false g f = g f

pub row_wires : (types : List TypeDecl) (ds : List Decl) (free : Instant) → RowGiven types ds free → AreWires types ds (given_to types abstraction no_nodes ds free)
row_wires types [] free g = tt
row_wires types (d ∷ ds) free g = (g.0, row_wires types ds (part Tail free) g.1)

pub defined_here : (types : List TypeDecl) (among : List ℕ → Option Node) (b : Block) (ds : List Decl) (x : List ℕ) → HaveEquations types among b ds → IsTrue (declares ds x) → IsTrue (block_defines b x)
defined_here types among b [] x h d = absurd (cc)
defined_here types among b (e ∷ ds) x h d = or_either (bytes_eq e.name x) (declares ds x) d (λ q. subst (λ z. IsTrue (block_defines b z)) ((bytes_eq-Decides e.name x).0 q) h.0.0) (λ q. defined_here types among b ds x h.1 q)

pub declares_own : (d : Decl) (ds : List Decl) → IsTrue (declares (d ∷ ds) d.name)
declares_own d ds = or_left (bytes_eq d.name d.name) (declares ds d.name) ((bytes_eq-Decides d.name d.name).1 refl)

pub declares_more : (d : Decl) (ds : List Decl) (x : List ℕ) → IsTrue (declares ds x) → IsTrue (declares (d ∷ ds) x)
declares_more d ds x h = or_right (bytes_eq d.name x) (declares ds x) h
