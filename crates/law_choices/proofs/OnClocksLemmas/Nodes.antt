-- What is made of a node has clocks, and its inputs and outputs are on the base clock.
use Rattle.std.proofs.Common.{◌≡◌, ◌⊎◌, inl, inr, ℕ, ◌+◌, ◌<◌, ◌≤◌, Bool, true, false, if◌then◌else◌, List, [], ◌∷◌, length, Option, None, Some, refl, sym, ap, subst, ◌∙◌, arith}
use Rattle.std.specs.Prelude.{⊤, ◌||◌, IsFalse}
use Rattle.std.specs.List.{AllByRecursion}
use Rattle.std.specs.Str.{bytes_eq}
use Rattle.std.proofs.lemmas.Bool.{cases_lt}
use Rattle.std.proofs.lemmas.List.{length-append}
use Rattle.hp_base.specs.declared.ty.Ty.{Ty}
use Rattle.hp_base.specs.declared.ty.Const.{Const}
use Rattle.hp_obc.specs.Machines.{ObcType}
use Rattle.hp_tree.specs.Blocks.{Decl, Block, block}
use Rattle.hp_tree.specs.Programs.{TypeDecl, Node}
use Rattle.hp_tree.specs.Meaning.{declares, controls_of}
use Rattle.hp_meaning.specs.Causal.Clocked.{Standing as ClocksRead, on_base, ClocksRight}
use Rattle.hp_base.specs.Known.Known.{lookup}
use Rattle.hp_typing.specs.Scopes.{with_variables, inside_node}
use Rattle.law_judged.specs.Typed.Scopes.{Scope}
use Rattle.law_values.specs.Valued.Judged.{lasts_in, no_lasts, body_scope, HaveOwnTypes, HaveEquations, NodeSound}
use Rattle.law_values.proofs.ValuedLemmas.Typed.{some_is}
use Rattle.law_values.proofs.ValuedLemmas.Scoped.{not_declared}
use Rattle.law_values.specs.Filled.Firsts.{HasFirst, DeclsHaveFirsts, NodeHasFirsts}
use Rattle.hp_flat.specs.declared.node.FlatTy.{FlatTy}
use Rattle.hp_flat.specs.Equations.{Clock}
use Rattle.hp_flat.specs.Nodes.{FlatNode}
use Rattle.law_wellmade.specs.Timely.Tested.{NodeTested}
use Rattle.law_equations.specs.Made.Sights.{Entry}
use Rattle.law_equations.specs.Made.Blocks.{IsPlain}
use Rattle.law_equations.specs.Made.Laws.{around_body}
use Rattle.law_equations.specs.Made.Making.{Known, Sketch, Seen, Body, next, flat_type, base_site, unknown, with_variable, over, or_entry, put, no_entry, nothing_made, numbers_from, signed, signature, sketch_block, sketch_node}
use Rattle.law_wellmade.proofs.BegunLemmas.Keeping.{retyped, Keeps, variable_typed}
use Rattle.law_wellmade.proofs.BegunLemmas.Typing.{Grounded, SeesTypes}
use Rattle.law_wellmade.proofs.BegunLemmas.BlockRegisters.{OwnTypes, owned, grounded_more}
use Rattle.law_wellmade.proofs.RegularLemmas.Good.{longer, IsSeen, seen_moved}
use Rattle.law_wellmade.proofs.RegularLemmas.Expressions.{TypeFacts, HaveFirsts}
use Rattle.law_wellmade.proofs.RegularLemmas.Layers.{same_name, pick, all_remembered, last_seen}
use Rattle.law_wellmade.proofs.RegularLemmas.Entering.{OwnFirsts, firsts_declared, last_typed, SeesAround, decls_ready}
use Rattle.law_choices.specs.Closed.Clocking.{StepsStand}
use Rattle.law_choices.proofs.ClosedLemmas.Layers.{all_remembered as closed_remembered}
use Rattle.law_choices.proofs.OnClocksLemmas.Steps.{Grows, both_grow, front_itself, Step, then_step, weaker, no_step, variable_step, Gives}
use Rattle.law_choices.proofs.OnClocksLemmas.Arms.{ArmFacts}
use Rattle.law_choices.proofs.OnClocksLemmas.Layers.{LastsThere, IfLast, Remembers, lasts_step}
use Rattle.law_choices.proofs.OnClocksLemmas.Blocks.{BlockReady, BlockGives, block_step}

-- ---- the names of a signature have variables of their types

own_firsts : (types : List TypeDecl) (among : List ℕ → Option Node) (s : Scope) (b : Block) (ds : List Decl) → HaveOwnTypes types among s ds → HaveEquations types among b ds → OwnFirsts types among s ds
own_firsts types among s b [] h e = tt
own_firsts types among s b (d ∷ ds) h e = ((h.0, e.0.1), own_firsts types among s b ds h.1 e.1)

-- a name has a variable of the type
abbrev Stands : Seen → List ℕ → FlatTy → Type 0
Stands m x t = ((over m.0 unknown x).ty ≡ t) × IsSeen m.1 (over m.0 unknown x).value t

signed_stands : (k : Known) (s : Scope) (ds : List Decl) (m : Seen) (x : List ℕ) (t : Ty) → OwnTypes s ds → lookup s.variables x ≡ Some t → (declares ds x ≡ true) ⊎ Stands m x (flat_type k.types t) → Stands (signed k ds m) x (flat_type k.types t)
signed_stands k s [] m x t o h (inl e) = absurd (cc)
signed_stands k s [] m x t o h (inr q) = q
signed_stands k s (d ∷ ds) m x t o h c =
    signed_stands k s ds (put d.name own m.0, with_variable d.name (flat_type k.types d.ty) m.1) x t o.1 h (by (bytes_eq d.name x) refl c)
  where
    own : Entry
    own = record { ty = flat_type k.types d.ty; value = Some (next m.1); last = None; is_local = true }

    with_own : Sketch
    with_own = with_variable d.name (flat_type k.types d.ty) m.1

    kept : Keeps m.1 with_own
    kept = record { kept = λ i v p. longer m.1.variables (record { name = d.name; ty = flat_type k.types d.ty } ∷ []) i v p }

    Here : Bool → Type 0
    Here b = let e : Entry = or_entry (if b then Some own else m.0 x) (unknown x) in (e.ty ≡ flat_type k.types t) × IsSeen with_own e.value (flat_type k.types t)

    by_here : (b : Bool) → bytes_eq d.name x ≡ b → (b || declares ds x) ≡ true ⊎ Stands m x (flat_type k.types t) → (declares ds x ≡ true) ⊎ Here b
    by_here true e q =
        let same : flat_type k.types d.ty ≡ flat_type k.types t = ap (λ z. flat_type k.types z) (some_is d.ty t (sym o.0 ∙ ap (λ z. lookup s.variables z) (same_name d.name x e) ∙ h)) in
        inr (same, (next m.1, refl, retyped with_own (next m.1) (flat_type k.types d.ty) (flat_type k.types t) (variable_typed d.name (flat_type k.types d.ty) m.1) same))
    by_here false e (inl q) = inl q
    by_here false e (inr q) = inr (q.0, seen_moved m.1 with_own (over m.0 unknown x).value (flat_type k.types t) kept q.1)

    by : (b : Bool) → bytes_eq d.name x ≡ b → (b || declares ds x) ≡ true ⊎ Stands m x (flat_type k.types t) → (declares ds x ≡ true) ⊎ Stands (put d.name own m.0, with_own) x (flat_type k.types t)
    by b e q = join (by_here b e q)
      where
        join : (declares ds x ≡ true) ⊎ Here b → (declares ds x ≡ true) ⊎ Stands (put d.name own m.0, with_own) x (flat_type k.types t)
        join (inl w) = inl w
        join (inr w) = inr (subst Here (sym e) w)

-- ---- those variables are on the base clock

-- what is made so far is below a number, and nothing is remembered
record IsBare (m : Seen) : Type 0 where
  below : (x : List ℕ) (v : ℕ) → (over m.0 unknown x).value ≡ Some v → v < next m.1
  no_last : (x : List ℕ) (v : ℕ) → (over m.0 unknown x).last ≡ Some v → ⊥

module _ (k : Known) where
  abbrev with_decl : Decl → Seen → Seen
  with_decl d m = (put d.name (record { ty = flat_type k.types d.ty; value = Some (next m.1); last = None; is_local = true }) m.0, with_variable d.name (flat_type k.types d.ty) m.1)

  one_longer : (d : Decl) (m : Seen) → next (with_decl d m).1 ≡ next m.1 + 1
  one_longer d m = length-append m.1.variables _

  signed_long : (ds : List Decl) (m : Seen) → next (signed k ds m).1 ≡ next m.1 + length ds
  signed_long [] m = omega arith
  signed_long (d ∷ ds) m = let one = one_longer d m in let rest = signed_long ds (with_decl d m) in omega (arith, one, rest)

  one_bare : (d : Decl) (m : Seen) → IsBare m → IsBare (with_decl d m)
  one_bare d m h =
      let one = one_longer d m in
      record {
        below = λ x v. pick (λ (w : Entry). w.value ≡ Some v → v < next (with_decl d m).1) d.name _ m.0 unknown x (λ p e. let is : next m.1 ≡ v = cc in omega (arith, one, is)) (λ p e. let l = h.below x v e in omega (arith, one, l));
        no_last = λ x v. pick (λ (w : Entry). w.last ≡ Some v → ⊥) d.name _ m.0 unknown x (λ p e. absurd cc) (λ p e. h.no_last x v e);
      }

  signed_bare : (ds : List Decl) (m : Seen) → IsBare m → IsBare (signed k ds m)
  signed_bare [] m h = h
  signed_bare (d ∷ ds) m h = signed_bare ds (with_decl d m) (one_bare d m h)

  module _ (types : List ObcType) (f : FlatNode) where
    -- variables below a number are on the base clock
    abbrev pub Based : ℕ → (ℕ → Clock) → Type 0
    Based i g = (x : ℕ) → x < i → g x ≡ []

    signed_step : (ds : List Decl) (m : Seen) → Step types f [] m.1 (signed k ds m).1 (Based (next m.1)) (Based (next (signed k ds m).1))
    signed_step [] m = no_step types f [] m.1 (Based (next m.1))
    signed_step (d ∷ ds) m =
        let e = with_decl d m in
        let one = one_longer d m in
        then_step types f [] m.1 e.1 (signed k ds e).1 (Based (next m.1)) (λ g. g (next m.1) ≡ []) (Based (next e.1)) (Based (next (signed k ds e).1)) (Based (next (signed k ds e).1))
        (weaker types f [] m.1 e.1 (λ g. ⊤) (λ g. g (next m.1) ≡ []) (Based (next m.1)) (λ g. g (next m.1) ≡ []) (variable_step types f [] [] d.name (flat_type k.types d.ty) m.1) (λ g i h. tt) (λ g i h r. r))
        (signed_step ds e) (λ g i h r x l. by g h r x (cases_lt x (next m.1)) (let u : x < next m.1 + 1 = omega (arith, one, l) in u)) (λ g i h r z. z)
      where
        by : (g : ℕ → Clock) → Based (next m.1) g → g (next m.1) ≡ [] → (x : ℕ) → (x < next m.1) ⊎ (next m.1 ≤ x) → x < next m.1 + 1 → g x ≡ []
        by g h r x (inl l) u = h x l
        by g h r x (inr l) u = let is : next m.1 ≡ x = omega (arith, l, u) in subst (λ z. g z ≡ []) is r

bare_signature : (k : Known) (n : Node) → IsBare (signature k n)
bare_signature k n =
    let first : Seen = (no_entry, nothing_made) in
    let none : IsBare first = record { below = λ x v e. absurd cc; no_last = λ x v e. absurd cc } in
    signed_bare k n.outputs (signed k (controls_of n.contract) (signed k n.inputs first)) (signed_bare k (controls_of n.contract) (signed k n.inputs first) (signed_bare k n.inputs first none))

-- ---- nodes

module _ (obc : List ObcType) (flat_node : FlatNode) (k : Known) (types : List TypeDecl) (arms_known : ArmFacts obc k types) (facts : TypeFacts obc k types) (among : List ℕ → Option Node) (callees : (f : List ℕ) (n : Node) → among f ≡ Some n → DeclsHaveFirsts types n.outputs) where
  module _ (s : Scope) (n : Node) (none : s.variables ≡ []) (ok : NodeSound types among s n) where
    by_name : {X : Type 0} (x : List ℕ) (ds : List Decl) → (IsFalse (declares ds x) → (declares ds x ≡ true) ⊎ X) → (declares ds x ≡ true) ⊎ X
    by_name {X = X} x ds f = by (declares ds x) refl
      where
        by : (b : Bool) → declares ds x ≡ b → (declares ds x ≡ true) ⊎ X
        by true q = inl q
        by false q = f q

    -- a name of the body is an output, a controllable variable or an input
    nowhere : {X : Type 0} (x : List ℕ) (t : Ty) → lookup (body_scope s n).variables x ≡ Some t → IsFalse (declares n.outputs x) → IsFalse (declares (controls_of n.contract) x) → IsFalse (declares n.inputs x) → X
    nowhere x t h a b c =
        absurd (let r : lookup s.variables x ≡ Some t =
        sym (not_declared x n.inputs s c) ∙ sym (not_declared x n.outputs (with_variables s n.inputs) a) ∙ sym (not_declared x (controls_of n.contract) (inside_node s n) b) ∙ h in
        let z : None ≡ Some t = ap (λ vs. lookup vs x) (sym none) ∙ r in cc)

    signature_stands : (x : List ℕ) (t : Ty) → lookup (body_scope s n).variables x ≡ Some t → Stands (signature k n) x (flat_type k.types t)
    signature_stands x t h =
        let controls = controls_of n.contract in
        let first : Seen = (no_entry, nothing_made) in
        let m = signed k n.inputs first in
        let own = body_scope s n in
        signed_stands k own n.outputs (signed k controls m) x t (owned types among own n.outputs ok.1.0.1) h
        (by_name x n.outputs
        (λ a. inr (signed_stands k own controls m x t (owned types among own controls ok.1.1.0) h
        (by_name x controls
        (λ b. inr (signed_stands k own n.inputs first x t (owned types among own n.inputs ok.1.0.0) h
        (by_name x n.inputs (λ c. nowhere x t h a b c))))))))

    have_firsts : NodeHasFirsts types n → HaveFirsts types (body_scope s n)
    have_firsts f x t h = by (declares n.outputs x) refl (declares (controls_of n.contract) x) refl (declares n.inputs x) refl
      where
        by : (a : Bool) → declares n.outputs x ≡ a → (b : Bool) → declares (controls_of n.contract) x ≡ b → (c : Bool) → declares n.inputs x ≡ c → HasFirst types t
        by true p b q c r = firsts_declared types (body_scope s n) n.outputs x t (owned types among (body_scope s n) n.outputs ok.1.0.1) f.outputs h p
        by false p true q c r = firsts_declared types (body_scope s n) (controls_of n.contract) x t (owned types among (body_scope s n) (controls_of n.contract) ok.1.1.0) f.controls h q
        by false p false q true r = firsts_declared types (body_scope s n) n.inputs x t (owned types among (body_scope s n) n.inputs ok.1.0.0) f.inputs h r
        by false p false q false r = nowhere x t h p q r

    abbrev Base : ClocksRead
    Base x = on_base (declares n.inputs x || (declares n.outputs x || declares (controls_of n.contract) x))

    abbrev based : (ℕ → Clock) → Type 0
    based g = Based k obc flat_node (next (signature k n).1) g

    -- all that is seen around the body is on the base clock
    around_ready : (g : ℕ → Clock) → based g → LastsThere obc flat_node k base_site unknown (around_body k n) g → (b : Block) → BlockReady obc flat_node k types arms_known facts among callees b Body Base (over (around_body k n).0 unknown) base_site g
    around_ready g h l (block ds es) =
        (tt, record { values = λ x v i e. front_itself (g v) [] (at_base x v e); lasts = l; own = λ x v i o e. at_base x v e })
      where
        at_base : (x : List ℕ) (v : ℕ) → (over (around_body k n).0 unknown x).value ≡ Some v → g v ≡ []
        at_base x v e = h v ((bare_signature k n).below x v (sym ((closed_remembered k base_site unknown n.outputs (signature k n)).value x) ∙ e))

    remembers : (g : ℕ → Clock) → based g → (ds : List Decl) → Remembers obc flat_node k base_site unknown (signature k n) ds g
    remembers g h [] = tt
    remembers g h (d ∷ ds) = (by d.last, remembers g h ds)
      where
        by : (o : Option Const) → IfLast obc flat_node k base_site unknown o (Gives obc flat_node base_site (over (signature k n).0 unknown d.name).value g)
        by None = tt
        by (Some c) = λ v e. front_itself (g v) [] (h v ((bare_signature k n).below d.name v e))

    pub node_step : Grounded k s → NodeHasFirsts types n → IsPlain n.body → NodeTested types s n → ClocksRight n
        → Step obc flat_node [] nothing_made (sketch_node k n) (λ g. ⊤) based × Grows (signature k n).1 (sketch_node k n)
    node_step ground f plain w right =
        let own = body_scope s n in
        let sign = signature k n in
        let first : Seen = (no_entry, nothing_made) in
        let controls = controls_of n.contract in
        let a = signed k n.inputs first in
        let b = signed k controls a in
        let ready = decls_ready obc k types facts among callees base_site unknown own sign (λ x t h. (signature_stands x t h).0) (λ x t h. (signature_stands x t h).1) n.outputs (own_firsts types among own n.body n.outputs ok.1.0.1 ok.1.1.1.0) in
        let z = around_body k n in
        let r = all_remembered obc k base_site unknown n.outputs sign (tt, tt) ready in
        let around : SeesAround obc k types facts among callees Body n.body own (lasts_in n.outputs no_lasts) (over z.0 unknown) z.1 =
        record {
          values = λ x t h i. subst (λ o. IsSeen z.1 o (flat_type k.types t)) (sym (r.value x)) (seen_moved sign.1 z.1 (over sign.0 unknown x).value (flat_type k.types t) r.moves.keeps (signature_stands x t h).1);
          remembered = λ x l.
              let q = last_typed own n.outputs no_lasts x (owned types among own n.outputs ok.1.0.1) (λ i. absurd (cc)) l in
              (q.0, q.1, last_seen obc k base_site unknown n.outputs no_lasts sign x (flat_type k.types q.0) (tt, tt) ready (signature_stands x q.0 q.1).0 l (λ i. absurd (cc)));
        } in
        let sees : SeesTypes k own (over z.0 unknown) = λ x t h. r.ty x ∙ (signature_stands x t h).0 in
        let known_here = grounded_more k (controls_of n.contract) (inside_node s n) (grounded_more k n.outputs (with_variables s n.inputs) (grounded_more k n.inputs s ground)) in
        let made =
        block_step obc flat_node k types arms_known facts among callees n.body Body own (lasts_in n.outputs no_lasts) Base (over z.0 unknown) base_site z.1 known_here sees (have_firsts f) ok.1.1.1.1.0 w f.body plain around (tt, tt) right.body refl in
        let Sign : ℕ → (ℕ → Clock) → Type 0 = Based k obc flat_node in
        let to_a : Step obc flat_node [] nothing_made a.1 (λ g. ⊤) (Sign (next a.1)) = weaker obc flat_node [] nothing_made a.1 (Sign 0) (Sign (next a.1)) (λ g. ⊤) (Sign (next a.1)) (signed_step k obc flat_node n.inputs first) (λ g i h x l. absurd (omega (arith, l))) (λ g i h r. r) in
        let to_b : Step obc flat_node [] nothing_made b.1 (λ g. ⊤) (Sign (next b.1)) = then_step obc flat_node [] nothing_made a.1 b.1 (λ g. ⊤) (Sign (next a.1)) (Sign (next a.1)) (Sign (next b.1)) (Sign (next b.1)) to_a (signed_step k obc flat_node controls a) (λ g i h r. r) (λ g i h r t. t) in
        let to_sign : Step obc flat_node [] nothing_made sign.1 (λ g. ⊤) based = then_step obc flat_node [] nothing_made b.1 sign.1 (λ g. ⊤) (Sign (next b.1)) (Sign (next b.1)) based based to_b (signed_step k obc flat_node n.outputs b) (λ g i h r. r) (λ g i h r t. t) in
        let Lasts : (ℕ → Clock) → Type 0 = LastsThere obc flat_node k base_site unknown z in
        let to_z : Step obc flat_node [] nothing_made z.1 (λ g. ⊤) (λ g. based g × Lasts g) =
        then_step obc flat_node [] nothing_made sign.1 z.1 (λ g. ⊤) based (λ g. StepsStand flat_node obc g [] [] × (Remembers obc flat_node k base_site unknown sign n.outputs g × LastsThere obc flat_node k base_site unknown sign g)) Lasts (λ g. based g × Lasts g)
        to_sign (lasts_step obc flat_node k base_site unknown n.outputs sign) (λ g i h t. (tt, (remembers g t n.outputs, λ y v e. absurd ((bare_signature k n).no_last y v e)))) (λ g i h t l. (t, l)) in
        let lasts = lasts_step obc flat_node k base_site unknown n.outputs sign in (
          then_step obc flat_node [] nothing_made z.1 (sketch_node k n) (λ g. ⊤) (λ g. based g × Lasts g) (BlockReady obc flat_node k types arms_known facts among callees n.body Body Base (over z.0 unknown) base_site)
              (BlockGives obc flat_node k types arms_known facts among callees n.body (over z.0 unknown) [] (sketch_block k Body (over z.0 unknown) base_site n.body z.1)) based to_z made.0 (λ g i h t. around_ready g t.0 t.1 n.body) (λ g i h t l. t.0),
          both_grow sign.1 z.1 (sketch_node k n) lasts.grows made.0.grows,
        )

-- the outputs of a node are on the base clock
pub numbers_based : (k : Known) (obc : List ObcType) (f : FlatNode) (i m : ℕ) (os : List Decl) (g : ℕ → Clock) → Based k obc f i g → m + length os ≤ i → AllByRecursion (λ x. g x ≡ []) (numbers_from m os)
numbers_based k obc f i m [] g h l = tt
numbers_based k obc f i m (o ∷ os) g h l = (h m (omega (arith, l)), numbers_based k obc f i (m + 1) os g h (omega (arith, l)))

pub signature_long : (k : Known) (n : Node) → length n.inputs + length (controls_of n.contract) + length n.outputs ≤ next (signature k n).1
signature_long k n =
    let first : Seen = (no_entry, nothing_made) in
    let a = signed_long k n.inputs first in
    let b = signed_long k (controls_of n.contract) (signed k n.inputs first) in
    let c = signed_long k n.outputs (signed k (controls_of n.contract) (signed k n.inputs first)) in
    omega (arith, a, b, c)
