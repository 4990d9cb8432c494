-- The outputs and the body of a node fit.
use Rattle.std.proofs.Common.{◌≡◌, ℕ, zero, suc, ◌<◌, List, [], ◌∷◌, map, refl, sym, ap, ap₂, subst, ◌∙◌, ◌⊎◌, inl, inr, ⊎_elim, arith}
use Rattle.std.specs.Prelude.{Bool, true, false, ◌||◌, IsTrue, IsFalse, if◌then◌else◌, Option, None, Some}
use Rattle.std.specs.Str.{bytes_eq}
use Rattle.std.proofs.lemmas.Slice.Eq.{bytes_eq-Decides}
use Rattle.hp_base.specs.declared.ty.Ty.{Ty}
use Rattle.hp_base.specs.declared.ty.Const.{Const}
use Rattle.hp_base.specs.declared.value.Value.{Value}
use Rattle.hp_base.specs.declared.value.Value.TheVariants.{Absent}
use Rattle.hp_tree.specs.Blocks.{Decl, Block, block}
use Rattle.hp_tree.specs.Programs.{TypeDecl, Node}
use Rattle.hp_tree.specs.Operators.{constant_of, marked}
use Rattle.hp_tree.specs.Instant.{Inputs, Controls, Body, Named, Fresh, Head, Tail, Place, Instant, Past, Given, alone, in_row, at, part, parts, own, since}
use Rattle.hp_tree.specs.Meaning.{Names, Nodes, declares, some_defines, block_defines, previous, lasts as lasts_said, input_of, given_to, node, controls_of}
use Rattle.hp_typing.specs.Scopes.{with_variables, inside_node}
use Rattle.law_games.specs.Wiretyped.Typed.{IsWire, AreWires}
use Rattle.hp_init.specs.Classes.{Assignment}
use Rattle.law_values.specs.Valued.Judged.{Lasts, no_lasts, lasts_in, HaveOwnTypes, IsPlain}
use Rattle.law_values.specs.Valued.Classed.{none_second}
use Rattle.law_values.proofs.ValuedLemmas.Both.{FirstOk, HaveEquations, NodeOk}
use Rattle.law_games.specs.Abstracted.Fitting.{BlockFits, BodyFits, body_names, HasValue, IsThere, OutputsFit}
use Rattle.law_games.proofs.AbstractedLemmas.Loose.{BlockLoose, BodyLoose}
use Rattle.law_games.proofs.AbstractedLemmas.Laws.{marked_wire, and_left, or_left, or_right, or_either, not_both, value_of}
use Rattle.hp_tree.specs.Reaction.{Each, row_of}
use Rattle.hp_base.specs.Known.Known.{lookup}
use Rattle.law_judged.specs.Typed.Scopes.{Scope}
use Rattle.hp_meaning.specs.Causal.Sources.{Sources, none, only, both, also, Within, below}
use Rattle.hp_meaning.specs.Causal.WhatIsRead.{control_in, has_equation}
use Rattle.hp_meaning.specs.Causal.Causality.{sources, Ranked}
use Rattle.hp_meaning.specs.Causal.Clocked.{Standing, on_base, ClocksRight}
use Rattle.law_games.specs.Abstracted.Given.{reading, ControlsGiven, BodyGiven}
use Rattle.law_values.proofs.ValuedLemmas.Typed.{some_is}
use Rattle.law_games.proofs.AbstractedLemmas.Scoped.{declared_last, last_of}
use Rattle.law_games.proofs.AbstractedLemmas.ExprTops.{Callees, own_all}
use Rattle.law_games.proofs.AbstractedLemmas.Gives.{block_asks, HasLasts, inner_is, others_first}
use Rattle.law_games.proofs.AbstractedLemmas.BlockNames.{block_step}
use Rattle.law_games.proofs.AbstractedLemmas.BlockAll.{block_all}

pub within_more : (P Q : Place → Type 0) → ((p : Place) → P p → Q p) → (s : Sources) → Within P s → Within Q s
within_more P Q f none h = tt
within_more P Q f (only p) h = f p h
within_more P Q f (both s t) h = (within_more P Q f s h.0, within_more P Q f t h.1)
within_more P Q f (also s) h = within_more P Q f s h

based : (d : Bool) → on_base d ≡ Some [] → IsTrue d
based true e = refl
based false e = absurd (cc)

each_body : (Q T : Instant → Type 0) (past : Past) → ((i : Instant) → Q i → T (part Body i)) → Each Q past → Each (λ i. (d : Bool) × IsThere d T i) (parts Body past)
each_body Q T [] f a = tt
each_body Q T (i ∷ past) f a = ((true, f i a.0), each_body Q T past f a.1)

-- values in a row
pub row_is : (types : List TypeDecl) (ds : List Decl) (vs : List Value) (i : Instant) → AreWires types ds vs → ((p : Place) → i p ≡ in_row (map alone vs) p) → row_of ds i ≡ vs
row_is types [] [] i a m = refl
row_is types [] (v ∷ vs) i a m = absurd a
row_is types (d ∷ ds) [] i a m = absurd a
row_is types (d ∷ ds) (v ∷ vs) i a m = ap₂ (λ w ws. w ∷ ws) (m (Head ∷ [])) (row_is types ds vs (part Tail i) a.1 (λ p. m (Tail ∷ p)))

module _ (types : List TypeDecl) (nils : Bool) (u : Value → Value) (N : Nodes) (among : List ℕ → Option Node) (fits given : List ℕ → Instant → Type 0) (known : Callees types nils (reading u) N among fits given) where
  -- the value of an input
  pub input_is : (s : Scope) (ds : List Decl) (vs : List Value) (out : Names) (x : List ℕ) (t : Ty) → HaveOwnTypes types among s ds → AreWires types ds vs → lookup s.variables x ≡ Some t → IsTrue (declares ds x) ⊎ IsWire types t (out x) → IsWire types t (input_of ds vs out x)
  input_is s [] [] out x t o v l h = ⊎_elim (λ z. absurd (cc)) (λ z. z) h
  input_is s [] (w ∷ vs) out x t o v l h = absurd v
  input_is s (d ∷ ds) [] out x t o v l h = absurd v
  input_is s (d ∷ ds) (w ∷ vs) out x t o v l h = by (bytes_eq d.name x) refl h (λ z. input_is s ds vs out x t o.1 v.1 l z)
    where
      by : (b : Bool) → bytes_eq d.name x ≡ b → IsTrue (b || declares ds x) ⊎ IsWire types t (out x) → (IsTrue (declares ds x) ⊎ IsWire types t (out x) → IsWire types t (input_of ds vs out x)) → IsWire types t (if b then w else input_of ds vs out x)
      by true e h f = subst (λ z. IsWire types z w) (some_is d.ty t (sym o.0 ∙ ap (λ z. lookup s.variables z) ((bytes_eq-Decides d.name x).0 e) ∙ l)) v.0
      by false e h f = f h

  pub controls_fit : (ds : List Decl) (free : Instant) → ControlsGiven types nils u given ds free → AreWires types ds (given_to types (reading u) N ds free)
  controls_fit [] free h = tt
  controls_fit (d ∷ ds) free h = (h.0, controls_fit ds (part Tail free) h.1)

  -- the value of an output
  pub output_at : (s : Scope) (ds : List Decl) (i : Instant) (x : List ℕ) (t : Ty) → HaveOwnTypes types among s ds → OutputsFit types ds i → IsTrue (declares ds x) → lookup s.variables x ≡ Some t → IsWire types t (i (Named x ∷ []))
  output_at s [] i x t o f h l = absurd (cc)
  output_at s (d ∷ ds) i x t o f h l =
      or_either (bytes_eq d.name x) (declares ds x) h
      (λ e. let same = (bytes_eq-Decides d.name x).0 e in
      subst (λ z. IsWire types t (i (Named z ∷ []))) same
      (subst (λ z. IsWire types z (i (Named d.name ∷ []))) (some_is d.ty t (sym o.0 ∙ ap (λ z. lookup s.variables z) same ∙ l)) f.0))
      (λ e. output_at s ds i x t o.1 f.1 e l)

  pub previous_output : (s : Scope) (class : Assignment) (n : Node) (w : Scope) (x : List ℕ) (t : Ty) (past : Past) → HaveOwnTypes types among w n.outputs → Each (BodyLoose types nils fits s class n) past → IsTrue (declares n.outputs x) → lookup w.variables x ≡ Some t → (v : Value) → IsWire types t v → IsWire types t (previous past x v)
  previous_output s class n w x t [] o a h l v k = k
  previous_output s class n w x t (i ∷ past) o a h l v k = output_at w n.outputs i x t o a.0.0 h l

  last_output_here : (w : Scope) (x : List ℕ) (past : Past) (d : Decl) (o : Option Const) → bytes_eq d.name x ≡ true → lookup w.variables d.name ≡ Some d.ty → FirstOk types among d.ty o false → ((t : Ty) → lookup w.variables x ≡ Some t → (v : Value) → IsWire types t v → IsWire types t (previous past x v)) → IsTrue (declared_last o false) → (t : Ty) × ((lookup w.variables x ≡ Some t) × IsWire types t (last_of o Absent (λ c. previous past x (marked (constant_of types c)))))
  last_output_here w x past d None e k f prev g = absurd (cc)
  last_output_here w x past d (Some c) e k f prev g =
      let l : lookup w.variables x ≡ Some d.ty = subst (λ z. lookup w.variables z ≡ Some d.ty) ((bytes_eq-Decides d.name x).0 e) k in
      (d.ty, (l, prev d.ty l (marked (constant_of types c)) (marked_wire types d.ty (constant_of types c) f.0)))

  pub last_output : (w : Scope) (b : Block) (x : List ℕ) (past : Past) (ds : List Decl) → HaveOwnTypes types among w ds → HaveEquations types among b ds → (IsTrue (declares ds x) → (t : Ty) → lookup w.variables x ≡ Some t → (v : Value) → IsWire types t v → IsWire types t (previous past x v)) → IsTrue (lasts_in ds no_lasts x) → (t : Ty) × ((lookup w.variables x ≡ Some t) × IsWire types t (lasts_said (λ (k : Const). marked (constant_of types k)) ds past (λ y. Absent) x))
  last_output w b x past [] o q prev g = absurd (cc)
  last_output w b x past (d ∷ ds) o q prev g = by (bytes_eq d.name x) refl prev g (λ f. last_output w b x past ds o.1 q.1 f)
    where
      by : (c : Bool) → bytes_eq d.name x ≡ c → (IsTrue (c || declares ds x) → (t : Ty) → lookup w.variables x ≡ Some t → (v : Value) → IsWire types t v → IsWire types t (previous past x v)) → IsTrue (if c then declared_last d.last false else lasts_in ds no_lasts x)
          → ((IsTrue (declares ds x) → (t : Ty) → lookup w.variables x ≡ Some t → (v : Value) → IsWire types t v → IsWire types t (previous past x v)) → IsTrue (lasts_in ds no_lasts x) → (t : Ty) × ((lookup w.variables x ≡ Some t) × IsWire types t (lasts_said (λ (k : Const). marked (constant_of types k)) ds past (λ y. Absent) x)))
          → (t : Ty) × ((lookup w.variables x ≡ Some t) × IsWire types t (if c then last_of d.last Absent (λ k. previous past x (marked (constant_of types k))) else lasts_said (λ (k : Const). marked (constant_of types k)) ds past (λ y. Absent) x))
      by true e prev g f = last_output_here w x past d d.last e o.0 q.0.1 (λ t l v k. prev refl t l v k) g
      by false e prev g f = f prev g

  has_equations : (b : Block) (x : List ℕ) (ds : List Decl) → HaveEquations types among b ds → IsTrue (declares ds x) → IsTrue (block_defines b x)
  has_equations b x [] q h = absurd (cc)
  has_equations b x (d ∷ ds) q h = or_either (bytes_eq d.name x) (declares ds x) h (λ e. subst (λ z. IsTrue (block_defines b z)) ((bytes_eq-Decides d.name x).0 e) q.0.0) (λ e. has_equations b x ds q.1 e)

  defined_here : (b : Block) (x : List ℕ) → IsTrue (block_defines b x) → IsTrue (has_equation b x)
  defined_here (block ds es) x h = and_left (some_defines es x) _ h

  module _ (s : Scope) (class : Assignment) (n : Node) (o : Ranked n) (right : ClocksRight n) (low : IsPlain n.body) (ok : NodeOk types among s class n) (inputs : List Value) (g : Given) (now : Instant) (vf : AreWires types n.inputs inputs) (gv : BodyGiven types nils u given s n g.free) (past : Each (BodyLoose types nils fits s class n) g.past) (m : (p : Place) → now p ≡ node types (reading u) N n inputs g now p) where
    abbrev sb : Scope
    sb = with_variables (inside_node s n) (controls_of n.contract)

    abbrev st : Standing
    st x = on_base (declares n.inputs x || (declares n.outputs x || declares (controls_of n.contract) x))

    abbrev names : Names
    names = input_of (controls_of n.contract) (given_to types (reading u) N (controls_of n.contract) (part Controls g.free)) (input_of n.inputs inputs (λ x. Absent))

    abbrev last : Names
    last = lasts_said (λ (k : Const). marked (constant_of types k)) n.outputs g.past (λ x. Absent)

    abbrev lasts : Lasts
    lasts = lasts_in n.outputs no_lasts

    abbrev gb : Given
    gb = since false (at Body g)

    abbrev Asks : Place → Type 0
    Asks p = block_asks types nils fits n.body sb (λ q. class (Body ∷ q)) names last gb (part Body now) p (now (Body ∷ p))

    body_past : Each (BlockLoose types nils fits sb none_second (λ p. class (Body ∷ p)) n.body) (own (parts Body g.past))
    body_past = own_all _ (parts Body g.past) (each_body (BodyLoose types nils fits s class n) _ g.past (λ i z. z.1) past)

    outer : (x : List ℕ) (t : Ty) (d : Bool) → IsFalse (has_equation n.body x) → st x ≡ Some [] → lookup sb.variables x ≡ Some t → HasValue types t d (names x)
    outer x t d f e l =
        let controls = controls_fit (controls_of n.contract) (part Controls g.free) gv.0 in
        value_of types t d (names x)
        (input_is sb (controls_of n.contract) _ (input_of n.inputs inputs (λ x. Absent)) x t ok.1.1.0 controls l
        (or_either (declares n.inputs x) (declares n.outputs x || declares (controls_of n.contract) x) (based _ e)
        (λ h. inr (input_is sb n.inputs inputs (λ x. Absent) x t ok.1.0.0 vf l (inl h)))
        (λ h. or_either (declares n.outputs x) (declares (controls_of n.contract) x) h
        (λ z. not_both (has_equation n.body x) (defined_here n.body x (has_equations n.body x n.outputs ok.1.1.1.0 z)) f)
        (λ z. inl z))))

    has_lasts : HasLasts types sb lasts last
    has_lasts x h = last_output sb n.body x g.past n.outputs ok.1.0.1 ok.1.1.1.0 (λ z t l v k. previous_output s class n sb x t g.past ok.1.0.1 past z l v k) h

    below_rank : (r : ℕ) (p : Place) → o.rank (Body ∷ p) < r → Asks p
    below_rank zero p h = absurd (omega arith)
    below_rank (suc r) p h =
        block_step (λ q. o.rank q < o.rank (Body ∷ p)) types nils u N among fits given known n.body sb st none_second lasts (λ q. class (Body ∷ q)) (control_in (controls_of n.contract) (below Controls only)) (below Body only) names last false gb (part Body now) low right.body ok.1.1.1.1.0 gv.1 body_past
        (λ x t f e l w. outer x t _ f e l) has_lasts (λ q. m (Body ∷ q))
        (λ q w. within_more (λ z. o.rank z < o.rank (Body ∷ q)) (λ z. o.rank z < o.rank (Body ∷ p)) (λ z y. omega arith) (sources n (Body ∷ q)) (o.falls (Body ∷ q)))
        (λ q w. below_rank r q (omega arith))
        p (o.falls (Body ∷ p))

    asked : (p : Place) → Asks p
    asked p = below_rank (suc (o.rank (Body ∷ p))) p (omega arith)

    body_fits : BlockFits types nils fits sb none_second (λ p. class (Body ∷ p)) names n.body (part Body now)
    body_fits =
        block_all types nils u N among fits given known n.body sb st none_second lasts (λ q. class (Body ∷ q)) names last false gb (part Body now) low right.body ok.1.1.1.1.0 gv.1 body_past
        (λ x t f e l w. outer x t _ f e l) has_lasts (λ q. m (Body ∷ q)) asked

    output_value : (d : Bool) (v w : Value) (t : Ty) → IsTrue d → v ≡ (if d then w else Absent) → IsWire types t w → IsWire types t v
    output_value true v w t h e k = subst (λ z. IsWire types t z) (sym e) k
    output_value false v w t h e k = absurd (cc)

    outputs_fit : (ds : List Decl) → ((x : List ℕ) → IsTrue (declares ds x) → IsTrue (declares n.outputs x)) → HaveOwnTypes types among sb ds → HaveEquations types among n.body ds → OutputsFit types ds now
    outputs_fit [] inc own q = tt
    outputs_fit (d ∷ ds) inc own q = (
      output_value (declares n.outputs d.name) (now (Named d.name ∷ [])) (now (Body ∷ Named d.name ∷ [])) d.ty (inc d.name (or_left (bytes_eq d.name d.name) _ ((bytes_eq-Decides d.name d.name).1 refl))) (m (Named d.name ∷ []))
          (inner_is types nils fits among n.body sb (λ p. class (Body ∷ p)) names last gb (part Body now) d.name d.ty (now (Body ∷ Named d.name ∷ [])) q.0.0 own.0 (others_first types among n.body sb none_second lasts (λ p. class (Body ∷ p)) ok.1.1.1.1.0) (asked (Named d.name ∷ []))),
      outputs_fit ds (λ x h. inc x (or_right (bytes_eq d.name x) _ h)) own.1 q.1,
    )

    input_row : row_of n.inputs (part Inputs now) ≡ inputs
    input_row = row_is types n.inputs inputs (part Inputs now) vf (λ p. m (Inputs ∷ p))

    abbrev controls : List Value
    controls = given_to types (reading u) N (controls_of n.contract) (part Controls g.free)

    control_row : row_of (controls_of n.contract) (part Controls now) ≡ controls
    control_row = row_is types (controls_of n.contract) controls (part Controls now) (controls_fit (controls_of n.contract) (part Controls g.free) gv.0) (λ p. m (Controls ∷ p))

    same_names : body_names types nils fits n now ≡ names
    same_names = ap₂ (λ cs vs. input_of (controls_of n.contract) cs (input_of n.inputs vs (λ x. Absent))) control_row input_row

    not_output : (x : List ℕ) → IsFalse (declares n.outputs x) → now (Named x ∷ []) ≡ Absent
    not_output x f = m (Named x ∷ []) ∙ ap (λ d. if d then now (Body ∷ Named x ∷ []) else Absent) f

    pub node_body : BodyFits types nils fits s class n now
    node_body = (
      outputs_fit n.outputs (λ x h. h) ok.1.0.1 ok.1.1.1.0,
      (
        subst (λ z. AreWires types n.inputs z) (sym input_row) vf,
        (
          subst (λ z. AreWires types (controls_of n.contract) z) (sym control_row) (controls_fit (controls_of n.contract) (part Controls g.free) gv.0),
          (m (Fresh ∷ []), (not_output, subst (λ z. BlockFits types nils fits sb none_second (λ p. class (Body ∷ p)) z n.body (part Body now)) (sym same_names) body_fits)),
        ),
      ),
    )
