-- What is given at a free place stays as it is mended, where it is of the place's type.
use Rattle.std.proofs.Common.{◌≡◌, ℕ, List, [], ◌∷◌, ◌++◌, refl, sym, ap, subst, ◌∙◌, append_assoc, ◌⊎◌, inl, inr}
use Rattle.std.proofs.lemmas.List.Elements.{All-head, All-tail}
use Rattle.std.specs.Prelude.{⊤, All, Bool, true, false, ◌&&◌, IsTrue, if◌then◌else◌, reverse, Option, None, Some}
use Rattle.std.specs.Str.{bytes_eq}
use Rattle.hp_base.specs.declared.ty.Const.{Const}
use Rattle.hp_base.specs.declared.ty.Ty.{Ty}
use Rattle.hp_base.specs.declared.ty.Ty.TheVariants as ty
use Rattle.hp_base.specs.declared.value.Value.{Value}
use Rattle.hp_tree.specs.declared.block.Trans.{Trans}
use Rattle.hp_tree.specs.declared.program.Item.{Item}
use Rattle.hp_tree.specs.Expressions.{Expr, constant, variable, last_of, one, two, choose, pre, fby, arrow, when_is, merge, call, Exprs, no_expr, more_exprs, Parts, no_part, more_parts}
use Rattle.hp_tree.specs.Blocks.{Decl, Block, block, Eqns, no_eqn, more_eqns, Eqn, define, switch, reset, automaton, Arms, no_arm, more_arms, States, no_state, more_states}
use Rattle.hp_tree.specs.Programs.{TypeDecl, Contract, Node}
use Rattle.hp_tree.specs.Operators.{is_comparison, marked}
use Rattle.hp_tree.specs.Filled.{first_value}
use Rattle.hp_tree.specs.ExpressionTypes.{Scope as Types, typed_in, untyped, scope_of, type_of as typed_of}
use Rattle.hp_tree.specs.Instant.{Inputs, Controls, Body, Observer, Assume, Enforce, Named, Equations, Head, Tail, Right, Test, Arms as ArmsOf, States as StatesOf, Until, Unless, First, Second, Third, Args, Instance, Place, Instant, part}
use Rattle.hp_tree.specs.Meaning.{types_of, declares, controls_of, node_among}
use Rattle.hp_tree.specs.Values.{constructors_of}
use Rattle.hp_meaning.specs.Causal.Sources.{below}
use Rattle.hp_meaning.specs.Contract.FreePlaces.{IsFree, IsAbstractOf}
use Rattle.hp_meaning.specs.Contract.Slots.{Slot, register, free, input, control, free_among, free_places, is_int, shape_of, callee_slots, slots, slots_of_all, slots_of_parts, slots_of_conditions, slots_of_block, slots_of_equations, slots_of_equation, slots_of_arms, slots_of_states, slots_of_contract, slots_of_node}
use Rattle.law_games.specs.Wiretyped.Typed.{IsWire}
use Rattle.law_games.specs.Mirror.Memories.{AreApart}
use Rattle.law_games.proofs.ForcedLemmas.Mended.{flag_of, of_type, of_output, Mends, mend, mend_all, mend_parts, mend_tests, mend_block, mend_eqns, mend_eqn, mend_arms, mend_states, mend_told, mend_contract, mend_node, mend_none, mend_by}
use Rattle.law_games.proofs.ForcedLemmas.Fitted.{lasts_slots, free_of, outputs_slots}
use Rattle.law_games.proofs.ForcedLemmas.FittedNodes.{abstract_wire, decls_by, callee_of, row_slots, kind_of, same_name, other_name, or_first, or_second}
use Rattle.law_games.proofs.ForcedLemmas.Values.{among_kept, enum_is}

abbrev slots_told : List TypeDecl → (List ℕ → List Decl) → (List ℕ → (Place → Place) → List Slot) → Option Expr → Types → (Place → Place) → List Slot
slots_told types outputs called None names w = []
slots_told types outputs called (Some e) names w = slots types outputs called e names w

-- ---- lists of slots

either_free : (ss ts : List Slot) (p : Place) → IsFree (free_among (ss ++ ts)) p → IsFree (free_among ss) p ⊎ IsFree (free_among ts) p
either_free [] ts p f = inr f
either_free (register q s ∷ ss) ts p f = either_free ss ts p f
either_free (control q t ∷ ss) ts p f = either_free ss ts p f
either_free (input q t ∷ ss) ts p (inl e) = inl (inl e)
either_free (input q t ∷ ss) ts p (inr f) = further (either_free ss ts p f)
  where
    further : IsFree (free_among ss) p ⊎ IsFree (free_among ts) p → IsFree (free_among (input q t ∷ ss)) p ⊎ IsFree (free_among ts) p
    further (inl f) = inl (inr f)
    further (inr f) = inr f
either_free (free q t ∷ ss) ts p (inl e) = inl (inl e)
either_free (free q t ∷ ss) ts p (inr f) = further (either_free ss ts p f)
  where
    further : IsFree (free_among ss) p ⊎ IsFree (free_among ts) p → IsFree (free_among (free q t ∷ ss)) p ⊎ IsFree (free_among ts) p
    further (inl f) = inl (inr f)
    further (inr f) = inr f

-- ---- the tree; `m` mends what is given at the places of the whole, and P says which places are asked for

module _ (types : List TypeDecl) (P : Place → Type 0) (m : Place → Value → Value) (root : Instant) where
  -- what is given at free places among these slots is of their types
  abbrev pub Has : List Slot → Type 0
  Has [] = ⊤
  Has (input p t ∷ ss) = (P p → IsAbstractOf types t (root p)) × Has ss
  Has (free p t ∷ ss) = (P p → IsAbstractOf types t (root p)) × Has ss
  Has (s ∷ ss) = Has ss

  front_has : (ss ts : List Slot) → Has (ss ++ ts) → Has ss × Has ts
  front_has [] ts h = (tt, h)
  front_has (register p s ∷ ss) ts h = front_has ss ts h
  front_has (control p t ∷ ss) ts h = front_has ss ts h
  front_has (input p t ∷ ss) ts h = let r = front_has ss ts h.1 in ((h.0, r.0), r.1)
  front_has (free p t ∷ ss) ts h = let r = front_has ss ts h.1 in ((h.0, r.0), r.1)

  pub has_all : (ss : List Slot) → All (λ q. P q.0 → IsAbstractOf types q.1 (root q.0)) (free_among ss) → Has ss
  has_all [] h = tt
  has_all (register p s ∷ ss) h = has_all ss h
  has_all (control p t ∷ ss) h = has_all ss h
  has_all (input p t ∷ ss) h = (All-head (λ q. P q.0 → IsAbstractOf types q.1 (root q.0)) (p, t) (free_among ss) h, has_all ss (All-tail (λ q. P q.0 → IsAbstractOf types q.1 (root q.0)) (p, t) (free_among ss) h))
  has_all (free p t ∷ ss) h = (All-head (λ q. P q.0 → IsAbstractOf types q.1 (root q.0)) (p, t) (free_among ss) h, has_all ss (All-tail (λ q. P q.0 → IsAbstractOf types q.1 (root q.0)) (p, t) (free_among ss) h))

  abbrev pub Stay : List Slot → Type 0
  Stay ss = Has ss → (p : Place) → P p → IsFree (free_among ss) p → m p (root p) ≡ root p

  -- it mends what is given for a part so
  abbrev pub Over : (Place → Place) → (Place → Value → Value) → Type 0
  Over w k = (q : Place) (v : Value) → m (w q) v ≡ k q v

  none_stays : Stay []
  none_stays h p a f = absurd f

  stay_joined : (ss ts : List Slot) → Stay ss → Stay ts → Stay (ss ++ ts)
  stay_joined ss ts r k h p a f = by (either_free ss ts p f) (front_has ss ts h)
    where
      by : IsFree (free_among ss) p ⊎ IsFree (free_among ts) p → Has ss × Has ts → m p (root p) ≡ root p
      by (inl f) h = r h.0 p a f
      by (inr f) h = k h.1 p a f

  -- at one place
  here : (q : Place) (k : Value → Value) (p : Place) → p ≡ q → ((v : Value) → m q v ≡ k v) → k (root q) ≡ root q → m p (root p) ≡ root p
  here q k p e u s = ap (λ z. m z (root z)) e ∙ u (root q) ∙ s ∙ ap root (sym e)

  flag_same : (v : Value) → IsAbstractOf types ty.Bool v → flag_of v ≡ v
  flag_same v h = subst (λ z. flag_of z ≡ z) (sym h.1) refl

  if_stays : (b : Bool) (q : Place) → ((v : Value) → m q v ≡ flag_of v) → Stay (if b then free q ty.Bool ∷ [] else [])
  if_stays true q u h p a (inl e) = here q flag_of p e u (flag_same (root q) (h.0 (subst P e a)))
  if_stays true q u h p a (inr f) = absurd f
  if_stays false q u h p a f = absurd f

  lasts_stay : (ds : List Decl) (w : Place → Place) → Stay (lasts_slots types ds w)
  lasts_stay [] w = none_stays
  lasts_stay (d ∷ ds) w = by d.last (lasts_stay ds w)
    where
      by : (o : Option Const) → Stay (lasts_slots types ds w) → Stay ((elim o [ None ↦ [] | Some c ↦ register (w (Named d.name ∷ [])) (shape_of types d.ty) ∷ [] ]) ++ lasts_slots types ds w)
      by None h = h
      by (Some c) h = h

  output_stays : (t : Ty) (q : Place) → ((v : Value) → IsAbstractOf types t v → IsWire types t (marked v)) → ((v : Value) → m q v ≡ of_type types t v) → Stay (free_of q t)
  output_stays ty.Bool q wire u h p a (inl e) = here q flag_of p e u (flag_same (root q) (h.0 (subst P e a)))
  output_stays ty.Bool q wire u h p a (inr f) = absurd f
  output_stays ty.Int q wire u h p a f = absurd f
  output_stays (ty.Enum t) q wire u h p a (inl e) =
      let z = h.0 (subst P e a) in
      let y = enum_is types t (root q) (wire (root q) z) in
      here q (of_type types (ty.Enum t)) p e u (among_kept types (constructors_of types t) (first_value types (ty.Enum t)) (root q) z.0 y.0 y.1 z.1 z.2 y.2)
  output_stays (ty.Enum t) q wire u h p a (inr f) = absurd f

  outputs_stay : (ds : List Decl) (w : Place → Place) → AreApart ds → ((x : List ℕ) → IsTrue (declares ds x) → (v : Value) → m (w (Named x ∷ [])) v ≡ of_output types ds x v) → Stay (outputs_slots ds w)
  outputs_stay [] w a u = none_stays
  outputs_stay (d ∷ ds) w a u =
      stay_joined (free_of (w (Named d.name ∷ [])) d.ty) (outputs_slots ds w)
      (output_stays d.ty (w (Named d.name ∷ [])) (λ v z. abstract_wire types d v z)
      (λ v. u d.name (or_first (bytes_eq d.name d.name) (declares ds d.name) (same_name d.name)) v ∙ ap (λ b. if b then of_type types d.ty v else of_output types ds d.name v) (same_name d.name)))
      (outputs_stay ds w a.1 (λ x t v. u x (or_second (bytes_eq d.name x) (declares ds x) t) v ∙ ap (λ b. if b then of_type types d.ty v else of_output types ds x v) (other_name ds d.name x a.0 t)))

  module _ (outputs : List ℕ → List Decl) (called : List ℕ → (Place → Place) → List Slot) (callee : List ℕ → Mends) (calls : (f : List ℕ) (start : Instant) (w : Place → Place) → Over w (callee f start) → Stay (outputs_slots (outputs f) w ++ called f w)) where
    mutual
      expr_stays : (e : Expr) (names : Types) (start : Instant) (w : Place → Place) → Over w (mend callee e start) → Stay (slots types outputs called e names w)
      expr_stays (constant at c) names start w u = none_stays
      expr_stays (variable at x) names start w u = none_stays
      expr_stays (last_of at x) names start w u = none_stays
      expr_stays (one at o a) names start w u = expr_stays a names (part First start) (below First w) (λ q v. u (First ∷ q) v)
      expr_stays (two at o a b) names start w u =
          stay_joined (if is_comparison o && is_int (typed_of types outputs a names) then free (w []) ty.Bool ∷ [] else []) (slots types outputs called a names (below First w) ++ slots types outputs called b names (below Second w))
          (if_stays (is_comparison o && is_int (typed_of types outputs a names)) (w []) (λ v. u [] v))
          (stay_joined (slots types outputs called a names (below First w)) (slots types outputs called b names (below Second w)) (expr_stays a names (part First start) (below First w) (λ q v. u (First ∷ q) v)) (expr_stays b names (part Second start) (below Second w) (λ q v. u (Second ∷ q) v)))
      expr_stays (choose at a b c) names start w u =
          stay_joined (slots types outputs called a names (below First w)) (slots types outputs called b names (below Second w) ++ slots types outputs called c names (below Third w)) (expr_stays a names (part First start) (below First w) (λ q v. u (First ∷ q) v))
          (stay_joined (slots types outputs called b names (below Second w)) (slots types outputs called c names (below Third w)) (expr_stays b names (part Second start) (below Second w) (λ q v. u (Second ∷ q) v)) (expr_stays c names (part Third start) (below Third w) (λ q v. u (Third ∷ q) v)))
      expr_stays (pre at a) names start w u = expr_stays a names (part First start) (below First w) (λ q v. u (First ∷ q) v)
      expr_stays (fby at a b) names start w u =
          stay_joined (slots types outputs called a names (below First w)) (slots types outputs called b names (below Second w)) (expr_stays a names (part First start) (below First w) (λ q v. u (First ∷ q) v)) (expr_stays b names (part Second start) (below Second w) (λ q v. u (Second ∷ q) v))
      expr_stays (arrow at a b) names start w u =
          stay_joined (slots types outputs called a names (below First w)) (slots types outputs called b names (below Second w)) (expr_stays a names (part First start) (below First w) (λ q v. u (First ∷ q) v)) (expr_stays b names (part Second start) (below Second w) (λ q v. u (Second ∷ q) v))
      expr_stays (when_is at a c x) names start w u = expr_stays a names (part First start) (below First w) (λ q v. u (First ∷ q) v)
      expr_stays (merge at x ps) names start w u = parts_stay ps names (part Args start) (below Args w) (λ q v. u (Args ∷ q) v)
      expr_stays (call at f inlined es) names start w u =
          subst (λ ss. Stay ss) (append_assoc (outputs_slots (outputs f) (below Instance w)) (called f (below Instance w)) (slots_of_all types outputs called es names (below Args w)))
          (stay_joined (outputs_slots (outputs f) (below Instance w) ++ called f (below Instance w)) (slots_of_all types outputs called es names (below Args w))
          (calls f (part Instance start) (below Instance w) (λ q v. u (Instance ∷ q) v)) (exprs_stay es names (part Args start) (below Args w) (λ q v. u (Args ∷ q) v)))

      exprs_stay : (es : Exprs) (names : Types) (start : Instant) (w : Place → Place) → Over w (mend_all callee es start) → Stay (slots_of_all types outputs called es names w)
      exprs_stay no_expr names start w u = none_stays
      exprs_stay (more_exprs e es) names start w u =
          stay_joined (slots types outputs called e names (below Head w)) (slots_of_all types outputs called es names (below Tail w)) (expr_stays e names (part Head start) (below Head w) (λ q v. u (Head ∷ q) v)) (exprs_stay es names (part Tail start) (below Tail w) (λ q v. u (Tail ∷ q) v))

      parts_stay : (ps : Parts) (names : Types) (start : Instant) (w : Place → Place) → Over w (mend_parts callee ps start) → Stay (slots_of_parts types outputs called ps names w)
      parts_stay no_part names start w u = none_stays
      parts_stay (more_parts c e ps) names start w u =
          stay_joined (slots types outputs called e names (below Head w)) (slots_of_parts types outputs called ps names (below Tail w)) (expr_stays e names (part Head start) (below Head w) (λ q v. u (Head ∷ q) v)) (parts_stay ps names (part Tail start) (below Tail w) (λ q v. u (Tail ∷ q) v))

    tests_stay : (ts : List Trans) (names : Types) (start : Instant) (w : Place → Place) → Over w (mend_tests callee ts start) → Stay (slots_of_conditions types outputs called ts names w)
    tests_stay [] names start w u = none_stays
    tests_stay (t ∷ ts) names start w u =
        stay_joined (slots types outputs called t.cond names (below Head w)) (slots_of_conditions types outputs called ts names (below Tail w)) (expr_stays t.cond names (part Head start) (below Head w) (λ q v. u (Head ∷ q) v)) (tests_stay ts names (part Tail start) (below Tail w) (λ q v. u (Tail ∷ q) v))

    mutual
      block_stays : (b : Block) (names : Types) (start : Instant) (w : Place → Place) → Over w (mend_block callee b start) → Stay (slots_of_block types outputs called b names w)
      block_stays (block ds es) names start w u =
          stay_joined (lasts_slots types ds w) (slots_of_equations types outputs called es (typed_in ds names) (below Equations w)) (lasts_stay ds w) (eqns_stay es (typed_in ds names) (part Equations start) (below Equations w) (λ q v. u (Equations ∷ q) v))

      eqns_stay : (es : Eqns) (names : Types) (start : Instant) (w : Place → Place) → Over w (mend_eqns callee es start) → Stay (slots_of_equations types outputs called es names w)
      eqns_stay no_eqn names start w u = none_stays
      eqns_stay (more_eqns e es) names start w u =
          stay_joined (slots_of_equation types outputs called e names (below Head w)) (slots_of_equations types outputs called es names (below Tail w)) (eqn_stays e names (part Head start) (below Head w) (λ q v. u (Head ∷ q) v)) (eqns_stay es names (part Tail start) (below Tail w) (λ q v. u (Tail ∷ q) v))

      eqn_stays : (e : Eqn) (names : Types) (start : Instant) (w : Place → Place) → Over w (mend_eqn callee e start) → Stay (slots_of_equation types outputs called e names w)
      eqn_stays (define at ys e) names start w u = expr_stays e names (part Right start) (below Right w) (λ q v. u (Right ∷ q) v)
      eqn_stays (switch at e arms) names start w u =
          stay_joined (slots types outputs called e names (below Test w)) (slots_of_arms types outputs called arms names (below ArmsOf w)) (expr_stays e names (part Test start) (below Test w) (λ q v. u (Test ∷ q) v)) (arms_stay arms names (part ArmsOf start) (below ArmsOf w) (λ q v. u (ArmsOf ∷ q) v))
      eqn_stays (reset at b e) names start w u =
          stay_joined (slots_of_block types outputs called b names (below Body w)) (slots types outputs called e names (below Test w)) (block_stays b names (part Body start) (below Body w) (λ q v. u (Body ∷ q) v)) (expr_stays e names (part Test start) (below Test w) (λ q v. u (Test ∷ q) v))
      eqn_stays (automaton at ss) names start w u = states_stay ss names (part StatesOf start) (below StatesOf w) (λ q v. u (StatesOf ∷ q) v)

      arms_stay : (arms : Arms) (names : Types) (start : Instant) (w : Place → Place) → Over w (mend_arms callee arms start) → Stay (slots_of_arms types outputs called arms names w)
      arms_stay no_arm names start w u = none_stays
      arms_stay (more_arms c b at arms) names start w u =
          stay_joined (slots_of_block types outputs called b names (below Head w)) (slots_of_arms types outputs called arms names (below Tail w)) (block_stays b names (part Head start) (below Head w) (λ q v. u (Head ∷ q) v)) (arms_stay arms names (part Tail start) (below Tail w) (λ q v. u (Tail ∷ q) v))

      states_stay : (ss : States) (names : Types) (start : Instant) (w : Place → Place) → Over w (mend_states callee ss start) → Stay (slots_of_states types outputs called ss names w)
      states_stay no_state names start w u = none_stays
      states_stay (more_states f b until unless at ss) names start w u =
          stay_joined (slots_of_block types outputs called b names (below Body (below Head w)))
          (slots_of_conditions types outputs called until (scope_of b names) (below Until (below Head w)) ++ (slots_of_conditions types outputs called unless names (below Unless (below Head w)) ++ slots_of_states types outputs called ss names (below Tail w)))
          (block_stays b names (part Body (part Head start)) (below Body (below Head w)) (λ q v. u (Head ∷ Body ∷ q) v))
          (stay_joined (slots_of_conditions types outputs called until (scope_of b names) (below Until (below Head w))) (slots_of_conditions types outputs called unless names (below Unless (below Head w)) ++ slots_of_states types outputs called ss names (below Tail w))
          (tests_stay until (scope_of b names) (part Until (part Head start)) (below Until (below Head w)) (λ q v. u (Head ∷ Until ∷ q) v))
          (stay_joined (slots_of_conditions types outputs called unless names (below Unless (below Head w))) (slots_of_states types outputs called ss names (below Tail w))
          (tests_stay unless names (part Unless (part Head start)) (below Unless (below Head w)) (λ q v. u (Head ∷ Unless ∷ q) v)) (states_stay ss names (part Tail start) (below Tail w) (λ q v. u (Tail ∷ q) v))))

    told_stays : (o : Option Expr) (names : Types) (start : Instant) (w : Place → Place) → Over w (mend_told callee o start) → Stay (slots_told types outputs called o names w)
    told_stays None names start w u = none_stays
    told_stays (Some e) names start w u = expr_stays e names start w u

    contract_stays : (o : Option Contract) (names : Types) (start : Instant) (w : Place → Place) → Over (below Observer w) (λ q. mend_contract callee o start (Observer ∷ q)) → Over (below Assume w) (λ q. mend_contract callee o start (Assume ∷ q))
        → Over (below Enforce w) (λ q. mend_contract callee o start (Enforce ∷ q)) → Stay (slots_of_contract types outputs called o names w)
    contract_stays None names start w u v x = none_stays
    contract_stays (Some c) names start w u v x =
        stay_joined (slots_of_block types outputs called c.body names (below Observer w)) (slots_told types outputs called c.assume (scope_of c.body names) (below Assume w) ++ slots_told types outputs called c.enforce (scope_of c.body names) (below Enforce w))
        (block_stays c.body names (part Observer start) (below Observer w) u)
        (stay_joined (slots_told types outputs called c.assume (scope_of c.body names) (below Assume w)) (slots_told types outputs called c.enforce (scope_of c.body names) (below Enforce w))
        (told_stays c.assume (scope_of c.body names) (part Assume start) (below Assume w) v) (told_stays c.enforce (scope_of c.body names) (part Enforce start) (below Enforce w) x))

  -- ---- instances

  abbrev no_slots : List ℕ → (Place → Place) → List Slot
  no_slots f w = []

  called_stays : (o : Option Node) → ((k : Node) → o ≡ Some k → AreApart k.outputs) → (start : Instant) (w : Place → Place) → Over w (mend_by types o start) → Stay (outputs_slots (decls_by types o) w ++ callee_slots types o w)
  called_stays None a start w u = none_stays
  called_stays (Some n) a start w u =
      stay_joined (outputs_slots n.outputs w) (callee_slots types (Some n) w) (outputs_stay n.outputs w (a n refl) (λ x t v. u (Named x ∷ []) v))
      (of_contract n.contract (contract_stays (λ f. []) no_slots mend_none (λ f start w u. none_stays) n.contract (typed_in n.inputs (typed_in n.outputs untyped)) start w (λ q v. u (Observer ∷ q) v) (λ q v. u (Assume ∷ q) v) (λ q v. u (Enforce ∷ q) v)))
    where
      of_contract : (o : Option Contract) → Stay (slots_of_contract types (λ f. []) no_slots o (typed_in n.inputs (typed_in n.outputs untyped)) w)
          → Stay (elim o [ None ↦ [] | Some c ↦ lasts_slots types n.outputs w ++ slots_of_contract types (λ f. []) no_slots (Some c) (typed_in n.inputs (typed_in n.outputs untyped)) w ])
      of_contract None f = none_stays
      of_contract (Some c) f = stay_joined (lasts_slots types n.outputs w) (slots_of_contract types (λ f. []) no_slots (Some c) (typed_in n.inputs (typed_in n.outputs untyped)) w) (lasts_stay n.outputs w) f

  -- ---- inputs and controllable variables

  kind_stays : (t : Ty) (q : Place) → ((v : Value) → m q v ≡ v) → Stay (kind_of types input q t)
  kind_stays ty.Bool q u h p a (inl e) = here q (λ v. v) p e u refl
  kind_stays ty.Bool q u h p a (inr f) = absurd f
  kind_stays ty.Int q u h p a f = absurd f
  kind_stays (ty.Enum t) q u h p a (inl e) = here q (λ v. v) p e u refl
  kind_stays (ty.Enum t) q u h p a (inr f) = absurd f

  inputs_stay : (ds : List Decl) (w : Place → Place) → ((q : Place) (v : Value) → m (w q) v ≡ v) → Stay (row_slots types input ds w)
  inputs_stay [] w u = none_stays
  inputs_stay (d ∷ ds) w u = stay_joined (kind_of types input (w (Head ∷ [])) d.ty) (row_slots types input ds (below Tail w)) (kind_stays d.ty (w (Head ∷ [])) (u (Head ∷ []))) (inputs_stay ds (below Tail w) (λ q v. u (Tail ∷ q) v))

  control_stays : (t : Ty) (q : Place) → Stay (kind_of types control q t)
  control_stays ty.Bool q = none_stays
  control_stays ty.Int q = none_stays
  control_stays (ty.Enum t) q = none_stays

  controls_stay : (ds : List Decl) (w : Place → Place) → Stay (row_slots types control ds w)
  controls_stay [] w = none_stays
  controls_stay (d ∷ ds) w = stay_joined (kind_of types control (w (Head ∷ [])) d.ty) (row_slots types control ds (below Tail w)) (control_stays d.ty (w (Head ∷ []))) (controls_stay ds (below Tail w))

-- ---- a node

input_kept : (callee : List ℕ → Mends) (o : Option Contract) (start : Instant) (q : Place) (v : Value) → mend_contract callee o start (Inputs ∷ q) v ≡ v
input_kept callee None start q v = refl
input_kept callee (Some c) start q v = refl

pub node_stays : (program : List Item) (n : Node) → ((f : List ℕ) (k : Node) → node_among (reverse program) f ≡ Some k → AreApart k.outputs) → (P : Place → Type 0) (start root : Instant)
    → All (λ q. P q.0 → IsAbstractOf (types_of program) q.1 (root q.0)) (free_places program n)
    → (p : Place) → P p → IsFree (free_places program n) p → mend_node (callee_of program) n start p (root p) ≡ root p
node_stays program n a P start root h =
    let types = types_of program in
    let m = mend_node (callee_of program) n start in
    let outs : List ℕ → List Decl = λ f. decls_by types (node_among (reverse program) f) in
    let called : List ℕ → (Place → Place) → List Slot = λ f w. callee_slots types (node_among (reverse program) f) w in
    let here : Place → Place = λ p. p in
    let seen = typed_in n.inputs (typed_in n.outputs untyped) in
    let calls = λ (f : List ℕ) (st : Instant) (w : Place → Place) (u : Over types P m root w (callee_of program f st)). called_stays types P m root (node_among (reverse program) f) (a f) st w u in
    let s1 = row_slots types input n.inputs (below Inputs here) in
    let s2 = lasts_slots types n.outputs here in
    let s3 = row_slots types control (controls_of n.contract) (below Controls here) in
    let s4 = slots_of_contract types outs called n.contract seen here in
    let s5 = slots_of_block types outs called n.body (typed_in (controls_of n.contract) seen) (below Body here) in
    stay_joined types P m root s1 (s2 ++ (s3 ++ (s4 ++ s5))) (inputs_stay types P m root n.inputs (below Inputs here) (λ q v. input_kept (callee_of program) n.contract start q v))
    (stay_joined types P m root s2 (s3 ++ (s4 ++ s5)) (lasts_stay types P m root n.outputs here)
    (stay_joined types P m root s3 (s4 ++ s5) (controls_stay types P m root (controls_of n.contract) (below Controls here))
    (stay_joined types P m root s4 s5 (contract_stays types P m root outs called (callee_of program) calls n.contract seen start here (λ q v. refl) (λ q v. refl) (λ q v. refl))
    (block_stays types P m root outs called (callee_of program) calls n.body (typed_in (controls_of n.contract) seen) (part Body start) (below Body here) (λ q v. refl)))))
    (has_all types P m root (slots_of_node program n) h)
