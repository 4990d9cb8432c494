-- What is mended fits: it is of its type at each place, and at each `pre` it is what its register holds at the start.
use Rattle.std.proofs.Common.{◌≡◌, ℕ, List, [], ◌∷◌, ◌++◌, refl, sym, ap, subst, ◌∙◌, append_assoc}
use Rattle.std.specs.Prelude.{Bool, true, false, ◌&&◌, if◌then◌else◌, Option, None, Some}
use Rattle.hp_base.specs.declared.ty.Const.{Const}
use Rattle.hp_base.specs.declared.ty.Ty.{Ty}
use Rattle.hp_base.specs.declared.ty.Ty.TheVariants as ty
use Rattle.hp_base.specs.declared.value.Value.{Value}
use Rattle.hp_base.specs.declared.value.Value.TheVariants.{Absent, Nil, B, E, I, Star}
use Rattle.hp_tree.specs.declared.block.Trans.{Trans}
use Rattle.hp_tree.specs.declared.expr.Op2.{Op2}
use Rattle.hp_tree.specs.Expressions.{Expr, constant, variable, last_of, one, two, choose, pre, fby, arrow, when_is, merge, call, Exprs, no_expr, more_exprs, Parts, no_part, more_parts}
use Rattle.hp_tree.specs.Blocks.{Decl, Block, block, Eqns, no_eqn, more_eqns, Eqn, define, switch, reset, automaton, Arms, no_arm, more_arms, States, no_state, more_states}
use Rattle.hp_tree.specs.Programs.{TypeDecl, Contract}
use Rattle.hp_tree.specs.Operators.{is_comparison}
use Rattle.hp_tree.specs.ExpressionTypes.{Scope as Types, typed_in, scope_of, type_of as typed_of}
use Rattle.hp_tree.specs.Instant.{Body, Observer, Assume, Enforce, Named, Equations, Head, Tail, Right, Test, Arms as ArmsOf, States as StatesOf, Until, Unless, First, Second, Third, Args, Instance, Place, Instant, part}
use Rattle.hp_tree.specs.Values.{IsOf}
use Rattle.hp_meaning.specs.Causal.Sources.{below}
use Rattle.hp_typing.specs.Scopes.{with_variables, inside as into}
use Rattle.hp_typing.specs.Types.{type_of}
use Rattle.law_judged.specs.Typed.Scopes.{Scope}
use Rattle.hp_meaning.specs.Contract.Slots.{Slot, register, free, input, control, is_int, shape_of, slots, slots_of_all, slots_of_parts, slots_of_conditions, slots_of_block, slots_of_equations, slots_of_equation, slots_of_arms, slots_of_states, slots_of_contract}
use Rattle.law_games.specs.Wires.Wired.{Callees, Fills, FillsAll, FillsParts}
use Rattle.law_games.specs.Wires.WiredBlocks.{FillsConditions, FillsBlock, FillsEquations, FillsEquation, FillsArms, FillsStates}
use Rattle.law_games.specs.Wires.WiredNodes.{FillsTold, FillsObserver}
use Rattle.law_games.specs.Wiretyped.Typed.{IsFlag}
use Rattle.law_games.specs.Wiretyped.Kept.{ComparisonGiven, ExprGiven, ExprsGiven, PartsGiven, TestsGiven, BlockGiven, EqnsGiven, EqnGiven, ArmsGiven, StatesGiven, ToldGiven, ContractGiven}
use Rattle.law_games.specs.Mirror.Memories.{SlotsFit}
use Rattle.law_games.proofs.ForcedLemmas.Mended.{flag_of, Mends, mend, mend_all, mend_parts, mend_tests, mend_block, mend_eqns, mend_eqn, mend_arms, mend_states, mend_told, mend_contract}

-- ---- values

pub is_flag : (v : Value) → IsFlag (flag_of v)
is_flag (B b) = (b, refl)
is_flag Absent = (false, refl)
is_flag Nil = (false, refl)
is_flag (E t k) = (false, refl)
is_flag (I n) = (false, refl)
is_flag Star = (false, refl)

pub flag_is : (types : List TypeDecl) (v : Value) → IsOf types ty.Bool (flag_of v)
flag_is types v = let f = is_flag v in subst (IsOf types ty.Bool) (sym f.1) tt

compared : (o : Op2) (t : Option Ty) (v : Value) → ComparisonGiven o t (flag_of v)
compared o None v = tt
compared o (Some ty.Bool) v = tt
compared o (Some ty.Int) v = λ c. is_flag v
compared o (Some (ty.Enum t)) v = tt

-- ---- lists of slots

-- Of a whole: it has what is given at some places, and so at those of a contract.
abbrev pub Under : (Place → Place) → Instant → Instant → Type 0
Under w root i = (p : Place) → root (w p) ≡ i p

abbrev pub Observers : (Place → Place) → Instant → Instant → Type 0
Observers w root i = ((p : Place) → root (w (Observer ∷ p)) ≡ i (Observer ∷ p)) × (((p : Place) → root (w (Assume ∷ p)) ≡ i (Assume ∷ p)) × ((p : Place) → root (w (Enforce ∷ p)) ≡ i (Enforce ∷ p)))

-- the slots of `last` variables, of what is told and of outputs, as those of a node have them
abbrev pub lasts_slots : List TypeDecl → List Decl → (Place → Place) → List Slot
lasts_slots types [] w = []
lasts_slots types (d ∷ ds) w = (elim d.last [ None ↦ [] | Some c ↦ register (w (Named d.name ∷ [])) (shape_of types d.ty) ∷ [] ]) ++ lasts_slots types ds w

abbrev slots_told : List TypeDecl → (List ℕ → List Decl) → (List ℕ → (Place → Place) → List Slot) → Option Expr → Types → (Place → Place) → List Slot
slots_told types outputs called None names w = []
slots_told types outputs called (Some e) names w = slots types outputs called e names w

abbrev pub free_of : Place → Ty → List Slot
free_of p ty.Int = []
free_of p t = free p t ∷ []

abbrev pub outputs_slots : List Decl → (Place → Place) → List Slot
outputs_slots [] w = []
outputs_slots (d ∷ ds) w = free_of (w (Named d.name ∷ [])) d.ty ++ outputs_slots ds w

pub fits_joined : (types : List TypeDecl) (ss ts : List Slot) (i : Instant) → SlotsFit types ss i → SlotsFit types ts i → SlotsFit types (ss ++ ts) i
fits_joined types [] ts i h k = k
fits_joined types (register p s ∷ ss) ts i h k = fits_joined types ss ts i h k
fits_joined types (control p t ∷ ss) ts i h k = fits_joined types ss ts i h k
fits_joined types (input p t ∷ ss) ts i h k = (h.0, fits_joined types ss ts i h.1 k)
fits_joined types (free p t ∷ ss) ts i h k = (h.0, fits_joined types ss ts i h.1 k)

pub lasts_fit : (types : List TypeDecl) (ds : List Decl) (w : Place → Place) (i : Instant) → SlotsFit types (lasts_slots types ds w) i
lasts_fit types [] w i = tt
lasts_fit types (d ∷ ds) w i = by d.last (lasts_fit types ds w i)
  where
    by : (o : Option Const) → SlotsFit types (lasts_slots types ds w) i → SlotsFit types ((elim o [ None ↦ [] | Some c ↦ register (w (Named d.name ∷ [])) (shape_of types d.ty) ∷ [] ]) ++ lasts_slots types ds w) i
    by None h = h
    by (Some c) h = h

-- a comparison of integers
if_slot : (types : List TypeDecl) (b : Bool) (q : Place) (i : Instant) → IsOf types ty.Bool (i q) → SlotsFit types (if b then free q ty.Bool ∷ [] else []) i
if_slot types true q i h = (h, tt)
if_slot types false q i h = tt

-- ---- the tree

abbrev pub mended : (Place → Value → Value) → Instant → Instant
mended m given p = m p (given p)

module _ (types : List TypeDecl) (C : Callees) (outputs : List ℕ → List Decl) (called : List ℕ → (Place → Place) → List Slot) (callee : List ℕ → Mends) (Given : List ℕ → Instant → Type 0) where
  -- what is mended for an instance
  abbrev pub OfCall : List ℕ → Instant → Instant → Type 0
  OfCall f start i =
      Given f (mended (callee f start) i) × C.fills f start (mended (callee f start) i)
      × ((w : Place → Place) (root : Instant) → Under w root (mended (callee f start) i) → SlotsFit types (outputs_slots (outputs f) w ++ called f w) root)

  module _ (calls : (f : List ℕ) (start i : Instant) → OfCall f start i) where
    abbrev OfExpr : Expr → Instant → Instant → Type 0
    OfExpr e start i =
        ((s : Scope) → ExprGiven types Given s e (mended (mend callee e start) i)) × Fills types C e start (mended (mend callee e start) i)
        × ((names : Types) (w : Place → Place) (root : Instant) → Under w root (mended (mend callee e start) i) → SlotsFit types (slots types outputs called e names w) root)

    abbrev OfExprs : Exprs → Instant → Instant → Type 0
    OfExprs es start i =
        ((s : Scope) → ExprsGiven types Given s es (mended (mend_all callee es start) i)) × FillsAll types C es start (mended (mend_all callee es start) i)
        × ((names : Types) (w : Place → Place) (root : Instant) → Under w root (mended (mend_all callee es start) i) → SlotsFit types (slots_of_all types outputs called es names w) root)

    abbrev OfParts : Parts → Instant → Instant → Type 0
    OfParts ps start i =
        ((s : Scope) → PartsGiven types Given s ps (mended (mend_parts callee ps start) i)) × FillsParts types C ps start (mended (mend_parts callee ps start) i)
        × ((names : Types) (w : Place → Place) (root : Instant) → Under w root (mended (mend_parts callee ps start) i) → SlotsFit types (slots_of_parts types outputs called ps names w) root)

    mutual
      pub expr : (e : Expr) (start i : Instant) → OfExpr e start i
      expr (constant at c) start i = ((λ s. tt), tt, λ names w root u. tt)
      expr (variable at x) start i = ((λ s. tt), tt, λ names w root u. tt)
      expr (last_of at x) start i = ((λ s. tt), tt, λ names w root u. tt)
      expr (one at o a) start i =
          let r = expr a (part First start) (part First i) in
          (r.0, r.1, λ names w root u. r.2 names (below First w) root (λ p. u (First ∷ p)))
      expr (two at o a b) start i =
          let r = expr a (part First start) (part First i) in
          let k = expr b (part Second start) (part Second i) in (
            (λ s. (compared o (type_of s a) (i []), (r.0 s, k.0 s))),
            (r.1, k.1),
            λ names w root u.
                fits_joined types (if is_comparison o && is_int (typed_of types outputs a names) then free (w []) ty.Bool ∷ [] else []) (slots types outputs called a names (below First w) ++ slots types outputs called b names (below Second w)) root
                (if_slot types (is_comparison o && is_int (typed_of types outputs a names)) (w []) root (subst (IsOf types ty.Bool) (sym (u [])) (flag_is types (i []))))
                (fits_joined types (slots types outputs called a names (below First w)) (slots types outputs called b names (below Second w)) root (r.2 names (below First w) root (λ p. u (First ∷ p))) (k.2 names (below Second w) root (λ p. u (Second ∷ p)))),
          )
      expr (choose at a b c) start i =
          let r = expr a (part First start) (part First i) in
          let k = expr b (part Second start) (part Second i) in
          let h = expr c (part Third start) (part Third i) in (
            (λ s. (r.0 s, (k.0 s, h.0 s))),
            (r.1, k.1, h.1),
            λ names w root u.
                fits_joined types (slots types outputs called a names (below First w)) (slots types outputs called b names (below Second w) ++ slots types outputs called c names (below Third w)) root (r.2 names (below First w) root (λ p. u (First ∷ p)))
                (fits_joined types (slots types outputs called b names (below Second w)) (slots types outputs called c names (below Third w)) root (k.2 names (below Second w) root (λ p. u (Second ∷ p))) (h.2 names (below Third w) root (λ p. u (Third ∷ p)))),
          )
      expr (pre at a) start i =
          let r = expr a (part First start) (part First i) in
          (r.0, (refl, r.1), λ names w root u. r.2 names (below First w) root (λ p. u (First ∷ p)))
      expr (fby at a b) start i =
          let r = expr a (part First start) (part First i) in
          let k = expr b (part Second start) (part Second i) in (
            (λ s. (r.0 s, k.0 s)),
            (r.1, k.1),
            λ names w root u.
                fits_joined types (slots types outputs called a names (below First w)) (slots types outputs called b names (below Second w)) root (r.2 names (below First w) root (λ p. u (First ∷ p))) (k.2 names (below Second w) root (λ p. u (Second ∷ p))),
          )
      expr (arrow at a b) start i =
          let r = expr a (part First start) (part First i) in
          let k = expr b (part Second start) (part Second i) in (
            (λ s. (r.0 s, k.0 s)),
            (r.1, k.1),
            λ names w root u.
                fits_joined types (slots types outputs called a names (below First w)) (slots types outputs called b names (below Second w)) root (r.2 names (below First w) root (λ p. u (First ∷ p))) (k.2 names (below Second w) root (λ p. u (Second ∷ p))),
          )
      expr (when_is at a c x) start i =
          let r = expr a (part First start) (part First i) in
          (r.0, r.1, λ names w root u. r.2 names (below First w) root (λ p. u (First ∷ p)))
      expr (merge at x ps) start i =
          let r = parts ps (part Args start) (part Args i) in
          (r.0, r.1, λ names w root u. r.2 names (below Args w) root (λ p. u (Args ∷ p)))
      expr (call at f inlined es) start i =
          let r = exprs es (part Args start) (part Args i) in
          let k = calls f (part Instance start) (part Instance i) in (
            (λ s. (r.0 s, k.0)),
            (r.1, k.1),
            λ names w root u.
                subst (λ ss. SlotsFit types ss root) (append_assoc (outputs_slots (outputs f) (below Instance w)) (called f (below Instance w)) (slots_of_all types outputs called es names (below Args w)))
                (fits_joined types (outputs_slots (outputs f) (below Instance w) ++ called f (below Instance w)) (slots_of_all types outputs called es names (below Args w)) root
                (k.2 (below Instance w) root (λ p. u (Instance ∷ p))) (r.2 names (below Args w) root (λ p. u (Args ∷ p)))),
          )

      exprs : (es : Exprs) (start i : Instant) → OfExprs es start i
      exprs no_expr start i = ((λ s. tt), tt, λ names w root u. tt)
      exprs (more_exprs e es) start i =
          let r = expr e (part Head start) (part Head i) in
          let k = exprs es (part Tail start) (part Tail i) in (
            (λ s. (r.0 s, k.0 s)),
            (r.1, k.1),
            λ names w root u.
                fits_joined types (slots types outputs called e names (below Head w)) (slots_of_all types outputs called es names (below Tail w)) root (r.2 names (below Head w) root (λ p. u (Head ∷ p))) (k.2 names (below Tail w) root (λ p. u (Tail ∷ p))),
          )

      parts : (ps : Parts) (start i : Instant) → OfParts ps start i
      parts no_part start i = ((λ s. tt), tt, λ names w root u. tt)
      parts (more_parts c e ps) start i =
          let r = expr e (part Head start) (part Head i) in
          let k = parts ps (part Tail start) (part Tail i) in (
            (λ s. (r.0 s, k.0 s)),
            (r.1, k.1),
            λ names w root u.
                fits_joined types (slots types outputs called e names (below Head w)) (slots_of_parts types outputs called ps names (below Tail w)) root (r.2 names (below Head w) root (λ p. u (Head ∷ p))) (k.2 names (below Tail w) root (λ p. u (Tail ∷ p))),
          )

    abbrev OfTests : List Trans → Instant → Instant → Type 0
    OfTests ts start i =
        ((s : Scope) → TestsGiven types Given s ts (mended (mend_tests callee ts start) i)) × FillsConditions types C ts start (mended (mend_tests callee ts start) i)
        × ((names : Types) (w : Place → Place) (root : Instant) → Under w root (mended (mend_tests callee ts start) i) → SlotsFit types (slots_of_conditions types outputs called ts names w) root)

    tests : (ts : List Trans) (start i : Instant) → OfTests ts start i
    tests [] start i = ((λ s. tt), tt, λ names w root u. tt)
    tests (t ∷ ts) start i =
        let r = expr t.cond (part Head start) (part Head i) in
        let k = tests ts (part Tail start) (part Tail i) in (
          (λ s. (r.0 s, k.0 s)),
          (r.1, k.1),
          λ names w root u.
              fits_joined types (slots types outputs called t.cond names (below Head w)) (slots_of_conditions types outputs called ts names (below Tail w)) root (r.2 names (below Head w) root (λ p. u (Head ∷ p))) (k.2 names (below Tail w) root (λ p. u (Tail ∷ p))),
        )

    -- ---- blocks

    abbrev pub OfBlock : Block → Instant → Instant → Type 0
    OfBlock b start i =
        ((s : Scope) → BlockGiven types Given s b (mended (mend_block callee b start) i)) × FillsBlock types C b start (mended (mend_block callee b start) i)
        × ((names : Types) (w : Place → Place) (root : Instant) → Under w root (mended (mend_block callee b start) i) → SlotsFit types (slots_of_block types outputs called b names w) root)

    abbrev OfEqns : Eqns → Instant → Instant → Type 0
    OfEqns es start i =
        ((s : Scope) → EqnsGiven types Given s es (mended (mend_eqns callee es start) i)) × FillsEquations types C es start (mended (mend_eqns callee es start) i)
        × ((names : Types) (w : Place → Place) (root : Instant) → Under w root (mended (mend_eqns callee es start) i) → SlotsFit types (slots_of_equations types outputs called es names w) root)

    abbrev OfEqn : Eqn → Instant → Instant → Type 0
    OfEqn e start i =
        ((s : Scope) → EqnGiven types Given s e (mended (mend_eqn callee e start) i)) × FillsEquation types C e start (mended (mend_eqn callee e start) i)
        × ((names : Types) (w : Place → Place) (root : Instant) → Under w root (mended (mend_eqn callee e start) i) → SlotsFit types (slots_of_equation types outputs called e names w) root)

    abbrev OfArms : Arms → Instant → Instant → Type 0
    OfArms arms start i =
        ((s : Scope) → ArmsGiven types Given s arms (mended (mend_arms callee arms start) i)) × FillsArms types C arms start (mended (mend_arms callee arms start) i)
        × ((names : Types) (w : Place → Place) (root : Instant) → Under w root (mended (mend_arms callee arms start) i) → SlotsFit types (slots_of_arms types outputs called arms names w) root)

    abbrev OfStates : States → Instant → Instant → Type 0
    OfStates ss start i =
        ((s : Scope) → StatesGiven types Given s ss (mended (mend_states callee ss start) i)) × FillsStates types C ss start (mended (mend_states callee ss start) i)
        × ((names : Types) (w : Place → Place) (root : Instant) → Under w root (mended (mend_states callee ss start) i) → SlotsFit types (slots_of_states types outputs called ss names w) root)

    mutual
      pub block_of : (b : Block) (start i : Instant) → OfBlock b start i
      block_of (block ds es) start i =
          let r = eqns es (part Equations start) (part Equations i) in (
            (λ s. r.0 (with_variables s ds)),
            r.1,
            λ names w root u. fits_joined types (lasts_slots types ds w) (slots_of_equations types outputs called es (typed_in ds names) (below Equations w)) root (lasts_fit types ds w root) (r.2 (typed_in ds names) (below Equations w) root (λ p. u (Equations ∷ p))),
          )

      eqns : (es : Eqns) (start i : Instant) → OfEqns es start i
      eqns no_eqn start i = ((λ s. tt), tt, λ names w root u. tt)
      eqns (more_eqns e es) start i =
          let r = eqn e (part Head start) (part Head i) in
          let k = eqns es (part Tail start) (part Tail i) in (
            (λ s. (r.0 s, k.0 s)),
            (r.1, k.1),
            λ names w root u.
                fits_joined types (slots_of_equation types outputs called e names (below Head w)) (slots_of_equations types outputs called es names (below Tail w)) root (r.2 names (below Head w) root (λ p. u (Head ∷ p))) (k.2 names (below Tail w) root (λ p. u (Tail ∷ p))),
          )

      eqn : (e : Eqn) (start i : Instant) → OfEqn e start i
      eqn (define at ys e) start i =
          let r = expr e (part Right start) (part Right i) in
          (r.0, r.1, λ names w root u. r.2 names (below Right w) root (λ p. u (Right ∷ p)))
      eqn (switch at e arms) start i =
          let r = expr e (part Test start) (part Test i) in
          let k = arms_of arms (part ArmsOf start) (part ArmsOf i) in (
            (λ s. (r.0 s, k.0 s)),
            (r.1, k.1),
            λ names w root u.
                fits_joined types (slots types outputs called e names (below Test w)) (slots_of_arms types outputs called arms names (below ArmsOf w)) root (r.2 names (below Test w) root (λ p. u (Test ∷ p))) (k.2 names (below ArmsOf w) root (λ p. u (ArmsOf ∷ p))),
          )
      eqn (reset at b e) start i =
          let r = expr e (part Test start) (part Test i) in
          let k = block_of b (part Body start) (part Body i) in (
            (λ s. (r.0 s, k.0 s)),
            (r.1, k.1),
            λ names w root u.
                fits_joined types (slots_of_block types outputs called b names (below Body w)) (slots types outputs called e names (below Test w)) root (k.2 names (below Body w) root (λ p. u (Body ∷ p))) (r.2 names (below Test w) root (λ p. u (Test ∷ p))),
          )
      eqn (automaton at ss) start i =
          let r = states_of ss (part StatesOf start) (part StatesOf i) in
          (r.0, r.1, λ names w root u. r.2 names (below StatesOf w) root (λ p. u (StatesOf ∷ p)))

      arms_of : (arms : Arms) (start i : Instant) → OfArms arms start i
      arms_of no_arm start i = ((λ s. tt), tt, λ names w root u. tt)
      arms_of (more_arms c b at arms) start i =
          let r = block_of b (part Head start) (part Head i) in
          let k = arms_of arms (part Tail start) (part Tail i) in (
            (λ s. (r.0 s, k.0 s)),
            (r.1, k.1),
            λ names w root u.
                fits_joined types (slots_of_block types outputs called b names (below Head w)) (slots_of_arms types outputs called arms names (below Tail w)) root (r.2 names (below Head w) root (λ p. u (Head ∷ p))) (k.2 names (below Tail w) root (λ p. u (Tail ∷ p))),
          )

      states_of : (ss : States) (start i : Instant) → OfStates ss start i
      states_of no_state start i = ((λ s. tt), tt, λ names w root u. tt)
      states_of (more_states f b until unless at ss) start i =
          let r = block_of b (part Body (part Head start)) (part Body (part Head i)) in
          let t = tests until (part Until (part Head start)) (part Until (part Head i)) in
          let y = tests unless (part Unless (part Head start)) (part Unless (part Head i)) in
          let k = states_of ss (part Tail start) (part Tail i) in (
            (λ s. (r.0 s, (t.0 (into s b), (y.0 s, k.0 s)))),
            (r.1, t.1, y.1, k.1),
            λ names w root u.
                fits_joined types (slots_of_block types outputs called b names (below Body (below Head w)))
                (slots_of_conditions types outputs called until (scope_of b names) (below Until (below Head w)) ++ (slots_of_conditions types outputs called unless names (below Unless (below Head w)) ++ slots_of_states types outputs called ss names (below Tail w))) root
                (r.2 names (below Body (below Head w)) root (λ p. u (Head ∷ Body ∷ p)))
                (fits_joined types (slots_of_conditions types outputs called until (scope_of b names) (below Until (below Head w))) (slots_of_conditions types outputs called unless names (below Unless (below Head w)) ++ slots_of_states types outputs called ss names (below Tail w)) root
                (t.2 (scope_of b names) (below Until (below Head w)) root (λ p. u (Head ∷ Until ∷ p)))
                (fits_joined types (slots_of_conditions types outputs called unless names (below Unless (below Head w))) (slots_of_states types outputs called ss names (below Tail w)) root
                (y.2 names (below Unless (below Head w)) root (λ p. u (Head ∷ Unless ∷ p))) (k.2 names (below Tail w) root (λ p. u (Tail ∷ p))))),
          )

    -- ---- contracts

    abbrev OfTold : Option Expr → Instant → Instant → Type 0
    OfTold o start i =
        ((s : Scope) → ToldGiven types Given s o (mended (mend_told callee o start) i)) × FillsTold types C o start (mended (mend_told callee o start) i)
        × ((names : Types) (w : Place → Place) (root : Instant) → Under w root (mended (mend_told callee o start) i) → SlotsFit types (slots_told types outputs called o names w) root)

    told : (o : Option Expr) (start i : Instant) → OfTold o start i
    told None start i = ((λ s. tt), tt, λ names w root u. tt)
    told (Some e) start i = expr e start i

    -- what is mended at the three parts of a contract
    abbrev Mended : Option Contract → Instant → Instant → Instant → Type 0
    Mended o start i j = (part Observer j ≡ part Observer (mended (mend_contract callee o start) i)) × (part Assume j ≡ part Assume (mended (mend_contract callee o start) i)) × (part Enforce j ≡ part Enforce (mended (mend_contract callee o start) i))

    abbrev pub OfContract : Option Contract → Instant → Instant → Type 0
    OfContract o start j =
        ((s : Scope) → ContractGiven types Given s o j) × FillsObserver types C o start j
        × ((names : Types) (w : Place → Place) (root : Instant) → Observers w root j → SlotsFit types (slots_of_contract types outputs called o names w) root)

    pub contract_of : (o : Option Contract) (start i j : Instant) → Mended o start i j → OfContract o start j
    contract_of None start i j e = ((λ s. tt), tt, λ names w root u. tt)
    contract_of (Some c) start i j e =
        let r = block_of c.body (part Observer start) (part Observer i) in
        let t = told c.assume (part Assume start) (part Assume i) in
        let y = told c.enforce (part Enforce start) (part Enforce i) in (
          (λ s.
              (subst (BlockGiven types Given s c.body) (sym e.0) (r.0 s), (subst (ToldGiven types Given (into s c.body) c.assume) (sym e.1) (t.0 (into s c.body)), subst (ToldGiven types Given (into s c.body) c.enforce) (sym e.2) (y.0 (into s c.body))))),
          (subst (FillsBlock types C c.body (part Observer start)) (sym e.0) r.1, subst (FillsTold types C c.assume (part Assume start)) (sym e.1) t.1, subst (FillsTold types C c.enforce (part Enforce start)) (sym e.2) y.1),
          λ names w root u.
              fits_joined types (slots_of_block types outputs called c.body names (below Observer w)) (slots_told types outputs called c.assume (scope_of c.body names) (below Assume w) ++ slots_told types outputs called c.enforce (scope_of c.body names) (below Enforce w)) root
              (r.2 names (below Observer w) root (λ p. u.0 p ∙ ap (λ z. z p) e.0))
              (fits_joined types (slots_told types outputs called c.assume (scope_of c.body names) (below Assume w)) (slots_told types outputs called c.enforce (scope_of c.body names) (below Enforce w)) root
              (t.2 (scope_of c.body names) (below Assume w) root (λ p. u.1.0 p ∙ ap (λ z. z p) e.1)) (y.2 (scope_of c.body names) (below Enforce w) root (λ p. u.1.1 p ∙ ap (λ z. z p) e.2))),
        )
