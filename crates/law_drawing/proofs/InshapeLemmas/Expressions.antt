-- The slots of expressions are in shape, where registers are kept in shape and given values fit.
use Rattle.std.proofs.Common.{◌≡◌, ℕ, List, [], ◌∷◌, ◌++◌, sym, subst, ◌∙◌, append_assoc}
use Rattle.std.specs.Prelude.{◌&&◌, IsTrue, if◌then◌else◌, Option, Some}
use Rattle.hp_base.specs.declared.ty.Ty.{Ty}
use Rattle.hp_base.specs.declared.ty.Ty.TheVariants as ty
use Rattle.hp_tree.specs.declared.block.Trans.{Trans}
use Rattle.hp_tree.specs.declared.expr.Op2.{Op2}
use Rattle.hp_tree.specs.Blocks.{Decl}
use Rattle.hp_tree.specs.Expressions.{Expr, constant, variable, last_of, one, two, choose, pre, fby, arrow, when_is, merge, call, Exprs, no_expr, more_exprs, Parts, no_part, more_parts}
use Rattle.hp_tree.specs.ExpressionTypes as tree
use Rattle.hp_tree.specs.Instant.{Fresh, Head, Tail, First, Second, Third, Args, Instance, Place, Instant, part}
use Rattle.hp_tree.specs.Operators.{is_comparison}
use Rattle.hp_tree.specs.Programs.{TypeDecl, Node}
use Rattle.hp_base.specs.Known.Known.{lookup}
use Rattle.hp_typing.specs.Types.{type_of, types_in, type_of_one, args_fit}
use Rattle.law_judged.specs.Typed.Scopes.{Scope}
use Rattle.hp_meaning.specs.Causal.Sources.{below}
use Rattle.hp_meaning.specs.Contract.Slots.{truth, Slot, register, free, is_int, shape_of, slots, slots_of_all, slots_of_parts, slots_of_conditions}
use Rattle.law_values.specs.Valued.Judged.{Lasts, ExprSound, ExprsSound, PartsSound, TestsSound}
use Rattle.law_values.proofs.ValuedLemmas.Typed.{one_typed, two_typed, if_typed, pair_typed, when_typed, merge_typed, PartsHave, arg_typed}
use Rattle.law_values.proofs.FilledLemmas.Constructors.{ConsTyped}
use Rattle.law_games.specs.Wiretyped.Typed.{HasWire}
use Rattle.law_games.specs.Wiretyped.Kept.{ExprKept, ExprsKept, PartsKept, TestsKept, ComparisonGiven, ExprGiven, ExprsGiven, PartsGiven, TestsGiven}
use Rattle.law_games.proofs.WiretypedLemmas.Stored.{IsJudged, judged_of}
use Rattle.law_drawing.specs.Carrying.Calls.{outputs_slots}
use Rattle.law_drawing.specs.Mirroring.Codes.{AreInShape, AreNumbered}
use Rattle.law_drawing.proofs.InshapeLemmas.Pieces.{join, stored, stored_flag, compared}
use Rattle.law_drawing.proofs.InshapeLemmas.TypesRead.{Agrees, type_read}

-- `kept` and `fits` say of an instance of a node that it is kept in shape, and that what is given for it fits; `outs` has the outputs of nodes and `called` the slots of their instances, which are in shape then.
module _ (types : List TypeDecl) (numbered : AreNumbered types) (memory given : Instant) (among : List ℕ → Option Node) (kept : List ℕ → Instant → Instant → Type 0) (fits : List ℕ → Instant → Type 0) (outs : List ℕ → List Decl)
    (called : List ℕ → (Place → Place) → List Slot) (outs_are : (f : List ℕ) (n : Node) (start mem : Instant) → kept f start mem → among f ≡ Some n → outs f ≡ n.outputs)
    (instances : (f : List ℕ) (n : Node) (w : Place → Place) (start : Instant) → among f ≡ Some n → kept f start (λ p. memory (w p)) → fits f (λ p. given (w p)) → AreInShape types memory given (outputs_slots (outs f) w ++ called f w)) where
  abbrev Good : List Slot → Type 0
  Good ss = AreInShape types memory given ss

  both : (ss ts : List Slot) → Good ss → Good ts → Good (ss ++ ts)
  both ss ts h k = join types memory given ss ts h k

  -- the outputs of an instance and its contract, and the arguments
  again : (os ss ts : List Slot) → Good (os ++ ss) → Good ts → Good (os ++ (ss ++ ts))
  again os ss ts h k = subst Good (append_assoc os ss ts) (both (os ++ ss) ts h k)

  module _ (s : Scope) (lasts : Lasts) (names : tree.Scope) (known : Agrees s names) (conses : ConsTyped types s) where
    abbrev Slots : Expr → (Place → Place) → List Slot
    Slots e w = slots types outs called e names w

    -- the type that is read off
    abbrev read : Expr → Ty
    read e = tree.type_of types outs e names

    -- what a delay stores
    delayed : (e : Expr) (t : Ty) (p : Place) (start mem : Instant) → ExprKept types kept s e start mem → ExprSound types among s lasts e → type_of s e ≡ Some t → HasWire types (type_of s e) (memory p) → Good (register p (shape_of types (read e)) ∷ [])
    delayed e t p start mem k ok h v =
        subst (λ u. Good (register p (shape_of types u) ∷ [])) (sym (type_read types among kept outs outs_are s lasts names known conses e t start mem k ok h))
        (stored types memory given numbered p t (subst (λ o. HasWire types o (memory p)) h v))

    -- the place of a comparison
    comparing : (o : Op2) (e : Expr) (t : Ty) (p : Place) (start mem : Instant) → ExprKept types kept s e start mem → ExprSound types among s lasts e → type_of s e ≡ Some t → ComparisonGiven o (type_of s e) (given p)
        → Good (if is_comparison o && is_int (read e) then free p ty.Bool ∷ [] else [])
    comparing o e t p start mem k ok h g =
        subst (λ u. Good (if is_comparison o && is_int u then free p ty.Bool ∷ [] else [])) (sym (type_read types among kept outs outs_are s lasts names known conses e t start mem k ok h))
        (compared types memory given o t p (subst (λ c. ComparisonGiven o c (given p)) h g))

    mutual
      pub expression : (e : Expr) (w : Place → Place) (start : Instant) → ExprSound types among s lasts e → IsJudged s e → ExprKept types kept s e start (λ p. memory (w p)) → ExprGiven types fits s e (λ p. given (w p)) → AreInShape types memory given (slots types outs called e names w)
      expression (constant a c) w start ok j k g = tt
      expression (variable a x) w start ok j k g = tt
      expression (last_of a x) w start ok j k g = tt
      expression (one a o b) w start ok j k g =
          let r = one_typed (type_of_one o) (type_of s b) j.0 j.1 in
          expression b (below First w) (part First start) ok (judged_of s b (type_of_one o) r.0) k g
      expression (two a o b c) w start ok j k g =
          let r = two_typed o (type_of s b) (type_of s c) j.0 j.1 in
          both (if is_comparison o && is_int (read b) then free (w []) ty.Bool ∷ [] else []) (Slots b (below First w) ++ Slots c (below Second w))
          (comparing o b r.0 (w []) (part First start) (λ p. memory (w (First ∷ p))) k.0 ok.0 r.2 g.0)
          (both (Slots b (below First w)) (Slots c (below Second w))
          (expression b (below First w) (part First start) ok.0 (judged_of s b r.0 r.2) k.0 g.1.0)
          (expression c (below Second w) (part Second start) ok.1 (judged_of s c r.0 r.3) k.1 g.1.1))
      expression (choose a b c d) w start ok j k g =
          let r = if_typed (type_of s b) (type_of s c) (type_of s d) j.0 j.1 in
          both (Slots b (below First w)) (Slots c (below Second w) ++ Slots d (below Third w))
          (expression b (below First w) (part First start) ok.0 (judged_of s b ty.Bool r.0) k.0 g.0)
          (both (Slots c (below Second w)) (Slots d (below Third w))
          (expression c (below Second w) (part Second start) ok.1.0 (judged_of s c j.0 r.1) k.1.0 g.1.0)
          (expression d (below Third w) (part Third start) ok.1.1 (judged_of s d j.0 r.2) k.1.1 g.1.1))
      expression (pre a b) w start ok j k g =
          both (register (w []) (shape_of types (read b)) ∷ []) (Slots b (below First w))
          (delayed b j.0 (w []) (part First start) (λ p. memory (w (First ∷ p))) k.1.1 ok j.1 k.1.0)
          (expression b (below First w) (part First start) ok (judged_of s b j.0 j.1) k.1.1 g)
      expression (fby a b c) w start ok j k g =
          let r = pair_typed (type_of s b) (type_of s c) j.0 j.1 in
          both (register (w []) (shape_of types (read b)) ∷ []) (register (w (Fresh ∷ [])) truth ∷ (Slots b (below First w) ++ Slots c (below Second w)))
          (delayed b j.0 (w []) (part First start) (λ p. memory (w (First ∷ p))) k.1.1.1.0 ok.0 r.0 k.1.0)
          (both (register (w (Fresh ∷ [])) truth ∷ []) (Slots b (below First w) ++ Slots c (below Second w))
          (stored_flag types memory given (w (Fresh ∷ [])) k.1.1.0)
          (both (Slots b (below First w)) (Slots c (below Second w))
          (expression b (below First w) (part First start) ok.0 (judged_of s b j.0 r.0) k.1.1.1.0 g.0)
          (expression c (below Second w) (part Second start) ok.1 (judged_of s c j.0 r.1) k.1.1.1.1 g.1)))
      expression (arrow a b c) w start ok j k g =
          let r = pair_typed (type_of s b) (type_of s c) j.0 j.1 in
          both (register (w (Fresh ∷ [])) truth ∷ []) (Slots b (below First w) ++ Slots c (below Second w))
          (stored_flag types memory given (w (Fresh ∷ [])) k.0)
          (both (Slots b (below First w)) (Slots c (below Second w))
          (expression b (below First w) (part First start) ok.0 (judged_of s b j.0 r.0) k.1.0 g.0)
          (expression c (below Second w) (part Second start) ok.1 (judged_of s c j.0 r.1) k.1.1 g.1))
      expression (when_is a b c x) w start ok j k g =
          let r = when_typed _ (type_of s b) j.0 j.1 in
          expression b (below First w) (part First start) ok (judged_of s b j.0 r) k g
      expression (merge a x ps) w start ok j k g =
          parts ps j.0 (below Args w) (part Args start) ok.1 (merge_typed s (lookup s.variables x) ps j.0 j.1) k g
      expression (call a f may_inline es) w start ok j k g =
          again (outputs_slots (outs f) (below Instance w)) (called f (below Instance w)) (slots_of_all types outs called es names (below Args w))
          (instances f j.0 (below Instance w) (part Instance start) (sym ok.0 ∙ j.1.0) k.1 g.1)
          (expressions es j.0.inputs (below Args w) (part Args start) ok.1 j.1.1 k.0 g.0)

      expressions : (es : Exprs) (ds : List Decl) (w : Place → Place) (start : Instant) → ExprsSound types among s lasts es → IsTrue (args_fit ds (types_in s es)) → ExprsKept types kept s es start (λ p. memory (w p)) → ExprsGiven types fits s es (λ p. given (w p))
          → Good (slots_of_all types outs called es names w)
      expressions no_expr ds w start ok h k g = tt
      expressions (more_exprs e es) [] w start ok h k g = absurd (cc)
      expressions (more_exprs e es) (d ∷ ds) w start ok h k g =
          let r = arg_typed d ds (type_of s e) (types_in s es) h in
          both (Slots e (below Head w)) (slots_of_all types outs called es names (below Tail w))
          (expression e (below Head w) (part Head start) ok.0 (judged_of s e d.ty r.0) k.0 g.0)
          (expressions es ds (below Tail w) (part Tail start) ok.1 r.1 k.1 g.1)

      parts : (ps : Parts) (t : Ty) (w : Place → Place) (start : Instant) → PartsSound types among s lasts ps → PartsHave s t ps → PartsKept types kept s ps start (λ p. memory (w p)) → PartsGiven types fits s ps (λ p. given (w p))
          → Good (slots_of_parts types outs called ps names w)
      parts no_part t w start ok h k g = tt
      parts (more_parts c e ps) t w start ok h k g =
          both (Slots e (below Head w)) (slots_of_parts types outs called ps names (below Tail w))
          (expression e (below Head w) (part Head start) ok.0 (judged_of s e t h.0) k.0 g.0)
          (parts ps t (below Tail w) (part Tail start) ok.1 h.1 k.1 g.1)

    pub tests : (ts : List Trans) (w : Place → Place) (start : Instant) → TestsSound types among s lasts ts → TestsKept types kept s ts start (λ p. memory (w p)) → TestsGiven types fits s ts (λ p. given (w p))
        → AreInShape types memory given (slots_of_conditions types outs called ts names w)
    tests [] w start ok k g = tt
    tests (t ∷ ts) w start ok k g =
        both (Slots t.cond (below Head w)) (slots_of_conditions types outs called ts names (below Tail w))
        (expression t.cond (below Head w) (part Head start) ok.0.0 (judged_of s t.cond ty.Bool ok.0.1) k.0 g.0)
        (tests ts (below Tail w) (part Tail start) ok.1 k.1 g.1)
