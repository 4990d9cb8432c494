-- Typed wires of an expression are sound, and its registers stay in shape: at the start and behind an instant.
use Rattle.std.proofs.Common.{◌≡◌, ℕ, List, [], ◌∷◌, refl, sym, ◌∙◌}
use Rattle.std.specs.Prelude.{Bool, true, false, IsTrue, if◌then◌else◌, Option, Some}
use Rattle.hp_base.specs.declared.span.Span.{Span}
use Rattle.hp_base.specs.declared.ty.Ty.{Ty}
use Rattle.hp_base.specs.declared.ty.Ty.TheVariants as ty
use Rattle.hp_base.specs.declared.value.Value.TheVariants.{B}
use Rattle.hp_tree.specs.declared.block.Trans.{Trans}
use Rattle.hp_tree.specs.Expressions.{Expr, constant, variable, last_of, one, two, choose, pre, fby, arrow, when_is, merge, call, Exprs, no_expr, more_exprs, Parts, no_part, more_parts}
use Rattle.hp_tree.specs.Blocks.{Decl}
use Rattle.hp_tree.specs.Programs.{TypeDecl, Node}
use Rattle.hp_tree.specs.Instant.{Fresh, Head, Tail, First, Second, Third, Args, Instance, Instant, part, top, in_row, Clock, without, holds}
use Rattle.hp_tree.specs.Meaning.{Names}
use Rattle.hp_base.specs.Known.Known.{lookup}
use Rattle.hp_typing.specs.Types.{type_of, types_in, type_of_one, args_fit}
use Rattle.law_judged.specs.Typed.Scopes.{Scope}
use Rattle.hp_meaning.specs.Causal.Clocked.{Standing, IsOn, ExprsOn, PartsOn, ConditionsOn}
use Rattle.hp_meaning.specs.Contract.Memory.{remembers, remembers_all, remembers_parts, remembers_conditions}
use Rattle.law_values.specs.Valued.Judged.{Lasts, ExprSound, ExprsSound, PartsSound, TestsSound, RightSound}
use Rattle.law_values.proofs.ValuedLemmas.Typed.{one_typed, two_typed, if_typed, pair_typed, when_typed, call_typed, merge_typed, row_typed, PartsHave, arg_typed}
use Rattle.law_games.specs.Wires.Wired.{Held, held_at, IsValue, Callees, values_of, next, next_all, next_parts, Sound, SoundAll, SoundParts}
use Rattle.law_games.specs.Wires.WiredBlocks.{next_conditions, SoundConditions}
use Rattle.law_games.specs.Wiretyped.Typed.{HasWire, AreWires, IsFlag, ExprTyped, ExprsTyped, PartsTyped, TestsTyped}
use Rattle.law_games.specs.Wiretyped.Kept.{ExprKept, ExprsKept, PartsKept, TestsKept, ExprGiven, ExprsGiven, PartsGiven, TestsGiven}
use Rattle.law_games.proofs.WiretypedLemmas.Values.{wire_value}
use Rattle.law_games.proofs.WiretypedLemmas.Exprs.{CalleesTyped, NamesAre, wire_as, top_is, part_there}

pub either_of : {A : Type 0} (P : A → Type 0) (d : Bool) (u v : A) → P u → P v → P (if d then u else v)
either_of P true u v p q = p
either_of P false u v p q = q

-- An expression has a type, or is a call whose arguments fit.
abbrev pub IsJudged : Scope → Expr → Type 0
IsJudged s (call a f i es) = (n : Node) × ((lookup s.nodes f ≡ Some n) × IsTrue (args_fit n.inputs (types_in s es)))
IsJudged s e = (t : Ty) × (type_of s e ≡ Some t)

pub judged_of : (s : Scope) (e : Expr) (t : Ty) → type_of s e ≡ Some t → IsJudged s e
judged_of s (call a f i es) t h = let r = call_typed (lookup s.nodes f) (types_in s es) t h in (r.0, (r.1, r.2))
judged_of s (constant a c) t h = (t, h)
judged_of s (variable a x) t h = (t, h)
judged_of s (last_of a x) t h = (t, h)
judged_of s (one a o b) t h = (t, h)
judged_of s (two a o b c) t h = (t, h)
judged_of s (choose a b c d) t h = (t, h)
judged_of s (pre a b) t h = (t, h)
judged_of s (fby a b c) t h = (t, h)
judged_of s (arrow a b c) t h = (t, h)
judged_of s (when_is a b c x) t h = (t, h)
judged_of s (merge a x ps) t h = (t, h)

pub right_judged : (types : List TypeDecl) (among : List ℕ → Option Node) (s : Scope) (lasts : Lasts) (ys : List (List ℕ × Span)) (e : Expr) → RightSound types among s lasts ys e → ExprSound types among s lasts e × IsJudged s e
right_judged types among s lasts ys (call a f i es) h = let r = row_typed (lookup s.nodes f) (types_in s es) h.1.0 h.1.1.0 in (h.0, (r.0, (r.1, r.2)))
right_judged types among s lasts ys (constant a c) h = (h.0, (h.1.0, h.1.1.0))
right_judged types among s lasts ys (variable a x) h = (h.0, (h.1.0, h.1.1.0))
right_judged types among s lasts ys (last_of a x) h = (h.0, (h.1.0, h.1.1.0))
right_judged types among s lasts ys (one a o b) h = (h.0, (h.1.0, h.1.1.0))
right_judged types among s lasts ys (two a o b c) h = (h.0, (h.1.0, h.1.1.0))
right_judged types among s lasts ys (choose a b c d) h = (h.0, (h.1.0, h.1.1.0))
right_judged types among s lasts ys (pre a b) h = (h.0, (h.1.0, h.1.1.0))
right_judged types among s lasts ys (fby a b c) h = (h.0, (h.1.0, h.1.1.0))
right_judged types among s lasts ys (arrow a b c) h = (h.0, (h.1.0, h.1.1.0))
right_judged types among s lasts ys (when_is a b c x) h = (h.0, (h.1.0, h.1.1.0))
right_judged types among s lasts ys (merge a x ps) h = (h.0, (h.1.0, h.1.1.0))

module _ (types : List TypeDecl) (C : Callees) (among : List ℕ → Option Node) (typed : List ℕ → Instant → Type 0) (kept : List ℕ → Instant → Instant → Type 0) (given : List ℕ → Instant → Type 0) (K : CalleesTyped types C among typed kept given) where
  values_typed : (s : Scope) (es : Exprs) (ds : List Decl) (i : Instant) → IsTrue (args_fit ds (types_in s es)) → ExprsTyped types typed s es i → AreWires types ds (values_of es i)
  values_typed s no_expr [] i h k = tt
  values_typed s no_expr (d ∷ ds) i h k = absurd (cc)
  values_typed s (more_exprs e es) [] i h k = absurd (cc)
  values_typed s (more_exprs e es) (d ∷ ds) i h k =
      let r = arg_typed d ds (type_of s e) (types_in s es) h in
      (top_is types typed s e d.ty (part Head i) r.0 k.0, values_typed s es ds (part Tail i) r.1 k.1)

  -- ---- what is asked of wires

  module _ (s : Scope) (st : Standing) (lasts : Lasts) (names : Names) (nk : NamesAre types s st names) where
    stored : (e : Expr) (t : Ty) (i : Instant) → type_of s e ≡ Some t → ExprTyped types typed s e i → IsValue (top i)
    stored e t i h k = wire_value types t (top i) (top_is types typed s e t i h k)

    mutual
      pub expr_sound : (e : Expr) (clock : Clock) (m : Held) (W : Instant) → IsOn st e clock → ExprSound types among s lasts e → IsJudged s e → ExprKept types kept s e m.start m.memory → ExprGiven types given s e m.free → ExprTyped types typed s e W → Sound types C e names m W
      expr_sound (constant a c) clock m W on ok j k g w = tt
      expr_sound (variable a x) clock m W on ok j k g w = tt
      expr_sound (last_of a x) clock m W on ok j k g w = tt
      expr_sound (one a o b) clock m W on ok j k g w =
          let r = one_typed (type_of_one o) (type_of s b) j.0 j.1 in
          expr_sound b clock (held_at First m) (part First W) on ok (judged_of s b (type_of_one o) r.0) k g w.1
      expr_sound (two a o b c) clock m W on ok j k g w =
          let r = two_typed o (type_of s b) (type_of s c) j.0 j.1 in (
            expr_sound b clock (held_at First m) (part First W) on.0 ok.0 (judged_of s b r.0 r.2) k.0 g.1.0 w.1.0,
            expr_sound c clock (held_at Second m) (part Second W) on.1 ok.1 (judged_of s c r.0 r.3) k.1 g.1.1 w.1.1,
          )
      expr_sound (choose a b c d) clock m W on ok j k g w =
          let r = if_typed (type_of s b) (type_of s c) (type_of s d) j.0 j.1 in (
            expr_sound b clock (held_at First m) (part First W) on.0 ok.0 (judged_of s b ty.Bool r.0) k.0 g.0 w.1.0,
            expr_sound c clock (held_at Second m) (part Second W) on.1 ok.1.0 (judged_of s c j.0 r.1) k.1.0 g.1.0 w.1.1.0,
            expr_sound d clock (held_at Third m) (part Third W) on.2 ok.1.1 (judged_of s d j.0 r.2) k.1.1 g.1.1 w.1.1.1,
          )
      expr_sound (pre a b) clock m W on ok j k g w =
          (stored b j.0 (part First W) j.1 w.1, expr_sound b clock (held_at First m) (part First W) on ok (judged_of s b j.0 j.1) k.1.1 g w.1)
      expr_sound (fby a b c) clock m W on ok j k g w =
          let r = pair_typed (type_of s b) (type_of s c) j.0 j.1 in (
            stored b j.0 (part First W) r.0 w.1.0,
            stored c j.0 (part Second W) r.1 w.1.1,
            expr_sound b clock (held_at First m) (part First W) on.0 ok.0 (judged_of s b j.0 r.0) k.1.1.1.0 g.0 w.1.0,
            expr_sound c clock (held_at Second m) (part Second W) on.1 ok.1 (judged_of s c j.0 r.1) k.1.1.1.1 g.1 w.1.1,
          )
      expr_sound (arrow a b c) clock m W on ok j k g w =
          let r = pair_typed (type_of s b) (type_of s c) j.0 j.1 in (
            stored b j.0 (part First W) r.0 w.1.0,
            expr_sound b clock (held_at First m) (part First W) on.0 ok.0 (judged_of s b j.0 r.0) k.1.0 g.0 w.1.0,
            expr_sound c clock (held_at Second m) (part Second W) on.1 ok.1 (judged_of s c j.0 r.1) k.1.1 g.1 w.1.1,
          )
      expr_sound (when_is a b c x) clock m W on ok j k g w =
          let r = when_typed _ (type_of s b) j.0 j.1 in
          expr_sound b (without clock) (held_at First m) (part First W) on.2 ok (judged_of s b j.0 r) k g w.1
      expr_sound (merge a x ps) clock m W on ok j k g w =
          let has = merge_typed s (lookup s.variables x) ps j.0 j.1 in
          (part_there types s st names x clock ps nk on.0 ok.0, parts_sound ps x clock j.0 (held_at Args m) (part Args W) on.1 ok.1 has k g w.1)
      expr_sound (call a f inl es) clock m W on ok j k g w = (
        exprs_sound es clock j.0.inputs (held_at Args m) (part Args W) on ok.1 j.1.1 k.0 g.0 w.1.0,
        K.sound f j.0 (values_of es (part Args W)) (held_at Instance m) (part Instance W) (sym ok.0 ∙ j.1.0) (values_typed s es j.0.inputs (part Args W) j.1.1 w.1.0) k.1 g.1 w.1.1,
      )

      pub exprs_sound : (es : Exprs) (clock : Clock) (ds : List Decl) (m : Held) (W : Instant) → ExprsOn st es clock → ExprsSound types among s lasts es → IsTrue (args_fit ds (types_in s es)) → ExprsKept types kept s es m.start m.memory → ExprsGiven types given s es m.free → ExprsTyped types typed s es W → SoundAll types C es names m W
      exprs_sound no_expr clock ds m W on ok h k g w = tt
      exprs_sound (more_exprs e es) clock [] m W on ok h k g w = absurd (cc)
      exprs_sound (more_exprs e es) clock (d ∷ ds) m W on ok h k g w =
          let r = arg_typed d ds (type_of s e) (types_in s es) h in (
            expr_sound e clock (held_at Head m) (part Head W) on.0 ok.0 (judged_of s e d.ty r.0) k.0 g.0 w.0,
            exprs_sound es clock ds (held_at Tail m) (part Tail W) on.1 ok.1 r.1 k.1 g.1 w.1,
          )

      pub parts_sound : (ps : Parts) (x : List ℕ) (clock : Clock) (t : Ty) (m : Held) (W : Instant) → PartsOn st x ps clock → PartsSound types among s lasts ps → PartsHave s t ps → PartsKept types kept s ps m.start m.memory → PartsGiven types given s ps m.free → PartsTyped types typed s ps W → SoundParts types C ps names m W
      parts_sound no_part x clock t m W on ok h k g w = tt
      parts_sound (more_parts c e ps) x clock t m W on ok h k g w = (
        expr_sound e ((c, x) ∷ clock) (held_at Head m) (part Head W) on.0 ok.0 (judged_of s e t h.0) k.0 g.0 w.0,
        parts_sound ps x clock t (held_at Tail m) (part Tail W) on.1 ok.1 h.1 k.1 g.1 w.1,
      )

    pub tests_sound : (ts : List Trans) (m : Held) (W : Instant) → ConditionsOn st ts → TestsSound types among s lasts ts → TestsKept types kept s ts m.start m.memory → TestsGiven types given s ts m.free → TestsTyped types typed s ts W → SoundConditions types C ts names m W
    tests_sound [] m W on ok k g w = tt
    tests_sound (t ∷ ts) m W on ok k g w = (
      expr_sound t.cond [] (held_at Head m) (part Head W) on.0 ok.0.0 (judged_of s t.cond ty.Bool ok.0.1) k.0 g.0 w.0,
      tests_sound ts (held_at Tail m) (part Tail W) on.1 ok.1 k.1 g.1 w.1,
    )

  -- ---- the next memory

  module _ (s : Scope) (lasts : Lasts) (names : Names) where
    mutual
      pub expr_next : (e : Expr) (clock : Clock) (m : Held) (W : Instant) → ExprSound types among s lasts e → IsJudged s e → ExprKept types kept s e m.start m.memory → ExprGiven types given s e m.free → ExprTyped types typed s e W → ExprKept types kept s e m.start (next types C e clock names m W)
      expr_next (constant a c) clock m W ok j k g w = tt
      expr_next (variable a x) clock m W ok j k g w = tt
      expr_next (last_of a x) clock m W ok j k g w = tt
      expr_next (one a o b) clock m W ok j k g w =
          let r = one_typed (type_of_one o) (type_of s b) j.0 j.1 in
          expr_next b clock (held_at First m) (part First W) ok (judged_of s b (type_of_one o) r.0) k g w.1
      expr_next (two a o b c) clock m W ok j k g w =
          let r = two_typed o (type_of s b) (type_of s c) j.0 j.1 in (
            expr_next b clock (held_at First m) (part First W) ok.0 (judged_of s b r.0 r.2) k.0 g.1.0 w.1.0,
            expr_next c clock (held_at Second m) (part Second W) ok.1 (judged_of s c r.0 r.3) k.1 g.1.1 w.1.1,
          )
      expr_next (choose a b c d) clock m W ok j k g w =
          let r = if_typed (type_of s b) (type_of s c) (type_of s d) j.0 j.1 in (
            expr_next b clock (held_at First m) (part First W) ok.0 (judged_of s b ty.Bool r.0) k.0 g.0 w.1.0,
            (
              expr_next c clock (held_at Second m) (part Second W) ok.1.0 (judged_of s c j.0 r.1) k.1.0 g.1.0 w.1.1.0,
              expr_next d clock (held_at Third m) (part Third W) ok.1.1 (judged_of s d j.0 r.2) k.1.1 g.1.1 w.1.1.1,
            ),
          )
      expr_next (pre a b) clock m W ok j k g w = (
        k.0,
        (
          either_of (HasWire types (type_of s b)) (holds types clock names) (W (First ∷ [])) (top m.memory) (wire_as types (type_of s b) j.0 (W (First ∷ [])) j.1 (top_is types typed s b j.0 (part First W) j.1 w.1)) k.1.0,
          expr_next b clock (held_at First m) (part First W) ok (judged_of s b j.0 j.1) k.1.1 g w.1,
        ),
      )
      expr_next (fby a b c) clock m W ok j k g w =
          let r = pair_typed (type_of s b) (type_of s c) j.0 j.1 in (
            k.0,
            (
              either_of (HasWire types (type_of s b)) (holds types clock names) (W (Second ∷ [])) (top m.memory) (wire_as types (type_of s b) j.0 (W (Second ∷ [])) r.0 (top_is types typed s c j.0 (part Second W) r.1 w.1.1)) k.1.0,
              (
                either_of IsFlag (holds types clock names) (B true) (m.memory (Fresh ∷ [])) (true, refl) k.1.1.0,
                (
                  expr_next b clock (held_at First m) (part First W) ok.0 (judged_of s b j.0 r.0) k.1.1.1.0 g.0 w.1.0,
                  expr_next c clock (held_at Second m) (part Second W) ok.1 (judged_of s c j.0 r.1) k.1.1.1.1 g.1 w.1.1,
                ),
              ),
            ),
          )
      expr_next (arrow a b c) clock m W ok j k g w =
          let r = pair_typed (type_of s b) (type_of s c) j.0 j.1 in (
            either_of IsFlag (holds types clock names) (B true) (m.memory (Fresh ∷ [])) (true, refl) k.0,
            (
              expr_next b clock (held_at First m) (part First W) ok.0 (judged_of s b j.0 r.0) k.1.0 g.0 w.1.0,
              expr_next c clock (held_at Second m) (part Second W) ok.1 (judged_of s c j.0 r.1) k.1.1 g.1 w.1.1,
            ),
          )
      expr_next (when_is a b c x) clock m W ok j k g w =
          let r = when_typed _ (type_of s b) j.0 j.1 in
          expr_next b (without clock) (held_at First m) (part First W) ok (judged_of s b j.0 r) k g w.1
      expr_next (merge a x ps) clock m W ok j k g w =
          let has = merge_typed s (lookup s.variables x) ps j.0 j.1 in
          parts_next ps x clock j.0 (held_at Args m) (part Args W) ok.1 has k g w.1
      expr_next (call a f inl es) clock m W ok j k g w = (
        exprs_next es clock j.0.inputs (held_at Args m) (part Args W) ok.1 j.1.1 k.0 g.0 w.1.0,
        either_of (kept f (part Instance m.start)) (holds types clock names) (C.next f (values_of es (part Args W)) (held_at Instance m) (part Instance W)) (part Instance m.memory)
            (K.next f j.0 (values_of es (part Args W)) (held_at Instance m) (part Instance W) (sym ok.0 ∙ j.1.0) (values_typed s es j.0.inputs (part Args W) j.1.1 w.1.0) k.1 g.1 w.1.1)
            k.1,
      )

      pub exprs_next : (es : Exprs) (clock : Clock) (ds : List Decl) (m : Held) (W : Instant) → ExprsSound types among s lasts es → IsTrue (args_fit ds (types_in s es)) → ExprsKept types kept s es m.start m.memory → ExprsGiven types given s es m.free → ExprsTyped types typed s es W → ExprsKept types kept s es m.start (in_row (next_all types C es clock names m W))
      exprs_next no_expr clock ds m W ok h k g w = tt
      exprs_next (more_exprs e es) clock [] m W ok h k g w = absurd (cc)
      exprs_next (more_exprs e es) clock (d ∷ ds) m W ok h k g w =
          let r = arg_typed d ds (type_of s e) (types_in s es) h in (
            expr_next e clock (held_at Head m) (part Head W) ok.0 (judged_of s e d.ty r.0) k.0 g.0 w.0,
            exprs_next es clock ds (held_at Tail m) (part Tail W) ok.1 r.1 k.1 g.1 w.1,
          )

      pub parts_next : (ps : Parts) (x : List ℕ) (clock : Clock) (t : Ty) (m : Held) (W : Instant) → PartsSound types among s lasts ps → PartsHave s t ps → PartsKept types kept s ps m.start m.memory → PartsGiven types given s ps m.free → PartsTyped types typed s ps W → PartsKept types kept s ps m.start (in_row (next_parts types C ps x clock names m W))
      parts_next no_part x clock t m W ok h k g w = tt
      parts_next (more_parts c e ps) x clock t m W ok h k g w = (
        expr_next e ((c, x) ∷ clock) (held_at Head m) (part Head W) ok.0 (judged_of s e t h.0) k.0 g.0 w.0,
        parts_next ps x clock t (held_at Tail m) (part Tail W) ok.1 h.1 k.1 g.1 w.1,
      )

    pub tests_next : (ts : List Trans) (m : Held) (W : Instant) → TestsSound types among s lasts ts → TestsKept types kept s ts m.start m.memory → TestsGiven types given s ts m.free → TestsTyped types typed s ts W → TestsKept types kept s ts m.start (in_row (next_conditions types C ts names m W))
    tests_next [] m W ok k g w = tt
    tests_next (t ∷ ts) m W ok k g w = (
      expr_next t.cond [] (held_at Head m) (part Head W) ok.0.0 (judged_of s t.cond ty.Bool ok.0.1) k.0 g.0 w.0,
      tests_next ts (held_at Tail m) (part Tail W) ok.1 k.1 g.1 w.1,
    )

  -- ---- the memory at the start

  module _ (s : Scope) (lasts : Lasts) where
    mutual
      pub expr_begins : (e : Expr) (start mem : Instant) → ExprSound types among s lasts e → IsJudged s e → ExprKept types kept s e start mem → ExprKept types kept s e start (remembers types C.remembers e start [])
      expr_begins (constant a c) start mem ok j k = tt
      expr_begins (variable a x) start mem ok j k = tt
      expr_begins (last_of a x) start mem ok j k = tt
      expr_begins (one a o b) start mem ok j k =
          let r = one_typed (type_of_one o) (type_of s b) j.0 j.1 in
          expr_begins b (part First start) (part First mem) ok (judged_of s b (type_of_one o) r.0) k
      expr_begins (two a o b c) start mem ok j k =
          let r = two_typed o (type_of s b) (type_of s c) j.0 j.1 in
          (expr_begins b (part First start) (part First mem) ok.0 (judged_of s b r.0 r.2) k.0, expr_begins c (part Second start) (part Second mem) ok.1 (judged_of s c r.0 r.3) k.1)
      expr_begins (choose a b c d) start mem ok j k =
          let r = if_typed (type_of s b) (type_of s c) (type_of s d) j.0 j.1 in (
            expr_begins b (part First start) (part First mem) ok.0 (judged_of s b ty.Bool r.0) k.0,
            (expr_begins c (part Second start) (part Second mem) ok.1.0 (judged_of s c j.0 r.1) k.1.0, expr_begins d (part Third start) (part Third mem) ok.1.1 (judged_of s d j.0 r.2) k.1.1),
          )
      expr_begins (pre a b) start mem ok j k = (k.0, (k.0, expr_begins b (part First start) (part First mem) ok (judged_of s b j.0 j.1) k.1.1))
      expr_begins (fby a b c) start mem ok j k =
          let r = pair_typed (type_of s b) (type_of s c) j.0 j.1 in (
            k.0,
            (
              k.0,
              (
                (false, refl),
                (
                  expr_begins b (part First start) (part First mem) ok.0 (judged_of s b j.0 r.0) k.1.1.1.0,
                  expr_begins c (part Second start) (part Second mem) ok.1 (judged_of s c j.0 r.1) k.1.1.1.1,
                ),
              ),
            ),
          )
      expr_begins (arrow a b c) start mem ok j k =
          let r = pair_typed (type_of s b) (type_of s c) j.0 j.1 in (
            (false, refl),
            (expr_begins b (part First start) (part First mem) ok.0 (judged_of s b j.0 r.0) k.1.0, expr_begins c (part Second start) (part Second mem) ok.1 (judged_of s c j.0 r.1) k.1.1),
          )
      expr_begins (when_is a b c x) start mem ok j k =
          let r = when_typed _ (type_of s b) j.0 j.1 in
          expr_begins b (part First start) (part First mem) ok (judged_of s b j.0 r) k
      expr_begins (merge a x ps) start mem ok j k =
          let has = merge_typed s (lookup s.variables x) ps j.0 j.1 in
          parts_begins ps j.0 (part Args start) (part Args mem) ok.1 has k
      expr_begins (call a f inl es) start mem ok j k =
          (exprs_begins es j.0.inputs (part Args start) (part Args mem) ok.1 j.1.1 k.0, K.begins f j.0 (part Instance start) (part Instance mem) (sym ok.0 ∙ j.1.0) k.1)

      pub exprs_begins : (es : Exprs) (ds : List Decl) (start mem : Instant) → ExprsSound types among s lasts es → IsTrue (args_fit ds (types_in s es)) → ExprsKept types kept s es start mem → ExprsKept types kept s es start (in_row (remembers_all types C.remembers es start []))
      exprs_begins no_expr ds start mem ok h k = tt
      exprs_begins (more_exprs e es) [] start mem ok h k = absurd (cc)
      exprs_begins (more_exprs e es) (d ∷ ds) start mem ok h k =
          let r = arg_typed d ds (type_of s e) (types_in s es) h in
          (expr_begins e (part Head start) (part Head mem) ok.0 (judged_of s e d.ty r.0) k.0, exprs_begins es ds (part Tail start) (part Tail mem) ok.1 r.1 k.1)

      pub parts_begins : (ps : Parts) (t : Ty) (start mem : Instant) → PartsSound types among s lasts ps → PartsHave s t ps → PartsKept types kept s ps start mem → PartsKept types kept s ps start (in_row (remembers_parts types C.remembers ps start []))
      parts_begins no_part t start mem ok h k = tt
      parts_begins (more_parts c e ps) t start mem ok h k =
          (expr_begins e (part Head start) (part Head mem) ok.0 (judged_of s e t h.0) k.0, parts_begins ps t (part Tail start) (part Tail mem) ok.1 h.1 k.1)

    pub tests_begin : (ts : List Trans) (start mem : Instant) → TestsSound types among s lasts ts → TestsKept types kept s ts start mem → TestsKept types kept s ts start (in_row (remembers_conditions types C.remembers ts start []))
    tests_begin [] start mem ok k = tt
    tests_begin (t ∷ ts) start mem ok k =
        (expr_begins t.cond (part Head start) (part Head mem) ok.0.0 (judged_of s t.cond ty.Bool ok.0.1) k.0, tests_begin ts (part Tail start) (part Tail mem) ok.1 k.1)
