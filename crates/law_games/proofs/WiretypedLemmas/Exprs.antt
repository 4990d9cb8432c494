-- The wires of a typed expression are typed, where names, registers and what is given are.
use Rattle.std.proofs.Common.{◌≡◌, ℕ, List, [], ◌∷◌, map, refl, sym, subst, ◌∙◌}
use Rattle.std.specs.Prelude.{Bool, true, false, ◌||◌, IsTrue, if◌then◌else◌, Option, None, Some}
use Rattle.hp_base.specs.declared.ty.Ty.{Ty}
use Rattle.hp_base.specs.declared.ty.Ty.TheVariants as ty
use Rattle.hp_base.specs.declared.value.Value.{Value}
use Rattle.hp_base.specs.declared.value.Value.TheVariants.{Absent}
use Rattle.hp_tree.specs.declared.block.Trans.{Trans}
use Rattle.hp_tree.specs.Expressions.{Expr, constant, variable, last_of, one, two, choose, pre, fby, arrow, when_is, merge, call, Exprs, no_expr, more_exprs, Parts, no_part, more_parts}
use Rattle.hp_tree.specs.Blocks.{Decl}
use Rattle.hp_tree.specs.Programs.{TypeDecl, Node}
use Rattle.hp_tree.specs.Operators.{one_marked, two_marked, if_of, is_cons, is_true, marked, constant_of}
use Rattle.hp_tree.specs.Instant.{Fresh, Head, Tail, First, Second, Third, Args, Instance, Instant, part, top, in_row, Clock, without}
use Rattle.hp_tree.specs.Meaning.{Names, names_of, only_output}
use Rattle.hp_base.specs.Known.Known.{lookup}
use Rattle.hp_typing.specs.Types.{type_of, types_in, type_of_one, input_type, args_fit}
use Rattle.law_judged.specs.Typed.Scopes.{Scope}
use Rattle.hp_meaning.specs.Causal.Clocked.{Standing, IsOn, ExprsOn, PartsOn, ConditionsOn}
use Rattle.law_values.specs.Valued.Judged.{Lasts, of_parts, CoversType, ExprSound, ExprsSound, PartsSound, TestsSound}
use Rattle.law_values.specs.Valued.Fitting.{first_output, value_type}
use Rattle.law_values.proofs.ValuedLemmas.Typed.{one_typed, two_typed, if_typed, pair_typed, when_typed, call_typed, merge_typed, PartsHave, arg_typed}
use Rattle.law_games.specs.Wires.Wired.{Held, held_at, Callees, blank, picked, has_part, wired, wired_all, wired_parts}
use Rattle.law_games.specs.Wires.WiredBlocks.{wired_conditions}
use Rattle.law_games.specs.Wiretyped.Typed.{IsWire, HasWire, AreWires, OutputsTyped, ExprTyped, ExprsTyped, PartsTyped, TestsTyped}
use Rattle.law_games.specs.Wiretyped.Kept.{ComparisonGiven, ExprKept, ExprsKept, PartsKept, TestsKept, ExprGiven, ExprsGiven, PartsGiven, TestsGiven}
use Rattle.law_games.proofs.WiretypedLemmas.Values.{either, marked_wire, one_wire, two_wire, if_wire, wire_covered, part_of}

-- What is known of the nodes that may be called: which wires of an instance are typed, which registers are in shape, and what given values fit.
pub record CalleesTyped (types : List TypeDecl) (C : Callees) (among : List ℕ → Option Node) (typed : List ℕ → Instant → Type 0) (kept : List ℕ → Instant → Instant → Type 0) (given : List ℕ → Instant → Type 0) : Type 0 where
  pub outputs : (f : List ℕ) (n : Node) (start mem : Instant) → among f ≡ Some n → kept f start mem → C.outputs f ≡ names_of n.outputs
  pub gives : (f : List ℕ) (n : Node) (i : Instant) → among f ≡ Some n → typed f i → OutputsTyped types n.outputs i
  pub wires : (f : List ℕ) (n : Node) (ins : List Value) (m : Held) (now : Instant) → among f ≡ Some n → AreWires types n.inputs ins → kept f m.start m.memory → given f m.free → typed f now → typed f (C.wired f ins m now)
  pub sound : (f : List ℕ) (n : Node) (ins : List Value) (m : Held) (now : Instant) → among f ≡ Some n → AreWires types n.inputs ins → kept f m.start m.memory → given f m.free → typed f now → C.sound f ins m now
  pub next : (f : List ℕ) (n : Node) (ins : List Value) (m : Held) (now : Instant) → among f ≡ Some n → AreWires types n.inputs ins → kept f m.start m.memory → given f m.free → typed f now → kept f m.start (C.next f ins m now)
  pub begins : (f : List ℕ) (n : Node) (start mem : Instant) → among f ≡ Some n → kept f start mem → kept f start (C.remembers f start [])

-- the names that may be read, and last values, have values of their types
abbrev pub NamesAre : List TypeDecl → Scope → Standing → Names → Type 0
NamesAre types s st names = (x : List ℕ) (c : Clock) (t : Ty) → st x ≡ Some c → lookup s.variables x ≡ Some t → IsWire types t (names x)

abbrev pub LastsAre : List TypeDecl → Scope → Lasts → Names → Type 0
LastsAre types s lasts last = (x : List ℕ) → IsTrue (lasts x) → (t : Ty) × ((lookup s.variables x ≡ Some t) × IsWire types t (last x))

pub wire_as : (types : List TypeDecl) (o : Option Ty) (t : Ty) (v : Value) → o ≡ Some t → IsWire types t v → HasWire types o v
wire_as types o t v e h = subst (λ o. HasWire types o v) (sym e) h

pub as_wire : (types : List TypeDecl) (o : Option Ty) (t : Ty) (v : Value) → o ≡ Some t → HasWire types o v → IsWire types t v
as_wire types o t v e h = subst (λ o. HasWire types o v) e h

pub value_is : (s : Scope) (e : Expr) (t : Ty) → type_of s e ≡ Some t → value_type s e ≡ Some t
value_is s (call a f i es) t h = (call_typed (lookup s.nodes f) (types_in s es) t h).3
value_is s (constant a c) t h = h
value_is s (variable a x) t h = h
value_is s (last_of a x) t h = h
value_is s (one a o b) t h = h
value_is s (two a o b c) t h = h
value_is s (choose a b c d) t h = h
value_is s (pre a b) t h = h
value_is s (fby a b c) t h = h
value_is s (arrow a b c) t h = h
value_is s (when_is a b c x) t h = h
value_is s (merge a x ps) t h = h

module _ (types : List TypeDecl) (typed : List ℕ → Instant → Type 0) (s : Scope) where
  pub top_typed : (e : Expr) (i : Instant) → ExprTyped types typed s e i → HasWire types (value_type s e) (top i)
  top_typed (constant a c) i h = h
  top_typed (variable a x) i h = h
  top_typed (last_of a x) i h = h
  top_typed (one a o b) i h = h.0
  top_typed (two a o b c) i h = h.0
  top_typed (choose a b c d) i h = h.0
  top_typed (pre a b) i h = h.0
  top_typed (fby a b c) i h = h.0
  top_typed (arrow a b c) i h = h.0
  top_typed (when_is a b c x) i h = h.0
  top_typed (merge a x ps) i h = h.0
  top_typed (call a f j es) i h = h.0

  pub top_is : (e : Expr) (t : Ty) (i : Instant) → type_of s e ≡ Some t → ExprTyped types typed s e i → IsWire types t (top i)
  top_is e t i h k = as_wire types (value_type s e) t (top i) (value_is s e t h) (top_typed e i k)

only_typed : (types : List TypeDecl) (os : List (List ℕ)) (ds : List Decl) (i : Instant) → os ≡ names_of ds → OutputsTyped types ds i → HasWire types (input_type ds) (only_output os i)
only_typed types os [] i e o = tt
only_typed types os (d ∷ ds) i e o = subst (λ z. IsWire types d.ty (only_output z i)) (sym e) o.0

-- a merge has a part for the value of its name
pub part_there : (types : List TypeDecl) (s : Scope) (st : Standing) (names : Names) (x : List ℕ) (clock : Clock) (ps : Parts) → NamesAre types s st names → st x ≡ Some clock → CoversType types (lookup s.variables x) (of_parts ps) → IsTrue (has_part types ps (names x))
part_there types s st names x clock ps nk on g = by (lookup s.variables x) refl g
  where
    by : (o : Option Ty) → lookup s.variables x ≡ o → CoversType types o (of_parts ps) → IsTrue (has_part types ps (names x))
    by None e g = absurd g
    by (Some t) e g = sym (part_of types ps (names x)) ∙ wire_covered types t (names x) (of_parts ps) (nk x clock t on e) g

module _ (types : List TypeDecl) (C : Callees) (among : List ℕ → Option Node) (typed : List ℕ → Instant → Type 0) (kept : List ℕ → Instant → Instant → Type 0) (given : List ℕ → Instant → Type 0) (K : CalleesTyped types C among typed kept given) where
  module _ (s : Scope) (st : Standing) (lasts : Lasts) (names last : Names) (nk : NamesAre types s st names) (lk : LastsAre types s lasts last) where
    -- the part that is taken
    picked_typed : (t : Ty) (d : Value) (ps : Parts) (v : Value) (m : Held) (now : Instant) → PartsHave s t ps → IsTrue (has_part types ps v) → PartsTyped types typed s ps (in_row (wired_parts types C ps names last m now)) → IsWire types t (picked types d ps v (wired_parts types C ps names last m now))
    picked_typed t d no_part v m now has h k = absurd (cc)
    picked_typed t d (more_parts c e ps) v m now has h k =
        by (is_cons types v c) (λ g. picked_typed t (blank (top (wired types C e names last (held_at Head m) (part Head now)))) ps v (held_at Tail m) (part Tail now) has.1 g k.1) h
      where
        by : (b : Bool) → (IsTrue (has_part types ps v) → IsWire types t (picked types (blank (top (wired types C e names last (held_at Head m) (part Head now)))) ps v (wired_parts types C ps names last (held_at Tail m) (part Tail now)))) → IsTrue (b || has_part types ps v)
            → IsWire types t (if b then top (wired types C e names last (held_at Head m) (part Head now)) else picked types (blank (top (wired types C e names last (held_at Head m) (part Head now)))) ps v (wired_parts types C ps names last (held_at Tail m) (part Tail now)))
        by true f g = top_is types typed s e t (wired types C e names last (held_at Head m) (part Head now)) has.0 k.0
        by false f g = f g

    -- an instance, whose arguments fit
    pub call_wires : (a : _) (f : List ℕ) (inl : Bool) (es : Exprs) (n : Node) (m : Held) (now : Instant) → lookup s.nodes f ≡ Some n → lookup s.nodes f ≡ among f → ExprsTyped types typed s es (in_row (wired_all types C es names last (held_at Args m) (part Args now))) → AreWires types n.inputs (map top (wired_all types C es names last (held_at Args m) (part Args now))) → kept f (part Instance m.start) (part Instance m.memory) → given f (part Instance m.free) → typed f (part Instance now) → ExprTyped types typed s (call a f inl es) (wired types C (call a f inl es) names last m now)
    call_wires a f inl es n m now e same k ins kf gf now' =
        let am : among f ≡ Some n = sym same ∙ e in
        let w = K.wires f n (map top (wired_all types C es names last (held_at Args m) (part Args now))) (held_at Instance m) (part Instance now) am ins kf gf now' in (
          subst (λ o. HasWire types (first_output o) (only_output (C.outputs f) (C.wired f (map top (wired_all types C es names last (held_at Args m) (part Args now))) (held_at Instance m) (part Instance now)))) (sym e)
              (only_typed types (C.outputs f) n.outputs (C.wired f (map top (wired_all types C es names last (held_at Args m) (part Args now))) (held_at Instance m) (part Instance now)) (K.outputs f n (part Instance m.start) (part Instance m.memory) am kf) (K.gives f n _ am w)),
          (k, w),
        )

    mutual
      pub expr_wires : (e : Expr) (clock : Clock) (t : Ty) (m : Held) (now : Instant) → IsOn st e clock → ExprSound types among s lasts e → type_of s e ≡ Some t → ExprKept types kept s e m.start m.memory → ExprGiven types given s e m.free → ExprTyped types typed s e now → ExprTyped types typed s e (wired types C e names last m now)
      expr_wires (constant a c) clock t m now on ok h k g w = wire_as types (type_of s (constant a c)) t (marked (constant_of types c)) h (marked_wire types t (constant_of types c) (ok t h))
      expr_wires (variable a x) clock t m now on ok h k g w = wire_as types (lookup s.variables x) t (names x) h (nk x clock t on h)
      expr_wires (last_of a x) clock t m now on ok h k g w = let l = lk x ok in wire_as types (lookup s.variables x) l.0 (last x) l.1.0 l.1.1
      expr_wires (one a o b) clock t m now on ok h k g w =
          let r = one_typed (type_of_one o) (type_of s b) t h in
          let i = wired types C b names last (held_at First m) (part First now) in
          let ih = expr_wires b clock (type_of_one o) (held_at First m) (part First now) on ok r.0 k g w.1 in
          (wire_as types (type_of s (one a o b)) t (one_marked o (top i)) h (subst (λ t. IsWire types t (one_marked o (top i))) r.1 (one_wire types o (top i) (top_is types typed s b (type_of_one o) i r.0 ih))), ih)
      expr_wires (two a o b c) clock t m now on ok h k g w =
          let r = two_typed o (type_of s b) (type_of s c) t h in
          let i = wired types C b names last (held_at First m) (part First now) in
          let j = wired types C c names last (held_at Second m) (part Second now) in
          let ib = expr_wires b clock r.0 (held_at First m) (part First now) on.0 ok.0 r.2 k.0 g.1.0 w.1.0 in
          let ic = expr_wires c clock r.0 (held_at Second m) (part Second now) on.1 ok.1 r.3 k.1 g.1.1 w.1.1 in (
            wire_as types (type_of s (two a o b c)) t (two_marked o (top m.free) (top i) (top j)) h
                (subst (λ t. IsWire types t (two_marked o (top m.free) (top i) (top j))) r.4
                (two_wire types o r.0 (top m.free) (top i) (top j) r.1 (subst (λ z. ComparisonGiven o z (top m.free)) r.2 g.0) (top_is types typed s b r.0 i r.2 ib) (top_is types typed s c r.0 j r.3 ic))),
            (ib, ic),
          )
      expr_wires (choose a b c d) clock t m now on ok h k g w =
          let r = if_typed (type_of s b) (type_of s c) (type_of s d) t h in
          let i = wired types C b names last (held_at First m) (part First now) in
          let j = wired types C c names last (held_at Second m) (part Second now) in
          let l = wired types C d names last (held_at Third m) (part Third now) in
          let ib = expr_wires b clock ty.Bool (held_at First m) (part First now) on.0 ok.0 r.0 k.0 g.0 w.1.0 in
          let ic = expr_wires c clock t (held_at Second m) (part Second now) on.1 ok.1.0 r.1 k.1.0 g.1.0 w.1.1.0 in
          let id = expr_wires d clock t (held_at Third m) (part Third now) on.2 ok.1.1 r.2 k.1.1 g.1.1 w.1.1.1 in (
            wire_as types (type_of s (choose a b c d)) t (if_of (top i) (top j) (top l)) h
                (if_wire types t (top i) (top j) (top l) (top_is types typed s b ty.Bool i r.0 ib) (top_is types typed s c t j r.1 ic) (top_is types typed s d t l r.2 id)),
            (ib, (ic, id)),
          )
      expr_wires (pre a b) clock t m now on ok h k g w = (k.1.0, expr_wires b clock t (held_at First m) (part First now) on ok h k.1.1 g w.1)
      expr_wires (fby a b c) clock t m now on ok h k g w =
          let r = pair_typed (type_of s b) (type_of s c) t h in
          let i = wired types C b names last (held_at First m) (part First now) in
          let ib = expr_wires b clock t (held_at First m) (part First now) on.0 ok.0 r.0 k.1.1.1.0 g.0 w.1.0 in (
            wire_as types (type_of s (fby a b c)) t (if is_true (m.memory (Fresh ∷ [])) then top m.memory else top i) h
                (either (IsWire types t) (is_true (m.memory (Fresh ∷ []))) (top m.memory) (top i) (as_wire types (type_of s b) t (top m.memory) r.0 k.1.0) (top_is types typed s b t i r.0 ib)),
            (ib, expr_wires c clock t (held_at Second m) (part Second now) on.1 ok.1 r.1 k.1.1.1.1 g.1 w.1.1),
          )
      expr_wires (arrow a b c) clock t m now on ok h k g w =
          let r = pair_typed (type_of s b) (type_of s c) t h in
          let i = wired types C b names last (held_at First m) (part First now) in
          let j = wired types C c names last (held_at Second m) (part Second now) in
          let ib = expr_wires b clock t (held_at First m) (part First now) on.0 ok.0 r.0 k.1.0 g.0 w.1.0 in
          let ic = expr_wires c clock t (held_at Second m) (part Second now) on.1 ok.1 r.1 k.1.1 g.1 w.1.1 in (
            wire_as types (type_of s (arrow a b c)) t (if is_true (m.memory (Fresh ∷ [])) then top j else top i) h
                (either (IsWire types t) (is_true (m.memory (Fresh ∷ []))) (top j) (top i) (top_is types typed s c t j r.1 ic) (top_is types typed s b t i r.0 ib)),
            (ib, ic),
          )
      expr_wires (when_is a b c x) clock t m now on ok h k g w =
          let r = when_typed _ (type_of s b) t h in
          let i = wired types C b names last (held_at First m) (part First now) in
          let ib = expr_wires b (without clock) t (held_at First m) (part First now) on.2 ok r k g w.1 in
          (wire_as types (type_of s (when_is a b c x)) t (top i) h (top_is types typed s b t i r ib), ib)
      expr_wires (merge a x ps) clock t m now on ok h k g w =
          let has = merge_typed s (lookup s.variables x) ps t h in
          let ih = parts_wires ps x clock t (held_at Args m) (part Args now) on.1 ok.1 has k g w.1 in (
            wire_as types (type_of s (merge a x ps)) t (picked types Absent ps (names x) (wired_parts types C ps names last (held_at Args m) (part Args now))) h
                (picked_typed t Absent ps (names x) (held_at Args m) (part Args now) has (part_there types s st names x clock ps nk on.0 ok.0) ih),
            ih,
          )
      expr_wires (call a f inl es) clock t m now on ok h k g w =
          let r = call_typed (lookup s.nodes f) (types_in s es) t h in
          let ih = exprs_wires es clock r.0.inputs (held_at Args m) (part Args now) on ok.1 r.2 k.0 g.0 w.1.0 in
          call_wires a f inl es r.0 m now r.1 ok.0 ih.0 ih.1 k.1 g.1 w.1.1

      pub exprs_wires : (es : Exprs) (clock : Clock) (ds : List Decl) (m : Held) (now : Instant) → ExprsOn st es clock → ExprsSound types among s lasts es → IsTrue (args_fit ds (types_in s es)) → ExprsKept types kept s es m.start m.memory → ExprsGiven types given s es m.free → ExprsTyped types typed s es now → ExprsTyped types typed s es (in_row (wired_all types C es names last m now)) × AreWires types ds (map top (wired_all types C es names last m now))
      exprs_wires no_expr clock [] m now on ok h k g w = (tt, tt)
      exprs_wires no_expr clock (d ∷ ds) m now on ok h k g w = absurd (cc)
      exprs_wires (more_exprs e es) clock [] m now on ok h k g w = absurd (cc)
      exprs_wires (more_exprs e es) clock (d ∷ ds) m now on ok h k g w =
          let r = arg_typed d ds (type_of s e) (types_in s es) h in
          let ie = expr_wires e clock d.ty (held_at Head m) (part Head now) on.0 ok.0 r.0 k.0 g.0 w.0 in
          let is = exprs_wires es clock ds (held_at Tail m) (part Tail now) on.1 ok.1 r.1 k.1 g.1 w.1 in
          ((ie, is.0), (top_is types typed s e d.ty (wired types C e names last (held_at Head m) (part Head now)) r.0 ie, is.1))

      pub parts_wires : (ps : Parts) (x : List ℕ) (clock : Clock) (t : Ty) (m : Held) (now : Instant) → PartsOn st x ps clock → PartsSound types among s lasts ps → PartsHave s t ps → PartsKept types kept s ps m.start m.memory → PartsGiven types given s ps m.free → PartsTyped types typed s ps now → PartsTyped types typed s ps (in_row (wired_parts types C ps names last m now))
      parts_wires no_part x clock t m now on ok h k g w = tt
      parts_wires (more_parts c e ps) x clock t m now on ok h k g w =
          (expr_wires e ((c, x) ∷ clock) t (held_at Head m) (part Head now) on.0 ok.0 h.0 k.0 g.0 w.0, parts_wires ps x clock t (held_at Tail m) (part Tail now) on.1 ok.1 h.1 k.1 g.1 w.1)

    pub tests_wires : (ts : List Trans) (m : Held) (now : Instant) → ConditionsOn st ts → TestsSound types among s lasts ts → TestsKept types kept s ts m.start m.memory → TestsGiven types given s ts m.free → TestsTyped types typed s ts now → TestsTyped types typed s ts (in_row (wired_conditions types C ts names last m now))
    tests_wires [] m now on ok k g w = tt
    tests_wires (t ∷ ts) m now on ok k g w =
        (expr_wires t.cond [] ty.Bool (held_at Head m) (part Head now) on.0 ok.0.0 ok.0.1 k.0 g.0 w.0, tests_wires ts (held_at Tail m) (part Tail now) on.1 ok.1 k.1 g.1 w.1)
