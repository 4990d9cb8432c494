-- What an expression says in the abstraction and in the one without Nil agrees, where the names and the pasts that it reads do.
use Rattle.std.proofs.Common.{◌≡◌, ℕ, List, [], ◌∷◌, map, refl, sym, ap, ap₂, subst, ◌∙◌}
use Rattle.std.specs.Prelude.{⊤, Bool, true, false, ◌&&◌, IsTrue, IsFalse, if◌then◌else◌, Option, None, Some}
use Rattle.hp_base.specs.declared.span.Span.{Span}
use Rattle.hp_base.specs.declared.ty.Ty.{Ty}
use Rattle.hp_base.specs.declared.ty.Ty.TheVariants as ty
use Rattle.hp_base.specs.declared.ty.Const.TheVariants as const
use Rattle.hp_base.specs.declared.value.Value.{Value}
use Rattle.hp_base.specs.declared.value.Value.TheVariants.{Absent, Nil, B}
use Rattle.hp_tree.specs.declared.block.Trans.{Trans}
use Rattle.hp_tree.specs.Expressions.{Expr, constant, variable, last_of, one, two, choose, pre, fby, arrow, when_is, merge, call, Exprs, no_expr, more_exprs, Parts, no_part, more_parts}
use Rattle.hp_tree.specs.Blocks.{Decl}
use Rattle.hp_tree.specs.Programs.{TypeDecl, Node}
use Rattle.hp_tree.specs.Operators.{abstraction, marked, is_cons, if_of, one_marked, two_marked, constant_of}
use Rattle.law_games.specs.Wires.Wired.{filled_abstraction}
use Rattle.law_games.specs.Wiretyped.Kept.{ComparisonGiven}
use Rattle.hp_tree.specs.Instant.{Named, Fresh, Head, Tail, First, Second, Third, Args, Instance, Place, Instant, Past, Given, at, part, parts, in_row, with_instance, top, since, newest, at_first, nothing, Clock, holds, without, with_two}
use Rattle.hp_tree.specs.Meaning.{Names, Nodes, names_of, expr, exprs, merged, conditions, only_output}
use Rattle.hp_tree.specs.Values.{IsOf}
use Rattle.hp_tree.specs.Reaction.{Each}
use Rattle.hp_base.specs.Known.Known.{lookup}
use Rattle.hp_typing.specs.Types.{type_of, types_in, type_of_one, answer, enum_of, args_fit, input_type, merge_type}
use Rattle.law_judged.specs.Typed.Scopes.{Scope}
use Rattle.hp_meaning.proofs.CausalLemmas.Choices.{chosen}
use Rattle.hp_init.specs.Classes.{Classes, is_second}
use Rattle.law_values.specs.Valued.Judged.{Lasts}
use Rattle.law_games.specs.Abstracted.Fitting.{HasValue, Fits, Presence, value_type, first_output, IsThere, TopFits, ExprFits, ExprsFit, PartsFit, TestsFit, OutputsFit}
use Rattle.law_games.specs.Abstracted.Given.{UndefinedFits, ExprGiven, ExprsGiven, PartsGiven, TestsGiven}
use Rattle.law_values.proofs.ValuedLemmas.Both.{ExprOk, ExprsOk, PartsOk, TestsOk}
use Rattle.law_games.proofs.AbstractedLemmas.Laws.{never_nil, Along}
use Rattle.law_values.proofs.ValuedLemmas.Typed.{some_is, one_typed, two_typed, if_typed, pair_typed, when_typed, call_typed, merge_typed, PartsHave, arg_typed}
use Rattle.law_games.proofs.AbstractedLemmas.ExprTops.{along_part, along_same, own_all}
use Rattle.law_games.proofs.AbstractedLemmas.BlockNames.{each_part}
use Rattle.law_values.specs.Filled.Firsts.{HasFirst, DeclsHaveFirsts}
use Rattle.law_games.specs.Abstracted.SameGiven.{SameGiven}
use Rattle.law_values.proofs.FilledLemmas.Values.{first_from}
use Rattle.law_values.proofs.FilledLemmas.TypesAgree.{answer_first}
use Rattle.law_values.proofs.FilledLemmas.FirstsFit.{as_given}
use Rattle.law_games.proofs.AbstractedLemmas.Marked.{Marks, mark, Agree, AllAgree, PastsAgree, of_none, to_none, loose, strict, no_mark, unmarked, as_type, if_agrees, alone_agrees, one_agrees, two_agrees, three_agrees, row_agrees, merge_agrees, call_agrees, past_part, past_own, same_tops}
use Rattle.law_games.proofs.AbstractedLemmas.Operators.{one_agree, two_agree, if_agree, newest_agree, first_agree, fby_agree}
use Rattle.law_values.proofs.FilledLemmas.Places.{in_exprs, in_parts, of_expr, of_tests}
use Rattle.law_values.specs.Accepted.ClocksFirst.{AllFirst}

-- an instance of each node, whatever the instant is
abbrev pub Solved : Type 0
Solved = List ℕ → List Value → Given → Instant

abbrev pub by : (List ℕ → List (List ℕ)) → Solved → Nodes
by outputs S = record { outputs = outputs; instant = λ f inputs g now. S f inputs g }

-- names as an expression reads them
abbrev pub NamesAgree : List TypeDecl → Scope → Classes → Names → Names → Type 0
NamesAgree types s second names names' = (x : List ℕ) → Agree types (mark (second x) (lookup s.variables x)) (names x) (names' x)

-- Each variable is of a type with a first value.
abbrev pub HaveFirsts : List TypeDecl → Scope → Type 0
HaveFirsts types s = (x : List ℕ) (t : Ty) → lookup s.variables x ≡ Some t → HasFirst types t

-- What is known of the nodes that may be called: N in the abstraction, S in the one without Nil, and T their marks.
pub record Callees (types : List TypeDecl) (N : Nodes) (S : Solved) (among : List ℕ → Option Node) (fits given : List ℕ → Instant → Type 0) (T : List ℕ → Marks) : Type 0 where
  pub firsts : (f : List ℕ) (n : Node) → among f ≡ Some n → DeclsHaveFirsts types n.outputs
  pub outputs : (f : List ℕ) (n : Node) → among f ≡ Some n → N.outputs f ≡ names_of n.outputs
  pub gives : (f : List ℕ) (n : Node) (i : Instant) → among f ≡ Some n → fits f i → OutputsFit types n.outputs i
  pub fresh : (f : List ℕ) (n : Node) (inputs : List Value) (g : Given) (i : Instant) → among f ≡ Some n → N.instant f inputs g i (Fresh ∷ []) ≡ B false
  pub named : (f x : List ℕ) → T f (Named x ∷ []) ≡ None
  pub word : (f : List ℕ) → T f (Fresh ∷ []) ≡ None
  pub agree : (f : List ℕ) (n : Node) (inputs : List Value) (g g' : Given) (i : Instant) → among f ≡ Some n → fits f i → Each (fits f) g.past → PastsAgree types (T f) g.past g'.past → given f g'.free → SameGiven g.free g'.free
      → ((p : Place) → i p ≡ N.instant f inputs g i p) → AllAgree types (T f) i (S f inputs g')

-- ---- tops of rows

abbrev pub SameRows : List Instant → List Instant → Type 0
SameRows [] [] = ⊤
SameRows (i ∷ is) (j ∷ js) = (top j ≡ top i) × SameRows is js
SameRows is js = ⊥

pub same_row : (is js : List Instant) → SameRows is js → map top js ≡ map top is
same_row [] [] h = refl
same_row (i ∷ is) (j ∷ js) h = ap₂ (λ v vs. v ∷ vs) h.0 (same_row is js h.1)
same_row [] (j ∷ js) h = absurd h
same_row (i ∷ is) [] h = absurd h

chosen_same : (types : List TypeDecl) (ps : Parts) (v : Value) (is js : List Instant) → SameRows is js → chosen types ps v js ≡ chosen types ps v is
chosen_same types no_part v is js h = refl
chosen_same types (more_parts c e ps) v [] [] h = refl
chosen_same types (more_parts c e ps) v (i ∷ is) (j ∷ js) h = ap₂ (λ u w. if is_cons types v c then u else w) h.0 (chosen_same types ps v is js h.1)
chosen_same types (more_parts c e ps) v [] (j ∷ js) h = absurd h
chosen_same types (more_parts c e ps) v (i ∷ is) [] h = absurd h

module _ (types : List TypeDecl) (N : Nodes) (S : Solved) (among : List ℕ → Option Node) (fits given : List ℕ → Instant → Type 0) (T : List ℕ → Marks) (known : Callees types N S among fits given T) where
  abbrev pub M : Nodes
  M = by N.outputs S

  -- the type of an expression has a first value
  module _ (s : Scope) (second : Classes) (lasts : Lasts) (firsts : HaveFirsts types s) where
    enum_first : (c : List ℕ) (o : Option (List ℕ)) (t : Ty) (v : Value) → enum_of o ≡ Some t → IsOf types t v → HasFirst types t
    enum_first c None t v h k = absurd (cc)
    enum_first c (Some u) t v h k =
        let e : ty.Enum u ≡ t = some_is (ty.Enum u) t h in
        subst (λ z. HasFirst types z) e (first_from types u v (subst (λ z. IsOf types z v) (sym e) k))

    output_first : (o : Option Node) (n : Node) (t : Ty) → o ≡ Some n → first_output o ≡ Some t → DeclsHaveFirsts types n.outputs → HasFirst types t
    output_first o n t e h k = at n.outputs (sym (ap first_output e) ∙ h) k
      where
        at : (ds : List Decl) → input_type ds ≡ Some t → DeclsHaveFirsts types ds → HasFirst types t
        at [] h k = absurd (cc)
        at (d ∷ ds) h k = subst (λ z. HasFirst types z) (some_is d.ty t h) k.0

    mutual
      pub type_first : (e : Expr) (t : Ty) → ExprOk types among s second lasts e → type_of s e ≡ Some t → HasFirst types t
      type_first (constant a (const.B b)) t ok h = subst (λ z. HasFirst types z) (some_is ty.Bool t h) tt
      type_first (constant a (const.I n)) t ok h = subst (λ z. HasFirst types z) (some_is ty.Int t h) tt
      type_first (constant a (const.E c)) t ok h = enum_first c (lookup s.constructors c) t (constant_of types (const.E c)) h (ok t h)
      type_first (variable a x) t ok h = firsts x t h
      type_first (last_of a x) t ok h = firsts x t h
      type_first (one a o b) t ok h =
          let q = one_typed (type_of_one o) (type_of s b) t h in
          subst (λ z. HasFirst types z) q.1 (type_first b (type_of_one o) ok q.0)
      type_first (two a o b c) t ok h = subst (λ z. HasFirst types z) (two_typed o (type_of s b) (type_of s c) t h).4 (answer_first types o)
      type_first (choose a b c d) t ok h = type_first c t ok.1.0 (if_typed (type_of s b) (type_of s c) (type_of s d) t h).1
      type_first (pre a b) t ok h = type_first b t ok.1 h
      type_first (fby a b c) t ok h = type_first b t ok.1.0 (pair_typed (type_of s b) (type_of s c) t h).0
      type_first (arrow a b c) t ok h = type_first b t ok.0 (pair_typed (type_of s b) (type_of s c) t h).0
      type_first (when_is a b c x) t ok h = type_first b t ok.1 (when_typed _ _ t h)
      type_first (merge a x ps) t ok h = parts_first ps (lookup s.variables x) t ok.1.1 h
      type_first (call a f i es) t ok h =
          let q = call_typed (lookup s.nodes f) (types_in s es) t h in
          output_first (lookup s.nodes f) q.0 t q.1 q.3 (known.firsts f q.0 (sym ok.0 ∙ q.1))

      parts_first : (ps : Parts) (name : Option Ty) (t : Ty) → PartsOk types among s second lasts ps → merge_type s name ps ≡ Some t → HasFirst types t
      parts_first no_part name t ok h = absurd (cc)
      parts_first (more_parts c e ps) name t ok h = type_first e t ok.1.0 (merge_typed s name (more_parts c e ps) t h).0

  value_is : (s : Scope) (e : Expr) (t : Ty) → type_of s e ≡ Some t → value_type s e ≡ Some t
  value_is s (call a f i es) t h = (call_typed (lookup s.nodes f) (types_in s es) t h).3
  value_is s (constant a c) t h = h
  value_is s (variable a x) t h = h
  value_is s (last_of a x) t h = h
  value_is s (one a o b) t h = h
  value_is s (two a o b c) t h = h
  value_is s (choose a b c d) t h = h
  value_is s (pre a b) t h = h
  value_is s (fby a b c) t h = h
  value_is s (arrow a b c) t h = h
  value_is s (when_is a b c x) t h = h
  value_is s (merge a x ps) t h = h

  top_fits : (s : Scope) (second : Classes) (there : Presence) (e : Expr) (clock : Clock) (i : Instant) → ExprFits types true fits s second there e clock i → TopFits types true fits s second there e clock i
  top_fits s second there (constant a c) clock i h = h
  top_fits s second there (variable a x) clock i h = h
  top_fits s second there (last_of a x) clock i h = h
  top_fits s second there (one a o b) clock i h = h.0
  top_fits s second there (two a o b c) clock i h = h.0
  top_fits s second there (choose a b c d) clock i h = h.0
  top_fits s second there (pre a b) clock i h = h.0
  top_fits s second there (fby a b c) clock i h = h.0
  top_fits s second there (arrow a b c) clock i h = h.0
  top_fits s second there (when_is a b c x) clock i h = h.0
  top_fits s second there (merge a x ps) clock i h = h.0
  top_fits s second there (call a f j es) clock i h = h.0

  -- the value of an occurrence fits
  pub value_fits : (s : Scope) (second : Classes) (there : Presence) (e : Expr) (t : Ty) (clock : Clock) (i : Instant) → type_of s e ≡ Some t → ExprFits types true fits s second there e clock i → Fits types (there clock) (Some t) (is_second second e && true) (top i)
  value_fits s second there e t clock i h k = subst (λ o. Fits types (there clock) o (is_second second e && true) (top i)) (value_is s e t h) (top_fits s second there e clock i k)

  -- one that is First fits without Nil
  first_fits : (d : Bool) (t : Ty) (b : Bool) (v : Value) → IsFalse b → Fits types d (Some t) (b && true) v → Fits types d (Some t) false v
  first_fits d t b v f h = subst (λ z. Fits types d (Some t) (z && true) v) f h

  only_agrees : (U : Marks) → ((x : List ℕ) → U (Named x ∷ []) ≡ None) → (os : List (List ℕ)) (i j : Instant) → AllAgree types U i j → only_output os j ≡ only_output os i
  only_agrees U e [] i j h = refl
  only_agrees U e (o ∷ os) i j h = of_none types (i (Named o ∷ [])) (j (Named o ∷ [])) (as_type types (U (Named o ∷ [])) None (i (Named o ∷ [])) (j (Named o ∷ [])) (e o) (h (Named o ∷ [])))

  -- an instance fits where it is there
  there_now : (d : Bool) (Q : Instant → Type 0) (i : Instant) → i (Fresh ∷ []) ≡ B false → IsThere d Q i → Q i
  there_now true Q i e h = h
  there_now false Q i e h = absurd (let z : B false ≡ Absent = sym e ∙ h (Fresh ∷ []) in cc)

  if_true : (d : Bool) (i j : Instant) (p : Place) → IsTrue d → (if d then i else j) p ≡ i p
  if_true true i j p h = refl
  if_true false i j p h = absurd (cc)

  moved : (U : Marks) (i i' j : Instant) → ((p : Place) → i p ≡ i' p) → AllAgree types U i j → AllAgree types U i' j
  moved U i i' j e h p = subst (λ z. Agree types (U p) z (j p)) (e p) (h p)

  module _ (s : Scope) (second : Classes) (lasts : Lasts) (names names' last : Names) (agree : NamesAgree types s second names names') (firsts : HaveFirsts types s) (ws : List Presence) (there : Presence) where
    -- the names of a clock are First, so it is there in both
    pub holds_same : (clock : Clock) → AllFirst second clock → holds types clock names' ≡ holds types clock names
    holds_same [] h = refl
    holds_same (on ∷ clock) h = ap₂ (λ v b. is_cons types v on.0 && b) (unmarked types (second on.1) (lookup s.variables on.1) (names on.1) (names' on.1) h.0 (agree on.1)) (holds_same clock h.1)

    without_first : (clock : Clock) → AllFirst second clock → AllFirst second (without clock)
    without_first [] h = tt
    without_first (on ∷ clock) h = h.1

    abbrev pub Said : Expr → Clock → Given → Instant → Instant
    Said e clock g now = expr types abstraction N e clock names last g now

    abbrev pub Said' : Expr → Clock → Given → Instant → Instant
    Said' e clock g now = expr types filled_abstraction M e clock names' last g now

    abbrev pub Place' : Expr → Marks
    Place' e = of_expr T s second e

    abbrev Pasts : Expr → Clock → Past → Type 0
    Pasts e clock past = Along (λ w i. ExprFits types true fits s second w e clock i) ws past

    first_past : (e : Expr) (t : Ty) (clock : Clock) (past : Past) → type_of s e ≡ Some t → Pasts e clock past → Along (λ w i. Fits types (w clock) (Some t) (is_second second e && true) (top i)) ws past
    first_past e t clock past h a = along_same _ _ ws past (λ w i z. value_fits s second w e t clock i h z) a

    never_past : (e : Expr) (t : Ty) (clock : Clock) (past : Past) → type_of s e ≡ Some t → IsFalse (is_second second e) → Pasts e clock past → Along (λ w i. Fits types (w clock) (Some t) false (top i)) ws past
    never_past e t clock past h f a = along_same _ _ ws past (λ w i z. first_fits (w clock) t (is_second second e) (top i) f (value_fits s second w e t clock i h z)) a

    -- an operand: its two values agree at its type
    operand : (e : Expr) (t : Ty) (clock : Clock) (i now j : Instant) → type_of s e ≡ Some t → ExprFits types true fits s second there e clock now → now [] ≡ top i → AllAgree types (Place' e) i j → Agree types (Some t) (top i) (top j)
    operand e t clock i now j h k m a =
        loose types (is_second second e) (there clock) t (top i) (top j)
        (subst (λ o. Agree types (mark (is_second second e) o) (top i) (top j)) h (a []))
        (subst (λ v. Fits types (there clock) (Some t) (is_second second e && true) v) m (value_fits s second there e t clock now h k))

    operand_fits : (e : Expr) (t : Ty) (clock : Clock) (i now : Instant) → type_of s e ≡ Some t → ExprFits types true fits s second there e clock now → now [] ≡ top i → Fits types (there clock) (Some t) (is_second second e && true) (top i)
    operand_fits e t clock i now h k m = subst (λ v. Fits types (there clock) (Some t) (is_second second e && true) v) m (value_fits s second there e t clock now h k)

    -- the whole: what agrees at its type agrees at its mark
    whole : (e : Expr) (t : Ty) (clock : Clock) (x y : Value) (now : Instant) → type_of s e ≡ Some t → ExprFits types true fits s second there e clock now → now [] ≡ x → Agree types (Some t) x y → Agree types (mark (is_second second e) (type_of s e)) x y
    whole e t clock x y now h k m a =
        as_type types (mark (is_second second e) (Some t)) (mark (is_second second e) (type_of s e)) x y (ap (mark (is_second second e)) (sym h))
        (strict types (is_second second e) (there clock) t x y a (subst (λ v. Fits types (there clock) (Some t) (is_second second e && true) v) m (value_fits s second there e t clock now h k)))

    -- an instance of a call
    instance_agrees : (f : List ℕ) (n : Node) (vs : List Value) (d d' : Bool) (clock : Clock) (g g' : Given) (now : Instant) → among f ≡ Some n → d' ≡ d → IsThere (there clock) (fits f) now → Along (λ w i. IsThere (w clock) (fits f) (part Instance i)) ws g.past → PastsAgree types (λ p. T f p) (parts Instance g.past) (parts Instance g'.past) → given f (part Instance g'.free) → SameGiven (part Instance g.free) (part Instance g'.free)
        → ((p : Place) → now p ≡ (if d then N.instant f vs (since false (at Instance g)) now else nothing) p) → AllAgree types (T f) (if d then N.instant f vs (since false (at Instance g)) now else nothing) (if d' then S f vs (since false (at Instance g')) else nothing)
    instance_agrees f n vs d d' clock g g' now e same k past pasts gv cs m =
        subst (λ z. AllAgree types (T f) (if d then N.instant f vs (since false (at Instance g)) now else nothing) (if z then S f vs (since false (at Instance g')) else nothing)) (sym same) (choice d refl)
      where
        said : IsTrue d → (p : Place) → now p ≡ N.instant f vs (since false (at Instance g)) now p
        said h p = m p ∙ if_true d _ nothing p h

        here : IsTrue d → AllAgree types (T f) (N.instant f vs (since false (at Instance g)) now) (S f vs (since false (at Instance g')))
        here h =
            moved (T f) now (N.instant f vs (since false (at Instance g)) now) (S f vs (since false (at Instance g'))) (said h)
            (known.agree f n vs (since false (at Instance g)) (since false (at Instance g')) now e
            (there_now (there clock) (fits f) now (said h (Fresh ∷ []) ∙ known.fresh f n vs (since false (at Instance g)) now e) k)
            (own_all (fits f) (parts Instance g.past) (each_part _ (fits f) Instance ws g.past (λ w i z. (w clock, z)) past))
            (past_own types (T f) (known.word f) (parts Instance g.past) (parts Instance g'.past) pasts) gv cs (said h))

        choice : (b : Bool) → d ≡ b → AllAgree types (T f) (if b then N.instant f vs (since false (at Instance g)) now else nothing) (if b then S f vs (since false (at Instance g')) else nothing)
        choice true h p = here h p
        choice false h p = refl

    -- a call, which may have several outputs, where its arguments agree
    pub call_agree : (a : Span) (f : List ℕ) (inlined : Bool) (es : Exprs) (n : Node) (clock : Clock) (g g' : Given) (now now' : Instant) → among f ≡ Some n → AllFirst second clock → IsThere (there clock) (fits f) (part Instance now) → Along (λ w i. IsThere (w clock) (fits f) (part Instance i)) ws g.past → PastsAgree types (Place' (call a f inlined es)) g.past g'.past → given f (part Instance g'.free) → SameGiven g.free g'.free → ((p : Place) → now p ≡ Said (call a f inlined es) clock g now p)
        → AllAgree types (in_exprs T s second es) (in_row (exprs types abstraction N es clock names last (at Args g) (part Args now))) (in_row (exprs types filled_abstraction M es clock names' last (at Args g') (part Args now'))) × SameRows (exprs types abstraction N es clock names last (at Args g) (part Args now)) (exprs types filled_abstraction M es clock names' last (at Args g') (part Args now'))
        → AllAgree types (Place' (call a f inlined es)) (Said (call a f inlined es) clock g now) (Said' (call a f inlined es) clock g' now')
    call_agree a f inlined es n clock g g' now now' e ck k past pasts gv cs m r =
        let U = Place' (call a f inlined es) in
        let is = exprs types abstraction N es clock names last (at Args g) (part Args now) in
        let js = exprs types filled_abstraction M es clock names' last (at Args g') (part Args now') in
        let d = holds types clock names in
        let d' = holds types clock names' in
        let I = if d then N.instant f (map top is) (since false (at Instance g)) (part Instance now) else nothing in
        let J = if d' then S f (map top is) (since false (at Instance g')) else nothing in
        let both : AllAgree types (T f) I J =
        instance_agrees f n (map top is) d d' clock g g' (part Instance now) e (holds_same clock ck) k past (past_part types U Instance g.past g'.past pasts) gv (λ p. cs (Instance ∷ p)) (λ p. m (Instance ∷ p)) in
        subst (λ vs. AllAgree types U (Said (call a f inlined es) clock g now) (with_instance (only_output (N.outputs f) (if d' then S f vs (since false (at Instance g')) else nothing)) js (if d' then S f vs (since false (at Instance g')) else nothing))) (sym (same_row is js r.1))
        (call_agrees types U (only_output (N.outputs f) I) (only_output (N.outputs f) J) is js I J
        (to_none types (only_output (N.outputs f) I) (only_output (N.outputs f) J) (only_agrees (T f) (known.named f) (N.outputs f) I J both)) r.0 both)

    mutual
      pub expr_agrees : (e : Expr) (t : Ty) (clock : Clock) (g g' : Given) (now now' : Instant) → type_of s e ≡ Some t → ExprOk types among s second lasts e → AllFirst second clock → ExprFits types true fits s second there e clock now → Pasts e clock g.past → PastsAgree types (Place' e) g.past g'.past → ExprGiven types false as_given given s e g'.free → SameGiven g.free g'.free → ((p : Place) → now p ≡ Said e clock g now p) → AllAgree types (Place' e) (Said e clock g now) (Said' e clock g' now')
      expr_agrees (constant a c) t clock g g' now now' h ok ck k past pasts gv cs m =
          alone_agrees types (Place' (constant a c)) _ _ (if_agrees types None (holds types clock names) (holds types clock names') (marked (constant_of types c)) (marked (constant_of types c)) (holds_same clock ck) (to_none types (marked (constant_of types c)) (marked (constant_of types c)) refl))
      expr_agrees (variable a x) t clock g g' now now' h ok ck k past pasts gv cs m = alone_agrees types (Place' (variable a x)) (names x) (names' x) (agree x)
      expr_agrees (last_of a x) t clock g g' now now' h ok ck k past pasts gv cs m = alone_agrees types (Place' (last_of a x)) (last x) (last x) (to_none types (last x) (last x) refl)
      expr_agrees (one a o b) t clock g g' now now' h ok ck k past pasts gv cs m =
          let q = one_typed (type_of_one o) (type_of s b) t h in
          let r = expr_agrees b (type_of_one o) clock (at First g) (at First g') (part First now) (part First now') q.0 ok ck k.1 (along_part _ _ First ws g.past (λ w i z. z.1) past) (past_part types (Place' (one a o b)) First g.past g'.past pasts) gv (λ p. cs (First ∷ p)) (λ p. m (First ∷ p)) in
          let i = Said b clock (at First g) (part First now) in
          let j = Said' b clock (at First g') (part First now') in
          one_agrees types (Place' (one a o b)) (one_marked o (top i)) (one_marked o (top j)) i j
          (whole (one a o b) t clock (one_marked o (top i)) (one_marked o (top j)) now h k (m [])
          (as_type types (Some (type_of_one o)) (Some t) (one_marked o (top i)) (one_marked o (top j)) (ap Some q.1)
          (one_agree types o (there clock) (is_second second b && true) (top i) (top j) (type_first s second lasts firsts b (type_of_one o) ok q.0)
          (operand b (type_of_one o) clock i (part First now) j q.0 k.1 (m (First ∷ [])) r)
          (operand_fits b (type_of_one o) clock i (part First now) q.0 k.1 (m (First ∷ []))))))
          r
      expr_agrees (two a o b c) t clock g g' now now' h ok ck k past pasts gv cs m =
          let q = two_typed o (type_of s b) (type_of s c) t h in
          let r = expr_agrees b q.0 clock (at First g) (at First g') (part First now) (part First now') q.2 ok.0 ck k.1.0 (along_part _ _ First ws g.past (λ w i z. z.1.0) past) (past_part types (Place' (two a o b c)) First g.past g'.past pasts) gv.1.0 (λ p. cs (First ∷ p)) (λ p. m (First ∷ p)) in
          let r' = expr_agrees c q.0 clock (at Second g) (at Second g') (part Second now) (part Second now') q.3 ok.1 ck k.1.1 (along_part _ _ Second ws g.past (λ w i z. z.1.1) past) (past_part types (Place' (two a o b c)) Second g.past g'.past pasts) gv.1.1 (λ p. cs (Second ∷ p)) (λ p. m (Second ∷ p)) in
          let i = Said b clock (at First g) (part First now) in
          let i' = Said' b clock (at First g') (part First now') in
          let j = Said c clock (at Second g) (part Second now) in
          let j' = Said' c clock (at Second g') (part Second now') in
          let gt = top g.free in
          subst (λ z. AllAgree types (Place' (two a o b c)) (with_two (two_marked o gt (top i) (top j)) i j) (with_two (two_marked o z (top i') (top j')) i' j')) (sym (cs []))
          (two_agrees types (Place' (two a o b c)) (two_marked o gt (top i) (top j)) (two_marked o gt (top i') (top j')) i j i' j'
          (whole (two a o b c) t clock (two_marked o gt (top i) (top j)) (two_marked o gt (top i') (top j')) now h k (m [])
          (as_type types (Some (answer o)) (Some t) (two_marked o gt (top i) (top j)) (two_marked o gt (top i') (top j')) (ap Some q.4)
          (two_agree types o q.0 (there clock) (is_second second b && true) (is_second second c && true) gt (top i) (top j) (top i') (top j') q.1
          (subst (λ v. ComparisonGiven o (Some q.0) v) (cs []) (subst (λ z. ComparisonGiven o z (top g'.free)) q.2 gv.0)) (type_first s second lasts firsts b q.0 ok.0 q.2)
          (operand b q.0 clock i (part First now) i' q.2 k.1.0 (m (First ∷ [])) r)
          (operand c q.0 clock j (part Second now) j' q.3 k.1.1 (m (Second ∷ [])) r')
          (operand_fits b q.0 clock i (part First now) q.2 k.1.0 (m (First ∷ [])))
          (operand_fits c q.0 clock j (part Second now) q.3 k.1.1 (m (Second ∷ []))))))
          r r')
      expr_agrees (choose a b c d) t clock g g' now now' h ok ck k past pasts gv cs m =
          let q = if_typed (type_of s b) (type_of s c) (type_of s d) t h in
          let U = Place' (choose a b c d) in
          let r = expr_agrees b ty.Bool clock (at First g) (at First g') (part First now) (part First now') q.0 ok.0 ck k.1.0 (along_part _ _ First ws g.past (λ w i z. z.1.0) past) (past_part types U First g.past g'.past pasts) gv.0 (λ p. cs (First ∷ p)) (λ p. m (First ∷ p)) in
          let r' = expr_agrees c t clock (at Second g) (at Second g') (part Second now) (part Second now') q.1 ok.1.0 ck k.1.1.0 (along_part _ _ Second ws g.past (λ w i z. z.1.1.0) past) (past_part types U Second g.past g'.past pasts) gv.1.0 (λ p. cs (Second ∷ p)) (λ p. m (Second ∷ p)) in
          let r'' = expr_agrees d t clock (at Third g) (at Third g') (part Third now) (part Third now') q.2 ok.1.1 ck k.1.1.1 (along_part _ _ Third ws g.past (λ w i z. z.1.1.1) past) (past_part types U Third g.past g'.past pasts) gv.1.1 (λ p. cs (Third ∷ p)) (λ p. m (Third ∷ p)) in
          let i = Said b clock (at First g) (part First now) in
          let i' = Said' b clock (at First g') (part First now') in
          let j = Said c clock (at Second g) (part Second now) in
          let j' = Said' c clock (at Second g') (part Second now') in
          let l = Said d clock (at Third g) (part Third now) in
          let l' = Said' d clock (at Third g') (part Third now') in
          three_agrees types U (if_of (top i) (top j) (top l)) (if_of (top i') (top j') (top l')) i j l i' j' l'
          (whole (choose a b c d) t clock (if_of (top i) (top j) (top l)) (if_of (top i') (top j') (top l')) now h k (m [])
          (if_agree types t (there clock) (is_second second b && true) (is_second second c && true) (is_second second d && true) (top i) (top j) (top l) (top i') (top j') (top l') (type_first s second lasts firsts c t ok.1.0 q.1)
          (operand b ty.Bool clock i (part First now) i' q.0 k.1.0 (m (First ∷ [])) r)
          (operand c t clock j (part Second now) j' q.1 k.1.1.0 (m (Second ∷ [])) r')
          (operand d t clock l (part Third now) l' q.2 k.1.1.1 (m (Third ∷ [])) r'')
          (operand_fits b ty.Bool clock i (part First now) q.0 k.1.0 (m (First ∷ [])))
          (operand_fits c t clock j (part Second now) q.1 k.1.1.0 (m (Second ∷ [])))
          (operand_fits d t clock l (part Third now) q.2 k.1.1.1 (m (Third ∷ [])))))
          r r' r''
      expr_agrees (pre a b) t clock g g' now now' h ok ck k past pasts gv cs m =
          let U = Place' (pre a b) in
          let before = along_part _ (λ w i. ExprFits types true fits s second w b clock i) First ws g.past (λ w i z. z.1) past in
          let earlier = past_part types U First g.past g'.past pasts in
          let r = expr_agrees b t clock (at First g) (at First g') (part First now) (part First now') h ok.1 ck k.1 before earlier gv.1 (λ p. cs (First ∷ p)) (λ p. m (First ∷ p)) in
          let given' : HasValue types t false (top g'.free) = subst (λ o. UndefinedFits types false as_given given o (top g'.free)) h gv.0 in
          let u = newest Nil (parts First g.past) in
          let v = newest (top g'.free) (parts First g'.past) in
          one_agrees types U (if holds types clock names then u else Absent) (if holds types clock names' then v else Absent) (Said b clock (at First g) (part First now)) (Said' b clock (at First g') (part First now'))
          (as_type types (Some t) (type_of s b) (if holds types clock names then u else Absent) (if holds types clock names' then v else Absent) (sym h)
          (if_agrees types (Some t) (holds types clock names) (holds types clock names') u v (holds_same clock ck)
          (newest_agree types t clock ws (parts First g.past) (parts First g'.past) (top g'.free) (never_nil types t false (top g'.free) refl given') (never_past b t clock (parts First g.past) h ok.0 before)
          (same_tops types (λ p. U (First ∷ p)) (no_mark types (is_second second b) (type_of s b) ok.0) (parts First g.past) (parts First g'.past) earlier))))
          r
      expr_agrees (fby a b c) t clock g g' now now' h ok ck k past pasts gv cs m =
          let q = pair_typed (type_of s b) (type_of s c) t h in
          let U = Place' (fby a b c) in
          let before = along_part _ (λ w i. ExprFits types true fits s second w b clock i) First ws g.past (λ w i z. z.1.0) past in
          let before' = along_part _ (λ w i. ExprFits types true fits s second w c clock i) Second ws g.past (λ w i z. z.1.1) past in
          let earlier = past_part types U First g.past g'.past pasts in
          let earlier' = past_part types U Second g.past g'.past pasts in
          let r = expr_agrees b t clock (at First g) (at First g') (part First now) (part First now') q.0 ok.1.0 ck k.1.0 before earlier gv.0 (λ p. cs (First ∷ p)) (λ p. m (First ∷ p)) in
          let r' = expr_agrees c t clock (at Second g) (at Second g') (part Second now) (part Second now') q.1 ok.1.1 ck k.1.1 before' earlier' gv.1 (λ p. cs (Second ∷ p)) (λ p. m (Second ∷ p)) in
          let i = Said b clock (at First g) (part First now) in
          let i' = Said' b clock (at First g') (part First now') in
          let u = at_first (parts First g.past) (top i) (newest Nil (parts Second g.past)) in
          let v = at_first (parts First g'.past) (top i') (newest Nil (parts Second g'.past)) in
          two_agrees types U (if holds types clock names then u else Absent) (if holds types clock names' then v else Absent) i (Said c clock (at Second g) (part Second now)) i' (Said' c clock (at Second g') (part Second now'))
          (whole (fby a b c) t clock (if holds types clock names then u else Absent) (if holds types clock names' then v else Absent) now h k (m [])
          (if_agrees types (Some t) (holds types clock names) (holds types clock names') u v (holds_same clock ck)
          (fby_agree types (λ p. U (First ∷ p)) (is_second second b) (is_second second b && true) t clock ws (parts First g.past) (parts First g'.past) (parts Second g.past) (parts Second g'.past) (top i) (top i') (type_first s second lasts firsts b t ok.1.0 q.0) (ap (mark (is_second second b)) q.0) earlier
          (first_past b t clock (parts First g.past) q.0 before) (never_past c t clock (parts Second g.past) q.1 ok.0 before')
          (same_tops types (λ p. U (Second ∷ p)) (no_mark types (is_second second c) (type_of s c) ok.0) (parts Second g.past) (parts Second g'.past) earlier')
          (operand b t clock i (part First now) i' q.0 k.1.0 (m (First ∷ [])) r))))
          r r'
      expr_agrees (arrow a b c) t clock g g' now now' h ok ck k past pasts gv cs m =
          let q = pair_typed (type_of s b) (type_of s c) t h in
          let U = Place' (arrow a b c) in
          let earlier = past_part types U First g.past g'.past pasts in
          let r = expr_agrees b t clock (at First g) (at First g') (part First now) (part First now') q.0 ok.0 ck k.1.0 (along_part _ _ First ws g.past (λ w i z. z.1.0) past) earlier gv.0 (λ p. cs (First ∷ p)) (λ p. m (First ∷ p)) in
          let r' = expr_agrees c t clock (at Second g) (at Second g') (part Second now) (part Second now') q.1 ok.1 ck k.1.1 (along_part _ _ Second ws g.past (λ w i z. z.1.1) past) (past_part types U Second g.past g'.past pasts) gv.1 (λ p. cs (Second ∷ p)) (λ p. m (Second ∷ p)) in
          let i = Said b clock (at First g) (part First now) in
          let i' = Said' b clock (at First g') (part First now') in
          let j = Said c clock (at Second g) (part Second now) in
          let j' = Said' c clock (at Second g') (part Second now') in
          let u = at_first (parts First g.past) (top i) (top j) in
          let v = at_first (parts First g'.past) (top i') (top j') in
          two_agrees types U u v i j i' j'
          (whole (arrow a b c) t clock u v now h k (m [])
          (first_agree types (λ p. U (First ∷ p)) (is_second second b) t t (parts First g.past) (parts First g'.past) (top i) (top j) (top i') (top j') (type_first s second lasts firsts b t ok.0 q.0) (ap (mark (is_second second b)) q.0) earlier
          (operand b t clock i (part First now) i' q.0 k.1.0 (m (First ∷ [])) r)
          (operand c t clock j (part Second now) j' q.1 k.1.1 (m (Second ∷ [])) r')))
          r r'
      expr_agrees (when_is a b c x) t clock g g' now now' h ok ck k past pasts gv cs m =
          let q : type_of s b ≡ Some t = when_typed _ _ t h in
          let U = Place' (when_is a b c x) in
          let r = expr_agrees b t (without clock) (at First g) (at First g') (part First now) (part First now') q ok.1 (without_first clock ck) k.1 (along_part _ _ First ws g.past (λ w i z. z.1) past) (past_part types U First g.past g'.past pasts) gv (λ p. cs (First ∷ p)) (λ p. m (First ∷ p)) in
          let i = Said b (without clock) (at First g) (part First now) in
          let j = Said' b (without clock) (at First g') (part First now') in
          let u = if is_cons types (names x) c then top i else Absent in
          let v = if is_cons types (names' x) c then top j else Absent in
          let same : names' x ≡ names x = unmarked types (second x) (lookup s.variables x) (names x) (names' x) ok.0 (agree x) in
          one_agrees types U u v i j
          (whole (when_is a b c x) t clock u v now h k (m [])
          (if_agrees types (Some t) (is_cons types (names x) c) (is_cons types (names' x) c) (top i) (top j) (ap (λ z. is_cons types z c) same)
          (operand b t (without clock) i (part First now) j q k.1 (m (First ∷ [])) r)))
          r
      expr_agrees (merge a x ps) t clock g g' now now' h ok ck k past pasts gv cs m =
          let U = Place' (merge a x ps) in
          let r = parts_agree ps x t clock (at Args g) (at Args g') (part Args now) (part Args now') (merge_typed s (lookup s.variables x) ps t h) ok.1.1 (ok.0, ck) k.1 (along_part _ _ Args ws g.past (λ w i z. z.1) past) (past_part types U Args g.past g'.past pasts) gv (λ p. cs (Args ∷ p)) (λ p. m (Args ∷ p)) in
          let is = merged types abstraction N ps x clock names last (at Args g) (part Args now) in
          let js = merged types filled_abstraction M ps x clock names' last (at Args g') (part Args now') in
          let same : names' x ≡ names x = unmarked types (second x) (lookup s.variables x) (names x) (names' x) ok.0 (agree x) in
          merge_agrees types U (chosen types ps (names x) is) (chosen types ps (names' x) js) is js
          (to_none types (chosen types ps (names x) is) (chosen types ps (names' x) js) (ap (λ z. chosen types ps z js) same ∙ chosen_same types ps (names x) is js r.1)) r.0
      expr_agrees (call a f i es) t clock g g' now now' h ok ck k past pasts gv cs m =
          let q = call_typed (lookup s.nodes f) (types_in s es) t h in
          call_agree a f i es q.0 clock g g' now now' (sym ok.0 ∙ q.1) ck k.1.1 (along_same _ _ ws g.past (λ w j z. z.1.1) past) pasts gv.1 cs m
          (exprs_agree es q.0.inputs clock (at Args g) (at Args g') (part Args now) (part Args now') q.2 ok.1 ck k.1.0 (along_part _ _ Args ws g.past (λ w j z. z.1.0) past) (past_part types (Place' (call a f i es)) Args g.past g'.past pasts) gv.0 (λ p. cs (Args ∷ p)) (λ p. m (Args ∷ p)))

      pub exprs_agree : (es : Exprs) (ds : List Decl) (clock : Clock) (g g' : Given) (now now' : Instant) → IsTrue (args_fit ds (types_in s es)) → ExprsOk types among s second lasts es → AllFirst second clock → ExprsFit types true fits s second there es clock now → Along (λ w i. ExprsFit types true fits s second w es clock i) ws g.past → PastsAgree types (in_exprs T s second es) g.past g'.past → ExprsGiven types false as_given given s es g'.free → SameGiven g.free g'.free
          → ((p : Place) → now p ≡ in_row (exprs types abstraction N es clock names last g now) p) → AllAgree types (in_exprs T s second es) (in_row (exprs types abstraction N es clock names last g now)) (in_row (exprs types filled_abstraction M es clock names' last g' now')) × SameRows (exprs types abstraction N es clock names last g now) (exprs types filled_abstraction M es clock names' last g' now')
      exprs_agree no_expr ds clock g g' now now' fit ok ck k past pasts gv cs m = ((λ p. refl), tt)
      exprs_agree (more_exprs e es) [] clock g g' now now' fit ok ck k past pasts gv cs m = absurd (cc)
      exprs_agree (more_exprs e es) (d ∷ ds) clock g g' now now' fit ok ck k past pasts gv cs m =
          let q = arg_typed d ds (type_of s e) (types_in s es) fit in
          let U = in_exprs T s second (more_exprs e es) in
          let r = expr_agrees e d.ty clock (at Head g) (at Head g') (part Head now) (part Head now') q.0 ok.1.0 ck k.0 (along_part _ _ Head ws g.past (λ w i z. z.0) past) (past_part types U Head g.past g'.past pasts) gv.0 (λ p. cs (Head ∷ p)) (λ p. m (Head ∷ p)) in
          let r' = exprs_agree es ds clock (at Tail g) (at Tail g') (part Tail now) (part Tail now') q.1 ok.1.1 ck k.1 (along_part _ _ Tail ws g.past (λ w i z. z.1) past) (past_part types U Tail g.past g'.past pasts) gv.1 (λ p. cs (Tail ∷ p)) (λ p. m (Tail ∷ p)) in
          let i = Said e clock (at Head g) (part Head now) in
          let j = Said' e clock (at Head g') (part Head now') in (
            row_agrees types U i j (exprs types abstraction N es clock names last (at Tail g) (part Tail now)) (exprs types filled_abstraction M es clock names' last (at Tail g') (part Tail now')) r r'.0,
            (unmarked types (is_second second e) (type_of s e) (top i) (top j) ok.0 (r []), r'.1),
          )

      parts_agree : (ps : Parts) (x : List ℕ) (t : Ty) (clock : Clock) (g g' : Given) (now now' : Instant) → PartsHave s t ps → PartsOk types among s second lasts ps → IsFalse (second x) × AllFirst second clock → PartsFit types true fits s second there ps x clock now → Along (λ w i. PartsFit types true fits s second w ps x clock i) ws g.past → PastsAgree types (in_parts T s second ps) g.past g'.past → PartsGiven types false as_given given s ps g'.free → SameGiven g.free g'.free
          → ((p : Place) → now p ≡ in_row (merged types abstraction N ps x clock names last g now) p) → AllAgree types (in_parts T s second ps) (in_row (merged types abstraction N ps x clock names last g now)) (in_row (merged types filled_abstraction M ps x clock names' last g' now')) × SameRows (merged types abstraction N ps x clock names last g now) (merged types filled_abstraction M ps x clock names' last g' now')
      parts_agree no_part x t clock g g' now now' have ok ck k past pasts gv cs m = ((λ p. refl), tt)
      parts_agree (more_parts c e ps) x t clock g g' now now' have ok ck k past pasts gv cs m =
          let U = in_parts T s second (more_parts c e ps) in
          let r = expr_agrees e t ((c, x) ∷ clock) (at Head g) (at Head g') (part Head now) (part Head now') have.0 ok.1.0 ck k.0 (along_part _ _ Head ws g.past (λ w i z. z.0) past) (past_part types U Head g.past g'.past pasts) gv.0 (λ p. cs (Head ∷ p)) (λ p. m (Head ∷ p)) in
          let r' = parts_agree ps x t clock (at Tail g) (at Tail g') (part Tail now) (part Tail now') have.1 ok.1.1 ck k.1 (along_part _ _ Tail ws g.past (λ w i z. z.1) past) (past_part types U Tail g.past g'.past pasts) gv.1 (λ p. cs (Tail ∷ p)) (λ p. m (Tail ∷ p)) in
          let i = Said e ((c, x) ∷ clock) (at Head g) (part Head now) in
          let j = Said' e ((c, x) ∷ clock) (at Head g') (part Head now') in (
            row_agrees types U i j (merged types abstraction N ps x clock names last (at Tail g) (part Tail now)) (merged types filled_abstraction M ps x clock names' last (at Tail g') (part Tail now')) r r'.0,
            (unmarked types (is_second second e) (type_of s e) (top i) (top j) ok.0 (r []), r'.1),
          )

    -- conditions of transitions
    pub tests_agree : (ts : List Trans) (g g' : Given) (now now' : Instant) → TestsOk types among s second lasts ts → TestsFit types true fits s second there ts now → Along (λ w i. TestsFit types true fits s second w ts i) ws g.past → PastsAgree types (of_tests T s second ts) g.past g'.past → TestsGiven types false as_given given s ts g'.free → SameGiven g.free g'.free
        → ((p : Place) → now p ≡ in_row (conditions types abstraction N ts names last g now) p) → AllAgree types (of_tests T s second ts) (in_row (conditions types abstraction N ts names last g now)) (in_row (conditions types filled_abstraction M ts names' last g' now')) × SameRows (conditions types abstraction N ts names last g now) (conditions types filled_abstraction M ts names' last g' now')
    tests_agree [] g g' now now' ok k past pasts gv cs m = ((λ p. refl), tt)
    tests_agree (t ∷ ts) g g' now now' ok k past pasts gv cs m =
        let U = of_tests T s second (t ∷ ts) in
        let r = expr_agrees t.cond ty.Bool [] (at Head g) (at Head g') (part Head now) (part Head now') ok.0.1.1 ok.0.0 tt k.0 (along_part _ _ Head ws g.past (λ w i z. z.0) past) (past_part types U Head g.past g'.past pasts) gv.0 (λ p. cs (Head ∷ p)) (λ p. m (Head ∷ p)) in
        let r' = tests_agree ts (at Tail g) (at Tail g') (part Tail now) (part Tail now') ok.1 k.1 (along_part _ _ Tail ws g.past (λ w i z. z.1) past) (past_part types U Tail g.past g'.past pasts) gv.1 (λ p. cs (Tail ∷ p)) (λ p. m (Tail ∷ p)) in
        let i = Said t.cond [] (at Head g) (part Head now) in
        let j = Said' t.cond [] (at Head g') (part Head now') in (
          row_agrees types U i j (conditions types abstraction N ts names last (at Tail g) (part Tail now)) (conditions types filled_abstraction M ts names' last (at Tail g') (part Tail now')) r r'.0,
          (unmarked types (is_second second t.cond) (type_of s t.cond) (top i) (top j) ok.0.1.0 (r []), r'.1),
        )
