-- What stands in an observer behind the equations of its contract: what is assumed and enforced, and the outputs of the node, handed on from inputs.
use Rattle.std.proofs.Common.{◌≡◌, ℕ, ◌+◌, ◌<◌, ◌≤◌, List, [], ◌∷◌, ◌++◌, map, length, refl, sym, ap, ap₂, ◌∙◌, arith}
use Rattle.std.proofs.lemmas.Fmt.{decimal_injective}
use Rattle.std.proofs.lemmas.List.{append_cancel_left}
use Rattle.std.specs.Prelude.{⊤, Bool, true, false, ◌||◌, if◌then◌else◌, IsTrue, Option, None, Some, codes, decimal}
use Rattle.std.specs.Str.{bytes_eq}
use Rattle.hp_base.specs.declared.span.Span.{Span}
use Rattle.hp_base.specs.declared.value.Value.{Value}
use Rattle.hp_base.specs.declared.value.Value.TheVariants.{Absent, B}
use Rattle.hp_tree.specs.Expressions.{Expr}
use Rattle.hp_tree.specs.Blocks.{Decl, Eqns, eqns_of}
use Rattle.hp_tree.specs.Programs.{TypeDecl, Contract, Node}
use Rattle.hp_tree.specs.Operators.{real}
use Rattle.hp_tree.specs.Instant.{Step, Observer, Assume, Enforce, Named, Equations, Head, Tail, Right, Instant, Past, Given, part, parts, top, nothing, alone, of_two, in_right, in_block, holds}
use Rattle.hp_tree.specs.Meaning.{Names, Nodes, declares, some_defines, clock_in, input_of, defined, equations, expr}
use Rattle.hp_meaning.specs.Causal.Clocked.{Standing, TellsOnBase}
use Rattle.hp_meaning.proofs.CausalLemmas.Swap.{given}
use Rattle.law_drawing.proofs.SteeredLemmas.Uncalled.{CallsNothing, ToldCallsNothing}
use Rattle.law_automata.proofs.LoweredLemmas.Apart.{bytes_same, same_bytes}
use Rattle.hp_watch.specs.Observing.{all_handed_on, assumed, condition_of, enforced, input_name, inputs_for, lines_of}
use Rattle.law_choices.specs.Embedded.Observed.{outputs_of_instant}
use Rattle.law_choices.proofs.ObservedLemmas.Bodies.{false_unless, or_false}
use Rattle.law_choices.proofs.EmbeddedLemmas.Alike.{Alike, expr_alike, right_top}
use Rattle.law_choices.proofs.EmbeddedLemmas.Put.{put_behind}

-- ---- an instant of the observer, made of one of the node

-- what is assumed or enforced, which is true where it is not said
abbrev pub told_to : Option Expr → Instant → Instant
told_to None i = alone (B true)
told_to (Some e) i = i

abbrev pub handed : List Decl → Instant → Instant
handed [] now = nothing
handed (d ∷ ds) now = of_two (in_right (alone (now (Named d.name ∷ [])))) (handed ds now)

abbrev pub lines_in : Node → Contract → Instant → Instant
lines_in n c now = of_two (in_right (told_to c.assume (part Assume now))) (of_two (in_right (told_to c.enforce (part Enforce now))) (handed n.outputs now))

abbrev pub line_names : Node → Contract → Instant → Names
line_names n c now x =
    if bytes_eq assumed x then top (told_to c.assume (part Assume now)) else if bytes_eq enforced x then top (told_to c.enforce (part Enforce now)) else if declares n.outputs x then now (Named x ∷ []) else Absent

abbrev pub names_then : Node → Contract → Eqns → Instant → Names
names_then n c es now x = if some_defines es x then now (Observer ∷ Named x ∷ []) else line_names n c now x

abbrev pub body_then : Node → Contract → Eqns → Instant → Instant
body_then n c es now = in_block (names_then n c es now) (B false) (put_behind es (part Equations (part Observer now)) (lines_in n c now))

-- ---- inputs

pub input_front : (ds more : List Decl) (row vs : List Value) (out other : Names) (x : List ℕ) → length row ≡ length ds → IsTrue (declares ds x) → input_of (ds ++ more) (row ++ vs) out x ≡ input_of ds row other x
input_front [] more row vs out other x l h = absurd cc
input_front (d ∷ ds) more [] vs out other x l h = absurd (omega (arith, l))
input_front (d ∷ ds) more (v ∷ row) vs out other x l h = by (bytes_eq d.name x) h (λ k. input_front ds more row vs out other x (omega (arith, l)) k)
  where
    by : (b : Bool) → IsTrue (b || declares ds x) → (IsTrue (declares ds x) → input_of (ds ++ more) (row ++ vs) out x ≡ input_of ds row other x) → (if b then v else input_of (ds ++ more) (row ++ vs) out x) ≡ (if b then v else input_of ds row other x)
    by true k f = refl
    by false k f = f k

pub input_behind : (ds more : List Decl) (row vs : List Value) (out : Names) (x : List ℕ) → length row ≡ length ds → declares ds x ≡ false → input_of (ds ++ more) (row ++ vs) out x ≡ input_of more vs out x
input_behind [] more [] vs out x l h = refl
input_behind [] more (v ∷ row) vs out x l h = absurd (omega (arith, l))
input_behind (d ∷ ds) more [] vs out x l h = absurd (omega (arith, l))
input_behind (d ∷ ds) more (v ∷ row) vs out x l h = by (bytes_eq d.name x) h (λ k. input_behind ds more row vs out x (omega (arith, l)) k)
  where
    by : (b : Bool) → (b || declares ds x) ≡ false → (declares ds x ≡ false → input_of (ds ++ more) (row ++ vs) out x ≡ input_of more vs out x) → (if b then v else input_of (ds ++ more) (row ++ vs) out x) ≡ input_of more vs out x
    by true k f = absurd cc
    by false k f = f k

-- The inputs that stand for outputs, which are numbered from one on, have their values.
abbrev pub AreHanded : Names → ℕ → List Decl → Instant → Type 0
AreHanded names i [] now = ⊤
AreHanded names i (d ∷ ds) now = (names (input_name i) ≡ now (Named d.name ∷ [])) × AreHanded names (i + 1) ds now

pub handed_same : (names others : Names) (i : ℕ) (os : List Decl) (now : Instant) → ((j : ℕ) → i ≤ j → j < i + length os → others (input_name j) ≡ names (input_name j)) → AreHanded names i os now → AreHanded others i os now
handed_same names others i [] now f h = tt
handed_same names others i (d ∷ os) now f h = (f i (omega arith) (omega arith) ∙ h.0, handed_same names others (i + 1) os now (λ j l u. f j (omega (arith, l)) (omega (arith, u))) h.1)

inputs_apart : (i j : ℕ) → i < j → j < 1000000 → bytes_eq (input_name i) (input_name j) ≡ false
inputs_apart i j l u =
    false_unless (bytes_eq (input_name i) (input_name j))
    (λ h. let same : i ≡ j = decimal_injective i j (omega (arith, l, u)) (omega (arith, u)) (append_cancel_left (codes "in$") (decimal i) (decimal j) (same_bytes (input_name i) (input_name j) h)) in omega (arith, l, same))

pub given_outputs : (i : ℕ) (os : List Decl) (now : Instant) (out : Names) → i + length os < 1000000 → AreHanded (input_of (inputs_for i os) (outputs_of_instant os now) out) i os now
given_outputs i [] now out few = tt
given_outputs i (d ∷ os) now out few =
    let rest : Names = input_of (inputs_for (i + 1) os) (outputs_of_instant os now) out in (
      ap (λ b. if b then now (Named d.name ∷ []) else rest (input_name i)) (bytes_same (input_name i)),
      handed_same rest (input_of (inputs_for i (d ∷ os)) (outputs_of_instant (d ∷ os) now) out) (i + 1) os now
          (λ j l u. ap (λ b. if b then now (Named d.name ∷ []) else rest (input_name j)) (inputs_apart i j (omega (arith, l)) (omega (arith, u, few)))) (given_outputs (i + 1) os now out (omega (arith, few))),
    )

-- ---- the lines mean what they hold

quiet_condition : (o : Option Expr) (s : Span) → ToldCallsNothing o → CallsNothing (condition_of o s)
quiet_condition None s k = tt
quiet_condition (Some e) s k = k

module _ (types : List TypeDecl) (M : Nodes) (more : List Decl) (others last : Names) where
  handed_equations : (i : ℕ) (os : List Decl) (now : Instant) (past : Past) (free : Instant) → AreHanded others i os now
      → handed os now ≡ equations types real M more (eqns_of (all_handed_on i os)) others last (given past free) (handed os now)
  handed_equations i [] now past free h = refl
  handed_equations i (d ∷ os) now past free h = ap₂ (λ v j. of_two (in_right (alone v)) j) (sym h.0) (handed_equations (i + 1) os now (parts Tail past) (part Tail free) h.1)

  handed_values : (i : ℕ) (os : List Decl) (now : Instant) (past : Past) (free : Instant) → AreHanded others i os now → (x : List ℕ)
      → defined types real M more (eqns_of (all_handed_on i os)) others last (given past free) (handed os now) x ≡ (if declares os x then now (Named x ∷ []) else Absent)
  handed_values i [] now past free h x = refl
  handed_values i (d ∷ os) now past free h x = by (bytes_eq d.name x) refl (handed_values (i + 1) os now (parts Tail past) (part Tail free) h.1 x)
    where
      by : (b : Bool) → bytes_eq d.name x ≡ b → defined types real M more (eqns_of (all_handed_on (i + 1) os)) others last (given (parts Tail past) (part Tail free)) (handed os now) x ≡ (if declares os x then now (Named x ∷ []) else Absent)
          → (if b || false then others (input_name i) else defined types real M more (eqns_of (all_handed_on (i + 1) os)) others last (given (parts Tail past) (part Tail free)) (handed os now) x) ≡ (if b || declares os x then now (Named x ∷ []) else Absent)
      by true q f = h.0 ∙ ap (λ z. now (Named z ∷ [])) (same_bytes d.name x q)
      by false q f = f

  -- what is told of a name on the base clock
  abbrev pub IsTold : Option Expr → Span → List ℕ → Past → Instant → Type 0
  IsTold o s y past i = (free : Instant) → i ≡ expr types real M (condition_of o s) (clock_in more y) others last (given past free) i

  module _ (n : Node) (c : Contract) (now : Instant) (past : Past) (assume_told : IsTold c.assume c.span assumed (parts Right (parts Head past)) (told_to c.assume (part Assume now)))
      (enforce_told : IsTold c.enforce c.span enforced (parts Right (parts Head (parts Tail past))) (told_to c.enforce (part Enforce now))) (are_handed : AreHanded others 0 n.outputs now) where
    pub lines_law : (free : Instant) → lines_in n c now ≡ equations types real M more (eqns_of (lines_of n c)) others last (given past free) (lines_in n c now)
    lines_law free =
        ap₂ (λ i j. of_two (in_right i) j) (assume_told (part Right (part Head free)))
        (ap₂ (λ i j. of_two (in_right i) j) (enforce_told (part Right (part Head (part Tail free)))) (handed_equations 0 n.outputs now (parts Tail (parts Tail past)) (part Tail (part Tail free)) are_handed))

    pub lines_values : ToldCallsNothing c.assume → ToldCallsNothing c.enforce → (free : Instant) (x : List ℕ) → defined types real M more (eqns_of (lines_of n c)) others last (given past free) (lines_in n c now) x ≡ line_names n c now x
    lines_values k l free x =
        let a = condition_of c.assume c.span in
        let e = condition_of c.enforce c.span in
        let i = expr types real M a (clock_in more assumed) others last (given (parts Right (parts Head past)) (part Right (part Head free))) (told_to c.assume (part Assume now)) in
        let j = expr types real M e (clock_in more enforced) others last (given (parts Right (parts Head (parts Tail past))) (part Right (part Head (part Tail free)))) (told_to c.enforce (part Enforce now)) in
        let first = right_top types M ((assumed, c.span) ∷ []) a i x (quiet_condition c.assume c.span k) ∙ ap top (sym (assume_told (part Right (part Head free)))) in
        let second = right_top types M ((enforced, c.span) ∷ []) e j x (quiet_condition c.enforce c.span l) ∙ ap top (sym (enforce_told (part Right (part Head (part Tail free))))) in
        let third = handed_values 0 n.outputs now (parts Tail (parts Tail past)) (part Tail (part Tail free)) are_handed x in
        let here = or_false (bytes_eq assumed x) in
        let there = or_false (bytes_eq enforced x) in
        λ d. if here d then first d else (if there d then second d else third d)

-- ---- what is told means the same in the observer

abbrev pub told_by : List TypeDecl → Nodes → Option Expr → Names → Names → Given → Instant → Instant
told_by types L None names last g now = nothing
told_by types L (Some e) names last g now = expr types real L e [] names last g now

pub told_law : (types : List TypeDecl) (N M : Nodes) (on : Standing) (names others last : Names) → Alike on names others → (more : List Decl) (o : Option Expr) (s : Span) (y : List ℕ) → clock_in more y ≡ [] → TellsOnBase on o → ToldCallsNothing o
    → (step : Step) (now : Instant) (nows Q : Past) (free : Instant) → Q ≡ map (λ t. told_to o (part step t)) nows → part step now ≡ told_by types N o names last (given (parts step nows) free) (part step now)
    → IsTold types M more others last o s y Q (told_to o (part step now))
told_law types N M on names others last agree more None s y base on_base quiet step now nows Q free q h = λ other. ap (λ k. alone (if holds types k others then B true else Absent)) (sym base)
told_law types N M on names others last agree more (Some e) s y base on_base quiet step now nows Q free q h =
    λ other. h ∙ expr_alike types N M on names others last agree e [] (parts step nows) free other (part step now) tt on_base quiet
    ∙ ap₂ (λ z k. expr types real M e k others last (given z other) (part step now)) (sym q) (sym base)
