-- Beside an instant of a node with a contract there is one of the contract's observer, which holds what the contract's part holds.
use Rattle.std.proofs.Common.{◌≡◌, ℕ, ◌<◌, List, [], ◌∷◌, ◌++◌, map, length, refl, sym, ap, ap₂, ◌∙◌, arith}
use Rattle.std.proofs.Math.Path.{fun_ext}
use Rattle.std.proofs.lemmas.List.{append-nil}
use Rattle.std.specs.Prelude.{Bool, true, false, ◌||◌, if◌then◌else◌, IsTrue, Option, None, Some}
use Rattle.std.specs.List.{AllByRecursion}
use Rattle.std.specs.Str.{bytes_eq}
use Rattle.hp_base.specs.declared.ty.Const.{Const}
use Rattle.hp_base.specs.declared.ty.Ty.TheVariants as ty
use Rattle.hp_base.specs.declared.value.Value.{Value}
use Rattle.hp_base.specs.declared.value.Value.TheVariants.{Absent, B}
use Rattle.hp_tree.specs.Blocks.{Decl, block, Eqns, Eqn, eqns_of, list_of_eqns}
use Rattle.hp_tree.specs.Programs.{TypeDecl, Contract, Node}
use Rattle.hp_tree.specs.Operators.{real, constant_of}
use Rattle.hp_tree.specs.Instant.{Body, Observer, Assume, Enforce, Named, Fresh, Equations, Head, Tail, Right, Instant, Past, part, parts, own, own_with, in_block}
use Rattle.hp_tree.specs.Meaning.{Names, Nodes, absent, declares, some_defines, inside, previous, lasts, clock_in, input_of, defined, scope, equations}
use Rattle.hp_meaning.specs.Causal.Clocked.{AllRight, Standing, TellsOnBase, base_alone, on_base, standing_in}
use Rattle.hp_meaning.proofs.CausalLemmas.Swap.{given}
use Rattle.law_drawing.proofs.SteeredLemmas.Uncalled.{EqnsCallNothing, ToldCallsNothing}
use Rattle.law_judged.specs.Named.Scoped.{also, interface, no_names, BlockScoped}
use Rattle.law_judged.specs.Replaced.Fitting.{BlockNames}
use Rattle.law_judged.proofs.NamedLemmas.Sets.{or_left, or_right}
use Rattle.hp_watch.specs.Observing.{assumed, declared, enforced, input_name, inputs_for, lines_of, outputs_at}
use Rattle.law_choices.specs.Embedded.Observed.{outputs_of_instant}
use Rattle.law_choices.specs.Observed.Contracts.{IsOther}
use Rattle.law_choices.proofs.ObservedLemmas.Bodies.{assumed_not_other, enforced_not_other, input_not_other, defines_behind, eqn_local, false_unless, handed_defines, inputs_other, lines_define, local_no_output, none_declared, or_false, outputs_other}
use Rattle.law_choices.proofs.ObservedLemmas.Clocks.{clock_behind, new_clock, not_defined}
use Rattle.law_choices.proofs.ObservedLemmas.Removable.{AllBase}
use Rattle.law_choices.proofs.EmbeddedLemmas.Alike.{Alike}
use Rattle.law_choices.proofs.EmbeddedLemmas.Lines.{AreHanded, IsTold, body_then, given_outputs, handed_same, input_behind, input_front, line_names, lines_in, lines_law, lines_values, names_then, told_by, told_law, told_to}
use Rattle.law_choices.proofs.EmbeddedLemmas.Put.{parts_made, put_behind, put_defined, put_law}

-- ---- the own past of what is always there

pub own_there : (past : Past) → AllByRecursion (λ (t : Instant). t (Observer ∷ Fresh ∷ []) ≡ B false) past → own (parts Observer past) ≡ parts Observer past
own_there [] h = refl
own_there (t ∷ past) h = ap (λ v. own_with v (part Observer t) (own (parts Observer past))) h.0 ∙ ap (λ is. part Observer t ∷ is) (own_there past h.1)

own_made : (n : Node) (c : Contract) (es : Eqns) (past : Past) → own (map (body_then n c es) past) ≡ map (body_then n c es) past
own_made n c es [] = refl
own_made n c es (t ∷ past) = ap (λ is. body_then n c es t ∷ is) (own_made n c es past)

-- ---- last values

-- the last value of a name, by what its declaration says
abbrev last_value : Option Const → Value → (Const → Value) → Value
last_value o v f = elim o [ None ↦ v | Some k ↦ f k ]

module _ (value : Const → Value) where
  no_lasts : (ds : List Decl) (past : Past) (out : Names) (x : List ℕ) → declares ds x ≡ false → lasts value ds past out x ≡ out x
  no_lasts [] past out x h = refl
  no_lasts (d ∷ ds) past out x h = by (bytes_eq d.name x) h (no_lasts ds past out x)
    where
      by : (b : Bool) → (b || declares ds x) ≡ false → (declares ds x ≡ false → lasts value ds past out x ≡ out x) → (if b then last_value d.last (out x) (λ k. previous past x (value k)) else lasts value ds past out x) ≡ out x
      by true k f = absurd cc
      by false k f = f k

  lasts_same : (ds more : List Decl) (past other : Past) (out away : Names) (x : List ℕ) → (IsTrue (declares ds x) → (v : Value) → previous past x v ≡ previous other x v) → (IsTrue (declares ds x) → out x ≡ away x)
      → (declares ds x ≡ false → out x ≡ lasts value more other away x) → lasts value ds past out x ≡ lasts value (ds ++ more) other away x
  lasts_same [] more past other out away x f g h = h refl
  lasts_same (d ∷ ds) more past other out away x f g h = by (bytes_eq d.name x) f g h (lasts_same ds more past other out away x)
    where
      here : (o : Option Const) → ((v : Value) → previous past x v ≡ previous other x v) → out x ≡ away x → last_value o (out x) (λ k. previous past x (value k)) ≡ last_value o (away x) (λ k. previous other x (value k))
      here None p q = q
      here (Some k) p q = p (value k)

      by : (b : Bool) → (IsTrue (b || declares ds x) → (v : Value) → previous past x v ≡ previous other x v) → (IsTrue (b || declares ds x) → out x ≡ away x) → ((b || declares ds x) ≡ false → out x ≡ lasts value more other away x)
          → ((IsTrue (declares ds x) → (v : Value) → previous past x v ≡ previous other x v) → (IsTrue (declares ds x) → out x ≡ away x) → (declares ds x ≡ false → out x ≡ lasts value more other away x) → lasts value ds past out x ≡ lasts value (ds ++ more) other away x)
          → (if b then last_value d.last (out x) (λ k. previous past x (value k)) else lasts value ds past out x) ≡ (if b then last_value d.last (away x) (λ k. previous other x (value k)) else lasts value (ds ++ more) other away x)
      by true p q r rest = here d.last (p refl) (q refl)
      by false p q r rest = rest p q r

  no_outputs : (s : Decl) (t : Decl) (past : Past) (x : List ℕ) → s.last ≡ None → t.last ≡ None → lasts value (s ∷ t ∷ []) past absent x ≡ Absent
  no_outputs s t past x p q = by (bytes_eq s.name x) (bytes_eq t.name x)
    where
      none : (o : Option Const) → o ≡ None → last_value o Absent (λ k. previous past x (value k)) ≡ Absent
      none None e = refl
      none (Some k) e = absurd cc

      by : (a b : Bool) → (if a then last_value s.last Absent (λ k. previous past x (value k)) else if b then last_value t.last Absent (λ k. previous past x (value k)) else Absent) ≡ Absent
      by true b = none s.last p
      by false true = none t.last q
      by false false = refl

-- ---- an instant

module _ (types : List TypeDecl) (N M : Nodes) (n : Node) (c : Contract) (base : AllBase n.outputs) (known : (x : List ℕ) → IsTrue (interface n x) → IsOther x) (few : length n.outputs < 1000000) (ds : List Decl) (es : Eqns)
    (own_scoped : BlockScoped (interface n) no_names (block ds es)) (inner : BlockNames IsOther (block ds es)) where
  abbrev lines : List Eqn
  lines = lines_of n c

  abbrev all : Eqns
  all = eqns_of (list_of_eqns es ++ lines)

  abbrev locals : List Decl
  locals = ds ++ n.outputs

  abbrev seen : Standing
  seen x = on_base (declares n.inputs x || declares n.outputs x)

  abbrev value : Const → Value
  value k = real.constant (constant_of types k)

  output_free : (x : List ℕ) → IsTrue (declares n.outputs x) → some_defines es x ≡ false
  output_free x h = false_unless (some_defines es x) (λ k. own_scoped.1 x (eqn_local n c known ds es own_scoped inner x k) (or_left (declares n.outputs x) (also no_names n.inputs x) h))

  local_named : (t : Instant) (x : List ℕ) → IsTrue (some_defines es x) → names_then n c es t x ≡ t (Observer ∷ Named x ∷ [])
  local_named t x h = ap (λ b. if b then t (Observer ∷ Named x ∷ []) else line_names n c t x) h

  output_named : (t : Instant) (x : List ℕ) → IsTrue (declares n.outputs x) → names_then n c es t x ≡ t (Named x ∷ [])
  output_named t x h =
      let o = outputs_other n c known x h in
      let a = told_to c.assume (part Assume t) [] in
      let e = told_to c.enforce (part Enforce t) [] in
      ap (λ b. if b then t (Observer ∷ Named x ∷ []) else line_names n c t x) (output_free x h)
      ∙ ap (λ b. if b then a else if bytes_eq enforced x then e else if declares n.outputs x then t (Named x ∷ []) else Absent) o.assumed
      ∙ ap (λ b. if b then e else if declares n.outputs x then t (Named x ∷ []) else Absent) o.enforced ∙ ap (λ b. if b then t (Named x ∷ []) else Absent) h

  -- what the contract sees of the inputs and outputs, and what the observer does
  abbrev pub contract_names : List Value → Instant → Names
  contract_names row now x = if declares n.outputs x then now (Named x ∷ []) else input_of n.inputs row absent x

  abbrev pub observer_inputs : List Value → Instant → Names
  observer_inputs row now = input_of (n.inputs ++ inputs_for 0 n.outputs) (row ++ outputs_of_instant n.outputs now) absent

  abbrev observer_names : List Value → Instant → Names
  observer_names row now = inside all (observer_inputs row now) (body_then n c es now)

  named_there : (row : List Value) (now : Instant) (x : List ℕ) (v : Value) → IsTrue (some_defines all x) → names_then n c es now x ≡ v → observer_names row now x ≡ v
  named_there row now x v h q = ap (λ b. if b then names_then n c es now x else observer_inputs row now x) h ∙ q

  named_outside : (row : List Value) (now : Instant) (x : List ℕ) → some_defines all x ≡ false → observer_names row now x ≡ observer_inputs row now x
  named_outside row now x h = ap (λ b. if b then names_then n c es now x else observer_inputs row now x) h

  agree : (row : List Value) (now : Instant) → length row ≡ length n.inputs → Alike (standing_in ds es seen) (inside es (contract_names row now) (part Observer now)) (observer_names row now)
  agree row now l x clock h = by (some_defines es x) refl h
    where
      told : (b : Bool) → base_alone (on_base b) ≡ Some clock → IsTrue b
      told true q = refl
      told false q = absurd cc

      first : (a : Bool) → IsTrue (a || false) → IsTrue a
      first true p = refl
      first false p = absurd cc

      outside : some_defines es x ≡ false → (d : Bool) → declares n.outputs x ≡ d → IsTrue (declares n.inputs x || d) → contract_names row now x ≡ observer_names row now x
      outside q true o i =
          let there : some_defines all x ≡ true = defines_behind es lines x ∙ or_right (some_defines es x) (some_defines (eqns_of lines) x) (lines_define n c known x (outputs_other n c known x o) ∙ o) in
          ap (λ b. if b then now (Named x ∷ []) else input_of n.inputs row absent x) o ∙ sym (named_there row now x (now (Named x ∷ [])) there (output_named now x o))
      outside q false o i =
          let input = first (declares n.inputs x) i in
          let none : some_defines all x ≡ false = defines_behind es lines x ∙ ap₂ (λ a b. a || b) q (lines_define n c known x (inputs_other n c known x input) ∙ o) in
          ap (λ b. if b then now (Named x ∷ []) else input_of n.inputs row absent x) o
          ∙ sym (named_outside row now x none ∙ input_front n.inputs (inputs_for 0 n.outputs) row (outputs_of_instant n.outputs now) absent absent x l input)

      by : (b : Bool) → some_defines es x ≡ b → (if b then Some (clock_in ds x) else base_alone (seen x)) ≡ Some clock → (if b then now (Observer ∷ Named x ∷ []) else contract_names row now x) ≡ observer_names row now x
      by true q p =
          let there : some_defines all x ≡ true = defines_behind es lines x ∙ or_left (some_defines es x) (some_defines (eqns_of lines) x) q in
          sym (named_there row now x (now (Observer ∷ Named x ∷ [])) there (local_named now x q))
      by false q p = outside q (declares n.outputs x) refl (told (declares n.inputs x || declares n.outputs x) p)

  are_handed : (row : List Value) (now : Instant) → length row ≡ length n.inputs → AreHanded (observer_names row now) 0 n.outputs now
  are_handed row now l =
      handed_same (input_of (inputs_for 0 n.outputs) (outputs_of_instant n.outputs now) absent) (observer_names row now) 0 n.outputs now
      (λ j low high. named_outside row now (input_name j) (not_defined n c base known ds es own_scoped inner j)
      ∙ input_behind n.inputs (inputs_for 0 n.outputs) row (outputs_of_instant n.outputs now) absent (input_name j) l (none_declared n.inputs (input_name j) (inputs_other n c known) (input_not_other j)))
      (given_outputs 0 n.outputs now absent (omega (arith, few)))

  module _ (past before : Past) (there : AllByRecursion (λ (t : Instant). t (Observer ∷ Fresh ∷ []) ≡ B false) past) (made : parts Body before ≡ map (body_then n c es) past) where
    -- the last values
    abbrev pub contract_last : Names
    contract_last = lasts value ds (own (parts Observer past)) (lasts value n.outputs past absent)

    abbrev pub observer_last : Names
    observer_last = lasts value locals (own (parts Body before)) (lasts value (outputs_at c.span) before absent)

    own_before : own (parts Body before) ≡ map (body_then n c es) past
    own_before = ap own made ∙ own_made n c es past

    previous_local : (x : List ℕ) (v : Value) → IsTrue (declares ds x) → (ts : Past) → previous (parts Observer ts) x v ≡ previous (map (body_then n c es) ts) x v
    previous_local x v h [] = refl
    previous_local x v h (t ∷ ts) = sym (local_named t x (own_scoped.2 x h))

    previous_output : (x : List ℕ) (v : Value) → IsTrue (declares n.outputs x) → (ts : Past) → previous ts x v ≡ previous (map (body_then n c es) ts) x v
    previous_output x v h [] = refl
    previous_output x v h (t ∷ ts) = sym (output_named t x h)

    none_told : (x : List ℕ) → lasts value (outputs_at c.span) before absent x ≡ Absent
    none_told x = no_outputs value (declared assumed ty.Bool c.span) (declared enforced ty.Bool c.span) before x refl refl

    outputs_last : (x : List ℕ) → lasts value n.outputs past absent x ≡ lasts value n.outputs (map (body_then n c es) past) (lasts value (outputs_at c.span) before absent) x
    outputs_last x =
        let away : Names = lasts value (outputs_at c.span) before absent in
        lasts_same value n.outputs [] past (map (body_then n c es) past) absent away x (λ h v. previous_output x v h past) (λ h. sym (none_told x)) (λ h. sym (none_told x))
        ∙ ap (λ os. lasts value os (map (body_then n c es) past) away x) (append-nil n.outputs)

    last_at : (x : List ℕ) → contract_last x ≡ observer_last x
    last_at x =
        let away : Names = lasts value (outputs_at c.span) before absent in
        ap (λ ts. lasts value ds ts (lasts value n.outputs past absent) x) (own_there past there)
        ∙ lasts_same value ds n.outputs (parts Observer past) (map (body_then n c es) past) (lasts value n.outputs past absent) away x (λ h v. previous_local x v h past)
        (λ h. no_lasts value n.outputs past absent x (local_no_output n c known ds es own_scoped inner x h) ∙ sym (none_told x)) (λ h. outputs_last x)
        ∙ ap (λ ts. lasts value locals ts away x) (sym own_before)

    last_same : contract_last ≡ observer_last
    last_same = fun_ext last_at

    contract_parts : parts Equations (own (parts Observer past)) ≡ map (λ t. part Equations (part Observer t)) past
    contract_parts = parts_made Equations (part Observer) past (own (parts Observer past)) (own_there past there)

    observer_parts : parts Equations (own (parts Body before)) ≡ map (λ t. put_behind es (part Equations (part Observer t)) (lines_in n c t)) past
    observer_parts = parts_made Equations (body_then n c es) past (own (parts Body before)) own_before

    module _ (right : AllRight (standing_in ds es seen) ds es) (quiet : EqnsCallNothing es) (a_base : TellsOnBase (standing_in ds es seen) c.assume) (a_quiet : ToldCallsNothing c.assume) (e_base : TellsOnBase (standing_in ds es seen) c.enforce) (e_quiet : ToldCallsNothing c.enforce)
        (row : List Value) (l : length row ≡ length n.inputs) (free now : Instant)
        (block_is : part Observer now ≡ scope types real N (block ds es) false (contract_names row now) (lasts value n.outputs past absent) (given (own (parts Observer past)) (part Observer free)) (part Observer now))
        (assume_is : part Assume now ≡ told_by types N c.assume (inside es (contract_names row now) (part Observer now)) contract_last (given (parts Assume past) (part Assume free)) (part Assume now))
        (enforce_is : part Enforce now ≡ told_by types N c.enforce (inside es (contract_names row now) (part Observer now)) contract_last (given (parts Enforce past) (part Enforce free)) (part Enforce now)) where
      abbrev own_names : Names
      own_names = inside es (contract_names row now) (part Observer now)

      abbrev new_names : Names
      new_names = observer_names row now

      abbrev standing : Standing
      standing = standing_in ds es seen

      abbrev line_past : Past
      line_past = map (lines_in n c) past

      same_names : Alike standing own_names new_names
      same_names = agree row now l

      assume_told : IsTold types M locals new_names contract_last c.assume c.span assumed (parts Right (parts Head line_past)) (told_to c.assume (part Assume now))
      assume_told =
          told_law types N M standing own_names new_names contract_last same_names locals c.assume c.span assumed (clock_behind ds n.outputs base assumed ∙ new_clock n c base known ds es own_scoped inner assumed assumed_not_other) a_base a_quiet
          Assume now past (parts Right (parts Head line_past)) (part Assume free) (parts_made Right (λ t. part Head (lines_in n c t)) past (parts Head line_past) (parts_made Head (lines_in n c) past line_past refl)) assume_is

      enforce_told : IsTold types M locals new_names contract_last c.enforce c.span enforced (parts Right (parts Head (parts Tail line_past))) (told_to c.enforce (part Enforce now))
      enforce_told =
          told_law types N M standing own_names new_names contract_last same_names locals c.enforce c.span enforced (clock_behind ds n.outputs base enforced ∙ new_clock n c base known ds es own_scoped inner enforced enforced_not_other) e_base e_quiet
          Enforce now past (parts Right (parts Head (parts Tail line_past))) (part Enforce free)
          (parts_made Right (λ t. part Head (part Tail (lines_in n c t))) past (parts Head (parts Tail line_past)) (parts_made Head (λ t. part Tail (lines_in n c t)) past (parts Tail line_past) (parts_made Tail (lines_in n c) past line_past refl))) enforce_is

      abbrev equations_now : Instant
      equations_now = put_behind es (part Equations (part Observer now)) (lines_in n c now)

      abbrev new_past : Past
      new_past = parts Equations (own (parts Body before))

      equations_hold : (other : Instant) → equations_now ≡ equations types real M locals all new_names contract_last (given new_past other) equations_now
      equations_hold other =
          put_law types N M ds locals (clock_behind ds n.outputs base) standing own_names new_names contract_last same_names lines past (lines_in n c) (lines_in n c now)
          (lines_law types M locals new_names contract_last n c now line_past assume_told enforce_told (are_handed row now l))
          es (λ t. part Equations (part Observer t)) (parts Equations (own (parts Observer past))) new_past (part Equations (part Observer free)) other (part Equations (part Observer now)) contract_parts observer_parts (ap (part Equations) block_is) right quiet

      abbrev local_value : Names
      local_value x = defined types real N ds es own_names contract_last (given (parts Equations (own (parts Observer past))) (part Equations (part Observer free))) (part Equations (part Observer now)) x

      values_are : (other : Instant) (x : List ℕ) → defined types real M locals all new_names contract_last (given new_past other) equations_now x ≡ (if some_defines es x then local_value x else line_names n c now x)
      values_are other x =
          put_defined types N M ds locals (clock_behind ds n.outputs base) standing own_names new_names contract_last same_names lines past (lines_in n c) (lines_in n c now) (line_names n c now)
          (lines_values types M locals new_names contract_last n c now line_past assume_told enforce_told (are_handed row now l) a_quiet e_quiet)
          es (λ t. part Equations (part Observer t)) (parts Equations (own (parts Observer past))) new_past (part Equations (part Observer free)) other (part Equations (part Observer now)) contract_parts observer_parts right quiet x

      -- what no line defines has no value
      no_line : (x : List ℕ) → line_names n c now x ≡ (if some_defines (eqns_of lines) x then line_names n c now x else Absent)
      no_line x =
          let count : some_defines (eqns_of lines) x ≡ (bytes_eq assumed x || (bytes_eq enforced x || declares n.outputs x)) = λ d. or_false (bytes_eq assumed x) d || (or_false (bytes_eq enforced x) d || handed_defines 0 n.outputs x d) in
          lined (bytes_eq assumed x) (bytes_eq enforced x) (declares n.outputs x) (told_to c.assume (part Assume now) []) (told_to c.enforce (part Enforce now) []) (now (Named x ∷ []))
          ∙ ap (λ b. if b then line_names n c now x else Absent) (sym count)
        where
          lined : (a e o : Bool) (u v w : Value) → (if a then u else if e then v else if o then w else Absent) ≡ (if a || (e || o) then (if a then u else if e then v else if o then w else Absent) else Absent)
          lined true e o u v w = refl
          lined false true o u v w = refl
          lined false false true u v w = refl
          lined false false false u v w = refl

      named_then : (other : Instant) (x : List ℕ) → names_then n c es now x ≡ (if some_defines all x then defined types real M locals all new_names contract_last (given new_past other) equations_now x else Absent)
      named_then other x =
          choice (some_defines es x) (some_defines (eqns_of lines) x) (now (Observer ∷ Named x ∷ [])) (local_value x) (line_names n c now x) (ap (λ (i : Instant). i (Named x ∷ [])) block_is) (no_line x)
          ∙ sym (ap₂ (λ b v. if b then v else Absent) (defines_behind es lines x) (values_are other x))
        where
          choice : (b m : Bool) (u k l : Value) → u ≡ (if b then k else Absent) → l ≡ (if m then l else Absent) → (if b then u else l) ≡ (if b || m then (if b then k else l) else Absent)
          choice true m u k l p q = p
          choice false m u k l p q = q

      -- the body of the observer means what it holds
      pub block_holds : (other : Instant)
          → body_then n c es now ≡ scope types real M (block locals all) false (observer_inputs row now) (lasts value (outputs_at c.span) before absent) (given (own (parts Body before)) other) (body_then n c es now)
      block_holds other =
          ap₂ (λ f t. in_block f (B false) t) (fun_ext (named_then (part Equations other))) (equations_hold (part Equations other))
          ∙ ap (λ last. in_block (λ x. if some_defines all x then defined types real M locals all new_names last (given new_past (part Equations other)) equations_now x else Absent) (B false) (equations types real M locals all new_names last (given new_past (part Equations other)) equations_now)) last_same
