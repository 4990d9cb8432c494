-- Nodes in turn answer, and no others answer so.
use Rattle.std.proofs.Common.{◌≡◌, ℕ, zero, suc, Bool, true, false, ◌||◌, if◌then◌else◌, List, [], ◌∷◌, map, refl, sym, ap, subst, ◌∙◌}
use Rattle.std.specs.Prelude.{⊤}
use Rattle.std.specs.List.{AllByRecursion}
use Rattle.std.specs.Str.{bytes_eq}
use Rattle.std.proofs.lemmas.Slice.Eq.{bytes_eq-Decides}
use Rattle.hp_base.specs.Kinds.{KindData, AreOfKinds}
use Rattle.hp_base.specs.declared.value.Value.{Value}
use Rattle.hp_obc.specs.Form.{has_name}
use Rattle.hp_obc.specs.Machines.{ObcType}
use Rattle.hp_obc.specs.Steps.{Names}
use Rattle.hp_flat.specs.declared.node.FlatTy.{FlatTy}
use Rattle.hp_flat.specs.declared.node.FlatTy.TheVariants.{Bool as FlatBool, Int as FlatInt, Enum as FlatEnum}
use Rattle.hp_flat.specs.declared.node.Variable.{Variable}
use Rattle.hp_flat.specs.Equations.{Clock, Right, operator, register, called, FlatEqn}
use Rattle.hp_flat.specs.Nodes.{FlatNode}
use Rattle.law_equations.specs.Meaning.Fitting.{IsTaken, EqnFits, Fits}
use Rattle.law_equations.specs.Meaning.Instants.{Instant, restarted, holds, atoms, unless, noted, history, since}
use Rattle.law_equations.specs.Meaning.Kinding.{Callees, HasValue, kind_of_type, variable_kind, kinds_at, IsPossible, IsWellMade, AnswersOfKinds, AllOfKinds, OneReaction, OneReactionLaw, OutputsOfKindsLaw}
use Rattle.law_equations.specs.Meaning.Reactions.{Answers, inputs_of, right_gives, Holds, Reaction, outputs_at}
use Rattle.law_equations.specs.Followed.Programs.{CallsAmong, CallsOnly, Answered, all_answers}
use Rattle.law_choices.proofs.ClosedLemmas.ClosedLaws.{each_other, each_both}
use Rattle.law_choices.specs.OnClocks.Meaning.{AreInTurn, HasSome, GivesAnswers, AnswersAlike, MeaningLaw}
use Rattle.law_choices.proofs.OnClocksLemmas.Clamped.{all_clamped, all_clamped_are, each_clamped_are, each_clamped_stay}

or_right : (a b : Bool) → b ≡ true → (a || b) ≡ true
or_right true b h = refl
or_right false b h = h

same_name : (x y : List ℕ) → bytes_eq x y ≡ true → x ≡ y
same_name x y h = (bytes_eq-Decides x y).0 h

is_same : (x : List ℕ) → bytes_eq x x ≡ true
is_same x = (bytes_eq-Decides x x).1 refl

-- ---- reactions whose calls are answered alike

module _ (a b : Answers) (names : List (List ℕ)) (same : (f : List ℕ) → has_name names f ≡ true → (args : List Value) (before : List (List Value)) → a f args before ≡ b f args before) where
  right_same : (r : Right) (clock : Clock) (restart : List ℕ) (past : List Instant) (now : Instant) → CallsAmong names r → right_gives a clock restart past now r ≡ right_gives b clock restart past now r
  right_same (operator op args) clock restart past now h = refl
  right_same (register first next) clock restart past now h = refl
  right_same (called f args) clock restart past now h = same f h (atoms now args) (since clock restart (λ i. atoms i args) past now)

  reaction_same : (n : FlatNode) → CallsOnly names n.eqns → (inputs : List (List Value)) (instants : List Instant) → Reaction a n inputs instants → Reaction b n inputs instants
  reaction_same n calls [] [] r = tt
  reaction_same n calls [] (now ∷ past) r = absurd r
  reaction_same n calls (inputs ∷ earlier) [] r = absurd r
  reaction_same n calls (inputs ∷ earlier) (now ∷ past) r = (
    reaction_same n calls earlier past r.0,
    record {
      inputs_are = r.1.inputs_are;
      equations = each_both (λ (e : FlatEqn). CallsAmong names e.right) (Holds a past now) (Holds b past now) (λ e c h t. h t ∙ right_same e.right e.clock e.restart past now c) n.eqns calls r.1.equations;
      others = r.1.others;
    },
  )

-- ---- where arguments are of the kinds that nodes take

module _ {A : Type 0} (P : A → Type 0) where
  unless_each : (d : Bool) (h : List A) → AllByRecursion P h → AllByRecursion P (unless d h)
  unless_each true h r = tt
  unless_each false h r = r

  noted_each : (d : Bool) (x : A) (h : List A) → (d ≡ true → P x) → AllByRecursion P h → AllByRecursion P (noted d x h)
  noted_each true x h p r = (p refl, r)
  noted_each false x h p r = r

  history_each : (clock : Clock) (restart : List ℕ) (f : Instant → A) (past : List Instant) → AllByRecursion (λ (i : Instant). holds clock i ≡ true → P (f i)) past → AllByRecursion P (history clock restart f past)
  history_each clock restart f [] h = tt
  history_each clock restart f (i ∷ past) h =
      noted_each (holds clock i) (f i) (unless (restarted restart i) (history clock restart f past)) h.0 (unless_each (restarted restart i) (history clock restart f past) (history_each clock restart f past h.1))

module _ (a b : Answers) (takes : Names (List KindData)) (names : List (List ℕ)) (alike : (f : List ℕ) → has_name names f ≡ true → AnswersAlike a b takes f) where
  -- where an equation is there, what it calls takes its arguments
  abbrev Taken : FlatEqn → Instant → Type 0
  Taken e i = holds e.clock i ≡ true → IsTaken takes i e.right

  right_alike : (r : Right) (clock : Clock) (restart : List ℕ) (past : List Instant) (now : Instant) → CallsAmong names r → IsTaken takes now r → AllByRecursion (λ (i : Instant). holds clock i ≡ true → IsTaken takes i r) past
      → right_gives b clock restart past now r ≡ right_gives a clock restart past now r
  right_alike (operator op args) clock restart past now h t ts = refl
  right_alike (register first next) clock restart past now h t ts = refl
  right_alike (called f args) clock restart past now h t ts =
      alike f h (atoms now args) (since clock restart (λ i. atoms i args) past now) t
      (unless_each (AreOfKinds (takes f)) (restarted restart now) (history clock restart (λ i. atoms i args) past) (history_each (AreOfKinds (takes f)) clock restart (λ i. atoms i args) past ts))

  was_taken : (es : List FlatEqn) (past : List Instant) → AllByRecursion (λ (i : Instant). AllByRecursion (EqnFits takes i) es) past → AllByRecursion (λ (e : FlatEqn). AllByRecursion (Taken e) past) es
  was_taken es [] h = none es
    where
      none : (es : List FlatEqn) → AllByRecursion (λ (e : FlatEqn). AllByRecursion (Taken e) []) es
      none [] = tt
      none (e ∷ es) = (tt, none es)
  was_taken es (i ∷ past) h = each_both (EqnFits takes i) (λ (e : FlatEqn). AllByRecursion (Taken e) past) (λ (e : FlatEqn). AllByRecursion (Taken e) (i ∷ past)) (λ e f ts. (f.args_taken, ts)) es h.0 (was_taken es past h.1)

  pub reaction_alike : (n : FlatNode) → CallsOnly names n.eqns → (inputs : List (List Value)) (instants : List Instant) → AllByRecursion (Fits takes n) instants → Reaction b n inputs instants → Reaction a n inputs instants
  reaction_alike n calls [] [] fit r = tt
  reaction_alike n calls [] (now ∷ past) fit r = absurd r
  reaction_alike n calls (inputs ∷ earlier) [] fit r = absurd r
  reaction_alike n calls (inputs ∷ earlier) (now ∷ past) fit r =
      let taken = was_taken n.eqns past (each_other (Fits takes n) (λ (i : Instant). AllByRecursion (EqnFits takes i) n.eqns) (λ i f. f.eqns) past fit.1) in
      let asked =
      each_both (λ (e : FlatEqn). CallsAmong names e.right) (λ (e : FlatEqn). AllByRecursion (Taken e) past) (λ (e : FlatEqn). CallsAmong names e.right × AllByRecursion (Taken e) past) (λ e c t. (c, t)) n.eqns calls taken in
      let now_taken = each_both (λ (e : FlatEqn). CallsAmong names e.right × AllByRecursion (Taken e) past) (EqnFits takes now) (λ (e : FlatEqn). (CallsAmong names e.right × AllByRecursion (Taken e) past) × Taken e now) (λ e c f. (c, f.args_taken)) n.eqns asked fit.0.eqns in (
        reaction_alike n calls earlier past fit.1 r.0,
        record {
          inputs_are = r.1.inputs_are;
          equations =
              each_both (λ (e : FlatEqn). (CallsAmong names e.right × AllByRecursion (Taken e) past) × Taken e now) (Holds b past now) (Holds a past now)
              (λ e c h t. h t ∙ right_alike e.right e.clock e.restart past now c.0.0 (c.1 t) c.0.1) n.eqns now_taken r.1.equations;
          others = r.1.others;
        },
      )

-- ---- the newest outputs

abbrev newest_outputs : FlatNode → List Instant → List Value
newest_outputs n [] = []
newest_outputs n (now ∷ past) = outputs_at n now

-- ---- kinds that have values

type_some : (types : List ObcType) (t : FlatTy) → HasValue types t → HasSome (kind_of_type types t)
type_some types FlatBool h = tt
type_some types FlatInt h = tt
type_some types (FlatEnum t) h = h

variable_some : (types : List ObcType) (vs : List Variable) (x : ℕ) → AllByRecursion (λ (v : Variable). HasValue types v.ty) vs → HasSome (variable_kind types vs x)
variable_some types [] x h = tt
variable_some types (v ∷ vs) zero h = type_some types v.ty h.0
variable_some types (v ∷ vs) (suc x) h = variable_some types vs x h.1

pub kinds_some : (types : List ObcType) (n : FlatNode) (xs : List ℕ) → AllByRecursion (λ (v : Variable). HasValue types v.ty) n.variables → AllByRecursion HasSome (kinds_at types n xs)
kinds_some types n [] h = tt
kinds_some types n (x ∷ xs) h = (variable_some types n.variables x h, kinds_some types n xs h)

-- ---- what nodes take, in rows: what calls give a node, and what else it takes

-- A node takes one row for each list of arguments behind the earlier ones, of the kinds of its inputs; `row` says which.
pub record TakesRows (types : List ObcType) (callees : Callees) (row : Answers) (n : FlatNode) : Type 0 where
  pub rows : (args : List Value) (earlier : List (List Value)) → AreOfKinds (callees.takes n.name) args → AllByRecursion (AreOfKinds (callees.takes n.name)) earlier → AreOfKinds (kinds_at types n (inputs_of n)) (row n.name args earlier)
  pub some : AllByRecursion HasSome (callees.takes n.name)
  pub gives : callees.gives n.name ≡ kinds_at types n n.outputs

-- What is answered on arguments are the outputs of a reaction over these rows.
pub record GivesRow (row answers : Answers) (n : FlatNode) (args : List Value) (earlier : List (List Value)) : Type 0 where
  pub now : Instant
  pub past : List Instant
  pub reaction : Reaction answers n (all_answers (row n.name) (args ∷ earlier)) (now ∷ past)
  pub answer : answers n.name args earlier ≡ outputs_at n now

abbrev pub GivesRows : Answers → Answers → Names (List KindData) → FlatNode → Type 0
GivesRows row answers takes n = (args : List Value) (earlier : List (List Value)) → AreOfKinds (takes n.name) args → AllByRecursion (AreOfKinds (takes n.name)) earlier → GivesRow row answers n args earlier

-- so it is in a reaction in which clocks fit
pub record FitsRow (row answers : Answers) (takes : Names (List KindData)) (n : FlatNode) (args : List Value) (earlier : List (List Value)) : Type 0 where
  pub given : GivesRow row answers n args earlier
  pub fit : AllByRecursion (Fits takes n) (given.now ∷ given.past)

abbrev pub FitsRows : Answers → Answers → Names (List KindData) → FlatNode → Type 0
FitsRows row answers takes n = (args : List Value) (earlier : List (List Value)) → AreOfKinds (takes n.name) args → AllByRecursion (AreOfKinds (takes n.name)) earlier → FitsRow row answers takes n args earlier

-- nodes in turn, which take such rows
abbrev pub RowsInTurn : List ObcType → Callees → Answers → List (List ℕ) → List FlatNode → Type 0
RowsInTurn types callees row earlier [] = ⊤
RowsInTurn types callees row earlier (n ∷ ns) =
    IsWellMade types callees n × TakesRows types callees row n × (has_name earlier n.name ≡ false) × CallsOnly earlier n.eqns × RowsInTurn types callees row (n.name ∷ earlier) ns

-- what they answer, and that nothing else is answered so
pub record RowsMeaning (callees : Callees) (row : Answers) (ns : List FlatNode) : Type 0 where
  pub answers : Answers
  pub typed : AnswersOfKinds answers callees
  pub answered : AllByRecursion (FitsRows row answers callees.takes) ns
  pub only : (others : Answers) → AnswersOfKinds others callees → AllByRecursion (GivesRows row others callees.takes) ns → AllByRecursion (λ (n : FlatNode). AnswersAlike answers others callees.takes n.name) ns

module _ (one : OneReactionLaw) (outputs_law : OutputsOfKindsLaw) (types : List ObcType) (callees : Callees) (row : Answers) where
  -- all rows of a node are of the kinds of its inputs
  pub rows_of_kinds : (n : FlatNode) → TakesRows types callees row n → (given : List (List Value)) → AllByRecursion (AreOfKinds (callees.takes n.name)) given → AllOfKinds types n (all_answers (row n.name) given)
  rows_of_kinds n takes [] h = tt
  rows_of_kinds n takes (args ∷ earlier) h = (takes.rows args earlier h.0 h.1, rows_of_kinds n takes earlier h.1)

  -- ---- one node more

  module _ (n : FlatNode) (well : IsWellMade types callees n) (rowed : TakesRows types callees row n) (before : Answers) (typed : AnswersOfKinds before callees) where
    abbrev taken : List KindData
    taken = callees.takes n.name

    -- arguments that are made to be of their kinds
    abbrev fitted : List Value → List (List Value) → List (List Value)
    fitted args earlier = map (all_clamped taken) (args ∷ earlier)

    abbrev its_reaction : (args : List Value) (earlier : List (List Value)) → OneReaction types callees before n (all_answers (row n.name) (fitted args earlier))
    its_reaction args earlier =
        one types callees before n well typed (all_answers (row n.name) (fitted args earlier)) (rows_of_kinds n rowed (fitted args earlier) (each_clamped_are taken (args ∷ earlier) rowed.some))

    abbrev own : List Value → List (List Value) → List Value
    own args earlier = newest_outputs n (its_reaction args earlier).instants

    newest_of_kinds : (inputs : List Value) (earlier : List (List Value)) (instants : List Instant) → Reaction before n (inputs ∷ earlier) instants → AllByRecursion (IsPossible types n) instants → AreOfKinds (kinds_at types n n.outputs) (newest_outputs n instants)
    newest_of_kinds inputs earlier [] r p = absurd r
    newest_of_kinds inputs earlier (now ∷ past) r p = outputs_law types callees n well now p.0

    own_of_kinds : (args : List Value) (earlier : List (List Value)) → AreOfKinds (callees.gives n.name) (own args earlier)
    own_of_kinds args earlier =
        let r = its_reaction args earlier in
        let first = all_clamped taken args in
        let others = map (all_clamped taken) earlier in
        subst (λ ks. AreOfKinds ks (own args earlier)) (sym rowed.gives) (newest_of_kinds (row n.name first others) (all_answers (row n.name) others) r.instants r.reaction r.possible)

    -- the node of this name answers so, others as before
    abbrev with_own : Answers
    with_own f args earlier = if bytes_eq n.name f then own args earlier else before f args earlier

    with_typed : AnswersOfKinds with_own callees
    with_typed f args earlier h g = by (bytes_eq n.name f) refl
      where
        by : (d : Bool) → bytes_eq n.name f ≡ d → AreOfKinds (callees.gives f) (if d then own args earlier else before f args earlier)
        by true e = subst (λ z. AreOfKinds (callees.gives z) (own args earlier)) (same_name n.name f e) (own_of_kinds args earlier)
        by false e = typed f args earlier h g

    with_own_is : (args : List Value) (earlier : List (List Value)) → with_own n.name args earlier ≡ own args earlier
    with_own_is args earlier = ap (λ d. if d then own args earlier else before n.name args earlier) (is_same n.name)

    with_others : (names : List (List ℕ)) → has_name names n.name ≡ false → (f : List ℕ) → has_name names f ≡ true → (args : List Value) (earlier : List (List Value)) → before f args earlier ≡ with_own f args earlier
    with_others names new f h args earlier = by (bytes_eq n.name f) refl
      where
        by : (d : Bool) → bytes_eq n.name f ≡ d → before f args earlier ≡ (if d then own args earlier else before f args earlier)
        by true e = absurd (let r : false ≡ true = sym new ∙ ap (has_name names) (same_name n.name f e) ∙ h in cc)
        by false e = refl

    -- So it answers, where later nodes leave these answers as they are.
    own_answered : (names : List (List ℕ)) → has_name names n.name ≡ false → CallsOnly names n.eqns → (b : Answers) → ((f : List ℕ) → has_name (n.name ∷ names) f ≡ true → (args : List Value) (earlier : List (List Value)) → with_own f args earlier ≡ b f args earlier)
        → FitsRows row b callees.takes n
    own_answered names new calls b same args earlier h g = by r.instants refl
      where
        r : OneReaction types callees before n (all_answers (row n.name) (fitted args earlier))
        r = its_reaction args earlier

        reaction : Reaction before n (all_answers (row n.name) (args ∷ earlier)) r.instants
        reaction = subst (λ z. Reaction before n (all_answers (row n.name) z) r.instants) (each_clamped_stay taken (args ∷ earlier) (h, g)) r.reaction

        later : Reaction b n (all_answers (row n.name) (args ∷ earlier)) r.instants
        later =
            reaction_same before b names (λ f i x y. with_others names new f i x y ∙ same f (or_right (bytes_eq n.name f) (has_name names f) i) x y) n calls (all_answers (row n.name) (args ∷ earlier)) r.instants reaction

        answer : b n.name args earlier ≡ newest_outputs n r.instants
        answer = sym (same n.name (ap (λ d. d || has_name names n.name) (is_same n.name)) args earlier) ∙ with_own_is args earlier

        by : (instants : List Instant) → r.instants ≡ instants → FitsRow row b callees.takes n args earlier
        by [] e = absurd (subst (λ z. Reaction b n (all_answers (row n.name) (args ∷ earlier)) z) e later)
        by (now ∷ past) e =
            record {
              given = record { now = now; past = past; reaction = subst (λ z. Reaction b n (all_answers (row n.name) (args ∷ earlier)) z) e later; answer = answer ∙ ap (newest_outputs n) e };
              fit = subst (λ z. AllByRecursion (Fits callees.takes n) z) e r.fit;
            }

  -- ---- all nodes

  -- What nodes answer behind those that answer already.
  record Built (names : List (List ℕ)) (before : Answers) (ns : List FlatNode) : Type 0 where
    answers : Answers
    typed : AnswersOfKinds answers callees
    same : (f : List ℕ) → has_name names f ≡ true → (args : List Value) (earlier : List (List Value)) → before f args earlier ≡ answers f args earlier
    answered : AllByRecursion (FitsRows row answers callees.takes) ns

  build : (names : List (List ℕ)) (ns : List FlatNode) (before : Answers) → AnswersOfKinds before callees → RowsInTurn types callees row names ns → Built names before ns
  build names [] before typed p = record { answers = before; typed = typed; same = λ f h args earlier. refl; answered = tt }
  build names (n ∷ ns) before typed p =
      let rest = build (n.name ∷ names) ns (with_own n p.0 p.1 before typed) (with_typed n p.0 p.1 before typed) p.4 in
      record {
        answers = rest.answers;
        typed = rest.typed;
        same = λ f h args earlier. with_others n p.0 p.1 before typed names p.2 f h args earlier ∙ rest.same f (or_right (bytes_eq n.name f) (has_name names f) h) args earlier;
        answered = (own_answered n p.0 p.1 before typed names p.2 p.3 rest.answers rest.same, rest.answered);
      }

  -- ---- no others

  module _ (a b : Answers) (typed_a : AnswersOfKinds a callees) (typed_b : AnswersOfKinds b callees) where
    one_alike : (names : List (List ℕ)) (n : FlatNode) → IsWellMade types callees n → TakesRows types callees row n → CallsOnly names n.eqns → ((f : List ℕ) → has_name names f ≡ true → AnswersAlike a b callees.takes f) → FitsRows row a callees.takes n → GivesRows row b callees.takes n
        → AnswersAlike a b callees.takes n.name
    one_alike names n well rowed calls alike answered gives args earlier h g =
        let x = (answered args earlier h g).given in
        let y = gives args earlier h g in
        let rows = all_answers (row n.name) (args ∷ earlier) in
        let given = rows_of_kinds n rowed (args ∷ earlier) (h, g) in
        let ra = one types callees a n well typed_a rows given in
        let rb = one types callees b n well typed_b rows given in
        let fit : AllByRecursion (Fits callees.takes n) (y.now ∷ y.past) = subst (λ z. AllByRecursion (Fits callees.takes n) z) (sym (rb.only (y.now ∷ y.past) y.reaction)) rb.fit in
        let as_a = reaction_alike a b callees.takes names alike n calls rows (y.now ∷ y.past) fit y.reaction in
        let same : y.now ∷ y.past ≡ x.now ∷ x.past = ra.only (y.now ∷ y.past) as_a ∙ sym (ra.only (x.now ∷ x.past) x.reaction) in
        y.answer ∙ ap (newest_outputs n) same ∙ sym x.answer

    all_alike : (names : List (List ℕ)) (ns : List FlatNode) → RowsInTurn types callees row names ns → ((f : List ℕ) → has_name names f ≡ true → AnswersAlike a b callees.takes f) → AllByRecursion (FitsRows row a callees.takes) ns → AllByRecursion (GivesRows row b callees.takes) ns
        → AllByRecursion (λ (n : FlatNode). AnswersAlike a b callees.takes n.name) ns
    all_alike names [] p alike answered gives = tt
    all_alike names (n ∷ ns) p alike answered gives =
        let here = one_alike names n p.0 p.1 p.3 alike answered.0 gives.0 in
        (here, all_alike (n.name ∷ names) ns p.4 (λ f h. by f here (bytes_eq n.name f) refl h) answered.1 gives.1)
      where
        by : (f : List ℕ) → AnswersAlike a b callees.takes n.name → (d : Bool) → bytes_eq n.name f ≡ d → (d || has_name names f) ≡ true → AnswersAlike a b callees.takes f
        by f here true e h = subst (λ z. AnswersAlike a b callees.takes z) (same_name n.name f e) here
        by f here false e h = alike f h

  pub rows_meaning : (ns : List FlatNode) → RowsInTurn types callees row [] ns → ((f : List ℕ) → AllByRecursion HasSome (callees.gives f)) → RowsMeaning callees row ns
  rows_meaning ns p some =
      let first : Answers = λ f args earlier. all_clamped (callees.gives f) [] in
      let built = build [] ns first (λ f args earlier h g. all_clamped_are (callees.gives f) [] (some f)) p in
      record {
        answers = built.answers;
        typed = built.typed;
        answered = built.answered;
        only = λ others typed gives. all_alike built.answers others built.typed typed [] ns p (λ f h. absurd cc) built.answered gives;
      }

-- ---- nodes that take what calls give them, and nothing else

abbrev arguments : Answers
arguments f args earlier = args

same_arguments : (f : List ℕ) (rows : List (List Value)) → all_answers (arguments f) rows ≡ rows
same_arguments f [] = refl
same_arguments f (args ∷ earlier) = ap (λ rest. args ∷ rest) (same_arguments f earlier)

argument_rows : (types : List ObcType) (callees : Callees) (earlier : List (List ℕ)) (ns : List FlatNode) → AreInTurn types callees earlier ns → RowsInTurn types callees arguments earlier ns
argument_rows types callees earlier [] p = tt
argument_rows types callees earlier (n ∷ ns) p =
    let headed = p.1 in (
      p.0,
      record {
        rows = λ args before h g. subst (λ ks. AreOfKinds ks args) headed.takes h;
        some = subst (AllByRecursion HasSome) (sym headed.takes) (kinds_some types n (inputs_of n) p.0.values);
        gives = headed.gives;
      },
      p.2,
      p.3,
      argument_rows types callees (n.name ∷ earlier) ns p.4,
    )

to_answered : (answers : Answers) (takes : Names (List KindData)) (n : FlatNode) → FitsRows arguments answers takes n → Answered answers takes n
to_answered answers takes n h args earlier k g =
    let r = h args earlier k g in
    let x = r.given in
    record { now = x.now; past = x.past; reaction = subst (λ z. Reaction answers n z (x.now ∷ x.past)) (same_arguments n.name (args ∷ earlier)) x.reaction; fit = r.fit; answer = x.answer }

of_answer : (answers : Answers) (takes : Names (List KindData)) (n : FlatNode) → GivesAnswers answers takes n → GivesRows arguments answers takes n
of_answer answers takes n h args earlier k g =
    let x = h args earlier k g in
    record { now = x.now; past = x.past; reaction = subst (λ z. Reaction answers n z (x.now ∷ x.past)) (sym (same_arguments n.name (args ∷ earlier))) x.reaction; answer = x.answer }

pub meaning_law : OneReactionLaw → OutputsOfKindsLaw → MeaningLaw
meaning_law one outputs_law types callees ns p some =
    let m = rows_meaning one outputs_law types callees arguments ns (argument_rows types callees [] ns p) some in
    record {
      answers = m.answers;
      typed = m.typed;
      answered = each_other (FitsRows arguments m.answers callees.takes) (Answered m.answers callees.takes) (to_answered m.answers callees.takes) ns m.answered;
      only = λ others typed gives. m.only others typed (each_other (GivesAnswers others callees.takes) (GivesRows arguments others callees.takes) (of_answer others callees.takes) ns gives);
    }
