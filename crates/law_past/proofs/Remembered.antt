-- In accepted programs the variables of a formula that a contract remembers are Boolean: they stand beside a last value, so they are on the base clock and never Nil.
use Rattle.std.proofs.Common.{◌≡◌, ℕ, Bool, true, false, ◌&&◌, ◌||◌, if◌then◌else◌, List, [], ◌∷◌, reverse, Option, None, Some, refl, sym, ap, subst, ◌∙◌}
use Rattle.std.specs.Str.{bytes_eq}
use Rattle.std.proofs.lemmas.Slice.Eq.{bytes_eq-Decides}
use Rattle.hp_base.specs.Known.Known.{lookup}
use Rattle.hp_base.specs.declared.span.Span.{Span}
use Rattle.hp_base.specs.declared.ty.Const.{Const}
use Rattle.hp_base.specs.declared.ty.Const.TheVariants as constant
use Rattle.hp_base.specs.declared.ty.Ty.{Ty}
use Rattle.hp_base.specs.declared.ty.Ty.TheVariants as ty
use Rattle.hp_base.specs.declared.value.Value.{Value}
use Rattle.hp_base.specs.declared.value.Value.TheVariants.{Absent, Nil, B, I, E, Star}
use Rattle.hp_lexer.specs.declared.token.Token.{Token}
use Rattle.hp_tree.specs.declared.expr.Op2.{Op2}
use Rattle.hp_tree.specs.declared.expr.Op2.TheVariants.{And, Or}
use Rattle.hp_tree.specs.declared.program.Item.{Item}
use Rattle.hp_tree.specs.declared.program.Item.TheVariants.{TypeItem, NodeItem}
use Rattle.hp_tree.specs.Blocks.{Decl, Block, block, Eqns, no_eqn, more_eqns, Eqn, define, switch, reset, automaton}
use Rattle.hp_tree.specs.Expressions.{Expr, variable, last_of, two}
use Rattle.hp_tree.specs.Instant.{Clock, Equations, Head, Instant, Named, Observer, Past, Place, Tail, part, parts}
use Rattle.hp_tree.specs.Meaning.{Names, clock_in, clock_of, declares, defines, inside as inside_names, node_among, some_defines, types_of}
use Rattle.hp_tree.specs.Programs.{TypeDecl, Contract, Node}
use Rattle.hp_tree.specs.Reaction.{Each}
use Rattle.hp_meaning.specs.Causal.Clocked.{AllRight, BlockRight, ContractRight, IsOn, OneRight, Standing, base_alone, on_base, standing_in}
use Rattle.hp_meaning.proofs.CausalLemmas.Ranking.{all_ranks_enough}
use Rattle.hp_typing.specs.Scopes.{inside_node, with_variables}
use Rattle.hp_typing.specs.Types.{agrees, answer, operand, two_type, type_of, where_true}
use Rattle.hp_init.specs.Classes.{Assignment, BlockFollows, ContractFollows, EqnFollows, EqnsFollow, Known, VariableFollows, is_second, known_in, known_outputs, or_first, with_declared}
use Rattle.law_judged.specs.Typed.Scopes.{Scope}
use Rattle.law_values.specs.Accepted.Laws.{IsReady}
use Rattle.law_values.specs.Valued.Classed.{BlockDefinite, ContractDefinite, LastFirst, LastsFirst, none_second, seen_in_block, seen_in_contract, seen_in_node}
use Rattle.law_values.specs.Valued.Fitting.{BlockFits, ContractFits, Fits, HasValue, NamesFit, NodeFits, Presence, contract_names, held}
use Rattle.law_values.specs.Valued.Judged.{BlockSound, ContractSound, EqnSound, EqnsSound, Lasts, RightSound, lasts_in, no_lasts}
use Rattle.law_values.specs.Valued.Values.{AreAccepted, Classing, InstantFits, NodeAccepted, class_behind, class_here, either_of, scope_behind}
use Rattle.law_values.proofs.AcceptedLemmas.Laws.{accepted, ready_text}
use Rattle.law_values.proofs.ValuedLemmas.Programs.{real_values}
use Rattle.hp_past.specs.Remembered.{Remembered, once, historically, since, AreBoolean, Keeps}
use Rattle.hp_past.specs.Remembering.{IsBoolean, defined_as, last_among, right_side}
use Rattle.hp_past.proofs.ReactionLaws.{remembered, whole-past}
use Rattle.law_past.proofs.Holding.{some_is}
use Rattle.law_past.specs.Remembered.{BooleanLaw, FormulaLaw, IsChecked}

-- ---- the equation of a variable

same-name : (x y : List ℕ) → (bytes_eq x y || false) ≡ true → x ≡ y
same-name x y h = (bytes_eq-Decides x y).0 (by (bytes_eq x y) h)
  where
    by : (b : Bool) → (b || false) ≡ true → b ≡ true
    by true k = refl
    by false k = absurd cc

module _ (v : List ℕ) (e : Expr) where
  -- it stands on some clock
  abbrev IsSomewhere : Standing → Type 0
  IsSomewhere names = (clock : Clock) × IsOn names e clock

  right_on : (names : Standing) (ds : List Decl) (es : Eqns) → AllRight names ds es → defined_as es v ≡ Some e → IsSomewhere names
  right_on names ds no_eqn h d = absurd cc
  right_on names ds (more_eqns q es) h d = by (defines q v) (right_on names ds es h.1) d
    where
      one : (q : Eqn) → OneRight names ds q → right_side q v ≡ Some e → IsSomewhere names
      one (define s [] f) r p = absurd cc
      one (define s (y ∷ []) f) r p = (clock_of ds (y ∷ []) f, subst (λ g. IsOn names g (clock_of ds (y ∷ []) f)) (some_is f e p) r.2)
      one (define s (y ∷ z ∷ ys) f) r p = absurd cc
      one (switch s f arms) r p = absurd cc
      one (reset s b f) r p = absurd cc
      one (automaton s qs) r p = absurd cc

      by : (same : Bool) → (defined_as es v ≡ Some e → IsSomewhere names) → (if same then right_side q v else defined_as es v) ≡ Some e → IsSomewhere names
      by true rest p = one q h.0 p
      by false rest p = rest p

  -- the variable has its class
  right_follows : (k : Known) (class : Assignment) (es : Eqns) → EqnsFollow k class es → defined_as es v ≡ Some e → VariableFollows (k.variables v) (is_second k.values e)
  right_follows k class no_eqn h d = absurd cc
  right_follows k class (more_eqns q es) h d = by (defines q v) refl (right_follows k (λ p. class (Tail ∷ p)) es h.1) d
    where
      one : (q : Eqn) → defines q v ≡ true → EqnFollows k (λ p. class (Head ∷ p)) q → right_side q v ≡ Some e → VariableFollows (k.variables v) (is_second k.values e)
      one (define s [] f) is r p = absurd cc
      one (define s (y ∷ []) f) is r p =
          subst (λ x. VariableFollows (k.variables x) (is_second k.values e)) (same-name y.0 v is) (subst (λ g. VariableFollows (k.variables y.0) (is_second k.values g)) (some_is f e p) r.0)
      one (define s (y ∷ z ∷ ys) f) is r p = absurd cc
      one (switch s f arms) is r p = absurd cc
      one (reset s b f) is r p = absurd cc
      one (automaton s qs) is r p = absurd cc

      by : (same : Bool) → defines q v ≡ same → (defined_as es v ≡ Some e → VariableFollows (k.variables v) (is_second k.values e)) → (if same then right_side q v else defined_as es v) ≡ Some e
          → VariableFollows (k.variables v) (is_second k.values e)
      by true is rest p = one q is h.0 p
      by false is rest p = rest p

module _ (types : List TypeDecl) (among : List ℕ → Option Node) (s : Scope) (lasts : Lasts) (v : List ℕ) (w : Span) (op : Op2) (a b : Expr) where
  abbrev HasType : Type 0
  HasType = (t : Ty) × (type_of s (two w op a b) ≡ Some t)

  -- an operator has a type
  right_types : (es : Eqns) → EqnsSound types among s lasts es → defined_as es v ≡ Some (two w op a b) → HasType
  right_types no_eqn h d = absurd cc
  right_types (more_eqns q es) h d = by (defines q v) (right_types es h.1) d
    where
      one : (q : Eqn) → EqnSound types among s lasts q → right_side q v ≡ Some (two w op a b) → HasType
      one (define z [] f) r p = absurd cc
      one (define z (y ∷ []) f) r p =
          let right : RightSound types among s lasts (y ∷ []) (two w op a b) = subst (λ g. RightSound types among s lasts (y ∷ []) g) (some_is f (two w op a b) p) r in
          (right.1.0, right.1.1.0)
      one (define z (y ∷ x ∷ ys) f) r p = absurd cc
      one (switch z f arms) r p = absurd cc
      one (reset z c f) r p = absurd cc
      one (automaton z qs) r p = absurd cc

      by : (same : Bool) → (defined_as es v ≡ Some (two w op a b) → HasType) → (if same then right_side q v else defined_as es v) ≡ Some (two w op a b) → HasType
      by true rest p = one q h.0 p
      by false rest p = rest p

-- ---- a variable that is declared `last`

module _ (v : List ℕ) (c : Const) (class : Assignment) where
  record IsFirst (ds : List Decl) : Type 0 where
    declared : declares ds v ≡ true
    class_is : class (Named v ∷ []) ≡ false

  last_is_first : (ds : List Decl) → LastsFirst class ds → last_among ds v ≡ Some c → IsFirst ds
  last_is_first [] h l = absurd cc
  last_is_first (d ∷ ds) h l = by (bytes_eq d.name v) refl (last_is_first ds h.1) l
    where
      first : (o : Option Const) → o ≡ Some c → LastFirst o (class (Named d.name ∷ [])) → class (Named d.name ∷ []) ≡ false
      first None k f = absurd cc
      first (Some x) k f = f

      by : (same : Bool) → bytes_eq d.name v ≡ same → (last_among ds v ≡ Some c → IsFirst ds) → (if same then d.last else last_among ds v) ≡ Some c → IsFirst (d ∷ ds)
      by true is rest k = record {
        declared = ap (λ z. z || declares ds v) is;
        class_is = subst (λ x. class (Named x ∷ []) ≡ false) ((bytes_eq-Decides d.name v).0 is) (first d.last k h.0);
      }
      by false is rest k = let r = rest k in record { declared = ap (λ z. z || declares ds v) is ∙ r.declared; class_is = r.class_is }

-- ---- what the right side reads

-- the operands of a conjunction or a disjunction are Boolean
agreed : (o : Option Ty) → agrees (Some ty.Bool) o ≡ true → o ≡ Some ty.Bool
agreed None h = absurd cc
agreed (Some ty.Bool) h = refl
agreed (Some ty.Int) h = absurd cc
agreed (Some (ty.Enum x)) h = absurd cc

abbrev IsLogical : Op2 → Type 0
IsLogical op = (t : Option Ty) → operand op t ≡ Some ty.Bool

or_logical : IsLogical Or
or_logical t = refl

and_logical : IsLogical And
and_logical t = refl

operands : (op : Op2) (o p : Option Ty) (t : Ty) → IsLogical op → two_type op o p ≡ Some t → (o ≡ Some ty.Bool) × (p ≡ Some ty.Bool)
operands op o p t l h =
    by (agrees (operand op o) o) (agrees (operand op o) p) refl refl h
  where
    by : (x y : Bool) → agrees (operand op o) o ≡ x → agrees (operand op o) p ≡ y → where_true (x && y) (Some (answer op)) ≡ Some t → (o ≡ Some ty.Bool) × (p ≡ Some ty.Bool)
    by true true f g k = (agreed o (sym (ap (λ z. agrees z o) (l o)) ∙ f), agreed p (sym (ap (λ z. agrees z p) (l o)) ∙ g))
    by true false f g k = absurd cc
    by false y f g k = absurd cc

neither : (x y : Bool) → (x || y) ≡ false → (x ≡ false) × (y ≡ false)
neither true y h = absurd cc
neither false y h = (refl, h)

not-second : (x y : Bool) → x ≡ false → VariableFollows (Some x) y → y ≡ false
not-second x true h f = sym (f refl) ∙ h
not-second x false h f = refl

-- ---- a block

-- What the judgements say of a block that is accepted, where it stands.
record IsJudgedBlock (types : List TypeDecl) (among : List ℕ → Option Node) (out : Scope) (lasts : Lasts) (names : Standing) (k : Known) (class : Assignment) (ds : List Decl) (es : Eqns) : Type 0 where
  sound : EqnsSound types among (with_variables out ds) (lasts_in ds lasts) es
  right : AllRight (standing_in ds es names) ds es
  follow : EqnsFollow (known_in (block ds es) class k) (λ p. class (Equations ∷ p)) es
  first : LastsFirst class ds

module _ (types : List TypeDecl) (nils : Bool) (callee : List ℕ → Instant → Type 0) (among : List ℕ → Option Node) (out : Scope) (lasts : Lasts) (names : Standing) (k : Known) (class : Assignment) (ds : List Decl) (es : Eqns)
    (j : IsJudgedBlock types among out lasts names k class ds es) where
  abbrev s : Scope
  s = with_variables out ds

  abbrev stand : Standing
  stand = standing_in ds es names

  abbrev known : Known
  known = known_in (block ds es) class k

  abbrev seen : Assignment
  seen p = seen_in_block k class (block ds es) p

  -- an operand that is read on the base clock, is Boolean and First
  record IsOperand (n : List ℕ) : Type 0 where
    on : stand n ≡ Some []
    type : lookup s.variables n ≡ Some ty.Bool
    first : known.values n ≡ false

  value_is : (v : Value) → HasValue types ty.Bool false v → (b : Bool) × (v ≡ B b)
  value_is Absent h = absurd h
  value_is Nil h = absurd cc
  value_is (B b) h = (b, refl)
  value_is (I n) h = absurd h
  value_is (E t n) h = absurd h
  value_is Star h = absurd h

  -- has a truth value at each instant that fits
  operand_value : (n : List ℕ) → IsOperand n → some_defines es n ≡ true → (there : Presence) → there [] ≡ true → (i : Instant) → NamesFit types nils callee ds es s seen there i → IsBoolean n i
  operand_value n o d there base i fits = value_is (i (Named n ∷ [])) fitted
    where
      on_base : clock_in ds n ≡ []
      on_base = some_is (clock_in ds n) [] (sym (ap (λ z. if z then Some (clock_in ds n) else base_alone (names n)) d) ∙ o.on)

      class_is : seen (Named n ∷ []) ≡ false
      class_is = sym (ap (λ z. if z then or_first (with_declared ds class k.variables n) else k.values n) d) ∙ o.first

      fitted : HasValue types ty.Bool false (i (Named n ∷ []))
      fitted =
          subst (λ z. Fits types z (Some ty.Bool) false (i (Named n ∷ []))) (λ j. d j && (ap there on_base ∙ base) j)
          (subst (λ z. Fits types (some_defines es n && there (clock_in ds n)) (Some ty.Bool) (z && nils) (i (Named n ∷ []))) class_is
          (subst (λ t. Fits types (some_defines es n && there (clock_in ds n)) t (seen (Named n ∷ []) && nils) (i (Named n ∷ []))) o.type (fits n).0))

  -- an expression is read on a clock, has a type and is First
  record IsRead (clock : Clock) (t : Ty) (e : Expr) : Type 0 where
    on : IsOn stand e clock
    type : type_of s e ≡ Some t
    first : is_second known.values e ≡ false

  -- so it is of the right side of a variable that is declared `last`,
  right_read : (v : List ℕ) (c : Bool) (w : Span) (op : Op2) (a b : Expr) → last_among ds v ≡ Some (constant.B c) → defined_as es v ≡ Some (two w op a b) → (clock : Clock) × (t : Ty) × IsRead clock t (two w op a b)
  right_read v c w op a b last d =
      let e = two w op a b in
      let on = right_on v e stand ds es j.right d in
      let t = right_types types among s (lasts_in ds lasts) v w op a b es j.sound d in
      let f = last_is_first v (constant.B c) class ds j.first last in
      let follows = right_follows v e known (λ p. class (Equations ∷ p)) es j.follow d in
      let known_is : known.variables v ≡ Some (class (Named v ∷ [])) = ap (λ z. if z then Some (class (Named v ∷ [])) else k.variables v) f.declared in
      let second = not-second (class (Named v ∷ [])) (is_second known.values e) f.class_is (subst (λ o. VariableFollows o (is_second known.values e)) known_is follows) in
      (on.0, t.0, record { on = on.1; type = t.1; first = second })

  -- and of its operands, which are Boolean
  operands_read : (clock : Clock) (t : Ty) (w : Span) (op : Op2) (a b : Expr) → IsLogical op → IsRead clock t (two w op a b) → IsRead clock ty.Bool a × IsRead clock ty.Bool b
  operands_read clock t w op a b l r =
      let both = operands op (type_of s a) (type_of s b) t l r.type in
      let first = neither (is_second known.values a) (is_second known.values b) r.first in
      (record { on = r.on.0; type = both.0; first = first.0 }, record { on = r.on.1; type = both.1; first = first.1 })

  -- beside a last value
  beside_last : (clock : Clock) (z : Ty) (x y : Span) (n v : List ℕ) → IsRead clock ty.Bool (variable x n) → IsRead clock z (last_of y v) → IsOperand n
  beside_last clock z x y n v r q = record { on = r.on ∙ ap Some q.on; type = r.type; first = r.first }

  single : (v : List ℕ) (c : Bool) (w x y : Span) (op : Op2) (n : List ℕ) → IsLogical op → last_among ds v ≡ Some (constant.B c) → defined_as es v ≡ Some (two w op (variable x n) (last_of y v)) → IsOperand n
  single v c w x y op n l last d =
      let r = right_read v c w op (variable x n) (last_of y v) last d in
      let both = operands_read r.0 r.1 w op (variable x n) (last_of y v) l r.2 in
      beside_last r.0 ty.Bool x y n v both.0 both.1

  double : (v : List ℕ) (c : Bool) (w x y z u : Span) (n1 n2 : List ℕ) → last_among ds v ≡ Some (constant.B c) → defined_as es v ≡ Some (two w Or (variable x n2) (two y And (variable z n1) (last_of u v)))
      → IsOperand n1 × IsOperand n2
  double v c w x y z u n1 n2 last d =
      let r = right_read v c w Or (variable x n2) (two y And (variable z n1) (last_of u v)) last d in
      let both = operands_read r.0 r.1 w Or (variable x n2) (two y And (variable z n1) (last_of u v)) or_logical r.2 in
      let inner = operands_read r.0 ty.Bool y And (variable z n1) (last_of u v) and_logical both.1 in
      (beside_last r.0 ty.Bool z u n1 v inner.0 inner.1, beside_last r.0 ty.Bool x u n2 v both.0 inner.1)

-- ---- a block that is judged

module _ (types : List TypeDecl) (nils : Bool) (callee : List ℕ → Instant → Type 0) (among : List ℕ → Option Node) (out : Scope) (lasts : Lasts) (names : Standing) (k : Known) (class : Assignment) where
  record IsJudged (b : Block) : Type 0 where
    sound : BlockSound types among out lasts b
    right : BlockRight names b
    follow : BlockFollows k class b
    definite : BlockDefinite k class b

  judged_block : (ds : List Decl) (es : Eqns) → IsJudged (block ds es) → IsJudgedBlock types among out lasts names k class ds es
  judged_block ds es j = record { sound = j.sound.1.1; right = j.right.1; follow = j.follow; first = j.definite.0 }

  module _ (around : Names) where
    abbrev FitsIn : Block → Instant → Type 0
    FitsIn b i = BlockFits types nils callee out none_second (seen_in_block k class b) around b i

    abbrev AllBoolean : Block → Remembered → Type 0
    AllBoolean b m = (i : Instant) → FitsIn b i → AreBoolean m (i ∷ [])

    remembered_boolean : (b : Block) → IsJudged b → (m : Remembered) → Keeps b m → AllBoolean b m
    remembered_boolean (block ds es) j (once n v) h i fits =
        let o = single types nils callee among out lasts names k class ds es (judged_block ds es j) v false h.1.0 h.1.1 h.1.2 Or n or_logical h.1.3.begins h.1.3.defined in
        (operand_value types nils callee among out lasts names k class ds es (judged_block ds es j) n o h.0 (held types nils callee (inside_names es around i)) refl i fits.0, tt)
    remembered_boolean (block ds es) j (historically n v) h i fits =
        let o = single types nils callee among out lasts names k class ds es (judged_block ds es j) v true h.1.0 h.1.1 h.1.2 And n and_logical h.1.3.begins h.1.3.defined in
        (operand_value types nils callee among out lasts names k class ds es (judged_block ds es j) n o h.0 (held types nils callee (inside_names es around i)) refl i fits.0, tt)
    remembered_boolean (block ds es) j (since n1 n2 v) h i fits =
        let o = double types nils callee among out lasts names k class ds es (judged_block ds es j) v false h.2.0 h.2.1 h.2.2 h.2.3 h.2.4 n1 n2 h.2.5.begins h.2.5.defined in (
          (operand_value types nils callee among out lasts names k class ds es (judged_block ds es j) n1 o.0 h.0 (held types nils callee (inside_names es around i)) refl i fits.0, tt),
          (operand_value types nils callee among out lasts names k class ds es (judged_block ds es j) n2 o.1 h.1 (held types nils callee (inside_names es around i)) refl i fits.0, tt),
        )

-- ---- the contract of a node

-- A formula's variables are Boolean at each of some instants of the contract's block.
abbrev AtEach : Remembered → Past → Type 0
AtEach m past = Each (λ i. AreBoolean m (part Observer i ∷ [])) past

at_each : (m : Remembered) (past : Past) → AtEach m past → AreBoolean m (parts Observer past)
at_each (once n v) past h = all past h
  where
    all : (past : Past) → AtEach (once n v) past → Each (IsBoolean n) (parts Observer past)
    all [] k = tt
    all (i ∷ past) k = (k.0.0, all past k.1)
at_each (historically n v) past h = all past h
  where
    all : (past : Past) → AtEach (historically n v) past → Each (IsBoolean n) (parts Observer past)
    all [] k = tt
    all (i ∷ past) k = (k.0.0, all past k.1)
at_each (since n1 n2 v) past h = (first past h, second past h)
  where
    first : (past : Past) → AtEach (since n1 n2 v) past → Each (IsBoolean n1) (parts Observer past)
    first [] k = tt
    first (i ∷ past) k = (k.0.0.0, first past k.1)

    second : (past : Past) → AtEach (since n1 n2 v) past → Each (IsBoolean n2) (parts Observer past)
    second [] k = tt
    second (i ∷ past) k = (k.0.1.0, second past k.1)

module _ (types : List TypeDecl) (nils : Bool) (callee : List ℕ → Instant → Type 0) (among : List ℕ → Option Node) (out : Scope) (lasts : Lasts) (names : Standing) (k : Known) (class : Assignment) (c : Contract) (m : Remembered) (keeps : Keeps c.body m) where
  -- whatever classes it has at its places
  contract_boolean : (o : Option Contract) → o ≡ Some c → ContractSound types among out lasts o → ContractRight names o → ContractFollows k class o → ContractDefinite k class o
      → (seen : Assignment) → ((p : Place) → seen (Observer ∷ p) ≡ seen_in_contract k class o p) → (around : Names) (i : Instant) → ContractFits types nils callee out seen around o i → AreBoolean m (part Observer i ∷ [])
  contract_boolean None e sound right follow definite seen same around i fits = absurd cc
  contract_boolean (Some d) e sound right follow definite seen same around i fits =
      let is : d ≡ c = some_is d c e in
      let kept : Keeps d.body m = subst (λ (z : Contract). Keeps z.body m) (sym is) keeps in
      remembered_boolean types nils callee among out lasts names k class around d.body (record { sound = sound.0; right = right.0; follow = follow; definite = definite }) m kept (part Observer i)
      (subst (λ (a : Assignment). BlockFits types nils callee out none_second a around d.body (part Observer i)) (λ j p. same p j) fits.0)

module _ (types : List TypeDecl) (nils : Bool) (callee : List ℕ → Instant → Type 0) (among : List ℕ → Option Node) (s : Scope) (class : Assignment) (n : Node) (a : NodeAccepted types among s class n) (c : Contract) (has : n.contract ≡ Some c) (m : Remembered)
    (keeps : Keeps c.body m) where
  node_boolean : (i : Instant) → NodeFits types nils callee s (seen_in_node class n) n i → AreBoolean m (part Observer i ∷ [])
  node_boolean i fits =
      contract_boolean types nils callee among (inside_node s n) (lasts_in n.outputs no_lasts) (λ x. on_base (declares n.inputs x || declares n.outputs x)) (known_outputs n class) (λ p. class (Observer ∷ p)) c m keeps n.contract has
      a.sound.1.1.1.1.1 a.clocks.contract a.classes.follow.0 a.classes.definite.0 (seen_in_node class n) (λ p. refl) (contract_names types nils callee n i) i fits.1

-- ---- the node of a name, in an accepted program

pub record IsFound (types : List TypeDecl) (nils : Bool) (class : Classing) (items : List Item) (f : List ℕ) (n : Node) : Type 0 where
  pub others : List Item
  pub classing : Classing
  pub accepted : NodeAccepted types (node_among others) (scope_behind others) (class_here classing) n
  pub fits : (i : Instant) → InstantFits types nils class items f i
      → NodeFits types nils (InstantFits types nils (class_behind classing) others) (scope_behind others) (seen_in_node (class_here classing) n) n i

-- an instant fits as one of the first node, or as one of those before
abbrev Here : List TypeDecl → Bool → Classing → List Item → Node → Instant → Type 0
Here types nils class items m i = NodeFits types nils (InstantFits types nils (class_behind class) items) (scope_behind items) (seen_in_node (class_here class) m) m i

abbrev There : List TypeDecl → Bool → Classing → List Item → List ℕ → Instant → Type 0
There types nils class items f i = InstantFits types nils (class_behind class) items f i

pub found : (types : List TypeDecl) (nils : Bool) (class : Classing) (items : List Item) (f : List ℕ) (n : Node) → AreAccepted types class items → node_among items f ≡ Some n → IsFound types nils class items f n
found types nils class [] f n a e = absurd cc
found types nils class (TypeItem t ∷ items) f n a e =
    let r = found types nils class items f n a e in
    record { others = r.others; classing = r.classing; accepted = r.accepted; fits = r.fits }
found types nils class (NodeItem m ∷ items) f n a e = by (bytes_eq m.name f) refl (found types nils (class_behind class) items f n a.1) e
  where
    here : bytes_eq m.name f ≡ true → IsFound types nils class (NodeItem m ∷ items) f m
    here is = record { others = items; classing = class; accepted = a.0; fits = λ i h. subst (λ b. either_of b (Here types nils class items m i) (There types nils class items f i)) is h }

    by : (same : Bool) → bytes_eq m.name f ≡ same → (node_among items f ≡ Some n → IsFound types nils (class_behind class) items f n) → (if same then Some m else node_among items f) ≡ Some n
        → IsFound types nils class (NodeItem m ∷ items) f n
    by true is rest k = subst (IsFound types nils class (NodeItem m ∷ items) f) (some_is m n k) (here is)
    by false is rest k =
        let r = rest k in
        record { others = r.others; classing = r.classing; accepted = r.accepted; fits = λ i h. r.fits i (subst (λ b. either_of b (Here types nils class items m i) (There types nils class items f i)) is h) }

-- ---- the laws

pub ready : (text : List ℕ) (tokens : List Token) (program after : List Item) (ranks : List (List ℕ)) → IsChecked text tokens program after ranks → IsReady program after
ready text tokens program after ranks a = ready_text text tokens program after a.spelled a.read a.named a.typed a.defined a.formed a.initialised a.clocks

pub boolean_law : BooleanLaw
boolean_law text tokens program after ranks a f c now past r m keeps =
    subst (AreBoolean m) (sym (whole-past after f c r.contract r.inputs r.frees now past r.reaction)) (at_each m (now ∷ past) (each (now ∷ past) fitting))
  where
    accepts : (class : Classing) × AreAccepted (types_of after) class (reverse after)
    accepts = accepted program after (ready text tokens program after ranks a)

    fitting : Each (InstantFits (types_of after) true accepts.0 (reverse after) f) (now ∷ past)
    fitting = real_values after accepts.0 f r.contract.node r.inputs r.frees (now ∷ past) accepts.1 (all_ranks_enough after ranks a.fall) r.contract.is_node r.inputs_fit r.frees_fit r.reaction

    node_is : IsFound (types_of after) true accepts.0 (reverse after) f r.contract.node
    node_is = found (types_of after) true accepts.0 (reverse after) f r.contract.node accepts.1 r.contract.is_node

    each : (instants : Past) → Each (InstantFits (types_of after) true accepts.0 (reverse after) f) instants → AtEach m instants
    each [] h = tt
    each (i ∷ instants) h = (
      node_boolean (types_of after) true (InstantFits (types_of after) true (class_behind node_is.classing) node_is.others) (node_among node_is.others) (scope_behind node_is.others) (class_here node_is.classing) r.contract.node node_is.accepted c r.contract.has m keeps i
          (node_is.fits i h.0),
      each instants h.1,
    )

pub formula_law : FormulaLaw
formula_law text tokens program after ranks a f c now past r m keeps =
    remembered after f c r.contract r.inputs r.frees now past r.reaction m keeps (boolean_law text tokens program after ranks a f c now past r m keeps)
