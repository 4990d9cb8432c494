-- Automata may be removed from the observers of a program from which they may be.
use Rattle.std.proofs.Common.{arith, ◌≡◌, ℕ, ◌+◌, ◌<◌, ◌≤◌, true, false, ◌||◌, List, [], ◌∷◌, ◌++◌, length, refl, sym, ap, ap₂, subst, ◌∙◌}
use Rattle.std.specs.Prelude.{⊤, IsTrue, decimal, min, Option, None, Some}
use Rattle.std.specs.Str.{bytes_eq}
use Rattle.std.proofs.lemmas.Fmt.{length-decimal-le}
use Rattle.hp_base.specs.declared.span.Span.{Span}
use Rattle.hp_tree.specs.Expressions.{Expr}
use Rattle.hp_tree.specs.Blocks.{Decl, Block, block, Eqns, no_eqn, more_eqns, Eqn, eqns_of, list_of_eqns}
use Rattle.hp_tree.specs.Programs.{Contract, Node}
use Rattle.hp_tree.specs.Meaning.{declares, defines, some_defines}
use Rattle.hp_meaning.specs.Clocking.Clocking.{AreOnce}
use Rattle.law_judged.specs.Named.Scoped.{no_names, interface, NodeScoped, BlockScoped, ContractScoped}
use Rattle.law_judged.specs.Replaced.Fitting.{BlockNames, ContractNames}
use Rattle.law_judged.proofs.NamedLemmas.Sets.{or_left, or_right}
use Rattle.law_automata.specs.Lowered.OldNames.{some_digits, IsOld, OldExpr}
use Rattle.law_automata.specs.Lowered.Removable.{none_known, OldClock, DeclsOk, EqnsOk, BlockOk, ConditionOk, ContractOk, AllOldDecls, NodeOk}
use Rattle.law_automata.proofs.LoweredLemmas.Apart.{bytes_same, same_bytes}
use Rattle.law_automata.proofs.LoweredLemmas.Spelling.{number_digits}
use Rattle.hp_watch.specs.Observing.{assumed, enforced, input_name, equation, condition_of, all_handed_on, with_lines, lines_of, observer_of}
use Rattle.law_choices.specs.Observed.Contracts.{IsOther, IsObservable}
use Rattle.law_choices.proofs.ObservedLemmas.Bodies.{or_false, defines_behind, handed_defines, assumed_not_other, enforced_not_other, none_declared, outputs_other, lines_define, lines_apart, once_last}

-- ---- names

pub assumed_old : IsOld assumed
assumed_old = record { digits = λ h. refl; short = let l : 8 ≤ 262 = omega arith in l }

pub enforced_old : IsOld enforced
enforced_old = record { digits = λ h. refl; short = let l : 9 ≤ 262 = omega arith in l }

pub input_old : (i : ℕ) → i < 1000000 → IsOld (input_name i)
input_old i small =
    let same : min 999999 i ≡ i = omega (arith, small) in
    let digits : length (decimal i) ≤ 6 = length-decimal-le 6 i (omega arith) (omega (arith, small)) (omega (arith, small)) in
    let all : length (input_name i) ≤ 262 = omega (arith, digits) in
    record { digits = λ h. ap (λ k. some_digits (decimal k)) (sym same) ∙ number_digits i; short = all }

-- outputs are on the base clock
abbrev pub AllBase : List Decl → Type 0
AllBase [] = ⊤
AllBase (d ∷ ds) = (d.clock ≡ Some []) × AllBase ds

-- ---- declarations

decls_first : (es : Eqns) (more : List Eqn) (ds : List Decl) → DeclsOk none_known es ds → DeclsOk none_known (eqns_of (list_of_eqns es ++ more)) ds
decls_first es more [] h = tt
decls_first es more (d ∷ ds) h = (
  (h.0.0, h.0.1, defines_behind es more d.name ∙ or_left (some_defines es d.name) (some_defines (eqns_of more) d.name) h.0.2, h.0.3),
  decls_first es more ds h.1,
)

decls_both : (es : Eqns) (ds more : List Decl) → DeclsOk none_known es ds → DeclsOk none_known es more → DeclsOk none_known es (ds ++ more)
decls_both es [] more h k = k
decls_both es (d ∷ ds) more h k = (h.0, decls_both es ds more h.1 k)

outputs_ok : (es : Eqns) (ds : List Decl) → ((x : List ℕ) → IsTrue (declares ds x) → IsTrue (some_defines es x)) → AllOldDecls ds → AllBase ds → DeclsOk none_known es ds
outputs_ok es [] f old base = tt
outputs_ok es (d ∷ ds) f old base = (
  (old.0, refl, f d.name (or_left (bytes_eq d.name d.name) (declares ds d.name) (bytes_same d.name)), subst OldClock (sym base.0) tt),
  outputs_ok es ds (λ x h. f x (or_right (bytes_eq d.name x) (declares ds x) h)) old.1 base.1,
)

-- ---- equations

eqns_behind : (es : Eqns) (more : List Eqn) → ((x : List ℕ) → some_defines es x ≡ true → some_defines (eqns_of more) x ≡ false) → EqnsOk none_known 0 es → EqnsOk none_known 0 (eqns_of more) → EqnsOk none_known 0 (eqns_of (list_of_eqns es ++ more))
eqns_behind no_eqn more apart h k = k
eqns_behind (more_eqns e es) more apart h k = (
  (λ x q. defines_behind es more x ∙ ap₂ (λ a b. a || b) (h.0 x q) (apart x (or_left (defines e x) (some_defines es x) q))),
  h.1,
  eqns_behind es more (λ x q. apart x (or_right (defines e x) (some_defines es x) q)) h.2 k,
)

-- the only name of a left side
only : (es : Eqns) (y : List ℕ) → some_defines es y ≡ false → (x : List ℕ) → (bytes_eq y x || false) ≡ true → some_defines es x ≡ false
only es y h x q = subst (λ z. some_defines es z ≡ false) (same_bytes y x (sym (or_false (bytes_eq y x)) ∙ q)) h

handed_ok : (i : ℕ) (ds : List Decl) → i + length ds < 1000000 → AllOldDecls ds → AreOnce ds → EqnsOk none_known 0 (eqns_of (all_handed_on i ds))
handed_ok i [] l old once = tt
handed_ok i (d ∷ ds) l old once = (
  only (eqns_of (all_handed_on (i + 1) ds)) d.name (handed_defines (i + 1) ds d.name ∙ once.0),
  ((old.0, tt), input_old i (omega (arith, l))),
  handed_ok (i + 1) ds (omega (arith, l)) old.1 once.1,
)

condition_old : (o : Option Expr) (s : Span) → ConditionOk o → OldExpr (condition_of o s)
condition_old None s h = tt
condition_old (Some e) s h = h

module _ (n : Node) (c : Contract) (old : AllOldDecls n.outputs) (base : AllBase n.outputs) (once : AreOnce n.outputs) (names : (x : List ℕ) → IsTrue (interface n x) → IsOther x) (few : length n.outputs < 1000000) where
  no_output : (y : List ℕ) → (IsOther y → ⊥) → some_defines (eqns_of (all_handed_on 0 n.outputs)) y ≡ false
  no_output y f = handed_defines 0 n.outputs y ∙ none_declared n.outputs y (outputs_other n c names) f

  lines_ok : ConditionOk c.assume → ConditionOk c.enforce → EqnsOk none_known 0 (eqns_of (lines_of n c))
  lines_ok a g = (
    only (more_eqns (equation enforced c.span (condition_of c.enforce c.span)) (eqns_of (all_handed_on 0 n.outputs))) assumed (no_output assumed assumed_not_other),
    ((assumed_old, tt), condition_old c.assume c.span a),
    (
      only (eqns_of (all_handed_on 0 n.outputs)) enforced (no_output enforced enforced_not_other),
      ((enforced_old, tt), condition_old c.enforce c.span g),
      handed_ok 0 n.outputs (omega (arith, few)) old once,
    ),
  )

  body_ok : (b : Block) → BlockScoped (interface n) no_names b → BlockNames IsOther b → BlockOk none_known 0 b → ConditionOk c.assume → ConditionOk c.enforce → BlockOk none_known 0 (with_lines b n.outputs (lines_of n c))
  body_ok (block ds es) own inner ok a g = (
    decls_both (eqns_of (list_of_eqns es ++ lines_of n c)) ds n.outputs (decls_first es (lines_of n c) ds ok.0)
        (outputs_ok (eqns_of (list_of_eqns es ++ lines_of n c)) n.outputs (λ x h. defines_behind es (lines_of n c) x ∙ or_right (some_defines es x) (some_defines (eqns_of (lines_of n c)) x) (defined x h)) old base),
    eqns_behind es (lines_of n c) (lines_apart n c names ds es own inner) ok.1 (lines_ok a g),
  )
    where
      defined : (x : List ℕ) → IsTrue (declares n.outputs x) → IsTrue (some_defines (eqns_of (lines_of n c)) x)
      defined x h = lines_define n c names x (outputs_other n c names x h) ∙ h

pub observer_ok : (n : Node) (c : Contract) → n.contract ≡ Some c → NodeOk n → NodeScoped n → AllBase n.outputs → IsObservable n → NodeOk (observer_of n c)
observer_ok n c e ok scoped base o =
    let own : ContractOk (Some c) = subst ContractOk e ok.contract in
    record {
      outputs = (assumed_old, (enforced_old, tt));
      contract = tt;
      body = body_ok n c ok.outputs base (once_last n.inputs n.outputs scoped.once) o.interface o.few c.body (subst (ContractScoped (interface n)) e scoped.contract) (subst (ContractNames IsOther) e o.contract) own.0 own.1 own.2;
    }
