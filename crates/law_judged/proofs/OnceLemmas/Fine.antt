-- The new equations of inlined calls: each name has one of them.
use Rattle.std.proofs.Common.{ℕ, suc, ◌≤◌, ◌⊎◌, inl, inr, ⊎_elim, false, ◌||◌, List, [], ◌∷◌, ◌++◌, length, sym, subst, arith}
use Rattle.std.specs.Prelude.{IsTrue}
use Rattle.std.specs.Str.{bytes_eq}
use Rattle.hp_tree.specs.Expressions.{Exprs, no_expr, more_exprs}
use Rattle.hp_tree.specs.Blocks.{Decl, Block, block, Eqn, eqns_of, list_of_eqns}
use Rattle.hp_tree.specs.Programs.{Node}
use Rattle.hp_tree.specs.Meaning.{declares, defines, some_defines, controls_of}
use Rattle.hp_meaning.specs.Clocking.Clocking.{AreOnce}
use Rattle.law_judged.specs.Named.Scoped.{no_names, also, BlockScoped, interface}
use Rattle.law_judged.proofs.NamedLemmas.Sets.{or_cases, or_left, or_right, false_if, same_name}
use Rattle.hp_expand.specs.NewNames.{marked}
use Rattle.hp_expand.specs.Renaming.{renamed_decls, renamed_eqns}
use Rattle.hp_expand.specs.Replacing.{given, locals_of, equations_of}
use Rattle.law_judged.specs.Replaced.Fitting.{BlockNames, Covers, IsReady}
use Rattle.law_judged.proofs.ReplacedLemmas.Signs.{same_marked}
use Rattle.law_judged.proofs.ReplacedLemmas.Renaming.{renamed_there}
use Rattle.law_judged.proofs.ReplacedLemmas.Good.{InRange, in_out, range_behind, same_eqns, some_append, declared_left, declared_right, Good, good_none, good_both, renamed_append, new_locals, new_equations, good_call}
use Rattle.law_judged.specs.Once.Once.{BlockOnce, AllOnce}
use Rattle.law_judged.proofs.OnceLemmas.Renamed.{or_none, some_owned, Comes, some_back, all_renamed}

-- ---- equations one after another

pub some_cases : (a b : List Eqn) (x : List ℕ) → IsTrue (some_defines (eqns_of (a ++ b)) x) → IsTrue (some_defines (eqns_of a) x) ⊎ IsTrue (some_defines (eqns_of b) x)
some_cases a b x h = or_cases (some_defines (eqns_of a) x) (some_defines (eqns_of b) x) (subst IsTrue (some_append a b x) h)

abbrev pub Disjoint : List Eqn → List Eqn → Type 0
Disjoint a b = (x : List ℕ) → IsTrue (some_defines (eqns_of a) x) → IsTrue (some_defines (eqns_of b) x) → ⊥

pub append_once : (a b : List Eqn) → AllOnce (eqns_of a) → AllOnce (eqns_of b) → Disjoint a b → AllOnce (eqns_of (a ++ b))
append_once [] b h l f = l
append_once (e ∷ a) b h l f = (
  (λ x q. false_if (some_defines (eqns_of (a ++ b)) x) (λ r. by x q (some_cases a b x r))),
  (h.1.0, append_once a b h.1.1 l (λ x q r. f x (or_right (defines e x) (some_defines (eqns_of a) x) q) r)),
)
  where
    by : (x : List ℕ) → IsTrue (defines e x) → IsTrue (some_defines (eqns_of a) x) ⊎ IsTrue (some_defines (eqns_of b) x) → ⊥
    by x q (inl r) = absurd (cc (sym (h.0 x q), r))
    by x q (inr r) = f x (or_left (defines e x) (some_defines (eqns_of a) x) q) r

-- ---- declarations one after another

once_first : (ds es : List Decl) → AreOnce (ds ++ es) → AreOnce ds
once_first [] es o = tt
once_first (d ∷ ds) es o = (false_if (declares ds d.name) (λ h. absurd (cc (sym o.0, declared_left ds es d.name h))), once_first ds es o.1)

once_apart : (ds es : List Decl) → AreOnce (ds ++ es) → (x : List ℕ) → IsTrue (declares ds x) → IsTrue (declares es x) → ⊥
once_apart [] es o x h l = absurd (cc h)
once_apart (d ∷ ds) es o x h l =
    ⊎_elim (λ q. absurd (cc (sym o.0, declared_right ds es d.name (subst (λ z. IsTrue (declares es z)) (sym (same_name d.name x q)) l)))) (λ q. once_apart ds es o.1 x q l)
    (or_cases (bytes_eq d.name x) (declares ds x) h)

-- ---- new equations define their own variables, each once

pub first_fits : (m p : ℕ) → m ≤ p → p ≤ 1000000 → m ≤ 1000000
first_fits m p h f = omega (arith, h, f)

pub good_there : (k m : ℕ) (ds : List Decl) (es : List Eqn) → Good k m ds es → m ≤ 1000000 → (x : List ℕ) → IsTrue (some_defines (eqns_of es) x) → IsTrue (declares ds x)
good_there k m ds es g f x h = some_owned x (declares ds) (declares ds) (eqns_of es) (g.scoped f (declares ds) (declares ds) (λ y l. inr (inr l)) (λ y l. l)) h

pub good_in : (k m : ℕ) (ds : List Decl) (es : List Eqn) → Good k m ds es → m ≤ 1000000 → (x : List ℕ) → IsTrue (some_defines (eqns_of es) x) → InRange k m x
good_in k m ds es g f x h = g.range x (good_there k m ds es g f x h)

pub record Fine (k m : ℕ) (ds : List Decl) (es : List Eqn) : Type 0 where
  pub good : Good k m ds es
  pub once : m ≤ 1000000 → AllOnce (eqns_of es)

pub fine_none : (k : ℕ) → Fine k k [] []
fine_none k = record { good = good_none k; once = λ f. tt }

pub fine_both : (k m p : ℕ) (ds es : List Decl) (a b : List Eqn) → Fine k m ds a → Fine m p es b → Fine k p (ds ++ es) (a ++ b)
fine_both k m p ds es a b g h = record { good = good_both k m p ds es a b g.good h.good; once = once }
  where
    once : p ≤ 1000000 → AllOnce (eqns_of (a ++ b))
    once f =
        let low = first_fits m p h.good.le f in
        append_once a b (g.once low) (h.once f) (λ x q r. in_out k m x low (good_in k m ds a g.good low x q) (range_behind k m p x f (good_in m p es b h.good f x r)))

-- ---- one inlined call

given_from : (ds : List Decl) (args : Exprs) (x : List ℕ) → IsTrue (some_defines (eqns_of (given ds args)) x) → IsTrue (declares ds x)
given_from [] args x h = absurd (cc h)
given_from (d ∷ ds) no_expr x h = absurd (cc h)
given_from (d ∷ ds) (more_exprs e args) x h =
    ⊎_elim (λ l. or_left (bytes_eq d.name x) (declares ds x) (or_none (bytes_eq d.name x) l))
    (λ l. or_right (bytes_eq d.name x) (declares ds x) (given_from ds args x l)) (or_cases (bytes_eq d.name x || false) (some_defines (eqns_of (given ds args)) x) h)

given_once : (ds : List Decl) (args : Exprs) → AreOnce ds → AllOnce (eqns_of (given ds args))
given_once [] args o = tt
given_once (d ∷ ds) no_expr o = tt
given_once (d ∷ ds) (more_exprs e args) o =
    ((λ x h. false_if (some_defines (eqns_of (given ds args)) x) (λ l. twice x (or_none (bytes_eq d.name x) h) l)), (tt, given_once ds args o.1))
  where
    twice : (x : List ℕ) → IsTrue (bytes_eq d.name x) → IsTrue (some_defines (eqns_of (given ds args)) x) → ⊥
    twice x q l = absurd (cc (sym o.0, subst (λ z. IsTrue (declares ds z)) (sym (same_name d.name x q)) (given_from ds args x l)))

abbrev Short : List ℕ → Type 0
Short x = length x ≤ 262

call_once : (n : Node) → IsReady n → BlockOnce n.body → (k : ℕ) (args : Exprs) → AreOnce (new_locals n k) → AllOnce (eqns_of (new_equations n k args))
call_once n r once k args = by n.body r.names.body r.scoped.body once
  where
    by : (b : Block) → BlockNames Short b → BlockScoped (also (interface n) (controls_of n.contract)) (also no_names n.outputs) b → BlockOnce b → AreOnce (renamed_decls (marked k) (n.inputs ++ (n.outputs ++ locals_of b))) → AllOnce (eqns_of (given (renamed_decls (marked k) n.inputs) args ++ list_of_eqns (renamed_eqns (marked k) (equations_of b))))
    by (block ds es) p s o u =
        let seen = also (also (interface n) (controls_of n.contract)) ds in
        let own = also (also no_names n.outputs) ds in
        let ins = renamed_decls (marked k) n.inputs in
        let rest = renamed_decls (marked k) (n.outputs ++ ds) in
        let moved = renamed_eqns (marked k) es in
        let parts : AreOnce (ins ++ rest) = subst AreOnce (renamed_append (marked k) n.inputs (n.outputs ++ ds)) u in
        let there : (x : List ℕ) → IsTrue (own x) → IsTrue (declares (n.outputs ++ ds) x) =
        λ x h. ⊎_elim (λ l. declared_right n.outputs ds x l) (λ l. declared_left n.outputs ds x (or_none (declares n.outputs x) l)) (or_cases (declares ds x) (also no_names n.outputs x) h) in
        let short : (x : List ℕ) → IsTrue (own x) → Short x =
        λ x h. ⊎_elim (λ l. p.0 x l)
        (λ l. r.names.interface x (or_right (declares (controls_of n.contract) x) (interface n x) (or_left (declares n.outputs x) (also no_names n.inputs x) (or_none (declares n.outputs x) l))))
        (or_cases (declares ds x) (also no_names n.outputs x) h) in
        let come : (z : List ℕ) → Comes (marked k) (some_defines es) z → IsTrue (declares rest z) =
        λ z c. subst (λ w. IsTrue (declares rest w)) c.2 (renamed_there (marked k) (n.outputs ++ ds) c.0 (there c.0 (some_owned c.0 seen own es s.3 c.1))) in
        append_once (given ins args) (list_of_eqns moved) (given_once ins args (once_first ins rest parts))
        (subst AllOnce (sym (same_eqns moved)) (all_renamed (marked k) Short (λ x y h l e. same_marked k x y h l e) seen own es short p.1 s.3 o))
        (λ z h l. once_apart ins rest parts z (given_from ins args z h) (come z (some_back (marked k) z es (subst (λ w. IsTrue (some_defines w z)) (same_eqns moved) l))))

pub fine_call : (n : Node) → IsReady n → BlockOnce n.body → (k : ℕ) (args : Exprs) → Covers n.inputs args → Fine k (suc k) (new_locals n k) (new_equations n k args)
fine_call n r o k args c =
    let g = good_call n r k args c in
    record { good = g; once = λ f. call_once n r o k args (g.once f) }
