-- Names of the program of a text are told from those of removed automata, and so are the new names where its inlined calls are replaced.
use Rattle.std.proofs.Common.{◌≡◌, ℕ, zero, suc, ◌+◌, ◌^◌, ◌<◌, ◌≤◌, ◌⊎◌, inl, inr, ⊎_elim, Bool, true, false, nat_eq, if◌then◌else◌, List, [], ◌∷◌, ◌++◌, length, take, refl, sym, ap, ◌∙◌, subst, arith}
use Rattle.std.proofs.lemmas.List.{length-append, length-take}
use Rattle.std.proofs.lemmas.Fmt.{length-decimal-le}
use Rattle.std.specs.Prelude.{IsTrue, min, decimal, Option, None, Some, option_map}
use Rattle.hp_base.specs.declared.span.Span.{Span}
use Rattle.hp_tree.specs.Expressions.{Expr, constant, variable, last_of, one, two, choose, pre, fby, arrow, when_is, merge, call, Exprs, no_expr, more_exprs, Parts, no_part, more_parts}
use Rattle.hp_tree.specs.Blocks.{Decl, Block, block, Eqns, no_eqn, more_eqns, Eqn, define, switch, reset, automaton, Arms, no_arm, more_arms, States, no_state, more_states, eqns_of, list_of_eqns}
use Rattle.hp_tree.specs.Programs.{Contract, Node}
use Rattle.hp_tree.specs.Meaning.{declares}
use Rattle.hp_meaning.specs.Clocking.Clocking.{AreOnce}
use Rattle.law_judged.specs.Named.Scoped.{Names, also, no_names, BlockScoped, EqnsScoped, EqnScoped, ArmsScoped, StatesScoped, ContractScoped}
use Rattle.hp_expand.specs.NewNames as expanded
use Rattle.hp_expand.specs.NewNames.{marked, numbered_name}
use Rattle.hp_expand.specs.Renaming.{renamed_decls, renamed_eqns}
use Rattle.hp_expand.specs.Replacing.{given, locals_of, equations_of, inlined_call, defined_by, in_expr, in_exprs, in_parts, in_block, in_eqns, in_eqn, in_arms, in_states, in_condition, in_contract}
use Rattle.hp_expand.specs.Numbering as number
use Rattle.hp_expand.specs.Numbering.{declaring, new_in_decls}
use Rattle.law_judged.specs.Replaced.Fitting.{DeclNames, BlockNames, EqnsNames, EqnNames, ArmsNames, StatesNames, ContractNames, IsPlain}
use Rattle.law_judged.proofs.ReplacedLemmas.Good.{same_eqns, names_append, declared_cases, marked_new}
use Rattle.law_judged.proofs.ReplacedLemmas.Renaming.{Comes, renamed_back, all_named}
use Rattle.law_judged.proofs.ReplacedLemmas.Signs.{with_number_new}
use Rattle.law_judged.proofs.ReplacedLemmas.Numbered.{plain_kept, has_number, new_or_not}
use Rattle.hp_automata.specs.NewNames.{is_new}
use Rattle.law_automata.specs.Lowered.OldNames.{some_digits, IsOld}
use Rattle.law_automata.proofs.LoweredLemmas.Spelling.{without_sign, number_digits}

-- ---- the sign is one and the same for both passes

same_new : (x : List ℕ) → is_new x ≡ expanded.is_new x
same_new [] = refl
same_new (b ∷ bs) = ap (λ t. if nat_eq b 36 then true else t) (same_new bs)

-- a name of a text
pub old_plain : (x : List ℕ) → IsPlain x → IsOld x
old_plain x p = by (is_new x) (same_new x ∙ p.0)
  where
    short : (b : Bool) → b ≡ false → length x ≤ (if b then 262 else 261)
    short true e = absurd (cc e)
    short false e = let l : length x ≤ 255 = p.1 in omega (arith, l)

    by : (b : Bool) → is_new x ≡ false → IsOld x
    by b e = record { digits = λ h. absurd (cc (sym h, e)); short = short (is_new x) e }

stem_plain : (x : List ℕ) → is_new (expanded.stem x) ≡ false
stem_plain [] = refl
stem_plain (b ∷ bs) = by (nat_eq b 36) refl (stem_plain bs)
  where
    by : (t : Bool) → nat_eq b 36 ≡ t → is_new (expanded.stem bs) ≡ false → is_new (if t then [] else b ∷ expanded.stem bs) ≡ false
    by true e h = refl
    by false e h = ap (λ t. if t then true else is_new (expanded.stem bs)) e ∙ h

take_plain : (n : ℕ) (x : List ℕ) → is_new x ≡ false → is_new (take n x) ≡ false
take_plain zero x h = refl
take_plain (suc n) [] h = refl
take_plain (suc n) (b ∷ bs) h = by (nat_eq b 36) h (take_plain n bs)
  where
    by : (t : Bool) → (if t then true else is_new bs) ≡ false → (is_new bs ≡ false → is_new (take n bs) ≡ false) → (if t then true else is_new (take n bs)) ≡ false
    by true e r = absurd (cc e)
    by false e r = r e

-- a new name with its number
length_numbered : (w : List ℕ) (j : ℕ) → length (numbered_name w j) ≤ 262
length_numbered w j =
    let small : min 999999 j < 10 ^ 6 = omega arith in
    let digits : length (decimal (min 999999 j)) ≤ 6 = length-decimal-le 6 (min 999999 j) (omega arith) (omega (arith, small)) (omega (arith, small)) in
    let a : length (numbered_name w j) ≡ length (take 255 (expanded.stem w)) + length (36 ∷ decimal (min 999999 j)) = length-append (take 255 (expanded.stem w)) (36 ∷ decimal (min 999999 j)) in
    let b : length (take 255 (expanded.stem w)) ≡ min 255 (length (expanded.stem w)) = length-take 255 (expanded.stem w) in
    omega (arith, digits, a, b)

pub old_numbered : (w : List ℕ) (j : ℕ) → IsOld (numbered_name w j)
old_numbered w j = record {
  digits = λ h. ap some_digits (without_sign (take 255 (expanded.stem w)) (decimal (min 999999 j)) (take_plain 255 (expanded.stem w) (stem_plain w))).0 ∙ number_digits j;
  short = by (is_new (numbered_name w j)) (same_new (numbered_name w j) ∙ with_number_new 255 (expanded.stem w) j);
}
  where
    by : (t : Bool) → t ≡ true → length (numbered_name w j) ≤ (if t then 262 else 261)
    by true e = length_numbered w j
    by false e = absurd (cc e)

-- ---- names while inlined calls are replaced: those of the text, and new ones

abbrev pub Fit : List ℕ → Type 0
Fit x = (expanded.is_new x ≡ true) ⊎ IsPlain x

abbrev New : List Decl → List Eqn → Type 0
New ds es = DeclNames Fit ds × EqnsNames Fit (eqns_of es)

decls_both : (ds es : List Decl) → DeclNames Fit ds → DeclNames Fit es → DeclNames Fit (ds ++ es)
decls_both ds es p q x h = ⊎_elim (λ l. p x l) (λ l. q x l) (declared_cases ds es x h)

new_none : New [] []
new_none = ((λ x h. absurd (cc h)), tt)

new_both : (ds es : List Decl) (a b : List Eqn) → New ds a → New es b → New (ds ++ es) (a ++ b)
new_both ds es a b p q = (decls_both ds es p.0 q.0, names_append Fit a b p.1 q.1)

is_marked : (k : ℕ) (x : List ℕ) → Fit (marked k x)
is_marked k x = inl (marked_new k x (marked k x) refl)

decls_marked : (k : ℕ) (ds : List Decl) → DeclNames Fit (renamed_decls (marked k) ds)
decls_marked k ds y h = by (renamed_back (marked k) ds y h)
  where
    by : Comes (marked k) ds y → Fit y
    by (x, l, e) = subst Fit e (is_marked k x)

given_names : (ds : List Decl) (args : Exprs) → EqnsNames Fit (eqns_of (given ds args))
given_names [] args = tt
given_names (d ∷ ds) no_expr = tt
given_names (d ∷ ds) (more_exprs e args) = (tt, given_names ds args)

defined_names : (s at : Span) (ys : List (List ℕ × Span)) (outs : List (List ℕ)) → EqnsNames Fit (eqns_of (defined_by s ys at outs))
defined_names s at [] outs = tt
defined_names s at (y ∷ ys) [] = tt
defined_names s at (y ∷ ys) (z ∷ outs) = (tt, defined_names s at ys outs)

list_named : (es : Eqns) → EqnsNames Fit es → EqnsNames Fit (eqns_of (list_of_eqns es))
list_named es h = subst (EqnsNames Fit) (sym (same_eqns es)) h

module _ (nodes : List ℕ → Node) where
  call_new : (k : ℕ) (f : List ℕ) (es : Exprs) → New (in_exprs nodes k es).locals (in_exprs nodes k es).before → New (inlined_call (nodes f) (in_exprs nodes k es)).locals (inlined_call (nodes f) (in_exprs nodes k es)).before
  call_new k f es h =
      let args = in_exprs nodes k es in
      let n = nodes f in
      let to = marked args.next in
      let ls = renamed_decls to (n.inputs ++ (n.outputs ++ locals_of n.body)) in
      let told = given (renamed_decls to n.inputs) args.part in
      let made = renamed_eqns to (equations_of n.body) in
      new_both args.locals ls args.before (told ++ list_of_eqns made) h (
        decls_marked args.next (n.inputs ++ (n.outputs ++ locals_of n.body)),
        names_append Fit told (list_of_eqns made) (given_names (renamed_decls to n.inputs) args.part) (list_named made (all_named to Fit (λ x. is_marked args.next x) (equations_of n.body))),
      )

  abbrev Of : ℕ → Expr → Type 0
  Of k e = New (in_expr nodes k e).locals (in_expr nodes k e).before

  two_new : (k : ℕ) (a b : Expr) → Of k a → Of (in_expr nodes k a).next b → New ((in_expr nodes k a).locals ++ (in_expr nodes (in_expr nodes k a).next b).locals) ((in_expr nodes k a).before ++ (in_expr nodes (in_expr nodes k a).next b).before)
  two_new k a b p q = let r = in_expr nodes k a in let o = in_expr nodes r.next b in new_both r.locals o.locals r.before o.before p q

  mutual
    expr_new : (k : ℕ) (e : Expr) → Of k e
    expr_new k (constant at c) = new_none
    expr_new k (variable at x) = new_none
    expr_new k (last_of at x) = new_none
    expr_new k (one at op a) = expr_new k a
    expr_new k (two at op a b) = two_new k a b (expr_new k a) (expr_new (in_expr nodes k a).next b)
    expr_new k (choose at a b c) =
        let r = in_expr nodes k a in
        let q = in_expr nodes r.next b in
        let p = in_expr nodes q.next c in
        new_both r.locals (q.locals ++ p.locals) r.before (q.before ++ p.before) (expr_new k a) (two_new r.next b c (expr_new r.next b) (expr_new q.next c))
    expr_new k (pre at a) = expr_new k a
    expr_new k (fby at a b) = two_new k a b (expr_new k a) (expr_new (in_expr nodes k a).next b)
    expr_new k (arrow at a b) = two_new k a b (expr_new k a) (expr_new (in_expr nodes k a).next b)
    expr_new k (when_is at a c x) = expr_new k a
    expr_new k (merge at x ps) = parts_new k ps
    expr_new k (call at f false es) = exprs_new k es
    expr_new k (call at f true es) = call_new k f es (exprs_new k es)

    exprs_new : (k : ℕ) (es : Exprs) → New (in_exprs nodes k es).locals (in_exprs nodes k es).before
    exprs_new k no_expr = new_none
    exprs_new k (more_exprs e es) =
        let r = in_expr nodes k e in
        let q = in_exprs nodes r.next es in
        new_both r.locals q.locals r.before q.before (expr_new k e) (exprs_new r.next es)

    parts_new : (k : ℕ) (ps : Parts) → New (in_parts nodes k ps).locals (in_parts nodes k ps).before
    parts_new k no_part = new_none
    parts_new k (more_parts c e ps) =
        let r = in_expr nodes k e in
        let q = in_parts nodes r.next ps in
        new_both r.locals q.locals r.before q.before (expr_new k e) (parts_new r.next ps)

  -- what stands before an equation, and in its place
  abbrev Made : ℕ → Eqn → Type 0
  Made k e = New (in_eqn nodes k e).locals (in_eqn nodes k e).before × EqnsNames Fit (eqns_of (in_eqn nodes k e).part)

  definition_new : (k : ℕ) (s : Span) (ys : List (List ℕ × Span)) (e : Expr) → Made k (define s ys e)
  definition_new k s ys (constant at c) = (new_none, (tt, tt))
  definition_new k s ys (variable at x) = (new_none, (tt, tt))
  definition_new k s ys (last_of at x) = (new_none, (tt, tt))
  definition_new k s ys (one at op a) = (expr_new k (one at op a), (tt, tt))
  definition_new k s ys (two at op a b) = (expr_new k (two at op a b), (tt, tt))
  definition_new k s ys (choose at a b c) = (expr_new k (choose at a b c), (tt, tt))
  definition_new k s ys (pre at a) = (expr_new k (pre at a), (tt, tt))
  definition_new k s ys (fby at a b) = (expr_new k (fby at a b), (tt, tt))
  definition_new k s ys (arrow at a b) = (expr_new k (arrow at a b), (tt, tt))
  definition_new k s ys (when_is at a c x) = (expr_new k (when_is at a c x), (tt, tt))
  definition_new k s ys (merge at x ps) = (expr_new k (merge at x ps), (tt, tt))
  definition_new k s ys (call at f false es) = (expr_new k (call at f false es), (tt, tt))
  definition_new k s ys (call at f true es) = (expr_new k (call at f true es), defined_names s at ys (inlined_call (nodes f) (in_exprs nodes k es)).part)

  plain_decls : (ds : List Decl) → DeclNames IsPlain ds → DeclNames Fit ds
  plain_decls ds p x h = inr (p x h)

  mutual
    pub block_new : (k : ℕ) (b : Block) → BlockNames IsPlain b → BlockNames Fit (in_block nodes k b).part
    block_new k (block ds es) p = let q = eqns_new k es p.1 in (decls_both ds (in_eqns nodes k es).locals (plain_decls ds p.0) q.0, q.1)

    eqns_new : (k : ℕ) (es : Eqns) → EqnsNames IsPlain es → DeclNames Fit (in_eqns nodes k es).locals × EqnsNames Fit (in_eqns nodes k es).part
    eqns_new k no_eqn p = ((λ x h. absurd (cc h)), tt)
    eqns_new k (more_eqns e es) p =
        let r = in_eqn nodes k e in
        let q = in_eqns nodes r.next es in
        let m = eqn_new k e p.0 in
        let o = eqns_new r.next es p.1 in (
          decls_both r.locals q.locals m.0.0 o.0,
          names_append Fit r.before (r.part ++ list_of_eqns q.part) m.0.1 (names_append Fit r.part (list_of_eqns q.part) m.1 (list_named q.part o.1)),
        )

    eqn_new : (k : ℕ) (e : Eqn) → EqnNames IsPlain e → Made k e
    eqn_new k (define s ys e) p = definition_new k s ys e
    eqn_new k (switch s e arms) p = (expr_new k e, (arms_new (in_expr nodes k e).next arms p, tt))
    eqn_new k (reset s b e) p = (expr_new k e, (block_new (in_expr nodes k e).next b p, tt))
    eqn_new k (automaton s ss) p = (new_none, (states_new k ss p, tt))

    arms_new : (k : ℕ) (arms : Arms) → ArmsNames IsPlain arms → ArmsNames Fit (in_arms nodes k arms).part
    arms_new k no_arm p = tt
    arms_new k (more_arms c b s arms) p = (block_new k b p.0, arms_new (in_block nodes k b).next arms p.1)

    states_new : (k : ℕ) (ss : States) → StatesNames IsPlain ss → StatesNames Fit (in_states nodes k ss).part
    states_new k no_state p = tt
    states_new k (more_states f b until unless s ss) p = (block_new k b p.0, states_new (in_block nodes k b).next ss p.1)

  condition_new : (k : ℕ) (o : Option Expr) → New (in_condition nodes k o).locals (in_condition nodes k o).before
  condition_new k None = new_none
  condition_new k (Some e) = expr_new k e

  observer_names : (b : Block) → BlockNames IsPlain b → DeclNames IsPlain (locals_of b) × EqnsNames IsPlain (equations_of b)
  observer_names (block ds es) p = p

  pub contract_new : (o : Option Contract) → ContractNames IsPlain o → ContractNames Fit (in_contract nodes 1 o).part
  contract_new None p = tt
  contract_new (Some c) p =
      let r = in_eqns nodes 1 (equations_of c.body) in
      let q = in_condition nodes r.next c.assume in
      let o = in_condition nodes q.next c.enforce in
      let g = observer_names c.body p in
      let m = eqns_new 1 (equations_of c.body) g.1 in
      let a = condition_new r.next c.assume in
      let b = condition_new q.next c.enforce in (
        decls_both (locals_of c.body) (r.locals ++ (q.locals ++ o.locals)) (plain_decls (locals_of c.body) g.0) (decls_both r.locals (q.locals ++ o.locals) m.0 (decls_both q.locals o.locals a.0 b.0)),
        names_append Fit (list_of_eqns r.part) (q.before ++ o.before) (list_named r.part m.1) (names_append Fit q.before o.before a.1 b.1),
      )

-- ---- where new variables get their numbers

abbrev Keeps : (List ℕ → List ℕ) → Type 0
Keeps to = (x : List ℕ) → expanded.is_new x ≡ false → to x ≡ x

still_keeps : (to : List ℕ → List ℕ) (k : ℕ) (ds : List Decl) → Keeps to → Keeps (declaring to k ds)
still_keeps to k ds p x e = plain_kept to k ds x e ∙ p x e

local_old : (to : List ℕ → List ℕ) (k : ℕ) (ds : List Decl) → Keeps to → AreOnce ds → (x : List ℕ) → IsTrue (declares ds x) → Fit x → IsOld (declaring to k ds x)
local_old to k ds p o x h w = by (new_or_not x)
  where
    by : (expanded.is_new x ≡ false) ⊎ (expanded.is_new x ≡ true) → IsOld (declaring to k ds x)
    by (inl e) = subst IsOld (sym (plain_kept to k ds x e ∙ p x e)) (⊎_elim (λ n. absurd (cc (sym e, n))) (λ l. old_plain x l) w)
    by (inr n) =
        let q = has_number to k ds x o h n in
        subst IsOld (sym q.is) (old_numbered x q.number)

locals_old : (to : List ℕ → List ℕ) (k : ℕ) (ds : List Decl) → Keeps to → AreOnce ds → DeclNames Fit ds → DeclNames IsOld (renamed_decls (declaring to k ds) ds)
locals_old to k ds p o w y h = by (renamed_back (declaring to k ds) ds y h)
  where
    by : Comes (declaring to k ds) ds y → IsOld y
    by (x, l, e) = subst IsOld e (local_old to k ds p o x l (w x l))

mutual
  pub block_old : (to : List ℕ → List ℕ) (k : ℕ) (seen own : Names) (b : Block) → Keeps to → BlockScoped seen own b → BlockNames Fit b → BlockNames IsOld (number.in_block to k b)
  block_old to k seen own (block ds es) p s w =
      (locals_old to k ds p s.0 w.0, eqns_old (declaring to k ds) (k + new_in_decls ds) (also seen ds) (also own ds) es (still_keeps to k ds p) s.3 w.1)

  eqns_old : (to : List ℕ → List ℕ) (k : ℕ) (seen own : Names) (es : Eqns) → Keeps to → EqnsScoped seen own es → EqnsNames Fit es → EqnsNames IsOld (number.in_eqns to k es)
  eqns_old to k seen own no_eqn p s w = tt
  eqns_old to k seen own (more_eqns e es) p s w = (eqn_old to k seen own e p s.0 w.0, eqns_old to (k + number.new_in_eqn e) seen own es p s.1 w.1)

  eqn_old : (to : List ℕ → List ℕ) (k : ℕ) (seen own : Names) (e : Eqn) → Keeps to → EqnScoped seen own e → EqnNames Fit e → EqnNames IsOld (number.in_eqn to k e)
  eqn_old to k seen own (define at ys e) p s w = tt
  eqn_old to k seen own (switch at e arms) p s w = arms_old to k seen own arms p s w
  eqn_old to k seen own (reset at b e) p s w = block_old to k seen own b p s w
  eqn_old to k seen own (automaton at ss) p s w = states_old to k seen own ss p s w

  arms_old : (to : List ℕ → List ℕ) (k : ℕ) (seen own : Names) (arms : Arms) → Keeps to → ArmsScoped seen own arms → ArmsNames Fit arms → ArmsNames IsOld (number.in_arms to k arms)
  arms_old to k seen own no_arm p s w = tt
  arms_old to k seen own (more_arms c b at arms) p s w = (block_old to k seen own b p s.0 w.0, arms_old to (k + number.new_in_block b) seen own arms p s.1 w.1)

  states_old : (to : List ℕ → List ℕ) (k : ℕ) (seen own : Names) (ss : States) → Keeps to → StatesScoped seen own ss → StatesNames Fit ss → StatesNames IsOld (number.in_states to k ss)
  states_old to k seen own no_state p s w = tt
  states_old to k seen own (more_states n (block ds es) until unless at ss) p s w =
      (block_old to k seen own (block ds es) p s.0 w.0, states_old to (k + (new_in_decls ds + number.new_in_eqns es)) seen own ss p s.1 w.1)

pub contract_old : (seen : Names) (o : Option Contract) → ContractScoped seen o → ContractNames Fit o → ContractNames IsOld (option_map number.in_contract o)
contract_old seen None s w = tt
contract_old seen (Some c) s w = block_old number.same_name 1 seen no_names c.body (λ x e. refl) s w
