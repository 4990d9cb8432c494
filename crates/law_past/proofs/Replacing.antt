-- Where inlined calls are replaced and clocks are written, a contract still remembers its formulas.
use Rattle.std.proofs.Common.{◌≡◌, inl, inr, ⊎_elim, ℕ, ◌+◌, false, if◌then◌else◌, List, [], ◌∷◌, ◌++◌, map, Option, None, Some, refl, sym, ap, ◌∙◌, subst}
use Rattle.std.specs.Prelude.{option_map}
use Rattle.std.specs.Str.{bytes_eq}
use Rattle.hp_base.specs.declared.span.Span.{Span}
use Rattle.hp_base.specs.declared.ty.Const.{Const}
use Rattle.hp_base.specs.declared.ty.Const.TheVariants as constant
use Rattle.hp_tree.specs.declared.expr.Op2.TheVariants.{And, Or}
use Rattle.hp_tree.specs.Blocks.{Decl, Block, block, Eqns, no_eqn, more_eqns, Eqn, define, switch, reset, automaton, eqns_of, list_of_eqns}
use Rattle.hp_tree.specs.Expressions.{Expr, variable, last_of, two}
use Rattle.hp_tree.specs.Instant.{Place, Equations, Head, Tail}
use Rattle.hp_tree.specs.Meaning.{declares}
use Rattle.hp_tree.specs.Programs.{Contract, Node}
use Rattle.hp_tree.specs.Reaction.{Each}
use Rattle.hp_meaning.specs.Causal.Sources.{below}
use Rattle.hp_meaning.specs.Clocking.Clocking.{Assignment, with_clock, with_clocks, all_with_clocks, one_with_clocks, in_observer, contract_with_clocks, node_with_clocks}
use Rattle.hp_meaning.proofs.ClockingLemmas.Written.{some_kept, defines_kept}
use Rattle.hp_expand.specs.NewNames.{is_new}
use Rattle.hp_expand.specs.Renaming.{renamed, renamed_decls}
use Rattle.hp_expand.specs.Replacing.{in_definition, in_eqns, in_eqn, in_condition, in_contract, locals_of, equations_of}
use Rattle.hp_expand.specs.Numbering as numbering
use Rattle.hp_expand.specs.Numbering.{declaring, new_in_decls, new_in_eqn, same_name, replaced_node}
use Rattle.law_judged.specs.Named.Scoped.{Names, no_names, also, BlockScoped, ContractScoped, interface, NodeScoped}
use Rattle.law_judged.proofs.NamedLemmas.Sets.{or_cases}
use Rattle.law_judged.specs.Replaced.Fitting.{BlockNames, ContractNames, NodeNames, IsPlain}
use Rattle.law_judged.proofs.ReplacedLemmas.Good.{same_eqns}
use Rattle.law_judged.proofs.ReplacedLemmas.Numbered.{plain_kept}
use Rattle.law_judged.specs.Once.Once.{BlockOnce, ContractOnce, DefinedOnce}
use Rattle.law_judged.proofs.OnceLemmas.Renamed.{some_owned}
use Rattle.hp_past.specs.Remembering.{last_among, right_side, defined_as, Defines}
use Rattle.hp_past.specs.Remembered.{Remembered, once, historically, since, variable_of, Keeps}
use Rattle.law_past.proofs.Holding.{some_is, SomeDecl, SomeEqn, decl_front, eqn_front, eqn_behind, IsNamed, IsFirst, IsEquation, some_named, first_named, arguments_of, first_of, IsRight, keeps_by, by_keeps, Stands, AreDeclared, keeps_stands, stands_keeps}

-- ---- inlined calls are replaced

-- a right side that holds no call stays
abbrev Stays : (List ℕ → Node) → Expr → Type 0
Stays nodes e = (k : ℕ) (s : Span) (y : List ℕ × Span) → (in_definition nodes k s (y ∷ []) e).part ≡ define s (y ∷ []) e ∷ []

right_stays : (nodes : List ℕ → Node) (m : Remembered) (e : Expr) → IsRight m e → Stays nodes e
right_stays nodes (once n v) e r = subst (Stays nodes) (sym r.3) (λ k s y. refl)
right_stays nodes (historically n v) e r = subst (Stays nodes) (sym r.3) (λ k s y. refl)
right_stays nodes (since n1 n2 v) e r = subst (Stays nodes) (sym r.5) (λ k s y. refl)

module _ (nodes : List ℕ → Node) (v : List ℕ) (right : Expr) (stays : Stays nodes right) where
  abbrev There : Eqns → Type 0
  There es = SomeEqn (IsEquation v right) es

  one_there : (k : ℕ) (e : Eqn) → IsEquation v right e → There (eqns_of (in_eqn nodes k e).part)
  one_there k (define s [] f) h = absurd h
  one_there k (define s (y ∷ []) f) h =
      subst (λ g. There (eqns_of (in_definition nodes k s (y ∷ []) g).part)) (sym h.1) (subst (λ z. There (eqns_of z)) (sym (stays k s y)) (inl (h.0, refl)))
  one_there k (define s (y ∷ z ∷ ys) f) h = absurd h
  one_there k (switch s f arms) h = absurd h
  one_there k (reset s b f) h = absurd h
  one_there k (automaton s qs) h = absurd h

  eqns_there : (k : ℕ) (es : Eqns) → There es → There (in_eqns nodes k es).part
  eqns_there k no_eqn h = absurd h
  eqns_there k (more_eqns e es) (inl h) =
      let r = in_eqn nodes k e in
      let rest = list_of_eqns (in_eqns nodes r.next es).part in
      eqn_behind (IsEquation v right) r.before (r.part ++ rest) (eqn_front (IsEquation v right) r.part rest (one_there k e h))
  eqns_there k (more_eqns e es) (inr h) =
      let r = in_eqn nodes k e in
      let q = in_eqns nodes r.next es in
      eqn_behind (IsEquation v right) r.before (r.part ++ list_of_eqns q.part)
      (eqn_behind (IsEquation v right) r.part (list_of_eqns q.part) (subst There (sym (same_eqns q.part)) (eqns_there r.next es h)))

-- ---- new variables get their numbers

-- a name of the text stays
abbrev IsSaid : (List ℕ → List ℕ) → List ℕ → Type 0
IsSaid to x = to x ≡ x

right_said : (to : List ℕ → List ℕ) (m : Remembered) (e : Expr) → IsRight m e → Each (IsSaid to) (arguments_of m) → IsSaid to (variable_of m) → renamed to e ≡ e
right_said to (once n v) e r a w =
    let f : Expr = two r.0 Or (variable r.1 n) (last_of r.2 v) in
    subst (λ z. renamed to z ≡ z) (sym r.3) (λ j. two r.0 Or (variable r.1 (a.0 j)) (last_of r.2 (w j)))
right_said to (historically n v) e r a w = subst (λ z. renamed to z ≡ z) (sym r.3) (λ j. two r.0 And (variable r.1 (a.0 j)) (last_of r.2 (w j)))
right_said to (since n1 n2 v) e r a w =
    subst (λ z. renamed to z ≡ z) (sym r.5) (λ j. two r.0 Or (variable r.1 (a.1.0 j)) (two r.2 And (variable r.3 (a.0 j)) (last_of r.4 (w j))))

named_said : (to : List ℕ → List ℕ) (x : List ℕ) → IsSaid to x → (ds : List Decl) → SomeDecl (IsNamed x) ds → SomeDecl (IsNamed x) (renamed_decls to ds)
named_said to x s [] h = absurd h
named_said to x s (d ∷ ds) (inl h) = inl (ap to h ∙ s)
named_said to x s (d ∷ ds) (inr h) = inr (named_said to x s ds h)

first_said : (to : List ℕ → List ℕ) (x : List ℕ) (c : Const) → IsSaid to x → (ds : List Decl) → SomeDecl (IsFirst x c) ds → SomeDecl (IsFirst x c) (renamed_decls to ds)
first_said to x c s [] h = absurd h
first_said to x c s (d ∷ ds) (inl h) = inl (ap to h.0 ∙ s, h.1)
first_said to x c s (d ∷ ds) (inr h) = inr (first_said to x c s ds h)

module _ (to : List ℕ → List ℕ) (v : List ℕ) (right : Expr) (said : IsSaid to v) (same : renamed to right ≡ right) where
  one_said : (k : ℕ) (e : Eqn) → IsEquation v right e → IsEquation v right (numbering.in_eqn to k e)
  one_said k (define s [] f) h = absurd h
  one_said k (define s (y ∷ []) f) h = (ap to h.0 ∙ said, ap (renamed to) h.1 ∙ same)
  one_said k (define s (y ∷ z ∷ ys) f) h = absurd h
  one_said k (switch s f arms) h = absurd h
  one_said k (reset s b f) h = absurd h
  one_said k (automaton s qs) h = absurd h

  eqns_said : (k : ℕ) (es : Eqns) → SomeEqn (IsEquation v right) es → SomeEqn (IsEquation v right) (numbering.in_eqns to k es)
  eqns_said k no_eqn h = absurd h
  eqns_said k (more_eqns e es) (inl h) = inl (one_said k e h)
  eqns_said k (more_eqns e es) (inr h) = inr (eqns_said (k + new_in_eqn e) es h)

-- ---- the block of a contract: what stands in it, stands in what it becomes

module _ (nodes : List ℕ → Node) (ds more : List Decl) (es : Eqns) (behind : List Eqn) where
  abbrev declared_then : List Decl
  declared_then = ds ++ more

  abbrev defined_then : Eqns
  defined_then = eqns_of (list_of_eqns (in_eqns nodes 1 es).part ++ behind)

  abbrev told : List ℕ → List ℕ
  told = declaring same_name 1 declared_then

  stands_then : (m : Remembered) (right : Expr) → Each (λ x. is_new x ≡ false) (arguments_of m) → is_new (variable_of m) ≡ false → Stands ds es m right
      → Stands (renamed_decls told declared_then) (numbering.in_eqns told (1 + new_in_decls declared_then) defined_then) m right
  stands_then m right plain_arguments plain s = record {
    is_right = s.is_right;
    arguments = all (arguments_of m) plain_arguments s.arguments;
    declared = first_said told v c said declared_then (decl_front (IsFirst v c) ds more s.declared);
    defined = eqns_said told v right said (right_said told m right s.is_right (each (arguments_of m) plain_arguments) said) (1 + new_in_decls declared_then) defined_then
        (eqn_front (IsEquation v right) (list_of_eqns (in_eqns nodes 1 es).part) behind
        (subst (SomeEqn (IsEquation v right)) (sym (same_eqns (in_eqns nodes 1 es).part)) (eqns_there nodes v right (right_stays nodes m right s.is_right) 1 es s.defined)));
  }
    where
      v : List ℕ
      v = variable_of m

      c : Const
      c = constant.B (first_of m)

      said : IsSaid told (variable_of m)
      said = plain_kept same_name 1 declared_then (variable_of m) plain

      each : (xs : List (List ℕ)) → Each (λ x. is_new x ≡ false) xs → Each (IsSaid told) xs
      each [] h = tt
      each (x ∷ xs) h = (plain_kept same_name 1 declared_then x h.0, each xs h.1)

      all : (xs : List (List ℕ)) → Each (λ x. is_new x ≡ false) xs → Each (λ n. SomeDecl (IsNamed n) ds) xs → Each (λ n. SomeDecl (IsNamed n) (renamed_decls told declared_then)) xs
      all [] p h = tt
      all (x ∷ xs) p h = (named_said told x (plain_kept same_name 1 declared_then x p.0) declared_then (decl_front (IsNamed x) ds more h.0), all xs p.1 h.1)

-- ---- clocks are written

module _ (at : Assignment) where
  last_written : (es : Eqns) (here : Place → Place) (ds : List Decl) (x : List ℕ) → last_among (map (with_clock at es here) ds) x ≡ last_among ds x
  last_written es here [] x = refl
  last_written es here (d ∷ ds) x = ap (λ o. if bytes_eq d.name x then d.last else o) (last_written es here ds x)

  right_written : (here : Place → Place) (e : Eqn) (x : List ℕ) → right_side (one_with_clocks at here e) x ≡ right_side e x
  right_written here (define s ys e) x = refl
  right_written here (switch s e arms) x = refl
  right_written here (reset s b e) x = refl
  right_written here (automaton s qs) x = refl

  defined_written : (here : Place → Place) (es : Eqns) (x : List ℕ) → defined_as (all_with_clocks at here es) x ≡ defined_as es x
  defined_written here no_eqn x = refl
  defined_written here (more_eqns e es) x =
      λ j. if defines_kept at (below Head here) e x j then right_written (below Head here) e x j else defined_written (below Tail here) es x j

  pub clocks_keep : (here : Place → Place) (b : Block) (m : Remembered) → Keeps b m → Keeps (with_clocks at here b) m
  clocks_keep here (block ds es) m k =
      let by = keeps_by (block ds es) m k in
      let right = by.0 in
      let h = by.1 in
      by_keeps (with_clocks at here (block ds es)) m right (record {
        is_right = h.is_right;
        arguments = all (arguments_of m) h.arguments;
        remembers = record {
          begins = last_written es here ds (variable_of m) ∙ h.remembers.begins;
          defined = defined_written (below Equations here) es (variable_of m) ∙ h.remembers.defined;
        };
      })
    where
      all : (xs : List (List ℕ)) → Each (Defines (block ds es)) xs → Each (Defines (with_clocks at here (block ds es))) xs
      all [] h = tt
      all (x ∷ xs) h = (some_kept at (below Equations here) es x ∙ h.0, all xs h.1)

-- ---- the contract of a node

-- A node still remembers what another one remembers.
abbrev pub StillKeeps : Node → Node → Type 0
StillKeeps n other = (c : Contract) → n.contract ≡ Some c → (m : Remembered) → Keeps c.body m → (d : Contract) × (other.contract ≡ Some d) × Keeps d.body m

module _ (nodes : List ℕ → Node) (at : Assignment) where
  -- the block of a contract, with what its conditions are made of
  abbrev became : List Decl → List Eqn → Block → Block
  became more behind b = numbering.in_block same_name 1 (block (locals_of b ++ more) (eqns_of (list_of_eqns (in_eqns nodes 1 (equations_of b)).part ++ behind)))

  own_declared : (seen : Names) (ds : List Decl) (es : Eqns) → BlockScoped seen no_names (block ds es) → AreDeclared ds es
  own_declared seen ds es s x h = ⊎_elim (λ l. l) (λ l. absurd (cc l)) (or_cases (declares ds x) false (some_owned x (also seen ds) (also no_names ds) es s.3 h))

  block_keeps : (seen after : Names) (more : List Decl) (behind : List Eqn) (b : Block) (m : Remembered) → BlockScoped seen no_names b → BlockNames IsPlain b → BlockScoped after no_names (became more behind b) → BlockOnce (became more behind b)
      → Keeps b m → Keeps (became more behind b) m
  block_keeps seen after more behind (block ds es) m s p t o k =
      let by = keeps_by (block ds es) m k in
      let stands = keeps_stands ds es m by.0 (own_declared seen ds es s) by.1 in
      let to = told nodes ds more es behind in
      stands_keeps (renamed_decls to (ds ++ more)) (numbering.in_eqns to (1 + new_in_decls (ds ++ more)) (defined_then nodes ds more es behind)) m by.0 t.0 o t.2
      (stands_then nodes ds more es behind m by.0 (all (arguments_of m) stands.arguments) (plain_name (variable_of m) (first_named ds (variable_of m) (constant.B (first_of m)) stands.declared)) stands)
    where
      plain_name : (x : List ℕ) → SomeDecl (IsNamed x) ds → is_new x ≡ false
      plain_name x h = (p.0 x (some_named ds x h)).0

      all : (xs : List (List ℕ)) → Each (λ n. SomeDecl (IsNamed n) ds) xs → Each (λ x. is_new x ≡ false) xs
      all [] h = tt
      all (x ∷ xs) h = (plain_name x h.0, all xs h.1)

  abbrev contract_then : Option Contract → Option Contract
  contract_then o = option_map numbering.in_contract (in_contract nodes 1 o).part

  contract_keeps : (seen after : Names) (o : Option Contract) (c : Contract) → o ≡ Some c → ContractScoped seen o → ContractNames IsPlain o → ContractScoped after (contract_then o) → ContractOnce (contract_then o)
      → (m : Remembered) → Keeps c.body m → (d : Contract) × (contract_with_clocks at (contract_then o) ≡ Some d) × Keeps d.body m
  contract_keeps seen after None c e s p t o m k = absurd cc
  contract_keeps seen after (Some b) c e s p t o m k =
      let r = in_eqns nodes 1 (equations_of b.body) in
      let q = in_condition nodes r.next b.assume in
      let u = in_condition nodes q.next b.enforce in
      let more = r.locals ++ (q.locals ++ u.locals) in
      let behind = q.before ++ u.before in
      let kept : Keeps b.body m = subst (λ (z : Contract). Keeps z.body m) (sym (some_is b c e)) k in
      (_, refl, clocks_keep at in_observer (became more behind b.body) m (block_keeps seen after more behind b.body m s p t o kept))

  pub node_keeps : (n : Node) → NodeScoped n → NodeNames IsPlain n → NodeScoped (replaced_node nodes n) → DefinedOnce (replaced_node nodes n) → StillKeeps n (node_with_clocks at (replaced_node nodes n))
  node_keeps n s p t o c e m k = contract_keeps (interface n) (interface (replaced_node nodes n)) n.contract c e s.contract p.contract t.contract o.0 m k
