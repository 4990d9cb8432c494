-- Names and parts, one after the other.
use Rattle.std.proofs.Common.{◌≡◌, ℕ, zero, suc, ◌+◌, ◌-◌, ◌<◌, ◌≤◌, get_or, length, drop, drop-cons, map, true, false, if◌then◌else◌, List, [], ◌∷◌, ◌++◌, refl, sym, ap, ◌∙◌, arith}
use Rattle.std.proofs.lemmas.List.{append_assoc, append-nil, drop_all}
use Rattle.std.proofs.Math.Numerals.{add-one}
use Rattle.hp_base.specs.Known.Known.{with_entry}
use Rattle.hp_base.specs.declared.span.Span.{Span}
use Rattle.hp_tree.specs.declared.decl.Cons.{Cons}
use Rattle.hp_tree.specs.declared.block.Trans.{Trans}
use Rattle.hp_tree.specs.declared.program.Item.{Item}
use Rattle.hp_tree.specs.declared.block.Eqn as code_eqn
use Rattle.hp_tree.specs.declared.block.Arm as code_arm
use Rattle.hp_tree.specs.declared.block.State as code_state
use Rattle.hp_tree.specs.BlockView.{eqn_seen, arm_seen, state_seen}
use Rattle.hp_tree.specs.Expressions.{Expr, variable, call, Exprs, no_expr, more_exprs, Parts, no_part, more_parts, exprs_of, parts_of}
use Rattle.hp_tree.specs.Blocks.{Decl, Eqn, eqns_of, arms_of, states_of}
use Rattle.hp_past.specs.declared.formula.Formulas.{Formulas}
use Rattle.hp_past.specs.Names.{Names, noted, names_in, names_in_all, names_in_parts, names_in_path, names_in_decl, names_in_decls, names_in_transitions, names_in_eqn, names_in_eqns, names_in_block, names_in_arms, names_in_state, names_in_states, names_in_item, names_in_program, past_name, is_taken, free_within}
use Rattle.hp_past.specs.Unfolding.{Added, with_one, with_two, in_expr, in_exprs, in_parts, in_eqn, in_eqns, in_item, in_items}
use Rattle.hp_past.specs.Made.{exprs_onto, parts_onto, eqns_onto}

pub drop-next : {A : Type 0} (xs : List A) (i : ℕ) (x : A) → i < length xs → x ≡ get_or xs i x → drop i xs ≡ x ∷ drop (i + 1) xs
drop-next xs i x h p = drop-cons xs i x h ∙ rw (add-one, ← p)

pub drop-end : {A : Type 0} (xs : List A) (i : ℕ) → length xs ≤ i → drop i xs ≡ []
drop-end xs i h = drop_all i xs h

-- ---- names

pub noted-append : (names : Names) (xs ys : List (List ℕ)) → noted names (xs ++ ys) ≡ noted (noted names xs) ys
noted-append names [] ys = refl
noted-append names (x ∷ xs) ys = noted-append (with_entry names x x) xs ys

module _ {A : Type 0} (one : A → List (List ℕ)) (all : List A → List (List ℕ)) (names : Names) (xs : List A) (i : ℕ) where
  noted_next : ((x : A) (rest : List A) → all (x ∷ rest) ≡ one x ++ all rest) → (x : A) → i < length xs → x ≡ get_or xs i x → noted names (all (drop i xs)) ≡ noted (noted names (one x)) (all (drop (i + 1) xs))
  noted_next next x h p = ap (λ more. noted names (all more)) (drop-next xs i x h p) ∙ ap (noted names) (next x (drop (i + 1) xs)) ∙ noted-append names (one x) (all (drop (i + 1) xs))

  noted_end : all [] ≡ [] → length xs ≤ i → noted names (all (drop i xs)) ≡ names
  noted_end none h = ap (λ more. noted names (all more)) (drop-end xs i h) ∙ ap (noted names) none

module _ (names : Names) where
  pub exprs-noted : (es : List Expr) (i : ℕ) (e : Expr) → i < length es → e ≡ get_or es i e → noted names (names_in_all (exprs_of (drop i es))) ≡ noted (noted names (names_in e)) (names_in_all (exprs_of (drop (i + 1) es)))
  exprs-noted es i e h p = noted_next names_in (λ xs. names_in_all (exprs_of xs)) names es i (λ x rest. refl) e h p

  pub exprs-noted_end : (es : List Expr) (i : ℕ) → length es ≤ i → noted names (names_in_all (exprs_of (drop i es))) ≡ names
  exprs-noted_end es i h = noted_end names_in (λ xs. names_in_all (exprs_of xs)) names es i refl h

  pub parts-noted : (ps : List (Cons × Expr)) (i : ℕ) (p : Cons × Expr) → i < length ps → p ≡ get_or ps i p
      → noted names (names_in_parts (parts_of (drop i ps))) ≡ noted (noted names (names_in p.1)) (names_in_parts (parts_of (drop (i + 1) ps)))
  parts-noted ps i p h q = noted_next (λ (x : Cons × Expr). names_in x.1) (λ xs. names_in_parts (parts_of xs)) names ps i (λ x rest. refl) p h q

  pub parts-noted_end : (ps : List (Cons × Expr)) (i : ℕ) → length ps ≤ i → noted names (names_in_parts (parts_of (drop i ps))) ≡ names
  parts-noted_end ps i h = noted_end (λ (x : Cons × Expr). names_in x.1) (λ xs. names_in_parts (parts_of xs)) names ps i refl h

  pub path-noted : (ps : List (Cons × List ℕ)) (i : ℕ) (p : Cons × List ℕ) → i < length ps → p ≡ get_or ps i p → noted names (names_in_path (drop i ps)) ≡ noted (noted names (p.1 ∷ [])) (names_in_path (drop (i + 1) ps))
  path-noted ps i p h q = noted_next (λ (x : Cons × List ℕ). x.1 ∷ []) names_in_path names ps i (λ x rest. refl) p h q

  pub path-noted_end : (ps : List (Cons × List ℕ)) (i : ℕ) → length ps ≤ i → noted names (names_in_path (drop i ps)) ≡ names
  path-noted_end ps i h = noted_end (λ (x : Cons × List ℕ). x.1 ∷ []) names_in_path names ps i refl h

  abbrev names_on_left : List (List ℕ × Span) → List (List ℕ)
  names_on_left xs = map (λ (x : List ℕ × Span). x.0) xs

  pub left-noted : (ps : List (List ℕ × Span)) (i : ℕ) (p : List ℕ × Span) → i < length ps → p ≡ get_or ps i p → noted names (map (λ (x : List ℕ × Span). x.0) (drop i ps)) ≡ noted (noted names (p.0 ∷ [])) (map (λ (x : List ℕ × Span). x.0) (drop (i + 1) ps))
  left-noted ps i p h q = noted_next (λ (x : List ℕ × Span). x.0 ∷ []) names_on_left names ps i (λ x rest. refl) p h q

  pub left-noted_end : (ps : List (List ℕ × Span)) (i : ℕ) → length ps ≤ i → noted names (map (λ (x : List ℕ × Span). x.0) (drop i ps)) ≡ names
  left-noted_end ps i h = noted_end (λ (x : List ℕ × Span). x.0 ∷ []) names_on_left names ps i refl h

  pub decls-noted : (ds : List Decl) (i : ℕ) (d : Decl) → i < length ds → d ≡ get_or ds i d → noted names (names_in_decls (drop i ds)) ≡ noted (noted names (names_in_decl d)) (names_in_decls (drop (i + 1) ds))
  decls-noted ds i d h p = noted_next names_in_decl names_in_decls names ds i (λ x rest. refl) d h p

  pub decls-noted_end : (ds : List Decl) (i : ℕ) → length ds ≤ i → noted names (names_in_decls (drop i ds)) ≡ names
  decls-noted_end ds i h = noted_end names_in_decl names_in_decls names ds i refl h

  pub transitions-noted : (ts : List Trans) (i : ℕ) (t : Trans) → i < length ts → t ≡ get_or ts i t → noted names (names_in_transitions (drop i ts)) ≡ noted (noted names (names_in t.cond)) (names_in_transitions (drop (i + 1) ts))
  transitions-noted ts i t h p = noted_next (λ (t : Trans). names_in t.cond) names_in_transitions names ts i (λ x rest. refl) t h p

  pub transitions-noted_end : (ts : List Trans) (i : ℕ) → length ts ≤ i → noted names (names_in_transitions (drop i ts)) ≡ names
  transitions-noted_end ts i h = noted_end (λ (t : Trans). names_in t.cond) names_in_transitions names ts i refl h

  pub eqns-noted : (es : List code_eqn.Eqn) (i : ℕ) (e : code_eqn.Eqn) → i < length es → e ≡ get_or es i e
      → noted names (names_in_eqns (eqns_of (map eqn_seen (drop i es)))) ≡ noted (noted names (names_in_eqn (eqn_seen e))) (names_in_eqns (eqns_of (map eqn_seen (drop (i + 1) es))))
  eqns-noted es i e h p = noted_next (λ e. names_in_eqn (eqn_seen e)) (λ es. names_in_eqns (eqns_of (map eqn_seen es))) names es i (λ x rest. refl) e h p

  pub eqns-noted_end : (es : List code_eqn.Eqn) (i : ℕ) → length es ≤ i → noted names (names_in_eqns (eqns_of (map eqn_seen (drop i es)))) ≡ names
  eqns-noted_end es i h = noted_end (λ e. names_in_eqn (eqn_seen e)) (λ es. names_in_eqns (eqns_of (map eqn_seen es))) names es i refl h

  pub arms-noted : (es : List code_arm.Arm) (i : ℕ) (e : code_arm.Arm) → i < length es → e ≡ get_or es i e
      → noted names (names_in_arms (arms_of (map arm_seen (drop i es)))) ≡ noted (noted names (names_in_block e.body)) (names_in_arms (arms_of (map arm_seen (drop (i + 1) es))))
  arms-noted es i e h p = noted_next (λ (e : code_arm.Arm). names_in_block e.body) (λ es. names_in_arms (arms_of (map arm_seen es))) names es i (λ x rest. refl) e h p

  pub arms-noted_end : (es : List code_arm.Arm) (i : ℕ) → length es ≤ i → noted names (names_in_arms (arms_of (map arm_seen (drop i es)))) ≡ names
  arms-noted_end es i h = noted_end (λ (e : code_arm.Arm). names_in_block e.body) (λ es. names_in_arms (arms_of (map arm_seen es))) names es i refl h

  pub states-noted : (es : List code_state.State) (i : ℕ) (e : code_state.State) → i < length es → e ≡ get_or es i e
      → noted names (names_in_states (states_of (map state_seen (drop i es)))) ≡ noted (noted names (names_in_state (state_seen e))) (names_in_states (states_of (map state_seen (drop (i + 1) es))))
  states-noted es i e h p = noted_next (λ e. names_in_state (state_seen e)) (λ es. names_in_states (states_of (map state_seen es))) names es i (λ x rest. refl) e h p

  pub states-noted_end : (es : List code_state.State) (i : ℕ) → length es ≤ i → noted names (names_in_states (states_of (map state_seen (drop i es)))) ≡ names
  states-noted_end es i h = noted_end (λ e. names_in_state (state_seen e)) (λ es. names_in_states (states_of (map state_seen es))) names es i refl h

  pub items-noted : (es : List Item) (i : ℕ) (e : Item) → i < length es → e ≡ get_or es i e → noted names (names_in_program (drop i es)) ≡ noted (noted names (names_in_item e)) (names_in_program (drop (i + 1) es))
  items-noted es i e h p = noted_next names_in_item names_in_program names es i (λ x rest. refl) e h p

  pub items-noted_end : (es : List Item) (i : ℕ) → length es ≤ i → noted names (names_in_program (drop i es)) ≡ names
  items-noted_end es i h = noted_end names_in_item names_in_program names es i refl h

-- ---- numbers that are passed over

module _ (names : Names) (left k : ℕ) where
  one-less : 0 < left → left ≡ suc (left - 1)
  one-less h = omega (arith, h)

  pub free-passed : 0 < left → is_taken names (past_name k) ≡ true → free_within left names k ≡ free_within (left - 1) names (suc k)
  free-passed h t = ap (λ n. free_within n names k) (one-less h) ∙ ap (λ taken. if taken then free_within (left - 1) names (suc k) else k) t

  pub free-found : 0 < left → is_taken names (past_name k) ≡ false → free_within left names k ≡ k
  free-found h t = ap (λ n. free_within n names k) (one-less h) ∙ ap (λ taken. if taken then free_within (left - 1) names (suc k) else k) t

  pub free-end : left ≤ 0 → free_within left names k ≡ k
  free-end h = let none : left ≡ zero = omega (arith, h) in ap (λ n. free_within n names k) none

-- ---- calls with a number of arguments

module _ (at : Span) (f : List ℕ) (s : Added) where
  pub one-argument : (remembered : Expr → Added → List ℕ × Added) (args : List Expr) (e : Expr) → length args ≡ 1 → e ≡ get_or args 0 e → with_one remembered at f (exprs_of args) s ≡ (variable at (remembered e s).0, (remembered e s).1)
  one-argument remembered [] e h p = absurd (omega (arith, h))
  one-argument remembered (a ∷ []) e h p = ap (λ z. with_one remembered at f (exprs_of (z ∷ [])) s) (sym p)
  one-argument remembered (a ∷ b ∷ args) e h p = absurd (omega (arith, h))

  pub other-than-one : (remembered : Expr → Added → List ℕ × Added) (args : List Expr) → (length args ≡ 1 → ⊥) → with_one remembered at f (exprs_of args) s ≡ (call at f false (exprs_of args), s)
  other-than-one remembered [] h = refl
  other-than-one remembered (a ∷ []) h = absurd (h refl)
  other-than-one remembered (a ∷ b ∷ args) h = refl

  pub two-arguments : (remembered : Expr → Expr → Added → List ℕ × Added) (args : List Expr) (e1 e2 : Expr) → length args ≡ 2 → e1 ≡ get_or args 0 e1 → e2 ≡ get_or args 1 e2
      → with_two remembered at f (exprs_of args) s ≡ (variable at (remembered e1 e2 s).0, (remembered e1 e2 s).1)
  two-arguments remembered [] e1 e2 h p q = absurd (omega (arith, h))
  two-arguments remembered (a ∷ []) e1 e2 h p q = absurd (omega (arith, h))
  two-arguments remembered (a ∷ b ∷ []) e1 e2 h p q = (λ j. with_two remembered at f (exprs_of (sym p j ∷ sym q j ∷ [])) s)
  two-arguments remembered (a ∷ b ∷ c ∷ args) e1 e2 h p q = absurd (omega (arith, h))

  pub other-than-two : (remembered : Expr → Expr → Added → List ℕ × Added) (args : List Expr) → (length args ≡ 2 → ⊥) → with_two remembered at f (exprs_of args) s ≡ (call at f false (exprs_of args), s)
  other-than-two remembered [] h = refl
  other-than-two remembered (a ∷ []) h = refl
  other-than-two remembered (a ∷ b ∷ []) h = absurd (h refl)
  other-than-two remembered (a ∷ b ∷ c ∷ args) h = refl

-- ---- parts that are unfolded

exprs_onto-one : (xs : List Expr) (x : Expr) (rest : Exprs × Added) → exprs_onto (xs ++ x ∷ []) rest ≡ exprs_onto xs (more_exprs x rest.0, rest.1)
exprs_onto-one [] x rest = refl
exprs_onto-one (y ∷ xs) x rest = ap (λ (r : Exprs × Added). (more_exprs y r.0, r.1)) (exprs_onto-one xs x rest)

exprs_onto-none : (xs : List Expr) (s : Added) → exprs_onto xs (no_expr, s) ≡ (exprs_of xs, s)
exprs_onto-none [] s = refl
exprs_onto-none (x ∷ xs) s = ap (λ (r : Exprs × Added). (more_exprs x r.0, r.1)) (exprs_onto-none xs s)

parts_onto-one : (xs : List (Cons × Expr)) (x : Cons × Expr) (rest : Parts × Added) → parts_onto (xs ++ x ∷ []) rest ≡ parts_onto xs (more_parts x.0 x.1 rest.0, rest.1)
parts_onto-one [] x rest = refl
parts_onto-one (y ∷ xs) x rest = ap (λ (r : Parts × Added). (more_parts y.0 y.1 r.0, r.1)) (parts_onto-one xs x rest)

parts_onto-none : (xs : List (Cons × Expr)) (s : Added) → parts_onto xs (no_part, s) ≡ (parts_of xs, s)
parts_onto-none [] s = refl
parts_onto-none (x ∷ xs) s = ap (λ (r : Parts × Added). (more_parts x.0 x.1 r.0, r.1)) (parts_onto-none xs s)

module _ (there : Formulas) (names : Names) (s : Added) where
  pub args-next : (made args : List Expr) (i : ℕ) (arg : Expr) → i < length args → arg ≡ get_or args i arg
      → exprs_onto (made ++ (in_expr there names arg s).0 ∷ []) (in_exprs there names (exprs_of (drop (i + 1) args)) (in_expr there names arg s).1) ≡ exprs_onto made (in_exprs there names (exprs_of (drop i args)) s)
  args-next made args i arg h p =
      exprs_onto-one made (in_expr there names arg s).0 (in_exprs there names (exprs_of (drop (i + 1) args)) (in_expr there names arg s).1)
      ∙ sym (ap (λ more. exprs_onto made (in_exprs there names (exprs_of more) s)) (drop-next args i arg h p))

  pub args-end : (made args : List Expr) (i : ℕ) → length args ≤ i → exprs_onto made (in_exprs there names (exprs_of (drop i args)) s) ≡ (exprs_of made, s)
  args-end made args i h = ap (λ more. exprs_onto made (in_exprs there names (exprs_of more) s)) (drop-end args i h) ∙ exprs_onto-none made s

  pub parts-next : (made parts : List (Cons × Expr)) (i : ℕ) (part : Cons × Expr) → i < length parts → part ≡ get_or parts i part
      → parts_onto (made ++ (part.0, (in_expr there names part.1 s).0) ∷ []) (in_parts there names (parts_of (drop (i + 1) parts)) (in_expr there names part.1 s).1) ≡ parts_onto made (in_parts there names (parts_of (drop i parts)) s)
  parts-next made parts i part h p =
      parts_onto-one made (part.0, (in_expr there names part.1 s).0) (in_parts there names (parts_of (drop (i + 1) parts)) (in_expr there names part.1 s).1)
      ∙ sym (ap (λ more. parts_onto made (in_parts there names (parts_of more) s)) (drop-next parts i part h p))

  pub parts-end : (made parts : List (Cons × Expr)) (i : ℕ) → length parts ≤ i → parts_onto made (in_parts there names (parts_of (drop i parts)) s) ≡ (parts_of made, s)
  parts-end made parts i h = ap (λ more. parts_onto made (in_parts there names (parts_of more) s)) (drop-end parts i h) ∙ parts_onto-none made s

  pub eqns-next : (made : List Eqn) (eqns : List code_eqn.Eqn) (i : ℕ) (e : code_eqn.Eqn) → i < length eqns → e ≡ get_or eqns i e
      → eqns_onto (made ++ (in_eqn there names (eqn_seen e) s).0 ∷ []) (in_eqns there names (eqns_of (map eqn_seen (drop (i + 1) eqns))) (in_eqn there names (eqn_seen e) s).1)
      ≡ eqns_onto made (in_eqns there names (eqns_of (map eqn_seen (drop i eqns))) s)
  eqns-next made eqns i e h p =
      let x = in_eqn there names (eqn_seen e) s in
      let r = in_eqns there names (eqns_of (map eqn_seen (drop (i + 1) eqns))) x.1 in
      ap (λ es. (es, r.1)) (append_assoc made (x.0 ∷ []) r.0) ∙ sym (ap (λ more. eqns_onto made (in_eqns there names (eqns_of (map eqn_seen more)) s)) (drop-next eqns i e h p))

  pub eqns-end : (made : List Eqn) (eqns : List code_eqn.Eqn) (i : ℕ) → length eqns ≤ i → eqns_onto made (in_eqns there names (eqns_of (map eqn_seen (drop i eqns))) s) ≡ (made, s)
  eqns-end made eqns i h = ap (λ more. eqns_onto made (in_eqns there names (eqns_of (map eqn_seen more)) s)) (drop-end eqns i h) ∙ ap (λ es. (es, s)) (append-nil made)

module _ (there : Formulas) (names : Names) (k : ℕ) where
  pub items-next : (made items : List Item) (i : ℕ) (item : Item) → i < length items → item ≡ get_or items i item
      → (made ++ (in_item there names item k).0 ∷ []) ++ in_items there names (drop (i + 1) items) (in_item there names item k).1 ≡ made ++ in_items there names (drop i items) k
  items-next made items i item h p =
      append_assoc made ((in_item there names item k).0 ∷ []) (in_items there names (drop (i + 1) items) (in_item there names item k).1)
      ∙ sym (ap (λ more. made ++ in_items there names more k) (drop-next items i item h p))

  pub items-end : (made items : List Item) (i : ℕ) → length items ≤ i → made ++ in_items there names (drop i items) k ≡ made
  items-end made items i h = ap (λ more. made ++ in_items there names more k) (drop-end items i h) ∙ append-nil made
