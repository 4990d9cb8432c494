-- What is found in definitions, and how they define names, element by element.
use Rattle.std.proofs.Common.{◌≡◌, ℕ, ◌+◌, ◌<◌, ◌≤◌, Bool, cond, count_by, get_or, is_some, length, drop, map, List, [], ◌∷◌, ◌++◌, Option, Bor, fold, refl, sym, ap, ◌∙◌}
use Rattle.std.proofs.lemmas.List.{append_assoc, map-append}
use Rattle.std.proofs.lemmas.Grind.{fold-append}
use Rattle.hp_base.specs.declared.span.Span.{Span}
use Rattle.hp_tree.specs.declared.decl.Cons.{Cons}
use Rattle.hp_tree.specs.declared.decl.Cons.TheVariants as cons
use Rattle.hp_tree.specs.declared.block.Trans.{Trans}
use Rattle.hp_tree.specs.declared.block.Eqn as code_eqn
use Rattle.hp_tree.specs.declared.block.Arm as code_arm
use Rattle.hp_tree.specs.declared.block.State as code_state
use Rattle.hp_tree.specs.declared.program.Item.{Item}
use Rattle.hp_tree.specs.BlockView.{eqn_seen, arm_seen, state_seen}
use Rattle.hp_tree.specs.Expressions.{Expr, exprs_of, parts_of}
use Rattle.hp_tree.specs.Blocks.{Decl, Block, block, Eqns, eqns_of, arms_of, states_of}
use Rattle.hp_typing.specs.declared.uses.Use.{Use}
use Rattle.hp_typing.specs.declared.uses.Uses.{Uses}
use Rattle.hp_typing.specs.Scopes.{Scope, with_variables, inside, behind}
use Rattle.hp_typing.specs.Seen.{conses_seen, conses_told}
use Rattle.hp_typing.specs.Uses.{nowhere, only, both, how, use_on, use_in_eqns, use_in_eqn, use_in_block, uses_in_arms, uses_in_states}
use Rattle.hp_typing.specs.Claims.{stands_once}
use Rattle.hp_base.specs.First.First.{sooner}
use Rattle.hp_typing.specs.Breaches.{Breach, place_of, found_among, found_after, breaches, of_variable, of_other, of_variables, of_others}
use Rattle.hp_typing.specs.Definedness.{conses_of_parts, conses_of_arms, in_constructors, in_expr, in_exprs, in_parts, in_transitions, in_variables, in_others, in_block, in_eqn, in_eqns, in_arms, in_states, in_item, in_items, equations}
use Rattle.hp_typing.proofs.UseCases.{beside-never, beside-assoc}
use Rattle.hp_typing.proofs.FoundLaws.{drop-next, drop-end, found_after-nil, found_after-append, found_after-cons}

-- ---- constructors that are named

pub conses-arm : (cs ds : List (Bor Cons)) (c : Bor Cons) (arms : List code_arm.Arm) (i : ℕ) (a : code_arm.Arm) (all : List Cons) → i < length arms → a ≡ get_or arms i a
    → ds ≡ cs ++ c ∷ [] → c.now ≡ a.cons → conses_told cs ++ conses_of_arms (arms_of (map arm_seen (drop i arms))) ≡ all
    → conses_told ds ++ conses_of_arms (arms_of (map arm_seen (drop (i + 1) arms))) ≡ all
conses-arm cs ds c arms i a all h p e1 e2 e3 =
    let rest = conses_of_arms (arms_of (map arm_seen (drop (i + 1) arms))) in
    ap (λ more. conses_told more ++ rest) e1
    ∙ ap (λ more. more ++ rest) (map-append (λ (c : Bor Cons). c.now) cs (c ∷ []))
    ∙ append_assoc (conses_told cs) (c.now ∷ []) rest
    ∙ ap (λ k. conses_told cs ++ k ∷ rest) e2
    ∙ ap (λ more. conses_told cs ++ conses_of_arms (arms_of (map arm_seen more))) (sym (drop-next arms i a h p))
    ∙ e3

pub conses-part : (cs ds : List (Bor Cons)) (c : Bor Cons) (ps : List (Cons × Expr)) (i : ℕ) (q : Cons × Expr) (all : List Cons) → i < length ps → q ≡ get_or ps i q
    → ds ≡ cs ++ c ∷ [] → c.now ≡ q.0 → conses_told cs ++ conses_of_parts (parts_of (drop i ps)) ≡ all
    → conses_told ds ++ conses_of_parts (parts_of (drop (i + 1) ps)) ≡ all
conses-part cs ds c ps i q all h p e1 e2 e3 =
    let rest = conses_of_parts (parts_of (drop (i + 1) ps)) in
    ap (λ more. conses_told more ++ rest) e1
    ∙ ap (λ more. more ++ rest) (map-append (λ (c : Bor Cons). c.now) cs (c ∷ []))
    ∙ append_assoc (conses_told cs) (c.now ∷ []) rest
    ∙ ap (λ k. conses_told cs ++ k ∷ rest) e2
    ∙ ap (λ more. conses_told cs ++ conses_of_parts (parts_of more)) (sym (drop-next ps i q h p))
    ∙ e3

pub count-told : (test : Cons → Bool) (cs : List (Bor Cons)) → count_by (λ (c : Bor Cons). test c.now) cs ≡ count_by test (conses_told cs)
count-told test cs = by cs 0
  where
    by : (cs : List (Bor Cons)) (n : ℕ) → fold (λ n (c : Bor Cons). n + cond (test c.now) 1 0) n cs ≡ fold (λ n (c : Cons). n + cond (test c) 1 0) n (conses_told cs)
    by [] n = refl
    by (c ∷ cs) n = by cs (n + cond (test c.now) 1 0)

-- ---- what is found

module _ (found : Option Breach) where
  pub found_after-constructors : (at : Span) (names : List (List ℕ)) (given : List Cons) (i : ℕ) (x : List ℕ) → i < length names → x ≡ get_or names i x
      → found_after found (in_constructors at (conses_seen (drop i names)) given)
      ≡ found_after (found_after found (stands_once at (cons.Named x) given ∷ [])) (in_constructors at (conses_seen (drop (i + 1) names)) given)
  found_after-constructors at names given i x h p =
      ap (λ more. found_after found (in_constructors at (conses_seen more) given)) (drop-next names i x h p)
      ∙ found_after-cons found (stands_once at (cons.Named x) given) (in_constructors at (conses_seen (drop (i + 1) names)) given)

  pub found_after-merge_parts : (s : Scope) (ps : List (Cons × Expr)) (i : ℕ) (q : Cons × Expr) → i < length ps → q ≡ get_or ps i q
      → found_after found (in_parts s (parts_of (drop i ps))) ≡ found_after (found_after found (in_expr s q.1)) (in_parts s (parts_of (drop (i + 1) ps)))
  found_after-merge_parts s ps i q h p =
      ap (λ more. found_after found (in_parts s (parts_of more))) (drop-next ps i q h p) ∙ found_after-append found (in_expr s q.1) (in_parts s (parts_of (drop (i + 1) ps)))

  pub found_after-merge_args : (s : Scope) (es : List Expr) (i : ℕ) (e : Expr) → i < length es → e ≡ get_or es i e
      → found_after found (in_exprs s (exprs_of (drop i es))) ≡ found_after (found_after found (in_expr s e)) (in_exprs s (exprs_of (drop (i + 1) es)))
  found_after-merge_args s es i e h p =
      ap (λ more. found_after found (in_exprs s (exprs_of more))) (drop-next es i e h p) ∙ found_after-append found (in_expr s e) (in_exprs s (exprs_of (drop (i + 1) es)))

  pub found_after-merge_transitions : (s : Scope) (ts : List Trans) (i : ℕ) (t : Trans) → i < length ts → t ≡ get_or ts i t
      → found_after found (in_transitions s (drop i ts)) ≡ found_after (found_after found (in_expr s t.cond)) (in_transitions s (drop (i + 1) ts))
  found_after-merge_transitions s ts i t h p =
      ap (λ more. found_after found (in_transitions s more)) (drop-next ts i t h p) ∙ found_after-append found (in_expr s t.cond) (in_transitions s (drop (i + 1) ts))

  pub found_among-nil : found_among found [] ≡ found
  unfolding found_among
  found_among-nil = refl

  found_among-append : (bs cs : List Breach) → found_among found (bs ++ cs) ≡ found_among (found_among found bs) cs
  unfolding found_among
  found_among-append bs cs = fold-append (sooner place_of) found bs cs

  pub found_among-variables : (f : List ℕ → Use) (ds : List Decl) (i : ℕ) (d : Decl) → i < length ds → d ≡ get_or ds i d
      → found_among found (of_variables f (drop i ds))
      ≡ found_among (found_among found (of_variable d.span d.name (is_some d.last) (f d.name))) (of_variables f (drop (i + 1) ds))
  found_among-variables f ds i d h p =
      ap (λ more. found_among found (of_variables f more)) (drop-next ds i d h p)
      ∙ found_among-append (of_variable d.span d.name (is_some d.last) (f d.name)) (of_variables f (drop (i + 1) ds))

  pub found_among-others : (f : List ℕ → Use) (ds : List Decl) (i : ℕ) (d : Decl) → i < length ds → d ≡ get_or ds i d
      → found_among found (of_others f (drop i ds)) ≡ found_among (found_among found (of_other d.span d.name (f d.name))) (of_others f (drop (i + 1) ds))
  found_among-others f ds i d h p =
      ap (λ more. found_among found (of_others f more)) (drop-next ds i d h p)
      ∙ found_among-append (of_other d.span d.name (f d.name)) (of_others f (drop (i + 1) ds))

-- the breaches of claims on declarations
clear_variables : (es : Eqns) (ds : List Decl) → breaches (in_variables es ds) ≡ of_variables (use_in_eqns es) ds
clear_variables es [] = refl
clear_variables es (d ∷ ds) = ap (λ bs. of_variable d.span d.name (is_some d.last) (use_in_eqns es d.name) ++ bs) (clear_variables es ds)

clear_others : (es : Eqns) (ds : List Decl) → breaches (in_others es ds) ≡ of_others (use_in_eqns es) ds
clear_others es [] = refl
clear_others es (d ∷ ds) = ap (λ bs. of_other d.span d.name (use_in_eqns es d.name) ++ bs) (clear_others es ds)

pub found_after-variables : (found : Option Breach) (es : Eqns) (ds : List Decl) → found_after found (in_variables es ds) ≡ found_among found (of_variables (use_in_eqns es) ds)
unfolding found_after found_among
found_after-variables found es ds = ap (fold (sooner place_of) found) (clear_variables es ds)

found_after-some_others : (found : Option Breach) (es : Eqns) (ds : List Decl) → found_after found (in_others es ds) ≡ found_among found (of_others (use_in_eqns es) ds)
unfolding found_after found_among
found_after-some_others found es ds = ap (fold (sooner place_of) found) (clear_others es ds)

pub found_after-others : (found : Option Breach) (b : Block) (ds : List Decl) → found_after found (in_others (equations b) ds) ≡ found_among found (of_others (use_in_block b) ds)
found_after-others found (block ls es) ds = found_after-some_others found es ds

pub found_after-outputs : (found : Option Breach) (b : Block) (ds : List Decl) → found_after found (in_variables (equations b) ds) ≡ found_among found (of_variables (use_in_block b) ds)
found_after-outputs found (block ls es) ds = found_after-variables found es ds

-- ---- how names are defined

both-assoc : (f g h : List ℕ → Use) → both (both f g) h ≡ both f (both g h)
both-assoc f g h = λ j x. beside-assoc (f x) (g x) (h x) j

pub both-nowhere : (f : List ℕ → Use) → both f nowhere ≡ f
both-nowhere f = λ j x. beside-never (f x) j

pub nowhere-both : (f : List ℕ → Use) → both nowhere f ≡ f
nowhere-both f = refl

pub both-names : (f : List ℕ → Use) (xs : List (List ℕ × Span)) (i : ℕ) (x : List ℕ × Span) → i < length xs → x ≡ get_or xs i x
    → both f (use_on (drop i xs)) ≡ both (both f (only x.0)) (use_on (drop (i + 1) xs))
both-names f xs i x h p = ap (λ more. both f (use_on more)) (drop-next xs i x h p) ∙ sym (both-assoc f (only x.0) (use_on (drop (i + 1) xs)))

pub both-eqns : (f : List ℕ → Use) (es : List code_eqn.Eqn) (i : ℕ) (e : code_eqn.Eqn) → i < length es → e ≡ get_or es i e
    → both f (use_in_eqns (eqns_of (map eqn_seen (drop i es)))) ≡ both (both f (use_in_eqn (eqn_seen e))) (use_in_eqns (eqns_of (map eqn_seen (drop (i + 1) es))))
both-eqns f es i e h p =
    ap (λ more. both f (use_in_eqns (eqns_of (map eqn_seen more)))) (drop-next es i e h p)
    ∙ sym (both-assoc f (use_in_eqn (eqn_seen e)) (use_in_eqns (eqns_of (map eqn_seen (drop (i + 1) es)))))

pushed : (bs cs : List Uses) (u : Uses) (f : List ℕ → Use) (fs : List (List ℕ → Use)) → cs ≡ bs ++ u ∷ [] → how u ≡ f → map how cs ++ fs ≡ map how bs ++ f ∷ fs
pushed bs cs u f fs e1 e2 =
    ap (λ more. map how more ++ fs) e1
    ∙ ap (λ more. more ++ fs) (map-append how bs (u ∷ []))
    ∙ append_assoc (map how bs) (how u ∷ []) fs
    ∙ ap (λ g. map how bs ++ g ∷ fs) e2

pub blocks-arm : (bs cs : List Uses) (u : Uses) (arms : List code_arm.Arm) (i : ℕ) (a : code_arm.Arm) (all : List (List ℕ → Use)) → i < length arms → a ≡ get_or arms i a
    → cs ≡ bs ++ u ∷ [] → how u ≡ use_in_block a.body → map how bs ++ uses_in_arms (arms_of (map arm_seen (drop i arms))) ≡ all
    → map how cs ++ uses_in_arms (arms_of (map arm_seen (drop (i + 1) arms))) ≡ all
blocks-arm bs cs u arms i a all h p e1 e2 e3 =
    pushed bs cs u (use_in_block a.body) (uses_in_arms (arms_of (map arm_seen (drop (i + 1) arms)))) e1 e2
    ∙ ap (λ more. map how bs ++ uses_in_arms (arms_of (map arm_seen more))) (sym (drop-next arms i a h p)) ∙ e3

pub blocks-state : (bs cs : List Uses) (u : Uses) (qs : List code_state.State) (i : ℕ) (q : code_state.State) (all : List (List ℕ → Use)) → i < length qs → q ≡ get_or qs i q
    → cs ≡ bs ++ u ∷ [] → how u ≡ use_in_block q.body → map how bs ++ uses_in_states (states_of (map state_seen (drop i qs))) ≡ all
    → map how cs ++ uses_in_states (states_of (map state_seen (drop (i + 1) qs))) ≡ all
blocks-state bs cs u qs i q all h p e1 e2 e3 =
    pushed bs cs u (use_in_block q.body) (uses_in_states (states_of (map state_seen (drop (i + 1) qs)))) e1 e2
    ∙ ap (λ more. map how bs ++ uses_in_states (states_of (map state_seen more))) (sym (drop-next qs i q h p)) ∙ e3

-- ---- what is found in blocks

module _ (found : Option Breach) (s : Scope) where
  pub found_after-defined_eqns : (es : List code_eqn.Eqn) (i : ℕ) (e : code_eqn.Eqn) → i < length es → e ≡ get_or es i e
      → found_after found (in_eqns s (eqns_of (map eqn_seen (drop i es))))
      ≡ found_after (found_after found (in_eqn s (eqn_seen e))) (in_eqns s (eqns_of (map eqn_seen (drop (i + 1) es))))
  found_after-defined_eqns es i e h p =
      ap (λ more. found_after found (in_eqns s (eqns_of (map eqn_seen more)))) (drop-next es i e h p)
      ∙ found_after-append found (in_eqn s (eqn_seen e)) (in_eqns s (eqns_of (map eqn_seen (drop (i + 1) es))))

  pub found_after-defined_arms : (arms : List code_arm.Arm) (i : ℕ) (a : code_arm.Arm) → i < length arms → a ≡ get_or arms i a
      → found_after found (in_arms s (arms_of (map arm_seen (drop i arms)))) ≡ found_after (found_after found (in_block s a.body)) (in_arms s (arms_of (map arm_seen (drop (i + 1) arms))))
  found_after-defined_arms arms i a h p =
      ap (λ more. found_after found (in_arms s (arms_of (map arm_seen more)))) (drop-next arms i a h p)
      ∙ found_after-append found (in_block s a.body) (in_arms s (arms_of (map arm_seen (drop (i + 1) arms))))

  pub found_after-defined_states : (qs : List code_state.State) (i : ℕ) (q : code_state.State) → i < length qs → q ≡ get_or qs i q
      → found_after found (in_states s (states_of (map state_seen (drop i qs))))
      ≡ found_after (found_after found (in_states s (states_of (state_seen q ∷ [])))) (in_states s (states_of (map state_seen (drop (i + 1) qs))))
  found_after-defined_states qs i q h p =
      let rest = in_states s (states_of (map state_seen (drop (i + 1) qs))) in
      let weak = in_transitions (inside s q.body) q.until.items in
      let strong = in_transitions s q.unless.items in
      let first = found_after found (in_block s q.body) in
      let second = found_after first weak in
      ap (λ more. found_after found (in_states s (states_of (map state_seen more)))) (drop-next qs i q h p)
      ∙ found_after-append found (in_block s q.body) (weak ++ (strong ++ rest))
      ∙ found_after-append first weak (strong ++ rest)
      ∙ found_after-append second strong rest
      ∙ ap (λ f. found_after f rest)
      (sym (found_after-append found (in_block s q.body) (weak ++ (strong ++ []))
      ∙ found_after-append first weak (strong ++ [])
      ∙ found_after-append second strong []
      ∙ found_after-nil (found_after second strong)))

pub found_after-defined_items : (items : List Item) (i : ℕ) (item : Item) (found : Option Breach) (s : Scope) → i < length items → item ≡ get_or items i item
    → found_after found (in_items s (drop i items)) ≡ found_after (found_after found (in_item s item)) (in_items (behind s item) (drop (i + 1) items))
found_after-defined_items items i item found s h p =
    ap (λ more. found_after found (in_items s more)) (drop-next items i item h p)
    ∙ found_after-append found (in_item s item) (in_items (behind s item) (drop (i + 1) items))

-- ---- the same, one call after the other

module _ (f : List ℕ → Use) (ds : List Decl) (i : ℕ) (d : Decl) (h : i < length ds) (p : d ≡ get_or ds i d) (used : Use) (name : List ℕ) (e1 : used ≡ f name) (e2 : name ≡ d.name) (f0 f1 all : Option Breach) where
  pub variables-step : f1 ≡ found_among f0 (of_variable d.span d.name (is_some d.last) used) → found_among f0 (of_variables f (drop i ds)) ≡ all
      → found_among f1 (of_variables f (drop (i + 1) ds)) ≡ all
  variables-step e3 e4 =
      let is : used ≡ f d.name = e1 ∙ ap f e2 in
      ap (λ found. found_among found (of_variables f (drop (i + 1) ds))) (e3 ∙ ap (λ u. found_among f0 (of_variable d.span d.name (is_some d.last) u)) is)
      ∙ sym (found_among-variables f0 f ds i d h p) ∙ e4

  pub others-step : f1 ≡ found_among f0 (of_other d.span d.name used) → found_among f0 (of_others f (drop i ds)) ≡ all
      → found_among f1 (of_others f (drop (i + 1) ds)) ≡ all
  others-step e3 e4 =
      let is : used ≡ f d.name = e1 ∙ ap f e2 in
      ap (λ found. found_among found (of_others f (drop (i + 1) ds))) (e3 ∙ ap (λ u. found_among f0 (of_other d.span d.name u)) is)
      ∙ sym (found_among-others f0 f ds i d h p) ∙ e4

pub names-step : (xs : List (List ℕ × Span)) (i : ℕ) (x : List ℕ × Span) (f g all : List ℕ → Use) → i < length xs → x ≡ get_or xs i x → g ≡ both f (only x.0)
    → both f (use_on (drop i xs)) ≡ all → both g (use_on (drop (i + 1) xs)) ≡ all
names-step xs i x f g all h p e1 e2 = ap (λ k. both k (use_on (drop (i + 1) xs))) e1 ∙ sym (both-names f xs i x h p) ∙ e2

pub names-end : (xs : List (List ℕ × Span)) (i : ℕ) (f all : List ℕ → Use) → length xs ≤ i → both f (use_on (drop i xs)) ≡ all → f ≡ all
names-end xs i f all h e = sym (both-nowhere f) ∙ ap (λ more. both f (use_on more)) (sym (drop-end xs i h)) ∙ e

pub eqns-step : (es : List code_eqn.Eqn) (i : ℕ) (e : code_eqn.Eqn) (f g all : List ℕ → Use) → i < length es → e ≡ get_or es i e → g ≡ both f (use_in_eqn (eqn_seen e))
    → both f (use_in_eqns (eqns_of (map eqn_seen (drop i es)))) ≡ all → both g (use_in_eqns (eqns_of (map eqn_seen (drop (i + 1) es)))) ≡ all
eqns-step es i e f g all h p e1 e2 = ap (λ k. both k (use_in_eqns (eqns_of (map eqn_seen (drop (i + 1) es))))) e1 ∙ sym (both-eqns f es i e h p) ∙ e2

pub eqns-end : (es : List code_eqn.Eqn) (i : ℕ) (f all : List ℕ → Use) → length es ≤ i → both f (use_in_eqns (eqns_of (map eqn_seen (drop i es)))) ≡ all → f ≡ all
eqns-end es i f all h e = sym (both-nowhere f) ∙ ap (λ more. both f (use_in_eqns (eqns_of (map eqn_seen more)))) (sym (drop-end es i h)) ∙ e

pub found-eqns-step : (es : List code_eqn.Eqn) (i : ℕ) (e : code_eqn.Eqn) (s t : Scope) (f0 f1 all : Option Breach) → i < length es → e ≡ get_or es i e → t ≡ s
    → f1 ≡ found_after f0 (in_eqn t (eqn_seen e)) → found_after f0 (in_eqns s (eqns_of (map eqn_seen (drop i es)))) ≡ all
    → found_after f1 (in_eqns s (eqns_of (map eqn_seen (drop (i + 1) es)))) ≡ all
found-eqns-step es i e s t f0 f1 all h p e1 e2 e3 =
    ap (λ found. found_after found (in_eqns s (eqns_of (map eqn_seen (drop (i + 1) es))))) (e2 ∙ ap (λ r. found_after f0 (in_eqn r (eqn_seen e))) e1)
    ∙ sym (found_after-defined_eqns f0 s es i e h p) ∙ e3

module _ (es xs : List code_eqn.Eqn) (ds : List Decl) (b : Block) (f0 g : List ℕ → Use) (view : block ds (eqns_of (map eqn_seen es)) ≡ b) (e1 : f0 ≡ nowhere) (e2 : xs ≡ es)
    (e3 : g ≡ both f0 (use_in_eqns (eqns_of (map eqn_seen xs)))) where
  of_block : g ≡ use_in_eqns (eqns_of (map eqn_seen es))
  of_block = e3 ∙ ap (λ f. both f (use_in_eqns (eqns_of (map eqn_seen xs)))) e1 ∙ ap (λ ys. use_in_eqns (eqns_of (map eqn_seen ys))) e2

  pub entered-uses : g ≡ use_in_block b
  entered-uses = of_block ∙ ap use_in_block view

  pub entered-found : (s t : Scope) (ds1 ds2 : List Decl) (found f1 f2 : Option Breach) → t ≡ with_variables s ds1 → ds1 ≡ ds → ds2 ≡ ds
      → f1 ≡ found_after found (in_eqns t (eqns_of (map eqn_seen xs))) → f2 ≡ found_among f1 (of_variables g ds2) → f2 ≡ found_after found (in_block s b)
  entered-found s t ds1 ds2 found f1 f2 k1 k2 k3 k4 k5 =
      let all = eqns_of (map eqn_seen es) in
      let scope : t ≡ with_variables s ds = k1 ∙ ap (with_variables s) k2 in
      let first : f1 ≡ found_after found (in_eqns (with_variables s ds) all) =
      k4 ∙ ap (λ ys. found_after found (in_eqns t (eqns_of (map eqn_seen ys)))) e2 ∙ ap (λ r. found_after found (in_eqns r all)) scope in
      k5 ∙ ap (λ more. found_among f1 (of_variables g more)) k3
      ∙ ap (λ k. found_among f1 (of_variables k ds)) of_block
      ∙ sym (found_after-variables f1 all ds)
      ∙ ap (λ k. found_after k (in_variables all ds)) first
      ∙ sym (found_after-append found (in_eqns (with_variables s ds) all) (in_variables all ds))
      ∙ ap (λ c. found_after found (in_block s c)) view
