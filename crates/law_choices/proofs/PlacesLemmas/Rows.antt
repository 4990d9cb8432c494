-- Equations in a row, those without events, and those of transitions and states.
use Rattle.std.proofs.Common.{◌≡◌, ℕ, List, [], ◌∷◌, ◌++◌, map, length, refl, sym, ap, ap₂, ◌∙◌}
use Rattle.std.specs.Prelude.{Bool, true, false, if◌then◌else◌, nat_lt, ◌+◌}
use Rattle.std.proofs.lemmas.List.{append_assoc, append-nil}
use Rattle.hp_base.specs.declared.span.Span.{Span}
use Rattle.hp_tree.specs.declared.block.Trans.{Trans}
use Rattle.hp_tree.specs.declared.expr.Op2.TheVariants.{Eq}
use Rattle.hp_tree.specs.Expressions.{Expr, constant, variable}
use Rattle.hp_automata.specs.NewNames.{state_word, transition_word, value_name}
use Rattle.hp_tree.specs.Blocks.{Block, Eqn, eqns_of}
use Rattle.hp_tree.specs.Instant.{Body, Equations, Head, Tail, Right, Test, Arms as ArmsOf, First, Second, Third}
use Rattle.hp_automata.specs.declared.new_names.Word.{Word}
use Rattle.hp_automata.specs.declared.new_names.Word.TheVariants.{Next, From, Strong, Weak}
use Rattle.hp_tables.specs.Defining.Names.{outer_names}
use Rattle.hp_automata.specs.Names.{is_name, missing}
use Rattle.hp_automata.specs.Renaming.{renamed}
use Rattle.hp_automata.specs.Lowering.{Types, Enumerations, Frame, some_constant, type_of, link, number, pending_of, handed, value_handed, chosen, choices, joined, idle_value, idle, from_eqn, on_word, state_switch, state_eqns, own_next, stays, frame_eqns, kept, all_kept}
use Rattle.law_equations.specs.Flattened.Flatten.{Prefix, below}
use Rattle.hp_watch.specs.Walk.{walk, walk_conditions}
use Rattle.law_choices.specs.Places.Spots.{Spot, compared, spots, spots_of_block, spots_of_eqns, spots_of_eqn}
use Rattle.law_choices.specs.Places.Found.{behind, behind_state, at_body, at_condition, found_in_conditions, found}
use Rattle.law_choices.proofs.PlacesLemmas.Expressions.{made, made-append, Takes, takes-two, expr-takes}

-- ---- where they stand

pub behind-map : {A B : Type 0} (g : A → B) (xs : List A) (here : Prefix) → behind (map g xs) here ≡ behind xs here
behind-map g [] here = refl
behind-map g (x ∷ xs) here = behind-map g xs (below Tail here)

pub behind-choices : (to : List ℕ → List ℕ) (f : Frame) (w : Word) (k n : ℕ) (end : Expr) (j : ℕ) (ts : List Trans) (here : Prefix) → behind (choices to f w k n end j ts) here ≡ behind ts here
behind-choices to f w k n end j [] here = refl
behind-choices to f w k n end j (t ∷ ts) here = behind-choices to f w k n end (j + 1) ts (below Tail here)

module _ (outputs : List ℕ → List (List ℕ)) where
  -- the events of equations in a row
  abbrev pub R : List Eqn → Prefix → List Spot
  R es here = spots_of_eqns outputs (eqns_of es) here

  pub rows-append : (xs ys : List Eqn) (here : Prefix) → R (xs ++ ys) here ≡ R xs here ++ R ys (behind xs here)
  rows-append [] ys here = refl
  rows-append (x ∷ xs) ys here =
      ap (λ zs. spots_of_eqn outputs x (below Head here) ++ zs) (rows-append xs ys (below Tail here))
      ∙ sym (append_assoc (spots_of_eqn outputs x (below Head here)) (R xs (below Tail here)) (R ys (behind xs (below Tail here))))

  -- ---- without events

  link-none : (s : Span) (n : ℕ) (named : ℕ → List ℕ) (end : Expr) (k : ℕ) (here : Prefix) → spots outputs end here ≡ [] → spots outputs (link s n named end k) here ≡ []
  link-none s n named end k here h = by (nat_lt k n)
    where
      by : (b : Bool) → spots outputs (if b then variable s (named k) else end) here ≡ []
      by true = refl
      by false = h

  map-none : {A : Type 0} (g : A → Eqn) → ((x : A) (here : Prefix) → spots_of_eqn outputs (g x) here ≡ []) → (xs : List A) (here : Prefix) → R (map g xs) here ≡ []
  map-none g h [] here = refl
  map-none g h (x ∷ xs) here = ap₂ (λ ys zs. ys ++ zs) (h x (below Head here)) (map-none g h xs (below Tail here))

  pub kept-none : (to : List ℕ → List ℕ) (s : Span) (xs : List (List ℕ)) (b : Block) (here : Prefix) → R (all_kept to s xs b) here ≡ []
  kept-none to s xs b here = map-none (kept to s) (λ x here. refl) (missing (is_name (outer_names b)) xs) here

  handed-none : (f : Frame) (w : Word) (end : Expr) (k : ℕ) (here : Prefix) → spots outputs end here ≡ [] → spots outputs (handed f w end k) here ≡ []
  handed-none f w end k here h = link-none f.at f.count (state_word w f.depth) end k here h

  value-none : (enums : Enumerations) (types : Types) (f : Frame) (k : ℕ) (x : List ℕ) (here : Prefix) → spots outputs (value_handed enums types f k x) here ≡ []
  value-none enums types f k x here = link-none f.at f.count (λ m. value_name f.depth m x) (constant f.at (some_constant enums (type_of types x))) k here refl

  pub frame-none : (enums : Enumerations) (to : List ℕ → List ℕ) (types : Types) (f : Frame) (here : Prefix) → R (frame_eqns enums to types f) here ≡ []
  frame-none enums to types f here =
      ap₂ (λ ys zs. ys ++ zs) (handed-none f From (pending_of f) 0 (below Right (below Head here)) refl)
      (ap₂ (λ ys zs. ys ++ zs) (handed-none f Next (number f.at 0) 0 (below Right (below Head (below Tail here))) refl)
      (map-none (joined enums to types f) (λ x here. value-none enums types f 0 x (below Right here)) f.names (below Tail (below Tail here))))

  pub idle-none : (enums : Enumerations) (types : Types) (f : Frame) (k : ℕ) (here : Prefix) → spots_of_block outputs (idle enums types f k) here ≡ []
  idle-none enums types f k here =
      ap₂ (λ ys zs. ys ++ zs) (handed-none f Next (number f.at 0) (k + 1) (below Right (below Head (below Equations here))) refl)
      (map-none (idle_value enums types f k) (λ x here. value-none enums types f (k + 1) x (below Right here)) f.names (below Tail (below Equations here)))

  -- ---- transitions

  chosen-none : (f : Frame) (w : Word) (k n : ℕ) (end : Expr) (j : ℕ) (here : Prefix) → ((here : Prefix) → spots outputs end here ≡ []) → spots outputs (chosen f w k n end j) here ≡ []
  chosen-none f w k n end j here h = link-none f.at n (transition_word w f.depth k) end j here (h here)

  -- A walk over conditions takes the events of their equations.
  pub conditions-take : (to : List ℕ → List ℕ) (f : Frame) (word : Word) (k n : ℕ) (end : Expr) (j : ℕ) → ((here : Prefix) → spots outputs end here ≡ []) → (ts : List Trans) (w here : Prefix)
      → Takes (walk_conditions ts) (R (choices to f word k n end j ts) here) (made (found_in_conditions outputs ts w here))
  conditions-take to f word k n end j none [] w here rest = refl
  conditions-take to f word k n end j none (t ∷ ts) w here rest =
      let es = spots outputs (renamed to t.cond) (at_condition here) in
      let more = R (choices to f word k n end (j + 1) ts) (below Tail here) in
      let P = found outputs t.cond (below Head w) (at_condition here) in
      let Q = found_in_conditions outputs ts (below Tail w) (below Tail here) in
      ap (λ xs. walk_conditions (t ∷ ts) (((es ++ xs) ++ more) ++ rest)) (chosen-none f word k n end (j + 1) (below Third (below Right (below Head here))) none)
      ∙ ap (λ xs. walk_conditions (t ∷ ts) ((xs ++ more) ++ rest)) (append-nil es)
      ∙ takes-two (walk t.cond) (walk_conditions ts) es more (made P) (made Q) (expr-takes outputs to t.cond (below Head w) (at_condition here)) (conditions-take to f word k n end (j + 1) none ts (below Tail w) (below Tail here)) rest
      ∙ ap (λ ps. (ps, rest)) (sym (made-append P Q))

  -- ---- states

  -- two comparisons with the two numbers of a jump
  abbrev two_at : Prefix → List Spot
  two_at here = compared Eq (here (First ∷ [])) ∷ compared Eq (here (Second ∷ [])) ∷ []

  from-two : (f : Frame) (k n : ℕ) (here : Prefix) → spots_of_eqn outputs (from_eqn f k Strong n (pending_of f)) here ≡ two_at (below First (below Right here))
  from-two f k n here =
      ap₂ (λ xs ys. two_at (below First (below Right here)) ++ (xs ++ ys)) (chosen-none f Strong k n (pending_of f) 0 (below Second (below Right here)) (λ here. refl)) (handed-none f From (pending_of f) (k + 1) (below Third (below Right here)) refl)

  switch-one : (f : Frame) (k : ℕ) (body other : Block) (here : Prefix) → ((here : Prefix) → spots_of_block outputs other here ≡ [])
      → spots_of_eqn outputs (state_switch f k body other) here
      ≡ compared Eq (here (ArmsOf ∷ Head ∷ Equations ∷ Head ∷ Test ∷ [])) ∷ spots_of_block outputs body (below Body (below Head (below Equations (below Head (below ArmsOf here)))))
  switch-one f k body other here none =
      let first = compared Eq (here (ArmsOf ∷ Head ∷ Equations ∷ Head ∷ Test ∷ [])) in
      let B = spots_of_block outputs body (below Body (below Head (below Equations (below Head (below ArmsOf here))))) in
      ap (λ xs. first ∷ ((B ++ []) ++ (xs ++ []))) (none (below Head (below Tail (below ArmsOf here)))) ∙ ap (λ xs. first ∷ xs) (append-nil (B ++ []) ∙ append-nil B)

  -- The five comparisons of a state stand between the events of its strong conditions and those of its body.
  pub state-rows : (to : List ℕ → List ℕ) (f : Frame) (k : ℕ) (unless : List Trans) (body other : Block) (more : List Eqn) (here : Prefix) → ((here : Prefix) → spots_of_block outputs other here ≡ [])
      → (five : Spot × Spot × Spot × Spot × Spot)
      × (R (state_eqns to f k unless body other ++ more) here
      ≡ R (choices to f Strong k (length unless) (pending_of f) 0 unless) here
      ++ (five.0 ∷ five.1 ∷ five.2 ∷ five.3 ∷ five.4 ∷ (spots_of_block outputs body (at_body unless here) ++ R more (behind_state unless here))))
  state-rows to f k unless body other more here none =
      let C = choices to f Strong k (length unless) (pending_of f) 0 unless in
      let fr = from_eqn f k Strong (length unless) (pending_of f) in
      let on = on_word f k in
      let sw = state_switch f k body other in
      let h = behind unless here in
      let a = below First (below Right (below Head h)) in
      let b = below Right (below Head (below Tail h)) in
      let c = below Head (below Tail (below Tail h)) in
      let M = R more (behind_state unless here) in (
        (
          compared Eq (a (First ∷ [])),
          compared Eq (a (Second ∷ [])),
          compared Eq (b (First ∷ [])),
          compared Eq (b (Second ∷ [])),
          compared Eq (c (ArmsOf ∷ Head ∷ Equations ∷ Head ∷ Test ∷ [])),
        ),
        ap (λ es. R es here)
            (append_assoc ((C ++ fr ∷ []) ++ on ∷ []) (sw ∷ []) more ∙ append_assoc (C ++ fr ∷ []) (on ∷ []) (sw ∷ more) ∙ append_assoc C (fr ∷ []) (on ∷ sw ∷ more))
            ∙ rows-append C (fr ∷ on ∷ sw ∷ more) here
            ∙ ap (λ p. R C here ++ R (fr ∷ on ∷ sw ∷ more) p) (behind-choices to f Strong k (length unless) (pending_of f) 0 unless here)
            ∙ ap₂ (λ xs ys. R C here ++ (xs ++ (two_at b ++ (ys ++ M)))) (from-two f k (length unless) (below Head h)) (switch-one f k body other c none),
      )

  -- the body of a state: its weak transitions, its next jump, and its equations
  pub body-rows : (to : List ℕ → List ℕ) (f : Frame) (k : ℕ) (until : List Trans) (es kept : List Eqn) (here : Prefix) → ((here : Prefix) → R kept here ≡ [])
      → R ((choices to f Weak k (length until) (stays f k) 0 until ++ own_next f k Weak (length until) (stays f k) ∷ []) ++ (es ++ kept)) here
      ≡ R (choices to f Weak k (length until) (stays f k) 0 until) here ++ R es (below Tail (behind until here))
  body-rows to f k until es kept here none =
      let C = choices to f Weak k (length until) (stays f k) 0 until in
      let own = own_next f k Weak (length until) (stays f k) in
      ap (λ xs. R xs here) (append_assoc C (own ∷ []) (es ++ kept))
      ∙ rows-append C (own ∷ (es ++ kept)) here
      ∙ ap (λ p. R C here ++ R (own ∷ (es ++ kept)) p) (behind-choices to f Weak k (length until) (stays f k) 0 until here)
      ∙ ap₂ (λ xs ys. R C here ++ (xs ++ ys)) (chosen-none f Weak k (length until) (stays f k) 0 (below Right (below Head (behind until here))) (λ here. refl))
      (rows-append es kept (below Tail (behind until here)) ∙ ap (λ xs. R es (below Tail (behind until here)) ++ xs) (none (behind es (below Tail (behind until here)))) ∙ append-nil (R es (below Tail (behind until here))))
