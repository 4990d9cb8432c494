-- What equations in a row bring: those that bring nothing, and those of transitions and states.
use Rattle.std.proofs.Common.{◌≡◌, ℕ, ◌+◌, Bool, true, false, nat_lt, if◌then◌else◌, List, [], ◌∷◌, ◌++◌, length, map, refl, sym, ap, ap₂, ◌∙◌}
use Rattle.std.proofs.lemmas.List.{append_assoc, append-nil}
use Rattle.hp_base.specs.declared.span.Span.{Span}
use Rattle.hp_base.specs.declared.ty.Ty.{Ty}
use Rattle.hp_tree.specs.declared.block.Trans.{Trans}
use Rattle.hp_tree.specs.Blocks.{Block, Eqn, eqns_of}
use Rattle.hp_tree.specs.Expressions.{Expr, constant, variable}
use Rattle.hp_typing.specs.Types.{type_of as judged}
use Rattle.hp_tables.specs.Defining.Names.{outer_names}
use Rattle.hp_automata.specs.declared.new_names.Word.{Word}
use Rattle.hp_automata.specs.declared.new_names.Word.TheVariants.{From, Next, Strong, Weak}
use Rattle.hp_automata.specs.Lowering.{Enumerations, Frame, Types, all_kept, choices, chosen, frame_eqns, from_eqn, handed, idle, idle_value, joined, jump_of, kept, link, number, on_word, own_next, pending_of, some_constant, state_eqns, state_switch, stays, type_of, value_handed}
use Rattle.hp_automata.specs.Names.{is_name, missing}
use Rattle.hp_automata.specs.NewNames.{state_word, transition_word, value_name}
use Rattle.law_judged.specs.Typed.Scopes.{Scope}
use Rattle.law_choices.proofs.BroughtLemmas.Brought.{brought, brought_in_block, brought_in_eqn, brought_in_eqns, of_compared}

module _ (given : List ℕ → List Ty) (r : Scope) where
  -- what equations in a row bring
  abbrev pub R : List Eqn → List (List Ty)
  R es = brought_in_eqns given r (eqns_of es)

  pub rows-append : (xs ys : List Eqn) → R (xs ++ ys) ≡ R xs ++ R ys
  rows-append [] ys = refl
  rows-append (x ∷ xs) ys = ap (λ zs. brought_in_eqn given r x ++ zs) (rows-append xs ys) ∙ sym (append_assoc (brought_in_eqn given r x) (R xs) (R ys))

  -- ---- nothing

  link-none : (s : Span) (n : ℕ) (named : ℕ → List ℕ) (end : Expr) (k : ℕ) → brought given r end ≡ [] → brought given r (link s n named end k) ≡ []
  link-none s n named end k h = by (nat_lt k n)
    where
      by : (b : Bool) → brought given r (if b then variable s (named k) else end) ≡ []
      by true = refl
      by false = h

  map-none : {A : Type 0} (g : A → Eqn) → ((x : A) → brought_in_eqn given r (g x) ≡ []) → (xs : List A) → R (map g xs) ≡ []
  map-none g h [] = refl
  map-none g h (x ∷ xs) = ap₂ (λ ys zs. ys ++ zs) (h x) (map-none g h xs)

  pub kept-none : (to : List ℕ → List ℕ) (s : Span) (xs : List (List ℕ)) (b : Block) → R (all_kept to s xs b) ≡ []
  kept-none to s xs b = map-none (kept to s) (λ x. refl) (missing (is_name (outer_names b)) xs)

  handed-none : (f : Frame) (w : Word) (end : Expr) (k : ℕ) → brought given r end ≡ [] → brought given r (handed f w end k) ≡ []
  handed-none f w end k h = link-none f.at f.count (state_word w f.depth) end k h

  value-none : (enums : Enumerations) (types : Types) (f : Frame) (k : ℕ) (x : List ℕ) → brought given r (value_handed enums types f k x) ≡ []
  value-none enums types f k x = link-none f.at f.count (λ m. value_name f.depth m x) (constant f.at (some_constant enums (type_of types x))) k refl

  pub frame-none : (enums : Enumerations) (to : List ℕ → List ℕ) (types : Types) (f : Frame) → R (frame_eqns enums to types f) ≡ []
  frame-none enums to types f =
      ap₂ (λ ys zs. ys ++ zs) (handed-none f From (pending_of f) 0 refl)
      (ap₂ (λ ys zs. ys ++ zs) (handed-none f Next (number f.at 0) 0 refl) (map-none (joined enums to types f) (λ x. value-none enums types f 0 x) f.names))

  pub chosen-none : (f : Frame) (w : Word) (k n : ℕ) (end : Expr) (j : ℕ) → brought given r end ≡ [] → brought given r (chosen f w k n end j) ≡ []
  chosen-none f w k n end j h = link-none f.at n (transition_word w f.depth k) end j h

-- what a state that is not active hands on
pub idle-none : (given : List ℕ → List Ty) (r : Scope) (enums : Enumerations) (types : Types) (f : Frame) (k : ℕ) → brought_in_block given r (idle enums types f k) ≡ []
idle-none given r enums types f k =
    ap₂ (λ ys zs. ys ++ zs) (handed-none given r f Next (number f.at 0) (k + 1) refl) (map-none given r (idle_value enums types f k) (λ x. value-none given r enums types f (k + 1) x) f.names)

module _ (given : List ℕ → List Ty) (r : Scope) where
  -- ---- states

  -- the two comparisons of a jump
  abbrev two_of : Expr → List (List Ty)
  two_of e = of_compared (judged r e) ∷ of_compared (judged r e) ∷ []

  from-two : (f : Frame) (k n : ℕ) → brought_in_eqn given r (from_eqn f k Strong n (pending_of f)) ≡ two_of (pending_of f)
  from-two f k n = ap₂ (λ xs ys. two_of (pending_of f) ++ (xs ++ ys)) (chosen-none given r f Strong k n (pending_of f) 0 refl) (handed-none given r f From (pending_of f) (k + 1) refl)

  switch-one : (f : Frame) (k : ℕ) (body other : Block) → brought_in_block given r other ≡ [] → brought_in_eqn given r (state_switch f k body other) ≡ of_compared (judged r (jump_of f)) ∷ brought_in_block given r body
  switch-one f k body other none =
      let first = of_compared (judged r (jump_of f)) in
      let B = brought_in_block given r body in
      ap (λ xs. first ∷ ((B ++ []) ++ (xs ++ []))) none ∙ ap (λ xs. first ∷ xs) (append-nil (B ++ []) ∙ append-nil B)

  -- The five comparisons of a state stand between what its strong conditions and its body bring.
  pub state-rows : (to : List ℕ → List ℕ) (f : Frame) (k : ℕ) (unless : List Trans) (body other : Block) (more : List Eqn) → brought_in_block given r other ≡ []
      → (five : List Ty × List Ty × List Ty × List Ty × List Ty)
      × (R given r (state_eqns to f k unless body other ++ more)
      ≡ R given r (choices to f Strong k (length unless) (pending_of f) 0 unless) ++ (five.0 ∷ five.1 ∷ five.2 ∷ five.3 ∷ five.4 ∷ (brought_in_block given r body ++ R given r more)))
  state-rows to f k unless body other more none =
      let C = choices to f Strong k (length unless) (pending_of f) 0 unless in
      let fr = from_eqn f k Strong (length unless) (pending_of f) in
      let on = on_word f k in
      let sw = state_switch f k body other in
      let p = of_compared (judged r (pending_of f)) in
      let j = of_compared (judged r (jump_of f)) in
      let M = R given r more in (
        (p, p, j, j, j),
        ap (R given r) (append_assoc ((C ++ fr ∷ []) ++ on ∷ []) (sw ∷ []) more ∙ append_assoc (C ++ fr ∷ []) (on ∷ []) (sw ∷ more) ∙ append_assoc C (fr ∷ []) (on ∷ sw ∷ more))
            ∙ rows-append given r C (fr ∷ on ∷ sw ∷ more)
            ∙ ap₂ (λ xs ys. R given r C ++ (xs ++ (two_of (jump_of f) ++ (ys ++ M)))) (from-two f k (length unless)) (switch-one f k body other none),
      )

  -- the body of a state: its weak transitions, its next jump, and its equations
  pub body-rows : (to : List ℕ → List ℕ) (f : Frame) (k : ℕ) (until : List Trans) (es kept : List Eqn) → R given r kept ≡ []
      → R given r ((choices to f Weak k (length until) (stays f k) 0 until ++ own_next f k Weak (length until) (stays f k) ∷ []) ++ (es ++ kept)) ≡ R given r (choices to f Weak k (length until) (stays f k) 0 until) ++ R given r es
  body-rows to f k until es kept none =
      let C = choices to f Weak k (length until) (stays f k) 0 until in
      let own = own_next f k Weak (length until) (stays f k) in
      ap (R given r) (append_assoc C (own ∷ []) (es ++ kept))
      ∙ rows-append given r C (own ∷ (es ++ kept))
      ∙ ap₂ (λ xs ys. R given r C ++ (xs ++ ys)) (chosen-none given r f Weak k (length until) (stays f k) 0 refl) (rows-append given r es kept ∙ ap (λ xs. R given r es ++ xs) none ∙ append-nil (R given r es))
