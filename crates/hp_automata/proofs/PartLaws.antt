-- What an automaton is made of, one thing after the other.
use Rattle.std.proofs.Common.{◌≡◌, ℕ, ◌+◌, ◌<◌, get_or, length, drop, map, List, [], ◌∷◌, Bor, None, ap, ◌∙◌}
use Rattle.hp_base.specs.declared.span.Span.{Span}
use Rattle.hp_base.specs.declared.ty.Ty.TheVariants.{Int}
use Rattle.hp_tree.specs.declared.block.Trans.{Trans}
use Rattle.hp_tree.specs.declared.block.State.{State}
use Rattle.hp_tree.specs.BlockView.{state_seen}
use Rattle.hp_tree.specs.Expressions.{Expr}
use Rattle.hp_tree.specs.Blocks.{Decl, Eqn, block, eqns_of, states_of}
use Rattle.hp_automata.specs.declared.new_names.Word.{Word}
use Rattle.hp_automata.specs.NewNames.{transition_word}
use Rattle.hp_automata.specs.Lowering.{Types, Enumerations, Frame, on_base, transition_locals, choice, choices, value_local, state_locals, locals_from, joined, idle_value, kept}
use Rattle.hp_automata.specs.Lists.{names_seen, with_more}
use Rattle.hp_automata.proofs.ListLaws.{drop-next, more-append}

-- some names, one after the other
mapped : {A : Type 0} (g : List ℕ → A) (before : List A) (xs : List (Bor (List ℕ))) (i : ℕ) (x : Bor (List ℕ)) → i < length xs → x ≡ get_or xs i x
    → with_more before (map g (names_seen (drop i xs))) ≡ with_more (with_more before (g x.now ∷ [])) (map g (names_seen (drop (i + 1) xs)))
mapped g before xs i x h p = ap (λ more. with_more before (map g (names_seen more))) (drop-next xs i x h p) ∙ more-append before (g x.now ∷ []) (map g (names_seen (drop (i + 1) xs)))

module _ (f : Frame) (w : Word) (k i : ℕ) (t : Trans) (ts : List Trans) (h : i < length ts) (p : t ≡ get_or ts i t) where
  pub transition-locals-next : (before : List Decl)
      → with_more before (transition_locals f w k i (drop i ts)) ≡ with_more (with_more before (on_base t.span (transition_word w f.depth k i) Int None ∷ [])) (transition_locals f w k (i + 1) (drop (i + 1) ts))
  transition-locals-next before =
      ap (λ more. with_more before (transition_locals f w k i more)) (drop-next ts i t h p)
      ∙ more-append before (on_base t.span (transition_word w f.depth k i) Int None ∷ []) (transition_locals f w k (i + 1) (drop (i + 1) ts))

  pub choices-next : (to : List ℕ → List ℕ) (n : ℕ) (end : Expr) (before : List Eqn)
      → with_more before (choices to f w k n end i (drop i ts)) ≡ with_more (with_more before (choice to f w k n end i t ∷ [])) (choices to f w k n end (i + 1) (drop (i + 1) ts))
  choices-next to n end before =
      ap (λ more. with_more before (choices to f w k n end i more)) (drop-next ts i t h p)
      ∙ more-append before (choice to f w k n end i t ∷ []) (choices to f w k n end (i + 1) (drop (i + 1) ts))

module _ (xs : List (Bor (List ℕ))) (i : ℕ) (x : Bor (List ℕ)) (h : i < length xs) (p : x ≡ get_or xs i x) where
  pub value-locals-next : (types : Types) (f : Frame) (k : ℕ) (before : List Decl) → with_more before (map (value_local types f k) (names_seen (drop i xs)))
      ≡ with_more (with_more before (value_local types f k x.now ∷ [])) (map (value_local types f k) (names_seen (drop (i + 1) xs)))
  value-locals-next types f k before = mapped (value_local types f k) before xs i x h p

  pub joined-next : (enums : Enumerations) (to : List ℕ → List ℕ) (types : Types) (f : Frame) (before : List Eqn) → with_more before (map (joined enums to types f) (names_seen (drop i xs)))
      ≡ with_more (with_more before (joined enums to types f x.now ∷ [])) (map (joined enums to types f) (names_seen (drop (i + 1) xs)))
  joined-next enums to types f before = mapped (joined enums to types f) before xs i x h p

  pub idle-next : (enums : Enumerations) (types : Types) (f : Frame) (k : ℕ) (before : List Eqn) → with_more before (map (idle_value enums types f k) (names_seen (drop i xs)))
      ≡ with_more (with_more before (idle_value enums types f k x.now ∷ [])) (map (idle_value enums types f k) (names_seen (drop (i + 1) xs)))
  idle-next enums types f k before = mapped (idle_value enums types f k) before xs i x h p

  pub kept-next : (to : List ℕ → List ℕ) (s : Span) (before : List Eqn) → with_more before (map (kept to s) (names_seen (drop i xs)))
      ≡ with_more (with_more before (kept to s x.now ∷ [])) (map (kept to s) (names_seen (drop (i + 1) xs)))
  kept-next to s before = mapped (kept to s) before xs i x h p

-- ---- states

module _ (qs : List State) (i : ℕ) (q : State) (h : i < length qs) (p : q ≡ get_or qs i q) where
  pub locals-next : (types : Types) (f : Frame) (before : List Decl) → with_more before (locals_from types f i (states_of (map state_seen (drop i qs))))
      ≡ with_more (with_more before (state_locals types f i q.unless.items)) (locals_from types f (i + 1) (states_of (map state_seen (drop (i + 1) qs))))
  locals-next types f before =
      ap (λ more. with_more before (locals_from types f i (states_of (map state_seen more)))) (drop-next qs i q h p)
      ∙ more-append before (state_locals types f i q.unless.items) (locals_from types f (i + 1) (states_of (map state_seen (drop (i + 1) qs))))

-- the equations of a block
pub block-of : (locals : List Decl) (eqns es : List Eqn) → eqns ≡ es → block locals (eqns_of eqns) ≡ block locals (eqns_of es)
block-of locals eqns es h = ap (λ all. block locals (eqns_of all)) h
