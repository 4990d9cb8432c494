-- What is written token by token.
use Rattle.std.proofs.Common.{◌≡◌, ℕ, ◌+◌, ◌<◌, ◌≤◌, get_or, length, drop, map, List, [], ◌∷◌, ◌++◌, refl, sym, ap, ◌∙◌}
use Rattle.std.proofs.lemmas.List.{append-nil, append_assoc, drop_all}
use Rattle.std.proofs.Math.Seq.{drop-cons}
use Rattle.std.proofs.Math.Numerals.{add-one}
use Rattle.hp_base.specs.declared.span.Span.{Span}
use Rattle.hp_lexer.specs.Written.{Written, written_text}
use Rattle.hp_lexer.specs.declared.token.Keyword.TheVariants as key
use Rattle.hp_lexer.specs.declared.token.Sign.TheVariants as mark
use Rattle.hp_tree.specs.declared.decl.Cons.{Cons}
use Rattle.hp_tree.specs.declared.block.Trans.{Trans}
use Rattle.hp_tree.specs.declared.block.Eqn as code_eqn
use Rattle.hp_tree.specs.declared.block.Arm as code_arm
use Rattle.hp_tree.specs.declared.block.State as code_state
use Rattle.hp_tree.specs.declared.program.Item.{Item}
use Rattle.hp_tree.specs.BlockView.{eqn_seen, arm_seen, state_seen}
use Rattle.hp_tree.specs.Expressions.{Expr, exprs_of, parts_of}
use Rattle.hp_tree.specs.Blocks.{Decl, eqns_of, arms_of, states_of}
use Rattle.hp_print.specs.Tokens.{word, sign, small, capital, cons_token, led_by, ended_by, written_after}
use Rattle.hp_print.specs.ExpressionTokens.{of_constructor_tokens, expression_tokens, more_arguments_tokens, parts_tokens}
use Rattle.hp_print.specs.BlockTokens.{path_tokens, declaration_tokens, left_name, transition_tokens, transitions_tokens, body_tokens, equation_tokens, equations_tokens, arms_tokens, states_tokens}
use Rattle.hp_print.specs.ProgramTokens.{constructor_tokens, item_tokens, program_tokens}

-- an element of a list, and what is behind it
pub drop-next : {A : Type 0} (xs : List A) (i : ℕ) (x : A) → i < length xs → x ≡ get_or xs i x → drop i xs ≡ x ∷ drop (i + 1) xs
drop-next xs i x h p = drop-cons xs i x h ∙ rw (add-one, ← p)

pub drop-end : {A : Type 0} (xs : List A) (i : ℕ) → length xs ≤ i → drop i xs ≡ []
drop-end xs i h = drop_all i xs h

pub written_text-append : (ws vs : List Written) → written_text (ws ++ vs) ≡ written_text ws ++ written_text vs
written_text-append [] vs = refl
written_text-append (w ∷ ws) vs = ap (λ t. w.bytes ++ (w.behind ∷ t)) (written_text-append ws vs) ∙ sym (append_assoc w.bytes (w.behind ∷ written_text ws) (written_text vs))

module _ (text : List ℕ) where
  pub written_after-nil : written_after text [] ≡ text
  unfolding written_after
  written_after-nil = append-nil text

  pub written_after-append : (ws vs : List Written) → written_after text (ws ++ vs) ≡ written_after (written_after text ws) vs
  unfolding written_after
  written_after-append ws vs = ap (λ t. text ++ t) (written_text-append ws vs) ∙ sym (append_assoc text (written_text ws) (written_text vs))

  pub written_after-cons : (w : Written) (vs : List Written) → written_after text (w ∷ vs) ≡ written_after (written_after text (w ∷ [])) vs
  written_after-cons w vs = written_after-append (w ∷ []) vs

  -- one token
  pub written_after-one : (w : Written) → written_after text (w ∷ []) ≡ text ++ (w.bytes ++ (w.behind ∷ []))
  unfolding written_after
  written_after-one w = refl

pub written_after-nothing : (ws : List Written) → written_after [] ws ≡ written_text ws
unfolding written_after
written_after-nothing ws = refl

-- ---- one more element of a list

module _ (text : List ℕ) where
  led-next : {A : Type 0} (w : Written) (f : A → List Written) (xs : List A) (i : ℕ) (x : A) → i < length xs → x ≡ get_or xs i x
      → written_after text (led_by w (map f (drop i xs))) ≡ written_after (written_after (written_after text (w ∷ [])) (f x)) (led_by w (map f (drop (i + 1) xs)))
  led-next w f xs i x h p =
      let rest = led_by w (map f (drop (i + 1) xs)) in
      ap (λ more. written_after text (led_by w (map f more))) (drop-next xs i x h p)
      ∙ written_after-cons text w (f x ++ rest) ∙ written_after-append (written_after text (w ∷ [])) (f x) rest

  ended-next : {A : Type 0} (w : Written) (f : A → List Written) (xs : List A) (i : ℕ) (x : A) → i < length xs → x ≡ get_or xs i x
      → written_after text (ended_by w (map f (drop i xs))) ≡ written_after (written_after (written_after text (f x)) (w ∷ [])) (ended_by w (map f (drop (i + 1) xs)))
  ended-next w f xs i x h p =
      let rest = ended_by w (map f (drop (i + 1) xs)) in
      ap (λ more. written_after text (ended_by w (map f more))) (drop-next xs i x h p)
      ∙ written_after-append text (f x) (w ∷ rest) ∙ written_after-cons (written_after text (f x)) w rest

  pub written_after-parameters : (ds : List Decl) (i : ℕ) (d : Decl) → i < length ds → d ≡ get_or ds i d
      → written_after text (led_by (sign mark.Semicolon) (map declaration_tokens (drop i ds)))
      ≡ written_after (written_after (written_after text (sign mark.Semicolon ∷ [])) (declaration_tokens d)) (led_by (sign mark.Semicolon) (map declaration_tokens (drop (i + 1) ds)))
  written_after-parameters = led-next (sign mark.Semicolon) declaration_tokens

  pub written_after-declarations : (ds : List Decl) (i : ℕ) (d : Decl) → i < length ds → d ≡ get_or ds i d
      → written_after text (ended_by (sign mark.Semicolon) (map declaration_tokens (drop i ds)))
      ≡ written_after (written_after (written_after text (declaration_tokens d)) (sign mark.Semicolon ∷ [])) (ended_by (sign mark.Semicolon) (map declaration_tokens (drop (i + 1) ds)))
  written_after-declarations = ended-next (sign mark.Semicolon) declaration_tokens

  pub written_after-names : (xs : List (List ℕ × Span)) (i : ℕ) (x : List ℕ × Span) → i < length xs → x ≡ get_or xs i x
      → written_after text (led_by (sign mark.Comma) (map left_name (drop i xs)))
      ≡ written_after (written_after (written_after text (sign mark.Comma ∷ [])) (small x.0 ∷ [])) (led_by (sign mark.Comma) (map left_name (drop (i + 1) xs)))
  written_after-names = led-next (sign mark.Comma) left_name

  pub written_after-transitions : (ts : List Trans) (i : ℕ) (t : Trans) → i < length ts → t ≡ get_or ts i t
      → written_after text (led_by (sign mark.Bar) (map transition_tokens (drop i ts)))
      ≡ written_after (written_after (written_after text (sign mark.Bar ∷ [])) (transition_tokens t)) (led_by (sign mark.Bar) (map transition_tokens (drop (i + 1) ts)))
  written_after-transitions = led-next (sign mark.Bar) transition_tokens

  pub written_after-constructors : (xs : List (List ℕ)) (i : ℕ) (x : List ℕ) → i < length xs → x ≡ get_or xs i x
      → written_after text (led_by (sign mark.Bar) (map constructor_tokens (drop i xs)))
      ≡ written_after (written_after (written_after text (sign mark.Bar ∷ [])) (capital x ∷ [])) (led_by (sign mark.Bar) (map constructor_tokens (drop (i + 1) xs)))
  written_after-constructors = led-next (sign mark.Bar) constructor_tokens

  pub written_after-arguments : (es : List Expr) (i : ℕ) (e : Expr) → i < length es → e ≡ get_or es i e
      → written_after text (more_arguments_tokens (exprs_of (drop i es)))
      ≡ written_after (written_after (written_after text (sign mark.Comma ∷ [])) (expression_tokens e)) (more_arguments_tokens (exprs_of (drop (i + 1) es)))
  written_after-arguments es i e h p =
      let rest = more_arguments_tokens (exprs_of (drop (i + 1) es)) in
      ap (λ more. written_after text (more_arguments_tokens (exprs_of more))) (drop-next es i e h p)
      ∙ written_after-cons text (sign mark.Comma) (expression_tokens e ++ rest)
      ∙ written_after-append (written_after text (sign mark.Comma ∷ [])) (expression_tokens e) rest

  pub written_after-parts : (ps : List (Cons × Expr)) (i : ℕ) (p : Cons × Expr) → i < length ps → p ≡ get_or ps i p
      → written_after text (parts_tokens (parts_of (drop i ps)))
      ≡ written_after (written_after (written_after (written_after (written_after (written_after text (sign mark.Open ∷ [])) (cons_token p.0 ∷ [])) (sign mark.Arrow ∷ [])) (expression_tokens p.1)) (sign mark.Close ∷ []))
      (parts_tokens (parts_of (drop (i + 1) ps)))
  written_after-parts ps i p h q =
      let rest = parts_tokens (parts_of (drop (i + 1) ps)) in
      let opened = written_after text (sign mark.Open ∷ []) in
      let named = written_after opened (cons_token p.0 ∷ []) in
      let led = written_after named (sign mark.Arrow ∷ []) in
      let tokens = expression_tokens p.1 ++ (sign mark.Close ∷ rest) in
      ap (λ more. written_after text (parts_tokens (parts_of more))) (drop-next ps i p h q)
      ∙ written_after-cons text (sign mark.Open) (cons_token p.0 ∷ (sign mark.Arrow ∷ tokens))
      ∙ written_after-cons opened (cons_token p.0) (sign mark.Arrow ∷ tokens)
      ∙ written_after-cons named (sign mark.Arrow) tokens
      ∙ written_after-append led (expression_tokens p.1) (sign mark.Close ∷ rest)
      ∙ written_after-cons (written_after led (expression_tokens p.1)) (sign mark.Close) rest

  pub written_after-path : (steps : List (Cons × List ℕ)) (i : ℕ) (p : Cons × List ℕ) → i < length steps → p ≡ get_or steps i p
      → written_after text (path_tokens (drop i steps))
      ≡ written_after (written_after (written_after text (word key.On ∷ [])) (of_constructor_tokens p.0 p.1)) (path_tokens (drop (i + 1) steps))
  written_after-path steps i p h q =
      let rest = path_tokens (drop (i + 1) steps) in
      ap (λ more. written_after text (path_tokens more)) (drop-next steps i p h q)
      ∙ written_after-cons text (word key.On) (of_constructor_tokens p.0 p.1 ++ rest)
      ∙ written_after-append (written_after text (word key.On ∷ [])) (of_constructor_tokens p.0 p.1) rest

  pub written_after-equations : (es : List code_eqn.Eqn) (i : ℕ) (e : code_eqn.Eqn) → i < length es → e ≡ get_or es i e
      → written_after text (equations_tokens (eqns_of (map eqn_seen (drop i es))))
      ≡ written_after (written_after (written_after text (equation_tokens (eqn_seen e))) (sign mark.Semicolon ∷ [])) (equations_tokens (eqns_of (map eqn_seen (drop (i + 1) es))))
  written_after-equations es i e h p =
      let rest = equations_tokens (eqns_of (map eqn_seen (drop (i + 1) es))) in
      ap (λ more. written_after text (equations_tokens (eqns_of (map eqn_seen more)))) (drop-next es i e h p)
      ∙ written_after-append text (equation_tokens (eqn_seen e)) (sign mark.Semicolon ∷ rest)
      ∙ written_after-cons (written_after text (equation_tokens (eqn_seen e))) (sign mark.Semicolon) rest

  pub written_after-arms : (arms : List code_arm.Arm) (i : ℕ) (a : code_arm.Arm) → i < length arms → a ≡ get_or arms i a
      → written_after text (arms_tokens (arms_of (map arm_seen (drop i arms))))
      ≡ written_after (written_after (written_after (written_after text (sign mark.Bar ∷ [])) (cons_token a.cons ∷ [])) (body_tokens a.body)) (arms_tokens (arms_of (map arm_seen (drop (i + 1) arms))))
  written_after-arms arms i a h p =
      let rest = arms_tokens (arms_of (map arm_seen (drop (i + 1) arms))) in
      let first = written_after text (sign mark.Bar ∷ []) in
      ap (λ more. written_after text (arms_tokens (arms_of (map arm_seen more)))) (drop-next arms i a h p)
      ∙ written_after-cons text (sign mark.Bar) (cons_token a.cons ∷ (body_tokens a.body ++ rest))
      ∙ written_after-cons first (cons_token a.cons) (body_tokens a.body ++ rest)
      ∙ written_after-append (written_after first (cons_token a.cons ∷ [])) (body_tokens a.body) rest

  pub written_after-states : (qs : List code_state.State) (i : ℕ) (q : code_state.State) → i < length qs → q ≡ get_or qs i q
      → written_after text (states_tokens (states_of (map state_seen (drop i qs))))
      ≡ written_after (written_after text (states_tokens (states_of (state_seen q ∷ [])))) (states_tokens (states_of (map state_seen (drop (i + 1) qs))))
  written_after-states qs i q h p = ap (λ more. written_after text (states_tokens (states_of (map state_seen more)))) (drop-next qs i q h p) ∙ state-first (states_tokens (states_of (map state_seen (drop (i + 1) qs))))
    where
      head : List Written
      head = word key.State ∷ (capital q.name ∷ [])

      body : List Written
      body = body_tokens q.body

      weak : List Written
      weak = transitions_tokens key.Until q.until.items

      strong : List Written
      strong = transitions_tokens key.Unless q.unless.items

      state-first : (rest : List Written) → written_after text (head ++ (body ++ (weak ++ (strong ++ rest)))) ≡ written_after (written_after text (head ++ (body ++ (weak ++ (strong ++ []))))) rest
      state-first rest =
          ap (written_after text) (sym (append_assoc head (body ++ (weak ++ (strong ++ []))) rest
          ∙ ap (λ z. head ++ z) (append_assoc body (weak ++ (strong ++ [])) rest
          ∙ ap (λ z. body ++ z) (append_assoc weak (strong ++ []) rest
          ∙ ap (λ z. weak ++ z) (append_assoc strong [] rest)))))
          ∙ written_after-append text (head ++ (body ++ (weak ++ (strong ++ [])))) rest

  pub written_after-items : (items : List Item) (i : ℕ) (item : Item) → i < length items → item ≡ get_or items i item
      → written_after text (program_tokens (drop i items)) ≡ written_after (written_after text (item_tokens item)) (program_tokens (drop (i + 1) items))
  written_after-items items i item h p =
      let rest = program_tokens (drop (i + 1) items) in
      ap (λ more. written_after text (program_tokens more)) (drop-next items i item h p) ∙ written_after-append text (item_tokens item) rest
