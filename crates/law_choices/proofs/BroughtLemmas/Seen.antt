-- A walk over an expression finds what its comparisons and calls bring, in the order of slots.
use Rattle.std.proofs.Common.{◌≡◌, ℕ, Bool, if◌then◌else◌, List, [], ◌∷◌, ◌++◌, Option, Some, refl, sym, ap, ap₂, ◌∙◌}
use Rattle.std.proofs.lemmas.List.{append_assoc}
use Rattle.hp_base.specs.declared.span.Span.{Span}
use Rattle.hp_base.specs.declared.ty.Ty.{Ty}
use Rattle.hp_base.specs.declared.ty.Ty.TheVariants as ty
use Rattle.hp_base.specs.Known.Known.{lookup}
use Rattle.hp_tree.specs.Blocks.{Decl}
use Rattle.hp_tree.specs.Expressions.{Expr, constant, variable, last_of, one, two, choose, pre, fby, arrow, when_is, merge, call, Exprs, no_expr, more_exprs, Parts, no_part, more_parts}
use Rattle.hp_tree.specs.ExpressionTypes as tree
use Rattle.hp_tree.specs.Instant.{Args, First, Head, Instance, Second, Tail, Third}
use Rattle.hp_tree.specs.Programs.{Node, TypeDecl}
use Rattle.hp_typing.specs.Types.{type_of, type_of_one, types_in}
use Rattle.hp_meaning.specs.Contract.Slots.{FreePlace, Slot, control, free, free_among, input, is_int, register}
use Rattle.law_judged.specs.Typed.Scopes.{Scope}
use Rattle.law_values.specs.Valued.Judged.{ExprSound, ExprsSound, Lasts, PartsSound, no_lasts}
use Rattle.law_values.proofs.AcceptedLemmas.Keeps.{Grows, KeptName}
use Rattle.law_values.proofs.ValuedLemmas.Typed.{PartsHave, call_typed, if_typed, merge_typed, one_typed, pair_typed, two_typed, when_typed}
use Rattle.hp_automata.specs.Renaming.{renamed, renamed_exprs, renamed_parts}
use Rattle.law_automata.proofs.ReadiedLemmas.SoundExpressions.{expr_typed}
use Rattle.law_drawing.proofs.InshapeLemmas.TypesRead.{Agrees}
use Rattle.law_equations.specs.Flattened.Flatten.{Prefix, below}
use Rattle.law_wellmade.proofs.BegunLemmas.Typing.{ExprsHave, args_have}
use Rattle.hp_watch.specs.Walk.{Walked, behind, compares, walk, walk_all, walk_parts}
use Rattle.law_choices.specs.Places.Groups.{call_group, compared_groups, groups, groups_of_all, groups_of_parts, in_a_row}
use Rattle.law_choices.proofs.BroughtLemmas.Apiece.{Apiece, apiece-as, apiece-at, apiece-compared, apiece-front, apiece-nothing, apiece-two, call-apiece, compared-apiece, row-types, types_of_places}
use Rattle.law_choices.proofs.BroughtLemmas.Brought.{brought, brought_by, brought_in_all, brought_in_parts, free_types, joined_types, of_compared}
use Rattle.law_choices.proofs.BroughtLemmas.Integers.{int-same}
use Rattle.law_choices.proofs.PlacesLemmas.Expressions.{Takes, takes-two}
use Rattle.law_choices.proofs.PlacesLemmas.Slots.{outputs_slots}
use Rattle.law_choices.proofs.PlacesLemmas.Walks.{taken-as}

-- ---- lists

pub joined-append : (xs ys : List (List Ty)) → joined_types (xs ++ ys) ≡ joined_types xs ++ joined_types ys
joined-append [] ys = refl
joined-append (x ∷ xs) ys = ap (λ zs. x ++ zs) (joined-append xs ys) ∙ sym (append_assoc x (joined_types xs) (joined_types ys))

pub free-append : (xs ys : List Slot) → free_types (xs ++ ys) ≡ free_types xs ++ free_types ys
free-append [] ys = refl
free-append (register p k ∷ xs) ys = free-append xs ys
free-append (free p t ∷ xs) ys = ap (λ zs. t ∷ zs) (free-append xs ys)
free-append (input p t ∷ xs) ys = ap (λ zs. t ∷ zs) (free-append xs ys)
free-append (control p t ∷ xs) ys = free-append xs ys

-- ---- walks

-- A walk takes what events bring, and finds what slots have, wherever these stand.
abbrev pub Sees : (List (List Ty) → Walked (List Ty)) → List (List Ty) → (Prefix → List Slot) → Type 0
Sees walked events ss = (found : List (List Ty)) × Takes walked events found × ((w : Prefix) → joined_types found ≡ free_types (ss w))

-- what is joined of two is what slots in a row have
both-joined : (L M : List (List Ty)) (ss ts : List Slot) → joined_types L ≡ free_types ss → joined_types M ≡ free_types ts → joined_types (L ++ M) ≡ free_types (ss ++ ts)
both-joined L M ss ts h k = joined-append L M ∙ ap₂ (λ xs ys. xs ++ ys) h k ∙ sym (free-append ss ts)

pub sees-nothing : (v : List (List Ty) → Walked (List Ty)) (ss : Prefix → List Slot) → Takes v [] [] → ((w : Prefix) → free_types (ss w) ≡ []) → Sees v [] ss
sees-nothing v ss h none = ([], h, λ w. sym (none w))

pub sees-at : (v : List (List Ty) → Walked (List Ty)) (A : List (List Ty)) (ss ts : Prefix → List Slot) (m : Prefix → Prefix) → ((w : Prefix) → free_types (ss (m w)) ≡ free_types (ts w)) → Sees v A ss → Sees v A ts
sees-at v A ss ts m same h = (h.0, h.1, λ w. h.2 (m w) ∙ same w)

pub sees-as : (v : List (List Ty) → Walked (List Ty)) (A B : List (List Ty)) (ss : Prefix → List Slot) → B ≡ A → Sees v A ss → Sees v B ss
sees-as v A B ss e h = (h.0, taken-as v A B h.0 e h.1, h.2)

pub sees-two : (v u : List (List Ty) → Walked (List Ty)) (A B : List (List Ty)) (ss ts : Prefix → List Slot) (m n : Prefix → Prefix) → Sees v A ss → Sees u B ts → Sees (λ es. let x = v es in behind x.0 (u x.1)) (A ++ B) (λ w. ss (m w) ++ ts (n w))
sees-two v u A B ss ts m n h k = (h.0 ++ k.0, takes-two v u A B h.0 k.0 h.1 k.1, λ w. both-joined h.0 k.0 (ss (m w)) (ts (n w)) (h.2 (m w)) (k.2 (n w)))

-- What is found one by one is what slots have, where the groups in a row are the free ones among these.
pub sees-apiece : (v : List (List Ty) → Walked (List Ty)) (A : List (List Ty)) (gs : Prefix → List (List FreePlace)) (ss : Prefix → List Slot) → ((w : Prefix) → in_a_row (gs w) ≡ free_among (ss w)) → Apiece v A gs → Sees v A ss
sees-apiece v A gs ss row h = (h.0, h.1, λ w. ap joined_types (h.2 w) ∙ row-types (gs w) ∙ ap types_of_places (row w))

-- ---- expressions

module _ (types : List TypeDecl) (among : List ℕ → Option Node) (given : List ℕ → List Ty) (outs : List ℕ → List Decl) (callee : List ℕ → Prefix → List Slot)
    (calls : (f : List ℕ) (w : Prefix) → given f ≡ free_types (outputs_slots (outs f) (below Instance w) ++ callee f (below Instance w))) where
  -- `outs` has the outputs of the nodes that are known
  abbrev pub Knows : Scope → Type 0
  Knows s = (f : List ℕ) (n : Node) → lookup s.nodes f ≡ Some n → outs f ≡ n.outputs

  -- What is known where expressions are judged in one scope, stand in another under other names, and are read.
  pub record Reading (s r : Scope) (to : List ℕ → List ℕ) (names : tree.Scope) : Type 0 where
    pub grows : Grows types among s r
    pub renames : (x : List ℕ) → KeptName s r x (to x)
    pub itself : (x : List ℕ) → KeptName s r x x
    pub agrees : Agrees s names
    pub knows : Knows s

  module _ (s r : Scope) (to : List ℕ → List ℕ) (names : tree.Scope) (lasts : Lasts) (reading : Reading s r to names) where
    abbrev E : Expr → List (List Ty)
    E e = brought given r (renamed to e)

    abbrev S : Expr → Prefix → List (List FreePlace)
    S e w = groups types outs callee e names w

    abbrev pub AtExpr : Expr → Type 0
    AtExpr e = Apiece (walk e) (E e) (S e)

    still-typed : (e : Expr) (t : Ty) → type_of s e ≡ Some t → type_of r (renamed to e) ≡ Some t
    still-typed e t h = expr_typed types among s r reading.grows to no_lasts no_lasts reading.renames reading.itself (λ x k. k) e t h

    nothing : (v : List (List Ty) → Walked (List Ty)) → ((rest : List (List Ty)) → v rest ≡ ([], rest)) → Apiece v [] (λ w. [])
    nothing v h = apiece-nothing v h

    pair-sees : (a b : Expr) (m n : Prefix → Prefix) → AtExpr a → AtExpr b → Apiece (λ es. let x = walk a es in behind x.0 (walk b x.1)) (E a ++ E b) (λ w. S a (m w) ++ S b (n w))
    pair-sees a b m n h k = apiece-two (walk a) (walk b) (E a) (E b) (S a) (S b) m n h k

    -- a call, whose arguments are seen
    call-by : (a : Span) (f : List ℕ) (i : Bool) (es : Exprs) → Apiece (walk_all es) (brought_in_all given r (renamed_exprs to es)) (λ w. groups_of_all types outs callee es names w) → AtExpr (call a f i es)
    call-by a f i es h =
        let made = brought_in_all given r (renamed_exprs to es) in
        apiece-front (walk_all es) made (given f) (λ w. groups_of_all types outs callee es names w) (λ w. call_group types outs callee f (below Instance w)) (below Args)
        (λ w. calls f w ∙ call-apiece types outs callee f (below Instance w)) h

    mutual
      pub expr-sees : (e : Expr) (t : Ty) → type_of s e ≡ Some t → ExprSound types among s lasts e → AtExpr e
      expr-sees (constant a c) t h ok = nothing (walk (constant a c)) (λ rest. refl)
      expr-sees (variable a x) t h ok = nothing (walk (variable a x)) (λ rest. refl)
      expr-sees (last_of a x) t h ok = nothing (walk (last_of a x)) (λ rest. refl)
      expr-sees (one a o b) t h ok = apiece-at (walk b) (E b) (S b) (λ w. S b (below First w)) (below First) (λ w. refl) (expr-sees b (type_of_one o) (one_typed (type_of_one o) (type_of s b) t h).0 ok)
      expr-sees (two a o b c) t h ok =
          let q = two_typed o (type_of s b) (type_of s c) t h in
          let v = λ (es : List (List Ty)). let x = walk b es in behind x.0 (walk c x.1) in
          let l = of_compared (type_of r (renamed to b)) in
          let made = brought_by given o (type_of r (renamed to b)) in
          let ts : Prefix → List (List FreePlace) = λ w. compared_groups types outs callee o b names w in
          let both = pair-sees b c (below First) (below Second) (expr-sees b q.0 q.2 ok.0) (expr-sees c q.0 q.3 ok.1) in
          let typed = still-typed b q.0 q.2 in
          let int = int-same types among s lasts names reading.agrees outs reading.knows b q.0 ok.0 q.2 in
          apiece-as (walk (two a o b c)) ((E b ++ E c) ++ made) (E b ++ (E c ++ made)) (S (two a o b c)) (sym (append_assoc (E b) (E c) made))
          (apiece-compared (compares o) v (E b ++ E c) l (λ w. S b (below First w) ++ S c (below Second w)) ts
          (λ w. ap (λ u. if compares o then of_compared u ∷ [] else []) typed ∙ compared-apiece o (is_int (tree.type_of types outs b names)) q.0 w int) both)
      expr-sees (choose a b c d) t h ok =
          let q = if_typed (type_of s b) (type_of s c) (type_of s d) t h in
          let v = λ (es : List (List Ty)). let x = walk b es in behind x.0 (walk c x.1) in
          let two_first = pair-sees b c (below First) (below Second) (expr-sees b ty.Bool q.0 ok.0) (expr-sees c t q.1 ok.1.0) in
          let ss : Prefix → List (List FreePlace) = λ w. S b (below First w) ++ S c (below Second w) in
          let all = apiece-two v (walk d) (E b ++ E c) (E d) ss (S d) (λ w. w) (below Third) two_first (expr-sees d t q.2 ok.1.1) in
          apiece-as (walk (choose a b c d)) ((E b ++ E c) ++ E d) (E b ++ (E c ++ E d)) (S (choose a b c d)) (sym (append_assoc (E b) (E c) (E d)))
          (apiece-at (walk (choose a b c d)) ((E b ++ E c) ++ E d) (λ w. ss w ++ S d (below Third w)) (S (choose a b c d)) (λ w. w) (λ w. append_assoc (S b (below First w)) (S c (below Second w)) (S d (below Third w))) all)
      expr-sees (pre a b) t h ok = apiece-at (walk b) (E b) (S b) (S (pre a b)) (below First) (λ w. refl) (expr-sees b t h ok)
      expr-sees (fby a b c) t h ok =
          let q = pair_typed (type_of s b) (type_of s c) t h in
          apiece-at (walk (fby a b c)) (E b ++ E c) (λ w. S b (below First w) ++ S c (below Second w)) (S (fby a b c)) (λ w. w) (λ w. refl) (pair-sees b c (below First) (below Second) (expr-sees b t q.0 ok.0) (expr-sees c t q.1 ok.1))
      expr-sees (arrow a b c) t h ok =
          let q = pair_typed (type_of s b) (type_of s c) t h in
          apiece-at (walk (arrow a b c)) (E b ++ E c) (λ w. S b (below First w) ++ S c (below Second w)) (S (arrow a b c)) (λ w. w) (λ w. refl) (pair-sees b c (below First) (below Second) (expr-sees b t q.0 ok.0) (expr-sees c t q.1 ok.1))
      expr-sees (when_is a b c x) t h ok = apiece-at (walk b) (E b) (S b) (λ w. S b (below First w)) (below First) (λ w. refl) (expr-sees b t (when_typed _ _ t h) ok)
      expr-sees (merge a x ps) t h ok =
          apiece-at (walk_parts ps) (brought_in_parts given r (renamed_parts to ps)) (λ w. groups_of_parts types outs callee ps names w) (S (merge a x ps)) (below Args) (λ w. refl) (parts-see ps t (merge_typed s (lookup s.variables x) ps t h) ok.1)
      expr-sees (call a f i es) t h ok =
          let q = call_typed (lookup s.nodes f) (types_in s es) t h in
          call-by a f i es (all-see es (args_have s q.0.inputs es q.2) ok.1)

      all-see : (es : Exprs) → ExprsHave s es → ExprsSound types among s lasts es → Apiece (walk_all es) (brought_in_all given r (renamed_exprs to es)) (λ w. groups_of_all types outs callee es names w)
      all-see no_expr h ok = nothing (walk_all no_expr) (λ rest. refl)
      all-see (more_exprs e es) h ok =
          apiece-two (walk e) (walk_all es) (E e) (brought_in_all given r (renamed_exprs to es)) (S e) (λ w. groups_of_all types outs callee es names w) (below Head) (below Tail) (expr-sees e h.0.0 h.0.1 ok.0) (all-see es h.1 ok.1)

      parts-see : (ps : Parts) (t : Ty) → PartsHave s t ps → PartsSound types among s lasts ps → Apiece (walk_parts ps) (brought_in_parts given r (renamed_parts to ps)) (λ w. groups_of_parts types outs callee ps names w)
      parts-see no_part t h ok = nothing (walk_parts no_part) (λ rest. refl)
      parts-see (more_parts c e ps) t h ok =
          apiece-two (walk e) (walk_parts ps) (E e) (brought_in_parts given r (renamed_parts to ps)) (S e) (λ w. groups_of_parts types outs callee ps names w) (below Head) (below Tail) (expr-sees e t h.0 ok.0) (parts-see ps t h.1 ok.1)

    pub call-sees : (a : Span) (f : List ℕ) (i : Bool) (es : Exprs) → ExprsHave s es → ExprsSound types among s lasts es → AtExpr (call a f i es)
    call-sees a f i es h ok = call-by a f i es (all-see es h ok)
