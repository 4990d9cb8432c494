-- There is one reaction in which each instance chooses by a function, and it is a reaction of the program.
use Rattle.std.proofs.Common.{◌≡◌, ℕ, suc, inl, inr, List, [], ◌∷◌, map, length, refl, sym, ap, ap₂, ◌∙◌, subst, arith}
use Rattle.std.proofs.Math.Path.{fun_ext}
use Rattle.std.specs.Prelude.{Bool, true, false, IsTrue, ⊤, if◌then◌else◌, reverse, All, ◌++◌, filter}
use Rattle.std.specs.Str.{bytes_eq}
use Rattle.std.specs.Bool.{MatchBool}
use Rattle.hp_base.specs.declared.value.Value.{Value}
use Rattle.hp_base.specs.declared.value.Value.TheVariants.{Absent, B}
use Rattle.hp_tree.specs.declared.program.Item.{Item}
use Rattle.hp_tree.specs.declared.program.Item.TheVariants.{TypeItem, NodeItem}
use Rattle.hp_tree.specs.Blocks.{Decl}
use Rattle.hp_tree.specs.Programs.{TypeDecl, Node}
use Rattle.hp_tree.specs.Operators.{real, is_there}
use Rattle.hp_tree.specs.Instant.{Inputs, Controls, Fresh, Head, Tail, Instance, Place, Instant, Past, Given, part, parts, own, alone, nothing, in_row}
use Rattle.hp_tree.specs.Meaning.{Nodes, names_of, types_of, controls_of, given_to, node, nodes}
use Rattle.hp_tree.specs.Reaction.{Reaction, row_of, controls_at}
use Rattle.hp_meaning.specs.Causal.Causality.{Ranked, IsRanked}
use Rattle.hp_meaning.specs.Causal.Clocked.{ClocksRight}
use Rattle.hp_meaning.specs.Causal.OneReaction.{OneInstant, ReactionOf}
use Rattle.hp_meaning.specs.Causal.Points.{Placed, points}
use Rattle.hp_meaning.specs.Causal.Steering.{steered_by}
use Rattle.hp_meaning.proofs.CausalLemmas.Fix.{Fixed}
use Rattle.hp_meaning.proofs.CausalLemmas.Swap.{given, with_instances, OfParts, AgreeWhere, node_swap_given}
use Rattle.hp_meaning.proofs.CausalLemmas.Unique.{AllOne, solved, none_one, one_of, as_solved, node_one, onto, ranked_reverse, reaction_one}
use Rattle.hp_meaning.proofs.CausalLemmas.Unsteered.{unsteered_same}
use Rattle.hp_meaning.specs.Contract.Forgetting.{erase, ContractsCallNothing}
use Rattle.hp_meaning.specs.Contract.FreePlaces.{is_call, calls_of, instance_at}
use Rattle.hp_meaning.specs.Contract.Game.{Choice, at_controls}
use Rattle.hp_meaning.specs.Contract.ChosenRuns.{own_past, Controlled, ControlledThroughout}
use Rattle.hp_meaning.specs.Contract.SteeredRuns.{Strategy, IsStrategy, Follows, steered, steered_meaning, AllClocksRight, OneReactionByLaw, OneSteeredLaw, SteeredLaw, ChosenReactionLaw}
use Rattle.hp_meaning.proofs.ContractLemmas.Beside.{early_unsteered}
use Rattle.hp_meaning.proofs.ContractLemmas.Callees.{Word, word_of, calls_held}
use Rattle.hp_meaning.proofs.ContractLemmas.Instances.{EachCall}
use Rattle.hp_meaning.proofs.ContractLemmas.CallsSwap.{AgreeAt, Read, anew, node_known}
use Rattle.std.proofs.lemmas.List.Elements.{All-head, All-tail}
use Rattle.hp_meaning.proofs.ContractLemmas.ForgetsNodes.{nothing_called_reverse}

clocks_onto : (xs ys : List Item) → AllClocksRight xs → AllClocksRight ys → AllClocksRight (onto xs ys)
clocks_onto [] ys r s = s
clocks_onto (TypeItem t ∷ xs) ys r s = clocks_onto xs (TypeItem t ∷ ys) r s
clocks_onto (NodeItem n ∷ xs) ys r s = clocks_onto xs (NodeItem n ∷ ys) r.1 (r.0, s)

-- ---- one instant

module _ (program : List Item) (s : Strategy) (is : IsStrategy program s) where
  -- a node whose callees choose so
  module _ (N : Nodes) (all : AllOne N.instant) (n : Node) (o : Ranked n) (right : ClocksRight n) (vs : List Value) (past : Past) where
    abbrev chosen : Instant → Choice
    chosen now = s n (erase past) (row_of n.inputs (in_row (map alone vs))) now

    abbrev with_choice : Choice → Given
    with_choice c = given past (steered_by nothing (at_controls c))

    solution : (c : Choice) → OneInstant (node (types_of program) real N n vs (with_choice c))
    solution c = node_one (types_of program) real N all n o vs (with_choice c)

    -- Whatever was chosen, the function chooses the same.
    same_choice : (c d : Choice) (i j : Instant) → Fixed (node (types_of program) real N n vs (with_choice c)) i → Fixed (node (types_of program) real N n vs (with_choice d)) j → chosen i ≡ chosen j
    same_choice c d i j fi fj =
        is.early_alone n (erase past) (row_of n.inputs (in_row (map alone vs))) i j
        (λ p early. unsteered_same (types_of program) real N.outputs (solved N.instant all) past nothing (at_controls c) (at_controls d) n o vs i j
        (as_solved (types_of program) real N all n vs (with_choice c) i fi) (as_solved (types_of program) real N all n vs (with_choice d) j fj) p (early_unsteered program n p right early))

    node_steered_one : OneInstant (λ now. node (types_of program) real N n vs (with_choice (chosen now)) now)
    node_steered_one =
        let first = solution (chosen nothing) in
        let c = chosen first.now in
        let one = solution c in
        let settled : chosen one.now ≡ c = same_choice c (chosen nothing) one.now first.now one.meets first.meets in
        record {
          now = one.now;
          meets = λ p. one.meets p ∙ ap (λ d. node (types_of program) real N n vs (with_choice d) one.now p) (sym settled);
          only = λ j met p.
              let e : chosen j ≡ c = same_choice (chosen j) (chosen nothing) j first.now met first.meets in
              one.only j (λ q. met q ∙ ap (λ d. node (types_of program) real N n vs (with_choice d) j q) e) p;
        }

  all_steered : (items : List Item) → IsRanked items → AllClocksRight items → AllOne (steered s (types_of program) items).instant
  all_steered [] r k f vs g = none_one
  all_steered (TypeItem t ∷ items) r k f vs g = all_steered items r k f vs g
  all_steered (NodeItem n ∷ items) r k f vs g =
      one_of (bytes_eq n.name f) _ ((steered s (types_of program) items).instant f vs g)
      (node_steered_one (steered s (types_of program) items) (all_steered items r.1 k.1) n r.0 k.0 vs g.past) (all_steered items r.1 k.1 f vs g)

pub one_steered : OneSteeredLaw
one_steered program s f inputs frees r k is e =
    reaction_one (steered_meaning s program f) (λ vs g. all_steered program s is (reverse program) (ranked_reverse program r) (clocks_onto program [] k tt) f vs g) inputs frees e

-- ---- it is a reaction of the program

-- values of declarations, out of a row of as many
given_row : (ds : List Decl) (types : List TypeDecl) (N : Nodes) (c : Choice) → length c ≡ length ds → given_to types real N ds (in_row (map alone c)) ≡ c
given_row [] types N [] e = refl
given_row [] types N (v ∷ c) e = absurd (omega arith)
given_row (d ∷ ds) types N [] e = absurd (omega arith)
given_row (d ∷ ds) types N (v ∷ c) e = ap (λ vs. v ∷ vs) (given_row ds types N c (omega arith))

same_given : (ds : List Decl) (types : List TypeDecl) (N : Nodes) (i j : Instant) → ((p : Place) → i p ≡ j p) → given_to types real N ds i ≡ given_to types real N ds j
same_given [] types N i j h = refl
same_given (d ∷ ds) types N i j h = ap₂ (λ v vs. v ∷ vs) (h (Head ∷ [])) (same_given ds types N (part Tail i) (part Tail j) (λ p. h (Tail ∷ p)))

row_given : (ds : List Decl) (types : List TypeDecl) (N : Nodes) (i : Instant) → row_of ds i ≡ given_to types real N ds i
row_given [] types N i = refl
row_given (d ∷ ds) types N i = ap (λ vs. i (Head ∷ []) ∷ vs) (row_given ds types N (part Tail i))

-- what is given is what the instant holds
abbrev Own : Instant → Instant → Instant → Type 0
Own free other now = (p : Place) → other p ≡ now p

own_parts : OfParts Own
own_parts t free other now h p = h (t ∷ p)

pick : (d : Bool) (F F' G G' : Instant → Instant) (now : Instant) → (Fixed F now → (p : Place) → F now p ≡ F' now p) → (Fixed G now → (p : Place) → G now p ≡ G' now p) → Fixed (λ i. if d then F i else G i) now → (p : Place) → (if d then F now else G now) p ≡ (if d then F' now else G' now) p
pick true F F' G G' now f g met p = f met p
pick false F F' G G' now f g met p = g met p

outputs_alike : (s : Strategy) (types : List TypeDecl) (items : List Item) (f : List ℕ) → (steered s types items).outputs f ≡ (nodes types real items).outputs f
outputs_alike s types [] f = refl
outputs_alike s types (TypeItem t ∷ items) f = outputs_alike s types items f
outputs_alike s types (NodeItem n ∷ items) f = ap (λ os. if bytes_eq n.name f then names_of n.outputs else os) (outputs_alike s types items f)

row_same : (ds : List Decl) (i j : Instant) → ((p : Place) → i p ≡ j p) → row_of ds i ≡ row_of ds j
row_same [] i j h = refl
row_same (d ∷ ds) i j h = ap₂ (λ v vs. v ∷ vs) (h (Head ∷ [])) (row_same ds (part Tail i) (part Tail j) (λ p. h (Tail ∷ p)))

either_word : (d : Bool) (i j : Instant) → Word i → Word j → Word (if d then i else j)
either_word true i j h k = h
either_word false i j h k = k

steered_word : (s : Strategy) (types : List TypeDecl) (items : List Item) (f : List ℕ) (vs : List Value) (g : Given) (now : Instant) → Word ((steered s types items).instant f vs g now)
steered_word s types [] f vs g now = inr (λ p. refl)
steered_word s types (TypeItem t ∷ items) f vs g now = steered_word s types items f vs g now
steered_word s types (NodeItem n ∷ items) f vs g now = either_word (bytes_eq n.name f) _ _ (inl refl) (steered_word s types items f vs g now)

by_name : (d : Bool) (now X Y : Instant) {P Q : Type 0} → (((p : Place) → now p ≡ X p) → P) → (((p : Place) → now p ≡ Y p) → Q) → ((p : Place) → now p ≡ (if d then X else Y) p) → MatchBool d P Q
by_name true now X Y f g m = f m
by_name false now X Y f g m = g m

held_row : (ds : List Decl) (types : List TypeDecl) (N : Nodes) (free i : Instant) → ((q : Place) → i q ≡ in_row (map alone (given_to types real N ds free)) q) → row_of ds i ≡ given_to types real N ds free
held_row [] types N free i h = refl
held_row (d ∷ ds) types N free i h = ap₂ (λ v vs. v ∷ vs) (h (Head ∷ [])) (held_row ds types N (part Tail free) (part Tail i) (λ q. h (Tail ∷ q)))

each_of_all : (Q : Placed → Type 0) (ps : List Placed) → All Q (filter (λ c. is_call c.point.kind) ps) → EachCall Q ps
each_of_all Q [] h = tt
each_of_all Q (p ∷ ps) h = let k = by_kind (is_call p.point.kind) h in (k.0, each_of_all Q ps k.1)
  where
    by_kind : (d : Bool) → All Q (if d then p ∷ filter (λ c. is_call c.point.kind) ps else filter (λ c. is_call c.point.kind) ps) → (IsTrue d → Q p) × All Q (filter (λ c. is_call c.point.kind) ps)
    by_kind true h = ((λ e. All-head Q p _ h), All-tail Q p _ h)
    by_kind false h = ((λ e. absurd (not_so e)), h)
      where
        not_so : IsTrue false → ⊥
        not_so e = absurd (cc)

by_both : (d : Bool) (now X Y X' Y' : Instant) {C D : Type 0} → (((p : Place) → now p ≡ X p) → C → (p : Place) → now p ≡ X' p) → (((p : Place) → now p ≡ Y p) → D → (p : Place) → now p ≡ Y' p) → ((p : Place) → now p ≡ (if d then X else Y) p) → MatchBool d C D → (p : Place) → now p ≡ (if d then X' else Y') p
by_both true now X Y X' Y' f g m c = f m c
by_both false now X Y X' Y' f g m c = g m c

module _ (program : List Item) (s : Strategy) (is : IsStrategy program s) where
  -- of a node that chooses so
  module _ (N : Nodes) (n : Node) (vs : List Value) (past : Past) (now : Instant) where
    abbrev kinds : List TypeDecl
    kinds = types_of program

    abbrev choice : Choice
    choice = s n (erase past) (row_of n.inputs (in_row (map alone vs))) now

    abbrev Chooses : Type 0
    Chooses = Fixed (node kinds real N n vs (given past (steered_by nothing (at_controls choice)))) now

    as_chosen : given_to kinds real N (controls_of n.contract) (at_controls choice) ≡ choice
    as_chosen = given_row (controls_of n.contract) kinds N choice (is.one_each n (erase past) (row_of n.inputs (in_row (map alone vs))) now)

    held_controls : Chooses → (q : Place) → now (Controls ∷ q) ≡ at_controls choice q
    held_controls met q = met (Controls ∷ q) ∙ ap (λ vs. in_row (map alone vs) q) as_chosen

    same_controls : Chooses → (other : Instant) → Own (steered_by nothing (at_controls choice)) other now → given_to kinds real N (controls_of n.contract) (at_controls choice) ≡ given_to kinds real N (controls_of n.contract) (part Controls other)
    same_controls met other h = same_given (controls_of n.contract) kinds N (at_controls choice) (part Controls other) (λ q. sym (h (Controls ∷ q) ∙ held_controls met q))

    follows : Chooses → Follows s n (erase past) (row_of n.inputs (part Inputs now)) now (controls_at n now)
    follows met =
        row_given (controls_of n.contract) kinds N (part Controls now)
        ∙ same_given (controls_of n.contract) kinds N (part Controls now) (at_controls choice) (held_controls met)
        ∙ as_chosen
        ∙ ap (λ ws. s n (erase past) ws now) (row_same n.inputs (in_row (map alone vs)) (part Inputs now) (λ q. sym (met (Inputs ∷ q))))

  steered_real : (items : List Item) → AgreeWhere Own (steered s (types_of program) items).instant (nodes (types_of program) real items).instant
  steered_real [] f vs past free other now h met p = refl
  steered_real (TypeItem t ∷ items) f vs past free other now h met p = steered_real items f vs past free other now h met p
  steered_real (NodeItem n ∷ items) f vs past free other now h met p =
      let types = types_of program in
      let N = steered s types items in
      let M = nodes types real items in
      pick (bytes_eq n.name f)
      (λ i. node types real N n vs (given past (steered_by nothing (at_controls (choice N n vs past i)))) i)
      (node types real M n vs (given past other))
      (N.instant f vs (given past free)) (M.instant f vs (given past other)) now
      (λ met p.
      node_swap_given types real N.outputs Own own_parts (λ o free other now v w q a b c. refl) (λ free other now q. refl) Own (λ free other now q. own_parts Instance free other now q)
      N.instant M.instant (steered_real items) n vs past (steered_by nothing (at_controls (choice N n vs past now))) other now h
      (same_controls N n vs past now met other h) met p
      ∙ ap (λ os. node types real (with_instances os M.instant) n vs (given past other) now p) (fun_ext (outputs_alike s types items)))
      (steered_real items f vs past free other now h) met p

  real_reaction : (f : List ℕ) (inputs : List (List Value)) (frees : List Instant) (past : Past) → ReactionOf (steered_meaning s program f) inputs frees past → Reaction program f inputs past past
  real_reaction f [] [] [] r = tt
  real_reaction f [] [] (now ∷ past) r = absurd r
  real_reaction f [] (free ∷ frees) past r = absurd r
  real_reaction f (vs ∷ inputs) [] past r = absurd r
  real_reaction f (vs ∷ inputs) (free ∷ frees) [] r = absurd r
  real_reaction f (vs ∷ inputs) (free ∷ frees) (now ∷ past) r =
      (real_reaction f inputs frees past r.0, λ p. r.1 p ∙ steered_real (reverse program) f vs past free now now (λ p. refl) r.1 p)

  -- ---- each instance that is there chooses so

  controlled : (items : List Item) → ContractsCallNothing items → (f : List ℕ) (vs : List Value) (past : Past) (free now : Instant) → Fixed ((steered s (types_of program) items).instant f vs (given past free)) now → Controlled (Follows s) items f past now
  controlled [] r f vs past free now met = tt
  controlled (TypeItem t ∷ items) r f vs past free now met = controlled items r f vs past free now met
  controlled (NodeItem n ∷ items) r f vs past free now met =
      let types = types_of program in
      let N = steered s types items in
      by_name (bytes_eq n.name f) now (node types real N n vs (given past (steered_by nothing (at_controls (choice N n vs past now)))) now) (N.instant f vs (given past free) now)
      (λ m. (
        follows N n vs past now m,
        λ i d b t.
            let h = (calls_held types N (steered_word s types items) n r.0 vs past (steered_by nothing (at_controls (choice N n vs past now))) now m i d b).holds_it t in
            controlled items r.1 _ h.0 _ h.1 _ h.2,
      ))
      (controlled items r.1 f vs past free now) met

  controlled_throughout : ContractsCallNothing program → (f : List ℕ) (inputs : List (List Value)) (frees : List Instant) (past : Past) → ReactionOf (steered_meaning s program f) inputs frees past → ControlledThroughout (Follows s) (reverse program) f past
  controlled_throughout k f [] [] [] r = tt
  controlled_throughout k f [] [] (now ∷ past) r = absurd r
  controlled_throughout k f [] (free ∷ frees) past r = absurd r
  controlled_throughout k f (vs ∷ inputs) [] past r = absurd r
  controlled_throughout k f (vs ∷ inputs) (free ∷ frees) [] r = absurd r
  controlled_throughout k f (vs ∷ inputs) (free ∷ frees) (now ∷ past) r =
      (controlled_throughout k f inputs frees past r.0, controlled (reverse program) (nothing_called_reverse program k) f vs past free now r.1)

  -- ---- A reaction in which each instance that is there chooses so is this one.

  abbrev Any : Instant → Instant → Instant → Type 0
  Any free other now = ⊤

  steered_still : (items : List Item) → AgreeWhere Any (steered s (types_of program) items).instant (steered s (types_of program) items).instant
  steered_still [] f vs past free other now h met p = refl
  steered_still (TypeItem t ∷ items) f vs past free other now h met p = steered_still items f vs past free other now h met p
  steered_still (NodeItem n ∷ items) f vs past free other now h met p =
      let N = steered s (types_of program) items in
      let F : Instant → Instant = λ i. node (types_of program) real N n vs (given past (steered_by nothing (at_controls (choice N n vs past i)))) i in
      pick (bytes_eq n.name f) F F (N.instant f vs (given past free)) (N.instant f vs (given past other)) now (λ met p. refl) (steered_still items f vs past free other now h) met p

  -- A node that is not there holds nothing, in both.
  absent_too : (items : List Item) (f : List ℕ) (vs : List Value) (g : Given) (i : Instant) → (nodes (types_of program) real items).instant f vs g i (Fresh ∷ []) ≡ Absent → (p : Place) → (nodes (types_of program) real items).instant f vs g i p ≡ (steered s (types_of program) items).instant f vs g i p
  absent_too [] f vs g i e p = refl
  absent_too (TypeItem t ∷ items) f vs g i e p = absent_too items f vs g i e p
  absent_too (NodeItem n ∷ items) f vs g i e p =
      by_test (bytes_eq n.name f) (node (types_of program) real (nodes (types_of program) real items) n vs g i) ((nodes (types_of program) real items).instant f vs g i)
      (node (types_of program) real (steered s (types_of program) items) n vs (record { past = g.past; free = steered_by nothing (at_controls (choice (steered s (types_of program) items) n vs g.past i)) }) i)
      ((steered s (types_of program) items).instant f vs g i) refl (λ e. absent_too items f vs g i e p) e
    where
      by_test : (d : Bool) (X Y X' Y' : Instant) → X (Fresh ∷ []) ≡ B false → (Y (Fresh ∷ []) ≡ Absent → Y p ≡ Y' p) → (if d then X else Y) (Fresh ∷ []) ≡ Absent → (if d then X else Y) p ≡ (if d then X' else Y') p
      by_test true X Y X' Y' h k e = absurd (not_absent (sym h ∙ e))
        where
          not_absent : B false ≡ Absent → ⊥
          not_absent e = absurd (cc)
      by_test false X Y X' Y' h k e = k e

  module _ (n : Node) (items : List Item) (below_so : (f : List ℕ) (vs : List Value) (past : Past) (free i : Instant) → Fixed ((nodes (types_of program) real items).instant f vs (given past free)) i → Controlled (Follows s) items f past i → Fixed ((steered s (types_of program) items).instant f vs (given past free)) i) (vs : List Value) (past : Past) (free now : Instant) (met : Fixed (node (types_of program) real (nodes (types_of program) real items) n vs (given past free)) now) where
    abbrev Before : Nodes
    Before = nodes (types_of program) real items

    abbrev After : Nodes
    After = steered s (types_of program) items

    -- what is known of each call
    abbrev Known : Placed → Type 0
    Known c = IsTrue (is_there (instance_at c now (Fresh ∷ []))) → Controlled (Follows s) items c.point.name (own_past (c.place ++ (Instance ∷ [])) past now) (instance_at c now)

    agree : AgreeAt (types_of program) real Before.outputs Before.instant After.instant Known past now
    agree f sp w past' free' now' ws known read met' p = by_word (word_of (types_of program) items f ws (given (own (parts Instance past')) (part Instance free')) (part Instance now'))
      where
        at : (q : Place) → now (w [] ++ (Instance ∷ q)) ≡ now' (Instance ∷ q)
        at q = ap now (sym (read.way (Instance ∷ q))) ∙ sym (read.seen (Instance ∷ q))

        by_word : Word (Before.instant f ws (given (own (parts Instance past')) (part Instance free')) (part Instance now')) → (Before.instant f ws (given (own (parts Instance past')) (part Instance free')) (part Instance now')) p ≡ After.instant f ws (given (own (parts Instance past')) (part Instance free')) (part Instance now') p
        by_word (inr a) = absent_too items f ws (given (own (parts Instance past')) (part Instance free')) (part Instance now') (a (Fresh ∷ [])) p
        by_word (inl b) =
            let fresh : now' (Instance ∷ Fresh ∷ []) ≡ B false = met' (Fresh ∷ []) ∙ b in
            let deeper = anew (types_of program) real Before.outputs Before.instant After.instant Known past now Instance false w past' now' read fresh in
            let own_is : own_past (w [] ++ (Instance ∷ [])) past now ≡ own (parts Instance past') = ap (λ z. own_past z past now) (sym (read.way (Instance ∷ []))) ∙ deeper.read in
            let so = known (ap is_there (at (Fresh ∷ []) ∙ fresh)) in
            let here = subst (λ q. Controlled (Follows s) items f q (part Instance now')) own_is (subst (λ (i : Instant). Controlled (Follows s) items f (own_past (w [] ++ (Instance ∷ [])) past now) i) (fun_ext at) so) in
            sym (met' p) ∙ below_so f ws (own (parts Instance past')) (part Instance free') (part Instance now') met' here p

    node_chooses : Follows s n (erase past) (row_of n.inputs (part Inputs now)) now (controls_at n now) → All Known (calls_of n) → Fixed (node (types_of program) real After n vs (given past (steered_by nothing (at_controls (choice After n vs past now))))) now
    node_chooses follows calls p =
        let cs = controls_of n.contract in
        let types = types_of program in
        let c = choice After n vs past now in
        let root : Read types real Before.outputs Before.instant After.instant Known past now (λ p. p) past now = record { way = λ p. refl; seen = λ p. refl; read = refl } in
        let known = node_known types real Before.outputs Before.instant After.instant Known past now agree n vs past free now root (each_of_all Known (points n) calls) met in
        let met_after : Fixed (node types real After n vs (given past free)) now =
        λ p. met p ∙ known p ∙ ap (λ os. node types real (with_instances os After.instant) n vs (given past free) now p) (fun_ext (λ f. sym (outputs_alike s types items f))) in
        let same : given_to types real After cs (part Controls free) ≡ given_to types real After cs (at_controls c) =
        sym (held_row cs types After (part Controls free) (part Controls now) (λ q. met (Controls ∷ q)))
        ∙ follows
        ∙ ap (λ us. s n (erase past) us now) (row_same n.inputs (part Inputs now) (in_row (map alone vs)) (λ q. met (Inputs ∷ q)))
        ∙ sym (as_chosen After n vs past now) in
        met_after p
        ∙ node_swap_given types real After.outputs Any (λ t free other now q. tt) (λ o free other now v w q a b c. refl) (λ free other now q. refl) Any (λ free other now q. tt)
        After.instant After.instant (steered_still items) n vs past free (steered_by nothing (at_controls c)) now tt same met_after p

  chooses : (items : List Item) (f : List ℕ) (vs : List Value) (past : Past) (free i : Instant) → Fixed ((nodes (types_of program) real items).instant f vs (given past free)) i → Controlled (Follows s) items f past i → Fixed ((steered s (types_of program) items).instant f vs (given past free)) i
  chooses [] f vs past free now met so = met
  chooses (TypeItem t ∷ items) f vs past free now met so = chooses items f vs past free now met so
  chooses (NodeItem n ∷ items) f vs past free now met so =
      by_both (bytes_eq n.name f) now (node (types_of program) real (nodes (types_of program) real items) n vs (given past free) now) ((nodes (types_of program) real items).instant f vs (given past free) now)
      (node (types_of program) real (steered s (types_of program) items) n vs (given past (steered_by nothing (at_controls (choice (steered s (types_of program) items) n vs past now)))) now)
      ((steered s (types_of program) items).instant f vs (given past free) now)
      (λ m so. node_chooses n items (chooses items) vs past free now m so.0 so.1)
      (chooses items f vs past free now) met so

  all_chosen : (f : List ℕ) (inputs : List (List Value)) (frees : List Instant) (past : Past) → Reaction program f inputs frees past → ControlledThroughout (Follows s) (reverse program) f past → ReactionOf (steered_meaning s program f) inputs frees past
  all_chosen f [] [] [] r so = tt
  all_chosen f [] [] (now ∷ past) r so = absurd r
  all_chosen f [] (free ∷ frees) past r so = absurd r
  all_chosen f (vs ∷ inputs) [] past r so = absurd r
  all_chosen f (vs ∷ inputs) (free ∷ frees) [] r so = absurd r
  all_chosen f (vs ∷ inputs) (free ∷ frees) (now ∷ past) r so = (all_chosen f inputs frees past r.0 so.0, chooses (reverse program) f vs past free now r.1 so.1)

pub steered_law : SteeredLaw
steered_law program s f inputs frees past k is r = (real_reaction program s is f inputs frees past r, controlled_throughout program s is k f inputs frees past r)

pub chosen_law : ChosenReactionLaw
chosen_law program s f inputs frees past is r so = all_chosen program s is f inputs frees past r so

-- ---- exactly one

blanks : List (List Value) → List Instant
blanks [] = []
blanks (vs ∷ inputs) = nothing ∷ blanks inputs

as_many : (inputs : List (List Value)) → length (blanks inputs) ≡ length inputs
unfolding blanks
as_many [] = refl
as_many (vs ∷ inputs) = ap suc (as_many inputs)

blanked : (program : List Item) (s : Strategy) (is : IsStrategy program s) (f : List ℕ) (inputs : List (List Value)) (frees : List Instant) (past : Past) → ReactionOf (steered_meaning s program f) inputs frees past → ReactionOf (steered_meaning s program f) inputs (blanks inputs) past
unfolding blanks
blanked program s is f [] [] [] r = tt
blanked program s is f [] [] (now ∷ past) r = absurd r
blanked program s is f [] (free ∷ frees) past r = absurd r
blanked program s is f (vs ∷ inputs) [] past r = absurd r
blanked program s is f (vs ∷ inputs) (free ∷ frees) [] r = absurd r
blanked program s is f (vs ∷ inputs) (free ∷ frees) (now ∷ past) r =
    (blanked program s is f inputs frees past r.0, λ p. r.1 p ∙ steered_still program s is (reverse program) f vs past free nothing now tt r.1 p)

pub one_reaction_by : OneReactionByLaw
one_reaction_by program s f inputs r k c is =
    let one = one_steered program s f inputs (blanks inputs) r k is (as_many inputs) in
    let so = steered_law program s f inputs (blanks inputs) one.past c is one.is_one in
    record {
      past = one.past;
      is_one = (one.past, so.0, so.1);
      only = λ past h. one.only past (blanked program s is f inputs h.0 past (chosen_law program s f inputs h.0 past is h.1 h.2));
    }
