-- A walk over a contract is one over its observer, and what it finds there are the comparisons that bring the contract's free places.
use Rattle.std.proofs.Common.{◌≡◌, inl, inr, ℕ, ◌+◌, List, [], ◌∷◌, ◌++◌, map, refl, sym, ap, ap₂, subst, ◌∙◌}
use Rattle.std.proofs.lemmas.List.{append-nil, append_assoc, map-append}
use Rattle.std.specs.Prelude.{⊤, Option, None, Some}
use Rattle.hp_base.specs.declared.span.Span.{Span}
use Rattle.hp_base.specs.declared.ty.Ty.TheVariants as ty
use Rattle.hp_tree.specs.Expressions.{Expr}
use Rattle.hp_tree.specs.ExpressionTypes.{Scope, scope_of}
use Rattle.hp_tree.specs.Blocks.{Decl, Block, block, Eqns, no_eqn, more_eqns, Eqn, eqns_of, list_of_eqns}
use Rattle.hp_tree.specs.Programs.{TypeDecl, Contract, Node}
use Rattle.hp_tree.specs.Instant.{Body, Observer, Assume, Enforce, Named, Equations, Head, Tail, Right, Place, Instant, part}
use Rattle.hp_tree.specs.Reaction.{Each}
use Rattle.hp_meaning.specs.Contract.Slots.{FreePlace, Slot}
use Rattle.law_automata.specs.Lowered.Standing.{Along}
use Rattle.law_drawing.proofs.SteeredLemmas.NothingCalled.{contract_none}
use Rattle.law_drawing.proofs.SteeredLemmas.Uncalled.{ContractCallsNothing}
use Rattle.law_equations.specs.Flattened.Flatten.{Prefix, below}
use Rattle.law_judged.specs.Named.Scoped.{equations_of}
use Rattle.hp_watch.specs.Observing.{all_handed_on, condition_of, declared, lines_of, with_lines}
use Rattle.hp_watch.specs.Walk.{behind, walk, walk_block, walk_condition, walk_eqn, walk_eqns}
use Rattle.law_choices.specs.Adding.Worked.{nowhere}
use Rattle.law_choices.specs.Depending.Contracts.{at_assumed, at_enforced, behind_all, found_in_contract, found_told, in_observer}
use Rattle.law_choices.specs.Embedded.Found.{ContractFoundLaw, ContractWalkLaw, IsSeenBeside}
use Rattle.law_choices.specs.Embedded.Observed.{IsObserved, SameEqns, SameTold, behind_eqns, eqns_in}
use Rattle.law_choices.specs.Places.Found.{Both, found_in_block, found_in_eqn, found_in_eqns}
use Rattle.law_choices.specs.Places.Groups.{AreAlike, IsGroupOf, groups_of_block, groups_of_contract, groups_of_told}
use Rattle.law_choices.specs.Places.Laws.{places_of}
use Rattle.law_choices.specs.Places.Spots.{Spot, compared, called}
use Rattle.law_choices.proofs.BroughtLemmas.Alone.{found-alone}
use Rattle.law_choices.proofs.DependingLemmas.ContractPlaces.{block-moved, expr-moved, found-moved, moved_pair, moved_spot}
use Rattle.law_choices.proofs.PlacesLemmas.Grouped.{block-grouped, contract-grouped, contract-row, expr-grouped}
use Rattle.law_choices.proofs.PlacesLemmas.Related.{All, all-both, eqn-hidden, expr-related}
use Rattle.law_choices.proofs.PlacesLemmas.Relating.{along-both}

-- ---- the walk

module _ {X : Type 0} where
  walked_behind : (es : Eqns) (more : List Eqn) (xs : List X) → walk_eqns (eqns_of (list_of_eqns es ++ more)) xs ≡ behind (walk_eqns es xs).0 (walk_eqns (eqns_of more) (walk_eqns es xs).1)
  walked_behind no_eqn more xs = refl
  walked_behind (more_eqns e es) more xs =
      let x = walk_eqn e xs in
      let y = walk_eqns es x.1 in
      let z = walk_eqns (eqns_of more) y.1 in
      ap (behind x.0) (walked_behind es more x.1) ∙ ap (λ (zs : List X). (zs, z.1)) (sym (append_assoc x.0 y.0 z.0))

  handed_walked : (i : ℕ) (os : List Decl) (xs : List X) → walk_eqns (eqns_of (all_handed_on i os)) xs ≡ ([], xs)
  handed_walked i [] xs = refl
  handed_walked i (d ∷ os) xs = ap (behind []) (handed_walked (i + 1) os xs)

  condition_walked : (o : Option Expr) (s : Span) (xs : List X) → walk (condition_of o s) xs ≡ walk_condition o xs
  condition_walked None s xs = refl
  condition_walked (Some e) s xs = refl

  last_walked : (n : Node) (c : Contract) (ys : List X) → behind (walk (condition_of c.enforce c.span) ys).0 (walk_eqns (eqns_of (all_handed_on 0 n.outputs)) (walk (condition_of c.enforce c.span) ys).1) ≡ walk_condition c.enforce ys
  last_walked n c ys =
      let e = walk (condition_of c.enforce c.span) ys in
      ap (behind e.0) (handed_walked 0 n.outputs e.1) ∙ ap (λ (zs : List X). (zs, e.1)) (append-nil e.0) ∙ condition_walked c.enforce c.span ys

  lines_walked : (n : Node) (c : Contract) (xs : List X) → walk_eqns (eqns_of (lines_of n c)) xs ≡ behind (walk_condition c.assume xs).0 (walk_condition c.enforce (walk_condition c.assume xs).1)
  lines_walked n c xs =
      let a = walk (condition_of c.assume c.span) xs in
      ap (behind a.0) (last_walked n c a.1) ∙ ap (λ (x : List X × List X). behind x.0 (walk_condition c.enforce x.1)) (condition_walked c.assume c.span xs)

  block_walked : (n : Node) (c : Contract) (b : Block) (xs : List X)
      → behind ((walk_block b xs).0 ++ (walk_condition c.assume (walk_block b xs).1).0) (walk_condition c.enforce (walk_condition c.assume (walk_block b xs).1).1) ≡ walk_block (with_lines b n.outputs (lines_of n c)) xs
  block_walked n c (block ds es) xs =
      let x = walk_eqns es xs in
      let a = walk_condition c.assume x.1 in
      let z = walk_condition c.enforce a.1 in
      ap (λ (zs : List X). (zs, z.1)) (append_assoc x.0 a.0 z.0) ∙ sym (walked_behind es (lines_of n c) xs ∙ ap (behind x.0) (lines_walked n c x.1))

pub contract_walk_law : ContractWalkLaw
contract_walk_law n c es = block_walked n c c.body es

-- ---- nothing is called

abbrev Compares : Spot → Type 0
Compares (compared o p) = ⊤
Compares (called f ps) = ⊥

-- a declaration of no other use
abbrev some_decl : Decl
some_decl = declared [] ty.Bool nowhere

abbrev anywhere : Prefix → Type 0
anywhere w = ⊤

module _ (types : List TypeDecl) (callee : List ℕ → Prefix → List Slot) where
  abbrev Of : (List ℕ → List Decl) → Spot × Spot → List FreePlace → Type 0
  Of outs s g = IsGroupOf types outs callee anywhere s.0 g × AreAlike s.0 s.1

  -- A call that has no outputs, whatever nodes give, and one where these give some, is none.
  is_comparison : (t : Spot) (g h : List FreePlace) → IsGroupOf types (λ f. []) callee anywhere t g → IsGroupOf types (λ f. some_decl ∷ []) callee anywhere t h → Compares t
  is_comparison (compared o p) g h k l = tt
  is_comparison (called f ps) g h k l = let e : [] ≡ l.0 (Named some_decl.name ∷ []) ∷ [] = sym k.2 ∙ l.2 in absurd cc

  all_compare : (fs : Both) (gs hs : List (List FreePlace)) → Along (Of (λ f. [])) fs gs → Along (Of (λ f. some_decl ∷ [])) fs hs → Each (λ (s : Spot × Spot). Compares s.0) fs
  all_compare [] gs hs k l = tt
  all_compare (s ∷ fs) [] hs k l = absurd k
  all_compare (s ∷ fs) (g ∷ gs) [] k l = absurd l
  all_compare (s ∷ fs) (g ∷ gs) (h ∷ hs) k l = (is_comparison s.0 g h k.0.0 l.0.0, all_compare fs gs hs k.1 l.1)

  pub contract_compares : (outputs : List ℕ → List (List ℕ)) (c : Contract) (names : Scope) → ContractCallsNothing (Some c) → Each (λ (s : Spot × Spot). Compares s.0) (found_in_contract outputs c)
  contract_compares outputs c names quiet =
      let none : List ℕ → List Decl = λ f. [] in
      let some : List ℕ → List Decl = λ f. some_decl ∷ [] in
      let first = (contract-grouped types none callee anywhere (λ t w h. tt) c names tt tt tt).0 in
      let second = (contract-grouped types some callee anywhere (λ t w h. tt) c names tt tt tt).0 in
      all_compare (found_in_contract outputs c) (groups_of_contract types none callee c names (λ p. p)) (groups_of_contract types some callee c names (λ p. p))
      (subst (λ fs. Along (Of none) fs (groups_of_contract types none callee c names (λ p. p))) (found-alone (λ f. []) outputs c quiet) first)
      (subst (λ fs. Along (Of some) fs (groups_of_contract types some callee c names (λ p. p))) (found-alone (λ f. [] ∷ []) outputs c quiet) second)

-- ---- a place of the contract holds what stands for it in the observer

behind_at : (es : Eqns) (i : Instant) (p : Place) → behind_eqns es i p ≡ i (behind_all es p)
behind_at no_eqn i p = refl
behind_at (more_eqns e es) i p = behind_at es (part Tail i) p

module _ (outputs : List ℕ → List (List ℕ)) (g : Place → Place) (now observing : Instant) where
  abbrev Held : Place → Place → Type 0
  Held p q = now p ≡ observing (g p)

  eqns_held : (es : Eqns) (w here : Prefix) (i j : Instant) → ((p : Place) → now (w p) ≡ i p) → ((p : Place) → observing (g (w p)) ≡ j p) → SameEqns es i j → All outputs Held (found_in_eqns outputs es w here)
  eqns_held no_eqn w here i j a b same = tt
  eqns_held (more_eqns e es) w here i j a b same =
      all-both outputs Held (found_in_eqn outputs e (below Head w) (below Head here)) (found_in_eqns outputs es (below Tail w) (below Tail here))
      (eqn-hidden outputs Held e (below Head w) (below Head here) (λ p q. a (Head ∷ p) ∙ same.0 p ∙ sym (b (Head ∷ p))))
      (eqns_held es (below Tail w) (below Tail here) (part Tail i) (part Tail j) (λ p. a (Tail ∷ p)) (λ p. b (Tail ∷ p)) same.1)

  told_held : (o : Option Expr) (w here : Prefix) (i j : Instant) → ((p : Place) → now (w p) ≡ i p) → ((p : Place) → observing (g (w p)) ≡ j (Head ∷ Right ∷ p)) → SameTold o i j → All outputs Held (found_told outputs o w here)
  told_held None w here i j a b same = tt
  told_held (Some e) w here i j a b same = expr-related outputs Held e w here (λ p. a p ∙ same p ∙ sym (b p))

module _ (outputs : List ℕ → List (List ℕ)) (c : Contract) (now observing : Instant) (o : IsObserved c now observing) where
  abbrev stands_at : Place → Place
  stands_at = in_observer c.body

  block_held : (b : Block) → SameEqns (eqns_in b) (part Equations (part Observer now)) (part Equations (part Body observing)) → All outputs (Held outputs stands_at now observing) (found_in_block outputs b (λ p. Observer ∷ p) (λ p. Body ∷ p))
  block_held (block ds es) same = eqns_held outputs stands_at now observing es (λ p. Observer ∷ Equations ∷ p) (λ p. Body ∷ Equations ∷ p) (part Equations (part Observer now)) (part Equations (part Body observing)) (λ p. refl) (λ p. refl) same

  same_eqns : (b : Block) → eqns_in b ≡ equations_of b
  same_eqns (block ds es) = refl

  contract_held : All outputs (Held outputs stands_at now observing) (found_in_contract outputs c)
  contract_held =
      let R = Held outputs stands_at now observing in
      let es = eqns_in c.body in
      let j = part Equations (part Body observing) in
      let at : (p : Place) → observing (Body ∷ Equations ∷ behind_all (equations_of c.body) p) ≡ behind_eqns es j p =
      (λ p. ap (λ fs. observing (Body ∷ Equations ∷ behind_all fs p)) (sym (same_eqns c.body)) ∙ sym (behind_at es j p)) in
      let B = found_in_block outputs c.body (λ p. Observer ∷ p) (λ p. Body ∷ p) in
      let A = found_told outputs c.assume (λ p. Assume ∷ p) (at_assumed c.body) in
      let E = found_told outputs c.enforce (λ p. Enforce ∷ p) (at_enforced c.body) in
      all-both outputs R B (A ++ E) (block_held c.body o.body)
      (all-both outputs R A E
      (told_held outputs stands_at now observing c.assume (λ p. Assume ∷ p) (at_assumed c.body) (part Assume now) (behind_eqns es j) (λ p. refl) (λ p. at (Head ∷ Right ∷ p)) o.assume)
      (told_held outputs stands_at now observing c.enforce (λ p. Enforce ∷ p) (at_enforced c.body) (part Enforce now) (part Tail (behind_eqns es j)) (λ p. refl) (λ p. at (Tail ∷ Head ∷ Right ∷ p)) o.enforce))

-- ---- the law

module _ (types : List TypeDecl) (outs : List ℕ → List Decl) (callee : List ℕ → Prefix → List Slot) (w : Prefix) where
  abbrev names_of : List ℕ → List (List ℕ)
  names_of f = map (λ (d : Decl). d.name) (outs f)

  abbrev Brings : Spot × Spot → List FreePlace → Type 0
  Brings s g = IsGroupOf types outs callee anywhere s.0 g × AreAlike s.0 s.1

  joined : (xs ys vs ws : Both) → xs ≡ map (moved_pair w) vs → ys ≡ map (moved_pair w) ws → xs ++ ys ≡ map (moved_pair w) (vs ++ ws)
  joined xs ys vs ws e h = ap₂ (λ a b. a ++ b) e h ∙ sym (map-append (moved_pair w) vs ws)

  told_moved : (o : Option Expr) (v here : Prefix) → found_told names_of o (λ p. w (v p)) here ≡ map (moved_pair w) (found_told names_of o v here)
  told_moved None v here = refl
  told_moved (Some e) v here = expr-moved names_of w e v here

  told_brings : (o : Option Expr) (names : Scope) (v here : Prefix) → Along Brings (found_told names_of o v here) (groups_of_told types outs callee o names v)
  told_brings None names v here = tt
  told_brings (Some e) names v here = (expr-grouped types outs callee anywhere (λ t v h. tt) e names v here tt).0

  -- what is found in the contract brings its groups, below the prefix
  contract_brings : (c : Contract) (names : Scope) → Along Brings (map (moved_pair w) (found_in_contract names_of c)) (groups_of_contract types outs callee c names w)
  contract_brings c names =
      let inside = scope_of c.body names in
      let B : Prefix → Both = λ v. found_in_block names_of c.body (below Observer v) (λ p. Body ∷ p) in
      let A : Prefix → Both = λ v. found_told names_of c.assume (below Assume v) (at_assumed c.body) in
      let E : Prefix → Both = λ v. found_told names_of c.enforce (below Enforce v) (at_enforced c.body) in
      let gb = groups_of_block types outs callee c.body names (below Observer w) in
      let ga = groups_of_told types outs callee c.assume inside (below Assume w) in
      let ge = groups_of_told types outs callee c.enforce inside (below Enforce w) in
      let moved : B w ++ (A w ++ E w) ≡ map (moved_pair w) (found_in_contract names_of c) =
      joined (B w) (A w ++ E w) (B (λ p. p)) (A (λ p. p) ++ E (λ p. p)) (block-moved names_of w c.body (λ p. Observer ∷ p) (λ p. Body ∷ p))
      (joined (A w) (E w) (A (λ p. p)) (E (λ p. p)) (told_moved c.assume (λ p. Assume ∷ p) (at_assumed c.body)) (told_moved c.enforce (λ p. Enforce ∷ p) (at_enforced c.body))) in
      subst (λ fs. Along Brings fs (gb ++ (ga ++ ge))) moved
      (along-both Brings (B w) (A w ++ E w) gb (ga ++ ge) (block-grouped types outs callee anywhere (λ t v h. tt) c.body names (below Observer w) (λ p. Body ∷ p) tt).0
      (along-both Brings (A w) (E w) ga ge (told_brings c.assume inside (below Assume w) (at_assumed c.body)) (told_brings c.enforce inside (below Enforce w) (at_enforced c.body))))

  module _ (g : Place → Place) (now observing : Instant) where
    one_seen : (s t : Spot) (fs : List FreePlace) → Compares s → Along (λ (p q : Place). now p ≡ observing (g p)) (places_of s) (places_of t) → IsGroupOf types outs callee anywhere (moved_spot w s) fs → IsSeenBeside w now observing (moved_spot g s) fs
    one_seen (compared o p) t fs is h (inl e) = inl e
    one_seen (compared o p) t fs is h (inr e) = inr (p, e, first (places_of t) h)
      where
        first : (qs : List Place) → Along (λ (p q : Place). now p ≡ observing (g p)) (p ∷ []) qs → now p ≡ observing (g p)
        first [] k = absurd k
        first (q ∷ qs) k = k.0
    one_seen (called f ps) t fs is h k = absurd is

    all_seen : (fs : Both) (gs : List (List FreePlace)) → Each (λ (s : Spot × Spot). Compares s.0) fs → All names_of (λ (p q : Place). now p ≡ observing (g p)) fs → Along Brings (map (moved_pair w) fs) gs
        → Along (λ (s : Spot × Spot) (hs : List FreePlace). IsSeenBeside w now observing s.0 hs) (map (moved_pair g) fs) gs
    all_seen [] [] is h k = tt
    all_seen [] (hs ∷ gs) is h k = absurd k
    all_seen (s ∷ fs) [] is h k = absurd k
    all_seen (s ∷ fs) (hs ∷ gs) is h k = (one_seen s.0 s.1 hs is.0 h.0 k.0.0, all_seen fs gs is.1 h.1 k.1)

pub contract_found_law : ContractFoundLaw
contract_found_law outputs types outs callee n c names w now observing none o =
    let given : List ℕ → List (List ℕ) = λ f. map (λ (d : Decl). d.name) (outs f) in
    let quiet = contract_none (Some c) (λ p. p) none in
    let Seen : Spot × Spot → List FreePlace → Type 0 = λ s g. IsSeenBeside w now observing s.0 g in (
      subst (λ fs. Along Seen fs (groups_of_contract types outs callee c names w)) (sym (found-moved outputs n c ∙ ap (map (moved_pair (in_observer c.body))) (found-alone outputs given c quiet)))
          (all_seen types outs callee w (in_observer c.body) now observing (found_in_contract given c) (groups_of_contract types outs callee c names w)
          (contract_compares types callee given c names quiet) (contract_held given c now observing o) (contract_brings types outs callee w c names)),
      contract-row types outs callee c names w,
    )
