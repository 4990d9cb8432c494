-- A ranked program has exactly one reaction.
use Rattle.std.proofs.Common.{◌≡◌, ℕ, ◌++◌, List, [], ◌∷◌, length, refl, sym, ap, ◌∙◌, arith}
use Rattle.std.proofs.Math.Path.{fun_ext}
use Rattle.std.specs.Prelude.{Bool, true, false, if◌then◌else◌, drop, reverse}
use Rattle.std.specs.Str.{bytes_eq}
use Rattle.hp_base.specs.declared.value.Value.{Value}
use Rattle.hp_tree.specs.declared.program.Item.{Item}
use Rattle.hp_tree.specs.declared.program.Item.TheVariants.{TypeItem, NodeItem}
use Rattle.hp_tree.specs.Programs.{TypeDecl, Node}
use Rattle.hp_tree.specs.Operators.{Reading, real, filled}
use Rattle.hp_tree.specs.Filled.{with_firsts}
use Rattle.hp_tree.specs.Instant.{Instant, Past, Given, nothing}
use Rattle.hp_tree.specs.Meaning.{Nodes, node, nodes, types_of, meaning}
use Rattle.hp_meaning.specs.Causal.Causality.{Ranked, IsRanked}
use Rattle.hp_meaning.specs.Causal.OneReaction.{OneInstant, Said, ReactionOf, SamePasts, OneReactionOf, InstantLaw, FilledLaw, ReactionLaw, ReactionLawRead, PrefixLaw}
use Rattle.hp_meaning.proofs.CausalLemmas.Fix.{Fixed, one}
use Rattle.hp_meaning.proofs.CausalLemmas.Solved.{Solved, by}
use Rattle.hp_meaning.proofs.CausalLemmas.NodesAgree.{ranked_with_contract, ranked_below, node_local}
use Rattle.hp_meaning.proofs.CausalLemmas.Swap.{Instances, Agree, node_swap}

-- Each node has one instant after each past, for each list of inputs and all that is given.
abbrev pub AllOne : Instances → Type 0
AllOne n = (f : List ℕ) (inputs : List Value) (g : Given) → OneInstant (n f inputs g)

pub solved : (n : Instances) → AllOne n → Solved
solved n all f inputs g = (all f inputs g).now

pub none_one : OneInstant (λ i. nothing)
none_one = record { now = nothing; meets = λ p. refl; only = λ i h. h }

pub one_of : (d : Bool) (F G : Instant → Instant) → OneInstant F → OneInstant G → OneInstant (λ i. if d then F i else G i)
one_of true F G a b = a
one_of false F G a b = b

abbrev looking_nowhere : Solved → Instances
looking_nowhere S f inputs g now = S f inputs g

to_solved : (n : Instances) (all : AllOne n) → Agree n (looking_nowhere (solved n all))
unfolding solved
to_solved n all f inputs g i h p = sym (h p) ∙ (all f inputs g).only i h p

from_solved : (n : Instances) (all : AllOne n) → Agree (looking_nowhere (solved n all)) n
unfolding solved
from_solved n all f inputs g i h p =
    let e : i ≡ (all f inputs g).now = fun_ext h in
    (all f inputs g).meets p ∙ ap (λ t. n f inputs g t p) (sym e)

module _ (types : List TypeDecl) (R : Reading) where
  pub as_solved : (N : Nodes) (all : AllOne N.instant) (n : Node) (inputs : List Value) (g : Given) (i : Instant) → Fixed (node types R N n inputs g) i → Fixed (node types R (by N.outputs (solved N.instant all)) n inputs g) i
  as_solved N all n inputs g i h q = h q ∙ node_swap types R N.outputs N.instant (looking_nowhere (solved N.instant all)) (to_solved N.instant all) n inputs g i h q

  -- a node has one instant where the nodes that it calls have one
  pub node_one : (N : Nodes) → AllOne N.instant → (n : Node) → Ranked n → (inputs : List Value) (g : Given) → OneInstant (node types R N n inputs g)
  node_one N all n o inputs g =
      let S = solved N.instant all in
      let u = one (node types R (by N.outputs S) n inputs g) (ranked_with_contract o.rank o.bound) _ (ranked_below o.rank o.bound o.bounded) (node_local types R N.outputs S n o inputs g) in
      record {
        now = u.now;
        meets = λ p. u.meets p ∙ node_swap types R N.outputs (looking_nowhere S) N.instant (from_solved N.instant all) n inputs g u.now u.meets p;
        only = λ i h p. u.only i (as_solved N all n inputs g i h) p;
      }

  pub nodes_one : (items : List Item) → IsRanked items → AllOne (nodes types R items).instant
  nodes_one [] r f inputs g = none_one
  nodes_one (TypeItem t ∷ items) r f inputs g = nodes_one items r f inputs g
  nodes_one (NodeItem n ∷ items) r f inputs g =
      one_of (bytes_eq n.name f) (node types R (nodes types R items) n inputs g) ((nodes types R items).instant f inputs g)
      (node_one (nodes types R items) (nodes_one items r.1) n r.0 inputs g) (nodes_one items r.1 f inputs g)

-- the order of its items does not matter to ranks
abbrev pub onto : List Item → List Item → List Item
onto [] ys = ys
onto (x ∷ xs) ys = onto xs (x ∷ ys)

ranked_onto : (xs ys : List Item) → IsRanked xs → IsRanked ys → IsRanked (onto xs ys)
ranked_onto [] ys r s = s
ranked_onto (TypeItem t ∷ xs) ys r s = ranked_onto xs (TypeItem t ∷ ys) r s
ranked_onto (NodeItem n ∷ xs) ys r s = ranked_onto xs (NodeItem n ∷ ys) r.1 (r.0, s)

pub ranked_reverse : (program : List Item) → IsRanked program → IsRanked (reverse program)
ranked_reverse program r = ranked_onto program [] r tt

pub one_instant : InstantLaw
one_instant R program f inputs g r = nodes_one (types_of program) R (reverse program) (ranked_reverse program r) f inputs g

pub one_filled : FilledLaw
one_filled program f inputs g r = one_instant filled program f inputs (record { past = g.past; free = with_firsts program f g.free }) r

-- ---- reactions

pub same_pasts : (p q : Past) → SamePasts p q → p ≡ q
same_pasts [] [] s = refl
same_pasts [] (j ∷ q) s = absurd s
same_pasts (i ∷ p) [] s = absurd s
same_pasts (i ∷ p) (j ∷ q) s = λ d. fun_ext s.0 d ∷ same_pasts p q s.1 d

module _ (said : Said) (all : (inputs : List Value) (g : Given) → OneInstant (said inputs g)) where
  pub only_reaction : (inputs : List (List Value)) (frees : List Instant) (p q : Past) → ReactionOf said inputs frees p → ReactionOf said inputs frees q → SamePasts p q
  only_reaction [] [] [] [] r t = tt
  only_reaction [] [] [] (j ∷ q) r t = absurd t
  only_reaction [] [] (i ∷ p) q r t = absurd r
  only_reaction [] (free ∷ frees) p q r t = absurd r
  only_reaction (vs ∷ inputs) [] p q r t = absurd r
  only_reaction (vs ∷ inputs) (free ∷ frees) [] q r t = absurd r
  only_reaction (vs ∷ inputs) (free ∷ frees) (i ∷ p) [] r t = absurd t
  only_reaction (vs ∷ inputs) (free ∷ frees) (i ∷ p) (j ∷ q) r t =
      let e = only_reaction inputs frees p q r.0 t.0 in
      let h : Fixed (said vs (record { past = p; free = free })) j = λ s. t.1 s ∙ ap (λ d. said vs (record { past = d; free = free }) j s) (sym (same_pasts p q e)) in
      let a = all vs (record { past = p; free = free }) in
      ((λ s. a.only i r.1 s ∙ sym (a.only j h s)), e)

  some_reaction : (inputs : List (List Value)) (frees : List Instant) → length frees ≡ length inputs → (p : Past) × ReactionOf said inputs frees p
  some_reaction [] [] e = ([], tt)
  some_reaction [] (free ∷ frees) e = absurd (omega arith)
  some_reaction (vs ∷ inputs) [] e = absurd (omega arith)
  some_reaction (vs ∷ inputs) (free ∷ frees) e =
      let (p, r) = some_reaction inputs frees (omega arith) in
      let a = all vs (record { past = p; free = free }) in
      (a.now ∷ p, (r, a.meets))

  pub reaction_one : (inputs : List (List Value)) (frees : List Instant) → length frees ≡ length inputs → OneReactionOf (ReactionOf said inputs frees)
  reaction_one inputs frees e =
      let r = some_reaction inputs frees e in
      record { past = r.0; is_one = r.1; only = λ q t. only_reaction inputs frees q r.0 t r.1 }

  pub begins : (later inputs : List (List Value)) (later_frees frees : List Instant) (p q : Past) → length later_frees ≡ length later → ReactionOf said (later ++ inputs) (later_frees ++ frees) p → ReactionOf said inputs frees q → SamePasts (drop (length later) p) q
  begins [] inputs [] frees p q e r t = only_reaction inputs frees p q r t
  begins [] inputs (free ∷ later_frees) frees p q e r t = absurd (omega arith)
  begins (vs ∷ later) inputs [] frees p q e r t = absurd (omega arith)
  begins (vs ∷ later) inputs (free ∷ later_frees) frees [] q e r t = absurd r
  begins (vs ∷ later) inputs (free ∷ later_frees) frees (i ∷ p) q e r t = begins later inputs later_frees frees p q (omega arith) r.0 t

pub one_reaction_read : ReactionLawRead
one_reaction_read R program f inputs frees r e = reaction_one (meaning R program f) (λ vs g. one_instant R program f vs g r) inputs frees e

pub one_reaction : ReactionLaw
one_reaction program f inputs frees r e = reaction_one (meaning real program f) (λ vs g. one_instant real program f vs g r) inputs frees e

pub begins_so : PrefixLaw
begins_so program f later inputs later_frees frees past other r e s t = begins (meaning real program f) (λ vs g. one_instant real program f vs g r) later inputs later_frees frees past other e s t
